use Rattle.std.proofs.Common.{◌≡◌, ◌∙◌, ◌++◌, ◌∷◌, [], subst, sym, string_bytes, rules}
use Rattle.dav_key.specs.Flat.{IsFlatSegment}
use Rattle.dav_nodes.proofs.Listings.{push_last, flat_init}
use Rattle.dav_nodes.proofs.nodes.listing.push_members.Goals as goal

pub child-requires : goal.child-requires
child-requires c =
    subst IsFlatSegment (sym c.as_str.ensures.value)
    (flat_init c.loop-name.left c.next_back.new.self c.in-Some.name.now c.in-Some.number.now c.in-Some.ensures.steps c.loop-name.invariant.flat).1

pub loop-name-preserved : goal.loop-name-preserved
loop-name-preserved c =
    let pushed : c.push.new.self.items ≡ c.loop-name.pending.items ++ (c.args.key.now ++ string_bytes c.in-Some.name.now ∷ [], c.in-Some.number.now) ∷ [] = search rules in
    record {
      flat = (flat_init c.loop-name.left c.next_back.new.self c.in-Some.name.now c.in-Some.number.now c.in-Some.ensures.steps c.loop-name.invariant.flat).0;
      pushed =
          push_last c.args.key.now c.loop-name.left c.next_back.new.self c.in-Some.name.now c.in-Some.number.now c.loop-name.pending.items c.push.new.self.items c.in-Some.ensures.steps pushed
          ∙ c.loop-name.invariant.pushed;
    }
