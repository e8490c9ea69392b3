use Rattle.std.proofs.Common.{◌≡◌, ◌∙◌, ◌++◌, ◌∷◌, [], List, ℕ, sym, ap, subst}
use Rattle.dav_tree.specs.declared.entry.Entry.{Entry}
use Rattle.dav_tree.specs.MemoryCalls.{IsListing}
use Rattle.dav_tree.specs.Kept.{Kept}
use Rattle.dav_tree.proofs.Listings.{IsMemberAt, all-at, listed, listed-more, left-more, none-left, IsEntryOf}
use Rattle.std.specs.List.{AllZip}
use Rattle.dav_tree.proofs.entries.Entries.list.Goals as goal

pub meta-requires : goal.meta-requires
meta-requires g c =
    let f = c.self.inside in
    let inv = c.loop-name.invariant in
    let left = ap (λ (es : List (List ℕ × Entry g.row.M-Body.Denot)). inv.done ++ es) (sym c.in-Some.ensures.steps) ∙ inv.left in
    c.self.invariant.0.held _ c.in-Some.entry.now
    (all-at (IsMemberAt f.tree.nodes.values c.args.directory.now) inv.done c.next.new.self inv.all (c.in-Some.name.now, c.in-Some.entry.now) left inv.values)

pub loop-name-preserved : goal.loop-name-preserved
loop-name-preserved g c =
    let f = c.self.inside in
    let inv = c.loop-name.invariant in
    let left = ap (λ (es : List (List ℕ × Entry g.row.M-Body.Denot)). inv.done ++ es) (sym c.in-Some.ensures.steps) ∙ inv.left in
    record {
      all = inv.all;
      names = inv.names;
      values = inv.values;
      done = inv.done ++ (c.in-Some.name.now, c.in-Some.entry.now) ∷ [];
      shown = listed-more c.args.tag_part (g.M.Medium.bytes f.medium) inv.done c.loop-name.listing.items c.push.new.self.items (c.in-Some.name.now, c.in-Some.entry.now) (record { name = c.from_string-name.result; meta = c.in_ok-meta.meta }) inv.shown
          (c.from_string-name.ensures ∙ c.in_ok-to_string.ensures.ok) c.in_ok-meta.ensures c.in_ok-push.ensures.items;
      left = left-more inv.done c.next.new.self inv.all (c.in-Some.name.now, c.in-Some.entry.now) left;
    }

pub returns : goal.returns
returns g c =
    let f = c.self.inside in
    let inv = c.loop-name.invariant in
    let all : inv.done ≡ inv.all = none-left inv.done inv.all (ap (λ (es : List (List ℕ × Entry g.row.M-Body.Denot)). inv.done ++ es) (sym c.in-None.ensures.steps.0) ∙ inv.left) in
    subst (λ (k : Kept). IsListing c.args.tag_part c.args.directory.now k.resources c.loop-name.listing.items) c.self.view_is
    (listed (g.M.Medium.bytes f.medium) f.tree.nodes c.args.directory.now c.args.tag_part inv.all c.loop-name.listing.items inv.names inv.values
    (subst (λ (ms : List (List ℕ × Entry g.row.M-Body.Denot)). AllZip (IsEntryOf c.args.tag_part (g.M.Medium.bytes f.medium)) ms c.loop-name.listing.items) all inv.shown))
