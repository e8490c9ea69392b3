use Rattle.std.proofs.Common.{◌∙◌, ◌++◌, ◌∷◌, [], map, ap, sym, subst, List, length, Bor, arith, rules, ℕ}
use Rattle.std.specs.FinMap.{entries}
use Rattle.std.specs.Vec.Iter.{into_iter_items}
use Rattle.dav_key.specs.Key.{Key}
use Rattle.dav_tree.specs.Memory.{IsSound, Stored}
use Rattle.dav_tree.specs.Kept.{Kept}
use Rattle.dav_tree.specs.Entry.{stored_by}
use Rattle.dav_key.specs.EachLaws.{with_values, entries-each-some}
use Rattle.dav_tree.specs.declared.entry.Entry.{Entry}
use Rattle.dav_tree.proofs.Dumps.{flat-keys, seen-entries, kept_key, copied_next, copied_more, copied_all, no_items}
use Rattle.dav_tree.proofs.entries.listing.Entries+InMemory.dump.Goals as goal

abbrev Files : Type 0
Files = Entry (List ℕ)

abbrev stored : Files → Stored
stored e = stored_by (λ body. body) e

abbrev seen_all : List (Key × Bor Files) → List (Key × Stored)
seen_all xs = map (λ e. (e.0, stored e.1.now)) xs

pub entries-requires : goal.entries-requires
entries-requires c =
    flat-keys (λ body. body) c.self.inside.tree.nodes (subst (λ (k : Kept). IsSound k.resources) (sym c.self.view_is) c.requires)

pub loop-key-init : goal.loop-key-init
loop-key-init c = record {
  done = [];
  copied = rw c.new-dumped.ensures.items tt;
  left = ap seen_all c.into_iter-key-iterator.ensures.into_iter_gives.0 ∙ seen-entries stored _ ∙ ap (with_values stored) c.in_ok-items.ensures
      ∙ sym (entries-each-some stored c.self.inside.tree.nodes.values) ∙ ap (λ (k : Kept). entries k.resources) c.self.view_is;
  count = c.into_iter-key-iterator.ensures.into_iter_gives.1 ∙ search rules;
}

pub dump_of-requires : goal.dump_of-requires
dump_of-requires c =
    kept_key c.args.self.now.resources c.loop-key.invariant.done (seen_all (into_iter_items c.next.new.self)) (c.in-Some.key, stored c.in-Some.entry.now) c.requires
    (ap (λ es. c.loop-key.invariant.done ++ seen_all es) (sym c.in-Some.ensures.steps.0) ∙ c.loop-key.invariant.left)

pub loop-key-preserved : goal.loop-key-preserved
loop-key-preserved c = record {
  done = c.loop-key.invariant.done ++ (c.in-Some.key, stored c.in-Some.entry.now) ∷ [];
  copied = copied_more c.loop-key.invariant.done c.loop-key.dumped.items c.push.new.self.items (c.in-Some.key, stored c.in-Some.entry.now) c.in_ok-dump_of.field-0 c.loop-key.invariant.copied c.in_ok-dump_of.ensures c.in_ok-push.ensures.items;
  left = copied_next c.loop-key.invariant.done (seen_all (into_iter_items c.next.new.self)) (entries c.args.self.now.resources) (c.in-Some.key, stored c.in-Some.entry.now)
      (ap (λ es. c.loop-key.invariant.done ++ seen_all es) (sym c.in-Some.ensures.steps.0) ∙ c.loop-key.invariant.left);
  count = omega (arith, c.in-Some.ensures.steps.1, ap length c.in-Some.ensures.steps.0, c.loop-key.invariant.count);
}

pub returns : goal.returns
returns c = copied_all c.args.self.now.resources c.loop-key.invariant.done c.loop-key.dumped.items c.loop-key.invariant.copied
    (ap (λ es. c.loop-key.invariant.done ++ seen_all es) (sym (no_items (into_iter_items c.loop-key.key-iterator) (sym c.loop-key.invariant.count ∙ c.in-None.ensures.steps.0))) ∙ c.loop-key.invariant.left)
