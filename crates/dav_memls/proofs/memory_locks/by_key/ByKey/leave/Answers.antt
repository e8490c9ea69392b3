use Rattle.std.proofs.Common.{◌∙◌, sym, ap, subst, Some, None, is_some}
use Rattle.std.proofs.lemmas.Map.Views.{All-map-remove_entry}
use Rattle.std.specs.BTreeMap.{is_at}
use Rattle.std.specs.Cmp.Lexicographic.{slice_cmp}
use Rattle.std.specs.Map.{keys_of}
use Rattle.std.specs.Ordering.{nat_cmp}
use Rattle.std.specs.Rc.{rc_str_bytes}
use Rattle.dav_key.specs.Flat.{IsFlatText}
use Rattle.dav_memls.specs.Numbers.{without}
use Rattle.dav_memls.specs.KeyEntries.{OwnKey, own_text, numbers_in, AreFlat}
use Rattle.dav_memls.proofs.ByKeys.{got, kept, left, left_none, not_empty, none_tidy, some_tidy, tidy_set, tidy_elsewhere}
use Rattle.dav_memls.proofs.memory_locks.by_key.ByKey.leave.Goals as goal

pub returns-in_default : goal.returns-in_default
returns-in_default c = λ k. ap (λ m. numbers_in m.entries k) c.get_mut.follows.holds-at-none ∙ left_none (rc_str_bytes c.args.key.now) c.requires c.args.self.now.map.entries c.args.number c.in_default.ensures.value k

pub invariant_of-self-then-is_empty : goal.invariant_of-self-then-is_empty
invariant_of-self-then-is_empty c =
    let text = rc_str_bytes c.args.key.now in
    let written = c.get_mut.follows.holds c.remove.new.self in
    let mid = (c.get_mut.follows.lender c.remove.new.self).entries in
    let u = written.3 (ap is_some (sym c.in-Some.ensures.value)) in
    let gone = c.remove-then-is_empty.ensures.updates in
    record {
      tidy = tidy_set text mid c.remove-then-is_empty.new.self.entries None c.requires (tidy_elsewhere text c.args.self.now.map.entries mid c.args.self.now.tidy u.3) none_tidy gone.1 gone.3;
      flat = subst (λ es. AreFlat (keys_of es)) (sym c.remove-then-is_empty.ensures.entries)
          (All-map-remove_entry (is_at (λ (own : OwnKey). slice_cmp nat_cmp text (own_text own))) (λ e. e.0) (λ own. IsFlatText (own_text own)) mid (subst AreFlat (sym written.1) c.args.self.now.flat));
    }

pub invariant_of-self-else-is_empty : goal.invariant_of-self-else-is_empty
invariant_of-self-else-is_empty c =
    let entries = c.args.self.now.map.entries in
    let w = c.remove.new.self in
    let written = c.get_mut.follows.holds w in
    let u = written.3 (ap is_some (sym c.in-Some.ensures.value)) in
    let has = not_empty w.set.keys c.is_empty.result c.is_empty.ensures c.if-is_empty.false in
    record {
      tidy = tidy_set (rc_str_bytes c.args.key.now) entries (c.get_mut.follows.lender w).entries (Some w) c.requires (λ k _. c.args.self.now.tidy k) (some_tidy w has) u.1 u.3;
      flat = subst AreFlat (sym written.1) c.args.self.now.flat;
    }

pub returns-then-is_empty : goal.returns-then-is_empty
returns-then-is_empty c =
    let text = rc_str_bytes c.args.key.now in
    let entries = c.args.self.now.map.entries in
    let w = c.remove.new.self in
    let mid = (c.get_mut.follows.lender w).entries in
    let u = (c.get_mut.follows.holds w).3 (ap is_some (sym c.in-Some.ensures.value)) in
    let gone = c.remove-then-is_empty.ensures.updates in
    let none = c.is_empty.ensures.0 c.if-is_empty.true in
    λ k.
    kept text c.requires mid c.remove-then-is_empty.new.self.entries None (sym (sym (got text mid (Some w) c.requires (sym u.1)) ∙ none)) gone.1 gone.3 k
    ∙ left text c.requires entries mid (Some w) c.args.number (c.remove.ensures ∙ ap (without c.args.number) (got text entries (Some c.in-Some.numbers.now) c.requires c.in-Some.ensures.value)) u.1 u.3 k

pub returns-else-is_empty : goal.returns-else-is_empty
returns-else-is_empty c =
    let text = rc_str_bytes c.args.key.now in
    let entries = c.args.self.now.map.entries in
    let w = c.remove.new.self in
    let u = (c.get_mut.follows.holds w).3 (ap is_some (sym c.in-Some.ensures.value)) in
    left text c.requires entries (c.get_mut.follows.lender w).entries (Some w) c.args.number (c.remove.ensures ∙ ap (without c.args.number) (got text entries (Some c.in-Some.numbers.now) c.requires c.in-Some.ensures.value)) u.1 u.3
