use Rattle.std.proofs.Common.{◌≡◌, ◌∙◌, ◌++◌, ◌∷◌, [], sym, ap, subst, Some, None, is_some}
use Rattle.std.proofs.lemmas.Map.Views.{All-keys-insert_entry}
use Rattle.std.proofs.lemmas.Result.{err_from_is_err_and}
use Rattle.std.specs.Map.{keys_of}
use Rattle.std.specs.Rc.{rc_str_bytes}
use Rattle.dav_key.specs.Key.{is_same_key}
use Rattle.dav_key.specs.Flat.{segments_of, IsFlatText}
use Rattle.dav_memls.specs.Numbers.{IsAbove}
use Rattle.dav_memls.specs.KeyEntries.{own_text, own_cmp, numbers_in, AreFlat, IsTidy}
use Rattle.dav_memls.specs.ByKey.{only_if}
use Rattle.dav_memls.proofs.ByKeys.{got, joined, kept, found_some, pushed_some, entered_some, from_either, some_tidy, tidy_set}
use Rattle.dav_memls.proofs.memory_locks.by_key.ByKey.join.Goals as goal

pub push-requires : goal.push-requires
push-requires c = subst (IsAbove c.args.number) (sym (got (rc_str_bytes c.args.key.now) c.args.self.now.map.entries (Some c.in-Some.numbers.now) c.requires.flat c.in-Some.ensures.value)) c.requires.above

pub push-requires-2 : goal.push-requires-2
push-requires-2 c = subst (IsAbove c.args.number) (sym c.new-numbers.ensures) tt

pub invariant_of-self : goal.invariant_of-self
invariant_of-self c =
    let text = rc_str_bytes c.args.key.now in
    let entries = c.args.self.now.map.entries in
    let w = c.push.new.self in
    let written = c.get_mut.follows.holds w in
    let u = written.3 (ap is_some (sym c.in-Some.ensures.value)) in
    let had = found_some text entries c.in-Some.numbers.now c.requires.flat c.args.self.now.tidy c.in-Some.ensures.value in
    let has = entered_some c.push.result c.in-Some.numbers.now.set.keys w.set.keys c.args.number had c.push.ensures.ok c.push.ensures.err in
    record {
      tidy = tidy_set text entries (c.get_mut.follows.lender w).entries (Some w) c.requires.flat (λ k _. c.args.self.now.tidy k) (some_tidy w has) u.1 u.3;
      flat = subst AreFlat (sym written.1) c.args.self.now.flat;
    }

pub invariant_of-self-2 : goal.invariant_of-self-2
invariant_of-self-2 c =
    let text = rc_str_bytes c.in_ok-key.key in
    let copied : text ≡ rc_str_bytes c.args.key.now = c.in_ok-key.ensures.cases in
    let is : IsFlatText text = subst IsFlatText (sym copied) c.requires.flat in
    let m = c.get_mut.follows.lender-at-none in
    let w = c.push-2.new.self in
    let was : IsTidy m.entries = subst IsTidy (sym (ap (λ n. n.entries) c.get_mut.follows.holds-at-none)) c.args.self.now.tidy in
    let were : AreFlat (keys_of m.entries) = subst (λ es. AreFlat (keys_of es)) (sym (ap (λ n. n.entries) c.get_mut.follows.holds-at-none)) c.args.self.now.flat in
    let has = some_tidy w (λ e. pushed_some _ c.args.number (sym c.in_ok-push-2.ensures.ok ∙ e)) in
    record {
      tidy = from_either c.insert.result _ _ (IsTidy c.insert.new.self.entries) c.insert.ensures.updates c.insert.ensures.err (λ u. tidy_set text m.entries c.insert.new.self.entries (Some w) is (λ k _. was k) has u.1 u.3) (λ same. subst IsTidy (sym same) was);
      flat = from_either c.insert.result _ _ (AreFlat (keys_of c.insert.new.self.entries)) c.insert.ensures.entries c.insert.ensures.err
          (λ grown. subst (λ es. AreFlat (keys_of es)) (sym grown) (All-keys-insert_entry own_cmp c.in_ok-key.key w (λ own. IsFlatText (own_text own)) m.entries were is))
          (λ same. subst (λ es. AreFlat (keys_of es)) (sym same) were);
    }

pub returns-in_err-push-clause-err : goal.returns-in_err-push-clause-err
returns-in_err-push-clause-err c =
    let text = rc_str_bytes c.args.key.now in
    let entries = c.args.self.now.map.entries in
    let w = c.push.new.self in
    let u = (c.get_mut.follows.holds w).3 (ap is_some (sym c.in-Some.ensures.value)) in
    let p = err_from_is_err_and c.from_residual.result c.from_residual.ensures.1 in
    rw p.1 (kept text c.requires.flat entries (c.get_mut.follows.lender w).entries (Some w) (c.in_err-push.ensures.err ∙ got text entries (Some c.in-Some.numbers.now) c.requires.flat c.in-Some.ensures.value) u.1 u.3)

pub returns-in-Some-clause-ok : goal.returns-in-Some-clause-ok
returns-in-Some-clause-ok c =
    let text = rc_str_bytes c.args.key.now in
    let entries = c.args.self.now.map.entries in
    let w = c.push.new.self in
    let u = (c.get_mut.follows.holds w).3 (ap is_some (sym c.in-Some.ensures.value)) in
    joined text c.requires.flat entries (c.get_mut.follows.lender w).entries w c.args.number (c.in_ok-push.ensures.ok ∙ ap (λ xs. xs ++ c.args.number ∷ []) (got text entries (Some c.in-Some.numbers.now) c.requires.flat c.in-Some.ensures.value)) u.1 u.3

pub returns : goal.returns
returns c =
    let given = rc_str_bytes c.args.key.now in
    let text = rc_str_bytes c.in_ok-key.key in
    let copied : text ≡ given = c.in_ok-key.ensures.cases in
    let is : IsFlatText text = subst IsFlatText (sym copied) c.requires.flat in
    let found = got given c.args.self.now.map.entries None c.requires.flat c.in_default.ensures.value in
    let m = c.get_mut.follows.lender-at-none in
    let u = c.in_ok-insert.ensures.updates in
    record {
      ok = λ k.
          joined text is m.entries c.insert.new.self.entries c.push-2.new.self c.args.number
          (c.in_ok-push-2.ensures.ok ∙ ap (λ xs. xs ++ c.args.number ∷ []) (c.new-numbers.ensures ∙ found ∙ ap (λ t. numbers_in c.args.self.now.map.entries (segments_of t)) (sym copied) ∙ ap (λ n. numbers_in n.entries (segments_of text)) (sym c.get_mut.follows.holds-at-none))) u.1 u.3 k
          ∙ ap (λ t. numbers_in m.entries k ++ only_if (is_same_key k (segments_of t)) c.args.number) copied
          ∙ ap (λ n. numbers_in n.entries k ++ only_if (is_same_key k (segments_of given)) c.args.number) c.get_mut.follows.holds-at-none;
      err = tt;
    }
