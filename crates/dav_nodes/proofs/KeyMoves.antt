-- The map in which what was at or below one key is at or below another.
use Rattle.std.proofs.Common.{◌≡◌, ◌≢◌, Bool, true, false, cond, List, [], ◌∷◌, ◌++◌, Option, Some, None, refl, sym, ap, ◌∙◌}
use Rattle.std.specs.Bool.{one_answer}
use Rattle.std.specs.Ordering.{eq_by_cmp}
use Rattle.std.specs.FinMap.{FinMap, get, find, from_entries, entries, get-entries, get-from_entries}
use Rattle.std.proofs.lemmas.Bool.{false_from_ne_true}
use Rattle.dav_key.specs.Key.{Key, key_cmp, key_cmp_total, tied_decides}
use Rattle.dav_key.specs.Below.{is_at_or_below, AreApart, IsMoved}
use Rattle.dav_nodes.proofs.BelowKeys.{strip, not_below, apart_below, strip_is, strip_none, same_below}

untied : (a b : Key) → a ≢ b → eq_by_cmp key_cmp a b ≡ false
untied a b apart = false_from_ne_true (eq_by_cmp key_cmp a b) (λ e. apart ((tied_decides a b).0 e))

-- two tests of equal meaning
same_tests : (a b c d : Key) → (a ≡ b → c ≡ d) → (c ≡ d → a ≡ b) → eq_by_cmp key_cmp a b ≡ eq_by_cmp key_cmp c d
same_tests a b c d to fro =
    one_answer (eq_by_cmp key_cmp a b) (eq_by_cmp key_cmp c d) (tied_decides a b) (λ e. fro ((tied_decides c d).0 e), λ e. (tied_decides c d).1 (to e))

left_none : {X : Type 0} (b : Bool) (x : X) (o : Option X) → cond b (Some x) o ≡ None → (b ≡ false) × (o ≡ None)
left_none true x o e = absurd cc
left_none false x o e = (refl, e)

module _ (from to : Key) where
  -- where a key goes
  rekeyed : Key → Option Key → Key
  rekeyed key None = key
  rekeyed key (Some below) = to ++ below

  rekey : Key → Key
  rekey key = rekeyed key (strip from key)

  rekey_entries : {X : Type 0} → List (Key × X) → List (Key × X)
  rekey_entries [] = []
  rekey_entries (e ∷ es) = (rekey e.0, e.1) ∷ rekey_entries es

  module _ (apart : AreApart from to) where
    -- the tests of one entry
    test_moved : (key below : Key) (o : Option Key) → strip from key ≡ o → key ≢ to ++ below → eq_by_cmp key_cmp (to ++ below) (rekeyed key o) ≡ eq_by_cmp key_cmp (from ++ below) key
    unfolding rekeyed
    test_moved key below None none out =
        same_tests (to ++ below) key (from ++ below) key (λ e. absurd (out (sym e))) (λ e. absurd (strip_none from key below none (sym e)))
    test_moved key below (Some x) is out =
        same_tests (to ++ below) (to ++ x) (from ++ below) key
        (λ e. ap (λ k. from ++ k) (same_below to below x e) ∙ sym (strip_is from key x is))
        (λ e. ap (λ k. to ++ k) (same_below from below x (e ∙ strip_is from key x is)))

    test_gone : (key below : Key) (o : Option Key) → strip from key ≡ o → eq_by_cmp key_cmp (from ++ below) (rekeyed key o) ≡ false
    unfolding rekeyed
    test_gone key below None none = untied (from ++ below) key (λ e. strip_none from key below none (sym e))
    test_gone key below (Some x) is = untied (from ++ below) (to ++ x) (apart_below from to below x apart)

    test_rest : (q key : Key) (o : Option Key) → strip from key ≡ o → is_at_or_below q from ≡ false → is_at_or_below q to ≡ false → eq_by_cmp key_cmp q (rekeyed key o) ≡ eq_by_cmp key_cmp q key
    unfolding rekeyed
    test_rest q key None none not_from not_to = refl
    test_rest q key (Some x) is not_from not_to =
        untied q (to ++ x) (not_below to q x not_to) ∙ sym (untied q key (λ e. not_below from q x not_from (e ∙ strip_is from key x is)))

    -- what is found after the move
    find_moved : {X : Type 0} (es : List (Key × X)) → ((below : Key) → find key_cmp (to ++ below) es ≡ None) → (below : Key) → find key_cmp (to ++ below) (rekey_entries es) ≡ find key_cmp (from ++ below) es
    unfolding rekey_entries rekey
    find_moved [] free below = refl
    find_moved (e ∷ es) free below =
        let not_here = λ (k : Key). left_none (eq_by_cmp key_cmp (to ++ k) e.0) e.1 (find key_cmp (to ++ k) es) (free k) in
        let test = test_moved e.0 below (strip from e.0) refl (λ is. absurd (let both : true ≡ false = sym ((tied_decides (to ++ below) e.0).1 (sym is)) ∙ (not_here below).0 in cc)) in
        let rest = find_moved es (λ k. (not_here k).1) below in
        λ i. cond (test i) (Some e.1) (rest i)

    find_gone : {X : Type 0} (es : List (Key × X)) (below : Key) → find key_cmp (from ++ below) (rekey_entries es) ≡ None
    unfolding rekey_entries rekey
    find_gone [] below = refl
    find_gone (e ∷ es) below = ap (λ b. cond b (Some e.1) (find key_cmp (from ++ below) (rekey_entries es))) (test_gone e.0 below (strip from e.0) refl) ∙ find_gone es below

    find_rest : {X : Type 0} (es : List (Key × X)) (q : Key) → is_at_or_below q from ≡ false → is_at_or_below q to ≡ false → find key_cmp q (rekey_entries es) ≡ find key_cmp q es
    unfolding rekey_entries rekey
    find_rest [] q not_from not_to = refl
    find_rest (e ∷ es) q not_from not_to =
        let rest = find_rest es q not_from not_to in
        λ i. cond (test_rest q e.0 (strip from e.0) refl not_from not_to i) (Some e.1) (rest i)

    -- the moved map
    pub moved_map : {X : Type 0} → FinMap key_cmp X → FinMap key_cmp X
    moved_map m = from_entries (rekey_entries (entries m))

    pub is_moved : {X : Type 0} (m : FinMap key_cmp X) → ((below : Key) → get m (to ++ below) ≡ None) → IsMoved from to m (moved_map m)
    unfolding moved_map
    is_moved m free = record {
      moved = λ below.
          get-from_entries key_cmp_total (rekey_entries (entries m)) (to ++ below)
          ∙ find_moved (entries m) (λ k. sym (get-entries m (to ++ k)) ∙ free k) below ∙ sym (get-entries m (from ++ below));
      gone = λ below. get-from_entries key_cmp_total (rekey_entries (entries m)) (from ++ below) ∙ find_gone (entries m) below;
      rest = λ key not_from not_to.
          get-from_entries key_cmp_total (rekey_entries (entries m)) key ∙ find_rest (entries m) key not_from not_to ∙ sym (get-entries m key);
    }
