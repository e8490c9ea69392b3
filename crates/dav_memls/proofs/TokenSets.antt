-- Tokens put in order, one after the other.
use Rattle.std.proofs.Common.{◌≡◌, ◌∙◌, ◌<◌, ◌+◌, ℕ, Bool, true, false, cond, ◌||◌, List, Bor, refl, sym, ap, length, take, get_or, bytes_eq, nat_cmp}
use Rattle.std.proofs.lemmas.List.Folds.{list_any_more}
use Rattle.std.proofs.lemmas.Map.Text.{is_eq-slice_cmp}
use Rattle.std.specs.BTreeSet.{BTreeSet, contains_by, Updates}
use Rattle.std.specs.Cmp.Lexicographic.{slice_cmp}
use Rattle.std.specs.List.{list_any}
use Rattle.dav_memls.specs.Tokens.{HasTokens}
use Rattle.dav_memls.proofs.Reached.{bytes_eq-sym}

either : (b c : Bool) → cond b true c ≡ (c || b)
either b c = elim b as (λ b. cond b true c ≡ (c || b)) [ true ↦ sym (or_true c) | false ↦ sym (or_false c) ]
  where
    or_true : (c : Bool) → (c || true) ≡ true
    or_true true = refl
    or_true false = refl

    or_false : (c : Bool) → (c || false) ≡ c
    or_false true = refl
    or_false false = refl

-- with one more of the tokens
pub has_more : (old new : BTreeSet (Bor (List ℕ))) (tokens : List (List ℕ)) (i : ℕ) (item : List ℕ) (text : Bor (List ℕ)) → i < length tokens → item ≡ get_or tokens i item → text.now ≡ item → HasTokens (take i tokens) old → Updates (λ x y. slice_cmp nat_cmp x.now y.now) old new text true → HasTokens (take (i + 1) tokens) new
has_more old new tokens i item text inside is same has updates token =
    updates.0 (record { ref_ptr = (0, 0); now = token })
    ∙ ap (λ b. cond b true (contains_by (λ k. slice_cmp nat_cmp token k.now) old)) (is_eq-slice_cmp text.now token ∙ bytes_eq-sym text.now token)
    ∙ either (bytes_eq token text.now) (contains_by (λ k. slice_cmp nat_cmp token k.now) old)
    ∙ ap (λ b. b || bytes_eq token text.now) (has token)
    ∙ ap (λ t. list_any (bytes_eq token) (take i tokens) || bytes_eq token t) (same ∙ is)
    ∙ sym (list_any_more (bytes_eq token) tokens i item inside)
