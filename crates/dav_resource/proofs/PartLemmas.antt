-- The parts of a string are applied one by one.
use Rattle.std.proofs.Common.{◌≡◌, ◌∙◌, ◌⊎◌, inl, inr, ℕ, suc, ◌<◌, true, ◌==◌, List, [], ◌∷◌, ◌++◌, drop, length, get_or, slice_index, Ok, Err, ap, sym, drop-cons, arith}
use Rattle.std.proofs.Math.Seq.{drop-length}
use Rattle.std.proofs.lemmas.List.{length-append}
use Rattle.std.specs.List.{slice_split}
use Rattle.dav_key.specs.Key.{Key}
use Rattle.dav_resource.specs.declared.error.DavError.{DavError}
use Rattle.dav_resource.specs.PathText.{is_slash, on_ok, enter_part, enter_parts, read_key}

-- a string that begins with a slash is parsed part by part
pub read_key-parts : (text : List ℕ) → true ≡ (slice_index text 0 == 47) → read_key text ≡ enter_parts [] (slice_split is_slash text)
read_key-parts text starts = rw (sym starts)

-- the parts from one on are this part, and then the others
enter_parts-turn : (key parts : Key) (i : ℕ) (part : List ℕ) → i < length parts → part ≡ get_or parts i part → enter_parts key (drop i parts) ≡ on_ok (enter_part key part) (λ next. enter_parts next (drop (suc i) parts))
enter_parts-turn key parts i part inside is =
    ap (enter_parts key) (drop-cons parts i part inside)
    ∙ ap (λ p. on_ok (enter_part key p) (λ next. enter_parts next (drop (suc i) parts))) (sym is)

-- behind the last part the key is the result
pub enter_parts-done : (key parts : Key) (n : ℕ) → n ≡ length parts → enter_parts key (drop n parts) ≡ Ok key
enter_parts-done key parts n e = ap (enter_parts key) (ap (λ m. drop m parts) e ∙ drop-length parts)

module _ {A : Type 0} (key parts : Key) (before : List A) (here : A) (part : List ℕ) (inside : length before < length parts) (is : part ≡ get_or parts (length before) part) where
  -- after a part that was applied, the others lead to the same result
  pub enter_parts-next : (next : Key) → enter_part key part ≡ Ok next → enter_parts next (drop (length (before ++ here ∷ [])) parts) ≡ enter_parts key (drop (length before) parts)
  enter_parts-next next e =
      let one_more : length (before ++ here ∷ []) ≡ suc (length before) = omega (arith, length-append before (here ∷ [])) in
      ap (λ n. enter_parts next (drop n parts)) one_more
      ∙ sym (enter_parts-turn key parts (length before) part inside is ∙ ap (λ r. on_ok r (λ next. enter_parts next (drop (suc (length before)) parts))) e)

  -- the error of a part is the error of the parts from it on
  pub enter_parts-failed : {M : Type 0} (e : DavError) → (enter_part key part ≡ Err e) ⊎ M → (enter_parts key (drop (length before) parts) ≡ Err e) ⊎ M
  enter_parts-failed e (inl fails) =
      inl (enter_parts-turn key parts (length before) part inside is ∙ ap (λ r. on_ok r (λ next. enter_parts next (drop (suc (length before)) parts))) fails)
  enter_parts-failed e (inr memory) = inr memory
