-- Properties that are sought one after the other: what is left to seek, behind what was found.
use Rattle.std.proofs.Common.{◌≡◌, ◌∙◌, ◌++◌, ℕ, List, [], ◌∷◌, Option, Result, Ok, Err, ◌+◌, ◌<◌, ◌≤◌, zero, suc, length, drop, get_or, drop-cons, add-one, arith, refl, sym, ap, subst, append-nil, append_assoc}
use Rattle.std.specs.Result.{IsErrAnd}
use Rattle.dav_resource.specs.Tree.{Tree}
use Rattle.dav_resource.specs.declared.error.DavError.{DavError}
use Rattle.dav_resource.specs.declared.error.DavError.TheVariants.{Memory}
use Rattle.dav_store.specs.Store.{Store, Contents}
use Rattle.dav_messages.specs.Dialogue.{Dialogue, Passed, ◌>>=◌, Judges}
use Rattle.dav_messages.specs.Dialogues.{judges_exit, judges_then, judges_memory, judges_pure}
use Rattle.dav_walks.specs.declared.listing.Resource.{Resource}
use Rattle.dav_find.specs.Asked.{AskedProperty}
use Rattle.dav_find.specs.Grouping.{bind_assoc, bind_same, bind_passed}
use Rattle.dav_find.specs.declared.finding.Found.{Found}
use Rattle.dav_find.specs.Finding.{Finding, View, QuotaAnswer, find_one, find_each, findings_in}

-- ---- what was found

-- what failed is seen as failed
pub failed_alike : (verdict : Result (List Found × Option QuotaAnswer) DavError) (e : DavError) → IsErrAnd verdict (λ d. d ≡ e) → IsErrAnd (findings_in verdict) (λ d. d ≡ e)
failed_alike (Ok found) e is = is
failed_alike (Err d) e is = is

-- ---- what is left

abbrev pub Sought : Type 0
Sought = List Finding × Option QuotaAnswer

module _ (view : View) (contents : Contents) (here : Resource) where
  -- behind these, what is left is sought
  pub left_of : List Finding → List AskedProperty → Option QuotaAnswer → Dialogue Sought
  left_of found asked quota = find_each view contents here asked quota >>= λ others. Passed (found ++ others.0, others.1)

  left-none : (found : List Finding) (quota : Option QuotaAnswer) → left_of found [] quota ≡ Passed (found, quota)
  unfolding left_of find_each ◌>>=◌
  left-none found quota = ap (λ fs. Passed (fs, quota)) (append-nil found)

  left-more : (found : List Finding) (asked : AskedProperty) (more : List AskedProperty) (quota : Option QuotaAnswer)
      → left_of found (asked ∷ more) quota ≡ (find_one view contents here asked.element quota >>= λ one. left_of (found ++ record { asked = asked; value = one.0 } ∷ []) more one.1)
  unfolding left_of find_each ◌>>=◌
  left-more found asked more quota =
      bind_assoc (find_one view contents here asked.element quota) _ _
      ∙ bind_same (find_one view contents here asked.element quota) _ _ (λ one.
      bind_assoc (find_each view contents here more one.1) _ _
      ∙ bind_same (find_each view contents here more one.1) _ _ (λ others. ap (λ fs. Passed (fs, others.1)) (sym (append_assoc found (record { asked = asked; value = one.0 } ∷ []) others.0))))

  pub all_left : (asked : List AskedProperty) (quota : Option QuotaAnswer) (old new : Store) (verdict : Result Sought DavError) → Judges (left_of [] asked quota) old verdict new → Judges (find_each view contents here asked quota) old verdict new
  unfolding left_of
  all_left asked quota old new verdict h = subst (λ (d : Dialogue Sought). Judges d old verdict new) (bind_passed (find_each view contents here asked quota)) h

  pub none_left : (found : List Finding) (quota : Option QuotaAnswer) (store : Store) → Judges (left_of found [] quota) store (Ok (found, quota)) store
  none_left found quota store = subst (λ (d : Dialogue Sought). Judges d store (Ok (found, quota)) store) (sym (left-none found quota)) (judges_pure _ _ _ refl)

  module _ (found : List Finding) (asked : AskedProperty) (more : List AskedProperty) (quota : Option QuotaAnswer) where
    pub one_stops : (old new : Store) (e : DavError) (verdict : Result Sought DavError) → IsErrAnd verdict (λ d. d ≡ e) → Judges (find_one view contents here asked.element quota) old (Err e) new → Judges (left_of found (asked ∷ more) quota) old verdict new
    one_stops old new e verdict is h = subst (λ (d : Dialogue Sought). Judges d old verdict new) (sym (left-more found asked more quota)) (judges_exit _ _ _ _ _ _ is h)

    pub one_more : (old mid new : Store) (one : Result Tree ℕ × Option QuotaAnswer) (verdict : Result Sought DavError) → Judges (find_one view contents here asked.element quota) old (Ok one) mid
        → Judges (left_of (found ++ record { asked = asked; value = one.0 } ∷ []) more one.1) mid verdict new → Judges (left_of found (asked ∷ more) quota) old verdict new
    one_more old mid new one verdict h g = subst (λ (d : Dialogue Sought). Judges d old verdict new) (sym (left-more found asked more quota)) (judges_then _ _ _ _ _ _ _ h g)

    pub one_lost : (old mid : Store) (one : Result Tree ℕ × Option QuotaAnswer) (verdict : Result Sought DavError) → Judges (find_one view contents here asked.element quota) old (Ok one) mid
        → IsErrAnd verdict (λ d. d ≡ Memory) → Judges (left_of found (asked ∷ more) quota) old verdict mid
    one_lost old mid one verdict h is = one_more old mid mid one verdict h (judges_memory _ _ _ is)

-- ---- the list, from a place on

pub drop_here : {X : Type 0} (xs : List X) (i : ℕ) (x : X) → i < length xs → x ≡ get_or xs i x → drop i xs ≡ x ∷ drop (i + 1) xs
drop_here xs i x inside is = drop-cons xs i x inside ∙ ap (λ y. y ∷ drop (suc i) xs) (sym is) ∙ ap (λ j. x ∷ drop j xs) (sym (add-one i))

pub drop_none : {X : Type 0} (xs : List X) (i : ℕ) → length xs ≤ i → drop i xs ≡ []
drop_none [] zero all = refl
drop_none [] (suc i) all = refl
drop_none (x ∷ xs) zero all = absurd (omega arith)
drop_none (x ∷ xs) (suc i) all = drop_none xs i (omega arith)
