-- A call of a store, as a dialogue that passes on what it returned.
use Rattle.std.proofs.Common.{◌≡◌, ◌∙◌, ℕ, false, [], ◌∷◌, Option, None, Some, Result, Ok, Err, inl, inr, refl, sym, ap, subst, append-nil}
use Rattle.dav_resource.specs.Tree.{Tree}
use Rattle.dav_resource.specs.declared.error.DavError.{DavError}
use Rattle.dav_resource.specs.declared.error.DavError.TheVariants as dav
use Rattle.dav_resource.specs.declared.error.FsError.{FsError}
use Rattle.dav_resource.specs.declared.record.Outcome.{Outcome}
use Rattle.dav_resource.specs.declared.record.Outcome.TheVariants.{Granted, Barred, Refused}
use Rattle.dav_store.specs.Calls.{Call, Answers, Grants, Declines, error_of, record_of}
use Rattle.dav_store.specs.Store.{Store, Contents}
use Rattle.dav_messages.specs.Dialogue.{Asks, Passed, Judges}
use Rattle.dav_messages.specs.Dialogues.{judges_pure}
use Rattle.dav_live.specs.Names.{live_property_of, is_quota}
use Rattle.dav_live.specs.declared.property.LiveProperty.{LiveProperty}
use Rattle.dav_walks.specs.declared.listing.Resource.{Resource}
use Rattle.dav_find.specs.Finder.{ReturnsAnswer, refusal_of}
use Rattle.dav_find.specs.Finding.{View, QuotaAnswer, returned_by, live_result, find_one}

-- why a call was not granted
pub declined_why : {A : Type 0} (known : Option A) (e : FsError) (outcome : Outcome) → error_of outcome ≡ Some e → returned_by outcome known ≡ Err (refusal_of outcome)
declined_why known e Granted cause = absurd cc
declined_why known e (Barred d) cause = refl
declined_why known e (Refused d) cause = refl

pub judges_answer : {A : Type 0} (call : Call) (Effect : A → Contents → Contents → Type 0) (known : Option A) (old new : Store) (answer : Result A FsError) (returned : Result (Result A ℕ) DavError)
    → ((a : A) → Effect a old.contents new.contents → (known ≡ Some a) × (new.contents ≡ old.contents))
    → Answers call Effect old answer new → ReturnsAnswer new.log answer returned → Judges (Asks call (λ outcome. Passed (returned_by outcome known))) old returned new
judges_answer call Effect known old new (Ok a) returned effect answers returns =
    let granted = answers.granted in
    let is = effect a granted.effect in
    rw returns.granted (record {
      records = record_of call Granted ∷ [];
      recorded = granted.recorded;
      same = is.1;
      fixed = granted.fixed;
      ends = (refl, granted.allowed, ap (λ k. Passed (returned_by Granted k)) (sym is.0));
    })
judges_answer call Effect known old new (Err e) returned effect answers returns = elim answers.declined [
  | inl lacked ↦
      rw (returns.lacked (ap Err lacked.0), lacked.1) (record {
        records = [];
        recorded = sym (append-nil old.log);
        same = refl;
        fixed = refl;
        ends = inr (refl, (_, refl));
      })
  | inr declined ↦
      rw (returns.declined declined.not_memory (record_of call declined.outcome) (old.log, declined.recorded)) (record {
        records = record_of call declined.outcome ∷ [];
        recorded = declined.recorded;
        same = declined.same;
        fixed = declined.fixed;
        ends = (refl, declined.lawful, ap Passed (sym (declined_why known e declined.outcome declined.cause)));
      })
]

-- a live property that isn't the quota's asks nothing
pub judges_live : (view : View) (contents : Contents) (here : Resource) (element : Tree) (quota : Option QuotaAnswer) (property : LiveProperty) (returned : Result Tree ℕ) (store : Store)
    → live_property_of element.tag.namespace element.tag.name ≡ Some property → is_quota property ≡ false → returned ≡ live_result view here element property None
    → Judges (find_one view contents here element quota) store (Ok (returned, quota)) store
judges_live view contents here element quota property returned store named plain is = rw (named, plain, is) (judges_pure _ _ _ refl)

-- ---- what a call's answer was, by what was returned of it

module _ {A : Type 0} (call : Call) (Effect : A → Contents → Contents → Type 0) (old new : Store) where
  pub granted_is : (answer : Result A FsError) (returned : Result (Result A ℕ) DavError) (a : A) → Answers call Effect old answer new → ReturnsAnswer new.log answer returned → returned ≡ Ok (Ok a) → Grants call (Effect a) old new
  granted_is (Ok b) returned a answers returns is = let same : Ok (Ok b) ≡ Ok (Ok a) = sym returns.granted ∙ is in let alike : b ≡ a = cc in subst (λ (x : A). Grants call (Effect x) old new) alike answers.granted
  granted_is (Err e) returned a answers returns is = elim answers.declined [
    | inl lacked ↦ absurd (let no_value : Err dav.Memory ≡ Ok (Ok a) = sym (returns.lacked (ap Err lacked.0)) ∙ is in cc)
    | inr declined ↦ absurd (let no_status : Ok (Err (refusal_of declined.outcome)) ≡ Ok (Ok a) = sym (returns.declined declined.not_memory (record_of call declined.outcome) (old.log, declined.recorded)) ∙ is in cc)
  ]

  pub declined_is : (answer : Result A FsError) (returned : Result (Result A ℕ) DavError) (status : ℕ) → Answers call Effect old answer new → ReturnsAnswer new.log answer returned → returned ≡ Ok (Err status)
      → (e : FsError) × ((declined : Declines call e old new) × (status ≡ refusal_of declined.outcome))
  declined_is (Ok b) returned status answers returns is = absurd (let no_status : Ok (Ok b) ≡ Ok (Err status) = sym returns.granted ∙ is in cc)
  declined_is (Err e) returned status answers returns is = elim answers.declined [
    | inl lacked ↦ absurd (let no_status : Err dav.Memory ≡ Ok (Err status) = sym (returns.lacked (ap Err lacked.0)) ∙ is in cc)
    | inr declined ↦ (e, (declined, (let same : Ok (Err (refusal_of declined.outcome)) ≡ Ok (Err status) = sym (returns.declined declined.not_memory (record_of call declined.outcome) (old.log, declined.recorded)) ∙ is in cc)))
  ]

  pub lacked_is : (answer : Result A FsError) (returned : Result (Result A ℕ) DavError) (d : DavError) → Answers call Effect old answer new → ReturnsAnswer new.log answer returned → returned ≡ Err d → new ≡ old
  lacked_is (Ok b) returned d answers returns is = absurd (let no_error : Ok (Ok b) ≡ Err d = sym returns.granted ∙ is in cc)
  lacked_is (Err e) returned d answers returns is = elim answers.declined [
    | inl lacked ↦ lacked.1
    | inr declined ↦ absurd (let no_error : Ok (Err (refusal_of declined.outcome)) ≡ Err d = sym (returns.declined declined.not_memory (record_of call declined.outcome) (old.log, declined.recorded)) ∙ is in cc)
  ]
