-- What a resource is reported by: each property that is asked for, and then what the store keeps.
use Rattle.std.proofs.Common.{◌≡◌, List, Option, Result, Ok, Err, refl, subst}
use Rattle.std.specs.Result.{IsErrAnd}
use Rattle.dav_resource.specs.Tree.{Tree}
use Rattle.dav_resource.specs.declared.error.DavError.{DavError}
use Rattle.dav_resource.specs.declared.error.DavError.TheVariants.{Memory}
use Rattle.std.specs.Prelude.{ℕ}
use Rattle.dav_store.specs.Store.{Store}
use Rattle.dav_messages.specs.Dialogue.{Judges}
use Rattle.dav_messages.specs.Dialogues.{judges_exit, judges_then, judges_pure, judges_memory}
use Rattle.dav_props.specs.Propstat.{PropertyStatus}
use Rattle.dav_walks.specs.declared.listing.Resource.{Resource}
use Rattle.dav_find.specs.Asked.{AskedProperty}
use Rattle.dav_find.specs.Finding.{View, QuotaAnswer, AreKept, find_each, find_stored}
use Rattle.dav_find.specs.Response.{FindsStored, IsResponse}
use Rattle.dav_find.specs.Reporting.{report_of}
use Rattle.dav_find.proofs.Each.{Sought}
use Rattle.dav_find.proofs.Kept.{in_order, in_some_order}

module _ (view : View) (asked : List AskedProperty) (here : Resource) (quota : Option QuotaAnswer) (old mid new : Store) where
  pub response_unfound : (e : DavError) (verdict : Result (List PropertyStatus × Option QuotaAnswer) DavError) → IsErrAnd verdict (λ d. d ≡ e) → Judges (find_each view old.contents here asked quota) old (Err e) new
      → IsResponse view asked here quota old verdict new
  response_unfound e verdict is h = record { kept = in_order old.contents here.path.key; are = in_some_order old.contents here.path.key; held = judges_exit _ _ old new e verdict is h }

  module _ (found : Sought) (h : Judges (find_each view old.contents here asked quota) old (Ok found) mid) where
    stored_at : (verdict : Result (Result (List Tree) ℕ) DavError) (s : FindsStored view here.path.key mid verdict new) → AreKept old.contents here.path.key s.kept × Judges (find_stored view old.contents here.path.key s.kept) mid verdict new
    stored_at verdict s = (
      subst (λ contents. AreKept contents here.path.key s.kept) h.same s.are,
      subst (λ contents. Judges (find_stored view contents here.path.key s.kept) mid verdict new) h.same s.held,
    )

    pub response_unstored : (e : DavError) (verdict : Result (List PropertyStatus × Option QuotaAnswer) DavError) → IsErrAnd verdict (λ d. d ≡ e) → FindsStored view here.path.key mid (Err e) new → IsResponse view asked here quota old verdict new
    response_unstored e verdict is s = let at = stored_at (Err e) s in
        record { kept = s.kept; are = at.0; held = judges_then _ _ old mid new found verdict h (judges_exit _ _ mid new e verdict is at.1) }

    pub response_unreported : (stored : Result (List Tree) ℕ) (verdict : Result (List PropertyStatus × Option QuotaAnswer) DavError) → IsErrAnd verdict (λ d. d ≡ Memory) → FindsStored view here.path.key mid (Ok stored) new
        → IsResponse view asked here quota old verdict new
    response_unreported stored verdict is s = let at = stored_at (Ok stored) s in
        record { kept = s.kept; are = at.0; held = judges_then _ _ old mid new found verdict h (judges_then _ _ mid new new stored verdict at.1 (judges_memory _ _ _ is)) }

    pub response_reported : (stored : Result (List Tree) ℕ) → FindsStored view here.path.key mid (Ok stored) new → IsResponse view asked here quota old (Ok (report_of view.kind found.0 stored, found.1)) new
    response_reported stored s = let at = stored_at (Ok stored) s in
        record { kept = s.kept; are = at.0; held = judges_then _ _ old mid new found _ h (judges_then _ _ mid new new stored _ at.1 (judges_pure _ _ _ refl)) }
