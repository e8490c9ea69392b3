-- A deletion of Depth 0, and the answer of each.
use Rattle.std.proofs.Common.{◌≡◌, Bool, true, false, List, [], ◌∷◌, Option, Some, None, refl, sym, ap, ◌∙◌, subst, inl, inr, append-nil}
use Rattle.std.specs.FinMap.{get}
use Rattle.dav_key.specs.Key.{Key}
use Rattle.dav_resource.specs.PathText.{PathValue}
use Rattle.dav_resource.specs.Errors.{fs_status}
use Rattle.dav_resource.specs.declared.request.Depth.TheVariants.{Zero}
use Rattle.dav_resource.specs.declared.record.Outcome.TheVariants.{Granted}
use Rattle.dav_resource.specs.declared.error.FsError.{FsError}
use Rattle.dav_store.specs.Store.{Store, Contents}
use Rattle.dav_store.specs.Calls.{Call, record_of, Grants, Declines, error_of}
use Rattle.dav_store.specs.Members.{IsRemovedAt}
use Rattle.dav_store.specs.Logged.{Logged}
use Rattle.dav_walks.specs.Deletion.{removal_call, RemovesAlone, RemovesInPart, StopsRemoval}
use Rattle.dav_walks.specs.Trace.{HasKind}
use Rattle.dav_walks.specs.Frames.{IsCut, removal_by, RemovesOne, RemovesAll, BreaksOff}
use Rattle.dav_walks.proofs.Single.{Names, has_error}

-- the call that removes what stands there
call_by_kind : (dir : Bool) (old : Contents) (key : Key) → HasKind dir (get old.tree key) → removal_by dir old key ≡ removal_call old key
call_by_kind true old key is = rw is (rw is)
call_by_kind false old key is = rw is.1 (rw is.1)

same_error : (o : Option FsError) (e f : FsError) → o ≡ Some e → o ≡ Some f → e ≡ f
same_error o e f p q = let r : Some e ≡ Some f = sym p ∙ q in cc

module _ (path : PathValue) (old new : Store) where
  call : Call
  call = removal_call old.contents path.key

  alone_granted : Grants call (IsRemovedAt path.key) old new → RemovesAlone path old.contents new.contents (record_of call Granted ∷ []) []
  unfolding call
  alone_granted g = record {
    outcome = Granted;
    called = refl;
    lawful = g.allowed;
    granted = λ p. (g.effect, refl);
    refused = λ e p. absurd (let q : None ≡ Some e = p in cc);
  }

  alone_declined : (error : FsError) (d : Declines call error old new) → RemovesAlone path old.contents new.contents (record_of call d.outcome ∷ []) ((path, fs_status error) ∷ [])
  unfolding call
  alone_declined error d = record {
    outcome = d.outcome;
    called = refl;
    lawful = d.lawful;
    granted = λ p. absurd (has_error d.outcome error d.cause p);
    refused = λ e p. (d.same, ap (λ f. (path, fs_status f) ∷ []) (same_error (error_of d.outcome) error e d.cause p));
  }

  -- memory was lacking: nothing changed, and nothing is named
  stopped : (had : Names) (records : List Logged) → RemovesInPart Zero path old.contents new.contents records → new.contents ≡ old.contents → StopsRemoval Zero path old.contents new.contents records had had
  stopped had records part same = record { part = part; alone = λ _. same; names = []; added = sym (append-nil had); named = refl }

  module _ (dir : Bool) (is : HasKind dir (get old.contents.tree path.key)) where
    by_kind : removal_by dir old.contents path.key ≡ call
    unfolding call
    by_kind = call_by_kind dir old.contents path.key is

    pub alone_all : (had has : Names) (removed : Bool) → RemovesOne dir path old new had has removed → RemovesAll Zero path old new had has
    alone_all had has true (g, same) =
        let granted : Grants call (IsRemovedAt path.key) old new = subst (λ c. Grants c (IsRemovedAt path.key) old new) by_kind g in
        record { records = record_of call Granted ∷ []; recorded = granted.recorded; fixed = granted.fixed; names = []; added = same ∙ sym (append-nil had); removes = alone_granted granted }
    alone_all had has false r =
        let declined : Declines call r.error old new = subst (λ c. Declines c r.error old new) by_kind r.declined in
        record { records = record_of call declined.outcome ∷ []; recorded = declined.recorded; fixed = declined.fixed; names = (path, fs_status r.error) ∷ []; added = r.named; removes = alone_declined r.error declined }

    pub alone_off : (had : Names) → IsCut (removal_by dir old.contents path.key) old new → BreaksOff Zero path old new had had
    alone_off had (inl same) = record {
      records = [];
      recorded = ap (λ (s : Store). s.log) same ∙ sym (append-nil old.log);
      fixed = ap (λ (s : Store). s.facts) same;
      stops = stopped had [] (inl (refl, ap (λ (s : Store). s.contents) same)) (ap (λ (s : Store). s.contents) same);
    }
    alone_off had (inr d) =
        let declined : Declines call d.0 old new = subst (λ c. Declines c d.0 old new) by_kind d.1 in
        record {
          records = record_of call declined.outcome ∷ [];
          recorded = declined.recorded;
          fixed = declined.fixed;
          stops = stopped had (record_of call declined.outcome ∷ []) (inr ((path, fs_status d.0) ∷ [], alone_declined d.0 declined)) declined.same;
        }
