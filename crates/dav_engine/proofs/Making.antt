-- The work of MKCOL.
use Rattle.std.proofs.Common.{◌≡◌, [], ◌∷◌, Ok, Err, ◌⊎◌, inl, inr, refl, sym, append-nil}
use Rattle.dav_resource.specs.declared.record.Outcome.TheVariants as outcomes
use Rattle.dav_resource.specs.declared.error.FsError.{FsError}
use Rattle.dav_resource.specs.declared.error.FsError.TheVariants as fs_errors
use Rattle.dav_resource.specs.declared.error.DavError.TheVariants as dav_errors
use Rattle.dav_resource.specs.declared.request.DavRequest.{DavRequest}
use Rattle.dav_store.specs.Store.{Store}
use Rattle.dav_store.specs.Calls.{record_of, Grants, Declines, create_dir_call, IsMadeAt}
use Rattle.dav_messages.specs.Reply.{Reply, Answer}
use Rattle.dav_engine.specs.Answered.{Unbegun}
use Rattle.dav_engine.specs.Mkcol.{mkcol_error, mkcol_reply, MkcolWork}
use Rattle.dav_engine.specs.Work.{WorksOnStore}
use Rattle.dav_messages.specs.Dialogues.{unlike, needs-declined}
use Rattle.dav_engine.proofs.Granting.{not_granted}

module _ (request : DavRequest) where
  abbrev pub MakesCollection : Store → Answer → Store → Type 0
  MakesCollection = WorksOnStore (MkcolWork request) Unbegun

  -- no memory, and nothing happened
  pub works_cut : (store : Store) → MakesCollection store (Err dav_errors.Memory) store
  works_cut store = record {
    records = [];
    recorded = sym (append-nil store.log);
    fixed = refl;
    done = inr (refl, record { none = refl; same = refl });
  }

  -- the call isn't granted
  pub works_declined : (e : FsError) (old new : Store) → ((e ≡ fs_errors.Memory) × (new ≡ old)) ⊎ Declines (create_dir_call old.contents request.path.key) e old new
      → MakesCollection old (Err (mkcol_error e)) new
  works_declined e old new (inl h) = rw (h.0, h.1) (works_cut old)
  works_declined e old new (inr h) = record {
    records = record_of (create_dir_call old.contents request.path.key) h.outcome ∷ [];
    recorded = h.recorded;
    fixed = h.fixed;
    done = inl (record {
      answered = needs-declined (create_dir_call old.contents request.path.key) mkcol_error _ e h.outcome h.cause h.lawful;
      leaves = record { made = λ g. absurd (not_granted _ _ _ g (unlike e h.outcome h.cause)); untouched = λ _. h.same };
    });
  }

  -- the call is granted
  pub works_made : (old new : Store) (reply : Reply) → Grants (create_dir_call old.contents request.path.key) (IsMadeAt request.path.key) old new → reply ≡ mkcol_reply request.path
      → MakesCollection old (Ok reply) new
  works_made old new reply h is = record {
    records = record_of (create_dir_call old.contents request.path.key) outcomes.Granted ∷ [];
    recorded = h.recorded;
    fixed = h.fixed;
    done = inl (record { answered = (tt, (refl, h.allowed, refl), is); leaves = record { made = λ _. h.effect; untouched = λ none. absurd (none (inl refl)) } });
  }
