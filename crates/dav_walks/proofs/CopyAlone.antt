-- A copy of Depth 0, and the answer of each.
use Rattle.std.proofs.Common.{◌≡◌, ◌≢◌, ◌⊎◌, Bool, true, false, List, [], ◌∷◌, ◌++◌, Option, Some, None, refl, sym, ap, ◌∙◌, subst, inl, inr, append-nil, append_assoc}
use Rattle.std.specs.Prelude.{not}
use Rattle.std.specs.FinMap.{get}
use Rattle.dav_key.specs.Key.{Key}
use Rattle.dav_resource.specs.PathText.{PathValue}
use Rattle.dav_resource.specs.Errors.{fs_status}
use Rattle.dav_resource.specs.declared.request.Depth.TheVariants.{Zero}
use Rattle.dav_resource.specs.declared.record.Outcome.{Outcome}
use Rattle.dav_resource.specs.declared.record.Outcome.TheVariants.{Granted, Barred, Refused}
use Rattle.dav_resource.specs.declared.error.FsError.{FsError}
use Rattle.dav_resource.specs.declared.error.FsError.TheVariants.{NotImplemented, GeneralFailure, Exists, NotFound, Forbidden, InsufficientStorage, LoopDetected, PathTooLong, TooLarge, IsRemote, Memory}
use Rattle.dav_store.specs.Logged.{Logged}
use Rattle.dav_store.specs.Store.{Store, Contents, Node, Directory, IsWellFormed}
use Rattle.dav_store.specs.Calls.{Call, record_of, Grants, Declines, IsLawful, error_of, metadata_call, create_dir_call, IsMadeAt}
use Rattle.dav_store.specs.Transfers.{copy_call, IsCopiedTo}
use Rattle.dav_walks.specs.Trace.{HasKind}
use Rattle.dav_walks.specs.Frames.{IsCut}
use Rattle.dav_walks.specs.Copied.{placing_call, IsPlaced, refusal_names, EndsAlone, PlacesAlone, CopiesAlone, CopiesInPart, StopsCopy}
use Rattle.dav_walks.specs.CopyFrames.{LooksUpAt, CopiesFile, Finds, CopiesWhole, BreaksOffCopy}
use Rattle.dav_walks.proofs.Listings.{kind_of_meta}
use Rattle.dav_walks.proofs.Single.{Names}
use Rattle.dav_walks.proofs.CopyEnter.{kind_present}

ends_refused : (source dest : PathValue) (old new : Contents) (names : Names) (outcome : Outcome) (error : FsError) → error_of outcome ≡ Some error → new ≡ old → names ≡ refusal_names source dest (get old.tree source.key) error → EndsAlone source dest old new names outcome
ends_refused source dest old new names Granted error is same named = let p : None ≡ Some error = is in absurd (cc)
ends_refused source dest old new names (Barred e) error is same named = let p : error ≡ e = cc in (same, named ∙ ap (refusal_names source dest (get old.tree source.key)) p)
ends_refused source dest old new names (Refused e) error is same named = let p : error ≡ e = cc in (same, named ∙ ap (refusal_names source dest (get old.tree source.key)) p)

-- each refusal but that something is there names the place of a directory
pub directory_refusal : (source dest : PathValue) (e : FsError) → e ≢ Exists → refusal_names source dest (Some Directory) e ≡ (dest, fs_status e) ∷ []
directory_refusal source dest Exists other = absurd (other refl)
directory_refusal source dest NotImplemented other = refl
directory_refusal source dest GeneralFailure other = refl
directory_refusal source dest NotFound other = refl
directory_refusal source dest Forbidden other = refl
directory_refusal source dest InsufficientStorage other = refl
directory_refusal source dest LoopDetected other = refl
directory_refusal source dest PathTooLong other = refl
directory_refusal source dest TooLarge other = refl
directory_refusal source dest IsRemote other = refl
directory_refusal source dest Memory other = refl

file_refusal : (source dest : PathValue) (node_there : Option Node) (e : FsError) → HasKind false node_there → refusal_names source dest node_there e ≡ (source, fs_status e) ∷ []
file_refusal source dest there e is = rw is.1 refl

-- memory was lacking: nothing changed, and nothing is named
stopped : (source dest : PathValue) (top : Key) (old new : Contents) (had : Names) (records : List Logged) → CopiesInPart Zero source dest top old new records → new ≡ old → StopsCopy Zero source dest top old new records had had
stopped source dest top old new had records part same = record { part = part; alone = λ _. same; names = []; added = sym (append-nil had); named = refl }

module _ (source dest : PathValue) (top : Key) {old : Store} (formed : IsWellFormed old.contents) where
  -- the lookup is refused
  unlooked_alone : {new : Store} {had has : Names} (refusal : LooksUpAt source old new had has None) → CopiesAlone source dest old.contents new.contents (record_of (metadata_call old.contents source.key) refusal.declined.outcome ∷ []) ((source, fs_status refusal.error) ∷ [])
  unlooked_alone refusal =
      let dec = refusal.declined in
      inl (record { outcome = dec.outcome; error = refusal.error; cause = dec.cause; called = refl; lawful = dec.lawful; same = dec.same; named = refl })

  pub unlooked_whole : {new : Store} {had has : Names} → LooksUpAt source old new had has None → CopiesWhole Zero source dest top old new had has
  unlooked_whole {new} {had} {has} refusal =
      let dec = refusal.declined in
      record { records = record_of (metadata_call old.contents source.key) dec.outcome ∷ []; recorded = dec.recorded; fixed = dec.fixed; names = (source, fs_status refusal.error) ∷ []; added = refusal.named; copies = unlooked_alone refusal }

  pub look_off : {new : Store} (had : Names) → IsCut (metadata_call old.contents source.key) old new → BreaksOffCopy Zero source dest top old new had had
  look_off had (inl same) = record {
    records = [];
    recorded = ap (λ (s : Store). s.log) same ∙ sym (append-nil old.log);
    fixed = ap (λ (s : Store). s.facts) same;
    stops = stopped source dest top _ _ had [] (inl (inl refl, ap (λ (s : Store). s.contents) same)) (ap (λ (s : Store). s.contents) same);
  }
  look_off had (inr (e, dec)) = record {
    records = record_of (metadata_call old.contents source.key) dec.outcome ∷ [];
    recorded = dec.recorded;
    fixed = dec.fixed;
    stops = stopped source dest top _ _ had (record_of (metadata_call old.contents source.key) dec.outcome ∷ [])
        (inr ((source, fs_status e) ∷ [], inl (record { outcome = dec.outcome; error = e; cause = dec.cause; called = refl; lawful = dec.lawful; same = dec.same; named = refl }))) dec.same;
  }

  -- the lookup is granted
  module _ {mid : Store} {dir : Bool} (found : Finds dir source old mid) where
    same : mid.contents ≡ old.contents
    same = found.looked.effect.same

    kind : HasKind dir (get old.contents.tree source.key)
    kind = subst (λ b. HasKind b (get old.contents.tree source.key)) found.kind (kind_of_meta _ (old.contents.metas source.key) found.meta (formed.metas source.key) found.looked.effect.answer)

    module _ (call : Call) (is : placing_call old.contents source.key dest.key ≡ call) (new : Store) where
      log_of : (outcome : Outcome) → new.log ≡ mid.log ++ record_of call outcome ∷ []
          → new.log ≡ old.log ++ (record_of (metadata_call old.contents source.key) Granted ∷ record_of (placing_call old.contents source.key dest.key) outcome ∷ [])
      log_of outcome recorded = recorded ∙ ap (λ l. l ++ record_of call outcome ∷ []) found.looked.recorded ∙ append_assoc old.log _ _ ∙ ap (λ (c : Call). old.log ++ (record_of (metadata_call old.contents source.key) Granted ∷ record_of c outcome ∷ [])) (sym is)

      places : (outcome : Outcome) (names : Names) → IsLawful call.bar outcome → EndsAlone source dest old.contents new.contents names outcome
          → PlacesAlone source dest old.contents new.contents (record_of (metadata_call old.contents source.key) Granted ∷ record_of (placing_call old.contents source.key dest.key) outcome ∷ []) names
      places outcome names lawful ended = record {
        outcome = outcome;
        called = refl;
        there = kind_present dir _ kind;
        lawful = subst (λ (c : Call). IsLawful c.bar outcome) (sym is) lawful;
        ended = ended;
      }

      placed_whole : {had has : Names} (outcome : Outcome) (names : Names) → IsLawful call.bar outcome → EndsAlone source dest old.contents new.contents names outcome → new.log ≡ mid.log ++ record_of call outcome ∷ []
          → new.facts ≡ mid.facts → has ≡ had ++ names → CopiesWhole Zero source dest top old new had has
      placed_whole outcome names lawful ended recorded fixed added = record {
        records = record_of (metadata_call old.contents source.key) Granted ∷ record_of (placing_call old.contents source.key dest.key) outcome ∷ [];
        recorded = log_of outcome recorded;
        fixed = fixed ∙ found.looked.fixed;
        names = names;
        added = added;
        copies = inr (places outcome names lawful ended);
      }

      -- memory was lacking for the second call, or for the name of its refusal
      pub placed_off : (had : Names) → IsCut call mid new → BreaksOffCopy Zero source dest top old new had had
      placed_off had (inl at_mid) = record {
        records = record_of (metadata_call old.contents source.key) Granted ∷ [];
        recorded = ap (λ (s : Store). s.log) at_mid ∙ found.looked.recorded;
        fixed = ap (λ (s : Store). s.facts) at_mid ∙ found.looked.fixed;
        stops = stopped source dest top _ _ had (record_of (metadata_call old.contents source.key) Granted ∷ []) (inl (inr refl, ap (λ (s : Store). s.contents) at_mid ∙ same)) (ap (λ (s : Store). s.contents) at_mid ∙ same);
      }
      placed_off had (inr (e, dec)) = record {
        records = record_of (metadata_call old.contents source.key) Granted ∷ record_of (placing_call old.contents source.key dest.key) dec.outcome ∷ [];
        recorded = log_of dec.outcome dec.recorded;
        fixed = dec.fixed ∙ found.looked.fixed;
        stops = stopped source dest top _ _ had (record_of (metadata_call old.contents source.key) Granted ∷ record_of (placing_call old.contents source.key dest.key) dec.outcome ∷ [])
            (inr (refusal_names source dest (get old.contents.tree source.key) e, inr (places dec.outcome _ dec.lawful (ends_refused source dest old.contents new.contents _ dec.outcome e dec.cause (dec.same ∙ same) refl)))) (dec.same ∙ same);
      }

  -- a file
  module _ {mid : Store} (found : Finds false source old mid) where
    file_call : placing_call old.contents source.key dest.key ≡ copy_call mid.contents source.key dest.key
    file_call = (rw (kind found).1 (rw (kind found).1 refl)) ∙ ap (λ (c : Contents). copy_call c source.key dest.key) (sym (same found))

    pub file_off : {new : Store} (had : Names) → IsCut (copy_call mid.contents source.key dest.key) mid new → BreaksOffCopy Zero source dest top old new had had
    file_off {new} had cut = placed_off found (copy_call mid.contents source.key dest.key) file_call new had cut

    is_copied : (new : Store) → IsCopiedTo source.key dest.key mid.contents new.contents → IsPlaced source.key dest.key old.contents new.contents
    is_copied new effect = rw (kind found).1 (subst (λ (c : Contents). IsCopiedTo source.key dest.key c new.contents) (same found) effect)

    pub file_whole : (new : Store) (had near has : Names) (done : Bool) → near ≡ had → CopiesFile source dest mid new near has done → CopiesWhole Zero source dest top old new had has
    file_whole new had near has true unnamed (g, named) = placed_whole found (copy_call mid.contents source.key dest.key) file_call new Granted [] g.allowed (is_copied new g.effect, refl) g.recorded g.fixed (named ∙ unnamed ∙ sym (append-nil had))
    file_whole new had near has false unnamed refusal =
        let dec = refusal.declined in
        placed_whole found (copy_call mid.contents source.key dest.key) file_call new dec.outcome ((source, fs_status refusal.error) ∷ []) dec.lawful
        (ends_refused source dest old.contents new.contents _ dec.outcome refusal.error dec.cause (dec.same ∙ same found) (sym (file_refusal source dest _ refusal.error (kind found)))) dec.recorded dec.fixed (refusal.named ∙ ap (λ l. l ++ (source, fs_status refusal.error) ∷ []) unnamed)

  -- a directory
  module _ {mid : Store} (found : Finds true source old mid) where
    place_call : placing_call old.contents source.key dest.key ≡ create_dir_call mid.contents dest.key
    place_call = (rw (kind found) refl) ∙ ap (λ (c : Contents). create_dir_call c dest.key) (sym (same found))

    is_made : (new : Store) → IsMadeAt dest.key mid.contents new.contents → IsPlaced source.key dest.key old.contents new.contents
    is_made new effect = rw (kind found) (subst (λ (c : Contents). IsMadeAt dest.key c new.contents) (same found) effect)

    pub place_off : {new : Store} (had : Names) → IsCut (create_dir_call mid.contents dest.key) mid new → BreaksOffCopy Zero source dest top old new had had
    place_off {new} had cut = placed_off found (create_dir_call mid.contents dest.key) place_call new had cut

    pub place_whole : (new : Store) (had : Names) → Grants (create_dir_call mid.contents dest.key) (IsMadeAt dest.key) mid new → CopiesWhole Zero source dest top old new had had
    place_whole new had g = placed_whole found (create_dir_call mid.contents dest.key) place_call new Granted [] g.allowed (is_made new g.effect, refl) g.recorded g.fixed (sym (append-nil had))

    pub refused_whole : (new : Store) (had has : Names) (error : FsError) → Declines (create_dir_call mid.contents dest.key) error mid new → has ≡ had ++ refusal_names source dest (Some Directory) error → CopiesWhole Zero source dest top old new had has
    refused_whole new had has error dec named = placed_whole found (create_dir_call mid.contents dest.key) place_call new dec.outcome (refusal_names source dest (Some Directory) error) dec.lawful
        (ends_refused source dest old.contents new.contents _ dec.outcome error dec.cause (dec.same ∙ same found) (ap (λ (n : Option Node). refusal_names source dest n error) (sym (kind found)))) dec.recorded dec.fixed named

-- a call that had memory was declined
pub was_declined : {call : Call} {error : FsError} {old new : Store} → ((error ≡ Memory) × (new ≡ old)) ⊎ Declines call error old new → error ≢ Memory → Declines call error old new
was_declined (inl lacking) other = absurd (other lacking.0)
was_declined (inr dec) other = dec

pub no_directory : (b : Bool) → not b ≡ true → b ≡ false
no_directory true e = sym e
no_directory false e = refl

pub a_directory : (b : Bool) → not b ≡ false → b ≡ true
a_directory true e = refl
a_directory false e = sym e
