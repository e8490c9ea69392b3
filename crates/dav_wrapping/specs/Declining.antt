-- A listing that is declined, as a call that lists nothing.
use Rattle.std.specs.Prelude.{Bool, [], ◌∷◌, Option, Result, Err, Vec}
use Rattle.std.specs.declared.alloc.Global.{Global}
use Rattle.std.specs.FinMap.{get}
use Rattle.dav_key.specs.Key.{Key}
use Rattle.dav_resource.specs.declared.meta.DirEntry.{DirEntry}
use Rattle.dav_resource.specs.declared.record.Op.TheVariants.{ReadDir}
use Rattle.dav_resource.specs.declared.error.FsError.{FsError}
use Rattle.dav_store.specs.Store.{Store, Contents}
use Rattle.dav_store.specs.Members.{ReadsDir, read_dir_bar}
use Rattle.dav_wrapping.specs.Recorded.{CallBehind, IsCall, answers_call, no_statuses}

abbrev pub Listing : Type 0
Listing = Vec (Result DirEntry FsError) Global

module _ (key : Key) where
  abbrev NoEffect : Listing → Contents → Contents → Type 0
  NoEffect listing old new = ⊥

  abbrev bar_of : Bool → Contents → Option FsError
  bar_of keeps old = read_dir_bar (get old.tree key)

  abbrev pub Declining : Store → Result Listing FsError → Store → Type 0
  Declining = CallBehind ReadDir (key ∷ []) bar_of NoEffect

  pub declining_call : IsCall ReadDir (key ∷ []) no_statuses Declining
  declining_call = answers_call ReadDir (key ∷ []) bar_of NoEffect

  pub declined : (old new : Store) (e : FsError) → Declining old (Err e) new → ReadsDir old key (Err e) new
  declined old new e h = record { granted = tt; declined = h.declined }
