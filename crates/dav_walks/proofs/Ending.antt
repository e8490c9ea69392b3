-- The end of a directory in a walk by a list of directories, and what is broken off with one of them.
use Rattle.std.proofs.Common.{◌≡◌, ◌≤◌, ◌<◌, ◌+◌, Bool, true, false, List, [], ◌∷◌, ◌++◌, length, get_or, map, reverse, Ok, refl, sym, ap, ◌∙◌, subst, inl, inr, arith}
use Rattle.std.specs.Prelude.{◌&&◌}
use Rattle.std.specs.FinMap.{keys}
use Rattle.std.proofs.lemmas.List.{reverse-append}
use Rattle.dav_key.specs.Key.{Key}
use Rattle.dav_resource.specs.PathText.{PathValue}
use Rattle.dav_resource.specs.Errors.{fs_status}
use Rattle.dav_resource.specs.declared.meta.DirEntry.{DirEntry}
use Rattle.dav_resource.specs.declared.request.Depth.TheVariants.{Zero, Infinity}
use Rattle.dav_store.specs.Store.{Store, Tree, IsWellFormed}
use Rattle.dav_store.specs.Members.{member}
use Rattle.dav_walks.specs.KeyCall.{logged_call}
use Rattle.dav_walks.specs.declared.frame.Frame.{Frame}
use Rattle.dav_walks.specs.declared.frame.Entered.TheVariants.{Opened}
use Rattle.dav_walks.specs.Trace.{Walks, Halts}
use Rattle.dav_walks.specs.Frames.{IsCut, removal_by, entering_call, Enters, path_of_entry, Closes, RemovesAll, BreaksOff}
use Rattle.dav_walks.specs.Counting.{total}
use Rattle.dav_walks.proofs.Counting.{total-append}
use Rattle.dav_walks.proofs.Halting.{walk_halts, listed_halts, child_halts}
use Rattle.dav_walks.proofs.Listings.{Shown}
use Rattle.dav_walks.proofs.Listed.{Listed, listed_child, listed_kept, listed_emptied, listed_stuck}
use Rattle.dav_walks.proofs.Single.{Names}
use Rattle.dav_walks.proofs.Theorem.{walk_deletes, halt_lawful}
use Rattle.dav_walks.proofs.Going.{Suspended, Going, frame_left, work_left, total-one, both_clean, one_unclean, entering_cut, at_value, key_of, kind_of, inside, inner_key}

-- the end of the innermost directory
module _ {path : PathValue} {old mid : Store} {had names : Names} {frame : Frame} {parents : List Frame} (going : Going path old mid had names frame parents)
    (done : length frame.listing.items ≤ frame.next) (new : Store) (finally : Names) (ok : Bool) (sound : IsWellFormed new.contents) (closes : Closes frame.clean frame.path mid new names finally ok) where
  open going use {half}

  closed : Walks path going.start.contents new.contents going.start.log new.log going.held finally frame.path.key ok
  closed = go frame.clean refl ok closes
    where
      go : (clean : Bool) → frame.clean ≡ clean → (b : Bool) → Closes clean frame.path mid new names finally b → Walks path going.start.contents new.contents going.start.log new.log going.held finally frame.path.key b
      go false e b c = subst (λ r. Walks path going.start.contents new.contents going.start.log new.log going.held finally frame.path.key r) (sym c.0)
          (subst (λ (s : Store). Walks path going.start.contents s.contents going.start.log s.log going.held finally frame.path.key false) (sym c.1)
          (subst (λ l. Walks path going.start.contents mid.contents going.start.log mid.log going.held l frame.path.key false) (sym c.2)
          (listed_kept half.so_far done e)))
      go true e true c = subst (λ l. Walks path going.start.contents new.contents going.start.log new.log going.held l frame.path.key true) (sym c.1) (listed_emptied half.so_far done e c.0 sound)
      go true e false c = listed_stuck half.so_far done e c.error c.declined (c.named ∙ ap (λ v. names ++ (v, fs_status c.error) ∷ []) half.at_path.is)

  -- which was the one to be deleted
  pub going_over : parents ≡ [] → Walks path old.contents new.contents old.log new.log had finally path.key ok
  going_over none = go (subst (λ (fs : List Frame). Suspended (reverse fs) path old had going.start going.held frame.path.key) none going.suspended)
    where
      go : (frame.path.key ≡ path.key) × (going.start ≡ old) × (going.held ≡ had) → Walks path old.contents new.contents old.log new.log had finally path.key ok
      go e = subst (λ k. Walks path old.contents new.contents old.log new.log had finally k ok) e.0
          (subst (λ (s : Store). Walks path s.contents new.contents s.log new.log had finally frame.path.key ok) e.1
          (subst (λ l. Walks path going.start.contents new.contents going.start.log new.log l finally frame.path.key ok) e.2 closed))

  -- or the present member of the one around it
  pub going_back : (rest : List Frame) (parent : Frame) → parents ≡ rest ++ parent ∷ [] → Going path old new had finally (record parent { clean = parent.clean && ok }) rest
  going_back rest parent is = go (subst (λ (fs : List Frame). Suspended fs path old had going.start going.held frame.path.key) (ap reverse is ∙ reverse-append rest (parent ∷ [])) going.suspended)
    where
      go : Suspended (parent ∷ reverse rest) path old had going.start going.held frame.path.key → Going path old new had finally (record parent { clean = parent.clean && ok }) rest
      go (start, held, waits, suspended) = record {
        start = start;
        held = held;
        half = record {
          at_path = waits.half.at_path;
          so_far = subst (λ n. Listed path start new held finally parent.path.key parent.listing.items n (parent.clean && ok)) (sym waits.next)
              (listed_child waits.half.so_far waits.small waits.default waits.entry waits.shown
              (subst (λ k. Walks path going.start.contents new.contents going.start.log new.log going.held finally k ok) waits.key closed) (both_clean parent.clean ok) (one_unclean parent.clean ok));
        };
        suspended = suspended;
        began = waits.began;
      }

-- back in the directory around, there is less to do
pub back_smaller : (old : Tree) (frame : Frame) (parents rest : List Frame) (parent : Frame) (clean : Bool) → parents ≡ rest ++ parent ∷ [] → work_left old (record parent { clean = clean }) rest < work_left old frame parents
back_smaller old frame parents rest parent clean is =
    let ks = keys old in
    let more : total (frame_left ks) parents ≡ total (frame_left ks) rest + total (frame_left ks) (parent ∷ []) = ap (total (frame_left ks)) is ∙ total-append (frame_left ks) rest (parent ∷ []) in
    let last : total (frame_left ks) (parent ∷ []) ≡ frame_left ks parent = total-one (frame_left ks) parent in
    omega arith

-- What was broken off in the innermost directory was broken off in all.
suspended_halts : (path : PathValue) (old new : Store) (had finally : Names) (frames : List Frame) (start : Store) (held : Names) (k : Key)
    → Suspended frames path old had start held k → Halts path start.contents new.contents start.log new.log held finally k → Halts path old.contents new.contents old.log new.log had finally path.key
suspended_halts path old new had finally [] start held k e halts =
    subst (λ j. Halts path old.contents new.contents old.log new.log had finally j) e.0
    (subst (λ (s : Store). Halts path s.contents new.contents s.log new.log had finally k) e.1 (subst (λ l. Halts path start.contents new.contents start.log new.log l finally k) e.2 halts))
suspended_halts path old new had finally (frame ∷ frames) start held k s halts =
    let waits = s.2 in
    suspended_halts path old new had finally frames s.0 s.1 frame.path.key s.3
    (child_halts waits.half.so_far new finally waits.small waits.default waits.entry waits.shown (subst (λ j. Halts path start.contents new.contents start.log new.log held finally j) waits.key halts))

module _ {path : PathValue} {old mid : Store} {had names : Names} {frame : Frame} {parents : List Frame} (going : Going path old mid had names frame parents) where
  open going use {half}

  -- between two entries
  pub going_halts : Halts path old.contents mid.contents old.log mid.log had names path.key
  going_halts = suspended_halts path old mid had names (reverse parents) going.start going.held frame.path.key going.suspended (listed_halts half.so_far)

  -- in the walk of an entry's member
  module _ (small : frame.next < length frame.listing.items) (d : Shown) (entry : DirEntry) (is : get_or frame.listing.items frame.next d ≡ Ok entry) where
    member_halts : (new : Store) (finally : Names) → Halts path mid.contents new.contents mid.log new.log names finally (member frame.path.key entry.name) → Halts path old.contents new.contents old.log new.log had finally path.key
    member_halts new finally halts = suspended_halts path old new had finally (reverse parents) going.start going.held frame.path.key going.suspended (child_halts half.so_far new finally small d entry is halts)

    module _ (value : PathValue) (at_member : value ≡ path_of_entry frame.path entry) (new : Store) where
      pub going_child_halts : IsWellFormed new.contents → IsCut (entering_call entry.meta.dir mid.contents value.key) mid new → Halts path old.contents new.contents old.log new.log had names path.key
      going_child_halts sound cut = member_halts new names (subst (λ k. Halts path mid.contents new.contents mid.log new.log names names k) (key_of going small d entry is value at_member)
          (entering_cut path value mid new names names half.so_far.came.well_formed sound entry.meta.dir (at_value going small d entry is value at_member) (kind_of going small d entry is value at_member) cut))

      pub going_opened_halts : (finally : Names) (inner : Frame) → Enters entry.meta.dir value mid new names finally (Opened inner) → Halts path old.contents new.contents old.log new.log had finally path.key
      going_opened_halts finally inner enters = member_halts new finally (subst (λ k. Halts path mid.contents new.contents mid.log new.log names finally k) (inner_key going small d entry is value at_member new finally inner enters)
          (listed_halts (inside going small d entry is value at_member new finally inner enters).so_far))

  -- at the end of a directory
  pub going_close_halts : (new : Store) → length frame.listing.items ≤ frame.next → frame.clean ≡ true → IsCut (removal_by true mid.contents frame.path.key) mid new → Halts path old.contents new.contents old.log new.log had names path.key
  going_close_halts new done clean (inl same) = subst (λ (s : Store). Halts path old.contents s.contents old.log s.log had names path.key) (sym same) going_halts
  going_close_halts new done clean (inr d) = suspended_halts path old new had names (reverse parents) going.start going.held frame.path.key going.suspended
      (walk_halts (listed_stuck half.so_far done clean d.0 d.1 refl) half.so_far.came.names _ names half.so_far.came.named refl)

-- ---- the whole

pub walked_all : (path : PathValue) (old new : Store) (had has : Names) (clean : Bool) → IsWellFormed old.contents → new.facts ≡ old.facts
    → Walks path old.contents new.contents old.log new.log had has path.key clean → RemovesAll Infinity path old new had has
walked_all path old new had has clean formed fixed walks =
    let whole = walk_deletes path old.contents new.contents old.log new.log had has clean formed walks in
    record {
      records = map logged_call whole.calls;
      recorded = whole.log;
      fixed = fixed;
      names = whole.names;
      added = whole.added;
      removes = (whole.calls, refl, whole.deletes);
    }

pub halted_off : (path : PathValue) (old new : Store) (had has : Names) → new.facts ≡ old.facts → Halts path old.contents new.contents old.log new.log had has path.key → BreaksOff Infinity path old new had has
halted_off path old new had has fixed halts = record {
  records = map logged_call halts.calls;
  recorded = halts.log;
  fixed = fixed;
  stops = record {
    part = (halts.calls, refl, halt_lawful path old.contents new.contents old.log new.log had has path.key halts);
    alone = λ zero. absurd (let p : Infinity ≡ Zero = zero in cc);
    names = halts.names;
    added = halts.named;
    named = (halts.calls, refl, halts.some);
  };
}
