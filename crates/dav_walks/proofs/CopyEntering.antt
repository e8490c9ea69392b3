-- The begin of a key's copy, put together from its calls.
use Rattle.std.proofs.Common.{◌≡◌, Bool, true, false, Option, None, Some, Result, Ok, Err, sym, ◌∙◌, subst}
use Rattle.std.specs.Prelude.{◌<◌, length, get_or, IfOk, OnErr}
use Rattle.dav_resource.specs.PathText.{PathValue}
use Rattle.dav_resource.specs.declared.meta.Meta.{Meta}
use Rattle.dav_store.specs.Store.{Store}
use Rattle.dav_store.specs.Calls.{create_dir_call}
use Rattle.dav_store.specs.Members.{read_dir_call}
use Rattle.dav_store.specs.Transfers.{copy_call}
use Rattle.dav_walks.specs.declared.copy_frame.CopyFrame.{CopyFrame}
use Rattle.dav_walks.specs.Frames.{IsCut}
use Rattle.dav_walks.specs.CopyFrames.{LooksUpAt, CopiesFile, MakesPlace, ListsSource, Finds, MakesPlaceOf, IsNextOf, EntersCopy, filed, unmade, after_made, IsCutCopy, at_file, at_place, at_listing}
use Rattle.dav_walks.proofs.Listings.{Shown}
use Rattle.dav_walks.proofs.Single.{Names}

-- what follows of an answer, and of an error
pub if_ok_further : {A E : Type 0} (r : Result A E) (P Q : A → Type 0) → ((a : A) → P a → Q a) → IfOk r P → IfOk r Q
if_ok_further (Ok a) P Q further is = further a is
if_ok_further (Err e) P Q further is = tt

pub on_err_further : {A E : Type 0} (r : Result A E) (P Q : Type 0) → (P → Q) → OnErr r P → OnErr r Q
on_err_further (Ok a) P Q further is = tt
on_err_further (Err e) P Q further is = further is

-- what an index gives is what is next
pub next_of : (frame : CopyFrame) (at_index shown : Shown) → frame.next < length frame.listing.items → at_index ≡ get_or frame.listing.items frame.next at_index → at_index ≡ shown → IsNextOf frame shown
next_of frame at_index shown small is same = (small, subst (λ s. get_or frame.listing.items frame.next s ≡ s) same (sym is))

pub found : {source : PathValue} {old mid : Store} {had near : Names} {meta : Meta} → LooksUpAt source old mid had near (Some meta) → (dir : Bool) → meta.dir ≡ dir → Finds dir source old mid
found {meta = meta} looked dir kind = record { meta = meta; kind = kind; looked = looked.0 }

module _ {source dest : PathValue} {old mid : Store} {had near : Names} {meta : Meta} (looked : LooksUpAt source old mid had near (Some meta)) where
  module _ (file : meta.dir ≡ false) where
    pub file_entered : (new : Store) (has : Names) (done : Bool) → CopiesFile source dest mid new near has done → EntersCopy source dest old new had has None
    file_entered new has done copies = filed mid done (found looked false file) (subst (λ (ns : Names). CopiesFile source dest mid new ns has done) looked.1 copies)

    pub file_cut : {new : Store} → IsCut (copy_call mid.contents source.key dest.key) mid new → IsCutCopy source dest old new
    file_cut cut = at_file mid (found looked false file) cut

  module _ (directory : meta.dir ≡ true) where
    pub place_refused : {new : Store} {has : Names} → MakesPlace dest mid new near has false → EntersCopy source dest old new had has None
    place_refused {new} {has} makes = unmade mid (found looked true directory) (subst (λ (ns : Names). MakesPlace dest mid new ns has false) looked.1 makes)

    pub place_cut : {new : Store} → IsCut (create_dir_call mid.contents dest.key) mid new → IsCutCopy source dest old new
    place_cut cut = at_place mid (found looked true directory) cut

    module _ {next : Store} {then : Names} (makes : MakesPlace dest mid next near then true) where
      made : MakesPlaceOf source dest old next
      made = record { mid = mid; found = found looked true directory; made = makes.0 }

      pub listing_entered : {new : Store} {has : Names} {opened : Option CopyFrame} → ListsSource source dest next new then has opened → EntersCopy source dest old new had has opened
      listing_entered {new} {has} {opened} lists = after_made next opened made (subst (λ (ns : Names). ListsSource source dest next new ns has opened) (makes.1 ∙ looked.1) lists)

      pub listing_cut : {new : Store} → IsCut (read_dir_call next.contents source.key) next new → IsCutCopy source dest old new
      listing_cut cut = at_listing next made cut
