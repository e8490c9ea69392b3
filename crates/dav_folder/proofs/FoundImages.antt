-- What is read of a folder, if the files of its database returned what was written.
use Rattle.std.proofs.Common.{◌≡◌, ℕ, true, List, [], Option, Result, Ok, Err, IsTrue, sym, subst, ◌∙◌}
use Rattle.std.specs.Prelude.{Bool, ◌&&◌, IfOk, OnErr}
use Rattle.std.proofs.lemmas.Bool.{and_parts, and_from}
use Rattle.dav_keep.specs.Images.{Image}
use Rattle.dav_keep.specs.Loading.{IsWholeImage}
use Rattle.dav_pieces.specs.declared.piece.Piece.{Piece}
use Rattle.dav_rows.specs.Contents.{Contents}
use Rattle.dav_rows.specs.declared.opening.Version.{Version}
use Rattle.dav_rows.specs.declared.opening.Version.TheVariants.{New, Older, Current}
use Rattle.dav_tree.specs.TreeFs.{memory_of, honest_of}
use Rattle.dav_tree.specs.declared.medium.Medium.{Ghosts}
use Rattle.dav_folder.specs.Reading.{IsReadFrom, HasReadBytes, ReadsImage, IsEmptyIfHonest}
use Rattle.dav_folder.specs.declared.reading.Found.{Found}

-- a premise that is known later
pub later : {T E Q : Type 0} (P : T → Type 0) (result : Result T E) → (Q → IfOk result P) → IfOk result (λ x. Q → P x)
later P (Ok x) f = λ q. f q
later P (Err e) f = tt

-- what holds anyway
pub ok_anyway : {T E P : Type 0} (result : Result T E) → P → IfOk result (λ x. P)
ok_anyway (Ok x) p = p
ok_anyway (Err e) p = tt

pub err_anyway : {T E P : Type 0} (result : Result T E) → P → OnErr result P
err_anyway (Ok x) p = tt
err_anyway (Err e) p = p

-- what follows on Ok
pub also : {T E : Type 0} {P Q : T → Type 0} (result : Result T E) → IfOk result P → ((x : T) → P x → Q x) → IfOk result Q
also (Ok x) p f = f x p
also (Err e) p f = tt

-- the current version is not an older one
pub not_older : (version : Version) → version ≡ Current → version ≡ Older → ⊥
not_older version now older = let e : Current ≡ Older = sym now ∙ older in cc

module _ {E M : Type 0} {g : Ghosts M (List Piece)} where
  pub reads_image : (result : Result (Found M (List Piece) g) E) (seen file : List ℕ) (limit : Option (Option ℕ)) (image : Image) (whole : IsWholeImage image) (tables : Contents) → seen ≡ file
      → IfOk result (IsReadFrom image tables) → IfOk result (HasReadBytes seen image whole)
      → IfOk result (λ found. (memory_of found.store).limit ≡ limit) → IfOk result (ReadsImage file limit image whole tables)
  reads_image (Ok found) seen file limit image whole tables same read bytes set =
      record { read = read; bytes = subst (λ f. HasReadBytes f image whole found) same bytes; limit_is = set }
  reads_image (Err e) seen file limit image whole tables same read bytes set = tt

  pub reads_empty : (result : Result (Found M (List Piece) g) E) (version : Version) (clean : Bool) (file : List ℕ) → IfOk result (λ found. found.version ≡ version)
      → IfOk result (λ found. honest_of found.store ≡ true → clean ≡ true) → (version ≡ New → clean ≡ true → file ≡ [])
      → IfOk result (λ found. found.version ≡ New → IsEmptyIfHonest found file)
  reads_empty (Ok found) version clean file is honest empty = λ new right. empty (sym is ∙ new) (honest right)
  reads_empty (Err e) version clean file is honest empty = tt

-- disks that are clean after reads were clean before them
pub were_clean : (old_log old_db new_log new_db : Bool) → (IsTrue new_log → IsTrue old_log) → (IsTrue new_db → IsTrue old_db) → IsTrue (new_log && new_db) → IsTrue (old_log && old_db)
were_clean old_log old_db new_log new_db log db both = and_from _ _ (log (and_parts _ _ both).0) (db (and_parts _ _ both).1)
