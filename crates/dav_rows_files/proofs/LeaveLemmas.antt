-- What a start that fails leaves of the files.
use Rattle.std.proofs.Common.{◌≡◌, ◌⊎◌, ◌<◌, ◌≤◌, ◌%◌, ◌==◌, ◌∙◌, inl, inr, ℕ, Bool, true, false, if◌then◌else◌, IsTrue, List, [], length, take, slice_index, Some, Option, unwrap_or, get_or-take, arith, refl, sym, ap, subst}
use Rattle.std.proofs.lemmas.Bool.{cases_eq, cases_Bool}
use Rattle.std.proofs.lemmas.List.{length-take}
use Rattle.std.proofs.Math.Logic.{∥∥₁_map, ∥∥₁_elim}
use Rattle.sqlite_disk.specs.declared.Disk.{Ghosts}
use Rattle.sqlite_disk.specs.declared.Files.{Files}
use Rattle.sqlite_wal.specs.Files.{outcomes}
use Rattle.sqlite_wal.specs.Format.{be32}
use Rattle.sqlite_wal.specs.PageSize.{IsPageSize}
use Rattle.sqlite_wal.specs.Recovery.{IsIgnored, Pages}
use Rattle.sqlite_wal.specs.Recovery as raw
use Rattle.sqlite_wal.proofs.AppendLemmas.{some_value}
use Rattle.sqlite_wal.proofs.CreateLemmas.{begun_is_not_blank}
use Rattle.sqlite_pool.specs.File.{header_in, IsSoundFile}
use Rattle.sqlite_pool.specs.Header.{first_page}
use Rattle.sqlite_pool.specs.Stored.{Adopts, StandsAs, is_summed, reserved, sealed, stored_size, used_size}
use Rattle.sqlite_pool.specs.StoredLaws.{trimmed_some}
use Rattle.sqlite_pool.proofs.ProbeLemmas.{first_byte, reserved_word, size_by_file, size_by_log}
use Rattle.sqlite_store.specs.declared.store.FileStore.{FileStore}
use Rattle.sqlite_store.specs.FileStore.{state, view, recovers}
use Rattle.sqlite_store.specs.Unopened.{state_of}
use Rattle.sqlite_trees.specs.Objects.{catalog_tree}
use Rattle.sqlite_catalog.specs.Listing.{IsSound}
use Rattle.sqlite.specs.declared.file.Leftover.{Leftover}
use Rattle.sqlite.specs.declared.file.Leftover.TheVariants as left
use Rattle.sqlite.specs.Files.{HoldsDatabase, IsNothing, LeavesFiles, NamesSize, SaysSums, image_of}
use Rattle.sqlite.specs.Held.{AreDatabases}
use Rattle.sqlite.specs.Opening.{HoldsIn}
use Rattle.sqlite.specs.Recovery.{Image}
use Rattle.sqlite.specs.Tree.{Trees}
use Rattle.sqlite.proofs.FileLemmas.{is_something}
use Rattle.sqlite.proofs.ListingLemmas.{empty_is_sound}
use Rattle.sqlite.proofs.Theorems.{opens_again}
use Rattle.dav_rows_files.specs.Starting.{HasSums, IsExempt, IsUnused, IsVacant, MayLeave}

-- ---- the size of the pages

-- how many bytes a page keeps for its sum
abbrev sum_len : Bool → ℕ
sum_len is_summed = if is_summed then 8 else 0

spare : (n : ℕ) (flag : Bool) → is_summed n ≡ flag → reserved n ≡ sum_len flag
spare n flag is = go (n % 16 == 8) flag is
  where
    go : (c flag : Bool) → (sum_len c == 8) ≡ flag → sum_len c ≡ sum_len flag
    go true true is = refl
    go true false is = absurd (cc)
    go false true is = absurd (cc)
    go false false is = refl

module _ (image : Image) (db : Trees) (held : HoldsDatabase image db) (size : ℕ) (named : NamesSize image (stored_size size)) where
  large : 504 ≤ held.0
  large = let few : reserved held.0 ≤ 8 = grind arith in omega (arith, held.1.0)

  same_stored : stored_size held.0 ≡ stored_size size
  same_stored = elim (cases_eq (stored_size held.0) (stored_size size)) [
    | inl same ↦ same
    | inr other ↦
        let read = λ (seen : ¬ IsIgnored image.log). other (sym (size_by_log held.0 image held.2.pages held.2.found seen) ∙ sym (named.0 seen)) in
        absurd (read (λ ignored. other (sym (size_by_file held.0 image held.2.pages held.2.found large held.2.ours.file.sound ignored) ∙ sym (named.1 ignored))))
  ]

  alike : (flag : Bool) → is_summed held.0 ≡ flag → is_summed size ≡ flag → held.0 ≡ size
  alike flag old new = let a = spare held.0 flag old in let b = spare size flag new in omega (arith, a, b, same_stored)

  -- a header that says so is that of pages with sums
  summed : SaysSums (stored_size size) image → is_summed held.0 ≡ true
  summed says =
      let (first, is, len, word, magic) = reserved_word held.0 image held.2.pages held.2.found large held.2.ours.file.sound in
      let found = subst (λ n. raw.Recovers n image held.2.found.stored) same_stored held.2.found.found in
      let said : be32 first 20 ≡ 0x0840_2020 = says held.2.found.stored first found is (len ∙ same_stored) in
      let eight : reserved held.0 ≡ 8 = omega (arith, word, said) in
      rw eight refl

  pub same_size : (IsTrue (is_summed size) → SaysSums (stored_size size) image) → (held.0 ≡ size) ⊎ (HasSums image × (is_summed size ≡ false))
  same_size says = elim (cases_Bool (is_summed size)) [
    | inl with_sums ↦ inl (alike true (summed (says with_sums)) with_sums)
    | inr plain ↦ elim (cases_Bool (is_summed held.0)) [
      | inl with_sums ↦ inr ((db, held, with_sums), plain)
      | inr also ↦ inl (alike false also plain)
    ]
  ]

  -- what stands for the same pages holds the same database
  pub stands_again : (now : Image) → held.0 ≡ size → StandsAs size image now → HoldsDatabase now db
  stands_again now same stands =
      let at : HoldsIn size image db = subst (λ n. HoldsIn n image db) same held.2 in (
        size,
        subst (λ n. IsPageSize (stored_size n)) same held.1,
        record { pages = at.pages; wanted = at.wanted; schema = at.schema; found = stands.1 at.pages at.found; ours = at.ours; reads = at.reads; sound = at.sound },
      )

-- ---- files that are new

-- files that recover to a sound file are not new
recovers_something : (size : ℕ) (image : Image) (pages : Pages) → Adopts size image pages → IsSoundFile size pages → ¬ IsNothing image
recovers_something size image pages found sound nothing =
    let (page, is) = some_value (found.stored 1) found.whole.first in
    let used : pages 1 ≡ Some (take size page) = ap (λ (p : Pages). p 1) (sym found.shows) ∙ trimmed_some size _ 1 page is in
    let head : header_in pages ≡ take 100 (take size page) = ap (λ (o : Option (List ℕ)). take 100 (unwrap_or o [])) used in
    let sixteen : length (take 16 (header_in pages)) ≡ 16 = ap length sound.header.0.magic in
    let long : 16 ≤ size = omega (arith, sixteen, length-take 16 (header_in pages), ap length head, length-take 100 (take size page), length-take size page) in
    let magic : slice_index page 0 ≡ 83 =
    sym (get_or-take size page 0 0 (omega arith)) ∙ sym (get_or-take 100 (take size page) 0 0 (omega arith)) ∙ ap (λ (b : List ℕ). slice_index b 0) (sym head)
    ∙ sym (get_or-take 16 (header_in pages) 0 0 (omega arith)) ∙ ap (λ (b : List ℕ). slice_index b 0) sound.header.0.magic in
    let never = λ (other : ℕ) (some : 0 < other). let gate = first_byte other some in
    begun_is_not_blank (sealed (first_page other)) page (stored_size size) image found.stored found.found is (found.whole.sized 1 page is) (omega arith) (magic ∙ sym gate)
    (λ none. let never = sym gate ∙ none in omega arith) in
    elim nothing [ inl plain ↦ never (used_size 4096 false) (omega arith) plain | inr summed ↦ never (used_size 4096 true) (omega arith) summed ]

-- an open finds no table in files that are new
pub nothing_is_vacant : (image : Image) → IsNothing image → IsVacant image
nothing_is_vacant image nothing db (inl some) =
    absurd (∥∥₁_elim some.4 (λ a b. absurd a) (λ ours. recovers_something some.0 image some.1 some.3 ours.file.sound nothing))
nothing_is_vacant image nothing db (inr empty) = empty.1.1

-- ---- an open that failed

-- whatever a crash leaves of a store holds one of its databases
pub holds_some : {D : Type 0} {g : Ghosts D} (it : FileStore D g) (Q : Trees → Type 0) → IsTrue (view it).is_numbered → AreDatabases (recovers it) → ((db : Trees) → recovers it db → Q db)
    → (left : Image) → (state it).may_leave left → ∥ ((db : Trees) × HoldsDatabase left db × Q db) ∥₁
holds_some it Q numbered sound obeys left may =
    ∥∥₁_map (opens_again it numbered sound left may) (λ found. let r : (db : Trees) × HoldsDatabase left db × Q db = (found.0, found.2, obeys found.0 found.1) in r)

module _ {D : Type 0} {g : Ghosts D} (files : Files D) where
  -- what such an open leaves holds the database that the files held
  pub open_holds : (rest : Leftover D g) (db : Trees) → HoldsDatabase (image_of g files) db → LeavesFiles files rest → (image : Image) → MayLeave rest image
      → outcomes g files.log files.db image ⊎ (∥ HoldsDatabase image db ∥₁ ⊎ IsExempt (image_of g files) rest)
  open_holds (left.Files now) db held leaves image may = inl (leaves image may)
  open_holds (left.Unopened now) db held (inl new) image may = absurd (is_something (image_of g files) db held new.0)
  open_holds (left.Unopened now) db held (inr (some, named, begins, says, kept)) image may = elim (kept image may).same [
    | inl old ↦ inl old
    | inr stands ↦
        let old = image_of g files in
        let size = (state_of now).page_size in
        elim (same_size old db held size named says) [
          | inl same ↦ inr (inl ∣ stands_again old db held size named image same stands ∣₁)
          | inr exempt ↦ inr (inr exempt)
        ]
  ]
  open_holds (left.Store now) db held leaves image may = elim (cases_Bool (view now).is_numbered) [
    | inr exempt ↦ inr (inr exempt)
    | inl numbered ↦
        let same = λ (found : Trees) (may : recovers now found). (leaves found may).1 db held in
        let sound : AreDatabases (recovers now) = λ found may. (held.2.schema, subst (IsSound held.2.schema) (sym (same found may)) held.2.sound) in
        inr (inl (∥∥₁_map (holds_some now (λ found. found ≡ db) numbered sound same image may) (λ found. subst (HoldsDatabase image) found.2 found.1)))
  ]

  -- what it leaves of new files has no table
  pub open_empty : (rest : Leftover D g) → IsNothing (image_of g files) → IsVacant (image_of g files) → LeavesFiles files rest → (image : Image) → MayLeave rest image
      → outcomes g files.log files.db image ⊎ (∥ IsUnused image ∥₁ ⊎ IsExempt (image_of g files) rest)
  open_empty (left.Files now) nothing vacant leaves image may = inl (leaves image may)
  open_empty (left.Unopened now) nothing vacant (inl new) image may = elim (new.1 image may) [
    | inl old ↦ inl old
    | inr (inl still) ↦ inr (inl ∣ inl (still, nothing_is_vacant image still) ∣₁)
    | inr (inr made) ↦ inr (inl (∥∥₁_map made (λ held. let r : IsUnused image = inr (held.0, held.1, held.2.1) in r)))
  ]
  open_empty (left.Unopened now) nothing vacant (inr some) image may = absurd (some.0 nothing)
  open_empty (left.Store now) nothing vacant leaves image may = elim (cases_Bool (view now).is_numbered) [
    | inr exempt ↦ inr (inr exempt)
    | inl numbered ↦
        let none = λ (found : Trees) (may : recovers now found). vacant found (leaves found may).0 in
        let sound : AreDatabases (recovers now) = λ found may. (_, empty_is_sound found (none found may)) in
        inr (inl (∥∥₁_map (holds_some now (λ found. found catalog_tree ≡ []) numbered sound none image may) (λ found. let r : IsUnused image = inr found in r)))
  ]
