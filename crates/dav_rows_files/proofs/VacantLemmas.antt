-- An open that finds no table finds none however it takes the files.
use Rattle.std.proofs.Common.{◌≡◌, ◌∙◌, ◌+◌, ◌-◌, ◌*◌, ◌<◌, ◌≤◌, ℕ, true, false, Option, Some, unwrap_or, cond, eqb, List, [], ◌∷◌, ◌++◌, pos, length, take, slice_index, get_or-take, zero-add, refl, sym, ap, ap₂, subst, inl, inr, arith}
use Rattle.std.proofs.lemmas.Bool.{cases_Bool}
use Rattle.std.proofs.Math.Logic.{∥∥₁_elim}
use Rattle.sqlite_wal.specs.Format.{part}
use Rattle.sqlite_wal.specs.Recovery.{Pages, Image, pages_after}
use Rattle.sqlite_wal.proofs.PartLemmas.{slice_index-part, part_within}
use Rattle.sqlite_wal.proofs.RecoveryLemmas.{replays_once, recovers_once}
use Rattle.sqlite_wal.proofs.AppendLemmas.{some_value, page_from_pages}
use Rattle.sqlite_pool.specs.Stored.{reserved, stored_size, used_size, trimmed, Adopts}
use Rattle.sqlite_pool.specs.StoredLaws.{trimmed_some}
use Rattle.sqlite_pool.specs.File.{header_in, in_use, IsSoundFile}
use Rattle.sqlite_pool.specs.Opening.{IsBlankFile}
use Rattle.sqlite_pool.proofs.ProbeLemmas.{first_byte}
use Rattle.sqlite_store.specs.declared.catalog.Wanted.{Wanted}
use Rattle.sqlite_store.specs.Catalog.{is_present}
use Rattle.sqlite_store.specs.Db.{rows_at, roots_of}
use Rattle.sqlite_store.specs.Build.{listing}
use Rattle.sqlite_store.specs.Exact.{entries_of, AreRootsFor}
use Rattle.sqlite_store.specs.Listing.{listed, listed_from, file_trees, IsOurs}
use Rattle.sqlite_store.specs.Listed.{catalog_rows}
use Rattle.sqlite_store.proofs.ExactLemmas.{roots_fit}
use Rattle.sqlite_trees.specs.declared.store.Shape.{Shape}
use Rattle.sqlite_trees.specs.declared.store.Shape.TheVariants.{Absent, Table, Index, Pageless, FrozenTable, FrozenIndex}
use Rattle.sqlite_trees.specs.Objects.{catalog_tree}
use Rattle.sqlite_catalog.specs.Listing.{AreListed, IsSound, is_table_row, is_view_row}
use Rattle.sqlite.specs.declared.types.Value.TheVariants.{Int}
use Rattle.sqlite.specs.Order.{Row}
use Rattle.sqlite.specs.Tree.{Trees}
use Rattle.sqlite.specs.Files.{IsNothing, AreFoundIn}
use Rattle.dav_rows.specs.Tables.{no_schema}
use Rattle.dav_rows_files.specs.Starting.{IsVacant}

-- ---- what lists no object

-- each row of the list is that of a table, a view or an index
no_rows : (objects : List Row) → AreListed objects no_schema → objects ≡ []
no_rows [] listed = refl
no_rows (row ∷ rows) listed = absurd (elim (cases_Bool (is_table_row row)) [
  | inl table ↦ rw table at listed.tables
  | inr plain ↦ elim (cases_Bool (is_view_row row)) [
    | inl view ↦ rw view at listed.views
    | inr other ↦ rw (plain, other) at listed.indexes
  ]
])

pub unlisted : (db : Trees) → IsSound no_schema db → db catalog_tree ≡ []
unlisted db sound = no_rows (db catalog_tree) sound.lists.listed

none_listed : (from rowid : ℕ) (wanted : List Wanted) (roots : List ℕ) → listed_from from wanted ≡ [] → entries_of rowid wanted roots ≡ []
none_listed from rowid [] roots none = refl
none_listed from rowid (w ∷ rest) [] none = refl
none_listed from rowid (w ∷ rest) (root ∷ roots) none = go (none_listed (from + 1) (rowid + 1) rest roots) w.shape none
  where
    go : (listed_from (from + 1) rest ≡ [] → entries_of (rowid + 1) rest roots ≡ []) → (shape : Shape) → listed from w shape ++ listed_from (from + 1) rest ≡ []
        → cond (is_present shape) ((Int (pos rowid) ∷ listing w root) ∷ entries_of (rowid + 1) rest roots) (entries_of (rowid + 1) rest roots) ≡ []
    go behind Absent none = behind none
    go behind Table none = absurd (cc)
    go behind (Index o) none = absurd (cc)
    go behind Pageless none = absurd (cc)
    go behind FrozenTable none = absurd (cc)
    go behind (FrozenIndex o) none = absurd (cc)

none_there : (from rowid : ℕ) (wanted : List Wanted) (roots : List ℕ) → AreRootsFor wanted roots → entries_of rowid wanted roots ≡ [] → listed_from from wanted ≡ []
none_there from rowid [] roots fit none = refl
none_there from rowid (w ∷ rest) [] fit none = absurd fit
none_there from rowid (w ∷ rest) (root ∷ roots) fit none = go (none_there (from + 1) (rowid + 1) rest roots fit.2) w.shape none
  where
    go : (entries_of (rowid + 1) rest roots ≡ [] → listed_from (from + 1) rest ≡ []) → (shape : Shape)
        → cond (is_present shape) ((Int (pos rowid) ∷ listing w root) ∷ entries_of (rowid + 1) rest roots) (entries_of (rowid + 1) rest roots) ≡ []
        → listed from w shape ++ listed_from (from + 1) rest ≡ []
    go behind Absent none = behind none
    go behind Table none = absurd (cc)
    go behind (Index o) none = absurd (cc)
    go behind Pageless none = absurd (cc)
    go behind FrozenTable none = absurd (cc)
    go behind (FrozenIndex o) none = absurd (cc)

-- the pages of a file list the same objects under each schema that it is a file of
same_list : (size : ℕ) (pages : Pages) (wanted other : List Wanted) → IsOurs size true wanted pages → IsOurs size true other pages
    → file_trees size wanted pages catalog_tree ≡ [] → file_trees size other pages catalog_tree ≡ []
unfolding roots_of
same_list size pages wanted other ours theirs none =
    let live = in_use size pages in
    let listed : listed_from 0 wanted ≡ [] = sym (catalog_rows size wanted live) ∙ none in
    let empty : rows_at size live Table 1 ≡ [] = (ours.numbered refl).listed ∙ none_listed 0 1 wanted _ listed in
    catalog_rows size other live ∙ none_there 0 1 other (roots_of size other live) (roots_fit (rows_at size live Table 1) other) (sym (theirs.numbered refl).listed ∙ empty)

-- ---- one page size

roomy : (size : ℕ) (wanted : List Wanted) (pages : Pages) → IsOurs size true wanted pages → 480 ≤ size
roomy size wanted pages ours =
    let root = (ours.file.db.trees.kept 0).1.stored.shape.top.0 in
    omega (arith, root.sound.usable.0, root.size)

module _ (size : ℕ) (image : Image) (pages : Pages) (found : Adopts size image pages) (large : 480 ≤ size) (page : List ℕ) (first : found.stored 1 ≡ Some page) where
  head : (k : ℕ) → k < 100 → slice_index (header_in pages) k ≡ slice_index page k
  head k low =
      let used : pages 1 ≡ Some (take size page) = ap (λ (p : Pages). p 1) (sym found.shows) ∙ trimmed_some size _ 1 page first in
      let front : header_in pages ≡ take 100 (take size page) = ap (λ (o : Option (List ℕ)). take 100 (unwrap_or o [])) used in
      ap (λ (b : List ℕ). slice_index b k) front ∙ get_or-take 100 (take size page) k 0 low ∙ get_or-take size page k 0 (omega arith)

  -- with no frame to replay, the first page is that of the database file
  in_file : found.found.frames ≡ 0 → (stored_size size ≤ length image.db) × ((k : ℕ) → k < 100 → slice_index page k ≡ slice_index image.db k)
  in_file none =
      let whole = stored_size size in
      let alone : pages_after whole image.log image.db 0 1 ≡ Some page =
      ap (λ (p : Pages). p 1) (ap (pages_after whole image.log image.db) (sym none) ∙ found.found.gives) ∙ first in
      let start : (1 - 1) * whole ≡ 0 = omega arith in
      let front : part image.db 0 whole ≡ page = ap (λ (at : ℕ). part image.db at whole) (sym start) ∙ (page_from_pages whole image.log image.db 0 1 page alone).0 in
      let long = part_within image.db 0 whole (omega arith) (ap length front ∙ found.whole.sized 1 page first) in (
        omega arith,
        λ k low. ap (λ (b : List ℕ). slice_index b k) (sym front) ∙ slice_index-part image.db 0 whole k (omega arith) ∙ ap (slice_index image.db) (zero-add k),
      )

  -- such a file is not what an open left of a first page
  pub not_blank : IsSoundFile size pages → (other : ℕ) → 0 < other → ¬ IsBlankFile other image
  not_blank sound other some (inl none) = omega (arith, found.found.present)
  not_blank sound other some (inr blank) =
      let raw = found.found in
      let none : raw.frames ≡ 0 = elim blank.0 [
        | inl ignored ↦ replays_once (stored_size size) image.log raw.frames 0 raw.replays (inl (ignored.0, refl))
        | inr taken ↦ elim raw.replays [
          | inl ignored ↦ ignored.1
          | inr ours ↦ replays_once (stored_size size) image.log raw.frames 0 raw.replays (rw (sym ours.0.head.size ∙ taken.0.head.size) blank.0)
        ]
      ] in
      let (long, byte) = in_file none in
      let magic : slice_index image.db 0 ≡ 83 =
      sym (byte 0 (omega arith)) ∙ sym (head 0 (omega arith)) ∙ sym (get_or-take 16 (header_in pages) 0 0 (omega arith)) ∙ ap (λ (b : List ℕ). slice_index b 0) sound.header.0.magic in
      elim blank.1.0 [
        | inl short ↦ omega arith
        | inr more ↦ elim more [ inl zero' ↦ omega (arith, zero'.1) | inr rest ↦ rest.1 (magic ∙ sym (first_byte other some)) ]
      ]

cancel : (a b r s : ℕ) → a + r ≡ b + s → r * 0x100_0000 + 0x0040_2020 ≡ s * 0x100_0000 + 0x0040_2020 → a ≡ b
cancel a b r s sizes words = omega arith

-- headers with the same bytes name one size
named_once : (size other : ℕ) (p q : Pages) → IsSoundFile size p → IsSoundFile other q → ((k : ℕ) → k < 100 → slice_index (header_in p) k ≡ slice_index (header_in q) k) → size ≡ other
named_once size other p q one two same =
    let named = ap₂ (λ (a b : ℕ). a * 256 + b) (same 16 (omega arith)) (same 17 (omega arith)) in
    let sizes : stored_size size ≡ stored_size other = sym one.header.0.size ∙ ap (λ (n : ℕ). cond (eqb n 1) 65536 n) named ∙ two.header.0.size in
    let high = ap₂ (λ (a b : ℕ). a * 256 + b) (same 20 (omega arith)) (same 21 (omega arith)) in
    let low = ap₂ (λ (a b : ℕ). a * 256 + b) (same 22 (omega arith)) (same 23 (omega arith)) in
    let words = sym one.header.1.fractions ∙ ap₂ (λ (a b : ℕ). a * 65536 + b) high low ∙ two.header.1.fractions in
    cancel size other (reserved size) (reserved other) sizes words

module _ (size other : ℕ) (image : Image) (p q : Pages) (a : Adopts size image p) (b : Adopts other image q) (large : 480 ≤ size) (large_too : 480 ≤ other) where
  in_both : a.found.frames ≡ 0 → b.found.frames ≡ 0 → (k : ℕ) → k < 100 → slice_index (header_in p) k ≡ slice_index (header_in q) k
  in_both none none_too k low =
      let (one, is) = some_value (a.stored 1) a.whole.first in
      let (two, is_too) = some_value (b.stored 1) b.whole.first in
      head size image p a large one is k low ∙ (in_file size image p a large one is none).1 k low
      ∙ sym ((in_file other image q b large_too two is_too none_too).1 k low) ∙ sym (head other image q b large_too two is_too k low)

  by_log : stored_size size ≡ stored_size other → (k : ℕ) → k < 100 → slice_index (header_in p) k ≡ slice_index (header_in q) k
  by_log sizes k low =
      let (one, is) = some_value (a.stored 1) a.whole.first in
      let (two, is_too) = some_value (b.stored 1) b.whole.first in
      let stored : a.stored ≡ b.stored = recovers_once (stored_size size) image a.stored b.stored a.found (rw sizes b.found) in
      let page : one ≡ two = (let both : Some one ≡ Some two = sym is ∙ ap (λ (p : Pages). p 1) stored ∙ is_too in cc) in
      head size image p a large one is k low ∙ ap (λ (b : List ℕ). slice_index b k) page ∙ sym (head other image q b large_too two is_too k low)

  one_size : IsSoundFile size p → IsSoundFile other q → size ≡ other
  one_size one two = named_once size other p q one two (elim a.found.replays [
    | inl ignored ↦ in_both ignored.1 (replays_once (stored_size other) image.log b.found.frames 0 b.found.replays (inl (ignored.0, refl)))
    | inr taken ↦ elim b.found.replays [
      | inl ignored ↦ in_both (replays_once (stored_size size) image.log a.found.frames 0 a.found.replays (inl (ignored.0, refl))) ignored.1
      | inr taken_too ↦ by_log (sym taken.0.head.size ∙ taken_too.0.head.size)
    ]
  ])

-- ---- what an open finds

is_something : (size : ℕ) (image : Image) (pages : Pages) (wanted : List Wanted) → Adopts size image pages → IsOurs size true wanted pages → ¬ IsNothing image
is_something size image pages wanted found ours nothing =
    let (page, first) = some_value (found.stored 1) found.whole.first in
    let never = not_blank size image pages found (roomy size wanted pages ours) page first ours.file.sound in
    elim nothing [ inl plain ↦ never (used_size 4096 false) (omega arith) plain | inr summed ↦ never (used_size 4096 true) (omega arith) summed ]

both_empty : (size : ℕ) (image : Image) (p q : Pages) (wanted other : List Wanted) → Adopts size image p → IsOurs size true wanted p → file_trees size wanted p catalog_tree ≡ []
    → Adopts size image q → IsOurs size true other q → file_trees size other q catalog_tree ≡ []
both_empty size image p q wanted other a ours none b theirs =
    let same : p ≡ q = sym a.shows ∙ ap (trimmed size) (recovers_once (stored_size size) image a.stored b.stored a.found b.found) ∙ b.shows in
    same_list size q wanted other (subst (IsOurs size true wanted) same ours) theirs (subst (λ p. file_trees size wanted p catalog_tree ≡ []) same none)

all_empty : (size more : ℕ) (image : Image) (p q : Pages) (wanted other : List Wanted) → Adopts size image p → IsOurs size true wanted p → file_trees size wanted p catalog_tree ≡ []
    → Adopts more image q → IsOurs more true other q → file_trees more other q catalog_tree ≡ []
all_empty size more image p q wanted other a ours none b theirs =
    let same : size ≡ more = one_size size more image p q a b (roomy size wanted p ours) (roomy more other q theirs) ours.file.sound theirs.file.sound in
    subst (λ (n : ℕ). Adopts n image q → IsOurs n true other q → file_trees n other q catalog_tree ≡ []) same (both_empty size image p q wanted other a ours none) b theirs

unless_some : (rows : List Row) → ¬ ¬ (rows ≡ []) → rows ≡ []
unless_some [] h = refl
unless_some (row ∷ rows) h = absurd (h (λ is. cc))

pub only_vacant : (image : Image) (db : Trees) → AreFoundIn image db → db catalog_tree ≡ [] → IsVacant image
only_vacant image db found none other (inr nothing) = nothing.1.1
only_vacant image db (inr nothing) none other (inl it) =
    unless_some (other catalog_tree) λ never. ∥∥₁_elim it.4 (hlevel) (λ theirs. is_something it.0 image it.1 it.2 it.3 theirs nothing.0)
only_vacant image db (inl its) none other (inl it) =
    unless_some (other catalog_tree) λ never.
    ∥∥₁_elim its.4 (hlevel) (λ ours. ∥∥₁_elim it.4 (hlevel) (λ theirs.
    let empty : file_trees its.0 its.2 its.1 catalog_tree ≡ [] = sym (ap (λ (db : Trees). db catalog_tree) its.5) ∙ none in
    never (ap (λ (db : Trees). db catalog_tree) it.5 ∙ all_empty its.0 it.0 image its.1 it.1 its.2 it.2 its.3 ours empty it.3 theirs)))
