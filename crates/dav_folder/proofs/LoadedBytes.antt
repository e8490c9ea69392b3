-- What the files of a tree and those of its rows have in common.
use Rattle.std.proofs.Common.{◌≡◌, ◌∙◌, ◌<◌, ℕ, false, true, List, [], ◌∷◌, map, length, get_or, Option, Some, None, is_some, refl, sym, ap, subst, arith}
use Rattle.std.specs.Prelude.{Bool, ◌≤◌, All}
use Rattle.std.proofs.lemmas.List.{length-map, get_or-map}
use Rattle.std.specs.FinMap.{get}
use Rattle.std.specs.Option.{option_map}
use Rattle.sqlite_disk.specs.declared.Disk.{Ghosts}
use Rattle.dav_data.specs.Claimed.{is_safe, OpensRight}
use Rattle.dav_data.specs.Data.{is_below}
use Rattle.dav_data.specs.Digests.{are_right}
use Rattle.dav_data.specs.declared.claim.Claim as claim
use Rattle.dav_data.specs.declared.claimed_file.ClaimedFile.{ClaimedFile}
use Rattle.dav_folder.specs.Claims.{MeetsClaim}
use Rattle.dav_keep.specs.Ends.{AreBelow}
use Rattle.dav_key.specs.Key.{Key, parent}
use Rattle.dav_nodes.specs.Rows.{Row, own_name}
use Rattle.dav_nodes.specs.Tree.{Tree}
use Rattle.dav_nodes.specs.TreeRows.{numbered_row, row_with, AreRowsOf}
use Rattle.dav_nodes.specs.declared.nodes.loading.NumberedValue.{NumberedValue}
use Rattle.dav_nodes.specs.Rows.{HasRow}
use Rattle.dav_store_rows.proofs.Whole.{row_parts}
use Rattle.dav_store_rows.specs.Resources.{Kept}
use Rattle.dav_tree.specs.Entry.{is_held}
use Rattle.dav_tree.specs.Kept.{AreHeld}
use Rattle.dav_tree.specs.declared.entry.Content.{Content}
use Rattle.dav_tree.specs.declared.entry.Content.TheVariants as contents
use Rattle.dav_pieces.specs.declared.piece.Piece.{Piece}

abbrev IsRowBelow : ℕ → Row Kept → Type 0
IsRowBelow end row = is_held (is_below end) row.value.content ≡ true

row_below : (values : List (NumberedValue Kept)) (end k n : ℕ) (row : Row Kept) → AreBelow values end → k < length (map numbered_row values)
    → get_or (map numbered_row values) k (n, row) ≡ (n, row) → IsRowBelow end row
row_below [] end k n row below low is = absurd (omega (arith, low))
row_below (value ∷ values) end k n row below low is =
    let within : k < length (value ∷ values) = omega (arith, low, length-map (value ∷ values) numbered_row) in
    let same : numbered_row (get_or (value ∷ values) k value) ≡ (n, row) = sym (get_or-map numbered_row (value ∷ values) k value (n, row) within) ∙ is in
    subst (IsRowBelow end) (ap (λ p. p.1) same) (below k value within)

pub tree_below : (values : List (NumberedValue Kept)) (tree : Tree Kept) (end : ℕ) → AreRowsOf values tree → AreBelow values end → AreHeld (is_below end) tree
tree_below values tree end are below = λ key e here. by key e here (get tree.numbers key) refl
  where
    by : (key : Key) (e : Kept) → get tree.values key ≡ Some e → (number : Option ℕ) → get tree.numbers key ≡ number → is_held (is_below end) e.content ≡ true
    by key e here None at = absurd (let clash : false ≡ true = ap is_some (sym at) ∙ are.numbered key ∙ ap is_some here in cc)
    by key e here (Some n) at =
        let row : Row Kept = record { above = get tree.numbers (parent key); name = own_name key; value = e } in
        let has = (are.listed n row).1 (key, at, ap (option_map (λ value. record { above = get tree.numbers (parent key); name = own_name key; value = value })) here) in
        row_below values end has.0 n row below has.1 has.2

-- a test that each file of a tree passes, each file of its rows passes
pub rows_held : (test : List Piece → Bool) (values : List (NumberedValue Kept)) (tree : Tree Kept) → AreRowsOf values tree → AreHeld test tree
    → All (λ value. is_held test value.value.content ≡ true) values
rows_held test values tree are held k d low =
    let value = get_or values k d in
    let has : HasRow tree value.number (row_with value) =
    (are.listed value.number (row_with value)).0
    (k, omega (arith, low, length-map values numbered_row), get_or-map numbered_row values k d (numbered_row value) low) in
    held has.0 value.value (row_parts tree has.0 (row_with value) has.2).0

-- the files of rows that meet a claim are safe in the data file that is opened
module _ {D C : Type 0} {g : Ghosts D} {c : claim.Ghosts C} (it : ClaimedFile D C g c) (end digest_key : ℕ) (file : List ℕ) (opens : OpensRight end file it) where
  content_safe : (content : Content (List Piece)) → is_held (is_below end) content ≡ true
      → (c.holds ≡ true → (end ≤ length file) × (is_held (are_right c.key file) content ≡ true)) → is_held (is_safe it) content ≡ true
  content_safe (contents.File body) below right = opens body below right
  content_safe contents.Directory below right = refl

  pub rows_safe : (values : List (NumberedValue Kept)) → AreBelow values end → (c.holds ≡ true → MeetsClaim c.key file digest_key end values)
      → All (λ row. is_held (is_safe it) row.value.content ≡ true) values
  rows_safe values below meets k d low = content_safe (get_or values k d).value.content (below k d low) (λ up. ((meets up).within, (meets up).right k d low))
