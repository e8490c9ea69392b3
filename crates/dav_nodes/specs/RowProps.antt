-- Laws for the ghost fields of `NotedNodes`: each fact has at most one proof.
use Rattle.std.specs.Prelude.{◌≡◌, ℕ, true, List, Option, Some, None, is_some, refl}
use Rattle.std.specs.Coded.{Coded, Coded-set, code_by, coded×, coded_option, coded_list, coded_ℕ, coded_bool}
use Rattle.std.specs.FinMap.{get}
use mathlib.Core.HLevel.{is_prop→PathP}
use Rattle.dav_nodes.specs.Codes.{key_code}
use Rattle.dav_nodes.specs.Tree.{Tree}
use Rattle.dav_nodes.specs.Rows.{Row, row_of, HasRow, KeepsRow, AreDistinct, is_noted, HasNoted, AreNoted}
use Rattle.dav_nodes.specs.declared.changes.Changes.{Changes}

abbrev row_code : {R : Type 0} → Coded R → Coded (Row R)
row_code {R} value =
    code_by
    (Option ℕ × (Option (List ℕ) × R))
    (coded× (coded_option coded_ℕ) (coded× (coded_option (coded_list coded_ℕ)) value))
    (λ r. (r.above, (r.name, r.value)))
    (λ p. record { above = p.0; name = p.1.0; value = p.1.1 })
    (λ _. refl)

module _ {R : Type 0} where
  AreDistinct-prop : (tree : Tree R) → IsProp (AreDistinct tree)
  AreDistinct-prop tree x y = λ i a b number p q. Coded-set key_code a b (x a b number p q) (y a b number p q) i

  module _ (code : Coded R) where
    HasRow-prop : (tree : Tree R) → AreDistinct tree → (number : ℕ) (row : Row R) → IsProp (HasRow tree number row)
    HasRow-prop tree distinct number row (a, p, x) (b, q, y) =
        let same : a ≡ b = distinct a b number p q in
        λ i. (
          same i,
          is_prop→PathP (λ j. get tree.numbers (same j) ≡ Some number) (λ j. Coded-set (coded_option coded_ℕ) (get tree.numbers (same j)) (Some number)) p q i,
          is_prop→PathP (λ j. row_of tree (same j) ≡ Some row) (λ j. Coded-set (coded_option (row_code code)) (row_of tree (same j)) (Some row)) x y i,
        )

    KeepsRow-prop : (number : ℕ) (old now : Tree R) → AreDistinct old → AreDistinct now → IsProp (KeepsRow number old now)
    KeepsRow-prop number old now of_old of_now x y = λ i. record {
      kept = λ row has. HasRow-prop now of_now number row (x.kept row has) (y.kept row has) i;
      had = λ row has. HasRow-prop old of_old number row (x.had row has) (y.had row has) i;
    }

    HasNoted-prop : (changes : Changes) (old now : Tree R) → IsProp (HasNoted changes old now)
    HasNoted-prop changes old now x y = λ i. record {
      numbered_old = λ key. Coded-set coded_bool (is_some (get old.numbers key)) (is_some (get old.values key)) (x.numbered_old key) (y.numbered_old key) i;
      distinct_old = AreDistinct-prop old x.distinct_old y.distinct_old i;
      distinct_now = AreDistinct-prop now x.distinct_now y.distinct_now i;
      kept = λ number out. KeepsRow-prop number old now x.distinct_old x.distinct_now (x.kept number out) (y.kept number out) i;
    }

    pub AreNoted-prop : (changes : Changes) (before : Option (Tree R)) (now : Tree R) → IsProp (AreNoted changes before now)
    AreNoted-prop changes None now x y = λ i number. Coded-set coded_bool (is_noted changes number) true (x number) (y number) i
    AreNoted-prop changes (Some old) now x y = HasNoted-prop changes old now x y
