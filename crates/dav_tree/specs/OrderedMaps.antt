-- The finite map that contracts see of an ordered map, by what they see of its keys. This project's own choice.
use Rattle.std.specs.Prelude.{◌≡◌, List, map}
use Rattle.std.specs.declared.cmp.Ordering.{Ordering}
use Rattle.std.specs.BTreeMap.{BTreeMap}
use Rattle.std.specs.FinMap.{FinMap, from_entries}
use Rattle.dav_key.specs.Key.{Key, key_cmp}

abbrev pub seen_entries : {K X : Type 0} → (K → Key) → List (K × X) → List (Key × X)
seen_entries key es = map (λ e. (key e.0, e.1)) es

abbrev pub seen_map : {K X : Type 0} → (K → Key) → BTreeMap K X → FinMap key_cmp X
seen_map key m = from_entries (seen_entries key m.entries)

-- a query compares to each key as the key `q` does
abbrev pub ComparesAs : {K : Type 0} → (K → Key) → (K → Ordering) → Key → Type 0
ComparesAs {K} key compare q = (k : K) → compare k ≡ key_cmp q (key k)

-- keys compare as what contracts see of them
abbrev pub OrdersAs : {K : Type 0} → (K → Key) → (K → K → Ordering) → Type 0
OrdersAs {K} key own = (k : K) → ComparesAs key (own k) (key k)
