-- Codes by which proofs distinguish trees: this project's own choice.
use Rattle.std.specs.Prelude.{ℕ, refl}
use Rattle.std.specs.Coded.{Coded, code_by, coded×, coded_ℕ, coded_list}
use Rattle.std.specs.FinMap.{FinMap, code}
use Rattle.dav_key.specs.Key.{Key, key_cmp}
use Rattle.dav_nodes.specs.Tree.{Tree}

abbrev pub key_code : Coded Key
key_code = coded_list (coded_list coded_ℕ)

abbrev pub tree_code : {R : Type 0} → Coded R → Coded (Tree R)
tree_code {R} value =
    code_by
    (FinMap key_cmp R × FinMap key_cmp ℕ)
    (coded× (code key_code value) (code key_code coded_ℕ))
    (λ t. (t.values, t.numbers))
    (λ p. record { values = p.0; numbers = p.1 })
    (λ _. refl)
