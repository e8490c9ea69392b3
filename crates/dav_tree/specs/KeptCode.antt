-- A code by which proofs distinguish what is kept: this project's own choice.
use Rattle.std.specs.Prelude.{ℕ, Bool, List, Option, refl}
use Rattle.std.specs.Coded.{Coded, code_by, coded×, coded_ℕ, coded_bool, coded_option}
use Rattle.std.specs.Ordering.{nat_cmp}
use Rattle.std.specs.FinMap.{FinMap, code}
use base.Stored.{Gv}
use Rattle.dav_key.specs.Key.{key_cmp}
use Rattle.dav_resource.specs.TreeCode.{text_code}
use Rattle.dav_tree.specs.Memory.{Resources}
use Rattle.dav_tree.specs.Codes.{key_code, resources_code}
use Rattle.dav_tree.specs.Kept.{Kept}

-- a code is its own
abbrev coded_Gv : Coded Gv
coded_Gv = record { code = λ x. x; inj = λ x y same. same }

abbrev pub kept_code : Coded Kept
kept_code =
    code_by
    (Resources × (FinMap key_cmp ℕ × (FinMap nat_cmp (List ℕ) × (ℕ × (Bool × (Bool × (Option (List ℕ) × (Gv × (Gv × Gv)))))))))
    (coded× resources_code (coded× (code key_code coded_ℕ) (coded× (code coded_ℕ text_code) (coded× coded_ℕ (coded× coded_bool (coded× coded_bool (coded× (coded_option text_code) (coded× coded_Gv (coded× coded_Gv coded_Gv)))))))))
    (λ k. (k.resources, (k.numbers, (k.bodies, (k.next, (k.honest, (k.faultless, (k.settled, (k.tree, (k.before, k.older))))))))))
    (λ p. record { resources = p.0; numbers = p.1.0; bodies = p.1.1.0; next = p.1.1.1.0; honest = p.1.1.1.1.0; faultless = p.1.1.1.1.1.0; settled = p.1.1.1.1.1.1.0; tree = p.1.1.1.1.1.1.1.0; before = p.1.1.1.1.1.1.1.1.0; older = p.1.1.1.1.1.1.1.1.1 })
    (λ _. refl)
