use Rattle.std.proofs.Common.{◌≡◌, ◌≤◌, ◌^◌, ◌∙◌, refl, ap, subst, arith, rules, w64}
use Rattle.std.specs.Prelude.{FitsSigned}
use Rattle.std.proofs.lemmas.Int.{to_z-of_z}
use Rattle.dav_seal.specs.Paged.{number_at, Writes}
use Rattle.dav_seal.specs.Held.{place_of}
use Rattle.dav_seal.proofs.HeldLemmas.{removed_has}
use Rattle.dav_seal.proofs.table_seal.TableSeal.remove.Goals as goal

pub returns : goal.returns
returns c ds rising has =
    let old = c.args.self.now in
    let fits : FitsSigned w64 c.args.number.now = search rules in
    let place : c.place_of.result ≡ place_of old.numbering c.args.number.now = simp to_z-of_z at c.place_of.ensures in
    let small : c.clear-old.result ≤ 2 ^ 64 = omega arith in
    removed_has old _ c.args.number.now fits refl ds has c.clear-old.result rising
    (subst (λ p. Writes p 0 old.digests c.clear-old.new.self) place c.clear-old.ensures.new)
    (c.clear-old.ensures.old ∙ ap (number_at old.digests) place) small refl
