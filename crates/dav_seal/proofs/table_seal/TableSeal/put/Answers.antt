use Rattle.std.proofs.Common.{◌≡◌, ◌≤◌, ◌^◌, ◌∙◌, refl, ap, subst, arith}
use Rattle.std.proofs.lemmas.Int.{to_z-of_z}
use Rattle.dav_seal.specs.Paged.{number_at, Writes}
use Rattle.dav_seal.specs.Held.{place_of}
use Rattle.dav_seal.proofs.HeldLemmas.{put_has}
use Rattle.dav_seal.proofs.table_seal.TableSeal.put.Goals as goal

pub returns : goal.returns
returns c ds rising has =
    let old = c.args.self.now in
    let fits = c.ranges.number in
    let place : c.place_of.result ≡ place_of old.numbering c.args.number = simp to_z-of_z at c.place_of.ensures in
    let small : c.in_ok-old.old ≤ 2 ^ 64 = omega arith in
    put_has old _ c.args.number fits refl ds has c.args.digest c.in_ok-old.old rising
    (subst (λ p. Writes p c.args.digest old.digests c.put.new.self) place c.in_ok-old.ensures.new)
    (c.in_ok-old.ensures.old ∙ ap (number_at old.digests) place) small refl
