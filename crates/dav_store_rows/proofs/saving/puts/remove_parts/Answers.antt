use Rattle.std.proofs.Common.{arith, rules, w64}
use Rattle.std.proofs.lemmas.Int.{to_z-of_z}
use mir.Val.{SFits}
use Rattle.dav_store_rows.proofs.Appending.{removed_next}
use Rattle.dav_store_rows.proofs.saving.puts.remove_parts.Goals as goal

pub parts-preserved : goal.parts-preserved
parts-preserved c =
    let few = c.in_ok-key_of_part.ensures.few in
    let fits : SFits w64 c.in_ok-key_of_part.field-0 = search rules in
    let items = simp to_z-of_z at c.in_ok-push.ensures.items in
    record {
      appends = removed_next c.args.table c.args.number c.args.from c.parts.index c.in_ok-key_of_part.field-0 c.args.changes.now.items c.parts.changes.items
          c.push.new.self.items (omega arith) c.parts.invariant.appends c.in_ok-key_of_part.ensures.key items;
      few = λ more. omega arith;
      within = omega arith;
    }
