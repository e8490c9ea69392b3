use Rattle.std.proofs.Common.{◌≡◌, length, map, sym, take, arith}
use Rattle.std.proofs.lemmas.List.{length-map, take_all}
use Rattle.dav_wire.specs.Fields.{field, fields}
use Rattle.dav_wire.specs.Views.{field_of}
use Rattle.dav_wire.proofs.WriteLemmas.{list_written}
use Rattle.dav_wire.proofs.writer.Writer.write_fields.Goals as goal

pub returns : goal.returns
unfolding fields
returns c =
    let all : take c.loop-pair.pair-index c.args.pairs.now ≡ c.args.pairs.now = take_all c.loop-pair.pair-index c.args.pairs.now (omega arith) in
    list_written field (map field_of c.args.pairs.now) (length c.args.pairs.now) c.args.self.now c.write_number.new.self c.loop-pair.self
    (sym (length-map c.args.pairs.now field_of)) c.in_ok-write_number.ensures (rw all at c.loop-pair.invariant)
