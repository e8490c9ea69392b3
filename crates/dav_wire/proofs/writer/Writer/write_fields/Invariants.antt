use Rattle.std.proofs.Common.{map, take}
use Rattle.dav_wire.specs.Fields.{field}
use Rattle.dav_wire.specs.Views.{field_of}
use Rattle.dav_wire.proofs.WriteLemmas.{Run}
use Rattle.dav_wire.proofs.writer.Writer.write_fields.Given as goal

abbrev pub invariant-loop-pair : goal.invariant-loop-pair
invariant-loop-pair l = Run field (map field_of (take l.pair-index l.pairs)) l.initial.self l.self
