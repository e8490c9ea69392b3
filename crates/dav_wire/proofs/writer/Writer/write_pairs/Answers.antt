use Rattle.std.proofs.Common.{◌≡◌, map, rules}
use Rattle.std.specs.Map.Iter.{deref_pair}
use Rattle.std.proofs.lemmas.Map.Iter.{iter_end}
use Rattle.dav_resource.specs.Element.{text_pair}
use Rattle.dav_wire.specs.Trees.{attribute}
use Rattle.dav_wire.proofs.WriteLemmas.{Run}
use Rattle.dav_wire.proofs.TreeWrites.{attributes_written}
use Rattle.dav_wire.proofs.writer.Writer.write_pairs.Goals as goal

pub returns : goal.returns
returns c =
    let all : map deref_pair c.loop-key.yielded ≡ c.args.pairs.now.entries = search (rules, iter_end) in
    let run : Run attribute (map text_pair c.args.pairs.now.entries) c.write_number.new.self c.loop-key.self = rw all at c.loop-key.invariant in
    attributes_written c.args.pairs.now.entries c.len.result c.args.self.now c.write_number.new.self c.loop-key.self c.len.ensures.len c.len.ensures.ordered
    c.in_ok-write_number.ensures run
