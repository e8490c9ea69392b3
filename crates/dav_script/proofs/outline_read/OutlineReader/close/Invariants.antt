use Rattle.std.proofs.Common.{◌≡◌, ◌≤◌, length, max, min, vec_len}
use Rattle.dav_script.proofs.outline_read.OutlineReader.close.Given as goal

abbrev pub invariant-loop-self : goal.invariant-loop-self
invariant-loop-self l = record {
  line : l.self.line ≡ l.fn.self.line;
  least : min (length l.fn.self.unclosed.items) (max l.fn.level 1) ≤ length l.self.unclosed.items;
  most : length l.self.unclosed.items ≤ length l.fn.self.unclosed.items;
}

abbrev pub decreases-loop-self : goal.decreases-loop-self
decreases-loop-self l = vec_len l.self.unclosed
