use Rattle.std.proofs.Common.{◌≡◌, ◌∙◌, ◌+◌, ◌-◌, ◌<◌, take, ap, sym, subst, inl, inr, ⊎_elim, arith}
use Rattle.std.proofs.lemmas.Bool.{eq-eqb}
use Rattle.std.proofs.lemmas.List.{get_or_read}
use Rattle.std.proofs.lemmas.List.Elements.{All-set}
use Rattle.sqlite_disk.specs.Digest.{digest}
use Rattle.dav_pieces.specs.Pieces.{bytes_at}
use Rattle.dav_space.specs.Space.{unused}
use Rattle.dav_blocks.specs.Blocks as blocks
use Rattle.dav_data.specs.Digests.{IsHashed, no_tail}
use Rattle.dav_data.specs.declared.hash.Tail.{Tail}
use Rattle.dav_data.specs.Data.{data_of, in_use, tail_at}
use Rattle.dav_data.proofs.Keeping.{hashed-kept}
use Rattle.dav_data.proofs.Causes.{failure-here}
use Rattle.dav_data.proofs.Growing.{grown-hashed, grown-right, part-len, part-same}
use Rattle.dav_data.proofs.data_file.DataFile.grow.Goals as goal

pub invariant_of-self-2 : goal.invariant_of-self-2
invariant_of-self-2 g c =
    let it = c.args.self.now in let tail = c.index-tail.result.now in
    let is = get_or_read it.tails.items c.args.index tail c.requires c.index-tail.ensures no_tail in
    let was = subst (IsHashed it.key (data_of it) (in_use it)) (sym is) (it.hashed c.args.index no_tail c.requires) in
    let kept = c.write_behind.ensures.kept in
    let some : 0 < c.in-Ok.len = omega arith in
    let written = c.in-Ok.ensures.written some in
    let long = part-len c.in-Ok.len c.min-most.result c.args.bytes.now written.most in
    let size : c.grown-grown.result.block.size ≡ tail.block.size + c.in-Ok.len = c.grown-grown.ensures.size ∙ ap (λ n. tail.block.size + n) long.0 in
    let there = written.bytes ∙ part-same c.in-Ok.len c.min-most.result c.args.bytes.now written.most in
    record {
      hashed = All-set (IsHashed it.key (blocks.data_of c.write_behind.new.self) (blocks.in_use c.write_behind.new.self)) it.tails.items c.args.index c.grown-grown.result
          (grown-hashed it.key (data_of it) (blocks.data_of c.write_behind.new.self) (unused c.write_behind.new.self.space) c.write_behind.new.self.end tail c.grown-grown.result c.in-Ok.len (take c.in-Ok.len c.args.bytes.now) (kept.used tail.block.at tail.block.size was.used) (kept.same tail.block.at tail.block.size was.used) written.used there c.grown-grown.ensures.at size was.hash (c.grown-grown.ensures.hash it.key))
          (hashed-kept it.key (data_of it) (blocks.data_of c.write_behind.new.self) (in_use it) (blocks.in_use c.write_behind.new.self) kept.used kept.same it.tails.items it.hashed);
      marked = it.marked;
    }

pub returns-in-Err-clause-cause : goal.returns-in-Err-clause-cause
returns-in-Err-clause-cause g c =
    let cause = ⊎_elim (λ unusable. inl unusable) (λ fault. inr (inr fault)) c.in-Err.ensures.err in
    failure-here _ _ c.in-Err.error _ c.failure.ensures.value cause (inr c.in-Err.ensures.room)

pub returns-clause-grown : goal.returns-clause-grown
returns-clause-grown g c =
    let it = c.args.self.now in let tail = c.index-tail.result.now in
    let is = get_or_read it.tails.items c.args.index tail c.requires c.index-tail.ensures no_tail in
    let was = subst (IsHashed it.key (data_of it) (in_use it)) (sym is) (it.hashed c.args.index no_tail c.requires) in
    let file = c.write_behind.new.self in let grown = c.grown-grown.result in
    let kept = c.write_behind.ensures.kept in
    let some : 0 < c.in-Ok.len = omega arith in
    let written = c.in-Ok.ensures.written some in
    let long = part-len c.in-Ok.len c.min-most.result c.args.bytes.now written.most in
    let size : grown.block.size ≡ tail.block.size + c.in-Ok.len = c.grown-grown.ensures.size ∙ ap (λ n. tail.block.size + n) long.0 in
    let there = written.bytes ∙ part-same c.in-Ok.len c.min-most.result c.args.bytes.now written.most in
    let more : grown.block.size - tail.block.size ≡ c.in-Ok.len = omega arith in
    let used = kept.used tail.block.at tail.block.size was.used in let same = kept.same tail.block.at tail.block.size was.used in
    let hashed = grown-hashed it.key (data_of it) (blocks.data_of file) (unused file.space) file.end tail grown c.in-Ok.len (take c.in-Ok.len c.args.bytes.now) used same written.used there c.grown-grown.ensures.at size was.hash (c.grown-grown.ensures.hash it.key) in
    let right = grown-right it.key (data_of it) (blocks.data_of file) (unused file.space) file.end tail grown c.in-Ok.len (take c.in-Ok.len c.args.bytes.now) used same written.used there c.grown-grown.ensures.at size was.hash (c.grown-grown.ensures.digest it.key) in
    let at_is : tail.block.at ≡ (tail_at c.args.index it).block.at = ap (λ (t : Tail). t.block.at) is in
    let size_is : tail.block.size ≡ (tail_at c.args.index it).block.size = ap (λ (t : Tail). t.block.size) is in
    let grew : grown.block.size - (tail_at c.args.index it).block.size ≡ c.in-Ok.len = omega arith in
    record {
      grows = (c.grown-grown.ensures.at ∙ at_is, omega arith);
      most = long.1;
      len = grew;
      same = (λ i. bytes_at (blocks.data_of file) (sym at_is i + sym size_is i) (grew i)) ∙ there;
      used = hashed.used;
      right = eq-eqb (digest it.key (bytes_at (blocks.data_of file) grown.block.at grown.block.size)) grown.block.digest (sym right);
    }
