use Rattle.std.proofs.Common.{◌≡◌, ◌∙◌, ◌∷◌, ◌++◌, [], take, ap, inr, rules}
use Rattle.sqlite_disk.specs.Digest.{digest}
use Rattle.dav_pieces.specs.Pieces.{bytes_of}
use Rattle.dav_data.specs.Runs.{blocks_pass}
use Rattle.dav_data.specs.Digests.{are_right}
use Rattle.dav_data.specs.Data.{data_of, in_use, IsForced}
use Rattle.dav_data.proofs.Keeping.{keeps-trans}
use Rattle.dav_data.proofs.Causes.{failure-later}
use Rattle.dav_data.proofs.Adding.{whole, bytes-added, right-added, sound-added}
use Rattle.dav_data.proofs.data_file.DataFile.add.Goals as goal

pub rest-preserved : goal.rest-preserved
rest-preserved g c =
    let was = c.rest.invariant in let first = c.in_ok-tail.ensures.first in let kept = c.add_block.ensures.kept in
    let block = c.in_ok-tail.tail.block in
    let pushed : c.push.new.self.items ≡ c.rest.pieces.items ++ whole block ∷ [] = c.in_ok-push.ensures.items ∙ ap (λ piece. c.rest.pieces.items ++ piece ∷ []) c.whole.ensures in
    let key = kept.key in
    record {
      kept = keeps-trans _ _ _ was.kept kept;
      same =
          ap (λ pieces. bytes_of (data_of c.add_block.new.self) pieces ++ c.split_at.result.1.now) pushed
          ∙ bytes-added c.rest.self.key _ _ _ kept.blocks.same c.rest.pieces.items was.sound block c.rest.rest.now first.same _ _ c.split_at.ensures.back was.same;
      sound =
          ap (blocks_pass (in_use c.add_block.new.self)) pushed
          ∙ sound-added _ _ kept.blocks.used c.rest.pieces.items was.sound block first.hashed.used;
      right =
          (λ i. are_right (key i) (data_of c.add_block.new.self) (pushed i))
          ∙ right-added c.rest.self.key _ _ _ kept.blocks.same c.rest.pieces.items was.sound block c.rest.rest.now first.same (first.right ∙ ap (λ k. digest k (take block.size c.rest.rest.now)) key) was.right;
      last = first.hashed;
    }

pub returns-in_err-tail-clause-cause : goal.returns-in_err-tail-clause-cause
returns-in_err-tail-clause-cause g c =
    let forced : IsForced c.args.self.now c.add_block.new.self c.in_err-tail.field-0.0 = inr (failure-later _ _ _ c.rest.invariant.kept _ c.in_err-tail.ensures.cause) in
    search rules
