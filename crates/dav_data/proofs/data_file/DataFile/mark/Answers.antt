use Rattle.std.proofs.Common.{◌≡◌, ◌<◌, ◌≤◌, true, take, get_or, length, sym, subst}
use Rattle.std.proofs.lemmas.Bool.{and_parts, and_from}
use Rattle.std.proofs.lemmas.List.{take_more, take_all}
use Rattle.dav_data.specs.Runs.{piece_passes, blocks_pass}
use Rattle.dav_pieces.proofs.PieceLaws.{passes-at}
use Rattle.dav_data.proofs.Runs.{pass-weaker, pass-push}
use Rattle.dav_data.specs.Data.{in_use, is_held, is_spared}
use Rattle.dav_data.proofs.Bodies.{sound-body, body-kept}
use Rattle.dav_data.proofs.Adding.{no_piece}
use Rattle.dav_data.proofs.Keeping.{keeps-trans}
use Rattle.dav_data.proofs.data_file.DataFile.mark.Goals as goal

pub loop-piece-preserved : goal.loop-piece-preserved
loop-piece-preserved g c =
    let xs = c.args.body.now in let i = c.loop-piece.piece-index in
    let lt : i < length xs = subst (λ ys. i < length ys) c.pieces-piece-items.ensures c.loop-piece-test.true in
    record {
      kept = keeps-trans _ _ _ c.loop-piece.invariant.kept c.mark_piece.ensures.kept;
      more = λ at n is. c.mark_piece.ensures.more at n (c.loop-piece.invariant.more at n is);
      spared = λ held.
          let sound = pass-weaker _ _ c.loop-piece.invariant.kept.blocks.used xs (sound-body _ xs held) in
          let here : piece_passes (is_spared c.mark_piece.new.self) (get_or xs i no_piece) ≡ true =
          subst (λ ys. piece_passes (is_spared c.mark_piece.new.self) (get_or ys i no_piece) ≡ true) c.pieces-piece-items.ensures
          (c.mark_piece.ensures.spared (subst (λ ys. piece_passes (in_use c.loop-piece.self) (get_or ys i no_piece) ≡ true) (sym c.pieces-piece-items.ensures) (passes-at (piece_passes (in_use c.loop-piece.self)) xs i no_piece lt sound)))
          in
          let was = pass-weaker _ _ c.mark_piece.ensures.more (take i xs) (c.loop-piece.invariant.spared held) in
          subst (λ ys. blocks_pass (is_spared c.mark_piece.new.self) ys ≡ true) (sym (take_more xs i no_piece lt)) (pass-push _ (take i xs) (get_or xs i no_piece) was here);
    }

pub returns-clause-marked : goal.returns-clause-marked
returns-clause-marked g c = λ held.
    let xs = c.args.body.now in
    let all = subst (λ ys. length ys ≤ c.loop-piece.piece-index) c.pieces-piece-items.ensures c.loop-piece-test.false in
    and_from _ _ (body-kept _ _ c.loop-piece.invariant.kept.blocks.used xs held)
    (subst (λ ys. blocks_pass (is_spared c.loop-piece.self) ys ≡ true) (take_all c.loop-piece.piece-index xs all) (c.loop-piece.invariant.spared held))

pub returns-clause-marks : goal.returns-clause-marks
returns-clause-marks g c = λ other marked.
    let both = and_parts (is_held c.args.self.now other) (blocks_pass (is_spared c.args.self.now) other) marked in
    and_from _ _ (body-kept _ _ c.loop-piece.invariant.kept.blocks.used other both.0) (pass-weaker _ _ c.loop-piece.invariant.more other both.1)
