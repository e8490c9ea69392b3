use Rattle.std.proofs.Common.{◌≡◌, ◌∙◌, true, take, get_or, length, ap, sym, subst, rules}
use Rattle.std.proofs.lemmas.List.{take_more, take_all}
use Rattle.dav_pieces.specs.Pieces.{piece_bytes, bytes_of, is_sound, is_within, are_within}
use Rattle.dav_pieces.proofs.PieceLaws.{are_within-from_sound, passes-at}
use Rattle.dav_data.specs.Digests.{is_right, are_right, IsChecked, AreChecked}
use Rattle.dav_data.specs.Runs.{run_passes, piece_passes, blocks_pass}
use Rattle.dav_data.specs.Data.{data_of, in_use, has_digest, has_digests, IsUnread}
use Rattle.dav_data.proofs.Runs.{pass-weaker}
use Rattle.dav_data.proofs.Causes.{unread-later}
use Rattle.dav_data.proofs.Adding.{no_piece}
use Rattle.dav_data.proofs.Bodies.{sound-body}
use Rattle.dav_data.proofs.Keeping.{keeps-trans}
use Rattle.dav_data.proofs.Reading.{bytes-more, count-more, checked-more}
use Rattle.dav_data.proofs.Collisions.{read-or}
use Rattle.dav_data.proofs.data_file.DataFile.read_checked.Goals as goal

pub cut-requires : goal.cut-requires
cut-requires g c = are_within-from_sound _ c.args.body.now (sound-body _ c.args.body.now c.requires)

pub read_piece-requires : goal.read_piece-requires
read_piece-requires g c =
    let xs = c.as_slice-piece-items.result.now in
    let sound = c.in_ok-pieces.ensures.sound _ (sound-body _ c.args.body.now c.requires) in
    let within = subst (λ ys. are_within ys ≡ true) (sym c.as_slice-piece-items.ensures.value) (are_within-from_sound _ c.in_ok-pieces.pieces.items sound) in
    passes-at is_within xs c.loop-piece.piece-index no_piece c.loop-piece-test.true within

pub loop-piece-preserved : goal.loop-piece-preserved
loop-piece-preserved g c =
    let xs = c.as_slice-piece-items.result.now in let i = c.loop-piece.piece-index in let lt = c.loop-piece-test.true in
    let piece = get_or xs i no_piece in let file = data_of c.args.self.now in
    let was = c.loop-piece.invariant in let read = c.in_ok-read_piece.ensures.ok in let more = c.read_piece.new.found.items in
    record {
      kept = keeps-trans _ _ _ was.kept c.read_piece.ensures.kept;
      same = c.read_piece.ensures.same ∙ was.same;
      honest = λ honest. was.honest (c.read_piece.ensures.honest honest);
      bytes = λ honest. bytes-more file xs i no_piece lt _ read.part more read.appended (was.bytes (c.read_piece.ensures.honest honest)) (read.bytes honest ∙ ap (λ f. piece_bytes f piece) was.same);
      count = count-more file xs i no_piece lt _ read.part more read.appended was.count read.len;
      checked =
          let checked = subst (λ key. IsChecked key piece read.part) was.kept.key read.checked in
          subst (λ ys. AreChecked c.args.self.now.key ys more) (sym (take_more xs i no_piece lt)) (checked-more c.args.self.now.key (take i xs) piece _ read.part more was.checked checked read.appended);
    }

pub returns-in_err-read_piece-clause-cause : goal.returns-in_err-read_piece-clause-cause
returns-in_err-read_piece-clause-cause g c =
    let it = c.args.self.now in let middle = c.loop-piece.self in let was = c.loop-piece.invariant in
    let xs = c.as_slice-piece-items.result.now in let i = c.loop-piece.piece-index in let lt = c.loop-piece-test.true in
    let piece = get_or xs i no_piece in
    let used : piece_passes (in_use middle) piece ≡ true =
    let sound = c.in_ok-pieces.ensures.sound (run_passes (in_use it)) (sound-body _ c.args.body.now c.requires) in
    let all = subst (λ ys. blocks_pass (in_use it) ys ≡ true) (sym c.as_slice-piece-items.ensures.value) sound in
    passes-at (piece_passes (in_use middle)) xs i no_piece lt (pass-weaker _ _ was.kept.blocks.used xs all) in
    let part : has_digests it c.args.body.now ≡ true → has_digest middle piece ≡ true = λ right.
    let all = subst (λ ys. are_right it.key (data_of it) ys ≡ true) (sym c.as_slice-piece-items.ensures.value) (c.in_ok-pieces.ensures.sound (is_right it.key (data_of it)) right) in
    (λ k. is_sound (is_right (was.kept.key k) (was.same k)) piece) ∙ passes-at (is_sound (is_right it.key (data_of it))) xs i no_piece lt all in
    let unread : IsUnread (has_digests it c.args.body.now) it c.read_piece.new.self c.in_err-read_piece.field-0.0 =
    unread-later _ _ _ was.kept _ _ part _ (c.in_err-read_piece.ensures.cause used) in
    search rules

pub returns-clause-bytes : goal.returns-clause-bytes
returns-clause-bytes g c = λ honest.
    let all = take_all c.loop-piece.piece-index c.as_slice-piece-items.result.now c.loop-piece-test.false ∙ c.as_slice-piece-items.ensures.value in
    let file = data_of c.args.self.now in
    c.loop-piece.invariant.bytes honest ∙ ap (bytes_of file) all ∙ c.in_ok-pieces.ensures.bytes file

pub returns-clause-count : goal.returns-clause-count
returns-clause-count g c =
    let all = take_all c.loop-piece.piece-index c.as_slice-piece-items.result.now c.loop-piece-test.false ∙ c.as_slice-piece-items.ensures.value in
    let file = data_of c.args.self.now in
    c.loop-piece.invariant.count ∙ ap (λ ys. length (bytes_of file ys)) all ∙ ap length (c.in_ok-pieces.ensures.bytes file)

pub returns-clause-checked : goal.returns-clause-checked
returns-clause-checked g c =
    let all = take_all c.loop-piece.piece-index c.as_slice-piece-items.result.now c.loop-piece-test.false ∙ c.as_slice-piece-items.ensures.value in
    record {
      pieces = c.in_ok-pieces.pieces.items;
      cut = c.in_ok-pieces.ensures.bytes;
      sound = c.in_ok-pieces.ensures.sound;
      checked = subst (λ ys. AreChecked c.args.self.now.key ys c.loop-piece.found.items) all c.loop-piece.invariant.checked;
    }

pub returns-clause-right : goal.returns-clause-right
returns-clause-right g c = read-or c.args.self.now c.args.body.now c.args.place c.args.count c.loop-piece.found.items (returns-clause-checked g c)
