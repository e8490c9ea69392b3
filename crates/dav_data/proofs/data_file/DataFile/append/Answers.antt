use Rattle.std.proofs.Common.{◌≡◌, ◌∙◌, true, ap, sym, subst, rules}
use Rattle.std.proofs.lemmas.Bool.{and_from}
use Rattle.dav_pieces.specs.Pieces.{bytes_of, size_of, last_block}
use Rattle.dav_pieces.specs.Growth.{is_grown_in}
use Rattle.dav_data.specs.Runs.{run_passes, blocks_pass}
use Rattle.dav_data.specs.Digests.{is_right, are_right}
use Rattle.dav_data.specs.Data.{data_of, in_use, is_held, IsForced}
use Rattle.dav_data.proofs.Runs.{pass-weaker, pass-kept}
use Rattle.dav_data.proofs.Bodies.{sound-body, body-kept, body-bytes}
use Rattle.dav_data.proofs.Keeping.{keeps-trans}
use Rattle.dav_data.proofs.Adding.{right-kept}
use Rattle.dav_data.proofs.Causes.{forced-later}
use Rattle.dav_data.proofs.Appending.{grown-used-kept, grown-right-kept, grown-bytes-kept, appended-bytes, rest-size, appended-small, append-fits}
use Rattle.dav_data.proofs.data_file.DataFile.append.Goals as goal

pub returns-in_err-grown-clause-held : goal.returns-in_err-grown-clause-held
returns-in_err-grown-clause-held g c = body-kept _ _ c.grow_last.ensures.kept.blocks.used c.args.body.now c.requires.held

pub returns-in_err-added-clause-held : goal.returns-in_err-added-clause-held
returns-in_err-added-clause-held g c =
    body-kept _ _ (keeps-trans _ _ _ c.grow_last.ensures.kept c.add.ensures.kept).blocks.used c.args.body.now c.requires.held

pub returns-in_err-added-clause-cause : goal.returns-in_err-added-clause-cause
returns-in_err-added-clause-cause g c =
    let forced : IsForced c.args.self.now c.add.new.self c.in_err-added.field-0.0 = forced-later _ _ _ c.grow_last.ensures.kept _ c.in_err-added.ensures.cause in
    search rules

pub append-requires-clause-fits : goal.append-requires-clause-fits
append-requires-clause-fits g c =
    let rest = ap size_of c.as_slice.ensures.value ∙ rest-size _ _ c.in_ok-grown.grown.len c.args.bytes.now _ c.in_ok-added.ensures.added.same c.split_at.ensures.back in
    append-fits _ _ _ _ _ c.in_ok-grown.ensures.grown.len rest c.in_ok-grown.ensures.grown.most c.requires.fits

pub returns-in_err-append-clause-held : goal.returns-in_err-append-clause-held
returns-in_err-append-clause-held g c =
    subst (λ body. is_held c.add.new.self body ≡ true) (sym c.in_err-append.ensures.err)
    (body-kept _ _ (keeps-trans _ _ _ c.grow_last.ensures.kept c.add.ensures.kept).blocks.used c.args.body.now c.requires.held)

pub returns-clause-ok : goal.returns-clause-ok
returns-clause-ok g c =
    let body = c.args.body.now in let grown = c.in_ok-grown.grown in let has = c.in_ok-grown.ensures.grown in
    let both = keeps-trans _ _ _ c.grow_last.ensures.kept c.add.ensures.kept in
    let sound = c.in_ok-append.ensures.sound (run_passes (in_use c.add.new.self)) (pass-weaker _ _ both.blocks.used body (sound-body _ body c.requires.held))
    (grown-used-kept _ _ c.add.ensures.kept.blocks.used grown.block has.used) (subst (λ xs. blocks_pass (in_use c.add.new.self) xs ≡ true) (sym c.as_slice.ensures.value) c.in_ok-added.ensures.added.sound) in
    pass-kept _ _ _ c.remember.ensures.blocks.same c.append.new.self sound
    ∙ appended-bytes (data_of c.args.self.now) (data_of c.add.new.self) body c.append.new.self c.as_slice.result.now grown.block grown.len c.args.bytes.now c.in_ok-append.ensures.ok
    (body-bytes _ _ _ both.blocks.same body c.requires.held)
    (grown-bytes-kept _ _ _ c.add.ensures.kept.blocks.same (last_block body) grown.block has.grows has.used ∙ has.same)
    (ap (bytes_of (data_of c.add.new.self)) c.as_slice.ensures.value ∙ c.in_ok-added.ensures.added.same ∙ c.split_at.ensures.back)

pub returns-clause-held : goal.returns-clause-held
returns-clause-held g c =
    let body = c.args.body.now in let grown = c.in_ok-grown.grown in let has = c.in_ok-grown.ensures.grown in
    let both = keeps-trans _ _ _ c.grow_last.ensures.kept c.add.ensures.kept in
    let sound = c.in_ok-append.ensures.sound (run_passes (in_use c.add.new.self)) (pass-weaker _ _ both.blocks.used body (sound-body _ body c.requires.held))
    (grown-used-kept _ _ c.add.ensures.kept.blocks.used grown.block has.used) (subst (λ xs. blocks_pass (in_use c.add.new.self) xs ≡ true) (sym c.as_slice.ensures.value) c.in_ok-added.ensures.added.sound) in
    let rest = ap size_of c.as_slice.ensures.value ∙ rest-size _ _ grown.len c.args.bytes.now _ c.in_ok-added.ensures.added.same c.split_at.ensures.back in
    and_from _ _ (appended-small body c.append.new.self c.as_slice.result.now grown.block grown.len c.args.bytes.now has.most has.len rest c.requires.fits c.in_ok-append.ensures.size)
    (pass-weaker _ _ c.remember.ensures.blocks.used c.append.new.self sound)

pub returns-clause-digests : goal.returns-clause-digests
returns-clause-digests g c = λ right.
    let body = c.args.body.now in let grown = c.in_ok-grown.grown in let has = c.in_ok-grown.ensures.grown in
    let first = c.grow_last.ensures.kept in let second = c.add.ensures.kept in
    let both = keeps-trans _ _ _ first second in let key = c.args.self.now.key in
    let held = sound-body _ body c.requires.held in
    let view = sym c.as_slice.ensures.value in
    let sound = c.in_ok-append.ensures.sound (run_passes (in_use c.add.new.self)) (pass-weaker _ _ both.blocks.used body held)
    (grown-used-kept _ _ second.blocks.used grown.block has.used) (subst (λ xs. blocks_pass (in_use c.add.new.self) xs ≡ true) view c.in_ok-added.ensures.added.sound) in
    let grown_right = subst (λ k. is_grown_in (is_right k (data_of c.grow_last.new.self)) grown.block ≡ true) first.key has.right in
    let added_right = subst (λ k. are_right k (data_of c.add.new.self) c.in_ok-added.added.pieces.items ≡ true) both.key c.in_ok-added.ensures.added.right in
    let all = c.in_ok-append.ensures.sound (is_right key (data_of c.add.new.self)) (right-kept key _ _ _ both.blocks.same body held right)
    (grown-right-kept _ _ _ second.blocks.same key grown.block has.used grown_right) (subst (λ xs. are_right key (data_of c.add.new.self) xs ≡ true) view added_right) in
    subst (λ k. are_right k (data_of c.remember.new.self) c.append.new.self ≡ true) (sym (c.remember.ensures.key ∙ both.key)) (right-kept key _ _ _ c.remember.ensures.blocks.same c.append.new.self sound all)
