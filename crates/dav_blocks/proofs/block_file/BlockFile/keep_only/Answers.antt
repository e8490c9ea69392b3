use Rattle.std.proofs.Common.{◌∙◌, ◌+◌, ap, leb}
use Rattle.std.proofs.lemmas.Bool.{and_parts, and_from, and_left, and_right}
use Rattle.dav_space.specs.Space.{unused}
use Rattle.dav_space.specs.Ranges.{is_clear}
use Rattle.dav_blocks.specs.Runs.{are_clear}
use Rattle.dav_blocks.proofs.Keeping.{clear-run}
use Rattle.dav_blocks.proofs.block_file.BlockFile.keep_only.Goals as goal

pub returns-clause-used : goal.returns-clause-used
returns-clause-used g c = λ at n covered used.
    let it = c.args.self.now in
    let both = and_parts (leb (at + n) it.end) (are_clear (unused it.space) at n) used in
    and_from _ _ both.0 (clear-run _ at n (c.in-Ok.ensures.used at n covered))

pub returns-clause-safe : goal.returns-clause-safe
returns-clause-safe g c = λ at n covered safe.
    let it = c.args.self.now in
    let both = and_parts (leb (at + n) it.synced) (are_clear (unused it.at_sync.value) at n) safe in
    let clear = ap (λ space. is_clear (unused space) at n) c.of.ensures ∙ c.in-Ok.ensures.used at n covered in
    and_from _ _ both.0 (clear-run _ at n clear)

pub returns-clause-rest : goal.returns-clause-rest
returns-clause-rest g c = λ _ i below uncovered. and_right _ _ (and_left _ _ (c.in-Ok.ensures.rest i below uncovered))
