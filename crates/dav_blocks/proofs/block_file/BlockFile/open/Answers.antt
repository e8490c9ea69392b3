use Rattle.std.proofs.Common.{◌∙◌, ◌+◌, ap}
use Rattle.std.proofs.lemmas.Bool.{and_from, le-leb}
use Rattle.dav_space.specs.Ranges.{is_clear}
use Rattle.dav_space.specs.Space.{unused}
use Rattle.dav_blocks.proofs.Keeping.{clear-run}
use Rattle.dav_blocks.proofs.block_file.BlockFile.open.Goals as goal

pub returns-clause-used : goal.returns-clause-used
returns-clause-used g c = λ at n below. and_from _ _ (le-leb (at + n) c.args.end below) (clear-run _ at n (c.behind-space.ensures.used at n below))

pub returns-clause-safe : goal.returns-clause-safe
returns-clause-safe g c = λ at n below.
    let clear = ap (λ space. is_clear (unused space) at n) c.of-at_sync.ensures ∙ c.behind-space.ensures.used at n below in
    and_from _ _ (le-leb (at + n) c.args.end below) (clear-run _ at n clear)
