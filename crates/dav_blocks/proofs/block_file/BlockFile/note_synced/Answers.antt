use Rattle.std.proofs.Common.{◌∙◌, ◌+◌, ap, refl, leb}
use Rattle.std.proofs.lemmas.Bool.{and_parts, and_from}
use Rattle.dav_space.specs.Space.{unused}
use Rattle.dav_blocks.specs.Runs.{are_clear}
use Rattle.dav_blocks.proofs.Keeping.{in-use-kept}
use Rattle.dav_blocks.proofs.block_file.BlockFile.note_synced.Goals as goal

pub returns-clause-safe : goal.returns-clause-safe
returns-clause-safe g c = λ at n used.
    let it = c.args.self.now in
    let both = and_parts (leb (at + n) it.end) (are_clear (unused it.space) at n) used in
    and_from _ _ both.0 (ap (λ space. are_clear (unused space) at n) c.of.ensures ∙ both.1)

pub returns-clause-kept : goal.returns-clause-kept
returns-clause-kept g c =
    let it = c.args.self.now in
    record {
      used = λ at n used. used;
      same = λ at n used. refl;
      safe = λ at n safe.
          let longer = it.before in
          let both = and_parts (leb (at + n) it.end) (are_clear (unused it.space) at n) (in-use-kept _ _ _ it.end at n longer it.opened safe) in
          and_from _ _ both.0 (ap (λ space. are_clear (unused space) at n) c.of.ensures ∙ both.1);
    }
