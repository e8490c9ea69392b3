use Rattle.std.proofs.Common.{◌≤◌, length, arith}
use Rattle.dav_key.specs.Flat.{segments_of}
use Rattle.dav_key.proofs.FlatLemmas.{segments_fit}
use Rattle.dav_key.proofs.segments.Segments.of.Goals as goal

pub returns-clause-bound : goal.returns-clause-bound
returns-clause-bound c =
    let fits : length (segments_of c.args.text.now) ≤ length c.args.text.now = segments_fit c.args.text.now c.requires in
    omega arith
