use Rattle.std.proofs.Common.{◌∙◌, sym}
use Rattle.dav_tree.proofs.Rows.{file_missing, directory_there}
use Rattle.dav_tree.proofs.entries.Entries.find_file.Goals as goal

pub returns-in_default-clause-found : goal.returns-in_default-clause-found
returns-in_default-clause-found g c = file_missing c.args.self.now.resources c.args.key.now c.in_default.ensures.found.missing

pub returns-then-place-clause-found : goal.returns-then-place-clause-found
returns-then-place-clause-found g c =
    let found = c.in-Some.ensures.found in
    directory_there c.args.self.now.resources c.args.key.now found.stored found.at.there (sym found.kind ∙ c.if-place.true)

pub returns-clause-found : goal.returns-clause-found
returns-clause-found g c =
    let found = c.in-Some.ensures.found in
    record { stored = found.stored; at = found.at; file = sym found.kind ∙ c.if-place.false }
