use Rattle.dav_tree.proofs.entries.Entries.copy_to.Goals as goal

pub copy_over-requires-clause-to : goal.copy_over-requires-clause-to
copy_over-requires-clause-to g c =
    let found = rw c.in-Some.is at c.requires.there in
    (c.args.to.now, found.stored, found.at)
