use Rattle.std.proofs.Common.{ap, Some, None}
use Rattle.dav_store.specs.Calls.{metadata_bar}
use Rattle.dav_tree.proofs.Rows.{node_at}
use Rattle.dav_tree.proofs.Places.{number-again}
use Rattle.dav_tree.proofs.Effects.{over-ok, over-err, memory-same}
use Rattle.dav_tree.proofs.tree_fs.TreeFs.look.Goals as goal

pub meta-requires : goal.meta-requires
meta-requires g c = number-again _ _ _ c.find.ensures.same _ _ c.in-Some.ensures.found

pub returns-in_ok-meta-in-Some-clause-answer : goal.returns-in_ok-meta-in-Some-clause-answer
returns-in_ok-meta-in-Some-clause-answer g c =
    let e = c.args.self.now.entries in
    let found = rw c.key.ensures.value at c.in-Some.ensures.found in
    over-ok _ _ _ _ _ _ (ap metadata_bar (node_at e.resources c.args.path.now.key (Some found.stored) found.at.there)) (memory-same _ _ _ _ _ _ _ c.find.ensures.same)

pub returns-in-None-clause-answer : goal.returns-in-None-clause-answer
returns-in-None-clause-answer g c =
    let e = c.args.self.now.entries in
    let absent = rw c.key.ensures.value at c.in-None.ensures.found in
    over-err _ _ _ _ _ _ (ap metadata_bar (node_at e.resources c.args.path.now.key None absent.missing)) (memory-same _ _ _ _ _ _ _ c.find.ensures.same)
