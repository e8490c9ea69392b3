use Rattle.std.proofs.Common.{◌∙◌, ap, sym, None}
use Rattle.dav_store.specs.Members.{read_dir_bar}
use Rattle.dav_tree.proofs.Rows.{node_at, directory_at, file_at}
use Rattle.dav_tree.proofs.Effects.{over-ok, over-err, memory-same}
use Rattle.dav_tree.proofs.tree_fs.TreeFs.list.Goals as goal

pub returns-in_default-clause-answer : goal.returns-in_default-clause-answer
returns-in_default-clause-answer g c =
    let e = c.args.self.now.entries in
    let absent = rw c.key.ensures.value at c.in_default.ensures.found in
    over-err _ _ _ _ _ _ (ap read_dir_bar (node_at e.resources c.args.path.now.key None absent.missing)) (memory-same _ _ _ _ _ _ _ c.find.ensures.same)

pub returns-then-not-place-clause-answer : goal.returns-then-not-place-clause-answer
returns-then-not-place-clause-answer g c =
    let e = c.args.self.now.entries in
    let found = rw c.key.ensures.value at c.in-Some.ensures.found in
    over-err _ _ _ _ _ _ (ap read_dir_bar (file_at e.resources c.args.path.now.key found.stored found.at.there (sym found.kind ∙ c.if-not-place.true))) (memory-same _ _ _ _ _ _ _ c.find.ensures.same)

pub returns-clause-answer : goal.returns-clause-answer
returns-clause-answer g c =
    let e = c.args.self.now.entries in
    let found = rw c.key.ensures.value at c.in-Some.ensures.found in
    over-ok _ _ _ _ _ _ (ap read_dir_bar (directory_at e.resources c.args.path.now.key found.stored found.at.there (sym found.kind ∙ c.if-not-place.false))) (memory-same _ _ _ _ _ _ _ c.find.ensures.same)
