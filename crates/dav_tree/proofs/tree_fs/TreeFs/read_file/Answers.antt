use Rattle.std.proofs.Common.{◌∙◌, ap, sym, subst, None, Some, length, inl, inr}
use Rattle.dav_store.specs.Calls.{must_be_file, bytes_at, bytes_from}
use Rattle.dav_tree.proofs.Outcomes.{ok_then, err_then, or_right}
use Rattle.dav_tree.proofs.Rows.{node_at, directory_at, file_at}
use Rattle.dav_tree.proofs.Places.{file-again, at-again, missing-key, found-key}
use Rattle.dav_tree.proofs.Effects.{over-err, over-either, both-ways, memory-same, memory-unchanged}
use Rattle.dav_tree.proofs.tree_fs.TreeFs.read_file.Goals as goal

pub returns-in_default-clause-answer : goal.returns-in_default-clause-answer
returns-in_default-clause-answer g c =
    let missing = missing-key _ _ c.find.ensures.same _ _ c.key.ensures.value c.in_default.ensures.found in
    over-err _ _ _ _ _ _ (ap must_be_file (node_at c.args.self.now.entries.resources c.args.path.now.key None missing)) (memory-same _ _ _ _ _ _ _ c.find.ensures.same)

pub returns-then-found-clause-answer : goal.returns-then-found-clause-answer
returns-then-found-clause-answer g c =
    let found = c.in-Some.ensures.found in
    let here = found-key _ _ c.find.ensures.same _ _ c.key.ensures.value _ _ found in
    over-err _ _ _ _ _ _ (ap must_be_file (directory_at c.args.self.now.entries.resources c.args.path.now.key found.stored here (sym found.kind ∙ c.if-found.true))) (memory-same _ _ _ _ _ _ _ c.find.ensures.same)

pub read-requires : goal.read-requires
read-requires g c = file-again _ _ _ c.find.ensures.same _ _ c.in-Some.ensures.found c.if-found.false

pub returns-clause-bytes : goal.returns-clause-bytes
returns-clause-bytes g c =
    let found = c.in-Some.ensures.found in
    let here = found-key _ _ c.find.ensures.same _ _ c.key.ensures.value _ _ found in
    ok_then c.read.result
    (λ bytes. subst (λ node. g.M.Medium.reading c.read.new.self.honest (bytes_at node) c.args.place c.args.count bytes.items) (sym (node_at c.args.self.now.entries.resources c.args.path.now.key (Some found.stored) here)))
    (c.read.ensures.bytes _ _ (at-again _ _ _ c.find.ensures.same _ _ found))

pub returns-clause-count : goal.returns-clause-count
returns-clause-count g c =
    let found = c.in-Some.ensures.found in
    let here = found-key _ _ c.find.ensures.same _ _ c.key.ensures.value _ _ found in
    ok_then c.read.result
    (λ bytes says. says ∙ ap (λ node. length (bytes_from c.args.place c.args.count (bytes_at node))) (sym (node_at c.args.self.now.entries.resources c.args.path.now.key (Some found.stored) here)))
    (c.read.ensures.count _ _ (at-again _ _ _ c.find.ensures.same _ _ found))

pub returns-clause-answer : goal.returns-clause-answer
returns-clause-answer g c =
    let found = c.in-Some.ensures.found in
    let here = found-key _ _ c.find.ensures.same _ _ c.key.ensures.value _ _ found in
    let kept = both-ways c.read.result (memory-unchanged c.args.self.now.version c.args.self.now.moment c.args.self.now.limit c.args.self.now.tag_part c.args.self.now.marks_parents c.args.self.now.entries c.find.new.self c.read.new.self c.find.ensures.same c.read.ensures.same) in
    over-either _ _ _ _ _ c.read.result (ap must_be_file (file_at c.args.self.now.entries.resources c.args.path.now.key found.stored here (sym found.kind ∙ c.if-found.false))) kept.0 kept.1 c.read.ensures.err

pub returns-in_default-clause-cause : goal.returns-in_default-clause-cause
returns-in_default-clause-cause g c =
    let missing = missing-key _ _ c.find.ensures.same _ _ c.key.ensures.value c.in_default.ensures.found in
    inr (inl (ap must_be_file (node_at c.args.self.now.entries.resources c.args.path.now.key None missing)))

pub returns-then-found-clause-cause : goal.returns-then-found-clause-cause
returns-then-found-clause-cause g c =
    let found = c.in-Some.ensures.found in
    let here = found-key _ _ c.find.ensures.same _ _ c.key.ensures.value _ _ found in
    inr (inl (ap must_be_file (directory_at c.args.self.now.entries.resources c.args.path.now.key found.stored here (sym found.kind ∙ c.if-found.true))))

pub returns-clause-cause : goal.returns-clause-cause
returns-clause-cause g c = err_then c.read.result (λ e. or_right) c.read.ensures.cause
