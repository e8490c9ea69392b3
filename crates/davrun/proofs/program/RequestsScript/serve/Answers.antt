use Rattle.std.proofs.Common.{◌∙◌, ◌∷◌, [], ◌++◌, sym, subst}
use Rattle.std.proofs.lemmas.List.{map-id}
use Rattle.std.proofs.lemmas.Iterator.Adapters.{YieldsList-from_vec}
use Rattle.std.proofs.lemmas.Iterator.Consumers.{YieldsList-end}
use Rattle.dav_script.specs.Serving.{AreServed, shared_by}
use Rattle.davrun.proofs.Serving.{served-one_more}
use Rattle.davrun.proofs.program.RequestsScript.serve.Goals as goal

pub loop-block-preserved : goal.loop-block-preserved
loop-block-preserved g c =
    subst (AreServed (c.loop-block.yielded ++ c.in-Some.block ∷ []) _) (sym c.clear_log.ensures)
    (served-one_more c.loop-block.yielded c.in-Some.block _ _ _ c.loop-block.invariant c.in_ok-serve.ensures)

pub returns : goal.returns
returns g c =
    let given = YieldsList-from_vec {s = c.into_iter-block-iterator.result} c.args.self.blocks.items c.into_iter-block-iterator.ensures.into_iter_gives.0 (c.into_iter-block-iterator.ensures.into_iter_gives.1 ∙ c.args.self.blocks.ok.0) in
    let all = YieldsList-end given c.loop-block.yielded c.loop-block.block-iterator c.loop-block.yielded_by _ c.next.new.self c.in-None.is c.next.ensures.steps in
    subst (λ blocks. AreServed blocks (shared_by c.args.session.now) (shared_by c.loop-block.session)) (sym (map-id c.loop-block.yielded) ∙ all.0) c.loop-block.invariant
