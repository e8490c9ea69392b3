use Rattle.std.proofs.lemmas.Result.{IfOk-weaker}
use Rattle.dav_resource.specs.PathText.{IsSegmentText}
use Rattle.dav_resource.proofs.KeyLemmas.{IsKey-enter, IsFlatSegment-text}
use Rattle.dav_resource.proofs.path.read.enter_part.Goals as goal

pub enter-requires : goal.enter-requires
enter-requires c = rw c.deref.ensures.value (IsFlatSegment-text _ c.in_ok-segment.ensures.text)

pub returns-clause-key : goal.returns-clause-key
returns-clause-key c =
    let text : IsSegmentText c.deref.result.now = rw c.deref.ensures.value c.in_ok-segment.ensures.text in
    λ is. IfOk-weaker c.enter.result _ _ (λ _ e. IsKey-enter c.args.key.now _ _ is text e) c.enter.ensures.ok
