use Rattle.std.proofs.Common.{◌≡◌, ◌<◌, true, false, arith, refl, below_more}
use Rattle.dav_tree.specs.Loading.{IsSoundAt}
use Rattle.dav_tree.proofs.entries.soundness.are_keys_sound.Goals as goal

pub loop-number-preserved : goal.loop-number-preserved
loop-number-preserved g c = below_more (IsSoundAt c.args.nodes.now) _ c.loop-number.invariant (c.if-not-is_sound_at.ensures.sound refl)

pub returns-clause-sound : goal.returns-clause-sound
returns-clause-sound g c = λ _ n key at.
    let below : n < c.max_len-number-end.result = c.max_len-number-end.ensures.numbers key n at in
    c.loop-number.invariant n (omega arith) key at

pub returns-then-not-is_sound_at-clause-passes : goal.returns-then-not-is_sound_at-clause-passes
returns-then-not-is_sound_at-clause-passes g c = λ each. absurd (let clash : false ≡ true = c.if-not-is_sound_at.ensures.passes (each c.loop-number.number) in cc)
