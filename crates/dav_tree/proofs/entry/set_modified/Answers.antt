use Rattle.std.proofs.Common.{◌≡◌, ◌∙◌, None, ap, sym, take, refl, arith}
use Rattle.std.proofs.lemmas.List.{take_all}
use Rattle.std.proofs.lemmas.List.Sums.{fold_more}
use Rattle.dav_store.specs.PropertyCalls.{set_modified, then_modified}
use Rattle.dav_tree.proofs.entry.set_modified.Goals as goal

pub loop-patch-preserved : goal.loop-patch-preserved
loop-patch-preserved c =
    let patches = c.args.patches.now in
    let i = c.loop-patch.patch-index in
    c.then_modified-time.ensures ∙ ap (λ time. then_modified time c.patch-item.result) c.loop-patch.invariant ∙ ap (then_modified (set_modified (take i patches))) c.patch-item.is
    ∙ sym (fold_more then_modified None patches i c.patch-item.result c.loop-patch-test.true)

pub returns : goal.returns
returns c =
    let all : take c.loop-patch.patch-index c.args.patches.now ≡ c.args.patches.now = take_all _ _ (omega (arith, c.loop-patch-test.false, c.loop-patch.auto)) in
    c.loop-patch.invariant ∙ ap set_modified all
