use Rattle.std.proofs.Common.{◌∙◌, Ok, length, ap, sym, lit<}
use Rattle.std.specs.List.{slice_split}
use Rattle.std.proofs.lemmas.Iterator.Consumers.{YieldsList-at, YieldsList-turn, YieldsList-end}
use Rattle.std.proofs.lemmas.Iterator.Splits.{YieldsList-from_str_split}
use Rattle.std.proofs.lemmas.Result.{err_from_is_err_and}
use Rattle.dav_resource.specs.PathText.{is_slash}
use Rattle.dav_resource.proofs.PartLemmas.{read_key-parts, enter_parts-next, enter_parts-failed, enter_parts-done}
use Rattle.dav_resource.proofs.path.read.read_key.Goals as goal

pub loop-part-preserved : goal.loop-part-preserved
loop-part-preserved c =
    let parts = slice_split is_slash c.args.text.now in
    let yields = YieldsList-at c.into_iter-part-iterator.ensures.into_iter_gives (YieldsList-from_str_split 47 c.args.text.now (lit< tt) c.split-part-items.ensures.text c.split-part-items.ensures.has_more c.split-part-items.ensures.pattern) in
    let turn = YieldsList-turn yields c.loop-part.yielded c.loop-part.part-iterator c.loop-part.yielded_by c.next.result c.next.new.self c.in-Some.part c.in-Some.is c.next.ensures.steps in
    let next = enter_parts-next c.loop-part.key parts c.loop-part.yielded c.in-Some.part c.in-Some.part.now turn.0 turn.1 c.enter_part.new.key c.in_ok-enter_part.ensures.ok in
    (next ∙ c.loop-part.invariant.0, c.in_ok-enter_part.ensures.key c.loop-part.invariant.1)

pub returns-in_err-enter_part-clause-value : goal.returns-in_err-enter_part-clause-value
returns-in_err-enter_part-clause-value c =
    let parts = slice_split is_slash c.args.text.now in
    let yields = YieldsList-at c.into_iter-part-iterator.ensures.into_iter_gives (YieldsList-from_str_split 47 c.args.text.now (lit< tt) c.split-part-items.ensures.text c.split-part-items.ensures.has_more c.split-part-items.ensures.pattern) in
    let turn = YieldsList-turn yields c.loop-part.yielded c.loop-part.part-iterator c.loop-part.yielded_by c.next.result c.next.new.self c.in-Some.part c.in-Some.is c.next.ensures.steps in
    let failed = enter_parts-failed c.loop-part.key parts c.loop-part.yielded c.in-Some.part c.in-Some.part.now turn.0 turn.1 c.in_err-enter_part.field-0.0 c.in_err-enter_part.ensures.err in
    let whole = read_key-parts c.args.text.now (c.if-not-starts_with.ensures.byte (lit< tt) (lit< tt) (λ w o h. h)) in
    let p = err_from_is_err_and c.from_residual-in_err-enter_part.result c.from_residual-in_err-enter_part.ensures.1 in
    rw (p.1, p.2, whole, ← c.loop-part.invariant.0) failed

pub returns-clause-value : goal.returns-clause-value
returns-clause-value c =
    let parts = slice_split is_slash c.args.text.now in
    let yields = YieldsList-at c.into_iter-part-iterator.ensures.into_iter_gives (YieldsList-from_str_split 47 c.args.text.now (lit< tt) c.split-part-items.ensures.text c.split-part-items.ensures.has_more c.split-part-items.ensures.pattern) in
    let all = YieldsList-end yields c.loop-part.yielded c.loop-part.part-iterator c.loop-part.yielded_by c.next.result c.next.new.self c.in-None.is c.next.ensures.steps in
    let whole = read_key-parts c.args.text.now (c.if-not-starts_with.ensures.byte (lit< tt) (lit< tt) (λ w o h. h)) in
    whole ∙ sym c.loop-part.invariant.0 ∙ enter_parts-done c.loop-part.key parts (length c.loop-part.yielded) all.1 ∙ ap Ok (sym c.in_ok-finish.ensures)
