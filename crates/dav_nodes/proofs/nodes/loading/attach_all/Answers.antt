use Rattle.std.proofs.Common.{◌∙◌, sym, ap, subst, arith, length, vec_len}
use Rattle.slab.specs.Slab.{get}
use Rattle.dav_nodes.specs.Loading.{IsLoaded, IsErrorFor}
use Rattle.dav_nodes.proofs.Loads.{none_left}
use Rattle.dav_nodes.proofs.Slots.{nil_from, zero_from, positive_from, err_from}
use Rattle.dav_nodes.proofs.nodes.loading.attach_all.Goals as goal

pub returns-then-len-count-clause-err : goal.returns-then-len-count-clause-err
returns-then-len-count-clause-err g c = λ all loaded tree are.
    let some = positive_from (vec_len c.passes.rows) c.passes-test.ensures in
    let left = c.in_ok-rows.rows.items in
    let none = none_left all (get c.attach_some.new.nodes) left (c.in_ok-rows.ensures.ok all (c.passes.invariant all loaded))
    (c.in_ok-rows.ensures.stuck (omega (arith, c.passes.rows.ok.0, c.in_ok-rows.rows.ok.0, c.if-len-count.true, c.len.ensures, c.len-count.ensures))) tree are in
    absurd (omega (arith, c.passes.rows.ok.0, some, ap length none, c.if-len-count.true, c.len.ensures, c.len-count.ensures))

pub passes-preserved : goal.passes-preserved
passes-preserved g c = λ all loaded. c.in_ok-rows.ensures.ok all (c.passes.invariant all loaded)

pub returns-clause-ok : goal.returns-clause-ok
returns-clause-ok g c = λ all loaded.
    subst (IsLoaded all (get c.passes.nodes)) (nil_from c.passes.rows.items (sym c.passes.rows.ok.0 ∙ zero_from (vec_len c.passes.rows) c.passes-test.ensures)) (c.passes.invariant all loaded)

pub returns-in_err-rows-clause-err : goal.returns-in_err-rows-clause-err
returns-in_err-rows-clause-err g c =
    err_from c.from_residual.result _ (IsErrorFor (get c.args.nodes.now) c.args.rows.items) c.from_residual.ensures.1
    (λ e is all loaded whole are. is ∙ c.in_err-rows.ensures.err all (c.passes.invariant all loaded) whole are)
