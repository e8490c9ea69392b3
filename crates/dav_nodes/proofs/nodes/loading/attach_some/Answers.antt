use Rattle.std.proofs.Common.{◌≡◌, ◌+◌, ◌∙◌, sym, ap, subst, ◌++◌, Err, length, arith}
use Rattle.std.proofs.lemmas.List.{append-nil}
use Rattle.slab.specs.Slab.{get}
use Rattle.dav_nodes.specs.Loading.{linked_part, IsLoaded, NoneAttachable, IsErrorFor}
use Rattle.dav_nodes.proofs.Loads.{loaded_popped, loaded_later, loaded_already, loaded_more, none_more, not_refused}
use Rattle.dav_nodes.proofs.Slots.{none_from, nil_from, memory_from, err_from, length_more}
use Rattle.dav_nodes.proofs.nodes.loading.attach_some.Goals as goal

pub loop-row-init : goal.loop-row-init
loop-row-init g c = record {
  loaded = λ all loaded. subst (IsLoaded all (get c.args.nodes.now)) (sym (ap (λ xs. c.args.rows.items ++ xs) c.new-left.ensures.items ∙ append-nil c.args.rows.items)) loaded;
  fewer = omega (arith, ap length c.new-left.ensures.items);
  stuck = λ _. subst (NoneAttachable (get c.args.nodes.now)) (sym c.new-left.ensures.items) tt;
}

pub loop-row-preserved-in-Continue-1 : goal.loop-row-preserved-in-Continue-1
loop-row-preserved-in-Continue-1 g c =
    let nodes = get c.loop-row.nodes in
    let rest = c.pop.new.self.items in
    let row = c.in-Some.row in
    let left = c.loop-row.left.items in
    let rows = c.loop-row.rows.items in
    let outside = none_from (linked_part nodes row.above) (sym c.if-not-is_linked.ensures.linked) in
    let more : length rows ≡ length rest + 1 = length_more rest rows row c.in-Some.ensures.items in
    let pushed : length c.push.new.self.items ≡ length left + 1 = length_more left c.push.new.self.items row c.in_ok-push.ensures.items in
    record {
      loaded = λ all loaded.
          loaded_later all rest row left nodes c.push.new.self.items c.in_ok-push.ensures.items
          (loaded_popped all rest row left nodes rows c.in-Some.ensures.items (c.loop-row.invariant.loaded all loaded));
      fewer = omega (arith, c.loop-row.invariant.fewer, more, pushed);
      stuck = λ same. none_more nodes left c.push.new.self.items row c.in_ok-push.ensures.items outside (c.loop-row.invariant.stuck (omega (arith, same, more, pushed)));
    }

pub loop-row-preserved-in-Continue-branch-2 : goal.loop-row-preserved-in-Continue-branch-2
loop-row-preserved-in-Continue-branch-2 g c =
    let nodes = get c.loop-row.nodes in
    let rest = c.pop.new.self.items in
    let row = c.in-Some.row in
    let left = c.loop-row.left.items in
    let rows = c.loop-row.rows.items in
    let free = none_from (linked_part nodes row.number) (sym c.if-not-is_linked-2.ensures.linked) in
    let more : length rows ≡ length rest + 1 = length_more rest rows row c.in-Some.ensures.items in
    record {
      loaded = λ all loaded.
          loaded_more all rest row left c.loop-row.nodes c.attach.new.nodes (sym c.if-not-is_linked.ensures.linked) free
          (loaded_popped all rest row left nodes rows c.in-Some.ensures.items (c.loop-row.invariant.loaded all loaded)) c.in_ok-attach.ensures.ok c.in_ok-attach.ensures.slots;
      fewer = omega (arith, c.loop-row.invariant.fewer, more);
      stuck = λ same. absurd (omega (arith, c.loop-row.invariant.fewer, same, more));
    }

pub returns-in_err-attach-clause-err : goal.returns-in_err-attach-clause-err
returns-in_err-attach-clause-err g c =
    let nodes = get c.loop-row.nodes in
    let rest = c.pop.new.self.items in
    let row = c.in-Some.row in
    let left = c.loop-row.left.items in
    let free = none_from (linked_part nodes row.number) (sym c.if-not-is_linked-2.ensures.linked) in
    err_from c.from_residual-in_err-attach.result _ (IsErrorFor (get c.args.nodes.now) c.args.rows.items) c.from_residual-in_err-attach.ensures.1
    (λ e is all loaded whole are. memory_from e (λ other.
    not_refused all rest row left nodes (sym c.if-not-is_linked.ensures.linked) free
    (loaded_popped all rest row left nodes c.loop-row.rows.items c.in-Some.ensures.items (c.loop-row.invariant.loaded all loaded)) whole are
    (c.in_err-attach.ensures.refused (ap Err (sym is ∙ other)))))

pub loop-row-preserved : goal.loop-row-preserved
loop-row-preserved g c =
    let nodes = get c.loop-row.nodes in
    let rest = c.pop.new.self.items in
    let row = c.in-Some.row in
    let left = c.loop-row.left.items in
    let rows = c.loop-row.rows.items in
    let more : length rows ≡ length rest + 1 = length_more rest rows row c.in-Some.ensures.items in
    record {
      loaded = λ all loaded.
          loaded_already all rest row left nodes (sym c.if-not-is_linked-2.ensures.linked)
          (loaded_popped all rest row left nodes rows c.in-Some.ensures.items (c.loop-row.invariant.loaded all loaded));
      fewer = omega (arith, c.loop-row.invariant.fewer, more);
      stuck = λ same. absurd (omega (arith, c.loop-row.invariant.fewer, same, more));
    }

pub returns-clause-ok : goal.returns-clause-ok
returns-clause-ok g c = λ all loaded.
    subst (λ xs. IsLoaded all (get c.loop-row.nodes) (xs ++ c.loop-row.left.items)) (nil_from c.loop-row.rows.items (sym c.loop-row.rows.ok.0 ∙ c.in_default.ensures.cases.0))
    (c.loop-row.invariant.loaded all loaded)
