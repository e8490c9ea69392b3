use Rattle.std.proofs.Common.{◌≡◌, ◌∙◌, true, false, sym, subst, [], ◌∷◌, vec_len, All, arith}
use Rattle.std.proofs.lemmas.List.Elements.{recursion_from_All}
use Rattle.slab.specs.Slab.{get}
use Rattle.dav_nodes.specs.Links.{place, member_at}
use Rattle.dav_nodes.specs.TreeRows.{HasOnly, AreRowsOf, AreAscending}
use Rattle.dav_nodes.specs.Loading.{HasNumber, IsLoaded}
use Rattle.dav_nodes.specs.declared.nodes.loading.RowsError.TheVariants.{Memory}
use Rattle.dav_nodes.proofs.Outcomes.{of_held}
use Rattle.dav_nodes.proofs.Pending.{has_row, first_is}
use Rattle.dav_nodes.proofs.Loads.{linked_left, spots_left, tree_done}
use Rattle.dav_nodes.proofs.Slots.{nil_from, zero_from, positive_from, first_rest, err_from}
use Rattle.dav_nodes.proofs.nodes.Nodes.from_rows.Goals.{then-is_empty-via-then-is_empty, then-is_empty-via-else-is_empty+then-not-are_ascending}
use Rattle.dav_nodes.proofs.nodes.Nodes.from_rows.Goals as goal

pub returns-then-is_empty-clause-err : goal.returns-then-is_empty-clause-err
returns-then-is_empty-clause-err g c = λ tree are.
    elim c.then-is_empty.branch [
      | then-is_empty-via-then-is_empty w ↦
          absurd (subst (HasNumber 0) (nil_from c.args.rows.items (sym c.args.rows.ok.0 ∙ zero_from (vec_len c.args.rows) w.if-is_empty.ensures)) (has_row c.args.rows.items tree are [] 0 are.root))
      | then-is_empty-via-else-is_empty+then-not-are_ascending w ↦
          absurd (let no : false ≡ true = w.if-not-are_ascending.ensures (subst AreAscending (sym w.deref.ensures.value) are.ascending) in cc)
    ]

pub returns-then-root-ne0-clause-err : goal.returns-then-root-ne0-clause-err
returns-then-root-ne0-clause-err g c = λ tree are.
    let rows = c.args.rows.items in
    let some = positive_from (vec_len c.args.rows) c.if-is_empty.ensures in
    let whole = first_rest rows c.remove-root.result c.remove-root.new.self.items (omega (arith, some, c.args.rows.ok.0)) c.remove-root.ensures.value c.remove-root.ensures.items in
    absurd (c.if-root-ne0.true (first_is c.remove-root.result c.remove-root.new.self.items (subst AreAscending (sym whole) are.ascending)
    (subst (HasNumber 0) (sym whole) (has_row rows tree are [] 0 are.root))))

pub invariant_of-result : goal.invariant_of-result
invariant_of-result g c =
    let all = c.remove-root.result ∷ c.remove-root.new.self.items in
    let start = subst (λ rows. IsLoaded (c.remove-root.result ∷ rows) (get c.in_ok-nodes.nodes) rows) c.deref-2.ensures.value c.in_ok-nodes.ensures in
    let loaded = c.in_ok-attach_all.ensures.ok all start in
    let old = get c.attach_all.new.nodes in
    let new = get c.remove_unlinked.new.nodes in (
      (loaded.tree, linked_left all old new loaded c.remove_unlinked.ensures),
      (c.new.ensures (place (member_at new)), (spots_left all old new loaded c.remove_unlinked.ensures, tt)),
    )

pub returns-in_err-attach_all-clause-err : goal.returns-in_err-attach_all-clause-err
returns-in_err-attach_all-clause-err g c =
    let all = c.remove-root.result ∷ c.remove-root.new.self.items in
    let start = subst (λ rows. IsLoaded (c.remove-root.result ∷ rows) (get c.in_ok-nodes.nodes) rows) c.deref-2.ensures.value c.in_ok-nodes.ensures in
    let some = positive_from (vec_len c.args.rows) c.if-is_empty.ensures in
    let whole =
    first_rest c.args.rows.items c.remove-root.result c.remove-root.new.self.items (omega (arith, some, c.args.rows.ok.0)) c.remove-root.ensures.value c.remove-root.ensures.items in
    λ tree are.
    err_from c.from_residual-in_err-attach_all.result _ (λ e. e ≡ Memory) c.from_residual-in_err-attach_all.ensures.1
    (λ e is. is ∙ c.in_err-attach_all.ensures.err all start tree (subst (λ rows. AreRowsOf rows tree) (sym whole) are))

pub returns-clause-ok : goal.returns-clause-ok
returns-clause-ok g c = λ tree are.
    let all = c.remove-root.result ∷ c.remove-root.new.self.items in
    let start = subst (λ rows. IsLoaded (c.remove-root.result ∷ rows) (get c.in_ok-nodes.nodes) rows) c.deref-2.ensures.value c.in_ok-nodes.ensures in
    let loaded = c.in_ok-attach_all.ensures.ok all start in
    let some = positive_from (vec_len c.args.rows) c.if-is_empty.ensures in
    let whole =
    first_rest c.args.rows.items c.remove-root.result c.remove-root.new.self.items (omega (arith, some, c.args.rows.ok.0)) c.remove-root.ensures.value c.remove-root.ensures.items in
    let old = get c.attach_all.new.nodes in
    let new = get c.remove_unlinked.new.nodes in
    of_held g.row.R.coded new loaded.tree (λ t. t ≡ tree) (linked_left all old new loaded c.remove_unlinked.ensures)
    (tree_done all old loaded tree (subst (λ rows. AreRowsOf rows tree) (sym whole) are)) c.result-1.given.0

pub returns-clause-values : goal.returns-clause-values
returns-clause-values g c = λ test each.
    let all = c.remove-root.result ∷ c.remove-root.new.self.items in
    let start = subst (λ rows. IsLoaded (c.remove-root.result ∷ rows) (get c.in_ok-nodes.nodes) rows) c.deref-2.ensures.value c.in_ok-nodes.ensures in
    let loaded = c.in_ok-attach_all.ensures.ok all start in
    let some = positive_from (vec_len c.args.rows) c.if-is_empty.ensures in
    let whole =
    first_rest c.args.rows.items c.remove-root.result c.remove-root.new.self.items (omega (arith, some, c.args.rows.ok.0)) c.remove-root.ensures.value c.remove-root.ensures.items in
    let old = get c.attach_all.new.nodes in
    let new = get c.remove_unlinked.new.nodes in
    let passes = subst (All (λ row. test row.value ≡ true)) (sym whole) each in
    of_held g.row.R.coded new loaded.tree (HasOnly test) (linked_left all old new loaded c.remove_unlinked.ensures)
    (loaded.only test (recursion_from_All (λ row. test row.value ≡ true) all passes)).0 c.result-1.given.0
