use mir.Val.{SFits}
use Rattle.std.proofs.Common.{◌≡◌, ◌==◌, ◌+◌, true, false, w64, rules, length, take, drop, [], ◌∷◌, ◌++◌, sym, ap, ◌∙◌}
use Rattle.dav_store_rows.proofs.Decoding.{passed, same-Ok, not-Err, stops-err}
use Rattle.dav_store_rows.proofs.Progress.{own_extents, own_properties, load-first, load-row, load-end, loading-same, resource-same}
use Rattle.dav_store_rows.proofs.loading.load_resources.Goals as goal
use Rattle.dav_store_rows.proofs.loading.load_resources.Goals.{else-is_empty-via-then-is_empty+else-is_empty-2, else-is_empty-via-else-is_empty}

pub rows-init : goal.rows-init
rows-init c tree are =
    let rows = c.args.rows.now in
    loading-same are.contents tree rows.resources.items c.as_slice-extents.result.now rows.extents.items c.as_slice-properties.result.now rows.properties.items c.new-values.result.items []
    c.as_slice-extents.ensures.value c.as_slice-properties.ensures.value c.new-values.ensures.items
    (load-first are.contents tree rows are.all are.stand)

pub returns-in_err-number-clause-err : goal.returns-in_err-number-clause-err
returns-in_err-number-clause-err c tree are =
    let number-fits : SFits w64 c.row-item.result.number = search rules in
    let one = load-row are.contents tree are.stand are.whole c.args.rows.now.resources.items c.rows.row-index c.row-item.result c.rows.extents.now c.rows.properties.now c.rows.values.items
    (rw c.deref-row-items.ensures.value at c.rows-test.true) (rw c.deref-row-items.ensures.value at c.row-item.is) (c.rows.invariant tree are) in
    absurd (not-Err c.in_err-number.field-0.0 one.number (c.in_err-number.ensures one.number (passed c.row-item.result.number one.number number-fits one.is_number)))

pub returns-in_err-load_one-clause-err : goal.returns-in_err-load_one-clause-err
returns-in_err-load_one-clause-err c tree are =
    let number-fits : SFits w64 c.row-item.result.number = search rules in
    let one = load-row are.contents tree are.stand are.whole c.args.rows.now.resources.items c.rows.row-index c.row-item.result c.rows.extents.now c.rows.properties.now c.rows.values.items
    (rw c.deref-row-items.ensures.value at c.rows-test.true) (rw c.deref-row-items.ensures.value at c.row-item.is) (c.rows.invariant tree are) in
    let extents = c.rows.extents.now in
    let properties = c.rows.properties.now in
    let number-is : c.in_ok-number.number ≡ one.number = same-Ok c.in_ok-number.number one.number (c.in_ok-number.ensures one.number (passed c.row-item.result.number one.number number-fits one.is_number)) in
    let extents-len : c.extents_len.result ≡ own_extents one.number extents = c.extents_len.ensures ∙ ap (λ n. own_extents n extents) number-is in
    let properties-len : c.properties_len.result ≡ own_properties one.number properties = c.properties_len.ensures ∙ ap (λ n. own_properties n properties) number-is in
    let is = resource-same one.number one.one c.row-item.result c.split_at.result.0.now (take (own_extents one.number extents) extents) c.split_at-in-rows.result.0.now (take (own_properties one.number properties) properties)
    (c.split_at.ensures.front ∙ ap (λ n. take n extents) extents-len) (c.split_at-in-rows.ensures.front ∙ ap (λ n. take n properties) properties-len) one.is in
    stops-err c.from_residual-in_err-load_one.result c.in_err-load_one.field-0.0 c.from_residual-in_err-load_one.ensures.1
    (c.in_err-load_one.ensures one.number one.one is)

pub rows-preserved : goal.rows-preserved
rows-preserved c tree are =
    let number-fits : SFits w64 c.row-item.result.number = search rules in
    let one = load-row are.contents tree are.stand are.whole c.args.rows.now.resources.items c.rows.row-index c.row-item.result c.rows.extents.now c.rows.properties.now c.rows.values.items
    (rw c.deref-row-items.ensures.value at c.rows-test.true) (rw c.deref-row-items.ensures.value at c.row-item.is) (c.rows.invariant tree are) in
    let extents = c.rows.extents.now in
    let properties = c.rows.properties.now in
    let value = c.in_ok-load_one.field-0 in
    let number-is : c.in_ok-number.number ≡ one.number = same-Ok c.in_ok-number.number one.number (c.in_ok-number.ensures one.number (passed c.row-item.result.number one.number number-fits one.is_number)) in
    let extents-len : c.extents_len.result ≡ own_extents one.number extents = c.extents_len.ensures ∙ ap (λ n. own_extents n extents) number-is in
    let properties-len : c.properties_len.result ≡ own_properties one.number properties = c.properties_len.ensures ∙ ap (λ n. own_properties n properties) number-is in
    let is = resource-same one.number one.one c.row-item.result c.split_at.result.0.now (take (own_extents one.number extents) extents) c.split_at-in-rows.result.0.now (take (own_properties one.number properties) properties)
    (c.split_at.ensures.front ∙ ap (λ n. take n extents) extents-len) (c.split_at-in-rows.ensures.front ∙ ap (λ n. take n properties) properties-len) one.is in
    loading-same are.contents tree (drop (c.rows.row-index + 1) c.args.rows.now.resources.items)
    c.split_at.result.1.now (drop (own_extents one.number extents) extents)
    c.split_at-in-rows.result.1.now (drop (own_properties one.number properties) properties)
    c.push.new.self.items (c.rows.values.items ++ value ∷ [])
    (c.split_at.ensures.back ∙ ap (λ n. drop n extents) extents-len) (c.split_at-in-rows.ensures.back ∙ ap (λ n. drop n properties) properties-len) c.in_ok-push.ensures.items
    (one.after value (c.in_ok-load_one.ensures one.number one.one is))

pub returns-then-is_empty-2-clause-ok : goal.returns-then-is_empty-2-clause-ok
returns-then-is_empty-2-clause-ok c tree are =
    (load-end are.contents tree are.stand are.whole c.args.rows.now.resources.items c.rows.row-index c.rows.extents.now c.rows.properties.now c.rows.values.items (rw c.deref-row-items.ensures.value at c.rows-test.false) (c.rows.invariant tree are)).are

pub returns-else-is_empty-clause-err : goal.returns-else-is_empty-clause-err
returns-else-is_empty-clause-err c tree are =
    let end = load-end are.contents tree are.stand are.whole c.args.rows.now.resources.items c.rows.row-index c.rows.extents.now c.rows.properties.now c.rows.values.items (rw c.deref-row-items.ensures.value at c.rows-test.false) (c.rows.invariant tree are) in
    elim c.else-is_empty.branch [
      | else-is_empty-via-then-is_empty+else-is_empty-2 w ↦
          let clash : false ≡ true = sym w.if-is_empty-2.false ∙ w.is_empty-then-is_empty.ensures ∙ ap (λ ps. length ps == 0) end.no_properties in
          absurd cc
      | else-is_empty-via-else-is_empty w ↦
          let clash : false ≡ true = sym w.if-is_empty.false ∙ c.is_empty.ensures ∙ ap (λ es. length es == 0) end.no_extents in
          absurd cc
    ]
