use Rattle.std.proofs.Common.{◌≡◌, ◌+◌, w64, of_z, Option, map, drop, sym, ap, subst, ◌∙◌, arith}
use Rattle.std.specs.FinMap.{insert}
use Rattle.std.proofs.lemmas.Option.{same_Some}
use Rattle.dav_key.specs.Key.{Key}
use Rattle.dav_key.specs.Below.{put_at}
use Rattle.dav_resource.specs.Tree.{Tree}
use Rattle.dav_store.specs.Store.{PropertyMap, element_key}
use Rattle.dav_wire.specs.Codec.{decode}
use Rattle.dav_cells.specs.Elements.{element_codec}
use Rattle.dav_rows.specs.Changes.{property_entry}
use Rattle.dav_store_rows.specs.LoadErrors.{from_cell}
use Rattle.dav_store_rows.proofs.Decoding.{PropertiesLeft, properties-first, properties-at, properties-last, drop-end, passed, stops, only-memory}
use Rattle.dav_store_rows.proofs.loading.resources.decode_properties.Goals as goal

pub rows-init : goal.rows-init
rows-init c all (n, number, are) =
    subst (λ done. PropertiesLeft n (map property_entry c.args.rows.now) done all) (sym c.new-properties.ensures)
    (properties-first n (map property_entry c.args.rows.now) all are)

pub returns-then-row-number : goal.returns-then-row-number
returns-then-row-number c all (n, number, are) =
    let left = c.rows.invariant all (n, passed c.args.number n c.ranges.number number, are) in
    let next = properties-at n c.args.rows.now c.rows.row-index c.row-item.result c.rows.properties all c.rows-test.true c.row-item.is left in
    absurd (c.if-row-number.true (ap (of_z w64) (next.resource ∙ sym number)))

pub returns-in_err-decode_element : goal.returns-in_err-decode_element
returns-in_err-decode_element c all (n, number, are) =
    let left = c.rows.invariant all (n, passed c.args.number n c.ranges.number number, are) in
    let next = properties-at n c.args.rows.now c.rows.row-index c.row-item.result c.rows.properties all c.rows-test.true c.row-item.is left in
    let error = c.in_err-decode_element.field-0.0 in
    stops (λ (properties : PropertyMap). properties ≡ all) c.from_residual.result (from_cell error) c.from_residual.ensures.1
    (only-memory element_codec c.deref.result.now next.element error (ap (decode element_codec) c.deref.ensures.value ∙ next.decoded) c.in_err-decode_element.ensures)

pub rows-preserved : goal.rows-preserved
rows-preserved c all have =
    let next = properties-at have.0 c.args.rows.now c.rows.row-index c.row-item.result c.rows.properties all c.rows-test.true c.row-item.is (c.rows.invariant all have) in
    let element = c.in_ok-decode_element.field-0 in
    let same : element ≡ next.element = same_Some element next.element (sym c.in_ok-decode_element.ensures ∙ ap (decode element_codec) c.deref.ensures.value ∙ next.decoded) in
    let put : c.patch.new.self ≡ insert c.rows.properties (element_key next.element) next.element =
    c.in_ok-patch.ensures.ok ∙ ap (λ (p : Key × Option Tree). put_at c.rows.properties p.0 p.1) c.in_ok-prop.ensures ∙ ap (λ (x : Tree). insert c.rows.properties (element_key x) x) same in
    subst (λ done. PropertiesLeft have.0 (map property_entry (drop (c.rows.row-index + 1) c.args.rows.now)) done all) (sym put) next.after

pub returns : goal.returns
returns c all (n, number, are) =
    let left = c.rows.invariant all (n, passed c.args.number n c.ranges.number number, are) in
    properties-last n c.rows.properties all
    (subst (λ rs. PropertiesLeft n (map property_entry rs) c.rows.properties all) (drop-end c.args.rows.now c.rows.row-index (omega arith)) left)
