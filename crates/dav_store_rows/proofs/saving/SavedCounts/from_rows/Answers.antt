use Rattle.std.proofs.Common.{sym, subst}
use Rattle.std.specs.FinMap.{entries}
use Rattle.dav_store_rows.specs.Counted.{IsNumber, HasCounts, IsPartIn, IsExtentCounted, IsPropertyCounted, AllKeys}
use Rattle.dav_store_rows.proofs.Decoding.{stops-err}
use Rattle.dav_store_rows.proofs.Counting.{all_more, grown_part, counted_fit, only_numbers, only_extents_in, only_properties_in}
use Rattle.dav_store_rows.proofs.saving.SavedCounts.from_rows.Goals as goal

pub returns-in_err-count_resources-clause-err : goal.returns-in_err-count_resources-clause-err
returns-in_err-count_resources-clause-err c = λ m tree all stand.
    let slice = c.deref.ensures.value in
    stops-err c.from_residual.result c.in_err-count_resources.field-0.0 c.from_residual.ensures.1
    (c.in_err-count_resources.ensures.err (rw slice (subst (AllKeys IsNumber) (sym all.resources) (only_numbers m tree stand))))

pub returns-in_err-count_extents-clause-err : goal.returns-in_err-count_extents-clause-err
returns-in_err-count_extents-clause-err c = λ m tree all stand.
    let slice = c.deref.ensures.value in
    let own = c.deref-2.ensures.value in
    let has : AllKeys (HasCounts c.count_resources.new.saved) (entries m.resources) =
    subst (AllKeys (HasCounts c.count_resources.new.saved)) all.resources (rw slice at c.in_ok-count_resources.ensures.counted) in
    stops-err c.from_residual-in_err-count_extents.result c.in_err-count_extents.field-0.0 c.from_residual-in_err-count_extents.ensures.1
    (c.in_err-count_extents.ensures.err
    (rw own (subst (AllKeys (IsPartIn c.count_resources.new.saved)) (sym all.extents) (only_extents_in m tree c.count_resources.new.saved stand has))))

pub returns-in_err-count_properties-clause-err : goal.returns-in_err-count_properties-clause-err
returns-in_err-count_properties-clause-err c = λ m tree all stand.
    let slice = c.deref.ensures.value in
    let own = c.deref-3.ensures.value in
    let has : AllKeys (HasCounts c.count_resources.new.saved) (entries m.resources) =
    subst (AllKeys (HasCounts c.count_resources.new.saved)) all.resources (rw slice at c.in_ok-count_resources.ensures.counted) in
    let parts =
    all_more (IsPartIn c.count_resources.new.saved) (IsPartIn c.count_extents.new.saved) (entries m.properties)
    (grown_part c.count_resources.new.saved c.count_extents.new.saved c.in_ok-count_extents.ensures.grows)
    (only_properties_in m tree c.count_resources.new.saved stand has) in
    stops-err c.from_residual-in_err-count_properties.result c.in_err-count_properties.field-0.0 c.from_residual-in_err-count_properties.ensures.1
    (c.in_err-count_properties.ensures.err (rw own (subst (AllKeys (IsPartIn c.count_extents.new.saved)) (sym all.properties) parts)))

pub returns-clause-ok : goal.returns-clause-ok
returns-clause-ok c = λ m all.
    let resources = c.deref.ensures.value in
    let extents = c.deref-2.ensures.value in
    let properties = c.deref-3.ensures.value in
    counted_fit m c.count_resources.new.saved c.count_extents.new.saved c.count_properties.new.saved
    (subst (AllKeys (HasCounts c.count_resources.new.saved)) all.resources (rw resources at c.in_ok-count_resources.ensures.counted))
    (subst (AllKeys (IsExtentCounted c.count_extents.new.saved)) all.extents (rw extents at c.in_ok-count_extents.ensures.counted))
    (subst (AllKeys (IsPropertyCounted c.count_properties.new.saved)) all.properties (rw properties at c.in_ok-count_properties.ensures.counted))
    c.in_ok-count_extents.ensures.grows c.in_ok-count_properties.ensures.grows
