use Rattle.std.proofs.Common.{refl, sym, ap, subst, ◌∙◌}
use Rattle.dav_seal.specs.Seals.{IsSealed, AreSealsOf}
use Rattle.dav_store_rows.proofs.Decoding.{stops-err}
use Rattle.dav_keep.specs.Images.{values_of}
use Rattle.dav_keep.specs.declared.numbers.Numbers.{Numbers}
use Rattle.dav_keep.proofs.loading.load.Goals as goal

pub returns-in_err-counts-clause-err : goal.returns-in_err-counts-clause-err
returns-in_err-counts-clause-err c = λ image tables are.
    stops-err c.from_residual-in_err-counts.result c.in_err-counts.field-0.0 c.from_residual-in_err-counts.ensures.1
    (c.in_err-counts.ensures.err tables image.tree are.all are.stand.resources)

pub returns-in_err-seals-clause-err : goal.returns-in_err-seals-clause-err
returns-in_err-seals-clause-err c = λ image tables are.
    let numbers = (c.in_ok-loaded.ensures.loaded image tables are).numbers in
    stops-err c.from_residual-in_err-seals.result c.in_err-seals.field-0.0 c.from_residual-in_err-seals.ensures.1
    (c.in_err-seals.ensures.err tables are.all (subst (λ (n : Numbers). IsSealed n.key tables) (sym numbers) (values_of image.numbers, refl, are.stand.state)))

pub returns-clause-known : goal.returns-clause-known
returns-clause-known c = λ image tables are.
    let numbers = (c.in_ok-loaded.ensures.loaded image tables are).numbers in
    record {
      stand = are.stand;
      fits = c.in_ok-counts.ensures.ok tables are.all;
      locks = sym are.all.locks ∙ sym c.from_rows-2.ensures;
      version = ap (λ (n : Numbers). n.counter) numbers;
      key = ap (λ (n : Numbers). n.key) numbers;
      seals = subst (λ (n : Numbers). AreSealsOf n.key tables c.in_ok-seals.seals) numbers (c.in_ok-seals.ensures.seals tables (record { resources = are.all.resources; extents = are.all.extents; properties = are.all.properties; locks = are.all.locks; states = are.all.states }));
    }
