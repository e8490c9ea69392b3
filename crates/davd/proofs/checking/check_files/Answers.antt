use Rattle.std.proofs.Common.{refl}
use Rattle.disk_readonly.specs.Views.{inner_of, contents_of}
use Rattle.davd.proofs.Leaves.{on_ok, passed_on}
use Rattle.davd.proofs.Reading.{all_read}
use Rattle.davd.specs.Program.{IsNotUsage}
use Rattle.davd.proofs.checking.check_files.Goals as goal

pub returns-clause-whole : goal.returns-clause-whole
returns-clause-whole g c = on_ok c.report_checked.result c.report_checked.ensures.none (λ none. record {
  disk = inner_of c.in-Ok.disk;
  shown = contents_of c.in-Ok.disk;
  found = c.in-Ok-read.found;
  same = c.in-Ok.ensures.same;
  store = c.in_ok-expect_store.ensures.ok;
  rows = λ image tables keeps stand whole clean. c.in-Ok-read.ensures.kept image tables keeps stand whole clean;
  sealed = λ tables keeps clean. c.in-Ok-read.ensures.sealed tables keeps clean;
  read = λ key is. all_read c.in_ok-checked.checked none (c.in_ok-checked.ensures.read key is);
  up_to_date = c.in_ok-expect_up_to_date.ensures.up_to_date refl;
  numbered = λ clean calm tables keeps. c.in_ok-expect_up_to_date.ensures.numbered refl calm (c.in-Ok-read.ensures.current tables keeps clean);
})

pub returns-in_err-expect_up_to_date-clause-err : goal.returns-in_err-expect_up_to_date-clause-err
returns-in_err-expect_up_to_date-clause-err g c =
    passed_on c.from_residual-in_err-expect_up_to_date.result c.in_err-expect_up_to_date.field-0.0 IsNotUsage c.from_residual-in_err-expect_up_to_date.ensures.1
    c.in_err-expect_up_to_date.ensures.err

pub returns-in_err-expect_store-clause-err : goal.returns-in_err-expect_store-clause-err
returns-in_err-expect_store-clause-err g c =
    passed_on c.from_residual-in_err-expect_store.result c.in_err-expect_store.field-0.0 IsNotUsage c.from_residual-in_err-expect_store.ensures.1 c.in_err-expect_store.ensures.err

pub returns-in_err-checked-clause-err : goal.returns-in_err-checked-clause-err
returns-in_err-checked-clause-err g c =
    passed_on c.from_residual-in_err-checked.result c.in_err-checked.field-0.0 IsNotUsage c.from_residual-in_err-checked.ensures.1 c.in_err-checked.ensures.err
