use Rattle.std.proofs.Common.{◌∙◌, inl, inr}
use Rattle.sqlite.specs.WalFiles.{image_at}
use Rattle.davd.proofs.Leaves.{on_ok, on_err, passed_on, goes_on, goes_on_with_log, goes_on_and_stops}
use Rattle.davd.specs.Folder.{rules_for}
use Rattle.davd.proofs.serving.serve_folder.Goals as goal

pub returns-clause-served : goal.returns-clause-served
returns-clause-served g c =
    let served = c.serve_to_the_end in
    let opened = c.in_ok-opened in
    on_ok served.result.0 served.ensures.served
    (goes_on (rules_for c.args.options.server) opened.opened served.result.1 (image_at g.R.Start) g.T.Start.db c.args.options.start opened.ensures.kept opened.ensures.new opened.ensures.sealed opened.ensures.tags opened.ensures.marks opened.ensures.keyed
    served.ensures.clean (image_at g.N.Start) opened.last served.result.2 served.ensures.calm (served.ensures.key ∙ opened.ensures.key) opened.ensures.up_to_date opened.ensures.numbered _ _ _ _)

pub returns-clause-stopped : goal.returns-clause-stopped
returns-clause-stopped g c =
    let served = c.serve_to_the_end in
    let opened = c.in_ok-opened in
    on_err served.result.0 served.ensures.stopped (λ either. elim either [
      | inl stops ↦ inl (goes_on_and_stops (rules_for c.args.options.server) opened.opened served.result.1 (image_at g.R.Start) g.T.Start.db c.args.options.start
          opened.ensures.kept opened.ensures.new opened.ensures.sealed opened.ensures.tags opened.ensures.marks opened.ensures.keyed served.ensures.clean
          (image_at g.N.Start) opened.last served.result.2 served.ensures.calm (served.ensures.key ∙ opened.ensures.key) opened.ensures.up_to_date opened.ensures.numbered _ _ stops)
      | inr runs ↦ inr (goes_on_with_log (rules_for c.args.options.server) opened.opened served.result.1 (image_at g.R.Start) g.T.Start.db c.args.options.start
          opened.ensures.kept opened.ensures.new opened.ensures.sealed opened.ensures.tags opened.ensures.marks opened.ensures.keyed served.ensures.clean
          (image_at g.N.Start) opened.last served.result.2 served.ensures.calm (served.ensures.key ∙ opened.ensures.key) opened.ensures.up_to_date opened.ensures.numbered _ _ _ _ runs)
    ])

pub returns-in_err-opened-clause-refused : goal.returns-in_err-opened-clause-refused
returns-in_err-opened-clause-refused g c =
    passed_on c.from_residual.result c.in_err-opened.field-0.0 _ c.from_residual.ensures.1 c.in_err-opened.ensures.refused
