use Rattle.std.proofs.Common.{◌∙◌, ◌<◌, inl, inr, Some, ap, arith}
use Rattle.std.proofs.lemmas.Bool.{cases_eq}
use Rattle.dav_tree.proofs.Sweeping.{more-held, files-more, bodies-trans}
use Rattle.dav_tree.proofs.entries.sweep.keep_files.Goals as goal

pub keep_file-requires : goal.keep_file-requires
keep_file-requires g c =
    files-more (g.M.Medium.holds c.args.medium.now) (g.M.Medium.holds c.loop-number.medium) c.loop-number.invariant.kept.held c.args.tree.now c.requires

pub loop-number-preserved : goal.loop-number-preserved
loop-number-preserved g c =
    let m = g.M.Medium in
    let before = c.loop-number.invariant in
    record {
      marked = λ n below key e at is. elim (cases_eq n c.loop-number.number) [
        | inl same ↦ c.keep_file.ensures.marked key e (at ∙ ap Some same) is
        | inr apart ↦
            let lower : n < c.loop-number.number = omega (arith, below, apart) in
            more-held (m.marked c.loop-number.medium) (m.marked c.keep_file.new.medium) c.keep_file.ensures.marks e.content (before.marked n lower key e at is)
      ];
      marks = λ body is. c.keep_file.ensures.marks body (before.marks body is);
      kept = bodies-trans m.bytes m.holds m.safe c.args.medium.now c.loop-number.medium c.keep_file.new.medium before.kept c.keep_file.ensures.kept;
    }
