use Rattle.std.proofs.Common.{None, refl}
use Rattle.dav_nodes.specs.Noted.{tree_of, before_of}
use Rattle.dav_tree.proofs.Loaded.{loaded-kept, is-loaded}
use Rattle.dav_tree.proofs.Saving.{saved-all, saved-none}
use Rattle.dav_tree.proofs.Sweeping.{files-more}
use Rattle.dav_tree.proofs.entries.Entries.load.Goals as goal

pub used_in-requires-clause-held : goal.used_in-requires-clause-held
used_in-requires-clause-held g c =
    let m = g.M.Medium in
    files-more (m.safe c.args.medium) (m.holds c.args.medium) (g.met.M.Medium.safe_held c.args.medium) c.args.nodes c.requires.safe

pub invariant_of-result : goal.invariant_of-result
invariant_of-result g c =
    let m = g.M.Medium in
    let held = files-more (m.safe c.args.medium) (m.holds c.args.medium) (g.met.M.Medium.safe_held c.args.medium) c.args.nodes c.requires.safe in (
      loaded-kept (m.bytes c.args.medium) c.args.nodes (tree_of c.saved.result) c.saved.ensures.tree c.new.result c.new.ensures.empty (m.holds c.args.medium) c.in-Ok.used c.in-Ok.ensures held,
      saved-all (m.safe c.args.medium) (before_of c.saved.result) c.args.nodes c.saved.ensures.before c.requires.safe,
      saved-none (m.safe c.args.medium) None refl,
    )

pub returns-clause-loaded : goal.returns-clause-loaded
returns-clause-loaded g c =
    let m = g.M.Medium in
    is-loaded (m.bytes c.args.medium) c.args.nodes (tree_of c.saved.result) c.saved.ensures.tree c.new.result c.new.ensures.empty m.body_code (m.is_honest c.args.medium) (m.is_faultless c.args.medium) (m.settled c.args.medium) (before_of c.saved.result) c.saved.ensures.before
