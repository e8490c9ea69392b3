use Rattle.dav_key.specs.Key.{parent}
use Rattle.dav_tree.proofs.Places.{directory-at, no-directory-at, nothing-at, not-true, not-false}
use Rattle.dav_tree.proofs.entries.Entries.directory_above.Goals as goal

pub returns-in_default : goal.returns-in_default
returns-in_default g c = nothing-at c.args.self.now (parent c.args.key.now) c.in_default.ensures

pub returns-then-not-place : goal.returns-then-not-place
returns-then-not-place g c = no-directory-at c.args.self.now (parent c.args.key.now) _ _ c.in-Some.ensures (not-true _ c.if-not-place.true)

pub returns : goal.returns
returns g c = directory-at c.args.self.now (parent c.args.key.now) _ _ c.in-Some.ensures (not-false _ c.if-not-place.false)
