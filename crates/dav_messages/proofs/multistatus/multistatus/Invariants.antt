use Rattle.std.proofs.Common.{◌≡◌, take}
use Rattle.dav_messages.specs.Multistatus.{multistatus}
use Rattle.dav_messages.proofs.multistatus.multistatus.Given as goal

-- a response for each item so far
abbrev pub invariant-loop-path : goal.invariant-loop-path
invariant-loop-path l = l.tree ≡ multistatus l.profile (take l.path-index l.items)
