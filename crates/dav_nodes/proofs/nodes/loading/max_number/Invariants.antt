use Rattle.std.proofs.Common.{ℕ, ◌≤◌, take}
use Rattle.dav_nodes.specs.Loading.{HasNumber}
use Rattle.dav_nodes.proofs.nodes.loading.max_number.Given as goal

abbrev pub invariant-loop-row : goal.invariant-loop-row
invariant-loop-row g l = (n : ℕ) → HasNumber n (take l.row-index l.rows) → n ≤ l.max
