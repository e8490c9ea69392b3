-- The first value of the name among the fields that are left is the first of all.
use Rattle.std.proofs.Common.{◌≡◌}
use Rattle.http_header.specs.Token.{lowercase}
use Rattle.http_header.specs.HeaderMap.{get}
use Rattle.dav_headers.proofs.FirstLemmas.{first_of}
use Rattle.dav_headers.proofs.values.first_value.Given as goal

abbrev pub invariant-loop-own : goal.invariant-loop-own
invariant-loop-own l =
    (first_of (lowercase l.name) l.own-iterator ≡ get l.headers (lowercase l.name)) ×
    (goal.iterator-loop-own).can_next l.own-iterator ×
    (goal.iterator-loop-own).is_finite l.own-iterator
