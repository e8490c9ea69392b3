use Rattle.std.proofs.Common.{length}
use denote.Text.{Utf8}
use denote.Shadow.{shadow}
use Rattle.dav_headers.specs.IfToken.{first_token}
use Rattle.dav_headers.proofs.RepeatedLemmas.{IsReadTo}
use Rattle.dav_headers.proofs.if_token.tokens_of.Given as goal

abbrev pub invariant-loop-rest : goal.invariant-loop-rest
invariant-loop-rest l = shadow (Utf8 l.rest) × IsReadTo first_token l.initial.rest l.tokens.items l.rest

abbrev pub decreases-loop-rest : goal.decreases-loop-rest
decreases-loop-rest l = length l.rest
