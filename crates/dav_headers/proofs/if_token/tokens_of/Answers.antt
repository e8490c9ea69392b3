use Rattle.std.proofs.Common.{rules, ◌<◌, length, sym, arith}
use Rattle.std.proofs.lemmas.Bool.Decides.{nat_tests}
use Rattle.dav_headers.proofs.RepeatedLemmas.{read_next, read_stuck, read_all}
use Rattle.dav_headers.proofs.TokenLemmas.{first_token-shortens}
use Rattle.dav_headers.proofs.if_token.tokens_of.Goals as goal

pub returns-in_default : goal.returns-in_default
returns-in_default c =
    let some : 0 < length c.loop-rest.rest.now = grind (arith, nat_tests) in
    rw (← c.drop_blanks-rest.ensures) (read_stuck _ _ c.loop-rest.rest.now (rw c.in_default.is at c.in_ok-token.ensures) some c.loop-rest.invariant.1)

pub loop-rest-smaller : goal.loop-rest-smaller
loop-rest-smaller c = first_token-shortens.shorter c.loop-rest.rest.now _ (sym (rw c.in-Some.is at c.in_ok-token.ensures))

pub loop-rest-preserved : goal.loop-rest-preserved
loop-rest-preserved c =
    let some : 0 < length c.loop-rest.rest.now = grind (arith, nat_tests) in (
      search rules,
      rw c.in_ok-push_back.ensures.items (read_next first_token-shortens _ _ c.loop-rest.rest.now _ _ (rw c.in-Some.is at c.in_ok-token.ensures) some c.loop-rest.invariant.1),
    )

pub returns : goal.returns
returns c =
    rw (← c.drop_blanks-rest.ensures) (read_all _ _ c.loop-rest.rest.now (grind (arith, nat_tests)) c.loop-rest.invariant.1)
