use Rattle.std.proofs.Common.{rules, ◌<◌, length, sym, arith}
use Rattle.std.proofs.lemmas.Bool.Decides.{nat_tests}
use Rattle.dav_headers.proofs.RepeatedLemmas.{read_next, read_stuck, read_all}
use Rattle.dav_headers.proofs.TagListLemmas.{first_listed-shortens}
use Rattle.dav_headers.proofs.tag_list.tags_of.Goals as goal

pub returns-in_default : goal.returns-in_default
returns-in_default c =
    let some : 0 < length c.loop-rest.rest.now = grind (arith, nat_tests) in
    rw (← c.drop_separators-rest.ensures) (read_stuck _ _ c.loop-rest.rest.now c.in_default.ensures some c.loop-rest.invariant.1)

pub loop-rest-smaller : goal.loop-rest-smaller
loop-rest-smaller c = first_listed-shortens.shorter c.loop-rest.rest.now _ (sym c.in-Some.ensures)

pub loop-rest-preserved : goal.loop-rest-preserved
loop-rest-preserved c =
    let some : 0 < length c.loop-rest.rest.now = grind (arith, nat_tests) in (
      search rules,
      rw (c.in_ok-push.ensures.items, c.in_ok-tag.ensures) (read_next first_listed-shortens _ _ c.loop-rest.rest.now _ _ c.in-Some.ensures some c.loop-rest.invariant.1),
    )

pub returns : goal.returns
returns c =
    rw (← c.drop_separators-rest.ensures) (read_all _ _ c.loop-rest.rest.now (grind (arith, nat_tests)) c.loop-rest.invariant.1)
