use Rattle.std.proofs.Common.{◌≡◌, ◌<◌, length, Some, None, Ok, ap, sym, arith, ◌∙◌, option_and_then}
use Rattle.std.proofs.lemmas.Bool.Decides.{nat_tests}
use Rattle.dav_headers.specs.IfHeader.{first_list, some_lists}
use Rattle.dav_headers.proofs.RepeatedLemmas.{read_next, read_stuck, read_all}
use Rattle.dav_headers.proofs.ListLemmas.{first_list-shortens, some_lists-found, some_lists-none}
use Rattle.dav_headers.proofs.if_header.lists_of.Goals as goal

pub returns-in_default : goal.returns-in_default
returns-in_default c =
    let some : 0 < length c.loop-alloc.tokens.items = grind (arith, nat_tests) in
    let none : None ≡ first_list c.loop-alloc.tokens.items = (let e = rw c.in_default.is at c.in_ok-list.ensures in cc) in
    ap (λ lists. Ok (option_and_then some_lists lists)) (sym (read_stuck c.args.tokens.items c.loop-alloc.lists.items c.loop-alloc.tokens.items none some c.loop-alloc.invariant))

pub loop-alloc-smaller : goal.loop-alloc-smaller
loop-alloc-smaller c =
    let e : first_list c.loop-alloc.tokens.items ≡ Some (c.in-Some.list, c.first_list.new.tokens.items) = (let f = rw c.in-Some.is at c.in_ok-list.ensures in cc) in
    first_list-shortens.shorter c.loop-alloc.tokens.items _ e

pub loop-alloc-preserved : goal.loop-alloc-preserved
loop-alloc-preserved c =
    let some : 0 < length c.loop-alloc.tokens.items = grind (arith, nat_tests) in
    let e : Some (c.in-Some.list, c.first_list.new.tokens.items) ≡ first_list c.loop-alloc.tokens.items = (let f = rw c.in-Some.is at c.in_ok-list.ensures in cc) in
    rw c.in_ok-push.ensures.items (read_next first_list-shortens c.args.tokens.items c.loop-alloc.lists.items c.loop-alloc.tokens.items c.in-Some.list c.first_list.new.tokens.items e some c.loop-alloc.invariant)

pub returns-then-is_empty : goal.returns-then-is_empty
returns-then-is_empty c =
    let all = read_all c.args.tokens.items c.loop-alloc.lists.items c.loop-alloc.tokens.items (grind (arith, nat_tests)) c.loop-alloc.invariant in
    ap (λ lists. Ok (option_and_then some_lists lists)) (sym all) ∙ ap Ok (some_lists-none c.loop-alloc.lists.items (grind (arith, nat_tests)))

pub returns : goal.returns
returns c =
    let all = read_all c.args.tokens.items c.loop-alloc.lists.items c.loop-alloc.tokens.items (grind (arith, nat_tests)) c.loop-alloc.invariant in
    let some : 0 < length c.loop-alloc.lists.items = grind (arith, nat_tests) in
    rw c.from_vec.ensures (ap (λ lists. Ok (option_and_then some_lists lists)) (sym all) ∙ ap Ok (some_lists-found c.loop-alloc.lists.items some))
