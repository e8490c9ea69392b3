use Rattle.std.proofs.Common.{◌≡◌, ◌∙◌, drop, map, ap, sym, nat_eq, arith}
use Rattle.std.proofs.lemmas.List.{drop_all}
use Rattle.toml.specs.View.{table_view}
use Rattle.dav_rules.specs.Rules.{present, count}
use Rattle.dav_rules.proofs.Lists.{count-length}
use Rattle.dav_rules.proofs.rule.has_only.Goals as goal

pub returns : goal.returns
returns c =
    let none = drop_all c.loop-key.key-index c.args.keys.now c.loop-key-test.false in
    let left : present (map (λ k. k.now) (drop c.loop-key.key-index c.args.keys.now)) (table_view c.args.table.now) ≡ 0 = ap (λ ks. present (map (λ k. k.now) ks) (table_view c.args.table.now)) none in
    let found : c.loop-key.found ≡ present (map (λ k. k.now) c.args.keys.now) (table_view c.args.table.now) = let all = c.loop-key.invariant.0 in omega (arith, left, all) in
    let all : c.len.result ≡ count (table_view c.args.table.now) = c.len.ensures.len ∙ sym (count-length c.args.table.now.entries) in
    λ i. nat_eq (all i) (found i)
