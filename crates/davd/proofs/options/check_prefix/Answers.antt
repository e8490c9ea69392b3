use Rattle.std.proofs.Common.{rules, arith}
use Rattle.std.proofs.lemmas.Grind.{common_steps}
use Rattle.davd.proofs.Prefixes.{SaysOf, says}
use Rattle.davd.proofs.options.check_prefix.Goals as goal
use Rattle.davd.proofs.options.check_prefix.Goals.{in-Err-Memory, in-Err, in-Ok, in-Ok-2}

pub returns-clause-ok : goal.returns-clause-ok
returns-clause-ok c =
    let said : SaysOf c.args.prefix.now c.from_str_and_prefix.result = says c.args.prefix.now c.from_str_and_prefix.result c.from_str_and_prefix.ensures in
    elim c.match-from_str_and_prefix.branch [ in-Err-Memory w ↦ search rules | in-Err w ↦ search rules | in-Ok w ↦ grind (arith, common_steps) | in-Ok-2 w ↦ grind (arith, common_steps) ]

pub returns-clause-err : goal.returns-clause-err
returns-clause-err c =
    let said : SaysOf c.args.prefix.now c.from_str_and_prefix.result = says c.args.prefix.now c.from_str_and_prefix.result c.from_str_and_prefix.ensures in
    elim c.match-from_str_and_prefix.branch [ in-Err-Memory w ↦ search rules | in-Err w ↦ grind (arith, common_steps) | in-Ok w ↦ search rules | in-Ok-2 w ↦ search rules ]
