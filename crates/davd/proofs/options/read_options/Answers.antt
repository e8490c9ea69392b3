use Rattle.std.proofs.Common.{◌≡◌, ◌∙◌, ◌<◌, ◌≤◌, arith, length, Some, None, sym, ap, subst}
use Rattle.std.specs.Prelude.{IfOk, IfErr}
use Rattle.davd.specs.Options.{IsFault, is_check, value_of}
use Rattle.davd.proofs.Checks.{few_serve, many_serve, others_serve}
use Rattle.davd.proofs.options.read_options.Goals as goal

pub returns-in-len1-clause-ok : goal.returns-in-len1-clause-ok
returns-in-len1-clause-ok c =
    let below : length c.args.arguments.now < 2 = omega (arith, c.in-len1.len_below) in
    subst (λ said. IfOk c.read_server_options-in-len1.result (λ options. said ≡ Some (value_of options))) (sym (few_serve c.args.arguments.now below))
    c.read_server_options-in-len1.ensures.ok

pub returns-in-len1-clause-err : goal.returns-in-len1-clause-err
returns-in-len1-clause-err c =
    let below : length c.args.arguments.now < 2 = omega (arith, c.in-len1.len_below) in
    subst (λ said. IfErr c.read_server_options-in-len1.result (IsFault (said ≡ None))) (sym (few_serve c.args.arguments.now below))
    c.read_server_options-in-len1.ensures.err

pub returns-in-len3-up-clause-ok : goal.returns-in-len3-up-clause-ok
returns-in-len3-up-clause-ok c =
    let least : 3 ≤ length c.args.arguments.now = omega (arith, c.in-len3-up.len_at_least) in
    subst (λ said. IfOk c.read_server_options-in-len3-up.result (λ options. said ≡ Some (value_of options))) (sym (many_serve c.args.arguments.now least))
    c.read_server_options-in-len3-up.ensures.ok

pub returns-in-len3-up-clause-err : goal.returns-in-len3-up-clause-err
returns-in-len3-up-clause-err c =
    let least : 3 ≤ length c.args.arguments.now = omega (arith, c.in-len3-up.len_at_least) in
    subst (λ said. IfErr c.read_server_options-in-len3-up.result (IsFault (said ≡ None))) (sym (many_serve c.args.arguments.now least))
    c.read_server_options-in-len3-up.ensures.err

pub returns-else-eq-clause-ok : goal.returns-else-eq-clause-ok
returns-else-eq-clause-ok c =
    subst (λ said. IfOk c.read_server_options-else-eq.result (λ options. said ≡ Some (value_of options)))
    (sym (others_serve c.args.arguments.now c.name-item.result c.name-item.is (ap is_check (sym c.as_str.ensures.value) ∙ sym (c.if-eq.ensures {u = tt}))))
    c.read_server_options-else-eq.ensures.ok

pub returns-else-eq-clause-err : goal.returns-else-eq-clause-err
returns-else-eq-clause-err c =
    subst (λ said. IfErr c.read_server_options-else-eq.result (IsFault (said ≡ None)))
    (sym (others_serve c.args.arguments.now c.name-item.result c.name-item.is (ap is_check (sym c.as_str.ensures.value) ∙ sym (c.if-eq.ensures {u = tt}))))
    c.read_server_options-else-eq.ensures.err
