use Rattle.std.proofs.Common.{◌∙◌, rules, sym, ap}
use Rattle.std.specs.Option.{option_and_then}
use Rattle.davd.proofs.Arguments.{after-unlocks, after-loss, after-last, after-value, fault-by}
use Rattle.davd.proofs.options.read_server_options.Goals as goal

pub returns-in_err-set_folder-in_default-empty-clause-err :
    goal.returns-in_err-set_folder-in_default-empty-clause-err
returns-in_err-set_folder-in_default-empty-clause-err c =
    let last = after-last c.loop-rest.rest.now c.name-item.result _ c.as_str.result.now _ c.in-len1-up.len_at_least c.name-item.is c.as_str.ensures.value c.in_default-empty.not-text-0 c.in_default-empty.not-text-2-0 c.in_default-empty.len_below in
    let fault = fault-by (λ none. sym c.loop-rest.invariant ∙ last ∙ none) c.in_err-set_folder-in_default-empty.ensures.err in
    search rules

pub returns-in_err-set-in_default-len1-up-clause-err :
    goal.returns-in_err-set-in_default-len1-up-clause-err
returns-in_err-set-in_default-len1-up-clause-err c =
    let after = after-value c.loop-rest.rest.now c.name-item.result c.value-item.result _ _ c.as_str.result.now c.as_str-in_default-len1-up.result.now _ c.in-len1-up.len_at_least c.name-item.is c.as_str.ensures.value c.in_default-len1-up.not-text-0 c.in_default-len1-up.not-text-2-0 c.in_default-len1-up.len_at_least c.value-item.is c.as_str-in_default-len1-up.ensures.value in
    let fault = fault-by (λ none. sym c.loop-rest.invariant ∙ after ∙ ap (option_and_then _) none) c.in_err-set-in_default-len1-up.ensures.err in
    search rules

pub loop-rest-preserved-in-text-default : goal.loop-rest-preserved-in-text-default
loop-rest-preserved-in-text-default c =
    sym (after-unlocks c.loop-rest.rest.now c.name-item.result _ c.as_str.result.now _ c.in-len1-up.len_at_least c.name-item.is c.as_str.ensures.value c.in-text-default.is-text-0) ∙ c.loop-rest.invariant

pub loop-rest-preserved : goal.loop-rest-preserved
loop-rest-preserved c =
    let after = after-value c.loop-rest.rest.now c.name-item.result c.value-item.result _ _ c.as_str.result.now c.as_str-in_default-len1-up.result.now _ c.in-len1-up.len_at_least c.name-item.is c.as_str.ensures.value c.in_default-len1-up.not-text-0 c.in_default-len1-up.not-text-2-0 c.in_default-len1-up.len_at_least c.value-item.is c.as_str-in_default-len1-up.ensures.value in
    sym (sym c.loop-rest.invariant ∙ after ∙ ap (option_and_then _) c.in_ok-set-in_default-len1-up.ensures.ok)

pub loop-rest-preserved-in-text-default-2 : goal.loop-rest-preserved-in-text-default-2
loop-rest-preserved-in-text-default-2 c =
    sym (after-loss c.loop-rest.rest.now c.name-item.result _ c.as_str.result.now _ c.in-len1-up.len_at_least c.name-item.is c.as_str.ensures.value c.in-text-default-2.is-text-2-0) ∙ c.loop-rest.invariant
