use Rattle.std.proofs.Common.{◌≡◌, ◌∙◌, ◌++◌, ◌+◌, [], ◌∷◌, List, Option, Some, map, option_map, drop, get_or, sym, ap}
use Rattle.std.proofs.lemmas.List.{map-append}
use Rattle.toml.specs.Data.{Data, Items}
use Rattle.toml.specs.View.{view, items_view}
use Rattle.toml.proofs.Views.{items_view-drop}
use Rattle.dav_rules.specs.Rules.{RuleValue, rule_value, rule_of, each_of, list_of}
use Rattle.dav_rules.proofs.Lists.{one-more}
use Rattle.dav_rules.proofs.text.read_each.Goals as goal

pub loop-value-preserved : goal.loop-value-preserved
loop-value-preserved c =
    let i = c.loop-value.value-index in
    let values = c.args.values.now in
    let part : Data → Option RuleValue = rule_of (option_map (λ v. view v.now) c.args.groups) in
    let left = list_of (items_view (drop (i + 1) values)) in
    let first = map rule_value c.loop-value.rules.items in
    let pushed = ap (map rule_value) c.in_ok-push-in-Ok.ensures.items ∙ map-append rule_value c.loop-value.rules.items (c.in-Ok.rule ∷ []) in
    let ahead = items_view-drop values i c.value-item.result c.loop-value-test.true in
    let read : part (view (get_or values i c.value-item.result)) ≡ Some (rule_value c.in-Ok.rule) = ap (λ v. part (view v)) (sym c.value-item.is) ∙ c.in-Ok.ensures in
    ap (λ (l : List RuleValue). option_map (λ rest. l ++ rest) (each_of part left)) pushed
    ∙ one-more first (rule_value c.in-Ok.rule) part (view (get_or values i c.value-item.result)) left read
    ∙ ap (λ (items : Items). option_map (λ rest. first ++ rest) (each_of part (list_of items))) (sym ahead)
    ∙ c.loop-value.invariant
