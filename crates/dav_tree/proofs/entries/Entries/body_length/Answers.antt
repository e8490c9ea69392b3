use Rattle.std.proofs.Common.{◌∙◌, ap, sym, Some, length, nat_cmp}
use Rattle.std.specs.Option.{option_map}
use Rattle.std.specs.BTreeMap as ordered
use Rattle.dav_tree.proofs.Keeping.{body-in}
use Rattle.dav_tree.proofs.entries.Entries.body_length.Goals as goal

pub returns-in-None : goal.returns-in-None
returns-in-None g c =
    let f = c.self.inside in let b = g.M.Medium.bytes f.medium in let h = g.M.Medium.holds f.medium in
    let found = c.in-None.ensures.value ∙ ap (λ n. ordered.get nat_cmp f.bodies n) c.as_u64.ensures in
    sym (ap (option_map length) (body-in b _ f.tree.nodes f.bodies f.next _ c.args.self.now c.self.view_is c.args.number ∙ ap (option_map b) (sym found)))

pub returns-in-Some : goal.returns-in-Some
returns-in-Some g c =
    let f = c.self.inside in let b = g.M.Medium.bytes f.medium in let h = g.M.Medium.holds f.medium in
    let found = c.in-Some.ensures.value ∙ ap (λ n. ordered.get nat_cmp f.bodies n) c.as_u64.ensures in
    ap Some c.len.ensures ∙ sym (ap (option_map length) (body-in b _ f.tree.nodes f.bodies f.next _ c.args.self.now c.self.view_is c.args.number ∙ ap (option_map b) (sym found)))
