use Rattle.std.proofs.Common.{◌∙◌, ap, sym, length, nat_cmp}
use Rattle.std.specs.BTreeMap as ordered
use Rattle.dav_tree.proofs.Keeping.{stored-some, stored-none}
use Rattle.dav_tree.proofs.entries.Entries.stored_len.Goals as goal

pub returns-in-Some-clause-value : goal.returns-in-Some-clause-value
returns-in-Some-clause-value g c =
    let f = c.self.inside in let b = g.M.Medium.bytes f.medium in
    let stored = stored-some b _ f.tree.nodes f.bodies f.next _ c.args.self.now c.self.view_is c.args.number c.in-Some.body.now (sym (c.in-Some.ensures.value ∙ ap (λ n. ordered.get nat_cmp f.bodies n) c.as_u64.ensures)) in
    c.len.ensures ∙ sym (ap length stored)

pub returns-in-None-clause-value : goal.returns-in-None-clause-value
returns-in-None-clause-value g c =
    let f = c.self.inside in let b = g.M.Medium.bytes f.medium in
    let none = stored-none b _ f.tree.nodes f.bodies f.next _ c.args.self.now c.self.view_is c.args.number (sym (c.in-None.ensures.value ∙ ap (λ n. ordered.get nat_cmp f.bodies n) c.as_u64.ensures)) in
    sym (ap length none)
