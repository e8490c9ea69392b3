use Rattle.std.proofs.Common.{◌∙◌, ◌==◌, [], not, length, sym, ap, string_bytes, refl}
use Rattle.std.specs.FinMap.{keys}
use Rattle.std.proofs.lemmas.List.{length-map}
use Rattle.slab.specs.Slab.{get}
use Rattle.dav_key.specs.Members.{names_among}
use Rattle.dav_nodes.specs.Tree.{Tree}
use Rattle.dav_nodes.specs.Links.{value_at, member_at}
use Rattle.dav_nodes.specs.Listing.{seen}
use Rattle.dav_nodes.proofs.NodeMembers.{members_found, none_found, no_members, any_names, no_names}
use Rattle.dav_nodes.proofs.nodes.Nodes.has_members.Goals as goal

pub returns-in-Some-clause-members : goal.returns-in-Some-clause-members
returns-in-Some-clause-members g c =
    let nodes = get c.self.inside.nodes in
    let held = c.self.inside.tree in
    any_names (value_at nodes) (member_at nodes) held.0 held.1 c.args.key.now (seen c.in-Some.members.now.entries) c.len.result
    (c.len.ensures.len ∙ sym (length-map c.in-Some.members.now.entries (λ e. (string_bytes e.0, e.1))))
    (members_found nodes held.0 held.1 c.args.key.now c.in-Some.members.now c.in-Some.ensures c.len.ensures.ordered)
    ∙ ap (λ (t : Tree g.row.R.Denot). not (length (names_among (keys t.values) c.args.key.now) == 0)) c.self.view_is

pub returns-in-None-clause-members : goal.returns-in-None-clause-members
returns-in-None-clause-members g c =
    let nodes = get c.self.inside.nodes in
    let held = c.self.inside.tree in
    any_names (value_at nodes) (member_at nodes) held.0 held.1 c.args.key.now [] 0 refl
    (no_members (value_at nodes) (member_at nodes) held.0 held.1 c.args.key.now (none_found nodes held.0 held.1 c.args.key.now c.in-None.ensures))
    ∙ ap (λ (t : Tree g.row.R.Denot). not (length (names_among (keys t.values) c.args.key.now) == 0)) c.self.view_is

pub returns-in-Some-clause-none : goal.returns-in-Some-clause-none
returns-in-Some-clause-none g c none = no_names c.args.key.now c.args.self.now.values (sym (returns-in-Some-clause-members g c) ∙ none)

pub returns-in-None-clause-none : goal.returns-in-None-clause-none
returns-in-None-clause-none g c none = no_names c.args.key.now c.args.self.now.values (sym (returns-in-None-clause-members g c) ∙ none)
