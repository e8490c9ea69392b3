use Rattle.std.proofs.Common.{◌≡◌, ◌∙◌, ap, sym, subst, None, Some}
use Rattle.std.specs.BTreeMap.{IsOrdered}
use Rattle.std.specs.FinMap as map
use Rattle.dav_key.specs.Below.{put_at}
use Rattle.dav_key.specs.EachLaws.{put_at-same}
use Rattle.dav_tree.specs.PropertyNames.{key_of, name_cmp, properties_of}
use Rattle.dav_tree.specs.Patching.{replaced_by}
use Rattle.dav_tree.specs.declared.properties.Properties.TheInside.{Inside}
use Rattle.dav_tree.proofs.OrderedKeys.{set-map}
use Rattle.dav_tree.proofs.PropertyMaps.{names_agree, get-properties_of}
use Rattle.dav_tree.proofs.properties.Properties.replace.Goals.{in-Some, in_default}
use Rattle.dav_tree.proofs.properties.Properties.replace.Goals as goal

pub invariant_of-self : goal.invariant_of-self
invariant_of-self c = elim c.match-get_mut.branch [
  | in-Some w ↦ subst (λ (i : Inside). IsOrdered name_cmp i.map) (sym w.self-inside-is) (c.get_mut.follows.holds c.args.element).4
  | in_default w ↦ subst (λ (i : Inside). IsOrdered name_cmp i.map) (sym w.self-inside-is) (subst (IsOrdered name_cmp) (sym c.get_mut.follows.holds-at-none) c.self.invariant)
]

pub returns : goal.returns
returns c =
    let name = c.args.name.now in
    let old = c.args.self.now in
    let found = get-properties_of name c.self.inside.map ∙ ap (λ m. map.get m (key_of name)) c.self.view_is in
    elim c.match-get_mut.branch [
      | in-Some w ↦
          ap (λ (i : Inside). properties_of i.map) w.self-inside-is
          ∙ set-map key_of (name_cmp name) (key_of name) (names_agree name) w.in-Some.place.now c.args.element c.self.inside.map (c.get_mut.follows.lender c.args.element) (sym w.in-Some.ensures.value) (c.get_mut.follows.holds c.args.element).0
          ∙ ap (λ m. map.insert m (key_of name) c.args.element) c.self.view_is
          ∙ sym (ap (λ o. put_at old (key_of name) (replaced_by (Some (Some c.args.element)) o)) (sym found ∙ sym w.in-Some.ensures.value))
      | in_default w ↦
          let none : map.get old (key_of name) ≡ None = sym found ∙ sym w.in_default.ensures.value in
          ap (λ (i : Inside). properties_of i.map) w.self-inside-is
          ∙ ap properties_of c.get_mut.follows.holds-at-none
          ∙ c.self.view_is
          ∙ sym (ap (λ o. put_at old (key_of name) (replaced_by (Some (Some c.args.element)) o)) none ∙ put_at-same old (key_of name) None none)
    ]
