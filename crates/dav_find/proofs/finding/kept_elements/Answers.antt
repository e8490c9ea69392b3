use Rattle.std.proofs.Common.{◌≡◌, ◌∙◌, ◌++◌, ◌∷◌, [], Option, None, Some, ap, sym, refl}
use Rattle.std.specs.Prelude.{filter_map}
use Rattle.std.specs.List.{cons_option}
use Rattle.std.specs.Option.{option_to_list}
use Rattle.std.proofs.lemmas.List.Elements.{filter_map-append}
use Rattle.dav_resource.specs.Tree.{Tree}
use Rattle.dav_resource.specs.declared.property.DavProp.{DavProp}
use Rattle.dav_find.proofs.finding.kept_elements.Goals as goal

alone : (o : Option Tree) → option_to_list o ≡ cons_option o []
alone None = refl
alone (Some t) = refl

pub loop-prop-preserved-in_ok-elements : goal.loop-prop-preserved-in_ok-elements
loop-prop-preserved-in_ok-elements c =
    c.in_ok-elements.ensures
    ∙ ap (λ ts. ts ++ option_to_list c.in-Some.prop.element) c.loop-prop.invariant
    ∙ ap (λ ts. filter_map (λ (p : DavProp). p.element) c.loop-prop.yielded ++ ts) (alone c.in-Some.prop.element)
    ∙ sym (filter_map-append (λ (p : DavProp). p.element) c.loop-prop.yielded (c.in-Some.prop ∷ []))

pub loop-prop-preserved : goal.loop-prop-preserved
loop-prop-preserved c =
    c.in_ok-elements.ensures
    ∙ ap (λ ts. ts ++ option_to_list c.in-Some.prop.element) c.loop-prop.invariant
    ∙ ap (λ ts. filter_map (λ (p : DavProp). p.element) c.loop-prop.yielded ++ ts) (alone c.in-Some.prop.element)
    ∙ sym (filter_map-append (λ (p : DavProp). p.element) c.loop-prop.yielded (c.in-Some.prop ∷ []))
