-- How the set of their names shows which properties are among some.
use Rattle.std.specs.Prelude.{◌≡◌, ◌&&◌, ◌||◌, Bool, true, false, not, if◌then◌else◌, cond, List, [], ◌∷◌, ◌++◌, Option, Some, None, bytes_eq}
use Rattle.std.proofs.Common.{ap, refl, sym, ◌∙◌, ℕ}
use Rattle.std.proofs.lemmas.Bool.{and_parts}
use Rattle.std.proofs.lemmas.Cmp.{nat_list_eq_equiv}
use Rattle.std.proofs.lemmas.List.{map-append}
use Rattle.std.proofs.lemmas.List.Folds.{list_any-append}
use Rattle.std.proofs.lemmas.Map.Text.{is_eq-slice_cmp}
use Rattle.std.specs.BTreeSet.{BTreeSet, Updates}
use Rattle.std.specs.Cmp.Lexicographic.{options_equiv}
use Rattle.std.specs.List.{list_any}
use Rattle.std.specs.Option.{option_cmp, option_copied, option_eq}
use Rattle.std.specs.Ordering.{eq_by_cmp, is_eq, ordering_then}
use Rattle.std.specs.declared.cmp.Ordering.{Ordering}
use Rattle.std.specs.declared.cmp.Ordering.TheVariants.{Less, Equal, Greater}
use denote.Ref.{Bor}
use Rattle.dav_resource.specs.Tree.{Tree}
use Rattle.dav_find.specs.Asked.{ask_once, is_among, is_same}
use Rattle.dav_find.specs.Names.{text_cmp, name_cmp, is_named_by, elements_in, AreNamesOf}
use Rattle.dav_find.specs.declared.names.PropertyName.{PropertyName}
use Rattle.dav_find.specs.Asked.{AskedProperty}

-- ---- which names are equal

then_equal : (a b : Ordering) → is_eq (ordering_then a b) ≡ (is_eq a && is_eq b)
then_equal Less b = refl
then_equal Equal b = refl
then_equal Greater b = refl

options_equal : (a b : Option (Bor (List ℕ))) → is_eq (option_cmp text_cmp a b) ≡ option_eq bytes_eq (option_copied a) (option_copied b)
options_equal None None = refl
options_equal None (Some b) = refl
options_equal (Some a) None = refl
options_equal (Some a) (Some b) = is_eq-slice_cmp a.now b.now

names_equal : (a b : PropertyName) → eq_by_cmp name_cmp a b ≡ (option_eq bytes_eq (option_copied a.namespace) (option_copied b.namespace) && bytes_eq a.name.now b.name.now)
names_equal a b =
    then_equal (option_cmp text_cmp a.namespace b.namespace) (text_cmp a.name b.name)
    ∙ (λ i. options_equal a.namespace b.namespace i && is_eq-slice_cmp a.name.now b.name.now i)

-- ---- the name of an element

module _ (name : PropertyName) (element : Tree) (namespace : option_copied name.namespace ≡ element.tag.namespace) (local : name.name.now ≡ element.tag.name) where
  -- elements name the property of this name where they name the element's
  pub is_among_them : (elements : List Tree) → list_any (is_named_by name) elements ≡ is_among element elements
  is_among_them elements = λ i. list_any (λ (e : Tree). option_eq bytes_eq (namespace i) e.tag.namespace && bytes_eq (local i) e.tag.name) elements

  -- a name is this one where the element has it
  is_this : (other : PropertyName) → eq_by_cmp name_cmp name other ≡ is_named_by other element
  is_this other =
      names_equal name other
      ∙ (λ i. option_eq bytes_eq (namespace i) (option_copied other.namespace) && bytes_eq (local i) other.name.now)
      ∙ (λ i. (options_equiv nat_list_eq_equiv).symm element.tag.namespace (option_copied other.namespace) i && nat_list_eq_equiv.symm element.tag.name other.name.now i)

either : (b c : Bool) → cond b true c ≡ (c || (b || false))
either true true = refl
either true false = refl
either false true = refl
either false false = refl

-- with the name of one more property the set has the names of all
pub one_more : (old new : BTreeSet PropertyName) (elements : List Tree) (name : PropertyName) (more : Tree) → option_copied name.namespace ≡ more.tag.namespace → name.name.now ≡ more.tag.name
    → AreNamesOf old elements → Updates name_cmp old new name true → AreNamesOf new (elements ++ more ∷ [])
one_more old new elements name more namespace local are updates other =
    updates.0 other
    ∙ (λ i. cond (is_this name more namespace local other i) true (are other i))
    ∙ either (is_named_by other more) (list_any (is_named_by other) elements)
    ∙ sym (list_any-append (is_named_by other) elements (more ∷ []))

-- ---- a name that is there already

-- a name of the element is that of the same properties
same_names : (name : PropertyName) (element : Tree) → is_named_by name element ≡ true → (elements : List Tree) → list_any (is_named_by name) elements ≡ is_among element elements
same_names name element is elements =
    let parts = and_parts _ _ is in
    λ i. list_any (λ (e : Tree). (options_equiv nat_list_eq_equiv).congr (option_copied name.namespace) element.tag.namespace e.tag.namespace parts.0 i && nat_list_eq_equiv.congr name.name.now element.tag.name e.tag.name parts.1 i) elements

adds_nothing : (is_more is_there : Bool) → (is_more ≡ true → is_there ≡ true) → (is_there || (is_more || false)) ≡ is_there
adds_nothing true true there = refl
adds_nothing true false there = sym (there refl)
adds_nothing false true there = refl
adds_nothing false false there = refl

-- the names with those of one that is among them are theirs
pub as_before : (names : BTreeSet PropertyName) (elements : List Tree) (more : Tree) → is_among more elements ≡ true → AreNamesOf names (elements ++ more ∷ []) → AreNamesOf names elements
as_before names elements more among are name =
    are name
    ∙ list_any-append (is_named_by name) elements (more ∷ [])
    ∙ adds_nothing (is_named_by name more) (list_any (is_named_by name) elements) (λ is. same_names name more is elements ∙ among)

-- ---- properties that are sought

mapped : (p : Tree → Bool) (asked : List AskedProperty) → list_any p (elements_in asked) ≡ list_any (λ (a : AskedProperty). p a.element) asked
mapped p [] = refl
mapped p (a ∷ asked) = ap (λ b. p a.element || b) (mapped p asked)

-- the names with that of one more property are those of all
pub with_one_more : (names : BTreeSet PropertyName) (asked : List AskedProperty) (more : AskedProperty) → AreNamesOf names (elements_in asked ++ more.element ∷ []) → AreNamesOf names (elements_in (asked ++ more ∷ []))
with_one_more names asked more are = rw (map-append (λ (a : AskedProperty). a.element) asked (more ∷ [])) are

pub is_there : (is_in added : Bool) → added ≡ not is_in → added ≡ false → is_in ≡ true
is_there true added is without = refl
is_there false added is without = sym without ∙ is

by_added : {X : Type 0} (asked all : X) (is_in added : Bool) → added ≡ not is_in → (if is_in then asked else all) ≡ (if added then all else asked)
by_added asked all true added is = rw is refl
by_added asked all false added is = rw is refl

-- one more property stands behind the others exactly where its name is a new one
pub asks : (asked : List AskedProperty) (more : AskedProperty) (added : Bool) → added ≡ not (is_among more.element (elements_in asked)) → ask_once asked more ≡ (if added then asked ++ more ∷ [] else asked)
asks asked more added is = by_added asked (asked ++ more ∷ []) _ added (is ∙ ap not (mapped (is_same more.element) asked))
