-- Properties whose elements have their names.
use Rattle.std.proofs.Common.{◌≡◌, ◌∙◌, suc, Bool, true, false, cond, List, [], ◌∷◌, Option, Some, None, refl, sym, ap, subst, arith}
use Rattle.std.specs.Prelude.{All}
use Rattle.std.specs.Option.{option_map}
use Rattle.std.specs.Ordering.{eq_by_cmp}
use Rattle.std.specs.FinMap.{empty, get, get-empty}
use Rattle.dav_key.specs.Key.{Key, key_cmp, tied_decides}
use Rattle.dav_resource.specs.Tree.{Tree}
use Rattle.dav_resource.specs.declared.property.PropertyPatch.TheVariants.{Set, Remove, Modified, Created}
use Rattle.dav_key.specs.Below.{put_at}
use Rattle.dav_store.specs.Store.{PropertyMap, AreNamed, element_key}
use Rattle.dav_store.specs.PropertyCalls.{Patch, patch, patched, name_of, IsWhole}
use Rattle.dav_key.specs.EachLaws.{get-put_at}

pub named-empty : AreNamed empty
named-empty name element here = absurd (let clash : None ≡ Some element = sym (get-empty key_cmp name) ∙ here in cc)

-- an element is put at its name, or nothing
named-put : (m : PropertyMap) (k : Key) (o : Option Tree) → AreNamed m → ((e : Tree) → o ≡ Some e → element_key e ≡ k) → AreNamed (put_at m k o)
named-put m k o named own name element here = by (eq_by_cmp key_cmp name k) refl (sym (get-put_at m k o name) ∙ here)
  where
    by : (b : Bool) → eq_by_cmp key_cmp name k ≡ b → cond b o (get m name) ≡ Some element → element_key element ≡ name
    by true tied at = own element at ∙ sym ((tied_decides name k).0 tied)
    by false tied at = named name element at

named-patch : (m : PropertyMap) (change : Patch) → AreNamed m → IsWhole change → AreNamed (patch m change)
named-patch m (Set prop) named whole =
    named-put m (name_of prop) prop.element named (λ e is. let same : Some (element_key e) ≡ Some (name_of prop) = sym (ap (option_map element_key) is) ∙ whole in cc)
named-patch m (Remove prop) named whole = named-put m (name_of prop) None named (λ e is. absurd cc)
named-patch m (Modified secs) named whole = named
named-patch m (Created secs) named whole = named

pub named-patched : (patches : List Patch) (m : PropertyMap) → AreNamed m → All IsWhole patches → AreNamed (patched patches m)
named-patched [] m named whole = named
named-patched (change ∷ patches) m named whole =
    named-patched patches (patch m change) (named-patch m change named (whole 0 change (omega arith))) (λ k d within. whole (suc k) d (omega arith))
