-- All that a store keeps, by the properties that it reports.
use Rattle.std.proofs.Common.{◌≡◌, ℕ, Bool, true, false, List, [], ◌∷◌, Option, None, Some, Result, Ok, Err, map, inl, inr, refl, sym, ap, subst, IsSome, IsPermutation, Vec}
use Rattle.std.specs.declared.alloc.Global.{Global}
use Rattle.std.specs.Prelude.{filter_map, ◌&&◌, not}
use Rattle.std.specs.List.{cons_option}
use Rattle.std.specs.Option.{unwrap_or}
use Rattle.std.specs.Result.{IsErrAnd}
use Rattle.std.specs.FinMap.{entries}
use Rattle.std.proofs.lemmas.Result.{err_from_is_err_and}
use Rattle.std.proofs.lemmas.List.Sorted.{IsPermutation-map, IsPermutation-refl}
use Rattle.dav_key.specs.Key.{Key}
use Rattle.dav_resource.specs.Tree.{Tree, no_nodes}
use Rattle.dav_resource.specs.declared.property.DavProp.{DavProp}
use Rattle.dav_resource.specs.declared.error.DavError.{DavError}
use Rattle.dav_resource.specs.declared.error.DavError.TheVariants.{Memory}
use Rattle.dav_resource.specs.declared.error.FsError.{FsError}
use Rattle.dav_resource.specs.declared.record.Outcome.TheVariants.{Granted}
use Rattle.dav_store.specs.Calls.{Grants, Declines, record_of}
use Rattle.dav_store.specs.Members.{IsIn}
use Rattle.dav_store.specs.MemberLaws.{IsIn-unpermuted}
use Rattle.dav_store.specs.PropertyCalls.{ArePropertiesAt, named_element, properties_at, get_props_call}
use Rattle.dav_store.specs.Store.{Store, Contents}
use Rattle.dav_messages.specs.Dialogue.{Passed}
use Rattle.dav_messages.specs.Dialogues.{judges_pure, judges_memory}
use Rattle.dav_find.specs.Asked.{named_only}
use Rattle.dav_find.specs.Finder.{refusal_of}
use Rattle.dav_find.specs.Finding.{View, AreKept, is_all_sought}
use Rattle.dav_find.specs.Response.{FindsStored}
use Rattle.dav_find.proofs.Answering.{declined_why}

-- ---- the elements of the properties that are reported

no_element : Tree
no_element = record { tag = record { name = []; prefix = None; namespace = None; attributes = [] }; children = no_nodes }

element_or : Key × Option Tree → Tree
element_or named = unwrap_or named.1 no_element

abbrev pub named_elements : List DavProp → List Tree
named_elements props = filter_map (λ (p : DavProp). p.element) props

some_in : (es : List (Key × Tree)) (n : Key × Option Tree) → IsIn n (map (λ (e : Key × Tree). (e.0, Some e.1)) es) → IsSome n.1
some_in [] n i = absurd i
some_in (e ∷ es) n (inl p) = subst (λ (m : Key × Option Tree). IsSome m.1) p refl
some_in (e ∷ es) n (inr i) = some_in es n i

all_named : (ps : List DavProp) → ((n : Key × Option Tree) → IsIn n (map named_element ps) → IsSome n.1) → named_elements ps ≡ map element_or (map named_element ps)
unfolding element_or
all_named [] some = refl
all_named (p ∷ ps) some = go p.element (some (named_element p) (inl refl)) (all_named ps (λ n i. some n (inr i)))
  where
    go : (o : Option Tree) → IsSome o → named_elements ps ≡ map element_or (map named_element ps) → cons_option o (named_elements ps) ≡ unwrap_or o no_element ∷ map element_or (map named_element ps)
    go None s e = absurd cc
    go (Some t) s e = ap (λ xs. t ∷ xs) e

each_element : (es : List (Key × Tree)) → map element_or (map (λ (e : Key × Tree). (e.0, Some e.1)) es) ≡ map (λ (e : Key × Tree). e.1) es
unfolding element_or
each_element [] = refl
each_element (e ∷ es) = ap (λ xs. e.1 ∷ xs) (each_element es)

are_kept : (key : Key) (props : List DavProp) (old new : Contents) → ArePropertiesAt key props old new → AreKept old key (named_elements props)
are_kept key props old new are =
    let es : List (Key × Tree) = entries (properties_at old key) in
    let some : (n : Key × Option Tree) → IsIn n (map named_element props) → IsSome n.1 = λ n i. some_in es n (IsIn-unpermuted _ _ n are.each_once i) in
    subst (λ xs. IsPermutation xs (named_elements props)) (each_element es)
    (subst (λ ys. IsPermutation (map element_or (map (λ (e : Key × Tree). (e.0, Some e.1)) es)) ys) (sym (all_named props some)) (IsPermutation-map element_or _ _ are.each_once))

-- ---- the call

-- what is kept, in the order of its names
pub in_order : Contents → Key → List Tree
in_order contents key = map (λ (e : Key × Tree). e.1) (entries (properties_at contents key))

pub in_some_order : (contents : Contents) (key : Key) → AreKept contents key (in_order contents key)
unfolding in_order
in_some_order contents key = IsPermutation-refl _

module _ (view : View) (key : Key) (old : Store) where
  pub stored_unsought : is_all_sought view ≡ false → FindsStored view key old (Ok (Ok [])) old
  stored_unsought none = record { kept = in_order old.contents key; are = in_some_order old.contents key; held = rw none (judges_pure _ _ _ refl) }

  pub stored_lacked : (verdict : Result (Result (List Tree) ℕ) DavError) → IsErrAnd verdict (λ d. d ≡ Memory) → FindsStored view key old verdict old
  stored_lacked verdict is = record { kept = in_order old.contents key; are = in_some_order old.contents key; held = judges_memory _ _ _ is }

  module _ (keeps : old.facts.keeps_properties ≡ true) (sought : is_all_sought view ≡ true) (new : Store) where
    pub stored_granted : (props : Vec DavProp Global) → Grants (get_props_call old key) (ArePropertiesAt key props.items) old new → FindsStored view key old (Ok (Ok (named_elements props.items))) new
    stored_granted props granted = record {
      kept = named_elements props.items;
      are = are_kept key props.items old.contents new.contents granted.effect;
      held = rw sought (record {
        records = record_of (get_props_call old key) Granted ∷ [];
        recorded = granted.recorded;
        same = granted.effect.same;
        fixed = granted.fixed;
        ends = (refl, rw keeps at granted.allowed, refl);
      });
    }

    pub stored_lost : (props : Vec DavProp Global) (verdict : Result (Result (List Tree) ℕ) DavError) → IsErrAnd verdict (λ d. d ≡ Memory) → Grants (get_props_call old key) (ArePropertiesAt key props.items) old new → FindsStored view key old verdict new
    stored_lost props verdict is granted =
        let p = err_from_is_err_and verdict is in
        rw (p.1, p.2) (record {
          kept = named_elements props.items;
          are = are_kept key props.items old.contents new.contents granted.effect;
          held = rw sought (record {
            records = record_of (get_props_call old key) Granted ∷ [];
            recorded = granted.recorded;
            same = granted.effect.same;
            fixed = granted.fixed;
            ends = inr (refl, (_, (refl, rw keeps at granted.allowed, refl)));
          });
        })

    pub stored_declined : (status : ℕ) (e : FsError) (declined : Declines (get_props_call old key) e old new) → status ≡ refusal_of declined.outcome → FindsStored view key old (Ok (Err status)) new
    stored_declined status e declined is = record {
      kept = in_order old.contents key;
      are = in_some_order old.contents key;
      held = rw (sought, is) (record {
        records = record_of (get_props_call old key) declined.outcome ∷ [];
        recorded = declined.recorded;
        same = declined.same;
        fixed = declined.fixed;
        ends = (refl, rw keeps at declined.lawful, ap Passed (sym (declined_why (Some (in_order old.contents key)) e declined.outcome declined.cause)));
      });
    }

-- what is sought is of a store that keeps properties
pub sought_keeps : (view : View) → is_all_sought view ≡ true → view.keeps ≡ true
sought_keeps view sought = go view.keeps sought
  where
    go : (b : Bool) → (b && not (named_only view.kind)) ≡ true → b ≡ true
    go true e = refl
    go false e = absurd cc
