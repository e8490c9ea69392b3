-- The law of the list of requested properties: each once, and no others.
use Rattle.std.proofs.Common.{◌≡◌, ◌∙◌, ◌⊎◌, ◌&&◌, ◌||◌, ℕ, Bool, true, false, if◌then◌else◌, List, [], ◌∷◌, ◌++◌, Option, None, Some, Result, Ok, Err, map, inl, inr, refl, sym, ap, subst}
use Rattle.std.specs.Prelude.{codes, bytes_eq}
use Rattle.std.specs.List.{list_any, fold, find}
use Rattle.std.specs.Option.{option_eq, option_map_or}
use Rattle.std.proofs.lemmas.Bool.{and_parts}
use Rattle.std.proofs.lemmas.Slice.Eq.{bytes_eq-Decides}
use Rattle.std.proofs.lemmas.Cmp.{nat_list_eq_equiv}
use Rattle.dav_key.specs.Key.{Key}
use Rattle.dav_resource.specs.Tree.{Tree, elements_of}
use Rattle.dav_resource.specs.declared.error.DavError.{DavError}
use Rattle.dav_resource.specs.declared.error.DavError.TheVariants.{XmlParseError}
use Rattle.dav_resource.specs.declared.request.ReqBody.{ReqBody}
use Rattle.dav_resource.specs.declared.request.ReqBody.TheVariants as bodies
use Rattle.dav_store.specs.Members.{IsIn, AreDistinct}
use Rattle.dav_store.specs.Store.{Bodies, property_key, element_key}
use Rattle.dav_messages.specs.DavElement.{is_named}
use Rattle.dav_messages.specs.RequestBody.{is_empty_body}
use Rattle.dav_find.specs.Asked.{AskedProperty}
use Rattle.dav_find.specs.declared.search.FindKind.{FindKind}
use Rattle.dav_find.specs.declared.search.FindKind.TheVariants.{AllProp, PropName, Prop}
use Rattle.dav_find.specs.Asked.{Asking, is_same, ask_once, asked_by_request, asked_by_server, server_properties, asking, asking_or_not, asking_by_body, asking_of, says_kind, named_in, include_in, is_propfind}
use Rattle.dav_find.specs.AskedOnce.{named_by, named_by_body, requested_in, keys_in, AsksEachOnce}
use Rattle.dav_find.specs.Names.{elements_in}
use Rattle.dav_find.specs.RangeKeys.{in_left, in_right, in_either, in_map, out_map}

-- ---- names and their keys

bytes_same : (n m : List ℕ) → n ≡ m → bytes_eq n m ≡ true
bytes_same n m e = subst (λ k. bytes_eq n k ≡ true) e (nat_list_eq_equiv.refl n)

same_named : (a b : Option (List ℕ)) (n m : List ℕ) → property_key a n ≡ property_key b m → (option_eq bytes_eq a b && bytes_eq n m) ≡ true
same_named None None n m e = let p : n ≡ m = cc in bytes_same n m p
same_named None (Some b) n m e = absurd cc
same_named (Some a) None n m e = absurd cc
same_named (Some a) (Some b) n m e =
    let p : a ≡ b = cc in
    let q : n ≡ m = cc in
    (λ i. bytes_same a b p i && bytes_same n m q i)

-- two elements whose names have the same key name the same property
same_by_key : (one other : Tree) → element_key one ≡ element_key other → is_same one other ≡ true
same_by_key one other e = same_named one.tag.namespace other.tag.namespace one.tag.name other.tag.name e

options_same : (a b : Option (List ℕ)) → option_eq bytes_eq a b ≡ true → a ≡ b
options_same None None is = refl
options_same None (Some b) is = absurd cc
options_same (Some a) None is = absurd cc
options_same (Some a) (Some b) is = ap Some ((bytes_eq-Decides a b).0 is)

-- and the other way
key_by_same : (one other : Tree) → is_same one other ≡ true → element_key one ≡ element_key other
key_by_same one other is =
    let p = and_parts _ _ is in
    λ i. property_key (options_same one.tag.namespace other.tag.namespace p.0 i) ((bytes_eq-Decides one.tag.name other.tag.name).0 p.1 i)

-- ---- one more property

abbrev keys_of : List AskedProperty → List Key
keys_of asked = keys_in (elements_in asked)

abbrev has_name : AskedProperty → AskedProperty → Bool
has_name more a = is_same more.element a.element

keys_append : (asked : List AskedProperty) (more : AskedProperty) → keys_of (asked ++ more ∷ []) ≡ keys_of asked ++ element_key more.element ∷ []
keys_append [] more = refl
keys_append (a ∷ asked) more = ap (λ ks. element_key a.element ∷ ks) (keys_append asked more)

is_there : (more : AskedProperty) (asked : List AskedProperty) → list_any (has_name more) asked ≡ true → IsIn (element_key more.element) (keys_of asked)
is_there more [] is = absurd cc
is_there more (a ∷ asked) is = by_first (has_name more a) refl is (is_there more asked)
  where
    by_first : (b : Bool) → has_name more a ≡ b → (b || list_any (has_name more) asked) ≡ true → (list_any (has_name more) asked ≡ true → IsIn (element_key more.element) (keys_of asked)) → IsIn (element_key more.element) (keys_of (a ∷ asked))
    by_first true same e later = inl (sym (key_by_same more.element a.element same))
    by_first false same e later = inr (later e)

not_there : (more : AskedProperty) (asked : List AskedProperty) → list_any (has_name more) asked ≡ false → IsIn (element_key more.element) (keys_of asked) → ⊥
not_there more [] none i = i
not_there more (a ∷ asked) none i = by_first (has_name more a) refl none i (not_there more asked)
  where
    by_first : (b : Bool) → has_name more a ≡ b → (b || list_any (has_name more) asked) ≡ false → IsIn (element_key more.element) (keys_of (a ∷ asked))
        → (list_any (has_name more) asked ≡ false → IsIn (element_key more.element) (keys_of asked) → ⊥) → ⊥
    by_first true same e j later = let no : true ≡ false = e in cc
    by_first false same e (inl k) later = let no : true ≡ false = sym (same_by_key more.element a.element (sym k)) ∙ same in cc
    by_first false same e (inr j) later = later e j

distinct_append : (x : Key) (xs : List Key) → (IsIn x xs → ⊥) → AreDistinct xs → AreDistinct (xs ++ x ∷ [])
distinct_append x [] none once = ((λ i. i), tt)
distinct_append x (y ∷ xs) none once = ((λ i. which (in_either y xs (x ∷ []) i)), distinct_append x xs (λ i. none (inr i)) once.1)
  where
    which : IsIn y xs ⊎ IsIn y (x ∷ []) → ⊥
    which (inl j) = once.0 j
    which (inr (inl e)) = none (inl (sym e))
    which (inr (inr j)) = j

-- one more property, asked for once
record IsGrown (asked : List AskedProperty) (more : List AskedProperty) (all : List AskedProperty) : Type 0 where
  once : AreDistinct (keys_of asked) → AreDistinct (keys_of all)
  stays : (key : Key) → IsIn key (keys_of asked) → IsIn key (keys_of all)
  has : (a : AskedProperty) → IsIn a more → IsIn (element_key a.element) (keys_of all)
  from : (a : AskedProperty) → IsIn a all → IsIn a asked ⊎ IsIn a more

grown_once : (asked : List AskedProperty) (more : AskedProperty) → IsGrown asked (more ∷ []) (ask_once asked more)
grown_once asked more = by_there (list_any (has_name more) asked) refl
  where
    by_there : (b : Bool) → list_any (has_name more) asked ≡ b → IsGrown asked (more ∷ []) (if b then asked else asked ++ more ∷ [])
    by_there true is = record {
      once = λ once. once;
      stays = λ key i. i;
      has = has_it;
      from = λ a i. inl i;
    }
      where
        has_it : (a : AskedProperty) → IsIn a (more ∷ []) → IsIn (element_key a.element) (keys_of asked)
        has_it a (inl e) = subst (λ (b : AskedProperty). IsIn (element_key b.element) (keys_of asked)) e (is_there more asked is)
        has_it a (inr i) = absurd i
    by_there false is = record {
      once = λ once. subst AreDistinct (sym (keys_append asked more)) (distinct_append _ (keys_of asked) (not_there more asked is) once);
      stays = λ key i. subst (IsIn key) (sym (keys_append asked more)) (in_left key (keys_of asked) _ i);
      has = has_it;
      from = λ a i. in_either a asked (more ∷ []) i;
    }
      where
        has_it : (a : AskedProperty) → IsIn a (more ∷ []) → IsIn (element_key a.element) (keys_of (asked ++ more ∷ []))
        has_it a (inl e) =
            subst (λ (b : AskedProperty). IsIn (element_key b.element) (keys_of (asked ++ more ∷ []))) e
            (subst (IsIn (element_key more.element)) (sym (keys_append asked more)) (in_right _ (keys_of asked) (element_key more.element ∷ []) (inl refl)))
        has_it a (inr i) = absurd i

grown_all : (asked more : List AskedProperty) → IsGrown asked more (fold ask_once asked more)
grown_all asked [] = record { once = λ once. once; stays = λ key i. i; has = λ a i. absurd i; from = λ a i. inl i }
grown_all asked (m ∷ more) =
    let one = grown_once asked m in
    let others = grown_all (ask_once asked m) more in
    record {
      once = λ once. others.once (one.once once);
      stays = λ key i. others.stays key (one.stays key i);
      has = λ a i. has_it one others a i;
      from = λ a i. from_it one (others.from a i);
    }
  where
    has_it : IsGrown asked (m ∷ []) (ask_once asked m) → IsGrown (ask_once asked m) more (fold ask_once (ask_once asked m) more) → (a : AskedProperty) → IsIn a (m ∷ more)
        → IsIn (element_key a.element) (keys_of (fold ask_once (ask_once asked m) more))
    has_it one others a (inl e) = others.stays _ (one.has a (inl e))
    has_it one others a (inr i) = others.has a i

    from_it : IsGrown asked (m ∷ []) (ask_once asked m) → {a : AskedProperty} → IsIn a (ask_once asked m) ⊎ IsIn a more → IsIn a asked ⊎ IsIn a (m ∷ more)
    from_it one {a} (inr i) = inr (inr i)
    from_it one {a} (inl i) = which (one.from a i)
      where
        which : IsIn a asked ⊎ IsIn a (m ∷ []) → IsIn a asked ⊎ IsIn a (m ∷ more)
        which (inl j) = inl j
        which (inr (inl e)) = inr (inl e)
        which (inr (inr j)) = absurd j

-- ---- what a body asks for

module _ (held : Bodies) (user_agent : Option (List ℕ)) where
  abbrev all_of : FindKind → List Tree → List AskedProperty
  all_of kind own = map asked_by_request own ++ map asked_by_server (server_properties kind user_agent)

  abbrev asks : Asking → Result Asking DavError
  asks a = Ok a

  -- the list of a search of this kind, where the request names these elements
  is_asking : (body : ReqBody) (a : Asking) → asking_of held body user_agent ≡ Ok a → a ≡ asking a.kind (requested_in held body) user_agent
  is_asking body a = by_empty (is_empty_body held body)
    where
      such : (kind : FindKind) (own : List Tree) → asks (asking kind own user_agent) ≡ asks a → a ≡ asking a.kind own user_agent
      such kind own e = let same : asking kind own user_agent ≡ a = cc in subst (λ (v : Asking). v ≡ asking v.kind own user_agent) same refl

      by_prop : (root said : Tree) (is : Bool) → asks (if is then asking Prop (named_in (Some said)) user_agent else asking AllProp (named_in (include_in root)) user_agent) ≡ asks a
          → a ≡ asking a.kind (if is then elements_of said.children else named_in (include_in root)) user_agent
      by_prop root said true e = such Prop (elements_of said.children) e
      by_prop root said false e = such AllProp (named_in (include_in root)) e

      by_name : (root said : Tree) (is : Bool)
          → asks (if is then asking PropName [] user_agent else (if is_named (codes "prop") said then asking Prop (named_in (Some said)) user_agent else asking AllProp (named_in (include_in root)) user_agent)) ≡ asks a
          → a ≡ asking a.kind (if is then [] else (if is_named (codes "prop") said then elements_of said.children else named_in (include_in root))) user_agent
      by_name root said true e = such PropName [] e
      by_name root said false e = by_prop root said (is_named (codes "prop") said) e

      by_said : (root : Tree) (said : Option Tree) → asking_or_not user_agent root said ≡ Ok a → a ≡ asking a.kind (option_map_or (named_by root) said []) user_agent
      by_said root None e = absurd cc
      by_said root (Some said) e = by_name root said (is_named (codes "propname") said) e

      by_root : (root : Tree) (is : Bool) → (if is then asking_or_not user_agent root (find says_kind (elements_of root.children)) else Err XmlParseError) ≡ Ok a → a ≡ asking a.kind (named_by_body (bodies.Tree root)) user_agent
      by_root root true e = by_said root (find says_kind (elements_of root.children)) e
      by_root root false e = absurd cc

      by_body : (b : ReqBody) → asking_by_body b user_agent ≡ Ok a → a ≡ asking a.kind (named_by_body b) user_agent
      by_body (bodies.Tree root) e = by_root root (is_propfind root) e
      by_body _ e = absurd cc

      by_empty : (is : Bool) → (if is then Ok (asking AllProp [] user_agent) else asking_by_body body user_agent) ≡ Ok a → a ≡ asking a.kind (if is then [] else named_by_body body) user_agent
      by_empty true e = such AllProp [] e
      by_empty false e = by_body body e

  -- each property that the request names or the server adds is asked for, once, and no others
  pub asks_each_once : (body : ReqBody) (a : Asking) → asking_of held body user_agent ≡ Ok a → AsksEachOnce held body user_agent a
  asks_each_once body a is = record {
    once = subst (λ xs. AreDistinct (keys_of xs)) (sym asked_are) (grown.once tt);
    each = λ element i. has_each element (in_either element own _ i);
    no_others = λ element i. other element (out_map _ element a.asked i);
  }
    where
      own : List Tree
      own = requested_in held body

      grown : IsGrown [] (all_of a.kind own) (fold ask_once [] (all_of a.kind own))
      grown = grown_all [] (all_of a.kind own)

      asked_are : a.asked ≡ fold ask_once [] (all_of a.kind own)
      asked_are = ap (λ (v : Asking). v.asked) (is_asking body a is)

      has_each : (element : Tree) → IsIn element own ⊎ IsIn element (server_properties a.kind user_agent) → IsIn (element_key element) (keys_of a.asked)
      has_each element (inl i) = subst (λ xs. IsIn (element_key element) (keys_of xs)) (sym asked_are) (grown.has (asked_by_request element) (in_left _ (map asked_by_request own) _ (in_map asked_by_request element own i)))
      has_each element (inr i) =
          subst (λ xs. IsIn (element_key element) (keys_of xs)) (sym asked_are)
          (grown.has (asked_by_server element) (in_right _ (map asked_by_request own) _ (in_map asked_by_server element (server_properties a.kind user_agent) i)))

      other : (element : Tree) → (p : AskedProperty) × IsIn p a.asked × (element ≡ p.element) → IsIn element (own ++ server_properties a.kind user_agent)
      other element (p, i, e) = which (grown.from p (subst (IsIn p) asked_are i))
        where
          kind_of : IsIn p (map asked_by_request own) ⊎ IsIn p (map asked_by_server (server_properties a.kind user_agent)) → IsIn element (own ++ server_properties a.kind user_agent)
          kind_of (inl j) =
              let q = out_map asked_by_request p own j in
              in_left _ own _ (subst (λ t. IsIn t own) (sym (e ∙ ap (λ (v : AskedProperty). v.element) q.2)) q.1)
          kind_of (inr j) =
              let q = out_map asked_by_server p (server_properties a.kind user_agent) j in
              in_right _ own _ (subst (λ t. IsIn t (server_properties a.kind user_agent)) (sym (e ∙ ap (λ (v : AskedProperty). v.element) q.2)) q.1)

          which : IsIn p [] ⊎ IsIn p (all_of a.kind own) → IsIn element (own ++ server_properties a.kind user_agent)
          which (inl j) = absurd j
          which (inr j) = kind_of (in_either p (map asked_by_request own) _ j)

  -- a request with `prop` names every property in the list itself
  pub prop_unlisted : (body : ReqBody) (a : Asking) → asking_of held body user_agent ≡ Ok a → a.kind ≡ Prop → (p : AskedProperty) → IsIn p a.asked → p.by_server ≡ false
  prop_unlisted body a is kind p i = which (grown.from p (subst (IsIn p) asked_are i))
    where
      own : List Tree
      own = requested_in held body

      grown : IsGrown [] (all_of Prop own) (fold ask_once [] (all_of Prop own))
      grown = grown_all [] (all_of Prop own)

      asked_are : a.asked ≡ fold ask_once [] (all_of Prop own)
      asked_are = ap (λ (v : Asking). v.asked) (is_asking body a is) ∙ ap (λ k. fold ask_once [] (all_of k own)) kind

      of_own : IsIn p (map asked_by_request own) ⊎ IsIn p [] → p.by_server ≡ false
      of_own (inl j) = let q = out_map asked_by_request p own j in ap (λ (v : AskedProperty). v.by_server) q.2
      of_own (inr j) = absurd j

      which : IsIn p [] ⊎ IsIn p (all_of Prop own) → p.by_server ≡ false
      which (inl j) = absurd j
      which (inr j) = of_own (in_either p (map asked_by_request own) [] j)
