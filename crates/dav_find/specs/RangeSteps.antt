-- One step of a PROPFIND's walk: which calls report a resource and list its members, and which members it finds. This project's own choice.
use Rattle.std.proofs.Common.{◌≡◌, ◌≢◌, ◌∙◌, ◌⊎◌, ℕ, Bool, true, false, ◌&&◌, if◌then◌else◌, List, [], ◌∷◌, ◌++◌, Option, None, Some, Ok, Err, map, filter_map, inl, inr, refl, sym, ap, subst}
use Rattle.std.proofs.lemmas.List.Elements.{filter_map-append}
use Rattle.dav_key.specs.Key.{Key}
use Rattle.dav_resource.specs.PathText.{PathValue}
use Rattle.dav_resource.specs.Tree.{Tree}
use Rattle.dav_resource.specs.declared.error.FsError.{FsError}
use Rattle.dav_resource.specs.declared.meta.DirEntry.{DirEntry}
use Rattle.dav_resource.specs.declared.record.Op.{Op}
use Rattle.dav_resource.specs.declared.record.Op.TheVariants.{ReadDir, Entry}
use Rattle.dav_resource.specs.declared.record.Outcome.{Outcome}
use Rattle.dav_resource.specs.declared.record.Outcome.TheVariants.{Granted, Refused}
use Rattle.dav_resource.specs.declared.request.Depth.{Depth}
use Rattle.dav_resource.specs.declared.request.Depth.TheVariants.{Zero, One, Infinity, Default}
use Rattle.dav_store.specs.Logged.{Logged, logged}
use Rattle.dav_store.specs.Members.{IsIn, AreDistinct, Child, IsShownAs, member, names_of, unseen_record}
use Rattle.dav_store.specs.MemberLaws.{AreDistinct-permuted, IsIn-permuted, members_distinct, there_members}
use Rattle.dav_store.specs.Store.{Contents}
use Rattle.dav_live.specs.Names.{is_quota, live_property_of}
use Rattle.dav_live.specs.declared.property.LiveProperty.{LiveProperty}
use Rattle.dav_messages.specs.Dialogue.{Dialogue, Asks, Refuses, Passed, ◌>>=◌, LeadsTo}
use Rattle.dav_walks.specs.Listing.{Shown, ListsAt, listed, unlisted, shown_in, AreThere}
use Rattle.dav_walks.specs.declared.listing.Resource.{Resource}
use Rattle.dav_find.specs.Asked.{AskedProperty}
use Rattle.dav_find.specs.Finding.{View, QuotaAnswer, ask_quota, live_result, find_quota, find_live, find_kept, is_looked_up, find_by, find_one, find_each, is_all_sought, find_stored}
use Rattle.dav_find.specs.Range.{WasDeclined, Stands, is_listing, listed_by, listed_key, listed_in}
use Rattle.dav_find.specs.RangeKeys.{in_either, more_declined}
use Rattle.dav_find.specs.Response.{response_rules}
use Rattle.dav_find.specs.Visiting.{Visit, Shows, FindsMembers, Visits, is_shown, is_listed, is_infinite, member_depth}

-- ---- a response lists nothing

-- no record is of a listing, or of a member that a listing did not show
abbrev pub HasNoListing : List Logged → Type 0
HasNoListing records = (r : Logged) → IsIn r records → is_listing r.op ≡ false

abbrev pub AsksNoListing : {A : Type 0} → Dialogue A → Type 0
AsksNoListing (Asks call next) = (is_listing call.op ≡ false) × ((outcome : Outcome) → AsksNoListing (next outcome))
AsksNoListing (Refuses answer) = Unit {0}
AsksNoListing (Passed a) = Unit {0}

pub no_listing_then : {A B : Type 0} (dialogue : Dialogue A) (further : A → Dialogue B) → AsksNoListing dialogue → ((a : A) → AsksNoListing (further a)) → AsksNoListing (dialogue >>= further)
unfolding ◌>>=◌
no_listing_then (Asks call next) further none after = (none.0, λ outcome. no_listing_then (next outcome) further (none.1 outcome) after)
no_listing_then (Refuses answer) further none after = tt
no_listing_then (Passed a) further none after = after a

pub no_listing_if : {A : Type 0} (b : Bool) (one other : Dialogue A) → AsksNoListing one → AsksNoListing other → AsksNoListing (if b then one else other)
no_listing_if true one other first second = first
no_listing_if false one other first second = second

pub leads_to_none : {A : Type 0} (dialogue left : Dialogue A) (records : List Logged) → AsksNoListing dialogue → LeadsTo dialogue records left → HasNoListing records
leads_to_none dialogue left [] none leads r i = absurd i
leads_to_none (Asks call next) left (first ∷ records) none leads r (inl same) = ap (λ (s : Logged). is_listing s.op) (sym same ∙ leads.0) ∙ none.0
leads_to_none (Asks call next) left (first ∷ records) none leads r (inr i) = leads_to_none (next first.outcome) left records (none.1 first.outcome) leads.2 r i
leads_to_none (Refuses answer) left (first ∷ records) none leads r i = absurd leads
leads_to_none (Passed a) left (first ∷ records) none leads r i = absurd leads

module _ (view : View) (contents : Contents) where
  quota_lists_none : (quota : Option QuotaAnswer) → AsksNoListing (ask_quota contents quota)
  quota_lists_none None = (refl, λ outcome. tt)
  quota_lists_none (Some reported) = tt

  live_lists_none : (here : Resource) (element : Tree) (property : LiveProperty) (quota : Option QuotaAnswer) → AsksNoListing (find_live view contents here element property quota)
  live_lists_none here element property quota =
      no_listing_if (is_quota property) (find_quota view contents here element property quota) (Passed (live_result view here element property None, quota))
      (no_listing_then (ask_quota contents quota) _ (quota_lists_none quota) (λ reported. tt)) tt

  kept_lists_none : (here : Resource) (element : Tree) → AsksNoListing (find_kept view contents here element)
  kept_lists_none here element = no_listing_if (is_looked_up view element) _ (Passed (Err 404)) (refl, λ outcome. tt) tt

  one_lists_none : (here : Resource) (element : Tree) (property : Option LiveProperty) (quota : Option QuotaAnswer) → AsksNoListing (find_by view contents here element property quota)
  one_lists_none here element None quota = no_listing_then (find_kept view contents here element) _ (kept_lists_none here element) (λ reported. tt)
  one_lists_none here element (Some property) quota = live_lists_none here element property quota

  each_lists_none : (here : Resource) (asked : List AskedProperty) (quota : Option QuotaAnswer) → AsksNoListing (find_each view contents here asked quota)
  unfolding find_each
  each_lists_none here [] quota = tt
  each_lists_none here (asked ∷ more) quota =
      no_listing_then (find_one view contents here asked.element quota) _ (one_lists_none here asked.element (live_property_of asked.element.tag.namespace asked.element.tag.name) quota)
      (λ one. no_listing_then (find_each view contents here more one.1) _ (each_lists_none here more one.1) (λ others. tt))

  stored_lists_none : (key : Key) (kept : List Tree) → AsksNoListing (find_stored view contents key kept)
  stored_lists_none key kept = no_listing_if (is_all_sought view) _ (Passed (Ok [])) (refl, λ outcome. tt) tt

  shows_none : (asked : List AskedProperty) (shown : Bool) (here : Resource) (quota next : Option QuotaAnswer) (records : List Logged) (visits : List Visit) → Shows view contents asked shown here quota records visits next → HasNoListing records
  shows_none asked true here quota next records visits shows =
      let responds = shows.1 in
      leads_to_none (response_rules view contents asked here quota responds.kept) _ records
      (no_listing_then (find_each view contents here asked quota) _ (each_lists_none here asked quota) (λ found. no_listing_then (find_stored view contents here.path.key responds.kept) _ (stored_lists_none here.path.key responds.kept) (λ stored. tt)))
      responds.comes
  shows_none asked false here quota next records visits shows = λ r i. absurd (subst (IsIn r) shows.0 i)

none_listed_by : (op : Op) (keys : List Key) → is_listing op ≡ false → listed_by op keys ≡ None
none_listed_by ReadDir keys none = absurd (let no : true ≡ false = none in cc)
none_listed_by _ keys none = refl

pub none_listed : (records : List Logged) → HasNoListing records → listed_in records ≡ []
none_listed [] none = refl
none_listed (r ∷ records) none = rw (none_listed_by r.op r.keys (none r (inl refl))) (none_listed records (λ s i. none s (inr i)))

-- ---- the members in a listing

abbrev shown_name : Child → Option (List ℕ)
shown_name (name, Ok entry) = Some name
shown_name (name, Err e) = None

abbrev shown_names : List Child → List (List ℕ)
shown_names children = filter_map shown_name children

child_name : (children : List Child) (c : Child) → IsIn c children → IsIn c.0 (names_of children)
child_name [] c i = absurd i
child_name (d ∷ children) c (inl e) = inl (ap (λ (b : Child). b.0) e)
child_name (d ∷ children) c (inr i) = inr (child_name children c i)

shown_is_name : (children : List Child) (name : List ℕ) → IsIn name (shown_names children) → IsIn name (names_of children)
shown_is_name [] name i = absurd i
shown_is_name ((n, Ok entry) ∷ children) name (inl e) = inl e
shown_is_name ((n, Ok entry) ∷ children) name (inr i) = inr (shown_is_name children name i)
shown_is_name ((n, Err e) ∷ children) name i = inr (shown_is_name children name i)

shown_once : (children : List Child) → AreDistinct (names_of children) → AreDistinct (shown_names children)
shown_once [] once = tt
shown_once ((n, Ok entry) ∷ children) once = ((λ i. once.0 (shown_is_name children n i)), shown_once children once.1)
shown_once ((n, Err e) ∷ children) once = shown_once children once.1

-- a member is shown, or the store does not list it
shown_or_not : (children : List Child) (name : List ℕ) → IsIn name (names_of children) → IsIn name (shown_names children) ⊎ ((e : FsError) × IsIn {X = Child} (name, Err e) children)
shown_or_not [] name i = absurd i
shown_or_not ((n, Ok entry) ∷ children) name (inl e) = inl (inl e)
shown_or_not ((n, Err e) ∷ children) name (inl is) = inr (e, inl (λ i. (is i, Err e)))
shown_or_not ((n, Ok entry) ∷ children) name (inr i) = further (shown_or_not children name i)
  where
    further : IsIn name (shown_names children) ⊎ ((e : FsError) × IsIn {X = Child} (name, Err e) children) → IsIn name (shown_names ((n, Ok entry) ∷ children)) ⊎ ((e : FsError) × IsIn {X = Child} (name, Err e) ((n, Ok entry) ∷ children))
    further (inl j) = inl (inr j)
    further (inr (e, j)) = inr (e, inr j)
shown_or_not ((n, Err d) ∷ children) name (inr i) = further (shown_or_not children name i)
  where
    further : IsIn name (shown_names children) ⊎ ((e : FsError) × IsIn {X = Child} (name, Err e) children) → IsIn name (shown_names ((n, Err d) ∷ children)) ⊎ ((e : FsError) × IsIn {X = Child} (name, Err e) ((n, Err d) ∷ children))
    further (inl j) = inl j
    further (inr (e, j)) = inr (e, inr j)

-- and not both
withheld_unshown : (children : List Child) (name : List ℕ) (e : FsError) → AreDistinct (names_of children) → IsIn {X = Child} (name, Err e) children → IsIn name (shown_names children) → ⊥
withheld_unshown [] name e once i j = i
withheld_unshown ((n, Ok entry) ∷ children) name e once (inl is) j = let no : Ok entry ≡ Err e = ap (λ (c : Child). c.1) is in absurd cc
withheld_unshown ((n, Ok entry) ∷ children) name e once (inr i) (inl is) = once.0 (subst (λ m. IsIn m (names_of children)) (sym is) (child_name children (name, Err e) i))
withheld_unshown ((n, Ok entry) ∷ children) name e once (inr i) (inr j) = withheld_unshown children name e once.1 i j
withheld_unshown ((n, Err d) ∷ children) name e once (inl is) j =
    once.0 (subst (λ m. IsIn m (names_of children)) (sym (ap (λ (c : Child). c.0) is)) (shown_is_name children name j))
withheld_unshown ((n, Err d) ∷ children) name e once (inr i) j = withheld_unshown children name e once.1 i j

-- a member that the store does not list has a record
withheld_called : (directory : Key) (children : List Child) (name : List ℕ) (e : FsError) → IsIn {X = Child} (name, Err e) children → IsIn (logged Entry (member directory name ∷ []) (Refused e)) (filter_map (unseen_record directory) children)
withheld_called directory [] name e i = absurd i
withheld_called directory ((n, Ok entry) ∷ children) name e (inl is) = absurd (let no : Ok entry ≡ Err e = ap (λ (c : Child). c.1) is in cc)
withheld_called directory ((n, Ok entry) ∷ children) name e (inr i) = withheld_called directory children name e i
withheld_called directory ((n, Err d) ∷ children) name e (inl is) =
    let p : Err d ≡ Err e = ap (λ (c : Child). c.1) is in
    let same : d ≡ e = cc in
    inl (λ i. logged Entry (member directory (ap (λ (c : Child). c.0) is i) ∷ []) (Refused (same i)))
withheld_called directory ((n, Err d) ∷ children) name e (inr i) = inr (withheld_called directory children name e i)

-- and each record after that of the listing is of such a member
withheld_by : (directory : Key) (children : List Child) (r : Logged) → IsIn r (filter_map (unseen_record directory) children) → (name : List ℕ) × (e : FsError) × IsIn {X = Child} (name, Err e) children × (r ≡ logged Entry (member directory name ∷ []) (Refused e))
withheld_by directory [] r i = absurd i
withheld_by directory ((n, Ok entry) ∷ children) r i = let p = withheld_by directory children r i in (p.0, p.1, inr p.2, p.3)
withheld_by directory ((n, Err e) ∷ children) r (inl is) = (n, e, inl refl, sym is)
withheld_by directory ((n, Err e) ∷ children) r (inr i) = let p = withheld_by directory children r i in (p.0, p.1, inr p.2, p.3)

withheld_lists_none : (directory : Key) (children : List Child) → listed_in (filter_map (unseen_record directory) children) ≡ []
withheld_lists_none directory [] = refl
withheld_lists_none directory ((n, Ok entry) ∷ children) = withheld_lists_none directory children
withheld_lists_none directory ((n, Err e) ∷ children) = withheld_lists_none directory children

-- the members that become pending are those that the listing shows
members_are : (contents : Contents) (directory : PathValue) (children : List Child) → ((c : Child) → IsIn c children → (entry : DirEntry) → c.1 ≡ Ok entry → entry.name ≡ c.0)
    → map (λ (r : Resource). r.path.key) (shown_in directory (map (λ (c : Child). c.1) children)) ≡ map (member directory.key) (shown_names children)
members_are contents directory [] named = refl
members_are contents directory ((n, Ok entry) ∷ children) named =
    (λ i. member directory.key (named (n, Ok entry) (inl refl) entry refl i) ∷ members_are contents directory children (λ c j. named c (inr j)) i)
members_are contents directory ((n, Err e) ∷ children) named = members_are contents directory children (λ c j. named c (inr j))

-- each of them exists with its metadata
shown_there : (shows : Key → Bool) (contents : Contents) (directory : PathValue) (children : List Child)
    → ((c : Child) → IsIn c children → IsShownAs shows contents directory.key c)
    → (r : Resource) → IsIn r (shown_in directory (map (λ (c : Child). c.1) children)) → contents.metas r.path.key ≡ Some r.meta
shown_there shows contents directory [] shown r i = absurd i
shown_there shows contents directory ((n, Ok entry) ∷ children) shown r (inl e) =
    let so = shown (n, Ok entry) (inl refl) in
    subst (λ (v : Resource). contents.metas v.path.key ≡ Some v.meta) e (ap (λ name. contents.metas (member directory.key name)) so.0 ∙ so.1)
shown_there shows contents directory ((n, Ok entry) ∷ children) shown r (inr i) = shown_there shows contents directory children (λ c j. shown c (inr j)) r i
shown_there shows contents directory ((n, Err e) ∷ children) shown r i = shown_there shows contents directory children (λ c j. shown c (inr j)) r i

-- ---- a step

-- the calls that report a resource and list it, if it is listed, and the names of the members that are found
pub record IsStep (contents : Contents) (here : Key) (listed : Bool) (records : List Logged) (names : List (List ℕ)) : Type 0 where
  pub once : AreDistinct names
  -- each listing is of the resource, and one that is not granted finds no members. Each record of a member is of one that is not found.
  pub listings : (key : Key) (outcome : Outcome) → IsIn (logged ReadDir (key ∷ []) outcome) records → (key ≡ here) × (outcome ≢ Granted → names ≡ [])
  pub entries : (key : Key) (outcome : Outcome) → IsIn (logged Entry (key ∷ []) outcome) records → (name : List ℕ) × (key ≡ member here name) × (IsIn name names → ⊥)
  -- each member is found, unless the listing was not granted or did not show it
  pub finds : listed ≡ true → (name : List ℕ) → Stands contents (member here name) → IsIn name names ⊎ WasDeclined records ReadDir here ⊎ WasDeclined records Entry (member here name)
  pub unlisted : listed ≡ false → names ≡ []
  pub keys : listed_in records ≡ (if listed then here ∷ [] else [])

-- the members that are found, with their names
pub record FindsStep (contents : Contents) (here : Key) (listed : Bool) (records : List Logged) (members_found : List Resource) : Type 0 where
  pub names : List (List ℕ)
  pub step : IsStep contents here listed records names
  pub found : map (λ (r : Resource). r.path.key) members_found ≡ map (member here) names
  pub there : AreThere contents members_found

abbrev none_found : List (List ℕ)
none_found = []

abbrev op_of : Logged → Op
op_of r = r.op

module _ (contents : Contents) where
  lists_step : (shows : Key → Bool) (directory : PathValue) (records : List Logged) (listing : List Shown)
      → ListsAt shows contents directory.key records listing
      → FindsStep contents directory.key true records (shown_in directory listing)
  lists_step shows directory records listing (listed children bar are is called) = record {
    names = shown_names children;
    step = record {
      once = shown_once children names_once;
      listings = λ key outcome i. listing_is key outcome (subst (IsIn (logged ReadDir (key ∷ []) outcome)) called i);
      entries = λ key outcome i. entry_is key outcome (subst (IsIn (logged Entry (key ∷ []) outcome)) called i);
      finds = λ t name stands. find name (shown_or_not children name (IsIn-permuted _ _ name are.each_once (there_members contents.tree directory.key name stands)));
      unlisted = λ no. absurd cc;
      keys = ap listed_in called ∙ ap (λ ks. directory.key ∷ ks) (withheld_lists_none directory.key children);
    };
    found = ap (λ l. map (λ (r : Resource). r.path.key) (shown_in directory l)) is ∙ members_are contents directory children named;
    there = λ r i. there_is r (subst (λ l. IsIn r (shown_in directory l)) is i);
  }
    where
      names_once : AreDistinct (names_of children)
      names_once = AreDistinct-permuted _ _ are.each_once (members_distinct contents.tree directory.key)

      named : (c : Child) → IsIn c children → (entry : DirEntry) → c.1 ≡ Ok entry → entry.name ≡ c.0
      named (name, Ok entry) i e same = let p : entry ≡ e = cc in ap (λ (d : DirEntry). d.name) (sym p) ∙ (are.shown (name, Ok entry) i).0
      named (name, Err d) i e same = absurd cc

      listing_is : (key : Key) (outcome : Outcome) → IsIn (logged ReadDir (key ∷ []) outcome) (logged ReadDir (directory.key ∷ []) Granted ∷ filter_map (unseen_record directory.key) children) → (key ≡ directory.key) × (outcome ≢ Granted → shown_names children ≡ [])
      listing_is key outcome (inl e) =
          let p : directory.key ∷ [] ≡ key ∷ [] = ap (λ (r : Logged). r.keys) e in
          let same : directory.key ≡ key = cc in
          (sym same, λ not. absurd (not (sym (ap (λ (r : Logged). r.outcome) e))))
      listing_is key outcome (inr i) =
          let p = withheld_by directory.key children _ i in
          absurd (let no : ReadDir ≡ Entry = ap op_of p.3 in cc)

      entry_is : (key : Key) (outcome : Outcome) → IsIn (logged Entry (key ∷ []) outcome) (logged ReadDir (directory.key ∷ []) Granted ∷ filter_map (unseen_record directory.key) children)
          → (name : List ℕ) × (key ≡ member directory.key name) × (IsIn name (shown_names children) → ⊥)
      entry_is key outcome (inl e) = absurd (let no : ReadDir ≡ Entry = ap op_of e in cc)
      entry_is key outcome (inr i) =
          let p = withheld_by directory.key children _ i in
          let q : key ∷ [] ≡ member directory.key p.0 ∷ [] = ap (λ (r : Logged). r.keys) p.3 in
          let same : key ≡ member directory.key p.0 = cc in
          (p.0, same, withheld_unshown children p.0 p.1 names_once p.2)

      find : (name : List ℕ) → IsIn name (shown_names children) ⊎ ((e : FsError) × IsIn {X = Child} (name, Err e) children)
          → IsIn name (shown_names children) ⊎ WasDeclined records ReadDir directory.key ⊎ WasDeclined records Entry (member directory.key name)
      find name (inl i) = inl i
      find name (inr (e, i)) =
          inr (inr (record {
            outcome = Refused e;
            called = subst (IsIn (logged Entry (member directory.key name ∷ []) (Refused e))) (sym called) (inr (withheld_called directory.key children name e i));
            declined = λ no. absurd cc;
          }))

      there_is : (r : Resource) → IsIn r (shown_in directory (map (λ (c : Child). c.1) children)) → contents.metas r.path.key ≡ Some r.meta
      there_is r i = shown_there shows contents directory children are.shown r i
  lists_step shows directory records listing (unlisted outcome other lawful is called) = record {
    names = [];
    step = record {
      once = tt;
      listings = λ key outcome i. listing_is key outcome (subst (IsIn (logged ReadDir (key ∷ []) outcome)) called i);
      entries = λ key outcome i. entry_is key outcome (subst (IsIn (logged Entry (key ∷ []) outcome)) called i);
      finds = λ t name stands. inr (inl (record { outcome = outcome; called = subst (IsIn (logged ReadDir (directory.key ∷ []) outcome)) (sym called) (inl refl); declined = other }));
      unlisted = λ no. refl;
      keys = ap listed_in called;
    };
    found = ap (λ l. map (λ (r : Resource). r.path.key) (shown_in directory l)) is;
    there = λ r i. absurd (subst (λ l. IsIn r (shown_in directory l)) is i);
  }
    where
      listing_is : (key : Key) (out : Outcome) → IsIn (logged ReadDir (key ∷ []) out) (logged ReadDir (directory.key ∷ []) outcome ∷ []) → (key ≡ directory.key) × (out ≢ Granted → none_found ≡ [])
      listing_is key out (inl e) =
          let p : directory.key ∷ [] ≡ key ∷ [] = ap (λ (r : Logged). r.keys) e in
          let same : directory.key ≡ key = cc in
          (sym same, λ not. refl)
      listing_is key out (inr i) = absurd i

      entry_is : (key : Key) (out : Outcome) → IsIn (logged Entry (key ∷ []) out) (logged ReadDir (directory.key ∷ []) outcome ∷ []) → (name : List ℕ) × (key ≡ member directory.key name) × (IsIn name [] → ⊥)
      entry_is key out (inl e) = absurd (let no : ReadDir ≡ Entry = ap op_of e in cc)
      entry_is key out (inr i) = absurd i

  -- earlier calls that list nothing do not change the step
  behind_none : (here : Key) (entered : Bool) (first rest : List Logged) (names : List (List ℕ)) → HasNoListing first → IsStep contents here entered rest names → IsStep contents here entered (first ++ rest) names
  behind_none here entered first rest names none step = record {
    once = step.once;
    listings = λ key outcome i. step.listings key outcome (in_rest ReadDir key outcome refl (in_either _ first rest i));
    entries = λ key outcome i. step.entries key outcome (in_rest Entry key outcome refl (in_either _ first rest i));
    finds = λ t name stands. finds name (step.finds t name stands);
    unlisted = step.unlisted;
    keys = filter_map-append listed_key first rest ∙ ap (λ ks. ks ++ listed_in rest) (none_listed first none) ∙ step.keys;
  }
    where
      in_rest : (op : Op) (key : Key) (outcome : Outcome) → is_listing op ≡ true → IsIn (logged op (key ∷ []) outcome) first ⊎ IsIn (logged op (key ∷ []) outcome) rest → IsIn (logged op (key ∷ []) outcome) rest
      in_rest op key outcome is (inl i) = absurd (let no : true ≡ false = sym is ∙ none (logged op (key ∷ []) outcome) i in cc)
      in_rest op key outcome is (inr i) = i

      finds : (name : List ℕ) → IsIn name names ⊎ WasDeclined rest ReadDir here ⊎ WasDeclined rest Entry (member here name)
          → IsIn name names ⊎ WasDeclined (first ++ rest) ReadDir here ⊎ WasDeclined (first ++ rest) Entry (member here name)
      finds name (inl i) = inl i
      finds name (inr (inl d)) = inr (inl (more_declined first rest ReadDir here d))
      finds name (inr (inr d)) = inr (inr (more_declined first rest Entry (member here name) d))

  unlisted_step : (here : Key) → IsStep contents here false [] []
  unlisted_step here = record {
    once = tt;
    listings = λ key outcome i. absurd i;
    entries = λ key outcome i. absurd i;
    finds = λ t name stands. absurd (let no : false ≡ true = t in cc);
    unlisted = λ no. refl;
    keys = refl;
  }

  finds_step : (view : View) (asked : List AskedProperty) (entered : Bool) (here : Resource) (records : List Logged) (members_found : List Resource) → FindsMembers view contents asked entered here records members_found → FindsStep contents here.path.key entered records members_found
  finds_step view asked true here records members_found (listing, lists, is) = rw is (lists_step view.shows here.path records listing lists)
  finds_step view asked false here records members_found (none, is) = rw (none, is) (record { names = []; step = unlisted_step here.path.key; found = refl; there = λ r i. absurd i })

  pub visit_step : (view : View) (asked : List AskedProperty) (depth : Depth) (here : Resource) (quota : Option QuotaAnswer) (records : List Logged)
      (visits : List Visit) (next : Option QuotaAnswer) (members_found : List Resource)
      → Visits view contents asked depth here quota records visits next members_found
      → FindsStep contents here.path.key (is_listed depth && here.meta.dir) records members_found
  visit_step view asked depth here quota records visits next members_found visited =
      let entered : Bool = is_listed depth && here.meta.dir in
      let finds = finds_step view asked entered here visited.rest members_found visited.finds in
      record {
        names = finds.names;
        step = subst (λ rs. IsStep contents here.path.key entered rs finds.names) (sym visited.cut)
            (behind_none here.path.key entered visited.first visited.rest finds.names (shows_none view contents asked (is_shown depth) here quota next visited.first visits visited.shows) finds.step);
        found = finds.found;
        there = finds.there;
      }

-- the keys of the reported resources, in order
abbrev pub reported_keys : List Visit → List Key
reported_keys visits = map (λ (v : Visit). v.path.key) visits

pub shows_keys : (view : View) (contents : Contents) (asked : List AskedProperty) (shown : Bool) (here : Resource) (quota next : Option QuotaAnswer) (records : List Logged) (visits : List Visit)
    → Shows view contents asked shown here quota records visits next → reported_keys visits ≡ (if shown then here.path.key ∷ [] else [])
shows_keys view contents asked true here quota next records visits shows = ap reported_keys shows.2
shows_keys view contents asked false here quota next records visits shows = ap reported_keys shows.1

pub shown_key : (view : View) (contents : Contents) (asked : List AskedProperty) (shown : Bool) (here : Resource) (quota next : Option QuotaAnswer)
    (records : List Logged) (visits : List Visit)
    → shown ≡ true → Shows view contents asked shown here quota records visits next → reported_keys visits ≡ here.path.key ∷ []
shown_key view contents asked true here quota next records visits is shows = ap reported_keys shows.2
shown_key view contents asked false here quota next records visits is shows = absurd cc

-- ---- the Depth with which each member is visited

pub member_shown : (depth : Depth) → is_shown (member_depth depth) ≡ true
member_shown Zero = refl
member_shown One = refl
member_shown Infinity = refl
member_shown Default = refl

pub member_listed : (depth : Depth) → is_listed (member_depth depth) ≡ is_infinite depth
member_listed Zero = refl
member_listed One = refl
member_listed Infinity = refl
member_listed Default = refl
