-- With `prop`, the properties that are reported of a resource are the requested ones by their local names, one each, in the same order.
use Rattle.std.proofs.Common.{◌≡◌, ◌∙◌, ◌&&◌, ◌||◌, ◌==◌, ℕ, Bool, true, false, not, if◌then◌else◌, List, [], ◌∷◌, ◌++◌, Option, None, Some, Result, Ok, Err, map, inl, inr, refl, sym, ap, subst, append-nil}
use Rattle.std.specs.Prelude.{codes, bytes_eq, unwrap_or}
use Rattle.std.specs.FinMap.{get, empty, get-empty}
use Rattle.std.specs.List.{after_first, flat_map}
use Rattle.std.specs.Option.{ok_or, ForSome}
use Rattle.std.proofs.lemmas.List.{map-append}
use Rattle.std.proofs.lemmas.Slice.Eq.{bytes_eq-Decides}
use Rattle.dav_key.specs.Key.{Key, key_cmp}
use Rattle.dav_resource.specs.PathText.{PathValue}
use Rattle.dav_resource.specs.Profile.{repeats_request}
use Rattle.dav_resource.specs.Tree.{Tree, prefixed_element}
use Rattle.dav_resource.specs.declared.meta.Meta.{Meta}
use Rattle.dav_resource.specs.declared.profile.Profile.{Profile}
use Rattle.dav_resource.specs.declared.record.Outcome.{Outcome}
use Rattle.dav_resource.specs.declared.record.Outcome.TheVariants.{Granted, Barred, Refused}
use Rattle.dav_store.specs.Logged.{Logged}
use Rattle.dav_store.specs.Members.{IsIn}
use Rattle.dav_store.specs.PropertyCalls.{properties_at, get_prop_call}
use Rattle.dav_store.specs.Store.{Contents, PropertyMap, AreNamed, IsWellFormed, property_key}
use Rattle.dav_store.specs.declared.lock.DavLock.{DavLock}
use Rattle.dav_messages.specs.DavElement.{with_elements, text_element}
use Rattle.dav_messages.specs.Dialogue.{Asks, Passed, LeadsTo}
use Rattle.dav_messages.specs.Dialogues.{LeadsTo-last}
use Rattle.dav_props.specs.Property.{bare}
use Rattle.dav_props.specs.Propstat.{PropertyStatus}
use Rattle.dav_live.specs.Live.{live_value, text_property, reported_in, resource_type, current_user_principal}
use Rattle.dav_live.specs.Names.{live_property_of, named_in_dav, named_in_apache, named_in_microsoft, shown_name, is_quota}
use Rattle.dav_live.specs.Rows.{live_text}
use Rattle.dav_live.specs.Viewing.{Asker}
use Rattle.dav_live.specs.declared.property.LiveProperty.{LiveProperty}
use Rattle.dav_live.specs.declared.property.LiveProperty.TheVariants.{CreationDate, ContentLength, ContentType, ETag, LastModified, LockDiscovery, ResourceType, SupportedLock, CurrentUserPrincipal, QuotaAvailableBytes, QuotaUsedBytes, Executable, Win32CreationTime, Win32FileAttributes, Win32LastAccessTime, Win32LastModifiedTime}
use Rattle.dav_walks.specs.declared.listing.Resource.{Resource}
use Rattle.dav_find.specs.Asked.{AskedProperty}
use Rattle.dav_find.specs.declared.search.FindKind.TheVariants.{Prop}
use Rattle.dav_find.specs.Asked.{names_only, named_only}
use Rattle.dav_find.specs.Finding.{View, QuotaAnswer, Finding, ask_quota, asker_with, quota_status, live_result, find_quota, find_live, find_kept, find_by, find_one, is_looked_up, is_all_sought, name_in, returned_by}
use Rattle.dav_find.specs.RangeKeys.{in_map}
use Rattle.dav_find.specs.Reported.{IsStored, IsFoundAt, ReportsAsked, AreReported, reported_name, asked_name, AreNamedAsAsked}
use Rattle.dav_find.specs.Reporting.{report_of, report_one, report_by}
use Rattle.dav_find.specs.Visiting.{Visit}

-- ---- the names of live properties

abbrev local_of : LiveProperty → List ℕ
local_of property = after_first (λ b. b == 58) (shown_name property)

one_of : (name local : List ℕ) (property p : LiveProperty) (rest : Option LiveProperty) → local ≡ local_of property → (rest ≡ Some p → name ≡ local_of p) → (if bytes_eq name local then Some property else rest) ≡ Some p → name ≡ local_of p
one_of name local property p rest is others = by_name (bytes_eq name local) refl
  where
    by_name : (b : Bool) → bytes_eq name local ≡ b → (if b then Some property else rest) ≡ Some p → name ≡ local_of p
    by_name true same e = let q : property ≡ p = cc in (bytes_eq-Decides name local).0 same ∙ is ∙ ap local_of q
    by_name false same e = others e

none_of : (name : List ℕ) (p : LiveProperty) → None ≡ Some p → name ≡ local_of p
none_of name p e = absurd cc

in_dav : (name : List ℕ) (p : LiveProperty) → named_in_dav name ≡ Some p → name ≡ local_of p
in_dav name p =
    one_of name (codes "creationdate") CreationDate p _ refl
    (one_of name (codes "getcontentlength") ContentLength p _ refl
    (one_of name (codes "getcontenttype") ContentType p _ refl
    (one_of name (codes "getetag") ETag p _ refl
    (one_of name (codes "getlastmodified") LastModified p _ refl
    (one_of name (codes "lockdiscovery") LockDiscovery p _ refl
    (one_of name (codes "resourcetype") ResourceType p _ refl
    (one_of name (codes "supportedlock") SupportedLock p _ refl
    (one_of name (codes "current-user-principal") CurrentUserPrincipal p _ refl
    (one_of name (codes "quota-available-bytes") QuotaAvailableBytes p _ refl
    (one_of name (codes "quota-used-bytes") QuotaUsedBytes p None refl (none_of name p)))))))))))

in_apache : (name : List ℕ) (p : LiveProperty) → named_in_apache name ≡ Some p → name ≡ local_of p
in_apache name p = one_of name (codes "executable") Executable p None refl (none_of name p)

in_microsoft : (name : List ℕ) (p : LiveProperty) → named_in_microsoft name ≡ Some p → name ≡ local_of p
in_microsoft name p =
    one_of name (codes "Win32CreationTime") Win32CreationTime p _ refl
    (one_of name (codes "Win32FileAttributes") Win32FileAttributes p _ refl
    (one_of name (codes "Win32LastAccessTime") Win32LastAccessTime p _ refl
    (one_of name (codes "Win32LastModifiedTime") Win32LastModifiedTime p None refl (none_of name p))))

pub local_name : (namespace : Option (List ℕ)) (name : List ℕ) (p : LiveProperty) → live_property_of namespace name ≡ Some p → name ≡ local_of p
local_name None name p e = absurd cc
local_name (Some namespace) name p e = by_dav (bytes_eq namespace (codes "DAV:")) e
  where
    by_microsoft : (b : Bool) → (if b then named_in_microsoft name else None) ≡ Some p → name ≡ local_of p
    by_microsoft true e = in_microsoft name p e
    by_microsoft false e = absurd cc

    by_apache : (b : Bool) → (if b then named_in_apache name else (if bytes_eq namespace (codes "urn:schemas-microsoft-com:") then named_in_microsoft name else None)) ≡ Some p → name ≡ local_of p
    by_apache true e = in_apache name p e
    by_apache false e = by_microsoft (bytes_eq namespace (codes "urn:schemas-microsoft-com:")) e

    by_dav : (b : Bool) → (if b then named_in_dav name else (if bytes_eq namespace (codes "http://apache.org/dav/props/") then named_in_apache name else (if bytes_eq namespace (codes "urn:schemas-microsoft-com:") then named_in_microsoft name else None))) ≡ Some p
        → name ≡ local_of p
    by_dav true e = in_dav name p e
    by_dav false e = by_apache (bytes_eq namespace (codes "http://apache.org/dav/props/")) e

-- ---- the names of their elements

abbrev name_of : Tree → List ℕ
name_of element = element.tag.name

either_named : (b : Bool) (one other element : Tree) (name : List ℕ) → name_of one ≡ name → name_of other ≡ name → (if b then one else other) ≡ element → name_of element ≡ name
either_named true one other element name first second e = ap name_of (sym e) ∙ first
either_named false one other element name first second e = ap name_of (sym e) ∙ second

text_named : (name : List ℕ) (only : Bool) (text : Option (List ℕ)) (element : Tree) → text_property name only text ≡ Some element → name_of element ≡ name_of (prefixed_element name)
text_named name only None element e = absurd cc
text_named name only (Some text) element e =
    let p : (if only then prefixed_element name else text_element name text) ≡ element = cc in
    either_named only (prefixed_element name) (text_element name text) element (name_of (prefixed_element name)) refl refl p

some_is : {one other : Tree} → Some one ≡ Some other → one ≡ other
some_is e = cc

type_named : (shown element : Tree) (only dir : Bool) → resource_type shown only dir ≡ element → name_of element ≡ name_of shown
type_named shown element only dir e =
    either_named (dir && not only) (with_elements shown (prefixed_element (codes "D:collection") ∷ [])) shown element (name_of shown) refl refl e

principal_named : (shown element : Tree) (only : Bool) (principal : Option (List ℕ)) → current_user_principal shown only principal ≡ Some element → name_of element ≡ name_of shown
principal_named shown element only None e = absurd cc
principal_named shown element only (Some text) e =
    either_named only shown (with_elements shown (text_element (codes "D:href") text ∷ [])) element (name_of shown) refl refl (some_is e)

-- the element in which a property is reported has the name of the property in each profile
shown_named : (profile : Profile) (asked : Tree) (name : List ℕ) → name_of asked ≡ name_of (prefixed_element name) → name_of (reported_in profile asked name) ≡ name_of asked
shown_named profile asked name is =
    either_named (repeats_request profile) asked (prefixed_element name) (reported_in profile asked name) (name_of asked) refl (sym is) refl

module _ (asked element : Tree) (only : Bool) (asker : Asker) (locks : Option (List DavLock)) (key : Key) (meta : Meta) where
  value_named : (p : LiveProperty) → name_of asked ≡ local_of p → live_value p asked only asker locks key meta ≡ Some element → name_of element ≡ name_of asked
  value_named ResourceType is e =
      type_named (reported_in asker.profile asked (shown_name ResourceType)) element only meta.dir (some_is e)
      ∙ shown_named asker.profile asked (shown_name ResourceType) is
  value_named CurrentUserPrincipal is e =
      principal_named (reported_in asker.profile asked (shown_name CurrentUserPrincipal)) element only asker.principal e
      ∙ shown_named asker.profile asked (shown_name CurrentUserPrincipal) is
  value_named LockDiscovery is e = either_named only _ _ element (name_of asked) (sym is) (sym is) (some_is e)
  value_named SupportedLock is e = either_named only _ _ element (name_of asked) (sym is) (sym is) (some_is e)
  value_named CreationDate is e = text_named (shown_name CreationDate) only (live_text CreationDate asker key meta) element e ∙ sym is
  value_named ContentLength is e = text_named (shown_name ContentLength) only (live_text ContentLength asker key meta) element e ∙ sym is
  value_named ContentType is e = text_named (shown_name ContentType) only (live_text ContentType asker key meta) element e ∙ sym is
  value_named ETag is e = text_named (shown_name ETag) only (live_text ETag asker key meta) element e ∙ sym is
  value_named LastModified is e = text_named (shown_name LastModified) only (live_text LastModified asker key meta) element e ∙ sym is
  value_named QuotaAvailableBytes is e = text_named (shown_name QuotaAvailableBytes) only (live_text QuotaAvailableBytes asker key meta) element e ∙ sym is
  value_named QuotaUsedBytes is e = text_named (shown_name QuotaUsedBytes) only (live_text QuotaUsedBytes asker key meta) element e ∙ sym is
  value_named Executable is e = text_named (shown_name Executable) only (live_text Executable asker key meta) element e ∙ sym is
  value_named Win32CreationTime is e = text_named (shown_name Win32CreationTime) only (live_text Win32CreationTime asker key meta) element e ∙ sym is
  value_named Win32FileAttributes is e = text_named (shown_name Win32FileAttributes) only (live_text Win32FileAttributes asker key meta) element e ∙ sym is
  value_named Win32LastAccessTime is e = text_named (shown_name Win32LastAccessTime) only (live_text Win32LastAccessTime asker key meta) element e ∙ sym is
  value_named Win32LastModifiedTime is e = text_named (shown_name Win32LastModifiedTime) only (live_text Win32LastModifiedTime asker key meta) element e ∙ sym is

-- ---- what is found

passed_is : {A : Type 0} (a b : A) (records : List Logged) → LeadsTo (Passed a) records (Passed b) → b ≡ a
passed_is a b [] end = cc
passed_is a b (r ∷ records) end = absurd end

key_named : (a b : Option (List ℕ)) (n m : List ℕ) → property_key a n ≡ property_key b m → n ≡ m
key_named None None n m e = cc
key_named None (Some b) n m e = absurd cc
key_named (Some a) None n m e = absurd cc
key_named (Some a) (Some b) n m e = cc

stored_named : (there : Option PropertyMap) → ForSome there AreNamed → AreNamed (unwrap_or there empty)
stored_named None named = λ name element e. absurd (let no : None ≡ Some element = sym (get-empty key_cmp name) ∙ e in cc)
stored_named (Some properties) named = named properties refl

reported_there : (outcome : Outcome) (there : Option Tree) (element : Tree) → returned_by outcome there ≡ Ok element → there ≡ Some element
reported_there Granted None element e = absurd cc
reported_there Granted (Some t) element e = let q : t ≡ element = cc in ap Some q
reported_there (Barred d) there element e = absurd cc
reported_there (Refused d) there element e = absurd cc

bare_named : (element : Tree) → name_of (bare element) ≡ name_of element
bare_named element = by_namespace element.tag.namespace
  where
    by_namespace : (namespace : Option (List ℕ)) → name_of (bare (record { tag = record { name = element.tag.name; prefix = element.tag.prefix; namespace = namespace; attributes = element.tag.attributes }; children = element.children })) ≡ name_of element
    by_namespace None = refl
    by_namespace (Some namespace) = refl

module _ (view : View) (contents : Contents) (formed : IsWellFormed contents) (here : Resource) where
  live_named : (asked element : Tree) (p : LiveProperty) (quota : Option QuotaAnswer) → name_of asked ≡ local_of p → live_result view here asked p quota ≡ Ok element → name_of element ≡ name_of asked
  live_named asked element p quota is = by_value (live_value p asked (names_only view.kind) (asker_with view quota) view.locks here.path.key here.meta) refl
    where
      by_value : (v : Option Tree) → live_value p asked (names_only view.kind) (asker_with view quota) view.locks here.path.key here.meta ≡ v → ok_or v (quota_status quota) ≡ Ok element → name_of element ≡ name_of asked
      by_value None same e = absurd cc
      by_value (Some t) same e =
          let q : t ≡ element = cc in
          value_named asked element (names_only view.kind) (asker_with view quota) view.locks here.path.key here.meta p is (same ∙ ap Some q)

  found_live_named : (asked element : Tree) (p : LiveProperty) (quota next : Option QuotaAnswer) (records : List Logged) → name_of asked ≡ local_of p → LeadsTo (find_live view contents here asked p quota) records (Passed (Ok element, next)) → name_of element ≡ name_of asked
  found_live_named asked element p quota next records is led = by_quota (is_quota p) led
    where
      by_quota : (b : Bool) → LeadsTo (if b then find_quota view contents here asked p quota else Passed (live_result view here asked p None, quota)) records (Passed (Ok element, next)) → name_of element ≡ name_of asked
      by_quota true end =
          let q = LeadsTo-last (ask_quota contents quota) _ records (Ok element, next) end in
          live_named asked element p (Some q.0) is (sym (ap (λ (t : Result Tree ℕ × Option QuotaAnswer). t.0) (passed_is _ (Ok element, next) q.2 q.4)))
      by_quota false end = live_named asked element p None is (sym (ap (λ (t : Result Tree ℕ × Option QuotaAnswer). t.0) (passed_is _ (Ok element, next) records end)))

  found_kept_named : (asked element : Tree) (records : List Logged) → LeadsTo (find_kept view contents here asked) records (Passed (Ok element)) → name_of element ≡ name_of asked
  found_kept_named asked element records led = by_looked (is_looked_up view asked) records led
    where
      by_looked : (b : Bool) (rs : List Logged) → LeadsTo (if b then Asks (get_prop_call contents here.path.key (name_in asked)) (λ outcome. Passed (returned_by outcome (get (properties_at contents here.path.key) (name_in asked)))) else Passed (Err 404)) rs (Passed (Ok element))
          → name_of element ≡ name_of asked
      by_looked true [] end = absurd cc
      by_looked true (r ∷ rs) end =
          let got = reported_there r.outcome (get (properties_at contents here.path.key) (name_in asked)) element (sym (passed_is _ (Ok element) rs end.2)) in
          let same = stored_named (get contents.properties here.path.key) (formed.named here.path.key) (name_in asked) element got in
          key_named element.tag.namespace asked.tag.namespace element.tag.name asked.tag.name same
      by_looked false rs end = absurd (let no : Ok element ≡ Err 404 = passed_is _ (Ok element) rs end in cc)

  -- what is found for a requested property has its local name
  finding_named : (one : Finding) → IsFoundAt view contents here one → (element : Tree) → one.value ≡ Ok element → name_of element ≡ name_of one.asked.element
  finding_named one found element is =
      by_live (live_property_of asked.tag.namespace asked.tag.name) refl (subst (λ t. LeadsTo (find_one view contents here asked found.quota) found.records (Passed (t, found.next))) is found.leads)
    where
      asked : Tree
      asked = one.asked.element

      by_live : (p : Option LiveProperty) → live_property_of asked.tag.namespace asked.tag.name ≡ p → LeadsTo (find_by view contents here asked p found.quota) found.records (Passed (Ok element, found.next)) → name_of element ≡ name_of asked
      by_live (Some p) same led = found_live_named asked element p found.quota found.next found.records (local_name asked.tag.namespace asked.tag.name p same) led
      by_live None same led =
          let q = LeadsTo-last (find_kept view contents here asked) _ found.records (Ok element, found.next) led in
          found_kept_named asked element q.1 (subst (λ t. LeadsTo (find_kept view contents here asked) q.1 (Passed t)) (sym (ap (λ (t : Result Tree ℕ × Option QuotaAnswer). t.0) (passed_is _ (Ok element, found.next) q.2 q.4))) q.3)

  -- ---- what is reported

  tell_named : (one : Finding) → IsFoundAt view contents here one → one.asked.by_server ≡ false → map reported_name (report_one (Ok []) one) ≡ name_of one.asked.element ∷ []
  tell_named one found unlisted = by_reported one.value refl
    where
      by_listed : (b : Bool) (status : ℕ) → b ≡ false → map reported_name (if b || false then [] else (status, bare one.asked.element) ∷ []) ≡ name_of one.asked.element ∷ []
      by_listed true status not = absurd (let none : true ≡ false = not in cc)
      by_listed false status is = ap (λ n. n ∷ []) (bare_named one.asked.element)

      by_reported : (t : Result Tree ℕ) → one.value ≡ t → map reported_name (report_by (Ok []) one.asked t) ≡ name_of one.asked.element ∷ []
      by_reported (Ok element) is = ap (λ n. n ∷ []) (finding_named one found element is)
      by_reported (Err status) is = by_listed one.asked.by_server status unlisted

  each_named : (found : List Finding) → ((one : Finding) → IsIn one found → IsFoundAt view contents here one) → ((one : Finding) → IsIn one found → one.asked.by_server ≡ false)
      → map reported_name (flat_map (report_one (Ok [])) found) ≡ map asked_name (map (λ (one : Finding). one.asked) found)
  each_named [] found unlisted = refl
  each_named (one ∷ more) found unlisted =
      map-append reported_name (report_one (Ok []) one) (flat_map (report_one (Ok [])) more)
      ∙ (λ i. tell_named one (found one (inl refl)) (unlisted one (inl refl)) i ++ each_named more (λ o j. found o (inr j)) (λ o j. unlisted o (inr j)) i)

  prop_named : (asked : List AskedProperty) (reported : List PropertyStatus) → view.kind ≡ Prop → ((a : AskedProperty) → IsIn a asked → a.by_server ≡ false) → ReportsAsked view contents asked here reported → map reported_name reported ≡ map asked_name asked
  prop_named asked reported kind unlisted reports =
      ap (map reported_name) (reports.reported ∙ (λ i. report_of (kind i) reports.found (stored_none i)) ∙ append-nil (flat_map (report_one (Ok [])) reports.found))
      ∙ each_named reports.found reports.by_lookup (λ one i. unlisted one.asked (subst (IsIn one.asked) reports.each (in_map (λ (o : Finding). o.asked) one reports.found i)))
      ∙ ap (map asked_name) reports.each
    where
      and_false : (b : Bool) → (b && false) ≡ false
      and_false true = refl
      and_false false = refl

      unsought : is_all_sought view ≡ false
      unsought = ap (λ k. view.keeps && not (named_only k)) kind ∙ and_false view.keeps

      stored_none : reports.stored ≡ Ok []
      stored_none = subst (λ b. IsStored b contents here.path.key reports.stored) unsought reports.kept

-- with `prop`, each resource is reported with the requested properties by their local names, one each, in order
pub reports_named : (view : View) (contents : Contents) (asked : List AskedProperty) (top : PathValue) (visits : List Visit) → IsWellFormed contents → (view.kind ≡ Prop → (a : AskedProperty) → IsIn a asked → a.by_server ≡ false)
    → AreReported view contents asked top visits → AreNamedAsAsked view.kind asked visits
reports_named view contents asked top visits formed unlisted each kind visit i =
    let one = each visit i in
    prop_named view contents formed (record { path = visit.path; meta = one.meta }) asked visit.reported kind (unlisted kind) one.properties
