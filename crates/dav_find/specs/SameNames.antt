-- What a request writes beside the names of properties changes no value, in a profile that does not repeat the request: its prefixes, its attributes,
-- and what its elements hold (RFC 4918, section 9.1).
use Rattle.std.proofs.Common.{◌≡◌, ◌∙◌, ℕ, Bool, false, if◌then◌else◌, List, [], ◌∷◌, Option, Some, None, Result, map, refl, sym, ap}
use Rattle.std.specs.Option.{ok_or}
use Rattle.dav_key.specs.Key.{Key}
use Rattle.dav_resource.specs.Profile.{repeats_request}
use Rattle.dav_resource.specs.Tree.{Tree, prefixed_element}
use Rattle.dav_resource.specs.declared.meta.Meta.{Meta}
use Rattle.dav_store.specs.Store.{Contents}
use Rattle.dav_store.specs.declared.lock.DavLock.{DavLock}
use Rattle.dav_messages.specs.Dialogue.{Dialogue, Passed, ◌>>=◌}
use Rattle.dav_live.specs.Live.{live_value, reported_in, resource_type, current_user_principal}
use Rattle.dav_live.specs.Names.{live_property_of, is_quota, shown_name}
use Rattle.dav_live.specs.Viewing.{Asker}
use Rattle.dav_live.specs.declared.property.LiveProperty.{LiveProperty}
use Rattle.dav_live.specs.declared.property.LiveProperty.TheVariants.{CreationDate, ContentLength, ContentType, ETag, LastModified, LockDiscovery, ResourceType, SupportedLock, CurrentUserPrincipal, QuotaAvailableBytes, QuotaUsedBytes, Executable, Win32CreationTime, Win32FileAttributes, Win32LastAccessTime, Win32LastModifiedTime}
use Rattle.dav_walks.specs.declared.listing.Resource.{Resource}
use Rattle.dav_find.specs.Asked.{AskedProperty, names_only}
use Rattle.dav_find.specs.Grouping.{bind_assoc, bind_same}
use Rattle.dav_find.specs.Finding.{View, QuotaAnswer, Finding, ask_quota, asker_with, quota_status, live_result, find_live, find_kept, find_by, find_one, find_each}

-- the namespace and the local name of the property that an element names
abbrev pub full_name : Tree → Option (List ℕ) × List ℕ
full_name element = (element.tag.namespace, element.tag.name)

-- the names of the requested properties, in order
abbrev pub names_of : List AskedProperty → List (Option (List ℕ) × List ℕ)
names_of asked = map (λ (a : AskedProperty). full_name a.element) asked

-- the values that are found for the requested properties, in order, and what the store reported as its quota
abbrev pub values_of : View → Contents → Resource → List AskedProperty → Option QuotaAnswer → Dialogue (List (Result Tree ℕ) × Option QuotaAnswer)
values_of view contents here asked quota =
    find_each view contents here asked quota >>= λ found. Passed (map (λ (f : Finding). f.value) found.0, found.1)

-- ---- a live property

module _ (one other : Tree) (asker : Asker) (own : repeats_request asker.profile ≡ false) where
  same_element : (name : List ℕ) → reported_in asker.profile one name ≡ reported_in asker.profile other name
  same_element name =
      ap (λ b. if b then one else prefixed_element name) own ∙ sym (ap (λ b. if b then other else prefixed_element name) own)

  pub same_live : (property : LiveProperty) (only : Bool) (locks : Option (List DavLock)) (key : Key) (meta : Meta)
      → live_value property one only asker locks key meta ≡ live_value property other only asker locks key meta
  same_live ResourceType only locks key meta = ap (λ e. Some (resource_type e only meta.dir)) (same_element (shown_name ResourceType))
  same_live CurrentUserPrincipal only locks key meta = ap (λ e. current_user_principal e only asker.principal) (same_element (shown_name CurrentUserPrincipal))
  same_live CreationDate only locks key meta = refl
  same_live ContentLength only locks key meta = refl
  same_live ContentType only locks key meta = refl
  same_live ETag only locks key meta = refl
  same_live LastModified only locks key meta = refl
  same_live LockDiscovery only locks key meta = refl
  same_live SupportedLock only locks key meta = refl
  same_live QuotaAvailableBytes only locks key meta = refl
  same_live QuotaUsedBytes only locks key meta = refl
  same_live Executable only locks key meta = refl
  same_live Win32CreationTime only locks key meta = refl
  same_live Win32FileAttributes only locks key meta = refl
  same_live Win32LastAccessTime only locks key meta = refl
  same_live Win32LastModifiedTime only locks key meta = refl

-- ---- each property

module _ (view : View) (own : repeats_request view.profile ≡ false) (contents : Contents) (here : Resource) where
  module _ (one other : Tree) (names : full_name one ≡ full_name other) where
    same_result : (property : LiveProperty) (quota : Option QuotaAnswer) → live_result view here one property quota ≡ live_result view here other property quota
    same_result property quota =
        ap (λ value. ok_or value (quota_status quota)) (same_live one other (asker_with view quota) own property (names_only view.kind) view.locks here.path.key here.meta)

    same_kept : find_kept view contents here one ≡ find_kept view contents here other
    same_kept = rw (ap (λ n. n.0) names, ap (λ n. n.1) names) refl

    same_found_live : (property : LiveProperty) (quota : Option QuotaAnswer) → find_live view contents here one property quota ≡ find_live view contents here other property quota
    same_found_live property quota = λ i.
        if is_quota property
        then (ask_quota contents quota >>= λ answer. Passed (same_result property (Some answer) i, Some answer))
        else Passed (same_result property None i, quota)

    same_by : (live : Option LiveProperty) (quota : Option QuotaAnswer) → find_by view contents here one live quota ≡ find_by view contents here other live quota
    same_by (Some property) quota = same_found_live property quota
    same_by None quota = ap (λ found. found >>= λ value. Passed (value, quota)) same_kept

    -- elements that name the same property find the same
    pub same_one : (quota : Option QuotaAnswer) → find_one view contents here one quota ≡ find_one view contents here other quota
    same_one quota =
        same_by (live_property_of one.tag.namespace one.tag.name) quota
        ∙ ap (λ (n : Option (List ℕ) × List ℕ). find_by view contents here other (live_property_of n.0 n.1) quota) names

  -- the values of the other properties, behind a first one
  abbrev values_after : List AskedProperty → Result Tree ℕ × Option QuotaAnswer → Dialogue (List (Result Tree ℕ) × Option QuotaAnswer)
  values_after more one = values_of view contents here more one.1 >>= λ values. Passed (one.0 ∷ values.0, values.1)

  values_cons : (asked : AskedProperty) (more : List AskedProperty) (quota : Option QuotaAnswer)
      → values_of view contents here (asked ∷ more) quota ≡ (find_one view contents here asked.element quota >>= values_after more)
  unfolding find_each ◌>>=◌
  values_cons asked more quota =
      bind_assoc (find_one view contents here asked.element quota) _ _
      ∙ bind_same (find_one view contents here asked.element quota) _ _
      (λ one. bind_assoc (find_each view contents here more one.1) _ _ ∙ sym (bind_assoc (find_each view contents here more one.1) _ _))

  -- requests that name the same properties find the same values
  pub same_values : (one other : List AskedProperty) (quota : Option QuotaAnswer) → names_of one ≡ names_of other
      → values_of view contents here one quota ≡ values_of view contents here other quota
  same_values [] [] quota names = refl
  same_values [] (b ∷ others) quota names = absurd cc
  same_values (a ∷ rest) [] quota names = absurd cc
  same_values (a ∷ rest) (b ∷ others) quota names =
      values_cons a rest quota
      ∙ ap (λ first. first >>= values_after rest) (same_one a.element b.element (cc) quota)
      ∙ bind_same (find_one view contents here b.element quota) _ _
      (λ first. ap (λ values. values >>= λ found. Passed (first.0 ∷ found.0, found.1)) (same_values rest others first.1 cc))
      ∙ sym (values_cons b others quota)
