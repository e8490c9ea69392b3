-- The law of the order in which a PROPFIND reports resources: depth first, members in the order of their listing.
use Rattle.std.proofs.Common.{◌≡◌, ◌∙◌, ◌&&◌, ℕ, Bool, true, false, List, [], ◌∷◌, ◌++◌, Option, None, Some, Ok, Err, map, inl, inr, refl, sym, ap, subst}
use Rattle.std.specs.Option.{option_map}
use Rattle.std.proofs.lemmas.List.{map-append}
use Rattle.dav_key.specs.Key.{Key}
use Rattle.dav_resource.specs.PathText.{PathValue}
use Rattle.dav_resource.specs.declared.request.Depth.{Depth}
use Rattle.dav_store.specs.Logged.{Logged}
use Rattle.dav_store.specs.Members.{IsIn, member}
use Rattle.dav_store.specs.Store.{Contents}
use Rattle.dav_walks.specs.Listing.{Shown, shown_in}
use Rattle.dav_walks.specs.declared.listing.Resource.{Resource}
use Rattle.dav_find.specs.Asked.{AskedProperty}
use Rattle.dav_find.specs.Finding.{View, QuotaAnswer}
use Rattle.dav_find.specs.Ordered as order
use Rattle.dav_find.specs.Ordered.{entry_names, IsListing, AreFound, AreInTurn, IsDepthFirst}
use Rattle.dav_find.specs.RangeKeys.{in_left, in_right}
use Rattle.dav_find.specs.RangeSteps.{reported_keys, shows_keys, shown_key, member_shown}
use Rattle.dav_find.specs.Visiting.{Visit, VisitsAll, over, more, stops, FindsMembers, Visits, VisitsFrom, begins, breaks, is_shown, is_listed, member_depth}

abbrev keys_of : List Resource → List Key
keys_of waiting = map (λ (r : Resource). r.path.key) waiting

shown_keys : (directory : PathValue) (listing : List Shown) → keys_of (shown_in directory listing) ≡ map (member directory.key) (entry_names listing)
shown_keys directory [] = refl
shown_keys directory (Ok entry ∷ listing) = ap (λ ks. member directory.key entry.name ∷ ks) (shown_keys directory listing)
shown_keys directory (Err e ∷ listing) = shown_keys directory listing

module _ (view : View) (contents : Contents) (asked : List AskedProperty) (all : List Logged) where
  abbrev AreAmong : List Logged → Type 0
  AreAmong records = (r : Logged) → IsIn r records → IsIn r all

  -- the members that one step finds
  record FoundInOrder (key : Key) (members : List Resource) : Type 0 where
    names : List (List ℕ)
    found : AreFound view.shows contents all key names
    keys : keys_of members ≡ map (member key) names

  found_in_order : (entered : Bool) (here : Resource) (records : List Logged) (members : List Resource) → AreAmong records → FindsMembers view contents asked entered here records members → FoundInOrder here.path.key members
  found_in_order true here records members among (listing, lists, is) = record {
    names = entry_names listing;
    found = inr (record { calls = records; among = among; listing = listing; lists = lists; shown = refl });
    keys = ap keys_of is ∙ shown_keys here.path listing;
  }
  found_in_order false here records members among (none, is) = record { names = []; found = inl refl; keys = ap keys_of is }

  step_in_order : (depth : Depth) (here : Resource) (quota next : Option QuotaAnswer) (records : List Logged) (visits : List Visit)
      (members : List Resource) → AreAmong records
      → Visits view contents asked depth here quota records visits next members → FoundInOrder here.path.key members
  step_in_order depth here quota next records visits members among visited =
      found_in_order (is_listed depth && here.meta.dir) here visited.rest members (λ r i. among r (subst (IsIn r) (sym visited.cut) (in_right r visited.first visited.rest i))) visited.finds

  all_in_order : (depth : Depth) (waiting : List Resource) (quota : Option QuotaAnswer) (records : List Logged) (end : Option (List Visit))
      (visits : List Visit) → VisitsAll view contents asked depth waiting quota records end → end ≡ Some visits
      → is_shown depth ≡ true → AreAmong records → AreInTurn view.shows contents all (keys_of waiting) (reported_keys visits)
  all_in_order depth waiting quota records end visits (over none called is) whole shown among =
      let p : Some [] ≡ Some visits = sym is ∙ whole in
      let same : visits ≡ [] = cc in
      order.over (ap keys_of none) (ap reported_keys same)
  all_in_order depth waiting quota records end visits (more here rest first others reported next members later waits called visited further is) whole shown among =
      go later (λ vs e. all_in_order depth (members ++ rest) next others later vs further e shown others_among) (sym is ∙ whole)
    where
      first_among : AreAmong first
      first_among r i = among r (subst (IsIn r) (sym called) (in_left r first others i))

      others_among : AreAmong others
      others_among r i = among r (subst (IsIn r) (sym called) (in_right r first others i))

      step : FoundInOrder here.path.key members
      step = step_in_order depth here quota next first reported members first_among visited

      go : (l : Option (List Visit)) → ((vs : List Visit) → l ≡ Some vs → AreInTurn view.shows contents all (keys_of (members ++ rest)) (reported_keys vs)) → option_map (λ vs. reported ++ vs) l ≡ Some visits
          → AreInTurn view.shows contents all (keys_of waiting) (reported_keys visits)
      go None walked p = absurd cc
      go (Some vs) walked p =
          let same : visits ≡ reported ++ vs = cc in
          let reported_are : reported_keys visits ≡ here.path.key ∷ reported_keys vs =
          ap reported_keys same ∙ map-append _ reported vs ∙ ap (λ ks. ks ++ reported_keys vs) (shown_key view contents asked (is_shown depth) here quota next visited.first reported shown visited.shows) in
          let pending : keys_of (members ++ rest) ≡ map (member here.path.key) step.names ++ keys_of rest = map-append _ members rest ∙ ap (λ ks. ks ++ keys_of rest) step.keys in
          order.next here.path.key (keys_of rest) (reported_keys vs) step.names (ap keys_of waits) reported_are step.found (subst (λ ks. AreInTurn view.shows contents all ks (reported_keys vs)) pending (walked vs refl))
  all_in_order depth waiting quota records end visits (stops here rest waits part is) whole shown among = absurd (let no : None ≡ Some visits = sym is ∙ whole in cc)

  -- the resources are reported depth first, members in the order of their listing
  pub reports_in_order : (target : Resource) (depth : Depth) (records : List Logged) (visits : List Visit) → VisitsFrom view contents asked target depth records (Some visits) → AreAmong records
      → IsDepthFirst view.shows contents all depth target.path.key (reported_keys visits)
  reports_in_order target depth records visits (begins first others reported next members later called visited further is) among = go later further is
    where
      first_among : AreAmong first
      first_among r i = among r (subst (IsIn r) (sym called) (in_left r first others i))

      others_among : AreAmong others
      others_among r i = among r (subst (IsIn r) (sym called) (in_right r first others i))

      step : FoundInOrder target.path.key members
      step = step_in_order depth target None next first reported members first_among visited

      go : (l : Option (List Visit)) → VisitsAll view contents asked (member_depth depth) members next others l
          → Some visits ≡ option_map (λ vs. reported ++ vs) l → IsDepthFirst view.shows contents all depth target.path.key (reported_keys visits)
      go None v p = absurd cc
      go (Some vs) v p =
          let same : visits ≡ reported ++ vs = cc in
          record {
            names = step.names;
            found = step.found;
            later = reported_keys vs;
            begins = ap reported_keys same ∙ map-append _ reported vs ∙ ap (λ ks. ks ++ reported_keys vs) (shows_keys view contents asked (is_shown depth) target None next visited.first reported visited.shows);
            follows = subst (λ ks. AreInTurn view.shows contents all ks (reported_keys vs)) step.keys (all_in_order (member_depth depth) members next others (Some vs) vs v refl (member_shown depth) others_among);
          }
  reports_in_order target depth records visits (breaks part is) among = absurd (let no : Some visits ≡ None = is in cc)
