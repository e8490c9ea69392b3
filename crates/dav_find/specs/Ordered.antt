-- The order in which a PROPFIND reports resources: this project's own choice, which RFC 4918, section 9.1, leaves open.
use Rattle.std.specs.Prelude.{◌≡◌, ◌⊎◌, ℕ, Bool, if◌then◌else◌, List, [], ◌∷◌, ◌++◌, map, filter_map, Option, Some, None, Ok, Err}
use Rattle.dav_key.specs.Key.{Key}
use Rattle.dav_resource.specs.declared.request.Depth.{Depth}
use Rattle.dav_store.specs.Logged.{Logged}
use Rattle.dav_store.specs.Members.{IsIn, member}
use Rattle.dav_store.specs.Store.{Contents}
use Rattle.dav_walks.specs.Listing.{Shown, ListsAt}
use Rattle.dav_find.specs.Visiting.{is_shown}

-- the names of the members that a listing shows, in order
abbrev pub entry_name : Shown → Option (List ℕ)
entry_name (Ok entry) = Some entry.name
entry_name (Err e) = None

abbrev pub entry_names : List Shown → List (List ℕ)
entry_names listing = filter_map entry_name listing

module _ (shows : Key → Bool) (contents : Contents) (records : List Logged) where
  -- the resource is listed by some of the records, and its listing shows the members with these names, in this order
  pub record IsListing (key : Key) (names : List (List ℕ)) : Type 0 where
    pub calls : List Logged
    pub among : (r : Logged) → IsIn r calls → IsIn r records
    pub listing : List Shown
    pub lists : ListsAt shows contents key calls listing
    pub shown : names ≡ entry_names listing

  -- no members are found, or those of its listing, in the order of the listing
  abbrev pub AreFound : Key → List (List ℕ) → Type 0
  AreFound key names = (names ≡ []) ⊎ IsListing key names

  -- the first pending key is reported next; then its members, in the order of its listing, become pending before the others
  pub data AreInTurn : List Key → List Key → Type 0 where
    over : {waiting reported : List Key} → waiting ≡ [] → reported ≡ [] → AreInTurn waiting reported
    next : {waiting reported : List Key} (key : Key) (rest later : List Key) (names : List (List ℕ)) → waiting ≡ key ∷ rest → reported ≡ key ∷ later
        → AreFound key names → AreInTurn (map (member key) names ++ rest) later → AreInTurn waiting reported

  -- The target comes first, if the Depth includes it. Then its members come in the order of its listing, and each is followed directly by what is
  -- reported below it, in the same way.
  pub record IsDepthFirst (depth : Depth) (top : Key) (reported : List Key) : Type 0 where
    pub names : List (List ℕ)
    pub found : AreFound top names
    pub later : List Key
    pub begins : reported ≡ (if is_shown depth then top ∷ [] else []) ++ later
    pub follows : AreInTurn (map (member top) names) later
