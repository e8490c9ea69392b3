-- The law of how a PROPFIND reports each resource: under its own path, and with each requested property.
use Rattle.std.proofs.Common.{◌≡◌, ◌∙◌, ◌⊎◌, ◌&&◌, ◌||◌, ℕ, Bool, true, false, if◌then◌else◌, List, [], ◌∷◌, ◌++◌, Option, None, Some, Result, Ok, Err, map, inl, inr, refl, sym, ap, subst, append-nil}
use Rattle.std.specs.FinMap.{get}
use Rattle.std.specs.Option.{option_map}
use Rattle.std.proofs.lemmas.List.{append_assoc}
use Rattle.dav_key.specs.Key.{Key}
use Rattle.dav_resource.specs.PathText.{PathValue}
use Rattle.dav_resource.specs.Tree.{Tree}
use Rattle.dav_resource.specs.declared.meta.DirEntry.{DirEntry}
use Rattle.dav_resource.specs.declared.meta.Meta.{Meta}
use Rattle.dav_resource.specs.declared.request.Depth.{Depth}
use Rattle.dav_store.specs.Logged.{Logged}
use Rattle.dav_store.specs.Members.{IsIn, member}
use Rattle.dav_store.specs.Store.{Contents, Node, File, Directory, MetaFits, IsWellFormed}
use Rattle.dav_messages.specs.Dialogue.{Asks, Passed, LeadsTo}
use Rattle.dav_messages.specs.Dialogues.{LeadsTo-last}
use Rattle.dav_props.specs.Propstat.{PropertyStatus}
use Rattle.dav_live.specs.Names.{is_quota, live_property_of}
use Rattle.dav_live.specs.declared.property.LiveProperty.{LiveProperty}
use Rattle.dav_walks.specs.Frames.{path_of_entry}
use Rattle.dav_walks.specs.Listing.{Shown, shown_in, AreThere}
use Rattle.dav_walks.specs.declared.listing.Resource.{Resource}
use Rattle.dav_find.specs.Asked.{AskedProperty}
use Rattle.dav_find.specs.Finding.{View, QuotaAnswer, Finding, AreKept, props_call, is_all_sought, returned_by, ask_quota, live_result, find_quota, find_live, find_kept, find_by, find_one, find_each, find_stored}
use Rattle.dav_find.specs.RangeKeys.{in_either}
use Rattle.dav_find.specs.RangeSteps.{visit_step}
use Rattle.dav_find.specs.Reported.{is_directory_node, is_directory_at, path_at, IsStored, IsQuotaAnswer, IsFoundAt, ReportsAsked, IsReported, AreReported}
use Rattle.dav_find.specs.Response.{Responds}
use Rattle.dav_find.specs.Visiting.{Visit, VisitsAll, over, more, stops, Shows, FindsMembers, Visits, VisitsFrom, begins, breaks, is_shown, is_listed, member_depth}

-- a dialogue that has passed is over
passed_is : {A : Type 0} (a b : A) (records : List Logged) → LeadsTo (Passed a) records (Passed b) → b ≡ a
passed_is a b [] end = cc
passed_is a b (r ∷ records) end = absurd end

-- ---- the properties of one resource

module _ (view : View) (contents : Contents) (here : Resource) where
  abbrev Fits : Option QuotaAnswer → Type 0
  Fits quota = IsQuotaAnswer contents quota

  quota_fits : (quota : Option QuotaAnswer) (records : List Logged) (reported : QuotaAnswer) → Fits quota → LeadsTo (ask_quota contents quota) records (Passed reported) → Fits (Some reported)
  quota_fits (Some known) records reported fits led = subst (λ t. Fits (Some t)) (sym (passed_is known reported records led)) fits
  quota_fits None [] reported fits led = absurd cc
  quota_fits None (r ∷ records) reported fits led = inr (r.outcome, ap Some (passed_is _ reported records led.2))

  live_fits : (element : Tree) (p : LiveProperty) (quota : Option QuotaAnswer) (records : List Logged) (one : Result Tree ℕ × Option QuotaAnswer) → Fits quota → LeadsTo (find_live view contents here element p quota) records (Passed one) → Fits one.1
  live_fits element p quota records one fits led = by_quota (is_quota p) led
    where
      by_quota : (b : Bool) → LeadsTo (if b then find_quota view contents here element p quota else Passed (live_result view here element p None, quota)) records (Passed one) → Fits one.1
      by_quota true end =
          let q = LeadsTo-last (ask_quota contents quota) _ records one end in
          subst (λ (o : Result Tree ℕ × Option QuotaAnswer). Fits o.1) (sym (passed_is _ one q.2 q.4)) (quota_fits quota q.1 q.0 fits q.3)
      by_quota false end = subst (λ (o : Result Tree ℕ × Option QuotaAnswer). Fits o.1) (sym (passed_is _ one records end)) fits

  one_fits : (element : Tree) (p : Option LiveProperty) (quota : Option QuotaAnswer) (records : List Logged) (one : Result Tree ℕ × Option QuotaAnswer) → Fits quota → LeadsTo (find_by view contents here element p quota) records (Passed one) → Fits one.1
  one_fits element (Some p) quota records one fits led = live_fits element p quota records one fits led
  one_fits element None quota records one fits led =
      let q = LeadsTo-last (find_kept view contents here element) _ records one led in
      subst (λ (o : Result Tree ℕ × Option QuotaAnswer). Fits o.1) (sym (passed_is _ one q.2 q.4)) fits

  each_fits : (asked : List AskedProperty) (quota : Option QuotaAnswer) (records : List Logged) (found : List Finding × Option QuotaAnswer) → Fits quota → LeadsTo (find_each view contents here asked quota) records (Passed found) → Fits found.1
  unfolding find_each
  each_fits [] quota records found fits led = subst (λ (f : List Finding × Option QuotaAnswer). Fits f.1) (sym (passed_is _ found records led)) fits
  each_fits (a ∷ asked) quota records found fits led =
      let p = LeadsTo-last (find_one view contents here a.element quota) _ records found led in
      let q = LeadsTo-last (find_each view contents here asked p.0.1) _ p.2 found p.4 in
      subst (λ (f : List Finding × Option QuotaAnswer). Fits f.1) (sym (passed_is _ found q.2 q.4))
      (each_fits asked p.0.1 q.1 q.0 (one_fits a.element (live_property_of a.element.tag.namespace a.element.tag.name) quota p.1 p.0 fits p.3) q.3)

  each_asked : (asked : List AskedProperty) (quota : Option QuotaAnswer) (records : List Logged) (found : List Finding × Option QuotaAnswer) → LeadsTo (find_each view contents here asked quota) records (Passed found)
      → map (λ (one : Finding). one.asked) found.0 ≡ asked
  unfolding find_each
  each_asked [] quota records found led = ap (λ (f : List Finding × Option QuotaAnswer). map (λ (one : Finding). one.asked) f.0) (passed_is _ found records led)
  each_asked (a ∷ asked) quota records found led =
      let p = LeadsTo-last (find_one view contents here a.element quota) _ records found led in
      let q = LeadsTo-last (find_each view contents here asked p.0.1) _ p.2 found p.4 in
      ap (λ (f : List Finding × Option QuotaAnswer). map (λ (one : Finding). one.asked) f.0) (passed_is _ found q.2 q.4)
      ∙ ap (λ xs. a ∷ xs) (each_asked asked p.0.1 q.1 q.0 q.3)

  each_found : (asked : List AskedProperty) (quota : Option QuotaAnswer) (records : List Logged) (found : List Finding × Option QuotaAnswer) → LeadsTo (find_each view contents here asked quota) records (Passed found)
      → Fits quota → (one : Finding) → IsIn one found.0 → IsFoundAt view contents here one
  unfolding find_each
  each_found [] quota records found led fits one i = absurd (subst (λ (f : List Finding × Option QuotaAnswer). IsIn one f.0) (passed_is _ found records led) i)
  each_found (a ∷ asked) quota records found led fits one i =
      let p = LeadsTo-last (find_one view contents here a.element quota) _ records found led in
      let q = LeadsTo-last (find_each view contents here asked p.0.1) _ p.2 found p.4 in
      which a p.0 p.1 p.3 q.0.0 (λ j. each_found asked p.0.1 q.1 q.0 q.3 (one_fits a.element (live_property_of a.element.tag.namespace a.element.tag.name) quota p.1 p.0 fits p.3) one j) (subst (λ (f : List Finding × Option QuotaAnswer). IsIn one f.0) (passed_is _ found q.2 q.4) i)
    where
      which : (b : AskedProperty) (first : Result Tree ℕ × Option QuotaAnswer) (rs : List Logged) → LeadsTo (find_one view contents here b.element quota) rs (Passed first) → (others : List Finding) → (IsIn one others → IsFoundAt view contents here one)
          → IsIn one (record { asked = b; value = first.0 } ∷ others) → IsFoundAt view contents here one
      which b first rs led_first others later (inl e) = subst (IsFoundAt view contents here) e (record { quota = quota; reported = fits; next = first.1; records = rs; leads = led_first })
      which b first rs led_first others later (inr j) = later j

  stored_reported : (kept : List Tree) (stored : Result (List Tree) ℕ) (records : List Logged) → AreKept contents here.path.key kept → LeadsTo (find_stored view contents here.path.key kept) records (Passed stored) → IsStored (is_all_sought view) contents here.path.key stored
  stored_reported kept stored records are led = by_sought (is_all_sought view) records led
    where
      by_sought : (b : Bool) (rs : List Logged) → LeadsTo (if b then Asks (props_call contents here.path.key) (λ outcome. Passed (returned_by outcome (Some kept))) else Passed (Ok [])) rs (Passed stored)
          → IsStored b contents here.path.key stored
      by_sought true [] end = absurd cc
      by_sought true (r ∷ rs) end = record { kept = kept; are = are; outcome = r.outcome; is = passed_is _ stored rs end.2 }
      by_sought false rs end = passed_is _ stored rs end

  reports_asked : (asked : List AskedProperty) (quota next : Option QuotaAnswer) (records : List Logged) (reported : List PropertyStatus) → Fits quota → Responds view contents asked here quota records (Some (reported, next)) → Fits next × ReportsAsked view contents asked here reported
  reports_asked asked quota next records reported fits responds =
      let p = LeadsTo-last (find_each view contents here asked quota) _ records (reported, next) responds.comes in
      let q = LeadsTo-last (find_stored view contents here.path.key responds.kept) _ p.2 (reported, next) p.4 in (
        subst Fits (sym (ap (λ (t : List PropertyStatus × Option QuotaAnswer). t.1) (passed_is _ (reported, next) q.2 q.4))) (each_fits asked quota p.1 p.0 fits p.3),
        record {
          found = p.0.0;
          stored = q.0;
          each = each_asked asked quota p.1 p.0 p.3;
          by_lookup = each_found asked quota p.1 p.0 p.3 fits;
          kept = stored_reported responds.kept q.0 q.1 responds.are q.3;
          reported = ap (λ (t : List PropertyStatus × Option QuotaAnswer). t.0) (passed_is _ (reported, next) q.2 q.4);
        },
      )

-- ---- paths

in_shown : (directory : PathValue) (listing : List Shown) (r : Resource) → IsIn r (shown_in directory listing) → (entry : DirEntry) × (record { path = path_of_entry directory entry; meta = entry.meta } ≡ r)
in_shown directory [] r i = absurd i
in_shown directory (Ok entry ∷ listing) r (inl e) = (entry, e)
in_shown directory (Ok entry ∷ listing) r (inr i) = in_shown directory listing r i
in_shown directory (Err e ∷ listing) r i = in_shown directory listing r i

module _ (contents : Contents) (formed : IsWellFormed contents) where
  directory_by : (node : Option Node) (meta : Meta) → MetaFits node (Some meta) → meta.dir ≡ is_directory_node node
  directory_by None meta fits = absurd (let no : Some meta ≡ None = fits in cc)
  directory_by (Some Directory) meta fits = fits.0
  directory_by (Some (File bytes)) meta fits = fits.0

  pub directory_of : (key : Key) (meta : Meta) → contents.metas key ≡ Some meta → meta.dir ≡ is_directory_at contents key
  directory_of key meta there = directory_by (get contents.tree key) meta (subst (MetaFits (get contents.tree key)) there (formed.metas key))

  module _ (top : PathValue) where
    key_at : (x : Key) → (path_at contents top x).key ≡ top.key ++ x
    key_at [] = sym (append-nil top.key)
    key_at (name ∷ x) = refl

    prefix_at : (x : Key) → (path_at contents top x).prefix ≡ top.prefix
    prefix_at [] = refl
    prefix_at (name ∷ x) = refl

    abbrev below_at : Key → PathValue
    below_at x = record { star = false; slash = is_directory_at contents (top.key ++ x); prefix = top.prefix; key = top.key ++ x }

    member_at : (x : Key) (name : List ℕ) → path_at contents top (x ++ name ∷ []) ≡ below_at (x ++ name ∷ [])
    member_at [] name = refl
    member_at (a ∷ x) name = refl

    entry_at : (here : PathValue) (x : Key) (entry : DirEntry) → here ≡ path_at contents top x → contents.metas (member here.key entry.name) ≡ Some entry.meta → path_of_entry here entry ≡ path_at contents top (x ++ entry.name ∷ [])
    entry_at here x entry is there =
        let k : member here.key entry.name ≡ top.key ++ (x ++ entry.name ∷ []) = ap (λ (p : PathValue). member p.key entry.name) is ∙ ap (λ j. member j entry.name) (key_at x) ∙ append_assoc top.key x (entry.name ∷ []) in
        let s : entry.meta.dir ≡ is_directory_at contents (top.key ++ (x ++ entry.name ∷ [])) = directory_of (member here.key entry.name) entry.meta there ∙ ap (is_directory_at contents) k in
        let p : here.prefix ≡ top.prefix = ap (λ (v : PathValue). v.prefix) is ∙ prefix_at x in
        let same : path_of_entry here entry ≡ below_at (x ++ entry.name ∷ []) = λ i. record { star = false; slash = s i; prefix = p i; key = k i } in
        same ∙ sym (member_at x entry.name)

    -- the resource exists, and has its own path
    record IsPlaced (r : Resource) : Type 0 where
      there : contents.metas r.path.key ≡ Some r.meta
      below : Key
      path : r.path ≡ path_at contents top below

    -- ---- the walk

    module _ (view : View) (asked : List AskedProperty) where
      placed_members : (entered : Bool) (here : Resource) (records : List Logged) (members : List Resource) → IsPlaced here → FindsMembers view contents asked entered here records members → AreThere contents members
          → (r : Resource) → IsIn r members → IsPlaced r
      placed_members true here records members placed (listing, lists, is) there r i =
          let p = in_shown here.path listing r (subst (IsIn r) is i) in
          let at : contents.metas (member here.path.key p.0.name) ≡ Some p.0.meta = subst (λ (v : Resource). contents.metas v.path.key ≡ Some v.meta) (sym p.1) (there r i) in
          record {
            there = there r i;
            below = placed.below ++ p.0.name ∷ [];
            path = ap (λ (v : Resource). v.path) (sym p.1) ∙ entry_at here.path placed.below p.0 placed.path at;
          }
      placed_members false here records members placed (none, is) there r i = absurd (subst (IsIn r) is i)

      reported_one : (shown : Bool) (here : Resource) (quota next : Option QuotaAnswer) (records : List Logged) (visits : List Visit) → IsPlaced here → IsQuotaAnswer contents quota → Shows view contents asked shown here quota records visits next → IsQuotaAnswer contents next × AreReported view contents asked top visits
      reported_one true here quota next records visits placed fits (reported, responds, is) = (both.0, λ visit i. by_place visit (subst (IsIn visit) is i))
        where
          one : Visit
          one = record { path = here.path; reported = reported }

          both : IsQuotaAnswer contents next × ReportsAsked view contents asked here reported
          both = reports_asked view contents here asked quota next records reported fits responds

          by_place : (visit : Visit) → IsIn visit (one ∷ []) → IsReported view contents asked top visit
          by_place visit (inl e) = subst (IsReported view contents asked top) e (record { below = placed.below; path = placed.path; meta = here.meta; there = placed.there; properties = both.1 })
          by_place visit (inr j) = absurd j
      reported_one false here quota next records visits placed fits (none, is, same) = (subst (IsQuotaAnswer contents) (sym same) fits, λ visit i. absurd (subst (IsIn visit) is i))

      reported_both : (reported visits : List Visit) → AreReported view contents asked top reported → AreReported view contents asked top visits → AreReported view contents asked top (reported ++ visits)
      reported_both reported visits one others visit i = which (in_either visit reported visits i)
        where
          which : IsIn visit reported ⊎ IsIn visit visits → IsReported view contents asked top visit
          which (inl j) = one visit j
          which (inr j) = others visit j

      abbrev ArePlaced : List Resource → Type 0
      ArePlaced waiting = (r : Resource) → IsIn r waiting → IsPlaced r

      placed_next : (members rest : List Resource) → ArePlaced members → ArePlaced rest → ArePlaced (members ++ rest)
      placed_next members rest one others r i = which (in_either r members rest i)
        where
          which : IsIn r members ⊎ IsIn r rest → IsPlaced r
          which (inl j) = one r j
          which (inr j) = others r j

      found_placed : (depth : Depth) (here : Resource) (quota next : Option QuotaAnswer) (records : List Logged) (visits : List Visit)
          (members : List Resource) → IsPlaced here
          → Visits view contents asked depth here quota records visits next members → ArePlaced members
      found_placed depth here quota next records visits members placed visited =
          placed_members (is_listed depth && here.meta.dir) here visited.rest members placed visited.finds (visit_step contents view asked depth here quota records visits next members visited).there

      reported_all : (depth : Depth) (waiting : List Resource) (quota : Option QuotaAnswer) (records : List Logged) (end : Option (List Visit))
          (visits : List Visit) → VisitsAll view contents asked depth waiting quota records end → end ≡ Some visits
          → ArePlaced waiting → IsQuotaAnswer contents quota → AreReported view contents asked top visits
      reported_all depth waiting quota records end visits (over none called is) whole placed fits =
          let p : Some [] ≡ Some visits = sym is ∙ whole in
          let same : visits ≡ [] = cc in
          λ v i. absurd (subst (IsIn v) same i)
      reported_all depth waiting quota records end visits (more here rest first others reported next members later waits called visited further is) whole placed fits =
          go later (λ vs e. reported_all depth (members ++ rest) next others later vs further e next_placed one.0) (sym is ∙ whole)
        where
          here_placed : ArePlaced (here ∷ rest)
          here_placed = subst ArePlaced waits placed

          one : IsQuotaAnswer contents next × AreReported view contents asked top reported
          one = reported_one (is_shown depth) here quota next visited.first reported (here_placed here (inl refl)) fits visited.shows

          next_placed : ArePlaced (members ++ rest)
          next_placed = placed_next members rest (found_placed depth here quota next first reported members (here_placed here (inl refl)) visited) (λ r i. here_placed r (inr i))

          go : (l : Option (List Visit)) → ((vs : List Visit) → l ≡ Some vs → AreReported view contents asked top vs) → option_map (λ vs. reported ++ vs) l ≡ Some visits → AreReported view contents asked top visits
          go None others p = absurd cc
          go (Some vs) others p =
              let same : reported ++ vs ≡ visits = cc in
              subst (AreReported view contents asked top) same (reported_both reported vs one.1 (others vs refl))
      reported_all depth waiting quota records end visits (stops here rest waits part is) whole placed fits = absurd (let no : None ≡ Some visits = sym is ∙ whole in cc)

      -- each resource that a PROPFIND reports is reported under its own path, with each requested property
      pub reports_each : (target : Resource) (depth : Depth) (records : List Logged) (visits : List Visit) → VisitsFrom view contents asked target depth records (Some visits) → contents.metas target.path.key ≡ Some target.meta
          → target.path ≡ record top { slash = top.slash || target.meta.dir } → AreReported view contents asked top visits
      reports_each target depth records visits (begins first others reported next members later called visited further is) there at = go later further is
        where
          same_key : target.path.key ≡ top.key
          same_key = ap (λ (p : PathValue). p.key) at

          placed : IsPlaced target
          placed = record {
            there = there;
            below = [];
            path = at ∙ (λ i. record top { slash = top.slash || (directory_of target.path.key target.meta there ∙ ap (is_directory_at contents) same_key) i });
          }

          one : IsQuotaAnswer contents next × AreReported view contents asked top reported
          one = reported_one (is_shown depth) target None next visited.first reported placed (inl refl) visited.shows

          go : (l : Option (List Visit)) → VisitsAll view contents asked (member_depth depth) members next others l
              → Some visits ≡ option_map (λ vs. reported ++ vs) l → AreReported view contents asked top visits
          go None v p = absurd cc
          go (Some vs) v p =
              let same : reported ++ vs ≡ visits = cc in
              subst (AreReported view contents asked top) same
              (reported_both reported vs one.1
              (reported_all (member_depth depth) members next others (Some vs) vs v refl (found_placed depth target None next first reported members placed visited) one.0))
      reports_each target depth records visits (breaks part is) there at = absurd (let no : Some visits ≡ None = is in cc)
