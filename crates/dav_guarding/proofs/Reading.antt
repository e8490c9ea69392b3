-- Listings of a store that a policy guards.
use Rattle.std.proofs.Common.{◌≡◌, ◌∙◌, Option, Some, None, Result, Ok, Err, refl, sym, ap, subst, ◌⊎◌, inl, inr, List, [], ◌∷◌, ◌++◌, ◌+◌, ◌-◌, Bool, true, false, map, filter_map, length, take, drop, arith}
use Rattle.std.specs.Prelude.{not, if◌then◌else◌}
use Rattle.std.proofs.lemmas.List.{map-append, take_all, length-drop}
use Rattle.dav_key.specs.Key.{Key}
use Rattle.dav_resource.specs.PathText.{PathValue}
use Rattle.dav_resource.specs.declared.meta.DirEntry.{DirEntry}
use Rattle.dav_resource.specs.declared.record.Op.TheVariants.{ReadDir, Entry}
use Rattle.dav_resource.specs.declared.record.Outcome.TheVariants.{Granted}
use Rattle.dav_resource.specs.declared.record.Record.{Record}
use Rattle.dav_resource.specs.declared.error.FsError.{FsError}
use Rattle.dav_resource.specs.declared.error.FsError.TheVariants.{Memory, Forbidden}
use Rattle.dav_store.specs.Logged.{Logged, logged, logged_of, record_on}
use Rattle.dav_store.specs.Store.{Store}
use Rattle.dav_store.specs.Calls.{IsOwn}
use Rattle.dav_store.specs.Members.{Child, IsIn, Lists, ReadsDir, unseen_record}
use Rattle.dav_wrapping.specs.Wrapping.{with_leave}
use Rattle.dav_wrapping.specs.Hiding.{shown_by, hidden_by, IsListingOf}
use Rattle.dav_wrapping.specs.HidingLaws.{names-shown, still_shown, named, recorded-keys, hidden_are}
use Rattle.dav_wrapping.specs.Underway.{IsHidden}
use Rattle.dav_wrapping.specs.Declining.{Listing, Declining, declining_call, declined}
use Rattle.dav_guarding.specs.declared.policy.Policy.{Ghosts}
use Rattle.dav_guarding.specs.Policy.{Refusals, leave_by, why_by, Reveals, AreAllowed}
use Rattle.dav_guarding.specs.declared.guard.Guard.{Guard}
use Rattle.dav_guarding.specs.Guard as guards
use Rattle.dav_guarding.specs.Guard.{policy_in, records_in, IsKept}
use Rattle.dav_guarding.specs.declared.guarding.Guarding.{Guarding}
use Rattle.dav_guarding.specs.Guarding.{inner_of, refusals_of, records_of, seen_behind, Guards, PassesListing, HasListed, KeepsReading, GuardsReading}
use Rattle.dav_guarding.proofs.Guards.{own_forbidden, seen_kept, lawful}

-- ---- what the policy hides

own_why : (refuses : Refusals) (key : Key) (e : FsError) → why_by refuses key ≡ Some e → IsOwn e
own_why refuses key e is = by_test (refuses Entry (key ∷ [])) is
  where
    by_test : (b : Bool) → (if b then Some Forbidden else None) ≡ Some e → IsOwn e
    by_test true is = let same : Forbidden ≡ e = cc in subst IsOwn same own_forbidden
    by_test false is = absurd cc

free_why : (refuses : Refusals) (key : Key) → why_by refuses key ≡ None → not (refuses Entry (key ∷ [])) ≡ true
free_why refuses key is = by_test (refuses Entry (key ∷ [])) is
  where
    by_test : (b : Bool) → ◌≡◌ {A = Option FsError} (if b then Some Forbidden else None) None → not b ≡ true
    by_test true is = absurd cc
    by_test false is = refl

-- no record of a member that is not listed reveals something
pub unseen_allowed : (refuses : Refusals) (directory : Key) (children : List Child) (records : List Record) → map logged_of records ≡ filter_map (unseen_record directory) children → AreAllowed refuses records
unseen_allowed refuses directory children records are call within reveals = absurd (none children (subst (IsIn call) are within))
  where
    none : (children : List Child) → IsIn call (filter_map (unseen_record directory) children) → ⊥
    none [] within = within
    none ((name, Ok entry) ∷ children) within = none children within
    none ((name, Err e) ∷ children) (inl is) = subst (λ (l : Logged). Reveals l.outcome) (sym is) reveals
    none ((name, Err e) ∷ children) (inr within) = none children within

module _ {F P : Type 0} {g : Ghosts P} (see : F → Store) (path : PathValue) where
  pub as_listing : (old new : Guarding F P g) (e : FsError) → Guards see ReadDir (path ∷ []) (Declining path.key) old (Err e) new → GuardsReading see path old (Err e) new
  as_listing old new e (inl h) = inl (h.0, record { inner = inl h.1.inner; policy = h.1.policy; records = h.1.records })
  as_listing old new e (inr (inl h)) = inr (inl h)
  as_listing old new e (inr (inr h)) = inr (inr (h.0, record { free = h.1.free; behind = declined path.key _ _ e h.1.behind; policy = h.1.policy; outcome = h.1.outcome; statuses = h.1.statuses; recorded = h.1.recorded; records = h.1.records }))

  -- ---- a listing without memory

  reading_kept : (old new : Guarding F P g) → KeepsReading see path old new → seen_behind see new ≡ seen_behind see old
  reading_kept old new kept = by_inner kept.inner
    where
      by_inner : (see (inner_of new) ≡ see (inner_of old)) ⊎ HasListed see path old new → seen_behind see new ≡ seen_behind see old
      by_inner (inl same) = seen_kept see old new same kept.policy kept.records
      by_inner (inr h) = λ i. record { contents = h.behind.same i; facts = with_leave (leave_by (g.refusals (kept.policy i))) (h.behind.fixed i); log = map logged_of (kept.records i) }

  -- ---- a listing that is granted

  module _ (old : Guarding F P g) (begun : Guard P g) (called : F) (listed shown : List (Result DirEntry FsError)) (before after hidden unseen : List Record) (kept : IsKept old.guard begun) (granted : Lists path.key (see (inner_of old)) listed (see called))
      (b : map logged_of before ≡ (see (inner_of old)).log) (a : map logged_of after ≡ (see called).log) (hidden_is : hidden ≡ take (length after - (length before + 1)) (drop (length before + 1) after))
      (hides : (children : List Child) → IsListingOf path.key children listed hidden → IsHidden (why_by (g.refusals (policy_in begun))) path children hidden shown unseen) where
    hide : map logged_of hidden ≡ filter_map (unseen_record path.key) granted.children
    hide = hidden_are before after hidden (see (inner_of old)).log (see called).log (logged ReadDir (path.key ∷ []) Granted) (filter_map (unseen_record path.key) granted.children) b a granted.recorded
        (hidden_is ∙ take_all (length after - (length before + 1)) (drop (length before + 1) after) (omega (arith, length-drop (length before + 1) after)))

    is_hidden : IsHidden (why_by (g.refusals (policy_in begun))) path granted.children hidden shown unseen
    is_hidden = hides granted.children (record { named = λ c within. named (see (inner_of old)).facts.shows (see (inner_of old)).contents path.key c (granted.are.shown c within); listed = granted.listed; recorded = hide })

    -- the records of the members that are not listed are allowed
    pub others_allowed : AreAllowed (g.refusals (policy_in begun)) unseen
    others_allowed =
        unseen_allowed (g.refusals (policy_in begun)) path.key (shown_by (why_by (g.refusals (policy_in begun))) path.key granted.children) unseen
        (ap (map logged_of) is_hidden.recorded ∙ recorded-keys (why_by (g.refusals (policy_in begun))) path granted.children hidden hide)

    pub lists : (ended : Guard P g) (call : Record) → call ≡ record_on ReadDir (path ∷ []) Granted → guards.is_refused old.guard ReadDir (path ∷ []) ≡ false → policy_in ended ≡ policy_in begun → records_in ended ≡ records_in begun ++ call ∷ unseen
        → PassesListing see path old shown (record { inner = called; guard = ended })
    lists ended call call_is free policy records = record {
      free = free;
      listed = listed;
      behind = granted;
      policy = policy ∙ kept.policy;
      shown = is_hidden.shown ∙ ap (λ p. map (λ c. c.1) (shown_by (why_by (g.refusals p)) path.key granted.children)) kept.policy;
      hidden = hidden;
      recorded = hide;
      records = records ∙ (λ i. kept.records i ++ call_is i ∷ is_hidden.recorded i) ∙ ap (λ p. records_of old ++ record_on ReadDir (path ∷ []) Granted ∷ hidden_by (why_by (g.refusals p)) path granted.children hidden) kept.policy;
    }

  lawful_listing : (old new : Guarding F P g) (shown : List (Result DirEntry FsError)) → PassesListing see path old shown new → Lists path.key (seen_behind see old) shown (seen_behind see new)
  lawful_listing old new shown h = record {
    allowed = h.behind.allowed;
    children = shown_by (why_by (refusals_of old)) path.key h.behind.children;
    are = record {
      each_once = rw (names-shown (why_by (refusals_of old)) path.key h.behind.children) h.behind.are.each_once;
      shown = still_shown (see (inner_of old)).facts.shows (λ key. not (refusals_of old Entry (key ∷ []))) (see (inner_of old)).contents path.key (why_by (refusals_of old)) h.behind.children
          (own_why (refusals_of old)) (λ key free shows. free_why (refusals_of old) key free) h.behind.are.shown;
    };
    listed = h.shown;
    same = h.behind.same;
    recorded = ap (map logged_of) h.records ∙ map-append logged_of (records_of old) (record_on ReadDir (path ∷ []) Granted ∷ hidden_by (why_by (refusals_of old)) path h.behind.children h.hidden)
        ∙ ap (λ l. map logged_of (records_of old) ++ logged ReadDir (path.key ∷ []) Granted ∷ l) (recorded-keys (why_by (refusals_of old)) path h.behind.children h.hidden h.recorded);
    fixed = λ i. with_leave (leave_by (g.refusals (h.policy i))) (h.behind.fixed i);
  }

  pub guards_listing : (old new : Guarding F P g) (listing : Listing) (shown : List (Result DirEntry FsError)) → listing.items ≡ shown → PassesListing see path old shown new → GuardsReading see path old (Ok listing) new
  guards_listing old new listing shown is h = inr (inr (λ e. absurd cc, subst (λ l. PassesListing see path old l new) (sym is) h))

  pub lawful_reading : (old new : Guarding F P g) (answer : Result Listing FsError) → GuardsReading see path old answer new → ReadsDir (seen_behind see old) path.key answer (seen_behind see new)
  lawful_reading old new (Err e) (inl h) = record { granted = tt; declined = inl ((let same : e ≡ Memory = (let both = h.0 in cc) in same), reading_kept old new h.1) }
  lawful_reading old new (Err e) (inr (inl h)) = declined path.key (seen_behind see old) (seen_behind see new) e (lawful see ReadDir (path ∷ []) (declining_call path.key) old new (Err e) (inr (inl h)))
  lawful_reading old new (Err e) (inr (inr h)) =
      declined path.key (seen_behind see old) (seen_behind see new) e
      (lawful see ReadDir (path ∷ []) (declining_call path.key) old new (Err e)
      (inr (inr (h.0, record { free = h.1.free; behind = record { granted = tt; declined = h.1.behind.declined }; policy = h.1.policy; outcome = h.1.outcome; statuses = h.1.statuses; recorded = h.1.recorded; records = h.1.records }))))
  lawful_reading old new (Ok listing) (inl h) = absurd (let no : Ok listing ≡ Err Memory = h.0 in cc)
  lawful_reading old new (Ok listing) (inr (inl h)) = absurd (let no : Ok listing ≡ Err Forbidden = h.0 in cc)
  lawful_reading old new (Ok listing) (inr (inr h)) = record { granted = lawful_listing old new listing.items h.1; declined = tt }
