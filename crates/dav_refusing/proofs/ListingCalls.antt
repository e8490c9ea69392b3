-- Listings of a store that refuses by plan or by number.
use Rattle.std.proofs.Common.{◌≡◌, ◌≢◌, ◌∙◌, Option, Some, None, Result, Ok, Err, sym, ap, subst, ◌⊎◌, inl, inr, List, [], ◌∷◌, ◌++◌, ◌+◌, ◌-◌, map, filter_map, length, take, drop, arith}
use Rattle.std.proofs.lemmas.List.{map-append, take_all, length-drop}
use Rattle.std.specs.FinMap.{get}
use Rattle.dav_resource.specs.PathText.{PathValue}
use Rattle.dav_resource.specs.declared.meta.DirEntry.{DirEntry}
use Rattle.dav_resource.specs.declared.record.Op.TheVariants.{ReadDir, Entry}
use Rattle.dav_resource.specs.declared.record.Outcome.TheVariants.{Granted}
use Rattle.dav_resource.specs.declared.record.Record.{Record}
use Rattle.dav_resource.specs.declared.error.FsError.{FsError}
use Rattle.dav_resource.specs.declared.error.FsError.TheVariants.{Memory}
use Rattle.dav_store.specs.Logged.{logged, logged_of}
use Rattle.dav_store.specs.Store.{Store}
use Rattle.dav_store.specs.Members.{Child, AreChildren, Lists, ReadsDir, read_dir_bar, unseen_record}
use Rattle.dav_store.specs.Logged.{record_on}
use Rattle.dav_wrapping.specs.Wrapping.{with_leave}
use Rattle.dav_wrapping.specs.Hiding.{shown_by, hidden_by, IsListingOf}
use Rattle.dav_wrapping.specs.HidingLaws.{names-shown, still_shown, named, recorded-keys, hidden_are}
use Rattle.dav_wrapping.specs.Declining.{Listing, Declining, declining_call, declined}
use Rattle.dav_refusing.specs.Plans.{Call, why_by, left_by, without_firsts, IsLetBy}
use Rattle.dav_refusing.specs.Pending.{Pending, due, passed_by}
use Rattle.dav_refusing.specs.Refusing.{all_allowed, inner_of, pending_of, plan_of, records_of, seen_behind, IsWhollyKept, Passes, GoesByPlan, Follows, PassesListing, PassesReadDir, HasListed, KeepsReading, FollowsReading}
use Rattle.dav_refusing.specs.declared.refusing.Refusing.{Refusing}
use Rattle.dav_refusing.proofs.Queues.{own_planned}
use Rattle.dav_refusing.proofs.Refusals.{seen_kept, lawful}

module _ {F : Type 0} (see : F → Store) (path : PathValue) where
  abbrev pub HadMemory : Result Listing FsError → Type 0
  HadMemory answer = answer ≢ Err Memory

  pub as_listing : (old new : Refusing F) (e : FsError) → Follows see ReadDir (path ∷ []) (Declining path.key) old (Err e) new → FollowsReading see path old (Err e) new
  as_listing old new e (inl h) = inl (h.0, record { inner = inl h.1.inner; pending = h.1.pending; records = h.1.records })
  as_listing old new e (inr h) = inr (h.0, by_due (due ReadDir path.key (pending_of old)) h.1)
    where
      by_due : (r : Option FsError) → GoesByPlan ReadDir (path ∷ []) (Passes see ReadDir (path ∷ []) (Declining path.key)) r old (Err e) new → GoesByPlan ReadDir (path ∷ []) (PassesReadDir see path) r old (Err e) new
      by_due (Some e') h = h
      by_due None h = record { behind = declined path.key _ _ e h.behind; left = h.left; outcome = h.outcome; statuses = h.statuses; recorded = h.recorded; records = h.records }

  as_call : (old new : Refusing F) (e : FsError) → HadMemory (Err e) → GoesByPlan ReadDir (path ∷ []) (PassesReadDir see path) (due ReadDir path.key (pending_of old)) old (Err e) new → Follows see ReadDir (path ∷ []) (Declining path.key) old (Err e) new
  as_call old new e not_memory goes = inr (not_memory, by_due (due ReadDir path.key (pending_of old)) goes)
    where
      by_due : (r : Option FsError) → GoesByPlan ReadDir (path ∷ []) (PassesReadDir see path) r old (Err e) new → GoesByPlan ReadDir (path ∷ []) (Passes see ReadDir (path ∷ []) (Declining path.key)) r old (Err e) new
      by_due (Some e') h = h
      by_due None h = record { behind = record { granted = tt; declined = h.behind.declined }; left = h.left; outcome = h.outcome; statuses = h.statuses; recorded = h.recorded; records = h.records }

  -- ---- a listing without memory

  reading_kept : (old new : Refusing F) → KeepsReading see path old new → seen_behind see new ≡ seen_behind see old
  reading_kept old new kept = by_inner kept.inner
    where
      by_inner : (see (inner_of new) ≡ see (inner_of old)) ⊎ HasListed see path old new → seen_behind see new ≡ seen_behind see old
      by_inner (inl same) = seen_kept see old new same kept.records
      by_inner (inr h) = λ i. record { contents = h.behind.same i; facts = with_leave all_allowed (h.behind.fixed i); log = map logged_of (kept.records i) }

  -- ---- a listing that is granted

  pub lists : (old begun ended : Refusing F) (called : F) (call : Record) (listed shown : List (Result DirEntry FsError)) (before after hidden unseen : List Record) (refused : List Call)
      → call ≡ record_on ReadDir (path ∷ []) Granted → IsWhollyKept old begun → Lists path.key (see (inner_of begun)) listed (see called)
      → map logged_of before ≡ (see (inner_of begun)).log → map logged_of after ≡ (see called).log → hidden ≡ take (length after - (length before + 1)) (drop (length before + 1) after)
      → ((children : List Child) → IsListingOf path.key children listed hidden → IsLetBy (plan_of begun) path children hidden shown unseen refused)
      → inner_of ended ≡ called → pending_of ended ≡ record (passed_by (pending_of begun)) { plan = without_firsts refused (plan_of begun) } → records_of ended ≡ records_of begun ++ call ∷ unseen
      → PassesListing see path old shown ended
  lists old begun ended called call listed shown before after hidden unseen refused call_is kept g b a hidden_is lets inner pending records =
      let was : see (inner_of begun) ≡ see (inner_of old) = ap see kept.inner in
      let is : see called ≡ see (inner_of ended) = ap see (sym inner) in
      let hide : map logged_of hidden ≡ filter_map (unseen_record path.key) g.children = hidden_are before after hidden (see (inner_of begun)).log (see called).log (logged ReadDir (path.key ∷ []) Granted) (filter_map (unseen_record path.key) g.children) b a g.recorded (hidden_is ∙ take_all (length after - (length before + 1)) (drop (length before + 1) after) (omega (arith, length-drop (length before + 1) after))) in
      let let_by = lets g.children (record { named = λ c within. named (see (inner_of begun)).facts.shows (see (inner_of begun)).contents path.key c (g.are.shown c within); listed = g.listed; recorded = hide }) in
      record {
        listed = listed;
        behind = record {
          allowed = subst (λ (s : Store). read_dir_bar (get s.contents.tree path.key) ≡ None) was g.allowed;
          children = g.children;
          are = subst (λ (s : Store). AreChildren s.facts.shows s.contents path.key g.children) was g.are;
          listed = g.listed;
          same = ap (λ (s : Store). s.contents) (sym is) ∙ g.same ∙ ap (λ (s : Store). s.contents) was;
          recorded = ap (λ (s : Store). s.log) (sym is) ∙ g.recorded ∙ ap (λ (s : Store). s.log ++ logged ReadDir (path.key ∷ []) Granted ∷ filter_map (unseen_record path.key) g.children) was;
          fixed = ap (λ (s : Store). s.facts) (sym is) ∙ g.fixed ∙ ap (λ (s : Store). s.facts) was;
        };
        shown = let_by.shown ∙ ap (λ (p : Pending). map (λ c. c.1) (shown_by (why_by p.plan) path.key g.children)) kept.pending;
        left = pending ∙ (λ i. record (passed_by (pending_of begun)) { plan = without_firsts (let_by.refused_are i) (plan_of begun) }) ∙ ap (λ (p : Pending). record (passed_by p) { plan = left_by p.plan path.key g.children }) kept.pending;
        hidden = hidden;
        recorded = hide;
        records = records ∙ (λ i. kept.records i ++ call_is i ∷ let_by.recorded i) ∙ ap (λ (p : Pending). records_of old ++ record_on ReadDir (path ∷ []) Granted ∷ hidden_by (why_by p.plan) path g.children hidden) kept.pending;
      }

  pub lawful_listing : (old new : Refusing F) (shown : List (Result DirEntry FsError)) → PassesListing see path old shown new → Lists path.key (seen_behind see old) shown (seen_behind see new)
  lawful_listing old new shown h = record {
    allowed = h.behind.allowed;
    children = shown_by (why_by (plan_of old)) path.key h.behind.children;
    are = record {
      each_once = rw (names-shown (why_by (plan_of old)) path.key h.behind.children) h.behind.are.each_once;
      shown = still_shown (see (inner_of old)).facts.shows (see (inner_of old)).facts.shows (see (inner_of old)).contents path.key (why_by (plan_of old)) h.behind.children (λ key e found. own_planned old.pending.plan.queues Entry key e found) (λ key free shows. shows) h.behind.are.shown;
    };
    listed = h.shown;
    same = h.behind.same;
    recorded = ap (map logged_of) h.records ∙ map-append logged_of (records_of old) (record_on ReadDir (path ∷ []) Granted ∷ hidden_by (why_by (plan_of old)) path h.behind.children h.hidden)
        ∙ ap (λ l. map logged_of (records_of old) ++ logged ReadDir (path.key ∷ []) Granted ∷ l) (recorded-keys (why_by (plan_of old)) path h.behind.children h.hidden h.recorded);
    fixed = ap (with_leave all_allowed) h.behind.fixed;
  }

  pub follows_listing : (old new : Refusing F) (listing : Listing) (shown : List (Result DirEntry FsError)) → due ReadDir path.key (pending_of old) ≡ None → listing.items ≡ shown → PassesListing see path old shown new
      → FollowsReading see path old (Ok listing) new
  follows_listing old new listing shown free is h =
      inr ((λ e. absurd cc), subst (λ r. GoesByPlan ReadDir (path ∷ []) (PassesReadDir see path) r old (Ok listing) new) (sym free) (subst (λ l. PassesListing see path old l new) (sym is) h))

  -- ---- and that is lawful

  pub lawful_reading : (old new : Refusing F) (answer : Result Listing FsError) → FollowsReading see path old answer new → ReadsDir (seen_behind see old) path.key answer (seen_behind see new)
  lawful_reading old new (Err e) (inl h) = record { granted = tt; declined = inl ((let same : e ≡ Memory = (let both = h.0 in cc) in same), reading_kept old new h.1) }
  lawful_reading old new (Err e) (inr h) =
      declined path.key (seen_behind see old) (seen_behind see new) e
      (lawful see ReadDir (path ∷ []) (declining_call path.key) old new (Err e) (as_call old new e h.0 h.1))
  lawful_reading old new (Ok listing) (inl h) = absurd (let no : Ok listing ≡ Err Memory = h.0 in cc)
  lawful_reading old new (Ok listing) (inr h) = by_due (due ReadDir path.key (pending_of old)) h.1
    where
      by_due : (r : Option FsError) → GoesByPlan ReadDir (path ∷ []) (PassesReadDir see path) r old (Ok listing) new → ReadsDir (seen_behind see old) path.key (Ok listing) (seen_behind see new)
      by_due (Some e) g = absurd (let no : Ok listing ≡ Err e = g.0 in cc)
      by_due None g = record { granted = lawful_listing old new listing.items g; declined = tt }
