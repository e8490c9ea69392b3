-- What COPY and MOVE share: their rules, and the removal at the destination.
use Rattle.std.proofs.Common.{◌≡◌, ◌∙◌, ℕ, Bool, true, if◌then◌else◌, List, [], ◌++◌, Option, Some, Result, Ok, Err, inl, inr, refl, sym, ap, subst}
use Rattle.std.specs.Result.{IsErrAnd}
use Rattle.std.proofs.lemmas.Result.{err_from_is_err_and}
use Rattle.dav_resource.specs.Gives.{GivesBy}
use Rattle.dav_key.specs.Key.{Key}
use Rattle.dav_resource.specs.PathText.{PathValue}
use Rattle.dav_resource.specs.declared.error.DavError.{DavError}
use Rattle.dav_resource.specs.declared.error.DavError.TheVariants.{Memory, Status}
use Rattle.dav_resource.specs.declared.meta.Meta.{Meta}
use Rattle.dav_resource.specs.declared.request.DavRequest.{DavRequest}
use Rattle.dav_resource.specs.declared.request.Depth.TheVariants.{Infinity}
use Rattle.dav_store.specs.Logged.{Logged}
use Rattle.dav_store.specs.Store.{Store, Contents}
use Rattle.dav_messages.specs.Conditions.{submitted_tokens}
use Rattle.dav_messages.specs.Dialogue.{Dialogue, Judges, Reaches, ◌>>=◌}
use Rattle.dav_messages.specs.Dialogues.{judges_exit, judges_left, judges_pure, judges_if, reaches_none, reaches_then}
use Rattle.dav_messages.specs.Multistatus.{Item}
use Rattle.dav_walks.specs.Deletion.{Removes, Removal, RemovesOrStops}
use Rattle.dav_engine.specs.State.{State, Seen, state_of, facts_of, DropsSeen}
use Rattle.dav_engine.specs.Settings.{Settings}
use Rattle.dav_engine.specs.Rules.{judged, must_find, own_conditions, where_permitted}
use Rattle.dav_engine.specs.Transferring.{asked_destination, look_up_destination, see_destination, place_verdict, permits_transfer, transfer_rules, Clears, ClearsInPart, NamesBy, Names}
use Rattle.dav_engine.specs.declared.transfer.Transfer.{Transfer}
use Rattle.dav_engine.proofs.Deleting.{judges_known, none_named, some_named, same_facts, same_locks, drops, named_locks}
use Rattle.dav_engine.proofs.Running.{same_system}

-- ---- the rules

-- what is given ends it, unless memory ran out
pub judges_giving : {A : Type 0} (expected : Result A DavError) (store : Store) (e : DavError) → GivesBy (λ x. x) (Err e) expected → Judges (judged expected) store (Err e) store
judges_giving expected store e (inl given) = judges_known expected (Err e) store given
judges_giving expected store e (inr memory) = rw memory (judges_pure (judged expected) store (Err Memory) (inr (refl, (judged expected, refl))))

-- what is seen in the same contents
pub same_seeing : (contents now : Contents) (key : Key) (mid new : Store) (verdict : Result (Option Meta) DavError) → now ≡ contents → Judges (see_destination now key) mid verdict new → Judges (see_destination contents key) mid verdict new
same_seeing contents now key mid new verdict same h = subst (λ c. Judges (see_destination c key) mid verdict new) same h

pub same_destination : (contents now : Contents) (key : Key) (mid new : Store) (verdict : Result (Option Meta) DavError) → now ≡ contents → Judges (look_up_destination now key) mid verdict new → Judges (look_up_destination contents key) mid verdict new
same_destination contents now key mid new verdict same h = subst (λ c. Judges (look_up_destination c key) mid verdict new) same h

-- the rules so far, and a part that ends them
pub reached_exit : {A B : Type 0} (rules : Dialogue B) (next : Dialogue A) (after : A → Dialogue B) (old mid new : Store) (e : DavError) (verdict : Result B DavError)
    → Reaches rules old (next >>= after) mid → IsErrAnd verdict (λ d. d ≡ e) → Judges next mid (Err e) new → Judges rules old verdict new
reached_exit rules next after old mid new e verdict reached exit h = judges_left rules (next >>= after) old mid new verdict reached (judges_exit after next mid new e verdict exit h)

module _ (moving : Bool) (settings : Settings) (request : DavRequest) (state : State) where
  abbrev rules : Dialogue Transfer
  rules = transfer_rules moving settings request state

  abbrev at_locks : Transfer → Dialogue Transfer
  at_locks found = where_permitted 423 (permits_transfer moving state.locks request (submitted_tokens request) found.destination.key) found

  abbrev at_conditions : PathValue → Meta → Option Meta → Dialogue Transfer
  at_conditions destination meta there = own_conditions request state (Some meta) >>= λ tokens. at_locks (record { meta = meta; destination = destination; there = there })

  abbrev at_place : PathValue → Meta → Option Meta → Dialogue Transfer
  at_place destination meta there = judged (place_verdict moving request destination.key there) >>= λ _. at_conditions destination meta there

  abbrev at_destination : PathValue → Meta → Dialogue Transfer
  at_destination destination meta = see_destination state.contents destination.key >>= at_place destination meta

  abbrev at_source : PathValue → Dialogue Transfer
  at_source destination = must_find state.contents request.path.key >>= at_destination destination

  -- the destination can't be read
  pub transfer_unasked : (old : Store) (e : DavError) (verdict : Result Transfer DavError) → IsErrAnd verdict (λ d. d ≡ e) → GivesBy (λ path. path) (Err e) (asked_destination moving settings request) → Judges rules old verdict old
  transfer_unasked old e verdict exit given = judges_exit at_source (judged (asked_destination moving settings request)) old old e verdict exit (judges_giving (asked_destination moving settings request) old e given)

  module _ (old : Store) (destination : PathValue) (asked : asked_destination moving settings request ≡ Ok destination) where
    to_source : Reaches rules old (at_source destination) old
    to_source = reaches_then rules (judged (asked_destination moving settings request)) at_source old old old destination (reaches_none rules old) (judges_known (asked_destination moving settings request) (Ok destination) old asked)

    -- the source isn't found
    pub transfer_unfound : (new : Store) (e : DavError) (verdict : Result Transfer DavError) → IsErrAnd verdict (λ d. d ≡ e) → Judges (must_find state.contents request.path.key) old (Err e) new → Judges rules old verdict new
    transfer_unfound new e verdict exit h = reached_exit rules (must_find state.contents request.path.key) (at_destination destination) old old new e verdict to_source exit h

    module _ (meta : Meta) (found : Store) (finds : Judges (must_find state.contents request.path.key) old (Ok meta) found) where
      to_destination : Reaches rules old (at_destination destination meta) found
      to_destination = reaches_then rules (must_find state.contents request.path.key) (at_destination destination) old old found meta to_source finds

      -- the destination isn't seen
      pub transfer_unseen : (new : Store) (e : DavError) (verdict : Result Transfer DavError) → IsErrAnd verdict (λ d. d ≡ e) → Judges (see_destination state.contents destination.key) found (Err e) new → Judges rules old verdict new
      transfer_unseen new e verdict exit h = reached_exit rules (see_destination state.contents destination.key) (at_place destination meta) old found new e verdict to_destination exit h

      module _ (there : Option Meta) (looked : Store) (sees : Judges (see_destination state.contents destination.key) found (Ok there) looked) where
        to_place : Reaches rules old (at_place destination meta there) looked
        to_place = reaches_then rules (see_destination state.contents destination.key) (at_place destination meta) old found looked there to_destination sees

        -- the destination is no place for it
        pub transfer_misplaced : (e : DavError) (verdict : Result Transfer DavError) → IsErrAnd verdict (λ d. d ≡ e) → place_verdict moving request destination.key there ≡ Err e → Judges rules old verdict looked
        transfer_misplaced e verdict exit placed =
            reached_exit rules (judged (place_verdict moving request destination.key there)) (λ _. at_conditions destination meta there) old looked looked e verdict to_place exit
            (judges_known (place_verdict moving request destination.key there) (Err e) looked placed)

        module _ (placed : place_verdict moving request destination.key there ≡ Ok tt) where
          to_conditions : Reaches rules old (at_conditions destination meta there) looked
          to_conditions =
              reaches_then rules (judged (place_verdict moving request destination.key there)) (λ _. at_conditions destination meta there) old looked looked tt to_place
              (judges_known (place_verdict moving request destination.key there) (Ok tt) looked placed)

          -- a condition refuses it
          pub transfer_unheld : (new : Store) (e : DavError) (verdict : Result Transfer DavError) → IsErrAnd verdict (λ d. d ≡ e) → Judges (own_conditions request state (Some meta)) looked (Err e) new → Judges rules old verdict new
          transfer_unheld new e verdict exit h =
              reached_exit rules (own_conditions request state (Some meta)) (λ tokens. at_locks (record { meta = meta; destination = destination; there = there })) old looked new e verdict to_conditions exit h

          -- the conditions hold, and the locks decide
          pub transfer_held : (tokens : List (List ℕ)) (held : Store) (verdict : Result Transfer DavError) → Judges (own_conditions request state (Some meta)) looked (Ok tokens) held
              → verdict ≡ (if permits_transfer moving state.locks request (submitted_tokens request) destination.key then Ok (record { meta = meta; destination = destination; there = there }) else Err (Status 423))
              → Judges rules old verdict held
          transfer_held tokens held verdict h permitted =
              let found : Transfer = record { meta = meta; destination = destination; there = there } in
              judges_left rules (at_locks found) old held held verdict
              (reaches_then rules (own_conditions request state (Some meta)) (λ tokens. at_locks found) old looked held tokens to_conditions h)
              (judges_if (permits_transfer moving state.locks request (submitted_tokens request) destination.key) found (Status 423) held verdict permitted)

-- ---- the removal at the destination

-- the same answer at the exit of a `?`
pub names_exit : {Done : State → List Logged → List Item → State → Type 0} {Cut : State → List Logged → State → Type 0} (old new : Seen) (had has : List Item) (e : DavError) (result : Result (Unit {0}) DavError)
    → IsErrAnd result (λ d. d ≡ e) → Names Done Cut old had has (Err e) new → Names Done Cut old had has result new
names_exit {Done} {Cut} old new had has e result exit h =
    let p = err_from_is_err_and result exit in
    subst (λ r. Names Done Cut old had has r new) (sym (p.1 ∙ ap Err p.2)) h

module _ (destination : PathValue) (old mid : Seen) (had has : List Item) where
  abbrev Cleared : Seen → Result (Unit {0}) DavError → Type 0
  Cleared seen answer = Names (Clears destination) (ClearsInPart true destination) old had has answer seen

  -- something was named, or memory ran out
  pub clears_named : (e : DavError) → Removal Infinity destination old.store mid.store had has (Err e) → mid.locks ≡ old.locks → Cleared mid (Err e)
  clears_named e h locks = record {
    records = h.records;
    recorded = h.recorded;
    fixed = same_facts old mid h.fixed locks;
    done = by_end h.done;
  }
    where
      by_end : RemovesOrStops Infinity destination old.store.contents mid.store.contents h.records had has (Err e) → NamesBy (Clears destination) (ClearsInPart true destination) (state_of old) h.records had has (Err e) (state_of mid)
      by_end (inl whole) = inl (
        whole.0,
        whole.1,
        record {
          removed = whole.2;
          locks = named_locks whole.0 destination _ _ (some_named e whole.0 whole.3) (same_locks old mid locks);
          system = same_system old mid (same_facts old mid h.fixed locks);
        },
        whole.3,
      )
      by_end (inr part) = inr (part.0, (part.1.part, same_locks old mid locks))

  -- nothing was named, and the locks there are dropped
  pub clears_all : (new : Seen) → Removal Infinity destination old.store mid.store had has (Ok tt) → mid.locks ≡ old.locks → DropsSeen destination.key mid new → Cleared new (Ok tt)
  clears_all new h locks dropped = record {
    records = h.records;
    recorded = ap (λ (s : Store). s.log) dropped.store ∙ h.recorded;
    fixed = fixed_so;
    done = by_end h.done;
  }
    where
      fixed_so : facts_of new ≡ facts_of old
      fixed_so = dropped.fixed ∙ same_facts old mid h.fixed locks

      by_end : RemovesOrStops Infinity destination old.store.contents mid.store.contents h.records had has (Ok tt) → NamesBy (Clears destination) (ClearsInPart true destination) (state_of old) h.records had has (Ok tt) (state_of new)
      by_end (inl whole) =
          let none = none_named whole.0 whole.3 in
          inl (
            [],
            whole.1 ∙ ap (λ names. had ++ names) none,
            record {
              removed = subst (λ (s : Store). Removes Infinity destination old.store.contents s.contents h.records []) (sym dropped.store) (subst (λ names. Removes Infinity destination old.store.contents mid.store.contents h.records names) none whole.2);
              locks = drops destination.key old mid new locks dropped.dropped;
              system = same_system old new fixed_so;
            },
            refl,
          )
      by_end (inr part) = absurd cc
