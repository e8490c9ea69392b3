-- What follows for its caller from each step of a MOVE.
use Rattle.std.proofs.Common.{◌≡◌, ◌≢◌, ◌⊎◌, ◌∙◌, ◌&&◌, ◌||◌, ℕ, Bool, true, false, List, [], ◌∷◌, ◌++◌, Option, Some, is_some, Result, Ok, Err, inl, inr, refl, sym, ap, subst, nat_eq, bytes_eq, if◌then◌else◌, arith}
use Rattle.std.proofs.lemmas.Slice.Eq.{bytes_eq-Decides}
use Rattle.dav_resource.specs.Errors.{fs_status}
use Rattle.dav_key.specs.Key.{Key, parent, is_same_key, same_key_decides}
use Rattle.dav_resource.specs.PathText.{PathValue}
use Rattle.dav_resource.specs.declared.profile.Profile.{Profile}
use Rattle.dav_resource.specs.declared.error.DavError.{DavError}
use Rattle.dav_resource.specs.declared.error.DavError.TheVariants.{Memory}
use Rattle.dav_resource.specs.declared.error.FsError.{FsError}
use Rattle.dav_resource.specs.declared.meta.Meta.{Meta}
use Rattle.dav_resource.specs.declared.record.Outcome.{Outcome}
use Rattle.dav_resource.specs.declared.record.Outcome.TheVariants.{Granted, Barred, Refused}
use Rattle.dav_resource.specs.declared.request.DavRequest.{DavRequest}
use Rattle.dav_headers.specs.Destination.{destination_of}
use Rattle.dav_key.specs.Below.{is_at_or_below, AreApart}
use Rattle.dav_store.specs.BelowLaws.{at_or_below-tail}
use Rattle.dav_store.specs.Calls.{error_of, limit_of}
use Rattle.dav_store.specs.Locks.{Reliable}
use Rattle.dav_store.specs.Logged.{Logged}
use Rattle.dav_store.specs.Members.{IsIn}
use Rattle.dav_store.specs.Store.{IsWellFormed}
use Rattle.dav_store.specs.Transfers.{IsRenamedTo}
use Rattle.dav_messages.specs.Conditions.{conditions, submitted_tokens}
use Rattle.dav_messages.specs.Dialogue.{look_up}
use Rattle.dav_messages.specs.Multistatus.{Item, multi_answer, multistatus_reply}
use Rattle.dav_messages.specs.Reply.{Answer, bare_reply}
use Rattle.dav_walks.specs.KeyCall.{standing}
use Rattle.dav_engine.specs.State.{State, DropsLocks, HasSameSystem, IsLawfulState}
use Rattle.dav_engine.specs.Settings.{Settings}
use Rattle.dav_engine.specs.Rules.{judged, lookup_result, must_find, look_up_result, depth_or_all, fixed_path}
use Rattle.dav_engine.specs.Transferring.{where_reached, asked_destination, reach_verdict, parent_verdict, must_have_parent, found_or_absent, see_destination, place_verdict, permits_transfer, transfer_rules, ClearsIf, UnlessNamed, transferred_items}
use Rattle.dav_engine.specs.Move.{MovesSource, Moves, MoveWork}
use Rattle.dav_engine.specs.Laws.{is_transferred, MovesWhole, KeepsSource}
use Rattle.dav_engine.specs.Method.{StepBy, Refused as ByRules, Done, CutShort, CutInWork}
use Rattle.dav_engine.specs.Methods.{move_method}
use Rattle.dav_engine.specs.declared.transfer.Transfer.{Transfer}
use Rattle.dav_engine.proofs.DeleteLaws.{unlocked}
use Rattle.dav_engine.proofs.Passing.{MovePassed, move_passed}
use Rattle.dav_engine.proofs.Replacing.{AreRefusals, apart_below, clear_outside, replaced_refused}
use Rattle.dav_engine.proofs.Refusals.{refusal_from_300, AnyError, RefusesBy, errs_then, errs_led, errs_judged, errs_told, errs_conditions, errs_permitted}

-- ---- the rules refuse by errors

pub errs_transfer : (moving : Bool) (settings : Settings) (request : DavRequest) (state : State) → RefusesBy AnyError (transfer_rules moving settings request state)
errs_transfer moving settings request state =
    errs_then AnyError (judged (asked_destination moving settings request)) _ (errs_judged (asked_destination moving settings request))
    (λ destination. errs_then AnyError (must_find state.contents request.path.key) _ (λ outcome. errs_told AnyError (λ e. tt) (lookup_result outcome (state.contents.metas request.path.key)))
    (λ meta. errs_then AnyError (see_destination state.contents destination.key) _
    (errs_then AnyError (must_have_parent state.contents destination.key) _
    (errs_then AnyError (look_up state.contents (parent destination.key)) _ (λ outcome. tt) (λ above. errs_judged (parent_verdict above)))
    (λ above. errs_then AnyError (look_up_result state.contents destination.key) _ (λ outcome. tt) (λ recorded. errs_judged (found_or_absent recorded))))
    (λ there. errs_then AnyError (judged (place_verdict moving request destination.key there)) _ (errs_judged (place_verdict moving request destination.key there))
    (λ placed. errs_then AnyError (conditions state.contents state.locks request (Some meta) request.path) _ (errs_conditions AnyError (λ s least. tt) state.contents state.locks request (Some meta) request.path)
    (λ tokens. errs_permitted AnyError (λ s least. tt) 423 (omega arith) (permits_transfer moving state.locks request (submitted_tokens request) destination.key) (record { meta = meta; destination = destination; there = there }))))))

-- ---- keys apart

apart_keys : (one other x : Key) → AreApart one other → is_at_or_below (one ++ x) other ≡ false
apart_keys [] other x apart = let no : true ≡ false = apart.other_one in absurd cc
apart_keys (segment ∷ one) [] x apart = let no : true ≡ false = apart.one_other in absurd cc
apart_keys (segment ∷ one) (first ∷ other) x apart = by_first (bytes_eq first segment) refl (λ inner. apart_keys one other x inner)
  where
    parts : (b c : Bool) → b ≡ true → (b && c) ≡ false → c ≡ false
    parts true c e is = is
    parts false c e is = absurd cc

    by_first : (b : Bool) → bytes_eq first segment ≡ b → (AreApart one other → is_at_or_below (one ++ x) other ≡ false) → is_at_or_below ((segment ∷ one) ++ x) (first ∷ other) ≡ false
    by_first false is further = ap (λ b. b && is_at_or_below (one ++ x) other) is
    by_first true is further =
        let back : bytes_eq segment first ≡ true = (bytes_eq-Decides segment first).1 (sym ((bytes_eq-Decides first segment).0 is)) in
        ap (λ b. b && is_at_or_below (one ++ x) other) is
        ∙ further (record { one_other = parts (bytes_eq first segment) (is_at_or_below one other) is apart.one_other; other_one = parts (bytes_eq segment first) (is_at_or_below other one) back apart.other_one })

-- ---- what the work makes

clear_system : (there : Bool) (destination : PathValue) (old mid : State) (head : List Logged) (names : List Item) → ClearsIf there destination old head names mid → HasSameSystem old mid
clear_system true destination old mid head names cleared = cleared.system
clear_system false destination old mid head names cleared = record { there = ap (λ (s : State). is_some s.locks) cleared.2; reliable = ap (λ (s : State). s.reliable) cleared.2 }

clear_limit : (there : Bool) (destination : PathValue) (old mid : State) (head : List Logged) (names : List Item) → ClearsIf there destination old head names mid → limit_of mid.contents ≡ limit_of old.contents
clear_limit true destination old mid head names cleared = cleared.removed.2.lawful.limit
clear_limit false destination old mid head names cleared = ap (λ (s : State). limit_of s.contents) cleared.2

-- a source that wasn't named was renamed
abbrev IsEndOf : Outcome → PathValue → PathValue → State → State → List Item → Type 0
IsEndOf outcome source destination mid new names =
    (outcome ≡ Granted → IsRenamedTo source.key destination.key mid.contents new.contents × (names ≡ []))
    × ((e : FsError) → error_of outcome ≡ Some e → (new.contents ≡ mid.contents) × (names ≡ (source, fs_status e) ∷ []))

unnamed_renamed : (outcome : Outcome) (source destination : PathValue) (mid new : State) → IsEndOf outcome source destination mid new [] → IsRenamedTo source.key destination.key mid.contents new.contents
unnamed_renamed Granted source destination mid new end = (end.0 refl).0
unnamed_renamed (Barred e) source destination mid new end = absurd (let none : [] ≡ (source, fs_status e) ∷ [] = (end.1 e refl).1 in cc)
unnamed_renamed (Refused e) source destination mid new end = absurd (let none : [] ≡ (source, fs_status e) ∷ [] = (end.1 e refl).1 in cc)

-- one that was named stays
named_stays : (outcome : Outcome) (source destination : PathValue) (mid new : State) (item : Item) (names : List Item) → IsEndOf outcome source destination mid new (item ∷ names) → new.contents ≡ mid.contents
named_stays Granted source destination mid new item names end = absurd (let none : item ∷ names ≡ [] = (end.0 refl).1 in cc)
named_stays (Barred e) source destination mid new item names end = (end.1 e refl).0
named_stays (Refused e) source destination mid new item names end = (end.1 e refl).0

named_refusal : (outcome : Outcome) (source destination : PathValue) (mid new : State) (names : List Item) → IsEndOf outcome source destination mid new names → AreRefusals names
named_refusal Granted source destination mid new names end item inside = absurd (let none : IsIn item [] = subst (IsIn item) (end.0 refl).1 inside in none)
named_refusal (Barred e) source destination mid new names end item inside = (e, first (subst (IsIn item) (end.1 e refl).1 inside))
  where
    first : IsIn item ((source, fs_status e) ∷ []) → fs_status e ≡ item.1
    first (inl same) = ap (λ (i : Item). i.1) same
    first (inr none) = absurd none
named_refusal (Refused e) source destination mid new names end item inside = (e, first (subst (IsIn item) (end.1 e refl).1 inside))
  where
    first : IsIn item ((source, fs_status e) ∷ []) → fs_status e ≡ item.1
    first (inl same) = ap (λ (i : Item). i.1) same
    first (inr none) = absurd none

module _ (source : PathValue) (found : Transfer) (old new : State) (records : List Logged) where
  -- each name is a refusal's
  moves_refused : (names : List Item) → Moves source found old records names new → AreRefusals names
  moves_refused names w =
      replaced_refused (MovesSource source found.destination) (is_some found.there) found.destination old new records names w
      (λ mid rest follows. named_refusal follows.renamed.outcome source found.destination mid new names (follows.renamed.granted, follows.renamed.refused))

  module _ (apart : AreApart source.key found.destination.key) where
    -- at the source nothing has changed by the removal
    kept_source : (mid : State) (head : List Logged) (kept : List Item) → ClearsIf (is_some found.there) found.destination old head kept mid → (x : Key) → standing mid.contents (source.key ++ x) ≡ standing old.contents (source.key ++ x)
    kept_source mid head kept cleared x =
        clear_outside (is_some found.there) found.destination old mid head kept cleared (source.key ++ x) (apart_below (source.key ++ x) found.destination.key (apart_keys source.key found.destination.key x apart))

    -- where nothing is named all has gone
    moves_whole : Moves source found old records [] new → IsRenamedTo source.key found.destination.key old.contents new.contents × ((mid : State) × HasSameSystem old mid × DropsLocks source.key mid new)
    moves_whole w = by_left w.left w.cleared w.follows
      where
        by_left : (kept : List Item) → ClearsIf (is_some found.there) found.destination old w.removal kept w.between → UnlessNamed (MovesSource source found.destination) kept w.between w.after [] new
            → IsRenamedTo source.key found.destination.key old.contents new.contents × ((mid : State) × HasSameSystem old mid × DropsLocks source.key mid new)
        by_left [] cleared follows =
            let renamed = unnamed_renamed follows.renamed.outcome source found.destination w.between new (follows.renamed.granted, follows.renamed.refused) in
            let at_source = kept_source w.between w.removal [] cleared in
            let outside : (key : Key) → is_at_or_below key found.destination.key ≡ false → standing w.between.contents key ≡ standing old.contents key =
            λ key apart. clear_outside (is_some found.there) found.destination old w.between w.removal [] cleared key (apart_below key found.destination.key apart) in (
              record {
                tree = record { moved = λ x. renamed.tree.moved x ∙ ap (λ s. s.0) (at_source x); gone = renamed.tree.gone; rest = λ key a b. renamed.tree.rest key a b ∙ ap (λ s. s.0) (outside key b) };
                properties = record { moved = λ x. renamed.properties.moved x ∙ ap (λ s. s.1) (at_source x); gone = renamed.properties.gone; rest = λ key a b. renamed.properties.rest key a b ∙ ap (λ s. s.1) (outside key b) };
                limit = renamed.limit ∙ clear_limit (is_some found.there) found.destination old w.between w.removal [] cleared;
              },
              (w.between, clear_system (is_some found.there) found.destination old w.between w.removal [] cleared, follows.locks),
            )
        by_left (item ∷ kept) cleared follows = absurd (let none : [] ≡ item ∷ kept = follows.1 in cc)

    -- where something is named all stays at the source
    moves_none : (item : Item) (names : List Item) → Moves source found old records (item ∷ names) new → (x : Key) → standing new.contents (source.key ++ x) ≡ standing old.contents (source.key ++ x)
    moves_none item names w x = by_left w.left w.cleared w.follows
      where
        by_left : (kept : List Item) → ClearsIf (is_some found.there) found.destination old w.removal kept w.between → UnlessNamed (MovesSource source found.destination) kept w.between w.after (item ∷ names) new
            → standing new.contents (source.key ++ x) ≡ standing old.contents (source.key ++ x)
        by_left [] cleared follows =
            ap (λ c. standing c (source.key ++ x)) (named_stays follows.renamed.outcome source found.destination w.between new item names (follows.renamed.granted, follows.renamed.refused)) ∙ kept_source w.between w.removal [] cleared x
        by_left (first ∷ kept) cleared follows = ap (λ (s : State). standing s.contents (source.key ++ x)) follows.2 ∙ kept_source w.between w.removal (first ∷ kept) cleared x

-- ---- what is reported

refusal_untold : (e : FsError) (status : ℕ) → fs_status e ≡ status → (nat_eq status 201 || nat_eq status 204) ≡ false
refusal_untold e status is = by_tests (nat_eq status 201) refl (nat_eq status 204) refl
  where
    by_tests : (b : Bool) → nat_eq status 201 ≡ b → (c : Bool) → nat_eq status 204 ≡ c → (nat_eq status 201 || nat_eq status 204) ≡ false
    by_tests true at c other = absurd (let same : status ≡ 201 = grind arith in omega (arith, refusal_from_300 e, is, same))
    by_tests false at true other = absurd (let same : status ≡ 204 = grind arith in omega (arith, refusal_from_300 e, is, same))
    by_tests false at false other = rw (at, other) refl

-- a reply that names refusals doesn't tell a move
pub named_untold : (profile : Profile) (path : PathValue) (item : Item) (names : List Item) → AreRefusals (item ∷ names) → is_transferred (multi_answer profile path (item ∷ names)) ≡ false
named_untold profile path item [] refusals = by_key (is_same_key path.key item.0.key)
  where
    by_key : (b : Bool) → is_transferred (if b then Ok (bare_reply item.1 []) else Ok (multistatus_reply profile (item ∷ []))) ≡ false
    by_key true = let refusal = refusals item (inl refl) in refusal_untold refusal.0 item.1 refusal.1
    by_key false = refl
named_untold profile path item (next ∷ names) refusals = refl

-- one that names nothing does
pub clean_told : (profile : Profile) (path : PathValue) (there : Option Meta) → is_transferred (multi_answer profile path (transferred_items path there [])) ≡ true
clean_told profile path there =
    subst (λ b. is_transferred (if b then Ok (bare_reply (if is_some there then 204 else 201) []) else Ok (multistatus_reply profile ((path, if is_some there then 204 else 201) ∷ []))) ≡ true)
    (sym ((same_key_decides path.key path.key).1 refl)) (by_there (is_some there))
  where
    by_there : (b : Bool) → (nat_eq (if b then 204 else 201) 201 || nat_eq (if b then 204 else 201) 204) ≡ true
    by_there true = refl
    by_there false = refl

-- ---- the laws

module _ (settings : Settings) (request : DavRequest) (old : State) (answer : Answer) (new : State) where
  abbrev MoveTells : Type 0
  MoveTells = MovesWhole settings request old answer new × KeepsSource request old answer new

  -- an error that isn't a want of memory has changed nothing
  error_tells : (e : DavError) → answer ≡ Err e → (new ≡ old) ⊎ (e ≡ Memory) → MoveTells
  error_tells e is same = ((λ recorded. absurd (let no : false ≡ true = sym (ap is_transferred is) ∙ recorded in cc)), (λ recorded other key below. by_end same other key))
    where
      by_end : (new ≡ old) ⊎ (e ≡ Memory) → answer ≢ Err Memory → (key : Key) → standing new.contents key ≡ standing old.contents key
      by_end (inl kept) other key = ap (λ (s : State). standing s.contents key) kept
      by_end (inr memory) other key = absurd (other (is ∙ ap Err memory))

  module _ (found : Transfer) (rules : MovePassed settings request old found) (apart : AreApart request.path.key found.destination.key) (records : List Logged) where
    abbrev path : PathValue
    path = fixed_path request.path (Some found.meta)

    work_tells : MoveWork settings.profile request found old records answer new → MoveTells
    work_tells work = by_names work.names work.done work.answered
      where
        asked_so : (verdict : Result (Unit {0}) DavError) → where_reached verdict settings request ≡ Ok found.destination → destination_of request.headers settings.prefix ≡ Ok found.destination
        asked_so (Ok reached) is = is
        asked_so (Err e) is = absurd cc

        by_names : (names : List Item) → Moves path found old records names new → answer ≡ multi_answer settings.profile path (transferred_items path found.there names) → MoveTells
        by_names [] moved answered =
            let whole = moves_whole path found old new records apart moved in (
              (λ recorded. record {
                destination = found.destination;
                named = asked_so (reach_verdict true (depth_or_all request)) rules.asked;
                renamed = whole.0;
                unlocked = λ reliable. unlocked request whole.1.0 new whole.1.2 (ap (λ (r : Reliable). r.delete) whole.1.1.reliable ∙ reliable);
              }),
              (λ recorded other key below. absurd (let no : true ≡ false = sym (ap is_transferred answered ∙ clean_told settings.profile path found.there) ∙ recorded in cc)),
            )
        by_names (item ∷ names) moved answered =
            let refusals : AreRefusals (item ∷ names) = moves_refused path found old new records (item ∷ names) moved in (
              (λ recorded. absurd (let no : false ≡ true = sym (ap is_transferred answered ∙ named_untold settings.profile path item names refusals) ∙ recorded in cc)),
              (λ recorded other key below.
                  let tail = at_or_below-tail request.path.key key below in
                  subst (λ k. standing new.contents k ≡ standing old.contents k) (sym tail.1) (moves_none path found old new records apart item names moved tail.0)),
            )

  step_tells : IsWellFormed old.contents → (records : List Logged) → StepBy move_method settings request old records answer new → MoveTells
  step_tells formed records (ByRules h) =
      let refused = errs_led AnyError (transfer_rules true settings request old) records answer (errs_transfer true settings request old) h.head in
      error_tells refused.0 refused.1 (inl h.same)
  step_tells formed records (Done h) =
      let rules = move_passed settings request old h.head h.found h.passed in
      work_tells h.found rules (rules.may formed).apart h.rest h.work
  step_tells formed records (CutShort h) = error_tells Memory h.answered (inl h.same)
  step_tells formed records (CutInWork h) = error_tells Memory h.answered (inr refl)

pub move_tells : {settings : Settings} {request : DavRequest} {old new : State} {records : List Logged} {answer : Answer} → IsLawfulState old → StepBy move_method settings request old records answer new
    → MovesWhole settings request old answer new × KeepsSource request old answer new
move_tells {settings} {request} {old} {new} {records} {answer} lawful step = step_tells settings request old answer new lawful.contents records step
