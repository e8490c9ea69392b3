-- What a COPY and a MOVE share: what follows where the destination is cleared, and what is reported of it.
use Rattle.std.proofs.Common.{◌≡◌, ◌≢◌, ◌⊎◌, ◌∙◌, Bool, true, false, if◌then◌else◌, List, [], ◌∷◌, ◌++◌, length, ◌-◌, Option, Some, None, is_some, Result, Ok, Err, inl, inr, refl, sym, ap, subst, append-nil, append_assoc, length-append, arith}
use Rattle.std.specs.FinMap.{get}
use Rattle.std.proofs.lemmas.List.{length-take}
use Rattle.http.specs.declared.response.Response.{Response}
use Rattle.dav_resource.specs.Gives.{GivesBy}
use Rattle.dav_key.specs.Key.{Key, parent}
use Rattle.dav_resource.specs.PathText.{PathValue}
use Rattle.dav_resource.specs.declared.profile.Profile.{Profile}
use Rattle.dav_resource.specs.declared.error.DavError.{DavError}
use Rattle.dav_resource.specs.declared.error.DavError.TheVariants.{Memory}
use Rattle.dav_resource.specs.declared.error.FsError.{FsError}
use Rattle.dav_resource.specs.Errors.{fs_status}
use Rattle.dav_resource.specs.declared.meta.Meta.{Meta}
use Rattle.dav_resource.specs.declared.request.Body.{Body}
use Rattle.dav_resource.specs.declared.request.Depth.TheVariants.{Infinity}
use Rattle.dav_key.specs.Below.{is_at_or_below}
use Rattle.dav_store.specs.BelowLaws.{at_or_below-append}
use Rattle.dav_store.specs.Logged.{Logged}
use Rattle.dav_store.specs.Members.{IsIn}
use Rattle.dav_store.specs.Store.{Node, MetaFits, IsWellFormed}
use Rattle.dav_messages.specs.Multistatus.{Item, multi_answer}
use Rattle.dav_messages.specs.Reply.{Answer, reply_of, answer_of}
use Rattle.dav_walks.specs.ClearedLaws.{path_gone, names_refused}
use Rattle.dav_walks.specs.KeyCall.{standing}
use Rattle.dav_walks.specs.RemovalLaws.{nothing_removed, whole_in_part, removes_within}
use Rattle.dav_engine.specs.State.{State, Seen, state_of}
use Rattle.dav_engine.specs.Transferring.{ClearsIf, ClearsInPart, Clearing, Names, NamesBy, UnlessNamed, Replaces, ReplacesInPart, transferred_items, TransferWork}
use Rattle.dav_engine.specs.Work.{Performs}
use Rattle.dav_engine.proofs.Deleting.{none_named, some_named, no_memory, answered}

-- ---- keys apart

pub apart_below : (one other : Key) → is_at_or_below one other ≡ false → (x : Key) → one ≢ other ++ x
apart_below one other apart x is = let no : true ≡ false = sym (at_or_below-append other x) ∙ ap (λ k. is_at_or_below k other) (sym is) ∙ apart in cc

pub parent_apart : (one other : Key) → is_at_or_below one other ≡ false → (x : Key) → parent other ≢ other ++ x
parent_apart one [] apart x is = let no : true ≡ false = apart in absurd cc
parent_apart one (segment ∷ rest) apart x is =
    let same : length (parent (segment ∷ rest)) ≡ length ((segment ∷ rest) ++ x) = ap length is in
    let few = length-take (length (segment ∷ rest) - 1) (segment ∷ rest) in
    let many = length-append (segment ∷ rest) x in
    absurd (omega (arith, same, few, many))

-- ---- the destination is cleared

pub fits_none : (it : Option Node) (known : Option Meta) → MetaFits it known → known ≡ None → it ≡ None
fits_none None known fits is = refl
fits_none (Some node) None fits is = absurd fits
fits_none (Some node) (Some meta) fits is = absurd (let no : Some meta ≡ None = is in cc)

pub fits_some : (it : Option Node) (known : Option Meta) (meta : Meta) → MetaFits it known → known ≡ Some meta → (node : Node) × (it ≡ Some node)
fits_some None known meta fits is = absurd (let no : None ≡ Some meta = sym fits ∙ is in cc)
fits_some (Some node) known meta fits is = (node, refl)

-- outside the destination nothing has changed
pub clear_outside : (there : Bool) (destination : PathValue) (old mid : State) (head : List Logged) (names : List Item) → ClearsIf there destination old head names mid → (q : Key) → ((x : Key) → q ≢ destination.key ++ x) → standing mid.contents q ≡ standing old.contents q
clear_outside true destination old mid head names cleared q apart = removes_within Infinity destination old.contents mid.contents head (whole_in_part Infinity destination old.contents mid.contents head names cleared.removed) q apart
clear_outside false destination old mid head names cleared q apart = ap (λ (s : State). standing s.contents q) cleared.2

clear_part_outside : (there : Bool) (destination : PathValue) (old new : State) (records : List Logged) → ClearsInPart there destination old records new → (q : Key) → ((x : Key) → q ≢ destination.key ++ x) → standing new.contents q ≡ standing old.contents q
clear_part_outside true destination old new records part q apart = removes_within Infinity destination old.contents new.contents records part.0 q apart
clear_part_outside false destination old new records part q apart = ap (λ (s : State). standing s.contents q) part.1

-- where nothing is named nothing is there
pub clear_gone : (there : Option Meta) (destination : PathValue) (old mid : State) (head : List Logged) → IsWellFormed old.contents → old.contents.metas destination.key ≡ there → ClearsIf (is_some there) destination old head [] mid → get mid.contents.tree destination.key ≡ None
clear_gone None destination old mid head formed known cleared =
    ap (λ (s : State). get s.contents.tree destination.key) cleared.2 ∙ fits_none (get old.contents.tree destination.key) (old.contents.metas destination.key) (formed.metas destination.key) known
clear_gone (Some meta) destination old mid head formed known cleared = path_gone Infinity destination old.contents mid.contents head cleared.removed

-- each status is that of some store error
abbrev pub AreRefusals : List Item → Type 0
AreRefusals names = (item : Item) → IsIn item names → (e : FsError) × (fs_status e ≡ item.1)

-- each name is a refusal's
clear_refused : (there : Bool) (destination : PathValue) (old mid : State) (head : List Logged) (names : List Item) → ClearsIf there destination old head names mid → AreRefusals names
clear_refused true destination old mid head names cleared item inside = names_refused Infinity destination old.contents mid.contents head names cleared.removed item inside
clear_refused false destination old mid head names cleared item inside = absurd (let none : IsIn item [] = subst (IsIn item) cleared.1 inside in none)

-- what ended is more than what was broken off
clear_in_part : (there : Bool) (destination : PathValue) (old new : State) (records : List Logged) (item : Item) (names : List Item) → ClearsIf there destination old records (item ∷ names) new → ClearsInPart there destination old records new
clear_in_part true destination old new records item names cleared = (whole_in_part Infinity destination old.contents new.contents records (item ∷ names) cleared.removed, cleared.locks)
clear_in_part false destination old new records item names cleared = absurd (let no : item ∷ names ≡ [] = cleared.1 in cc)

nothing_cleared : (there : Bool) (destination : PathValue) (state : State) → ClearsInPart there destination state [] state
nothing_cleared true destination state = (nothing_removed Infinity destination state.contents, refl)
nothing_cleared false destination state = (refl, refl)

-- ---- work that names its refusals

-- what ended is more than what was broken off, and what wasn't begun is less
pub record IsWork (Done : State → List Logged → List Item → State → Type 0) (Cut : State → List Logged → State → Type 0) : Type 0 where
  pub so_far : (old new : State) (records : List Logged) (names : List Item) → Done old records names new → Cut old records new
  pub unbegun : (state : State) → Cut state [] state

named_told : (names : List Item) (path : PathValue) (there : Option Meta) → names ≢ [] → transferred_items path there names ≡ names
named_told [] path there some = absurd (some refl)
named_told (item ∷ names) path there some = refl

module _ {Done : State → List Logged → List Item → State → Type 0} {Cut : State → List Logged → State → Type 0} (profile : Profile) (work : IsWork Done Cut) (path : PathValue) (there : Option Meta) where
  abbrev Works : Seen → Answer → Seen → Type 0
  Works = Performs (TransferWork profile Done path there) Cut

  -- nothing was begun
  pub transfer_unbegun : (seen : Seen) (result : Result (Response Body) DavError) → answer_of result ≡ Err Memory → Works seen (answer_of result) seen
  transfer_unbegun seen result is = record { records = []; recorded = sym (append-nil seen.store.log); fixed = refl; done = inr (is, work.unbegun (state_of seen)) }

  -- memory ran out in it
  pub transfer_stopped : (old new : Seen) (had has : List Item) → Names Done Cut old had has (Err Memory) new → Works old (Err Memory) new
  transfer_stopped old new had has h = record { records = h.records; recorded = h.recorded; fixed = h.fixed; done = by_end h.done }
    where
      Same : Type 0
      Same = ◌≡◌ {A = Answer} (Err Memory) (Err Memory)

      by_end : NamesBy Done Cut (state_of old) h.records had has (Err Memory) (state_of new) → TransferWork profile Done path there (state_of old) h.records (Err Memory) (state_of new) ⊎ (Same × Cut (state_of old) h.records (state_of new))
      by_end (inl whole) = absurd (no_memory whole.0 whole.3)
      by_end (inr part) = inr (refl, part.1)

  module _ (old new : Seen) (has : List Item) (result : Result (Response Body) DavError) where
    abbrev Ends : List Logged → Type 0
    Ends records = TransferWork profile Done path there (state_of old) records (answer_of result) (state_of new) ⊎ ((answer_of result ≡ Err Memory) × Cut (state_of old) records (state_of new))

    -- it ended with these names, and they are reported, or memory ran out behind it
    recorded : (records : List Logged) (names : List Item) → Done (state_of old) records names (state_of new) → (answer_of result ≡ multi_answer profile path (transferred_items path there names)) ⊎ (answer_of result ≡ Err Memory) → Ends records
    recorded records names done (inl is) = inl (record { names = names; done = done; answered = is })
    recorded records names done (inr memory) = inr (memory, work.so_far (state_of old) (state_of new) records names done)

    -- nothing is named, and memory was lacking for the status
    pub transfer_untold : Names Done Cut old [] has (Ok tt) new → answer_of result ≡ Err Memory → Works old (answer_of result) new
    transfer_untold h memory = record { records = h.records; recorded = h.recorded; fixed = h.fixed; done = by_end h.done }
      where
        by_end : NamesBy Done Cut (state_of old) h.records [] has (Ok tt) (state_of new) → Ends h.records
        by_end (inl whole) = recorded h.records whole.0 whole.2 (inr memory)
        by_end (inr part) = absurd cc

    -- nothing is named, and that is reported
    pub transfer_done : Names Done Cut old [] has (Ok tt) new → (items : List Item) → items ≡ has ++ (path, if is_some there then 204 else 201) ∷ [] → GivesBy reply_of result (multi_answer profile path items) → Works old (answer_of result) new
    transfer_done h items added given = record { records = h.records; recorded = h.recorded; fixed = h.fixed; done = by_end h.done }
      where
        by_end : NamesBy Done Cut (state_of old) h.records [] has (Ok tt) (state_of new) → Ends h.records
        by_end (inl whole) =
            let none = none_named whole.0 whole.3 in
            let all : items ≡ transferred_items path there whole.0 =
            added ∙ ap (λ l. l ++ (path, if is_some there then 204 else 201) ∷ []) (whole.1 ∙ none) ∙ sym (ap (transferred_items path there) none) in
            recorded h.records whole.0 whole.2 (answered result _ (subst (λ l. GivesBy reply_of result (multi_answer profile path l)) all given))
        by_end (inr part) = absurd cc

    -- something is named
    pub transfer_named : (e : DavError) → e ≢ Memory → Names Done Cut old [] has (Err e) new → GivesBy reply_of result (multi_answer profile path has) → Works old (answer_of result) new
    transfer_named e other h given = record { records = h.records; recorded = h.recorded; fixed = h.fixed; done = by_end h.done }
      where
        by_end : NamesBy Done Cut (state_of old) h.records [] has (Err e) (state_of new) → Ends h.records
        by_end (inl whole) =
            let all : has ≡ transferred_items path there whole.0 = whole.1 ∙ sym (named_told whole.0 path there (some_named e whole.0 whole.3)) in
            recorded h.records whole.0 whole.2 (answered result _ (subst (λ l. GivesBy reply_of result (multi_answer profile path l)) all given))
        by_end (inr part) = absurd (other (let same : e ≡ Memory = cc in same))

-- ---- what follows where the destination is cleared

-- where nothing is named
pub cleared_so : (there : Bool) (destination : PathValue) (old mid : Seen) (had has : List Item) (h : Clearing there destination old had has (Ok tt) mid) → ClearsIf there destination (state_of old) h.records [] (state_of mid) × (has ≡ had)
cleared_so there destination old mid had has h = by_end h.done
  where
    by_end : NamesBy (ClearsIf there destination) (ClearsInPart there destination) (state_of old) h.records had has (Ok tt) (state_of mid) → ClearsIf there destination (state_of old) h.records [] (state_of mid) × (has ≡ had)
    by_end (inl whole) =
        let none = none_named whole.0 whole.3 in
        (subst (λ names. ClearsIf there destination (state_of old) h.records names (state_of mid)) none whole.2, whole.1 ∙ ap (λ names. had ++ names) none ∙ append-nil had)
    by_end (inr part) = absurd cc

module _ (Follows : State → List Logged → List Item → State → Type 0) (Part : State → List Logged → State → Type 0) (there : Bool) (destination : PathValue) where
  abbrev Replacing : Seen → List Item → List Item → Result (Unit {0}) DavError → Seen → Type 0
  Replacing = Names (Replaces Follows there destination) (ReplacesInPart Part there destination)

  -- something at the destination is named, or memory ran out there
  pub replaces_uncleared : (old new : Seen) (had has : List Item) (e : DavError) → Clearing there destination old had has (Err e) new → Replacing old had has (Err e) new
  replaces_uncleared old new had has e h = record { records = h.records; recorded = h.recorded; fixed = h.fixed; done = by_end h.done }
    where
      stuck : (names : List Item) → ClearsIf there destination (state_of old) h.records names (state_of new) → names ≢ [] → Replaces Follows there destination (state_of old) h.records names (state_of new)
      stuck [] cleared some = absurd (some refl)
      stuck (item ∷ kept) cleared some = record { removal = h.records; after = []; cut = sym (append-nil h.records); left = item ∷ kept; between = state_of new; cleared = cleared; follows = (refl, refl, refl) }

      by_end : NamesBy (ClearsIf there destination) (ClearsInPart there destination) (state_of old) h.records had has (Err e) (state_of new)
          → NamesBy (Replaces Follows there destination) (ReplacesInPart Part there destination) (state_of old) h.records had has (Err e) (state_of new)
      by_end (inl whole) = inl (whole.0, whole.1, stuck whole.0 whole.2 (some_named e whole.0 whole.3), whole.3)
      by_end (inr part) = inr (part.0, inl part.1)

  -- and the rest is done
  pub replaces_on : (old mid : Seen) (had has : List Item) → Clearing there destination old had has (Ok tt) mid → (new : Seen) (all : List Item) (answer : Result (Unit {0}) DavError) → Names Follows Part mid has all answer new → Replacing old had all answer new
  replaces_on old mid had has h new all answer k = record { records = h.records ++ k.records; recorded = rw (k.recorded, h.recorded, append_assoc); fixed = k.fixed ∙ h.fixed; done = by_end k.done }
    where
      cleared : ClearsIf there destination (state_of old) h.records [] (state_of mid) × (has ≡ had)
      cleared = cleared_so there destination old mid had has h

      by_end : NamesBy Follows Part (state_of mid) k.records has all answer (state_of new)
          → NamesBy (Replaces Follows there destination) (ReplacesInPart Part there destination) (state_of old) (h.records ++ k.records) had all answer (state_of new)
      by_end (inl whole) =
          inl (whole.0, whole.1 ∙ ap (λ l. l ++ whole.0) cleared.1, record { removal = h.records; after = k.records; cut = refl; left = []; between = state_of mid; cleared = cleared.0; follows = whole.2 }, whole.3)
      by_end (inr part) = inr (part.0, inr (record { removal = h.records; after = k.records; cut = refl; between = state_of mid; cleared = cleared.0; part = part.1 }))

  -- both are work where the rest is
  pub replacing_is_work : ((old new : State) (records : List Logged) (names : List Item) → Follows old records names new → Part old records new) → IsWork (Replaces Follows there destination) (ReplacesInPart Part there destination)
  replacing_is_work so_far = record { so_far = λ old new records names w. by_left old new records names w w.left w.cleared w.follows; unbegun = λ state. inl (nothing_cleared there destination state) }
    where
      by_left : (old new : State) (records : List Logged) (names : List Item) (w : Replaces Follows there destination old records names new) (kept : List Item) → ClearsIf there destination old w.removal kept w.between → UnlessNamed Follows kept w.between w.after names new
          → ReplacesInPart Part there destination old records new
      by_left old new records names w [] cleared follows = inr (record { removal = w.removal; after = w.after; cut = w.cut; between = w.between; cleared = cleared; part = so_far w.between new w.after names follows })
      by_left old new records names w (item ∷ kept) cleared follows =
          let all : records ≡ w.removal = w.cut ∙ ap (λ l. w.removal ++ l) follows.0 ∙ append-nil w.removal in
          inl (subst (λ l. ClearsInPart there destination old l new) (sym all) (subst (λ s. ClearsInPart there destination old w.removal s) (sym follows.2) (clear_in_part there destination old w.between w.removal item kept cleared)))

-- each name is a refusal's
pub replaced_refused : (Follows : State → List Logged → List Item → State → Type 0) (there : Bool) (destination : PathValue) (old new : State) (records : List Logged) (names : List Item) → Replaces Follows there destination old records names new
    → ((mid : State) (rest : List Logged) → Follows mid rest names new → AreRefusals names) → AreRefusals names
replaced_refused Follows there destination old new records names w refused = by_left w.left w.cleared w.follows
  where
    by_left : (kept : List Item) → ClearsIf there destination old w.removal kept w.between → UnlessNamed Follows kept w.between w.after names new → AreRefusals names
    by_left [] cleared follows = refused w.between w.after follows
    by_left (item ∷ kept) cleared follows = subst AreRefusals (sym follows.1) (clear_refused there destination old w.between w.removal (item ∷ kept) cleared)

-- ---- a key outside the destination at which the rest changes nothing

module _ (there : Bool) (destination : PathValue) (old new : State) (records : List Logged) (q : Key) (outside : is_at_or_below q destination.key ≡ false) where
  away : (x : Key) → q ≢ destination.key ++ x
  away = apart_below q destination.key outside

  pub replaced_outside : (Follows : State → List Logged → List Item → State → Type 0) (names : List Item) → Replaces Follows there destination old records names new
      → ((mid : State) (rest : List Logged) → Follows mid rest names new → standing new.contents q ≡ standing mid.contents q) → standing new.contents q ≡ standing old.contents q
  replaced_outside Follows names w same = by_left w.left w.follows ∙ clear_outside there destination old w.between w.removal w.left w.cleared q away
    where
      by_left : (kept : List Item) → UnlessNamed Follows kept w.between w.after names new → standing new.contents q ≡ standing w.between.contents q
      by_left [] follows = same w.between w.after follows
      by_left (item ∷ kept) follows = ap (λ (s : State). standing s.contents q) follows.2

  pub replaced_part_outside : (Part : State → List Logged → State → Type 0) → ReplacesInPart Part there destination old records new
      → ((mid : State) (rest : List Logged) → Part mid rest new → standing new.contents q ≡ standing mid.contents q) → standing new.contents q ≡ standing old.contents q
  replaced_part_outside Part (inl part) same = clear_part_outside there destination old new records part q away
  replaced_part_outside Part (inr more) same = same more.between more.after more.part ∙ clear_outside there destination old more.between more.removal [] more.cleared q away
