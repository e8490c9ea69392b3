-- What the rules have seen to, where they are passed.
use Rattle.std.proofs.Common.{◌≡◌, ◌∙◌, ℕ, Bool, true, false, not, ◌&&◌, ◌||◌, if◌then◌else◌, List, [], ◌∷◌, Option, Some, None, is_some, Result, Ok, Err, refl, sym, ap, subst}
use Rattle.std.specs.FinMap.{get}
use Rattle.dav_key.specs.Key.{Key, parent, is_same_key, same_key_decides}
use Rattle.dav_resource.specs.PathText.{PathValue}
use Rattle.dav_resource.specs.declared.error.DavError.{DavError}
use Rattle.dav_resource.specs.declared.error.DavError.TheVariants.{Status}
use Rattle.dav_resource.specs.declared.error.FsError.{FsError}
use Rattle.dav_resource.specs.declared.error.FsError.TheVariants.{NotFound}
use Rattle.dav_resource.specs.declared.meta.Meta.{Meta}
use Rattle.dav_resource.specs.declared.record.Outcome.{Outcome}
use Rattle.dav_resource.specs.declared.record.Outcome.TheVariants.{Granted, Barred, Refused}
use Rattle.dav_resource.specs.declared.request.DavRequest.{DavRequest}
use Rattle.dav_resource.specs.declared.request.Depth.{Depth}
use Rattle.dav_resource.specs.declared.request.Depth.TheVariants.{Zero, One, Infinity, Default}
use Rattle.dav_key.specs.Below.{is_at_or_below, AreApart}
use Rattle.dav_store.specs.Calls.{IsLawful, metadata_bar}
use Rattle.dav_store.specs.Logged.{Logged}
use Rattle.dav_store.specs.Store.{Contents, Node, Directory, File, MetaFits, IsWellFormed}
use Rattle.dav_messages.specs.Conditions.{submitted_tokens}
use Rattle.dav_messages.specs.Dialogue.{Passed, LeadsTo, look_up, if_granted}
use Rattle.dav_messages.specs.Dialogues.{LeadsTo-last}
use Rattle.dav_engine.specs.State.{State}
use Rattle.dav_engine.specs.Settings.{Settings}
use Rattle.dav_engine.specs.Rules.{judged, lookup_result, or_refused, must_find, look_up_result, own_conditions, is_permitted, where_permitted, path_rules, depth_or_all, is_directory, is_deep}
use Rattle.dav_engine.specs.Transferring.{where_reached, asked_destination, reach_verdict, parent_verdict, must_have_parent, found_or_absent, look_up_destination, see_destination, may_overwrite, is_misplaced, place_verdict, permits_transfer, transfer_rules}
use Rattle.dav_engine.specs.Move.{MayMove}
use Rattle.dav_engine.specs.Copy.{MayCopy}
use Rattle.dav_engine.specs.declared.transfer.Transfer.{Transfer}

-- ---- one rule

pub permitted_passed : {A : Type 0} (status : ℕ) (permitted : Bool) (a b : A) (records : List Logged) → LeadsTo (where_permitted status permitted a) records (Passed b) → permitted ≡ true
permitted_passed status true a b records h = refl
permitted_passed status false a b [] h = absurd cc
permitted_passed status false a b (r ∷ records) h = absurd h

-- the value itself passes
permitted_value : {A : Type 0} (status : ℕ) (permitted : Bool) (a b : A) (records : List Logged) → LeadsTo (where_permitted status permitted a) records (Passed b) → b ≡ a
permitted_value status true a b [] h = cc
permitted_value status true a b (r ∷ records) h = absurd h
permitted_value status false a b [] h = absurd cc
permitted_value status false a b (r ∷ records) h = absurd h

pub judged_passed : {A : Type 0} (verdict : Result A DavError) (a : A) (records : List Logged) → LeadsTo (judged verdict) records (Passed a) → verdict ≡ Ok a
judged_passed (Ok b) a [] h = let same : a ≡ b = cc in ap Ok (sym same)
judged_passed (Ok b) a (r ∷ records) h = absurd h
judged_passed (Err e) a [] h = absurd cc
judged_passed (Err e) a (r ∷ records) h = absurd h

-- what was found passes
pub path_value : (request : DavRequest) (state : State) (looked : Option Meta) (head : List Logged) (found : Option Meta) → LeadsTo (path_rules request state looked) head (Passed found) → found ≡ looked
path_value request state looked head found h =
    let held = LeadsTo-last (own_conditions request state looked) _ head found h in
    permitted_value 423 (is_permitted request state request.path.key false) looked found held.2 held.4

-- the conditions hold, and the locks of the path permit it
pub path_passed : (request : DavRequest) (state : State) (looked : Option Meta) (head : List Logged) (found : Option Meta) → LeadsTo (path_rules request state looked) head (Passed found) → is_permitted request state request.path.key false ≡ true
path_passed request state looked head found h =
    let held = LeadsTo-last (own_conditions request state looked) _ head found h in
    permitted_passed 423 (is_permitted request state request.path.key false) looked found held.2 held.4

-- ---- the looks

told_passed : (outcome : Outcome) (known : Option Meta) (meta : Meta) (records : List Logged) → LeadsTo (or_refused (lookup_result outcome known)) records (Passed meta) → known ≡ Some meta
told_passed Granted (Some m) meta [] h = let same : meta ≡ m = cc in ap Some (sym same)
told_passed Granted (Some m) meta (r ∷ records) h = absurd h
told_passed Granted None meta [] h = absurd cc
told_passed Granted None meta (r ∷ records) h = absurd h
told_passed (Barred e) known meta [] h = absurd cc
told_passed (Barred e) known meta (r ∷ records) h = absurd h
told_passed (Refused e) known meta [] h = absurd cc
told_passed (Refused e) known meta (r ∷ records) h = absurd h

-- what is to be found is there
pub found_passed : (contents : Contents) (key : Key) (meta : Meta) (records : List Logged) → LeadsTo (must_find contents key) records (Passed meta) → contents.metas key ≡ Some meta
found_passed contents key meta [] h = absurd cc
found_passed contents key meta (r ∷ records) h = told_passed r.outcome (contents.metas key) meta records h.2

-- a lookup whose refusal is passed over
pub looked_passed : (contents : Contents) (key : Key) (found : Option Meta) (records : List Logged) → LeadsTo (look_up contents key) records (Passed found) → (outcome : Outcome) × (found ≡ if_granted outcome (contents.metas key))
looked_passed contents key found [] h = absurd cc
looked_passed contents key found (r ∷ []) h = (r.outcome, let end = h.2 in cc)
looked_passed contents key found (r ∷ s ∷ records) h = absurd h.2

directory_known : (outcome : Outcome) (known found : Option Meta) → found ≡ if_granted outcome known → is_directory found ≡ true → (meta : Meta) × (known ≡ Some meta) × (meta.dir ≡ true)
directory_known Granted (Some meta) found is dir = (meta, refl, sym (ap is_directory is) ∙ dir)
directory_known Granted None found is dir = absurd (let no : false ≡ true = sym (ap is_directory is) ∙ dir in cc)
directory_known (Barred e) known found is dir = absurd (let no : false ≡ true = sym (ap is_directory is) ∙ dir in cc)
directory_known (Refused e) known found is dir = absurd (let no : false ≡ true = sym (ap is_directory is) ∙ dir in cc)

directory_there : (it : Option Node) (known : Option Meta) (meta : Meta) → MetaFits it known → known ≡ Some meta → meta.dir ≡ true → it ≡ Some Directory
directory_there None known meta fits is dir = absurd (let no : None ≡ Some meta = sym fits ∙ is in cc)
directory_there (Some node) None meta fits is dir = absurd fits
directory_there (Some Directory) (Some m) meta fits is dir = refl
directory_there (Some (File bytes)) (Some m) meta fits is dir = let same : m ≡ meta = cc in let no : false ≡ true = sym fits.0 ∙ ap (λ (d : Meta). d.dir) same ∙ dir in absurd cc

verdict_directory : (above : Option Meta) → parent_verdict above ≡ Ok tt → is_directory above ≡ true
verdict_directory above = by_test (is_directory above)
  where
    by_test : (b : Bool) → ◌≡◌ {A = Result (Unit {0}) DavError} (if b then Ok tt else Err (Status 409)) (Ok tt) → b ≡ true
    by_test true is = refl
    by_test false is = absurd cc

-- a directory is above the destination
above_passed : (contents : Contents) (destination : Key) (records : List Logged) → IsWellFormed contents → LeadsTo (must_have_parent contents destination) records (Passed tt) → get contents.tree (parent destination) ≡ Some Directory
above_passed contents destination records formed h =
    let looked = LeadsTo-last (look_up contents (parent destination)) _ records tt h in
    let recorded = looked_passed contents (parent destination) looked.0 looked.1 looked.3 in
    let directory = verdict_directory looked.0 (judged_passed (parent_verdict looked.0) tt looked.2 looked.4) in
    let known = directory_known recorded.0 (contents.metas (parent destination)) looked.0 recorded.1 directory in
    directory_there (get contents.tree (parent destination)) (contents.metas (parent destination)) known.0 (formed.metas (parent destination)) known.1 known.2

-- only that nothing is there is no refusal
absent_told : (e : FsError) (there : Option Meta) → found_or_absent (Err e) ≡ Ok there → (e ≡ NotFound) × (there ≡ None)
absent_told NotFound there is = (refl, let none : None ≡ there = cc in sym none)
absent_told e there is = absurd cc

barred_absent : (it : Option Node) (known : Option Meta) (e : FsError) → MetaFits it known → metadata_bar it ≡ Some e → known ≡ None
barred_absent None known e fits bar = fits
barred_absent (Some node) known e fits bar = absurd cc

known_there : (outcome : Outcome) (it : Option Node) (known there : Option Meta) → MetaFits it known → IsLawful (metadata_bar it) outcome → found_or_absent (lookup_result outcome known) ≡ Ok there → known ≡ there
known_there Granted it (Some meta) there fits lawful is = cc
known_there Granted it None there fits lawful is = cc
known_there (Barred e) it known there fits lawful is = barred_absent it known e fits lawful ∙ sym (absent_told e there is).1
known_there (Refused e) it known there fits lawful is = absurd (lawful.not_missing (absent_told e there is).0)

-- a lookup whose result is passed on
pub closely_passed : (contents : Contents) (key : Key) (recorded : Result Meta FsError) (records : List Logged) → LeadsTo (look_up_result contents key) records (Passed recorded) → (outcome : Outcome) × IsLawful (metadata_bar (get contents.tree key)) outcome × (recorded ≡ lookup_result outcome (contents.metas key))
closely_passed contents key recorded [] h = absurd cc
closely_passed contents key recorded (r ∷ []) h = (r.outcome, h.1, let end = h.2 in cc)
closely_passed contents key recorded (r ∷ s ∷ records) h = absurd h.2

-- it is known what stands at the destination
there_passed : (contents : Contents) (destination : Key) (there : Option Meta) (records : List Logged) → IsWellFormed contents → LeadsTo (look_up_destination contents destination) records (Passed there) → contents.metas destination ≡ there
there_passed contents destination there records formed h =
    let looked = LeadsTo-last (look_up_result contents destination) _ records there h in
    let recorded = closely_passed contents destination looked.0 looked.1 looked.3 in
    let is = judged_passed (found_or_absent looked.0) there looked.2 looked.4 in
    known_there recorded.0 (get contents.tree destination) (contents.metas destination) there (formed.metas destination) recorded.1 (sym (ap found_or_absent recorded.2) ∙ is)

-- ---- where it goes

-- a move reaches all below the source
deep_asked : (depth : Depth) (settings : Settings) (request : DavRequest) (destination : PathValue) → where_reached (reach_verdict true depth) settings request ≡ Ok destination → is_deep depth ≡ true
deep_asked Zero settings request destination is = absurd cc
deep_asked One settings request destination is = refl
deep_asked Infinity settings request destination is = refl
deep_asked Default settings request destination is = refl

placed_well : (taken misplaced : Bool) → ◌≡◌ {A = Result (Unit {0}) DavError} (if taken then Err (Status 412) else (if misplaced then Err (Status 403) else Ok tt)) (Ok tt) → misplaced ≡ false
placed_well true misplaced is = absurd cc
placed_well false true is = absurd cc
placed_well false false is = refl

apart_by : (same below deep above : Bool) → deep ≡ true → (same || (true && below) || (deep && above)) ≡ false → (below ≡ false) × (above ≡ false)
apart_by true below deep above reaches is = absurd cc
apart_by false true deep above reaches is = absurd cc
apart_by false false true true reaches is = absurd cc
apart_by false false true false reaches is = (refl, refl)
apart_by false false false above reaches is = absurd cc

place_passed : (request : DavRequest) (destination : Key) (there : Option Meta) → is_deep (depth_or_all request) ≡ true → place_verdict true request destination there ≡ Ok tt → AreApart request.path.key destination
place_passed request destination there deep is =
    let well = placed_well (is_some there && not (may_overwrite request)) (is_misplaced true (depth_or_all request) request.path.key destination) is in
    let apart = apart_by (is_same_key request.path.key destination) (is_at_or_below destination request.path.key) (is_deep (depth_or_all request)) (is_at_or_below request.path.key destination) deep well in
    record { one_other = apart.1; other_one = apart.0 }

-- ---- all rules of a move

-- the locks let it write at and below the source, and at and below the destination
pub record IsMovePermitted (request : DavRequest) (state : State) (found : Transfer) : Type 0 where
  pub source : is_permitted request state request.path.key true ≡ true
  pub destination : is_permitted request state found.destination.key true ≡ true

both_permitted : (source destination : Bool) → ((not true || source) && destination) ≡ true → (source ≡ true) × (destination ≡ true)
both_permitted true true is = (refl, refl)
both_permitted true false is = absurd cc
both_permitted false destination is = absurd cc

pub record MovePassed (settings : Settings) (request : DavRequest) (state : State) (found : Transfer) : Type 0 where
  pub asked : asked_destination true settings request ≡ Ok found.destination
  pub permitted : IsMovePermitted request state found
  pub may : IsWellFormed state.contents → MayMove request.path.key found state.contents

pub move_passed : (settings : Settings) (request : DavRequest) (state : State) (head : List Logged) (found : Transfer) → LeadsTo (transfer_rules true settings request state) head (Passed found) → MovePassed settings request state found
move_passed settings request state head found h =
    let asked = LeadsTo-last (judged (asked_destination true settings request)) _ head found h in
    let to = asked.0 in
    let found_source = LeadsTo-last (must_find state.contents request.path.key) _ asked.2 found asked.4 in
    let seen = LeadsTo-last (see_destination state.contents to.key) _ found_source.2 found found_source.4 in
    let placed = LeadsTo-last (judged (place_verdict true request to.key seen.0)) _ seen.2 found seen.4 in
    let held = LeadsTo-last (own_conditions request state (Some found_source.0)) _ placed.2 found placed.4 in
    let passed : Transfer = record { meta = found_source.0; destination = to; there = seen.0 } in
    let permitted = permitted_passed 423 (permits_transfer true state.locks request (submitted_tokens request) to.key) passed found held.2 held.4 in
    let is = permitted_value 423 (permits_transfer true state.locks request (submitted_tokens request) to.key) passed found held.2 held.4 in
    let is_asked = judged_passed (asked_destination true settings request) to asked.1 asked.3 in
    let both = both_permitted (is_permitted request state request.path.key true) (is_permitted request state to.key true) permitted in
    let well = judged_passed (place_verdict true request to.key seen.0) tt placed.1 placed.3 in
    let above = LeadsTo-last (must_have_parent state.contents to.key) _ seen.1 seen.0 seen.3 in
    subst (MovePassed settings request state) (sym is) (record {
      asked = is_asked;
      permitted = record { source = both.0; destination = both.1 };
      may = λ formed. record {
        source_there = found_passed state.contents request.path.key found_source.0 found_source.1 found_source.3;
        apart = place_passed request to.key seen.0 (deep_asked (depth_or_all request) settings request to is_asked) well;
        above = above_passed state.contents to.key above.1 formed above.3;
        known = there_passed state.contents to.key seen.0 above.2 formed above.4;
      };
    })

-- ---- all rules of a copy

-- the locks let it write at and below the destination
pub record CopyPassed (settings : Settings) (request : DavRequest) (state : State) (found : Transfer) : Type 0 where
  pub asked : asked_destination false settings request ≡ Ok found.destination
  pub permitted : is_permitted request state found.destination.key true ≡ true
  pub may : IsWellFormed state.contents → MayCopy (depth_or_all request) request.path.key found state.contents

one_permitted : (source destination : Bool) → ((not false || source) && destination) ≡ true → destination ≡ true
one_permitted source true is = refl
one_permitted source false is = absurd cc

elsewhere_by : (same below deep above : Bool) → (same || (false && below) || (deep && above)) ≡ false → (same ≡ false) × (deep ≡ true → above ≡ false)
elsewhere_by true below deep above is = absurd cc
elsewhere_by false below true true is = absurd cc
elsewhere_by false below true false is = (refl, λ reaches. refl)
elsewhere_by false below false above is = (refl, λ reaches. absurd cc)

pub copy_passed : (settings : Settings) (request : DavRequest) (state : State) (head : List Logged) (found : Transfer) → LeadsTo (transfer_rules false settings request state) head (Passed found) → CopyPassed settings request state found
copy_passed settings request state head found h =
    let asked = LeadsTo-last (judged (asked_destination false settings request)) _ head found h in
    let to = asked.0 in
    let found_source = LeadsTo-last (must_find state.contents request.path.key) _ asked.2 found asked.4 in
    let seen = LeadsTo-last (see_destination state.contents to.key) _ found_source.2 found found_source.4 in
    let placed = LeadsTo-last (judged (place_verdict false request to.key seen.0)) _ seen.2 found seen.4 in
    let held = LeadsTo-last (own_conditions request state (Some found_source.0)) _ placed.2 found placed.4 in
    let passed : Transfer = record { meta = found_source.0; destination = to; there = seen.0 } in
    let permitted = permitted_passed 423 (permits_transfer false state.locks request (submitted_tokens request) to.key) passed found held.2 held.4 in
    let is = permitted_value 423 (permits_transfer false state.locks request (submitted_tokens request) to.key) passed found held.2 held.4 in
    let is_asked = judged_passed (asked_destination false settings request) to asked.1 asked.3 in
    let well = judged_passed (place_verdict false request to.key seen.0) tt placed.1 placed.3 in
    let well_placed = placed_well (is_some seen.0 && not (may_overwrite request)) (is_misplaced false (depth_or_all request) request.path.key to.key) well in
    let elsewhere = elsewhere_by (is_same_key request.path.key to.key) (is_at_or_below to.key request.path.key) (is_deep (depth_or_all request)) (is_at_or_below request.path.key to.key) well_placed in
    let above = LeadsTo-last (must_have_parent state.contents to.key) _ seen.1 seen.0 seen.3 in
    subst (CopyPassed settings request state) (sym is) (record {
      asked = is_asked;
      permitted = one_permitted (is_permitted request state request.path.key true) (is_permitted request state to.key true) permitted;
      may = λ formed. record {
        source_there = found_passed state.contents request.path.key found_source.0 found_source.1 found_source.3;
        other = λ same. let no : true ≡ false = sym ((same_key_decides request.path.key to.key).1 same) ∙ elsewhere.0 in cc;
        apart = elsewhere.1;
        above = above_passed state.contents to.key above.1 formed above.3;
        known = there_passed state.contents to.key seen.0 above.2 formed above.4;
      };
    })
