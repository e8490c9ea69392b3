-- What a response to a DELETE, a MOVE or a COPY reports.
use Rattle.std.proofs.Common.{option_map, ◌≡◌, ◌≢◌, ◌∙◌, ℕ, Bool, true, false, not, ◌&&◌, ◌||◌, if◌then◌else◌, List, [], ◌∷◌, ◌++◌, map, filter_map, Option, Some, None, is_some, Result, Ok, Err, inl, inr, refl, sym, ap, subst, IsPermutation, append-nil, append_assoc, cond, arith}
use Rattle.std.specs.FinMap.{get}
use Rattle.std.specs.List.{cons_option}
use Rattle.std.proofs.lemmas.List.Elements.{filter_map-append}
use Rattle.std.proofs.lemmas.List.Sorted.{IsPermutation-refl, IsPermutation-append}
use Rattle.dav_resource.specs.Errors.{fs_status}
use Rattle.dav_key.specs.Key.{Key, parent, tied_decides}
use Rattle.dav_resource.specs.PathText.{PathValue}
use Rattle.dav_resource.specs.declared.error.DavError.{DavError}
use Rattle.dav_resource.specs.declared.error.DavError.TheVariants.{Memory}
use Rattle.dav_resource.specs.declared.error.FsError.{FsError}
use Rattle.dav_resource.specs.declared.error.FsError.TheVariants.{Exists}
use Rattle.dav_resource.specs.declared.meta.Meta.{Meta}
use Rattle.dav_resource.specs.declared.record.Op.{Op}
use Rattle.dav_resource.specs.declared.record.Op.TheVariants.{Metadata, ReadDir, CreateDir, RemoveFile, RemoveDir, Copy, Rename, Entry}
use Rattle.dav_resource.specs.declared.record.Outcome.{Outcome}
use Rattle.dav_resource.specs.declared.record.Outcome.TheVariants.{Granted, Barred, Refused}
use Rattle.dav_resource.specs.declared.request.DavRequest.{DavRequest}
use Rattle.dav_resource.specs.declared.request.Depth.{Depth}
use Rattle.dav_resource.specs.declared.request.Depth.TheVariants.{Zero, One, Infinity, Default}
use Rattle.dav_headers.specs.Destination.{destination_of}
use Rattle.dav_key.specs.Below.{is_at_or_below}
use Rattle.dav_store.specs.BelowLaws.{at_or_below-append}
use Rattle.dav_store.specs.Calls.{record_of, error_of}
use Rattle.dav_store.specs.Logged.{Logged, logged}
use Rattle.dav_store.specs.Members.{IsIn}
use Rattle.dav_store.specs.MemberLaws.{parent-member}
use Rattle.dav_store.specs.Store.{Contents, Node, File, Directory, Tree}
use Rattle.dav_messages.specs.Conditions.{conditions}
use Rattle.dav_messages.specs.Dialogue.{Passed, LeadsTo}
use Rattle.dav_messages.specs.Dialogues.{LeadsTo-last}
use Rattle.dav_messages.specs.Multistatus.{Item}
use Rattle.dav_messages.specs.Reply.{Reply, Answer}
use Rattle.dav_walks.specs.Copied.{CopiesAll, CopiesAlone, EndsAlone, refusal_names, placing_call}
use Rattle.dav_walks.specs.Copying.{CopyStep, logged_step, snapshot, IsCalledFor, IsLawfulCopy, is_directory_node, named_once, names_behind, names_of_copy}
use Rattle.dav_walks.specs.Deletion.{Subtree, Fits, path_at, named_path, named_by, named_in, removal_call, is_call, IsLawfulRemoval, Deletes, Removes}
use Rattle.dav_walks.specs.KeyCall.{KeyCall, logged_call, same_key, calls_at}
use Rattle.dav_walks.specs.Trace.{HasKind}
use Rattle.dav_engine.specs.Copy.{replaced, CopiesSource, Copies, CopyWork}
use Rattle.dav_engine.specs.Delete.{delete_rules, reported_items, DeleteWork}
use Rattle.dav_engine.specs.Method.{StepBy, Refused as ByRules, Done, CutShort, CutInWork}
use Rattle.dav_engine.specs.Methods.{delete_method, copy_method, move_method}
use Rattle.dav_engine.specs.Move.{MovesSource, MoveWork, RenamesAlone}
use Rattle.dav_engine.specs.Reports.{first_key, failure, Reports, is_lookup, removal_item, DeleteReports, is_rename, move_item, MoveReports, reported_key, is_unlisted, is_excused, copy_path, copy_item, copy_items, CopyReports}
use Rattle.dav_engine.specs.Rules.{judged, lookup_result, must_find, own_conditions, is_permitted, where_permitted, depth_or_all, depth_verdict, fixed_path}
use Rattle.dav_engine.specs.Settings.{Settings}
use Rattle.dav_engine.specs.State.{State, IsLawfulState}
use Rattle.dav_engine.specs.Transferring.{where_reached, reach_verdict, transfer_rules, ClearsIf, UnlessNamed, Replaces, source_path, transferred_items}
use Rattle.dav_engine.specs.declared.transfer.Transfer.{Transfer}
use Rattle.dav_engine.proofs.Looking.{looks_led, delete_looks, transfer_looks}
use Rattle.dav_engine.proofs.MoveLaws.{errs_transfer}
use Rattle.dav_engine.proofs.Passing.{found_passed, move_passed, copy_passed}
use Rattle.dav_engine.proofs.Refusals.{AnyError, RefusesBy, errs_then, errs_led, errs_told, errs_conditions, errs_depth, errs_permitted}
use Rattle.dav_engine.proofs.Replacing.{apart_below, clear_outside}

-- ---- lists

permuted : {X : Type 0} (xs ys : List X) → xs ≡ ys → IsPermutation xs ys
permuted xs ys is = subst (IsPermutation xs) is (IsPermutation-refl xs)

given_after : {Y : Type 0} (o : Option Y) (ys zs : List Y) → cons_option o (ys ++ zs) ≡ cons_option o ys ++ zs
given_after None ys zs = refl
given_after (Some y) ys zs = refl

module _ {X Y : Type 0} where
  -- nothing comes from elements that give nothing
  none_given : (h : X → Option Y) (xs : List X) → ((x : X) → IsIn x xs → h x ≡ None) → filter_map h xs ≡ []
  none_given h [] none = refl
  none_given h (x ∷ xs) none = ap (λ o. cons_option o (filter_map h xs)) (none x (inl refl)) ∙ none_given h xs (λ y i. none y (inr i))

  given_mapped : {Z : Type 0} (h : Y → Option Z) (g : X → Option Z) (f : X → Y) (xs : List X) → ((x : X) → IsIn x xs → h (f x) ≡ g x) → filter_map h (map f xs) ≡ filter_map g xs
  given_mapped h g f [] same = refl
  given_mapped h g f (x ∷ xs) same = ap (λ o. cons_option o (filter_map h (map f xs))) (same x (inl refl)) ∙ ap (λ l. cons_option (g x) l) (given_mapped h g f xs (λ y i. same y (inr i)))

-- ---- what the rules of a DELETE refuse by

errs_delete : (request : DavRequest) (state : State) → RefusesBy AnyError (delete_rules request state)
errs_delete request state =
    errs_then AnyError (judged (depth_verdict (depth_or_all request))) _ (errs_depth AnyError (λ s least. tt) (depth_or_all request))
    (λ _. errs_then AnyError (must_find state.contents request.path.key) _ (λ outcome. errs_told AnyError (λ e. tt) (lookup_result outcome (state.contents.metas request.path.key)))
    (λ meta. errs_then AnyError (conditions state.contents state.locks request (Some meta) request.path) _ (errs_conditions AnyError (λ s least. tt) state.contents state.locks request (Some meta) request.path)
    (λ _. errs_permitted AnyError (λ s least. tt) 423 (omega arith) (is_permitted request state request.path.key true) meta)))

-- ---- what the rules of a DELETE pass

value_passed : {A : Type 0} (status : ℕ) (permitted : Bool) (a b : A) (records : List Logged) → LeadsTo (where_permitted status permitted a) records (Passed b) → b ≡ a
value_passed status true a b [] h = cc
value_passed status true a b (r ∷ records) h = absurd h
value_passed status false a b [] h = absurd cc
value_passed status false a b (r ∷ records) h = absurd h

delete_finds : (request : DavRequest) (state : State) (head : List Logged) (meta : Meta) → LeadsTo (delete_rules request state) head (Passed meta) → state.contents.metas request.path.key ≡ Some meta
delete_finds request state head meta h =
    let judged_depth = LeadsTo-last (judged (depth_verdict (depth_or_all request))) _ head meta h in
    let found = LeadsTo-last (must_find state.contents request.path.key) _ judged_depth.2 meta judged_depth.4 in
    let held = LeadsTo-last (own_conditions request state (Some found.0)) _ found.2 meta found.4 in
    found_passed state.contents request.path.key found.0 found.1 found.3 ∙ ap Some (sym (value_passed 423 (is_permitted request state request.path.key true) found.0 meta held.2 held.4))

-- ---- one call

path_itself : (path : PathValue) (slash : Bool) → path_at path slash path.key ≡ path
path_itself path slash = ap (λ b. if b then path else record path { star = false; slash = slash; key = path.key }) ((tied_decides path.key path.key).1 refl)

-- what a removal calls
abbrev is_in_removal : Op → Bool
is_in_removal RemoveFile = true
is_in_removal RemoveDir = true
is_in_removal ReadDir = true
is_in_removal Entry = true
is_in_removal _ = false

fits_in_removal : (op : Op) (it : Option Node) → Fits it op → is_in_removal op ≡ true
fits_in_removal RemoveFile it h = refl
fits_in_removal RemoveDir it h = refl
fits_in_removal ReadDir it h = refl
fits_in_removal Entry it h = refl
fits_in_removal op None h = absurd h
fits_in_removal op (Some Directory) h = absurd h
fits_in_removal op (Some (File bytes)) h = absurd h

no_lookup : (op : Op) → is_in_removal op ≡ true → is_lookup op ≡ false
no_lookup Metadata is = absurd cc
no_lookup op is = refl

removal_is_named : (path : PathValue) (call : KeyCall) → is_in_removal call.op ≡ true → removal_item path (logged_call call) ≡ named_by path call
removal_is_named path call is = ap (λ b. if b then None else named_by path call) (no_lookup call.op is)

no_rename : (op : Op) → is_in_removal op ≡ true → is_rename op ≡ false
no_rename Rename is = absurd cc
no_rename op is = refl

move_is_named : (source path : PathValue) (call : KeyCall) → is_in_removal call.op ≡ true → move_item source path (logged_call call) ≡ named_by path call
move_is_named source path call is = ap (λ b. if b then failure source call.outcome else removal_item path (logged_call call)) (no_rename call.op is) ∙ removal_is_named path call is

looks_no_removal : (path : PathValue) (r : Logged) → r.op ≡ Metadata → removal_item path r ≡ None
looks_no_removal path r is = ap (λ op. if is_lookup op then None else failure (named_path path op (first_key r.keys)) r.outcome) is

looks_no_move : (source path : PathValue) (r : Logged) → r.op ≡ Metadata → move_item source path r ≡ None
looks_no_move source path r is = ap (λ op. if is_rename op then failure source r.outcome else (if is_lookup op then None else failure (named_path path op (first_key r.keys)) r.outcome)) is

-- one call that is reported by this path, if it is not granted
alone_named : (path : PathValue) (outcome : Outcome) (names : List Item) → (outcome ≡ Granted → names ≡ []) → ((e : FsError) → error_of outcome ≡ Some e → names ≡ (path, fs_status e) ∷ []) → cons_option (failure path outcome) [] ≡ names
alone_named path Granted names granted refused = sym (granted refl)
alone_named path (Barred e) names granted refused = sym (refused e refl)
alone_named path (Refused e) names granted refused = sym (refused e refl)

-- ---- a removal

alone_item : (path : PathValue) (old : Contents) (outcome : Outcome) → removal_item path (record_of (removal_call old path.key) outcome) ≡ failure path outcome
alone_item path old outcome = by_node (get old.tree path.key) refl
  where
    by_node : (it : Option Node) → get old.tree path.key ≡ it → removal_item path (record_of (removal_call old path.key) outcome) ≡ failure path outcome
    by_node None is = rw is (ap (λ p. failure p outcome) (path_itself path false))
    by_node (Some Directory) is = rw is (ap (λ p. failure p outcome) (path_itself path true))
    by_node (Some (File bytes)) is = rw is (ap (λ p. failure p outcome) (path_itself path false))

lawful_in_removal : (key : Key) (old new : Contents) (calls : List KeyCall) → IsLawfulRemoval key old new calls → (call : KeyCall) → IsIn call calls → is_in_removal call.op ≡ true
lawful_in_removal key old new calls lawful call i = fits_in_removal call.op (get old.tree call.key) (lawful.fits call i)

module _ (path : PathValue) (old new : Contents) (records : List Logged) (names : List Item) where
  -- by an item that agrees with the removal's
  tree_named : (h : Logged → Option Item) → ((call : KeyCall) → is_in_removal call.op ≡ true → h (logged_call call) ≡ named_by path call)
      → (calls : List KeyCall) → records ≡ map logged_call calls → Deletes path old new calls names → IsPermutation (filter_map h records) names
  tree_named h agrees calls is deletes =
      subst (λ l. IsPermutation l names) (sym (ap (filter_map h) is ∙ given_mapped h (named_by path) logged_call calls (λ call i. agrees call (lawful_in_removal path.key old new calls deletes.lawful call i)))) deletes.named

  removal_named : (depth : Depth) → Removes depth path old new records names → IsPermutation (filter_map (removal_item path) records) names
  removal_named Zero alone =
      permuted _ _ (ap (filter_map (removal_item path)) alone.called ∙ ap (λ o. cons_option o []) (alone_item path old alone.outcome) ∙ alone_named path alone.outcome names (λ g. (alone.granted g).1) (λ e c. (alone.refused e c).1))
  removal_named One whole = tree_named (removal_item path) (removal_is_named path) whole.0 whole.1 whole.2
  removal_named Infinity whole = tree_named (removal_item path) (removal_is_named path) whole.0 whole.1 whole.2
  removal_named Default whole = tree_named (removal_item path) (removal_is_named path) whole.0 whole.1 whole.2

-- ---- DELETE

-- a result that is an error is no response
no_response : {A : Type 0} (answer : Answer) (e : DavError) (reply : Reply) → answer ≡ Err e → answer ≡ Ok reply → A
no_response answer e reply is replied = absurd (let no : ◌≡◌ {A = Answer} (Err e) (Ok reply) = sym is ∙ replied in cc)

module _ (settings : Settings) (request : DavRequest) (old : State) (records : List Logged) (answer : Answer) (new : State) where
  module _ (head rest : List Logged) (meta : Meta) (cut : records ≡ head ++ rest) (passed : LeadsTo (delete_rules request old) head (Passed meta)) where
    abbrev path : PathValue
    path = fixed_path request.path (Some meta)

    removal_alone : filter_map (removal_item path) records ≡ filter_map (removal_item path) rest
    removal_alone =
        ap (filter_map (removal_item path)) cut ∙ filter_map-append (removal_item path) head rest
        ∙ ap (λ l. l ++ filter_map (removal_item path) rest) (none_given (removal_item path) head (λ r i. looks_no_removal path r (looks_led (delete_rules request old) (Passed meta) head (delete_looks request old) passed r i)))

    deleted : DeleteWork settings.profile request meta old rest answer new → DeleteReports settings request old records answer
    deleted work reply replied =
        subst (λ p. Reports settings.profile p (filter_map (removal_item p) records) (reported_items p) reply) (ap (fixed_path request.path) (sym (delete_finds request old head meta passed))) (record {
          names = work.names;
          each = subst (λ l. IsPermutation l work.names) (sym removal_alone) (removal_named path old.contents new.contents rest work.names (depth_or_all request) work.removed);
          answered = sym work.answered ∙ replied;
        })

  delete_answered : StepBy delete_method settings request old records answer new → DeleteReports settings request old records answer
  delete_answered (ByRules h) reply replied =
      let refused = errs_led AnyError (delete_rules request old) records answer (errs_delete request old) h.head in
      no_response answer refused.0 reply refused.1 replied
  delete_answered (Done h) reply replied = deleted h.head h.rest h.found h.cut h.passed h.work reply replied
  delete_answered (CutShort h) reply replied = no_response answer Memory reply h.answered replied
  delete_answered (CutInWork h) reply replied = no_response answer Memory reply h.answered replied

-- ---- what is removed at a destination first

module _ (h : Logged → Option Item) (destination : PathValue) (agrees : (call : KeyCall) → is_in_removal call.op ≡ true → h (logged_call call) ≡ named_by destination call) where
  clears_named : (there : Bool) (old mid : State) (head : List Logged) (kept : List Item) → ClearsIf there destination old head kept mid → IsPermutation (filter_map h head) kept
  clears_named true old mid head kept cleared = tree_named destination old.contents mid.contents head kept h agrees cleared.removed.0 cleared.removed.1 cleared.removed.2
  clears_named false old mid head kept cleared = permuted _ _ (ap (filter_map h) cleared.0 ∙ sym cleared.1)

  replaces_named : (Follows : State → List Logged → List Item → State → Type 0) (there : Bool) (old new : State) (records : List Logged) (names : List Item) → Replaces Follows there destination old records names new
      → ((mid : State) (rest : List Logged) → Follows mid rest names new → IsPermutation (filter_map h rest) names) → IsPermutation (filter_map h records) names
  replaces_named Follows there old new records names w further = by_left w.left w.cleared w.follows
    where
      by_left : (kept : List Item) → ClearsIf there destination old w.removal kept w.between → UnlessNamed Follows kept w.between w.after names new → IsPermutation (filter_map h records) names
      by_left [] cleared follows =
          subst (λ l. IsPermutation l names) (sym (ap (filter_map h) w.cut ∙ filter_map-append h w.removal w.after))
          (IsPermutation-append (filter_map h w.removal) [] (filter_map h w.after) names (clears_named there old w.between w.removal [] cleared) (further w.between w.after follows))
      by_left (item ∷ kept) cleared follows =
          subst (λ l. IsPermutation l names) (sym (ap (filter_map h) (w.cut ∙ ap (λ l. w.removal ++ l) follows.0 ∙ append-nil w.removal)))
          (subst (IsPermutation (filter_map h w.removal)) (sym follows.1) (clears_named there old w.between w.removal (item ∷ kept) cleared))

-- the destination is that of the header
asked_so : (settings : Settings) (request : DavRequest) (destination : PathValue) (verdict : Result (Unit {0}) DavError) → where_reached verdict settings request ≡ Ok destination → destination_of request.headers settings.prefix ≡ Ok destination
asked_so settings request destination (Ok reached) is = is
asked_so settings request destination (Err e) is = absurd cc

-- ---- MOVE

renames_named : (source destination : PathValue) (old new : Contents) (records : List Logged) (names : List Item) → RenamesAlone source destination old new records names → IsPermutation (filter_map (move_item source destination) records) names
renames_named source destination old new records names renamed =
    permuted _ _ (ap (filter_map (move_item source destination)) renamed.called ∙ alone_named source renamed.outcome names (λ g. (renamed.granted g).1) (λ e c. (renamed.refused e c).1))

module _ (settings : Settings) (request : DavRequest) (old : State) (lawful : IsLawfulState old) (records : List Logged) (answer : Answer) (new : State) where
  module _ (head rest : List Logged) (found : Transfer) (cut : records ≡ head ++ rest) (passed : LeadsTo (transfer_rules true settings request old) head (Passed found)) where
    abbrev move_path : PathValue
    move_path = source_path request found

    move_alone : filter_map (move_item move_path found.destination) records ≡ filter_map (move_item move_path found.destination) rest
    move_alone =
        ap (filter_map (move_item move_path found.destination)) cut ∙ filter_map-append (move_item move_path found.destination) head rest
        ∙ ap (λ l. l ++ filter_map (move_item move_path found.destination) rest)
        (none_given (move_item move_path found.destination) head (λ r i. looks_no_move move_path found.destination r (looks_led (transfer_rules true settings request old) (Passed found) head (transfer_looks request old true settings) passed r i)))

    moved : MoveWork settings.profile request found old rest answer new → MoveReports settings request old records answer
    moved work reply replied =
        let rules = move_passed settings request old head found passed in
        let may = rules.may lawful.contents in
        let each =
        replaces_named (move_item move_path found.destination) found.destination (move_is_named move_path found.destination) (MovesSource move_path found.destination) (is_some found.there) old new rest work.names work.done
        (λ mid more follows. renames_named move_path found.destination mid.contents new.contents more work.names follows.renamed) in
        let reports : Reports settings.profile move_path (filter_map (move_item move_path found.destination) records) (transferred_items move_path found.there) reply =
        record { names = work.names; each = subst (λ l. IsPermutation l work.names) (sym move_alone) each; answered = sym work.answered ∙ replied } in
        record {
          destination = found.destination;
          named = asked_so settings request found.destination (reach_verdict true (depth_or_all request)) rules.asked;
          reports = subst (λ p. Reports settings.profile p (filter_map (move_item p found.destination) records) (transferred_items p (old.contents.metas found.destination.key)) reply) (ap (fixed_path request.path) (sym may.source_there))
              (subst (λ there. Reports settings.profile move_path (filter_map (move_item move_path found.destination) records) (transferred_items move_path there) reply) (sym may.known) reports);
        }

  move_answered : StepBy move_method settings request old records answer new → MoveReports settings request old records answer
  move_answered (ByRules h) reply replied =
      let refused = errs_led AnyError (transfer_rules true settings request old) records answer (errs_transfer true settings request old) h.head in
      no_response answer refused.0 reply refused.1 replied
  move_answered (Done h) reply replied = moved h.head h.rest h.found h.cut h.passed h.work reply replied
  move_answered (CutShort h) reply replied = no_response answer Memory reply h.answered replied
  move_answered (CutInWork h) reply replied = no_response answer Memory reply h.answered replied

-- ---- COPY: the removal

-- a call is among those on its key
call_at : (calls : List KeyCall) (call : KeyCall) → IsIn call calls → IsIn (call.op, call.outcome) (calls_at calls call.key)
call_at [] call i = absurd i
call_at (c ∷ cs) call i = go (same_key c.key call.key) refl (λ j. call_at cs call j) i
  where
    go : (b : Bool) → same_key c.key call.key ≡ b → (IsIn call cs → IsIn (call.op, call.outcome) (calls_at cs call.key))
        → IsIn call (c ∷ cs) → IsIn (call.op, call.outcome) (cond b ((c.op, c.outcome) ∷ calls_at cs call.key) (calls_at cs call.key))
    go true e further (inl same) = inl (ap (λ (d : KeyCall). (d.op, d.outcome)) same)
    go true e further (inr j) = inr (further j)
    go false e further (inl same) = absurd (let no : false ≡ true = sym e ∙ (tied_decides c.key call.key).1 (ap (λ (d : KeyCall). d.key) same) in cc)
    go false e further (inr j) = further j

-- what a removal reports is at its path or below it
reported_below : (top : Key) (old new : Contents) (calls : List KeyCall) → IsLawfulRemoval top old new calls → (call : KeyCall) → IsIn call calls → is_at_or_below (reported_key call.op call.key) top ≡ true
reported_below top old new calls lawful call i = by_op call.op refl
  where
    at : (x : Key) × (call.key ≡ top ++ x)
    at = lawful.within call i

    by_op : (op : Op) → call.op ≡ op → is_at_or_below (reported_key op call.key) top ≡ true
    by_op Entry is =
        let inside = subst (λ key. IsIn (call.op, call.outcome) (calls_at calls key)) at.1 (call_at calls call i) in
        let entry = lawful.entries at.0 call.outcome (subst (λ op. IsIn (op, call.outcome) (calls_at calls (top ++ at.0))) is inside) in
        let above : parent call.key ≡ top ++ entry.0 = ap parent (at.1 ∙ ap (λ x. top ++ x) entry.2 ∙ sym (append_assoc top entry.0 (entry.1 ∷ []))) ∙ parent-member (top ++ entry.0) entry.1 in
        ap (λ key. is_at_or_below key top) above ∙ at_or_below-append top entry.0
    by_op op is = ap (λ key. is_at_or_below key top) at.1 ∙ at_or_below-append top at.0

module _ (depth : Depth) (source destination : PathValue) (tree : Tree) where
  removal_copied : (op : Op) (key : Key) (outcome : Outcome) → is_in_removal op ≡ true → is_at_or_below (reported_key op key) destination.key ≡ true
      → (copy_item depth source destination tree false (logged op (key ∷ []) outcome) ≡ named_by destination (record { key = key; op = op; outcome = outcome })) × (is_unlisted destination (logged op (key ∷ []) outcome) ≡ false)
  removal_copied RemoveFile key outcome is at = (ap (λ b. failure (if b then named_path destination RemoveFile key else path_at source (is_directory_node (get tree key)) key) outcome) at, refl)
  removal_copied RemoveDir key outcome is at = (ap (λ b. failure (if b then named_path destination RemoveDir key else path_at source (is_directory_node (get tree key)) key) outcome) at, refl)
  removal_copied ReadDir key outcome is at = (ap (λ b. failure (if b then named_path destination ReadDir key else path_at source (is_directory_node (get tree key)) key) outcome) at, refl)
  removal_copied Entry key outcome is at = (ap (λ b. failure (if b then named_path destination Entry key else path_at source (is_directory_node (get tree (parent key))) (parent key)) outcome) at, ap (λ b. not b) at)
  removal_copied op key outcome is at = absurd (let no : false ≡ true = is in cc)

  cleared_copied : (calls : List KeyCall) → ((call : KeyCall) → IsIn call calls → (is_in_removal call.op ≡ true) × (is_at_or_below (reported_key call.op call.key) destination.key ≡ true)) → (rest : List Logged)
      → copy_items depth source destination tree false (map logged_call calls ++ rest) ≡ named_in destination calls ++ copy_items depth source destination tree false rest
  cleared_copied [] all rest = refl
  cleared_copied (call ∷ calls) all rest =
      let these = all call (inl refl) in
      let first = removal_copied call.op call.key call.outcome these.0 these.1 in
      ap (λ after_unlisted. cons_option (copy_item depth source destination tree false (logged_call call)) (copy_items depth source destination tree after_unlisted (map logged_call calls ++ rest))) first.1
      ∙ ap (λ o. cons_option o (copy_items depth source destination tree false (map logged_call calls ++ rest))) first.0
      ∙ ap (λ l. cons_option (named_by destination call) l) (cleared_copied calls (λ c i. all c (inr i)) rest)
      ∙ given_after (named_by destination call) (named_in destination calls) (copy_items depth source destination tree false rest)

  record Clearance (head rest : List Logged) (kept : List Item) : Type 0 where
    items : List Item
    first : copy_items depth source destination tree false (head ++ rest) ≡ items ++ copy_items depth source destination tree false rest
    each : IsPermutation items kept

  clears_copied : (there : Bool) (old mid : State) (head rest : List Logged) (kept : List Item) → ClearsIf there destination old head kept mid → Clearance head rest kept
  clears_copied true old mid head rest kept cleared =
      let calls = cleared.removed.0 in
      let lawful = cleared.removed.2.lawful in
      record {
        items = named_in destination calls;
        first = ap (λ l. copy_items depth source destination tree false (l ++ rest)) cleared.removed.1
            ∙ cleared_copied calls (λ call i. (lawful_in_removal destination.key old.contents mid.contents calls lawful call i, reported_below destination.key old.contents mid.contents calls lawful call i)) rest;
        each = cleared.removed.2.named;
      }
  clears_copied false old mid head rest kept cleared =
      record { items = []; first = ap (λ l. copy_items depth source destination tree false (l ++ rest)) cleared.0; each = permuted _ _ (sym cleared.1) }

-- ---- COPY: the copy

-- with Depth 0
module _ (source destination : PathValue) (tree : Tree) (old new : Contents) where
  abbrev end_names : Option Node → Outcome → List Item
  end_names it Granted = []
  end_names it (Barred e) = refusal_names source destination it e
  end_names it (Refused e) = refusal_names source destination it e

  end_is : (names : List Item) (outcome : Outcome) → EndsAlone source destination old new names outcome → end_names (get old.tree source.key) outcome ≡ names
  end_is names Granted end = sym end.1
  end_is names (Barred e) end = sym end.1
  end_is names (Refused e) end = sym end.1

  copy_ends : (it : Option Node) (outcome : Outcome) → cons_option (failure source outcome) [] ≡ end_names it outcome → copy_items Zero source destination tree false (logged Copy (source.key ∷ destination.key ∷ []) outcome ∷ []) ≡ end_names it outcome
  copy_ends it outcome is = ap (λ p. cons_option (failure p outcome) []) (path_itself source (is_directory_node (get tree source.key))) ∙ is

  made_items : (e : FsError) → (if is_excused CreateDir Zero (Some e) || false then [] else (destination, fs_status e) ∷ []) ≡ refusal_names source destination (Some Directory) e
  made_items Exists = refl
  made_items e = refl

  without : (b : Bool) (item : Item) → cons_option (if b then None else Some item) [] ≡ (if b then [] else item ∷ [])
  without true item = refl
  without false item = refl

  make_path : copy_path Zero source destination tree CreateDir destination.key ≡ destination
  make_path =
      ap (λ b. if b then path_at destination true destination.key else path_at source (is_directory_node (get tree destination.key)) destination.key) (ap (λ k. is_at_or_below k destination.key) (sym (append-nil destination.key)) ∙ at_or_below-append destination.key [])
      ∙ path_itself destination true

  make_ends : (outcome : Outcome) → copy_items Zero source destination tree false (logged CreateDir (destination.key ∷ []) outcome ∷ []) ≡ end_names (Some Directory) outcome
  make_ends Granted = refl
  make_ends (Barred e) =
      ap (λ p. cons_option (if is_excused CreateDir Zero (Some e) || false then None else failure p (Barred e)) []) make_path ∙ without (is_excused CreateDir Zero (Some e) || false) (destination, fs_status e) ∙ made_items e
  make_ends (Refused e) =
      ap (λ p. cons_option (if is_excused CreateDir Zero (Some e) || false then None else failure p (Refused e)) []) make_path ∙ without (is_excused CreateDir Zero (Some e) || false) (destination, fs_status e) ∙ made_items e

  placed_ends : (outcome : Outcome) → copy_items Zero source destination tree false (record_of (placing_call old source.key destination.key) outcome ∷ []) ≡ end_names (get old.tree source.key) outcome
  placed_ends outcome = by_node (get old.tree source.key) refl
    where
      of_file : (it : Option Node) → ((e : FsError) → refusal_names source destination it e ≡ (source, fs_status e) ∷ []) → (out : Outcome) → cons_option (failure source out) [] ≡ end_names it out
      of_file it is Granted = refl
      of_file it is (Barred e) = sym (is e)
      of_file it is (Refused e) = sym (is e)

      by_node : (it : Option Node) → get old.tree source.key ≡ it → copy_items Zero source destination tree false (record_of (placing_call old source.key destination.key) outcome ∷ []) ≡ end_names (get old.tree source.key) outcome
      by_node None is = rw is (copy_ends None outcome (of_file None (λ e. refl) outcome))
      by_node (Some (File bytes)) is = rw is (copy_ends (Some (File bytes)) outcome (of_file (Some (File bytes)) (λ e. refl) outcome))
      by_node (Some Directory) is = rw is (make_ends outcome)

  alone_copied : (records : List Logged) (names : List Item) → CopiesAlone source destination old new records names → copy_items Zero source destination tree false records ≡ names
  alone_copied records names (inl unlooked) =
      ap (copy_items Zero source destination tree false) unlooked.called
      ∙ ap (λ p. cons_option (failure p unlooked.outcome) []) (path_itself source (is_directory_node (get tree source.key)))
      ∙ ap (λ o. cons_option (option_map (λ e. (source, fs_status e)) o) []) unlooked.cause ∙ sym unlooked.named
  alone_copied records names (inr placed) = ap (copy_items Zero source destination tree false) placed.called ∙ placed_ends placed.outcome ∙ end_is names placed.outcome placed.ended

-- with any other depth
module _ (depth : Depth) (deep : (cause : Option FsError) → is_excused CreateDir depth cause ≡ false) (source destination : PathValue) (tree : Tree) (old new : Contents)
    (same : (key : Key) → is_at_or_below key destination.key ≡ false → get tree key ≡ get old.tree key)
    (steps : List CopyStep) (lawful : IsLawfulCopy source.key destination.key destination.key old new steps) where
  abbrev snap : Subtree
  snap = snapshot old.tree source.key destination.key

  record StandsAt (x : Key) : Type 0 where
    outside : is_at_or_below (source.key ++ x) destination.key ≡ false
    node_is : get tree (source.key ++ x) ≡ snap x

  stands : (x : Key) → snap x ≢ None → StandsAt x
  stands x there = go (is_at_or_below (source.key ++ x) destination.key) refl
    where
      go : (b : Bool) → is_at_or_below (source.key ++ x) destination.key ≡ b → StandsAt x
      go true e = absurd (there (ap (λ b. if b then None else get old.tree (source.key ++ x)) e))
      go false e = record { outside = e; node_is = same (source.key ++ x) e ∙ sym (ap (λ b. if b then None else get old.tree (source.key ++ x)) e) }

  file_there : (x : Key) → HasKind false (snap x) → snap x ≢ None
  file_there x is none = let no : Some (File is.0) ≡ None = sym is.1 ∙ none in cc

  directory_there : (x : Key) → HasKind true (snap x) → snap x ≢ None
  directory_there x is none = let no : Some Directory ≡ None = sym is ∙ none in cc

  record SameStep (after_unlisted : Bool) (step : CopyStep) : Type 0 where
    item : copy_item depth source destination tree after_unlisted (logged_step source.key destination.key step) ≡ named_once source destination snap after_unlisted step
    next : is_unlisted destination (logged_step source.key destination.key step) ≡ not (is_call step.op)

  by_node_at : (after_unlisted : Bool) (outcome : Outcome) (x : Key) → StandsAt x
      → (if after_unlisted && false then None else failure (path_at source (is_directory_node (get tree (source.key ++ x))) (source.key ++ x)) outcome) ≡ (if after_unlisted && false then None else failure (path_at source (is_directory_node (snap x)) (source.key ++ x)) outcome)
  by_node_at after_unlisted outcome x at = ap (λ it. if after_unlisted && false then None else failure (path_at source (is_directory_node it) (source.key ++ x)) outcome) at.node_is

  same_step : (after_unlisted : Bool) (op : Op) (x : Key) (outcome : Outcome) → IsCalledFor snap op x steps → SameStep after_unlisted (record { at = x; op = op; outcome = outcome })
  same_step after_unlisted Metadata x outcome called = record { item = by_node_at after_unlisted outcome x (stands x called.0); next = refl }
  same_step after_unlisted Copy x outcome called = record { item = by_node_at after_unlisted outcome x (stands x (file_there x called.0)); next = refl }
  same_step after_unlisted ReadDir x outcome called =
      let at = stands x (directory_there x called.0) in
      record {
        item = ap (λ b. if after_unlisted && false then None else failure (if b then named_path destination ReadDir (source.key ++ x) else path_at source (is_directory_node (get tree (source.key ++ x))) (source.key ++ x)) outcome) at.outside
            ∙ by_node_at after_unlisted outcome x at;
        next = refl;
      }
  same_step after_unlisted CreateDir x outcome called = record {
    item =
        ap (λ b. if b || (after_unlisted && false) then None else failure (copy_path depth source destination tree CreateDir (destination.key ++ x)) outcome) (deep (error_of outcome))
        ∙ ap (λ b. if after_unlisted && false then None else failure (if b then named_path destination CreateDir (destination.key ++ x) else path_at source (is_directory_node (get tree (destination.key ++ x))) (destination.key ++ x)) outcome) (at_or_below-append destination.key x);
    next = refl;
  }
  same_step after_unlisted Entry x outcome called =
      let above = called.0 in
      let name = called.1 in
      let listed = lawful.called_for (record { at = above; op = ReadDir; outcome = Granted }) called.3 in
      let at = stands above (directory_there above listed.0) in
      let up : parent (source.key ++ x) ≡ source.key ++ above = ap (λ y. parent (source.key ++ y)) called.2 ∙ ap parent (sym (append_assoc source.key above (name ∷ []))) ∙ parent-member (source.key ++ above) name in
      let back : parent x ≡ above = ap parent called.2 ∙ parent-member above name in
      record {
        item =
            ap (λ k. if after_unlisted && not (is_at_or_below k destination.key) then None else failure (if is_at_or_below k destination.key then path_at destination true k else path_at source (is_directory_node (get tree k)) k) outcome) up
            ∙ ap (λ b. if after_unlisted && not b then None else failure (if b then path_at destination true (source.key ++ above) else path_at source (is_directory_node (get tree (source.key ++ above))) (source.key ++ above)) outcome) at.outside
            ∙ ap (λ it. if after_unlisted && true then None else failure (path_at source (is_directory_node it) (source.key ++ above)) outcome) (at.node_is ∙ listed.0)
            ∙ ap (λ y. if after_unlisted && true then None else failure (path_at source true (source.key ++ y)) outcome) (sym back);
        next = ap (λ k. not (is_at_or_below k destination.key)) up ∙ ap (λ b. not b) at.outside;
      }
  same_step after_unlisted op x outcome called = absurd called

  same_steps : (after_unlisted : Bool) (some : List CopyStep) → ((step : CopyStep) → IsIn step some → IsCalledFor snap step.op step.at steps)
      → copy_items depth source destination tree after_unlisted (map (logged_step source.key destination.key) some) ≡ names_behind source destination snap after_unlisted some
  same_steps after_unlisted [] called = refl
  same_steps after_unlisted (step ∷ some) called =
      let first = same_step after_unlisted step.op step.at step.outcome (called step (inl refl)) in
      ap (λ o. cons_option o (copy_items depth source destination tree (is_unlisted destination (logged_step source.key destination.key step)) (map (logged_step source.key destination.key) some))) first.item
      ∙ ap (λ t. cons_option (named_once source destination snap after_unlisted step) (copy_items depth source destination tree t (map (logged_step source.key destination.key) some))) first.next
      ∙ ap (λ l. cons_option (named_once source destination snap after_unlisted step) l) (same_steps (not (is_call step.op)) some (λ s i. called s (inr i)))

  deep_copied : (records : List Logged) (names : List Item) → records ≡ map (logged_step source.key destination.key) steps → IsPermutation (names_of_copy source destination snap steps) names
      → IsPermutation (copy_items depth source destination tree false records) names
  deep_copied records names is named =
      subst (λ l. IsPermutation l names) (sym (ap (copy_items depth source destination tree false) is ∙ same_steps false steps (λ step i. lawful.called_for step i))) named

module _ (source destination : PathValue) (tree : Tree) (old new : Contents) (same : (key : Key) → is_at_or_below key destination.key ≡ false → get tree key ≡ get old.tree key) (records : List Logged) (names : List Item) where
  all_copied : (depth : Depth) → CopiesAll depth source destination destination.key old new records names → IsPermutation (copy_items depth source destination tree false records) names
  all_copied Zero alone = permuted _ _ (alone_copied source destination tree old new records names alone)
  all_copied One whole = deep_copied One (λ cause. refl) source destination tree old new same whole.0 whole.2.lawful records names whole.1 whole.2.named
  all_copied Infinity whole = deep_copied Infinity (λ cause. refl) source destination tree old new same whole.0 whole.2.lawful records names whole.1 whole.2.named
  all_copied Default whole = deep_copied Default (λ cause. refl) source destination tree old new same whole.0 whole.2.lawful records names whole.1 whole.2.named

-- ---- COPY

module _ (depth : Depth) (source : PathValue) (found : Transfer) (old new : State) (rest : List Logged) (names : List Item) where
  copies_named : Copies depth source found old rest names new → IsPermutation (copy_items depth source found.destination old.contents.tree false rest) names
  copies_named w = by_left w.left w.cleared w.follows
    where
      by_left : (kept : List Item) → ClearsIf (is_some (replaced depth found.there)) found.destination old w.removal kept w.between → UnlessNamed (CopiesSource depth source found.destination) kept w.between w.after names new
          → IsPermutation (copy_items depth source found.destination old.contents.tree false rest) names
      by_left [] cleared follows =
          let first = clears_copied depth source found.destination old.contents.tree (is_some (replaced depth found.there)) old w.between w.removal w.after [] cleared in
          let same : (key : Key) → is_at_or_below key found.destination.key ≡ false → get old.contents.tree key ≡ get w.between.contents.tree key =
          λ key apart. sym (ap (λ s. s.0) (clear_outside (is_some (replaced depth found.there)) found.destination old w.between w.removal [] cleared key (apart_below key found.destination.key apart))) in
          subst (λ l. IsPermutation l names) (sym (ap (copy_items depth source found.destination old.contents.tree false) w.cut ∙ first.first))
          (IsPermutation-append first.items [] (copy_items depth source found.destination old.contents.tree false w.after) names first.each
          (all_copied source found.destination old.contents.tree w.between.contents new.contents same w.after names depth follows.copied))
      by_left (item ∷ kept) cleared follows =
          let first = clears_copied depth source found.destination old.contents.tree (is_some (replaced depth found.there)) old w.between w.removal [] (item ∷ kept) cleared in
          let all = ap (copy_items depth source found.destination old.contents.tree false) (w.cut ∙ ap (λ l. w.removal ++ l) follows.0) ∙ first.first ∙ append-nil first.items in
          subst (λ l. IsPermutation l names) (sym all) (subst (IsPermutation first.items) (sym follows.1) first.each)

module _ (settings : Settings) (request : DavRequest) (old : State) (lawful : IsLawfulState old) (records : List Logged) (answer : Answer) (new : State) where
  module _ (head rest : List Logged) (found : Transfer) (cut : records ≡ head ++ rest) (passed : LeadsTo (transfer_rules false settings request old) head (Passed found)) where
    abbrev from : PathValue
    from = source_path request found

    abbrev ItemsOf : PathValue → List Item
    ItemsOf path = copy_items (depth_or_all request) path found.destination old.contents.tree false rest

    copied_so : CopyWork settings.profile request found old rest answer new → CopyReports settings request old records answer
    copied_so work reply replied =
        let rules = copy_passed settings request old head found passed in
        let may = rules.may lawful.contents in
        let reports : Reports settings.profile from (ItemsOf from) (transferred_items from found.there) reply =
        record { names = work.names; each = copies_named (depth_or_all request) from found old new rest work.names work.done; answered = sym work.answered ∙ replied } in
        record {
          head = head;
          rest = rest;
          cut = cut;
          found = found;
          passed = passed;
          named = asked_so settings request found.destination (reach_verdict false (depth_or_all request)) rules.asked;
          reports = subst (λ p. Reports settings.profile p (ItemsOf p) (transferred_items p (old.contents.metas found.destination.key)) reply) (ap (fixed_path request.path) (sym may.source_there))
              (subst (λ there. Reports settings.profile from (ItemsOf from) (transferred_items from there) reply) (sym may.known) reports);
        }

  copy_answered : StepBy copy_method settings request old records answer new → CopyReports settings request old records answer
  copy_answered (ByRules h) reply replied =
      let refused = errs_led AnyError (transfer_rules false settings request old) records answer (errs_transfer false settings request old) h.head in
      no_response answer refused.0 reply refused.1 replied
  copy_answered (Done h) reply replied = copied_so h.head h.rest h.found h.cut h.passed h.work reply replied
  copy_answered (CutShort h) reply replied = no_response answer Memory reply h.answered replied
  copy_answered (CutInWork h) reply replied = no_response answer Memory reply h.answered replied

-- ---- of a step

pub delete_reports : {settings : Settings} {request : DavRequest} {old : State} {records : List Logged} {answer : Answer} {new : State} → IsLawfulState old → StepBy delete_method settings request old records answer new → DeleteReports settings request old records answer
delete_reports {settings} {request} {old} {records} {answer} {new} lawful step = delete_answered settings request old records answer new step

pub move_reports : {settings : Settings} {request : DavRequest} {old : State} {records : List Logged} {answer : Answer} {new : State} → IsLawfulState old → StepBy move_method settings request old records answer new → MoveReports settings request old records answer
move_reports {settings} {request} {old} {records} {answer} {new} lawful step = move_answered settings request old lawful records answer new step

pub copy_reports : {settings : Settings} {request : DavRequest} {old : State} {records : List Logged} {answer : Answer} {new : State} → IsLawfulState old → StepBy copy_method settings request old records answer new → CopyReports settings request old records answer
copy_reports {settings} {request} {old} {records} {answer} {new} lawful step = copy_answered settings request old lawful records answer new step
