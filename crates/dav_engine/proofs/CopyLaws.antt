-- What follows for its caller from each step of a COPY.
use Rattle.std.proofs.Common.{◌≡◌, ◌≢◌, ◌∙◌, Bool, true, false, List, [], ◌∷◌, ◌++◌, Option, Some, None, is_some, Result, Ok, Err, refl, sym, ap, if◌then◌else◌}
use Rattle.std.specs.FinMap.{get}
use Rattle.std.proofs.lemmas.List.{append_cancel_left}
use Rattle.dav_key.specs.Key.{Key}
use Rattle.dav_resource.specs.PathText.{PathValue}
use Rattle.dav_resource.specs.declared.error.DavError.{DavError}
use Rattle.dav_resource.specs.declared.error.DavError.TheVariants.{Memory}
use Rattle.dav_resource.specs.declared.meta.Meta.{Meta}
use Rattle.dav_resource.specs.declared.request.DavRequest.{DavRequest}
use Rattle.dav_resource.specs.declared.request.Depth.{Depth}
use Rattle.dav_resource.specs.declared.request.Depth.TheVariants.{Zero, One, Infinity, Default}
use Rattle.dav_headers.specs.Destination.{destination_of}
use Rattle.dav_key.specs.Below.{is_at_or_below}
use Rattle.dav_store.specs.Logged.{Logged}
use Rattle.dav_store.specs.Store.{Contents, IsWellFormed}
use Rattle.dav_messages.specs.Multistatus.{Item, multi_answer}
use Rattle.dav_messages.specs.Reply.{Answer}
use Rattle.dav_walks.specs.ClearedLaws.{all_gone}
use Rattle.dav_walks.specs.Copied.{CopiesAll}
use Rattle.dav_walks.specs.Copying.{snapshot, copied}
use Rattle.dav_walks.specs.CopyLaws.{IsCopiedWhole, copied_whole, copy_names_refused}
use Rattle.dav_walks.specs.KeyCall.{standing}
use Rattle.dav_engine.specs.State.{State, IsLawfulState}
use Rattle.dav_engine.specs.Settings.{Settings}
use Rattle.dav_engine.specs.Rules.{depth_or_all, fixed_path, is_deep}
use Rattle.dav_engine.specs.Transferring.{where_reached, reach_verdict, transfer_rules, ClearsIf, UnlessNamed, transferred_items}
use Rattle.dav_engine.specs.Copy.{replaced, MayCopy, CopiesSource, Copies, CopyWork}
use Rattle.dav_engine.specs.Laws.{is_transferred, DuplicatesWhole}
use Rattle.dav_engine.specs.Method.{StepBy, Refused as ByRules, Done, CutShort, CutInWork}
use Rattle.dav_engine.specs.Methods.{copy_method}
use Rattle.dav_engine.specs.declared.transfer.Transfer.{Transfer}
use Rattle.dav_engine.proofs.Replacing.{AreRefusals, apart_below, fits_none, clear_outside, replaced_refused}
use Rattle.dav_engine.proofs.Copying.{replaced_deep, copied_outside}
use Rattle.dav_engine.proofs.MoveLaws.{errs_transfer, named_untold}
use Rattle.dav_engine.proofs.Passing.{CopyPassed, copy_passed}
use Rattle.dav_engine.proofs.Refusals.{AnyError, errs_led}
use Rattle.dav_engine.proofs.Trees.{none_below}

-- ---- the names are refusals

module _ (depth : Depth) (source : PathValue) (found : Transfer) (old new : State) (records : List Logged) where
  copies_refused : (names : List Item) → Copies depth source found old records names new → AreRefusals names
  copies_refused names w =
      replaced_refused (CopiesSource depth source found.destination) (is_some (replaced depth found.there)) found.destination old new records names w
      (λ mid rest follows item inside. copy_names_refused depth source found.destination found.destination.key mid.contents new.contents rest names follows.copied item inside)

-- ---- where nothing is named, all is copied

whole_of : (depth : Depth) (source destination : PathValue) (old new : Contents) (records : List Logged) → is_deep depth ≡ true → CopiesAll depth source destination destination.key old new records [] → IsCopiedWhole source.key destination.key destination.key old new
whole_of Zero source destination old new records deep c = let no : false ≡ true = deep in absurd (cc)
whole_of One source destination old new records deep c = copied_whole source destination destination.key old new c.0 c.2
whole_of Infinity source destination old new records deep c = copied_whole source destination destination.key old new c.0 c.2
whole_of Default source destination old new records deep c = copied_whole source destination destination.key old new c.0 c.2

-- nothing is left at the destination once it is cleared
cleared_out : (there : Option Meta) (destination : PathValue) (old mid : State) (head : List Logged) → IsWellFormed old.contents → old.contents.metas destination.key ≡ there → ClearsIf (is_some there) destination old head [] mid → (x : Key) → get mid.contents.tree (destination.key ++ x) ≡ None
cleared_out None destination old mid head formed known cleared x =
    ap (λ (s : State). get s.contents.tree (destination.key ++ x)) cleared.2
    ∙ none_below old.contents formed x destination.key (fits_none (get old.contents.tree destination.key) (old.contents.metas destination.key) (formed.metas destination.key) known)
cleared_out (Some meta) destination old mid head formed known cleared x = all_gone Infinity destination old.contents mid.contents head (λ e. cc) cleared.removed x

module _ (depth : Depth) (deep : is_deep depth ≡ true) (source : PathValue) (found : Transfer) (old new : State) (records : List Logged) (formed : IsWellFormed old.contents) (may : MayCopy depth source.key found old.contents) where
  module _ (mid : State) (head : List Logged) (cleared : ClearsIf (is_some (replaced depth found.there)) found.destination old head [] mid) where
    kept_source : (x : Key) → is_at_or_below (source.key ++ x) found.destination.key ≡ false → standing mid.contents (source.key ++ x) ≡ standing old.contents (source.key ++ x)
    kept_source x apart = clear_outside (is_some (replaced depth found.there)) found.destination old mid head [] cleared (source.key ++ x) (apart_below (source.key ++ x) found.destination.key apart)

    same_snapshot : (x : Key) → snapshot mid.contents.tree source.key found.destination.key x ≡ snapshot old.contents.tree source.key found.destination.key x
    same_snapshot x = go (is_at_or_below (source.key ++ x) found.destination.key) refl
      where
        go : (b : Bool) → is_at_or_below (source.key ++ x) found.destination.key ≡ b → snapshot mid.contents.tree source.key found.destination.key x ≡ snapshot old.contents.tree source.key found.destination.key x
        go true e = ap (λ b. if b then None else get mid.contents.tree (source.key ++ x)) e ∙ sym (ap (λ b. if b then None else get old.contents.tree (source.key ++ x)) e)
        go false e = ap (λ b. if b then None else get mid.contents.tree (source.key ++ x)) e ∙ ap (λ s. s.0) (kept_source x e) ∙ sym (ap (λ b. if b then None else get old.contents.tree (source.key ++ x)) e)

    -- what is in the snapshot isn't at or below the destination
    outside_of : (x : Key) → snapshot old.contents.tree source.key found.destination.key x ≢ None → is_at_or_below (source.key ++ x) found.destination.key ≡ false
    outside_of x there = go (is_at_or_below (source.key ++ x) found.destination.key) refl
      where
        go : (b : Bool) → is_at_or_below (source.key ++ x) found.destination.key ≡ b → is_at_or_below (source.key ++ x) found.destination.key ≡ false
        go false e = e
        go true e = absurd (there (ap (λ b. if b then None else get old.contents.tree (source.key ++ x)) e))

    gone : (x : Key) → get mid.contents.tree (found.destination.key ++ x) ≡ None
    gone = cleared_out (replaced depth found.there) found.destination old mid head formed (may.known ∙ sym (replaced_deep depth found.there deep)) cleared

  -- what is made of it
  pub record AllCopied : Type 0 where
    pub there : (x : Key) → snapshot old.contents.tree source.key found.destination.key x ≢ None → standing new.contents (found.destination.key ++ x) ≡ copied (standing old.contents (source.key ++ x))
    pub nothing_else : (x : Key) → snapshot old.contents.tree source.key found.destination.key x ≡ None → get new.contents.tree (found.destination.key ++ x) ≡ None

  copies_whole : Copies depth source found old records [] new → AllCopied
  copies_whole w = by_left w.left w.cleared w.follows
    where
      by_left : (kept : List Item) → ClearsIf (is_some (replaced depth found.there)) found.destination old w.removal kept w.between → UnlessNamed (CopiesSource depth source found.destination) kept w.between w.after [] new → AllCopied
      by_left (item ∷ kept) cleared follows = absurd (let none : [] ≡ item ∷ kept = follows.1 in cc)
      by_left [] cleared follows =
          let whole = whole_of depth source found.destination w.between.contents new.contents w.after deep follows.copied in
          record {
            there = λ x there. whole.there x (λ none. there (sym (same_snapshot w.between w.removal cleared x) ∙ none)) ∙ ap copied (kept_source w.between w.removal cleared x (outside_of w.between w.removal cleared x there));
            nothing_else = λ x nothing.
                ap (λ s. s.0) (whole.others (found.destination.key ++ x) (λ y there e. there (ap (snapshot w.between.contents.tree source.key found.destination.key) (sym (append_cancel_left found.destination.key x y e)) ∙ same_snapshot w.between w.removal cleared x ∙ nothing)))
                ∙ gone w.between w.removal cleared x;
          }

-- ---- the laws

module _ (settings : Settings) (request : DavRequest) (old : State) (answer : Answer) (new : State) where
  abbrev CopyTells : Type 0
  CopyTells = DuplicatesWhole settings request old answer new

  error_tells : (e : DavError) → answer ≡ Err e → CopyTells
  error_tells e is recorded deep = absurd (let no : false ≡ true = sym (ap is_transferred is) ∙ recorded in cc)

  module _ (formed : IsWellFormed old.contents) (found : Transfer) (rules : CopyPassed settings request old found) (records : List Logged) where
    abbrev path : PathValue
    path = fixed_path request.path (Some found.meta)

    abbrev depth : Depth
    depth = depth_or_all request

    work_tells : CopyWork settings.profile request found old records answer new → CopyTells
    work_tells work = by_names work.names work.done work.answered
      where
        asked_so : (verdict : Result (Unit {0}) DavError) → where_reached verdict settings request ≡ Ok found.destination → destination_of request.headers settings.prefix ≡ Ok found.destination
        asked_so (Ok reached) is = is
        asked_so (Err e) is = absurd cc

        by_names : (names : List Item) → Copies depth path found old records names new → answer ≡ multi_answer settings.profile path (transferred_items path found.there names) → CopyTells
        by_names [] copies answered recorded deep =
            let whole = copies_whole depth deep path found old new records formed (rules.may formed) copies in
            record {
              destination = found.destination;
              named = asked_so (reach_verdict false depth) rules.asked;
              there = whole.there;
              nothing_else = whole.nothing_else;
              outside = λ key apart. copied_outside depth path found old new records key apart [] copies;
            }
        by_names (item ∷ names) copies answered recorded deep =
            let refusals : AreRefusals (item ∷ names) = copies_refused depth path found old new records (item ∷ names) copies in
            absurd (let no : false ≡ true = sym (ap is_transferred answered ∙ named_untold settings.profile path item names refusals) ∙ recorded in cc)

  step_tells : IsWellFormed old.contents → (records : List Logged) → StepBy copy_method settings request old records answer new → CopyTells
  step_tells formed records (ByRules h) =
      let refused = errs_led AnyError (transfer_rules false settings request old) records answer (errs_transfer false settings request old) h.head in
      error_tells refused.0 refused.1
  step_tells formed records (Done h) = work_tells formed h.found (copy_passed settings request old h.head h.found h.passed) h.rest h.work
  step_tells formed records (CutShort h) = error_tells Memory h.answered
  step_tells formed records (CutInWork h) = error_tells Memory h.answered

pub copy_tells : {settings : Settings} {request : DavRequest} {old new : State} {records : List Logged} {answer : Answer} → IsLawfulState old → StepBy copy_method settings request old records answer new → DuplicatesWhole settings request old answer new
copy_tells {settings} {request} {old} {new} {records} {answer} lawful step = step_tells settings request old answer new lawful.contents records step
