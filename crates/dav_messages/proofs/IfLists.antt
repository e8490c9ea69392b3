-- The header If, judged step by step.
use Rattle.std.proofs.Common.{◌≡◌, ◌+◌, ◌<◌, ◌++◌, ℕ, Bool, true, false, List, [], ◌∷◌, drop, take, get_or, length, Option, Some, None, option_map, option_copied, Bor, Result, Ok, Err, refl, ap, sym, subst}
use Rattle.std.specs.Result.{IsErrAnd}
use Rattle.std.proofs.lemmas.List.{take_more, at_drop_more}
use Rattle.std.proofs.lemmas.List.Elements.{filter_map-append}
use Rattle.dav_resource.specs.Gives.{GivesBy}
use Rattle.dav_key.specs.Key.{Key}
use Rattle.dav_resource.specs.PathText.{PathValue}
use Rattle.dav_resource.specs.declared.error.DavError.{DavError}
use Rattle.dav_headers.specs.declared.if_header.IfList.{IfList}
use Rattle.dav_headers.specs.declared.if_header.IfCondition.{IfCondition}
use Rattle.dav_store.specs.Store.{Store}
use Rattle.dav_store.specs.declared.lock.DavLock.{DavLock}
use Rattle.dav_messages.specs.Dialogue.{Dialogue, Passed, ◌>>=◌, Judges, Reaches}
use Rattle.dav_messages.specs.Dialogues.{judges_exit, judges_pure, judges_left, reaches_then}
use Rattle.dav_messages.specs.Conditions.{token_of, tokens_in, condition_holds, all_hold, key_of_list, conditions_hold, any_holds, while_true, until_true}

-- ---- tokens

-- one more condition
pub tokens_in-more : (conditions : List IfCondition) (i : ℕ) (c : IfCondition) → i < length conditions → c ≡ get_or conditions i c
    → tokens_in (take (i + 1) conditions) ≡ tokens_in (take i conditions) ++ tokens_in (c ∷ [])
tokens_in-more conditions i c within is =
    rw (take_more conditions i c within, ← is) (filter_map-append (λ (c : IfCondition). token_of c.item) (take i conditions) (c ∷ []))

-- one more token, or none
pub tokens_in-some : (c : IfCondition) (token : List ℕ) → token_of c.item ≡ Some token → tokens_in (c ∷ []) ≡ token ∷ []
tokens_in-some c token is = rw is refl

pub tokens_in-none : (c : IfCondition) → token_of c.item ≡ None → tokens_in (c ∷ []) ≡ []
tokens_in-none c is = rw is refl

-- ---- a dialogue of which this part is next

module _ (dialogue left part : Dialogue Bool) (after : Bool → Dialogue Bool) (old mid new : Store) (is : left ≡ part >>= after) (h : Reaches dialogue old left mid) where
  -- the part ends in a value
  pub goes_on : (holds : Bool) → Judges part mid (Ok holds) new → Reaches dialogue old (after holds) new
  goes_on holds g = reaches_then dialogue part after old mid new holds (rw is at h) g

  -- the part has no memory
  pub stops : (e : DavError) (verdict : Result Bool DavError) → IsErrAnd verdict (λ d. d ≡ e) → Judges part mid (Err e) new → Judges dialogue old verdict new
  stops e verdict exit g = judges_left dialogue _ old mid new verdict (rw is at h) (judges_exit after part mid new e verdict exit g)

-- it ends in a value
pub ends_here : (dialogue left : Dialogue Bool) (old new : Store) (holds : Bool) → left ≡ Passed holds → Reaches dialogue old left new → Judges dialogue old (Ok holds) new
ends_here dialogue left old new holds is h = judges_left dialogue left old new new (Ok holds) h (judges_pure left new (Ok holds) (sym is))

-- ---- the conditions of a list

module _ (locks : Option (List DavLock)) (key : Option Key) (conditions : List IfCondition) (i : ℕ) (c : IfCondition) (old mid new : Store) (within : i < length conditions) (is : c ≡ get_or conditions i c) where
  abbrev Holding : List IfCondition → Type 0
  Holding left = Reaches (all_hold old.contents locks key conditions) old (all_hold old.contents locks key left) mid

  abbrev after_condition : Bool → Dialogue Bool
  after_condition holds = while_true holds (all_hold old.contents locks key (drop (i + 1) conditions))

  next_condition : all_hold old.contents locks key (drop i conditions) ≡ condition_holds old.contents locks key c >>= after_condition
  next_condition = rw (at_drop_more (all_hold old.contents locks key) conditions i c within, ← is) refl

  same_condition : {verdict : Result Bool DavError} → Holding (drop i conditions) → Judges (condition_holds mid.contents locks key c) mid verdict new → Judges (condition_holds old.contents locks key c) mid verdict new
  same_condition {verdict} h g = subst (λ contents. Judges (condition_holds contents locks key c) mid verdict new) h.same g

  pub one_holds : Holding (drop i conditions) → Judges (condition_holds mid.contents locks key c) mid (Ok true) new
      → Reaches (all_hold old.contents locks key conditions) old (all_hold old.contents locks key (drop (i + 1) conditions)) new
  one_holds h g = goes_on _ _ _ after_condition old mid new next_condition h true (same_condition h g)

  pub one_fails : Holding (drop i conditions) → Judges (condition_holds mid.contents locks key c) mid (Ok false) new → Judges (all_hold old.contents locks key conditions) old (Ok false) new
  one_fails h g = ends_here _ _ old new false refl (goes_on _ _ _ after_condition old mid new next_condition h false (same_condition h g))

  pub one_stops : (e : DavError) (verdict : Result Bool DavError) → Holding (drop i conditions) → IsErrAnd verdict (λ d. d ≡ e) → Judges (condition_holds mid.contents locks key c) mid (Err e) new
      → Judges (all_hold old.contents locks key conditions) old verdict new
  one_stops e verdict h exit g = stops _ _ _ after_condition old mid new next_condition h e verdict exit (same_condition h g)

-- ---- the lists

-- what is lent has the same key
pub key_lent : {P : Type 0} (key : P → Key) (lent : Option (Bor P)) (path : Option P) → option_copied lent ≡ path → option_map (λ p. key p.now) lent ≡ option_map key path
key_lent key None path is = ap (option_map key) is
key_lent key (Some p) path is = ap (option_map key) is

-- what a list is about has been read
pub key_given : {P : Type 0} (key : P → Key) (expected : Option Key) (path : Option P) → GivesBy (option_map key) (Ok path) (Ok expected) → expected ≡ option_map key path
key_given key expected path given = cc

module _ (locks : Option (List DavLock)) (path : PathValue) (lists : List IfList) (i : ℕ) (l : IfList) (before about : Option Key) (old mid new : Store) (within : i < length lists) (is : l ≡ get_or lists i l) (read : key_of_list before path l.resource_tag ≡ about) where
  -- none of the lists so far holds, the last of them is about this key, and these are left
  abbrev Failing : Option Key → List IfList → Store → Type 0
  Failing key left store = Reaches (any_holds old.contents locks path (Some path.key) lists) old (any_holds old.contents locks path key left) store

  abbrev after_list : Bool → Dialogue Bool
  after_list holds = until_true holds (any_holds old.contents locks path about (drop (i + 1) lists))

  next_list : any_holds old.contents locks path before (drop i lists) ≡ conditions_hold old.contents locks about l.conditions >>= after_list
  next_list = rw (at_drop_more (any_holds old.contents locks path before) lists i l within, ← is, ← read) refl

  same_list : {verdict : Result Bool DavError} → Failing before (drop i lists) mid → Judges (conditions_hold mid.contents locks about l.conditions) mid verdict new
      → Judges (conditions_hold old.contents locks about l.conditions) mid verdict new
  same_list {verdict} h g = subst (λ contents. Judges (conditions_hold contents locks about l.conditions) mid verdict new) h.same g

  pub list_fails : Failing before (drop i lists) mid → Judges (conditions_hold mid.contents locks about l.conditions) mid (Ok false) new → Failing about (drop (i + 1) lists) new
  list_fails h g = goes_on _ _ _ after_list old mid new next_list h false (same_list h g)

  pub list_serves : Failing before (drop i lists) mid → Judges (conditions_hold mid.contents locks about l.conditions) mid (Ok true) new → Judges (any_holds old.contents locks path (Some path.key) lists) old (Ok true) new
  list_serves h g = ends_here _ _ old new true refl (goes_on _ _ _ after_list old mid new next_list h true (same_list h g))

  pub list_stops : (e : DavError) (verdict : Result Bool DavError) → Failing before (drop i lists) mid → IsErrAnd verdict (λ d. d ≡ e) → Judges (conditions_hold mid.contents locks about l.conditions) mid (Err e) new
      → Judges (any_holds old.contents locks path (Some path.key) lists) old verdict new
  list_stops e verdict h exit g = stops _ _ _ after_list old mid new next_list h e verdict exit (same_list h g)
