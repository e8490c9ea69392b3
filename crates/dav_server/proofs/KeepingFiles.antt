-- Requests that leave a file as it is.
use Rattle.std.proofs.Common.{◌≡◌, ◌∙◌, inl, inr, Bool, true, false, List, [], ◌∷◌, Option, Some, None, Result, ℕ, refl, sym, ap}
use Rattle.std.specs.FinMap.{get}
use Rattle.dav_key.specs.Key.{Key, is_same_key, same_key_decides}
use Rattle.dav_resource.specs.declared.error.FsError.{FsError}
use Rattle.dav_resource.specs.declared.method.DavMethod.{DavMethod}
use Rattle.dav_resource.specs.declared.method.DavMethod.TheVariants.{Head, Get, Put, Patch, Options, PropFind, PropPatch, MkCol, Copy, Move, Delete, Lock, Unlock}
use Rattle.dav_resource.specs.declared.meta.Meta.{Meta}
use Rattle.dav_resource.specs.declared.request.DavRequest.{DavRequest}
use Rattle.dav_store.specs.Logged.{Logged}
use Rattle.dav_store.specs.PropertyCalls as properties
use Rattle.dav_store.specs.Store.{Contents, File}
use Rattle.dav_messages.specs.Reply.{Answer}
use Rattle.dav_engine.specs.Bounds.{may_change, KeepsElsewhere}
use Rattle.dav_engine.specs.Law.{Law}
use Rattle.dav_engine.specs.Laws.{MkcolLaw, is_created}
use Rattle.dav_engine.specs.Locking.{LockWorkBy, LockCutBy, FileLeaves, is_refresh}
use Rattle.dav_engine.specs.Method.{StepBy, Refused, Done, CutShort, CutInWork}
use Rattle.dav_engine.specs.Methods.{Step, lock_method, proppatch_method}
use Rattle.dav_engine.specs.Proppatch.{MakesChanges}
use Rattle.dav_engine.specs.Settings.{Settings}
use Rattle.dav_engine.specs.State.{State}
use Rattle.dav_server.specs.Guarantees.{may_rewrite}

-- ---- PROPPATCH

-- no file changes
changes_keep : (keeps : Bool) (key : Key) (patches : List properties.Patch) (old new : Contents) (records : List Logged) (store_answer : Result (List ℕ) FsError)
    → MakesChanges keeps key patches old records store_answer new → new.tree ≡ old.tree
changes_keep keeps key [] old new records store_answer none = ap (λ (c : Contents). c.tree) none.same
changes_keep keeps key (patch ∷ patches) old new records store_answer (inl all) = all.made.tree
changes_keep keeps key (patch ∷ patches) old new records store_answer (inr (inl none)) = ap (λ (c : Contents). c.tree) none.same
changes_keep keeps key (patch ∷ patches) old new records store_answer (inr (inr refused)) = ap (λ (c : Contents). c.tree) refused.same

module _ (settings : Settings) (request : DavRequest) (old : State) (records : List Logged) (answer : Answer) (new : State) where
  proppatch_keeps : StepBy proppatch_method settings request old records answer new → new.contents.tree ≡ old.contents.tree
  proppatch_keeps (Refused h) = ap (λ (s : State). s.contents.tree) h.same
  proppatch_keeps (Done h) = changes_keep _ request.path.key _ old.contents new.contents h.rest h.work.0.store_answer h.work.0.stored
  proppatch_keeps (CutShort h) = ap (λ (s : State). s.contents.tree) h.same
  proppatch_keeps (CutInWork h) = elim h.work.0 [ inl none ↦ ap (λ (c : Contents). c.tree) none.same | inr made ↦ changes_keep _ request.path.key _ old.contents new.contents h.rest _ made.1 ]

  -- ---- LOCK

  module _ (bytes : List ℕ) (file : get old.contents.tree request.path.key ≡ Some (File bytes)) where
    leaves_keep : (rest : List Logged) → FileLeaves request rest old.contents new.contents → new.contents.tree ≡ old.contents.tree
    leaves_keep rest (inl (opened, has)) = (has.kept (λ nothing. let no : Some (File bytes) ≡ None = sym file ∙ nothing in cc)).0
    leaves_keep rest (inr (unopened, same)) = ap (λ (c : Contents). c.tree) same

    lock_work_keeps : (refresh : Bool) (found : Option Meta) (rest : List Logged) → LockWorkBy settings.profile refresh request found old rest answer new → new.contents.tree ≡ old.contents.tree
    lock_work_keeps true found rest work = ap (λ (c : Contents). c.tree) work.same
    lock_work_keeps false found rest work =
        elim work.done [ inl grants ↦ leaves_keep rest grants.answers.leaves | inr denies ↦ ap (λ (s : State). s.contents.tree) denies.same ]

    lock_cut_keeps : (refresh : Bool) (found : Option Meta) (rest : List Logged) → LockCutBy refresh request found old rest new → new.contents.tree ≡ old.contents.tree
    lock_cut_keeps true found rest cut = ap (λ (c : Contents). c.tree) cut.same
    lock_cut_keeps false found rest cut = ap (λ (c : Contents). c.tree) cut.same

    lock_keeps : StepBy lock_method settings request old records answer new → new.contents.tree ≡ old.contents.tree
    lock_keeps (Refused h) = ap (λ (s : State). s.contents.tree) h.same
    lock_keeps (Done h) = lock_work_keeps (is_refresh settings.facts.bodies request.body) h.found h.rest h.work
    lock_keeps (CutShort h) = ap (λ (s : State). s.contents.tree) h.same
    lock_keeps (CutInWork h) = lock_cut_keeps (is_refresh settings.facts.bodies request.body) h.found h.rest h.work

    -- ---- MKCOL

    mkcol_keeps : MkcolLaw request old answer new → new.contents.tree ≡ old.contents.tree
    mkcol_keeps law = by_answer (is_created answer) refl
      where
        by_answer : (b : Bool) → is_created answer ≡ b → new.contents.tree ≡ old.contents.tree
        by_answer true recorded = let no : Some (File bytes) ≡ None = sym file ∙ (law.made recorded).nothing in absurd cc
        by_answer false recorded = ap (λ (c : Contents). c.tree) (law.unmade recorded).contents

  -- ---- each method

  -- a file that the request may not change, by its method and its path, has the same bytes
  pub file_stays : (method : Option DavMethod) (key : Key) (bytes : List ℕ) → Step method settings request old records answer new → Law method settings request old records answer new
      → may_rewrite method settings request key ≡ false → get old.contents.tree key ≡ Some (File bytes) → get new.contents.tree key ≡ Some (File bytes)
  file_stays method key bytes step law apart file = by_method method step law apart
    where
      elsewhere : (m : Option DavMethod) → KeepsElsewhere m settings request old new → may_change m settings request key ≡ false → get new.contents.tree key ≡ Some (File bytes)
      elsewhere m kept other = ap (λ p. p.0) (kept key other) ∙ file

      -- at the path by what the method does there, at other keys since it changes none
      at_path : (m : Option DavMethod) → KeepsElsewhere m settings request old new → may_change m settings request key ≡ is_same_key key request.path.key
          → (get old.contents.tree request.path.key ≡ Some (File bytes) → new.contents.tree ≡ old.contents.tree) → get new.contents.tree key ≡ Some (File bytes)
      at_path m kept where_it_may here = by_test (is_same_key key request.path.key) refl
        where
          by_test : (b : Bool) → is_same_key key request.path.key ≡ b → get new.contents.tree key ≡ Some (File bytes)
          by_test false other = elsewhere m kept (where_it_may ∙ other)
          by_test true same =
              let is : key ≡ request.path.key = (same_key_decides key request.path.key).0 same in
              ap (λ t. get t key) (here (ap (get old.contents.tree) (sym is) ∙ file)) ∙ file

      by_method : (m : Option DavMethod) → Step m settings request old records answer new → Law m settings request old records answer new
          → may_rewrite m settings request key ≡ false → get new.contents.tree key ≡ Some (File bytes)
      by_method (Some MkCol) step law apart = at_path (Some MkCol) law.bounded.elsewhere refl (λ here. mkcol_keeps bytes here law.own)
      by_method (Some Lock) step law apart = at_path (Some Lock) law.bounded.elsewhere refl (λ here. lock_keeps bytes here step)
      by_method (Some PropPatch) step law apart = ap (λ t. get t key) (proppatch_keeps step) ∙ file
      by_method (Some Put) step law apart = elsewhere (Some Put) law.bounded.elsewhere apart
      by_method (Some Patch) step law apart = elsewhere (Some Patch) law.bounded.elsewhere apart
      by_method (Some Delete) step law apart = elsewhere (Some Delete) law.bounded.elsewhere apart
      by_method (Some Copy) step law apart = elsewhere (Some Copy) law.bounded.elsewhere apart
      by_method (Some Move) step law apart = elsewhere (Some Move) law.bounded.elsewhere apart
      by_method (Some Unlock) step law apart = elsewhere (Some Unlock) law.bounded.elsewhere refl
      by_method (Some PropFind) step law apart = elsewhere (Some PropFind) law.bounded.elsewhere refl
      by_method (Some Options) step law apart = elsewhere (Some Options) law.bounded.elsewhere refl
      by_method (Some Head) step law apart = elsewhere (Some Head) law.bounded.elsewhere refl
      by_method (Some Get) step law apart = elsewhere (Some Get) law.bounded.elsewhere refl
      by_method None step law apart = elsewhere None law.bounded.elsewhere refl
