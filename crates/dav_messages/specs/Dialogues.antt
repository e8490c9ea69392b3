-- A dialogue followed by another: what their records say together.
use Rattle.std.proofs.Common.{◌≡◌, Bool, true, false, if◌then◌else◌, List, [], ◌∷◌, ◌++◌, Result, Ok, Err, inl, inr, refl, sym, subst, append-nil, append_assoc, ◌≢◌, Some}
use Rattle.std.specs.Result.{IsErrAnd}
use Rattle.std.proofs.lemmas.Result.{err_from_is_err_and}
use Rattle.dav_resource.specs.Gives.{GivesBy}
use Rattle.dav_resource.specs.declared.error.DavError.{DavError}
use Rattle.dav_resource.specs.declared.error.DavError.TheVariants.{Memory}
use Rattle.dav_resource.specs.declared.error.FsError.{FsError}
use Rattle.dav_resource.specs.declared.record.Outcome.{Outcome}
use Rattle.dav_resource.specs.declared.record.Outcome.TheVariants as outcomes
use Rattle.dav_store.specs.Calls.{Call, record_of, error_of, IsLawful}
use Rattle.dav_store.specs.Logged.{Logged}
use Rattle.dav_store.specs.Store.{Store}
use Rattle.dav_messages.specs.Dialogue.{Dialogue, Asks, Refuses, Passed, needs, ◌>>=◌, refusing, map_error, LeadsTo, EndsIn, Judges, Reaches}

-- more records continue with what is left
pub LeadsTo-more : {A : Type 0} (dialogue mid left : Dialogue A) (records more : List Logged) → LeadsTo dialogue records mid → LeadsTo mid more left → LeadsTo dialogue (records ++ more) left
LeadsTo-more {A} dialogue mid left [] more e h = let P : Dialogue A → Type 0 = λ d. LeadsTo d more left in subst P e h
LeadsTo-more (Asks call next) mid left (logged ∷ records) more h g = (h.0, h.1, LeadsTo-more (next logged.outcome) mid left records more h.2 g)
LeadsTo-more (Refuses e) mid left (logged ∷ records) more h g = absurd h
LeadsTo-more (Passed a) mid left (logged ∷ records) more h g = absurd h

module _ {A B : Type 0} (after : A → Dialogue B) where
  -- what is left of the first is left of both, with the other after it
  LeadsTo-first : (first left : Dialogue A) (records : List Logged) → LeadsTo first records left → LeadsTo (first >>= after) records (left >>= after)
  unfolding ◌>>=◌
  LeadsTo-first first left [] e = λ i. e i >>= after
  LeadsTo-first (Asks call next) left (logged ∷ records) h = (h.0, h.1, LeadsTo-first (next logged.outcome) left records h.2)
  LeadsTo-first (Refuses e) left (logged ∷ records) h = absurd h
  LeadsTo-first (Passed a) left (logged ∷ records) h = absurd h

  -- the first ends in a value, and the other follows
  LeadsTo-then : (first : Dialogue A) (records more : List Logged) (a : A) (left : Dialogue B) → LeadsTo first records (Passed a) → LeadsTo (after a) more left → LeadsTo (first >>= after) (records ++ more) left
  unfolding ◌>>=◌
  LeadsTo-then first records more a left h g = LeadsTo-more (first >>= after) (after a) left records more (LeadsTo-first first (Passed a) records h) g

  EndsIn-err : (first : Dialogue A) (records : List Logged) (e : DavError) → EndsIn first records (Err e) → EndsIn (first >>= after) records (Err e)
  unfolding ◌>>=◌
  EndsIn-err first records e (inl h) = inl (LeadsTo-first first (Refuses (Err e)) records h)
  EndsIn-err first records e (inr h) = inr (h.0, (h.1.0 >>= after, LeadsTo-first first h.1.0 records h.1.1))

  EndsIn-then : (first : Dialogue A) (records more : List Logged) (a : A) (verdict : Result B DavError) → LeadsTo first records (Passed a) → EndsIn (after a) more verdict → EndsIn (first >>= after) (records ++ more) verdict
  EndsIn-then first records more a (Ok b) h g = LeadsTo-then first records more a (Passed b) h g
  EndsIn-then first records more a (Err e) h (inl g) = inl (LeadsTo-then first records more a (Refuses (Err e)) h g)
  EndsIn-then first records more a (Err e) h (inr g) = inr (g.0, (g.1.0, LeadsTo-then first records more a g.1.0 h g.1.1))

  -- the first ends both, by the exit of a `?`
  pub judges_exit : (first : Dialogue A) (old new : Store) (e : DavError) (verdict : Result B DavError) → IsErrAnd verdict (λ d. d ≡ e) → Judges first old (Err e) new → Judges (first >>= after) old verdict new
  judges_exit first old new e verdict is h =
      let p = err_from_is_err_and verdict is in
      rw (p.1, p.2) (record { records = h.records; recorded = h.recorded; same = h.same; fixed = h.fixed; ends = EndsIn-err first h.records e h.ends })

  -- the first ends in a value, and the other ends both
  pub judges_then : (first : Dialogue A) (old mid new : Store) (a : A) (verdict : Result B DavError) → Judges first old (Ok a) mid → Judges (after a) mid verdict new → Judges (first >>= after) old verdict new
  judges_then first old mid new a verdict h g = record {
    records = h.records ++ g.records;
    recorded = rw (g.recorded, h.recorded, append_assoc);
    same = rw (g.same, h.same);
    fixed = rw (g.fixed, h.fixed);
    ends = EndsIn-then first h.records g.records a verdict h.ends g.ends;
  }

-- if the two ended in a value, the first ended in some value, and the other, given that, in this value
pub LeadsTo-last : {A B : Type 0} (first : Dialogue A) (after : A → Dialogue B) (records : List Logged) (b : B) → LeadsTo (first >>= after) records (Passed b)
    → (a : A) × (head rest : List Logged) × LeadsTo first head (Passed a) × LeadsTo (after a) rest (Passed b)
unfolding ◌>>=◌
LeadsTo-last (Asks call next) after [] b h = absurd cc
LeadsTo-last (Refuses e) after [] b h = absurd cc
LeadsTo-last (Passed a) after [] b h = (a, [], [], refl, h)
LeadsTo-last (Asks call next) after (logged ∷ records) b h =
    let more = LeadsTo-last (next logged.outcome) after records b h.2 in
    (more.0, logged ∷ more.1, more.2, (h.0, h.1, more.3), more.4)
LeadsTo-last (Refuses e) after (logged ∷ records) b h = absurd h
LeadsTo-last (Passed a) after (logged ∷ records) b h = (a, [], logged ∷ records, refl, h)

-- ---- a dialogue whose rejections are mapped

module _ {A : Type 0} (change : DavError → DavError) where
  LeadsTo-refusing : (dialogue left : Dialogue A) (records : List Logged) → LeadsTo dialogue records left → LeadsTo (refusing change dialogue) records (refusing change left)
  unfolding refusing
  LeadsTo-refusing dialogue left [] e = λ i. refusing change (e i)
  LeadsTo-refusing (Asks call next) left (logged ∷ records) h = (h.0, h.1, LeadsTo-refusing (next logged.outcome) left records h.2)
  LeadsTo-refusing (Refuses e) left (logged ∷ records) h = absurd h
  LeadsTo-refusing (Passed a) left (logged ∷ records) h = absurd h

  -- if it ends in a value, the original dialogue ends in the same value
  pub LeadsTo-unrefused : (dialogue : Dialogue A) (records : List Logged) (a : A) → LeadsTo (refusing change dialogue) records (Passed a) → LeadsTo dialogue records (Passed a)
  unfolding refusing
  LeadsTo-unrefused (Asks call next) [] a h = absurd cc
  LeadsTo-unrefused (Refuses e) [] a h = absurd cc
  LeadsTo-unrefused (Passed b) [] a h = h
  LeadsTo-unrefused (Asks call next) (logged ∷ records) a h = (h.0, h.1, LeadsTo-unrefused (next logged.outcome) records a h.2)
  LeadsTo-unrefused (Refuses e) (logged ∷ records) a h = absurd h
  LeadsTo-unrefused (Passed b) (logged ∷ records) a h = absurd h

  EndsIn-refusing : (dialogue : Dialogue A) (records : List Logged) (verdict : Result A DavError) → change Memory ≡ Memory → EndsIn dialogue records verdict → EndsIn (refusing change dialogue) records (map_error change verdict)
  unfolding refusing
  EndsIn-refusing dialogue records (Ok a) memory h = LeadsTo-refusing dialogue (Passed a) records h
  EndsIn-refusing dialogue records (Err e) memory (inl h) = inl (LeadsTo-refusing dialogue (Refuses (Err e)) records h)
  EndsIn-refusing dialogue records (Err e) memory (inr h) = inr (rw (h.0, memory) refl, (refusing change h.1.0, LeadsTo-refusing dialogue h.1.0 records h.1.1))

  pub judges_refusing : (dialogue : Dialogue A) (old new : Store) (verdict : Result A DavError) → change Memory ≡ Memory → Judges dialogue old verdict new → Judges (refusing change dialogue) old (map_error change verdict) new
  judges_refusing dialogue old new verdict memory h =
      record { records = h.records; recorded = h.recorded; same = h.same; fixed = h.fixed; ends = EndsIn-refusing dialogue h.records verdict memory h.ends }

-- a dialogue that makes no call
pub judges_pure : {A : Type 0} (dialogue : Dialogue A) (store : Store) (verdict : Result A DavError) → EndsIn dialogue [] verdict → Judges dialogue store verdict store
judges_pure dialogue store verdict h = record { records = []; recorded = sym (append-nil store.log); same = refl; fixed = refl; ends = h }

-- memory ran out before the dialogue's first call
pub judges_memory : {A : Type 0} (dialogue : Dialogue A) (store : Store) (verdict : Result A DavError) → IsErrAnd verdict (λ d. d ≡ Memory) → Judges dialogue store verdict store
judges_memory dialogue store verdict is =
    let p = err_from_is_err_and verdict is in
    rw (p.1, p.2) (judges_pure dialogue store (Err Memory) (inr (refl, (dialogue, refl))))

-- the result is the expected value, or memory ran out
pub judges_given : {A : Type 0} (a : A) (store : Store) (verdict : Result A DavError) → GivesBy (λ x. x) verdict (Ok a) → Judges (Passed a) store verdict store
judges_given a store (Ok x) is = judges_pure (Passed a) store (Ok x) (let same : a ≡ x = cc in rw same)
judges_given a store (Err e) (inl is) = absurd cc
judges_given a store (Err e) (inr memory) = judges_pure (Passed a) store (Err e) (inr (memory, (Passed a, refl)))

-- an error in place of an expected value is `Memory`
pub judges_unread : {A B : Type 0} (dialogue : Dialogue A) (store : Store) (b : B) (e : DavError) (verdict : Result A DavError) → GivesBy (λ x. x) (Err e) (Ok b) → IsErrAnd verdict (λ d. d ≡ e) → Judges dialogue store verdict store
judges_unread dialogue store b e verdict (inl given) exit = absurd cc
judges_unread dialogue store b e verdict (inr memory) exit = judges_memory dialogue store verdict (rw memory at exit)

-- the value of the result is the expected one
pub given_is : {A : Type 0} (a b : A) → GivesBy (λ x. x) (Ok b) (Ok a) → b ≡ a
given_is a b is = cc

-- a value or a rejection, by a test
pub judges_if : {A : Type 0} (b : Bool) (a : A) (e : DavError) (store : Store) (verdict : Result A DavError) → verdict ≡ (if b then Ok a else Err e) → Judges (if b then Passed a else Refuses (Err e)) store verdict store
judges_if true a e store verdict is = rw is (judges_pure (Passed a) store (Ok a) refl)
judges_if false a e store verdict is = rw is (judges_pure (Refuses (Err e)) store (Err e) (inl refl))

-- ---- a dialogue step by step

-- no call was made yet
pub reaches_none : {A : Type 0} (dialogue : Dialogue A) (store : Store) → Reaches dialogue store dialogue store
reaches_none dialogue store = record { records = []; recorded = sym (append-nil store.log); same = refl; fixed = refl; leads = refl }

-- what is left is carried out too
pub judges_left : {A : Type 0} (dialogue left : Dialogue A) (old mid new : Store) (verdict : Result A DavError) → Reaches dialogue old left mid → Judges left mid verdict new → Judges dialogue old verdict new
judges_left {A} dialogue left old mid new verdict h g = record {
  records = h.records ++ g.records;
  recorded = rw (g.recorded, h.recorded, append_assoc);
  same = rw (g.same, h.same);
  fixed = rw (g.fixed, h.fixed);
  ends = ends verdict g.ends;
}
  where
    ends : (verdict : Result A DavError) → EndsIn left g.records verdict → EndsIn dialogue (h.records ++ g.records) verdict
    ends (Ok a) e = LeadsTo-more dialogue left (Passed a) h.records g.records h.leads e
    ends (Err d) (inl e) = inl (LeadsTo-more dialogue left (Refuses (Err d)) h.records g.records h.leads e)
    ends (Err d) (inr e) = inr (e.0, (e.1.0, LeadsTo-more dialogue left e.1.0 h.records g.records h.leads e.1.1))

-- the next part ends in a value
pub reaches_then : {A B : Type 0} (dialogue : Dialogue B) (next : Dialogue A) (after : A → Dialogue B) (old mid new : Store) (a : A) → Reaches dialogue old (next >>= after) mid → Judges next mid (Ok a) new → Reaches dialogue old (after a) new
reaches_then dialogue next after old mid new a h g = record {
  records = h.records ++ g.records;
  recorded = rw (g.recorded, h.recorded, append_assoc);
  same = rw (g.same, h.same);
  fixed = rw (g.fixed, h.fixed);
  leads = LeadsTo-more dialogue (next >>= after) (after a) h.records g.records h.leads (rw (append-nil g.records) at (LeadsTo-then after next g.records [] a (after a) g.ends refl));
}

-- ---- a call whose failure rejects the request

-- an outcome with an error is not `Granted`
pub unlike : (e : FsError) (outcome : Outcome) → error_of outcome ≡ Some e → outcome ≢ outcomes.Granted
unlike e outcomes.Granted cause same = cc
unlike e (outcomes.Barred d) cause same = cc
unlike e (outcomes.Refused d) cause same = cc

-- a call that is not granted rejects the request
pub needs-declined : {A : Type 0} (call : Call) (error : FsError → DavError) (next : Dialogue A) (e : FsError) (outcome : Outcome) → error_of outcome ≡ Some e → IsLawful call.bar outcome
    → LeadsTo (needs call error next) (record_of call outcome ∷ []) (Refuses (Err (error e)))
needs-declined call error next e outcomes.Granted cause lawful = absurd cc
needs-declined call error next e (outcomes.Barred d) cause lawful = let is : d ≡ e = cc in (refl, lawful, rw is refl)
needs-declined call error next e (outcomes.Refused d) cause lawful = let is : d ≡ e = cc in (refl, lawful, rw is refl)
