-- How writes of parts make a write of the whole.
use Rattle.std.proofs.Common.{◌≡◌, ◌∙◌, ℕ, true, refl, ap, sym, subst, List, [], ◌∷◌, ◌++◌, length, ◌==◌, ◌&&◌, Result, Ok, Err, IsErrAnd, OnOk, OnErr, append-nil, append_assoc}
use Rattle.std.proofs.lemmas.Bool.{and_from, eq-eqb}
use Rattle.dav_wire.specs.Codec.{Codec}
use Rattle.dav_wire.specs.Combine.{pair}
use Rattle.dav_wire.specs.Numbers.{number}
use Rattle.dav_wire.specs.Values.{text, list}
use Rattle.std.specs.List.{list_all, flat_map}
use Rattle.std.proofs.lemmas.List.{flat_map_more}
use Rattle.std.proofs.lemmas.List.Folds.{list_all-append}
use Rattle.dav_wire.specs.Writes.{Writes, WritesUnless, Refuses, Appends, Extends}
use Rattle.dav_wire.specs.declared.error.WireError.{WireError}
use Rattle.dav_wire.specs.declared.error.WireError.TheVariants.{Malformed, Memory}

pub extends_from : (old mid new added : List ℕ) → mid ≡ old ++ added → Extends mid new → Extends old new
extends_from old mid new added e h =
    record {
      added = added ++ h.added;
      is = h.is ∙ ap (λ (bs : List ℕ). bs ++ h.added) e ∙ append_assoc old added h.added;
    }

pub extends_same : (old new : List ℕ) → new ≡ old → Extends old new
extends_same old new e = record { added = []; is = e ∙ sym (append-nil old) }

pub appends_after : {A B : Type 0} (a : Codec A) (b : Codec B) (x : A) (y : B) (old mid new added : List ℕ) → mid ≡ old ++ added → (a.is_valid x ≡ true → b.is_valid y ≡ true) → b.encode y ≡ added ++ a.encode x → Appends a x mid new → Appends b y old new
appends_after a b x y old mid new added e ok same h =
    record {
      valid = ok h.valid;
      is =
          h.is ∙ ap (λ (bs : List ℕ). bs ++ a.encode x) e ∙ append_assoc old added (a.encode x)
          ∙ ap (λ (bs : List ℕ). old ++ bs) (sym same);
    }

-- bytes as they are
pub writes_plain : {A U E : Type 0} (a : Codec A) (x : A) (old new bytes : List ℕ) (r : Result U E) → a.is_valid x ≡ true → a.encode x ≡ bytes → OnOk r (new ≡ old ++ bytes) → OnErr r (new ≡ old) → Writes a x old r new
writes_plain a x old new bytes (Ok u) ok same done kept =
    record { valid = ok; is = done ∙ ap (λ (bs : List ℕ). old ++ bs) (sym same) }
writes_plain a x old new bytes (Err e) ok same done kept = extends_same old new kept

-- the same after other bytes
pub writes_plain_after : {A U E : Type 0} (a : Codec A) (x : A) (old mid new added bytes : List ℕ) (r : Result U E) → a.is_valid x ≡ true → mid ≡ old ++ added → a.encode x ≡ added ++ bytes → OnOk r (new ≡ mid ++ bytes) → OnErr r (new ≡ mid) → Writes a x old r new
writes_plain_after a x old mid new added bytes (Ok u) ok first same done kept =
    record {
      valid = ok;
      is = done ∙ ap (λ (bs : List ℕ). bs ++ bytes) first ∙ append_assoc old added bytes ∙ ap (λ (bs : List ℕ). old ++ bs) (sym same);
    }
writes_plain_after a x old mid new added bytes (Err e) ok first same done kept = record { added = added; is = kept ∙ first }

-- a value after other bytes
pub writes_after : {A B U E : Type 0} (a : Codec A) (b : Codec B) (x : A) (y : B) (old mid new added : List ℕ) (r : Result U E) → mid ≡ old ++ added → (a.is_valid x ≡ true → b.is_valid y ≡ true) → b.encode y ≡ added ++ a.encode x → Writes a x mid r new → Writes b y old r new
writes_after a b x y old mid new added (Ok u) first ok same h = appends_after a b x y old mid new added first ok same h
writes_after a b x y old mid new added (Err e) first ok same h = extends_from old mid new added first h

-- a value as one of another codec
pub writes_as : {A B U E : Type 0} (a : Codec A) (b : Codec B) (x : A) (y : B) (old new : List ℕ) (r : Result U E) → (a.is_valid x ≡ true → b.is_valid y ≡ true) → b.encode y ≡ a.encode x → Writes a x old r new → Writes b y old r new
writes_as a b x y old new r ok same h = writes_after a b x y old old new [] r (sym (append-nil old)) ok same h

-- two values, one after the other
pub writes_pair : {A B U E : Type 0} (a : Codec A) (b : Codec B) (x : A) (y : B) (old mid new : List ℕ) (r : Result U E) → Appends a x old mid → Writes b y mid r new → Writes (pair a b) (x, y) old r new
writes_pair a b x y old mid new r h g =
    writes_after b (pair a b) y (x, y) old mid new (a.encode x) r h.is (λ ok. and_from (a.is_valid x) (b.is_valid y) h.valid ok) refl g

-- a value that was written, as one of another codec
pub appends_as : {A B : Type 0} (a : Codec A) (b : Codec B) (x : A) (y : B) (old new : List ℕ) → (a.is_valid x ≡ true → b.is_valid y ≡ true) → b.encode y ≡ a.encode x → Appends a x old new → Appends b y old new
appends_as a b x y old new ok same h = appends_after a b x y old old new [] (sym (append-nil old)) ok same h

-- ---- strings

pub text_valid : (bytes : List ℕ) → number.is_valid (length bytes) ≡ true → text.is_valid bytes ≡ true
unfolding text
text_valid bytes ok = and_from (number.is_valid (length bytes)) (length bytes == length bytes) ok (eq-eqb (length bytes) (length bytes) refl)

-- ---- exits

pub refused :
    {A U : Type 0} (reason : Type 0) (a : Codec A) (x : A) (old new : List ℕ) (r : Result U WireError) (e : WireError)
    → IsErrAnd r (λ y. y ≡ e) → Refuses reason e → Extends old new → WritesUnless reason a x old r new
refused reason a x old new (Ok u) e gives why h = absurd gives
refused reason a x old new (Err y) e gives why h = (subst (λ z. Refuses reason z) (sym gives) why, h)

pub refuses_because : (reason other : Type 0) (e : WireError) → (reason → other) → Refuses reason e → Refuses other e
refuses_because reason other Malformed because h = because h
refuses_because reason other Memory because h = tt

-- a value after other bytes, where it may be refused
pub writes_unless_after :
    {A B U : Type 0} (reason other : Type 0) (a : Codec A) (b : Codec B) (x : A) (y : B) (old mid new added : List ℕ) (r : Result U WireError)
    → mid ≡ old ++ added → (a.is_valid x ≡ true → b.is_valid y ≡ true) → (reason → other) → b.encode y ≡ added ++ a.encode x
    → WritesUnless reason a x mid r new → WritesUnless other b y old r new
writes_unless_after reason other a b x y old mid new added (Ok u) first ok because same h =
    appends_after a b x y old mid new added first ok same h
writes_unless_after reason other a b x y old mid new added (Err e) first ok because same h =
    (refuses_because reason other e because h.0, extends_from old mid new added first h.1)

-- a value as one of another codec, where it may be refused
pub writes_unless_as :
    {A B U : Type 0} (reason : Type 0) (a : Codec A) (b : Codec B) (x : A) (y : B) (old new : List ℕ) (r : Result U WireError)
    → (a.is_valid x ≡ true → b.is_valid y ≡ true) → b.encode y ≡ a.encode x → WritesUnless reason a x old r new → WritesUnless reason b y old r new
writes_unless_as reason a b x y old new r ok same h =
    writes_unless_after reason reason a b x y old old new [] r (sym (append-nil old)) ok (λ why. why) same h

-- two values, one after the other, where the second may be refused
pub writes_pair_unless :
    {A B U : Type 0} (reason : Type 0) (a : Codec A) (b : Codec B) (x : A) (y : B) (old mid new : List ℕ) (r : Result U WireError)
    → Appends a x old mid → WritesUnless reason b y mid r new → WritesUnless reason (pair a b) (x, y) old r new
writes_pair_unless reason a b x y old mid new r h g =
    writes_unless_after reason reason b (pair a b) y (x, y) old mid new (a.encode x) r h.is
    (λ ok. and_from (a.is_valid x) (b.is_valid y) h.valid ok) (λ why. why) refl g

pub extends_trans : (old mid new : List ℕ) → Extends old mid → Extends mid new → Extends old new
extends_trans old mid new h g = extends_from old mid new h.added h.is g

-- ---- values one after the other

pub record Run {A : Type 0} (a : Codec A) (xs : List A) (old new : List ℕ) : Type 0 where
  pub valid : list_all a.is_valid xs ≡ true
  pub is : new ≡ old ++ flat_map a.encode xs

pub run_begin : {A : Type 0} (a : Codec A) (bytes : List ℕ) → Run a [] bytes bytes
run_begin a bytes = record { valid = refl; is = sym (append-nil bytes) }

pub run_more : {A : Type 0} (a : Codec A) (xs : List A) (x : A) (old mid new : List ℕ) → Run a xs old mid → Appends a x mid new → Run a (xs ++ x ∷ []) old new
run_more a xs x old mid new h g =
    record {
      valid = list_all-append a.is_valid xs (x ∷ []) ∙ and_from (list_all a.is_valid xs) (list_all a.is_valid (x ∷ [])) h.valid (and_from (a.is_valid x) true g.valid refl);
      is =
          g.is ∙ ap (λ (bs : List ℕ). bs ++ a.encode x) h.is ∙ append_assoc old (flat_map a.encode xs) (a.encode x)
          ∙ ap (λ (bs : List ℕ). old ++ bs) (flat_map_more a.encode [] xs x);
    }

-- how many, and then the values
pub list_written : {A : Type 0} (a : Codec A) (xs : List A) (n : ℕ) (old mid new : List ℕ) → n ≡ length xs → Appends number n old mid → Run a xs mid new → Appends (list a) xs old new
list_written a xs n old mid new count h g =
    let count_ok : number.is_valid (length xs) ≡ true = ap number.is_valid (sym count) ∙ h.valid in
    record {
      valid =
          and_from (number.is_valid (length xs)) ((length xs == length xs) && list_all a.is_valid xs) count_ok
          (and_from (length xs == length xs) (list_all a.is_valid xs) (eq-eqb (length xs) (length xs) refl) g.valid);
      is =
          g.is ∙ ap (λ (bs : List ℕ). bs ++ flat_map a.encode xs) h.is
          ∙ append_assoc old (number.encode n) (flat_map a.encode xs)
          ∙ ap (λ (m : ℕ). old ++ (number.encode m ++ flat_map a.encode xs)) count;
    }

pub extends_run : {A : Type 0} (a : Codec A) (xs : List A) (old new : List ℕ) → Run a xs old new → Extends old new
extends_run a xs old new h = record { added = flat_map a.encode xs; is = h.is }
