-- Numbers by keys: what a change at one key leaves at each.
use Rattle.std.proofs.Common.{◌≡◌, ◌≢◌, ◌∙◌, ◌&&◌, ℕ, Bool, true, false, cond, List, [], ◌∷◌, ◌++◌, Option, Some, None, Result, Ok, Err, OnOk, OnErr, bytes_eq, nat_cmp, refl, sym, ap, ap₂, IsTrue, ◌↔◌}
use Rattle.std.proofs.lemmas.Bool.{and_parts, and_from}
use Rattle.std.proofs.lemmas.List.{append-nil}
use Rattle.std.proofs.lemmas.Map.Text.{is_eq-slice_cmp}
use Rattle.std.proofs.lemmas.Slice.Eq.{bytes_eq-Decides}
use Rattle.std.specs.Bool.{Decides}
use Rattle.std.specs.Cmp.Lexicographic.{slice_cmp}
use Rattle.std.specs.Ordering.{eq_by_cmp, is_eq}
use Rattle.std.specs.Option.{option_map}
use Rattle.std.specs.Map.{lookup, KeepsOthers}
use Rattle.dav_key.specs.Key.{Key, is_same_key, same_key_decides, key_cmp}
use Rattle.dav_key.specs.Flat.{flat, segments_of, IsFlatText}
use Rattle.dav_key.specs.FlatLaws.{flat_cmp}
use Rattle.dav_memls.specs.declared.memory_locks.numbers.Numbers.{Numbers}
use Rattle.dav_memls.specs.Numbers.{without}
use Rattle.dav_memls.specs.KeyEntries.{OwnKey, own_text, own_key, own_cmp, is_text_of, entry_in, listed, numbers_in, IsTidy}
use Rattle.dav_memls.specs.ByKey.{only_if, without_if}

-- ---- texts of keys: their order, and which are the same

-- texts are ordered as their keys are
pub text_cmp : (a b : List ℕ) → IsFlatText a → IsFlatText b → slice_cmp nat_cmp a b ≡ key_cmp (segments_of a) (segments_of b)
text_cmp a b is_a is_b = ap₂ (slice_cmp nat_cmp) (sym is_a.same) (sym is_b.same) ∙ flat_cmp (segments_of a) (segments_of b) is_a.plain is_b.plain

-- two tests of one fact answer the same
agree : {P : Type 0} (a b : Bool) → Decides a P → Decides b P → a ≡ b
agree true b d e = sym (e.1 (d.0 refl))
agree false true d e = d.1 (e.0 refl)
agree false false d e = refl

-- whether the entry's key has this text
abbrev pub at_text : List ℕ → OwnKey → Bool
at_text text own = is_eq (slice_cmp nat_cmp text (own_text own))

-- texts that tie are the same
same_text : (text own : List ℕ) → Decides (is_eq (slice_cmp nat_cmp text own)) (text ≡ own)
same_text text own = (λ e. (bytes_eq-Decides text own).0 (sym (is_eq-slice_cmp text own) ∙ e), λ e. is_eq-slice_cmp text own ∙ (bytes_eq-Decides text own).1 e)

-- a text is that of its key exactly where it is the same text
text_of_decides : (text own : List ℕ) → flat (segments_of text) ≡ text → Decides (is_text_of (segments_of text) own) (text ≡ own)
text_of_decides text own same = (
  λ e. (let both = and_parts (is_same_key (segments_of text) (segments_of own)) (bytes_eq (flat (segments_of text)) own) e in sym same ∙ (bytes_eq-Decides (flat (segments_of text)) own).0 both.1),
  λ e. and_from _ _ ((same_key_decides (segments_of text) (segments_of own)).1 (ap segments_of e)) ((bytes_eq-Decides (flat (segments_of text)) own).1 (same ∙ e)),
)

-- both tests of a text agree
texts-key : (text own : List ℕ) → flat (segments_of text) ≡ text → is_eq (slice_cmp nat_cmp text own) ≡ is_text_of (segments_of text) own
texts-key text own same = agree _ _ (same_text text own) (text_of_decides text own same)

-- two tests that agree find the same
lookup-agree : {X : Type 0} (p q : OwnKey → Bool) → ((k : OwnKey) → p k ≡ q k) → (es : List (OwnKey × X)) → lookup p es ≡ lookup q es
lookup-agree p q h [] = refl
lookup-agree p q h (e ∷ es) = λ i. cond (h e.0 i) (Some e.1) (lookup-agree p q h es i)

-- what a look-up by a text finds, by its key
pub found-key : {X : Type 0} (text : List ℕ) (es : List (OwnKey × X)) → IsFlatText text → lookup (at_text text) es ≡ lookup (λ (own : OwnKey). is_text_of (segments_of text) (own_text own)) es
found-key text es is = lookup-agree _ _ (λ own. texts-key text (own_text own) is.same) es

abbrev TextEq : OwnKey → OwnKey → Bool
TextEq x y = eq_by_cmp own_cmp x y

-- entries whose keys have the same text are those of one key
one_text : (k : Key) (x y : OwnKey) → is_text_of k (own_text x) ≡ true → is_text_of k (own_text y) ≡ TextEq x y
one_text k x y e =
    let both = and_parts (is_same_key k (own_key x)) (bytes_eq (flat k) (own_text x)) e in
    let key : k ≡ own_key x = (same_key_decides k (own_key x)).0 both.0 in
    let text : flat k ≡ own_text x = (bytes_eq-Decides (flat k) (own_text x)).0 both.1 in
    ap (λ q. is_text_of q (own_text y)) key ∙ sym (texts-key (own_text x) (own_text y) (sym (ap flat key) ∙ text))

-- and those of another key have another text
other_text : (k : Key) (text : List ℕ) → is_same_key k (segments_of text) ≡ false → (own : OwnKey) → at_text text own ≡ true → is_text_of k (own_text own) ≡ false
other_text k text e own at = ap (λ b. b && bytes_eq (flat k) (own_text own)) (ap (λ t. is_same_key k (segments_of t)) (sym ((same_text text (own_text own)).0 at)) ∙ e)

module _ (text : List ℕ) (is : IsFlatText text) where
  -- what stands at a key that was set, and at the others
  pub updated : (old new : List (OwnKey × Numbers)) (w : Option Numbers) → lookup (at_text text) new ≡ w → KeepsOthers TextEq (at_text text) old new → (k : Key) → numbers_in new k ≡ cond (is_same_key k (segments_of text)) (listed w) (numbers_in old k)
  unfolding KeepsOthers
  updated old new w here others k = split (is_same_key k (segments_of text)) refl
    where
      split : (b : Bool) → is_same_key k (segments_of text) ≡ b → numbers_in new k ≡ cond b (listed w) (numbers_in old k)
      split true e = ap (numbers_in new) ((same_key_decides k (segments_of text)).0 e) ∙ ap listed (sym (found-key text new is) ∙ here)
      split false e = ap listed (others (λ (own : OwnKey). is_text_of k (own_text own)) (one_text k) (other_text k text e))

  -- a number is put behind those of the key
  pub joined : (old new : List (OwnKey × Numbers)) (w : Numbers) (n : ℕ) → w.set.keys ≡ numbers_in old (segments_of text) ++ n ∷ [] → lookup (at_text text) new ≡ Some w → KeepsOthers TextEq (at_text text) old new
      → (k : Key) → numbers_in new k ≡ numbers_in old k ++ only_if (is_same_key k (segments_of text)) n
  joined old new w n has here others k = updated old new (Some w) here others k ∙ split (is_same_key k (segments_of text)) refl
    where
      split : (b : Bool) → is_same_key k (segments_of text) ≡ b → cond b w.set.keys (numbers_in old k) ≡ numbers_in old k ++ only_if b n
      split true e = has ∙ ap (λ q. numbers_in old q ++ n ∷ []) (sym ((same_key_decides k (segments_of text)).0 e))
      split false e = sym (append-nil (numbers_in old k))

  -- a number is taken from those of the key
  pub left : (old new : List (OwnKey × Numbers)) (w : Option Numbers) (n : ℕ) → listed w ≡ without n (numbers_in old (segments_of text)) → lookup (at_text text) new ≡ w → KeepsOthers TextEq (at_text text) old new
      → (k : Key) → numbers_in new k ≡ without_if (is_same_key k (segments_of text)) n (numbers_in old k)
  left old new w n has here others k = updated old new w here others k ∙ split (is_same_key k (segments_of text)) refl
    where
      split : (b : Bool) → is_same_key k (segments_of text) ≡ b → cond b (listed w) (numbers_in old k) ≡ without_if b n (numbers_in old k)
      split true e = has ∙ ap (λ q. without n (numbers_in old q)) (sym ((same_key_decides k (segments_of text)).0 e))
      split false e = refl

  -- the key has the numbers that it had
  pub kept : (old new : List (OwnKey × Numbers)) (w : Option Numbers) → listed w ≡ numbers_in old (segments_of text) → lookup (at_text text) new ≡ w → KeepsOthers TextEq (at_text text) old new
      → (k : Key) → numbers_in new k ≡ numbers_in old k
  kept old new w has here others k = updated old new w here others k ∙ split (is_same_key k (segments_of text)) refl
    where
      split : (b : Bool) → is_same_key k (segments_of text) ≡ b → cond b (listed w) (numbers_in old k) ≡ numbers_in old k
      split true e = has ∙ ap (numbers_in old) (sym ((same_key_decides k (segments_of text)).0 e))
      split false e = refl

  -- where there is nothing at the key, nothing goes
  pub left_none : (es : List (OwnKey × Numbers)) (n : ℕ) → None ≡ lookup (at_text text) es → (k : Key) → numbers_in es k ≡ without_if (is_same_key k (segments_of text)) n (numbers_in es k)
  left_none es n none k = split (is_same_key k (segments_of text)) refl
    where
      split : (b : Bool) → is_same_key k (segments_of text) ≡ b → numbers_in es k ≡ without_if b n (numbers_in es k)
      split true e =
          let empty : numbers_in es k ≡ [] = ap (numbers_in es) ((same_key_decides k (segments_of text)).0 e) ∙ ap listed (sym (found-key text es is) ∙ sym none) in
          empty ∙ sym (ap (without n) empty)
      split false e = refl

-- ---- entries

abbrev pub itemized : Option Numbers → Option (List ℕ)
itemized o = option_map (λ (numbers : Numbers). numbers.set.keys) o

-- no other key has an entry without numbers
abbrev pub IsTidyElsewhere : Key → List (OwnKey × Numbers) → Type 0
IsTidyElsewhere key es = (k : Key) → is_same_key k key ≡ false → entry_in es k ≢ Some []

-- what a map has at the keys that were not set
entry_elsewhere : (text : List ℕ) (old new : List (OwnKey × Numbers)) → KeepsOthers TextEq (at_text text) old new → (k : Key) → is_same_key k (segments_of text) ≡ false → entry_in new k ≡ entry_in old k
unfolding KeepsOthers
entry_elsewhere text old new others k e = ap itemized (others (λ (own : OwnKey). is_text_of k (own_text own)) (one_text k) (other_text k text e))

pub tidy_elsewhere : (text : List ℕ) (old new : List (OwnKey × Numbers)) → IsTidy old → KeepsOthers TextEq (at_text text) old new → IsTidyElsewhere (segments_of text) new
tidy_elsewhere text old new tidy others k e none = tidy k (sym (entry_elsewhere text old new others k e) ∙ none)

-- with no entry at the key, or one with numbers, there is none without
pub tidy_set : (text : List ℕ) (old new : List (OwnKey × Numbers)) (w : Option Numbers) → IsFlatText text → IsTidyElsewhere (segments_of text) old → itemized w ≢ Some [] → lookup (at_text text) new ≡ w → KeepsOthers TextEq (at_text text) old new → IsTidy new
tidy_set text old new w is tidy has here others k none = split (is_same_key k (segments_of text)) refl
  where
    split : (b : Bool) → is_same_key k (segments_of text) ≡ b → ⊥
    split true e = has (sym (ap (entry_in new) ((same_key_decides k (segments_of text)).0 e) ∙ ap itemized (sym (found-key text new is) ∙ here)) ∙ none)
    split false e = tidy k e (sym (entry_elsewhere text old new others k e) ∙ none)

pub none_tidy : itemized None ≢ Some []
none_tidy e = cc

pub some_tidy : (w : Numbers) → w.set.keys ≢ [] → itemized (Some w) ≢ Some []
some_tidy w has e = has cc

-- the numbers of an entry, with or without one more behind them, are some
pub pushed_some : (xs : List ℕ) (n : ℕ) → xs ++ n ∷ [] ≢ []
pushed_some [] n e = cc
pushed_some (x ∷ xs) n e = cc

pub found_some : (text : List ℕ) (es : List (OwnKey × Numbers)) (v : Numbers) → IsFlatText text → IsTidy es → Some v ≡ lookup (at_text text) es → v.set.keys ≢ []
found_some text es v is tidy found e = tidy (segments_of text) (sym (ap itemized (found ∙ found-key text es is)) ∙ ap Some e)

-- so they are whether the number was put there or memory was lacking
pub entered_some : {A E : Type 0} (r : Result A E) (xs ys : List ℕ) (n : ℕ) → xs ≢ [] → OnOk r (ys ≡ xs ++ n ∷ []) → OnErr r (ys ≡ xs) → ys ≢ []
entered_some (Ok a) xs ys n has is _ e = pushed_some xs n (sym is ∙ e)
entered_some (Err f) xs ys n has _ is e = has (sym is ∙ e)

-- either way there is a way on
pub from_either : {A E : Type 0} (r : Result A E) (P Q R : Type 0) → OnOk r P → OnErr r Q → (P → R) → (Q → R) → R
from_either (Ok a) P Q R p q f g = f p
from_either (Err e) P Q R p q f g = g q

pub not_empty : (xs : List ℕ) (is_empty : Bool) → (IsTrue is_empty ↔ (xs ≡ [])) → is_empty ≡ false → xs ≢ []
not_empty xs is_empty tells not none = let no : false ≡ true = sym not ∙ tells.1 none in cc

-- ---- a look

pub got : (text : List ℕ) (es : List (OwnKey × Numbers)) (o : Option Numbers) → IsFlatText text → o ≡ lookup (at_text text) es → listed o ≡ numbers_in es (segments_of text)
got text es o is found = ap listed (found ∙ found-key text es is)
