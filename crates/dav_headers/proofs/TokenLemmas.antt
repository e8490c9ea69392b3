-- The tokens of the header If are read as the grammar says.
use Rattle.std.proofs.Common.{◌≡◌, ◌≢◌, ◌∙◌, ◌<◌, ◌+◌, ◌==◌, ℕ, Bool, true, false, List, [], ◌∷◌, ◌++◌, length, take, drop, get_or, Some, option_map, cond, refl, ap, sym, subst, arith, codes, one-add, length-append, suc}
use Rattle.std.proofs.Math.Seq.{take-append_seam, drop-append_seam}
use Rattle.std.proofs.lemmas.Bool.Decides.{nat_tests}
use Rattle.std.specs.List.{prefix_len, take_while}
use Rattle.dav_resource.specs.declared.etag.ETag.{ETag}
use Rattle.dav_headers.specs.Values.{is_blank, drop_blanks, cut_at, is_word}
use Rattle.dav_headers.specs.Tag.{first_tag}
use Rattle.dav_headers.specs.TagGrammar.{Passes, TagAt}
use Rattle.dav_headers.specs.IfToken.{is_word_byte, first_angle, closed_tag, first_bracket, word_token, first_word, token_at, first_token, tokens_of}
use Rattle.dav_headers.specs.IfGrammar.{StopsAt, IsRun, TokenAt, opens, closes, angles, brackets, nots, words, Tokens, ended, blank, token}
use Rattle.dav_headers.specs.declared.if_token.IfToken.{IfToken}
use Rattle.dav_headers.specs.declared.if_token.IfToken.TheVariants.{Open, Close, Angle, Bracket}
use Rattle.dav_headers.proofs.OptionLemmas.{by_test, option_map-some, option_and_then-some}
use Rattle.dav_headers.proofs.TextLemmas.{length-drop_blanks}
use Rattle.dav_headers.proofs.RepeatedLemmas.{IsShortening, Repeats, done, more, all_of-repeats, repeats-all_of}
use Rattle.dav_headers.proofs.TagGrammarLemmas.{cut_at-found, cut_at-cut, begins_with, first_tag-found, first_tag-tag, TagAt-shorter}

-- ---- the longest front that passes

record IsFront (p : ℕ → Bool) (bs : List ℕ) (n : ℕ) : Type 0 where
  pub passes : Passes p (take n bs)
  pub stops : StopsAt p (drop n bs)
  pub whole : take n bs ++ drop n bs ≡ bs

front_step : (p : ℕ → Bool) (b : ℕ) (bs : List ℕ) (n : ℕ) (here : Bool) → p b ≡ here → IsFront p bs n → IsFront p (b ∷ bs) (cond here (1 + n) 0)
front_step p b bs n true is front =
    rw one-add (record { passes = (is, front.passes); stops = front.stops; whole = ap (λ cs. b ∷ cs) front.whole })
front_step p b bs n false is front = record { passes = tt; stops = is; whole = refl }

is_front : (p : ℕ → Bool) (bs : List ℕ) → IsFront p bs (prefix_len p bs)
is_front p [] = record { passes = tt; stops = tt; whole = refl }
is_front p (b ∷ bs) = front_step p b bs (prefix_len p bs) (p b) refl (is_front p bs)

run_found : (bytes : List ℕ) → (prefix_len is_word_byte bytes == 0) ≡ false → IsRun bytes (take_while is_word_byte bytes) (drop (prefix_len is_word_byte bytes) bytes)
run_found [] some = absurd cc
run_found (b ∷ bs) some =
    let front = is_front is_word_byte (b ∷ bs) in
    record {
      whole = sym front.whole;
      some = not_empty (is_word_byte b) (prefix_len is_word_byte bs) some;
      passes = front.passes;
      stops = front.stops;
    }
  where
    not_empty : (here : Bool) (n : ℕ) → (cond here (1 + n) 0 == 0) ≡ false → take (cond here (1 + n) 0) (b ∷ bs) ≢ []
    not_empty true n some = rw one-add (λ e. cc)
    not_empty false n some = absurd cc

-- a text that passes and then stops is the longest front
front_is : (p : ℕ → Bool) (text rest : List ℕ) → Passes p text → StopsAt p rest → prefix_len p (text ++ rest) ≡ length text
front_is p [] [] passes stops = refl
front_is p [] (c ∷ rest) passes stops = rw stops refl
front_is p (b ∷ text) rest passes stops = rw (passes.0, one-add) (ap (λ n. suc n) (front_is p text rest passes.1 stops))

-- ---- what is read is in the grammar

word_found : (bytes text rest : List ℕ) → IsRun bytes text rest → TokenAt bytes (word_token text) rest
word_found bytes text rest run =
    by_test (is_word text (codes "not")) (TokenAt bytes (word_token text) rest)
    (λ is. rw is (nots bytes text rest run is))
    (λ no. rw no (words bytes text rest run no))

first_word-found : (bytes : List ℕ) (found : IfToken × List ℕ) → first_word bytes ≡ Some found → TokenAt bytes found.0 found.1
first_word-found bytes found e =
    by_test (prefix_len is_word_byte bytes == 0) (TokenAt bytes found.0 found.1)
    (λ none. absurd (let f = rw none at e in cc))
    (λ some.
    let same : (word_token (take_while is_word_byte bytes), drop (prefix_len is_word_byte bytes) bytes) ≡ found = (let f = rw some at e in cc) in
    subst (λ f. TokenAt bytes f.0 f.1) same (word_found bytes _ _ (run_found bytes some)))

first_angle-found : (bytes inner : List ℕ) (found : IfToken × List ℕ) → bytes ≡ 60 ∷ inner → first_angle inner ≡ Some found → TokenAt bytes found.0 found.1
first_angle-found bytes inner found start e =
    let mapped = option_map-some (λ f. (Angle f.0, f.1)) (cut_at 62 inner) found e in
    let cut = cut_at-found 62 inner mapped.from mapped.was in
    subst (λ f. TokenAt bytes f.0 f.1) mapped.is (angles bytes mapped.from.0 mapped.from.1 (start ∙ ap (λ cs. 60 ∷ cs) cut.whole) cut.lacks)

closed_tag-found : (bytes inner : List ℕ) (tag : ETag) (rest : List ℕ) (found : IfToken × List ℕ) → bytes ≡ 91 ∷ inner → TagAt inner tag rest → closed_tag (tag, rest) ≡ Some found → TokenAt bytes found.0 found.1
closed_tag-found bytes inner tag rest found start at e =
    by_test (get_or rest 0 0 == 93) (TokenAt bytes found.0 found.1)
    (λ is.
    let same : (Bracket tag, drop 1 rest) ≡ found = (let f = rw is at e in cc) in
    subst (λ f. TokenAt bytes f.0 f.1) same (brackets bytes inner tag (drop 1 rest) start (subst (TagAt inner tag) (begins_with rest 93 is (omega arith)) at)))
    (λ no. absurd (let f = rw no at e in cc))

first_bracket-found : (bytes inner : List ℕ) (found : IfToken × List ℕ) → bytes ≡ 91 ∷ inner → first_bracket inner ≡ Some found → TokenAt bytes found.0 found.1
first_bracket-found bytes inner found start e =
    let chained = option_and_then-some closed_tag (first_tag inner) found e in
    closed_tag-found bytes inner chained.from.0 chained.from.1 found start (first_tag-found inner chained.from chained.was) chained.is

pub token_at-found : (bytes : List ℕ) (found : IfToken × List ℕ) → token_at bytes ≡ Some found → TokenAt bytes found.0 found.1
token_at-found bytes found e =
    let P : Type 0 = TokenAt bytes found.0 found.1 in
    by_test (get_or bytes 0 0 == 40) P
    (λ is.
    let same : (Open, drop 1 bytes) ≡ found = (let f = rw is at e in cc) in
    subst (λ f. TokenAt bytes f.0 f.1) same (opens bytes (drop 1 bytes) (begins_with bytes 40 is (omega arith))))
    (λ no_open. by_test (get_or bytes 0 0 == 41) P
    (λ is.
    let same : (Close, drop 1 bytes) ≡ found = (let f = rw (no_open, is) at e in cc) in
    subst (λ f. TokenAt bytes f.0 f.1) same (closes bytes (drop 1 bytes) (begins_with bytes 41 is (omega arith))))
    (λ no_close. by_test (get_or bytes 0 0 == 60) P
    (λ is. first_angle-found bytes (drop 1 bytes) found (begins_with bytes 60 is (omega arith)) (rw (no_open, no_close, is) at e))
    (λ no_angle. by_test (get_or bytes 0 0 == 91) P
    (λ is. first_bracket-found bytes (drop 1 bytes) found (begins_with bytes 91 is (omega arith)) (rw (no_open, no_close, no_angle, is) at e))
    (λ no_bracket. first_word-found bytes found (rw (no_open, no_close, no_angle, no_bracket) at e)))))

run_shorter : (bytes text rest : List ℕ) → IsRun bytes text rest → length rest < length bytes
run_shorter bytes [] rest run = absurd (run.some refl)
run_shorter bytes (b ∷ text) rest run = rw run.whole (omega (arith, length-append text rest))

-- what follows a token is shorter
pub TokenAt-shorter : (bytes : List ℕ) (t : IfToken) (rest : List ℕ) → TokenAt bytes t rest → length rest < length bytes
TokenAt-shorter bytes _ rest (opens _ _ e) = rw e (omega arith)
TokenAt-shorter bytes _ rest (closes _ _ e) = rw e (omega arith)
TokenAt-shorter bytes _ rest (angles _ text _ e lacks) = rw e (omega (arith, length-append text (62 ∷ rest)))
TokenAt-shorter bytes _ rest (brackets _ inner tag _ e at) = rw e (let lt = TagAt-shorter inner tag (93 ∷ rest) at in omega arith)
TokenAt-shorter bytes _ rest (nots _ text _ run is) = run_shorter bytes text rest run
TokenAt-shorter bytes _ rest (words _ text _ run is) = run_shorter bytes text rest run

pub first_token-shortens : IsShortening first_token
first_token-shortens =
    record {
      shorter = λ bytes found e.
          let mapped = option_map-some (λ f. (f.0, drop_blanks f.1)) (token_at bytes) found e in
          let lt = TokenAt-shorter bytes mapped.from.0 mapped.from.1 (token_at-found bytes mapped.from mapped.was) in
          let le = length-drop_blanks mapped.from.1 in
          let is : drop_blanks mapped.from.1 ≡ found.1 = ap (λ f. f.1) mapped.is in
          subst (λ rest. length rest < length bytes) is (omega arith);
    }

-- ---- what is in the grammar is read

-- a byte of a word is no blank and no bracket
record IsWordByte (b : ℕ) : Type 0 where
  pub not_blank : is_blank b ≡ false
  pub not_open : (b == 40) ≡ false
  pub not_close : (b == 41) ≡ false
  pub not_angle : (b == 60) ≡ false
  pub not_bracket : (b == 91) ≡ false

word_byte : (b : ℕ) → is_word_byte b ≡ true → IsWordByte b
word_byte b is =
    record {
      not_blank = grind (arith, nat_tests);
      not_open = grind (arith, nat_tests);
      not_close = grind (arith, nat_tests);
      not_angle = grind (arith, nat_tests);
      not_bracket = grind (arith, nat_tests);
    }

not_zero : (n : ℕ) (text : List ℕ) → n ≡ length text → text ≢ [] → (n == 0) ≡ false
not_zero n [] e some = absurd (some refl)
not_zero n (b ∷ text) e some = grind (arith, nat_tests)

first_word-run : (bytes text rest : List ℕ) → IsRun bytes text rest → first_word bytes ≡ Some (word_token text, rest)
first_word-run bytes text rest run =
    let len : prefix_len is_word_byte bytes ≡ length text = ap (prefix_len is_word_byte) run.whole ∙ front_is is_word_byte text rest run.passes run.stops in
    let some = not_zero (prefix_len is_word_byte bytes) text len run.some in
    let front : take (prefix_len is_word_byte bytes) bytes ≡ text = rw (len, run.whole) (take-append_seam text rest) in
    let back : drop (prefix_len is_word_byte bytes) bytes ≡ rest = rw (len, run.whole) (drop-append_seam text rest) in
    rw (some, front, back) refl

run_token : (bytes text rest : List ℕ) → IsRun bytes text rest → token_at bytes ≡ Some (word_token text, rest)
run_token bytes [] rest run = absurd (run.some refl)
run_token bytes (b ∷ text) rest run =
    let byte = word_byte b run.passes.0 in
    let first : get_or bytes 0 0 ≡ b = ap (λ bs. get_or bs 0 0) run.whole in
    rw (first, byte.not_open, byte.not_close, byte.not_angle, byte.not_bracket) (first_word-run bytes (b ∷ text) rest run)

token_at-token : (bytes : List ℕ) (t : IfToken) (rest : List ℕ) → TokenAt bytes t rest → token_at bytes ≡ Some (t, rest)
token_at-token bytes _ rest (opens _ _ e) = rw e refl
token_at-token bytes _ rest (closes _ _ e) = rw e refl
token_at-token bytes _ rest (angles _ text _ e lacks) = rw (e, cut_at-cut 62 text rest lacks) refl
token_at-token bytes _ rest (brackets _ inner tag _ e at) = rw (e, first_tag-tag inner tag (93 ∷ rest) at) refl
token_at-token bytes _ rest (nots _ text _ run is) = run_token bytes text rest run ∙ rw is refl
token_at-token bytes _ rest (words _ text _ run is) = run_token bytes text rest run ∙ rw is refl

run_first : (bytes text rest : List ℕ) → IsRun bytes text rest → drop_blanks bytes ≡ bytes
run_first bytes [] rest run = absurd (run.some refl)
run_first bytes (b ∷ text) rest run =
    let byte = word_byte b run.passes.0 in
    rw (run.whole, byte.not_blank) refl

-- no blank stands before a token
token_first : (bytes : List ℕ) (t : IfToken) (rest : List ℕ) → TokenAt bytes t rest → drop_blanks bytes ≡ bytes
token_first bytes _ rest (opens _ _ e) = rw e refl
token_first bytes _ rest (closes _ _ e) = rw e refl
token_first bytes _ rest (angles _ text _ e lacks) = rw e refl
token_first bytes _ rest (brackets _ inner tag _ e at) = rw e refl
token_first bytes _ rest (nots _ text _ run is) = run_first bytes text rest run
token_first bytes _ rest (words _ text _ run is) = run_first bytes text rest run

-- ---- all tokens

-- blanks before tokens change nothing
unblanked : (bs : List ℕ) (ts : List IfToken) → Tokens (drop_blanks bs) ts → Tokens bs ts
unblanked [] ts spelled = spelled
unblanked (b ∷ bs) ts spelled =
    by_test (is_blank b) (Tokens (b ∷ bs) ts)
    (λ is. blank b bs ts is (unblanked bs ts (rw is at spelled)))
    (λ no. rw no at spelled)

tokens_read : (bytes : List ℕ) (ts : List IfToken) → Repeats first_token bytes ts → Tokens bytes ts
tokens_read _ _ done = ended
tokens_read bytes _ (more _ found ts e some others) =
    let mapped = option_map-some (λ f. (f.0, drop_blanks f.1)) (token_at bytes) found e in
    let at = token_at-found bytes mapped.from mapped.was in
    let rest = unblanked mapped.from.1 ts (subst (λ r. Tokens r ts) (sym (ap (λ f. f.1) mapped.is)) (tokens_read found.1 ts others)) in
    subst (λ f. Tokens bytes (f.0 ∷ ts)) mapped.is (token bytes mapped.from.1 mapped.from.0 ts at rest)

tokens_repeated : (bytes : List ℕ) (ts : List IfToken) → Tokens bytes ts → Repeats first_token (drop_blanks bytes) ts
tokens_repeated _ _ ended = done
tokens_repeated _ _ (blank b bytes ts is inner) = rw is (tokens_repeated bytes ts inner)
tokens_repeated _ _ (token bytes rest t ts at inner) =
    let lt = TokenAt-shorter bytes t rest at in
    subst (λ bs. Repeats first_token bs (t ∷ ts)) (sym (token_first bytes t rest at))
    (more bytes (t, drop_blanks rest) ts (ap (option_map (λ f. (f.0, drop_blanks f.1))) (token_at-token bytes t rest at)) (omega arith) (tokens_repeated rest ts inner))

pub tokens_of-found : (text : List ℕ) (ts : List IfToken) → tokens_of text ≡ Some ts → Tokens text ts
tokens_of-found text ts e = unblanked text ts (tokens_read (drop_blanks text) ts (all_of-repeats first_token (drop_blanks text) ts e))

pub tokens_of-spelled : (text : List ℕ) (ts : List IfToken) → Tokens text ts → tokens_of text ≡ Some ts
tokens_of-spelled text ts spelled = repeats-all_of first_token first_token-shortens (drop_blanks text) ts (tokens_repeated text ts spelled)
