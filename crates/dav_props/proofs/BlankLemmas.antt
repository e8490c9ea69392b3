-- A text without the blanks at its end, byte by byte.
use Rattle.std.proofs.Common.{◌≡◌, ◌∙◌, ℕ, Bool, true, false, if◌then◌else◌, List, [], ◌∷◌, ◌++◌, reverse, refl, sym, ap}
use Rattle.std.proofs.lemmas.Bool.{cond-true, cond-false}
use Rattle.std.proofs.lemmas.List.{reverse-append}
use Rattle.dav_headers.specs.Values.{is_blank, drop_blanks, trim_blanks}

-- without the blanks at the end
abbrev pub trim_end : List ℕ → List ℕ
trim_end bs = reverse (drop_blanks (reverse bs))

-- the blank, where something stands behind it
abbrev pub blank_before : ℕ → List ℕ → List ℕ
blank_before b [] = []
blank_before b (x ∷ xs) = b ∷ (x ∷ xs)

-- these blanks are gone, and one more byte stood behind them
abbrev pushed : ℕ → List ℕ → List ℕ
pushed b [] = drop_blanks (b ∷ [])
pushed b (y ∷ ys) = y ∷ (ys ++ b ∷ [])

drop_blanks-push : (b : ℕ) (xs : List ℕ) → drop_blanks (xs ++ b ∷ []) ≡ pushed b (drop_blanks xs)
drop_blanks-push b [] = refl
drop_blanks-push b (x ∷ xs) = by_first (is_blank x) (drop_blanks-push b xs)
  where
    by_first : (blank : Bool) → drop_blanks (xs ++ b ∷ []) ≡ pushed b (drop_blanks xs) → (if blank then drop_blanks (xs ++ b ∷ []) else x ∷ (xs ++ b ∷ [])) ≡ pushed b (if blank then drop_blanks xs else x ∷ xs)
    by_first true e = e
    by_first false e = refl

trim_end-pushed : (b : ℕ) (bs : List ℕ) → trim_end (b ∷ bs) ≡ reverse (pushed b (drop_blanks (reverse bs)))
trim_end-pushed b bs = ap (λ xs. reverse (drop_blanks xs)) (reverse-append (b ∷ []) bs) ∙ ap reverse (drop_blanks-push b (reverse bs))

reverse-pushed : (b : ℕ) (ys : List ℕ) → is_blank b ≡ false → reverse (pushed b ys) ≡ b ∷ reverse ys
reverse-pushed b [] e = ap reverse (cond-false (is_blank b) [] (b ∷ []) e)
reverse-pushed b (y ∷ ys) e = reverse-append (y ∷ ys) (b ∷ [])

pub trim_end-cons : (b : ℕ) (bs : List ℕ) → is_blank b ≡ false → trim_end (b ∷ bs) ≡ b ∷ trim_end bs
trim_end-cons b bs e = trim_end-pushed b bs ∙ reverse-pushed b (drop_blanks (reverse bs)) e

before_last : (b y : ℕ) (zs : List ℕ) → b ∷ (zs ++ y ∷ []) ≡ blank_before b (zs ++ y ∷ [])
before_last b y [] = refl
before_last b y (z ∷ zs) = refl

reverse-pushed_blank : (b : ℕ) (ys : List ℕ) → is_blank b ≡ true → reverse (pushed b ys) ≡ blank_before b (reverse ys)
reverse-pushed_blank b [] e = ap reverse (cond-true (is_blank b) [] (b ∷ []) e)
reverse-pushed_blank b (y ∷ ys) e =
    let last = reverse-append (y ∷ []) ys in
    reverse-append (y ∷ ys) (b ∷ []) ∙ ap (λ zs. b ∷ zs) last ∙ before_last b y (reverse ys) ∙ ap (blank_before b) (sym last)

pub trim_end-blank : (b : ℕ) (bs : List ℕ) → is_blank b ≡ true → trim_end (b ∷ bs) ≡ blank_before b (trim_end bs)
trim_end-blank b bs e = trim_end-pushed b bs ∙ reverse-pushed_blank b (drop_blanks (reverse bs)) e

pub trim_blanks-cons : (b : ℕ) (bs : List ℕ) → is_blank b ≡ false → trim_blanks (b ∷ bs) ≡ trim_end (b ∷ bs)
trim_blanks-cons b bs e = ap trim_end (cond-false (is_blank b) (drop_blanks bs) (b ∷ bs) e)

pub trim_blanks-blank : (b : ℕ) (bs : List ℕ) → is_blank b ≡ true → trim_blanks (b ∷ bs) ≡ trim_blanks bs
trim_blanks-blank b bs e = ap trim_end (cond-true (is_blank b) (drop_blanks bs) (b ∷ bs) e)
