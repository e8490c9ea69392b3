-- The first arguments among others, and what they do to the options.
use Rattle.std.proofs.Common.{◌≡◌, ◌≢◌, ◌∙◌, ℕ, ◌-◌, ◌<◌, ◌≤◌, Bool, true, false, List, [], ◌∷◌, length, get_or, take, drop, codes, String, string_bytes, Global, refl, sym, ap, inl, inr, arith}
use Rattle.std.specs.Option.{option_and_then}
use Rattle.std.specs.Prelude.{bytes_eq}
use Rattle.std.proofs.lemmas.List.{take_rest}
use Rattle.std.proofs.lemmas.Slice.Eq.{bytes_eq-Decides}
use Rattle.dav_resource.specs.Texts.{texts}
use Rattle.davd.specs.declared.program.Stopped.{Stopped}
use Rattle.davd.specs.Options.{OptionsValue, IsFault, is_unlocks, unlocking, is_loss, accepting, with_value, with_folder, with_arguments}

-- all but the first
abbrev pub tail : List (String Global) → List (String Global)
tail ss = take (length ss - 1) (drop 1 ss)

first-tail : (ss : List (String Global)) (s d : String Global) → 1 ≤ length ss → s ≡ get_or ss 0 d → texts ss ≡ string_bytes s ∷ texts (tail ss)
first-tail [] s d some is = absurd (omega arith)
first-tail (t ∷ ss) s d some is = rw take_rest (ap (λ u. string_bytes u ∷ texts ss) (sym is))

-- another name than a flag's
other : (name flag : List ℕ) → name ≢ flag → bytes_eq name flag ≡ false
other name flag apart = by_test (bytes_eq name flag) (λ h. apart ((bytes_eq-Decides name flag).0 h)) where
  by_test : (b : Bool) → (b ≢ true) → b ≡ false
  by_test true h = absurd (h refl)
  by_test false h = refl

with-unlocks : (name : List ℕ) (rest : List (List ℕ)) (options : OptionsValue) → is_unlocks name ≡ true → with_arguments (name ∷ rest) options ≡ with_arguments rest (unlocking options)
with-unlocks name [] options is = rw is
with-unlocks name (value ∷ rest) options is = rw is

with-loss : (name : List ℕ) (rest : List (List ℕ)) (options : OptionsValue) → is_unlocks name ≡ false → is_loss name ≡ true
    → with_arguments (name ∷ rest) options ≡ with_arguments rest (accepting options)
with-loss name [] options apart is = rw (apart, is)
with-loss name (value ∷ rest) options apart is = rw (apart, is)

-- the name of a flag is the first argument
flag-is : (s : String Global) (name flag : List ℕ) → name ≡ string_bytes s → name ≡ flag → bytes_eq (string_bytes s) flag ≡ true
flag-is s name flag named is = (bytes_eq-Decides (string_bytes s) flag).1 (sym named ∙ is)

pub after-unlocks : (ss : List (String Global)) (s d : String Global) (name : List ℕ) (options : OptionsValue) → 1 ≤ length ss → s ≡ get_or ss 0 d → name ≡ string_bytes s
    → name ≡ codes "-anyone-unlocks" → with_arguments (texts ss) options ≡ with_arguments (texts (tail ss)) (unlocking options)
after-unlocks ss s d name options some is named flag =
    rw (first-tail ss s d some is) (with-unlocks (string_bytes s) (texts (tail ss)) options (flag-is s name (codes "-anyone-unlocks") named flag))

pub after-loss : (ss : List (String Global)) (s d : String Global) (name : List ℕ) (options : OptionsValue) → 1 ≤ length ss → s ≡ get_or ss 0 d → name ≡ string_bytes s
    → name ≡ codes "-accept-loss" → with_arguments (texts ss) options ≡ with_arguments (texts (tail ss)) (accepting options)
after-loss ss s d name options some is named flag =
    rw (first-tail ss s d some is)
    (with-loss (string_bytes s) (texts (tail ss)) options (ap is_unlocks (sym named ∙ flag)) (flag-is s name (codes "-accept-loss") named flag))

pub after-last : (ss : List (String Global)) (s d : String Global) (name : List ℕ) (options : OptionsValue) → 1 ≤ length ss → s ≡ get_or ss 0 d → name ≡ string_bytes s
    → name ≢ codes "-anyone-unlocks" → name ≢ codes "-accept-loss" → length (tail ss) < 1 → with_arguments (texts ss) options ≡ with_folder name options
after-last ss s d name options some is named apart too last = rw (first-tail ss s d some is) (by_tail (tail ss) last) where
  by_tail : (rest : List (String Global)) → length rest < 1 → with_arguments (string_bytes s ∷ texts rest) options ≡ with_folder name options
  by_tail [] h = rw (sym named, other name (codes "-anyone-unlocks") apart, other name (codes "-accept-loss") too)
  by_tail (t ∷ rest) h = absurd (omega arith)

pub after-value : (ss : List (String Global)) (s v d e : String Global) (name value : List ℕ) (options : OptionsValue) → 1 ≤ length ss → s ≡ get_or ss 0 d → name ≡ string_bytes s
    → name ≢ codes "-anyone-unlocks" → name ≢ codes "-accept-loss" → 1 ≤ length (tail ss) → v ≡ get_or (tail ss) 0 e → value ≡ string_bytes v
    → with_arguments (texts ss) options ≡ option_and_then (with_arguments (texts (tail (tail ss)))) (with_value name value options)
after-value ss s v d e name value options some is named apart too more is_v valued =
    rw (first-tail ss s d some is, first-tail (tail ss) v e more is_v, sym named, sym valued, other name (codes "-anyone-unlocks") apart, other name (codes "-accept-loss") too)

-- a fault for another reason
pub fault-by : {One Another : Type 0} {e : Stopped} → (One → Another) → IsFault One e → IsFault Another e
fault-by f (inl memory) = inl memory
fault-by f (inr (usage, one)) = inr (usage, f one)
