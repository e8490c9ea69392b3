-- What a write, a cut and a sync leave as it was.
use Rattle.std.proofs.Common.{◌≡◌, ◌∙◌, leb, ℕ, zero, suc, ◌+◌, ◌<◌, ◌≤◌, ◌⊎◌, true, List, [], ◌∷◌, length, take, refl, ap, sym, subst, length-take, inl, inr, ⊎_elim, arith}
use Rattle.std.specs.Prelude.{slice_index, Result, Ok, Err, OnOk, IfErr, ◌&&◌, false}
use Rattle.std.specs.Result.{IsErrAnd}
use Rattle.std.specs.declared.io.Error.{Error}
use Rattle.sqlite_disk.specs.declared.tally.Tally.{Tally}
use Rattle.sqlite_disk.specs.Refusal.{is_no_room}
use Rattle.sqlite_disk.specs.Tally.{CountsRefusal}
use Rattle.std.specs.Bool.{MatchBool}
use Rattle.sqlite_disk.specs.Disk.{MoreFaults}
use Rattle.std.proofs.lemmas.Bool.{and_parts, and_from, or_cases, or_left, or_right, leb-true, le-leb, cases_lt}
use Rattle.sqlite_disk.specs.Disk.{Holds, Torn, Cut, Follows}
use Rattle.dav_pieces.specs.Pieces.{bytes_at}
use Rattle.dav_pieces.proofs.RunBytes.{same-bytes_at, held-bytes_at}
use Rattle.dav_space.specs.declared.range.Range.{Range}
use Rattle.dav_space.specs.Ranges.{is_outside, is_clear, KeepsClear, AreUnused, AreTaken}
use Rattle.dav_blocks.specs.Runs.{are_clear, KeepsBytes}
use Rattle.dav_blocks.specs.Settling.{KeepsFirst}

-- what was written is there
pub written-run : (file bytes : List ℕ) (at n : ℕ) → n ≡ length bytes → 0 < n → (0 < length bytes → Holds file at bytes) → bytes_at file at n ≡ bytes
written-run file bytes at n long some holds = ap (bytes_at file at) long ∙ held-bytes_at file bytes at (holds (omega arith)).each

-- what was read is there
pub read-run : (file bytes : List ℕ) (at n : ℕ) → n ≡ length bytes → (0 < n → Holds file at bytes) → bytes ≡ bytes_at file at n
read-run file [] at n long holds = ap (bytes_at file at) (sym long)
read-run file (b ∷ bytes) at n long holds = sym (ap (bytes_at file at) long ∙ held-bytes_at file (b ∷ bytes) at (holds (omega arith)).each)

-- ---- clear runs

outside-less : (at n a m : ℕ) (r : Range) → at ≤ a → a + m ≤ at + n → is_outside at n r ≡ true → is_outside a m r ≡ true
outside-less at n a m r low high is =
    ⊎_elim
    (λ behind. let l = leb-true r.end at behind in or_left _ _ (le-leb r.end a (omega arith)))
    (λ before. let l = leb-true (at + n) r.at before in or_right _ _ (le-leb (a + m) r.at (omega arith)))
    (or_cases (leb r.end at) (leb (at + n) r.at) is)

clear-less : (ranges : List Range) (at n a m : ℕ) → at ≤ a → a + m ≤ at + n → is_clear ranges at n ≡ true → is_clear ranges a m ≡ true
clear-less [] at n a m low high clear = refl
clear-less (r ∷ ranges) at n a m low high clear =
    let both = and_parts (is_outside at n r) (is_clear ranges at n) clear in
    and_from _ _ (outside-less at n a m r low high both.0) (clear-less ranges at n a m low high both.1)

-- a run that no range touches
pub clear-run : (ranges : List Range) (at n : ℕ) → is_clear ranges at n ≡ true → are_clear ranges at n ≡ true
clear-run ranges at zero clear = refl
clear-run ranges at (suc n) clear =
    and_from _ _ (clear-less ranges at (suc n) at 1 (omega arith) (omega arith) clear)
    (clear-run ranges (suc at) n (clear-less ranges at (suc n) (suc at) n (omega arith) (omega arith) clear))

-- each byte of a clear run is clear
pub clear-byte : (ranges : List Range) (at n i : ℕ) → are_clear ranges at n ≡ true → at ≤ i → i < at + n → is_clear ranges i 1 ≡ true
clear-byte ranges at zero i clear low high = absurd (omega arith)
clear-byte ranges at (suc n) i clear low high =
    let both = and_parts (is_clear ranges at 1) (are_clear ranges (suc at) n) clear in
    ⊎_elim
    (λ l. clear-byte ranges (suc at) n i both.1 l (omega arith))
    (λ l. let e : i ≡ at = omega arith in ap (λ k. is_clear ranges k 1) e ∙ both.0)
    (cases_lt at i)

pub clear-kept : (old new : List Range) (at n : ℕ) → KeepsClear old new → are_clear old at n ≡ true → are_clear new at n ≡ true
clear-kept old new at zero kept clear = refl
clear-kept old new at (suc n) kept clear =
    let both = and_parts (is_clear old at 1) (are_clear old (suc at) n) clear in
    and_from _ _ (kept at 1 both.0) (clear-kept old new (suc at) n kept both.1)

-- two runs of which one follows the other
pub clear-joined : (ranges : List Range) (at n m : ℕ) → are_clear ranges at n ≡ true → are_clear ranges (at + n) m ≡ true → are_clear ranges at (n + m) ≡ true
clear-joined ranges at zero m first second =
    let p : at ≡ at + zero = omega arith in let q : zero + m ≡ m = omega arith in
    ap (are_clear ranges at) q ∙ ap (λ k. are_clear ranges k m) p ∙ second
clear-joined ranges at (suc n) m first second =
    let both = and_parts (is_clear ranges at 1) (are_clear ranges (suc at) n) first in
    let p : suc at + n ≡ at + suc n = omega arith in
    let q : suc n + m ≡ suc (n + m) = omega arith in
    ap (are_clear ranges at) q ∙ and_from _ _ both.0 (clear-joined ranges (suc at) n m both.1 (ap (λ k. are_clear ranges k m) p ∙ second))

-- ---- calls of a disk

-- a write where nothing is in use
pub torn-keeps : (ranges : List Range) (end at n : ℕ) (old new : List ℕ) → end ≤ length old → AreUnused at n ranges → Torn at n old new → KeepsBytes ranges end old new
torn-keeps ranges end at n old new within free torn = record {
  within = let more = torn.no_shorter in omega arith;
  same = λ i below clear. apart i below (free i 1 clear);
}
  where
    apart : (i : ℕ) → i < end → (i + 1 ≤ at) ⊎ (at + n ≤ i) → slice_index new i ≡ slice_index old i
    apart i below (inl before) = torn.below i (omega arith) (omega arith)
    apart i below (inr behind) = torn.above i (omega arith) behind

pub unused-earlier : (at n : ℕ) (earlier now : List Range) → KeepsClear earlier now → AreUnused at n now → AreUnused at n earlier
unused-earlier at n earlier now kept free = λ a m clear. free a m (kept a m clear)

-- what a crash may leave after a write where nothing is in use
pub survives-write : (then now : List Range) (synced end at n : ℕ) (old new : List ℕ) (old_may new_may : List ℕ → Type 0)
    → synced ≤ end → end ≤ length old → KeepsClear then now → AreUnused at n now → Torn at n old new → Follows (Torn at n) old_may new_may
    → ((c : List ℕ) → old_may c → KeepsBytes then synced old c) → (c : List ℕ) → new_may c → KeepsBytes then synced new c
survives-write then now synced end at n old new old_may new_may before within kept free torn follows survives c left =
    let step = follows c left in
    let was = survives step.0 step.1 in
    let unused = unused-earlier at n then now kept free in
    let on_disk = torn-keeps then synced at n step.0 c was.within unused step.2 in
    let here = torn-keeps then synced at n old new (omega arith) unused torn in
    record {
      within = on_disk.within;
      same = λ i below clear. on_disk.same i below clear ∙ was.same i below clear ∙ sym (here.same i below clear);
    }

-- the bytes of a run that is clear, where each clear byte is the same
pub run-kept : (ranges : List Range) (end at n : ℕ) (old new : List ℕ) → KeepsBytes ranges end old new → at + n ≤ end → are_clear ranges at n ≡ true → bytes_at new at n ≡ bytes_at old at n
run-kept ranges end at n old new kept below clear = same-bytes_at old new at n (λ i l h. kept.same i (omega arith) (clear-byte ranges at n i clear l h))

pub if-ok : {T E : Type 0} (result : Result T E) {P Q : Type 0} → (P → Q) → OnOk result P → OnOk result Q
if-ok (Ok x) then p = then p
if-ok (Err e) then p = tt

-- ---- what is in use

pub in-use-kept : (old new : List Range) (end more at n : ℕ) → end ≤ more → KeepsClear old new → (leb (at + n) end && are_clear old at n) ≡ true → (leb (at + n) more && are_clear new at n) ≡ true
in-use-kept old new end more at n longer kept used =
    let both = and_parts (leb (at + n) end) (are_clear old at n) used in
    let below = leb-true (at + n) end both.0 in
    and_from _ _ (le-leb (at + n) more (omega arith)) (clear-kept old new at n kept both.1)

pub bytes-kept : (ranges now : List Range) (end at n : ℕ) (old new : List ℕ) → end ≤ length old → AreUnused at n now → KeepsClear ranges now → Torn at n old new
    → (a m : ℕ) → (leb (a + m) end && are_clear ranges a m) ≡ true → bytes_at new a m ≡ bytes_at old a m
bytes-kept ranges now end at n old new within free kept torn a m used =
    let both = and_parts (leb (a + m) end) (are_clear ranges a m) used in
    run-kept ranges end a m old new (torn-keeps ranges end at n old new within (unused-earlier at n ranges now kept free) torn) (leb-true (a + m) end both.0) both.1

-- the bytes in use, before a place at which the file is cut
pub cut-bytes : (ranges : List Range) (end : ℕ) (old new : List ℕ) → end ≤ length old → Cut end old new
    → (a m : ℕ) → (leb (a + m) end && are_clear ranges a m) ≡ true → bytes_at new a m ≡ bytes_at old a m
cut-bytes ranges end old new within cut a m used =
    let both = and_parts (leb (a + m) end) (are_clear ranges a m) used in
    let below = leb-true (a + m) end both.0 in
    same-bytes_at old new a m (λ i l h. cut.below i (omega arith) (omega arith))

-- the bytes before a place, where the file is cut behind it
pub cut-first : (end len : ℕ) (old new : List ℕ) → end ≤ len → Cut len old new → KeepsFirst end old new
cut-first end len old new most cut = λ within at n below. same-bytes_at old new at n (λ i l h. cut.below i (omega arith) (omega arith))

-- the run that was written is in use
pub in-use-taken : (old new : List Range) (end at n : ℕ) → at + n ≤ end → AreTaken at n old new → (leb (at + n) end && are_clear new at n) ≡ true
in-use-taken old new end at n below taken = and_from _ _ (le-leb (at + n) end below) (clear-run new at n taken.taken)

pub taken-at : (old new : List Range) (at begin n : ℕ) → at ≡ begin → AreTaken begin n old new → AreTaken at n old new
taken-at old new at begin n same taken = subst (λ k. AreTaken k n old new) (sym same) taken

-- ---- the first n of some bytes

part-len : (n : ℕ) (bytes : List ℕ) → n ≤ length bytes → length (take n bytes) ≡ n
part-len n bytes most = omega (arith, length-take n bytes)

pub torn-part : (old new : List ℕ) (at n : ℕ) (bytes : List ℕ) → n ≤ length bytes → Torn at (length (take n bytes)) old new → Torn at n old new
torn-part old new at n bytes most torn = subst (λ k. Torn at k old new) (part-len n bytes most) torn

pub follows-part : (old_may new_may : List ℕ → Type 0) (at n : ℕ) (bytes : List ℕ) → n ≤ length bytes → Follows (Torn at (length (take n bytes))) old_may new_may → Follows (Torn at n) old_may new_may
follows-part old_may new_may at n bytes most follows = λ c left. let step = follows c left in (step.0, step.1, torn-part step.0 c at n bytes most step.2)

pub written-part : (file bytes : List ℕ) (at n : ℕ) → n ≤ length bytes → (n ≡ 0 → ⊥) → (0 < length (take n bytes) → Holds file at (take n bytes)) → bytes_at file at n ≡ take n bytes
written-part file bytes at n most some holds = written-run file (take n bytes) at n (sym (part-len n bytes most)) (omega arith) holds

pub written-end : (file bytes : List ℕ) (at n : ℕ) → n ≤ length bytes → (n ≡ 0 → ⊥) → (0 < length (take n bytes) → Holds file at (take n bytes)) → at + n ≤ length file
written-end file bytes at n most some holds =
    let long = part-len n bytes most in
    let within = (holds (omega arith)).within in
    omega arith

-- ---- errors

-- an error that is passed on
pub if-err-same : {T E : Type 0} (result : Result T E) (e : E) (P : E → Type 0) → IsErrAnd result (λ y. y ≡ e) → P e → IfErr result P
if-err-same (Ok x) e P is p = tt
if-err-same (Err y) e P is p = subst P (sym is) p

-- what an error that does not say that there is no room says of the counts
pub none-refused : {T : Type 0} (e : Error) (old new : Tally) → CountsRefusal {T = T} (Err e) old new → is_no_room e ≡ false → new.refused ≡ old.refused
none-refused e old new counts other = subst (λ b. MatchBool b (MoreFaults old.refused new.refused) (new.refused ≡ old.refused)) other counts.refused
