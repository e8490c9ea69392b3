-- What calls of a data file keep.
use Rattle.std.proofs.Common.{◌≡◌, ◌∙◌, ℕ, suc, ◌+◌, ◌-◌, Bool, true, leb, List, [], ◌∷◌, ◌++◌, length, ap, sym, arith}
use Rattle.std.proofs.Math.ListN.{replicate, length-replicate}
use Rattle.std.proofs.lemmas.List.{take_all, drop_all, append-nil, nil_from_length}
use Rattle.std.proofs.lemmas.List.Elements.{All-push}
use Rattle.std.specs.List.{remove}
use Rattle.std.specs.Prelude.{◌&&◌, Result, Ok, Err, OnErr}
use Rattle.std.proofs.lemmas.Bool.{and_parts, and_from, leb-true, le-leb}
use Rattle.sqlite_disk.specs.declared.Disk.{Ghosts}
use Rattle.dav_pieces.specs.Pieces.{bytes_at}
use Rattle.dav_pieces.proofs.RunBytes.{append-bytes_at}
use Rattle.dav_space.specs.declared.range.Range.{Range}
use Rattle.dav_blocks.specs.Runs.{are_clear}
use Rattle.dav_blocks.proofs.Keeping.{clear-joined}
use Rattle.dav_data.specs.declared.data_file.DataFile.{DataFile}
use Rattle.dav_data.specs.declared.hash.Tail.{Tail}
use Rattle.dav_data.specs.Digests.{hashed, IsHashed, AreHashed}
use Rattle.dav_tree.specs.Bodies.{KeepsBodies}
use Rattle.dav_store.specs.Calls.{written_at}
use Rattle.dav_blocks.specs.Blocks.{is_safe}
use Rattle.dav_data.specs.Data.{Keeps, data_of, in_use, is_usable, is_honest, body_bytes, is_held, is_synced}
use Rattle.dav_data.proofs.Bodies.{body-kept, body-bytes}

module _ {D : Type 0} {g : Ghosts D} where
  pub keeps-trans : (a b c : DataFile D g) → Keeps a b → Keeps b c → Keeps a c
  keeps-trans a b c first second = record {
    blocks = record {
      used = λ at n is. second.blocks.used at n (first.blocks.used at n is);
      same = λ at n is. second.blocks.same at n (first.blocks.used at n is) ∙ first.blocks.same at n is;
      safe = λ at n is. second.blocks.safe at n (first.blocks.safe at n is);
    };
    key = second.key ∙ first.key;
    usable = second.usable ∙ first.usable;
    honest = λ is. first.honest (second.honest is);
  }

  pub keeps-same : (old new : DataFile D g) → new ≡ old → Keeps old new
  keeps-same old new is = record {
    blocks = record {
      used = λ at n used. ap (λ (file : DataFile D g). in_use file at n) is ∙ used;
      same = λ at n used. ap (λ (file : DataFile D g). bytes_at (data_of file) at n) is;
      safe = λ at n safe. ap (λ (file : DataFile D g). is_safe file.file at n) is ∙ safe;
    };
    key = ap (λ (file : DataFile D g). file.key) is;
    usable = ap (λ (file : DataFile D g). is_usable file) is;
    honest = λ honest. ap (λ (file : DataFile D g). is_honest file) (sym is) ∙ honest;
  }

  pub keeps-bodies : (old new : DataFile D g) → Keeps old new → KeepsBodies (body_bytes {D = D} {g = g}) (is_held {D = D} {g = g}) (is_synced {D = D} {g = g}) old new
  keeps-bodies old new keeps = record {
    held = λ body held. body-kept _ _ keeps.blocks.used body held;
    same = λ body held. body-bytes _ _ _ keeps.blocks.same body held;
    still = λ body safe. body-kept _ _ keeps.blocks.safe body safe;
  }

pub if-err : {T E : Type 0} (result : Result T E) {P Q : Type 0} → (P → Q) → OnErr result P → OnErr result Q
if-err (Ok x) then p = tt
if-err (Err e) then p = then p

-- bytes that are written at the end
pub written-end : (bytes more : List ℕ) (place : ℕ) → place ≡ length bytes → bytes ++ more ≡ written_at bytes place more
written-end bytes [] place end = append-nil bytes
written-end bytes (b ∷ more) place end =
    let zeros : List ℕ = replicate (place - length bytes) 0 in
    let count : length zeros ≡ place - length bytes = length-replicate (place - length bytes) 0 in
    let none : length zeros ≡ 0 = omega arith in
    let whole = take_all place bytes (omega arith) in
    let gap = nil_from_length zeros none in
    let rest = drop_all (place + length (b ∷ more)) bytes (omega arith) in
    sym ((λ i. whole i ++ gap i ++ (b ∷ more) ++ rest i) ∙ append-nil (bytes ++ [] ++ (b ∷ more)) ∙ ap (λ bs. bs ++ (b ∷ more)) (append-nil bytes))

-- ---- tails

pub is_hashed-kept : (key : ℕ) (old new : List ℕ) (old_use new_use : ℕ → ℕ → Bool) → ((at n : ℕ) → old_use at n ≡ true → new_use at n ≡ true)
    → ((at n : ℕ) → old_use at n ≡ true → bytes_at new at n ≡ bytes_at old at n) → (tail : Tail) → IsHashed key old old_use tail → IsHashed key new new_use tail
is_hashed-kept key old new old_use new_use used same tail is = record {
  used = used tail.block.at tail.block.size is.used;
  hash = is.hash ∙ ap (hashed key) (sym (same tail.block.at tail.block.size is.used));
}

pub hashed-kept : (key : ℕ) (old new : List ℕ) (old_use new_use : ℕ → ℕ → Bool) → ((at n : ℕ) → old_use at n ≡ true → new_use at n ≡ true)
    → ((at n : ℕ) → old_use at n ≡ true → bytes_at new at n ≡ bytes_at old at n) → (tails : List Tail) → AreHashed key old old_use tails → AreHashed key new new_use tails
hashed-kept key old new old_use new_use used same tails are = λ k d lt. is_hashed-kept key old new old_use new_use used same _ (are k d lt)

pub hashed-push : (key : ℕ) (old new : List ℕ) (old_use new_use : ℕ → ℕ → Bool) → ((at n : ℕ) → old_use at n ≡ true → new_use at n ≡ true)
    → ((at n : ℕ) → old_use at n ≡ true → bytes_at new at n ≡ bytes_at old at n) → (tails : List Tail) (tail : Tail)
    → AreHashed key old old_use tails → IsHashed key old old_use tail → AreHashed key new new_use (tails ++ tail ∷ [])
hashed-push key old new old_use new_use used same tails tail are is =
    All-push (IsHashed key new new_use) tails tail (hashed-kept key old new old_use new_use used same tails are) (is_hashed-kept key old new old_use new_use used same tail is)

pub hashed-rest : (key : ℕ) (file : List ℕ) (in_use : ℕ → ℕ → Bool) (tails : List Tail) → AreHashed key file in_use tails → AreHashed key file in_use (remove tails 0)
hashed-rest key file in_use [] are = are
hashed-rest key file in_use (tail ∷ tails) are = λ k d lt. are (suc k) d (omega arith)

-- two runs in use, of which one follows the other
pub in-use-joined : (ranges : List Range) (end at n m : ℕ) → (leb (at + n) end && are_clear ranges at n) ≡ true → (leb (at + n + m) end && are_clear ranges (at + n) m) ≡ true
    → (leb (at + (n + m)) end && are_clear ranges at (n + m)) ≡ true
in-use-joined ranges end at n m first second =
    let one = and_parts (leb (at + n) end) (are_clear ranges at n) first in
    let two = and_parts (leb (at + n + m) end) (are_clear ranges (at + n) m) second in
    let below = leb-true (at + n + m) end two.0 in
    and_from _ _ (le-leb (at + (n + m)) end (omega arith)) (clear-joined ranges at n m one.1 two.1)

-- the bytes of a block that has grown
pub grown-bytes : (old new : List ℕ) (at n m : ℕ) (more : List ℕ) → bytes_at new at n ≡ bytes_at old at n → bytes_at new (at + n) m ≡ more → bytes_at new at (n + m) ≡ bytes_at old at n ++ more
grown-bytes old new at n m more same there = append-bytes_at new at n m ∙ (λ i. same i ++ there i)
