-- Statements in a transaction.
use Rattle.std.proofs.Math.ListN.{get_or-append}
use Rattle.std.proofs.Math.Seq.{take-suc, get_or-append_seam}
use Rattle.std.proofs.lemmas.List.{get_or-append-add}
use Rattle.std.proofs.Common.{◌≡◌, ◌⊎◌, inl, inr, ℕ, ◌+◌, ◌<◌, List, [], ◌∷◌, ◌++◌, take, length, length-append, get_or, ap, add-one, refl, sym, subst, ◌∙◌, arith}
use Rattle.std.specs.List.{Any}
use Rattle.sqlite.specs.State.{State, KeepsCommit}
use Rattle.dav_rows.specs.declared.change.Change.{Change}
use Rattle.dav_rows.specs.declared.change.Change.TheVariants.{PutState}
use Rattle.dav_rows.specs.declared.state.StateRow.{StateRow}
use Rattle.dav_rows.specs.Contents.{Contents, Holds, state_cells}
use Rattle.dav_rows.specs.Changes.{after, after_one, put_state, state_entry}
use Rattle.dav_rows.specs.Failing.{IsTooLong, PutsTooLong}
use Rattle.dav_rows.specs.Saving.{Edits}

pub kept_then : (a b c : State) → KeepsCommit a b → KeepsCommit b c → KeepsCommit a c
kept_then a b c p q = record {
  was_open = λ is. p.was_open (q.was_open is);
  committed = λ is. q.committed is ∙ p.committed (q.was_open is);
}

-- edits after edits, which together make h
pub edits_then : (a b c : State) (f g h : Contents → Contents) → ((m : Contents) → g (f m) ≡ h m) → Edits a b f → Edits b c g → Edits a c h
edits_then a b c f g h same p q = record {
  ready = q.ready;
  committed = q.committed ∙ p.committed;
  holds = λ m was. subst (Holds c.now.trees) (same m) (q.holds (f m) (p.holds m was));
}

pub after-append : (cs ds : List Change) (m : Contents) → after (cs ++ ds) m ≡ after ds (after cs m)
after-append [] ds m = refl
after-append (c ∷ cs) ds m = after-append cs ds (after_one c m)

pub after_next : (cs : List Change) (i : ℕ) (c : Change) (m : Contents) → i < length cs → c ≡ get_or cs i c → after_one c (after (take i cs) m) ≡ after (take (i + 1) cs) m
after_next cs i c m low is = sym (ap (λ xs. after xs m) (ap (λ n. take n cs) (add-one i) ∙ take-suc cs i c low ∙ ap (λ x. take i cs ++ x ∷ []) (sym is)) ∙ after-append (take i cs) (c ∷ []) m)

-- changes and then two rows of the state
pub after_two : (cs : List Change) (a b : StateRow) (all : List Change) → all ≡ cs ++ PutState a ∷ PutState b ∷ [] → (m : Contents) → put_state b (put_state a (after cs m)) ≡ after all m
after_two cs a b all is m = sym (ap (λ xs. after xs m) is ∙ after-append cs (PutState a ∷ PutState b ∷ []) m)

-- a row that is too long, among the first changes
pub long_before : (cs ds all : List Change) → all ≡ cs ++ ds → Any PutsTooLong cs → Any PutsTooLong all
long_before cs ds all is long = subst (Any PutsTooLong) (sym is) (long.0, long.1, omega (arith, length-append cs ds, long.2), get_or-append cs ds long.1 long.0 long.2 ∙ long.3, long.4)

-- one of the two rows of the state
pub long_at_end : (cs : List Change) (a b : StateRow) (all : List Change) → all ≡ cs ++ PutState a ∷ PutState b ∷ []
    → IsTooLong state_cells (state_entry a) ⊎ IsTooLong state_cells (state_entry b) → Any PutsTooLong all
long_at_end cs a b all is (inl long) = subst (Any PutsTooLong) (sym is)
    (length cs, PutState a, omega (arith, length-append cs (PutState a ∷ PutState b ∷ [])), get_or-append_seam cs (PutState a) (PutState b ∷ []) (PutState a), long)
long_at_end cs a b all is (inr long) = subst (Any PutsTooLong) (sym is)
    (length cs + 1, PutState b, omega (arith, length-append cs (PutState a ∷ PutState b ∷ [])), get_or-append-add cs (PutState a ∷ PutState b ∷ []) 1 (PutState b), long)
