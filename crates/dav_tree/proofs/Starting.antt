-- What the engine sees of a body that is started.
use Rattle.std.proofs.Common.{◌≡◌, ◌∙◌, ℕ, ◌==◌, Bool, true, false, List, [], Option, Some, None, Result, Ok, Err, sym, ap, subst, ◌⊎◌, inl, inr, ◌≤◌, nat_cmp, arith, if◌then◌else◌}
use Rattle.std.specs.Prelude.{IfOk, IfErr, OnOk, OnErr}
use Rattle.dav_resource.specs.declared.error.FsError.{FsError}
use Rattle.dav_resource.specs.declared.error.FsError.TheVariants as errors
use Rattle.std.specs.Option.{option_map}
use Rattle.std.specs.BTreeMap as ordered
use Rattle.std.specs.BTreeMap.{BTreeMap}
use base.Stored.{Gv}
use Rattle.dav_nodes.specs.Tree.{Tree}
use Rattle.dav_tree.specs.declared.entry.Entry.{Entry}
use Rattle.dav_tree.proofs.Keeping.{body-in}
use Rattle.dav_store.specs.Calls.{IsOwn}
use Rattle.dav_store.specs.Logged.{Logged}
use Rattle.dav_store.specs.Store.{Store}
use Rattle.dav_store.specs.BodyCalls.{StartsBody, with_body}
use Rattle.dav_tree.specs.Memory.{Held, begun, seen_of}
use Rattle.dav_tree.specs.MemoryCalls.{start_error}
use Rattle.dav_tree.specs.Kept.{Kept, Rest, kept_by, held_of, Has}
use Rattle.dav_tree.proofs.Answering.{own_failure}
use Rattle.dav_tree.proofs.Effects.{memory_by, memory-has}

no_number : (b : Bool) (e : FsError) → (if b then Some errors.GeneralFailure else None) ≡ Some e → IsOwn e
no_number true e is = let same : errors.GeneralFailure ≡ e = cc in subst IsOwn same own_failure
no_number false e is = absurd cc

own_start : (held : Held) (e : FsError) → (e ≡ errors.Memory) ⊎ (start_error held ≡ Some e) → (e ≡ errors.Memory) ⊎ IsOwn e
own_start held e (inl memory) = inl memory
own_start held e (inr due) = inr (no_number (held.next == 18446744073709551615) e due)

module _ (version moment : ℕ) (limit : Option (Option ℕ)) (part : Option ℕ) (marks : Bool) (log : List Logged) (e0 e1 : Kept) where
  abbrev seen_by : Kept → Store
  seen_by kept = seen_of (memory_by kept version moment limit part marks) log

  pub starts-body : (answer : Result ℕ FsError) → IfOk answer (λ number. number ≡ e0.next) → (held_of e0).bodies e0.next ≡ None → OnOk answer (Has e0.resources (begun (held_of e0)) e1)
      → OnErr answer (Has e0.resources (held_of e0) e1) → IfErr answer (λ e. (e ≡ errors.Memory) ⊎ (start_error (held_of e0) ≡ Some e)) → StartsBody (seen_by e0) answer (seen_by e1)
  starts-body (Ok number) is free has same due = record {
    started = record {
      free = ap (held_of e0).bodies is ∙ free;
      begun = ap (λ m. seen_of m log) (memory-has version moment limit part marks e1 e0.resources (begun (held_of e0)) has) ∙ ap (λ n. with_body (seen_by e0) n (Some [])) (sym is);
    };
    refused = tt;
  }
  starts-body (Err e) is free has same due =
      record { started = tt; refused = (ap (λ m. seen_of m log) (memory-has version moment limit part marks e1 e0.resources (held_of e0) same), own_start (held_of e0) e due) }

-- there is no body at the next number
pub next-free : {B : Type 0} (bytes : B → List ℕ) (rest : Rest) (tree : Tree (Entry B)) (bodies : BTreeMap ℕ B) (next : ℕ) (past : Gv) (kept : Kept) → kept_by bytes rest tree bodies next past ≡ kept
    → ((number : ℕ) → next ≤ number → ordered.get nat_cmp bodies number ≡ None) → (held_of kept).bodies kept.next ≡ None
next-free bytes rest tree bodies next past kept is below =
    let same : next ≡ kept.next = ap (λ (k : Kept). k.next) is in
    body-in bytes rest tree bodies next past kept is kept.next ∙ ap (option_map bytes) (below kept.next (omega arith))
