-- Which calls a walk makes on what stood at a key, and what is gone after them.
use Rattle.std.proofs.Common.{◌≡◌, ◌≢◌, false, List, [], ◌∷◌, ◌++◌, Option, None, Some, refl, sym, ap, ◌∙◌, subst, inl, inr}
use Rattle.std.specs.FinMap.{get}
use Rattle.dav_key.specs.Key.{Key}
use Rattle.dav_resource.specs.declared.record.Op.{Op}
use Rattle.dav_resource.specs.declared.record.Op.TheVariants.{ReadDir, RemoveFile, RemoveDir, Entry}
use Rattle.dav_resource.specs.declared.record.Outcome.{Outcome}
use Rattle.dav_resource.specs.declared.record.Outcome.TheVariants.{Granted, Barred, Refused}
use Rattle.dav_store.specs.Store.{Node, Directory, Tree}
use Rattle.dav_store.specs.Members.{IsIn}
use Rattle.dav_walks.specs.KeyCall.{KeyCall, calls_at}
use Rattle.dav_walks.specs.Deletion.{Calls, Subtree, calls_below, Fits, IsRemoval, WasRemoved}
use Rattle.dav_walks.specs.Trace.{HasKind, Leaves, Walked, absent, unseen, file, unlisted, kept, emptied, Partly, over, waiting, halted}
use Rattle.dav_walks.proofs.Keys.{calls_at-IsIn}
use Rattle.dav_walks.proofs.Facts.{Call, only_call, two_calls, no_call, first_call, second_call}

-- ---- what fits

entry_fits : (node : Option Node) → node ≢ None → Fits node Entry
entry_fits None there = there refl
entry_fits (Some node) there = tt

file_fits : (node : Option Node) → HasKind false node → Fits node RemoveFile
file_fits it is = subst (λ (n : Option Node). Fits n RemoveFile) (sym is.1) tt

listing_fits : (node : Option Node) → node ≡ Some Directory → Fits node ReadDir
listing_fits it is = subst (λ (n : Option Node). Fits n ReadDir) (sym is) tt

removal_fits : (node : Option Node) → node ≡ Some Directory → Fits node RemoveDir
removal_fits it is = subst (λ (n : Option Node). Fits n RemoveDir) (sym is) tt

one_fits : (node : Option Node) (op : Op) (outcome : Outcome) (c : Call) (cs : List Call) → cs ≡ (op, outcome) ∷ [] → Fits node op → IsIn c cs → Fits node c.0
one_fits node op outcome c cs e fits i = subst (Fits node) (sym (ap (λ (d : Call). d.0) (only_call c (op, outcome) cs e i))) fits

both_fit : (node : Option Node) (outcome : Outcome) (c : Call) (cs : List Call) → cs ≡ (ReadDir, Granted) ∷ (RemoveDir, outcome) ∷ [] → node ≡ Some Directory → IsIn c cs → Fits node c.0
both_fit node outcome c cs e is i = elim (two_calls c _ _ cs e i) [
  | inl p ↦ subst (Fits node) (sym (ap (λ (d : Call). d.0) p)) (listing_fits node is)
  | inr p ↦ subst (Fits node) (sym (ap (λ (d : Call). d.0) p)) (removal_fits node is)
]

pub walked_fits : {old new : Subtree} {calls : Calls} → Walked old new calls → (x : Key) (c : Call) → IsIn c (calls x) → Fits (old x) c.0
walked_fits (absent none same) x c i = absurd (no_call c _ (same x).uncalled i)
walked_fits (unseen error was e same below) [] c i = one_fits _ _ _ c _ e (entry_fits _ was) i
walked_fits (unseen error was e same below) (n ∷ x) c i = absurd (no_call c _ (below n x).uncalled i)
walked_fits (file outcome is e leaves none below) [] c i = one_fits _ _ _ c _ e (file_fits _ is) i
walked_fits (file outcome is e leaves none below) (n ∷ x) c i = absurd (no_call c _ (below n x).uncalled i)
walked_fits (unlisted outcome refused is e same below) [] c i = one_fits _ _ _ c _ e (listing_fits _ is) i
walked_fits (unlisted outcome refused is e same below) (n ∷ x) c i = absurd (no_call c _ (below n x).uncalled i)
walked_fits (kept is e same some deep) [] c i = one_fits _ _ _ c _ e (listing_fits _ is) i
walked_fits (kept is e same some deep) (n ∷ x) c i = walked_fits (deep n) x c i
walked_fits (emptied outcome is e leaves quiet deep) [] c i = both_fit _ _ c _ e is i
walked_fits (emptied outcome is e leaves quiet deep) (n ∷ x) c i = walked_fits (deep n) x c i

pub partly_fits : {old new : Subtree} {calls : Calls} → Partly old new calls → (x : Key) (c : Call) → IsIn c (calls x) → Fits (old x) c.0
partly_fits (over w) x c i = walked_fits w x c i
partly_fits (waiting same) x c i = absurd (no_call c _ (same x).uncalled i)
partly_fits (halted is e same deep) [] c i = one_fits _ _ _ c _ e (listing_fits _ is) i
partly_fits (halted is e same deep) (n ∷ x) c i = partly_fits (deep n) x c i

-- the same of each call
pub call_fits : (old : Tree) (p : Key) (calls : List KeyCall) → ((r : KeyCall) → IsIn r calls → (x : Key) × (r.key ≡ p ++ x))
    → ((x : Key) (c : Call) → IsIn c (calls_below calls p x) → Fits (get old (p ++ x)) c.0) → (r : KeyCall) → IsIn r calls → Fits (get old r.key) r.op
call_fits old p calls within fits r i =
    let w = within r i in
    subst (λ (k : Key). Fits (get old k) r.op) (sym w.1) (fits w.0 (r.op, r.outcome) (subst (λ (k : Key). IsIn (r.op, r.outcome) (calls_at calls k)) w.1 (calls_at-IsIn calls r i)))

-- ---- what is gone

no_listing : {A : Type 0} (op : Op) → IsRemoval op → op ≡ ReadDir → A
no_listing op (inl of_file) is = let p : RemoveFile ≡ ReadDir = sym of_file ∙ is in absurd cc
no_listing op (inr directory) is = let p : RemoveDir ≡ ReadDir = sym directory ∙ is in absurd cc

no_entry : {A : Type 0} (op : Op) → IsRemoval op → op ≡ Entry → A
no_entry op (inl of_file) is = let p : RemoveFile ≡ Entry = sym of_file ∙ is in absurd cc
no_entry op (inr directory) is = let p : RemoveDir ≡ Entry = sym directory ∙ is in absurd cc

none_removed : {A : Type 0} (cs : List Call) → cs ≡ [] → WasRemoved cs → A
none_removed cs e r = absurd (no_call _ cs e r.2)

unseen_only : {A : Type 0} (outcome : Outcome) (cs : List Call) → cs ≡ (Entry, outcome) ∷ [] → WasRemoved cs → A
unseen_only outcome cs e r = no_entry r.0 r.1 (ap (λ (d : Call). d.0) (only_call _ _ cs e r.2))

listed_only : {A : Type 0} (outcome : Outcome) (cs : List Call) → cs ≡ (ReadDir, outcome) ∷ [] → WasRemoved cs → A
listed_only outcome cs e r = no_listing r.0 r.1 (ap (λ (d : Call). d.0) (only_call _ _ cs e r.2))

granted_there : (old new : Option Node) (outcome : Outcome) → Granted ≡ outcome → Leaves outcome old new → new ≡ None
granted_there old new outcome is leaves = subst (λ o. Leaves o old new) (sym is) leaves

-- where a removal was granted nothing stands
pub removed_gone : {old new : Subtree} {calls : Calls} → Walked old new calls → (x : Key) → WasRemoved (calls x) → new x ≡ None
removed_gone (absent none same) x r = none_removed _ (same x).uncalled r
removed_gone (unseen error was e same below) [] r = unseen_only _ _ e r
removed_gone (unseen error was e same below) (n ∷ x) r = none_removed _ (below n x).uncalled r
removed_gone (file outcome is e leaves none below) [] r = granted_there _ _ outcome (ap (λ (d : Call). d.1) (only_call _ _ _ e r.2)) leaves
removed_gone (file outcome is e leaves none below) (n ∷ x) r = none_removed _ (below n x).uncalled r
removed_gone (unlisted outcome refused is e same below) [] r = listed_only _ _ e r
removed_gone (unlisted outcome refused is e same below) (n ∷ x) r = none_removed _ (below n x).uncalled r
removed_gone (kept is e same some deep) [] r = listed_only _ _ e r
removed_gone (kept is e same some deep) (n ∷ x) r = removed_gone (deep n) x r
removed_gone (emptied outcome is e leaves quiet deep) [] r = elim (two_calls _ _ _ _ e r.2) [
  | inl p ↦ no_listing r.0 r.1 (ap (λ (d : Call). d.0) p)
  | inr p ↦ granted_there _ _ outcome (ap (λ (d : Call). d.1) p) leaves
]
removed_gone (emptied outcome is e leaves quiet deep) (n ∷ x) r = removed_gone (deep n) x r

pub partly_removed_gone : {old new : Subtree} {calls : Calls} → Partly old new calls → (x : Key) → WasRemoved (calls x) → new x ≡ None
partly_removed_gone (over w) x r = removed_gone w x r
partly_removed_gone (waiting same) x r = none_removed _ (same x).uncalled r
partly_removed_gone (halted is e same deep) [] r = listed_only _ _ e r
partly_removed_gone (halted is e same deep) (n ∷ x) r = partly_removed_gone (deep n) x r

still : {A : Type 0} {old new : Option Node} → new ≡ old → old ≢ None → new ≡ None → A
still same there none = absurd (there (sym same ∙ none))

-- where nothing stands any more a removal was granted
pub gone_removed : {old new : Subtree} {calls : Calls} → Walked old new calls → (x : Key) → old x ≢ None → new x ≡ None → WasRemoved (calls x)
gone_removed (absent none same) x there gone = absurd (there (none x))
gone_removed (unseen error was e same below) [] there gone = still same there gone
gone_removed (unseen error was e same below) (n ∷ x) there gone = still (below n x).same there gone
gone_removed (file Granted is e leaves none below) [] there gone = (RemoveFile, inl refl, first_call _ _ _ e)
gone_removed (file (Barred error) is e leaves none below) [] there gone = still leaves there gone
gone_removed (file (Refused error) is e leaves none below) [] there gone = still leaves there gone
gone_removed (file outcome is e leaves none below) (n ∷ x) there gone = still (below n x).same there gone
gone_removed (unlisted outcome refused is e same below) [] there gone = still same there gone
gone_removed (unlisted outcome refused is e same below) (n ∷ x) there gone = still (below n x).same there gone
gone_removed (kept is e same some deep) [] there gone = still same there gone
gone_removed (kept is e same some deep) (n ∷ x) there gone = gone_removed (deep n) x there gone
gone_removed (emptied Granted is e leaves quiet deep) [] there gone = (RemoveDir, inr refl, second_call _ _ _ _ e)
gone_removed (emptied (Barred error) is e leaves quiet deep) [] there gone = still leaves there gone
gone_removed (emptied (Refused error) is e leaves quiet deep) [] there gone = still leaves there gone
gone_removed (emptied outcome is e leaves quiet deep) (n ∷ x) there gone = gone_removed (deep n) x there gone

pub partly_gone_removed : {old new : Subtree} {calls : Calls} → Partly old new calls → (x : Key) → old x ≢ None → new x ≡ None → WasRemoved (calls x)
partly_gone_removed (over w) x there gone = gone_removed w x there gone
partly_gone_removed (waiting same) x there gone = still (same x).same there gone
partly_gone_removed (halted is e same deep) [] there gone = still same there gone
partly_gone_removed (halted is e same deep) (n ∷ x) there gone = partly_gone_removed (deep n) x there gone
