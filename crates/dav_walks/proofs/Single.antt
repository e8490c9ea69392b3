-- Walks of one call.
use Rattle.std.proofs.Common.{◌≡◌, ◌≢◌, ◌⊎◌, ℕ, Bool, true, false, cond, List, [], ◌∷◌, ◌++◌, Option, None, Some, refl, sym, ap, ◌∙◌, subst, inl, inr}
use Rattle.std.specs.Prelude.{IsPermutation, option_map}
use Rattle.std.specs.FinMap.{FinMap, get}
use Rattle.std.specs.List.{cons_option}
use Rattle.std.proofs.lemmas.List.{append-nil}
use Rattle.std.proofs.lemmas.List.Sorted.{IsPermutation-refl}
use Rattle.dav_key.specs.Key.{Key, key_cmp}
use Rattle.dav_resource.specs.Tree as elements
use Rattle.dav_resource.specs.PathText.{PathValue}
use Rattle.dav_resource.specs.Errors.{fs_status}
use Rattle.dav_resource.specs.declared.record.Op.{Op}
use Rattle.dav_resource.specs.declared.record.Op.TheVariants.{ReadDir, RemoveFile, Entry}
use Rattle.dav_resource.specs.declared.record.Outcome.{Outcome}
use Rattle.dav_resource.specs.declared.record.Outcome.TheVariants.{Granted, Barred, Refused}
use Rattle.dav_resource.specs.declared.error.FsError.{FsError}
use Rattle.dav_store.specs.Logged.{Logged}
use Rattle.dav_store.specs.Store.{Store, Contents, Node, File, Directory, IsWellFormed}
use Rattle.dav_store.specs.Calls.{Grants, Declines, IsLawful, IsOwn, error_of, must_be_file}
use Rattle.dav_store.specs.Members.{IsIn, member, IsRemovedAt, remove_file_call, read_dir_call, read_dir_bar}
use Rattle.dav_messages.specs.Multistatus.{Item}
use Rattle.dav_walks.specs.KeyCall.{KeyCall, logged_call, same_key, standing}
use Rattle.dav_walks.specs.Deletion.{subtree, calls_below, WasRefused, named_path, path_at, IsRootRemoval}
use Rattle.dav_walks.specs.Trace.{HasKind, Leaves, Walked, file, unlisted, Walks}
use Rattle.dav_walks.proofs.Keys.{same_key_itself, other_key, look_removed, child_below, below_cancel, append-nothing, parent-child}
use Rattle.dav_walks.proofs.Kept.{none_or, kept_itself, removal_others, removal_keeps}
use Rattle.dav_walks.proofs.Facts.{file_there, directory_there, no_entry_one, listing_is_no_entry, file_is_no_entry}

abbrev pub Names : Type 0
Names = List Item

abbrev pub call_on : Key → Op → Outcome → KeyCall
call_on k op outcome = record { key = k; op = op; outcome = outcome }

pub beside : (k : Key) (n : List ℕ) (x : Key) → k ≢ k ++ n ∷ x
beside k n x e = let p : [] ≡ n ∷ x = below_cancel k [] (n ∷ x) (append-nothing k ∙ e) in cc

pub same_head : (k : Key) (n m : List ℕ) (x y : Key) → k ++ n ∷ x ≡ k ++ m ∷ y → n ≡ m
same_head k n m x y e = let p : n ∷ x ≡ m ∷ y = below_cancel k (n ∷ x) (m ∷ y) e in cc

-- one call, at its key and below it
pub alone : (k : Key) (op : Op) (outcome : Outcome) → calls_below (call_on k op outcome ∷ []) k [] ≡ (op, outcome) ∷ []
alone k op outcome = ap (λ b. cond b ((op, outcome) ∷ []) []) (ap (same_key k) (append-nothing k) ∙ same_key_itself k)

pub alone_below : (k : Key) (op : Op) (outcome : Outcome) (n : List ℕ) (x : Key) → calls_below (call_on k op outcome ∷ []) k (n ∷ x) ≡ []
alone_below k op outcome n x = ap (λ b. cond b ((op, outcome) ∷ []) []) (other_key k (k ++ n ∷ x) (beside k n x))

-- what stands below a key stands in a directory
module _ (contents : Contents) (formed : IsWellFormed contents) where
  pub above_member : (k : Key) (n : List ℕ) → get contents.tree (member k n) ≢ None → get contents.tree k ≡ Some Directory
  above_member k n there = ap (get contents.tree) (sym (parent-child k n)) ∙ formed.parents (member k n) there

  pub stands_in : (x : Key) (k : Key) (n : List ℕ) → get contents.tree (k ++ n ∷ x) ≢ None → get contents.tree k ≡ Some Directory
  stands_in [] k n there = above_member k n there
  stands_in (m ∷ x) k n there =
      above_member k n (directory_there _ (stands_in x (member k n) m (λ none. there (ap (get contents.tree) (sym (child_below k n (m ∷ x))) ∙ none))))

  pub none_below_file : (k : Key) → HasKind false (get contents.tree k) → (n : List ℕ) (x : Key) → get contents.tree (k ++ n ∷ x) ≡ None
  none_below_file k is n x = go (none_or _)
    where
      go : (get contents.tree (k ++ n ∷ x) ≡ None) ⊎ (get contents.tree (k ++ n ∷ x) ≢ None) → get contents.tree (k ++ n ∷ x) ≡ None
      go (inl none) = none
      go (inr there) = let p : Some (File is.0) ≡ Some Directory = sym is.1 ∙ stands_in x k n there in cc

-- what a removal leaves
module _ (old new : Contents) (k : Key) (removed : IsRemovedAt k old new) where
  pub removed_here : get new.tree k ≡ None
  removed_here = ap (λ t. get t k) removed.tree ∙ look_removed old.tree k

  pub removal_outside : (q : Key) → ((x : Key) → q ≢ k ++ x) → standing new q ≡ standing old q
  removal_outside q apart = removal_others k old new removed q (λ p. apart [] (p ∙ sym (append-nothing k)))

-- what stands at a key, and its properties
abbrev pub Standing : Type 0
Standing = Option Node × Option (FinMap key_cmp elements.Tree)

pub node_of : {a b : Standing} → a ≡ b → a.0 ≡ b.0
node_of e = λ i. (e i).0

only_call : (c d : KeyCall) → IsIn d (c ∷ []) → c ≡ d
only_call c d (inl p) = p
only_call c d (inr i) = absurd i

pub not_clean : {A : Type 0} → false ≡ true → A
not_clean p = cc

pub not_refused : {A : Type 0} → true ≡ false → A
not_refused p = cc

pub has_error : (outcome : Outcome) (error : FsError) → error_of outcome ≡ Some error → WasRefused outcome
has_error outcome error is granted = let p : None ≡ Some error = ap error_of (sym granted) ∙ is in cc

-- a call that isn't granted leaves what stands there
pub stays : (o : Outcome) (e : FsError) (it : Option Node) → error_of o ≡ Some e → Leaves o it it
stays Granted e it p = absurd (let q : None ≡ Some e = p in cc)
stays (Barred b) e it p = refl
stays (Refused b) e it p = refl

-- what a lawful outcome says
pub bar_of : (bar : Option FsError) (o : Outcome) (e : FsError) → IsLawful bar o → o ≡ Barred e → bar ≡ Some e
bar_of bar o e lawful p = subst (IsLawful bar) p lawful

pub own_of : (bar : Option FsError) (o : Outcome) (e : FsError) → IsLawful bar o → o ≡ Refused e → IsOwn e
own_of bar o e lawful p = subst (IsLawful bar) p lawful

-- a walk that is one refused call, and changes nothing
pub one_refusal : (path : PathValue) (old : Contents) (before after : List Logged) (had has : Names) (k : Key) (op : Op) (outcome : Outcome) (error : FsError)
    → IsWellFormed old → after ≡ before ++ logged_call (call_on k op outcome) ∷ [] → error_of outcome ≡ Some error
    → ((e : FsError) → outcome ≡ Barred e → IsRootRemoval (call_on k op outcome) e) → ((e : FsError) → outcome ≡ Refused e → IsOwn e)
    → has ≡ had ++ (named_path path op k, fs_status error) ∷ [] → (op ≡ Entry → ⊥)
    → Walked (subtree old.tree k) (subtree old.tree k) (calls_below (call_on k op outcome ∷ []) k) → Walks path old old before after had has k false
one_refusal path old before after had has k op outcome error formed log is root own named other walked = record {
  calls = call_on k op outcome ∷ [];
  log = log;
  within = λ r i. ([], ap (λ (s : KeyCall). s.key) (sym (only_call _ _ i)) ∙ sym (append-nothing k));
  barred = λ r e i b. let p = only_call _ _ i in subst (λ (c : KeyCall). IsRootRemoval c e) p (root e (ap (λ (s : KeyCall). s.outcome) p ∙ b));
  own = λ r e i b. own e (ap (λ (s : KeyCall). s.outcome) (only_call _ _ i) ∙ b);
  no_entry = no_entry_one op outcome _ (alone k op outcome) other;
  names = (named_path path op k, fs_status error) ∷ [];
  named = named;
  bag = subst (λ ns. IsPermutation ns ((named_path path op k, fs_status error) ∷ [])) (sym (ap (λ o. cons_option (option_map (λ (e : FsError). (named_path path op k, fs_status e)) o) []) is)) (IsPermutation-refl _);
  outside = λ q apart. refl;
  walked = walked;
  is_kept = kept_itself old formed;
  well_formed = formed;
  granted = λ p. not_clean p;
  refused = λ p. (call_on k op outcome, inl refl, has_error outcome error is);
  untouched = λ none. refl;
}

-- a file that the store wouldn't remove
refused_file : (old : Contents) → IsWellFormed old → (k : Key) → HasKind false (get old.tree k) → (outcome : Outcome) (error : FsError) → error_of outcome ≡ Some error
    → Walked (subtree old.tree k) (subtree old.tree k) (calls_below (call_on k RemoveFile outcome ∷ []) k)
refused_file old formed k is outcome error refused = file outcome (subst (λ (j : Key). HasKind false (get old.tree j)) (sym (append-nothing k)) is) (alone k RemoveFile outcome) (stays outcome error _ refused)
    (none_below_file old formed k is) (λ n x. record { uncalled = alone_below k RemoveFile outcome n x; same = refl })

no_file_bar : (node : Option Node) (e : FsError) → HasKind false node → must_be_file node ≡ Some e → ⊥
no_file_bar it e is bar = let p : None ≡ Some e = sym (ap must_be_file is.1) ∙ bar in cc

no_listing_bar : (node : Option Node) (e : FsError) → node ≡ Some Directory → read_dir_bar node ≡ Some e → ⊥
no_listing_bar it e is bar = let p : None ≡ Some e = sym (ap read_dir_bar is) ∙ bar in cc

module _ (path : PathValue) (old new : Store) (k : Key) (formed : IsWellFormed old.contents) where
  pub file_removed : (had : Names) → IsWellFormed new.contents → HasKind false (get old.contents.tree k) → Grants (remove_file_call old.contents k) (IsRemovedAt k) old new
      → Walks path old.contents new.contents old.log new.log had had k true
  file_removed had sound is g = record {
    calls = call_on k RemoveFile Granted ∷ [];
    log = g.recorded;
    within = λ r i. ([], ap (λ (s : KeyCall). s.key) (sym (only_call _ _ i)) ∙ sym (append-nothing k));
    barred = λ r e i b. let p : Granted ≡ Barred e = ap (λ (s : KeyCall). s.outcome) (only_call _ _ i) ∙ b in absurd (cc);
    own = λ r e i b. let p : Granted ≡ Refused e = ap (λ (s : KeyCall). s.outcome) (only_call _ _ i) ∙ b in absurd (cc);
    no_entry = no_entry_one RemoveFile Granted _ (alone k RemoveFile Granted) file_is_no_entry;
    names = [];
    named = sym (append-nil had);
    bag = IsPermutation-refl [];
    outside = removal_outside old.contents new.contents k g.effect;
    walked = file Granted (subst (λ (j : Key). HasKind false (get old.contents.tree j)) (sym (append-nothing k)) is) (alone k RemoveFile Granted)
        (ap (get new.contents.tree) (append-nothing k) ∙ removed_here old.contents new.contents k g.effect) (none_below_file old.contents formed k is)
        (λ n x. record { uncalled = alone_below k RemoveFile Granted n x; same = node_of (removal_others k old.contents new.contents g.effect (k ++ n ∷ x) (λ p. beside k n x (sym p))) });
    is_kept = removal_keeps k old.contents new.contents formed g.effect;
    well_formed = sound;
    granted = λ p r i. ap (λ (s : KeyCall). s.outcome) (sym (only_call _ _ i));
    refused = λ p. not_refused p;
    untouched = λ none. absurd (none (call_on k RemoveFile Granted) (inl refl) (inl refl) refl);
  }

  pub file_kept : (had has : Names) (error : FsError) → HasKind false (get old.contents.tree k) → Declines (remove_file_call old.contents k) error old new
      → has ≡ had ++ (path_at path false k, fs_status error) ∷ [] → Walks path old.contents new.contents old.log new.log had has k false
  file_kept had has error is d named = subst (λ t. Walks path old.contents t old.log new.log had has k false) (sym d.same)
      (one_refusal path old.contents old.log new.log had has k RemoveFile d.outcome error formed d.recorded d.cause (λ e b. absurd (no_file_bar _ e is (bar_of _ _ e d.lawful b))) (λ e b. own_of _ _ e d.lawful b) named file_is_no_entry
      (refused_file old.contents formed k is d.outcome error d.cause))

  -- a directory whose listing was refused
  pub listing_refused : (had has : Names) (error : FsError) → get old.contents.tree k ≡ Some Directory → Declines (read_dir_call old.contents k) error old new
      → has ≡ had ++ (path_at path true k, fs_status error) ∷ [] → Walks path old.contents new.contents old.log new.log had has k false
  listing_refused had has error is d named = subst (λ t. Walks path old.contents t old.log new.log had has k false) (sym d.same)
      (one_refusal path old.contents old.log new.log had has k ReadDir d.outcome error formed d.recorded d.cause (λ e b. absurd (no_listing_bar _ e is (bar_of _ _ e d.lawful b))) (λ e b. own_of _ _ e d.lawful b) named listing_is_no_entry
      (unlisted d.outcome (has_error d.outcome error d.cause) (ap (get old.contents.tree) (append-nothing k) ∙ is) (alone k ReadDir d.outcome) refl (λ n x. record { uncalled = alone_below k ReadDir d.outcome n x; same = refl })))

pub kind_there : (dir : Bool) (node : Option Node) → HasKind dir node → node ≢ None
kind_there true it is = directory_there it is
kind_there false it is = file_there it is
