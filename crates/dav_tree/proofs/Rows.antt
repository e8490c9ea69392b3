-- What the rows say of what is kept.
use Rattle.std.proofs.lemmas.Bool.Decides.{nat_tests}
use Rattle.std.proofs.Common.{◌≢◌, not, ◌==◌, arith, ◌≡◌, ◌∙◌, ℕ, Bool, true, false, Option, Some, None, Result, Ok, Err, refl, sym, ap, inl, inr, List, [], ◌∷◌, ◌+◌, length, ◌||◌, if◌then◌else◌}
use Rattle.std.specs.Option.{option_map, option_copied, is_some}
use Rattle.std.specs.Result.{IsErrAnd}
use Rattle.std.proofs.lemmas.Result.{err_from_is_err_and}
use Rattle.std.specs.FinMap.{get, insert}
use Rattle.std.proofs.Common.{Bor}
use Rattle.dav_key.specs.Key.{Key, parent}
use Rattle.dav_resource.specs.declared.meta.OpenOptions.{OpenOptions}
use Rattle.dav_resource.specs.declared.meta.DavFile.{DavFile}
use Rattle.std.specs.Prelude.{IfErr, OnOk}
use Rattle.dav_resource.specs.declared.error.FsError.{FsError}
use Rattle.dav_resource.specs.declared.error.FsError.TheVariants as errors
use Rattle.dav_store.specs.Store.{Node, File, Directory}
use Rattle.dav_tree.specs.Memory.{Stored, Resources, Memory, tree_of, made_when, copy_of, copied, made, filled, marked, marked_by_copy, is_directory, size_of, fresh, with_bytes, change_at, contents_of}
use Rattle.dav_tree.specs.MemoryCalls.{Yields, Gives, change_error, member_error, error_of_copy, create_dir_error, open_error, error_of_opening, opened, opened_from}
use Rattle.dav_tree.specs.Lawful.{node_in, get-tree}
use Rattle.dav_store.specs.Calls.{create_dir_bar, open_bar, file_bar, bytes_at, place_of}
use Rattle.dav_key.specs.Below.{is_below, put_at}
use Rattle.dav_store.specs.Members.{members, remove_dir_bar}
use Rattle.dav_store.specs.Transfers.{copy_bar, rename_bar}

-- ---- answers

-- what is held becomes such, or there is an error
pub yields-error : {A : Type 0} (error : Option FsError) (Becomes : Memory → Memory → Type 0) (old : Memory) (e : FsError) → error ≡ Some e → Yields {A = A} error Becomes old (Err e) old
yields-error error Becomes old e is = record { granted = tt; declined = (refl, inr is) }

pub yields-memory : {A : Type 0} (error : Option FsError) (Becomes : Memory → Memory → Type 0) (old new : Memory) (e : FsError) → e ≡ errors.Memory → new ≡ old → Yields {A = A} error Becomes old (Err e) new
yields-memory error Becomes old new e is same = record { granted = tt; declined = (same, inl is) }

pub yields-ok : {A : Type 0} (error : Option FsError) (Becomes : Memory → Memory → Type 0) (old new : Memory) (a : A) → error ≡ None → Becomes old new → Yields error Becomes old (Ok a) new
yields-ok error Becomes old new a is becomes = record { granted = (is, becomes); declined = tt }

-- by the exit of a `?`
pub yields-exit : {A : Type 0} (error : Option FsError) (Becomes : Memory → Memory → Type 0) (old : Memory) (e : FsError) (answer : Result A FsError) → IsErrAnd answer (λ d. d ≡ e) → error ≡ Some e → Yields error Becomes old answer old
yields-exit error Becomes old e answer is h = let p = err_from_is_err_and answer is in rw (p.1, p.2) (yields-error error Becomes old e h)

pub yields-memory-exit : {A : Type 0} (error : Option FsError) (Becomes : Memory → Memory → Type 0) (old new : Memory) (e : FsError) (answer : Result A FsError) → IsErrAnd answer (λ d. d ≡ e) → e ≡ errors.Memory → new ≡ old → Yields error Becomes old answer new
yields-memory-exit error Becomes old new e answer is h same = let p = err_from_is_err_and answer is in rw (p.1, p.2) (yields-memory error Becomes old new e h same)

pub gives-error : {A : Type 0} (error : Option FsError) (change : Memory → Memory) (old : Memory) (e : FsError) → error ≡ Some e → Gives {A = A} error change old (Err e) old
gives-error error change = yields-error error (λ old new. new ≡ change old)

pub gives-memory : {A : Type 0} (error : Option FsError) (change : Memory → Memory) (old new : Memory) (e : FsError) → e ≡ errors.Memory → new ≡ old → Gives {A = A} error change old (Err e) new
gives-memory error change = yields-memory error (λ old new. new ≡ change old)

pub gives-ok : {A : Type 0} (error : Option FsError) (change : Memory → Memory) (old new : Memory) (a : A) → error ≡ None → new ≡ change old → Gives error change old (Ok a) new
gives-ok error change = yields-ok error (λ old new. new ≡ change old)

pub gives-exit : {A : Type 0} (error : Option FsError) (change : Memory → Memory) (old : Memory) (e : FsError) (answer : Result A FsError) → IsErrAnd answer (λ d. d ≡ e) → error ≡ Some e → Gives error change old answer old
gives-exit error change = yields-exit error (λ old new. new ≡ change old)

pub gives-memory-exit : {A : Type 0} (error : Option FsError) (change : Memory → Memory) (old new : Memory) (e : FsError) (answer : Result A FsError) → IsErrAnd answer (λ d. d ≡ e) → e ≡ errors.Memory → new ≡ old → Gives error change old answer new
gives-memory-exit error change = yields-memory-exit error (λ old new. new ≡ change old)

-- what is kept is made, or memory was lacking
pub gives-kept : {A : Type 0} (error : Option FsError) (change : Memory → Memory) (old new after : Memory) (answer : Result A FsError) → error ≡ None → after ≡ change old
    → OnOk answer (new ≡ after) → IfErr answer (λ e. (e ≡ errors.Memory) × (new ≡ old)) → Gives error change old answer new
gives-kept error change old new after (Ok a) none is made memory = gives-ok error change old new a none (made ∙ is)
gives-kept error change old new after (Err e) none is made memory = gives-memory error change old new e memory.0 memory.1

-- ---- create_dir

some_copied : (found : Option (Bor Stored)) → is_some (option_copied found) ≡ is_some found
some_copied None = refl
some_copied (Some x) = refl

bar_taken : (o : Option Stored) (above : Option Node) → is_some o ≡ true → create_dir_bar (option_map node_in o) above ≡ Some errors.Exists
bar_taken None above e = absurd cc
bar_taken (Some s) above e = refl

pub dir_taken : (old : Memory) (key : Key) (found : Option (Bor Stored)) → option_copied found ≡ get old.resources key → is_some found ≡ true → create_dir_error key old ≡ Some errors.Exists
dir_taken old key found is some = ap (λ b. member_error b old) (ap (λ n. create_dir_bar n (get (tree_of old.resources) (parent key))) (get-tree old.resources key)
    ∙ bar_taken (get old.resources key) (get (tree_of old.resources) (parent key)) (ap is_some (sym is) ∙ some_copied found ∙ some))

none_from : (o : Option Stored) → is_some o ≡ false → o ≡ None
none_from None e = refl
none_from (Some s) e = absurd cc

pub none_found : (resources : Resources) (key : Key) (found : Option (Bor Stored)) → option_copied found ≡ get resources key → is_some found ≡ false → get resources key ≡ None
none_found resources key found is none = none_from (get resources key) (ap is_some (sym is) ∙ some_copied found ∙ none)

pub dir_free : (old : Memory) (key : Key) → get old.resources key ≡ None → get (tree_of old.resources) (parent key) ≡ Some Directory → create_dir_error key old ≡ member_error None old
dir_free old key none above = λ i. member_error (create_dir_bar ((get-tree old.resources key ∙ ap (option_map node_in) none) i) (above i)) old

-- ---- open

pub open_error-at : (options : OpenOptions) (key : Key) (old : Memory) (o : Option Stored) → get old.resources key ≡ o
    → open_error options key old ≡ error_of_opening options o (open_bar options (option_map node_in o) (get (tree_of old.resources) (parent key))) old
open_error-at options key old o e = λ i. error_of_opening options (e i) (open_bar options ((get-tree old.resources key ∙ ap (option_map node_in) e) i) (get (tree_of old.resources) (parent key))) old

pub opened-at : (options : OpenOptions) (key : Key) (old : Memory) (o : Option Stored) → get old.resources key ≡ o → opened options key old ≡ opened_from options key o old
opened-at options key old o e = ap (λ x. opened_from options key x old) e

barred : (t : Bool) (e : FsError) (old : Memory) → (if t then change_error (Some e) old else Some e) ≡ Some e
barred true e old = refl
barred false e old = refl

old_exists : (options : OpenOptions) (node : Node) (s : Stored) (above : Option Node) (old : Memory) → options.create_new ≡ true → error_of_opening options (Some s) (open_bar options (Some node) above) old ≡ Some errors.Exists
old_exists options (File bytes) s above old e = rw e (barred options.truncate errors.Exists old)
old_exists options Directory s above old e = rw e (barred options.truncate errors.Exists old)

old_directory : (options : OpenOptions) (node : Node) (s : Stored) (above : Option Node) (old : Memory) → options.create_new ≡ false → is_directory node ≡ true → error_of_opening options (Some s) (open_bar options (Some node) above) old ≡ Some errors.Forbidden
old_directory options (File bytes) s above old e d = absurd cc
old_directory options Directory s above old e d = rw e (barred options.truncate errors.Forbidden old)

old_file : (options : OpenOptions) (node : Node) (s : Stored) (above : Option Node) (old : Memory) → options.create_new ≡ false → is_directory node ≡ false → error_of_opening options (Some s) (open_bar options (Some node) above) old ≡ (if options.truncate then change_error None old else None)
old_file options (File bytes) s above old e d = rw e refl
old_file options Directory s above old e d = absurd cc

pub open_exists : (options : OpenOptions) (key : Key) (old : Memory) (s : Stored) → get old.resources key ≡ Some s → options.create_new ≡ true → open_error options key old ≡ Some errors.Exists
open_exists options key old s here e = open_error-at options key old (Some s) here ∙ old_exists options s.node s _ old e

pub open_directory : (options : OpenOptions) (key : Key) (old : Memory) (s : Stored) → get old.resources key ≡ Some s → options.create_new ≡ false → is_directory s.node ≡ true → open_error options key old ≡ Some errors.Forbidden
open_directory options key old s here e d = open_error-at options key old (Some s) here ∙ old_directory options s.node s _ old e d

pub open_there : (options : OpenOptions) (key : Key) (old : Memory) (s : Stored) → get old.resources key ≡ Some s → options.create_new ≡ false → is_directory s.node ≡ false
    → open_error options key old ≡ (if options.truncate then change_error None old else None)
open_there options key old s here e d = open_error-at options key old (Some s) here ∙ old_file options s.node s _ old e d

pub open_missing : (options : OpenOptions) (key : Key) (old : Memory) → get old.resources key ≡ None → get (tree_of old.resources) (parent key) ≡ Some Directory
    → open_error options key old ≡ member_error (if options.create || options.create_new then None else Some errors.NotFound) old
open_missing options key old none above = open_error-at options key old None none ∙ ap (λ n. member_error (open_bar options None n) old) above

no_open : (options : OpenOptions) (above : Option Node) → above ≢ Some Directory → open_bar options None above ≡ Some errors.NotFound
no_open options None h = refl
no_open options (Some (File bytes)) h = refl
no_open options (Some Directory) h = absurd (h refl)

pub open_nowhere : (options : OpenOptions) (key : Key) (old : Memory) → get old.resources key ≡ None → get (tree_of old.resources) (parent key) ≢ Some Directory → open_error options key old ≡ Some errors.NotFound
open_nowhere options key old none above = open_error-at options key old None none ∙ ap (λ b. member_error b old) (no_open options _ above)

-- ---- open files

file_kind : (node : Node) → is_directory node ≡ false → file_bar (Some node) ≡ None
file_kind (File bytes) d = refl
file_kind Directory d = absurd cc

directory_kind : (node : Node) → is_directory node ≡ true → file_bar (Some node) ≡ Some errors.NotFound
directory_kind (File bytes) d = absurd cc
directory_kind Directory d = refl

pub file_there : (resources : Resources) (key : Key) (s : Stored) → get resources key ≡ Some s → is_directory s.node ≡ false → file_bar (get (tree_of resources) key) ≡ None
file_there resources key s here d = ap file_bar (get-tree resources key ∙ ap (option_map node_in) here) ∙ file_kind s.node d

pub directory_there : (resources : Resources) (key : Key) (s : Stored) → get resources key ≡ Some s → is_directory s.node ≡ true → file_bar (get (tree_of resources) key) ≡ Some errors.NotFound
directory_there resources key s here d = ap file_bar (get-tree resources key ∙ ap (option_map node_in) here) ∙ directory_kind s.node d

pub file_missing : (resources : Resources) (key : Key) → get resources key ≡ None → file_bar (get (tree_of resources) key) ≡ Some errors.NotFound
file_missing resources key none = ap file_bar (get-tree resources key ∙ ap (option_map node_in) none)

-- ---- what is held afterwards

with_version : (old : Memory) (next version : ℕ) (change : ℕ → Resources) → version ≡ next → (record old { resources = change version; version = version }) ≡ record old { resources = change next; version = next }
with_version old next version change is = λ i. record old { resources = change (is i); version = is i }

-- a resource is made
pub gives-made : {A : Type 0} (error : Option FsError) (key : Key) (node : Node) (old new : Memory) (s : Stored) (version : ℕ) (answer : Result A FsError) → error ≡ None
    → s ≡ fresh node version old.moment → version ≡ old.version + 1
    → OnOk answer (new ≡ record old { resources = insert old.resources key s; version = version }) → IfErr answer (λ e. (e ≡ errors.Memory) × (new ≡ old))
    → Gives error (made key node) old answer new
gives-made error key node old new s version answer none is next kept memory =
    gives-kept error (made key node) old new _ answer none (ap (λ x. record old { resources = insert old.resources key x; version = version }) is ∙ with_version old (old.version + 1) version (λ v. insert old.resources key (fresh node v old.moment)) next) kept memory

-- a file gets other bytes
pub filled-is : (old : Memory) (key : Key) (bytes : List ℕ) (resources : Resources) (version : ℕ) → resources ≡ change_at key (with_bytes bytes version old.moment) old.resources → version ≡ old.version + 1
    → (record old { resources = resources; version = version }) ≡ filled key bytes old
filled-is old key bytes resources version is next = ap (λ r. record old { resources = r; version = version }) is ∙ with_version old (old.version + 1) version (λ v. change_at key (with_bytes bytes v old.moment) old.resources) next

bytes_size : (node : Node) → is_directory node ≡ false → size_of node ≡ length (bytes_at (Some node))
bytes_size (File bytes) d = refl
bytes_size Directory d = absurd cc

-- where a file's next write goes
pub place-is : (old : Memory) (file : DavFile) (s : Stored) → get old.resources file.path.key ≡ Some s → is_directory s.node ≡ false
    → (if file.append then size_of s.node else file.pos) ≡ place_of file (contents_of old)
place-is old file s here d =
    ap (λ n. if file.append then n else file.pos) (bytes_size s.node d ∙ ap (λ o. length (bytes_at o)) (sym (get-tree old.resources file.path.key ∙ ap (option_map node_in) here)))

pub bytes-are : (resources : Resources) (key : Key) (s : Stored) → get resources key ≡ Some s → bytes_at (Some s.node) ≡ bytes_at (get (tree_of resources) key)
bytes-are resources key s here = ap bytes_at (sym (get-tree resources key ∙ ap (option_map node_in) here))

pub gives-same : {A : Type 0} (error : Option FsError) (change other : Memory → Memory) (old new : Memory) (answer : Result A FsError) → change old ≡ other old → Gives error change old answer new → Gives error other old answer new
gives-same error change other old new (Ok a) same g = gives-ok error other old new a g.granted.0 (g.granted.1 ∙ same)
gives-same error change other old new (Err e) same g = record { granted = tt; declined = g.declined }

-- ---- what is kept at a key, and what stands there

pub node_at : (resources : Resources) (key : Key) (o : Option Stored) → get resources key ≡ o → get (tree_of resources) key ≡ option_map node_in o
node_at resources key o e = get-tree resources key ∙ ap (option_map node_in) e

directory_is : (node : Node) → is_directory node ≡ true → node ≡ Directory
directory_is (File bytes) d = absurd cc
directory_is Directory d = refl

file_is : (node : Node) → is_directory node ≡ false → node ≡ File (bytes_at (Some node))
file_is (File bytes) d = refl
file_is Directory d = absurd cc

pub directory_at : (resources : Resources) (key : Key) (s : Stored) → get resources key ≡ Some s → is_directory s.node ≡ true → get (tree_of resources) key ≡ Some Directory
directory_at resources key s here d = node_at resources key (Some s) here ∙ ap Some (directory_is s.node d)

pub file_at : (resources : Resources) (key : Key) (s : Stored) → get resources key ≡ Some s → is_directory s.node ≡ false → get (tree_of resources) key ≡ Some (File (bytes_at (Some s.node)))
file_at resources key s here d = node_at resources key (Some s) here ∙ ap Some (file_is s.node d)

-- ---- remove_dir

pub remove_dir_missing : (resources : Resources) (key : Key) → get resources key ≡ None → remove_dir_bar key (get (tree_of resources) key) (members (tree_of resources) key) ≡ Some errors.NotFound
remove_dir_missing resources key none = ap (λ n. remove_dir_bar key n (members (tree_of resources) key)) (node_at resources key None none)

pub remove_dir_file : (resources : Resources) (key : Key) (s : Stored) → get resources key ≡ Some s → is_directory s.node ≡ false → remove_dir_bar key (get (tree_of resources) key) (members (tree_of resources) key) ≡ Some errors.Forbidden
remove_dir_file resources key s here d = ap (λ n. remove_dir_bar key n (members (tree_of resources) key)) (file_at resources key s here d)

root_bar : (key : Key) (names : List (List ℕ)) → key ≡ [] → remove_dir_bar key (Some Directory) names ≡ Some errors.Forbidden
root_bar [] names e = refl
root_bar (segment ∷ key) names e = absurd cc

pub remove_dir_root : (resources : Resources) (key : Key) (s : Stored) → get resources key ≡ Some s → is_directory s.node ≡ true → key ≡ [] → remove_dir_bar key (get (tree_of resources) key) (members (tree_of resources) key) ≡ Some errors.Forbidden
remove_dir_root resources key s here d root = ap (λ n. remove_dir_bar key n (members (tree_of resources) key)) (directory_at resources key s here d) ∙ root_bar key _ root

full_bar : (key : Key) (names : List (List ℕ)) → key ≢ [] → not (length names == 0) ≡ true → remove_dir_bar key (Some Directory) names ≡ Some errors.Exists
full_bar [] names some full = absurd (some refl)
full_bar (segment ∷ key) [] some full = absurd cc
full_bar (segment ∷ key) (name ∷ names) some full = refl

pub remove_dir_full : (resources : Resources) (key : Key) (s : Stored) → get resources key ≡ Some s → is_directory s.node ≡ true → key ≢ [] → not (length (members (tree_of resources) key) == 0) ≡ true → remove_dir_bar key (get (tree_of resources) key) (members (tree_of resources) key) ≡ Some errors.Exists
remove_dir_full resources key s here d some full = ap (λ n. remove_dir_bar key n (members (tree_of resources) key)) (directory_at resources key s here d) ∙ full_bar key _ some full

pub no_names : (names : List (List ℕ)) → not (length names == 0) ≡ false → names ≡ []
no_names [] e = refl
no_names (name ∷ names) e = absurd (grind (arith, nat_tests, e))

free_bar : (key : Key) (names : List (List ℕ)) → key ≢ [] → names ≡ [] → remove_dir_bar key (Some Directory) names ≡ None
free_bar [] names some none = absurd (some refl)
free_bar (segment ∷ key) [] some none = refl
free_bar (segment ∷ key) (name ∷ names) some none = absurd cc

pub remove_dir_free : (resources : Resources) (key : Key) (s : Stored) → get resources key ≡ Some s → is_directory s.node ≡ true → key ≢ [] → members (tree_of resources) key ≡ [] → remove_dir_bar key (get (tree_of resources) key) (members (tree_of resources) key) ≡ None
remove_dir_free resources key s here d some none = ap (λ n. remove_dir_bar key n (members (tree_of resources) key)) (directory_at resources key s here d) ∙ free_bar key _ some none

-- ---- copy

pub copy_missing : (resources : Resources) (from to : Key) → get resources from ≡ None → copy_bar (get (tree_of resources) from) (get (tree_of resources) to) (get (tree_of resources) (parent to)) ≡ Some errors.NotFound
copy_missing resources from to none = ap (λ n. copy_bar n (get (tree_of resources) to) (get (tree_of resources) (parent to))) (node_at resources from None none)

no_parent : (node : Node) (there above : Option Node) → above ≢ Some Directory → copy_bar (Some node) there above ≡ Some errors.NotFound
no_parent node there None h = refl
no_parent node there (Some (File bytes)) h = refl
no_parent node there (Some Directory) h = absurd (h refl)

pub copy_no_parent : (resources : Resources) (from to : Key) (s : Stored) → get resources from ≡ Some s → get (tree_of resources) (parent to) ≢ Some Directory → copy_bar (get (tree_of resources) from) (get (tree_of resources) to) (get (tree_of resources) (parent to)) ≡ Some errors.NotFound
copy_no_parent resources from to s here above = ap (λ n. copy_bar n (get (tree_of resources) to) (get (tree_of resources) (parent to))) (node_at resources from (Some s) here) ∙ no_parent s.node _ _ above

pub copy_of_directory : (resources : Resources) (from to : Key) (s : Stored) → get resources from ≡ Some s → is_directory s.node ≡ true → get (tree_of resources) (parent to) ≡ Some Directory → copy_bar (get (tree_of resources) from) (get (tree_of resources) to) (get (tree_of resources) (parent to)) ≡ Some errors.Forbidden
copy_of_directory resources from to s here d above = (λ i. copy_bar (directory_at resources from s here d i) (get (tree_of resources) to) (above i))

pub copy_onto_directory : (resources : Resources) (from to : Key) (s : Stored) → get resources from ≡ Some s → is_directory s.node ≡ false → get (tree_of resources) to ≡ Some Directory → get (tree_of resources) (parent to) ≡ Some Directory → copy_bar (get (tree_of resources) from) (get (tree_of resources) to) (get (tree_of resources) (parent to)) ≡ Some errors.Forbidden
copy_onto_directory resources from to s here d there above = (λ i. copy_bar (file_at resources from s here d i) (there i) (above i))

file_onto : (bytes : List ℕ) (there : Option Node) → there ≢ Some Directory → copy_bar (Some (File bytes)) there (Some Directory) ≡ None
file_onto bytes None h = refl
file_onto bytes (Some (File old)) h = refl
file_onto bytes (Some Directory) h = absurd (h refl)

pub copy_free : (resources : Resources) (from to : Key) (s : Stored) → get resources from ≡ Some s → is_directory s.node ≡ false → get (tree_of resources) to ≢ Some Directory → get (tree_of resources) (parent to) ≡ Some Directory → copy_bar (get (tree_of resources) from) (get (tree_of resources) to) (get (tree_of resources) (parent to)) ≡ None
copy_free resources from to s here d there above = (λ i. copy_bar (file_at resources from s here d i) (get (tree_of resources) to) (above i)) ∙ file_onto (bytes_at (Some s.node)) _ there

-- an error that bars a copy is due whatever is at the other key
pub copy-due : (there : Option Stored) (e : FsError) (old : Memory) → error_of_copy there (Some e) old ≡ Some e
copy-due None e old = refl
copy-due (Some s) e old = refl

-- a copy over what is there, and to where nothing was
pub copy-over : (there : Option Stored) (to : Key) (old : Memory) → is_some there ≡ true → marked_by_copy there to old ≡ old
copy-over None to old some = absurd cc
copy-over (Some s) to old some = refl

pub copy-new : (there : Option Stored) (to : Key) (old : Memory) → is_some there ≡ false → marked_by_copy there to old ≡ marked (parent to) old
copy-new None to old none = refl
copy-new (Some s) to old none = absurd cc

-- ---- rename

pub rename_missing : (resources : Resources) (from to : Key) → get resources from ≡ None → rename_bar from to (get (tree_of resources) from) (get (tree_of resources) to) (get (tree_of resources) (parent to)) ≡ Some errors.NotFound
rename_missing resources from to none = ap (λ n. rename_bar from to n (get (tree_of resources) to) (get (tree_of resources) (parent to))) (node_at resources from None none)

rename_there : (from to : Key) (node : Node) (there above : Option Node) → from ≢ [] → rename_bar from to (Some node) there above ≡ (if is_below to from then Some errors.Forbidden else create_dir_bar there above)
rename_there [] to node there above h = absurd (h refl)
rename_there (segment ∷ from) to node there above h = refl

pub rename_root : (resources : Resources) (from to : Key) (s : Stored) → get resources from ≡ Some s → from ≡ [] → rename_bar from to (get (tree_of resources) from) (get (tree_of resources) to) (get (tree_of resources) (parent to)) ≡ Some errors.Forbidden
rename_root resources [] to s here root = ap (λ n. rename_bar [] to n (get (tree_of resources) to) (get (tree_of resources) (parent to))) (node_at resources [] (Some s) here)
rename_root resources (segment ∷ from) to s here root = absurd cc

pub rename_at : (resources : Resources) (from to : Key) (s : Stored) → get resources from ≡ Some s → from ≢ []
    → rename_bar from to (get (tree_of resources) from) (get (tree_of resources) to) (get (tree_of resources) (parent to)) ≡ (if is_below to from then Some errors.Forbidden else create_dir_bar (get (tree_of resources) to) (get (tree_of resources) (parent to)))
rename_at resources from to s here some = ap (λ n. rename_bar from to n (get (tree_of resources) to) (get (tree_of resources) (parent to))) (node_at resources from (Some s) here) ∙ rename_there from to s.node _ _ some

pub place_taken : (resources : Resources) (to : Key) (s : Stored) (above : Option Node) → get resources to ≡ Some s → create_dir_bar (get (tree_of resources) to) above ≡ Some errors.Exists
place_taken resources to s above here = ap (λ n. create_dir_bar n above) (node_at resources to (Some s) here)

no_place : (above : Option Node) → above ≢ Some Directory → create_dir_bar None above ≡ Some errors.NotFound
no_place None h = refl
no_place (Some (File bytes)) h = refl
no_place (Some Directory) h = absurd (h refl)

pub place_nowhere : (resources : Resources) (to : Key) (above : Option Node) → get resources to ≡ None → above ≢ Some Directory → create_dir_bar (get (tree_of resources) to) above ≡ Some errors.NotFound
place_nowhere resources to above none h = ap (λ n. create_dir_bar n above) (node_at resources to None none) ∙ no_place above h

pub place_free : (resources : Resources) (to : Key) (above : Option Node) → get resources to ≡ None → above ≡ Some Directory → create_dir_bar (get (tree_of resources) to) above ≡ None
place_free resources to above none h = (λ i. create_dir_bar (node_at resources to None none i) (h i))

-- what is found, or isn't, where a lookup says so
pub some_found : (resources : Resources) (key : Key) (found : Option (Bor Stored)) → option_copied found ≡ get resources key → is_some found ≡ true → (s : Stored) × (get resources key ≡ Some s)
some_found resources key None is e = absurd cc
some_found resources key (Some x) is e = (x.now, sym is)

pub missing_no_directory : (resources : Resources) (key : Key) → get resources key ≡ None → get (tree_of resources) key ≢ Some Directory
missing_no_directory resources key none e = (let clash : None ≡ Some Directory = sym (node_at resources key None none) ∙ e in cc)

-- two changes that make the same of what is kept at the key
pub change_to : (resources : Resources) (key : Key) (s : Stored) (f g : Stored → Stored) → get resources key ≡ Some s → f s ≡ g s → change_at key f resources ≡ change_at key g resources
change_to resources key s f g here same = ap (λ o. put_at resources key (option_map f o)) here ∙ ap (λ x. put_at resources key (Some x)) same ∙ ap (λ o. put_at resources key (option_map g o)) (sym here)

pub some_node : (resources : Resources) (key : Key) (s : Stored) → get resources key ≡ Some s → get (tree_of resources) key ≢ None
some_node resources key s here e = (let clash : Some s.node ≡ None = sym (node_at resources key (Some s) here) ∙ e in cc)

-- a file is copied
pub gives-copied : {A : Type 0} (error : Option FsError) (from to : Key) (old new : Memory) (source s : Stored) (version created : ℕ) (answer : Result A FsError) → error ≡ None → get old.resources from ≡ Some source
    → s ≡ record source { version = version; created = created; modified = old.moment } → created ≡ made_when (get old.resources to) old.moment → version ≡ old.version + 1
    → OnOk answer (new ≡ record old { resources = insert old.resources to s; version = version }) → IfErr answer (λ e. (e ≡ errors.Memory) × (new ≡ old))
    → Gives error (copied from to) old answer new
gives-copied error from to old new source s version created answer none here is when next kept memory =
    gives-kept error (copied from to) old new _ answer none
    (ap (λ x. record old { resources = insert old.resources to x; version = version }) (is ∙ (λ i. record source { version = version; created = when i; modified = old.moment }))
    ∙ with_version old (old.version + 1) version (λ v. insert old.resources to (copy_of (get old.resources to) v old.moment source)) next
    ∙ ap (λ o. record old { resources = put_at old.resources to (option_map (copy_of (get old.resources to) (old.version + 1) old.moment) o); version = old.version + 1 }) (sym here))
    kept memory
