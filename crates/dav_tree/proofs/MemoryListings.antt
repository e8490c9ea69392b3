-- What the engine sees of a listing that shows all members.
use Rattle.std.proofs.Common.{◌≡◌, ◌∙◌, ℕ, List, [], ◌∷◌, ◌++◌, map, filter_map, Ok, Err, Option, Result, refl, sym, ap, subst, true, inl, inr}
use Rattle.std.proofs.lemmas.List.Sorted.{IsPermutation-refl}
use Rattle.std.specs.Prelude.{IsPermutation, Vec}
use Rattle.std.specs.declared.alloc.Global.{Global}
use Rattle.std.specs.List.{AllZip}
use Rattle.dav_key.specs.Key.{Key}
use Rattle.dav_resource.specs.declared.meta.DirEntry.{DirEntry}
use Rattle.dav_resource.specs.declared.error.FsError.{FsError}
use Rattle.dav_resource.specs.declared.record.Outcome.TheVariants.{Granted}
use Rattle.dav_store.specs.Store.{Store, Contents}
use Rattle.dav_store.specs.Calls.{Grants, Answers, record_of}
use Rattle.dav_store.specs.Members.{members, IsIn, Child, names_of, IsShownAs, unseen_record, read_dir_call, Lists, ReadsDir}
use Rattle.dav_tree.specs.Memory.{Resources, Memory, tree_of, contents_of}
use Rattle.dav_tree.specs.MemoryCalls.{IsShown, IsListing}

-- ---- what the engine sees

children_of : List (List ℕ) → List (Result DirEntry FsError) → List Child
children_of [] listing = []
children_of (n ∷ names) [] = []
children_of (n ∷ names) (x ∷ listing) = (n, x) ∷ children_of names listing

children_names : (part : Option ℕ) (directory : Key) (resources : Resources) (names : List (List ℕ)) (listing : List (Result DirEntry FsError)) → AllZip (IsShown part directory resources) names listing → names_of (children_of names listing) ≡ names
unfolding children_of
children_names part directory resources [] listing h = refl
children_names part directory resources (n ∷ names) [] h = absurd h
children_names part directory resources (n ∷ names) (x ∷ listing) h = ap (λ ns. n ∷ ns) (children_names part directory resources names listing h.1)

children_listing : (part : Option ℕ) (directory : Key) (resources : Resources) (names : List (List ℕ)) (listing : List (Result DirEntry FsError)) → AllZip (IsShown part directory resources) names listing → listing ≡ map (λ (c : Child). c.1) (children_of names listing)
unfolding children_of
children_listing part directory resources [] [] h = refl
children_listing part directory resources [] (x ∷ listing) h = absurd h
children_listing part directory resources (n ∷ names) [] h = absurd h
children_listing part directory resources (n ∷ names) (x ∷ listing) h = ap (λ xs. x ∷ xs) (children_listing part directory resources names listing h.1)

shown_as : (directory : Key) (memory : Memory) (name : List ℕ) (x : Result DirEntry FsError) → IsShown memory.tag_part directory memory.resources name x → IsShownAs (λ _. true) (contents_of memory) directory (name, x)
shown_as directory memory name (Ok entry) h = (h.0, h.1, refl)
shown_as directory memory name (Err e) h = absurd h

children_shown : (directory : Key) (memory : Memory) (names : List (List ℕ)) (listing : List (Result DirEntry FsError)) → AllZip (IsShown memory.tag_part directory memory.resources) names listing → (c : Child) → IsIn c (children_of names listing) → IsShownAs (λ _. true) (contents_of memory) directory c
unfolding children_of
children_shown directory memory [] listing h c inside = absurd inside
children_shown directory memory (n ∷ names) [] h c inside = absurd inside
children_shown directory memory (n ∷ names) (x ∷ listing) h c (inl same) = subst (IsShownAs (λ _. true) (contents_of memory) directory) same (shown_as directory memory n x h.0)
children_shown directory memory (n ∷ names) (x ∷ listing) h c (inr inside) = children_shown directory memory names listing h.1 c inside

none_unseen : (part : Option ℕ) (directory : Key) (resources : Resources) (names : List (List ℕ)) (listing : List (Result DirEntry FsError)) → AllZip (IsShown part directory resources) names listing → filter_map (unseen_record directory) (children_of names listing) ≡ []
unfolding children_of
none_unseen part directory resources [] listing h = refl
none_unseen part directory resources (n ∷ names) [] h = absurd h
none_unseen part directory resources (n ∷ names) (Ok entry ∷ listing) h = none_unseen part directory resources names listing h.1
none_unseen part directory resources (n ∷ names) (Err e ∷ listing) h = absurd h.0

-- nothing changes, and the members are shown
abbrev pub ShowsAll : Key → Memory → Vec (Result DirEntry FsError) Global → Contents → Contents → Type 0
ShowsAll directory memory listing old new = (new ≡ old) × IsListing memory.tag_part directory memory.resources listing.items

lists : (directory : Key) (memory : Memory) (listing : Vec (Result DirEntry FsError) Global) (old new : Store) → old.contents ≡ contents_of memory → old.facts.shows ≡ (λ _. true)
    → Grants (read_dir_call old.contents directory) (ShowsAll directory memory listing) old new → Lists directory old listing.items new
lists directory memory listing old new is all g = record {
  allowed = g.allowed;
  children = children;
  are = record {
    each_once = subst (IsPermutation (members old.contents.tree directory)) (ap (λ (k : Contents). members k.tree directory) is ∙ sym (children_names memory.tag_part directory memory.resources names listing.items g.effect.1)) (IsPermutation-refl (members old.contents.tree directory));
    shown = subst (λ shows. (c : Child) → IsIn c children → IsShownAs shows old.contents directory c) (sym all)
        (subst (λ (k : Contents). (c : Child) → IsIn c children → IsShownAs (λ _. true) k directory c) (sym is) (children_shown directory memory names listing.items g.effect.1));
  };
  listed = children_listing memory.tag_part directory memory.resources names listing.items g.effect.1;
  same = g.effect.0;
  recorded = g.recorded ∙ ap (λ ls. old.log ++ record_of (read_dir_call old.contents directory) Granted ∷ ls) (sym (none_unseen memory.tag_part directory memory.resources names listing.items g.effect.1));
  fixed = g.fixed;
}
  where
    names : List (List ℕ)
    names = members (tree_of memory.resources) directory

    children : List Child
    children = children_of names listing.items

-- a call that shows all members reads the directory
pub reads : (directory : Key) (memory : Memory) (old new : Store) (answer : Result (Vec (Result DirEntry FsError) Global) FsError) → old.contents ≡ contents_of memory → old.facts.shows ≡ (λ _. true)
    → Answers (read_dir_call old.contents directory) (ShowsAll directory memory) old answer new → ReadsDir old directory answer new
reads directory memory old new (Ok listing) is all a = record { granted = lists directory memory listing old new is all a.granted; declined = tt }
reads directory memory old new (Err e) is all a = record { granted = tt; declined = a.declined }
