-- The members in a listing, as they come to wait.
use Rattle.std.proofs.Common.{◌≡◌, ◌≢◌, ◌∙◌, ◌⊎◌, ℕ, List, [], ◌∷◌, ◌++◌, None, Some, Result, Ok, map, reverse, refl, sym, ap, subst, inl, inr, append_assoc, append-nil}
use Rattle.std.specs.FinMap.{get}
use Rattle.std.proofs.lemmas.List.{reverse-append, map-append, append_cancel_left}
use Rattle.std.proofs.lemmas.List.Sorted.{IsPermutation-reverse, IsPermutation-map, IsPermutation-sym}
use Rattle.dav_key.specs.Key.{Key}
use Rattle.dav_resource.specs.PathText.{PathValue, IsKey, IsSegment}
use Rattle.dav_resource.specs.declared.meta.DirEntry.{DirEntry}
use Rattle.dav_resource.specs.declared.meta.Meta.{Meta}
use Rattle.dav_resource.specs.declared.error.FsError.{FsError}
use Rattle.dav_resource.specs.declared.error.FsError.TheVariants.{Memory}
use Rattle.dav_store.specs.Store.{Store, Contents, IsWellFormed, MetaFits}
use Rattle.dav_store.specs.Calls.{Declines}
use Rattle.dav_store.specs.Members.{Child, AreDistinct, IsShownAs, IsIn, names_of, member, members, Lists, read_dir_call}
use Rattle.dav_store.specs.MemberLaws.{IsIn-permuted, IsIn-unpermuted, AreDistinct-permuted, members_distinct}
use Rattle.dav_check.specs.Pending.{AddsMembers, AreApart, AreAllApart, Takes, key_of, path_at, pending_at}
use Rattle.dav_check.specs.declared.pending.Pending.{Pending}
use Rattle.dav_check.proofs.Lists.{in_left, in_right, in_map, out_map}

-- an item of a listing
abbrev pub Shown : Type 0
Shown = Result DirEntry FsError

-- ---- taking entries from the end of a listing

pub takes_none : (directory : PathValue) (listing : List Shown) (before : List Pending) → Takes directory listing listing before before
takes_none directory listing before = record { taken = []; split = sym (append-nil listing); added = sym (append-nil before) }

module _ (directory : PathValue) (listing left rest : List Shown) (before after : List Pending) (so_far : Takes directory listing left before after) where
  pub takes_all : left ≡ [] → Takes directory listing [] before after
  takes_all none = subst (λ l. Takes directory listing l before after) none so_far

  module _ (shown : Shown) (entry : DirEntry) (last : left ≡ rest ++ shown ∷ []) (is : shown ≡ Ok entry) where
    pub taken_in : IsIn (Ok entry) listing
    taken_in = subst (λ l. IsIn (Ok entry) l) (sym so_far.split)
        (in_left (Ok entry) left (map Ok (reverse so_far.taken))
        (subst (λ l. IsIn (Ok entry) l) (sym last)
        (in_right (Ok entry) rest (shown ∷ []) (inl is))))

    pub takes_one : (path : PathValue) (next : List Pending) → path ≡ path_at directory entry → next ≡ after ++ (record { path = path; meta = entry.meta }) ∷ [] → Takes directory listing rest before next
    takes_one path next at added = record {
      taken = so_far.taken ++ entry ∷ [];
      split = so_far.split ∙ ap (λ l. l ++ map Ok (reverse so_far.taken)) (last ∙ ap (λ s. rest ++ s ∷ []) is)
          ∙ append_assoc rest (Ok entry ∷ []) (map Ok (reverse so_far.taken))
          ∙ ap (λ es. rest ++ map Ok es) (sym (reverse-append so_far.taken (entry ∷ [])));
      added = added ∙ ap (λ (p : PathValue). after ++ (record { path = p; meta = entry.meta }) ∷ []) at
          ∙ ap (λ ps. ps ++ pending_at directory entry ∷ []) so_far.added
          ∙ append_assoc before (map (pending_at directory) so_far.taken) (pending_at directory entry ∷ [])
          ∙ ap (λ ps. before ++ ps) (sym (map-append (pending_at directory) so_far.taken (entry ∷ [])));
    }

-- ---- what a listing shows

last_segment : (key : Key) (name : List ℕ) → IsKey (member key name) → IsSegment name
last_segment [] name is = is.0
last_segment (segment ∷ key) name is = last_segment key name is.1

stands_by : (contents : Contents) → IsWellFormed contents → (key : Key) (meta : Meta) → contents.metas key ≡ Some meta → get contents.tree key ≢ None
stands_by contents formed key meta there none =
    let no : None ≡ Some meta = sym (subst (λ node. MetaFits node (contents.metas key)) none (formed.metas key)) ∙ there in
    cc

module _ (directory : Key) (old new : Store) (listing : List Shown) (lists : Lists directory old listing new) where
  -- an entry in the listing is that of a member, with its name and its metadata
  entry_shown : (entry : DirEntry) → IsIn (Ok entry) listing → old.contents.metas (member directory entry.name) ≡ Some entry.meta
  entry_shown entry i = of_child (out_map (λ (c : Child). c.1) (Ok entry) lists.children (subst (λ l. IsIn (Ok entry) l) lists.listed i))
    where
      of_child : (c : Child) × IsIn c lists.children × (Ok entry ≡ c.1) → old.contents.metas (member directory entry.name) ≡ Some entry.meta
      of_child ((name, shown), inside, is) =
          let as_shown : IsShownAs old.facts.shows old.contents directory (name, Ok entry) = subst (λ (s : Shown). IsShownAs old.facts.shows old.contents directory (name, s)) (sym is) (lists.are.shown (name, shown) inside) in
          ap (λ n. old.contents.metas (member directory n)) as_shown.0 ∙ as_shown.1

  pub entry_segment : IsWellFormed old.contents → (entry : DirEntry) → IsIn (Ok entry) listing → IsSegment entry.name
  entry_segment formed entry i =
      last_segment directory entry.name (formed.keys (member directory entry.name) (stands_by old.contents formed (member directory entry.name) entry.meta (entry_shown entry i)))

  -- each member has an entry, if the listing has entries only
  member_shown : (entries : List DirEntry) → listing ≡ map Ok entries → (name : List ℕ) → IsIn name (members old.contents.tree directory) → (entry : DirEntry) × IsIn entry entries × (entry.name ≡ name)
  member_shown entries all name i = of_child (out_map (λ (c : Child). c.0) name lists.children (IsIn-permuted (members old.contents.tree directory) (names_of lists.children) name lists.are.each_once i))
    where
      of_entry : (named : List ℕ) (shown : Shown) → IsShownAs old.facts.shows old.contents directory (named, shown) → name ≡ named → (entry : DirEntry) × IsIn entry entries × (shown ≡ Ok entry) → (entry : DirEntry) × IsIn entry entries × (entry.name ≡ name)
      of_entry named shown so same (entry, inside, is) =
          let as_shown : IsShownAs old.facts.shows old.contents directory (named, Ok entry) = subst (λ (s : Shown). IsShownAs old.facts.shows old.contents directory (named, s)) is so in
          (entry, inside, as_shown.0 ∙ sym same)

      of_child : (c : Child) × IsIn c lists.children × (name ≡ c.0) → (entry : DirEntry) × IsIn entry entries × (entry.name ≡ name)
      of_child ((named, shown), inside, same) =
          of_entry named shown (lists.are.shown (named, shown) inside) same
          (out_map Ok shown entries (subst (λ l. IsIn shown l) (sym lists.listed ∙ all) (in_map (λ (c : Child). c.1) (named, shown) lists.children inside)))

  -- the names of its entries are those of the members
  names_shown : (cs : List Child) (es : List DirEntry) → map (λ (c : Child). c.1) cs ≡ map Ok es → ((c : Child) → IsIn c cs → IsShownAs old.facts.shows old.contents directory c) → names_of cs ≡ map (λ (e : DirEntry). e.name) es
  names_shown [] [] is shown = refl
  names_shown [] (e ∷ es) is shown = let no : [] ≡ Ok e ∷ map Ok es = is in absurd cc
  names_shown (c ∷ cs) [] is shown = let no : c.1 ∷ map (λ (c : Child). c.1) cs ≡ [] = is in absurd cc
  names_shown ((name, s) ∷ cs) (e ∷ es) is shown =
      let both : s ∷ map (λ (c : Child). c.1) cs ≡ Ok e ∷ map Ok es = is in
      let head : s ≡ Ok e = cc in
      let rest : map (λ (c : Child). c.1) cs ≡ map Ok es = cc in
      let as_shown : IsShownAs old.facts.shows old.contents directory (name, Ok e) = subst (λ (t : Shown). IsShownAs old.facts.shows old.contents directory (name, t)) head (shown (name, s) (inl refl)) in
      λ i. sym as_shown.0 i ∷ names_shown cs es rest (λ c j. shown c (inr j)) i

  names_distinct : (taken : List DirEntry) → listing ≡ map Ok (reverse taken) → AreDistinct (map (λ (e : DirEntry). e.name) taken)
  names_distinct taken all =
      AreDistinct-permuted (map (λ (e : DirEntry). e.name) (reverse taken)) (map (λ (e : DirEntry). e.name) taken)
      (IsPermutation-map (λ (e : DirEntry). e.name) (reverse taken) taken (IsPermutation-sym taken (reverse taken) (IsPermutation-reverse taken)))
      (subst (λ ns. AreDistinct ns) (names_shown lists.children (reverse taken) (sym lists.listed ∙ all) lists.are.shown)
      (AreDistinct-permuted (members old.contents.tree directory) (names_of lists.children) lists.are.each_once (members_distinct old.contents.tree directory)))

-- entries of different names are apart
entries_apart : (directory : PathValue) (es : List DirEntry) → AreDistinct (map (λ (e : DirEntry). e.name) es) → AreAllApart (map (pending_at directory) es)
entries_apart directory [] once = tt
entries_apart directory (e ∷ es) once = ((λ q i. from_one q (out_map (pending_at directory) q es i)), entries_apart directory es once.1)
  where
    from_one : (q : Pending) → (f : DirEntry) × IsIn f es × (q ≡ pending_at directory f) → AreApart (pending_at directory e) q
    from_one q (f, inside, is) x y same =
        let at_f : member directory.key e.name ++ x ≡ member directory.key f.name ++ y = same ∙ ap (λ (p : Pending). key_of p ++ y) is in
        let below : directory.key ++ e.name ∷ x ≡ directory.key ++ f.name ∷ y = sym (append_assoc directory.key (e.name ∷ []) x) ∙ at_f ∙ append_assoc directory.key (f.name ∷ []) y in
        let ends : e.name ∷ x ≡ f.name ∷ y = append_cancel_left directory.key (e.name ∷ x) (f.name ∷ y) below in
        let name : e.name ≡ f.name = cc in
        once.0 (subst (λ n. IsIn n (map (λ (e : DirEntry). e.name) es)) (sym name) (in_map (λ (e : DirEntry). e.name) f es inside))

pub adds : (directory : PathValue) (old new : Store) (listing : List Shown) (before after : List Pending) → Lists directory.key old listing new → Takes directory listing [] before after → AddsMembers old.contents directory.key before after
adds directory old new listing before after lists takes = record {
  added = map (pending_at directory) takes.taken;
  behind = takes.added;
  each = λ name i. each_added name (member_shown directory.key old new listing lists (reverse takes.taken) takes.split name i);
  there = λ p i. added_there p (out_map (pending_at directory) p takes.taken i);
  below = λ p i. added_below p (out_map (pending_at directory) p takes.taken i);
  apart = entries_apart directory takes.taken (names_distinct directory.key old new listing lists takes.taken takes.split);
}
  where
    each_added : (name : List ℕ) → (entry : DirEntry) × IsIn entry (reverse takes.taken) × (entry.name ≡ name) → (p : Pending) × IsIn p (map (pending_at directory) takes.taken) × (key_of p ≡ member directory.key name)
    each_added name (entry, inside, same) = (
      pending_at directory entry,
      in_map (pending_at directory) entry takes.taken (IsIn-unpermuted takes.taken (reverse takes.taken) entry (IsPermutation-reverse takes.taken) inside),
      ap (member directory.key) same,
    )

    added_below : (p : Pending) → (entry : DirEntry) × IsIn entry takes.taken × (p ≡ pending_at directory entry) → (name : List ℕ) × (key_of p ≡ member directory.key name)
    added_below p (entry, inside, is) = (entry.name, ap (λ (q : Pending). key_of q) is)

    added_there : (p : Pending) → (entry : DirEntry) × IsIn entry takes.taken × (p ≡ pending_at directory entry) → old.contents.metas (key_of p) ≡ Some p.meta
    added_there p (entry, inside, is) =
        let shown : IsIn (Ok entry) listing = subst (λ l. IsIn (Ok entry) l) (sym takes.split) (in_map Ok entry (reverse takes.taken) (IsIn-permuted takes.taken (reverse takes.taken) entry (IsPermutation-reverse takes.taken) inside)) in
        subst (λ (q : Pending). old.contents.metas (key_of q) ≡ Some q.meta) (sym is) (entry_shown directory.key old new listing lists entry shown)

-- ---- a listing that is not granted

pub unlisted_contents : (directory : Key) (old new : Store) (e : FsError) → ((e ≡ Memory) × (new ≡ old)) ⊎ Declines (read_dir_call old.contents directory) e old new → new.contents ≡ old.contents
unlisted_contents directory old new e (inl (memory, same)) = ap (λ (s : Store). s.contents) same
unlisted_contents directory old new e (inr declined) = declined.same

pub unlisted_facts : (directory : Key) (old new : Store) (e : FsError) → ((e ≡ Memory) × (new ≡ old)) ⊎ Declines (read_dir_call old.contents directory) e old new → new.facts ≡ old.facts
unlisted_facts directory old new e (inl (memory, same)) = ap (λ (s : Store). s.facts) same
unlisted_facts directory old new e (inr declined) = declined.fixed
