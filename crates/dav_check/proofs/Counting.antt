-- Each file is counted once.
use Rattle.std.proofs.Common.{◌≡◌, ◌≢◌, ◌∙◌, ◌⊎◌, ℕ, Bool, true, false, List, [], ◌∷◌, ◌++◌, None, Some, length, refl, sym, ap, subst, inl, inr, append_assoc, append-nil, Vec, Global, ◌+◌, arith}
use Rattle.std.specs.FinMap.{get}
use Rattle.dav_key.specs.Key.{Key}
use Rattle.dav_resource.specs.PathText.{PathValue}
use Rattle.dav_store.specs.Store.{Store, Contents, File, Directory, IsWellFormed}
use Rattle.dav_store.specs.Calls.{Reads, bytes_at}
use Rattle.dav_store.specs.Members.{IsIn}
use Rattle.dav_check.specs.Reading.{IsReadBelow, WasRefused}
use Rattle.dav_check.specs.Pending.{AddsMembers, AreThere, key_of}
use Rattle.dav_check.specs.Checking.{IsFile, CountsFile, NamesFile, ChecksFile}
use Rattle.dav_check.specs.declared.checking.Checked.{Checked}
use Rattle.dav_check.specs.declared.pending.Pending.{Pending}
use Rattle.dav_check.proofs.Lists.{in_left, in_right, in_either}
use Rattle.std.proofs.Common.{map, suc}
use Rattle.std.proofs.lemmas.List.{map-append, length-append}
use Rattle.dav_store.specs.Members.{AreDistinct}
use Rattle.dav_check.specs.Pending.{AreApart, AreAllApart}
use Rattle.dav_check.specs.Checking.{CountsAll, named_keys, bytes_in}
use Rattle.dav_check.proofs.Lists.{distinct_last}
use Rattle.dav_check.proofs.Walk.{IsAwaited, member_below, directory_above, file_stands, file_by}

-- ---- resources that are apart

apart_left : (ps qs : List Pending) → AreAllApart (ps ++ qs) → AreAllApart ps
apart_left [] qs apart = tt
apart_left (p ∷ ps) qs apart = ((λ q i. apart.0 q (in_left q ps qs i)), apart_left ps qs apart.1)

apart_across : (ps qs : List Pending) → AreAllApart (ps ++ qs) → (p : Pending) → IsIn p ps → (q : Pending) → IsIn q qs → AreApart p q
apart_across [] qs apart p i q j = absurd i
apart_across (r ∷ ps) qs apart p (inl e) q j = subst (λ (s : Pending). AreApart s q) e (apart.0 q (in_right q ps qs j))
apart_across (r ∷ ps) qs apart p (inr i) q j = apart_across ps qs apart.1 p i q j

apart_join : (ps qs : List Pending) → AreAllApart ps → AreAllApart qs → ((p : Pending) → IsIn p ps → (q : Pending) → IsIn q qs → AreApart p q) → AreAllApart (ps ++ qs)
apart_join [] qs one other across = other
apart_join (p ∷ ps) qs one other across = ((λ q i. which q (in_either q ps qs i)), apart_join ps qs one.1 other (λ r i. across r (inr i)))
  where
    which : (q : Pending) → IsIn q ps ⊎ IsIn q qs → AreApart p q
    which q (inl i) = one.0 q i
    which q (inr i) = across p (inl refl) q i

-- ---- the files so far

-- the files that were read and those that are named, each once, and nothing that waits is at or above one; the other files are at or below what waits
pub record IsCounted (contents : Contents) (waiting : List Pending) (checked : Checked) : Type 0 where
  pub whole : List Key
  pub apart : AreAllApart waiting
  pub fresh : (key : Key) → IsIn key (whole ++ named_keys checked) → (p : Pending) → IsIn p waiting → (below : Key) → key ≢ key_of p ++ below
  pub once : AreDistinct (whole ++ named_keys checked)
  pub only : (key : Key) → IsIn key (whole ++ named_keys checked) → IsFile contents key
  pub covered : (key : Key) → IsFile contents key → IsIn key (whole ++ named_keys checked) ⊎ IsAwaited waiting key
  pub files : checked.files ≡ length (whole ++ named_keys checked)
  pub bytes : checked.bytes ≡ bytes_in contents whole

module _ (contents : Contents) where
  pub counts_none : (waiting : List Pending) (checked : Checked) (first : Pending) → waiting ≡ first ∷ [] → key_of first ≡ [] → checked.damaged.items ≡ [] → checked.files ≡ 0 → checked.bytes ≡ 0 → IsCounted contents waiting checked
  counts_none waiting checked first is root none files bytes = record {
    whole = [];
    apart = subst AreAllApart (sym is) ((λ q i. absurd i), tt);
    fresh = λ key i. absurd (subst (λ ks. IsIn key ks) no_names i);
    once = subst (λ (ks : List Key). AreDistinct ks) (sym no_names) tt;
    only = λ key i. absurd (subst (λ ks. IsIn key ks) no_names i);
    covered = λ key file. inr (first, subst (λ ps. IsIn first ps) (sym is) (inl refl), key, ap (λ k. k ++ key) (sym root));
    files = files ∙ ap (λ (ks : List Key). length ks) (sym no_names);
    bytes = bytes;
  }
    where
      no_names : named_keys checked ≡ []
      no_names = ap (λ (ds : List PathValue). map (λ (path : PathValue). path.key) ds) none

  pub counts_all : (waiting : List Pending) (checked : Checked) → waiting ≡ [] → IsCounted contents waiting checked → CountsAll contents checked
  counts_all waiting checked none counted = record {
    whole = counted.whole;
    once = counted.once;
    all = λ key file. which key (counted.covered key file);
    only = counted.only;
    files = counted.files;
    bytes = counted.bytes;
  }
    where
      which : (key : Key) → IsIn key (counted.whole ++ named_keys checked) ⊎ IsAwaited waiting key → IsIn key (counted.whole ++ named_keys checked)
      which key (inl i) = i
      which key (inr (p, inside, below, is)) = absurd (subst (λ ps. IsIn p ps) none inside)

  module _ (formed : IsWellFormed contents) (waiting rest : List Pending) (next : Pending) (checked : Checked) (last : waiting ≡ rest ++ next ∷ []) (there : AreThere contents waiting) (counted : IsCounted contents waiting checked) where
    next_in : IsIn next waiting
    next_in = subst (λ ps. IsIn next ps) (sym last) (in_right next rest (next ∷ []) (inl refl))

    rest_in : (p : Pending) → IsIn p rest → IsIn p waiting
    rest_in p i = subst (λ ps. IsIn p ps) (sym last) (in_left p rest (next ∷ []) i)

    all_apart : AreAllApart (rest ++ next ∷ [])
    all_apart = subst AreAllApart last counted.apart

    rest_next : (p : Pending) → IsIn p rest → AreApart p next
    rest_next p i = apart_across rest (next ∷ []) all_apart p i next (inl refl)

    awaits : (key : Key) → IsAwaited waiting key → IsAwaited rest key ⊎ ((below : Key) × (key ≡ key_of next ++ below))
    awaits key (p, inside, below, is) = which (in_either p rest (next ∷ []) (subst (λ ps. IsIn p ps) last inside))
      where
        which : IsIn p rest ⊎ IsIn p (next ∷ []) → IsAwaited rest key ⊎ ((below : Key) × (key ≡ key_of next ++ below))
        which (inl i) = inl (p, i, below, is)
        which (inr (inl e)) = inr (below, is ∙ ap (λ (q : Pending). key_of q ++ below) (sym e))
        which (inr (inr i)) = absurd i

    pub counts_lists : (after : List Pending) → next.meta.dir ≡ true → AddsMembers contents (key_of next) rest after
        → ((key : Key) → IsFile contents key → IsAwaited waiting key → IsAwaited after key) → IsCounted contents after checked
    counts_lists after dir adds still = record {
      whole = counted.whole;
      apart = subst AreAllApart (sym adds.behind) (apart_join rest adds.added (apart_left rest (next ∷ []) all_apart) adds.apart across);
      fresh = λ key i p j below. new_fresh key i p below (in_either p rest adds.added (subst (λ ps. IsIn p ps) adds.behind j));
      once = counted.once;
      only = counted.only;
      covered = λ key file. which key file (counted.covered key file);
      files = counted.files;
      bytes = counted.bytes;
    }
      where
        across : (p : Pending) → IsIn p rest → (q : Pending) → IsIn q adds.added → AreApart p q
        across p i q j x y same =
            let at = adds.below q j in
            rest_next p i x (at.0 ∷ y) (same ∙ ap (λ k. k ++ y) at.1 ∙ member_below (key_of next) at.0 y)

        new_fresh : (key : Key) → IsIn key (counted.whole ++ named_keys checked) → (p : Pending) → (below : Key) → IsIn p rest ⊎ IsIn p adds.added → key ≢ key_of p ++ below
        new_fresh key i p below (inl j) = counted.fresh key i p (rest_in p j) below
        new_fresh key i p below (inr j) = λ is.
            let at = adds.below p j in
            counted.fresh key i next next_in (at.0 ∷ below) (is ∙ ap (λ k. k ++ below) at.1 ∙ member_below (key_of next) at.0 below)

        which : (key : Key) → IsFile contents key → IsIn key (counted.whole ++ named_keys checked) ⊎ IsAwaited waiting key → IsIn key (counted.whole ++ named_keys checked) ⊎ IsAwaited after key
        which key file (inl done) = inl done
        which key file (inr waits) = inr (still key file waits)

    -- a file that was read or is named
    module _ (later : Checked) (dir : next.meta.dir ≡ false) where
      is_file : (bytes : List ℕ) × (get contents.tree (key_of next) ≡ Some (File bytes)) × (next.meta.len ≡ length bytes)
      is_file = file_by (get contents.tree (key_of next)) (contents.metas (key_of next)) next.meta (formed.metas (key_of next)) (there next next_in) dir

      is_new : IsIn (key_of next) (counted.whole ++ named_keys checked) → ⊥
      is_new i = counted.fresh (key_of next) i next next_in [] (sym (append-nil (key_of next)))

      only_itself : (key below : Key) → IsFile contents key → key ≡ key_of next ++ below → key ≡ key_of next
      only_itself key [] file is = is ∙ append-nil (key_of next)
      only_itself key (name ∷ below) file is =
          let stands = subst (λ k. get contents.tree k ≢ None) is (file_stands contents key file) in
          let no : Some (File is_file.0) ≡ Some Directory = sym is_file.1 ∙ directory_above contents formed (key_of next) below name stands in
          absurd cc

      counts_more : (whole : List Key)
          → ((key : Key) → IsIn key (whole ++ named_keys later) → (key_of next ≡ key) ⊎ IsIn key (counted.whole ++ named_keys checked))
          → ((key : Key) → IsIn key (counted.whole ++ named_keys checked) → IsIn key (whole ++ named_keys later))
          → IsIn (key_of next) (whole ++ named_keys later) → AreDistinct (whole ++ named_keys later)
          → later.files ≡ length (whole ++ named_keys later) → later.bytes ≡ bytes_in contents whole → IsCounted contents rest later
      counts_more whole into from here once files bytes = record {
        whole = whole;
        apart = apart_left rest (next ∷ []) all_apart;
        fresh = λ key i p j below. new_fresh key p j below (into key i);
        once = once;
        only = λ key i. file_at key (into key i);
        covered = λ key file. which key file (counted.covered key file);
        files = files;
        bytes = bytes;
      }
        where
          new_fresh : (key : Key) (p : Pending) → IsIn p rest → (below : Key) → (key_of next ≡ key) ⊎ IsIn key (counted.whole ++ named_keys checked) → key ≢ key_of p ++ below
          new_fresh key p j below (inl e) = λ is. rest_next p j below [] (sym is ∙ sym e ∙ sym (append-nil (key_of next)))
          new_fresh key p j below (inr i) = counted.fresh key i p (rest_in p j) below

          file_at : (key : Key) → (key_of next ≡ key) ⊎ IsIn key (counted.whole ++ named_keys checked) → IsFile contents key
          file_at key (inl e) = subst (λ k. IsFile contents k) e (is_file.0, is_file.1)
          file_at key (inr i) = counted.only key i

          still : (key : Key) → IsFile contents key → IsAwaited rest key ⊎ ((below : Key) × (key ≡ key_of next ++ below)) → IsIn key (whole ++ named_keys later) ⊎ IsAwaited rest key
          still key file (inl waits) = inr waits
          still key file (inr (below, is)) = inl (subst (λ k. IsIn k (whole ++ named_keys later)) (sym (only_itself key below file is)) here)

          which : (key : Key) → IsFile contents key → IsIn key (counted.whole ++ named_keys checked) ⊎ IsAwaited waiting key → IsIn key (whole ++ named_keys later) ⊎ IsAwaited rest key
          which key file (inl done) = inl (from key done)
          which key file (inr waits) = still key file (awaits key waits)

      pub counts_whole : later.files ≡ checked.files + 1 → CountsFile next checked later → IsCounted contents rest later
      counts_whole files counts = counts_more (key_of next ∷ counted.whole) into from (inl refl)
          ((λ i. is_new (back (key_of next) i)), subst (λ (ks : List Key). AreDistinct (counted.whole ++ ks)) (sym names) counted.once)
          (files ∙ ap (λ n. n + 1) counted.files ∙ ap (λ (ks : List Key). length (counted.whole ++ ks) + 1) (sym names) ∙ plus_one (length (counted.whole ++ named_keys later)))
          (counts.bytes ∙ ap (λ n. n + next.meta.len) counted.bytes ∙ ap (λ n. bytes_in contents counted.whole + n) size ∙ turn (bytes_in contents counted.whole) (length (bytes_at (get contents.tree (key_of next)))))
        where
          names : named_keys later ≡ named_keys checked
          names = ap (λ (v : Vec PathValue Global). map (λ (path : PathValue). path.key) v.items) counts.damaged

          back : (key : Key) → IsIn key (counted.whole ++ named_keys later) → IsIn key (counted.whole ++ named_keys checked)
          back key i = subst (λ (ks : List Key). IsIn key (counted.whole ++ ks)) names i

          into : (key : Key) → IsIn key (key_of next ∷ counted.whole ++ named_keys later) → (key_of next ≡ key) ⊎ IsIn key (counted.whole ++ named_keys checked)
          into key (inl e) = inl e
          into key (inr i) = inr (back key i)

          from : (key : Key) → IsIn key (counted.whole ++ named_keys checked) → IsIn key ((key_of next ∷ counted.whole) ++ named_keys later)
          from key i = inr (subst (λ (ks : List Key). IsIn key (counted.whole ++ ks)) (sym names) i)

          size : next.meta.len ≡ length (bytes_at (get contents.tree (key_of next)))
          size = is_file.2 ∙ ap (λ n. length (bytes_at n)) (sym is_file.1)

          plus_one : (n : ℕ) → n + 1 ≡ suc n
          plus_one n = omega arith

          turn : (m n : ℕ) → m + n ≡ n + m
          turn m n = omega arith

      pub counts_named : later.files ≡ checked.files + 1 → NamesFile next checked later → IsCounted contents rest later
      counts_named files names_one = counts_more counted.whole into from here
          (subst (λ (ks : List Key). AreDistinct ks) (sym all) (distinct_last (key_of next) (counted.whole ++ named_keys checked) counted.once is_new))
          (files ∙ ap (λ n. n + 1) counted.files ∙ sym (ap (λ (ks : List Key). length ks) all ∙ length-append (counted.whole ++ named_keys checked) (key_of next ∷ [])))
          (names_one.bytes ∙ counted.bytes)
        where
          all : counted.whole ++ named_keys later ≡ (counted.whole ++ named_keys checked) ++ key_of next ∷ []
          all = ap (λ (ks : List Key). counted.whole ++ ks) (ap (λ (ds : List PathValue). map (λ (path : PathValue). path.key) ds) names_one.damaged ∙ map-append (λ (path : PathValue). path.key) checked.damaged.items (next.path ∷ []))
              ∙ sym (append_assoc counted.whole (named_keys checked) (key_of next ∷ []))

          into : (key : Key) → IsIn key (counted.whole ++ named_keys later) → (key_of next ≡ key) ⊎ IsIn key (counted.whole ++ named_keys checked)
          into key i = which (in_either key (counted.whole ++ named_keys checked) (key_of next ∷ []) (subst (λ (ks : List Key). IsIn key ks) all i))
            where
              which : IsIn key (counted.whole ++ named_keys checked) ⊎ IsIn key (key_of next ∷ []) → (key_of next ≡ key) ⊎ IsIn key (counted.whole ++ named_keys checked)
              which (inl j) = inr j
              which (inr (inl e)) = inl e
              which (inr (inr j)) = absurd j

          from : (key : Key) → IsIn key (counted.whole ++ named_keys checked) → IsIn key (counted.whole ++ named_keys later)
          from key i = subst (λ (ks : List Key). IsIn key ks) (sym all) (in_left key (counted.whole ++ named_keys checked) (key_of next ∷ []) i)

          here : IsIn (key_of next) (counted.whole ++ named_keys later)
          here = subst (λ (ks : List Key). IsIn (key_of next) ks) (sym all) (in_right (key_of next) (counted.whole ++ named_keys checked) (key_of next ∷ []) (inl refl))

      pub counts_checks : {F : Type 0} (seen : F → Store) (reads : F → Reads) → ChecksFile seen reads contents next checked later → IsCounted contents rest later
      counts_checks seen reads one = which one.outcome
        where
          which : (IsReadBelow seen reads contents next.path.key next.meta.len × CountsFile next checked later) ⊎ (WasRefused seen reads contents next.path.key × NamesFile next checked later) → IsCounted contents rest later
          which (inl (was_read, counts)) = counts_whole one.files counts
          which (inr (was_refused, names)) = counts_named one.files names
