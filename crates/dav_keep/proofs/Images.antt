-- Tables that stand for an image, and databases that a crash leaves.
use Rattle.std.proofs.Common.{◌≡◌, ◌∙◌, pos, List, [], ◌∷◌, map, IsTrue, refl, sym, ap, ap₂, subst}
use Rattle.std.specs.List.{AllByRecursion}
use Rattle.std.specs.FinMap.{entries, insert, entries-insert}
use Rattle.std.specs.FinMap.Entries.{put}
use Rattle.std.specs.Ordering.{int_cmp}
use Rattle.std.proofs.lemmas.Cmp.{int_cmp_total}
use Rattle.std.proofs.lemmas.Option.{same_Some}
use Rattle.sqlite.specs.Held.{Held, state}
use Rattle.sqlite.specs.Effect.{Database}
use Rattle.sqlite.specs.Tree.{Trees}
use Rattle.sqlite_trees.specs.declared.store.Store as store
use Rattle.dav_cells.specs.Locks.{lock_codec, kept_lock}
use Rattle.dav_rows.specs.Contents.{Contents, LockValues, Holds}
use Rattle.dav_rows.specs.Saving.{IsAt}
use Rattle.dav_rows.specs.Stored.{Numbered}
use Rattle.dav_store.specs.declared.lock.DavLock.{DavLock}
use Rattle.dav_store_rows.specs.LockRows.{lock_values, IsValidLock, LocksStand}
use Rattle.dav_wire.specs.Codec.{decode, decode-encode}
use Rattle.dav_keep.specs.Images.{AreSameLocks}

same_lock : (k l : DavLock) → lock_values k ≡ lock_values l → IsValidLock k → IsValidLock l → kept_lock k ≡ kept_lock l
same_lock k l same valid also =
    same_Some (kept_lock k) (kept_lock l)
    (sym (decode-encode lock_codec (kept_lock k) valid) ∙ ap (λ (v : LockValues). decode lock_codec v.lock) same ∙ decode-encode lock_codec (kept_lock l) also)

same_all : (ks ls : List DavLock) → map lock_values ks ≡ map lock_values ls → AllByRecursion IsValidLock ks → AllByRecursion IsValidLock ls → AreSameLocks ks ls
same_all [] [] same valid also = refl
same_all [] (l ∷ ls) same valid also = absurd cc
same_all (k ∷ ks) [] same valid also = absurd cc
same_all (k ∷ ks) (l ∷ ls) same valid also =
    let first : lock_values k ≡ lock_values l = cc in
    let rest : map lock_values ks ≡ map lock_values ls = cc in
    ap₂ ◌∷◌ (same_lock k l first valid.0 also.0) (same_all ks ls rest valid.1 also.1)

-- locks that stand in the same table are the same
pub same_locks : (m : Numbered LockValues) (ks ls : List DavLock) → LocksStand m ks → LocksStand m ls → AreSameLocks ks ls
same_locks m ks ls one other = same_all ks ls (sym one.values_are ∙ other.values_are) one.valid other.valid

-- two rows take the places of those before
pub put_both : {V : Type 0} (m : Numbered V) (a b c d : V) → entries m ≡ (pos 0, a) ∷ (pos 1, b) ∷ []
    → entries (insert (insert m (pos 0) c) (pos 1) d) ≡ (pos 0, c) ∷ (pos 1, d) ∷ []
put_both m a b c d is =
    entries-insert int_cmp_total (insert m (pos 0) c) (pos 1) d
    ∙ ap (put int_cmp (pos 1) d) (entries-insert int_cmp_total m (pos 0) c ∙ ap (put int_cmp (pos 0) c) is)

module _ {S : Type 0} (rows : store.Ghosts S) where
  -- the law of a store that while it is open a crash leaves its last commit
  abbrev pub Settles : Type 0
  Settles = (s : S) (db : Trees) → IsTrue (rows.view s).is_open → rows.recovers s db → db ≡ (rows.view s).committed

  -- while the tables stand for the maps, a crash leaves them
  pub left_at : Settles → (conn : Held S) (m : Contents) → IsAt (state rows conn) m → (db : Trees) → (state rows conn).may_leave db → Holds db m
  left_at settles conn m at db may =
      let same : (state rows conn).now.trees ≡ db = ap (λ (d : Database). d.trees) at.settled ∙ sym (settles conn.store db at.is_open may) in
      subst (λ d. Holds d m) same at.holds
