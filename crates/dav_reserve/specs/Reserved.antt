-- What contracts see of a `Reserved`: this project's own choice.
use Rattle.std.specs.Prelude.{◌≡◌, ◌≤◌, ◌<◌, ◌+◌, ◌⊎◌, ℕ, Bool, true, false, List, length, Result}
use Rattle.std.specs.declared.io.Error.{Error}
use Rattle.sqlite_disk.specs.declared.Disk.{Ghosts}
use Rattle.sqlite_disk.specs.declared.tally.Tally.{Tally}
use Rattle.sqlite_disk.specs.Disk.{Follows, MoreFaults, StaysFrozen}
use Rattle.sqlite_disk.specs.Refusal.{finds_no_room}
use Rattle.sqlite_disk.specs.Tally.{both_counts}
use Rattle.dav_reserve.specs.Reserves.{is_known_filled, GivesUp}
use Rattle.dav_reserve.specs.declared.reserved.Reserved.{Reserved}

module _ {D R : Type 0} {d : Ghosts D} {r : Ghosts R} where
  -- the disk to which calls are passed on
  abbrev pub inner_of : Reserved D R d r → D
  inner_of it = it.inner

  -- the disk of the reserve
  abbrev pub reserve_of : Reserved D R d r → R
  reserve_of it = it.reserve

  -- how many bytes are to be kept back
  abbrev pub room_of : Reserved D R d r → ℕ
  room_of it = it.room

  -- how long the file is at least, as far as calls have said
  abbrev pub end_of : Reserved D R d r → ℕ
  end_of it = it.end

  -- a write found no room, and none that may have made the file longer has succeeded since
  abbrev pub is_full : Reserved D R d r → Bool
  is_full it = it.is_full

  -- a sync has succeeded
  abbrev pub has_synced : Reserved D R d r → Bool
  has_synced it = it.has_synced

  -- how many writes failed because the reserve could not be filled
  abbrev pub unfilled_of : Reserved D R d r → ℕ
  unfilled_of it = it.unfilled

  -- how many of them found no room
  abbrev pub no_room_of : Reserved D R d r → ℕ
  no_room_of it = it.no_room

  -- the reserve is known to have all the bytes that are to be kept back
  abbrev pub is_filled : Reserved D R d r → Bool
  is_filled it = is_known_filled it.known

  -- the disk's failures, and those writes
  abbrev pub faults_of : Reserved D R d r → ℕ
  faults_of it = d.faults it.inner + it.unfilled

  -- what the disk's failures and those writes met
  abbrev pub tally_of : Reserved D R d r → Tally
  tally_of it = both_counts (d.tally_of it.inner) (record { caught = 0; refused = it.no_room })

  -- no write has failed, no sync has succeeded, and the reserve is not filled
  pub record IsFresh (it : Reserved D R d r) : Type 0 where
    pub writes : (unfilled_of it ≡ 0) × (no_room_of it ≡ 0)
    pub full : is_full it ≡ false
    pub filled : is_filled it ≡ false
    pub begun : has_synced it ≡ false

  -- the file of the reserve has all the bytes that are to be kept back
  abbrev pub HasRoom : Reserved D R d r → Type 0
  HasRoom it = room_of it ≤ length (r.seen (reserve_of it))

  -- if the file is longer now, the reserve has its bytes, or the error says that there is no room
  abbrev pub KeepsRoom : Result Unit Error → Reserved D R d r → Reserved D R d r → Type 0
  KeepsRoom result old new =
      d.is_clean (inner_of new) ≡ true
      → length (d.seen (inner_of old)) < length (d.seen (inner_of new))
      → HasRoom new ⊎ (finds_no_room result ≡ true)

  -- a call of the disk failed; or a write to this end may have made the file longer, and the reserve could not be filled
  abbrev pub HasCause : ℕ → Reserved D R d r → Reserved D R d r → Type 0
  HasCause end old new =
      MoreFaults (d.faults (inner_of old)) (d.faults (inner_of new))
      ⊎ (end_of old < end × is_filled old ≡ false × MoreFaults (r.faults (reserve_of old)) (r.faults (reserve_of new)))

  -- all but the reserve and what is known of it is as it was
  pub record KeepsInner (old new : Reserved D R d r) : Type 0 where
    pub inner : inner_of new ≡ inner_of old
    pub room : room_of new ≡ room_of old
    pub end : end_of new ≡ end_of old

  -- the reserve is filled, or the disk was full before, or the reserve could not be filled and was emptied
  abbrev pub Refills : Reserved D R d r → Reserved D R d r → Type 0
  Refills old new =
      (is_filled new ≡ true) ⊎ ((is_full old ≡ true) ⊎ GivesUp r (reserve_of old) (reserve_of new))

  -- the reserve, and what is known of it, is as it was
  pub record KeepsReserve (old new : Reserved D R d r) : Type 0 where
    pub reserve : reserve_of new ≡ reserve_of old
    pub filled : is_filled new ≡ is_filled old
    pub full : is_full new ≡ is_full old

  -- if the reserve was filled, the disk was full or no sync had succeeded, no call of the reserve's disk was made
  pub record LeavesAlone (old new : Reserved D R d r) : Type 0 where
    pub filled : is_filled old ≡ true → KeepsReserve old new
    pub full : is_full old ≡ true → KeepsReserve old new
    pub begun : has_synced old ≡ false → KeepsReserve old new

  -- the machine has still stopped, and nothing has changed on the disk
  abbrev pub KeepsFrozen : Reserved D R d r → Reserved D R d r → Type 0
  KeepsFrozen old new = StaysFrozen d.seen d.may_leave d.is_clean d.is_frozen (inner_of old) (inner_of new)

  -- each file that a crash may leave now is one that it might have left before, after a step
  abbrev pub MayLeaveAfter : (List ℕ → List ℕ → Type 0) → Reserved D R d r → Reserved D R d r → Type 0
  MayLeaveAfter step old new = Follows step (d.may_leave (inner_of old)) (d.may_leave (inner_of new))
