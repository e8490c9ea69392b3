-- Logs that no crash leaves. This is the project's own choice, after how sqlite_wal commits (its README.md, "How a commit is atomic"):
--
-- With two syncs. It writes the frames but for one byte, syncs, writes that byte, and syncs. The byte is the gate: the first salt byte of the first frame.
-- With one sync. It writes over zeros that are on the disk, and leaves nine or more of them behind the last frame. The first frame counts the others, and has a page number that no other frame has. A crash leaves each byte 0 or new.
use Rattle.std.specs.Prelude.{◌≡◌, ◌≢◌, ◌⊎◌, ℕ, ◌+◌, ◌<◌, ◌≤◌, List, length, slice_index}
use Rattle.sqlite_wal.specs.Format.{part, be32, IsSigned, page_number, commit_size, count_page}
use Rattle.sqlite_wal.specs.Recovery.{frame_at, header, frame, Passes, Replays}
use Rattle.sqlite_wal.specs.PageSize.{IsPageSize}

-- The log has room for a frame, and its header is wrong, and its first byte is not 0: that byte is written last, over 0.
pub record HasWrongHeader (log : List ℕ) : Type 0 where
  pub long : 32 + 24 + 512 ≤ length log
  pub gate : slice_index log 0 ≢ 0
  pub wrong : ¬ IsSigned (header log)

-- ---- frames

-- all of frame i is in the log
abbrev pub IsWithin : ℕ → List ℕ → ℕ → Type 0
IsWithin page_size log i = frame_at page_size i + (24 + page_size) ≤ length log

-- frame i passes, and is the first frame of a commit of one sync
pub record IsCount (page_size : ℕ) (log : List ℕ) (i : ℕ) : Type 0 where
  pub page : page_number (frame page_size log i) ≡ count_page
  pub passes : Passes page_size log i

-- frame i passes, and is the last frame of a commit
pub record IsCommit (page_size : ℕ) (log : List ℕ) (i : ℕ) : Type 0 where
  pub commits : commit_size (frame page_size log i) ≢ 0
  pub passes : Passes page_size log i

-- frame i begins with nine zeros, as behind a commit of one sync
pub record IsBlank (page_size : ℕ) (log : List ℕ) (i : ℕ) : Type 0 where
  pub page : page_number (frame page_size log i) ≡ 0
  pub size : commit_size (frame page_size log i) ≡ 0
  pub salt : slice_index (frame page_size log i) 8 ≡ 0

-- the gate of frame i is open
abbrev pub IsOpen : ℕ → List ℕ → ℕ → Type 0
IsOpen page_size log i = slice_index (frame page_size log i) 8 ≡ slice_index (header log) 16

-- Frame i has the salt of the log and the number of a page. A crash in a commit of one sync leaves its first frame the number 0 or that of a count.
pub record HoldsPage (page_size : ℕ) (log : List ℕ) (i : ℕ) : Type 0 where
  pub salt : part (frame page_size log i) 8 8 ≡ part (header log) 16 8
  pub page : page_number (frame page_size log i) ≢ 0
  pub uncounted : page_number (frame page_size log i) ≢ count_page

-- ---- why frame k was committed

-- It begins a commit of two syncs, and its gate is open: so all of that commit was on the disk.
abbrev pub IsRevealed : ℕ → List ℕ → ℕ → Type 0
IsRevealed page_size log k = IsWithin page_size log k × HoldsPage page_size log k

-- A commit of one sync begins behind it. The count is written only where all frames before it are committed.
pub record HasLaterCount (page_size : ℕ) (log : List ℕ) (k : ℕ) : Type 0 where
  pub first : ℕ
  pub later : k < first
  pub count : IsCount page_size log first

-- Its gate is open, and from there on a commit ends and is followed by another frame, with no zeros before. A crash in a commit of one sync leaves at most the end of that commit, and zeros behind it.
pub record HasLaterCommit (page_size : ℕ) (log : List ℕ) (k : ℕ) : Type 0 where
  pub opened : IsOpen page_size log k
  pub last : ℕ
  pub next : ℕ
  pub follows : last + 1 ≡ next
  pub later : k ≤ last
  pub commit : IsCommit page_size log last
  pub goes_on : Passes page_size log next
  pub dense : (i : ℕ) → k ≤ i → i ≤ last → ¬ IsBlank page_size log i

-- frame k was committed, by one of these three signs
abbrev pub LosesFrames : ℕ → List ℕ → ℕ → Type 0
LosesFrames page_size log k =
    IsRevealed page_size log k ⊎ (HasLaterCount page_size log k ⊎ HasLaterCommit page_size log k)

-- ---- the log

-- the log has a header that passes its checksum, and names this page size
pub record NamesSize (log : List ℕ) (page_size : ℕ) : Type 0 where
  pub long : 32 ≤ length log
  pub signed : IsSigned (header log)
  pub named : be32 log 8 ≡ page_size
  pub valid : IsPageSize page_size

-- recovery takes so many frames, and the next one was committed as well
pub record LosesCommits (log : List ℕ) : Type 0 where
  pub page_size : ℕ
  pub names : NamesSize log page_size
  pub taken : ℕ
  pub replays : Replays page_size log taken
  pub loses : LosesFrames page_size log taken

-- no crash leaves such a log
abbrev pub IsDamaged : List ℕ → Type 0
IsDamaged log = HasWrongHeader log ⊎ LosesCommits log
