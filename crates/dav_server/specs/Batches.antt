-- Batches of frames, and the batches of replies that answer them.
use Rattle.std.specs.Prelude.{◌≡◌, ◌⊎◌, ℕ, ◌+◌, max, List, [], Some, None}
use Rattle.dav_store.specs.Calls.{Reads}
use Rattle.dav_store.specs.Store.{Store}
use Rattle.dav_wire.specs.Batches.{batch}
use Rattle.dav_wire.specs.Codec.{decode}
use Rattle.dav_wire.specs.declared.batch.BatchHeader.{BatchHeader}
use Rattle.dav_server.specs.Frames.{ServesFrames}
use Rattle.dav_server.specs.State.{Rules, ServerState}

-- the answer to a batch: the number of a batch, a status, and the replies to the frames in order
pub record BatchAnswer : Type 0 where
  pub number : ℕ
  pub status : ℕ
  pub replies : List (List ℕ)

-- a batch and its answer
pub record Exchange : Type 0 where
  pub header : BatchHeader
  pub content : List ℕ
  pub answer : BatchAnswer

-- an answer without replies
abbrev pub bare_answer : ℕ → ℕ → BatchAnswer
bare_answer number status = record { number = number; status = status; replies = [] }

-- the state in which the frames of a batch are served: with its number and its time, which never goes back
abbrev pub begun : BatchHeader → ServerState → ServerState
begun header state = record state { now = max state.now header.now; last = header.number }

-- the number of the batch is the one after that of the last batch
abbrev pub IsNext : BatchHeader → ServerState → Type 0
IsNext header state = header.number ≡ state.last + 1

-- the batch is not served, with this status, but its number and its time count
pub record SkipsBatch (status : ℕ) (header : BatchHeader) (answer : BatchAnswer) (old new : ServerState) : Type 0 where
  pub next : IsNext header old
  pub answered : answer ≡ bare_answer header.number status
  pub same : new ≡ begun header old

-- the batch is not the next one: 409 with the number of the last batch, and nothing changes
pub record RefusesBatch (header : BatchHeader) (answer : BatchAnswer) (old new : ServerState) : Type 0 where
  pub other : ¬ (IsNext header old)
  pub answered : answer ≡ bare_answer old.last 409
  pub same : new ≡ old

module _ {F : Type 0} (see_store : F → Store) (says : F → Reads) where
  -- each frame of the batch is served
  pub record ServesBatch (rules : Rules) (header : BatchHeader) (content : List ℕ) (answer : BatchAnswer) (old new : ServerState) : Type 0 where
    pub next : IsNext header old
    pub number : answer.number ≡ header.number
    pub status : answer.status ≡ 200
    pub frames : List (List ℕ)
    pub read : decode batch content ≡ Some frames
    pub served : ServesFrames see_store says rules (begun header old) frames answer.replies new

  -- the batch is served; or its content is not a list of frames (400); or it is too large for memory (507); or it is not the next one (409)
  abbrev pub AnswersBatch : Rules → BatchHeader → List ℕ → BatchAnswer → ServerState → ServerState → Type 0
  AnswersBatch rules header content answer old new =
      ServesBatch rules header content answer old new
      ⊎ ((decode batch content ≡ None) × SkipsBatch 400 header answer old new)
      ⊎ SkipsBatch 507 header answer old new
      ⊎ RefusesBatch header answer old new
