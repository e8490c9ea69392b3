-- Batches read from an input and their answers written to an output.
use Rattle.std.specs.Prelude.{◌≡◌, ◌⊎◌, ℕ, List, [], ◌∷◌, ◌++◌, length, flat_map, Option, Result, IfOk, IfSome, MatchOption, ⊤}
use Rattle.std.specs.Io.KnownBytes.{Appends, Consumes, IsAtEnd, Keeps}
use Rattle.dav_store.specs.Calls.{Reads}
use Rattle.dav_store.specs.Store.{Store}
use Rattle.dav_wire.specs.Batches.{batch, batch_header}
use Rattle.dav_wire.specs.Codec.{Codec}
use Rattle.dav_wire.specs.Combine.{pair}
use Rattle.dav_wire.specs.Numbers.{number}
use Rattle.dav_server.specs.Batches.{BatchAnswer, Exchange, AnswersBatch}
use Rattle.dav_server.specs.Guarantees.{IsSameStore, AreOneRun}
use Rattle.dav_server.specs.State.{Rules, ServerState}

-- a batch of replies: the number of a batch, a status, and the replies
abbrev pub reply_batch : Codec (ℕ × (ℕ × List (List ℕ)))
reply_batch = pair number (pair number batch)

-- the bytes of an answer
abbrev pub answer_bytes : BatchAnswer → List ℕ
answer_bytes answer = reply_batch.encode (answer.number, (answer.status, answer.replies))

-- ---- reads of parts of a batch

-- P of the value that was read, if there is one
abbrev pub IfRead : {A E : Type 0} → Result (Option A) E → (A → Type 0) → Type 0
IfRead r P = IfOk r (λ o. IfSome o P)

-- P, if there is no value and no stream failed
abbrev pub OnNone : {A E : Type 0} → Result (Option A) E → Type 0 → Type 0
OnNone r P = IfOk r (λ o. MatchOption o P (λ _. ⊤))

-- this many bytes were read
pub record Skips (input input' : Option (List ℕ)) (count : ℕ) : Type 0 where
  pub bytes : List ℕ
  pub read : Consumes input input' bytes
  pub all : length bytes ≡ count

-- this many bytes were read and appended
pub record ReadsMore (input input' : Option (List ℕ)) (count : ℕ) (old new : List ℕ) : Type 0 where
  pub bytes : List ℕ
  pub read : Consumes input input' bytes
  pub all : length bytes ≡ count
  pub appended : new ≡ old ++ bytes

-- ---- exchanges

-- the bytes of the batch, and those of its answer
abbrev pub bytes_in : Exchange → List ℕ
bytes_in exchange = batch_header.encode exchange.header ++ exchange.content

abbrev pub bytes_out : Exchange → List ℕ
bytes_out exchange = answer_bytes exchange.answer

-- the content has the length that the header says
abbrev pub HasLength : Exchange → Type 0
HasLength exchange = length exchange.content ≡ exchange.header.length

-- the input has ended, and nothing has changed
pub record Ends (old new : ServerState) (input input' output output' : Option (List ℕ)) : Type 0 where
  pub end : IsAtEnd input'
  pub same : new ≡ old
  pub none_read : Keeps input input'
  pub none_written : Keeps output output'

-- `Does` says what an exchange does to the state of the server
module _ (Does : Exchange → ServerState → ServerState → Type 0) where
  -- exchanges in order
  abbrev pub InOrder : List Exchange → ServerState → ServerState → Type 0
  InOrder [] old new = new ≡ old
  InOrder (exchange ∷ exchanges) old new = (mid : ServerState) × Does exchange old mid × InOrder exchanges mid new

  -- one exchange: its bytes are read, and those of its answer are written
  pub record ExchangesBy (old new : ServerState) (input input' output output' : Option (List ℕ)) : Type 0 where
    pub exchange : Exchange
    pub answered : Does exchange old new
    pub read : Consumes input input' (bytes_in exchange)
    pub written : Appends output output' (bytes_out exchange)

  -- nothing changed, or one exchange was under way
  abbrev pub StopsBy : ServerState → ServerState → Type 0
  StopsBy old new = (new ≡ old) ⊎ ((exchange : Exchange) × Does exchange old new)

  -- the exchanges of a run, which keep this law: their bytes are read, and those of their answers are written
  pub record RunsBy (Law : List Exchange → ServerState → ServerState → Type 0) (old new : ServerState) (input input' output output' : Option (List ℕ)) : Type 0 where
    pub exchanges : List Exchange
    pub answered : InOrder exchanges old new
    pub read : Consumes input input' (flat_map bytes_in exchanges)
    pub written : Appends output output' (flat_map bytes_out exchanges)
    pub law : Law exchanges old new

module _ {F : Type 0} (see_store : F → Store) (says : F → Reads) where
  -- the batch of this exchange is answered
  pub record IsAnswered (rules : Rules) (exchange : Exchange) (old new : ServerState) : Type 0 where
    pub length : HasLength exchange
    pub answers : AnswersBatch see_store says rules exchange.header exchange.content exchange.answer old new

  -- a batch is read and gets this answer, which is not written yet
  pub record ReadsAndAnswers (rules : Rules) (answer : BatchAnswer) (old new : ServerState) (input input' : Option (List ℕ)) : Type 0 where
    pub exchange : Exchange
    pub with_answer : exchange.answer ≡ answer
    pub answered : IsAnswered rules exchange old new
    pub read : Consumes input input' (bytes_in exchange)

  -- exchanges in order
  abbrev pub AreAnswered : Rules → List Exchange → ServerState → ServerState → Type 0
  AreAnswered rules exchanges old new = InOrder (IsAnswered rules) exchanges old new

  -- one exchange: its bytes are read, and those of its answer are written
  abbrev pub Exchanges : Rules → ServerState → ServerState → Option (List ℕ) → Option (List ℕ) → Option (List ℕ) → Option (List ℕ) → Type 0
  Exchanges rules old new input input' output output' = ExchangesBy (IsAnswered rules) old new input input' output output'

  -- a stream failed: before a batch was read whole, and nothing changed; or after it was answered, before the answer was written whole
  abbrev pub StopsInside : Rules → ServerState → ServerState → Type 0
  StopsInside rules old new = StopsBy (IsAnswered rules) old new

  -- exchanges between which the store stays as it is, and in which what a PUT wrote is what a later read returns
  abbrev pub AreRun : Rules → List Exchange → ServerState → ServerState → Type 0
  AreRun rules exchanges old new = AreOneRun see_store says IsSameStore rules exchanges old new

  -- the exchanges of a run: their bytes are read, and those of their answers are written; what a PUT wrote is what a later read returns (`AreOneRun`)
  abbrev pub Runs : Rules → ServerState → ServerState → Option (List ℕ) → Option (List ℕ) → Option (List ℕ) → Option (List ℕ) → Type 0
  Runs rules old new input input' output output' = RunsBy (IsAnswered rules) (AreRun rules) old new input input' output output'

  -- a run that a failed stream stops: all exchanges before were answered
  pub record StopsAfter (rules : Rules) (old new : ServerState) : Type 0 where
    pub exchanges : List Exchange
    pub mid : ServerState
    pub answered : AreAnswered rules exchanges old mid
    pub law : AreRun rules exchanges old mid
    pub stopped : StopsInside rules mid new
