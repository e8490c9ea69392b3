-- An exchange from its parts, and runs of exchanges.
use Rattle.std.proofs.Common.{◌≡◌, inr, ℕ, List, [], ◌∷◌, ◌++◌, length, flat_map, refl, sym, subst, Option, Some, None, IfSome, MatchOption, Result, Ok, Err, OnErr, Vec, append-nil}
use Rattle.std.specs.Prelude.{⊤}
use Rattle.std.specs.Io.KnownBytes.{Appends, Consumes}
use Rattle.std.specs.declared.alloc.Global.{Global}
use Rattle.std.proofs.lemmas.List.{flat_map_more}
use Rattle.std.proofs.KnownBytes.{Consumes-kept, Consumes-trans, Appends-trans, Appends-kept}
use Rattle.dav_store.specs.Calls.{Reads}
use Rattle.dav_store.specs.Store.{Store}
use Rattle.dav_wire.specs.Batches.{batch_header}
use Rattle.dav_wire.specs.declared.batch.BatchHeader.{BatchHeader}
use Rattle.dav_server.specs.Batches.{BatchAnswer, Exchange, AnswersBatch}
use Rattle.dav_server.specs.Exchanges.{Skips, answer_bytes, bytes_in, bytes_out, InOrder, ExchangesBy, RunsBy, ReadsAndAnswers, Exchanges, Ends, StopsInside, Runs, StopsAfter}
use Rattle.dav_server.specs.State.{Rules, ServerState}

module _ {F : Type 0} (see_store : F → Store) (says : F → Reads) (rules : Rules) where
  -- the header of a batch was read, and then its content was read or skipped, and the batch was answered
  pub read_and_answered :
      (header : BatchHeader) (answer : BatchAnswer) (old new : ServerState) (input middle input' : Option (List ℕ)) (content : Option (Vec ℕ Global))
      → Consumes input middle (batch_header.encode header)
      → IfSome content (λ v. Consumes middle input' v.items) → IfSome content (λ v. length v.items ≡ header.length)
      → MatchOption content (Skips middle input' header.length) (λ _. ⊤)
      → ((bytes : List ℕ) → IfSome content (λ v. bytes ≡ v.items) → AnswersBatch see_store says rules header bytes answer old new)
      → ReadsAndAnswers see_store says rules answer old new input input'
  read_and_answered header answer old new input middle input' content first read all skipped answers = by_content content read all skipped answers
    where
      of_bytes : (bytes : List ℕ) → Consumes middle input' bytes → length bytes ≡ header.length → AnswersBatch see_store says rules header bytes answer old new
          → ReadsAndAnswers see_store says rules answer old new input input'
      of_bytes bytes others all answers =
          record {
            exchange = record { header = header; content = bytes; answer = answer };
            with_answer = refl;
            answered = record { length = all; answers = answers };
            read = Consumes-trans input middle input' (batch_header.encode header) bytes first others;
          }

      by_content : (content : Option (Vec ℕ Global)) → IfSome content (λ v. Consumes middle input' v.items) → IfSome content (λ v. length v.items ≡ header.length)
          → MatchOption content (Skips middle input' header.length) (λ _. ⊤)
          → ((bytes : List ℕ) → IfSome content (λ v. bytes ≡ v.items) → AnswersBatch see_store says rules header bytes answer old new)
          → ReadsAndAnswers see_store says rules answer old new input input'
      by_content None read all skipped answers = of_bytes skipped.bytes skipped.read skipped.all (answers skipped.bytes tt)
      by_content (Some v) read all skipped answers = of_bytes v.items read all (answers v.items refl)

  -- the bytes of an answer are those of its exchange
  pub answer_written :
      (answer : BatchAnswer) (old new : ServerState) (input input' output output' : Option (List ℕ))
      (h : ReadsAndAnswers see_store says rules answer old new input input') → Appends output output' (answer_bytes answer)
      → Appends output output' (bytes_out h.exchange)
  answer_written answer old new input input' output output' h written =
      subst (λ a. Appends output output' (answer_bytes a)) (sym h.with_answer) written

  -- the whole exchange
  pub exchanged :
      (answer : BatchAnswer) (old new : ServerState) (input input' output output' : Option (List ℕ))
      → ReadsAndAnswers see_store says rules answer old new input input' → Appends output output' (answer_bytes answer)
      → Exchanges see_store says rules old new input input' output output'
  exchanged answer old new input input' output output' h written =
      record { exchange = h.exchange; answered = h.answered; read = h.read; written = answer_written answer old new input input' output output' h written }

  -- the batch was answered, and then the output failed
  pub stopped :
      {T E : Type 0} (r : Result T E) (answer : BatchAnswer) (old new : ServerState) (input input' : Option (List ℕ))
      → ReadsAndAnswers see_store says rules answer old new input input' → OnErr r (StopsInside see_store says rules old new)
  stopped (Ok x) answer old new input input' h = tt
  stopped (Err e) answer old new input input' h = inr (h.exchange, h.answered)

-- ---- runs

pub none_read : (a : Option (List ℕ)) → Consumes a a []
none_read None = tt
none_read (Some bytes) = refl

pub none_written : (a : Option (List ℕ)) → Appends a a []
none_written None = tt
none_written (Some bytes) = sym (append-nil bytes)

module _ (Does : Exchange → ServerState → ServerState → Type 0) where
  -- exchanges, and then others
  pub InOrder-append :
      (xs ys : List Exchange) (old mid new : ServerState) → InOrder Does xs old mid → InOrder Does ys mid new → InOrder Does (xs ++ ys) old new
  InOrder-append [] ys old mid new same others = subst (λ (s : ServerState). InOrder Does ys s new) same others
  InOrder-append (x ∷ xs) ys old mid new (next, first, rest) others = (next, first, InOrder-append xs ys next mid new rest others)

module _ (Does : Exchange → ServerState → ServerState → Type 0) (Law : List Exchange → ServerState → ServerState → Type 0)
    (lawful : (exchanges : List Exchange) (old new : ServerState) → InOrder Does exchanges old new → Law exchanges old new) where
  -- no exchange yet
  unfoldable pub runs_none : (state : ServerState) (a u : Option (List ℕ)) → RunsBy Does Law state state a a u u
  runs_none state a u =
      record { exchanges = []; answered = refl; read = none_read a; written = none_written u; law = lawful [] state state refl }

  -- one more exchange
  unfoldable pub runs_more :
      (old mid new : ServerState) (a b c u v w : Option (List ℕ)) → RunsBy Does Law old mid a b u v
      → ExchangesBy Does mid new b c v w → RunsBy Does Law old new a c u w
  runs_more old mid new a b c u v w run more =
      let x = more.exchange in
      let all = InOrder-append Does run.exchanges (x ∷ []) old mid new run.answered (new, more.answered, refl) in
      record {
        exchanges = run.exchanges ++ x ∷ [];
        answered = all;
        read =
            subst (Consumes a c) (flat_map_more bytes_in [] run.exchanges x)
            (Consumes-trans a b c (flat_map bytes_in run.exchanges) (bytes_in x) run.read more.read);
        written =
            subst (Appends u w) (flat_map_more bytes_out [] run.exchanges x)
            (Appends-trans u v w (flat_map bytes_out run.exchanges) (bytes_out x) run.written more.written);
        law = lawful (run.exchanges ++ x ∷ []) old new all;
      }

  -- the input ends after a run
  unfoldable pub runs_end :
      (old mid new : ServerState) (a b c u v w : Option (List ℕ)) → RunsBy Does Law old mid a b u v
      → Ends mid new b c v w → RunsBy Does Law old new a c u w
  runs_end old mid new a b c u v w run end =
      record {
        exchanges = run.exchanges;
        answered = subst (InOrder Does run.exchanges old) (sym end.same) run.answered;
        read = Consumes-kept a b c (flat_map bytes_in run.exchanges) run.read end.none_read;
        written = Appends-kept u v w (flat_map bytes_out run.exchanges) run.written end.none_written;
        law = subst (Law run.exchanges old) (sym end.same) run.law;
      }

-- a stream fails after a run
pub runs_stopped :
    {F T E : Type 0} (see_store : F → Store) (says : F → Reads) (rules : Rules) (r : Result T E) (old mid new : ServerState) (a b u v : Option (List ℕ))
    → Runs see_store says rules old mid a b u v → StopsInside see_store says rules mid new → OnErr r (StopsAfter see_store says rules old new)
runs_stopped see_store says rules (Ok x) old mid new a b u v run inside = tt
runs_stopped see_store says rules (Err e) old mid new a b u v run inside =
    record { exchanges = run.exchanges; mid = mid; answered = run.answered; law = run.law; stopped = inside }
