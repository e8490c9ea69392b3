-- What a later read returns, over a store that always returns the bytes of a file, as a store in memory does.
use Rattle.std.proofs.Common.{ℕ, List}
use Rattle.dav_store.specs.Calls.{Reads, are_exact, exact_reads}
use Rattle.dav_store.specs.Store.{Store}
use Rattle.dav_wire.specs.Frames.{ReadValue}
use Rattle.dav_wire.specs.Replies.{ReplyValue, Part, Failed}
use Rattle.dav_engine.specs.Settings.{Settings}
use Rattle.dav_server.specs.Batches.{Exchange}
use Rattle.dav_server.specs.Events.{Action}
use Rattle.dav_server.specs.Guarantees.{WritesAndReads, IsReplyFrom, written_by, joined, AreOneRun}
use Rattle.dav_server.specs.State.{Rules, ServerState, settings_at}

-- in each state of the store, what it has read is what the file has
abbrev pub IsAlwaysExact : {F : Type 0} → (F → Reads) → Type 0
IsAlwaysExact {F} says = (store : F) (bytes : List ℕ) (place count : ℕ) (read : List ℕ) → (says store).reading bytes place count read → are_exact bytes place count read

-- what a PUT of a whole file wrote is what a later read returns
abbrev pub AlwaysReadsBack : Settings → List Action → Type 0
AlwaysReadsBack settings actions = (h : WritesAndReads settings actions) → IsReplyFrom exact_reads (written_by settings actions h) h.asked h.reply

module _ {F : Type 0} (see_store : F → Store) (says : F → Reads) (Stays : Store → Store → Type 0) (rules : Rules) (always : IsAlwaysExact says) where
  exactly : (store : F) (bytes : List ℕ) (asked : ReadValue) (reply : ReplyValue) → IsReplyFrom (says store) bytes asked reply → IsReplyFrom exact_reads bytes asked reply
  exactly store bytes asked (Part part) is = record { whole = is.whole; count = is.count; answer = always store bytes asked.place asked.length part.bytes is.answer }
  exactly store bytes asked (Failed status) is = is
  exactly store bytes asked reply is = absurd is

  -- a run over a store that is always exact returns the bytes that were written, whatever else happens
  pub always_reads_back : (exchanges : List Exchange) (old new : ServerState) (run : AreOneRun see_store says Stays rules exchanges old new)
      → AlwaysReadsBack (settings_at rules old.seen) (joined run.actions)
  always_reads_back exchanges old new run h = let back = run.reads_back h in exactly back.0 _ h.asked h.reply back.1
