-- What contracts see of a store with its tree in memory.
use Rattle.std.specs.Prelude.{◌≡◌, ℕ, Bool, List, map, Option, Some, Result}
use Rattle.std.specs.FinMap.{get}
use base.Stored.{Gv}
use Rattle.dav_key.specs.Key.{Key}
use Rattle.dav_resource.specs.declared.error.FsError.{FsError}
use Rattle.dav_resource.specs.declared.record.Record.{Record}
use Rattle.dav_store.specs.Logged.{logged_of}
use Rattle.dav_store.specs.Calls.{Reads}
use Rattle.dav_store.specs.Store.{Store}
use Rattle.dav_store.specs.BodyCalls.{stored_bytes}
use Rattle.dav_tree.specs.Memory.{Memory, seen_of, file_bytes, marked}
use Rattle.dav_tree.specs.MemoryCalls.{Gives, Yields, GivesOver}
use Rattle.dav_tree.specs.Kept.{held_of}
use Rattle.dav_tree.specs.declared.medium.Medium.{Ghosts}
use Rattle.dav_tree.specs.declared.tree_fs.TreeFs.{TreeFs}

module _ {M B : Type 0} {g : Ghosts M B} where
  abbrev pub memory_of : TreeFs M B g → Memory
  memory_of store =
      record {
        resources = store.entries.resources;
        version = store.version;
        moment = store.moment;
        limit = store.limit;
        tag_part = store.tag_part;
        marks = store.marks_parents;
        held = held_of store.entries;
      }

  -- the directory with this number is marked
  abbrev pub MarksAt : ℕ → TreeFs M B g → TreeFs M B g → Type 0
  MarksAt number old new = (key : Key) → get old.entries.numbers key ≡ Some number → memory_of new ≡ marked key (memory_of old)

  -- the bytes of the body of a number, none if there is no such body
  abbrev pub body_of : TreeFs M B g → ℕ → List ℕ
  body_of store number = stored_bytes (memory_of store).held.bodies number

  -- its records, the oldest first
  abbrev pub records_of : TreeFs M B g → List Record
  records_of store = store.log.items

  -- the store as the engine sees it
  abbrev pub store_of : TreeFs M B g → Store
  store_of store = seen_of (memory_of store) (map logged_of store.log.items)

  -- the tree of entries when it was last asked what has changed, with its resources (`past_code`)
  abbrev pub before_of : TreeFs M B g → Gv
  before_of store = (memory_of store).held.before

  -- that tree when it was asked before that, unless the medium was swept since
  abbrev pub older_of : TreeFs M B g → Gv
  older_of store = store.entries.older

  -- the tree of entries (`entries_code`)
  abbrev pub entries_of : TreeFs M B g → Gv
  entries_of store = store.entries.tree

  -- the bytes of the file at a key
  abbrev pub file_of : TreeFs M B g → Key → List ℕ
  file_of store key = file_bytes key (memory_of store).resources

  module _ {A : Type 0} (error : Memory → Option FsError) where
    -- the answer of a call that does not reach the medium, with this error or this change (`Gives`)
    abbrev pub GivesIn : (Memory → Memory) → TreeFs M B g → Result A FsError → TreeFs M B g → Type 0
    GivesIn change old answer new = Gives (error (memory_of old)) change (memory_of old) answer (memory_of new)

    -- the same, where the change is one of several
    abbrev pub YieldsIn : (Memory → Memory → Type 0) → TreeFs M B g → Result A FsError → TreeFs M B g → Type 0
    YieldsIn Becomes old answer new = Yields (error (memory_of old)) Becomes (memory_of old) answer (memory_of new)

    -- the answer of a call that reaches the medium (`GivesOver`)
    abbrev pub GivesOverIn : (Memory → Memory) → TreeFs M B g → Result A FsError → TreeFs M B g → Type 0
    GivesOverIn change old answer new = GivesOver g.refuses (error (memory_of old)) change (memory_of old) answer (memory_of new)

  -- its reads so far have returned what was written
  abbrev pub honest_of : TreeFs M B g → Bool
  honest_of store = store.entries.honest

  -- nothing below it has failed, and this is so
  abbrev pub faultless_of : TreeFs M B g → Bool
  faultless_of store = store.entries.faultless

  -- the bytes that a crash leaves of all that its medium holds, if it leaves no others
  abbrev pub settled_of : TreeFs M B g → Option (List ℕ)
  settled_of store = store.entries.settled

  -- what its medium says of a read, right after that
  abbrev pub reads_of : TreeFs M B g → Reads
  reads_of store = record { reading = g.reading (honest_of store); may_fail = g.may_fail (faultless_of store) }
