-- What exists at the path of a read.
use Rattle.std.specs.Prelude.{◌≡◌, ℕ, Some, Result, Ok, Err}
use Rattle.std.specs.FinMap.{get}
use Rattle.dav_key.specs.Key.{Key}
use Rattle.dav_store.specs.Calls.{Reads}
use Rattle.dav_store.specs.Store.{Contents, Directory}
use Rattle.dav_guarding.specs.Policy.{Refusals}
use Rattle.dav_wire.specs.Frames.{ReadValue}
use Rattle.dav_wire.specs.Replies.{ReplyValue}
use Rattle.dav_wire.specs.Replies as replies
use Rattle.dav_server.specs.Parts.{MayList, MayRead, ReturnsPart, part_with}
use Rattle.dav_server.specs.declared.parts.Found.{Found}
use Rattle.dav_server.specs.declared.parts.Found.TheVariants.{Collection, Part}

-- a collection, or a file of the requested version and the requested part of it
abbrev pub Finds : Refusals → Reads → Contents → Key → ReadValue → Found → Type 0
Finds refuses said contents key asked Collection = MayList refuses key × (get contents.tree key ≡ Some Directory)
Finds refuses said contents key asked (Part meta bytes) = MayRead refuses key × ReturnsPart said contents key asked (part_with key meta bytes.items)

-- the reply to a read at this key that found this, or that failed with this status
abbrev pub found_reply : Key → Result Found ℕ → ReplyValue
found_reply key (Ok Collection) = replies.Collection
found_reply key (Ok (Part meta bytes)) = replies.Part (part_with key meta bytes.items)
found_reply key (Err status) = replies.Failed status
