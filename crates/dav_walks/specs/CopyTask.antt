-- What is copied: the words of a `CopyTask`, this project's own choice.
use Rattle.std.specs.Prelude.{◌≡◌, List, Result, Ok}
use Rattle.dav_resource.specs.declared.error.DavError.{DavError}
use Rattle.dav_resource.specs.declared.request.Depth.{Depth}
use Rattle.dav_store.specs.Store.{Store, Contents}
use Rattle.dav_messages.specs.Multistatus.{Item}
use Rattle.dav_walks.specs.Copied.{Copying}
use Rattle.dav_walks.specs.CopyFrames.{CopiesWhole, BreaksOffCopy}
use Rattle.dav_walks.specs.Copying.{HasRoom}
use Rattle.dav_walks.specs.declared.copying.CopyTask.{CopyTask}

-- nothing was called or reported, and nothing changed
abbrev pub DoesNothing : Store → Store → List Item → List Item → Result (Unit {0}) DavError → Type 0
DoesNothing old new had has answer = (answer ≡ Ok tt) × (new ≡ old) × (has ≡ had)

module _ {C : Type 0} where
  -- the source is its own destination
  abbrev pub IsOntoItself : CopyTask C → Type 0
  IsOntoItself task = task.source.now.key ≡ task.topdest.now.key

  -- the source exists, and there is room at the destination (`HasRoom`)
  abbrev pub HasRoomFor : CopyTask C → Contents → Type 0
  HasRoomFor task contents = HasRoom task.source.now.key task.topdest.now.key task.dest.now.key contents

  -- the copy came to its end, or was stopped because memory ran out (`Copying`)
  abbrev pub CopiesTask : CopyTask C → Store → Store → List Item → List Item → Result (Unit {0}) DavError → Type 0
  CopiesTask task = Copying task.depth task.source.now task.dest.now task.topdest.now.key

  -- the copy came to its end, with this Depth
  abbrev pub CopiesToDepth : Depth → CopyTask C → Store → Store → List Item → List Item → Type 0
  CopiesToDepth depth task = CopiesWhole depth task.source.now task.dest.now task.topdest.now.key

  -- the copy with this Depth was stopped because memory ran out
  abbrev pub BreaksOffAtDepth : Depth → CopyTask C → Store → Store → List Item → List Item → Type 0
  BreaksOffAtDepth depth task = BreaksOffCopy depth task.source.now task.dest.now task.topdest.now.key
