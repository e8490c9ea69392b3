-- The locks permit each change that a request makes to a file, a directory or a dead property, except the empty file of a LOCK (RFC 4918, section 7).
use Rattle.std.specs.Prelude.{◌≡◌, ◌≢◌, ◌⊎◌, true, false, [], Option, Some, None}
use Rattle.std.specs.FinMap.{get}
use Rattle.dav_key.specs.Key.{Key}
use Rattle.dav_resource.specs.declared.method.DavMethod.{DavMethod}
use Rattle.dav_resource.specs.declared.method.DavMethod.TheVariants.{Lock}
use Rattle.dav_resource.specs.declared.request.DavRequest.{DavRequest}
use Rattle.dav_store.specs.Store.{Contents, File}
use Rattle.dav_store.specs.Locks.{is_at_or_below}
use Rattle.dav_engine.specs.State.{State}
use Rattle.dav_engine.specs.Rules.{is_permitted}

-- what is at the key differs: the file (with its bytes) or directory, or the dead properties
abbrev pub IsChanged : Key → Contents → Contents → Type 0
IsChanged key old new = (get old.tree key ≢ get new.tree key) ⊎ (get old.properties key ≢ get new.properties key)

-- the locks permit the request to write at the key itself, or at and below some key that is the key or above it
abbrev pub IsPermitted : DavRequest → State → Key → Type 0
IsPermitted request state key =
    (is_permitted request state key false ≡ true) ⊎ ((top : Key) × (is_at_or_below key top ≡ true) × (is_permitted request state top true ≡ true))

-- the empty file that a LOCK creates at its own path, where nothing existed (RFC 4918, section 7.3)
pub record IsLockedFile (method : Option DavMethod) (request : DavRequest) (key : Key) (old new : Contents) : Type 0 where
  pub locks : method ≡ Some Lock
  pub here : key ≡ request.path.key
  pub nothing : get old.tree key ≡ None
  pub empty : get new.tree key ≡ Some (File [])

-- for each key that changed, the locks before the request permit it, or the change is such a file
abbrev pub IsGuarded : Option DavMethod → DavRequest → State → State → Type 0
IsGuarded method request old new = (key : Key) → IsChanged key old.contents new.contents → IsPermitted request old key ⊎ IsLockedFile method request key old.contents new.contents
