-- Locks as bytes: this project's own choice.
use Rattle.std.specs.Prelude.{ℕ, Bool, ◌<◌, List, Option, refl}
use Rattle.dav_resource.specs.Tree.{Tree}
use Rattle.dav_resource.specs.PathText.{PathValue}
use Rattle.dav_store.specs.declared.lock.DavLock.{DavLock}
use Rattle.dav_wire.specs.Codec.{Codec}
use Rattle.dav_wire.specs.Combine.{pair, as_type}
use Rattle.dav_wire.specs.Numbers.{number}
use Rattle.dav_wire.specs.Values.{utf8_text, flag, optional}
use Rattle.dav_wire.specs.Levels.{optional_levels}
use Rattle.dav_cells.specs.Elements.{element_levels, element_codec}
use Rattle.dav_cells.specs.Paths.{path_codec, kept_path}

abbrev pub LockParts : Type 0
LockParts = List ℕ × (PathValue × (Option (List ℕ) × (Option ℕ × (Option ℕ × (Bool × (Bool × Option Tree))))))

abbrev pub lock_of : LockParts → DavLock
lock_of p =
    record {
      token = p.0;
      path = p.1.0;
      principal = p.1.1.0;
      owner = p.1.1.1.1.1.1.1;
      timeout = p.1.1.1.0;
      timeout_at = p.1.1.1.1.0;
      shared = p.1.1.1.1.1.0;
      deep = p.1.1.1.1.1.1.0;
    }

abbrev pub parts_of_lock : DavLock → LockParts
parts_of_lock l = (l.token, (l.path, (l.principal, (l.timeout, (l.timeout_at, (l.shared, (l.deep, l.owner)))))))

-- the token, the path, the principal, the timeout and its end, whether it is shared, whether it is deep, and the owner
unfoldable pub lock_codec : Codec DavLock
lock_codec =
    as_type
    (pair utf8_text (pair path_codec (pair (optional utf8_text) (pair (optional number) (pair (optional number) (pair flag (pair flag (optional element_codec))))))))
    lock_of parts_of_lock (λ p. refl) (λ l. refl)

-- the owner has more levels than an element in a cell may have
abbrev pub IsOwnerTooDeep : Option Tree → Type 0
IsOwnerTooDeep owner = element_levels < optional_levels owner

-- the lock, where the path of the root has its trailing slash
abbrev pub kept_lock : DavLock → DavLock
kept_lock l = record l { path = kept_path l.path }
