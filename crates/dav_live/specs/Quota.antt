-- The store's quota, as it is reported for a resource (RFC 4331, sections 3 and 4). That a resource below the root counts with its own length is this
-- project's own choice.
use Rattle.std.specs.Prelude.{ℕ, ◌-◌, if◌then◌else◌, List, [], ◌∷◌, Option}
use Rattle.std.specs.Option.{option_map, option_and_then}
use Rattle.std.specs.Fmt.{decimal}
use Rattle.dav_key.specs.Key.{Key}
use Rattle.dav_resource.specs.declared.meta.Meta.{Meta}
use Rattle.dav_live.specs.Viewing.{Asker, names_webdavfs}
use Rattle.dav_live.specs.Texts.{zero_padded}

-- at the root all that the store uses, elsewhere the resource's own length
abbrev pub used_bytes : ℕ → Key → Meta → ℕ
used_bytes used [] meta = used
used_bytes used (segment ∷ key) meta = meta.len

-- the total less `used_bytes`, at least 0
abbrev pub available_text : Asker → Key → Meta → Option (List ℕ)
available_text asker key meta = option_and_then (λ quota. option_map (λ total. decimal (total - used_bytes quota.0 key meta)) quota.1) asker.quota

-- the bytes used, for the macOS file system with at least 14 digits
abbrev pub used_text : Asker → Key → Meta → Option (List ℕ)
used_text asker key meta =
    option_map (λ quota.
    let used = decimal (used_bytes quota.0 key meta) in
    if names_webdavfs asker.user_agent then zero_padded 14 used else used) asker.quota
