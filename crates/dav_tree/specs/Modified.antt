-- What contracts see of a store in which a resource gets another time of modification: this project's own choice.
use Rattle.std.specs.Prelude.{◌≡◌, ◌≢◌, ℕ, if◌then◌else◌, Option, Some, None, option_map}
use Rattle.std.specs.FinMap.{get}
use Rattle.dav_key.specs.Key.{Key, is_same_key}
use Rattle.dav_resource.specs.declared.meta.Meta.{Meta}
use Rattle.dav_store.specs.Store.{Store}

-- the metadata with this time of modification
abbrev pub modified_meta : ℕ → Meta → Meta
modified_meta time meta = record meta { modified = Some time }

-- the metadata of each key: that of this key has this time, and that of the others is as it was
abbrev pub modified_metas : Key → ℕ → (Key → Option Meta) → Key → Option Meta
modified_metas key time metas other = if is_same_key other key then option_map (modified_meta time) (metas other) else metas other

-- there is a resource at the key, its metadata gets this time, and nothing else changes
pub record SetsModified (key : Key) (time : ℕ) (old new : Store) : Type 0 where
  pub there : get old.contents.tree key ≢ None
  pub changed : new ≡ record old { contents = record old.contents { metas = modified_metas key time old.contents.metas } }
