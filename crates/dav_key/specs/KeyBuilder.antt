-- What contracts see of a `KeyBuilder`: this project's own choice.
use Rattle.std.specs.Prelude.{string_bytes}
use Rattle.dav_key.specs.Key.{Key}
use Rattle.dav_key.specs.Flat.{segments_of, IsFlatText}
use Rattle.dav_key.specs.declared.builder.KeyBuilder.TheInside.{Inside}

-- the segments of the text
abbrev pub built_key : Inside → Key
built_key b = segments_of (string_bytes b.text)

-- the invariant of every `KeyBuilder`: its text is that of a key
abbrev pub IsBuilt : Inside → Type 0
IsBuilt b = IsFlatText (string_bytes b.text)
