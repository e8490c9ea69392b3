-- Header fields.
use Rattle.std.specs.Prelude.{ℕ, List}
use Rattle.dav_wire.specs.Codec.{Codec}
use Rattle.dav_wire.specs.Combine.{pair}
use Rattle.dav_wire.specs.Values.{text, list}

-- a name and its value
unfoldable pub field : Codec (List ℕ × List ℕ)
field = pair text text

-- header fields in order
unfoldable pub fields : Codec (List (List ℕ × List ℕ))
fields = list field
