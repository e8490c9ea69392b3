-- Elements as bytes, with a limit on their levels: this project's own choice.
use Rattle.std.specs.Prelude.{ℕ, ◌<◌}
use Rattle.dav_resource.specs.Tree.{Tree}
use Rattle.dav_wire.specs.Codec.{Codec}
use Rattle.dav_wire.specs.Trees.{tree}
use Rattle.dav_wire.specs.TreeLaws.{tree_levels}

-- how many levels of elements an element may have
abbrev pub element_levels : ℕ
element_levels = 256

-- an element of at most so many levels
abbrev pub element_codec : Codec Tree
element_codec = tree element_levels

-- the element has more levels
abbrev pub IsTooDeep : Tree → Type 0
IsTooDeep x = element_levels < tree_levels x
