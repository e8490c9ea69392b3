-- What contracts see of the paths of a call: this project's own choice.
use Rattle.std.specs.Prelude.{List, []}
use Rattle.dav_resource.specs.PathText.{PathValue}
use Rattle.dav_resource.specs.declared.paths.Held.{Held}
use Rattle.dav_resource.specs.declared.paths.Held.TheVariants.{None, One, Two}

-- the paths, in order
abbrev pub paths_in : Held → List PathValue
paths_in None = []
paths_in (One path) = path
paths_in (Two paths) = paths
