-- The paths that are made from a path are paths.
use Rattle.std.proofs.Common.{◌-◌, ap, length}
use Rattle.dav_resource.specs.PathText.{PathValue, IsPathValue}
use Rattle.dav_resource.specs.PathForms.{parent_path, prefixed}
use Rattle.dav_resource.proofs.KeyLemmas.{IsKey-take, IsKey-append}

pub IsPathValue-parent : (path : PathValue) → IsPathValue path → IsPathValue (parent_path path)
IsPathValue-parent path is =
    record { prefix = is.prefix; key = IsKey-take (length path.key - 1) path.key is.key; star = λ e. ap parent_path (is.star e) }

pub IsPathValue-prefixed : (path : PathValue) → IsPathValue path → IsPathValue (prefixed path)
IsPathValue-prefixed path is =
    record { prefix = tt; key = IsKey-append path.prefix path.key is.prefix is.key; star = λ e. ap prefixed (is.star e) }
