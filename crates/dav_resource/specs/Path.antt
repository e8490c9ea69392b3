-- What contracts see of a `DavPath`: this project's own choice.
use Rattle.dav_resource.specs.PathText.{PathValue, IsPathValue}
use Rattle.dav_resource.specs.declared.path.DavPath.TheInside.{Inside}

-- the fields as the value of a path
abbrev pub path_of : Inside → PathValue
path_of p = record { star = p.star; slash = p.slash; prefix = p.prefix; key = p.key }

-- the invariant of every path
abbrev pub IsPath : Inside → Type 0
IsPath p = IsPathValue (path_of p)
