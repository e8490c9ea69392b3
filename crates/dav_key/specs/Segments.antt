-- What contracts see of a `Segments`: this project's own choice.
use Rattle.dav_key.specs.Key.{Key}
use Rattle.dav_key.specs.Flat.{segments_of, IsFlatText}
use Rattle.dav_key.specs.declared.segments.Segments.TheInside.{Inside}

-- the segments of the text that is left
abbrev pub segments_left : Inside → Key
segments_left s = segments_of s.rest.now

-- the invariant of every `Segments`: the text that is left is that of a key
abbrev pub IsLeft : Inside → Type 0
IsLeft s = IsFlatText s.rest.now
