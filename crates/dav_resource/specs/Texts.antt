-- The bytes of each string of a list, as a key: this project's own choice.
use Rattle.std.specs.Prelude.{List, map, string_bytes, String}
use Rattle.std.specs.declared.alloc.Global.{Global}
use Rattle.dav_key.specs.Key.{Key}

abbrev pub texts : List (String Global) → Key
texts ss = map string_bytes ss
