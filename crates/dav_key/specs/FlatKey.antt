-- What contracts see of a `FlatKey`: this project's own choice.
use Rattle.std.specs.Prelude.{◌≡◌}
use Rattle.std.specs.Rc.{rc_str_bytes}
use Rattle.dav_key.specs.Key.{Key}
use Rattle.dav_key.specs.Flat.{segments_of, length_above, IsFlatText}
use Rattle.dav_key.specs.declared.flat_key.FlatKey.TheInside.{Inside}

-- the segments of the text
abbrev pub key_of : Inside → Key
key_of k = segments_of (rc_str_bytes k.text)

-- the invariant of every `FlatKey`: its text is that of a key, and `above` is the length of the parent's text
pub record IsFlatInside (k : Inside) : Type 0 where
  pub text : IsFlatText (rc_str_bytes k.text)
  pub above : k.above ≡ length_above (key_of k)
