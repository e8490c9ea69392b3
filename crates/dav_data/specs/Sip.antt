-- The hash of this crate as the standard library's `DefaultHasher`, SipHash-1-3.
use Rattle.std.specs.Prelude.{◌≡◌, ◌%◌}
use Rattle.std.specs.declared.hash.DefaultHasher.{DefaultHasher}
use Rattle.dav_data.specs.declared.sip.Sip.{Sip}

-- the standard library's hasher with this state
abbrev pub hasher_of : Sip → DefaultHasher
hasher_of s = record { v0 = s.v0; v1 = s.v1; v2 = s.v2; v3 = s.v3; tail = s.tail; length = s.length }

-- the hash has whole words only: no byte waits for the rest of its word
pub record IsWhole (s : Sip) : Type 0 where
  pub words : s.length % 8 ≡ 0
  pub none : s.tail ≡ 0
