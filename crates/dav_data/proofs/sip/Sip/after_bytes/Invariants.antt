use Rattle.std.proofs.Common.{◌≡◌, take}
use Rattle.std.specs.Hash.DefaultHasher.{write}
use Rattle.dav_data.specs.Sip.{hasher_of}
use Rattle.dav_data.proofs.sip.Sip.after_bytes.Given as goal

abbrev pub invariant-loop-byte : goal.invariant-loop-byte
invariant-loop-byte l = hasher_of l.state ≡ write (hasher_of l.fn.self) (take l.byte-index l.bytes)
