use Rattle.std.proofs.Common.{◌≡◌, map, take}
use Rattle.dav_wire.specs.Views.{field_of}
use Rattle.dav_server.specs.Requests.{headers_of}
use Rattle.dav_server.proofs.requests.read_headers.Given as goal

abbrev pub invariant-loop-name : goal.invariant-loop-name
invariant-loop-name l = l.headers ≡ headers_of (map field_of (take l.name-index l.fields))
