use Rattle.std.proofs.Common.{◌≡◌, map, ◌++◌}
use Rattle.http_header.specs.HeaderMap.{pairs}
use Rattle.dav_wire.specs.Views.{field_of as borrowed_field}
use Rattle.dav_server.specs.Replies.{field_of}
use Rattle.dav_server.proofs.replies.fields_of.Given as goal

abbrev pub invariant-loop-name : goal.invariant-loop-name
invariant-loop-name l = map borrowed_field l.fields.items ++ map field_of l.name-iterator ≡ map field_of (pairs l.headers)
