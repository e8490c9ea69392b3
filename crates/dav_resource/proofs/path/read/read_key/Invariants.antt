use Rattle.std.proofs.Common.{◌≡◌, [], drop, length}
use Rattle.std.specs.List.{slice_split}
use Rattle.dav_resource.specs.PathText.{is_slash, enter_parts, IsKey}
use Rattle.dav_resource.proofs.path.read.read_key.Given as goal

-- the parts that are left lead to the same result
abbrev pub invariant-loop-part : goal.invariant-loop-part
invariant-loop-part l =
    (enter_parts l.key (drop (length l.yielded) (slice_split is_slash l.text)) ≡ enter_parts [] (slice_split is_slash l.text))
    × IsKey l.key
