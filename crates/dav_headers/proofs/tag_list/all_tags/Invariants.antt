use Rattle.std.proofs.Common.{◌≡◌, ◌++◌, flat_map}
use Rattle.dav_headers.specs.TagList.{value_tags}
use Rattle.dav_headers.proofs.tag_list.all_tags.Given as goal

abbrev pub invariant-loop-value : goal.invariant-loop-value
invariant-loop-value l =
    l.tags.items ++ flat_map value_tags l.value-iterator ≡ flat_map value_tags l.initial.value-iterator
