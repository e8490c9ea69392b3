use Rattle.dav_keep.proofs.Reaches.{IsEndOf, value_below, value_higher}
use Rattle.dav_keep.proofs.ends.end_of.Given as goal

abbrev pub invariant-values : goal.invariant-values
invariant-values l = IsEndOf value_below value_higher l.values l.value-index l.end
