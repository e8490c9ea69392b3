use Rattle.std.proofs.Common.{inl}
use Rattle.dav_data.proofs.Causes.{failure-here}
use Rattle.dav_data.proofs.data_file.DataFile.add_block.Goals as goal

pub returns-in-Err-clause-cause : goal.returns-in-Err-clause-cause
returns-in-Err-clause-cause g c = failure-here _ _ c.in-Err.error _ c.failure.ensures.value c.in-Err.ensures.err (inl c.in-Err.ensures.room)
