use Rattle.std.proofs.lemmas.Bool.Decides.{same_from_decides}
use Rattle.dav_key.specs.Key.{same_key_decides}
use Rattle.dav_engine.proofs.transfer.is_same_place.Goals as goal

pub returns : goal.returns
returns c = same_from_decides _ _ c.same_key.ensures (same_key_decides _ _)
