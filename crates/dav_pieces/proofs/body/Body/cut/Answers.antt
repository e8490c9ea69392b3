use Rattle.std.proofs.Common.{◌∙◌}
use Rattle.dav_pieces.proofs.body.Body.cut.Goals as goal

pub returns-clause-bytes : goal.returns-clause-bytes
returns-clause-bytes c = let is = c.deref.ensures.value ∙ c.self.view_is in rw is at c.cut.ensures.bytes

pub returns-clause-sound : goal.returns-clause-sound
returns-clause-sound c = let is = c.deref.ensures.value ∙ c.self.view_is in rw is at c.cut.ensures.sound
