use Rattle.std.proofs.Common.{◌≡◌, ◌∙◌, Some, None, [], sym}
use Rattle.dav_tree.proofs.Soundness.{directory-is, is-directory}
use Rattle.dav_tree.proofs.entries.soundness.is_directory_at.Goals as goal

pub returns-in-Some-clause-sound : goal.returns-in-Some-clause-sound
returns-in-Some-clause-sound g c = λ is key at e there. directory-is c.in-Some.entry.now e c.is_directory.result (c.is_directory.ensures (λ _. [])) is (c.in-Some.ensures key at ∙ there)

pub returns-in-Some-clause-passes : goal.returns-in-Some-clause-passes
returns-in-Some-clause-passes g c = λ key at each.
    is-directory c.in-Some.entry.now c.is_directory.result (c.is_directory.ensures (λ _. [])) (each c.in-Some.entry.now (sym (c.in-Some.ensures key at)))

pub returns-in-None-clause-sound : goal.returns-in-None-clause-sound
returns-in-None-clause-sound g c = λ _ key at e there. absurd (let clash : None ≡ Some e = c.in-None.ensures key at ∙ there in cc)
