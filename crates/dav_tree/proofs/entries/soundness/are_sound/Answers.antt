use Rattle.dav_tree.proofs.Soundness.{sound-keys, keys-sound}
use Rattle.dav_tree.proofs.entries.soundness.are_sound.Goals as goal

pub returns-clause-sound : goal.returns-clause-sound
returns-clause-sound g c = λ is bytes.
    sound-keys bytes c.args.nodes.now c.show_root.ensures c.show_linked.ensures.joined c.show_linked.ensures.numbered (c.are_keys_sound.ensures.sound is)

pub returns-clause-passes : goal.returns-clause-passes
returns-clause-passes g c = λ bytes sound.
    c.are_keys_sound.ensures.passes (keys-sound bytes c.args.nodes.now c.show_root.ensures c.show_linked.ensures.joined c.show_linked.ensures.numbered sound)
