use Rattle.std.proofs.Common.{◌≡◌, true, false, refl}
use Rattle.dav_nodes.specs.Rows.{row_in}
use Rattle.dav_tree.proofs.Soundness.{sound-nowhere, sound-row, row-name, row-above, row-named}
use Rattle.dav_tree.proofs.entries.soundness.is_sound_at.Goals as goal

pub returns-in_default-clause-sound : goal.returns-in_default-clause-sound
returns-in_default-clause-sound g c = λ _. sound-nowhere c.args.nodes.now c.show_linked.ensures.numbered c.args.number (c.in_default.ensures.none refl)

pub returns-then-not-is_name-clause-passes : goal.returns-then-not-is_name-clause-passes
returns-then-not-is_name-clause-passes g c = λ sound.
    let row = row_in c.in-Some.placed in
    absurd (let clash : false ≡ true = c.if-not-is_name.ensures.passes (row-name c.args.nodes.now c.args.number c.in-Some.placed.above row refl c.in-Some.ensures.some sound) in cc)

pub returns-then-not-is_directory_at-clause-passes : goal.returns-then-not-is_directory_at-clause-passes
returns-then-not-is_directory_at-clause-passes g c = λ sound.
    let row = row_in c.in-Some.placed in
    let above = row-above c.args.nodes.now c.args.number c.in-Some.placed.above row refl c.in-Some.ensures.some sound in
    absurd (let clash : false ≡ true = c.if-not-is_directory_at.ensures.passes above.0 above.1 above.2 in cc)

pub returns-clause-sound : goal.returns-clause-sound
returns-clause-sound g c = λ is.
    sound-row c.args.nodes.now c.args.number c.in-Some.placed.above (row_in c.in-Some.placed) refl c.in-Some.ensures.some c.show_linked.ensures.distinct
    (c.if-not-is_name.ensures.sound refl) (c.if-not-is_directory_at.ensures.sound refl) (c.are_named.ensures.named is)

pub returns-clause-passes : goal.returns-clause-passes
returns-clause-passes g c = λ sound.
    c.are_named.ensures.passes (row-named c.args.nodes.now c.args.number c.in-Some.placed.above (row_in c.in-Some.placed) refl c.in-Some.ensures.some sound)
