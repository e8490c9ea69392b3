use Rattle.std.proofs.Common.{◌∙◌, ◌==◌, inl, inr, sym, ap, length, slice_index, Some}
use Rattle.std.specs.List.{list_all}
use Rattle.std.proofs.lemmas.Bool.{and_parts}
use Rattle.dav_rules.specs.Rules.{is_path_byte}
use Rattle.dav_rules.proofs.Places.{key_of-exact, key_of-fewer, key_of-failed}
use Rattle.dav_rules.proofs.place.read_path.Goals as goal

pub returns-in_ok-clone-in-Ok : goal.returns-in_ok-clone-in-Ok
returns-in_ok-clone-in-Ok c =
    let text = c.args.text.now in
    let whole = and_parts (slice_index text 0 == 47) (list_all is_path_byte text) (sym c.if-not-is_whole_path.ensures) in
    let same = sym (ap length c.key.ensures.value) ∙ sym c.segment_count.ensures ∙ c.if-segment_count-part_count.true ∙ c.part_count.ensures in
    key_of-exact text whole.0 whole.1 c.in-Ok.path c.in-Ok.ensures same ∙ ap Some (sym c.key-in-Ok.ensures.value ∙ sym c.in_ok-clone-in-Ok.ensures)

pub returns-in-Ok-2 : goal.returns-in-Ok-2
returns-in-Ok-2 c =
    let text = c.args.text.now in
    let whole = and_parts (slice_index text 0 == 47) (list_all is_path_byte text) (sym c.if-not-is_whole_path.ensures) in
    inl (key_of-fewer text whole.0 whole.1 c.in-Ok.path c.in-Ok.ensures
    (λ same. c.if-segment_count-part_count.false (c.segment_count.ensures ∙ ap length c.key.ensures.value ∙ same ∙ sym c.part_count.ensures)))

pub returns-in-Err : goal.returns-in-Err
returns-in-Err c =
    let text = c.args.text.now in
    let whole = and_parts (slice_index text 0 == 47) (list_all is_path_byte text) (sym c.if-not-is_whole_path.ensures) in
    elim c.in-Err.ensures [
      | inl fails ↦ inl (key_of-failed text whole.0 whole.1 c.in-Err.error fails)
      | inr memory ↦ inr (c.fault_of.ensures memory)
    ]
