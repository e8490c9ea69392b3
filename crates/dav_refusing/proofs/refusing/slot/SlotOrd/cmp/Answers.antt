use Rattle.std.proofs.Common.{◌∙◌, sym}
use Rattle.std.specs.Ordering.{nat_cmp, ordering_then}
use Rattle.std.specs.Cmp.Lexicographic.{slice_cmp}
use Rattle.dav_key.specs.FlatLaws.{flat_cmp}
use Rattle.dav_refusing.specs.Slots.{slot_key}
use Rattle.dav_refusing.proofs.Planning.{place-tag}
use Rattle.dav_refusing.proofs.refusing.slot.SlotOrd.cmp.Goals as goal

pub returns : goal.returns
returns c =
    let kinds = c.cmp.ensures ∙ (λ i. nat_cmp (sym (place-tag c.args.self.now.op) i) (sym (place-tag c.args.other.now.op) i)) in
    let keys = c.cmp-2.ensures ∙ (λ i. slice_cmp nat_cmp (c.key_str.ensures.text i) (c.key_str-2.ensures.text i)) ∙ flat_cmp (slot_key c.args.self.now) (slot_key c.args.other.now) c.key_str.ensures.key c.key_str-2.ensures.key in
    c.then.ensures ∙ (λ i. ordering_then (kinds i) (keys i))
