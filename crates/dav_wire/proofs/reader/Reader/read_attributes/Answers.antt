use Rattle.std.proofs.Common.{◌≡◌, ◌∙◌, ap, sym, map, option_map, string_bytes, arith, Some, true, false, ℕ, List}
use Rattle.dav_resource.specs.Element.{text_pair}
use Rattle.dav_resource.specs.Tree.{put_attribute}
use Rattle.dav_resource.proofs.ElementLemmas.{text_pairs-insert}
use Rattle.dav_wire.specs.Numbers.{number}
use Rattle.dav_wire.specs.Trees.{attribute, attributes, may_follow}
use Rattle.dav_wire.proofs.ReadLemmas.{fails_allocating, fails_allocating_because, exit_allocating}
use Rattle.dav_wire.proofs.AttributeLemmas.{attributes_begin-fails, attributes_more, attributes_fail, attributes_unordered, attributes_end}
use Rattle.dav_wire.proofs.reader.Reader.read_attributes.Goals as goal

pub returns-in_err-left : goal.returns-in_err-left
returns-in_err-left c =
    exit_allocating attributes (λ m. map text_pair m.entries) _ _ c.from_residual.result _ c.from_residual.ensures.1
    (fails_allocating number attributes _ _ c.in_err-left.field-0.0 (attributes_begin-fails _) c.in_err-left.ensures)

pub returns-in_err-key : goal.returns-in_err-key
returns-in_err-key c =
    exit_allocating attributes (λ m. map text_pair m.entries) _ _ c.from_residual-in_err-key.result _ c.from_residual-in_err-key.ensures.1
    (fails_allocating_because attribute attributes _ _ c.in_err-key.field-0.0
    (attributes_fail _ _ _ _ _ c.loop-left.invariant c.loop-left-test.true) c.in_err-key.ensures)

pub returns-then-not-may_follow : goal.returns-then-not-may_follow
returns-then-not-may_follow c =
    let e : attribute.parse c.loop-left.self ≡ Some ((c.in_ok-key.key.now, string_bytes c.in_ok-key.value), c.read_attribute.new.self) = c.in_ok-key.ensures in
    let next : may_follow (option_map (λ s. s.now) c.loop-left.last) c.in_ok-key.key.now ≡ false = sym c.may_follow.ensures ∙ c.if-not-may_follow.true in
    attributes_unordered _ _ _ _ _ _ _ _ c.loop-left.invariant c.loop-left-test.true e next

pub loop-left-preserved : goal.loop-left-preserved
loop-left-preserved c =
    let e : attribute.parse c.loop-left.self ≡ Some ((c.in_ok-key.key.now, string_bytes c.in_ok-key.value), c.read_attribute.new.self) = c.in_ok-key.ensures in
    let next : may_follow (option_map (λ s. s.now) c.loop-left.last) c.in_ok-key.key.now ≡ true = sym c.may_follow.ensures ∙ c.if-not-may_follow.false in
    let entries : map text_pair c.insert.new.self.entries ≡ put_attribute (map text_pair c.loop-left.attributes.entries) c.in_ok-key.key.now (string_bytes c.in_ok-key.value) =
    ap (map text_pair) c.in_ok-insert.ensures.entries
    ∙ text_pairs-insert c.loop-left.attributes.entries c.in_ok-from_str.field-0 c.in_ok-key.value
    ∙ ap (λ (k : List ℕ). put_attribute (map text_pair c.loop-left.attributes.entries) k (string_bytes c.in_ok-key.value)) c.in_ok-from_str.ensures.ok in
    rw entries (attributes_more _ _ _ _ _ _ _ _ c.loop-left.invariant c.loop-left-test.true e next)

pub returns : goal.returns
returns c = attributes_end _ _ _ _ _ c.loop-left.invariant (omega arith)
