use Rattle.std.proofs.Common.{refl, true, [], ◌∷◌, ◌<◌}
use Rattle.std.proofs.lemmas.Bool.{and_from}
use Rattle.dav_resource.specs.declared.request.ReqBody.TheVariants as body
use Rattle.dav_wire.specs.Numbers.{byte, number}
use Rattle.dav_wire.specs.Values.{text}
use Rattle.dav_wire.specs.Trees.{tree}
use Rattle.dav_wire.specs.TreeLaws.{tree_levels}
use Rattle.dav_wire.specs.Levels.{IsBodyTooDeep}
use Rattle.dav_wire.specs.Bodies.{request_body, request_levels}
use Rattle.dav_wire.proofs.WriteLemmas.{appends_as, appends_after, writes_unless_after}
use Rattle.dav_wire.proofs.writer.Writer.write_body.Goals as goal

pub returns-in-Tree : goal.returns-in-Tree
unfolding request_body
returns-in-Tree c =
    let x = c.in-Tree.element in
    rw c.in-Tree.is
    (writes_unless_after (request_levels < tree_levels x) (IsBodyTooDeep (body.Tree x)) (tree request_levels) request_body x (body.Tree x) c.args.self.now c.write_u8-in-Tree.new.self c.write_element.new.self (3 ∷ []) c.write_element.result
    c.in_ok-write_u8-in-Tree.ensures.is (λ ok. and_from ((tree request_levels).is_valid x) true ok refl) (λ why. why) refl c.write_element.ensures)

pub returns-in_ok-write_u8-in-None : goal.returns-in_ok-write_u8-in-None
unfolding request_body
returns-in_ok-write_u8-in-None c =
    rw c.in-None.is
    (appends_as byte request_body 0 body.None c.args.self.now c.write_u8.new.self (λ ok. refl) refl c.in_ok-write_u8-in-None.ensures)

pub returns-in_ok-write_bytes-in-Bytes : goal.returns-in_ok-write_bytes-in-Bytes
unfolding request_body
returns-in_ok-write_bytes-in-Bytes c =
    rw c.in-Bytes.is
    (appends_after text request_body c.in-Bytes.bytes (body.Bytes c.in-Bytes.bytes) c.args.self.now c.write_u8-in-Bytes.new.self c.write_bytes.new.self (1 ∷ [])
    c.in_ok-write_u8-in-Bytes.ensures.is (λ ok. and_from (text.is_valid c.in-Bytes.bytes) true ok refl) refl (rw c.as_slice.ensures at c.in_ok-write_bytes-in-Bytes.ensures))

pub returns-in_ok-write_number-in-Stored : goal.returns-in_ok-write_number-in-Stored
unfolding request_body
returns-in_ok-write_number-in-Stored c =
    rw c.in-Stored.is
    (appends_after number request_body c.in-Stored.number (body.Stored c.in-Stored.number) c.args.self.now c.write_u8-in-Stored.new.self c.write_number.new.self (2 ∷ [])
    c.in_ok-write_u8-in-Stored.ensures.is (λ ok. and_from (number.is_valid c.in-Stored.number) true ok refl) refl (rw c.as_u64.ensures at c.in_ok-write_number-in-Stored.ensures))

pub returns-in_ok-write_u8-in-Malformed : goal.returns-in_ok-write_u8-in-Malformed
unfolding request_body
returns-in_ok-write_u8-in-Malformed c =
    rw c.in-Malformed.is
    (appends_as byte request_body 4 body.Malformed c.args.self.now c.write_u8-in-Malformed.new.self (λ ok. refl) refl c.in_ok-write_u8-in-Malformed.ensures)
