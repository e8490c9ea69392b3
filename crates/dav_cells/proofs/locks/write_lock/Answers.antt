use Rattle.std.proofs.Common.{◌≡◌, ◌<◌, ◌∙◌, Option, subst, option_map}
use Rattle.dav_resource.specs.Tree.{Tree}
use Rattle.dav_wire.specs.Values.{optional}
use Rattle.dav_wire.specs.Levels.{optional_levels}
use Rattle.dav_wire.specs.Writes.{WritesUnless}
use Rattle.dav_cells.specs.Elements.{element_codec, element_levels}
use Rattle.dav_cells.specs.Locks.{kept_lock}
use Rattle.dav_cells.proofs.LockCells.{lock_written}
use Rattle.dav_cells.proofs.locks.write_lock.Goals as goal

pub returns : goal.returns
returns c =
    let lock = c.args.lock.now in
    let principal : option_map (λ s. s.now) c.str_of.result ≡ c.args.lock.now.principal = c.str_of.ensures ∙ c.as_ref.ensures.value in
    let owner : option_map (λ x. x.now) c.as_ref-2.result ≡ c.args.lock.now.owner = c.as_ref-2.ensures.value in
    let start = c.write_flag-2.new.self in
    let end = c.write_optional_element.new.self in
    lock_written (kept_lock lock) c.args.writer.now c.write_str.new.self c.write_path.new.writer c.write_optional_str.new.self c.write_optional_number.new.self
    c.write_optional_number-2.new.self c.write_flag.new.self start end c.write_optional_element.result
    (rw c.as_str.ensures at c.in_ok-write_str.ensures) c.in_ok-write_path.ensures (rw principal at c.in_ok-write_optional_str.ensures)
    c.in_ok-write_optional_number.ensures c.in_ok-write_optional_number-2.ensures c.in_ok-write_flag.ensures c.in_ok-write_flag-2.ensures
    (subst (λ (o : Option Tree). WritesUnless (element_levels < optional_levels o) (optional element_codec) o start c.write_optional_element.result end) owner
    c.write_optional_element.ensures)
