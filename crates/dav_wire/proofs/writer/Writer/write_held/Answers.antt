use Rattle.std.proofs.Common.{refl}
use Rattle.dav_wire.specs.Combine.{pair}
use Rattle.dav_wire.specs.Numbers.{number}
use Rattle.dav_wire.specs.Values.{optional}
use Rattle.dav_wire.specs.Replies.{quota, held}
use Rattle.dav_wire.specs.Views.{held_frame_of}
use Rattle.dav_wire.proofs.WriteLemmas.{writes_as, writes_pair}
use Rattle.dav_wire.proofs.writer.Writer.write_held.Goals as goal

pub returns : goal.returns
unfolding held
returns c =
    writes_as (pair number (optional quota)) held (c.args.amounts.now.locks, c.args.amounts.now.quota) (held_frame_of c.args.amounts.now) c.args.self.now c.write_quota.new.self c.write_quota.result (λ ok. ok) refl
    (writes_pair number (optional quota) c.args.amounts.now.locks c.args.amounts.now.quota c.args.self.now c.write_number.new.self c.write_quota.new.self c.write_quota.result c.in_ok-write_number.ensures
    c.write_quota.ensures)
