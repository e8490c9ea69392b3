use Rattle.std.proofs.Common.{◌≡◌, ◌+◌, ◌<◌, ◌^◌, arith}
use Rattle.dav_pieces.specs.Pieces.{size_of}
use Rattle.dav_store_rows.proofs.Putting.{puts_next, puts_all, none_left, few_next, place_within}
use Rattle.dav_store_rows.specs.Parts.{MOST}
use Rattle.dav_store_rows.specs.SaveErrors.{HasPartKeys, FitsPieces}
use Rattle.dav_store_rows.proofs.Failing.{fails_on}
use Rattle.dav_store_rows.proofs.saving.puts.put_extents.Goals as goal

pub groups-preserved : goal.groups-preserved
groups-preserved c =
    let front = c.split_at.ensures.front in
    let end = c.in-Some.ensures.end in
    let ends : c.in-Some.end ≡ c.groups.place + size_of c.split_at.result.0.now = cc (front, end) in
    record {
      puts =
          puts_next c.args.number c.args.pieces.now c.groups.rest.now c.split_at.result.0.now c.split_at.result.1.now c.groups.place c.groups.count c.in-Some.end
          c.args.changes.now.items c.groups.changes.items c.put_extent.new.changes.items c.groups.invariant.puts c.split_at.ensures.by_index.0 ends
          c.in_ok-put_extent.ensures.valid c.in_ok-put_extent.ensures.few c.in_ok-put_extent.ensures.ok;
      few =
          few_next c.groups.count c.in-Some.len c.args.pieces.now c.groups.rest.now c.split_at.result.0.now c.split_at.result.1.now c.groups.invariant.few
          c.split_at.ensures.by_index.0 c.split_at.ensures.front c.in-Some.ensures.some c.in-Some.ensures.within;
    }

pub returns-clause-ok : goal.returns-clause-ok
returns-clause-ok c =
    puts_all c.args.number c.args.pieces.now c.groups.rest.now c.groups.place c.groups.count c.args.changes.now.items c.groups.changes.items c.groups.invariant.puts
    (none_left c.groups.rest.now c.groups-test.ensures)

pub returns-in_default-clause-err : goal.returns-in_default-clause-err
returns-in_default-clause-err c = λ (small, fits).
    let whole =
    place_within c.args.number c.args.pieces.now c.groups.rest.now c.groups.place c.groups.count c.args.changes.now.items c.groups.changes.items c.groups.invariant.puts in
    let past = c.in_default.ensures.none in
    let size = fits.size in
    omega arith

pub returns-in_err-put_extent-clause-err : goal.returns-in_err-put_extent-clause-err
returns-in_err-put_extent-clause-err c =
    let whole =
    place_within c.args.number c.args.pieces.now c.groups.rest.now c.groups.place c.groups.count c.args.changes.now.items c.groups.changes.items c.groups.invariant.puts in
    let few = c.groups.invariant.few in
    let some = c.in-Some.ensures.some in
    let within = c.in-Some.ensures.within in
    fails_on c.from_residual.result (HasPartKeys c.args.number × FitsPieces c.args.pieces.now) (Unit {0})
    (HasPartKeys c.args.number × (c.groups.count < MOST) × (c.groups.place < 2 ^ 63)) (Unit {0}) c.in_err-put_extent.field-0.0 c.from_residual.ensures.1
    c.in_err-put_extent.ensures.err
    (λ (small, fits). let most = fits.few in let size = fits.size in (small, omega arith, omega arith)) (λ x. x)
