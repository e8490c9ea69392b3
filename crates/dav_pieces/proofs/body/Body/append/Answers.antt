use Rattle.std.proofs.Common.{◌≡◌, ◌∙◌, ◌+◌, [], ap, arith}
use Rattle.dav_pieces.specs.Pieces.{size_of, last_block}
use Rattle.dav_pieces.specs.Growth.{growth}
use Rattle.dav_pieces.proofs.Growing.{appended-size}
use Rattle.dav_pieces.proofs.body.Body.append.Goals as goal

pub invariant_of-self-2 : goal.invariant_of-self-2
invariant_of-self-2 c =
    let old = c.self.inside.pieces.items in
    let more = appended-size [] old c.args.more.now c.append.new.pieces.items (last_block old) c.args.grown (c.in_ok-count.ensures.bytes []) in
    let was = c.self.invariant in let count = c.in_ok-count.ensures.count in
    omega arith

pub returns-clause-size : goal.returns-clause-size
returns-clause-size c =
    let old = c.self.inside.pieces.items in
    let is : old ≡ c.args.self.now = c.self.view_is in
    appended-size [] old c.args.more.now c.append.new.pieces.items (last_block old) c.args.grown (c.in_ok-count.ensures.bytes [])
    ∙ ap (λ xs. size_of xs + growth (last_block xs) c.args.grown + size_of c.args.more.now) is
