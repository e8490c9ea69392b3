use Rattle.std.proofs.Common.{◌≡◌, ◌∙◌, ◌+◌, ◌<◌, max, [], ap, sym, arith}
use Rattle.dav_store.specs.Calls.{written_at}
use Rattle.dav_pieces.specs.Pieces.{bytes_of, size_of}
use Rattle.dav_pieces.proofs.PieceLaws.{length-bytes_of}
use Rattle.dav_pieces.proofs.CutSteps.{written-none, written-size}
use Rattle.dav_pieces.proofs.body.Body.write.Goals as goal

pub returns-then-count-eq0-clause-ok : goal.returns-then-count-eq0-clause-ok
returns-then-count-eq0-clause-ok c = λ file.
    written-none (bytes_of file c.args.self.now) c.args.place (bytes_of file c.args.more.now)
    (length-bytes_of file c.args.more.now ∙ sym c.size-count.ensures ∙ c.if-count-eq0.true)

pub invariant_of-self : goal.invariant_of-self
invariant_of-self c =
    let count = c.size-count.ensures in let other = c.if-count-eq0.false in
    let end = c.args.place + c.size-count.result in
    let some : 0 < size_of c.args.more.now = omega arith in
    c.max-self-inside.ensures
    ∙ ap (λ n. max n end) (c.self.invariant ∙ ap size_of (sym c.deref.ensures.value))
    ∙ sym (written-size [] c.deref.result.now c.args.more.now c.in_ok-self-inside.field-0.items c.args.place end some (ap (λ n. c.args.place + n) count) (c.in_ok-self-inside.ensures.bytes []))

pub returns-clause-ok : goal.returns-clause-ok
returns-clause-ok c = λ file.
    c.in_ok-self-inside.ensures.bytes file
    ∙ ap (λ xs. written_at (bytes_of file xs) c.args.place (bytes_of file c.args.more.now)) (c.deref.ensures.value ∙ c.self.view_is)

pub returns-clause-sound : goal.returns-clause-sound
returns-clause-sound c = let is = c.deref.ensures.value ∙ c.self.view_is in λ test. rw is at (c.in_ok-self-inside.ensures.sound test)

pub returns-clause-small : goal.returns-clause-small
returns-clause-small c =
    let count = c.size-count.ensures in let other = c.if-count-eq0.false in
    let end = c.args.place + c.size-count.result in
    let some : 0 < size_of c.args.more.now = omega arith in
    let size = written-size [] c.deref.result.now c.args.more.now c.in_ok-self-inside.field-0.items c.args.place end some (ap (λ n. c.args.place + n) count) (c.in_ok-self-inside.ensures.bytes []) in
    let same : size_of c.deref.result.now ≡ size_of c.args.self.now = ap size_of (c.deref.ensures.value ∙ c.self.view_is) in
    let fits = c.requires.fits in let room = c.requires.room in
    omega arith
