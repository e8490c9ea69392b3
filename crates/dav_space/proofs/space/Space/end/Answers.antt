use Rattle.std.proofs.Common.{ap, ◌∙◌}
use Rattle.std.specs.List.{slice_get}
use Rattle.dav_space.specs.Space.{unused}
use Rattle.dav_space.proofs.Ends.{IsBehind-last_at, last_at-later, last_at-alone}
use Rattle.dav_space.proofs.space.Space.end.Goals as goal

pub returns-in-Some-clause-place : goal.returns-in-Some-clause-place
returns-in-Some-clause-place c =
    let s = c.args.self.now in
    last_at-later s.rooms.items s.current s.later.items c.in-Some.last.now (c.in-Some.ensures.value ∙ ap (λ xs. slice_get xs 0) c.deref.ensures.value)

pub returns-in-Some-clause-behind : goal.returns-in-Some-clause-behind
returns-in-Some-clause-behind c =
    let s = c.args.self.now in
    let place = last_at-later s.rooms.items s.current s.later.items c.in-Some.last.now (c.in-Some.ensures.value ∙ ap (λ xs. slice_get xs 0) c.deref.ensures.value) in
    IsBehind-last_at (unused s) _ place s.whole

pub returns-in-None-clause-place : goal.returns-in-None-clause-place
returns-in-None-clause-place c =
    let s = c.args.self.now in
    last_at-alone s.rooms.items s.current s.later.items (c.in-None.ensures.value ∙ ap (λ xs. slice_get xs 0) c.deref.ensures.value)

pub returns-in-None-clause-behind : goal.returns-in-None-clause-behind
returns-in-None-clause-behind c =
    let s = c.args.self.now in
    let place = last_at-alone s.rooms.items s.current s.later.items (c.in-None.ensures.value ∙ ap (λ xs. slice_get xs 0) c.deref.ensures.value) in
    IsBehind-last_at (unused s) _ place s.whole
