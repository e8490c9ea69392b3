use Rattle.std.proofs.Common.{◌≡◌, ◌∙◌, sym, ap, subst}
use Rattle.dav_nodes.specs.Memo.{IsKnown, ArePlaces}
use Rattle.dav_nodes.specs.declared.memo.Memo.{Memo}
use Rattle.dav_nodes.proofs.memo.Memo.note.Goals as goal
use Rattle.dav_nodes.proofs.memo.Memo.note.Goals.{in-Some, in-None, then-not-beside+in-Some-1, then-not-beside+in-None-1, else-not-beside}

pub returns : goal.returns
returns c = λ numbers known here.
    let before : c.match-self.self ≡ c.args.self.now = elim c.match-self.branch [ in-Some w ↦ w.self-is | in-None w ↦ w.self-is ] in
    let other : ArePlaces numbers c.if-not-beside.self.other = elim c.if-not-beside.branch [
      | then-not-beside+in-Some-1 w ↦ subst (ArePlaces numbers) (sym (ap (λ (m : Memo). m.other) w.self-is ∙ w.take.ensures.value ∙ ap (λ (m : Memo). m.last) before)) known.last
      | then-not-beside+in-None-1 w ↦ subst (ArePlaces numbers) (sym (ap (λ (m : Memo). m.other) w.self-is ∙ w.take.ensures.value ∙ ap (λ (m : Memo). m.last) before)) known.last
      | else-not-beside w ↦ subst (ArePlaces numbers) (sym (ap (λ (m : Memo). m.other) (w.self-is ∙ before))) known.other
    ] in
    record { last = λ place is. let same : c.args.place ≡ place = cc in subst (IsKnown numbers) same here; other = other }
