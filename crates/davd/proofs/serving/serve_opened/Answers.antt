use Rattle.davd.proofs.Leaves.{named_by}
use Rattle.davd.proofs.serving.serve_opened.Goals as goal
use Rattle.davd.proofs.serving.serve_opened.Goals.{in-Ok, in-Err}
use Rattle.std.proofs.Common.{◌∙◌, sym, ap}
use Rattle.dav_last.specs.Batches.{key_of}
use Rattle.dav_guarding.specs.Guarding.{inner_of}

pub returns-clause-served : goal.returns-clause-served
returns-clause-served g c = elim c.match-ended.branch [
  | in-Ok w ↦ rw w.ended-is (record {
    first = c.resume-server.result;
    last = c.serve_kept-ended.new.self;
    begins = record { snapshot = rw c.new-store.ensures.inner at c.resume-server.ensures.snapshot; state = rw c.new-store.ensures.inner at c.resume-server.ensures.state };
    ends = sym (c.into_inner.ensures ∙ ap inner_of (c.store-2-1.given.1 (sym (c.into_store-store.ensures.loan ∙ ap (λ p. p.0) c.serve_kept-ended.ensures.loans ∙ ap (λ p. p.0) c.resume-server.ensures.loans))) ∙ ap inner_of c.into_store-store.ensures.store);
    keep = record { keeper = c.new-keeper.result; keeper' = c.serve_kept-ended.new.keeper; begins = c.new-keeper.ensures.folder; named = named_by _ _ _ _ c.new-keeper.ensures.folder c.new-keeper.ensures.last c.requires.named; ends = sym c.into_parts-folder.ensures.folder };
    runs = rw c.resume-server.ensures.rules at w.in-Ok.ensures.ran;
  })
  | in-Err w ↦ rw w.ended-is tt
]

pub returns-clause-stopped : goal.returns-clause-stopped
returns-clause-stopped g c = elim c.match-ended.branch [
  | in-Ok w ↦ rw w.ended-is tt
  | in-Err w ↦ rw w.ended-is (record {
    first = c.resume-server.result;
    last = c.serve_kept-ended.new.self;
    begins = record { snapshot = rw c.new-store.ensures.inner at c.resume-server.ensures.snapshot; state = rw c.new-store.ensures.inner at c.resume-server.ensures.state };
    ends = sym (c.into_inner.ensures ∙ ap inner_of (c.store-2-1.given.1 (sym (c.into_store-store.ensures.loan ∙ ap (λ p. p.0) c.serve_kept-ended.ensures.loans ∙ ap (λ p. p.0) c.resume-server.ensures.loans))) ∙ ap inner_of c.into_store-store.ensures.store);
    keep = record { keeper = c.new-keeper.result; keeper' = c.serve_kept-ended.new.keeper; begins = c.new-keeper.ensures.folder; named = named_by _ _ _ _ c.new-keeper.ensures.folder c.new-keeper.ensures.last c.requires.named; ends = sym c.into_parts-folder.ensures.folder };
    stops = rw c.resume-server.ensures.rules at w.in-Err.ensures.stopped;
  })
]

pub returns-clause-clean : goal.returns-clause-clean
returns-clause-clean g c = λ clean.
    let was = c.serve_kept-ended.ensures.follows.folder (rw c.into_parts-folder.ensures.folder at clean) in
    rw c.new-keeper.ensures.folder at was

pub returns-clause-calm : goal.returns-clause-calm
returns-clause-calm g c = λ clean.
    let was = c.serve_kept-ended.ensures.follows.number (rw c.into_parts-folder.ensures.last at clean) in
    rw c.new-keeper.ensures.last at was

pub returns-clause-key : goal.returns-clause-key
returns-clause-key g c =
    ap (λ it. key_of it) c.into_parts-folder.ensures.last ∙ c.serve_kept-ended.ensures.follows.key ∙ ap (λ it. key_of it) c.new-keeper.ensures.last

pub returns-clause-err : goal.returns-clause-err
returns-clause-err g c = elim c.match-ended.branch [ in-Ok w ↦ rw w.ended-is tt | in-Err w ↦ rw w.ended-is w.stopped_by.ensures.err ]

pub returns-clause-unjudged : goal.returns-clause-unjudged
returns-clause-unjudged g c = elim c.match-ended.branch [ in-Ok w ↦ rw w.ended-is tt | in-Err w ↦ rw w.ended-is w.stopped_by.ensures.unjudged ]
