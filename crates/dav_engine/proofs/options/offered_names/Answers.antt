use Rattle.std.proofs.Common.{◌∙◌, sym, ap, List, ℕ}
use Rattle.std.specs.List.{join_by}
use Rattle.std.specs.Prelude.{codes}
use Rattle.dav_engine.specs.Options.{name_of}
use Rattle.dav_engine.proofs.AllowList.{join_by-map}
use Rattle.dav_engine.proofs.options.offered_names.Goals as goal

pub returns : goal.returns
returns c =
    rw c.as_slice.ensures.value at c.in_ok-text.ensures.ok
    ∙ sym (join_by-map (λ (t : List ℕ). t) (λ n. n.now) (codes ",") c.in_ok-names.names.items)
    ∙ ap (join_by (λ (t : List ℕ). t) (codes ",")) c.in_ok-names.ensures
    ∙ join_by-map (λ (t : List ℕ). t) name_of (codes ",") _
