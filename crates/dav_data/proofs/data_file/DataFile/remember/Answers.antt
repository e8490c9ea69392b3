use Rattle.std.proofs.Common.{◌≡◌, ◌∙◌, [], ◌∷◌, ◌++◌, sym, ap, subst}
use Rattle.std.specs.Prelude.{IfSome, if◌then◌else◌}
use Rattle.std.specs.List.{remove}
use Rattle.dav_blocks.specs.Blocks as blocks
use Rattle.dav_data.specs.Digests.{IsHashed, AreHashed}
use Rattle.dav_data.specs.Data.{data_of, in_use}
use Rattle.dav_data.proofs.Keeping.{hashed-push, hashed-rest}
use Rattle.dav_data.proofs.data_file.DataFile.remember.Goals as goal
use Rattle.dav_data.proofs.data_file.DataFile.remember.Goals.{then-len-ge-MAX_TAILS, else-len-ge-MAX_TAILS}

pub invariant_of-self : goal.invariant_of-self
invariant_of-self g c =
    let it = c.args.self.now in let tail = c.in-Some.tail in let kept = c.make_room.ensures.kept in let file = c.make_room.new.self in
    let tails = c.if-len-ge-MAX_TAILS.self.1.1.1.0.items in
    let last = subst (λ o. IfSome o (IsHashed it.key (data_of it) (in_use it))) c.in-Some.is c.requires in
    let before : AreHashed it.key (data_of it) (in_use it) tails = elim c.if-len-ge-MAX_TAILS.branch [
      | then-len-ge-MAX_TAILS w ↦ (
          let less : tails ≡ remove it.tails.items 0 = (λ k. (w.self-is k).1.1.1.0.items) ∙ w.remove.ensures.items in
          subst (AreHashed it.key (data_of it) (in_use it)) (sym less) (hashed-rest it.key (data_of it) (in_use it) it.tails.items it.hashed))
      | else-len-ge-MAX_TAILS w ↦ (
          let same : tails ≡ it.tails.items = (λ k. (w.self-is k).1.1.1.0.items) in
          subst (AreHashed it.key (data_of it) (in_use it)) (sym same) it.hashed)
    ] in
    let more : c.push.new.self.items ≡ tails ++ tail ∷ [] =
    c.push.ensures.items ∙ ap (λ b. if b then tails ++ tail ∷ [] else tails) (sym c.is_ok.ensures.value ∙ c.if-is_ok.true) in
    record {
      hashed = subst (AreHashed it.key (blocks.data_of file) (blocks.in_use file)) (sym more)
          (hashed-push it.key (data_of it) (blocks.data_of file) (in_use it) (blocks.in_use file) kept.used kept.same tails tail before last);
      marked = it.marked;
    }
