use Rattle.std.proofs.Common.{◌≡◌, [], ◌∷◌, take, Some, None, refl, sym, append_assoc, append-nil}
use Rattle.dav_messages.specs.Conditions.{token_of, tokens_in}
use Rattle.dav_messages.proofs.IfLists.{tokens_in-more}
use Rattle.dav_messages.proofs.if_header.append_tokens.Goals.{in-Some+in_ok-clone+in_ok-push, in_default}
use Rattle.dav_messages.proofs.if_header.append_tokens.Goals as goal

pub loop-condition-preserved : goal.loop-condition-preserved
loop-condition-preserved c =
    let so_far = tokens_in (take c.loop-condition.condition-index c.args.conditions.now) in
    let more = tokens_in-more c.args.conditions.now c.loop-condition.condition-index c.condition-item.result c.loop-condition-test.true c.condition-item.is in
    elim c.match-token_of.branch [
      | in-Some+in_ok-clone+in_ok-push w ↦
          let is : token_of c.condition-item.result.item ≡ Some w.in-Some.token.now = sym (rw w.in-Some.is at c.token_of.ensures) in
          rw (w.tokens-is, more, is, w.in_ok-push.ensures.items, w.in_ok-clone.ensures, c.loop-condition.invariant) (append_assoc c.args.tokens.now.items so_far (w.in-Some.token.now ∷ []))
      | in_default w ↦
          let is : token_of c.condition-item.result.item ≡ None = sym (rw w.in_default.is at c.token_of.ensures) in
          rw (w.tokens-is, more, is, append-nil, c.loop-condition.invariant) refl
    ]
