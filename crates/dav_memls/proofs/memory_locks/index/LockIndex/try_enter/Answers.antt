use Rattle.std.proofs.Common.{◌∙◌, ap, refl, Some, bytes_eq, string_bytes}
use Rattle.std.proofs.lemmas.Map.Text.{hash_map_updates_text}
use Rattle.std.specs.HashMap.{get_by_text}
use Rattle.std.specs.Map.{lookup}
use Rattle.std.specs.Option.{option_to_list}
use Rattle.std.specs.Rc.{rc_str_bytes}
use Rattle.dav_key.specs.Flat.{segments_of}
use Rattle.dav_memls.specs.declared.memory_locks.index.Register.TheVariants.{All, Deep, Exclusive}
use Rattle.dav_memls.specs.LockIndex.{by_token}
use Rattle.dav_memls.proofs.Entering.{always_err, entered, partly, has_old, has_kept, has_joined, expires_old, expires_kept, expires_added}
use Rattle.dav_memls.proofs.Indexing.{token_enters}
use Rattle.dav_memls.proofs.memory_locks.index.LockIndex.try_enter.Goals as goal

pub join-requires-clause-above : goal.join-requires-clause-above
join-requires-clause-above c = c.requires.above All (segments_of (rc_str_bytes c.shared-key.result.now))

pub join_if-requires-clause-above : goal.join_if-requires-clause-above
join_if-requires-clause-above c = c.requires.above Deep (segments_of (rc_str_bytes c.shared-key.result.now))

pub join_if-requires-2-clause-above : goal.join_if-requires-2-clause-above
join_if-requires-2-clause-above c = c.requires.above Exclusive (segments_of (rc_str_bytes c.shared-key.result.now))

pub returns-in_err-token-clause-err : goal.returns-in_err-token-clause-err
returns-in_err-token-clause-err c =
    let old = c.args.self.now in
    let has = has_old c.args.lock.now c.args.number old c.requires.above in
    always_err c.from_residual.result (partly c.args.lock.now c.args.number old _ (λ t. refl) (has All) (has Deep) (has Exclusive) (expires_old c.args.lock.now c.args.number old c.requires.unused))

pub returns-in_err-join-clause-err : goal.returns-in_err-join-clause-err
returns-in_err-join-clause-err c =
    let old = c.args.self.now in
    let has = has_old c.args.lock.now c.args.number old c.requires.above in
    always_err c.from_residual-in_err-join.result (partly c.args.lock.now c.args.number old _ (λ t. refl) (has_kept c.args.lock.now c.args.number old c.requires.above All c.join.new.self c.in_err-join.ensures.err) (has Deep) (has Exclusive) (expires_old c.args.lock.now c.args.number old c.requires.unused))

pub returns-in_err-join_if-clause-err : goal.returns-in_err-join_if-clause-err
returns-in_err-join_if-clause-err c =
    let old = c.args.self.now in
    let joined = has_joined c.args.lock.now c.args.number old c.requires.above in
    always_err c.from_residual-in_err-join_if.result (partly c.args.lock.now c.args.number old _ (λ t. refl)
    (joined All c.join.new.self _ c.shared-key.ensures.key_is c.in_ok-join.ensures.ok)
    (has_kept c.args.lock.now c.args.number old c.requires.above Deep c.join_if.new.self c.in_err-join_if.ensures.err)
    (has_old c.args.lock.now c.args.number old c.requires.above Exclusive)
    (expires_old c.args.lock.now c.args.number old c.requires.unused))

pub returns-in_err-join_if-2-clause-err : goal.returns-in_err-join_if-2-clause-err
returns-in_err-join_if-2-clause-err c =
    let old = c.args.self.now in
    let joined = has_joined c.args.lock.now c.args.number old c.requires.above in
    always_err c.from_residual-in_err-join_if-2.result (partly c.args.lock.now c.args.number old _ (λ t. refl)
    (joined All c.join.new.self _ c.shared-key.ensures.key_is c.in_ok-join.ensures.ok)
    (joined Deep c.join_if.new.self _ c.shared-key.ensures.key_is c.in_ok-join_if.ensures.ok)
    (has_kept c.args.lock.now c.args.number old c.requires.above Exclusive c.join_if-2.new.self c.in_err-join_if-2.ensures.err)
    (expires_old c.args.lock.now c.args.number old c.requires.unused))

pub returns-in_err-insert-clause-err : goal.returns-in_err-insert-clause-err
returns-in_err-insert-clause-err c =
    let old = c.args.self.now in
    let joined = has_joined c.args.lock.now c.args.number old c.requires.above in
    always_err c.from_residual-in_err-insert.result (partly c.args.lock.now c.args.number old _ (λ t. refl)
    (joined All c.join.new.self _ c.shared-key.ensures.key_is c.in_ok-join.ensures.ok)
    (joined Deep c.join_if.new.self _ c.shared-key.ensures.key_is c.in_ok-join_if.ensures.ok)
    (joined Exclusive c.join_if-2.new.self _ c.shared-key.ensures.key_is c.in_ok-join_if-2.ensures.ok)
    (expires_kept c.args.lock.now c.args.number old c.requires.unused c.insert.new.self c.in_err-insert.ensures.err))

pub returns-in_err-insert-2-clause-err : goal.returns-in_err-insert-2-clause-err
returns-in_err-insert-2-clause-err c =
    let old = c.args.self.now in
    let joined = has_joined c.args.lock.now c.args.number old c.requires.above in
    always_err c.from_residual-in_err-insert-2.result (partly c.args.lock.now c.args.number old _
    (λ t. ap (λ es. option_to_list (lookup (λ k. bytes_eq t (string_bytes k)) es)) c.in_err-insert-2.ensures.err)
    (joined All c.join.new.self _ c.shared-key.ensures.key_is c.in_ok-join.ensures.ok)
    (joined Deep c.join_if.new.self _ c.shared-key.ensures.key_is c.in_ok-join_if.ensures.ok)
    (joined Exclusive c.join_if-2.new.self _ c.shared-key.ensures.key_is c.in_ok-join_if-2.ensures.ok)
    (expires_added c.args.lock.now c.args.number old c.requires.unused c.insert.new.self c.in_ok-insert.ensures.ok))

pub returns-clause-ok : goal.returns-clause-ok
returns-clause-ok c =
    let old = c.args.self.now in
    entered c.args.lock.now c.args.number old _ _ c.shared-key.ensures.key_is
    (λ t. token_enters c.args.lock.now c.args.number (string_bytes c.in_ok-token.token) t (get_by_text old.tokens t) (get_by_text c.insert-2.new.self t) (c.in_ok-token.ensures.ok ∙ c.as_str.ensures) (λ e. ap (by_token old) e ∙ c.requires.token) (hash_map_updates_text (string_bytes c.in_ok-token.token) old.tokens c.insert-2.new.self (Some c.args.number) c.in_ok-insert-2.ensures.updates t))
    c.in_ok-join.ensures.ok c.in_ok-join_if.ensures.ok c.in_ok-join_if-2.ensures.ok c.in_ok-insert.ensures.ok
