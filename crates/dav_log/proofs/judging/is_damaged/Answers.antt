use Rattle.std.proofs.Common.{◌≡◌, ℕ, List, length, IsTrue, refl, sym, ◌∙◌, subst, rules}
use Rattle.sqlite_wal.specs.PageSize.{bytes_of}
use Rattle.sqlite_wal.specs.Recovery.{Replays}
use Rattle.disk_readonly.specs.Copies.{contents_of}
use Rattle.dav_log.specs.Damage.{HasWrongHeader, NamesSize, LosesFrames}
use Rattle.dav_log.proofs.DamageLemmas.{judged}
use Rattle.dav_log.proofs.judging.is_damaged.Goals as goal

pub returns-clause-damaged : goal.returns-clause-damaged
returns-clause-damaged c =
    let log : List ℕ = contents_of c.args.log.now in
    let size : ℕ = bytes_of c.in-Some.size in
    let taken : ℕ = c.len-taken.result in
    let wrong = c.has_wrong_header.result in
    let lost = c.loses_frames.result in
    let names : NamesSize log size = subst (λ (b : List ℕ). NamesSize b size) c.bytes-2.ensures c.in-Some.ensures.some in
    let counted : taken ≡ length c.in_ok-probe_frames.field-0.items = search rules in
    let replays : Replays size log taken = subst (λ (k : ℕ). Replays size log k) (sym counted) (c.in_ok-probe_frames.ensures.ok refl).0 in
    judged log size taken wrong lost names replays
    (subst (λ (b : List ℕ). (IsTrue wrong → HasWrongHeader b) × (HasWrongHeader b → IsTrue wrong)) c.bytes.ensures c.has_wrong_header.ensures)
    (search rules)
    (subst (λ (b : List ℕ). (IsTrue lost → LosesFrames size b taken) × (LosesFrames size b taken → IsTrue lost)) (c.bytes-3.ensures ∙ c.probe_frames.ensures.same.seen) c.loses_frames.ensures)
