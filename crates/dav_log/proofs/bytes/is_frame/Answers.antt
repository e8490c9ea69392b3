use Rattle.std.proofs.Common.{sym, ◌∙◌, ap, ap₂, rules}
use Rattle.std.proofs.lemmas.List.{take_rest}
use Rattle.sqlite_wal.specs.Format.{checksum, is_big}
use Rattle.sqlite_wal.proofs.FormatLemmas.{same_sums, part_front}
use Rattle.dav_log.proofs.bytes.is_frame.Goals as goal

pub returns : goal.returns
returns c =
    let decides = same_sums _ _ _ c.eq.ensures in
    let big = is_big c.args.head.now in
    let front = ap (checksum big c.args.before) (part_front c.args.frame.now 8) ∙ sym c.checksum_of-front.ensures in
    let ours = ap₂ (checksum big) front (sym (take_rest c.args.frame.now 24)) ∙ sym c.checksum_of.ensures in (
      λ same. record {
        salt = c.has_salt.ensures.0 (search rules);
        page = λ none. c.if-number_at-eq0.false (c.number_at.ensures ∙ none);
        sum = ours ∙ decides.0 same ∙ c.sum_at.ensures;
      },
      λ passes. decides.1 (sym ours ∙ passes.sum ∙ sym c.sum_at.ensures),
    )
