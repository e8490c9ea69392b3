use Rattle.std.proofs.Common.{rules, ◌≡◌, ◌∙◌, ap, arith, length, sym}
use Rattle.dav_last.specs.Slots.{number_or_unreadable}
use Rattle.dav_last.proofs.SlotLemmas.{said_by-empty, said_by-other}
use Rattle.dav_last.proofs.CrashLemmas.{said_by-read}
use Rattle.dav_last.proofs.reading.read_slot.Goals as goal

pub returns-then-len-eq0-clause-said : goal.returns-then-len-eq0-clause-said
returns-then-len-eq0-clause-said g c = λ clean.
    let len = c.in_ok-len.ensures.len clean in
    sym (said_by-empty c.args.key _ (omega arith))

pub returns-then-len-ne-LEN-clause-said : goal.returns-then-len-ne-LEN-clause-said
returns-then-len-ne-LEN-clause-said g c = λ clean.
    let len = c.in_ok-len.ensures.len clean in
    sym (said_by-other c.args.key _ (omega arith) (λ same. c.if-len-ne-LEN.true (omega arith)))

pub returns-in-Some-clause-said : goal.returns-in-Some-clause-said
returns-in-Some-clause-said g c = λ clean.
    let len = c.in_ok-len.ensures.len (c.read_at.ensures.clean clean) in
    let holds = c.in_ok-read_at.ensures.read clean (omega arith) in
    let n : length c.read_at.new.buf ≡ 16 = search rules in
    ap number_or_unreadable (sym c.in-Some.is ∙ c.number_in.ensures) ∙ said_by-read c.args.key _ c.read_at.new.buf (omega arith) n (search rules)

pub returns-in-None-clause-said : goal.returns-in-None-clause-said
returns-in-None-clause-said g c = λ clean.
    let len = c.in_ok-len.ensures.len (c.read_at.ensures.clean clean) in
    let holds = c.in_ok-read_at.ensures.read clean (omega arith) in
    let n : length c.read_at.new.buf ≡ 16 = search rules in
    ap number_or_unreadable (sym c.in-None.is ∙ c.number_in.ensures) ∙ said_by-read c.args.key _ c.read_at.new.buf (omega arith) n (search rules)
