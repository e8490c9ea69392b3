use Rattle.std.proofs.Common.{refl, rules}
use Rattle.dav_messages.specs.Multistatus.{multistatus_reply}
use Rattle.dav_messages.proofs.MultiAnswer.{multi_answer-one, multi_answer-several, gives-reply}
use Rattle.dav_messages.proofs.multierror.multi_error.Goals.{in_default-via-in-len1+else-same_key, in_default-via-else-listed-lt2}
use Rattle.dav_messages.proofs.multierror.multi_error.Goals as goal

pub returns-in-len1 : goal.returns-in-len1
returns-in-len1 c =
    let path = c.args.req_path.now in
    let items = c.as_slice-listed.result.now in
    let one = multi_answer-one c.args.profile path items c.index-listed-0.result c.index-listed-0-then-listed-lt2.result c.same_key.result c.in-len1.len_at_least c.in-len1.len_below c.same_key.ensures in
    rw (← c.as_slice-listed.ensures.value, c.bare_reply.ensures, one, c.if-same_key.true) refl

pub returns : goal.returns
returns c =
    let path = c.args.req_path.now in
    let items = c.as_slice-listed.result.now in
    let gives = gives-reply c.multistatus_reply.result (multistatus_reply c.args.profile items) c.multistatus_reply.ensures.ok c.multistatus_reply.ensures.err in
    rw (← c.as_slice-listed.ensures.value) (elim c.in_default.branch [
      | in_default-via-in-len1+else-same_key w ↦
          gives _ (rw w.if-same_key.false at (multi_answer-one c.args.profile path items w.index-listed-0.result w.index-listed-0.result w.same_key.result w.in-len1.len_at_least w.in-len1.len_below w.same_key.ensures))
      | in_default-via-else-listed-lt2 w ↦ gives _ (multi_answer-several c.args.profile path items (search rules))
    ])
