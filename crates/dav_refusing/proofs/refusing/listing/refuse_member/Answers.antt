use Rattle.std.proofs.Common.{sym}
use Rattle.dav_resource.specs.declared.record.Op.TheVariants.{Entry}
use Rattle.dav_store.specs.Members.{member}
use Rattle.dav_refusing.specs.Plans.{refusal_for}
use Rattle.dav_refusing.proofs.refusing.listing.refuse_member.Goals as goal

pub returns-then-is_empty-clause-error : goal.returns-then-is_empty-clause-error
returns-then-is_empty-clause-error c =
    let none = c.is_empty.ensures.0 c.if-is_empty.true in
    λ i. refusal_for Entry (member c.args.path.now.key c.args.entry.now.name) (sym none i)
