use Rattle.std.proofs.Common.{sym, subst}
use Rattle.dav_resource.specs.PathText.{IsKey}
use Rattle.dav_resource.proofs.KeyLemmas.{IsKey-push, IsFlatSegment-text}
use Rattle.dav_resource.proofs.path.DavPath.push_segment.Goals as goal

pub child-requires : goal.child-requires
child-requires c = IsFlatSegment-text c.args.name.now c.requires.written

pub invariant_of-self : goal.invariant_of-self
invariant_of-self c =
    let key = subst IsKey (sym c.in_ok-self-inside.ensures) (IsKey-push c.self.inside.key c.args.name.now c.self.invariant.key c.requires) in
    record { prefix = c.self.invariant.prefix; key = key; star = λ e. cc }
