use Rattle.std.proofs.Common.{◌∙◌, subst, string_bytes}
use Rattle.dav_key.specs.Key.{parent}
use Rattle.dav_key.specs.Flat.{IsFlatKey}
use Rattle.dav_key.proofs.FlatLemmas.{IsFlatKey-parent, IsTextOf-flat}
use Rattle.dav_key.proofs.flat_key.FlatKey.parent.Goals as goal

pub of_text-requires : goal.of_text-requires
of_text-requires c =
    let plain = subst IsFlatKey c.self.view_is c.self.invariant.text.plain in
    (IsTextOf-flat (string_bytes c.in_ok-text.text) (parent c.args.self.now) (IsFlatKey-parent c.args.self.now plain) (c.in_ok-text.ensures.ok ∙ c.parent_str.ensures.text)).is_flat

pub returns : goal.returns
returns c =
    let plain = subst IsFlatKey c.self.view_is c.self.invariant.text.plain in
    let e = (IsTextOf-flat (string_bytes c.in_ok-text.text) (parent c.args.self.now) (IsFlatKey-parent c.args.self.now plain) (c.in_ok-text.ensures.ok ∙ c.parent_str.ensures.text)).key_is in
    rw (← e) c.of_text.ensures
