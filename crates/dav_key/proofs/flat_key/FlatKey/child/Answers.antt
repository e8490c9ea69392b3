use Rattle.std.proofs.Common.{◌∙◌, string_bytes}
use Rattle.dav_key.proofs.FlatLemmas.{IsTextOf-child, length_above-child}
use Rattle.dav_key.proofs.flat_key.FlatKey.child.Goals as goal

pub share-requires-clause-text : goal.share-requires-clause-text
share-requires-clause-text c =
    (IsTextOf-child c.args.self.now c.args.name.now c.as_str.result.now (string_bytes c.in_ok-text.text) c.as_str.ensures.key c.requires c.as_str.ensures.text c.in_ok-text.ensures).is_flat

pub share-requires-clause-above : goal.share-requires-clause-above
share-requires-clause-above c =
    c.len.ensures ∙ length_above-child c.args.self.now c.args.name.now c.as_str.result.now (string_bytes c.in_ok-text.text) c.as_str.ensures.key c.requires c.as_str.ensures.text c.in_ok-text.ensures

pub returns : goal.returns
returns c =
    rw (← (IsTextOf-child c.args.self.now c.args.name.now c.as_str.result.now (string_bytes c.in_ok-text.text) c.as_str.ensures.key c.requires c.as_str.ensures.text c.in_ok-text.ensures).key_is) c.share.ensures
