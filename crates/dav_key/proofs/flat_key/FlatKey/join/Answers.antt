use Rattle.std.proofs.Common.{◌∙◌, ◌++◌, sym, string_bytes}
use Rattle.dav_key.specs.FlatLaws.{flat-append}
use Rattle.dav_key.proofs.FlatLemmas.{IsFlatKey-append, IsTextOf-flat}
use Rattle.dav_key.proofs.flat_key.FlatKey.join.Goals as goal

pub of_text-requires : goal.of_text-requires
of_text-requires c =
    let a = c.args.self.now in
    let b = c.args.other.now in
    let e = c.in_ok-text.ensures ∙ (rw (c.as_str.ensures.text, c.as_str-2.ensures.text) (sym (flat-append a b))) in
    (IsTextOf-flat (string_bytes c.in_ok-text.text) (a ++ b) (IsFlatKey-append a b c.as_str.ensures.key c.as_str-2.ensures.key) e).is_flat

pub returns : goal.returns
returns c =
    let a = c.args.self.now in
    let b = c.args.other.now in
    let e = c.in_ok-text.ensures ∙ (rw (c.as_str.ensures.text, c.as_str-2.ensures.text) (sym (flat-append a b))) in
    rw (← (IsTextOf-flat (string_bytes c.in_ok-text.text) (a ++ b) (IsFlatKey-append a b c.as_str.ensures.key c.as_str-2.ensures.key) e).key_is) c.of_text.ensures
