use Rattle.std.proofs.Common.{◌∙◌, ◌≡◌, true, refl, sym, length, drop, string_bytes}
use Rattle.std.specs.Prelude.{bytes_eq}
use Rattle.std.specs.List.{starts_with}
use Rattle.dav_key.proofs.FlatLemmas.{HasPrefix-begins, IsFlatKey-drop, IsTextOf-flat}
use Rattle.dav_key.proofs.flat_key.FlatKey.strip.Goals as goal

pub split_at-requires : goal.split_at-requires
split_at-requires c =
    let begins : starts_with bytes_eq c.args.self.now c.args.prefix.now ≡ true = sym c.is_at_or_below.ensures ∙ c.if-not-is_at_or_below.false in
    rw (c.len.ensures, c.as_str.ensures.text) (HasPrefix-begins c.args.self.now c.args.prefix.now begins).boundary

pub of_text-requires : goal.of_text-requires
of_text-requires c =
    let begins : starts_with bytes_eq c.args.self.now c.args.prefix.now ≡ true = sym c.is_at_or_below.ensures ∙ c.if-not-is_at_or_below.false in
    let rest = drop (length c.args.prefix.now) c.args.self.now in
    let e = c.in_ok-text.ensures.ok ∙ (rw (c.split_at.ensures.back, c.len.ensures, c.as_str.ensures.text) (HasPrefix-begins c.args.self.now c.args.prefix.now begins).rest) in
    (IsTextOf-flat (string_bytes c.in_ok-text.text) rest (IsFlatKey-drop (length c.args.prefix.now) c.args.self.now c.as_str.ensures.key) e).is_flat

pub returns : goal.returns
returns c =
    let begins : starts_with bytes_eq c.args.self.now c.args.prefix.now ≡ true = sym c.is_at_or_below.ensures ∙ c.if-not-is_at_or_below.false in
    let rest = drop (length c.args.prefix.now) c.args.self.now in
    let e = c.in_ok-text.ensures.ok ∙ (rw (c.split_at.ensures.back, c.len.ensures, c.as_str.ensures.text) (HasPrefix-begins c.args.self.now c.args.prefix.now begins).rest) in
    let key = (IsTextOf-flat (string_bytes c.in_ok-text.text) rest (IsFlatKey-drop (length c.args.prefix.now) c.args.self.now c.as_str.ensures.key) e).key_is in
    rw (begins, c.in_ok-key.ensures, key) refl
