-- A part of a path whose bytes all stand for themselves.
use Rattle.std.proofs.Common.{◌≡◌, ◌≢◌, ℕ, List, [], ◌∷◌, Bool, true, false, not, ◌&&◌, ◌||◌, ◌==◌, refl, arith}
use Rattle.std.specs.List.{list_all}
use Rattle.std.proofs.lemmas.Bool.{and_from, and_parts}
use Rattle.std.proofs.lemmas.Bool.Decides.{nat_tests}
use Rattle.percent_encoding.specs.Percent.{percent_decode}
use Rattle.percent_encoding.proofs.PercentLemmas.{percent_decode-nil, percent_decode_not_percent}
use Rattle.dav_resource.specs.PathText.{is_plain_byte, is_literal_byte, has_whole_escapes, starts_with_two_digits}

not_percent : (b : ℕ) → not (b == 37) ≡ true → b ≢ 37
not_percent b is = grind (arith, nat_tests)

-- what holds of a list whose bytes all stand for themselves
pub record Literal (bs : List ℕ) : Type 0 where
  pub whole : has_whole_escapes bs ≡ true
  pub decoded : percent_decode bs ≡ bs
  pub plain : list_all is_plain_byte bs ≡ true

pub literal : (bs : List ℕ) → list_all is_literal_byte bs ≡ true → Literal bs
literal [] is = record { whole = refl; decoded = percent_decode-nil; plain = refl }
literal (b ∷ bs) is =
    let parts = and_parts (is_literal_byte b) (list_all is_literal_byte bs) is in
    let own = and_parts (is_plain_byte b) (not (b == 37)) parts.0 in
    let rest = literal bs parts.1 in
    let whole : (not (b == 37) || starts_with_two_digits bs) ≡ true = rw own.1 in
    record {
      whole = and_from _ _ whole rest.whole;
      decoded = rw (percent_decode_not_percent b bs (not_percent b own.1), rest.decoded);
      plain = and_from _ _ own.0 rest.plain;
    }
