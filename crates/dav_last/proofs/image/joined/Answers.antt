use Rattle.std.proofs.Common.{rules, arith, ◌≡◌, ◌∙◌, ℕ, List, length, ◌++◌, ap₂, refl}
use borrow.Rule.Slice.PartMut.{put_mid}
use Rattle.std.proofs.lemmas.List.{places, same_lists}
use Rattle.dav_last.proofs.image.joined.Goals as goal

-- a list whose second half is overwritten
halves : (n : ℕ) (first second rest : List ℕ) → length first ≡ n → length second ≡ n → length rest ≡ n → put_mid n n (first ++ rest) second ≡ first ++ second
halves n first second rest a b c = same_lists _ _ (search (rules, places)) (λ k e h. grind (arith, places))

pub returns : goal.returns
returns c =
    let a : length c.copy_from_slice.new.self ≡ 8 = search rules in
    let b : length c.copy_from_slice-2.new.self ≡ 8 = search rules in
    let first : c.copy_from_slice.new.self ≡ c.args.first.now = search rules in
    let second : c.copy_from_slice-2.new.self ≡ c.args.second.now = search rules in
    halves 8 c.copy_from_slice.new.self c.copy_from_slice-2.new.self _ a b refl ∙ ap₂ (λ (x y : List ℕ). x ++ y) first second
