-- Names of which some may be missing.
use Rattle.std.proofs.Common.{List, ◌++◌, [], sym, subst, append_assoc}
use Rattle.std.specs.Prelude.{IsPermutation}
use Rattle.std.proofs.lemmas.List.{append-nil}
use Rattle.std.proofs.lemmas.List.Sorted.{IsPermutation-append, IsPermutation-append_left, IsPermutation-append_right, IsPermutation-append_comm, IsPermutation-trans}
use mathlib.Core.Path.{subst₂}
use Rattle.dav_messages.specs.Multistatus.{Item}
use Rattle.dav_walks.specs.Deletion.{AreSomeOf}

-- none is missing
pub some_all : (all names : List Item) → IsPermutation all names → AreSomeOf names all
some_all all names bag = ([], subst (λ l. IsPermutation all l) (sym (append-nil names)) bag)

pub some_permuted : (other all names : List Item) → IsPermutation other all → AreSomeOf names all → AreSomeOf names other
some_permuted other all names same some = (some.0, IsPermutation-trans _ _ _ same some.1)

-- more is missing
pub some_more : (names all more : List Item) → AreSomeOf names all → AreSomeOf names (all ++ more)
some_more names all more some = (some.0 ++ more, subst (λ l. IsPermutation (all ++ more) l) (append_assoc names some.0 more) (IsPermutation-append_left more _ _ some.1))

exchanged : (front one two back : List Item) → IsPermutation ((front ++ one) ++ (two ++ back)) ((front ++ two) ++ (one ++ back))
exchanged front one two back =
    let inner : IsPermutation (one ++ (two ++ back)) (two ++ (one ++ back)) = subst₂ IsPermutation (append_assoc one two back) (append_assoc two one back) (IsPermutation-append_left back _ _ (IsPermutation-append_comm one two)) in
    subst₂ IsPermutation (sym (append_assoc front one (two ++ back))) (sym (append_assoc front two (one ++ back))) (IsPermutation-append_right front _ _ inner)

pub some_both : (names all later more : List Item) → AreSomeOf names all → AreSomeOf later more → AreSomeOf (names ++ later) (all ++ more)
some_both names all later more some last = (some.0 ++ last.0, IsPermutation-trans _ _ _ (IsPermutation-append _ _ _ _ some.1 last.1) (exchanged names some.0 later last.0))

-- what was named late stands last
pub later_last : (names later more : List Item) → IsPermutation ((names ++ later) ++ more) ((names ++ more) ++ later)
later_last names later more =
    subst₂ IsPermutation (sym (append_assoc names later more)) (sym (append_assoc names more later)) (IsPermutation-append_right names _ _ (IsPermutation-append_comm later more))
