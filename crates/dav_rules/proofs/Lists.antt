-- Lists of values, as their data.
use Rattle.std.proofs.Common.{◌≡◌, ◌∙◌, ◌++◌, append_assoc, sym, Bool, List, [], ◌∷◌, ◌&&◌, ◌||◌, length, arith, Option, Some, None, option_map, String, Global, refl, ap}
use Rattle.std.specs.Prelude.{is_some}
use Rattle.std.specs.List.{list_all, list_any}
use Rattle.toml.specs.Data.{Data}
use Rattle.toml.specs.View.{view, items_view, members_view}
use Rattle.toml.specs.declared.value.Value.{Value}
use Rattle.dav_rules.specs.Rules.{list_of, count, joined, each_of}

pub all-view : (f : Data → Bool) (vs : List Value) → list_all (λ v. f (view v)) vs ≡ list_all f (list_of (items_view vs))
all-view f [] = refl
all-view f (v ∷ vs) = ap (λ b. f (view v) && b) (all-view f vs)

pub any-view : (f : Data → Bool) (vs : List Value) → list_any (λ v. f (view v)) vs ≡ list_any f (list_of (items_view vs))
any-view f [] = refl
any-view f (v ∷ vs) = ap (λ b. f (view v) || b) (any-view f vs)

pub some-mapped : {X Y : Type 0} (f : X → Y) (o : Option X) → is_some o ≡ is_some (option_map f o)
some-mapped f None = refl
some-mapped f (Some x) = refl

pub count-length : (es : List (String Global × Value)) → count (members_view es) ≡ length es
count-length [] = refl
count-length (e ∷ es) = omega (arith, count-length es)

-- one more that is something, and those that are left
pub one-more : {X : Type 0} (first : List X) (x : X) (part : Data → Option X) (d : Data) (ds : List Data) → part d ≡ Some x
    → option_map (λ rest. (first ++ x ∷ []) ++ rest) (each_of part ds) ≡ option_map (λ rest. first ++ rest) (each_of part (d ∷ ds))
one-more {X = X} first x part d ds is = by_rest (each_of part ds) ∙ ap (λ o. option_map (λ rest. first ++ rest) (joined o (each_of part ds))) (sym is)
  where
    by_rest : (o : Option (List X)) → option_map (λ rest. (first ++ x ∷ []) ++ rest) o ≡ option_map (λ rest. first ++ rest) (joined (Some x) o)
    by_rest None = refl
    by_rest (Some rest) = ap Some (append_assoc first (x ∷ []) rest)

-- one that is nothing makes all nothing
pub one-none : {X : Type 0} (first : List X) (part : Data → Option X) (d : Data) (ds : List Data) → part d ≡ None → option_map (λ rest. first ++ rest) (each_of part (d ∷ ds)) ≡ None
one-none first part d ds is = ap (λ o. option_map (λ rest. first ++ rest) (joined o (each_of part ds))) is

pub none-of : {X Y : Type 0} (f : X → Y) (o : Option X) (p : Option Y) → option_map f o ≡ p → o ≡ None → p ≡ None
none-of f o p same none = sym same ∙ ap (option_map f) none
