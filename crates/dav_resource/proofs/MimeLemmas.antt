-- A name's last `.`.
use Rattle.std.proofs.Common.{◌≡◌, ◌||◌, ℕ, List, [], ◌∷◌, Bool, true, false, if◌then◌else◌, refl, sym}
use Rattle.std.specs.List.{list_any}
use Rattle.dav_resource.specs.Mime.{is_dot, after_last_dot}

neither : (a b : Bool) → (a || b) ≡ false → (a ≡ false) × (b ≡ false)
neither true b e = absurd (cc)
neither false b e = (refl, e)

-- nothing stands behind the last `.` where there is none
none : (bs : List ℕ) → list_any is_dot bs ≡ false → after_last_dot bs ≡ []
none [] e = refl
none (b ∷ bs) e =
    let both = neither (is_dot b) (list_any is_dot bs) e in
    rw both.0 (none bs both.1)

go : (bs : List ℕ) (any : Bool) → list_any is_dot bs ≡ any → (if any then after_last_dot bs else []) ≡ after_last_dot bs
go bs true e = refl
go bs false e = sym (none bs e)

pub after_last_dot-any : (bs : List ℕ) → (if list_any is_dot bs then after_last_dot bs else []) ≡ after_last_dot bs
after_last_dot-any bs = go bs (list_any is_dot bs) refl
