-- Paths, written and read part by part.
use Rattle.std.proofs.Common.{◌≡◌, ℕ, Bool, true, false, not, ◌&&◌, ◌||◌, ◌==◌, refl, ap, List, length, Some, Result, Ok, Err, IfOk, OnOk, IfErr}
use Rattle.std.proofs.lemmas.Bool.{and_from}
use Rattle.dav_resource.specs.PathText.{PathValue, star_path}
use Rattle.dav_resource.specs.PathForms.{is_collection}
use Rattle.dav_wire.specs.Codec.{Codec}
use Rattle.dav_wire.specs.Combine.{pair, as_type}
use Rattle.dav_wire.specs.Values.{flag}
use Rattle.dav_wire.specs.Writes.{Appends, Writes}
use Rattle.dav_wire.specs.Reads.{ReadsAllocating}
use Rattle.dav_wire.specs.declared.error.WireError.{WireError}
use Rattle.dav_wire.specs.declared.error.WireError.TheVariants.{Malformed, Memory}
use Rattle.dav_wire.proofs.WriteLemmas.{writes_as, writes_pair}
use Rattle.dav_cells.specs.Paths.{key_codec, path_of_parts, parts_of_path, is_whole_path, path_codec, kept_path, NotPath}

-- ---- writes

has_slash : (slash root : Bool) → ((slash || root) || not root) ≡ true
has_slash true true = refl
has_slash true false = refl
has_slash false true = refl
has_slash false false = refl

no_segments : (p : PathValue) (star : Bool) → p.star ≡ star → (star ≡ true → p ≡ star_path) → (not star || length p.prefix == 0 && length p.key == 0) ≡ true
no_segments p false e star = refl
no_segments p true e star = ap (λ (q : PathValue). length q.prefix == 0 && length q.key == 0) (star refl)

whole_kept : (p : PathValue) → (p.star ≡ true → p ≡ star_path) → is_whole_path (kept_path p) ≡ true
whole_kept p star = and_from _ _ (has_slash p.slash (length p.key == 0)) (no_segments p p.star refl star)

pub path_written :
    {U E : Type 0} (p : PathValue) (old b c d new : List ℕ) (r : Result U E) → (p.star ≡ true → p ≡ star_path)
    → Appends flag p.star old b → Appends flag (is_collection p) b c → Appends key_codec p.prefix c d → Writes key_codec p.key d r new
    → Writes path_codec (kept_path p) old r new
unfolding path_codec
path_written p old b c d new r is_star star slash prefix key =
    let q = kept_path p in
    let keys = pair key_codec key_codec in
    let from_slash = pair flag keys in
    let all = as_type (pair flag from_slash) path_of_parts parts_of_path (λ x. refl) (λ x. refl) in
    let third = writes_pair key_codec key_codec p.prefix p.key c d new r prefix key in
    let second = writes_pair flag keys (is_collection p) (p.prefix, p.key) b c new r slash third in
    let first = writes_pair flag from_slash p.star (is_collection p, (p.prefix, p.key)) old b new r star second in
    writes_as (pair flag from_slash) path_codec (parts_of_path q) q old new r
    (λ ok. and_from (all.is_valid q) (is_whole_path q) ok (whole_kept p is_star)) refl first

-- ---- reads

-- the parts of a path, as they are read
abbrev pub path_parts : Codec (Bool × (Bool × (List (List ℕ) × List (List ℕ))))
path_parts = pair flag (pair flag (pair key_codec key_codec))

pub path_result :
    (p : Bool × (Bool × (List (List ℕ) × List (List ℕ)))) (old new : List ℕ) (r : Result PathValue WireError)
    → path_parts.parse old ≡ Some (p, new) → IfOk r (λ path. path ≡ path_of_parts p) → OnOk r (is_whole_path (path_of_parts p) ≡ true)
    → IfErr r (NotPath (path_of_parts p))
    → ReadsAllocating path_codec (λ path. path) old r new
unfolding path_codec
path_result p old new (Ok path) parsed same whole other = rw (parsed, whole, same) refl
path_result p old new (Err Memory) parsed same whole other = tt
path_result p old new (Err Malformed) parsed same whole other = rw (parsed, other) refl
