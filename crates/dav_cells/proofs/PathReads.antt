-- The path of a URL is that of a key below a prefix, if its key begins with the prefix.
use Rattle.std.proofs.Common.{◌≡◌, ◌≢◌, ◌∙◌, ℕ, Bool, true, false, ◌||◌, ◌==◌, if◌then◌else◌, refl, ap, sym, subst, List, [], ◌∷◌, ◌++◌, length, take, bytes_eq, codes, Result, Ok, Err}
use Rattle.std.specs.List.{starts_with}
use Rattle.std.proofs.lemmas.List.{take_at, drop_at}
use Rattle.std.proofs.lemmas.Slice.Eq.{bytes_eq-Decides, slice_eq-Decides}
use Rattle.dav_key.specs.Key.{Key}
use Rattle.dav_resource.proofs.RoundTrip.{not_empty, read_key-url_text}
use Rattle.dav_resource.specs.declared.error.DavError.{DavError}
use Rattle.dav_resource.specs.PathText.{PathValue, star_path, read_path, read_key, read_prefix, below_prefix, path_part, ends_in_slash, on_ok, url_text, IsKey}
use Rattle.dav_resource.specs.PathForms.{root_path, resource_path, ReadsBack}
use Rattle.dav_cells.specs.Paths.{path_of_parts}

-- ---- what a path below no prefix was read from

pub record IsReadFrom (text : List ℕ) (trailing : Bool) (all : Key) : Type 0 where
  pub not_star : bytes_eq text (codes "*") ≡ false
  pub key : read_key (path_part text) ≡ Ok all
  pub slash : (ends_in_slash (path_part text) || length all == 0) ≡ trailing

-- the same of the parts of the reading
record Parts (is_star : Bool) (read : Result Key DavError) (ends trailing : Bool) (all : Key) : Type 0 where
  not_star : is_star ≡ false
  key : read ≡ Ok all
  slash : (ends || length all == 0) ≡ trailing

same_parts :
    (ends slash : Bool) (k key : Key)
    → ◌≡◌ {A = PathValue} (record { star = false; slash = ends || length k == 0; prefix = []; key = k }) (record { star = false; slash = slash; prefix = []; key = key })
    → Parts false (Ok k) ends slash key
same_parts ends slash k key e =
    let same : k ≡ key = ap (λ (p : PathValue). p.key) e in
    record {
      not_star = refl;
      key = ap (λ (x : Key). Ok x) same;
      slash = ap (λ (x : Key). ends || length x == 0) (sym same) ∙ ap (λ (p : PathValue). p.slash) e;
    }

parts_of :
    (is_star : Bool) (read : Result Key DavError) (ends slash : Bool) (key : Key)
    → (if is_star then Ok star_path else on_ok read (λ k. on_ok (Ok []) (below_prefix ends k))) ≡ Ok (record { star = false; slash = slash; prefix = []; key = key })
    → Parts is_star read ends slash key
parts_of true read ends slash key e =
    let same : star_path ≡ record { star = false; slash = slash; prefix = []; key = key } = cc in
    let clash : true ≡ false = ap (λ (p : PathValue). p.star) same in
    absurd cc
parts_of false (Err x) ends slash key e = absurd cc
parts_of false (Ok k) ends slash key e = same_parts ends slash k key cc

pub is_read_from : (text : List ℕ) (slash : Bool) (key : Key) → read_path text [] ≡ Ok (record { star = false; slash = slash; prefix = []; key = key }) → IsReadFrom text slash key
is_read_from text slash key e =
    let parts = parts_of (bytes_eq text (codes "*")) (read_key (path_part text)) (ends_in_slash (path_part text)) slash key e in
    record { not_star = parts.not_star; key = parts.key; slash = parts.slash }

-- ---- below a prefix

-- what is read as a key is not empty
prefix_of : (above : List ℕ) (prefix : Key) → read_key above ≡ Ok prefix → read_prefix above ≡ Ok prefix
prefix_of [] prefix e = absurd cc
prefix_of (b ∷ above) prefix e = e

begins : (prefix key : Key) → starts_with bytes_eq (prefix ++ key) prefix ≡ true
begins prefix key =
    (slice_eq-Decides bytes_eq-Decides prefix (take (length prefix) (prefix ++ key)) (starts_with bytes_eq (prefix ++ key) prefix) refl).1
    (sym (take_at prefix key (length prefix) refl))

or_false : (b : Bool) → (b || false) ≡ b
or_false true = refl
or_false false = refl

-- the slash is that of the text, where there is a prefix
same_slash :
    (prefix key : Key) (ends slash : Bool) → prefix ≢ [] → (ends || length (prefix ++ key) == 0) ≡ (slash || length (prefix ++ key) == 0)
    → ends ≡ slash
same_slash [] key ends slash below e = absurd (below refl)
same_slash (s ∷ prefix) key ends slash below e =
    let some : (length ((s ∷ prefix) ++ key) == 0) ≡ false = not_empty (length (prefix ++ key)) in
    sym (or_false ends) ∙ (rw some at e) ∙ or_false slash

pub read_path-below :
    (prefix key : Key) (slash : Bool) (text above : List ℕ) → prefix ≢ [] → (slash || length key == 0) ≡ slash
    → read_path text [] ≡ Ok (record { star = false; slash = slash || length (prefix ++ key) == 0; prefix = []; key = prefix ++ key })
    → read_key above ≡ Ok prefix → read_path text above ≡ Ok (path_of_parts (false, (slash, (prefix, key))))
read_path-below prefix key slash text above below normal e same =
    let from = is_read_from text (slash || length (prefix ++ key) == 0) (prefix ++ key) e in
    let ends : ends_in_slash (path_part text) ≡ slash = same_slash prefix key (ends_in_slash (path_part text)) slash below from.slash in
    rw (from.not_star, from.key, prefix_of above prefix same, begins prefix key, drop_at prefix key (length prefix) refl, ends, normal) refl

or_again : (a b : Bool) → ((a || b) || b) ≡ (a || b)
or_again true b = refl
or_again false true = refl
or_again false false = refl

-- the texts of the whole key and of the prefix, as they are written
pub read_path-written :
    (prefix key joined copied : Key) (slash : Bool) (path top : PathValue) (text above : List ℕ) → prefix ≢ [] → (slash || length key == 0) ≡ slash
    → joined ≡ prefix ++ key → path ≡ resource_path slash (record root_path { key = joined }) → ReadsBack path text
    → IsKey prefix → copied ≡ prefix → top ≡ resource_path false (record root_path { key = copied }) → above ≡ url_text top
    → read_path text above ≡ Ok (path_of_parts (false, (slash, (prefix, key))))
read_path-written prefix key joined copied slash path top text above below normal whole path_is back is copy top_is above_is =
    let all : Key = prefix ++ key in
    let root : PathValue = record root_path { key = prefix } in
    let of_joined = path_is ∙ ap (λ (k : Key). resource_path slash (record root_path { key = k })) whole in
    let of_copied = top_is ∙ ap (λ (k : Key). resource_path false (record root_path { key = k })) copy in
    let read = (subst (λ (p : PathValue). ReadsBack p text) of_joined back)
    ∙ ap (λ (b : Bool). Ok (record { star = false; slash = b; prefix = []; key = all })) (or_again slash (length all == 0)) in
    let written = above_is ∙ ap url_text of_copied in
    let read_above = ap read_key written ∙ read_key-url_text (resource_path false root) is refl in
    read_path-below prefix key slash text above below normal read read_above
