-- The header fields of a reply to a PUT, from the values that are set one by one.
use Rattle.std.proofs.Common.{◌≡◌, ℕ, ◌≤◌, List, [], ◌∷◌, ◌++◌, codes, Option, Some, None, refl, ap, ◌∙◌, arith, append_assoc, append-nil}
use Rattle.std.specs.Option.{option_map, option_map_or, option_and_then}
use Rattle.std.proofs.lemmas.Bool.Decides.{nat_tests}
use Rattle.http_header.specs.FieldValue.{FieldValue, plain_value}
use Rattle.http_header.specs.HeaderMap.{Entries}
use Rattle.dav_resource.specs.declared.meta.Meta.{Meta}
use Rattle.dav_dates.specs.Moment.{last_shown}
use Rattle.dav_dates.specs.HttpDate.{http_date_text}
use Rattle.dav_messages.specs.Reply.{field}
use Rattle.dav_messages.specs.ReplyHeader.{optional_field}
use Rattle.dav_engine.specs.PutReply.{known_headers, put_headers, shown_change, shown_tag, empty_length, quoted}

-- a moment that is known and can be shown
change_is : (meta : Option Meta) (m : Meta) (secs : ℕ) → meta ≡ Some m → m.modified ≡ Some secs → secs ≤ last_shown
    → option_and_then shown_change meta ≡ Some secs
change_is meta m secs here known low = rw here (rw known (grind (arith, nat_tests)))

-- its value is its date
pub changed-some : (meta : Option Meta) (m : Meta) (secs : ℕ) (text : List ℕ) (value : FieldValue) → meta ≡ Some m → m.modified ≡ Some secs
    → secs ≤ last_shown → text ≡ http_date_text secs → value ≡ plain_value text
    → Some value ≡ option_map (λ shown. plain_value (http_date_text shown)) (option_and_then shown_change meta)
changed-some meta m secs text value here known low dated is = rw (change_is meta m secs here known low) (ap Some (is ∙ ap plain_value dated))

fields_of : {T : Type 0} → (name : List ℕ) (text : T → List ℕ) (o : Option T)
    → optional_field name (option_map (λ t. plain_value (text t)) o) ≡ option_map_or (λ t. field name (text t) ∷ []) o []
fields_of name text None = refl
fields_of name text (Some t) = refl

known_fields : (first : Entries FieldValue) (meta : Option Meta)
    → (first ++ optional_field (codes "etag") (option_map (λ tag. plain_value (quoted tag)) (shown_tag meta)))
    ++ optional_field (codes "last-modified") (option_map (λ secs. plain_value (http_date_text secs)) (option_and_then shown_change meta))
    ≡ first ++ option_map_or known_headers meta []
known_fields first None = simp append-nil
known_fields first (Some m) =
    rw (fields_of (codes "etag") quoted m.etag, fields_of (codes "last-modified") http_date_text (shown_change m)) (append_assoc first _ _)

all_fields : (found meta : Option Meta)
    → ((([] ++ optional_field (codes "accept-ranges") (Some (plain_value (codes "bytes"))))
    ++ optional_field (codes "content-length") (empty_length found))
    ++ optional_field (codes "etag") (option_map (λ tag. plain_value (quoted tag)) (shown_tag meta)))
    ++ optional_field (codes "last-modified") (option_map (λ secs. plain_value (http_date_text secs)) (option_and_then shown_change meta))
    ≡ put_headers found meta
all_fields None meta =
    known_fields (field (codes "accept-ranges") (codes "bytes") ∷ field (codes "content-length") (codes "0") ∷ []) meta
all_fields (Some _) meta = known_fields (field (codes "accept-ranges") (codes "bytes") ∷ []) meta

-- the four fields, as they are set
pub put_headers-set : (found meta : Option Meta) (a b c d : Entries FieldValue) (tag change : Option FieldValue)
    → a ≡ [] ++ optional_field (codes "accept-ranges") (Some (plain_value (codes "bytes")))
    → b ≡ a ++ optional_field (codes "content-length") (empty_length found)
    → tag ≡ option_map (λ text. plain_value (quoted text)) (shown_tag meta)
    → c ≡ b ++ optional_field (codes "etag") tag
    → change ≡ option_map (λ secs. plain_value (http_date_text secs)) (option_and_then shown_change meta)
    → d ≡ c ++ optional_field (codes "last-modified") change
    → d ≡ put_headers found meta
put_headers-set found meta a b c d tag change ranges length tagged set_tag shows set_change =
    rw (set_change, shows, set_tag, tagged, length, ranges) (all_fields found meta)
