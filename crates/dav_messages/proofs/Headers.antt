-- How the header fields of a reply grow.
use Rattle.std.proofs.Common.{◌≡◌, ℕ, List, [], ◌∷◌, ◌++◌}
use Rattle.http_header.specs.HeaderMap.{Entries, insert}
use Rattle.http_header.specs.FieldValue.{FieldValue}
use Rattle.http_header.proofs.PlacesLemmas.{IsAbsent-from_index_of}
use Rattle.dav_messages.specs.ReplyHeader.{HasRoomFor}

-- a field whose name is new goes last
pub insert-new : (headers : Entries FieldValue) (name : List ℕ) (value : FieldValue) → HasRoomFor headers name
    → insert headers name value ≡ headers ++ (name, value ∷ []) ∷ []
insert-new headers name value room = (IsAbsent-from_index_of headers name room.is_new).updates (λ _. value ∷ [])
