-- Batches: the content is frames, or replies, after a header.
use Rattle.std.specs.Prelude.{ℕ, Bool, nat_lt, List, refl}
use Rattle.dav_wire.specs.Codec.{Codec}
use Rattle.dav_wire.specs.Combine.{pair, as_type, only}
use Rattle.dav_wire.specs.Numbers.{number}
use Rattle.dav_wire.specs.Values.{text, list}
use Rattle.dav_wire.specs.declared.batch.BatchHeader.{BatchHeader}
use Rattle.dav_wire.specs.declared.batch.ReplyHeader.{ReplyHeader}

abbrev pub ThreeNumbers : Type 0
ThreeNumbers = ℕ × (ℕ × ℕ)

-- three numbers, which are 24 bytes
abbrev pub three_numbers : Codec (ℕ × (ℕ × ℕ))
three_numbers = pair number (pair number number)

abbrev pub batch_header_of : ℕ × (ℕ × ℕ) → BatchHeader
batch_header_of p = record { number = p.0; now = p.1.0; length = p.1.1 }

abbrev pub parts_of_batch_header : BatchHeader → ℕ × (ℕ × ℕ)
parts_of_batch_header h = (h.number, (h.now, h.length))

-- the header of a batch of frames: the number of the batch, its time, and how many bytes its content has
unfoldable pub batch_header : Codec BatchHeader
batch_header = as_type three_numbers batch_header_of parts_of_batch_header (λ p. refl) (λ h. refl)

abbrev pub reply_header_of : ℕ × (ℕ × ℕ) → ReplyHeader
reply_header_of p = record { number = p.0; status = p.1.0; count = p.1.1 }

abbrev pub parts_of_reply_header : ReplyHeader → ℕ × (ℕ × ℕ)
parts_of_reply_header h = (h.number, (h.status, h.count))

-- the status is a number of 16 bits
abbrev pub has_status : ReplyHeader → Bool
has_status h = nat_lt h.status 65536

-- the header of a batch of replies: the number of the batch, its status, and how many replies follow
unfoldable pub reply_header : Codec ReplyHeader
reply_header = only has_status (as_type three_numbers reply_header_of parts_of_reply_header (λ p. refl) (λ h. refl))

-- how many frames or replies, and then each as a byte string
unfoldable pub batch : Codec (List (List ℕ))
batch = list text
