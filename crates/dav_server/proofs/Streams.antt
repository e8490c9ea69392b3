-- Reads and writes of a batch, piece by piece.
use Rattle.std.proofs.Common.{◌≡◌, ◌∙◌, ℕ, ◌+◌, List, [], ◌∷◌, ◌++◌, length, map, flat_map, refl, ap, sym, subst, Option, Some, Result, Ok, Err, OnOk, Vec, length-append, append-nil, append_assoc}
use Rattle.std.proofs.lemmas.List.{length-map}
use Rattle.std.proofs.lemmas.List.Folds.{flat_map-map}
use Rattle.std.specs.Io.KnownBytes.{Appends, Consumes, Keeps}
use Rattle.std.specs.declared.alloc.Global.{Global}
use Rattle.std.proofs.KnownBytes.{Consumes-trans, Appends-trans, Appends-kept}
use Rattle.dav_wire.specs.Batches.{batch, batch_header, reply_header, three_numbers}
use Rattle.dav_wire.specs.Codec.{decode, decode_exact}
use Rattle.dav_wire.specs.Numbers.{number}
use Rattle.dav_wire.specs.Values.{text}
use Rattle.dav_wire.specs.declared.batch.BatchHeader.{BatchHeader}
use Rattle.dav_wire.specs.declared.batch.ReplyHeader.{ReplyHeader}
use Rattle.dav_server.specs.Answers.{sent_bytes}
use Rattle.dav_server.specs.Exchanges.{Skips, answer_bytes}

-- ---- reads

-- what was read, and then this many bytes
pub skips_after : (a b c : Option (List ℕ)) (bs : List ℕ) (n m : ℕ) → Consumes a b bs → Skips b c n → m ≡ length bs + n → Skips a c m
skips_after a b c bs n m before rest e =
    record {
      bytes = bs ++ rest.bytes;
      read = Consumes-trans a b c bs rest.bytes before rest.read;
      all = length-append bs rest.bytes ∙ ap (λ (k : ℕ). length bs + k) rest.all ∙ sym e;
    }

-- this many bytes, and then these
pub skips_more : (a b c : Option (List ℕ)) (n m : ℕ) (bs : List ℕ) → Skips a b n → Consumes b c bs → m ≡ n + length bs → Skips a c m
skips_more a b c n m bs before read e =
    skips_after a b c before.bytes (length bs) m before.read (record { bytes = bs; read = read; all = refl })
    (e ∙ ap (λ (k : ℕ). k + length bs) (sym before.all))

-- the first byte of a header, and then its other bytes
pub header_read :
    (a b c : Option (List ℕ)) (first : ℕ) (rest : List ℕ) (h : BatchHeader) → Consumes a b (first ∷ []) → Consumes b c rest
    → decode batch_header (first ∷ (rest ++ [])) ≡ Some h → Consumes a c (batch_header.encode h)
header_read a b c first rest h one others read =
    let whole : first ∷ rest ≡ batch_header.encode h =
    ap (λ (bs : List ℕ). first ∷ bs) (sym (append-nil rest)) ∙ (decode_exact batch_header (first ∷ (rest ++ [])) h read).1 in
    subst (Consumes a c) whole (Consumes-trans a b c (first ∷ []) rest one others)

-- ---- writes

-- these bytes, and then those of a last write
pub writes_after :
    {T E : Type 0} (r : Result T E) (a b c : Option (List ℕ)) (bs more all : List ℕ) → Appends a b bs → OnOk r (Appends b c more)
    → all ≡ bs ++ more → OnOk r (Appends a c all)
writes_after (Ok x) a b c bs more all before last e = subst (Appends a c) (sym e) (Appends-trans a b c bs more before last)
writes_after (Err x) a b c bs more all before last e = tt

-- these bytes, and then a flush
pub writes_kept :
    {T E : Type 0} (r : Result T E) (a b c : Option (List ℕ)) (bs all : List ℕ) → Appends a b bs → Keeps b c → all ≡ bs → OnOk r (Appends a c all)
writes_kept (Ok x) a b c bs all before kept e = subst (Appends a c) (sym e) (Appends-kept a b c bs before kept)
writes_kept (Err x) a b c bs all before kept e = tt

pub text_is : (bs : List ℕ) → text.encode bs ≡ number.encode (length bs) ++ bs
unfolding text
text_is bs = refl

abbrev pub reply_bytes : Option (Vec ℕ Global) → List ℕ
reply_bytes reply = text.encode (sent_bytes reply)

-- the bytes of an answer with this number of replies, up to these
abbrev pub part_of_answer : ℕ → ℕ → ℕ → List (Option (Vec ℕ Global)) → List ℕ
part_of_answer n status count replies = three_numbers.encode (n, (status, count)) ++ flat_map reply_bytes replies

-- the header alone
pub header_sent :
    (a b : Option (List ℕ)) (h : ReplyHeader) (bytes : List ℕ) (status count : ℕ) → bytes ≡ reply_header.encode h → h.status ≡ status → h.count ≡ count
    → Appends a b bytes → Appends a b (part_of_answer h.number status count [])
unfolding reply_header
header_sent a b h bytes status count is same_status same_count written =
    let alone : bytes ≡ part_of_answer h.number h.status h.count [] =
    is ∙ sym (append-nil (three_numbers.encode (h.number, (h.status, h.count)))) in
    subst (Appends a b) (alone ∙ λ i. part_of_answer h.number (same_status i) (same_count i) []) written

-- the header and all replies
pub answer_is :
    (n status : ℕ) (replies : List (Option (Vec ℕ Global)))
    → answer_bytes (record { number = n; status = status; replies = map sent_bytes replies }) ≡ part_of_answer n status (length replies) replies
unfolding batch
answer_is n status replies =
    let count = number.encode (length replies) in
    let parts = flat_map reply_bytes replies in
    let same : batch.encode (map sent_bytes replies) ≡ count ++ parts =
    ap (λ (k : ℕ). number.encode k ++ flat_map text.encode (map sent_bytes replies)) (length-map replies sent_bytes)
    ∙ ap (λ (bs : List ℕ). count ++ bs) (flat_map-map text.encode sent_bytes replies) in
    ap (λ (bs : List ℕ). number.encode n ++ (number.encode status ++ bs)) same
    ∙ ap (λ (bs : List ℕ). number.encode n ++ bs) (sym (append_assoc (number.encode status) count parts))
    ∙ sym (append_assoc (number.encode n) (number.encode status ++ count) parts)
