-- Replies: what the program answers to frames.
use Rattle.std.specs.Prelude.{◌≡◌, ℕ, Bool, List, [], ◌∷◌, Option, Some, None, refl}
use Rattle.dav_resource.specs.Tree.{Tree}
use Rattle.dav_wire.specs.Codec.{Codec}
use Rattle.dav_wire.specs.Combine.{nothing, pair, as_type, variant}
use Rattle.dav_wire.specs.Numbers.{number}
use Rattle.dav_wire.specs.Values.{text, utf8_text, flag, optional, list, one_of}
use Rattle.dav_wire.specs.Trees.{tree}
use Rattle.dav_wire.specs.Fields.{fields}

-- how many levels of elements the body of a response may have
abbrev pub reply_levels : ℕ
reply_levels = 272

-- ---- values

-- the response to a request; `close` says whether the connection must be closed
pub record ResponseValue : Type 0 where
  pub status : ℕ
  pub close : Bool
  pub fields : List (List ℕ × List ℕ)
  pub tree : Option Tree

-- a part of a file: `length` is the whole file's length, and `version` its entity tag
pub record PartValue : Type 0 where
  pub length : ℕ
  pub modified : Option ℕ
  pub version : Option (List ℕ)
  pub media_type : List ℕ
  pub bytes : List ℕ

-- how many locks are held, and how many bytes are used and, if there is a limit, how many there may be
pub record HeldValue : Type 0 where
  pub locks : ℕ
  pub quota : Option (ℕ × Option ℕ)

-- what the access rules allow: the number of the rule that decides, if one does, and whether one may list, read and write
pub record ExplainedValue : Type 0 where
  pub rule : Option ℕ
  pub list : Bool
  pub read : Bool
  pub write : Bool

-- a lock: its token, the path of its resource, and its principal if it is known; whether it is deep and shared; and when it expires, if it does
pub record LockValue : Type 0 where
  pub token : List ℕ
  pub path : List ℕ
  pub principal : Option (List ℕ)
  pub deep : Bool
  pub shared : Bool
  pub expires : Option ℕ

pub data ReplyValue : Type 0 where
  Response : ResponseValue → ReplyValue
  -- the number of the body that was begun
  BodyStarted : ℕ → ReplyValue
  -- done, with nothing to say
  Done : ReplyValue
  Part : PartValue → ReplyValue
  -- the path of a read is that of a collection
  Collection : ReplyValue
  -- when the next lock expires
  NextExpiry : Option ℕ → ReplyValue
  Held : HeldValue → ReplyValue
  -- failed with this status
  Failed : ℕ → ReplyValue
  -- a text refused for this reason
  Refused : List ℕ → ReplyValue
  -- what the access rules allow
  Explained : ExplainedValue → ReplyValue
  -- the locks, the oldest first
  Locks : List LockValue → ReplyValue

-- ---- responses

abbrev pub ResponseParts : Type 0
ResponseParts = ℕ × (Bool × (List (List ℕ × List ℕ) × Option Tree))

abbrev pub response_of : ResponseParts → ResponseValue
response_of p = record { status = p.0; close = p.1.0; fields = p.1.1.0; tree = p.1.1.1 }

abbrev pub parts_of_response : ResponseValue → ResponseParts
parts_of_response r = (r.status, (r.close, (r.fields, r.tree)))

-- the parts in this order
unfoldable pub response : Codec ResponseValue
response =
    as_type (pair number (pair flag (pair fields (optional (tree reply_levels)))))
    response_of parts_of_response (λ p. refl) (λ r. refl)

-- ---- parts of files

abbrev pub PartParts : Type 0
PartParts = ℕ × (Option ℕ × (Option (List ℕ) × (List ℕ × List ℕ)))

abbrev pub part_of : PartParts → PartValue
part_of p = record { length = p.0; modified = p.1.0; version = p.1.1.0; media_type = p.1.1.1.0; bytes = p.1.1.1.1 }

abbrev pub parts_of_part : PartValue → PartParts
parts_of_part r = (r.length, (r.modified, (r.version, (r.media_type, r.bytes))))

-- the parts in this order
unfoldable pub part : Codec PartValue
part =
    as_type (pair number (pair (optional number) (pair (optional utf8_text) (pair utf8_text text))))
    part_of parts_of_part (λ p. refl) (λ r. refl)

-- ---- what is held

-- the used bytes, and the total if there is a limit
unfoldable pub quota : Codec (ℕ × Option ℕ)
quota = pair number (optional number)

abbrev pub held_of : ℕ × Option (ℕ × Option ℕ) → HeldValue
held_of p = record { locks = p.0; quota = p.1 }

abbrev pub parts_of_held : HeldValue → ℕ × Option (ℕ × Option ℕ)
parts_of_held h = (h.locks, h.quota)

unfoldable pub held : Codec HeldValue
held = as_type (pair number (optional quota)) held_of parts_of_held (λ p. refl) (λ h. refl)

-- ---- what is allowed

abbrev pub ExplainedParts : Type 0
ExplainedParts = Option ℕ × (Bool × (Bool × Bool))

abbrev pub explained_of : ExplainedParts → ExplainedValue
explained_of p = record { rule = p.0; list = p.1.0; read = p.1.1.0; write = p.1.1.1 }

abbrev pub parts_of_explained : ExplainedValue → ExplainedParts
parts_of_explained x = (x.rule, (x.list, (x.read, x.write)))

-- the parts in this order
unfoldable pub explained : Codec ExplainedValue
explained = as_type (pair (optional number) (pair flag (pair flag flag))) explained_of parts_of_explained (λ p. refl) (λ x. refl)

-- ---- locks

abbrev pub LockParts : Type 0
LockParts = List ℕ × (List ℕ × (Option (List ℕ) × (Bool × (Bool × Option ℕ))))

abbrev pub lock_of : LockParts → LockValue
lock_of p = record { token = p.0; path = p.1.0; principal = p.1.1.0; deep = p.1.1.1.0; shared = p.1.1.1.1.0; expires = p.1.1.1.1.1 }

abbrev pub parts_of_lock : LockValue → LockParts
parts_of_lock l = (l.token, (l.path, (l.principal, (l.deep, (l.shared, l.expires)))))

-- the parts in this order
unfoldable pub lock : Codec LockValue
lock =
    as_type (pair utf8_text (pair utf8_text (pair (optional utf8_text) (pair flag (pair flag (optional number))))))
    lock_of parts_of_lock (λ p. refl) (λ l. refl)

-- locks in order
unfoldable pub locks : Codec (List LockValue)
locks = list lock

-- ---- variants

abbrev pub reply_position : ReplyValue → ℕ
reply_position (Response r) = 0
reply_position (BodyStarted n) = 1
reply_position Done = 2
reply_position (Part p) = 3
reply_position Collection = 4
reply_position (NextExpiry t) = 5
reply_position (Held h) = 6
reply_position (Failed status) = 7
reply_position (Refused reason) = 8
reply_position (Explained x) = 9
reply_position (Locks ls) = 10

abbrev pub from_response : ReplyValue → Option ResponseValue
from_response (Response r) = Some r
from_response x = None

abbrev pub from_started : ReplyValue → Option ℕ
from_started (BodyStarted n) = Some n
from_started x = None

abbrev pub from_done : ReplyValue → Option (Unit {0})
from_done Done = Some tt
from_done x = None

abbrev pub from_part : ReplyValue → Option PartValue
from_part (Part p) = Some p
from_part x = None

abbrev pub from_collection : ReplyValue → Option (Unit {0})
from_collection Collection = Some tt
from_collection x = None

abbrev pub from_expiry : ReplyValue → Option (Option ℕ)
from_expiry (NextExpiry t) = Some t
from_expiry x = None

abbrev pub from_held : ReplyValue → Option HeldValue
from_held (Held h) = Some h
from_held x = None

abbrev pub from_failed : ReplyValue → Option ℕ
from_failed (Failed status) = Some status
from_failed x = None

abbrev pub from_refused : ReplyValue → Option (List ℕ)
from_refused (Refused reason) = Some reason
from_refused x = None

abbrev pub from_explained : ReplyValue → Option ExplainedValue
from_explained (Explained x) = Some x
from_explained x = None

abbrev pub from_locks : ReplyValue → Option (List LockValue)
from_locks (Locks ls) = Some ls
from_locks x = None

pub response_exact : (x : ReplyValue) (r : ResponseValue) → from_response x ≡ Some r → Response r ≡ x
response_exact (Response s) r e = cc
response_exact x r e = cc

pub started_exact : (x : ReplyValue) (n : ℕ) → from_started x ≡ Some n → BodyStarted n ≡ x
started_exact (BodyStarted m) n e = cc
started_exact x n e = cc

pub done_exact : (x : ReplyValue) (u : Unit {0}) → from_done x ≡ Some u → Done ≡ x
done_exact Done u e = refl
done_exact x u e = cc

pub part_exact : (x : ReplyValue) (p : PartValue) → from_part x ≡ Some p → Part p ≡ x
part_exact (Part q) p e = cc
part_exact x p e = cc

pub collection_exact : (x : ReplyValue) (u : Unit {0}) → from_collection x ≡ Some u → Collection ≡ x
collection_exact Collection u e = refl
collection_exact x u e = cc

pub expiry_exact : (x : ReplyValue) (t : Option ℕ) → from_expiry x ≡ Some t → NextExpiry t ≡ x
expiry_exact (NextExpiry s) t e = cc
expiry_exact x t e = cc

pub held_exact : (x : ReplyValue) (h : HeldValue) → from_held x ≡ Some h → Held h ≡ x
held_exact (Held g) h e = cc
held_exact x h e = cc

pub failed_exact : (x : ReplyValue) (n : ℕ) → from_failed x ≡ Some n → Failed n ≡ x
failed_exact (Failed m) n e = cc
failed_exact x n e = cc

pub refused_exact : (x : ReplyValue) (reason : List ℕ) → from_refused x ≡ Some reason → Refused reason ≡ x
refused_exact (Refused other) reason e = cc
refused_exact x reason e = cc

pub explained_exact : (x : ReplyValue) (y : ExplainedValue) → from_explained x ≡ Some y → Explained y ≡ x
explained_exact (Explained z) y e = cc
explained_exact x y e = cc

pub locks_exact : (x : ReplyValue) (ls : List LockValue) → from_locks x ≡ Some ls → Locks ls ≡ x
locks_exact (Locks other) ls e = cc
locks_exact x ls e = cc

abbrev pub response_reply : Codec ReplyValue
response_reply = variant response Response from_response (λ r. refl) (λ x r e. response_exact x r e)

abbrev pub started_reply : Codec ReplyValue
started_reply = variant number BodyStarted from_started (λ n. refl) (λ x n e. started_exact x n e)

abbrev pub done_reply : Codec ReplyValue
done_reply = variant nothing (λ u. Done) from_done (λ u. refl) (λ x u e. done_exact x u e)

abbrev pub part_reply : Codec ReplyValue
part_reply = variant part Part from_part (λ p. refl) (λ x p e. part_exact x p e)

abbrev pub collection_reply : Codec ReplyValue
collection_reply = variant nothing (λ u. Collection) from_collection (λ u. refl) (λ x u e. collection_exact x u e)

abbrev pub expiry_reply : Codec ReplyValue
expiry_reply = variant (optional number) NextExpiry from_expiry (λ t. refl) (λ x t e. expiry_exact x t e)

abbrev pub held_reply : Codec ReplyValue
held_reply = variant held Held from_held (λ h. refl) (λ x h e. held_exact x h e)

abbrev pub failed_reply : Codec ReplyValue
failed_reply = variant number Failed from_failed (λ n. refl) (λ x n e. failed_exact x n e)

abbrev pub refused_reply : Codec ReplyValue
refused_reply = variant utf8_text Refused from_refused (λ reason. refl) (λ x reason e. refused_exact x reason e)

abbrev pub explained_reply : Codec ReplyValue
explained_reply = variant explained Explained from_explained (λ x. refl) (λ x y e. explained_exact x y e)

abbrev pub locks_reply : Codec ReplyValue
locks_reply = variant locks Locks from_locks (λ ls. refl) (λ x ls e. locks_exact x ls e)

-- ---- replies

abbrev pub reply_variants : List (Codec ReplyValue)
reply_variants =
    response_reply ∷ started_reply ∷ done_reply ∷ part_reply ∷ collection_reply ∷ expiry_reply ∷ held_reply ∷ failed_reply ∷ refused_reply
    ∷ explained_reply ∷ locks_reply ∷ []

-- the byte of the variant, then its content
unfoldable pub reply : Codec ReplyValue
reply = one_of reply_position reply_variants
