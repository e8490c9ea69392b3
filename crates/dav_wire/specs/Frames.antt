-- Frames: what a host asks for.
use Rattle.std.specs.Prelude.{◌≡◌, ℕ, List, [], ◌∷◌, Option, Some, None, refl}
use Rattle.dav_resource.specs.declared.request.ReqBody.{ReqBody}
use Rattle.dav_wire.specs.Codec.{Codec}
use Rattle.dav_wire.specs.Combine.{nothing, pair, as_type, variant}
use Rattle.dav_wire.specs.Numbers.{number}
use Rattle.dav_wire.specs.Values.{text, utf8_text, optional, one_of}
use Rattle.dav_wire.specs.Fields.{fields}
use Rattle.dav_wire.specs.Bodies.{request_body}

-- ---- values

-- a request: the fields are names and values, in order
pub record RequestValue : Type 0 where
  pub method : List ℕ
  pub path : List ℕ
  pub principal : Option (List ℕ)
  pub token : List ℕ
  pub fields : List (List ℕ × List ℕ)
  pub body : ReqBody

-- a read of at most `length` bytes of a file, from the byte at `place` on; an earlier part had the entity tag `version`
pub record ReadValue : Type 0 where
  pub principal : Option (List ℕ)
  pub path : List ℕ
  pub place : ℕ
  pub length : ℕ
  pub version : Option (List ℕ)

-- a question what the access rules allow a principal at a path
pub record ExplainValue : Type 0 where
  pub principal : Option (List ℕ)
  pub path : List ℕ

-- the path of a locked resource, or one below it, and the token of the lock
pub record UnlockValue : Type 0 where
  pub path : List ℕ
  pub token : List ℕ

-- when the resource at a path was last modified
pub record ModifiedValue : Type 0 where
  pub path : List ℕ
  pub time : ℕ

pub data FrameValue : Type 0 where
  Request : RequestValue → FrameValue
  -- begin a body that the store holds
  StartBody : FrameValue
  -- add bytes to the body of this number
  AddToBody : ℕ → List ℕ → FrameValue
  -- drop the body of this number
  DropBody : ℕ → FrameValue
  Read : ReadValue → FrameValue
  -- when the next lock expires
  NextExpiry : FrameValue
  -- how much is held
  Held : FrameValue
  -- begin a backup: until it ends, what files contain stays where it is
  BeginBackup : FrameValue
  -- end the backup
  EndBackup : FrameValue
  -- serve by the access rules of this text
  SetRights : List ℕ → FrameValue
  -- what the access rules allow
  Explain : ExplainValue → FrameValue
  -- which locks there are
  ListLocks : FrameValue
  -- remove a lock
  RemoveLock : UnlockValue → FrameValue
  -- set when a resource was last modified
  SetModified : ModifiedValue → FrameValue

-- ---- requests

abbrev pub RequestParts : Type 0
RequestParts = List ℕ × (List ℕ × (Option (List ℕ) × (List ℕ × (List (List ℕ × List ℕ) × ReqBody))))

abbrev pub request_of : RequestParts → RequestValue
request_of p =
    record { method = p.0; path = p.1.0; principal = p.1.1.0; token = p.1.1.1.0; fields = p.1.1.1.1.0; body = p.1.1.1.1.1 }

abbrev pub parts_of_request : RequestValue → RequestParts
parts_of_request r = (r.method, (r.path, (r.principal, (r.token, (r.fields, r.body)))))

-- the parts in this order
unfoldable pub request : Codec RequestValue
request =
    as_type (pair text (pair utf8_text (pair (optional utf8_text) (pair utf8_text (pair fields request_body)))))
    request_of parts_of_request (λ p. refl) (λ r. refl)

-- ---- reads

abbrev pub ReadParts : Type 0
ReadParts = Option (List ℕ) × (List ℕ × (ℕ × (ℕ × Option (List ℕ))))

abbrev pub read_of : ReadParts → ReadValue
read_of p = record { principal = p.0; path = p.1.0; place = p.1.1.0; length = p.1.1.1.0; version = p.1.1.1.1 }

abbrev pub parts_of_read : ReadValue → ReadParts
parts_of_read r = (r.principal, (r.path, (r.place, (r.length, r.version))))

-- the parts in this order
unfoldable pub read : Codec ReadValue
read =
    as_type (pair (optional utf8_text) (pair utf8_text (pair number (pair number (optional utf8_text)))))
    read_of parts_of_read (λ p. refl) (λ r. refl)

-- ---- questions

abbrev pub explain_of : Option (List ℕ) × List ℕ → ExplainValue
explain_of p = record { principal = p.0; path = p.1 }

abbrev pub parts_of_explain : ExplainValue → Option (List ℕ) × List ℕ
parts_of_explain r = (r.principal, r.path)

-- the parts in this order
unfoldable pub explain : Codec ExplainValue
explain = as_type (pair (optional utf8_text) utf8_text) explain_of parts_of_explain (λ p. refl) (λ r. refl)

-- ---- locks to remove

abbrev pub unlock_of : List ℕ × List ℕ → UnlockValue
unlock_of p = record { path = p.0; token = p.1 }

abbrev pub parts_of_unlock : UnlockValue → List ℕ × List ℕ
parts_of_unlock r = (r.path, r.token)

-- the parts in this order
unfoldable pub unlock : Codec UnlockValue
unlock = as_type (pair utf8_text utf8_text) unlock_of parts_of_unlock (λ p. refl) (λ r. refl)

-- ---- times of modification

abbrev pub modified_of : List ℕ × ℕ → ModifiedValue
modified_of p = record { path = p.0; time = p.1 }

abbrev pub parts_of_modified : ModifiedValue → List ℕ × ℕ
parts_of_modified r = (r.path, r.time)

-- the parts in this order
unfoldable pub modified : Codec ModifiedValue
modified = as_type (pair utf8_text number) modified_of parts_of_modified (λ p. refl) (λ r. refl)

-- ---- additions to bodies

-- the number of the body and the bytes to add
unfoldable pub add : Codec (ℕ × List ℕ)
add = pair number text

-- ---- variants

abbrev pub frame_position : FrameValue → ℕ
frame_position (Request r) = 0
frame_position StartBody = 1
frame_position (AddToBody n bytes) = 2
frame_position (DropBody n) = 3
frame_position (Read r) = 4
frame_position NextExpiry = 5
frame_position Held = 6
frame_position BeginBackup = 7
frame_position EndBackup = 8
frame_position (SetRights rules) = 9
frame_position (Explain r) = 10
frame_position ListLocks = 11
frame_position (RemoveLock r) = 12
frame_position (SetModified r) = 13

abbrev pub from_request : FrameValue → Option RequestValue
from_request (Request r) = Some r
from_request x = None

abbrev pub from_start : FrameValue → Option (Unit {0})
from_start StartBody = Some tt
from_start x = None

abbrev pub from_add : FrameValue → Option (ℕ × List ℕ)
from_add (AddToBody n bytes) = Some (n, bytes)
from_add x = None

abbrev pub from_drop : FrameValue → Option ℕ
from_drop (DropBody n) = Some n
from_drop x = None

abbrev pub from_read : FrameValue → Option ReadValue
from_read (Read r) = Some r
from_read x = None

abbrev pub from_expiry : FrameValue → Option (Unit {0})
from_expiry NextExpiry = Some tt
from_expiry x = None

abbrev pub from_held : FrameValue → Option (Unit {0})
from_held Held = Some tt
from_held x = None

abbrev pub from_begin : FrameValue → Option (Unit {0})
from_begin BeginBackup = Some tt
from_begin x = None

abbrev pub from_end : FrameValue → Option (Unit {0})
from_end EndBackup = Some tt
from_end x = None

abbrev pub from_rights : FrameValue → Option (List ℕ)
from_rights (SetRights rules) = Some rules
from_rights x = None

abbrev pub from_explain : FrameValue → Option ExplainValue
from_explain (Explain r) = Some r
from_explain x = None

abbrev pub from_locks : FrameValue → Option (Unit {0})
from_locks ListLocks = Some tt
from_locks x = None

abbrev pub from_unlock : FrameValue → Option UnlockValue
from_unlock (RemoveLock r) = Some r
from_unlock x = None

abbrev pub from_modified : FrameValue → Option ModifiedValue
from_modified (SetModified r) = Some r
from_modified x = None

abbrev pub add_of : ℕ × List ℕ → FrameValue
add_of p = AddToBody p.0 p.1

pub request_exact : (x : FrameValue) (r : RequestValue) → from_request x ≡ Some r → Request r ≡ x
request_exact (Request s) r e = cc
request_exact x r e = cc

pub start_exact : (x : FrameValue) (u : Unit {0}) → from_start x ≡ Some u → StartBody ≡ x
start_exact StartBody u e = refl
start_exact x u e = cc

pub add_exact : (x : FrameValue) (p : ℕ × List ℕ) → from_add x ≡ Some p → add_of p ≡ x
add_exact (AddToBody n bytes) p e = cc
add_exact x p e = cc

pub drop_exact : (x : FrameValue) (n : ℕ) → from_drop x ≡ Some n → DropBody n ≡ x
drop_exact (DropBody m) n e = cc
drop_exact x n e = cc

pub read_exact : (x : FrameValue) (r : ReadValue) → from_read x ≡ Some r → Read r ≡ x
read_exact (Read s) r e = cc
read_exact x r e = cc

pub expiry_exact : (x : FrameValue) (u : Unit {0}) → from_expiry x ≡ Some u → NextExpiry ≡ x
expiry_exact NextExpiry u e = refl
expiry_exact x u e = cc

pub held_exact : (x : FrameValue) (u : Unit {0}) → from_held x ≡ Some u → Held ≡ x
held_exact Held u e = refl
held_exact x u e = cc

pub begin_exact : (x : FrameValue) (u : Unit {0}) → from_begin x ≡ Some u → BeginBackup ≡ x
begin_exact BeginBackup u e = refl
begin_exact x u e = cc

pub end_exact : (x : FrameValue) (u : Unit {0}) → from_end x ≡ Some u → EndBackup ≡ x
end_exact EndBackup u e = refl
end_exact x u e = cc

pub rights_exact : (x : FrameValue) (rules : List ℕ) → from_rights x ≡ Some rules → SetRights rules ≡ x
rights_exact (SetRights rules) r e = cc
rights_exact x r e = cc

pub explain_exact : (x : FrameValue) (r : ExplainValue) → from_explain x ≡ Some r → Explain r ≡ x
explain_exact (Explain s) r e = cc
explain_exact x r e = cc

pub locks_exact : (x : FrameValue) (u : Unit {0}) → from_locks x ≡ Some u → ListLocks ≡ x
locks_exact ListLocks u e = refl
locks_exact x u e = cc

pub unlock_exact : (x : FrameValue) (r : UnlockValue) → from_unlock x ≡ Some r → RemoveLock r ≡ x
unlock_exact (RemoveLock s) r e = cc
unlock_exact x r e = cc

pub modified_exact : (x : FrameValue) (r : ModifiedValue) → from_modified x ≡ Some r → SetModified r ≡ x
modified_exact (SetModified s) r e = cc
modified_exact x r e = cc

abbrev pub request_frame : Codec FrameValue
request_frame = variant request Request from_request (λ r. refl) (λ x r e. request_exact x r e)

abbrev pub start_frame : Codec FrameValue
start_frame = variant nothing (λ u. StartBody) from_start (λ u. refl) (λ x u e. start_exact x u e)

abbrev pub add_frame : Codec FrameValue
add_frame = variant add add_of from_add (λ p. refl) (λ x p e. add_exact x p e)

abbrev pub drop_frame : Codec FrameValue
drop_frame = variant number DropBody from_drop (λ n. refl) (λ x n e. drop_exact x n e)

abbrev pub part_frame : Codec FrameValue
part_frame = variant read Read from_read (λ r. refl) (λ x r e. read_exact x r e)

abbrev pub expiry_frame : Codec FrameValue
expiry_frame = variant nothing (λ u. NextExpiry) from_expiry (λ u. refl) (λ x u e. expiry_exact x u e)

abbrev pub held_frame : Codec FrameValue
held_frame = variant nothing (λ u. Held) from_held (λ u. refl) (λ x u e. held_exact x u e)

abbrev pub begin_frame : Codec FrameValue
begin_frame = variant nothing (λ u. BeginBackup) from_begin (λ u. refl) (λ x u e. begin_exact x u e)

abbrev pub end_frame : Codec FrameValue
end_frame = variant nothing (λ u. EndBackup) from_end (λ u. refl) (λ x u e. end_exact x u e)

abbrev pub rights_frame : Codec FrameValue
rights_frame = variant utf8_text SetRights from_rights (λ rules. refl) (λ x rules e. rights_exact x rules e)

abbrev pub explain_frame : Codec FrameValue
explain_frame = variant explain Explain from_explain (λ r. refl) (λ x r e. explain_exact x r e)

abbrev pub locks_frame : Codec FrameValue
locks_frame = variant nothing (λ u. ListLocks) from_locks (λ u. refl) (λ x u e. locks_exact x u e)

abbrev pub unlock_frame : Codec FrameValue
unlock_frame = variant unlock RemoveLock from_unlock (λ r. refl) (λ x r e. unlock_exact x r e)

abbrev pub modified_frame : Codec FrameValue
modified_frame = variant modified SetModified from_modified (λ r. refl) (λ x r e. modified_exact x r e)

-- ---- frames

abbrev pub frame_variants : List (Codec FrameValue)
frame_variants =
    request_frame ∷ start_frame ∷ add_frame ∷ drop_frame ∷ part_frame ∷ expiry_frame ∷ held_frame ∷ begin_frame ∷ end_frame ∷ rights_frame ∷ explain_frame
    ∷ locks_frame ∷ unlock_frame ∷ modified_frame ∷ []

-- the byte of the variant, then its content
unfoldable pub frame : Codec FrameValue
frame = one_of frame_position frame_variants
