-- Writes of the parts of frames and replies, one after the other.
use Rattle.std.proofs.Common.{refl, List, ℕ, Result}
use Rattle.dav_wire.specs.Combine.{pair}
use Rattle.dav_wire.specs.Numbers.{number}
use Rattle.dav_wire.specs.Values.{text, utf8_text, flag, optional}
use Rattle.dav_wire.specs.Trees.{tree}
use Rattle.dav_wire.specs.Fields.{fields}
use Rattle.dav_wire.specs.Bodies.{request_body}
use Rattle.dav_wire.specs.Frames.{RequestValue, request, parts_of_request, ReadValue, read, parts_of_read, ExplainValue, explain, parts_of_explain, UnlockValue, unlock, parts_of_unlock, ModifiedValue, modified, parts_of_modified}
use Rattle.dav_wire.specs.Replies.{ResponseValue, response, parts_of_response, reply_levels, PartValue, part, parts_of_part, ExplainedValue, explained, parts_of_explained, LockValue, lock, parts_of_lock}
use Rattle.dav_wire.specs.Levels.{IsBodyTooDeep, IsTreeTooDeep}
use Rattle.dav_wire.specs.Writes.{Appends, Writes, WritesUnless}
use Rattle.dav_wire.specs.declared.error.WireError.{WireError}
use Rattle.dav_wire.proofs.WriteLemmas.{writes_as, writes_pair, writes_unless_as, writes_pair_unless}

pub request_written :
    {U : Type 0} (x : RequestValue) (old b c d e f new : List ℕ) (r : Result U WireError)
    → Appends text x.method old b → Appends utf8_text x.path b c → Appends (optional utf8_text) x.principal c d
    → Appends utf8_text x.token d e → Appends fields x.fields e f
    → WritesUnless (IsBodyTooDeep x.body) request_body x.body f r new
    → WritesUnless (IsBodyTooDeep x.body) request x old r new
unfolding request
request_written x old b c d e f new r method path principal token headers content =
    let R : Type 0 = IsBodyTooDeep x.body in
    let p = parts_of_request x in
    let from_fields = pair fields request_body in
    let from_token = pair utf8_text from_fields in
    let from_principal = pair (optional utf8_text) from_token in
    let from_path = pair utf8_text from_principal in
    let fifth = writes_pair_unless R fields request_body x.fields x.body e f new r headers content in
    let fourth = writes_pair_unless R utf8_text from_fields x.token p.1.1.1.1 d e new r token fifth in
    let third = writes_pair_unless R (optional utf8_text) from_token x.principal p.1.1.1 c d new r principal fourth in
    let second = writes_pair_unless R utf8_text from_principal x.path p.1.1 b c new r path third in
    let first = writes_pair_unless R text from_path x.method p.1 old b new r method second in
    writes_unless_as R (pair text from_path) request p x old new r (λ ok. ok) refl first

pub read_written :
    {U E : Type 0} (x : ReadValue) (old b c d e new : List ℕ) (r : Result U E)
    → Appends (optional utf8_text) x.principal old b → Appends utf8_text x.path b c → Appends number x.place c d
    → Appends number x.length d e → Writes (optional utf8_text) x.version e r new → Writes read x old r new
unfolding read
read_written x old b c d e new r principal path place length version =
    let p = parts_of_read x in
    let from_length = pair number (optional utf8_text) in
    let from_place = pair number from_length in
    let from_path = pair utf8_text from_place in
    let fourth = writes_pair number (optional utf8_text) x.length x.version d e new r length version in
    let third = writes_pair number from_length x.place p.1.1.1 c d new r place fourth in
    let second = writes_pair utf8_text from_place x.path p.1.1 b c new r path third in
    let first = writes_pair (optional utf8_text) from_path x.principal p.1 old b new r principal second in
    writes_as (pair (optional utf8_text) from_path) read p x old new r (λ ok. ok) refl first

pub response_written :
    {U : Type 0} (x : ResponseValue) (old b c d new : List ℕ) (r : Result U WireError)
    → Appends number x.status old b → Appends flag x.close b c → Appends fields x.fields c d
    → WritesUnless (IsTreeTooDeep x.tree) (optional (tree reply_levels)) x.tree d r new
    → WritesUnless (IsTreeTooDeep x.tree) response x old r new
unfolding response
response_written x old b c d new r status close headers element =
    let R : Type 0 = IsTreeTooDeep x.tree in
    let p = parts_of_response x in
    let from_fields = pair fields (optional (tree reply_levels)) in
    let from_close = pair flag from_fields in
    let third = writes_pair_unless R fields (optional (tree reply_levels)) x.fields x.tree c d new r headers element in
    let second = writes_pair_unless R flag from_fields x.close p.1.1 b c new r close third in
    let first = writes_pair_unless R number from_close x.status p.1 old b new r status second in
    writes_unless_as R (pair number from_close) response p x old new r (λ ok. ok) refl first

pub part_written :
    {U E : Type 0} (x : PartValue) (old b c d e new : List ℕ) (r : Result U E)
    → Appends number x.length old b → Appends (optional number) x.modified b c → Appends (optional utf8_text) x.version c d
    → Appends utf8_text x.media_type d e → Writes text x.bytes e r new → Writes part x old r new
unfolding part
part_written x old b c d e new r length modified version media_type bytes =
    let p = parts_of_part x in
    let from_media_type = pair utf8_text text in
    let from_version = pair (optional utf8_text) from_media_type in
    let from_modified = pair (optional number) from_version in
    let fourth = writes_pair utf8_text text x.media_type x.bytes d e new r media_type bytes in
    let third = writes_pair (optional utf8_text) from_media_type x.version p.1.1.1 c d new r version fourth in
    let second = writes_pair (optional number) from_version x.modified p.1.1 b c new r modified third in
    let first = writes_pair number from_modified x.length p.1 old b new r length second in
    writes_as (pair number from_modified) part p x old new r (λ ok. ok) refl first

pub question_written :
    {U E : Type 0} (x : ExplainValue) (old b new : List ℕ) (r : Result U E)
    → Appends (optional utf8_text) x.principal old b → Writes utf8_text x.path b r new → Writes explain x old r new
unfolding explain
question_written x old b new r principal path =
    let first = writes_pair (optional utf8_text) utf8_text x.principal x.path old b new r principal path in
    writes_as (pair (optional utf8_text) utf8_text) explain (parts_of_explain x) x old new r (λ ok. ok) refl first

pub explained_written :
    {U E : Type 0} (x : ExplainedValue) (old b c d new : List ℕ) (r : Result U E)
    → Appends (optional number) x.rule old b → Appends flag x.list b c → Appends flag x.read c d → Writes flag x.write d r new → Writes explained x old r new
unfolding explained
explained_written x old b c d new r rule list read write =
    let p = parts_of_explained x in
    let from_read = pair flag flag in
    let from_list = pair flag from_read in
    let third = writes_pair flag flag x.read x.write c d new r read write in
    let second = writes_pair flag from_read x.list p.1.1 b c new r list third in
    let first = writes_pair (optional number) from_list x.rule p.1 old b new r rule second in
    writes_as (pair (optional number) from_list) explained p x old new r (λ ok. ok) refl first

pub unlock_written :
    {U E : Type 0} (x : UnlockValue) (old b new : List ℕ) (r : Result U E)
    → Appends utf8_text x.path old b → Writes utf8_text x.token b r new → Writes unlock x old r new
unfolding unlock
unlock_written x old b new r path token =
    let first = writes_pair utf8_text utf8_text x.path x.token old b new r path token in
    writes_as (pair utf8_text utf8_text) unlock (parts_of_unlock x) x old new r (λ ok. ok) refl first

pub modified_written :
    {U E : Type 0} (x : ModifiedValue) (old b new : List ℕ) (r : Result U E)
    → Appends utf8_text x.path old b → Writes number x.time b r new → Writes modified x old r new
unfolding modified
modified_written x old b new r path time =
    let first = writes_pair utf8_text number x.path x.time old b new r path time in
    writes_as (pair utf8_text number) modified (parts_of_modified x) x old new r (λ ok. ok) refl first

pub lock_written :
    {U E : Type 0} (x : LockValue) (old b c d e f new : List ℕ) (r : Result U E)
    → Appends utf8_text x.token old b → Appends utf8_text x.path b c → Appends (optional utf8_text) x.principal c d
    → Appends flag x.deep d e → Appends flag x.shared e f → Writes (optional number) x.expires f r new → Writes lock x old r new
unfolding lock
lock_written x old b c d e f new r token path principal deep shared expires =
    let p = parts_of_lock x in
    let from_shared = pair flag (optional number) in
    let from_deep = pair flag from_shared in
    let from_principal = pair (optional utf8_text) from_deep in
    let from_path = pair utf8_text from_principal in
    let fifth = writes_pair flag (optional number) x.shared x.expires e f new r shared expires in
    let fourth = writes_pair flag from_shared x.deep p.1.1.1.1 d e new r deep fifth in
    let third = writes_pair (optional utf8_text) from_deep x.principal p.1.1.1 c d new r principal fourth in
    let second = writes_pair utf8_text from_principal x.path p.1.1 b c new r path third in
    let first = writes_pair utf8_text from_path x.token p.1 old b new r token second in
    writes_as (pair utf8_text from_path) lock p x old new r (λ ok. ok) refl first
