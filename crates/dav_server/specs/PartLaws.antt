-- That a read of a file reveals to a principal nothing else than what it may see: from each store that looks alike to it, the reply may be the same.
use Rattle.std.proofs.Common.{◌≡◌, ◌∙◌, List, [], ◌∷◌, Option, Result, Ok, Err, ap, inl, inr}
use Rattle.std.specs.Prelude.{not, ℕ}
use Rattle.std.specs.FinMap.{get}
use Rattle.dav_key.specs.Key.{Key}
use Rattle.dav_resource.specs.PathText.{PathValue}
use Rattle.dav_resource.specs.declared.error.DavError.{DavError}
use Rattle.dav_resource.specs.declared.record.Op.TheVariants as ops
use Rattle.dav_access.proofs.AlikeCalls.{same_none, same_directory}
use Rattle.dav_access.proofs.ReadLaws.{unrefused_seen}
use Rattle.dav_access.specs.Reading.{sight_by}
use Rattle.dav_access.specs.Sight.{LooksAlike}
use Rattle.dav_rights.specs.Access.{refuses_by}
use Rattle.dav_rights.specs.declared.rule.Rule.{Rule}
use Rattle.dav_store.specs.Calls.{Reads}
use Rattle.dav_store.specs.Store.{Contents}
use Rattle.dav_wire.specs.Frames.{ReadValue}
use Rattle.dav_wire.specs.Replies.{PartValue, ReplyValue}
use Rattle.dav_wire.specs.Replies as replies
use Rattle.dav_server.specs.Parts.{MayList, MayRead, ReturnsPart, IsUnfit, IsUnread, ReturnsAt, ReadsBy}

module _ (rights : Option (List Rule)) (said : Reads) (one other : Contents) (alike : LooksAlike (sight_by rights) one other) where
  same_metas : (key : Key) → MayList (refuses_by rights) key → other.metas key ≡ one.metas key
  same_metas key may = alike.metas key (unrefused_seen rights ops.Metadata (key ∷ []) (ap not may))

  part_too : (key : Key) (asked : ReadValue) (part : PartValue) → MayRead (refuses_by rights) key → ReturnsPart said one key asked part → ReturnsPart said other key asked part
  part_too key asked part may returns = record {
    bytes = returns.bytes;
    meta = returns.meta;
    read = returns.read;
    file = ap (λ standing. standing.0) (alike.read key (unrefused_seen rights ops.ReadBytes (key ∷ []) (ap not may.1))) ∙ returns.file;
    known = same_metas key may.0 ∙ returns.known;
    whole = returns.whole;
    same = returns.same;
    is = returns.is;
    count = returns.count;
    answer = returns.answer;
  }

  unfit_too : (key : Key) (asked : ReadValue) (status : ℕ) → MayList (refuses_by rights) key → IsUnfit one key asked status → IsUnfit other key asked status
  unfit_too key asked status may (inl none) = inl (none.0, same_none (get one.tree key) (get other.tree key) (alike.kinds key) none.1)
  unfit_too key asked status may (inr version) = inr (version.0, record { meta = version.1.meta; known = same_metas key may ∙ version.1.known; other = version.1.other })

  unread_too : (key : Key) (asked : ReadValue) (status : ℕ) → IsUnread (refuses_by rights) said one key asked status → IsUnread (refuses_by rights) said other key asked status
  unread_too key asked status (inl unfit) = inl (unfit.0, unfit_too key asked status unfit.0 unfit.1)
  unread_too key asked status (inr failed) = inr failed

  returns_too : (key : Key) (asked : ReadValue) (reply : ReplyValue) → ReturnsAt (refuses_by rights) said one key asked reply → ReturnsAt (refuses_by rights) said other key asked reply
  returns_too key asked (replies.Part part) returns = (returns.0, part_too key asked part returns.0 returns.1)
  returns_too key asked replies.Collection returns = (returns.0, same_directory (get one.tree key) (get other.tree key) (alike.kinds key) returns.1)
  returns_too key asked (replies.Failed status) returns = unread_too key asked status returns
  returns_too key asked reply returns = absurd returns

  pub reads_alike : (path : Result PathValue DavError) (asked : ReadValue) (reply : ReplyValue) → ReadsBy path (refuses_by rights) said one asked reply → ReadsBy path (refuses_by rights) said other asked reply
  reads_alike (Ok path) asked reply (inl returns) = inl (returns_too path.key asked reply returns)
  reads_alike (Ok path) asked reply (inr memory) = inr memory
  reads_alike (Err e) asked reply failed = failed
