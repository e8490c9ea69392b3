-- Locks, written part by part.
use Rattle.std.proofs.Common.{ℕ, refl, List, Result}
use Rattle.dav_store.specs.declared.lock.DavLock.{DavLock}
use Rattle.dav_wire.specs.Combine.{pair}
use Rattle.dav_wire.specs.Numbers.{number}
use Rattle.dav_wire.specs.Values.{utf8_text, flag, optional}
use Rattle.dav_wire.specs.Writes.{Appends, WritesUnless}
use Rattle.dav_wire.specs.declared.error.WireError.{WireError}
use Rattle.dav_wire.proofs.WriteLemmas.{writes_unless_as, writes_pair_unless}
use Rattle.dav_cells.specs.Elements.{element_codec}
use Rattle.dav_cells.specs.Paths.{path_codec}
use Rattle.dav_cells.specs.Locks.{lock_codec, parts_of_lock, IsOwnerTooDeep}

pub lock_written :
    {U : Type 0} (x : DavLock) (old b c d e f g h new : List ℕ) (r : Result U WireError)
    → Appends utf8_text x.token old b → Appends path_codec x.path b c → Appends (optional utf8_text) x.principal c d
    → Appends (optional number) x.timeout d e → Appends (optional number) x.timeout_at e f → Appends flag x.shared f g → Appends flag x.deep g h
    → WritesUnless (IsOwnerTooDeep x.owner) (optional element_codec) x.owner h r new
    → WritesUnless (IsOwnerTooDeep x.owner) lock_codec x old r new
unfolding lock_codec
lock_written x old b c d e f g h new r token path principal timeout timeout_at shared deep owner =
    let R : Type 0 = IsOwnerTooDeep x.owner in
    let p = parts_of_lock x in
    let from_deep = pair flag (optional element_codec) in
    let from_shared = pair flag from_deep in
    let from_end = pair (optional number) from_shared in
    let from_timeout = pair (optional number) from_end in
    let from_principal = pair (optional utf8_text) from_timeout in
    let from_path = pair path_codec from_principal in
    let seventh = writes_pair_unless R flag (optional element_codec) x.deep x.owner g h new r deep owner in
    let sixth = writes_pair_unless R flag from_deep x.shared p.1.1.1.1.1.1 f g new r shared seventh in
    let fifth = writes_pair_unless R (optional number) from_shared x.timeout_at p.1.1.1.1.1 e f new r timeout_at sixth in
    let fourth = writes_pair_unless R (optional number) from_end x.timeout p.1.1.1.1 d e new r timeout fifth in
    let third = writes_pair_unless R (optional utf8_text) from_timeout x.principal p.1.1.1 c d new r principal fourth in
    let second = writes_pair_unless R path_codec from_principal x.path p.1.1 b c new r path third in
    let first = writes_pair_unless R utf8_text from_path x.token p.1 old b new r token second in
    writes_unless_as R (pair utf8_text from_path) lock_codec p x old new r (λ ok. ok) refl first
