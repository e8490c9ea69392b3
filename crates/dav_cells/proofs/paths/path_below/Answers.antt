use Rattle.std.proofs.Common.{◌≡◌, ◌∙◌, sym, string_bytes, false, Ok, Result}
use Rattle.dav_resource.proofs.KeyLemmas.{IsKey-append}
use Rattle.dav_resource.specs.declared.error.DavError.{DavError}
use Rattle.dav_resource.specs.PathText.{PathValue, read_path}
use Rattle.dav_cells.specs.Paths.{path_of_parts}
use Rattle.dav_cells.proofs.PathReads.{read_path-written}
use Rattle.dav_cells.proofs.paths.path_below.Goals as goal

pub of_key-requires : goal.of_key-requires
of_key-requires c = rw c.in_ok-join.ensures (IsKey-append c.args.prefix.now c.args.key.now c.requires.prefix c.requires.key)

pub returns-in-Ok : goal.returns-in-Ok
returns-in-Ok c =
    let text = string_bytes c.in_ok-text.text in
    let above = string_bytes c.in_ok-above.above in
    let read : read_path text above ≡ Ok c.in-Ok.path = rw (c.deref.ensures, c.deref-2.ensures) at c.in-Ok.ensures in
    let whole = read_path-written c.args.prefix.now c.args.key.now c.in_ok-join.field-0 c.in_ok-clone.field-0 c.args.slash c.in_ok-of_key.field-0 c.in_ok-of_key-2.field-0 text above
    c.requires.below c.requires.slash c.in_ok-join.ensures c.in_ok-of_key.ensures c.in_ok-text.ensures.reads_back
    c.requires.prefix c.in_ok-clone.ensures c.in_ok-of_key-2.ensures c.in_ok-above.ensures.value in
    let same : ◌≡◌ {A = Result PathValue DavError} (Ok c.in-Ok.path) (Ok (path_of_parts (false, (c.args.slash, (c.args.prefix.now, c.args.key.now))))) = sym read ∙ whole in
    cc
