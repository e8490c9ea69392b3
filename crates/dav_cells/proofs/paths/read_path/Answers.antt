use Rattle.std.proofs.Common.{refl, ◌≡◌, Some, Bool}
use Rattle.dav_key.specs.Key.{Key}
use Rattle.dav_wire.specs.Values.{flag}
use Rattle.dav_wire.proofs.ReadLemmas.{may_allocate, stops_allocating}
use Rattle.dav_cells.specs.Paths.{key_codec, path_codec}
use Rattle.dav_cells.proofs.PathCells.{path_parts, path_result}
use Rattle.dav_cells.proofs.paths.read_path.Goals as goal

pub returns-in_err-star : goal.returns-in_err-star
unfolding path_codec
returns-in_err-star c =
    stops_allocating flag path_codec (λ path. path) c.args.reader.now c.args.reader.now _ c.from_residual.result c.in_err-star.field-0.0 c.from_residual.ensures.1
    (λ none. rw none refl) (may_allocate flag c.args.reader.now _ c.in_err-star.ensures)

pub returns-in_err-slash : goal.returns-in_err-slash
unfolding path_codec
returns-in_err-slash c =
    stops_allocating flag path_codec (λ path. path) c.args.reader.now c.read_flag.new.reader _ c.from_residual-in_err-slash.result c.in_err-slash.field-0.0 c.from_residual-in_err-slash.ensures.1
    (λ none. rw (c.in_ok-star.ensures, none) refl) (may_allocate flag c.read_flag.new.reader _ c.in_err-slash.ensures)

pub returns-in_err-prefix : goal.returns-in_err-prefix
unfolding path_codec
returns-in_err-prefix c =
    stops_allocating key_codec path_codec (λ path. path) c.args.reader.now c.read_flag-2.new.reader _ c.from_residual-in_err-prefix.result c.in_err-prefix.field-0.0 c.from_residual-in_err-prefix.ensures.1
    (λ none. rw (c.in_ok-star.ensures, c.in_ok-slash.ensures, none) refl) c.in_err-prefix.ensures.read

pub returns-in_err-key : goal.returns-in_err-key
unfolding path_codec
returns-in_err-key c =
    stops_allocating key_codec path_codec (λ path. path) c.args.reader.now c.read_key.new.reader _ c.from_residual-in_err-key.result c.in_err-key.field-0.0 c.from_residual-in_err-key.ensures.1
    (λ none. rw (c.in_ok-star.ensures, c.in_ok-slash.ensures, c.in_ok-prefix.ensures.read, none) refl) c.in_err-key.ensures.read

pub returns : goal.returns
returns c =
    let p : Bool × (Bool × (Key × Key)) = (c.in_ok-star.star, (c.in_ok-slash.slash, (c.in_ok-prefix.prefix, c.in_ok-key.key))) in
    let parsed : path_parts.parse c.args.reader.now ≡ Some (p, c.read_key-2.new.reader) =
    rw (c.in_ok-star.ensures, c.in_ok-slash.ensures, c.in_ok-prefix.ensures.read, c.in_ok-key.ensures.read) refl in
    path_result p c.args.reader.now c.read_key-2.new.reader c.path_of_parts.result parsed c.path_of_parts.ensures.ok c.path_of_parts.ensures.whole c.path_of_parts.ensures.err
