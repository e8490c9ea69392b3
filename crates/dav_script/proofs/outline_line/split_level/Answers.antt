use Rattle.dav_script.proofs.OutlineLines.{IsCharBoundary-spaces}
use Rattle.dav_script.proofs.outline_line.split_level.Goals as goal

pub split_at-requires : goal.split_at-requires
split_at-requires c = rw (c.spaces-spaces.ensures.value, c.as_bytes.ensures.value) (IsCharBoundary-spaces c.args.line.now c.utf8.line)
