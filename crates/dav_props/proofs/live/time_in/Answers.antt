use Rattle.std.proofs.Common.{◌≤◌, length, subst, sym}
use Rattle.dav_props.proofs.Times.{several_name_none}
use Rattle.dav_props.proofs.live.time_in.Goals as goal

pub returns-in_default-2 : goal.returns-in_default-2
returns-in_default-2 c = rw (← c.prop.view_is) (sym (several_name_none c.prop.inside.children.items (subst (λ nodes. 2 ≤ length nodes) c.as_slice.ensures.value c.in_default.len_at_least)))
