use Rattle.std.proofs.Common.{rules}
use Rattle.std.proofs.lemmas.Iterator.Consumers.{YieldsList-from_first}
use Rattle.std.proofs.lemmas.Iterator.Search.{all_from_yields_List}
use Rattle.dav_resource.specs.Element.{child_elements}
use Rattle.dav_engine.specs.LockInfo.{is_part}
use Rattle.dav_engine.proofs.lock_info.has_parts_alone.Goals as goal

pub returns : goal.returns
returns c = all_from_yields_List is_part c.all.new.self _ _ c.all.ensures.ran (YieldsList-from_first (λ b. b.now) child_elements {s = c.child_elems_iter.result} _ c.child_elems_iter.ensures) (λ x b q. search rules)
