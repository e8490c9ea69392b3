use Rattle.std.proofs.Common.{rules}
use Rattle.std.proofs.lemmas.Iterator.Consumers.{YieldsList-from_first}
use Rattle.std.proofs.lemmas.Iterator.Search.{any_from_yields_List}
use Rattle.dav_resource.specs.Element.{child_elements}
use Rattle.dav_engine.specs.LockInfo.{is_scope}
use Rattle.dav_engine.proofs.lock_info.has_scope.Goals as goal

pub returns : goal.returns
returns c = any_from_yields_List is_scope c.any.new.self _ _ c.any.ensures.ran (YieldsList-from_first (λ b. b.now) child_elements {s = c.child_elems_iter.result} _ c.child_elems_iter.ensures) (λ x b q. search rules)
