-- Blocks that were served in order.
use Rattle.std.proofs.Common.{List, [], ◌∷◌, ◌++◌, refl, subst}
use Rattle.dav_script.specs.Serving.{Shared, IsServed, AreServed, without_log}
use Rattle.dav_script.specs.declared.blocks.Block.{Block}

-- one more block is served after these, and then the log is emptied
pub served-one_more : (blocks : List Block) (block : Block) (old new last : Shared) → AreServed blocks old new → IsServed block new last → AreServed (blocks ++ block ∷ []) old (without_log last)
served-one_more [] block old new last same served = (last, subst (λ shared. IsServed block shared last) same served, refl)
served-one_more (first ∷ blocks) block old new last (mid, is, rest) served = (mid, is, served-one_more blocks block (without_log mid) new last rest served)
