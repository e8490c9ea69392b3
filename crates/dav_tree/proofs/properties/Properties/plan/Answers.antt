use Rattle.std.proofs.Common.{◌∙◌, ap, sym, subst, take}
use Rattle.std.specs.FinMap as fin
use Rattle.std.specs.FinMap.Entries.{find}
use Rattle.dav_key.specs.Key.{key_cmp, key_cmp_total}
use Rattle.dav_store.specs.PropertyCalls.{patched}
use Rattle.dav_tree.specs.OrderedMaps.{seen_entries}
use Rattle.dav_tree.specs.PropertyNames.{key_of}
use Rattle.dav_tree.specs.Patching.{IsPlan, changes_of}
use Rattle.dav_tree.proofs.Patching.{plan-none}
use Rattle.dav_tree.proofs.properties.Properties.plan.Goals as goal

pub loop-patch-init : goal.loop-patch-init
loop-patch-init c =
    subst (λ a. IsPlan c.args.self.now a (changes_of c.new-2.result) c.args.self.now) (sym c.new.ensures)
    (plan-none c.args.self.now (changes_of c.new-2.result) (λ q. fin.get-from_entries key_cmp_total (seen_entries key_of c.new-2.result.entries) q ∙ ap (λ es. find key_cmp q (seen_entries key_of es)) c.new-2.ensures.empty))
