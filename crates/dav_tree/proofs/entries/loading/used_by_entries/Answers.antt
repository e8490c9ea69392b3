use Rattle.std.proofs.Common.{◌≡◌, ◌∙◌, ◌+◌, ◌<◌, length, sym, ap, subst, true, arith}
use Rattle.std.proofs.lemmas.List.Sums.{sum_by_more}
use Rattle.dav_tree.specs.Entry.{is_held}
use Rattle.dav_tree.proofs.Keeping.{content-small}
use Rattle.dav_tree.proofs.Loaded.{entry_size}
use Rattle.dav_tree.proofs.entries.loading.used_by_entries.Goals as goal

pub len-requires : goal.len-requires
len-requires g c =
    let at : c.loop-entry.entry-index < length c.args.entries.now = omega arith in
    subst (λ e. is_held (g.M.Medium.holds c.args.medium.now) e.1.now.content ≡ true) (sym c.entry-item.is) (c.requires c.loop-entry.entry-index c.entry-item.result at)

pub loop-entry-preserved : goal.loop-entry-preserved
loop-entry-preserved g c =
    let b = g.M.Medium.bytes c.args.medium.now in
    let h = g.M.Medium.holds c.args.medium.now in
    let at : c.loop-entry.entry-index < length c.args.entries.now = omega arith in
    let held = subst (λ e. is_held h e.1.now.content ≡ true) (sym c.entry-item.is) (c.requires c.loop-entry.entry-index c.entry-item.result at) in
    let small = content-small b h (g.met.M.Medium.small c.args.medium.now) c.entry-item.result.1.now.content held in
    record {
      value = (λ i. c.loop-entry.invariant.value i + (c.len.ensures ∙ ap (entry_size b) c.entry-item.is) i)
          ∙ sym (sum_by_more (entry_size b) c.args.entries.now c.loop-entry.entry-index c.entry-item.result at);
      small = omega (arith, c.loop-entry.invariant.small, c.len.ensures, small);
    }
