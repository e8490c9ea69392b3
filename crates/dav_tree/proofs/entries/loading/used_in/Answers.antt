use Rattle.std.proofs.Common.{◌∙◌, All, sym, ap, subst, true, ◌≡◌}
use Rattle.std.specs.List.{sum_by}
use Rattle.dav_tree.specs.Entry.{is_held}
use Rattle.dav_tree.proofs.Loaded.{entry_size, held-seen, used-seen}
use Rattle.dav_tree.proofs.entries.loading.used_in.Goals as goal

pub used_by_entries-requires : goal.used_by_entries-requires
used_by_entries-requires g c =
    let m = g.M.Medium in
    subst (All (λ e. is_held (m.holds c.args.medium.now) e.1.now.content ≡ true)) (sym c.deref.ensures.value)
    (held-seen (m.holds c.args.medium.now) c.args.nodes.now c.in_ok-entries.entries.items c.in_ok-entries.ensures c.requires.held)

pub returns : goal.returns
returns g c =
    let b = g.M.Medium.bytes c.args.medium.now in
    c.used_by_entries.ensures ∙ ap (sum_by (entry_size b)) c.deref.ensures.value ∙ used-seen b c.args.nodes.now c.in_ok-entries.entries.items c.in_ok-entries.ensures
