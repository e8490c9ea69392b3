use Rattle.std.proofs.Common.{◌≡◌, ◌∙◌, true, false, None, refl, sym, ap, subst}
use Rattle.dav_tree.specs.Before.{entries_code, saved_code}
use Rattle.dav_tree.specs.Entry.{is_held}
use Rattle.dav_tree.specs.Kept.{resources_by}
use Rattle.dav_tree.specs.Loading.{loaded_held}
use Rattle.dav_tree.specs.Memory.{Held, IsSound}
use Rattle.dav_tree.proofs.Dumps.{flat-keys}
use Rattle.dav_tree.proofs.tree_fs.TreeFs.load.Goals as goal

pub load-requires-clause-safe : goal.load-requires-clause-safe
load-requires-clause-safe g c = c.in-Ok.ensures.values (λ e. is_held (g.M.Medium.safe c.args.medium) e.content) c.requires

pub load-requires-clause-keys : goal.load-requires-clause-keys
load-requires-clause-keys g c =
    let b = g.M.Medium.bytes c.args.medium in
    flat-keys b c.in-Ok.nodes (c.if-not-are_sound.ensures.sound refl b)

pub invariant_of-result : goal.invariant_of-result
invariant_of-result g c =
    record { sound = subst IsSound (sym c.in-Ok-load.ensures.loaded.resources) (c.if-not-are_sound.ensures.sound refl (g.M.Medium.bytes c.args.medium)) }

pub returns-then-not-are_sound-clause-err : goal.returns-then-not-are_sound-clause-err
returns-then-not-are_sound-clause-err g c = λ tree are sound.
    let b = g.M.Medium.bytes c.args.medium in
    absurd (let clash : false ≡ true = c.if-not-are_sound.ensures.passes b (subst (λ t. IsSound (resources_by b t)) (sym (c.in-Ok.ensures.ok tree are)) sound) in cc)

pub returns-clause-memory : goal.returns-clause-memory
returns-clause-memory g c = λ tree are.
    let m = g.M.Medium in
    let b = m.bytes c.args.medium in
    let loaded = c.in-Ok-load.ensures.loaded in
    let same = c.in-Ok.ensures.ok tree are in
    λ i. record {
      resources = (loaded.resources ∙ ap (resources_by b) same) i;
      version = c.args.version;
      moment = 0;
      limit = c.args.limit;
      tag_part = None;
      marks = false;
      held = (loaded.held ∙ ap (loaded_held m.body_code b) same) i;
    }

pub returns-clause-entries : goal.returns-clause-entries
returns-clause-entries g c = λ tree are. c.in-Ok-load.ensures.loaded.entries ∙ ap (entries_code g.M.Medium.body_code) (c.in-Ok.ensures.ok tree are)

pub returns-clause-saved : goal.returns-clause-saved
returns-clause-saved g c =
    let loaded = c.in-Ok-load.ensures.loaded in
    (λ i. saved_code (loaded.entries i) (loaded.resources i)) ∙ sym (ap (λ (h : Held). h.before) loaded.held)

pub returns-clause-older : goal.returns-clause-older
returns-clause-older g c = c.in-Ok-load.ensures.loaded.older
