use Rattle.std.proofs.Common.{◌≡◌, ◌∙◌, ap, sym, subst, length, Some, refl}
use Rattle.dav_store.specs.Calls.{bytes_from, bytes_at}
use Rattle.dav_tree.specs.Memory.{is_directory}
use Rattle.dav_tree.specs.Entry.{node_by, is_held}
use Rattle.dav_tree.proofs.Keeping.{entry-in, stored-in, numbered-in, has-now, kept-now, held-tree, resources-before, counted-before}
use Rattle.dav_tree.proofs.Outcomes.{ok_then}
use Rattle.dav_tree.proofs.Saving.{saved-now, past-now}
use Rattle.dav_tree.proofs.entries.Entries.read.Goals as goal

pub entry_at-requires : goal.entry_at-requires
entry_at-requires g c =
    let f = c.self.inside in let b = g.M.Medium.bytes f.medium in let h = g.M.Medium.holds f.medium in
    entry-in b _ f.tree.nodes f.bodies f.next _ c.args.self.now c.self.view_is c.requires.0 c.args.number c.requires.1 c.requires.2

pub unreachable-requires : goal.unreachable-requires
unreachable-requires g c =
    let f = c.self.inside in let b = g.M.Medium.bytes f.medium in let h = g.M.Medium.holds f.medium in
    let same = stored-in b _ f.tree.nodes f.bodies f.next _ c.args.self.now c.self.view_is c.requires.0 c.args.number c.requires.1 c.entry_at.result.now c.requires.2 c.entry_at.ensures in
    let kind = ap (λ x. is_directory (node_by b x)) (sym c.in_default.is) ∙ ap (λ x. is_directory x.node) same ∙ c.requires.3 in
    absurd cc

pub read-requires : goal.read-requires
read-requires g c =
    let f = c.self.inside in let b = g.M.Medium.bytes f.medium in let h = g.M.Medium.holds f.medium in
    ap (is_held h) (sym c.in-File.is) ∙ c.self.invariant.0.held c.requires.0 c.entry_at.result.now (c.entry_at.ensures c.requires.0 (numbered-in b _ f.tree.nodes f.bodies f.next _ c.args.self.now c.self.view_is c.requires.0 (Some c.args.number) c.requires.2.numbered))

pub invariant_of-self : goal.invariant_of-self
invariant_of-self g c =
    let f = c.self.inside in let b = g.M.Medium.bytes f.medium in let h = g.M.Medium.holds f.medium in (
      kept-now b (g.M.Medium.bytes c.read.new.self) h (g.M.Medium.holds c.read.new.self) c.read.ensures.kept.held c.read.ensures.kept.same _ f.tree.nodes f.used f.bodies f.next _ c.args.self.now c.self.view_is c.self.invariant.0 f.tree.nodes c.args.self.now.resources f.used (held-tree b (g.M.Medium.bytes c.read.new.self) h (g.M.Medium.holds c.read.new.self) c.read.ensures.kept.held c.read.ensures.kept.same f.tree.nodes c.self.invariant.0.held)
          (resources-before b (g.M.Medium.bytes c.read.new.self) h (g.M.Medium.holds c.read.new.self) c.read.ensures.kept.held c.read.ensures.kept.same _ f.tree.nodes f.used f.bodies f.next _ c.args.self.now c.self.view_is c.self.invariant.0) (counted-before b (g.M.Medium.bytes c.read.new.self) h (g.M.Medium.holds c.read.new.self) c.read.ensures.kept.held c.read.ensures.kept.same _ f.tree.nodes f.used f.bodies f.next _ c.args.self.now c.self.view_is c.self.invariant.0),
      saved-now g.M.Medium.bytes g.M.Medium.holds g.M.Medium.safe f.medium c.read.new.self c.read.ensures.kept _ _ refl c.self.invariant.1,
      saved-now g.M.Medium.bytes g.M.Medium.holds g.M.Medium.safe f.medium c.read.new.self c.read.ensures.kept _ _ refl c.self.invariant.2,
    )

pub returns-clause-bytes : goal.returns-clause-bytes
returns-clause-bytes g c = λ key s at.
    let f = c.self.inside in let b = g.M.Medium.bytes f.medium in let h = g.M.Medium.holds f.medium in
    let same = stored-in b _ f.tree.nodes f.bodies f.next _ c.args.self.now c.self.view_is key c.args.number s c.entry_at.result.now at c.entry_at.ensures in
    let bytes : b c.in-File.body ≡ bytes_at (Some s.node) = ap (λ x. bytes_at (Some (node_by b x))) (sym c.in-File.is) ∙ ap (λ x. bytes_at (Some x.node)) same in
    ok_then c.read.result (λ found. subst (λ bs. g.M.Medium.reading (g.M.Medium.is_honest c.read.new.self) bs c.args.place c.args.count found.items) bytes) c.read.ensures.bytes

pub returns-clause-count : goal.returns-clause-count
returns-clause-count g c = λ key s at.
    let f = c.self.inside in let b = g.M.Medium.bytes f.medium in let h = g.M.Medium.holds f.medium in
    let same = stored-in b _ f.tree.nodes f.bodies f.next _ c.args.self.now c.self.view_is key c.args.number s c.entry_at.result.now at c.entry_at.ensures in
    let bytes : b c.in-File.body ≡ bytes_at (Some s.node) = ap (λ x. bytes_at (Some (node_by b x))) (sym c.in-File.is) ∙ ap (λ x. bytes_at (Some x.node)) same in
    ok_then c.read.result (λ found is. is ∙ ap (λ bs. length (bytes_from c.args.place c.args.count bs)) bytes) c.read.ensures.count

pub returns-clause-same : goal.returns-clause-same
returns-clause-same g c =
    let f = c.self.inside in let b = g.M.Medium.bytes f.medium in let h = g.M.Medium.holds f.medium in
    has-now b (g.M.Medium.bytes c.read.new.self) h (g.M.Medium.holds c.read.new.self) c.read.ensures.kept.held c.read.ensures.kept.same _ f.tree.nodes f.used f.bodies f.next _ c.args.self.now c.self.view_is c.self.invariant.0 _ f.tree.nodes _ (past-now g.M.Medium.bytes g.M.Medium.holds g.M.Medium.safe f.medium c.read.new.self c.read.ensures.kept g.M.Medium.body_code g.met.M.Medium.safe_held _ _ refl c.self.invariant.1) c.args.self.now.resources (resources-before b (g.M.Medium.bytes c.read.new.self) h (g.M.Medium.holds c.read.new.self) c.read.ensures.kept.held c.read.ensures.kept.same _ f.tree.nodes f.used f.bodies f.next _ c.args.self.now c.self.view_is c.self.invariant.0)
