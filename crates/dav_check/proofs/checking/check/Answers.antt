use Rattle.std.proofs.Common.{◌∙◌, ap, refl, List, [], ◌∷◌, ◌++◌, Vec, Global, arith}
use Rattle.std.proofs.lemmas.List.{nil_from_length}
use Rattle.dav_resource.specs.PathText.{PathValue}
use Rattle.dav_check.specs.declared.pending.Pending.{Pending}
use Rattle.dav_check.proofs.Counting.{counts_all, counts_none}
use Rattle.dav_check.proofs.Course.{Course, course_lists, course_checks}
use Rattle.dav_check.proofs.Walk.{begins, ends}
use Rattle.dav_check.proofs.checking.check.Goals as goal
use Rattle.dav_check.proofs.checking.check.Goals.{then-next+in_ok-add_members+in-Some-1, then-next+in_ok-add_members+in-None-1, else-next+in_ok-check_file}

pub loop-visited-init : goal.loop-visited-init
loop-visited-init g c = record {
  same = c.in_ok-meta.ensures.granted.effect.same;
  fixed = c.in_ok-meta.ensures.granted.fixed;
  underway = begins g.F.GuardedFileSystem.seen g.F.GuardedFileSystem.reads (g.F.GuardedFileSystem.seen c.args.fs.now).contents c.push.new.self.items (record { files = 0; bytes = 0; damaged = c.new.result }) c.in_ok-root.root c.in_ok-meta.meta
      (c.in_ok-push.ensures.items ∙ ap (λ (ps : List Pending). ps ++ (record { path = c.in_ok-root.root; meta = c.in_ok-meta.meta }) ∷ []) c.new-waiting.ensures.items)
      (ap (λ (p : PathValue). p.key) c.in_ok-root.ensures)
      c.in_ok-meta.ensures.granted.effect.answer
      c.new.ensures.items;
  counted = counts_none (g.F.GuardedFileSystem.seen c.args.fs.now).contents c.push.new.self.items (record { files = 0; bytes = 0; damaged = c.new.result }) (record { path = c.in_ok-root.root; meta = c.in_ok-meta.meta })
      (c.in_ok-push.ensures.items ∙ ap (λ (ps : List Pending). ps ++ (record { path = c.in_ok-root.root; meta = c.in_ok-meta.meta }) ∷ []) c.new-waiting.ensures.items)
      (ap (λ (p : PathValue). p.key) c.in_ok-root.ensures)
      c.new.ensures.items
      refl
      refl;
  files = omega arith;
  bytes = omega arith;
}

pub returns-in_default-clause-read : goal.returns-in_default-clause-read
returns-in_default-clause-read g c =
    ends g.F.GuardedFileSystem.seen g.F.GuardedFileSystem.reads (g.F.GuardedFileSystem.seen c.args.fs.now).contents c.loop-visited.waiting.items c.loop-visited.checked
    (nil_from_length c.loop-visited.waiting.items (omega (arith, c.in_default.ensures.cases, c.loop-visited.waiting.ok.0)))
    c.loop-visited.invariant.underway

pub returns-in_default-clause-counted : goal.returns-in_default-clause-counted
returns-in_default-clause-counted g c =
    counts_all (g.F.GuardedFileSystem.seen c.args.fs.now).contents c.loop-visited.waiting.items c.loop-visited.checked
    (nil_from_length c.loop-visited.waiting.items (omega (arith, c.in_default.ensures.cases, c.loop-visited.waiting.ok.0)))
    c.loop-visited.invariant.counted

pub loop-visited-preserved : goal.loop-visited-preserved
loop-visited-preserved g c =
    let seen = g.F.GuardedFileSystem.seen in
    let reads = g.F.GuardedFileSystem.reads in
    let known = c.loop-visited.invariant in
    let so_far : Course seen reads c.args.fs.now c.loop-visited.fs c.loop-visited.waiting.items c.loop-visited.checked c.loop-visited.visited = record { same = known.same; fixed = known.fixed; underway = known.underway; counted = known.counted; files = known.files; bytes = known.bytes } in
    let formed = g.met.F.GuardedFileSystem.well_formed c.args.fs.now in
    elim c.if-next.branch [
      | then-next+in_ok-add_members+in-Some-1 w ↦
          let k = course_lists seen reads c.args.fs.now c.loop-visited.fs w.add_members.new.fs c.loop-visited.waiting.items c.pop.new.self.items c.in-Some.next c.loop-visited.checked c.loop-visited.visited formed c.in-Some.ensures.items so_far w.in_ok-add_members.ensures.same w.in_ok-add_members.ensures.fixed
          w.add_members.new.waiting.items w.if-next.true w.in_ok-add_members.ensures.ok c.if-next.fs c.if-next.waiting.items c.if-next.checked w.fs-is (ap (λ (v : Vec Pending Global). v.items) w.waiting-is) w.checked-is in
          record { same = k.same; fixed = k.fixed; underway = k.underway; counted = k.counted; files = k.files; bytes = k.bytes }
      | then-next+in_ok-add_members+in-None-1 w ↦
          let k = course_lists seen reads c.args.fs.now c.loop-visited.fs w.add_members.new.fs c.loop-visited.waiting.items c.pop.new.self.items c.in-Some.next c.loop-visited.checked c.loop-visited.visited formed c.in-Some.ensures.items so_far w.in_ok-add_members.ensures.same w.in_ok-add_members.ensures.fixed
          w.add_members.new.waiting.items w.if-next.true w.in_ok-add_members.ensures.ok c.if-next.fs c.if-next.waiting.items c.if-next.checked w.fs-is (ap (λ (v : Vec Pending Global). v.items) w.waiting-is) w.checked-is in
          record { same = k.same; fixed = k.fixed; underway = k.underway; counted = k.counted; files = k.files; bytes = k.bytes }
      | else-next+in_ok-check_file w ↦
          let k = course_checks seen reads c.args.fs.now c.loop-visited.fs w.check_file.new.fs c.loop-visited.waiting.items c.pop.new.self.items c.in-Some.next c.loop-visited.checked c.loop-visited.visited formed c.in-Some.ensures.items so_far w.in_ok-check_file.ensures.same w.in_ok-check_file.ensures.fixed
          w.check_file.new.checked w.if-next.false w.in_ok-check_file.ensures.ok w.in_ok-check_file.ensures.small c.if-next.fs c.if-next.waiting.items c.if-next.checked w.fs-is (ap (λ (v : Vec Pending Global). v.items) w.waiting-is) w.checked-is in
          record { same = k.same; fixed = k.fixed; underway = k.underway; counted = k.counted; files = k.files; bytes = k.bytes }
    ]
