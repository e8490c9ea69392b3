use Rattle.std.proofs.Common.{◌∙◌, ap, subst}
use Rattle.std.proofs.lemmas.Result.{on_ok_weaker}
use Rattle.dav_store.specs.Store.{Store, Contents}
use Rattle.dav_check.specs.Pending.{AddsMembers}
use Rattle.dav_check.proofs.Members.{adds, entry_segment, unlisted_contents, unlisted_facts}
use Rattle.dav_check.proofs.pending.add_members.Goals as goal

pub push_members-requires : goal.push_members-requires
push_members-requires g c =
    let seen = g.F.GuardedFileSystem.seen in
    entry_segment c.args.directory.now.key (seen c.clear_log.new.self) (seen c.read_dir.new.self) _ c.in-Ok.ensures.granted (g.met.F.GuardedFileSystem.well_formed c.clear_log.new.self)

pub returns-in-Ok : goal.returns-in-Ok
returns-in-Ok g c =
    let seen = g.F.GuardedFileSystem.seen in
    let cleared = ap (λ (s : Store). s.contents) c.clear_log.ensures.seen in
    record {
      same = c.in-Ok.ensures.granted.same ∙ cleared;
      fixed = c.in-Ok.ensures.granted.fixed ∙ ap (λ (s : Store). s.facts) c.clear_log.ensures.seen;
      ok = on_ok_weaker c.push_members.result
          (λ takes. subst (λ (contents : Contents). AddsMembers contents c.args.directory.now.key c.args.waiting.now.items c.push_members.new.waiting.items) cleared
          (adds c.args.directory.now (seen c.clear_log.new.self) (seen c.read_dir.new.self) _ c.args.waiting.now.items c.push_members.new.waiting.items c.in-Ok.ensures.granted takes))
          c.push_members.ensures;
    }

pub returns-in-Err : goal.returns-in-Err
returns-in-Err g c =
    let seen = g.F.GuardedFileSystem.seen in
    record {
      same = unlisted_contents c.args.directory.now.key (seen c.clear_log.new.self) (seen c.read_dir.new.self) _ c.in-Err.ensures.declined ∙ ap (λ (s : Store). s.contents) c.clear_log.ensures.seen;
      fixed = unlisted_facts c.args.directory.now.key (seen c.clear_log.new.self) (seen c.read_dir.new.self) _ c.in-Err.ensures.declined ∙ ap (λ (s : Store). s.facts) c.clear_log.ensures.seen;
      ok = tt;
    }
