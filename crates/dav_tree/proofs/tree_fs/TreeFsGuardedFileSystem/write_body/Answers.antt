use Rattle.dav_resource.specs.declared.record.Op.TheVariants.{WriteBytes}
use Rattle.std.proofs.Common.{◌≡◌, ◌+◌, ◌<◌, ◌^◌, ap, map, sym, subst, false, length, Result}
use Rattle.std.specs.Prelude.{MatchResult}
use Rattle.std.specs.FinMap.{get}
use Rattle.dav_resource.specs.PathText.{PathValue}
use Rattle.dav_resource.specs.declared.error.FsError.{FsError}
use Rattle.dav_tree.specs.TreeFs.{memory_of}
use Rattle.dav_store.specs.Calls.{file_call, IsWritten, place_of}
use Rattle.dav_store.specs.BodyCalls.{stored_bytes}
use Rattle.dav_tree.specs.Memory.{Memory, tree_of, contents_of, facts_of}
use Rattle.dav_tree.specs.MemoryCalls.{GivesOver, write_error, written}
use Rattle.dav_tree.proofs.Answering.{answers-over, any_ok, change-none, lawful-change, file_row, writes}
use Rattle.dav_tree.proofs.tree_fs.TreeFsGuardedFileSystem.write_body.Goals as goal

pub write_stored-answer-requires : goal.write_stored-answer-requires
write_stored-answer-requires g c =
    subst (λ (x : Memory). c.args.file.now.append ≡ false → c.args.file.now.pos + length (stored_bytes x.held.bodies c.args.number) < 2 ^ 64) (sym c.in_ok-paths.ensures.memory) c.requires

pub returns-clause-place : goal.returns-clause-place
returns-clause-place g c =
    let file = c.args.file.now in
    subst (λ (r : Result (Unit {0}) FsError). MatchResult r (λ _. c.write_stored-answer.new.file ≡ record file { pos = place_of file (contents_of (memory_of c.args.self.now)) + length (stored_bytes (memory_of c.args.self.now).held.bodies c.args.number) }) (λ _. c.write_stored-answer.new.file ≡ file))
    (sym c.end_record.ensures.answer)
    (subst (λ (x : Memory). MatchResult c.write_stored-answer.result (λ _. c.write_stored-answer.new.file ≡ record file { pos = place_of file (contents_of x) + length (stored_bytes x.held.bodies c.args.number) }) (λ _. c.write_stored-answer.new.file ≡ file)) c.in_ok-paths.ensures.memory c.write_stored-answer.ensures.place)

pub returns-clause-memory : goal.returns-clause-memory
returns-clause-memory g c =
    let gives = subst (λ (x : Memory). GivesOver g.M.Medium.refuses (write_error c.args.file.now.path.key x) (written c.args.file.now (stored_bytes x.held.bodies c.args.number)) x c.write_stored-answer.result (memory_of c.write_stored-answer.new.self)) c.in_ok-paths.ensures.memory c.write_stored-answer.ensures.written in
    let after = subst (λ (x : Memory). GivesOver g.M.Medium.refuses (write_error c.args.file.now.path.key (memory_of c.args.self.now)) (written c.args.file.now (stored_bytes (memory_of c.args.self.now).held.bodies c.args.number)) (memory_of c.args.self.now) c.write_stored-answer.result x) (sym c.end_record.ensures.memory) gives in
    subst (λ (r : Result (Unit {0}) FsError). GivesOver g.M.Medium.refuses (write_error c.args.file.now.path.key (memory_of c.args.self.now)) (written c.args.file.now (stored_bytes (memory_of c.args.self.now).held.bodies c.args.number)) (memory_of c.args.self.now) r (memory_of c.end_record.new.self)) (sym c.end_record.ensures.answer) after

pub returns-clause-written : goal.returns-clause-written
returns-clause-written g c =
    let m = memory_of c.args.self.now in
    let bytes = stored_bytes m.held.bodies c.args.number in
    (answers-over g.M.Medium.refuses g.met.M.Medium.own (file_call WriteBytes (contents_of m) c.args.file.now.path.key) c.in_ok-paths.paths (λ _. IsWritten c.args.file.now bytes) (write_error c.args.file.now.path.key) (λ old new. new ≡ written c.args.file.now bytes old)
    m (memory_of c.begin_record.new.self) (memory_of c.write_stored-answer.new.self) (memory_of c.end_record.new.self)
    c.args.self.now.log.items c.begin_record.new.self.log.items c.write_stored-answer.new.self.log.items c.end_record.new.self.log.items
    c.write_stored-answer.result c.end_record.result (λ _. Unit {0})
    c.end_record.ensures.answer c.in_ok-paths.ensures.memory c.end_record.ensures.memory c.in_ok-paths.ensures.log (ap (λ v. v.items) c.write_stored-answer.ensures.log) (ap (map (λ (p : PathValue). p.key)) c.in_ok-paths.ensures.paths)
    (subst (λ (x : Memory). GivesOver g.M.Medium.refuses (write_error c.args.file.now.path.key (memory_of c.begin_record.new.self)) (written c.args.file.now (stored_bytes x.held.bodies c.args.number)) (memory_of c.begin_record.new.self) c.write_stored-answer.result (memory_of c.write_stored-answer.new.self)) c.in_ok-paths.ensures.memory c.write_stored-answer.ensures.written)
    c.end_record.ensures.record
    (change-none (file_call WriteBytes (contents_of m) c.args.file.now.path.key).bar m) (λ e. lawful-change (file_call WriteBytes (contents_of m) c.args.file.now.path.key).bar m e (file_row (get (tree_of m.resources) c.args.file.now.path.key)))
    (λ is. ap facts_of is) (any_ok c.write_stored-answer.result) (λ a says none is. writes c.args.file.now bytes m _ none is))
