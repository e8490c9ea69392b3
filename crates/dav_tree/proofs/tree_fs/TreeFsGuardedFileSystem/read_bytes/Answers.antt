use Rattle.std.proofs.Common.{◌≡◌, ◌⊎◌, ap, map, sym, length, subst, Bool, IfOk, IfErr, Result, Some}
use Rattle.std.specs.Prelude.{Vec, ℕ}
use Rattle.std.specs.declared.alloc.Global.{Global}
use Rattle.std.specs.FinMap.{get}
use Rattle.dav_resource.specs.PathText.{PathValue}
use Rattle.dav_key.specs.Key.{Key}
use Rattle.dav_resource.specs.declared.error.FsError.{FsError}
use Rattle.dav_resource.specs.declared.error.FsError.TheVariants as errors
use Rattle.dav_tree.specs.Kept.{Kept}
use Rattle.dav_tree.specs.TreeFs.{memory_of}
use Rattle.dav_tree.specs.declared.medium.Medium.{Ghosts}
use Rattle.dav_store.specs.Calls.{read_bytes_call, must_be_file, IsReadAt, bytes_from}
use Rattle.dav_tree.specs.Memory.{Memory, tree_of, contents_of, file_bytes, facts_of}
use Rattle.dav_tree.specs.MemoryCalls.{read_bytes_error}
use Rattle.dav_tree.proofs.Answering.{answers-over, lawful-bar, must_be_file_row}
use Rattle.dav_tree.proofs.Effects.{both_ok}
use Rattle.dav_tree.proofs.tree_fs.TreeFsGuardedFileSystem.read_bytes.Goals as goal

pub returns-clause-bytes : goal.returns-clause-bytes
returns-clause-bytes g c =
    let key = c.args.path.now.key in
    subst (λ (r : Result (Vec ℕ Global) FsError). IfOk r (λ (bytes : Vec ℕ Global). g.M.Medium.reading c.end_record.new.self.entries.honest (file_bytes key (memory_of c.args.self.now).resources) c.args.place c.args.count bytes.items)) (sym c.end_record.ensures.answer)
    (subst (λ (x : Memory). IfOk c.read_file-answer.result (λ (bytes : Vec ℕ Global). g.M.Medium.reading c.end_record.new.self.entries.honest (file_bytes key x.resources) c.args.place c.args.count bytes.items)) c.in_ok-paths.ensures.memory
    (subst (λ (k : Kept). IfOk c.read_file-answer.result (λ (bytes : Vec ℕ Global). g.M.Medium.reading k.honest (file_bytes key (memory_of c.begin_record.new.self).resources) c.args.place c.args.count bytes.items)) (sym c.end_record.ensures.entries) c.read_file-answer.ensures.bytes))

-- what fails to be read of resources
fails : {M B : Type 0} (g : Ghosts M B) → Bool → Key → Result (Vec ℕ Global) FsError → Memory → Type 0
fails g faultless key answer memory =
    IfErr answer (λ e. (e ≡ errors.Memory) ⊎ ((must_be_file (get (tree_of memory.resources) key) ≡ Some e) ⊎ g.may_fail faultless e))

pub returns-clause-cause : goal.returns-clause-cause
unfolding fails
returns-clause-cause g c =
    let key = c.args.path.now.key in
    subst (λ r. fails g.M.Medium c.end_record.new.self.entries.faultless key r (memory_of c.args.self.now)) (sym c.end_record.ensures.answer)
    (subst (fails g.M.Medium c.end_record.new.self.entries.faultless key c.read_file-answer.result) c.in_ok-paths.ensures.memory
    (subst (λ (k : Kept). fails g.M.Medium k.faultless key c.read_file-answer.result (memory_of c.begin_record.new.self)) (sym c.end_record.ensures.entries) c.read_file-answer.ensures.cause))

pub returns-clause-read : goal.returns-clause-read
returns-clause-read g c =
    let m = memory_of c.args.self.now in
    let key = c.args.path.now.key in
    let honest : Bool = c.end_record.new.self.entries.honest in
    let number : IfOk c.read_file-answer.result (λ (bytes : Vec ℕ Global). length bytes.items ≡ length (bytes_from c.args.place c.args.count (file_bytes key m.resources))) =
    subst (λ (x : Memory). IfOk c.read_file-answer.result (λ (bytes : Vec ℕ Global). length bytes.items ≡ length (bytes_from c.args.place c.args.count (file_bytes key x.resources)))) c.in_ok-paths.ensures.memory c.read_file-answer.ensures.count in
    let answer : IfOk c.read_file-answer.result (λ (bytes : Vec ℕ Global). g.M.Medium.reading honest (file_bytes key m.resources) c.args.place c.args.count bytes.items) =
    subst (λ (x : Memory). IfOk c.read_file-answer.result (λ (bytes : Vec ℕ Global). g.M.Medium.reading honest (file_bytes key x.resources) c.args.place c.args.count bytes.items)) c.in_ok-paths.ensures.memory
    (subst (λ (k : Kept). IfOk c.read_file-answer.result (λ (bytes : Vec ℕ Global). g.M.Medium.reading k.honest (file_bytes key (memory_of c.begin_record.new.self).resources) c.args.place c.args.count bytes.items)) (sym c.end_record.ensures.entries) c.read_file-answer.ensures.bytes) in
    (answers-over g.M.Medium.refuses g.met.M.Medium.own (read_bytes_call (contents_of m) key) c.in_ok-paths.paths (λ (bytes : Vec ℕ Global). IsReadAt (g.M.Medium.reading honest) key c.args.place c.args.count bytes.items) (read_bytes_error key) (λ old new. new ≡ old)
    m (memory_of c.begin_record.new.self) (memory_of c.read_file-answer.new.self) (memory_of c.end_record.new.self)
    c.args.self.now.log.items c.begin_record.new.self.log.items c.read_file-answer.new.self.log.items c.end_record.new.self.log.items
    c.read_file-answer.result c.end_record.result (λ (bytes : Vec ℕ Global). (length bytes.items ≡ length (bytes_from c.args.place c.args.count (file_bytes key m.resources))) × g.M.Medium.reading honest (file_bytes key m.resources) c.args.place c.args.count bytes.items)
    c.end_record.ensures.answer c.in_ok-paths.ensures.memory c.end_record.ensures.memory c.in_ok-paths.ensures.log (ap (λ v. v.items) c.read_file-answer.ensures.log) (ap (map (λ (p : PathValue). p.key)) c.in_ok-paths.ensures.paths)
    c.read_file-answer.ensures.answer c.end_record.ensures.record
    (λ none. none) (λ e. lawful-bar (read_bytes_call (contents_of m) key).bar e (must_be_file_row (get (tree_of m.resources) key)))
    (λ is. ap facts_of is) (both_ok _ _ c.read_file-answer.result number answer)
    (λ a says none is. record { number = says.0; answer = says.1; same = ap contents_of is }))
