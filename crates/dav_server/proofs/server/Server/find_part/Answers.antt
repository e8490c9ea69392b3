use Rattle.std.proofs.Common.{rules, refl, ap, sym, subst, ◌∙◌, ◌≡◌, Some}
use Rattle.std.proofs.lemmas.Result.{err_from_is_err_and}
use Rattle.std.specs.FinMap.{get}
use Rattle.dav_guarding.specs.Policy.{Refusals}
use Rattle.dav_store.specs.Store.{Contents, MetaFits, File}
use Rattle.dav_server.specs.Parts.{IsMissing}
use Rattle.dav_server.proofs.PartReads.{read_of_file}
use Rattle.dav_server.specs.State.{ServerState, store_in, refusals_in}
use Rattle.dav_server.proofs.server.Server.find_part.Goals as goal

pub returns-clause-found : goal.returns-clause-found
returns-clause-found g c =
    let key = c.args.path.now.key in
    let store = store_in c.args.self.now in
    let part = c.in_ok-bytes.ensures.found in
    let contents = ap (λ (s : ServerState). s.seen.store.contents) c.look.ensures.same in
    let file : get (g.F.GuardedFileSystem.seen store).contents.tree key ≡ Some (File part.bytes) = ap (λ these. get these.tree key) (sym contents) ∙ part.file in
    let fits = (g.met.F.GuardedFileSystem.well_formed store).metas key in
    let sound : MetaFits (Some (File part.bytes)) (Some c.in_ok-meta.meta) = rw (file, c.in_ok-meta.ensures.found) at fits in (
      (c.in_ok-meta.ensures.listed, rw c.in_ok-meta.ensures.refusals at c.in_ok-bytes.ensures.readable),
      record {
        bytes = part.bytes;
        meta = c.in_ok-meta.meta;
        read = c.in_ok-bytes.bytes.items;
        file = file;
        known = c.in_ok-meta.ensures.found;
        whole = sound.1;
        same = search rules;
        is = refl;
        count = part.number;
        answer = part.answer;
      },
    )

pub returns-in_err-bytes-clause-failed : goal.returns-in_err-bytes-clause-failed
returns-in_err-bytes-clause-failed g c =
    let key = c.args.path.now.key in
    let status = c.in_err-bytes.field-0.0 in
    let store = store_in c.args.self.now in
    let contents = (g.F.GuardedFileSystem.seen store).contents in
    let said = g.F.GuardedFileSystem.reads (store_in c.read.new.self) in
    let looked : IsMissing (refusals_in c.args.self.now) said (g.F.GuardedFileSystem.seen (store_in c.look.new.self)).contents key status =
    subst (λ (refuses : Refusals). IsMissing refuses said (g.F.GuardedFileSystem.seen (store_in c.look.new.self)).contents key status) c.in_ok-meta.ensures.refusals c.in_err-bytes.ensures.failed in
    let missing : IsMissing (refusals_in c.args.self.now) said contents key status =
    subst (λ (these : Contents). IsMissing (refusals_in c.args.self.now) said these key status) (ap (λ (s : ServerState). s.seen.store.contents) c.look.ensures.same) looked in
    let p = err_from_is_err_and c.from_residual-in_err-bytes.result c.from_residual-in_err-bytes.ensures.1 in
    rw (p.1, p.2)
    (read_of_file (refusals_in c.args.self.now) said contents key _ c.in_ok-meta.meta status c.in_ok-meta.ensures.listed c.in_ok-meta.ensures.found c.if-meta.false
    ((g.met.F.GuardedFileSystem.well_formed store).metas key) missing)
