use Rattle.std.proofs.Common.{◌≡◌, ◌∙◌, true, sym, subst}
use Rattle.std.proofs.lemmas.Bool.{and_from}
use Rattle.dav_data.specs.Digests.{are_right}
use Rattle.dav_data.specs.Data.{data_of}
use Rattle.dav_data.proofs.Claims.{claim-from}
use Rattle.dav_data.proofs.claimed_file.ClaimedFile.open.Goals as goal

pub returns-clause-held : goal.returns-clause-held
returns-clause-held g c = λ body below given.
    let file = c.in_ok-file.file in
    let opened = c.in_ok-file.ensures in
    and_from _ _ (opened.held body below)
    (claim-from g.C.Claim.holds (are_right g.C.Claim.key (data_of file) body) (λ up.
    let key = opened.key ∙ c.requires.key up in
    let was = subst (λ k. are_right k (g.D.Disk.seen c.args.disk) body ≡ true) (sym key) (given up).1 in
    subst (λ k. are_right k (data_of file) body ≡ true) key (opened.digests (given up).0 body below was)))
