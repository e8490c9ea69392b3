use Rattle.std.proofs.Common.{◌≡◌, true, refl, sym, subst}
use Rattle.std.proofs.lemmas.Bool.{and_from}
use Rattle.dav_data.specs.Claimed.{is_kept}
use Rattle.dav_data.proofs.Claims.{claim-from}
use Rattle.dav_data.proofs.claimed_medium.ClaimedFileMedium.empty.Goals as goal

pub returns-clause-held : goal.returns-clause-held
returns-clause-held g c = subst (λ body. is_kept c.args.self.now body ≡ true) (sym c.empty.ensures) (and_from _ _ refl (claim-from _ _ (λ _. refl)))
