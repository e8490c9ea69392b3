use Rattle.std.proofs.Common.{sym, subst}
use Rattle.dav_resource.specs.declared.path.write.TheConstants.{ESCAPED, ESCAPED_IN_HREF}
use Rattle.dav_resource.specs.Escapes.{IsSetBut}
use Rattle.dav_resource.specs.Profile.{is_kept_in_href}
use Rattle.dav_resource.proofs.EscapeLemmas.{escaped_set, escaped_in_standard}
use Rattle.dav_resource.proofs.path.write.escaped_in_href.Goals as goal

pub returns-in-Crate : goal.returns-in-Crate
returns-in-Crate c = subst (λ profile. IsSetBut ESCAPED (is_kept_in_href profile)) (sym c.in-Crate.is) escaped_set

pub returns-in-Standard : goal.returns-in-Standard
returns-in-Standard c = subst (λ profile. IsSetBut ESCAPED_IN_HREF (is_kept_in_href profile)) (sym c.in-Standard.is) escaped_in_standard
