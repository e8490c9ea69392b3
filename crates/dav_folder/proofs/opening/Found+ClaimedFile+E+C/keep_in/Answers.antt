use Rattle.std.proofs.Common.{◌∙◌, refl, sym, subst}
use Rattle.dav_keep.specs.Keeping.{IsKnown}
use Rattle.dav_folder.proofs.Opens.{lasts}
use Rattle.dav_folder.proofs.opening.Found+ClaimedFile+E+C.keep_in.Goals as goal

pub returns-clause-opened : goal.returns-clause-opened
returns-clause-opened g c = λ image tables read at.
    let found = c.args.self in
    record {
      lasts =
          lasts g.C.Claim g.met.S.Store.settled c.new-2.result found.store found.locks found.now found.last image
          (subst (λ keeping. IsKnown keeping image) (sym c.new-2.ensures.keeping) (c.new.ensures.known image tables read.knows at))
          read.sound read.resources read.entries read.saved read.locks_are read.counter read.time read.batch (λ holds. sym read.key ∙ c.requires.keyed holds) c.new-2.ensures.batch;
      is = refl;
    }
