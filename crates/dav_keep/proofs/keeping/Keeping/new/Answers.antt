use Rattle.dav_keep.proofs.keeping.Keeping.new.Goals as goal

pub returns-clause-known : goal.returns-clause-known
returns-clause-known g c = λ image tables knows at.
    record { tables = tables; stand = knows.stand; fits = knows.fits; locks = knows.locks; version = knows.version; key = knows.key; seals = knows.seals; at = at }
