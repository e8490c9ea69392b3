use Rattle.dav_seal.specs.Held.{place_of}
use Rattle.dav_seal.proofs.TotalLemmas.{total_of-nothing}
use Rattle.dav_seal.proofs.table_seal.TableSeal.new.Goals as goal

pub returns : goal.returns
returns c = record { each = λ number fits. c.new.ensures (place_of c.args.numbering number); sum = total_of-nothing }
