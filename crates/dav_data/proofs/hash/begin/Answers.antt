use Rattle.std.proofs.Common.{◌≡◌, ◌∙◌, sym}
use Rattle.std.specs.Int.{w64, to_le_bytes}
use Rattle.std.specs.Hash.DefaultHasher.{write}
use Rattle.dav_data.proofs.Hashing.{write-nil}
use Rattle.dav_data.proofs.hash.begin.Goals as goal

pub returns : goal.returns
returns c =
    let bytes : c.to_le_bytes.result ≡ to_le_bytes w64 c.args.key = c.to_le_bytes.ensures in
    c.after.ensures ∙ (λ i. write (c.new.ensures i) (bytes i)) ∙ sym (write-nil _)
