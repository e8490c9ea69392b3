use Rattle.std.proofs.Common.{◌∙◌, [], ◌∷◌, get_or, take, ap, sym}
use Rattle.std.proofs.lemmas.List.{take_more, take_all}
use Rattle.std.specs.Hash.DefaultHasher.{write, write_byte}
use Rattle.dav_data.specs.Sip.{hasher_of}
use Rattle.dav_data.proofs.Hashing.{write-nil, write-one, write-append}
use Rattle.dav_data.proofs.sip.Sip.after_bytes.Goals as goal

pub loop-byte-init : goal.loop-byte-init
loop-byte-init c = sym (write-nil _)

pub loop-byte-preserved : goal.loop-byte-preserved
loop-byte-preserved c =
    let bs = c.args.bytes.now in let i = c.loop-byte.byte-index in let b = get_or bs i 0 in let s = hasher_of c.args.self in
    c.after_byte-state.ensures ∙ ap (λ s. write_byte s b) c.loop-byte.invariant ∙ write-one _ b ∙ write-append s (take i bs) (b ∷ [])
    ∙ ap (write s) (sym (take_more bs i 0 c.loop-byte-test.true))

pub returns : goal.returns
returns c = c.loop-byte.invariant ∙ ap (write (hasher_of c.args.self)) (take_all c.loop-byte.byte-index c.args.bytes.now c.loop-byte-test.false)
