use Rattle.std.proofs.Common.{◌∙◌, ◌++◌, ◌/◌, length, ap, sym}
use Rattle.std.specs.List.{concat}
use Rattle.std.specs.Hash.DefaultHasher.{write}
use Rattle.dav_data.specs.Sip.{hasher_of}
use Rattle.dav_data.proofs.Hashing.{write-append}
use Rattle.dav_data.proofs.SipWords.{chunks-rest}
use Rattle.dav_data.proofs.sip.Sip.after.Goals as goal

pub returns-then-state-ne0 : goal.returns-then-state-ne0
returns-then-state-ne0 c =
    let s = hasher_of c.args.self in let first = c.split_at.result.0.now in let rest = c.split_at.result.1.now in
    c.after_bytes.ensures ∙ ap (λ t. write t rest) c.after_bytes-state.ensures ∙ write-append s first rest ∙ ap (write s) (sym c.split_at.ensures.by_index.0)

pub returns : goal.returns
returns c =
    let s = hasher_of c.args.self in let first = c.split_at.result.0.now in let rest = c.split_at.result.1.now in
    let words = c.as_chunks.result.0.now in let last = c.as_chunks.result.1.now in
    let joined = (λ k. concat (c.as_chunks.ensures.front k) ++ c.as_chunks.ensures.back k) ∙ chunks-rest (length rest / 8) rest in
    c.after_bytes-2.ensures ∙ ap (λ t. write t last) c.after_words.ensures ∙ write-append _ (concat words) last ∙ ap (write _) joined
    ∙ ap (λ t. write t rest) c.after_bytes-state.ensures ∙ write-append s first rest ∙ ap (write s) (sym c.split_at.ensures.by_index.0)
