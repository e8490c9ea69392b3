use Rattle.std.proofs.Common.{◌≡◌, ◌∙◌, ◌++◌, [], ◌∷◌, get_or, take, ap, sym, append-nil, arith}
use Rattle.std.proofs.lemmas.List.{take_more, take_all}
use Rattle.std.proofs.lemmas.List.Folds.{concat-append}
use Rattle.std.specs.List.{concat}
use Rattle.std.specs.Hash.DefaultHasher.{write, write_word, wrapping_add}
use Rattle.dav_data.specs.Sip.{hasher_of}
use Rattle.dav_data.proofs.Hashing.{write-nil, write-append}
use Rattle.dav_data.proofs.SipWords.{with_tail, write_word_keeps, word_bytes}
use Rattle.dav_data.proofs.sip.Sip.after_words.Goals as goal

pub loop-word-init : goal.loop-word-init
loop-word-init c = record { whole = c.requires; so_far = sym (write-nil _) }

pub loop-word-preserved : goal.loop-word-preserved
loop-word-preserved c =
    let ws = c.args.words.now in let i = c.loop-word.word-index in let w = get_or ws i [] in
    let s = hasher_of c.args.self in let old = hasher_of c.loop-word.state in let was = c.loop-word.invariant in
    let aligned = was.whole.words in
    let after = c.after_word.ensures ∙ ap (write_word old) c.word_of.ensures.value in
    let tail : c.after_word.result.tail ≡ 0 = ap (λ x. x.tail) after ∙ (write_word_keeps old _).0 ∙ was.whole.none in
    let all = ap concat (take_more ws i [] c.loop-word-test.true) ∙ concat-append (take i ws) (w ∷ []) ∙ ap (λ bs. concat (take i ws) ++ bs) (append-nil w) in
    record {
      whole = record { words = omega arith; none = tail };
      so_far = (λ k. with_tail (after k) (tail k) (wrapping_add c.loop-word.state.length 8))
          ∙ sym (word_bytes old w (c.told-words i c.loop-word-test.true) c.word_of.ensures.small aligned was.whole.none)
          ∙ ap (λ t. write t w) was.so_far ∙ write-append s (concat (take i ws)) w ∙ ap (write s) (sym all);
    }

pub returns : goal.returns
returns c = c.loop-word.invariant.so_far ∙ ap (λ ws. write (hasher_of c.args.self) (concat ws)) (take_all c.loop-word.word-index c.args.words.now c.loop-word-test.false)
