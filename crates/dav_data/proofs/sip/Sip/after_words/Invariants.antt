use Rattle.std.proofs.Common.{◌≡◌, take}
use Rattle.std.specs.List.{concat}
use Rattle.std.specs.Hash.DefaultHasher.{write}
use Rattle.dav_data.specs.Sip.{hasher_of, IsWhole}
use Rattle.dav_data.proofs.sip.Sip.after_words.Given as goal

abbrev pub invariant-loop-word : goal.invariant-loop-word
invariant-loop-word l = record {
  whole : IsWhole l.state;
  so_far : hasher_of l.state ≡ write (hasher_of l.fn.self) (concat (take l.word-index l.words));
}
