use Rattle.std.proofs.Common.{◌≡◌, ℕ, List, ◌++◌, take}
use Rattle.dav_props.specs.LanguageList.{accepts}
use Rattle.dav_props.proofs.language.LanguageList.read.Given as goal

abbrev pub invariant-loop-byte : goal.invariant-loop-byte
invariant-loop-byte l =
    (rest : List ℕ) → accepts l.list rest ≡ accepts l.fn.self (take l.byte-index l.text ++ rest)
