use Rattle.std.proofs.Common.{◌≡◌, ℕ, List, ◌++◌, take}
use Rattle.std.specs.List.{flat_map}
use Rattle.dav_props.specs.Language.{is_language_list}
use Rattle.dav_props.specs.LanguageList.{accepts}
use Rattle.dav_props.specs.Live.{node_text}
use Rattle.dav_props.proofs.live.are_languages.Given as goal

-- the texts so far were read
abbrev pub invariant-loop-node : goal.invariant-loop-node
invariant-loop-node l =
    (rest : List ℕ) → accepts l.list rest ≡ is_language_list (flat_map node_text (take l.node-index l.nodes) ++ rest)
