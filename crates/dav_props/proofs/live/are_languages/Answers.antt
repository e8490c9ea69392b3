use Rattle.std.proofs.Common.{◌≡◌, ◌∙◌, [], ap, append-nil, take, arith}
use Rattle.std.specs.List.{flat_map}
use Rattle.std.proofs.lemmas.List.{take_all}
use Rattle.dav_props.specs.Language.{is_language_list}
use Rattle.dav_props.specs.Live.{node_text}
use Rattle.dav_props.proofs.Texts.{joined-texts}
use Rattle.dav_props.proofs.live.are_languages.Goals as goal

pub returns : goal.returns
returns c =
    let all : take c.loop-node.node-index c.args.nodes.now ≡ c.args.nodes.now = take_all _ _ (omega (arith, c.loop-node-test.false, c.loop-node.auto)) in
    c.is_whole.ensures
    ∙ c.loop-node.invariant []
    ∙ ap is_language_list (append-nil _ ∙ ap (flat_map node_text) all ∙ joined-texts c.args.nodes.now)
