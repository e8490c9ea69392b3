use Rattle.std.proofs.Common.{◌≡◌, ◌==◌, true, false, length, [], Ok, sym, ap, ◌∙◌}
use Rattle.dav_tree.specs.declared.entry.Content.TheVariants.{File}
use Rattle.dav_store_rows.proofs.Decoding.{content-file, content-directory}
use Rattle.dav_store_rows.proofs.loading.resources.content_of.Goals as goal

pub returns-then-not-directory : goal.returns-then-not-directory
returns-then-not-directory c content is =
    ap Ok (ap File c.in-Some.ensures.pieces ∙ content-file c.args.directory c.args.size c.args.pieces.items content c.if-not-directory.true is)

pub returns-then-is_empty : goal.returns-then-is_empty
returns-then-is_empty c content is =
    ap Ok (content-directory c.args.directory c.args.size c.args.pieces.items content c.if-not-directory.false is).0

pub returns : goal.returns
returns c content is =
    let none = (content-directory c.args.directory c.args.size c.args.pieces.items content c.if-not-directory.false is).1 in
    let empty : c.pieces.result.now ≡ [] = c.pieces.ensures ∙ c.in-Some.ensures.pieces ∙ none in
    let clash : false ≡ true = sym c.if-is_empty.false ∙ c.is_empty.ensures ∙ ap (λ xs. length xs == 0) empty in
    absurd cc
