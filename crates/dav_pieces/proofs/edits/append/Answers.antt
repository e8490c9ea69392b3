use Rattle.std.proofs.Common.{◌∙◌}
use Rattle.dav_pieces.proofs.Growing.{grows-piece, appended-bytes, appended-sound, appended-count}
use Rattle.dav_pieces.proofs.edits.append.Goals as goal

pub grown-longer-requires : goal.grown-longer-requires
grown-longer-requires c =
    grows-piece c.args.pieces.now.items c.args.more.now c.extend_from_slice.new.self.items c.len-old_len.result c.index-piece.result.now c.args.grown c.in-Some.block
    c.requires.grows c.in-Some.is (c.len-old_len.ensures ∙ c.args.pieces.now.ok.0) c.in_ok-extend_from_slice.ensures.items c.index-piece.ensures

pub returns-in-Some-clause-bytes : goal.returns-in-Some-clause-bytes
returns-in-Some-clause-bytes c = λ file.
    appended-bytes c.args.pieces.now.items c.args.more.now c.extend_from_slice.new.self.items c.len-old_len.result c.index-piece.result.now c.args.grown c.in-Some.block
    c.requires.grows c.in-Some.is (c.len-old_len.ensures ∙ c.args.pieces.now.ok.0) c.in_ok-extend_from_slice.ensures.items c.index-piece.ensures
    file c.grown-longer.result (c.grown-longer.ensures.bytes file)

pub returns-in-Some-clause-sound : goal.returns-in-Some-clause-sound
returns-in-Some-clause-sound c = λ test.
    appended-sound c.args.pieces.now.items c.args.more.now c.extend_from_slice.new.self.items c.len-old_len.result c.index-piece.result.now c.args.grown c.in-Some.block
    c.requires.grows c.in-Some.is (c.len-old_len.ensures ∙ c.args.pieces.now.ok.0) c.in_ok-extend_from_slice.ensures.items c.index-piece.ensures
    test c.grown-longer.result (c.grown-longer.ensures.sound test)

pub returns-in-Some-clause-count : goal.returns-in-Some-clause-count
returns-in-Some-clause-count c =
    appended-count c.args.pieces.now.items c.args.more.now c.extend_from_slice.new.self.items c.len-old_len.result c.index-piece.result.now c.args.grown c.in-Some.block
    c.requires.grows c.in-Some.is (c.len-old_len.ensures ∙ c.args.pieces.now.ok.0) c.in_ok-extend_from_slice.ensures.items c.index-piece.ensures
    c.grown-longer.result c.len.result c.len-in-Some.result c.size-count.result c.grown-longer.ensures.len c.len.ensures c.len-in-Some.ensures c.size-count.ensures
