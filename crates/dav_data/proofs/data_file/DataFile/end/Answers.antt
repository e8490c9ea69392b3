use Rattle.std.proofs.Common.{◌≡◌, ◌∙◌, ◌^◌, ltb, false, true, ap, sym, subst}
use Rattle.std.specs.Prelude.{◌&&◌}
use Rattle.std.proofs.lemmas.Bool.{and_parts, and_from}
use Rattle.dav_pieces.specs.Pieces.{bytes_of, size_of}
use Rattle.dav_blocks.specs.Blocks as blocks
use Rattle.dav_data.specs.Digests.{are_right}
use Rattle.dav_data.specs.Runs.{blocks_pass}
use Rattle.dav_space.specs.Ranges.{is_covered}
use Rattle.dav_data.specs.Data.{is_held, is_spared}
use Rattle.dav_data.proofs.Adding.{right-kept}
use Rattle.dav_data.proofs.Bodies.{sound-body, marked-body, spared-closed, body-kept, body-bytes}
use Rattle.dav_data.proofs.data_file.DataFile.end.Goals as goal

pub returns-then-keep_only-clause-held : goal.returns-then-keep_only-clause-held
returns-then-keep_only-clause-held g c = λ body marked.
    let down : c.args.self.now.keeps_all ≡ false = sym c.replace.ensures.value ∙ c.if-replace.false in
    body-kept _ _ c.trim.ensures.kept.used body
    (marked-body _ _ _ (λ at n spared used. c.keep_only.ensures.used at n (ap (λ v. is_covered v.items at n) c.replace-marks.ensures.value ∙ spared-closed _ _ down spared) used) body marked)

pub returns-then-keep_only-clause-same : goal.returns-then-keep_only-clause-same
returns-then-keep_only-clause-same g c = λ body marked.
    let down : c.args.self.now.keeps_all ≡ false = sym c.replace.ensures.value ∙ c.if-replace.false in
    let between : (ltb (size_of body) (2 ^ 63) && blocks_pass (blocks.in_use c.keep_only.new.self) body) ≡ true =
    marked-body _ _ _ (λ at n spared used. c.keep_only.ensures.used at n (ap (λ v. is_covered v.items at n) c.replace-marks.ensures.value ∙ spared-closed _ _ down spared) used) body marked in
    body-bytes _ _ _ c.trim.ensures.kept.same body between ∙ ap (λ file. bytes_of file body) c.keep_only.ensures.same

pub returns-then-keep_only-clause-synced : goal.returns-then-keep_only-clause-synced
returns-then-keep_only-clause-synced g c = λ body marked synced.
    let down : c.args.self.now.keeps_all ≡ false = sym c.replace.ensures.value ∙ c.if-replace.false in
    let spares = and_parts (is_held c.args.self.now body) (blocks_pass (is_spared c.args.self.now) body) marked in
    body-kept _ _ c.trim.ensures.kept.safe body
    (marked-body _ _ _ (λ at n spared safe. c.keep_only.ensures.safe at n (ap (λ v. is_covered v.items at n) c.replace-marks.ensures.value ∙ spared-closed _ _ down spared) safe) body (and_from _ _ synced spares.1))

pub returns-then-keep_only-clause-digests : goal.returns-then-keep_only-clause-digests
returns-then-keep_only-clause-digests g c = λ key body marked right.
    let down : c.args.self.now.keeps_all ≡ false = sym c.replace.ensures.value ∙ c.if-replace.false in
    let between : (ltb (size_of body) (2 ^ 63) && blocks_pass (blocks.in_use c.keep_only.new.self) body) ≡ true =
    marked-body _ _ _ (λ at n spared used. c.keep_only.ensures.used at n (ap (λ v. is_covered v.items at n) c.replace-marks.ensures.value ∙ spared-closed _ _ down spared) used) body marked in
    let kept = subst (λ file. are_right key file body ≡ true) (sym c.keep_only.ensures.same) right in
    right-kept key _ _ (blocks.in_use c.keep_only.new.self) c.trim.ensures.kept.same body (sound-body (blocks.in_use c.keep_only.new.self) body between) kept
