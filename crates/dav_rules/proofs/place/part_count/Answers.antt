use Rattle.std.proofs.Common.{◌∙◌, ap, count_by}
use Rattle.dav_resource.specs.PathText.{is_slash}
use Rattle.dav_rules.specs.Rules.{without_last_slash}
use Rattle.dav_rules.proofs.Places.{length-parts_of}
use Rattle.dav_rules.proofs.place.part_count.Goals as goal

pub returns : goal.returns
returns c =
    c.slash_count.ensures ∙ ap (count_by is_slash) c.without_last_slash.ensures
    ∙ ap (λ text. count_by is_slash (without_last_slash text)) c.as_bytes.ensures.value ∙ length-parts_of c.args.path.now
