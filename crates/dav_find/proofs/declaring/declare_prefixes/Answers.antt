use Rattle.std.proofs.Common.{◌∙◌, ap, codes}
use Rattle.dav_find.specs.Declaring.{with_prefix}
use Rattle.dav_find.proofs.declaring.declare_prefixes.Goals as goal

pub returns-clause-declared : goal.returns-clause-declared
returns-clause-declared c =
    let asked = c.args.search.now.asked.items in
    c.in_ok-writer-4.ensures.declared
    ∙ ap (with_prefix asked (codes "oc") (codes "http://owncloud.org/ns"))
    (c.in_ok-writer-3.ensures.declared
    ∙ ap (with_prefix asked (codes "nc") (codes "http://nextcloud.org/ns"))
    (c.in_ok-writer-2.ensures.declared
    ∙ ap (with_prefix asked (codes "Z") (codes "urn:schemas-microsoft-com:")) c.in_ok-writer.ensures.declared))
