use Rattle.std.proofs.Common.{◌≡◌, None, refl, rules}
use Rattle.http_header.specs.Token.{lowercase}
use Rattle.http_header.specs.HeaderMap.{get, get_all}
use Rattle.dav_headers.proofs.TagListLemmas.{tag_list_of-none}
use Rattle.dav_headers.proofs.tag_list.tag_list_of.Goals as goal

pub returns-then-is_none : goal.returns-then-is_none
returns-then-is_none c =
    let none : get c.args.headers.now (lowercase c.args.name.now) ≡ None = search rules in
    rw (tag_list_of-none (get_all c.args.headers.now (lowercase c.args.name.now)) none) refl
