use Rattle.std.proofs.Common.{codes}
use Rattle.http_header.specs.HeaderMap.{get_all}
use Rattle.dav_headers.proofs.TagListGrammar.{tags-found, tags-complete}
use Rattle.dav_headers.proofs.tag_list.read_if_match.Goals as goal

pub returns-clause-found : goal.returns-clause-found
returns-clause-found c = tags-found (get_all c.args.headers.now (codes "if-match")) c.tag_list_of.result c.tag_list_of.ensures

pub returns-clause-complete : goal.returns-clause-complete
returns-clause-complete c = tags-complete (get_all c.args.headers.now (codes "if-match")) c.tag_list_of.result c.tag_list_of.ensures
