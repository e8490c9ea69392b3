use Rattle.dav_headers.proofs.IfLemmas.{gives-found, gives-complete}
use Rattle.dav_headers.proofs.if_header.read_if.Goals as goal

pub returns-in-Some-clause-found : goal.returns-in-Some-clause-found
returns-in-Some-clause-found c = gives-found c.args.headers.now c.if_lists.result (rw (← c.in-Some.ensures) c.if_lists.ensures)

pub returns-in-Some-clause-complete : goal.returns-in-Some-clause-complete
returns-in-Some-clause-complete c = gives-complete c.args.headers.now c.if_lists.result (rw (← c.in-Some.ensures) c.if_lists.ensures)
