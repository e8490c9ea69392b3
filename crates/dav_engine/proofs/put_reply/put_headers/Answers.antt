use Rattle.dav_engine.proofs.PutHeaders.{put_headers-set}
use Rattle.dav_engine.proofs.put_reply.put_headers.Goals as goal

pub returns-clause-ok : goal.returns-clause-ok
returns-clause-ok c =
    put_headers-set c.args.found.now c.args.meta.now c.add_header.new.headers c.add_header-2.new.headers c.add_header-3.new.headers c.add_header-4.new.headers
    c.in_ok-tag_value.field-0 c.in_ok-change_value.field-0
    (rw (c.in_ok-headers.ensures.ok, c.from_static-ranges.ensures) at c.in_ok-add_header.ensures.ok) (cc c.in_ok-add_header-2.ensures.ok) c.in_ok-tag_value.ensures.ok c.in_ok-add_header-3.ensures.ok
    c.in_ok-change_value.ensures.ok c.in_ok-add_header-4.ensures.ok
