use Rattle.std.proofs.Common.{◌≡◌, ◌≤◌, take, length, map, vec_len, vec_capacity}
use Rattle.dav_engine.specs.DavInner.{fixed_parts}
use Rattle.dav_messages.specs.Reply.{answer_of}
use Rattle.dav_engine.specs.Served.{AreServed}
use Rattle.dav_engine.proofs.inner.DavInner.run.Given as goal

-- the requests so far have their replies, and there is room for the others
abbrev pub invariant-loop-request : goal.invariant-loop-request
invariant-loop-request g l =
    record {
      same_engine : fixed_parts l.self ≡ fixed_parts l.fn.self;
      served : AreServed g.F.GuardedFileSystem.seen g.L.DavLockSystem.seen l.fn.self (take l.request-index l.requests) (map answer_of l.replies.items) l.self;
      recorded : vec_len l.replies ≡ l.request-index;
      room : length l.requests ≤ vec_capacity l.replies;
    }
