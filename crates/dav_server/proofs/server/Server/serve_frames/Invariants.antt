use Rattle.std.proofs.Common.{◌≡◌, ◌≤◌, take, length, map, vec_len, vec_capacity}
use Rattle.dav_server.specs.Answers.{sent_bytes}
use Rattle.dav_server.specs.Frames.{ServesFrames}
use Rattle.dav_server.specs.State.{state_of, rules_of, loans_of}
use Rattle.dav_server.proofs.server.Server.serve_frames.Given as goal

-- the frames so far are served, and there is memory for the replies to the others
abbrev pub invariant-loop-frame : goal.invariant-loop-frame
invariant-loop-frame g l =
    let see_store = g.F.GuardedFileSystem.seen in
    let see_locks = g.L.DavLockSystem.seen in
    record {
      rules : rules_of l.self ≡ rules_of l.fn.self;
      loans : loans_of l.self ≡ loans_of l.fn.self;
      served :
          ServesFrames see_store g.F.GuardedFileSystem.reads (rules_of l.fn.self) (state_of see_store see_locks l.fn.self)
          (map (λ f. f.now) (take l.frame-index l.frames)) (map sent_bytes l.replies.items) (state_of see_store see_locks l.self);
      counted : vec_len l.replies ≡ l.frame-index;
      capacity : length l.frames ≤ vec_capacity l.replies;
    }
