use Rattle.davd.proofs.program.serve_in_memory.Goals as goal

pub returns-in-Ok-clause-served : goal.returns-in-Ok-clause-served
returns-in-Ok-clause-served g c =
    record {
      store = c.in_ok-store.store;
      locks = c.new-locks.result;
      empty = c.in_ok-store.ensures;
      unlocked = c.new-locks.ensures;
      final = _;
      runs = rw (c.new-server.ensures.state, c.new-store.ensures.inner, c.new-server.ensures.rules) at c.in-Ok.ensures.ran;
    }
