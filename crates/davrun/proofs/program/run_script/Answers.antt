use Rattle.davrun.proofs.program.run_script.Goals as goal

pub returns-clause-run : goal.returns-clause-run
returns-clause-run g c ends =
    let served = c.run_script.ensures.run ends in
    record {
      profile = served.profile;
      script = served.script.blocks.items;
      read = record { text = served.read.text; whole = served.read.whole; chosen = served.read.chosen; given = served.read.given };
      last = served.last;
      done = served.done;
    }
