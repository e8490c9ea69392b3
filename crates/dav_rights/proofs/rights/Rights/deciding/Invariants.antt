use Rattle.std.proofs.Common.{◌≡◌, option_copied, drop}
use Rattle.dav_rights.specs.Rights.{deciding, longer_of}
use Rattle.dav_rights.proofs.rights.Rights.deciding.Given as goal

abbrev pub invariant-loop-rule : goal.invariant-loop-rule
invariant-loop-rule l =
    longer_of (option_copied l.best) (deciding l.strict l.key (drop l.rule-index l.rule-items)) ≡ deciding l.strict l.key l.rule-items
