use Rattle.std.proofs.Common.{◌≡◌}
use Rattle.kt_script.specs.Loads.{drawn, load_session}
use Rattle.kt_script.proofs.load.load_session.Given as goal

-- the writes before here are made, and the last number is that of the last of them
abbrev pub invariant-writes : goal.invariant-writes
invariant-writes l = record {
  made : l.commands ≡ load_session l.k l.session;
  number : l.number ≡ drawn l.session l.k;
}
