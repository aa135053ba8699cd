use Rattle.std.proofs.Common.{◌≡◌, drop}
use Rattle.kt_loadlaws.specs.Summary.{none_counted, sessions_replied}
use Rattle.kt_app.specs.Loaded.{counts_of}
use Rattle.kt_app.proofs.load.tally_of.Given as goal

abbrev pub invariant-loop-session : goal.invariant-loop-session
invariant-loop-session l = sessions_replied (counts_of l.tally) (drop l.session-index l.sessions) ≡ sessions_replied none_counted l.sessions
