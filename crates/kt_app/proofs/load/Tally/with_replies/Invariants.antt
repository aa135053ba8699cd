use Rattle.std.proofs.Common.{◌≡◌, drop}
use Rattle.kt_loadlaws.specs.Summary.{all_replied}
use Rattle.kt_app.specs.Loaded.{counts_of}
use Rattle.kt_app.proofs.load.Tally.with_replies.Given as goal

abbrev pub invariant-loop-reply : goal.invariant-loop-reply
invariant-loop-reply l = all_replied (counts_of l.tally) (drop l.reply-index l.replies) ≡ all_replied (counts_of l.fn.self) l.replies
