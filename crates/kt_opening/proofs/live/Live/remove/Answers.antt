use Rattle.std.proofs.Common.{ℕ, Vec, Global, false}
use Rattle.kt_opening.proofs.LiveLaws.{among_after}
use Rattle.kt_opening.proofs.live.Live.remove.Goals as goal

pub returns : goal.returns
returns c = λ other. among_after (λ (v : Vec ℕ Global). v.items) c.args.key.now false c.args.self.now.keys c.remove.new.self c.remove.ensures.updates other
