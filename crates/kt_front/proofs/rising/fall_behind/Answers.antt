use Rattle.std.proofs.Common.{List, ℕ, IfOk, subst}
use Rattle.std.specs.Prelude.{MatchOption}
use Rattle.kt_front.specs.Order.{bound, IsFall, NoneFalls}
use Rattle.kt_front.proofs.rising.fall_behind.Goals as goal

pub returns : goal.returns
returns c = subst (λ (l : List ℕ). IfOk c.fall_among.result (λ found. MatchOption found (NoneFalls c.args.most c.args.n (bound c.args.some l) c.args.bytes.now) (IsFall c.args.most c.args.n (bound c.args.some l) c.args.bytes.now))) c.in_ok-last.ensures c.fall_among.ensures
