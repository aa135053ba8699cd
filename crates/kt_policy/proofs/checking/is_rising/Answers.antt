use Rattle.std.proofs.Common.{◌<◌, ℕ, subst, arith, refl}
use Rattle.std.specs.List.{AllPairs}
use Rattle.std.proofs.lemmas.List.{take_all}
use Rattle.kt_policy.proofs.Ends.{rising_more}
use Rattle.kt_policy.proofs.checking.is_rising.Goals as goal

pub loop-k-preserved : goal.loop-k-preserved
loop-k-preserved c = record { rises = rising_more c.args.set.now c.loop-k.k c.loop-k.auto.k (omega arith) (let h = c.if-set-k.false in omega arith) c.loop-k.invariant.rises }

pub returns : goal.returns
returns c = (λ _. subst (AllPairs (λ (m n : ℕ). m < n)) (take_all c.loop-k.k c.args.set.now (omega arith)) c.loop-k.invariant.rises, λ _. refl)
