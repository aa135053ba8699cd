use Rattle.std.proofs.Common.{◌≡◌, ◌≢◌, ◌∙◌, sym, subst, get_or, take, arith, false}
use Rattle.std.specs.List.{All, AllPairs}
use Rattle.std.proofs.lemmas.List.{take_all}
use Rattle.kt_policy.specs.declared.candidate.Candidate.{Candidate}
use Rattle.kt_policy.specs.Gain.{IsCandidate, is_known}
use Rattle.kt_policy.proofs.Sets.{blank}
use Rattle.kt_policy.proofs.Given.{each_more, different_more}
use Rattle.kt_cases.proofs.policy.are_candidates.Goals as goal

pub loop-k-preserved : goal.loop-k-preserved
loop-k-preserved c =
    let new : is_known (take c.loop-k.k c.args.list.now) (get_or c.args.list.now c.loop-k.k blank).rowset ≡ false = sym c.is_known.ensures ∙ c.if-is_known.false in
    record {
      each = each_more c.args.list.now c.loop-k.k blank (omega arith) (omega arith) (omega arith) c.loop-k.invariant.each;
      different = different_more c.args.list.now c.loop-k.k blank (omega arith) new c.loop-k.invariant.different;
    }

pub returns : goal.returns
returns c = λ _. record {
  few = omega arith;
  each = subst (All IsCandidate) (take_all c.loop-k.k c.args.list.now (omega arith)) c.loop-k.invariant.each;
  different = subst (AllPairs (λ (x y : Candidate). x.rowset ≢ y.rowset)) (take_all c.loop-k.k c.args.list.now (omega arith)) c.loop-k.invariant.different;
}
