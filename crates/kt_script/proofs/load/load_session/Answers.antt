use Rattle.std.proofs.Common.{◌≡◌, suc, ◌+◌, ◌++◌, ◌∙◌, arith, ap, subst, refl}
use Rattle.kt_script.specs.Loads.{drawn, load_step, load_session}
use Rattle.kt_script.proofs.load.load_session.Goals as goal

pub writes-preserved : goal.writes-preserved
writes-preserved c =
    let s = c.args.session in
    let k = c.writes.k in
    let next : suc k ≡ k + 1 = omega arith in
    record {
      made = c.in_ok-push_step.ensures ∙ (ap (λ commands. commands ++ load_step s (k + 1)) c.writes.invariant.made ∙ subst (λ n. load_session k s ++ load_step s n ≡ load_session n s) next refl);
      number = c.next_drawn-number.ensures s k c.writes.invariant.number ∙ ap (drawn s) next;
    }
