use Rattle.std.proofs.Common.{◌≡◌, ℕ, ◌+◌, List, length, drop, get_or, sym, ap, subst, arith, length-drop}
use Rattle.std.proofs.lemmas.List.{drop_more, drop_all}
use Rattle.kt_script.specs.Places.{IsFault}
use Rattle.kt_script.specs.OutForms.{AreCounts}
use Rattle.kt_script.proofs.NumberBytes.{alone}
use Rattle.kt_script.proofs.OutForms.{counts_more, counts_stop}
use Rattle.kt_script.proofs.out_fronts.counts_front.Goals as goal

pub returns-in-Err : goal.returns-in-Err
returns-in-Err c =
    let i = c.loop-most.most-index in
    let at = c.loop-most.at in
    let fits = c.type_inv.mosts i in
    c.loop-most.invariant.whole c.in-Err.n
    (subst (λ (ks : List ℕ). IsFault (AreCounts ks) (drop at c.args.text.now) c.in-Err.n) (sym (drop_more c.args.mosts.now i 0 c.loop-most-test.true))
    (counts_stop (get_or c.args.mosts.now i 0) (drop (i + 1) c.args.mosts.now) c.args.text.now c.split_at.result.1.now at c.in-Err.n (omega arith) c.split_at.ensures.back c.in-Err.ensures))

pub loop-most-preserved : goal.loop-most-preserved
loop-most-preserved c =
    let i = c.loop-most.most-index in
    let at = c.loop-most.at in
    let n = c.in-Ok.n in
    let fits = c.type_inv.mosts i in
    let within = c.in-Ok.ensures.0.within in
    record {
      within = omega (arith, within, ap length c.split_at.ensures.back, length-drop at c.args.text.now, c.loop-most.invariant.within);
      whole = λ m q.
          let same : at + (n + m) ≡ at + n + m = omega arith in
          subst (λ k. IsFault (AreCounts c.args.mosts.now) c.args.text.now k) same
          (c.loop-most.invariant.whole (n + m)
          (subst (λ (ks : List ℕ). IsFault (AreCounts ks) (drop at c.args.text.now) (n + m)) (sym (drop_more c.args.mosts.now i 0 c.loop-most-test.true))
          (counts_more (get_or c.args.mosts.now i 0) (drop (i + 1) c.args.mosts.now) c.args.text.now c.split_at.result.1.now at n (omega arith) c.split_at.ensures.back m c.in-Ok.ensures q)));
    }

pub returns : goal.returns
returns c =
    let at = c.loop-most.at in
    let same : at + 0 ≡ at = omega arith in
    subst (λ k. IsFault (AreCounts c.args.mosts.now) c.args.text.now k) same
    (c.loop-most.invariant.whole 0
    (subst (λ (ks : List ℕ). IsFault (AreCounts ks) (drop at c.args.text.now) 0) (sym (drop_all c.loop-most.most-index c.args.mosts.now c.loop-most-test.false)) (alone (drop at c.args.text.now))))
