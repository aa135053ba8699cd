use Rattle.std.proofs.Common.{◌≡◌, ◌∷◌, ◌++◌, [], ℕ, sym, ap, ◌∙◌}
use Rattle.std.specs.Prelude.{◌==◌}
use Rattle.std.specs.List.{list_any}
use Rattle.kt_super.specs.declared.meta.MetaRowset.{MetaRowset}
use Rattle.kt_engine.proofs.JobMetas.{left_out, copied}
use Rattle.kt_engine.proofs.job_meta.push_copies.Goals as goal
use Rattle.kt_engine.proofs.job_meta.push_copies.Goals.{then-not-contains+in_ok-copy_rowset+in_ok-push, else-not-contains}

pub rowsets-preserved : goal.rowsets-preserved
rowsets-preserved c =
    let taken = c.args.taken.now in
    let k = c.rowsets.rowset-index in
    let x : MetaRowset = c.rowset-item.result in
    let has : c.contains.result ≡ list_any (λ (s : ℕ). s == x.rowset) taken = c.contains.ensures.value in
    elim c.if-not-contains.branch [
      | then-not-contains+in_ok-copy_rowset+in_ok-push w ↦
          copied taken c.args.rowsets.now c.rowsets.out.items _ _ k x c.rowsets-test.true c.rowset-item.is (sym has ∙ w.if-not-contains.true) c.rowsets.invariant
          (ap (λ l. l.items) w.out-is ∙ w.in_ok-push.ensures.items ∙ ap (λ (m : MetaRowset). c.rowsets.out.items ++ m ∷ []) w.in_ok-copy_rowset.ensures)
      | else-not-contains w ↦ left_out taken c.args.rowsets.now _ _ k x c.rowsets-test.true c.rowset-item.is (sym has ∙ w.if-not-contains.false) (ap (λ l. l.items) w.out-is ∙ c.rowsets.invariant)
    ]
