use Rattle.std.proofs.Common.{◌≡◌, ◌+◌, ◌∷◌, [], drop, refl, sym, ap, ◌∙◌, subst, arith}
use Rattle.kt_history.specs.Operations.{need}
use Rattle.kt_records.specs.declared.entry.Entry.TheVariants.{Replicate, Commit}
use Rattle.kt_records.specs.Shared.{entry_of}
use Rattle.kt_loglaws.specs.Replay.{commit_of}
use Rattle.kt_content.specs.Opening.{AreWrites, HasRows}
use Rattle.kt_content.proofs.Writes.{writes_have_rows}
use Rattle.kt_reopen.specs.Bare.{bare}
use Rattle.kt_reopen.specs.Needed.{AreFew, replayed, needs_of}
use Rattle.kt_reopen.proofs.Few.{few_in_log}
use Rattle.kt_reopen.proofs.NeedLaws.{writes_drop}
use Rattle.kt_reopen.proofs.Replayed.{first_left, here_is}
use Rattle.kt_reopen.proofs.needed.needs_of.Goals as goal
use Rattle.kt_reopen.proofs.needed.needs_of.Goals.{in-Replicate+in_ok-cells+in_ok-sum, in_default}

pub write_need-requires-clause-rows : goal.write_need-requires-clause-rows
write_need-requires-clause-rows c =
    let records = c.args.records.now in
    let i = c.records.at in
    let ts = c.in-Replicate.ts in
    let ops = c.in-Replicate.ops in
    let its = c.own_commit-commit.ensures ts ops (here_is records i (entry_of c.at.result) (omega arith) c.at.ensures (ap entry_of c.in-Replicate.is)) in
    let here : drop i records ≡ Replicate ts ops ∷ drop (i + 1) records = first_left records i (i + 1) (entry_of c.at.result) (omega arith) c.at.ensures refl ∙ ap (λ r. entry_of r ∷ drop (i + 1) records) c.in-Replicate.is in
    subst (HasRows ops) (sym its) (subst (AreWrites records) here (writes_drop records i records (writes_have_rows records c.requires.log))).1

pub write_need-requires-clause-few : goal.write_need-requires-clause-few
write_need-requires-clause-few c =
    let records = c.args.records.now in
    let ts = c.in-Replicate.ts in
    let its = c.own_commit-commit.ensures ts c.in-Replicate.ops (here_is records c.records.at (entry_of c.at.result) (omega arith) c.at.ensures (ap entry_of c.in-Replicate.is)) in
    subst AreFew (sym its) (few_in_log ts [] records c.requires.log)

pub records-preserved : goal.records-preserved
records-preserved c =
    let super = bare c.args.meta.now in
    let records = c.args.records.now in
    let i = c.records.at in
    let so_far = c.records.invariant in
    let left : drop i records ≡ entry_of c.at.result ∷ drop (i + 1) records = first_left records i (i + 1) (entry_of c.at.result) (omega arith) c.at.ensures refl in
    elim c.match-at.branch [
      | in-Replicate+in_ok-cells+in_ok-sum w ↦
          let ts = w.in-Replicate.ts in
          let ops = w.in-Replicate.ops in
          let its = w.own_commit-commit.ensures ts ops (here_is records i (entry_of c.at.result) (omega arith) c.at.ensures (ap entry_of w.in-Replicate.is)) in
          let here : drop i records ≡ Replicate ts ops ∷ drop (i + 1) records = left ∙ ap (λ r. entry_of r ∷ drop (i + 1) records) w.in-Replicate.is in
          let own : w.in_ok-cells.cells ≡ need (replayed super ops (commit_of ts records)) = w.in_ok-cells.ensures ∙ ap (λ o. need (replayed super ops o)) its in
          let rest : needs_of super records (drop i records) ≡ need (replayed super ops (commit_of ts records)) + needs_of super records (drop (i + 1) records) = ap (needs_of super records) here in
          let sum = w.sum-is ∙ w.in_ok-sum.ensures in
          omega arith
      | in_default w ↦
          let here : drop i records ≡ Commit w.in_default.field-0 w.in_default.field-1.now ∷ drop (i + 1) records = left ∙ ap (λ r. entry_of r ∷ drop (i + 1) records) w.in_default.is in
          let rest : needs_of super records (drop i records) ≡ needs_of super records (drop (i + 1) records) = ap (needs_of super records) here in
          let sum = w.sum-is in
          omega arith
    ]
