use Rattle.std.proofs.Common.{◌≡◌, ◌+◌, ◌∷◌, List, drop, Err, refl, sym, ap, ◌∙◌, subst, arith}
use Rattle.std.specs.Option.{option_map}
use Rattle.kt_records.specs.Shared.{entry_of}
use Rattle.kt_records.specs.declared.entry.Entry.TheVariants.{Replicate, Commit}
use Rattle.kt_loglaws.specs.Replay.{commit_of}
use Rattle.kt_reopen.proofs.Replayed.{first_left, here_is}
use Rattle.kt_reopen.specs.declared.replaying.ReplayNo.TheVariants.{Late}
use Rattle.kt_reopen.proofs.LogsDone.{Along, along_first, over_commit, over_write, may_write, late_write, log_done, all_owed}
use Rattle.std.proofs.lemmas.List.{drop_all}
use Rattle.kt_records.specs.declared.entry.Entry.{Entry}
use Rattle.std.proofs.lemmas.Result.{err_from_is_err_and}
use Rattle.kt_reopen.proofs.replaying.replay.Goals as goal
use Rattle.kt_reopen.proofs.replaying.replay.Goals.{in-Replicate+in_ok-take_write, in_default}

pub records-init : goal.records-init
records-init c =
    along_first c.args.meta.now c.args.records.now c.args.stores.now c.new-queued.result.items c.requires.log c.requires.kept c.requires.thawed c.requires.places c.requires.apart c.requires.under c.requires.room c.new-queued.ensures.items

pub take_write-requires : goal.take_write-requires
take_write-requires c =
    let records = c.args.records.now in
    let i = c.records.at in
    let ts = c.in-Replicate.ts in
    let ops = c.in-Replicate.ops in
    let commit = option_map (λ rows. rows.now) c.own_commit-commit.result in
    let its : commit ≡ commit_of ts records = c.own_commit-commit.ensures ts ops (here_is records i (entry_of c.at.result) (omega arith) c.at.ensures (ap entry_of c.in-Replicate.is)) in
    let here : drop i records ≡ Replicate ts ops ∷ drop (i + 1) records = first_left records i (i + 1) (entry_of c.at.result) (omega arith) c.at.ensures refl ∙ ap (λ r. entry_of r ∷ drop (i + 1) records) c.in-Replicate.is in
    record {
      may =
          may_write c.args.meta.now records c.args.stores.now c.records.stores c.records.queued.items ts ops (drop (i + 1) records)
          (subst (λ rest. Along c.args.meta.now records c.args.stores.now c.records.stores c.records.queued.items rest) here c.records.invariant) commit its;
    }

pub records-preserved : goal.records-preserved
records-preserved c =
    let records = c.args.records.now in
    let i = c.records.at in
    let left : drop i records ≡ entry_of c.at.result ∷ drop (i + 1) records = first_left records i (i + 1) (entry_of c.at.result) (omega arith) c.at.ensures refl in
    elim c.match-at.branch [
      | in-Replicate+in_ok-take_write w ↦
          let ts = w.in-Replicate.ts in
          let ops = w.in-Replicate.ops in
          let commit = option_map (λ rows. rows.now) w.own_commit-commit.result in
          let its : commit ≡ commit_of ts records = w.own_commit-commit.ensures ts ops (here_is records i (entry_of c.at.result) (omega arith) c.at.ensures (ap entry_of w.in-Replicate.is)) in
          let here : drop i records ≡ Replicate ts ops ∷ drop (i + 1) records = left ∙ ap (λ r. entry_of r ∷ drop (i + 1) records) w.in-Replicate.is in
          let along = subst (λ rest. Along c.args.meta.now records c.args.stores.now c.records.stores c.records.queued.items rest) here c.records.invariant in
          rw (w.stores-is) (over_write c.args.meta.now records c.args.stores.now c.records.stores c.records.queued.items ts ops (drop (i + 1) records) along commit its
          w.take_write.new.stores c.match-at.queued.items w.in_ok-take_write.ensures.does (λ fill name named. ap (λ q. q.items) w.queued-is ∙ w.in_ok-take_write.ensures.queued fill name named))
      | in_default w ↦
          let here : drop i records ≡ Commit w.in_default.field-0 w.in_default.field-1.now ∷ drop (i + 1) records = left ∙ ap (λ r. entry_of r ∷ drop (i + 1) records) w.in_default.is in
          let along = subst (λ rest. Along c.args.meta.now records c.args.stores.now c.records.stores c.records.queued.items rest) here c.records.invariant in
          rw (w.stores-is, w.queued-is) (over_commit c.args.meta.now records c.args.stores.now c.records.stores c.records.queued.items w.in_default.field-0 w.in_default.field-1.now (drop (i + 1) records) along)
    ]

pub returns-in_err-take_write-clause-late : goal.returns-in_err-take_write-clause-late
returns-in_err-take_write-clause-late c t is fill =
    let records = c.args.records.now in
    let i = c.records.at in
    let ts = c.in-Replicate.ts in
    let ops = c.in-Replicate.ops in
    let commit = option_map (λ rows. rows.now) c.own_commit-commit.result in
    let its : commit ≡ commit_of ts records = c.own_commit-commit.ensures ts ops (here_is records i (entry_of c.at.result) (omega arith) c.at.ensures (ap entry_of c.in-Replicate.is)) in
    let here : drop i records ≡ Replicate ts ops ∷ drop (i + 1) records = first_left records i (i + 1) (entry_of c.at.result) (omega arith) c.at.ensures refl ∙ ap (λ r. entry_of r ∷ drop (i + 1) records) c.in-Replicate.is in
    let along = subst (λ rest. Along c.args.meta.now records c.args.stores.now c.records.stores c.records.queued.items rest) here c.records.invariant in
    let p = err_from_is_err_and c.from_residual.result c.from_residual.ensures.1 in
    let same : c.in_err-take_write.field-0.0 ≡ Late t = cc in
    let both = c.in_err-take_write.ensures.late t (ap (λ e. Err e) same) in
    late_write c.args.meta.now records c.args.stores.now c.records.stores c.records.queued.items ts ops (drop (i + 1) records) along commit its both.1 fill ∙ ap (λ n. Err n) (sym both.0)

pub returns-clause-does : goal.returns-clause-does
returns-clause-does c =
    let records = c.args.records.now in
    log_done c.args.meta.now records c.args.stores.now c.records.stores c.records.queued.items
    (subst (λ (rest : List Entry). Along c.args.meta.now records c.args.stores.now c.records.stores c.records.queued.items rest) (drop_all c.records.at records (omega arith)) c.records.invariant)

pub returns-clause-owed : goal.returns-clause-owed
returns-clause-owed c = λ fill name named.
    let records = c.args.records.now in
    c.of.ensures ∙ all_owed c.args.meta.now records c.args.stores.now c.records.stores c.records.queued.items
    (subst (λ (rest : List Entry). Along c.args.meta.now records c.args.stores.now c.records.stores c.records.queued.items rest) (drop_all c.records.at records (omega arith)) c.records.invariant) fill name named
