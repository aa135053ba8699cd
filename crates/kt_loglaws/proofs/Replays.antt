-- The replay of a log that grows.
use Rattle.std.proofs.Common.{◌≡◌, ℕ, ◌-◌, ◌<◌, List, [], ◌∷◌, ◌++◌, Some, None, Result, Ok, Err, refl, sym, true, false, cond, ap, ◌∙◌, arith, max, subst}
use Rattle.std.specs.Prelude.{is_some, ◌==◌}
use Rattle.std.specs.List.{cons_option}
use Rattle.std.proofs.lemmas.Bool.Decides.{nat_tests}
use Rattle.kt_history.specs.declared.operation.RowOp.{RowOp}
use Rattle.kt_history.specs.Rows.{Row, Rows}
use Rattle.kt_history.specs.History.{Past, rows_at, with_write}
use Rattle.kt_history.specs.Operations.{effect_on, changes_on, keyed}
use Rattle.kt_history.proofs.RowLaws.{rows_at-with_write_below}
use Rattle.kt_records.specs.declared.entry.Entry.{Entry}
use Rattle.kt_records.specs.declared.entry.Entry.TheVariants.{Replicate, Commit}
use Rattle.kt_records.specs.declared.entry.CommitRow.{CommitRow}
use Rattle.kt_journal.specs.Order.{InOrder}
use Rattle.kt_journal.specs.Log.{IsLog}
use Rattle.kt_loglaws.specs.Replay.{needed_ops, commit_of, replayed, all_change, is_fitting, replay, empty, last_of}
use Rattle.kt_loglaws.specs.Laws.{Tells, a_replicate_adds_its_write, a_commit_changes_nothing}
use Rattle.kt_loglaws.specs.Laws.Tells.{and_one}
use Rattle.kt_loglaws.proofs.LogOrder.{same, is_later, no_commit_yet, last_of-ends, commit_of-append, commit_of-after, Lacks, AllAbove, lacks_before, above_behind, order_behind, one_commit, commit_of-alike, last_of-alike, lacks_around}

-- more records go on from the past of those before
abbrev pub then_past : Row → List Entry → List Entry → Result Past ℕ → Result Past ℕ
then_past fill all ys (Ok past) = replay fill all past ys
then_past fill all ys (Err ts) = Err ts

pub replay-append : (fill : Row) (all : List Entry) (past : Past) (xs ys : List Entry) → replay fill all past (xs ++ ys) ≡ then_past fill all ys (replay fill all past xs)
replay-append fill all past [] ys = refl
replay-append fill all past (Commit t rows ∷ xs) ys = replay-append fill all past xs ys
replay-append fill all past (Replicate t ops ∷ xs) ys =
    elim (is_fitting fill (rows_at past (t - 1)) ops (commit_of t all)) as (λ b.
    cond b (replay fill all (with_write past t (changes_on fill (rows_at past (t - 1)) (replayed ops (commit_of t all)))) (xs ++ ys)) (Err t)
    ≡ then_past fill all ys (cond b (replay fill all (with_write past t (changes_on fill (rows_at past (t - 1)) (replayed ops (commit_of t all)))) xs) (Err t))) [
      | true ↦ replay-append fill all (with_write past t (changes_on fill (rows_at past (t - 1)) (replayed ops (commit_of t all)))) xs ys
      | false ↦ refl
    ]

-- the replay of the records before a write reads no COMMIT of it or later ones
pub replay-alike : (fill : Row) (a b : List Entry) (before xs : List Entry) (ts : ℕ) (ops : List RowOp) (ys : List Entry) (past : Past) → ((t : ℕ) → t < ts → commit_of t a ≡ commit_of t b) → InOrder before (xs ++ Replicate ts ops ∷ ys) → replay fill a past xs ≡ replay fill b past xs
replay-alike fill a b before [] ts ops ys past e h = refl
replay-alike fill a b before (Commit t rows ∷ xs) ts ops ys past e h = replay-alike fill a b (Commit t rows ∷ before) xs ts ops ys past e h.2
replay-alike fill a b before (Replicate t o ∷ xs) ts ops ys past e h =
    let here = e t (is_later before t o xs ts ops ys h) in
    rw here (elim (is_fitting fill (rows_at past (t - 1)) o (commit_of t b)) as (λ v.
    cond v (replay fill a (with_write past t (changes_on fill (rows_at past (t - 1)) (replayed o (commit_of t b)))) xs) (Err t)
    ≡ cond v (replay fill b (with_write past t (changes_on fill (rows_at past (t - 1)) (replayed o (commit_of t b)))) xs) (Err t)) [
      | true ↦ replay-alike fill a b (Replicate t o ∷ before) xs ts ops ys (with_write past t (changes_on fill (rows_at past (t - 1)) (replayed o (commit_of t b)))) e h.2
      | false ↦ refl
    ])

-- what is needed are the operations that change something
pub fits : (fill : Row) (rows : Rows) (ops : List RowOp) (commits : List CommitRow) → Tells fill rows ops commits → all_change fill rows (needed_ops ops commits) ≡ true
fits fill rows [] commits tells = refl
fits fill rows (op ∷ ops) [] tells = refl
fits fill rows (op ∷ ops) (row ∷ commits) (and_one e tells) =
    rw e (elim (is_some (effect_on fill rows op).0) as (λ b. is_some (effect_on fill rows op).0 ≡ b → all_change fill rows (cond b (op ∷ needed_ops ops commits) (needed_ops ops commits)) ≡ true) [
      | true ↦ λ here. rw here (fits fill rows ops commits tells)
      | false ↦ λ _. fits fill rows ops commits tells
    ] refl)

-- and they make the same changes
pub same_changes : (fill : Row) (rows : Rows) (ops : List RowOp) (commits : List CommitRow) → Tells fill rows ops commits → changes_on fill rows (needed_ops ops commits) ≡ changes_on fill rows ops
same_changes fill rows [] commits tells = refl
same_changes fill rows (op ∷ ops) [] tells = elim tells [ ]
same_changes fill rows (op ∷ ops) (row ∷ commits) (and_one e tells) =
    let ih = same_changes fill rows ops commits tells in
    rw e (elim (effect_on fill rows op).0 as (λ o. (effect_on fill rows op).0 ≡ o → changes_on fill rows (cond (is_some o) (op ∷ needed_ops ops commits) (needed_ops ops commits)) ≡ cons_option (keyed op.key o) (changes_on fill rows ops)) [
      | None ↦ λ _. ih
      | Some change ↦ λ here. rw (here, ih) refl
    ] refl)

end_of_write : (fill : Row) (all : List Entry) (past : Past) (ts : ℕ) (ops : List RowOp) → commit_of ts all ≡ None → replay fill all past (Replicate ts ops ∷ []) ≡ Ok (with_write past ts (changes_on fill (rows_at past (ts - 1)) ops))
end_of_write fill all past ts ops e = rw e refl

pub replicate_adds : a_replicate_adds_its_write
replicate_adds fill records past ts ops log was =
    let none = no_commit_yet [] records ts ops [] refl log in
    let all = records ++ Replicate ts ops ∷ [] in
    let alike : replay fill all empty records ≡ Ok past = replay-alike fill all records [] records ts ops [] empty (λ t lt. commit_of-append t records (Replicate ts ops ∷ []) refl) log ∙ was in (
      replay-append fill all empty records (Replicate ts ops ∷ []) ∙ ap (then_past fill all (Replicate ts ops ∷ [])) alike ∙ end_of_write fill all past ts ops (commit_of-append ts records (Replicate ts ops ∷ []) refl ∙ none),
      last_of-ends [] records ts ops [] refl log,
    )

-- the replay of records reads no COMMIT of a write that is not among them
pub replay-apart : (fill : Row) (a b : List Entry) (ts : ℕ) (past : Past) (xs : List Entry) → ((t : ℕ) → (t == ts) ≡ false → commit_of t a ≡ commit_of t b) → Lacks ts xs → replay fill a past xs ≡ replay fill b past xs
replay-apart fill a b ts past [] e lacks = refl
replay-apart fill a b ts past (Commit t rows ∷ xs) e lacks = replay-apart fill a b ts past xs e lacks
replay-apart fill a b ts past (Replicate t o ∷ xs) e lacks =
    let here = e t lacks.0 in
    rw here (elim (is_fitting fill (rows_at past (t - 1)) o (commit_of t b)) as (λ v.
    cond v (replay fill a (with_write past t (changes_on fill (rows_at past (t - 1)) (replayed o (commit_of t b)))) xs) (Err t)
    ≡ cond v (replay fill b (with_write past t (changes_on fill (rows_at past (t - 1)) (replayed o (commit_of t b)))) xs) (Err t)) [
      | true ↦ replay-apart fill a b ts (with_write past t (changes_on fill (rows_at past (t - 1)) (replayed o (commit_of t b)))) xs e lacks.1
      | false ↦ refl
    ])

after : (fill : Row) (all : List Entry) (t : ℕ) (rows : List CommitRow) (ys : List Entry) (r : Result Past ℕ) → then_past fill all (Commit t rows ∷ ys) r ≡ then_past fill all ys r
after fill all t rows ys (Ok past) = refl
after fill all t rows ys (Err ts) = refl

-- a COMMIT itself is passed by
pub replay-passes : (fill : Row) (all : List Entry) (past : Past) (xs : List Entry) (t : ℕ) (rows : List CommitRow) (ys : List Entry) → replay fill all past (xs ++ Commit t rows ∷ ys) ≡ replay fill all past (xs ++ ys)
replay-passes fill all past xs t rows ys = replay-append fill all past xs (Commit t rows ∷ ys) ∙ after fill all t rows ys (replay fill all past xs) ∙ sym (replay-append fill all past xs ys)

-- later writes show nothing below them
pub rows_stay : (fill : Row) (all : List Entry) (past found : Past) (ts : ℕ) (xs : List Entry) → 0 < ts → AllAbove ts xs → replay fill all past xs ≡ Ok found → rows_at found (ts - 1) ≡ rows_at past (ts - 1)
rows_stay fill all past found ts [] up above h = let e : past ≡ found = cc in ap (λ p. rows_at p (ts - 1)) (sym e)
rows_stay fill all past found ts (Commit t rows ∷ xs) up above h = rows_stay fill all past found ts xs up above h
rows_stay fill all past found ts (Replicate t o ∷ xs) up above h =
    let lt = above.0 in
    let changes = changes_on fill (rows_at past (t - 1)) (replayed o (commit_of t all)) in
    elim (is_fitting fill (rows_at past (t - 1)) o (commit_of t all)) as (λ b. cond b (replay fill all (with_write past t changes) xs) (Err t) ≡ Ok found → rows_at found (ts - 1) ≡ rows_at past (ts - 1)) [
      | true ↦ λ h. rows_stay fill all (with_write past t changes) found ts xs up above.1 h ∙ rows_at-with_write_below past t changes (ts - 1) (omega arith)
      | false ↦ λ h. cc
    ] h

other_commit : (t ts : ℕ) (rows : List CommitRow) (ys : List Entry) → (t == ts) ≡ false → commit_of t (Commit ts rows ∷ ys) ≡ commit_of t ys
other_commit t ts rows ys h = let e : (ts == t) ≡ false = grind (arith, nat_tests) in rw e refl

own_commit : (ts : ℕ) (rows : List CommitRow) (ys : List Entry) → commit_of ts (Commit ts rows ∷ ys) ≡ Some rows
own_commit ts rows ys = rw (same ts) refl

module _ (fill : Row) (xs : List Entry) (ts : ℕ) (ops : List RowOp) (ys : List Entry) (rows : List CommitRow) (zs : List Entry) (past : Past)
    (log : IsLog (xs ++ Replicate ts ops ∷ (ys ++ Commit ts rows ∷ zs))) (up : 0 < ts) where
  abbrev all : List Entry
  all = xs ++ Replicate ts ops ∷ (ys ++ Commit ts rows ∷ zs)

  abbrev without : List Entry
  without = xs ++ Replicate ts ops ∷ (ys ++ zs)

  others : (t : ℕ) → (t == ts) ≡ false → commit_of t all ≡ commit_of t without
  others t h = commit_of-alike t xs (Replicate ts ops ∷ (ys ++ Commit ts rows ∷ zs)) (Replicate ts ops ∷ (ys ++ zs)) (commit_of-alike t ys (Commit ts rows ∷ zs) zs (other_commit t ts rows zs h))

  above : AllAbove ts (ys ++ Commit ts rows ∷ zs)
  above = above_behind [] xs ts ops (ys ++ Commit ts rows ∷ zs) log

  one : (commit_of ts ys ≡ None) × (commit_of ts zs ≡ None)
  one = let behind = order_behind [] xs ts ops (ys ++ Commit ts rows ∷ zs) log in one_commit ts (Replicate ts ops ∷ behind.0) ys rows zs (lacks_around ts ys rows zs above).2 behind.1

  its : commit_of ts all ≡ Some rows
  its = commit_of-after ts xs (Replicate ts ops ∷ (ys ++ Commit ts rows ∷ zs)) (no_commit_yet [] xs ts ops (ys ++ Commit ts rows ∷ zs) refl log) ∙ commit_of-after ts ys (Commit ts rows ∷ zs) one.0 ∙ own_commit ts rows zs

  none : commit_of ts without ≡ None
  none = commit_of-after ts xs (Replicate ts ops ∷ (ys ++ zs)) (no_commit_yet [] xs ts ops (ys ++ Commit ts rows ∷ zs) refl log) ∙ commit_of-after ts ys zs one.0 ∙ one.1

  -- from the past at the REPLICATE on
  from_there : (p : Past) → replay fill without p (Replicate ts ops ∷ (ys ++ zs)) ≡ Ok past → Tells fill (rows_at past (ts - 1)) ops rows → replay fill all p (Replicate ts ops ∷ (ys ++ Commit ts rows ∷ zs)) ≡ Ok past
  from_there p h tells =
      let next = with_write p ts (changes_on fill (rows_at p (ts - 1)) ops) in
      let around = lacks_around ts ys rows zs above in
      let started : replay fill without p (Replicate ts ops ∷ (ys ++ zs)) ≡ replay fill without next (ys ++ zs) = rw none refl in
      let went : replay fill without next (ys ++ zs) ≡ Ok past = sym started ∙ h in
      let same_rows : rows_at past (ts - 1) ≡ rows_at p (ts - 1) = rows_stay fill without next past ts (ys ++ zs) up around.0 went ∙ rows_at-with_write_below p ts (changes_on fill (rows_at p (ts - 1)) ops) (ts - 1) (omega arith) in
      let told : Tells fill (rows_at p (ts - 1)) ops rows = subst (λ r. Tells fill r ops rows) same_rows tells in
      let begins : replay fill all p (Replicate ts ops ∷ (ys ++ Commit ts rows ∷ zs)) ≡ replay fill all next (ys ++ Commit ts rows ∷ zs) = rw (its, fits fill (rows_at p (ts - 1)) ops rows told, same_changes fill (rows_at p (ts - 1)) ops rows told) refl in
      begins ∙ replay-passes fill all next ys ts rows zs ∙ replay-apart fill all without ts next (ys ++ zs) others around.1 ∙ went

  pub commit_is_passed : replay fill without empty without ≡ Ok past → Tells fill (rows_at past (ts - 1)) ops rows → replay fill all empty all ≡ Ok past
  commit_is_passed was tells =
      let front : replay fill all empty xs ≡ replay fill without empty xs = replay-apart fill all without ts empty xs others (lacks_before [] xs ts ops (ys ++ Commit ts rows ∷ zs) log) in
      let went : then_past fill without (Replicate ts ops ∷ (ys ++ zs)) (replay fill without empty xs) ≡ Ok past = sym (replay-append fill without empty xs (Replicate ts ops ∷ (ys ++ zs))) ∙ was in
      replay-append fill all empty xs (Replicate ts ops ∷ (ys ++ Commit ts rows ∷ zs)) ∙ ap (then_past fill all (Replicate ts ops ∷ (ys ++ Commit ts rows ∷ zs))) front
      ∙ elim (replay fill without empty xs) as (λ r. then_past fill without (Replicate ts ops ∷ (ys ++ zs)) r ≡ Ok past → then_past fill all (Replicate ts ops ∷ (ys ++ Commit ts rows ∷ zs)) r ≡ Ok past) [
        | Ok p ↦ λ h. from_there p h tells
        | Err t ↦ λ h. cc
      ] went

  pub same_last : last_of all ≡ last_of without
  same_last = last_of-alike xs (Replicate ts ops ∷ (ys ++ Commit ts rows ∷ zs)) (Replicate ts ops ∷ (ys ++ zs)) (ap (λ n. max ts n) (last_of-alike ys (Commit ts rows ∷ zs) zs refl))

pub commit_changes_nothing : a_commit_changes_nothing
commit_changes_nothing fill xs ts ops ys rows zs past log up was tells = (commit_is_passed fill xs ts ops ys rows zs past log up was tells, same_last fill xs ts ops ys rows zs past log up)
