-- The writes of a log are on different keys, and their COMMITs have a row for each operation.
use Rattle.std.proofs.Common.{◌≡◌, ℕ, List, [], ◌∷◌, ◌++◌, length, Some, None, Option, true, false, cond, refl, sym, ap, ◌∙◌, subst, arith, append_assoc}
use Rattle.std.specs.Prelude.{◌==◌}
use Rattle.std.specs.List.{list_any}
use Rattle.std.specs.Ordering.{eq_by_cmp}
use Rattle.std.proofs.lemmas.Bool.Decides.{nat_tests}
use Rattle.kt_history.specs.declared.operation.RowOp.{RowOp}
use Rattle.kt_history.specs.Rows.{key_cmp}
use Rattle.kt_history.specs.Operations.{DifferentKeys}
use Rattle.kt_records.specs.declared.entry.Entry.{Entry}
use Rattle.kt_records.specs.declared.entry.Entry.TheVariants.{Replicate, Commit}
use Rattle.kt_records.specs.declared.entry.CommitRow.{CommitRow}
use Rattle.kt_records.specs.Rules.{EachAfter, FollowingOp, has_key}
use Rattle.kt_journal.specs.Order.{InOrder, waiting, is_count}
use Rattle.kt_journal.specs.Log.{IsLog}
use Rattle.kt_loglaws.specs.Replay.{commit_of}
use Rattle.kt_loglaws.proofs.LogOrder.{same, equal, differs_down, AllAbove, above_behind, no_commit_yet, commit_of-after}
use Rattle.kt_content.specs.Opening.{HasRows, AreWrites, the_writes_of_a_log_have_rows}
use Rattle.std.proofs.lemmas.Bool.{or_parts, or_from}

-- a key that is none of more operations is none of the first
has_front : (front : List RowOp) (op : RowOp) (key : List ℕ) → has_key (front ++ op ∷ []) key ≡ false → has_key front key ≡ false
has_front [] op key h = refl
has_front (o ∷ front) op key h = or_from _ _ (or_parts _ _ h).0 (has_front front op key (or_parts _ _ h).1)

has_last : (front : List RowOp) (op : RowOp) (key : List ℕ) → has_key (front ++ op ∷ []) key ≡ false → eq_by_cmp key_cmp op.key key ≡ false
has_last [] op key h = (or_parts _ _ h).0
has_last (o ∷ front) op key h = has_last front op key (or_parts _ _ h).1

none_later : (front : List RowOp) (op : RowOp) (ops : List RowOp) → ((key : List ℕ) → has_key front key ≡ false → eq_by_cmp key_cmp op.key key ≡ false) → EachAfter FollowingOp front ops → list_any (λ (other : RowOp). eq_by_cmp key_cmp op.key other.key) ops ≡ false
none_later front op [] among h = refl
none_later front op (x ∷ ops) among h = or_from _ _ (among x.key h.0.new_key) (none_later (front ++ x ∷ []) op ops (λ key none. among key (has_front front x key none)) h.1)

different : (front : List RowOp) (ops : List RowOp) → EachAfter FollowingOp front ops → DifferentKeys ops
different front [] h = tt
different front (op ∷ ops) h = (none_later (front ++ op ∷ []) op ops (has_last front op) h.1, different (front ++ op ∷ []) ops h.1)

-- as many rows as operations
enough_rows : (ops : List RowOp) (rows : List CommitRow) → length ops ≡ length rows → HasRows ops (Some rows)
enough_rows [] rows e = tt
enough_rows (op ∷ ops) [] e = absurd (omega arith)
enough_rows (op ∷ ops) (row ∷ rows) e = enough_rows ops rows (omega arith)

counted : (n m : ℕ) → is_count (Some n) m ≡ true → n ≡ m
counted n m h = grind (arith, nat_tests)

-- behind a write that waits, its COMMIT has as many rows
its_rows : (ts n : ℕ) (before ys : List Entry) (rows : List CommitRow) → waiting ts before ≡ Some n → AllAbove ts ys → InOrder before ys → commit_of ts ys ≡ Some rows → n ≡ length rows
its_rows ts n before [] rows w above h e = absurd (cc)
its_rows ts n before (Replicate t o ∷ ys) rows w above h e = its_rows ts n (Replicate t o ∷ before) ys rows (rw (differs_down ts t above.0) w) above.1 h.2 e
its_rows ts n before (Commit t r ∷ ys) rows w above h e = elim (t == ts) as (λ b. (t == ts) ≡ b → cond b (Some r) (commit_of ts ys) ≡ Some rows → n ≡ length rows) [
  | true ↦ λ s e.
      let here : r ≡ rows = cc in
      let counts : is_count (Some n) (length r) ≡ true = ap (λ o. is_count o (length r)) (sym w ∙ ap (λ u. waiting u before) (sym (equal t ts s))) ∙ h.1 in
      counted n (length r) counts ∙ ap length here
  | false ↦ λ s e. its_rows ts n (Commit t r ∷ before) ys rows (rw s w) above h.2 e
] refl e

behind : (before xs : List Entry) (ts : ℕ) (ops : List RowOp) (ys : List Entry) → InOrder before (xs ++ Replicate ts ops ∷ ys) → (front : List Entry) × InOrder front (Replicate ts ops ∷ ys)
behind before [] ts ops ys h = (before, h)
behind before (Replicate t o ∷ xs) ts ops ys h = behind (Replicate t o ∷ before) xs ts ops ys h.2
behind before (Commit t rows ∷ xs) ts ops ys h = behind (Commit t rows ∷ before) xs ts ops ys h.2

has_rows : (ops : List RowOp) (o : Option (List CommitRow)) → ((rows : List CommitRow) → o ≡ Some rows → length ops ≡ length rows) → HasRows ops o
has_rows ops None f = tt
has_rows ops (Some rows) f = enough_rows ops rows (f rows refl)

write_at : (front : List Entry) (ts : ℕ) (ops : List RowOp) (ys : List Entry) → IsLog (front ++ Replicate ts ops ∷ ys) → DifferentKeys ops × HasRows ops (commit_of ts (front ++ Replicate ts ops ∷ ys))
write_at front ts ops ys log =
    let at = behind [] front ts ops ys log in (
      different [] ops at.1.0.keeps.ops,
      has_rows ops (commit_of ts (front ++ Replicate ts ops ∷ ys))
          (λ rows e. its_rows ts (length ops) (Replicate ts ops ∷ at.0) ys rows (rw (same ts) refl) (above_behind [] front ts ops ys log) at.1.2
          (sym (commit_of-after ts front (Replicate ts ops ∷ ys) (no_commit_yet [] front ts ops ys refl log)) ∙ e)),
    )

each_write : (front records : List Entry) → IsLog (front ++ records) → AreWrites (front ++ records) records
each_write front [] log = tt
each_write front (Replicate ts ops ∷ records) log =
    let next : front ++ Replicate ts ops ∷ records ≡ (front ++ Replicate ts ops ∷ []) ++ records = sym (append_assoc front (Replicate ts ops ∷ []) records) in
    let here = write_at front ts ops records log in
    (here.0, here.1, subst (λ (l : List Entry). AreWrites l records) (sym next) (each_write (front ++ Replicate ts ops ∷ []) records (subst (λ (l : List Entry). IsLog l) next log)))
each_write front (Commit ts rows ∷ records) log =
    let next : front ++ Commit ts rows ∷ records ≡ (front ++ Commit ts rows ∷ []) ++ records = sym (append_assoc front (Commit ts rows ∷ []) records) in
    subst (λ (l : List Entry). AreWrites l records) (sym next) (each_write (front ++ Commit ts rows ∷ []) records (subst (λ (l : List Entry). IsLog l) next log))

pub writes_have_rows : the_writes_of_a_log_have_rows
writes_have_rows records log = each_write [] records log
