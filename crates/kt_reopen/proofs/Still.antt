-- The rows just before a time stay as they are while later operations are opened.
use Rattle.std.proofs.Common.{◌≡◌, ◌≤◌, ◌<◌, ℕ, List, [], ◌∷◌, Option, Some, None, Ok, Err, Result, refl, sym, ap, ◌∙◌, subst, true, false, arith}
use Rattle.std.specs.Ordering.{eq_by_cmp}
use Rattle.std.proofs.lemmas.Bool.Decides.{nat_tests}
use Rattle.kt_history.specs.declared.operation.RowOp.{RowOp}
use Rattle.kt_history.specs.Rows.{Row, key_cmp}
use Rattle.kt_histlaws.proofs.Pending.{same_key}
use Rattle.kt_records.specs.declared.entry.Entry.{Entry}
use Rattle.kt_records.specs.declared.entry.Entry.TheVariants.{Replicate, Commit}
use Rattle.kt_records.specs.declared.entry.CommitRow.{CommitRow}
use Rattle.kt_journal.specs.Order.{last_ts, is_above, InOrder}
use Rattle.kt_loglaws.specs.Replay.{commit_of}
use Rattle.kt_content.specs.Places.{Super, Moves, standing}
use Rattle.kt_content.specs.KeyOps.{decided}
use Rattle.kt_content.specs.Opening.{Placed, held_of, moved_stores, if_it_fits, names_at, rows_behind, write_opened, then_opened, opened}
use Rattle.kt_content.proofs.Agreement.{standing-moved}
use Rattle.kt_content.proofs.Opening.{same_moved, other_moved}
use Rattle.kt_content.proofs.Seen.{from_last}

-- changes from a time on show nothing below it
pub still_moved : (u ts : ℕ) (q k : List ℕ) (ms : Moves) (stores : Placed) → u ≤ ts → standing u (held_of k (moved_stores ts q ms stores)) ≡ standing u (held_of k stores)
still_moved u ts q k ms stores le = elim (eq_by_cmp key_cmp k q) as (λ b. eq_by_cmp key_cmp k q ≡ b → standing u (held_of k (moved_stores ts q ms stores)) ≡ standing u (held_of k stores)) [
  | true ↦ λ e. subst (λ (x : List ℕ). standing u (held_of x (moved_stores ts q ms stores)) ≡ standing u (held_of x stores)) (sym (same_key k q e))
      (ap (standing u) (same_moved ts q ms stores) ∙ standing-moved u ts ms (held_of q stores) le)
  | false ↦ λ e. ap (standing u) (other_moved ts q k ms stores e)
] refl

pub still_written : (fill : Row) (super : Super) (u ts : ℕ) (ops : List RowOp) (told : Option (List CommitRow)) (stores mid : Placed) (k : List ℕ) → u ≤ ts → write_opened fill super ts ops told stores ≡ Ok mid
    → standing u (held_of k mid) ≡ standing u (held_of k stores)
still_written fill super u ts [] told stores mid k le h = let e : stores ≡ mid = cc in ap (λ (s : Placed). standing u (held_of k s)) (sym e)
still_written fill super u ts (op ∷ ops) told stores mid k le h = by (decided fill super (standing ts (held_of op.key stores)) op (names_at told)) h
    (λ ms g. still_written fill super u ts ops (rows_behind told) (moved_stores ts op.key ms stores) mid k le g)
  where
    by : (o : Option Moves) → if_it_fits ts (λ moves. write_opened fill super ts ops (rows_behind told) (moved_stores ts op.key moves stores)) o ≡ Ok mid
        → ((ms : Moves) → write_opened fill super ts ops (rows_behind told) (moved_stores ts op.key ms stores) ≡ Ok mid → standing u (held_of k mid) ≡ standing u (held_of k (moved_stores ts op.key ms stores)))
        → standing u (held_of k mid) ≡ standing u (held_of k stores)
    by None g more = absurd (cc)
    by (Some ms) g more = more ms g ∙ still_moved u ts op.key k ms stores le

above_last : (last : Option ℕ) (ts : ℕ) → is_above last ts ≡ true → from_last last ≤ ts
above_last None ts h = omega arith
above_last (Some l) ts h = let lt : l < ts = grind (arith, nat_tests) in omega arith

-- and so do the writes of a log from there on
pub still_opened : (fill : Row) (super : Super) (u : ℕ) (all before records : List Entry) (stores final : Placed) (k : List ℕ) → u ≤ from_last (last_ts before) → InOrder before records
    → opened fill super all stores records ≡ Ok final → standing u (held_of k final) ≡ standing u (held_of k stores)
still_opened fill super u all before [] stores final k le order h = let e : stores ≡ final = cc in ap (λ (s : Placed). standing u (held_of k s)) (sym e)
still_opened fill super u all before (Commit ts rows ∷ records) stores final k le order h = still_opened fill super u all (Commit ts rows ∷ before) records stores final k le order.2 h
still_opened fill super u all before (Replicate ts ops ∷ records) stores final k le order h =
    let up : u ≤ ts = let at = above_last (last_ts before) ts order.1 in omega arith in
    by (write_opened fill super ts ops (commit_of ts all) stores) refl h up (λ mid g. still_opened fill super u all (Replicate ts ops ∷ before) records mid final k (omega arith) order.2 g)
  where
    by : (r : Result Placed ℕ) → write_opened fill super ts ops (commit_of ts all) stores ≡ r → then_opened (λ stores. opened fill super all stores records) r ≡ Ok final → u ≤ ts
        → ((mid : Placed) → opened fill super all mid records ≡ Ok final → standing u (held_of k final) ≡ standing u (held_of k mid)) → standing u (held_of k final) ≡ standing u (held_of k stores)
    by (Err t) e g up more = absurd (cc)
    by (Ok mid) e g up more = more mid g ∙ still_written fill super u ts ops (commit_of ts all) stores mid k up e
