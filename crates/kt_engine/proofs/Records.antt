-- What one record more does to a log.
use Rattle.std.proofs.Common.{◌≡◌, ℕ, suc, zero, ◌+◌, ◌<◌, ◌≤◌, max, List, [], ◌∷◌, ◌++◌, length, Some, None, refl, sym, true, false, cond, ap, ◌∙◌, subst, arith, append_assoc, length-append}
use Rattle.std.specs.Prelude.{◌==◌, nat_lt, slice_get}
use Rattle.std.specs.List.{All}
use Rattle.std.proofs.lemmas.Bool.Decides.{nat_tests}
use Rattle.kt_history.specs.declared.operation.RowOp.{RowOp}
use Rattle.kt_records.specs.declared.entry.Entry.{Entry}
use Rattle.kt_records.specs.declared.entry.Entry.TheVariants.{Replicate, Commit}
use Rattle.kt_records.specs.declared.entry.CommitRow.{CommitRow}
use Rattle.kt_journal.specs.Order.{last_ts, waiting, is_above, follows, IsFramed, InOrder, newest_first}
use Rattle.kt_loglaws.specs.Replay.{last_of}
use Rattle.kt_loglaws.specs.Fronts.{ops_of}
use Rattle.kt_loglaws.proofs.LogOrder.{same, differs, differs_down}
use Rattle.kt_histlaws.specs.Pending.{Aloft}
use Rattle.kt_tablet.specs.Views.{place_at}
use Rattle.kt_engine.specs.Logged.{Waits}
use Rattle.kt_engine.proofs.Lists.{all_none, all_cons, all_more, get_front}
use Rattle.kt_engine.proofs.Places.{place-front}

pub newest-append : (before xs : List Entry) (r : Entry) → newest_first before (xs ++ r ∷ []) ≡ r ∷ newest_first before xs
newest-append before [] r = refl
newest-append before (x ∷ xs) r = newest-append (x ∷ before) xs r

-- a record that may follow keeps the order
pub order_more : (before xs : List Entry) (r : Entry) → InOrder before xs → IsFramed r → follows (newest_first before xs) r ≡ true → InOrder before (xs ++ r ∷ [])
order_more before [] r h framed may = (framed, may, tt)
order_more before (x ∷ xs) r h framed may = (h.0, h.1, order_more (x ∷ before) xs r h.2 framed may)

-- what stands behind others is in order behind them
pub order_rest : (before xs ys : List Entry) → InOrder before (xs ++ ys) → InOrder (newest_first before xs) ys
order_rest before [] ys h = h
order_rest before (x ∷ xs) ys h = order_rest (x ∷ before) xs ys h.2

-- each record of a log fits a frame
pub framed_all : (before xs : List Entry) → InOrder before xs → All IsFramed xs
framed_all before [] h = all_none IsFramed
framed_all before (x ∷ xs) h = all_cons IsFramed x xs h.0 (framed_all (x ∷ before) xs h.2)

pub framed_at : (before xs : List Entry) (n : ℕ) (r : Entry) → InOrder before xs → slice_get xs n ≡ Some r → IsFramed r
framed_at before [] n r h at = absurd (let e : None ≡ Some r = at in cc)
framed_at before (x ∷ xs) zero r h at = let e : x ≡ r = cc in subst IsFramed e h.0
framed_at before (x ∷ xs) (suc n) r h at = framed_at (x ∷ before) xs n r h.2 at

pub last_of-replicate : (xs : List Entry) (ts : ℕ) (ops : List RowOp) → last_of (xs ++ Replicate ts ops ∷ []) ≡ max (last_of xs) ts
last_of-replicate [] ts ops = omega arith
last_of-replicate (Replicate t o ∷ xs) ts ops = let ih = last_of-replicate xs ts ops in omega arith
last_of-replicate (Commit t rows ∷ xs) ts ops = last_of-replicate xs ts ops

pub last_of-commit : (xs : List Entry) (ts : ℕ) (rows : List CommitRow) → last_of (xs ++ Commit ts rows ∷ []) ≡ last_of xs
last_of-commit [] ts rows = refl
last_of-commit (Replicate t o ∷ xs) ts rows = ap (λ n. max t n) (last_of-commit xs ts rows)
last_of-commit (Commit t r ∷ xs) ts rows = last_of-commit xs ts rows

-- a REPLICATE among the records is at or below their greatest timestamp
pub below_last : (xs : List Entry) (n ts : ℕ) (ops : List RowOp) → slice_get xs n ≡ Some (Replicate ts ops) → ts ≤ last_of xs
below_last [] n ts ops h = absurd (let e : None ≡ Some (Replicate ts ops) = h in cc)
below_last (Replicate t o ∷ xs) zero ts ops h = let e : t ≡ ts = cc in omega arith
below_last (Commit t rows ∷ xs) zero ts ops h = absurd (cc)
below_last (Replicate t o ∷ xs) (suc n) ts ops h = let low = below_last xs n ts ops h in omega arith
below_last (Commit t rows ∷ xs) (suc n) ts ops h = below_last xs n ts ops h

pub lt_test : (a b : ℕ) → a < b → nat_lt a b ≡ true
lt_test a b h = grind (arith, nat_tests)

-- a timestamp above all of a log may follow
pub above_log : (before xs : List Entry) (ts : ℕ) → is_above (last_ts before) ts ≡ true → last_of xs < ts → is_above (last_ts (newest_first before xs)) ts ≡ true
above_log before [] ts h lt = h
above_log before (Replicate t o ∷ xs) ts h lt = above_log (Replicate t o ∷ before) xs ts (lt_test t ts (omega arith)) (omega arith)
above_log before (Commit t rows ∷ xs) ts h lt = above_log (Commit t rows ∷ before) xs ts h lt

pub ops_of-append : (ts : ℕ) (xs ys : List Entry) (ops : List RowOp) → ops_of ts xs ≡ Some ops → ops_of ts (xs ++ ys) ≡ Some ops
ops_of-append ts [] ys ops h = absurd (let e : None ≡ Some ops = h in cc)
ops_of-append ts (Replicate t o ∷ xs) ys ops h = elim (t == ts) as (λ b. cond b (Some o) (ops_of ts xs) ≡ Some ops → cond b (Some o) (ops_of ts (xs ++ ys)) ≡ Some ops) [
  | true ↦ λ e. e
  | false ↦ λ e. ops_of-append ts xs ys ops e
] h
ops_of-append ts (Commit t rows ∷ xs) ys ops h = ops_of-append ts xs ys ops h

pub ops_of-new : (ts : ℕ) (xs : List Entry) (ops : List RowOp) → last_of xs < ts → ops_of ts (xs ++ Replicate ts ops ∷ []) ≡ Some ops
ops_of-new ts [] ops lt = ap (λ b. cond b (Some ops) None) (same ts)
ops_of-new ts (Replicate t o ∷ xs) ops lt = ap (λ b. cond b (Some o) (ops_of ts (xs ++ Replicate ts ops ∷ []))) (differs t ts (omega arith)) ∙ ops_of-new ts xs ops (omega arith)
ops_of-new ts (Commit t rows ∷ xs) ops lt = ops_of-new ts xs ops lt

-- a flying write still waits behind the REPLICATE of a later one
pub waits_on : (records : List Entry) (places : List (ℕ × ℕ)) (w : Aloft) (ts : ℕ) (ops : List RowOp) (p : ℕ × ℕ) → last_of records < ts → Waits records places w → Waits (records ++ Replicate ts ops ∷ []) (places ++ p ∷ []) w
waits_on records places w ts ops p lt h = record {
  up = h.up;
  waits = ap (waiting w.ts) (newest-append [] records (Replicate ts ops)) ∙ ap (λ b. cond b (Some (length ops)) (waiting w.ts (newest_first [] records))) (differs_down w.ts ts (let low = below_last records h.n w.ts w.ops h.there in omega arith)) ∙ h.waits;
  ops = ops_of-append w.ts records (Replicate ts ops ∷ []) w.ops h.ops;
  n = h.n;
  place = place-front w.s places p (suc h.n) h.place;
  there = get_front records (Replicate ts ops ∷ []) h.n (Replicate w.ts w.ops) h.there;
}

-- and behind the COMMIT of another one
pub waits_behind : (records : List Entry) (places kept : List (ℕ × ℕ)) (w : Aloft) (ts : ℕ) (rows : List CommitRow) → (ts == w.ts) ≡ false → place_at w.s kept ≡ place_at w.s places → Waits records places w → Waits (records ++ Commit ts rows ∷ []) kept w
waits_behind records places kept w ts rows apart stays h = record {
  up = h.up;
  waits = ap (waiting w.ts) (newest-append [] records (Commit ts rows)) ∙ ap (λ b. cond b None (waiting w.ts (newest_first [] records))) apart ∙ h.waits;
  ops = ops_of-append w.ts records (Commit ts rows ∷ []) w.ops h.ops;
  n = h.n;
  place = stays ∙ h.place;
  there = get_front records (Commit ts rows ∷ []) h.n (Replicate w.ts w.ops) h.there;
}

-- the records of a log and one more, in their three parts
pub all_parts : (records run known out queued : List Entry) (r : Entry) → records ++ run ≡ known ++ (out ++ queued) → records ++ (run ++ r ∷ []) ≡ known ++ (out ++ (queued ++ r ∷ []))
all_parts records run known out queued r h = sym (append_assoc records run (r ∷ [])) ∙ ap (λ l. l ++ r ∷ []) h ∙ append_assoc known (out ++ queued) (r ∷ []) ∙ ap (λ l. known ++ l) (append_assoc out queued (r ∷ []))

pub count_parts : (records run out queued : List Entry) (r : Entry) (count : ℕ) → length (records ++ run) ≡ count + length (out ++ queued) → length (records ++ (run ++ r ∷ [])) ≡ count + length (out ++ (queued ++ r ∷ []))
count_parts records run out queued r count h =
    let a = length-append (records ++ run) (r ∷ []) in
    let b = length-append (out ++ queued) (r ∷ []) in
    ap length (sym (append_assoc records run (r ∷ []))) ∙ (omega arith) ∙ ap (λ l. count + length l) (append_assoc out queued (r ∷ []))

pub framed_parts : (out queued : List Entry) (r : Entry) → All IsFramed (out ++ queued) → IsFramed r → All IsFramed (out ++ (queued ++ r ∷ []))
framed_parts out queued r h framed = subst (λ (l : List Entry). All IsFramed l) (append_assoc out queued (r ∷ [])) (all_more IsFramed (out ++ queued) r h framed)
