-- What each front of a log holds.
use Rattle.std.proofs.Common.{◌≡◌, ℕ, ◌-◌, ◌<◌, ◌≤◌, max, suc, zero, List, [], ◌∷◌, ◌++◌, take, drop, length, Some, None, Ok, Err, refl, sym, true, false, Bool, ◌&&◌, cond, ap, ◌∙◌, arith, subst, append_assoc, get_or, inl, inr}
use Rattle.std.specs.Prelude.{◌==◌, nat_le}
use Rattle.std.specs.List.{filter}
use Rattle.std.proofs.lemmas.Bool.Decides.{nat_tests}
use Rattle.std.proofs.lemmas.List.{take-append-drop}
use Rattle.kt_history.specs.declared.operation.RowOp.{RowOp}
use Rattle.kt_history.specs.Rows.{Row, Changes}
use Rattle.kt_history.specs.History.{Past, PastWrite, IsUpTo, rows_at, with_write}
use Rattle.kt_history.specs.Operations.{changes_on}
use Rattle.kt_records.specs.declared.entry.Entry.{Entry}
use Rattle.kt_records.specs.declared.entry.Entry.TheVariants.{Replicate, Commit}
use Rattle.kt_records.specs.declared.entry.CommitRow.{CommitRow}
use Rattle.kt_journal.specs.Order.{InOrder}
use Rattle.kt_journal.specs.Log.{IsLog}
use Rattle.kt_loglaws.specs.Replay.{commit_of, replayed, is_fitting, replay, empty, last_of}
use Rattle.kt_loglaws.specs.Laws.{with_ops, LogHolds}
use Rattle.kt_loglaws.specs.Fronts.{ops_of, IsTold, with_records, AllTold, upto, a_replicate_more_is_told, a_commit_more_is_told, a_run_goes_on_from_the_opened_past, each_front_holds_its_writes, AtLeastEach, a_crash_leaves_the_past_up_to_a_time}
use Rattle.kt_loglaws.proofs.LogOrder.{equal, AllAbove, above_behind}
use Rattle.kt_loglaws.proofs.Replays.{replicate_adds, commit_changes_nothing}

append_none : (xs : List Entry) → xs ++ [] ≡ xs
append_none [] = refl
append_none (x ∷ xs) = ap (λ l. x ∷ l) (append_none xs)

-- a front of a log is in order
order_front : (before xs ys : List Entry) → InOrder before (xs ++ ys) → InOrder before xs
order_front before [] ys h = tt
order_front before (x ∷ xs) ys h = (h.0, h.1, order_front (x ∷ before) xs ys h.2)

-- where the REPLICATE of a write stands
stands_at : (ts : ℕ) (ops : List RowOp) (log : List Entry) → ops_of ts log ≡ Some ops → (xs : List Entry) × (ys : List Entry) × (log ≡ xs ++ Replicate ts ops ∷ ys)
stands_at ts ops [] h = absurd (let e : None ≡ Some ops = h in cc)
stands_at ts ops (Commit t rows ∷ log) h = let rest = stands_at ts ops log h in (Commit t rows ∷ rest.0, rest.1, ap (λ l. Commit t rows ∷ l) rest.2)
stands_at ts ops (Replicate t o ∷ log) h =
    elim (t == ts) as (λ b. (t == ts) ≡ b → cond b (Some o) (ops_of ts log) ≡ Some ops → (xs : List Entry) × (ys : List Entry) × (Replicate t o ∷ log ≡ xs ++ Replicate ts ops ∷ ys)) [
      | true ↦ λ e found. let here : o ≡ ops = cc in let at = equal t ts e in ([], log, rw (here, at) refl)
      | false ↦ λ e found. let rest = stands_at ts ops log found in (Replicate t o ∷ rest.0, rest.1, ap (λ l. Replicate t o ∷ l) rest.2)
    ] refl h

-- one COMMIT more at the end
commit_more : (fill : Row) (log : List Entry) (past : Past) (ts : ℕ) (rows : List CommitRow) → IsLog (log ++ Commit ts rows ∷ []) → LogHolds fill log past → IsTold fill log past ts rows → LogHolds fill (log ++ Commit ts rows ∷ []) past
commit_more fill log past ts rows is holds told =
    let at = stands_at ts told.ops log told.stands in
    let place : log ++ Commit ts rows ∷ [] ≡ at.0 ++ Replicate ts told.ops ∷ (at.1 ++ Commit ts rows ∷ []) = ap (λ (l : List Entry). l ++ Commit ts rows ∷ []) at.2 ∙ append_assoc at.0 (Replicate ts told.ops ∷ at.1) (Commit ts rows ∷ []) in
    let short : log ≡ at.0 ++ Replicate ts told.ops ∷ (at.1 ++ []) = at.2 ∙ ap (λ (l : List Entry). at.0 ++ Replicate ts told.ops ∷ l) (sym (append_none at.1)) in
    let is' : IsLog (at.0 ++ Replicate ts told.ops ∷ (at.1 ++ Commit ts rows ∷ [])) = subst (λ (l : List Entry). IsLog l) place is in
    let holds' : LogHolds fill (at.0 ++ Replicate ts told.ops ∷ (at.1 ++ [])) past = subst (λ (l : List Entry). LogHolds fill l past) short holds in
    subst (λ (l : List Entry). LogHolds fill l past) (sym place) (commit_changes_nothing fill at.0 ts told.ops at.1 rows [] past is' told.up holds' told.tells).0

pub goes_on : a_run_goes_on_from_the_opened_past
goes_on fill log [] past is holds told = subst (λ (l : List Entry). LogHolds fill l past) (sym (append_none log)) holds
goes_on fill log (Replicate ts ops ∷ run) past is holds told =
    let moved : (log ++ Replicate ts ops ∷ []) ++ run ≡ log ++ Replicate ts ops ∷ run = append_assoc log (Replicate ts ops ∷ []) run in
    let is' : IsLog ((log ++ Replicate ts ops ∷ []) ++ run) = subst (λ (l : List Entry). IsLog l) (sym moved) is in
    let next = (replicate_adds fill log past ts ops (order_front [] (log ++ Replicate ts ops ∷ []) run is') holds).0 in
    subst (λ (l : List Entry). LogHolds fill l (with_records fill (with_ops fill past ts ops) run)) moved (goes_on fill (log ++ Replicate ts ops ∷ []) run (with_ops fill past ts ops) is' next told.1)
goes_on fill log (Commit ts rows ∷ run) past is holds told =
    let moved : (log ++ Commit ts rows ∷ []) ++ run ≡ log ++ Commit ts rows ∷ run = append_assoc log (Commit ts rows ∷ []) run in
    let is' : IsLog ((log ++ Commit ts rows ∷ []) ++ run) = subst (λ (l : List Entry). IsLog l) (sym moved) is in
    let next = commit_more fill log past ts rows (order_front [] (log ++ Commit ts rows ∷ []) run is') holds told.0 in
    subst (λ (l : List Entry). LogHolds fill l (with_records fill past run)) moved (goes_on fill (log ++ Commit ts rows ∷ []) run past is' next told.1)

-- the writes of two runs, one behind the other
with_records-append : (fill : Row) (past : Past) (xs ys : List Entry) → with_records fill past (xs ++ ys) ≡ with_records fill (with_records fill past xs) ys
with_records-append fill past [] ys = refl
with_records-append fill past (Replicate ts ops ∷ xs) ys = with_records-append fill (with_ops fill past ts ops) xs ys
with_records-append fill past (Commit ts rows ∷ xs) ys = with_records-append fill past xs ys

-- a front of what is told is told
told_front : (fill : Row) (log : List Entry) (past : Past) (xs ys : List Entry) → AllTold fill log past (xs ++ ys) → AllTold fill log past xs
told_front fill log past [] ys told = tt
told_front fill log past (Replicate ts ops ∷ xs) ys told = (told.0, told_front fill (log ++ Replicate ts ops ∷ []) (with_ops fill past ts ops) xs ys told.1)
told_front fill log past (Commit ts rows ∷ xs) ys told = (told.0, told_front fill (log ++ Commit ts rows ∷ []) past xs ys told.1)

told_join : (fill : Row) (log : List Entry) (past : Past) (xs ys : List Entry) → AllTold fill log past xs → AllTold fill (log ++ xs) (with_records fill past xs) ys → AllTold fill log past (xs ++ ys)
told_join fill log past [] ys told more = subst (λ (l : List Entry). AllTold fill l past ys) (append_none log) more
told_join fill log past (Replicate ts ops ∷ xs) ys told more =
    (told.0, told_join fill (log ++ Replicate ts ops ∷ []) (with_ops fill past ts ops) xs ys told.1 (subst (λ (l : List Entry). AllTold fill l (with_records fill (with_ops fill past ts ops) xs) ys) (sym (append_assoc log (Replicate ts ops ∷ []) xs)) more))
told_join fill log past (Commit ts rows ∷ xs) ys told more =
    (told.0, told_join fill (log ++ Commit ts rows ∷ []) past xs ys told.1 (subst (λ (l : List Entry). AllTold fill l (with_records fill past xs) ys) (sym (append_assoc log (Commit ts rows ∷ []) xs)) more))

pub replicate_more : a_replicate_more_is_told
replicate_more fill log past records ts ops told up = (told_join fill log past records (Replicate ts ops ∷ []) told (up, tt), with_records-append fill past records (Replicate ts ops ∷ []))

pub commit_is_told : a_commit_more_is_told
commit_is_told fill log past records ts rows told more = (told_join fill log past records (Commit ts rows ∷ []) told (more, tt), with_records-append fill past records (Commit ts rows ∷ []))

le_test : (a b : ℕ) → a ≤ b → nat_le a b ≡ true
le_test a b h = grind (arith, nat_tests)

le_from : (a b : ℕ) → nat_le a b ≡ true → a ≤ b
le_from a b h = grind (arith, nat_tests)

not_le : (a b : ℕ) → b < a → nat_le a b ≡ false
not_le a b h = grind (arith, nat_tests)

left_true : (a b : Bool) → (a && b) ≡ true → a ≡ true
left_true true b h = refl
left_true false b h = h

right_true : (a b : Bool) → (a && b) ≡ true → b ≡ true
right_true true b h = h
right_true false b h = cc

both_true : (a b : Bool) → a ≡ true → b ≡ true → (a && b) ≡ true
both_true true b h k = k
both_true false b h k = h

-- no write above c, and so none above d
up_to_later : (c d : ℕ) (ws : List PastWrite) → IsUpTo c ws → c ≤ d → IsUpTo d ws
up_to_later c d [] h le = refl
up_to_later c d (w ∷ ws) h le =
    let low = le_from w.ts c (left_true _ _ h) in
    both_true _ _ (le_test w.ts d (omega arith)) (up_to_later c d ws (right_true _ _ h) le)

up_to_end : (d : ℕ) (ws : List PastWrite) (w : PastWrite) → IsUpTo d ws → w.ts ≤ d → IsUpTo d (ws ++ w ∷ [])
up_to_end d [] w h le = both_true _ _ (le_test w.ts d le) refl
up_to_end d (v ∷ ws) w h le = both_true _ _ (left_true _ _ h) (up_to_end d ws w (right_true _ _ h) le)

up_to_write : (c d : ℕ) (past : Past) (ts : ℕ) (changes : Changes) → IsUpTo c past.writes → c ≤ d → ts ≤ d → IsUpTo d (with_write past ts changes).writes
up_to_write c d past ts [] h le low = up_to_later c d past.writes h le
up_to_write c d past ts (x ∷ changes) h le low = up_to_end d past.writes (record { ts = ts; changes = x ∷ changes }) (up_to_later c d past.writes h le) low

-- what a log holds goes up to its greatest timestamp
up_to_last : (fill : Row) (all : List Entry) (c : ℕ) (past found : Past) (xs : List Entry) → IsUpTo c past.writes → replay fill all past xs ≡ Ok found → IsUpTo (max c (last_of xs)) found.writes
up_to_last fill all c past found [] up h = let e : past ≡ found = cc in subst (λ (p : Past). IsUpTo (max c 0) p.writes) e (up_to_later c (max c 0) past.writes up (omega arith))
up_to_last fill all c past found (Commit t rows ∷ xs) up h = up_to_last fill all c past found xs up h
up_to_last fill all c past found (Replicate ts ops ∷ xs) up h =
    let changes = changes_on fill (rows_at past (ts - 1)) (replayed ops (commit_of ts all)) in
    let next = up_to_write c (max c ts) past ts changes up (omega arith) (omega arith) in
    let e : max (max c ts) (last_of xs) ≡ max c (max ts (last_of xs)) = omega arith in
    elim (is_fitting fill (rows_at past (ts - 1)) ops (commit_of ts all)) as (λ b. cond b (replay fill all (with_write past ts changes) xs) (Err ts) ≡ Ok found → IsUpTo (max c (max ts (last_of xs))) found.writes) [
      | true ↦ λ h. subst (λ (n : ℕ). IsUpTo n found.writes) e (up_to_last fill all (max c ts) (with_write past ts changes) found xs next h)
      | false ↦ λ h. cc
    ] h

-- all writes of such a past
kept : (c : ℕ) (ws : List PastWrite) → IsUpTo c ws → filter (λ (w : PastWrite). nat_le w.ts c) ws ≡ ws
kept c [] h = refl
kept c (w ∷ ws) h = let e : nat_le w.ts c ≡ true = left_true _ _ h in rw e (ap (λ l. w ∷ l) (kept c ws (right_true _ _ h)))

-- a write above c is left out
left_out : (c : ℕ) (ws : List PastWrite) (w : PastWrite) → c < w.ts → filter (λ (v : PastWrite). nat_le v.ts c) (ws ++ w ∷ []) ≡ filter (λ (v : PastWrite). nat_le v.ts c) ws
left_out c [] w lt = rw (not_le w.ts c lt) refl
left_out c (v ∷ ws) w lt = ap (λ l. cond (nat_le v.ts c) (v ∷ l) l) (left_out c ws w lt)

write_left_out : (c : ℕ) (past : Past) (ts : ℕ) (changes : Changes) → c < ts → upto c (with_write past ts changes) ≡ upto c past
write_left_out c past ts [] lt = refl
write_left_out c past ts (x ∷ changes) lt = ap (λ ws. record past { writes = ws }) (left_out c past.writes (record { ts = ts; changes = x ∷ changes }) lt)

records_left_out : (fill : Row) (c : ℕ) (past : Past) (ys : List Entry) → AllAbove c ys → upto c (with_records fill past ys) ≡ upto c past
records_left_out fill c past [] above = refl
records_left_out fill c past (Replicate ts ops ∷ ys) above = records_left_out fill c (with_ops fill past ts ops) ys above.1 ∙ write_left_out c past ts (changes_on fill (rows_at past (ts - 1)) ops) above.0
records_left_out fill c past (Commit ts rows ∷ ys) above = records_left_out fill c past ys above

-- the greater of two bounds
both_above : (a b : ℕ) (ys : List Entry) → AllAbove a ys → AllAbove b ys → AllAbove (max a b) ys
both_above a b [] h k = tt
both_above a b (Replicate ts ops ∷ ys) h k = let x = h.0 in let y = k.0 in (let lt : max a b < ts = omega arith in lt, both_above a b ys h.1 k.1)
both_above a b (Commit ts rows ∷ ys) h k = both_above a b ys h k

behind_above : (ts : ℕ) (xs ys : List Entry) → AllAbove ts (xs ++ ys) → AllAbove ts ys
behind_above ts [] ys h = h
behind_above ts (Replicate t o ∷ xs) ys h = behind_above ts xs ys h.1
behind_above ts (Commit t rows ∷ xs) ys h = behind_above ts xs ys h

above_front : (before xs ys : List Entry) → AllAbove 0 ys → InOrder before (xs ++ ys) → AllAbove (last_of xs) ys
above_front before [] ys up h = up
above_front before (Replicate t o ∷ xs) ys up h = both_above t (last_of xs) ys (behind_above t xs ys (above_behind before [] t o (xs ++ ys) h)) (above_front (Replicate t o ∷ before) xs ys up h.2)
above_front before (Commit t rows ∷ xs) ys up h = above_front (Commit t rows ∷ before) xs ys up h.2

-- each write that is told is above 0
told_above : (fill : Row) (log : List Entry) (past : Past) (run : List Entry) → AllTold fill log past run → AllAbove 0 run
told_above fill log past [] told = tt
told_above fill log past (Replicate ts ops ∷ run) told = (told.0, told_above fill (log ++ Replicate ts ops ∷ []) (with_ops fill past ts ops) run told.1)
told_above fill log past (Commit ts rows ∷ run) told = told_above fill (log ++ Commit ts rows ∷ []) past run told.1

-- a REPLICATE among some records is at or below their greatest timestamp
at_most_last : (ts : ℕ) (ops : List RowOp) (xs : List Entry) (k : ℕ) → k < length xs → get_or xs k (Replicate ts ops) ≡ Replicate ts ops → ts ≤ last_of xs
at_most_last ts ops [] k lt is = absurd (omega arith)
at_most_last ts ops (Replicate t o ∷ xs) zero lt is = let e : t ≡ ts = cc in omega arith
at_most_last ts ops (Commit t rows ∷ xs) zero lt is = absurd (cc)
at_most_last ts ops (Replicate t o ∷ xs) (suc k) lt is = let low = at_most_last ts ops xs k (omega arith) is in omega arith
at_most_last ts ops (Commit t rows ∷ xs) (suc k) lt is = at_most_last ts ops xs k (omega arith) is

last_of-front : (xs ys : List Entry) → last_of xs ≤ last_of (xs ++ ys)
last_of-front [] ys = omega arith
last_of-front (Replicate t o ∷ xs) ys = let low = last_of-front xs ys in omega arith
last_of-front (Commit t rows ∷ xs) ys = last_of-front xs ys

last_of-behind : (xs ys : List Entry) → last_of ys ≤ last_of (xs ++ ys)
last_of-behind [] ys = omega arith
last_of-behind (Replicate t o ∷ xs) ys = let low = last_of-behind xs ys in omega arith
last_of-behind (Commit t rows ∷ xs) ys = last_of-behind xs ys

at_least_each : (opened front : List Entry) → AtLeastEach (last_of (opened ++ front)) front
at_least_each opened front ts ops has = let low = at_most_last ts ops front has.0 has.1 has.2 in let high = last_of-behind opened front in omega arith

-- a run in two parts
parted : (fill : Row) (opened front behind : List Entry) (past : Past) → IsLog (opened ++ (front ++ behind)) → LogHolds fill opened past → AllTold fill opened past (front ++ behind)
    → IsLog (opened ++ front) × LogHolds fill (opened ++ front) (upto (last_of (opened ++ front)) (with_records fill past (front ++ behind)))
parted fill opened front behind past is holds told =
    let c = last_of (opened ++ front) in
    let is' : IsLog ((opened ++ front) ++ behind) = subst (λ (l : List Entry). IsLog l) (sym (append_assoc opened front behind)) is in
    let front_is = order_front [] (opened ++ front) behind is' in
    let now : LogHolds fill (opened ++ front) (with_records fill past front) = goes_on fill opened front past front_is holds (told_front fill opened past front behind told) in
    let up : IsUpTo (max 0 c) (with_records fill past front).writes = up_to_last fill (opened ++ front) 0 empty (with_records fill past front) (opened ++ front) refl now in
    let above = above_front [] (opened ++ front) behind (behind_above 0 front behind (told_above fill opened past (front ++ behind) told)) is' in
    let all : upto c (with_records fill past front) ≡ with_records fill past front = ap (λ ws. record (with_records fill past front) { writes = ws }) (kept c (with_records fill past front).writes (let e : max 0 c ≡ c = omega arith in subst (λ (n : ℕ). IsUpTo n (with_records fill past front).writes) e up)) in
    let same : with_records fill past front ≡ upto c (with_records fill past (front ++ behind)) = sym all ∙ sym (records_left_out fill c (with_records fill past front) behind above) ∙ ap (upto c) (sym (with_records-append fill past front behind)) in
    (front_is, subst (λ (p : Past). LogHolds fill (opened ++ front) p) same now)

pub fronts_hold : each_front_holds_its_writes
fronts_hold fill opened run past n is holds told =
    let whole : take n run ++ drop n run ≡ run = take-append-drop n run in
    let at = parted fill opened (take n run) (drop n run) past (subst (λ (l : List Entry). IsLog (opened ++ l)) (sym whole) is) holds (subst (λ (l : List Entry). AllTold fill opened past l) (sym whole) told) in
    (at.0, subst (λ (l : List Entry). LogHolds fill (opened ++ take n run) (upto (last_of (opened ++ take n run)) (with_records fill past l))) whole at.1, at_least_each opened (take n run))

-- a longer front is at or above what a shorter one holds
still_at_least : (opened front more : List Entry) → AtLeastEach (last_of (opened ++ (front ++ more))) front
still_at_least opened front more ts ops has =
    let low = at_most_last ts ops front has.0 has.1 has.2 in
    let on = last_of-front front more in
    let high = last_of-behind opened (front ++ more) in
    omega arith

pub crash_leaves : a_crash_leaves_the_past_up_to_a_time
crash_leaves fill opened durable out queued past file is holds told left =
    let joined : (durable ++ out) ++ queued ≡ durable ++ (out ++ queued) = append_assoc durable out queued in
    let short = parted fill opened durable (out ++ queued) past is holds told in
    let long = parted fill opened (durable ++ out) queued past (subst (λ (l : List Entry). IsLog (opened ++ l)) (sym joined) is) holds (subst (λ (l : List Entry). AllTold fill opened past l) (sym joined) told) in
    let low : last_of (opened ++ durable) ≤ last_of (opened ++ durable) = omega arith in
    let high : last_of (opened ++ (durable ++ out)) ≤ last_of (opened ++ (durable ++ out)) = omega arith in
    elim left.1 [
      | inl old ↦ record { records = opened ++ durable; reads = old; t = last_of (opened ++ durable); holds = short.1; last = low; keeps = at_least_each opened durable }
      | inr both ↦ record {
        records = opened ++ (durable ++ out);
        reads = both ∙ ap Ok (append_assoc opened durable out);
        t = last_of (opened ++ (durable ++ out));
        holds = subst (λ (l : List Entry). LogHolds fill (opened ++ (durable ++ out)) (upto (last_of (opened ++ (durable ++ out))) (with_records fill past l))) joined long.1;
        last = high;
        keeps = still_at_least opened durable out;
      }
    ]
