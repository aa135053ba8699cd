-- The log goes on with what it owes.
use Rattle.std.proofs.Common.{◌≡◌, ℕ, suc, max, ◌*◌, ◌<◌, ◌≤◌, List, [], ◌∷◌, ◌++◌, length, map, Some, None, Option, Ok, Err, Bool, refl, true, false, cond, sym, ap, ◌∙◌, subst, arith, append_assoc, length-append}
use Rattle.std.specs.Prelude.{◌==◌, nat_lt}
use Rattle.std.specs.List.{AllByRecursion, flat_map}
use Rattle.std.specs.FinMap.Entries.{put}
use Rattle.std.proofs.lemmas.List.{append-nil}
use Rattle.std.proofs.lemmas.List.Concat.{flat_map-cons}
use Rattle.std.proofs.lemmas.Bool.Decides.{nat_tests}
use Rattle.kt_history.specs.declared.change.Change.{Change}
use Rattle.kt_history.specs.declared.change.Outcome.{Outcome}
use Rattle.kt_history.specs.declared.change.Outcome.TheVariants.{Done, Present, Absent, Ignored}
use Rattle.kt_history.specs.declared.operation.OpKind.{OpKind}
use Rattle.kt_history.specs.declared.operation.OpKind.TheVariants.{Insert, Upsert, Update, Delete, InsertIgnore, UpdateIgnore, DeleteIgnore}
use Rattle.kt_history.specs.declared.operation.RowOp.{RowOp}
use Rattle.kt_history.specs.declared.target.Target.{Target}
use Rattle.kt_history.specs.declared.target.Target.TheVariants.{Mem, Delta}
use Rattle.kt_history.specs.Rows.{Row, key_cmp}
use Rattle.kt_history.specs.Operations.{effect}
use Rattle.kt_history.specs.Stores.{Store, hist_in, push}
use Rattle.kt_records.specs.declared.entry.Entry.{Entry}
use Rattle.kt_records.specs.declared.entry.Entry.TheVariants.{Replicate, Commit}
use Rattle.kt_records.specs.declared.entry.CommitRow.{CommitRow}
use Rattle.kt_records.specs.Rules.{TargetFits, RowFits, EachAfter, may_hold, may_change}
use Rattle.kt_records.specs.Spelling as spelled
use Rattle.kt_journal.specs.Order.{last_ts, is_above, is_count, waiting, follows, newest_first, IsFramed, InOrder}
use Rattle.kt_journal.specs.Log.{IsLog}
use Rattle.kt_journal.proofs.Framed.{order_push}
use Rattle.kt_loglaws.specs.Replay.{commit_of, last_of}
use Rattle.kt_loglaws.specs.Fronts.{ops_of}
use Rattle.kt_loglaws.proofs.LogOrder.{AllAbove, above_behind, is_found, same, differs, differs_down}
use Rattle.kt_content.proofs.Records.{stands_at}
use Rattle.kt_content.specs.Places.{Super, Place, memory, same_place, Moves, row_before, standing, or_live, live_in, places_of}
use Rattle.kt_content.specs.KeyOps.{decided, to_place, to_live}
use Rattle.kt_content.specs.Opening.{Placed, held_of, joined_store, moved_stores, names_at, rows_behind, if_it_fits, write_opened, then_opened, opened}
use Rattle.kt_reopen.specs.Owed.{row_found, row_told, rows_told, unless_told, then_owed, owed}
use Rattle.kt_reopen.specs.Laws.{a_log_goes_on_with_what_it_owes}

-- ---- a COMMIT is framed

some_is : {X : Type 0} (x y : X) → Some x ≡ Some y → x ≡ y
some_is x y e = cc

-- each store has a name that fits
abbrev pub AllFit : (Place → Target) → Placed → Type 0
AllFit name stores = AllByRecursion (λ (s : Place × Store). TargetFits (name s.0)) stores

fit_joined : (name : Place → Target) (p : Place) (ts : ℕ) (q : List ℕ) (c : Change) (stores : Placed) → AllFit name stores → AllFit name (joined_store p ts q c stores)
fit_joined name p ts q c [] h = tt
fit_joined name p ts q c (s ∷ stores) h = elim (same_place p s.0) as (λ b. AllFit name (cond b ((s.0, put key_cmp q (push ts c (hist_in q s.1)) s.1) ∷ stores) (s ∷ joined_store p ts q c stores))) [
  | true ↦ h
  | false ↦ (h.0, fit_joined name p ts q c stores h.1)
]

fit_moved : (name : Place → Target) (ts : ℕ) (q : List ℕ) (moves : Moves) (stores : Placed) → AllFit name stores → AllFit name (moved_stores ts q moves stores)
fit_moved name ts q [] stores h = h
fit_moved name ts q (m ∷ moves) stores h = fit_moved name ts q moves (joined_store m.0 ts q m.1 stores) (fit_joined name m.0 ts q m.1 stores h)

fit_written : (fill : Row) (super : Super) (name : Place → Target) (ts : ℕ) (ops : List RowOp) (told : Option (List CommitRow)) (stores final : Placed) → write_opened fill super ts ops told stores ≡ Ok final → AllFit name stores → AllFit name final
fit_written fill super name ts [] told stores final e h = let same : stores ≡ final = cc in subst (AllFit name) same h
fit_written fill super name ts (op ∷ ops) told stores final e h = by (decided fill super (standing ts (held_of op.key stores)) op (names_at told)) e
    (λ moves g. fit_written fill super name ts ops (rows_behind told) (moved_stores ts op.key moves stores) final g (fit_moved name ts op.key moves stores h))
  where
    by : (o : Option Moves) → if_it_fits ts (λ moves. write_opened fill super ts ops (rows_behind told) (moved_stores ts op.key moves stores)) o ≡ Ok final
        → ((moves : Moves) → write_opened fill super ts ops (rows_behind told) (moved_stores ts op.key moves stores) ≡ Ok final → AllFit name final) → AllFit name final
    by None e more = absurd (cc)
    by (Some moves) e more = more moves e

live_fits : (name : Place → Target) (ts : ℕ) (q : List ℕ) (stores : Placed) → AllFit name stores → (at : Place × Row) → live_in (standing ts (held_of q stores)) ≡ Some at → TargetFits (name at.0)
live_fits name ts q [] h at e = absurd (cc)
live_fits name ts q (s ∷ stores) h at e =
    elim (row_before ts (hist_in q s.1)) as (λ o. or_live s.0 o (live_in (standing ts (held_of q stores))) ≡ Some at → TargetFits (name at.0)) [
      | None ↦ λ e. live_fits name ts q stores h.1 at e
      | Some row ↦ λ e. subst (λ (x : Place × Row). TargetFits (name x.0)) (some_is (s.0, row) at e) h.0
    ] e

-- a row of a COMMIT names one store, or none
data IsOneRow (name : Place → Target) (row : CommitRow) : Type 0 where
  one_store : (p : Place) → TargetFits (name p) → row ≡ record { outcome = Done; targets = name p ∷ [] } → IsOneRow name row
  no_store : (o : Outcome) → may_change o 0 ≡ true → row ≡ record { outcome = o; targets = [] } → IsOneRow name row

abbrev live_moves : Row → OpKind → Row → Option (Place × Row) → Moves
live_moves fill kind cells None = to_place memory (effect fill kind cells None).0
live_moves fill kind cells (Some at) = to_place at.0 (effect fill kind cells (Some at.1)).0

abbrev told_at : Row → (Place → Target) → OpKind → Row → Option (Place × Row) → CommitRow
told_at fill name kind cells o = record { outcome = (effect fill kind cells (row_found o)).1; targets = map name (places_of (live_moves fill kind cells o)) }

module _ (fill : Row) (name : Place → Target) (mem : TargetFits (name memory)) where
  one_at : (kind : OpKind) (cells : Row) (o : Option (Place × Row)) → ((at : Place × Row) → o ≡ Some at → TargetFits (name at.0)) → IsOneRow name (told_at fill name kind cells o)
  one_at Insert cells None fit = one_store memory mem refl
  one_at Insert cells (Some at) fit = no_store Present refl refl
  one_at Upsert cells None fit = one_store memory mem refl
  one_at Upsert cells (Some at) fit = one_store at.0 (fit at refl) refl
  one_at Update cells None fit = no_store Absent refl refl
  one_at Update cells (Some at) fit = one_store at.0 (fit at refl) refl
  one_at Delete cells None fit = no_store Absent refl refl
  one_at Delete cells (Some at) fit = one_store at.0 (fit at refl) refl
  one_at InsertIgnore cells None fit = one_store memory mem refl
  one_at InsertIgnore cells (Some at) fit = no_store Ignored refl refl
  one_at UpdateIgnore cells None fit = no_store Ignored refl refl
  one_at UpdateIgnore cells (Some at) fit = one_store at.0 (fit at refl) refl
  one_at DeleteIgnore cells None fit = no_store Ignored refl refl
  one_at DeleteIgnore cells (Some at) fit = one_store at.0 (fit at refl) refl

  one_row : (ts : ℕ) (op : RowOp) (stores : Placed) → AllFit name stores → IsOneRow name (row_told fill name (standing ts (held_of op.key stores)) op)
  one_row ts op stores fits =
      elim (live_in (standing ts (held_of op.key stores))) as (λ o. ((at : Place × Row) → o ≡ Some at → TargetFits (name at.0)) → IsOneRow name (record { outcome = (effect fill op.kind op.cells (row_found o)).1; targets = map name (places_of (to_live fill op o)) })) [
        | None ↦ λ fit. one_at op.kind op.cells None fit
        | Some at ↦ λ fit. one_at op.kind op.cells (Some at) fit
      ] (live_fits name ts op.key stores fits)

row_fits : (name : Place → Target) (row : CommitRow) → IsOneRow name row → RowFits row
row_fits name row (one_store p fit is) = subst RowFits (sym is) (record { count = refl; targets = (fit, tt) })
row_fits name row (no_store o may is) = subst RowFits (sym is) (record { count = may; targets = tt })

one_short : (o : Outcome) (t : Target) → length (spelled.commit_row (record { outcome = o; targets = t ∷ [] })) ≤ 19
one_short o (Mem number) = omega arith
one_short o (Delta rowset dms) = omega arith

row_short : (name : Place → Target) (row : CommitRow) → IsOneRow name row → length (spelled.commit_row row) ≤ 19
row_short name row (one_store p fit is) = subst (λ (r : CommitRow). length (spelled.commit_row r) ≤ 19) (sym is) (one_short Done (name p))
row_short name row (no_store o may is) = subst (λ (r : CommitRow). length (spelled.commit_row r) ≤ 19) (sym is) (omega arith)

-- the stores behind an operation of a write that has no COMMIT
abbrev behind_op : Row → ℕ → RowOp → Placed → Placed
behind_op fill ts op stores = moved_stores ts op.key (to_live fill op (live_in (standing ts (held_of op.key stores)))) stores

module _ (fill : Row) (name : Place → Target) (mem : TargetFits (name memory)) (ts : ℕ) where
  as_many : (ops : List RowOp) (stores : Placed) → length (rows_told fill name ts ops stores) ≡ length ops
  as_many [] stores = refl
  as_many (op ∷ ops) stores = ap suc (as_many ops (behind_op fill ts op stores))

  fit_behind : (op : RowOp) (stores : Placed) → AllFit name stores → AllFit name (behind_op fill ts op stores)
  fit_behind op stores fits = fit_moved name ts op.key (to_live fill op (live_in (standing ts (held_of op.key stores)))) stores fits

  rows_fit : (front : List CommitRow) (ops : List RowOp) (stores : Placed) → AllFit name stores → EachAfter (λ front row. RowFits row) front (rows_told fill name ts ops stores)
  rows_fit front [] stores fits = tt
  rows_fit front (op ∷ ops) stores fits =
      let row = row_told fill name (standing ts (held_of op.key stores)) op in
      (row_fits name row (one_row fill name mem ts op stores fits), rows_fit (front ++ row ∷ []) ops (behind_op fill ts op stores) (fit_behind op stores fits))

  rows_short : (ops : List RowOp) (stores : Placed) → AllFit name stores → length (flat_map spelled.commit_row (rows_told fill name ts ops stores)) ≤ 19 * length ops
  rows_short [] stores fits = omega arith
  rows_short (op ∷ ops) stores fits =
      let row = row_told fill name (standing ts (held_of op.key stores)) op in
      let more = rows_told fill name ts ops (behind_op fill ts op stores) in
      let short = row_short name row (one_row fill name mem ts op stores fits) in
      omega (arith, ap length (flat_map-cons spelled.commit_row row more), length-append (spelled.commit_row row) (flat_map spelled.commit_row more), short, rows_short ops (behind_op fill ts op stores) (fit_behind op stores fits))

few_ops : (n : ℕ) → may_hold n ≡ true → n ≤ 64
few_ops n h = grind (arith, nat_tests)

told_framed : (fill : Row) (name : Place → Target) (ts : ℕ) (ops : List RowOp) (stores : Placed) → TargetFits (name memory) → AllFit name stores → IsFramed (Replicate ts ops) → IsFramed (Commit ts (rows_told fill name ts ops stores))
told_framed fill name ts ops stores mem fits framed =
    let few = few_ops (length ops) framed.keeps.count in
    let many = as_many fill name mem ts ops stores in
    record {
      keeps = record { ts = framed.keeps.ts; count = omega (arith, many, few); rows = rows_fit fill name mem ts [] ops stores fits };
      short = omega (arith, rows_short fill name mem ts ops stores fits, few);
    }

-- ---- it waits for its COMMIT

-- no record is of this timestamp
abbrev Quiet : ℕ → List Entry → Type 0
Quiet ts [] = Unit {0}
Quiet ts (Replicate t ops ∷ records) = ((t == ts) ≡ false) × Quiet ts records
Quiet ts (Commit t rows ∷ records) = ((t == ts) ≡ false) × Quiet ts records

waits_on : (ts : ℕ) (before ys : List Entry) → Quiet ts ys → waiting ts (newest_first before ys) ≡ waiting ts before
waits_on ts before [] quiet = refl
waits_on ts before (Replicate t ops ∷ ys) quiet = waits_on ts (Replicate t ops ∷ before) ys quiet.1 ∙ ap (λ b. cond b (Some (length ops)) (waiting ts before)) quiet.0
waits_on ts before (Commit t rows ∷ ys) quiet = waits_on ts (Commit t rows ∷ before) ys quiet.1 ∙ ap (λ b. cond b None (waiting ts before)) quiet.0

quiet-append : (ts : ℕ) (xs ys : List Entry) → Quiet ts xs → Quiet ts ys → Quiet ts (xs ++ ys)
quiet-append ts [] ys a b = b
quiet-append ts (Replicate t ops ∷ xs) ys a b = (a.0, quiet-append ts xs ys a.1 b)
quiet-append ts (Commit t rows ∷ xs) ys a b = (a.0, quiet-append ts xs ys a.1 b)

some_none : (b : Bool) (rows : List CommitRow) (o : Option (List CommitRow)) → cond b (Some rows) o ≡ None → (b ≡ false) × (o ≡ None)
some_none true rows o h = cc
some_none false rows o h = (refl, h)

quiet_behind : (ts : ℕ) (ys : List Entry) → AllAbove ts ys → commit_of ts ys ≡ None → Quiet ts ys
quiet_behind ts [] up none = tt
quiet_behind ts (Replicate t ops ∷ ys) up none = (differs_down ts t up.0, quiet_behind ts ys up.1 none)
quiet_behind ts (Commit t rows ∷ ys) up none = let parts = some_none (t == ts) rows (commit_of ts ys) none in (parts.0, quiet_behind ts ys up parts.1)

none_behind : (ts : ℕ) (xs ys : List Entry) → commit_of ts (xs ++ ys) ≡ None → commit_of ts ys ≡ None
none_behind ts [] ys h = h
none_behind ts (Replicate t ops ∷ xs) ys h = none_behind ts xs ys h
none_behind ts (Commit t rows ∷ xs) ys h = none_behind ts xs ys (some_none (t == ts) rows (commit_of ts (xs ++ ys)) h).1

newest-append : (before xs ys : List Entry) → newest_first before (xs ++ ys) ≡ newest_first (newest_first before xs) ys
newest-append before [] ys = refl
newest-append before (x ∷ xs) ys = newest-append (x ∷ before) xs ys

-- COMMITs of writes below
abbrev CommitsUnder : ℕ → List Entry → Type 0
CommitsUnder n [] = Unit {0}
CommitsUnder n (Replicate t ops ∷ cs) = ⊥
CommitsUnder n (Commit t rows ∷ cs) = (t < n) × CommitsUnder n cs

quiet_under : (ts : ℕ) (cs : List Entry) → CommitsUnder ts cs → Quiet ts cs
quiet_under ts [] h = tt
quiet_under ts (Replicate t ops ∷ cs) h = absurd h
quiet_under ts (Commit t rows ∷ cs) h = (differs t ts h.0, quiet_under ts cs h.1)

under_later : (n m : ℕ) (cs : List Entry) → n < m → CommitsUnder n cs → CommitsUnder m cs
under_later n m [] lt h = tt
under_later n m (Replicate t ops ∷ cs) lt h = absurd h
under_later n m (Commit t rows ∷ cs) lt h = (let low = h.0 in omega arith, under_later n m cs lt h.1)

under_push : (ts m : ℕ) (rows : List CommitRow) (cs : List Entry) → ts < m → CommitsUnder m cs → CommitsUnder m (cs ++ Commit ts rows ∷ [])
under_push ts m rows [] lt h = (lt, tt)
under_push ts m rows (Replicate t ops ∷ cs) lt h = absurd h
under_push ts m rows (Commit t r ∷ cs) lt h = (h.0, under_push ts m rows cs lt h.1)

from_test : (a b : ℕ) → nat_lt a b ≡ true → a < b
from_test a b h = grind (arith, nat_tests)

behind_order : (before xs ys : List Entry) → InOrder before (xs ++ ys) → InOrder (newest_first before xs) ys
behind_order before [] ys order = order
behind_order before (x ∷ xs) ys order = behind_order (x ∷ before) xs ys order.2

one_more : (xs : List Entry) (x : Entry) (ys : List Entry) → (xs ++ x ∷ []) ++ ys ≡ xs ++ x ∷ ys
one_more xs x ys = append_assoc xs (x ∷ []) ys

newest_last : (xs : List Entry) (x : Entry) → newest_first [] (xs ++ x ∷ []) ≡ x ∷ newest_first [] xs
newest_last xs x = newest-append [] xs (x ∷ [])

module _ (fill : Row) (super : Super) (name : Place → Target) (mem : TargetFits (name memory)) (all : List Entry) (log : IsLog all) where
  -- each REPLICATE without a COMMIT waits for it, whatever stands behind the log of other writes
  waits : (front : List Entry) (ts : ℕ) (ops : List RowOp) (rest cs : List Entry) → all ≡ front ++ Replicate ts ops ∷ rest → CommitsUnder ts cs → commit_of ts all ≡ None → waiting ts (newest_first [] (all ++ cs)) ≡ Some (length ops)
  waits front ts ops rest cs is under none =
      let split : all ++ cs ≡ front ++ Replicate ts ops ∷ (rest ++ cs) = ap (λ l. l ++ cs) is ∙ append_assoc front (Replicate ts ops ∷ rest) cs in
      let above : AllAbove ts rest = above_behind [] front ts ops rest (subst IsLog is log) in
      let none_rest : commit_of ts rest ≡ None = none_behind ts (front ++ Replicate ts ops ∷ []) rest (ap (commit_of ts) (one_more front (Replicate ts ops) rest ∙ sym is) ∙ none) in
      let quiet = quiet-append ts rest cs (quiet_behind ts rest above none_rest) (quiet_under ts cs under) in
      ap (λ l. waiting ts (newest_first [] l)) split ∙ ap (waiting ts) (newest-append [] front (Replicate ts ops ∷ (rest ++ cs)))
      ∙ waits_on ts (Replicate ts ops ∷ newest_first [] front) (rest ++ cs) quiet ∙ ap (λ b. cond b (Some (length ops)) (waiting ts (newest_first [] front))) (same ts)

  order_at : (front : List Entry) (ts : ℕ) (ops : List RowOp) (rest : List Entry) → all ≡ front ++ Replicate ts ops ∷ rest → InOrder (newest_first [] front) (Replicate ts ops ∷ rest)
  order_at front ts ops rest is = behind_order [] front (Replicate ts ops ∷ rest) (subst IsLog is log)

  -- what is owed behind one write
  abbrev behind_write : ℕ → List RowOp → List Entry → Placed → List Entry
  behind_write ts ops rest stores = then_owed (λ s. owed fill super name all s rest) (write_opened fill super ts ops (commit_of ts all) stores)

  -- the log goes on with what is owed
  pub owed_log : (rest front cs : List Entry) (stores : Placed) → AllFit name stores → all ≡ front ++ rest → ((n : ℕ) → is_above (last_ts (newest_first [] front)) n ≡ true → CommitsUnder n cs) → IsLog (all ++ cs) → IsLog (all ++ (cs ++ owed fill super name all stores rest))
  owed_log [] front cs stores fits is under is_log = subst (λ l. IsLog (all ++ l)) (sym (append-nil cs)) is_log
  owed_log (Commit t rows ∷ rest) front cs stores fits is under is_log =
      owed_log rest (front ++ Commit t rows ∷ []) cs stores fits (is ∙ sym (one_more front (Commit t rows) rest)) (λ n up. under n (ap (λ l. is_above (last_ts l) n) (sym (newest_last front (Commit t rows))) ∙ up)) is_log
  owed_log (Replicate ts ops ∷ rest) front cs stores fits is under is_log =
      let order = order_at front ts ops rest is in
      let next : all ≡ (front ++ Replicate ts ops ∷ []) ++ rest = is ∙ sym (one_more front (Replicate ts ops) rest) in
      let low = under ts order.1 in
      let newer : (n : ℕ) → is_above (last_ts (newest_first [] (front ++ Replicate ts ops ∷ []))) n ≡ true → ts < n = λ n up. from_test ts n (ap (λ l. is_above (last_ts l) n) (sym (newest_last front (Replicate ts ops))) ∙ up) in
      let onward : (ds : List Entry) → ((n : ℕ) → is_above (last_ts (newest_first [] (front ++ Replicate ts ops ∷ []))) n ≡ true → CommitsUnder n ds) → IsLog (all ++ ds) → IsLog (all ++ (ds ++ behind_write ts ops rest stores)) =
      λ ds below its_log. elim (write_opened fill super ts ops (commit_of ts all) stores) as (λ w. write_opened fill super ts ops (commit_of ts all) stores ≡ w → IsLog (all ++ (ds ++ then_owed (λ s. owed fill super name all s rest) w))) [
        | Ok s ↦ λ opens. owed_log rest (front ++ Replicate ts ops ∷ []) ds s (fit_written fill super name ts ops (commit_of ts all) stores s opens fits) next below its_log
        | Err t ↦ λ opens. subst (λ l. IsLog (all ++ l)) (sym (append-nil ds)) its_log
      ] refl
      in
      elim (commit_of ts all) as (λ o. commit_of ts all ≡ o → IsLog (all ++ (cs ++ unless_told o (Commit ts (rows_told fill name ts ops stores)) (behind_write ts ops rest stores)))) [
        | Some rows ↦ λ e. onward cs (λ n up. under_later ts n cs (newer n up) low) is_log
        | None ↦ λ e.
            let commit = Commit ts (rows_told fill name ts ops stores) in
            let counts : follows (newest_first [] (all ++ cs)) commit ≡ true = (λ i. is_count (waits front ts ops rest cs is low e i) (as_many fill name mem ts ops stores i)) ∙ same (length ops) in
            let longer : IsLog (all ++ (cs ++ commit ∷ [])) = subst IsLog (append_assoc all cs (commit ∷ [])) (order_push [] (all ++ cs) commit is_log (told_framed fill name ts ops stores mem fits order.0) counts) in
            subst (λ l. IsLog (all ++ l)) (one_more cs commit (behind_write ts ops rest stores))
            (onward (cs ++ commit ∷ []) (λ n up. under_push ts n (rows_told fill name ts ops stores) cs (newer n up) (under_later ts n cs (newer n up) low)) longer)
      ] refl

-- ---- so each write has its COMMIT

none_front : (ts : ℕ) (xs ys : List Entry) → commit_of ts (xs ++ ys) ≡ None → commit_of ts xs ≡ None
none_front ts [] ys h = refl
none_front ts (Replicate t ops ∷ xs) ys h = none_front ts xs ys h
none_front ts (Commit t rows ∷ xs) ys h = let parts = some_none (t == ts) rows (commit_of ts (xs ++ ys)) h in ap (λ b. cond b (Some rows) (commit_of ts xs)) parts.0 ∙ none_front ts xs ys parts.1

front_ops : (ts : ℕ) (xs ys : List Entry) → ops_of ts ys ≡ None → ops_of ts (xs ++ ys) ≡ ops_of ts xs
front_ops ts [] ys h = h
front_ops ts (Replicate t ops ∷ xs) ys h = ap (cond (t == ts) (Some ops)) (front_ops ts xs ys h)
front_ops ts (Commit t rows ∷ xs) ys h = front_ops ts xs ys h

none_unless : (ts t : ℕ) (rows : List CommitRow) (o : Option (List CommitRow)) (more : List Entry) → commit_of ts (unless_told o (Commit t rows) more) ≡ None → commit_of ts more ≡ None
none_unless ts t rows (Some its) more h = h
none_unless ts t rows None more h = none_behind ts (Commit t rows ∷ []) more h

ops_unless : (ts t : ℕ) (rows : List CommitRow) (o : Option (List CommitRow)) (more : List Entry) → ops_of ts (unless_told o (Commit t rows) more) ≡ ops_of ts more
ops_unless ts t rows (Some its) more = refl
ops_unless ts t rows None more = refl

last_unless : (t : ℕ) (rows : List CommitRow) (o : Option (List CommitRow)) (more : List Entry) → last_of (unless_told o (Commit t rows) more) ≡ last_of more
last_unless t rows (Some its) more = refl
last_unless t rows None more = refl

module _ (fill : Row) (super : Super) (name : Place → Target) (all : List Entry) where
  no_write : (ts : ℕ) (rest : List Entry) (stores : Placed) → ops_of ts (owed fill super name all stores rest) ≡ None
  no_write ts [] stores = refl
  no_write ts (Commit t rows ∷ rest) stores = no_write ts rest stores
  no_write ts (Replicate t ops ∷ rest) stores =
      let written = write_opened fill super t ops (commit_of t all) stores in
      ops_unless ts t (rows_told fill name t ops stores) (commit_of t all) (then_owed (λ s. owed fill super name all s rest) written)
      ∙ elim written as (λ w. ops_of ts (then_owed (λ s. owed fill super name all s rest) w) ≡ None) [ Ok s ↦ no_write ts rest s | Err u ↦ refl ]

  owed_has : (ts : ℕ) (ops : List RowOp) (xs ys : List Entry) (stores final : Placed) → opened fill super all stores (xs ++ Replicate ts ops ∷ ys) ≡ Ok final → commit_of ts all ≡ None
      → commit_of ts (owed fill super name all stores (xs ++ Replicate ts ops ∷ ys)) ≡ None → ⊥
  owed_has ts ops [] ys stores final opens none h =
      let more = then_owed (λ s. owed fill super name all s ys) (write_opened fill super ts ops (commit_of ts all) stores) in
      is_found ts [] (rows_told fill name ts ops stores) more (subst (λ o. commit_of ts (unless_told o (Commit ts (rows_told fill name ts ops stores)) more) ≡ None) none h)
  owed_has ts ops (Commit t rows ∷ xs) ys stores final opens none h = owed_has ts ops xs ys stores final opens none h
  owed_has ts ops (Replicate t o ∷ xs) ys stores final opens none h =
      let rest = xs ++ Replicate ts ops ∷ ys in
      elim (write_opened fill super t o (commit_of t all) stores) as (λ w. then_opened (λ s. opened fill super all s rest) w ≡ Ok final
      → commit_of ts (unless_told (commit_of t all) (Commit t (rows_told fill name t o stores)) (then_owed (λ s. owed fill super name all s rest) w)) ≡ None → ⊥) [
        | Ok s ↦ λ more e. owed_has ts ops xs ys s final more none (none_unless ts t (rows_told fill name t o stores) (commit_of t all) (owed fill super name all s rest) e)
        | Err u ↦ λ more e. let bad : Err u ≡ Ok final = more in cc
      ] opens h

  -- COMMITs leave the last timestamp
  owed_none : (rest : List Entry) (stores : Placed) → last_of (owed fill super name all stores rest) ≡ 0
  owed_none [] stores = refl
  owed_none (Commit t rows ∷ rest) stores = owed_none rest stores
  owed_none (Replicate t ops ∷ rest) stores =
      let written = write_opened fill super t ops (commit_of t all) stores in
      last_unless t (rows_told fill name t ops stores) (commit_of t all) (then_owed (λ s. owed fill super name all s rest) written)
      ∙ elim written as (λ w. last_of (then_owed (λ s. owed fill super name all s rest) w) ≡ 0) [ Ok s ↦ owed_none rest s | Err u ↦ refl ]

last_behind : (front run : List Entry) → last_of run ≡ 0 → last_of (front ++ run) ≡ last_of front
last_behind [] run none = none
last_behind (Replicate t ops ∷ front) run none = ap (max t) (last_behind front run none)
last_behind (Commit t rows ∷ front) run none = last_behind front run none

pub goes_on : a_log_goes_on_with_what_it_owes
goes_on fill super name records stores final log mem fits opens =
    let run = owed fill super name records stores records in (
      owed_log fill super name mem records log records [] [] stores fits refl (λ n up. tt) (subst IsLog (sym (append-nil records)) log),
      (λ ts ops has none.
          let at = stands_at ts ops records (sym (front_ops ts records run (no_write fill super name records ts records stores)) ∙ has) in
          owed_has fill super name records ts ops at.0 at.1 stores final
          (subst (λ (l : List Entry). opened fill super records stores l ≡ Ok final) at.2 opens)
          (none_front ts records run none)
          (subst (λ (l : List Entry). commit_of ts (owed fill super name records stores l) ≡ None) at.2 (none_behind ts records run none))),
      last_behind records run (owed_none fill super name records records stores),
    )
