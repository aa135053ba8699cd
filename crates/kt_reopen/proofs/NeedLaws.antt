-- What is left of the operations that are replayed, and what they need of the pool.
use Rattle.std.proofs.Common.{◌≡◌, ℕ, zero, suc, ◌+◌, ◌*◌, ◌/◌, ◌<◌, ◌≤◌, List, [], ◌∷◌, length, drop, get_or, Option, Some, None, Bool, true, false, cond, refl, sym, ap, subst, ◌∙◌, zero-add, Bor, arith}
use Rattle.std.specs.Prelude.{slice_get, IfSome}
use Rattle.std.specs.Option.{option_map}
use Rattle.std.proofs.lemmas.List.Sums.{sum_by-cons}
use Rattle.kt_history.specs.declared.operation.RowOp.{RowOp}
use Rattle.kt_history.specs.Operations.{need, op_len}
use Rattle.kt_records.specs.declared.entry.CommitRow.{CommitRow}
use Rattle.kt_records.specs.declared.entry.Entry.{Entry}
use Rattle.kt_records.specs.declared.entry.Entry.TheVariants.{Replicate, Commit}
use Rattle.kt_content.specs.Places.{Super}
use Rattle.kt_content.specs.Opening.{AreWrites, HasRows, names_at, rows_behind}
use Rattle.kt_reopen.specs.Needed.{AreFew, is_replayed, need_if, told_of, replayed}
use Rattle.kt_reopen.proofs.Replayed.{first_left}

pub need-first : (op : RowOp) (ops : List RowOp) → need (op ∷ ops) ≡ need (op ∷ []) + need ops
need-first op ops = sum_by-cons (λ (op : RowOp). 2 * ((op_len op + 55) / 56 + 4)) op ops ∙ ap (λ n. n + need ops) (sym (one op))
  where
    one : (op : RowOp) → need (op ∷ []) ≡ 2 * ((op_len op + 55) / 56 + 4)
    one op = omega (arith, sum_by-cons (λ (op : RowOp). 2 * ((op_len op + 55) / 56 + 4)) op [])

-- the rows of a COMMIT without the first ones
abbrev pub dropped : ℕ → Option (List CommitRow) → Option (List CommitRow)
dropped i None = None
dropped i (Some rows) = Some (drop i rows)

-- as many rows as operations, and one fewer behind each
pub rows_reach : (ops : List RowOp) (rows : List CommitRow) → HasRows ops (Some rows) → length ops ≤ length rows
rows_reach [] rows h = omega arith
rows_reach (op ∷ ops) [] h = absurd h
rows_reach (op ∷ ops) (row ∷ rows) h = let more = rows_reach ops rows h in omega arith

pub rows_rest : (op : RowOp) (ops : List RowOp) (told : Option (List CommitRow)) → HasRows (op ∷ ops) told → HasRows ops (rows_behind told)
rows_rest op ops None h = tt
rows_rest op ops (Some []) h = absurd h
rows_rest op ops (Some (row ∷ rows)) h = h

pub few_rest : (told : Option (List CommitRow)) → AreFew told → AreFew (rows_behind told)
few_rest None h = tt
few_rest (Some []) h = tt
few_rest (Some (row ∷ rows)) h = h.1

-- an operation needs something where it is replayed, and nothing where it is not
pub need_split : (super : Super) (op : RowOp) (ops : List RowOp) (told : Option (List CommitRow)) → need (replayed super (op ∷ ops) told) ≡ need_if (is_replayed super (names_at told)) op + need (replayed super ops (rows_behind told))
need_split super op ops told = elim (is_replayed super (names_at told)) as (λ b. need (cond b (op ∷ replayed super ops (rows_behind told)) (replayed super ops (rows_behind told))) ≡ need_if b op + need (replayed super ops (rows_behind told))) [
  | true ↦ need-first op (replayed super ops (rows_behind told))
  | false ↦ sym (zero-add (need (replayed super ops (rows_behind told))))
]

-- ---- one operation more of those of a write, whose COMMIT has as many rows

-- its rows are left as its operations are
pub rows_left : (told : Option (List CommitRow)) (i : ℕ) → ((rows : List CommitRow) → told ≡ Some rows → i < length rows) → rows_behind (dropped i told) ≡ dropped (i + 1) told
rows_left None i lt = refl
rows_left (Some rows) i lt =
    let row = row_at rows i (lt rows refl) in
    ap (λ (l : List CommitRow). rows_behind (Some l)) (first_left rows i (i + 1) row.0 (lt rows refl) row.1 refl)
  where
    row_at : (rows : List CommitRow) (i : ℕ) → i < length rows → (row : CommitRow) × (row ≡ get_or rows i row)
    row_at [] i lt = absurd (omega arith)
    row_at (row ∷ rows) zero lt = (row, refl)
    row_at (row ∷ rows) (suc i) lt = row_at rows i (omega arith)

pub names_left : (rows : List CommitRow) (i : ℕ) (row : CommitRow) → i < length rows → row ≡ get_or rows i row → names_at (dropped i (Some rows)) ≡ Some row.targets
names_left rows i row lt is = ap (λ (l : List CommitRow). names_at (Some l)) (first_left rows i (i + 1) row lt is refl)

-- the operation at a place
pub op_at : (ops : List RowOp) (i : ℕ) → i < length ops → (op : RowOp) × (op ≡ get_or ops i op)
op_at [] i lt = absurd (omega arith)
op_at (op ∷ ops) zero lt = (op, refl)
op_at (op ∷ ops) (suc i) lt = op_at ops i (omega arith)

-- so a sum over the first operations goes on
pub need_next : (super : Super) (ops : List RowOp) (told : Option (List CommitRow)) (i : ℕ) (op : RowOp) (b : Bool) (sum new : ℕ) → i < length ops → op ≡ get_or ops i op → ((rows : List CommitRow) → told ≡ Some rows → i < length rows)
    → is_replayed super (names_at (dropped i told)) ≡ b → new ≡ sum + need_if b op
    → sum + need (replayed super (drop i ops) (dropped i told)) ≡ need (replayed super ops told)
    → new + need (replayed super (drop (i + 1) ops) (dropped (i + 1) told)) ≡ need (replayed super ops told)
need_next super ops told i op b sum new lt is reach replays adds h =
    let first : need (replayed super (drop i ops) (dropped i told)) ≡ need (replayed super (op ∷ drop (i + 1) ops) (dropped i told)) = ap (λ (l : List RowOp). need (replayed super l (dropped i told))) (first_left ops i (i + 1) op lt is refl) in
    let split = need_split super op (drop (i + 1) ops) (dropped i told) in
    let own : need_if (is_replayed super (names_at (dropped i told))) op ≡ need_if b op = ap (λ c. need_if c op) replays in
    let rest : need (replayed super (drop (i + 1) ops) (rows_behind (dropped i told))) ≡ need (replayed super (drop (i + 1) ops) (dropped (i + 1) told)) = ap (λ o. need (replayed super (drop (i + 1) ops) o)) (rows_left told i reach) in
    omega arith

-- what is told of the first that is left
pub names_told : (i : ℕ) (told : Option (List CommitRow)) → names_at (dropped i told) ≡ told_of i told
names_told i None = refl
names_told i (Some rows) = by i rows
  where
    by : (i : ℕ) (rows : List CommitRow) → names_at (Some (drop i rows)) ≡ option_map (λ (row : CommitRow). row.targets) (slice_get rows i)
    by zero [] = refl
    by zero (row ∷ rows) = refl
    by (suc i) [] = refl
    by (suc i) (row ∷ rows) = by i rows

-- a place of an operation is one of a row
pub reaches : (ops : List RowOp) (told : Option (List CommitRow)) (i : ℕ) → HasRows ops told → i < length ops → (rows : List CommitRow) → told ≡ Some rows → i < length rows
reaches ops told i h lt rows e = let reach = rows_reach ops rows (subst (HasRows ops) e h) in omega arith

pub reach_some : (ops : List RowOp) (commit : Option (Bor (List CommitRow))) (i : ℕ) → HasRows ops (option_map (λ rows. rows.now) commit) → i < length ops → IfSome commit (λ rows. i < length rows.now)
reach_some ops None i h lt = tt
reach_some ops (Some rows) i h lt = reaches ops (Some rows.now) i h lt rows.now refl

-- the writes from a place on
pub writes_drop : (all : List Entry) (i : ℕ) (records : List Entry) → AreWrites all records → AreWrites all (drop i records)
writes_drop all zero records h = h
writes_drop all (suc i) [] h = h
writes_drop all (suc i) (Replicate ts ops ∷ records) h = writes_drop all i records h.2
writes_drop all (suc i) (Commit ts rows ∷ records) h = writes_drop all i records h
