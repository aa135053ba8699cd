-- Records as a format: what is read is spelled so, what is spelled so is read, and where other bytes are at fault.
use Rattle.std.proofs.Common.{◌≡◌, ℕ, zero, suc, ◌+◌, ◌^◌, ◌<◌, ◌≤◌, true, List, [], ◌∷◌, ◌++◌, length, take, Option, Some, None, Result, Ok, Err, refl, sym, ap, ◌∙◌, arith}
use Rattle.std.specs.Prelude.{IfOk}
use Rattle.std.specs.List.{concat, flat_map}
use Rattle.std.specs.Int.{w16, w64, to_le_bytes}
use Rattle.std.proofs.lemmas.List.{length_push, take_at}
use Rattle.kt_history.specs.declared.operation.RowOp.{RowOp}
use Rattle.kt_history.specs.Operations.{op_len}
use Rattle.kt_history.specs.Spelled.{OpFits}
use Rattle.kt_history.proofs.Lengths.{length-operation}
use Rattle.kt_history.specs.declared.target.Target.{Target}
use Rattle.kt_history.specs.declared.target.Target.TheVariants as stores
use Rattle.kt_bytes.specs.declared.fault.CodecNo.{CodecNo}
use Rattle.kt_bytes.specs.declared.fault.CodecNo.TheVariants as answers
use Rattle.kt_bytes.specs.Places.{IsFault}
use Rattle.kt_bytes.specs.Reading.{◌>>=◌, Answers, IfPlace, number_at, checked_at, many_at, with_offset}
use Rattle.kt_bytes.proofs.Numbers.{IsBytes, wide16, wide64}
use Rattle.kt_records.specs.declared.entry.CommitRow.{CommitRow}
use Rattle.kt_records.specs.declared.entry.Entry.{Entry}
use Rattle.kt_records.specs.declared.entry.Entry.TheVariants.{Replicate, Commit}
use Rattle.kt_records.specs.Spelling.{kind, operation, target, commit_row, spelling}
use Rattle.kt_records.specs.Rules.{EachAfter, FollowingOp, may_hold, KeepsRules}
use Rattle.kt_records.specs.Fields.{operation_fields, target_fields, row_fields, record_fields, Spelled}
use Rattle.kt_records.specs.Reading.{operation_at, commit_row_at, replicate_at, commit_at, entry_at, whole_at, record_of}
use Rattle.kt_bytes.proofs.Formats.{Part}
use Rattle.kt_bytes.proofs.Leaves.{same_reader, Passes, number_fields, number_part, any_number, byte_at_front, code_fields, code_part}
use Rattle.kt_bytes.proofs.Joins.{both_part, same_part, made_at, made_part, many_part, concat_items}
use Rattle.kt_bytes.proofs.Whole.{found, again, place, told_place}
use Rattle.kt_cells.proofs.Cells.{cell_list_spelled}
use Rattle.kt_records.proofs.Operations.{operation_part}
use Rattle.kt_records.proofs.Commits.{Rows, rows_part}

-- ---- what a record lists

data Which : Type 0 where
  IsWrite : Which
  IsCommit : Which

abbrev which_code : Which → ℕ
which_code IsWrite = 1
which_code IsCommit = 2

abbrev which_of : Entry → Which
which_of (Replicate ts ops) = IsWrite
which_of (Commit ts rows) = IsCommit

abbrev which_meaning : ℕ → Option Which
which_meaning zero = None
which_meaning (suc zero) = Some IsWrite
which_meaning (suc (suc zero)) = Some IsCommit
which_meaning (suc (suc (suc b))) = None

abbrev ts_of : Entry → ℕ
ts_of (Replicate ts ops) = ts
ts_of (Commit ts rows) = ts

abbrev ops_of : Entry → List RowOp
ops_of (Replicate ts ops) = ops
ops_of (Commit ts rows) = []

abbrev rows_of : Entry → List CommitRow
rows_of (Replicate ts ops) = []
rows_of (Commit ts rows) = rows

which_is : (b : ℕ) (u v : Which) → which_code u ≡ b → Some u ≡ Some v → (which_code v ≡ b) × Unit {0}
which_is b u v code e = let same : u ≡ v = cc in (ap which_code (sym same) ∙ code, tt)

which_part : Part (byte_at_front which_meaning) (code_fields which_code) (λ w. Unit {0})
which_part = code_part which_meaning which_code (λ w. Unit {0}) back there IsWrite tt (omega arith)
  where
    back : (b : ℕ) (v : Which) → which_meaning b ≡ Some v → (which_code v ≡ b) × Unit {0}
    back zero v e = absurd cc
    back (suc zero) v e = which_is 1 IsWrite v refl e
    back (suc (suc zero)) v e = which_is 2 IsCommit v refl e
    back (suc (suc (suc b))) v e = absurd cc

    there : (v : Which) → Unit {0} → which_meaning (which_code v) ≡ Some v
    there IsWrite f = refl
    there IsCommit f = refl

-- ---- REPLICATEs

-- so many operations
abbrev Ops : ℕ → List RowOp → Type 0
Ops n ops = (length ops ≡ n) × EachAfter FollowingOp [] ops

few_ops : (n : ℕ) → may_hold n ≡ true → n ≤ 64
few_ops n h = grind arith

ops_part : (n : ℕ) → n ≤ 64 → Part (many_at operation_at n []) (flat_map operation_fields) (Ops n)
ops_part n few = many_part operation_at operation_fields FollowingOp (λ k front. length front + k ≤ 64) (λ k front left. operation_part front (omega (arith, left))) (λ k front op left f. omega (arith, left, length_push front op)) n (omega (arith, few))

abbrev Number : ℕ → Type 0
Number = Passes (λ n. true) (2 ^ 64)

abbrev OpCount : ℕ → Type 0
OpCount = Passes may_hold (2 ^ 16)

abbrev OpsOf : ℕ → ℕ → Entry → Type 0
OpsOf ts n e = Ops n (ops_of e) × (Replicate ts (ops_of e) ≡ e)

abbrev WriteOf : ℕ → Entry → Type 0
WriteOf ts e = OpCount (length (ops_of e)) × OpsOf ts (length (ops_of e)) e

abbrev IsWriteEntry : Entry → Type 0
IsWriteEntry e = KeepsRules e × (which_of e ≡ IsWrite)

abbrev counted_ops_at : ℕ → List ℕ → Result (Entry × List ℕ) ℕ
counted_ops_at ts bytes = checked_at w16 may_hold bytes >>= λ n. made_at (many_at operation_at n.0 []) (Replicate ts) n.1

counted_ops_part : (ts : ℕ) → Part (counted_ops_at ts) (λ e. to_le_bytes w16 (length (ops_of e)) ∷ flat_map operation_fields (ops_of e)) (WriteOf ts)
counted_ops_part ts =
    both_part (checked_at w16 may_hold) (number_fields w16) OpCount (λ n. made_at (many_at operation_at n []) (Replicate ts)) (λ e. flat_map operation_fields (ops_of e)) (OpsOf ts) (λ e. length (ops_of e)) (λ n e f. f.0.0)
    (number_part w16 (2 ^ 16) wide16 may_hold (omega arith) 1 refl (omega arith))
    (λ n f. made_part (many_at operation_at n []) (flat_map operation_fields) (Ops n) (Replicate ts) ops_of (λ ops g. refl) (ops_part n (few_ops n f.0)))

any64 : Part (number_at w64) (number_fields w64) Number
any64 = any_number w64 (2 ^ 64) wide64 (omega arith) (omega arith)

-- the fields behind the first
abbrev body_fields : Entry → List (List ℕ)
body_fields (Replicate ts ops) = to_le_bytes w64 ts ∷ to_le_bytes w16 (length ops) ∷ flat_map operation_fields ops
body_fields (Commit ts rows) = to_le_bytes w64 ts ∷ to_le_bytes w16 (length rows) ∷ flat_map row_fields rows

holds_few : (n : ℕ) → may_hold n ≡ true → n < 2 ^ 16
holds_few n h = grind arith

replicate_part : Part replicate_at body_fields IsWriteEntry
unfolding replicate_at
replicate_part =
    same_part replicate_at (λ e. to_le_bytes w64 (ts_of e) ∷ to_le_bytes w16 (length (ops_of e)) ∷ flat_map operation_fields (ops_of e)) body_fields (λ e. Number (ts_of e) × WriteOf (ts_of e) e) IsWriteEntry to from fields
    (both_part (number_at w64) (number_fields w64) Number counted_ops_at (λ e. to_le_bytes w16 (length (ops_of e)) ∷ flat_map operation_fields (ops_of e)) WriteOf ts_of (λ ts e f. sym (ap ts_of f.1.1)) any64 (λ ts f. counted_ops_part ts))
  where
    to : (e : Entry) → Number (ts_of e) × WriteOf (ts_of e) e → IsWriteEntry e
    to (Replicate ts ops) f = (record { ts = f.0.1; count = f.1.0.0; ops = f.1.1.0.1 }, refl)
    to (Commit ts rows) f = let bad : Replicate ts [] ≡ Commit ts rows = f.1.1.1 in absurd cc

    from : (e : Entry) → IsWriteEntry e → Number (ts_of e) × WriteOf (ts_of e) e
    from (Replicate ts ops) f = ((refl, f.0.ts), ((f.0.count, holds_few (length ops) f.0.count), ((refl, f.0.ops), refl)))
    from (Commit ts rows) f = let bad : IsCommit ≡ IsWrite = f.1 in absurd cc

    fields : (e : Entry) → Number (ts_of e) × WriteOf (ts_of e) e → body_fields e ≡ to_le_bytes w64 (ts_of e) ∷ to_le_bytes w16 (length (ops_of e)) ∷ flat_map operation_fields (ops_of e)
    fields (Replicate ts ops) f = refl
    fields (Commit ts rows) f = let bad : Replicate ts [] ≡ Commit ts rows = f.1.1.1 in absurd cc

-- ---- COMMITs

abbrev RowCount : ℕ → Type 0
RowCount = Passes (λ n. true) (2 ^ 16)

abbrev RowsOf : ℕ → ℕ → Entry → Type 0
RowsOf ts n e = Rows n (rows_of e) × (Commit ts (rows_of e) ≡ e)

abbrev CommitOf : ℕ → Entry → Type 0
CommitOf ts e = RowCount (length (rows_of e)) × RowsOf ts (length (rows_of e)) e

abbrev IsCommitEntry : Entry → Type 0
IsCommitEntry e = KeepsRules e × (which_of e ≡ IsCommit)

abbrev counted_rows_at : ℕ → List ℕ → Result (Entry × List ℕ) ℕ
counted_rows_at ts bytes = number_at w16 bytes >>= λ n. made_at (many_at (λ front. commit_row_at) n.0 []) (Commit ts) n.1

counted_rows_part : (ts : ℕ) → Part (counted_rows_at ts) (λ e. to_le_bytes w16 (length (rows_of e)) ∷ flat_map row_fields (rows_of e)) (CommitOf ts)
counted_rows_part ts =
    both_part (number_at w16) (number_fields w16) RowCount (λ n. made_at (many_at (λ front. commit_row_at) n []) (Commit ts)) (λ e. flat_map row_fields (rows_of e)) (RowsOf ts) (λ e. length (rows_of e)) (λ n e f. f.0.0)
    (any_number w16 (2 ^ 16) wide16 (omega arith) (omega arith))
    (λ n f. made_part (many_at (λ front. commit_row_at) n []) (flat_map row_fields) (Rows n) (Commit ts) rows_of (λ rows g. refl) (rows_part n))

commit_part : Part commit_at body_fields IsCommitEntry
unfolding commit_at
commit_part =
    same_part commit_at (λ e. to_le_bytes w64 (ts_of e) ∷ to_le_bytes w16 (length (rows_of e)) ∷ flat_map row_fields (rows_of e)) body_fields (λ e. Number (ts_of e) × CommitOf (ts_of e) e) IsCommitEntry to from fields
    (both_part (number_at w64) (number_fields w64) Number counted_rows_at (λ e. to_le_bytes w16 (length (rows_of e)) ∷ flat_map row_fields (rows_of e)) CommitOf ts_of (λ ts e f. sym (ap ts_of f.1.1)) any64 (λ ts f. counted_rows_part ts))
  where
    to : (e : Entry) → Number (ts_of e) × CommitOf (ts_of e) e → IsCommitEntry e
    to (Replicate ts ops) f = let bad : Commit ts [] ≡ Replicate ts ops = f.1.1.1 in absurd cc
    to (Commit ts rows) f = (record { ts = f.0.1; count = f.1.0.1; rows = f.1.1.0.1 }, refl)

    from : (e : Entry) → IsCommitEntry e → Number (ts_of e) × CommitOf (ts_of e) e
    from (Replicate ts ops) f = let bad : IsWrite ≡ IsCommit = f.1 in absurd cc
    from (Commit ts rows) f = ((refl, f.0.ts), ((refl, f.0.count), ((refl, f.0.rows), refl)))

    fields : (e : Entry) → Number (ts_of e) × CommitOf (ts_of e) e → body_fields e ≡ to_le_bytes w64 (ts_of e) ∷ to_le_bytes w16 (length (rows_of e)) ∷ flat_map row_fields (rows_of e)
    fields (Replicate ts ops) f = let bad : Commit ts [] ≡ Replicate ts ops = f.1.1.1 in absurd cc
    fields (Commit ts rows) f = refl

-- ---- records

abbrev body_at : Which → List ℕ → Result (Entry × List ℕ) ℕ
body_at IsWrite bytes = replicate_at bytes
body_at IsCommit bytes = commit_at bytes

abbrev IsKind : Which → Entry → Type 0
IsKind w e = KeepsRules e × (which_of e ≡ w)

body_part : (w : Which) → Part (body_at w) body_fields (IsKind w)
body_part IsWrite = replicate_part
body_part IsCommit = commit_part

abbrev chosen_at : List ℕ → Result (Entry × List ℕ) ℕ
chosen_at bytes = byte_at_front which_meaning bytes >>= λ w. body_at w.0 w.1

entry_is : (bytes : List ℕ) → entry_at bytes ≡ chosen_at bytes
unfolding entry_at
entry_is [] = refl
entry_is (zero ∷ rest) = refl
entry_is (suc zero ∷ rest) = refl
entry_is (suc (suc zero) ∷ rest) = refl
entry_is (suc (suc (suc b)) ∷ rest) = refl

pub entry_part : Part entry_at record_fields KeepsRules
entry_part =
    same_reader chosen_at entry_at record_fields KeepsRules entry_is
    (same_part chosen_at (λ e. code_fields which_code (which_of e) ++ body_fields e) record_fields (λ e. Unit {0} × IsKind (which_of e) e) KeepsRules (λ e f. f.1.0) (λ e f. (tt, (f, refl))) fields
    (both_part (byte_at_front which_meaning) (code_fields which_code) (λ w. Unit {0}) body_at body_fields IsKind which_of (λ w e f. f.1) which_part (λ w f. body_part w)))
  where
    fields : (e : Entry) → Unit {0} × IsKind (which_of e) e → record_fields e ≡ code_fields which_code (which_of e) ++ body_fields e
    fields (Replicate ts ops) f = refl
    fields (Commit ts rows) f = refl

-- ---- their bytes

operation_spelled : (op : RowOp) → concat (operation_fields op) ≡ operation op
operation_spelled op =
    ap (λ (l : List ℕ). kind op.kind ∷ (to_le_bytes w16 (length op.key) ++ (op.key ++ l))) (cell_list_spelled op.cells)

-- an operation that was read stands in front of what is left
pub op_took : (front : List RowOp) (bytes : List ℕ) (op : RowOp) (rest : List ℕ) → length front < 256 → IsBytes bytes → operation_at front bytes ≡ Ok (op, rest) → (bytes ≡ operation op ++ rest) × OpFits op
op_took front bytes op rest few fits reads =
    let took = (operation_part front few).took bytes (op, rest) fits reads in
    (took.parts ∙ ap (λ (l : List ℕ). l ++ rest) (operation_spelled op), record { key = took.fits.key; cells = record { count = took.fits.cells.count; each = took.fits.cells.cells } })

-- so many bytes as it has are its own
pub op_in_front : (op : RowOp) (bytes rest : List ℕ) (n : ℕ) → n ≡ op_len op → bytes ≡ operation op ++ rest → take n bytes ≡ operation op
op_in_front op bytes rest n len is = rw (is, len) (take_at (operation op) rest (op_len op) (length-operation op))

target_spelled : (t : Target) → concat (target_fields t) ≡ target t
target_spelled (stores.Mem number) = refl
target_spelled (stores.Delta rowset dms) = refl

row_spelled : (row : CommitRow) → concat (row_fields row) ≡ commit_row row
row_spelled row = ap (λ (l : List ℕ). Rattle.kt_records.specs.Spelling.outcome row.outcome ∷ length row.targets ∷ l) (concat_items target_fields target target_spelled row.targets)

pub record_spelled : (e : Entry) → concat (record_fields e) ≡ spelling e
record_spelled (Replicate ts ops) = ap (λ (l : List ℕ). 1 ∷ (to_le_bytes w64 ts ++ (to_le_bytes w16 (length ops) ++ l))) (concat_items operation_fields operation operation_spelled ops)
record_spelled (Commit ts rows) = ap (λ (l : List ℕ). 2 ∷ (to_le_bytes w64 ts ++ (to_le_bytes w16 (length rows) ++ l))) (concat_items row_fields commit_row row_spelled rows)

-- ---- read again

offset_ok : (total : ℕ) (r : Result Entry ℕ) (e : Entry) → with_offset total r ≡ Ok e → r ≡ Ok e
offset_ok total (Ok x) e is = is
offset_ok total (Err left) e is = absurd cc

-- what is read keeps the rules and is spelled so
pub record_takes : (bytes : List ℕ) (e : Entry) → IsBytes bytes → record_of bytes ≡ Ok e → KeepsRules e × (bytes ≡ spelling e)
unfolding whole_at
record_takes bytes e fits is =
    let f = found entry_at record_fields KeepsRules entry_part bytes e fits (offset_ok (length bytes) (whole_at bytes) e is) in
    (f.0, f.1 ∙ record_spelled e)

-- what is spelled is read
pub record_again : (entry : Entry) → KeepsRules entry → record_of (spelling entry) ≡ Ok entry
unfolding whole_at
record_again entry fits =
    ap record_of (sym (record_spelled entry)) ∙ ap (with_offset (length (concat (record_fields entry)))) (again entry_at record_fields KeepsRules entry_part entry fits)

pub is_found : (bytes : List ℕ) (r : Result Entry CodecNo) → IsBytes bytes → Answers r (record_of bytes) → IfOk r (λ entry. KeepsRules entry × (bytes ≡ spelling entry))
is_found bytes (Ok entry) fits given = record_takes bytes entry fits given
is_found bytes (Err why) fits given = tt

-- ---- the first fault

-- the place that is told is the first fault
pub first_fault : (bytes : List ℕ) (offset : ℕ) → IsBytes bytes → record_of bytes ≡ Err offset → IsFault Spelled bytes offset
unfolding whole_at
first_fault bytes offset fits e = place entry_at record_fields KeepsRules entry_part bytes offset fits e

-- and the first fault is told
pub told_first : (bytes : List ℕ) (offset : ℕ) → IsBytes bytes → IsFault Spelled bytes offset → record_of bytes ≡ Err offset
unfolding whole_at
told_first bytes offset fits f = told_place entry_at record_fields KeepsRules entry_part bytes offset fits f

pub is_placed : (bytes : List ℕ) (r : Result Entry CodecNo) → IsBytes bytes → Answers r (record_of bytes) → IfPlace r (IsFault Spelled bytes)
is_placed bytes (Ok entry) fits given = tt
is_placed bytes (Err (answers.Place offset)) fits given = first_fault bytes offset fits given
is_placed bytes (Err answers.Memory) fits given = tt
