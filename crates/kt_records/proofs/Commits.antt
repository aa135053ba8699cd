-- Rows of COMMITs as parts of a format.
use Rattle.std.proofs.Common.{◌≡◌, ℕ, zero, suc, ◌^◌, ◌<◌, Bool, true, false, cond, List, [], ◌∷◌, ◌++◌, length, Option, Some, None, Result, Err, refl, sym, ap, subst, ◌∙◌, arith}
use Rattle.std.specs.List.{flat_map}
use Rattle.std.specs.Int.{w64, to_le_bytes}
use Rattle.kt_history.specs.declared.change.Outcome.{Outcome}
use Rattle.kt_history.specs.declared.change.Outcome.TheVariants.{Done, Present, Absent, Ignored}
use Rattle.kt_history.specs.declared.target.Target.{Target}
use Rattle.kt_history.specs.declared.target.Target.TheVariants as stores
use Rattle.kt_bytes.specs.Reading.{◌>>=◌, number_at, many_at}
use Rattle.kt_bytes.proofs.Numbers.{wide64}
use Rattle.kt_records.specs.declared.entry.CommitRow.{CommitRow}
use Rattle.kt_records.specs.Spelling.{outcome}
use Rattle.kt_records.specs.Rules.{EachAfter, TargetFits, may_change, RowFits}
use Rattle.kt_records.specs.Fields.{target_fields, row_fields}
use Rattle.kt_records.specs.Reading.{target_at, outcome_at, target_list_at, commit_row_at}
use Rattle.kt_bytes.proofs.Formats.{Part}
use Rattle.kt_bytes.proofs.Leaves.{same_reader, Passes, number_fields, any_number, byte_at_front, code_fields, code_part}
use Rattle.kt_bytes.proofs.Joins.{both_part, same_part, made_at, made_part, made_as, many_part}

-- ---- stores

data Store : Type 0 where
  IsMem : Store
  IsDelta : Store

abbrev store_code : Store → ℕ
store_code IsMem = 1
store_code IsDelta = 2

abbrev store_of : Target → Store
store_of (stores.Mem number) = IsMem
store_of (stores.Delta rowset dms) = IsDelta

abbrev store_meaning : ℕ → Option Store
store_meaning zero = None
store_meaning (suc zero) = Some IsMem
store_meaning (suc (suc zero)) = Some IsDelta
store_meaning (suc (suc (suc b))) = None

store_is : (b : ℕ) (u v : Store) → store_code u ≡ b → Some u ≡ Some v → (store_code v ≡ b) × Unit {0}
store_is b u v code e = let same : u ≡ v = cc in (ap store_code (sym same) ∙ code, tt)

store_part : Part (byte_at_front store_meaning) (code_fields store_code) (λ s. Unit {0})
store_part = code_part store_meaning store_code (λ s. Unit {0}) back there IsMem tt (omega arith)
  where
    back : (b : ℕ) (v : Store) → store_meaning b ≡ Some v → (store_code v ≡ b) × Unit {0}
    back zero v e = absurd cc
    back (suc zero) v e = store_is 1 IsMem v refl e
    back (suc (suc zero)) v e = store_is 2 IsDelta v refl e
    back (suc (suc (suc b))) v e = absurd cc

    there : (v : Store) → Unit {0} → store_meaning (store_code v) ≡ Some v
    there IsMem f = refl
    there IsDelta f = refl

-- the fields behind the first
abbrev number_list : Target → List (List ℕ)
number_list (stores.Mem number) = to_le_bytes w64 number ∷ []
number_list (stores.Delta rowset dms) = to_le_bytes w64 rowset ∷ to_le_bytes w64 dms ∷ []

abbrev first_of : Target → ℕ
first_of (stores.Mem number) = number
first_of (stores.Delta rowset dms) = rowset

abbrev second_of : Target → ℕ
second_of (stores.Mem number) = 0
second_of (stores.Delta rowset dms) = dms

abbrev Number : ℕ → Type 0
Number = Passes (λ n. true) (2 ^ 64)

abbrev numbers_at : Store → List ℕ → Result (Target × List ℕ) ℕ
numbers_at IsMem bytes = made_at (number_at w64) stores.Mem bytes
numbers_at IsDelta bytes = number_at w64 bytes >>= λ rowset. made_at (number_at w64) (stores.Delta rowset.0) rowset.1

abbrev IsIn : Store → Target → Type 0
IsIn s t = TargetFits t × (store_of t ≡ s)

any64 : Part (number_at w64) (number_fields w64) Number
any64 = any_number w64 (2 ^ 64) wide64 (omega arith) (omega arith)

abbrev Pair : ℕ → Target → Type 0
Pair rowset t = Number (second_of t) × (stores.Delta rowset (second_of t) ≡ t)

numbers_part : (s : Store) → Part (numbers_at s) number_list (IsIn s)
numbers_part IsMem = made_as (number_at w64) (number_fields w64) Number stores.Mem first_of number_list (IsIn IsMem) (λ n f. refl) (λ n f. (f.1, refl)) from (λ n f. refl) any64
  where
    from : (t : Target) → IsIn IsMem t → Number (first_of t) × (stores.Mem (first_of t) ≡ t)
    from (stores.Mem number) f = ((refl, f.0), refl)
    from (stores.Delta rowset dms) f = let bad : IsDelta ≡ IsMem = f.1 in absurd cc
numbers_part IsDelta =
    same_part (numbers_at IsDelta) (λ t. to_le_bytes w64 (first_of t) ∷ to_le_bytes w64 (second_of t) ∷ []) number_list (λ t. Number (first_of t) × Pair (first_of t) t) (IsIn IsDelta) to from fields
    (both_part (number_at w64) (number_fields w64) Number (λ rowset. made_at (number_at w64) (stores.Delta rowset)) (λ t. number_fields w64 (second_of t)) Pair first_of (λ rowset t f. sym (ap first_of f.1)) any64
    (λ rowset f. made_part (number_at w64) (number_fields w64) Number (stores.Delta rowset) second_of (λ n g. refl) any64))
  where
    to : (t : Target) → Number (first_of t) × Pair (first_of t) t → IsIn IsDelta t
    to (stores.Mem number) f = let bad : stores.Delta number 0 ≡ stores.Mem number = f.1.1 in absurd cc
    to (stores.Delta rowset dms) f = ((f.0.1, f.1.0.1), refl)

    from : (t : Target) → IsIn IsDelta t → Number (first_of t) × Pair (first_of t) t
    from (stores.Mem number) f = let bad : IsMem ≡ IsDelta = f.1 in absurd cc
    from (stores.Delta rowset dms) f = ((refl, f.0.0), ((refl, f.0.1), refl))

    fields : (t : Target) → Number (first_of t) × Pair (first_of t) t → number_list t ≡ to_le_bytes w64 (first_of t) ∷ to_le_bytes w64 (second_of t) ∷ []
    fields (stores.Mem number) f = let bad : stores.Delta number 0 ≡ stores.Mem number = f.1.1 in absurd cc
    fields (stores.Delta rowset dms) f = refl

abbrev stored_at : List ℕ → Result (Target × List ℕ) ℕ
stored_at bytes = byte_at_front store_meaning bytes >>= λ s. numbers_at s.0 s.1

target_is : (bytes : List ℕ) → target_at bytes ≡ stored_at bytes
unfolding target_at
target_is [] = refl
target_is (zero ∷ rest) = refl
target_is (suc zero ∷ rest) = refl
target_is (suc (suc zero) ∷ rest) = refl
target_is (suc (suc (suc b)) ∷ rest) = refl

target_part : Part target_at target_fields TargetFits
target_part =
    same_reader stored_at target_at target_fields TargetFits target_is
    (same_part stored_at (λ t. code_fields store_code (store_of t) ++ number_list t) target_fields (λ t. Unit {0} × IsIn (store_of t) t) TargetFits (λ t f. f.1.0) (λ t f. (tt, (f, refl))) fields
    (both_part (byte_at_front store_meaning) (code_fields store_code) (λ s. Unit {0}) numbers_at number_list IsIn store_of (λ s t f. f.1) store_part (λ s f. numbers_part s)))
  where
    fields : (t : Target) → Unit {0} × IsIn (store_of t) t → target_fields t ≡ code_fields store_code (store_of t) ++ number_list t
    fields (stores.Mem number) f = refl
    fields (stores.Delta rowset dms) f = refl

-- ---- outcomes

abbrev outcome_meaning : ℕ → Option Outcome
outcome_meaning zero = Some Done
outcome_meaning (suc zero) = Some Present
outcome_meaning (suc (suc zero)) = Some Absent
outcome_meaning (suc (suc (suc zero))) = Some Ignored
outcome_meaning (suc (suc (suc (suc b)))) = None

outcome_is : (bytes : List ℕ) → outcome_at bytes ≡ byte_at_front outcome_meaning bytes
unfolding outcome_at
outcome_is [] = refl
outcome_is (zero ∷ rest) = refl
outcome_is (suc zero ∷ rest) = refl
outcome_is (suc (suc zero) ∷ rest) = refl
outcome_is (suc (suc (suc zero)) ∷ rest) = refl
outcome_is (suc (suc (suc (suc b))) ∷ rest) = refl

outcome_code : (b : ℕ) (u v : Outcome) → outcome u ≡ b → Some u ≡ Some v → (outcome v ≡ b) × Unit {0}
outcome_code b u v code e = let same : u ≡ v = cc in (ap outcome (sym same) ∙ code, tt)

outcome_part : Part outcome_at (code_fields outcome) (λ o. Unit {0})
outcome_part = same_reader (byte_at_front outcome_meaning) outcome_at (code_fields outcome) (λ o. Unit {0}) outcome_is (code_part outcome_meaning outcome (λ o. Unit {0}) back there Done tt (omega arith))
  where
    back : (b : ℕ) (v : Outcome) → outcome_meaning b ≡ Some v → (outcome v ≡ b) × Unit {0}
    back zero v e = outcome_code 0 Done v refl e
    back (suc zero) v e = outcome_code 1 Present v refl e
    back (suc (suc zero)) v e = outcome_code 2 Absent v refl e
    back (suc (suc (suc zero))) v e = outcome_code 3 Ignored v refl e
    back (suc (suc (suc (suc b)))) v e = absurd cc

    there : (v : Outcome) → Unit {0} → outcome_meaning (outcome v) ≡ Some v
    there Done f = refl
    there Present f = refl
    there Absent f = refl
    there Ignored f = refl

-- ---- the stores of a row

abbrev target_count : Outcome → ℕ → Option ℕ
target_count o n = cond (may_change o n) (Some n) None

abbrev MayChange : Outcome → ℕ → Type 0
MayChange o n = may_change o n ≡ true

some_count : (o : Outcome) → (n : ℕ) × (may_change o n ≡ true) × (n < 256)
some_count Done = (1, refl, omega arith)
some_count Present = (0, refl, omega arith)
some_count Absent = (0, refl, omega arith)
some_count Ignored = (0, refl, omega arith)

count_part : (o : Outcome) → Part (byte_at_front (target_count o)) (code_fields (λ n. n)) (MayChange o)
count_part o = let s = some_count o in code_part (target_count o) (λ n. n) (MayChange o) (λ b v e. passed (may_change o b) b v refl e) (λ v f. ap (λ (x : Bool). cond x (Some v) None) f) s.0 s.1 s.2
  where
    tell : (b v : ℕ) → Some b ≡ Some v → b ≡ v
    tell b v e = cc

    passed : (x : Bool) (b v : ℕ) → may_change o b ≡ x → cond x (Some b) None ≡ Some v → (v ≡ b) × MayChange o v
    passed true b v is e = let same : b ≡ v = tell b v e in (sym same, subst (MayChange o) same is)
    passed false b v is e = absurd cc

-- so many stores
abbrev Targets : ℕ → List Target → Type 0
Targets n targets = (length targets ≡ n) × EachAfter (λ front t. TargetFits t) [] targets

targets_part : (n : ℕ) → Part (many_at (λ front. target_at) n []) (flat_map target_fields) (Targets n)
targets_part n = many_part (λ front. target_at) target_fields (λ front t. TargetFits t) (λ k front. Unit {0}) (λ k front f. target_part) (λ k front t f g. tt) n tt

abbrev listed_at : Outcome → List ℕ → Result (List Target × List ℕ) ℕ
listed_at o bytes = byte_at_front (target_count o) bytes >>= λ n. many_at (λ front. target_at) n.0 [] n.1

listed_is : (o : Outcome) (bytes : List ℕ) → target_list_at o bytes ≡ listed_at o bytes
unfolding target_list_at
listed_is o [] = refl
listed_is o (n ∷ rest) = which (may_change o n)
  where
    which : (b : Bool) → cond b (many_at (λ front. target_at) n [] rest) (Err (suc (length rest))) ≡ (Rattle.kt_bytes.proofs.Leaves.chosen rest (cond b (Some n) None) >>= λ m. many_at (λ front. target_at) m.0 [] m.1)
    which true = refl
    which false = refl

abbrev ListFits : Outcome → List Target → Type 0
ListFits o targets = MayChange o (length targets) × Targets (length targets) targets

target_list_part : (o : Outcome) → Part (target_list_at o) (λ targets. (length targets ∷ []) ∷ flat_map target_fields targets) (ListFits o)
target_list_part o =
    same_reader (listed_at o) (target_list_at o) (λ targets. (length targets ∷ []) ∷ flat_map target_fields targets) (ListFits o) (listed_is o)
    (both_part (byte_at_front (target_count o)) (code_fields (λ n. n)) (MayChange o) (λ n. many_at (λ front. target_at) n []) (flat_map target_fields) Targets (λ targets. length targets) (λ n targets f. f.0) (count_part o) (λ n f. targets_part n))

-- ---- rows

abbrev row_of : Outcome → List Target → CommitRow
row_of o targets = record { outcome = o; targets = targets }

abbrev OfOutcome : Outcome → CommitRow → Type 0
OfOutcome o row = ListFits o row.targets × (row_of o row.targets ≡ row)

row_part : Part commit_row_at row_fields RowFits
unfolding commit_row_at
row_part =
    same_part commit_row_at row_fields row_fields (λ row. Unit {0} × OfOutcome row.outcome row) RowFits
    (λ row f. record { count = f.1.0.0; targets = f.1.0.1.1 }) (λ row f. (tt, ((f.count, (refl, f.targets)), refl))) (λ row f. refl)
    (both_part outcome_at (code_fields outcome) (λ o. Unit {0}) (λ o. made_at (target_list_at o) (row_of o)) (λ row. (length row.targets ∷ []) ∷ flat_map target_fields row.targets) OfOutcome (λ row. row.outcome)
    (λ o row f. sym (ap (λ (r : CommitRow). r.outcome) f.1)) outcome_part
    (λ o f. made_part (target_list_at o) (λ targets. (length targets ∷ []) ∷ flat_map target_fields targets) (ListFits o) (row_of o) (λ row. row.targets) (λ targets g. refl) (target_list_part o)))

-- so many rows
abbrev pub Rows : ℕ → List CommitRow → Type 0
Rows n rows = (length rows ≡ n) × EachAfter (λ front row. RowFits row) [] rows

pub rows_part : (n : ℕ) → Part (many_at (λ front. commit_row_at) n []) (flat_map row_fields) (Rows n)
rows_part n = many_part (λ front. commit_row_at) row_fields (λ front row. RowFits row) (λ k front. Unit {0}) (λ k front f. row_part) (λ k front row f g. tt) n tt

-- the count of the stores fits a byte
pub few_targets : (o : Outcome) (n : ℕ) → may_change o n ≡ true → n < 2 ^ 8
few_targets Done n h = grind arith
few_targets Present n h = grind arith
few_targets Absent n h = grind arith
few_targets Ignored n h = grind arith
