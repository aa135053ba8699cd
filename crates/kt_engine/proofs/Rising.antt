-- Numbers that are below some are below greater ones.
use Rattle.std.proofs.Common.{◌≡◌, ◌≢◌, ℕ, Bool, true, false, ◌<◌, ◌≤◌, ◌-◌, ◌^◌, List, [], ◌∷◌, ◌++◌, refl, subst, append_assoc, arith, inl, inr}
use Rattle.std.specs.Prelude.{◌==◌, ◌⊎◌, ◌+◌, min, nat_lt, if◌then◌else◌}
use Rattle.std.proofs.lemmas.Bool.Decides.{nat_tests}
use Rattle.kt_history.specs.declared.target.Target.{Target}
use Rattle.kt_history.specs.declared.target.Target.TheVariants.{Mem, Delta}
use Rattle.kt_records.specs.declared.entry.Entry.{Entry}
use Rattle.kt_records.specs.declared.entry.Entry.TheVariants.{Replicate, Commit}
use Rattle.kt_records.specs.declared.entry.CommitRow.{CommitRow}
use Rattle.kt_rowfiles.specs.Files.{DiskRowset}
use Rattle.kt_content.specs.InMemory.{Name, mem_rows, rowset}
use Rattle.kt_content.specs.RunEvents.{Numbers, TargetsBelow, RowsBelow, RecordsBelow, StoresBelow, RowsetsBelow}
use Rattle.kt_engine.specs.Stored.{next_given}

-- ---- the number behind all rowsets

last_number : (n : ℕ) → (n == 2 ^ 64 - 1) ≡ true → n ≡ 2 ^ 64 - 1
last_number n h = grind (arith, nat_tests)

off_last : (n : ℕ) → (n == 2 ^ 64 - 1) ≡ false → (n < 2 ^ 64 - 1) ⊎ (2 ^ 64 ≤ n)
off_last n h = elim (nat_lt n (2 ^ 64 - 1)) as (λ b. nat_lt n (2 ^ 64 - 1) ≡ b → (n < 2 ^ 64 - 1) ⊎ (2 ^ 64 ≤ n)) [ true ↦ λ e. inl (grind (arith, nat_tests)) | false ↦ λ e. inr (grind (arith, nat_tests)) ] refl

pub given_up : (n : ℕ) → n ≤ next_given n
given_up n = elim (n == 2 ^ 64 - 1) as (λ b. (n == 2 ^ 64 - 1) ≡ b → n ≤ (if b then 2 ^ 64 else n)) [ true ↦ λ e. (let is = last_number n e in omega arith) | false ↦ λ e. omega arith ] refl

pub given_rises : (n m : ℕ) → n ≤ m → next_given n ≤ next_given m
given_rises n m le = elim (n == 2 ^ 64 - 1) as (λ b. (n == 2 ^ 64 - 1) ≡ b → (if b then 2 ^ 64 else n) ≤ next_given m) [
  | true ↦ λ e. elim (m == 2 ^ 64 - 1) as (λ b. (m == 2 ^ 64 - 1) ≡ b → 2 ^ 64 ≤ (if b then 2 ^ 64 else m)) [
    | true ↦ λ f. omega arith
    | false ↦ λ f. (let is = last_number n e in elim (off_last m f) [ inl low ↦ omega arith | inr top ↦ omega arith ])
  ] refl
  | false ↦ λ e. (let up = given_up m in omega arith)
] refl

pub given_same : (n : ℕ) → n ≢ 2 ^ 64 - 1 → next_given n ≡ n
given_same n off = elim (n == 2 ^ 64 - 1) as (λ b. (n == 2 ^ 64 - 1) ≡ b → (if b then 2 ^ 64 else n) ≡ n) [ true ↦ λ e. absurd (off (last_number n e)) | false ↦ λ e. refl ] refl

-- a number lies below it, where the one behind that, or the last of its type, is given
pub given_behind : (r n : ℕ) → r < 2 ^ 64 → min (r + 1) (2 ^ 64 - 1) ≤ n → r < next_given n
given_behind r n small h = elim (n == 2 ^ 64 - 1) as (λ b. (n == 2 ^ 64 - 1) ≡ b → r < (if b then 2 ^ 64 else n)) [
  | true ↦ λ e. omega arith
  | false ↦ λ e. elim (off_last n e) [ inl low ↦ omega arith | inr top ↦ omega arith ]
] refl

-- ---- what is below

module _ (was now : Numbers) (next : was.next ≤ now.next) (active : was.active ≤ now.active) where
  targets_rise : (targets : List Target) → TargetsBelow was targets → TargetsBelow now targets
  targets_rise [] h = tt
  targets_rise (Mem n ∷ targets) h = (let low = h.0 in omega arith, targets_rise targets h.1)
  targets_rise (Delta r n ∷ targets) h = (let low = h.0 in omega arith, targets_rise targets h.1)

  rows_rise : (rows : List CommitRow) → RowsBelow was rows → RowsBelow now rows
  rows_rise [] h = tt
  rows_rise (row ∷ rows) h = (targets_rise row.targets h.0, rows_rise rows h.1)

  records_up : (records : List Entry) → RecordsBelow was records → RecordsBelow now records
  records_up [] h = tt
  records_up (Replicate ts ops ∷ records) h = records_up records h
  records_up (Commit ts rows ∷ records) h = (rows_rise rows h.0, records_up records h.1)

  names_up : (names : List Name) → StoresBelow was names → StoresBelow now names
  names_up [] h = tt
  names_up (mem_rows n ∷ names) h = (let low = h.0 in omega arith, names_up names h.1)
  names_up (rowset r ∷ names) h = (let low = h.0 in omega arith, names_up names h.1)

pub records_rise : (was now : Numbers) (records : List Entry) → was.next ≤ now.next → was.active ≤ now.active → RecordsBelow was records → RecordsBelow now records
records_rise was now records next active h = records_up was now next active records h

pub names_rise : (was now : Numbers) (names : List Name) → was.next ≤ now.next → was.active ≤ now.active → StoresBelow was names → StoresBelow now names
names_rise was now names next active h = names_up was now next active names h

pub rowsets_rise : (was now : Numbers) (rowsets : List DiskRowset) → was.next ≤ now.next → RowsetsBelow was rowsets → RowsetsBelow now rowsets
rowsets_rise was now [] next h = tt
rowsets_rise was now (d ∷ rowsets) next h = (let low = h.0 in omega arith, rowsets_rise was now rowsets next h.1)

pub rowsets_both : (numbers : Numbers) (xs ys : List DiskRowset) → RowsetsBelow numbers xs → RowsetsBelow numbers ys → RowsetsBelow numbers (xs ++ ys)
rowsets_both numbers [] ys p q = q
rowsets_both numbers (d ∷ xs) ys p q = (p.0, rowsets_both numbers xs ys p.1 q)

-- a front, and records more
pub records_join : (numbers : Numbers) (xs ys : List Entry) → RecordsBelow numbers xs → RecordsBelow numbers ys → RecordsBelow numbers (xs ++ ys)
records_join numbers [] ys p q = q
records_join numbers (Replicate ts ops ∷ xs) ys p q = records_join numbers xs ys p q
records_join numbers (Commit ts rows ∷ xs) ys p q = (p.0, records_join numbers xs ys p.1 q)

pub below_more : (numbers : Numbers) (records run : List Entry) (e : Entry) → RecordsBelow numbers (records ++ run) → RecordsBelow numbers (e ∷ []) → RecordsBelow numbers (records ++ (run ++ e ∷ []))
below_more numbers records run e below own = subst (RecordsBelow numbers) (append_assoc records run (e ∷ [])) (records_join numbers (records ++ run) (e ∷ []) below own)

pub records_parts : (numbers : Numbers) (xs ys : List Entry) → RecordsBelow numbers (xs ++ ys) → RecordsBelow numbers xs × RecordsBelow numbers ys
records_parts numbers [] ys h = (tt, h)
records_parts numbers (Replicate ts ops ∷ xs) ys h = records_parts numbers xs ys h
records_parts numbers (Commit ts rows ∷ xs) ys h = let rest = records_parts numbers xs ys h.1 in ((h.0, rest.0), rest.1)
