-- The numbers that records name.
use Rattle.std.proofs.Common.{◌≡◌, ℕ, List, [], ◌∷◌, inl, inr, arith}
use Rattle.std.specs.List.{All, Contains, flat_map}
use Rattle.std.proofs.lemmas.List.Elements.{All-head, All-tail, Contains-append_cases, Contains-push_cases}
use Rattle.kt_history.specs.declared.target.Target.{Target}
use Rattle.kt_history.specs.declared.target.Target.TheVariants.{Mem, Delta}
use Rattle.kt_records.specs.declared.entry.CommitRow.{CommitRow}
use Rattle.kt_records.specs.declared.entry.Entry.{Entry}
use Rattle.kt_records.specs.declared.entry.Entry.TheVariants.{Replicate, Commit}
use Rattle.kt_records.specs.Numbers.{numbers_in, all_numbers}

abbrev of_row : CommitRow → List ℕ
of_row row = numbers_in row.targets

not_in_none : (n : ℕ) → Contains [] n → ⊥
not_in_none n has = omega (arith, has.1)

-- COMMITs whose rows name one MemRowSet alone name its number alone
module _ (number : ℕ) where
  targets_name : (targets : List Target) → All (λ named. named ≡ Mem number) targets → (n : ℕ) → Contains (numbers_in targets) n → n ≡ number
  targets_name [] only n has = absurd (not_in_none n has)
  targets_name (Mem m ∷ targets) only n has = elim (Contains-append_cases (m ∷ []) (numbers_in targets) n has) [
    | inl here ↦ elim (Contains-push_cases [] m n here) [
      | inl none ↦ absurd (not_in_none n none)
      | inr is ↦ let own : Mem m ≡ Mem number = All-head (λ named. named ≡ Mem number) (Mem m) targets only in cc
    ]
    | inr there ↦ targets_name targets (All-tail (λ named. named ≡ Mem number) (Mem m) targets only) n there
  ]
  targets_name (Delta rowset dms ∷ targets) only n has = let own : Delta rowset dms ≡ Mem number = All-head (λ named. named ≡ Mem number) (Delta rowset dms) targets only in absurd cc

  rows_name : (rows : List CommitRow) → All (λ (row : CommitRow). All (λ named. named ≡ Mem number) row.targets) rows → (n : ℕ) → Contains (flat_map of_row rows) n → n ≡ number
  rows_name [] only n has = absurd (not_in_none n has)
  rows_name (row ∷ rows) only n has = elim (Contains-append_cases (numbers_in row.targets) (flat_map of_row rows) n has) [
    | inl here ↦ targets_name row.targets (All-head (λ (r : CommitRow). All (λ named. named ≡ Mem number) r.targets) row rows only) n here
    | inr there ↦ rows_name rows (All-tail (λ (r : CommitRow). All (λ named. named ≡ Mem number) r.targets) row rows only) n there
  ]

  pub records_name : (P : Entry → Type 0) → ((ts : ℕ) (rows : List CommitRow) → P (Commit ts rows) → All (λ (row : CommitRow). All (λ named. named ≡ Mem number) row.targets) rows)
      → (records : List Entry) → All P records → (n : ℕ) → Contains (all_numbers records) n → n ≡ number
  records_name P tells [] only n has = absurd (not_in_none n has)
  records_name P tells (Replicate ts ops ∷ records) only n has = records_name P tells records (All-tail P (Replicate ts ops) records only) n has
  records_name P tells (Commit ts rows ∷ records) only n has = elim (Contains-append_cases (flat_map of_row rows) (all_numbers records) n has) [
    | inl here ↦ rows_name rows (tells ts rows (All-head P (Commit ts rows) records only)) n here
    | inr there ↦ records_name P tells records (All-tail P (Commit ts rows) records only) n there
  ]
