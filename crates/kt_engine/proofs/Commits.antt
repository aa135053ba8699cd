-- The COMMIT of a write whose rows are all applied.
use Rattle.std.proofs.Common.{◌≡◌, ℕ, suc, ◌*◌, ◌<◌, ◌≤◌, ◌^◌, List, [], ◌∷◌, ◌++◌, length, refl, true, sym, ap, subst, arith, length-append}
use Rattle.std.specs.List.{All, Contains, flat_map}
use Rattle.std.specs.Int.{w16, w64, to_le_bytes}
use Rattle.std.proofs.lemmas.Bool.Decides.{nat_tests}
use Rattle.std.proofs.lemmas.List.Concat.{flat_map-cons}
use Rattle.kt_history.specs.declared.change.Outcome.{Outcome}
use Rattle.kt_history.specs.declared.change.Outcome.TheVariants.{Done, Present, Absent, Ignored}
use Rattle.kt_history.specs.declared.target.Target.{Target}
use Rattle.kt_history.specs.declared.target.Target.TheVariants.{Mem, Delta}
use Rattle.kt_records.specs.declared.entry.Entry.TheVariants.{Commit}
use Rattle.kt_records.specs.declared.entry.CommitRow.{CommitRow}
use Rattle.kt_records.specs.Rules.{EachAfter, TargetFits, RowFits, may_hold}
use Rattle.kt_records.specs.Spelling.{commit_row as row_bytes}
use Rattle.kt_journal.specs.Order.{IsFramed}
use Rattle.kt_tablet.specs.Rows.{commit_row, AreRecorded}
use Rattle.kt_content.specs.Places.{Super}
use Rattle.kt_engine.specs.Memory.{IsNamed}
use Rattle.kt_engine.specs.Logged.{NamesOnly}
use Rattle.kt_engine.proofs.Lists.{all_none, all_one, all_cons, all_each}

-- a name among others is as they all are
pub of_each : (P : Target → Type 0) (names : List Target) (name : Target) → All P names → Contains names name → P name
of_each P names name all has = subst P has.2 (all has.0 name has.1)

row_fits : (name : Target) → TargetFits name → (o : Outcome) → RowFits (commit_row name o)
row_fits name fits Done = record { count = refl; targets = (fits, tt) }
row_fits name fits Present = record { count = refl; targets = tt }
row_fits name fits Absent = record { count = refl; targets = tt }
row_fits name fits Ignored = record { count = refl; targets = tt }

row_length : (name : Target) (o : Outcome) → length (row_bytes (commit_row name o)) ≤ 19
row_length (Mem number) Done = omega arith
row_length (Delta rowset dms) Done =
    let both = length-append (to_le_bytes w64 rowset) (to_le_bytes w64 dms) in
    let whole = length-append (to_le_bytes w64 rowset ++ to_le_bytes w64 dms) [] in
    omega arith
row_length name Present = omega arith
row_length name Absent = omega arith
row_length name Ignored = omega arith

-- a name of a store that takes changes can be spelled
named_fits : (super : Super) (name : Target) → IsNamed super name → TargetFits name
named_fits super (Mem number) is = is.1
named_fits super (Delta rowset dms) is = (is.1, is.2)

pub all_fit : (super : Super) (names : List Target) → All (IsNamed super) names → All TargetFits names
all_fit super names each = all_each (IsNamed super) TargetFits names (named_fits super) each

module _ (names : List Target) (each : All TargetFits names) where
  rows_fit : (front : List CommitRow) (os : List Outcome) (rows : List CommitRow) → AreRecorded names os rows → EachAfter (λ before row. RowFits row) front rows
  rows_fit front [] [] are = tt
  rows_fit front [] (row ∷ rows) are = absurd are
  rows_fit front (o ∷ os) [] are = absurd are
  rows_fit front (o ∷ os) (row ∷ rows) are =
      let one = are.0 in
      (subst RowFits (sym one.2) (row_fits one.0 (of_each TargetFits names one.0 each one.1) o), rows_fit (front ++ row ∷ []) os rows are.1)

  rows_length : (os : List Outcome) (rows : List CommitRow) → AreRecorded names os rows → length (flat_map row_bytes rows) ≤ 19 * length os
  rows_length [] [] are = omega arith
  rows_length [] (row ∷ rows) are = absurd are
  rows_length (o ∷ os) [] are = absurd are
  rows_length (o ∷ os) (row ∷ rows) are =
      let one = are.0 in
      let e = ap length (flat_map-cons row_bytes row rows) in
      let a = length-append (row_bytes row) (flat_map row_bytes rows) in
      let b = subst (λ (r : CommitRow). length (row_bytes r) ≤ 19) (sym one.2) (row_length one.0 o) in
      let ih = rows_length os rows are.1 in
      omega arith

pub recorded_count : (names : List Target) (os : List Outcome) (rows : List CommitRow) → AreRecorded names os rows → length rows ≡ length os
recorded_count names [] [] are = refl
recorded_count names [] (row ∷ rows) are = absurd are
recorded_count names (o ∷ os) [] are = absurd are
recorded_count names (o ∷ os) (row ∷ rows) are = ap suc (recorded_count names os rows are.1)

pub held_few : (n : ℕ) → may_hold n ≡ true → (0 < n) × (n ≤ 64)
held_few n h = (grind (arith, nat_tests), grind (arith, nat_tests))

-- the COMMIT of at most 64 operations keeps the rules and fits a frame
pub commit_framed : (names : List Target) → All TargetFits names → (ts : ℕ) → ts < 2 ^ 64 → (os : List Outcome) (rows : List CommitRow) → AreRecorded names os rows → length os ≤ 64 → IsFramed (Commit ts rows)
commit_framed names each ts fits os rows are few = record {
  keeps = record { ts = fits; count = (let e = recorded_count names os rows are in omega arith); rows = rows_fit names each [] os rows are };
  short =
      let a = length-append (to_le_bytes w64 ts ++ to_le_bytes w16 (length rows)) (flat_map row_bytes rows) in
      let b = length-append (to_le_bytes w64 ts) (to_le_bytes w16 (length rows)) in
      let c = rows_length names each os rows are in
      omega arith;
}

-- the COMMIT of these outcomes names these stores alone
pub commit_names : (names : List Target) (ts : ℕ) (outcomes : List Outcome) (rows : List CommitRow) → AreRecorded names outcomes rows → NamesOnly names (Commit ts rows)
commit_names names ts [] [] are = all_none (λ (row : CommitRow). All (Contains names) row.targets)
commit_names names ts [] (row ∷ rows) are = absurd are
commit_names names ts (o ∷ outcomes) [] are = absurd are
commit_names names ts (o ∷ outcomes) (row ∷ rows) are =
    let one = are.0 in
    all_cons (λ (row : CommitRow). All (Contains names) row.targets) row rows (subst (λ (r : CommitRow). All (Contains names) r.targets) (sym one.2) (own one.0 one.1 o)) (commit_names names ts outcomes rows are.1)
  where
    own : (name : Target) → Contains names name → (o : Outcome) → All (Contains names) (commit_row name o).targets
    own name has Done = all_one (Contains names) name has
    own name has Present = all_none (Contains names)
    own name has Absent = all_none (Contains names)
    own name has Ignored = all_none (Contains names)
