-- The numbers that an engine gives stay near those that opening found.
use Rattle.std.proofs.Common.{◌≡◌, ◌≤◌, ◌<◌, ◌+◌, ◌^◌, inl, inr, ℕ, zero, suc, List, [], ◌∷◌, ◌++◌, drop, map, refl, sym, subst, arith, Bool, true, false, cond}
use Rattle.std.specs.List.{All, Contains}
use Rattle.kt_history.specs.declared.target.Target.{Target}
use Rattle.kt_history.specs.declared.target.Target.TheVariants.{Mem, Delta}
use Rattle.kt_history.specs.declared.operation.RowOp.{RowOp}
use Rattle.kt_records.specs.declared.entry.Entry.{Entry}
use Rattle.kt_records.specs.declared.entry.Entry.TheVariants.{Replicate, Commit}
use Rattle.kt_records.specs.declared.entry.CommitRow.{CommitRow}
use Rattle.kt_rowfiles.specs.Files.{DiskRowset}
use Rattle.kt_content.specs.RunEvents.{RowsetsBelow}
use Rattle.kt_content.specs.Flushes.{before}
use Rattle.kt_stores.specs.Takes.{Takes, takes, of_left, over_to}
use Rattle.kt_engine.specs.Logged.{NamesOnly}
use Rattle.kt_engine.specs.Near.{first_number, IsKnown, NamesEach, AreNear, most_rowsets, most_deltas, IsUpTo, IsBelow}
use Rattle.kt_engine.specs.Over.{first_name}
use Rattle.kt_engine.proofs.Lists.{all_none, all_head, all_tail, all_cons, all_more, all_each}

-- what holds of each holds of an element
contained : {A : Type 0} (P : A → Type 0) (xs : List A) (x : A) → All P xs → Contains xs x → P x
contained P xs x each is = subst P is.2 (each is.0 x is.1)

each_known : (P Q : Target → Type 0) → ((t : Target) → P t → Q t) → (e : Entry) → NamesEach P e → NamesEach Q e
each_known P Q f (Replicate ts ops) h = tt
each_known P Q f (Commit ts rows) h = all_each (λ (row : CommitRow). All P row.targets) (λ (row : CommitRow). All Q row.targets) rows (λ row own. all_each P Q row.targets f own) h

only_known : (names : List Target) (Q : Target → Type 0) → ((t : Target) → Contains names t → Q t) → (e : Entry) → NamesOnly names e → NamesEach Q e
only_known names Q f (Replicate ts ops) h = tt
only_known names Q f (Commit ts rows) h = all_each (λ (row : CommitRow). All (Contains names) row.targets) (λ (row : CommitRow). All Q row.targets) rows (λ row own. all_each (Contains names) Q row.targets f own) h

known_rises : (found : List Target) (low high dms next more : ℕ) → low ≤ high → next ≤ more → (t : Target) → IsKnown found low dms next t → IsKnown found high dms more t
known_rises found low high dms next more up rise t (inl there) = inl there
known_rises found low high dms next more up rise (Mem n) (inr given) = inr (omega arith)
known_rises found low high dms next more up rise (Delta r n) (inr given) = inr ((let lt = given.0 in omega arith), given.1)

-- ---- events

-- rowset numbers are given
pub near_rises : (found names : List Target) (first next more begun : ℕ) (run : List Entry) → next ≤ more → more ≤ first + most_rowsets → AreNear found names first next begun run → AreNear found names first more begun run
near_rises found names first next more begun run rise few is =
    let P = IsKnown found (first_number names) (most_deltas first) next in
    let Q = IsKnown found (first_number names) (most_deltas first) more in
    let f = known_rises found (first_number names) (first_number names) (most_deltas first) next more (omega arith) rise in
    record {
      names_known = all_each P Q names f is.names_known;
      run_known = all_each (NamesEach P) (NamesEach Q) run (each_known P Q f) is.run_known;
      mems = is.mems;
      jobs = is.jobs;
      rowsets = few;
    }

-- a write begins, and ends
pub near_replicate : (found names : List Target) (first next begun : ℕ) (run : List Entry) (ts : ℕ) (ops : List RowOp) → AreNear found names first next begun run → AreNear found names first next begun (run ++ Replicate ts ops ∷ [])
near_replicate found names first next begun run ts ops is = record {
  names_known = is.names_known;
  run_known = all_more (NamesEach (IsKnown found (first_number names) (most_deltas first) next)) run (Replicate ts ops) is.run_known tt;
  mems = is.mems;
  jobs = is.jobs;
  rowsets = is.rowsets;
}

pub near_commit : (found names : List Target) (first next begun : ℕ) (run : List Entry) (ts : ℕ) (rows : List CommitRow) → NamesOnly names (Commit ts rows) → AreNear found names first next begun run → AreNear found names first next begun (run ++ Commit ts rows ∷ [])
near_commit found names first next begun run ts rows only is =
    let P = IsKnown found (first_number names) (most_deltas first) next in
    record {
      names_known = is.names_known;
      run_known = all_more (NamesEach P) run (Commit ts rows) is.run_known (only_known names P (λ t there. contained P names t is.names_known there) (Commit ts rows) only);
      mems = is.mems;
      jobs = is.jobs;
      rowsets = is.rowsets;
    }

-- a job freezes a MemRowSet
pub near_frozen : (found names : List Target) (first next begun number : ℕ) (run : List Entry) → first_number names ≡ number → begun < 2 ^ 24 → AreNear found names first next begun run → AreNear found (Mem (number + 1) ∷ names) first next (suc begun) run
near_frozen found names first next begun number run e few is =
    let P = IsKnown found (first_number names) (most_deltas first) next in
    let Q = IsKnown found (number + 1) (most_deltas first) next in
    let f = known_rises found (first_number names) (number + 1) (most_deltas first) next next (omega (arith, e)) (omega arith) in
    record {
      names_known = all_cons Q (Mem (number + 1)) names (inr (omega arith)) (all_each P Q names f is.names_known);
      run_known = all_each (NamesEach P) (NamesEach Q) run (each_known P Q f) is.run_known;
      mems = (let up = is.mems in omega (arith, e));
      jobs = omega arith;
      rowsets = is.rowsets;
    }

-- a job begins, and freezes none
pub near_begun : (found names : List Target) (first next begun : ℕ) (run : List Entry) → begun < 2 ^ 24 → AreNear found names first next begun run → AreNear found names first next (suc begun) run
near_begun found names first next begun run few is = record {
  names_known = is.names_known;
  run_known = is.run_known;
  mems = (let up = is.mems in omega arith);
  jobs = omega arith;
  rowsets = is.rowsets;
}

behind : (P : Target → Type 0) (n : ℕ) (names : List Target) → All P names → All P (drop n names)
behind P zero names each = each
behind P (suc n) [] each = each
behind P (suc n) (t ∷ names) each = behind P n names (all_tail P t names each)

-- the outputs' names are known
outputs_known : (found : List Target) (mem dms next last : ℕ) (outputs : List DiskRowset) → 1 ≤ dms → RowsetsBelow (before next last) outputs → All (IsKnown found mem dms next) (map first_name outputs)
outputs_known found mem dms next last [] one own = all_none (IsKnown found mem dms next)
outputs_known found mem dms next last (d ∷ outputs) one own = all_cons (IsKnown found mem dms next) (first_name d) (map first_name outputs) (inr (own.0, one)) (outputs_known found mem dms next last outputs one own.1)

-- what holds of each name holds of those that are left, and of others behind them
pub left_each : (P : Target → Type 0) (t : Takes) (names come : List Target) → All P names → All P come → All P (of_left t names names ++ come)
left_each P t [] come each own = own
left_each P t (n ∷ names) come each own = by (takes t n) (left_each P t names come (all_tail P n names each) own)
  where
    by : (b : Bool) → All P (of_left t names names ++ come) → All P (cond b (of_left t names names) (n ∷ of_left t names names) ++ come)
    by true rest = rest
    by false rest = all_cons P n (of_left t names names ++ come) (all_head P n names each) rest

pub over_each : (P : Target → Type 0) (t : Takes) (names come : List Target) → All P names → All P come → All P (over_to t come names names)
over_each P t [] come each own = each
over_each P t (n ∷ names) come each own = all_cons P n (of_left t names names ++ come) (all_head P n names each) (left_each P t names come (all_tail P n names each) own)

-- a job is over: its outputs stand behind what it has left
pub near_over : (found names : List Target) (first next begun last : ℕ) (t : Takes) (outputs : List DiskRowset) (run : List Entry) → first_number (over_to t (map first_name outputs) names names) ≡ first_number names → RowsetsBelow (before next last) outputs
    → AreNear found names first next begun run → AreNear found (over_to t (map first_name outputs) names names) first next begun run
near_over found names first next begun last t outputs run e own is =
    let over = over_to t (map first_name outputs) names names in
    let P = IsKnown found (first_number names) (most_deltas first) next in
    record {
      names_known = subst (λ (m : ℕ). All (IsKnown found m (most_deltas first) next) over) (sym e) (over_each P t names (map first_name outputs) is.names_known (outputs_known found (first_number names) (most_deltas first) next last outputs (omega arith) own));
      run_known = subst (λ (m : ℕ). All (NamesEach (IsKnown found m (most_deltas first) next)) run) (sym e) is.run_known;
      mems = subst (λ (m : ℕ). m ≤ first_number found + begun) (sym e) is.mems;
      jobs = is.jobs;
      rowsets = is.rowsets;
    }

-- opening has found all of them
pub near_opened : (names : List Target) (next : ℕ) (queued : List Entry) → All (NamesOnly names) queued → AreNear names names next next 0 queued
near_opened names next queued only =
    let P = IsKnown names (first_number names) (most_deltas next) next in
    record {
      names_known = λ k d lt. inl (own k d lt);
      run_known = all_each (NamesOnly names) (NamesEach P) queued (only_known names P (λ t there. inl there)) only;
      mems = omega arith;
      jobs = omega arith;
      rowsets = omega arith;
    }
  where
    all_own : (ts : List Target) → All (Contains ts) ts
    all_own [] = all_none (Contains [])
    all_own (t ∷ ts) = all_cons (Contains (t ∷ ts)) t ts (0, omega arith, refl) (all_each (Contains ts) (Contains (t ∷ ts)) ts (λ x there. (suc there.0, (let lt = there.1 in omega arith), there.2)) (all_own ts))

    own : All (Contains names) names
    own = all_own names

-- ---- what they are near to

first_up : (bound : ℕ) (found : List Target) → All (IsUpTo bound) found → first_number found ≤ bound
first_up bound [] up = omega arith
first_up bound (Mem n ∷ found) up = all_head (IsUpTo bound) (Mem n) found up
first_up bound (Delta r n ∷ found) up = omega arith

found_below : (bound : ℕ) (t : Target) → IsUpTo (bound + 1) t → IsBelow (bound + 2 ^ 45) t
found_below bound (Mem n) up = omega arith
found_below bound (Delta r n) up = ((let a = up.0 in omega arith), (let b = up.1 in omega arith))

known_below : (found : List Target) (bound mem dms next : ℕ) → mem ≤ bound + 1 + 2 ^ 24 → dms ≤ bound + 1 + 2 ^ 44 → next ≤ bound + 1 + most_rowsets → All (IsUpTo (bound + 1)) found → (t : Target) → IsKnown found mem dms next t → IsBelow (bound + 2 ^ 45) t
known_below found bound mem dms next mems deltas rowsets up t (inl there) = found_below bound t (contained (IsUpTo (bound + 1)) found t up there)
known_below found bound mem dms next mems deltas rowsets up (Mem n) (inr given) = omega arith
known_below found bound mem dms next mems deltas rowsets up (Delta r n) (inr given) = ((let lt = given.0 in omega arith), (let le = given.1 in omega arith))

pub near_below : (found names : List Target) (first next begun : ℕ) (run : List Entry) (bound : ℕ) → AreNear found names first next begun run → 1 ≤ bound → first ≤ bound + 1 → All (IsUpTo (bound + 1)) found → All (NamesEach (IsBelow (bound + 2 ^ 45))) run
near_below found names first next begun run bound is one low up =
    let P = IsKnown found (first_number names) (most_deltas first) next in
    let f = known_below found bound (first_number names) (most_deltas first) next (let a = is.mems in let b = is.jobs in let c = first_up (bound + 1) found up in omega arith) (omega arith) (let r = is.rowsets in omega arith) up in
    all_each (NamesEach P) (NamesEach (IsBelow (bound + 2 ^ 45))) run (each_known P (IsBelow (bound + 2 ^ 45)) f) is.run_known
