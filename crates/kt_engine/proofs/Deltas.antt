-- Records name no DeltaMemStore that came since.
use Rattle.std.proofs.Common.{◌≡◌, ℕ, suc, zero, ◌<◌, ◌≤◌, Bool, true, false, cond, List, [], ◌∷◌, ◌++◌, length, map, refl, sym, ◌∙◌, subst, inl, inr, arith, get_or, append_assoc}
use Rattle.std.specs.Prelude.{◌==◌}
use Rattle.std.specs.List.{All, Contains}
use Rattle.std.proofs.lemmas.Bool.{ne_eqb, eq-eqb}
use Rattle.kt_history.specs.declared.operation.RowOp.{RowOp}
use Rattle.kt_history.specs.declared.target.Target.{Target}
use Rattle.kt_history.specs.declared.target.Target.TheVariants.{Mem, Delta}
use Rattle.kt_records.specs.declared.entry.CommitRow.{CommitRow}
use Rattle.kt_records.specs.declared.entry.Entry.{Entry}
use Rattle.kt_records.specs.declared.entry.Entry.TheVariants.{Replicate, Commit}
use Rattle.kt_rowfiles.specs.Files.{DiskRowset}
use Rattle.kt_content.specs.DeltaFlushes.{IsUpTo, TargetsUpTo, RowsUpTo, DeltasUpTo}
use Rattle.kt_content.specs.Flushes.{AreFrom, before}
use Rattle.kt_content.specs.InMemory.{rowset, same_name}
use Rattle.kt_content.specs.RunEvents.{TargetsBelow, RowsBelow, RecordsBelow}
use Rattle.kt_stores.specs.Takes.{Takes, takes, of_left}
use Rattle.kt_engine.specs.Logged.{DeltasBelow, NamesOnly}
use Rattle.kt_engine.specs.Memory.{name_of, LacksName, NamesDiffer}
use Rattle.kt_engine.specs.Over.{first_name}
use Rattle.kt_engine.proofs.Commits.{of_each}
use Rattle.kt_engine.proofs.Lists.{all_none, all_head, all_tail, all_cons, all_each}

-- ---- records more

up_to_join : (r last : ℕ) (xs ys : List Entry) → DeltasUpTo r last xs → DeltasUpTo r last ys → DeltasUpTo r last (xs ++ ys)
up_to_join r last [] ys p q = q
up_to_join r last (Replicate ts ops ∷ xs) ys p q = up_to_join r last xs ys p q
up_to_join r last (Commit ts rows ∷ xs) ys p q = (p.0, up_to_join r last xs ys p.1 q)

pub deltas_join : (names : List Target) (xs ys : List Entry) → DeltasBelow names xs → DeltasBelow names ys → DeltasBelow names (xs ++ ys)
deltas_join [] xs ys p q = tt
deltas_join (Mem n ∷ names) xs ys p q = deltas_join names xs ys p q
deltas_join (Delta r n ∷ names) xs ys p q = (up_to_join r n xs ys p.0 q.0, deltas_join names xs ys p.1 q.1)

deltas_replicate : (names : List Target) (ts : ℕ) (ops : List RowOp) → DeltasBelow names (Replicate ts ops ∷ [])
deltas_replicate [] ts ops = tt
deltas_replicate (Mem n ∷ names) ts ops = deltas_replicate names ts ops
deltas_replicate (Delta r n ∷ names) ts ops = (tt, deltas_replicate names ts ops)

-- a write begins
pub deltas_begun : (names : List Target) (records run : List Entry) (ts : ℕ) (ops : List RowOp) → DeltasBelow names (records ++ run) → DeltasBelow names (records ++ (run ++ Replicate ts ops ∷ []))
deltas_begun names records run ts ops p = subst (DeltasBelow names) (append_assoc records run (Replicate ts ops ∷ [])) (deltas_join names (records ++ run) (Replicate ts ops ∷ []) p (deltas_replicate names ts ops))

-- ---- a COMMIT that names these stores, no two of one rowset

other_way : (r s : ℕ) → (r == s) ≡ false → (s == r) ≡ false
other_way r s e = ne_eqb s r (λ same. let f : true ≡ false = sym (eq-eqb r s (sym same)) ∙ e in cc)

its_own : (r n : ℕ) → IsUpTo r n (Delta r n)
its_own r n = inr (eq-eqb r r refl, omega arith)

lacks_up : (r n : ℕ) (names : List Target) → LacksName (rowset r) names → All (IsUpTo r n) names
lacks_up r n [] l = all_none (IsUpTo r n)
lacks_up r n (Mem m ∷ names) l = all_cons (IsUpTo r n) (Mem m) names tt (lacks_up r n names l.1)
lacks_up r n (Delta s m ∷ names) l = all_cons (IsUpTo r n) (Delta s m) names (inl l.0) (lacks_up r n names l.1)

-- a name in front of one of a rowset is of none or of another
front_up : (r n : ℕ) (t : Target) (names : List Target) (k : ℕ) → k < length names → get_or names k (Delta r n) ≡ Delta r n → LacksName (name_of t) names → IsUpTo r n t
front_up r n (Mem m) names k lt e l = tt
front_up r n (Delta s m) [] k lt e l = absurd (omega arith)
front_up r n (Delta s m) (x ∷ names) zero lt e l = let is : x ≡ Delta r n = e in inl (other_way r s (subst (λ (t : Target). same_name (name_of t) (rowset s) ≡ false) is l.0))
front_up r n (Delta s m) (x ∷ names) (suc k) lt e l = front_up r n (Delta s m) names k (omega arith) e l.1

each_up : (r n : ℕ) (names : List Target) (k : ℕ) → k < length names → get_or names k (Delta r n) ≡ Delta r n → NamesDiffer names → All (IsUpTo r n) names
each_up r n [] k lt e d = absurd (omega arith)
each_up r n (x ∷ names) zero lt e d =
    let is : x ≡ Delta r n = e in
    all_cons (IsUpTo r n) x names (subst (IsUpTo r n) (sym is) (its_own r n)) (lacks_up r n names (subst (λ (t : Target). LacksName (name_of t) names) is d.0))
each_up r n (x ∷ names) (suc k) lt e d = all_cons (IsUpTo r n) x names (front_up r n x names k (omega arith) e d.0) (each_up r n names k (omega arith) e d.1)

module _ (names : List Target) (differ : NamesDiffer names) (rows : List CommitRow) where
  targets_up : (r n : ℕ) → All (IsUpTo r n) names → (targets : List Target) → All (Contains names) targets → TargetsUpTo r n targets
  targets_up r n up [] h = tt
  targets_up r n up (t ∷ targets) h = (of_each (IsUpTo r n) names t up (all_head (Contains names) t targets h), targets_up r n up targets (all_tail (Contains names) t targets h))

  rows_up : (r n : ℕ) → All (IsUpTo r n) names → (rows : List CommitRow) → All (λ (row : CommitRow). All (Contains names) row.targets) rows → RowsUpTo r n rows
  rows_up r n up [] h = tt
  rows_up r n up (row ∷ rows) h =
      (targets_up r n up row.targets (all_head (λ (x : CommitRow). All (Contains names) x.targets) row rows h), rows_up r n up rows (all_tail (λ (x : CommitRow). All (Contains names) x.targets) row rows h))

  deltas_commit : (ts : ℕ) (ns : List Target) → All (Contains names) ns → All (λ (row : CommitRow). All (Contains names) row.targets) rows → DeltasBelow ns (Commit ts rows ∷ [])
  deltas_commit ts [] own h = tt
  deltas_commit ts (Mem n ∷ ns) own h = deltas_commit ts ns (all_tail (Contains names) (Mem n) ns own) h
  deltas_commit ts (Delta r n ∷ ns) own h =
      let at = all_head (Contains names) (Delta r n) ns own in
      ((rows_up r n (each_up r n names at.0 at.1 at.2 differ) rows h, tt), deltas_commit ts ns (all_tail (Contains names) (Delta r n) ns own) h)

all_own : (ts : List Target) → All (Contains ts) ts
all_own [] = all_none (Contains [])
all_own (t ∷ ts) = all_cons (Contains (t ∷ ts)) t ts (0, omega arith, refl) (all_each (Contains ts) (Contains (t ∷ ts)) ts (λ x there. (suc there.0, (let lt = there.1 in omega arith), there.2)) (all_own ts))

-- records that name these stores alone
pub deltas_only : (names : List Target) → NamesDiffer names → (xs : List Entry) → All (NamesOnly names) xs → DeltasBelow names xs
deltas_only names differ [] only = none_below names
  where
    none_below : (ns : List Target) → DeltasBelow ns []
    none_below [] = tt
    none_below (Mem n ∷ ns) = none_below ns
    none_below (Delta r n ∷ ns) = (tt, none_below ns)
deltas_only names differ (Replicate ts ops ∷ xs) only = deltas_join names (Replicate ts ops ∷ []) xs (deltas_replicate names ts ops) (deltas_only names differ xs (all_tail (NamesOnly names) (Replicate ts ops) xs only))
deltas_only names differ (Commit ts rows ∷ xs) only =
    deltas_join names (Commit ts rows ∷ []) xs (deltas_commit names differ rows ts names (all_own names) (all_head (NamesOnly names) (Commit ts rows) xs only)) (deltas_only names differ xs (all_tail (NamesOnly names) (Commit ts rows) xs only))

-- a write ends
pub deltas_ended : (names : List Target) (records run : List Entry) (ts : ℕ) (rows : List CommitRow) → NamesDiffer names → NamesOnly names (Commit ts rows) → DeltasBelow names (records ++ run) → DeltasBelow names (records ++ (run ++ Commit ts rows ∷ []))
deltas_ended names records run ts rows differ only p =
    subst (DeltasBelow names) (append_assoc records run (Commit ts rows ∷ [])) (deltas_join names (records ++ run) (Commit ts rows ∷ []) p (deltas_commit names differ rows ts names (all_own names) only))

-- ---- the outputs of a flush come, of which no record tells yet

module _ (next last r n : ℕ) (le : next ≤ r) where
  targets_none : (targets : List Target) → TargetsBelow (before next last) targets → TargetsUpTo r n targets
  targets_none [] b = tt
  targets_none (Mem m ∷ targets) b = (tt, targets_none targets b.1)
  targets_none (Delta s m ∷ targets) b = (inl (ne_eqb s r (λ e. let lt = b.0 in omega arith)), targets_none targets b.1)

  rows_none : (rows : List CommitRow) → RowsBelow (before next last) rows → RowsUpTo r n rows
  rows_none [] b = tt
  rows_none (row ∷ rows) b = (targets_none row.targets b.0, rows_none rows b.1)

  records_none : (records : List Entry) → RecordsBelow (before next last) records → DeltasUpTo r n records
  records_none [] b = tt
  records_none (Replicate ts ops ∷ records) b = records_none records b
  records_none (Commit ts rows ∷ records) b = (rows_none rows b.0, records_none records b.1)

deltas_behind : (xs ys : List Target) (records : List Entry) → DeltasBelow (xs ++ ys) records → DeltasBelow ys records
deltas_behind [] ys records p = p
deltas_behind (Mem n ∷ xs) ys records p = deltas_behind xs ys records p
deltas_behind (Delta r n ∷ xs) ys records p = deltas_behind xs ys records p.1

deltas_both : (xs ys : List Target) (records : List Entry) → DeltasBelow xs records → DeltasBelow ys records → DeltasBelow (xs ++ ys) records
deltas_both [] ys records p q = q
deltas_both (Mem n ∷ xs) ys records p q = deltas_both xs ys records p q
deltas_both (Delta r n ∷ xs) ys records p q = (p.0, deltas_both xs ys records p.1 q)

pub deltas_come : (next last : ℕ) (outputs : List DiskRowset) (records : List Entry) → AreFrom next outputs → RecordsBelow (before next last) records → DeltasBelow (map first_name outputs) records
deltas_come next last [] records from below = tt
deltas_come next last (d ∷ outputs) records from below = (records_none next last d.rowset 1 from.0 records below, deltas_come next last outputs records from.1 below)

-- they stand behind the stores that a flush leaves
pub deltas_over : (next last active : ℕ) (taken others : List Target) (outputs : List DiskRowset) (records : List Entry) → AreFrom next outputs → RecordsBelow (before next last) records → DeltasBelow (Mem active ∷ taken ++ others) records
    → DeltasBelow (Mem active ∷ others ++ map first_name outputs) records
deltas_over next last active taken others outputs records from below p = deltas_both others (map first_name outputs) records (deltas_behind taken others records p) (deltas_come next last outputs records from below)

-- and behind those that a compaction leaves
pub deltas_left : (t : Takes) (names come : List Target) (records : List Entry) → DeltasBelow names records → DeltasBelow come records → DeltasBelow (of_left t names names ++ come) records
deltas_left t [] come records p own = own
deltas_left t (Mem n ∷ names) come records p own = by (takes t (Mem n)) (deltas_left t names come records p own)
  where
    by : (b : Bool) → DeltasBelow (of_left t names names ++ come) records → DeltasBelow (cond b (of_left t names names) (Mem n ∷ of_left t names names) ++ come) records
    by true rest = rest
    by false rest = rest
deltas_left t (Delta r n ∷ names) come records p own = by (takes t (Delta r n)) (deltas_left t names come records p.1 own)
  where
    by : (b : Bool) → DeltasBelow (of_left t names names ++ come) records → DeltasBelow (cond b (of_left t names names) (Delta r n ∷ of_left t names names) ++ come) records
    by true rest = rest
    by false rest = (p.0, rest)
