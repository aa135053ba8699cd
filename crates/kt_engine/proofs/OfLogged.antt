-- A COMMIT comes behind its write: whose REPLICATE stands in the log before it is queued.
use Rattle.std.proofs.Common.{◌≡◌, ◌<◌, ℕ, suc, zero, Bool, true, false, cond, List, [], ◌∷◌, ◌++◌, length, Option, Some, None, refl, subst, ◌∙◌, arith, inl, inr}
use Rattle.std.specs.Prelude.{◌⊎◌, ◌==◌, IsTrue}
use Rattle.std.specs.List.{Contains, find}
use Rattle.std.proofs.lemmas.Bool.{eqb-true}
use Rattle.std.proofs.lemmas.List.Elements.{Contains-append_right}
use Rattle.kt_disk.specs.Disk.{Files}
use Rattle.kt_history.specs.declared.operation.RowOp.{RowOp}
use Rattle.kt_records.specs.declared.entry.Entry.{Entry}
use Rattle.kt_records.specs.declared.entry.Entry.TheVariants.{Replicate, Commit}
use Rattle.kt_records.specs.declared.entry.CommitRow.{CommitRow}
use Rattle.kt_journal.specs.Order.{waiting, is_count, InOrder, newest_first}
use Rattle.kt_journal.specs.Log.{records_of, IsLog}
use Rattle.kt_loglaws.specs.Appended.{AreOfLogged}
use Rattle.kt_histlaws.specs.Pending.{Aloft}
use Rattle.kt_histlaws.specs.Events.{IsOver}
use Rattle.kt_engine.specs.Logged.{AreCommits, IsDurable}
use Rattle.kt_engine.specs.Engines.{EngineView, IsEngine}
use Rattle.kt_engine.proofs.Lists.{all_found}
use Rattle.kt_engine.proofs.Records.{order_rest}
use Rattle.kt_engine.proofs.Places.{over_found}
use Rattle.kt_engine.proofs.Commits.{held_few}
use Rattle.kt_engine.proofs.Ended.{own_framed, some_applied}

none_in : {X : Type 0} (x : X) → Contains [] x → ⊥
none_in x has = let low = has.1 in absurd (omega arith)

first_in : {X : Type 0} (x : X) (xs : List X) → Contains (x ∷ xs) x
first_in x xs = (zero, omega arith, refl)

rest_in : {X : Type 0} (y : X) (xs : List X) (x : X) → Contains xs x → Contains (y ∷ xs) x
rest_in y xs x has = Contains-append_right (y ∷ []) xs x has

one_of : {X : Type 0} (y : X) (xs : List X) (x : X) → Contains (y ∷ xs) x → (y ≡ x) ⊎ Contains xs x
one_of y xs x (zero, low, is) = inl is
one_of y xs x (suc k, low, is) = inr (k, omega (arith, low), is)

-- a write that waits stands among the records
waits_there : (ts n : ℕ) (before : List Entry) → waiting ts before ≡ Some n → (ops : List RowOp) × Contains before (Replicate ts ops)
waits_there ts n [] is = absurd (cc)
waits_there ts n (Replicate t ops ∷ before) is = by (t == ts) refl is (waits_there ts n before)
  where
    by : (b : Bool) → t == ts ≡ b → cond b (Some (length ops)) (waiting ts before) ≡ Some n → (waiting ts before ≡ Some n → (os : List RowOp) × Contains before (Replicate ts os)) → (os : List RowOp) × Contains (Replicate t ops ∷ before) (Replicate ts os)
    by true same e old = (ops, subst (λ (k : ℕ). Contains (Replicate t ops ∷ before) (Replicate k ops)) (eqb-true t ts same) (first_in (Replicate t ops) before))
    by false other e old = let it = old e in (it.0, rest_in (Replicate t ops) before (Replicate ts it.0) it.1)
waits_there ts n (Commit t rows ∷ before) is = by (t == ts) is (waits_there ts n before)
  where
    by : (b : Bool) → cond b None (waiting ts before) ≡ Some n → (waiting ts before ≡ Some n → (os : List RowOp) × Contains before (Replicate ts os)) → (os : List RowOp) × Contains (Commit t rows ∷ before) (Replicate ts os)
    by true e old = absurd (cc)
    by false e old = let it = old e in (it.0, rest_in (Commit t rows) before (Replicate ts it.0) it.1)

counted : (o : Option ℕ) (n : ℕ) → is_count o n ≡ true → (k : ℕ) × (o ≡ Some k)
counted None n is = absurd (cc)
counted (Some k) n is = (k, refl)

-- COMMITs in order are of writes that stand before them, all of which the log has
in_order : (log before queued : List Entry) → ((ts : ℕ) (ops : List RowOp) → Contains before (Replicate ts ops) → Contains log (Replicate ts ops)) → InOrder before queued → AreCommits queued → AreOfLogged log queued
in_order log before [] has order commits ts rows is = absurd (none_in (Commit ts rows) is)
in_order log before (Replicate t ops ∷ queued) has order commits ts rows is = absurd commits
in_order log before (Commit t own ∷ queued) has order commits ts rows is = elim (one_of (Commit t own) queued (Commit ts rows) is) [
  | inl here ↦
      let same : t ≡ ts = cc in
      let waits = counted (waiting t before) (length own) order.1 in
      let it = waits_there t waits.0 before waits.1 in
      (it.0, subst (λ (k : ℕ). Contains log (Replicate k it.0)) same (has t it.0 it.1))
  | inr later ↦ in_order log (Commit t own ∷ before) queued (λ k ops there. elim (one_of (Commit t own) before (Replicate k ops) there) [ inl here ↦ absurd (let e : Commit t own ≡ Replicate k ops = here in cc) | inr old ↦ has k ops old ]) order.2 commits ts rows later
]

newest_has : (before records : List Entry) (x : Entry) → Contains (newest_first before records) x → Contains before x ⊎ Contains records x
newest_has before [] x is = inl is
newest_has before (r ∷ records) x is = elim (newest_has (r ∷ before) records x is) [
  | inl front ↦ elim (one_of r before x front) [ inl here ↦ inr (subst (λ (y : Entry). Contains (r ∷ records) y) here (first_in r records)) | inr old ↦ inl old ]
  | inr rest ↦ inr (rest_in r records x rest)
]

-- so it is of those that are queued as the engine opens
pub queued_logged : (log queued : List Entry) → IsLog (log ++ queued) → AreCommits queued → AreOfLogged log queued
queued_logged log queued order commits =
    in_order log (newest_first [] log) queued (λ ts ops there. elim (newest_has [] log (Replicate ts ops) there) [ inl none ↦ absurd (none_in (Replicate ts ops) none) | inr has ↦ has ]) (order_rest [] log queued order) commits

-- a REPLICATE is no COMMIT
pub replicate_logged : (log : List Entry) (ts : ℕ) (ops : List RowOp) → AreOfLogged log (Replicate ts ops ∷ [])
replicate_logged log ts ops t rows is = elim (one_of (Replicate ts ops) [] (Commit t rows) is) [ inl here ↦ absurd (let e : Replicate ts ops ≡ Commit t rows = here in cc) | inr none ↦ absurd (none_in (Commit t rows) none) ]

-- the write of one that ends is durable, since its rows are applied
pub commit_logged : {L D C : Type 0} (tells : Bool) (seen : L → Files) (now : L → ℕ) (leaves : L → ℕ → Files → Type 0) (faults : L → ℕ) (old : EngineView L D C) (s ts : ℕ) (f : Aloft) (rows : List CommitRow) → IsEngine tells seen now leaves faults old
    → find (λ w. w.s == s) old.tablet.core.aloft ≡ Some f → f.ts ≡ ts → IsOver s old.tablet.core.aloft → IsTrue tells → AreOfLogged (records_of (seen old.log.known.disk)) (Commit ts rows ∷ [])
commit_logged tells seen now leaves faults old s ts f rows e flies time over t k others is = elim (one_of (Commit ts rows) [] (Commit k others) is) [
  | inl here ↦
      let same : f.ts ≡ k = (let at : ts ≡ k = cc in time ∙ at) in
      let core = old.tablet.core in
      let log = records_of (seen old.log.known.disk) in
      let framed = own_framed core old.records old.tablet.places e.logged.run s f flies e.logged.stands in
      let some : 0 < length f.ops = (held_few (length f.ops) framed.keeps.count).0 in
      let there : Contains log (Replicate f.ts f.ops) = all_found (IsDurable log) (λ w. w.s == s) core.aloft f flies (e.logged.durable t) (some_applied f some (over_found s core.aloft f flies over)) in
      (f.ops, subst (λ (n : ℕ). Contains log (Replicate n f.ops)) same there)
  | inr none ↦ absurd (none_in (Commit k others) none)
]
