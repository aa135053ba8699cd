-- What a key sees of a log, and the stores of an opening.
use Rattle.std.proofs.Common.{◌≡◌, ◌≤◌, ◌<◌, ℕ, suc, List, [], ◌∷◌, ◌++◌, Some, None, Option, refl, sym, ap, ◌∙◌, arith, cond, true, false, append_assoc}
use Rattle.std.specs.Prelude.{◌==◌}
use Rattle.std.specs.Ordering.{eq_by_cmp}
use Rattle.std.proofs.lemmas.Bool.Decides.{nat_tests}
use Rattle.kt_history.specs.declared.operation.RowOp.{RowOp}
use Rattle.kt_history.specs.Rows.{key_cmp}
use Rattle.kt_records.specs.declared.entry.Entry.{Entry}
use Rattle.kt_records.specs.declared.entry.Entry.TheVariants.{Replicate, Commit}
use Rattle.kt_records.specs.declared.entry.CommitRow.{CommitRow}
use Rattle.kt_journal.specs.Order.{InOrder, last_ts, is_above}
use Rattle.kt_loglaws.specs.Replay.{commit_of}
use Rattle.kt_loglaws.proofs.LogOrder.{Lacks}
use Rattle.kt_rowfiles.specs.Files.{DiskRowset}
use Rattle.kt_content.specs.Places.{Super, memory, disk, at_first, in_files}
use Rattle.kt_content.specs.KeyOps.{KeyOp, op_on, seen}
use Rattle.kt_content.specs.Content.{LacksNumber, NumbersDiffer}
use Rattle.kt_content.specs.Agreement.{OpsRise}
use Rattle.kt_content.specs.MoreOps.{LacksPlace, PlacesDiffer, untold, told}

-- what a key sees of a log

pub seen-append : (q : List ℕ) (all xs ys : List Entry) → seen q all (xs ++ ys) ≡ seen q all xs ++ seen q all ys
seen-append q all [] ys = refl
seen-append q all (Replicate ts ops ∷ xs) ys = ap (λ l. op_on q ts ops (commit_of ts all) ++ l) (seen-append q all xs ys) ∙ sym (append_assoc (op_on q ts ops (commit_of ts all)) (seen q all xs) (seen q all ys))
seen-append q all (Commit ts rows ∷ xs) ys = seen-append q all xs ys

pub seen-alike : (q : List ℕ) (a b xs : List Entry) → ((ts : ℕ) → commit_of ts a ≡ commit_of ts b) → seen q a xs ≡ seen q b xs
seen-alike q a b [] e = refl
seen-alike q a b (Replicate ts ops ∷ xs) e = ap (λ c. op_on q ts ops c ++ seen q a xs) (e ts) ∙ ap (λ l. op_on q ts ops (commit_of ts b) ++ l) (seen-alike q a b xs e)
seen-alike q a b (Commit ts rows ∷ xs) e = seen-alike q a b xs e

-- but for one write that is not among them
pub seen-apart : (q : List ℕ) (ts : ℕ) (a b xs : List Entry) → ((t : ℕ) → (t == ts) ≡ false → commit_of t a ≡ commit_of t b) → Lacks ts xs → seen q a xs ≡ seen q b xs
seen-apart q ts a b [] e l = refl
seen-apart q ts a b (Replicate t ops ∷ xs) e l = ap (λ c. op_on q t ops c ++ seen q a xs) (e t l.0) ∙ ap (λ r. op_on q t ops (commit_of t b) ++ r) (seen-apart q ts a b xs e l.1)
seen-apart q ts a b (Commit t rows ∷ xs) e l = seen-apart q ts a b xs e l

-- what it sees rises
abbrev pub from_last : Option ℕ → ℕ
from_last None = 0
from_last (Some ts) = suc ts

rise_lower : (low high : ℕ) (xs : List KeyOp) → low ≤ high → OpsRise high xs → OpsRise low xs
rise_lower low high [] le r = tt
rise_lower low high (x ∷ xs) le r = (omega (arith, r.0), r.1)

touched_rise : (low : ℕ) (q : List ℕ) (ts : ℕ) (ops : List RowOp) (told : Option (List CommitRow)) (more : List KeyOp) → low ≤ ts → OpsRise (suc ts) more → OpsRise low (op_on q ts ops told ++ more)
touched_rise low q ts [] told more le r = rise_lower low (suc ts) more (omega arith) r
touched_rise low q ts (op ∷ ops) None more le r = elim (eq_by_cmp key_cmp q op.key) as (λ b. OpsRise low (cond b (untold ts op ∷ []) (op_on q ts ops None) ++ more)) [
  | true ↦ (le, r)
  | false ↦ touched_rise low q ts ops None more le r
]
touched_rise low q ts (op ∷ ops) (Some []) more le r = rise_lower low (suc ts) more (omega arith) r
touched_rise low q ts (op ∷ ops) (Some (row ∷ rows)) more le r = elim (eq_by_cmp key_cmp q op.key) as (λ b. OpsRise low (cond b (told ts op row.targets ∷ []) (op_on q ts ops (Some rows)) ++ more)) [
  | true ↦ (le, r)
  | false ↦ touched_rise low q ts ops (Some rows) more le r
]

above_is : (last : Option ℕ) (ts : ℕ) → is_above last ts ≡ true → from_last last ≤ ts
above_is None ts h = omega arith
above_is (Some l) ts h = let lt : l < ts = grind (arith, nat_tests) in omega arith

pub seen_rise : (q : List ℕ) (all before xs : List Entry) → InOrder before xs → OpsRise (from_last (last_ts before)) (seen q all xs)
seen_rise q all before [] h = tt
seen_rise q all before (Replicate ts ops ∷ xs) h = touched_rise (from_last (last_ts before)) q ts ops (commit_of ts all) (seen q all xs) (above_is (last_ts before) ts h.1) (seen_rise q all (Replicate ts ops ∷ before) xs h.2)
seen_rise q all before (Commit ts rows ∷ xs) h = seen_rise q all (Commit ts rows ∷ before) xs h.2

-- the stores of an opening

lacks_first : (q : List ℕ) (r : ℕ) (rowsets : List DiskRowset) → LacksNumber r rowsets → LacksPlace (disk r) (in_files q rowsets)
lacks_first q r [] l = tt
lacks_first q r (d ∷ rowsets) l = (l.0, lacks_first q r rowsets l.1)

memory_lacks : (q : List ℕ) (rowsets : List DiskRowset) → LacksPlace memory (in_files q rowsets)
memory_lacks q [] = tt
memory_lacks q (d ∷ rowsets) = (refl, memory_lacks q rowsets)

files_differ : (q : List ℕ) (rowsets : List DiskRowset) → NumbersDiffer rowsets → PlacesDiffer (in_files q rowsets)
files_differ q [] d = tt
files_differ q (x ∷ rowsets) d = (lacks_first q x.rowset rowsets d.0, files_differ q rowsets d.1)

pub first_differ : (q : List ℕ) (super : Super) → NumbersDiffer super.rowsets → PlacesDiffer (at_first q super)
first_differ q super d = (memory_lacks q super.rowsets, files_differ q super.rowsets d)
