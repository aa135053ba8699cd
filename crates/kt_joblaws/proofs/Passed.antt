-- What rowsets that pass have of each key passes.
use Rattle.std.proofs.Common.{◌≡◌, ℕ, suc, Bool, true, false, cond, List, [], ◌∷◌, ◌++◌, Some, None, Option, inl, inr, refl, ap, ◌∙◌}
use Rattle.std.specs.Prelude.{nat_lt, ◌==◌}
use Rattle.std.specs.Ordering.{eq_by_cmp}
use Rattle.kt_history.specs.declared.change.Change.{Change}
use Rattle.kt_history.specs.declared.changes.Delta.{Delta}
use Rattle.kt_history.specs.Rows.{Row, Rows, key_cmp, apply, undo}
use Rattle.kt_history.specs.Stores.{Steps}
use Rattle.kt_histlaws.specs.Disks.{before_all, led_over}
use Rattle.kt_rowfiles.specs.Files.{DiskRowset, row_under, records_for, records_in, put_rising, put_falling, rising, falling, row_with, hist_in_files}
use Rattle.kt_content.specs.Rules.{Rules, AreRules, RowPasses, ChangePasses, BasePasses, FilePasses, FilesPass, StepsPass, HistPasses, RowsetPasses}
use Rattle.kt_merge.proofs.KeyChanges.{same_key}
use Rattle.kt_joblaws.specs.DeltaJobs.{histories_of_passing_rowsets_pass}
use Rattle.kt_joblaws.proofs.PassingHistories.{changed_passes, undo_passes}

steps_join : (rules : Rules) (xs ys : Steps) → StepsPass rules xs → StepsPass rules ys → StepsPass rules (xs ++ ys)
steps_join rules [] ys p more = more
steps_join rules (x ∷ xs) ys p more = (p.0, steps_join rules xs ys p.1 more)

-- ---- records

record_in_front : (rules : Rules) (b : Bool) (c : ℕ × Change) (steps : Steps) → ChangePasses rules c.1 → StepsPass rules steps → StepsPass rules (cond b (c ∷ steps) steps)
record_in_front rules true c steps h p = (h, p)
record_in_front rules false c steps h p = p

for_pass : (rules : Rules) (n : ℕ) (file : List Delta) → FilePasses rules file → StepsPass rules (records_for n file)
for_pass rules n [] p = tt
for_pass rules n (d ∷ file) p = record_in_front rules (d.ordinal == n) (d.ts, d.change) (records_for n file) p.0 (for_pass rules n file p.1)

in_pass : (rules : Rules) (n : ℕ) (files : List (List Delta)) → FilesPass rules files → StepsPass rules (records_in n files)
in_pass rules n [] p = tt
in_pass rules n (file ∷ files) p = steps_join rules (records_for n file) (records_in n files) (for_pass rules n file p.0) (in_pass rules n files p.1)

put_pass : (rules : Rules) (b : Bool) (c d : ℕ × Change) (steps put : Steps) → ChangePasses rules c.1 → StepsPass rules (d ∷ steps) → StepsPass rules put → StepsPass rules (cond b (d ∷ put) (c ∷ d ∷ steps))
put_pass rules true c d steps put h p q = (p.0, q)
put_pass rules false c d steps put h p q = (h, p)

put_up : (rules : Rules) (c : ℕ × Change) (steps : Steps) → ChangePasses rules c.1 → StepsPass rules steps → StepsPass rules (put_rising c steps)
put_up rules c [] h p = (h, tt)
put_up rules c (d ∷ steps) h p = put_pass rules (nat_lt d.0 c.0) c d steps (put_rising c steps) h p (put_up rules c steps h p.1)

put_down : (rules : Rules) (c : ℕ × Change) (steps : Steps) → ChangePasses rules c.1 → StepsPass rules steps → StepsPass rules (put_falling c steps)
put_down rules c [] h p = (h, tt)
put_down rules c (d ∷ steps) h p = put_pass rules (nat_lt c.0 d.0) c d steps (put_falling c steps) h p (put_down rules c steps h p.1)

up_pass : (rules : Rules) (steps : Steps) → StepsPass rules steps → StepsPass rules (rising steps)
up_pass rules [] p = tt
up_pass rules (c ∷ steps) p = put_up rules c (rising steps) p.0 (up_pass rules steps p.1)

down_pass : (rules : Rules) (steps : Steps) → StepsPass rules steps → StepsPass rules (falling steps)
down_pass rules [] p = tt
down_pass rules (c ∷ steps) p = put_down rules c (falling steps) p.0 (down_pass rules steps p.1)

-- ---- a row with its records

before_passes : (rules : Rules) → AreRules rules → (undos : Steps) (row : Option Row) → RowPasses rules row → StepsPass rules undos → RowPasses rules (before_all undos row)
before_passes rules are [] row h p = h
before_passes rules are (u ∷ undos) row h p = before_passes rules are undos (apply u.1 row) (changed_passes rules are u.1 row h p.0) p.1

led_pass : (rules : Rules) → AreRules rules → (undos : Steps) (row : Option Row) → RowPasses rules row → StepsPass rules undos → StepsPass rules (led_over undos row)
led_pass rules are [] row h p = tt
led_pass rules are (u ∷ undos) row h p =
    steps_join rules (led_over undos (apply u.1 row)) ((u.0, undo u.1 row) ∷ []) (led_pass rules are undos (apply u.1 row) (changed_passes rules are u.1 row h p.0) p.1) (undo_passes rules are u.1 row h, tt)

abbrev FoundPasses : Rules → List ℕ → Option (ℕ × Row) → Type 0
FoundPasses rules q None = Unit {0}
FoundPasses rules q (Some found) = (rules.key q ≡ true) × (rules.row found.1 ≡ true)

found_passes : (rules : Rules) (q : List ℕ) (n : ℕ) (rows : Rows) → BasePasses rules rows → FoundPasses rules q (row_under q n rows)
found_passes rules q n [] p = tt
found_passes rules q n (r ∷ rows) p = elim (eq_by_cmp key_cmp q r.0) as (λ (b : Bool). eq_by_cmp key_cmp q r.0 ≡ b → FoundPasses rules q (cond b (Some (n, r.1)) (row_under q (suc n) rows))) [
  | true ↦ λ e. (ap rules.key (same_key q r.0 e) ∙ p.0, p.1)
  | false ↦ λ e. found_passes rules q (suc n) rows p.2
] refl

with_passes : (rules : Rules) → AreRules rules → (q : List ℕ) (d : DiskRowset) (found : Option (ℕ × Row)) → RowsetPasses rules d → FoundPasses rules q found → HistPasses rules q (row_with d found)
with_passes rules are q d None p f = record { key = inl refl; first = tt; steps = tt }
with_passes rules are q d (Some found) p f =
    let undos = down_pass rules (records_in found.0 d.undos) (in_pass rules found.0 d.undos p.undos) in
    record {
      key = inr f.0;
      first = before_passes rules are (falling (records_in found.0 d.undos)) (Some found.1) f.1 undos;
      steps = steps_join rules (led_over (falling (records_in found.0 d.undos)) (Some found.1)) (rising (records_in found.0 d.redos)) (led_pass rules are (falling (records_in found.0 d.undos)) (Some found.1) f.1 undos)
          (up_pass rules (records_in found.0 d.redos) (in_pass rules found.0 d.redos p.redos));
    }

-- ---- a rowset, and all of them

pub hist_passes : (rules : Rules) → AreRules rules → (q : List ℕ) (d : DiskRowset) → RowsetPasses rules d → HistPasses rules q (hist_in_files q d)
hist_passes rules are q d p = with_passes rules are q d (row_under q 0 d.base) p (found_passes rules q 0 d.base p.base)

pub hists_pass : histories_of_passing_rowsets_pass
hists_pass rules are q [] p = tt
hists_pass rules are q (d ∷ rowsets) p = (hist_passes rules are q d p.0, hists_pass rules are q rowsets p.1)
