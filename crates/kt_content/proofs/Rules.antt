-- What the rules of a table take.
use Rattle.std.proofs.Common.{◌≡◌, ℕ, suc, List, [], ◌∷◌, ◌++◌, Some, None, Option, Ok, Err, Result, refl, ap, ◌∙◌, subst, cond, true, false, Bool, inl, inr}
use Rattle.std.specs.Prelude.{nat_le, nat_lt, ◌==◌}
use Rattle.std.specs.List.{filter}
use Rattle.std.specs.Ordering.{eq_by_cmp}
use Rattle.kt_history.specs.declared.change.Change.{Change}
use Rattle.kt_history.specs.declared.change.Change.TheVariants.{Ins, Upd, Del}
use Rattle.kt_history.specs.declared.changes.Delta.{Delta}
use Rattle.kt_history.specs.declared.operation.RowOp.{RowOp}
use Rattle.kt_history.specs.declared.target.Target.{Target}
use Rattle.kt_history.specs.Rows.{Row, Rows, apply, undo, key_cmp}
use Rattle.kt_history.specs.History.{Past}
use Rattle.kt_history.specs.Operations.{effect}
use Rattle.kt_records.specs.declared.entry.Entry.{Entry}
use Rattle.kt_records.specs.declared.entry.Entry.TheVariants.{Replicate, Commit}
use Rattle.kt_records.specs.declared.entry.CommitRow.{CommitRow}
use Rattle.kt_history.specs.Stores.{Steps, after_steps, push}
use Rattle.kt_histlaws.specs.Disks.{before_all, led_over}
use Rattle.kt_histlaws.proofs.Pending.{same_key}
use Rattle.kt_loglaws.specs.Replay.{commit_of}
use Rattle.kt_rowfiles.specs.Files.{DiskRowset, row_under, records_for, records_in, put_rising, rising, put_falling, falling, row_with}
use Rattle.kt_content.specs.Rules.{Rules, AreRules, no_rules, RowPasses, ChangePasses, EffectPasses, OpPasses, OpsPass, RecordsPass, BasePasses, FilePasses, FilesPass, RowsetPasses, RowsetsPass, StepsPass, HistPasses, rows_of_a_history_pass}
use Rattle.kt_content.specs.Places.{Super, Place, memory, disk, same_place, Held, Moves, Standing, in_files, at_first, joined_in, moved, standing, row_there, live_in, needed_in}
use Rattle.kt_content.specs.KeyOps.{KeyOp, op_on, seen, may_join, with_move, to_each, to_place, to_live, decided, if_fits, played}
use Rattle.kt_content.specs.Content.{IsContent, EachPasses, what_stores_have_passes}

-- records more and fewer

pub pass_join : (rules : Rules) (fill : Row) (xs ys : List Entry) → RecordsPass rules fill xs → RecordsPass rules fill ys → RecordsPass rules fill (xs ++ ys)
pass_join rules fill [] ys p q = q
pass_join rules fill (Replicate ts ops ∷ xs) ys p q = (p.0, pass_join rules fill xs ys p.1 q)
pass_join rules fill (Commit ts rows ∷ xs) ys p q = pass_join rules fill xs ys p q

pub pass_front : (rules : Rules) (fill : Row) (xs ys : List Entry) → RecordsPass rules fill (xs ++ ys) → RecordsPass rules fill xs
pass_front rules fill [] ys p = tt
pass_front rules fill (Replicate ts ops ∷ xs) ys p = (p.0, pass_front rules fill xs ys p.1)
pass_front rules fill (Commit ts rows ∷ xs) ys p = pass_front rules fill xs ys p

pub pass_behind : (rules : Rules) (fill : Row) (xs ys : List Entry) → RecordsPass rules fill (xs ++ ys) → RecordsPass rules fill ys
pass_behind rules fill [] ys p = p
pass_behind rules fill (Replicate ts ops ∷ xs) ys p = pass_behind rules fill xs ys p.1
pass_behind rules fill (Commit ts rows ∷ xs) ys p = pass_behind rules fill xs ys p

-- with no rules all passes

change_passes_none : (c : Change) → ChangePasses no_rules c
change_passes_none (Ins row) = refl
change_passes_none (Upd cells) = refl
change_passes_none Del = tt

effect_passes_none : (o : Option Change) → EffectPasses no_rules o
effect_passes_none None = tt
effect_passes_none (Some c) = change_passes_none c

pub ops_pass_none : (fill : Row) (ops : List RowOp) → OpsPass no_rules fill ops
ops_pass_none fill [] = tt
ops_pass_none fill (op ∷ ops) = ((refl, λ row. effect_passes_none (effect fill op.kind op.cells row).0), ops_pass_none fill ops)

pub records_pass_none : (fill : Row) (records : List Entry) → RecordsPass no_rules fill records
records_pass_none fill [] = tt
records_pass_none fill (Replicate ts ops ∷ records) = (ops_pass_none fill ops, records_pass_none fill records)
records_pass_none fill (Commit ts rows ∷ records) = records_pass_none fill records

base_passes_none : (rows : Rows) → BasePasses no_rules rows
base_passes_none [] = tt
base_passes_none (r ∷ rows) = (refl, refl, base_passes_none rows)

file_passes_none : (file : List Delta) → FilePasses no_rules file
file_passes_none [] = tt
file_passes_none (d ∷ file) = (change_passes_none d.change, file_passes_none file)

files_pass_none : (files : List (List Delta)) → FilesPass no_rules files
files_pass_none [] = tt
files_pass_none (file ∷ files) = (file_passes_none file, files_pass_none files)

rowsets_pass_none : (rules : Rules) (rowsets : List DiskRowset) → RowsetsPass rules rowsets → RowsetsPass no_rules rowsets
rowsets_pass_none rules [] h = tt
rowsets_pass_none rules (d ∷ rowsets) h = (record { base = base_passes_none d.base; undos = files_pass_none d.undos; redos = files_pass_none d.redos; fits = h.0.fits }, rowsets_pass_none rules rowsets h.1)

pub without_rules : (rules : Rules) (fill : Row) (super : Super) (records : List Entry) (c : ℕ) (past : Past) → IsContent rules fill super records c past → IsContent no_rules fill super records c past
without_rules rules fill super records c past is = record {
  enough = is.enough;
  numbers = is.numbers;
  mark = is.mark;
  last = is.last;
  ends = is.ends;
  passes = records_pass_none fill records;
  files = rowsets_pass_none rules super.rowsets is.files;
  keys = is.keys;
}

-- the rows of a history

row_passes : (rules : Rules) → AreRules rules → (c : Change) (row : Option Row) → RowPasses rules row → ChangePasses rules c → RowPasses rules (apply c row)
row_passes rules are (Ins row) None h c = c
row_passes rules are (Ins row) (Some old) h c = h
row_passes rules are (Upd cells) None h c = tt
row_passes rules are (Upd cells) (Some old) h c = are.changed cells old c h
row_passes rules are Del row h c = tt

after_pass : (rules : Rules) → AreRules rules → (t : ℕ) (steps : Steps) (row : Option Row) → RowPasses rules row → StepsPass rules steps → RowPasses rules (after_steps t steps row)
after_pass rules are t [] row h p = h
after_pass rules are t (c ∷ steps) row h p = after_pass rules are t steps (cond (nat_le c.0 t) (apply c.1 row) row) (either (nat_le c.0 t)) p.1
  where
    either : (b : Bool) → RowPasses rules (cond b (apply c.1 row) row)
    either true = row_passes rules are c.1 row h p.0
    either false = h

some_pass : (rules : Rules) (which : ℕ × Change → Bool) (steps : Steps) → StepsPass rules steps → StepsPass rules (filter which steps)
some_pass rules which [] p = tt
some_pass rules which (c ∷ steps) p = either (which c) (some_pass rules which steps p.1)
  where
    either : (b : Bool) → StepsPass rules (filter which steps) → StepsPass rules (cond b (c ∷ filter which steps) (filter which steps))
    either true rest = (p.0, rest)
    either false rest = rest

pub rows_pass : rows_of_a_history_pass
rows_pass rules q h t which are p = (after_pass rules are t h.steps h.first p.first p.steps, after_pass rules are t (filter which h.steps) h.first p.first (some_pass rules which h.steps p.steps))

-- what files have of a key

steps_join : (rules : Rules) (xs ys : Steps) → StepsPass rules xs → StepsPass rules ys → StepsPass rules (xs ++ ys)
steps_join rules [] ys p q = q
steps_join rules (x ∷ xs) ys p q = (p.0, steps_join rules xs ys p.1 q)

undo_passes : (rules : Rules) → AreRules rules → (c : Change) (row : Option Row) → RowPasses rules row → ChangePasses rules (undo c row)
undo_passes rules are (Ins row) old h = tt
undo_passes rules are (Upd cells) (Some old) h = are.part cells old h
undo_passes rules are (Upd cells) None h = tt
undo_passes rules are Del (Some old) h = h
undo_passes rules are Del None h = tt

before_passes : (rules : Rules) → AreRules rules → (undos : Steps) (row : Option Row) → RowPasses rules row → StepsPass rules undos → RowPasses rules (before_all undos row)
before_passes rules are [] row h p = h
before_passes rules are (u ∷ undos) row h p = before_passes rules are undos (apply u.1 row) (row_passes rules are u.1 row h p.0) p.1

led_pass : (rules : Rules) → AreRules rules → (undos : Steps) (row : Option Row) → RowPasses rules row → StepsPass rules undos → StepsPass rules (led_over undos row)
led_pass rules are [] row h p = tt
led_pass rules are (u ∷ undos) row h p =
    steps_join rules (led_over undos (apply u.1 row)) ((u.0, undo u.1 row) ∷ []) (led_pass rules are undos (apply u.1 row) (row_passes rules are u.1 row h p.0) p.1) (undo_passes rules are u.1 row h, tt)

for_pass : (rules : Rules) (n : ℕ) (file : List Delta) → FilePasses rules file → StepsPass rules (records_for n file)
for_pass rules n [] p = tt
for_pass rules n (d ∷ file) p = either (d.ordinal == n) (for_pass rules n file p.1)
  where
    either : (b : Bool) → StepsPass rules (records_for n file) → StepsPass rules (cond b ((d.ts, d.change) ∷ records_for n file) (records_for n file))
    either true rest = (p.0, rest)
    either false rest = rest

in_pass : (rules : Rules) (n : ℕ) (files : List (List Delta)) → FilesPass rules files → StepsPass rules (records_in n files)
in_pass rules n [] p = tt
in_pass rules n (file ∷ files) p = steps_join rules (records_for n file) (records_in n files) (for_pass rules n file p.0) (in_pass rules n files p.1)

put_up : (rules : Rules) (c : ℕ × Change) (steps : Steps) → ChangePasses rules c.1 → StepsPass rules steps → StepsPass rules (put_rising c steps)
put_up rules c [] h p = (h, tt)
put_up rules c (d ∷ steps) h p = either (nat_lt d.0 c.0) (put_up rules c steps h p.1)
  where
    either : (b : Bool) → StepsPass rules (put_rising c steps) → StepsPass rules (cond b (d ∷ put_rising c steps) (c ∷ d ∷ steps))
    either true rest = (p.0, rest)
    either false rest = (h, p)

up_pass : (rules : Rules) (steps : Steps) → StepsPass rules steps → StepsPass rules (rising steps)
up_pass rules [] p = tt
up_pass rules (c ∷ steps) p = put_up rules c (rising steps) p.0 (up_pass rules steps p.1)

put_down : (rules : Rules) (c : ℕ × Change) (steps : Steps) → ChangePasses rules c.1 → StepsPass rules steps → StepsPass rules (put_falling c steps)
put_down rules c [] h p = (h, tt)
put_down rules c (d ∷ steps) h p = either (nat_lt c.0 d.0) (put_down rules c steps h p.1)
  where
    either : (b : Bool) → StepsPass rules (put_falling c steps) → StepsPass rules (cond b (d ∷ put_falling c steps) (c ∷ d ∷ steps))
    either true rest = (p.0, rest)
    either false rest = (h, p)

down_pass : (rules : Rules) (steps : Steps) → StepsPass rules steps → StepsPass rules (falling steps)
down_pass rules [] p = tt
down_pass rules (c ∷ steps) p = put_down rules c (falling steps) p.0 (down_pass rules steps p.1)

-- the base row of a key, where there is one
abbrev FoundPasses : Rules → List ℕ → Option (ℕ × Row) → Type 0
FoundPasses rules q None = Unit {0}
FoundPasses rules q (Some found) = (rules.key q ≡ true) × (rules.row found.1 ≡ true)

found_passes : (rules : Rules) (q : List ℕ) (n : ℕ) (rows : Rows) → BasePasses rules rows → FoundPasses rules q (row_under q n rows)
found_passes rules q n [] p = tt
found_passes rules q n (r ∷ rows) p = either (eq_by_cmp key_cmp q r.0) refl (found_passes rules q (suc n) rows p.2)
  where
    either : (b : Bool) → eq_by_cmp key_cmp q r.0 ≡ b → FoundPasses rules q (row_under q (suc n) rows) → FoundPasses rules q (cond b (Some (n, r.1)) (row_under q (suc n) rows))
    either true e rest = (ap rules.key (same_key q r.0 e) ∙ p.0, p.1)
    either false e rest = rest

with_passes : (rules : Rules) → AreRules rules → (q : List ℕ) (d : DiskRowset) (found : Option (ℕ × Row)) → RowsetPasses rules d → FoundPasses rules q found → HistPasses rules q (row_with d found)
with_passes rules are q d None p f = record { key = inl refl; first = tt; steps = tt }
with_passes rules are q d (Some found) p f =
    let undos = down_pass rules (records_in found.0 d.undos) (in_pass rules found.0 d.undos p.undos) in
    record {
      key = inr f.0;
      first = before_passes rules are (falling (records_in found.0 d.undos)) (Some found.1) f.1 undos;
      steps = steps_join rules (led_over (falling (records_in found.0 d.undos)) (Some found.1)) (rising (records_in found.0 d.redos)) (led_pass rules are (falling (records_in found.0 d.undos)) (Some found.1) f.1 undos)
          (up_pass rules (records_in found.0 d.redos) (in_pass rules found.0 d.redos p.redos));
    }

in_files_pass : (rules : Rules) → AreRules rules → (q : List ℕ) (rowsets : List DiskRowset) → RowsetsPass rules rowsets → EachPasses rules q (in_files q rowsets)
in_files_pass rules are q [] p = tt
in_files_pass rules are q (d ∷ rowsets) p = (with_passes rules are q d (row_under q 0 d.base) p.0 (found_passes rules q 0 d.base p.0.base), in_files_pass rules are q rowsets p.1)

-- and what the log makes of it

abbrev MovesPass : Rules → Moves → Type 0
MovesPass rules [] = Unit {0}
MovesPass rules (m ∷ moves) = ChangePasses rules m.1 × MovesPass rules moves

abbrev TheyPass : Rules → Option Moves → Type 0
TheyPass rules None = Unit {0}
TheyPass rules (Some moves) = MovesPass rules moves

abbrev EndPasses : Rules → List ℕ → Result Held ℕ → Type 0
EndPasses rules q (Err ts) = Unit {0}
EndPasses rules q (Ok held) = EachPasses rules q held

may_pass : (rules : Rules) (p : Place) (o : Option Change) → EffectPasses rules o → EffectPasses rules (may_join p o)
may_pass rules p None h = tt
may_pass rules memory (Some c) h = h
may_pass rules (disk r) (Some (Ins row)) h = tt
may_pass rules (disk r) (Some (Upd cells)) h = h
may_pass rules (disk r) (Some Del) h = tt

move_passes : (rules : Rules) (p : Place) (o : Option Change) (rest : Option Moves) → EffectPasses rules o → TheyPass rules rest → TheyPass rules (with_move p o rest)
move_passes rules p None rest h more = tt
move_passes rules p (Some c) None h more = tt
move_passes rules p (Some c) (Some moves) h more = (h, more)

each_pass : (rules : Rules) (fill : Row) (op : RowOp) (rows : Standing) (places : List Place) → OpPasses rules fill op → TheyPass rules (to_each fill op rows places)
each_pass rules fill op rows [] h = tt
each_pass rules fill op rows (p ∷ places) h =
    move_passes rules p (may_join p (effect fill op.kind op.cells (row_there p rows)).0) (to_each fill op rows places) (may_pass rules p (effect fill op.kind op.cells (row_there p rows)).0 (h.1 (row_there p rows))) (each_pass rules fill op rows places h)

place_passes : (rules : Rules) (p : Place) (o : Option Change) → EffectPasses rules o → MovesPass rules (to_place p o)
place_passes rules p None h = tt
place_passes rules p (Some c) h = (h, tt)

live_passes : (rules : Rules) (fill : Row) (op : RowOp) (at : Option (Place × Row)) → OpPasses rules fill op → MovesPass rules (to_live fill op at)
live_passes rules fill op None h = place_passes rules memory (effect fill op.kind op.cells None).0 (h.1 None)
live_passes rules fill op (Some at) h = place_passes rules at.0 (effect fill op.kind op.cells (Some at.1)).0 (h.1 (Some at.1))

joined_passes : (rules : Rules) (q : List ℕ) (p : Place) (ts : ℕ) (c : Change) (held : Held) → rules.key q ≡ true → ChangePasses rules c → EachPasses rules q held → EachPasses rules q (joined_in p ts c held)
joined_passes rules q p ts c [] key h each = tt
joined_passes rules q p ts c (x ∷ held) key h each = either (same_place p x.0) (joined_passes rules q p ts c held key h each.1)
  where
    either : (b : Bool) → EachPasses rules q (joined_in p ts c held) → EachPasses rules q (cond b ((x.0, push ts c x.1) ∷ held) (x ∷ joined_in p ts c held))
    either true rest = (record { key = inr key; first = each.0.first; steps = steps_join rules x.1.steps ((ts, c) ∷ []) each.0.steps (h, tt) }, each.1)
    either false rest = (each.0, rest)

moved_passes : (rules : Rules) (q : List ℕ) (ts : ℕ) (moves : Moves) (held : Held) → rules.key q ≡ true → MovesPass rules moves → EachPasses rules q held → EachPasses rules q (moved ts moves held)
moved_passes rules q ts [] held key h each = each
moved_passes rules q ts (m ∷ moves) held key h each = moved_passes rules q ts moves (joined_in m.0 ts m.1 held) key h.1 (joined_passes rules q m.0 ts m.1 held key h.0 each)

-- the operations on a key
abbrev KeyOpsPass : Rules → Row → List ℕ → List KeyOp → Type 0
KeyOpsPass rules fill q [] = Unit {0}
KeyOpsPass rules fill q (x ∷ xs) = (rules.key q ≡ true) × OpPasses rules fill x.op × KeyOpsPass rules fill q xs

key_ops_join : (rules : Rules) (fill : Row) (q : List ℕ) (xs ys : List KeyOp) → KeyOpsPass rules fill q xs → KeyOpsPass rules fill q ys → KeyOpsPass rules fill q (xs ++ ys)
key_ops_join rules fill q [] ys p more = more
key_ops_join rules fill q (x ∷ xs) ys p more = (p.0, p.1, key_ops_join rules fill q xs ys p.2 more)

on_passes : (rules : Rules) (fill : Row) (q : List ℕ) (ts : ℕ) (ops : List RowOp) (o : Option (List CommitRow)) → OpsPass rules fill ops → KeyOpsPass rules fill q (op_on q ts ops o)
on_passes rules fill q ts [] o p = tt
on_passes rules fill q ts (op ∷ ops) None p = either (eq_by_cmp key_cmp q op.key) refl (on_passes rules fill q ts ops None p.1)
  where
    either : (b : Bool) → eq_by_cmp key_cmp q op.key ≡ b → KeyOpsPass rules fill q (op_on q ts ops None) → KeyOpsPass rules fill q (cond b (record { ts = ts; op = op; told = None } ∷ []) (op_on q ts ops None))
    either true e rest = (ap rules.key (same_key q op.key e) ∙ p.0.0, p.0, tt)
    either false e rest = rest
on_passes rules fill q ts (op ∷ ops) (Some []) p = tt
on_passes rules fill q ts (op ∷ ops) (Some (row ∷ rows)) p = either (eq_by_cmp key_cmp q op.key) refl (on_passes rules fill q ts ops (Some rows) p.1)
  where
    either : (b : Bool) → eq_by_cmp key_cmp q op.key ≡ b → KeyOpsPass rules fill q (op_on q ts ops (Some rows)) → KeyOpsPass rules fill q (cond b (record { ts = ts; op = op; told = Some row.targets } ∷ []) (op_on q ts ops (Some rows)))
    either true e rest = (ap rules.key (same_key q op.key e) ∙ p.0.0, p.0, tt)
    either false e rest = rest

seen_passes : (rules : Rules) (fill : Row) (q : List ℕ) (all records : List Entry) → RecordsPass rules fill records → KeyOpsPass rules fill q (seen q all records)
seen_passes rules fill q all [] p = tt
seen_passes rules fill q all (Replicate ts ops ∷ records) p = key_ops_join rules fill q (op_on q ts ops (commit_of ts all)) (seen q all records) (on_passes rules fill q ts ops (commit_of ts all) p.0) (seen_passes rules fill q all records p.1)
seen_passes rules fill q all (Commit ts rows ∷ records) p = seen_passes rules fill q all records p

decided_passes : (rules : Rules) (fill : Row) (super : Super) (rows : Standing) (x : KeyOp) → OpPasses rules fill x.op → TheyPass rules (decided fill super rows x.op x.told)
decided_passes rules fill super rows x h = by_names x.told
  where
    by_names : (o : Option (List Target)) → TheyPass rules (decided fill super rows x.op o)
    by_names None = live_passes rules fill x.op (live_in rows) h
    by_names (Some targets) = each_pass rules fill x.op rows (needed_in super targets) h

fits_passes : (rules : Rules) (q : List ℕ) (ts : ℕ) (more : Moves → Result Held ℕ) (o : Option Moves) → TheyPass rules o → ((moves : Moves) → MovesPass rules moves → EndPasses rules q (more moves)) → EndPasses rules q (if_fits ts more o)
fits_passes rules q ts more None h goes = tt
fits_passes rules q ts more (Some moves) h goes = goes moves h

played_passes : (rules : Rules) (fill : Row) (super : Super) (q : List ℕ) (held : Held) (xs : List KeyOp) → EachPasses rules q held → KeyOpsPass rules fill q xs → EndPasses rules q (played fill super held xs)
played_passes rules fill super q held [] each p = each
played_passes rules fill super q held (x ∷ xs) each p =
    fits_passes rules q x.ts (λ moves. played fill super (moved x.ts moves held) xs) (decided fill super (standing x.ts held) x.op x.told) (decided_passes rules fill super (standing x.ts held) x p.1)
    (λ moves h. played_passes rules fill super q (moved x.ts moves held) xs (moved_passes rules q x.ts moves held p.0 h each) p.2)

pub stores_pass : what_stores_have_passes
stores_pass rules fill super records c past q held are is e =
    subst (EndPasses rules q) e
    (played_passes rules fill super q (at_first q super) (seen q records records) (record { key = inl refl; first = tt; steps = tt }, in_files_pass rules are q super.rowsets is.files) (seen_passes rules fill q records records is.passes))
