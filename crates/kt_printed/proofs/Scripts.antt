-- Literals spell each cell that a script says.
use Rattle.std.proofs.Common.{◌≡◌, ℕ, zero, suc, ◌+◌, ◌*◌, ◌/◌, ◌%◌, ◌^◌, ◌<◌, ◌≤◌, pos, Bool, true, false, not, ◌&&◌, ◌||◌, List, [], ◌∷◌, map, length, min, drop, Option, Some, None, Result, Ok, Err, refl, sym, ap, ◌∙◌, subst, arith, cond}
use Rattle.std.specs.Prelude.{◌-◌, ◌==◌, nat_lt, unwrap_or, if◌then◌else◌}
use Rattle.std.specs.Int.{w64}
use Rattle.std.specs.List.{AllByRecursion, filter, list_any}
use Rattle.std.proofs.ByRecursion.{All-append, All-map, all_kept_by}
use Rattle.std.proofs.lemmas.List.{length-map}
use Rattle.std.proofs.lemmas.Bool.Decides.{nat_tests}
use Rattle.kt_base.specs.declared.cell.Kind.{Kind}
use Rattle.kt_base.specs.declared.cell.Kind.TheVariants as kind
use Rattle.kt_base.specs.declared.cell.Cell.{Cell}
use Rattle.kt_base.specs.declared.cell.Cell.TheVariants as cell
use Rattle.kt_base.specs.declared.literal.LiteralNo.{LiteralNo}
use Rattle.kt_base.specs.Keys.{key_cells, number_key}
use Rattle.kt_base.specs.Literals.{CellBytes, cell_in, fits, literal}
use Rattle.kt_base.proofs.Literals.{all_spelled}
use Rattle.kt_base.proofs.Values.{both_true}
use Rattle.kt_key.specs.Fit.{has_kind}
use Rattle.kt_schema.specs.declared.column.Column.{Column}
use Rattle.kt_schema.specs.Columns.{key_columns, key_kinds, other_columns}
use Rattle.kt_schema.specs.Rows.{is_long}
use Rattle.kt_key.proofs.KeyReads.{keys_again}
use Rattle.kt_history.specs.declared.command.Command.{Command}
use Rattle.kt_history.specs.declared.command.Command.TheVariants as command
use Rattle.kt_history.specs.declared.event.Event.{Event}
use Rattle.kt_history.specs.declared.operation.OpKind.{OpKind}
use Rattle.kt_history.specs.declared.operation.OpKind.TheVariants as op
use Rattle.kt_history.specs.declared.operation.RowOp.{RowOp}
use Rattle.kt_history.specs.History.{Past}
use Rattle.kt_script.specs.declared.leads.Word.{Word}
use Rattle.kt_script.specs.declared.leads.Word.TheVariants as word
use Rattle.kt_script.specs.declared.leads.Lead.{Lead}
use Rattle.kt_script.specs.declared.leads.Lead.TheVariants as lead
use Rattle.kt_script.specs.Reasons.{sound, cell_or_null}
use Rattle.kt_script.specs.Pieces.{words_of}
use Rattle.kt_script.specs.Columns.{ColumnLine, column_line, begins_column, default_reason, default_no, default_value, said_no, column_no, with_column, columns_with, IsTable}
use Rattle.kt_script.specs.Writes.{op_form, ops_of, op_no, op_of, ops_no}
use Rattle.kt_script.specs.declared.forms.OpForm.{OpForm}
use Rattle.kt_script.specs.declared.forms.OpForm.TheVariants as form
use Rattle.kt_script.specs.Fit.{fits_column, selection_fits}
use Rattle.kt_script.specs.Loads.{load_columns, drawn, load_cells, load_kind, load_op, load_chore, load_step, load_session, load_plan, load_size, IsLoad}
use Rattle.kt_script.specs.Scripts.{Above, start, head, body, load, body_no, body_plan, body_after, command_no, command_of, first_lead, led_no, led_plan, led_after, is_begun, push_last, full_no, line_no, after, fault_from, above_end, Said, said, script_of, workload}
use Rattle.kt_script.specs.Outputs.{HasOutput}
use Rattle.kt_script.proofs.WordForms.{each_keeps}
use Rattle.kt_script.proofs.Cells.{literal_of}
use Rattle.kt_script.proofs.PrintedCells.{reads_again}
use Rattle.kt_script.proofs.Packed.{packed, onto, Taken}
use Rattle.kt_script.proofs.OpForms.{operation, operation_law, op_read}
use Rattle.kt_script.proofs.ScanFit.{scan_fits}
use Rattle.kt_script.proofs.Cuts.{some_piece}
use Rattle.kt_script.proofs.Loads.{load_taken}
use Rattle.kt_script.proofs.Spelling.{FitsAbove, after_kept, no_fault, script_is, scripts_are_fit}
use Rattle.kt_app.specs.Headline.{IsOutput}
use Rattle.kt_printed.proofs.Spelled.{IsSpelled, RowSpelled, KeySpelled, PastSpelled, OpsSpelled, SelectsSome, CommandSpelled, WorkSpelled}
use Rattle.kt_printed.proofs.Lines.{outputs_of}

-- ---- cells

held : (k : Kind) (x : Cell) → fits k x ≡ true → CellBytes x → IsSpelled x
held k cell.Null fit bytes = (k, tt)
held k (cell.Int n) fit bytes = (k, (fit, bytes))
held k (cell.Bool b) fit bytes = (k, (fit, bytes))
held k (cell.Bytes b) fit bytes = (k, (fit, bytes))

-- a cell that a text is read as
read_spelled : (k : Kind) (text : List ℕ) (x : Cell) → cell_in k text ≡ Ok x → IsSpelled x
read_spelled k text x e = let s = all_spelled k x text e in held k x s.fit s.of_bytes

no_null : (a b : Bool) → (a || (false && b)) ≡ true → a ≡ true
no_null true b h = refl
no_null false b h = h

some_spelled : (c : Column) (x : Cell) → ((has_kind c.kind x || (false && c.nullable)) && not (is_long x)) ≡ true → CellBytes x → IsSpelled x
some_spelled c x fit bytes =
    let both = both_true (has_kind c.kind x || (false && c.nullable)) (not (is_long x)) fit in
    read_spelled c.kind (literal c.kind x) x (reads_again c.kind x (no_null (has_kind c.kind x) c.nullable both.0) both.1 bytes).read

-- a cell that a column takes
cell_spelled : (c : Column) (x : Cell) → fits_column c x ≡ true → CellBytes x → IsSpelled x
cell_spelled c cell.Null fit bytes = (c.kind, tt)
cell_spelled c (cell.Int n) fit bytes = some_spelled c (cell.Int n) fit bytes
cell_spelled c (cell.Bool b) fit bytes = some_spelled c (cell.Bool b) fit bytes
cell_spelled c (cell.Bytes b) fit bytes = some_spelled c (cell.Bytes b) fit bytes

each_spelled : (cs : List Column) (xs : List Cell) → each_keeps literal_of cs xs → AllByRecursion IsSpelled xs
each_spelled [] [] k = tt
each_spelled [] (x ∷ xs) k = absurd k
each_spelled (c ∷ cs) [] k = absurd k
each_spelled (c ∷ cs) (x ∷ xs) k = (cell_spelled c x k.0.0 k.0.1, each_spelled cs xs k.1)

values_spelled : (cells : List (ℕ × Cell)) → AllByRecursion IsSpelled (map (λ (x : ℕ × Cell). x.1) cells) → RowSpelled cells
values_spelled [] all = tt
values_spelled (x ∷ cells) all = (all.0, values_spelled cells all.1)

packed_spelled : (g : Column → Option Cell) (cs : List Column) → AllByRecursion (λ c. Taken c (g c)) cs → RowSpelled (packed g cs)
packed_spelled g [] all = tt
packed_spelled g (c ∷ cs) all = by (g c) all.0 (packed_spelled g cs all.1)
  where
    by : (o : Option Cell) → Taken c o → RowSpelled (packed g cs) → RowSpelled (onto c.id o (packed g cs))
    by None taken rest = rest
    by (Some x) taken rest = (cell_spelled c x taken.0 taken.1, rest)

-- ---- operations

abbrev pub OpSpelled : List Column → RowOp → Type 0
OpSpelled columns o = KeySpelled (key_kinds columns) o.key × RowSpelled o.cells

op_spelled : (columns : List Column) (kind : OpKind) (key : List ℕ) (cells : List (ℕ × Cell)) → (operation columns).keeps (record { kind = kind; key = key; cells = cells }) → OpSpelled columns (record { kind = kind; key = key; cells = cells })
op_spelled columns kind key cells k = (each_spelled (key_columns columns) (key_cells (key_kinds columns) key) k.0.0.0.0, by kind k)
  where
    by : (kind : OpKind) → (operation columns).keeps (record { kind = kind; key = key; cells = cells }) → RowSpelled cells
    by op.Insert k = values_spelled cells (each_spelled (other_columns columns) (map (λ (x : ℕ × Cell). x.1) cells) k.0.1.0)
    by op.Upsert k = subst RowSpelled (sym k.0.1.0.is) (packed_spelled k.0.1.0.at (other_columns columns) k.0.1.0.each)
    by op.Update k = subst RowSpelled (sym k.0.1.0.is) (packed_spelled k.0.1.0.at (other_columns columns) k.0.1.0.each)
    by op.Delete k = subst RowSpelled (sym k.0.1) tt
    by op.InsertIgnore k = values_spelled cells (each_spelled (other_columns columns) (map (λ (x : ℕ × Cell). x.1) cells) k.0.1.0)
    by op.UpdateIgnore k = subst RowSpelled (sym k.0.1.0.is) (packed_spelled k.0.1.0.at (other_columns columns) k.0.1.0.each)
    by op.DeleteIgnore k = subst RowSpelled (sym k.0.1) tt

-- an operation that is taken
pub op_of_spelled : (columns : List Column) → IsTable columns → (ws : List (List ℕ)) → sound ≤ op_no columns ws → OpSpelled columns (op_of columns ws)
op_of_spelled columns table ws taken =
    let form = op_read columns ws in
    let s = (operation_law columns table).said ws (subst (λ n. sound ≤ n) form.0 taken) in
    let o = op_of columns ws in
    op_spelled columns o.kind o.key o.cells (subst (operation columns).keeps (sym (form.1 taken)) s.0)

ops_spelled : (columns : List Column) → IsTable columns → (ops : List (List (List ℕ))) → sound ≤ ops_no columns ops → OpsSpelled (key_kinds columns) (map (op_of columns) ops)
ops_spelled columns table [] h = tt
ops_spelled columns table (ws ∷ ops) h = (op_of_spelled columns table ws (omega (arith, h)), ops_spelled columns table ops (omega (arith, h)))

-- ---- commands

selects : (columns : List Column) (o : Option (List ℕ)) → selection_fits columns o ≡ true → SelectsSome o
selects columns None fit = tt
selects columns (Some []) fit = absurd cc
selects columns (Some (id ∷ ids)) fit = omega arith

command_spelled : (columns : List Column) (w : Word) (words : List (List ℕ)) → IsTable columns → sound ≤ command_no columns w words → CommandSpelled (key_kinds columns) (command_of columns w words)
command_spelled columns word.Scan words table h = selects columns _ (scan_fits columns (drop 1 words) table.ids h).columns_there
command_spelled columns word.Mark words table h = tt
command_spelled columns (word.Chore c) words table h = tt
command_spelled columns (word.Op k) words table h = ops_spelled columns table (ops_of words) (omega (arith, h))

pushed : (P : Command → Type 0) (c : Command) (plan : List (List Command)) → P c → AllByRecursion (AllByRecursion P) plan → AllByRecursion (AllByRecursion P) (push_last c plan)
pushed P c [] p all = ((p, tt), tt)
pushed P c (commands ∷ []) p all = (All-append P commands (c ∷ []) all.0 (p, tt), tt)
pushed P c (commands ∷ more ∷ plan) p all = (all.0, pushed P c (more ∷ plan) p all.1)

abbrev PlanSpelled : List Column → List (List Command) → Type 0
PlanSpelled columns plan = AllByRecursion (AllByRecursion (CommandSpelled (key_kinds columns))) plan

body_spelled : (columns : List Column) (plan : List (List Command)) (words : List (List ℕ)) → IsTable columns → PlanSpelled columns plan → sound ≤ body_no columns plan words → PlanSpelled columns (body_plan columns plan words)
body_spelled columns plan words table all h = by (first_lead words) h
  where
    in_session : (w : Word) (b : Bool) → sound ≤ (if b then min (command_no columns w words) (full_no plan) else 11) → PlanSpelled columns (push_last (command_of columns w words) plan)
    in_session w true g = pushed (CommandSpelled (key_kinds columns)) (command_of columns w words) plan (command_spelled columns w words table (omega (arith, g))) all
    in_session w false g = absurd (omega (arith, g))

    by : (l : Option Lead) → sound ≤ led_no columns plan l words → PlanSpelled columns (led_plan columns plan l words)
    by None g = absurd (omega (arith, g))
    by (Some lead.Session) g = All-append (AllByRecursion (CommandSpelled (key_kinds columns))) plan ([] ∷ []) all (tt, tt)
    by (Some lead.Load) g = all
    by (Some (lead.Command w)) g = in_session w (is_begun plan) g

-- ---- loads

below : (n : ℕ) → n < 2000 → nat_lt n (2 ^ 63) ≡ true
below n h = grind (arith, nat_tests)

small_spelled : (n : ℕ) → n < 2000 → IsSpelled (cell.Int (pos n))
small_spelled n h = held kind.Int64 (cell.Int (pos n)) (below n h) tt

id_spelled : (id : ℕ) → id < 2000 → KeySpelled (key_kinds load_columns) (number_key w64 (pos id))
id_spelled id h = subst (AllByRecursion IsSpelled) (sym cells) (small_spelled id h, tt)
  where
    number : has_kind kind.Int64 (cell.Int (pos id)) ≡ true
    number = below id h

    cells : key_cells (key_kinds load_columns) (number_key w64 (pos id)) ≡ cell.Int (pos id) ∷ []
    cells = keys_again (key_kinds load_columns) (cell.Int (pos id) ∷ []) (number_key w64 (pos id)) (record { key = ap (λ b. b && true) number; spelled = refl })

load_op_spelled : (s y : ℕ) → s ≤ 4 → OpSpelled load_columns (load_op s y)
load_op_spelled s y few = (id_spelled (4 * ((y / 4) % 256) + s - 1) (omega (arith, few)), by (op_form (load_kind y)))
  where
    by : (f : OpForm) → RowSpelled (load_cells f ((y / 1024) % 1000))
    by form.Literals = (small_spelled ((y / 1024) % 1000) (omega arith), tt)
    by form.RowNames = (small_spelled ((y / 1024) % 1000) (omega arith), tt)
    by form.Names = (small_spelled ((y / 1024) % 1000) (omega arith), tt)
    by form.Key = tt

step_spelled : (s k : ℕ) → s ≤ 4 → AllByRecursion (CommandSpelled (key_kinds load_columns)) (load_step s k)
step_spelled s k few = ((load_op_spelled s (drawn s k / 2 ^ 33) few, tt), by (k % 64 == 0))
  where
    by : (b : Bool) → AllByRecursion (CommandSpelled (key_kinds load_columns)) (if b then command.Chore (load_chore s (k / 64)) ∷ [] else [])
    by true = (tt, tt)
    by false = tt

session_spelled : (n s : ℕ) → s ≤ 4 → AllByRecursion (CommandSpelled (key_kinds load_columns)) (load_session n s)
session_spelled zero s few = tt
session_spelled (suc n) s few = All-append (CommandSpelled (key_kinds load_columns)) (load_session n s) (load_step s (suc n)) (session_spelled n s few) (step_spelled s (suc n) few)

load_spelled : (columns : List Column) (plan : List (List Command)) (n : ℕ) → IsLoad columns plan n → PlanSpelled columns plan
load_spelled columns plan n is =
    let sessions : PlanSpelled load_columns (load_plan n) = (session_spelled n 1 (omega arith), (session_spelled n 2 (omega arith), (session_spelled n 3 (omega arith), (session_spelled n 4 (omega arith), tt)))) in
    subst (λ cs. PlanSpelled cs plan) (sym is.table) (subst (PlanSpelled load_columns) (sym is.plan_is) sessions)

-- ---- columns

abbrev DefaultSpelled : Column → Type 0
DefaultSpelled c = IsSpelled (unwrap_or c.default cell.Null)

default_spelled : (k : Kind) (text : Option (List ℕ)) → sound ≤ default_no k text → IsSpelled (unwrap_or (default_value k text) cell.Null)
default_spelled k None h = (k, tt)
default_spelled k (Some text) h = by (cell_in k text) refl h
  where
    by : (r : Result Cell LiteralNo) → cell_in k text ≡ r → sound ≤ default_reason r → IsSpelled (cell_or_null r)
    by (Ok x) e g = read_spelled k text x e
    by (Err reason) e g = (k, tt)

column_spelled : (columns : List Column) (line : List ℕ) → AllByRecursion DefaultSpelled columns → sound ≤ column_no columns line → AllByRecursion DefaultSpelled (columns_with columns line)
column_spelled columns line all h = by (column_line (words_of line)) h
  where
    by : (o : Option ColumnLine) → sound ≤ said_no columns o → AllByRecursion DefaultSpelled (with_column columns o)
    by None g = all
    by (Some l) g = All-append DefaultSpelled columns _ all (default_spelled l.kind l.default (omega (arith, g)), tt)

-- ---- line by line

abbrev SpelledAbove : Above → Type 0
SpelledAbove start = Unit {0}
SpelledAbove (head columns) = AllByRecursion DefaultSpelled columns
SpelledAbove (body columns plan) = AllByRecursion DefaultSpelled columns × PlanSpelled columns plan
SpelledAbove (load columns n) = AllByRecursion DefaultSpelled columns × PlanSpelled columns (load_plan n)

-- below a line that is no column's
below_spelled : (columns : List Column) (plan : List (List Command)) (words : List (List ℕ)) → IsTable columns → AllByRecursion DefaultSpelled columns → PlanSpelled columns plan → sound ≤ body_no columns plan words → SpelledAbove (body_after columns plan words)
below_spelled columns plan words table all sessions h = by (first_lead words) h (body_spelled columns plan words table sessions h)
  where
    by : (l : Option Lead) → sound ≤ led_no columns plan l words → PlanSpelled columns (led_plan columns plan l words) → SpelledAbove (led_after columns plan l words)
    by None g p = absurd (omega (arith, g))
    by (Some lead.Session) g p = (all, p)
    by (Some lead.Load) g p = (all, load_spelled columns (load_plan (load_size words)) (load_size words) (load_taken columns plan words table.ids g))
    by (Some (lead.Command w)) g p = (all, p)

after_spelled : (above : Above) (line : List ℕ) → FitsAbove above → SpelledAbove above → sound ≤ line_no above line → SpelledAbove (after above line)
after_spelled start line fits all h = tt
after_spelled (head columns) line fits all h = by (begins_column line) (list_any (λ c. c.key) columns) h
  where
    by : (b k : Bool) → sound ≤ (if b then column_no columns line else (if k then body_no columns [] (words_of line) else 5)) → SpelledAbove (if b then head (columns_with columns line) else body_after columns [] (words_of line))
    by true k g = column_spelled columns line all g
    by false true g = below_spelled columns [] (words_of line) fits all tt g
    by false false g = absurd (omega arith)
after_spelled (body columns plan) line fits all h = below_spelled columns plan (words_of line) fits.0 all.0 all.1 h
after_spelled (load columns n) line fits all h = absurd (omega (arith, h))

all_above : (above : Above) (n : ℕ) (piece : List ℕ) (pieces : List (List ℕ)) → FitsAbove above → SpelledAbove above → fault_from above n (piece ∷ pieces) ≡ None → SpelledAbove (above_end above (piece ∷ pieces))
all_above above n rest [] fits all none = all
all_above above n line (more ∷ pieces) fits all none =
    let parts = no_fault n (line_no above line) (fault_from (after above line) (n + 1) (more ∷ pieces)) none in
    all_above (after above line) (n + 1) more pieces (after_kept above line fits parts.0) (after_spelled above line fits all parts.0) parts.1

abbrev SaidSpelled : Said → Type 0
SaidSpelled s = AllByRecursion DefaultSpelled s.columns × PlanSpelled s.columns s.plan

end_spelled : (above : Above) → SpelledAbove above → SaidSpelled (said above)
end_spelled start all = (tt, tt)
end_spelled (head columns) all = (all, tt)
end_spelled (body columns plan) all = all
end_spelled (load columns n) all = all

said_spelled : (text : List ℕ) (s : Said) → script_of text ≡ Some s → SaidSpelled s
said_spelled text s e =
    let i = script_is text s e in
    let some = some_piece 10 text in
    subst SaidSpelled i.says (subst (λ ps. SaidSpelled (said (above_end start ps))) (sym some.2) (end_spelled _ (all_above start 1 some.0 some.1 tt tt (ap (fault_from start 1) (sym some.2) ∙ i.taken))))

-- ---- the workload

some_kept : (p : Column → Bool) (cs : List Column) → list_any p cs ≡ true → 1 ≤ length (filter p cs)
some_kept p [] h = absurd cc
some_kept p (c ∷ cs) h = by (p c) h (some_kept p cs)
  where
    by : (b : Bool) → (b || list_any p cs) ≡ true → (list_any p cs ≡ true → 1 ≤ length (filter p cs)) → 1 ≤ length (cond b (c ∷ filter p cs) (filter p cs))
    by true g later = omega arith
    by false g later = later g

kinds_are : (cs : List Column) → map (λ (c : Column). c.kind) cs ≡ map (λ (k : ℕ × Kind). k.1) (map (λ (c : Column). (c.id, c.kind)) cs)
kinds_are [] = refl
kinds_are (c ∷ cs) = ap (λ kinds. c.kind ∷ kinds) (kinds_are cs)

work_spelled : (text : List ℕ) (s : Said) (cells : ℕ) → script_of text ≡ Some s → WorkSpelled (workload cells s)
work_spelled text s cells e =
    let all = said_spelled text s e in
    let some = some_kept (λ c. c.key) s.columns (scripts_are_fit text s e).key in
    record {
      key = omega (arith, some, length-map {B = ℕ × Kind} (key_columns s.columns) (λ (c : Column). (c.id, c.kind)));
      fill = All-map (λ (x : ℕ × Cell). IsSpelled x.1) (λ (c : Column). (c.id, unwrap_or c.default cell.Null)) (other_columns s.columns) (all_kept_by (λ (c : Column). not c.key) DefaultSpelled s.columns all.0);
      plan = subst (λ kinds. AllByRecursion (AllByRecursion (CommandSpelled kinds)) s.plan) (kinds_are (key_columns s.columns)) all.1;
    }

-- so is what is printed of a run of a script
pub script_outputs : (script : List ℕ) (says : Said) (cells : ℕ) (past : Past) (c : ℕ) (stopped : Bool) (rowsets : ℕ) (text readings : List ℕ) (events : List Event) → script_of script ≡ Some says → PastSpelled (key_kinds says.columns) past
    → IsOutput (workload cells says) past c stopped rowsets text readings events → HasOutput text
script_outputs script says cells past c stopped rowsets text readings events e spelled run =
    outputs_of (workload cells says) past c stopped rowsets text readings events (work_spelled script says cells e) (subst (λ kinds. PastSpelled kinds past) (kinds_are (key_columns says.columns)) spelled) run
