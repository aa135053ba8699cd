-- The columns of a script: their ids count up from 1, they are at most 300, and each takes its default.
use Rattle.std.proofs.Common.{◌≡◌, ℕ, ◌+◌, ◌≤◌, ◌<◌, ◌^◌, Bool, true, false, not, ◌||◌, ◌&&◌, List, [], ◌∷◌, ◌++◌, length, Option, Some, None, Result, Ok, Err, refl, sym, ap, subst, ◌∙◌, arith}
use Rattle.std.specs.Prelude.{if◌then◌else◌}
use Rattle.std.specs.List.{list_any, AllByRecursion}
use Rattle.kt_base.specs.declared.cell.Cell.{Cell}
use Rattle.kt_base.specs.declared.cell.Kind.{Kind}
use Rattle.kt_base.specs.declared.literal.LiteralNo.{LiteralNo}
use Rattle.kt_base.specs.declared.literal.LiteralNo.TheVariants as no
use Rattle.kt_base.specs.Literals.{cell_in}
use Rattle.kt_key.specs.Fit.{has_kind}
use Rattle.kt_schema.specs.declared.column.Column.{Column}
use Rattle.kt_schema.specs.Rows.{is_null, is_long}
use Rattle.kt_script.specs.Pieces.{words_of}
use Rattle.kt_script.specs.Reasons.{sound, cell_reason, cell_value}
use Rattle.kt_script.specs.Columns.{ColumnLine, column_line, begins_column, default_reason, default_no, default_value, said_no, column_no, with_column, columns_with}
use Rattle.kt_script.specs.Fit.{compares}
use Rattle.kt_history.specs.declared.command.Command.{Command}
use Rattle.kt_script.specs.declared.leads.Lead.{Lead}
use Rattle.kt_script.specs.declared.leads.Lead.TheVariants as lead
use Rattle.kt_script.specs.Scripts.{Above, start, head, body, load, body_no, led_after, body_after, first_lead, line_no, after, fault_from, above_end, Said, said, script_of}
use Rattle.kt_script.proofs.Cells.{cell_taken}
use Rattle.kt_script.proofs.Cuts.{some_piece}
use Rattle.kt_script.proofs.Spelling.{no_fault, script_is, scripts_are_fit}
use Rattle.kt_app.specs.Session.{IsCounted, is_default}
use Rattle.kt_app.proofs.Tables.{is_table}
use Rattle.kt_app.proofs.Named.{said_names}

-- ---- a default that is taken

of_kind : (k n l : Bool) → ((k || (n && false)) && l) ≡ true → (k && l) ≡ true
of_kind true n l h = h
of_kind false true l h = h
of_kind false false l h = h

default_compares : (c : Column) (word : List ℕ) → sound ≤ default_reason (cell_in c.kind word) → compares c (cell_value c.kind word) ≡ true
default_compares c word h =
    let x = cell_value c.kind word in
    of_kind (has_kind c.kind x) (is_null x) (not (is_long x)) (cell_taken (record { id = c.id; name = c.name; kind = c.kind; key = c.key; nullable = false; default = c.default }) word (never_null (cell_in c.kind word) h)).0
  where
    never_null : (r : Result Cell LiteralNo) → sound ≤ default_reason r → 17 < cell_reason false r
    never_null (Ok x) g = omega arith
    never_null (Err no.Form) g = absurd (omega arith)
    never_null (Err no.Null) g = absurd (omega arith)
    never_null (Err no.Kind) g = absurd (omega arith)
    never_null (Err no.Long) g = absurd (omega arith)
    never_null (Err no.Memory) g = omega arith

-- ---- line by line

abbrev AreDefaults : List Column → Type 0
AreDefaults columns = AllByRecursion (λ c. is_default c c.default ≡ true) columns

defaults_push : (columns : List Column) (c : Column) → AreDefaults columns → is_default c c.default ≡ true → AreDefaults (columns ++ c ∷ [])
defaults_push [] c d one = (one, tt)
defaults_push (x ∷ columns) c d one = (d.0, defaults_push columns c d.1 one)

-- the column of a line, with this default
abbrev new_column : List Column → ColumnLine → Option Cell → Column
new_column columns c x = record { id = length columns + 1; name = c.name; kind = c.kind; key = c.key; nullable = c.nullable; default = x }

column_defaults : (columns : List Column) (o : Option ColumnLine) → AreDefaults columns → sound ≤ said_no columns o → AreDefaults (with_column columns o)
column_defaults columns None d h = d
column_defaults columns (Some c) d h = defaults_push columns (new_column columns c (default_value c.kind c.default)) d (its c.default (omega (arith, h)))
  where
    its : (t : Option (List ℕ)) → sound ≤ default_no c.kind t → is_default (new_column columns c (default_value c.kind t)) (default_value c.kind t) ≡ true
    its None g = refl
    its (Some word) g = default_compares (new_column columns c (default_value c.kind (Some word))) word g

abbrev DefaultsAbove : Above → Type 0
DefaultsAbove start = Unit {0}
DefaultsAbove (head columns) = AreDefaults columns
DefaultsAbove (body columns plan) = AreDefaults columns
DefaultsAbove (load columns n) = AreDefaults columns

-- a line of the body leaves the columns
body_defaults : (columns : List Column) (plan : List (List Command)) (words : List (List ℕ)) → AreDefaults columns → DefaultsAbove (body_after columns plan words)
body_defaults columns plan words d = by (first_lead words)
  where
    by : (l : Option Lead) → DefaultsAbove (led_after columns plan l words)
    by None = d
    by (Some lead.Session) = d
    by (Some lead.Load) = d
    by (Some (lead.Command w)) = d

after_defaults : (above : Above) (line : List ℕ) → DefaultsAbove above → sound ≤ line_no above line → DefaultsAbove (after above line)
after_defaults start line d h = tt
after_defaults (head columns) line d h = by (begins_column line) h
  where
    by : (b : Bool) → sound ≤ (if b then column_no columns line else (if list_any (λ c. c.key) columns then body_no columns [] (words_of line) else 5))
        → DefaultsAbove (if b then head (columns_with columns line) else body_after columns [] (words_of line))
    by true g = column_defaults columns (column_line (words_of line)) d g
    by false g = body_defaults columns [] (words_of line) d
after_defaults (body columns plan) line d h = body_defaults columns plan (words_of line) d
after_defaults (load columns n) line d h = d

defaults_said : (above : Above) → DefaultsAbove above → AreDefaults (said above).columns
defaults_said start d = tt
defaults_said (head columns) d = d
defaults_said (body columns plan) d = d
defaults_said (load columns n) d = d

all_defaults : (above : Above) (n : ℕ) (piece : List ℕ) (pieces : List (List ℕ)) → DefaultsAbove above → fault_from above n (piece ∷ pieces) ≡ None → AreDefaults (said (above_end above (piece ∷ pieces))).columns
all_defaults above n rest [] d none = defaults_said above d
all_defaults above n line (more ∷ pieces) d none =
    let parts = no_fault n (line_no above line) (fault_from (after above line) (n + 1) (more ∷ pieces)) none in
    all_defaults (after above line) (n + 1) more pieces (after_defaults above line d parts.0) parts.1

said_defaults : (text : List ℕ) (s : Said) → script_of text ≡ Some s → AreDefaults s.columns
said_defaults text s e =
    let i = script_is text s e in
    let some = some_piece 10 text in
    subst (λ (x : Said). AreDefaults x.columns) i.says (subst (λ ps. AreDefaults (said (above_end start ps)).columns) (sym some.2) (all_defaults start 1 some.0 some.1 tt (ap (fault_from start 1) (sym some.2) ∙ i.taken)))

-- names of at most 64 bytes, line by line, as the defaults
abbrev AreNamed : List Column → Type 0
AreNamed columns = AllByRecursion (λ (c : Column). length c.name < 2 ^ 8) columns

both_of : (columns : List Column) → AreNamed columns → AreDefaults columns → AllByRecursion (λ (c : Column). (length c.name < 2 ^ 8) × (is_default c c.default ≡ true)) columns
both_of [] names defaults = tt
both_of (c ∷ columns) names defaults = ((names.0, defaults.0), both_of columns names.1 defaults.1)

pub said_counted : (text : List ℕ) (s : Said) → script_of text ≡ Some s → IsCounted s.columns
said_counted text s h =
    let fits = scripts_are_fit text s h in
    let defaults = said_defaults text s h in
    record { counted = fits.table.ids; few = fits.table.few; defaults = defaults; table = is_table s.columns fits.table fits.key (both_of s.columns (said_names text s h) defaults) }
