-- What a text says keeps the rules of its table and of the grammar.
use Rattle.std.proofs.Common.{◌≡◌, ℕ, ◌+◌, ◌≤◌, Bool, true, false, not, List, [], ◌∷◌, length, Option, Some, None, refl, sym, ap, subst, ◌∙◌, arith}
use Rattle.std.specs.Prelude.{if◌then◌else◌, IfSome, nat_lt}
use Rattle.std.specs.List.{list_any}
use Rattle.std.proofs.lemmas.Bool.Decides.{nat_tests}
use Rattle.kt_schema.specs.declared.column.Column.{Column}
use Rattle.kt_history.specs.declared.command.Command.{Command}
use Rattle.kt_script.specs.Pieces.{cut, words_of}
use Rattle.kt_script.specs.Reasons.{sound, reason_if}
use Rattle.kt_script.specs.Columns.{ColumnLine, column_line, begins_column, said_no, column_no, with_column, columns_with, IsTable}
use Rattle.kt_script.specs.declared.leads.Lead.{Lead}
use Rattle.kt_script.specs.declared.leads.Lead.TheVariants as lead
use Rattle.kt_script.specs.Loads.{load_plan, IsLoad}
use Rattle.kt_script.specs.Scripts.{Above, start, head, body, load, body_no, body_plan, body_after, led_no, led_plan, led_after, first_lead, most_bytes, line_no, rest_no, after, Fault, fault_if, fault_from, above_end, Said, said, said_unless, script_of, load_in, load_of}
use Rattle.kt_script.specs.Fit.{PlanFits}
use Rattle.kt_script.specs.Spelled.{SaidFits, scripts_fit, loads_are_plans}
use Rattle.kt_script.proofs.Cuts.{some_piece}
use Rattle.kt_script.proofs.Tables.{table_none, table_more, column_fits}
use Rattle.kt_script.proofs.Bodies.{body_fits}
use Rattle.kt_script.proofs.WriteLaws.{write_fits}
use Rattle.kt_script.proofs.Loads.{load_taken, load_fits}

-- what stands above a line keeps the rules
abbrev pub FitsAbove : Above → Type 0
FitsAbove start = Unit {0}
FitsAbove (head columns) = IsTable columns
FitsAbove (body columns plan) = IsTable columns × (list_any (λ c. c.key) columns ≡ true) × PlanFits columns plan
FitsAbove (load columns n) = IsTable columns × (list_any (λ c. c.key) columns ≡ true) × IsLoad columns (load_plan n) n

no_plan : (columns : List Column) → PlanFits columns []
no_plan columns = record { sessions = omega arith; commands = omega arith; each = tt }

-- ---- line by line

body_kept : (columns : List Column) (plan : List (List Command)) (words : List (List ℕ)) → IsTable columns → list_any (λ c. c.key) columns ≡ true → PlanFits columns plan → sound ≤ body_no columns plan words → PlanFits columns (body_plan columns plan words)
body_kept columns plan words table key fits h = body_fits columns plan words table.ids (λ ws. write_fits columns ws table) fits h

-- what stands below a line that is no column's
below_kept : (columns : List Column) (plan : List (List Command)) (words : List (List ℕ)) → IsTable columns → list_any (λ c. c.key) columns ≡ true → PlanFits columns plan → sound ≤ body_no columns plan words → FitsAbove (body_after columns plan words)
below_kept columns plan words table key fits h = by (first_lead words) h (body_kept columns plan words table key fits h)
  where
    by : (l : Option Lead) → sound ≤ led_no columns plan l words → PlanFits columns (led_plan columns plan l words) → FitsAbove (led_after columns plan l words)
    by None g p = absurd (omega (arith, g))
    by (Some lead.Session) g p = (table, key, p)
    by (Some lead.Load) g p = (table, key, load_taken columns plan words table.ids g)
    by (Some (lead.Command w)) g p = (table, key, p)

column_kept : (columns : List Column) (line : List ℕ) → IsTable columns → sound ≤ column_no columns line → IsTable (columns_with columns line)
column_kept columns line table h = by (column_line (words_of line)) refl
  where
    by : (o : Option ColumnLine) → column_line (words_of line) ≡ o → IsTable (with_column columns o)
    by None e = let no : column_no columns line ≡ 4 = ap (said_no columns) e in absurd (omega (arith, h, no))
    by (Some c) e = table_more columns _ table (column_fits columns line _ h (ap (with_column columns) e))

pub after_kept : (above : Above) (line : List ℕ) → FitsAbove above → sound ≤ line_no above line → FitsAbove (after above line)
after_kept start line fits h = table_none
after_kept (head columns) line fits h = by (begins_column line) (list_any (λ c. c.key) columns) refl h
  where
    by : (b k : Bool) → list_any (λ c. c.key) columns ≡ k → sound ≤ (if b then column_no columns line else (if k then body_no columns [] (words_of line) else 5))
        → FitsAbove (if b then head (columns_with columns line) else body_after columns [] (words_of line))
    by true k key g = column_kept columns line fits g
    by false true key g = below_kept columns [] (words_of line) fits key (no_plan columns) g
    by false false key g = absurd (omega arith)
after_kept (body columns plan) line fits h = below_kept columns plan (words_of line) fits.0 fits.1 fits.2 h
after_kept (load columns n) line fits h = absurd (omega (arith, h))

pub no_fault : (n reason : ℕ) (later : Option Fault) → fault_if n reason later ≡ None → (sound ≤ reason) × (later ≡ None)
no_fault n reason later e = by (nat_lt reason sound) refl e
  where
    high : nat_lt reason sound ≡ false → sound ≤ reason
    high t = grind (arith, nat_tests)

    by : (b : Bool) → nat_lt reason sound ≡ b → (if b then Some (record { number = n; reason = reason }) else later) ≡ None → (sound ≤ reason) × (later ≡ None)
    by true t g = absurd cc
    by false t g = (high t, g)

-- ---- the end

-- what a text says whose end stands below these
record EndFits (above : Above) : Type 0 where
  fits : SaidFits (said above)
  loads : IfSome (load_in above) (λ n. IsLoad (said above).columns (said above).plan n)

end_kept : (above : Above) (rest : List ℕ) → FitsAbove above → sound ≤ rest_no above rest → EndFits above
end_kept above (b ∷ bytes) fits h = absurd (omega arith)
end_kept start [] fits h = absurd (omega arith)
end_kept (head columns) [] fits h = by (list_any (λ c. c.key) columns) refl h
  where
    by : (k : Bool) → list_any (λ c. c.key) columns ≡ k → sound ≤ reason_if (not k) 5 → EndFits (head columns)
    by true key g = record { fits = record { table = fits; key = key; plan = no_plan columns }; loads = tt }
    by false key g = absurd (omega arith)
end_kept (body columns plan) [] fits h = record { fits = record { table = fits.0; key = fits.1; plan = fits.2 }; loads = tt }
end_kept (load columns n) [] fits h = record { fits = record { table = fits.0; key = fits.1; plan = load_fits columns (load_plan n) n fits.2 }; loads = fits.2 }

all_kept : (above : Above) (n : ℕ) (piece : List ℕ) (pieces : List (List ℕ)) → FitsAbove above → fault_from above n (piece ∷ pieces) ≡ None → EndFits (above_end above (piece ∷ pieces))
all_kept above n rest [] fits none = end_kept above rest fits (no_fault n (rest_no above rest) None none).0
all_kept above n line (more ∷ pieces) fits none =
    let parts = no_fault n (line_no above line) (fault_from (after above line) (n + 1) (more ∷ pieces)) none in
    all_kept (after above line) (n + 1) more pieces (after_kept above line fits parts.0) parts.1

-- a text that is a script
pub record IsScript (text : List ℕ) (s : Said) : Type 0 where
  pub short : nat_lt most_bytes (length text) ≡ false
  pub taken : fault_from start 1 (cut 10 text) ≡ None
  pub says : said (above_end start (cut 10 text)) ≡ s

pub script_is : (text : List ℕ) (s : Said) → script_of text ≡ Some s → IsScript text s
script_is text s e = by (nat_lt most_bytes (length text)) refl (fault_from start 1 (cut 10 text)) refl e
  where
    by : (t : Bool) → nat_lt most_bytes (length text) ≡ t → (o : Option Fault) → fault_from start 1 (cut 10 text) ≡ o → said_unless (if t then Some (record { number = 0; reason = 1 }) else o) (said (above_end start (cut 10 text))) ≡ Some s → IsScript text s
    by true p o q g = absurd cc
    by false p None q g = record { short = p; taken = q; says = cc }
    by false p (Some fault) q g = absurd cc

pub is_script : (text : List ℕ) (s : Said) → IsScript text s → script_of text ≡ Some s
is_script text s i =
    ap (λ t. said_unless (if t then Some (record { number = 0; reason = 1 }) else fault_from start 1 (cut 10 text)) (said (above_end start (cut 10 text)))) i.short
    ∙ (ap (λ o. said_unless o (said (above_end start (cut 10 text)))) i.taken ∙ ap Some i.says)

end_fits : (text : List ℕ) (s : Said) → IsScript text s → EndFits (above_end start (cut 10 text))
end_fits text s i =
    let some = some_piece 10 text in
    subst (λ ps. EndFits (above_end start ps)) (sym some.2) (all_kept start 1 some.0 some.1 tt (ap (fault_from start 1) (sym some.2) ∙ i.taken))

pub scripts_are_fit : scripts_fit
scripts_are_fit text s e = let i = script_is text s e in subst SaidFits i.says (end_fits text s i).fits

pub plans_of_loads : loads_are_plans
plans_of_loads text s e = let i = script_is text s e in subst (λ (x : Said). IfSome (load_of text) (λ n. IsLoad x.columns x.plan n)) i.says (end_fits text s i).loads
