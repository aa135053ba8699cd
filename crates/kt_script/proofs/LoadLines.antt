-- Load lines as they are read.
use Rattle.std.proofs.Common.{◌≡◌, ℕ, ◌+◌, ◌≤◌, Bool, true, false, not, List, [], ◌∷◌, drop, Option, Some, None, Ok, Err, min, refl, sym, ap, ◌∙◌, arith}
use Rattle.std.specs.Prelude.{if◌then◌else◌, ◌&&◌, nat_lt, nat_le}
use Rattle.std.specs.List.{list_any}
use Rattle.std.proofs.lemmas.Bool.{false≢true}
use Rattle.std.proofs.lemmas.Bool.Decides.{nat_tests}
use Rattle.kt_schema.specs.declared.column.Column.{Column}
use Rattle.kt_script.specs.declared.refusal.ScriptNo.{ScriptNo}
use Rattle.kt_script.specs.declared.refusal.ScriptNo.TheVariants as why
use Rattle.kt_script.specs.declared.leads.Lead.{Lead}
use Rattle.kt_script.specs.declared.leads.Lead.TheVariants as lead
use Rattle.kt_script.specs.declared.load.LoadLine.{LoadLine}
use Rattle.kt_script.specs.Pieces.{cut, words_of, words_in}
use Rattle.kt_script.specs.Reasons.{sound, reason_if}
use Rattle.kt_script.specs.Columns.{begins_column, columns_with, IsTable}
use Rattle.kt_script.specs.Leads.{alone_no}
use Rattle.kt_script.specs.Times.{time_or_zero}
use Rattle.kt_script.specs.Loads.{is_load_table, load_number, may_load}
use Rattle.kt_script.specs.Scripts.{head, body, load, first_lead, first_piece, led_no, led_after, body_no, body_after, line_no, fault_from, above_end, at, IsLoadText, IsBelowLoad}
use Rattle.kt_script.specs.Fit.{IsLoadRead}
use Rattle.kt_script.proofs.Faults.{fault_step, end_step, first_step, told, untold}
use Rattle.kt_script.proofs.Bodies.{faults_below}
use Rattle.kt_script.proofs.Loads.{table_is}

-- ---- below the line

-- why a line below a load line is refused, by what it begins
abbrev below_load : Option Lead → ℕ
below_load None = 11
below_load (Some lead.Session) = 12
below_load (Some lead.Load) = 12
below_load (Some (lead.Command w)) = 11

pub below_is : (columns : List Column) (words : List (List ℕ)) (l : Option Lead) → first_lead words ≡ l → min 12 (body_no columns [] words) ≡ below_load l
below_is columns words l first = ap (λ x. min 12 (led_no columns [] x words)) first ∙ by l
  where
    alone : (ws : List (List ℕ)) → min 12 (min (alone_no ws) sound) ≡ 12
    alone [] = refl
    alone (w ∷ []) = refl
    alone (w ∷ v ∷ ws) = refl

    refused : (b : Bool) → min 12 (reason_if (not (b && true)) 12) ≡ 12
    refused true = refl
    refused false = refl

    by : (x : Option Lead) → min 12 (led_no columns [] x words) ≡ below_load x
    by None = refl
    by (Some lead.Session) = alone words
    by (Some lead.Load) = refused (may_load (load_number (drop 1 words)) && is_load_table columns)
    by (Some (lead.Command w)) = refl

pub load_stays : (columns : List Column) (n : ℕ) (pieces : List (List ℕ)) → above_end (load columns n) pieces ≡ load columns n
load_stays columns n [] = refl
load_stays columns n (rest ∷ []) = refl
load_stays columns n (text ∷ more ∷ pieces) = load_stays columns n (more ∷ pieces)

pub line_below : (number reason : ℕ) (text front behind : List ℕ) → cut 10 text ≡ front ∷ cut 10 behind → ((columns : List Column) → reason ≡ min 12 (body_no columns [] (words_of front)))
    → (columns : List Column) (n : ℕ) → fault_from (load columns n) number (cut 10 text) ≡ at number reason
line_below number reason text front behind is least columns n =
    let r : reason ≡ min 12 (body_no columns [] (words_of front)) = least columns in
    fault_step (load columns n) number text front behind is ∙ told number reason (line_no (load columns n) front) _ (sym r) (omega (arith, r))

-- ---- the line

module _ (columns : List Column) (text : List ℕ) (l : LoadLine) (number : ℕ) (t : IsLoadText text l) (key : list_any (λ c. c.key) columns ≡ true) (none : begins_column (first_piece (cut 10 text)) ≡ false) where
  -- the line is refused by its number and the columns alone
  line_is : body_no columns [] (words_of t.line) ≡ reason_if (not ((may_load (load_number (words_in l.rest)) && is_load_table columns) && true)) 12
  line_is = ap (λ x. led_no columns [] x (words_of t.line)) t.begins ∙ ap (λ ws. reason_if (not ((may_load (load_number ws) && is_load_table columns) && true)) 12) t.words

  pub load_no_line : (may_load (load_number (words_in l.rest)) && is_load_table columns) ≡ false → fault_from (head columns) number (cut 10 text) ≡ at number 12
  load_no_line off =
      faults_below columns number (cut 10 text) key none
      ∙ (fault_step (body columns []) number text t.line l.below.now t.cut_is
      ∙ told number 12 (body_no columns [] (words_of t.line)) _ (line_is ∙ ap (λ b. reason_if (not (b && true)) 12) off) (omega arith))

  module _ (n : ℕ) (table : is_load_table columns ≡ true) (size : load_number (words_in l.rest) ≡ Some n) (some : 1 ≤ n) (few : n ≤ 64000) where
    line_taken : body_no columns [] (words_of t.line) ≡ sound
    line_taken = line_is ∙ ap (λ o. reason_if (not ((may_load o && is_load_table columns) && true)) 12) size ∙ ap (λ b. reason_if (not (((nat_lt 0 n && nat_le n 64000) && b) && true)) 12) table ∙ by (nat_lt 0 n) (nat_le n 64000) low high
      where
        low : nat_lt 0 n ≡ true
        low = grind (arith, nat_tests)

        high : nat_le n 64000 ≡ true
        high = grind (arith, nat_tests)

        by : (a b : Bool) → a ≡ true → b ≡ true → reason_if (not (((a && b) && true) && true)) 12 ≡ sound
        by true true p q = refl
        by true false p q = absurd (false≢true q)
        by false b p q = absurd (false≢true p)

    below_line : body_after columns [] (words_of t.line) ≡ load columns n
    below_line = ap (λ x. led_after columns [] x (words_of t.line)) t.begins ∙ (ap (λ ws. load columns (time_or_zero (load_number ws))) t.words ∙ ap (λ o. load columns (time_or_zero o)) size)

    fault_below : fault_from (head columns) number (cut 10 text) ≡ fault_from (load columns n) (number + 1) (cut 10 l.below.now)
    fault_below =
        faults_below columns number (cut 10 text) key none
        ∙ (fault_step (body columns []) number text t.line l.below.now t.cut_is
        ∙ (untold number (body_no columns [] (words_of t.line)) _ line_taken ∙ ap (λ a. fault_from a (number + 1) (cut 10 l.below.now)) below_line))

    end_below : above_end (head columns) (cut 10 text) ≡ load columns n
    end_below =
        let other : begins_column t.line ≡ false = sym (ap begins_column (first_step text t.line l.below.now t.cut_is)) ∙ none in
        end_step (head columns) text t.line l.below.now t.cut_is
        ∙ (ap (λ b. above_end (if b then head (columns_with columns t.line) else body_after columns [] (words_of t.line)) (cut 10 l.below.now)) other
        ∙ (ap (λ a. above_end a (cut 10 l.below.now)) below_line ∙ load_stays columns n (cut 10 l.below.now)))

    pub load_read : IsTable columns → ((cs : List Column) (k : ℕ) → fault_from (load cs k) (number + 1) (cut 10 l.below.now) ≡ None) → IsLoadRead columns number text (Ok n)
    load_read is end = (fault_below ∙ end columns n, end_below, record { some = some; few = few; table = table_is columns table is.ids; plan_is = refl })

    pub load_fault : (fault : ScriptNo) → IsBelowLoad (number + 1) l.below.now fault → IsLoadRead columns number text (Err fault)
    load_fault why.Memory end = absurd end
    load_fault (why.Line m reason) end = fault_below ∙ end columns n
