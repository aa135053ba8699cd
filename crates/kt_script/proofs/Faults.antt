-- The first fault of a text, line by line.
use Rattle.std.proofs.Common.{◌≡◌, ℕ, ◌+◌, ◌<◌, List, [], ◌∷◌, ◌++◌, refl, sym, ap, ◌∙◌, arith, length, true, false, Option, Some, None, Bor, Result, Ok, Err, length-append}
use Rattle.std.specs.Prelude.{◌≢◌, IfSome, IfNone, not, All, nat_lt, if◌then◌else◌, codes}
use Rattle.std.specs.List.{list_any}
use Rattle.std.proofs.lemmas.Bool.Decides.{nat_tests}
use Rattle.std.proofs.lemmas.List.Elements.{recursion_from_All}
use Rattle.kt_schema.specs.declared.column.Column.{Column}
use Rattle.kt_base.specs.Literals.{same}
use Rattle.kt_script.specs.declared.columns.LineNo.{LineNo}
use Rattle.kt_script.specs.declared.columns.LineNo.TheVariants as line
use Rattle.kt_script.specs.declared.head.Head.{Head}
use Rattle.kt_script.specs.declared.refusal.ScriptNo.{ScriptNo}
use Rattle.kt_script.specs.declared.refusal.ScriptNo.TheVariants as why
use Rattle.kt_script.specs.Pieces.{cut, words_of}
use Rattle.kt_script.specs.Reasons.{sound}
use Rattle.kt_script.specs.Columns.{begins_column, column_no, columns_with, ReadsColumn}
use Rattle.kt_script.specs.Scripts.{Above, start, head, line_no, after, Fault, fault_if, fault_from, above_end, at, located, first_piece, body_no, body_after, IsColumns, IsHead, IsLineCut, IsNoKey}
use Rattle.kt_script.proofs.Cuts.{cut_front, cut_end, some_piece}

pub line_cut : (text front rest : List ℕ) → text ≡ front ++ 10 ∷ rest → All (λ b. b ≢ 10) front → (cut 10 text ≡ front ∷ cut 10 rest) × (length rest < length text)
line_cut text front rest is none = (
  ap (cut 10) is ∙ cut_front 10 front rest (recursion_from_All (λ b. b ≢ 10) front none),
  let size : length (front ++ 10 ∷ rest) ≡ length front + length (10 ∷ rest) = length-append front (10 ∷ rest) in omega (arith, ap length is, size),
)

pub line_none : (text : List ℕ) → All (λ b. b ≢ 10) text → cut 10 text ≡ text ∷ []
line_none text none = cut_end 10 text (recursion_from_All (λ b. b ≢ 10) text none)

-- a line with its newline
pub fault_step : (above : Above) (n : ℕ) (text front behind : List ℕ) → cut 10 text ≡ front ∷ cut 10 behind
    → fault_from above n (cut 10 text) ≡ fault_if n (line_no above front) (fault_from (after above front) (n + 1) (cut 10 behind))
fault_step above n text front behind is =
    let some = some_piece 10 behind in
    ap (fault_from above n) (is ∙ ap (λ ps. front ∷ ps) some.2) ∙ ap (λ ps. fault_if n (line_no above front) (fault_from (after above front) (n + 1) ps)) (sym some.2)

pub end_step : (above : Above) (text front behind : List ℕ) → cut 10 text ≡ front ∷ cut 10 behind → above_end above (cut 10 text) ≡ above_end (after above front) (cut 10 behind)
end_step above text front behind is =
    let some = some_piece 10 behind in
    ap (above_end above) (is ∙ ap (λ ps. front ∷ ps) some.2) ∙ ap (above_end (after above front)) (sym some.2)

pub first_step : (text front behind : List ℕ) → cut 10 text ≡ front ∷ cut 10 behind → first_piece (cut 10 text) ≡ front
first_step text front behind is = let some = some_piece 10 behind in ap first_piece (is ∙ ap (λ ps. front ∷ ps) some.2)

pub told : (n r : ℕ) (reason : ℕ) (later : Option Fault) → reason ≡ r → r < sound → fault_if n reason later ≡ at n r
told n r reason later is low =
    let t : nat_lt r sound ≡ true = grind (arith, nat_tests) in
    ap (λ k. fault_if n k later) is ∙ ap (λ b. if b then at n r else later) t

pub untold : (n : ℕ) (reason : ℕ) (later : Option Fault) → reason ≡ sound → fault_if n reason later ≡ later
untold n reason later is = ap (λ k. fault_if n k later) is

column_line_no : (columns : List Column) (text : List ℕ) → begins_column text ≡ true → line_no (head columns) text ≡ column_no columns text
column_line_no columns text t = ap (λ b. if b then column_no columns text else (if list_any (λ c. c.key) columns then body_no columns [] (words_of text) else 5)) t

column_after : (columns : List Column) (text : List ℕ) → begins_column text ≡ true → after (head columns) text ≡ head (columns_with columns text)
column_after columns text t = ap (λ b. if b then head (columns_with columns text) else body_after columns [] (words_of text)) t

-- a column line that is refused
pub column_refused : (columns : List Column) (whole text front behind : List ℕ) (no : LineNo) → fault_from (head []) 2 (cut 10 whole) ≡ fault_from (head columns) (length columns + 2) (cut 10 text)
    → cut 10 text ≡ front ∷ cut 10 behind → begins_column front ≡ true → ReadsColumn columns front (Err no) → (number : ℕ) → number ≡ length columns + 2 → IsColumns whole (Err (located number no))
column_refused columns whole text front behind line.Memory so is t reads number e = tt
column_refused columns whole text front behind (line.Reason r) so is t reads number e =
    so ∙ (fault_step (head columns) (length columns + 2) text front behind is ∙ (told (length columns + 2) r (line_no (head columns) front) _ (column_line_no columns front t ∙ reads.0) reads.1 ∙ ap (λ n. at n r) (sym e)))

more_is : (columns new : List Column) (front : List ℕ) (c : Column) → begins_column front ≡ true → columns_with columns front ≡ columns ++ c ∷ [] → new ≡ columns ++ c ∷ [] → after (head columns) front ≡ head new
more_is columns new front c t w is = column_after columns front t ∙ (ap head w ∙ ap head (sym is))

-- a column line that is read
pub column_read : (columns new : List Column) (text front behind : List ℕ) (c : Column) → cut 10 text ≡ front ∷ cut 10 behind → begins_column front ≡ true → ReadsColumn columns front (Ok c) → new ≡ columns ++ c ∷ []
    → (fault_from (head columns) (length columns + 2) (cut 10 text) ≡ fault_from (head new) (length new + 2) (cut 10 behind)) × (above_end (head columns) (cut 10 text) ≡ above_end (head new) (cut 10 behind))
column_read columns new text front behind c is t reads new_is =
    let next = more_is columns new front c t reads.1 new_is in
    let size : length (columns ++ c ∷ []) ≡ length columns + length (c ∷ []) = length-append columns (c ∷ []) in
    let count : length columns + 2 + 1 ≡ length new + 2 = omega (arith, ap length new_is, size) in (
      fault_step (head columns) (length columns + 2) text front behind is
          ∙ (untold (length columns + 2) (line_no (head columns) front) _ (column_line_no columns front t ∙ reads.0)
          ∙ (ap (λ a. fault_from a (length columns + 2 + 1) (cut 10 behind)) next ∙ ap (λ n. fault_from (head new) n (cut 10 behind)) count)),
      end_step (head columns) text front behind is ∙ ap (λ a. above_end a (cut 10 behind)) next,
    )

-- the first line is another
pub not_table : (text front behind : List ℕ) → cut 10 text ≡ front ∷ cut 10 behind → same front (codes "table") ≡ false → fault_from start 1 (cut 10 text) ≡ at 1 3
not_table text front behind is t =
    fault_step start 1 text front behind is ∙ ap (λ b. fault_if 1 (if not b then 3 else sound) (fault_from (after start front) 2 (cut 10 behind))) t

-- the columns stand behind the first line
pub behind_table : (text front behind : List ℕ) (result : Result Head ScriptNo) → cut 10 text ≡ front ∷ cut 10 behind → length behind < length text → same front (codes "table") ≡ true → IsColumns behind result → IsHead text result
behind_table text front behind result is less t reads = by result reads
  where
    fault_same : fault_from start 1 (cut 10 text) ≡ fault_from (head []) 2 (cut 10 behind)
    fault_same = fault_step start 1 text front behind is ∙ ap (λ b. fault_if 1 (if not b then 3 else sound) (fault_from (head []) 2 (cut 10 behind))) t

    by : (r : Result Head ScriptNo) → IsColumns behind r → IsHead text r
    by (Ok h) reads_h = (fault_same ∙ reads_h.0, end_step start text front behind is ∙ reads_h.1, reads_h.2, reads_h.3, omega (arith, reads_h.4, less))
    by (Err (why.Line n r)) reads_h = fault_same ∙ reads_h
    by (Err why.Memory) reads_h = tt

pub line_case : (text : List ℕ) (r : Option (Bor (List ℕ) × Bor (List ℕ))) → IfSome r (λ x. text ≡ x.0.now ++ 10 ∷ x.1.now) → IfSome r (λ x. All (λ b. b ≢ 10) x.0.now) → IfNone r (All (λ b. b ≢ 10) text) → IsLineCut text r
line_case text None is first none = line_none text none
line_case text (Some x) is first none = line_cut text x.0.now x.1.now is first

-- below columns without a key, whatever line comes is refused
pub no_key_line : (rest front behind : List ℕ) → cut 10 rest ≡ front ∷ cut 10 behind → IsNoKey rest 5
no_key_line rest front behind is columns n key other =
    let none : begins_column front ≡ false = sym (ap begins_column (first_step rest front behind is)) ∙ other in
    let reason : line_no (head columns) front ≡ 5 = ap (λ b. if b then column_no columns front else (if list_any (λ c. c.key) columns then body_no columns [] (words_of front) else 5)) none ∙ ap (λ b. if b then body_no columns [] (words_of front) else 5) key in
    fault_step (head columns) n rest front behind is ∙ told n 5 (line_no (head columns) front) _ reason (omega arith)

pub no_key_end : (rest : List ℕ) → cut 10 rest ≡ rest ∷ [] → rest ≡ [] → IsNoKey rest 5
no_key_end rest is none columns n key other =
    ap (fault_from (head columns) n) (is ∙ ap (λ x. x ∷ []) none) ∙ ap (λ b. fault_if n (if not b then 5 else sound) None) key

pub no_key_rest : (rest : List ℕ) → cut 10 rest ≡ rest ∷ [] → (rest ≡ [] → ⊥) → IsNoKey rest 2
no_key_rest rest is some columns n key other = ap (fault_from (head columns) n) is ∙ by rest some
  where
    by : (xs : List ℕ) → (xs ≡ [] → ⊥) → fault_from (head columns) n (xs ∷ []) ≡ at n 2
    by [] g = absurd (g refl)
    by (x ∷ xs) g = refl
