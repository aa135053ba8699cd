-- The text of a script is read as that script.
use Rattle.std.proofs.Common.{◌≡◌, ℕ, ◌+◌, ◌≤◌, List, [], ◌∷◌, ◌++◌, refl, sym, ap, subst, ◌∙◌, arith, length, map, true, false, Option, Some, None, append_assoc, length-append}
use mathlib.Core.List.{append-nil}
use Rattle.std.specs.Prelude.{◌&&◌, not, nat_lt, nat_le, codes}
use Rattle.std.specs.Fmt.{decimal}
use Rattle.std.specs.List.{flat_map, AllByRecursion}
use Rattle.std.proofs.lemmas.Bool.Decides.{nat_tests}
use Rattle.std.proofs.lemmas.Fmt.{length-decimal-le}
use Rattle.std.proofs.lemmas.Grind.{flat_map-append}
use Rattle.kt_schema.specs.declared.column.Column.{Column}
use Rattle.kt_history.specs.declared.command.Command.{Command}
use Rattle.kt_script.specs.Reasons.{sound, reason_if}
use Rattle.kt_script.specs.Pieces.{cut, words_of}
use Rattle.kt_script.specs.Columns.{IsTable}
use Rattle.kt_script.specs.Texts.{line, words}
use Rattle.kt_script.specs.Times.{time_or_zero}
use Rattle.kt_script.specs.Loads.{most_load, load_columns, load_plan, load_number, may_load, load_no}
use Rattle.kt_script.specs.Scripts.{Above, start, head, load, line_no, led_no, end_no, led_after, first_lead, after, fault_from, above_end, Said, said, load_in, script_of, load_of}
use Rattle.kt_script.specs.Print.{column_words, column_text, command_text, session_lines, body_text, script_text, ColumnFits, ColumnsFit, prints_are_read, loads_are_read}
use Rattle.kt_script.proofs.Cuts.{cut_lines}
use Rattle.kt_script.proofs.PrintedWords.{all_high, words_alone}
use Rattle.kt_script.proofs.PrintedTables.{tabled, AreNumbered, numbered}
use Rattle.kt_script.proofs.PrintedColumns.{fresh, column_read}
use Rattle.kt_script.proofs.FormLaws.{Plain, plain, high_line}
use Rattle.kt_script.proofs.InLine.{words_in_line}
use Rattle.kt_script.proofs.TimeWords.{time_again}
use Rattle.kt_script.proofs.PrintedScans.{time_plain}
use Rattle.kt_script.proofs.WriteLaws.{plain_in_line}
use Rattle.kt_script.proofs.Spelling.{is_script, scripts_are_fit}
use Rattle.kt_script.proofs.PrintedPlans.{Good, good_both, good_in_line, no_fault, at_end, plan_lines, plan_good}

-- ---- columns

one_more : (front : List Column) (c : Column) → length (front ++ c ∷ []) ≡ length front + 1
one_more front c = let size : length (front ++ c ∷ []) ≡ length front + length (c ∷ []) = length-append front (c ∷ []) in omega (arith, size)

columns_good : (columns front rest : List Column) → columns ≡ front ++ rest → IsTable columns → AllByRecursion ColumnFits rest → AreNumbered (length front + 1) rest → Good (head front) (map (λ c. words (column_words c)) rest) (head columns)
columns_good columns front [] e table fit ids = ap head (sym (append-nil front) ∙ sym e)
columns_good columns front (c ∷ rest) e table fit ids =
    let l : List ℕ = words (column_words c) in
    let read = column_read front c (fresh columns front c rest e table) fit.0 ids.0 in
    let no : line_no (head front) l ≡ sound = read.no in
    let next : after (head front) l ≡ head (front ++ c ∷ []) = ap head read.is in
    let later = columns_good columns (front ++ c ∷ []) rest (e ∙ sym (append_assoc front (c ∷ []) rest)) table fit.1 (subst (λ n. AreNumbered n rest) (ap (λ n. n + 1) (sym (one_more front c))) ids.1) in
    (no, read.line, subst (λ a. Good a (map (λ x. words (column_words x)) rest) (head columns)) (sym next) later)

-- ---- the text

columns_are_lines : (columns : List Column) → flat_map column_text columns ≡ flat_map line (map (λ c. words (column_words c)) columns)
columns_are_lines [] = refl
columns_are_lines (c ∷ columns) = ap (λ x. column_text c ++ x) (columns_are_lines columns)

commands_are_lines : (columns : List Column) (commands : List Command) → flat_map (λ c. line (command_text columns c)) commands ≡ flat_map line (map (command_text columns) commands)
commands_are_lines columns [] = refl
commands_are_lines columns (c ∷ commands) = ap (λ x. line (command_text columns c) ++ x) (commands_are_lines columns commands)

plan_is_lines : (columns : List Column) (plan : List (List Command)) → flat_map (session_lines columns) plan ≡ flat_map line (plan_lines columns plan)
plan_is_lines columns [] = refl
plan_is_lines columns (commands ∷ plan) =
    let lines : List (List ℕ) = map (command_text columns) commands in
    let text : List ℕ = flat_map (λ c. line (command_text columns c)) commands in
    let both : text ++ flat_map (session_lines columns) plan ≡ flat_map line (lines ++ plan_lines columns plan) =
    ap (λ x. x ++ flat_map (session_lines columns) plan) (commands_are_lines columns commands) ∙ (ap (λ x. flat_map line lines ++ x) (plan_is_lines columns plan) ∙ sym (flat_map-append line lines (plan_lines columns plan))) in
    ap (λ x. line (codes "session") ++ x) both

-- the lines below the columns
abbrev load_words : ℕ → List (List ℕ)
load_words n = codes "load" ∷ decimal n ∷ []

abbrev body_lines : Option ℕ → Said → List (List ℕ)
body_lines None s = plan_lines s.columns s.plan
body_lines (Some n) s = words (load_words n) ∷ []

body_is_lines : (size : Option ℕ) (s : Said) → body_text size s ≡ flat_map line (body_lines size s)
body_is_lines None s = plan_is_lines s.columns s.plan
body_is_lines (Some n) s = sym (append-nil (line (words (load_words n))))

abbrev script_lines : Option ℕ → Said → List (List ℕ)
script_lines size s = codes "table" ∷ (map (λ c. words (column_words c)) s.columns ++ body_lines size s)

script_is_lines : (size : Option ℕ) (s : Said) → script_text size s ≡ flat_map line (script_lines size s)
script_is_lines size s =
    let lines : List (List ℕ) = map (λ c. words (column_words c)) s.columns in
    let both : flat_map column_text s.columns ++ body_text size s ≡ flat_map line (lines ++ body_lines size s) =
    ap (λ x. x ++ body_text size s) (columns_are_lines s.columns) ∙ (ap (λ x. flat_map line lines ++ x) (body_is_lines size s) ∙ sym (flat_map-append line lines (body_lines size s))) in
    ap (λ x. line (codes "table") ++ x) both

-- ---- the whole

short_text : (n : ℕ) → n ≤ 67108864 → nat_lt 67108864 n ≡ false
short_text n h = grind (arith, nat_tests)

read_lines : (text : List ℕ) (lines : List (List ℕ)) (end : Above) (s : Said) → text ≡ flat_map line lines → Good start lines end → end_no end ≡ sound → said end ≡ s → length text ≤ 67108864 → (script_of text ≡ Some s) × (load_of text ≡ load_in end)
read_lines text lines end s is good ends says short =
    let cuts : cut 10 text ≡ lines ++ [] ∷ [] = ap (cut 10) is ∙ cut_lines lines (good_in_line start end lines good) in
    let stands : above_end start (cut 10 text) ≡ end = ap (above_end start) cuts ∙ at_end start end lines good in (
      is_script text s (record {
        short = short_text (length text) short;
        taken = ap (fault_from start 1) cuts ∙ no_fault start end 1 lines good ends;
        says = ap said stands ∙ says;
      }),
      ap load_in stands,
    )

table_good : (columns : List Column) (lines : List (List ℕ)) (end : Above) → ColumnsFit columns → Good (head columns) lines end → Good start (codes "table" ∷ (map (λ c. words (column_words c)) columns ++ lines)) end
table_good columns lines end fit good = (
  refl,
  high_line (codes "table") (all_high (codes "table") refl),
  good_both (head []) (head columns) end (map (λ c. words (column_words c)) columns) lines (columns_good columns [] columns refl fit.table fit.each (numbered 1 columns fit.table.ids)) good,
)

pub printed_is_read : prints_are_read
printed_is_read s fit plan all short =
    let p = plan_good s.columns s.plan (tabled s.columns fit) fit.key plan all in
    let read = read_lines (script_text None s) (script_lines None s) p.end s (script_is_lines None s) (table_good s.columns (plan_lines s.columns s.plan) p.end fit p.good) p.ends p.says short in
    (read.0, read.1 ∙ p.no_load)

-- ---- a load

-- the table of a load is that of a script
load_table : ColumnsFit load_columns
load_table =
    let said = scripts_are_fit (codes "table\ncolumn id int64 key\ncolumn v int64\n") (record { columns = load_columns; plan = [] }) refl in
    record { table = said.table; key = refl; each = (record { name = refl; default = refl; bytes = tt }, (record { name = refl; default = refl; bytes = tt }, tt)) }

module _ (n : ℕ) (some : 1 ≤ n) (few : n ≤ 64000) where
  abbrev line_words : List (List ℕ)
  line_words = codes "load" ∷ decimal n ∷ []

  load_plain : AllByRecursion Plain line_words
  load_plain = (plain (codes "load") refl refl, (time_plain n (omega (arith, few)), tt))

  load_words_again : words_of (words line_words) ≡ line_words
  load_words_again = let w = plain_in_line line_words load_plain in words_alone (codes "load") (decimal n ∷ []) w.words.0 w.words.1

  number_is : load_number (decimal n ∷ []) ≡ Some n
  number_is = time_again n (omega (arith, few))

  taken : load_no load_columns [] line_words ≡ sound
  taken = ap (λ o. reason_if (not ((may_load o && true) && true)) 12) number_is ∙ ap (λ b. reason_if (not ((b && true) && true)) 12) may
    where
      low : (m : ℕ) → 1 ≤ m → nat_lt 0 m ≡ true
      low m g = grind (arith, nat_tests)

      high : (m : ℕ) → m ≤ 64000 → nat_le m 64000 ≡ true
      high m g = grind (arith, nat_tests)

      may : may_load (Some n) ≡ true
      may = ap (λ b. b && nat_le n most_load) (low n some) ∙ high n few

  load_good : Good (head load_columns) (words line_words ∷ []) (load load_columns n)
  load_good = (
    ap (λ ws. led_no load_columns [] (first_lead ws) ws) load_words_again ∙ taken,
    words_in_line line_words (plain_in_line line_words load_plain).line,
    ap (λ ws. led_after load_columns [] (first_lead ws) ws) load_words_again ∙ ap (λ o. load load_columns (time_or_zero o)) number_is,
  )

load_short : (n : ℕ) → n ≤ 64000 → length (script_text (Some n) (record { columns = load_columns; plan = load_plan n })) ≤ 67108864
load_short n few =
    let number = length-decimal-le 5 n (omega arith) (omega (arith, few)) (omega (arith, few)) in
    let front : List ℕ = codes "table\ncolumn id int64 key\ncolumn v int64\nload " in
    let is : script_text (Some n) (record { columns = load_columns; plan = load_plan n }) ≡ front ++ (decimal n ++ 10 ∷ []) = ap (λ x. front ++ (x ++ 10 ∷ [])) (append-nil (decimal n)) in
    let size : length (front ++ (decimal n ++ 10 ∷ [])) ≡ length front + length (decimal n ++ 10 ∷ []) = length-append front (decimal n ++ 10 ∷ []) in
    let more : length (decimal n ++ 10 ∷ []) ≡ length (decimal n) + 1 = length-append (decimal n) (10 ∷ []) in
    let whole = ap length is in
    omega (arith, whole, size, more, number)

pub load_is_read : loads_are_read
load_is_read s n is = subst (λ x. (script_of (script_text (Some n) x) ≡ Some x) × (load_of (script_text (Some n) x) ≡ Some n)) said_is
    (read_lines (script_text (Some n) of) (script_lines (Some n) of) (load load_columns n) of (script_is_lines (Some n) of) (table_good load_columns (words (load_words n) ∷ []) (load load_columns n) load_table (load_good n is.some is.few)) refl refl (load_short n is.few))
  where
    of : Said
    of = record { columns = load_columns; plan = load_plan n }

    said_is : of ≡ s
    said_is = ap (λ cs. made cs (load_plan n)) (sym is.table) ∙ ap (made s.columns) (sym is.plan_is)
      where
        made : List Column → List (List Command) → Said
        made cs p = record { columns = cs; plan = p }
