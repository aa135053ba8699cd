-- The lines of a plan are read as that plan.
use Rattle.std.proofs.Common.{◌≡◌, ℕ, ◌+◌, ◌<◌, ◌≤◌, List, [], ◌∷◌, ◌++◌, refl, sym, ap, subst, ◌∙◌, arith, length, map, true, false, not, Some, None, min, append_assoc, length-append}
use mathlib.Core.List.{append-nil}
use Rattle.std.specs.Prelude.{nat_lt, nat_le, if◌then◌else◌, codes}
use Rattle.std.specs.Fmt.{decimal}
use Rattle.std.specs.List.{list_any, AllByRecursion}
use Rattle.std.proofs.lemmas.Bool.Decides.{nat_tests}
use Rattle.std.proofs.lemmas.List.Sums.{sum_by-cons, sum_by-append}
use Rattle.kt_schema.specs.declared.column.Column.{Column}
use Rattle.kt_history.specs.declared.command.Command.{Command}
use Rattle.kt_history.specs.declared.command.Command.TheVariants as command
use Rattle.kt_script.specs.Pieces.{words_of}
use Rattle.kt_script.specs.Reasons.{sound, reason_if}
use Rattle.kt_script.specs.Times.{time_no, time_or_zero}
use Rattle.kt_script.specs.Scripts.{most_sessions, first_lead, command_no, command_of, commands_in, is_begun, session_no, full_no, in_session_no, led_no, led_after, push_last, Above, head, body, line_no, end_no, after, fault_if, fault_from, above_end, said, load_in}
use Rattle.kt_script.specs.declared.leads.Word.{Word}
use Rattle.kt_script.specs.declared.leads.Word.TheVariants as word
use Rattle.kt_script.specs.Fit.{CommandFits, PlanFits}
use Rattle.kt_script.specs.Texts.{words}
use Rattle.kt_script.specs.Leads.{chore_word}
use Rattle.kt_script.specs.Print.{scan_words, command_words, command_text, CommandBytes}
use Rattle.kt_script.proofs.Bodies.{push_is}
use Rattle.kt_script.proofs.FirstWords.{chore_leads, chore_plain}
use Rattle.kt_script.specs.declared.leads.Lead.{Lead}
use Rattle.kt_script.specs.declared.leads.Lead.TheVariants as lead
use Rattle.kt_script.proofs.Cuts.{Without}
use Rattle.kt_script.proofs.InLine.{words_in_line}
use Rattle.kt_script.proofs.FormLaws.{plain, high_line}
use Rattle.kt_script.proofs.PrintedWords.{IsWord, all_high, words_alone}
use Rattle.kt_script.proofs.PrintedCells.{min_sound}
use Rattle.kt_script.proofs.PrintedTables.{Tabled}
use Rattle.kt_script.proofs.WriteLaws.{InLine, plain_in_line, write_read}
use Rattle.kt_script.proofs.PrintedScans.{scan_read, time_plain}
use Rattle.kt_script.proofs.TimeWords.{time_again, not_late}

-- ---- lines, none of which is refused

-- no line is refused from one place on to another
abbrev pub Good : Above → List (List ℕ) → Above → Type 0
Good above [] end = above ≡ end
Good above (l ∷ lines) end = (line_no above l ≡ sound) × Without 10 l × Good (after above l) lines end

pub good_in_line : (above end : Above) (lines : List (List ℕ)) → Good above lines end → AllByRecursion (Without 10) lines
good_in_line above end [] p = tt
good_in_line above end (l ∷ lines) p = (p.1, good_in_line (after above l) end lines p.2)

pub good_both : (a b e : Above) (xs ys : List (List ℕ)) → Good a xs b → Good b ys e → Good a (xs ++ ys) e
good_both a b e [] ys p q = subst (λ z. Good z ys e) (sym p) q
good_both a b e (l ∷ xs) ys p q = (p.0, p.1, good_both (after a l) b e xs ys p.2 q)

fault_after : (above : Above) (n : ℕ) (l : List ℕ) (lines : List (List ℕ)) → fault_from above n ((l ∷ lines) ++ [] ∷ []) ≡ fault_if n (line_no above l) (fault_from (after above l) (n + 1) (lines ++ [] ∷ []))
fault_after above n l [] = refl
fault_after above n l (m ∷ lines) = refl

end_after : (above : Above) (l : List ℕ) (lines : List (List ℕ)) → above_end above ((l ∷ lines) ++ [] ∷ []) ≡ above_end (after above l) (lines ++ [] ∷ [])
end_after above l [] = refl
end_after above l (m ∷ lines) = refl

pub no_fault : (above end : Above) (n : ℕ) (lines : List (List ℕ)) → Good above lines end → end_no end ≡ sound → fault_from above n (lines ++ [] ∷ []) ≡ None
no_fault above end n [] p h = ap (λ k. fault_if n k None) (ap end_no p ∙ h)
no_fault above end n (l ∷ lines) p h = fault_after above n l lines ∙ (ap (λ k. fault_if n k (fault_from (after above l) (n + 1) (lines ++ [] ∷ []))) p.0 ∙ no_fault (after above l) end (n + 1) lines p.2 h)

pub at_end : (above end : Above) (lines : List (List ℕ)) → Good above lines end → above_end above (lines ++ [] ∷ []) ≡ end
at_end above end [] p = p
at_end above end (l ∷ lines) p = end_after above l lines ∙ at_end (after above l) end lines p.2

-- ---- commands

below_limit : (n : ℕ) → n < 262144 → nat_le 262144 n ≡ false
below_limit n h = grind (arith, nat_tests)

-- the plan of sessions that have ended, and one that stands last
abbrev with_last : List (List Command) → List Command → List (List Command)
with_last ended last = ended ++ last ∷ []

count_is : (ended : List (List Command)) (last : List Command) → commands_in (with_last ended last) ≡ commands_in ended + length last
count_is ended last =
    let count : commands_in (with_last ended last) ≡ commands_in ended + commands_in (last ∷ []) = sum_by-append (λ (commands : List Command). length commands) ended (last ∷ []) in
    let one : commands_in (last ∷ []) ≡ length last = omega arith in
    omega (arith, count, one)

not_full : (ended : List (List Command)) (last : List Command) → commands_in ended + length last < 262144 → full_no (with_last ended last) ≡ sound
not_full ended last h = ap (λ n. reason_if (nat_le 262144 n) 20) (count_is ended last) ∙ ap (λ t. reason_if t 20) (below_limit (commands_in ended + length last) h)

begun : (ended : List (List Command)) (last : List Command) → is_begun (with_last ended last) ≡ true
begun ended last = let size : length (ended ++ last ∷ []) ≡ length ended + length (last ∷ []) = length-append ended (last ∷ []) in positive (length (ended ++ last ∷ [])) (omega (arith, size))
  where
    positive : (n : ℕ) → 0 < n → nat_lt 0 n ≡ true
    positive n h = grind (arith, nat_tests)

-- a command of a session is not refused
in_session : (columns : List Column) (ended : List (List Command)) (last : List Command) (w : Word) (ws : List (List ℕ)) → commands_in ended + length last < 262144 → command_no columns w ws ≡ sound → in_session_no columns (with_last ended last) w ws ≡ sound
in_session columns ended last w ws room taken =
    ap (λ b. if b then min (command_no columns w ws) (full_no (with_last ended last)) else 11) (begun ended last)
    ∙ min_sound (command_no columns w ws) (full_no (with_last ended last)) taken (not_full ended last room)

-- the words of a command, which are read as it
record CommandRead (columns : List Column) (c : Command) : Type 0 where
  first : Word
  leads : first_lead (command_words columns c) ≡ Some (lead.Command first)
  no : command_no columns first (command_words columns c) ≡ sound
  is : command_of columns first (command_words columns c) ≡ c
  line : InLine (command_words columns c)

command_read : (columns : List Column) (c : Command) → Tabled columns → CommandFits columns c → CommandBytes columns c → CommandRead columns c
command_read columns (command.Write w) t fit said =
    let read = write_read columns w.ops t fit said in
    record { first = word.Op read.kind; leads = read.leads; no = read.no; is = ap (λ ops. command.Write (record { ops = ops })) read.is; line = read.line }
command_read columns (command.Scan q) t fit said =
    let read = scan_read columns q t fit said in
    record { first = word.Scan; leads = refl; no = read.no; is = ap command.Scan read.is; line = plain_in_line (scan_words columns q) read.plain }
command_read columns (command.Mark a) t fit said =
    let time = time_again a fit in
    record { first = word.Mark; leads = refl; no = ap time_no time ∙ not_late a fit; is = ap (λ o. command.Mark (time_or_zero o)) time; line = plain_in_line (codes "mark" ∷ decimal a ∷ []) (plain (codes "mark") refl refl, (time_plain a fit, tt)) }
command_read columns (command.Chore c) t fit said =
    record { first = word.Chore c; leads = chore_leads c; no = refl; is = refl; line = plain_in_line (chore_word c ∷ []) (chore_plain c, tt) }

-- the words of a line that are cut off it again
words_again : (ws : List (List ℕ)) (l : Lead) → first_lead ws ≡ Some l → AllByRecursion IsWord ws → words_of (words ws) ≡ ws
words_again [] l e p = absurd cc
words_again (w ∷ ws) l e p = words_alone w ws p.0 p.1

-- a command behind those of its session
abbrev CommandGood : List Column → List (List Command) → List Command → Command → Type 0
CommandGood columns ended last c =
    (line_no (body columns (with_last ended last)) (command_text columns c) ≡ sound) × Without 10 (command_text columns c) × (after (body columns (with_last ended last)) (command_text columns c) ≡ body columns (with_last ended (last ++ c ∷ [])))

command_good : (columns : List Column) (ended : List (List Command)) (last : List Command) (c : Command) → Tabled columns → CommandFits columns c → CommandBytes columns c → commands_in ended + length last < 262144 → CommandGood columns ended last c
command_good columns ended last c t fit said room =
    let read = command_read columns c t fit said in
    let plan : List (List Command) = with_last ended last in
    let ws : List (List ℕ) = command_words columns c in
    let again = words_again ws (lead.Command read.first) read.leads read.line.words in (
      ap (λ us. led_no columns plan (first_lead us) us) again ∙ (ap (λ l. led_no columns plan l ws) read.leads ∙ in_session columns ended last read.first ws room read.no),
      words_in_line ws read.line.line,
      ap (λ us. led_after columns plan (first_lead us) us) again
          ∙ (ap (λ l. led_after columns plan l ws) read.leads ∙ (ap (λ x. body columns (push_last x plan)) read.is ∙ ap (λ p. body columns p) (push_is c ended last))),
    )

commands_good : (columns : List Column) (ended : List (List Command)) (last commands : List Command) → Tabled columns → AllByRecursion (CommandFits columns) commands → AllByRecursion (CommandBytes columns) commands
    → commands_in ended + (length last + length commands) ≤ 262144 → Good (body columns (with_last ended last)) (map (command_text columns) commands) (body columns (with_last ended (last ++ commands)))
commands_good columns ended last [] t fit said room = ap (λ z. body columns (with_last ended z)) (sym (append-nil last))
commands_good columns ended last (c ∷ commands) t fit said room =
    let here = command_good columns ended last c t fit.0 said.0 (omega arith) in
    let size : length (last ++ c ∷ []) ≡ length last + length (c ∷ []) = length-append last (c ∷ []) in
    let later = commands_good columns ended (last ++ c ∷ []) commands t fit.1 said.1 (omega (arith, size)) in
    let whole : (last ++ c ∷ []) ++ commands ≡ last ++ c ∷ commands = append_assoc last (c ∷ []) commands in (
      here.0,
      here.1,
      subst (λ a. Good a (map (command_text columns) commands) (body columns (with_last ended (last ++ c ∷ commands)))) (sym here.2)
          (subst (λ z. Good (body columns (with_last ended (last ++ c ∷ []))) (map (command_text columns) commands) (body columns (with_last ended z))) whole later),
    )

-- ---- the plan

abbrev pub plan_lines : List Column → List (List Command) → List (List ℕ)
plan_lines columns [] = []
plan_lines columns (commands ∷ plan) = codes "session" ∷ (map (command_text columns) commands ++ plan_lines columns plan)

session_good : (ended : List (List Command)) → length ended < 64 → session_no ended (codes "session" ∷ []) ≡ sound
session_good ended h = ap (λ b. min sound (reason_if b 20)) (below (length ended) h)
  where
    below : (n : ℕ) → n < 64 → nat_le most_sessions n ≡ false
    below n g = grind (arith, nat_tests)

sessions_good : (columns : List Column) (ended plan : List (List Command)) → Tabled columns → AllByRecursion (AllByRecursion (CommandFits columns)) plan → AllByRecursion (AllByRecursion (CommandBytes columns)) plan
    → length ended + length plan ≤ 64 → commands_in ended + commands_in plan ≤ 262144 → Good (body columns ended) (plan_lines columns plan) (body columns (ended ++ plan))
sessions_good columns ended [] t fit said few room = ap (λ p. body columns p) (sym (append-nil ended))
sessions_good columns ended (commands ∷ plan) t fit said few room =
    let count : commands_in (commands ∷ plan) ≡ length commands + commands_in plan = sum_by-cons (λ (cs : List Command). length cs) commands plan in
    let size : length (with_last ended commands) ≡ length ended + length (commands ∷ []) = length-append ended (commands ∷ []) in
    let lines : List (List ℕ) = map (command_text columns) commands in
    let here = commands_good columns ended [] commands t fit.0 said.0 (omega (arith, room, count)) in
    let later = sessions_good columns (with_last ended commands) plan t fit.1 said.1 (omega (arith, few, size)) (omega (arith, room, count, count_is ended commands)) in
    let whole : with_last ended commands ++ plan ≡ ended ++ commands ∷ plan = append_assoc ended (commands ∷ []) plan in
    let rest : Good (body columns (with_last ended commands)) (plan_lines columns plan) (body columns (ended ++ commands ∷ plan)) = subst (λ p. Good (body columns (with_last ended commands)) (plan_lines columns plan) (body columns p)) whole later in
    (session_good ended (omega (arith, few)), high_line (codes "session") (all_high (codes "session") refl), good_both (body columns (with_last ended [])) (body columns (with_last ended commands)) (body columns (ended ++ commands ∷ plan)) lines (plan_lines columns plan) here rest)

pub record PlanGood (columns : List Column) (plan : List (List Command)) : Type 0 where
  pub end : Above
  pub good : Good (head columns) (plan_lines columns plan) end
  pub ends : end_no end ≡ sound
  pub says : said end ≡ record { columns = columns; plan = plan }
  pub no_load : load_in end ≡ None

pub plan_good : (columns : List Column) (plan : List (List Command)) → Tabled columns → list_any (λ c. c.key) columns ≡ true → PlanFits columns plan → AllByRecursion (AllByRecursion (CommandBytes columns)) plan → PlanGood columns plan
plan_good columns [] t key fit all = record { end = head columns; good = refl; ends = ap (λ b. reason_if (not b) 5) key; says = refl; no_load = refl }
plan_good columns (commands ∷ plan) t key fit all =
    let few = fit.sessions in
    let most = fit.commands in
    let none : commands_in [] ≡ 0 = refl in
    let from_none = sessions_good columns [] (commands ∷ plan) t fit.each all (omega (arith, few)) (omega (arith, most, none)) in
    record { end = body columns (commands ∷ plan); good = (ap (λ b. if b then sound else 5) key, from_none.1, from_none.2); ends = refl; says = refl; no_load = refl }
