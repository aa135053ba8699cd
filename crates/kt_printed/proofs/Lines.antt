-- What a run prints of its rows are lines of literals.
use Rattle.std.proofs.Common.{◌≡◌, ℕ, suc, ◌+◌, ◌≤◌, List, [], ◌∷◌, ◌++◌, length, map, Option, Some, None, Bool, true, false, cond, refl, sym, ap, ◌∙◌, subst, arith}
use Rattle.std.specs.Prelude.{All, IfSome, slice_get, unwrap_or, ◌==◌}
use Rattle.std.specs.List.{AllByRecursion, filter, find, zip}
use Rattle.std.specs.Ordering.{nat_cmp}
use Rattle.std.specs.FinMap.Entries as entries
use Rattle.std.proofs.ByRecursion.{All-append, All-map, All-weaker, all_kept_by}
use Rattle.std.proofs.lemmas.Bool.{and_parts, eqb-true}
use Rattle.std.proofs.lemmas.List.{length-map, length-append}
use Rattle.std.proofs.lemmas.List.Elements.{All-from_recursion, recursion_from_All, All-nil, All-cons}
use Rattle.kt_base.specs.declared.cell.Kind.{Kind}
use Rattle.kt_base.specs.declared.cell.Kind.TheVariants as kind
use Rattle.kt_base.specs.declared.cell.Cell.{Cell}
use Rattle.kt_base.specs.declared.cell.Cell.TheVariants as cell
use Rattle.kt_base.specs.Keys.{key_cells}
use Rattle.kt_base.specs.Literals.{literal}
use Rattle.kt_history.specs.declared.command.Command.{Command}
use Rattle.kt_history.specs.declared.command.Command.TheVariants as command
use Rattle.kt_history.specs.declared.event.Event.{Event}
use Rattle.kt_history.specs.declared.event.Event.TheVariants.{Begin, End, Look, Rows as Shown, Ancient, Busy, Mark, Chore, Large, Stop}
use Rattle.kt_history.specs.declared.reply.Reply.TheVariants as reply
use Rattle.kt_history.specs.declared.scan.Scan.{Scan}
use Rattle.kt_history.specs.Rows.{Row, Rows}
use Rattle.kt_history.specs.History.{Past, rows_at}
use Rattle.kt_history.specs.Machine.{Workload, start, nth, command_of, command_at}
use Rattle.kt_history.specs.Replies.{answer, answers, reply_at, past_after, kinds_of, kept, selected, whole_row, cell_of, shown, shown_by}
use Rattle.kt_script.specs.declared.lists.ShownReply.{ShownReply}
use Rattle.kt_script.specs.declared.output.LastLine.TheVariants as last
use Rattle.kt_script.specs.Texts.{literals, row_text, words, rows_in, seen_of, seen}
use Rattle.kt_script.specs.Laws.{Fits64, Fits32, ReplyFits, EventFits, OutputFits}
use Rattle.kt_script.specs.Outputs.{IsRowLine, LineHolds, CellHolds, CellsHold, RowHolds, HasOutput, shown_output}
use Rattle.kt_script.proofs.Outputs.{numbers_fit, events_hold}
use Rattle.kt_script.proofs.PrintedRows.{printed_held}
use Rattle.kt_app.specs.Headline.{IsOutput, kinds_shown, shown_from, all_shown, replies_in, end_of, end_line}
use Rattle.kt_printed.proofs.Spelled.{IsSpelled, RowSpelled, KeySpelled, RowsSpelled, PastSpelled, SelectsSome, CommandSpelled, WorkSpelled, key_kinds}
use Rattle.kt_printed.proofs.Rows.{cell_found, rows_spelled, past_spelled}

-- ---- one line

-- bytes that a literal spells have one in a column of each kind
own_bytes : (k : Kind) (bytes : List ℕ) → CellHolds kind.String (cell.Bytes bytes) → (other : Kind) × (literal k (cell.Bytes bytes) ≡ literal other (cell.Bytes bytes)) × CellHolds other (cell.Bytes bytes)
own_bytes kind.Bool bytes holds = (kind.String, refl, holds)
own_bytes kind.Int8 bytes holds = (kind.String, refl, holds)
own_bytes kind.Int16 bytes holds = (kind.String, refl, holds)
own_bytes kind.Int32 bytes holds = (kind.String, refl, holds)
own_bytes kind.Int64 bytes holds = (kind.String, refl, holds)
own_bytes kind.String bytes holds = (kind.String, refl, holds)
own_bytes kind.Binary bytes holds = (kind.Binary, refl, holds)

-- under a column of another kind a cell is spelled as under one of its own
own : (k : Kind) (c : Cell) → IsSpelled c → (other : Kind) × (literal k c ≡ literal other c) × CellHolds other c
own k cell.Null is = (k, refl, tt)
own k (cell.Int n) is = (is.0, refl, is.1)
own k (cell.Bool false) is = (is.0, refl, is.1)
own k (cell.Bool true) is = (is.0, refl, is.1)
own k (cell.Bytes bytes) (kind.String, holds) = own_bytes k bytes holds
own k (cell.Bytes bytes) (kind.Binary, holds) = own_bytes k bytes holds
own k (cell.Bytes bytes) (kind.Bool, holds) = let f = holds.0 in absurd cc
own k (cell.Bytes bytes) (kind.Int8, holds) = let f = holds.0 in absurd cc
own k (cell.Bytes bytes) (kind.Int16, holds) = let f = holds.0 in absurd cc
own k (cell.Bytes bytes) (kind.Int32, holds) = let f = holds.0 in absurd cc
own k (cell.Bytes bytes) (kind.Int64, holds) = let f = holds.0 in absurd cc

owns : (kinds : List Kind) (cells : List Cell) → AllByRecursion IsSpelled cells → (others : List Kind) × (literals kinds cells ≡ literals others cells) × CellsHold others cells
owns kinds [] all = ([], refl, tt)
owns [] (c ∷ cells) all = ([], refl, tt)
owns (k ∷ kinds) (c ∷ cells) all =
    let first = own k c all.0 in
    let rest = owns kinds cells all.1 in
    (first.0 ∷ rest.0, ap (λ w. w ∷ literals kinds cells) first.1 ∙ ap (λ ws. literal first.0 c ∷ ws) rest.1, (first.2, rest.2))

-- a row that is printed alone
alone : (kinds : List Kind) (cells : List Cell) → RowHolds kinds cells → IsRowLine (row_text kinds cells)
alone kinds cells holds =
    let one : ShownReply = record { kinds = kinds; reply = reply.Rows 0 (cells ∷ []) } in
    let fit : ReplyFits one = (All-from_recursion Fits64 (0 ∷ 1 ∷ []) (omega arith, (omega arith, tt)), All-nil Fits32) in
    let fits : OutputFits ((one ∷ []) ∷ []) [] last.Stopped = record {
      count = omega arith;
      replies_fit = All-cons (All ReplyFits) (one ∷ []) [] (All-cons ReplyFits one [] fit (All-nil ReplyFits)) (All-nil (All ReplyFits));
      events_fit = All-nil EventFits;
      end_fits = tt;
    } in
    (printed_held ((one ∷ []) ∷ []) [] last.Stopped (record { fits = fits; rows = (((holds, tt), tt), tt) })).holds.replies.0.0.rows.0

row_line : (kinds : List Kind) (cells : List Cell) → 1 ≤ length kinds → 1 ≤ length cells → AllByRecursion IsSpelled cells → IsRowLine (row_text kinds cells)
row_line [] cells some cell all = absurd (omega arith)
row_line (k ∷ kinds) [] some cell all = absurd (omega arith)
row_line (k ∷ kinds) (c ∷ cells) some cell all =
    let first = own k c all.0 in
    let rest = owns kinds cells all.1 in
    let same : literals (k ∷ kinds) (c ∷ cells) ≡ literals (first.0 ∷ rest.0) (c ∷ cells) = ap (λ w. w ∷ literals kinds cells) first.1 ∙ ap (λ ws. literal first.0 c ∷ ws) rest.1 in
    subst IsRowLine (sym (ap words same)) (alone (first.0 ∷ rest.0) (c ∷ cells) (first.2, rest.2))

-- ---- the rows of a scan

key_some : (kinds : List Kind) (key : List ℕ) → 1 ≤ length kinds → 1 ≤ length (key_cells kinds key)
key_some [] key some = absurd (omega arith)
key_some (k ∷ []) key some = omega arith
key_some (k ∷ next ∷ kinds) key some = omega arith

zip_spelled : (ids : List ℕ) (cells : List Cell) → AllByRecursion IsSpelled cells → RowSpelled (zip ids cells)
zip_spelled [] cells all = tt
zip_spelled (id ∷ ids) [] all = tt
zip_spelled (id ∷ ids) (c ∷ cells) all = (all.0, zip_spelled ids cells all.1)

zip_some : (ids : List ℕ) (cells : List Cell) → 1 ≤ length ids → 1 ≤ length cells → 1 ≤ length (zip ids cells)
zip_some [] cells some cell = absurd (omega arith)
zip_some (id ∷ ids) [] some cell = absurd (omega arith)
zip_some (id ∷ ids) (c ∷ cells) some cell = omega arith

-- a row with cells, all of them spelled
abbrev IsShown : Row → Type 0
IsShown row = RowSpelled row × (1 ≤ length row)

whole_shown : (keys : List (ℕ × Kind)) (r : List ℕ × Row) → 1 ≤ length keys → KeySpelled (map (λ k. k.1) keys) r.0 → RowSpelled r.1 → IsShown (whole_row keys r)
whole_shown keys r some key row =
    let ids : List ℕ = map (λ k. k.0) keys in
    let cells = key_cells (map (λ k. k.1) keys) r.0 in
    let kind_some : 1 ≤ length (map (λ k. k.1) keys) = omega (arith, some, length-map keys (λ k. k.1)) in
    let id_some : 1 ≤ length ids = omega (arith, some, length-map keys (λ k. k.0)) in
    let front = zip_some ids cells id_some (key_some (map (λ k. k.1) keys) r.0 kind_some) in
    (All-append (λ (x : ℕ × Cell). IsSpelled x.1) (zip ids cells) r.1 (zip_spelled ids cells key) row, omega (arith, front, length-append (zip ids cells) r.1))

or_null : (o : Option Cell) → IfSome o IsSpelled → IsSpelled (unwrap_or o cell.Null)
or_null None is = (kind.Bool, tt)
or_null (Some c) is = is

cells_spelled : (row : Row) (ids : List ℕ) → RowSpelled row → AllByRecursion (λ id. IsSpelled (cell_of row id)) ids
cells_spelled row [] all = tt
cells_spelled row (id ∷ ids) all = (or_null (entries.find nat_cmp id row) (cell_found id row all), cells_spelled row ids all)

selected_spelled : (columns : Option (List ℕ)) (row : Row) → SelectsSome columns → IsShown row → (1 ≤ length (selected columns row)) × AllByRecursion IsSpelled (selected columns row)
selected_spelled None row some is = (omega (arith, is.1, length-map row (λ c. c.1)), All-map IsSpelled (λ c. c.1) row is.0)
selected_spelled (Some columns) row some is = (omega (arith, some, length-map columns (cell_of row)), All-map IsSpelled (cell_of row) columns (cells_spelled row columns is.0))

kinds_some : (work : Workload) (columns : Option (List ℕ)) → 1 ≤ length work.keys → SelectsSome columns → 1 ≤ length (kinds_of work columns)
kinds_some work None key some = omega (arith, key, length-append work.keys work.others, length-map (work.keys ++ work.others) (λ k. k.1))
kinds_some work (Some columns) key some = omega (arith, some, length-map columns (λ id. unwrap_or (entries.find nat_cmp id (work.keys ++ work.others)) kind.Int64))

rows_shown : (work : Workload) (scan : Scan) (rows : Rows) → 1 ≤ length work.keys → SelectsSome scan.columns → RowsSpelled (key_kinds work) rows → AllByRecursion IsRowLine (map (row_text (kinds_of work scan.columns)) (shown work.keys scan rows))
rows_shown work scan rows key some all =
    let kinds = kinds_of work scan.columns in
    let wholes = map (whole_row work.keys) rows in
    let each = All-map IsShown (whole_row work.keys) rows (All-weaker (λ (r : List ℕ × Row). KeySpelled (key_kinds work) r.0 × RowSpelled r.1) (λ r. IsShown (whole_row work.keys r)) (λ r is. whole_shown work.keys r key is.0 is.1) rows all) in
    let kept_rows = filter (kept scan.preds) wholes in
    let lines = All-weaker IsShown (λ row. IsRowLine (row_text kinds (selected scan.columns row)))
    (λ row is. let cells = selected_spelled scan.columns row some is in row_line kinds (selected scan.columns row) (kinds_some work scan.columns key some) cells.0 cells.1)
    kept_rows (all_kept_by (kept scan.preds) IsShown wholes each) in
    All-map IsRowLine (row_text kinds) (map (selected scan.columns) kept_rows) (All-map (λ cells. IsRowLine (row_text kinds cells)) (selected scan.columns) kept_rows lines)

-- ---- the reply to a command

abbrev AreLines : ShownReply → Type 0
AreLines r = AllByRecursion IsRowLine (rows_in (seen r))

shown_lines : (work : Workload) (past : Past) (t : ℕ) (c : Command) → WorkSpelled work → PastSpelled (key_kinds work) past → CommandSpelled (key_kinds work) c
    → AllByRecursion IsRowLine (map (row_text (kinds_shown work c)) (shown_by work.keys (Some c) (rows_at past t)))
shown_lines work past t (command.Write w) spelled is some = tt
shown_lines work past t (command.Scan scan) spelled is some = rows_shown work scan (rows_at past t) spelled.key some (rows_spelled (key_kinds work) past t is)
shown_lines work past t (command.Mark u) spelled is some = tt
shown_lines work past t (command.Chore chore) spelled is some = tt

told_lines : (work : Workload) (past : Past) (c : Command) (s i : ℕ) (o : Option Event) → WorkSpelled work → PastSpelled (key_kinds work) past → CommandSpelled (key_kinds work) c → command_at work s i ≡ Some c → IfSome o (λ e. answers s i e ≡ true)
    → AllByRecursion IsRowLine (rows_in (seen_of (kinds_shown work c) (unwrap_or (reply_at work past o) reply.Stopped)))
told_lines work past c s i None spelled is some at answer = tt
told_lines work past c s i (Some (Begin t j ts m)) spelled is some at answer = tt
told_lines work past c s i (Some (End t j ts)) spelled is some at answer = tt
told_lines work past c s i (Some (Look t j u m)) spelled is some at answer = tt
told_lines work past c s i (Some (Shown t j u)) spelled is some at answer =
    let both = and_parts (s == t) (i == j) answer in
    let here : command_at work t j ≡ Some c = ap (λ n. command_at work n j) (sym (eqb-true s t both.0)) ∙ ap (command_at work s) (sym (eqb-true i j both.1)) ∙ at in
    subst (λ o. AllByRecursion IsRowLine (map (row_text (kinds_shown work c)) (shown_by work.keys o (rows_at past u)))) (sym here) (shown_lines work past u c spelled is some)
told_lines work past c s i (Some (Ancient t j u a)) spelled is some at answer = tt
told_lines work past c s i (Some (Busy t j u f)) spelled is some at answer = tt
told_lines work past c s i (Some (Mark t j a)) spelled is some at answer = tt
told_lines work past c s i (Some (Chore t j)) spelled is some at answer = tt
told_lines work past c s i (Some (Large t j n)) spelled is some at answer = tt
told_lines work past c s i (Some Stop) spelled is some at answer = tt

found_passes : {A : Type 0} (p : A → Bool) (xs : List A) → IfSome (find p xs) (λ x. p x ≡ true)
found_passes p [] = tt
found_passes p (x ∷ xs) = by (p x) refl (found_passes p xs)
  where
    by : (b : Bool) → p x ≡ b → IfSome (find p xs) (λ y. p y ≡ true) → IfSome (cond b (Some x) (find p xs)) (λ y. p y ≡ true)
    by true e rest = e
    by false e rest = rest

module _ (work : Workload) (past : Past) (events : List Event) (spelled : WorkSpelled work) (is : PastSpelled (key_kinds work) past) where
  session_lines : (s i : ℕ) (commands : List Command) → AllByRecursion (CommandSpelled (key_kinds work)) commands → ((k : ℕ) → command_at work s (i + k) ≡ slice_get commands k) → AllByRecursion AreLines (shown_from work (answer work past events s) i commands)
  session_lines s i [] all at = tt
  session_lines s i (c ∷ commands) all at =
      let first : i + 0 ≡ i = omega arith in (
        told_lines work past c s i (find (answers s i) events) spelled is all.0 (ap (command_at work s) (sym first) ∙ at 0) (found_passes (answers s i) events),
        session_lines s (i + 1) commands all.1 (λ k. let next : (i + 1) + k ≡ i + suc k = omega arith in ap (command_at work s) next ∙ at (suc k)),
      )

  plan_lines : (s : ℕ) (plan : List (List Command)) → AllByRecursion (AllByRecursion (CommandSpelled (key_kinds work))) plan → ((k : ℕ) → nth work.plan (s + k) ≡ slice_get plan k) → AllByRecursion (AllByRecursion AreLines) (all_shown work (answer work past events) s plan)
  plan_lines s [] all at = tt
  plan_lines s (commands ∷ plan) all at =
      let first : s + 0 ≡ s = omega arith in
      let session : nth work.plan s ≡ Some commands = ap (nth work.plan) (sym first) ∙ at 0 in (
        session_lines s 1 commands all.0 (λ k. let next : 1 + k ≡ suc k = omega arith in ap (λ o. command_of o (1 + k)) session ∙ ap (nth commands) next),
        plan_lines (s + 1) plan all.1 (λ k. let next : (s + 1) + k ≡ s + suc k = omega arith in ap (nth work.plan) next ∙ at (suc k)),
      )

-- ---- the output

line_holds : (r : ShownReply) → ReplyFits r → AreLines r → LineHolds (seen r)
line_holds r fits rows = let n = numbers_fit r fits in record { numbers = n.0; short = n.1; rows = rows }

session_holds : (rs : List ShownReply) → AllByRecursion ReplyFits rs → AllByRecursion AreLines rs → AllByRecursion LineHolds (map seen rs)
session_holds [] fits rows = tt
session_holds (r ∷ rs) fits rows = (line_holds r fits.0 rows.0, session_holds rs fits.1 rows.1)

replies_hold : (xs : List (List ShownReply)) → AllByRecursion (All ReplyFits) xs → AllByRecursion (AllByRecursion AreLines) xs → AllByRecursion (AllByRecursion LineHolds) (map (map seen) xs)
replies_hold [] fits rows = tt
replies_hold (rs ∷ xs) fits rows = (session_holds rs (recursion_from_All ReplyFits rs fits.0) rows.0, replies_hold xs fits.1 rows.1)

-- what is printed of a run is the text of an output
pub outputs_of : (work : Workload) (past : Past) (c : ℕ) (stopped : Bool) (rowsets : ℕ) (text readings : List ℕ) (events : List Event) → WorkSpelled work → PastSpelled (key_kinds work) past → IsOutput work past c stopped rowsets text readings events → HasOutput text
outputs_of work past c stopped rowsets text readings events spelled is run =
    let replies = replies_in work past c events in
    let end = end_line rowsets (end_of work past c events) in
    let whole = past_spelled work spelled (start work past c) events is in
    let rows = plan_lines work (past_after work past c events) events spelled whole 1 work.plan spelled.plan (λ k. let next : 1 + k ≡ suc k = omega arith in ap (nth work.plan) next) in (
      shown_output replies events end,
      record {
        holds = record {
          count = subst Fits64 (sym (length-map replies (map seen))) run.fits.count;
          replies = replies_hold replies (recursion_from_All (All ReplyFits) replies run.fits.replies_fit) rows;
          events = events_hold events (recursion_from_All EventFits events run.fits.events_fit);
          last = run.fits.end_fits;
        };
        text_is = run.printed;
      },
    )
