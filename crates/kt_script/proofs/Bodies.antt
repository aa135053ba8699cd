-- The lines below the columns, one after another.
use Rattle.std.proofs.Common.{◌≡◌, ℕ, suc, ◌+◌, ◌<◌, ◌≤◌, Bool, true, false, not, List, [], ◌∷◌, ◌++◌, length, drop, Option, Some, None, Result, Ok, Err, min, refl, sym, ap, subst, ◌∙◌, arith, length-append}
use Rattle.std.specs.Prelude.{if◌then◌else◌, ◌&&◌, nat_lt, nat_le}
use Rattle.std.specs.List.{list_any, AllByRecursion}
use Rattle.std.proofs.lemmas.Bool.{false≢true}
use Rattle.std.proofs.lemmas.Bool.Decides.{nat_tests}
use Rattle.std.proofs.lemmas.List.Sums.{sum_by-cons, sum_by-append}
use Rattle.kt_schema.specs.declared.column.Column.{Column}
use Rattle.kt_history.specs.declared.command.Command.{Command}
use Rattle.kt_script.specs.declared.columns.LineNo.{LineNo}
use Rattle.kt_script.specs.declared.columns.LineNo.TheVariants as line
use Rattle.kt_script.specs.declared.refusal.ScriptNo.TheVariants as why
use Rattle.kt_script.specs.Pieces.{cut, words_of}
use Rattle.kt_script.specs.Reasons.{sound, reason_if}
use Rattle.kt_script.specs.Columns.{begins_column, column_no, columns_with, counts_from}
use Rattle.kt_script.specs.declared.leads.Word.{Word}
use Rattle.kt_script.specs.declared.leads.Word.TheVariants as word
use Rattle.kt_script.specs.declared.leads.Lead.{Lead}
use Rattle.kt_script.specs.declared.leads.Lead.TheVariants as lead
use Rattle.kt_script.specs.Leads.{lead_in}
use Rattle.kt_script.specs.Writes.{write_no, write_of}
use Rattle.kt_script.specs.Scripts.{Above, head, body, fault_if, fault_from, above_end, at, located, first_piece, first_lead, is_load, begins_load, session_no, full_no, command_no, command_of, led_no, led_plan, led_after, body_no, body_plan, body_after, push_last, commands_in, is_begun, most_sessions, most_commands, said, load_in, ReadsBody, ReadsLed}
use Rattle.kt_script.specs.Times.{most_time, time_no, time_or_zero, mark_in, mark_no, mark_of}
use Rattle.kt_script.specs.Fit.{CommandFits, WriteFits, PlanFits, IsBodyRead}
use Rattle.kt_script.specs.Loads.{load_number, may_load, is_load_table, load_no}
use Rattle.kt_script.proofs.Faults.{fault_step, end_step, first_step, told, untold}
use Rattle.kt_script.proofs.ScanFit.{scan_fits}

-- below columns with a key, a line that is no column's stands below no session yet
pub faults_below : (columns : List Column) (n : ℕ) (pieces : List (List ℕ)) → list_any (λ c. c.key) columns ≡ true → begins_column (first_piece pieces) ≡ false → fault_from (head columns) n pieces ≡ fault_from (body columns []) n pieces
faults_below columns n [] key none = refl
faults_below columns n ([] ∷ []) key none = ap (λ b. fault_if n (reason_if (not b) 5) None) key
faults_below columns n ((b ∷ bytes) ∷ []) key none = refl
faults_below columns n (front ∷ more ∷ pieces) key none =
    ap (λ b. fault_if n (if b then column_no columns front else (if list_any (λ c. c.key) columns then body_no columns [] (words_of front) else 5)) (fault_from (if b then head (columns_with columns front) else body_after columns [] (words_of front)) (n + 1) (more ∷ pieces))) none
    ∙ ap (λ b. fault_if n (if b then body_no columns [] (words_of front) else 5) (fault_from (body_after columns [] (words_of front)) (n + 1) (more ∷ pieces))) key

-- and so is what is asked of the end
pub ends_below : {B : Type 0} (f : Above → B) (columns : List Column) (pieces : List (List ℕ)) → f (head columns) ≡ f (body columns []) → begins_column (first_piece pieces) ≡ false → f (above_end (head columns) pieces) ≡ f (above_end (body columns []) pieces)
ends_below f columns [] same none = same
ends_below f columns (rest ∷ []) same none = same
ends_below f columns (front ∷ more ∷ pieces) same none = ap (λ b. f (above_end (if b then head (columns_with columns front) else body_after columns [] (words_of front)) (more ∷ pieces))) none

-- ---- no load line

-- below a line that is no load line the sessions stand
pub no_load_after : (columns : List Column) (plan : List (List Command)) (words : List (List ℕ)) → is_load (first_lead words) ≡ false → body_after columns plan words ≡ body columns (body_plan columns plan words)
no_load_after columns plan words none = by (first_lead words) none
  where
    by : (l : Option Lead) → is_load l ≡ false → led_after columns plan l words ≡ body columns (led_plan columns plan l words)
    by None e = refl
    by (Some lead.Session) e = refl
    by (Some lead.Load) e = absurd cc
    by (Some (lead.Command w)) e = refl

pub begins_by : (text front behind : List ℕ) → cut 10 text ≡ front ∷ cut 10 behind → begins_load (cut 10 text) ≡ is_load (first_lead (words_of front))
begins_by text front behind is = ap (λ l. is_load (first_lead (words_of l))) (first_step text front behind is)

-- how far the lines are read
pub record BodyRead (columns : List Column) (n : ℕ) (text rest : List ℕ) (number : ℕ) (plan : List (List Command)) : Type 0 where
  pub fault : fault_from (head columns) n (cut 10 text) ≡ fault_from (body columns plan) number (cut 10 rest)
  pub end : said (above_end (head columns) (cut 10 text)) ≡ said (above_end (body columns plan) (cut 10 rest))
  pub load_is : load_in (above_end (head columns) (cut 10 text)) ≡ load_in (above_end (body columns plan) (cut 10 rest))
  pub no_load : is_begun plan ≡ false → begins_load (cut 10 rest) ≡ false
  pub fits : PlanFits columns plan
  pub size : number + length rest ≤ n + length text

pub body_begins : (columns : List Column) (n : ℕ) (text : List ℕ) → list_any (λ c. c.key) columns ≡ true → begins_column (first_piece (cut 10 text)) ≡ false → begins_load (cut 10 text) ≡ false → BodyRead columns n text text n []
body_begins columns n text key none no_load = record {
  fault = faults_below columns n (cut 10 text) key none;
  end = ends_below said columns (cut 10 text) refl none;
  load_is = ends_below load_in columns (cut 10 text) refl none;
  no_load = λ e. no_load;
  fits = record { sessions = omega arith; commands = omega arith; each = tt };
  size = omega arith;
}

-- a line that is refused
pub body_refused : {columns : List Column} {n number : ℕ} {text rest : List ℕ} {old : List (List Command)} (A : Type 0) (new : List (List Command)) (front behind : List ℕ) (no : LineNo) → BodyRead columns n text rest number old → cut 10 rest ≡ front ∷ cut 10 behind
    → ReadsBody {A = A} columns old (words_of front) new (Err no) → IsBodyRead columns n text (Err (located number no))
body_refused {columns} {n} {number} {text} {rest} {old} A new front behind line.Memory r is reads = tt
body_refused {columns} {n} {number} {text} {rest} {old} A new front behind (line.Reason reason) r is reads =
    r.fault ∙ (fault_step (body columns old) number rest front behind is ∙ told number reason (body_no columns old (words_of front)) _ reads.0 reads.1)

-- no line is left
pub body_ends : {columns : List Column} {n number : ℕ} {text rest : List ℕ} {plan : List (List Command)} → BodyRead columns n text rest number plan → cut 10 rest ≡ rest ∷ [] → rest ≡ [] → IsBodyRead columns n text (Ok plan)
body_ends {columns} {n} {number} {text} {rest} {plan} r is none =
    let pieces : cut 10 rest ≡ [] ∷ [] = is ∙ ap (λ x. x ∷ []) none in
    (r.fault ∙ ap (fault_from (body columns plan) number) pieces, r.end ∙ ap (λ ps. said (above_end (body columns plan) ps)) pieces, r.load_is ∙ ap (λ ps. load_in (above_end (body columns plan) ps)) pieces, r.fits)

-- a line without its newline is left
pub body_cut_off : {columns : List Column} {n number : ℕ} {text rest : List ℕ} {plan : List (List Command)} → BodyRead columns n text rest number plan → cut 10 rest ≡ rest ∷ [] → (rest ≡ [] → ⊥) → IsBodyRead columns n text (Err (why.Line number 2))
body_cut_off {columns} {n} {number} {text} {rest} {plan} r is some = r.fault ∙ (ap (fault_from (body columns plan) number) is ∙ by rest some)
  where
    by : (xs : List ℕ) → (xs ≡ [] → ⊥) → fault_from (body columns plan) number (xs ∷ []) ≡ at number 2
    by [] g = absurd (g refl)
    by (x ∷ xs) g = refl

off : (b : Bool) (r : ℕ) → r < sound → sound ≤ reason_if b r → b ≡ false
off true r h g = absurd (omega arith)
off false r h g = refl

each_push : {A : Type 0} (P : A → Type 0) (xs : List A) (x : A) → AllByRecursion P xs → P x → AllByRecursion P (xs ++ x ∷ [])
each_push P [] x all p = (p, tt)
each_push P (y ∷ xs) x all p = (all.0, each_push P xs x all.1 p)

session_more : (plan : List (List Command)) → (length (plan ++ [] ∷ []) ≡ length plan + 1) × (commands_in (plan ++ [] ∷ []) ≡ commands_in plan)
session_more plan =
    let count : commands_in (plan ++ [] ∷ []) ≡ commands_in plan + 0 = sum_by-append (λ (commands : List Command). length commands) plan ([] ∷ []) in
    let size : length (plan ++ [] ∷ []) ≡ length plan + 1 = length-append plan ([] ∷ []) in
    (size, omega (arith, count))

begun_on : (commands : List Command) (plan : List (List Command)) → is_begun (commands ∷ plan) ≡ true
begun_on commands plan = positive (length plan)
  where
    positive : (n : ℕ) → nat_lt 0 (suc n) ≡ true
    positive n = grind (arith, nat_tests)

count_on : (commands : List Command) (plan : List (List Command)) → commands_in (commands ∷ plan) ≡ length commands + commands_in plan
count_on commands plan = sum_by-cons (λ (cs : List Command). length cs) commands plan

pushed : (columns : List Column) (c : Command) (plan : List (List Command)) → CommandFits columns c → AllByRecursion (AllByRecursion (CommandFits columns)) plan → is_begun plan ≡ true
    → (length (push_last c plan) ≡ length plan) × (commands_in (push_last c plan) ≡ commands_in plan + 1) × AllByRecursion (AllByRecursion (CommandFits columns)) (push_last c plan)
pushed columns c [] fit each some = absurd cc
pushed columns c (commands ∷ []) fit each some = (
  refl,
  let size : length (commands ++ c ∷ []) ≡ length commands + length (c ∷ []) = length-append commands (c ∷ []) in omega (arith, size, count_on commands [], count_on (commands ++ c ∷ []) []),
  (each_push (CommandFits columns) commands c each.0 fit, tt),
)
pushed columns c (commands ∷ more ∷ plan) fit each some =
    let later = pushed columns c (more ∷ plan) fit each.1 (begun_on more plan) in
    (ap suc later.0, count_on commands (push_last c (more ∷ plan)) ∙ (ap (λ n. length commands + n) later.1 ∙ (assoc (length commands) (commands_in (more ∷ plan)) ∙ ap (λ n. n + 1) (sym (count_on commands (more ∷ plan))))), (each.0, later.2))
  where
    assoc : (a b : ℕ) → a + (b + 1) ≡ a + b + 1
    assoc a b = omega arith

-- a command more in the last of some sessions
pub push_is : (c : Command) (ended : List (List Command)) (last : List Command) → push_last c (ended ++ last ∷ []) ≡ ended ++ (last ++ c ∷ []) ∷ []
push_is c [] last = refl
push_is c (x ∷ []) last = refl
push_is c (x ∷ y ∷ ended) last = ap (λ plan. x ∷ plan) (push_is c (y ∷ ended) last)

command_pushed : (columns : List Column) (plan : List (List Command)) (c : Command) → PlanFits columns plan → CommandFits columns c → is_begun plan ≡ true → sound ≤ reason_if (nat_le most_commands (commands_in plan)) 20 → PlanFits columns (push_last c plan)
command_pushed columns plan c fits fit some free =
    let p = pushed columns c plan fit fits.each some in
    let room : nat_le most_commands (commands_in plan) ≡ false = off _ 20 (omega arith) free in
    let below : commands_in plan < 262144 = grind (arith, nat_tests) in
    record { sessions = omega (arith, p.0, fits.sessions); commands = omega (arith, p.1, below); each = p.2 }

-- a mark that no reason refuses is not too late
mark_fits : (words : List (List ℕ)) → sound ≤ mark_no words → mark_of words ≤ most_time
mark_fits words h = by (mark_in words) h
  where
    low : (t : ℕ) (b : Bool) → nat_lt most_time t ≡ b → sound ≤ reason_if b 20 → t ≤ most_time
    low t true e g = absurd (omega arith)
    low t false e g = grind (arith, nat_tests)

    by : (o : Option ℕ) → sound ≤ time_no o → time_or_zero o ≤ most_time
    by None g = absurd (omega arith)
    by (Some t) g = low t (nat_lt most_time t) refl g

-- a line that no reason refuses keeps the plan fitting
pub body_fits : (columns : List Column) (plan : List (List Command)) (words : List (List ℕ)) → counts_from 1 columns ≡ true → ((ws : List (List ℕ)) → sound ≤ write_no columns ws → WriteFits columns (write_of columns ws)) → PlanFits columns plan
    → sound ≤ body_no columns plan words → PlanFits columns (body_plan columns plan words)
body_fits columns plan words counts writes fits h = by (first_lead words) h
  where
    begin : sound ≤ session_no plan words → PlanFits columns (plan ++ [] ∷ [])
    begin g =
        let none : nat_le most_sessions (length plan) ≡ false = off _ 20 (omega arith) (omega (arith, g)) in
        let below : length plan < 64 = grind (arith, nat_tests) in
        let more = session_more plan in
        record { sessions = omega (arith, more.0, below); commands = omega (arith, more.1, fits.commands); each = each_push (AllByRecursion (CommandFits columns)) plan [] fits.each tt }

    fit : (w : Word) → sound ≤ command_no columns w words → CommandFits columns (command_of columns w words)
    fit word.Scan g = scan_fits columns (drop 1 words) counts g
    fit word.Mark g = mark_fits (drop 1 words) g
    fit (word.Chore c) g = tt
    fit (word.Op k) g = writes words g

    in_session : (w : Word) (b : Bool) → is_begun plan ≡ b → sound ≤ (if b then min (command_no columns w words) (full_no plan) else 11) → PlanFits columns (push_last (command_of columns w words) plan)
    in_session w true some g = command_pushed columns plan (command_of columns w words) fits (fit w (omega (arith, g))) some (omega (arith, g))
    in_session w false some g = absurd (omega (arith, g))

    by : (l : Option Lead) → sound ≤ led_no columns plan l words → PlanFits columns (led_plan columns plan l words)
    by None g = absurd (omega (arith, g))
    by (Some lead.Session) g = begin g
    by (Some lead.Load) g = fits
    by (Some (lead.Command w)) g = in_session w (is_begun plan) refl g

-- a load line that stands below a session
pub load_refused : (columns : List Column) (plan : List (List Command)) (words : List (List ℕ)) → is_begun plan ≡ true → load_no columns plan words ≡ 12
load_refused columns plan words some = ap (λ t. reason_if (not ((may_load (load_number (drop 1 words)) && is_load_table columns) && not t)) 12) some ∙ off_line (may_load (load_number (drop 1 words)) && is_load_table columns)
  where
    off_line : (b : Bool) → reason_if (not (b && false)) 12 ≡ 12
    off_line true = refl
    off_line false = refl

pub load_below : (columns : List Column) (old : List (List Command)) (words : List (List ℕ)) → first_lead words ≡ Some lead.Load → (is_begun old ≡ false → is_load (first_lead words) ≡ false) → (body_no columns old words ≡ 12) × (12 < sound)
load_below columns old words first opens = (ap (λ l. led_no columns old l words) first ∙ load_refused columns old words (by (is_begun old) refl), omega arith)
  where
    by : (b : Bool) → is_begun old ≡ b → b ≡ true
    by true e = refl
    by false e = absurd (false≢true (sym (opens e) ∙ ap is_load first))

-- a line of a session that no reason refuses begins a session or stands in one
stands_in : (columns : List Column) (plan : List (List Command)) (words : List (List ℕ)) → (is_begun plan ≡ false → is_load (first_lead words) ≡ false) → sound ≤ body_no columns plan words → (is_load (first_lead words) ≡ false) × (is_begun (body_plan columns plan words) ≡ true)
stands_in columns plan words opens h = by (first_lead words) opens h
  where
    some_more : (ended : List (List Command)) (last : List Command) → is_begun (ended ++ last ∷ []) ≡ true
    some_more [] last = refl
    some_more (commands ∷ ended) last = begun_on commands (ended ++ last ∷ [])

    still : (c : Command) (p : List (List Command)) → is_begun p ≡ true → is_begun (push_last c p) ≡ true
    still c [] e = refl
    still c (commands ∷ []) e = refl
    still c (commands ∷ more ∷ p) e = begun_on commands (push_last c (more ∷ p))

    load_line : (b : Bool) → is_begun plan ≡ b → (is_begun plan ≡ false → true ≡ false) → sound ≤ load_no columns plan words → ⊥
    load_line true some f g = let no = load_refused columns plan words some in omega (arith, g, no)
    load_line false none f g = absurd (false≢true (sym (f none)))

    command_line : (w : Word) (b : Bool) → is_begun plan ≡ b → sound ≤ (if b then min (command_no columns w words) (full_no plan) else 11) → is_begun (push_last (command_of columns w words) plan) ≡ true
    command_line w true some g = still (command_of columns w words) plan some
    command_line w false none g = absurd (omega arith)

    by : (l : Option Lead) → (is_begun plan ≡ false → is_load l ≡ false) → sound ≤ led_no columns plan l words → (is_load l ≡ false) × (is_begun (led_plan columns plan l words) ≡ true)
    by None f g = absurd (omega (arith, g))
    by (Some lead.Session) f g = (refl, some_more plan [])
    by (Some lead.Load) f g = absurd (load_line (is_begun plan) refl f g)
    by (Some (lead.Command w)) f g = (refl, command_line w (is_begun plan) refl g)

-- a line that is read
pub body_read : {A : Type 0} {columns : List Column} {n number : ℕ} {text rest : List ℕ} {old new : List (List Command)} (front behind : List ℕ) (done : A) → counts_from 1 columns ≡ true
    → ((ws : List (List ℕ)) → sound ≤ write_no columns ws → WriteFits columns (write_of columns ws)) → BodyRead columns n text rest number old → cut 10 rest ≡ front ∷ cut 10 behind → length behind < length rest
    → ReadsBody {A = A} columns old (words_of front) new (Ok done) → BodyRead columns n text behind (number + 1) new
body_read {columns = columns} {number = number} {rest = rest} {old = old} {new = new} front behind done counts writes r is less reads =
    let words = words_of front in
    let stands = stands_in columns old words (λ e. sym (begins_by rest front behind is) ∙ r.no_load e) (omega (arith, reads.0)) in
    let next : body_after columns old words ≡ body columns new = no_load_after columns old words stands.0 ∙ ap (body columns) (sym reads.1) in
    let end : above_end (body columns old) (cut 10 rest) ≡ above_end (body columns new) (cut 10 behind) = end_step (body columns old) rest front behind is ∙ ap (λ a. above_end a (cut 10 behind)) next in
    record {
      fault = r.fault ∙ (fault_step (body columns old) number rest front behind is ∙ (untold number (body_no columns old words) _ reads.0 ∙ ap (λ a. fault_from a (number + 1) (cut 10 behind)) next));
      end = r.end ∙ ap said end;
      load_is = r.load_is ∙ ap load_in end;
      no_load = λ e. absurd (false≢true (sym e ∙ (ap is_begun reads.1 ∙ stands.1)));
      fits = subst (PlanFits columns) (sym reads.1) (body_fits columns old (words_of front) counts writes r.fits (omega (arith, reads.0)));
      size = omega (arith, r.size, less);
    }

-- a line is read by its first word
pub body_led : {A : Type 0} (columns : List Column) (old new : List (List Command)) (result : Result A LineNo) (words : List (List ℕ)) (first : List ℕ) (more : List (List ℕ)) (l : Option Lead) → words ≡ first ∷ more → lead_in first ≡ l
    → ReadsLed {A = A} columns old l words new result → ReadsBody {A = A} columns old words new result
body_led {A} columns old new result words first more l is of reads = subst (λ x. ReadsLed {A = A} columns old x words new result) (sym (ap first_lead is ∙ of)) reads
