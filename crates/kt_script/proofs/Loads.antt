-- What a load line that is taken stands for: the table of a load, and a plan that keeps the rules.
use Rattle.std.proofs.Common.{◌≡◌, ℕ, zero, suc, ◌+◌, ◌*◌, ◌/◌, ◌%◌, ◌^◌, ◌<◌, ◌≤◌, pos, Bool, true, false, not, List, [], ◌∷◌, ◌++◌, length, drop, Option, Some, None, refl, sym, ap, subst, ◌∙◌, arith, length-append, eqb-true}
use Rattle.std.specs.Prelude.{◌-◌, if◌then◌else◌, ◌&&◌, ◌||◌, ◌==◌, is_some, nat_lt, nat_le, codes}
use Rattle.std.specs.Int.{w64}
use Rattle.std.specs.List.{AllByRecursion}
use Rattle.std.proofs.ByRecursion.{All-append}
use Rattle.std.proofs.lemmas.Bool.{false≢true}
use Rattle.std.proofs.lemmas.Bool.Decides.{nat_tests}
use Rattle.std.proofs.lemmas.List.Sums.{sum_by-cons}
use Rattle.kt_base.specs.declared.cell.Kind.{Kind}
use Rattle.kt_base.specs.declared.cell.Kind.TheVariants as kind
use Rattle.kt_base.specs.declared.cell.Cell.{Cell}
use Rattle.kt_base.specs.declared.cell.Cell.TheVariants as cell
use Rattle.kt_base.specs.Keys.{number_key}
use Rattle.kt_base.specs.Literals.{same}
use Rattle.kt_base.proofs.Decimals.{same_text}
use Rattle.kt_base.proofs.Values.{both_true}
use Rattle.kt_key.specs.Fit.{has_kind}
use Rattle.kt_schema.specs.Columns.{other_columns}
use Rattle.kt_schema.specs.declared.column.Column.{Column}
use Rattle.kt_history.specs.declared.command.Command.{Command}
use Rattle.kt_history.specs.declared.command.Command.TheVariants as command
use Rattle.kt_history.specs.declared.operation.OpKind.{OpKind}
use Rattle.kt_script.specs.declared.forms.OpForm.{OpForm}
use Rattle.kt_script.specs.declared.forms.OpForm.TheVariants as form
use Rattle.kt_script.specs.Reasons.{sound, reason_if}
use Rattle.kt_script.specs.Columns.{counts_from}
use Rattle.kt_script.specs.Writes.{op_form}
use Rattle.kt_script.specs.Times.{time_or_zero}
use Rattle.kt_script.specs.Scripts.{commands_in}
use Rattle.kt_script.specs.Fit.{cells_fit, OpFits, CommandFits, PlanFits}
use Rattle.kt_script.specs.Loads.{most_load, number_column, load_columns, is_int64, is_number_column, is_load_table, drawn, load_cells, row_op, load_op, load_kind, load_write, load_chore, load_step, load_session, load_plan, load_number, may_load, load_no, load_size, IsLoad}

-- ---- the table

not_true : (b : Bool) → not b ≡ true → b ≡ false
not_true true h = absurd (false≢true h)
not_true false h = refl

int64_is : (k : Kind) → is_int64 k ≡ true → k ≡ kind.Int64
int64_is kind.Bool h = absurd (false≢true h)
int64_is kind.Int8 h = absurd (false≢true h)
int64_is kind.Int16 h = absurd (false≢true h)
int64_is kind.Int32 h = absurd (false≢true h)
int64_is kind.Int64 h = refl
int64_is kind.String h = absurd (false≢true h)
int64_is kind.Binary h = absurd (false≢true h)

none_is : (o : Option Cell) → not (is_some o) ≡ true → o ≡ None
none_is None h = refl
none_is (Some x) h = absurd (false≢true h)

column_is : (id : ℕ) (name : List ℕ) (key : Bool) (c : Column) → is_number_column name c ≡ true → c.key ≡ key → (c.id == id) ≡ true → c ≡ number_column id name key
column_is id name key c h is counts =
    let two = both_true (same c.name name && is_int64 c.kind) (not c.nullable && not (is_some c.default)) h in
    let first = both_true (same c.name name) (is_int64 c.kind) two.0 in
    let last = both_true (not c.nullable) (not (is_some c.default)) two.1 in
    ap (λ x. made x c.name c.kind c.key c.nullable c.default) (eqb-true c.id id counts)
    ∙ (ap (λ x. made id x c.kind c.key c.nullable c.default) (same_text c.name name first.0)
    ∙ (ap (λ x. made id name x c.key c.nullable c.default) (int64_is c.kind first.1)
    ∙ (ap (λ x. made id name kind.Int64 x c.nullable c.default) is
    ∙ (ap (λ x. made id name kind.Int64 key x c.default) (not_true c.nullable last.0)
    ∙ ap (λ x. made id name kind.Int64 key false x) (none_is c.default last.1)))))
  where
    made : ℕ → List ℕ → Kind → Bool → Bool → Option Cell → Column
    made i n k b u d = record { id = i; name = n; kind = k; key = b; nullable = u; default = d }

-- the columns of a load are those alone
pub table_is : (columns : List Column) → is_load_table columns ≡ true → counts_from 1 columns ≡ true → columns ≡ load_columns
table_is [] h ids = absurd (false≢true h)
table_is (c ∷ []) h ids = absurd (false≢true h)
table_is (c ∷ d ∷ []) h ids =
    let two = both_true (is_number_column (codes "id") c && c.key) (is_number_column (codes "v") d && not d.key) h in
    let first = both_true (is_number_column (codes "id") c) c.key two.0 in
    let last = both_true (is_number_column (codes "v") d) (not d.key) two.1 in
    let one = both_true (c.id == 1) (counts_from 2 (d ∷ [])) ids in
    let next = both_true (d.id == 2) true one.1 in
    ap (λ x. x ∷ d ∷ []) (column_is 1 (codes "id") true c first.0 first.1 one.0) ∙ ap (λ x. number_column 1 (codes "id") true ∷ x ∷ []) (column_is 2 (codes "v") false d last.0 (not_true d.key last.1) next.0)
table_is (c ∷ d ∷ e ∷ columns) h ids = absurd (false≢true h)

-- ---- the line

-- what a load line that no reason refuses keeps
pub record LoadTaken (columns : List Column) (plan : List (List Command)) (words : List (List ℕ)) : Type 0 where
  pub size : may_load (load_number (drop 1 words)) ≡ true
  pub table : is_load_table columns ≡ true
  pub first : nat_lt 0 (length plan) ≡ false

pub load_line : (columns : List Column) (plan : List (List Command)) (words : List (List ℕ)) → sound ≤ load_no columns plan words → LoadTaken columns plan words
load_line columns plan words h =
    let all = both_true (may_load (load_number (drop 1 words)) && is_load_table columns) (not (nat_lt 0 (length plan))) (off _ h) in
    let two = both_true (may_load (load_number (drop 1 words))) (is_load_table columns) all.0 in
    record { size = two.0; table = two.1; first = not_true (nat_lt 0 (length plan)) all.1 }
  where
    off : (b : Bool) → sound ≤ reason_if (not b) 12 → b ≡ true
    off true g = refl
    off false g = absurd (omega arith)

pub size_in : (o : Option ℕ) → may_load o ≡ true → (1 ≤ time_or_zero o) × (time_or_zero o ≤ most_load) × (o ≡ Some (time_or_zero o))
size_in None h = absurd (false≢true h)
size_in (Some n) h = let two = both_true (nat_lt 0 n) (nat_le n most_load) h in (low two.0, high two.1, refl)
  where
    low : nat_lt 0 n ≡ true → 1 ≤ n
    low g = grind (arith, nat_tests)

    high : nat_le n 64000 ≡ true → n ≤ 64000
    high g = grind (arith, nat_tests)

pub load_taken : (columns : List Column) (plan : List (List Command)) (words : List (List ℕ)) → counts_from 1 columns ≡ true → sound ≤ load_no columns plan words → IsLoad columns (load_plan (load_size words)) (load_size words)
load_taken columns plan words ids h =
    let taken = load_line columns plan words h in
    let size = size_in (load_number (drop 1 words)) taken.size in
    record { some = size.0; few = size.1; table = table_is columns taken.table ids; plan_is = refl }

-- ---- the plan

small : (n : ℕ) → n < 2000 → has_kind kind.Int64 (cell.Int (pos n)) ≡ true
small n h = below n h
  where
    below : (n : ℕ) → n < 2000 → nat_lt n (2 ^ 63) ≡ true
    below n g = grind (arith, nat_tests)

-- a number under v
value_fits : (v : ℕ) → v < 2000 → ((has_kind kind.Int64 (cell.Int (pos v)) || (false && false)) && not false) ≡ true
value_fits v h = ap (λ b. (b || (false && false)) && not false) (small v h)

row_fits : (k : OpKind) (v : ℕ) → v < 2000 → cells_fit (other_columns load_columns) (op_form k) (load_cells (op_form k) v) ≡ true
row_fits k v h = by (op_form k)
  where
    by : (f : OpForm) → cells_fit (other_columns load_columns) f (load_cells f v) ≡ true
    by form.Literals = ap (λ b. (b && true) && true) (value_fits v h)
    by form.RowNames = ap (λ b. (b && true) && true) (value_fits v h)
    by form.Names = ap (λ b. (b && true) && true) (value_fits v h)
    by form.Key = refl

pub op_fits : (k : OpKind) (id v : ℕ) → id < 2000 → v < 2000 → OpFits load_columns (row_op k id v)
op_fits k id v low few = record {
  key_cells = cell.Int (pos id) ∷ [];
  key = record { key = ap (λ b. b && true) (small id low); spelled = refl };
  short = short (number_key w64 (pos id)) refl;
  cells = row_fits k v few;
}
  where
    short : (bytes : List ℕ) → length bytes ≡ 8 → length bytes ≤ 16384
    short bytes is = omega (arith, is)

pub drawn_op_fits : (s y : ℕ) → s ≤ 4 → OpFits load_columns (load_op s y)
drawn_op_fits s y few = op_fits (load_kind y) (4 * ((y / 4) % 256) + s - 1) ((y / 1024) % 1000) (omega (arith, few)) (omega arith)

step_fits : (s k : ℕ) → s ≤ 4 → AllByRecursion (CommandFits load_columns) (load_step s k)
step_fits s k few = (record { some = omega arith; few = omega arith; apart = refl; each = (drawn_op_fits s (drawn s k / 2 ^ 33) few, tt) }, by (k % 64 == 0))
  where
    by : (b : Bool) → AllByRecursion (CommandFits load_columns) (if b then command.Chore (load_chore s (k / 64)) ∷ [] else [])
    by true = (tt, tt)
    by false = tt

session_fits : (n s : ℕ) → s ≤ 4 → AllByRecursion (CommandFits load_columns) (load_session n s)
session_fits zero s few = tt
session_fits (suc n) s few = All-append (CommandFits load_columns) (load_session n s) (load_step s (suc n)) (session_fits n s few) (step_fits s (suc n) few)

step_size : (s k : ℕ) → length (load_step s k) ≡ (if k % 64 == 0 then 2 else 1)
step_size s k = by (k % 64 == 0)
  where
    by : (b : Bool) → length (load_write s k ∷ (if b then command.Chore (load_chore s (k / 64)) ∷ [] else [])) ≡ (if b then 2 else 1)
    by true = refl
    by false = refl

-- how many commands a session of a load has
pub session_size : (n s : ℕ) → length (load_session n s) ≡ n + n / 64
session_size zero s = refl
session_size (suc n) s =
    let parts : length (load_session n s ++ load_step s (suc n)) ≡ length (load_session n s) + length (load_step s (suc n)) = length-append (load_session n s) (load_step s (suc n)) in
    let step = step_size s (suc n) in
    let before = session_size n s in
    by (suc n % 64 == 0) refl (parts ∙ ap (λ x. length (load_session n s) + x) step ∙ ap (λ x. x + (if suc n % 64 == 0 then 2 else 1)) before)
  where
    full : (suc n % 64 == 0) ≡ true → suc n % 64 ≡ 0
    full g = eqb-true (suc n % 64) 0 g

    open_yet : (suc n % 64 == 0) ≡ false → 1 ≤ suc n % 64
    open_yet g = grind (arith, nat_tests)

    by : (b : Bool) → (suc n % 64 == 0) ≡ b → length (load_session n s ++ load_step s (suc n)) ≡ n + n / 64 + (if b then 2 else 1) → length (load_session n s ++ load_step s (suc n)) ≡ suc n + suc n / 64
    by true g e = let m = full g in omega (arith, e, m)
    by false g e = let m = open_yet g in omega (arith, e, m)

plan_size : (n : ℕ) → commands_in (load_plan n) ≡ 4 * (n + n / 64)
plan_size n =
    let a = load_session n 1 in
    let b = load_session n 2 in
    let c = load_session n 3 in
    let d = load_session n 4 in
    let none : commands_in [] ≡ 0 = refl in
    let first : commands_in (a ∷ b ∷ c ∷ d ∷ []) ≡ length a + commands_in (b ∷ c ∷ d ∷ []) = sum_by-cons (λ (cs : List Command). length cs) a (b ∷ c ∷ d ∷ []) in
    let second : commands_in (b ∷ c ∷ d ∷ []) ≡ length b + commands_in (c ∷ d ∷ []) = sum_by-cons (λ (cs : List Command). length cs) b (c ∷ d ∷ []) in
    let third : commands_in (c ∷ d ∷ []) ≡ length c + commands_in (d ∷ []) = sum_by-cons (λ (cs : List Command). length cs) c (d ∷ []) in
    let fourth : commands_in (d ∷ []) ≡ length d + commands_in [] = sum_by-cons (λ (cs : List Command). length cs) d [] in
    omega (arith, first, second, third, fourth, none, session_size n 1, session_size n 2, session_size n 3, session_size n 4)

plan_fits : (n : ℕ) → n ≤ 64000 → PlanFits load_columns (load_plan n)
plan_fits n few = record {
  sessions = omega arith;
  commands = let size = plan_size n in omega (arith, size, few);
  each = (session_fits n 1 (omega arith), (session_fits n 2 (omega arith), (session_fits n 3 (omega arith), (session_fits n 4 (omega arith), tt))));
}

-- the plan of a load keeps the rules of its table and of the grammar
pub load_fits : (columns : List Column) (plan : List (List Command)) (n : ℕ) → IsLoad columns plan n → PlanFits columns plan
load_fits columns plan n is = subst (λ cs. PlanFits cs plan) (sym is.table) (subst (PlanFits load_columns) (sym is.plan_is) (plan_fits n is.few))
