-- The rules of a table take each write of a plan that fits it.
use Rattle.std.proofs.Common.{◌≡◌, ◌<◌, ◌≤◌, ℕ, suc, Bool, true, false, cond, not, ◌||◌, ◌&&◌, List, [], ◌∷◌, length, map, Option, Some, None, refl, sym, ap, subst, ◌∙◌, arith}
use Rattle.std.specs.Prelude.{is_some, unwrap_or, nat_le, ◌==◌}
use Rattle.std.specs.List.{AllByRecursion, list_all}
use Rattle.std.specs.Ordering.{nat_cmp, eq_by_cmp}
use Rattle.std.specs.declared.cmp.Ordering.TheVariants.{Less, Equal, Greater}
use Rattle.std.specs.FinMap.Entries.{find, put, where_key}
use Rattle.std.proofs.lemmas.Bool.{eqb-true, ne_eqb}
use Rattle.std.proofs.lemmas.Bool.Decides.{nat_tests}
use Rattle.kt_base.specs.declared.cell.Cell.{Cell}
use Rattle.kt_base.specs.declared.cell.Cell.TheVariants.{Null}
use Rattle.kt_base.specs.Keys.{key_cells}
use Rattle.kt_base.proofs.Values.{both, both_true}
use Rattle.kt_key.specs.Fit.{has_kind, is_key}
use Rattle.kt_key.specs.Reading.{Spells}
use Rattle.kt_key.specs.Spelling.{spelling}
use Rattle.kt_key.proofs.KeyReads.{keys_again}
use Rattle.kt_schema.specs.declared.column.Column.{Column}
use Rattle.kt_schema.specs.Columns.{other_columns, key_kinds, fill_of}
use Rattle.kt_schema.specs.Rows.{is_null, is_long}
use Rattle.kt_history.specs.declared.command.Command.{Command}
use Rattle.kt_history.specs.declared.command.Command.TheVariants as command
use Rattle.kt_history.specs.declared.operation.OpKind.{OpKind}
use Rattle.kt_history.specs.declared.operation.OpKind.TheVariants.{Insert, Upsert, Update, Delete, InsertIgnore, UpdateIgnore, DeleteIgnore}
use Rattle.kt_history.specs.declared.operation.RowOp.{RowOp}
use Rattle.kt_history.specs.Machine.{nth, command_of, ops_of}
use Rattle.kt_history.specs.Operations.{effect}
use Rattle.kt_history.specs.Rows.{Row, with_cells, key_cmp}
use Rattle.kt_histlaws.proofs.Pending.{itself}
use Rattle.kt_script.specs.Fit.{fits_column, is_part, is_given, cells_fit, OpFits, CommandFits, PlanFits}
use Rattle.kt_script.specs.Writes.{op_form}
use Rattle.kt_script.specs.declared.forms.OpForm.TheVariants as form
use Rattle.kt_script.proofs.PrintedTables.{Rising, all_kept, rising_kept, rising_of, numbered}
use Rattle.kt_content.specs.Rules.{AreRules, OpPasses, OpsPass, EffectPasses}
use Rattle.kt_engine.specs.Logged.{PlanPasses}
use Rattle.kt_script.specs.Scripts.{workload}
use Rattle.kt_app.specs.Session.{IsCounted, is_default}
use Rattle.kt_app.specs.TableRules.{is_spelling, is_row, rules_of}
use Rattle.kt_app.proofs.Planned.{nth_fits}

-- ---- cells of a row, and a column before them

put_same : (a : ℕ) (x : Cell) (e : ℕ × Cell) (es : Row) → a ≡ e.0 → put nat_cmp a x (e ∷ es) ≡ (e.0, x) ∷ es
put_same a x e es h = let o : nat_cmp a e.0 ≡ Equal = grind (arith, nat_tests, h) in rw o refl

put_more : (a : ℕ) (x : Cell) (e : ℕ × Cell) (es : Row) → e.0 < a → put nat_cmp a x (e ∷ es) ≡ e ∷ put nat_cmp a x es
put_more a x e es h = let o : nat_cmp a e.0 ≡ Greater = grind (arith, nat_tests, h) in rw o refl

before : (a b : ℕ) → a < b → eq_by_cmp nat_cmp a b ≡ false
before a b h = let o : nat_cmp a b ≡ Less = grind (arith, nat_tests, h) in rw o refl

behind : (a b : ℕ) → b < a → eq_by_cmp nat_cmp a b ≡ false
behind a b h = let o : nat_cmp a b ≡ Greater = grind (arith, nat_tests, h) in rw o refl

same : (a b : ℕ) → a ≡ b → eq_by_cmp nat_cmp a b ≡ true
same a b h = let o : nat_cmp a b ≡ Equal = grind (arith, nat_tests, h) in rw o refl

same_id : (n : ℕ) → (n == n) ≡ true
same_id n = grind (arith, nat_tests)

abbrev Behind : ℕ → Row → Type 0
Behind id cells = AllByRecursion (λ (x : ℕ × Cell). id < x.0) cells

part_behind : (id : ℕ) (others : List Column) (cells : Row) → AllByRecursion (λ (d : Column). id < d.id) others → is_part others cells ≡ true → Behind id cells
part_behind id [] [] up h = tt
part_behind id (c ∷ others) [] up h = tt
part_behind id [] (x ∷ cells) up h = absurd (cc)
part_behind id (c ∷ others) (x ∷ cells) up h =
    elim (c.id == x.0) as (λ b. (c.id == x.0) ≡ b → cond b (fits_column c x.1 && is_part others cells) (is_part others (x ∷ cells)) ≡ true → Behind id (x ∷ cells)) [
      | true ↦ λ e g. (let is = eqb-true c.id x.0 e in let lt = up.0 in omega arith, part_behind id others cells up.1 (both_true _ _ g).1)
      | false ↦ λ e g. part_behind id others (x ∷ cells) up.1 g
    ] refl h

with_behind : (e : ℕ × Cell) (cells rest : Row) → Behind e.0 cells → with_cells cells (e ∷ rest) ≡ e ∷ with_cells cells rest
with_behind e [] rest up = refl
with_behind e (x ∷ cells) rest up = ap (put nat_cmp x.0 x.1) (with_behind e cells rest up.1) ∙ put_more x.0 x.1 e (with_cells cells rest) up.0

find_behind : (id : ℕ) (cells : Row) → Behind id cells → find nat_cmp id cells ≡ None
find_behind id [] up = refl
find_behind id (x ∷ cells) up = ap (λ b. cond b (Some x.1) (find nat_cmp id cells)) (before id x.0 up.0) ∙ find_behind id cells up.1

-- ---- a whole row

abbrev with_defaults : List Column → Row
with_defaults others = map (λ c. (c.id, unwrap_or c.default Null)) others

abbrev AreGiven : Row → List Column → Type 0
AreGiven cells others = AllByRecursion (λ c. is_given cells c ≡ true) others

abbrev AreDefaults : List Column → Type 0
AreDefaults others = AllByRecursion (λ c. is_default c c.default ≡ true) others

either_true : (a b : Bool) → a ≡ true → (a || b) ≡ true
either_true true b h = refl
either_true false b h = absurd (cc)

default_fits : (c : Column) (d : Option Cell) → is_default c d ≡ true → (c.nullable || is_some d) ≡ true → fits_column c (unwrap_or d Null) ≡ true
default_fits c None its may = may_be c.nullable may
  where
    may_be : (n : Bool) → (n || false) ≡ true → ((false || (true && n)) && true) ≡ true
    may_be true h = refl
    may_be false h = absurd (cc)
default_fits c (Some x) its may = let two = both_true (has_kind c.kind x) (not (is_long x)) its in both _ _ (either_true (has_kind c.kind x) (is_null x && c.nullable) two.0) two.1

left_out : (c : Column) (cells : Row) → find nat_cmp c.id cells ≡ None → is_given cells c ≡ true → (c.nullable || is_some c.default) ≡ true
left_out c cells none given = alone (c.nullable || is_some c.default) (subst (λ (o : Option Cell). ((c.nullable || is_some c.default) || is_some o) ≡ true) none given)
  where
    alone : (b : Bool) → (b || false) ≡ true → b ≡ true
    alone true h = refl
    alone false h = absurd (cc)

-- a cell for a column before them is none for them
given_later : (x : ℕ × Cell) (cells : Row) (others : List Column) → AllByRecursion (λ (d : Column). x.0 < d.id) others → AreGiven (x ∷ cells) others → AreGiven cells others
given_later x cells [] up given = tt
given_later x cells (d ∷ others) up given = (
  subst (λ b. ((d.nullable || is_some d.default) || is_some (cond b (Some x.1) (find nat_cmp d.id cells))) ≡ true) (behind d.id x.0 up.0) given.0,
  given_later x cells others up.1 given.1,
)

row_of_two : (c : Column) (others : List Column) (x : ℕ × Cell) (row : Row) → c.id ≡ x.0 → fits_column c x.1 ≡ true → is_row others row ≡ true → is_row (c ∷ others) (x ∷ row) ≡ true
row_of_two c others x row id fit rest =
    let two = both_true (is_part others row) (length row == length others) rest in
    let here : (c.id == x.0) ≡ true = subst (λ n. (c.id == n) ≡ true) id (same_id c.id) in
    let size : length row ≡ length others = eqb-true (length row) (length others) two.1 in
    let long : (suc (length row) == suc (length others)) ≡ true = subst (λ n. (suc (length row) == suc n) ≡ true) size (same_id (suc (length row))) in
    both _ _ (ap (λ b. cond b (fits_column c x.1 && is_part others row) (is_part others (x ∷ row))) here ∙ both _ _ fit two.0) long

whole_row : (others : List Column) (cells : Row) → Rising others → AreDefaults others → is_part others cells ≡ true → AreGiven cells others → is_row others (with_cells cells (with_defaults others)) ≡ true
whole_row [] [] rising defaults part given = refl
whole_row [] (x ∷ cells) rising defaults part given = absurd (cc)
whole_row (c ∷ others) [] rising defaults part given =
    row_of_two c others (c.id, unwrap_or c.default Null) (with_defaults others) refl (default_fits c c.default defaults.0 (left_out c [] refl given.0)) (whole_row others [] rising.1 defaults.1 (empty others) given.1)
  where
    empty : (others : List Column) → is_part others [] ≡ true
    empty [] = refl
    empty (d ∷ others) = refl
whole_row (c ∷ others) (x ∷ cells) rising defaults part given =
    elim (c.id == x.0) as (λ b. (c.id == x.0) ≡ b → cond b (fits_column c x.1 && is_part others cells) (is_part others (x ∷ cells)) ≡ true → is_row (c ∷ others) (with_cells (x ∷ cells) (with_defaults (c ∷ others))) ≡ true) [
      | true ↦ λ e h.
          let id = eqb-true c.id x.0 e in
          let two = both_true (fits_column c x.1) (is_part others cells) h in
          let up = part_behind c.id others cells rising.0 two.1 in
          let made : with_cells (x ∷ cells) (with_defaults (c ∷ others)) ≡ (c.id, x.1) ∷ with_cells cells (with_defaults others) =
          ap (put nat_cmp x.0 x.1) (with_behind (c.id, unwrap_or c.default Null) cells (with_defaults others) up) ∙ put_same x.0 x.1 (c.id, unwrap_or c.default Null) (with_cells cells (with_defaults others)) (sym id) in
          let later : AreGiven cells others = given_later x cells others (subst (λ n. AllByRecursion (λ (d : Column). n < d.id) others) id rising.0) given.1 in
          subst (λ (r : Row). is_row (c ∷ others) r ≡ true) (sym made) (row_of_two c others (c.id, x.1) (with_cells cells (with_defaults others)) refl two.0 (whole_row others cells rising.1 defaults.1 two.1 later))
      | false ↦ λ e h.
          let up = part_behind c.id others (x ∷ cells) rising.0 h in
          let made = with_behind (c.id, unwrap_or c.default Null) (x ∷ cells) (with_defaults others) up in
          subst (λ (r : Row). is_row (c ∷ others) r ≡ true) (sym made)
          (row_of_two c others (c.id, unwrap_or c.default Null) (with_cells (x ∷ cells) (with_defaults others)) refl (default_fits c c.default defaults.0 (left_out c (x ∷ cells) (find_behind c.id (x ∷ cells) up) given.0))
          (whole_row others (x ∷ cells) rising.1 defaults.1 h given.1))
    ] refl part

-- cells for as many columns are cells for each
few_cells : (others : List Column) (cells : Row) → is_part others cells ≡ true → length cells ≤ length others
few_cells [] [] h = omega arith
few_cells (c ∷ others) [] h = omega arith
few_cells [] (x ∷ cells) h = absurd (cc)
few_cells (c ∷ others) (x ∷ cells) h =
    elim (c.id == x.0) as (λ b. cond b (fits_column c x.1 && is_part others cells) (is_part others (x ∷ cells)) ≡ true → length (x ∷ cells) ≤ length (c ∷ others)) [
      | true ↦ λ g. let few = few_cells others cells (both_true _ _ g).1 in omega (arith, few)
      | false ↦ λ g. let few = few_cells others (x ∷ cells) g in omega (arith, few)
    ] h

given_more : (x : ℕ × Cell) (cells : Row) (others : List Column) → AllByRecursion (λ (d : Column). x.0 < d.id) others → AreGiven cells others → AreGiven (x ∷ cells) others
given_more x cells [] up given = tt
given_more x cells (d ∷ others) up given = (
  subst (λ b. ((d.nullable || is_some d.default) || is_some (cond b (Some x.1) (find nat_cmp d.id cells))) ≡ true) (sym (behind d.id x.0 up.0)) given.0,
  given_more x cells others up.1 given.1,
)

all_given : (others : List Column) (cells : Row) → Rising others → is_part others cells ≡ true → length cells ≡ length others → AreGiven cells others
all_given [] cells rising h size = tt
all_given (c ∷ others) [] rising h size = absurd (omega arith)
all_given (c ∷ others) (x ∷ cells) rising h size =
    elim (c.id == x.0) as (λ b. (c.id == x.0) ≡ b → cond b (fits_column c x.1 && is_part others cells) (is_part others (x ∷ cells)) ≡ true → AreGiven (x ∷ cells) (c ∷ others)) [
      | true ↦ λ e g.
          let id = eqb-true c.id x.0 e in
          let rest = all_given others cells rising.1 (both_true _ _ g).1 (omega (arith, size)) in (
            last (c.nullable || is_some c.default) (is_some (find nat_cmp c.id (x ∷ cells))) (ap (λ b. is_some (cond b (Some x.1) (find nat_cmp c.id cells))) (same c.id x.0 id)),
            given_more x cells others (subst (λ n. AllByRecursion (λ (d : Column). n < d.id) others) id rising.0) rest,
          )
      | false ↦ λ e g. absurd (let few = few_cells others (x ∷ cells) g in omega (arith, few, size))
    ] refl h
  where
    last : (a b : Bool) → b ≡ true → (a || b) ≡ true
    last true b g = refl
    last false b g = g

each_given : (cells : Row) (others : List Column) → list_all (is_given cells) others ≡ true → AreGiven cells others
each_given cells [] h = tt
each_given cells (c ∷ others) h = let two = both_true (is_given cells c) (list_all (is_given cells) others) h in (two.0, each_given cells others two.1)

-- ---- cells over a row, and some of a row's cells

-- a row has a cell for the first column, and is a row of the others behind it
pub record Heads (c : Column) (others : List Column) (r : ℕ × Cell) (row : Row) : Type 0 where
  pub id : c.id ≡ r.0
  pub fit : fits_column c r.1 ≡ true
  pub rest : is_row others row ≡ true

heads : (c : Column) (others : List Column) (r : ℕ × Cell) (row : Row) → is_row (c ∷ others) (r ∷ row) ≡ true → Heads c others r row
heads c others r row h = by (c.id == r.0) refl two.0
  where
    two : (is_part (c ∷ others) (r ∷ row) ≡ true) × ((length (r ∷ row) == length (c ∷ others)) ≡ true)
    two = both_true (is_part (c ∷ others) (r ∷ row)) (length (r ∷ row) == length (c ∷ others)) h

    size : length row ≡ length others
    size = let e = eqb-true (length (r ∷ row)) (length (c ∷ others)) two.1 in omega arith

    by : (b : Bool) → (c.id == r.0) ≡ b → cond b (fits_column c r.1 && is_part others row) (is_part others (r ∷ row)) ≡ true → Heads c others r row
    by true e g =
        let parts = both_true (fits_column c r.1) (is_part others row) g in
        record { id = eqb-true c.id r.0 e; fit = parts.0; rest = both _ _ parts.1 (subst (λ n. (n == length others) ≡ true) (sym size) (same_id (length others))) }
    by false e g = absurd (let few = few_cells others (r ∷ row) g in omega (arith, few, size))

-- cells for some of the columns over a row are a row
over_row : (others : List Column) (cells row : Row) → Rising others → is_part others cells ≡ true → is_row others row ≡ true → is_row others (with_cells cells row) ≡ true
over_row others [] row rising part is = is
over_row [] (x ∷ cells) row rising part is = absurd (cc)
over_row (c ∷ others) (x ∷ cells) [] rising part is = absurd (let e = eqb-true 0 (suc (length others)) is in omega arith)
over_row (c ∷ others) (x ∷ cells) (r ∷ row) rising part is =
    elim (c.id == x.0) as (λ b. (c.id == x.0) ≡ b → cond b (fits_column c x.1 && is_part others cells) (is_part others (x ∷ cells)) ≡ true → is_row (c ∷ others) (with_cells (x ∷ cells) (r ∷ row)) ≡ true) [
      | true ↦ λ e h.
          let own = heads c others r row is in
          let id = eqb-true c.id x.0 e in
          let two = both_true (fits_column c x.1) (is_part others cells) h in
          let up : Behind r.0 cells = subst (λ n. Behind n cells) own.id (part_behind c.id others cells rising.0 two.1) in
          let made : with_cells (x ∷ cells) (r ∷ row) ≡ (r.0, x.1) ∷ with_cells cells row = ap (put nat_cmp x.0 x.1) (with_behind r cells row up) ∙ put_same x.0 x.1 r (with_cells cells row) (sym id ∙ own.id) in
          subst (λ (l : Row). is_row (c ∷ others) l ≡ true) (sym made) (row_of_two c others (r.0, x.1) (with_cells cells row) own.id two.0 (over_row others cells row rising.1 two.1 own.rest))
      | false ↦ λ e h.
          let own = heads c others r row is in
          let up : Behind r.0 (x ∷ cells) = subst (λ n. Behind n (x ∷ cells)) own.id (part_behind c.id others (x ∷ cells) rising.0 h) in
          subst (λ (l : Row). is_row (c ∷ others) l ≡ true) (sym (with_behind r (x ∷ cells) row up)) (row_of_two c others r (with_cells (x ∷ cells) row) own.id own.fit (over_row others (x ∷ cells) row rising.1 h own.rest))
    ] refl part

-- cells for columns behind one are cells for all of them
part_later : (c : Column) (others : List Column) (cells : Row) → AllByRecursion (λ (d : Column). c.id < d.id) others → is_part others cells ≡ true → is_part (c ∷ others) cells ≡ true
part_later c others [] up part = refl
part_later c others (x ∷ cells) up part =
    let lt = (part_behind c.id others (x ∷ cells) up part).0 in
    let other : (c.id == x.0) ≡ false = ne_eqb c.id x.0 (λ e. omega (arith, lt, e)) in
    ap (λ b. cond b (fits_column c x.1 && is_part others cells) (is_part others (x ∷ cells))) other ∙ part

-- a row's cells under some ids are cells for some of the columns
part_under : (p : ℕ → Bool) (others : List Column) (row : Row) → Rising others → is_row others row ≡ true → is_part others (where_key nat_cmp p row) ≡ true
part_under p [] [] rising is = refl
part_under p [] (r ∷ row) rising is = absurd (cc)
part_under p (c ∷ others) [] rising is = refl
part_under p (c ∷ others) (r ∷ row) rising is =
    let own = heads c others r row is in
    let rest = part_under p others row rising.1 own.rest in
    let here : (c.id == r.0) ≡ true = subst (λ n. (c.id == n) ≡ true) own.id (same_id c.id) in
    elim (p r.0) as (λ b. is_part (c ∷ others) (cond b (r ∷ where_key nat_cmp p row) (where_key nat_cmp p row)) ≡ true) [
      | true ↦ ap (λ b. cond b (fits_column c r.1 && is_part others (where_key nat_cmp p row)) (is_part others (r ∷ where_key nat_cmp p row))) here ∙ both _ _ own.fit rest
      | false ↦ part_later c others (where_key nat_cmp p row) rising.0 rest
    ]

-- ---- an operation, a write and a plan

module _ (columns : List Column) (counted : IsCounted columns) where
  abbrev others : List Column
  others = other_columns columns

  rising : Rising others
  rising = rising_kept (λ c. not c.key) columns (rising_of 1 columns (numbered 1 columns counted.counted))

  defaults : AreDefaults others
  defaults = all_kept (λ c. is_default c c.default ≡ true) (λ c. not c.key) columns counted.defaults

  full : (cells : Row) → cells_fit others form.Literals cells ≡ true → is_row others (with_cells cells (fill_of columns)) ≡ true
  full cells h = let two = both_true (is_part others cells) (length cells == length others) h in whole_row others cells rising defaults two.0 (all_given others cells rising two.0 (eqb-true (length cells) (length others) two.1))

  named : (cells : Row) → cells_fit others form.RowNames cells ≡ true → is_row others (with_cells cells (fill_of columns)) ≡ true
  named cells h = let two = both_true (is_part others cells) (list_all (is_given cells) others) h in whole_row others cells rising defaults two.0 (each_given cells others two.1)

  effect_passes : (k : OpKind) (cells : Row) (row : Option Row) → cells_fit others (op_form k) cells ≡ true → EffectPasses (rules_of columns) (effect (fill_of columns) k cells row).0
  effect_passes Insert cells None h = full cells h
  effect_passes Insert cells (Some row) h = tt
  effect_passes Upsert cells None h = named cells h
  effect_passes Upsert cells (Some row) h = (both_true (is_part others cells) (list_all (is_given cells) others) h).0
  effect_passes Update cells None h = tt
  effect_passes Update cells (Some row) h = (both_true (is_part others cells) (not (length cells == 0)) h).0
  effect_passes Delete cells None h = tt
  effect_passes Delete cells (Some row) h = tt
  effect_passes InsertIgnore cells None h = full cells h
  effect_passes InsertIgnore cells (Some row) h = tt
  effect_passes UpdateIgnore cells None h = tt
  effect_passes UpdateIgnore cells (Some row) h = (both_true (is_part others cells) (not (length cells == 0)) h).0
  effect_passes DeleteIgnore cells None h = tt
  effect_passes DeleteIgnore cells (Some row) h = tt

  key_passes : (key : List ℕ) (cells : List Cell) → Spells (key_kinds columns) cells key → length key ≤ 16384 → (is_spelling (key_kinds columns) key && nat_le (length key) 16384) ≡ true
  key_passes key cells spells short =
      let kinds = key_kinds columns in
      let again = keys_again kinds cells key spells in
      let is : is_key kinds (key_cells kinds key) ≡ true = ap (is_key kinds) again ∙ spells.key in
      let spelled : spelling kinds (key_cells kinds key) ≡ key = ap (spelling kinds) again ∙ spells.spelled in
      both _ _ (both _ _ is (subst (λ (k : List ℕ). eq_by_cmp key_cmp k key ≡ true) (sym spelled) (itself key))) (few (length key) short)
    where
      few : (n : ℕ) → n ≤ 16384 → nat_le n 16384 ≡ true
      few n h = grind (arith, nat_tests)

  op_passes : (o : RowOp) → OpFits columns o → OpPasses (rules_of columns) (fill_of columns) o
  op_passes o fits = (key_passes o.key fits.key_cells fits.key fits.short, λ row. effect_passes o.kind o.cells row fits.cells)

  ops_pass : (ops : List RowOp) → AllByRecursion (OpFits columns) ops → OpsPass (rules_of columns) (fill_of columns) ops
  ops_pass [] h = tt
  ops_pass (o ∷ ops) h = (op_passes o h.0, ops_pass ops h.1)

  command_passes : (o : Option Command) → ((c : Command) → o ≡ Some c → CommandFits columns c) → OpsPass (rules_of columns) (fill_of columns) (ops_of o)
  command_passes None f = tt
  command_passes (Some (command.Write w)) f = ops_pass w.ops (f (command.Write w) refl).each
  command_passes (Some (command.Scan scan)) f = tt
  command_passes (Some (command.Mark t)) f = tt
  command_passes (Some (command.Chore chore)) f = tt

  session_passes : (o : Option (List Command)) (i : ℕ) → ((cs : List Command) → o ≡ Some cs → AllByRecursion (CommandFits columns) cs) → OpsPass (rules_of columns) (fill_of columns) (ops_of (command_of o i))
  session_passes None i f = tt
  session_passes (Some cs) i f = command_passes (nth cs i) (λ c e. nth_fits (CommandFits columns) cs i c (f cs refl) e)

  pub takes_plan : (cells : ℕ) (plan : List (List Command)) → PlanFits columns plan → PlanPasses (rules_of columns) (workload cells (record { columns = columns; plan = plan }))
  takes_plan cells plan fits s i = session_passes (nth plan s) i (λ cs e. nth_fits (AllByRecursion (CommandFits columns)) plan s cs fits.each e)

  -- the rules stay rules, whatever is put over a row
  pub closed : AreRules (rules_of columns)
  closed = record {
    changed = λ cells row part is. over_row others cells row rising part is;
    part = λ under row is. part_under (λ id. is_some (find nat_cmp id under)) others row rising is;
  }
