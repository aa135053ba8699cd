-- Rows that are read in some columns alone.
use Rattle.std.proofs.Common.{◌≡◌, ℕ, List, [], ◌∷◌, Bool, true, false, ◌||◌, cond, Option, Some, None, refl, sym, ap, ◌∙◌, subst}
use Rattle.std.proofs.lemmas.Bool.{false≢true, and_parts}
use Rattle.std.specs.Cmp.{nat_cmp_total}
use Rattle.std.specs.List.{list_all}
use Rattle.std.specs.Ordering.{nat_cmp, eq_by_cmp}
use Rattle.std.specs.FinMap.{nat_cmp-IsAntisymmetric}
use Rattle.std.specs.FinMap.Entries.{find, put, find-put}
use Rattle.kt_base.specs.declared.cell.Cell.{Cell}
use Rattle.kt_base.specs.declared.cell_ref.CellRef.{CellRef}
use Rattle.kt_base.specs.Borrowed.{cell_in}
use Rattle.kt_cells.specs.Borrowed.{cells_in}
use Rattle.kt_history.specs.Rows.{Row, with_cells, is_among, AgreeIn, AgreeOn}
use Rattle.kt_history.proofs.Covering.{has}
use Rattle.kt_history.proofs.Undo.{or_else, find-with_cells, is_equal}

-- ---- rows that agree

pub agree_self : (ids : List ℕ) (row : Option Row) → AgreeOn ids row row
agree_self ids None = tt
agree_self ids (Some row) = λ id yes. refl

pub agree_then : (ids : List ℕ) (a b c : Option Row) → AgreeOn ids a b → AgreeOn ids b c → AgreeOn ids a c
agree_then ids None None None one two = tt
agree_then ids None None (Some c) one two = two
agree_then ids None (Some b) c one two = absurd one
agree_then ids (Some a) None c one two = absurd one
agree_then ids (Some a) (Some b) None one two = two
agree_then ids (Some a) (Some b) (Some c) one two = λ id yes. one id yes ∙ two id yes

-- ---- columns

tied : (a b : ℕ) → eq_by_cmp nat_cmp a b ≡ true → a ≡ b
tied a b e = nat_cmp-IsAntisymmetric a b (is_equal (nat_cmp a b) e)

by_bool : {G : Type 0} (b : Bool) → (b ≡ true → G) → (b ≡ false → G) → G
by_bool true f g = f refl
by_bool false f g = g refl

-- a column that is asked for is another one than one that is not
apart : (ids : List ℕ) (id n : ℕ) → is_among ids id ≡ true → is_among ids n ≡ false → eq_by_cmp nat_cmp id n ≡ false
apart ids id n inside outside = by_bool (eq_by_cmp nat_cmp id n) (λ same. absurd (false≢true (sym outside ∙ ap (is_among ids) (sym (tied id n same)) ∙ inside))) (λ e. e)

-- a column that these have is found in them
found : (id : ℕ) (cells : List (ℕ × CellRef)) → has id cells ≡ true → (x : Cell) × (find nat_cmp id (cells_in cells) ≡ Some x)
found id [] e = absurd (false≢true e)
found id (c ∷ cells) e = elim (eq_by_cmp nat_cmp id c.0) as (λ b. (b || has id cells) ≡ true → (x : Cell) × (cond b (Some (cell_in c.1)) (find nat_cmp id (cells_in cells)) ≡ Some x)) [
  | true ↦ λ here. (cell_in c.1, refl)
  | false ↦ λ later. found id cells later
] e

-- what lies under them does not show there
covered : (id : ℕ) (cells : List (ℕ × CellRef)) (row : Row) → has id cells ≡ true → find nat_cmp id (with_cells (cells_in cells) row) ≡ find nat_cmp id (cells_in cells)
covered id cells row e =
    let x = found id cells e in
    find-with_cells id (cells_in cells) row ∙ ap (λ o. or_else o (find nat_cmp id row)) x.1 ∙ sym x.1

-- they have each column that is asked for
all_had : (ids : List ℕ) (cells : List (ℕ × CellRef)) (id : ℕ) → list_all (λ n. has n cells) ids ≡ true → is_among ids id ≡ true → has id cells ≡ true
all_had [] cells id all e = absurd (false≢true e)
all_had (n ∷ ids) cells id all e =
    let parts = and_parts (has n cells) (list_all (λ m. has m cells) ids) all in
    elim (eq_by_cmp nat_cmp id n) as (λ b. eq_by_cmp nat_cmp id n ≡ b → (b || is_among ids id) ≡ true → has id cells ≡ true) [
      | true ↦ λ same here. subst (λ m. has m cells ≡ true) (sym (tied id n same)) parts.0
      | false ↦ λ other later. all_had ids cells id parts.1 later
    ] refl e

-- ---- a cell under a row, of a column that is not asked for

pub skipped : (ids : List ℕ) (n : ℕ) (x : Cell) (over row : Row) → is_among ids n ≡ false → AgreeIn ids (with_cells over row) (with_cells over (put nat_cmp n x row))
skipped ids n x over row outside = λ id inside.
    let missed : find nat_cmp id (put nat_cmp n x row) ≡ find nat_cmp id row = find-put nat_cmp nat_cmp_total id n x row ∙ ap (λ b. cond b (Some x) (find nat_cmp id row)) (apart ids id n inside outside) in
    find-with_cells id over row ∙ ap (or_else (find nat_cmp id over)) (sym missed) ∙ sym (find-with_cells id over (put nat_cmp n x row))

-- ---- several cells

-- some of the cells were put under others, as far as they are asked for
pub record AsksOver (ids : List ℕ) (more rest start now : Row) : Type 0 where
  pub rows : (row : Row) → AgreeIn ids (with_cells now (with_cells rest row)) (with_cells start (with_cells more row))

pub asks_none : (ids : List ℕ) (more start : Row) → AsksOver ids more more start start
asks_none ids more start = record { rows = λ row id yes. refl }

pub asks_one : (ids : List ℕ) (more rest behind start now new : Row) (c : ℕ × Cell) → AsksOver ids more rest start now → rest ≡ c ∷ behind
    → ((row : Row) → AgreeIn ids (with_cells new row) (with_cells now (put nat_cmp c.0 c.1 row))) → AsksOver ids more behind start new
asks_one ids more rest behind start now new c so_far parts made = record {
  rows = λ row id yes. made (with_cells behind row) id yes ∙ sym (ap (λ (l : Row). find nat_cmp id (with_cells now (with_cells l row))) parts) ∙ so_far.rows row id yes;
}

pub asks_all : (ids : List ℕ) (more rest start now : Row) → AsksOver ids more rest start now → rest ≡ [] → (row : Row) → AgreeIn ids (with_cells now row) (with_cells start (with_cells more row))
asks_all ids more rest start now so_far none row = λ id yes. sym (ap (λ (l : Row). find nat_cmp id (with_cells now (with_cells l row))) none) ∙ so_far.rows row id yes

-- where they have all that is asked for, those that are left do not show, and nothing under them
module _ (ids : List ℕ) (more rest start : Row) (cells : List (ℕ × CellRef)) (so_far : AsksOver ids more rest start (cells_in cells)) (all : list_all (λ n. has n cells) ids ≡ true) (row : Row) where
  pub enough : AgreeIn ids (cells_in cells) (with_cells start (with_cells more row))
  enough = λ id yes. sym (covered id cells (with_cells rest row) (all_had ids cells id all yes)) ∙ so_far.rows row id yes

  pub enough_under : AgreeIn ids (with_cells (cells_in cells) row) (with_cells start (with_cells more row))
  enough_under = λ id yes. covered id cells row (all_had ids cells id all yes) ∙ enough id yes

-- cells under which nothing lies
or_none : (o : Option Cell) → or_else o None ≡ o
or_none None = refl
or_none (Some x) = refl

alone : (id : ℕ) (cells : Row) → find nat_cmp id (with_cells cells []) ≡ find nat_cmp id cells
alone id cells = find-with_cells id cells [] ∙ or_none (find nat_cmp id cells)

pub asks_last : (ids : List ℕ) (more start now : Row) → ((row : Row) → AgreeIn ids (with_cells now row) (with_cells start (with_cells more row))) → AgreeIn ids now (with_cells start more)
asks_last ids more start now all = λ id yes.
    sym (alone id now) ∙ all [] id yes ∙ find-with_cells id start (with_cells more []) ∙ ap (or_else (find nat_cmp id start)) (alone id more) ∙ sym (find-with_cells id start more)
