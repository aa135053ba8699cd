-- The columns of a table: each is found by its name and by its id, and the key columns stand first.
use Rattle.std.proofs.Common.{◌≡◌, ℕ, suc, ◌+◌, ◌<◌, List, [], ◌∷◌, refl, sym, ap, subst, ◌∙◌, cond, arith, length, take, Bool, true, false, not, Option, Some, None}
use Rattle.std.specs.Prelude.{◌||◌, ◌==◌, if◌then◌else◌}
use Rattle.std.specs.List.{filter, list_any, slice_get, AllByRecursion}
use Rattle.std.specs.Option.{option_map_or}
use Rattle.std.specs.Ordering.{nat_cmp, is_eq}
use Rattle.std.specs.Cmp.Lexicographic.{slice_cmp, nat_list_eq_equiv}
use Rattle.std.proofs.lemmas.Bool.{eqb-true}
use Rattle.kt_base.specs.Literals.{same}
use Rattle.kt_base.proofs.Values.{both_true}
use Rattle.kt_key.proofs.Kept.{bytes_cmp-self}
use Rattle.kt_schema.specs.declared.column.Column.{Column}
use Rattle.kt_schema.specs.First.{passes_at}
use Rattle.kt_schema.specs.Columns.{is_again, same_name, other_columns}
use Rattle.kt_script.specs.Columns.{counts_from, IsTable}
use Rattle.kt_script.specs.Writes.{column_named}
use Rattle.kt_script.specs.Fit.{column_of}
use Rattle.kt_script.specs.Print.{ColumnFits, ColumnsFit}
use Rattle.kt_base.proofs.Decimals.{same_text}

pub same_self : (xs : List ℕ) → same xs xs ≡ true
same_self xs = nat_list_eq_equiv.refl xs

pub names_differ : (m n : List ℕ) → same m n ≡ false → m ≡ n → ⊥
names_differ m n h e = true_false (sym (ap (λ x. same x n) e ∙ same_self n) ∙ h)
  where
    true_false : ◌≡◌ {A = Bool} true false → ⊥
    true_false e = cc

pub turned : (m n : List ℕ) → same m n ≡ false → same n m ≡ false
turned m n h = by (same n m) refl
  where
    by : (t : Bool) → same n m ≡ t → t ≡ false
    by true e = absurd (names_differ m n h (sym (same_text n m e)))
    by false e = refl

-- names that differ
abbrev pub Other : Column → Column → Type 0
Other c d = same c.name d.name ≡ false

abbrev pub Apart : List Column → Type 0
Apart [] = Unit {0}
Apart (c ∷ cs) = AllByRecursion (Other c) cs × Apart cs

abbrev pub Above : Column → Column → Type 0
Above c d = c.id < d.id

abbrev pub Rising : List Column → Type 0
Rising [] = Unit {0}
Rising (c ∷ cs) = AllByRecursion (Above c) cs × Rising cs

-- ---- a filter keeps these

pub all_kept : (P : Column → Type 0) (p : Column → Bool) (cs : List Column) → AllByRecursion P cs → AllByRecursion P (filter p cs)
all_kept P p [] h = tt
all_kept P p (c ∷ cs) h = elim (p c) as (λ t. AllByRecursion P (cond t (c ∷ filter p cs) (filter p cs))) [
  | true ↦ (h.0, all_kept P p cs h.1)
  | false ↦ all_kept P p cs h.1
]

pub apart_kept : (p : Column → Bool) (cs : List Column) → Apart cs → Apart (filter p cs)
apart_kept p [] h = tt
apart_kept p (c ∷ cs) h = elim (p c) as (λ t. Apart (cond t (c ∷ filter p cs) (filter p cs))) [
  | true ↦ (all_kept (Other c) p cs h.0, apart_kept p cs h.1)
  | false ↦ apart_kept p cs h.1
]

pub rising_kept : (p : Column → Bool) (cs : List Column) → Rising cs → Rising (filter p cs)
rising_kept p [] h = tt
rising_kept p (c ∷ cs) h = elim (p c) as (λ t. Rising (cond t (c ∷ filter p cs) (filter p cs))) [
  | true ↦ (all_kept (Above c) p cs h.0, rising_kept p cs h.1)
  | false ↦ rising_kept p cs h.1
]

-- ---- names

true_false : ◌≡◌ {A = Bool} true false → ⊥
true_false e = cc

flipped : (xs ys : List ℕ) → is_eq (slice_cmp nat_cmp xs ys) ≡ false → same ys xs ≡ false
flipped xs ys h = by (same ys xs) refl
  where
    by : (t : Bool) → same ys xs ≡ t → t ≡ false
    by true e = absurd (true_false (sym (ap is_eq (bytes_cmp-self xs)) ∙ (ap (λ zs. is_eq (slice_cmp nat_cmp xs zs)) (sym (same_text ys xs e)) ∙ h)))
    by false e = refl

or_parts : (f g : Column → Bool) (o : Option Column) → option_map_or (λ d. f d || g d) o false ≡ false → (option_map_or f o false ≡ false) × (option_map_or g o false ≡ false)
or_parts f g None h = (refl, refl)
or_parts f g (Some d) h = by (f d) h
  where
    by : (t : Bool) → (t || g d) ≡ false → (t ≡ false) × (g d ≡ false)
    by true e = absurd (true_false e)
    by false e = (refl, e)

none_after : (c : Column) (cs : List Column) → ((k : ℕ) → k < length cs → passes_at (λ d. same_name d c) cs k ≡ false) → AllByRecursion (Other c) cs
none_after c [] h = tt
none_after c (d ∷ cs) h = (flipped d.name c.name (h 0 (omega arith)), none_after c cs (λ k lt. h (suc k) (omega arith)))

pub apart_of : (cs : List Column) → ((k : ℕ) → k < length cs → is_again cs k ≡ false) → Apart cs
apart_of [] h = tt
apart_of (c ∷ cs) h =
    let parts : (k : ℕ) → k < length cs → (passes_at (λ d. same_name d c) cs k ≡ false) × (is_again cs k ≡ false) = λ k lt. or_parts (λ d. same_name d c) (λ d. list_any (λ e. same_name d e) (take k cs)) (slice_get cs k) (h (suc k) (omega arith)) in
    (none_after c cs (λ k lt. (parts k lt).0), apart_of cs (λ k lt. (parts k lt).1))

-- a column is found by its name
abbrev pub IsNamed : List Column → Column → Type 0
IsNamed cs c = column_named cs c.name ≡ Some c

skip_name : (c : Column) (cs ds : List Column) → AllByRecursion (Other c) ds → AllByRecursion (IsNamed cs) ds → AllByRecursion (IsNamed (c ∷ cs)) ds
skip_name c cs [] other named = tt
skip_name c cs (d ∷ ds) other named = (ap (λ t. if t then Some c else column_named cs d.name) other.0 ∙ named.0, skip_name c cs ds other.1 named.1)

pub all_named_in : (cs : List Column) → Apart cs → AllByRecursion (IsNamed cs) cs
all_named_in [] h = tt
all_named_in (c ∷ cs) h = (ap (λ t. if t then Some c else column_named cs c.name) (same_self c.name), skip_name c cs cs h.0 (all_named_in cs h.1))

-- what holds of each column holds of the one that is found
pub column_found : (P : Column → Type 0) (cs : List Column) (id : ℕ) (c : Column) → AllByRecursion P cs → column_of cs id ≡ Some c → P c × (c.id ≡ id)
column_found P [] id c all e = absurd (no e)
  where
    no : ◌≡◌ {A = Option Column} None (Some c) → ⊥
    no e = cc
column_found P (d ∷ cs) id c all e = by (λ later. column_found P cs id c all.1 later) (d.id == id) refl e
  where
    here : ◌≡◌ {A = Option Column} (Some d) (Some c) → d ≡ c
    here e = cc

    by : (column_of cs id ≡ Some c → P c × (c.id ≡ id)) → (t : Bool) → (d.id == id) ≡ t → (if t then Some d else column_of cs id) ≡ Some c → P c × (c.id ≡ id)
    by later true is e = let found = here e in (subst P found all.0, ap (λ x. x.id) (sym found) ∙ eqb-true d.id id is)
    by later false is e = later e

-- ---- ids

-- ids that count on from this one
abbrev pub AreNumbered : ℕ → List Column → Type 0
AreNumbered n [] = Unit {0}
AreNumbered n (c ∷ columns) = (c.id ≡ n) × AreNumbered (n + 1) columns

pub numbered : (n : ℕ) (cs : List Column) → counts_from n cs ≡ true → AreNumbered n cs
numbered n [] h = tt
numbered n (c ∷ cs) h = let both = both_true (c.id == n) (counts_from (n + 1) cs) h in (eqb-true c.id n both.0, numbered (n + 1) cs both.1)

above_from : (c : Column) (n : ℕ) (cs : List Column) → c.id < n → AreNumbered n cs → AllByRecursion (Above c) cs
above_from c n [] lt h = tt
above_from c n (d ∷ cs) lt h = let id = h.0 in (omega arith, above_from c (n + 1) cs (omega arith) h.1)

pub rising_of : (n : ℕ) (cs : List Column) → AreNumbered n cs → Rising cs
rising_of n [] h = tt
rising_of n (c ∷ cs) h = let id = h.0 in (above_from c (n + 1) cs (omega arith) h.1, rising_of (n + 1) cs h.1)

-- ---- the whole table

pub record Tabled (columns : List Column) : Type 0 where
  pub table : IsTable columns
  pub named : AllByRecursion (IsNamed columns) columns
  pub fit : AllByRecursion ColumnFits columns
  pub others_fit : AllByRecursion ColumnFits (other_columns columns)
  pub others_rising : Rising (other_columns columns)

pub tabled : (columns : List Column) → ColumnsFit columns → Tabled columns
tabled columns h =
    let apart = apart_of columns h.table.again in
    record {
      table = h.table;
      named = all_named_in columns apart;
      fit = h.each;
      others_fit = all_kept ColumnFits (λ c. not c.key) columns h.each;
      others_rising = rising_kept (λ c. not c.key) columns (rising_of 1 columns (numbered 1 columns h.table.ids));
    }
