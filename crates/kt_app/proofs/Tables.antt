-- The columns of a script may be those of a superblock.
use Rattle.std.proofs.Common.{◌≡◌, ℕ, zero, suc, ◌+◌, ◌<◌, ◌≤◌, ◌^◌, Bool, true, false, ◌&&◌, ◌||◌, List, [], ◌∷◌, ◌++◌, length, take, Option, Some, None, refl, sym, ap, ◌∙◌, subst, arith, append_assoc, length-append}
use Rattle.std.specs.Prelude.{not, nat_lt, ◌==◌, slice_get, IfSome, FitsSigned, ℤ, pos, negsuc}
use Rattle.std.specs.Int.{w64}
use Rattle.std.specs.List.{list_any, list_all, AllByRecursion}
use Rattle.std.specs.Option.{option_map_or}
use Rattle.std.proofs.lemmas.Bool.{and_parts, eqb-true}
use Rattle.std.proofs.lemmas.Bool.Decides.{nat_tests}
use Rattle.kt_base.specs.declared.cell.Kind.{Kind}
use Rattle.kt_base.specs.declared.cell.Kind.TheVariants as kind
use Rattle.kt_base.specs.declared.cell.Cell.{Cell}
use Rattle.kt_base.specs.declared.cell.Cell.TheVariants as cell
use Rattle.kt_base.specs.Keys.{half_of, width_of}
use Rattle.kt_key.specs.Fit as fit
use Rattle.kt_schema.specs.declared.column.Column.{Column}
use Rattle.kt_schema.specs.First.{passes_at}
use Rattle.kt_schema.specs.Rows.{is_long}
use Rattle.kt_schema.specs.Columns.{is_late, is_weak, same_name}
use Rattle.kt_script.specs.Columns.{IsTable, counts_from}
use Rattle.kt_super.specs.Columns as super
use Rattle.kt_super.specs.Columns.{IsColumn, AreColumns, FitsCell, may_stand, has_id, is_free_id}
use Rattle.kt_reopen.specs.Tables as reopen
use Rattle.kt_app.specs.Session.{is_default}

-- ---- a column behind others

at_split : (earlier : List Column) (c : Column) (rest : List Column) → slice_get (earlier ++ c ∷ rest) (length earlier) ≡ Some c
at_split [] c rest = refl
at_split (x ∷ earlier) c rest = at_split earlier c rest

front_is : (earlier rest : List Column) → take (length earlier) (earlier ++ rest) ≡ earlier
front_is [] rest = refl
front_is (x ∷ earlier) rest = ap (λ (l : List Column). x ∷ l) (front_is earlier rest)

counted : (n : ℕ) (earlier : List Column) (c : Column) (rest : List Column) → counts_from n (earlier ++ c ∷ rest) ≡ true → c.id ≡ n + length earlier
counted n [] c rest h = let is = eqb-true c.id n (and_parts (c.id == n) (counts_from (n + 1) rest) h).0 in omega (arith, is)
counted n (x ∷ earlier) c rest h = let later = counted (n + 1) earlier c rest (and_parts (x.id == n) (counts_from (n + 1) (earlier ++ c ∷ rest)) h).1 in omega (arith, later)

neither : (a b : Bool) → a ≡ false → b ≡ false → (a || b) ≡ false
neither true b h g = h
neither false b h g = g

lacks : (n : ℕ) (earlier : List Column) (c : Column) (rest : List Column) (m : ℕ) → counts_from n (earlier ++ c ∷ rest) ≡ true → n + length earlier ≤ m → has_id earlier m ≡ false
lacks n [] c rest m h le = refl
lacks n (x ∷ earlier) c rest m h le =
    let both = and_parts (x.id == n) (counts_from (n + 1) (earlier ++ c ∷ rest)) h in
    let is = eqb-true x.id n both.0 in
    let here : (x.id == m) ≡ false = grind (arith, nat_tests) in
    neither (x.id == m) (has_id earlier m) here (lacks (n + 1) earlier c rest m both.1 (omega (arith, le)))

-- ---- keys come first

same_bool : (k : Kind) → super.is_bool k ≡ fit.is_bool k
same_bool kind.Bool = refl
same_bool kind.Int8 = refl
same_bool kind.Int16 = refl
same_bool kind.Int32 = refl
same_bool kind.Int64 = refl
same_bool kind.String = refl
same_bool kind.Binary = refl

all_keys : (earlier : List Column) → list_any (λ c. not c.key) earlier ≡ false → list_all (λ d. d.key) earlier ≡ true
all_keys [] h = refl
all_keys (x ∷ earlier) h = by x.key (all_keys earlier) h
  where
    by : (b : Bool) → (list_any (λ c. not c.key) earlier ≡ false → list_all (λ d. d.key) earlier ≡ true) → (not b || list_any (λ c. not c.key) earlier) ≡ false → (b && list_all (λ d. d.key) earlier) ≡ true
    by true more g = more g
    by false more g = absurd cc

-- the place of a key
some_key : (rest : List Column) → list_any (λ d. d.key) rest ≡ true → (k : ℕ) × (k < length rest) × (passes_at (λ d. d.key) rest k ≡ true)
some_key [] h = absurd cc
some_key (x ∷ rest) h = by x.key refl (some_key rest) h
  where
    by : (b : Bool) → x.key ≡ b → (list_any (λ d. d.key) rest ≡ true → (k : ℕ) × (k < length rest) × (passes_at (λ d. d.key) rest k ≡ true)) → (b || list_any (λ d. d.key) rest) ≡ true
        → (k : ℕ) × (k < suc (length rest)) × (passes_at (λ d. d.key) (x ∷ rest) k ≡ true)
    by true is more g = (0, omega arith, is)
    by false is more g = let behind = more g in (suc behind.0, omega (arith, behind.1), behind.2)

behind_weak : (p a b : Bool) → p ≡ true → a ≡ false → (p && (not a || b)) ≡ true
behind_weak true false b h g = refl
behind_weak true true b h g = absurd cc
behind_weak false a b h g = absurd cc

-- where the first column is no key, a key behind it is late
first_key : (c : Column) (rest : List Column) → ((k : ℕ) → k < length (c ∷ rest) → is_late (c ∷ rest) k ≡ false) → list_any (λ d. d.key) (c ∷ rest) ≡ true → c.key ≡ true
first_key c rest late some = by c.key refl some
  where
    by : (b : Bool) → c.key ≡ b → (b || list_any (λ d. d.key) rest) ≡ true → b ≡ true
    by true is g = refl
    by false is g =
        let behind = some_key rest g in
        let there = late (suc behind.0) (omega (arith, behind.1)) in
        let is_there : is_late (c ∷ rest) (suc behind.0) ≡ true = behind_weak (passes_at (λ d. d.key) rest behind.0) c.key (list_any (λ d. not d.key) (take behind.0 rest)) behind.2 is in
        let clash : true ≡ false = sym is_there ∙ there in
        absurd cc

-- what the tests of a table say of a column behind others
flags : (key nullable bool : Bool) (earlier : List Column) → (key && (nullable || bool)) ≡ false → (key && list_any (λ c. not c.key) earlier) ≡ false → (earlier ≡ [] → key ≡ true)
    → (if_key : Bool) → if_key ≡ (not nullable && not bool && list_all (λ d. d.key) earlier) → (key ≡ true → if_key ≡ true) × (key ≡ false → (length earlier == 0) ≡ false)
flags true nullable bool earlier weak late first if_key is = ((λ k. is ∙ by nullable bool weak), λ k. absurd cc)
  where
    by : (a b : Bool) → (a || b) ≡ false → (not a && not b && list_all (λ d. d.key) earlier) ≡ true
    by true b h = absurd cc
    by false true h = absurd cc
    by false false h = all_keys earlier late
flags false nullable bool [] weak late first if_key is = ((λ k. absurd cc), λ k. let clash : false ≡ true = first refl in absurd cc)
flags false nullable bool (x ∷ earlier) weak late first if_key is = ((λ k. absurd cc), λ k. grind (arith, nat_tests))

-- ---- defaults

in_word : (half : ℕ) (n : ℤ) → half ≤ 2 ^ 63 → fit.in_range half n ≡ true → FitsSigned w64 n
in_word half (pos n) le h = let low : n < half = grind (arith, nat_tests) in omega (arith, low, le)
in_word half (negsuc n) le h = let low : n < half = grind (arith, nat_tests) in omega (arith, low, le)

half_low : (k : Kind) → half_of (width_of k) ≤ 2 ^ 63
half_low kind.Bool = omega arith
half_low kind.Int8 = omega arith
half_low kind.Int16 = omega arith
half_low kind.Int32 = omega arith
half_low kind.Int64 = omega arith
half_low kind.String = omega arith
half_low kind.Binary = omega arith

cell_fits : (k : Kind) (x : Cell) → (fit.has_kind k x && not (is_long x)) ≡ true → FitsCell x
cell_fits k cell.Null h = tt
cell_fits k (cell.Bool b) h = tt
cell_fits k (cell.Int z) h = in_word (half_of (width_of k)) z (half_low k) (and_parts (fit.is_number k) (fit.in_range (half_of (width_of k)) z) (and_parts (fit.is_number k && fit.in_range (half_of (width_of k)) z) true h).0).1
cell_fits k (cell.Bytes bytes) h = let short = (and_parts (fit.has_kind k (cell.Bytes bytes)) (not (nat_lt 65536 (length bytes))) h).1 in grind (arith, nat_tests)

default_fits : (c : Column) (o : Option Cell) → is_default c o ≡ true → IfSome o FitsCell
default_fits c None h = tt
default_fits c (Some x) h = cell_fits c.kind x h

-- ---- all columns

module _ (columns : List Column) (table : IsTable columns) (key : list_any (λ c. c.key) columns ≡ true) where
  abbrev Spelled : Column → Type 0
  Spelled c = (length c.name < 2 ^ 8) × (is_default c c.default ≡ true)

  stands : (earlier : List Column) (c : Column) (rest : List Column) → columns ≡ earlier ++ c ∷ rest → Spelled c → IsColumn (length columns + 1) earlier c
  stands earlier c rest parts spelled =
      let k = length earlier in
      let size = ap (λ (l : List Column). length l) parts ∙ length-append earlier (c ∷ rest) in
      let below : k < length columns = omega (arith, size) in
      let here : slice_get columns k ≡ Some c = ap (λ (l : List Column). slice_get l k) parts ∙ at_split earlier c rest in
      let front : take k columns ≡ earlier = ap (λ (l : List Column). take k l) parts ∙ front_is earlier (c ∷ rest) in
      let ids = subst (λ (l : List Column). counts_from 1 l ≡ true) parts table.ids in
      let id_is = counted 1 earlier c rest ids in
      let weak : is_weak c ≡ false = sym (ap (λ o. option_map_or is_weak o false) here) ∙ table.weak k below in
      let late : (c.key && list_any (λ d. not d.key) earlier) ≡ false =
      ap (λ (l : List Column). c.key && list_any (λ d. not d.key) l) (sym front) ∙ (ap (λ o. option_map_or (λ (d : Column). d.key) o false && list_any (λ d. not d.key) (take k columns)) (sym here) ∙ table.late k below) in
      let again : list_any (λ d. same_name c d) earlier ≡ false =
      ap (λ (l : List Column). list_any (λ d. same_name c d) l) (sym front) ∙ (ap (λ o. option_map_or (λ x. list_any (λ d. same_name x d) (take k columns)) o false) (sym here) ∙ table.again k below) in
      let first : earlier ≡ [] → c.key ≡ true = λ none.
      let whole : columns ≡ c ∷ rest = parts ∙ ap (λ (l : List Column). l ++ c ∷ rest) none in
      first_key c rest (subst (λ (l : List Column). (j : ℕ) → j < length l → is_late l j ≡ false) whole table.late) (subst (λ (l : List Column). list_any (λ d. d.key) l ≡ true) whole key) in
      let flag = flags c.key c.nullable (fit.is_bool c.kind) earlier weak late first (not c.nullable && not (super.is_bool c.kind) && list_all (λ d. d.key) earlier) (ap (λ b. not c.nullable && not b && list_all (λ d. d.key) earlier) (same_bool c.kind)) in
      record {
        id = free c.id (omega (arith, id_is, size)) (subst (λ n. has_id earlier n ≡ false) (sym id_is) (lacks 1 earlier c rest (1 + length earlier) ids (omega arith)));
        name = again;
        name_len = spelled.0;
        flags = chosen c.key refl flag.0 flag.1;
        default = default_fits c c.default spelled.1;
      }
    where
      free : (id : ℕ) → id < length columns + 1 → has_id earlier id ≡ false → is_free_id (length columns + 1) earlier id ≡ true
      free id less none = rw none (grind (arith, nat_tests))

      chosen : (b : Bool) → c.key ≡ b → (c.key ≡ true → (not c.nullable && not (super.is_bool c.kind) && list_all (λ d. d.key) earlier) ≡ true) → (c.key ≡ false → (length earlier == 0) ≡ false) → may_stand earlier c.kind c.key c.nullable ≡ true
      chosen true is keyed plain = rw is (keyed is)
      chosen false is keyed plain = rw (is, plain is) refl

  all_stand : (earlier rest : List Column) → columns ≡ earlier ++ rest → AllByRecursion Spelled rest → AreColumns (length columns + 1) earlier rest
  all_stand earlier [] parts spelled = tt
  all_stand earlier (c ∷ rest) parts spelled = (
    stands earlier c rest parts spelled.0,
    all_stand (earlier ++ c ∷ []) rest (parts ∙ sym (append_assoc earlier (c ∷ []) rest)) spelled.1,
  )

  ids_are : (n : ℕ) (xs : List Column) (k : ℕ) (c : Column) → counts_from n xs ≡ true → slice_get xs k ≡ Some c → c.id ≡ n + k
  ids_are n [] k c h is = absurd cc
  ids_are n (x ∷ xs) zero c h is = let same : x ≡ c = cc in let its = eqb-true x.id n (and_parts (x.id == n) (counts_from (n + 1) xs) h).0 in omega (arith, its, ap (λ (y : Column). y.id) same)
  ids_are n (x ∷ xs) (suc k) c h is = let later = ids_are (n + 1) xs k c (and_parts (x.id == n) (counts_from (n + 1) xs) h).1 is in omega (arith, later)

  pub is_table : AllByRecursion Spelled columns → reopen.IsTable columns
  is_table spelled = record { ids = λ k c is. (let one = ids_are 1 columns k c table.ids is in omega (arith, one)); spelled = all_stand [] columns refl spelled }
