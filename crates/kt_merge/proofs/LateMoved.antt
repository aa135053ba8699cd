-- Records of an input at the places that their keys have in an output.
use Rattle.std.proofs.Common.{◌≡◌, ◌≢◌, ◌<◌, ◌≤◌, ◌+◌, ℕ, zero, suc, Bool, true, false, cond, List, [], ◌∷◌, ◌++◌, length, take, get_or, Option, Some, None, inl, inr, refl, sym, ap, ◌∙◌, arith}
use Rattle.std.specs.Prelude.{◌&&◌, ◌==◌, nat_lt}
use Rattle.std.specs.List.{flat_map}
use Rattle.std.specs.Option.{option_to_list}
use Rattle.std.proofs.lemmas.List.{append-nil, map-append}
use Rattle.std.proofs.lemmas.Grind.{flat_map-append}
use Rattle.std.specs.Ordering.{eq_by_cmp}
use Rattle.std.proofs.lemmas.Bool.{cases_lt, cases_eq, lt-ltb, le-ltb, ne_eqb, eq-eqb}
use Rattle.kt_history.specs.declared.changes.Delta.{Delta}
use Rattle.kt_history.specs.Rows.{Row, key_cmp}
use Rattle.kt_history.specs.Stores.{Steps}
use Rattle.kt_history.specs.Views.{AreRising}
use Rattle.kt_histlaws.specs.Fitting.{steps_above}
use Rattle.kt_baseset.specs.declared.rows.KeyedRow.{KeyedRow}
use Rattle.kt_baseset.specs.Rows.{keys_in}
use Rattle.kt_baseset.specs.Tables.{key_at, cells_in}
use Rattle.kt_rowfiles.specs.Files.{row_under, records_for, records_in}
use Rattle.kt_diskrowset.specs.declared.files.FileHeld.{FileHeld}
use Rattle.kt_diskrowset.specs.Files.{lists_of}
use Rattle.kt_diskrowset.specs.Rows.{rows_of}
use Rattle.kt_diskrowset.proofs.Histories.{found_there}
use Rattle.kt_merge.specs.Late.{fresh_at, moved_at, moved_of, moved_records_are_of_their_keys}
use Rattle.kt_merge.proofs.Copying.{take_more_of}
use Rattle.kt_merge.proofs.FoldedRowsets.{in_more}
use Rattle.kt_merge.proofs.KeyChanges.{same_key}
use Rattle.kt_merge.proofs.ToldRows.{records-append}

-- a row that is found has a place, and its key stands there
pub record IsFoundAt (q : List ℕ) (rows : List KeyedRow) (n : ℕ) (found : ℕ × Row) : Type 0 where
  pub place : ℕ
  pub inside : place < length rows
  pub at : found.0 ≡ n + place
  pub key : key_at rows place ≡ q

found_place : (q : List ℕ) (n : ℕ) (rows : List KeyedRow) (found : ℕ × Row) → row_under q n (rows_of rows) ≡ Some found → IsFoundAt q rows n found
found_place q n [] found e = absurd (cc)
found_place q n (r ∷ rows) found e = by (eq_by_cmp key_cmp q r.key) refl e (λ rest. found_place q (suc n) rows found rest)
  where
    by : (b : Bool) → eq_by_cmp key_cmp q r.key ≡ b → cond b (Some (n, r.cells)) (row_under q (suc n) (rows_of rows)) ≡ Some found → (row_under q (suc n) (rows_of rows) ≡ Some found → IsFoundAt q rows (suc n) found) → IsFoundAt q (r ∷ rows) n found
    by true tied is rest =
        let same : (n, r.cells) ≡ found = cc in
        let first : n ≡ found.0 = ap (λ (x : ℕ × Row). x.0) same in
        record { place = zero; inside = omega arith; at = omega arith; key = sym (same_key q r.key tied) }
    by false apart is rest =
        let f = rest is in
        let low = f.inside in
        let up = f.at in
        record { place = suc f.place; inside = omega arith; at = omega arith; key = f.key }

-- rows of one place have one key
pub same_place : (q k : List ℕ) (rows : List KeyedRow) (f g : ℕ × Row) → row_under q 0 (rows_of rows) ≡ Some f → row_under k 0 (rows_of rows) ≡ Some g → g.0 ≡ f.0 → k ≡ q
same_place q k rows f g ef eg same =
    let a = found_place q 0 rows f ef in
    let b = found_place k 0 rows g eg in
    let e : b.place ≡ a.place = omega (arith, a.at, b.at, same) in
    sym b.key ∙ ap (key_at rows) e ∙ a.key

-- a row that has the key is the one that is found
found_same : (q : List ℕ) (rows : List KeyedRow) (i : ℕ) → AreRising (keys_in rows) → i < length rows → key_at rows i ≡ q → (m : ℕ × Row) → row_under q 0 (rows_of rows) ≡ Some m → i ≡ m.0
found_same q rows i rise low key m e =
    let both : Some (0 + i, cells_in rows i) ≡ Some m = sym (found_there rows 0 i rise low) ∙ ap (λ (k : List ℕ). row_under k 0 (rows_of rows)) key ∙ e in
    let same : (0 + i, cells_in rows i) ≡ m = cc in
    let first : 0 + i ≡ m.0 = ap (λ (x : ℕ × Row). x.0) same in
    omega arith

pub join : {A : Type 0} (b : Bool) (x : A) (xs : List A) → cond b (x ∷ []) [] ++ xs ≡ cond b (x ∷ xs) xs
join true x xs = refl
join false x xs = refl

module _ (bound : ℕ) (rows others : List KeyedRow) (q : List ℕ) (found : ℕ × Row) (rise : AreRising (keys_in rows)) (there : row_under q 0 (rows_of others) ≡ Some found) where
  abbrev moved : Delta → List Delta
  moved x = moved_of bound rows (rows_of others) x

  abbrev place_of : Delta → Option (ℕ × Row)
  place_of x = row_under (key_at rows x.ordinal) 0 (rows_of others)

  -- a record of none of the rows goes nowhere, and one of another key elsewhere
  nowhere : (x : Delta) → length rows ≤ x.ordinal → records_for found.0 (moved x) ≡ []
  nowhere x up = by (nat_lt bound x.ts)
    where
      by : (b : Bool) → records_for found.0 (cond (b && nat_lt x.ordinal (length rows)) (moved_at x (place_of x)) []) ≡ []
      by true = ap (λ (c : Bool). records_for found.0 (cond c (moved_at x (place_of x)) [])) (le-ltb x.ordinal (length rows) up)
      by false = refl

  elsewhere : (x : Delta) → key_at rows x.ordinal ≢ q → records_for found.0 (moved x) ≡ []
  elsewhere x ne = by (nat_lt bound x.ts && nat_lt x.ordinal (length rows))
    where
      to : (o : Option (ℕ × Row)) → place_of x ≡ o → records_for found.0 (moved_at x o) ≡ []
      to None e = refl
      to (Some g) e = ap (λ (b : Bool). cond b ((x.ts, x.change) ∷ []) []) (ne_eqb g.0 found.0 (λ same. ne (same_place q (key_at rows x.ordinal) others found g there e same)))

      by : (b : Bool) → records_for found.0 (cond b (moved_at x (place_of x)) []) ≡ []
      by true = to (place_of x) refl
      by false = refl

  -- one of the key goes to its place, if it lies above the bound
  here : (x : Delta) → x.ordinal < length rows → key_at rows x.ordinal ≡ q → records_for found.0 (moved x) ≡ cond (nat_lt bound x.ts) ((x.ts, x.change) ∷ []) []
  here x low key = by (nat_lt bound x.ts)
    where
      by : (b : Bool) → records_for found.0 (cond (b && nat_lt x.ordinal (length rows)) (moved_at x (place_of x)) []) ≡ cond b ((x.ts, x.change) ∷ []) []
      by true =
          ap (λ (c : Bool). records_for found.0 (cond c (moved_at x (place_of x)) [])) (lt-ltb x.ordinal (length rows) low)
          ∙ ap (λ (o : Option (ℕ × Row)). records_for found.0 (moved_at x o)) (ap (λ (k : List ℕ). row_under k 0 (rows_of others)) key ∙ there)
          ∙ ap (λ (c : Bool). cond c ((x.ts, x.change) ∷ []) []) (eq-eqb found.0 found.0 refl)
      by false = refl

  -- where the input has not the key, none is moved there
  none_moved : row_under q 0 (rows_of rows) ≡ None → (fresh : List Delta) → records_for found.0 (flat_map moved fresh) ≡ []
  none_moved e [] = refl
  none_moved e (x ∷ fresh) = records-append found.0 (moved x) (flat_map moved fresh) ∙ ap (λ (s : Steps). s ++ records_for found.0 (flat_map moved fresh)) one ∙ none_moved e fresh
    where
      one : records_for found.0 (moved x) ≡ []
      one = elim (cases_lt x.ordinal (length rows)) [
        | inl low ↦ elsewhere x (λ key. let f : None ≡ Some (0 + x.ordinal, cells_in rows x.ordinal) = sym e ∙ sym (ap (λ (k : List ℕ). row_under k 0 (rows_of rows)) key) ∙ found_there rows 0 x.ordinal rise low in cc)
        | inr up ↦ nowhere x up
      ]

  -- and where it has, those of its row are
  some_moved : (m : ℕ × Row) → row_under q 0 (rows_of rows) ≡ Some m → (fresh : List Delta) → records_for found.0 (flat_map moved fresh) ≡ steps_above bound (records_for m.0 fresh)
  some_moved m e [] = refl
  some_moved m e (x ∷ fresh) = records-append found.0 (moved x) (flat_map moved fresh) ∙ one (some_moved m e fresh)
    where
      rest : Steps
      rest = records_for found.0 (flat_map moved fresh)

      -- of another row
      other : x.ordinal ≢ m.0 → records_for found.0 (moved x) ≡ []
      other ne = elim (cases_lt x.ordinal (length rows)) [
        | inl low ↦ elsewhere x (λ key. ne (found_same q rows x.ordinal rise low key m e))
        | inr up ↦ nowhere x up
      ]

      one : rest ≡ steps_above bound (records_for m.0 fresh) → records_for found.0 (moved x) ++ rest ≡ steps_above bound (cond (x.ordinal == m.0) ((x.ts, x.change) ∷ records_for m.0 fresh) (records_for m.0 fresh))
      one so = elim (cases_eq x.ordinal m.0) [
        | inl same ↦
            let f = found_place q 0 rows m e in
            let at : x.ordinal ≡ f.place = omega (arith, f.at, same) in
            let low : x.ordinal < length rows = omega (arith, f.inside, at) in
            ap (λ (s : Steps). s ++ rest) (here x low (ap (key_at rows) at ∙ f.key)) ∙ join (nat_lt bound x.ts) (x.ts, x.change) rest
            ∙ ap (λ (s : Steps). cond (nat_lt bound x.ts) ((x.ts, x.change) ∷ s) s) so
            ∙ sym (ap (λ (b : Bool). steps_above bound (cond b ((x.ts, x.change) ∷ records_for m.0 fresh) (records_for m.0 fresh))) (eq-eqb x.ordinal m.0 same))
        | inr ne ↦
            ap (λ (s : Steps). s ++ rest) (other ne) ∙ so
            ∙ sym (ap (λ (b : Bool). steps_above bound (cond b ((x.ts, x.change) ∷ records_for m.0 fresh) (records_for m.0 fresh))) (ne_eqb x.ordinal m.0 ne))
      ]

pub moved_told : moved_records_are_of_their_keys
moved_told bound d others q found rise rise_others there = by (row_under q 0 (rows_of d.base.set.value.rows)) refl
  where
    by : (o : Option (ℕ × Row)) → row_under q 0 (rows_of d.base.set.value.rows) ≡ o → records_for found.0 (flat_map (moved_of bound d.base.set.value.rows (rows_of others)) d.fresh) ≡ fresh_at bound d o
    by None e = none_moved bound d.base.set.value.rows others q found rise there e d.fresh
    by (Some m) e = some_moved bound d.base.set.value.rows others q found rise there m e d.fresh

-- ---- in turn

-- one more of a list, of which each is told
pub told_more : {X A : Type 0} (f : X → List A) (xs : List X) (k : ℕ) (x : X) → k < length xs → x ≡ get_or xs k x → flat_map f (take (k + 1) xs) ≡ flat_map f (take k xs) ++ f x
told_more f xs k x lt is = ap (flat_map f) (take_more_of xs k x lt is) ∙ flat_map-append f (take k xs) (x ∷ []) ∙ ap (λ l. flat_map f (take k xs) ++ l) (append-nil (f x))

-- a record more
pub moved_more : {X : Type 0} (f : X → List Delta) (fresh : List X) (k : ℕ) (x : X) (old new : List Delta) (o : Option Delta) → k < length fresh → x ≡ get_or fresh k x
    → option_to_list o ≡ f x → new ≡ old ++ option_to_list o → old ≡ flat_map f (take k fresh) → new ≡ flat_map f (take (k + 1) fresh)
moved_more f fresh k x old new o lt is one added so =
    added ∙ ap (λ (l : List Delta). l ++ option_to_list o) so ∙ ap (λ (l : List Delta). flat_map f (take k fresh) ++ l) one ∙ sym (told_more f fresh k x lt is)

-- a file more
pub files_more : {X : Type 0} (n : ℕ) (f : X → Steps) (inputs : List X) (k : ℕ) (x : X) (old new : List FileHeld) (file : FileHeld) → k < length inputs → x ≡ get_or inputs k x
    → new ≡ old ++ file ∷ [] → records_for n file.deltas.value.list ≡ f x → records_in n (lists_of old) ≡ flat_map f (take k inputs) → records_in n (lists_of new) ≡ flat_map f (take (k + 1) inputs)
files_more n f inputs k x old new file lt is added one so =
    ap (λ (l : List FileHeld). records_in n (lists_of l)) added ∙ ap (records_in n) (map-append (λ (g : FileHeld). g.deltas.value.list) old (file ∷ []))
    ∙ in_more n (lists_of old) file.deltas.value.list ∙ ap (λ (s : Steps). s ++ records_for n file.deltas.value.list) so
    ∙ ap (λ (s : Steps). flat_map f (take k inputs) ++ s) one ∙ sym (told_more f inputs k x lt is)
