-- Changes by rising key at the places that their keys have in an output.
use Rattle.std.proofs.Common.{◌≡◌, ◌≢◌, ℕ, Bool, true, false, cond, List, [], ◌∷◌, ◌++◌, map, Option, Some, None, refl, sym, ap, ◌∙◌}
use Rattle.std.specs.Prelude.{nat_lt}
use Rattle.std.specs.List.{flat_map}
use Rattle.std.specs.Option.{option_map}
use Rattle.std.specs.Ordering.{eq_by_cmp}
use Rattle.std.proofs.lemmas.Bool.{false≢true, ne_eqb, eq-eqb}
use Rattle.std.proofs.lemmas.Cmp.{eq_by_cmp_equiv}
use Rattle.kt_history.specs.declared.changes.Delta.{Delta}
use Rattle.kt_history.specs.declared.changes.KeyChange.{KeyChange}
use Rattle.kt_history.specs.AsBytes.{step_of}
use Rattle.kt_history.specs.Rows.{Row, key_cmp}
use Rattle.kt_history.specs.Stores.{Steps}
use Rattle.kt_histlaws.specs.Fitting.{steps_above}
use Rattle.kt_baseset.specs.declared.rows.KeyedRow.{KeyedRow}
use Rattle.kt_rowfiles.specs.Files.{row_under, records_for}
use Rattle.kt_rowfiles.specs.Merging.{all_above}
use Rattle.kt_diskrowset.specs.Rows.{rows_of}
use Rattle.kt_merge.specs.Changes.{changes_of, steps_of, hist_in_changes}
use Rattle.kt_merge.specs.Late.{placed_at, placed_of}
use Rattle.kt_merge.proofs.KeyChanges.{order, same_key}
use Rattle.kt_merge.proofs.LateMoved.{join, same_place}
use Rattle.kt_merge.proofs.ToldRows.{records-append}

-- a key is the same as itself
key_itself : (q k : List ℕ) → k ≡ q → eq_by_cmp key_cmp q k ≡ true
key_itself q k e = ap (eq_by_cmp key_cmp q) e ∙ (eq_by_cmp_equiv order).refl q

module _ (bound : ℕ) (rows : List KeyedRow) (q : List ℕ) (found : ℕ × Row) (there : row_under q 0 (rows_of rows) ≡ Some found) where
  abbrev placed : KeyChange → List Delta
  placed c = placed_of bound (rows_of rows) c

  abbrev place_of : KeyChange → Option (ℕ × Row)
  place_of c = row_under c.key 0 (rows_of rows)

  -- a change of another key goes elsewhere
  elsewhere : (c : KeyChange) → c.key ≢ q → records_for found.0 (placed c) ≡ []
  elsewhere c ne = by (nat_lt bound c.ts)
    where
      to : (o : Option (ℕ × Row)) → place_of c ≡ o → records_for found.0 (placed_at c o) ≡ []
      to None e = refl
      to (Some g) e = ap (λ (b : Bool). cond b ((c.ts, c.change) ∷ []) []) (ne_eqb g.0 found.0 (λ same. ne (same_place q c.key rows found g there e same)))

      by : (b : Bool) → records_for found.0 (cond b (placed_at c (place_of c)) []) ≡ []
      by true = to (place_of c) refl
      by false = refl

  -- and one of the key to its place, if it lies above the bound
  here : (c : KeyChange) → c.key ≡ q → records_for found.0 (placed c) ≡ cond (nat_lt bound c.ts) ((c.ts, c.change) ∷ []) []
  here c key = by (nat_lt bound c.ts)
    where
      by : (b : Bool) → records_for found.0 (cond b (placed_at c (place_of c)) []) ≡ cond b ((c.ts, c.change) ∷ []) []
      by true =
          ap (λ (o : Option (ℕ × Row)). records_for found.0 (placed_at c o)) (ap (λ (k : List ℕ). row_under k 0 (rows_of rows)) key ∙ there)
          ∙ ap (λ (b : Bool). cond b ((c.ts, c.change) ∷ []) []) (eq-eqb found.0 found.0 refl)
      by false = refl

  -- so the records of a row are the changes of its key
  pub placed_told : (changes : List KeyChange) → records_for found.0 (flat_map placed changes) ≡ steps_above bound (steps_of q changes)
  placed_told [] = refl
  placed_told (c ∷ changes) = records-append found.0 (placed c) (flat_map placed changes) ∙ one (eq_by_cmp key_cmp q c.key) refl (placed_told changes)
    where
      rest : Steps
      rest = records_for found.0 (flat_map placed changes)

      one : (b : Bool) → eq_by_cmp key_cmp q c.key ≡ b → rest ≡ steps_above bound (steps_of q changes)
          → records_for found.0 (placed c) ++ rest ≡ steps_above bound (map step_of (cond b (c ∷ changes_of q changes) (changes_of q changes)))
      one true e so =
          ap (λ (s : Steps). s ++ rest) (here c (sym (same_key q c.key e))) ∙ join (nat_lt bound c.ts) (c.ts, c.change) rest
          ∙ ap (λ (s : Steps). cond (nat_lt bound c.ts) ((c.ts, c.change) ∷ s) s) so
      one false e so = ap (λ (s : Steps). s ++ rest) (elsewhere c (λ same. false≢true (sym e ∙ key_itself q c.key same))) ∙ so

-- what several lists have
pub all_lists : (bound : ℕ) (q : List ℕ) (lists : List (List KeyChange)) → flat_map (λ (l : List KeyChange). steps_above bound (steps_of q l)) lists ≡ all_above bound (map (hist_in_changes q) lists)
all_lists bound q [] = refl
all_lists bound q (l ∷ lists) = ap (λ (s : Steps). steps_above bound (steps_of q l) ++ s) (all_lists bound q lists)

-- ---- the change at a place

-- where two options are one, what is in them is
pub same_some : {A B : Type 0} (f : A → B) (o : Option A) (x : A) (y : B) → o ≡ Some x → Some y ≡ option_map f o → y ≡ f x
same_some f o x y is e = let both : Some y ≡ Some (f x) = e ∙ ap (option_map f) is in cc
