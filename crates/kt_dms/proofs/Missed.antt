-- The changes of a row above a time, one after the other, and the next row that has one.
use Rattle.std.proofs.Common.{◌≡◌, ℕ, ◌<◌, ◌≤◌, Bool, true, false, cond, List, [], ◌∷◌, ◌++◌, append_assoc, map, Some, None, Option, refl, sym, ap, ◌∙◌}
use Rattle.std.specs.Prelude.{nat_lt, nat_le}
use Rattle.std.specs.List.{find, filter, AllByRecursion}
use Rattle.std.specs.Option.{option_map}
use Rattle.std.proofs.lemmas.List.{append-nil}
use Rattle.kt_cells.specs.Reading.{cells_behind}
use Rattle.kt_history.specs.declared.change.Change.{Change}
use Rattle.kt_history.specs.declared.changes.Delta.{Delta}
use Rattle.kt_history.specs.declared.changes.KeyChange.{KeyChange}
use Rattle.kt_history.specs.declared.target.Kindly.{Kindly}
use Rattle.kt_history.specs.declared.target.Kindly.TheVariants.{Ins, Upd, Del}
use Rattle.kt_history.specs.AsBytes.{change_with}
use Rattle.kt_history.specs.Rows.{Row}
use Rattle.kt_history.specs.Stores.{Steps, change_of, key_change}
use Rattle.kt_pool.specs.Contents.{Contents, bytes_at}
use Rattle.kt_tree.specs.Entries.{Entry}
use Rattle.kt_tree.specs.Trees as trees
use Rattle.kt_tree.specs.declared.tree.Tree.{Tree}
use Rattle.kt_dms.specs.Changes.{change_in}
use Rattle.kt_dms.specs.Keys.{ordinal_of}
use Rattle.kt_dms.specs.Stores.{delta_at, deltas_in, steps_for, steps_above, IsHeld}
use Rattle.kt_dms.specs.Walks.{placed_for, is_later, later, is_behind, step_at_place, steps_at_places}
use Rattle.kt_dms.specs.declared.rows.Placed.{Placed}
use Rattle.kt_dms.proofs.OneRow.{steps_placed, next_rest, nothing_left}

pub with_is : (kind : Kindly) (cells : Row) → change_with kind cells ≡ change_of kind cells
with_is Ins cells = refl
with_is Upd cells = refl
with_is Del cells = refl

-- ---- above a time

above_placed : (pool : Contents) (t : ℕ) (ps : List Placed) → steps_at_places pool (later (Some t) ps) ≡ steps_above t (steps_at_places pool ps)
above_placed pool t [] = refl
above_placed pool t (p ∷ ps) = by (nat_lt t p.ts) (above_placed pool t ps)
  where
    by : (b : Bool) → steps_at_places pool (later (Some t) ps) ≡ steps_above t (steps_at_places pool ps)
        → steps_at_places pool (cond b (p ∷ later (Some t) ps) (later (Some t) ps)) ≡ cond b (step_at_place pool p ∷ steps_above t (steps_at_places pool ps)) (steps_above t (steps_at_places pool ps))
    by true h = ap (λ steps. step_at_place pool p ∷ steps) h
    by false h = h

-- the time of the first of them
first_placed : (pool : Contents) (t : ℕ) (ps : List Placed) → option_map (λ (p : Placed). p.ts) (find (is_later (Some t)) ps) ≡ option_map (λ (c : ℕ × Change). c.0) (find (λ (c : ℕ × Change). nat_lt t c.0) (steps_at_places pool ps))
first_placed pool t [] = refl
first_placed pool t (p ∷ ps) = by (nat_lt t p.ts) (first_placed pool t ps)
  where
    by : (b : Bool) → option_map (λ (p : Placed). p.ts) (find (is_later (Some t)) ps) ≡ option_map (λ (c : ℕ × Change). c.0) (find (λ (c : ℕ × Change). nat_lt t c.0) (steps_at_places pool ps))
        → option_map (λ (p : Placed). p.ts) (cond b (Some p) (find (is_later (Some t)) ps)) ≡ option_map (λ (c : ℕ × Change). c.0) (cond b (Some (step_at_place pool p)) (find (λ (c : ℕ × Change). nat_lt t c.0) (steps_at_places pool ps)))
    by true h = refl
    by false h = h

pub first_is : (tree : Tree) (pool : Contents) (o t : ℕ) (placed : Option Placed) → placed ≡ find (is_later (Some t)) (placed_for o (trees.entries tree pool))
    → option_map (λ (p : Placed). p.ts) placed ≡ option_map (λ (c : ℕ × Change). c.0) (find (λ (c : ℕ × Change). nat_lt t c.0) (steps_for o (deltas_in tree pool)))
first_is tree pool o t placed found =
    ap (option_map (λ (p : Placed). p.ts)) found ∙ first_placed pool t (placed_for o (trees.entries tree pool))
    ∙ ap (λ (steps : Steps). option_map (λ (c : ℕ × Change). c.0) (find (λ (c : ℕ × Change). nat_lt t c.0) steps)) (sym (steps_placed pool o (trees.entries tree pool)))

-- the changes that are to come, under a key
abbrev pub under_key : Tree → Contents → ℕ → List ℕ → Option ℕ → List KeyChange
under_key tree pool o key after = map (key_change key) (steps_at_places pool (later after (placed_for o (trees.entries tree pool))))

module _ (tree : Tree) (pool : Contents) (o : ℕ) (key : List ℕ) (st : IsHeld tree pool) where
  -- those above a time
  pub all_above : (t : ℕ) → under_key tree pool o key (Some t) ≡ map (key_change key) (steps_above t (steps_for o (deltas_in tree pool)))
  all_above t = ap (map (key_change key)) (above_placed pool t (placed_for o (trees.entries tree pool)) ∙ ap (steps_above t) (sym (steps_placed pool o (trees.entries tree pool))))

  module _ (after : Option ℕ) (now whole : List KeyChange) (so : now ++ under_key tree pool o key after ≡ whole) where
    -- one more is listed
    pub above_next : (p : Placed) → Some p ≡ find (is_later after) (placed_for o (trees.entries tree pool)) → (now2 : List KeyChange) → now2 ≡ now ++ key_change key (p.ts, change_in (bytes_at pool p.cell)) ∷ [] → now2 ++ under_key tree pool o key (Some p.ts) ≡ whole
    above_next p found now2 e =
        ap (λ xs. xs ++ under_key tree pool o key (Some p.ts)) e
        ∙ append_assoc now (key_change key (step_at_place pool p) ∷ []) (under_key tree pool o key (Some p.ts))
        ∙ sym (ap (λ ps. now ++ map (key_change key) (steps_at_places pool ps)) (next_rest tree pool o st after p found)) ∙ so

    -- all are
    pub above_done : find (is_later after) (placed_for o (trees.entries tree pool)) ≡ None → now ≡ whole
    above_done over = sym (append-nil now) ∙ sym (ap (λ ps. now ++ map (key_change key) (steps_at_places pool ps)) (nothing_left tree pool o st after over)) ∙ so

-- ---- the next row

pub next_row_is : (pool : Contents) (from : ℕ) (es : List Entry) → option_map (λ (e : Entry). ordinal_of e.key) (find (is_behind from None) es) ≡ option_map (λ (d : Delta). d.ordinal) (find (λ (d : Delta). nat_le from d.ordinal) (map (delta_at pool) es))
next_row_is pool from [] = refl
next_row_is pool from (e ∷ es) = by (nat_le from (ordinal_of e.key)) (next_row_is pool from es)
  where
    by : (b : Bool) → option_map (λ (e : Entry). ordinal_of e.key) (find (is_behind from None) es) ≡ option_map (λ (d : Delta). d.ordinal) (find (λ (d : Delta). nat_le from d.ordinal) (map (delta_at pool) es))
        → option_map (λ (e : Entry). ordinal_of e.key) (cond b (Some e) (find (is_behind from None) es)) ≡ option_map (λ (d : Delta). d.ordinal) (cond b (Some (delta_at pool e)) (find (λ (d : Delta). nat_le from d.ordinal) (map (delta_at pool) es)))
    by true h = refl
    by false h = h
