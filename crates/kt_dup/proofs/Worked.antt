-- Worked: a row that is inserted at 5 and written by a job with bound 10, updated at 12 before the swap, and deleted at 15 after it.
use Rattle.std.proofs.Common.{◌≡◌, ℕ, [], ◌∷◌, Some, None, refl, ap, arith, cond}
use Rattle.std.specs.Prelude.{pos}
use Rattle.std.proofs.lemmas.Bool.{le-leb, ne_eqb}
use Rattle.kt_base.specs.declared.cell.Cell.TheVariants.{Int}
use Rattle.kt_history.specs.declared.change.Change.{Change}
use Rattle.kt_history.specs.declared.change.Change.TheVariants.{Ins, Upd, Del}
use Rattle.kt_history.specs.declared.changes.KeyChange.{KeyChange}
use Rattle.kt_history.specs.Rows.{Row}
use Rattle.kt_history.specs.Stores.{Hist, key_change}
use Rattle.kt_histlaws.specs.Fitting.{AreSound}
use Rattle.kt_histlaws.specs.Histories.{or_else}
use Rattle.kt_histlaws.specs.Jobs.{AreAlike}
use Rattle.kt_dup.specs.Missed.{missed_of, missed_in, picked}
use Rattle.kt_dup.specs.Split.{IsSplit, none_missed}
use Rattle.kt_dup.proofs.Between.{told_by_split}
use Rattle.kt_dup.proofs.Pair.{single}
use Rattle.kt_dup.proofs.Split.{written_splits, input_misses, both_keep, put_in_splits}

abbrev row : Row
row = (1, Int (pos 3)) ∷ []

abbrev update : Change
update = Upd ((1, Int (pos 4)) ∷ [])

-- the input and the output as of the bound, before the swap, and at the end
abbrev written_in : Hist
written_in = record { first = None; steps = (5, Ins row) ∷ [] }

abbrev written_out : Hist
written_out = record { first = Some row; steps = [] }

abbrev swapped_in : Hist
swapped_in = record { first = None; steps = (5, Ins row) ∷ (12, update) ∷ [] }

abbrev last_in : Hist
last_in = record { first = None; steps = (5, Ins row) ∷ (12, update) ∷ (15, Del) ∷ [] }

abbrev last_out : Hist
last_out = record { first = Some row; steps = (15, Del) ∷ [] }

-- what was missed is told by the steps of both
told : missed_of 10 last_in.steps last_out.steps ≡ (12, update) ∷ []
told = refl

told_before : missed_of 10 swapped_in.steps written_out.steps ≡ (12, update) ∷ []
told_before = refl

listed_for : missed_in 10 ((7 ∷ [], last_in) ∷ []) ((7 ∷ [], last_out) ∷ []) ≡ key_change (7 ∷ []) (12, update) ∷ []
listed_for = refl

picked_two : (a b c : KeyChange) → picked (a ∷ b ∷ c ∷ []) (0 ∷ 2 ∷ []) ≡ a ∷ c ∷ []
picked_two a b c = refl

-- the split, from the mark 8 on
as_written : AreAlike 8 (written_in ∷ []) (written_out ∷ [])
as_written = record {
  rows = λ t le. ap (λ b. or_else (cond b (Some row) None) None) (le-leb 5 t (omega arith));
  steps = λ t up. ap (λ b. or_else (cond b (Some (Ins row)) None) None) (ne_eqb 5 t (λ e. omega arith));
  one_row = λ t le. refl;
  one_step = λ t up. tt;
}

sound : AreSound 8 (written_out ∷ [])
sound = record { fit = λ t up. (tt, tt); rise = (tt, tt) }

at_bound : IsSplit 8 10 ([] ∷ []) (written_in ∷ []) (written_out ∷ [])
at_bound = written_splits 8 10 (written_in ∷ []) (written_out ∷ []) as_written sound ((omega arith, tt), tt) (tt, tt)

at_swap : IsSplit 8 10 (((12, update) ∷ []) ∷ []) (swapped_in ∷ []) (written_out ∷ [])
at_swap = input_misses 8 10 12 0 0 update ([] ∷ []) (written_in ∷ []) (written_out ∷ []) at_bound (omega arith) (omega arith) refl (omega arith) (omega arith)
    ((omega arith, tt), tt) (tt, tt) (λ t from. refl) (λ t from. single 10 t [] written_out at_bound.full at_bound.lack) refl

at_end : IsSplit 8 10 (((12, update) ∷ []) ∷ []) (last_in ∷ []) (last_out ∷ [])
at_end = both_keep 8 10 15 0 0 Del (((12, update) ∷ []) ∷ []) (swapped_in ∷ []) (written_out ∷ []) at_swap (omega arith) (omega arith) refl (omega arith) (omega arith)
    ((omega arith, (omega arith, tt)), tt) (λ t from. refl) (λ t from. single 10 t ((12, update) ∷ []) written_out at_swap.full at_swap.lack) refl

put_in : IsSplit 8 10 (none_missed at_end.full) (last_in ∷ []) at_end.full
put_in = put_in_splits 8 10 (((12, update) ∷ []) ∷ []) (last_in ∷ []) (last_out ∷ []) at_end

-- a change that went to the input alone, and is not missed, splits nothing
two_are_not_one : (a b c : ℕ × Change) → a ∷ b ∷ [] ≡ c ∷ [] → ⊥
two_are_not_one a b c e = cc

to_the_input_alone : IsSplit 8 10 (((12, update) ∷ []) ∷ []) (last_in ∷ []) (written_out ∷ []) → ⊥
to_the_input_alone s = two_are_not_one (12, update) (15, Del) (12, update) (told_by_split 8 10 ((12, update) ∷ []) last_in written_out (omega arith) s)
