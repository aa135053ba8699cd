-- Of an operation without a COMMIT one store at most has the key live just before it.
use Rattle.std.proofs.Common.{◌≡◌, ◌-◌, ℕ, List, [], ◌∷◌, ◌++◌, map, true, false, refl, sym, ap, ◌∙◌, subst, arith}
use Rattle.kt_history.specs.declared.operation.RowOp.{RowOp}
use Rattle.kt_history.specs.declared.target.Target.{Target}
use Rattle.kt_histlaws.specs.Histories.{AtMostOne}
use Rattle.kt_content.specs.Places.{Held, held_in, standing, row_before, rows_in, OneLive}
use Rattle.kt_content.specs.KeyOps.{KeyOp}
use Rattle.kt_content.specs.Content.{AreTold, UntoldLiveOnce}
use Rattle.kt_content.specs.MoreOps.{untold, told, one_store_is_live_above_the_mark, one_store_is_live_before_an_operation_without_commit}
use Rattle.kt_content.proofs.MoreOps.{all_before}

pub all_told_once : (held : Held) (xs : List KeyOp) → AreTold xs → UntoldLiveOnce held xs
all_told_once held [] t = tt
all_told_once held (x ∷ xs) t = (λ none. absurd (let f : true ≡ false = sym t.0 ∙ none in cc), all_told_once held xs t.1)

pub once_more : (held : Held) (xs : List KeyOp) (x : KeyOp) → AreTold xs → OneLive (standing x.ts held) → UntoldLiveOnce held (xs ++ x ∷ [])
once_more held [] x t one = (λ none. one, tt)
once_more held (y ∷ xs) x t one = (λ none. absurd (let f : true ≡ false = sym t.0 ∙ none in cc), once_more held xs x t.1 one)

pub once_told : (held : Held) (xs : List KeyOp) (ts : ℕ) (op : RowOp) (targets : List Target) (ys : List KeyOp) → UntoldLiveOnce held (xs ++ untold ts op ∷ ys) → UntoldLiveOnce held (xs ++ told ts op targets ∷ ys)
once_told held [] ts op targets ys h = (λ none. h.0 refl, h.1)
once_told held (x ∷ xs) ts op targets ys h = (h.0, once_told held xs ts op targets ys h.1)

pub once_untold : (held : Held) (xs : List KeyOp) (ts : ℕ) (op : RowOp) (targets : List Target) (ys : List KeyOp) → UntoldLiveOnce held (xs ++ told ts op targets ∷ ys) → OneLive (standing ts held)
    → UntoldLiveOnce held (xs ++ untold ts op ∷ ys)
once_untold held [] ts op targets ys h one = (λ none. one, h.1)
once_untold held (x ∷ xs) ts op targets ys h one = (h.0, once_untold held xs ts op targets ys h.1 one)

rows_are : (ts : ℕ) (held : Held) → rows_in (standing ts held) ≡ map (row_before ts) (held_in held)
rows_are ts [] = refl
rows_are ts (h ∷ held) = ap (λ l. row_before ts h.1 ∷ l) (rows_are ts held)

pub shown_once : one_store_is_live_above_the_mark
shown_once a ts held whole s up = subst AtMostOne (sym (rows_are ts held ∙ all_before ts (held_in held) (omega arith))) (s.shows.one_row (ts - 1) (omega arith))

pub untold_once : one_store_is_live_before_an_operation_without_commit
untold_once held [] ts op ys h = h.0 refl
untold_once held (x ∷ xs) ts op ys h = untold_once held xs ts op ys h.1
