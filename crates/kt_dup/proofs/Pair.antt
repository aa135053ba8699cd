-- One input beside one output.
use Rattle.std.proofs.Common.{◌≡◌, ◌≢◌, ℕ, ◌<◌, ◌≤◌, List, [], ◌∷◌, Some, None, Option, refl, true, false, Bool, cond, sym, ap, ◌∙◌, subst, arith, map}
use Rattle.std.specs.Prelude.{is_some}
use Rattle.std.specs.FinMap.Entries.{put}
use Rattle.std.specs.Ordering.{eq_by_cmp}
use Rattle.std.proofs.lemmas.Bool.{le-leb}
use Rattle.kt_history.specs.declared.change.Change.{Change}
use Rattle.kt_history.specs.declared.target.Kindly.{Kindly}
use Rattle.kt_history.specs.declared.target.Kindly.TheVariants.{Ins, Upd, Del}
use Rattle.kt_history.specs.Rows.{Row, apply, fits, key_cmp}
use Rattle.kt_history.specs.Stores.{Steps, Hist, Store, row_of, after_steps, apply_all, last_row, push, Under, hist_in, change_of}
use Rattle.kt_histlaws.specs.Histories.{or_else, Alone, hists}
use Rattle.kt_histlaws.proofs.Pending.{hists-pushed_same, hists-pushed_other, same_key}
use Rattle.kt_dup.specs.Split.{AllLack, IsOfRow, IsSplit, AreSplit}
use Rattle.kt_dup.proofs.Split.{both_keep}

-- what is no insert is a change of a row
pub of_row : (kind : Kindly) (cells : Row) → kind ≢ Ins → IsOfRow (change_of kind cells)
of_row Ins cells not_ins = absurd (not_ins refl)
of_row Upd cells not_ins = refl
of_row Del cells not_ins = refl

there_of_fit : (c : Change) (row : Option Row) → IsOfRow c → fits c row ≡ true → is_some row ≡ true
there_of_fit c None of_row fit = cc
there_of_fit c (Some row) of_row fit = refl

-- from its last change on a row is as after all changes
last_rows : (ts : ℕ) (steps : Steps) (row : Option Row) → Under ts steps → after_steps ts steps row ≡ apply_all steps row
last_rows ts [] row un = refl
last_rows ts (c ∷ steps) row un = ap (λ b. after_steps ts steps (cond b (apply c.1 row) row)) (le-leb c.0 ts (omega (arith, un.0))) ∙ last_rows ts steps (apply c.1 row) un.1

one_there : (o : Option Row) → is_some o ≡ true → is_some (or_else o None) ≡ true
one_there None there = there
one_there (Some row) there = refl

pub single : (bound t : ℕ) (missed : Steps) (out : Hist) (full : List Hist) → AllLack bound (missed ∷ []) (out ∷ []) full → Alone 0 (map (row_of t) full)
single bound t missed out [] l = absurd l
single bound t missed out (h ∷ []) l = refl
single bound t missed out (h ∷ g ∷ full) l = absurd l.1

pair_keeps : (j bound ts : ℕ) (c : Change) (missed : Steps) (into out : Hist) → j ≤ bound → bound < ts → IsOfRow c → Under ts into.steps → fits c (last_row into) ≡ true
    → IsSplit j bound (missed ∷ []) (into ∷ []) (out ∷ []) → IsSplit j bound (missed ∷ []) (push ts c into ∷ []) (push ts c out ∷ [])
pair_keeps j bound ts c missed into out le lt of_row un fit s =
    both_keep j bound ts 0 0 c (missed ∷ []) (into ∷ []) (out ∷ []) s le lt of_row (omega arith) (omega arith) (un, tt) (λ t from. refl) (λ t from. single bound t missed out s.full s.lack)
    (one_there (row_of ts into) (ap is_some (last_rows ts into.steps into.first un) ∙ there_of_fit c (last_row into) of_row fit))

-- of each key
pub splits_keep : (j bound ts : ℕ) (key : List ℕ) (c : Change) (missed : List ℕ → Steps) (ins outs ins' outs' : Store) → j ≤ bound → bound < ts → IsOfRow c
    → Under ts (hist_in key ins).steps → fits c (last_row (hist_in key ins)) ≡ true
    → ins' ≡ put key_cmp key (push ts c (hist_in key ins)) ins → outs' ≡ put key_cmp key (push ts c (hist_in key outs)) outs
    → AreSplit j bound missed ins outs → AreSplit j bound missed ins' outs'
splits_keep j bound ts key c missed ins outs ins' outs' le lt of_row un fit is_ins is_outs s q =
    subst (λ x. IsSplit j bound (missed q ∷ []) (hist_in q x ∷ []) (hist_in q outs' ∷ [])) (sym is_ins)
    (subst (λ x. IsSplit j bound (missed q ∷ []) (hist_in q (put key_cmp key (push ts c (hist_in key ins)) ins) ∷ []) (hist_in q x ∷ [])) (sym is_outs) (one (eq_by_cmp key_cmp q key) refl))
  where
    one : (b : Bool) → eq_by_cmp key_cmp q key ≡ b
        → IsSplit j bound (missed q ∷ []) (hists q (put key_cmp key (push ts c (hist_in key ins)) ins ∷ [])) (hists q (put key_cmp key (push ts c (hist_in key outs)) outs ∷ []))
    one true e = subst (λ k. IsSplit j bound (missed k ∷ []) (hists k (put key_cmp key (push ts c (hist_in key ins)) ins ∷ [])) (hists k (put key_cmp key (push ts c (hist_in key outs)) outs ∷ [])))
        (sym (same_key q key e))
        (subst (λ hs. IsSplit j bound (missed key ∷ []) hs (hists key (put key_cmp key (push ts c (hist_in key outs)) outs ∷ []))) (sym (hists-pushed_same 0 key ts c (ins ∷ [])))
        (subst (λ hs. IsSplit j bound (missed key ∷ []) (push ts c (hist_in key ins) ∷ []) hs) (sym (hists-pushed_same 0 key ts c (outs ∷ [])))
        (pair_keeps j bound ts c (missed key) (hist_in key ins) (hist_in key outs) le lt of_row un fit (s key))))
    one false e =
        subst (λ hs. IsSplit j bound (missed q ∷ []) hs (hists q (put key_cmp key (push ts c (hist_in key outs)) outs ∷ []))) (sym (hists-pushed_other 0 q key ts c (ins ∷ []) e))
        (subst (λ hs. IsSplit j bound (missed q ∷ []) (hist_in q ins ∷ []) hs) (sym (hists-pushed_other 0 q key ts c (outs ∷ []) e)) (s q))
