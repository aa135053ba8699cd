-- Each event changes the part of its own pass alone.
use Rattle.std.proofs.Common.{◌≡◌, ℕ, zero, suc, ◌+◌, List, [], ◌∷◌, ◌++◌, None, refl, true, false, cond, sym, ap, ◌∙◌}
use Rattle.std.specs.Prelude.{◌==◌, not, slice_get, slice_set}
use Rattle.std.specs.List.{filter}
use Rattle.std.proofs.lemmas.Bool.{ne_eqb, eqb-true}
use Rattle.std.proofs.lemmas.List.Elements.{filter-append}
use Rattle.std.proofs.lemmas.List.{append-nil}
use Rattle.kt_history.specs.declared.operation.RowOp.{RowOp}
use Rattle.kt_history.specs.Machine.{Turn, nth, set_nth}
use Rattle.kt_histlaws.specs.Histories.{on_nth}
use Rattle.kt_histlaws.specs.Pending.{Aloft}
use Rattle.kt_history.specs.declared.event.Event.{Event}
use Rattle.kt_histlaws.specs.Core.{Core}
use Rattle.kt_histlaws.specs.Events.{advance, begun, applied, looked, ended, answered_rows, marked, answered}
use Rattle.kt_histlaws.specs.Laws.{other_parts_stay}
use Rattle.kt_histlaws.specs.Parts.{part, IsOfAnother}

get_set_other : {A : Type 0} (xs : List A) (i k : ℕ) (x : A) → (i ≡ k → ⊥) → slice_get (slice_set xs i x) k ≡ slice_get xs k
get_set_other [] i k x ne = refl
get_set_other (y ∷ ys) zero zero x ne = absurd (ne refl)
get_set_other (y ∷ ys) zero (suc k) x ne = refl
get_set_other (y ∷ ys) (suc i) zero x ne = refl
get_set_other (y ∷ ys) (suc i) (suc k) x ne = get_set_other ys i k x (λ e. ne (ap suc e))

nth-set_other : (turns : List Turn) (s k : ℕ) (turn : Turn) → (s ≡ k → ⊥) → nth (set_nth turns s turn) k ≡ nth turns k
nth-set_other turns zero k turn ne = refl
nth-set_other turns (suc s) zero turn ne = refl
nth-set_other turns (suc s) (suc k) turn ne = get_set_other turns s k turn (λ e. ne (ap suc e))

pub look_keeps_parts : (core : Core) (s i t m k : ℕ) → (s ≡ k → ⊥) → part (looked core s i t m) k ≡ part core k
look_keeps_parts core s i t m k ne = ap (λ x. record { flight = filter (λ w. w.s == k) core.aloft; turn = x }) (nth-set_other core.turns s k _ ne)

pub begin_keeps_parts : (core : Core) (s i ts m : ℕ) (ops : List RowOp) (k : ℕ) → (s ≡ k → ⊥) → part (begun core s i ts m ops) k ≡ part core k
begin_keeps_parts core s i ts m ops k ne = ap (λ x. record { flight = x; turn = nth core.turns k })
    (filter-append (λ w. w.s == k) core.aloft _ ∙ ap (λ b. filter (λ w. w.s == k) core.aloft ++ cond b (record { s = s; i = i; ts = ts; ops = ops; applied = 0 } ∷ []) []) (ne_eqb s k ne) ∙ append-nil (filter (λ w. w.s == k) core.aloft))

filter_twice : (s k : ℕ) (aloft : List Aloft) → (s ≡ k → ⊥) → filter (λ w. w.s == k) (filter (λ w. not (w.s == s)) aloft) ≡ filter (λ w. w.s == k) aloft
filter_twice s k [] ne = refl
filter_twice s k (w ∷ aloft) ne =
    elim (w.s == s) as (λ b. w.s == s ≡ b → filter (λ w. w.s == k) (cond (not b) (w ∷ filter (λ v. not (v.s == s)) aloft) (filter (λ v. not (v.s == s)) aloft)) ≡ cond (w.s == k) (w ∷ filter (λ v. v.s == k) aloft) (filter (λ v. v.s == k) aloft)) [
      | true ↦ λ is. filter_twice s k aloft ne ∙ sym (ap (λ b. cond b (w ∷ filter (λ v. v.s == k) aloft) (filter (λ v. v.s == k) aloft)) (ne_eqb w.s k (λ e. ne (sym (eqb-true w.s s is) ∙ e))))
      | false ↦ λ is. ap (λ r. cond (w.s == k) (w ∷ r) r) (filter_twice s k aloft ne)
    ] refl

pub end_keeps_parts : (core : Core) (s i ts k : ℕ) → (s ≡ k → ⊥) → part (ended core s i ts) k ≡ part core k
end_keeps_parts core s i ts k ne = ap (λ x. record { flight = x; turn = nth (set_nth core.turns s (record { next = i + 1; look = None })) k }) (filter_twice s k core.aloft ne)
    ∙ ap (λ x. record { flight = filter (λ w. w.s == k) core.aloft; turn = x }) (nth-set_other core.turns s k (record { next = i + 1; look = None }) ne)

turn_keeps_parts : (core : Core) (s k : ℕ) (turn : Turn) → (s ≡ k → ⊥) → part (record core { turns = set_nth core.turns s turn }) k ≡ part core k
turn_keeps_parts core s k turn ne = ap (λ x. record { flight = filter (λ w. w.s == k) core.aloft; turn = x }) (nth-set_other core.turns s k turn ne)

pub rows_keep_parts : (core : Core) (s i t k : ℕ) → (s ≡ k → ⊥) → part (answered_rows core s i t) k ≡ part core k
rows_keep_parts core s i t k ne = turn_keeps_parts core s k (record { next = i + 1; look = None }) ne

pub mark_keeps_parts : (core : Core) (s i a k : ℕ) → (s ≡ k → ⊥) → part (marked core s i a) k ≡ part core k
mark_keeps_parts core s i a k ne = turn_keeps_parts core s k (record { next = i + 1; look = None }) ne

pub line_keeps_parts : (core : Core) (s i : ℕ) (e : Event) (k : ℕ) → (s ≡ k → ⊥) → part (answered core s i e) k ≡ part core k
line_keeps_parts core s i e k ne = turn_keeps_parts core s k (record { next = i + 1; look = None }) ne

filter_advanced : (j : ℕ) (aloft : List Aloft) (k : ℕ) → IsOfAnother j aloft k → filter (λ w. w.s == k) (on_nth j advance aloft) ≡ filter (λ w. w.s == k) aloft
filter_advanced j [] k h = refl
filter_advanced zero (w ∷ aloft) k h = ap (λ b. cond b (advance w ∷ filter (λ v. v.s == k) aloft) (filter (λ v. v.s == k) aloft)) (ne_eqb w.s k h) ∙ sym (ap (λ b. cond b (w ∷ filter (λ v. v.s == k) aloft) (filter (λ v. v.s == k) aloft)) (ne_eqb w.s k h))
filter_advanced (suc j) (w ∷ aloft) k h = ap (λ r. cond (w.s == k) (w ∷ r) r) (filter_advanced j aloft k h)

pub apply_keeps_parts : (core : Core) (j i ts : ℕ) (op : RowOp) (k : ℕ) → IsOfAnother j core.aloft k → part (applied core j i ts op) k ≡ part core k
apply_keeps_parts core j i ts op k h = ap (λ x. record { flight = x; turn = nth core.turns k }) (filter_advanced j core.aloft k h)

pub parts_stay : other_parts_stay
parts_stay core k = record {
  begin = λ s i ts m ops ne. begin_keeps_parts core s i ts m ops k ne;
  look = λ s i t m ne. look_keeps_parts core s i t m k ne;
  end = λ s i ts ne. end_keeps_parts core s i ts k ne;
  rows = λ s i t ne. rows_keep_parts core s i t k ne;
  mark = λ s i a ne. mark_keeps_parts core s i a k ne;
  line = λ s i e ne. line_keeps_parts core s i e k ne;
  apply = λ j i ts op h. apply_keeps_parts core j i ts op k h;
}
