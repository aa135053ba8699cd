-- In a run the past stays one: its timestamps rise, and none is above the last timestamp.
use Rattle.std.proofs.Common.{◌≡◌, ◌≢◌, ℕ, ◌-◌, ◌<◌, ◌≤◌, List, [], ◌∷◌, ◌++◌, refl, true, false, Bool, arith, max, Some, None, cond, ap, ◌∙◌}
use Rattle.std.specs.Prelude.{nat_le, ◌||◌}
use Rattle.std.specs.List.{list_any, cons_option}
use Rattle.std.specs.Ordering.{eq_by_cmp}
use Rattle.std.specs.FinMap.Entries.{find}
use Rattle.std.proofs.lemmas.Bool.Decides.{nat_tests}
use Rattle.kt_history.specs.declared.event.Event.{Event}
use Rattle.kt_history.specs.declared.event.Event.TheVariants.{Begin, End, Look, Rows, Ancient, Busy, Mark, Chore, Large, Stop}
use Rattle.kt_history.specs.declared.operation.RowOp.{RowOp}
use Rattle.kt_history.specs.Rows.{Row, Rows as TableRows, Changes, AreApart, key_cmp}
use Rattle.kt_history.specs.History.{Past, PastWrite, IsPastUpTo, IsUpTo, Rise, rows_at, with_write}
use Rattle.kt_history.specs.Operations.{changes_on, effect_on, keyed, DifferentKeys}
use Rattle.kt_history.specs.Machine.{Workload, State, Allowed, after, state_after, IsRunFrom, HasDifferentKeys, command_at, ops_of}
use Rattle.kt_history.proofs.Runs.{begins_above, c_rises, both, left, right}

is_le : (a b : ℕ) → a ≤ b → nat_le a b ≡ true
is_le a b h = grind (arith, nat_tests)

le_from : (a b : ℕ) → nat_le a b ≡ true → a ≤ b
le_from a b h = grind (arith, nat_tests)

up_to_later : (c d : ℕ) (ws : List PastWrite) → c ≤ d → IsUpTo c ws → IsUpTo d ws
up_to_later c d [] le h = refl
up_to_later c d (w ∷ ws) le h = let low = le_from w.ts c (left _ _ h) in both _ _ (is_le w.ts d (omega arith)) (up_to_later c d ws le (right _ _ h))

rise_push : (low c : ℕ) (ws : List PastWrite) (w : PastWrite) → Rise low ws → IsUpTo c ws → low ≤ c → c < w.ts → w.changes ≢ [] → AreApart w.changes → Rise low (ws ++ w ∷ [])
rise_push low c [] w rise up le lt some apart = (omega arith, some, apart, tt)
rise_push low c (v ∷ ws) w rise up le lt some apart = (rise.0, rise.1, rise.2, rise_push v.ts c ws w rise.3 (right _ _ up) (le_from v.ts c (left _ _ up)) lt some apart)

up_to_push : (c : ℕ) (ws : List PastWrite) (w : PastWrite) → IsUpTo c ws → w.ts ≤ c → IsUpTo c (ws ++ w ∷ [])
up_to_push c [] w up le = both _ _ (is_le w.ts c le) refl
up_to_push c (v ∷ ws) w up le = both _ _ (left _ _ up) (up_to_push c ws w (right _ _ up) le)

pub ends_with_write : (c ts : ℕ) (past : Past) (changes : Changes) → IsPastUpTo c past → c < ts → AreApart changes → IsPastUpTo ts (with_write past ts changes)
ends_with_write c ts past [] e lt apart = record { is = e.is; mark = omega (arith, e.mark); writes = up_to_later c ts past.writes (omega arith) e.writes }
ends_with_write c ts past (x ∷ changes) e lt apart = record {
  is = record { rows = e.is.rows; writes = rise_push past.mark c past.writes _ e.is.writes e.writes e.mark lt (λ eq. cc) apart };
  mark = omega (arith, e.mark);
  writes = up_to_push ts past.writes _ (up_to_later c ts past.writes (omega arith) e.writes) (omega arith);
}

ends_later : (c d : ℕ) (past : Past) → c ≤ d → IsPastUpTo c past → IsPastUpTo d past
ends_later c d past le e = record { is = e.is; mark = omega (arith, e.mark); writes = up_to_later c d past.writes le e.writes }

or_left : (a b : Bool) → (a || b) ≡ false → a ≡ false
or_left true b h = cc
or_left false b h = refl

or_right : (a b : Bool) → (a || b) ≡ false → b ≡ false
or_right true b h = cc
or_right false b h = h

-- a key of no operation has no change
find-changes_on : (fill : Row) (rows : TableRows) (k : List ℕ) (ops : List RowOp) → list_any (λ other. eq_by_cmp key_cmp k other.key) ops ≡ false → find key_cmp k (changes_on fill rows ops) ≡ None
find-changes_on fill rows k [] h = refl
find-changes_on fill rows k (op ∷ ops) h =
    let rest = find-changes_on fill rows k ops (or_right _ _ h) in
    elim (effect_on fill rows op).0 as (λ o. find key_cmp k (cons_option (keyed op.key o) (changes_on fill rows ops)) ≡ None) [
      | None ↦ rest
      | Some change ↦ ap (λ b. cond b (Some change) (find key_cmp k (changes_on fill rows ops))) (or_left _ _ h) ∙ rest
    ]

-- no two changes of a write are of one key
pub apart-changes_on : (fill : Row) (rows : TableRows) (ops : List RowOp) → DifferentKeys ops → AreApart (changes_on fill rows ops)
apart-changes_on fill rows [] h = tt
apart-changes_on fill rows (op ∷ ops) h =
    elim (effect_on fill rows op).0 as (λ o. AreApart (cons_option (keyed op.key o) (changes_on fill rows ops))) [
      | None ↦ apart-changes_on fill rows ops h.1
      | Some change ↦ (find-changes_on fill rows op.key ops h.0, apart-changes_on fill rows ops h.1)
    ]

pub ends_after : (work : Workload) (st : State) (e : Event) → HasDifferentKeys work → Allowed work st e → IsPastUpTo st.c st.past → IsPastUpTo (after work st e).c (after work st e).past
ends_after work st (Begin s i ts m) keys h p = ends_with_write st.c ts st.past (changes_on work.fill (rows_at st.past (ts - 1)) (ops_of (command_at work s i))) p (begins_above work st s i ts m h) (apart-changes_on work.fill (rows_at st.past (ts - 1)) (ops_of (command_at work s i)) (keys s i))
ends_after work st (End s i ts) keys h p = p
ends_after work st (Look s i t m) keys h p = ends_later st.c t st.past (c_rises work st (Look s i t m) h) p
ends_after work st (Rows s i t) keys h p = ends_later st.c (max st.c t) st.past (omega arith) p
ends_after work st (Ancient s i t a) keys h p = p
ends_after work st (Busy s i t f) keys h p = p
ends_after work st (Mark s i a) keys h p = p
ends_after work st (Chore s i) keys h p = p
ends_after work st (Large s i n) keys h p = p
ends_after work st Stop keys h p = p

pub ends_after_all : (work : Workload) (st : State) (es : List Event) → HasDifferentKeys work → IsRunFrom work st es → IsPastUpTo st.c st.past → IsPastUpTo (state_after work st es).c (state_after work st es).past
ends_after_all work st [] keys run p = p
ends_after_all work st (e ∷ es) keys run p = ends_after_all work (after work st e) es keys run.1 (ends_after work st e keys run.0 p)
