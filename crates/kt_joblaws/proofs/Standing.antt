-- The stores of an engine that stands.
use Rattle.std.proofs.Common.{◌<◌, ℕ, suc, List, [], ◌∷◌, Bool, true, false, cond, Option, Some, None, ap, ◌∙◌, arith}
use Rattle.std.specs.Prelude.{not, nat_le}
use Rattle.std.specs.List.{filter, list_all}
use Rattle.std.specs.FinMap.Entries.{find}
use Rattle.std.proofs.lemmas.Bool.{leb-true}
use Rattle.kt_base.proofs.Values.{both_true}
use Rattle.kt_history.specs.declared.change.Change.{Change}
use Rattle.kt_history.specs.History.{PastWrite, IsUpTo}
use Rattle.kt_history.specs.Rows.{key_cmp}
use Rattle.kt_history.specs.Stores.{Steps, Under, step_at}
use Rattle.kt_histlaws.specs.Histories.{hists, joined, timeline}
use Rattle.kt_histlaws.specs.Pending.{is_pending}
use Rattle.kt_histlaws.proofs.Applying.{all_under, none_under}
use Rattle.kt_histlaws.proofs.Pending.{timeline-done}
use Rattle.kt_joblaws.specs.Apart.{stores_that_stand_are_apart}

joined_under : (top ts : ℕ) (o : Option Change) (steps : Steps) → ts < top → Under top steps → Under top (joined ts o steps)
joined_under top ts None steps lt u = u
joined_under top ts (Some c) steps lt u = (lt, u)

-- the writes of a past up to a time
line_under : (q : List ℕ) (c : ℕ) (writes : List PastWrite) → IsUpTo c writes → Under (suc c) (timeline q writes)
line_under q c [] up = tt
line_under q c (w ∷ writes) up =
    let parts = both_true (nat_le w.ts c) (list_all (λ (x : PastWrite). nat_le x.ts c) writes) up in
    joined_under (suc c) w.ts (find key_cmp q w.changes) (timeline q writes) (let le = leb-true w.ts c parts.0 in omega arith) (line_under q c writes parts.1)

some_under : (top : ℕ) (p : ℕ × Change → Bool) (steps : Steps) → Under top steps → Under top (filter p steps)
some_under top p [] u = tt
some_under top p (c ∷ steps) u = elim (p c) as (λ b. Under top (cond b (c ∷ filter p steps) (filter p steps))) [
  | true ↦ (u.0, some_under top p steps u.1)
  | false ↦ some_under top p steps u.1
]

pub stand_apart : stores_that_stand_are_apart
stand_apart core q st =
    let marked = st.flown.marked in (
      record { one_row = λ t le. (st.stores.same q).one_row t le; one_step = λ t lt. (st.stores.same q).one_step t lt; sound = st.stores.sound q },
      all_under (suc core.c) (hists q core.stores)
          (λ t le. (st.stores.same q).steps t (omega arith) ∙ ap (step_at t) (timeline-done q core.aloft st.past.writes)
          ∙ none_under (suc core.c) t (filter (λ c. not (is_pending core.aloft q c.0)) (timeline q st.past.writes))
          (some_under (suc core.c) (λ c. not (is_pending core.aloft q c.0)) (timeline q st.past.writes) (line_under q core.c st.past.writes st.flown.ends.writes)) le),
    )
