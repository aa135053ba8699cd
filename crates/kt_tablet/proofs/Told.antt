-- What flying writes have noted stays what the run says, as lines are added.
use Rattle.std.proofs.Common.{◌≡◌, ℕ, ◌-◌, ◌≤◌, List, [], ◌∷◌, ◌++◌, Option, true, false, Bool, cond, sym, ap, ◌∙◌, subst, arith, map}
use Rattle.std.specs.Prelude.{take}
use Rattle.std.specs.List.{filter}
use Rattle.kt_history.specs.declared.event.Event.{Event}
use Rattle.kt_history.specs.declared.target.Target.{Target}
use Rattle.kt_records.specs.declared.entry.CommitRow.{CommitRow}
use Rattle.kt_history.specs.History.{Past, rows_at}
use Rattle.kt_history.specs.Machine.{Workload, State, Turn, Allowed, IsRunFrom, start, state_after, after}
use Rattle.kt_history.specs.Operations.{outcomes_on}
use Rattle.kt_history.specs.Rows.{Row}
use Rattle.kt_history.proofs.Runs.{state_after-append, rows_stay}
use Rattle.kt_diskrowset.specs.Rowset.{HeldFiles}
use Rattle.kt_pool.specs.Contents.{Contents}
use Rattle.kt_history.specs.Stores.{Store}
use Rattle.kt_histlaws.specs.Flights.{AllFly}
use Rattle.kt_histlaws.specs.Core.{flown_by}
use Rattle.kt_histlaws.specs.Pending.{Aloft}
use Rattle.kt_tablet.specs.declared.tablet.FlyingWrite.{FlyingWrite}
use Rattle.kt_tablet.specs.Rows.{IsNoted, AreNoted}
use Rattle.kt_tablet.specs.Views.{View, IsSound, AreTold, aloft_of}

-- a past that has the same rows up to the last timestamp says the same of each
noted_on : (fill : Row) (past new run : Past) (a c : ℕ) (flights : List FlyingWrite) → AllFly fill run a c (map flown_by (map aloft_of flights))
    → ((t : ℕ) → t ≤ c → rows_at new t ≡ rows_at past t) → AreNoted fill past flights → AreNoted fill new flights
noted_on fill past new run a c [] fly same noted = tt
noted_on fill past new run a c (w ∷ flights) fly same noted = (
  record { outcomes = noted.0.outcomes ∙ ap (λ rows. take w.applied (outcomes_on fill rows w.ops)) (sym (same (w.ts - 1) (let le = fly.1 in omega (arith, le)))) },
  noted_on fill past new run a c flights fly.4 same noted.1,
)

last_allowed : (work : Workload) (st : State) (es : List Event) (e : Event) → IsRunFrom work st (es ++ e ∷ []) → Allowed work (state_after work st es) e
last_allowed work st [] e h = h.0
last_allowed work st (x ∷ es) e h = last_allowed work (after work st x) es e h.1

-- a line changes nothing of it
pub told_on : {C : Type 0} {files : List HeldFiles} (readings : C → Option (List ℕ)) (view : View C) (clock : C) (names : List Target) (notes : List (List CommitRow)) (places : List (ℕ × ℕ)) (pool : Contents) (frozen : ℕ) (trail : List Event) (a c : ℕ) (aloft : List Aloft) (turns : List Turn) (stopped : Bool) (stores : List Store) (e : Event) (flights : List FlyingWrite)
    → IsSound readings view
    → IsSound readings (record view { core = record view.core { trail = trail; a = a; c = c; aloft = aloft; turns = turns; stopped = stopped; stores = stores }; clock = clock; names = names; notes = notes; places = places; pool = pool; frozen = frozen; files = files })
    → map aloft_of flights ≡ view.core.aloft → trail ≡ view.core.trail ++ e ∷ []
    → AreTold view.core.work view.opening view.mark view.core.opened view.core.trail flights → AreTold view.core.work view.opening view.mark view.core.opened trail flights
told_on readings view clock names notes places pool frozen trail a c aloft turns stopped stores e flights sound next flies lines told = λ first opens.
    let begins = start view.core.work first view.core.opened in
    let before = state_after view.core.work begins view.core.trail in
    let st = sound.stands first opens in
    let goes = last_allowed view.core.work begins view.core.trail e (subst (IsRunFrom view.core.work begins) lines (next.stands first opens).run.is_run) in
    let more = ap (state_after view.core.work begins) lines ∙ state_after-append view.core.work begins view.core.trail (e ∷ []) in
    noted_on view.core.work.fill before.past (state_after view.core.work begins trail).past st.past view.core.a view.core.c flights
    (subst (λ ws. AllFly view.core.work.fill st.past view.core.a view.core.c (map flown_by ws)) (sym flies) st.flown.fly)
    (λ t le. ap (λ x. rows_at x.past t) more ∙ rows_stay view.core.work before e t goes (subst (λ n. t ≤ n) (sym (ap (λ x. x.c) st.run.state)) le))
    (told first opens)

-- one write more, and fewer
noted-append : (fill : Row) (past : Past) (flights : List FlyingWrite) (w : FlyingWrite) → AreNoted fill past flights → IsNoted fill past w → AreNoted fill past (flights ++ w ∷ [])
noted-append fill past [] w all one = (one, tt)
noted-append fill past (v ∷ flights) w all one = (all.0, noted-append fill past flights w all.1 one)

noted-filter : (fill : Row) (past : Past) (p : FlyingWrite → Bool) (flights : List FlyingWrite) → AreNoted fill past flights → AreNoted fill past (filter p flights)
noted-filter fill past p [] all = tt
noted-filter fill past p (w ∷ flights) all = elim (p w) as (λ b. AreNoted fill past (cond b (w ∷ filter p flights) (filter p flights))) [
  | true ↦ (all.0, noted-filter fill past p flights all.1)
  | false ↦ noted-filter fill past p flights all.1
]

pub told_begun : (work : Workload) (opening : List Store) (mark opened : ℕ) (trail : List Event) (flights new mid : List FlyingWrite) (w : FlyingWrite)
    → AreTold work opening mark opened trail flights → new ≡ mid ++ w ∷ [] → mid ≡ flights → w.applied ≡ 0 → w.outcomes.items ≡ [] → AreTold work opening mark opened trail new
told_begun work opening mark opened trail flights new mid w told pushed same none outcomes = λ first opens.
    subst (AreNoted work.fill (state_after work (start work first opened) trail).past) (sym (pushed ∙ ap (λ l. l ++ w ∷ []) same))
    (noted-append work.fill _ flights w (told first opens) (record {
      outcomes = outcomes ∙ ap (λ n. take n (outcomes_on work.fill (rows_at (state_after work (start work first opened) trail).past (w.ts - 1)) w.ops)) (sym none);
    }))

pub told_ended : (work : Workload) (opening : List Store) (mark opened : ℕ) (trail : List Event) (p : FlyingWrite → Bool) (flights new : List FlyingWrite)
    → AreTold work opening mark opened trail flights → new ≡ filter p flights → AreTold work opening mark opened trail new
told_ended work opening mark opened trail p flights new told filtered = λ first opens.
    subst (AreNoted work.fill (state_after work (start work first opened) trail).past) (sym filtered) (noted-filter work.fill _ p flights (told first opens))

pub told_none : (work : Workload) (opening : List Store) (mark opened : ℕ) (trail : List Event) (flights : List FlyingWrite) → flights ≡ [] → AreTold work opening mark opened trail flights
told_none work opening mark opened trail flights none = λ first opens. subst (AreNoted work.fill (state_after work (start work first opened) trail).past) (sym none) tt
