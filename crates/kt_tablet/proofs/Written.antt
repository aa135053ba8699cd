-- What flying writes have written for the log, as rows are applied and writes begin and end.
use Rattle.std.proofs.Common.{◌≡◌, ℕ, zero, suc, ◌+◌, ◌<◌, List, [], ◌∷◌, ◌++◌, true, false, Bool, cond, sym, ap, ◌∙◌, subst, arith, length, get_or}
use Rattle.std.specs.Prelude.{slice_set}
use Rattle.std.specs.List.{filter}
use Rattle.kt_history.specs.declared.change.Outcome.{Outcome}
use Rattle.kt_history.specs.declared.target.Target.{Target}
use Rattle.kt_records.specs.declared.entry.CommitRow.{CommitRow}
use Rattle.kt_tablet.specs.declared.tablet.FlyingWrite.{FlyingWrite}
use Rattle.kt_tablet.specs.Rows.{IsRecorded, AreRecorded, HasWritten, AreWritten}

recorded_more : (names : List Target) (os : List Outcome) (rows : List CommitRow) (o : Outcome) (row : CommitRow) → AreRecorded names os rows → IsRecorded names o row → AreRecorded names (os ++ o ∷ []) (rows ++ row ∷ [])
recorded_more names [] [] o row all one = (one, tt)
recorded_more names [] (r ∷ rows) o row all one = absurd all
recorded_more names (x ∷ os) [] o row all one = absurd all
recorded_more names (x ∷ os) (r ∷ rows) o row all one = (all.0, recorded_more names os rows o row all.1 one)

-- a write at its place
pub written_at : (names : List Target) (flights : List FlyingWrite) (j : ℕ) (w : FlyingWrite) → AreWritten names flights → j < length flights → w ≡ get_or flights j w → HasWritten names w
written_at names [] j w all lt is = absurd (omega (arith, lt))
written_at names (v ∷ flights) zero w all lt is = subst (HasWritten names) (sym is) all.0
written_at names (v ∷ flights) (suc j) w all lt is = written_at names flights j w all.1 (omega (arith, lt)) is

written_set : (names : List Target) (flights : List FlyingWrite) (j : ℕ) (x : FlyingWrite) → AreWritten names flights → HasWritten names x → AreWritten names (slice_set flights j x)
written_set names [] j x all one = tt
written_set names (v ∷ flights) zero x all one = (one, all.1)
written_set names (v ∷ flights) (suc j) x all one = (all.0, written_set names flights j x all.1 one)

-- a row more
written_one : (names : List Target) (w x : FlyingWrite) (outcome : Outcome) (row : CommitRow) → HasWritten names w → x ≡ record w { applied = w.applied + 1; outcomes = x.outcomes; rows = x.rows } → w.applied < length w.ops
    → x.outcomes.items ≡ w.outcomes.items ++ outcome ∷ [] → x.rows.items ≡ w.rows.items ++ row ∷ [] → IsRecorded names outcome row → HasWritten names x
written_one names w x outcome row was is more outcomes rows one = subst (HasWritten names) (sym is) (record {
  few = omega (arith, more);
  rows = subst (λ os. AreRecorded names os x.rows.items) (sym outcomes) (subst (AreRecorded names (w.outcomes.items ++ outcome ∷ [])) (sym rows) (recorded_more names w.outcomes.items w.rows.items outcome row was.rows one));
})

pub written_applied : (old names : List Target) (flights : List FlyingWrite) (j : ℕ) (w x : FlyingWrite) (outcome : Outcome) (row : CommitRow) → AreWritten old flights → j < length flights → w ≡ get_or flights j w
    → x ≡ record w { applied = w.applied + 1; outcomes = x.outcomes; rows = x.rows } → w.applied < length w.ops
    → x.outcomes.items ≡ w.outcomes.items ++ outcome ∷ [] → x.rows.items ≡ w.rows.items ++ row ∷ [] → IsRecorded old outcome row → names ≡ old → AreWritten names (slice_set flights j x)
written_applied old names flights j w x outcome row all lt here is more outcomes rows one same =
    subst (λ t. AreWritten t (slice_set flights j x)) (sym same) (written_set old flights j x all (written_one old w x outcome row (written_at old flights j w all lt here) is more outcomes rows one))

-- one write more, and fewer
written-append : (names : List Target) (flights : List FlyingWrite) (w : FlyingWrite) → AreWritten names flights → HasWritten names w → AreWritten names (flights ++ w ∷ [])
written-append names [] w all one = (one, tt)
written-append names (v ∷ flights) w all one = (all.0, written-append names flights w all.1 one)

nothing_written : (names : List Target) (os : List Outcome) (rows : List CommitRow) → os ≡ [] → rows ≡ [] → AreRecorded names os rows
nothing_written names os rows e f = subst (λ os. AreRecorded names os rows) (sym e) (subst (AreRecorded names []) (sym f) tt)

pub written_begun : (old names : List Target) (flights new mid : List FlyingWrite) (w : FlyingWrite) → AreWritten old flights → new ≡ mid ++ w ∷ [] → mid ≡ flights → w.applied ≡ 0 → w.outcomes.items ≡ [] → w.rows.items ≡ [] → names ≡ old → AreWritten names new
written_begun old names flights new mid w all pushed same none outcomes rows e = subst (λ ns. AreWritten ns new) (sym e) (subst (AreWritten old) (sym (pushed ∙ ap (λ l. l ++ w ∷ []) same))
    (written-append old flights w all (record { few = omega (arith, none); rows = nothing_written old w.outcomes.items w.rows.items outcomes rows })))

written-filter : (names : List Target) (p : FlyingWrite → Bool) (flights : List FlyingWrite) → AreWritten names flights → AreWritten names (filter p flights)
written-filter names p [] all = tt
written-filter names p (w ∷ flights) all = elim (p w) as (λ b. AreWritten names (cond b (w ∷ filter p flights) (filter p flights))) [
  | true ↦ (all.0, written-filter names p flights all.1)
  | false ↦ written-filter names p flights all.1
]

pub written_ended : (names : List Target) (p : FlyingWrite → Bool) (flights new : List FlyingWrite) → AreWritten names flights → new ≡ filter p flights → AreWritten names new
written_ended names p flights new all filtered = subst (AreWritten names) (sym filtered) (written-filter names p flights all)

pub written_none : (names : List Target) (flights : List FlyingWrite) → flights ≡ [] → AreWritten names flights
written_none names flights none = subst (AreWritten names) (sym none) tt
