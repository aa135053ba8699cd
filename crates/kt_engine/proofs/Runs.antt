-- The past of a run, its acknowledged writes and its `stop` line, after one line more.
use Rattle.std.proofs.Common.{◌≡◌, ◌≢◌, ℕ, List, [], ◌∷◌, ◌++◌, Bool, true, false, Result, Ok, Err, refl, ap, sym, ◌∙◌, subst}
use Rattle.std.specs.List.{All}
use Rattle.kt_history.specs.declared.event.Event.{Event}
use Rattle.kt_history.specs.declared.event.Event.TheVariants.{Begin, End, Look, Rows, Ancient, Busy, Mark, Chore, Large, Stop}
use Rattle.kt_history.specs.declared.operation.RowOp.{RowOp}
use Rattle.kt_history.specs.Machine.{State, IfWrite, command_at, start, state_after, after}
use Rattle.kt_history.proofs.Runs.{state_after-append, of_write}
use Rattle.kt_records.specs.declared.entry.Entry.{Entry}
use Rattle.kt_loglaws.specs.Laws.{with_ops}
use Rattle.kt_histlaws.specs.Core.{Core, run_past}
use Rattle.kt_engine.specs.Logged.{AcknowledgedIn}
use Rattle.kt_engine.specs.Engines.{TellsStop}
use Rattle.kt_engine.proofs.Lists.{all_more}

-- the past after one line more
pub past_line : (core : Core) (e : Event) → (state_after core.work (start core.work core.first core.opened) (core.trail ++ e ∷ [])).past ≡ (after core.work (state_after core.work (start core.work core.first core.opened) core.trail) e).past
past_line core e = ap (λ (st : State). st.past) (state_after-append core.work (start core.work core.first core.opened) core.trail (e ∷ []))

-- a write that begins joins it
pub past_begun : (core : Core) (s i ts m : ℕ) (ops : List RowOp) → IfWrite (command_at core.work s i) (λ written. written ≡ ops) → (state_after core.work (start core.work core.first core.opened) (core.trail ++ Begin s i ts m ∷ [])).past ≡ with_ops core.work.fill (run_past core) ts ops
past_begun core s i ts m ops is = past_line core (Begin s i ts m) ∙ ap (λ o. with_ops core.work.fill (run_past core) ts o) (of_write (command_at core.work s i) (λ written. written ≡ ops) is)

-- one line more, which acknowledges no write, or one whose REPLICATE is there
pub acknowledged_more : (records : List Entry) (es : List Event) (e : Event) → AcknowledgedIn records es → AcknowledgedIn records (e ∷ []) → AcknowledgedIn records (es ++ e ∷ [])
acknowledged_more records [] e h k = k
acknowledged_more records (Begin s i ts m ∷ es) e h k = acknowledged_more records es e h k
acknowledged_more records (End s i ts ∷ es) e h k = (h.0, acknowledged_more records es e h.1 k)
acknowledged_more records (Look s i t m ∷ es) e h k = acknowledged_more records es e h k
acknowledged_more records (Rows s i t ∷ es) e h k = acknowledged_more records es e h k
acknowledged_more records (Ancient s i t a ∷ es) e h k = acknowledged_more records es e h k
acknowledged_more records (Busy s i t f ∷ es) e h k = acknowledged_more records es e h k
acknowledged_more records (Mark s i a ∷ es) e h k = acknowledged_more records es e h k
acknowledged_more records (Chore s i ∷ es) e h k = acknowledged_more records es e h k
acknowledged_more records (Large s i n ∷ es) e h k = acknowledged_more records es e h k
acknowledged_more records (Stop ∷ es) e h k = acknowledged_more records es e h k

-- what would make an answer of another kind is not so
pub not_true : (b : Bool) → (b ≡ true → false ≡ true) → b ≡ false
not_true true h = sym (h refl)
not_true false h = refl

-- a tablet that answers otherwise has not stopped
pub goes_still : {A E : Type 0} (stopped : Bool) (r : Result A E) (why : E) → (stopped ≡ true → r ≡ Err why) → (r ≡ Err why → ⊥) → stopped ≡ false
goes_still stopped r why stops other = not_true stopped (λ h. absurd (other (stops h)))

pub ok_no : {A E : Type 0} (x : A) (e : E) → Ok x ≡ Err e → ⊥
ok_no x e h = cc

pub err_is : {A E : Type 0} (e f : E) (r : Result A E) → r ≡ Err e → r ≡ Err f → e ≡ f
err_is e f r was is = cc

-- one line more of a tablet that goes on, which is no `stop` line
pub stop_line : (old new : Core) (e : Event) → TellsStop old → old.stopped ≡ false → e ≢ Stop → new.trail ≡ old.trail ++ e ∷ [] → new.stopped ≡ old.stopped → TellsStop new
stop_line old new e h goes other line same = record {
  goes = λ _. subst (λ (es : List Event). All (λ x. x ≢ Stop) es) (sym line) (all_more (λ x. x ≢ Stop) old.trail e (h.goes goes) other);
  stopped = λ k. absurd (let both : true ≡ false = sym k ∙ (same ∙ goes) in cc);
}
