-- The visit that ends a write.
use Rattle.std.proofs.Common.{◌≡◌, ℕ, ◌+◌, ◌-◌, List, [], Option, Some, None, true, sym, ap, ◌∙◌, subst, length}
use Rattle.std.specs.Prelude.{◌==◌, not}
use Rattle.std.specs.List.{filter}
use Rattle.std.proofs.Math.Seq.{drop-length}
use Rattle.kt_history.specs.declared.command.Command.TheVariants as command
use Rattle.kt_history.specs.declared.event.Event.{Event}
use Rattle.kt_history.specs.declared.event.Event.TheVariants as event
use Rattle.kt_history.specs.declared.operation.RowOp.{RowOp}
use Rattle.kt_history.specs.declared.operation.Write.{Write}
use Rattle.kt_history.specs.declared.change.Outcome.{Outcome}
use Rattle.kt_history.specs.declared.reply.Reply.TheVariants as reply
use Rattle.kt_history.specs.History.{Past, rows_at}
use Rattle.kt_history.specs.Operations.{outcomes_on}
use Rattle.kt_history.specs.Machine.{ops_of, command_at}
use Rattle.kt_records.specs.declared.entry.CommitRow.{CommitRow}
use Rattle.kt_histlaws.specs.Core.{Core, run_past}
use Rattle.kt_histlaws.specs.Events.{ended}
use Rattle.kt_histlaws.specs.Pending.{Aloft}
use Rattle.kt_tablet.specs.Visits.{MayEnd, HasEnded, IsDone, flight_of}
use Rattle.kt_seatlock.specs.Trails.{Follows}
use Rattle.kt_engine.specs.Engines.{EngineView, IsFound, TellsStop, core_from}
use Rattle.kt_engine.specs.Sessions.{runs}
use Rattle.kt_engine.proofs.Sessions.{runs_none}
use Rattle.kt_engine.specs.Visits.{PartView, part_in, session_of, out_of, root_of, IsVisit}
use Rattle.kt_serve.specs.Sessions.{OwnFlight, IsNext, IsAloft, HasNoLog, HasLeft, IsCommand, IsFree, OnRoot, AnswersOne, IsQuiet, has_stop}
use Rattle.kt_serve.proofs.Lines.{is_mine}
use Rattle.kt_serve.proofs.Flights.{found_flight, none_left, is_over}
use Rattle.kt_serve.proofs.Begins.{has_root, line_answers, some_is}
use Rattle.kt_serve.proofs.Stops.{stop_seen}
use Rattle.kt_serve.proofs.Stills.{still_tablet}
use Rattle.kt_serve.proofs.Applies.{own_flight, own_turn, own_home}

abbrev pub flown : ℕ → ℕ → ℕ → List RowOp → ℕ → Aloft
flown s i ts ops n = record { s = s; i = i; ts = ts; ops = ops; applied = n }

module _ {L D C : Type 0} where
  pub may_end : (x : EngineView L D C) (s i ts : ℕ) (ops : List RowOp) → OwnFlight x s i ts ops (length ops) → IsNext x s i → MayEnd x.tablet.core s
  may_end x s i ts ops own next = record {
    flight = flown s i ts ops (length ops);
    flies = found_flight s x.tablet.core.aloft _ [] own;
    turn = next;
    over = is_over s x.tablet.core.aloft (flown s i ts ops (length ops)) own (drop-length ops);
  }

  -- the flight that is found is the session's
  flight_is : (told : Option (PartView L D C)) (x : EngineView L D C) (n i ts : ℕ) (ops : List RowOp) (flight : Aloft) → told ≡ Some (part_in x n) → IsAloft told n i ts ops (length ops) → flight_of n x.tablet.core.aloft ≡ Some flight → flight ≡ flown n i ts ops (length ops)
  flight_is told x n i ts ops flight is a flies = some_is flight (flown n i ts ops (length ops)) (sym flies ∙ found_flight n x.tablet.core.aloft _ [] (own_flight told x n i ts (length ops) ops is a))

  pub ended_answers : (told told' : Option (PartView L D C)) (seen seen' : List Event) (x y : EngineView L D C) (n n' by i ts : ℕ) (w : Write) (done : ℕ) (outcomes : List Outcome)
      → told ≡ Some (part_in x n) → told' ≡ Some (part_in y n') → n' ≡ n → by ≡ n → Follows session_of n seen x.tablet.core.trail → seen' ≡ y.tablet.core.trail
      → IsAloft told n i ts w.ops (length w.ops) → HasNoLog told → IsCommand told n i (command.Write w) → (index : ℕ) × HasEnded x.tablet.core y.tablet.core by index done
      → ((first : Past) → IsFound x first → (rows : List CommitRow) × IsDone (core_from x first) x.tablet.names by outcomes rows) → y.log.holder ≡ x.log.holder → y.log.out ≡ x.log.out
      → IsFree told' (i + 1) × OnRoot told (λ root. AnswersOne root n i (reply.At done outcomes) seen seen')
  ended_answers told told' seen seen' x y n n' by i ts w done outcomes was is same me follows sees a home its (index, h') done_so holds out =
      let h = subst (λ k. HasEnded x.tablet.core y.tablet.core k index done) me h' in
      let here = flight_is told x n i ts w.ops h.flight was a h.flies in
      let at : index ≡ i = h.index ∙ ap (λ (v : Aloft). v.i) here in
      let then : done ≡ ts = h.time ∙ ap (λ (v : Aloft). v.ts) here in
      let core : y.tablet.core ≡ ended x.tablet.core n i done = h.core ∙ ap (λ k. ended x.tablet.core n k done) at in
      line_answers told told' seen seen' x y n i (event.End n i done) (reply.At done outcomes) was (is ∙ ap (λ k. Some (part_in y k)) same) follows sees
      (ap (λ (c : Core). filter (λ v. v.s == n) c.aloft) core ∙ none_left n x.tablet.core.aloft)
      (λ none. let both : Some (record { next = i; look = None }) ≡ None = sym (own_turn told x n i ts (length w.ops) w.ops was a) ∙ none in cc)
      ((λ t. out_of (holds t) (out t) n) ∙ own_home told x n was home)
      (ap (λ (c : Core). c.turns) core) (ap (λ (c : Core). c.trail) core) (λ k. is_mine n k i)
      (λ first content.
      let d = subst (λ k. IsDone (core_from x first) x.tablet.names k outcomes (done_so first content).0) me (done_so first content).1 in
      let found = flight_is told x n i ts w.ops d.flight was a d.flies in
      let ops_are : ops_of (command_at x.tablet.core.work n i) ≡ w.ops = ap ops_of (its (root_of x) (has_root told x n was)) in
      ap (λ ops. Some (reply.At done (outcomes_on x.tablet.core.work.fill (rows_at (run_past (core_from x first)) (done - 1)) ops))) ops_are
      ∙ ap (λ k. Some (reply.At done (outcomes_on x.tablet.core.work.fill (rows_at (run_past (core_from x first)) (k - 1)) w.ops))) then
      ∙ ap (λ (v : Aloft). Some (reply.At done (outcomes_on x.tablet.core.work.fill (rows_at (run_past (core_from x first)) (v.ts - 1)) v.ops))) (sym found)
      ∙ ap (λ l. Some (reply.At done l)) (sym d.each))

  -- the log is where it was
  pub log_stays : (told told' : Option (PartView L D C)) (x y : EngineView L D C) (n n' : ℕ) → told ≡ Some (part_in x n) → told' ≡ Some (part_in y n') → n' ≡ n → HasNoLog told → y.log.holder ≡ x.log.holder → y.log.out ≡ x.log.out → HasNoLog told'
  log_stays told told' x y n n' was is same h holds out = record { part = part_in y n'; is = is; home = (λ t. out_of (holds t) (out t) (same t)) ∙ own_home told x n was h }

  -- the session of the pass does not run any more
  pub has_left : (told : Option (PartView L D C)) (x y : EngineView L D C) (by n : ℕ) → told ≡ Some (part_in y n) → n ≡ by → y.running ≡ filter (λ k. not (k == by)) x.running → HasLeft told
  has_left told x y by n is me fewer = record { part = part_in y n; is = is; over = (λ t. runs (me t) (fewer t)) ∙ runs_none x.running by }

  pub after_stop : (told told' : Option (PartView L D C)) (seen seen' : List Event) (x y : EngineView L D C) (m n n' : ℕ) → told ≡ Some (part_in x n) → told' ≡ Some (part_in y n') → n' ≡ n → Follows session_of n seen x.tablet.core.trail → seen' ≡ y.tablet.core.trail
      → TellsStop x.tablet.core → IsVisit m x y → y ≡ x → x.tablet.core.stopped ≡ true → (has_stop seen' ≡ true) × OnRoot told (λ root. IsQuiet root n seen seen')
  after_stop told told' seen seen' x y m n n' was is same follows sees stops keeps e stopped =
      let still = still_tablet told told' seen seen' x y m n n' was is same follows sees keeps (ap (λ v. v.tablet) e) in
      (ap has_stop (sees ∙ ap (λ v. v.tablet.core.trail) e) ∙ stop_seen x stops stopped, λ root h. still.quiet root h)
