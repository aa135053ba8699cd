-- The visits of a scan.
use Rattle.std.proofs.Common.{◌≡◌, ◌≢◌, ◌≤◌, ◌<◌, ◌^◌, ℕ, ◌+◌, List, [], ◌∷◌, ◌++◌, Option, Some, None, length, true, false, cond, refl, sym, ap, ◌∙◌, subst, ne_eqb, arith, Result, Ok, Err}
use Rattle.std.specs.Prelude.{◌==◌, IfOk, IfErr, OnErr}
use Rattle.std.specs.List.{filter}
use Rattle.kt_base.specs.declared.cell.Cell.{Cell}
use Rattle.kt_history.specs.declared.command.Command.{Command}
use Rattle.kt_history.specs.declared.command.Command.TheVariants as command
use Rattle.kt_history.specs.declared.event.Event.{Event}
use Rattle.kt_history.specs.declared.event.Event.TheVariants as event
use Rattle.kt_history.specs.declared.reply.Reply.{Reply}
use Rattle.kt_history.specs.declared.reply.Reply.TheVariants as reply
use Rattle.kt_history.specs.declared.scan.At.{At}
use Rattle.kt_history.specs.declared.scan.At.TheVariants.{Looked, Given}
use Rattle.kt_history.specs.declared.scan.Scan.{Scan}
use Rattle.kt_history.specs.History.{Past, rows_at}
use Rattle.kt_history.specs.Rows.{Rows}
use Rattle.kt_history.specs.Machine.{Workload, State, Turn, after, state_after, start, nth, command_at, IfScan}
use Rattle.kt_history.specs.Replies.{answers, reply_of, shown, shown_by}
use Rattle.kt_histlaws.specs.Core.{Core, run_past}
use Rattle.kt_histlaws.specs.Events.{answered}
use Rattle.kt_histlaws.specs.Histories.{or_else}
use Rattle.kt_schema.specs.declared.column.Column.{Column}
use Rattle.kt_scan.specs.Encoded.{keys_of}
use Rattle.kt_scan.specs.Live.{AreRowsOf}
use Rattle.kt_tablet.specs.Views.{IsSound}
use Rattle.kt_tablet.specs.Visits.{MayLook, HasLooked}
use Rattle.kt_tablet.specs.Reads.{MaySnapshot, HasRead, ShowsRun, IsCopied, IsNoRead, LeavesRead}
use Rattle.kt_diskrowset.specs.Page.{row_told}
use Rattle.kt_tablet.specs.Copies.{copied_row}
use Rattle.kt_tablet.proofs.Scans.{all_marked}
use Rattle.kt_tablet.specs.declared.tablet.LookNo.{LookNo}
use Rattle.kt_tablet.specs.declared.tablet.LookNo.TheVariants as look
use Rattle.kt_tablet.specs.declared.tablet.scan.SnapNo.{SnapNo}
use Rattle.kt_tablet.specs.declared.tablet.scan.SnapNo.TheVariants as no
use Rattle.kt_seatlock.specs.Trails.{Follows}
use Rattle.kt_engine.specs.Engines.{EngineView, IsFound, TellsStop, core_from}
use Rattle.kt_engine.specs.Visits.{Root, root_of, PartView, part_in, session_of, out_of}
use Rattle.kt_serve.specs.Sessions.{told_by, SameRoot, OnRoot, IsFree, HasNoLog, IsCommand, IsQuiet, AnswersOne, IsGoing, TellsOwn, has_stop}
use Rattle.kt_serve.specs.Scans.{IsOn, ScansAt, IsLooking, AfterLook, past_by, TabletSnap, snap_row, ShowsRows, AnswersRows, HasSnapped, turn_of_read, changes, AfterRead, IsQuietBut, LacksReply, TellsBut}
use Rattle.kt_serve.proofs.Lines.{told_more, or_none, follows_quiet, quiet_self, quiet_then, quiet_line, is_mine}
use Rattle.kt_serve.proofs.Flights.{none_flies, nth_set}
use Rattle.kt_serve.proofs.Begins.{some_is, root_at, has_root, content_of, free_calm, free_turn, free_home, line_answers}
use Rattle.kt_serve.proofs.Stops.{stop_seen}
use Rattle.kt_serve.proofs.Viewed.{rows_of_run}

-- ---- lines

-- the line of a scan changes no row
past_line : (work : Workload) (st : State) (lines : List Event) (s i t : ℕ) → (state_after work st (lines ++ event.Rows s i t ∷ [])).past ≡ (state_after work st lines).past
past_line work st [] s i t = refl
past_line work st (e ∷ lines) s i t = past_line work (after work st e) lines s i t

module _ {L D C : Type 0} (root : Root L D C) where
  past_more : (first : Past) (s i t : ℕ) (lines more : List Event) → more ≡ lines ++ event.Rows s i t ∷ [] → past_by root first more ≡ past_by root first lines
  past_more first s i t lines more e = ap (past_by root first) e ∙ past_line root.work (start root.work first root.opened) lines s i t

  -- the line of a scan answers it by the rows of the run
  rows_line : (s i t : ℕ) (lines more : List Event) → more ≡ lines ++ event.Rows s i t ∷ [] → AnswersRows root s i t lines more
  rows_line s i t lines more e first found k =
      ap (λ l. told_by root first l s k) e
      ∙ told_more root.work (start root.work first root.opened) lines (event.Rows s i t ∷ []) s k
      ∙ ap (λ b. or_else (told_by root first lines s k) (cond b (reply_of root.work (past_by root first lines) (event.Rows s i t)) None)) (is_mine s k i)
      ∙ ap (λ p. or_else (told_by root first lines s k) (cond (k == i) (Some (reply.Rows t (shown_by root.work.keys (command_at root.work s i) (rows_at p t)))) None)) (sym (past_more first s i t lines more e))

  then_rows : (s i t : ℕ) (a b c : List Event) → IsQuiet root s a b → AnswersRows root s i t b c → AnswersRows root s i t a c
  then_rows s i t a b c f g first found k =
      g first found k
      ∙ ap (λ o. or_else o (cond (k == i) (Some (reply.Rows t (shown_by root.work.keys (command_at root.work s i) (rows_at (past_by root first c) t)))) None)) (f first found k)

  -- it answers no other command
  rows_quiet : (s i t : ℕ) (a b : List Event) → AnswersRows root s i t a b → IsQuietBut root s i a b
  rows_quiet s i t a b f first found k ne =
      f first found k
      ∙ ap (λ h. or_else (told_by root first a s k) (cond h (Some (reply.Rows t (shown_by root.work.keys (command_at root.work s i) (rows_at (past_by root first b) t)))) None)) (ne_eqb k i ne)
      ∙ or_none (told_by root first a s k)

-- ---- the session's own

some_not : (x : Turn) → Some x ≡ None → ⊥
some_not x e = cc

module _ {L D C : Type 0} where
  look_part : (told : Option (PartView L D C)) (i : ℕ) (at : At) (x : EngineView L D C) (n : ℕ) (f : IsLooking told i at) → told ≡ Some (part_in x n) → f.part ≡ part_in x n
  look_part told i at x n f is = some_is f.part (part_in x n) (sym f.is ∙ is)

  look_calm : (told : Option (PartView L D C)) (i : ℕ) (at : At) (x : EngineView L D C) (n : ℕ) → IsLooking told i at → told ≡ Some (part_in x n) → filter (λ w. w.s == n) x.tablet.core.aloft ≡ []
  look_calm told i at x n f is = sym (ap (λ (p : PartView L D C). p.pass.session.flight) (look_part told i at x n f is)) ∙ f.calm

  pub look_turn : (told : Option (PartView L D C)) (i : ℕ) (at : At) (x : EngineView L D C) (n : ℕ) (f : IsLooking told i at) → told ≡ Some (part_in x n) → nth x.tablet.core.turns n ≡ Some (record { next = i; look = f.look })
  look_turn told i at x n f is = sym (ap (λ (p : PartView L D C). p.pass.session.turn) (look_part told i at x n f is)) ∙ f.turn

  look_home : (told : Option (PartView L D C)) (i : ℕ) (at : At) (x : EngineView L D C) (n : ℕ) → IsLooking told i at → told ≡ Some (part_in x n) → out_of x.log.holder x.log.out n ≡ None
  look_home told i at x n f is = sym (ap (λ (p : PartView L D C). p.pass.out) (look_part told i at x n f is)) ∙ f.home

  look_some : (told : Option (PartView L D C)) (i : ℕ) (at : At) (x : EngineView L D C) (n : ℕ) → IsLooking told i at → told ≡ Some (part_in x n) → nth x.tablet.core.turns n ≢ None
  look_some told i at x n f is gone = some_not (record { next = i; look = f.look }) (sym (look_turn told i at x n f is) ∙ gone)

  pub look_log : (told : Option (PartView L D C)) (i : ℕ) (at : At) → IsLooking told i at → HasNoLog told
  look_log told i at f = record { part = f.part; is = f.is; home = f.home }

  pub free_looks : (told : Option (PartView L D C)) (i t : ℕ) → IsFree told i → IsLooking told i (Given t)
  free_looks told i t f = record { part = f.part; is = f.is; look = None; calm = f.calm; turn = f.turn; home = f.home; drawn = refl }

  pub look_rests : (b c : Option (PartView L D C)) (i : ℕ) (at : At) → c ≡ b → IsLooking b i at → IsLooking c i at
  look_rests b c i at e f = subst (λ (q : Option (PartView L D C)). IsLooking q i at) (sym e) f

  pub scan_at : (told : Option (PartView L D C)) (s i : ℕ) (scan : Scan) → IsCommand told s i (command.Scan scan) → ScansAt told s i scan.at
  scan_at told s i scan its root h = subst (λ c. IfScan c (λ w. w ≡ scan.at)) (sym (its root h)) refl

  -- lines of others, and lines of its own
  quiet_same : (told : Option (PartView L D C)) (n : ℕ) (seen seen' : List Event) (x y : EngineView L D C) → Follows session_of n seen x.tablet.core.trail → seen' ≡ y.tablet.core.trail → y.tablet.core ≡ x.tablet.core → OnRoot told (λ root. IsQuiet root n seen seen')
  quiet_same told n seen seen' x y follows sees core root h =
      quiet_then root n seen x.tablet.core.trail seen' (follows_quiet root n seen x.tablet.core.trail follows) (quiet_self root n x.tablet.core.trail seen' (sees ∙ ap (λ (c : Core). c.trail) core))

  -- ---- the visit that looks

  pub may_look : (told : Option (PartView L D C)) (x : EngineView L D C) (n by i : ℕ) → told ≡ Some (part_in x n) → by ≡ n → IsFree told i → ScansAt told n i Looked → MayLook x.tablet.core by i
  may_look told x n by i is me f its = record {
    at = record {
      next = ap (nth x.tablet.core.turns) me ∙ free_turn told i x n f is;
      rests = none_flies by x.tablet.core.aloft (ap (λ k. filter (λ v. v.s == k) x.tablet.core.aloft) me ∙ free_calm told i x n f is);
    };
    scan = subst (λ k. IfScan (command_at x.tablet.core.work k i) (λ w. w ≡ Looked)) (sym me) (its (root_of x) (has_root told x n is));
  }

  looked_after : (told told' : Option (PartView L D C)) (seen seen' : List Event) (x y : EngineView L D C) (n i t : ℕ) → told ≡ Some (part_in x n) → told' ≡ Some (part_in y n) → IsFree told i → Follows session_of n seen x.tablet.core.trail → seen' ≡ y.tablet.core.trail
      → HasLooked x.tablet.core y.tablet.core n i t → y.log ≡ x.log → IsLooking told' i Looked × OnRoot told (λ root. IsQuiet root n seen seen')
  looked_after told told' seen seen' x y n i t was is f follows sees h log = (
    record {
      part = part_in y n;
      is = is;
      look = Some t;
      calm = ap (λ (c : Core). filter (λ w. w.s == n) c.aloft) h.core ∙ free_calm told i x n f was;
      turn = ap (λ (c : Core). nth c.turns n) h.core ∙ nth_set x.tablet.core.turns n _ (λ none. let both : Some (record { next = i; look = None }) ≡ None = sym (free_turn told i x n f was) ∙ none in cc);
      home = ap (λ l. out_of l.holder l.out n) log ∙ free_home told i x n f was;
      drawn = refl;
    },
    λ root r. quiet_then root n seen x.tablet.core.trail seen' (follows_quiet root n seen x.tablet.core.trail follows)
        (quiet_line root n x.tablet.core.trail seen' (event.Look n i t h.m) (sees ∙ ap (λ (c : Core). c.trail) h.core) (λ k. refl)),
  )

  pub after_look : (told told' : Option (PartView L D C)) (seen seen' : List Event) (x y : EngineView L D C) (n n' by i : ℕ) (r : Result ℕ LookNo)
      → told ≡ Some (part_in x n) → told' ≡ Some (part_in y n') → n' ≡ n → by ≡ n → IsFree told i → Follows session_of n seen x.tablet.core.trail → seen' ≡ y.tablet.core.trail
      → TellsStop x.tablet.core
      → IfOk r (λ t. HasLooked x.tablet.core y.tablet.core by i t) → y.log ≡ x.log → OnErr r (y ≡ x) → (r ≡ Err look.Stopped → x.tablet.core.stopped ≡ true)
      → AfterLook told told' seen seen' n i r
  after_look told told' seen seen' x y n n' by i (Ok t) was is same me f follows sees stops looks log stays goes =
      looked_after told told' seen seen' x y n i t was (is ∙ ap (λ k. Some (part_in y k)) same) f follows sees (subst (λ k. HasLooked x.tablet.core y.tablet.core k i t) me looks) log
  after_look told told' seen seen' x y n n' by i (Err look.Stopped) was is same me f follows sees stops looks log stays goes =
      (ap has_stop (sees ∙ ap (λ v. v.tablet.core.trail) stays) ∙ stop_seen x stops (goes refl), quiet_same told n seen seen' x y follows sees (ap (λ v. v.tablet.core) stays))
  after_look told told' seen seen' x y n n' by i (Err look.Memory) was is same me f follows sees stops looks log stays goes =
      quiet_same told n seen seen' x y follows sees (ap (λ v. v.tablet.core) stays)

  -- ---- the visit that reads

  pub may_snapshot : (told : Option (PartView L D C)) (x : EngineView L D C) (n by i : ℕ) (at : At) → told ≡ Some (part_in x n) → by ≡ n → IsLooking told i at → ScansAt told n i at → i + 1 < 2 ^ 32 → MaySnapshot x.tablet.core by i at
  may_snapshot told x n by i at is me f its few = record {
    look = f.look;
    next = ap (nth x.tablet.core.turns) me ∙ look_turn told i at x n f is;
    drawn = f.drawn;
    rests = none_flies by x.tablet.core.aloft (ap (λ k. filter (λ v. v.s == k) x.tablet.core.aloft) me ∙ look_calm told i at x n f is);
    scan = subst (λ k. IfScan (command_at x.tablet.core.work k i) (λ w. w ≡ at)) (sym me) (its (root_of x) (has_root told x n is));
  }

  -- a scan that waits leaves the engine as it was
  pub waits_same : (x y : EngineView L D C) (n i : ℕ) (r : Result TabletSnap SnapNo) → y ≡ record x { tablet = record x.tablet { core = y.tablet.core } } → IfErr r (LeavesRead x.tablet y.tablet n i) → changes (turn_of_read r) ≡ false → y ≡ x
  waits_same x y n i (Ok snap) beside left is = absurd (cc)
  waits_same x y n i (Err no.Stopped) beside left is = absurd (cc)
  waits_same x y n i (Err (no.Ancient t a)) beside left is = absurd (cc)
  waits_same x y n i (Err (no.Busy t f)) beside left is = absurd (cc)
  waits_same x y n i (Err (no.NotYet f)) beside left is = beside ∙ ap (λ t. record x { tablet = record x.tablet { core = t.core } }) left
  waits_same x y n i (Err no.Memory) beside left is = absurd (cc)

  -- the log is where it was
  pub look_stays : (told told' : Option (PartView L D C)) (x y : EngineView L D C) (n n' i : ℕ) (at : At) → told ≡ Some (part_in x n) → told' ≡ Some (part_in y n') → n' ≡ n → IsLooking told i at → y.log ≡ x.log → HasNoLog told'
  look_stays told told' x y n n' i at was is same f log = record { part = part_in y n'; is = is; home = (λ t. out_of (log t).holder (log t).out (same t)) ∙ look_home told i at x n f was }

  -- a scan that still waits
  waits_on : (told told' : Option (PartView L D C)) (seen seen' : List Event) (x y : EngineView L D C) (n i : ℕ) (at : At) → told ≡ Some (part_in x n) → told' ≡ Some (part_in y n) → IsLooking told i at → Follows session_of n seen x.tablet.core.trail → seen' ≡ y.tablet.core.trail
      → y.tablet.core ≡ x.tablet.core → y.log ≡ x.log → IsLooking told' i at × OnRoot told (λ root. IsQuiet root n seen seen')
  waits_on told told' seen seen' x y n i at was is f follows sees core log = (
    record {
      part = part_in y n;
      is = is;
      look = f.look;
      calm = ap (λ (c : Core). filter (λ w. w.s == n) c.aloft) core ∙ look_calm told i at x n f was;
      turn = ap (λ (c : Core). nth c.turns n) core ∙ look_turn told i at x n f was;
      home = ap (λ l. out_of l.holder l.out n) log ∙ look_home told i at x n f was;
      drawn = f.drawn;
    },
    quiet_same told n seen seen' x y follows sees core,
  )

  -- a scan that is answered otherwise than by rows
  refused_after : (told told' : Option (PartView L D C)) (seen seen' : List Event) (x y : EngineView L D C) (n i : ℕ) (at : At) (e : Event) (r : Reply) → told ≡ Some (part_in x n) → told' ≡ Some (part_in y n) → IsLooking told i at → Follows session_of n seen x.tablet.core.trail → seen' ≡ y.tablet.core.trail
      → y.tablet.core ≡ answered x.tablet.core n i e → y.log ≡ x.log → ((k : ℕ) → answers n k e ≡ (k == i)) → ((first : Past) → IsFound x first → reply_of x.tablet.core.work (run_past (core_from x first)) e ≡ Some r)
      → IsFree told' (i + 1) × OnRoot told (λ root. AnswersOne root n i r seen seen')
  refused_after told told' seen seen' x y n i at e r was is f follows sees core log mine replies =
      line_answers told told' seen seen' x y n i e r was is follows sees (ap (λ (c : Core). filter (λ w. w.s == n) c.aloft) core ∙ look_calm told i at x n f was) (look_some told i at x n f was)
      (ap (λ l. out_of l.holder l.out n) log ∙ look_home told i at x n f was) (ap (λ (c : Core). c.turns) core) (ap (λ (c : Core). c.trail) core) mine replies

  -- a snapshot shows the rows of the run
  shows_run : (x : EngineView L D C) (snap : TabletSnap) (s i : ℕ) (seen' : List Event) (readings : C → Option (List ℕ)) → IsSound readings x.tablet → seen' ≡ x.tablet.core.trail ++ event.Rows s i snap.t ∷ [] → snap.mark ≤ snap.t
      → ((first : Past) → IsFound x first → ShowsRun row_told (core_from x first) snap) → ShowsRows (root_of x) snap seen'
  shows_run x snap s i seen' readings sound line since shows first found =
      let content = content_of x first found in
      subst (λ p. AreRowsOf (snap_row snap) (rows_at p snap.t)) (sym (past_more (root_of x) first s i snap.t x.tablet.core.trail seen' line))
      (rows_of_run (λ v k t. copied_row row_told k t v) (core_from x first) snap.t snap.views (sound.stands first content) (λ key. (shows first content).rows snap.t key since (omega arith)))

  -- a scan that is answered by rows
  read_after : (told told' : Option (PartView L D C)) (seen seen' : List Event) (x y : EngineView L D C) (n i : ℕ) (at : At) (readings : C → Option (List ℕ)) (snap : TabletSnap) → told ≡ Some (part_in x n) → told' ≡ Some (part_in y n) → IsLooking told i at → Follows session_of n seen x.tablet.core.trail → seen' ≡ y.tablet.core.trail
      → IsSound readings x.tablet → HasRead x.tablet.core y.tablet.core n i at snap.t → snap.mark ≡ x.tablet.core.a → IsCopied snap → ((first : Past) → IsFound x first → ShowsRun row_told (core_from x first) snap) → y.log ≡ x.log
      → IsFree told' (i + 1) × HasSnapped told seen seen' n i snap
  read_after told told' seen seen' x y n i at readings snap was is f follows sees sound read mark copied shows log =
      let since : snap.mark ≤ snap.t = subst (λ m. m ≤ snap.t) (sym mark) read.since in
      let line : seen' ≡ x.tablet.core.trail ++ event.Rows n i snap.t ∷ [] = sees ∙ ap (λ (c : Core). c.trail) read.core in (
        record {
          part = part_in y n;
          is = is;
          calm = ap (λ (c : Core). filter (λ w. w.s == n) c.aloft) read.core ∙ look_calm told i at x n f was;
          turn = ap (λ (c : Core). nth c.turns n) read.core ∙ nth_set x.tablet.core.turns n _ (look_some told i at x n f was);
          home = ap (λ l. out_of l.holder l.out n) log ∙ look_home told i at x n f was;
        },
        record {
          since = since;
          marks = all_marked snap copied;
          shows = λ root h. subst (λ (ro : Root L D C). ShowsRows ro snap seen') (root_at root told x n h was) (shows_run x snap n i seen' readings sound line since shows);
          answers = λ root h.
              then_rows root n i snap.t seen x.tablet.core.trail seen' (follows_quiet root n seen x.tablet.core.trail follows) (rows_line root n i snap.t x.tablet.core.trail seen' line);
        },
      )

  pub after_read : (told told' : Option (PartView L D C)) (seen seen' : List Event) (x y : EngineView L D C) (n n' by i : ℕ) (at : At) (readings : C → Option (List ℕ)) (r : Result TabletSnap SnapNo)
      → told ≡ Some (part_in x n) → told' ≡ Some (part_in y n') → n' ≡ n → by ≡ n → IsLooking told i at → Follows session_of n seen x.tablet.core.trail → seen' ≡ y.tablet.core.trail
      → TellsStop x.tablet.core → IsSound readings x.tablet
      → IfOk r (λ snap. HasRead x.tablet.core y.tablet.core by i at snap.t) → IfOk r (λ snap. snap.mark ≡ x.tablet.core.a) → IfOk r IsCopied → IfOk r (λ snap. (first : Past) → IsFound x first → ShowsRun row_told (core_from x first) snap)
      → y.log ≡ x.log → IfErr r (IsNoRead x.tablet.core by at) → IfErr r (LeavesRead x.tablet y.tablet by i)
      → AfterRead told told' seen seen' n i at (turn_of_read r)
  after_read told told' seen seen' x y n n' by i at readings (Ok snap) was is same me f follows sees stops sound read mark copied shows log refused left =
      read_after told told' seen seen' x y n i at readings snap was (is ∙ ap (λ k. Some (part_in y k)) same) f follows sees sound (subst (λ k. HasRead x.tablet.core y.tablet.core k i at snap.t) me read) mark copied shows log
  after_read told told' seen seen' x y n n' by i at readings (Err no.Stopped) was is same me f follows sees stops sound read mark copied shows log refused left =
      (ap has_stop (sees ∙ ap (λ t. t.core.trail) left) ∙ stop_seen x stops refused, quiet_same told n seen seen' x y follows sees (ap (λ t. t.core) left))
  after_read told told' seen seen' x y n n' by i at readings (Err (no.Ancient t a)) was is same me f follows sees stops sound read mark copied shows log refused left =
      refused_after told told' seen seen' x y n i at (event.Ancient n i t a) (reply.Ancient t a) was (is ∙ ap (λ k. Some (part_in y k)) same) f follows sees (left ∙ ap (λ k. answered x.tablet.core k i (event.Ancient k i t a)) me) log (λ k. is_mine n k i) (λ first content. refl)
  after_read told told' seen seen' x y n n' by i at readings (Err (no.Busy t g)) was is same me f follows sees stops sound read mark copied shows log refused left =
      refused_after told told' seen seen' x y n i at (event.Busy n i t g) (reply.Busy t g) was (is ∙ ap (λ k. Some (part_in y k)) same) f follows sees (left ∙ ap (λ k. answered x.tablet.core k i (event.Busy k i t g)) me) log (λ k. is_mine n k i) (λ first content. refl)
  after_read told told' seen seen' x y n n' by i at readings (Err (no.NotYet g)) was is same me f follows sees stops sound read mark copied shows log refused left =
      waits_on told told' seen seen' x y n i at was (is ∙ ap (λ k. Some (part_in y k)) same) f follows sees (ap (λ t. t.core) left) log
  after_read told told' seen seen' x y n n' by i at readings (Err no.Memory) was is same me f follows sees stops sound read mark copied shows log refused left =
      quiet_same told n seen seen' x y follows sees (ap (λ t. t.core) left)

  -- ---- a scan from its visits

  pub going_lacks : (s i : ℕ) (a b : Option (PartView L D C)) (xs ys : List Event) → IsGoing s a b xs ys → LacksReply s i a b xs ys
  going_lacks s i a b xs ys f = record { root = f.root; quiet = λ root h first found k ne. f.quiet root h first found k }

  -- visits that answer nothing, and then one that meets want of memory
  pub lacks_after : (s t i : ℕ) (a b c : Option (PartView L D C)) (xs ys zs : List Event) → t ≡ s → IsGoing s a b xs ys → LacksReply t i b c ys zs → LacksReply s i a c xs zs
  lacks_after s t i a b c xs ys zs e f g = record {
    root = λ root h. g.root root (f.root root h);
    quiet = λ root h first found k ne. (subst (λ n. IsQuietBut root n i ys zs) e (g.quiet root (f.root root h))) first found k ne ∙ f.quiet root h first found k;
  }

  -- a scan whose line stands, with no rows to show
  pub snapped_lacks : (s t i : ℕ) (a b c : Option (PartView L D C)) (xs ys zs : List Event) (snap : TabletSnap) → t ≡ s → IsGoing s a b xs ys → SameRoot b c → HasSnapped b ys zs t i snap → LacksReply s i a c xs zs
  snapped_lacks s t i a b c xs ys zs snap e f same h =
      lacks_after s t i a b c xs ys zs e f (record { root = same; quiet = λ root r. rows_quiet root t i snap.t ys zs (h.answers root r) })

  -- the rows that it shows are its answer
  pub snapped_answers : (s t i : ℕ) (a b : Option (PartView L D C)) (xs ys zs : List Event) (snap : TabletSnap) (columns : List Column) (scan : Scan) (listed : List (List Cell)) → t ≡ s → IsGoing s a b xs ys → HasSnapped b ys zs t i snap
      → IsCommand a s i (command.Scan scan) → OnRoot a (λ root. IsOn columns root.work) → ((rows : Rows) → AreRowsOf (snap_row snap) rows → listed ≡ shown (keys_of columns) scan rows)
      → OnRoot a (λ root. AnswersOne root s i (reply.Rows snap.t listed) xs zs)
  snapped_answers s t i a b xs ys zs snap columns scan listed e f h its on lists root r first found k =
      let answers = subst (λ n. AnswersRows root n i snap.t ys zs) e (h.answers root (f.root root r)) in
      let rows = rows_at (past_by root first zs) snap.t in
      let are : AreRowsOf (snap_row snap) rows = h.shows root (f.root root r) first found in
      then_rows root s i snap.t xs ys zs (f.quiet root r) answers first found k
      ∙ ap (λ (c : Option Command). or_else (told_by root first xs s k) (cond (k == i) (Some (reply.Rows snap.t (shown_by root.work.keys c (rows_at (past_by root first zs) snap.t)))) None)) (its root r)
      ∙ ap (λ (w : Workload). or_else (told_by root first xs s k) (cond (k == i) (Some (reply.Rows snap.t (shown w.keys scan (rows_at (past_by root first zs) snap.t)))) None)) (on root r)
      ∙ ap (λ l. or_else (told_by root first xs s k) (cond (k == i) (Some (reply.Rows snap.t l)) None))
      (sym (lists rows are))

-- ---- the session of a scan

module _ {L D C : Type 0} where
  -- a session whose next command has met want of memory
  pub lacks_tells : (s i : ℕ) (rs new : List Reply) (xs ys : List Event) (a b : Option (PartView L D C)) → new ≡ rs → i ≡ length rs + 1 → OnRoot a (λ root. TellsOwn root s rs xs) → LacksReply s i a b xs ys → OnRoot a (λ root. TellsBut root s new ys)
  lacks_tells s i rs new xs ys a b e at tells lacks root h =
      let same : TellsBut root s rs ys = λ first found k ne. lacks.quiet root h first found k (λ here. ne (here ∙ at)) ∙ tells root h first found k in
      subst (λ l. TellsBut root s l ys) (sym e) same

  -- what is told of the root later was told before, with the pass's number
  pub but_before : (s t : ℕ) (rs new : List Reply) (xs : List Event) (a b : Option (PartView L D C)) → t ≡ s → new ≡ rs → SameRoot a b → OnRoot b (λ root. TellsBut root t rs xs) → OnRoot a (λ root. TellsBut root s new xs)
  but_before s t rs new xs a b e f same h root old = subst (λ l. TellsBut root s l xs) (sym f) (subst (λ k. TellsBut root k rs xs) e (h root (same root old)))
