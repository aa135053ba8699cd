-- A run that has ended is what was printed of it, and what a crash leaves.
use Rattle.std.proofs.Common.{◌≡◌, ℕ, zero, suc, ◌+◌, ◌<◌, ◌≤◌, ◌^◌, max, List, [], ◌∷◌, Option, Some, None, Result, Ok, Bool, true, false, cond, refl, sym, ap, ◌∙◌, subst, arith, length, inl, inr}
use Rattle.std.specs.Prelude.{slice_get, All, IsTrue, IfSome, is_some, unwrap_or}
use Rattle.kt_base.specs.Causes.{Grows}
use Rattle.std.specs.List.{AllByRecursion}
use Rattle.kt_disk.specs.Disk.{Files}
use Rattle.kt_schema.specs.declared.column.Column.{Column}
use Rattle.kt_schema.specs.Columns.{fill_of}
use Rattle.kt_history.specs.declared.command.Command.{Command}
use Rattle.kt_history.specs.declared.event.Event.{Event}
use Rattle.kt_history.specs.declared.event.Event.TheVariants as event
use Rattle.kt_history.specs.declared.reply.Reply.{Reply}
use Rattle.kt_history.specs.declared.reply.Reply.TheVariants as reply
use Rattle.kt_history.specs.Rows.{Row, Rows}
use Rattle.kt_history.specs.History.{Past, raise, rows_at}
use Rattle.kt_history.specs.Machine.{Workload, State, IsRun, start, after, state_after, readings_of, nth, command_of, command_at}
use Rattle.kt_history.specs.Replies.{answer, answers, told, reply_of, past_after, all_replies}
use Rattle.kt_history.proofs.Runs.{answer_is_told}
use Rattle.kt_script.specs.declared.lists.ShownReply.{ShownReply}
use Rattle.kt_script.specs.declared.output.LastLine.{LastLine}
use Rattle.kt_script.specs.Scripts.{Said, workload}
use Rattle.kt_script.specs.Texts.{output_text}
use Rattle.kt_script.specs.Laws.{OutputFits}
use Rattle.kt_script.specs.Loads.{load_plan, IsLoad}
use Rattle.kt_loadlaws.specs.Summary.{summary, summary_text, counts_in, load_work, AllAnswered, a_load_has_one_summary}
use Rattle.kt_records.specs.declared.entry.Entry.{Entry}
use Rattle.kt_journal.specs.Log.{log_of, IsLog, CanOpen}
use Rattle.kt_journal.specs.Open.{JournalView}
use Rattle.kt_histlaws.specs.Core.{Core, Stands, run_past}
use Rattle.kt_content.specs.Rules.{Rules}
use Rattle.kt_content.specs.Content.{IsContent as HoldsPast}
use Rattle.kt_loglaws.specs.Replay.{last_of}
use Rattle.kt_reopen.specs.Both.{super_in}
use Rattle.kt_reopen.specs.Holding.{HoldBoth}
use Rattle.kt_reopen.specs.Opened.{OneRose}
use Rattle.kt_reopen.proofs.BothRead.{pair_holds}
use Rattle.kt_tablet.specs.Views.{IsSound, Opens, work_of}
use Rattle.kt_engine.specs.Logged.{PlanPasses, HoldsRecords}
use Rattle.kt_engine.specs.Near.{IsUpTo, IsBelow}
use Rattle.kt_engine.specs.Engines.{EngineView, IsFound, KeepsOthers, IsHome, core_from, LeavesRecords}
use Rattle.kt_engine.specs.Stored.{IsStored, RecoversBoth, IsMarkOf, AreMarked, HasFailed}
use Rattle.kt_storeside.specs.Sides.{SpellMade}
use Rattle.kt_engine.specs.Pairs.{AreHome, RecoversAllOfBoth, LeavesPublished}
use Rattle.kt_loglaws.specs.Fronts.{upto}
use Rattle.kt_app.specs.Headline.{IsOutput, IsPrinted, IsAnswered, AreAnswered, load_text, shown_from, all_shown, replies_in, end_line, end_of}
use Rattle.kt_app.specs.Images.{Image, CrashLeaves, Both, SpellNear}
use Rattle.kt_app.specs.Crash.{RanBy, KeptBy, HoldsPrefix, HoldsAll, HasSuper}
use Rattle.kt_app.proofs.Reopening.{has_content}
use Rattle.kt_app.specs.Session.{on_table}
use Rattle.kt_app.specs.Loaded.{IsLoadAt, IsText}
use Rattle.kt_app.specs.declared.load.Load.{Load}
use Rattle.kt_app.proofs.Calm.{none_flies, none_aloft}
use Rattle.kt_app.proofs.Loads.{has_reply, all_are}
use Rattle.kt_app.proofs.RunLaws.{kept_by, ran_by, rose_as}
use Rattle.kt_engine.specs.Visits.{Root, root_of}
use Rattle.kt_serve.specs.Scans.{IsOn}
use Rattle.kt_app.specs.Played.{IsFresh, HeldBy, KeptOn, RanOn, HasPlayed, given, reply_in, end_of_run}

-- ---- each reply that a line gives is an answer

by_answer : (a r : Reply) → Some a ≡ Some r → IsAnswered a → IsAnswered r
by_answer a r h its = let is : a ≡ r = cc in subst IsAnswered is its

line_answers : (work : Workload) (past : Past) (e : Event) (r : Reply) → reply_of work past e ≡ Some r → IsAnswered r
line_answers work past (event.Begin s i ts m) r h = absurd cc
line_answers work past (event.End s i ts) r h = by_answer _ r h tt
line_answers work past (event.Look s i t m) r h = absurd cc
line_answers work past (event.Rows s i t) r h = by_answer _ r h tt
line_answers work past (event.Ancient s i t a) r h = by_answer _ r h tt
line_answers work past (event.Busy s i t f) r h = by_answer _ r h tt
line_answers work past (event.Mark s i a) r h = by_answer _ r h tt
line_answers work past (event.Chore s i) r h = by_answer _ r h tt
line_answers work past (event.Large s i n) r h = by_answer _ r h tt
line_answers work past event.Stop r h = absurd cc

told_answers : (work : Workload) (st : State) (events : List Event) (j k : ℕ) (r : Reply) → told work st events j k ≡ Some r → IsAnswered r
told_answers work st [] j k r h = absurd cc
told_answers work st (e ∷ events) j k r h =
    elim (answers j k e) as (λ b. cond b (reply_of work st.past e) (told work (after work st e) events j k) ≡ Some r → IsAnswered r) [
      | true ↦ λ its. line_answers work st.past e r its
      | false ↦ λ later. told_answers work (after work st e) events j k r later
    ] h

-- a command has an answer
record HasAnswer (o : Option Reply) : Type 0 where
  reply : Reply
  is : o ≡ Some reply
  answered : IsAnswered reply

shown_answered : (work : Workload) (f : ℕ → Option Reply) (i : ℕ) (commands : List Command) → ((k : ℕ) → k < length commands → HasAnswer (f (i + k))) → AllByRecursion (λ (r : ShownReply). IsAnswered r.reply) (shown_from work f i commands)
shown_answered work f i [] h = tt
shown_answered work f i (c ∷ commands) h =
    let here : i + 0 ≡ i = omega arith in
    let first = subst (λ n. HasAnswer (f n)) here (h 0 (omega arith)) in (
      subst (λ o. IsAnswered (unwrap_or o reply.Stopped)) (sym first.is) first.answered,
      shown_answered work f (i + 1) commands (λ k less. let next : i + suc k ≡ (i + 1) + k = omega arith in subst (λ n. HasAnswer (f n)) next (h (suc k) (omega (arith, less)))),
    )

all_answered : (work : Workload) (f : ℕ → ℕ → Option Reply) (s : ℕ) (plan : List (List Command)) → ((j : ℕ) (commands : List Command) → slice_get plan j ≡ Some commands → (k : ℕ) → k < length commands → HasAnswer (f (s + j) (1 + k))) → AreAnswered (all_shown work f s plan)
all_answered work f s [] h = tt
all_answered work f s (commands ∷ plan) h =
    let here : s + 0 ≡ s = omega arith in (
      shown_answered work (f s) 1 commands (λ k less. subst (λ n. HasAnswer (f n (1 + k))) here (h 0 commands refl k less)),
      all_answered work f (s + 1) plan (λ j cs is k less. let next : s + suc j ≡ (s + 1) + j = omega arith in subst (λ n. HasAnswer (f n (1 + k))) next (h (suc j) cs is k less)),
    )

has_one : {A : Type 0} (xs : List A) (k : ℕ) → k < length xs → (x : A) × (slice_get xs k ≡ Some x)
has_one [] k less = absurd (omega arith)
has_one (x ∷ xs) zero less = (x, refl)
has_one (x ∷ xs) (suc k) less = has_one xs k (omega arith)

-- ---- both devices

two_logs : {E : Type 0} (r : Result (List Entry) E) (a b : List Entry) → r ≡ Ok a → r ≡ Ok b → a ≡ b
two_logs r a b e f = cc

-- What an engine keeps of its run, whatever was printed of it.
module _ {L D C : Type 0} (readings : C → Option (List ℕ)) (tells : Bool) (now : L → ℕ) (leaves : L → ℕ → Files → Type 0) (tells' : Bool) (now' : D → ℕ) (leaves' : D → ℕ → Files → Type 0) (view : EngineView L D C) (columns : List Column) (first : Past)
    (opens : IsFound view first) (sound : IsSound readings view.tablet) (log : L) (store : D) (home : AreHome view log store) where
  abbrev its_work : Workload
  its_work = view.tablet.core.work

  abbrev its_lines : List Event
  its_lines = view.tablet.core.trail

  abbrev left_of_both : Image → Type 0
  left_of_both = Both (CrashLeaves tells now leaves log) (CrashLeaves tells' now' leaves' store)

  prefix : RecoversBoth tells now leaves tells' now' leaves' view → AreMarked view → its_work.fill ≡ fill_of columns → (rules : Rules) → HeldBy view columns its_work first rules → (image : Image) → left_of_both image
      → HoldsPrefix rules columns its_work first view.tablet.core.opened its_lines image
  prefix recover marks fill rules held image left =
      let log_left = subst (λ d. leaves d (now d) image.log) home.log_is left.0.1 in
      let h = recover rules first held.content held.plan left.0.0 left.1.0 home.journal home.log_home store home.store_home image.log image.store log_left left.1.1 in
      let super = super_in h.meta h.held in
      let last = max super.c (last_of h.front.records) in
      let past = raise (upto h.front.t (run_past (core_from view first))) super.a in
      let both = pair_holds rules columns image.log image.store h.meta h.held h.front.records last past h.superblock h.front.reads h.hold (marks.table h.meta h.one ∙ held.table)
      (subst (λ (f : Row). HoldsPast rules f super h.front.records last past) fill h.front.holds) in
      record {
        t = h.front.t;
        after_opening = h.front.after_opening;
        acknowledged = h.front.acknowledged;
        mark = super.a;
        marked = subst (λ m. IsMarkOf m its_lines super.a) (sym opens.mark_is) (marks.mark h.meta h.one);
        last = last;
        since = h.front.since;
        within = omega (arith, ap (λ (st : State). st.c) (sound.stands first opens).run.state, h.front.within, marks.last h.meta h.one);
        holds = has_content rules columns image last past (λ records reads. let same : records ≡ h.front.records = two_logs (log_of image.log) records h.front.records reads h.front.reads in subst IsLog (sym same) h.front.log) both;
      }

  pub kept_here : (clock ticked : C) → view.tablet.opened ≡ clock → ticked ≡ view.tablet.clock → RecoversBoth tells now leaves tells' now' leaves' view → AreMarked view → its_work.fill ≡ fill_of columns
      → KeptBy (Grows (readings clock) (readings ticked)) (HeldBy view columns its_work first) columns left_of_both its_work first view.tablet.core.opened its_lines
  kept_here clock ticked began ticked_is recover marks fill = record {
    run = (sound.stands first opens).run.is_run;
    clock = subst (λ x. Grows (readings clock) (readings x) (readings_of its_lines)) (sym ticked_is) (subst (λ x. Grows (readings x) (readings view.tablet.clock) (readings_of its_lines)) began sound.clock);
    crash = λ rules held image left. prefix recover marks fill rules held image left;
  }

module _ {L D C : Type 0} (readings : C → Option (List ℕ)) (tells : Bool) (now : L → ℕ) (leaves : L → ℕ → Files → Type 0) (tells' : Bool) (seen' : D → Files) (now' : D → ℕ) (leaves' : D → ℕ → Files → Type 0) (view : EngineView L D C) (columns : List Column) (plan : List (List Command))
    (stopped : Bool) (replies : List (List Reply)) (first : Past) (on : IsOn columns view.tablet.core.work) (plan_is : view.tablet.core.work.plan ≡ plan) (opens : IsFound view first) (sound : IsSound readings view.tablet) (played : HasPlayed view plan stopped replies) where
  abbrev core : Core
  core = core_from view first

  abbrev work : Workload
  work = view.tablet.core.work

  abbrev events : List Event
  events = view.tablet.core.trail

  abbrev c : ℕ
  c = view.tablet.core.opened

  stands : Stands core
  stands = sound.stands first opens

  answers_are : (j k : ℕ) → answer work (past_after work first c events) events j k ≡ given replies j k
  answers_are j k = answer_is_told work (start work first c) events j k refl stands.run.is_run ∙ played.tells first opens j k

  abbrev printed : List (List ShownReply)
  printed = all_shown (on_table columns) (given replies) 1 plan

  replies_are : replies_in work first c events ≡ printed
  replies_are =
      (λ t. all_shown work (λ j k. answers_are j k t) 1 work.plan)
      ∙ ap (λ w. all_shown w (given replies) 1 work.plan) on
      ∙ ap (λ p. all_shown (on_table columns) (given replies) 1 p) plan_is

  end_is : (a l rowsets : ℕ) → a ≡ view.tablet.core.a → l ≡ view.tablet.core.c → end_line rowsets (end_of work first c events) ≡ end_of_run stopped a l rowsets
  end_is a l rowsets a_is l_is = ap (λ (st : State). end_line rowsets st) stands.run.state ∙ (λ t. end_of_run (played.ended t) (sym a_is t) (sym l_is t) rowsets)

  each_answered : stopped ≡ false → AreAnswered printed
  each_answered going = all_answered (on_table columns) (given replies) 1 plan (λ j commands is k less.
      let mine = played.all going j commands is in
      let one = has_one mine.0 k (omega (arith, less, mine.2)) in
      let at_j : 1 + j ≡ suc j = omega arith in
      let at_k : 1 + k ≡ suc k = omega arith in
      let its : given replies (1 + j) (1 + k) ≡ Some one.0 =
      ap (λ n. given replies n (1 + k)) at_j ∙ ap (λ o. reply_in o (1 + k)) mine.1 ∙ ap (nth mine.0) at_k ∙ one.1 in
      record { reply = one.0; is = its; answered = told_answers work (start work first c) events (1 + j) (1 + k) one.0 (played.tells first opens (1 + j) (1 + k) ∙ its) })

  pub output : (a l rowsets : ℕ) (text : List ℕ) → a ≡ view.tablet.core.a → l ≡ view.tablet.core.c → OutputFits printed events (end_of_run stopped a l rowsets) → text ≡ output_text printed events (end_of_run stopped a l rowsets)
      → IsOutput work first c stopped rowsets text (readings_of events) events
  output a l rowsets text a_is l_is fits text_is = record {
    run = stands.run.is_run;
    clock = refl;
    fits =
        let with_end = subst (λ (x : LastLine). OutputFits printed events x) (sym (end_is a l rowsets a_is l_is)) fits in
        subst (λ (x : List (List ShownReply)). OutputFits x events (end_line rowsets (end_of work first c events))) (sym replies_are) with_end;
    ended = ap (λ (st : State). st.stopped) stands.run.state ∙ played.ended;
    stop = played.last;
    answered = λ going. subst AreAnswered (sym replies_are) (each_answered going);
    printed = text_is ∙ (λ t. output_text (sym replies_are t) events (sym (end_is a l rowsets a_is l_is) t));
  }

  -- ---- of a load

  told_reply : (s i : ℕ) → is_some (command_at work s i) ≡ true → stopped ≡ false → is_some (given replies s i) ≡ true
  told_reply s i there going = has_reply plan replies (played.all going) s i (sym (ap (λ p. is_some (command_of (nth p s) i)) plan_is) ∙ there)

  -- no write flies
  calm : stopped ≡ false → view.tablet.core.aloft ≡ []
  calm going =
      let none = none_flies work first c events stands.run.is_run (λ s i there. ap is_some (played.tells first opens s i) ∙ told_reply s i there going) in
      none_aloft view.tablet.core.aloft (sym (ap (λ (st : State). st.flying) stands.run.state) ∙ none)

  module _ (law : a_load_has_one_summary) (n : ℕ) (load : IsLoad columns plan n) (room : 1024 ≤ work.cells) (going : stopped ≡ false) where
    work_is_load : work ≡ load_work work.cells n
    work_is_load =
        on
        ∙ ap (λ (p : List (List Command)). work_of columns p work.cells (fill_of columns)) (plan_is ∙ load.plan_is)
        ∙ ap (λ (cs : List Column). work_of cs (load_plan n) work.cells (fill_of cs)) load.table

    abbrev comes_to : Workload → Type 0
    comes_to w = (rows_at (past_after w first c events) (state_after w (start w first c) events).c ≡ (summary n (rows_at first c)).rows)
        × (counts_in (all_replies (answer w (past_after w first c events) events) 1 (load_plan n)) ≡ (summary n (rows_at first c)).counts)

    its_summary : comes_to work
    its_summary =
        let is_run : IsRun (load_work work.cells n) first c events = subst (λ (w : Workload). IsRun w first c events) work_is_load stands.run.is_run in
        let answered : AllAnswered work first c events = λ s i there. ap is_some (answers_are s i) ∙ told_reply s i there going in
        subst comes_to (sym work_is_load) (law n work.cells first c events room opens.ends is_run (subst (λ (w : Workload). AllAnswered w first c events) work_is_load answered))

    its_counts : counts_in replies ≡ (summary n (rows_at first c)).counts
    its_counts =
        let told_are : all_replies (answer work (past_after work first c events) events) 1 plan ≡ replies =
        all_are (answer work (past_after work first c events) events) 1 plan replies played.count (played.all going) (λ j k. let at : 1 + j ≡ suc j = omega arith in ap (λ m. answer work (past_after work first c events) events m k) at ∙ answers_are (suc j) k) in
        ap counts_in (sym told_are) ∙ ap (λ (p : List (List Command)). counts_in (all_replies (answer work (past_after work first c events) events) 1 p)) load.plan_is ∙ its_summary.1

    rows_here : rows_at (run_past core) view.tablet.core.c ≡ (summary n (rows_at first c)).rows
    rows_here = ap (λ (st : State). rows_at (run_past core) st.c) (sym stands.run.state) ∙ its_summary.0

    folded_is : (rows : Rows) → rows ≡ (summary n (rows_at first c)).rows → record { rows = rows; counts = counts_in replies } ≡ summary n (rows_at first c)
    folded_is rows is = λ t. record { rows = is t; counts = its_counts t }

  -- what was printed of it, with a load or without one
  pub printed_as : a_load_has_one_summary → (load : Option ℕ) (l : Option Load) (a end rowsets : ℕ) (text : List ℕ) → IfSome load (λ n. IsLoad columns plan n × (1024 ≤ work.cells)) → IsLoadAt view load l → a ≡ view.tablet.core.a → end ≡ view.tablet.core.c
      → IsText columns plan l replies events stopped a end rowsets text → IsPrinted load work first c stopped rowsets text events
  printed_as law None l a end rowsets text its at a_is l_is text_is =
      let none = subst (λ (o : Option Load). IsText columns plan o replies events stopped a end rowsets text) at text_is in
      output a end rowsets text a_is l_is none.0 none.1
  printed_as law (Some n) None a end rowsets text its at a_is l_is text_is = absurd at
  printed_as law (Some n) (Some load) a end rowsets text its at a_is l_is text_is = record {
    run = stands.run.is_run;
    ended = ap (λ (st : State). st.stopped) stands.run.state ∙ played.ended;
    stop = played.last;
    answered = λ going. subst AreAnswered (sym replies_are) (each_answered going);
    rows = λ going. (its_summary law n its.0 its.1 going).0;
    printed = by stopped refl;
  }
    where
      by : (b : Bool) → stopped ≡ b → text ≡ load_text n (summary n (rows_at first c)) stopped
      by true is = text_is.0 is ∙ ap (λ x. load_text n (summary n (rows_at first c)) x) (sym is)
      by false is =
          let rows = rows_at (run_past core) view.tablet.core.c in
          text_is.1 is rows (at.1 (calm is) first opens)
          ∙ ap (λ k. summary_text k (record { rows = rows; counts = counts_in replies })) at.0
          ∙ ap (summary_text n) (folded_is law n its.0 its.1 is rows (rows_here law n its.0 its.1 is))
          ∙ ap (λ x. load_text n (summary n (rows_at first c)) x) (sym is)

  goes_on : stopped ≡ false → view.tablet.core.stopped ≡ false
  goes_on going = played.ended ∙ going

  last_is : (end_of work first c events).c ≡ view.tablet.core.c
  last_is = ap (λ (st : State). st.c) stands.run.state

  mark_is : (end_of work first c events).a ≡ view.tablet.core.a
  mark_is = ap (λ (st : State). st.a) stands.run.state

  module _ (log : L) (store : D) (home : AreHome view log store) where
    abbrev all_left : Image → Type 0
    all_left = Both (CrashLeaves tells now leaves log) (CrashLeaves tells' now' leaves' store)

    all_kept : stopped ≡ false → (IsTrue tells → IsTrue tells' → RecoversAllOfBoth now leaves now' leaves' view) → (rules : Rules) → HeldBy view columns work first rules → (image : Image) → all_left image
        → HoldsAll rules columns work first c events image
    all_kept going recover rules held image here =
        let published = played.published going in
        let h = recover here.0.0 here.1.0 rules first held.content held.plan (goes_on going) (played.empty going) published.0 published.1 log store home image.log image.store here.0.1 here.1.1 in
        let last = view.tablet.core.c in
        let past = raise (run_past core) view.tablet.core.a in
        let its : HoldBoth rules columns image.log image.store last past = pair_holds rules columns image.log image.store view.store.meta h.held h.records last past h.superblock h.reads h.hold held.table
        (subst (λ (f : Row). HoldsPast rules f (super_in view.store.meta h.held) h.records last past) (ap (λ (w : Workload). w.fill) on) h.holds) in
        has_content rules columns image (end_of work first c events).c (raise (run_past core) (end_of work first c events).a)
        (λ records reads. let same : records ≡ h.records = two_logs (log_of image.log) records h.records reads h.reads in subst IsLog (sym same) h.log)
        (subst (λ n. HoldBoth rules columns image.log image.store n (raise (run_past core) (end_of work first c events).a)) (sym last_is)
        (subst (λ a. HoldBoth rules columns image.log image.store view.tablet.core.c (raise (run_past core) a)) (sym mark_is) its))

    -- the superblock of each image is the one that is published
    super_left : stopped ≡ false → (IsTrue tells' → LeavesPublished seen' now' leaves' view) → (rowsets : ℕ) → rowsets ≡ length view.store.meta.rowsets → (image : Image) → all_left image
        → HasSuper (end_of work first c events).a (end_of work first c events).c rowsets image.store
    super_left going leaves_it rowsets rowsets_are image here =
        let published = played.published going in
        record {
          superblock = view.store.meta;
          is = (leaves_it here.1.0 (goes_on going) store home.store_home image.store here.1.1).superblock;
          mark = published.0 ∙ sym mark_is;
          last = published.1 ∙ sym last_is;
          count = sym rowsets_are;
        }

    pub ran_here : a_load_has_one_summary → (clock ticked : C) (load : Option ℕ) (left : Option Load) (a l rowsets : ℕ) (text : List ℕ) → IfSome load (λ n. IsLoad columns plan n × (1024 ≤ work.cells)) → IsLoadAt view load left → view.tablet.opened ≡ clock → ticked ≡ view.tablet.clock
        → RecoversBoth tells now leaves tells' now' leaves' view → AreMarked view → (IsTrue tells → IsTrue tells' → RecoversAllOfBoth now leaves now' leaves' view) → (IsTrue tells' → LeavesPublished seen' now' leaves' view)
        → a ≡ view.tablet.core.a → l ≡ view.tablet.core.c → rowsets ≡ length view.store.meta.rowsets → IsText columns plan left replies events stopped a l rowsets text
        → RanBy (Grows (readings clock) (readings ticked)) (HeldBy view columns work first) columns all_left work first c events load stopped rowsets text
    ran_here law clock ticked load left a l rowsets text its at began ticked_is front marks whole published a_is l_is rowsets_are text_is = record {
      kept = kept_here readings tells now leaves tells' now' leaves' view columns first opens sound log store home clock ticked began ticked_is front marks (ap (λ (w : Workload). w.fill) on);
      output = printed_as law load left a l rowsets text its at a_is l_is text_is;
      whole = λ going rules held image here. all_kept going whole rules held image here;
      superblock = λ going image here. super_left going published rowsets rowsets_are image here;
    }

-- the engine with another plan
abbrev pub with_plan : {L D C : Type 0} → EngineView L D C → List (List Command) → EngineView L D C
with_plan old plan = record old { tablet = record old.tablet { core = record old.tablet.core { work = record old.tablet.core.work { plan = plan } } } }

-- An engine in which nothing had happened, with a plan, and what it became.
module _ {L D C : Type 0} (old view : EngineView L D C) (columns : List Column) (plan : List (List Command)) (first : Past)
    (fresh : IsFresh old) (on : IsOn columns old.tablet.core.work) (root : root_of view ≡ root_of (with_plan old plan)) (opens : IsFound old first) where
  abbrev cells : ℕ
  cells = old.tablet.core.work.cells

  abbrev said : Said
  said = record { columns = columns; plan = plan }

  on_plan : record old.tablet.core.work { plan = plan } ≡ work_of columns plan cells (fill_of columns)
  on_plan = ap (λ (w : Workload). record w { plan = plan }) on

  on_view : IsOn columns view.tablet.core.work
  on_view = let P : Root L D C → Type 0 = λ r. IsOn columns r.work in subst P (sym root) on_plan

  found_view : IsFound view first
  found_view = let P : Root L D C → Type 0 = λ r. Opens r.opening r.mark r.opened first in subst P (sym root) opens

  -- what its log held by some rules it holds by them
  held_view : (rules : Rules) → HeldBy old columns (workload cells said) first rules → HeldBy view columns view.tablet.core.work first rules
  held_view rules held = record {
    plan =
        let P : Root L D C → Type 0 = λ r. PlanPasses rules r.work in
        subst P (sym root) (subst (PlanPasses rules) (sym on_plan) held.plan);
    table = ap (λ (r : Root L D C). r.columns) root ∙ held.table;
    content = record {
      closed = held.content.closed;
      opens = found_view;
      holds = let P : Root L D C → Type 0 = λ r. HoldsPast rules r.work.fill r.super r.records r.opened first in subst P (sym root) held.content.holds;
    };
  }

  clock_is : view.tablet.opened ≡ old.tablet.clock
  clock_is = ap (λ (r : Root L D C). r.began) root ∙ sym fresh.clock

  plan_is : view.tablet.core.work.plan ≡ plan
  plan_is = ap (λ (r : Root L D C). r.work.plan) root

  work_is : view.tablet.core.work ≡ workload cells said
  work_is = ap (λ (r : Root L D C). r.work) root ∙ on_plan

  opened_is : view.tablet.core.opened ≡ old.tablet.core.opened
  opened_is = ap (λ (r : Root L D C). r.opened) root

-- A run of a plan on it, and what a crash leaves.
module _ {L D C : Type 0} (readings : C → Option (List ℕ)) (tells : Bool) (now : L → ℕ) (leaves : L → ℕ → Files → Type 0) (tells' : Bool) (seen' : D → Files) (now' : D → ℕ) (leaves' : D → ℕ → Files → Type 0) (old view : EngineView L D C) (columns : List Column) (plan : List (List Command))
    (fresh : IsFresh old) (on : IsOn columns old.tablet.core.work) (root : root_of view ≡ root_of (with_plan old plan)) (sound : IsSound readings view.tablet) (log : L) (store : D) (home : AreHome view log store)
    (ticked : C) (ticked_is : ticked ≡ view.tablet.clock) (lines : List Event) (lines_are : lines ≡ view.tablet.core.trail) (recover : RecoversBoth tells now leaves tells' now' leaves' view) (marks : AreMarked view) where
  abbrev gave : List ℕ → Type 0
  gave = Grows (readings old.tablet.clock) (readings ticked)

  abbrev images : Image → Type 0
  images = Both (CrashLeaves tells now leaves log) (CrashLeaves tells' now' leaves' store)

  pub kept_of : KeptOn gave old columns plan images lines
  kept_of first opens =
      let held = HeldBy old columns (workload old.tablet.core.work.cells (record { columns = columns; plan = plan })) first in
      let here = kept_here readings tells now leaves tells' now' leaves' view columns first (found_view old view columns plan first fresh on root opens) sound log store home old.tablet.clock ticked (clock_is old view columns plan first fresh on root opens) ticked_is recover marks (ap (λ (w : Workload). w.fill) (on_view old view columns plan first fresh on root opens)) in
      let kept : KeptBy gave held columns images view.tablet.core.work first view.tablet.core.opened view.tablet.core.trail = kept_by (λ image left rules h. held_view old view columns plan first fresh on root opens rules h) here in
      subst (λ (w : Workload). KeptBy gave held columns images w first old.tablet.core.opened lines) (work_is old view columns plan first fresh on root opens)
      (subst (λ (n : ℕ). KeptBy gave held columns images view.tablet.core.work first n lines) (opened_is old view columns plan first fresh on root opens)
      (subst (KeptBy gave held columns images view.tablet.core.work first view.tablet.core.opened) (sym lines_are) kept))

  -- What was printed of it.
  module _ (stopped : Bool) (replies : List (List Reply)) (played : HasPlayed view plan stopped replies) (whole : IsTrue tells → IsTrue tells' → RecoversAllOfBoth now leaves now' leaves' view) (published : IsTrue tells' → LeavesPublished seen' now' leaves' view) where
    pub ran_of : a_load_has_one_summary → (load : Option ℕ) (left : Option Load) (a l rowsets : ℕ) (shown : List (List Command)) (text : List ℕ) → IfSome load (λ n. IsLoad columns plan n × (1024 ≤ old.tablet.core.work.cells)) → IsLoadAt view load left
        → a ≡ view.tablet.core.a → l ≡ view.tablet.core.c → rowsets ≡ length view.store.meta.rowsets → shown ≡ plan → IsText columns shown left replies lines stopped a l rowsets text
        → RanOn gave old columns plan images lines load stopped rowsets text
    ran_of law load left a l rowsets shown text its at a_is l_is rowsets_are shown_is text_is first opens =
        let here : (p : List (List Command)) (events : List Event) → Type 0 = λ p events. IsText columns p left replies events stopped a l rowsets text in
        let cells_are : view.tablet.core.work.cells ≡ old.tablet.core.work.cells = ap (λ (r : Root L D C). r.work.cells) root in
        let ran = ran_here readings tells now leaves tells' seen' now' leaves' view columns plan stopped replies first (on_view old view columns plan first fresh on root opens) (plan_is old view columns plan first fresh on root opens) (found_view old view columns plan first fresh on root opens) sound played
        log store home law old.tablet.clock ticked load left a l rowsets text (subst (λ (n : ℕ). IfSome load (λ k. IsLoad columns plan k × (1024 ≤ n))) (sym cells_are) its) at
        (clock_is old view columns plan first fresh on root opens) ticked_is recover marks whole published a_is l_is rowsets_are
        (subst (λ p. here p view.tablet.core.trail) shown_is (subst (λ events. here shown events) lines_are text_is)) in
        let held = HeldBy old columns (workload old.tablet.core.work.cells (record { columns = columns; plan = plan })) first in
        let its : RanBy gave held columns images view.tablet.core.work first view.tablet.core.opened view.tablet.core.trail load stopped rowsets text = ran_by (λ image left rules h. held_view old view columns plan first fresh on root opens rules h) ran in
        subst (λ (w : Workload). RanBy gave held columns images w first old.tablet.core.opened lines load stopped rowsets text) (work_is old view columns plan first fresh on root opens)
        (subst (λ (n : ℕ). RanBy gave held columns images view.tablet.core.work first n lines load stopped rowsets text) (opened_is old view columns plan first fresh on root opens)
        (subst (λ (es : List Event). RanBy gave held columns images view.tablet.core.work first view.tablet.core.opened es load stopped rowsets text) (sym lines_are) its))

-- The devices, as a run of a plan gives them back.
module _ {L D C : Type 0} {tells : Bool} {seen : L → Files} {now : L → ℕ} {leaves : L → ℕ → Files → Type 0} {faults : L → ℕ} (old view : EngineView L D C) (plan : List (List Command)) (log : L) (store : D) (root : root_of view ≡ root_of (with_plan old plan))
    (at_home : (journal : JournalView L) → view.log.home ≡ Some journal → IsHome tells seen now leaves faults view journal) (home : AreHome view log store) where
  device_is : view.device ≡ old.device
  device_is = ap (λ (r : Root L D C). r.device) root

  pub store_device_is : view.store_device ≡ old.store_device
  store_device_is = ap (λ (r : Root L D C). r.store) root

  pub opens_again : IsTrue tells → CanOpen now leaves log
  opens_again told = subst (CanOpen now leaves) (sym home.log_is) ((at_home home.journal home.log_home).opens told)

  pub keeps_others : IsTrue tells → KeepsOthers now leaves old.device log
  keeps_others told = subst (KeepsOthers now leaves old.device) (sym home.log_is) (subst (λ d. KeepsOthers now leaves d home.journal.disk) device_is ((at_home home.journal home.log_home).others told))

  pub names_more : LeavesRecords tells now leaves view → (files : Files) → CrashLeaves tells now leaves log files → (bound : ℕ) → 1 ≤ bound → old.first_rowset ≤ bound + 1 → All (IsUpTo (bound + 1)) old.found → HoldsRecords old.records (IsBelow (bound + 2 ^ 45)) files
  names_more front files left =
      let more = front left.0 home.journal home.log_home files (subst (λ d. leaves d (now d) files) home.log_is left.1) in
      subst (λ (r : Root L D C). (bound : ℕ) → 1 ≤ bound → r.first_rowset ≤ bound + 1 → All (IsUpTo (bound + 1)) r.found → HoldsRecords r.records (IsBelow (bound + 2 ^ 45)) files) root more

  -- what a slot spells it spelled before, or the run has made it
  pub spells_more : (tells' : Bool) (seen' : D → Files) (now' : D → ℕ) (leaves' : D → ℕ → Files → Type 0) {faults' : D → ℕ} → IsStored tells seen tells' seen' faults' view
      → (IsTrue tells' → (disk : D) → view.store.home ≡ Some disk → (image : Files) → leaves' disk (now' disk) image → SpellMade seen' view.store image)
      → (files : Files) → CrashLeaves tells' now' leaves' store files → SpellNear old.first_rowset old.first_file old.store.first.most (seen' old.store.first.device) files
  spells_more tells' seen' now' leaves' is made files left =
      let here = made left.0 store home.store_home files left.1 in
      let own : SpellNear view.first_rowset view.first_file view.store.first.most (seen' view.store.first.device) files = λ slot at m told. elim (here slot at m told) [
        | inl was ↦ inl was
        | inr new ↦ inr (record { rules = new.rules; within = new.within; rowsets = omega (arith, new.rowsets, is.near.rowsets); files = omega (arith, new.files, is.files_near) })
      ] in
      subst (λ (r : Root L D C). SpellNear r.first_rowset r.first_file r.first_store.most (seen' r.first_store.device) files) root own

  pub no_fault_less : faults old.device ≤ faults log
  no_fault_less = subst (λ d. faults old.device ≤ faults d) (sym home.log_is) (subst (λ d. faults d ≤ faults home.journal.disk) device_is (at_home home.journal home.log_home).later)

  -- a device that has failed has more faults than were handed in, and none has fewer
  pub some_failed : (faults' : D → ℕ) → HasFailed faults faults' view → IsTrue view.tablet.core.stopped → OneRose (faults old.device) (faults log) (faults' old.store_device) (faults' store)
  some_failed faults' failed stopped = rose_as faults faults' device_is store_device_is home.log_is refl (failed.one stopped home.journal home.log_home store home.store_home)

  pub store_no_less : (faults' : D → ℕ) → HasFailed faults faults' view → faults' old.store_device ≤ faults' store
  store_no_less faults' failed = subst (λ d. faults' d ≤ faults' store) store_device_is (failed.store store home.store_home)
