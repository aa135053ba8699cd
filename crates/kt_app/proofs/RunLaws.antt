-- How a run ended is what its status says, and a run from what opening found is one over what both devices held.
use Rattle.std.proofs.Common.{◌≡◌, ℕ, Bool, List, Option, Err, inl, inr, sym, refl, subst, arith}
use Rattle.std.specs.Prelude.{IsTrue}
use Rattle.kt_base.specs.Causes.{Grows, Rose}
use Rattle.kt_disk.specs.Disk.{Files, LeavesOnly}
use Rattle.kt_journal.specs.Frames.{IsFrom}
use Rattle.kt_schema.specs.declared.column.Column.{Column}
use Rattle.kt_schema.specs.Columns.{fill_of}
use Rattle.kt_history.specs.declared.event.Event.{Event}
use Rattle.kt_history.specs.History.{Past}
use Rattle.kt_history.specs.declared.command.Command.{Command}
use Rattle.kt_history.specs.Machine.{Workload, command_at, ops_of}
use Rattle.kt_script.specs.Fit.{PlanFits}
use Rattle.kt_script.specs.Scripts.{workload}
use Rattle.kt_tablet.specs.Views.{work_of}
use Rattle.kt_content.specs.Rules.{Rules, AreRules, no_rules}
use Rattle.kt_content.proofs.Rules.{ops_pass_none}
use Rattle.kt_engine.specs.Engines.{EngineView, IsContent}
use Rattle.kt_reopen.specs.Both.{Answers}
use Rattle.kt_reopen.specs.Holding.{HoldBoth, KeepsContent, IsOfStore, AreAlikePairs}
use Rattle.kt_reopen.specs.Opened.{OneRose, first_meta}
use Rattle.kt_reopen.specs.declared.why.Why.{Why}
use Rattle.kt_app.specs.Images.{Image, CrashLeaves, IsRead, Both, KeepsFrames, KeepsSuper, LeavesAsBefore}
use Rattle.kt_app.specs.Crash.{OpensWith, Refuses, RanBy, Ran, RunsPlan, KeptBy, Kept}
use Rattle.kt_app.specs.Played.{HeldBy, KeptOn, RanOn}
use Rattle.kt_app.specs.Session.{IsCounted}
use Rattle.kt_app.specs.TableRules.{rules_of}
use Rattle.kt_app.proofs.TableRules.{takes_plan, closed}
use Rattle.kt_serve.specs.Scans.{IsOn}

pub ran_as : {gave : List ℕ → Type 0} {held : Rules → Type 0} {columns : List Column} {after : Image → Type 0} {work : Workload} {past : Past} {c : ℕ} {events : List Event} {load : Option ℕ} {b d : Bool} {rowsets : ℕ} {text : List ℕ} → b ≡ d
    → RanBy gave held columns after work past c events load b rowsets text → RanBy gave held columns after work past c events load d rowsets text
ran_as {gave = gave} {held = held} {columns = columns} {after = after} {work = work} {past = past} {c = c} {events = events} {load = load} {rowsets = rowsets} {text = text} e r = subst (λ (x : Bool). RanBy gave held columns after work past c events load x rowsets text) e r

pub ran_with : {gave : List ℕ → Type 0} {held : Rules → Type 0} {columns : List Column} {after : Image → Type 0} {work : Workload} {past : Past} {c : ℕ} {events : List Event} {load : Option ℕ} {b : Bool} {rowsets count : ℕ} {text : List ℕ} → rowsets ≡ count
    → RanBy gave held columns after work past c events load b rowsets text → RanBy gave held columns after work past c events load b count text
ran_with {gave = gave} {held = held} {columns = columns} {after = after} {work = work} {past = past} {c = c} {events = events} {load = load} {b = b} {text = text} e r = subst (λ (n : ℕ). RanBy gave held columns after work past c events load b n text) e r

-- by other rules, where each of them is one of the first
module _ {gave : List ℕ → Type 0} {held other : Rules → Type 0} {columns : List Column} {after : Image → Type 0} {work : Workload} {past : Past} {c : ℕ} {events : List Event} (f : (image : Image) → after image → (rules : Rules) → other rules → held rules) where
  pub kept_by : KeptBy gave held columns after work past c events → KeptBy gave other columns after work past c events
  kept_by k = record { run = k.run; clock = k.clock; crash = λ rules h image left. k.crash rules (f image left rules h) image left }

  pub ran_by : {load : Option ℕ} {stopped : Bool} {rowsets : ℕ} {text : List ℕ} → RanBy gave held columns after work past c events load stopped rowsets text → RanBy gave other columns after work past c events load stopped rowsets text
  ran_by r = record { kept = kept_by r.kept; output = r.output; whole = λ goes rules h image left. r.whole goes rules (f image left rules h) image left; superblock = r.superblock }

-- by the rules of the table where what was read holds the past by them, and by none whatever it holds
module _ {gave : List ℕ → Type 0} {held : Rules → Type 0} {columns : List Column} {found after : Image → Type 0} {work : Workload} {past : Past} {c : ℕ} {events : List Event}
    (any : held no_rules) (its : OpensWith (rules_of columns) columns found c past → held (rules_of columns)) where
  kept_from : KeptBy gave held columns after work past c events → Kept gave columns found after work past c events
  kept_from k = record {
    run = k.run;
    clock = k.clock;
    crash = λ image left. k.crash no_rules any image left;
    crash_by = λ opens image left. k.crash (rules_of columns) (its opens) image left;
  }

  ran_from : {load : Option ℕ} {stopped : Bool} {rowsets : ℕ} {text : List ℕ} → RanBy gave held columns after work past c events load stopped rowsets text → Ran gave columns found after work past c events load stopped rowsets text
  ran_from r = record {
    kept = kept_from r.kept;
    output = r.output;
    whole = λ goes image left. r.whole goes no_rules any image left;
    whole_by = λ goes opens image left. r.whole goes (rules_of columns) (its opens) image left;
    superblock = r.superblock;
  }

-- the reason for which both devices are refused is that of what was read
pub was_refused : {L D : Type 0} (tells : Bool) (seen : L → Files) (log : L) (tells' : Bool) (seen' : D → Files) (store : D) (columns : List Column) (why : Why)
    → (IsTrue tells → IsTrue tells' → Answers columns (seen log) (seen' store) (Err why)) → Refuses columns (Both (IsRead tells seen log) (IsRead tells' seen' store)) why
was_refused tells seen log tells' seen' store columns why refused image is =
    subst (λ l. Answers columns l image.store (Err why)) (sym is.0.1) (subst (λ s. Answers columns (seen log) s (Err why)) (sym is.1.1) (refused is.0.0 is.1.0))

-- devices that were let be hold what they held
same_pairs : (columns : List Column) (log store : Files) → AreAlikePairs columns log store log store
same_pairs columns log store = record { pasts = λ rules c past. ((λ h. h), (λ h. h)); answers = λ answer. ((λ h. h), (λ h. h)) }

module _ {L D : Type 0} (tells : Bool) (now : L → ℕ) (leaves : L → ℕ → Files → Type 0) (tells' : Bool) (now' : D → ℕ) (leaves' : D → ℕ → Files → Type 0) (columns : List Column) (log : L) (store : D) where
  -- what the images before a call and those after it have in common
  abbrev AsBefore : L → D → Type 0
  AsBefore logged stored = LeavesAsBefore columns (CrashLeaves tells now leaves log) (CrashLeaves tells now leaves logged) (CrashLeaves tells' now' leaves' store) (CrashLeaves tells' now' leaves' stored)

  unchanged : AsBefore log store
  unchanged = record {
    frames = λ files left. (files, left, refl, λ n apart. refl);
    superblock = λ files left. (files, left, record { superblock = inl refl; named = λ m is n has. refl });
    both = λ image left. (image, left, same_pairs columns image.log image.store);
  }

  pub let_be : (logged : L) (stored : D) → logged ≡ log → stored ≡ store → AsBefore logged stored
  let_be logged stored log_is store_is = subst (λ l. AsBefore l stored) (sym log_is) (subst (λ s. AsBefore log s) (sym store_is) unchanged)

  -- and so are those that each moment of a call leaves as they were
  frames_kept : (left : L) → (IsTrue tells → LeavesOnly now leaves (IsFrom now leaves 1 log) log left) → KeepsFrames (CrashLeaves tells now leaves log) (CrashLeaves tells now leaves left)
  frames_kept left only files here =
      let o = only here.0 in
      let was = o.each (now left) files o.later (omega arith) here.1 in
      (was.image, (here.0, was.was_left), was.frames, λ n apart. was.others n (apart, tt))

  super_kept : (left : D) → (IsTrue tells' → LeavesOnly now' leaves' (IsOfStore now' leaves' (first_meta columns) store) store left) → KeepsSuper columns (CrashLeaves tells' now' leaves' store) (CrashLeaves tells' now' leaves' left)
  super_kept left only files here =
      let o = only here.0 in
      let was = o.each (now' left) files o.later (omega arith) here.1 in
      (was.image, (here.0, was.was_left), record { superblock = was.super; named = was.named })

  pub as_before : (left logged : L) (kept stored : D) → (IsTrue tells → LeavesOnly now leaves (IsFrom now leaves 1 log) log left) → (IsTrue tells' → LeavesOnly now' leaves' (IsOfStore now' leaves' (first_meta columns) store) store kept)
      → (IsTrue tells → IsTrue tells' → KeepsContent now leaves now' leaves' columns log store left kept) → logged ≡ left → stored ≡ kept → AsBefore logged stored
  as_before left logged kept stored frames supers keeps log_is store_is =
      let here : AsBefore left kept = record {
        frames = frames_kept left frames;
        superblock = super_kept kept supers;
        both = λ image was.
            let l = frames was.0.0 in
            let s = supers was.1.0 in
            let old = keeps was.0.0 was.1.0 (now left) (now' kept) image.log image.store (record { since = l.later; until = omega arith; left = was.0.1 }) (record { since = s.later; until = omega arith; left = was.1.1 }) (inl refl) in
            (record { log = old.0; store = old.1 }, ((was.0.0, old.2), (was.1.0, old.3)), old.4);
      } in
      subst (λ l. AsBefore l stored) (sym log_is) (subst (λ s. AsBefore left s) (sym store_is) here)

-- a count that rose is that of the devices as they were handed in and as they come back
pub rose_as : {L D : Type 0} (faults : L → ℕ) (faults' : D → ℕ) {was log left logged : L} {had store kept stored : D} → was ≡ log → had ≡ store → logged ≡ left → stored ≡ kept
    → OneRose (faults was) (faults left) (faults' had) (faults' kept) → OneRose (faults log) (faults logged) (faults' store) (faults' stored)
rose_as faults faults' {was = was} {log = log} {left = left} {logged = logged} {had = had} {store = store} {kept = kept} {stored = stored} was_is had_is log_is store_is rose =
    subst (λ d. OneRose (faults log) (faults logged) (faults' store) (faults' d)) (sym store_is)
    (subst (λ l. OneRose (faults log) (faults l) (faults' store) (faults' kept)) (sym log_is)
    (subst (λ d. OneRose (faults log) (faults left) (faults' d) (faults' kept)) had_is
    (subst (λ l. OneRose (faults l) (faults left) (faults' had) (faults' kept)) was_is rose)))

-- none rose
pub neither_rose : (a b c d : ℕ) → ¬ Rose a b → ¬ Rose c d → OneRose a b c d → ⊥
neither_rose a b c d one other (inl rose) = one rose
neither_rose a b c d one other (inr rose) = other rose

-- a workload with no command yet is of the table
pub is_on : (columns : List Column) (work : Workload) (plan : List (List Command)) (cells : ℕ) → work ≡ work_of columns plan cells (fill_of columns) → IsOn columns work
is_on columns work plan cells e = subst (IsOn columns) (sym e) refl

-- A run from what opening found is one over what both devices held.
module _ {C L D : Type 0} (told : C → Option (List ℕ)) (tells : Bool) (seen : L → Files) (log : L) (tells' : Bool) (seen' : D → Files) (store : D) (view : EngineView L D C) (columns : List Column) (counted : IsCounted columns) (plan : List (List Command)) (fits : PlanFits columns plan) (events : List Event)
    (content : IsTrue tells → IsTrue tells' → (rules : Rules) (c : ℕ) (past : Past) → HoldBoth rules columns (seen log) (seen' store) c past → (c ≡ view.tablet.core.opened) × (view.store.meta.schema ≡ columns) × (AreRules rules → IsContent rules view past)) where
  abbrev found : Image → Type 0
  found = Both (IsRead tells seen log) (IsRead tells' seen' store)

  abbrev work : Workload
  work = workload view.tablet.core.work.cells (record { columns = columns; plan = plan })

  opened_with : (rules : Rules) (c : ℕ) (past : Past) → AreRules rules → OpensWith rules columns found c past → (c ≡ view.tablet.core.opened) × (view.store.meta.schema ≡ columns) × IsContent rules view past
  opened_with rules c past closed (image, read, holds) =
      let o = content read.0.0 read.1.0 rules c past (subst (λ l. HoldBoth rules columns l (seen' store) c past) read.0.1 (subst (λ s. HoldBoth rules columns image.log s c past) read.1.1 holds)) in
      (o.0, o.1, o.2 closed)

  -- what takes everything takes each row whatever is put over it
  none_closed : AreRules no_rules
  none_closed = record { changed = λ cells row part is. refl; part = λ under row is. refl }

  any : (c : ℕ) (past : Past) → OpensWith no_rules columns found c past → HeldBy view columns work past no_rules
  any c past opens = let o = opened_with no_rules c past none_closed opens in record { plan = λ s i. ops_pass_none work.fill (ops_of (command_at work s i)); table = o.1; content = o.2 }

  its : (c : ℕ) (past : Past) → OpensWith (rules_of columns) columns found c past → HeldBy view columns work past (rules_of columns)
  its c past opens = let o = opened_with (rules_of columns) c past (closed columns counted) opens in record { plan = takes_plan columns counted view.tablet.core.work.cells plan fits; table = o.1; content = o.2 }

  module _ (gave : List ℕ → Type 0) (after : Image → Type 0) where
    kept_at : KeptOn gave view columns plan after events → (past : Past) (c : ℕ) → OpensWith no_rules columns found c past → Kept gave columns found after work past c events
    kept_at kept past c opens =
        let o = opened_with no_rules c past none_closed opens in
        let here : KeptBy gave (HeldBy view columns work past) columns after work past c events = subst (λ (n : ℕ). KeptBy gave (HeldBy view columns work past) columns after work past n events) (sym o.0) (kept past o.2.opens) in
        kept_from (any c past opens) (its c past) here

    ran_at : (load : Option ℕ) (stopped : Bool) (rowsets : ℕ) (text : List ℕ) → RanOn gave view columns plan after events load stopped rowsets text → (past : Past) (c : ℕ) → OpensWith no_rules columns found c past
        → Ran gave columns found after work past c events load stopped rowsets text
    ran_at load stopped rowsets text ran past c opens =
        let o = opened_with no_rules c past none_closed opens in
        let here : RanBy gave (HeldBy view columns work past) columns after work past c events load stopped rowsets text =
        subst (λ (n : ℕ). RanBy gave (HeldBy view columns work past) columns after work past n events load stopped rowsets text) (sym o.0) (ran past o.2.opens) in
        ran_from (any c past opens) (its c past) here

  -- between the clock as it was handed in and as it comes back, and for devices that come back
  module _ (began clock got ticked : C) (left logged : L) (kept stored : D) (images : L → D → Image → Type 0) (cells : ℕ) (began_is : began ≡ clock) (got_is : got ≡ ticked) (log_is : logged ≡ left) (store_is : stored ≡ kept) (cells_are : view.tablet.core.work.cells ≡ cells) where
    abbrev runs : C → C → (Image → Type 0) → ℕ → Option ℕ → Bool → List ℕ → Type 0
    runs from to after n load stopped text = RunsPlan (Grows (told from) (told to)) columns found after (workload n (record { columns = columns; plan = plan })) load stopped text

    pub runs_over : (load : Option ℕ) (stopped : Bool) (rowsets : ℕ) (text : List ℕ) → RanOn (Grows (told began) (told got)) view columns plan (images left kept) events load stopped rowsets text → runs clock ticked (images logged stored) cells load stopped text
    runs_over load stopped rowsets text ran =
        let here : runs began got (images left kept) view.tablet.core.work.cells load stopped text = record { events = events; rowsets = rowsets; runs = ran_at (Grows (told began) (told got)) (images left kept) load stopped rowsets text ran } in
        subst (λ l. runs clock ticked (images l stored) cells load stopped text) (sym log_is)
        (subst (λ s. runs clock ticked (images left s) cells load stopped text) (sym store_is)
        (subst (λ n. runs clock ticked (images left kept) n load stopped text) cells_are
        (subst (λ x. runs clock x (images left kept) view.tablet.core.work.cells load stopped text) got_is
        (subst (λ x. runs x got (images left kept) view.tablet.core.work.cells load stopped text) began_is here))))

    abbrev keeps : C → C → (Image → Type 0) → ℕ → Type 0
    keeps from to after n = (past : Past) (c : ℕ) → OpensWith no_rules columns found c past → Kept (Grows (told from) (told to)) columns found after (workload n (record { columns = columns; plan = plan })) past c events

    -- and so is what is kept of it
    pub kept_over : KeptOn (Grows (told began) (told got)) view columns plan (images left kept) events → keeps clock ticked (images logged stored) cells
    kept_over kept_on =
        let here : keeps began got (images left kept) view.tablet.core.work.cells = kept_at (Grows (told began) (told got)) (images left kept) kept_on in
        subst (λ l. keeps clock ticked (images l stored) cells) (sym log_is)
        (subst (λ s. keeps clock ticked (images left s) cells) (sym store_is)
        (subst (λ n. keeps clock ticked (images left kept) n) cells_are
        (subst (λ x. keeps clock x (images left kept) view.tablet.core.work.cells) got_is
        (subst (λ x. keeps x got (images left kept) view.tablet.core.work.cells) began_is here))))
