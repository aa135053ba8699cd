-- Each event keeps that the engine stands for a run.
use Rattle.std.proofs.Common.{◌≡◌, ℕ, ◌+◌, ◌-◌, ◌<◌, ◌≤◌, List, [], ◌∷◌, ◌++◌, Some, None, Option, refl, true, false, Bool, ◌||◌, cond, sym, ap, ◌∙◌, subst, arith, map, drop}
use Rattle.std.specs.Prelude.{◌==◌, ◌&&◌, not, max, min}
use Rattle.std.specs.List.{filter}
use Rattle.std.proofs.lemmas.List.{map-append}
use Rattle.kt_history.specs.declared.command.Command.{Command}
use Rattle.kt_history.specs.declared.command.Command.TheVariants as command
use Rattle.kt_history.specs.declared.event.Event.{Event}
use Rattle.kt_history.specs.declared.event.Event.TheVariants.{Begin, End, Look, Rows, Ancient, Busy, Mark, Chore, Large, Stop}
use Rattle.kt_history.specs.History.{IsPastUpTo, rows_at, with_write}
use Rattle.kt_history.specs.Operations.{changes_on}
use Rattle.kt_history.specs.Machine.{HasDifferentKeys, Allowed, MayBegin, after, start, state_after, IsRun, ops_of, command_at, set_nth, least, clean_below, IfMark, Turn, first_turns}
use Rattle.kt_history.proofs.Runs.{of_write, IsRunFrom-append, state_after-append, begins_above, c_rises}
use Rattle.kt_history.proofs.PastLaws.{ends_after}
use Rattle.kt_histlaws.specs.Histories.{Shows, hists, timeline}
use Rattle.kt_history.specs.Stores.{Steps}
use Rattle.kt_histlaws.specs.Pending.{Aloft, Same, done, has_key, is_pending}
use Rattle.kt_histlaws.specs.Flights.{AllFly, AreDisjoint, SharesNone}
use Rattle.kt_histlaws.specs.Core.{Core, flown_by, now, IsFlown, Stands}
use Rattle.kt_histlaws.specs.Events.{begun, looked, IsOver, ended, answered_rows, marked, answered, halted, next_turn}
use Rattle.kt_histlaws.specs.Fitting.{AreSound}
use Rattle.kt_histlaws.proofs.Fitting.{sound_raised}
use Rattle.kt_histlaws.proofs.Pending.{begin_keeps, shows_alike, timeline-done}
use Rattle.kt_histlaws.proofs.Applying.{pending_keeps, same_raised}
use Rattle.kt_histlaws.proofs.Flown.{covers_changes, fly_begun, none_shared, disjoint_push, fly_later, fly_filter, disjoint_filter, below_clean, clean_le, fly_marked}
use Rattle.kt_histlaws.proofs.NextRow.{skipped}

-- one line more
line_run : (core : Core) (s : Stands core) (e : Event) → Allowed core.work (now core s.past) e → IsRun core.work core.first core.opened (core.trail ++ e ∷ [])
line_run core s e h = IsRunFrom-append core.work (start core.work core.first core.opened) core.trail (e ∷ []) s.run.is_run (subst (λ st. Allowed core.work st e) (sym s.run.state) h, tt)

line_state : (core : Core) (s : Stands core) (e : Event) → state_after core.work (start core.work core.first core.opened) (core.trail ++ e ∷ []) ≡ after core.work (now core s.past) e
line_state core s e = state_after-append core.work (start core.work core.first core.opened) core.trail (e ∷ []) ∙ ap (λ st. after core.work st e) s.run.state

-- a write begins
pub begin_stands : (core : Core) (s i ts m : ℕ) (st : Stands core) → Allowed core.work (now core st.past) (Begin s i ts m) → Stands (begun core s i ts m (ops_of (command_at core.work s i)))
begin_stands core s i ts m st h = record {
  past = with_write st.past ts (changes_on core.work.fill (rows_at st.past (ts - 1)) (ops_of (command_at core.work s i)));
  run = record {
    is_run = line_run core st (Begin s i ts m) h;
    state = line_state core st (Begin s i ts m) ∙ ap (λ fs. record { past = with_write st.past ts (changes_on core.work.fill (rows_at st.past (ts - 1)) (ops_of (command_at core.work s i))); a = core.a; c = ts; flying = fs; turns = core.turns; stopped = core.stopped }) (sym flies);
  };
  stores = record {
    sound = st.stores.sound;
    same = begin_keeps core.stores core.aloft st.past core.a core.c s i ts (ops_of (command_at core.work s i)) (changes_on core.work.fill (rows_at st.past (ts - 1)) (ops_of (command_at core.work s i))) st.stores.same st.flown.ends.writes above (covers_changes core.work.fill (rows_at st.past (ts - 1)) (ops_of (command_at core.work s i)));
  };
  flown = subst (λ fs. IsFlown core.work.fill (record { past = with_write st.past ts (changes_on core.work.fill (rows_at st.past (ts - 1)) (ops_of (command_at core.work s i))); a = core.a; c = ts; flying = fs; turns = core.turns; stopped = core.stopped })) (sym flies) (record {
    ends = ends_after core.work (now core st.past) (Begin s i ts m) st.planned h st.flown.ends;
    fly = fly_begun core.work.fill st.past core.a core.c s i ts (ops_of (command_at core.work s i)) (map flown_by core.aloft) st.flown.fly st.flown.ends.writes (omega (arith, above, st.flown.marked)) above apart (st.planned s i);
    disjoint = disjoint_push (record { s = s; i = i; ts = ts; ops = (ops_of (command_at core.work s i)) }) (map flown_by core.aloft) st.flown.disjoint apart;
    marked = omega (arith, above, st.flown.marked);
  });
  planned = st.planned;
}
  where
    above : core.c < ts
    above = begins_above core.work (now core st.past) s i ts m h

    may : MayBegin core.work (now core st.past) (ops_of (command_at core.work s i)) ts m
    may = of_write (command_at core.work s i) (λ ops. MayBegin core.work (now core st.past) ops ts m) h.2

    apart : SharesNone (ops_of (command_at core.work s i)) (map flown_by core.aloft)
    apart = none_shared (ops_of (command_at core.work s i)) (map flown_by core.aloft) may.apart

    flies : map flown_by (core.aloft ++ record { s = s; i = i; ts = ts; ops = ops_of (command_at core.work s i); applied = 0 } ∷ []) ≡ map flown_by core.aloft ++ record { s = s; i = i; ts = ts; ops = ops_of (command_at core.work s i) } ∷ []
    flies = map-append flown_by core.aloft (record { s = s; i = i; ts = ts; ops = ops_of (command_at core.work s i); applied = 0 } ∷ [])

-- a scan draws its time
pub look_stands : (core : Core) (s i t m : ℕ) (st : Stands core) → Allowed core.work (now core st.past) (Look s i t m) → Stands (looked core s i t m)
look_stands core s i t m st h = record {
  past = st.past;
  run = record {
    is_run = line_run core st (Look s i t m) h;
    state = line_state core st (Look s i t m);
  };
  stores = record {
    same = st.stores.same;
    sound = st.stores.sound;
  };
  flown = record {
    ends = ends_after core.work (now core st.past) (Look s i t m) st.planned h st.flown.ends;
    fly = fly_later core.work.fill st.past core.a core.c t (map flown_by core.aloft) rises st.flown.fly;
    disjoint = st.flown.disjoint;
    marked = omega (arith, rises, st.flown.marked);
  };
  planned = st.planned;
}
  where
    rises : core.c ≤ t
    rises = c_rises core.work (now core st.past) (Look s i t m) h

-- a write ends
filter-flown : (p : ℕ → Bool) (aloft : List Aloft) → map flown_by (filter (λ w. p w.s) aloft) ≡ filter (λ w. p w.s) (map flown_by aloft)
filter-flown p [] = refl
filter-flown p (w ∷ aloft) = elim (p w.s) as (λ b. map flown_by (cond b (w ∷ filter (λ w. p w.s) aloft) (filter (λ w. p w.s) aloft)) ≡ cond b (flown_by w ∷ filter (λ w. p w.s) (map flown_by aloft)) (filter (λ w. p w.s) (map flown_by aloft))) [
  | true ↦ ap (λ r. flown_by w ∷ r) (filter-flown p aloft)
  | false ↦ filter-flown p aloft
]

pending_over : (s : ℕ) (aloft : List Aloft) → IsOver s aloft → (q : List ℕ) (t : ℕ) → is_pending (filter (λ w. not (w.s == s)) aloft) q t ≡ is_pending aloft q t
pending_over s [] over q t = refl
pending_over s (w ∷ aloft) over q t = elim (w.s == s) as (λ b. w.s == s ≡ b → is_pending (cond (not b) (w ∷ filter (λ v. not (v.s == s)) aloft) (filter (λ v. not (v.s == s)) aloft)) q t ≡ (((w.ts == t) && has_key q (drop w.applied w.ops)) || is_pending aloft q t)) [
  | true ↦ λ is. pending_over s aloft over.1 q t ∙ sym (ap (λ ops. ((w.ts == t) && has_key q ops) || is_pending aloft q t) (over.0 is) ∙ skipped (w.ts == t) (is_pending aloft q t))
  | false ↦ λ is. ap (λ r. ((w.ts == t) && has_key q (drop w.applied w.ops)) || r) (pending_over s aloft over.1 q t)
] refl

pub end_stands : (core : Core) (s i ts : ℕ) (st : Stands core) → Allowed core.work (now core st.past) (End s i ts) → IsOver s core.aloft → Stands (ended core s i ts)
end_stands core s i ts st h over = record {
  past = st.past;
  run = record {
    is_run = line_run core st (End s i ts) h;
    state = line_state core st (End s i ts) ∙ ap (λ fs. record { past = st.past; a = core.a; c = core.c; flying = fs; turns = set_nth core.turns s (record { next = i + 1; look = None }); stopped = core.stopped }) (sym (filter-flown (λ n. not (n == s)) core.aloft));
  };
  stores = record {
    sound = st.stores.sound;
    same = pending_keeps core.stores core.aloft (filter (λ w. not (w.s == s)) core.aloft) st.past core.a core.c st.stores.same st.flown.ends.writes (pending_over s core.aloft over);
  };
  flown = subst (λ fs. IsFlown core.work.fill (record { past = st.past; a = core.a; c = core.c; flying = fs; turns = set_nth core.turns s (record { next = i + 1; look = None }); stopped = core.stopped })) (sym (filter-flown (λ n. not (n == s)) core.aloft)) (record {
    ends = st.flown.ends;
    fly = fly_filter core.work.fill st.past core.a core.c (λ w. not (w.s == s)) (map flown_by core.aloft) st.flown.fly;
    disjoint = disjoint_filter (λ w. not (w.s == s)) (map flown_by core.aloft) st.flown.disjoint;
    marked = st.flown.marked;
  });
  planned = st.planned;
}

-- a scan is answered
pub rows_stands : (core : Core) (s i t : ℕ) (st : Stands core) → Allowed core.work (now core st.past) (Rows s i t) → Stands (answered_rows core s i t)
rows_stands core s i t st h = record {
  past = st.past;
  run = record {
    is_run = line_run core st (Rows s i t) h;
    state = line_state core st (Rows s i t);
  };
  stores = record {
    same = st.stores.same;
    sound = st.stores.sound;
  };
  flown = record {
    ends = ends_after core.work (now core st.past) (Rows s i t) st.planned h st.flown.ends;
    fly = fly_later core.work.fill st.past core.a core.c (max core.c t) (map flown_by core.aloft) (omega arith) st.flown.fly;
    disjoint = st.flown.disjoint;
    marked = omega (arith, st.flown.marked);
  };
  planned = st.planned;
}

-- the mark rises
if_mark : (o : Option Command) (P : ℕ → Type 0) → IfMark o P → (t : ℕ) × P t
if_mark (Some (command.Write w)) P h = absurd h
if_mark (Some (command.Scan scan)) P h = absurd h
if_mark (Some (command.Mark t)) P h = (t, h)
if_mark (Some (command.Chore chore)) P h = absurd h
if_mark None P h = absurd h

pub mark_stands : (core : Core) (s i a : ℕ) (st : Stands core) → Allowed core.work (now core st.past) (Mark s i a) → Stands (marked core s i a)
mark_stands core s i a st h =
    let m = if_mark (command_at core.work s i) (λ t. a ≡ max core.a (min t (clean_below (least (map flown_by core.aloft)) core.c))) h.2 in
    let low : min m.0 (clean_below (least (map flown_by core.aloft)) core.c) ≤ clean_below (least (map flown_by core.aloft)) core.c = omega arith in
    let top = clean_le core.a core.c core.work.fill st.past (map flown_by core.aloft) st.flown.fly in
    let up : core.a ≤ a = omega (arith, m.1) in
    record {
      past = st.past;
      run = record {
        is_run = line_run core st (Mark s i a) h;
        state = line_state core st (Mark s i a);
      };
      stores = record {
        same = same_raised core.stores core.aloft st.past core.a a st.stores.same up;
        sound = λ q. sound_raised core.a a (hists q core.stores) up (st.stores.sound q);
      };
      flown = record {
        ends = st.flown.ends;
        fly = subst (λ n. AllFly core.work.fill st.past n core.c (map flown_by core.aloft)) (sym m.1)
            (fly_marked core.work.fill st.past core.a (min m.0 (clean_below (least (map flown_by core.aloft)) core.c)) core.c (map flown_by core.aloft) st.flown.fly
            (below_clean core.a core.c core.work.fill st.past (map flown_by core.aloft) (min m.0 (clean_below (least (map flown_by core.aloft)) core.c)) st.flown.fly low));
        disjoint = st.flown.disjoint;
        marked = omega (arith, m.1, top, st.flown.marked);
      };
      planned = st.planned;
    }

-- lines that change a turn alone
pub line_stands : (core : Core) (e : Event) (turns : List Turn) (st : Stands core) → Allowed core.work (now core st.past) e
    → after core.work (now core st.past) e ≡ record { past = st.past; a = core.a; c = core.c; flying = map flown_by core.aloft; turns = turns; stopped = core.stopped }
    → Stands (record core { trail = core.trail ++ e ∷ []; turns = turns })
line_stands core e turns st h goes = record {
  past = st.past;
  run = record {
    is_run = line_run core st e h;
    state = line_state core st e ∙ goes;
  };
  stores = record {
    same = st.stores.same;
    sound = st.stores.sound;
  };
  flown = record { ends = st.flown.ends; fly = st.flown.fly; disjoint = st.flown.disjoint; marked = st.flown.marked };
  planned = st.planned;
}

pub ancient_stands : (core : Core) (s i t a : ℕ) (st : Stands core) → Allowed core.work (now core st.past) (Ancient s i t a) → Stands (answered core s i (Ancient s i t a))
ancient_stands core s i t a st h = line_stands core (Ancient s i t a) (next_turn core.turns s i) st h refl

pub busy_stands : (core : Core) (s i t f : ℕ) (st : Stands core) → Allowed core.work (now core st.past) (Busy s i t f) → Stands (answered core s i (Busy s i t f))
busy_stands core s i t f st h = line_stands core (Busy s i t f) (next_turn core.turns s i) st h refl

pub chore_stands : (core : Core) (s i : ℕ) (st : Stands core) → Allowed core.work (now core st.past) (Chore s i) → Stands (answered core s i (Chore s i))
chore_stands core s i st h = line_stands core (Chore s i) (next_turn core.turns s i) st h refl

pub large_stands : (core : Core) (s i n : ℕ) (st : Stands core) → Allowed core.work (now core st.past) (Large s i n) → Stands (answered core s i (Large s i n))
large_stands core s i n st h = line_stands core (Large s i n) (next_turn core.turns s i) st h refl

-- the stop
pub stop_stands : (core : Core) (st : Stands core) → Allowed core.work (now core st.past) Stop → Stands (halted core)
stop_stands core st h = record {
  past = st.past;
  run = record {
    is_run = line_run core st Stop h;
    state = line_state core st Stop;
  };
  stores = record {
    same = st.stores.same;
    sound = st.stores.sound;
  };
  flown = record { ends = st.flown.ends; fly = st.flown.fly; disjoint = st.flown.disjoint; marked = st.flown.marked };
  planned = st.planned;
}

-- the opening: nothing flies, and the stores show the first past
pub open_stands : (core : Core) → core.trail ≡ [] → core.aloft ≡ [] → core.a ≡ core.first.mark → core.c ≡ core.opened → core.stopped ≡ false → core.turns ≡ first_turns core.work.plan
    → IsPastUpTo core.opened core.first → Shows core.first.mark core.stores core.first → ((q : List ℕ) → AreSound core.first.mark (hists q core.stores)) → HasDifferentKeys core.work → Stands core
open_stands core trail aloft a c stopped turns ends shows sound planned = record {
  past = core.first;
  run = record {
    is_run = subst (IsRun core.work core.first core.opened) (sym trail) tt;
    state = ap (state_after core.work (start core.work core.first core.opened)) trail ∙ λ i. record { past = core.first; a = sym a i; c = sym c i; flying = map flown_by (sym aloft i); turns = sym turns i; stopped = sym stopped i };
  };
  stores = record {
    sound = λ q. subst (λ n. AreSound n (hists q core.stores)) (sym a) (sound q);
    same = subst (λ n. Same core.stores core.aloft core.first n) (sym a) (subst (λ fs. Same core.stores fs core.first core.first.mark) (sym aloft)
        (shows_alike core.first.mark core.stores core.first (done [] core.first) refl (λ q. sym (timeline-done q [] core.first.writes ∙ all_kept (timeline q core.first.writes))) shows));
  };
  flown = record {
    ends = subst (λ n. IsPastUpTo n core.first) (sym c) ends;
    fly = subst (λ fs. AllFly core.work.fill core.first core.a core.c (map flown_by fs)) (sym aloft) tt;
    disjoint = subst (λ fs. AreDisjoint (map flown_by fs)) (sym aloft) tt;
    marked = omega (arith, a, c, ends.mark);
  };
  planned = planned;
}
  where
    all_kept : (steps : Steps) → filter (λ x. not (is_pending [] [] x.0)) steps ≡ steps
    all_kept [] = refl
    all_kept (x ∷ steps) = ap (λ r. x ∷ r) (all_kept steps)
