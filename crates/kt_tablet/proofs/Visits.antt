-- What an event leaves is sound, as its goals say it.
use Rattle.std.proofs.Common.{◌≡◌, ℕ, suc, ◌+◌, ◌≤◌, List, [], ◌∷◌, ◌++◌, Some, None, Option, refl, true, false, Bool, sym, ap, ◌∙◌, subst, arith, map, length, drop}
use Rattle.std.specs.Prelude.{IsSome, is_some, max, min, ◌==◌, ◌&&◌, ◌||◌, not, cond}
use Rattle.std.specs.List.{filter, list_any}
use Rattle.std.proofs.lemmas.List.{append-nil}
use Rattle.kt_base.specs.Causes.{Grows}
use Rattle.kt_base.proofs.Grows.{grows_more, grows_none}
use Rattle.kt_history.specs.declared.command.Command.{Command}
use Rattle.kt_history.specs.Operations.{need}
use Rattle.kt_history.specs.declared.command.Command.TheVariants as command
use Rattle.kt_history.specs.declared.event.Event.{Event}
use Rattle.kt_history.specs.declared.event.Event.TheVariants.{Begin, End, Look, Rows, Ancient, Busy, Mark, Chore, Large, Stop}
use Rattle.kt_history.specs.Machine.{Turn, nth, set_nth, next_timestamp, readings_of, IfMark, command_at, least, clean_below, first_turns}
use Rattle.kt_history.specs.Rows.{Row}
use Rattle.kt_pool.specs.Contents.{Contents}
use Rattle.kt_records.specs.declared.entry.CommitRow.{CommitRow}
use Rattle.kt_histlaws.specs.Histories.{Shows, hists}
use Rattle.kt_histlaws.specs.Fitting.{AreSound}
use Rattle.kt_mvcc.specs.declared.flier.Flier.{Flier}
use Rattle.kt_mvcc.specs.Flying.{least_of}
use Rattle.kt_histlaws.specs.Core.{Core, Stands, flown_by}
use Rattle.kt_histlaws.specs.Events.{looked, marked, raised, answered, halted, ended, IsOver}
use Rattle.kt_histlaws.specs.Pending.{Aloft}
use Rattle.kt_histlaws.proofs.Events.{look_stands, mark_stands, open_stands, chore_stands, large_stands, stop_stands, end_stands}
use Rattle.kt_tablet.specs.declared.tablet.FlyingWrite.{FlyingWrite}
use Rattle.kt_tablet.specs.Plans.{PlanKeeps}
use Rattle.kt_tablet.specs.Views.{View, IsSound, IsReady, placed_of, aloft_of, flier_of, owed, AreProvided}
use Rattle.kt_tablet.specs.Visits.{MayLook, HasLooked, MayMark, HasMarked, MayAnswerChore, MayEnd, HasEnded, IsLarge, flight_of}
use Rattle.kt_tablet.proofs.Keeps.{keys_differ}
use Rattle.kt_tablet.proofs.Flights.{apart-filter}
use Rattle.std.proofs.lemmas.Bool.Decides.{nat_tests}

pub readings-append : (es fs : List Event) → readings_of (es ++ fs) ≡ readings_of es ++ readings_of fs
readings-append [] fs = refl
readings-append (Begin s i ts m ∷ es) fs = ap (λ r. m ∷ r) (readings-append es fs)
readings-append (End s i ts ∷ es) fs = readings-append es fs
readings-append (Look s i t m ∷ es) fs = ap (λ r. m ∷ r) (readings-append es fs)
readings-append (Rows s i t ∷ es) fs = readings-append es fs
readings-append (Ancient s i t a ∷ es) fs = readings-append es fs
readings-append (Busy s i t f ∷ es) fs = readings-append es fs
readings-append (Mark s i a ∷ es) fs = readings-append es fs
readings-append (Chore s i ∷ es) fs = readings-append es fs
readings-append (Large s i n ∷ es) fs = readings-append es fs
readings-append (Stop ∷ es) fs = readings-append es fs

-- one line more, after room was made
pub one_line : (new mid old : List Event) (e : Event) → new ≡ mid ++ e ∷ [] → mid ≡ old → new ≡ old ++ e ∷ []
one_line new mid old e h k = h ∙ ap (λ l. l ++ e ∷ []) k

-- what is told of the clock, after a line that shows these readings
pub told_line : {C : Type 0} (readings : C → Option (List ℕ)) (opened clock new : C) (old trail : List Event) (e : Event) → Grows (readings opened) (readings clock) (readings_of old)
    → Grows (readings clock) (readings new) (readings_of (e ∷ [])) → trail ≡ old ++ e ∷ [] → Grows (readings opened) (readings new) (readings_of trail)
told_line readings opened clock new old trail e sound more lines = subst (λ l. Grows (readings opened) (readings new) (readings_of l)) (sym lines)
    (subst (Grows (readings opened) (readings new)) (sym (readings-append old (e ∷ []))) (grows_more (readings opened) (readings clock) (readings new) (readings_of old) (readings_of (e ∷ [])) sound more))

-- a line that shows none
pub told_still : {C : Type 0} (readings : C → Option (List ℕ)) (opened clock : C) (old trail : List Event) (e : Event) → Grows (readings opened) (readings clock) (readings_of old)
    → readings_of (e ∷ []) ≡ [] → trail ≡ old ++ e ∷ [] → Grows (readings opened) (readings clock) (readings_of trail)
told_still readings opened clock old trail e sound none lines = subst (λ l. Grows (readings opened) (readings clock) (readings_of l)) (sym lines)
    (subst (Grows (readings opened) (readings clock)) (sym (readings-append old (e ∷ []) ∙ ap (λ r. readings_of old ++ r) none ∙ append-nil (readings_of old))) sound)

-- a session stands somewhere
pub has_turn : (turns : List Turn) (s : ℕ) (turn : Turn) → nth turns s ≡ Some turn → IsSome (nth turns s)
has_turn turns s turn h = ap is_some h

-- a fact of the old value is one of the opened fields
pub of_old : {C : Type 0} (P : Core → Type 0) (view old : View C) → view ≡ old → (old.core.stopped ≡ false → P old.core) → view.core.stopped ≡ false → P view.core
of_old P view old e h goes = subst (λ v. v.core.stopped ≡ false → P v.core) (sym e) h goes

-- what has been promised is still there, with a line more
pub ready_line : (fill : Row) (stopped : Bool) (flights : List FlyingWrite) (flying new : List Flier) (lines room more most : ℕ) (pool : Contents)
    → IsReady fill stopped flights flying lines room pool → new ≡ flying → more + length flights + 1 ≤ most → IsReady fill stopped flights new more most pool
ready_line fill stopped flights flying new lines room more most pool ready same fits = record { held = same ∙ ready.held; cells = ready.cells; provided = ready.provided; apart = ready.apart; end = λ goes. fits }

-- LOOK
new_looked : (core : Core) (s i t m : ℕ) (trail : List Event) (a c : ℕ) (turns : List Turn) → trail ≡ core.trail ++ Look s i t m ∷ [] → a ≡ core.a → c ≡ t → turns ≡ set_nth core.turns s (record { next = i; look = Some t })
    → record core { trail = trail; a = a; c = c; turns = turns } ≡ looked core s i t m
new_looked core s i t m trail a c turns lines stays last places = λ k. record core { trail = lines k; a = stays k; c = last k; turns = places k }

pub look_sound : {C : Type 0} (readings : C → Option (List ℕ)) (view : View C) (clock : C) (s i t m : ℕ) (trail : List Event) (a c : ℕ) (turns : List Turn)
    → IsSound readings view → view.core.stopped ≡ false → MayLook view.core s i → t ≡ next_timestamp view.core.c m → Grows (readings view.clock) (readings clock) (m ∷ [])
    → trail ≡ view.core.trail ++ Look s i t m ∷ [] → a ≡ view.core.a → c ≡ t → turns ≡ set_nth view.core.turns s (record { next = i; look = Some t })
    → IsSound readings (record view { core = record view.core { trail = trail; a = a; c = c; turns = turns }; clock = clock })
look_sound readings view clock s i t m trail a c turns sound goes may time more lines stays last places = record {
  stands = λ first told. subst Stands (sym (new_looked (record view.core { first = first }) s i t m trail a c turns lines stays last places))
      (look_stands (record view.core { first = first }) s i t m (sound.stands first told) (goes, record { next = may.at.next; rests = may.at.rests }, may.scan, time));
  clock = told_line readings view.opened view.clock clock view.core.trail trail (Look s i t m) sound.clock more lines;
  plan = sound.plan;
}

pub has_looked : {C : Type 0} (view old : View C) (s i t m : ℕ) (trail : List Event) (a c : ℕ) (turns : List Turn) → view ≡ old → t ≡ next_timestamp view.core.c m
    → trail ≡ view.core.trail ++ Look s i t m ∷ [] → a ≡ view.core.a → c ≡ t → turns ≡ set_nth view.core.turns s (record { next = i; look = Some t })
    → HasLooked old.core (record view.core { trail = trail; a = a; c = c; turns = turns }) s i t
has_looked view old s i t m trail a c turns e time lines stays last places =
    subst (λ v. HasLooked v.core (record view.core { trail = trail; a = a; c = c; turns = turns }) s i t) e (record { m = m; time = time; core = new_looked view.core s i t m trail a c turns lines stays last places })

-- MARK
-- the clock of writes has the least flying timestamp that the run has
pub least_alike : (flights : List FlyingWrite) → least_of (map flier_of flights) ≡ least (map flown_by (map aloft_of flights))
least_alike [] = refl
least_alike (w ∷ flights) = ap (λ o. Some (lesser o w.ts)) (least_alike flights)
  where
    lesser : Option ℕ → ℕ → ℕ
    lesser None n = n
    lesser (Some m) n = min m n

pub raised_is : (a c to value : ℕ) (flying : List Flier) (flights : List FlyingWrite) → flying ≡ map flier_of flights → value ≡ max a (min to (clean_below (least_of flying) c))
    → value ≡ max a (min to (clean_below (least (map flown_by (map aloft_of flights))) c))
raised_is a c to value flying flights held e = e ∙ ap (λ o. max a (min to (clean_below o c))) (ap least_of held ∙ least_alike flights)

if_mark : (o : Option Command) (to : ℕ) (P : ℕ → Type 0) → IfMark o (λ t. t ≡ to) → P to → IfMark o P
if_mark (Some (command.Write w)) to P h p = h
if_mark (Some (command.Scan scan)) to P h p = h
if_mark (Some (command.Mark t)) to P h p = subst P (sym h) p
if_mark (Some (command.Chore chore)) to P h p = h
if_mark None to P h p = h

new_marked : (core : Core) (s i value : ℕ) (trail : List Event) (a c : ℕ) (turns : List Turn) → trail ≡ core.trail ++ Mark s i value ∷ [] → a ≡ value → c ≡ core.c → turns ≡ set_nth core.turns s (record { next = i + 1; look = None })
    → record core { trail = trail; a = a; c = c; turns = turns } ≡ marked core s i value
new_marked core s i value trail a c turns lines up stays places = λ k. record core { trail = lines k; a = up k; c = stays k; turns = places k }

pub mark_sound : {C : Type 0} (readings : C → Option (List ℕ)) (view : View C) (s i to value : ℕ) (trail : List Event) (a c : ℕ) (turns : List Turn)
    → IsSound readings view → view.core.stopped ≡ false → MayMark view.core s i to → value ≡ raised view.core to
    → trail ≡ view.core.trail ++ Mark s i value ∷ [] → a ≡ value → c ≡ view.core.c → turns ≡ set_nth view.core.turns s (record { next = i + 1; look = None })
    → IsSound readings (record view { core = record view.core { trail = trail; a = a; c = c; turns = turns } })
mark_sound readings view s i to value trail a c turns sound goes may is lines up stays places = record {
  stands = λ first told. subst Stands (sym (new_marked (record view.core { first = first }) s i value trail a c turns lines up stays places))
      (mark_stands (record view.core { first = first }) s i value (sound.stands first told)
      (goes, record { next = may.at.next; rests = may.at.rests }, if_mark (command_at view.core.work s i) to (λ t. value ≡ max view.core.a (min t (clean_below (least (map flown_by view.core.aloft)) view.core.c))) may.command is));
  clock = told_still readings view.opened view.clock view.core.trail trail (Mark s i value) sound.clock refl lines;
  plan = sound.plan;
}

pub has_marked : {C : Type 0} (view old : View C) (s i to value : ℕ) (trail : List Event) (a c : ℕ) (turns : List Turn) → view ≡ old → value ≡ raised view.core to
    → trail ≡ view.core.trail ++ Mark s i value ∷ [] → a ≡ value → c ≡ view.core.c → turns ≡ set_nth view.core.turns s (record { next = i + 1; look = None })
    → HasMarked old.core (record view.core { trail = trail; a = a; c = c; turns = turns }) s i to value
has_marked view old s i to value trail a c turns e is lines up stays places =
    subst (λ v. HasMarked v.core (record view.core { trail = trail; a = a; c = c; turns = turns }) s i to value) e (record { value = is; core = new_marked view.core s i value trail a c turns lines up stays places })

-- OF
pub of_sound : {C : Type 0} (readings : C → Option (List ℕ)) (view : View C) → view.core.trail ≡ [] → view.core.aloft ≡ [] → view.core.a ≡ view.mark → view.core.c ≡ view.core.opened → view.core.stopped ≡ false
    → view.core.turns ≡ first_turns view.core.work.plan → view.opening ≡ view.core.stores → view.opened ≡ view.clock → PlanKeeps view.core.work → IsSound readings view
of_sound readings view lines flies a c goes turns same told keeps = record {
  stands = λ first o. open_stands (record view.core { first = first }) lines flies (a ∙ sym o.mark_is) c goes turns o.ends
      (subst (λ ss. Shows first.mark ss first) same o.shows) (λ q. subst (λ ss. AreSound first.mark (hists q ss)) same (o.sound q)) (keys_differ view.core.work keeps);
  clock = subst (λ l. Grows (readings view.opened) (readings view.clock) (readings_of l)) (sym lines) (subst (λ x. Grows (readings x) (readings view.clock) []) (sym told) (grows_none (readings view.clock)));
  plan = keeps;
}

pub ready_first : (fill : Row) (flights : List FlyingWrite) (flying : List Flier) (lines room : ℕ) (pool : Contents) → flights ≡ [] → flying ≡ [] → pool.reserved ≡ 0 → lines + 1 ≤ room → IsReady fill false flights flying lines room pool
ready_first fill flights flying lines room pool none rests unpromised fits = subst (λ fs. IsReady fill false fs flying lines room pool) (sym none) (record { held = rests; cells = unpromised; provided = tt; apart = tt; end = λ goes. omega (arith, fits) })

-- CHORE
pub new_answered : (core : Core) (s i : ℕ) (e : Event) (trail : List Event) (turns : List Turn) → trail ≡ core.trail ++ e ∷ [] → turns ≡ set_nth core.turns s (record { next = i + 1; look = None })
    → record core { trail = trail; turns = turns } ≡ answered core s i e
new_answered core s i e trail turns lines places = λ k. record core { trail = lines k; turns = places k }

pub chore_sound : {C : Type 0} (readings : C → Option (List ℕ)) (view : View C) (s i : ℕ) (trail : List Event) (turns : List Turn)
    → IsSound readings view → view.core.stopped ≡ false → MayAnswerChore view.core s i
    → trail ≡ view.core.trail ++ Chore s i ∷ [] → turns ≡ set_nth view.core.turns s (record { next = i + 1; look = None })
    → IsSound readings (record view { core = record view.core { trail = trail; turns = turns } })
chore_sound readings view s i trail turns sound goes may lines places = record {
  stands = λ first told. subst Stands (sym (new_answered (record view.core { first = first }) s i (Chore s i) trail turns lines places))
      (chore_stands (record view.core { first = first }) s i (sound.stands first told) (goes, record { next = may.at.next; rests = may.at.rests }, may.chore));
  clock = told_still readings view.opened view.clock view.core.trail trail (Chore s i) sound.clock refl lines;
  plan = sound.plan;
}

pub has_answered : {C : Type 0} (view old : View C) (s i : ℕ) (e : Event) (trail : List Event) (turns : List Turn) → view ≡ old
    → trail ≡ view.core.trail ++ e ∷ [] → turns ≡ set_nth view.core.turns s (record { next = i + 1; look = None })
    → record view.core { trail = trail; turns = turns } ≡ answered old.core s i e
has_answered view old s i e trail turns same lines places = new_answered view.core s i e trail turns lines places ∙ ap (λ v. answered v.core s i e) same

-- STOP
new_halted : (core : Core) (trail : List Event) → trail ≡ core.trail ++ Stop ∷ [] → record core { trail = trail; stopped = true } ≡ halted core
new_halted core trail lines = λ k. record core { trail = lines k; stopped = true }

pub stop_sound : {C : Type 0} (readings : C → Option (List ℕ)) (view : View C) (trail : List Event) → IsSound readings view → view.core.stopped ≡ false → trail ≡ view.core.trail ++ Stop ∷ []
    → IsSound readings (record view { core = record view.core { trail = trail; stopped = true } })
stop_sound readings view trail sound goes lines = record {
  stands = λ first told. subst Stands (sym (new_halted (record view.core { first = first }) trail lines)) (stop_stands (record view.core { first = first }) (sound.stands first told) goes);
  clock = told_still readings view.opened view.clock view.core.trail trail Stop sound.clock refl lines;
  plan = sound.plan;
}

pub has_halted : {C : Type 0} (view old : View C) (trail : List Event) → view ≡ old → trail ≡ view.core.trail ++ Stop ∷ [] → record view.core { trail = trail; stopped = true } ≡ halted old.core
has_halted view old trail e lines = new_halted view.core trail lines ∙ ap (λ v. halted v.core) e

true_not_false : true ≡ false → ⊥
true_not_false e = cc

pub ready_stopped : (fill : Row) (stopped : Bool) (flights : List FlyingWrite) (flying : List Flier) (lines room more most : ℕ) (pool : Contents) → IsReady fill stopped flights flying lines room pool → IsReady fill true flights flying more most pool
ready_stopped fill stopped flights flying lines room more most pool ready = record { held = ready.held; cells = ready.cells; provided = ready.provided; apart = ready.apart; end = λ goes. absurd (true_not_false goes) }

-- END
filter_aloft : (p : ℕ → Bool) (flights : List FlyingWrite) → map aloft_of (filter (λ f. p f.who) flights) ≡ filter (λ w. p w.s) (map aloft_of flights)
filter_aloft p [] = refl
filter_aloft p (f ∷ flights) = elim (p f.who) as (λ b. map aloft_of (cond b (f ∷ filter (λ f. p f.who) flights) (filter (λ f. p f.who) flights)) ≡ cond b (aloft_of f ∷ filter (λ w. p w.s) (map aloft_of flights)) (filter (λ w. p w.s) (map aloft_of flights))) [
  | true ↦ ap (λ r. aloft_of f ∷ r) (filter_aloft p flights)
  | false ↦ filter_aloft p flights
]

filter_flier : (p : ℕ → Bool) (flights : List FlyingWrite) → map flier_of (filter (λ f. p f.who) flights) ≡ filter (λ w. p w.who) (map flier_of flights)
filter_flier p [] = refl
filter_flier p (f ∷ flights) = elim (p f.who) as (λ b. map flier_of (cond b (f ∷ filter (λ f. p f.who) flights) (filter (λ f. p f.who) flights)) ≡ cond b (flier_of f ∷ filter (λ w. p w.who) (map flier_of flights)) (filter (λ w. p w.who) (map flier_of flights))) [
  | true ↦ ap (λ r. flier_of f ∷ r) (filter_flier p flights)
  | false ↦ filter_flier p flights
]

pub ended_places : (p : ℕ → Bool) (new flights : List FlyingWrite) → new ≡ filter (λ f. p f.who) flights → map placed_of new ≡ filter (λ x. p x.0) (map placed_of flights)
ended_places p new flights is = ap (map placed_of) is ∙ by flights
  where
    by : (flights : List FlyingWrite) → map placed_of (filter (λ f. p f.who) flights) ≡ filter (λ x. p x.0) (map placed_of flights)
    by [] = refl
    by (f ∷ flights) = elim (p f.who) as (λ b. map placed_of (cond b (f ∷ filter (λ f. p f.who) flights) (filter (λ f. p f.who) flights)) ≡ cond b (placed_of f ∷ filter (λ x. p x.0) (map placed_of flights)) (filter (λ x. p x.0) (map placed_of flights))) [
      | true ↦ ap (λ r. placed_of f ∷ r) (by flights)
      | false ↦ by flights
    ]

pub ended_flights : (s : ℕ) (new old : List FlyingWrite) → new ≡ filter (λ f. not (f.who == s)) old → map aloft_of new ≡ filter (λ w. not (w.s == s)) (map aloft_of old)
ended_flights s new old h = ap (map aloft_of) h ∙ filter_aloft (λ n. not (n == s)) old

new_ended : (core : Core) (s i ts : ℕ) (trail : List Event) (a c : ℕ) (aloft : List Aloft) (turns : List Turn)
    → trail ≡ core.trail ++ End s i ts ∷ [] → a ≡ core.a → c ≡ core.c → aloft ≡ filter (λ w. not (w.s == s)) core.aloft → turns ≡ set_nth core.turns s (record { next = i + 1; look = None })
    → record core { trail = trail; a = a; c = c; aloft = aloft; turns = turns } ≡ ended core s i ts
new_ended core s i ts trail a c aloft turns lines stays last flies places = λ k. record core { trail = lines k; a = stays k; c = last k; aloft = flies k; turns = places k }

-- what ends is this write
pub record EndsAs (core : Core) (s : ℕ) (w : FlyingWrite) : Type 0 where
  pub flies : flight_of s core.aloft ≡ Some (aloft_of w)
  pub turn : nth core.turns s ≡ Some (record { next = w.index; look = None })
  pub over : IsOver s core.aloft

pub same_flight : (x y : Aloft) → Some x ≡ Some y → x ≡ y
same_flight x y e = cc

pub ends_as : (core : Core) (s : ℕ) (w : FlyingWrite) → MayEnd core s → flight_of s core.aloft ≡ Some (aloft_of w) → EndsAs core s w
ends_as core s w may flies = let same = same_flight may.flight (aloft_of w) (sym may.flies ∙ flies) in record {
  flies = flies;
  turn = may.turn ∙ ap (λ f. Some (record { next = f.i; look = None })) same;
  over = may.over;
}

itself : (n : ℕ) → (n == n) ≡ true
itself n = grind (arith, nat_tests)

all_three : (s i ts : ℕ) (w flight : Aloft) (rest : Bool) → Some w ≡ Some flight → i ≡ flight.i → ts ≡ flight.ts → (((w.i == i) && (w.ts == ts)) || rest) ≡ true
all_three s i ts w flight rest e here time = let same = same_flight w flight e in
    ap (λ b. b || rest) ((λ k. ((w.i == (here ∙ ap (λ f. f.i) (sym same)) k) && (w.ts == (time ∙ ap (λ f. f.ts) (sym same)) k))) ∙ (λ k. (itself w.i k && itself w.ts k)))

pub flies_so : (s i ts : ℕ) (aloft : List Aloft) (flight : Aloft) → flight_of s aloft ≡ Some flight → i ≡ flight.i → ts ≡ flight.ts → list_any (λ w. (w.s == s) && (w.i == i) && (w.ts == ts)) (map flown_by aloft) ≡ true
flies_so s i ts [] flight h here time = cc
flies_so s i ts (w ∷ aloft) flight h here time = elim (w.s == s) as (λ b. cond b (Some w) (flight_of s aloft) ≡ Some flight → ((b && (w.i == i) && (w.ts == ts)) || list_any (λ w. (w.s == s) && (w.i == i) && (w.ts == ts)) (map flown_by aloft)) ≡ true) [
  | true ↦ λ e. all_three s i ts w flight (list_any (λ w. (w.s == s) && (w.i == i) && (w.ts == ts)) (map flown_by aloft)) e here time
  | false ↦ λ e. flies_so s i ts aloft flight e here time
] h

pub end_sound : {C : Type 0} (readings : C → Option (List ℕ)) (view : View C) (s : ℕ) (w : FlyingWrite) (trail : List Event) (a c : ℕ) (aloft : List Aloft) (turns : List Turn) (notes : List (List CommitRow)) (places : List (ℕ × ℕ))
    → IsSound readings view → view.core.stopped ≡ false → EndsAs view.core s w
    → trail ≡ view.core.trail ++ End s w.index w.ts ∷ [] → a ≡ view.core.a → c ≡ view.core.c → aloft ≡ filter (λ w. not (w.s == s)) view.core.aloft → turns ≡ set_nth view.core.turns s (record { next = w.index + 1; look = None })
    → IsSound readings (record view { core = record view.core { trail = trail; a = a; c = c; aloft = aloft; turns = turns }; notes = notes; places = places })
end_sound readings view s w trail a c aloft turns notes places sound goes ends lines stays last flies turned = record {
  stands = λ first told. subst Stands (sym (new_ended (record view.core { first = first }) s w.index w.ts trail a c aloft turns lines stays last flies turned))
      (end_stands (record view.core { first = first }) s w.index w.ts (sound.stands first told) (goes, flies_so s w.index w.ts view.core.aloft (aloft_of w) ends.flies refl refl) ends.over);
  clock = told_still readings view.opened view.clock view.core.trail trail (End s w.index w.ts) sound.clock refl lines;
  plan = sound.plan;
}

pub has_ended : {C : Type 0} (view old : View C) (s : ℕ) (w : FlyingWrite) (trail : List Event) (a c : ℕ) (aloft : List Aloft) (turns : List Turn) → view ≡ old → EndsAs view.core s w
    → trail ≡ view.core.trail ++ End s w.index w.ts ∷ [] → a ≡ view.core.a → c ≡ view.core.c → aloft ≡ filter (λ w. not (w.s == s)) view.core.aloft → turns ≡ set_nth view.core.turns s (record { next = w.index + 1; look = None })
    → HasEnded old.core (record view.core { trail = trail; a = a; c = c; aloft = aloft; turns = turns }) s w.index w.ts
has_ended view old s w trail a c aloft turns e ends lines stays last flies places =
    subst (λ v. HasEnded v.core (record view.core { trail = trail; a = a; c = c; aloft = aloft; turns = turns }) s w.index w.ts) e
    (record { flight = aloft_of w; flies = ends.flies; index = refl; time = refl; core = new_ended view.core s w.index w.ts trail a c aloft turns lines stays last flies places })

-- nothing is owed for a write that is over, and its line is its own
owed_over : (s : ℕ) (flights : List FlyingWrite) → IsOver s (map aloft_of flights) → owed (map aloft_of (filter (λ f. not (f.who == s)) flights)) ≡ owed (map aloft_of flights)
owed_over s [] over = refl
owed_over s (w ∷ flights) over = elim (w.who == s) as (λ b. w.who == s ≡ b → owed (map aloft_of (cond (not b) (w ∷ filter (λ f. not (f.who == s)) flights) (filter (λ f. not (f.who == s)) flights))) ≡ need (drop w.applied w.ops) + owed (map aloft_of flights)) [
  | true ↦ λ is. let k = owed_over s flights over.1 in let z = ap need (over.0 is) in omega (arith, k, z)
  | false ↦ λ is. ap (λ n. need (drop w.applied w.ops) + n) (owed_over s flights over.1)
] refl

still_provided : (p : FlyingWrite → Bool) (fill : Row) (flights : List FlyingWrite) → AreProvided fill flights → AreProvided fill (filter p flights)
still_provided p fill [] provided = tt
still_provided p fill (w ∷ flights) provided = elim (p w) as (λ b. AreProvided fill (cond b (w ∷ filter p flights) (filter p flights))) [
  | true ↦ (provided.0, still_provided p fill flights provided.1)
  | false ↦ still_provided p fill flights provided.1
]

one_fewer : (s i ts : ℕ) (flights : List FlyingWrite) → list_any (λ w. (w.s == s) && (w.i == i) && (w.ts == ts)) (map flown_by (map aloft_of flights)) ≡ true → length (filter (λ f. not (f.who == s)) flights) + 1 ≤ length flights
one_fewer s i ts [] flies = cc
one_fewer s i ts (w ∷ flights) flies = elim (w.who == s) as (λ b. (b && (w.index == i) && (w.ts == ts) || list_any (λ w. (w.s == s) && (w.i == i) && (w.ts == ts)) (map flown_by (map aloft_of flights))) ≡ true
    → length (cond (not b) (w ∷ filter (λ f. not (f.who == s)) flights) (filter (λ f. not (f.who == s)) flights)) + 1 ≤ suc (length flights)) [
      | true ↦ λ h. let le = at_most s flights in omega arith
      | false ↦ λ h. let le = one_fewer s i ts flights h in omega arith
    ] flies
  where
    at_most : (s : ℕ) (flights : List FlyingWrite) → length (filter (λ f. not (f.who == s)) flights) ≤ length flights
    at_most s [] = omega arith
    at_most s (w ∷ flights) = elim (w.who == s) as (λ b. length (cond (not b) (w ∷ filter (λ f. not (f.who == s)) flights) (filter (λ f. not (f.who == s)) flights)) ≤ suc (length flights)) [
      | true ↦ let le = at_most s flights in omega arith
      | false ↦ let le = at_most s flights in omega arith
    ]

flies_who : (s i ts : ℕ) (flights : List FlyingWrite) → list_any (λ w. (w.s == s) && (w.i == i) && (w.ts == ts)) (map flown_by (map aloft_of flights)) ≡ true → list_any (λ f. f.who == s) (map flier_of flights) ≡ true
flies_who s i ts [] flies = flies
flies_who s i ts (w ∷ flights) flies = elim (w.who == s) as (λ b. (b && (w.index == i) && (w.ts == ts) || list_any (λ w. (w.s == s) && (w.i == i) && (w.ts == ts)) (map flown_by (map aloft_of flights))) ≡ true
    → (b || list_any (λ f. f.who == s) (map flier_of flights)) ≡ true) [
      | true ↦ λ h. refl
      | false ↦ λ h. flies_who s i ts flights h
    ] flies

-- the clock of writes has it too
pub who_flies : (s i ts : ℕ) (flights : List FlyingWrite) (flying : List Flier) → flying ≡ map flier_of flights → list_any (λ w. (w.s == s) && (w.i == i) && (w.ts == ts)) (map flown_by (map aloft_of flights)) ≡ true → list_any (λ f. f.who == s) flying ≡ true
who_flies s i ts flights flying held flies = ap (list_any (λ f. f.who == s)) held ∙ flies_who s i ts flights flies

pub ready_ended : (s i ts : ℕ) (fill : Row) (stopped : Bool) (flights kept : List FlyingWrite) (flying new : List Flier) (lines room more most : ℕ) (pool : Contents)
    → IsReady fill stopped flights flying lines room pool → stopped ≡ false → IsOver s (map aloft_of flights) → list_any (λ w. (w.s == s) && (w.i == i) && (w.ts == ts)) (map flown_by (map aloft_of flights)) ≡ true
    → kept ≡ filter (λ f. not (f.who == s)) flights → new ≡ filter (λ f. not (f.who == s)) flying → more ≡ lines + 1 → most ≡ room
    → IsReady fill stopped kept new more most pool
ready_ended s i ts fill stopped flights kept flying new lines room more most pool ready goes over flies filtered ends one same =
    subst (λ ks. IsReady fill stopped ks new more most pool) (sym filtered) (record {
      held = ends ∙ ap (filter (λ f. not (f.who == s))) ready.held ∙ sym (filter_flier (λ n. not (n == s)) flights);
      cells = ready.cells ∙ sym (owed_over s flights over);
      provided = still_provided (λ f. not (f.who == s)) fill flights ready.provided;
      apart = apart-filter (λ f. not (f.who == s)) flights ready.apart;
      end = λ g. let fits = ready.end goes in let fewer = one_fewer s i ts flights flies in omega (arith, one, same, fits, fewer);
    })

-- LARGE
pub large_sound : {C : Type 0} (readings : C → Option (List ℕ)) (view : View C) (s i n : ℕ) (trail : List Event) (turns : List Turn)
    → IsSound readings view → IsLarge view.core s i n
    → trail ≡ view.core.trail ++ Large s i n ∷ [] → turns ≡ set_nth view.core.turns s (record { next = i + 1; look = None })
    → IsSound readings (record view { core = record view.core { trail = trail; turns = turns } })
large_sound readings view s i n trail turns sound may lines places = record {
  stands = λ first told. subst Stands (sym (new_answered (record view.core { first = first }) s i (Large s i n) trail turns lines places))
      (large_stands (record view.core { first = first }) s i n (sound.stands first told) (may.goes, record { next = may.at.next; rests = may.at.rests }, may.write));
  clock = told_still readings view.opened view.clock view.core.trail trail (Large s i n) sound.clock refl lines;
  plan = sound.plan;
}

pub is_large : {C : Type 0} (view old : View C) (s i n : ℕ) → view ≡ old → IsLarge old.core s i n → IsLarge view.core s i n
is_large view old s i n e h = subst (λ v. IsLarge v.core s i n) (sym e) h
