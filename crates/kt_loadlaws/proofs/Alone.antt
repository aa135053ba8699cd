-- A run of sessions that own their keys: each has done to its keys what it does alone.
use Rattle.std.proofs.Common.{◌≡◌, ℕ, zero, suc, ◌+◌, ◌-◌, ◌<◌, ◌≤◌, List, [], ◌∷◌, ◌++◌, Some, None, Option, refl, true, false, Bool, ◌||◌, cond, sym, ap, ◌∙◌, subst, arith, inl, inr, take, max}
use Rattle.std.specs.Prelude.{is_some, ◌==◌, ◌&&◌, not, slice_get, slice_set}
use Rattle.std.specs.List.{list_any, filter}
use Rattle.std.specs.FinMap.Entries.{find}
use Rattle.std.proofs.lemmas.Bool.{cases_eq, eq-eqb, ne_eqb, eqb-true, or_parts}
use Rattle.kt_history.specs.declared.command.Command.{Command}
use Rattle.kt_history.specs.declared.command.Command.TheVariants as command
use Rattle.kt_history.specs.declared.scan.At.{At}
use Rattle.kt_history.specs.declared.operation.RowOp.{RowOp}
use Rattle.kt_history.specs.declared.event.Event.{Event}
use Rattle.kt_history.specs.declared.event.Event.TheVariants.{Begin, End, Look, Rows, Ancient, Busy, Mark, Chore, Large, Stop}
use Rattle.kt_history.specs.Rows.{Rows as TableRows, Changes, changed, key_cmp}
use Rattle.kt_history.specs.History.{Past, IsPastUpTo, IsUpTo, rows_at, with_write}
use Rattle.kt_history.specs.Operations.{changes_on, need}
use Rattle.kt_history.specs.Machine.{Workload, State, Flying, Turn, IsNext, IfWrite, IfScan, IfMark, IsChore, MayBegin, Allowed, HasDifferentKeys, ops_of, nth, set_nth, command_of, command_at, look_for, ReadsAt, after, start, state_after, IsRunFrom, first_turns}
use Rattle.kt_history.proofs.Runs.{of_write, begins_above, c_rises}
use Rattle.kt_history.proofs.RowLaws.{replay_after_all, rows_at-with_write_below, rows_at-with_write_from}
use Rattle.kt_history.proofs.PastLaws.{ends_after}
use Rattle.kt_loadlaws.proofs.Folds.{ops_rows, rows_on, AgreeFor, IsOwn, session_of, next_rows, ops_agree, ops_leave}

-- ---- what stands for a state of the run

-- the commands of session s, and the rows after the first k of them done alone
abbrev pub session : Workload → ℕ → List Command
session work s = session_of (nth work.plan s)

abbrev pub alone : Workload → TableRows → ℕ → ℕ → TableRows
alone work base s k = rows_on work.fill base (take k (session work s))

-- whether a write of session s flies
abbrev pub flies : ℕ → List Flying → Bool
flies s flying = list_any (λ w. w.s == s) flying

-- how many commands of a session have begun: all before the next, and the next where it flies
abbrev pub begun_by : Option Turn → Bool → ℕ
begun_by None f = 0
begun_by (Some turn) true = turn.next
begun_by (Some turn) false = turn.next - 1

abbrev pub begun_in : List Turn → List Flying → ℕ → ℕ
begun_in turns flying s = begun_by (nth turns s) (flies s flying)

-- a write that flies is the next command of its session, and it began on the rows that its session left of its own keys
pub record OneAlone (work : Workload) (owner : List ℕ → ℕ) (base : TableRows) (past : Past) (c : ℕ) (turns : List Turn) (s i ts : ℕ) : Type 0 where
  pub turn : nth turns s ≡ Some (record { next = i; look = None })
  pub up : ts ≤ c
  pub rows : AgreeFor owner s (rows_at past (ts - 1)) (alone work base s (i - 1))

abbrev pub AllAlone : Workload → (List ℕ → ℕ) → TableRows → Past → ℕ → List Turn → List Flying → Type 0
AllAlone work owner base past c turns [] = Unit {0}
AllAlone work owner base past c turns (w ∷ flying) = OneAlone work owner base past c turns w.s w.i w.ts × AllAlone work owner base past c turns flying

-- each session has the rows of its keys as it would leave them alone
pub record StandsAlone (work : Workload) (owner : List ℕ → ℕ) (base : TableRows) (past : Past) (c : ℕ) (turns : List Turn) (flying : List Flying) : Type 0 where
  pub ends : IsPastUpTo c past
  pub fly : AllAlone work owner base past c turns flying
  pub rows : (s : ℕ) → AgreeFor owner s (rows_at past c) (alone work base s (begun_in turns flying s))

-- each write is on different keys of its session, for which the pool has cells enough
abbrev pub OwnWork : Workload → (List ℕ → ℕ) → Type 0
OwnWork work owner = (s i : ℕ) → IsOwn owner work.cells s (ops_of (command_at work s i))

pub apart_keys : (work : Workload) (owner : List ℕ → ℕ) → OwnWork work owner → HasDifferentKeys work
apart_keys work owner own s i = (own s i).differ

-- ---- turns

get_set : {A : Type 0} (xs : List A) (k : ℕ) (x y : A) → slice_get xs k ≡ Some x → slice_get (slice_set xs k y) k ≡ Some y
get_set [] k x y h = cc
get_set (z ∷ xs) zero x y h = refl
get_set (z ∷ xs) (suc k) x y h = get_set xs k x y h

get_set_other : {A : Type 0} (xs : List A) (k j : ℕ) (y : A) → (k ≡ j → ⊥) → slice_get (slice_set xs k y) j ≡ slice_get xs j
get_set_other [] k j y ne = refl
get_set_other (z ∷ xs) zero zero y ne = absurd (ne refl)
get_set_other (z ∷ xs) zero (suc j) y ne = refl
get_set_other (z ∷ xs) (suc k) zero y ne = refl
get_set_other (z ∷ xs) (suc k) (suc j) y ne = get_set_other xs k j y (λ e. ne (ap suc e))

pub nth_set : (turns : List Turn) (s : ℕ) (old new : Turn) → nth turns s ≡ Some old → nth (set_nth turns s new) s ≡ Some new
nth_set turns zero old new h = cc
nth_set turns (suc s) old new h = get_set turns s old new h

pub nth_set_other : (turns : List Turn) (s k : ℕ) (new : Turn) → (s ≡ k → ⊥) → nth (set_nth turns s new) k ≡ nth turns k
nth_set_other turns zero k new ne = refl
nth_set_other turns (suc s) zero new ne = refl
nth_set_other turns (suc s) (suc k) new ne = get_set_other turns s k new (λ e. ne (ap suc e))

-- ---- writes that fly

flies_one_more : (s : ℕ) (flying : List Flying) (w : Flying) → flies s (flying ++ w ∷ []) ≡ (flies s flying || (w.s == s))
flies_one_more s [] w = one (w.s == s)
  where
    one : (b : Bool) → (b || false) ≡ (false || b)
    one true = refl
    one false = refl
flies_one_more s (v ∷ flying) w = ap (λ b. (v.s == s) || b) (flies_one_more s flying w) ∙ one (v.s == s) (flies s flying) (w.s == s)
  where
    one : (a b d : Bool) → (a || (b || d)) ≡ ((a || b) || d)
    one true b d = refl
    one false b d = refl

flies_none : (s : ℕ) (flying : List Flying) → flies s (filter (λ w. not (w.s == s)) flying) ≡ false
flies_none s [] = refl
flies_none s (w ∷ flying) = elim (w.s == s) as (λ b. w.s == s ≡ b → flies s (cond (not b) (w ∷ filter (λ v. not (v.s == s)) flying) (filter (λ v. not (v.s == s)) flying)) ≡ false) [
  | true ↦ λ is. flies_none s flying
  | false ↦ λ is. ap (λ b. b || flies s (filter (λ v. not (v.s == s)) flying)) is ∙ flies_none s flying
] refl

flies_others : (s k : ℕ) (flying : List Flying) → (s ≡ k → ⊥) → flies k (filter (λ w. not (w.s == s)) flying) ≡ flies k flying
flies_others s k [] ne = refl
flies_others s k (w ∷ flying) ne = elim (w.s == s) as (λ b. w.s == s ≡ b → flies k (cond (not b) (w ∷ filter (λ v. not (v.s == s)) flying) (filter (λ v. not (v.s == s)) flying)) ≡ ((w.s == k) || flies k flying)) [
  | true ↦ λ is. flies_others s k flying ne ∙ sym (ap (λ b. b || flies k flying) (ne_eqb w.s k (λ e. ne (sym (eqb-true w.s s is) ∙ e))))
  | false ↦ λ is. ap (λ b. (w.s == k) || b) (flies_others s k flying ne)
] refl

not_self : (a b : ℕ) → (b == a) ≡ false → a ≡ b → ⊥
not_self a b f e = let g = eq-eqb b a (sym e) in cc

-- the turn of a session of which nothing flies changes, and the last timestamp rises
fly_turned : (work : Workload) (owner : List ℕ → ℕ) (base : TableRows) (past : Past) (c d : ℕ) (turns : List Turn) (s : ℕ) (turn : Turn) (flying : List Flying) → c ≤ d → flies s flying ≡ false
    → AllAlone work owner base past c turns flying → AllAlone work owner base past d (set_nth turns s turn) flying
fly_turned work owner base past c d turns s turn [] le rests all = tt
fly_turned work owner base past c d turns s turn (w ∷ flying) le rests all =
    let p = or_parts (w.s == s) (flies s flying) rests in (
      record {
        turn = nth_set_other turns s w.s turn (λ e. not_self s w.s p.0 e) ∙ all.0.turn;
        up = omega (arith, all.0.up);
        rows = all.0.rows;
      },
      fly_turned work owner base past c d turns s turn flying le p.1 all.1,
    )

-- the writes of s are taken out, and its turn changes
fly_filtered : (work : Workload) (owner : List ℕ → ℕ) (base : TableRows) (past : Past) (c : ℕ) (turns : List Turn) (s : ℕ) (turn : Turn) (flying : List Flying)
    → AllAlone work owner base past c turns flying → AllAlone work owner base past c (set_nth turns s turn) (filter (λ w. not (w.s == s)) flying)
fly_filtered work owner base past c turns s turn [] all = tt
fly_filtered work owner base past c turns s turn (w ∷ flying) all =
    elim (w.s == s) as (λ b. w.s == s ≡ b → AllAlone work owner base past c (set_nth turns s turn) (cond (not b) (w ∷ filter (λ v. not (v.s == s)) flying) (filter (λ v. not (v.s == s)) flying))) [
      | true ↦ λ is. fly_filtered work owner base past c turns s turn flying all.1
      | false ↦ λ is. (
        record {
          turn = nth_set_other turns s w.s turn (λ e. not_self s w.s is e) ∙ all.0.turn;
          up = all.0.up;
          rows = all.0.rows;
        },
        fly_filtered work owner base past c turns s turn flying all.1,
      )
    ] refl

-- another write begins above the last timestamp
fly_more : (work : Workload) (owner : List ℕ → ℕ) (base : TableRows) (past : Past) (rows : TableRows) (ops : List RowOp) (c ts : ℕ) (turns : List Turn) (w : Flying) (flying : List Flying) → c < ts
    → AllAlone work owner base past c turns flying → OneAlone work owner base (with_write past ts (changes_on work.fill rows ops)) ts turns w.s w.i w.ts
    → AllAlone work owner base (with_write past ts (changes_on work.fill rows ops)) ts turns (flying ++ w ∷ [])
fly_more work owner base past rows ops c ts turns w [] lt all new = (new, tt)
fly_more work owner base past rows ops c ts turns w (v ∷ flying) lt all new = (
  record {
    turn = all.0.turn;
    up = omega (arith, all.0.up);
    rows = λ q e. ap (find key_cmp q) (rows_at-with_write_below past ts (changes_on work.fill rows ops) (v.ts - 1) (omega (arith, all.0.up))) ∙ all.0.rows q e;
  },
  fly_more work owner base past rows ops c ts turns w flying lt all.1 new,
)

-- the write that an end is of
pub the_flying : (work : Workload) (owner : List ℕ → ℕ) (base : TableRows) (past : Past) (c : ℕ) (turns : List Turn) (s i ts : ℕ) (flying : List Flying)
    → list_any (λ w. (w.s == s) && (w.i == i) && (w.ts == ts)) flying ≡ true → AllAlone work owner base past c turns flying → (flies s flying ≡ true) × OneAlone work owner base past c turns s i ts
the_flying work owner base past c turns s i ts [] any all = cc
the_flying work owner base past c turns s i ts (w ∷ flying) any all = one (λ h. the_flying work owner base past c turns s i ts flying h all.1) (w.s == s) (w.i == i) (w.ts == ts) refl refl refl any
  where
    or_true : (b : Bool) {x : Bool} → x ≡ true → (b || x) ≡ true
    or_true true g = refl
    or_true false g = g

    later : (flies s flying ≡ true) × OneAlone work owner base past c turns s i ts → ((w.s == s || flies s flying) ≡ true) × OneAlone work owner base past c turns s i ts
    later r = (or_true (w.s == s) r.0, r.1)

    one : (list_any (λ w. (w.s == s) && (w.i == i) && (w.ts == ts)) flying ≡ true → (flies s flying ≡ true) × OneAlone work owner base past c turns s i ts) → (x y z : Bool) → w.s == s ≡ x → w.i == i ≡ y → w.ts == ts ≡ z → ((x && y && z) || list_any (λ w. (w.s == s) && (w.i == i) && (w.ts == ts)) flying) ≡ true
        → ((w.s == s || flies s flying) ≡ true) × OneAlone work owner base past c turns s i ts
    one rest true true true ex ey ez h = (
      ap (λ b. b || flies s flying) ex,
      subst (λ n. OneAlone work owner base past c turns s i n) (eqb-true w.ts ts ez)
          (subst (λ n. OneAlone work owner base past c turns s n w.ts) (eqb-true w.i i ey) (subst (λ n. OneAlone work owner base past c turns n w.i w.ts) (eqb-true w.s s ex) all.0)),
    )
    one rest true true false ex ey ez h = later (rest h)
    one rest true false z ex ey ez h = later (rest h)
    one rest false y z ex ey ez h = later (rest h)

-- ---- one command more

pub later_rows : (past : Past) (c t : ℕ) → IsUpTo c past.writes → c ≤ t → rows_at past t ≡ rows_at past c
later_rows past c t up le = replay_after_all c t past.writes past.base up le

-- the i-th command of a session, done alone behind those before it
pub alone_next : (work : Workload) (base : TableRows) (s i : ℕ) → is_some (command_at work s i) ≡ true → alone work base s i ≡ ops_rows work.fill (alone work base s (i - 1)) (ops_of (command_at work s i))
alone_next work base s i h = one (nth work.plan s) i h
  where
    one : (o : Option (List Command)) (i : ℕ) → is_some (command_of o i) ≡ true → rows_on work.fill base (take i (session_of o)) ≡ ops_rows work.fill (rows_on work.fill base (take (i - 1) (session_of o))) (ops_of (command_of o i))
    one None i h = cc
    one (Some commands) zero h = cc
    one (Some commands) (suc k) h =
        next_rows work.fill base commands k h
        ∙ ap (λ n. ops_rows work.fill (rows_on work.fill base (take n commands)) (ops_of (slice_get commands k))) (omega arith)

pub of_scan : (o : Option Command) (P : At → Type 0) → IfScan o P → (is_some o ≡ true) × (ops_of o ≡ [])
of_scan (Some (command.Write w)) P h = absurd h
of_scan (Some (command.Scan scan)) P h = (refl, refl)
of_scan (Some (command.Mark t)) P h = absurd h
of_scan (Some (command.Chore chore)) P h = absurd h
of_scan None P h = absurd h

pub of_mark : (o : Option Command) (P : ℕ → Type 0) → IfMark o P → (is_some o ≡ true) × (ops_of o ≡ [])
of_mark (Some (command.Write w)) P h = absurd h
of_mark (Some (command.Scan scan)) P h = absurd h
of_mark (Some (command.Mark t)) P h = (refl, refl)
of_mark (Some (command.Chore chore)) P h = absurd h
of_mark None P h = absurd h

pub of_chore : (o : Option Command) → IsChore o → (is_some o ≡ true) × (ops_of o ≡ [])
of_chore (Some (command.Write w)) h = absurd h
of_chore (Some (command.Scan scan)) h = absurd h
of_chore (Some (command.Mark t)) h = absurd h
of_chore (Some (command.Chore chore)) h = (refl, refl)
of_chore None h = absurd h

some_write : (o : Option Command) (P : List RowOp → Type 0) → IfWrite o P → is_some o ≡ true
some_write (Some (command.Write w)) P h = refl
some_write (Some (command.Scan scan)) P h = absurd h
some_write (Some (command.Mark t)) P h = absurd h
some_write (Some (command.Chore chore)) P h = absurd h
some_write None P h = absurd h

pub the_scan : (o : Option Command) (st : State) (s i t : ℕ) → IfScan o (λ w. ReadsAt w t × IsNext st s i (look_for w t)) → (look : Option ℕ) × IsNext st s i look
the_scan (Some (command.Write w)) st s i t h = absurd h
the_scan (Some (command.Scan scan)) st s i t h = (look_for scan.at t, h.1)
the_scan (Some (command.Mark m)) st s i t h = absurd h
the_scan (Some (command.Chore chore)) st s i t h = absurd h
the_scan None st s i t h = absurd h

-- a pool with cells enough refuses no write
pub none_large : (work : Workload) (owner : List ℕ → ℕ) (s i n : ℕ) → OwnWork work owner → IfWrite (command_at work s i) (λ ops. (n ≡ need ops) × (work.cells < n)) → ⊥
none_large work owner s i n own h =
    let large = of_write (command_at work s i) (λ ops. (n ≡ need ops) × (work.cells < n)) h in
    let room = (own s i).room in
    omega (arith, large.0, large.1, room)

-- ---- each line keeps that the state stands

abbrev pub StandsAt : Workload → (List ℕ → ℕ) → TableRows → State → Type 0
StandsAt work owner base st = StandsAlone work owner base st.past st.c st.turns st.flying

-- the turn of a session of which nothing flies changes, with no row of its own
rests : (work : Workload) (owner : List ℕ → ℕ) (base : TableRows) (past : Past) (c d : ℕ) (turns : List Turn) (flying : List Flying) (s : ℕ) (old new : Turn)
    → StandsAlone work owner base past c turns flying → c ≤ d → IsPastUpTo d past → nth turns s ≡ Some old → flies s flying ≡ false
    → alone work base s (new.next - 1) ≡ alone work base s (old.next - 1) → StandsAlone work owner base past d (set_nth turns s new) flying
rests work owner base past c d turns flying s old new st le ends is idle same = record {
  ends = ends;
  fly = fly_turned work owner base past c d turns s new flying le idle st.fly;
  rows = λ k q e. ap (find key_cmp q) (later_rows past c d st.ends.writes le) ∙ st.rows k q e ∙ ap (find key_cmp q) (sym (kept k));
}
  where
    kept : (k : ℕ) → alone work base k (begun_in (set_nth turns s new) flying k) ≡ alone work base k (begun_in turns flying k)
    kept k = elim (cases_eq s k) [
      | inl self ↦ subst (λ n. alone work base n (begun_in (set_nth turns s new) flying n) ≡ alone work base n (begun_in turns flying n)) self
          (ap (λ o. alone work base s (begun_by o (flies s flying))) (nth_set turns s old new is)
          ∙ ap (λ b. alone work base s (begun_by (Some new) b)) idle
          ∙ same
          ∙ sym (ap (λ b. alone work base s (begun_by (Some old) b)) idle)
          ∙ sym (ap (λ o. alone work base s (begun_by o (flies s flying))) is))
      | inr other ↦ ap (λ o. alone work base k (begun_by o (flies k flying))) (nth_set_other turns s k new other)
    ]

-- a command that is no write is answered
answers_none : (work : Workload) (owner : List ℕ → ℕ) (base : TableRows) (st : State) (d s i : ℕ) (look : Option ℕ)
    → StandsAt work owner base st → st.c ≤ d → IsPastUpTo d st.past → IsNext st s i look → (is_some (command_at work s i) ≡ true) × (ops_of (command_at work s i) ≡ [])
    → StandsAlone work owner base st.past d (set_nth st.turns s (record { next = i + 1; look = None })) st.flying
answers_none work owner base st d s i look stands le ends next none =
    rests work owner base st.past st.c d st.turns st.flying s (record { next = i; look = look }) (record { next = i + 1; look = None }) stands le ends next.next next.rests
    (ap (alone work base s) (omega arith) ∙ alone_next work base s i none.0 ∙ ap (ops_rows work.fill (alone work base s (i - 1))) none.1)

begin_stands : (work : Workload) (owner : List ℕ → ℕ) (base : TableRows) (st : State) (s i ts m : ℕ) → OwnWork work owner → StandsAt work owner base st → Allowed work st (Begin s i ts m) → StandsAt work owner base (after work st (Begin s i ts m))
begin_stands work owner base st s i ts m own stands h = record {
  ends = ends_after work st (Begin s i ts m) (apart_keys work owner own) h stands.ends;
  fly = fly_more work owner base st.past (rows_at st.past (ts - 1)) (ops_of (command_at work s i)) st.c ts st.turns new st.flying above stands.fly (record {
    turn = h.1.next;
    up = omega arith;
    rows = λ q e. ap (find key_cmp q) (rows_at-with_write_below st.past ts changes (ts - 1) (omega (arith, above)) ∙ before) ∙ mine q e;
  });
  rows = λ k. elim (cases_eq s k) [
    | inl self ↦ subst (λ n. AgreeFor owner n (rows_at (with_write st.past ts changes) ts) (alone work base n (begun_in st.turns (st.flying ++ new ∷ []) n))) self
        (λ q e. ap (find key_cmp q) shown
        ∙ ops_agree owner work.cells s work.fill (rows_at st.past st.c) (alone work base s (i - 1)) (ops_of (command_at work s i)) mine (own s i) q e
        ∙ ap (find key_cmp q) (sym (alone_next work base s i (some_write (command_at work s i) (λ ops. MayBegin work st ops ts m) h.2)))
        ∙ ap (λ n. find key_cmp q (alone work base s n)) (sym now))
    | inr other ↦ λ q e. ap (find key_cmp q) shown
        ∙ ops_leave owner work.cells s work.fill (rows_at st.past st.c) (ops_of (command_at work s i)) q (own s i) (λ is. other (sym is ∙ e))
        ∙ stands.rows k q e
        ∙ ap (λ b. find key_cmp q (alone work base k (begun_by (nth st.turns k) b))) (sym (still k other))
  ];
}
  where
    new : Flying
    new = record { s = s; i = i; ts = ts; ops = ops_of (command_at work s i) }

    changes : Changes
    changes = changes_on work.fill (rows_at st.past (ts - 1)) (ops_of (command_at work s i))

    above : st.c < ts
    above = begins_above work st s i ts m h

    before : rows_at st.past (ts - 1) ≡ rows_at st.past st.c
    before = later_rows st.past st.c (ts - 1) stands.ends.writes (omega (arith, above))

    shown : rows_at (with_write st.past ts changes) ts ≡ ops_rows work.fill (rows_at st.past st.c) (ops_of (command_at work s i))
    shown = rows_at-with_write_from st.past ts changes ts (omega arith)
        ∙ ap (changed changes) (later_rows st.past st.c ts stands.ends.writes (omega (arith, above)))
        ∙ ap (λ rows. changed (changes_on work.fill rows (ops_of (command_at work s i))) (rows_at st.past st.c)) before

    mine : AgreeFor owner s (rows_at st.past st.c) (alone work base s (i - 1))
    mine q e = stands.rows s q e ∙ ap (λ n. find key_cmp q (alone work base s n)) (ap (λ o. begun_by o (flies s st.flying)) h.1.next ∙ ap (λ b. begun_by (Some (record { next = i; look = None })) b) h.1.rests)

    now : begun_in st.turns (st.flying ++ new ∷ []) s ≡ i
    now = ap (λ b. begun_by (nth st.turns s) b) (flies_one_more s st.flying new ∙ or_last (flies s st.flying) (eq-eqb s s refl)) ∙ ap (λ o. begun_by o true) h.1.next
      where
        or_last : (b : Bool) {x : Bool} → x ≡ true → (b || x) ≡ true
        or_last true g = refl
        or_last false g = g

    still : (k : ℕ) → (s ≡ k → ⊥) → flies k (st.flying ++ new ∷ []) ≡ flies k st.flying
    still k other = flies_one_more k st.flying new ∙ ap (λ b. flies k st.flying || b) (ne_eqb s k other) ∙ or_false (flies k st.flying)
      where
        or_false : (b : Bool) → (b || false) ≡ b
        or_false true = refl
        or_false false = refl

end_stands : (work : Workload) (owner : List ℕ → ℕ) (base : TableRows) (st : State) (s i ts : ℕ) → StandsAt work owner base st → Allowed work st (End s i ts) → StandsAt work owner base (after work st (End s i ts))
end_stands work owner base st s i ts stands h = record {
  ends = stands.ends;
  fly = fly_filtered work owner base st.past st.c st.turns s turn st.flying stands.fly;
  rows = λ k q e. stands.rows k q e ∙ ap (λ n. find key_cmp q (alone work base k n)) (sym (kept k));
}
  where
    turn : Turn
    turn = record { next = i + 1; look = None }

    the : (flies s st.flying ≡ true) × OneAlone work owner base st.past st.c st.turns s i ts
    the = the_flying work owner base st.past st.c st.turns s i ts st.flying h.1 stands.fly

    kept : (k : ℕ) → begun_in (set_nth st.turns s turn) (filter (λ w. not (w.s == s)) st.flying) k ≡ begun_in st.turns st.flying k
    kept k = elim (cases_eq s k) [
      | inl self ↦ subst (λ n. begun_in (set_nth st.turns s turn) (filter (λ w. not (w.s == s)) st.flying) n ≡ begun_in st.turns st.flying n) self
          (ap (λ o. begun_by o (flies s (filter (λ w. not (w.s == s)) st.flying))) (nth_set st.turns s (record { next = i; look = None }) turn the.1.turn)
          ∙ ap (λ b. begun_by (Some turn) b) (flies_none s st.flying)
          ∙ less
          ∙ sym (ap (λ b. begun_by (Some (record { next = i; look = None })) b) the.0)
          ∙ sym (ap (λ o. begun_by o (flies s st.flying)) the.1.turn))
      | inr other ↦ ap (λ o. begun_by o (flies k (filter (λ w. not (w.s == s)) st.flying))) (nth_set_other st.turns s k turn other)
          ∙ ap (λ b. begun_by (nth st.turns k) b) (flies_others s k st.flying other)
    ]
      where
        less : (i + 1) - 1 ≡ i
        less = omega arith

pub step_stands : (work : Workload) (owner : List ℕ → ℕ) (base : TableRows) (st : State) (e : Event) → OwnWork work owner → StandsAt work owner base st → Allowed work st e → StandsAt work owner base (after work st e)
step_stands work owner base st (Begin s i ts m) own stands h = begin_stands work owner base st s i ts m own stands h
step_stands work owner base st (End s i ts) own stands h = end_stands work owner base st s i ts stands h
step_stands work owner base st (Look s i t m) own stands h =
    rests work owner base st.past st.c t st.turns st.flying s (record { next = i; look = None }) (record { next = i; look = Some t }) stands (c_rises work st (Look s i t m) h)
    (ends_after work st (Look s i t m) (apart_keys work owner own) h stands.ends) h.1.next h.1.rests refl
step_stands work owner base st (Rows s i t) own stands h =
    let look = the_scan (command_at work s i) st s i t h.1 in
    answers_none work owner base st (max st.c t) s i look.0 stands (omega arith) (ends_after work st (Rows s i t) (apart_keys work owner own) h stands.ends) look.1 (of_scan (command_at work s i) _ h.1)
step_stands work owner base st (Ancient s i t a) own stands h =
    let look = the_scan (command_at work s i) st s i t h.1 in
    answers_none work owner base st st.c s i look.0 stands (omega arith) stands.ends look.1 (of_scan (command_at work s i) _ h.1)
step_stands work owner base st (Busy s i t f) own stands h = answers_none work owner base st st.c s i None stands (omega arith) stands.ends h.1 (of_scan (command_at work s i) _ h.2)
step_stands work owner base st (Mark s i a) own stands h = answers_none work owner base st st.c s i None stands (omega arith) stands.ends h.1 (of_mark (command_at work s i) _ h.2)
step_stands work owner base st (Chore s i) own stands h = answers_none work owner base st st.c s i None stands (omega arith) stands.ends h.1 (of_chore (command_at work s i) h.2)
step_stands work owner base st (Large s i n) own stands h = absurd (none_large work owner s i n own h.2)
step_stands work owner base st Stop own stands h = stands

pub run_stands : (work : Workload) (owner : List ℕ → ℕ) (base : TableRows) (st : State) (es : List Event) → OwnWork work owner → StandsAt work owner base st → IsRunFrom work st es → StandsAt work owner base (state_after work st es)
run_stands work owner base st [] own stands run = stands
run_stands work owner base st (e ∷ es) own stands run = run_stands work owner base (after work st e) es own (step_stands work owner base st e own stands run.0) run.1

-- ---- the start

first_begun : (plan : List (List Command)) (s : ℕ) → begun_by (nth (first_turns plan) s) false ≡ 0
first_begun plan zero = refl
first_begun plan (suc k) = at plan k
  where
    at : (plan : List (List Command)) (k : ℕ) → begun_by (slice_get (first_turns plan) k) false ≡ 0
    at [] k = refl
    at (commands ∷ plan) zero = refl
    at (commands ∷ plan) (suc k) = at plan k

pub start_stands : (work : Workload) (owner : List ℕ → ℕ) (past : Past) (c : ℕ) → IsPastUpTo c past → StandsAt work owner (rows_at past c) (start work past c)
start_stands work owner past c ends = record {
  ends = ends;
  fly = tt;
  rows = λ s q e. ap (λ n. find key_cmp q (alone work (rows_at past c) s n)) (sym (first_begun work.plan s));
}
