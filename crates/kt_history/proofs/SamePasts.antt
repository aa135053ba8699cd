-- A run reads of its past only the rows at times from the mark on.
use Rattle.std.proofs.Common.{◌≡◌, ℕ, ◌-◌, ◌<◌, ◌≤◌, List, [], ◌∷◌, ◌++◌, Option, Some, None, refl, sym, subst, true, false, Bool, ◌&&◌, ap, ◌∙◌, arith, cond, max, min}
use Rattle.std.specs.Prelude.{nat_le, nat_lt, not, ◌==◌, ◌||◌}
use Rattle.std.specs.List.{list_all, list_any, filter}
use Rattle.std.proofs.lemmas.Bool.Decides.{nat_tests}
use Rattle.kt_history.specs.declared.command.Command.{Command}
use Rattle.kt_history.specs.declared.command.Command.TheVariants as command
use Rattle.kt_history.specs.declared.scan.At.{At}
use Rattle.kt_history.specs.declared.operation.RowOp.{RowOp}
use Rattle.kt_history.specs.declared.event.Event.{Event}
use Rattle.kt_history.specs.declared.event.Event.TheVariants.{Begin, End, Look, Rows, Ancient, Busy, Mark, Chore, Large, Stop}
use Rattle.kt_history.specs.declared.reply.Reply.TheVariants as reply
use Rattle.kt_history.specs.Rows.{Changes, changed}
use Rattle.kt_history.specs.History.{Past, rows_at, with_write}
use Rattle.kt_history.specs.Operations.{changes_on, outcomes_on}
use Rattle.kt_history.specs.Machine.{Workload, State, Flying, Allowed, after, state_after, IsRunFrom, command_at, ops_of, start, IsNext, MayBegin, MayRead, ReadsAt, look_for, IfWrite, IfScan, IfMark, least, clean_below}
use Rattle.kt_history.specs.Replies.{reply_of, answers, shown_by, told}
use Rattle.kt_history.specs.SamePasts.{ShowTheSame, no_run_tells_them_apart}
use Rattle.kt_history.proofs.RowLaws.{rows_at-with_write_below, rows_at-with_write_from}
use Rattle.kt_history.proofs.Runs.{begins_above, c_rises, answer_is_told, both, left, right, last_of}

mark_stays : (p : Past) (ts : ℕ) (changes : Changes) → (with_write p ts changes).mark ≡ p.mark
mark_stays p ts [] = refl
mark_stays p ts (c ∷ changes) = refl

write_shows : (p q : Past) (ts : ℕ) (changes : Changes) → ShowTheSame p q → ShowTheSame (with_write p ts changes) (with_write q ts changes)
write_shows p q ts changes same = record {
  mark = mark_stays q ts changes ∙ same.mark ∙ sym (mark_stays p ts changes);
  rows = λ t le.
      let low : p.mark ≤ t = subst (λ m. m ≤ t) (mark_stays p ts changes) le in
      elim (nat_le ts t) as (λ b. nat_le ts t ≡ b → rows_at (with_write q ts changes) t ≡ rows_at (with_write p ts changes) t) [
        | true ↦ λ h. rows_at-with_write_from q ts changes t (grind (arith, nat_tests)) ∙ ap (changed changes) (same.rows t low) ∙ sym (rows_at-with_write_from p ts changes t (grind (arith, nat_tests)))
        | false ↦ λ h. rows_at-with_write_below q ts changes t (grind (arith, nat_tests)) ∙ same.rows t low ∙ sym (rows_at-with_write_below p ts changes t (grind (arith, nat_tests)))
      ] refl;
}

-- a state with another past
abbrev over : Past → State → State
over q st = record st { past = q }

-- no flying write lies at or below the mark
abbrev FliesAbove : ℕ → List Flying → Type 0
FliesAbove mark flying = list_all (λ w. nat_lt mark w.ts) flying ≡ true

-- the other past shows the same, and what reads it reads it from the mark on
record Alike (st : State) (q : Past) : Type 0 where
  shows : ShowTheSame st.past q
  mark : st.past.mark ≤ st.a
  last : st.past.mark ≤ st.c
  flies : FliesAbove st.past.mark st.flying

one_more : (mark : ℕ) (flying : List Flying) (w : Flying) → FliesAbove mark flying → mark < w.ts → FliesAbove mark (flying ++ w ∷ [])
one_more mark [] w h lt = both _ _ (grind (arith, nat_tests)) refl
one_more mark (v ∷ flying) w h lt = both _ _ (left _ _ h) (one_more mark flying w (right _ _ h) lt)

fewer : (mark : ℕ) (p : Flying → Bool) (flying : List Flying) → FliesAbove mark flying → FliesAbove mark (filter p flying)
fewer mark p [] h = refl
fewer mark p (w ∷ flying) h =
    elim (p w) as (λ b. FliesAbove mark (cond b (w ∷ filter p flying) (filter p flying))) [ true ↦ both _ _ (left _ _ h) (fewer mark p flying (right _ _ h)) | false ↦ fewer mark p flying (right _ _ h) ]

lt_of_eq : (a b mark : ℕ) → (a == b) ≡ true → nat_lt mark a ≡ true → mark < b
lt_of_eq a b mark e h = grind (arith, nat_tests)

-- a write that flies is above the mark
is_above : (mark s i ts : ℕ) (flying : List Flying) → FliesAbove mark flying → list_any (λ w. (w.s == s) && (w.i == i) && (w.ts == ts)) flying ≡ true → mark < ts
is_above mark s i ts [] h there = cc
is_above mark s i ts (w ∷ flying) h there =
    elim ((w.s == s) && (w.i == i) && (w.ts == ts)) as (λ b. ((w.s == s) && (w.i == i) && (w.ts == ts)) ≡ b → (b || list_any (λ w. (w.s == s) && (w.i == i) && (w.ts == ts)) flying) ≡ true → mark < ts) [
      | true ↦ λ is _. lt_of_eq w.ts ts mark (last_of (w.s == s) (w.i == i) (w.ts == ts) is) (left _ _ h)
      | false ↦ λ _ rest. is_above mark s i ts flying (right _ _ h) rest
    ] refl there

next_over : (st : State) (q : Past) (s i : ℕ) (look : Option ℕ) → IsNext st s i look → IsNext (over q st) s i look
next_over st q s i look h = record { next = h.next; rests = h.rests }

of_write : (o : Option Command) (P Q : List RowOp → Type 0) → ((ops : List RowOp) → P ops → Q ops) → IfWrite o P → IfWrite o Q
of_write (Some (command.Write w)) P Q f h = f w.ops h
of_write (Some (command.Scan scan)) P Q f h = absurd h
of_write (Some (command.Mark t)) P Q f h = absurd h
of_write (Some (command.Chore chore)) P Q f h = absurd h
of_write None P Q f h = absurd h

of_scan : (o : Option Command) (P Q : At → Type 0) → ((at : At) → P at → Q at) → IfScan o P → IfScan o Q
of_scan (Some (command.Write w)) P Q f h = absurd h
of_scan (Some (command.Scan scan)) P Q f h = f scan.at h
of_scan (Some (command.Mark t)) P Q f h = absurd h
of_scan (Some (command.Chore chore)) P Q f h = absurd h
of_scan None P Q f h = absurd h

read_over : (work : Workload) (st : State) (q : Past) (s i t : ℕ) → MayRead work st s i t → MayRead work (over q st) s i t
read_over work st q s i t h = of_scan (command_at work s i) (λ w. ReadsAt w t × IsNext st s i (look_for w t)) (λ w. ReadsAt w t × IsNext (over q st) s i (look_for w t)) (λ at k. (k.0, next_over st q s i (look_for at t) k.1)) h

-- what a line may be depends on nothing of the past
allowed_over : (work : Workload) (st : State) (q : Past) (e : Event) → Allowed work st e → Allowed work (over q st) e
allowed_over work st q (Begin s i ts m) h =
    (h.0, next_over st q s i None h.1, of_write (command_at work s i) (λ ops. MayBegin work st ops ts m) (λ ops. MayBegin work (over q st) ops ts m) (λ ops k. record { room = k.room; apart = k.apart; next = k.next }) h.2)
allowed_over work st q (End s i ts) h = h
allowed_over work st q (Look s i t m) h = (h.0, next_over st q s i None h.1, h.2, h.3)
allowed_over work st q (Rows s i t) h = (h.0, read_over work st q s i t h.1, h.2, h.3)
allowed_over work st q (Ancient s i t a) h = (h.0, read_over work st q s i t h.1, h.2, h.3)
allowed_over work st q (Busy s i t f) h = (h.0, next_over st q s i None h.1, h.2, h.3, h.4, h.5)
allowed_over work st q (Mark s i a) h = (h.0, next_over st q s i None h.1, h.2)
allowed_over work st q (Chore s i) h = (h.0, next_over st q s i None h.1, h.2)
allowed_over work st q (Large s i n) h = (h.0, next_over st q s i None h.1, h.2)
allowed_over work st q Stop h = h

after_over : (work : Workload) (st : State) (q : Past) (e : Event) → after work (over q st) e ≡ over (after work (over q st) e).past (after work st e)
after_over work st q (Begin s i ts m) = refl
after_over work st q (End s i ts) = refl
after_over work st q (Look s i t m) = refl
after_over work st q (Rows s i t) = refl
after_over work st q (Ancient s i t a) = refl
after_over work st q (Busy s i t f) = refl
after_over work st q (Mark s i a) = refl
after_over work st q (Chore s i) = refl
after_over work st q (Large s i n) = refl
after_over work st q Stop = refl

mark_rises : (work : Workload) (st : State) (o : Option Command) (a : ℕ) → IfMark o (λ t. a ≡ max st.a (min t (clean_below (least st.flying) st.c))) → st.a ≤ a
mark_rises work st (Some (command.Write w)) a h = absurd h
mark_rises work st (Some (command.Scan scan)) a h = absurd h
mark_rises work st (Some (command.Mark t)) a h = omega (arith, h)
mark_rises work st (Some (command.Chore chore)) a h = absurd h
mark_rises work st None a h = absurd h

alike_after : (work : Workload) (st : State) (q : Past) (e : Event) → Allowed work st e → Alike st q → Alike (after work st e) (after work (over q st) e).past
alike_after work st q (Begin s i ts m) h like =
    let up = begins_above work st s i ts m h in
    let low = like.last in
    let ops = ops_of (command_at work s i) in
    let changes = changes_on work.fill (rows_at st.past (ts - 1)) ops in
    let same : changes_on work.fill (rows_at q (ts - 1)) ops ≡ changes = ap (λ rows. changes_on work.fill rows ops) (like.shows.rows (ts - 1) (omega arith)) in
    let stays = mark_stays st.past ts changes in
    record {
      shows = subst (λ c. ShowTheSame (with_write st.past ts changes) (with_write q ts c)) (sym same) (write_shows st.past q ts changes like.shows);
      mark = subst (λ n. n ≤ st.a) (sym stays) like.mark;
      last = subst (λ n. n ≤ ts) (sym stays) (omega arith);
      flies = subst (λ n. FliesAbove n (st.flying ++ record { s = s; i = i; ts = ts; ops = ops } ∷ [])) (sym stays) (one_more st.past.mark st.flying (record { s = s; i = i; ts = ts; ops = ops }) like.flies (omega arith));
    }
alike_after work st q (End s i ts) h like = record { shows = like.shows; mark = like.mark; last = like.last; flies = fewer st.past.mark (λ w. not (w.s == s)) st.flying like.flies }
alike_after work st q (Look s i t m) h like = let low = like.last in record { shows = like.shows; mark = like.mark; last = omega (arith, c_rises work st (Look s i t m) h); flies = like.flies }
alike_after work st q (Rows s i t) h like = let low = like.last in record { shows = like.shows; mark = like.mark; last = omega arith; flies = like.flies }
alike_after work st q (Ancient s i t a) h like = record { shows = like.shows; mark = like.mark; last = like.last; flies = like.flies }
alike_after work st q (Busy s i t f) h like = record { shows = like.shows; mark = like.mark; last = like.last; flies = like.flies }
alike_after work st q (Mark s i a) h like = let low = like.mark in record { shows = like.shows; mark = omega (arith, mark_rises work st (command_at work s i) a h.2); last = like.last; flies = like.flies }
alike_after work st q (Chore s i) h like = record { shows = like.shows; mark = like.mark; last = like.last; flies = like.flies }
alike_after work st q (Large s i n) h like = record { shows = like.shows; mark = like.mark; last = like.last; flies = like.flies }
alike_after work st q Stop h like = record { shows = like.shows; mark = like.mark; last = like.last; flies = like.flies }

-- a line gives the same reply against either past
reply_alike : (work : Workload) (st : State) (q : Past) (e : Event) → Allowed work st e → Alike st q → reply_of work q e ≡ reply_of work st.past e
reply_alike work st q (Begin s i ts m) h like = refl
reply_alike work st q (End s i ts) h like =
    let up = is_above st.past.mark s i ts st.flying like.flies h.1 in
    ap (λ rows. Some (reply.At ts (outcomes_on work.fill rows (ops_of (command_at work s i))))) (like.shows.rows (ts - 1) (omega arith))
reply_alike work st q (Look s i t m) h like = refl
reply_alike work st q (Rows s i t) h like =
    let low = like.mark in let at = h.2 in
    ap (λ rows. Some (reply.Rows t (shown_by work.keys (command_at work s i) rows))) (like.shows.rows t (omega arith))
reply_alike work st q (Ancient s i t a) h like = refl
reply_alike work st q (Busy s i t f) h like = refl
reply_alike work st q (Mark s i a) h like = refl
reply_alike work st q (Chore s i) h like = refl
reply_alike work st q (Large s i n) h like = refl
reply_alike work st q Stop h like = refl

-- what a run from one state is from the other
record RunsOver (work : Workload) (st : State) (q : Past) (es : List Event) : Type 0 where
  run : IsRunFrom work (over q st) es
  told_same : (s i : ℕ) → told work (over q st) es s i ≡ told work st es s i
  shows : ShowTheSame (state_after work st es).past (state_after work (over q st) es).past

runs_over : (work : Workload) (st : State) (q : Past) (es : List Event) → IsRunFrom work st es → Alike st q → RunsOver work st q es
runs_over work st q [] run like = record { run = tt; told_same = λ s i. refl; shows = like.shows }
runs_over work st q (e ∷ es) run like =
    let r = (after work (over q st) e).past in
    let rest = runs_over work (after work st e) r es run.1 (alike_after work st q e run.0 like) in
    let is : after work (over q st) e ≡ over r (after work st e) = after_over work st q e in
    record {
      run = (allowed_over work st q e run.0, subst (λ u. IsRunFrom work u es) (sym is) rest.run);
      told_same = λ s i. elim (answers s i e) as (λ b. cond b (reply_of work q e) (told work (after work (over q st) e) es s i) ≡ cond b (reply_of work st.past e) (told work (after work st e) es s i)) [
        | true ↦ reply_alike work st q e run.0 like
        | false ↦ ap (λ u. told work u es s i) is ∙ rest.told_same s i
      ];
      shows = subst (λ u. ShowTheSame (state_after work (after work st e) es).past (state_after work u es).past) (sym is) rest.shows;
    }

pub never_apart : no_run_tells_them_apart
never_apart work p q c events low same run =
    let like : Alike (start work p c) q = record { shows = same; mark = omega arith; last = low; flies = refl } in
    let all = runs_over work (start work p c) q events run like in
    let is : over q (start work p c) ≡ start work q c = ap (λ m. record (start work q c) { a = m }) (sym same.mark) in
    let run_q : IsRunFrom work (start work q c) events = subst (λ st. IsRunFrom work st events) is all.run in (
      run_q,
      λ s i.
          answer_is_told work (start work q c) events s i refl run_q
          ∙ sym (ap (λ st. told work st events s i) is)
          ∙ all.told_same s i
          ∙ sym (answer_is_told work (start work p c) events s i refl run),
      subst (λ st. ShowTheSame (state_after work (start work p c) events).past (state_after work st events).past) is all.shows,
    )
