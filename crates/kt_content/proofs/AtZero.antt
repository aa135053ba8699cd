-- A write at 0, which lies at the mark of a fresh tablet: a replay has it among its changes, and the past that is told from 0 on in its rows.
use Rattle.std.proofs.Common.{◌≡◌, ◌<◌, ◌-◌, ℕ, zero, suc, max, List, [], ◌∷◌, ◌++◌, Some, None, Option, Ok, Err, Result, Bool, true, false, cond, refl, sym, ap, ◌∙◌, subst, arith, T}
use Rattle.std.specs.Prelude.{nat_le, ◌==◌, is_some}
use Rattle.std.specs.FinMap.Entries.{find}
use Rattle.std.proofs.lemmas.Bool.Decides.{nat_tests}
use Rattle.kt_history.specs.declared.change.Change.{Change}
use Rattle.kt_history.specs.declared.operation.RowOp.{RowOp}
use Rattle.kt_history.specs.Rows.{Row, Rows, Changes, AreApart, apply, changed, key_cmp}
use Rattle.kt_history.specs.History.{Past, PastWrite, IsPastUpTo, Rise, row_after, rows_at, raise, with_write}
use Rattle.kt_history.specs.History.{replay as rows_after}
use Rattle.kt_history.specs.Operations.{DifferentKeys, effect_on, changes_on}
use Rattle.kt_history.proofs.KeyLaws.{find-changed}
use Rattle.kt_history.proofs.RowLaws.{sorted-replay}
use Rattle.kt_history.proofs.PastLaws.{apart-changes_on}
use Rattle.kt_records.specs.declared.entry.Entry.{Entry}
use Rattle.kt_records.specs.declared.entry.Entry.TheVariants.{Replicate, Commit}
use Rattle.kt_records.specs.declared.entry.CommitRow.{CommitRow}
use Rattle.kt_journal.specs.Order.{InOrder, last_ts}
use Rattle.kt_histlaws.specs.Histories.{past_hist, timeline, joined}
use Rattle.kt_history.specs.Stores.{Steps, Hist, after_steps, row_of, step_at, step_of, never}
use Rattle.kt_histlaws.specs.Fitting.{IfFits, RiseAbove}
use Rattle.kt_histlaws.proofs.Flown.{each_op, find-none}
use Rattle.kt_loglaws.specs.Replay.{is_fitting, needed_ops, replayed, replay, last_of, commit_of, empty}
use Rattle.kt_content.specs.Places.{memory, disk, fresh, Place, Held, Moves, joined_in, moved, row_before, standing, at_first}
use Rattle.kt_content.specs.KeyOps.{KeyOp, op_on, seen, decided, if_fits, played}
use Rattle.kt_histlaws.specs.Flights.{AllOps}
use Rattle.kt_histlaws.specs.Pending.{has_key}
use Rattle.kt_content.specs.Rules.{no_rules}
use Rattle.kt_content.specs.Content.{Shown}
use Rattle.kt_content.specs.MoreOps.{with_change, with_op, told}
use Rattle.kt_content.specs.Agreement.{OpsRise}
use Rattle.kt_content.specs.Opening.{AreWrites}
use Rattle.kt_content.specs.BareLog.{the_bare_log_is_the_empty_superblock, the_empty_superblock_is_the_bare_log}
use Rattle.kt_content.proofs.Records.{KeyOf, key_of}
use Rattle.kt_content.proofs.Writes.{writes_have_rows}
use Rattle.kt_content.proofs.Fresh.{fresh_empty, nothing_shown}
use Rattle.kt_content.proofs.Opened.{none_replayed, all_kept, raise_itself}
use Rattle.kt_content.proofs.Options.{one_alone, or_none, two_oks, is_there}
use Rattle.kt_content.proofs.Seen.{seen_rise}
use Rattle.kt_content.proofs.BareLog.{alone_in, untold_plays, needed_plays, covered_plays, replayed_differ, Part, part, each_is, RiseFrom, log_rises, Replayed, replays, once_alone, above_none, write_fits, replay_ends}

-- ---- a history with a change at 0

-- as a replay has it, and as it is told from 0 on
abbrev as_replayed : Option Change → Steps → Hist
as_replayed o steps = record { first = None; steps = joined 0 o steps }

abbrev as_told : Option Change → Steps → Hist
as_told o steps = record { first = row_after o None; steps = steps }

from_there : (t : ℕ) → nat_le 0 t ≡ true
from_there t = grind (arith, nat_tests)

not_there : (t : ℕ) → 0 < t → (0 == t) ≡ false
not_there t up = grind (arith, nat_tests)

rows_same : (t : ℕ) (o : Option Change) (steps : Steps) → row_of t (as_replayed o steps) ≡ row_of t (as_told o steps)
rows_same t None steps = refl
rows_same t (Some c) steps = ap (λ b. after_steps t steps (cond b (apply c None) None)) (from_there t)

before_same : (ts : ℕ) (o : Option Change) (steps : Steps) → 0 < ts → row_before ts (as_replayed o steps) ≡ row_before ts (as_told o steps)
before_same zero o steps up = absurd (omega arith)
before_same (suc t) o steps up = rows_same t o steps

steps_same : (t : ℕ) (o : Option Change) (steps : Steps) → 0 < t → step_of t (as_replayed o steps) ≡ step_of t (as_told o steps)
steps_same t None steps up = refl
steps_same t (Some c) steps up = ap (λ b. cond b (Some c) (step_at t steps)) (not_there t up)

-- what shows the one shows the other
shown_replayed : (o : Option Change) (steps : Steps) (whole : Hist) → Shown 0 (alone_in (as_told o steps)) whole → Shown 0 (alone_in (as_replayed o steps)) whole
shown_replayed o steps whole s = record {
  shows = record {
    rows = λ t le. or_none (row_of t (as_replayed o steps)) ∙ rows_same t o steps ∙ sym (or_none (row_of t (as_told o steps))) ∙ s.shows.rows t le;
    steps = λ t up. or_none (step_of t (as_replayed o steps)) ∙ steps_same t o steps up ∙ sym (or_none (step_of t (as_told o steps))) ∙ s.shows.steps t up;
    one_row = λ t le. one_alone (row_of t (as_replayed o steps));
    one_step = λ t up. one_alone (step_of t (as_replayed o steps));
  };
  sound = record {
    fit = λ t up. (subst (λ c. IfFits c (row_of (t - 1) (as_replayed o steps))) (sym (steps_same t o steps up)) (subst (IfFits (step_of t (as_told o steps))) (sym (rows_same (t - 1) o steps)) (s.sound.fit t up).0), tt);
    rise = rises o s;
  };
}
  where
    rises : (o : Option Change) → Shown 0 (alone_in (as_told o steps)) whole → RiseAbove 0 (as_replayed o steps ∷ [])
    rises None s = s.sound.rise
    rises (Some c) s = s.sound.rise

-- both stores take the same changes
record AreBoth (o : Option Change) (a b : Held) : Type 0 where
  steps : Steps
  replayed_is : a ≡ alone_in (as_replayed o steps)
  told_is : b ≡ alone_in (as_told o steps)

joined_both : (o : Option Change) (p : Place) (ts : ℕ) (c : Change) (steps : Steps) → AreBoth o (joined_in p ts c (alone_in (as_replayed o steps))) (joined_in p ts c (alone_in (as_told o steps)))
joined_both None memory ts c steps = record { steps = steps ++ (ts, c) ∷ []; replayed_is = refl; told_is = refl }
joined_both (Some d) memory ts c steps = record { steps = steps ++ (ts, c) ∷ []; replayed_is = refl; told_is = refl }
joined_both None (disk r) ts c steps = record { steps = steps; replayed_is = refl; told_is = refl }
joined_both (Some d) (disk r) ts c steps = record { steps = steps; replayed_is = refl; told_is = refl }

moved_both : (o : Option Change) (ts : ℕ) (moves : Moves) (steps : Steps) → AreBoth o (moved ts moves (alone_in (as_replayed o steps))) (moved ts moves (alone_in (as_told o steps)))
moved_both o ts [] steps = record { steps = steps; replayed_is = refl; told_is = refl }
moved_both o ts (m ∷ moves) steps =
    let one = joined_both o m.0 ts m.1 steps in
    let more = moved_both o ts moves one.steps in
    record { steps = more.steps; replayed_is = ap (moved ts moves) one.replayed_is ∙ more.replayed_is; told_is = ap (moved ts moves) one.told_is ∙ more.told_is }

abbrev HeldAlike : Option Change → Result Held ℕ → Result Held ℕ → Type 0
HeldAlike o (Ok a) (Ok b) = AreBoth o a b
HeldAlike o (Ok a) (Err u) = ⊥
HeldAlike o (Err t) (Ok b) = ⊥
HeldAlike o (Err t) (Err u) = Unit {0}

-- and play alike above 0
played_both : (fill : Row) (o : Option Change) (low : ℕ) (xs : List KeyOp) (steps : Steps) → 0 < low → OpsRise low xs → HeldAlike o (played fill fresh (alone_in (as_replayed o steps)) xs) (played fill fresh (alone_in (as_told o steps)) xs)
played_both fill o low [] steps up rise = record { steps = steps; replayed_is = refl; told_is = refl }
played_both fill o low (x ∷ xs) steps up rise =
    let same : standing x.ts (alone_in (as_replayed o steps)) ≡ standing x.ts (alone_in (as_told o steps)) = ap (λ r. (memory, r) ∷ []) (before_same x.ts o steps (omega (arith, rise.0))) in
    subst (λ d. HeldAlike o (if_fits x.ts (λ moves. played fill fresh (moved x.ts moves (alone_in (as_replayed o steps))) xs) d) (if_fits x.ts (λ moves. played fill fresh (moved x.ts moves (alone_in (as_told o steps))) xs) (decided fill fresh (standing x.ts (alone_in (as_told o steps))) x.op x.told)))
    (ap (λ s. decided fill fresh s x.op x.told) (sym same))
    (either (decided fill fresh (standing x.ts (alone_in (as_told o steps))) x.op x.told) (λ s. played_both fill o (suc x.ts) xs s (omega arith) rise.1))
  where
    either : (d : Option Moves) → ((s : Steps) → HeldAlike o (played fill fresh (alone_in (as_replayed o s)) xs) (played fill fresh (alone_in (as_told o s)) xs))
        → HeldAlike o (if_fits x.ts (λ moves. played fill fresh (moved x.ts moves (alone_in (as_replayed o steps))) xs) d) (if_fits x.ts (λ moves. played fill fresh (moved x.ts moves (alone_in (as_told o steps))) xs) d)
    either None more = tt
    either (Some moves) more =
        let m = moved_both o x.ts moves steps in
        subst (λ (l : Held). HeldAlike o (played fill fresh l xs) (played fill fresh (moved x.ts moves (alone_in (as_told o steps))) xs)) (sym m.replayed_is)
        (subst (λ (l : Held). HeldAlike o (played fill fresh (alone_in (as_replayed o m.steps)) xs) (played fill fresh l xs)) (sym m.told_is) (more m.steps))

abbrev steps_in : Held → Steps
steps_in [] = []
steps_in (h ∷ held) = h.1.steps

held_replayed : (o : Option Change) (a b : Result Held ℕ) (steps : Steps) → HeldAlike o a b → b ≡ Ok (alone_in (as_told o steps)) → a ≡ Ok (alone_in (as_replayed o steps))
held_replayed o (Ok a) (Ok b) steps both e =
    let same : steps ≡ both.steps = ap steps_in (sym (two_oks (Ok b) b (alone_in (as_told o steps)) refl e) ∙ both.told_is) in
    ap (λ l. Ok l) (both.replayed_is ∙ ap (λ s. alone_in (as_replayed o s)) (sym same))
held_replayed o (Ok a) (Err u) steps both e = absurd both
held_replayed o (Err t) (Ok b) steps both e = absurd both
held_replayed o (Err t) (Err u) steps both e = absurd (cc)

held_told : (o : Option Change) (a b : Result Held ℕ) (held : Held) → HeldAlike o a b → a ≡ Ok held → (next : Held) × (b ≡ Ok next)
held_told o (Ok a) (Ok b) held both e = (b, refl)
held_told o (Ok a) (Err u) held both e = absurd both
held_told o (Err t) (Ok b) held both e = absurd both
held_told o (Err t) (Err u) held both e = absurd (cc)

-- ---- a past with a write at 0

abbrev with_zero : Changes → List PastWrite → Past
with_zero cs ws = record { mark = 0; base = []; writes = record { ts = 0; changes = cs } ∷ ws }

abbrev from_zero : Changes → List PastWrite → Past
from_zero cs ws = record { mark = 0; base = changed cs []; writes = ws }

rows_both : (cs : Changes) (ws : List PastWrite) (t : ℕ) → rows_at (with_zero cs ws) t ≡ rows_at (from_zero cs ws) t
rows_both cs ws t = ap (λ b. rows_after t ws (cond b (changed cs []) [])) (from_there t)

record AreTwo (cs : Changes) (a b : Past) : Type 0 where
  writes : List PastWrite
  replayed_is : a ≡ with_zero cs writes
  told_is : b ≡ from_zero cs writes

abbrev PastsAlike : Changes → Result Past ℕ → Result Past ℕ → Type 0
PastsAlike cs (Ok a) (Ok b) = AreTwo cs a b
PastsAlike cs (Ok a) (Err u) = ⊥
PastsAlike cs (Err t) (Ok b) = ⊥
PastsAlike cs (Err t) (Err u) = Unit {0}

-- is replayed alike, told from there on
replays_both : (fill : Row) (all : List Entry) (cs : Changes) (ws : List PastWrite) (records : List Entry) → PastsAlike cs (replay fill all (with_zero cs ws) records) (replay fill all (from_zero cs ws) records)
replays_both fill all cs ws [] = record { writes = ws; replayed_is = refl; told_is = refl }
replays_both fill all cs ws (Commit ts rows ∷ records) = replays_both fill all cs ws records
replays_both fill all cs ws (Replicate ts ops ∷ records) =
    let o = commit_of ts all in
    subst (λ (rows : Rows). PastsAlike cs (cond (is_fitting fill rows ops o) (replay fill all (with_write (with_zero cs ws) ts (changes_on fill rows (replayed ops o))) records) (Err ts)) (replay fill all (from_zero cs ws) (Replicate ts ops ∷ records)))
    (sym (rows_both cs ws (ts - 1)))
    (either (is_fitting fill (rows_at (from_zero cs ws) (ts - 1)) ops o) (changes_on fill (rows_at (from_zero cs ws) (ts - 1)) (replayed ops o)) (λ vs. replays_both fill all cs vs records))
  where
    either : (b : Bool) (chs : Changes) → ((vs : List PastWrite) → PastsAlike cs (replay fill all (with_zero cs vs) records) (replay fill all (from_zero cs vs) records))
        → PastsAlike cs (cond b (replay fill all (with_write (with_zero cs ws) ts chs) records) (Err ts)) (cond b (replay fill all (with_write (from_zero cs ws) ts chs) records) (Err ts))
    either false chs more = tt
    either true [] more = more ws
    either true (c ∷ chs) more = more (ws ++ record { ts = ts; changes = c ∷ chs } ∷ [])

past_told : (cs : Changes) (a b : Result Past ℕ) (final : Past) → PastsAlike cs a b → a ≡ Ok final → (ws : List PastWrite) × (final ≡ with_zero cs ws) × (b ≡ Ok (from_zero cs ws))
past_told cs (Ok a) (Ok b) final both e = let same : a ≡ final = cc in (both.writes, sym same ∙ both.replayed_is, ap (λ p. Ok p) both.told_is)
past_told cs (Ok a) (Err u) final both e = absurd both
past_told cs (Err t) (Ok b) final both e = absurd both
past_told cs (Err t) (Err u) final both e = absurd (cc)

past_replayed : (cs : Changes) (a b : Result Past ℕ) (final : Past) → PastsAlike cs a b → b ≡ Ok final → (other : Past) × (a ≡ Ok other)
past_replayed cs (Ok a) (Ok b) final both e = (a, refl)
past_replayed cs (Ok a) (Err u) final both e = absurd both
past_replayed cs (Err t) (Ok b) final both e = absurd both
past_replayed cs (Err t) (Err u) final both e = absurd (cc)

raise_zero : (cs : Changes) (ws : List PastWrite) → Rise 0 ws → raise (with_zero cs ws) 0 ≡ from_zero cs ws
raise_zero cs ws rise = λ i. record { mark = 0; base = none_replayed 0 0 ws (changed cs []) (omega arith) rise i; writes = all_kept 0 0 ws (omega arith) rise i }

as_true : (b : Bool) → T b → b ≡ true
as_true true h = refl
as_true false h = absurd h

begins : (cs : Changes) → IsPastUpTo 0 (from_zero cs [])
begins cs = record { is = record { rows = as_true _ (sorted-replay 0 (record { ts = 0; changes = cs } ∷ []) [] tt); writes = tt }; mark = omega arith; writes = refl }

shown_first : (row : Option Row) → Shown 0 (alone_in (record { first = row; steps = [] })) (record { first = row; steps = [] })
shown_first row = record {
  shows = record { rows = λ t le. or_none row; steps = λ t up. refl; one_row = λ t le. one_alone row; one_step = λ t up. tt };
  sound = record { fit = λ t up. (tt, tt); rise = (tt, tt) };
}

-- ---- the first write of a log, at 0

with_first : (o : Option Change) → with_change 0 o never ≡ as_replayed o []
with_first None = refl
with_first (Some c) = refl

module _ (fill : Row) (ops : List RowOp) (keys : DifferentKeys ops) (q : List ℕ) (xs : List KeyOp) where
  abbrev Goes : Option (List CommitRow) → Type 0
  Goes o = played fill fresh (alone_in never) (op_on q 0 ops o ++ xs) ≡ played fill fresh (alone_in (as_replayed (find key_cmp q (changes_on fill [] (replayed ops o))) [])) xs

  made : (os : List RowOp) (op : RowOp) → DifferentKeys os → op.key ≡ q → ((P : RowOp → Type 0) → AllOps P os → P op) → find key_cmp q (changes_on fill [] os) ≡ (effect_on fill [] op).0
  made os op d key every = subst (λ (k : List ℕ). find key_cmp k (changes_on fill [] os) ≡ (effect_on fill [] op).0) key
      (every (λ o. find key_cmp o.key (changes_on fill [] os) ≡ (effect_on fill [] o).0) (each_op fill [] os (changes_on fill [] os) d (λ k h. refl)))

  none_made : (o : Option (List CommitRow)) → has_key q (replayed ops o) ≡ false → played fill fresh (alone_in never) xs ≡ played fill fresh (alone_in (as_replayed (find key_cmp q (changes_on fill [] (replayed ops o))) [])) xs
  none_made o lacks = ap (λ c. played fill fresh (alone_in (as_replayed c [])) xs) (sym (find-none fill [] (replayed ops o) q lacks))

  one_made : (o : Option (List CommitRow)) (op : RowOp) → find key_cmp q (changes_on fill [] (replayed ops o)) ≡ (effect_on fill [] op).0
      → played fill fresh (alone_in (with_op fill 0 op never)) xs ≡ played fill fresh (alone_in (as_replayed (find key_cmp q (changes_on fill [] (replayed ops o))) [])) xs
  one_made o op is = ap (λ h. played fill fresh (alone_in h) xs) (with_first (effect_on fill [] op).0) ∙ ap (λ c. played fill fresh (alone_in (as_replayed c [])) xs) (sym is)

  untold_goes : KeyOf q 0 ops → Goes None
  untold_goes (KeyOf.not_there lacks is) = ap (λ l. played fill fresh (alone_in never) (l ++ xs)) is ∙ none_made None lacks
  untold_goes (KeyOf.there op key is every) = ap (λ l. played fill fresh (alone_in never) (l ++ xs)) is ∙ untold_plays fill 0 op never xs ∙ one_made None op (made ops op keys key every)

  told_goes : (rows : List CommitRow) → DifferentKeys (needed_ops ops rows) → is_fitting fill [] ops (Some rows) ≡ true → Part q 0 ops rows → Goes (Some rows)
  told_goes rows d fit (Part.nothing is lacks) = ap (λ l. played fill fresh (alone_in never) (l ++ xs)) is ∙ none_made (Some rows) lacks
  told_goes rows d fit (Part.covered op targets is none lacks) = ap (λ l. played fill fresh (alone_in never) (l ++ xs)) is ∙ covered_plays fill 0 op never xs targets none ∙ none_made (Some rows) lacks
  told_goes rows d fit (Part.needed op targets key is need every) =
      let changes : is_some (effect_on fill [] op).0 ≡ true = every (λ o. is_some (effect_on fill [] o).0 ≡ true) (each_is (λ o. is_some (effect_on fill [] o).0) (needed_ops ops rows) fit) in
      let c = is_there (effect_on fill [] op).0 changes in
      ap (λ l. played fill fresh (alone_in never) (l ++ xs)) is ∙ needed_plays fill 0 op never xs targets c.0 need c.1 ∙ one_made (Some rows) op (made (needed_ops ops rows) op d key every)

  first_goes : (o : Option (List CommitRow)) → is_fitting fill [] ops o ≡ true → Goes o
  first_goes None fit = untold_goes (key_of q 0 ops)
  first_goes (Some rows) fit = told_goes rows (replayed_differ ops (Some rows) keys) fit (part q 0 ops rows keys)

-- ---- a whole log

-- what its replay makes of each key, and that it shows the past from 0 on
record FromLog (fill : Row) (all records : List Entry) (past : Past) : Type 0 where
  ends : IsPastUpTo (last_of records) (raise past 0)
  keys : (q : List ℕ) → (played fill fresh (alone_in never) (seen q all records) ≡ Ok (alone_in (past_hist q past))) × Shown 0 (alone_in (past_hist q past)) (past_hist q (raise past 0))

above_zero : (fill : Row) (all records : List Entry) (past : Past) → Replayed fill all empty past 0 records → FromLog fill all records past
above_zero fill all records past r =
    let same : raise past 0 ≡ past = ap (raise past) (sym r.mark) ∙ raise_itself past r.ends.is in
    record {
      ends = subst (IsPastUpTo (last_of records)) (sym same) (subst (λ n. IsPastUpTo n past) (omega arith) r.ends);
      keys = λ q. ((r.keys q).0, subst (λ (p : Past). Shown 0 (alone_in (past_hist q past)) (past_hist q p)) (sym same) (r.keys q).1);
    }

module _ (fill : Row) (all : List Entry) (ops : List RowOp) (before records : List Entry) (writes : AreWrites all (Replicate 0 ops ∷ records)) (order : InOrder before (Replicate 0 ops ∷ records)) where
  rises : RiseFrom 0 records
  rises = log_rises 0 (Replicate 0 ops ∷ before) records refl order.2

  up : (q : List ℕ) → OpsRise 1 (seen q all records)
  up q = seen_rise q all (Replicate 0 ops ∷ before) records order.2

  key_told : (q : List ℕ) (cs : Changes) (ws : List PastWrite) → AreApart cs → past_hist q (from_zero cs ws) ≡ as_told (find key_cmp q cs) (timeline q ws)
  key_told q cs ws apart = ap (λ f. record { first = f; steps = timeline q ws }) (find-changed q cs [] apart)

  abbrev FirstGoes : Changes → Type 0
  FirstGoes cs = (q : List ℕ) → played fill fresh (alone_in never) (op_on q 0 ops (commit_of 0 all) ++ seen q all records) ≡ played fill fresh (alone_in (as_replayed (find key_cmp q cs) [])) (seen q all records)

  key_from : (past : Past) (cs : Changes) (ws : List PastWrite) (apart : AreApart cs) (goes : FirstGoes cs) (r : Replayed fill all (from_zero cs []) (from_zero cs ws) 0 records) (q : List ℕ)
      → (played fill fresh (alone_in never) (seen q all (Replicate 0 ops ∷ records)) ≡ Ok (alone_in (past_hist q (with_zero cs ws)))) × Shown 0 (alone_in (past_hist q (with_zero cs ws))) (past_hist q (from_zero cs ws))
  key_from past cs ws apart goes r q =
      let change = find key_cmp q cs in
      let runs : played fill fresh (alone_in (as_told change [])) (seen q all records) ≡ Ok (alone_in (as_told change (timeline q ws))) =
      ap (λ h. played fill fresh (alone_in h) (seen q all records)) (sym (key_told q cs [] apart)) ∙ (r.keys q).0 ∙ ap (λ h. Ok (alone_in h)) (key_told q cs ws apart) in
      let held = held_replayed change (played fill fresh (alone_in (as_replayed change [])) (seen q all records)) (played fill fresh (alone_in (as_told change [])) (seen q all records)) (timeline q ws) (played_both fill change 1 (seen q all records) [] (omega arith) (up q)) runs in
      (goes q ∙ held, shown_replayed change (timeline q ws) (past_hist q (from_zero cs ws)) (subst (λ (h : Hist). Shown 0 (alone_in h) (past_hist q (from_zero cs ws))) (key_told q cs ws apart) (r.keys q).1))

  from_first : (past : Past) (cs : Changes) → AreApart cs → FirstGoes cs → replay fill all (with_write empty 0 cs) records ≡ Ok past → FromLog fill all (Replicate 0 ops ∷ records) past
  from_first past [] apart goes h =
      let r = above_zero fill all records past (replays fill all empty past 0 records writes.2 rises (fresh_empty no_rules fill).ends nothing_shown h) in
      record { ends = subst (λ n. IsPastUpTo n (raise past 0)) (omega arith) r.ends; keys = λ q. (goes q ∙ (r.keys q).0, (r.keys q).1) }
  from_first past (c ∷ chs) apart goes h =
      let cs : Changes = c ∷ chs in
      let both = past_told cs (replay fill all (with_zero cs []) records) (replay fill all (from_zero cs []) records) past (replays_both fill all cs [] records) h in
      let r = replays fill all (from_zero cs []) (from_zero cs both.0) 0 records writes.2 rises (begins cs) (λ q. shown_first (find key_cmp q (changed cs []))) both.2 in
      let raised : raise (with_zero cs both.0) 0 ≡ from_zero cs both.0 = raise_zero cs both.0 r.ends.is.writes in
      subst (FromLog fill all (Replicate 0 ops ∷ records)) (sym both.1) (record {
        ends = subst (IsPastUpTo (max 0 (last_of records))) (sym raised) r.ends;
        keys = λ q. (let k = key_from past cs both.0 apart goes r q in (k.0, subst (λ (p : Past). Shown 0 (alone_in (past_hist q (with_zero cs both.0))) (past_hist q p)) (sym raised) k.1));
      })

  apart_first : AreApart (changes_on fill [] (replayed ops (commit_of 0 all)))
  apart_first = apart-changes_on fill [] (replayed ops (commit_of 0 all)) (replayed_differ ops (commit_of 0 all) writes.0)

  goes_first : is_fitting fill [] ops (commit_of 0 all) ≡ true → FirstGoes (changes_on fill [] (replayed ops (commit_of 0 all)))
  goes_first fit q = first_goes fill ops writes.0 q (seen q all records) (commit_of 0 all) fit

  from_zero_on : (past : Past) → replay fill all empty (Replicate 0 ops ∷ records) ≡ Ok past → FromLog fill all (Replicate 0 ops ∷ records) past
  from_zero_on past h = either (is_fitting fill [] ops (commit_of 0 all)) refl h
    where
      either : (b : Bool) → is_fitting fill [] ops (commit_of 0 all) ≡ b → cond b (replay fill all (with_write empty 0 (changes_on fill [] (replayed ops (commit_of 0 all)))) records) (Err 0) ≡ Ok past → FromLog fill all (Replicate 0 ops ∷ records) past
      either true fit h = from_first past (changes_on fill [] (replayed ops (commit_of 0 all))) apart_first (goes_first fit) h
      either false fit h = absurd (cc)

  -- and where each key goes on to an end, so does the replay
  abbrev EachEnds : Type 0
  EachEnds = (q : List ℕ) → (held : Held) × (played fill fresh (alone_in never) (seen q all (Replicate 0 ops ∷ records)) ≡ Ok held)

  ends_first : (cs : Changes) → AreApart cs → FirstGoes cs → EachEnds → (final : Past) × (replay fill all (with_write empty 0 cs) records ≡ Ok final)
  ends_first [] apart goes f = replay_ends fill all empty 0 records writes.2 rises (fresh_empty no_rules fill).ends nothing_shown (λ q. ((f q).0, sym (goes q) ∙ (f q).1))
  ends_first (c ∷ chs) apart goes f =
      let cs : Changes = c ∷ chs in
      let told_ends = replay_ends fill all (from_zero cs []) 0 records writes.2 rises (begins cs) (λ q. shown_first (find key_cmp q (changed cs [])))
      (λ q. (let change = find key_cmp q cs in
      let next = held_told change (played fill fresh (alone_in (as_replayed change [])) (seen q all records)) (played fill fresh (alone_in (as_told change [])) (seen q all records)) (f q).0 (played_both fill change 1 (seen q all records) [] (omega arith) (up q)) (sym (goes q) ∙ (f q).1) in
      (next.0, ap (λ h. played fill fresh (alone_in h) (seen q all records)) (key_told q cs [] apart) ∙ next.1))) in
      past_replayed cs (replay fill all (with_zero cs []) records) (replay fill all (from_zero cs []) records) told_ends.0 (replays_both fill all cs [] records) told_ends.1

  ends_zero : EachEnds → (final : Past) × (replay fill all empty (Replicate 0 ops ∷ records) ≡ Ok final)
  ends_zero f =
      let fit : is_fitting fill [] ops (commit_of 0 all) ≡ true = write_fits fill empty 0 (λ q. refl) (λ q. seen q all records) ops (commit_of 0 all) writes.0 f in
      let end = ends_first (changes_on fill [] (replayed ops (commit_of 0 all))) apart_first (goes_first fit) f in
      (end.0, ap (λ b. cond b (replay fill all (with_write empty 0 (changes_on fill [] (replayed ops (commit_of 0 all)))) records) (Err 0)) fit ∙ end.1)

from_log : (fill : Row) (all before records : List Entry) (past : Past) → AreWrites all records → last_ts before ≡ None → InOrder before records → replay fill all empty records ≡ Ok past → FromLog fill all records past
from_log fill all before [] past writes none order h =
    let same : empty ≡ past = cc in
    subst (FromLog fill all []) same (record { ends = (fresh_empty no_rules fill).ends; keys = λ q. (refl, nothing_shown q) })
from_log fill all before (Commit ts rows ∷ records) past writes none order h =
    let r = from_log fill all (Commit ts rows ∷ before) records past writes none order.2 h in
    record { ends = r.ends; keys = r.keys }
from_log fill all before (Replicate zero ops ∷ records) past writes none order h = from_zero_on fill all ops before records writes order past h
from_log fill all before (Replicate (suc t) ops ∷ records) past writes none order h =
    above_zero fill all (Replicate (suc t) ops ∷ records) past
    (replays fill all empty past 0 (Replicate (suc t) ops ∷ records) writes (omega arith, log_rises (suc t) (Replicate (suc t) ops ∷ before) records refl order.2) (fresh_empty no_rules fill).ends nothing_shown h)

log_ends : (fill : Row) (all before records : List Entry) → AreWrites all records → last_ts before ≡ None → InOrder before records
    → ((q : List ℕ) → (held : Held) × (played fill fresh (alone_in never) (seen q all records) ≡ Ok held)) → (final : Past) × (replay fill all empty records ≡ Ok final)
log_ends fill all before [] writes none order f = (empty, refl)
log_ends fill all before (Commit ts rows ∷ records) writes none order f = log_ends fill all (Commit ts rows ∷ before) records writes none order.2 f
log_ends fill all before (Replicate zero ops ∷ records) writes none order f = ends_zero fill all ops before records writes order f
log_ends fill all before (Replicate (suc t) ops ∷ records) writes none order f =
    replay_ends fill all empty 0 (Replicate (suc t) ops ∷ records) writes (omega arith, log_rises (suc t) (Replicate (suc t) ops ∷ before) records refl order.2) (fresh_empty no_rules fill).ends nothing_shown f

pub bare_log : the_bare_log_is_the_empty_superblock
bare_log rules fill records past log takes is =
    let whole = from_log fill records [] records past (writes_have_rows records log) refl log is in
    record {
      enough = omega arith;
      numbers = tt;
      mark = refl;
      last = omega arith;
      ends = whole.ends;
      passes = takes;
      files = tt;
      keys = λ q. record { held = alone_in (past_hist q past); is = (whole.keys q).0; shown = (whole.keys q).1; once = once_alone (past_hist q past) (seen q records records); above = above_none fill q (alone_in (past_hist q past)) (seen q records records) };
    }

pub log_alone : the_empty_superblock_is_the_bare_log
log_alone rules fill records c past log is =
    let end = log_ends fill records [] records (writes_have_rows records log) refl log (λ q. ((is.keys q).held, (is.keys q).is)) in
    let whole = from_log fill records [] records end.0 (writes_have_rows records log) refl log end.1 in (
      end.0,
      end.1,
      λ q. (
          let key = is.keys q in
          let same : key.held ≡ alone_in (past_hist q end.0) = two_oks (played fill fresh (at_first q fresh) (seen q records records)) key.held (alone_in (past_hist q end.0)) key.is (whole.keys q).0 in
          let a = (whole.keys q).1 in
          let b : Shown 0 (alone_in (past_hist q end.0)) (past_hist q past) = subst (λ (l : Held). Shown 0 l (past_hist q past)) same key.shown in
          record { rows = λ t le. sym (a.shows.rows t le) ∙ b.shows.rows t le; steps = λ t lt. sym (a.shows.steps t lt) ∙ b.shows.steps t lt }),
    )
