-- The life of a split.
use Rattle.std.proofs.Common.{◌≡◌, ℕ, zero, suc, ◌<◌, ◌≤◌, List, [], ◌∷◌, ◌++◌, Some, None, Option, refl, true, false, Bool, cond, sym, ap, ◌∙◌, subst, arith, length, map, append_assoc}
use Rattle.std.specs.Prelude.{nat_lt, is_some}
use Rattle.std.proofs.lemmas.Bool.{lt-ltb}
use Rattle.std.proofs.lemmas.List.{append-nil}
use Rattle.std.proofs.lemmas.List.Elements.{filter-append}
use Rattle.kt_history.specs.declared.change.Change.{Change}
use Rattle.kt_history.specs.declared.change.Change.TheVariants.{Ins, Upd, Del}
use Rattle.kt_history.specs.declared.operation.OpKind.{OpKind}
use Rattle.kt_history.specs.declared.operation.OpKind.TheVariants.{Insert, Update, Delete}
use Rattle.kt_history.specs.Rows.{Row}
use Rattle.kt_history.specs.Operations.{effect}
use Rattle.kt_history.specs.Stores.{Steps, Hist, row_of, step_of, push, Under}
use Rattle.kt_histlaws.specs.Fitting.{AreSound, Rises, RiseAbove, steps_above}
use Rattle.kt_histlaws.specs.Flights.{UpTo, AllUnder}
use Rattle.kt_histlaws.specs.Histories.{on_nth, first_some, Alone}
use Rattle.kt_histlaws.specs.Jobs.{AreAlike}
use Rattle.kt_histlaws.proofs.Applying.{none_under, all_under}
use Rattle.kt_histlaws.proofs.Fitting.{sound_push}
use Rattle.kt_histlaws.proofs.Jobs.{both_alike}
use Rattle.kt_dup.specs.Laws.{what_is_written_is_split, a_change_to_the_input_is_missed, a_change_to_both_keeps_the_split, what_is_put_in_is_missed_no_more, where_nothing_is_missed_both_are_alike}
use Rattle.kt_dup.specs.Split.{Lacks, AllLack, IsOfRow, AllOfRows, TakeNoInsert, IsSplit, none_missed}
use Rattle.kt_dup.proofs.Lists.{rises_more, rises_behind, none_stays}

-- an operation that makes the change, on a row that is there
kind_of : Change → OpKind
kind_of (Ins row) = Insert
kind_of (Upd cells) = Update
kind_of Del = Delete

cells_of : Change → Row
cells_of (Ins row) = row
cells_of (Upd cells) = cells
cells_of Del = []

is_made : (c : Change) (row : Option Row) → IsOfRow c → is_some row ≡ true → (effect [] (kind_of c) (cells_of c) row).0 ≡ Some c
unfolding kind_of cells_of
is_made (Ins r) row of_row there = absurd (cc)
is_made (Upd cells) None of_row there = absurd (cc)
is_made (Upd cells) (Some old) of_row there = refl
is_made Del None of_row there = absurd (cc)
is_made Del (Some old) of_row there = refl

-- the full outputs have no change from there on, where the inputs have none
none_of_all : (ts t : ℕ) (hs : List Hist) → AllUnder ts hs → ts ≤ t → first_some (map (step_of t) hs) ≡ None
none_of_all ts t [] un le = refl
none_of_all ts t (h ∷ hs) un le = rw (none_under ts t h.steps un.0 le) (none_of_all ts t hs un.1 le)

-- what lies below a time, in two lists of which one stands behind the other
under_left : (ts : ℕ) (xs ys : Steps) → Under ts (xs ++ ys) → Under ts xs
under_left ts [] ys un = tt
under_left ts (x ∷ xs) ys un = (un.0, under_left ts xs ys un.1)

under_right : (ts : ℕ) (xs ys : Steps) → Under ts (xs ++ ys) → Under ts ys
under_right ts [] ys un = un
under_right ts (x ∷ xs) ys un = under_right ts xs ys un.1

-- an output takes a change above all that it will have
lacks_push : (bound ts : ℕ) (c : Change) (missed : Steps) (out full : Hist) → bound < ts → Under ts full.steps → Lacks bound missed out full → Lacks bound missed (push ts c out) (push ts c full)
lacks_push bound ts c missed out full lt un l =
    let under : Under ts (missed ++ l.filled.doubled) = under_right ts l.filled.written (missed ++ l.filled.doubled)
    (subst (Under ts) (l.filled.full_is ∙ append_assoc l.filled.written missed l.filled.doubled) un) in
    record {
      filled = record {
        written = l.filled.written;
        doubled = l.filled.doubled ++ (ts, c) ∷ [];
        first = l.filled.first;
        out_is = ap (λ s. s ++ (ts, c) ∷ []) l.filled.out_is ∙ append_assoc l.filled.written l.filled.doubled ((ts, c) ∷ []);
        full_is = ap (λ s. s ++ (ts, c) ∷ []) l.filled.full_is ∙ append_assoc (l.filled.written ++ missed) l.filled.doubled ((ts, c) ∷ []);
      };
      written = l.written;
      later = subst (Rises bound) (append_assoc missed l.filled.doubled ((ts, c) ∷ [])) (rises_more bound ts c (missed ++ l.filled.doubled) l.later under lt);
    }

all_lack : (bound ts k : ℕ) (c : Change) (missed : List Steps) (outs full : List Hist) → bound < ts → AllUnder ts full → AllLack bound missed outs full
    → AllLack bound missed (on_nth k (push ts c) outs) (on_nth k (push ts c) full)
all_lack bound ts k c [] [] [] lt un l = tt
all_lack bound ts zero c (m ∷ missed) (out ∷ outs) (h ∷ full) lt un l = (lacks_push bound ts c m out h lt un.0 l.0, l.1)
all_lack bound ts (suc k) c (m ∷ missed) (out ∷ outs) (h ∷ full) lt un l = (l.0, all_lack bound ts k c missed outs full lt un.1 l.1)
all_lack bound ts k c [] [] (h ∷ full) lt un l = absurd l
all_lack bound ts k c [] (out ∷ outs) full lt un l = absurd l
all_lack bound ts k c (m ∷ missed) [] full lt un l = absurd l
all_lack bound ts k c (m ∷ missed) (out ∷ outs) [] lt un l = absurd l

-- the inputs go on to rise, and take no insert
above_pushed : (bound ts : ℕ) (c : Change) (steps : Steps) → bound < ts → steps_above bound (steps ++ (ts, c) ∷ []) ≡ steps_above bound steps ++ (ts, c) ∷ []
above_pushed bound ts c steps lt = filter-append (λ (x : ℕ × Change). nat_lt bound x.0) steps ((ts, c) ∷ []) ∙ ap (λ b. steps_above bound steps ++ cond b ((ts, c) ∷ []) []) (lt-ltb bound ts lt)

under_above : (bound ts : ℕ) (steps : Steps) → Under ts steps → Under ts (steps_above bound steps)
under_above bound ts [] un = tt
under_above bound ts (d ∷ steps) un = one (nat_lt bound d.0) (under_above bound ts steps un.1)
  where
    one : (b : Bool) → Under ts (steps_above bound steps) → Under ts (cond b (d ∷ steps_above bound steps) (steps_above bound steps))
    one true rest = (un.0, rest)
    one false rest = rest

rise_pushed : (bound ts i : ℕ) (c : Change) (hs : List Hist) → bound < ts → AllUnder ts hs → RiseAbove bound hs → RiseAbove bound (on_nth i (push ts c) hs)
rise_pushed bound ts i c [] lt un r = tt
rise_pushed bound ts zero c (h ∷ hs) lt un r =
    (subst (Rises bound) (sym (above_pushed bound ts c h.steps lt)) (rises_more bound ts c (steps_above bound h.steps) r.0 (under_above bound ts h.steps un.0) lt), r.1)
rise_pushed bound ts (suc i) c (h ∷ hs) lt un r = (r.0, rise_pushed bound ts i c hs lt un.1 r.1)

of_rows_more : (ts : ℕ) (c : Change) (steps : Steps) → IsOfRow c → AllOfRows steps → AllOfRows (steps ++ (ts, c) ∷ [])
of_rows_more ts c [] of_row all = (of_row, tt)
of_rows_more ts c (d ∷ steps) of_row all = (all.0, of_rows_more ts c steps of_row all.1)

no_insert_pushed : (bound ts i : ℕ) (c : Change) (hs : List Hist) → bound < ts → IsOfRow c → TakeNoInsert bound hs → TakeNoInsert bound (on_nth i (push ts c) hs)
no_insert_pushed bound ts i c [] lt of_row t = tt
no_insert_pushed bound ts zero c (h ∷ hs) lt of_row t = (subst AllOfRows (sym (above_pushed bound ts c h.steps lt)) (of_rows_more ts c (steps_above bound h.steps) of_row t.0), t.1)
no_insert_pushed bound ts (suc i) c (h ∷ hs) lt of_row t = (t.0, no_insert_pushed bound ts i c hs lt of_row t.1)

-- as many outputs as full ones
same_count : (bound : ℕ) (missed : List Steps) (outs full : List Hist) → AllLack bound missed outs full → length outs ≡ length full
same_count bound [] [] [] l = refl
same_count bound (m ∷ missed) (out ∷ outs) (h ∷ full) l = ap suc (same_count bound missed outs full l.1)
same_count bound [] [] (h ∷ full) l = absurd l
same_count bound [] (out ∷ outs) full l = absurd l
same_count bound (m ∷ missed) [] full l = absurd l
same_count bound (m ∷ missed) (out ∷ outs) [] l = absurd l

-- a change that reaches an input, and the full output: whatever the outputs lack then
module _ (j bound ts i k : ℕ) (c : Change) (missed : List Steps) (ins outs : List Hist) (s : IsSplit j bound missed ins outs) (le : j ≤ bound) (lt : bound < ts) (of_row : IsOfRow c)
    (in_ins : i < length ins) (in_outs : k < length outs) (un : AllUnder ts ins)
    (alone_in : (t : ℕ) → ts ≤ t → Alone i (map (row_of t) ins)) (alone_out : (t : ℕ) → ts ≤ t → Alone k (map (row_of t) s.full))
    (there : is_some (first_some (map (row_of ts) ins)) ≡ true) where
  none : (t : ℕ) → ts ≤ t → first_some (map (step_of t) ins) ≡ None
  none t from = none_of_all ts t ins un from

  pub full_under : AllUnder ts s.full
  full_under = all_under ts s.full (λ t from. sym (s.alike.steps t (omega arith)) ∙ none t from)

  made : (effect [] (kind_of c) (cells_of c) (first_some (map (row_of ts) s.full))).0 ≡ Some c
  made = is_made c (first_some (map (row_of ts) s.full)) of_row (ap is_some (sym (s.alike.rows ts (omega arith))) ∙ there)

  pub goes_on : (later : List Steps) (now : List Hist) → AllLack bound later now (on_nth k (push ts c) s.full) → IsSplit j bound later (on_nth i (push ts c) ins) now
  goes_on later now lack = record {
    full = on_nth k (push ts c) s.full;
    lack = lack;
    alike = both_alike j ts i k c ins s.full s.alike (omega arith) in_ins (subst (λ n. k < n) (same_count bound missed outs s.full s.lack) in_outs) alone_in alone_out (none ts (omega arith));
    sound = sound_push j ts k [] (cells_of c) (kind_of c) c s.full s.sound full_under (omega arith) (alone_out ts (omega arith)) made;
    rise = rise_pushed bound ts i c ins lt un s.rise;
    no_insert = no_insert_pushed bound ts i c ins lt of_row s.no_insert;
  }

pub both_keep : a_change_to_both_keeps_the_split
both_keep j bound ts i k c missed ins outs s le lt of_row in_ins in_outs un alone_in alone_out there =
    goes_on j bound ts i k c missed ins outs s le lt of_row in_ins in_outs un alone_in alone_out there missed (on_nth k (push ts c) outs)
    (all_lack bound ts k c missed outs s.full lt (full_under j bound ts i k c missed ins outs s le lt of_row in_ins in_outs un alone_in alone_out there) s.lack)

-- until the swap the outputs have nothing above the bound
none_between : (bound : ℕ) (steps : Steps) → Under (suc bound) steps → Rises bound steps → steps ≡ []
none_between bound [] un r = refl
none_between bound (c ∷ steps) un r = absurd (omega (arith, un.0, r.0))

misses_push : (bound ts : ℕ) (c : Change) (missed : Steps) (out full : Hist) → bound < ts → Under ts full.steps → Under (suc bound) out.steps → Lacks bound missed out full
    → Lacks bound (missed ++ (ts, c) ∷ []) out (push ts c full)
misses_push bound ts c missed out full lt un low l =
    let none : l.filled.doubled ≡ [] = none_between bound l.filled.doubled (under_right (suc bound) l.filled.written l.filled.doubled (subst (Under (suc bound)) l.filled.out_is low)) (rises_behind bound missed l.filled.doubled l.later) in
    let before : full.steps ≡ l.filled.written ++ missed = l.filled.full_is ∙ ap (λ d. (l.filled.written ++ missed) ++ d) none ∙ append-nil (l.filled.written ++ missed) in
    let rest : missed ++ l.filled.doubled ≡ missed = ap (λ d. missed ++ d) none ∙ append-nil missed in
    let under : Under ts missed = under_right ts l.filled.written missed (subst (Under ts) before un) in
    record {
      filled = record {
        written = l.filled.written;
        doubled = [];
        first = l.filled.first;
        out_is = l.filled.out_is ∙ ap (λ d. l.filled.written ++ d) none;
        full_is = ap (λ s. s ++ (ts, c) ∷ []) before ∙ append_assoc l.filled.written missed ((ts, c) ∷ []) ∙ sym (append-nil (l.filled.written ++ (missed ++ (ts, c) ∷ [])));
      };
      written = l.written;
      later = subst (Rises bound) (sym (append-nil (missed ++ (ts, c) ∷ []))) (rises_more bound ts c missed (subst (Rises bound) rest l.later) under lt);
    }

all_miss : (bound ts k : ℕ) (c : Change) (missed : List Steps) (outs full : List Hist) → bound < ts → AllUnder ts full → AllUnder (suc bound) outs → AllLack bound missed outs full
    → AllLack bound (on_nth k (λ m. m ++ (ts, c) ∷ []) missed) outs (on_nth k (push ts c) full)
all_miss bound ts k c [] [] [] lt un low l = tt
all_miss bound ts zero c (m ∷ missed) (out ∷ outs) (h ∷ full) lt un low l = (misses_push bound ts c m out h lt un.0 low.0 l.0, l.1)
all_miss bound ts (suc k) c (m ∷ missed) (out ∷ outs) (h ∷ full) lt un low l = (l.0, all_miss bound ts k c missed outs full lt un.1 low.1 l.1)
all_miss bound ts k c [] [] (h ∷ full) lt un low l = absurd l
all_miss bound ts k c [] (out ∷ outs) full lt un low l = absurd l
all_miss bound ts k c (m ∷ missed) [] full lt un low l = absurd l
all_miss bound ts k c (m ∷ missed) (out ∷ outs) [] lt un low l = absurd l

pub input_misses : a_change_to_the_input_is_missed
input_misses j bound ts i k c missed ins outs s le lt of_row in_ins in_outs un low alone_in alone_out there =
    goes_on j bound ts i k c missed ins outs s le lt of_row in_ins in_outs un alone_in alone_out there (on_nth k (λ m. m ++ (ts, c) ∷ []) missed) outs
    (all_miss bound ts k c missed outs s.full lt (full_under j bound ts i k c missed ins outs s le lt of_row in_ins in_outs un alone_in alone_out there) low s.lack)

-- outputs as of the bound
up_to : (bound : ℕ) (steps : Steps) → Under (suc bound) steps → UpTo bound steps
up_to bound [] un = tt
up_to bound (c ∷ steps) un = (omega (arith, un.0), up_to bound steps un.1)

none_lack : (bound : ℕ) (outs : List Hist) → AllUnder (suc bound) outs → AllLack bound (none_missed outs) outs outs
none_lack bound [] un = tt
none_lack bound (h ∷ outs) un = (
  record {
    filled = record {
      written = h.steps;
      doubled = [];
      first = refl;
      out_is = sym (append-nil h.steps);
      full_is = sym (ap (λ s. s ++ []) (append-nil h.steps) ∙ append-nil h.steps);
    };
    written = up_to bound h.steps un.0;
    later = tt;
  },
  none_lack bound outs un.1,
)

none_rise : (bound : ℕ) (hs : List Hist) → AllUnder (suc bound) hs → RiseAbove bound hs
none_rise bound [] un = tt
none_rise bound (h ∷ hs) un = (subst (Rises bound) (sym (none_stays bound h.steps (up_to bound h.steps un.0))) tt, none_rise bound hs un.1)

none_insert : (bound : ℕ) (hs : List Hist) → AllUnder (suc bound) hs → TakeNoInsert bound hs
none_insert bound [] un = tt
none_insert bound (h ∷ hs) un = (subst AllOfRows (sym (none_stays bound h.steps (up_to bound h.steps un.0))) tt, none_insert bound hs un.1)

pub written_splits : what_is_written_is_split
written_splits j bound ins outs alike sound un_ins un_outs = record {
  full = outs;
  lack = none_lack bound outs un_outs;
  alike = alike;
  sound = sound;
  rise = none_rise bound ins un_ins;
  no_insert = none_insert bound ins un_ins;
}

-- once the missed changes are put in
filled_lacks : (bound : ℕ) (missed : Steps) (out full : Hist) → Lacks bound missed out full → Lacks bound [] full full
filled_lacks bound missed out full l =
    let is : full.steps ≡ l.filled.written ++ (missed ++ l.filled.doubled) = l.filled.full_is ∙ append_assoc l.filled.written missed l.filled.doubled in
    record {
      filled = record {
        written = l.filled.written;
        doubled = missed ++ l.filled.doubled;
        first = refl;
        out_is = is;
        full_is = is ∙ ap (λ w. w ++ (missed ++ l.filled.doubled)) (sym (append-nil l.filled.written));
      };
      written = l.written;
      later = l.later;
    }

all_filled : (bound : ℕ) (missed : List Steps) (outs full : List Hist) → AllLack bound missed outs full → AllLack bound (none_missed full) full full
all_filled bound [] [] [] l = tt
all_filled bound (m ∷ missed) (out ∷ outs) (h ∷ full) l = (filled_lacks bound m out h l.0, all_filled bound missed outs full l.1)
all_filled bound [] [] (h ∷ full) l = absurd l
all_filled bound [] (out ∷ outs) full l = absurd l
all_filled bound (m ∷ missed) [] full l = absurd l
all_filled bound (m ∷ missed) (out ∷ outs) [] l = absurd l

pub put_in_splits : what_is_put_in_is_missed_no_more
put_in_splits j bound missed ins outs s = record { full = s.full; lack = all_filled bound missed outs s.full s.lack; alike = s.alike; sound = s.sound; rise = s.rise; no_insert = s.no_insert }

full_is_out : (bound : ℕ) (outs full : List Hist) → AllLack bound (none_missed outs) outs full → full ≡ outs
full_is_out bound [] [] l = refl
full_is_out bound [] (h ∷ full) l = absurd l
full_is_out bound (out ∷ outs) [] l = absurd l
full_is_out bound (out ∷ outs) (h ∷ full) l =
    let f = l.0.filled in
    let steps : h.steps ≡ out.steps = f.full_is ∙ ap (λ w. w ++ f.doubled) (append-nil f.written) ∙ sym f.out_is in
    let first : h.first ≡ out.first = f.first in
    let rest : full ≡ outs = full_is_out bound outs full l.1 in
    λ k. record { first = first k; steps = steps k } ∷ rest k

pub none_missed_alike : where_nothing_is_missed_both_are_alike
none_missed_alike j bound ins outs s =
    let is : s.full ≡ outs = full_is_out bound outs s.full s.lack in
    (subst (AreAlike j ins) is s.alike, subst (AreSound j) is s.sound)
