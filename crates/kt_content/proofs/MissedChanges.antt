-- The changes that a job missed.
use Rattle.std.proofs.Common.{◌≡◌, ◌≤◌, ◌<◌, ℕ, zero, suc, List, [], ◌∷◌, ◌++◌, length, map, Some, None, Option, refl, sym, ap, ◌∙◌, subst, arith, cond, true, false, Bool, append_assoc}
use Rattle.std.specs.Prelude.{nat_lt, is_some}
use Rattle.std.proofs.lemmas.Bool.{le-ltb}
use Rattle.std.proofs.lemmas.List.{append-nil}
use Rattle.kt_history.specs.declared.change.Change.{Change}
use Rattle.kt_history.specs.declared.change.Change.TheVariants.{Ins, Upd, Del}
use Rattle.kt_history.specs.declared.changes.Delta.{Delta}
use Rattle.kt_history.specs.declared.operation.OpKind.{OpKind}
use Rattle.kt_history.specs.declared.operation.OpKind.TheVariants.{Insert, Update, Delete}
use Rattle.kt_history.specs.Rows.{Row, apply}
use Rattle.kt_history.specs.Operations.{effect}
use Rattle.kt_histlaws.specs.Histories.{on_nth, first_some, Alone}
use Rattle.kt_history.specs.Stores.{Steps, Hist, row_of, push, Under}
use Rattle.kt_histlaws.specs.Disks.{led_over, before_all}
use Rattle.kt_histlaws.specs.Flights.{UpTo, AllUnder}
use Rattle.kt_histlaws.specs.Fitting.{AreSound, Rises}
use Rattle.kt_histlaws.specs.Jobs.{AreAlike, push_all}
use Rattle.kt_histlaws.proofs.OneKey.{first-on_nth, map-on_nth, row-push_from}
use Rattle.kt_histlaws.proofs.Applying.{rows-settled}
use Rattle.kt_histlaws.proofs.Fitting.{sound_push}
use Rattle.kt_histlaws.proofs.Jobs.{swap_alike, filled_push, alone-on_nth, length-on_nth, joined_pushes, no_pushes}
use Rattle.kt_rowfiles.specs.Files.{records_for, records_in, put_rising, rising, falling, row_with}
use Rattle.kt_content.specs.InMemory.{same_name, joined_name}
use Rattle.kt_content.specs.MissedChanges.{is_insert, FitInTurn, missed_changes_are_put_in, a_swap_makes_a_job_that_duplicates, AreFilled, a_change_leaves_what_is_missed, a_file_has_the_missed_changes}
use Rattle.kt_content.specs.MissedChanges.PutIn.{nothing, changes}

-- changes put in one after the other

under_more : (low high : ℕ) (steps : Steps) → low ≤ high → Under low steps → Under high steps
under_more low high [] le u = tt
under_more low high (s ∷ steps) le u = (let a = u.0 in omega arith, under_more low high steps le u.1)

all_under_more : (low high : ℕ) (hs : List Hist) → low ≤ high → AllUnder low hs → AllUnder high hs
all_under_more low high [] le u = tt
all_under_more low high (h ∷ hs) le u = (under_more low high h.steps le u.0, all_under_more low high hs le u.1)

under_pushed : (ts : ℕ) (c : Change) (steps : Steps) → Under ts steps → Under (suc ts) (steps ++ (ts, c) ∷ [])
under_pushed ts c [] u = (omega arith, tt)
under_pushed ts c (s ∷ steps) u = (let a = u.0 in omega arith, under_pushed ts c steps u.1)

all_under_pushed : (i ts : ℕ) (c : Change) (hs : List Hist) → AllUnder ts hs → AllUnder (suc ts) (on_nth i (push ts c) hs)
all_under_pushed i ts c [] u = tt
all_under_pushed zero ts c (h ∷ hs) u = (under_pushed ts c h.steps u.0, all_under_more ts (suc ts) hs (omega arith) u.1)
all_under_pushed (suc i) ts c (h ∷ hs) u = (under_more ts (suc ts) h.steps (omega arith) u.0, all_under_pushed i ts c hs u.1)

-- an operation that makes a change which is no insert, on a row that is there
kind_of : Change → OpKind
kind_of (Ins row) = Insert
kind_of (Upd cells) = Update
kind_of Del = Delete

cells_of : Change → Row
cells_of (Ins row) = row
cells_of (Upd cells) = cells
cells_of Del = []

is_made : (c : Change) (row : Option Row) → is_insert c ≡ false → is_some row ≡ true → (effect [] (kind_of c) (cells_of c) row).0 ≡ Some c
unfolding kind_of cells_of
is_made (Ins r) row no_insert there = absurd (cc)
is_made (Upd cells) None no_insert there = absurd (cc)
is_made (Upd cells) (Some old) no_insert there = refl
is_made Del None no_insert there = absurd (cc)
is_made Del (Some old) no_insert there = refl

missed_sound : (j bound k : ℕ) (missed : Steps) (outs : List Hist) → AreSound j outs → j ≤ bound → Rises bound missed → k < length outs → ((t : ℕ) → bound < t → Alone k (map (row_of t) outs))
    → AllUnder (suc bound) outs → FitInTurn missed (first_some (map (row_of bound) outs)) → AreSound j (on_nth k (push_all missed) outs)
missed_sound j bound k [] outs s le r long alone under fit = subst (λ (l : List Hist). AreSound j l) (no_pushes k outs) s
missed_sound j bound k (m ∷ missed) outs s le r long alone under fit =
    let later : List Hist = on_nth k (push m.0 m.1) outs in
    let here : first_some (map (row_of m.0) outs) ≡ first_some (map (row_of bound) outs) = ap first_some (rows-settled (suc bound) m.0 bound outs under (omega (arith, r.0)) (omega arith)) in
    let made : (effect [] (kind_of m.1) (cells_of m.1) (first_some (map (row_of m.0) outs))).0 ≡ Some m.1 =
    ap (λ o. (effect [] (kind_of m.1) (cells_of m.1) o).0) here ∙ is_made m.1 (first_some (map (row_of bound) outs)) fit.0 fit.1 in
    let up : AllUnder m.0 outs = all_under_more (suc bound) m.0 outs (omega (arith, r.0)) under in
    let next : AreSound j later = sound_push j m.0 k [] (cells_of m.1) (kind_of m.1) m.1 outs s up (omega (arith, r.0)) (alone m.0 (omega (arith, r.0))) made in
    let row : first_some (map (row_of m.0) later) ≡ apply m.1 (first_some (map (row_of bound) outs)) =
    ap first_some (map-on_nth k (push m.0 m.1) (row_of m.0) (apply m.1) (λ h. row-push_from m.0 m.0 m.1 h (omega arith)) outs)
    ∙ first-on_nth k (apply m.1) (map (row_of m.0) outs) (alone m.0 (omega (arith, r.0))) ∙ ap (apply m.1) here in
    subst (λ (l : List Hist). AreSound j l) (joined_pushes k m.0 m.1 missed outs)
    (missed_sound j m.0 k missed later next (omega (arith, r.0)) r.1 (subst (λ n. k < n) (sym (length-on_nth k (push m.0 m.1) outs)) long)
    (λ t lt. subst (Alone k) (sym (map-on_nth k (push m.0 m.1) (row_of t) (apply m.1) (λ h. row-push_from t m.0 m.1 h (omega arith)) outs)) (alone-on_nth k (apply m.1) (map (row_of t) outs) (alone t (omega (arith, r.0)))))
    (all_under_pushed k m.0 m.1 outs up) (subst (FitInTurn missed) (sym row) fit.2))

pub put_in : missed_changes_are_put_in
put_in j bound ins outs ins_now outs_now le alike sound (nothing same_ins same_outs) =
    (subst (λ (l : List Hist). AreAlike j l outs_now) (sym same_ins) (subst (λ (l : List Hist). AreAlike j ins l) (sym same_outs) alike), subst (λ (l : List Hist). AreSound j l) (sym same_outs) sound)
put_in j bound ins outs ins_now outs_now le alike sound (changes missed i k r long_ins long_outs alone_ins alone_outs none under fit is_ins is_outs) = (
  subst (λ (l : List Hist). AreAlike j l outs_now) (sym is_ins) (subst (λ (l : List Hist). AreAlike j (on_nth i (push_all missed) ins) l) (sym is_outs)
      (swap_alike j bound i k missed ins outs alike le r long_ins long_outs alone_ins alone_outs none)),
  subst (λ (l : List Hist). AreSound j l) (sym is_outs) (missed_sound j bound k missed outs sound le r long_outs alone_outs under fit),
)

pub swap_duplicates : a_swap_makes_a_job_that_duplicates
swap_duplicates fill keep old new j bound full q xs ms moves ins outs fates is le alike sound put =
    let now = put_in j bound ins outs _ _ le alike sound put in
    record { moves = moves; fates = fates; outs = is; alike = now.0; sound = now.1 }

-- what is missed of each store

pub change_leaves : a_change_leaves_what_is_missed
change_leaves missed [] [] n ts c f = tt
change_leaves missed [] (y ∷ full) n ts c f = absurd f
change_leaves missed (x ∷ stores) [] n ts c f = absurd f
change_leaves missed (x ∷ stores) (y ∷ full) n ts c f =
    subst (λ b. AreFilled missed (cond (same_name n x.0) ((x.0, push ts c x.1) ∷ stores) (x ∷ joined_name n ts c stores)) (cond b ((y.0, push ts c y.1) ∷ full) (y ∷ joined_name n ts c full))) (ap (same_name n) f.0)
    (either (same_name n x.0) (change_leaves missed stores full n ts c f.2))
  where
    either : (b : Bool) → AreFilled missed (joined_name n ts c stores) (joined_name n ts c full)
        → AreFilled missed (cond b ((x.0, push ts c x.1) ∷ stores) (x ∷ joined_name n ts c stores)) (cond b ((y.0, push ts c y.1) ∷ full) (y ∷ joined_name n ts c full))
    either true rest = (f.0, filled_push (missed x.0) x.1 y.1 ts c f.1, f.2)
    either false rest = (f.0, f.1, rest)

-- a REDO file more

in_more : (n : ℕ) (files : List (List Delta)) (file : List Delta) → records_in n (files ++ file ∷ []) ≡ records_in n files ++ records_for n file
in_more n [] file = append-nil (records_for n file)
in_more n (f ∷ files) file = ap (λ s. records_for n f ++ s) (in_more n files file) ∙ sym (append_assoc (records_for n f) (records_in n files) (records_for n file))

put_last : (x : ℕ × Change) (zs ys : Steps) (bound : ℕ) → x.0 ≤ bound → Rises bound ys → put_rising x (zs ++ ys) ≡ put_rising x zs ++ ys
put_last x [] [] bound le r = refl
put_last x [] (y ∷ ys) bound le r = let after : nat_lt y.0 x.0 ≡ false = le-ltb y.0 x.0 (omega (arith, r.0)) in rw after refl
put_last x (z ∷ zs) ys bound le r = either (nat_lt z.0 x.0) (put_last x zs ys bound le r)
  where
    either : (b : Bool) → put_rising x (zs ++ ys) ≡ put_rising x zs ++ ys → cond b (z ∷ put_rising x (zs ++ ys)) (x ∷ z ∷ (zs ++ ys)) ≡ cond b (z ∷ put_rising x zs) (x ∷ z ∷ zs) ++ ys
    either true rest = ap (λ s. z ∷ s) rest
    either false rest = refl

rising_still : (low : ℕ) (ys : Steps) → Rises low ys → rising ys ≡ ys
rising_still low [] r = refl
rising_still low (y ∷ ys) r = ap (put_rising y) (rising_still y.0 ys r.1) ∙ put_last y [] ys y.0 (omega arith) r.1

rising_more : (bound : ℕ) (xs ys : Steps) → UpTo bound xs → Rises bound ys → rising (xs ++ ys) ≡ rising xs ++ ys
rising_more bound [] ys u r = rising_still bound ys r
rising_more bound (x ∷ xs) ys u r = ap (put_rising x) (rising_more bound xs ys u.1 r) ∙ put_last x (rising xs) ys bound u.0 r

pub file_has : a_file_has_the_missed_changes
file_has q d file bound n row found up r =
    let more : rising (records_in n (d.redos ++ file ∷ [])) ≡ rising (records_in n d.redos) ++ records_for n file = ap rising (in_more n d.redos file) ∙ rising_more bound (records_in n d.redos) (records_for n file) up r in
    let undos = falling (records_in n d.undos) in
    ap (row_with (record d { redos = d.redos ++ file ∷ [] })) found
    ∙ ap (λ (s : Steps). record { first = before_all undos (Some row); steps = led_over undos (Some row) ++ s }) more
    ∙ ap (λ (s : Steps). record { first = before_all undos (Some row); steps = s }) (sym (append_assoc (led_over undos (Some row)) (rising (records_in n d.redos)) (records_for n file)))
    ∙ sym (ap (λ o. push_all (records_for n file) (row_with d o)) found)
