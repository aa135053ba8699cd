-- What an opening says is a past with no write above its last timestamp, each change of which fits.
use Rattle.std.proofs.Common.{◌≡◌, ℕ, zero, suc, ◌+◌, ◌<◌, ◌≤◌, Bool, true, false, List, [], ◌∷◌, ◌++◌, length, Option, Some, None, Ok, refl, sym, ap, ◌∙◌, subst, arith}
use Rattle.std.specs.Prelude.{if◌then◌else◌, nat_le, nat_lt, ◌&&◌, codes}
use Rattle.std.specs.Option.{option_map, option_and_then}
use Rattle.std.specs.List.{list_all}
use Rattle.std.specs.FinMap.Entries.{find, is_sorted}
use Rattle.std.proofs.lemmas.Bool.{and_parts}
use Rattle.std.proofs.lemmas.Bool.Decides.{nat_tests}
use Rattle.kt_base.specs.Literals.{same}
use Rattle.kt_schema.specs.declared.column.Column.{Column}
use Rattle.kt_history.specs.declared.change.Change.{Change}
use Rattle.kt_history.specs.Rows.{Row, Rows, Changes, fits, changed, key_cmp}
use Rattle.kt_history.specs.History.{Past, PastWrite, IsPastUpTo, IsUpTo, Rise}
use Rattle.kt_history.proofs.PastLaws.{ends_with_write}
use Rattle.kt_script.specs.Pieces.{cut}
use Rattle.kt_judge.specs.Openings.{EachFits, IsOpening}
use Rattle.kt_opening.specs.declared.opening_text.Read.{Read}
use Rattle.kt_opening.specs.OpeningLines.{head_in, in_order, begin_in, count_in, write_in, in_turn, turn_in, row_in, change_in}
use Rattle.kt_opening.specs.OpeningTexts.{Stage, begin, count, rows, turn, changes, rows_due, changes_due, no_rows, written, rows_now, fitting, joined, is_next, Found, found, stop, ending, or_else, or_stop, after, opening_from, opening_in, found_of}
use Rattle.kt_opening.proofs.Rising.{sorted_next, sorted_apart}

le_from : (a b : ℕ) → nat_le a b ≡ true → a ≤ b
le_from a b h = grind (arith, nat_tests)

lt_from : (a b : ℕ) → nat_lt a b ≡ true → a < b
lt_from a b h = grind (arith, nat_tests)

-- a past with no write above a time, each change of which fits
pub record Stands (c : ℕ) (past : Past) : Type 0 where
  pub is : IsPastUpTo c past
  pub each : EachFits past.writes past.base

-- each of some changes fits the rows
abbrev pub AllFit : Rows → Changes → Type 0
AllFit table cs = list_all (λ (c : List ℕ × Change). fits c.1 (find key_cmp c.0 table)) cs ≡ true

-- above a change of a write
pub record Underway (c : ℕ) (past : Past) (ts : ℕ) (done : Changes) : Type 0 where
  pub low : ℕ
  pub stands : Stands low past
  pub above : low < ts
  pub top : ts ≤ c
  pub sorted : is_sorted key_cmp done ≡ true
  pub fit : AllFit (rows_now past) done

-- what holds above each line
abbrev pub StageHolds : Stage → Type 0
StageHolds begin = Unit {0}
StageHolds (count a c) = a ≤ c
StageHolds (rows c past due) = (past.mark ≤ c) × (past.writes ≡ []) × (is_sorted key_cmp past.base ≡ true)
StageHolds (turn c low past) = Stands low past × (low ≤ c)
StageHolds (changes c past ts done due) = Underway c past ts done

none_yet : (past : Past) → past.writes ≡ [] → is_sorted key_cmp past.base ≡ true → Stands past.mark past
none_yet past none sorted = record {
  is = record {
    is = record { rows = sorted; writes = subst (λ (ws : List PastWrite). Rise past.mark ws) (sym none) tt };
    mark = omega arith;
    writes = subst (λ (ws : List PastWrite). IsUpTo past.mark ws) (sym none) refl;
  };
  each = subst (λ (ws : List PastWrite). EachFits ws past.base) (sym none) tt;
}

rows_hold : (c : ℕ) (past : Past) (due : ℕ) → past.mark ≤ c → past.writes ≡ [] → is_sorted key_cmp past.base ≡ true → StageHolds (rows_due c past due)
rows_hold c past zero mark none sorted = (none_yet past none sorted, mark)
rows_hold c past (suc due) mark none sorted = (mark, none, sorted)

-- entries that were joined have one more
joined_is : {A : Type 0} (es : List (List ℕ × A)) (e : List ℕ × A) (new : List (List ℕ × A)) → joined es (Some e) ≡ Some new → new ≡ es ++ e ∷ []
joined_is {A} es e new h = by (is_next es e.0) h
  where
    by : (b : Bool) → (if b then Some (es ++ e ∷ []) else None) ≡ Some new → new ≡ es ++ e ∷ []
    by true is = cc
    by false is = absurd cc

-- and rise
joined_some : {A : Type 0} (es : List (List ℕ × A)) (o : Option (List ℕ × A)) (new : List (List ℕ × A)) → is_sorted key_cmp es ≡ true → joined es o ≡ Some new → is_sorted key_cmp new ≡ true
joined_some {A} es None new sorted h = absurd cc
joined_some {A} es (Some e) new sorted h = by (is_next es e.0) refl h
  where
    by : (b : Bool) → is_next es e.0 ≡ b → (if b then Some (es ++ e ∷ []) else None) ≡ Some new → is_sorted key_cmp new ≡ true
    by true next is = let same : new ≡ es ++ e ∷ [] = cc in subst (λ (xs : List (List ℕ × A)). is_sorted key_cmp xs ≡ true) (sym same) (sorted_next es e sorted next)
    by false next is = absurd cc

-- each change of one write more fits
each_more : (ws : List PastWrite) (w : PastWrite) (table : Rows) → EachFits ws table → AllFit (written ws table) w.changes → EachFits (ws ++ w ∷ []) table
each_more [] w table each fit = (fit, tt)
each_more (v ∷ ws) w table each fit = (each.0, each_more ws w (changed v.changes table) each.1 fit)

-- one change more fits
fit_more : (table : Rows) (cs : Changes) (e : List ℕ × Change) → AllFit table cs → fits e.1 (find key_cmp e.0 table) ≡ true → AllFit table (cs ++ e ∷ [])
fit_more table [] e fit here = ap (λ b. b && true) here
fit_more table (c ∷ cs) e fit here =
    let both = and_parts _ _ fit in
    ap (λ b. b && list_all (λ (c : List ℕ × Change). fits c.1 (find key_cmp c.0 table)) (cs ++ e ∷ [])) both.0 ∙ fit_more table cs e both.1 here

-- a change that is taken fits
fitting_some : (table : Rows) (o : Option (List ℕ × Change)) (e : List ℕ × Change) → fitting table o ≡ Some e → fits e.1 (find key_cmp e.0 table) ≡ true
fitting_some table None e h = absurd cc
fitting_some table (Some c) e h = by (fits c.1 (find key_cmp c.0 table)) refl h
  where
    by : (b : Bool) → fits c.1 (find key_cmp c.0 table) ≡ b → (if b then Some c else None) ≡ Some e → fits e.1 (find key_cmp e.0 table) ≡ true
    by true test is = let same : c ≡ e = cc in subst (λ (x : List ℕ × Change). fits x.1 (find key_cmp x.0 table) ≡ true) same test
    by false test is = absurd cc

-- a write of some changes is put behind the others
ended : (c : ℕ) (past : Past) (ts : ℕ) (front : Changes) (e : List ℕ × Change) (done : Changes) → done ≡ front ++ e ∷ [] → Underway c past ts done → StageHolds (changes_due c past ts done zero)
ended c past ts front e done is h = (record { is = by front is; each = each_more past.writes (record { ts = ts; changes = done }) past.base h.stands.each h.fit }, h.top)
  where
    by : (front : Changes) → done ≡ front ++ e ∷ [] → IsPastUpTo ts (record past { writes = past.writes ++ record { ts = ts; changes = done } ∷ [] })
    by [] same = subst (λ (cs : Changes). IsPastUpTo ts (record past { writes = past.writes ++ record { ts = ts; changes = cs } ∷ [] })) (sym same) (ends_with_write h.low ts past (e ∷ []) h.stands.is h.above (sorted_apart (e ∷ []) (subst (λ (cs : Changes). is_sorted key_cmp cs ≡ true) same h.sorted)))
    by (f ∷ fs) same = subst (λ (cs : Changes). IsPastUpTo ts (record past { writes = past.writes ++ record { ts = ts; changes = cs } ∷ [] })) (sym same) (ends_with_write h.low ts past (f ∷ (fs ++ e ∷ [])) h.stands.is h.above (sorted_apart (f ∷ (fs ++ e ∷ [])) (subst (λ (cs : Changes). is_sorted key_cmp cs ≡ true) same h.sorted)))

changes_hold : (c : ℕ) (past : Past) (ts : ℕ) (front : Changes) (e : List ℕ × Change) (done : Changes) (due : ℕ) → done ≡ front ++ e ∷ [] → Underway c past ts done → StageHolds (changes_due c past ts done due)
changes_hold c past ts front e done zero is h = ended c past ts front e done is h
changes_hold c past ts front e done (suc due) is h = h

in_order_some : (o : Option (ℕ × ℕ)) (head : ℕ × ℕ) → option_and_then in_order o ≡ Some head → head.0 ≤ head.1
in_order_some None head h = absurd cc
in_order_some (Some p) head h = by (nat_le p.0 p.1) refl h
  where
    by : (b : Bool) → nat_le p.0 p.1 ≡ b → (if b then Some p else None) ≡ Some head → head.0 ≤ head.1
    by true le is = let same : p ≡ head = cc in subst (λ (x : ℕ × ℕ). x.0 ≤ x.1) same (le_from p.0 p.1 le)
    by false le is = absurd cc

headed_holds : (o : Option (ℕ × ℕ)) (next : Stage) → ((head : ℕ × ℕ) → o ≡ Some head → head.0 ≤ head.1) → option_map (λ (head : ℕ × ℕ). count head.0 head.1) o ≡ Some next → StageHolds next
headed_holds None next le h = absurd cc
headed_holds (Some head) next le h = let same : next ≡ count head.0 head.1 = cc in subst StageHolds (sym same) (le head refl)

counted_holds : (a c : ℕ) (o : Option ℕ) (next : Stage) → a ≤ c → option_map (rows_due c (no_rows a)) o ≡ Some next → StageHolds next
counted_holds a c None next le h = absurd cc
counted_holds a c (Some n) next le h = let same : next ≡ rows_due c (no_rows a) n = cc in subst StageHolds (sym same) (rows_hold c (no_rows a) n le refl refl)

row_holds : (c : ℕ) (past : Past) (due : ℕ) (read : Option (List ℕ × Row)) (o : Option Rows) (next : Stage) → StageHolds (rows c past due) → joined past.base read ≡ o → option_map (λ (base : Rows). rows_due c (record past { base = base }) due) o ≡ Some next → StageHolds next
row_holds c past due read None next h is goes = absurd cc
row_holds c past due read (Some base) next h is goes =
    let same : next ≡ rows_due c (record past { base = base }) due = cc in
    subst StageHolds (sym same) (rows_hold c (record past { base = base }) due h.0 h.1 (joined_some past.base read base h.2 is))

-- a write that may stand
record InTurn (low c : ℕ) (w : ℕ × ℕ) : Type 0 where
  above : low < w.0
  top : w.0 ≤ c
  some : 0 < w.1

in_turn_some : (low c : ℕ) (o : Option (ℕ × ℕ)) (w : ℕ × ℕ) → option_and_then (in_turn low c) o ≡ Some w → InTurn low c w
in_turn_some low c None w h = absurd cc
in_turn_some low c (Some p) w h = by (nat_lt low p.0 && (nat_le p.0 c && nat_lt 0 p.1)) refl h
  where
    by : (b : Bool) → (nat_lt low p.0 && (nat_le p.0 c && nat_lt 0 p.1)) ≡ b → (if b then Some p else None) ≡ Some w → InTurn low c w
    by true tests is =
        let same : p ≡ w = cc in
        let outer = and_parts _ _ tests in
        let inner = and_parts _ _ outer.1 in
        subst (λ (x : ℕ × ℕ). InTurn low c x) same (record { above = lt_from low p.0 outer.0; top = le_from p.0 c inner.0; some = lt_from 0 p.1 inner.1 })
    by false tests is = absurd cc

begun_holds : (c low : ℕ) (past : Past) (o : Option (ℕ × ℕ)) (next : Stage) → StageHolds (turn c low past) → ((w : ℕ × ℕ) → o ≡ Some w → InTurn low c w) → option_map (λ (w : ℕ × ℕ). changes_due c past w.0 [] w.1) o ≡ Some next → StageHolds next
begun_holds c low past None next h turns goes = absurd cc
begun_holds c low past (Some w) next h turns goes = let t = turns w refl in by w.1 t.some goes
  where
    by : (n : ℕ) → 0 < n → Some (changes_due c past w.0 [] n) ≡ Some next → StageHolds next
    by zero some is = absurd (omega (arith, some))
    by (suc n) some is =
        let same : next ≡ changes c past w.0 [] n = cc in
        let t = turns w refl in
        subst StageHolds (sym same) (record { low = low; stands = h.0; above = t.above; top = t.top; sorted = refl; fit = refl })

change_holds : (c : ℕ) (past : Past) (ts : ℕ) (done : Changes) (due : ℕ) (read : Option (List ℕ × Change)) (o : Option Changes) (next : Stage) → Underway c past ts done → joined done (fitting (rows_now past) read) ≡ o
    → option_map (λ (more : Changes). changes_due c past ts more due) o ≡ Some next → StageHolds next
change_holds c past ts done due read None next h is goes = absurd cc
change_holds c past ts done due read (Some more) next h is goes = by (fitting (rows_now past) read) refl is
  where
    by : (f : Option (List ℕ × Change)) → fitting (rows_now past) read ≡ f → joined done f ≡ Some more → StageHolds next
    by None fit is = absurd cc
    by (Some e) fit is =
        let same : next ≡ changes_due c past ts more due = cc in
        let last : more ≡ done ++ e ∷ [] = joined_is done e more is in
        subst StageHolds (sym same) (changes_hold c past ts done e more due last (record {
          low = h.low;
          stands = h.stands;
          above = h.above;
          top = h.top;
          sorted = joined_some done (Some e) more h.sorted is;
          fit = subst (λ (cs : Changes). AllFit (rows_now past) cs) (sym last) (fit_more (rows_now past) done e h.fit (fitting_some (rows_now past) read e fit));
        }))

after_holds : (columns : List Column) (stage next : Stage) (line : List ℕ) → StageHolds stage → after columns stage line ≡ Some next → StageHolds next
after_holds columns begin next line h goes = headed_holds (begin_in line) next (λ head is. in_order_some (head_in line) head is) goes
after_holds columns (count a c) next line h goes = counted_holds a c (count_in line) next h goes
after_holds columns (rows c past due) next line h goes = row_holds c past due (row_in columns line) (joined past.base (row_in columns line)) next h refl goes
after_holds columns (turn c low past) next line h goes = begun_holds c low past (turn_in low c line) next h (λ w is. in_turn_some low c (write_in line) w is) goes
after_holds columns (changes c past ts done due) next line h goes = change_holds c past ts done due (change_in columns line) (joined done (fitting (rows_now past) (change_in columns line))) next h refl goes

-- no write above a time is above a later one
up_to_later : (low c : ℕ) (ws : List PastWrite) → low ≤ c → IsUpTo low ws → IsUpTo c ws
up_to_later low c [] le h = refl
up_to_later low c (w ∷ ws) le h =
    let both = and_parts _ _ h in
    let le_low : w.ts ≤ low = le_from w.ts low both.0 in
    let first : nat_le w.ts c ≡ true = grind (arith, nat_tests) in
    ap (λ b. b && list_all (λ (v : PastWrite). nat_le v.ts c) ws) first ∙ up_to_later low c ws le both.1

pub past_later : (low c : ℕ) (past : Past) → low ≤ c → IsPastUpTo low past → IsPastUpTo c past
past_later low c past le h = record { is = h.is; mark = let m = h.mark in omega arith; writes = up_to_later low c past.writes le h.writes }

found_holds : (stage : Stage) (at : ℕ) (f : Found) → StageHolds stage → found stage at ≡ Some f → Stands f.last f.past
found_holds begin at f h is = absurd cc
found_holds (count a c) at f h is = absurd cc
found_holds (rows c past due) at f h is = absurd cc
found_holds (turn c low past) at f h is =
    let same : f ≡ record { past = past; last = c; at = at } = cc in
    subst (λ (g : Found). Stands g.last g.past) (sym same) (record { is = past_later low c past h.1 h.0.is; each = h.0.each })
found_holds (changes c past ts done due) at f h is = absurd cc

ending_holds : (stage : Stage) (line : List ℕ) (at : ℕ) (f : Found) → StageHolds stage → ending stage line at ≡ Some f → Stands f.last f.past
ending_holds stage line at f h is = by (same line (codes "output")) is
  where
    by : (b : Bool) → (if b then found stage at else None) ≡ Some f → Stands f.last f.past
    by true is = found_holds stage at f h is
    by false is = absurd cc

pub opening_holds : (columns : List Column) (pieces : List (List ℕ)) (stage : Stage) (at : ℕ) (f : Found) → StageHolds stage → opening_from columns stage at pieces ≡ Ok f → Stands f.last f.past
opening_holds columns [] stage at f h is = absurd cc
opening_holds columns (rest ∷ []) stage at f h is = absurd cc
opening_holds columns (line ∷ more ∷ pieces) stage at f h is =
    by (ending stage line (at + length line + 1)) (after columns stage line) refl refl is (λ (next : Stage) (holds : StageHolds next). opening_holds columns (more ∷ pieces) next (at + length line + 1) f holds)
  where
    by : (o : Option Found) (n : Option Stage) → ending stage line (at + length line + 1) ≡ o → after columns stage line ≡ n
        → or_else o (or_stop (stop stage at) (option_map (λ (next : Stage). opening_from columns next (at + length line + 1) (more ∷ pieces)) n)) ≡ Ok f
        → ((next : Stage) → StageHolds next → opening_from columns next (at + length line + 1) (more ∷ pieces) ≡ Ok f → Stands f.last f.past) → Stands f.last f.past
    by (Some g) n ends goes is later = let same : f ≡ g = cc in subst (λ (g : Found). Stands g.last g.past) (sym same) (ending_holds stage line (at + length line + 1) g h ends)
    by None None ends goes is later = absurd cc
    by None (Some next) ends goes is later = later next (after_holds columns stage next line h goes) is

-- what is read is an opening
pub is_opening : (columns : List Column) (text : List ℕ) (r : Read) → opening_in columns text ≡ Ok (found_of r) → IsOpening r.opening
is_opening columns text r is = let s = opening_holds columns (cut 10 text) begin 0 (found_of r) tt is in record { past = s.is; each = s.each }
