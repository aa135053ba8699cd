-- What is known of a key while its last operation flies.
use Rattle.std.proofs.Common.{◌≡◌, ◌≤◌, ◌<◌, ◌-◌, ℕ, List, [], ◌∷◌, ◌++◌, Some, None, Option, refl, sym, ap, ◌∙◌, subst, arith, cond, true, false, Bool, inl, inr}
use Rattle.std.specs.Prelude.{◌==◌, not}
use Rattle.std.specs.Ordering.{eq_by_cmp}
use Rattle.std.proofs.lemmas.Bool.{cases_lt, cases_eq, ne_eqb}
use Rattle.std.proofs.lemmas.Bool.Decides.{nat_tests}
use Rattle.kt_history.specs.declared.change.Change.{Change}
use Rattle.kt_history.specs.declared.operation.RowOp.{RowOp}
use Rattle.kt_history.specs.Rows.{Row, apply, key_cmp}
use Rattle.kt_history.specs.Operations.{effect}
use Rattle.kt_records.specs.declared.entry.Entry.{Entry}
use Rattle.kt_records.specs.declared.entry.CommitRow.{CommitRow}
use Rattle.kt_histlaws.specs.Histories.{or_else}
use Rattle.kt_history.specs.Stores.{Steps, Hist, row_of, step_of, push}
use Rattle.kt_histlaws.specs.Flights.{UpTo}
use Rattle.kt_histlaws.proofs.OneKey.{row-push_below, row-push_from, step-push_other, step-push_at}
use Rattle.kt_histlaws.proofs.Pending.{itself}
use Rattle.kt_content.specs.Places.{Super, Held, row_before}
use Rattle.kt_content.specs.KeyOps.{KeyOp, seen}
use Rattle.kt_content.specs.InMemory.{Mirrors}
use Rattle.kt_content.specs.Content.{AreTold, SameFrom}
use Rattle.kt_content.specs.MoreOps.{untold, told, with_change, with_op}
use Rattle.kt_content.specs.Records.{RowsTell, TellsIn}
use Rattle.kt_content.specs.RunEvents.{Named, NamesAreTrue, AllBelow}
use Rattle.kt_content.specs.Recoverable.{Resident, named_at, row_names, names_in, names_of, Stage, KeyStands}
use Rattle.kt_content.specs.Recoverable.Stage.{rests, waits, applied}
use Rattle.kt_content.specs.Keeping.{row_more, with_row, without}
use Rattle.kt_content.proofs.MoreOps.{before_is}
use Rattle.kt_content.proofs.RunEvents.{name_more}

-- histories that are the same from a mark on

pub same_back : (m : ℕ) (g h : Hist) → SameFrom m g h → SameFrom m h g
same_back m g h s = record { rows = λ t le. sym (s.rows t le); steps = λ t up. sym (s.steps t up) }

pub same_on : (m : ℕ) (g h k : Hist) → SameFrom m g h → SameFrom m h k → SameFrom m g k
same_on m g h k s t = record { rows = λ u le. s.rows u le ∙ t.rows u le; steps = λ u up. s.steps u up ∙ t.steps u up }

pub same_later : (m n : ℕ) (g h : Hist) → m ≤ n → SameFrom m g h → SameFrom n g h
same_later m n g h le s = record { rows = λ t from. s.rows t (omega arith); steps = λ t up. s.steps t (omega arith) }

-- an operation above the mark does the same to both
pub same_before : (m ts : ℕ) (g h : Hist) → m < ts → SameFrom m g h → row_before ts g ≡ row_before ts h
same_before m ts g h lt s = before_is ts g (omega arith) ∙ s.rows (ts - 1) (omega arith) ∙ sym (before_is ts h (omega arith))

same_pushed : (m ts : ℕ) (c : Change) (g h : Hist) → SameFrom m g h → SameFrom m (push ts c g) (push ts c h)
same_pushed m ts c g h s = record { rows = rows; steps = steps }
  where
    rows : (t : ℕ) → m ≤ t → row_of t (push ts c g) ≡ row_of t (push ts c h)
    rows t le = elim (cases_lt t ts) [
      | inl below ↦ row-push_below t ts c g below ∙ s.rows t le ∙ sym (row-push_below t ts c h below)
      | inr from ↦ row-push_from t ts c g from ∙ ap (apply c) (s.rows t le) ∙ sym (row-push_from t ts c h from)
    ]

    steps : (t : ℕ) → m < t → step_of t (push ts c g) ≡ step_of t (push ts c h)
    steps t up = elim (cases_eq ts t) [
      | inl same ↦ subst (λ u. step_of u (push ts c g) ≡ step_of u (push ts c h)) same
          (step-push_at ts c g ∙ ap (λ o. or_else o (Some c)) (s.steps ts (subst (λ u. m < u) (sym same) up)) ∙ sym (step-push_at ts c h))
      | inr other ↦ step-push_other t ts c g other ∙ s.steps t up ∙ sym (step-push_other t ts c h other)
    ]

pub same_with_op : (fill : Row) (m ts : ℕ) (op : RowOp) (g h : Hist) → m < ts → SameFrom m g h → SameFrom m (with_op fill ts op g) (with_op fill ts op h)
same_with_op fill m ts op g h lt s = subst (λ r. SameFrom m (with_op fill ts op g) (with_change ts (effect fill op.kind op.cells r).0 h)) (same_before m ts g h lt s) (each (effect fill op.kind op.cells (row_before ts g)).0)
  where
    each : (o : Option Change) → SameFrom m (with_change ts o g) (with_change ts o h)
    each None = s
    each (Some c) = same_pushed m ts c g h s

-- and the rows just before it are as they were
pub before_op : (fill : Row) (ts : ℕ) (op : RowOp) (h : Hist) → 0 < ts → row_before ts (with_op fill ts op h) ≡ row_before ts h
before_op fill ts op h up = each (effect fill op.kind op.cells (row_before ts h)).0
  where
    each : (o : Option Change) → row_before ts (with_change ts o h) ≡ row_before ts h
    each None = refl
    each (Some c) = before_is ts (push ts c h) up ∙ row-push_below (ts - 1) ts c h (omega arith) ∙ sym (before_is ts h up)

pub up_to_with_op : (fill : Row) (last ts : ℕ) (op : RowOp) (h : Hist) → UpTo last h.steps → ts ≤ last → UpTo last (with_op fill ts op h).steps
up_to_with_op fill last ts op h up le = each (effect fill op.kind op.cells (row_before ts h)).0
  where
    more : (steps : Steps) (c : Change) → UpTo last steps → UpTo last (steps ++ (ts, c) ∷ [])
    more [] c u = (le, tt)
    more (s ∷ steps) c u = (u.0, more steps c u.1)

    each : (o : Option Change) → UpTo last (with_change ts o h).steps
    each None = up
    each (Some c) = more h.steps c up

pub up_to_more : (low high : ℕ) (steps : Steps) → low ≤ high → UpTo low steps → UpTo high steps
up_to_more low high [] le u = tt
up_to_more low high (s ∷ steps) le u = (let a = u.0 in omega arith, up_to_more low high steps le u.1)

-- the last operation of a key

pub last_same : (xs ys : List KeyOp) (x y : KeyOp) → xs ++ x ∷ [] ≡ ys ++ y ∷ [] → (xs ≡ ys) × (x ≡ y)
last_same [] [] x y e = (refl, cc)
last_same [] (z ∷ []) x y e = absurd (cc)
last_same [] (z ∷ w ∷ ys) x y e = absurd (cc)
last_same (z ∷ []) [] x y e = absurd (cc)
last_same (z ∷ w ∷ xs) [] x y e = absurd (cc)
last_same (z ∷ xs) (w ∷ ys) x y e = let rest : xs ++ x ∷ [] ≡ ys ++ y ∷ [] = cc in let more = last_same xs ys x y rest in let head : z ≡ w = cc in (cc, more.1)

pub not_told : (xs : List KeyOp) (ts : ℕ) (op : RowOp) (ys : List KeyOp) → AreTold (xs ++ untold ts op ∷ ys) → ⊥
not_told [] ts op ys t = let f : false ≡ true = t.0 in cc
not_told (x ∷ xs) ts op ys t = not_told xs ts op ys t.1

-- the flying writes

pub found_true : (fill : Row) (super : Super) (records : List Entry) (named : List Named) (ts : ℕ) (n : Named) → NamesAreTrue fill super records named → named_at ts named ≡ Some n
    → RowsTell fill super records ts n.ops n.rows
found_true fill super records [] ts n h e = absurd (let f : None ≡ Some n = e in cc)
found_true fill super records (x ∷ named) ts n h e = either (x.ts == ts) refl e (λ f. found_true fill super records named ts n h.1 f)
  where
    either : (b : Bool) → (x.ts == ts) ≡ b → cond b (Some x) (named_at ts named) ≡ Some n → (named_at ts named ≡ Some n → RowsTell fill super records ts n.ops n.rows) → RowsTell fill super records ts n.ops n.rows
    either true same e more =
        let is : x ≡ n = cc in
        let at : x.ts ≡ ts = grind (arith, nat_tests) in
        subst (λ (m : Named). RowsTell fill super records ts m.ops m.rows) is (subst (λ u. RowsTell fill super records u x.ops x.rows) at h.0)
    either false other e more = more e

-- one row more is applied

row_names_other : (fill : Row) (super : Super) (records : List Entry) (ts : ℕ) (q : List ℕ) (ops : List RowOp) (rows : List CommitRow) (op : RowOp) (row : CommitRow) → RowsTell fill super records ts ops rows
    → eq_by_cmp key_cmp q op.key ≡ false → row_names q (ops ++ op ∷ []) (rows ++ row ∷ []) ≡ row_names q ops rows
row_names_other fill super records ts q [] [] op row h e = rw e refl
row_names_other fill super records ts q [] (r ∷ rows) op row h e = absurd h
row_names_other fill super records ts q (o ∷ ops) [] op row h e = absurd h
row_names_other fill super records ts q (o ∷ ops) (r ∷ rows) op row h e = ap (cond (eq_by_cmp key_cmp q o.key) (Some r.targets)) (row_names_other fill super records ts q ops rows op row h.1 e)

row_names_same : (fill : Row) (super : Super) (records : List Entry) (ts : ℕ) (ops : List RowOp) (rows : List CommitRow) (op : RowOp) (row : CommitRow) → RowsTell fill super records ts ops rows
    → row_names op.key ops rows ≡ None → row_names op.key (ops ++ op ∷ []) (rows ++ row ∷ []) ≡ Some row.targets
row_names_same fill super records ts [] [] op row h e = rw (itself op.key) refl
row_names_same fill super records ts [] (r ∷ rows) op row h e = absurd h
row_names_same fill super records ts (o ∷ ops) [] op row h e = absurd h
row_names_same fill super records ts (o ∷ ops) (r ∷ rows) op row h e = either (eq_by_cmp key_cmp op.key o.key) e (λ f. row_names_same fill super records ts ops rows op row h.1 f)
  where
    either : (b : Bool) → cond b (Some r.targets) (row_names op.key ops rows) ≡ None → (row_names op.key ops rows ≡ None → row_names op.key (ops ++ op ∷ []) (rows ++ row ∷ []) ≡ Some row.targets)
        → cond b (Some r.targets) (row_names op.key (ops ++ op ∷ []) (rows ++ row ∷ [])) ≡ Some row.targets
    either true f more = absurd (cc)
    either false f more = more f

-- of other keys, and of other writes, the names are as before
pub names-row_other : (fill : Row) (super : Super) (records : List Entry) (named : List Named) (ts : ℕ) (op : RowOp) (row : CommitRow) (q : List ℕ) (t : ℕ) → NamesAreTrue fill super records named
    → eq_by_cmp key_cmp q op.key ≡ false → names_of (with_row ts op row named) q t ≡ names_of named q t
names-row_other fill super records [] ts op row q t h e = refl
names-row_other fill super records (n ∷ named) ts op row q t h e = either (n.ts == ts) (names-row_other fill super records named ts op row q t h.1 e)
  where
    either : (a : Bool) → names_in q (named_at t (with_row ts op row named)) ≡ names_in q (named_at t named)
        → names_in q (cond ((cond a (row_more op row n) n).ts == t) (Some (cond a (row_more op row n) n)) (named_at t (with_row ts op row named))) ≡ names_in q (cond (n.ts == t) (Some n) (named_at t named))
    either true rest = elim (n.ts == t) as (λ c. names_in q (cond c (Some (row_more op row n)) (named_at t (with_row ts op row named))) ≡ names_in q (cond c (Some n) (named_at t named))) [
      | true ↦ row_names_other fill super records n.ts q n.ops n.rows op row h.0 e
      | false ↦ rest
    ]
    either false rest = elim (n.ts == t) as (λ c. names_in q (cond c (Some n) (named_at t (with_row ts op row named))) ≡ names_in q (cond c (Some n) (named_at t named))) [ true ↦ refl | false ↦ rest ]

-- its own are those of the row
pub names-row_same : (fill : Row) (super : Super) (records : List Entry) (named : List Named) (ts : ℕ) (op : RowOp) (row : CommitRow) (n : Named) → NamesAreTrue fill super records named
    → named_at ts named ≡ Some n → names_of named op.key ts ≡ None → names_of (with_row ts op row named) op.key ts ≡ Some row.targets
names-row_same fill super records [] ts op row n h e none = absurd (let f : None ≡ Some n = e in cc)
names-row_same fill super records (x ∷ named) ts op row n h e none = either (x.ts == ts) refl e none (λ f g. names-row_same fill super records named ts op row n h.1 f g)
  where
    either : (b : Bool) → (x.ts == ts) ≡ b → cond b (Some x) (named_at ts named) ≡ Some n → names_in op.key (cond b (Some x) (named_at ts named)) ≡ None
        → (named_at ts named ≡ Some n → names_in op.key (named_at ts named) ≡ None → names_in op.key (named_at ts (with_row ts op row named)) ≡ Some row.targets)
        → names_in op.key (cond ((cond b (row_more op row x) x).ts == ts) (Some (cond b (row_more op row x) x)) (named_at ts (with_row ts op row named))) ≡ Some row.targets
    either true same e none more = rw same (row_names_same fill super records x.ts x.ops x.rows op row h.0 none)
    either false other e none more = rw other (more e none)

-- and what is known of the flying writes is true, where it is of the row
pub row_true : (fill : Row) (super : Super) (records : List Entry) (named : List Named) (ts : ℕ) (op : RowOp) (row : CommitRow) → NamesAreTrue fill super records named
    → TellsIn fill super records ts op row.targets → NamesAreTrue fill super records (with_row ts op row named)
row_true fill super records [] ts op row h tells = tt
row_true fill super records (n ∷ named) ts op row h tells = (either (n.ts == ts) refl, row_true fill super records named ts op row h.1 tells)
  where
    either : (b : Bool) → (n.ts == ts) ≡ b → RowsTell fill super records (cond b (row_more op row n) n).ts (cond b (row_more op row n) n).ops (cond b (row_more op row n) n).rows
    either true same = let at : ts ≡ n.ts = grind (arith, nat_tests) in name_more fill super records n.ts n.ops n.rows op row h.0 (subst (λ u. TellsIn fill super records u op row.targets) at tells)
    either false other = h.0

pub row_below : (u ts : ℕ) (op : RowOp) (row : CommitRow) (named : List Named) → AllBelow u named → AllBelow u (with_row ts op row named)
row_below u ts op row [] h = tt
row_below u ts op row (n ∷ named) h = (elim (n.ts == ts) as (λ b. (cond b (row_more op row n) n).ts ≤ u) [ true ↦ h.0 | false ↦ h.0 ], row_below u ts op row named h.1)

-- a write ends

pub named-without : (ts t : ℕ) (named : List Named) → (ts ≡ t → ⊥) → named_at t (without ts named) ≡ named_at t named
named-without ts t [] ne = refl
named-without ts t (n ∷ named) ne = either (n.ts == ts) refl (named-without ts t named ne)
  where
    either : (b : Bool) → (n.ts == ts) ≡ b → named_at t (without ts named) ≡ named_at t named → named_at t (cond (not b) (n ∷ without ts named) (without ts named)) ≡ cond (n.ts == t) (Some n) (named_at t named)
    either true same rest = let at : n.ts ≡ ts = grind (arith, nat_tests) in let other : (n.ts == t) ≡ false = ne_eqb n.ts t (λ e. ne (sym at ∙ e)) in rest ∙ rw other refl
    either false other rest = ap (cond (n.ts == t) (Some n)) rest

pub without_true : (fill : Row) (super : Super) (records : List Entry) (named : List Named) (ts : ℕ) → NamesAreTrue fill super records named → NamesAreTrue fill super records (without ts named)
without_true fill super records [] ts h = tt
without_true fill super records (n ∷ named) ts h = either (n.ts == ts) (without_true fill super records named ts h.1)
  where
    either : (b : Bool) → NamesAreTrue fill super records (without ts named) → NamesAreTrue fill super records (cond (not b) (n ∷ without ts named) (without ts named))
    either true rest = rest
    either false rest = (h.0, rest)

pub without_below : (u ts : ℕ) (named : List Named) → AllBelow u named → AllBelow u (without ts named)
without_below u ts [] h = tt
without_below u ts (n ∷ named) h = either (n.ts == ts) (without_below u ts named h.1)
  where
    either : (b : Bool) → AllBelow u (without ts named) → AllBelow u (cond (not b) (n ∷ without ts named) (without ts named))
    either true rest = rest
    either false rest = (h.0, rest)

pub below_more : (low high : ℕ) (named : List Named) → low ≤ high → AllBelow low named → AllBelow high named
below_more low high [] le h = tt
below_more low high (n ∷ named) le h = (let a = h.0 in omega arith, below_more low high named le h.1)

-- what is known of a key stays, where the names of its last operation are the same
pub stage_stays : (fill : Row) (super : Super) (mark : ℕ) (live later : Resident) (q : List ℕ) (held : Held) (shows whole : Hist) (logged known : List KeyOp) → live.last ≤ later.last
    → ((front : List KeyOp) (t : ℕ) (op : RowOp) → logged ≡ front ++ untold t op ∷ [] → t ≤ live.last → names_of later.named q t ≡ names_of live.named q t)
    → Stage fill super mark live q held shows whole logged known → Stage fill super mark later q held shows whole logged known
stage_stays fill super mark live later q held shows whole logged known le same (rests is told e) = rests is told e
stage_stays fill super mark live later q held shows whole logged known le same (waits ts op is told lt up at none under e) = waits ts op is told lt up (omega arith) (same known ts op is at ∙ none) under e
stage_stays fill super mark live later q held shows whole logged known le same (applied front ts op targets is knows told lt up at some tells e) =
    applied front ts op targets is knows told lt up (omega arith) (same front ts op is at ∙ some) tells e

-- one key stands for another memory and other records as well as before: what was found of it stays
pub key_stands_as : (fill : Row) (super : Super) (was now : Resident) (records all : List Entry) (q : List ℕ) (whole later : Hist) (k : KeyStands fill super was records q whole)
    → Mirrors k.mark super (now.stores q) k.held → UpTo now.last k.shows.steps → Stage fill super k.mark now q k.held k.shows later (seen q all all) k.known → KeyStands fill super now all q later
key_stands_as fill super was now records all q whole later k mirrors up stage =
    record { mark = k.mark; low = k.low; known = k.known; held = k.held; shows = k.shows; is = k.is; shown = k.shown; mirrors = mirrors; up = up; stage = stage }
