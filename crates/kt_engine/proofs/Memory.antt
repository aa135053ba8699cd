-- The flying writes and the stores of an engine, in the words of what can be recovered.
use Rattle.std.proofs.Common.{◌≡◌, ℕ, suc, zero, ◌+◌, List, [], ◌∷◌, ◌++◌, length, map, Some, None, Option, refl, sym, true, false, cond, ap, ◌∙◌, subst, arith, not, add-one}
use Rattle.std.specs.Prelude.{◌==◌, slice_get, take}
use Rattle.std.specs.List.{All, filter, remove}
use Rattle.std.proofs.lemmas.List.{append-nil}
use Rattle.kt_history.specs.declared.change.Change.{Change}
use Rattle.kt_history.specs.declared.operation.RowOp.{RowOp}
use Rattle.kt_history.specs.declared.target.Target.{Target}
use Rattle.kt_history.specs.declared.target.Target.TheVariants.{Mem, Delta}
use Rattle.kt_history.specs.Rows.{Row}
use Rattle.kt_history.specs.Stores.{Hist, push}
use Rattle.kt_records.specs.declared.entry.CommitRow.{CommitRow}
use Rattle.kt_loglaws.proofs.LogOrder.{same}
use Rattle.kt_histlaws.specs.Pending.{Aloft}
use Rattle.kt_histlaws.specs.Histories.{on_nth, first_some, or_else, AtMostOne}
use Rattle.kt_histlaws.specs.Events.{advance, IsNextOp}
use Rattle.kt_histlaws.proofs.OneKey.{none_left, none_right}
use Rattle.kt_content.specs.Places.{Super, Place, memory, disk, last_dms_of, newer, and_place, needed_in}
use Rattle.kt_content.specs.InMemory.{Name, mem_rows, rowset, same_name, Stores, stands_for, if_there, is_at, group, hist_of_name, joined_name}
use Rattle.kt_content.specs.Successors.{place_named}
use Rattle.kt_content.specs.RunEvents.{Named}
use Rattle.kt_content.specs.Recoverable.{named_at}
use Rattle.kt_content.specs.Keeping.{row_more, with_row, without}
use Rattle.kt_content.proofs.Options.{at_most_rest}
use Rattle.kt_engine.specs.Logged.{AreApart}
use Rattle.kt_engine.specs.Memory.{name_of, by_name, named_write, named_writes, IsNamed, FirstIsMem, LacksName, NamesDiffer}
use Rattle.kt_engine.proofs.Lists.{all_head, all_tail}
use Rattle.kt_engine.proofs.Places.{turned}
use Rattle.kt_engine.proofs.Records.{lt_test}

-- ---- the stores by their names

name_itself : (n : Name) → same_name n n ≡ true
name_itself (mem_rows n) = same n
name_itself (rowset r) = same r

lacks_at : (n : Name) (names : List Target) (i : ℕ) (t : Target) → LacksName n names → slice_get names i ≡ Some t → same_name (name_of t) n ≡ false
lacks_at n [] i t lacks at = absurd (let e : None ≡ Some t = at in cc)
lacks_at n (x ∷ names) zero t lacks at = let e : x ≡ t = cc in subst (λ (u : Target). same_name (name_of u) n ≡ false) e lacks.0
lacks_at n (x ∷ names) (suc i) t lacks at = lacks_at n names i t lacks.1 at

-- a store is found by its name
pub name_found : (names : List Target) (hs : List Hist) (i : ℕ) (t : Target) (h : Hist) → NamesDiffer names → slice_get names i ≡ Some t → slice_get hs i ≡ Some h → hist_of_name (name_of t) (by_name names hs) ≡ Some h
name_found [] hs i t h differ at here = absurd (let e : None ≡ Some t = at in cc)
name_found (x ∷ names) [] i t h differ at here = absurd (let e : None ≡ Some h = here in cc)
name_found (x ∷ names) (g ∷ hs) zero t h differ at here =
    let e : x ≡ t = cc in
    let own : same_name (name_of t) (name_of x) ≡ true = subst (λ (u : Target). same_name (name_of u) (name_of x) ≡ true) e (name_itself (name_of x)) in
    ap (λ b. cond b (Some g) (hist_of_name (name_of t) (by_name names hs))) own ∙ here
name_found (x ∷ names) (g ∷ hs) (suc i) t h differ at here =
    ap (λ b. cond b (Some g) (hist_of_name (name_of t) (by_name names hs))) (lacks_at (name_of x) names i t differ.0 at) ∙ name_found names hs i t h differ.1 at here

-- and a change reaches it by its name
pub name_joined : (names : List Target) (hs : List Hist) (i : ℕ) (t : Target) (ts : ℕ) (c : Change) → NamesDiffer names → slice_get names i ≡ Some t → by_name names (on_nth i (push ts c) hs) ≡ joined_name (name_of t) ts c (by_name names hs)
name_joined [] hs i t ts c differ at = absurd (let e : None ≡ Some t = at in cc)
name_joined (x ∷ names) [] i t ts c differ at = refl
name_joined (x ∷ names) (h ∷ hs) zero t ts c differ at =
    let e : x ≡ t = cc in
    let own : same_name (name_of t) (name_of x) ≡ true = subst (λ (u : Target). same_name (name_of u) (name_of x) ≡ true) e (name_itself (name_of x)) in
    sym (ap (λ b. cond b ((name_of x, push ts c h) ∷ by_name names hs) ((name_of x, h) ∷ joined_name (name_of t) ts c (by_name names hs))) own)
name_joined (x ∷ names) (h ∷ hs) (suc i) t ts c differ at =
    ap (λ (l : Stores). (name_of x, h) ∷ l) (name_joined names hs i t ts c differ.1 at)
    ∙ sym (ap (λ b. cond b ((name_of x, push ts c h) ∷ by_name names hs) ((name_of x, h) ∷ joined_name (name_of t) ts c (by_name names hs))) (lacks_at (name_of x) names i t differ.0 at))

-- where one store at most has a row, so it is of those that stand for one place
none_grouped : (super : Super) (p : Place) (f : Hist → Option Row) (names : List Target) (hs : List Hist) → first_some (map f hs) ≡ None → first_some (map f (group super p (by_name names hs))) ≡ None
none_grouped super p f [] hs none = refl
none_grouped super p f (t ∷ names) [] none = refl
none_grouped super p f (t ∷ names) (h ∷ hs) none =
    let rest = none_grouped super p f names hs (none_right (f h) (first_some (map f hs)) none) in
    elim (is_at p (stands_for super (name_of t))) as (λ b. first_some (map f (cond b (h ∷ group super p (by_name names hs)) (group super p (by_name names hs)))) ≡ None) [
      | true ↦ ap (λ o. or_else o (first_some (map f (group super p (by_name names hs))))) (none_left (f h) (first_some (map f hs)) none) ∙ rest
      | false ↦ rest
    ]

one_more : {A : Type 0} (o : Option A) (xs ys : List (Option A)) → AtMostOne (o ∷ xs) → (first_some xs ≡ None → first_some ys ≡ None) → (AtMostOne xs → AtMostOne ys) → AtMostOne (o ∷ ys)
one_more None xs ys one none rest = rest one
one_more (Some x) xs ys one none rest = none one

pub one_grouped : (super : Super) (p : Place) (f : Hist → Option Row) (names : List Target) (hs : List Hist) → AtMostOne (map f hs) → AtMostOne (map f (group super p (by_name names hs)))
one_grouped super p f [] hs one = tt
one_grouped super p f (t ∷ names) [] one = tt
one_grouped super p f (t ∷ names) (h ∷ hs) one =
    elim (is_at p (stands_for super (name_of t))) as (λ b. AtMostOne (map f (cond b (h ∷ group super p (by_name names hs)) (group super p (by_name names hs))))) [
      | true ↦ one_more (f h) (map f hs) (map f (group super p (by_name names hs))) one (λ none. none_grouped super p f names hs none) (λ o. one_grouped super p f names hs o)
      | false ↦ one_grouped super p f names hs (at_most_rest (f h) (map f hs) one)
    ]

-- a store that takes changes stands for its place, and its name makes just that place needed
pub record HasItsPlace (super : Super) (t : Target) : Type 0 where
  pub stands : stands_for super (name_of t) ≡ Some (place_named t)
  pub needed : needed_in super (t ∷ []) ≡ place_named t ∷ []

pub its_place : (super : Super) (t : Target) → IsNamed super t → HasItsPlace super t
its_place super (Mem n) is =
    let e : newer memory n (Some super.last_mem) ≡ Some memory = ap (λ b. cond b (Some memory) None) (lt_test super.last_mem n is.0) in
    record { stands = e; needed = ap (λ o. and_place o []) e }
its_place super (Delta r n) is =
    let last = is.0 in
    let e : newer (disk r) n (last_dms_of r super.rowsets) ≡ Some (disk r) = ap (newer (disk r) n) last.1 ∙ ap (λ b. cond b (Some (disk r)) None) (lt_test last.0 n last.2) in
    record { stands = ap (if_there (disk r)) last.1; needed = ap (λ o. and_place o []) e }

-- and the first of all is the MemRowSet
pub first_place : (names : List Target) (t : Target) → FirstIsMem names → slice_get names 0 ≡ Some t → place_named t ≡ memory
first_place [] t first at = absurd (let e : None ≡ Some t = at in cc)
first_place (Mem n ∷ names) t first at = let e : Mem n ≡ t = cc in ap place_named (sym e)
first_place (Delta r n ∷ names) t first at = absurd first

-- ---- the flying writes

take_suc : (n : ℕ) (ops : List RowOp) (op : RowOp) → slice_get ops n ≡ Some op → take (suc n) ops ≡ take n ops ++ op ∷ []
take_suc n [] op at = absurd (let e : None ≡ Some op = at in cc)
take_suc zero (o ∷ ops) op at = let e : o ≡ op = cc in ap (λ x. x ∷ []) e
take_suc (suc n) (o ∷ ops) op at = ap (λ l. o ∷ l) (take_suc n ops op at)

take_next : (n : ℕ) (ops : List RowOp) (op : RowOp) → slice_get ops n ≡ Some op → take (n + 1) ops ≡ take n ops ++ op ∷ []
take_next n ops op at = ap (λ k. take k ops) (add-one n) ∙ take_suc n ops op at

-- a write begins
pub named_begun : (aloft : List Aloft) (notes : List (List CommitRow)) (w : Aloft) → length notes ≡ length aloft → w.applied ≡ 0
    → named_writes (aloft ++ w ∷ []) (notes ++ [] ∷ []) ≡ record { ts = w.ts; ops = []; rows = [] } ∷ named_writes aloft notes
named_begun [] [] w many none = let with_first : ℕ → List Named = λ n. record { ts = w.ts; ops = take n w.ops; rows = [] } ∷ [] in ap with_first none
named_begun [] (r ∷ notes) w many none = absurd (omega arith)
named_begun (v ∷ aloft) [] w many none = absurd (omega arith)
named_begun (v ∷ aloft) (r ∷ notes) w many none = ap (λ l. l ++ named_write v r ∷ []) (named_begun aloft notes w (omega arith) none)

-- a row is applied
row-append : (ts : ℕ) (op : RowOp) (row : CommitRow) (xs ys : List Named) → with_row ts op row (xs ++ ys) ≡ with_row ts op row xs ++ with_row ts op row ys
row-append ts op row [] ys = refl
row-append ts op row (x ∷ xs) ys = ap (λ (l : List Named). cond (x.ts == ts) (row_more op row x) x ∷ l) (row-append ts op row xs ys)

row_apart : (ts : ℕ) (op : RowOp) (row : CommitRow) (aloft : List Aloft) (notes : List (List CommitRow)) → All (λ (v : Aloft). (v.ts == ts) ≡ false) aloft → with_row ts op row (named_writes aloft notes) ≡ named_writes aloft notes
row_apart ts op row [] notes apart = refl
row_apart ts op row (w ∷ aloft) [] apart = refl
row_apart ts op row (w ∷ aloft) (r ∷ notes) apart =
    row-append ts op row (named_writes aloft notes) (named_write w r ∷ [])
    ∙ ap (λ (l : List Named). l ++ with_row ts op row (named_write w r ∷ [])) (row_apart ts op row aloft notes (all_tail (λ (v : Aloft). (v.ts == ts) ≡ false) w aloft apart))
    ∙ ap (λ b. named_writes aloft notes ++ cond b (row_more op row (named_write w r)) (named_write w r) ∷ []) (all_head (λ (v : Aloft). (v.ts == ts) ≡ false) w aloft apart)

next_apart : (j : ℕ) (aloft : List Aloft) (u ts : ℕ) (op : RowOp) → All (λ (v : Aloft). (v.ts == u) ≡ false) aloft → IsNextOp j aloft ts op → (u == ts) ≡ false
next_apart j [] u ts op apart next = absurd next
next_apart zero (v ∷ aloft) u ts op apart next = turned ts u (subst (λ (t : ℕ). (t == u) ≡ false) next.0 (all_head (λ (v : Aloft). (v.ts == u) ≡ false) v aloft apart))
next_apart (suc j) (v ∷ aloft) u ts op apart next = next_apart j aloft u ts op (all_tail (λ (v : Aloft). (v.ts == u) ≡ false) v aloft apart) next

pub named_applied : (j ts : ℕ) (op : RowOp) (row : CommitRow) (aloft : List Aloft) (notes : List (List CommitRow)) → AreApart aloft → IsNextOp j aloft ts op
    → named_writes (on_nth j advance aloft) (on_nth j (λ rows. rows ++ row ∷ []) notes) ≡ with_row ts op row (named_writes aloft notes)
named_applied j ts op row [] notes apart next = absurd next
named_applied zero ts op row (w ∷ aloft) [] apart next = refl
named_applied (suc j) ts op row (w ∷ aloft) [] apart next = refl
named_applied zero ts op row (w ∷ aloft) (r ∷ notes) apart next =
    let at : w.ts ≡ ts = next.0 in
    let here : (w.ts == ts) ≡ true = ap (λ n. n == ts) at ∙ same ts in
    let others : All (λ (v : Aloft). (v.ts == ts) ≡ false) aloft = subst (λ (t : ℕ). All (λ (v : Aloft). (v.ts == t) ≡ false) aloft) at apart.0 in
    let more : named_write (advance w) (r ++ row ∷ []) ≡ row_more op row (named_write w r) = (let with_ops : List RowOp → Named = λ os. record { ts = w.ts; ops = os; rows = r ++ row ∷ [] } in ap with_ops (take_next w.applied w.ops op next.1)) in
    ap (λ (n : Named). named_writes aloft notes ++ n ∷ []) more
    ∙ sym (row-append ts op row (named_writes aloft notes) (named_write w r ∷ [])
    ∙ ap (λ (l : List Named). l ++ with_row ts op row (named_write w r ∷ [])) (row_apart ts op row aloft notes others)
    ∙ ap (λ b. named_writes aloft notes ++ cond b (row_more op row (named_write w r)) (named_write w r) ∷ []) here)
named_applied (suc j) ts op row (w ∷ aloft) (r ∷ notes) apart next =
    ap (λ (l : List Named). l ++ named_write w r ∷ []) (named_applied j ts op row aloft notes apart.1 next)
    ∙ sym (row-append ts op row (named_writes aloft notes) (named_write w r ∷ [])
    ∙ ap (λ b. with_row ts op row (named_writes aloft notes) ++ cond b (row_more op row (named_write w r)) (named_write w r) ∷ []) (next_apart j aloft w.ts ts op apart.0 next))

-- the one of a timestamp
named-front : (ts : ℕ) (xs ys : List Named) (n : Named) → named_at ts xs ≡ Some n → named_at ts (xs ++ ys) ≡ Some n
named-front ts [] ys n h = absurd (let e : None ≡ Some n = h in cc)
named-front ts (x ∷ xs) ys n h = elim (x.ts == ts) as (λ b. cond b (Some x) (named_at ts xs) ≡ Some n → cond b (Some x) (named_at ts (xs ++ ys)) ≡ Some n) [
  | true ↦ λ e. e
  | false ↦ λ e. named-front ts xs ys n e
] h

named-behind : (ts : ℕ) (xs ys : List Named) → named_at ts xs ≡ None → named_at ts (xs ++ ys) ≡ named_at ts ys
named-behind ts [] ys h = refl
named-behind ts (x ∷ xs) ys h = elim (x.ts == ts) as (λ b. cond b (Some x) (named_at ts xs) ≡ None → cond b (Some x) (named_at ts (xs ++ ys)) ≡ named_at ts ys) [
  | true ↦ λ e. absurd (cc)
  | false ↦ λ e. named-behind ts xs ys e
] h

none_named : (ts : ℕ) (aloft : List Aloft) (notes : List (List CommitRow)) → All (λ (v : Aloft). (v.ts == ts) ≡ false) aloft → named_at ts (named_writes aloft notes) ≡ None
none_named ts [] notes apart = refl
none_named ts (w ∷ aloft) [] apart = refl
none_named ts (w ∷ aloft) (r ∷ notes) apart =
    named-behind ts (named_writes aloft notes) (named_write w r ∷ []) (none_named ts aloft notes (all_tail (λ (v : Aloft). (v.ts == ts) ≡ false) w aloft apart))
    ∙ ap (λ b. cond b (Some (named_write w r)) None) (all_head (λ (v : Aloft). (v.ts == ts) ≡ false) w aloft apart)

pub named_there : (j : ℕ) (aloft : List Aloft) (notes : List (List CommitRow)) (w : Aloft) (rows : List CommitRow) → AreApart aloft → slice_get aloft j ≡ Some w → slice_get notes j ≡ Some rows
    → named_at w.ts (named_writes aloft notes) ≡ Some (named_write w rows)
named_there j [] notes w rows apart at here = absurd (let e : None ≡ Some w = at in cc)
named_there j (v ∷ aloft) [] w rows apart at here = absurd (let e : None ≡ Some rows = here in cc)
named_there zero (v ∷ aloft) (r ∷ notes) w rows apart at here =
    let e : v ≡ w = cc in
    let f : r ≡ rows = cc in
    let found : named_at v.ts (named_writes aloft notes ++ named_write v r ∷ []) ≡ Some (named_write v r) =
    named-behind v.ts (named_writes aloft notes) (named_write v r ∷ []) (none_named v.ts aloft notes apart.0) ∙ ap (λ b. cond b (Some (named_write v r)) None) (same v.ts) in
    ap (λ (x : Aloft). named_at x.ts (named_writes aloft notes ++ named_write v r ∷ [])) (sym e) ∙ found ∙ ap (λ (x : Aloft). Some (named_write x r)) e ∙ ap (λ rs. Some (named_write w rs)) f
named_there (suc j) (v ∷ aloft) (r ∷ notes) w rows apart at here = named-front w.ts (named_writes aloft notes) (named_write v r ∷ []) (named_write w rows) (named_there j aloft notes w rows apart.1 at here)

-- a write ends
without-append : (ts : ℕ) (xs ys : List Named) → without ts (xs ++ ys) ≡ without ts xs ++ without ts ys
without-append ts [] ys = refl
without-append ts (x ∷ xs) ys = elim (x.ts == ts) as (λ b. cond (not b) (x ∷ without ts (xs ++ ys)) (without ts (xs ++ ys)) ≡ cond (not b) (x ∷ without ts xs) (without ts xs) ++ without ts ys) [
  | true ↦ without-append ts xs ys
  | false ↦ ap (λ (l : List Named). x ∷ l) (without-append ts xs ys)
]

without_none : (ts : ℕ) (aloft : List Aloft) (notes : List (List CommitRow)) → All (λ (v : Aloft). (v.ts == ts) ≡ false) aloft → without ts (named_writes aloft notes) ≡ named_writes aloft notes
without_none ts [] notes apart = refl
without_none ts (w ∷ aloft) [] apart = refl
without_none ts (w ∷ aloft) (r ∷ notes) apart =
    without-append ts (named_writes aloft notes) (named_write w r ∷ [])
    ∙ ap (λ (l : List Named). l ++ without ts (named_write w r ∷ [])) (without_none ts aloft notes (all_tail (λ (v : Aloft). (v.ts == ts) ≡ false) w aloft apart))
    ∙ ap (λ b. named_writes aloft notes ++ cond (not b) (named_write w r ∷ []) []) (all_head (λ (v : Aloft). (v.ts == ts) ≡ false) w aloft apart)

-- of a session only the write of this timestamp flies
abbrev pub IsOwn : ℕ → ℕ → Aloft → Type 0
IsOwn s ts v = (v.s == s) ≡ true → v.ts ≡ ts

other_session : (s ts : ℕ) (v : Aloft) → IsOwn s ts v → (v.ts == ts) ≡ false → (v.s == s) ≡ false
other_session s ts v own apart = elim (v.s == s) as (λ b. (v.s == s) ≡ b → b ≡ false) [
  | true ↦ λ e. absurd (let at : (v.ts == ts) ≡ true = ap (λ n. n == ts) (own e) ∙ same ts in let no : true ≡ false = sym at ∙ apart in cc)
  | false ↦ λ e. refl
] refl

all_stay : (s ts : ℕ) (aloft : List Aloft) → All (IsOwn s ts) aloft → All (λ (v : Aloft). (v.ts == ts) ≡ false) aloft → filter (λ (v : Aloft). not (v.s == s)) aloft ≡ aloft
all_stay s ts [] own apart = refl
all_stay s ts (v ∷ aloft) own apart =
    ap (λ b. cond (not b) (v ∷ filter (λ (w : Aloft). not (w.s == s)) aloft) (filter (λ (w : Aloft). not (w.s == s)) aloft))
    (other_session s ts v (all_head (IsOwn s ts) v aloft own) (all_head (λ (w : Aloft). (w.ts == ts) ≡ false) v aloft apart))
    ∙ ap (λ (l : List Aloft). v ∷ l) (all_stay s ts aloft (all_tail (IsOwn s ts) v aloft own) (all_tail (λ (w : Aloft). (w.ts == ts) ≡ false) v aloft apart))

at_apart : (j : ℕ) (aloft : List Aloft) (u : ℕ) (f : Aloft) → All (λ (v : Aloft). (v.ts == u) ≡ false) aloft → slice_get aloft j ≡ Some f → (f.ts == u) ≡ false
at_apart j [] u f apart at = absurd (let e : None ≡ Some f = at in cc)
at_apart zero (v ∷ aloft) u f apart at = let e : v ≡ f = cc in subst (λ (x : Aloft). (x.ts == u) ≡ false) e (all_head (λ (v : Aloft). (v.ts == u) ≡ false) v aloft apart)
at_apart (suc j) (v ∷ aloft) u f apart at = at_apart j aloft u f (all_tail (λ (v : Aloft). (v.ts == u) ≡ false) v aloft apart) at

pub named_ended : (j s : ℕ) (aloft : List Aloft) (notes : List (List CommitRow)) (f : Aloft) (rows : List CommitRow) → AreApart aloft → All (IsOwn s f.ts) aloft → slice_get aloft j ≡ Some f → f.s ≡ s → slice_get notes j ≡ Some rows
    → named_writes (filter (λ (w : Aloft). not (w.s == s)) aloft) (remove notes j) ≡ without f.ts (named_writes aloft notes)
named_ended j s [] notes f rows apart own at is here = absurd (let e : None ≡ Some f = at in cc)
named_ended j s (w ∷ aloft) [] f rows apart own at is here = absurd (let e : None ≡ Some rows = here in cc)
named_ended zero s (w ∷ aloft) (r ∷ notes) f rows apart own at is here =
    let e : w ≡ f = cc in
    let others : All (λ (v : Aloft). (v.ts == f.ts) ≡ false) aloft = subst (λ (x : Aloft). All (λ (v : Aloft). (v.ts == x.ts) ≡ false) aloft) e apart.0 in
    let its : (w.s == s) ≡ true = ap (λ (x : Aloft). x.s == s) e ∙ ap (λ n. n == s) is ∙ same s in
    let at_ts : (w.ts == f.ts) ≡ true = ap (λ (x : Aloft). x.ts == f.ts) e ∙ same f.ts in
    ap (λ b. named_writes (cond (not b) (w ∷ filter (λ (v : Aloft). not (v.s == s)) aloft) (filter (λ (v : Aloft). not (v.s == s)) aloft)) notes) its
    ∙ ap (λ (l : List Aloft). named_writes l notes) (all_stay s f.ts aloft (all_tail (IsOwn s f.ts) w aloft own) others)
    ∙ sym (without-append f.ts (named_writes aloft notes) (named_write w r ∷ [])
    ∙ ap (λ (l : List Named). l ++ without f.ts (named_write w r ∷ [])) (without_none f.ts aloft notes others)
    ∙ ap (λ b. named_writes aloft notes ++ cond (not b) (named_write w r ∷ []) []) at_ts ∙ append-nil (named_writes aloft notes))
named_ended (suc j) s (w ∷ aloft) (r ∷ notes) f rows apart own at is here =
    let other : (w.ts == f.ts) ≡ false = turned f.ts w.ts (at_apart j aloft w.ts f apart.0 at) in
    ap (λ b. named_writes (cond (not b) (w ∷ filter (λ (v : Aloft). not (v.s == s)) aloft) (filter (λ (v : Aloft). not (v.s == s)) aloft)) (r ∷ remove notes j))
    (other_session s f.ts w (all_head (IsOwn s f.ts) w aloft own) other)
    ∙ ap (λ (l : List Named). l ++ named_write w r ∷ []) (named_ended j s aloft notes f rows apart.1 (all_tail (IsOwn s f.ts) w aloft own) at is here)
    ∙ sym (without-append f.ts (named_writes aloft notes) (named_write w r ∷ []) ∙ ap (λ b. without f.ts (named_writes aloft notes) ++ cond (not b) (named_write w r ∷ []) []) other)

-- two of one timestamp are one
pub one_place : (aloft : List Aloft) (i j : ℕ) (v w : Aloft) → AreApart aloft → slice_get aloft i ≡ Some v → slice_get aloft j ≡ Some w → v.ts ≡ w.ts → i ≡ j
one_place [] i j v w apart a b at = absurd (let e : None ≡ Some v = a in cc)
one_place (x ∷ aloft) zero zero v w apart a b at = refl
one_place (x ∷ aloft) zero (suc j) v w apart a b at = absurd (let e : x ≡ v = cc in let no : false ≡ true = sym (at_apart j aloft x.ts w apart.0 b) ∙ ap (λ n. n == x.ts) (sym at ∙ ap (λ (y : Aloft). y.ts) (sym e)) ∙ same x.ts in cc)
one_place (x ∷ aloft) (suc i) zero v w apart a b at = absurd (let e : x ≡ w = cc in let no : false ≡ true = sym (at_apart i aloft x.ts v apart.0 a) ∙ ap (λ n. n == x.ts) (at ∙ ap (λ (y : Aloft). y.ts) (sym e)) ∙ same x.ts in cc)
one_place (x ∷ aloft) (suc i) (suc j) v w apart a b at = ap suc (one_place aloft i j v w apart.1 a b at)
