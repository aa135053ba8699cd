-- What an operation more does to the stores, and what its COMMIT does.
use Rattle.std.proofs.Common.{◌≡◌, ◌≤◌, ◌<◌, ◌-◌, ℕ, zero, suc, List, [], ◌∷◌, ◌++◌, Some, None, Option, Ok, Err, Result, refl, sym, ap, ◌∙◌, subst, arith, cond, true, false, map, length}
use Rattle.std.specs.Prelude.{is_some}
use Rattle.std.proofs.lemmas.Bool.Decides.{nat_tests}
use Rattle.kt_history.specs.declared.change.Change.{Change}
use Rattle.kt_history.specs.declared.operation.RowOp.{RowOp}
use Rattle.kt_history.specs.Rows.{Row}
use Rattle.kt_history.specs.Operations.{effect}
use Rattle.kt_histlaws.specs.Histories.{on_nth, first_some, or_else, AtMostOne, Alone, nth_option, ShowsKey}
use Rattle.kt_history.specs.Stores.{Hist, row_of, push, Under}
use Rattle.kt_histlaws.specs.Fitting.{AreSound}
use Rattle.kt_histlaws.specs.Flights.{AllUnder}
use Rattle.kt_histlaws.proofs.OneKey.{shows-push, alone_of_one, alone_of_none, length_map}
use Rattle.kt_histlaws.proofs.Applying.{all_under, none_under, rows-settled}
use Rattle.kt_histlaws.proofs.Fitting.{sound_push}
use Rattle.kt_content.specs.Places.{Super, Place, memory, disk, Held, Moves, same_place, row_before, standing, live_in, or_live, joined_in, moved, held_in}
use Rattle.kt_content.specs.KeyOps.{KeyOp, decided, played, if_fits, to_live, to_place}
use Rattle.kt_content.specs.Content.{Shown}
use Rattle.kt_content.specs.Agreement.{OpsRise, all_moved, Agree}
use Rattle.kt_content.specs.MoreOps.{LacksPlace, PlacesDiffer, BeginsInMemory, with_change, with_op, untold, told, an_operation_more_is_shown, true_names_change_nothing}
use Rattle.kt_content.proofs.Agreement.{agree_plays, plays_agree}

-- operations go on from what was made before
abbrev pub then_played : Row → Super → List KeyOp → Result Held ℕ → Result Held ℕ
then_played fill super ys (Ok held) = played fill super held ys
then_played fill super ys (Err ts) = Err ts

pub played-append : (fill : Row) (super : Super) (held : Held) (xs ys : List KeyOp) → played fill super held (xs ++ ys) ≡ then_played fill super ys (played fill super held xs)
played-append fill super held [] ys = refl
played-append fill super held (x ∷ xs) ys = elim (decided fill super (standing x.ts held) x.op x.told) as (λ o.
    if_fits x.ts (λ moves. played fill super (moved x.ts moves held) (xs ++ ys)) o ≡ then_played fill super ys (if_fits x.ts (λ moves. played fill super (moved x.ts moves held) xs) o)) [
      | None ↦ refl
      | Some m ↦ played-append fill super (moved x.ts m held) xs ys
    ]

-- places

pub place_itself : (p : Place) → same_place p p ≡ true
place_itself memory = refl
place_itself (disk r) = grind (arith, nat_tests)

pub is_same : (p q : Place) → same_place p q ≡ true → p ≡ q
is_same memory memory h = refl
is_same memory (disk s) h = cc
is_same (disk r) memory h = cc
is_same (disk r) (disk s) h = let e : r ≡ s = grind (arith, nat_tests) in ap disk e

-- the stores stay where they are
pub lacks-joined : (q p : Place) (ts : ℕ) (c : Change) (held : Held) → LacksPlace q held → LacksPlace q (joined_in p ts c held)
lacks-joined q p ts c [] l = tt
lacks-joined q p ts c (h ∷ held) l = elim (same_place p h.0) as (λ b. LacksPlace q (cond b ((h.0, push ts c h.1) ∷ held) (h ∷ joined_in p ts c held))) [
  | true ↦ l
  | false ↦ (l.0, lacks-joined q p ts c held l.1)
]

differ-joined : (p : Place) (ts : ℕ) (c : Change) (held : Held) → PlacesDiffer held → PlacesDiffer (joined_in p ts c held)
differ-joined p ts c [] d = tt
differ-joined p ts c (h ∷ held) d = elim (same_place p h.0) as (λ b. PlacesDiffer (cond b ((h.0, push ts c h.1) ∷ held) (h ∷ joined_in p ts c held))) [
  | true ↦ d
  | false ↦ (lacks-joined h.0 p ts c held d.0, differ-joined p ts c held d.1)
]

begins-joined : (p : Place) (ts : ℕ) (c : Change) (held : Held) → BeginsInMemory held → BeginsInMemory (joined_in p ts c held)
begins-joined p ts c [] b = b
begins-joined p ts c (h ∷ held) b = elim (same_place p h.0) as (λ k. BeginsInMemory (cond k ((h.0, push ts c h.1) ∷ held) (h ∷ joined_in p ts c held))) [ true ↦ b | false ↦ b ]

pub differ-moved : (ts : ℕ) (ms : Moves) (held : Held) → PlacesDiffer held → PlacesDiffer (moved ts ms held)
differ-moved ts [] held d = d
differ-moved ts (m ∷ ms) held d = differ-moved ts ms (joined_in m.0 ts m.1 held) (differ-joined m.0 ts m.1 held d)

pub begins-moved : (ts : ℕ) (ms : Moves) (held : Held) → BeginsInMemory held → BeginsInMemory (moved ts ms held)
begins-moved ts [] held d = d
begins-moved ts (m ∷ ms) held d = begins-moved ts ms (joined_in m.0 ts m.1 held) (begins-joined m.0 ts m.1 held d)

pub stay-played : (fill : Row) (super : Super) (held final : Held) (xs : List KeyOp) → PlacesDiffer held → BeginsInMemory held → played fill super held xs ≡ Ok final → PlacesDiffer final × BeginsInMemory final
stay-played fill super held final [] d b h = let e : held ≡ final = cc in subst (λ (f : Held). PlacesDiffer f × BeginsInMemory f) e (d, b)
stay-played fill super held final (x ∷ xs) d b h = elim (decided fill super (standing x.ts held) x.op x.told) as (λ o. if_fits x.ts (λ moves. played fill super (moved x.ts moves held) xs) o ≡ Ok final → PlacesDiffer final × BeginsInMemory final) [
  | None ↦ λ h. absurd (cc)
  | Some m ↦ λ h. stay-played fill super (moved x.ts m held) final xs (differ-moved x.ts m held d) (begins-moved x.ts m held b) h
] h

-- the place of a store among them
abbrev pub index_of : Place → Held → ℕ
index_of p [] = 0
index_of p (h ∷ held) = cond (same_place p h.0) 0 (suc (index_of p held))

pub joined_is : (p : Place) (ts : ℕ) (c : Change) (held : Held) → held_in (joined_in p ts c held) ≡ on_nth (index_of p held) (push ts c) (held_in held)
joined_is p ts c [] = refl
joined_is p ts c (h ∷ held) = elim (same_place p h.0) as (λ b. held_in (cond b ((h.0, push ts c h.1) ∷ held) (h ∷ joined_in p ts c held)) ≡ on_nth (cond b 0 (suc (index_of p held))) (push ts c) (h.1 ∷ held_in held)) [
  | true ↦ refl
  | false ↦ ap (λ hs. h.1 ∷ hs) (joined_is p ts c held)
]

-- the live row is the first that is there
abbrev pub row_in : Option (Place × Row) → Option Row
row_in None = None
row_in (Some at) = Some at.1

abbrev pub place_in : Option (Place × Row) → Place
place_in None = memory
place_in (Some at) = at.0

pub none_in : (o : Option (Place × Row)) → row_in o ≡ None → o ≡ None
none_in None h = refl
none_in (Some at) h = absurd (cc)

pub live_is : (fill : Row) (op : RowOp) (o : Option (Place × Row)) → to_live fill op o ≡ to_place (place_in o) (effect fill op.kind op.cells (row_in o)).0
live_is fill op None = refl
live_is fill op (Some at) = refl

pub live_first : (ts : ℕ) (held : Held) → row_in (live_in (standing ts held)) ≡ first_some (map (row_before ts) (held_in held))
live_first ts [] = refl
live_first ts (h ∷ held) = elim (row_before ts h.1) as (λ o. row_in (or_live h.0 o (live_in (standing ts held))) ≡ or_else o (first_some (map (row_before ts) (held_in held)))) [
  | None ↦ live_first ts held
  | Some row ↦ refl
]

pub before_is : (ts : ℕ) (h : Hist) → 0 < ts → row_before ts h ≡ row_of (ts - 1) h
before_is zero h up = absurd (omega arith)
before_is (suc t) h up = ap (λ n. row_of n h) (omega arith)

pub all_before : (ts : ℕ) (hs : List Hist) → 0 < ts → map (row_before ts) hs ≡ map (row_of (ts - 1)) hs
all_before ts [] up = refl
all_before ts (h ∷ hs) up = ap (λ r. r ∷ map (row_before ts) hs) (before_is ts h up) ∙ ap (λ rs. row_of (ts - 1) h ∷ rs) (all_before ts hs up)

-- a store with this place is among these
pub place_lacking : (ts : ℕ) (p : Place) (row : Row) (held : Held) → LacksPlace p held → live_in (standing ts held) ≡ Some (p, row) → ⊥
place_lacking ts p row [] l h = cc
place_lacking ts p row (h ∷ held) l is = elim (row_before ts h.1) as (λ o. or_live h.0 o (live_in (standing ts held)) ≡ Some (p, row) → ⊥) [
  | None ↦ λ e. place_lacking ts p row held l.1 e
  | Some r ↦ λ e. let same : h.0 ≡ p = ap place_in e in let t : same_place p h.0 ≡ true = ap (same_place p) same ∙ place_itself p in let f : true ≡ false = sym t ∙ l.0 in cc
] is

-- the store that has it live is the one at its place
pub live_at : (ts : ℕ) (p : Place) (row : Row) (held : Held) → PlacesDiffer held → live_in (standing ts held) ≡ Some (p, row) → nth_option (index_of p held) (map (row_before ts) (held_in held)) ≡ Some row
live_at ts p row [] d h = absurd (cc)
live_at ts p row (h ∷ held) d is = elim (row_before ts h.1) as (λ o. row_before ts h.1 ≡ o → or_live h.0 o (live_in (standing ts held)) ≡ Some (p, row) → nth_option (cond (same_place p h.0) 0 (suc (index_of p held))) (row_before ts h.1 ∷ map (row_before ts) (held_in held)) ≡ Some row) [
  | Some r ↦ λ e is. let same : h.0 ≡ p = ap place_in is in let r_is : Some r ≡ Some row = ap row_in is in
      subst (λ b. nth_option (cond b 0 (suc (index_of p held))) (row_before ts h.1 ∷ map (row_before ts) (held_in held)) ≡ Some row) (sym (ap (same_place p) same ∙ place_itself p)) (e ∙ r_is)
  | None ↦ λ e is. elim (same_place p h.0) as (λ b. same_place p h.0 ≡ b → nth_option (cond b 0 (suc (index_of p held))) (row_before ts h.1 ∷ map (row_before ts) (held_in held)) ≡ Some row) [
    | true ↦ λ s. absurd (place_lacking ts p row held (subst (λ q. LacksPlace q held) (sym (is_same p h.0 s)) d.0) is)
    | false ↦ λ s. live_at ts p row held d.1 is
  ] refl
] refl is

pub nth_long : {A : Type 0} (i : ℕ) (x : A) (xs : List (Option A)) → nth_option i xs ≡ Some x → i < length xs
nth_long i x [] h = absurd (cc)
nth_long zero x (y ∷ xs) h = omega arith
nth_long (suc i) x (y ∷ xs) h = let lt = nth_long i x xs h in omega arith

-- an operation above all that is there

module _ (fill : Row) (a ts : ℕ) (final : Held) (whole : Hist) (op : RowOp) (d : PlacesDiffer final) (b : BeginsInMemory final) (s : Shown a final whole) (un : Under ts whole.steps) (lt : a < ts) where
  abbrev hs : List Hist
  hs = held_in final

  under : AllUnder ts hs
  under = all_under ts hs (λ t le. s.shows.steps t (omega arith) ∙ none_under ts t whole.steps un le)

  settled : (t : ℕ) → ts ≤ t → map (row_of (ts - 1)) hs ≡ map (row_of t) hs
  settled t le = rows-settled ts (ts - 1) t hs under (omega arith) (omega arith)

  one_before : AtMostOne (map (row_of (ts - 1)) hs)
  one_before = s.shows.one_row (ts - 1) (omega arith)

  pub row_is : row_in (live_in (standing ts final)) ≡ row_before ts whole
  row_is = live_first ts final ∙ ap first_some (all_before ts hs (omega arith)) ∙ s.shows.rows (ts - 1) (omega arith) ∙ sym (before_is ts whole (omega arith))

  begins_long : (f : Held) → BeginsInMemory f → (0 < length (held_in f)) × (index_of memory f ≡ 0)
  begins_long [] b = absurd b
  begins_long (h ∷ f) b = (omega arith, subst (λ p. cond (same_place memory p) 0 (suc (index_of memory f)) ≡ 0) (sym b) refl)

  -- the store that takes the change is alone
  alone : (o : Option (Place × Row)) → live_in (standing ts final) ≡ o → Alone (index_of (place_in o) final) (map (row_of (ts - 1)) hs)
  alone None e =
      let begins = begins_long final b in
      let none : first_some (map (row_of (ts - 1)) hs) ≡ None = sym (ap first_some (all_before ts hs (omega arith))) ∙ sym (live_first ts final) ∙ ap row_in e in
      subst (λ i. Alone i (map (row_of (ts - 1)) hs)) (sym begins.1) (alone_of_none 0 (map (row_of (ts - 1)) hs) (subst (λ n. 0 < n) (sym (length_map (row_of (ts - 1)) hs)) begins.0) none)
  alone (Some at) e =
      let there : nth_option (index_of at.0 final) (map (row_of (ts - 1)) hs) ≡ Some at.1 = sym (ap (nth_option (index_of at.0 final)) (all_before ts hs (omega arith))) ∙ live_at ts at.0 at.1 final d e in
      alone_of_one (index_of at.0 final) (map (row_of (ts - 1)) hs) one_before (ap is_some there)

  long : (o : Option (Place × Row)) → live_in (standing ts final) ≡ o → index_of (place_in o) final < length hs
  long None e = let begins = begins_long final b in subst (λ i. i < length hs) (sym begins.1) begins.0
  long (Some at) e = subst (λ n. index_of at.0 final < n) (length_map (row_before ts) hs) (nth_long (index_of at.0 final) at.1 (map (row_before ts) hs) (live_at ts at.0 at.1 final d e))

  -- the stores once it has joined
  pub joins : (c : Change) → (effect fill op.kind op.cells (row_before ts whole)).0 ≡ Some c → Shown a (joined_in (place_in (live_in (standing ts final))) ts c final) (push ts c whole)
  joins c is =
      let i = index_of (place_in (live_in (standing ts final))) final in
      let at : (t : ℕ) → ts ≤ t → Alone i (map (row_of t) hs) = λ t le. subst (Alone i) (settled t le) (alone (live_in (standing ts final)) refl) in
      let same : on_nth i (push ts c) hs ≡ held_in (joined_in (place_in (live_in (standing ts final))) ts c final) = sym (joined_is (place_in (live_in (standing ts final))) ts c final) in
      let made : (effect fill op.kind op.cells (first_some (map (row_of ts) hs))).0 ≡ Some c =
      ap (λ r. (effect fill op.kind op.cells r).0) (sym (ap first_some (settled ts (omega arith))) ∙ sym (ap first_some (all_before ts hs (omega arith))) ∙ sym (live_first ts final) ∙ row_is) ∙ is in
      record {
        shows = subst (λ (l : List Hist). ShowsKey a l (push ts c whole)) same (shows-push a ts i c hs whole s.shows lt (long (live_in (standing ts final)) refl) at (none_under ts ts whole.steps un (omega arith)));
        sound = subst (λ (l : List Hist). AreSound a l) same (sound_push a ts i fill op.cells op.kind c hs s.sound under lt (at ts (omega arith)) made);
      }

  pub shown_more : Shown a (moved ts (to_live fill op (live_in (standing ts final))) final) (with_op fill ts op whole)
  shown_more =
      let moves : to_live fill op (live_in (standing ts final)) ≡ to_place (place_in (live_in (standing ts final))) (effect fill op.kind op.cells (row_before ts whole)).0 =
      live_is fill op (live_in (standing ts final)) ∙ ap (λ r. to_place (place_in (live_in (standing ts final))) (effect fill op.kind op.cells r).0) row_is in
      subst (λ (m : Moves). Shown a (moved ts m final) (with_op fill ts op whole)) (sym moves)
      (elim (effect fill op.kind op.cells (row_before ts whole)).0 as (λ o. (effect fill op.kind op.cells (row_before ts whole)).0 ≡ o → Shown a (moved ts (to_place (place_in (live_in (standing ts final))) o) final) (with_change ts o whole)) [
        | None ↦ λ e. s
        | Some c ↦ λ e. joins c e
      ] refl)

pub operation_more : an_operation_more_is_shown
operation_more fill super a ts held final whole xs op d b h s un lt =
    let stay = stay-played fill super held final xs d b h in (
      moved ts (to_live fill op (live_in (standing ts final))) final,
      played-append fill super held xs (untold ts op ∷ []) ∙ ap (then_played fill super (untold ts op ∷ [])) h,
      shown_more fill a ts final whole op stay.0 stay.1 s un lt,
    )

-- a COMMIT that tells what became of the operation

rise_told : (low : ℕ) (xs : List KeyOp) (x y : KeyOp) (ys : List KeyOp) → x.ts ≡ y.ts → OpsRise low (xs ++ x ∷ ys) → OpsRise low (xs ++ y ∷ ys)
rise_told low [] x y ys e r = (subst (λ n. low ≤ n) e r.0, subst (λ n. OpsRise (suc n) ys) e r.1)
rise_told low (v ∷ xs) x y ys e r = (r.0, rise_told (suc v.ts) xs x y ys e r.1)

same_moved : (xs : List KeyOp) (x y : KeyOp) (ys : List KeyOp) (ms : List Moves) (held : Held) → x.ts ≡ y.ts → all_moved (xs ++ x ∷ ys) ms held ≡ all_moved (xs ++ y ∷ ys) ms held
same_moved [] x y ys [] held e = refl
same_moved [] x y ys (m ∷ ms) held e = ap (λ n. all_moved ys ms (moved n m held)) e
same_moved (v ∷ xs) x y ys [] held e = refl
same_moved (v ∷ xs) x y ys (m ∷ ms) held e = same_moved xs x y ys ms (moved v.ts m held) e

agree_told : (fill : Row) (super : Super) (final : Held) (xs : List KeyOp) (x y : KeyOp) (ys : List KeyOp) (ms : List Moves)
    → decided fill super (standing x.ts final) x.op x.told ≡ decided fill super (standing y.ts final) y.op y.told → Agree fill super final (xs ++ x ∷ ys) ms → Agree fill super final (xs ++ y ∷ ys) ms
agree_told fill super final [] x y ys [] e h = absurd h
agree_told fill super final [] x y ys (m ∷ ms) e h = (sym e ∙ h.0, h.1)
agree_told fill super final (v ∷ xs) x y ys [] e h = absurd h
agree_told fill super final (v ∷ xs) x y ys (m ∷ ms) e h = (h.0, agree_told fill super final xs x y ys ms e h.1)

pub one_for_another : (fill : Row) (super : Super) (low : ℕ) (held final : Held) (xs : List KeyOp) (x y : KeyOp) (ys : List KeyOp) → x.ts ≡ y.ts → OpsRise low (xs ++ x ∷ ys)
    → decided fill super (standing x.ts final) x.op x.told ≡ decided fill super (standing y.ts final) y.op y.told → played fill super held (xs ++ x ∷ ys) ≡ Ok final → played fill super held (xs ++ y ∷ ys) ≡ Ok final
one_for_another fill super low held final xs x y ys e r same h =
    let was = plays_agree fill super low held final (xs ++ x ∷ ys) r h in
    let made : final ≡ all_moved (xs ++ y ∷ ys) was.0 held = was.1 ∙ same_moved xs x y ys was.0 held e in
    agree_plays fill super low held (xs ++ y ∷ ys) was.0 (rise_told low xs x y ys e r) (subst (λ (f : Held). Agree fill super f (xs ++ y ∷ ys) was.0) made (agree_told fill super final xs x y ys was.0 same was.2)) ∙ ap Ok (sym made)

pub true_names : true_names_change_nothing
true_names fill super low held final xs ts op targets ys r tells = (
  λ h. one_for_another fill super low held final xs (untold ts op) (told ts op targets) ys refl r (sym tells) h,
  λ h. one_for_another fill super low held final xs (told ts op targets) (untold ts op) ys refl (rise_told low xs (untold ts op) (told ts op targets) ys refl r) tells h,
)
