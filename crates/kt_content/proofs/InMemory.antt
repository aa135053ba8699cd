-- The stores in memory and the places that they stand for.
use Rattle.std.proofs.Common.{◌≡◌, ◌<◌, ◌-◌, ℕ, zero, suc, List, [], ◌∷◌, ◌++◌, Some, None, Option, refl, sym, ap, ◌∙◌, subst, arith, cond, true, false, Bool, map, length, inl, inr}
use Rattle.std.specs.Prelude.{is_some, not}
use Rattle.std.proofs.lemmas.Bool.Decides.{nat_tests}
use Rattle.kt_history.specs.declared.change.Change.{Change}
use Rattle.kt_history.specs.Rows.{Row}
use Rattle.kt_histlaws.specs.Histories.{on_nth, first_some, or_else, AtMostOne}
use Rattle.kt_history.specs.Stores.{Hist, row_of, step_of, push, never}
use Rattle.kt_histlaws.specs.Jobs.{AreAlike}
use Rattle.kt_histlaws.proofs.OneKey.{none_left, none_right}
use Rattle.kt_histlaws.proofs.Jobs.{both_alike}
use Rattle.std.proofs.lemmas.List.{map-append}
use Rattle.kt_content.specs.Places.{Super, Place, same_place, Held, held_in, joined_in, standing, row_there, row_before, live_in, or_live}
use Rattle.kt_content.specs.MoreOps.{LacksPlace, PlacesDiffer}
use Rattle.kt_content.specs.Publishing.{kept, gone}
use Rattle.kt_content.specs.InMemory.{Name, mem_rows, rowset, same_name, Stores, stands_for, is_at, group, hist_at, HasPlace, groups, joined_name, hist_of_name, live_stores_stand_for_live_places, index_in, both_sides_mirror, an_unnamed_store_mirrors, inputs_in_memory_are_those_of_the_content, alike_to_one_are_alike, another_superblock_mirrors}
use Rattle.kt_content.proofs.MoreOps.{is_same, place_itself, all_before, before_is}
use Rattle.kt_content.proofs.Options.{or_none, is_there, at_most_rest}

pub is_name : (n m : Name) → same_name n m ≡ true → n ≡ m
is_name (mem_rows n) (mem_rows m) h = let e : n ≡ m = grind (arith, nat_tests) in ap mem_rows e
is_name (mem_rows n) (rowset r) h = cc
is_name (rowset r) (mem_rows n) h = cc
is_name (rowset r) (rowset s) h = let e : r ≡ s = grind (arith, nat_tests) in ap rowset e

-- a row of one of a group's stores is one of the group
some_in : {A : Type 0} (x : Option A) (xs : List (Option A)) → is_some (first_some xs) ≡ true → is_some (first_some (x ∷ xs)) ≡ true
some_in None xs h = h
some_in (Some x) xs h = refl

some_first : {A : Type 0} (x : Option A) (xs : List (Option A)) → is_some x ≡ true → is_some (first_some (x ∷ xs)) ≡ true
some_first None xs h = cc
some_first (Some x) xs h = refl

in_group : (t : ℕ) (super : Super) (p : Place) (n : Name) (h : Hist) (stores : Stores) → hist_of_name n stores ≡ Some h → stands_for super n ≡ Some p → is_some (row_of t h) ≡ true → is_some (first_some (map (row_of t) (group super p stores))) ≡ true
in_group t super p n h [] is at live = absurd (let e : None ≡ Some h = is in cc)
in_group t super p n h (x ∷ stores) is at live = elim (same_name n x.0) as (λ b. same_name n x.0 ≡ b → cond b (Some x.1) (hist_of_name n stores) ≡ Some h → is_some (first_some (map (row_of t) (cond (is_at p (stands_for super x.0)) (x.1 ∷ group super p stores) (group super p stores)))) ≡ true) [
  | true ↦ λ e is.
      let here : x.1 ≡ h = cc in
      let there : is_at p (stands_for super x.0) ≡ true = ap (λ m. is_at p (stands_for super m)) (sym (is_name n x.0 e)) ∙ ap (is_at p) at ∙ place_itself p in
      subst (λ b. is_some (first_some (map (row_of t) (cond b (x.1 ∷ group super p stores) (group super p stores)))) ≡ true) (sym there)
      (some_first (row_of t x.1) (map (row_of t) (group super p stores)) (ap (λ k. is_some (row_of t k)) here ∙ live))
  | false ↦ λ e is.
      let rest = in_group t super p n h stores is at live in
      elim (is_at p (stands_for super x.0)) as (λ b. is_some (first_some (map (row_of t) (cond b (x.1 ∷ group super p stores) (group super p stores)))) ≡ true) [
        | true ↦ some_in (row_of t x.1) (map (row_of t) (group super p stores)) rest
        | false ↦ rest
      ]
] refl is

never_before : (ts : ℕ) → row_before ts never ≡ None
never_before zero = refl
never_before (suc t) = refl

pub row_there_is : (ts : ℕ) (p : Place) (held : Held) → row_there p (standing ts held) ≡ row_before ts (hist_at p held)
row_there_is ts p [] = sym (never_before ts)
row_there_is ts p (h ∷ held) = elim (same_place p h.0) as (λ b. cond b (row_before ts h.1) (row_there p (standing ts held)) ≡ row_before ts (cond b h.1 (hist_at p held))) [
  | true ↦ refl
  | false ↦ row_there_is ts p held
]

there_some : (ts : ℕ) (p : Place) (row : Row) (held : Held) → row_there p (standing ts held) ≡ Some row → is_some (first_some (map (row_before ts) (held_in held))) ≡ true
there_some ts p row [] h = absurd (cc)
there_some ts p row (h ∷ held) is = elim (same_place p h.0) as (λ b. cond b (row_before ts h.1) (row_there p (standing ts held)) ≡ Some row → is_some (first_some (row_before ts h.1 ∷ map (row_before ts) (held_in held))) ≡ true) [
  | true ↦ λ e. some_first (row_before ts h.1) (map (row_before ts) (held_in held)) (ap is_some e)
  | false ↦ λ e. some_in (row_before ts h.1) (map (row_before ts) (held_in held)) (there_some ts p row held e)
] is

live_is_this : (p q : Place) (y row : Row) → p ≡ q → y ≡ row → or_live p (Some y) None ≡ Some (q, row)
live_is_this p q y row e f = ap (λ k. or_live k (Some y) None) e ∙ ap (λ r. or_live q (Some r) None) f

-- where one at most has it live, the store that has it is the live one
pub live_unique : (ts : ℕ) (p : Place) (row : Row) (held : Held) → AtMostOne (map (row_before ts) (held_in held)) → row_there p (standing ts held) ≡ Some row → live_in (standing ts held) ≡ Some (p, row)
live_unique ts p row [] one h = absurd (cc)
live_unique ts p row (h ∷ held) one is = elim (row_before ts h.1) as (λ o. AtMostOne (o ∷ map (row_before ts) (held_in held)) → cond (same_place p h.0) o (row_there p (standing ts held)) ≡ Some row → or_live h.0 o (live_in (standing ts held)) ≡ Some (p, row)) [
  | None ↦ λ one. elim (same_place p h.0) as (λ b. cond b None (row_there p (standing ts held)) ≡ Some row → live_in (standing ts held) ≡ Some (p, row)) [
    | true ↦ λ e. absurd (cc)
    | false ↦ λ e. live_unique ts p row held one e
  ]
  | Some y ↦ λ one. elim (same_place p h.0) as (λ b. same_place p h.0 ≡ b → cond b (Some y) (row_there p (standing ts held)) ≡ Some row → or_live h.0 (Some y) (live_in (standing ts held)) ≡ Some (p, row)) [
    | true ↦ λ s e. let same : y ≡ row = cc in live_is_this h.0 p y row (sym (is_same p h.0 s)) same
    | false ↦ λ s e. absurd (let some = there_some ts p row held e in let none : is_some (first_some (map (row_before ts) (held_in held))) ≡ false = ap is_some one in let f : true ≡ false = sym some ∙ none in cc)
  ] refl
] one is

pub live_places : live_stores_stand_for_live_places
live_places a ts super stores held whole n h p d m s lt is at live =
    let lives : is_some (row_of (ts - 1) h) ≡ true = ap is_some (sym (before_is ts h (omega arith))) ∙ live in
    let grouped = in_group (ts - 1) super p n h stores is at lives in
    let placed : first_some (map (row_of (ts - 1)) (group super p stores)) ≡ row_of (ts - 1) (hist_at p held) = (m p).rows (ts - 1) (omega arith) ∙ or_none (row_of (ts - 1) (hist_at p held)) in
    let row = is_there (row_of (ts - 1) (hist_at p held)) (ap is_some (sym placed) ∙ grouped) in (
      row.0,
      live_unique ts p row.0 held (subst AtMostOne (sym (all_before ts (held_in held) (omega arith))) (s.shows.one_row (ts - 1) (omega arith)))
          (row_there_is ts p held ∙ before_is ts (hist_at p held) (omega arith) ∙ row.1),
    )

-- a change on both sides

pub group_same : (super : Super) (p : Place) (n : Name) (ts : ℕ) (c : Change) (stores : Stores) → stands_for super n ≡ Some p → group super p (joined_name n ts c stores) ≡ on_nth (index_in super p n stores) (push ts c) (group super p stores)
group_same super p n ts c [] at = refl
group_same super p n ts c (x ∷ stores) at = elim (same_name n x.0) as (λ b. same_name n x.0 ≡ b → group super p (cond b ((x.0, push ts c x.1) ∷ stores) (x ∷ joined_name n ts c stores))
    ≡ on_nth (cond b 0 (cond (is_at p (stands_for super x.0)) (suc (index_in super p n stores)) (index_in super p n stores))) (push ts c) (cond (is_at p (stands_for super x.0)) (x.1 ∷ group super p stores) (group super p stores))) [
      | true ↦ λ e. let there : is_at p (stands_for super x.0) ≡ true = ap (λ m. is_at p (stands_for super m)) (sym (is_name n x.0 e)) ∙ ap (is_at p) at ∙ place_itself p in rw there refl
      | false ↦ λ e. elim (is_at p (stands_for super x.0)) as (λ b. cond b (x.1 ∷ group super p (joined_name n ts c stores)) (group super p (joined_name n ts c stores))
          ≡ on_nth (cond b (suc (index_in super p n stores)) (index_in super p n stores)) (push ts c) (cond b (x.1 ∷ group super p stores) (group super p stores))) [
            | true ↦ ap (λ l. x.1 ∷ l) (group_same super p n ts c stores at)
            | false ↦ group_same super p n ts c stores at
          ]
    ] refl

pub group_other : (super : Super) (p : Place) (n : Name) (ts : ℕ) (c : Change) (stores : Stores) → is_at p (stands_for super n) ≡ false → group super p (joined_name n ts c stores) ≡ group super p stores
group_other super p n ts c [] at = refl
group_other super p n ts c (x ∷ stores) at = elim (same_name n x.0) as (λ b. same_name n x.0 ≡ b → group super p (cond b ((x.0, push ts c x.1) ∷ stores) (x ∷ joined_name n ts c stores)) ≡ cond (is_at p (stands_for super x.0)) (x.1 ∷ group super p stores) (group super p stores)) [
  | true ↦ λ e. let there : is_at p (stands_for super x.0) ≡ false = ap (λ m. is_at p (stands_for super m)) (sym (is_name n x.0 e)) ∙ at in rw there refl
  | false ↦ λ e. ap (λ l. cond (is_at p (stands_for super x.0)) (x.1 ∷ l) l) (group_other super p n ts c stores at)
] refl

pub index_long : (super : Super) (p : Place) (n : Name) (h : Hist) (stores : Stores) → hist_of_name n stores ≡ Some h → stands_for super n ≡ Some p → index_in super p n stores < length (group super p stores)
index_long super p n h [] is at = absurd (let e : None ≡ Some h = is in cc)
index_long super p n h (x ∷ stores) is at = elim (same_name n x.0) as (λ b. same_name n x.0 ≡ b → cond b (Some x.1) (hist_of_name n stores) ≡ Some h
    → cond b 0 (cond (is_at p (stands_for super x.0)) (suc (index_in super p n stores)) (index_in super p n stores)) < length (cond (is_at p (stands_for super x.0)) (x.1 ∷ group super p stores) (group super p stores))) [
      | true ↦ λ e is. let there : is_at p (stands_for super x.0) ≡ true = ap (λ m. is_at p (stands_for super m)) (sym (is_name n x.0 e)) ∙ ap (is_at p) at ∙ place_itself p in
          subst (λ b. 0 < length (cond b (x.1 ∷ group super p stores) (group super p stores))) (sym there) (omega arith)
      | false ↦ λ e is. let rest = index_long super p n h stores is at in
          elim (is_at p (stands_for super x.0)) as (λ b. cond b (suc (index_in super p n stores)) (index_in super p n stores) < length (cond b (x.1 ∷ group super p stores) (group super p stores))) [
            | true ↦ omega arith
            | false ↦ rest
          ]
    ] refl is

pub place_same : (p : Place) (ts : ℕ) (c : Change) (held : Held) → HasPlace p held → hist_at p (joined_in p ts c held) ≡ push ts c (hist_at p held)
place_same p ts c [] h = absurd h
place_same p ts c (h ∷ held) has = elim (same_place p h.0) as (λ b. same_place p h.0 ≡ b → hist_at p (cond b ((h.0, push ts c h.1) ∷ held) (h ∷ joined_in p ts c held)) ≡ push ts c (cond b h.1 (hist_at p held))) [
  | true ↦ λ e. rw e refl
  | false ↦ λ e. rw e (place_same p ts c held (elim has [ inl x ↦ absurd (let f : true ≡ false = sym x ∙ e in cc) | inr y ↦ y ]))
] refl

pub place_other : (p q : Place) (ts : ℕ) (c : Change) (held : Held) → same_place q p ≡ false → hist_at q (joined_in p ts c held) ≡ hist_at q held
place_other p q ts c [] ne = refl
place_other p q ts c (h ∷ held) ne = elim (same_place p h.0) as (λ b. same_place p h.0 ≡ b → hist_at q (cond b ((h.0, push ts c h.1) ∷ held) (h ∷ joined_in p ts c held)) ≡ cond (same_place q h.0) h.1 (hist_at q held)) [
  | true ↦ λ e. let other : same_place q h.0 ≡ false = ap (same_place q) (sym (is_same p h.0 e)) ∙ ne in rw other refl
  | false ↦ λ e. ap (cond (same_place q h.0) h.1) (place_other p q ts c held ne)
] refl

pub both_mirror : both_sides_mirror
both_mirror a ts super stores held n p c h m lt at is has alone none q = elim (same_place q p) as (λ b. same_place q p ≡ b → AreAlike a (group super q (joined_name n ts c stores)) (hist_at q (joined_in p ts c held) ∷ [])) [
  | true ↦ λ e. subst (λ (k : Place). AreAlike a (group super k (joined_name n ts c stores)) (hist_at k (joined_in p ts c held) ∷ [])) (sym (is_same q p e))
      (subst (λ (l : List Hist). AreAlike a l (hist_at p (joined_in p ts c held) ∷ [])) (sym (group_same super p n ts c stores at))
      (subst (λ (k : Hist). AreAlike a (on_nth (index_in super p n stores) (push ts c) (group super p stores)) (k ∷ [])) (sym (place_same p ts c held has))
      (both_alike a ts (index_in super p n stores) 0 c (group super p stores) (hist_at p held ∷ []) (m p) lt (index_long super p n h stores is at) (omega arith) alone (λ t le. refl) none)))
  | false ↦ λ e. subst (λ (l : List Hist). AreAlike a l (hist_at q (joined_in p ts c held) ∷ [])) (sym (group_other super q n ts c stores (ap (is_at q) at ∙ e)))
      (subst (λ (k : Hist). AreAlike a (group super q stores) (k ∷ [])) (sym (place_other p q ts c held e)) (m q))
] refl

pub unnamed_mirrors : an_unnamed_store_mirrors
unnamed_mirrors a ts super stores held n c m at q = subst (λ (l : List Hist). AreAlike a l (hist_at q held ∷ [])) (sym (group_other super q n ts c stores (ap (is_at q) at))) (m q)

-- what a job reads

first-append : {A : Type 0} (xs ys : List (Option A)) → first_some (xs ++ ys) ≡ or_else (first_some xs) (first_some ys)
first-append [] ys = refl
first-append (None ∷ xs) ys = first-append xs ys
first-append (Some x ∷ xs) ys = refl

-- the places of these have just these histories in the whole
abbrev pub Finds : Held → Held → Type 0
Finds whole [] = Unit {0}
Finds whole (h ∷ held) = (hist_at h.0 whole ≡ h.1) × Finds whole held

finds_more : (h : Place × Hist) (whole held : Held) → LacksPlace h.0 held → Finds whole held → Finds (h ∷ whole) held
finds_more h whole [] l f = tt
finds_more h whole (x ∷ held) l f = (
  elim (same_place x.0 h.0) as (λ b. same_place x.0 h.0 ≡ b → cond b h.1 (hist_at x.0 whole) ≡ x.1) [
    | true ↦ λ e. absurd (let same : same_place h.0 x.0 ≡ true = ap (λ p. same_place p x.0) (sym (is_same x.0 h.0 e)) ∙ place_itself x.0 in let f : true ≡ false = sym same ∙ l.0 in cc)
    | false ↦ λ e. f.0
  ] refl,
  finds_more h whole held l.1 f.1,
)

pub finds_all : (held : Held) → PlacesDiffer held → Finds held held
finds_all [] d = tt
finds_all (h ∷ held) d = (ap (λ b. cond b h.1 (hist_at h.0 held)) (place_itself h.0), finds_more h held held d.0 (finds_all held d.1))

pub finds_gone : (keep : Place → Bool) (whole held : Held) → Finds whole held → Finds whole (gone keep held)
finds_gone keep whole [] f = tt
finds_gone keep whole (h ∷ held) f = elim (not (keep h.0)) as (λ b. Finds whole (cond b (h ∷ gone keep held) (gone keep held))) [ true ↦ (f.0, finds_gone keep whole held f.1) | false ↦ finds_gone keep whole held f.1 ]

module _ {A : Type 0} (f : Hist → Option A) (super : Super) (stores : Stores) (whole : Held) (same : (p : Place) → first_some (map f (group super p stores)) ≡ first_some (f (hist_at p whole) ∷ [])) where
  groups_same : (held : Held) → Finds whole held → first_some (map f (groups super stores held)) ≡ first_some (map f (held_in held))
  groups_same [] d = refl
  groups_same (h ∷ held) d = ap first_some (map-append f (group super h.0 stores) (groups super stores held)) ∙ first-append (map f (group super h.0 stores)) (map f (groups super stores held))
      ∙ ap (λ o. or_else o (first_some (map f (groups super stores held)))) (same h.0 ∙ ap (λ k. or_else (f k) None) d.0 ∙ or_none (f h.1)) ∙ ap (or_else (f h.1)) (groups_same held d.1)

none_among : {A : Type 0} (f : Hist → Option A) (keep : Place → Bool) (held : Held) → first_some (map f (held_in held)) ≡ None → first_some (map f (held_in (gone keep held))) ≡ None
none_among f keep [] h = refl
none_among f keep (x ∷ held) h =
    let rest = none_among f keep held (none_right (f x.1) (first_some (map f (held_in held))) h) in
    elim (not (keep x.0)) as (λ b. first_some (map f (held_in (cond b (x ∷ gone keep held) (gone keep held)))) ≡ None) [
      | true ↦ ap (λ o. or_else o (first_some (map f (held_in (gone keep held))))) (none_left (f x.1) (first_some (map f (held_in held))) h) ∙ rest
      | false ↦ rest
    ]

at_most_more : {A : Type 0} (x : Option A) (xs ys : List (Option A)) → AtMostOne (x ∷ xs) → (first_some xs ≡ None → first_some ys ≡ None) → (AtMostOne xs → AtMostOne ys) → AtMostOne (x ∷ ys)
at_most_more None xs ys one none some = some one
at_most_more (Some y) xs ys one none some = none one

one_among : {A : Type 0} (f : Hist → Option A) (keep : Place → Bool) (held : Held) → AtMostOne (map f (held_in held)) → AtMostOne (map f (held_in (gone keep held)))
one_among f keep [] one = tt
one_among f keep (x ∷ held) one = elim (not (keep x.0)) as (λ b. AtMostOne (map f (held_in (cond b (x ∷ gone keep held) (gone keep held))))) [
  | true ↦ at_most_more (f x.1) (map f (held_in held)) (map f (held_in (gone keep held))) one (none_among f keep held) (one_among f keep held)
  | false ↦ one_among f keep held (at_most_rest (f x.1) (map f (held_in held)) one)
]

pub inputs_alike : inputs_in_memory_are_those_of_the_content
inputs_alike a super stores held whole keep d m s =
    let found = finds_gone keep held held (finds_all held d) in
    record {
      rows = λ t le. groups_same (row_of t) super stores held (λ p. (m p).rows t le) (gone keep held) found;
      steps = λ t up. groups_same (step_of t) super stores held (λ p. (m p).steps t up) (gone keep held) found;
      one_row = λ t le. one_among (row_of t) keep held (s.shows.one_row t le);
      one_step = λ t up. one_among (step_of t) keep held (s.shows.one_step t up);
    }

pub alike_through : alike_to_one_are_alike
alike_through a j b ins held outs x y le low = record {
  rows = λ t from. sym (x.rows t (omega arith)) ∙ y.rows t (omega arith);
  steps = λ t up. sym (x.steps t (omega arith)) ∙ y.steps t (omega arith);
  one_row = λ t from. y.one_row t (omega arith);
  one_step = λ t up. y.one_step t (omega arith);
}

-- another superblock

hist-kept : (keep : Place → Bool) (p : Place) (held : Held) → keep p ≡ true → hist_at p (kept keep held) ≡ hist_at p held
hist-kept keep p [] k = refl
hist-kept keep p (h ∷ held) k = elim (same_place p h.0) as (λ b. same_place p h.0 ≡ b → hist_at p (cond (keep h.0) (h ∷ kept keep held) (kept keep held)) ≡ cond b h.1 (hist_at p held)) [
  | true ↦ λ e. let here : keep h.0 ≡ true = ap keep (sym (is_same p h.0 e)) ∙ k in rw (here, e) refl
  | false ↦ λ e. elim (keep h.0) as (λ b. hist_at p (cond b (h ∷ kept keep held) (kept keep held)) ≡ hist_at p held) [
    | true ↦ rw e (hist-kept keep p held k)
    | false ↦ hist-kept keep p held k
  ]
] refl

pub another_mirrors : another_superblock_mirrors
another_mirrors keep a b old new stores later held next m le same left taken p = elim (keep p) as (λ k. keep p ≡ k → AreAlike b (group new p later) (hist_at p next ∷ [])) [
  | true ↦ λ k.
      let hist : hist_at p held ≡ hist_at p next = sym (hist-kept keep p held k) ∙ ap (hist_at p) (sym same) ∙ hist-kept keep p next k in
      let was : AreAlike b (group old p stores) (hist_at p held ∷ []) = record { rows = λ t from. (m p).rows t (omega arith); steps = λ t up. (m p).steps t (omega arith); one_row = λ t from. (m p).one_row t (omega arith); one_step = λ t up. (m p).one_step t (omega arith) } in
      subst (λ (l : List Hist). AreAlike b l (hist_at p next ∷ [])) (sym (left p k)) (subst (λ (h : Hist). AreAlike b (group old p stores) (h ∷ [])) hist was)
  | false ↦ λ k. taken p k
] refl
