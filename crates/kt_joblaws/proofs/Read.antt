-- What a flush reads has no fault.
use Rattle.std.proofs.Common.{◌≡◌, ◌≤◌, ◌<◌, ◌^◌, ℕ, List, [], ◌∷◌, ◌++◌, map, length, Some, None, Option, Bool, true, false, cond, refl, sym, ap, ◌∙◌, subst, arith}
use Rattle.std.specs.Prelude.{nat_lt, nat_le, not}
use Rattle.std.specs.List.{AllByRecursion, filter, list_all}
use Rattle.std.specs.Ordering.{is_eq, is_lt, is_gt, eq_by_cmp}
use Rattle.std.specs.declared.cmp.Ordering.{Ordering}
use Rattle.std.specs.declared.cmp.Ordering.TheVariants.{Less, Equal, Greater}
use Rattle.std.proofs.lemmas.Bool.{ltb-true, leb-true}
use Rattle.kt_base.proofs.Values.{both_true}
use Rattle.kt_history.specs.declared.change.Change.{Change}
use Rattle.kt_history.specs.declared.changes.KeyChange.{KeyChange}
use Rattle.kt_history.specs.AsBytes.{step_of as as_step}
use Rattle.kt_history.specs.Rows.{Row, key_cmp}
use Rattle.kt_history.specs.Stores.{Steps, Hist, Under, row_of, step_of}
use Rattle.kt_histlaws.specs.Fitting.{AllFit, RiseAbove, Rises, steps_above}
use Rattle.kt_histlaws.specs.Histories.{first_some, or_else, AtMostOne}
use Rattle.kt_rowfiles.specs.Files.{put_rising, rising}
use Rattle.kt_rowfiles.specs.Flushing.{EachAbove, InOrderAt}
use Rattle.kt_rowfiles.specs.Merging.{all_above, joined_history}
use Rattle.kt_baseset.specs.declared.schema.ColumnShape.{ColumnShape}
use Rattle.kt_baseset.specs.Rows.{AreShapes, IdsRise}
use Rattle.kt_diskrowset.specs.declared.data.RowSetData.{RowSetData}
use Rattle.kt_diskrowset.specs.Data.{store_in}
use Rattle.kt_history.specs.Stores.{hist_in}
use Rattle.kt_content.specs.InMemory.{Name, Stores}
use Rattle.kt_merge.specs.Changes.{rises, changes_of, steps_of, hist_in_changes}
use Rattle.kt_merge.specs.Heads.{hist_upto}
use Rattle.kt_merge.specs.Merge.{hists_upto}
use Rattle.kt_merge.specs.OneKey.{PassesFrom, AllPass}
use Rattle.kt_merge.proofs.KeyChanges.{same_key, by_bool, gt_is_lt, not_true}
use Rattle.kt_merge.proofs.Written.{each_above}
use Rattle.kt_joblaws.specs.Apart.{AreApart, AllInOrder, IsOfTable, AreInTime, AreOfTable, RowIs, some_are_apart, those_are_apart, a_flush_reads_no_fault}
use Rattle.kt_joblaws.proofs.Joined.{rises_above, joined_rises, joined_fits, shown}
use Rattle.kt_joblaws.proofs.OfTable.{AreOf, row_then, all_pass}

-- ---- a front of stores that are apart

none_of : {A : Type 0} (x y : Option A) → or_else x y ≡ None → (x ≡ None) × (y ≡ None)
none_of None y h = (refl, h)
none_of (Some x) y h = absurd (cc)

none_front : {A B : Type 0} (f : A → Option B) (xs ys : List A) → first_some (map f (xs ++ ys)) ≡ None → first_some (map f xs) ≡ None
none_front f [] ys h = refl
none_front f (x ∷ xs) ys h =
    let parts = none_of (f x) (first_some (map f (xs ++ ys))) h in
    ap (λ o. or_else o (first_some (map f xs))) parts.0 ∙ none_front f xs ys parts.1

one_front : {A B : Type 0} (f : A → Option B) (xs ys : List A) → AtMostOne (map f (xs ++ ys)) → AtMostOne (map f xs)
one_front f [] ys one = tt
one_front {A} {B} f (x ∷ xs) ys one = by (f x) one (λ h. one_front f xs ys h)
  where
    by : (o : Option B) → AtMostOne (o ∷ map f (xs ++ ys)) → (AtMostOne (map f (xs ++ ys)) → AtMostOne (map f xs)) → AtMostOne (o ∷ map f xs)
    by None h rest = rest h
    by (Some y) h rest = none_front f xs ys h

fit_front : (t : ℕ) (xs ys : List Hist) → AllFit t (xs ++ ys) → AllFit t xs
fit_front t [] ys f = tt
fit_front t (h ∷ xs) ys f = (f.0, fit_front t xs ys f.1)

rise_front : (j : ℕ) (xs ys : List Hist) → RiseAbove j (xs ++ ys) → RiseAbove j xs
rise_front j [] ys r = tt
rise_front j (h ∷ xs) ys r = (r.0, rise_front j xs ys r.1)

-- what stores have, without their names, and those of some names
abbrev histories : Stores → List Hist
histories stores = map (λ (x : Name × Hist). x.1) stores

abbrev some_of : (Name → Bool) → Stores → Stores
some_of stays stores = filter (λ (x : Name × Hist). stays x.0) stores

none_one : {A : Type 0} (xs : List (Option A)) → first_some xs ≡ None → AtMostOne xs
none_one [] h = tt
none_one (None ∷ xs) h = none_one xs h
none_one (Some x ∷ xs) h = absurd (cc)

pub some_apart : some_are_apart
some_apart j xs ys a = record {
  one_row = λ t le. one_front (row_of t) xs ys (a.one_row t le);
  one_step = λ t lt. one_front (step_of t) xs ys (a.one_step t lt);
  sound = record { fit = λ t lt. fit_front t xs ys (a.sound.fit t lt); rise = rise_front j xs ys a.sound.rise };
}

-- ---- some of the stores, by their names

none_among : {B : Type 0} (f : Hist → Option B) (stays : Name → Bool) (stores : Stores) → first_some (map f (histories stores)) ≡ None → first_some (map f (histories (some_of stays stores))) ≡ None
none_among f stays [] h = refl
none_among f stays (x ∷ stores) h =
    let parts = none_of (f x.1) (first_some (map f (histories stores))) h in
    let rest = none_among f stays stores parts.1 in
    elim (stays x.0) as (λ (b : Bool). first_some (map f (histories (cond b (x ∷ some_of stays stores) (some_of stays stores)))) ≡ None) [
      | true ↦ ap (λ o. or_else o (first_some (map f (histories (some_of stays stores))))) parts.0 ∙ rest
      | false ↦ rest
    ]

one_among : {B : Type 0} (f : Hist → Option B) (stays : Name → Bool) (stores : Stores) → AtMostOne (map f (histories stores)) → AtMostOne (map f (histories (some_of stays stores)))
one_among f stays [] one = tt
one_among {B} f stays (x ∷ stores) one = elim (stays x.0) as (λ (b : Bool). AtMostOne (map f (histories (cond b (x ∷ some_of stays stores) (some_of stays stores))))) [
  | true ↦ by (f x.1) one (λ h. one_among f stays stores h)
  | false ↦ one_among f stays stores (tail (f x.1) one)
]
  where
    by : (o : Option B) → AtMostOne (o ∷ map f (histories stores)) → (AtMostOne (map f (histories stores)) → AtMostOne (map f (histories (some_of stays stores)))) → AtMostOne (o ∷ map f (histories (some_of stays stores)))
    by None h rest = rest h
    by (Some y) h rest = none_among f stays stores h

    tail : (o : Option B) → AtMostOne (o ∷ map f (histories stores)) → AtMostOne (map f (histories stores))
    tail None h = h
    tail (Some y) h = none_one (map f (histories stores)) h

fit_among : (t : ℕ) (stays : Name → Bool) (stores : Stores) → AllFit t (histories stores) → AllFit t (histories (some_of stays stores))
fit_among t stays [] f = tt
fit_among t stays (x ∷ stores) f = elim (stays x.0) as (λ (b : Bool). AllFit t (histories (cond b (x ∷ some_of stays stores) (some_of stays stores)))) [
  | true ↦ (f.0, fit_among t stays stores f.1)
  | false ↦ fit_among t stays stores f.1
]

rise_among : (j : ℕ) (stays : Name → Bool) (stores : Stores) → RiseAbove j (histories stores) → RiseAbove j (histories (some_of stays stores))
rise_among j stays [] r = tt
rise_among j stays (x ∷ stores) r = elim (stays x.0) as (λ (b : Bool). RiseAbove j (histories (cond b (x ∷ some_of stays stores) (some_of stays stores)))) [
  | true ↦ (r.0, rise_among j stays stores r.1)
  | false ↦ rise_among j stays stores r.1
]

pub those_apart : those_are_apart
those_apart j stays stores a = record {
  one_row = λ t le. one_among (row_of t) stays stores (a.one_row t le);
  one_step = λ t lt. one_among (step_of t) stays stores (a.one_step t lt);
  sound = record { fit = λ t lt. fit_among t stays stores (a.sound.fit t lt); rise = rise_among j stays stores a.sound.rise };
}

-- ---- of one key, changes that come in time

-- each comes after all before it
abbrev Ascends : Steps → Type 0
Ascends [] = Unit {0}
Ascends (c ∷ steps) = EachAbove c.0 steps × Ascends steps

lower : (a b : ℕ) (steps : Steps) → a ≤ b → EachAbove b steps → EachAbove a steps
lower a b [] le e = tt
lower a b (c ∷ steps) le e = (omega (arith, e.0), lower a b steps le e.1)

not_either : (a b : List ℕ) → is_gt (key_cmp a b) ≡ false → is_gt (key_cmp b a) ≡ false → eq_by_cmp key_cmp a b ≡ true
not_either a b up down = by (key_cmp a b) up (sym (gt_is_lt a b) ∙ down)
  where
    by : (o : Ordering) → is_gt o ≡ false → is_lt o ≡ false → is_eq o ≡ true
    by Less g l = absurd (cc)
    by Equal g l = refl
    by Greater g l = absurd (cc)

-- behind a change of another key, which is not below this one, none is of this key
none_there : (q k : List ℕ) (list : List KeyChange) → is_gt (key_cmp q k) ≡ false → eq_by_cmp key_cmp q k ≡ false → list_all (λ (d : KeyChange). not (is_gt (key_cmp k d.key))) list ≡ true → steps_of q list ≡ []
none_there q k [] up ne all = refl
none_there q k (d ∷ list) up ne all =
    let parts = both_true (not (is_gt (key_cmp k d.key))) (list_all (λ (x : KeyChange). not (is_gt (key_cmp k x.key))) list) all in
    ap (λ b. map as_step (cond b (d ∷ changes_of q list) (changes_of q list))) (other (not_true (is_gt (key_cmp k d.key)) parts.0)) ∙ none_there q k list up ne parts.1
  where
    other : is_gt (key_cmp k d.key) ≡ false → eq_by_cmp key_cmp q d.key ≡ false
    other le = by_bool (eq_by_cmp key_cmp q d.key)
        (λ tied. absurd (let e : false ≡ true = sym ne ∙ not_either q k up (ap (λ x. is_gt (key_cmp k x)) (same_key q d.key tied) ∙ le) in cc))
        (λ e. e)

ascend : (q : List ℕ) (list : List KeyChange) → rises list ≡ true → AreInTime list → Ascends (steps_of q list)
ascend q [] r time = tt
ascend q (c ∷ []) r time = by_bool (eq_by_cmp key_cmp q c.key)
    (λ e. subst (λ b. Ascends (map as_step (cond b (c ∷ []) []))) (sym e) (tt, tt))
    (λ e. subst (λ b. Ascends (map as_step (cond b (c ∷ []) []))) (sym e) tt)
ascend q (c ∷ d ∷ list) r time =
    let parts = both_true (list_all (λ (x : KeyChange). not (is_gt (key_cmp c.key x.key))) (d ∷ list)) (rises (d ∷ list)) r in
    let rest = ascend q (d ∷ list) parts.1 time.1 in
    by_bool (eq_by_cmp key_cmp q c.key)
    (λ e. subst (λ b. Ascends (map as_step (cond b (c ∷ changes_of q (d ∷ list)) (changes_of q (d ∷ list))))) (sym e) (all_later e parts.0 parts.1 rest, rest))
    (λ e. subst (λ b. Ascends (map as_step (cond b (c ∷ changes_of q (d ∷ list)) (changes_of q (d ∷ list))))) (sym e) rest)
  where
    all_later : eq_by_cmp key_cmp q c.key ≡ true → list_all (λ (x : KeyChange). not (is_gt (key_cmp c.key x.key))) (d ∷ list) ≡ true → rises (d ∷ list) ≡ true → Ascends (steps_of q (d ∷ list)) → EachAbove c.ts (steps_of q (d ∷ list))
    all_later mine from rest_rises rest = by_bool (eq_by_cmp key_cmp q d.key)
        (λ e.
        let same : c.key ≡ d.key = sym (same_key q c.key mine) ∙ same_key q d.key e in
        let up : c.ts < d.ts = time.0 same in
        let own : Ascends (as_step d ∷ steps_of q list) = subst (λ b. Ascends (map as_step (cond b (d ∷ changes_of q list) (changes_of q list)))) e rest in
        subst (λ b. EachAbove c.ts (map as_step (cond b (d ∷ changes_of q list) (changes_of q list)))) (sym e) (up, lower c.ts d.ts (steps_of q list) (omega arith) own.0))
        (λ e.
        let not_above : is_gt (key_cmp q d.key) ≡ false = ap (λ x. is_gt (key_cmp x d.key)) (same_key q c.key mine)
        ∙ not_true (is_gt (key_cmp c.key d.key)) (both_true (not (is_gt (key_cmp c.key d.key))) (list_all (λ (x : KeyChange). not (is_gt (key_cmp c.key x.key))) list) from).0 in
        let none : steps_of q list ≡ [] = none_there q d.key list not_above e (both_true (list_all (λ (x : KeyChange). not (is_gt (key_cmp d.key x.key))) list) (rises list) rest_rises).0 in
        subst (λ b. EachAbove c.ts (map as_step (cond b (d ∷ changes_of q list) (changes_of q list)))) (sym e) (subst (EachAbove c.ts) (sym none) tt))

abbrev pub upto : ℕ → Steps → Steps
upto bound steps = filter (λ (c : ℕ × Change). nat_le c.0 bound) steps

pub above_some : (low : ℕ) (p : ℕ × Change → Bool) (steps : Steps) → EachAbove low steps → EachAbove low (filter p steps)
above_some low p [] e = tt
above_some low p (c ∷ steps) e = elim (p c) as (λ b. EachAbove low (cond b (c ∷ filter p steps) (filter p steps))) [
  | true ↦ (e.0, above_some low p steps e.1)
  | false ↦ above_some low p steps e.1
]

some_ascend : (p : ℕ × Change → Bool) (steps : Steps) → Ascends steps → Ascends (filter p steps)
some_ascend p [] a = tt
some_ascend p (c ∷ steps) a = elim (p c) as (λ b. Ascends (cond b (c ∷ filter p steps) (filter p steps))) [
  | true ↦ (above_some c.0 p steps a.0, some_ascend p steps a.1)
  | false ↦ some_ascend p steps a.1
]

in_order : (j : ℕ) (steps : Steps) → Ascends steps → InOrderAt j steps
in_order j [] a = tt
in_order j (c ∷ steps) a = (λ e. lower j c.0 steps (let up = ltb-true j c.0 e in omega arith) a.0, in_order j steps a.1)

-- ---- what holds of each change

module _ (P : ℕ × Change → Type 0) where
  pub each_some : (p : ℕ × Change → Bool) (steps : Steps) → AllByRecursion P steps → AllByRecursion P (filter p steps)
  each_some p [] h = tt
  each_some p (c ∷ steps) h = elim (p c) as (λ b. AllByRecursion P (cond b (c ∷ filter p steps) (filter p steps))) [
    | true ↦ (h.0, each_some p steps h.1)
    | false ↦ each_some p steps h.1
  ]

  each_both : (xs ys : Steps) → AllByRecursion P xs → AllByRecursion P ys → AllByRecursion P (xs ++ ys)
  each_both [] ys h k = k
  each_both (x ∷ xs) ys h k = (h.0, each_both xs ys h.1 k)

  each_put : (c : ℕ × Change) (steps : Steps) → P c → AllByRecursion P steps → AllByRecursion P (put_rising c steps)
  each_put c [] p h = (p, tt)
  each_put c (d ∷ steps) p h = elim (nat_lt d.0 c.0) as (λ b. AllByRecursion P (cond b (d ∷ put_rising c steps) (c ∷ d ∷ steps))) [
    | true ↦ (h.0, each_put c steps p h.1)
    | false ↦ (p, (h.0, h.1))
  ]

  pub each_rising : (steps : Steps) → AllByRecursion P steps → AllByRecursion P (rising steps)
  each_rising [] h = tt
  each_rising (c ∷ steps) h = each_put c (rising steps) h.0 (each_rising steps h.1)

  abbrev EachOf : List Hist → Type 0
  EachOf hs = AllByRecursion (λ (h : Hist). AllByRecursion P h.steps) hs

  pub each_above_all : (j : ℕ) (hs : List Hist) → EachOf hs → AllByRecursion P (all_above j hs)
  each_above_all j [] h = tt
  each_above_all j (x ∷ hs) h = each_both (steps_above j x.steps) (all_above j hs) (each_some (λ (c : ℕ × Change). nat_lt j c.0) x.steps h.0) (each_above_all j hs h.1)

-- ---- one list

-- what a list has of a key up to a bound
abbrev told : ℕ → List ℕ → List KeyChange → Hist
told bound q list = hist_upto bound (hist_in_changes q list)

of_key : (columns : List ColumnShape) (q : List ℕ) (list : List KeyChange) → AllByRecursion (λ (c : KeyChange). IsOfTable columns c.change) list → AreOf columns (steps_of q list)
of_key columns q [] h = tt
of_key columns q (c ∷ list) h = elim (eq_by_cmp key_cmp q c.key) as (λ b. AreOf columns (map as_step (cond b (c ∷ changes_of q list) (changes_of q list)))) [
  | true ↦ (h.0, of_key columns q list h.1)
  | false ↦ of_key columns q list h.1
]

pub within : (bound : ℕ) (steps : Steps) → AllByRecursion (λ (c : ℕ × Change). c.0 ≤ bound) (upto bound steps)
within bound [] = tt
within bound (c ∷ steps) = elim (nat_le c.0 bound) as (λ b. nat_le c.0 bound ≡ b → AllByRecursion (λ (x : ℕ × Change). x.0 ≤ bound) (cond b (c ∷ upto bound steps) (upto bound steps))) [
  | true ↦ λ e. (leb-true c.0 bound e, within bound steps)
  | false ↦ λ e. within bound steps
] refl

-- ---- all lists

module _ (columns : List ColumnShape) (bound : ℕ) (q : List ℕ) where
  abbrev all_told : List (List KeyChange) → List Hist
  all_told mems = map (told bound q) mems

  orders : (j : ℕ) (mems : List (List KeyChange)) → AllByRecursion (AreOfTable columns) mems → AllByRecursion (λ (list : List KeyChange). rises list ≡ true) mems → AllInOrder j (all_told mems)
  orders j [] of r = tt
  orders j (list ∷ mems) of r = (in_order j (upto bound (steps_of q list)) (some_ascend (λ (c : ℕ × Change). nat_le c.0 bound) (steps_of q list) (ascend q list r.0 of.0.time)), orders j mems of.1 r.1)

  all_of : (mems : List (List KeyChange)) → AllByRecursion (AreOfTable columns) mems → AllByRecursion (λ (h : Hist). AreOf columns h.steps) (all_told mems)
  all_of [] of = tt
  all_of (list ∷ mems) of = (each_some (λ (c : ℕ × Change). IsOfTable columns c.1) (λ (c : ℕ × Change). nat_le c.0 bound) (steps_of q list) (of_key columns q list of.0.each), all_of mems of.1)

  all_within : (mems : List (List KeyChange)) → AllByRecursion (λ (h : Hist). AllByRecursion (λ (c : ℕ × Change). c.0 ≤ bound) h.steps) (all_told mems)
  all_within [] = tt
  all_within (list ∷ mems) = (within bound (steps_of q list), all_within mems)

  -- the row at the mark is one of the table
  first_row : (j : ℕ) (mems : List (List KeyChange)) → IdsRise 0 columns → AllByRecursion (AreOfTable columns) mems → RowIs columns (first_some (map (row_of j) (all_told mems)))
  first_row j [] rise of = tt
  first_row j (list ∷ mems) rise of =
      by (row_of j (told bound q list)) (row_then columns j (upto bound (steps_of q list)) None rise (each_some (λ (c : ℕ × Change). IsOfTable columns c.1) (λ (c : ℕ × Change). nat_le c.0 bound) (steps_of q list) (of_key columns q list of.0.each)) tt) (first_row j mems rise of.1)
    where
      by : (o : Option Row) → RowIs columns o → RowIs columns (first_some (map (row_of j) (all_told mems))) → RowIs columns (or_else o (first_some (map (row_of j) (all_told mems))))
      by None r rest = rest
      by (Some row) r rest = r

under_top : (bound top : ℕ) (steps : Steps) → bound < top → AllByRecursion (λ (c : ℕ × Change). c.0 ≤ bound) steps → Under top steps
under_top bound top [] lt h = tt
under_top bound top (c ∷ steps) lt h = (omega (arith, h.0), under_top bound top steps lt h.1)

order_of : (j : ℕ) (steps : Steps) → EachAbove j steps → Rises j steps → InOrderAt j steps
order_of j [] e r = tt
order_of j (c ∷ steps) e r = (λ up. e.1, order_of j steps e.1 (low j c.0 steps (omega (arith, r.0)) r.1))
  where
    low : (a b : ℕ) (l : Steps) → a ≤ b → Rises b l → Rises a l
    low a b [] le s = tt
    low a b (x ∷ l) le s = (omega (arith, s.0), s.1)

-- Histories of one key that are apart, of the table and in their order
pub apart_pass : (columns : List ColumnShape) (j bound : ℕ) (hs : List Hist) → AreShapes columns → bound < 2 ^ 64 → AreApart j hs → AllInOrder j hs
    → AllByRecursion (λ (h : Hist). AreOf columns h.steps) hs → AllByRecursion (λ (h : Hist). AllByRecursion (λ (c : ℕ × Change). c.0 ≤ bound) h.steps) hs → RowIs columns (first_some (map (row_of j) hs))
    → PassesFrom columns j (2 ^ 64) hs
apart_pass columns j bound hs are lt apart order of low row =
    let steps : Steps = rising (all_above j hs) in
    let rise : Rises j steps = joined_rises j hs apart in
    let above : EachAbove j steps = rises_above j steps rise in
    let same : steps_above j steps ≡ steps = each_above j steps above in
    let shows = shown j hs apart order in
    let first : row_of j (joined_history j hs) ≡ first_some (map (row_of j) hs) = sym (shows.rows j (omega arith)) in
    let pass : AllPass columns steps (first_some (map (row_of j) hs)) = all_pass columns steps (first_some (map (row_of j) hs)) are (joined_fits j hs apart order)
    (each_rising (λ (c : ℕ × Change). IsOfTable columns c.1) (all_above j hs) (each_above_all (λ (c : ℕ × Change). IsOfTable columns c.1) j hs of)) row in
    let below : Under (2 ^ 64) steps = under_top bound (2 ^ 64) steps lt
    (each_rising (λ (c : ℕ × Change). c.0 ≤ bound) (all_above j hs) (each_above_all (λ (c : ℕ × Change). c.0 ≤ bound) j hs low)) in
    record {
      whole = joined_history j hs;
      shows = shows;
      rise = apart.sound.rise;
      order = order_of j steps above rise;
      rises = (subst (Rises j) (sym same) rise, tt);
      under = subst (Under (2 ^ 64)) (sym same) below;
      pass = subst (AllPass columns (steps_above j steps)) (sym first) (subst (λ (l : Steps). AllPass columns l (first_some (map (row_of j) hs))) (sym same) pass);
    }

-- one key
one_passes : (columns : List ColumnShape) (j bound : ℕ) (q : List ℕ) (mems : List (List KeyChange)) → AreShapes columns → bound < 2 ^ 64 → AllByRecursion (AreOfTable columns) mems
    → AllByRecursion (λ (list : List KeyChange). rises list ≡ true) mems → AreApart j (map (told bound q) mems) → PassesFrom columns j (2 ^ 64) (map (told bound q) mems)
one_passes columns j bound q mems are lt of r apart =
    apart_pass columns j bound (map (told bound q) mems) are lt apart (orders columns bound q j mems of r) (all_of columns bound q mems of) (all_within columns bound q mems) (first_row columns bound q j mems are.rise of)

-- ---- the whole

hists_are : (bound : ℕ) (q : List ℕ) (mems : List (List KeyChange)) → map (hist_upto bound) (map (hist_in_changes q) mems ++ []) ≡ map (told bound q) mems
hists_are bound q [] = refl
hists_are bound q (list ∷ mems) = ap (λ (l : List Hist). told bound q list ∷ l) (hists_are bound q mems)

keys_short : (columns : List ColumnShape) (mems : List (List KeyChange)) → AllByRecursion (AreOfTable columns) mems
    → AllByRecursion (λ (list : List KeyChange). AllByRecursion (λ (c : KeyChange). length c.key ≤ 16384) list) mems
keys_short columns [] of = tt
keys_short columns (list ∷ mems) of = (of.0.keys, keys_short columns mems of.1)

pub no_fault : a_flush_reads_no_fault
no_fault span inputs none lt are of r apart = record {
  keys = keys_short inputs.columns inputs.mems of;
  each = λ q.
      let is : hists_upto span.bound q inputs ≡ map (told span.bound q) inputs.mems =
      ap (λ (l : List RowSetData). map (hist_upto span.bound) (map (hist_in_changes q) inputs.mems ++ map (λ (d : RowSetData). hist_in q (store_in d)) l)) none ∙ hists_are span.bound q inputs.mems in
      subst (PassesFrom inputs.columns span.mark (2 ^ 64)) (sym is) (one_passes inputs.columns span.mark span.bound q inputs.mems are lt of r (subst (AreApart span.mark) is (apart q)));
}
