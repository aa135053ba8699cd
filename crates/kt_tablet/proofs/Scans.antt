-- What a scan is answered with, and what stands in its way.
use Rattle.std.proofs.Common.{◌≡◌, ℕ, zero, suc, ◌+◌, ◌-◌, ◌<◌, ◌≤◌, List, [], ◌∷◌, ◌++◌, Some, None, Option, refl, true, false, Bool, ◌&&◌, cond, sym, ap, ◌∙◌, subst, arith, map, take, get_or, min, max}
use Rattle.std.specs.Prelude.{not, nat_lt, nat_le, IsSome, slice_get, unwrap_or, if◌then◌else◌}
use Rattle.std.specs.Option.{option_map}
use Rattle.std.specs.List.{filter, list_all, All}
use Rattle.std.specs.Ordering.{is_lt, is_gt, is_eq, eq_by_cmp}
use Rattle.std.specs.FinMap.Entries.{find, is_sorted, below_all}
use Rattle.std.proofs.lemmas.Bool.{false≢true, and_parts}
use Rattle.std.proofs.lemmas.Bool.Decides.{nat_tests}
use Rattle.std.proofs.lemmas.Cmp.{tied_itself}
use Rattle.std.proofs.lemmas.List.Elements.{filter-append, All-nil, All-cons}
use Rattle.std.proofs.lemmas.List.Folds.{list_all-append}
use Rattle.std.proofs.lemmas.List.{append-nil}
use Rattle.kt_history.specs.declared.change.Change.{Change}
use Rattle.kt_history.specs.declared.changes.KeyChange.{KeyChange}
use Rattle.kt_history.specs.Rows.{Row, apply, key_cmp}
use Rattle.kt_history.specs.Machine.{Flying, none_flies, least}
use Rattle.kt_mvcc.specs.Waits.{lesser_of}
use Rattle.kt_histlaws.specs.Histories.{hists, first_some, AtMostOne}
use Rattle.kt_history.specs.Stores.{Steps, Hist, Store, after_steps, row_of, hist_in, changes_upto}
use Rattle.kt_views.specs.Told.{TellsUpTo}
use Rattle.kt_histlaws.specs.Core.{Core, Stands, flown_by}
use Rattle.kt_histlaws.proofs.Shown.{snapshot_told, at_most_one}
use Rattle.kt_tablet.specs.declared.snap.Copied.{Copied}
use Rattle.kt_tablet.specs.declared.snap.Copied.TheVariants as copied
use Rattle.kt_tablet.specs.declared.snap_view.SnapView.{SnapView}
use Rattle.kt_tablet.specs.Copies.{mark_of, copied_row}
use Rattle.kt_tablet.specs.declared.snap.Snap.{Snap}
use Rattle.kt_tablet.specs.Filling.{filled_change, filled_hist, filled, as_told, all_told}
use Rattle.kt_history.specs.Grown.{IsGrown, AllBare, AllGrown}
use Rattle.kt_stores.proofs.Beside.{some_is, none_some}
use Rattle.kt_tablet.specs.Snaps.{rises, changes_of, step_in, row_in}
use Rattle.kt_tablet.specs.SnapLaws.{order, by_bool, same_key}
use Rattle.kt_mvcc.specs.declared.flier.Flier.{Flier}
use Rattle.kt_mvcc.specs.Flying.{least_of}
use Rattle.kt_tablet.specs.declared.tablet.FlyingWrite.{FlyingWrite}
use Rattle.kt_tablet.specs.Views.{View, IsSound, Opens, aloft_of, flier_of}
use Rattle.kt_tablet.specs.Reads.{IsViewOf, IsCopyOf, AreCopies, ShowsRun, none_later, HoldsUpTo, TellsFrom, IsCopied, HasDrawn, MaySnapshot, look_of, time_in, time_of, IsAncient, IsBusy, MayReadNow, HasRead}
use Rattle.kt_tablet.proofs.Visits.{new_answered, told_still, least_alike}
use Rattle.kt_histlaws.specs.Core.{now}
use Rattle.kt_histlaws.specs.Events.{answered_rows}
use Rattle.kt_histlaws.proofs.Events.{ancient_stands, busy_stands, rows_stands}
use Rattle.kt_history.specs.History.{Past}
use Rattle.kt_history.specs.Machine.{Turn, nth, set_nth, IfScan, MayRead, ReadsAt, IsNext, look_for, command_at}
use Rattle.kt_history.specs.declared.scan.At.{At}
use Rattle.kt_history.specs.declared.scan.At.TheVariants.{Looked, Given}
use Rattle.kt_history.specs.declared.command.Command.{Command}
use Rattle.kt_history.specs.declared.command.Command.TheVariants as command
use Rattle.kt_history.specs.declared.event.Event.{Event}
use Rattle.kt_history.specs.declared.event.Event.TheVariants.{Ancient, Busy, Rows}
use Rattle.std.specs.declared.cmp.Ordering.{Ordering}
use Rattle.std.specs.declared.cmp.Ordering.TheVariants.{Less, Equal, Greater}
use Rattle.kt_tablet.proofs.Snaps.{none_of, all_map}

-- THE CHANGES OF A STORE UP TO A TIME
all_keyed : (p : List ℕ → Bool) (key : List ℕ) (steps : Steps) → p key ≡ true → list_all (λ (d : KeyChange). p d.key) (map (λ (c : ℕ × Change). record { key = key; ts = c.0; change = c.1 }) steps) ≡ true
all_keyed p key [] h = refl
all_keyed p key (c ∷ steps) h = ap (λ b. b && list_all (λ (d : KeyChange). p d.key) (map (λ (c : ℕ × Change). record { key = key; ts = c.0; change = c.1 }) steps)) h ∙ all_keyed p key steps h

-- a test of keys holds of all changes, where it holds of all keys
all_upto : (p : List ℕ → Bool) (t : ℕ) (store : Store) → list_all (λ (r : List ℕ × Hist). p r.0) store ≡ true → list_all (λ (d : KeyChange). p d.key) (changes_upto t store) ≡ true
all_upto p t [] h = refl
all_upto p t (r ∷ store) h = let parts = and_parts (p r.0) (list_all (λ (x : List ℕ × Hist). p x.0) store) h in
    list_all-append (λ (d : KeyChange). p d.key) (map (λ (c : ℕ × Change). record { key = r.0; ts = c.0; change = c.1 }) (filter (λ c. nat_le c.0 t) r.1.steps)) (changes_upto t store)
    ∙ ap (λ b. b && list_all (λ (d : KeyChange). p d.key) (changes_upto t store)) (all_keyed p r.0 (filter (λ c. nat_le c.0 t) r.1.steps) parts.0) ∙ all_upto p t store parts.1

below_keys : (key : List ℕ) (store : Store) → below_all key_cmp key store ≡ true → list_all (λ (r : List ℕ × Hist). is_lt (key_cmp key r.0)) store ≡ true
below_keys key [] h = refl
below_keys key (r ∷ store) h = let parts = and_parts (is_lt (key_cmp key r.0)) (below_all key_cmp key store) h in
    ap (λ b. b && list_all (λ (x : List ℕ × Hist). is_lt (key_cmp key x.0)) store) parts.0 ∙ below_keys key store parts.1

not_gt_itself : (key : List ℕ) → not (is_gt (key_cmp key key)) ≡ true
not_gt_itself key = ap (λ o. not (is_gt o)) (tied_itself order key)

lt_not_gt : (a b : List ℕ) → is_lt (key_cmp a b) ≡ true → not (is_gt (key_cmp a b)) ≡ true
lt_not_gt a b h = by_bool (is_gt (key_cmp a b)) (λ g. absurd (false≢true (both_no (key_cmp a b) h g))) (λ g. ap not g)
  where
    both_no : (o : Ordering) → is_lt o ≡ true → is_gt o ≡ true → false ≡ true
    both_no Less l g = g
    both_no Equal l g = g
    both_no Greater l g = l

lt_not_eq : (a b : List ℕ) → is_lt (key_cmp a b) ≡ true → not (eq_by_cmp key_cmp a b) ≡ true
lt_not_eq a b h = by_bool (eq_by_cmp key_cmp a b) (λ g. absurd (false≢true (both_no (key_cmp a b) h g))) (λ g. ap not g)
  where
    both_no : (o : Ordering) → is_lt o ≡ true → is_eq o ≡ true → false ≡ true
    both_no Less l g = g
    both_no Equal l g = l
    both_no Greater l g = l

joined_rise : (key : List ℕ) (steps : Steps) (rest : List KeyChange) → list_all (λ (d : KeyChange). is_lt (key_cmp key d.key)) rest ≡ true → rises rest ≡ true → rises (map (λ (c : ℕ × Change). record { key = key; ts = c.0; change = c.1 }) steps ++ rest) ≡ true
joined_rise key [] rest below h = h
joined_rise key (c ∷ steps) rest below h =
    ap (λ b. b && rises (map (λ (c : ℕ × Change). record { key = key; ts = c.0; change = c.1 }) steps ++ rest))
    (list_all-append (λ (d : KeyChange). not (is_gt (key_cmp key d.key))) (map (λ (c : ℕ × Change). record { key = key; ts = c.0; change = c.1 }) steps) rest
    ∙ ap (λ b. b && list_all (λ (d : KeyChange). not (is_gt (key_cmp key d.key))) rest) (all_keyed (λ k. not (is_gt (key_cmp key k))) key steps (not_gt_itself key))
    ∙ all_map (λ (d : KeyChange). is_lt (key_cmp key d.key)) (λ (d : KeyChange). not (is_gt (key_cmp key d.key))) rest (λ d l. lt_not_gt key d.key l) below)
    ∙ joined_rise key steps rest below h

pub upto_rises : (t : ℕ) (store : Store) → is_sorted key_cmp store ≡ true → rises (changes_upto t store) ≡ true
upto_rises t [] h = refl
upto_rises t (r ∷ store) h = let parts = and_parts (below_all key_cmp r.0 store) (is_sorted key_cmp store) h in
    joined_rise r.0 (filter (λ c. nat_le c.0 t) r.1.steps) (changes_upto t store) (all_upto (λ k. is_lt (key_cmp r.0 k)) t store (below_keys r.0 store parts.0)) (upto_rises t store parts.1)

-- all of one row's changes are of its key, or none is
all_of : (q key : List ℕ) (steps : Steps) → eq_by_cmp key_cmp q key ≡ true → changes_of q (map (λ (c : ℕ × Change). record { key = key; ts = c.0; change = c.1 }) steps) ≡ map (λ (c : ℕ × Change). record { key = key; ts = c.0; change = c.1 }) steps
all_of q key [] e = refl
all_of q key (c ∷ steps) e = ap (λ b. cond b (record { key = key; ts = c.0; change = c.1 } ∷ changes_of q (map (λ (c : ℕ × Change). record { key = key; ts = c.0; change = c.1 }) steps)) (changes_of q (map (λ (c : ℕ × Change). record { key = key; ts = c.0; change = c.1 }) steps))) e
    ∙ ap (λ l. record { key = key; ts = c.0; change = c.1 } ∷ l) (all_of q key steps e)

-- a change that is later shows nothing
upto_shows : (fill : Row) (key : List ℕ) (t u : ℕ) (steps : Steps) (row : Option Row) → u ≤ t
    → after_steps u (map (step_in fill) (map (λ (c : ℕ × Change). record { key = key; ts = c.0; change = c.1 }) (filter (λ c. nat_le c.0 t) steps))) row ≡ after_steps u (map (λ (c : ℕ × Change). (c.0, filled_change fill c.1)) steps) row
upto_shows fill key t u [] row le = refl
upto_shows fill key t u (c ∷ steps) row le = by_bool (nat_le c.0 t)
    (λ e. ap (λ b. after_steps u (map (step_in fill) (map (λ (c : ℕ × Change). record { key = key; ts = c.0; change = c.1 }) (cond b (c ∷ filter (λ c. nat_le c.0 t) steps) (filter (λ c. nat_le c.0 t) steps)))) row) e
    ∙ upto_shows fill key t u steps (if nat_le c.0 u then apply (filled_change fill c.1) row else row) le)
    (λ e. ap (λ b. after_steps u (map (step_in fill) (map (λ (c : ℕ × Change). record { key = key; ts = c.0; change = c.1 }) (cond b (c ∷ filter (λ c. nat_le c.0 t) steps) (filter (λ c. nat_le c.0 t) steps)))) row) e
    ∙ upto_shows fill key t u steps row le
    ∙ ap (λ b. after_steps u (map (λ (c : ℕ × Change). (c.0, filled_change fill c.1)) steps) (cond b (apply (filled_change fill c.1) row) row)) (sym (later e)))
  where
    later : nat_le c.0 t ≡ false → nat_le c.0 u ≡ false
    later e = grind (arith, nat_tests)

-- up to the time, they tell the rows of the store
pub upto_tells : (fill : Row) (t u : ℕ) (q : List ℕ) (store : Store) → is_sorted key_cmp store ≡ true → AllBare store → u ≤ t → row_in fill (changes_upto t store) q u ≡ row_of u (hist_in q (filled fill store))
upto_tells fill t u q [] sorted bare le = refl
upto_tells fill t u q (r ∷ store) sorted bare le =
    let parts = and_parts (below_all key_cmp r.0 store) (is_sorted key_cmp store) sorted in
    ap (λ l. after_steps u (map (step_in fill) l) None) (filter-append (λ c. eq_by_cmp key_cmp q c.key) (map (λ (c : ℕ × Change). record { key = r.0; ts = c.0; change = c.1 }) (filter (λ c. nat_le c.0 t) r.1.steps)) (changes_upto t store))
    ∙ by_bool (eq_by_cmp key_cmp q r.0)
    (λ e. ap (λ l. after_steps u (map (step_in fill) l) None)
    ((λ k. all_of q r.0 (filter (λ c. nat_le c.0 t) r.1.steps) e k
    ++ none_of q (changes_upto t store) (all_upto (λ k. not (eq_by_cmp key_cmp q k)) t store (others q r.0 store (same_key q r.0 e) (below_keys r.0 store parts.0))) k)
    ∙ append-nil (map (λ (c : ℕ × Change). record { key = r.0; ts = c.0; change = c.1 }) (filter (λ c. nat_le c.0 t) r.1.steps)))
    ∙ upto_shows fill r.0 t u r.1.steps None le
    ∙ ap (λ o. after_steps u (map (λ (c : ℕ × Change). (c.0, filled_change fill c.1)) r.1.steps) o) (sym bare.0)
    ∙ sym (ap (λ b. row_of u (unwrap_or (cond b (Some (filled_hist fill r.1)) (find key_cmp q (filled fill store))) (record { first = None; steps = [] }))) e))
    (λ e. ap (λ l. after_steps u (map (step_in fill) (l ++ changes_of q (changes_upto t store))) None)
    (none_of q (map (λ (c : ℕ × Change). record { key = r.0; ts = c.0; change = c.1 }) (filter (λ c. nat_le c.0 t) r.1.steps)) (all_keyed (λ k. not (eq_by_cmp key_cmp q k)) r.0 (filter (λ c. nat_le c.0 t) r.1.steps) (ap not e)))
    ∙ upto_tells fill t u q store parts.1 bare.1 le
    ∙ sym (ap (λ b. row_of u (unwrap_or (cond b (Some (filled_hist fill r.1)) (find key_cmp q (filled fill store))) (record { first = None; steps = [] }))) e))
  where
    others : (q key : List ℕ) (store : Store) → q ≡ key → list_all (λ (x : List ℕ × Hist). is_lt (key_cmp key x.0)) store ≡ true → list_all (λ (x : List ℕ × Hist). not (eq_by_cmp key_cmp q x.0)) store ≡ true
    others q key store same below = all_map (λ (x : List ℕ × Hist). is_lt (key_cmp key x.0)) (λ (x : List ℕ × Hist). not (eq_by_cmp key_cmp q x.0)) store (λ x l. subst (λ k. not (eq_by_cmp key_cmp k x.0) ≡ true) (sym same) (lt_not_eq key x.0 l)) below

-- WHAT STANDS IN THE WAY
both : (a b : Bool) → a ≡ true → b ≡ true → (a && b) ≡ true
both a b x y = ap (λ c. c && b) x ∙ y

pub none_before : (flying : List Flying) (t : ℕ) → least flying ≡ None → none_flies t flying ≡ true
none_before [] t none = refl
none_before (w ∷ flying) t none = absurd (some_none none)
  where
    some_none : {A : Type 0} {x : A} → Some x ≡ None → ⊥
    some_none e = cc

inside : (a b : ℕ) → Some a ≡ Some b → a ≡ b
inside a b h = cc

below : (t n : ℕ) → t < n → nat_lt t n ≡ true
below t n h = grind (arith, nat_tests)

by_least : (w : Flying) (flying : List Flying) (t f : ℕ) (o : Option ℕ) → least flying ≡ o → Some (lesser_of o w.ts) ≡ Some f → t < f → ((m : ℕ) → least flying ≡ Some m → t < m → none_flies t flying ≡ true) → (nat_lt t w.ts && none_flies t flying) ≡ true
by_least w flying t f None h e lt rest = let is = inside w.ts f e in both (nat_lt t w.ts) (none_flies t flying) (below t w.ts (omega (arith, is, lt))) (none_before flying t h)
by_least w flying t f (Some m) h e lt rest = let is = inside (min m w.ts) f e in both (nat_lt t w.ts) (none_flies t flying) (below t w.ts (omega (arith, is, lt))) (rest m h (omega (arith, is, lt)))

pub none_earlier : (flying : List Flying) (t f : ℕ) → least flying ≡ Some f → t < f → none_flies t flying ≡ true
none_earlier [] t f e lt = refl
none_earlier (w ∷ flying) t f e lt = by_least w flying t f (least flying) refl e lt (λ m h below. none_earlier flying t m h below)

-- what the clock of writes has is the least of the run
pub least_is : {C : Type 0} (view old : View C) (flights : List FlyingWrite) (flying : List Flier) (found : Option ℕ) → view ≡ old → view.core.aloft ≡ map aloft_of flights → flying ≡ map flier_of flights → found ≡ least_of flying → least (map flown_by old.core.aloft) ≡ found
least_is view old flights flying found e aloft held is = ap (λ v. least (map flown_by v.core.aloft)) (sym e) ∙ ap (λ fs. least (map flown_by fs)) aloft ∙ sym (least_alike flights) ∙ ap least_of (sym held) ∙ sym is

-- WHAT IS SHOWN
-- a store in memory is nothing but its changes
abbrev GrownIf : ℕ → Store → Type 0
GrownIf zero store = Unit {0}
GrownIf (suc memory) store = IsGrown store

first_grown : (memory : ℕ) (s : Store) (stores : List Store) → AllGrown (take memory (s ∷ stores)) → GrownIf memory s
first_grown zero s stores grown = tt
first_grown (suc memory) s stores grown = grown.0

rest_grown : (memory : ℕ) (s : Store) (stores : List Store) → AllGrown (take memory (s ∷ stores)) → AllGrown (take (memory - 1) stores)
rest_grown zero s stores grown = let e : 0 ≡ 0 - 1 = omega arith in subst (λ n. AllGrown (take n stores)) e tt
rest_grown (suc memory) s stores grown = let e : memory ≡ suc memory - 1 = omega arith in subst (λ n. AllGrown (take n stores)) e grown.1

none_low : (n : ℕ) → 0 ≤ n
none_low n = omega arith

same_low : (m n : ℕ) → m ≡ n → m ≤ n
same_low m n e = omega (arith, e)

-- the rows of copies are those of their stores
module _ {V : Type 0} (row : V → List ℕ → ℕ → Option Row) (fill : Row) (since t : ℕ) where
  row_is : (u memory : ℕ) (key : List ℕ) (store : Store) (view : Copied V) → u ≤ t → GrownIf memory store → IsCopyOf row since t fill memory store view → copied_row row key u view ≡ row_of u (hist_in key (as_told memory fill store))
  row_is u zero key store (copied.Memory v) le grown is = absurd is
  row_is u zero key store (copied.Rowset v) le grown is = is key u le
  row_is u (suc memory) key store (copied.Memory v) le grown is = (λ k. row_in (is.fill_is k) (is.changes k) key u) ∙ upto_tells fill t u key store grown.sorted grown.bare le
  row_is u (suc memory) key store (copied.Rowset v) le grown is = absurd is

  rows_are : (u : ℕ) (key : List ℕ) (memory : ℕ) (stores : List Store) (views : List (Copied V)) → u ≤ t → AllGrown (take memory stores) → AreCopies row since t fill memory stores views
      → map (copied_row row key u) views ≡ map (row_of u) (hists key (all_told fill memory stores))
  rows_are u key memory [] [] le grown are = refl
  rows_are u key memory [] (v ∷ views) le grown are = absurd are
  rows_are u key memory (s ∷ stores) [] le grown are = absurd are
  rows_are u key memory (s ∷ stores) (v ∷ views) le grown are =
      let here = row_is u memory key s v le (first_grown memory s stores grown) are.0 in
      let rest = rows_are u key (memory - 1) stores views le (rest_grown memory s stores grown) are.1 in
      λ k. here k ∷ rest k

  all_copies : (P : Copied V → Type 0) (memory : ℕ) (stores : List Store) (views : List (Copied V)) → ((n : ℕ) (s : Store) (v : Copied V) → IsCopyOf row since t fill n s v → P v) → AreCopies row since t fill memory stores views → All P views
  all_copies P memory [] [] each are = All-nil P
  all_copies P memory [] (v ∷ views) each are = absurd are
  all_copies P memory (s ∷ stores) [] each are = absurd are
  all_copies P memory (s ∷ stores) (v ∷ views) each are = All-cons P v views (each memory s v are.0) (all_copies P (memory - 1) stores views each are.1)

  marked : (memory : ℕ) (s : Store) (v : Copied V) → IsCopyOf row since t fill memory s v → mark_of v ≤ since
  marked zero s (copied.Memory v) is = absurd is
  marked zero s (copied.Rowset v) is = none_low since
  marked (suc memory) s (copied.Memory v) is = same_low v.since since is.since_is
  marked (suc memory) s (copied.Rowset v) is = absurd is

  -- one copy more
  pub views_more : (memory : ℕ) (stores : List Store) (at : ℕ) (views : List (Copied V)) (s : Store) (v : Copied V) → slice_get stores at ≡ Some s → IsCopyOf row since t fill (memory - at) s v
      → AreCopies row since t fill memory (take at stores) views → AreCopies row since t fill memory (take (at + 1) stores) (views ++ v ∷ [])
  views_more memory [] at views s v here is all = none_some s here
  views_more memory (x ∷ stores) zero [] s v here is all =
      let e : memory - 0 ≡ memory = omega arith in
      (subst (λ n. IsCopyOf row since t fill n x v) e (subst (λ x. IsCopyOf row since t fill (memory - 0) x v) (sym (some_is x s here)) is), tt)
  views_more memory (x ∷ stores) zero (w ∷ views) s v here is all = absurd all
  views_more memory (x ∷ stores) (suc at) [] s v here is all = absurd all
  views_more memory (x ∷ stores) (suc at) (w ∷ views) s v here is all =
      let e : suc (at + 1) ≡ suc at + 1 = omega arith in
      let m : memory - suc at ≡ (memory - 1) - at = omega arith in
      subst (λ n. AreCopies row since t fill memory (take n (x ∷ stores)) (w ∷ views ++ v ∷ [])) e (all.0, views_more (memory - 1) stores at views s v here (subst (λ n. IsCopyOf row since t fill n s v) m is) all.1)

  -- what is copied of a store in memory, and of a disk rowset
  pub memory_copied : (frozen at : ℕ) (s store : Store) (v : SnapView) → at ≤ frozen → s ≡ store → IsViewOf since t fill s v → IsCopyOf row since t fill (suc frozen - at) store (copied.Memory v)
  memory_copied frozen at s store v low same is =
      let e : suc (frozen - at) ≡ suc frozen - at = omega (arith, low) in
      subst (λ n. IsCopyOf row since t fill n store (copied.Memory v)) e (subst (λ x. IsViewOf since t fill x v) same is)

  pub rowset_copied : (frozen at : ℕ) (store : Store) (v : V) → frozen < at → TellsUpTo row t store v → IsCopyOf row since t fill (suc frozen - at) store (copied.Rowset v)
  rowset_copied frozen at store v behind is = let e : 0 ≡ suc frozen - at = omega (arith, behind) in subst (λ n. IsCopyOf row since t fill n store (copied.Rowset v)) e is

pub shows_run : {V : Type 0} (row : V → List ℕ → ℕ → Option Row) (core : Core) (st : Stands core) (snap : Snap V) (memory : ℕ) (stores : List Store) (fill : Row) → core.stores ≡ all_told fill memory stores → AllGrown (take memory stores) → snap.mark ≡ core.a
    → AreCopies row snap.mark snap.t fill memory stores snap.views → none_flies snap.t (map flown_by core.aloft) ≡ true → ShowsRun row core snap
shows_run row core st snap memory stores fill same grown mark are settled = record {
  marks = all_copies row fill snap.mark snap.t (λ v. mark_of v ≤ snap.mark) memory stores snap.views (marked row fill snap.mark snap.t) are;
  rows = λ u key lo hi.
      ap first_some (rows_are row fill snap.mark snap.t u key memory stores snap.views hi grown are) ∙ ap (λ ss. first_some (map (row_of u) (hists key ss))) (sym same) ∙ snapshot_told core st snap.t u key settled (omega (arith, mark, lo)) hi;
  one = λ u key lo hi. subst AtMostOne (sym (rows_are row fill snap.mark snap.t u key memory stores snap.views hi grown are)) (subst (λ ss. AtMostOne (map (row_of u) (hists key ss))) same (at_most_one core st u key (omega (arith, mark, lo))));
}

pub shows_views : {C V : Type 0} (row : V → List ℕ → ℕ → Option Row) (readings : C → Option (List ℕ)) (view old : View C) (snap : Snap V) (frozen : ℕ) (stores : List Store) (fill : Row) → view ≡ old → IsSound readings view
    → view.core.stores ≡ all_told fill (suc frozen) stores → AllGrown (take (1 + frozen) stores) → snap.mark ≡ view.core.a → AreCopies row snap.mark snap.t fill (suc frozen) stores snap.views → none_flies snap.t (map flown_by old.core.aloft) ≡ true
    → (first : Past) → Opens old.opening old.mark old.core.opened first → ShowsRun row (record old.core { first = first }) snap
shows_views row readings view old snap frozen stores fill e sound same grown mark are settled first told =
    let n : 1 + frozen ≡ suc frozen = omega arith in
    subst (λ v. ShowsRun row (record v.core { first = first }) snap) e
    (shows_run row (record view.core { first = first }) (sound.stands first (subst (λ v. Opens v.opening v.mark v.core.opened first) (sym e) told)) snap (suc frozen) stores fill same (subst (λ m. AllGrown (take m stores)) n grown) mark are
    (subst (λ v. none_flies snap.t (map flown_by v.core.aloft) ≡ true) (sym e) settled))

-- a store of the first so many
pub get_take : (stores : List Store) (n at : ℕ) (s : Store) → at < n → slice_get stores at ≡ Some s → slice_get (take n stores) at ≡ Some s
get_take [] n at s low here = none_some s here
get_take (x ∷ stores) zero at s low here = absurd (omega (arith, low))
get_take (x ∷ stores) (suc n) zero s low here = here
get_take (x ∷ stores) (suc n) (suc at) s low here = get_take stores n at s (omega (arith, low)) here

-- the store whose changes these are
pub store_of_changes : (t : ℕ) (o : Option Store) (list : List KeyChange) → option_map (changes_upto t) o ≡ Some list → (s : Store) × (o ≡ Some s) × (list ≡ changes_upto t s)
store_of_changes t None list e = cc
store_of_changes t (Some s) list e = (s, refl, sym (some_is (changes_upto t s) list e))

pub grown_at : (stores : List Store) (at : ℕ) (s : Store) → AllGrown stores → slice_get stores at ≡ Some s → IsGrown s
grown_at [] at s grown here = none_some s here
grown_at (x ∷ stores) zero s grown here = subst IsGrown (some_is x s here) grown.0
grown_at (x ∷ stores) (suc at) s grown here = grown_at stores at s grown.1 here

-- a change that is copied up to a time is not later
stamped : (key : List ℕ) (t : ℕ) (steps : Steps) → none_later t (map (λ (c : ℕ × Change). record { key = key; ts = c.0; change = c.1 }) (filter (λ c. nat_le c.0 t) steps)) ≡ true
stamped key t [] = refl
stamped key t (c ∷ steps) = by_bool (nat_le c.0 t)
    (λ e. ap (λ b. none_later t (map (λ (c : ℕ × Change). record { key = key; ts = c.0; change = c.1 }) (cond b (c ∷ filter (λ c. nat_le c.0 t) steps) (filter (λ c. nat_le c.0 t) steps)))) e
    ∙ ap (λ b. b && none_later t (map (λ (c : ℕ × Change). record { key = key; ts = c.0; change = c.1 }) (filter (λ c. nat_le c.0 t) steps))) e ∙ stamped key t steps)
    (λ e. ap (λ b. none_later t (map (λ (c : ℕ × Change). record { key = key; ts = c.0; change = c.1 }) (cond b (c ∷ filter (λ c. nat_le c.0 t) steps) (filter (λ c. nat_le c.0 t) steps)))) e ∙ stamped key t steps)

upto_stamped : (t : ℕ) (store : Store) → none_later t (changes_upto t store) ≡ true
upto_stamped t [] = refl
upto_stamped t (r ∷ store) = list_all-append (λ (d : KeyChange). nat_le d.ts t) (map (λ (c : ℕ × Change). record { key = r.0; ts = c.0; change = c.1 }) (filter (λ c. nat_le c.0 t) r.1.steps)) (changes_upto t store)
    ∙ ap (λ b. b && none_later t (changes_upto t store)) (stamped r.0 t r.1.steps) ∙ upto_stamped t store

module _ {V : Type 0} (row : V → List ℕ → ℕ → Option Row) (fill : Row) (since t : ℕ) where
  holds_upto : (memory : ℕ) (s : Store) (v : Copied V) → IsCopyOf row since t fill memory s v → HoldsUpTo t v
  holds_upto zero s (copied.Memory v) is = absurd is
  holds_upto zero s (copied.Rowset v) is = tt
  holds_upto (suc memory) s (copied.Memory v) is = ap (none_later t) is.changes ∙ upto_stamped t s
  holds_upto (suc memory) s (copied.Rowset v) is = absurd is

  tells_from : (memory : ℕ) (s : Store) (v : Copied V) → IsCopyOf row since t fill memory s v → TellsFrom since v
  tells_from zero s (copied.Memory v) is = absurd is
  tells_from zero s (copied.Rowset v) is = tt
  tells_from (suc memory) s (copied.Memory v) is = is.since_is
  tells_from (suc memory) s (copied.Rowset v) is = absurd is

pub are_copied : {V : Type 0} (row : V → List ℕ → ℕ → Option Row) (snap : Snap V) (memory : ℕ) (stores : List Store) (fill : Row) → AreCopies row snap.mark snap.t fill memory stores snap.views → IsCopied snap
are_copied row snap memory stores fill are = record {
  upto = all_copies row fill snap.mark snap.t (HoldsUpTo snap.t) memory stores snap.views (holds_upto row fill snap.mark snap.t) are;
  since = all_copies row fill snap.mark snap.t (TellsFrom snap.mark) memory stores snap.views (tells_from row fill snap.mark snap.t) are;
}

-- so each copy tells rows from the mark on
from_mark : {V : Type 0} (mark : ℕ) (v : Copied V) → TellsFrom mark v → mark_of v ≤ mark
from_mark mark (copied.Memory v) e = same_low v.since mark e
from_mark mark (copied.Rowset v) e = none_low mark

pub all_marked : {V : Type 0} (snap : Snap V) → IsCopied snap → All (λ v. mark_of v ≤ snap.mark) snap.views
all_marked snap is k d low = from_mark snap.mark (get_or snap.views k d) (is.since k d low)

-- THE EVENTS
-- a scan that stands in the plan
if_scan : (o : Option Command) (at : At) (P : At → Type 0) → IfScan o (λ w. w ≡ at) → P at → IfScan o P
if_scan (Some (command.Write w)) at P h p = h
if_scan (Some (command.Scan scan)) at P h p = subst P (sym h) p
if_scan (Some (command.Mark t)) at P h p = h
if_scan (Some (command.Chore chore)) at P h p = h
if_scan None at P h p = h

the_look : (look : Option ℕ) → IsSome look → look ≡ Some (unwrap_or look 0)
the_look None h = absurd (false≢true h)
the_look (Some t) h = refl

has_look : (turns : List Turn) (s i t : ℕ) (at : At) (look : Option ℕ) → nth turns s ≡ Some (record { next = i; look = look }) → HasDrawn at look → t ≡ time_in turns s at → ReadsAt at t × (nth turns s ≡ Some (record { next = i; look = look_for at t }))
has_look turns s i t Looked look next drawn time = (tt, next ∙ ap (λ l. Some (record { next = i; look = l })) (the_look look drawn ∙ ap Some (sym (time ∙ ap (λ o. unwrap_or (look_of o) 0) next))))
has_look turns s i t (Given g) look next drawn time = (time, next ∙ ap (λ l. Some (record { next = i; look = l })) drawn)

may_read : (core : Core) (past : Past) (s i t : ℕ) (at : At) → MaySnapshot core s i at → t ≡ time_of core s at → MayRead core.work (now core past) s i t
may_read core past s i t at may time =
    let look = has_look core.turns s i t at may.look may.next may.drawn time in
    if_scan (command_at core.work s i) at (λ w. ReadsAt w t × IsNext (now core past) s i (look_for w t)) may.scan (look.0, record { next = look.1; rests = may.rests })

may_first : (core : Core) (first : Past) (s i : ℕ) (at : At) → MaySnapshot core s i at → MaySnapshot (record core { first = first }) s i at
may_first core first s i at may = record { look = may.look; next = may.next; drawn = may.drawn; rests = may.rests; scan = may.scan }

pub ancient_sound : {C : Type 0} (readings : C → Option (List ℕ)) (view : View C) (s i : ℕ) (at : At) (t a : ℕ) (trail : List Event) (turns : List Turn)
    → IsSound readings view → IsAncient view.core s i at t a
    → trail ≡ view.core.trail ++ Ancient s i t a ∷ [] → turns ≡ set_nth view.core.turns s (record { next = i + 1; look = None })
    → IsSound readings (record view { core = record view.core { trail = trail; turns = turns } })
ancient_sound readings view s i at t a trail turns sound is lines places = record {
  stands = λ first told. let st = sound.stands first told in subst Stands (sym (new_answered (record view.core { first = first }) s i (Ancient s i t a) trail turns lines places))
      (ancient_stands (record view.core { first = first }) s i t a st (is.goes, may_read (record view.core { first = first }) st.past s i t at (may_first view.core first s i at is.may) is.time, is.below, is.mark));
  clock = told_still readings view.opened view.clock view.core.trail trail (Ancient s i t a) sound.clock refl lines;
  plan = sound.plan;
}

pub busy_sound : {C : Type 0} (readings : C → Option (List ℕ)) (view : View C) (s i t f : ℕ) (trail : List Event) (turns : List Turn)
    → IsSound readings view → IsBusy view.core s i t f
    → trail ≡ view.core.trail ++ Busy s i t f ∷ [] → turns ≡ set_nth view.core.turns s (record { next = i + 1; look = None })
    → IsSound readings (record view { core = record view.core { trail = trail; turns = turns } })
busy_sound readings view s i t f trail turns sound is lines places = record {
  stands = λ first told. let st = sound.stands first told in subst Stands (sym (new_answered (record view.core { first = first }) s i (Busy s i t f) trail turns lines places))
      (busy_stands (record view.core { first = first }) s i t f st (
        is.goes,
        record { next = is.may.next ∙ ap (λ l. Some (record { next = i; look = l })) is.may.drawn; rests = is.may.rests },
        is.may.scan,
        is.since,
        is.flies.0,
        is.flies.1,
      ));
  clock = told_still readings view.opened view.clock view.core.trail trail (Busy s i t f) sound.clock refl lines;
  plan = sound.plan;
}

new_read : (core : Core) (s i t : ℕ) (trail : List Event) (a c : ℕ) (turns : List Turn) → trail ≡ core.trail ++ Rows s i t ∷ [] → a ≡ core.a → c ≡ max core.c t → turns ≡ set_nth core.turns s (record { next = i + 1; look = None })
    → record core { trail = trail; a = a; c = c; turns = turns } ≡ answered_rows core s i t
new_read core s i t trail a c turns lines stays last places = λ k. record core { trail = lines k; a = stays k; c = last k; turns = places k }

pub rows_sound : {C : Type 0} (readings : C → Option (List ℕ)) (view : View C) (s i : ℕ) (at : At) (t : ℕ) (trail : List Event) (a c : ℕ) (turns : List Turn)
    → IsSound readings view → MayReadNow view.core s i at t
    → trail ≡ view.core.trail ++ Rows s i t ∷ [] → a ≡ view.core.a → c ≡ max view.core.c t → turns ≡ set_nth view.core.turns s (record { next = i + 1; look = None })
    → IsSound readings (record view { core = record view.core { trail = trail; a = a; c = c; turns = turns } })
rows_sound readings view s i at t trail a c turns sound may lines stays last places = record {
  stands = λ first told. let st = sound.stands first told in subst Stands (sym (new_read (record view.core { first = first }) s i t trail a c turns lines stays last places))
      (rows_stands (record view.core { first = first }) s i t st (may.goes, may_read (record view.core { first = first }) st.past s i t at (may_first view.core first s i at may.may) may.time, may.since, may.settled));
  clock = told_still readings view.opened view.clock view.core.trail trail (Rows s i t) sound.clock refl lines;
  plan = sound.plan;
}

pub has_read : {C : Type 0} (view old : View C) (s i : ℕ) (at : At) (t told : ℕ) (trail : List Event) (a c : ℕ) (turns : List Turn) → view ≡ old → told ≡ t → MayReadNow old.core s i at t
    → trail ≡ view.core.trail ++ Rows s i t ∷ [] → a ≡ view.core.a → c ≡ max view.core.c t → turns ≡ set_nth view.core.turns s (record { next = i + 1; look = None })
    → HasRead old.core (record view.core { trail = trail; a = a; c = c; turns = turns }) s i at told
has_read view old s i at t told trail a c turns e is may lines stays last places = subst (HasRead old.core (record view.core { trail = trail; a = a; c = c; turns = turns }) s i at) (sym is) (record {
  time = may.time;
  since = may.since;
  settled = may.settled;
  core = new_read view.core s i t trail a c turns lines stays last places ∙ ap (λ v. answered_rows v.core s i t) e;
})

-- a fact of the old value is one of the opened fields
pub of_view : {C : Type 0} (P : View C → Type 0) (view old : View C) → view ≡ old → P old → P view
of_view P view old e h = subst P (sym e) h
