-- A flush freezes the store that takes inserts, and in the end of a job its outputs stand behind the stores that it leaves.
use Rattle.std.proofs.Common.{◌≡◌, ◌+◌, ◌-◌, ◌≤◌, ℕ, zero, suc, Bool, true, false, cond, List, [], ◌∷◌, ◌++◌, map, drop, length, Some, Option, refl, sym, ap, subst, ◌∙◌, arith}
use Rattle.std.specs.Prelude.{◌↔◌, not, slice_get, take}
use Rattle.std.proofs.lemmas.List.{map-append, length-map}
use Rattle.kt_history.specs.declared.change.Outcome.{Outcome}
use Rattle.kt_history.specs.declared.target.Target.{Target}
use Rattle.kt_history.specs.declared.target.Target.TheVariants.{Mem}
use Rattle.kt_history.specs.Rows.{Row}
use Rattle.kt_history.specs.Stores.{Store, Hist}
use Rattle.kt_histlaws.specs.Core.{Core, Stands}
use Rattle.kt_histlaws.specs.Fitting.{AreSound}
use Rattle.kt_histlaws.specs.Histories.{hists, ShowsKey}
use Rattle.kt_diskrowset.specs.Rowset.{HeldFiles}
use Rattle.kt_pool.specs.Contents.{Contents}
use Rattle.kt_records.specs.declared.entry.CommitRow.{CommitRow}
use Rattle.kt_stores.specs.Shelf.{Shelved, name_at, names_of, frozen_behind}
use Rattle.kt_stores.specs.Shelf as shelf
use Rattle.kt_stores.specs.Takes.{Takes, rowsets, takes, of_taken, of_left, files_left, over_to, left_on, shelf_over}
use Rattle.kt_tablet.specs.declared.tablet.FlyingWrite.{FlyingWrite}
use Rattle.kt_tablet.specs.Filling.{filled, as_told, all_told}
use Rattle.kt_tablet.specs.Jobs.{rows_in_first, frozen_names, HasFrozen, MayChangeOver, HasChangedOver}
use Rattle.kt_tablet.specs.Rows.{IsRecorded, AreRecorded, AreWritten}
use Rattle.kt_tablet.specs.Views.{View, IsSound}
use Rattle.kt_tablet.proofs.Exact.{filled_none}
use Rattle.kt_tablet.proofs.Outputs.{over_shows, over_sound, vacant_shows, vacant_sound}

-- ---- stores as they are told

pub pred : (n : ℕ) → suc n - 1 ≡ n
pred n = omega arith

as_they_are : (fill : Row) (stores : List Store) → all_told fill 0 stores ≡ stores
as_they_are fill [] = refl
as_they_are fill (s ∷ stores) = ap (λ l. s ∷ l) (as_they_are fill stores)

-- of a shelf what is left, told by its names
stores_left : (t : Takes) (stores : List Shelved) → map (λ (s : Shelved). s.store) (left_on t stores) ≡ of_left t (names_of stores) (map (λ (s : Shelved). s.store) stores)
stores_left t [] = refl
stores_left t (s ∷ stores) = elim (takes t s.name) as (λ (b : Bool). map (λ (s : Shelved). s.store) (cond (not b) (s ∷ left_on t stores) (left_on t stores)) ≡ cond b (of_left t (names_of stores) (map (λ (s : Shelved). s.store) stores)) (s.store ∷ of_left t (names_of stores) (map (λ (s : Shelved). s.store) stores))) [
  | true ↦ stores_left t stores
  | false ↦ ap (λ l. s.store ∷ l) (stores_left t stores)
]

names_left : (t : Takes) (stores : List Shelved) → names_of (left_on t stores) ≡ of_left t (names_of stores) (names_of stores)
names_left t [] = refl
names_left t (s ∷ stores) = elim (takes t s.name) as (λ (b : Bool). names_of (cond (not b) (s ∷ left_on t stores) (left_on t stores)) ≡ cond b (of_left t (names_of stores) (names_of stores)) (s.name ∷ of_left t (names_of stores) (names_of stores))) [
  | true ↦ names_left t stores
  | false ↦ ap (λ l. s.name ∷ l) (names_left t stores)
]

front_left : (t : Takes) (n : ℕ) (stores : List Shelved) → length (left_on t (take n stores)) ≤ length (left_on t stores)
front_left t zero stores = omega arith
front_left t (suc n) [] = omega arith
front_left t (suc n) (s ∷ stores) = elim (takes t s.name) as (λ (b : Bool). length (cond (not b) (s ∷ left_on t (take n stores)) (left_on t (take n stores))) ≤ length (cond (not b) (s ∷ left_on t stores) (left_on t stores))) [
  | true ↦ front_left t n stores
  | false ↦ (let few = front_left t n stores in omega arith)
]

-- an empty store in front
pub told_frozen : (fill : Row) (memory number : ℕ) (name : Target) (stores : List Shelved) → name_at 0 stores ≡ Some name
    → all_told fill (suc (memory + 1)) (map (λ (s : Shelved). s.store) (frozen_behind number stores)) ≡ [] ∷ all_told fill (suc memory) (map (λ (s : Shelved). s.store) stores)
told_frozen fill memory number name [] e = absurd (cc)
told_frozen fill memory number name (s ∷ stores) e =
    let same : suc (memory + 1) - 1 ≡ suc memory = omega arith in
    ap (λ m. [] ∷ all_told fill m (s.store ∷ map (λ (s : Shelved). s.store) stores)) same

pub names_frozen : (number : ℕ) (name : Target) (stores : List Shelved) → name_at 0 stores ≡ Some name → names_of (frozen_behind number stores) ≡ Mem number ∷ names_of stores
names_frozen number name [] e = absurd (cc)
names_frozen number name (s ∷ stores) e = refl

-- what is left of the stores behind the first
told_left : (fill : Row) (t : Takes) (memory : ℕ) (stores : List Shelved) → all_told fill (length (left_on t (take memory stores))) (map (λ (s : Shelved). s.store) (left_on t stores)) ≡ of_left t (names_of stores) (all_told fill memory (map (λ (s : Shelved). s.store) stores))
told_left fill t zero stores = as_they_are fill (map (λ (s : Shelved). s.store) (left_on t stores)) ∙ stores_left t stores ∙ ap (of_left t (names_of stores)) (sym (as_they_are fill (map (λ (s : Shelved). s.store) stores)))
told_left fill t (suc memory) [] = refl
told_left fill t (suc memory) (s ∷ stores) = by (takes t s.name) (told_left fill t memory stores)
  where
    by : (b : Bool) → all_told fill (length (left_on t (take memory stores))) (map (λ (s : Shelved). s.store) (left_on t stores)) ≡ of_left t (names_of stores) (all_told fill memory (map (λ (s : Shelved). s.store) stores))
        → all_told fill (length (cond (not b) (s ∷ left_on t (take memory stores)) (left_on t (take memory stores)))) (map (λ (s : Shelved). s.store) (cond (not b) (s ∷ left_on t stores) (left_on t stores)))
        ≡ cond b (of_left t (names_of stores) (all_told fill (suc memory - 1) (map (λ (s : Shelved). s.store) stores))) (as_told (suc memory) fill s.store ∷ of_left t (names_of stores) (all_told fill (suc memory - 1) (map (λ (s : Shelved). s.store) stores)))
    by true rest = rest ∙ ap (λ m. of_left t (names_of stores) (all_told fill m (map (λ (s : Shelved). s.store) stores))) (sym (pred memory))
    by false rest =
        ap (λ m. filled fill s.store ∷ all_told fill m (map (λ (s : Shelved). s.store) (left_on t stores))) (pred (length (left_on t (take memory stores))))
        ∙ ap (λ l. filled fill s.store ∷ l) (rest ∙ ap (λ m. of_left t (names_of stores) (all_told fill m (map (λ (s : Shelved). s.store) stores))) (sym (pred memory)))

-- those behind lie in no memory
told_behind : (fill : Row) (memory : ℕ) (xs ys : List Store) → memory ≤ length xs → all_told fill memory (xs ++ ys) ≡ all_told fill memory xs ++ ys
told_behind fill memory [] ys le = ap (λ m. all_told fill m ys) (none_but memory le) ∙ as_they_are fill ys
  where
    none_but : (m : ℕ) → m ≤ 0 → m ≡ 0
    none_but m le = omega arith
told_behind fill memory (x ∷ xs) ys le = ap (λ l. as_told memory fill x ∷ l) (told_behind fill (memory - 1) xs ys (omega arith))

pub rows_told : (fill : Row) (memory : ℕ) (stores : List Store) → drop memory (all_told fill memory stores) ≡ drop memory stores
rows_told fill zero stores = as_they_are fill stores
rows_told fill (suc memory) [] = refl
rows_told fill (suc memory) (s ∷ stores) = ap (λ m. drop memory (all_told fill m stores)) (pred memory) ∙ rows_told fill memory stores

-- what is read of disk rowsets is told as it is
pub taken_told : (fill : Row) (numbers : List ℕ) (frozen : ℕ) (stores : List Shelved)
    → of_taken (rowsets numbers) (drop (suc frozen) (names_of stores)) (drop (suc frozen) (map (λ (s : Shelved). s.store) stores)) ≡ of_taken (rowsets numbers) (drop (suc frozen) (names_of stores)) (drop (suc frozen) (all_told fill (suc frozen) (map (λ (s : Shelved). s.store) stores)))
taken_told fill numbers frozen stores = ap (of_taken (rowsets numbers) (drop (suc frozen) (names_of stores))) (sym (rows_told fill (suc frozen) (map (λ (s : Shelved). s.store) stores)))

pub told_over : (fill : Row) (t : Takes) (memory : ℕ) (outputs stores : List Shelved)
    → all_told fill (suc (length (left_on t (take memory (drop 1 stores))))) (map (λ (s : Shelved). s.store) (shelf_over t outputs stores)) ≡ over_to t (map (λ (s : Shelved). s.store) outputs) (names_of stores) (all_told fill (suc memory) (map (λ (s : Shelved). s.store) stores))
told_over fill t memory outputs [] = refl
told_over fill t memory outputs (s ∷ stores) =
    let n = length (left_on t (take memory stores)) in
    let few : n ≤ length (map (λ (s : Shelved). s.store) (left_on t stores)) = (let a = length-map (left_on t stores) (λ (s : Shelved). s.store) in let b = front_left t memory stores in omega arith) in
    ap (λ m. filled fill s.store ∷ all_told fill m (map (λ (s : Shelved). s.store) (left_on t stores ++ outputs))) (pred n)
    ∙ ap (λ l. filled fill s.store ∷ l) (ap (all_told fill n) (map-append (λ (s : Shelved). s.store) (left_on t stores) outputs)
    ∙ told_behind fill n (map (λ (s : Shelved). s.store) (left_on t stores)) (map (λ (s : Shelved). s.store) outputs) few
    ∙ ap (λ l. l ++ map (λ (s : Shelved). s.store) outputs) (told_left fill t memory stores ∙ ap (λ m. of_left t (names_of stores) (all_told fill m (map (λ (s : Shelved). s.store) stores))) (sym (pred memory))))

pub names_over : (t : Takes) (outputs stores : List Shelved) → names_of (shelf_over t outputs stores) ≡ over_to t (names_of outputs) (names_of stores) (names_of stores)
names_over t outputs [] = refl
names_over t outputs (s ∷ stores) = ap (λ l. s.name ∷ l) (map-append (λ (s : Shelved). s.name) (left_on t stores) outputs ∙ ap (λ l. l ++ names_of outputs) (names_left t stores))

pub mapped : {R A B : Type 0} (f : A → B) (g : R → A) (xs : List R) → map f (map g xs) ≡ map (λ x. f (g x)) xs
mapped f g [] = refl
mapped f g (x ∷ xs) = ap (λ l. f (g x) ∷ l) (mapped f g xs)

-- the first store has a row where it has one as it is told
pub vacant_told : (fill : Row) (memory : ℕ) (stores : List Shelved) → (shelf.rows_in_first stores ≡ []) ↔ (rows_in_first (all_told fill (suc memory) (map (λ (s : Shelved). s.store) stores)) ≡ [])
vacant_told fill memory [] = ((λ e. refl), (λ e. refl))
vacant_told fill memory (s ∷ stores) = ((λ e. ap (filled fill) e), (λ e. filled_none fill s.store e))

pub name_there : (i : ℕ) (stores : List Shelved) → slice_get (names_of stores) i ≡ name_at i stores
name_there i [] = refl
name_there zero (s ∷ stores) = refl
name_there (suc i) (s ∷ stores) = name_there i stores

-- ---- what a tablet keeps

with_stores : (core : Core) (stores : List Store) → ((q : List ℕ) (whole : Hist) → ShowsKey core.a (hists q core.stores) whole → ShowsKey core.a (hists q stores) whole)
    → ((q : List ℕ) → AreSound core.a (hists q core.stores) → AreSound core.a (hists q stores)) → Stands core → Stands (record core { stores = stores })
with_stores core stores shows sound st = record {
  past = st.past;
  run = record { is_run = st.run.is_run; state = st.run.state };
  stores = record { same = λ q. shows q _ (st.stores.same q); sound = λ q. sound q (st.stores.sound q) };
  flown = record { ends = st.flown.ends; fly = st.flown.fly; disjoint = st.flown.disjoint; marked = st.flown.marked };
  planned = st.planned;
}

pub frozen_sound : {C : Type 0} {files : List HeldFiles} (readings : C → Option (List ℕ)) (view : View C) (stores : List Store) (names : List Target) (pool : Contents) (frozen : ℕ) → IsSound readings view → stores ≡ [] ∷ view.core.stores
    → IsSound readings (record view { core = record view.core { stores = stores }; names = names; pool = pool; frozen = frozen; files = files })
frozen_sound readings view stores names pool frozen sound is = record {
  stands = λ first opens. subst (λ l. Stands (record view.core { first = first; stores = l })) (sym is)
      (with_stores (record view.core { first = first }) ([] ∷ view.core.stores) (λ q whole s. vacant_shows view.core.a (hists q view.core.stores) whole s) (λ q s. vacant_sound view.core.a (hists q view.core.stores) s) (sound.stands first opens));
  clock = sound.clock;
  plan = sound.plan;
}

pub changed_sound : {C : Type 0} {files : List HeldFiles} (readings : C → Option (List ℕ)) (view : View C) (stores outputs : List Store) (names : List Target) (pool : Contents) (frozen : ℕ) → IsSound readings view → (t : Takes) → length view.names ≡ length view.core.stores
    → MayChangeOver view t outputs → stores ≡ over_to t outputs view.names view.core.stores
    → IsSound readings (record view { core = record view.core { stores = stores }; names = names; pool = pool; frozen = frozen; files = files })
changed_sound readings view stores outputs names pool frozen sound t long may is = record {
  stands = λ first opens. subst (λ l. Stands (record view.core { first = first; stores = l })) (sym is)
      (with_stores (record view.core { first = first }) (over_to t outputs view.names view.core.stores)
      (λ q whole s. over_shows view.core.a q t outputs view.names view.core.stores whole long (may.alike first opens q) s)
      (λ q s. over_sound view.core.a q t outputs view.names view.core.stores (may.sound first opens q) s) (sound.stands first opens));
  clock = sound.clock;
  plan = sound.plan;
}

-- what was written of names that are still there
recorded_still : (name : Target) (names : List Target) (os : List Outcome) (rows : List CommitRow) → AreRecorded names os rows → AreRecorded (name ∷ names) os rows
recorded_still name names [] [] h = tt
recorded_still name names [] (r ∷ rows) h = absurd h
recorded_still name names (o ∷ os) [] h = absurd h
recorded_still name names (o ∷ os) (r ∷ rows) h = (one h.0, recorded_still name names os rows h.1)
  where
    one : IsRecorded names o r → IsRecorded (name ∷ names) o r
    one is = (is.0, (suc is.1.0, (let low = is.1.1 in omega arith), is.1.2), is.2)

written_still : (name : Target) (names : List Target) (flights : List FlyingWrite) → AreWritten names flights → AreWritten (name ∷ names) flights
written_still name names [] h = tt
written_still name names (w ∷ flights) h = (record { few = h.0.few; rows = recorded_still name names w.outcomes.items w.rows.items h.0.rows }, written_still name names flights h.1)

pub written_frozen : (name : Target) (names new : List Target) (flights : List FlyingWrite) → new ≡ name ∷ names → AreWritten names flights → AreWritten new flights
written_frozen name names new flights is h = subst (λ ns. AreWritten ns flights) (sym is) (written_still name names flights h)

-- ---- as a tablet is seen

pub told_length : (fill : Row) (memory : ℕ) (stores : List Shelved) → length (all_told fill memory (map (λ (s : Shelved). s.store) stores)) ≡ length stores
told_length fill memory [] = refl
told_length fill memory (s ∷ stores) = ap suc (told_length fill (memory - 1) stores)

pub first_named : (name : Target) (stores : List Shelved) → name_at 0 stores ≡ Some name → names_of stores ≡ name ∷ drop 1 (names_of stores)
first_named name [] e = absurd (cc)
first_named name (s ∷ stores) e = let same : s.name ≡ name = cc in ap (λ n. n ∷ names_of stores) same

pub has_frozen : {C : Type 0} (view old : View C) (stores : List Store) (names others : List Target) (pool : Contents) (frozen number : ℕ) (files : List HeldFiles) → view ≡ old → stores ≡ [] ∷ view.core.stores → names ≡ Mem (number + 1) ∷ view.names
    → pool ≡ view.pool → frozen ≡ view.frozen + 1 → files ≡ view.files → view.names ≡ Mem number ∷ others → HasFrozen old (record view { core = record view.core { stores = stores }; names = names; pool = pool; frozen = frozen; files = files })
has_frozen view old stores names others pool frozen number files e s n p f h named = subst (λ v. HasFrozen v (record view { core = record view.core { stores = stores }; names = names; pool = pool; frozen = frozen; files = files })) e (record {
  number = number;
  others = others;
  was = named;
  is = λ k. record view { core = record view.core { stores = s k }; names = n k; pool = p k; frozen = f k; files = h k };
})

pub names_length : (stores : List Shelved) → length (names_of stores) ≡ length stores
names_length stores = length-map stores (λ (s : Shelved). s.name)

pub has_changed_over : {C : Type 0} (view old : View C) (t : Takes) (stores outputs : List Store) (names targets : List Target) (pool : Contents) (frozen : ℕ) (files others : List HeldFiles) → view ≡ old → stores ≡ over_to t outputs view.names view.core.stores
    → names ≡ over_to t targets view.names view.names → frozen ≡ length (of_left t (frozen_names view) (frozen_names view)) → files ≡ files_left t view.files ++ others
    → HasChangedOver old (record view { core = record view.core { stores = stores }; names = names; pool = pool; frozen = frozen; files = files }) t outputs targets others
has_changed_over view old t stores outputs names targets pool frozen files others e s n f h =
    subst (λ v. HasChangedOver v (record view { core = record view.core { stores = stores }; names = names; pool = pool; frozen = frozen; files = files }) t outputs targets others) e (record {
      stores = λ k. record view.core { stores = s k };
      names_are = n;
      frozen = f;
      files_are = h;
      beside = refl;
    })

-- how many MemRowSets are left, told by the names
front_named : (t : Takes) (n : ℕ) (ss : List Shelved) → length (left_on t (take n ss)) ≡ length (of_left t (take n (names_of ss)) (take n (names_of ss)))
front_named t zero ss = refl
front_named t (suc n) [] = refl
front_named t (suc n) (s ∷ ss) = elim (takes t s.name) as (λ (b : Bool). length (cond (not b) (s ∷ left_on t (take n ss)) (left_on t (take n ss))) ≡ length (cond b (of_left t (take n (names_of ss)) (take n (names_of ss))) (s.name ∷ of_left t (take n (names_of ss)) (take n (names_of ss))))) [
  | true ↦ front_named t n ss
  | false ↦ ap suc (front_named t n ss)
]

pub frozen_left : (t : Takes) (n : ℕ) (stores : List Shelved) → length (left_on t (take n (drop 1 stores))) ≡ length (of_left t (take n (drop 1 (names_of stores))) (take n (drop 1 (names_of stores))))
frozen_left t n [] = front_named t n []
frozen_left t n (s ∷ stores) = front_named t n stores

-- where the stores are the same
pub still_sound : {C : Type 0} {files : List HeldFiles} (readings : C → Option (List ℕ)) (view : View C) (stores : List Store) (names : List Target) (pool : Contents) (frozen : ℕ) → IsSound readings view → stores ≡ view.core.stores
    → IsSound readings (record view { core = record view.core { stores = stores }; names = names; pool = pool; frozen = frozen; files = files })
still_sound readings view stores names pool frozen sound same = record {
  stands = λ first opens. subst (λ l. Stands (record view.core { first = first; stores = l })) (sym same) (sound.stands first opens);
  clock = sound.clock;
  plan = sound.plan;
}
