-- Stores that are opened under a superblock, each under the name of its place, mirror what they are.
use Rattle.std.proofs.Common.{◌≡◌, ◌<◌, ℕ, Bool, true, false, cond, List, [], ◌∷◌, map, Option, Some, None, refl, sym, ap, ◌∙◌, subst, arith}
use Rattle.std.specs.Prelude.{nat_lt, unwrap_or, ◌==◌}
use Rattle.std.specs.List.{All, AllByRecursion}
use Rattle.std.proofs.lemmas.Bool.Decides.{nat_tests}
use Rattle.kt_history.specs.declared.target.Target.{Target}
use Rattle.kt_history.specs.Stores.{Store, Hist, hist_in, row_of, step_of}
use Rattle.kt_records.specs.declared.entry.Entry.{Entry}
use Rattle.kt_records.specs.Rules.{TargetFits}
use Rattle.kt_histlaws.specs.Histories.{hists, AtMostOne}
use Rattle.kt_histlaws.specs.Jobs.{AreAlike}
use Rattle.kt_rowfiles.specs.Files.{DiskRowset}
use Rattle.kt_rowfiles.specs.Fitting.{readable}
use Rattle.kt_diskrowset.specs.Rows.{store_with}
use Rattle.kt_content.specs.Places.{Super, Place, memory, disk, same_place, last_dms_of}
use Rattle.kt_content.specs.Opening.{Placed, held_of}
use Rattle.kt_content.specs.InMemory.{mem_rows, rowset, if_there, is_at, stands_for, group, hist_at, Mirrors}
use Rattle.kt_content.proofs.Lending.{alike_to_never}
use Rattle.kt_content.proofs.MoreOps.{is_same}
use Rattle.kt_reopen.specs.Bare.{places_under, LacksPlace, PlacesApart}
use Rattle.kt_reopen.specs.Both.{first_stores}
use Rattle.kt_reopen.specs.Numbers.{mem_number}
use Rattle.kt_reopen.specs.Numbers as numbers
use Rattle.kt_engine.specs.Memory.{name_of, by_name, IsNamed, LacksName, NamesDiffer, AreNamed}
use Rattle.kt_engine.proofs.Lists.{all_none, all_cons}

-- ---- what stands for each place

alike_itself : (a : ℕ) (h : Hist) → AreAlike a (h ∷ []) (h ∷ [])
alike_itself a h = record { rows = λ t le. refl; steps = λ t lt. refl; one_row = λ t le. one (row_of t h); one_step = λ t lt. one (step_of t h) }
  where
    one : {A : Type 0} (x : Option A) → AtMostOne (x ∷ [])
    one None = tt
    one (Some x) = refl

-- each of some places has a name that stands for it
abbrev pub Stand : Super → (Place → Target) → List Place → Type 0
Stand super name [] = Unit {0}
Stand super name (p ∷ places) = (stands_for super (name_of (name p)) ≡ Some p) × Stand super name places

module _ (super : Super) (name : Place → Target) (q : List ℕ) where
  abbrev of : Place → Placed → List Hist
  of p placed = group super p (by_name (map name (map (λ (s : Place × Store). s.0) placed)) (hists q (map (λ (s : Place × Store). s.1) placed)))

  none_there : (p : Place) (placed : Placed) → LacksPlace p (map (λ (s : Place × Store). s.0) placed) → Stand super name (map (λ (s : Place × Store). s.0) placed) → of p placed ≡ []
  none_there p [] lacks st = refl
  none_there p (s ∷ placed) lacks st =
      ap (λ (o : Option Place). cond (is_at p o) (hist_in q s.1 ∷ of p placed) (of p placed)) st.0
      ∙ ap (λ (b : Bool). cond b (hist_in q s.1 ∷ of p placed) (of p placed)) lacks.0 ∙ none_there p placed lacks.1 st.1

  pub each_mirrors : (a : ℕ) (placed : Placed) → PlacesApart (map (λ (s : Place × Store). s.0) placed) → Stand super name (map (λ (s : Place × Store). s.0) placed)
      → Mirrors a super (by_name (map name (map (λ (s : Place × Store). s.0) placed)) (hists q (map (λ (s : Place × Store). s.1) placed))) (held_of q placed)
  each_mirrors a [] apart st p = alike_to_never a
  each_mirrors a (s ∷ placed) apart st p =
      let rest = of p placed in
      let here : of p (s ∷ placed) ≡ cond (same_place p s.0) (hist_in q s.1 ∷ rest) rest = ap (λ (o : Option Place). cond (is_at p o) (hist_in q s.1 ∷ rest) rest) st.0 in
      subst (λ (l : List Hist). AreAlike a l (hist_at p (held_of q (s ∷ placed)) ∷ [])) (sym here) (by (same_place p s.0) refl (each_mirrors a placed apart.1 st.1 p))
    where
      by : (b : Bool) → same_place p s.0 ≡ b → AreAlike a (of p placed) (hist_at p (held_of q placed) ∷ []) → AreAlike a (cond b (hist_in q s.1 ∷ of p placed) (of p placed)) (cond b (hist_in q s.1) (hist_at p (held_of q placed)) ∷ [])
      by true e more =
          let same : p ≡ s.0 = is_same p s.0 e in
          subst (λ (l : List Hist). AreAlike a (hist_in q s.1 ∷ l) (hist_in q s.1 ∷ [])) (sym (none_there p placed (subst (λ (x : Place). LacksPlace x (map (λ (s : Place × Store). s.0) placed)) (sym same) apart.0) st.1)) (alike_itself a (hist_in q s.1))
      by false e more = more

-- ---- the names of an opened tablet

itself : (a : ℕ) → (a == a) ≡ true
itself a = grind (arith, nat_tests)

lt_test : (a b : ℕ) → a < b → nat_lt a b ≡ true
lt_test a b lt = grind (arith, nat_tests)

-- each rowset of a superblock is found by its number
abbrev AllLast : (ℕ → Option ℕ) → List DiskRowset → Type 0
AllLast f [] = Unit {0}
AllLast f (d ∷ rowsets) = ((last : ℕ) × (f d.rowset ≡ Some last)) × AllLast f rowsets

last_behind : (y : DiskRowset) (f : ℕ → Option ℕ) (rowsets : List DiskRowset) → AllLast f rowsets → AllLast (λ n. cond (y.rowset == n) (Some y.last_dms) (f n)) rowsets
last_behind y f [] h = tt
last_behind y f (d ∷ rowsets) h = (by (y.rowset == d.rowset) h.0, last_behind y f rowsets h.1)
  where
    by : (b : Bool) → (last : ℕ) × (f d.rowset ≡ Some last) → (last : ℕ) × (cond b (Some y.last_dms) (f d.rowset) ≡ Some last)
    by true h = (y.last_dms, refl)
    by false h = h

all_last : (rowsets : List DiskRowset) → AllLast (λ n. last_dms_of n rowsets) rowsets
all_last [] = tt
all_last (d ∷ rowsets) = (
  (d.last_dms, ap (λ (b : Bool). cond b (Some d.last_dms) (last_dms_of d.rowset rowsets)) (itself d.rowset)),
  last_behind d (λ n. last_dms_of n rowsets) rowsets (all_last rowsets),
)

turned : (r s : ℕ) → (r == s) ≡ false → (s == r) ≡ false
turned r s h = grind (arith, nat_tests)

module _ (super : Super) (records : List Entry) where
  abbrev name : Place → Target
  name = numbers.name_of super records

  mem_stands : stands_for super (name_of (name memory)) ≡ Some memory
  mem_stands = ap (λ (b : Bool). cond b (Some memory) None) (lt_test super.last_mem (mem_number super.last_mem records) (omega arith))

  rowsets_stand : (rowsets : List DiskRowset) → AllLast (λ n. last_dms_of n super.rowsets) rowsets → Stand super name (map (λ (d : DiskRowset). disk d.rowset) rowsets)
  rowsets_stand [] h = tt
  rowsets_stand (d ∷ rowsets) h = (ap (if_there (disk d.rowset)) h.0.1, rowsets_stand rowsets h.1)

  pub opened_stand : Stand super name (places_under super)
  opened_stand = (mem_stands, rowsets_stand super.rowsets (all_last super.rowsets))

  -- each is above what the files hold, and can be spelled
  rowsets_named : (rowsets : List DiskRowset) → AllLast (λ n. last_dms_of n super.rowsets) rowsets → AllByRecursion (λ (s : Place × Store). TargetFits (name s.0)) (map (λ (d : DiskRowset). (disk d.rowset, store_with (readable d) (λ n. []))) rowsets)
      → All (IsNamed super) (map name (map (λ (d : DiskRowset). disk d.rowset) rowsets))
  rowsets_named [] h fit = all_none (IsNamed super)
  rowsets_named (d ∷ rowsets) h fit =
      let last : unwrap_or (last_dms_of d.rowset super.rowsets) 0 ≡ h.0.0 = ap (λ (o : Option ℕ). unwrap_or o 0) h.0.1 in
      all_cons (IsNamed super) (name (disk d.rowset)) (map name (map (λ (d : DiskRowset). disk d.rowset) rowsets)) ((h.0.0, h.0.1, omega (arith, last)), fit.0.0, fit.0.1) (rowsets_named rowsets h.1 fit.1)

  -- no two are one
  lacks_name : (r : ℕ) (rowsets : List DiskRowset) → LacksPlace (disk r) (map (λ (d : DiskRowset). disk d.rowset) rowsets) → LacksName (rowset r) (map name (map (λ (d : DiskRowset). disk d.rowset) rowsets))
  lacks_name r [] h = tt
  lacks_name r (d ∷ rowsets) h = (turned r d.rowset h.0, lacks_name r rowsets h.1)

  lacks_mem : (n : ℕ) (rowsets : List DiskRowset) → LacksName (mem_rows n) (map name (map (λ (d : DiskRowset). disk d.rowset) rowsets))
  lacks_mem n [] = tt
  lacks_mem n (d ∷ rowsets) = (refl, lacks_mem n rowsets)

  names_differ : (rowsets : List DiskRowset) → PlacesApart (map (λ (d : DiskRowset). disk d.rowset) rowsets) → NamesDiffer (map name (map (λ (d : DiskRowset). disk d.rowset) rowsets))
  names_differ [] h = tt
  names_differ (d ∷ rowsets) h = (lacks_name d.rowset rowsets h.0, names_differ rowsets h.1)

  pub opened_named : PlacesApart (places_under super) → AllByRecursion (λ (s : Place × Store). TargetFits (name s.0)) (first_stores super) → AreNamed super (map name (places_under super))
  opened_named apart fit = record {
    each = all_cons (IsNamed super) (name memory) (map name (map (λ (d : DiskRowset). disk d.rowset) super.rowsets)) (omega arith, fit.0) (rowsets_named super.rowsets (all_last super.rowsets) fit.1);
    first = tt;
    differ = (lacks_mem (mem_number super.last_mem records) super.rowsets, names_differ super.rowsets apart.1);
  }
