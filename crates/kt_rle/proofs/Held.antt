-- Runs that are held, with where each ends.
use Rattle.std.proofs.Common.{◌≡◌, ◌≢◌, ℕ, zero, suc, ◌+◌, ◌-◌, ◌*◌, ◌/◌, ◌^◌, ◌<◌, ◌≤◌, true, false, leb, List, [], ◌∷◌, ◌++◌, length, take, drop, get_or, replicate, ℤ, pos, Some, refl, sym, ap, ◌∙◌, subst, arith, inl, inr}
use Rattle.std.specs.Prelude.{All, slice_get}
use Rattle.std.specs.List.{flat_map}
use Rattle.std.specs.List.Sorted.{IsPartitionedBy}
use Rattle.std.proofs.lemmas.Option.{slice_get-get_or}
use Rattle.std.proofs.lemmas.List.{append-nil, get_or_append_left, get_or-append_right, get_or-drop, get_or-replicate, get_or-take, ext_get_or, length-drop, length-replicate, length-take, take_all, take_more}
use Rattle.std.proofs.lemmas.List.Concat.{flat_map-append}
use Rattle.std.proofs.lemmas.List.Elements.{All-head, All-tail}
use Rattle.std.proofs.lemmas.Bool.{cases_lt, le-leb, leb-true, leb-false}
use Rattle.std.proofs.Math.Seq.{take-add}
use Rattle.kt_plain.specs.declared.widths.NumberWidth.{NumberWidth as Width}
use Rattle.kt_plain.specs.declared.widths.NumberWidth.TheVariants.{Bit, One, Two, Four, Eight}
use Rattle.kt_plain.specs.Widths.{IsInWidth}
use Rattle.kt_rle.specs.declared.runs.Run.{Run}
use Rattle.kt_rle.specs.declared.runs.Held.{Held}
use Rattle.kt_rle.specs.Runs.{expand, run_bytes, run_len, Differ, AreRuns}
use Rattle.kt_rle.specs.Held.{runs_of, end_of, Rise, numbers_of, AreHeld}
use Rattle.kt_rle.specs.Spelling.{Spells, Takes}
use Rattle.kt_rle.proofs.RunLists.{total, length-expanded, length-spelled, LastDiffers}

-- ---- their runs, and how many numbers these are

pub total_of : (at : ℕ) (hs : List Held) → Rise at hs → at + total (runs_of at hs) ≡ end_of at hs
total_of at [] rise = omega arith
total_of at (h ∷ hs) rise = omega (arith, rise.0, total_of h.end hs rise.1)

pub length-numbers_of : (hs : List Held) → Rise 0 hs → length (numbers_of hs) ≡ end_of 0 hs
length-numbers_of hs rise = length-expanded (runs_of 0 hs) ∙ omega (arith, total_of 0 hs rise)

pub length-runs_of : (at : ℕ) (hs : List Held) → length (runs_of at hs) ≡ length hs
length-runs_of at [] = refl
length-runs_of at (h ∷ hs) = ap suc (length-runs_of h.end hs)

pub count_le : (at : ℕ) (hs : List Held) → Rise at hs → at + length hs ≤ end_of at hs
count_le at [] rise = omega arith
count_le at (h ∷ hs) rise = omega (arith, rise.0, count_le h.end hs rise.1)

-- ---- one run more

pub runs_of-push : (at : ℕ) (hs : List Held) (h : Held) → runs_of at (hs ++ h ∷ []) ≡ runs_of at hs ++ (record { len = h.end - end_of at hs; value = h.value }) ∷ []
runs_of-push at [] h = refl
runs_of-push at (x ∷ hs) h = ap (λ (rs : List Run). (record { len = x.end - at; value = x.value }) ∷ rs) (runs_of-push x.end hs h)

pub end_of-push : (at : ℕ) (hs : List Held) (h : Held) → end_of at (hs ++ h ∷ []) ≡ h.end
end_of-push at [] h = refl
end_of-push at (x ∷ hs) h = end_of-push x.end hs h

pub Rise-push : (at : ℕ) (hs : List Held) (h : Held) → Rise at hs → end_of at hs < h.end → Rise at (hs ++ h ∷ [])
Rise-push at [] h rise lt = (lt, tt)
Rise-push at (x ∷ hs) h rise lt = (rise.0, Rise-push x.end hs h rise.1 lt)

pub Differ-push : (rs : List Run) (r : Run) → Differ rs → LastDiffers rs r.value → Differ (rs ++ r ∷ [])
Differ-push [] r d last = (tt, tt)
Differ-push (x ∷ []) r d last = (last, (tt, tt))
Differ-push (x ∷ y ∷ rs) r d last = (d.0, Differ-push (y ∷ rs) r d.1 last)

pub last_differs : (rs : List Run) (r : Run) (z : ℤ) → r.value ≢ z → LastDiffers (rs ++ r ∷ []) z
last_differs [] r z ne = ne
last_differs (x ∷ []) r z ne = ne
last_differs (x ∷ y ∷ rs) r z ne = last_differs (y ∷ rs) r z ne

-- ---- held runs of a width are its runs

pub are_runs : (w : Width) (at : ℕ) (hs : List Held) → Rise at hs → Differ (runs_of at hs) → All (IsInWidth w) (flat_map expand (runs_of at hs)) → AreRuns w (runs_of at hs)
are_runs w at [] rise differ fit = tt
are_runs w at (h ∷ hs) rise differ fit =
    let some : 0 < h.end - at = let lt = rise.0 in omega arith in
    let first : IsInWidth w h.value = of_first w (h.end - at) h.value (flat_map expand (runs_of h.end hs)) some fit in
    let others : All (IsInWidth w) (flat_map expand (runs_of h.end hs)) = of_rest w (h.end - at) h.value (flat_map expand (runs_of h.end hs)) fit in
    (some, first, differ.0, are_runs w h.end hs rise.1 differ.1 others)
  where
    of_first : (w : Width) (n : ℕ) (z : ℤ) (zs : List ℤ) → 0 < n → All (IsInWidth w) (replicate n z ++ zs) → IsInWidth w z
    of_first w zero z zs some fit = absurd (omega arith)
    of_first w (suc n) z zs some fit = All-head (IsInWidth w) z (replicate n z ++ zs) fit

    of_rest : (w : Width) (n : ℕ) (z : ℤ) (zs : List ℤ) → All (IsInWidth w) (replicate n z ++ zs) → All (IsInWidth w) zs
    of_rest w zero z zs fit = fit
    of_rest w (suc n) z zs fit = of_rest w n z zs (All-tail (IsInWidth w) z (replicate n z ++ zs) fit)

pub held_spells : (w : Width) (hs : List Held) (zs : List ℤ) → AreHeld hs → numbers_of hs ≡ zs → length zs < 2 ^ 32 → All (IsInWidth w) zs → Spells w (length zs) zs (flat_map (run_bytes w) (runs_of 0 hs))
held_spells w hs zs held is few fit = record {
  runs = runs_of 0 hs;
  are = are_runs w 0 hs held.rise held.differ (subst (All (IsInWidth w)) (sym is) fit);
  expanded = sym is;
  counted = refl;
  few = few;
  spelled = refl;
}

pub held_takes : (w : Width) (hs : List Held) (zs : List ℤ) → AreHeld hs → numbers_of hs ≡ zs → length zs < 2 ^ 32 → All (IsInWidth w) zs → Takes w zs (length hs * run_len w)
held_takes w hs zs held is few fit =
    (flat_map (run_bytes w) (runs_of 0 hs), held_spells w hs zs held is few fit, length-spelled w (runs_of 0 hs) ∙ ap (λ (k : ℕ). run_len w * k) (length-runs_of 0 hs) ∙ omega arith)

-- ---- the number at a place

pub rise_at : (at : ℕ) (hs : List Held) (i j : ℕ) (d : Held) → Rise at hs → i ≤ j → j < length hs → (at < (get_or hs i d).end) × ((get_or hs i d).end ≤ (get_or hs j d).end)
rise_at at [] i j d rise le lt = absurd (omega arith)
rise_at at (h ∷ hs) zero zero d rise le lt = (rise.0, omega arith)
rise_at at (h ∷ hs) zero (suc j) d rise le lt = (rise.0, let r = rise_at h.end hs j j d rise.1 (omega arith) (omega arith) in omega (arith, r.0))
rise_at at (h ∷ hs) (suc i) zero d rise le lt = absurd (omega arith)
rise_at at (h ∷ hs) (suc i) (suc j) d rise le lt =
    let r = rise_at h.end hs i j d rise.1 (omega arith) (omega arith) in
    (omega (arith, rise.0, r.0), r.1)

pub parted : (hs : List Held) (n : ℕ) → Rise 0 hs → IsPartitionedBy (λ h. leb h.end n) hs
parted hs n rise i j d le within true_ =
    let r = rise_at 0 hs i j d rise le within in
    le-leb (get_or hs i d).end n (let b = leb-true (get_or hs j d).end n true_ in omega (arith, r.1, b))

-- the run that ends first behind a place has its number
pub number_at : (at : ℕ) (hs : List Held) (i k : ℕ) (d : ℤ) (dh : Held) → Rise at hs → at ≤ i → k < length hs → ((j : ℕ) → j < k → (get_or hs j dh).end ≤ i) → i < (get_or hs k dh).end
    → get_or (flat_map expand (runs_of at hs)) (i - at) d ≡ (get_or hs k dh).value
number_at at [] i k d dh rise le lt before behind = absurd (omega arith)
number_at at (h ∷ hs) i zero d dh rise le lt before behind =
    let len : length (replicate (h.end - at) h.value) ≡ h.end - at = length-replicate (h.end - at) h.value in
    get_or_append_left (replicate (h.end - at) h.value) (flat_map expand (runs_of h.end hs)) d (i - at) (omega arith) ∙ get_or-replicate (h.end - at) (i - at) h.value d (omega arith)
number_at at (h ∷ hs) i (suc k) d dh rise le lt before behind =
    let len : length (replicate (h.end - at) h.value) ≡ h.end - at = length-replicate (h.end - at) h.value in
    let first : h.end ≤ i = before 0 (omega arith) in
    let rest = number_at h.end hs i k d dh rise.1 first (omega arith) (λ j jl. before (suc j) (omega arith)) behind in
    let up = rise.0 in
    let shift : i - at - (h.end - at) ≡ i - h.end = omega arith in
    get_or-append_right (replicate (h.end - at) h.value) (flat_map expand (runs_of h.end hs)) (h.end - at) (i - at) d len (omega arith)
    ∙ ap (λ (m : ℕ). get_or (flat_map expand (runs_of h.end hs)) m d) shift ∙ rest

-- ---- runs that were found among numbers, up to a place

pub record StandFor (zs : List ℤ) (at : ℕ) (hs : List Held) : Type 0 where
  pub held : AreHeld hs
  pub ends : end_of 0 hs ≡ at
  pub within : at ≤ length zs
  pub are : numbers_of hs ≡ take at zs
  pub next : at < length zs → LastDiffers (runs_of 0 hs) (get_or zs at (pos 0))

pub stand_none : (zs : List ℤ) → StandFor zs 0 []
stand_none zs = record { held = record { rise = tt; differ = tt }; ends = refl; within = omega arith; are = refl; next = λ lt. tt }

pub stand_more : (zs : List ℤ) (at end : ℕ) (hs : List Held) → StandFor zs at hs → at < end → end ≤ length zs
    → ((k : ℕ) → at ≤ k → k < end → get_or zs k (pos 0) ≡ get_or zs at (pos 0)) → (end < length zs → get_or zs end (pos 0) ≢ get_or zs at (pos 0))
    → StandFor zs end (hs ++ (record { end = end; value = get_or zs at (pos 0) }) ∷ [])
stand_more zs at end hs s lt le same stop =
    let z : ℤ = get_or zs at (pos 0) in
    let h : Held = record { end = end; value = z } in
    let ends = s.ends in
    let r : Run = record { len = end - end_of 0 hs; value = z } in
    let pushed : runs_of 0 (hs ++ h ∷ []) ≡ runs_of 0 hs ++ r ∷ [] = runs_of-push 0 hs h in
    let len : end - end_of 0 hs ≡ end - at = ap (λ (k : ℕ). end - k) ends in
    let piece_len : length (take (end - at) (drop at zs)) ≡ end - at = omega (arith, length-take (end - at) (drop at zs), length-drop at zs) in
    let piece : replicate (end - at) z ≡ take (end - at) (drop at zs) =
    ext_get_or (pos 0) (replicate (end - at) z) (take (end - at) (drop at zs)) (length-replicate (end - at) z ∙ sym piece_len)
    (λ k kl.
    let small : k < end - at = omega (arith, length-replicate (end - at) z) in
    get_or-replicate (end - at) k z (pos 0) small ∙ sym (get_or-take (end - at) (drop at zs) k (pos 0) small ∙ get_or-drop at zs k (pos 0) ∙ same (at + k) (omega arith) (omega arith))) in
    let sum : at + (end - at) ≡ end = omega arith in
    record {
      held = record {
        rise = Rise-push 0 hs h s.held.rise (omega arith);
        differ = subst Differ (sym pushed) (Differ-push (runs_of 0 hs) r s.held.differ (s.next (omega arith)));
      };
      ends = end_of-push 0 hs h;
      within = le;
      are = ap (flat_map expand) pushed ∙ flat_map-append expand (runs_of 0 hs) (r ∷ []) ∙ ap (λ (xs : List ℤ). numbers_of hs ++ xs) (append-nil (replicate (end - end_of 0 hs) z))
          ∙ ap (λ (k : ℕ). numbers_of hs ++ replicate k z) len ∙ ap (λ (xs : List ℤ). xs ++ replicate (end - at) z) s.are ∙ ap (λ (xs : List ℤ). take at zs ++ xs) piece
          ∙ sym (take-add at (end - at) zs) ∙ ap (λ (k : ℕ). take k zs) sum;
      next = λ more. subst (λ (rs : List Run). LastDiffers rs (get_or zs end (pos 0))) (sym pushed) (last_differs (runs_of 0 hs) r (get_or zs end (pos 0)) (λ e. stop more (sym e)));
    }

pub stand_all : (zs : List ℤ) (at : ℕ) (hs : List Held) → StandFor zs at hs → length zs ≤ at → numbers_of hs ≡ zs
stand_all zs at hs s le = s.are ∙ take_all at zs le

-- ---- the runs, one by one

pub end_at_last : (at : ℕ) (hs : List Held) (d : Held) → 0 < length hs → (get_or hs (length hs - 1) d).end ≡ end_of at hs
end_at_last at [] d some = absurd (omega arith)
end_at_last at (h ∷ []) d some = refl
end_at_last at (h ∷ k ∷ hs) d some =
    let e : length (h ∷ k ∷ hs) - 1 ≡ suc (length (k ∷ hs) - 1) = omega arith in
    ap (λ (i : ℕ). (get_or (h ∷ k ∷ hs) i d).end) e ∙ end_at_last h.end (k ∷ hs) d (omega arith)

pub end_le : (at : ℕ) (hs : List Held) (i : ℕ) (d : Held) → Rise at hs → i < length hs → (get_or hs i d).end ≤ end_of at hs
end_le at [] i d rise lt = absurd (omega arith)
end_le at (h ∷ hs) zero d rise lt = omega (arith, count_le h.end hs rise.1)
end_le at (h ∷ hs) (suc i) d rise lt = end_le h.end hs i d rise.1 (omega arith)

pub rise_next : (at : ℕ) (hs : List Held) (i : ℕ) (d : Held) → Rise at hs → i < length hs → end_of at (take i hs) < (get_or hs i d).end
rise_next at [] i d rise lt = absurd (omega arith)
rise_next at (h ∷ hs) zero d rise lt = rise.0
rise_next at (h ∷ hs) (suc i) d rise lt = rise_next h.end hs i d rise.1 (omega arith)

pub number_fits : (w : Width) (at : ℕ) (hs : List Held) (i : ℕ) (d : Held) → AreRuns w (runs_of at hs) → i < length hs → IsInWidth w (get_or hs i d).value
number_fits w at [] i d are lt = absurd (omega arith)
number_fits w at (h ∷ hs) zero d are lt = are.1
number_fits w at (h ∷ hs) (suc i) d are lt = number_fits w h.end hs i d are.3 (omega arith)

-- some run ends behind a place among the numbers
pub ends_behind : (hs : List Held) (i k : ℕ) → Rise 0 hs → i < length (numbers_of hs) → k ≤ length hs → ((j : ℕ) (d : Held) → 0 ≤ j → j < k → leb (get_or hs j d).end i ≡ true) → k < length hs
ends_behind hs i k rise within le before = elim (cases_lt k (length hs)) [
  | inl lt ↦ lt
  | inr ge ↦
      let d : Held = record { end = 0; value = pos 0 } in
      let len = length-numbers_of hs rise in
      let some : 0 < length hs = some_runs hs i (omega arith) in
      let last = end_at_last 0 hs d some in
      let below = leb-true (get_or hs (length hs - 1) d).end i (before (length hs - 1) d (omega arith) (omega arith)) in
      absurd (omega arith)
]
  where
    some_runs : (hs : List Held) (i : ℕ) → i < end_of 0 hs → 0 < length hs
    some_runs [] i lt = absurd (omega arith)
    some_runs (h ∷ hs) i lt = omega arith

-- the number of the first run that ends behind a place
pub found_at : (hs : List Held) (i k : ℕ) (d : Held) → Rise 0 hs → i < length (numbers_of hs) → k < length hs
    → ((j : ℕ) (d : Held) → 0 ≤ j → j < k → leb (get_or hs j d).end i ≡ true) → ((j : ℕ) (d : Held) → k ≤ j → j < length hs → leb (get_or hs j d).end i ≡ false)
    → slice_get (numbers_of hs) i ≡ Some (get_or hs k d).value
found_at hs i k d rise within lt before behind =
    let none : i - 0 ≡ i = omega arith in
    let past : i < (get_or hs k d).end = leb-false (get_or hs k d).end i (behind k d (omega arith) lt) in
    slice_get-get_or (numbers_of hs) i (pos 0) within
    ∙ ap Some (ap (λ (m : ℕ). get_or (numbers_of hs) m (pos 0)) (sym none) ∙ number_at 0 hs i k (pos 0) d rise (omega arith) lt (λ j jl. leb-true (get_or hs j d).end i (before j d (omega arith) jl)) past)

-- one run more is written
pub spelled_more : (w : Width) (hs : List Held) (i at : ℕ) (bytes : List ℕ) (d : Held) → i < length hs → at ≡ end_of 0 (take i hs) → bytes ≡ flat_map (run_bytes w) (runs_of 0 (take i hs))
    → bytes ++ run_bytes w (record { len = (get_or hs i d).end - at; value = (get_or hs i d).value }) ≡ flat_map (run_bytes w) (runs_of 0 (take (i + 1) hs))
spelled_more w hs i at bytes d lt is before =
    let h : Held = get_or hs i d in
    let front : List Held = take i hs in
    let r : Run = record { len = h.end - end_of 0 front; value = h.value } in
    ap (λ (k : ℕ). bytes ++ run_bytes w (record { len = h.end - k; value = h.value })) is
    ∙ ap (λ (xs : List ℕ). xs ++ run_bytes w r) before
    ∙ ap (λ (xs : List ℕ). flat_map (run_bytes w) (runs_of 0 front) ++ xs) (sym (append-nil (run_bytes w r)))
    ∙ sym (ap (λ (l : List Held). flat_map (run_bytes w) (runs_of 0 l)) (take_more hs i d lt) ∙ ap (flat_map (run_bytes w)) (runs_of-push 0 front h) ∙ flat_map-append (run_bytes w) (runs_of 0 front) (r ∷ []))

pub end_more : (hs : List Held) (i : ℕ) (d : Held) → i < length hs → (get_or hs i d).end ≡ end_of 0 (take (i + 1) hs)
end_more hs i d lt = sym (ap (end_of 0) (take_more hs i d lt) ∙ end_of-push 0 (take i hs) (get_or hs i d))

-- few runs take few bytes
pub small_mul : (w : Width) (k : ℕ) → k < 2 ^ 32 → k * run_len w < 2 ^ 64
small_mul Bit k lt = omega arith
small_mul One k lt = omega arith
small_mul Two k lt = omega arith
small_mul Four k lt = omega arith
small_mul Eight k lt = omega arith

-- how many whole runs there are
pub whole_runs : (w : Width) (n : ℕ) → (run_len w * (n / run_len w) ≤ n) × (n < run_len w * (n / run_len w) + run_len w)
whole_runs Bit n = (omega arith, omega arith)
whole_runs One n = (omega arith, omega arith)
whole_runs Two n = (omega arith, omega arith)
whole_runs Four n = (omega arith, omega arith)
whole_runs Eight n = (omega arith, omega arith)
