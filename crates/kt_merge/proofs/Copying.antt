-- Records that are listed where they lie, and copied behind each other.
use Rattle.std.proofs.Common.{◌≡◌, ◌≤◌, ◌<◌, ◌+◌, ◌^◌, ℕ, zero, suc, List, [], ◌∷◌, ◌++◌, length, get_or, take, Bool, true, false, ◌&&◌, refl, sym, ap, ◌∙◌, subst, arith, append_assoc}
use Rattle.std.specs.Prelude.{nat_lt, nat_le}
use Rattle.std.specs.Borrow.{Bor}
use Rattle.std.specs.List.{All, AllByRecursion}
use Rattle.std.proofs.lemmas.Bool.{lt-ltb}
use Rattle.std.proofs.lemmas.List.{append-nil, map-append, length-map, take_all}
use Rattle.std.specs.List.Sorted.{IsPermutation}
use Rattle.std.proofs.lemmas.List.Sorted.{length_permutation, All-permutation}
use Rattle.std.proofs.lemmas.List.Elements.{All-append}
use Rattle.kt_history.specs.declared.change.Change.{Change}
use Rattle.kt_history.specs.declared.changes.Delta.{Delta}
use Rattle.kt_cells.specs.Rules.{EachAfter}
use Rattle.kt_cells.proofs.Items.{each_at}
use Rattle.kt_deltafile.specs.declared.file.Way.{Way}
use Rattle.kt_deltafile.specs.declared.file.Way.TheVariants.{Redo}
use Rattle.kt_deltafile.specs.File.{FileView}
use Rattle.kt_deltafile.specs.Order.{last_ordinal, may_follow}
use Rattle.kt_deltafile.specs.Rules.{Follows, IsFile}
use Rattle.kt_merge.specs.Minor.{deltas_at, all_records, AreInOrder, comes, Comes, FitsRedo}
use Rattle.kt_merge.proofs.InOrder.{comes_each}

-- ---- one record more

each_push_at : (P : List Delta → Delta → Type 0) (front xs : List Delta) (d : Delta) → EachAfter P front xs → P (front ++ xs) d → EachAfter P front (xs ++ d ∷ [])
each_push_at P front [] d each last = (subst (λ (l : List Delta). P l d) (append-nil front) last, tt)
each_push_at P front (x ∷ xs) d each last = (each.0, each_push_at P (front ++ x ∷ []) xs d each.1 (subst (λ (l : List Delta). P l d) (sym (append_assoc front (x ∷ []) xs)) last))

left : (a b : Bool) → (a && b) ≡ true → a ≡ true
left true b e = refl
left false b e = cc

right : (a b : Bool) → (a && b) ≡ true → b ≡ true
right true b e = e
right false b e = cc

both : (a b : Bool) → a ≡ true → b ≡ true → (a && b) ≡ true
both a b p q = ap (λ (a : Bool). a && b) p ∙ q

follows : (front : List Delta) (d : Delta) → FitsRedo d → Comes front d → Follows Redo (2 ^ 32) front d
follows front d fits comes = record {
  comes = both (nat_le (last_ordinal front) d.ordinal) (nat_lt d.ordinal (2 ^ 32)) (left (nat_le (last_ordinal front) d.ordinal) (may_follow Redo front d.ordinal d.ts) comes) (lt-ltb d.ordinal (2 ^ 32) fits.ordinal);
  ordinal = fits.ordinal;
  order = right (nat_le (last_ordinal front) d.ordinal) (may_follow Redo front d.ordinal d.ts) comes;
  ts = fits.ts;
  change = fits.change;
}

pub form_more : (xs ys : List Delta) (d : Delta) → FitsRedo d → Comes xs d → ys ≡ xs ++ d ∷ [] → EachAfter (Follows Redo (2 ^ 32)) [] xs → EachAfter (Follows Redo (2 ^ 32)) [] ys
form_more xs ys d fits comes is each = subst (λ (l : List Delta). EachAfter (Follows Redo (2 ^ 32)) [] l) (sym is) (each_push_at (Follows Redo (2 ^ 32)) [] xs d each (follows xs d fits comes))

-- a record whose change is copied
pub copied : (d : Delta) (change : Change) → change ≡ d.change → record { ordinal = d.ordinal; ts = d.ts; change = change } ≡ d
copied d change e = ap (λ (c : Change). record { ordinal = d.ordinal; ts = d.ts; change = c }) e

-- ---- records in turn

take_next : (rs : List (Bor Delta)) (i : ℕ) (r : Bor Delta) → i < length rs → r ≡ get_or rs i r → take (suc i) (deltas_at rs) ≡ take i (deltas_at rs) ++ r.now ∷ []
take_next [] i r low is = absurd (omega arith)
take_next (s ∷ rs) zero r low is = ap (λ (x : Bor Delta). x.now ∷ []) (sym is)
take_next (s ∷ rs) (suc i) r low is = ap (λ (l : List Delta). s.now ∷ l) (take_next rs i r (omega arith) is)

pub take_more : (rs : List (Bor Delta)) (i : ℕ) (r : Bor Delta) → i < length rs → r ≡ get_or rs i r → take (i + 1) (deltas_at rs) ≡ take i (deltas_at rs) ++ r.now ∷ []
take_more rs i r low is = let e : i + 1 ≡ suc i = omega arith in ap (λ (n : ℕ). take n (deltas_at rs)) e ∙ take_next rs i r low is

take_next_of : {X : Type 0} (xs : List X) (i : ℕ) (x : X) → i < length xs → x ≡ get_or xs i x → take (suc i) xs ≡ take i xs ++ x ∷ []
take_next_of [] i x low is = absurd (omega arith)
take_next_of (y ∷ xs) zero x low is = ap (λ z. z ∷ []) (sym is)
take_next_of (y ∷ xs) (suc i) x low is = ap (λ l. y ∷ l) (take_next_of xs i x (omega arith) is)

pub take_more_of : {X : Type 0} (xs : List X) (i : ℕ) (x : X) → i < length xs → x ≡ get_or xs i x → take (i + 1) xs ≡ take i xs ++ x ∷ []
take_more_of xs i x low is = let e : i + 1 ≡ suc i = omega arith in ap (λ (n : ℕ). take n xs) e ∙ take_next_of xs i x low is

comes_next : (front : List Delta) (rs : List (Bor Delta)) (i : ℕ) (r : Bor Delta) → EachAfter Comes front (deltas_at rs) → i < length rs → r ≡ get_or rs i r → Comes (front ++ take i (deltas_at rs)) r.now
comes_next front [] i r each low is = absurd (omega arith)
comes_next front (s ∷ rs) zero r each low is = subst (λ (l : List Delta). Comes l r.now) (sym (append-nil front)) (subst (λ (x : Bor Delta). Comes front x.now) (sym is) each.0)
comes_next front (s ∷ rs) (suc i) r each low is = subst (λ (l : List Delta). Comes l r.now) (append_assoc front (s.now ∷ []) (take i (deltas_at rs))) (comes_next (front ++ s.now ∷ []) rs i r each.1 (omega arith) is)

pub all_next : (rs : List (Bor Delta)) (i : ℕ) (r : Bor Delta) (old new : List Delta) → i < length rs → r ≡ get_or rs i r
    → (AreInOrder (deltas_at rs) → old ≡ take i (deltas_at rs)) → (Comes old r.now → new ≡ old ++ r.now ∷ []) → AreInOrder (deltas_at rs) → new ≡ take (i + 1) (deltas_at rs)
all_next rs i r old new low is so put chain =
    let front = so chain in
    let each = comes_each (deltas_at rs) chain in
    put (subst (λ (l : List Delta). Comes l r.now) (sym front) (comes_next [] rs i r each low is)) ∙ ap (λ (l : List Delta). l ++ r.now ∷ []) front ∙ sym (take_more rs i r low is)

pub all_over : (rs : List (Bor Delta)) (i : ℕ) (list : List Delta) → length rs ≤ i → list ≡ take i (deltas_at rs) → list ≡ deltas_at rs
all_over rs i list past so = so ∙ (let long : length (deltas_at rs) ≡ length rs = length-map rs (λ (r : Bor Delta). r.now) in take_all i (deltas_at rs) (omega arith))

-- the record at a place, of those where they lie
pub fits_at : (rs : List (Bor Delta)) (i : ℕ) (r : Bor Delta) → All FitsRedo (deltas_at rs) → i < length rs → r ≡ get_or rs i r → FitsRedo r.now
fits_at [] i r all low is = absurd (omega arith)
fits_at (s ∷ rs) zero r all low is = subst (λ (x : Bor Delta). FitsRedo x.now) (sym is) (all 0 s.now (omega arith))
fits_at (s ∷ rs) (suc i) r all low is = fits_at rs i r (λ k d lt. all (suc k) d (omega arith)) (omega arith) is

-- ---- the records of files

pub fits_of : (list : List Delta) → IsFile Redo list → All FitsRedo list
fits_of list file k d lt =
    let f : Follows Redo (2 ^ 32) (take k list) (get_or list k d) = each_at (Follows Redo (2 ^ 32)) list [] k d file.each lt in
    record { ordinal = f.ordinal; ts = f.ts; change = f.change }

records_next : (files : List (Bor FileView)) (i : ℕ) (f : Bor FileView) → i < length files → f ≡ get_or files i f → all_records (take (suc i) files) ≡ all_records (take i files) ++ f.now.list
records_next [] i f low is = absurd (omega arith)
records_next (g ∷ files) zero f low is = append-nil g.now.list ∙ ap (λ (x : Bor FileView). x.now.list) (sym is)
records_next (g ∷ files) (suc i) f low is = ap (λ (l : List Delta). g.now.list ++ l) (records_next files i f (omega arith) is) ∙ sym (append_assoc g.now.list (all_records (take i files)) f.now.list)

pub records_more : (files : List (Bor FileView)) (i : ℕ) (f : Bor FileView) → i < length files → f ≡ get_or files i f → all_records (take (i + 1) files) ≡ all_records (take i files) ++ f.now.list
records_more files i f low is = let e : i + 1 ≡ suc i = omega arith in ap (λ (n : ℕ). all_records (take n files)) e ∙ records_next files i f low is

pub is_redo : (files : List (Bor FileView)) (i : ℕ) (f : Bor FileView) → AllByRecursion (λ (f : Bor FileView). f.now.way ≡ Redo) files → i < length files → f ≡ get_or files i f → f.now.way ≡ Redo
is_redo [] i f all low is = absurd (omega arith)
is_redo (g ∷ files) zero f all low is = ap (λ (x : Bor FileView). x.now.way) is ∙ all.0
is_redo (g ∷ files) (suc i) f all low is = is_redo files i f all.1 (omega arith) is

pub fits_more : (files : List (Bor FileView)) (i : ℕ) (f : Bor FileView) (old new : List Delta) → AllByRecursion (λ (f : Bor FileView). f.now.way ≡ Redo) files → i < length files → f ≡ get_or files i f
    → IsFile f.now.way f.now.list → new ≡ old ++ f.now.list → All FitsRedo old → All FitsRedo new
fits_more files i f old new redo low is file e all =
    subst (All FitsRedo) (sym e) (All-append FitsRedo old f.now.list all (fits_of f.now.list (subst (λ (way : Way). IsFile way f.now.list) (is_redo files i f redo low is) file)))

pub listed_next : (file : List Delta) (i : ℕ) (x : Delta) (r : Bor Delta) (before : List Delta) (old new : List (Bor Delta)) → i < length file → x ≡ get_or file i x → r.now ≡ x
    → new ≡ old ++ r ∷ [] → deltas_at old ≡ before ++ take i file → deltas_at new ≡ before ++ take (i + 1) file
listed_next file i x r before old new low is same e so =
    ap deltas_at e ∙ map-append (λ (r : Bor Delta). r.now) old (r ∷ []) ∙ ap (λ (l : List Delta). l ++ r.now ∷ []) so ∙ append_assoc before (take i file) (r.now ∷ [])
    ∙ ap (λ (l : List Delta). before ++ l) (ap (λ (y : Delta). take i file ++ y ∷ []) same ∙ sym (take_more_of file i x low is))

pub listed_over : (file : List Delta) (i : ℕ) (before now : List Delta) → length file ≤ i → now ≡ before ++ take i file → now ≡ before ++ file
listed_over file i before now past so = so ∙ ap (λ (l : List Delta). before ++ l) (take_all i file past)

-- ---- one file

-- records in another order are as many, and fit
pub few_moved : (xs zs : List (Bor Delta)) (all list : List Delta) → deltas_at xs ≡ all → IsPermutation (deltas_at xs) (deltas_at zs) → length list ≤ length zs → length all < 2 ^ 32 → length list < 2 ^ 32
few_moved xs zs all list listed moved few most =
    let long : length (deltas_at zs) ≡ length zs = length-map zs (λ (r : Bor Delta). r.now) in
    let same = length_permutation (deltas_at xs) (deltas_at zs) moved in
    let whole = ap length listed in
    omega arith

pub fits_moved : (xs zs : List (Bor Delta)) → IsPermutation (deltas_at xs) (deltas_at zs) → All FitsRedo (deltas_at xs) → All FitsRedo (deltas_at zs)
fits_moved xs zs moved all = All-permutation FitsRedo (deltas_at xs) (deltas_at zs) moved all
