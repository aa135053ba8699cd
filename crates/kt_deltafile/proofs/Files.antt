-- Delta files, read and written: what is read is spelled so, what is spelled so is read, and else the place is the first fault.
use Rattle.std.proofs.Common.{◌≡◌, ℕ, ◌<◌, List, [], ◌∷◌, ◌++◌, length, get_or, take, ◌+◌, Result, Ok, Err, refl, sym, ap, ◌∙◌, append_assoc}
use Rattle.std.specs.Prelude.{IfOk, OnOk}
use Rattle.std.specs.List.{flat_map}
use Rattle.std.proofs.lemmas.List.{flat_map_more, take_more}
use Rattle.kt_history.specs.declared.changes.Delta.{Delta}
use Rattle.kt_bytes.specs.declared.fault.CodecNo.{CodecNo}
use Rattle.kt_bytes.specs.Places.{IsFault}
use Rattle.kt_bytes.specs.Reading.{with_offset, Answers}
use Rattle.kt_bytes.proofs.Numbers.{IsBytes, ok_is}
use Rattle.kt_bytes.proofs.Whole.{found, again, place}
use Rattle.kt_deltafile.specs.declared.file.Way.{Way}
use Rattle.kt_deltafile.specs.File.{FileView}
use Rattle.kt_deltafile.specs.Rules.{FileFits}
use Rattle.kt_deltafile.specs.Spelling.{spelling}
use Rattle.kt_deltafile.specs.Fields.{file_fields, Spelled}
use Rattle.kt_deltafile.specs.Reading.{file_at, whole_at, file_of}
use Rattle.kt_deltafile.proofs.Parts.{BodyFits, file_part, file_spelled}

pub whole_takes : (rows : ℕ) (bytes : List ℕ) (f : FileView) → IsBytes bytes → whole_at rows bytes ≡ Ok f → FileFits f.way rows f.list × (bytes ≡ spelling f.way f.list)
unfolding whole_at
whole_takes rows bytes f fits e =
    let t = found (file_at rows) file_fields (BodyFits rows) (file_part rows) bytes f fits e in
    (t.0, t.1 ∙ file_spelled f)

pub whole_again : (rows : ℕ) (f : FileView) → FileFits f.way rows f.list → whole_at rows (spelling f.way f.list) ≡ Ok f
unfolding whole_at
whole_again rows f fits = ap (whole_at rows) (sym (file_spelled f)) ∙ again (file_at rows) file_fields (BodyFits rows) (file_part rows) f fits

-- the place is told by the spellings alone
pub file_place : (rows : ℕ) (bytes : List ℕ) (offset : ℕ) → IsBytes bytes → file_of rows bytes ≡ Err offset → IsFault (Spelled rows) bytes offset
unfolding whole_at
file_place rows bytes offset fits e = place (file_at rows) file_fields (BodyFits rows) (file_part rows) bytes offset fits e

offset_ok : (total : ℕ) (r : Result FileView ℕ) (f : FileView) → with_offset total r ≡ Ok f → r ≡ Ok f
offset_ok total (Ok x) f e = e
offset_ok total (Err left) f e = absurd cc

pub file_takes : (rows : ℕ) (bytes : List ℕ) (f : FileView) → IsBytes bytes → file_of rows bytes ≡ Ok f → FileFits f.way rows f.list × (bytes ≡ spelling f.way f.list)
file_takes rows bytes f fits e = whole_takes rows bytes f fits (offset_ok (length bytes) (whole_at rows bytes) f e)

-- what is spelled is read
pub file_again : (rows : ℕ) (f : FileView) → FileFits f.way rows f.list → file_of rows (spelling f.way f.list) ≡ Ok f
file_again rows f fits = ap (with_offset (length (spelling f.way f.list))) (whole_again rows f fits)

pub is_found : (rows : ℕ) (bytes : List ℕ) (r : Result FileView CodecNo) → IsBytes bytes → Answers r (file_of rows bytes) → IfOk r (λ f. FileFits f.way rows f.list × (bytes ≡ spelling f.way f.list))
is_found rows bytes (Ok f) fits given = file_takes rows bytes f fits given
is_found rows bytes (Err why) fits given = tt

-- ---- bytes added one after the other

-- two fields, and what is added behind them
pub fielded : {E : Type 0} (r : Result (Unit {0}) E) (old a b c x y z p q : List ℕ) → a ≡ old ++ x → b ≡ a ++ y → OnOk r (c ≡ b ++ z) → x ≡ p → y ≡ q → OnOk r (c ≡ old ++ (p ++ q ++ z))
fielded (Err e) old a b c x y z p q ea eb ec ex ey = tt
fielded (Ok u) old a b c x y z p q ea eb ec ex ey =
    ec ∙ ap (λ (w : List ℕ). w ++ z) (eb ∙ ap (λ (w : List ℕ). w ++ y) ea) ∙ ap (λ (w : List ℕ). w ++ z) (append_assoc old x y) ∙ append_assoc old (x ++ y) z
    ∙ ap (λ (w : List ℕ). old ++ ((w ++ y) ++ z)) ex ∙ ap (λ (w : List ℕ). old ++ ((p ++ w) ++ z)) ey

-- ---- at what was read

pub read_found : (rows : ℕ) (bytes : List ℕ) (f : FileView) (way : Way) (list : List Delta) → IsBytes bytes → whole_at rows bytes ≡ Ok (record { way = way; list = list }) → f.way ≡ way → f.list ≡ list → FileFits f.way rows f.list × (bytes ≡ spelling f.way f.list)
read_found rows bytes f way list fits e a b = rw (a, b) (whole_takes rows bytes (record { way = way; list = list }) fits e)

same_file : (f : FileView) (way : Way) (list : List Delta) → f.way ≡ way → f.list ≡ list → record { way = way; list = list } ≡ f
same_file f way list a b = rw (← a, ← b) refl

only_one : (r : Result FileView ℕ) (f g : FileView) → r ≡ Ok f → r ≡ Ok g → f ≡ g
only_one r f g p q = ok_is f g (sym p ∙ q)

pub read_only : (rows : ℕ) (bytes : List ℕ) (f : FileView) (way : Way) (list : List Delta) (f' : FileView) → whole_at rows bytes ≡ Ok (record { way = way; list = list }) → f.way ≡ way → f.list ≡ list → FileFits f'.way rows f'.list → bytes ≡ spelling f'.way f'.list → f' ≡ f
read_only rows bytes f way list f' e a b fits is = only_one (whole_at rows bytes) f' (record { way = way; list = list }) (ap (whole_at rows) is ∙ whole_again rows f' fits) e ∙ same_file f way list a b

not_both : (r : Result FileView ℕ) (f : FileView) (left : ℕ) → r ≡ Ok f → r ≡ Err left → ⊥
not_both r f left p q = absurd cc

pub not_refused : (rows : ℕ) (bytes : List ℕ) (left : ℕ) (f : FileView) → whole_at rows bytes ≡ Err left → FileFits f.way rows f.list → bytes ≡ spelling f.way f.list → ⊥
not_refused rows bytes left f e fits is = not_both (whole_at rows bytes) f left (ap (whole_at rows) is ∙ whole_again rows f fits) e

-- one item more
pub one_more : {X : Type 0} (spelled : X → List ℕ) (xs : List X) (i : ℕ) (x : X) (old a b : List ℕ) → i < length xs → x ≡ get_or xs i x → a ≡ old ++ flat_map spelled (take i xs) → b ≡ a ++ spelled x → b ≡ old ++ flat_map spelled (take (i + 1) xs)
one_more {X} spelled xs i x old a b lt is so_far added =
    let last : take (i + 1) xs ≡ take i xs ++ x ∷ [] = take_more xs i x lt ∙ ap (λ (y : X). take i xs ++ y ∷ []) (sym is) in
    added ∙ ap (λ (r : List ℕ). r ++ spelled x) so_far ∙ flat_map_more spelled old (take i xs) x ∙ ap (λ (ys : List X). old ++ flat_map spelled ys) (sym last)
