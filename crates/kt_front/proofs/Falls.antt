-- Items that rise, one after the other.
use Rattle.std.proofs.Common.{◌≡◌, ℕ, zero, suc, ◌+◌, ◌-◌, ◌^◌, ◌<◌, ◌≤◌, Bool, true, false, List, [], ◌∷◌, ◌++◌, length, take, drop, get_or, Ok, Err, refl, sym, ap, subst, ◌∙◌, append_assoc, arith, inl, inr, length-append}
use Rattle.std.specs.Prelude.{Option, Some}
use Rattle.std.proofs.lemmas.Bool.{cases_lt}
use Rattle.std.proofs.lemmas.List.{drop_at, length-take-le, length_push, get_or-take, take_all, take_at}
use Rattle.kt_bytes.proofs.Numbers.{IsBytes, IsBytes-drop, ok_is}
use Rattle.kt_bytes.proofs.Faults.{never_err}
use Rattle.kt_bytes.specs.Cuts.{last}
use Rattle.kt_front.specs.Spelling.{base, cell, spelling}
use Rattle.kt_front.specs.Walk.{cell_at, items_at}
use Rattle.kt_front.specs.Walking.{behind, before_at}
use Rattle.kt_front.specs.Order.{bound, last_item, IsAbove, Rise, BeginsWith, IsFall, NoneFalls}
use Rattle.kt_front.proofs.Fields.{cell_takes, cell_again}
use Rattle.kt_front.proofs.Cells.{AllShort, last_or, last_or-nil, spelling_push, base_same, short_front, short_at, short_push}
use Rattle.kt_front.proofs.Walk.{behind_step, spelling-split}
use Rattle.kt_front.proofs.Blocks.{items_again}

rise_push : (before : Option (List ℕ)) (xs : List (List ℕ)) (x : List ℕ) → Rise before xs → IsAbove (last_item before xs) x → Rise before (xs ++ x ∷ [])
rise_push before [] x rise above = (above, tt)
rise_push before (y ∷ xs) x rise above = (rise.0, rise_push (Some y) xs x rise.1 above)

rise_last : (before : Option (List ℕ)) (xs : List (List ℕ)) (x : List ℕ) → Rise before (xs ++ x ∷ []) → IsAbove (last_item before xs) x
rise_last before [] x rise = rise.0
rise_last before (y ∷ xs) x rise = rise_last (Some y) xs x rise.1

pub rise_front : (k : ℕ) (before : Option (List ℕ)) (xs : List (List ℕ)) → Rise before xs → Rise before (take k xs)
rise_front zero before xs rise = tt
rise_front (suc k) before [] rise = tt
rise_front (suc k) before (x ∷ xs) rise = (rise.0, rise_front k (Some x) xs rise.1)

pub rise_append : (before : Option (List ℕ)) (xs ys : List (List ℕ)) → Rise before xs → Rise (last_item before xs) ys → Rise before (xs ++ ys)
rise_append before [] ys p q = q
rise_append before (x ∷ xs) ys p q = (p.0, rise_append (Some x) xs ys p.1 q)

pub rise_back : (before : Option (List ℕ)) (xs ys : List (List ℕ)) → Rise before (xs ++ ys) → Rise (last_item before xs) ys
rise_back before [] ys p = p
rise_back before (x ∷ xs) ys p = rise_back (Some x) xs ys p.1

last_push : (before : Option (List ℕ)) (xs : List (List ℕ)) (x : List ℕ) → last_item before (xs ++ x ∷ []) ≡ Some x
last_push before [] x = refl
last_push before (y ∷ xs) x = last_push (Some y) xs x

last_some : (y : List ℕ) (xs : List (List ℕ)) → last_item (Some y) xs ≡ Some (last_or y xs)
unfolding last_or
last_some y [] = refl
last_some y (x ∷ xs) = last_some x xs

pub last_is : (before : Option (List ℕ)) (xs : List (List ℕ)) → 0 < length xs → last_item before xs ≡ Some (last xs)
unfolding last_or
last_is before [] some = absurd (omega arith)
last_is before (x ∷ xs) some = last_some x xs ∙ ap (λ (y : List ℕ). Some y) (last_or-nil (x ∷ xs))

-- ---- what bytes begin with

reads_again : (most : ℕ) (xs : List (List ℕ)) (bytes rest : List ℕ) → most < 2 ^ 32 → AllShort most xs → bytes ≡ spelling xs ++ rest → items_at most (length xs) 0 [] bytes ≡ Ok (xs, rest)
unfolding spelling
reads_again most xs bytes rest room short parts = ap (items_at most (length xs) 0 []) parts ∙ items_again most 0 [] xs rest room short

-- fewer items that the bytes begin with are the first of more
record Fewer (xs ys : List (List ℕ)) (r s : List ℕ) : Type 0 where
  pub is : xs ≡ take (length xs) ys
  pub rest : r ≡ behind (length xs) 0 [] ys ++ s

fewer : (most : ℕ) (xs ys : List (List ℕ)) (bytes r s : List ℕ) → most < 2 ^ 32 → AllShort most xs → AllShort most ys → bytes ≡ spelling xs ++ r → bytes ≡ spelling ys ++ s → length xs ≤ length ys → Fewer xs ys r s
fewer most xs ys bytes r s room p q e f le =
    let k : ℕ = length xs in
    let front : List (List ℕ) = take k ys in
    let count : length front ≡ k = length-take-le k ys le in
    let split : bytes ≡ spelling front ++ (behind k 0 [] ys ++ s) = f ∙ (ap (λ (t : List ℕ). t ++ s) (spelling-split ys k le) ∙ append_assoc (spelling front) (behind k 0 [] ys) s) in
    let mine : items_at most k 0 [] bytes ≡ Ok (xs, r) = reads_again most xs bytes r room p e in
    let others : items_at most k 0 [] bytes ≡ Ok (front, behind k 0 [] ys ++ s) = ap (λ (n : ℕ). items_at most n 0 [] bytes) (sym count) ∙ reads_again most front bytes (behind k 0 [] ys ++ s) room (short_front most k ys q) split in
    let same : (xs, r) ≡ (front, behind k 0 [] ys ++ s) = ok_is (xs, r) (front, behind k 0 [] ys ++ s) (sym mine ∙ others) in
    record { is = ap (λ (x : List (List ℕ) × List ℕ). x.0) same; rest = ap (λ (x : List (List ℕ) × List ℕ). x.1) same }

-- ---- so far

-- so many items were read, which rise, and this is the last of them or what was before
pub record Reached (most i : ℕ) (before : Option (List ℕ)) (bytes : List ℕ) (some : Bool) (last rest : List ℕ) : Type 0 where
  pub items : List (List ℕ)
  pub count : length items ≡ i
  pub short : AllShort most items
  pub parts : bytes ≡ spelling items ++ rest
  pub rise : Rise before items
  pub end : last_item before items ≡ bound some last

pub reached_none : (most : ℕ) (bytes last : List ℕ) (some : Bool) → Reached most 0 (bound some last) bytes some last bytes
unfolding spelling
reached_none most bytes last some = record { items = []; count = refl; short = tt; parts = refl; rise = tt; end = refl }

bound_is : (some : Bool) (l x : List ℕ) → Some x ≡ bound some l → x ≡ l
bound_is true l x e = cc
bound_is false l x e = absurd cc

-- what the next cell may share bytes with
base_is : (most i : ℕ) (before : Option (List ℕ)) (bytes l rest : List ℕ) (some : Bool) (r : Reached most i before bytes some l rest) → base i l ≡ base (length r.items) (last r.items)
base_is most i before bytes l rest some r =
    ap (λ (k : ℕ). base k l) (sym r.count) ∙ base_same (length r.items) l (last r.items) (λ lt. sym (bound_is some l (last r.items) (sym (last_is before r.items lt) ∙ r.end)))

pub reached_more : (most i : ℕ) (before : Option (List ℕ)) (bytes l rest x after : List ℕ) (some : Bool) → IsBytes rest → Reached most i before bytes some l rest → cell_at most (base i l) rest ≡ Ok (x, after) → IsAbove (bound some l) x → Reached most (i + 1) before bytes true x after
reached_more most i before bytes l rest x after some fits r read above =
    let b = base_is most i before bytes l rest some r in
    let t = cell_takes most (base i l) rest (x, after) fits read in
    let new : spelling (r.items ++ x ∷ []) ≡ spelling r.items ++ cell (base i l) x = spelling_push r.items x ∙ ap (λ (w : List ℕ). spelling r.items ++ cell w x) (sym b) in
    record {
      items = r.items ++ x ∷ [];
      count = omega (arith, r.count, length_push r.items x);
      short = short_push most r.items x r.short t.fits;
      parts = r.parts ∙ (ap (λ (t : List ℕ). spelling r.items ++ t) t.takes.parts ∙ (sym (append_assoc (spelling r.items) (cell (base i l) x) after) ∙ ap (λ (t : List ℕ). t ++ after) (sym new)));
      rise = rise_push before r.items x r.rise (subst (λ (o : Option (List ℕ)). IsAbove o x) (sym r.end) above);
      end = last_push before r.items x;
    }

pub rest_bytes : (most i : ℕ) (before : Option (List ℕ)) (bytes l rest : List ℕ) (some : Bool) → IsBytes bytes → Reached most i before bytes some l rest → IsBytes rest
rest_bytes most i before bytes l rest some fits r =
    let is : drop (length (spelling r.items)) bytes ≡ rest = ap (drop (length (spelling r.items))) r.parts ∙ drop_at (spelling r.items) rest (length (spelling r.items)) refl in
    subst IsBytes is (IsBytes-drop (length (spelling r.items)) bytes fits)

pub rest_within : (most i : ℕ) (before : Option (List ℕ)) (bytes l rest : List ℕ) (some : Bool) → Reached most i before bytes some l rest → length rest ≤ length bytes
rest_within most i before bytes l rest some r = omega (arith, ap length r.parts, length-append (spelling r.items) rest)

-- ---- the answers

pub fall_here : (most i n : ℕ) (before : Option (List ℕ)) (bytes l rest x after : List ℕ) (some : Bool) (at : ℕ) → i < n → IsBytes rest → Reached most i before bytes some l rest → cell_at most (base i l) rest ≡ Ok (x, after) → (IsAbove (bound some l) x → ⊥)
    → at + length rest ≡ length bytes → IsFall most n before bytes at
fall_here most i n before bytes l rest x after some at lt fits r read not_above place =
    let b = base_is most i before bytes l rest some r in
    let t = cell_takes most (base i l) rest (x, after) fits read in
    let new : spelling (r.items ++ x ∷ []) ≡ spelling r.items ++ cell (base i l) x = spelling_push r.items x ∙ ap (λ (w : List ℕ). spelling r.items ++ cell w x) (sym b) in
    record {
      items = r.items;
      item = x;
      begins = record {
        fits = record { each = short_push most r.items x r.short t.fits };
        rest = after;
        parts = r.parts ∙ (ap (λ (t : List ℕ). spelling r.items ++ t) t.takes.parts ∙ (sym (append_assoc (spelling r.items) (cell (base i l) x) after) ∙ ap (λ (t : List ℕ). t ++ after) (sym new)));
      };
      few = omega (arith, r.count);
      rise = r.rise;
      falls = λ rise. not_above (subst (λ (o : Option (List ℕ)). IsAbove o x) r.end (rise_last before r.items x rise));
      place = omega (arith, ap length r.parts, length-append (spelling r.items) rest);
    }

-- no more items than were read rise
read_rise : (most i : ℕ) (before : Option (List ℕ)) (bytes l rest : List ℕ) (some : Bool) (items : List (List ℕ)) → most < 2 ^ 32 → Reached most i before bytes some l rest → length items ≤ i → BeginsWith most bytes items → Rise before items
read_rise most i before bytes l rest some items room r le b =
    let f = fewer most items r.items bytes b.rest rest room b.fits.each r.short b.parts r.parts (omega (arith, r.count)) in
    subst (Rise before) (sym f.is) (rise_front (length items) before r.items r.rise)

pub none_left : (most i n : ℕ) (before : Option (List ℕ)) (bytes l rest : List ℕ) (some : Bool) → most < 2 ^ 32 → n ≤ i → Reached most i before bytes some l rest → NoneFalls most n before bytes
none_left most i n before bytes l rest some room le r items few b = read_rise most i before bytes l rest some items room r (omega arith) b

-- where no cell can be read, no more items stand
no_cell : (most i : ℕ) (before : Option (List ℕ)) (bytes l rest : List ℕ) (some : Bool) (left : ℕ) (items : List (List ℕ)) → most < 2 ^ 32 → Reached most i before bytes some l rest → cell_at most (base i l) rest ≡ Err left → i < length items → BeginsWith most bytes items → ⊥
no_cell most i before bytes l rest some left items room r read lt b =
    let k : ℕ = length r.items in
    let f = fewer most r.items items bytes rest b.rest room r.short b.fits.each r.parts b.parts (omega (arith, r.count)) in
    let more : k < length items = omega (arith, r.count) in
    let x : List ℕ = get_or items k [] in
    let w : List ℕ = base (0 + k) (before_at k [] items) in
    let tail : List ℕ = behind (suc k) 0 [] items ++ b.rest in
    let parts : rest ≡ cell w x ++ tail = f.rest ∙ (ap (λ (t : List ℕ). t ++ b.rest) (behind_step k 0 [] items more) ∙ append_assoc (cell w x) (behind (suc k) 0 [] items) b.rest) in
    let again : cell_at most w rest ≡ Ok (x, tail) = ap (cell_at most w) parts ∙ cell_again most w x tail room (short_at most k items b.fits.each more) in
    let same : w ≡ base i l = ap (λ (j : ℕ). base j (before_at k [] items)) zero_more ∙ (base_same k (before_at k [] items) (last r.items) (λ some. before_last k items r.items some f.is refl) ∙ sym (base_is most i before bytes l rest some r)) in
    never_err (x, tail) left (sym again ∙ (ap (λ (v : List ℕ). cell_at most v rest) same ∙ read))
  where
    zero_more : 0 + length r.items ≡ length r.items
    zero_more = omega arith

    before_last : (k : ℕ) (items front : List (List ℕ)) → 0 < k → front ≡ take (length front) items → length front ≡ k → before_at k [] items ≡ last front
    before_last zero items front some is count = absurd (omega arith)
    before_last (suc j) items front some is count =
        let at : length front - 1 ≡ j = omega arith in
        let within : get_or (take (length front) items) j [] ≡ get_or items j [] = get_or-take (length front) items j [] (omega arith) in
        sym (ap (λ (m : ℕ). get_or front m []) at ∙ (ap (λ (xs : List (List ℕ)). get_or xs j []) is ∙ within))

pub none_there : (most i n : ℕ) (before : Option (List ℕ)) (bytes l rest : List ℕ) (some : Bool) (left : ℕ) → most < 2 ^ 32 → Reached most i before bytes some l rest → cell_at most (base i l) rest ≡ Err left → NoneFalls most n before bytes
none_there most i n before bytes l rest some left room r read items few b =
    elim (cases_lt i (length items)) [
      | inl lt ↦ absurd (no_cell most i before bytes l rest some left items room r read lt b)
      | inr le ↦ read_rise most i before bytes l rest some items room r le b
    ]

-- n items that the bytes begin with, and that rise, leave no fall
pub no_fall : (most n : ℕ) (before : Option (List ℕ)) (bytes : List ℕ) (at : ℕ) (items : List (List ℕ)) → most < 2 ^ 32 → BeginsWith most bytes items → length items ≡ n → Rise before items → IsFall most n before bytes at → ⊥
no_fall most n before bytes at items room b count rise f =
    let front : List (List ℕ) = f.items ++ f.item ∷ [] in
    let e = fewer most front items bytes f.begins.rest b.rest room f.begins.fits.each b.fits.each f.begins.parts b.parts (omega (arith, count, f.few, length_push f.items f.item)) in
    f.falls (subst (Rise before) (sym e.is) (rise_front (length front) before items rise))

pub fall_place : (most n : ℕ) (before : Option (List ℕ)) (bytes : List ℕ) (at : ℕ) → IsFall most n before bytes at → at ≤ length bytes
fall_place most n before bytes at f =
    let whole : length bytes ≡ length (spelling (f.items ++ f.item ∷ [])) + length f.begins.rest = ap length f.begins.parts ∙ length-append (spelling (f.items ++ f.item ∷ [])) f.begins.rest in
    let front : length (spelling (f.items ++ f.item ∷ [])) ≡ length (spelling f.items) + length (cell (base (length f.items) (last f.items)) f.item) = ap length (spelling_push f.items f.item) ∙ length-append (spelling f.items) (cell (base (length f.items) (last f.items)) f.item) in
    omega (arith, f.place)

-- ---- the first one that falls is one

short_fore : (most : ℕ) (xs ys : List (List ℕ)) → AllShort most (xs ++ ys) → AllShort most xs
short_fore most [] ys all = tt
short_fore most (x ∷ xs) ys all = (all.0, short_fore most xs ys all.1)

earlier : (most n : ℕ) (before : Option (List ℕ)) (bytes : List ℕ) (a b : ℕ) → most < 2 ^ 32 → (f : IsFall most n before bytes a) (g : IsFall most n before bytes b) → length f.items < length g.items → ⊥
earlier most n before bytes a b room f g lt =
    let mine : List (List ℕ) = f.items ++ f.item ∷ [] in
    let c : List ℕ = cell (base (length g.items) (last g.items)) g.item in
    let parts : bytes ≡ spelling g.items ++ (c ++ g.begins.rest) = g.begins.parts ∙ (ap (λ (t : List ℕ). t ++ g.begins.rest) (spelling_push g.items g.item) ∙ append_assoc (spelling g.items) c g.begins.rest) in
    let e = fewer most mine g.items bytes f.begins.rest (c ++ g.begins.rest) room f.begins.fits.each (short_fore most g.items (g.item ∷ []) g.begins.fits.each) f.begins.parts parts (omega (arith, length_push f.items f.item)) in
    f.falls (subst (Rise before) (sym e.is) (rise_front (length mine) before g.items g.rise))

pub fall_once : (most n : ℕ) (before : Option (List ℕ)) (bytes : List ℕ) (a b : ℕ) → most < 2 ^ 32 → IsFall most n before bytes a → IsFall most n before bytes b → a ≡ b
fall_once most n before bytes a b room f g =
    elim (cases_lt (length f.items) (length g.items)) [
      | inl lt ↦ absurd (earlier most n before bytes a b room f g lt)
      | inr ge ↦ elim (cases_lt (length g.items) (length f.items)) [
        | inl lt ↦ absurd (earlier most n before bytes b a room g f lt)
        | inr le ↦
            let mine : List (List ℕ) = f.items ++ f.item ∷ [] in
            let others : List (List ℕ) = g.items ++ g.item ∷ [] in
            let size : length mine ≡ length others = omega (arith, length_push f.items f.item, length_push g.items g.item) in
            let e = fewer most mine others bytes f.begins.rest g.begins.rest room f.begins.fits.each g.begins.fits.each f.begins.parts g.begins.parts (omega arith) in
            let whole : mine ≡ others = e.is ∙ (ap (λ (k : ℕ). take k others) size ∙ take_all (length others) others (omega arith)) in
            let k : ℕ = length g.items in
            let same : f.items ≡ g.items = sym (take_at f.items (f.item ∷ []) k (omega arith)) ∙ (ap (take k) whole ∙ take_at g.items (g.item ∷ []) k refl) in
            f.place ∙ (ap (λ (xs : List (List ℕ)). length (spelling xs)) same ∙ sym g.place)
      ]
    ]
