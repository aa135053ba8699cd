-- What is read is spelled so, and what is spelled so is read; and a block as it is held.
use Rattle.std.proofs.Common.{◌≡◌, ℕ, zero, suc, ◌+◌, ◌-◌, ◌%◌, ◌^◌, ◌<◌, true, cond, eqb, List, [], ◌∷◌, ◌++◌, length, get_or, take, drop, Result, Ok, Err, refl, sym, ap, subst, ◌∙◌, append_assoc, arith, lit≤}
use Rattle.std.specs.Prelude.{◌==◌}
use Rattle.std.proofs.lemmas.Bool.{eqb-true}
use Rattle.std.proofs.lemmas.List.{append-nil, nil_from_length, length-take-le, get_or-take, get_or-drop, length-drop, take-append-drop}
use Rattle.kt_bytes.specs.Reading.{◌>>=◌}
use Rattle.kt_bytes.proofs.Numbers.{IsBytes, Takes, Takes-then, bind_ok, ok_is, pass_ok}
use Rattle.kt_front.specs.Spelling.{shared, base, cell, cells, spelling, Fits}
use Rattle.kt_front.specs.Reading.{Spells, SpellsWithin}
use Rattle.kt_front.specs.Walk.{cell_at, items_at, block_at, behind_of, ended_of}
use Rattle.kt_front.specs.Walking.{IsBlock, behind, before_at, AreStarts}
use Rattle.kt_front.specs.Items.{list_of, items_in, firsts_of, item_in, StandsIn, IsHeld}
use Rattle.kt_front.proofs.Fields.{cell_takes, cell_again}
use Rattle.kt_front.proofs.Walk.{cells_split, block_behind}
use Rattle.kt_front.proofs.Cells.{take-base, AllShort, short_front, short_more}
use Rattle.kt_front.proofs.Shared.{shared-le, shared_front}

pub items_take : (most n i : ℕ) (before bytes : List ℕ) (x : List (List ℕ) × List ℕ) → IsBytes bytes → items_at most n i before bytes ≡ Ok x → Takes bytes (cells i before x.0) x.1 × (length x.0 ≡ n) × AllShort most x.0
unfolding items_at
items_take most zero i before bytes x fits e =
    subst (λ (y : List (List ℕ) × List ℕ). Takes bytes (cells i before y.0) y.1 × (length y.0 ≡ 0) × AllShort most y.0) (ok_is ([], bytes) x e) (record { parts = refl; rest_fits = fits }, refl, tt)
items_take most (suc n) i before bytes x fits e =
    let a = bind_ok (cell_at most (base i before) bytes) (λ first. items_at most n (suc i) first.0 first.1 >>= λ others. Ok (first.0 ∷ others.0, others.1)) x e in
    let b = bind_ok (items_at most n (suc i) a.0.0 a.0.1) (λ others. Ok (a.0.0 ∷ others.0, others.1)) x a.2 in
    let first = cell_takes most (base i before) bytes a.0 fits a.1 in
    let second = items_take most n (suc i) a.0.0 a.0.1 b.0 first.takes.rest_fits b.1 in
    let both = Takes-then bytes (cell (base i before) a.0.0) a.0.1 (cells (suc i) a.0.0 b.0.0) b.0.1 first.takes second.0 in
    let made : List (List ℕ) × List ℕ = (a.0.0 ∷ b.0.0, b.0.1) in
    subst (λ (y : List (List ℕ) × List ℕ). Takes bytes (cells i before y.0) y.1 × (length y.0 ≡ suc n) × AllShort most y.0) (ok_is made x b.2) (both, ap suc second.1, (first.fits, second.2))

pub items_again : (most i : ℕ) (before : List ℕ) (items : List (List ℕ)) (rest : List ℕ) → most < 2 ^ 32 → AllShort most items → items_at most (length items) i before (cells i before items ++ rest) ≡ Ok (items, rest)
unfolding items_at
items_again most i before [] rest room fits = refl
items_again most i before (x ∷ items) rest room fits =
    let regrouped : cells i before (x ∷ items) ++ rest ≡ cell (base i before) x ++ (cells (suc i) x items ++ rest) = append_assoc (cell (base i before) x) (cells (suc i) x items) rest in
    ap (items_at most (suc (length items)) i before) regrouped ∙ rw (cell_again most (base i before) x (cells (suc i) x items ++ rest) room fits.0, items_again most (suc i) x items rest room fits.1) refl

pub block_takes : (most n : ℕ) (bytes : List ℕ) (items : List (List ℕ)) → IsBytes bytes → block_at most n bytes ≡ Ok items → SpellsWithin most bytes n items
unfolding block_at spelling
block_takes most n bytes items fits e =
    let a = bind_ok (items_at most n 0 [] bytes) (λ all. cond (eqb (length all.1) 0) (Ok all.0) (Err (length all.1))) items e in
    let g = pass_ok (eqb (length a.0.1) 0) (length a.0.1) a.0.0 items a.2 in
    let t = items_take most n 0 [] bytes a.0 fits a.1 in
    let nothing : a.0.1 ≡ [] = nil_from_length a.0.1 (eqb-true _ _ g.0) in
    let whole : bytes ≡ cells 0 [] a.0.0 = t.0.parts ∙ (ap (λ (r : List ℕ). cells 0 [] a.0.0 ++ r) nothing ∙ append-nil (cells 0 [] a.0.0)) in
    subst (SpellsWithin most bytes n) g.1 (record { count = t.1; fits = record { each = t.2 }; parts = whole })

pub block_again : (most : ℕ) (items : List (List ℕ)) → most < 2 ^ 32 → AllShort most items → block_at most (length items) (spelling items) ≡ Ok items
unfolding block_at spelling
block_again most items room short =
    let read : items_at most (length items) 0 [] (cells 0 [] items) ≡ Ok (items, []) = ap (items_at most (length items) 0 []) (sym (append-nil (cells 0 [] items))) ∙ items_again most 0 [] items [] room short in
    rw read refl

-- ---- what is held

spelled_read : (most : ℕ) (bytes : List ℕ) (n : ℕ) (items : List (List ℕ)) → most < 2 ^ 32 → SpellsWithin most bytes n items → block_at most n bytes ≡ Ok items
spelled_read most bytes n items room spelled = ap (λ (b : List ℕ). block_at most n b) spelled.parts ∙ (ap (λ (k : ℕ). block_at most k (spelling items)) (sym spelled.count) ∙ block_again most items room spelled.fits.each)

-- what is within a limit has a spelling
pub spells_any : (most : ℕ) (bytes : List ℕ) (n : ℕ) (items : List (List ℕ)) → most < 2 ^ 32 → SpellsWithin most bytes n items → Spells bytes n items
spells_any most bytes n items room s = record { count = s.count; fits = record { each = short_more most 4294967295 items (omega arith) s.fits.each }; parts = s.parts }

pub one_list : (bytes : List ℕ) (n : ℕ) (a b : List (List ℕ)) → Spells bytes n a → Spells bytes n b → a ≡ b
one_list bytes n a b p q = ok_is a b (sym (spelled_read 4294967295 bytes n a (lit≤ tt) p) ∙ spelled_read 4294967295 bytes n b (lit≤ tt) q)

pub items_are : (most : ℕ) (bytes : List ℕ) (n : ℕ) (items : List (List ℕ)) → most < 2 ^ 32 → SpellsWithin most bytes n items → items_in n bytes ≡ items
items_are most bytes n items room spelled = ap list_of (spelled_read 4294967295 bytes n items (lit≤ tt) (spells_any most bytes n items room spelled))

-- all of the bytes were read
pub whole_read : (most n : ℕ) (bytes : List ℕ) → most < 2 ^ 32 → IsBytes bytes → ended_of (behind_of (items_at most n 0 [] bytes)) ≡ Ok 0 → SpellsWithin most bytes n (items_in n bytes)
unfolding block_at
whole_read most n bytes room fits e = at (items_at most n 0 [] bytes) refl e
  where
    none_left : (x : List (List ℕ) × List ℕ) → items_at most n 0 [] bytes ≡ Ok x → (length x.1 == 0) ≡ true → SpellsWithin most bytes n (items_in n bytes)
    none_left x read none =
        let whole : block_at most n bytes ≡ Ok x.0 = rw read (rw none refl) in
        let t = block_takes most n bytes x.0 fits whole in
        subst (SpellsWithin most bytes n) (sym (items_are most bytes n x.0 room t)) t

    at : (r : Result (List (List ℕ) × List ℕ) ℕ) → items_at most n 0 [] bytes ≡ r → ended_of (behind_of r) ≡ Ok 0 → SpellsWithin most bytes n (items_in n bytes)
    at (Ok x) read same = none_left x read (pass_ok (length x.1 == 0) (length x.1) 0 0 same).0
    at (Err left) read same = absurd (let never : Err left ≡ Ok 0 = same in cc)

-- what is spelled leaves no bytes, and no fault
pub spelled_behind : (most n : ℕ) (bytes : List ℕ) (items : List (List ℕ)) → most < 2 ^ 32 → SpellsWithin most bytes n items → ended_of (behind_of (items_at most n 0 [] bytes)) ≡ Ok 0
unfolding spelling
spelled_behind most n bytes items room s =
    let parts : bytes ≡ cells 0 [] items ++ [] = s.parts ∙ sym (append-nil (cells 0 [] items)) in
    ap (λ (b : List ℕ). ended_of (behind_of (items_at most n 0 [] b))) parts ∙ (ap (λ (k : ℕ). ended_of (behind_of (items_at most k 0 [] (cells 0 [] items ++ [])))) (sym s.count) ∙ ap (λ (r : Result (List (List ℕ) × List ℕ) ℕ). ended_of (behind_of r)) (items_again most 0 [] items [] room s.fits.each))

-- the item at a place of a block is that of its list
pub item_is : (items : List (List ℕ)) (k : ℕ) (bytes : List ℕ) → IsBlock bytes items → k < length items → item_in k bytes ≡ get_or items k []
unfolding spelling
item_is items k bytes block lt =
    let front : List (List ℕ) = take (suc k) items in
    let count : length front ≡ suc k = length-take-le (suc k) items (omega arith) in
    let split : bytes ≡ cells 0 [] front ++ behind (suc k) 0 [] items = block.parts ∙ cells_split (suc k) 0 [] items (omega arith) in
    let read : items_at 4294967295 (suc k) 0 [] bytes ≡ Ok (front, behind (suc k) 0 [] items) = ap (items_at 4294967295 (suc k) 0 []) split ∙ (ap (λ (n : ℕ). items_at 4294967295 n 0 [] (cells 0 [] front ++ behind (suc k) 0 [] items)) (sym count) ∙ items_again 4294967295 0 [] front (behind (suc k) 0 [] items) (lit≤ tt) (short_front 4294967295 (suc k) items block.fits.each)) in
    ap (λ (r : Result (List (List ℕ) × List ℕ) ℕ). get_or (firsts_of r) k []) read ∙ get_or-take (suc k) items k [] (omega arith)

-- an item where its stretch begins
pub stretch_stands : (items : List (List ℕ)) (i : ℕ) (stretch : List ℕ) → Fits items → i < length items → stretch ≡ behind (i - i % 16) 0 [] items → StandsIn (i % 16) stretch
stretch_stands items i stretch fits lt is =
    let n : ℕ = i - i % 16 in
    record { items = drop n items; block = block_behind items n stretch fits (omega arith) (omega arith) is; there = omega (arith, length-drop n items) }

pub stretch_item : (items : List (List ℕ)) (i : ℕ) (stretch : List ℕ) → Fits items → i < length items → stretch ≡ behind (i - i % 16) 0 [] items → item_in (i % 16) stretch ≡ get_or items i []
stretch_item items i stretch fits lt is =
    let n : ℕ = i - i % 16 in
    let at : n + i % 16 ≡ i = omega arith in
    item_is (drop n items) (i % 16) stretch (block_behind items n stretch fits (omega arith) (omega arith) is) (omega (arith, length-drop n items))
    ∙ (get_or-drop n items (i % 16) [] ∙ ap (λ k. get_or items k []) at)

-- an item from its cell and the item before
pub item_step : (items : List (List ℕ)) (j s : ℕ) (rest out : List ℕ) → s ≡ shared (base j (before_at j [] items)) (get_or items j []) → rest ≡ drop (shared (base j (before_at j [] items)) (get_or items j [])) (get_or items j []) → out ≡ before_at j [] items
    → take s out ++ rest ≡ get_or items j []
item_step items j s rest out is rest_is out_is =
    let b : List ℕ = before_at j [] items in
    let w : List ℕ = base j b in
    let x : List ℕ = get_or items j [] in
    let k : ℕ = shared w x in
    let front : take k b ≡ take k x = sym (take-base k j b (shared-le w x).0) ∙ shared_front w x in
    ap (λ (n : ℕ). take n out ++ rest) is ∙ (ap (λ (t : List ℕ). take k t ++ rest) out_is ∙ (ap (λ (t : List ℕ). take k b ++ t) rest_is ∙ (ap (λ (t : List ℕ). t ++ drop k x) front ∙ take-append-drop k x)))

-- how long an item is
pub item_len : (w x rest : List ℕ) (s : ℕ) → s ≡ shared w x → rest ≡ drop (shared w x) x → s + length rest ≡ length x
item_len w x rest s is rest_is = omega (arith, ap length rest_is, length-drop (shared w x) x, shared-le w x)

-- what was read can be held
pub held : (n : ℕ) (bytes copy starts : List ℕ) → n < 2 ^ 32 → copy ≡ bytes → Spells bytes n (items_in n bytes) → ((items : List (List ℕ)) → Spells bytes n items → AreStarts starts items) → IsHeld n copy starts
held n bytes copy starts lt same s are = subst (λ (b : List ℕ). IsHeld n b starts) (sym same) (record { few = lt; spells = s; starts_are = are (items_in n bytes) s })
