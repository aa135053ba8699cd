-- What is read is spelled so, and what is spelled so is read.
use Rattle.std.proofs.Common.{◌≡◌, ℕ, zero, suc, ◌+◌, ◌^◌, ◌<◌, ◌≤◌, Bool, true, false, cond, eqb, List, [], ◌∷◌, ◌++◌, length, get_or, take, map, Ok, Err, refl, sym, ap, subst, ◌∙◌, append_assoc, arith}
use Rattle.std.specs.List.{flat_map, AllByRecursion}
use Rattle.std.proofs.lemmas.Bool.{eqb-true}
use Rattle.std.proofs.lemmas.List.{append-nil, nil_from_length, take_all, length-map}
use Rattle.std.proofs.lemmas.List.Concat.{flat_map-cons}
use Rattle.kt_bytes.specs.Reading.{◌>>=◌, checked_at}
use Rattle.std.specs.Int.{w16}
use Rattle.kt_bytes.proofs.Numbers.{IsBytes, bind_ok, guard_ok, pass_ok, ok_is, then_is, Takes, Takes-then}
use Rattle.kt_dict.specs.Spelling.{has, place, entries_after, dictionary, short, code, spelling, FitsWithin, AreBytes}
use Rattle.kt_dict.specs.Writing.{text}
use Rattle.kt_dict.specs.Items.{IsHeld, items_of}
use Rattle.kt_dict.specs.Reading.{SpellsWithin}
use Rattle.kt_dict.specs.Walk.{text_at, entry_at, is_count, count_at, entries_at, is_code, code_at, used_with, codes_at, block_at}
use Rattle.kt_dict.proofs.Words.{Own, own_nil, own_after, place-le, after_grows}
use Rattle.kt_dict.proofs.Fields.{Taken, text_takes, text_again, short_takes, short_passes, spelling_is}
use Rattle.kt_dict.proofs.Fresh.{Limit, Good, good_nil, good_push, fresh_length, can_length, upto_test}
use Rattle.kt_dict.proofs.Places.{counted, again_step, code_step, Coded, coded_step, new_one, below_test}

-- ---- entries

pub record Entered (most : ℕ) (known : List (List ℕ)) (bytes : List ℕ) (x : List ℕ × List ℕ) : Type 0 where
  pub taken : Taken most known bytes x
  pub is_new : has known x.0 ≡ false

pub entry_takes : (most : ℕ) (known : List (List ℕ)) (bytes : List ℕ) (x : List ℕ × List ℕ) → IsBytes bytes → entry_at most known bytes ≡ Ok x → Entered most known bytes x
unfolding entry_at
entry_takes most known bytes x fits e =
    let a = bind_ok (text_at most known bytes) (λ y. cond (has known y.0) (Err (length y.0 + length y.1)) (Ok y)) x e in
    let g = guard_ok (has known a.0.0) (length a.0.0 + length a.0.1) a.0 x a.2 in
    subst (Entered most known bytes) g.1 (record { taken = text_takes most known bytes a.0 fits a.1; is_new = g.0 })

entry_again : (most : ℕ) (known : List (List ℕ)) (x rest : List ℕ) → most < 2 ^ 32 → length x ≤ most → AreBytes x → has known x ≡ false → entry_at most known (text x ++ rest) ≡ Ok (x, rest)
unfolding entry_at
entry_again most known x rest room lt bytes new =
    then_is (text_at most known (text x ++ rest)) (λ y. cond (has known y.0) (Err (length y.0 + length y.1)) (Ok y)) (x, rest) (text_again most known x rest (omega arith) (can_length most known (length x) lt (fresh_length known x bytes new)))
    ∙ ap (λ (b : Bool). cond b (Err (length x + length rest)) (Ok (x, rest))) new

-- the entries that were read behind those that were known
pub record Entries (most n : ℕ) (known all : List (List ℕ)) (bytes rest : List ℕ) : Type 0 where
  pub more : List (List ℕ)
  pub is : all ≡ known ++ more
  pub count : length more ≡ n
  pub good : Good most all
  pub takes : Takes bytes (flat_map text more) rest

pub entries_take : (most n : ℕ) (known : List (List ℕ)) (bytes : List ℕ) (x : List (List ℕ) × List ℕ) → IsBytes bytes → Good most known → entries_at most n known bytes ≡ Ok x → Entries most n known x.0 bytes x.1
unfolding entries_at
entries_take most zero known bytes x fits good e =
    subst (λ (y : List (List ℕ) × List ℕ). Entries most 0 known y.0 bytes y.1) (ok_is (known, bytes) x e) (record { more = []; is = sym (append-nil known); count = refl; good = good; takes = record { parts = refl; rest_fits = fits } })
entries_take most (suc n) known bytes x fits good e =
    let a = bind_ok (entry_at most known bytes) (λ y. entries_at most n (known ++ y.0 ∷ []) y.1) x e in
    let y = a.0 in
    let t = entry_takes most known bytes y fits a.1 in
    let r = entries_take most n (known ++ y.0 ∷ []) y.1 x t.taken.takes.rest_fits (good_push known y.0 good t.is_new t.taken.short t.taken.bytes_fit) a.2 in
    record {
      more = y.0 ∷ r.more;
      is = r.is ∙ append_assoc known (y.0 ∷ []) r.more;
      count = ap suc r.count;
      good = r.good;
      takes = rw flat_map-cons (Takes-then bytes (text y.0) y.1 (flat_map text r.more) x.1 t.taken.takes r.takes);
    }

pub entries_again : (most : ℕ) (more known : List (List ℕ)) (rest : List ℕ) → most < 2 ^ 32 → Own (known ++ more) → AllByRecursion (λ x. length x ≤ most) more → AllByRecursion AreBytes more → entries_at most (length more) known (flat_map text more ++ rest) ≡ Ok (known ++ more, rest)
unfolding entries_at
entries_again most [] known rest room own each bytes = ap (λ (t : List (List ℕ)). Ok (t, rest)) (sym (append-nil known))
entries_again most (m ∷ more) known rest room own each bytes =
    let split : flat_map text (m ∷ more) ++ rest ≡ text m ++ (flat_map text more ++ rest) = ap (λ (t : List ℕ). t ++ rest) (flat_map-cons text m more) ∙ append_assoc (text m) (flat_map text more) rest in
    let group : (known ++ m ∷ []) ++ more ≡ known ++ m ∷ more = append_assoc known (m ∷ []) more in
    let further = entries_again most more (known ++ m ∷ []) rest room (subst Own (sym group) own) each.1 bytes.1 in
    ap (entries_at most (suc (length more)) known) split
    ∙ (then_is (entry_at most known (text m ++ (flat_map text more ++ rest))) (λ y. entries_at most (length more) (known ++ y.0 ∷ []) y.1) (m, flat_map text more ++ rest) (entry_again most known m (flat_map text more ++ rest) room each.0 bytes.0 (new_one known m more own))
    ∙ (further ∙ ap (λ (t : List (List ℕ)). Ok (t, rest)) group))

-- ---- codes

-- the codes that were read, and the items that they are of
pub record Codes (m used : ℕ) (known : List (List ℕ)) (codes all : List ℕ) (bytes rest : List ℕ) : Type 0 where
  pub more : List ℕ
  pub is : all ≡ codes ++ more
  pub count : length more ≡ m
  pub within : AllByRecursion (λ c. c < length known) more
  pub used_up : entries_after (take used known) (items_of known more) ≡ known
  pub takes : Takes bytes (flat_map (code known) (items_of known more)) rest

pub codes_take : (most n m used : ℕ) (known items : List (List ℕ)) (codes bytes : List ℕ) (x : List ℕ × List ℕ) → IsBytes bytes → Coded most n m used known items → codes_at m (length known) used codes bytes ≡ Ok x → Codes m used known codes x.0 bytes x.1
unfolding codes_at code_at
codes_take most n zero used known items codes bytes x fits s e =
    let full : length known ≤ used = omega (arith, s.enough) in
    subst (λ (y : List ℕ × List ℕ). Codes 0 used known codes y.0 bytes y.1) (ok_is (codes, bytes) x e) (record { more = []; is = sym (append-nil codes); count = refl; within = tt; used_up = take_all used known full; takes = record { parts = refl; rest_fits = fits } })
codes_take most n (suc m) used known items codes bytes x fits s e =
    let a = bind_ok (code_at m (length known) used bytes) (λ c. codes_at m (length known) (used_with used c.0) (codes ++ c.0 ∷ []) c.1) x e in
    let c : ℕ × List ℕ = a.0 in
    let t = short_takes (is_code m (length known) used) bytes c fits a.1 in
    let step = code_step m known used c.0 s.good.own s.within s.enough t.1 in
    let y : List ℕ = get_or known c.0 [] in
    let r = codes_take most n m (used_with used c.0) known (items ++ y ∷ []) (codes ++ c.0 ∷ []) c.1 x t.0.rest_fits (coded_step most n m used c.0 known items s t.1) a.2 in
    let first : Takes bytes (code known y) c.1 = subst (λ k. Takes bytes (short k) c.1) (sym (s.good.own.at c.0 step.there)) t.0 in
    record {
      more = c.0 ∷ r.more;
      is = r.is ∙ append_assoc codes (c.0 ∷ []) r.more;
      count = ap suc r.count;
      within = (step.there, r.within);
      used_up = ap (λ (ds : List (List ℕ)). entries_after ds (items_of known r.more)) step.after ∙ r.used_up;
      takes = rw flat_map-cons (Takes-then bytes (code known y) c.1 (flat_map (code known) (items_of known r.more)) x.1 first r.takes);
    }

-- the code of each of these items
codes_of : List (List ℕ) → List (List ℕ) → List ℕ
codes_of known items = map (place known) items

codes_again : (xs known : List (List ℕ)) (used : ℕ) (codes rest : List ℕ) → length known ≤ 4096 → used ≤ length known → entries_after (take used known) xs ≡ known
    → codes_at (length xs) (length known) used codes (flat_map (code known) xs ++ rest) ≡ Ok (codes ++ map (place known) xs, rest)
unfolding codes_at code_at
codes_again [] known used codes rest few le e = ap (λ (t : List ℕ). Ok (t, rest)) (sym (append-nil codes))
codes_again (x ∷ xs) known used codes rest few le e =
    let c : ℕ = place known x in
    let s = again_step known used x xs le e in
    let split : flat_map (code known) (x ∷ xs) ++ rest ≡ short c ++ (flat_map (code known) xs ++ rest) = ap (λ (t : List ℕ). t ++ rest) (flat_map-cons (code known) x xs) ∙ append_assoc (code known x) (flat_map (code known) xs) rest in
    let further = codes_again xs known (used_with used c) (codes ++ c ∷ []) rest few s.within (ap (λ (t : List (List ℕ)). entries_after t xs) (sym s.next) ∙ e) in
    ap (codes_at (suc (length xs)) (length known) used codes) split
    ∙ (then_is (checked_at w16 (is_code (length xs) (length known) used) (short c ++ (flat_map (code known) xs ++ rest))) (λ d. codes_at (length xs) (length known) (used_with used d.0) (codes ++ d.0 ∷ []) d.1) (c, flat_map (code known) xs ++ rest)
    (short_passes (is_code (length xs) (length known) used) c (flat_map (code known) xs ++ rest) (omega (arith, place-le known x)) s.stands)
    ∙ (further ∙ ap (λ (t : List ℕ). Ok (t, rest)) (append_assoc codes (c ∷ []) (map (place known) xs))))

-- ---- the whole block

-- what a block was read as
pub record Whole (most n : ℕ) (bytes : List ℕ) (entries : List (List ℕ)) (codes : List ℕ) : Type 0 where
  pub spells : SpellsWithin most bytes n (items_of entries codes)
  pub count : length codes ≡ n
  pub within : AllByRecursion (λ c. c < length entries) codes
  pub first_use : dictionary (items_of entries codes) ≡ entries
  pub few : length entries ≤ 4096
  pub short : AllByRecursion (λ x. length x ≤ most) entries

ended : {A : Type 0} (a : A) (rest : List ℕ) (x : A) → cond (eqb (length rest) 0) (Ok a) (Err (length rest)) ≡ Ok x → (rest ≡ []) × (a ≡ x)
ended a rest x e = let f = pass_ok (eqb (length rest) 0) (length rest) a x e in (nil_from_length rest (eqb-true _ _ f.0), f.1)

pub block_takes : (most n : ℕ) (bytes : List ℕ) (x : List (List ℕ) × List ℕ) → Limit most → IsBytes bytes → block_at most n bytes ≡ Ok x → Whole most n bytes x.0 x.1
unfolding block_at count_at
block_takes most n bytes x limit fits e =
    let a = bind_ok (checked_at w16 (is_count n) bytes) (λ d. entries_at most d.0 [] d.1 >>= λ known. codes_at n (length known.0) 0 [] known.1 >>= λ all. cond (eqb (length all.1) 0) (Ok (known.0, all.0)) (Err (length all.1))) x e in
    let d : ℕ × List ℕ = a.0 in
    let t = short_takes (is_count n) bytes d fits a.1 in
    let k = bind_ok (entries_at most d.0 [] d.1) (λ known. codes_at n (length known.0) 0 [] known.1 >>= λ all. cond (eqb (length all.1) 0) (Ok (known.0, all.0)) (Err (length all.1))) x a.2 in
    let known : List (List ℕ) = k.0.0 in
    let r = entries_take most d.0 [] d.1 k.0 t.0.rest_fits (good_nil limit) k.1 in
    let size : length known ≡ d.0 = ap length r.is ∙ r.count in
    let m = bind_ok (codes_at n (length known) 0 [] k.0.1) (λ all. cond (eqb (length all.1) 0) (Ok (known, all.0)) (Err (length all.1))) x k.2 in
    let c = counted n d.0 t.1 in
    let s = codes_take most n n 0 known [] [] k.0.1 m.0 r.takes.rest_fits (record { good = r.good; counts = rw size t.1; total = nothing_before n; within = omega arith; enough = omega (arith, c.room); so_far = refl }) m.1 in
    let f = ended (known, m.0.0) m.0.1 x m.2 in
    let codes : List ℕ = m.0.0 in
    let items : List (List ℕ) = items_of known codes in
    let all : s.more ≡ codes = sym s.is in
    let dict : dictionary items ≡ known = ap (λ (z : List ℕ). entries_after [] (items_of known z)) (sym all) ∙ s.used_up in
    let entries : Takes d.1 (flat_map text known) k.0.1 = subst (λ (z : List (List ℕ)). Takes d.1 (flat_map text z) k.0.1) (sym r.is) r.takes in
    let coded : Takes k.0.1 (flat_map (code known) items) m.0.1 = subst (λ (z : List ℕ). Takes k.0.1 (flat_map (code known) (items_of known z)) m.0.1) all s.takes in
    let both = Takes-then bytes (short d.0 ++ flat_map text known) k.0.1 (flat_map (code known) items) m.0.1 (Takes-then bytes (short d.0) d.1 (flat_map text known) k.0.1 t.0 entries) coded in
    let front : List ℕ = (short d.0 ++ flat_map text known) ++ flat_map (code known) items in
    let whole : bytes ≡ front = both.parts ∙ (ap (λ (z : List ℕ). front ++ z) f.0 ∙ append-nil front) in
    let spelled : front ≡ (short (length (dictionary items)) ++ flat_map text (dictionary items)) ++ flat_map (code (dictionary items)) items =
    ap (λ (z : ℕ). (short z ++ flat_map text known) ++ flat_map (code known) items) (sym size) ∙ ap (λ (z : List (List ℕ)). (short (length z) ++ flat_map text z) ++ flat_map (code z) items) (sym dict) in
    let count : length codes ≡ n = ap length (sym all) ∙ s.count in
    subst (λ (y : List (List ℕ) × List ℕ). Whole most n bytes y.0 y.1) f.1 (record {
      spells = record {
        count = length-map codes (λ c. get_or known c []) ∙ count;
        fits = record { few = omega (arith, ap length dict, c.few, size); each = subst (AllByRecursion (λ x. length x ≤ most)) (sym dict) r.good.each };
        parts = whole ∙ (spelled ∙ sym (spelling_is items));
      };
      count = count;
      within = subst (AllByRecursion (λ c. c < length known)) all s.within;
      first_use = dict;
      few = omega (arith, c.few, size);
      short = r.good.each;
    })
  where
    nothing_before : (n : ℕ) → 0 + n ≡ n
    nothing_before n = omega arith

pub counts : (items : List (List ℕ)) → length (dictionary items) ≤ 4096 → is_count (length items) (length (dictionary items)) ≡ true
counts [] few = refl
counts (x ∷ items) few =
    let g = after_grows (x ∷ []) items in
    let d : ℕ = length (dictionary (x ∷ items)) in
    let is : d ≡ suc (length g.0) = ap length g.1 in
    rw (upto_test d 4096 few, upto_test d (length (x ∷ items)) (omega (arith, g.2)), below_test 0 d (omega arith)) refl

pub block_again : (most : ℕ) (items : List (List ℕ)) → most < 2 ^ 32 → FitsWithin most items → AllByRecursion AreBytes (dictionary items) → block_at most (length items) (spelling items) ≡ Ok (dictionary items, map (place (dictionary items)) items)
unfolding block_at count_at
block_again most items room fits bytes =
    let ds : List (List ℕ) = dictionary items in
    let e : List ℕ = flat_map text ds in
    let c : List ℕ = flat_map (code ds) items in
    let split : spelling items ≡ short (length ds) ++ (e ++ (c ++ [])) = spelling_is items ∙ (append_assoc (short (length ds)) e c ∙ ap (λ (z : List ℕ). short (length ds) ++ (e ++ z)) (sym (append-nil c))) in
    let known : entries_at most (length ds) [] (e ++ (c ++ [])) ≡ Ok (ds, c ++ []) = entries_again most ds [] (c ++ []) room (own_after [] items own_nil) fits.each bytes in
    let codes : codes_at (length items) (length ds) 0 [] (c ++ []) ≡ Ok (map (place ds) items, []) = codes_again items ds 0 [] [] fits.few (omega arith) refl in
    ap (block_at most (length items)) split ∙ rw (short_passes (is_count (length items)) (length ds) (e ++ (c ++ [])) (omega (arith, fits.few)) (counts items fits.few), known, codes) refl

-- what was read can be held
pub held : (most n : ℕ) (bytes : List ℕ) (entries : List (List ℕ)) (codes : List ℕ) → most < 2 ^ 32 → n < 2 ^ 32 → Whole most n bytes entries codes → IsHeld entries codes
held most n bytes entries codes room lt w = record { few = omega (arith, w.count); within = each_below (length entries) codes w.within; first_use = w.first_use; most = w.few; short = have_room entries w.short }
  where
    have_room : (ds : List (List ℕ)) → AllByRecursion (λ x. length x ≤ most) ds → AllByRecursion (λ x. length x < 2 ^ 32) ds
    have_room [] all = tt
    have_room (d ∷ ds) all = (omega (arith, all.0, room), have_room ds all.1)

    each_below : (d : ℕ) (cs : List ℕ) → AllByRecursion (λ c. c < d) cs → (i : ℕ) → i < length cs → get_or cs i 0 < d
    each_below d [] all i lt = absurd (omega arith)
    each_below d (c ∷ cs) all zero lt = all.0
    each_below d (c ∷ cs) all (suc i) lt = each_below d cs all.1 i (omega arith)
