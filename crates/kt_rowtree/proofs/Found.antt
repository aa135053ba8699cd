-- The rowsets found along a list of ranges.
use Rattle.std.proofs.Common.{◌≡◌, ℕ, zero, suc, ◌+◌, ◌-◌, ◌<◌, ◌≤◌, Bool, true, false, ◌&&◌, cond, List, [], ◌∷◌, ◌++◌, map, reverse, length, take, drop, get_or, refl, sym, ap, ◌∙◌, arith, length-append, length-take-le, Result, Ok, Err}
use Rattle.std.specs.List.{filter}
use Rattle.std.proofs.lemmas.List.{drop_more, take-append-drop, get_or-take, get_or-drop, length-reverse, length-drop, get_or_read, append-nil, reverse-append}
use Rattle.std.proofs.lemmas.Bool.{false≢true}
use Rattle.std.specs.Result.{is_ok, OnErr}
use Rattle.kt_rowtree.specs.Ranges.{is_upto, holds, holders_of, IsByLeast, EndEarly}
use Rattle.kt_rowtree.specs.declared.lists.Range.{Range}
use Rattle.kt_rowtree.proofs.Upto.{upto_trans}

pub holders-cons_in : (key : List ℕ) (r : Range) (rs : List Range) → holds key r ≡ true → holders_of key (r ∷ rs) ≡ r.rowset ∷ holders_of key rs
holders-cons_in key r rs e = ap (λ b. map (λ (r : Range). r.rowset) (cond b (r ∷ filter (holds key) rs) (filter (holds key) rs))) e

pub holders-cons_out : (key : List ℕ) (r : Range) (rs : List Range) → holds key r ≡ false → holders_of key (r ∷ rs) ≡ holders_of key rs
holders-cons_out key r rs e = ap (λ b. map (λ (r : Range). r.rowset) (cond b (r ∷ filter (holds key) rs) (filter (holds key) rs))) e

append_by : (key : List ℕ) (r : Range) (xs ys : List Range) (b : Bool) → holds key r ≡ b → holders_of key (xs ++ ys) ≡ holders_of key xs ++ holders_of key ys → holders_of key (r ∷ (xs ++ ys)) ≡ holders_of key (r ∷ xs) ++ holders_of key ys
append_by key r xs ys true e h = holders-cons_in key r (xs ++ ys) e ∙ ap (λ ns. r.rowset ∷ ns) h ∙ ap (λ ns. ns ++ holders_of key ys) (sym (holders-cons_in key r xs e))
append_by key r xs ys false e h = holders-cons_out key r (xs ++ ys) e ∙ h ∙ ap (λ ns. ns ++ holders_of key ys) (sym (holders-cons_out key r xs e))

pub holders-append : (key : List ℕ) (xs ys : List Range) → holders_of key (xs ++ ys) ≡ holders_of key xs ++ holders_of key ys
holders-append key [] ys = refl
holders-append key (r ∷ xs) ys = append_by key r xs ys (holds key r) refl (holders-append key xs ys)

-- none of a list of which none holds the key
pub holders_none : (key : List ℕ) (xs : List Range) → ((k : ℕ) (d : Range) → k < length xs → holds key (get_or xs k d) ≡ false) → holders_of key xs ≡ []
holders_none key [] h = refl
holders_none key (r ∷ xs) h = holders-cons_out key r xs (h 0 r (omega arith)) ∙ holders_none key xs (λ k d low. h (suc k) d (omega arith))

pub length-holders_part : (key : List ℕ) (xs : List Range) (i p : ℕ) → length (holders_of key (drop i (take p xs))) ≤ length (holders_of key xs)
length-holders_part key xs i p =
    let whole = ap (λ rs. length (holders_of key rs)) (take-append-drop p xs) in
    let a = ap length (holders-append key (take p xs) (drop p xs)) in
    let b = length-append (holders_of key (take p xs)) (holders_of key (drop p xs)) in
    let front = ap (λ rs. length (holders_of key rs)) (take-append-drop i (take p xs)) in
    let c = ap length (holders-append key (take i (take p xs)) (drop i (take p xs))) in
    let d = length-append (holders_of key (take i (take p xs))) (holders_of key (drop i (take p xs))) in
    omega arith

-- one range more, which holds the key or not
pub found_in : (key : List ℕ) (xs : List Range) (i : ℕ) (d : Range) → i < length xs → holds key (get_or xs i d) ≡ true → holders_of key (drop i xs) ≡ (get_or xs i d).rowset ∷ holders_of key (drop (i + 1) xs)
found_in key xs i d low e = ap (holders_of key) (drop_more xs i d low) ∙ holders-cons_in key (get_or xs i d) (drop (i + 1) xs) e

pub found_out : (key : List ℕ) (xs : List Range) (i : ℕ) (d : Range) → i < length xs → holds key (get_or xs i d) ≡ false → holders_of key (drop i xs) ≡ holders_of key (drop (i + 1) xs)
found_out key xs i d low e = ap (holders_of key) (drop_more xs i d low) ∙ holders-cons_out key (get_or xs i d) (drop (i + 1) xs) e

-- a stretch of which none holds the key
pub found_over : (key : List ℕ) (xs : List Range) (low n : ℕ) (d : Range) → low + n ≤ length xs → ((j : ℕ) → low ≤ j → j < low + n → holds key (get_or xs j d) ≡ false) → holders_of key (drop low xs) ≡ holders_of key (drop (low + n) xs)
found_over key xs low zero d fits h = ap (λ i. holders_of key (drop i xs)) (omega arith)
found_over key xs low (suc n) d fits h =
    found_over key xs low n d (omega arith) (λ j a b. h j a (omega arith)) ∙ found_out key xs (low + n) d (omega arith) (h (low + n) (omega arith) (omega arith)) ∙ ap (λ i. holders_of key (drop i xs)) (omega arith)

pub and_false_left : (a b : Bool) → a ≡ false → (a && b) ≡ false
and_false_left true b e = absurd (false≢true (sym e))
and_false_left false b e = refl

pub and_false_right : (a b : Bool) → b ≡ false → (a && b) ≡ false
and_false_right true b e = e
and_false_right false b e = refl

pub and_true : (a b : Bool) → a ≡ true → b ≡ true → (a && b) ≡ true
and_true true b e f = f
and_true false b e f = absurd (false≢true e)

pub false_from : (b : Bool) → (b ≡ true → false ≡ true) → b ≡ false
false_from true h = sym (h refl)
false_from false h = refl

-- ---- the steps of the searches

pub read_at : (xs : List Range) (i : ℕ) (r d : Range) → i < length xs → r ≡ get_or xs i r → get_or xs i d ≡ r
read_at xs i r d low e = sym (get_or_read xs i r low e d)

module _ (ranges : List Range) (by_least : IsByLeast ranges) (key : List ℕ) (mid : ℕ) (inside : mid < length ranges) (r : Range) (is : r ≡ get_or ranges mid r) where
  pub below_mid : is_upto r.least key ≡ true → (k : ℕ) (d : Range) → k < mid + 1 → is_upto (get_or ranges k d).least key ≡ true
  below_mid e k d low = upto_trans (get_or ranges k d).least (get_or ranges mid d).least key (by_least k mid d (omega arith) inside) (ap (λ (r : Range). is_upto r.least key) (read_at ranges mid r d inside is) ∙ e)

  pub above_mid : is_upto r.least key ≡ false → (k : ℕ) (d : Range) → mid ≤ k → k < length ranges → is_upto (get_or ranges k d).least key ≡ false
  above_mid e k d high low = false_from (is_upto (get_or ranges k d).least key) (λ t. sym e ∙ ap (λ (r : Range). is_upto r.least key) (sym (read_at ranges mid r d inside is)) ∙ upto_trans (get_or ranges mid d).least (get_or ranges k d).least key (by_least mid k d high low) t)

module _ (ranges : List Range) (key : List ℕ) (p : ℕ) (bound : p ≤ length ranges) (below : (k : ℕ) (d : Range) → k < p → is_upto (get_or ranges k d).least key ≡ true) (at : ℕ) (some : 0 < at) (back : at ≤ p) (r : Range) (is : r ≡ get_or ranges (at - 1) r) (out : List ℕ) (found : out ≡ reverse (holders_of key (drop at (take p ranges)))) where
  in_front : (j : ℕ) (d : Range) → j < p → get_or (take p ranges) j d ≡ get_or ranges j d
  in_front j d low = get_or-take p ranges j d low

  long : length (take p ranges) ≡ p
  long = length-take-le p ranges bound

  one_back : at - 1 + 1 ≡ at
  one_back = omega arith

  here_in : is_upto key r.greatest ≡ true → holds key (get_or (take p ranges) (at - 1) r) ≡ true
  here_in e = ap (holds key) (in_front (at - 1) r (omega arith) ∙ sym is) ∙ and_true (is_upto r.least key) (is_upto key r.greatest) (ap (λ (r : Range). is_upto r.least key) is ∙ below (at - 1) r (omega arith)) e

  found_here : is_upto key r.greatest ≡ true → holders_of key (drop (at - 1) (take p ranges)) ≡ r.rowset ∷ holders_of key (drop at (take p ranges))
  found_here e = found_in key (take p ranges) (at - 1) r (let l = long in omega arith) (here_in e) ∙ ap (λ (r : Range). r.rowset ∷ holders_of key (drop (at - 1 + 1) (take p ranges))) (in_front (at - 1) r (omega arith) ∙ sym is) ∙ ap (λ n. r.rowset ∷ holders_of key (drop n (take p ranges))) one_back

  pub found_more : is_upto key r.greatest ≡ true → out ++ r.rowset ∷ [] ≡ reverse (holders_of key (drop (at - 1) (take p ranges)))
  found_more e = ap (λ ns. ns ++ r.rowset ∷ []) found ∙ sym (ap reverse (found_here e) ∙ reverse-append (r.rowset ∷ []) (holders_of key (drop at (take p ranges))))

  pub found_room : is_upto key r.greatest ≡ true → length out < length (holders_of key ranges)
  found_room e =
      let a = ap length (found_here e) in
      let b = length-holders_part key ranges (at - 1) p in
      let c = ap length found ∙ length-reverse (holders_of key (drop at (take p ranges))) in
      omega arith

  pub found_past : (low : ℕ) → low < at → EndEarly key ranges low at → out ≡ reverse (holders_of key (drop low (take p ranges)))
  found_past low less early =
      let l = long in
      let sum : low + (at - low) ≡ at = omega arith in
      found ∙ ap reverse (sym (found_over key (take p ranges) low (at - low) r (omega arith) (λ j from to.
      ap (holds key) (in_front j r (omega arith)) ∙ and_false_right (is_upto (get_or ranges j r).least key) (is_upto key (get_or ranges j r).greatest) (early j r from (omega arith)))
      ∙ ap (λ n. holders_of key (drop n (take p ranges))) sum))

-- all of them are in front
pub found_all : (ranges : List Range) (key : List ℕ) (p : ℕ) → ((k : ℕ) (d : Range) → p ≤ k → k < length ranges → is_upto (get_or ranges k d).least key ≡ false) → (out : List ℕ) (at : ℕ) → at ≡ 0 → out ≡ reverse (holders_of key (drop at (take p ranges))) → out ≡ reverse (holders_of key ranges)
found_all ranges key p above out at zero_at found =
    let none : holders_of key (drop p ranges) ≡ [] = holders_none key (drop p ranges) (λ k d low. and_false_left (is_upto (get_or (drop p ranges) k d).least key) (is_upto key (get_or (drop p ranges) k d).greatest) (ap (λ (r : Range). is_upto r.least key) (get_or-drop p ranges k d) ∙ above (p + k) d (omega arith) (let l = length-drop p ranges in omega arith))) in
    found ∙ ap (λ n. reverse (holders_of key (drop n (take p ranges)))) zero_at ∙ ap reverse (sym (append-nil (holders_of key (take p ranges))) ∙ ap (λ ns. holders_of key (take p ranges) ++ ns) (sym none) ∙ sym (holders-append key (take p ranges) (drop p ranges)) ∙ ap (holders_of key) (take-append-drop p ranges))

-- a push where there is room
pub push_fits : {A B X : Type 0} (r : Result A B) (was more now : List X) (len cap : ℕ) → now ≡ cond (is_ok r) more was → OnErr r (cap ≤ len) → len < cap → now ≡ more
push_fits (Ok x) was more now len cap e full room = e
push_fits (Err x) was more now len cap e full room = absurd (omega arith)
