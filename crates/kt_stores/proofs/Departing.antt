-- Stores that leave, one after another, from among others.
use Rattle.std.proofs.Common.{◌≡◌, ◌≤◌, ◌<◌, ◌+◌, ℕ, zero, suc, Bool, true, false, cond, List, [], ◌∷◌, ◌++◌, length, get_or, length-append, append_assoc, inl, inr, refl, sym, ap, subst, ◌∙◌, arith}
use Rattle.std.specs.List.{AllByRecursion, filter, remove}
use Rattle.std.proofs.lemmas.List.{append-nil}
use Rattle.std.proofs.lemmas.List.Elements.{filter-append}
use Rattle.std.proofs.lemmas.List.Sums.{sum_by-cons}
use Rattle.kt_history.specs.Beside.{AllStand, OwnedBy, AreApart}
use Rattle.kt_history.proofs.Beside.{Stays, all_stay, stand_left, stand_right, stand_both, owned_left, owned_right, owned_either, apart_left, apart_right, apart_between, apart_both}
use Rattle.kt_pool.specs.Contents.{Contents, at_cell, used}
use Rattle.kt_stores.specs.Shelf.{Shelved, AreClosed, cells_in}
use Rattle.kt_stores.specs.Parts.{shelf_of}
use Rattle.kt_stores.specs.Leaving.{HaveLeft, Going}
use Rattle.kt_stores.proofs.Emptying.{cells-append, shelf-append}

-- ---- what is read of each

module _ {X : Type 0} (read : X → Contents → Shelved) (old new : Contents) where
  abbrev Same : List X → Type 0
  Same xs = AllByRecursion (λ (x : X). read x new ≡ read x old) xs

  each_same : (xs : List X) → shelf_of read new xs ≡ shelf_of read old xs → Same xs
  each_same [] e = tt
  each_same (x ∷ xs) e = ((let h : read x new ≡ read x old = cc in h), each_same xs (let t : shelf_of read new xs ≡ shelf_of read old xs = cc in t))

  pub same_shelf : (xs : List X) → Same xs → shelf_of read new xs ≡ shelf_of read old xs
  same_shelf [] s = refl
  same_shelf (x ∷ xs) s = ap (λ (r : Shelved). r ∷ shelf_of read new xs) s.0 ∙ ap (λ (l : List Shelved). read x old ∷ l) (same_shelf xs s.1)

  pub same_both : (xs ys : List X) → Same xs → Same ys → Same (xs ++ ys)
  same_both [] ys s t = t
  same_both (x ∷ xs) ys s t = (s.0, same_both xs ys s.1 t)

same_without : {X : Type 0} (read : X → Contents → Shelved) (old new : Contents) (front : List X) (x : X) (rest : List X) → Same read old new (front ++ x ∷ rest) → Same read old new (front ++ rest)
same_without read old new [] x rest s = s.1
same_without read old new (y ∷ front) x rest s = (s.0, same_without read old new front x rest s.1)

same_on : {X : Type 0} (read : X → Contents → Shelved) (old now new : Contents) (xs : List X) → Same read old now xs → Same read now new xs → Same read old new xs
same_on read old now new [] s t = tt
same_on read old now new (x ∷ xs) s t = (t.0 ∙ s.0, same_on read old now new xs s.1 t.1)

all_the_same : {X : Type 0} (read : X → Contents → Shelved) (pool : Contents) (xs : List X) → Same read pool pool xs
all_the_same read pool [] = tt
all_the_same read pool (x ∷ xs) = (refl, all_the_same read pool xs)

-- ---- one leaves from among others

module _ {X : Type 0} (stands : X → Contents → Type 0) (owns : X → Contents → ℕ → Type 0) (read : X → Contents → Shelved) where
  pub none_left : (all : List X) (pool : Contents) → AllStand stands pool all → AreApart owns pool all → HaveLeft stands owns read all all pool pool
  none_left all pool st apart = record { stand = st; apart = apart; same = all_the_same read pool all; owned = λ k own. own; frame = λ k none. refl; cells = refl; reserved = refl; size = refl }

  module _ (still : Stays stands owns read) (front : List X) (x : X) (rest : List X) where
    module _ (pool : Contents) where
      stand_without : AllStand stands pool (front ++ x ∷ rest) → AllStand stands pool (front ++ rest)
      stand_without st = stand_both stands pool front rest (stand_left stands pool front (x ∷ rest) st) (stand_right stands pool front (x ∷ rest) st).1

      owned_with : (k : ℕ) → OwnedBy owns pool (front ++ rest) k → OwnedBy owns pool (front ++ x ∷ rest) k
      owned_with k own = elim (owned_either owns pool front rest k own) [ inl here ↦ owned_left owns pool front (x ∷ rest) k here | inr there ↦ owned_right owns pool front (x ∷ rest) k (inr there) ]

      not_mine : (k : ℕ) → AreApart owns pool (front ++ x ∷ rest) → OwnedBy owns pool (front ++ rest) k → ¬ owns x pool k
      not_mine k apart own = elim (owned_either owns pool front rest k own) [
        | inl here ↦ λ mine. apart_between owns pool front (x ∷ rest) k apart here (inl mine)
        | inr there ↦ λ mine. (apart_right owns pool front (x ∷ rest) apart).0 k mine there
      ]

      apart_without : AreApart owns pool (front ++ x ∷ rest) → AreApart owns pool (front ++ rest)
      apart_without apart = apart_both owns pool front rest (apart_left owns pool front (x ∷ rest) apart) (apart_right owns pool front (x ∷ rest) apart).1 (λ k here there. apart_between owns pool front (x ∷ rest) k apart here (inr there))

      cells_with : cells_in (shelf_of read pool (front ++ x ∷ rest)) ≡ cells_in (shelf_of read pool (front ++ rest)) + (read x pool).cells
      cells_with =
          let a = ap cells_in (shelf-append read pool front (x ∷ rest)) ∙ cells-append (shelf_of read pool front) (shelf_of read pool (x ∷ rest)) in
          let b = ap cells_in (shelf-append read pool front rest) ∙ cells-append (shelf_of read pool front) (shelf_of read pool rest) in
          let c = sum_by-cons (λ (s : Shelved). s.cells) (read x pool) (shelf_of read pool rest) in
          omega arith

    pub one_left : (all : List X) (old now new : Contents) → HaveLeft stands owns read all (front ++ x ∷ rest) old now → ((k : ℕ) → ¬ owns x now k → at_cell new k ≡ at_cell now k)
        → used new + (read x now).cells ≡ used now → new.reserved ≡ now.reserved → length new.places ≡ length now.places → HaveLeft stands owns read all (front ++ rest) old new
    one_left all old now new h frame fewer reserved size =
        let stay = all_stay stands owns read still now new (front ++ rest) (stand_without now h.stand) (λ k own. frame k (not_mine now k h.apart own)) in
        record {
          stand = stay.stand;
          apart = stay.apart (apart_without now h.apart);
          same = same_on read old now new (front ++ rest) (same_without read old now front x rest h.same) (each_same read now new (front ++ rest) stay.same);
          owned = λ k own. h.owned k (owned_with now k (stay.back k own));
          frame = λ k none. frame k (λ mine. none (h.owned k (owned_right owns now front (x ∷ rest) k (inl mine)))) ∙ h.frame k none;
          cells = let was = h.cells in let a = cells_with now in let b = ap cells_in stay.same in omega arith;
          reserved = reserved ∙ h.reserved;
          size = size ∙ h.size;
        }

-- ---- one after another

at_front : {X : Type 0} (front : List X) (x : X) (rest : List X) (y : X) → get_or (front ++ x ∷ rest) (length front) y ≡ x
at_front [] x rest y = refl
at_front (z ∷ front) x rest y = at_front front x rest y

remove_front : {X : Type 0} (front : List X) (x : X) (rest : List X) → remove (front ++ x ∷ rest) (length front) ≡ front ++ rest
remove_front [] x rest = refl
remove_front (z ∷ front) x rest = ap (λ xs. z ∷ xs) (remove_front front x rest)

module _ {X : Type 0} (stands : X → Contents → Type 0) (owns : X → Contents → ℕ → Type 0) (read : X → Contents → Shelved) (stays : X → Bool) where
  pub none_passed : (all : List X) (pool : Contents) → AllStand stands pool all → AreApart owns pool all → Going stands owns read stays all all 0 pool pool
  none_passed all pool st apart = record { front = []; rest = all; all_is = refl; left_is = refl; at_is = refl; gone = none_left stands owns read all pool st apart }

  module _ (all left : List X) (at : ℕ) (old now : Contents) (x : X) where
    -- one stays
    pub one_stays : Going stands owns read stays all left at old now → at < length left → x ≡ get_or left at x → stays x ≡ true → Going stands owns read stays all left (at + 1) old now
    one_stays h low is stay = by h.rest h.all_is h.left_is
      where
        by : (rest : List X) → all ≡ h.front ++ rest → left ≡ filter stays h.front ++ rest → Going stands owns read stays all left (at + 1) old now
        by [] whole part = absurd (
            let e = ap length part in
            let f = length-append (filter stays h.front) [] in
            let g = h.at_is in omega (arith, low)
            )
        by (y ∷ rest) whole part =
            let same : x ≡ y = is ∙ ap (λ xs. get_or xs at x) part ∙ ap (λ i. get_or (filter stays h.front ++ y ∷ rest) i x) h.at_is ∙ at_front (filter stays h.front) y rest x in
            let mine : filter stays (h.front ++ y ∷ []) ≡ filter stays h.front ++ y ∷ [] =
            filter-append stays h.front (y ∷ []) ∙ ap (λ b. filter stays h.front ++ cond b (y ∷ []) []) (ap stays (sym same) ∙ stay) in
            record {
              front = h.front ++ y ∷ [];
              rest = rest;
              all_is = whole ∙ sym (append_assoc h.front (y ∷ []) rest);
              left_is = part ∙ sym (append_assoc (filter stays h.front) (y ∷ []) rest) ∙ ap (λ xs. xs ++ rest) (sym mine);
              at_is = let e = ap length mine in let f = length-append (filter stays h.front) (y ∷ []) in let g = h.at_is in omega arith;
              gone = h.gone;
            }

    -- and another leaves
    pub one_goes : Stays stands owns read → (next : List X) (new : Contents) → Going stands owns read stays all left at old now → at < length left → x ≡ get_or left at x → stays x ≡ false → next ≡ remove left at
        → ((k : ℕ) → ¬ owns x now k → at_cell new k ≡ at_cell now k) → used new + (read x now).cells ≡ used now → new.reserved ≡ now.reserved → length new.places ≡ length now.places
        → Going stands owns read stays all next at old new
    one_goes still next new h low is leave gone frame fewer reserved size = by h.rest h.all_is h.left_is
      where
        by : (rest : List X) → all ≡ h.front ++ rest → left ≡ filter stays h.front ++ rest → Going stands owns read stays all next at old new
        by [] whole part = absurd (
            let e = ap length part in
            let f = length-append (filter stays h.front) [] in
            let g = h.at_is in omega (arith, low)
            )
        by (y ∷ rest) whole part =
            let same : x ≡ y = is ∙ ap (λ xs. get_or xs at x) part ∙ ap (λ i. get_or (filter stays h.front ++ y ∷ rest) i x) h.at_is ∙ at_front (filter stays h.front) y rest x in
            let mine : filter stays (h.front ++ y ∷ []) ≡ filter stays h.front =
            filter-append stays h.front (y ∷ []) ∙ ap (λ b. filter stays h.front ++ cond b (y ∷ []) []) (ap stays (sym same) ∙ leave) ∙ append-nil (filter stays h.front) in
            let next_is : next ≡ filter stays h.front ++ rest = gone ∙ ap (λ xs. remove xs at) part ∙ ap (λ i. remove (filter stays h.front ++ y ∷ rest) i) h.at_is ∙ remove_front (filter stays h.front) y rest in
            record {
              front = h.front ++ y ∷ [];
              rest = rest;
              all_is = whole ∙ sym (append_assoc h.front (y ∷ []) rest);
              left_is = next_is ∙ ap (λ xs. xs ++ rest) (sym mine);
              at_is = h.at_is ∙ sym (ap length mine);
              gone = subst (λ (xs : List X). HaveLeft stands owns read all xs old new) (sym next_is)
                  (one_left stands owns read still (filter stays h.front) y rest all old now new (subst (λ (xs : List X). HaveLeft stands owns read all xs old now) part h.gone)
                  (subst (λ (z : X). (k : ℕ) → ¬ owns z now k → at_cell new k ≡ at_cell now k) same frame) (subst (λ (z : X). used new + (read z now).cells ≡ used now) same fewer) reserved size);
            }

  -- all are gone over
  pub all_passed : (all left : List X) (at : ℕ) (old now : Contents) → Going stands owns read stays all left at old now → length left ≤ at → left ≡ filter stays all
  all_passed all left at old now h past = by h.rest h.all_is h.left_is
    where
      by : (rest : List X) → all ≡ h.front ++ rest → left ≡ filter stays h.front ++ rest → left ≡ filter stays all
      by [] whole part = part ∙ append-nil (filter stays h.front) ∙ ap (filter stays) (sym (append-nil h.front) ∙ sym whole)
      by (y ∷ rest) whole part = absurd (
          let e = ap length part in
          let f = length-append (filter stays h.front) (y ∷ rest) in
          let g = h.at_is in omega (arith, past)
          )

-- ---- among others, which stay

closed_left : (xs ys : List Shelved) → AreClosed (xs ++ ys) → AreClosed ys
closed_left [] ys h = h
closed_left (x ∷ xs) ys h = closed_left xs ys h.1

module _ {X : Type 0} (stands : X → Contents → Type 0) (owns : X → Contents → ℕ → Type 0) (read : X → Contents → Shelved) (still : Stays stands owns read) (pre all left post : List X) (old new : Contents) (h : HaveLeft stands owns read all left old new) where
  -- some of a list have left, and those before and behind it stand as they were
  pub left_between : AllStand stands old (pre ++ (all ++ post)) → AreApart owns old (pre ++ (all ++ post)) → HaveLeft stands owns read (pre ++ (all ++ post)) (pre ++ (left ++ post)) old new
  left_between st apart =
      let first = all_stay stands owns read still old new pre (stand_left stands old pre (all ++ post) st) (λ k own. h.frame k (λ mine. apart_between owns old pre (all ++ post) k apart own (owned_left owns old all post k mine))) in
      let behind = apart_right owns old pre (all ++ post) apart in
      let last = all_stay stands owns read still old new post (stand_right stands old all post (stand_right stands old pre (all ++ post) st)) (λ k own. h.frame k (λ mine. apart_between owns old all post k behind mine own)) in
      record {
        stand = stand_both stands new pre (left ++ post) first.stand (stand_both stands new left post h.stand last.stand);
        apart = apart_both owns new pre (left ++ post) (first.apart (apart_left owns old pre (all ++ post) apart))
            (apart_both owns new left post h.apart (last.apart (apart_right owns old all post behind)) (λ k here there. apart_between owns old all post k behind (h.owned k here) (last.back k there)))
            (λ k here there. apart_between owns old pre (all ++ post) k apart (first.back k here) (elim (owned_either owns new left post k there) [
              | inl mine ↦ owned_left owns old all post k (h.owned k mine)
              | inr other ↦ owned_right owns old all post k (last.back k other)
            ]));
        same = same_both read old new pre (left ++ post) (each_same read old new pre first.same) (same_both read old new left post h.same (each_same read old new post last.same));
        owned = λ k own. elim (owned_either owns new pre (left ++ post) k own) [
          | inl here ↦ owned_left owns old pre (all ++ post) k (first.back k here)
          | inr there ↦ owned_right owns old pre (all ++ post) k (elim (owned_either owns new left post k there) [
            | inl mine ↦ owned_left owns old all post k (h.owned k mine)
            | inr other ↦ owned_right owns old all post k (last.back k other)
          ])
        ];
        frame = λ k none. h.frame k (λ mine. none (owned_right owns old pre (all ++ post) k (owned_left owns old all post k mine)));
        cells =
            let was = h.cells in
            let a = three old pre all post in
            let b = three new pre left post in
            let c = ap cells_in first.same in
            let d = ap cells_in last.same in
            omega arith;
        reserved = h.reserved;
        size = h.size;
      }
    where
      three : (pool : Contents) (xs ys zs : List X) → cells_in (shelf_of read pool (xs ++ (ys ++ zs))) ≡ cells_in (shelf_of read pool xs) + cells_in (shelf_of read pool ys) + cells_in (shelf_of read pool zs)
      three pool xs ys zs =
          let a = ap cells_in (shelf-append read pool xs (ys ++ zs)) ∙ cells-append (shelf_of read pool xs) (shelf_of read pool (ys ++ zs)) in
          let b = ap cells_in (shelf-append read pool ys zs) ∙ cells-append (shelf_of read pool ys) (shelf_of read pool zs) in
          omega arith

-- ---- the store at a place

pub stand_at : {X : Type 0} (stands : X → Contents → Type 0) (pool : Contents) (xs : List X) (i : ℕ) (x : X) → AllStand stands pool xs → i < length xs → x ≡ get_or xs i x → stands x pool
stand_at stands pool [] i x st low is = absurd (omega arith)
stand_at stands pool (y ∷ xs) zero x st low is = subst (λ z. stands z pool) (sym is) st.0
stand_at stands pool (y ∷ xs) (suc i) x st low is = stand_at stands pool xs i x st.1 (omega arith) is

pub same_at : {X : Type 0} (xs : List X) (i : ℕ) (x y : X) → i < length xs → x ≡ get_or xs i x → y ≡ get_or xs i y → x ≡ y
same_at [] i x y low e f = absurd (omega arith)
same_at (z ∷ xs) zero x y low e f = e ∙ sym f
same_at (z ∷ xs) (suc i) x y low e f = same_at xs i x y (omega arith) e f
