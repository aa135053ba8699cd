-- DeltaMemStores that give their cells back and leave.
use Rattle.std.proofs.Common.{◌≡◌, ◌+◌, ◌<◌, ◌≤◌, ℕ, zero, suc, List, [], ◌∷◌, ◌++◌, cond, length, get_or, length-append, append_assoc, inl, inr, refl, sym, ap, subst, ◌∙◌, arith}
use Rattle.std.specs.Prelude.{nat_lt}
use Rattle.std.specs.List.{remove}
use Rattle.std.proofs.lemmas.List.{append-nil}
use Rattle.std.proofs.lemmas.List.Elements.{filter-append}
use Rattle.std.proofs.lemmas.Bool.{lt-ltb, le-ltb}
use Rattle.kt_pool.specs.Contents.{Contents, at_cell, used}
use Rattle.kt_dms.specs.declared.store.DeltaMem.{DeltaMem}
use Rattle.kt_dms.specs.Stores as dms
use Rattle.kt_dms.specs.Stores.{number_of, deltas_of, steps_for}
use Rattle.kt_diskrowset.specs.Jobs.{behind_number, AreKept, AreEmptied, Emptying}
use Rattle.kt_diskrowset.specs.Mems.{AllStand, steps_in_mems, OwnedBy, AreApart}
use Rattle.kt_diskrowset.proofs.Beside.{all_stay, stand_front, stand_back, stand_both, owned_front, owned_back, owned_either, apart_front, apart_back, apart_between, apart_both, cells-append}

-- ---- what is kept

pub kept_steps : (old new : Contents) (n : ℕ) (xs : List DeltaMem) → AreKept old new xs → steps_in_mems new n xs ≡ steps_in_mems old n xs
kept_steps old new n [] h = refl
kept_steps old new n (x ∷ xs) h = ap (λ deltas. steps_for n deltas ++ steps_in_mems new n xs) h.0 ∙ ap (λ steps. steps_for n (deltas_of x old) ++ steps) (kept_steps old new n xs h.1)

all_same : (pool : Contents) (xs : List DeltaMem) → AreKept pool pool xs
all_same pool [] = tt
all_same pool (x ∷ xs) = (refl, all_same pool xs)

kept_both : (old new : Contents) (xs ys : List DeltaMem) → AreKept old new xs → AreKept old new ys → AreKept old new (xs ++ ys)
kept_both old new [] ys h k = k
kept_both old new (x ∷ xs) ys h k = (h.0, kept_both old new xs ys h.1 k)

kept_on : (old now new : Contents) (xs : List DeltaMem) → AreKept old now xs → AreKept now new xs → AreKept old new xs
kept_on old now new [] h k = tt
kept_on old now new (x ∷ xs) h k = (k.0 ∙ h.0, kept_on old now new xs h.1 k.1)

-- ---- one leaves from among others

module _ (front : List DeltaMem) (m : DeltaMem) (rest : List DeltaMem) where
  kept_without : (old new : Contents) → AreKept old new (front ++ m ∷ rest) → AreKept old new (front ++ rest)
  kept_without old new = by front
    where
      by : (xs : List DeltaMem) → AreKept old new (xs ++ m ∷ rest) → AreKept old new (xs ++ rest)
      by [] h = h.1
      by (x ∷ xs) h = (h.0, by xs h.1)

  module _ (pool : Contents) where
    stand_without : AllStand pool (front ++ m ∷ rest) → AllStand pool (front ++ rest)
    stand_without st = stand_both pool front rest (stand_front pool front (m ∷ rest) st) (stand_back pool front (m ∷ rest) st).1

    owned_with : (k : ℕ) → OwnedBy pool (front ++ rest) k → OwnedBy pool (front ++ m ∷ rest) k
    owned_with k own = elim (owned_either pool front rest k own) [ inl here ↦ owned_front pool front (m ∷ rest) k here | inr there ↦ owned_back pool front (m ∷ rest) k (inr there) ]

    not_mine : (k : ℕ) → AreApart pool (front ++ m ∷ rest) → OwnedBy pool (front ++ rest) k → ¬ dms.Owns m pool k
    not_mine k apart own = elim (owned_either pool front rest k own) [
      | inl here ↦ λ mine. apart_between pool front (m ∷ rest) k apart here (inl mine)
      | inr there ↦ λ mine. (apart_back pool front (m ∷ rest) apart).0 k mine there
    ]

    apart_without : AreApart pool (front ++ m ∷ rest) → AreApart pool (front ++ rest)
    apart_without apart = apart_both pool front rest (apart_front pool front (m ∷ rest) apart) (apart_back pool front (m ∷ rest) apart).1 (λ k here there. apart_between pool front (m ∷ rest) k apart here (inr there))

  pub one_leaves : (all : List DeltaMem) (old now new : Contents) → AreEmptied all (front ++ m ∷ rest) old now → ((k : ℕ) → ¬ dms.Owns m now k → at_cell new k ≡ at_cell now k)
      → used new + dms.cells_had m now ≡ used now → new.reserved ≡ now.reserved → length new.places ≡ length now.places → AreEmptied all (front ++ rest) old new
  one_leaves all old now new h frame fewer reserved size =
      let still = all_stay now new (front ++ rest) (stand_without now h.stand) (λ k own. frame k (not_mine now k h.apart own)) in
      record {
        stand = still.stand;
        apart = still.apart (apart_without now h.apart);
        kept = kept_on old now new (front ++ rest) (kept_without old now h.kept) still.kept;
        owned = λ k own. h.owned k (owned_with now k (still.back k own));
        frame = λ k none. frame k (λ mine. none (h.owned k (owned_back now front (m ∷ rest) k (inl mine)))) ∙ h.frame k none;
        cells =
            let was = h.cells in
            let a = cells-append now front (m ∷ rest) in
            let b = cells-append now front rest in
            let c = still.cells in
            omega arith;
        reserved = reserved ∙ h.reserved;
        size = size ∙ h.size;
      }

-- ---- one after another

pub none_emptied : (all : List DeltaMem) (pool : Contents) → AllStand pool all → AreApart pool all → AreEmptied all all pool pool
none_emptied all pool st apart = record { stand = st; apart = apart; kept = all_same pool all; owned = λ k own. own; frame = λ k none. refl; cells = refl; reserved = refl; size = refl }

pub none_passed : (last : ℕ) (all : List DeltaMem) (pool : Contents) → AllStand pool all → AreApart pool all → Emptying last all all 0 pool pool
none_passed last all pool st apart = record { front = []; rest = all; all_is = refl; left_is = refl; at_is = refl; emptied = none_emptied all pool st apart }

at_front : (front : List DeltaMem) (m : DeltaMem) (rest : List DeltaMem) (d : DeltaMem) → get_or (front ++ m ∷ rest) (length front) d ≡ m
at_front [] m rest d = refl
at_front (x ∷ front) m rest d = at_front front m rest d

remove_front : (front : List DeltaMem) (m : DeltaMem) (rest : List DeltaMem) → remove (front ++ m ∷ rest) (length front) ≡ front ++ rest
remove_front [] m rest = refl
remove_front (x ∷ front) m rest = ap (λ xs. x ∷ xs) (remove_front front m rest)

module _ (last : ℕ) (all left : List DeltaMem) (at : ℕ) (old now : Contents) (m : DeltaMem) where
  -- one with a number above stays
  pub one_stays : Emptying last all left at old now → at < length left → m ≡ get_or left at m → last < number_of m → Emptying last all left (at + 1) old now
  one_stays h low is above = by h.rest h.all_is h.left_is
    where
      by : (rest : List DeltaMem) → all ≡ h.front ++ rest → left ≡ behind_number last h.front ++ rest → Emptying last all left (at + 1) old now
      by [] whole part = absurd (
          let e = ap length part in
          let f = length-append (behind_number last h.front) [] in
          let g = h.at_is in omega (arith, low)
          )
      by (x ∷ rest) whole part =
          let same : m ≡ x = is ∙ ap (λ xs. get_or xs at m) part ∙ ap (λ i. get_or (behind_number last h.front ++ x ∷ rest) i m) h.at_is ∙ at_front (behind_number last h.front) x rest m in
          let mine : behind_number last (h.front ++ x ∷ []) ≡ behind_number last h.front ++ x ∷ [] =
          filter-append (λ (m : DeltaMem). nat_lt last (number_of m)) h.front (x ∷ [])
          ∙ ap (λ b. behind_number last h.front ++ cond b (x ∷ []) []) (lt-ltb last (number_of x) (subst (λ (m : DeltaMem). last < number_of m) same above)) in
          record {
            front = h.front ++ x ∷ [];
            rest = rest;
            all_is = whole ∙ sym (append_assoc h.front (x ∷ []) rest);
            left_is = part ∙ sym (append_assoc (behind_number last h.front) (x ∷ []) rest) ∙ ap (λ xs. xs ++ rest) (sym mine);
            at_is = let e = ap length mine in let f = length-append (behind_number last h.front) (x ∷ []) in let g = h.at_is in omega arith;
            emptied = h.emptied;
          }

  -- and another leaves
  pub one_goes : (next : List DeltaMem) (new : Contents) → Emptying last all left at old now → at < length left → m ≡ get_or left at m → number_of m ≤ last → next ≡ remove left at
      → ((k : ℕ) → ¬ dms.Owns m now k → at_cell new k ≡ at_cell now k) → used new + dms.cells_had m now ≡ used now → new.reserved ≡ now.reserved → length new.places ≡ length now.places → Emptying last all next at old new
  one_goes next new h low is below gone frame fewer reserved size = by h.rest h.all_is h.left_is
    where
      by : (rest : List DeltaMem) → all ≡ h.front ++ rest → left ≡ behind_number last h.front ++ rest → Emptying last all next at old new
      by [] whole part = absurd (
          let e = ap length part in
          let f = length-append (behind_number last h.front) [] in
          let g = h.at_is in omega (arith, low)
          )
      by (x ∷ rest) whole part =
          let same : m ≡ x = is ∙ ap (λ xs. get_or xs at m) part ∙ ap (λ i. get_or (behind_number last h.front ++ x ∷ rest) i m) h.at_is ∙ at_front (behind_number last h.front) x rest m in
          let mine : behind_number last (h.front ++ x ∷ []) ≡ behind_number last h.front =
          filter-append (λ (m : DeltaMem). nat_lt last (number_of m)) h.front (x ∷ [])
          ∙ ap (λ b. behind_number last h.front ++ cond b (x ∷ []) []) (le-ltb last (number_of x) (subst (λ (m : DeltaMem). number_of m ≤ last) same below))
          ∙ append-nil (behind_number last h.front) in
          let next_is : next ≡ behind_number last h.front ++ rest = gone ∙ ap (λ xs. remove xs at) part ∙ ap (λ i. remove (behind_number last h.front ++ x ∷ rest) i) h.at_is ∙ remove_front (behind_number last h.front) x rest in
          record {
            front = h.front ++ x ∷ [];
            rest = rest;
            all_is = whole ∙ sym (append_assoc h.front (x ∷ []) rest);
            left_is = next_is ∙ ap (λ xs. xs ++ rest) (sym mine);
            at_is = h.at_is ∙ sym (ap length mine);
            emptied = subst (λ (xs : List DeltaMem). AreEmptied all xs old new) (sym next_is)
                (one_leaves (behind_number last h.front) x rest all old now new (subst (λ (xs : List DeltaMem). AreEmptied all xs old now) part h.emptied)
                (subst (λ (m : DeltaMem). (k : ℕ) → ¬ dms.Owns m now k → at_cell new k ≡ at_cell now k) same frame) (subst (λ (m : DeltaMem). used new + dms.cells_had m now ≡ used now) same fewer) reserved size);
          }

-- all are gone over
pub all_passed : (last : ℕ) (all left : List DeltaMem) (at : ℕ) (old now : Contents) → Emptying last all left at old now → length left ≤ at → left ≡ behind_number last all
all_passed last all left at old now h past = by h.rest h.all_is h.left_is
  where
    by : (rest : List DeltaMem) → all ≡ h.front ++ rest → left ≡ behind_number last h.front ++ rest → left ≡ behind_number last all
    by [] whole part = part ∙ append-nil (behind_number last h.front) ∙ ap (behind_number last) (sym (append-nil h.front) ∙ sym whole)
    by (x ∷ rest) whole part = absurd (
        let e = ap length part in
        let f = length-append (behind_number last h.front) (x ∷ rest) in
        let g = h.at_is in omega (arith, past)
        )

-- ---- with one behind them that stays

pub emptied_before : (xs left : List DeltaMem) (a : DeltaMem) (old new : Contents) → AreEmptied xs left old new → AllStand old (xs ++ a ∷ []) → AreApart old (xs ++ a ∷ []) → AreEmptied (xs ++ a ∷ []) (left ++ a ∷ []) old new
emptied_before xs left a old new h st apart =
    let still = all_stay old new (a ∷ []) (stand_back old xs (a ∷ []) st) (λ k own. h.frame k (λ other. apart_between old xs (a ∷ []) k apart other own)) in
    record {
      stand = stand_both new left (a ∷ []) h.stand still.stand;
      apart = apart_both new left (a ∷ []) h.apart (still.apart (apart_back old xs (a ∷ []) apart)) (λ k own mine. apart_between old xs (a ∷ []) k apart (h.owned k own) (still.back k mine));
      kept = kept_both old new left (a ∷ []) h.kept still.kept;
      owned = λ k own. elim (owned_either new left (a ∷ []) k own) [ inl front ↦ owned_front old xs (a ∷ []) k (h.owned k front) | inr mine ↦ owned_back old xs (a ∷ []) k (still.back k mine) ];
      frame = λ k none. h.frame k (λ own. none (owned_front old xs (a ∷ []) k own));
      cells =
          let was = h.cells in
          let x = cells-append old xs (a ∷ []) in
          let y = cells-append new left (a ∷ []) in
          let z = still.cells in
          omega arith;
      reserved = h.reserved;
      size = h.size;
    }

pub same_at : (xs : List DeltaMem) (i : ℕ) (x y : DeltaMem) → i < length xs → x ≡ get_or xs i x → y ≡ get_or xs i y → x ≡ y
same_at [] i x y low e f = absurd (omega arith)
same_at (z ∷ xs) zero x y low e f = e ∙ sym f
same_at (z ∷ xs) (suc i) x y low e f = same_at xs i x y (omega arith) e f
