-- What is listed of stores of changes alone.
use Rattle.std.proofs.Common.{◌≡◌, ℕ, suc, Bool, true, false, cond, List, [], ◌∷◌, ◌++◌, map, Option, Some, None, refl, sym, ap, ◌∙◌, arith}
use Rattle.std.specs.Prelude.{nat_le, unwrap_or}
use Rattle.std.specs.List.{filter}
use Rattle.std.specs.Ordering.{is_eq, is_lt, eq_by_cmp}
use Rattle.std.specs.declared.cmp.Ordering.{Ordering}
use Rattle.std.specs.declared.cmp.Ordering.TheVariants.{Less, Equal, Greater}
use Rattle.std.specs.FinMap.Entries.{find, below_all, is_sorted}
use Rattle.std.proofs.lemmas.Bool.{le-leb}
use Rattle.std.proofs.lemmas.List.{map-append}
use Rattle.std.proofs.lemmas.List.Elements.{filter-append}
use Rattle.kt_base.proofs.Values.{both_true}
use Rattle.kt_history.specs.declared.change.Change.{Change}
use Rattle.kt_history.specs.declared.changes.KeyChange.{KeyChange}
use Rattle.kt_history.specs.AsBytes.{step_of}
use Rattle.kt_history.specs.Grown.{AllBare, IsGrown, AllGrown}
use Rattle.kt_history.specs.Rows.{Row, key_cmp}
use Rattle.kt_history.specs.Stores.{Steps, Hist, Store, Under, never, hist_in, key_change, row_changes, changes_upto}
use Rattle.kt_histlaws.specs.Flights.{AllUnder}
use Rattle.kt_histlaws.specs.Histories.{hists}
use Rattle.kt_merge.specs.Changes.{changes_of, steps_of, hist_in_changes}
use Rattle.kt_merge.specs.Heads.{hist_upto}
use Rattle.kt_merge.proofs.KeyChanges.{same_key, by_bool}
use Rattle.kt_joblaws.specs.Outputs.{lists_tell_all}

abbrev upto : ℕ → Steps → Steps
upto bound steps = filter (λ (c : ℕ × Change). nat_le c.0 bound) steps

-- no change is above it
pub upto_all : (bound : ℕ) (steps : Steps) → Under (suc bound) steps → upto bound steps ≡ steps
upto_all bound [] under = refl
upto_all bound (c ∷ steps) under =
    ap (λ (b : Bool). cond b (c ∷ upto bound steps) (upto bound steps)) (le-leb c.0 bound (let lt = under.0 in omega arith)) ∙ ap (λ (l : Steps). c ∷ l) (upto_all bound steps under.1)

-- the changes of one key among others
steps_join : (q : List ℕ) (xs ys : List KeyChange) → steps_of q (xs ++ ys) ≡ steps_of q xs ++ steps_of q ys
steps_join q xs ys = ap (map step_of) (filter-append (λ (c : KeyChange). eq_by_cmp key_cmp q c.key) xs ys) ∙ map-append step_of (changes_of q xs) (changes_of q ys)

own_steps : (q key : List ℕ) (steps : Steps) → eq_by_cmp key_cmp q key ≡ true → steps_of q (map (key_change key) steps) ≡ steps
own_steps q key [] e = refl
own_steps q key (c ∷ steps) e =
    ap (λ (b : Bool). map step_of (cond b (key_change key c ∷ changes_of q (map (key_change key) steps)) (changes_of q (map (key_change key) steps)))) e ∙ ap (λ (l : Steps). c ∷ l) (own_steps q key steps e)

other_steps : (q key : List ℕ) (steps : Steps) → eq_by_cmp key_cmp q key ≡ false → steps_of q (map (key_change key) steps) ≡ []
other_steps q key [] e = refl
other_steps q key (c ∷ steps) e =
    ap (λ (b : Bool). map step_of (cond b (key_change key c ∷ changes_of q (map (key_change key) steps)) (changes_of q (map (key_change key) steps)))) e ∙ other_steps q key steps e

-- no row behind one has its key
is_other : (o : Ordering) → is_lt o ≡ true → is_eq o ≡ false
is_other Less h = refl
is_other Equal h = cc
is_other Greater h = cc

none_behind : (bound : ℕ) (q : List ℕ) (store : Store) → below_all key_cmp q store ≡ true → steps_of q (changes_upto bound store) ≡ []
none_behind bound q [] below = refl
none_behind bound q (r ∷ store) below =
    let parts = both_true (is_lt (key_cmp q r.0)) (below_all key_cmp q store) below in
    steps_join q (row_changes bound r.0 r.1.steps) (changes_upto bound store)
    ∙ ap (λ (l : Steps). l ++ steps_of q (changes_upto bound store)) (other_steps q r.0 (upto bound r.1.steps) (is_other (key_cmp q r.0) parts.0)) ∙ none_behind bound q store parts.1

append_none : (xs : Steps) → xs ++ [] ≡ xs
append_none [] = refl
append_none (x ∷ xs) = ap (λ (l : Steps). x ∷ l) (append_none xs)

-- what is listed of a key is what the store has of it up to the bound
listed : (bound : ℕ) (q : List ℕ) (store : Store) → is_sorted key_cmp store ≡ true → AllBare store
    → (steps_of q (changes_upto bound store) ≡ upto bound (hist_in q store).steps) × ((hist_in q store).first ≡ None)
listed bound q [] sorted bare = (refl, refl)
listed bound q (r ∷ store) sorted bare =
    let parts = both_true (below_all key_cmp r.0 store) (is_sorted key_cmp store) sorted in
    let rest = listed bound q store parts.1 bare.1 in
    let join = steps_join q (row_changes bound r.0 r.1.steps) (changes_upto bound store) in
    by_bool (eq_by_cmp key_cmp q r.0)
    (λ tied.
    let found : hist_in q (r ∷ store) ≡ r.1 = ap (λ (b : Bool). unwrap_or (cond b (Some r.1) (find key_cmp q store)) never) tied in
    let below : below_all key_cmp q store ≡ true = ap (λ (k : List ℕ). below_all key_cmp k store) (same_key q r.0 tied) ∙ parts.0 in (
      join ∙ ap (λ (l : Steps). l ++ steps_of q (changes_upto bound store)) (own_steps q r.0 (upto bound r.1.steps) tied) ∙ ap (λ (l : Steps). upto bound r.1.steps ++ l) (none_behind bound q store below)
          ∙ append_none (upto bound r.1.steps) ∙ ap (λ (h : Hist). upto bound h.steps) (sym found),
      ap (λ (h : Hist). h.first) found ∙ bare.0,
    ))
    (λ other.
    let found : hist_in q (r ∷ store) ≡ hist_in q store = ap (λ (b : Bool). unwrap_or (cond b (Some r.1) (find key_cmp q store)) never) other in (
      join ∙ ap (λ (l : Steps). l ++ steps_of q (changes_upto bound store)) (other_steps q r.0 (upto bound r.1.steps) other) ∙ rest.0 ∙ ap (λ (h : Hist). upto bound h.steps) (sym found),
      ap (λ (h : Hist). h.first) found ∙ rest.1,
    ))

whole : (bound : ℕ) (q : List ℕ) (store : Store) → IsGrown store → Under (suc bound) (hist_in q store).steps → hist_upto bound (hist_in_changes q (changes_upto bound store)) ≡ hist_in q store
whole bound q store grown under =
    let told = listed bound q store grown.sorted grown.bare in
    let all : steps_of q (changes_upto bound store) ≡ (hist_in q store).steps = told.0 ∙ upto_all bound (hist_in q store).steps under in
    ap (λ (l : Steps). record { first = None; steps = upto bound l }) all ∙ ap (λ (l : Steps). record { first = None; steps = l }) (upto_all bound (hist_in q store).steps under)
    ∙ ap (λ (o : Option Row). record { first = o; steps = (hist_in q store).steps }) (sym told.1)

-- uncut
one_has : (bound : ℕ) (q : List ℕ) (store : Store) → IsGrown store → Under (suc bound) (hist_in q store).steps → hist_in_changes q (changes_upto bound store) ≡ hist_in q store
one_has bound q store grown under =
    let told = listed bound q store grown.sorted grown.bare in
    ap (λ (l : Steps). record { first = None; steps = l }) (told.0 ∙ upto_all bound (hist_in q store).steps under) ∙ ap (λ (o : Option Row). record { first = o; steps = (hist_in q store).steps }) (sym told.1)

pub they_have : (bound : ℕ) (q : List ℕ) (stores : List Store) → AllGrown stores → AllUnder (suc bound) (hists q stores) → map (hist_in_changes q) (map (changes_upto bound) stores) ≡ hists q stores
they_have bound q [] grown under = refl
they_have bound q (store ∷ stores) grown under =
    ap (λ (h : Hist). h ∷ map (hist_in_changes q) (map (changes_upto bound) stores)) (one_has bound q store grown.0 under.0) ∙ ap (λ (l : List Hist). hist_in q store ∷ l) (they_have bound q stores grown.1 under.1)

pub they_tell : lists_tell_all
they_tell bound q [] grown under = refl
they_tell bound q (store ∷ stores) grown under =
    ap (λ (h : Hist). h ∷ map (λ (list : List KeyChange). hist_upto bound (hist_in_changes q list)) (map (changes_upto bound) stores)) (whole bound q store grown.0 under.0)
    ∙ ap (λ (l : List Hist). hist_in q store ∷ l) (they_tell bound q stores grown.1 under.1)
