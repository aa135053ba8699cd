-- The keys of a scan's changes rise, and each row has one of them.
use Rattle.std.proofs.Common.{◌≡◌, ℕ, suc, List, [], ◌∷◌, length, None, refl, true, false, Bool, ◌&&◌, ◌||◌, cond, sym, ap, ◌∙◌, subst, map}
use Rattle.std.specs.Prelude.{not, IsSome}
use Rattle.std.specs.Cmp.{IsTotalOrder}
use Rattle.std.specs.List.{filter, list_all, list_any, Contains, AllByRecursion}
use Rattle.std.specs.Ordering.{is_gt, is_eq, eq_by_cmp}
use Rattle.std.specs.declared.cmp.Ordering.{Ordering}
use Rattle.std.specs.declared.cmp.Ordering.TheVariants.{Less, Equal, Greater}
use Rattle.std.proofs.lemmas.Bool.{false≢true, and_parts}
use Rattle.std.proofs.lemmas.Cmp.{nat_list_cmp_total, eq_by_cmp_equiv}
use Rattle.std.proofs.Math.Nat.{zero-lt-suc, suc-le-suc_iff}
use Rattle.std.specs.FinMap.{nat_cmp-IsAntisymmetric, slice_cmp-IsAntisymmetric}
use Rattle.kt_history.specs.declared.changes.KeyChange.{KeyChange}
use Rattle.kt_history.specs.Rows.{Row, key_cmp}
use Rattle.kt_history.specs.Views.{AreRising}
use Rattle.kt_history.specs.Stores.{after_steps}
use Rattle.kt_tablet.specs.Snaps.{rises, keys_in, changes_of, step_in, row_in}

pub order : IsTotalOrder key_cmp
order = nat_list_cmp_total

pub by_bool : {G : Type 0} (b : Bool) → (b ≡ true → G) → (b ≡ false → G) → G
by_bool true f g = f refl
by_bool false f g = g refl

pub not_true : (b : Bool) → not b ≡ true → b ≡ false
not_true true h = sym h
not_true false h = refl

less_of : (o : Ordering) → is_gt o ≡ false → is_eq o ≡ false → o ≡ Less
less_of Less g e = refl
less_of Equal g e = absurd (false≢true (sym e))
less_of Greater g e = absurd (false≢true (sym g))

pub equal_of : (o : Ordering) → is_eq o ≡ true → o ≡ Equal
equal_of Less e = absurd (false≢true e)
equal_of Equal e = refl
equal_of Greater e = absurd (false≢true e)

pub same_key : (a b : List ℕ) → eq_by_cmp key_cmp a b ≡ true → a ≡ b
same_key a b e = slice_cmp-IsAntisymmetric nat_cmp-IsAntisymmetric a b (equal_of (key_cmp a b) e)

filter_all : {X : Type 0} (p r : X → Bool) (xs : List X) → list_all p xs ≡ true → list_all p (filter r xs) ≡ true
filter_all p r [] h = refl
filter_all p r (x ∷ xs) h = let parts = and_parts (p x) (list_all p xs) h in by_bool (r x)
    (λ e. ap (λ b. list_all p (cond b (x ∷ filter r xs) (filter r xs))) e ∙ ap (λ b. b && list_all p (filter r xs)) parts.0 ∙ filter_all p r xs parts.1)
    (λ e. ap (λ b. list_all p (cond b (x ∷ filter r xs) (filter r xs))) e ∙ filter_all p r xs parts.1)

keys_all : (p : List ℕ → Bool) (cs : List KeyChange) → list_all (λ c. p c.key) cs ≡ true → list_all p (keys_in cs) ≡ true
keys_all p [] h = refl
keys_all p (c ∷ cs) h = let parts = and_parts (p c.key) (list_all (λ c. p c.key) cs) h in
    ap (λ b. b && list_all p (filter (λ key. not (eq_by_cmp key_cmp c.key key)) (keys_in cs))) parts.0 ∙ filter_all p (λ key. not (eq_by_cmp key_cmp c.key key)) (keys_in cs) (keys_all p cs parts.1)

all_less : (a : List ℕ) (keys : List (List ℕ)) → list_all (λ key. not (is_gt (key_cmp a key))) keys ≡ true → AllByRecursion (λ other. key_cmp a other ≡ Less) (filter (λ key. not (eq_by_cmp key_cmp a key)) keys)
all_less a [] h = tt
all_less a (key ∷ keys) h = by_bool (eq_by_cmp key_cmp a key)
    (λ e. subst (λ b. AllByRecursion (λ other. key_cmp a other ≡ Less) (cond (not b) (key ∷ filter (λ key. not (eq_by_cmp key_cmp a key)) keys) (filter (λ key. not (eq_by_cmp key_cmp a key)) keys))) (sym e) (all_less a keys (and_parts _ _ h).1))
    (λ e. subst (λ b. AllByRecursion (λ other. key_cmp a other ≡ Less) (cond (not b) (key ∷ filter (λ key. not (eq_by_cmp key_cmp a key)) keys) (filter (λ key. not (eq_by_cmp key_cmp a key)) keys))) (sym e)
    (less_of (key_cmp a key) (not_true _ (and_parts _ _ h).0) e, all_less a keys (and_parts _ _ h).1))

filter_less : (P : List ℕ → Type 0) (r : List ℕ → Bool) (keys : List (List ℕ)) → AllByRecursion P keys → AllByRecursion P (filter r keys)
filter_less P r [] h = tt
filter_less P r (key ∷ keys) h = elim (r key) as (λ b. AllByRecursion P (cond b (key ∷ filter r keys) (filter r keys))) [ true ↦ (h.0, filter_less P r keys h.1) | false ↦ filter_less P r keys h.1 ]

filter_rising : (r : List ℕ → Bool) (keys : List (List ℕ)) → AreRising keys → AreRising (filter r keys)
filter_rising r [] h = tt
filter_rising r (key ∷ keys) h = elim (r key) as (λ b. AreRising (cond b (key ∷ filter r keys) (filter r keys))) [ true ↦ (filter_less (λ other. key_cmp key other ≡ Less) r keys h.0, filter_rising r keys h.1) | false ↦ filter_rising r keys h.1 ]

pub keys_in_rise : (cs : List KeyChange) → rises cs ≡ true → AreRising (keys_in cs)
keys_in_rise [] h = tt
keys_in_rise (c ∷ cs) h = (all_less c.key (keys_in cs) (keys_all (λ key. not (is_gt (key_cmp c.key key))) cs (and_parts _ _ h).0), filter_rising (λ key. not (eq_by_cmp key_cmp c.key key)) (keys_in cs) (keys_in_rise cs (and_parts _ _ h).1))

-- a key that passes stays
any_filter : (r : List ℕ → Bool) (keys : List (List ℕ)) (q : List ℕ) → r q ≡ true → list_any (eq_by_cmp key_cmp q) keys ≡ true → list_any (eq_by_cmp key_cmp q) (filter r keys) ≡ true
any_filter r [] q pass h = h
any_filter r (key ∷ keys) q pass h = by_bool (eq_by_cmp key_cmp q key)
    (λ e. ap (λ b. list_any (eq_by_cmp key_cmp q) (cond b (key ∷ filter r keys) (filter r keys))) (ap r (sym (same_key q key e)) ∙ pass) ∙ ap (λ b. b || list_any (eq_by_cmp key_cmp q) (filter r keys)) e)
    (λ e. by_bool (r key)
    (λ kept. ap (λ b. list_any (eq_by_cmp key_cmp q) (cond b (key ∷ filter r keys) (filter r keys))) kept ∙ ap (λ b. b || list_any (eq_by_cmp key_cmp q) (filter r keys)) e ∙ any_filter r keys q pass (sym (ap (λ b. b || list_any (eq_by_cmp key_cmp q) keys) e) ∙ h))
    (λ gone. ap (λ b. list_any (eq_by_cmp key_cmp q) (cond b (key ∷ filter r keys) (filter r keys))) gone ∙ any_filter r keys q pass (sym (ap (λ b. b || list_any (eq_by_cmp key_cmp q) keys) e) ∙ h)))

contained : (keys : List (List ℕ)) (q : List ℕ) → list_any (eq_by_cmp key_cmp q) keys ≡ true → Contains keys q
contained [] q h = absurd (false≢true h)
contained (key ∷ keys) q h = by_bool (eq_by_cmp key_cmp q key)
    (λ e. (0, zero-lt-suc (length keys), sym (same_key q key e)))
    (λ e. let rest = contained keys q (sym (ap (λ b. b || list_any (eq_by_cmp key_cmp q) keys) e) ∙ h) in (suc rest.0, suc-le-suc_iff.1 rest.1, rest.2))

has_key : (q : List ℕ) (cs : List KeyChange) → (changes_of q cs ≡ [] → ⊥) → list_any (eq_by_cmp key_cmp q) (keys_in cs) ≡ true
has_key q [] some = absurd (some refl)
has_key q (c ∷ cs) some = by_bool (eq_by_cmp key_cmp q c.key)
    (λ e. ap (λ b. b || list_any (eq_by_cmp key_cmp q) (filter (λ key. not (eq_by_cmp key_cmp c.key key)) (keys_in cs))) e)
    (λ e. ap (λ b. b || list_any (eq_by_cmp key_cmp q) (filter (λ key. not (eq_by_cmp key_cmp c.key key)) (keys_in cs))) e
    ∙ any_filter (λ key. not (eq_by_cmp key_cmp c.key key)) (keys_in cs) q (ap not ((eq_by_cmp_equiv order).symm c.key q ∙ e)) (has_key q cs (λ none. some (ap (λ b. cond b (c ∷ changes_of q cs) (changes_of q cs)) e ∙ none))))

pub row_in_has_key : (fill : Row) (cs : List KeyChange) (q : List ℕ) (t : ℕ) → IsSome (row_in fill cs q t) → Contains (keys_in cs) q
row_in_has_key fill cs q t some = contained (keys_in cs) q (has_key q cs (λ none. false≢true (subst (λ l. IsSome (after_steps t (map (step_in fill) l) None)) none some)))
