-- What the hashes of held keys tell of the writes that fly.
use Rattle.std.proofs.Common.{◌≢◌, ◌&&◌, rules, ◌≡◌, ℕ, ◌+◌, ◌<◌, length, take, get_or, ◌++◌, Bool, true, false, cond, not, arith, ◌||◌, suc, List, [], ◌∷◌, Option, Some, None, refl, sym, ap, ◌∙◌, subst, ◌==◌, nat_eq}
use Rattle.std.specs.List.{All, filter, list_any}
use Rattle.std.specs.HashMap.{get, IsEmpty}
use Rattle.std.specs.Map.{lookup}
use Rattle.std.proofs.lemmas.List.Folds.{list_any-append, list_any_more}
use Rattle.std.proofs.lemmas.List.Elements.{All-nil, All-cons, All-head, All-tail, All-append, All-weaker, All-more}
use Rattle.std.proofs.lemmas.Map.Text.{is_eq-slice_cmp}
use Rattle.std.proofs.lemmas.Slice.Eq.{bytes_eq-Decides}
use Rattle.std.proofs.lemmas.Bool.{eqb-false, eqb-true, false≢true}
use Rattle.std.proofs.lemmas.Bool.Decides.{Decides-eqb}
use Rattle.kt_mvcc.specs.declared.flier.Flier.{Flier}
use Rattle.kt_mvcc.specs.declared.held.Held.{Held}
use Rattle.kt_mvcc.specs.Keys.{same_key}
use Rattle.kt_mvcc.specs.Flying.{holds_one, holder, least_of}
use Rattle.kt_mvcc.specs.Held.{hash_of, has_hash, holds_hash, HasOnly, Tells, IsFree, Keeps, KeepsOthers, Lacks, Stood, StoodElsewhere, HasLeft}

-- the writer that stands at the key's hash
abbrev pub writer : Held → List ℕ → Option ℕ
writer held key = get nat_eq held.writers (hash_of key)

abbrev pub Has : Held → ℕ → List ℕ → Type 0
Has held who key = writer held key ≡ Some who

abbrev pub HasAll : Held → Flier → Type 0
HasAll held f = All (Has held f.who) f.keys

key_is : (x y : List ℕ) → same_key x y ≡ true → x ≡ y
key_is x y same = (bytes_eq-Decides x y).0 (sym (is_eq-slice_cmp x y) ∙ same)

apart : (held : Held) (who : ℕ) (key other : List ℕ) (b : Bool) → same_key key other ≡ b → writer held key ≡ None → Has held who other → b ≡ false
apart held who key other false is free has = refl
apart held who key other true is free has = let e : key ≡ other = key_is key other is in let f : writer held key ≡ Some who = ap (writer held) e ∙ has in cc

one_none : (held : Held) (who : ℕ) (key : List ℕ) (keys : List (List ℕ)) → writer held key ≡ None → All (Has held who) keys → list_any (λ other. same_key key other) keys ≡ false
one_none held who key [] free has = refl
one_none held who key (k ∷ ks) free has =
    let here : same_key key k ≡ false = apart held who key k (same_key key k) refl free (All-head (Has held who) k ks has) in
    ap (λ b. b || list_any (λ other. same_key key other) ks) here ∙ one_none held who key ks free (All-tail (Has held who) k ks has)

holds_none : (held : Held) (f : Flier) (keys : List (List ℕ)) → HasAll held f → All (λ key. writer held key ≡ None) keys → holds_one keys f ≡ false
holds_none held f [] has free = refl
holds_none held f (k ∷ ks) has free =
    let here : list_any (λ other. same_key k other) f.keys ≡ false = one_none held f.who k f.keys (All-head (λ key. writer held key ≡ None) k ks free) has in
    ap (λ b. b || holds_one ks f) here ∙ holds_none held f ks has (All-tail (λ key. writer held key ≡ None) k ks free)

none_hold : (held : Held) (flying : List Flier) (keys : List (List ℕ)) → All (HasAll held) flying → All (λ key. writer held key ≡ None) keys → filter (holds_one keys) flying ≡ []
none_hold held [] keys has free = refl
none_hold held (f ∷ fs) keys has free =
    ap (λ b. cond b (f ∷ filter (holds_one keys) fs) (filter (holds_one keys) fs)) (holds_none held f keys (All-head (HasAll held) f fs has) free)
    ∙ none_hold held fs keys (All-tail (HasAll held) f fs has) free

-- where no writer stands at the hash of any of the keys, no flying write holds one
pub free_none : (held : Held) (flying : List Flier) (keys : List (List ℕ)) → Tells held flying → IsFree held keys → holder keys flying ≡ None
free_none held flying keys tells free = ap least_of (none_hold held flying keys (tells free.0).0 free.1)

-- the index tells of the same writes where its writers stand
pub tells_kept : (old new : Held) (flying : List Flier) → Keeps old new → Stood old new → Tells old flying → Tells new flying
tells_kept old new flying keeps stood tells whole =
    let t = tells (keeps.0 whole) in
    (All-weaker (HasAll old) (HasAll new) (λ f. All-weaker (Has old f.who) (Has new f.who) (λ key. keeps.1 (hash_of key) f.who) f.keys) flying t.0, λ hash who at. t.1 hash who (stood hash who at))

-- an index without a writer tells that nothing flies
pub tells_none : (held : Held) (flying : List Flier) → IsEmpty held.writers → length flying ≡ 0 → Tells held flying
tells_none held flying empty none whole =
    ((λ k d lt. absurd (omega arith)), λ hash who at. absurd (none_at (sym (ap (λ es. lookup (nat_eq hash) es) empty) ∙ at)))
  where
    none_at : {who : ℕ} → None ≡ Some who → ⊥
    none_at e = search rules

-- nor where the only one ends
none_left : (who : ℕ) (flying : List Flier) → length flying ≡ 1 → list_any (λ f. f.who == who) flying ≡ true → length (filter (λ f. not (f.who == who)) flying) ≡ 0
none_left who [] one any = refl
none_left who (f ∷ []) one any = elim (f.who == who) as (λ b. (b || false) ≡ true → length (cond (not b) (f ∷ []) []) ≡ 0) [ true ↦ λ here. refl | false ↦ λ other. absurd (false≢true other) ] any
none_left who (f ∷ g ∷ flying) one any = absurd (omega (arith, one))

pub tells_alone : (held : Held) (who : ℕ) (flying : List Flier) → IsEmpty held.writers → length flying ≡ 1 → list_any (λ f. f.who == who) flying ≡ true → Tells held (filter (λ f. not (f.who == who)) flying)
tells_alone held who flying empty one any = tells_none held (filter (λ f. not (f.who == who)) flying) empty (none_left who flying one any)

-- where nothing flies, no write holds a key
pub none_holds : (keys : List (List ℕ)) (flying : List Flier) → (length flying == 0) ≡ true → None ≡ holder keys flying
none_holds keys [] none = refl
none_holds keys (f ∷ flying) none = absurd (omega (arith, eqb-true (suc (length flying)) 0 none))

-- at the hash of one of a writer's keys stands that writer
at_hash : (held : Held) (who hash : ℕ) (keys : List (List ℕ)) → All (Has held who) keys → has_hash hash keys ≡ true → get nat_eq held.writers hash ≡ Some who
at_hash held who hash [] has is = search rules
at_hash held who hash (k ∷ ks) has is = elim (hash_of k == hash) as (λ b. hash_of k == hash ≡ b → get nat_eq held.writers hash ≡ Some who) [
  | true ↦ λ e. subst (λ h. get nat_eq held.writers h ≡ Some who) (eqb-true (hash_of k) hash e) (All-head (Has held who) k ks has)
  | false ↦ λ e. at_hash held who hash ks (All-tail (Has held who) k ks has) (sym (ap (λ b. b || has_hash hash ks) e) ∙ is)
] refl

pub tells_more : (old new : Held) (flying : List Flier) (f : Flier) → (new.whole ≡ true → Keeps old new) → (new.whole ≡ true → HasAll new f) → StoodElsewhere f.keys old new → Tells old flying → Tells new (flying ++ f ∷ [])
tells_more old new flying f keeps has stood tells whole =
    let k = keeps whole in
    let t = tells (k.0 whole) in (
      All-append (HasAll new) flying (f ∷ []) (All-weaker (HasAll old) (HasAll new) (λ g. All-weaker (Has old g.who) (Has new g.who) (λ key. k.1 (hash_of key) g.who) g.keys) flying t.0) (All-cons (HasAll new) f [] (has whole) (All-nil (HasAll new))),
      λ hash who at. list_any-append (λ g. (g.who == who) && has_hash hash g.keys) flying (f ∷ []) ∙ by hash who at t.1 (has_hash hash f.keys) refl,
    )
  where
    or_true : (a : Bool) → (a || true) ≡ true
    or_true true = refl
    or_true false = refl

    by : (hash who : ℕ) → get nat_eq new.writers hash ≡ Some who → HasOnly old flying → (b : Bool) → has_hash hash f.keys ≡ b → (holds_hash hash who flying || (((f.who == who) && has_hash hash f.keys) || false)) ≡ true
    by hash who at only false e = ap (λ b. b || (((f.who == who) && has_hash hash f.keys) || false)) (only hash who (stood hash who e at))
    by hash who at only true e =
        let here : Some f.who ≡ Some who = sym (at_hash new f.who hash f.keys (has whole) e) ∙ at in
        let same : f.who ≡ who = cc in
        ap (λ b. holds_hash hash who flying || ((b && has_hash hash f.keys) || false)) ((Decides-eqb f.who who).1 same) ∙ ap (λ b. holds_hash hash who flying || (b || false)) e ∙ or_true (holds_hash hash who flying)

others_kept : (old new : Held) (who : ℕ) (flying : List Flier) → KeepsOthers who old new → All (HasAll old) flying → All (HasAll new) (filter (λ f. not (f.who == who)) flying)
others_kept old new who [] keeps has = All-nil (HasAll new)
others_kept old new who (f ∷ fs) keeps has = by (others_kept old new who fs keeps (All-tail (HasAll old) f fs has)) (f.who == who) refl
  where
    by : All (HasAll new) (filter (λ f. not (f.who == who)) fs) → (b : Bool) → (f.who == who) ≡ b → All (HasAll new) (cond (not b) (f ∷ filter (λ f. not (f.who == who)) fs) (filter (λ f. not (f.who == who)) fs))
    by rest true is = rest
    by rest false is = All-cons (HasAll new) f (filter (λ f. not (f.who == who)) fs)
        (All-weaker (Has old f.who) (Has new f.who) (λ key. keeps.1 (hash_of key) f.who (eqb-false f.who who is)) f.keys (All-head (HasAll old) f fs has)) rest

-- a writer that stands at this hash and has left it is not there
gone : (new : Held) (who hash : ℕ) (keys : List (List ℕ)) → All (λ key. writer new key ≢ Some who) keys → get nat_eq new.writers hash ≡ Some who → has_hash hash keys ≡ true → ⊥
gone new who hash [] none here has = search rules
gone new who hash (k ∷ ks) none here has = elim (hash_of k == hash) as (λ b. hash_of k == hash ≡ b → ⊥) [
  | true ↦ λ e. All-head (λ key. writer new key ≢ Some who) k ks none (ap (λ h. get nat_eq new.writers h) (eqb-true (hash_of k) hash e) ∙ here)
  | false ↦ λ e. gone new who hash ks (All-tail (λ key. writer new key ≢ Some who) k ks none) here (sym (ap (λ b. b || has_hash hash ks) e) ∙ has)
] refl

-- where each writer that stands stood, and one has let go of its keys, each that stands is another's
only_others : (new : Held) (who hash other : ℕ) (flying : List Flier) → get nat_eq new.writers hash ≡ Some other → All (HasLeft new who) flying → holds_hash hash other flying ≡ true → holds_hash hash other (filter (λ f. not (f.who == who)) flying) ≡ true
only_others new who hash other [] at left is = is
only_others new who hash other (f ∷ fs) at left is = by (only_others new who hash other fs at (All-tail (HasLeft new who) f fs left)) (f.who == who) refl ((f.who == other) && has_hash hash f.keys) refl
  where
    both : (a b : Bool) → (a && b) ≡ true → (a ≡ true) × (b ≡ true)
    both true b e = (refl, e)
    both false b e = search rules

    by : (holds_hash hash other fs ≡ true → holds_hash hash other (filter (λ g. not (g.who == who)) fs) ≡ true) → (b : Bool) → (f.who == who) ≡ b → (h : Bool) → ((f.who == other) && has_hash hash f.keys) ≡ h
        → holds_hash hash other (cond (not b) (f ∷ filter (λ g. not (g.who == who)) fs) (filter (λ g. not (g.who == who)) fs)) ≡ true
    by more true own false e = more (sym (ap (λ b. b || holds_hash hash other fs) e) ∙ is)
    by more true own true e =
        let two = both (f.who == other) (has_hash hash f.keys) e in
        let is_who : f.who ≡ who = eqb-true f.who who own in
        let is_other : f.who ≡ other = eqb-true f.who other two.0 in
        absurd (gone new who hash f.keys (All-head (HasLeft new who) f fs left is_who) (at ∙ ap Some (sym is_other ∙ is_who)) two.1)
    by more false own true e = ap (λ b. b || holds_hash hash other (filter (λ g. not (g.who == who)) fs)) e
    by more false own false e = ap (λ b. b || holds_hash hash other (filter (λ g. not (g.who == who)) fs)) e ∙ more (sym (ap (λ b. b || holds_hash hash other fs) e) ∙ is)

-- after a write has let go of its keys, the index tells of the others
pub tells_fewer : (old new : Held) (who : ℕ) (flying : List Flier) → KeepsOthers who old new → Stood old new → All (HasLeft new who) flying → Tells old flying → Tells new (filter (λ f. not (f.who == who)) flying)
tells_fewer old new who flying keeps stood left tells whole =
    let t = tells (keeps.0 whole) in
    (others_kept old new who flying keeps t.0, λ hash other at. only_others new who hash other flying at left (t.1 hash other (stood hash other at)))

-- one write more has let go of its keys
pub left_more : (old new : Held) (who : ℕ) (flying : List Flier) (i : ℕ) (f : Flier) → i < length flying → f ≡ get_or flying i f → Lacks who old new → All (HasLeft old who) (take i flying) → HasLeft new who f → All (HasLeft new who) (take (i + 1) flying)
left_more old new who flying i f within is lacks so_far here =
    All-more (HasLeft new who) flying i f within
    (All-weaker (HasLeft old who) (HasLeft new who) (λ g h own. All-weaker (λ key. writer old key ≢ Some who) (λ key. writer new key ≢ Some who) (λ key. lacks (hash_of key)) g.keys (h own)) (take i flying) so_far)
    (subst (HasLeft new who) is here)

-- writers were put at the hashes of these keys alone, and of one more
pub elsewhere_then : (first old new : Held) (keys : List (List ℕ)) (i : ℕ) (key : List ℕ) → i < length keys → key ≡ get_or keys i key → StoodElsewhere (take i keys) first old
    → ((hash who : ℕ) → hash ≢ hash_of key → get nat_eq new.writers hash ≡ Some who → get nat_eq old.writers hash ≡ Some who) → StoodElsewhere (take (i + 1) keys) first new
elsewhere_then first old new keys i key within is so_far here hash who none at =
    let parts = neither (has_hash hash (take i keys)) (hash_of (get_or keys i key) == hash) (sym (list_any_more (λ k. hash_of k == hash) keys i key within) ∙ none) in
    so_far hash who parts.0 (here hash who (λ e. apart (sym e) parts.1) at)
  where
    neither : (a b : Bool) → (a || b) ≡ false → (a ≡ false) × (b ≡ false)
    neither true b e = search rules
    neither false b e = (refl, e)

    apart : hash_of key ≡ hash → (hash_of (get_or keys i key) == hash) ≡ false → ⊥
    apart e f = eqb-false (hash_of (get_or keys i key)) hash f (sym (ap hash_of is) ∙ e)

-- one key more is held
pub keeps_then : (first old new : Held) → (old.whole ≡ true → Keeps first old) → Keeps old new → new.whole ≡ true → Keeps first new
keeps_then first old new so_far keeps whole =
    let before = so_far (keeps.0 whole) in
    (λ w. before.0 (keeps.0 w), λ hash who has. keeps.1 hash who (before.1 hash who has))

pub has_more : (old new : Held) (who : ℕ) (keys : List (List ℕ)) (i : ℕ) (key : List ℕ) → i < length keys → key ≡ get_or keys i key → Keeps old new → All (Has old who) (take i keys) → Has new who key
    → All (Has new who) (take (i + 1) keys)
has_more old new who keys i key within is keeps so_far here =
    All-more (Has new who) keys i key within (All-weaker (Has old who) (Has new who) (λ k. keeps.1 (hash_of k) who) (take i keys) so_far) (subst (Has new who) is here)
