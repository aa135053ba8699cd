-- What keeps a job's own of a key.
use Rattle.std.proofs.Common.{◌≡◌, ◌≤◌, ◌<◌, ℕ, zero, suc, length, List, [], ◌∷◌, ◌++◌, Some, None, Option, refl, sym, ap, ◌∙◌, subst, arith, cond, true, false, Bool, map, ◌⊎◌, inl, inr, append_assoc}
use Rattle.std.specs.Prelude.{not}
use Rattle.std.proofs.lemmas.List.{append-nil}
use Rattle.kt_history.specs.declared.target.Target.{Target}
use Rattle.kt_history.specs.Rows.{Row}
use Rattle.kt_history.specs.Operations.{effect}
use Rattle.kt_histlaws.specs.Histories.{on_nth}
use Rattle.kt_history.specs.Stores.{Hist, push}
use Rattle.kt_history.specs.declared.change.Change.{Change}
use Rattle.kt_histlaws.proofs.Fitting.{sound_push}
use Rattle.kt_histlaws.proofs.Jobs.{both_alike}
use Rattle.kt_histlaws.specs.Fitting.{AreSound}
use Rattle.kt_histlaws.specs.Jobs.{AreAlike, push_all}
use Rattle.kt_content.specs.Places.{Super, Place, same_place, Held, Moves, at_first, row_before, needs, and_place, needed_in}
use Rattle.kt_content.specs.KeyOps.{KeyOp}
use Rattle.kt_content.specs.Publishing.{gone, AllKept, AllGone}
use Rattle.kt_content.specs.Successors.{place_named}
use Rattle.kt_content.specs.InMemory.{Name, Stores, stands_for, is_at, group, groups, index_in, joined_name, hist_at, HasPlace}
use Rattle.kt_content.specs.MoreOps.{LacksPlace, PlacesDiffer, told}
use Rattle.kt_content.specs.StoreChanges.{moves_to, steps_to}
use Rattle.kt_content.specs.Lending.{Fate, AllFates, with_changes}
use Rattle.kt_content.proofs.Agreement.{before-push}
use Rattle.kt_content.specs.KeyOps.{may_join}
use Rattle.kt_content.specs.Lending.Fate.{apart, covered, doubled, stays}
use Rattle.kt_content.specs.JobEvents.{left_names_are_apart, taken_names_are_covered, names_of_both_are_doubled, other_stores_leave_a_job, AllUpTo, an_operation_more_keeps_a_job, an_operation_apart_keeps_a_job, further, index_among, a_change_joins_one_of_the_groups, a_row_of_both_keeps_a_job, another_superblock_leaves_a_job}
use Rattle.kt_content.proofs.Successors.{same_needs, needs_named, and_kept, and_gone}
use Rattle.kt_content.proofs.MoreOps.{place_itself, is_same}
use Rattle.kt_content.proofs.InMemory.{group_same, group_other, index_long}
use Rattle.kt_content.proofs.TwoPhases.{has-gone, hist-gone}
use Rattle.kt_content.proofs.Lending.{gone_is, gone_has}
use Rattle.kt_content.proofs.StoreChanges.{push_more}

pub left_apart : left_names_are_apart
left_apart keep old new [] s l = (tt, refl)
left_apart keep old new (t ∷ targets) s l =
    let rest = left_apart keep old new targets s l.1 in
    elim l.0 [
      | inl k ↦ (
        and_kept keep (needs old t) (needed_in old targets) (λ p e. ap keep (sym (needs_named old t p e)) ∙ k) rest.0,
        ap (λ o. and_place o (needed_in new targets)) (same_needs keep old new t s k) ∙ ap (and_place (needs old t)) rest.1,
      )
      | inr n ↦ (
        subst (λ o. AllKept keep (and_place o (needed_in old targets))) (sym n.0) rest.0,
        ap (λ o. and_place o (needed_in new targets)) n.1 ∙ rest.1 ∙ sym (ap (λ o. and_place o (needed_in old targets)) n.0),
      )
    ]

one_gone : (keep : Place → Bool) (old : Super) (t : Target) (places : List Place) → ((keep (place_named t) ≡ false) ⊎ (needs old t ≡ None)) → AllGone keep places → AllGone keep (and_place (needs old t) places)
one_gone keep old t places (inl k) all = and_gone keep (needs old t) places (λ p e. ap keep (sym (needs_named old t p e)) ∙ k) all
one_gone keep old t places (inr n) all = subst (λ o. AllGone keep (and_place o places)) (sym n) all

pub taken_covered : taken_names_are_covered
taken_covered keep old new [] a = (tt, refl)
taken_covered keep old new (t ∷ targets) a =
    let rest = taken_covered keep old new targets a.1 in
    (one_gone keep old t (needed_in old targets) a.0.0 rest.0, ap (λ o. and_place o (needed_in new targets)) a.0.1 ∙ rest.1)

pub both_doubled : names_of_both_are_doubled
both_doubled keep old new i o p taken none some = (
  one_gone keep old i (needed_in old (o ∷ [])) taken.0 (subst (λ n. AllGone keep (and_place n [])) (sym none) tt),
  ap (λ n. and_place n (needed_in new (o ∷ []))) taken.1 ∙ ap (λ n. and_place n []) some,
)

-- stores elsewhere

groups_same : (super : Super) (stores later : Stores) (held : Held) → ((p : Place) → HasPlace p held → group super p later ≡ group super p stores) → groups super later held ≡ groups super stores held
groups_same super stores later [] same = refl
groups_same super stores later (h ∷ held) same = ap (λ l. l ++ groups super later held) (same h.0 (inl (place_itself h.0))) ∙ ap (λ l. group super h.0 stores ++ l) (groups_same super stores later held (λ p has. same p (inr has)))

pub others_leave : other_stores_leave_a_job
others_leave fill keep old new j stores later q xs ms same g =
    let ins = groups_same old stores later (gone keep (at_first q old)) (λ p has. (same p (gone_is keep p (at_first q old) has)).0) in
    let outs = groups_same new stores later (gone keep (at_first q new)) (λ p has. (same p (gone_is keep p (at_first q new) has)).1) in
    record {
      moves = g.moves;
      fates = g.fates;
      outs = λ p k has. (same p k).1 ∙ g.outs p k has;
      alike = subst (λ (l : List Hist). AreAlike j l (groups new later (gone keep (at_first q new)))) (sym ins) (subst (λ (l : List Hist). AreAlike j (groups old stores (gone keep (at_first q old))) l) (sym outs) g.alike);
      sound = subst (λ (l : List Hist). AreSound j l) (sym outs) g.sound;
    }

-- a operation more

one_fate : (fill : Row) (keep : Place → Bool) (old new : Super) (j : ℕ) (was now : Place → Hist) (x : KeyOp) (m n : Moves) → ((p : Place) → row_before x.ts (now p) ≡ row_before x.ts (was p)) → Fate fill keep old new j was x m n → Fate fill keep old new j now x m n
one_fate fill keep old new j was now x m n same (apart targets told k e is) = apart targets told k e is
one_fate fill keep old new j was now x m n same (covered targets told g e is) = covered targets told g e is
one_fate fill keep old new j was now x m n same (doubled targets p c row told g e k lt made is) = doubled targets p c row told g e k lt made is
one_fate fill keep old new j was now x m n same (stays targets p c told g e k made is) = stays targets p c told g e k (ap (λ r. may_join p (effect fill x.op.kind x.op.cells r).0) (same p) ∙ made) is

fates_more : (fill : Row) (keep : Place → Bool) (old new : Super) (j : ℕ) (was now : Place → Hist) (xs : List KeyOp) (ms ns : List Moves) (x : KeyOp) (m n : Moves) → AllUpTo x.ts xs → ((p : Place) (t : ℕ) → t ≤ x.ts → row_before t (now p) ≡ row_before t (was p))
    → AllFates fill keep old new j was xs ms ns → Fate fill keep old new j was x m n → AllFates fill keep old new j now (xs ++ x ∷ []) (ms ++ m ∷ []) (ns ++ n ∷ [])
fates_more fill keep old new j was now [] [] [] x m n up same f one = (one_fate fill keep old new j was now x m n (λ p. same p x.ts (omega arith)) one, tt)
fates_more fill keep old new j was now [] [] (k ∷ ns) x m n up same f one = absurd f
fates_more fill keep old new j was now [] (l ∷ ms) ns x m n up same f one = absurd f
fates_more fill keep old new j was now (y ∷ xs) [] ns x m n up same f one = absurd f
fates_more fill keep old new j was now (y ∷ xs) (l ∷ ms) [] x m n up same f one = absurd f
fates_more fill keep old new j was now (y ∷ xs) (l ∷ ms) (k ∷ ns) x m n up same f one = (one_fate fill keep old new j was now y l k (λ p. same p y.ts up.0) f.0, fates_more fill keep old new j was now xs ms ns x m n up.1 same f.1 one)

rows_before : (t ts : ℕ) (p : Place) (n : Moves) (h : Hist) → t ≤ ts → row_before t (push_all (moves_to p ts n) h) ≡ row_before t h
rows_before t ts p [] h le = ap (λ s. row_before t (record h { steps = s })) (append-nil h.steps)
rows_before t ts p (m ∷ n) h le = elim (same_place p m.0) as (λ b. row_before t (push_all (cond b ((ts, m.1) ∷ moves_to p ts n) (moves_to p ts n)) h) ≡ row_before t h) [
  | true ↦ ap (row_before t) (sym (push_more ((ts, m.1) ∷ []) (moves_to p ts n) h)) ∙ rows_before t ts p n (push ts m.1 h) le ∙ before-push t ts m.1 h le
  | false ↦ rows_before t ts p n h le
]

steps_more : (fill : Row) (keep : Place → Bool) (old new : Super) (j : ℕ) (was : Place → Hist) (p : Place) (xs : List KeyOp) (ms ns : List Moves) (x : KeyOp) (n : Moves) → AllFates fill keep old new j was xs ms ns
    → steps_to p (xs ++ x ∷ []) (ns ++ n ∷ []) ≡ steps_to p xs ns ++ moves_to p x.ts n
steps_more fill keep old new j was p [] [] [] x n f = append-nil (moves_to p x.ts n)
steps_more fill keep old new j was p [] [] (k ∷ ns) x n f = absurd f
steps_more fill keep old new j was p [] (l ∷ ms) ns x n f = absurd f
steps_more fill keep old new j was p (y ∷ xs) [] ns x n f = absurd f
steps_more fill keep old new j was p (y ∷ xs) (l ∷ ms) [] x n f = absurd f
steps_more fill keep old new j was p (y ∷ xs) (l ∷ ms) (k ∷ ns) x n f =
    ap (λ s. moves_to p y.ts k ++ s) (steps_more fill keep old new j was p xs ms ns x n f.1) ∙ sym (append_assoc (moves_to p y.ts k) (steps_to p xs ns) (moves_to p x.ts n))

more_changes : (fill : Row) (keep : Place → Bool) (old new : Super) (j : ℕ) (was : Place → Hist) (q : List ℕ) (p : Place) (xs : List KeyOp) (ms ns : List Moves) (x : KeyOp) (n : Moves) → AllFates fill keep old new j was xs ms ns
    → push_all (moves_to p x.ts n) (with_changes q new xs ns p) ≡ with_changes q new (xs ++ x ∷ []) (ns ++ n ∷ []) p
more_changes fill keep old new j was q p xs ms ns x n f =
    push_more (steps_to p xs ns) (moves_to p x.ts n) (hist_at p (at_first q new)) ∙ ap (λ s. push_all s (hist_at p (at_first q new))) (sym (steps_more fill keep old new j was p xs ms ns x n f))

pub operation_more : an_operation_more_keeps_a_job
operation_more fill keep old new j stores later q xs ms x m n up g fate takes alike sound = record {
  moves = g.moves ++ n ∷ [];
  fates = fates_more fill keep old new j (with_changes q new xs g.moves) (with_changes q new (xs ++ x ∷ []) (g.moves ++ n ∷ [])) xs ms g.moves x m n up
      (λ p t le. ap (row_before t) (sym (more_changes fill keep old new j (with_changes q new xs g.moves) q p xs ms g.moves x n g.fates)) ∙ rows_before t x.ts p n (with_changes q new xs g.moves p) le) g.fates fate;
  outs = λ p k has. takes p k has ∙ ap (map (push_all (moves_to p x.ts n))) (g.outs p k has) ∙ ap (λ h. h ∷ []) (more_changes fill keep old new j (with_changes q new xs g.moves) q p xs ms g.moves x n g.fates);
  alike = alike;
  sound = sound;
}

pub operation_apart : an_operation_apart_keeps_a_job
operation_apart fill keep old new j stores q xs ms x m targets up told k e none g =
    operation_more fill keep old new j stores stores q xs ms x m m up g (apart targets told k e refl)
    (λ p gone has. g.outs p gone has ∙ ap (λ h. h ∷ []) (push_nothing (push_all (steps_to p xs g.moves) (hist_at p (at_first q new))) ∙ ap (λ s. push_all s (push_all (steps_to p xs g.moves) (hist_at p (at_first q new)))) (sym (none p gone))) ∙ sym (ap (map (push_all (moves_to p x.ts m))) (g.outs p gone has)))
    g.alike g.sound
  where
    push_nothing : (h : Hist) → h ≡ push_all [] h
    push_nothing h = ap (λ s. record h { steps = s }) (sym (append-nil h.steps))

-- a change that joins one of the groups

nth_front : {A : Type 0} (i : ℕ) (f : A → A) (xs ys : List A) → i < length xs → on_nth i f (xs ++ ys) ≡ on_nth i f xs ++ ys
nth_front i f [] ys l = absurd (omega (arith, l))
nth_front zero f (x ∷ xs) ys l = refl
nth_front (suc i) f (x ∷ xs) ys l = ap (λ r. x ∷ r) (nth_front i f xs ys (omega (arith, l)))

nth_behind : {A : Type 0} (i : ℕ) (f : A → A) (xs ys : List A) → on_nth (further xs i) f (xs ++ ys) ≡ xs ++ on_nth i f ys
nth_behind i f [] ys = refl
nth_behind i f (x ∷ xs) ys = ap (λ r. x ∷ r) (nth_behind i f xs ys)

long_front : {A : Type 0} (i : ℕ) (xs ys : List A) → i < length xs → i < length (xs ++ ys)
long_front i [] ys l = absurd (omega (arith, l))
long_front zero (x ∷ xs) ys l = omega arith
long_front (suc i) (x ∷ xs) ys l = let r = long_front i xs ys (omega (arith, l)) in omega (arith, r)

long_behind : {A : Type 0} (i : ℕ) (xs ys : List A) → i < length ys → further xs i < length (xs ++ ys)
long_behind i [] ys l = l
long_behind i (x ∷ xs) ys l = let r = long_behind i xs ys l in omega (arith, r)

at_other : (p r : Place) (o : Option Place) → o ≡ Some p → same_place r p ≡ false → is_at r o ≡ false
at_other p r o e ne = ap (is_at r) e ∙ ne

turned : (p r : Place) → same_place p r ≡ false → same_place r p ≡ false
turned p r ne = elim (same_place r p) as (λ b. same_place r p ≡ b → b ≡ false) [
  | true ↦ λ e. let same : p ≡ r = sym (is_same r p e) in let one : same_place p r ≡ true = ap (λ k. same_place k r) same ∙ place_itself r in sym one ∙ ne
  | false ↦ λ e. refl
] refl

groups_lack : (super : Super) (stores : Stores) (n : Name) (p : Place) (ts : ℕ) (c : Change) (held : Held) → stands_for super n ≡ Some p → LacksPlace p held → groups super (joined_name n ts c stores) held ≡ groups super stores held
groups_lack super stores n p ts c [] at l = refl
groups_lack super stores n p ts c (h ∷ held) at l =
    ap (λ g. g ++ groups super (joined_name n ts c stores) held) (group_other super h.0 n ts c stores (at_other p h.0 (stands_for super n) at (turned p h.0 l.0)))
    ∙ ap (λ g. group super h.0 stores ++ g) (groups_lack super stores n p ts c held at l.1)

pub groups_none : (super : Super) (stores : Stores) (n : Name) (ts : ℕ) (c : Change) (held : Held) → stands_for super n ≡ None → groups super (joined_name n ts c stores) held ≡ groups super stores held
groups_none super stores n ts c [] none = refl
groups_none super stores n ts c (h ∷ held) none =
    ap (λ g. g ++ groups super (joined_name n ts c stores) held) (group_other super h.0 n ts c stores (ap (is_at h.0) none)) ∙ ap (λ g. group super h.0 stores ++ g) (groups_none super stores n ts c held none)

pub joins_one : a_change_joins_one_of_the_groups
joins_one super stores n p h ts c [] d has at is = absurd has
joins_one super stores n p h ts c (x ∷ held) d has at is = elim (same_place p x.0) as (λ b. same_place p x.0 ≡ b
    → (groups super (joined_name n ts c stores) (x ∷ held) ≡ on_nth (index_among super stores n (x ∷ held)) (push ts c) (groups super stores (x ∷ held))) × (index_among super stores n (x ∷ held) < length (groups super stores (x ∷ held)))) [
      | true ↦ λ e.
          let here : p ≡ x.0 = is_same p x.0 e in
          let stands : stands_for super n ≡ Some x.0 = at ∙ ap Some here in
          let first : is_at x.0 (stands_for super n) ≡ true = ap (is_at x.0) stands ∙ place_itself x.0 in
          let long = index_long super x.0 n h stores is stands in
          let rest = groups_lack super stores n p ts c held at (subst (λ (k : Place). LacksPlace k held) (sym here) d.0) in
          rw first (
            ap (λ g. g ++ groups super (joined_name n ts c stores) held) (group_same super x.0 n ts c stores stands) ∙ ap (λ g. on_nth (index_in super x.0 n stores) (push ts c) (group super x.0 stores) ++ g) rest
                ∙ sym (nth_front (index_in super x.0 n stores) (push ts c) (group super x.0 stores) (groups super stores held) long),
            long_front (index_in super x.0 n stores) (group super x.0 stores) (groups super stores held) long,
          )
      | false ↦ λ e.
          let other : is_at x.0 (stands_for super n) ≡ false = at_other p x.0 (stands_for super n) at (turned p x.0 e) in
          let rest = joins_one super stores n p h ts c held d.1 (elim has [ inl y ↦ absurd (let f : true ≡ false = sym y ∙ e in cc) | inr y ↦ y ]) at is in
          rw other (
            ap (λ g. g ++ groups super (joined_name n ts c stores) held) (group_other super x.0 n ts c stores other) ∙ ap (λ g. group super x.0 stores ++ g) rest.0
                ∙ sym (nth_behind (index_among super stores n held) (push ts c) (group super x.0 stores) (groups super stores held)),
            long_behind (index_among super stores n held) (group super x.0 stores) (groups super stores held) rest.1,
          )
    ] refl

lacks_gone : (keep : Place → Bool) (p : Place) (held : Held) → LacksPlace p held → LacksPlace p (gone keep held)
lacks_gone keep p [] l = tt
lacks_gone keep p (h ∷ held) l = elim (keep h.0) as (λ b. LacksPlace p (cond (not b) (h ∷ gone keep held) (gone keep held))) [ true ↦ lacks_gone keep p held l.1 | false ↦ (l.0, lacks_gone keep p held l.1) ]

differ_gone : (keep : Place → Bool) (held : Held) → PlacesDiffer held → PlacesDiffer (gone keep held)
differ_gone keep [] d = tt
differ_gone keep (h ∷ held) d = elim (keep h.0) as (λ b. PlacesDiffer (cond (not b) (h ∷ gone keep held) (gone keep held))) [ true ↦ differ_gone keep held d.1 | false ↦ (lacks_gone keep h.0 held d.0, differ_gone keep held d.1) ]

one_pushed : (i ts : ℕ) (c : Change) (h : Hist) → i < 1 → on_nth i (push ts c) (h ∷ []) ≡ map (push_all ((ts, c) ∷ [])) (h ∷ [])
one_pushed zero ts c h l = refl
one_pushed (suc i) ts c h l = absurd (omega (arith, l))

push_empty : (h : Hist) → h ∷ [] ≡ map (push_all []) (h ∷ [])
push_empty h = ap (λ s. record h { steps = s } ∷ []) (sym (append-nil h.steps))

pub row_of_both : a_row_of_both_keeps_a_job
row_of_both fill keep old new j stores q xs ms ts op targets c row i o from to hi ho up dold dnew hold hnew i_old i_new o_old o_new is_i is_o k_from k_to gone_old one_new lt made alone_in alone_out none under effect_out g =
    let mid = joined_name i ts c stores in
    let last = joined_name o ts c mid in
    let ins = groups old stores (gone keep (at_first q old)) in
    let outs = groups new stores (gone keep (at_first q new)) in
    let in_one = joins_one old stores i from hi ts c (gone keep (at_first q old)) (differ_gone keep (at_first q old) dold) (has-gone keep from (at_first q old) k_from hold) i_old is_i in
    let out_one = joins_one new mid o to ho ts c (gone keep (at_first q new)) (differ_gone keep (at_first q new) dnew) (has-gone keep to (at_first q new) k_to hnew) o_new is_o in
    let out_mid : groups new mid (gone keep (at_first q new)) ≡ outs = groups_none new stores i ts c (gone keep (at_first q new)) i_new in
    let ni = index_among old stores i (gone keep (at_first q old)) in
    let no_ = index_among new mid o (gone keep (at_first q new)) in
    let ins_last : groups old last (gone keep (at_first q old)) ≡ on_nth ni (push ts c) ins = groups_none old mid o ts c (gone keep (at_first q old)) o_old ∙ in_one.0 in
    let outs_last : groups new last (gone keep (at_first q new)) ≡ on_nth no_ (push ts c) outs = out_one.0 ∙ ap (on_nth no_ (push ts c)) out_mid in
    let out_long : no_ < length outs = subst (λ (l : List Hist). no_ < length l) out_mid out_one.1 in
    operation_more fill keep old new j stores last q xs ms (told ts op targets) ((from, c) ∷ []) ((to, c) ∷ []) up g
    (doubled targets to c row refl gone_old one_new k_to lt made refl)
    (λ p gone has. takes last p gone has)
    (subst (λ (l : List Hist). AreAlike j l (groups new last (gone keep (at_first q new)))) (sym ins_last) (subst (λ (l : List Hist). AreAlike j (on_nth ni (push ts c) ins) l) (sym outs_last)
    (both_alike j ts ni no_ c ins outs g.alike lt in_one.1 out_long alone_in alone_out none)))
    (subst (λ (l : List Hist). AreSound j l) (sym outs_last) (sound_push j ts no_ fill op.cells op.kind c outs g.sound under lt (alone_out ts (omega arith)) effect_out))
  where
    takes : (last : Stores) (p : Place) → keep p ≡ false → HasPlace p (at_first q new) → group new p (joined_name o ts c (joined_name i ts c stores)) ≡ map (push_all (moves_to p ts ((to, c) ∷ []))) (group new p stores)
    takes last p gone has =
        let h = push_all (steps_to p xs g.moves) (hist_at p (at_first q new)) in
        let mid_is : group new p (joined_name i ts c stores) ≡ h ∷ [] = group_other new p i ts c stores (ap (is_at p) i_new) ∙ g.outs p gone has in
        elim (same_place p to) as (λ b. same_place p to ≡ b → group new p (joined_name o ts c (joined_name i ts c stores)) ≡ map (push_all (cond b ((ts, c) ∷ []) [])) (group new p stores)) [
          | true ↦ λ e.
              let here : p ≡ to = is_same p to e in
              let stands : stands_for new o ≡ Some p = o_new ∙ ap Some (sym here) in
              let long = index_long new p o ho (joined_name i ts c stores) is_o stands in
              group_same new p o ts c (joined_name i ts c stores) stands
              ∙ ap (on_nth (index_in new p o (joined_name i ts c stores)) (push ts c)) mid_is
              ∙ one_pushed (index_in new p o (joined_name i ts c stores)) ts c h (subst (λ (l : List Hist). index_in new p o (joined_name i ts c stores) < length l) mid_is long)
              ∙ sym (ap (map (push_all ((ts, c) ∷ []))) (g.outs p gone has))
          | false ↦ λ e. group_other new p o ts c (joined_name i ts c stores) (ap (is_at p) o_new ∙ e) ∙ mid_is ∙ push_empty h ∙ sym (ap (map (push_all [])) (g.outs p gone has))
        ] refl

-- another superblock

groups_by : (a b : Super) (stores : Stores) (held : Held) → ((p : Place) → HasPlace p held → group a p stores ≡ group b p stores) → groups a stores held ≡ groups b stores held
groups_by a b stores [] same = refl
groups_by a b stores (h ∷ held) same = ap (λ l. l ++ groups a stores held) (same h.0 (inl (place_itself h.0))) ∙ ap (λ l. group b h.0 stores ++ l) (groups_by a b stores held (λ p has. same p (inr has)))

pub another_leaves : another_superblock_leaves_a_job
another_leaves fill keep old new old' new' j stores q xs ms ms' ns' at_old at_new same g fates steps =
    let ins : groups old' stores (gone keep (at_first q old')) ≡ groups old stores (gone keep (at_first q old)) =
    ap (groups old' stores) at_old ∙ groups_by old' old stores (gone keep (at_first q old)) (λ p has. (same p (gone_is keep p (at_first q old) has)).0) in
    let outs : groups new' stores (gone keep (at_first q new')) ≡ groups new stores (gone keep (at_first q new)) =
    ap (groups new' stores) at_new ∙ groups_by new' new stores (gone keep (at_first q new)) (λ p has. (same p (gone_is keep p (at_first q new) has)).1) in
    record {
      moves = ns';
      fates = fates;
      outs = λ p k has. (
          let there : HasPlace p (at_first q new) = gone_has keep p (at_first q new) (subst (λ (l : Held). HasPlace p l) at_new (has-gone keep p (at_first q new') k has)) in
          let hist : hist_at p (at_first q new') ≡ hist_at p (at_first q new) = sym (hist-gone keep p (at_first q new') k) ∙ ap (hist_at p) at_new ∙ hist-gone keep p (at_first q new) k in
          (same p k).1 ∙ g.outs p k there ∙ ap (λ h. push_all (steps_to p xs g.moves) h ∷ []) (sym hist) ∙ ap (λ s. push_all s (hist_at p (at_first q new')) ∷ []) (sym (steps p k)));
      alike = subst (λ (l : List Hist). AreAlike j l (groups new' stores (gone keep (at_first q new')))) (sym ins) (subst (λ (l : List Hist). AreAlike j (groups old stores (gone keep (at_first q old))) l) (sym outs) g.alike);
      sound = subst (λ (l : List Hist). AreSound j l) (sym outs) g.sound;
    }
