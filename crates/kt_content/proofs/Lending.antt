-- A key goes over to the superblock that a job publishes.
use Rattle.std.proofs.Common.{◌≡◌, ◌≤◌, ℕ, List, [], ◌∷◌, ◌++◌, Some, None, Option, refl, sym, ap, ◌∙◌, subst, arith, cond, true, false, Bool, ◌⊎◌, inl, inr}
use Rattle.std.specs.Prelude.{not, ◌==◌, nat_lt}
use Rattle.std.specs.List.{list_any}
use Rattle.std.proofs.lemmas.Bool.Decides.{nat_tests}
use Rattle.kt_history.specs.declared.change.Change.{Change}
use Rattle.kt_history.specs.declared.operation.RowOp.{RowOp}
use Rattle.kt_history.specs.declared.target.Target.{Target}
use Rattle.kt_history.specs.declared.target.Target.TheVariants.{Mem, Delta}
use Rattle.kt_history.specs.Rows.{Row}
use Rattle.kt_history.specs.Operations.{effect}
use Rattle.kt_history.specs.Stores.{Hist, row_of, step_of, never}
use Rattle.kt_histlaws.specs.Fitting.{AreSound}
use Rattle.kt_histlaws.proofs.Fitting.{sound_raised}
use Rattle.kt_histlaws.specs.Jobs.{AreAlike, push_all}
use Rattle.kt_rowfiles.specs.Files.{DiskRowset}
use Rattle.kt_content.specs.Places.{Super, Place, memory, disk, same_place, Held, Moves, held_in, at_first, in_files, standing, row_there, row_before, last_dms_of, newer, needs, and_place, needed_in, joined_in, moved, Standing}
use Rattle.kt_content.specs.KeyOps.{KeyOp, decided, may_join, with_move, to_each}
use Rattle.kt_content.specs.Content.{Shown}
use Rattle.kt_content.specs.Agreement.{OpsRise, Agree, all_moved}
use Rattle.kt_content.specs.MoreOps.{LacksPlace, PlacesDiffer}
use Rattle.kt_content.specs.Publishing.{kept, gone, AllCarry}
use Rattle.kt_content.specs.InMemory.{Name, mem_rows, rowset, Stores, if_there, stands_for, is_at, group, groups, hist_at, HasPlace, Mirrors}
use Rattle.kt_content.specs.TwoPhases.{Way, AllWays, HasOutputs}
use Rattle.kt_content.specs.TwoPhases.Way.{left, covered as is_covered, doubled as is_doubled, stays as is_staying}
use Rattle.kt_content.specs.Lending.{Fate, AllFates, with_changes, GoesOver, a_job_that_duplicates_goes_over, OverTo, a_key_goes_over}
use Rattle.kt_content.specs.Lending.Fate.{apart, covered, doubled, stays}
use Rattle.kt_content.proofs.Agreement.{plays_agree}
use Rattle.kt_content.proofs.MoreOps.{lacks-joined, is_same, place_itself, differ-moved}
use Rattle.kt_content.proofs.Publishing.{two_phases, outputs_show}
use Rattle.kt_content.proofs.InMemory.{Finds, finds_all, finds_gone, row_there_is, inputs_alike, alike_through, another_mirrors}
use Rattle.kt_content.proofs.StoreChanges.{files_and_changes, rest_ends}
use Rattle.kt_content.proofs.TwoPhases.{same_kept, carry_all}
use Rattle.kt_content.proofs.Options.{one_alone}

-- what is needed has its place

there_is : (r n : ℕ) (q : List ℕ) (rowsets : List DiskRowset) → last_dms_of r rowsets ≡ Some n → HasPlace (disk r) (in_files q rowsets)
there_is r n q [] h = absurd (cc)
there_is r n q (d ∷ rowsets) h = elim (d.rowset == r) as (λ b. (d.rowset == r) ≡ b → cond b (Some d.last_dms) (last_dms_of r rowsets) ≡ Some n → HasPlace (disk r) (in_files q (d ∷ rowsets))) [
  | true ↦ λ e h. inl (let same : r ≡ d.rowset = grind (arith, nat_tests) in ap (λ k. same_place (disk r) (disk k)) (sym same) ∙ place_itself (disk r))
  | false ↦ λ e h. inr (there_is r n q rowsets h)
] refl h

newer_there : (p r : Place) (n : ℕ) (last : Option ℕ) → newer p n last ≡ Some r → (m : ℕ) × (last ≡ Some m) × (p ≡ r)
newer_there p r n None h = absurd (cc)
newer_there p r n (Some last) h = (last, refl, elim (nat_lt last n) as (λ b. cond b (Some p) None ≡ Some r → p ≡ r) [ true ↦ λ e. (let f : p ≡ r = cc in f) | false ↦ λ e. absurd (cc) ] h)

memory_there : (q : List ℕ) (super : Super) (p : Place) → memory ≡ p → HasPlace p (at_first q super)
memory_there q super p e = inl (ap (λ k. same_place k memory) (sym e))

needs_has : (q : List ℕ) (super : Super) (t : Target) (p : Place) → needs super t ≡ Some p → HasPlace p (at_first q super)
needs_has q super (Mem n) p h = memory_there q super p (newer_there memory p n (Some super.last_mem) h).2
needs_has q super (Delta r n) p h = let found = newer_there (disk r) p n (last_dms_of r super.rowsets) h in subst (λ (k : Place). HasPlace k (at_first q super)) found.2 (inr (there_is r found.0 q super.rowsets found.1))

if_there_is : (p r : Place) (o : Option ℕ) → if_there p o ≡ Some r → (m : ℕ) × (o ≡ Some m) × (p ≡ r)
if_there_is p r None h = absurd (cc)
if_there_is p r (Some m) h = (m, refl, (let f : p ≡ r = cc in f))

pub stands_has : (q : List ℕ) (super : Super) (n : Name) (p : Place) → stands_for super n ≡ Some p → HasPlace p (at_first q super)
stands_has q super (mem_rows n) p h = memory_there q super p (newer_there memory p n (Some super.last_mem) h).2
stands_has q super (rowset r) p h = let found = if_there_is (disk r) p (last_dms_of r super.rowsets) h in subst (λ (k : Place). HasPlace k (at_first q super)) found.2 (inr (there_is r found.0 q super.rowsets found.1))

abbrev pub AllHave : List Place → Held → Type 0
AllHave [] held = Unit {0}
AllHave (p ∷ places) held = HasPlace p held × AllHave places held

and_have : (o : Option Place) (places : List Place) (held : Held) → ((p : Place) → o ≡ Some p → HasPlace p held) → AllHave places held → AllHave (and_place o places) held
and_have None places held h all = all
and_have (Some p) places held h all = elim (list_any (same_place p) places) as (λ b. AllHave (cond b places (p ∷ places)) held) [ true ↦ all | false ↦ (h p refl, all) ]

pub needed_have : (q : List ℕ) (super : Super) (targets : List Target) → AllHave (needed_in super targets) (at_first q super)
needed_have q super [] = tt
needed_have q super (t ∷ targets) = and_have (needs super t) (needed_in super targets) (at_first q super) (λ p e. needs_has q super t p e) (needed_have q super targets)

abbrev pub FirstHas : Moves → Held → Type 0
FirstHas [] held = Unit {0}
FirstHas (m ∷ ms) held = HasPlace m.0 held

with_first : (p : Place) (o : Option Change) (rest : Option Moves) (m : Moves) (held : Held) → with_move p o rest ≡ Some m → HasPlace p held → FirstHas m held
with_first p None rest m held h has = absurd (cc)
with_first p (Some c) None m held h has = absurd (cc)
with_first p (Some c) (Some moves) m held h has = let same : (p, c) ∷ moves ≡ m = cc in subst (λ (k : Moves). FirstHas k held) same has

first_has : (fill : Row) (op : RowOp) (rows : Standing) (places : List Place) (m : Moves) (held : Held) → to_each fill op rows places ≡ Some m → AllHave places held → FirstHas m held
first_has fill op rows [] m held h all = let same : [] ≡ m = cc in subst (λ (k : Moves). FirstHas k held) same tt
first_has fill op rows (p ∷ places) m held h all = with_first p (may_join p (effect fill op.kind op.cells (row_there p rows)).0) (to_each fill op rows places) m held h all.0

outputs_more : (keep : Place → Bool) (n : Moves) (ns : List Moves) (held : Held) → FirstHas n held → HasOutputs keep ns held → HasOutputs keep (n ∷ ns) held
outputs_more keep [] ns held f o = o
outputs_more keep (m ∷ ms) ns held f o = (f, o)

module _ (fill : Row) (keep : Place → Bool) (old new : Super) (j : ℕ) (q : List ℕ) (held : Held) (outs : Place → Hist) where
  one_has : (x : KeyOp) (m n : Moves) → Fate fill keep old new j outs x m n → decided fill old (standing x.ts held) x.op x.told ≡ Some m → FirstHas n (at_first q new)
  one_has x m n (apart targets told k e now) was =
      subst (λ (l : Moves). FirstHas l (at_first q new)) (sym now)
      (first_has fill x.op (standing x.ts held) (needed_in old targets) m (at_first q new) (ap (decided fill old (standing x.ts held) x.op) (sym told) ∙ was) (subst (λ (l : List Place). AllHave l (at_first q new)) e (needed_have q new targets)))
  one_has x m n (covered targets told g e now) was = subst (λ (l : Moves). FirstHas l (at_first q new)) (sym now) tt
  one_has x m n (doubled targets p c row told g e k lt made now) was = subst (λ (l : Moves). FirstHas l (at_first q new)) (sym now) (subst (λ (l : List Place). AllHave l (at_first q new)) e (needed_have q new targets)).0
  one_has x m n (stays targets p c told g e k made now) was = subst (λ (l : Moves). FirstHas l (at_first q new)) (sym now) (subst (λ (l : List Place). AllHave l (at_first q new)) e (needed_have q new targets)).0

  outputs_have : (xs : List KeyOp) (ms ns : List Moves) → AllFates fill keep old new j outs xs ms ns → Agree fill old held xs ms → HasOutputs keep ns (at_first q new)
  outputs_have [] [] [] f a = tt
  outputs_have [] [] (n ∷ ns) f a = absurd f
  outputs_have [] (m ∷ ms) ns f a = absurd f
  outputs_have (x ∷ xs) [] ns f a = absurd f
  outputs_have (x ∷ xs) (m ∷ ms) [] f a = absurd f
  outputs_have (x ∷ xs) (m ∷ ms) (n ∷ ns) f a = outputs_more keep n ns (at_first q new) (one_has x m n f.0 a.0) (outputs_have xs ms ns f.1 a.1)

  module _ (next : Held) (same : (p : Place) → HasPlace p (at_first q new) → (ts : ℕ) → row_there p (standing ts next) ≡ row_before ts (outs p)) where
    one_way : (x : KeyOp) (m n : Moves) → Fate fill keep old new j outs x m n → Way fill keep old new j next x m n
    one_way x m n (apart targets told k e now) = left targets told k e now
    one_way x m n (covered targets told g e now) = is_covered targets told g e now
    one_way x m n (doubled targets p c row told g e k lt made now) = is_doubled targets p c row told g e k lt made now
    one_way x m n (stays targets p c told g e k made now) =
        is_staying targets p c told g e k (ap (λ r. may_join p (effect fill x.op.kind x.op.cells r).0) (same p ((subst (λ (l : List Place). AllHave l (at_first q new)) e (needed_have q new targets)).0) x.ts) ∙ made) now

    pub all_ways : (xs : List KeyOp) (ms ns : List Moves) → AllFates fill keep old new j outs xs ms ns → AllWays fill keep old new j next xs ms ns
    all_ways [] [] [] f = tt
    all_ways [] [] (n ∷ ns) f = absurd f
    all_ways [] (m ∷ ms) ns f = absurd f
    all_ways (x ∷ xs) [] ns f = absurd f
    all_ways (x ∷ xs) (m ∷ ms) [] f = absurd f
    all_ways (x ∷ xs) (m ∷ ms) (n ∷ ns) f = (one_way x m n f.0, all_ways xs ms ns f.1)

-- the places stay

groups-joined : (keep : Place → Bool) (super : Super) (stores : Stores) (p : Place) (ts : ℕ) (c : Change) (held : Held) → groups super stores (gone keep (joined_in p ts c held)) ≡ groups super stores (gone keep held)
groups-joined keep super stores p ts c [] = refl
groups-joined keep super stores p ts c (h ∷ held) = elim (same_place p h.0) as (λ b. groups super stores (gone keep (cond b ((h.0, push_all ((ts, c) ∷ []) h.1) ∷ held) (h ∷ joined_in p ts c held))) ≡ groups super stores (gone keep (h ∷ held))) [
  | true ↦ elim (not (keep h.0)) as (λ b. groups super stores (cond b ((h.0, push_all ((ts, c) ∷ []) h.1) ∷ gone keep held) (gone keep held)) ≡ groups super stores (cond b (h ∷ gone keep held) (gone keep held))) [ true ↦ refl | false ↦ refl ]
  | false ↦ elim (not (keep h.0)) as (λ b. groups super stores (cond b (h ∷ gone keep (joined_in p ts c held)) (gone keep (joined_in p ts c held))) ≡ groups super stores (cond b (h ∷ gone keep held) (gone keep held))) [
    | true ↦ ap (λ l. group super h.0 stores ++ l) (groups-joined keep super stores p ts c held)
    | false ↦ groups-joined keep super stores p ts c held
  ]
]

groups-moved : (keep : Place → Bool) (super : Super) (stores : Stores) (ts : ℕ) (ms : Moves) (held : Held) → groups super stores (gone keep (moved ts ms held)) ≡ groups super stores (gone keep held)
groups-moved keep super stores ts [] held = refl
groups-moved keep super stores ts (m ∷ ms) held = groups-moved keep super stores ts ms (joined_in m.0 ts m.1 held) ∙ groups-joined keep super stores m.0 ts m.1 held

pub groups-all : (keep : Place → Bool) (super : Super) (stores : Stores) (xs : List KeyOp) (ms : List Moves) (held : Held) → groups super stores (gone keep (all_moved xs ms held)) ≡ groups super stores (gone keep held)
groups-all keep super stores [] ms held = refl
groups-all keep super stores (x ∷ xs) [] held = refl
groups-all keep super stores (x ∷ xs) (m ∷ ms) held = groups-all keep super stores xs ms (moved x.ts m held) ∙ groups-moved keep super stores x.ts m held

differ-all : (xs : List KeyOp) (ms : List Moves) (held : Held) → PlacesDiffer held → PlacesDiffer (all_moved xs ms held)
differ-all [] ms held d = d
differ-all (x ∷ xs) [] held d = d
differ-all (x ∷ xs) (m ∷ ms) held d = differ-all xs ms (moved x.ts m held) (differ-moved x.ts m held d)

lacks-moved : (p : Place) (ts : ℕ) (ms : Moves) (held : Held) → LacksPlace p held → LacksPlace p (moved ts ms held)
lacks-moved p ts [] held l = l
lacks-moved p ts (m ∷ ms) held l = lacks-moved p ts ms (joined_in m.0 ts m.1 held) (lacks-joined p m.0 ts m.1 held l)

lacks-all : (p : Place) (xs : List KeyOp) (ms : List Moves) (held : Held) → LacksPlace p held → LacksPlace p (all_moved xs ms held)
lacks-all p [] ms held l = l
lacks-all p (x ∷ xs) [] held l = l
lacks-all p (x ∷ xs) (m ∷ ms) held l = lacks-all p xs ms (moved x.ts m held) (lacks-moved p x.ts m held l)

has_or_lacks : (p : Place) (held : Held) → HasPlace p held ⊎ LacksPlace p held
has_or_lacks p [] = inr tt
has_or_lacks p (h ∷ held) = elim (same_place p h.0) as (λ b. same_place p h.0 ≡ b → HasPlace p (h ∷ held) ⊎ LacksPlace p (h ∷ held)) [
  | true ↦ λ e. inl (inl e)
  | false ↦ λ e. elim (has_or_lacks p held) [ inl y ↦ inl (inr y) | inr n ↦ inr (e, n) ]
] refl

pub not_both : (p : Place) (held : Held) → HasPlace p held → LacksPlace p held → ⊥
not_both p [] h l = h
not_both p (x ∷ held) (inl e) l = (let f : true ≡ false = sym e ∙ l.0 in cc)
not_both p (x ∷ held) (inr h) l = not_both p held h l.1

lacks_never : (p : Place) (held : Held) → LacksPlace p held → hist_at p held ≡ never
lacks_never p [] l = refl
lacks_never p (h ∷ held) l = rw l.0 (lacks_never p held l.1)

is_at_some : (p : Place) (o : Option Place) → is_at p o ≡ true → o ≡ Some p
is_at_some p None h = absurd (cc)
is_at_some p (Some r) h = ap Some (sym (is_same p r h))

none_stand : (q : List ℕ) (super : Super) (p : Place) (stores : Stores) → LacksPlace p (at_first q super) → group super p stores ≡ []
none_stand q super p [] l = refl
none_stand q super p (x ∷ stores) l = elim (is_at p (stands_for super x.0)) as (λ b. is_at p (stands_for super x.0) ≡ b → cond b (x.1 ∷ group super p stores) (group super p stores) ≡ []) [
  | true ↦ λ e. absurd (not_both p (at_first q super) (stands_has q super x.0 p (is_at_some p (stands_for super x.0) e)) l)
  | false ↦ λ e. none_stand q super p stores l
] refl

-- the histories of these are those in memory
exact : (super : Super) (stores : Stores) (whole held : Held) → Finds whole held → ((p : Place) → HasPlace p held → group super p stores ≡ hist_at p whole ∷ []) → groups super stores held ≡ held_in held
exact super stores whole [] f g = refl
exact super stores whole (h ∷ held) f g = ap (λ l. l ++ groups super stores held) (g h.0 (inl (place_itself h.0)) ∙ ap (λ k. k ∷ []) f.0) ∙ ap (λ l. h.1 ∷ l) (exact super stores whole held f.1 (λ p has. g p (inr has)))

pub gone_is : (keep : Place → Bool) (p : Place) (held : Held) → HasPlace p (gone keep held) → keep p ≡ false
gone_is keep p [] h = absurd h
gone_is keep p (x ∷ held) h = elim (keep x.0) as (λ b. keep x.0 ≡ b → HasPlace p (cond (not b) (x ∷ gone keep held) (gone keep held)) → keep p ≡ false) [
  | true ↦ λ e h. gone_is keep p held h
  | false ↦ λ e h. elim h [ inl s ↦ ap keep (is_same p x.0 s) ∙ e | inr y ↦ gone_is keep p held y ]
] refl h

pub gone_has : (keep : Place → Bool) (p : Place) (held : Held) → HasPlace p (gone keep held) → HasPlace p held
gone_has keep p [] h = absurd h
gone_has keep p (x ∷ held) h = elim (keep x.0) as (λ b. HasPlace p (cond (not b) (x ∷ gone keep held) (gone keep held)) → HasPlace p (x ∷ held)) [
  | true ↦ λ h. inr (gone_has keep p held h)
  | false ↦ λ h. elim h [ inl s ↦ inl s | inr y ↦ inr (gone_has keep p held y) ]
] h

pub alike_later : (a b : ℕ) (xs ys : List Hist) → a ≤ b → AreAlike a xs ys → AreAlike b xs ys
alike_later a b xs ys le s = record { rows = λ t from. s.rows t (omega arith); steps = λ t up. s.steps t (omega arith); one_row = λ t from. s.one_row t (omega arith); one_step = λ t up. s.one_step t (omega arith) }

pub alike_itself : (b : ℕ) (h : Hist) → AreAlike b (h ∷ []) (h ∷ [])
alike_itself b h = record { rows = λ t le. refl; steps = λ t lt. refl; one_row = λ t le. one_alone (row_of t h); one_step = λ t lt. one_alone (step_of t h) }

pub alike_to_never : (b : ℕ) → AreAlike b [] (never ∷ [])
alike_to_never b = record { rows = λ t le. refl; steps = λ t lt. refl; one_row = λ t le. tt; one_step = λ t lt. tt }

module _ (fill : Row) (keep : Place → Bool) (old new : Super) (j : ℕ) (stores : Stores) (q : List ℕ) (xs : List KeyOp) (held : Held) (whole : Hist)
    (rise : OpsRise 0 xs) (dold : PlacesDiffer (at_first q old)) (dnew : PlacesDiffer (at_first q new)) (rest : kept keep (at_first q new) ≡ kept keep (at_first q old))
    (a b : ℕ) (s : Shown a held whole) (m : Mirrors a old stores held) (others : (p : Place) → keep p ≡ true → group new p stores ≡ group old p stores) (le : a ≤ b) (low : j ≤ b)
    (ms : List Moves) (made : held ≡ all_moved xs ms (at_first q old)) (agree : Agree fill old held xs ms) (g : GoesOver fill keep old new j stores q xs ms) where
  abbrev pub next : Held
  next = all_moved xs g.moves (at_first q new)

  has_next : (p : Place) → HasPlace p (at_first q new) → hist_at p next ≡ with_changes q new xs g.moves p
  has_next p has = files_and_changes p xs g.moves (at_first q new) has

  ways : AllWays fill keep old new j next xs ms g.moves
  ways = all_ways fill keep old new j q held (with_changes q new xs g.moves) next (λ p has ts. row_there_is ts p next ∙ ap (row_before ts) (has_next p has)) xs ms g.moves g.fates

  pub dheld : PlacesDiffer held
  dheld = subst (λ (h : Held). PlacesDiffer h) (sym made) (differ-all xs ms (at_first q old) dold)

  ins_are : groups old stores (gone keep held) ≡ groups old stores (gone keep (at_first q old))
  ins_are = ap (λ (h : Held). groups old stores (gone keep h)) made ∙ groups-all keep old stores xs ms (at_first q old)

  alike : AreAlike b (held_in (gone keep held)) (held_in (gone keep next))
  alike = alike_through a j b (groups old stores (gone keep held)) (held_in (gone keep held)) (held_in (gone keep next))
      (inputs_alike a old stores held whole keep dheld m s) (subst (λ (l : List Hist). AreAlike j l (held_in (gone keep next))) (sym ins_are) g.alike) le low

  carried : AllCarry fill keep old new next xs ms g.moves
  carried = carry_all fill keep old new j (at_first q new) xs g.moves g.sound xs ms g.moves ways (outputs_have fill keep old new j q held (with_changes q new xs g.moves) xs ms g.moves g.fates agree) (λ ts p c h. h)

  kept_same : kept keep next ≡ kept keep held
  kept_same = rest_ends keep xs ms g.moves (at_first q old) (at_first q new) rest (same_kept fill keep old new j next held xs ms g.moves ways agree) ∙ ap (kept keep) (sym made)

  pub over : OverTo fill keep new b stores q xs held whole
  over = record {
    next = next;
    is = two_phases fill keep old new 0 (at_first q old) held (at_first q new) xs ms g.moves rise agree carried kept_same;
    rest = kept_same;
    shown = outputs_show keep a b b held next whole s kept_same alike (sound_raised j b (held_in (gone keep next)) low g.sound) le (omega arith);
    mirrors = another_mirrors keep a b old new stores stores held next m le kept_same others (λ p k. elim (has_or_lacks p (at_first q new)) [
      | inl has ↦ subst (λ (h : Hist). AreAlike b (group new p stores) (h ∷ [])) (sym (has_next p has)) (alike_later j b (group new p stores) (with_changes q new xs g.moves p ∷ []) low (g.outs p k has))
      | inr l ↦ subst (λ (k : Hist). AreAlike b (group new p stores) (k ∷ [])) (sym (lacks_never p next (lacks-all p xs g.moves (at_first q new) l)))
          (subst (λ (l : List Hist). AreAlike b l (never ∷ [])) (sym (none_stand q new p stores l)) (alike_to_never b))
    ]);
  }

pub goes_over : a_key_goes_over
goes_over fill keep old new a b j stores q xs held whole rise dold dnew rest is s m others given le low =
    let was = plays_agree fill old 0 (at_first q old) held xs rise is in
    over fill keep old new j stores q xs held whole rise dold dnew rest a b s m others le low was.0 was.1 was.2 (given was.0 was.2)

-- what the stores in memory that stand for the job's places have is what the new superblock has there, where it is so of each
pub outs_are : (keep : Place → Bool) (new : Super) (stores : Stores) (q : List ℕ) (xs : List KeyOp) (moves : List Moves) → PlacesDiffer (at_first q new)
    → ((p : Place) → keep p ≡ false → HasPlace p (at_first q new) → group new p stores ≡ with_changes q new xs moves p ∷ [])
    → groups new stores (gone keep (at_first q new)) ≡ held_in (gone keep (all_moved xs moves (at_first q new)))
outs_are keep new stores q xs moves dnew outs =
    sym (groups-all keep new stores xs moves (at_first q new))
    ∙ exact new stores made_next (gone keep made_next) (finds_gone keep made_next made_next (finds_all made_next (differ-all xs moves (at_first q new) dnew)))
    (λ p has. (let there = has_before p (gone_has keep p made_next has) in outs p (gone_is keep p made_next has) there ∙ ap (λ h. h ∷ []) (sym (files_and_changes p xs moves (at_first q new) there))))
  where
    made_next : Held
    made_next = all_moved xs moves (at_first q new)

    has_before : (p : Place) → HasPlace p made_next → HasPlace p (at_first q new)
    has_before p has = elim (has_or_lacks p (at_first q new)) [ inl y ↦ y | inr l ↦ absurd (not_both p made_next has (lacks-all p xs moves (at_first q new) l)) ]

-- a job that duplicates
pub duplicates : a_job_that_duplicates_goes_over
duplicates fill keep old new j stores q xs ms dnew g =
    let same = outs_are keep new stores q xs g.moves dnew g.outs in
    record {
      moves = g.moves;
      fates = g.fates;
      outs = λ p k has. subst (λ (l : List Hist). AreAlike j l (with_changes q new xs g.moves p ∷ [])) (sym (g.outs p k has)) (alike_itself j (with_changes q new xs g.moves p));
      alike = subst (λ (l : List Hist). AreAlike j (groups old stores (gone keep (at_first q old))) l) same g.alike;
      sound = subst (λ (l : List Hist). AreSound j l) same g.sound;
    }
