-- What each COMMIT names is enough for a job in two phases.
use Rattle.std.proofs.Common.{◌≡◌, ◌<◌, ℕ, List, [], ◌∷◌, Some, Option, refl, sym, ap, ◌∙◌, subst, cond, true, false, Bool, inl, inr}
use Rattle.std.specs.Prelude.{not, is_some}
use Rattle.kt_history.specs.declared.change.Change.{Change}
use Rattle.kt_history.specs.declared.operation.RowOp.{RowOp}
use Rattle.kt_history.specs.declared.target.Target.{Target}
use Rattle.kt_history.specs.Rows.{Row}
use Rattle.kt_history.specs.Operations.{effect}
use Rattle.kt_history.specs.Stores.{Hist, step_of}
use Rattle.kt_histlaws.specs.Fitting.{AreSound, RiseAbove, Rises, steps_above}
use Rattle.kt_histlaws.proofs.Fitting.{sound_raised}
use Rattle.kt_content.specs.Places.{Super, Place, Held, Moves, same_place, held_in, at_first, standing, row_there, needed_in, OneLive}
use Rattle.kt_content.specs.KeyOps.{KeyOp, seen, decided, may_join}
use Rattle.kt_content.specs.Agreement.{Agree, all_moved}
use Rattle.kt_content.specs.Publishing.{kept, gone, AllGone, Carries, AllCarry}
use Rattle.kt_content.specs.Publishing.Carries.{left_alone, covered as is_covered, doubled as is_doubled, flies as is_flying}
use Rattle.kt_content.specs.InMemory.{hist_at, HasPlace}
use Rattle.kt_content.specs.StoreChanges.{kept_moves, SameKept, HasMove}
use Rattle.kt_content.specs.TwoPhases.{Way, AllWays, HasOutputs, ways_replace_a_key}
use Rattle.kt_content.specs.TwoPhases.Way.{left, covered, doubled, stays, flies}
use Rattle.kt_content.proofs.MoreOps.{is_same}
use Rattle.kt_content.proofs.Publishing.{AreTo, all_gone, same_row}
use Rattle.kt_content.proofs.StoreChanges.{duplicated_fits, rest_ends, move_stands, has-all_moved}
use Rattle.kt_content.specs.Content.{UntoldLiveOnce}

-- moves to stores that the job takes are none to those that it leaves
none_kept : (keep : Place → Bool) (ms : Moves) → AreTo keep false ms → kept_moves keep ms ≡ []
none_kept keep [] to = refl
none_kept keep (m ∷ ms) to = rw to.0 (none_kept keep ms to.1)

gone_moves : (fill : Row) (keep : Place → Bool) (old : Super) (held : Held) (x : KeyOp) (m : Moves) (targets : List Target) → x.told ≡ Some targets → AllGone keep (needed_in old targets)
    → decided fill old (standing x.ts held) x.op x.told ≡ Some m → kept_moves keep m ≡ []
gone_moves fill keep old held x m targets told gone was =
    none_kept keep m (all_gone fill keep x.op (standing x.ts held) (needed_in old targets) m gone (ap (decided fill old (standing x.ts held) x.op) (sym told) ∙ was))

one_kept : (fill : Row) (keep : Place → Bool) (old new : Super) (j : ℕ) (next held : Held) (x : KeyOp) (m n : Moves) → Way fill keep old new j next x m n → decided fill old (standing x.ts held) x.op x.told ≡ Some m → kept_moves keep n ≡ kept_moves keep m
one_kept fill keep old new j next held x m n (left targets told k e now) was = ap (kept_moves keep) now
one_kept fill keep old new j next held x m n (covered targets told g e now) was = ap (kept_moves keep) now ∙ sym (gone_moves fill keep old held x m targets told g was)
one_kept fill keep old new j next held x m n (doubled targets p c row told g e k lt made now) was = ap (kept_moves keep) now ∙ rw k refl ∙ sym (gone_moves fill keep old held x m targets told g was)
one_kept fill keep old new j next held x m n (stays targets p c told g e k made now) was = ap (kept_moves keep) now ∙ rw k refl ∙ sym (gone_moves fill keep old held x m targets told g was)
one_kept fill keep old new j next held x m n (flies told now same live) was = same

pub same_kept : (fill : Row) (keep : Place → Bool) (old new : Super) (j : ℕ) (next held : Held) (xs : List KeyOp) (ms ns : List Moves) → AllWays fill keep old new j next xs ms ns → Agree fill old held xs ms → SameKept keep ms ns
same_kept fill keep old new j next held [] [] [] w a = tt
same_kept fill keep old new j next held [] [] (n ∷ ns) w a = absurd w
same_kept fill keep old new j next held [] (m ∷ ms) ns w a = absurd a
same_kept fill keep old new j next held (x ∷ xs) [] ns w a = absurd a
same_kept fill keep old new j next held (x ∷ xs) (m ∷ ms) [] w a = absurd w
same_kept fill keep old new j next held (x ∷ xs) (m ∷ ms) (n ∷ ns) w a = (one_kept fill keep old new j next held x m n w.0 a.0, same_kept fill keep old new j next held xs ms ns w.1 a.1)

-- a store that the job takes, among those that it takes
pub hist-gone : (keep : Place → Bool) (p : Place) (held : Held) → keep p ≡ false → hist_at p (gone keep held) ≡ hist_at p held
hist-gone keep p [] k = refl
hist-gone keep p (h ∷ held) k = elim (same_place p h.0) as (λ b. same_place p h.0 ≡ b → hist_at p (cond (not (keep h.0)) (h ∷ gone keep held) (gone keep held)) ≡ cond b h.1 (hist_at p held)) [
  | true ↦ λ e. let here : keep h.0 ≡ false = ap keep (sym (is_same p h.0 e)) ∙ k in rw (here, e) refl
  | false ↦ λ e. elim (keep h.0) as (λ b. hist_at p (cond (not b) (h ∷ gone keep held) (gone keep held)) ≡ hist_at p held) [
    | true ↦ hist-gone keep p held k
    | false ↦ rw e (hist-gone keep p held k)
  ]
] refl

pub has-gone : (keep : Place → Bool) (p : Place) (held : Held) → keep p ≡ false → HasPlace p held → HasPlace p (gone keep held)
has-gone keep p [] k h = absurd h
has-gone keep p (x ∷ held) k h = elim (keep x.0) as (λ b. keep x.0 ≡ b → HasPlace p (cond (not b) (x ∷ gone keep held) (gone keep held))) [
  | true ↦ λ e. elim h [
    | inl s ↦ absurd (let f : true ≡ false = sym e ∙ ap keep (sym (is_same p x.0 s)) ∙ k in cc)
    | inr rest ↦ has-gone keep p held k rest
  ]
  | false ↦ λ e. elim h [ inl s ↦ inl s | inr rest ↦ inr (has-gone keep p held k rest) ]
] refl

rises_at : (j : ℕ) (p : Place) (held : Held) → HasPlace p held → RiseAbove j (held_in held) → Rises j (steps_above j (hist_at p held).steps)
rises_at j p [] h r = absurd h
rises_at j p (x ∷ held) has r = elim (same_place p x.0) as (λ b. same_place p x.0 ≡ b → Rises j (steps_above j (cond b x.1 (hist_at p held)).steps)) [
  | true ↦ λ e. r.0
  | false ↦ λ e. rises_at j p held (elim has [ inl y ↦ absurd (let g : true ≡ false = sym y ∙ e in cc) | inr y ↦ y ]) r.1
] refl

module _ (fill : Row) (keep : Place → Bool) (old new : Super) (j : ℕ) (outputs : Held) (all : List KeyOp) (moves : List Moves) (sound : AreSound j (held_in (gone keep (all_moved all moves outputs)))) where
  abbrev next : Held
  next = all_moved all moves outputs

  -- a change that went to an output too
  fits : (p : Place) (op : RowOp) (ts : ℕ) (c : Change) (row : Row) → keep p ≡ false → HasPlace p outputs → j < ts → HasMove all moves ts p c → (effect fill op.kind op.cells (Some row)).0 ≡ Some c
      → may_join p (effect fill op.kind op.cells (row_there p (standing ts next))).0 ≡ Some c
  fits p op ts c row k has lt move made =
      let there = has-all_moved p all moves outputs has in
      let among = has-gone keep p next k there in
      let rises : Rises j (steps_above j (hist_at p next).steps) = subst (λ (h : Hist). Rises j (steps_above j h.steps)) (hist-gone keep p next k) (rises_at j p (gone keep next) among sound.rise) in
      let stands : step_of ts (hist_at p (gone keep next)) ≡ Some c = ap (step_of ts) (hist-gone keep p next k) ∙ move_stands j ts p c all moves outputs has move lt rises in
      let taken : (not (keep p)) ≡ true = ap not k in
      ap (λ r. may_join p (effect fill op.kind op.cells r).0) (same_row (λ q. not (keep q)) ts p next (gone keep next) taken (twice keep next))
      ∙ duplicated_fits fill j ts p op c row (gone keep next) sound lt among stands made
    where
      twice : (keep : Place → Bool) (held : Held) → kept (λ q. not (keep q)) held ≡ kept (λ q. not (keep q)) (gone keep held)
      twice keep [] = refl
      twice keep (h ∷ held) = elim (not (keep h.0)) as (λ b. not (keep h.0) ≡ b → cond b (h ∷ kept (λ q. not (keep q)) held) (kept (λ q. not (keep q)) held) ≡ kept (λ q. not (keep q)) (cond b (h ∷ gone keep held) (gone keep held))) [
        | true ↦ λ e. rw e (ap (λ l. h ∷ l) (twice keep held))
        | false ↦ λ e. twice keep held
      ] refl

  pub carry_all : (xs : List KeyOp) (ms ns : List Moves) → AllWays fill keep old new j next xs ms ns → HasOutputs keep ns outputs → ((ts : ℕ) (p : Place) (c : Change) → HasMove xs ns ts p c → HasMove all moves ts p c)
      → AllCarry fill keep old new next xs ms ns
  carry_all [] [] [] w o inside = tt
  carry_all [] [] (n ∷ ns) w o inside = absurd w
  carry_all [] (m ∷ ms) ns w o inside = absurd w
  carry_all (x ∷ xs) [] ns w o inside = absurd w
  carry_all (x ∷ xs) (m ∷ ms) [] w o inside = absurd w
  carry_all (x ∷ xs) (m ∷ ms) (n ∷ ns) w o inside = (one w.0 o, carry_all xs ms ns w.1 (rest n o) (λ ts p c h. inside ts p c (inr h)))
    where
      rest : (n : Moves) → HasOutputs keep (n ∷ ns) outputs → HasOutputs keep ns outputs
      rest [] o = o
      rest (y ∷ more) o = o.1

      first : (n : Moves) (p : Place) (c : Change) → n ≡ (p, c) ∷ [] → HasOutputs keep (n ∷ ns) outputs → HasPlace p outputs
      first n p c e o = (subst (λ (k : Moves). HasOutputs keep (k ∷ ns) outputs) e o).0

      one : Way fill keep old new j next x m n → HasOutputs keep (n ∷ ns) outputs → Carries fill keep old new next x m n
      one (left targets told k e now) o = left_alone targets told k e now
      one (covered targets told g e now) o = is_covered targets told e now
      one (doubled targets p c row told g e k lt made now) o =
          is_doubled targets p c told e (fits p x.op x.ts c row k (first n p c now o) lt (inside x.ts p c (inl (refl, now))) made) now
      one (stays targets p c told g e k made now) o = is_doubled targets p c told e made now
      one (flies told now same live) o = is_flying told now

-- the moves that agree are one
same_agreed : (fill : Row) (super : Super) (final : Held) (xs : List KeyOp) (ms ns : List Moves) → Agree fill super final xs ms → Agree fill super final xs ns → ms ≡ ns
same_agreed fill super final [] [] [] a b = refl
same_agreed fill super final [] [] (n ∷ ns) a b = absurd b
same_agreed fill super final [] (m ∷ ms) ns a b = absurd a
same_agreed fill super final (x ∷ xs) [] ns a b = absurd a
same_agreed fill super final (x ∷ xs) (m ∷ ms) [] a b = absurd b
same_agreed fill super final (x ∷ xs) (m ∷ ms) (n ∷ ns) a b = let first : m ≡ n = both (decided fill super (standing x.ts final) x.op x.told) m n a.0 b.0 in ap (λ k. k ∷ ms) first ∙ ap (λ l. n ∷ l) (same_agreed fill super final xs ms ns a.1 b.1)
  where
    both : (o : Option Moves) (m n : Moves) → o ≡ Some m → o ≡ Some n → m ≡ n
    both o m n e f = cc

-- of what flies one store at most has the key live
ways_once : (fill : Row) (keep : Place → Bool) (old new : Super) (j : ℕ) (next : Held) (xs : List KeyOp) (ms ns : List Moves) → AllWays fill keep old new j next xs ms ns → UntoldLiveOnce next xs
ways_once fill keep old new j next [] ms ns w = tt
ways_once fill keep old new j next (x ∷ xs) [] ns w = absurd w
ways_once fill keep old new j next (x ∷ xs) (m ∷ ms) [] w = absurd w
ways_once fill keep old new j next (x ∷ xs) (m ∷ ms) (n ∷ ns) w = (one w.0, ways_once fill keep old new j next xs ms ns w.1)
  where
    named : (targets : List Target) → x.told ≡ Some targets → is_some x.told ≡ false → ⊥
    named targets told none = let f : true ≡ false = sym (ap is_some told) ∙ none in cc

    one : Way fill keep old new j next x m n → is_some x.told ≡ false → OneLive (standing x.ts next)
    one (left targets told k e now) none = absurd (named targets told none)
    one (covered targets told g e now) none = absurd (named targets told none)
    one (doubled targets p c row told g e k lt made now) none = absurd (named targets told none)
    one (stays targets p c told g e k made now) none = absurd (named targets told none)
    one (flies told now same live) none = live

pub ways_replace : ways_replace_a_key
ways_replace fill keep old new records j b q held ms ns log rest is agree ways outs alike sound le above =
    let xs = seen q records records in
    let next = all_moved xs ns (at_first q new) in
    record {
      moves = ns;
      carry = λ others a. subst (λ (l : List Moves). AllCarry fill keep old new next xs l ns) (same_agreed fill old held xs ms others agree a) (carry_all fill keep old new j (at_first q new) xs ns sound xs ms ns ways outs (λ ts p c h. h));
      rest = rest_ends keep xs ms ns (at_first q old) (at_first q new) rest (same_kept fill keep old new j next held xs ms ns ways agree) ∙ ap (kept keep) (sym is);
      alike = alike;
      sound = sound_raised j new.a (held_in (gone keep next)) le sound;
      once = ways_once fill keep old new j next xs ms ns ways;
      above = above;
    }
