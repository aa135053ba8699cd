-- The sessions that run, and the engine, which stands whichever do.
use Rattle.std.proofs.Common.{◌≡◌, ℕ, zero, suc, ◌+◌, List, [], ◌∷◌, ◌++◌, Bool, ◌||◌, true, false, cond, refl, sym, ap, ◌∙◌, arith}
use Rattle.std.specs.Prelude.{◌==◌, not}
use Rattle.std.specs.List.{filter, range_with_len}
use Rattle.std.proofs.lemmas.Bool.{ne_eqb, eqb-true}
use Rattle.kt_disk.specs.Disk.{Files}
use Rattle.kt_engine.specs.Engines.{EngineView, IsEngine}
use Rattle.kt_engine.specs.Sessions.{runs}

pub running_keeps : {L D C : Type 0} (tells : Bool) (seen : L → Files) (now : L → ℕ) (leaves : L → ℕ → Files → Type 0) (faults : L → ℕ) (view : EngineView L D C) (running : List ℕ)
    → IsEngine tells seen now leaves faults view → IsEngine tells seen now leaves faults (record view { running = running })
running_keeps tells seen now leaves faults view running is = record {
  logged = record {
    run = is.logged.run;
    all = is.logged.all;
    count = is.logged.count;
    begins = is.logged.begins;
    stands = is.logged.stands;
    keeps = λ rules first h plan. is.logged.keeps rules first (record { closed = h.closed; opens = h.opens; holds = h.holds }) plan;
    names = is.logged.names;
    framed = is.logged.framed;
    durable = is.logged.durable;
    acknowledged = is.logged.acknowledged;
  };
  home = λ journal h.
      let home = is.home journal h in
      record { opens = home.opens; others = home.others; later = home.later; known = home.known; rose = home.rose; images = home.images };
  others = is.others;
  lent = is.lent;
  whole = is.whole;
  stops = is.stops;
  ready = record { room = is.ready.room; apart = is.ready.apart; spelled = is.ready.spelled; shelved = is.ready.shelved; named = is.ready.named };
  placed = is.placed;
}

-- who leaves does not run
pub runs_none : (xs : List ℕ) (s : ℕ) → runs s (filter (λ m. not (m == s)) xs) ≡ false
runs_none [] s = refl
runs_none (x ∷ xs) s = elim (x == s) as (λ b. x == s ≡ b → runs s (cond (not b) (x ∷ filter (λ m. not (m == s)) xs) (filter (λ m. not (m == s)) xs)) ≡ false) [
  | true ↦ λ is. runs_none xs s
  | false ↦ λ is. ap (λ b. b || runs s (filter (λ m. not (m == s)) xs)) is ∙ runs_none xs s
] refl

-- and each other session runs as it did
pub runs_fewer : (xs : List ℕ) (s k : ℕ) → (k ≡ s → ⊥) → runs k (filter (λ m. not (m == s)) xs) ≡ runs k xs
runs_fewer [] s k ne = refl
runs_fewer (x ∷ xs) s k ne =
    elim (x == s) as (λ b. x == s ≡ b → runs k (cond (not b) (x ∷ filter (λ m. not (m == s)) xs) (filter (λ m. not (m == s)) xs)) ≡ (x == k) || runs k xs) [
      | true ↦ λ is. runs_fewer xs s k ne ∙ sym (ap (λ b. b || runs k xs) (ne_eqb x k (λ e. ne (sym e ∙ eqb-true x s is))))
      | false ↦ λ is. ap (λ b. (x == k) || b) (runs_fewer xs s k ne)
    ] refl

-- one number more
pub number_more : (a n : ℕ) → range_with_len a (n + 1) ≡ range_with_len a n ++ (a + n) ∷ []
number_more a zero = let e : a ≡ a + 0 = omega arith in ap (λ k. k ∷ []) e
number_more a (suc n) = let e : a + 1 + n ≡ a + suc n = omega arith in let s : suc n + 1 ≡ suc (n + 1) = omega arith in ap (range_with_len a) s ∙ ap (λ l. a ∷ l) (number_more (a + 1) n ∙ ap (λ k. range_with_len (a + 1) n ++ k ∷ []) e)
