-- The places of flying writes among the records of an engine.
use Rattle.std.proofs.Common.{◌≡◌, ◌≤◌, ◌+◌, ◌++◌, ◌∷◌, [], ℕ, suc, zero, List, length, Some, None, subst, arith, Bool, IsTrue}
use Rattle.std.specs.Prelude.{slice_get}
use Rattle.std.specs.List.{All}
use Rattle.kt_disk.specs.Disk.{Files}
use Rattle.kt_loglaws.specs.Side.{all_of}
use Rattle.kt_engine.specs.Logged.{Waits, IsPlaced, IsThere}
use Rattle.kt_engine.specs.Engines.{EngineView, IsEngine}
use Rattle.kt_engine.proofs.Lists.{all_each}

within : {A : Type 0} (xs : List A) (n : ℕ) (x : A) → slice_get xs n ≡ Some x → suc n ≤ length xs
within [] n x h = absurd (let e : None ≡ Some x = h in cc)
within (y ∷ xs) zero x h = omega arith
within (y ∷ xs) (suc n) x h = let more = within xs n x h in omega arith

-- each is placed among those that are durable, out or queued
pub placed_among : {L D C : Type 0} (tells : Bool) (seen : L → Files) (now : L → ℕ) (leaves : L → ℕ → Files → Type 0) (faults : L → ℕ) (view : EngineView L D C) → IsEngine tells seen now leaves faults view
    → All (IsPlaced (view.log.known.count + length (view.log.out ++ view.log.queued)) view.tablet.places) view.tablet.core.aloft
placed_among tells seen now leaves faults view e =
    let logged = e.logged in
    let each = logged.stands.flying in
    all_each (Waits (view.records ++ logged.run) view.tablet.places) (IsPlaced (view.log.known.count + length (view.log.out ++ view.log.queued)) view.tablet.places) view.tablet.core.aloft
    (λ w waits. record { place = suc waits.n; at = waits.place; among = subst (λ many. suc waits.n ≤ many) logged.count (within (view.records ++ logged.run) waits.n _ waits.there) }) each

-- and is there
pub placed_there : {L D C : Type 0} (tells : Bool) (seen : L → Files) (now : L → ℕ) (leaves : L → ℕ → Files → Type 0) (faults : L → ℕ) (view : EngineView L D C) → IsEngine tells seen now leaves faults view → IsTrue tells
    → All (IsThere (all_of seen view.log) view.tablet.places) view.tablet.core.aloft
placed_there tells seen now leaves faults view e told =
    let logged = e.logged in
    let each = logged.stands.flying in
    subst (λ records. All (IsThere records view.tablet.places) view.tablet.core.aloft) (logged.all told)
    (all_each (Waits (view.records ++ logged.run) view.tablet.places) (IsThere (view.records ++ logged.run) view.tablet.places) view.tablet.core.aloft
    (λ w waits. record { n = waits.n; place = waits.place; there = waits.there }) each)
