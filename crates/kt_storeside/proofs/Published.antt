-- Turns of a store come one behind another, also beyond where they were.
use Rattle.std.proofs.Common.{◌≡◌, ◌≤◌, ◌+◌, ℕ, List, [], ◌∷◌, Option, Some, refl, sym, subst, arith, inl, inr}
use Rattle.std.specs.Prelude.{◌⊎◌, Ok}
use Rattle.kt_disk.specs.Disk.{Files, LeavesOnly}
use Rattle.kt_super.specs.declared.meta.Meta.{Meta}
use Rattle.kt_super.specs.Body.{IsMeta}
use Rattle.kt_super.specs.Slots.{super_of}
use Rattle.kt_files.specs.Named.{HasNamed}
use Rattle.kt_storeside.specs.Supers.{HasSuper}
use Rattle.kt_storeside.specs.Published.{Version, Turn, IsTurnOf, AreTurns, WasPublished, version_after, moment_after, published_last}

-- they end no earlier than they begin
from_low : (left : ℕ → Files → Type 0) (from : ℕ) (first : Version) (turns : List Turn) → AreTurns left from first turns → from ≤ moment_after from turns
from_low left from first [] are = omega arith
from_low left from first (t ∷ turns) are = let low = from_low left from first turns are.0 in omega (arith, low, are.1.later)

-- a disk that leaves no more at these moments keeps them
turns_stay : (left later : ℕ → Files → Type 0) (bound from : ℕ) (first : Version) (turns : List Turn) → moment_after from turns ≤ bound → ((n : ℕ) (c : Files) → n ≤ bound → later n c → left n c) → AreTurns left from first turns → AreTurns later from first turns
turns_stay left later bound from first [] le no_more are = tt
turns_stay left later bound from first (t ∷ turns) le no_more are = (
  turns_stay left later bound from first turns (omega (arith, are.1.later, le)) no_more are.0,
  record { later = are.1.later; next = are.1.next; one = are.1.one; kept = are.1.kept; each = λ n c low high is. are.1.each n c low high (no_more n c (omega (arith, high, le)) is) },
)

module _ {D : Type 0} (seen : D → Files) (now : D → ℕ) (leaves : D → ℕ → Files → Type 0) where
  -- what a turn leaves at each moment
  abbrev pub Between : Version → Option Meta → Version → Files → Type 0
  Between before lent after c = HasSuper before.files before.meta c ⊎ ((m : Meta) × (lent ≡ Some m) × HasSuper after.files m c)

  -- one more
  pub turned : (old mid new : D) (before after : Version) (lent : Option Meta) → (was : WasPublished seen now leaves old mid) → published_last was ≡ before
      → ((m : Meta) → lent ≡ Some m → IsMeta m × (m.number ≡ before.meta.number + 1)) → (after.meta ≡ before.meta) ⊎ (lent ≡ Some after.meta) → HasNamed before.meta.rowsets before.files after.files
      → LeavesOnly now leaves (Between before lent after) mid new → (more : WasPublished seen now leaves old new) × (published_last more ≡ after)
  turned old mid new before after lent was is next one kept only =
      let first : Version = record { meta = was.first; files = seen old } in
      let low = from_low (leaves mid) (now old) first was.turns was.are in
      let up : now old ≤ now mid = omega (arith, low, was.last) in (
        record {
          first = was.first;
          first_is = was.first_is;
          turns = record { lent = lent; published = after; over = now new } ∷ was.turns;
          are = (
            turns_stay (leaves mid) (leaves new) (now mid) (now old) first was.turns (omega (arith, was.last)) only.past was.are,
            subst (λ (v : Version). IsTurnOf (leaves new) (moment_after (now old) was.turns) v (record { lent = lent; published = after; over = now new })) (sym is) (record {
              later = omega (arith, was.last, only.later);
              next = next;
              one = one;
              kept = kept;
              each = λ n c from to left. only.each n c (omega (arith, was.last, from)) to left;
            }),
          );
          last = refl;
          past = λ n c le left. was.past n c le (only.past n c (omega (arith, le, up)) left);
          keeps = λ n c le left. only.keeps n c (omega (arith, le, up)) (was.keeps n c le left);
        },
        refl,
      )

  -- the same, where each moment leaves what another word says
  pub only_so : (P Q : Files → Type 0) (old new : D) → ((c : Files) → P c → Q c) → LeavesOnly now leaves P old new → LeavesOnly now leaves Q old new
  only_so P Q old new so only = record { later = only.later; each = λ n c from to left. so c (only.each n c from to left); past = only.past; keeps = only.keeps }

  -- none yet
  pub none_yet : (disk : D) (m : Meta) → super_of (seen disk) ≡ Ok (Some m) → (was : WasPublished seen now leaves disk disk) × (published_last was ≡ record { meta = m; files = seen disk })
  none_yet disk m is = (record { first = m; first_is = is; turns = []; are = tt; last = refl; past = λ n c le left. left; keeps = λ n c le left. left }, refl)
