use Rattle.std.proofs.Common.{◌≡◌, ◌+◌, ◌++◌, ◌∷◌, [], ℕ, zero, suc, List, Option, None, refl, sym, ap, ◌∙◌, arith}
use Rattle.std.specs.Prelude.{replicate}
use Rattle.kt_diskrowset.specs.declared.files.FileHeld.{FileHeld}
use Rattle.kt_maint.proofs.handing.no_files.Goals as goal

abbrev none : Option FileHeld
none = None

none_more : (n : ℕ) → replicate (suc n) none ≡ replicate n none ++ none ∷ []
none_more zero = refl
none_more (suc n) = ap (λ (l : List (Option FileHeld)). none ∷ l) (none_more n)

pub files-preserved : goal.files-preserved
files-preserved c =
    let k = c.files.counter in
    let more : k + 1 ≡ suc k = omega arith in
    record {
      long = (let a = c.push_reserved.ensures.len in let b = c.files.invariant.long in omega arith);
      room = (let a = c.push_reserved.ensures.capacity in let b = c.files.invariant.room in omega arith);
      made = c.push_reserved.ensures.items ∙ ap (λ (l : List (Option FileHeld)). l ++ none ∷ []) c.files.invariant.made ∙ sym (ap (λ (n : ℕ). replicate n none) more ∙ none_more k);
    }
