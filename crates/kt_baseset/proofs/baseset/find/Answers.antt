use Rattle.std.proofs.Common.{◌≡◌, ◌≤◌, ℕ, [], get_or, refl, ap, sym, ◌∙◌, inl, inr, true, false, arith, below_more}
use Rattle.std.specs.Ordering.{nat_cmp, is_eq}
use Rattle.std.specs.Cmp.Lexicographic.{slice_cmp}
use Rattle.std.specs.declared.cmp.Ordering.TheVariants.{Greater}
use Rattle.std.proofs.lemmas.Bool.{cases_lt}
use Rattle.kt_baseset.specs.Tables.{keys_of}
use Rattle.kt_baseset.proofs.Found.{text_at, same_bytes, other_bytes, later_differs, count_keys}
use Rattle.kt_baseset.proofs.baseset.find.Goals as goal

pub compare-requires-clause-full : goal.compare-requires-clause-full
compare-requires-clause-full c = rw c.requires.texts.form refl

pub returns-in-Equal-clause-found : goal.returns-in-Equal-clause-found
returns-in-Equal-clause-found c =
    let cs = c.args.keys.now.cells in
    let key = c.args.key.now in
    let text = get_or (keys_of cs) c.keys.i [] in
    let compared = c.compare.ensures text (text_at cs c.keys.i c.requires.texts.texts (omega arith)) in
    let equal : is_eq (slice_cmp nat_cmp text key) ≡ true = ap is_eq (sym compared ∙ c.in-Equal.is) in
    (c.keys-test.true, same_bytes text key equal)

pub returns-in-Greater-clause-none : goal.returns-in-Greater-clause-none
returns-in-Greater-clause-none c =
    let cs = c.args.keys.now.cells in
    let key = c.args.key.now in
    let i = c.keys.i in
    let text = get_or (keys_of cs) i [] in
    let compared = c.compare.ensures text (text_at cs i c.requires.texts.texts (omega arith)) in
    let greater : slice_cmp nat_cmp text key ≡ Greater = sym compared ∙ c.in-Greater.is in
    λ k ge lt same. elim (cases_lt k i) [
      | inl less ↦ c.keys.invariant k ge less same
      | inr le ↦ later_differs (keys_of cs) key i k c.requires.rise greater le (omega (arith, lt, count_keys cs)) same
    ]

pub keys-preserved : goal.keys-preserved
keys-preserved c =
    let cs = c.args.keys.now.cells in
    let key = c.args.key.now in
    let i = c.keys.i in
    let text = get_or (keys_of cs) i [] in
    let compared = c.compare.ensures text (text_at cs i c.requires.texts.texts (omega arith)) in
    let differs : is_eq (slice_cmp nat_cmp text key) ≡ false = ap is_eq (sym compared ∙ c.in-Less.is) in
    λ k ge lt. below_more (λ (k : ℕ). c.args.start ≤ k → get_or (keys_of cs) k [] ≡ key → ⊥) i (λ k lt ge. c.keys.invariant k ge lt) (λ ge. other_bytes text key differs) k lt ge
