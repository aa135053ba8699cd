use Rattle.std.proofs.Common.{◌≡◌, ◌<◌, ◌+◌, ◌^◌, ◌∷◌, ℕ, List, drop, sym, ap, ◌∙◌, subst, arith, rules}
use Rattle.kt_history.specs.declared.target.Target.{Target}
use Rattle.kt_history.specs.declared.target.Target.TheVariants.{Mem}
use Rattle.kt_stores.specs.Shelf.{StoresView, names_of}
use Rattle.kt_tablet.specs.Filling.{told_stores}
use Rattle.kt_tablet.specs.Rows.{AreWritten}
use Rattle.kt_tablet.specs.Views.{IsReady}
use Rattle.kt_tablet.proofs.Frozen.{still_sound, told_frozen, names_frozen, frozen_sound, written_frozen, first_named, has_frozen}
use Rattle.kt_tablet.proofs.tablet.Tablet.freeze.Goals as goal

pub invariant_of-self : goal.invariant_of-self
invariant_of-self g c =
    let i = c.self.inside in
    let same = c.in_err-freeze.ensures.err in (
      still_sound g.C.Clock.readings _ _ _ _ _ c.self.invariant.0 (ap (λ (v : StoresView). told_stores i.fill v) same),
      subst (IsReady _ _ _ _ _ _) (sym (ap (λ (v : StoresView). v.pool) same)) c.self.invariant.1,
      c.self.invariant.2,
      subst (λ names. AreWritten names i.flights.items) (sym (ap (λ (v : StoresView). names_of v.shelf) same)) c.self.invariant.3,
    )

pub invariant_of-self-2 : goal.invariant_of-self-2
invariant_of-self-2 g c =
    let i = c.self.inside in
    let n = c.active_number-number.result in
    let is = c.in_ok-freeze.ensures.ok in
    let stores = ap (λ (v : StoresView). told_stores i.fill v) is ∙ told_frozen i.fill i.stores.frozen (n + 1) (Mem n) i.stores.shelf c.active_number-number.ensures in
    let names = ap (λ (v : StoresView). names_of v.shelf) is ∙ names_frozen (n + 1) (Mem n) i.stores.shelf c.active_number-number.ensures in (
      frozen_sound g.C.Clock.readings _ _ _ _ _ c.self.invariant.0 stores,
      subst (IsReady _ _ _ _ _ _) (sym (ap (λ (v : StoresView). v.pool) is)) c.self.invariant.1,
      c.self.invariant.2,
      written_frozen (Mem (n + 1)) (names_of i.stores.shelf) _ i.flights.items names c.self.invariant.3,
    )

pub returns-clause-frozen : goal.returns-clause-frozen
returns-clause-frozen g c =
    let i = c.self.inside in
    let n = c.active_number-number.result in
    let is = c.in_ok-freeze.ensures.ok in
    let stores = ap (λ (v : StoresView). told_stores i.fill v) is ∙ told_frozen i.fill i.stores.frozen (n + 1) (Mem n) i.stores.shelf c.active_number-number.ensures in
    let names = ap (λ (v : StoresView). names_of v.shelf) is ∙ names_frozen (n + 1) (Mem n) i.stores.shelf c.active_number-number.ensures in
    has_frozen _ _ _ _ (drop 1 (names_of i.stores.shelf)) _ _ n _ c.self.view_is stores names (ap (λ (v : StoresView). v.pool) is) (ap (λ (v : StoresView). v.frozen) is) (ap (λ (v : StoresView). v.files) is) (first_named (Mem n) i.stores.shelf c.active_number-number.ensures)

one_name : (a b : ℕ) (xs ys : List Target) → Mem a ∷ xs ≡ Mem b ∷ ys → a ≡ b
one_name a b xs ys e = cc

pub returns-clause-fits : goal.returns-clause-fits
returns-clause-fits g c = λ number others is.
    let h = returns-clause-frozen g c in
    let same : number ≡ h.number + 1 = one_name number (h.number + 1) others _ (sym is ∙ ap (λ v. v.names) h.is) in
    let fits : h.number + 1 < 2 ^ 64 = search rules in
    omega (arith, same, fits)
