use Rattle.std.proofs.Common.{◌≡◌, ◌∙◌, ◌+◌, arith, length, map, subst, suc, sym, take}
use Rattle.std.proofs.lemmas.List.{length-map}
use Rattle.kt_history.specs.Grown.{AllGrown}
use Rattle.kt_stores.specs.Shelf.{stores_of}
use Rattle.kt_tablet.specs.Views.{IsExact, rows_of, aloft_of}
use Rattle.kt_tablet.proofs.Flights.{places_own}
use Rattle.kt_tablet.proofs.Exact.{vacant_stores}
use Rattle.kt_tablet.proofs.Growth.{told_grown}
use Rattle.kt_tablet.proofs.Targets.{each_named}
use Rattle.kt_tablet.proofs.tablet.Tablet.standing.Goals as goal

pub returns-clause-exact : goal.returns-clause-exact
returns-clause-exact g c = subst (λ v. IsExact v.core.aloft v.core.stores v.pool) c.self.view_is (record {
  promised = c.self.invariant.1.cells;
  vacant = vacant_stores c.self.inside.fill c.self.inside.stores c.standing.ensures.used c.standing.ensures.exact;
})

pub returns-clause-placed : goal.returns-clause-placed
returns-clause-placed g c = subst (λ v. map (λ p. p.0) v.places ≡ map (λ w. w.s) v.core.aloft) c.self.view_is (places_own c.self.inside.flights.items)

pub returns-clause-named : goal.returns-clause-named
returns-clause-named g c = subst (λ v. length v.names ≡ length v.core.stores) c.self.view_is (each_named c.self.inside.fill (suc c.self.inside.stores.frozen) c.self.inside.stores.shelf)

pub returns-clause-noted : goal.returns-clause-noted
returns-clause-noted g c = subst (λ v. length v.notes ≡ length v.core.aloft) c.self.view_is
    (length-map c.self.inside.flights.items rows_of ∙ sym (length-map c.self.inside.flights.items aloft_of))

pub returns-clause-memory : goal.returns-clause-memory
returns-clause-memory g c =
    let e : 1 + c.self.inside.stores.frozen ≡ suc c.self.inside.stores.frozen = omega arith in
    subst (λ v. AllGrown (take (suc v.frozen) v.core.stores)) c.self.view_is
    (told_grown c.self.inside.fill (suc c.self.inside.stores.frozen) (stores_of c.self.inside.stores) (subst (λ n. AllGrown (take n (stores_of c.self.inside.stores))) e c.standing.ensures.memory))
