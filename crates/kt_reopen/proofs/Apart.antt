-- The places under a superblock differ, since the numbers of its rowsets rise.
use Rattle.std.proofs.Common.{◌≡◌, ◌≤◌, ◌<◌, ◌+◌, ℕ, List, [], ◌∷◌, map, true, false, refl, arith}
use Rattle.std.specs.Prelude.{◌==◌}
use Rattle.std.proofs.lemmas.Bool.Decides.{nat_tests}
use Rattle.kt_super.specs.declared.meta.Meta.{Meta}
use Rattle.kt_super.specs.declared.meta.MetaRowset.{MetaRowset}
use Rattle.kt_super.specs.Body.{IsMeta}
use Rattle.kt_super.specs.Rowsets.{is_rowset, taken_by, AreRowsets}
use Rattle.kt_rowfiles.specs.Files.{DiskRowset}
use Rattle.kt_content.specs.Places.{Place, memory, disk}
use Rattle.kt_reopen.specs.Bare.{bare, bare_rowset, places_under, LacksPlace, PlacesApart}

abbrev places_of : List MetaRowset → List Place
places_of rs = map (λ (d : DiskRowset). disk d.rowset) (map bare_rowset rs)

at_least : (least next n : ℕ) → is_rowset least next n ≡ true → least ≤ n
at_least least next n h = grind (arith, nat_tests)

differs : (a b : ℕ) → a < b → (a == b) ≡ false
differs a b lt = grind (arith, nat_tests)

-- a number below those of these rowsets is none of them
below_lacks : (next_rowset next_file least : ℕ) (taken : List ℕ) (rs : List MetaRowset) → AreRowsets next_rowset next_file least taken rs → (n : ℕ) → n < least → LacksPlace (disk n) (places_of rs)
below_lacks next_rowset next_file least taken [] h n lt = tt
below_lacks next_rowset next_file least taken (r ∷ rs) h n lt =
    let low = at_least least next_rowset r.rowset h.0.rowset in
    (differs n r.rowset (omega arith), below_lacks next_rowset next_file (r.rowset + 1) (taken_by taken r) rs h.1 n (omega arith))

rowsets_apart : (next_rowset next_file least : ℕ) (taken : List ℕ) (rs : List MetaRowset) → AreRowsets next_rowset next_file least taken rs → PlacesApart (places_of rs)
rowsets_apart next_rowset next_file least taken [] h = tt
rowsets_apart next_rowset next_file least taken (r ∷ rs) h = (
  below_lacks next_rowset next_file (r.rowset + 1) (taken_by taken r) rs h.1 r.rowset (omega arith),
  rowsets_apart next_rowset next_file (r.rowset + 1) (taken_by taken r) rs h.1,
)

no_memory : (rs : List MetaRowset) → LacksPlace memory (places_of rs)
no_memory [] = tt
no_memory (r ∷ rs) = (refl, no_memory rs)

pub places_apart : (m : Meta) → IsMeta m → PlacesApart (places_under (bare m))
places_apart m is = (no_memory m.rowsets, rowsets_apart m.next_rowset m.next_file 0 [] m.rowsets is.rowsets)
