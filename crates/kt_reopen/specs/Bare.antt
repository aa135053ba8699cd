-- A superblock without its files: what the names in a COMMIT are held against.
use Rattle.std.specs.Prelude.{◌≡◌, ℕ, false, List, [], ◌∷◌, map, get_or}
use Rattle.std.specs.List.{cons_option}
use Rattle.kt_super.specs.declared.meta.Meta.{Meta}
use Rattle.kt_super.specs.declared.meta.MetaRowset.{MetaRowset}
use Rattle.kt_rowfiles.specs.Files.{DiskRowset}
use Rattle.kt_content.specs.Places.{Super, Place, memory, disk, same_place}
use Rattle.kt_reopen.specs.declared.needed.Needed.{Needed}

abbrev pub bare_rowset : MetaRowset → DiskRowset
bare_rowset r = record { rowset = r.rowset; last_dms = r.last_dms; base = []; undos = []; redos = [] }

abbrev pub bare : Meta → Super
bare m = record { a = m.a; c = m.c; need = m.need; last_mem = m.last_mem; rowsets = map bare_rowset m.rowsets }

-- the stores that are opened under a superblock, in their order, and that at a place, counted from 0
abbrev pub places_under : Super → List Place
places_under super = memory ∷ map (λ (d : DiskRowset). disk d.rowset) super.rowsets

abbrev pub place_at : Super → ℕ → Place
place_at super at = get_or (places_under super) at memory

-- the places of what is needed
abbrev pub places_needed : Needed → List ℕ
places_needed n = cons_option n.first (cons_option n.second [])

-- no place is there twice
abbrev pub LacksPlace : Place → List Place → Type 0
LacksPlace p [] = Unit {0}
LacksPlace p (q ∷ places) = (same_place p q ≡ false) × LacksPlace p places

abbrev pub PlacesApart : List Place → Type 0
PlacesApart [] = Unit {0}
PlacesApart (p ∷ places) = LacksPlace p places × PlacesApart places
