-- What a store of changes alone is.
use Rattle.std.specs.Prelude.{◌≡◌, true, List, [], ◌∷◌, None}
use Rattle.std.specs.FinMap.Entries.{is_sorted}
use Rattle.kt_history.specs.Rows.{key_cmp}
use Rattle.kt_history.specs.Stores.{Store}

-- no row was there before its changes
abbrev pub AllBare : Store → Type 0
AllBare [] = Unit {0}
AllBare (r ∷ store) = (r.1.first ≡ None) × AllBare store

-- the keys rise, and all that the store has of a row are its changes
pub record IsGrown (store : Store) : Type 0 where
  pub sorted : is_sorted key_cmp store ≡ true
  pub bare : AllBare store

-- each store is
abbrev pub AllGrown : List Store → Type 0
AllGrown [] = Unit {0}
AllGrown (s ∷ stores) = IsGrown s × AllGrown stores
