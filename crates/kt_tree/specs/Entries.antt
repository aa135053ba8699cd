-- A sorted map: a list of keys, each with the place of its value.
use Rattle.std.specs.Prelude.{◌≡◌, ℕ, Bool, true, List, [], ◌∷◌, Option, None, Some}
use Rattle.std.specs.List.{find}
use Rattle.std.specs.Option.{option_map}
use Rattle.std.specs.declared.cmp.Ordering.{Ordering}
use Rattle.std.specs.declared.cmp.Ordering.TheVariants.{Less, Equal, Greater}
use Rattle.std.specs.Ordering.{nat_cmp, is_eq, is_gt}
use Rattle.std.specs.Cmp.Lexicographic.{slice_cmp}

-- a key, and a cell: that at which its value is placed, or in a list of the keys' own places that of the key
pub record Entry : Type 0 where
  pub key : List ℕ
  pub value : ℕ

-- the order of two keys, byte by byte
abbrev pub order : List ℕ → List ℕ → Ordering
order a b = slice_cmp nat_cmp a b

-- the first key is below the second
abbrev pub IsBelow : List ℕ → List ℕ → Type 0
IsBelow a b = order a b ≡ Less

-- each of these keys is below this one
abbrev pub AreBelow : List ℕ → List Entry → Type 0
AreBelow key [] = Unit {0}
AreBelow key (e ∷ es) = IsBelow e.key key × AreBelow key es

-- each of these keys is above this one
abbrev pub AreAbove : List ℕ → List Entry → Type 0
AreAbove key [] = Unit {0}
AreAbove key (e ∷ es) = IsBelow key e.key × AreAbove key es

-- each key is below those after it
abbrev pub IsRising : List Entry → Type 0
IsRising [] = Unit {0}
IsRising (e ∷ es) = AreAbove e.key es × IsRising es

-- this is the entry's key
abbrev pub is_at : List ℕ → Entry → Bool
is_at key e = is_eq (order e.key key)

-- the value of this key
abbrev pub value_of : List ℕ → List Entry → Option ℕ
value_of key es = option_map (λ (e : Entry). e.value) (find (is_at key) es)

-- the second key is above the first, if there is a first
abbrev pub is_past : Option (List ℕ) → List ℕ → Bool
is_past None other = true
is_past (Some key) other = is_gt (order other key)

abbrev pub is_after : Option (List ℕ) → Entry → Bool
is_after key e = is_past key e.key

-- the first entry above this key, or the first of all
abbrev pub next : Option (List ℕ) → List Entry → Option Entry
next key es = find (is_after key) es

abbrev pub put_at : Ordering → Entry → Entry → List Entry → List Entry → List Entry
put_at Less new e es more = e ∷ more
put_at Equal new e es more = record { key = e.key; value = new.value } ∷ es
put_at Greater new e es more = new ∷ e ∷ es

-- the entries with this value at this key
abbrev pub put : List ℕ → ℕ → List Entry → List Entry
put key value [] = record { key = key; value = value } ∷ []
put key value (e ∷ es) = put_at (order e.key key) (record { key = key; value = value }) e es (put key value es)
