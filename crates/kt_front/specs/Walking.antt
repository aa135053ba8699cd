-- Walking over the cells of a block that is known to be one.
use Rattle.std.specs.Prelude.{◌≡◌, ℕ, zero, suc, ◌*◌, ◌<◌, ◌≤◌, List, [], ◌∷◌, length, take, drop, get_or, Result, Ok, Err, nat_lt, if◌then◌else◌}
use Rattle.std.specs.declared.cmp.Ordering.{Ordering}
use Rattle.std.specs.Ordering.{nat_cmp}
use Rattle.std.specs.Cmp.Lexicographic.{slice_cmp}
use Rattle.kt_front.specs.Spelling.{cells, shared, spelling, Fits}
use Rattle.std.specs.Int.{w32}
use Rattle.kt_bytes.specs.Reading.{◌>>=◌, number_at}

-- byte lists are ordered byte by byte, and a front comes before what it is the front of
abbrev pub order : List ℕ → List ℕ → Ordering
order xs ys = slice_cmp nat_cmp xs ys

-- the two fields of a cell, and the bytes behind it
pub record Fields : Type 0 where
  pub shared : ℕ
  pub rest : List ℕ
  pub after : List ℕ

unfoldable pub fields_at : List ℕ → Result Fields ℕ
fields_at bytes = do
  n ← number_at w32 bytes
  m ← number_at w32 n.1
  if nat_lt (length m.1) m.0 then Err 0 else Ok (record { shared = n.0; rest = take m.0 m.1; after = drop m.0 m.1 })

-- the cells behind the first j, where the first has this number and stands behind this item
abbrev pub behind : ℕ → ℕ → List ℕ → List (List ℕ) → List ℕ
behind zero i before items = cells i before items
behind (suc j) i before [] = []
behind (suc j) i before (item ∷ items) = behind j (suc i) item items

-- the item before the one at place j
abbrev pub before_at : ℕ → List ℕ → List (List ℕ) → List ℕ
before_at zero before items = before
before_at (suc j) before items = get_or items j []

-- the bytes are a block of these items
pub record IsBlock (bytes : List ℕ) (items : List (List ℕ)) : Type 0 where
  pub fits : Fits items
  pub parts : bytes ≡ spelling items

-- how far an item goes with a key, and how the two are ordered
pub record Meets (matched : ℕ) (way : Ordering) (item key : List ℕ) : Type 0 where
  pub alike : matched ≡ shared item key
  pub way_is : way ≡ order item key

-- where each stretch of a list's block begins
pub record AreStarts (starts : List ℕ) (items : List (List ℕ)) : Type 0 where
  pub enough : length items ≤ 16 * length starts
  pub each : (q : ℕ) → q < length starts → get_or starts q 0 ≡ length (spelling (take (16 * q) items))
