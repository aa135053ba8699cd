-- The first superblock of a table with one key column, an int64 of the name id.
use Rattle.std.proofs.Common.{◌≡◌, [], ◌∷◌, length, None, false, true, refl}
use Rattle.kt_base.specs.declared.cell.Kind.TheVariants as kind
use Rattle.kt_super.specs.declared.meta.Meta.{Meta}
use Rattle.kt_super.specs.Body.{spelled_body}
use Rattle.kt_super.specs.Fields.{body_fields}

first : Meta
first = record {
  number = 1;
  a = 0;
  c = 0;
  need = 0;
  last_mem = 0;
  next_rowset = 1;
  next_file = 3;
  next_column = 2;
  schema = (record { id = 1; name = 105 ∷ 100 ∷ []; kind = kind.Int64; key = true; nullable = false; default = None }) ∷ [];
  rowsets = [];
}

-- its fields
fields : body_fields first ≡ (1 ∷ 0 ∷ []) ∷ (1 ∷ 0 ∷ 0 ∷ 0 ∷ 0 ∷ 0 ∷ 0 ∷ 0 ∷ []) ∷ (0 ∷ 0 ∷ 0 ∷ 0 ∷ 0 ∷ 0 ∷ 0 ∷ 0 ∷ []) ∷ (0 ∷ 0 ∷ 0 ∷ 0 ∷ 0 ∷ 0 ∷ 0 ∷ 0 ∷ [])
    ∷ (0 ∷ 0 ∷ 0 ∷ 0 ∷ 0 ∷ 0 ∷ 0 ∷ 0 ∷ []) ∷ (0 ∷ 0 ∷ 0 ∷ 0 ∷ 0 ∷ 0 ∷ 0 ∷ 0 ∷ []) ∷ (1 ∷ 0 ∷ 0 ∷ 0 ∷ 0 ∷ 0 ∷ 0 ∷ 0 ∷ []) ∷ (3 ∷ 0 ∷ 0 ∷ 0 ∷ 0 ∷ 0 ∷ 0 ∷ 0 ∷ []) ∷ (2 ∷ 0 ∷ [])
    ∷ (1 ∷ 0 ∷ []) ∷ (1 ∷ 0 ∷ []) ∷ (2 ∷ []) ∷ (105 ∷ 100 ∷ []) ∷ (5 ∷ []) ∷ (1 ∷ []) ∷ (0 ∷ 0 ∷ 0 ∷ 0 ∷ []) ∷ []
unfolding first
fields = refl

-- they have 73 bytes
size : length (spelled_body first) ≡ 73
unfolding first
size = refl
