-- Columns as a part of the format.
use Rattle.std.proofs.Common.{◌≡◌, ℕ, zero, suc, ◌+◌, ◌*◌, ◌^◌, ◌<◌, ◌≤◌, Bool, true, false, not, ◌&&◌, ◌||◌, eqb, leb, ltb, List, [], ◌∷◌, ◌++◌, length, Option, Result, refl, sym, ap, subst, ◌∙◌, append_assoc, arith}
use Rattle.std.specs.Prelude.{is_some}
use Rattle.std.specs.List.{concat, flat_map}
use Rattle.std.specs.Int.{w8, w16, to_le_bytes}
use Rattle.std.proofs.lemmas.Bool.{ltb-true, lt-ltb, leb-true, ne_eqb}
use Rattle.std.proofs.lemmas.List.{append-nil, length_push}
use Rattle.kt_base.specs.declared.cell.Kind.{Kind}
use Rattle.kt_base.specs.declared.cell.Kind.TheVariants as kind
use Rattle.kt_base.specs.declared.cell.Cell.{Cell}
use Rattle.kt_schema.specs.declared.column.Column.{Column}
use Rattle.kt_bytes.specs.Reading.{◌>>=◌, checked_at, many_at, EachAfter}
use Rattle.kt_bytes.proofs.Numbers.{IsBytes, wide8, wide16}
use Rattle.kt_bytes.proofs.Formats.{Part, bytes_front, bytes_back}
use Rattle.kt_bytes.proofs.Leaves.{Passes, number_fields, number_part, IsText, text_at, text_part, text_fields}
use Rattle.kt_bytes.proofs.Joins.{both_part, same_part, made_at, made_part, AreItems, many_part}
use Rattle.kt_super.specs.Columns.{has_id, has_name, is_free_id, is_bool, may_stand, IsColumn, kind_number, bit, flags_of, has_free_name, is_kind, may_be, kind_of, is_key, is_nullable, has_default, are_flags, default_at, name_at, column_at}
use Rattle.kt_super.specs.Fields.{default_fields, column_fields}
use Rattle.kt_super.proofs.Apart.{free_number}
use Rattle.kt_super.proofs.Names.{OwnName, free_name, name_passes}
use Rattle.kt_super.proofs.CellParts.{DefaultFits, default_part}
use Rattle.kt_super.proofs.InBytes.{InBytes, in_bytes, with_fact}

pub both : (a b : Bool) → (a && b) ≡ true → (a ≡ true) × (b ≡ true)
both true b e = (refl, e)
both false b e = absurd cc

pub and_true : (a b : Bool) → a ≡ true → b ≡ true → (a && b) ≡ true
and_true a b p q = ap (λ (x : Bool). x && b) p ∙ q

-- ---- kinds and flags

kind_back : (k : ℕ) → is_kind k ≡ true → kind_number (kind_of k) ≡ k
kind_back zero is = absurd cc
kind_back (suc zero) is = refl
kind_back (suc (suc zero)) is = refl
kind_back (suc (suc (suc zero))) is = refl
kind_back (suc (suc (suc (suc zero)))) is = refl
kind_back (suc (suc (suc (suc (suc zero))))) is = refl
kind_back (suc (suc (suc (suc (suc (suc zero)))))) is = refl
kind_back (suc (suc (suc (suc (suc (suc (suc zero))))))) is = refl
kind_back (suc (suc (suc (suc (suc (suc (suc (suc k)))))))) is = absurd (omega (arith, leb-true (suc (suc (suc (suc (suc (suc (suc (suc k)))))))) 7 (both (leb 1 (suc (suc (suc (suc (suc (suc (suc (suc k))))))))) (leb (suc (suc (suc (suc (suc (suc (suc (suc k)))))))) 7) is).1))

kind_again : (k : Kind) → (kind_of (kind_number k) ≡ k) × (is_kind (kind_number k) ≡ true) × (kind_number k < 2 ^ 8)
kind_again kind.Bool = (refl, refl, omega arith)
kind_again kind.Int8 = (refl, refl, omega arith)
kind_again kind.Int16 = (refl, refl, omega arith)
kind_again kind.Int32 = (refl, refl, omega arith)
kind_again kind.Int64 = (refl, refl, omega arith)
kind_again kind.String = (refl, refl, omega arith)
kind_again kind.Binary = (refl, refl, omega arith)

flag_bits : (k n d : Bool) → (is_key (bit k + 2 * bit n + 4 * bit d) ≡ k) × (is_nullable (bit k + 2 * bit n + 4 * bit d) ≡ n) × (has_default (bit k + 2 * bit n + 4 * bit d) ≡ d) × (bit k + 2 * bit n + 4 * bit d < 8)
flag_bits true true true = (refl, refl, refl, omega arith)
flag_bits true true false = (refl, refl, refl, omega arith)
flag_bits true false true = (refl, refl, refl, omega arith)
flag_bits true false false = (refl, refl, refl, omega arith)
flag_bits false true true = (refl, refl, refl, omega arith)
flag_bits false true false = (refl, refl, refl, omega arith)
flag_bits false false true = (refl, refl, refl, omega arith)
flag_bits false false false = (refl, refl, refl, omega arith)

flags_back : (f : ℕ) → ltb f 8 ≡ true → bit (is_key f) + 2 * bit (is_nullable f) + 4 * bit (has_default f) ≡ f
flags_back zero lt = refl
flags_back (suc zero) lt = refl
flags_back (suc (suc zero)) lt = refl
flags_back (suc (suc (suc zero))) lt = refl
flags_back (suc (suc (suc (suc zero)))) lt = refl
flags_back (suc (suc (suc (suc (suc zero))))) lt = refl
flags_back (suc (suc (suc (suc (suc (suc zero)))))) lt = refl
flags_back (suc (suc (suc (suc (suc (suc (suc zero))))))) lt = refl
flags_back (suc (suc (suc (suc (suc (suc (suc (suc f)))))))) lt = absurd (omega (arith, ltb-true (suc (suc (suc (suc (suc (suc (suc (suc f)))))))) 8 lt))

flags_pass : (earlier : List Column) (c : Column) → may_stand earlier c.kind c.key c.nullable ≡ true → are_flags earlier (kind_of (kind_number c.kind)) (flags_of c) ≡ true
flags_pass earlier c stands =
    let bits = flag_bits c.key c.nullable (is_some c.default) in
    let lt : ltb (flags_of c) 8 ≡ true = lt-ltb (flags_of c) 8 bits.3 in
    rw (lt, bits.0, bits.1, (kind_again c.kind).0) stands

flags_stand : (earlier : List Column) (c : Column) → are_flags earlier (kind_of (kind_number c.kind)) (flags_of c) ≡ true → may_stand earlier c.kind c.key c.nullable ≡ true
flags_stand earlier c pass =
    let bits = flag_bits c.key c.nullable (is_some c.default) in
    let lt : ltb (flags_of c) 8 ≡ true = lt-ltb (flags_of c) 8 bits.3 in
    rw (lt, bits.0, bits.1, (kind_again c.kind).0) at pass

-- the first column is not of truth values
not_bool : (k : ℕ) → may_be [] k ≡ true → is_bool (kind_of k) ≡ false
not_bool zero e = absurd cc
not_bool (suc zero) e = absurd cc
not_bool (suc (suc zero)) e = refl
not_bool (suc (suc (suc zero))) e = refl
not_bool (suc (suc (suc (suc zero)))) e = refl
not_bool (suc (suc (suc (suc (suc zero))))) e = refl
not_bool (suc (suc (suc (suc (suc (suc zero)))))) e = refl
not_bool (suc (suc (suc (suc (suc (suc (suc zero))))))) e = refl
not_bool (suc (suc (suc (suc (suc (suc (suc (suc k)))))))) e = absurd (omega (arith, leb-true (suc (suc (suc (suc (suc (suc (suc (suc k)))))))) 7 (both (leb 1 (suc (suc (suc (suc (suc (suc (suc (suc k))))))))) (leb (suc (suc (suc (suc (suc (suc (suc (suc k)))))))) 7) (both (is_kind (suc (suc (suc (suc (suc (suc (suc (suc k))))))))) _ e).0).1))

not_first : (d : Column) (earlier : List Column) → not (eqb (length (d ∷ earlier)) 0) ≡ true
not_first d earlier = ap not (ne_eqb (length (d ∷ earlier)) 0 (λ e. omega (arith, e)))

-- some flags can stand behind a kind that can
some_flags : (earlier : List Column) (k : ℕ) → may_be earlier k ≡ true → (f : ℕ) × (are_flags earlier (kind_of k) f ≡ true) × (f < 2 ^ 8)
some_flags [] k e = (1, ap (λ (b : Bool). not b && true) (not_bool k e), omega arith)
some_flags (d ∷ earlier) k e = (0, not_first d earlier, omega arith)

kind_passes : (earlier : List Column) (c : Column) → may_stand earlier c.kind c.key c.nullable ≡ true → may_be earlier (kind_number c.kind) ≡ true
kind_passes (d ∷ earlier) c stands = and_true (is_kind (kind_number c.kind)) _ (kind_again c.kind).1 (or_right (ltb 1 (kind_number c.kind)) _ (not_first d earlier))
  where
    or_right : (a b : Bool) → b ≡ true → (a || b) ≡ true
    or_right true b e = refl
    or_right false b e = e
kind_passes [] c stands = first c.kind c.key c.nullable stands
  where
    first : (k : Kind) (key nullable : Bool) → may_stand [] k key nullable ≡ true → may_be [] (kind_number k) ≡ true
    first kind.Bool true true e = absurd cc
    first kind.Bool true false e = absurd cc
    first kind.Bool false nullable e = absurd cc
    first kind.Int8 key nullable e = refl
    first kind.Int16 key nullable e = refl
    first kind.Int32 key nullable e = refl
    first kind.Int64 key nullable e = refl
    first kind.String key nullable e = refl
    first kind.Binary key nullable e = refl

-- ---- a column

-- a column behind these, and its name in bytes
abbrev pub Keeps : ℕ → List Column → Column → Type 0
Keeps next front c = IsColumn next front c × IsBytes c.name

abbrev name_fields : List ℕ → List (List ℕ)
name_fields name = to_le_bytes w8 (length name) ∷ name ∷ []

abbrev NameFits : List Column → List ℕ → Type 0
NameFits earlier name = Passes (has_free_name earlier) (2 ^ 8) (length name) × IsText (length name) (has_name earlier) name

name_part : (earlier : List Column) → length earlier < 65536 → Part (name_at earlier) name_fields (NameFits earlier)
unfolding name_at
name_part earlier few =
    both_part (checked_at w8 (has_free_name earlier)) (number_fields w8) (Passes (has_free_name earlier) (2 ^ 8)) (λ n. text_at n (has_name earlier)) text_fields (λ n. IsText n (has_name earlier)) (λ name. length name)
    (λ n name f. f.1) (number_part w8 (2 ^ 8) wide8 (has_free_name earlier) (omega arith) 2 refl (omega arith))
    (λ n f. let t = free_name n earlier few f.0 in text_part n (has_name earlier) t.0 t.1 t.2 t.3)

module _ (next : ℕ) (earlier : List Column) where
  abbrev made : ℕ → List ℕ → ℕ → ℕ → Option Cell → Column
  made id name k f d = record { id = id; name = name; kind = kind_of k; key = is_key f; nullable = is_nullable f; default = d }

  abbrev Default : ℕ → List ℕ → ℕ → ℕ → Column → Type 0
  Default id name k f c = (ltb f 8 ≡ true) × (DefaultFits (has_default f) c.default × (made id name k f c.default ≡ c))

  abbrev Flags : ℕ → List ℕ → ℕ → Column → Type 0
  Flags id name k c = (may_be earlier k ≡ true) × (Passes (are_flags earlier (kind_of k)) (2 ^ 8) (flags_of c) × Default id name k (flags_of c) c)

  abbrev Kinds : ℕ → List ℕ → Column → Type 0
  Kinds id name c = Passes (may_be earlier) (2 ^ 8) (kind_number c.kind) × Flags id name (kind_number c.kind) c

  abbrev Names : ℕ → Column → Type 0
  Names id c = InBytes name_fields (NameFits earlier) c.name × Kinds id c.name c

  flags_are : (id : ℕ) (name : List ℕ) (k f : ℕ) (c : Column) → Default id name k f c → flags_of c ≡ f
  flags_are id name k f c g =
      let is : flags_of c ≡ bit (is_key f) + 2 * bit (is_nullable f) + 4 * bit (is_some c.default) = ap (λ (x : Column). bit x.key + 2 * bit x.nullable + 4 * bit (is_some c.default)) (sym g.1.1) in
      is ∙ ap (λ (b : Bool). bit (is_key f) + 2 * bit (is_nullable f) + 4 * bit b) g.1.0.0 ∙ flags_back f g.0

  kind_is : (id : ℕ) (name : List ℕ) (k : ℕ) (c : Column) → Flags id name k c → kind_number c.kind ≡ k
  kind_is id name k c g = ap (λ (x : Column). kind_number x.kind) (sym g.1.1.1.1) ∙ kind_back k (both (is_kind k) _ g.0).0

  abbrev default_step : ℕ → List ℕ → ℕ → ℕ → List ℕ → Result (Column × List ℕ) ℕ
  default_step id name k f = made_at (default_at f) (made id name k f)

  abbrev flags_step : ℕ → List ℕ → ℕ → List ℕ → Result (Column × List ℕ) ℕ
  flags_step id name k bytes = checked_at w8 (are_flags earlier (kind_of k)) bytes >>= λ f. default_step id name k f.0 f.1

  abbrev kind_step : ℕ → List ℕ → List ℕ → Result (Column × List ℕ) ℕ
  kind_step id name bytes = checked_at w8 (may_be earlier) bytes >>= λ k. flags_step id name k.0 k.1

  abbrev name_step : ℕ → List ℕ → Result (Column × List ℕ) ℕ
  name_step id bytes = name_at earlier bytes >>= λ name. kind_step id name.0 name.1

  default_last : (id : ℕ) (name : List ℕ) (k f : ℕ) → Passes (are_flags earlier (kind_of k)) (2 ^ 8) f → Part (default_step id name k f) (λ c. default_fields c.default) (Default id name k f)
  default_last id name k f pass =
      with_fact (default_step id name k f) (λ c. default_fields c.default) (λ c. DefaultFits (has_default f) c.default × (made id name k f c.default ≡ c))
      (made_part (default_at f) default_fields (DefaultFits (has_default f)) (made id name k f) (λ c. c.default) (λ d g. refl) (default_part f)) (ltb f 8 ≡ true) (both (ltb f 8) _ pass.0).0

  flags_part : (id : ℕ) (name : List ℕ) (k : ℕ) → Passes (may_be earlier) (2 ^ 8) k → Part (flags_step id name k) (λ c. to_le_bytes w8 (flags_of c) ∷ default_fields c.default) (Flags id name k)
  flags_part id name k pass =
      let some = some_flags earlier k pass.0 in
      with_fact (flags_step id name k) (λ c. to_le_bytes w8 (flags_of c) ∷ default_fields c.default) (λ c. Passes (are_flags earlier (kind_of k)) (2 ^ 8) (flags_of c) × Default id name k (flags_of c) c)
      (both_part (checked_at w8 (are_flags earlier (kind_of k))) (number_fields w8) (Passes (are_flags earlier (kind_of k)) (2 ^ 8)) (default_step id name k) (λ c. default_fields c.default) (Default id name k) flags_of
      (flags_are id name k) (number_part w8 (2 ^ 8) wide8 (are_flags earlier (kind_of k)) (omega arith) some.0 some.1 some.2) (default_last id name k))
      (may_be earlier k ≡ true) pass.0

  kind_part : (id : ℕ) (name : List ℕ) → Part (kind_step id name) (λ c. to_le_bytes w8 (kind_number c.kind) ∷ to_le_bytes w8 (flags_of c) ∷ default_fields c.default) (Kinds id name)
  kind_part id name =
      both_part (checked_at w8 (may_be earlier)) (number_fields w8) (Passes (may_be earlier) (2 ^ 8)) (flags_step id name) (λ c. to_le_bytes w8 (flags_of c) ∷ default_fields c.default) (Flags id name) (λ c. kind_number c.kind)
      (kind_is id name) (number_part w8 (2 ^ 8) wide8 (may_be earlier) (omega arith) 2 refl (omega arith)) (flags_part id name)

  behind_id : Column → List (List ℕ)
  behind_id c = to_le_bytes w8 (length c.name) ∷ c.name ∷ to_le_bytes w8 (kind_number c.kind) ∷ to_le_bytes w8 (flags_of c) ∷ default_fields c.default

  named_part : (id : ℕ) → length earlier < 65536 → Part (name_step id) behind_id (Names id)
  unfolding behind_id
  named_part id few =
      both_part (name_at earlier) name_fields (InBytes name_fields (NameFits earlier)) (kind_step id) (λ c. to_le_bytes w8 (kind_number c.kind) ∷ to_le_bytes w8 (flags_of c) ∷ default_fields c.default) (Kinds id) (λ c. c.name)
      (λ name c g. sym (ap (λ (x : Column). x.name) g.1.1.1.1.1)) (in_bytes (name_at earlier) name_fields (NameFits earlier) (name_part earlier few)) (λ name f. kind_part id name)

  abbrev Ids : ℕ → Type 0
  Ids = Passes (is_free_id next earlier) (2 ^ 16)

  -- a column behind these, which have names of their own
  pub column_part : next < 2 ^ 16 → length earlier < next → EachAfter OwnName [] earlier → Part (column_at next earlier) column_fields (Keeps next earlier)
  unfolding column_at behind_id
  column_part fits few own =
      let id = free_number (λ (c : Column). c.id) next earlier few in
      same_part (column_at next earlier) column_fields column_fields (λ c. Ids c.id × Names c.id c) (Keeps next earlier) to from (λ c f. refl)
      (both_part (checked_at w16 (is_free_id next earlier)) (number_fields w16) Ids name_step behind_id Names (λ c. c.id) (λ id c g. sym (ap (λ (x : Column). x.id) g.1.1.1.1.1.1))
      (number_part w16 (2 ^ 16) wide16 (is_free_id next earlier) (omega arith) id.0 (and_true (ltb id.0 next) _ (lt-ltb id.0 next id.1) (ap not id.2)) (omega (arith, id.1, fits))) (λ id f. named_part id (omega (arith, few, fits))))
    where
      to : (c : Column) → Ids c.id × Names c.id c → Keeps next earlier c
      to c f = (
        record {
          id = f.0.0;
          name = f.1.0.0.1.0;
          name_len = f.1.0.0.0.1;
          flags = flags_stand earlier c f.1.1.1.1.0.0;
          default = f.1.1.1.1.1.1.0.1;
        },
        subst IsBytes (append-nil c.name) (bytes_back (to_le_bytes w8 (length c.name)) (c.name ++ []) f.1.0.1),
      )

      from : (c : Column) → Keeps next earlier c → Ids c.id × Names c.id c
      from c f =
          let is = f.0 in
          let bits = flag_bits c.key c.nullable (is_some c.default) in
          let kinds = kind_again c.kind in
          let whole : made c.id c.name (kind_number c.kind) (flags_of c) c.default ≡ c = rw (kinds.0, bits.0, bits.1) refl in
          let low : c.id < next = ltb-true c.id next (both (ltb c.id next) (not (has_id earlier c.id)) is.id).0 in
          let named = in_name c.name f.1 in
          let free : has_free_name earlier (length c.name) ≡ true = name_passes earlier c own (is.name, f.1) in (
            (is.id, omega (arith, low, fits)),
            (
              (((free, is.name_len), (is.name, refl)), named),
              ((kind_passes earlier c is.flags, kinds.2), (kind_passes earlier c is.flags, ((flags_pass earlier c is.flags, omega (arith, bits.3)), (lt-ltb (flags_of c) 8 bits.3, ((sym bits.2, is.default), whole))))),
            ),
          )
        where
          in_name : (name : List ℕ) → IsBytes name → IsBytes (concat (name_fields name))
          in_name name h = Rattle.kt_bytes.proofs.Formats.bytes_join (to_le_bytes w8 (length name)) (name ++ []) (Rattle.kt_bytes.proofs.Leaves.number_bytes w8 (length name)) (subst IsBytes (sym (append-nil name)) h)

-- ---- columns

-- so many columns behind these, and so many more of n
pub record Left (next n k : ℕ) (front : List Column) : Type 0 where
  pub count : length front + k ≡ n
  pub few : n ≤ next
  pub fits : next < 2 ^ 16
  pub own : EachAfter OwnName [] front

own_of : (next : ℕ) (front : List Column) (c : Column) → Keeps next front c → OwnName front c
own_of next front c f = (f.0.name, f.1)

pub each_push : {X : Type 0} (Holds : List X → X → Type 0) (pre front : List X) (x : X) → EachAfter Holds pre front → Holds (pre ++ front) x → EachAfter Holds pre (front ++ x ∷ [])
each_push Holds pre [] x each last = (subst (λ (l : List _). Holds l x) (append-nil pre) last, tt)
each_push Holds pre (y ∷ front) x each last = (each.0, each_push Holds (pre ++ y ∷ []) front x each.1 (subst (λ (l : List _). Holds l x) (sym (append_assoc pre (y ∷ []) front)) last))

left_next : (next n k : ℕ) (front : List Column) (c : Column) → Left next n (suc k) front → Keeps next front c → Left next n k (front ++ c ∷ [])
left_next next n k front c left f = record {
  count = omega (arith, left.count, length_push front c);
  few = left.few;
  fits = left.fits;
  own = each_push OwnName [] front c left.own (own_of next front c f);
}

abbrev pub AreKept : ℕ → ℕ → List Column → Type 0
AreKept next n columns = AreItems (column_at next) column_fields (Keeps next) (Left next n) n [] columns

pub columns_part : (next n : ℕ) → next < 2 ^ 16 → n ≤ next → Part (many_at (column_at next) n []) (flat_map column_fields) (AreKept next n)
columns_part next n fits few =
    many_part (column_at next) column_fields (Keeps next) (Left next n) (λ k front left. column_part next front left.fits (omega (arith, left.count, left.few)) left.own) (left_next next n) n (record { count = omega arith; few = few; fits = fits; own = tt })
