-- The fields of fixed length: what is read was written, and what was written is read again.
use Rattle.std.proofs.Common.{◌≡◌, ℕ, zero, suc, ◌+◌, ◌^◌, ◌<◌, ◌≤◌, Bool, true, false, ◌&&◌, leb, ltb, List, [], ◌∷◌, ◌++◌, Option, Some, None, Result, Ok, refl, sym, ap, ◌∙◌, append_assoc, lit<, arith}
use Rattle.std.specs.Int.{w16, w32, to_le_bytes}
use Rattle.std.proofs.lemmas.Bool.{eqb-true, leb-true, le-leb, ltb-true, lt-ltb}
use Rattle.kt_base.specs.declared.cell.Kind.{Kind}
use Rattle.kt_base.specs.declared.cell.Kind.TheVariants as kinds
use Rattle.kt_bytes.specs.Reading.{◌>>=◌, checked_at}
use Rattle.kt_cells.specs.Reading.{flag_at}
use Rattle.kt_bytes.proofs.Numbers.{IsBytes, bind_ok, then_is, wide16, wide32, checked_takes, checked_again}
use Rattle.kt_bytes.proofs.Taken.{Took, took_as, joined}
use Rattle.kt_bytes.proofs.Formats.{Part}
use Rattle.kt_bytes.proofs.Leaves.{same_reader, byte_at_front, code_fields, code_part}
use Rattle.kt_baseset.specs.declared.schema.ColumnShape.{ColumnShape}
use Rattle.kt_baseset.specs.Spelling.{ktb1, kind_number, flag_number, shape_bytes}
use Rattle.kt_baseset.specs.Reading.{may_have, is_ktb1, rows_at, kind_at, is_id, shape_at}

-- ---- how many rows there are

pub both_true : (a b : Bool) → (a && b) ≡ true → (a ≡ true) × (b ≡ true)
both_true true b e = (refl, e)
both_true false b e = absurd cc

pub record IsFront (bytes : List ℕ) (n : ℕ) (rest : List ℕ) : Type 0 where
  pub some : 1 ≤ n
  pub few : n ≤ 3435973836
  pub rest_fits : IsBytes rest
  pub parts : bytes ≡ to_le_bytes w32 ktb1 ++ (to_le_bytes w32 n ++ rest)

pub rows_take : (bytes : List ℕ) (n : ℕ) (rest : List ℕ) → IsBytes bytes → rows_at bytes ≡ Ok (n, rest) → IsFront bytes n rest
unfolding rows_at
rows_take bytes n rest fits e =
    let a = bind_ok (checked_at w32 is_ktb1 bytes) (λ word. checked_at w32 may_have word.1) (n, rest) e in
    let t = checked_takes w32 (2 ^ 32) wide32 is_ktb1 bytes a.0 fits a.1 in
    let u = checked_takes w32 (2 ^ 32) wide32 may_have a.0.1 (n, rest) t.0.rest_fits a.2 in
    let word : a.0.0 ≡ ktb1 = eqb-true _ _ t.1 in
    let m = both_true (leb 1 n) (leb n 3435973836) u.1 in
    record {
      some = leb-true 1 n m.0;
      few = leb-true n 3435973836 m.1;
      rest_fits = u.0.rest_fits;
      parts = t.0.parts ∙ ap (λ (r : List ℕ). to_le_bytes w32 a.0.0 ++ r) u.0.parts ∙ ap (λ (m : ℕ). to_le_bytes w32 m ++ (to_le_bytes w32 n ++ rest)) word;
    }

pub so_many : (n : ℕ) → 1 ≤ n → n ≤ 3435973836 → may_have n ≡ true
so_many n some few =
    let one : leb 1 n ≡ true = le-leb 1 n some in
    let most : leb n 3435973836 ≡ true = le-leb n 3435973836 few in
    ap (λ (b : Bool). b && leb n 3435973836) one ∙ most

pub rows_again : (n : ℕ) (rest : List ℕ) → 0 < n → n ≤ 3435973836 → rows_at (to_le_bytes w32 ktb1 ++ (to_le_bytes w32 n ++ rest)) ≡ Ok (n, rest)
unfolding rows_at
rows_again n rest some few =
    let text : List ℕ = to_le_bytes w32 n ++ rest in
    then_is (checked_at w32 is_ktb1 (to_le_bytes w32 ktb1 ++ text)) (λ word. checked_at w32 may_have word.1) (ktb1, text) (checked_again w32 (2 ^ 32) wide32 is_ktb1 ktb1 text (lit< tt) refl)
    ∙ checked_again w32 (2 ^ 32) wide32 may_have n rest (omega (arith, few)) (so_many n (omega (arith, some)) few)

-- ---- what a column is

kind_meaning : ℕ → Option Kind
kind_meaning zero = None
kind_meaning (suc zero) = Some kinds.Bool
kind_meaning (suc (suc zero)) = Some kinds.Int8
kind_meaning (suc (suc (suc zero))) = Some kinds.Int16
kind_meaning (suc (suc (suc (suc zero)))) = Some kinds.Int32
kind_meaning (suc (suc (suc (suc (suc zero))))) = Some kinds.Int64
kind_meaning (suc (suc (suc (suc (suc (suc zero)))))) = Some kinds.String
kind_meaning (suc (suc (suc (suc (suc (suc (suc zero))))))) = Some kinds.Binary
kind_meaning (suc (suc (suc (suc (suc (suc (suc (suc b)))))))) = None

kind_is : (bytes : List ℕ) → kind_at bytes ≡ byte_at_front kind_meaning bytes
unfolding kind_at kind_meaning
kind_is [] = refl
kind_is (zero ∷ rest) = refl
kind_is (suc zero ∷ rest) = refl
kind_is (suc (suc zero) ∷ rest) = refl
kind_is (suc (suc (suc zero)) ∷ rest) = refl
kind_is (suc (suc (suc (suc zero))) ∷ rest) = refl
kind_is (suc (suc (suc (suc (suc zero)))) ∷ rest) = refl
kind_is (suc (suc (suc (suc (suc (suc zero))))) ∷ rest) = refl
kind_is (suc (suc (suc (suc (suc (suc (suc zero)))))) ∷ rest) = refl
kind_is (suc (suc (suc (suc (suc (suc (suc (suc b))))))) ∷ rest) = refl

abbrev pub Any : {A : Type 0} → A → Type 0
Any x = Unit {0}

kind_code : (b : ℕ) (u v : Kind) → kind_number u ≡ b → Some u ≡ Some v → (kind_number v ≡ b) × Unit {0}
kind_code b u v code e = let same : u ≡ v = cc in (ap kind_number (sym same) ∙ code, tt)

pub kind_part : Part kind_at (code_fields kind_number) Any
unfolding kind_meaning
kind_part = same_reader (byte_at_front kind_meaning) kind_at (code_fields kind_number) Any kind_is (code_part kind_meaning kind_number Any back there kinds.Bool tt (omega arith))
  where
    back : (b : ℕ) (v : Kind) → kind_meaning b ≡ Some v → (kind_number v ≡ b) × Unit {0}
    back zero v e = absurd cc
    back (suc zero) v e = kind_code 1 kinds.Bool v refl e
    back (suc (suc zero)) v e = kind_code 2 kinds.Int8 v refl e
    back (suc (suc (suc zero))) v e = kind_code 3 kinds.Int16 v refl e
    back (suc (suc (suc (suc zero)))) v e = kind_code 4 kinds.Int32 v refl e
    back (suc (suc (suc (suc (suc zero))))) v e = kind_code 5 kinds.Int64 v refl e
    back (suc (suc (suc (suc (suc (suc zero)))))) v e = kind_code 6 kinds.String v refl e
    back (suc (suc (suc (suc (suc (suc (suc zero))))))) v e = kind_code 7 kinds.Binary v refl e
    back (suc (suc (suc (suc (suc (suc (suc (suc b)))))))) v e = absurd cc

    there : (v : Kind) → Unit {0} → kind_meaning (kind_number v) ≡ Some v
    there kinds.Bool f = refl
    there kinds.Int8 f = refl
    there kinds.Int16 f = refl
    there kinds.Int32 f = refl
    there kinds.Int64 f = refl
    there kinds.String f = refl
    there kinds.Binary f = refl

flag_meaning : ℕ → Option Bool
flag_meaning zero = Some false
flag_meaning (suc zero) = Some true
flag_meaning (suc (suc b)) = None

flag_is : (bytes : List ℕ) → flag_at bytes ≡ byte_at_front flag_meaning bytes
unfolding flag_at flag_meaning
flag_is [] = refl
flag_is (zero ∷ rest) = refl
flag_is (suc zero ∷ rest) = refl
flag_is (suc (suc b) ∷ rest) = refl

flag_code : (b : ℕ) (u v : Bool) → flag_number u ≡ b → Some u ≡ Some v → (flag_number v ≡ b) × Unit {0}
flag_code b u v code e = let same : u ≡ v = cc in (ap flag_number (sym same) ∙ code, tt)

pub flag_part : Part flag_at (code_fields flag_number) Any
unfolding flag_meaning
flag_part = same_reader (byte_at_front flag_meaning) flag_at (code_fields flag_number) Any flag_is (code_part flag_meaning flag_number Any back there false tt (omega arith))
  where
    back : (b : ℕ) (v : Bool) → flag_meaning b ≡ Some v → (flag_number v ≡ b) × Unit {0}
    back zero v e = flag_code 0 false v refl e
    back (suc zero) v e = flag_code 1 true v refl e
    back (suc (suc b)) v e = absurd cc

    there : (v : Bool) → Unit {0} → flag_meaning (flag_number v) ≡ Some v
    there false f = refl
    there true f = refl

-- its id is not below the least one, and leaves ids for so many more
pub record IsAbove (least more : ℕ) (c : ColumnShape) : Type 0 where
  pub above : least ≤ c.id
  pub room : c.id + more < 2 ^ 16

pub id_test : (least more id : ℕ) → least ≤ id → id + more < 2 ^ 16 → is_id least more id ≡ true
id_test least more id above room =
    let a : leb least id ≡ true = le-leb least id above in
    let b : ltb (id + more) (2 ^ 16) ≡ true = lt-ltb (id + more) (2 ^ 16) room in
    ap (λ (t : Bool). t && ltb (id + more) (2 ^ 16)) a ∙ b

pub id_tested : (least more id : ℕ) → is_id least more id ≡ true → (least ≤ id) × (id + more < 2 ^ 16)
id_tested least more id e = let t = both_true (leb least id) (ltb (id + more) (2 ^ 16)) e in (leb-true least id t.0, ltb-true (id + more) (2 ^ 16) t.1)

pub shape_takes : (least more : ℕ) (bytes : List ℕ) (x : ColumnShape × List ℕ) → IsBytes bytes → shape_at least more bytes ≡ Ok x → Took shape_bytes (IsAbove least more) bytes x
unfolding shape_at
shape_takes least more bytes x fits e =
    let ends : ℕ → Kind → Bool × List ℕ → Result (ColumnShape × List ℕ) ℕ = λ id kind nullable. Ok (record { id = id; kind = kind; nullable = nullable.0 }, nullable.1) in
    let flagged : ℕ → Kind × List ℕ → Result (ColumnShape × List ℕ) ℕ = λ id kind. flag_at kind.1 >>= ends id kind.0 in
    let a = bind_ok (checked_at w16 (is_id least more) bytes) (λ id. kind_at id.1 >>= flagged id.0) x e in
    let b = bind_ok (kind_at a.0.1) (flagged a.0.0) x a.2 in
    let d = bind_ok (flag_at b.0.1) (ends a.0.0 b.0.0) x b.2 in
    let t = checked_takes w16 (2 ^ 16) wide16 (is_id least more) bytes a.0 fits a.1 in
    let u = kind_part.took a.0.1 b.0 t.0.rest_fits b.1 in
    let v = flag_part.took b.0.1 d.0 u.rest_fits d.1 in
    let own = id_tested least more a.0.0 t.1 in
    let kinded : a.0.1 ≡ kind_number b.0.0 ∷ b.0.1 = u.parts in
    let marked : b.0.1 ≡ flag_number d.0.0 ∷ d.0.1 = v.parts in
    let behind : a.0.1 ≡ kind_number b.0.0 ∷ (flag_number d.0.0 ∷ d.0.1) = kinded ∙ ap (λ (r : List ℕ). kind_number b.0.0 ∷ r) marked in
    took_as shape_bytes (IsAbove least more) bytes (record { id = a.0.0; kind = b.0.0; nullable = d.0.0 }, d.0.1) x d.2 (record {
      parts = joined bytes (to_le_bytes w16 a.0.0) a.0.1 (kind_number b.0.0 ∷ flag_number d.0.0 ∷ []) d.0.1 t.0.parts behind;
      rest_fits = v.rest_fits;
      fits = record { above = own.0; room = own.1 };
    })

pub shape_again : (least more : ℕ) (c : ColumnShape) (rest : List ℕ) → IsAbove least more c → shape_at least more (shape_bytes c ++ rest) ≡ Ok (c, rest)
unfolding shape_at
shape_again least more c rest is =
    let ends : ℕ → Kind → Bool × List ℕ → Result (ColumnShape × List ℕ) ℕ = λ id kind nullable. Ok (record { id = id; kind = kind; nullable = nullable.0 }, nullable.1) in
    let flagged : ℕ → Kind × List ℕ → Result (ColumnShape × List ℕ) ℕ = λ id kind. flag_at kind.1 >>= ends id kind.0 in
    let last : List ℕ = flag_number c.nullable ∷ rest in
    let text : List ℕ = kind_number c.kind ∷ last in
    let regrouped : shape_bytes c ++ rest ≡ to_le_bytes w16 c.id ++ text = append_assoc (to_le_bytes w16 c.id) (kind_number c.kind ∷ flag_number c.nullable ∷ []) rest in
    ap (shape_at least more) regrouped
    ∙ then_is (checked_at w16 (is_id least more) (to_le_bytes w16 c.id ++ text)) (λ id. kind_at id.1 >>= flagged id.0) (c.id, text) (checked_again w16 (2 ^ 16) wide16 (is_id least more) c.id text (omega (arith, is.room)) (id_test least more c.id is.above is.room))
    ∙ then_is (kind_at text) (flagged c.id) (c.kind, last) (kind_part.again c.kind last tt)
    ∙ then_is (flag_at last) (ends c.id c.kind) (c.nullable, rest) (flag_part.again c.nullable rest tt)
