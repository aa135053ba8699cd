-- The first fields of a block, and what is behind them.
use Rattle.std.proofs.Common.{◌≡◌, ◌<◌, ◌+◌, inl, inr, ℕ, List, ◌∷◌, ◌++◌, length, take, drop, get_or, refl, sym, ap, ◌∙◌, subst, arith, append_assoc, length-append, ◌^◌}
use Rattle.std.specs.Int.{w32, to_le_bytes, from_le_bytes}
use Rattle.std.proofs.Common.{◌≤◌, ◌-◌, []}
use Rattle.std.proofs.lemmas.Nat.{from_le_bytes-to_le_bytes_4, le_bytes_4}
use Rattle.std.proofs.lemmas.List.{take_rest, take-append-drop, length-take}
use Rattle.kt_bytes.proofs.Numbers.{IsBytes, IsBytes-take, IsBytes-drop}
use Rattle.std.proofs.Math.Seq.{take-append_seam}
use Rattle.kt_base.specs.declared.cell.Cell.{Cell}
use Rattle.kt_column.specs.declared.errors.Stop.{Stop}
use Rattle.kt_column.specs.declared.errors.Stop.TheVariants.{Memory, Fault}
use Rattle.kt_column.specs.declared.form.Form.{Form}
use Rattle.kt_column.specs.declared.form.Encoding.{Encoding}
use Rattle.kt_column.specs.Forms.{MayUse, code}
use Rattle.kt_column.specs.Nulls.{null_bytes}
use Rattle.kt_column.specs.Blocks.{nulls_in, values_in, SpellsBlock, block_bytes}
use Rattle.kt_column.specs.Faults.{IsHead, IsHeadStop, IsBody}
use Rattle.kt_column.proofs.Chosen.{same_code, one_shortest, shortest_again, same_bytes}

same_len : (len m : ℕ) (r s : List ℕ) → len < 2 ^ 32 → m < 2 ^ 32 → to_le_bytes w32 len ++ r ≡ to_le_bytes w32 m ++ s → len ≡ m
same_len len m r s p q e =
    let front : to_le_bytes w32 len ≡ to_le_bytes w32 m = ap (take 4) e in
    sym (from_le_bytes-to_le_bytes_4 len p) ∙ ap (from_le_bytes w32) front ∙ from_le_bytes-to_le_bytes_4 m q

pub same_code_of : (form : Form) (bytes : List ℕ) (e f : Encoding) (len m : ℕ) (r s : List ℕ) → IsHead form bytes e len r → IsHead form bytes f m s → e ≡ f
same_code_of form bytes e f len m r s p q = same_code e f (ap (λ b. get_or b 0 0) (sym p.parts ∙ q.parts))

pub same_rests : (form : Form) (bytes : List ℕ) (e f : Encoding) (len m : ℕ) (r s : List ℕ) → IsHead form bytes e len r → IsHead form bytes f m s → (len ≡ m) × (r ≡ s)
same_rests form bytes e f len m r s p q =
    let rests : to_le_bytes w32 len ++ r ≡ to_le_bytes w32 m ++ s = ap (drop 1) (sym p.parts ∙ q.parts) in
    (same_len len m r s p.room q.room rests, ap (drop 4) rests)

pub no_head_stop : (form : Form) (bytes : List ℕ) (e : Encoding) (len : ℕ) (r : List ℕ) (stop : Stop) → IsHead form bytes e len r → IsHeadStop form bytes stop → ⊥
no_head_stop form bytes e len r Memory h f = f
no_head_stop form bytes e len r (Fault at) h (inl f) = (let long = ap length h.parts in absurd (omega (arith, long, f.0)))
no_head_stop form bytes e len r (Fault at) h (inr (inl f)) = f.2 e h.open_ (ap (λ b. get_or b 0 0) h.parts)
no_head_stop form bytes e len r (Fault at) h (inr (inr f)) =
    let four : length (to_le_bytes w32 len) ≡ 4 = refl in
    let long = ap length h.parts in
    absurd (omega (arith, long, f.0, length-append (to_le_bytes w32 len) r, four))

abbrev content_bytes : (form : Form) (cs : List Cell) (front : List ℕ) → SpellsBlock form cs front → List ℕ
content_bytes form cs front b = null_bytes (nulls_in form cs) ++ b.block.values

pub block_head : (form : Form) (cs : List Cell) (front rest bytes : List ℕ) (b : SpellsBlock form cs front) → bytes ≡ front ++ rest → IsHead form bytes b.block.encoding (length (null_bytes (nulls_in form cs) ++ b.block.values)) ((null_bytes (nulls_in form cs) ++ b.block.values) ++ rest)
block_head form cs front rest bytes b e =
    let content : List ℕ = null_bytes (nulls_in form cs) ++ b.block.values in
    record {
      open_ = b.block.shortest.stands.0;
      room = b.block.room;
      parts = e ∙ ap (λ f. f ++ rest) b.block.spelled ∙ ap (λ t. code b.block.encoding ∷ t) (append_assoc (to_le_bytes w32 (length (null_bytes (nulls_in form cs) ++ b.block.values))) (null_bytes (nulls_in form cs) ++ b.block.values) rest);
    }

pub block_body : (form : Form) (cs : List Cell) (front rest : List ℕ) (n : ℕ) (b : SpellsBlock form cs front) → length cs ≡ n → IsBody form b.block.encoding n (length (null_bytes (nulls_in form cs) ++ b.block.values)) ((null_bytes (nulls_in form cs) ++ b.block.values) ++ rest) cs
block_body form cs front rest n b len =
    record {
      within = omega (arith, length-append (null_bytes (nulls_in form cs) ++ b.block.values) rest);
      content = record {
        cells = b.cells;
        counted = len;
        values = b.block.values;
        encoded = b.block.shortest.stands.1;
        parts = take-append_seam (null_bytes (nulls_in form cs) ++ b.block.values) rest;
      };
      shortest = λ values stands. shortest_again form (values_in form cs) b.block.encoding b.block.encoding b.block.values values b.block.shortest refl stands;
    }

-- cells have one spelling
pub spelled_once : (form : Form) (cs : List Cell) (a b : List ℕ) → SpellsBlock form cs a → SpellsBlock form cs b → a ≡ b
spelled_once form cs a b p q =
    let e : p.block.encoding ≡ q.block.encoding = one_shortest form (values_in form cs) p.block.encoding q.block.encoding p.block.values q.block.values p.block.shortest q.block.shortest in
    let v : p.block.values ≡ q.block.values = same_bytes form (values_in form cs) p.block.encoding q.block.encoding p.block.values q.block.values (sym e) p.block.shortest.stands q.block.shortest.stands in
    p.block.spelled ∙ ap (λ f. block_bytes f (null_bytes (nulls_in form cs) ++ p.block.values)) e ∙ ap (λ w. block_bytes q.block.encoding (null_bytes (nulls_in form cs) ++ w)) v ∙ sym q.block.spelled

-- the length of a block's bytes
pub block_len : (form : Form) (cs : List Cell) (front : List ℕ) (b : SpellsBlock form cs front) → length front ≡ 5 + length (null_bytes (nulls_in form cs) ++ b.block.values)
block_len form cs front b =
    let four : length (to_le_bytes w32 (length (null_bytes (nulls_in form cs) ++ b.block.values))) ≡ 4 = refl in
    ap length b.block.spelled ∙ omega (arith, length-append (to_le_bytes w32 (length (null_bytes (nulls_in form cs) ++ b.block.values))) (null_bytes (nulls_in form cs) ++ b.block.values), four)

-- what is behind the first fields that were read
pub body_of : (form : Form) (cs : List Cell) (front rest bytes : List ℕ) (n : ℕ) (e : Encoding) (len : ℕ) (r : List ℕ) → SpellsBlock form cs front → length cs ≡ n → bytes ≡ front ++ rest → IsHead form bytes e len r → IsBody form e n len r cs × (5 + len ≡ length front)
body_of form cs front rest bytes n e len r b count is h =
    let own = block_head form cs front rest bytes b is in
    let codes : b.block.encoding ≡ e = same_code_of form bytes b.block.encoding e _ len _ r own h in
    let rests = same_rests form bytes b.block.encoding e _ len _ r own h in
    let body = block_body form cs front rest n b count in (
      subst (λ x. IsBody form x n len r cs) codes (subst (λ k. IsBody form b.block.encoding n k r cs) rests.0 (subst (λ x. IsBody form b.block.encoding n (length (null_bytes (nulls_in form cs) ++ b.block.values)) x cs) rests.1 body)),
      (let whole = block_len form cs front b in omega (arith, whole, rests.0)),
    )

-- the encoding and the length that were read
pub head_read : (form : Form) (bytes after front rest : List ℕ) (e : Encoding) (len : ℕ) → 1 ≤ length bytes → after ≡ take (length bytes - 1) (drop 1 bytes) → MayUse form e × (get_or bytes 0 0 ≡ code e) → front ≡ take 4 after → rest ≡ drop 4 after → 4 ≤ length after → ((i : ℕ) → get_or bytes i 0 < 256) → len ≡ from_le_bytes w32 front → len < 2 ^ 32 → IsHead form bytes e len rest
head_read form bytes after front rest e len some is open_ at_front at_rest long fits len_is room =
    let behind : after ≡ drop 1 bytes = is ∙ take_rest bytes 1 in
    let four : length front ≡ 4 = omega (arith, ap length at_front, length-take 4 after) in
    let small : (i : ℕ) → get_or front i 0 < 256 = subst (λ (xs : List ℕ). (i : ℕ) → get_or xs i 0 < 256) (sym at_front) (IsBytes-take 4 after (subst IsBytes (sym behind) (IsBytes-drop 1 bytes fits))) in
    let number : to_le_bytes w32 len ≡ front = le_bytes_4 front len four small len_is in
    let split : after ≡ to_le_bytes w32 len ++ rest = sym (take-append-drop 4 after) ∙ (ap (λ (t : List ℕ). t ++ drop 4 after) (sym at_front ∙ sym number) ∙ ap (λ (t : List ℕ). to_le_bytes w32 len ++ t) (sym at_rest)) in
    record { open_ = open_.0; room = room; parts = first bytes some ∙ (ap (λ (b : ℕ). b ∷ drop 1 bytes) open_.1 ∙ ap (λ (t : List ℕ). code e ∷ t) (sym behind ∙ split)) }
  where
    first : (bytes : List ℕ) → 1 ≤ length bytes → bytes ≡ get_or bytes 0 0 ∷ drop 1 bytes
    first [] some = absurd (omega arith)
    first (b ∷ bytes) some = refl
