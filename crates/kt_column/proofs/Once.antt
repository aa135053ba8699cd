-- No bytes are the spelling of two lists of as many cells.
use Rattle.std.proofs.Common.{◌≡◌, ℕ, zero, suc, Bool, true, false, List, [], ◌++◌, length, take, drop, refl, sym, ap, ◌∙◌, subst, arith, append_assoc, length-take, lit≤}
use Rattle.std.proofs.lemmas.List.{nil_from_length, length-drop, take-append-drop, append_cancel_left}
use Rattle.std.proofs.Math.Seq.{take-append_seam}
use Rattle.kt_base.specs.declared.cell.Cell.{Cell}
use Rattle.kt_plain.specs.declared.widths.Width.{Width}
use Rattle.kt_plain.specs.declared.items.Items.{Items}
use Rattle.kt_plain.specs.declared.items.Items.TheVariants.{Numbers, Texts}
use Rattle.kt_plain.specs.Items.{count}
use Rattle.kt_plain.specs.Spelling as plain
use Rattle.kt_plain.proofs.Decoded.{spells_one}
use Rattle.kt_rle.specs.Spelling as run_length
use Rattle.kt_rle.proofs.Decoded as runs
use Rattle.kt_dict.proofs.Faults as dictionary
use Rattle.kt_front.proofs.Blocks as prefix
use Rattle.kt_column.specs.declared.form.Form.{Form}
use Rattle.kt_column.specs.declared.form.Encoding.{Encoding}
use Rattle.kt_column.specs.declared.form.Encoding.TheVariants.{Plain, RunLength, Dictionary, Prefix}
use Rattle.kt_column.specs.Forms.{width, is_nullable}
use Rattle.kt_column.specs.Values.{IsEncoded, run_width}
use Rattle.kt_column.specs.Reading.{Reads}
use Rattle.kt_column.specs.Nulls.{byte_len, null_bytes}
use Rattle.kt_column.specs.Blocks.{nulls_in, values_in, SpellsBlock}
use Rattle.kt_column.specs.Faults.{AreNullsFor, ReadsContent, value_count}
use Rattle.kt_column.specs.Columns.{block_count, SpellsBlocks, SpellsColumn}
use Rattle.kt_column.proofs.NullBits.{same_nulls}
use Rattle.kt_column.proofs.Contents.{nulls_front, values_front, same_cells}
use Rattle.kt_column.proofs.Heads.{block_head, body_of, spelled_once}

-- as many values of one width have no bytes in common
values_once : (w : Width) (e : Encoding) (n : ℕ) (bytes : List ℕ) (xs ys : Items) → plain.Fits w xs → plain.Fits w ys → count xs ≡ n → count ys ≡ n → IsEncoded w e xs bytes → IsEncoded w e ys bytes → xs ≡ ys
values_once w Plain n bytes xs ys f g p q a b = spells_one w n bytes xs ys record { fits = f; counted = p; spelled = a } record { fits = g; counted = q; spelled = b }
values_once w RunLength n bytes (Numbers xs) (Numbers ys) f g p q a b =
    ap Numbers (runs.spells_one (run_width w) n bytes xs ys (subst (λ k. run_length.Spells (run_width w) k xs bytes) p a) (subst (λ k. run_length.Spells (run_width w) k ys bytes) q b))
values_once w RunLength n bytes (Texts xs) ys f g p q a b = elim a [ ]
values_once w RunLength n bytes (Numbers xs) (Texts ys) f g p q a b = elim b [ ]
values_once w Dictionary n bytes (Texts xs) (Texts ys) f g p q a b = ap Texts (dictionary.one_list 4294967295 bytes n xs ys (lit≤ tt) record { count = p; fits = a.0; parts = a.1 } record { count = q; fits = b.0; parts = b.1 })
values_once w Dictionary n bytes (Numbers xs) ys f g p q a b = elim a [ ]
values_once w Dictionary n bytes (Texts xs) (Numbers ys) f g p q a b = elim b [ ]
values_once w Prefix n bytes (Texts xs) (Texts ys) f g p q a b = ap Texts (prefix.one_list bytes n xs ys record { count = p; fits = a.0; parts = a.1 } record { count = q; fits = b.0; parts = b.1 })
values_once w Prefix n bytes (Numbers xs) ys f g p q a b = elim a [ ]
values_once w Prefix n bytes (Texts xs) (Numbers ys) f g p q a b = elim b [ ]

reads_once : (form : Form) (e : Encoding) (n : ℕ) (bytes : List ℕ) (xs ys : Items) → Reads form e n bytes xs → Reads form e n bytes ys → xs ≡ ys
reads_once form e n bytes xs ys r s = values_once (width form) e n bytes xs ys r.values.fits s.values.fits r.counted s.counted r.encoded s.encoded

pub nulls_once : (nullable : Bool) (n : ℕ) (part : List ℕ) (p q : List Bool) (v w : List ℕ) → AreNullsFor nullable n p → AreNullsFor nullable n q → part ≡ null_bytes p ++ v → part ≡ null_bytes q ++ w → p ≡ q
nulls_once true n part p q v w h k e f = sym (same_nulls n p v part h e) ∙ same_nulls n q w part k f
nulls_once false n part p q v w h k e f = h ∙ sym k

pub content_once : (form : Form) (e : Encoding) (n : ℕ) (part : List ℕ) (cs ds : List Cell) → ReadsContent form e n part cs → ReadsContent form e n part ds → cs ≡ ds
content_once form e n part cs ds r s =
    let nulls : nulls_in form cs ≡ nulls_in form ds = nulls_once (is_nullable form) n part (nulls_in form cs) (nulls_in form ds) r.values s.values (nulls_front form e n part cs r) (nulls_front form e n part ds s) r.parts s.parts in
    let mine = values_front form e n part cs (nulls_in form cs) r refl in
    let others = values_front form e n part ds (nulls_in form cs) s nulls in
    let items : values_in form cs ≡ values_in form ds = reads_once form e (value_count (is_nullable form) n (nulls_in form cs)) (drop (byte_len (length (nulls_in form cs))) part) (values_in form cs) (values_in form ds) mine others in
    sym (same_cells form e n part cs (nulls_in form cs) (values_in form cs) r refl refl) ∙ same_cells form e n part ds (nulls_in form cs) (values_in form cs) s nulls items

same_front : (a b r s : List ℕ) → length a ≡ length b → a ++ r ≡ b ++ s → (a ≡ b) × (r ≡ s)
same_front a b r s len e =
    let front : a ≡ b = sym (take-append_seam a r) ∙ ap (take (length a)) e ∙ ap (λ k. take k (b ++ s)) len ∙ take-append_seam b s in
    let behind : b ++ r ≡ b ++ s = ap (λ l. l ++ r) (sym front) ∙ e in
    (front, append_cancel_left b r s behind)

-- bytes that begin with a block's spelling begin with no other one of as many cells
pub block_once : (form : Form) (cs ds : List Cell) (a b r s : List ℕ) → SpellsBlock form cs a → SpellsBlock form ds b → length cs ≡ length ds → a ++ r ≡ b ++ s → (cs ≡ ds) × (a ≡ b) × (r ≡ s)
block_once form cs ds a b r s p q len is =
    let h = block_head form cs a r (a ++ r) p refl in
    let mine = body_of form cs a r (a ++ r) (length cs) _ _ _ p refl refl h in
    let others = body_of form ds b s (a ++ r) (length cs) _ _ _ q (sym len) is h in
    let lengths : length a ≡ length b = omega (arith, mine.1, others.1) in
    let ends = same_front a b r s lengths is in
    (content_once form _ (length cs) _ cs ds mine.0.content others.0.content, ends.0, ends.1)

-- the same of a column

blocks_once : (form : Form) (k : ℕ) (cs ds : List Cell) (a b r s : List ℕ) → k ≡ block_count (length cs) → length cs ≡ length ds → SpellsBlocks form k cs a → SpellsBlocks form k ds b → a ++ r ≡ b ++ s → (cs ≡ ds) × (a ≡ b) × (r ≡ s)
blocks_once form zero cs ds a b r s is len p q e =
    let left : cs ≡ [] = nil_from_length cs (omega (arith, is)) in
    let right : ds ≡ [] = nil_from_length ds (omega (arith, is, len)) in
    (left ∙ sym right, p ∙ sym q, ap (λ l. l ++ r) (sym p) ∙ e ∙ ap (λ l. l ++ s) q)
blocks_once form (suc k) cs ds a b r s is len p q e =
    let apart : p.0 ++ (p.1 ++ r) ≡ q.0 ++ (q.1 ++ s) = sym (append_assoc p.0 p.1 r) ∙ ap (λ l. l ++ r) (sym p.2) ∙ e ∙ ap (λ l. l ++ s) q.2 ∙ append_assoc q.0 q.1 s in
    let fronts : length (take 8192 cs) ≡ length (take 8192 ds) = omega (arith, len, length-take 8192 cs, length-take 8192 ds) in
    let here = block_once form (take 8192 cs) (take 8192 ds) p.0 q.0 (p.1 ++ r) (q.1 ++ s) p.3 q.3 fronts apart in
    let rest = blocks_once form k (drop 8192 cs) (drop 8192 ds) p.1 q.1 r s (omega (arith, is, length-drop 8192 cs)) (omega (arith, len, length-drop 8192 cs, length-drop 8192 ds)) p.4 q.4 here.2 in (
      sym (take-append-drop 8192 cs) ∙ ap (λ l. l ++ drop 8192 cs) here.0 ∙ ap (λ l. take 8192 ds ++ l) rest.0 ∙ take-append-drop 8192 ds,
      p.2 ∙ ap (λ l. l ++ p.1) here.1 ∙ ap (λ l. q.0 ++ l) rest.1 ∙ sym q.2,
      rest.2,
    )

pub column_once : (form : Form) (cs ds : List Cell) (a b r s : List ℕ) → SpellsColumn form cs a → SpellsColumn form ds b → length cs ≡ length ds → a ++ r ≡ b ++ s → (cs ≡ ds) × (a ≡ b) × (r ≡ s)
column_once form cs ds a b r s p q len e = blocks_once form (block_count (length cs)) cs ds a b r s refl len p (subst (λ n. SpellsBlocks form (block_count n) ds b) (sym len) q) e

-- a column has one spelling

blocks_spelled_once : (form : Form) (k : ℕ) (cs : List Cell) (a b : List ℕ) → SpellsBlocks form k cs a → SpellsBlocks form k cs b → a ≡ b
blocks_spelled_once form zero cs a b p q = p ∙ sym q
blocks_spelled_once form (suc k) cs a b p q =
    let here : p.0 ≡ q.0 = spelled_once form (take 8192 cs) p.0 q.0 p.3 q.3 in
    p.2 ∙ ap (λ l. l ++ p.1) here ∙ ap (λ l. q.0 ++ l) (blocks_spelled_once form k (drop 8192 cs) p.1 q.1 p.4 q.4) ∙ sym q.2

pub column_spelled_once : (form : Form) (cs : List Cell) (a b : List ℕ) → SpellsColumn form cs a → SpellsColumn form cs b → a ≡ b
column_spelled_once form cs a b p q = blocks_spelled_once form (block_count (length cs)) cs a b p q
