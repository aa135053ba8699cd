-- Encoded keys compare as the keys do, and no two keys have one spelling.
use Rattle.std.proofs.Common.{◌≡◌, ℕ, true, List, [], ◌∷◌, ◌++◌, refl, sym, ap, ◌∙◌}
use Rattle.std.specs.declared.cmp.Ordering.{Ordering}
use Rattle.std.specs.declared.cmp.Ordering.TheVariants.{Less, Equal, Greater}
use Rattle.std.specs.Ordering.{nat_cmp, ordering_then}
use Rattle.std.specs.Cmp.Lexicographic.{slice_cmp}
use Rattle.std.specs.FinMap.{int_cmp-IsAntisymmetric, nat_cmp-IsAntisymmetric, slice_cmp-IsAntisymmetric}
use Rattle.std.proofs.lemmas.Bool.{false≢true}
use Rattle.kt_base.specs.declared.cell.Kind.{Kind}
use Rattle.kt_base.specs.declared.cell.Cell.{Cell}
use Rattle.kt_base.specs.declared.cell.Cell.TheVariants as cell
use Rattle.kt_key.specs.Fit.{is_key}
use Rattle.kt_key.specs.Spelling.{spelling, inner_spelling}
use Rattle.kt_key.specs.Order.{cell_cmp, cells_cmp, order_is_kept, spellings_differ}
use Rattle.kt_key.proofs.Steps.{is_key_more, is_key_strong}
use Rattle.kt_key.proofs.Numbers.{nat_cmp-self, then-equal}
use Rattle.kt_key.proofs.Orders.{KeyCell, a_number, a_text, key_cell, inner-cmp, last-cmp}

pub first_cell : (k : Kind) (kinds : List Kind) (c : Cell) (cells : List Cell) → is_key (k ∷ kinds) (c ∷ cells) ≡ true → KeyCell k c
first_cell k kinds c cells h = key_cell k c (is_key_strong k kinds c cells h) (is_key_more k kinds c cells h).0

pub order-kept : order_is_kept
order-kept [] [] [] ka kb = refl
order-kept [] [] (d ∷ b) ka kb = absurd (false≢true kb)
order-kept [] (c ∷ a) b ka kb = absurd (false≢true ka)
order-kept (k ∷ kinds) [] b ka kb = absurd (false≢true ka)
order-kept (k ∷ kinds) (c ∷ a) [] ka kb = absurd (false≢true kb)
order-kept (k ∷ []) (c ∷ []) (d ∷ []) ka kb = last-cmp k c d (first_cell k [] c [] ka) (first_cell k [] d [] kb) ∙ sym (then-equal (cell_cmp c d))
order-kept (k ∷ []) (c ∷ []) (d ∷ e ∷ b) ka kb = absurd (false≢true (is_key_more k [] d (e ∷ b) kb).1)
order-kept (k ∷ []) (c ∷ e ∷ a) (d ∷ b) ka kb = absurd (false≢true (is_key_more k [] c (e ∷ a) ka).1)
order-kept (k ∷ next ∷ kinds) (c ∷ a) (d ∷ b) ka kb =
    inner-cmp k c d (spelling (next ∷ kinds) a) (spelling (next ∷ kinds) b) (first_cell k (next ∷ kinds) c a ka) (first_cell k (next ∷ kinds) d b kb)
    ∙ ap (λ o. ordering_then (cell_cmp c d) o) (order-kept (next ∷ kinds) a b (is_key_more k (next ∷ kinds) c a ka).1 (is_key_more k (next ∷ kinds) d b kb).1)

pub cell_cmp-same : (k : Kind) (c d : Cell) → KeyCell k c → KeyCell k d → cell_cmp c d ≡ Equal → c ≡ d
cell_cmp-same k c d (a_number m i p) (a_number n f q) e = ap cell.Int (int_cmp-IsAntisymmetric m n e)
cell_cmp-same k c d (a_number m f p) (a_text bytes g) e = absurd (false≢true (sym f ∙ g))
cell_cmp-same k c d (a_text bytes g) (a_number n f q) e = absurd (false≢true (sym f ∙ g))
cell_cmp-same k c d (a_text xs g) (a_text ys h) e = ap cell.Bytes (slice_cmp-IsAntisymmetric nat_cmp-IsAntisymmetric xs ys e)

pub then_equal : (o p : Ordering) → ordering_then o p ≡ Equal → (o ≡ Equal) × (p ≡ Equal)
then_equal Less p e = absurd cc
then_equal Equal p e = (refl, e)
then_equal Greater p e = absurd cc

cells_cmp-same : (kinds : List Kind) (a b : List Cell) → is_key kinds a ≡ true → is_key kinds b ≡ true → cells_cmp a b ≡ Equal → a ≡ b
cells_cmp-same [] [] [] ka kb e = refl
cells_cmp-same [] [] (d ∷ b) ka kb e = absurd (false≢true kb)
cells_cmp-same [] (c ∷ a) b ka kb e = absurd (false≢true ka)
cells_cmp-same (k ∷ kinds) [] b ka kb e = absurd (false≢true ka)
cells_cmp-same (k ∷ kinds) (c ∷ a) [] ka kb e = absurd (false≢true kb)
cells_cmp-same (k ∷ kinds) (c ∷ a) (d ∷ b) ka kb e =
    let parts = then_equal (cell_cmp c d) (slice_cmp cell_cmp a b) e in
    let here = cell_cmp-same k c d (first_cell k kinds c a ka) (first_cell k kinds d b kb) parts.0 in
    let more = cells_cmp-same kinds a b (is_key_more k kinds c a ka).1 (is_key_more k kinds d b kb).1 parts.1 in
    ap (λ x. x ∷ a) here ∙ ap (λ xs. d ∷ xs) more

pub bytes_cmp-self : (xs : List ℕ) → slice_cmp nat_cmp xs xs ≡ Equal
bytes_cmp-self [] = refl
bytes_cmp-self (x ∷ xs) = ap (λ o. ordering_then o (slice_cmp nat_cmp xs xs)) (nat_cmp-self x) ∙ bytes_cmp-self xs

pub spellings-differ : spellings_differ
spellings-differ kinds a b ka kb same =
    cells_cmp-same kinds a b ka kb (sym (order-kept kinds a b ka kb) ∙ ap (λ bytes. slice_cmp nat_cmp bytes (spelling kinds b)) same ∙ bytes_cmp-self (spelling kinds b))

-- two cells whose spellings begin the same bytes are one, and so are the bytes behind them
pub inner-one : (k : Kind) (c d : Cell) (r s : List ℕ) → KeyCell k c → KeyCell k d → inner_spelling k c ++ r ≡ inner_spelling k d ++ s → (c ≡ d) × (r ≡ s)
inner-one k c d r s p q same =
    let both = sym (inner-cmp k c d r s p q) ∙ ap (λ bytes. slice_cmp nat_cmp bytes (inner_spelling k d ++ s)) same ∙ bytes_cmp-self (inner_spelling k d ++ s) in
    let parts = then_equal (cell_cmp c d) (slice_cmp nat_cmp r s) both in
    (cell_cmp-same k c d p q parts.0, slice_cmp-IsAntisymmetric nat_cmp-IsAntisymmetric r s parts.1)
