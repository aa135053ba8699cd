-- The block of content that was read, whose encoding is the shortest or not.
use Rattle.std.proofs.Common.{◌≡◌, ◌≤◌, ◌∙◌, ℕ, List, Result, Ok, Err, IfOk, IfErr, length, take, inl, inr, refl, sym, ap, subst}
use Rattle.std.specs.Prelude.{◌⊎◌}
use Rattle.kt_base.specs.declared.cell.Cell.{Cell}
use Rattle.kt_column.specs.declared.errors.Stop.{Stop}
use Rattle.kt_column.specs.declared.errors.Stop.TheVariants.{Memory, Fault}
use Rattle.kt_column.specs.declared.form.Form.{Form}
use Rattle.kt_column.specs.declared.form.Encoding.{Encoding}
use Rattle.kt_column.specs.Forms.{MayUse}
use Rattle.kt_column.specs.Values.{IsShortest, MayStand}
use Rattle.kt_column.specs.Blocks.{BlockValue, values_in}
use Rattle.kt_column.specs.Reading.{IsOrMemory}
use Rattle.kt_column.specs.Faults.{IsBody, IsBodyStop, IsLonger, ReadsContent}
use Rattle.kt_column.proofs.Contents.{make}

abbrev Made : Type 0
Made = Result BlockValue Stop

-- the encoding is the shortest for these cells
abbrev pub IsBest : Form → Encoding → List Cell → Type 0
IsBest form encoding cs = (bytes : List ℕ) → MayStand form (values_in form cs) encoding bytes → IsShortest form (values_in form cs) encoding bytes

-- memory ran out, or another encoding is shorter
abbrev pub IsNotBest : Form → Encoding → List Cell → Stop → Type 0
IsNotBest form encoding cs e = (e ≡ Memory) ⊎ ((e ≡ Fault 0) × ((bytes : List ℕ) → ¬ IsShortest form (values_in form cs) encoding bytes))

pub body_form : (form : Form) (cs : List Cell) (r : Made) → IfOk r (λ b. b ≡ make form cs) → IfOk r (λ b. b.form ≡ form)
body_form form cs (Ok b) e = ap (λ (v : BlockValue). v.form) e
body_form form cs (Err s) e = tt

pub body_found : (form : Form) (encoding : Encoding) (n len : ℕ) (rest : List ℕ) (cs : List Cell) (r : Made) → len ≤ length rest → ReadsContent form encoding n (take len rest) cs → IfOk r (λ b. b ≡ make form cs) → IfOk r (λ _. IsBest form encoding cs) → IfOk r (λ b. IsBody form encoding n len rest b.cells)
body_found form encoding n len rest cs (Ok b) within content e best = subst (λ (v : BlockValue). IsBody form encoding n len rest v.cells) (sym e) (record { within = within; content = content; shortest = best })
body_found form encoding n len rest cs (Err s) within content e best = tt

pub body_only : (form : Form) (encoding : Encoding) (n len : ℕ) (rest : List ℕ) (cs ds : List Cell) (r : Made) → MayUse form encoding → cs ≡ ds → IsBody form encoding n len rest ds → IfOk r (λ b. b ≡ make form cs) → IfErr r (IsNotBest form encoding cs) → IsOrMemory r (make form ds)
body_only form encoding n len rest cs ds (Ok b) open_ same body e refused = e ∙ ap (make form) same
body_only form encoding n len rest cs ds (Err s) open_ same body e (inl memory) = memory
body_only form encoding n len rest cs ds (Err s) open_ same body e (inr longer) =
    let bytes : List ℕ = body.content.values in
    absurd (longer.1 bytes (subst (λ xs. IsShortest form (values_in form xs) encoding bytes) (sym same) (body.shortest bytes (open_, body.content.encoded))))

pub body_stop : (form : Form) (encoding : Encoding) (n len : ℕ) (rest : List ℕ) (cs : List Cell) (r : Made) → len ≤ length rest → ReadsContent form encoding n (take len rest) cs → IfErr r (IsNotBest form encoding cs) → IfErr r (IsBodyStop form encoding n len rest)
body_stop form encoding n len rest cs (Ok b) within content refused = tt
body_stop form encoding n len rest cs (Err s) within content (inl memory) = subst (IsBodyStop form encoding n len rest) (sym memory) tt
body_stop form encoding n len rest cs (Err s) within content (inr longer) =
    let it : IsLonger form encoding n (take len rest) = record { cs = cs; content = content; longer = longer.1 } in
    subst (IsBodyStop form encoding n len rest) (sym longer.0) (inr (inr (within, it, refl)))
