-- The cells of an operation are those behind their count.
use Rattle.std.proofs.Common.{◌≡◌, ℕ, Bool, true, List, [], length, Ok, Err, sym, ap, ◌∙◌, if◌then◌else◌}
use Rattle.std.specs.Int.{w16}
use Rattle.kt_history.specs.declared.operation.OpKind.{OpKind}
use Rattle.kt_bytes.specs.Reading.{number_at, checked_at, many_at}
use Rattle.kt_bytes.proofs.Numbers.{then_is}
use Rattle.kt_cells.specs.Reading.{listed_cell_at, cells_at}
use Rattle.kt_cells.proofs.Walked.{counted}
use Rattle.kt_records.specs.Rules.{may_list}
use Rattle.kt_records.specs.Reading.{cell_list_at}

pub listed_is : (kind : OpKind) (bytes : List ℕ) (n : ℕ) (rest : List ℕ) → number_at w16 bytes ≡ Ok (n, rest) → may_list kind n ≡ true → cell_list_at kind bytes ≡ cells_at bytes
unfolding cell_list_at
listed_is kind bytes n rest read may =
    let passed : checked_at w16 (may_list kind) bytes ≡ Ok (n, rest) =
    then_is (number_at w16 bytes) (λ m. if may_list kind m.0 then Ok m else Err (length bytes)) (n, rest) read ∙ ap (λ (b : Bool). if b then Ok (n, rest) else Err (length bytes)) may in
    then_is (checked_at w16 (may_list kind) bytes) (λ m. many_at (listed_cell_at m.0) m.0 [] m.1) (n, rest) passed ∙ sym (counted bytes n rest read)
