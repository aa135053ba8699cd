use Rattle.std.proofs.Common.{ap, sym, ◌∙◌, ◌++◌, List, ℕ}
use Rattle.std.specs.List.{flat_map}
use Rattle.kt_key.proofs.Escapes.{on_ok}
use Rattle.kt_key.specs.Reading.{Spells}
use Rattle.kt_schema.specs.Columns.{key_kinds}
use Rattle.kt_script.specs.Texts.{spaced, literals}
use Rattle.kt_key.proofs.KeyReads.{keys_again}
use Rattle.kt_script.proofs.print.print_key.Goals as goal

pub returns : goal.returns
returns c =
    let kinds = key_kinds c.args.schema.now in
    let out : List ℕ = c.args.out.now in
    let row = c.as_slice.result.now in
    let read : Spells kinds row c.args.key.now = rw (c.as_slice.ensures, ← c.key_kinds.ensures) (rw c.in-Some.is at c.in_ok-cells.ensures) in
    record {
      ok = on_ok c.print_literals.result c.print_literals.ensures.ok (λ printed. printed ∙ (ap (λ ks. out ++ flat_map spaced (literals ks row)) c.key_kinds-2.ensures ∙ ap (λ cells. out ++ flat_map spaced (literals kinds cells)) (sym (keys_again kinds row c.args.key.now read))));
    }
