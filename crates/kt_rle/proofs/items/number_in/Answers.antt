use Rattle.std.proofs.Common.{◌∙◌, ap, sym, get_or, rules, ℤ}
use Rattle.std.specs.Prelude.{Some, pos, FitsSigned}
use Rattle.std.specs.Int.{w64}
use Rattle.std.proofs.lemmas.Int.{to_z-of_z}
use Rattle.kt_rle.specs.declared.runs.Held.{Held}
use Rattle.kt_rle.proofs.Held.{ends_behind, found_at}
use Rattle.kt_rle.proofs.items.number_in.Goals as goal

pub bounds-runs-runs_before : goal.bounds-runs-runs_before
bounds-runs-runs_before c =
    ends_behind c.args.runs.now c.args.i c.runs_before.result c.requires.held.rise c.requires.within c.runs_before.ensures.bound c.runs_before.ensures.parts.0

pub returns : goal.returns
returns c =
    let d : Held = record { end = 0; value = pos 0 } in
    let hs = c.args.runs.now in
    let lt = ends_behind hs c.args.i c.runs_before.result c.requires.held.rise c.requires.within c.runs_before.ensures.bound c.runs_before.ensures.parts.0 in
    let z : ℤ = (get_or hs c.runs_before.result d).value in
    let wide : FitsSigned w64 z = search rules in
    found_at hs c.args.i c.runs_before.result d c.requires.held.rise c.requires.within lt c.runs_before.ensures.parts.0 c.runs_before.ensures.parts.1 ∙ ap Some (sym (to_z-of_z w64 z wide))
