-- A source with what a run prints behind its script and its opening.
use Rattle.std.specs.Prelude.{drop}
use Rattle.kt_run_check.specs.Sources.{script_part, rest_part}
use Rattle.kt_script.proofs.Spelling.{scripts_are_fit}
use Rattle.kt_printed.specs.Printed.{sources_are_answered}
use Rattle.kt_script.specs.Scripts.{workload}
use Rattle.kt_printed.proofs.Standing.{judged}
use Rattle.kt_printed.proofs.Scripts.{script_outputs}
use Rattle.kt_printed.proofs.Openings.{opening_spelled}

pub sources_answered : sources_are_answered
sources_answered source said found cells stopped rowsets readings events small script opening run =
    let text = drop found.at (rest_part source) in
    let past = opening_spelled said.columns (rest_part source) found (scripts_are_fit (script_part source) said script).table opening in
    let some = script_outputs (script_part source) said cells found.past found.last stopped rowsets text readings events script past run in
    record {
      said = said;
      found = found;
      output = some.0;
      spells = record { small = small; script = script; rest = record { begins = opening; goes_on = some.1 } };
      is = judged (workload cells said) found.past found.last stopped rowsets text readings events some.0 run some.1;
    }
