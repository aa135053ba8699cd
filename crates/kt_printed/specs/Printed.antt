-- What is printed of a run, before the checker.
use Rattle.std.specs.Prelude.{◌≡◌, ℕ, ◌≤◌, Bool, List, length, drop, Some, Ok}
use Rattle.kt_history.specs.declared.event.Event.{Event}
use Rattle.kt_history.specs.History.{Past}
use Rattle.kt_history.specs.Machine.{Workload}
use Rattle.kt_script.specs.declared.reread.Output.{Output}
use Rattle.kt_script.specs.Scripts.{Said, script_of, workload}
use Rattle.kt_script.specs.Outputs.{IsTextOf}
use Rattle.kt_judge.specs.declared.verdict.Verdict.TheVariants.{Yes}
use Rattle.kt_judge.specs.Verdicts.{IsVerdict}
use Rattle.kt_opening.specs.OpeningTexts.{Found, opening_in}
use Rattle.kt_run_check.specs.declared.answer.Answer.TheVariants.{Judged}
use Rattle.kt_run_check.specs.Sources.{script_part, rest_part}
use Rattle.kt_run_check.specs.Checks.{most_read, IsAnswer}
use Rattle.kt_app.specs.Headline.{IsOutput}

-- the verdict on the output whose text a run prints is yes
abbrev pub printed_are_judged : Type 0
printed_are_judged = (work : Workload) (past : Past) (c : ℕ) (stopped : Bool) (rowsets : ℕ) (text readings : List ℕ) (events : List Event) (output : Output) → IsOutput work past c stopped rowsets text readings events → IsTextOf text output
    → IsVerdict work past c output Yes

-- The answer is yes to a source that is not too long, and has a script, behind it an opening, and behind that what a run of the
-- script from the opening prints, in a pool of as many cells.
abbrev pub sources_are_answered : Type 0
sources_are_answered = (source : List ℕ) (said : Said) (found : Found) (cells : ℕ) (stopped : Bool) (rowsets : ℕ) (readings : List ℕ) (events : List Event)
    → length source ≤ most_read → script_of (script_part source) ≡ Some said → opening_in said.columns (rest_part source) ≡ Ok found
    → IsOutput (workload cells said) found.past found.last stopped rowsets (drop found.at (rest_part source)) readings events → IsAnswer cells source (Judged Yes)
