-- The lines of an opening lead from one stage to the next, up to the first that may not stand.
use Rattle.std.proofs.Common.{◌≡◌, ℕ, ◌+◌, ◌≤◌, Bool, true, false, List, ◌∷◌, length, drop, Option, Some, None, Ok, Err, Bor, refl, sym, ap, ◌∙◌}
use Rattle.std.specs.Prelude.{if◌then◌else◌}
use Rattle.std.specs.Option.{option_map}
use Rattle.kt_schema.specs.declared.column.Column.{Column}
use Rattle.kt_script.proofs.Cuts.{some_piece}
use Rattle.kt_opening.specs.declared.parts.PartNo.{PartNo}
use Rattle.kt_opening.specs.declared.parts.PartNo.TheVariants as part_no
use Rattle.kt_opening.specs.Lines.{IsLineFrom}
use Rattle.kt_opening.specs.OpeningTexts.{Stage, Found, stop, ending, or_else, or_stop, after, opening_from}
use Rattle.kt_opening.specs.Reading.{opening_at, Leads, Stops, Ends}

-- nothing ends where a row or a change is due
pub unended : (b : Bool) → ◌≡◌ {A = Option Found} (if b then None else None) None
unended true = refl
unended false = refl

module _ (columns : List Column) (text : List ℕ) where
  short : (stage : Stage) (at : ℕ) → IsLineFrom text at None → opening_at columns text stage at ≡ Err (stop stage at)
  short stage at line = ap (opening_from columns stage at) line

  module _ (stage : Stage) (start : ℕ) (l : Bor (List ℕ)) (line : IsLineFrom text start (Some l)) where
    abbrev at : ℕ
    at = start + length l.now + 1

    -- what the line makes of the text
    one_line : (o : Option Found) (n : Option Stage) → ending stage l.now at ≡ o → after columns stage l.now ≡ n → opening_at columns text stage start ≡ or_else o (or_stop (stop stage start) (option_map (λ (next : Stage). opening_at columns text next at) n))
    one_line o n ends goes =
        let more = some_piece 10 (drop at text) in
        ap (opening_from columns stage start) (line.0 ∙ ap (λ (ps : List (List ℕ)). l.now ∷ ps) more.2)
        ∙ ap (λ (e : Option Found). or_else e (or_stop (stop stage start) (option_map (λ (next : Stage). opening_from columns next at (more.0 ∷ more.1)) (after columns stage l.now)))) ends
        ∙ ap (λ (m : Option Stage). or_else o (or_stop (stop stage start) (option_map (λ (next : Stage). opening_from columns next at (more.0 ∷ more.1)) m))) goes
        ∙ ap (λ (ps : List (List ℕ)). or_else o (or_stop (stop stage start) (option_map (λ (next : Stage). opening_from columns next at ps) n))) (sym more.2)

    step : (next : Stage) → ending stage l.now at ≡ None → after columns stage l.now ≡ Some next → Leads columns text stage start next at
    step next ends goes = one_line None (Some next) ends goes

    stopped : ending stage l.now at ≡ None → after columns stage l.now ≡ None → opening_at columns text stage start ≡ Err (stop stage start)
    stopped ends goes = one_line None None ends goes

    finish : (f : Found) → ending stage l.now at ≡ Some f → opening_at columns text stage start ≡ Ok f
    finish f ends = one_line (Some f) (after columns stage l.now) ends refl

  module _ (from : Stage) (start : ℕ) (stage : Stage) (at : ℕ) (lead : Leads columns text from start stage at) where
    -- the last line is not whole
    pub missing : IsLineFrom text at None → at ≤ length text → Stops columns text from start (stop stage at)
    missing line within = (lead ∙ short stage at line, within)

    module _ (l : Bor (List ℕ)) (line : IsLineFrom text at (Some l)) where
      -- the next line may not stand
      pub refused : ending stage l.now (at + length l.now + 1) ≡ None → after columns stage l.now ≡ None → at ≤ length text → Stops columns text from start (stop stage at)
      refused ends goes within = (lead ∙ stopped stage at l line ends goes, within)

      -- it may
      pub more : (next : Stage) → ending stage l.now (at + length l.now + 1) ≡ None → after columns stage l.now ≡ Some next → Leads columns text from start next (at + length l.now + 1)
      more next ends goes = lead ∙ step stage at l line next ends goes

      -- it is the last
      pub last : (f : Found) → ending stage l.now (at + length l.now + 1) ≡ Some f → opening_at columns text from start ≡ Ok f
      last f ends = lead ∙ finish stage at l line f ends

  -- what ends behind a lead
  pub ends_behind : (from : Stage) (start : ℕ) (stage : Stage) (at : ℕ) (why : PartNo) → Leads columns text from start stage at → Ends columns text stage at why → Ends columns text from start why
  ends_behind from start stage place (part_no.At s) lead h = (lead ∙ h.0, h.1)
  ends_behind from start stage place part_no.Memory lead h = tt
