use Rattle.std.proofs.Common.{◌≡◌, ◌∙◌, inl, inr, ap, sym, subst, map, Some, None, Result, Option}
use Rattle.std.specs.Prelude.{IfOk, IsErrOf}
use Rattle.std.specs.Option.{ok_or}
use Rattle.clap.specs.Words.{App, IsAmong, app_of, fault_of, found_of, is_simple, is_simple_and_free, kind_of}
use Rattle.kt_words.specs.declared.run.Settings.{Settings}
use Rattle.kt_words.specs.declared.run.WordsNo.{WordsNo}
use Rattle.kt_words.specs.declared.run.WordsNo.TheVariants.{Form}
use Rattle.kt_words.specs.Words.{run_app, settings_in}
use Rattle.kt_words.proofs.Taken.{said, refused}
use Rattle.kt_words.proofs.run.read_words.Goals as goal

-- what is read is what the words say
given_ok : (o x : Option Settings) → x ≡ o → IfOk (ok_or o Form) (λ s. x ≡ Some s)
given_ok (Some s) x e = e
given_ok None x e = tt

form_ok : (o x : Option Settings) → x ≡ o → IsErrOf (ok_or o Form) Form → x ≡ None
form_ok (Some s) x e h = absurd cc
form_ok None x e h = e

pub returns-in-Ok-clause-settings : goal.returns-in-Ok-clause-settings
returns-in-Ok-clause-settings c =
    let words = map (λ w. w.now) c.args.words.now in
    let app : app_of c.in_ok-run_command.field-0 ≡ run_app = c.in_ok-run_command.ensures in
    let is = said words (app_of c.in_ok-run_command.field-0) (found_of c.in-Ok.matches) c.settings_of.result app (sym c.begins_run.ensures ∙ c.if-not-begins_run.false) (sym c.ends_options.ensures ∙ c.if-ends_options.false)
    (c.in-Ok.ensures.kinds (ap is_simple_and_free app)) (c.in-Ok.ensures.matches (ap is_simple app)).0 c.settings_of.ensures in
    subst (λ (r : Result Settings WordsNo). IfOk r (λ s. settings_in words ≡ Some s)) (sym c.ok_or.ensures.value) (given_ok c.settings_of.result (settings_in words) is)

pub returns-in-Ok-clause-form : goal.returns-in-Ok-clause-form
returns-in-Ok-clause-form c =
    let words = map (λ w. w.now) c.args.words.now in
    let app : app_of c.in_ok-run_command.field-0 ≡ run_app = c.in_ok-run_command.ensures in
    let is = said words (app_of c.in_ok-run_command.field-0) (found_of c.in-Ok.matches) c.settings_of.result app (sym c.begins_run.ensures ∙ c.if-not-begins_run.false) (sym c.ends_options.ensures ∙ c.if-ends_options.false)
    (c.in-Ok.ensures.kinds (ap is_simple_and_free app)) (c.in-Ok.ensures.matches (ap is_simple app)).0 c.settings_of.ensures in
    subst (λ (r : Result Settings WordsNo). IsErrOf r Form → settings_in words ≡ None) (sym c.ok_or.ensures.value) (form_ok c.settings_of.result (settings_in words) is)

pub returns-in-Err-clause-form : goal.returns-in-Err-clause-form
returns-in-Err-clause-form c = λ form.
    let words = map (λ w. w.now) c.args.words.now in
    let app : app_of c.in_ok-run_command.field-0 ≡ run_app = c.in_ok-run_command.ensures in
    let reason : c.reason_of.result ≡ Form = cc in
    elim (c.in-Err.ensures.kinds (ap is_simple_and_free app)) [
      | inl memory ↦ absurd (c.reason_of.ensures reason (c.kind.ensures ∙ memory))
      | inr among ↦ refused words (kind_of c.in-Err.no) (subst (λ (a : App). IsAmong (kind_of c.in-Err.no) (fault_of a words)) app among)
    ]
