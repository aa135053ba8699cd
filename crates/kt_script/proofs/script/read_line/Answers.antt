use Rattle.std.proofs.Common.{◌∙◌, Some, ap, sym, subst}
use Rattle.kt_script.specs.declared.leads.Lead.TheVariants as lead
use Rattle.kt_script.specs.Pieces.{words_of, words_in}
use Rattle.kt_script.specs.Scripts.{first_lead, ReadsLed}
use Rattle.kt_script.proofs.Bodies.{body_led, load_below}
use Rattle.kt_script.proofs.script.read_line.Goals as goal

pub returns-in-Some-Session : goal.returns-in-Some-Session
returns-in-Some-Session c =
    let first = c.cut_word.result.0.now in
    let begun = subst (λ ws. ReadsLed c.args.schema.now c.args.sessions.now (Some lead.Session) ws c.begin_session.new.sessions c.begin_session.result) (sym c.cut_word.ensures) (c.begin_session.ensures c.args.schema.now first) in
    body_led c.args.schema.now c.args.sessions.now c.begin_session.new.sessions c.begin_session.result (words_of c.args.line.now) first (words_in c.cut_word.result.1) (Some lead.Session) c.cut_word.ensures
    (sym (rw c.in-Some-Session.field-0-is at c.in-Some-Session.ensures)) begun

pub returns-in-Some-Command : goal.returns-in-Some-Command
returns-in-Some-Command c =
    let first = c.cut_word.result.0.now in
    let led = subst (λ ws. ReadsLed c.args.schema.now c.args.sessions.now (Some (lead.Command c.in-Some-Command.word)) ws c.read_command_line.new.sessions c.read_command_line.result) (sym c.cut_word.ensures) c.read_command_line.ensures in
    body_led c.args.schema.now c.args.sessions.now c.read_command_line.new.sessions c.read_command_line.result (words_of c.args.line.now) first (words_in c.cut_word.result.1) (Some (lead.Command c.in-Some-Command.word)) c.cut_word.ensures
    (sym (rw c.in-Some-Command.field-0-is at c.in-Some-Command.ensures)) led

pub returns-in-Some-Load : goal.returns-in-Some-Load
returns-in-Some-Load c =
    let leads = ap first_lead c.cut_word.ensures ∙ sym (rw c.in-Some-Load.field-0-is at c.in-Some-Load.ensures) in
    load_below c.args.schema.now c.args.sessions.now (words_of c.args.line.now) leads c.requires.load
