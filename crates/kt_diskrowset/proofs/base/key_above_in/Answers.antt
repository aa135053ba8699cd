use Rattle.std.proofs.Common.{◌∙◌, Some, ap, sym, arith}
use Rattle.kt_baseset.specs.Rows.{keys_in}
use Rattle.kt_diskrowset.proofs.Histories.{are_rising}
use Rattle.kt_diskrowset.proofs.Plain.{key_got, no_key}
use Rattle.kt_diskrowset.proofs.base.key_above_in.Goals as goal

pub returns-clause-rise : goal.returns-clause-rise
returns-clause-rise c = are_rising (keys_in c.args.set.now.rows) c.rows.ensures.base.keys.rise

pub returns-then-at-rows-clause-rise : goal.returns-then-at-rows-clause-rise
returns-then-at-rows-clause-rise c = are_rising (keys_in c.args.set.now.rows) c.rows.ensures.base.keys.rise

pub returns-in_err-key-clause-rise : goal.returns-in_err-key-clause-rise
returns-in_err-key-clause-rise c = are_rising (keys_in c.args.set.now.rows) c.rows.ensures.base.keys.rise

pub returns-then-at-rows-clause-found : goal.returns-then-at-rows-clause-found
returns-then-at-rows-clause-found c = sym (no_key c.args.set.now.rows c.place_above-at.result (omega (arith, c.rows.ensures.count))) ∙ c.place_above-at.ensures.first

pub returns-clause-found : goal.returns-clause-found
returns-clause-found c = ap Some c.in_ok-key.ensures ∙ sym (key_got c.args.set.now.rows c.place_above-at.result (omega (arith, c.rows.ensures.count))) ∙ c.place_above-at.ensures.first
