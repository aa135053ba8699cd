use Rattle.std.proofs.Common.{◌≡◌, ◌≤◌, length, subst, arith}
use Rattle.std.proofs.lemmas.List.{take_all}
use Rattle.kt_mvcc.specs.Held.{hash_of, StoodElsewhere}
use Rattle.kt_mvcc.proofs.Index.{keeps_then, has_more, elsewhere_then}
use Rattle.kt_mvcc.proofs.held.Held.hold.Goals as goal

pub keys-preserved : goal.keys-preserved
keys-preserved c =
    let here : c.hash_of.result ≡ hash_of c.at.result.now = c.hash_of.ensures in
    record {
      keeps = λ whole. keeps_then c.args.self.now c.keys.self c.put.new.self c.keys.invariant.keeps (c.put.ensures.keeps whole) whole;
      held = λ whole. has_more c.keys.self c.put.new.self c.args.who c.args.keys.now c.keys.at c.at.result.now (omega arith) c.at.ensures
          (c.put.ensures.keeps whole) (c.keys.invariant.held ((c.put.ensures.keeps whole).0 whole)) (rw (← here) (c.put.ensures.put whole));
      stood = elsewhere_then c.args.self.now c.keys.self c.put.new.self c.args.keys.now c.keys.at c.at.result.now (omega arith) c.at.ensures c.keys.invariant.stood (rw here at c.put.ensures.stood);
    }

pub returns-clause-held : goal.returns-clause-held
returns-clause-held c = let past : length c.args.keys.now ≤ c.keys.at = omega arith in rw (take_all c.keys.at c.args.keys.now past) at c.keys.invariant.held

pub returns-clause-stood : goal.returns-clause-stood
returns-clause-stood c =
    let past : length c.args.keys.now ≤ c.keys.at = omega arith in
    subst (λ keys. StoodElsewhere keys c.args.self.now c.keys.self) (take_all c.keys.at c.args.keys.now past) c.keys.invariant.stood
