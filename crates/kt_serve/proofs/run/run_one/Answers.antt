use Rattle.kt_seatlock.specs.Passes.{part, seen}
use Rattle.kt_serve.proofs.Rests.{none_or_stop}
use Rattle.kt_serve.proofs.run.run_one.Goals as goal

pub returns-clause-run : goal.returns-clause-run
returns-clause-run g c =
    record {
      home = c.run_session.ensures.home;
      root = c.run_session.ensures.root;
      rounds = c.run_session.ensures.rounds;
      ended = λ root has. record {
        tells = λ no. c.run_session.ensures.tells no root has;
        lost = λ is. c.run_session.ensures.lost is root has;
        all = c.run_session.ensures.all;
        stopped = c.run_session.ensures.stopped;
        points = c.run_session.ensures.points;
      };
    }

pub returns-clause-none : goal.returns-clause-none
returns-clause-none g c = λ h. none_or_stop (part c.run_session.new.pass) (seen c.run_session.new.pass) c.run_session.result.halt (λ ne. c.run_session.ensures.none ne h) c.run_session.ensures.stopped
