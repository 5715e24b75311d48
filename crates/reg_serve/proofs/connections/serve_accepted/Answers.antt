use Rattle.reg_serve.proofs.Visiting.{kept_so, rests_so}
use Rattle.reg_serve.proofs.connections.serve_accepted.Goals as goal

-- it was a session, and was given back as it stood after it
pub returns-clause-back : goal.returns-clause-back
returns-clause-back g c =
    let s = c.serve_bytes-ended.ensures.session in
    let back = c.return_connection-given_back.ensures.back in
    record {
      back = _;
      unfinished = back.0;
      told = back.3;
      end = _;
      to = s.0.to;
      is = record {
        session = s.0.session;
        failed = c.serve_bytes-ended.ensures.failed;
        open_still = rests_so _ _ _ _ back.0 s.1 c.unfinished.ensures back.1;
        kept = kept_so _ _ _ _ back.0 _ s.1 c.unfinished.ensures back.2;
      };
      leaves = s.0.leaves;
    }

pub returns-clause-keeps_up : goal.returns-clause-keeps_up
returns-clause-keeps_up g c =
    let s = c.serve_bytes-ended.ensures.keeps_up in
    let back = c.return_connection-given_back.ensures.back in (
      record {
        back = _;
        unfinished = back.0;
        told = back.3;
        end = _;
        to = s.0.0.to;
        is = record {
          session = s.0.0.session;
          failed = c.serve_bytes-ended.ensures.failed;
          open_still = rests_so _ _ _ _ back.0 s.0.1 c.unfinished.ensures back.1;
          kept = kept_so _ _ _ _ back.0 _ s.0.1 c.unfinished.ensures back.2;
        };
        leaves = s.0.0.leaves;
      },
      s.1,
    )
