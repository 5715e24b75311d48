use Rattle.reg_http.specs.Routes.{added}
use Rattle.reg_http.proofs.Added.{inserted}
use Rattle.reg_http.proofs.route.add.Goals.{in-Ok, in-Err}
use Rattle.reg_http.proofs.route.add.Goals as goal

pub returns : goal.returns
unfolding added
returns c =
    elim c.match-insert.branch [
      | in-Ok w ↦ rw w.result-is (inserted _ _ _ _ _ _ w.in-Ok.is c.insert.ensures)
      | in-Err w ↦ rw w.result-is tt
    ]
