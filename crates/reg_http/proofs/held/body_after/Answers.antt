use Rattle.reg_http.proofs.Takings.{taken_whole}
use Rattle.reg_http.proofs.held.body_after.Goals as goal

pub returns : goal.returns
returns c =
    let back = c.split_at.ensures.back in
    taken_whole c.args.bytes.now c.args.head.now c.in_ok-body.body c.requires (rw back at c.if-rest-head.false) (rw back at c.in_ok-body.ensures)
