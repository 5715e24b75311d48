use Rattle.std.specs.Prelude.{is_ok}
use Rattle.reg_http.proofs.Helds.{held_fed}
use Rattle.reg_http.proofs.held.Held.feed.Goals as goal

pub invariant_of-self : goal.invariant_of-self
invariant_of-self c =
    rw c.extend_from_slice.ensures.items (held_fed (is_ok c.extend_from_slice.result) c.self.inside.bytes.items c.args.piece.now c.self.inside.start c.self.inside.head c.self.invariant)
