use Rattle.std.proofs.Common.{ℕ, List, arith, sym, subst}
use Rattle.reg_access.specs.declared.state.StateKind.{StateKind}
use Rattle.reg_access.proofs.Noting.{Noted, noted_again, noted_anew}
use Rattle.reg_access.proofs.listing.note.Goals as goal

pub returns-then-ends_with : goal.returns-then-ends_with
returns-then-ends_with c = noted_again c.args.from c.args.end c.args.kind c.args.states.now.items (omega arith) (rw c.deref.ensures.value at (c.ends_with.ensures.yes c.if-ends_with.true))

pub returns : goal.returns
returns c =
    let other = rw c.deref.ensures.value at (c.ends_with.ensures.no c.if-ends_with.false) in
    let anew = noted_anew c.args.from c.args.end c.args.kind c.args.states.now.items (omega arith) other in
    subst (λ (l : List (ℕ × StateKind)). Noted c.args.from c.args.end c.args.kind c.args.states.now.items l) (sym c.in_ok-push.ensures.items) anew
