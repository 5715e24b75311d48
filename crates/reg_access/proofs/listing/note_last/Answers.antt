use Rattle.std.proofs.Common.{ℕ, Option, arith, ◌∙◌, ap}
use Rattle.reg_access.specs.Attested.{state_of}
use Rattle.reg_access.specs.Stretches.{Held}
use Rattle.reg_access.proofs.Noting.{endless_noted, ends_noted, Noted, NotedEnding, on_ok}
use Rattle.reg_access.proofs.listing.note_last.Goals as goal

pub returns-in-Some : goal.returns-in-Some
returns-in-Some c =
    let days_are = ap (λ (h : Held). h.days) c.stretch.view_is in
    let state_is = c.state_of-state.ensures ∙ ap (λ (o : Option ℕ). state_of o c.args.last c.args.from) days_are in
    on_ok c.note_ending.result
    (NotedEnding c.in-Some.ends c.args.from c.args.end c.args.states.now.items c.note_ending.new.states.items) _
    (ends_noted c.args.stretch.now.days c.args.last c.args.from c.args.end c.in-Some.ends c.state_of-state.result c.args.states.now.items c.note_ending.new.states.items state_is c.in-Some.is)
    c.note_ending.ensures

pub returns-in-None : goal.returns-in-None
returns-in-None c =
    let days_are = ap (λ (h : Held). h.days) c.stretch.view_is in
    let state_is = c.state_of-state.ensures ∙ ap (λ (o : Option ℕ). state_of o c.args.last c.args.from) days_are in
    on_ok c.note.result
    (Noted c.args.from c.args.end c.state_of-state.result.kind c.args.states.now.items c.note.new.states.items) _
    (endless_noted c.args.stretch.now.days c.args.last c.args.from c.args.end c.state_of-state.result c.args.states.now.items c.note.new.states.items (omega arith) state_is c.in-None.is)
    c.note.ensures
