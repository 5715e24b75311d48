use Rattle.std.proofs.Common.{◌≡◌, ◌∙◌, ℕ, ap, refl, subst, max, Ok}
use Rattle.reg_machine.specs.History.{State}
use Rattle.reg_base.specs.Entities.{entity_of}
use Rattle.reg_service.specs.Kept.{IsAcknowledged, IsLoaded, KeepsNext, LeavesFaults, LeavesKeeper}
use Rattle.reg_terms.specs.declared.request.Op.TheVariants as op
use Rattle.reg_service.specs.Turn.{turn, requested, at_moment, GoesOn}
use Rattle.reg_view.specs.AtClock.{told}
use Rattle.reg_service.specs.Opening.{Served}
use Rattle.reg_service.proofs.Keyed.{command_goes_on}
use Rattle.reg_service.proofs.Forms.{command_form, command_key}
use Rattle.reg_service.proofs.Keeping.{stopped_at, served_later, query_goes_on}
use Rattle.reg_service.specs.Loads.{LoadsIfRoom}
use Rattle.reg_service.proofs.LoadsFull.{told_full, unanswered}
use Rattle.reg_service.proofs.Loads.{command_unloaded, load_form, load_goes_on, query_unloaded}
use Rattle.reg_service.proofs.service.Service.request.Goals as goal

-- there was no memory to move the clock
pub returns-in_default-clause-kept : goal.returns-in_default-clause-kept
returns-in_default-clause-kept g c =
    stopped_at g.K.Keeper c.self.inside.machine c.self.inside.keeper _ _ c.self.invariant (g.met.K.Keeper.stop_now c.self.inside.keeper) (g.met.K.Keeper.stop_only_now c.self.inside.keeper)
    (ap (λ (v : Served g.row.K.Denot). v.state.history) c.self.view_is) (ap (λ (v : Served g.row.K.Denot). v.keeper) c.self.view_is)

pub returns-in_default-clause-asked : goal.returns-in_default-clause-asked
returns-in_default-clause-asked g c is = (ap (λ (v : Served g.row.K.Denot). v.keeper) c.self.view_is, refl)

pub returns-in_default-clause-room : goal.returns-in_default-clause-room
returns-in_default-clause-room g c = unanswered (at_moment c.args.self.state c.args.at) c.args.request.by c.args.request.op

pub returns-in_default-clause-still : goal.returns-in_default-clause-still
returns-in_default-clause-still g c = ap (λ (v : Served g.row.K.Denot). g.K.Keeper.keep_faults v.keeper) c.self.view_is

-- where it goes on the keeper's count of faults is as it was
pub returns-in-Query-clause-still : goal.returns-in-Query-clause-still
returns-in-Query-clause-still g c = subst (λ (v : Served g.row.K.Denot). LeavesFaults g.K.Keeper v.keeper c.asked.result.1) c.self.view_is c.asked.ensures.still

pub returns-in-Command-clause-still : goal.returns-in-Command-clause-still
returns-in-Command-clause-still g c = subst (λ (v : Served g.row.K.Denot). LeavesFaults g.K.Keeper v.keeper c.commanded.result.1) c.self.view_is c.commanded.ensures.still

pub returns-in-Load-clause-still : goal.returns-in-Load-clause-still
returns-in-Load-clause-still g c = subst (λ (v : Served g.row.K.Denot). LeavesFaults g.K.Keeper v.keeper c.load_by.result.1) c.self.view_is c.load_by.ensures.still

-- a query leaves the history as it was
pub returns-in-Query-clause-history : goal.returns-in-Query-clause-history
returns-in-Query-clause-history g c =
    let moved : c.in-Ok.machine ≡ at_moment c.self.inside.machine c.args.at = c.in-Ok.ensures ∙ ap (λ (n : ℕ). let s : State = record { history = c.self.inside.machine.history; clock = n } in s) (c.later_of-now.ensures.value ∙ ap (λ (n : ℕ). max n c.args.at) c.clock.ensures) in
    subst (λ (v : Served g.row.K.Denot). GoesOn v.state c.args.at c.asked.result) c.self.view_is
    (query_goes_on c.self.inside.machine c.in-Ok.machine c.args.at (told c.in-Ok.machine.history c.in-Ok.machine.clock c.args.request.by c.in-Query.query) c.asked.result.0 c.asked.result.1 moved c.asked.ensures.turn)

-- a query keeps nothing
pub returns-in-Query-clause-kept : goal.returns-in-Query-clause-kept
returns-in-Query-clause-kept g c =
    let same : c.in-Ok.machine.history ≡ c.self.inside.machine.history = ap (λ (s : State). s.history) c.in-Ok.ensures in
    let expected = (turn c.args.self.state c.args.at (Ok c.args.request)).1.history in
    let kept : KeepsNext g.K.Keeper c.in-Ok.machine.history expected c.self.inside.keeper c.asked.result.1 = c.asked.ensures.kept expected in
    subst (λ (v : Served g.row.K.Denot). KeepsNext g.K.Keeper v.state.history expected v.keeper c.asked.result.1) c.self.view_is (rw same at kept)

pub returns-in-Query-clause-asked : goal.returns-in-Query-clause-asked
returns-in-Query-clause-asked g c is = subst (λ (v : Served g.row.K.Denot). LeavesKeeper v.keeper c.asked.result.1) c.self.view_is c.asked.ensures.same

-- a command is carried out at the later moment
pub returns-in-Command-clause-history : goal.returns-in-Command-clause-history
returns-in-Command-clause-history g c =
    let moved : c.in-Ok.machine ≡ at_moment c.self.inside.machine c.args.at = c.in-Ok.ensures ∙ ap (λ (n : ℕ). let s : State = record { history = c.self.inside.machine.history; clock = n } in s) (c.later_of-now.ensures.value ∙ ap (λ (n : ℕ). max n c.args.at) c.clock.ensures) in
    subst (λ (v : Served g.row.K.Denot). GoesOn v.state c.args.at c.commanded.result) c.self.view_is
    (command_goes_on c.self.inside.machine c.in-Ok.machine c.args.at (entity_of c.args.request.by) c.args.request.key c.in-Command.command c.commanded.result.0 c.commanded.result.1 moved c.commanded.ensures.turn)

pub returns-in-Command-clause-kept : goal.returns-in-Command-clause-kept
returns-in-Command-clause-kept g c =
    let later : State = at_moment c.self.inside.machine c.args.at in
    let moved : c.in-Ok.machine ≡ later = c.in-Ok.ensures ∙ ap (λ (n : ℕ). let s : State = record { history = c.self.inside.machine.history; clock = n } in s) (c.later_of-now.ensures.value ∙ ap (λ (n : ℕ). max n c.args.at) c.clock.ensures) in
    let kept : KeepsNext g.K.Keeper c.self.inside.machine.history (requested later c.args.request.by c.args.request.key (op.Command c.in-Command.command)).1.history c.self.inside.keeper c.commanded.result.1 =
    subst (λ (m : State). KeepsNext g.K.Keeper m.history (requested m c.args.request.by c.args.request.key (op.Command c.in-Command.command)).1.history c.self.inside.keeper c.commanded.result.1) moved c.commanded.ensures.kept in
    subst (λ (v : Served g.row.K.Denot). KeepsNext g.K.Keeper v.state.history (requested (at_moment v.state c.args.at) c.args.request.by c.args.request.key c.args.request.op).1.history v.keeper c.commanded.result.1) c.self.view_is (rw c.in-Command.is kept)

-- and is no query
pub returns-in-Command-clause-asked : goal.returns-in-Command-clause-asked
returns-in-Command-clause-asked g c is = absurd (rw c.in-Command.is at is)

-- and has its form
pub commanded-requires-clause-form : goal.commanded-requires-clause-form
commanded-requires-clause-form g c = command_form c.in-Command.command (rw c.in-Command.is at c.requires.fields)

-- and so has its key
pub commanded-requires-clause-fits : goal.commanded-requires-clause-fits
commanded-requires-clause-fits g c = command_key c.in-Command.command c.args.request.key (rw c.in-Command.is at c.requires.key)

-- the service goes on at the later moment
pub asked-requires : goal.asked-requires
asked-requires g c = served_later c.self.inside.machine c.in-Ok.machine _ _ _ c.self.invariant (rw c.clock.ensures at c.later_of-now.ensures.no_earlier) c.in-Ok.ensures

pub commanded-requires-clause-served : goal.commanded-requires-clause-served
commanded-requires-clause-served g c = served_later c.self.inside.machine c.in-Ok.machine _ _ _ c.self.invariant (rw c.clock.ensures at c.later_of-now.ensures.no_earlier) c.in-Ok.ensures

-- a load is carried out at the later moment
pub returns-in-Load-clause-history : goal.returns-in-Load-clause-history
returns-in-Load-clause-history g c =
    let moved : c.in-Ok.machine ≡ at_moment c.self.inside.machine c.args.at = c.in-Ok.ensures ∙ ap (λ (n : ℕ). let s : State = record { history = c.self.inside.machine.history; clock = n } in s) (c.later_of-now.ensures.value ∙ ap (λ (n : ℕ). max n c.args.at) c.clock.ensures) in
    subst (λ (v : Served g.row.K.Denot). GoesOn v.state c.args.at c.load_by.result) c.self.view_is
    (load_goes_on c.self.inside.machine c.in-Ok.machine c.args.at (entity_of c.args.request.by) c.in-Load.job c.in-Load.table c.load_by.result.0 c.load_by.result.1 moved c.load_by.ensures.turn)

pub returns-in-Load-clause-kept : goal.returns-in-Load-clause-kept
returns-in-Load-clause-kept g c =
    let later : State = at_moment c.self.inside.machine c.args.at in
    let moved : c.in-Ok.machine ≡ later = c.in-Ok.ensures ∙ ap (λ (n : ℕ). let s : State = record { history = c.self.inside.machine.history; clock = n } in s) (c.later_of-now.ensures.value ∙ ap (λ (n : ℕ). max n c.args.at) c.clock.ensures) in
    let kept : KeepsNext g.K.Keeper c.self.inside.machine.history (requested later c.args.request.by c.args.request.key (op.Load c.in-Load.job c.in-Load.table)).1.history c.self.inside.keeper c.load_by.result.1 =
    subst (λ (m : State). KeepsNext g.K.Keeper m.history (requested m c.args.request.by c.args.request.key (op.Load c.in-Load.job c.in-Load.table)).1.history c.self.inside.keeper c.load_by.result.1) moved c.load_by.ensures.kept in
    subst (λ (v : Served g.row.K.Denot). KeepsNext g.K.Keeper v.state.history (requested (at_moment v.state c.args.at) c.args.request.by c.args.request.key c.args.request.op).1.history v.keeper c.load_by.result.1) c.self.view_is (rw c.in-Load.is kept)

-- and is no query
pub returns-in-Load-clause-asked : goal.returns-in-Load-clause-asked
returns-in-Load-clause-asked g c is = absurd (rw c.in-Load.is at is)

-- it is refused for want of room alone, and nothing else is a load
pub returns-in-Load-clause-room : goal.returns-in-Load-clause-room
returns-in-Load-clause-room g c =
    let later : State = at_moment c.self.inside.machine c.args.at in
    let moved : c.in-Ok.machine ≡ later = c.in-Ok.ensures ∙ ap (λ (n : ℕ). let s : State = record { history = c.self.inside.machine.history; clock = n } in s) (c.later_of-now.ensures.value ∙ ap (λ (n : ℕ). max n c.args.at) c.clock.ensures) in
    let here : LoadsIfRoom c.in-Ok.machine c.args.request.by (op.Load c.in-Load.job c.in-Load.table) c.load_by.result.0 =
    λ e who. told_full c.in-Ok.machine (entity_of c.args.request.by) e c.in-Load.job c.in-Load.table c.load_by.result.0 c.load_by.result.1 c.load_by.ensures.turn who (c.law_loads.ensures e c.in-Load.job c.in-Load.table) in
    let then : LoadsIfRoom later c.args.request.by (op.Load c.in-Load.job c.in-Load.table) c.load_by.result.0 = subst (λ (m : State). LoadsIfRoom m c.args.request.by (op.Load c.in-Load.job c.in-Load.table) c.load_by.result.0) moved here in
    subst (λ (v : Served g.row.K.Denot). LoadsIfRoom (at_moment v.state c.args.at) c.args.request.by c.args.request.op c.load_by.result.0) c.self.view_is (rw c.in-Load.is then)

pub returns-in-Command-clause-room : goal.returns-in-Command-clause-room
returns-in-Command-clause-room g c = rw c.in-Command.is tt

pub returns-in-Query-clause-room : goal.returns-in-Query-clause-room
returns-in-Query-clause-room g c = rw c.in-Query.is tt

-- it is answered as a load, and nothing else is
pub returns-in-Load-clause-acknowledged : goal.returns-in-Load-clause-acknowledged
returns-in-Load-clause-acknowledged g c n id is = absurd (c.load_by.ensures.unnumbered n id is)

pub returns-in-Load-clause-loaded : goal.returns-in-Load-clause-loaded
returns-in-Load-clause-loaded g c n counts is =
    let same : c.in-Ok.machine.history ≡ c.self.inside.machine.history = ap (λ (s : State). s.history) c.in-Ok.ensures in
    let kept : IsLoaded g.K.Keeper c.in-Ok.machine.history n c.load_by.result.1 = c.load_by.ensures.loaded n counts is in
    subst (λ (v : Served g.row.K.Denot). IsLoaded g.K.Keeper v.state.history n c.load_by.result.1) c.self.view_is (rw same at kept)

pub returns-in-Command-clause-acknowledged : goal.returns-in-Command-clause-acknowledged
returns-in-Command-clause-acknowledged g c n id is =
    let same : c.in-Ok.machine.history ≡ c.self.inside.machine.history = ap (λ (s : State). s.history) c.in-Ok.ensures in
    let kept : IsAcknowledged g.K.Keeper c.in-Ok.machine.history n id c.commanded.result.1 = c.commanded.ensures.acknowledged n id is in
    subst (λ (v : Served g.row.K.Denot). IsAcknowledged g.K.Keeper v.state.history n id c.commanded.result.1) c.self.view_is (rw same at kept)

pub returns-in-Command-clause-loaded : goal.returns-in-Command-clause-loaded
returns-in-Command-clause-loaded g c n counts is = absurd (command_unloaded c.in-Ok.machine (entity_of c.args.request.by) c.args.request.key c.in-Command.command c.commanded.result.0 c.commanded.result.1 n counts c.commanded.ensures.turn is)

pub returns-in-Query-clause-loaded : goal.returns-in-Query-clause-loaded
returns-in-Query-clause-loaded g c n counts is =
    absurd (query_unloaded c.in-Ok.machine (told c.in-Ok.machine.history c.in-Ok.machine.clock c.args.request.by c.in-Query.query) c.asked.result.0 c.asked.result.1 n counts c.asked.ensures.turn is)

pub load_by-requires-clause-served : goal.load_by-requires-clause-served
load_by-requires-clause-served g c = served_later c.self.inside.machine c.in-Ok.machine _ _ _ c.self.invariant (rw c.clock.ensures at c.later_of-now.ensures.no_earlier) c.in-Ok.ensures

pub load_by-requires-clause-form : goal.load_by-requires-clause-form
load_by-requires-clause-form g c = load_form c.in-Load.job c.in-Load.table (rw c.in-Load.is at c.requires.fields)
