use Rattle.std.proofs.Common.{refl, ◌∙◌}
use Rattle.reg_service.proofs.Keeping.{kept_same, stopped_at, served_one, kept_ok, kept_err, would_keep, acknowledged_one, loaded_one}
use Rattle.reg_service.proofs.Loads.{few_listed}
use Rattle.reg_service.proofs.service.keep.Goals as goal

-- there was no memory to write the command down
pub returns-in_default-clause-kept : goal.returns-in_default-clause-kept
returns-in_default-clause-kept g c = kept_same g.K.Keeper c.args.machine c.args.keeper c.requires.served (g.met.K.Keeper.stop_now c.args.keeper) (g.met.K.Keeper.stop_only_now c.args.keeper)

pub returns-in_default-applied-clause-kept : goal.returns-in_default-applied-clause-kept
returns-in_default-applied-clause-kept g c = stopped_at g.K.Keeper c.args.machine c.args.keeper _ _ c.requires.served (g.met.K.Keeper.stop_now c.args.keeper) (g.met.K.Keeper.stop_only_now c.args.keeper) refl refl

-- its payload fits a frame
pub append-requires-clause-size : goal.append-requires-clause-size
append-requires-clause-size g c =
    rw c.deref.ensures.value (c.in-Ok.ensures.short (few_listed c.args.machine.history c.args.machine.clock c.args.stamped.by c.args.stamped.command (c.law_loads_few.ensures c.args.stamped.by) c.requires.accepted))

-- it was kept
pub invariant_of-result-in-Ok-append : goal.invariant_of-result-in-Ok-append
invariant_of-result-in-Ok-append g c =
    served_one c.args.machine c.in-Ok-applied.machine c.args.stamped c.deref.result.now (g.K.Keeper.payloads c.args.keeper) _ _ _ c.requires.served c.requires.now c.requires.free c.requires.accepted (c.payload_reads_back.ensures c.args.stamped c.requires.writable)
    c.in-Ok-applied.ensures (c.deref.ensures.value ∙ c.in-Ok.ensures.value) c.in-Ok-append.ensures.kept c.in-Ok-append.ensures.going

pub returns-in-Ok-append-clause-kept : goal.returns-in-Ok-append-clause-kept
returns-in-Ok-append-clause-kept g c =
    kept_ok g.K.Keeper c.args.machine c.in-Ok-applied.machine c.args.stamped c.deref.result.now c.args.keeper c.append.new.self c.requires.served c.requires.now
    c.in-Ok-applied.ensures (c.deref.ensures.value ∙ c.in-Ok.ensures.value) c.append.ensures.object c.append.ensures.cause.later c.in-Ok-append.ensures.kept c.append.ensures.any_moment

pub returns-in-Ok-append-clause-still : goal.returns-in-Ok-append-clause-still
returns-in-Ok-append-clause-still g c = c.in-Ok-append.ensures.cause.still

-- keeping it failed
pub returns-clause-kept : goal.returns-clause-kept
returns-clause-kept g c =
    kept_err g.K.Keeper c.args.machine c.args.stamped c.deref.result.now c.args.keeper c.append.new.self _ c.requires.served c.requires.now c.requires.free c.requires.accepted (c.payload_reads_back.ensures c.args.stamped c.requires.writable)
    (would_keep c.args.machine c.args.stamped c.requires.now c.requires.accepted) (c.deref.ensures.value ∙ c.in-Ok.ensures.value) c.append.ensures.object c.append.ensures.cause.later c.in-Err.ensures.cause.failed c.in-Err.ensures.failed (g.met.K.Keeper.stop_counts_now c.append.new.self) c.append.ensures.any_moment

-- and is one more
pub returns-in-Ok-append-clause-added : goal.returns-in-Ok-append-clause-added
returns-in-Ok-append-clause-added g c n id is =
    loaded_one g.K.Keeper c.args.machine c.in-Ok-applied.machine c.args.stamped c.append.new.self n
    (served_one c.args.machine c.in-Ok-applied.machine c.args.stamped c.deref.result.now (g.K.Keeper.payloads c.args.keeper) _ _ _ c.requires.served c.requires.now c.requires.free c.requires.accepted (c.payload_reads_back.ensures c.args.stamped c.requires.writable)
    c.in-Ok-applied.ensures (c.deref.ensures.value ∙ c.in-Ok.ensures.value) c.in-Ok-append.ensures.kept c.in-Ok-append.ensures.going)
    (g.met.K.Keeper.stop_now c.append.new.self) c.in-Ok-applied.ensures (cc)

-- and is acknowledged
pub returns-in-Ok-append-clause-acknowledged : goal.returns-in-Ok-append-clause-acknowledged
returns-in-Ok-append-clause-acknowledged g c n id is =
    acknowledged_one g.K.Keeper c.args.machine c.in-Ok-applied.machine c.args.stamped c.append.new.self n id
    (served_one c.args.machine c.in-Ok-applied.machine c.args.stamped c.deref.result.now (g.K.Keeper.payloads c.args.keeper) _ _ _ c.requires.served c.requires.now c.requires.free c.requires.accepted (c.payload_reads_back.ensures c.args.stamped c.requires.writable)
    c.in-Ok-applied.ensures (c.deref.ensures.value ∙ c.in-Ok.ensures.value) c.in-Ok-append.ensures.kept c.in-Ok-append.ensures.going)
    (g.met.K.Keeper.stop_now c.append.new.self) c.in-Ok-applied.ensures (cc) (cc)
