use Rattle.reg_wire.proofs.OldPayloads.{one_old_payload, no_old_payload}
use Rattle.reg_wire.proofs.old_decoding.decode_old.Goals as goal

pub returns-in-Ok-clause-found : goal.returns-in-Ok-clause-found
returns-in-Ok-clause-found c =
    let found = one_old_payload c.law_commands.ensures.made c.args.bytes.now c.in-Ok.stamped c.in-Ok.ensures in
    (found.1, found.2, found.0)

pub returns-in-Err-Malformed-clause-none : goal.returns-in-Err-Malformed-clause-none
returns-in-Err-Malformed-clause-none c = no_old_payload c.law_commands.ensures.apart c.args.bytes.now (rw c.in-Err-Malformed.field-0-is at c.in-Err-Malformed.ensures)
