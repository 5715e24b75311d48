use Rattle.std.proofs.Common.{◌≡◌, suc, length, arith}
use Rattle.reg_keys.specs.Found.{found_in}
use Rattle.reg_machine.proofs.Keying.{tied_push}
use Rattle.reg_machine.proofs.history.History.then.Goals as goal

-- what is stored is tied to the commands with the new one
pub invariant_of-result-clause-tied : goal.invariant_of-result-clause-tied
invariant_of-result-clause-tied c =
    let number : c.in-Some.count ≡ suc (length c.args.self.commands.items) = omega (arith, c.in-Some.ensures, c.args.self.counted) in
    rw c.then.ensures (tied_push c.args.self.commands.items c.args.stamped.now c.in-Some.count c.args.id (λ b k. found_in c.args.self.keys b k) (λ b k. found_in c.put_key.new.keys b k) number c.requires.id c.requires.free c.args.self.tied c.in_ok-put_key.ensures)
