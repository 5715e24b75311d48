use Rattle.reg_keys.specs.Found.{found_in}
use Rattle.reg_machine.proofs.Keying.{tied_start}
use Rattle.reg_machine.proofs.history.History.new.Goals as goal

-- nothing is stored under any key
pub invariant_of-result-clause-tied : goal.invariant_of-result-clause-tied
invariant_of-result-clause-tied c = tied_start c.new.result.items (λ b k. found_in c.new-2.result b k) c.new.ensures c.new-2.ensures
