use Rattle.std.proofs.Common.{Some}
use Rattle.std.proofs.lemmas.Map.Text.{hash_map_updates_str}
use Rattle.reg_load.specs.Finding.{number_of}
use Rattle.reg_load.proofs.created.CreatedNames.insert.Goals as goal

-- the name has the number, and others have theirs
pub returns : goal.returns
unfolding number_of
returns c other = hash_map_updates_str c.args.name.now c.args.self.now.numbers c.insert.new.self (Some c.args.number) c.in_ok-insert.ensures.updates other
