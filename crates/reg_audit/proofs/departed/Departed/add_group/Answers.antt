use Rattle.std.proofs.Common.{◌≡◌, ◌∙◌, Some, string_bytes}
use Rattle.std.proofs.lemmas.Map.Text.{btree_map_updates_text}
use Rattle.reg_audit.proofs.departed.Departed.add_group.Goals as goal

-- the name has the group, and others have theirs
pub returns-clause-named : goal.returns-clause-named
returns-clause-named c other =
    let same : string_bytes c.in_ok-key.key ≡ c.args.name.now = c.in_ok-key.ensures.ok ∙ c.as_str.ensures in
    rw (← same) (btree_map_updates_text (string_bytes c.in_ok-key.key) c.args.self.now.by_name c.insert.new.self (Some c.args.group) c.in_ok-insert.ensures.updates other)
