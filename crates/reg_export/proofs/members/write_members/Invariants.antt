use Rattle.std.proofs.Common.{◌≡◌, ◌++◌, ◌∷◌, drop}
use Rattle.json.specs.Token.{begin_object}
use Rattle.json.specs.Tree.{members_tokens}
use Rattle.serde_json.specs.Written.{members_outline}
use Rattle.reg_export.specs.Members.{members_of}
use Rattle.reg_export.proofs.members.write_members.Given as goal

-- what is written, and the members to come, are the whole object
abbrev pub invariant-loop-key : goal.invariant-loop-key
invariant-loop-key l = (l.out.before ≡ l.fn.out.before) × (l.out.tokens ++ members_tokens (members_outline (members_of (drop l.key-index l.members))) ≡ l.fn.out.tokens ++ begin_object ∷ members_tokens (members_outline (members_of l.fn.members)))
