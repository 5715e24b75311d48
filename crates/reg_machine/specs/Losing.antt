-- Who stops being a member of a group loses the memberships that rules take from such persons.
use Rattle.std.specs.Prelude.{◌≡◌, ℕ, true, false, None}
use Rattle.reg_effect.specs.Member.{member}
use Rattle.reg_rules.specs.Live.{row_on}
use Rattle.reg_rules.specs.Lost.{has_removal}
use Rattle.reg_audit.specs.Steps.{Step}

-- who was a member of a group before a step and isn't one after it has then no membership that is
-- on in the owner of a rule that takes it away
abbrev pub TakesLost : Step → Type 0
TakesLost step =
    (group owner person : ℕ) → has_removal group owner step.after.rules ≡ true
    → member step.live group person ≡ true → member step.live_after group person ≡ false
    → row_on step.at owner person step.after ≡ None
