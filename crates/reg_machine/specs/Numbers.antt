-- The numbers of refusals. Of all tests of a command that hold, one whose refusal has the least
-- number is told.
use Rattle.std.specs.Prelude.{◌≡◌, ◌≤◌, ℕ, List, ◌++◌, Bool, true, false, length}
use Rattle.std.specs.List.{AllByRecursion}
use Rattle.reg_base.specs.declared.entity.Entity.{Entity}
use Rattle.reg_terms.specs.declared.command.Command.{Command}
use Rattle.reg_terms.specs.declared.command.Command.TheVariants.{Load}
use Rattle.reg_terms.specs.declared.command.Stamped.{Stamped}
use Rattle.reg_terms.specs.declared.refusal.Refusal.{Refusal}
use Rattle.reg_terms.specs.declared.refusal.Refusal.TheVariants as refusal
use Rattle.reg_demand.specs.Refusing.{barred}
use Rattle.reg_priv.specs.declared.who.Who.{Who}
use Rattle.reg_machine.specs.Checks.{Check, checks}
use Rattle.reg_machine.specs.History.{facts}
use Rattle.reg_current.specs.Live.{live}
use Rattle.reg_machine.specs.Past.{log}

-- a refusal's number
abbrev pub number : Refusal → ℕ
number (refusal.TooLong limit) = 1
number (refusal.BadRequest field) = 2
number (refusal.BadName field) = 3
number (refusal.BadMoment field) = 4
number refusal.NoCaller = 5
number (refusal.NotFound object) = 6
number (refusal.Denied object privilege) = 7
number (refusal.Future asked clock) = 8
number refusal.BadWindow = 9
number (refusal.WrongKind field) = 10
number (refusal.Taken object) = 11
number refusal.Already = 12
number refusal.NoSuch = 13
number (refusal.IsComposite object) = 14
number refusal.HasMembers = 15
number (refusal.Circular object) = 16
number (refusal.InUse used) = 17
number refusal.NotEmpty = 18
number refusal.WrongOwner = 19
number refusal.WrongValue = 20
number refusal.Single = 21
number (refusal.Vetoed rule) = 22
number (refusal.BadTable row) = 23
number (refusal.Failsafe before removes) = 24
number (refusal.Place kept last) = 25
number (refusal.Full kind limit) = 26
number (refusal.OtherCommand kept) = 27
number refusal.NoRoute = 30
number refusal.NoMethod = 31
number refusal.NoLength = 32
number refusal.Coding = 33
number refusal.HeadTooLong = 34
number refusal.NoCallerHeader = 35
number refusal.BadHead = 36

-- none of some tests that hold refuses by a number that is less
abbrev pub NoneLess : ℕ → List Check → Type 0
NoneLess n those =
    AllByRecursion (λ (check : Check). check.0 ≡ true → n ≤ number check.1) those

-- whether a command is a load
abbrev pub is_load : Command → Bool
is_load (Load job created removed added) = true
is_load _ = false

-- all tests of a command of a caller that stands, after a history, at a moment
abbrev pub tests : List Stamped → ℕ → Entity → Who → Command → List Check
tests history at by c command =
    barred (live at (facts history at)) (facts history at) by c command
    ++ checks history (length (log history at)) at (facts history at) by command
