-- What a request to load a table comes to: a refusal, or the command of the table's plan, and what
-- that does in numbers.
use Rattle.std.specs.Prelude.{◌≡◌, ◌≤◌, ⊤, ℕ, List, [], Bool, true, false, Option, Some, None}
use Rattle.std.specs.Prelude.{Result, Ok, Err, length, nat_le, codes, if◌then◌else◌}
use Rattle.std.specs.List.{AllByRecursion}
use Rattle.reg_base.specs.Names.{is_name}
use Rattle.reg_base.specs.declared.entity.Entity.{Entity}
use Rattle.reg_ops.specs.Forms.{has_form}
use Rattle.reg_terms.specs.Limits.{max_groups, max_history, max_records, max_rows}
use Rattle.reg_terms.specs.declared.command.Command.{Command}
use Rattle.reg_terms.specs.declared.command.Command.TheVariants.{Load}
use Rattle.reg_terms.specs.declared.command.Stamped.{Stamped}
use Rattle.reg_terms.specs.declared.kinds.Object.{Object}
use Rattle.reg_terms.specs.declared.kinds.Object.TheVariants.{Folder, Group, Def, Attr, Subject}
use Rattle.reg_terms.specs.declared.lists.LoadRow.{LoadRow}
use Rattle.reg_terms.specs.declared.refusal.Refusal.{Refusal}
use Rattle.reg_terms.specs.declared.refusal.Refusal.TheVariants.{NotFound, IsComposite, BadTable}
use Rattle.reg_terms.specs.declared.refusal.Refusal.TheVariants.{Failsafe, Full}
use Rattle.reg_terms.specs.declared.reply.LoadCounts.{LoadCounts}
use Rattle.reg_terms.specs.declared.rows.JobRow.{JobRow}
use Rattle.reg_facts.specs.Jobs.{job_by}
use Rattle.reg_facts.specs.Lists.{Lists}
use Rattle.reg_demand.specs.Refusing.{refused}
use Rattle.reg_loader.specs.Plan.{counts_of, is_composite_target, planned}
use Rattle.reg_loader.specs.Tables.{table_in}
use Rattle.reg_loader.specs.declared.plans.Plan.{Plan}
use Rattle.reg_loader.specs.declared.plans.PlanFault.{PlanFault}
use Rattle.reg_loader.specs.declared.plans.PlanFault.TheVariants as plan
use Rattle.reg_loader.specs.declared.tables.TableFault.{TableFault}
use Rattle.reg_loader.specs.declared.tables.TableFault.TheVariants as table
use Rattle.reg_loader.specs.declared.tables.TableRow.{TableRow}
use Rattle.reg_machine.specs.History.{facts}
use Rattle.reg_current.specs.Live.{live}
use Rattle.reg_machine.specs.Past.{present_name}
use Rattle.reg_machine.specs.Refusals.{refusal}

-- a refusal, or a command and what it does in numbers
abbrev pub Outcome : Type 0
Outcome = Result (Command × LoadCounts) Refusal

-- the command of a plan
abbrev pub command_of : List ℕ → Plan → Command
command_of job plan = Load job plan.created plan.removed plan.added

-- a command, unless something refuses it
abbrev pub unless_refused : Option Refusal → Command → LoadCounts → Outcome
unless_refused None command counts = Ok (command, counts)
unless_refused (Some reason) command counts = Err reason

-- what comes of a plan: its command, unless something refuses it
abbrev pub planned_outcome : List Stamped → ℕ → Entity → List ℕ → Plan → Outcome
planned_outcome history at by job p =
    unless_refused (refusal history at by (command_of job p)) (command_of job p) (counts_of p)

-- the refusal of a table with too many records, which has no plan
abbrev pub too_many : List Stamped → Refusal
too_many history =
    if nat_le max_history (length history) then Full (codes "history") max_history
    else Full (codes "record") max_records

-- a job is of many groups: those in a folder
abbrev pub is_list : Object → Bool
is_list (Folder d) = true
is_list (Group g) = false
is_list (Def a) = false
is_list (Attr a) = false
is_list (Subject s) = false

-- the same of a plan, or of why there is none; that there is no memory is never said of a plan
abbrev pub plan_outcome : List Stamped → ℕ → Entity → List ℕ → JobRow → Result Plan PlanFault
    → Outcome
plan_outcome history at by job row (Ok p) = planned_outcome history at by job p
plan_outcome history at by job row (Err (plan.Failsafe before removes)) =
    Err (Failsafe before removes)
plan_outcome history at by job row (Err plan.IsComposite) =
    Err (IsComposite (present_name row.target (facts history at)))
plan_outcome history at by job row (Err plan.NoMemory) = Err (too_many history)

-- what comes of a table's rows, or of the fault that it has; that there is no memory is never said
-- of a table
abbrev pub table_outcome : List Stamped → ℕ → Entity → List ℕ → JobRow
    → Result (List TableRow) TableFault → Outcome
table_outcome history at by job row (Ok rows) =
    plan_outcome history at by job row
    (planned (live at (facts history at)) row rows (facts history at))
table_outcome history at by job row (Err (table.Bad record_number)) = Err (BadTable record_number)
table_outcome history at by job row (Err table.TooMany) = Err (too_many history)
table_outcome history at by job row (Err table.NoMemory) = Err (too_many history)

-- what comes of the bytes of a table for a job that was found: its one group may be no composite
abbrev pub job_outcome : List Stamped → ℕ → Entity → List ℕ → List ℕ → Option JobRow → Outcome
job_outcome history at by job bytes None = Err (NotFound job)
job_outcome history at by job bytes (Some row) =
    if is_composite_target row.target (facts history at)
    then Err (IsComposite (present_name row.target (facts history at)))
    else table_outcome history at by job row (table_in (is_list row.target) bytes)

-- the same, unless the caller may not load by the job
abbrev pub barred_outcome : Option Refusal → Outcome → Outcome
barred_outcome None outcome = outcome
barred_outcome (Some reason) outcome = Err reason

-- what comes of a caller's request, after a history, at a moment, to load the bytes of a table by
-- the job of this name: what refuses each command of loads comes first
unfoldable pub load_outcome : List Stamped → ℕ → Entity → List ℕ → List ℕ → Outcome
load_outcome history at by job bytes =
    barred_outcome (refused (live at (facts history at)) (facts history at) by (Load job [] [] []))
    (job_outcome history at by job bytes (job_by job (facts history at).jobs))

-- ---- what can be done with it

-- a command that comes of it is refused by nothing, and its fields have their form
abbrev pub IsReady : List Stamped → ℕ → Entity → Outcome → Type 0
IsReady history at by (Err reason) = ⊤
IsReady history at by (Ok made) = (refusal history at by made.0 ≡ None) × (has_form made.0 ≡ true)

-- the groups of rows have names
abbrev pub AreGroupsNamed : List LoadRow → Type 0
AreGroupsNamed rows = AllByRecursion (λ (row : LoadRow). is_name row.group ≡ true) rows

-- a load lists no more names than groups may be made, no more rows that go than may stand, and no
-- more that come than a table may bring
abbrev pub ListsFew : List (List ℕ) → List LoadRow → List LoadRow → Type 0
ListsFew created removed added =
    (length created ≤ max_groups) × (length removed ≤ max_rows) × (length added ≤ max_records)
