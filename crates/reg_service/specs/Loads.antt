-- Why a load of a table that has a plan may be refused.
use Rattle.std.specs.Prelude.{◌≡◌, ⊤, ℕ, List, [], Some, None, Ok}
use Rattle.reg_base.specs.Entities.{entity_of}
use Rattle.reg_base.specs.declared.entity.Entity.{Entity}
use Rattle.reg_terms.specs.declared.command.Command.TheVariants.{Load}
use Rattle.reg_terms.specs.declared.command.Stamped.{Stamped}
use Rattle.reg_terms.specs.declared.refusal.Refusal.{Refusal}
use Rattle.reg_terms.specs.declared.refusal.Refusal.TheVariants.{Full}
use Rattle.reg_terms.specs.declared.reply.Reply.{Reply}
use Rattle.reg_terms.specs.declared.reply.Reply.TheVariants as reply
use Rattle.reg_terms.specs.declared.request.Op.{Op}
use Rattle.reg_terms.specs.declared.request.Op.TheVariants as op
use Rattle.reg_terms.specs.declared.rows.JobRow.{JobRow}
use Rattle.reg_facts.specs.Jobs.{job_by}
use Rattle.reg_facts.specs.Lists.{Lists}
use Rattle.reg_demand.specs.Refusing.{refused}
use Rattle.reg_loader.specs.Plan.{planned}
use Rattle.reg_loader.specs.Tables.{table_in}
use Rattle.reg_loader.specs.declared.plans.Plan.{Plan}
use Rattle.reg_loader.specs.declared.tables.TableRow.{TableRow}
use Rattle.reg_current.specs.Live.{live}
use Rattle.reg_machine.specs.History.{State, facts}
use Rattle.reg_machine.specs.Loads.{is_list}

-- the bytes of a table have a plan by the job of this name, at a moment
pub record HasPlan (at : ℕ) (job table : List ℕ) (f : Lists) : Type 0 where
  pub row : JobRow
  pub found : job_by job f.jobs ≡ Some row
  pub rows : List TableRow
  pub read : table_in (is_list row.target) table ≡ Ok rows
  pub plan : Plan
  pub made : planned (live at f) row rows f ≡ Ok plan

-- whether a refusal is for want of room
abbrev pub IsForRoom : Refusal → Type 0
IsForRoom (Full kind limit) = ⊤
IsForRoom _ = ⊥

-- the load of an entity that may load by the job, of a table that has a plan, is refused for want
-- of room alone: each group that it makes is new, each row that it adds is new and no rule forbids
-- it, and each row that it removes stands
abbrev pub IsRefusedForRoom : List Stamped → ℕ → Entity → List ℕ → List ℕ → Reply → Type 0
IsRefusedForRoom history at by job table told =
    refused (live at (facts history at)) (facts history at) by (Load job [] [] []) ≡ None
    → HasPlan at job table (facts history at) → (r : Refusal) → told ≡ reply.Refused r
    → IsForRoom r

-- the same of what is asked at the clock, if it is a load
abbrev pub LoadsIfRoom : State → List ℕ → Op → Reply → Type 0
LoadsIfRoom s by (op.Command command) told = ⊤
LoadsIfRoom s by (op.Query query) told = ⊤
LoadsIfRoom s by (op.Load job table) told =
    (e : Entity) → entity_of by ≡ Some e → IsRefusedForRoom s.history s.clock e job table told
