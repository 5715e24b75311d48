-- A load that has a plan is refused for want of room alone.
use Rattle.std.proofs.Common.{◌≡◌, ◌∙◌, ℕ, List, [], ◌∷◌, map, Bool, true, false, not, Option, None, Some, if◌then◌else◌, refl, sym, ap, subst, inl, inr}
use Rattle.std.specs.List.{AllByRecursion}
use Rattle.std.specs.Prelude.{◌&&◌, ⊤, nat_le, nat_lt, is_some, length, Ok, Err}
use Rattle.std.proofs.lemmas.Bool.{cases_Bool}
use Rattle.reg_base.specs.declared.entity.Entity.{Entity}
use Rattle.reg_terms.specs.Limits.{max_history}
use Rattle.reg_terms.specs.declared.command.Command.{Command}
use Rattle.reg_terms.specs.declared.command.Command.TheVariants.{Load}
use Rattle.reg_terms.specs.declared.command.Stamped.{Stamped}
use Rattle.reg_terms.specs.declared.lists.LoadRow.{LoadRow}
use Rattle.reg_terms.specs.declared.refusal.Refusal.{Refusal}
use Rattle.reg_terms.specs.declared.reply.LoadCounts.{LoadCounts}
use Rattle.reg_terms.specs.declared.reply.Reply.{Reply}
use Rattle.reg_terms.specs.declared.reply.Reply.TheVariants as reply
use Rattle.reg_terms.specs.declared.request.Op.{Op}
use Rattle.reg_terms.specs.declared.request.Op.TheVariants as op
use Rattle.reg_terms.specs.declared.rows.JobRow.{JobRow}
use Rattle.reg_facts.specs.Jobs.{AreJobs, job_by}
use Rattle.reg_facts.specs.Lists.{Lists}
use Rattle.reg_facts.specs.Named.{AreNamed}
use Rattle.reg_facts.specs.Sound.{IsHeld, IsSound}
use Rattle.reg_effect.specs.declared.live.Live.{Live}
use Rattle.reg_priv.specs.May.{who_of}
use Rattle.reg_priv.specs.declared.who.Who.{Who}
use Rattle.reg_demand.specs.Refusing.{refused, refused_as}
use Rattle.reg_load.specs.LoadChecks.{added_rows, first_fault, load_checks, room_checks}
use Rattle.reg_load.specs.declared.faults.LoadFault.{LoadFault}
use Rattle.reg_load.specs.declared.faults.LoadFault.TheVariants as fault
use Rattle.reg_loader.specs.Plan.{GroupStands, Key, is_composite_target, is_forbidden, planned}
use Rattle.reg_loader.specs.declared.plans.Plan.{Plan}
use Rattle.reg_loader.specs.declared.tables.TableRow.{TableRow}
use Rattle.reg_current.specs.Live.{live}
use Rattle.reg_machine.specs.Checks.{checks, load_room_checks, row_veto, rows_veto}
use Rattle.reg_machine.specs.History.{State, facts}
use Rattle.reg_machine.specs.Loads.{Outcome, command_of, load_outcome, planned_outcome, unless_refused}
use Rattle.reg_machine.specs.Refusals.{first_of, refusal}
use Rattle.reg_machine.proofs.JobTargets.{target_stands}
use Rattle.reg_service.specs.Loads.{HasPlan, IsForRoom, IsRefusedForRoom, LoadsIfRoom}
use Rattle.reg_service.specs.Turn.{Carries, load_ordered, loaded}
use Rattle.reg_service.specs.declared.service.Cause.TheVariants as cause
use Rattle.reg_service.specs.declared.service.Next.{Next}
use Rattle.reg_service.specs.declared.service.Next.TheVariants as next
use Rattle.reg_service.proofs.LoadKeys.{row_of}
use Rattle.reg_service.proofs.LoadsPass.{checks_pass, coming, coming_are, coming_free, planned_is}

-- ---- no rule forbids what comes

veto_none : (b : Bool) (o : Option ℕ) → (not b && is_some o) ≡ false → (if b then None else o) ≡ None
veto_none true o h = refl
veto_none false None h = refl
veto_none false (Some n) h = cc h

no_veto : (L : Live) (f : Lists) (keys : List Key) → AllByRecursion (λ (key : Key). is_forbidden L f key ≡ false) keys → rows_veto L f (map row_of keys) ≡ None
no_veto L f [] h = refl
no_veto L f (key ∷ keys) h =
    let none : row_veto L f (row_of key) ≡ None = veto_none (nat_lt f.made.groups key.0) _ h.0 in
    rw (none, no_veto L f keys h.1) refl

-- what was planned passes each test, and no rule forbids it
record Passes (L : Live) (job : JobRow) (p : Plan) (f : Lists) : Type 0 where
  plain : is_composite_target job.target f ≡ false
  checks : first_fault (load_checks job p.created p.removed p.added f) ≡ None
  vetoes : rows_veto L f (added_rows job p.created f p.added) ≡ None

planned_passes : (L : Live) (job : JobRow) (rows : List TableRow) (f : Lists) (p : Plan) → IsSound f → IsHeld f → AreNamed f → GroupStands job.target f → planned L job rows f ≡ Ok p → Passes L job p f
planned_passes L job rows f p sound held named there h =
    let w = planned_is L job rows f p h in
    subst (λ (q : Plan). Passes L job q f) w.1 (record {
      plain = w.0;
      checks = checks_pass L job rows f sound held named there w.0;
      vetoes = ap (rows_veto L f) (coming_are L job rows f sound held named there) ∙ no_veto L f (coming L job rows f sound held named there) (coming_free L job rows f sound held named there);
    })

-- ---- what is left is want of room

-- a fault is none but want of room
IsRoom : Option LoadFault → Type 0
IsRoom None = ⊤
IsRoom (Some fault.FullGroup) = ⊤
IsRoom (Some fault.FullRow) = ⊤
IsRoom (Some fault.FullGrant) = ⊤
IsRoom (Some fault.FullRecord) = ⊤
IsRoom (Some (fault.NotFound object)) = ⊥
IsRoom (Some fault.WrongKind) = ⊥
IsRoom (Some (fault.Taken object)) = ⊥
IsRoom (Some fault.Already) = ⊥
IsRoom (Some fault.NoSuch) = ⊥
IsRoom (Some fault.IsComposite) = ⊥

-- of four tests for room
four_rooms : (a b c d : Bool) → IsRoom (first_fault ((a, fault.FullGroup) ∷ (b, fault.FullRow) ∷ (c, fault.FullGrant) ∷ (d, fault.FullRecord) ∷ []))
unfolding IsRoom
four_rooms true b c d = tt
four_rooms false true c d = tt
four_rooms false false true d = tt
four_rooms false false false true = tt
four_rooms false false false false = tt

rooms : (by : Entity) (created : List (List ℕ)) (removed added : List LoadRow) (f : Lists) → IsRoom (first_fault (room_checks by created removed added f))
unfolding room_checks
rooms by created removed added f = four_rooms _ _ _ _

is_by : (a r : Refusal) → IsForRoom a → Some a ≡ Some r → IsForRoom r
is_by a r is h = let same : a ≡ r = cc h in subst (λ (x : Refusal). IsForRoom x) same is

room_full : (history : List Stamped) (job : JobRow) (f : Lists) (room : Option LoadFault) (r : Refusal) → IsRoom room → first_of (load_room_checks history job f room) ≡ Some r → IsForRoom r
unfolding IsRoom
room_full history job f None r is h = elim (cases_Bool (nat_le max_history (length history))) [
  | inl t ↦ is_by _ r tt (rw t at h)
  | inr t ↦ let clash : None ≡ Some r = rw t at h in cc clash
]
room_full history job f (Some fault.FullGroup) r is h = is_by _ r tt h
room_full history job f (Some fault.FullRow) r is h = is_by _ r tt h
room_full history job f (Some fault.FullGrant) r is h = is_by _ r tt h
room_full history job f (Some fault.FullRecord) r is h = elim (cases_Bool (nat_le max_history (length history))) [
  | inl t ↦ is_by _ r tt (rw t at h)
  | inr t ↦ is_by _ r tt (rw t at h)
]
room_full history job f (Some (fault.NotFound object)) r is h = absurd is
room_full history job f (Some fault.WrongKind) r is h = absurd is
room_full history job f (Some (fault.Taken object)) r is h = absurd is
room_full history job f (Some fault.Already) r is h = absurd is
room_full history job f (Some fault.NoSuch) r is h = absurd is
room_full history job f (Some fault.IsComposite) r is h = absurd is

-- what bars a load doesn't depend on its rows
same_refused : (w : Option Who) (L : Live) (f : Lists) (by : Entity) (job : List ℕ) (created : List (List ℕ)) (removed added : List LoadRow) → refused_as w L f by (Load job [] [] []) ≡ refused_as w L f by (Load job created removed added)
same_refused None L f by job created removed added = refl
same_refused (Some c) L f by job created removed added = refl

plan_full : (history : List Stamped) (at : ℕ) (by : Entity) (job : List ℕ) (row : JobRow) (p : Plan) (r : Refusal) → job_by job (facts history at).jobs ≡ Some row → refused (live at (facts history at)) (facts history at) by (Load job [] [] []) ≡ None
    → Passes (live at (facts history at)) row p (facts history at) → refusal history at by (command_of job p) ≡ Some r → IsForRoom r
unfolding refusal checks
plan_full history at by job row p r found free w h =
    let f = facts history at in
    let none : refused (live at f) f by (command_of job p) ≡ None = sym (same_refused (who_of by f) (live at f) f by job p.created p.removed p.added) ∙ free in
    let left : first_of (load_room_checks history row f (first_fault (room_checks by p.created p.removed p.added f))) ≡ Some r = rw (none, found, w.checks, w.vetoes) at h in
    room_full history row f (first_fault (room_checks by p.created p.removed p.added f)) r (rooms by p.created p.removed p.added f) left

unless_is : (why : Option Refusal) (command : Command) (counts : LoadCounts) (r : Refusal) → unless_refused why command counts ≡ Err r → why ≡ Some r
unless_is None command counts r h = cc h
unless_is (Some x) command counts r h = let same : x ≡ r = cc h in ap Some same

outcome_full : (history : List Stamped) (at : ℕ) (by : Entity) (job table : List ℕ) (r : Refusal) → IsSound (facts history at) → IsHeld (facts history at) → AreNamed (facts history at)
    → ((name : List ℕ) (row : JobRow) → job_by name (facts history at).jobs ≡ Some row → GroupStands row.target (facts history at))
    → refused (live at (facts history at)) (facts history at) by (Load job [] [] []) ≡ None → HasPlan at job table (facts history at) → load_outcome history at by job table ≡ Err r → IsForRoom r
unfolding load_outcome
outcome_full history at by job table r sound held named there free has h =
    let f = facts history at in
    let w : Passes (live at f) has.row has.plan f = planned_passes (live at f) has.row has.rows f has.plan sound held named (there job has.row has.found) has.made in
    let left : planned_outcome history at by job has.plan ≡ Err r = rw (free, has.found, w.plain, has.read, has.made) at h in
    plan_full history at by job has.row has.plan r has.found free w (unless_is _ _ _ r left)

-- ---- the reply to a load

refused_as_told : (s : State) (by : Entity) (o : Outcome) (r : Refusal) → (loaded s by o).0 ≡ reply.Refused r → o ≡ Err r
refused_as_told s by (Ok made) r h = cc h
refused_as_told s by (Err x) r h = let same : x ≡ r = cc h in ap Err same

pub ordered_full : (s : State) (by : Entity) (job table : List ℕ) → IsSound (facts s.history s.clock) → IsHeld (facts s.history s.clock) → AreNamed (facts s.history s.clock) → AreJobs (facts s.history s.clock) → IsRefusedForRoom s.history s.clock by job table (load_ordered s (Some by) job table).0
ordered_full s by job table sound held named jobs free has r h =
    outcome_full s.history s.clock by job table r sound held named (λ name row found. target_stands (facts s.history s.clock) name row jobs found) free has (refused_as_told s by (load_outcome s.history s.clock by job table) r h)

-- and so is what a service tells
pub told_full : {K : Type 0} (s : State) (by : Option Entity) (e : Entity) (job table : List ℕ) (told : Reply) (n : Next K) → Carries s (load_ordered s by job table) (told, n) → by ≡ Some e → IsRefusedForRoom s.history s.clock e job table (load_ordered s (Some e) job table).0 → IsRefusedForRoom s.history s.clock e job table told
told_full s by e job table told (next.Go after) (inl is) who law free has r h = law free has r (sym (ap (λ (o : Option Entity). (load_ordered s o job table).0) who) ∙ (sym (ap (λ (p : Reply × State). p.0) is) ∙ h))
told_full s by e job table told (next.Go after) (inr w) who law free has r h = let clash : reply.NoMemory ≡ reply.Refused r = sym w.0 ∙ h in cc clash
told_full s by e job table told (next.Stop cause.Memory keeper) is who law free has r h = let clash : reply.NoMemory ≡ reply.Refused r = sym is ∙ h in cc clash
told_full s by e job table told (next.Stop cause.Disk keeper) is who law free has r h = let clash : reply.KeepFault ≡ reply.Refused r = sym is ∙ h in cc clash

-- want of memory is no refusal
pub unanswered : (s : State) (by : List ℕ) (o : Op) → LoadsIfRoom s by o reply.NoMemory
unanswered s by (op.Command command) = tt
unanswered s by (op.Query query) = tt
unanswered s by (op.Load job table) = λ e who free has r h. cc h
