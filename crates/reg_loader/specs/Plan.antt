-- What a load of a table would do to the persons in a job's groups.
use Rattle.std.specs.Prelude.{◌≡◌, ⊤, ℕ, ◌+◌, ◌-◌, ◌*◌, Bool, true, false, not, ◌&&◌, ◌==◌, List}
use Rattle.std.specs.Prelude.{[], ◌∷◌, map, filter, fold, length, get_or, nat_lt, nat_le, Option}
use Rattle.std.specs.Prelude.{Some, None, option_map, is_some, is_none, Result, Ok, Err}
use Rattle.std.specs.Prelude.{if◌then◌else◌}
use Rattle.std.specs.List.{filter_map, flat_map, list_any, position_or_len}
use Rattle.std.specs.Str.{bytes_eq}
use Rattle.indexmap.specs.IndexSet.{insert_key}
use Rattle.reg_terms.specs.declared.kinds.Member.TheVariants as member
use Rattle.reg_terms.specs.declared.kinds.Object.{Object}
use Rattle.reg_terms.specs.declared.kinds.Object.TheVariants.{Folder, Group, Def, Attr, Subject}
use Rattle.reg_terms.specs.declared.lists.LoadRow.{LoadRow}
use Rattle.reg_terms.specs.declared.reply.LoadCounts.{LoadCounts}
use Rattle.reg_terms.specs.declared.rows.GroupRow.{GroupRow}
use Rattle.reg_terms.specs.declared.rows.JobRow.{JobRow}
use Rattle.reg_terms.specs.declared.rows.MemberRow.{MemberRow}
use Rattle.reg_terms.specs.Rows.{is_composite}
use Rattle.reg_facts.specs.Lists.{Lists}
use Rattle.reg_facts.specs.Naming.{name_of}
use Rattle.reg_facts.specs.RowOrder.{rows_of}
use Rattle.reg_facts.specs.Rows.{subject_row}
use Rattle.reg_facts.specs.Sound.{has_group}
use Rattle.reg_effect.specs.declared.live.Live.{Live}
use Rattle.reg_rules.specs.Veto.{first_veto}
use Rattle.reg_loader.specs.Mentions.{group_text, mention, person_in}
use Rattle.reg_loader.specs.declared.mentions.Mention.{Mention}
use Rattle.reg_loader.specs.declared.mentions.Mention.TheVariants.{Bad, Standing, New}
use Rattle.reg_loader.specs.declared.plans.Plan.{Plan}
use Rattle.reg_loader.specs.declared.plans.PlanFault.{PlanFault}
use Rattle.reg_loader.specs.declared.plans.PlanFault.TheVariants.{IsComposite, Failsafe, NoMemory}
use Rattle.reg_loader.specs.declared.tables.TableRow.{TableRow}

-- each once, in the order of first mention
abbrev pub each_once : {A : Type 0} → (A → A → Bool) → List A → List A
each_once same xs = fold (insert_key same) [] xs

-- ---- what records name

-- a group by its id, or by the id that it gets when it is made, and a person by its id
abbrev pub Key : Type 0
Key = ℕ × ℕ

-- the same group and person
abbrev pub same_key : Key → Key → Bool
same_key a b = (a.0 == b.0) && (a.1 == b.1)

abbrev pub is_among : Key → List Key → Bool
is_among key keys = list_any (same_key key) keys

-- whether a record names no group of the job, and whether it names one that is to be made
abbrev pub is_bad : Mention → Bool
is_bad Bad = true
is_bad (Standing g) = false
is_bad New = false

abbrev pub is_new : Mention → Bool
is_new Bad = false
is_new (Standing g) = false
is_new New = true

-- the id of a group that a record names, where these names are made
abbrev pub number : List (List ℕ) → Mention → List ℕ → Lists → Option ℕ
number names Bad text f = None
number names (Standing g) text f = Some g
number names New text f = Some (f.made.groups + 1 + position_or_len (bytes_eq text) names)

-- how many records name no group of the job
abbrev pub bad_groups : Object → List TableRow → Lists → ℕ
bad_groups target rows f =
    length (filter (λ (row : TableRow). is_bad (mention target (group_text row) f)) rows)

-- whether a record names a group of the job, and no person that stands
abbrev pub is_unknown : JobRow → Lists → TableRow → Bool
is_unknown job f row =
    not (is_bad (mention job.target (group_text row) f)) && is_none (person_in job row f)

-- and how many do
abbrev pub unknowns : JobRow → List TableRow → Lists → ℕ
unknowns job rows f = length (filter (is_unknown job f) rows)

-- the names of the groups that are made: those that no object has
abbrev pub created : Object → List TableRow → Lists → List (List ℕ)
created target rows f =
    each_once bytes_eq (map group_text
    (filter (λ (row : TableRow). is_new (mention target (group_text row) f)) rows))

-- a group and a person, if there are both
abbrev pub keyed : Option ℕ → Option ℕ → Option Key
keyed None person = None
keyed (Some g) person = option_map (λ s. (g, s)) person

-- what a record names, where these names are made
abbrev pub key_of : List (List ℕ) → JobRow → Lists → TableRow → Option Key
key_of names job f row =
    keyed (number names (mention job.target (group_text row) f) (group_text row) f)
    (person_in job row f)

-- what the records name, record by record
abbrev pub named : JobRow → List TableRow → Lists → List Key
named job rows f = filter_map (key_of (created job.target rows f) job f) rows

-- and each once: these are wanted
abbrev pub wanted : JobRow → List TableRow → Lists → List Key
wanted job rows f = each_once same_key (named job rows f)

-- how many records name what a record before them names
abbrev pub repeats : JobRow → List TableRow → Lists → ℕ
repeats job rows f = length (named job rows f) - length (wanted job rows f)

-- ---- what stands

-- the groups of a job: its own, or all directly in its folder that aren't composite
abbrev pub job_groups : Object → Lists → List ℕ
job_groups (Group g) f = g ∷ []
job_groups (Folder d) f =
    map (λ (row : GroupRow). row.id) (filter (λ (row : GroupRow). (row.folder == d)
    && not (is_composite row.id f.composites)) f.groups)
job_groups (Def a) f = []
job_groups (Attr a) f = []
job_groups (Subject s) f = []

-- the person of a row of a group, if it names one
abbrev pub person_key : ℕ → MemberRow → Option Key
person_key g row = elim row.member [ member.Person s ↦ Some (g, s) | member.Group h ↦ None ]

-- the persons with an immediate membership of a group, by id
abbrev pub persons_in : Lists → ℕ → List Key
persons_in f g = filter_map (person_key g) (rows_of g f.rows)

-- and those of all groups of a job
abbrev pub standing : Object → Lists → List Key
standing target f = flat_map (persons_in f) (job_groups target f)

-- the group of a simple job stands; a list job has none of its own
abbrev pub GroupStands : Object → Lists → Type 0
GroupStands (Group g) f = has_group g f.groups ≡ true
GroupStands (Folder d) f = ⊤
GroupStands (Def a) f = ⊤
GroupStands (Attr a) f = ⊤
GroupStands (Subject s) f = ⊤

-- ---- what a load would do

-- a veto forbids the person in the group; there is none on a group that is to be made
abbrev pub is_forbidden : Live → Lists → Key → Bool
is_forbidden L f key =
    not (nat_lt f.made.groups key.0) && is_some (first_veto L key.0 key.1 f.rules)

-- a wanted pair that has no membership is vetoed, or added
abbrev pub is_vetoed : Live → List Key → Lists → Key → Bool
is_vetoed L there f key = not (is_among key there) && is_forbidden L f key

abbrev pub is_added : Live → List Key → Lists → Key → Bool
is_added L there f key = not (is_among key there) && not (is_forbidden L f key)

-- those that are wanted and have a membership
abbrev pub unchanged : List Key → List Key → List Key
unchanged there keys = filter (λ key. is_among key there) keys

-- those that have one and aren't wanted
abbrev pub removed : List Key → List Key → List Key
removed there keys = filter (λ key. not (is_among key keys)) there

abbrev pub vetoed : Live → List Key → Lists → List Key → List Key
vetoed L there f keys = filter (is_vetoed L there f) keys

abbrev pub added : Live → List Key → Lists → List Key → List Key
added L there f keys = filter (is_added L there f) keys

-- so many persons stand, and more of them go than the job lets
abbrev pub is_too_many : JobRow → ℕ → ℕ → Bool
is_too_many job before removes =
    nat_le job.min_size before && nat_lt (job.max_percent * before) (removes * 100)

-- the job's own group is a composite
abbrev pub is_composite_target : Object → Lists → Bool
is_composite_target (Group g) f = is_composite g f.composites
is_composite_target (Folder d) f = false
is_composite_target (Def a) f = false
is_composite_target (Attr a) f = false
is_composite_target (Subject s) f = false

-- ---- how it is told

-- the name of a group by its id, where these names are made
abbrev pub group_name : List (List ℕ) → Lists → ℕ → List ℕ
group_name names f g =
    if nat_lt f.made.groups g then get_or names (g - f.made.groups - 1) [] else name_of (Group g) f

-- the text of a person
abbrev pub text_of : Lists → ℕ → List ℕ
text_of f s = elim (subject_row s f.subjects) [ None ↦ [] | Some row ↦ row.text ]

-- a pair by its texts
abbrev pub shown : List (List ℕ) → Lists → Key → LoadRow
shown names f key = record { group = group_name names f key.0; person = text_of f key.1 }

-- what a load does
abbrev pub plan_of : Live → JobRow → List TableRow → Lists → Plan
plan_of L job rows f = record {
  created = created job.target rows f;
  removed = map (shown (created job.target rows f) f)
      (removed (standing job.target f) (wanted job rows f));
  added = map (shown (created job.target rows f) f)
      (added L (standing job.target f) f (wanted job rows f));
  unchanged = length (unchanged (standing job.target f) (wanted job rows f));
  unknown = unknowns job rows f;
  repeated = repeats job rows f;
  vetoed = length (vetoed L (standing job.target f) f (wanted job rows f));
  bad_group = bad_groups job.target rows f;
}

-- what it does and what the records of its table say, in numbers
abbrev pub counts_of : Plan → LoadCounts
counts_of plan = record {
  created = length plan.created;
  removed = length plan.removed;
  added = length plan.added;
  unchanged = plan.unchanged;
  unknown = plan.unknown;
  repeated = plan.repeated;
  vetoed = plan.vetoed;
  bad_group = plan.bad_group;
}

-- the plan, unless so many persons would go
abbrev pub plan_or : ℕ → ℕ → JobRow → Plan → Result Plan PlanFault
plan_or before removes job plan =
    if is_too_many job before removes then Err (Failsafe before removes) else Ok plan

-- what a load comes to
unfoldable pub planned : Live → JobRow → List TableRow → Lists → Result Plan PlanFault
planned L job rows f =
    if is_composite_target job.target f then Err IsComposite
    else plan_or (length (standing job.target f))
    (length (removed (standing job.target f) (wanted job rows f))) job (plan_of L job rows f)

-- a fault is this one, unless memory ran out
abbrev pub PlanFails : Result Plan PlanFault → PlanFault → Type 0
PlanFails said IsComposite = said ≡ Err IsComposite
PlanFails said (Failsafe before removes) = said ≡ Err (Failsafe before removes)
PlanFails said NoMemory = Unit {0}

-- an answer is this one, unless memory ran out
abbrev pub PlanAnswers : Result Plan PlanFault → Result Plan PlanFault → Type 0
PlanAnswers said (Ok plan) = said ≡ Ok plan
PlanAnswers said (Err fault) = PlanFails said fault
