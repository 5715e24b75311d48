-- Worked examples computed: the most steps of a membership that begins, of one that ends below a complement, and of one that ends where two rules follow; and what refuses a loader job, a target of one to be deleted, and a load.
use Rattle.std.proofs.Common.{◌≡◌, ◌++◌, ℕ, [], ◌∷◌, Some, None, codes, refl}
use Rattle.reg_base.specs.NameParts.{extension_of, folder_of}
use Rattle.reg_base.specs.declared.entity.Entity.TheVariants.{System}
use Rattle.reg_terms.specs.declared.event.Event.TheVariants.{RowRemoved}
use Rattle.reg_terms.specs.declared.kinds.Member.{Member}
use Rattle.reg_terms.specs.declared.kinds.Member.TheVariants.{Person, Group}
use Rattle.reg_terms.specs.declared.kinds.Object.TheVariants as object
use Rattle.reg_terms.specs.declared.kinds.RuleForm.TheVariants.{RemoveLost, Veto}
use Rattle.reg_terms.specs.declared.kinds.SetOp.TheVariants.{Complement}
use Rattle.reg_terms.specs.declared.refusal.Refusal.TheVariants.{Full, InUse, Taken, Vetoed, WrongKind}
use Rattle.reg_terms.specs.declared.rows.MemberRow.{MemberRow}
use Rattle.reg_facts.specs.Lists.{Lists, start}
use Rattle.reg_facts.specs.Naming.{placed, resolve}
use Rattle.reg_graph.specs.Edges.{reaches}
use Rattle.reg_effect.specs.declared.live.Change.TheVariants.{RowOn, RowOff}
use Rattle.reg_effect.specs.Bound.{most_steps, most_steps_of}
use Rattle.reg_effect.specs.Deltas.{ended}
use Rattle.reg_effect.specs.Edges.{edges}
use Rattle.reg_effect.specs.Member.{member}
use Rattle.reg_rules.specs.Settling.{settling}
use Rattle.reg_load.specs.LoadChecks.{load_checks}
use Rattle.reg_machine.specs.Checks.{all_load_checks, folder_delete_checks, group_delete_checks, job_list_checks, job_simple_checks}
use Rattle.reg_current.specs.Invariant.{Now}
use Rattle.reg_current.specs.Live.{live}
use Rattle.reg_machine.specs.Recording.{carried_steps}
use Rattle.reg_machine.specs.Refusals.{first_of}
use Rattle.reg_current.specs.Steps.{changes_of}

-- an immediate membership since the moment 5
row : ℕ → Member → MemberRow
row group m = record { group = group; member = m; from = 5; until = None }

-- a person comes into a group with nothing above it
pub one_comes : most_steps_of (RowOn 1 (Person 1) ∷ []) (live 7 start) ≡ 5
unfolding most_steps most_steps_of member edges
one_comes = refl

-- a (1) is in b (2), and ann (1) in a and d (4); c (3) is who is in b and not in d
pub below_a_complement : Lists
below_a_complement = record start {
  rows = row 2 (Group 1) ∷ row 1 (Person 1) ∷ row 4 (Person 1) ∷ [];
  composites = (record { group = 3; op = Complement; left = 2; right = 4 }) ∷ [];
}

pub one_leaves_below_a_complement : most_steps_of (RowOff 4 (Person 1) ∷ []) (live 7 below_a_complement) ≡ 9
unfolding row below_a_complement most_steps most_steps_of member edges reaches
one_leaves_below_a_complement = refl

-- who leaves staff (1) leaves vpn (2), and who leaves vpn leaves lab (3); ann (1) is in all three
pub in_three : Lists
in_three = record start {
  rows = row 1 (Person 1) ∷ row 2 (Person 1) ∷ row 3 (Person 1) ∷ [];
  rules = (record { id = 1; form = RemoveLost 1 2 }) ∷ (record { id = 2; form = RemoveLost 2 3 }) ∷ [];
}

pub one_leaves_and_two_rules_follow : carried_steps (record { clock = 7; facts = in_three }) (RowRemoved 1 (Person 1) ∷ []) ≡ 15
unfolding row in_three most_steps most_steps_of changes_of settling ended member edges
one_leaves_and_two_rules_follow = refl

-- the loader job nightly (1) of the group staff (1), and weekly (2) of the groups in the folder app (1)
pub loaded : Lists
loaded = record start {
  folders = start.folders ++ (record { id = 1; parent = Some 0; extension = codes "app"; display = [] }) ∷ [];
  groups = (record { id = 1; folder = 0; extension = codes "staff"; display = [] }) ∷ [];
  jobs =
      (record { id = 1; name = codes "nightly"; target = object.Group 1; source = codes "isa"; min_size = 1; max_percent = 20 })
      ∷ (record { id = 2; name = codes "weekly"; target = object.Folder 1; source = codes "isa"; min_size = 1; max_percent = 20 })
      ∷ [];
}

pub group_is_a_target : first_of (group_delete_checks [] loaded (codes "staff")) ≡ Some (InUse (codes "job"))
unfolding loaded resolve placed
group_is_a_target = refl

pub folder_is_a_target : first_of (folder_delete_checks [] loaded (codes "app")) ≡ Some (InUse (codes "job"))
unfolding loaded resolve placed
folder_is_a_target = refl

pub job_is_taken : first_of (job_simple_checks [] loaded (codes "weekly") (codes "staff")) ≡ Some (Taken (codes "weekly"))
unfolding loaded resolve placed
job_is_taken = refl

-- jobs that are gone count as those that stand
pub jobs_ever_made_count : first_of (job_list_checks [] (record start { made = record start.made { jobs = 1000 } }) (codes "nightly") (codes ":")) ≡ Some (Full (codes "job") 1000)
unfolding resolve placed
jobs_ever_made_count = refl

-- ann (1) can't be loaded into staff, where a veto (3) wants her in cleared (2)
pub guarded : Lists
guarded = record loaded {
  groups = loaded.groups ++ (record { id = 2; folder = 0; extension = codes "cleared"; display = [] }) ∷ [];
  subjects = (record { id = 1; text = codes "uni/ann"; display = [] }) ∷ [];
  rules = (record { id = 3; form = Veto 1 2 }) ∷ [];
  made = record start.made { groups = 2; subjects = 1; rules = 3; jobs = 2 };
}

pub load_is_vetoed : first_of (all_load_checks [] 7 guarded System (codes "nightly") [] [] (record { group = codes "staff"; person = codes "uni/ann" } ∷ [])) ≡ Some (Vetoed 3)
unfolding loaded guarded load_checks resolve placed member
load_is_vetoed = refl

-- nor may a job of one group make another
pub one_group_alone : first_of (all_load_checks [] 7 guarded System (codes "nightly") (codes "app:new" ∷ []) [] []) ≡ Some (WrongKind (codes "created"))
unfolding loaded guarded load_checks resolve placed extension_of folder_of
one_group_alone = refl
