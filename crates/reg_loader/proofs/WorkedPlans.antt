-- Worked plans, computed from the definitions.
use Rattle.std.proofs.Common.{◌≡◌, ℕ, List, [], ◌∷◌, Some, None, Ok, Err, codes, refl}
use Rattle.reg_base.specs.NameParts.{extension_of, folder_of}
use Rattle.reg_terms.specs.declared.kinds.Member.TheVariants as member
use Rattle.reg_terms.specs.declared.kinds.Object.TheVariants.{Folder, Group}
use Rattle.reg_terms.specs.declared.kinds.RuleForm.TheVariants.{Veto}
use Rattle.reg_terms.specs.declared.lists.LoadRow.{LoadRow}
use Rattle.reg_terms.specs.declared.rows.GroupRow.{GroupRow}
use Rattle.reg_terms.specs.declared.rows.JobRow.{JobRow}
use Rattle.reg_terms.specs.declared.rows.MemberRow.{MemberRow}
use Rattle.reg_terms.specs.declared.rows.SubjectRow.{SubjectRow}
use Rattle.reg_facts.specs.Lists.{Lists, none_made, start}
use Rattle.reg_facts.specs.Naming.{extensions, name_of, path, placed, resolve}
use Rattle.reg_facts.specs.RowOrder.{rows_of}
use Rattle.reg_effect.specs.Member.{member}
use Rattle.reg_rules.specs.Live.{live}
use Rattle.reg_loader.specs.declared.plans.PlanFault.TheVariants.{Failsafe}
use Rattle.reg_loader.specs.declared.tables.TableRow.{TableRow}
use Rattle.reg_loader.specs.Mentions.{mention, person_in}
use Rattle.reg_loader.specs.Plan.{planned}

subject : ℕ → List ℕ → SubjectRow
subject id text = record { id = id; text = text; display = [] }

group : ℕ → List ℕ → GroupRow
group id extension = record { id = id; folder = 0; extension = extension; display = [] }

row : ℕ → ℕ → MemberRow
row g s = record { group = g; member = member.Person s; from = 0; until = None }

record_of : List ℕ → TableRow
record_of id = record { group = None; source = None; id = id }

job_on : ℕ → ℕ → JobRow
job_on least most = record { id = 1; name = codes "j"; target = Group 1; source = codes "uni"; min_size = least; max_percent = most }

-- the groups g and cleared; ann and bob are in cleared, and who isn't is vetoed in g
pub vetoed_facts : Lists
vetoed_facts = record start {
  groups = group 1 (codes "g") ∷ group 2 (codes "cleared") ∷ [];
  subjects = subject 1 (codes "uni/ann") ∷ subject 2 (codes "uni/bob") ∷ subject 3 (codes "uni/cid") ∷ [];
  rows = row 2 1 ∷ row 2 2 ∷ [];
  rules = (record { id = 1; form = Veto 1 2 }) ∷ [];
  made = record none_made { groups = 2; subjects = 3; rules = 1 };
}

pub vetoed_table : List TableRow
vetoed_table = record_of (codes "ann") ∷ record_of (codes "ann") ∷ record_of (codes "zed") ∷ record_of (codes "cid") ∷ record_of (codes "bob") ∷ []

pair : List ℕ → List ℕ → LoadRow
pair g p = record { group = g; person = p }

two_added : planned (live 0 vetoed_facts) (job_on 0 100) vetoed_table vetoed_facts ≡ Ok (record {
  created = [];
  removed = [];
  added = pair (codes "g") (codes "uni/ann") ∷ pair (codes "g") (codes "uni/bob") ∷ [];
  unchanged = 0;
  unknown = 1;
  repeated = 1;
  vetoed = 1;
  bad_group = 0;
})
unfolding planned mention person_in rows_of member name_of extensions placed path subject group row record_of job_on vetoed_facts vetoed_table pair
two_added = refl

-- four persons in g
pub four_facts : Lists
four_facts = record start {
  groups = group 1 (codes "g") ∷ [];
  subjects = subject 1 (codes "uni/p1") ∷ subject 2 (codes "uni/p2") ∷ subject 3 (codes "uni/p3") ∷ subject 4 (codes "uni/p4") ∷ [];
  rows = row 1 4 ∷ row 1 3 ∷ row 1 2 ∷ row 1 1 ∷ [];
  made = record none_made { groups = 1; subjects = 4 };
}

too_many_go : planned (live 0 four_facts) (job_on 4 50) (record_of (codes "p1") ∷ []) four_facts ≡ Err (Failsafe 4 3)
unfolding planned mention person_in rows_of member name_of extensions placed path subject group row record_of job_on four_facts
too_many_go = refl

half_go : planned (live 0 four_facts) (job_on 4 50) (record_of (codes "p1") ∷ record_of (codes "p2") ∷ []) four_facts ≡ Ok (record {
  created = [];
  removed = pair (codes "g") (codes "uni/p3") ∷ pair (codes "g") (codes "uni/p4") ∷ [];
  added = [];
  unchanged = 2;
  unknown = 0;
  repeated = 0;
  vetoed = 0;
  bad_group = 0;
})
unfolding planned mention person_in rows_of member name_of extensions placed path subject group row record_of job_on four_facts pair
half_go = refl

-- a list job of the root folder: a name that nothing has, twice, of which one record's person doesn't stand; a name in no
-- folder, and one that isn't a name
list_record : List ℕ → List ℕ → TableRow
list_record g id = record { group = Some g; source = None; id = id }

list_job : JobRow
list_job = record { id = 1; name = codes "j"; target = Folder 0; source = codes "uni"; min_size = 0; max_percent = 100 }

one_made : planned (live 0 four_facts) list_job (list_record (codes "new") (codes "zed") ∷ list_record (codes "new") (codes "p4") ∷ list_record (codes "g") (codes "p4") ∷ list_record (codes "a:new") (codes "p1") ∷ list_record [] (codes "p1") ∷ []) four_facts ≡ Ok (record {
  created = codes "new" ∷ [];
  removed = pair (codes "g") (codes "uni/p1") ∷ pair (codes "g") (codes "uni/p2") ∷ pair (codes "g") (codes "uni/p3") ∷ [];
  added = pair (codes "new") (codes "uni/p4") ∷ [];
  unchanged = 1;
  unknown = 1;
  repeated = 0;
  vetoed = 0;
  bad_group = 2;
})
unfolding planned mention person_in rows_of member name_of extensions placed path resolve folder_of extension_of subject group row list_record list_job four_facts pair
one_made = refl
