-- A small load computed, and some that are refused.
use Rattle.std.proofs.Common.{◌≡◌, [], ◌∷◌, Some, None, codes, refl}
use Rattle.reg_base.specs.NameParts.{extension_of, folder_of}
use Rattle.reg_base.specs.declared.entity.Entity.TheVariants.{System}
use Rattle.reg_terms.specs.declared.event.Event.TheVariants.{GroupMade, RowAdded}
use Rattle.reg_terms.specs.declared.kinds.Member.TheVariants.{Person}
use Rattle.reg_terms.specs.declared.kinds.Object.TheVariants.{Folder}
use Rattle.reg_terms.specs.declared.rows.JobRow.{JobRow}
use Rattle.reg_terms.specs.declared.lists.LoadRow.{LoadRow}
use Rattle.reg_facts.specs.Lists.{Lists, root_row, start}
use Rattle.reg_facts.specs.Naming.{placed, resolve}
use Rattle.reg_facts.specs.Events.{load_events}
use Rattle.reg_load.specs.LoadChecks.{first_fault, load_checks}
use Rattle.reg_load.specs.declared.faults.LoadFault.TheVariants.{NotFound, WrongKind, Taken, Already, NoSuch}

-- the folder app, and ann
abbrev pub app : Lists
app = record start {
  folders = root_row ∷ (record { id = 1; parent = Some 0; extension = codes "app"; display = [] }) ∷ [];
  subjects = (record { id = 1; text = codes "uni/ann"; display = [] }) ∷ [];
  made = record start.made { folders = 1; subjects = 1 };
}

abbrev pub job : JobRow
job = record { id = 1; name = codes "nightly"; target = Folder 1; source = codes "uni"; min_size = 0; max_percent = 100 }

abbrev pub ann : LoadRow
ann = record { group = codes "app:x"; person = codes "uni/ann" }

pub ann_comes : load_events 7 System (codes "app:x" ∷ []) [] (ann ∷ []) app
    ≡ GroupMade (record { id = 1; folder = 1; extension = codes "x"; display = [] }) ∷ RowAdded (record { group = 1; member = Person 1; from = 7; until = None }) ∷ []
unfolding load_events resolve placed extension_of folder_of
ann_comes = refl

pub ann_may_come : first_fault (load_checks job (codes "app:x" ∷ []) [] (ann ∷ []) app) ≡ None
unfolding load_checks resolve placed extension_of folder_of
ann_may_come = refl

-- what is refused: an unknown person, a name outside the folder, a name twice, a row twice, a row that doesn't stand
pub bob_unknown : first_fault (load_checks job (codes "app:x" ∷ []) [] (record ann { person = codes "uni/bob" } ∷ []) app) ≡ Some (NotFound (codes "uni/bob"))
unfolding load_checks resolve placed extension_of folder_of
bob_unknown = refl

pub outside : first_fault (load_checks job (codes "app:x" ∷ codes "y" ∷ []) [] [] app) ≡ Some WrongKind
unfolding load_checks resolve placed extension_of folder_of
outside = refl

pub name_twice : first_fault (load_checks job (codes "app:x" ∷ codes "app:x" ∷ []) [] (ann ∷ []) app) ≡ Some (Taken (codes "app:x"))
unfolding load_checks resolve placed extension_of folder_of
name_twice = refl

pub row_twice : first_fault (load_checks job (codes "app:x" ∷ []) [] (ann ∷ ann ∷ []) app) ≡ Some Already
unfolding load_checks resolve placed extension_of folder_of
row_twice = refl

pub none_to_remove : first_fault (load_checks job (codes "app:x" ∷ []) (ann ∷ []) [] app) ≡ Some NoSuch
unfolding load_checks resolve placed extension_of folder_of
none_to_remove = refl
