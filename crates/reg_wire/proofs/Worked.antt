-- Payloads of a load, of grants and of a union worked by hand, byte by byte, of a load and of a grant in both formats.
use Rattle.std.proofs.Common.{◌≡◌, ℕ, List, [], ◌∷◌, ◌++◌, codes, Some, None, refl}
use Rattle.reg_base.specs.declared.entity.Entity.TheVariants.{Person, System}
use Rattle.reg_base.specs.declared.privilege.Privilege.TheVariants.{Create}
use Rattle.reg_terms.specs.declared.command.Command.TheVariants.{CompositeSet, GrantAdd, Load}
use Rattle.reg_terms.specs.declared.command.Stamped.{Stamped}
use Rattle.reg_terms.specs.declared.kinds.SetOp.TheVariants.{Union}
use Rattle.reg_terms.specs.declared.lists.LoadRow.{LoadRow}
use Rattle.reg_wire.specs.Payload.{fields_bytes, command_bytes, payload}
use Rattle.reg_wire.specs.OldPayload.{old_command_bytes, old_payload}

row : List ℕ → List ℕ → LoadRow
row group person = record { group = group; person = person }

-- the job nightly makes app:x, takes bob out of app:y, and adds ann to app:x, on the first of September 2025
load : Stamped
load = record {
  at = 1756684800000000;
  by = System;
  key = None;
  command = Load (codes "nightly") (codes "app:x" ∷ []) (row (codes "app:y") (codes "uni/bob") ∷ []) (row (codes "app:x") (codes "uni/ann") ∷ row (codes "app:y") (codes "uni/ann") ∷ []);
}

-- the moment and who gave the command
stamp : List ℕ
stamp = 0 ∷ 128 ∷ 124 ∷ 13 ∷ 178 ∷ 61 ∷ 6 ∷ 0 ∷ 19 ∷ 0 ∷ codes "g:isa/GrouperSystem"

-- the code and the job
job : List ℕ
job = 35 ∷ 7 ∷ 0 ∷ codes "nightly"

-- the lists, each behind its count
created : List ℕ
created = 1 ∷ 0 ∷ 0 ∷ 0 ∷ 5 ∷ 0 ∷ codes "app:x"

removed : List ℕ
removed = 1 ∷ 0 ∷ 0 ∷ 0 ∷ 5 ∷ 0 ∷ codes "app:y" ++ 7 ∷ 0 ∷ codes "uni/bob"

added : List ℕ
added = 2 ∷ 0 ∷ 0 ∷ 0 ∷ 5 ∷ 0 ∷ codes "app:x" ++ 7 ∷ 0 ∷ codes "uni/ann" ++ 5 ∷ 0 ∷ codes "app:y" ++ 7 ∷ 0 ∷ codes "uni/ann"

load_written : payload load ≡ stamp ++ 0 ∷ job ++ created ++ removed ++ added
unfolding payload command_bytes fields_bytes load row stamp job created removed added
load_written = refl

load_in_format_1 : old_payload load ≡ stamp ++ job ++ created ++ removed ++ added
unfolding old_payload old_command_bytes load row stamp job created removed added
load_in_format_1 = refl

-- ann may make what is in the folder app, from the same moment on
grant : Stamped
grant = record {
  at = 1756684800000000;
  by = System;
  key = None;
  command = GrantAdd (codes "app") Create (Person (codes "uni/ann")) None None;
}

-- the code, the folder, the privilege and its holder
given : List ℕ
given = 15 ∷ 3 ∷ 0 ∷ codes "app" ++ 10 ∷ 7 ∷ 0 ∷ codes "uni/ann"

-- no key, and two dates that are left out
grant_written : payload grant ≡ stamp ++ 0 ∷ given ++ 0 ∷ 0 ∷ []
unfolding payload command_bytes fields_bytes grant stamp given
grant_written = refl

grant_in_format_1 : old_payload grant ≡ stamp ++ given
unfolding old_payload old_command_bytes grant stamp given
grant_in_format_1 = refl

-- the same a day later, until the day after
dated : Stamped
dated = record {
  at = 1756684800000000;
  by = System;
  key = None;
  command = GrantAdd (codes "app") Create (Person (codes "uni/ann")) (Some 1756771200000000) (Some 1756857600000000);
}

-- the beginning and the end, each behind a byte that says that there is one
dates : List ℕ
dates = 1 ∷ 0 ∷ 224 ∷ 83 ∷ 43 ∷ 198 ∷ 61 ∷ 6 ∷ 0 ∷ 1 ∷ 0 ∷ 64 ∷ 43 ∷ 73 ∷ 218 ∷ 61 ∷ 6 ∷ 0 ∷ []

dated_written : payload dated ≡ stamp ++ 0 ∷ given ++ dates
unfolding payload command_bytes fields_bytes dated stamp given dates
dated_written = refl

-- app:z has who is in app:x or in app:y, by a command that was given under the key r-1
union : Stamped
union = record {
  at = 1756684800000000;
  by = System;
  key = Some (codes "r-1");
  command = CompositeSet (codes "app:z") Union (codes "app:x") (codes "app:y");
}

-- the key, behind a byte that says that there is one
keyed : List ℕ
keyed = 1 ∷ 3 ∷ 0 ∷ codes "r-1"

-- the code, the group, the kind and the two factors
united : List ℕ
united = 13 ∷ 5 ∷ 0 ∷ codes "app:z" ++ 3 ∷ 5 ∷ 0 ∷ codes "app:x" ++ 5 ∷ 0 ∷ codes "app:y"

union_written : payload union ≡ stamp ++ keyed ++ united
unfolding payload command_bytes fields_bytes union stamp keyed united
union_written = refl
