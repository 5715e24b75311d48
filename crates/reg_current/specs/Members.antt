-- The ids of members.
use Rattle.std.specs.Prelude.{ℕ}
use Rattle.reg_terms.specs.declared.kinds.Member.{Member}
use Rattle.reg_terms.specs.declared.kinds.Member.TheVariants.{Person, Group}

-- a person's or a group's id
abbrev pub member_id : Member → ℕ
member_id (Person p) = p
member_id (Group g) = g
