use Rattle.std.proofs.Common.{◌≡◌, ◌++◌, ℕ, List, drop}
use Rattle.reg_terms.specs.declared.kinds.Object.{Object}
use Rattle.reg_audit.specs.Kept.{name_in, named_in}
use Rattle.reg_audit.specs.Lives.{groups_of, last_name, last_named}
use Rattle.reg_audit.proofs.departed.Departed.add_all.Given as goal

abbrev pub invariant-loop-one : goal.invariant-loop-one
invariant-loop-one l = record {
  names : (o : Object) → last_name o (name_in l.self o) (drop l.one-index l.gone) ≡ last_name o (name_in l.fn.self o) l.gone;
  named : (name : List ℕ) → last_named name (named_in l.self name) (drop l.one-index l.gone) ≡ last_named name (named_in l.fn.self name) l.gone;
  groups : l.self.groups.items ++ groups_of (drop l.one-index l.gone) ≡ l.fn.self.groups.items ++ groups_of l.gone;
}
