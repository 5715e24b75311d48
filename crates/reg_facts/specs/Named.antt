-- Each object that has a name has one of its own.
use Rattle.std.specs.Prelude.{◌≡◌, ℕ, List, true, Some}
use Rattle.reg_terms.specs.declared.kinds.Object.{Object}
use Rattle.reg_facts.specs.Lists.{Lists}
use Rattle.reg_facts.specs.Naming.{resolve, name_of}
use Rattle.reg_facts.specs.Sound.{is_named}

-- an object that has a name is found by it, and what is found by a text has that name
pub record AreNamed (f : Lists) : Type 0 where
  pub finds : (o : Object) → is_named o f ≡ true → resolve (name_of o f) f ≡ Some o
  pub found : (text : List ℕ) (o : Object) → resolve text f ≡ Some o
      → (name_of o f ≡ text) × (is_named o f ≡ true)
