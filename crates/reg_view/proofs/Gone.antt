-- The group that is gone and had a name, as it is shown.
use Rattle.std.proofs.Common.{◌≡◌, ◌∷◌, ℕ, List, [], Bool, true, false, Option, Some, None, refl, map, bytes_eq}
use Rattle.std.specs.Prelude.{if◌then◌else◌, option_map}
use Rattle.std.specs.Option.{option_or}
use Rattle.reg_facts.specs.Lists.{Lists}
use Rattle.reg_machine.specs.Past.{last_named}
use Rattle.reg_view.specs.Past.{Past, GroupPast, group_past, last_where}
use Rattle.reg_view.specs.View.{GroupGone, group_gone}

module _ (past : Past) (f : Lists) (moment : ℕ) (text : List ℕ) where
  abbrev past_shown : Option GroupGone → Option GroupPast
  past_shown found = option_map (λ (g : GroupGone). g.past) found

  abbrev is_it : GroupGone → Bool
  is_it g = bytes_eq g.name text

  -- of the one and those behind it
  go : (g : ℕ × List ℕ) (here : Bool) (a : Option GroupGone) (b : Option ℕ) → past_shown a ≡ option_map (group_past past f moment) b
      → past_shown (elim a [ Some y ↦ Some y | None ↦ if here then Some (group_gone past f moment g) else None ]) ≡ option_map (group_past past f moment) (option_or b (if here then Some g.0 else None))
  go g here (Some y) (Some x) h = h
  go g here (Some y) None h = cc
  go g here None (Some x) h = cc
  go g true None None h = refl
  go g false None None h = refl

  pub last_gone : (gone : List (ℕ × List ℕ)) → past_shown (last_where is_it (map (group_gone past f moment) gone)) ≡ option_map (group_past past f moment) (last_named text gone)
  last_gone [] = refl
  last_gone (g ∷ gone) = go g (bytes_eq g.1 text) (last_where is_it (map (group_gone past f moment) gone)) (last_named text gone) (last_gone gone)
