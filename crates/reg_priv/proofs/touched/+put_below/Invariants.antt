use Rattle.std.proofs.Common.{◌≡◌, ◌-◌, ℕ, true, take}
use Rattle.reg_terms.specs.declared.kinds.Object.{Object}
use Rattle.reg_terms.specs.declared.kinds.Object.TheVariants.{Folder}
use Rattle.reg_facts.specs.Naming.{place_of, placed}
use Rattle.reg_priv.specs.Touched.{is_listed, place_below, AddsOnly}
use Rattle.reg_priv.proofs.touched.+put_below.Given as goal

abbrev pub decreases-put_below : goal.decreases-put_below
decreases-put_below l = l.levels

-- what was listed, the objects so far, and what stands below each of them
abbrev pub invariant-loop-object : goal.invariant-loop-object
invariant-loop-object l = record {
  kept : (o : Object) → is_listed o l.fn.found.items ≡ true → is_listed o l.found.items ≡ true;
  here : (o : Object) → is_listed o (take l.object-index l.object-items) ≡ true → is_listed o l.found.items ≡ true;
  deeper : (x : ℕ) (o : Object) → is_listed (Folder x) (take l.object-index l.object-items) ≡ true → place_below (l.levels - 1) x (place_of o (placed l.facts)) l.facts ≡ true → is_listed o l.found.items ≡ true;
  only : AddsOnly (λ o. place_below l.levels l.fn.folder (place_of o (placed l.facts)) l.facts) l.fn.found.items l.found.items;
}
