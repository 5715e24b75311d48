use Rattle.std.proofs.Common.{◌≡◌, ◌&&◌, ◌||◌, not, ℕ, drop}
use Rattle.reg_graph.specs.Edges.{among}
use Rattle.reg_access.proofs.deciding.decide.Given as goal

-- what is decided with the persons who are left
abbrev pub invariant-loop-person : goal.invariant-loop-person
invariant-loop-person l = record {
  decided : (q : ℕ) → (among q (drop l.person-index l.persons) || among q l.decided.keys) ≡ (among q l.persons || among q l.fn.decided.keys);
  allowed : (q : ℕ) → ((l.allow && (among q (drop l.person-index l.persons) && not (among q l.decided.keys))) || among q l.allowed.keys)
      ≡ ((l.allow && (among q l.persons && not (among q l.fn.decided.keys))) || among q l.fn.allowed.keys);
}
