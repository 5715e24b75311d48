use Rattle.std.proofs.Common.{◌≡◌, ◌≤◌, ◌+◌, ◌*◌, ◌==◌, ◌&&◌, ◌||◌, ℕ, Bool, List, take, length, filter}
use Rattle.reg_graph.specs.Sets.{holds}
use Rattle.reg_graph.specs.Edges.{among}
use Rattle.reg_effect.specs.Member.{level}
use Rattle.reg_effect.specs.Edges.{edges}
use Rattle.reg_effect.specs.Bound.{leaving}
use Rattle.reg_effect.specs.Walk.{differ, begins, ends, Passed}
use Rattle.reg_effect.proofs.walk.pass.Given as goal

abbrev pub invariant-loop-s : goal.invariant-loop-s
invariant-loop-s g l =
    let lev : ℕ → Bool = λ q. level (λ h. holds h q l.fn.sets) l.live l.g q in
    let done : List ℕ = take l.s-index l.persons in
    record {
      changed : (q : ℕ) → among q l.changed.items ≡ (among q done && differ (holds l.g q l.fn.sets) (lev q));
      sets : Passed l.fn.sets l.sets l.g lev done;
      began : (y q : ℕ) → holds y q l.began ≡ ((((y == l.g) && among q done) && begins (holds l.g q l.fn.sets) (lev q)) || holds y q l.fn.began);
      ended : (y q : ℕ) → holds y q l.ended ≡ ((((y == l.g) && among q done) && ends (holds l.g q l.fn.sets) (lev q)) || holds y q l.fn.ended);
      few : length l.changed.items ≤ length (filter (λ q. differ (holds l.g q l.fn.sets) (lev q)) done);
      cost : l.steps ≤ l.fn.steps + l.s-index * (leaving (edges l.live) l.g + 2);
    }
