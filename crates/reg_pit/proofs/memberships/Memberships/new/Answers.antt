use Rattle.std.proofs.Common.{◌≡◌, ◌∙◌, true, false, sym, refl}
use Rattle.reg_pit.specs.Spans.{covers}
use Rattle.reg_pit.specs.Runs.{spans_of}
use Rattle.reg_pit.specs.Members.{pair_cmp}
use Rattle.reg_pit.proofs.memberships.Memberships.new.Goals as goal

pub invariant_of-result : goal.invariant_of-result
invariant_of-result c = record {
  known = λ x y t h. let none : covers (spans_of pair_cmp c.new.result (x, y)) t ≡ false = rw (c.new.ensures (x, y)) refl in let k : true ≡ false = sym h ∙ none in cc;
  first = λ x y t h. rw (c.new.ensures (x, y)) refl;
  second = λ x y t h. rw (c.new.ensures (x, y)) refl;
}
