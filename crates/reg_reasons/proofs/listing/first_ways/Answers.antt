use Rattle.std.proofs.Common.{◌≡◌, ◌+◌, ◌++◌, ◌∙◌, List, ℕ, suc, ap, arith, length, subst, sym, take}
use Rattle.reg_terms.specs.declared.rows.MemberRow.{MemberRow}
use Rattle.reg_reasons.specs.Ways.{shorter, ways}
use Rattle.reg_reasons.proofs.Firsts.{take_again}
use Rattle.reg_reasons.proofs.listing.first_ways.Goals as goal

pub loop-n-preserved : goal.loop-n-preserved
loop-n-preserved c = (
  c.in_ok-add_ways.ensures.few,
  λ E all.
      let W = λ (n : ℕ). ways n c.args.rows.now E c.args.person c.args.group in
      let at : c.loop-n.n + 1 ≡ suc c.loop-n.n = omega arith in
      c.in_ok-add_ways.ensures.ways E all
      ∙ (ap (λ (xs : List (List MemberRow)). take c.args.most (xs ++ W c.loop-n.n)) (c.loop-n.invariant.1 E all)
      ∙ (take_again c.args.most (shorter c.loop-n.n W) (W c.loop-n.n)
      ∙ sym (ap (λ k. take c.args.most (shorter k W)) at))),
)

pub returns : goal.returns
returns c = λ E all.
    let end : c.loop-n.n ≡ length c.args.levels.now = omega arith in
    subst (λ i. c.loop-n.listed.items ≡ take c.args.most (shorter i (λ n. ways n c.args.rows.now E c.args.person c.args.group))) end (c.loop-n.invariant.1 E all)
