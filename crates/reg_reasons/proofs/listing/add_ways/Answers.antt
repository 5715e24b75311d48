use Rattle.std.proofs.Common.{rules, ◌≡◌, ◌∷◌, ◌++◌, [], ◌∙◌, arith, length, sym}
use Rattle.std.proofs.lemmas.List.{length_push}
use Rattle.reg_reasons.specs.Ways.{ways}
use Rattle.reg_reasons.proofs.Firsts.{listed_more, listed_most}
use Rattle.reg_reasons.proofs.listing.add_ways.Goals as goal

pub loop-k-preserved : goal.loop-k-preserved
loop-k-preserved c =
    let items : c.push.new.self.items ≡ c.loop-k.listed.items ++ c.in-Some.way ∷ [] = c.in_ok-push.ensures.items in
    let more = length_push c.loop-k.listed.items c.in-Some.way in
    let few = c.loop-k.invariant.0 in
    rw items (
      omega (arith, few, more),
      λ E all.
          listed_more c.args.listed.now.items (ways c.args.n c.args.rows.now E c.args.person c.args.group) c.loop-k.listed.items c.loop-k.k (c.loop-k.invariant.1 E all) c.in-Some.way (sym c.in-Some.is ∙ c.in_ok-found.ensures E all),
    )

pub returns-clause-ways : goal.returns-clause-ways
returns-clause-ways c =
    let len : c.len.result ≡ length c.args.listed.now.items = search rules in
    let room = c.requires.room in
    λ E all. listed_most c.args.listed.now.items (ways c.args.n c.args.rows.now E c.args.person c.args.group) c.loop-k.listed.items c.loop-k.k (c.loop-k.invariant.1 E all) c.args.most (omega (arith, len, room))
