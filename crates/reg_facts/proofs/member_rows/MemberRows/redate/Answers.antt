use Rattle.std.proofs.Common.{◌≡◌, ◌∙◌, sym, ap, map, rules}
use Rattle.reg_facts.specs.Edits.{windowed}
use Rattle.reg_facts.specs.Nests.{nests_of}
use Rattle.reg_facts.proofs.Nested.{nests_redated}
use Rattle.reg_facts.proofs.member_rows.MemberRows.redate.Goals as goal

-- its member stays
pub invariant_of-self : goal.invariant_of-self
invariant_of-self c =
    let is : c.replace.new.self ≡ map (windowed c.args.from c.args.until c.args.group c.args.member.now) c.self.inside.rows = search rules in
    c.self.invariant ∙ sym (ap nests_of is ∙ nests_redated c.args.from c.args.until c.args.group c.args.member.now c.self.inside.rows)
