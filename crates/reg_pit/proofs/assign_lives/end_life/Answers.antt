use Rattle.std.proofs.Common.{◌≡◌, ◌∙◌, Some, None, sym, ap, map, rules, if◌then◌else◌}
use Rattle.std.specs.List.{find}
use Rattle.std.specs.Option.{option_copied}
use Rattle.reg_pit.specs.declared.assign_lives.AssignLife.{AssignLife}
use Rattle.reg_pit.proofs.Ending.{is_at, life_ends, no_life_ends}
use Rattle.reg_pit.proofs.assign_lives.end_life.Goals as goal

pub returns-in-Some : goal.returns-in-Some
returns-in-Some c =
    let replaced : c.replace.new.self ≡ map (λ other. if is_at c.ended-ended.result.owner c.ended-ended.result.id other then c.ended-ended.result else other) c.args.lives.now = search rules in
    let found : find (is_at c.args.owner c.args.assign) c.args.lives.now ≡ Some c.in-Some.life.now = sym c.get.ensures ∙ ap option_copied c.in-Some.is in
    replaced
    ∙ (ap (λ (e : AssignLife). map (λ other. if is_at e.owner e.id other then e else other) c.args.lives.now) c.ended-ended.ensures
    ∙ life_ends c.args.owner c.args.assign c.args.at c.args.lives.now c.in-Some.life.now c.requires found)

pub returns-in_default : goal.returns-in_default
returns-in_default c =
    let none : find (is_at c.args.owner c.args.assign) c.args.lives.now ≡ None = sym c.get.ensures ∙ ap option_copied c.in_default.is in
    no_life_ends c.args.owner c.args.assign c.args.at c.args.lives.now none
