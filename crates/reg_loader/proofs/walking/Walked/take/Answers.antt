use Rattle.std.proofs.Common.{◌∙◌, sym, map}
use Rattle.std.specs.Prelude.{string_bytes}
use Rattle.reg_loader.proofs.Steps.{step_bad, step_key, step_unknown}
use Rattle.reg_loader.proofs.walking.Walked.take.Goals as goal

pub returns-in_default : goal.returns-in_default
returns-in_default c =
    let w = c.args.self.now in
    let names = rw c.group_text.ensures at c.in_ok-group.ensures.names in
    let number = rw c.group_text.ensures at c.in_ok-group.ensures.number in
    λ rows so_far. step_bad c.args.job.now c.args.facts.now rows c.args.row.now (map (λ t. string_bytes t) w.names.keys) (map (λ t. string_bytes t) c.number_of.new.names.keys) w.wanted.keys w.bad_group w.unknown w.repeated so_far
    c.args.mention c.requires.mention names (sym number ∙ c.in_default.is)

pub returns-in-None : goal.returns-in-None
returns-in-None c =
    let w = c.args.self.now in
    let names = rw c.group_text.ensures at c.in_ok-group.ensures.names in
    let number = rw c.group_text.ensures at c.in_ok-group.ensures.number in
    λ rows so_far. step_unknown c.args.job.now c.args.facts.now rows c.args.row.now (map (λ t. string_bytes t) w.names.keys) (map (λ t. string_bytes t) c.number_of.new.names.keys) w.wanted.keys w.bad_group w.unknown w.repeated so_far
    c.args.mention c.requires.mention names c.in-Some.group (sym number ∙ c.in-Some.is) (sym c.in_ok-person.ensures ∙ c.in-None.is)

pub returns-in_ok-add-in-Some-2 : goal.returns-in_ok-add-in-Some-2
returns-in_ok-add-in-Some-2 c =
    let w = c.args.self.now in
    let names = rw c.group_text.ensures at c.in_ok-group.ensures.names in
    let number = rw c.group_text.ensures at c.in_ok-group.ensures.number in
    λ rows so_far. rw (c.add.ensures.names, c.add.ensures.unknown, c.add.ensures.bad_group) (step_key c.args.job.now c.args.facts.now rows c.args.row.now (map (λ t. string_bytes t) w.names.keys) (map (λ t. string_bytes t) c.number_of.new.names.keys) w.wanted.keys w.bad_group w.unknown w.repeated so_far
    c.args.mention c.requires.mention names c.add.new.self.wanted.keys c.add.new.self.repeated c.in-Some.group c.in-Some-2.person (sym number ∙ c.in-Some.is) (sym c.in_ok-person.ensures ∙ c.in-Some-2.is) c.in_ok-add-in-Some-2.ensures.wanted c.in_ok-add-in-Some-2.ensures.repeated)
