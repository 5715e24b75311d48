use Rattle.reg_machine.specs.History.{facts}
use Rattle.reg_machine.proofs.Allowed.{Laws, all_hold, can_edit}
use Rattle.reg_machine.proofs.machine.Machine.law_allowed.Goals as goal

pub returns-clause-suits : goal.returns-clause-suits
returns-clause-suits g c =
    let laws : Laws (facts c.args.self.now.history c.args.self.now.clock) = record {
      sound = rw c.facts-facts.ensures at c.law_sound.ensures;
      held = rw c.facts-facts.ensures at c.law_held.ensures;
      objects = rw c.facts-facts.ensures at c.law_grants.ensures.objects;
      holders = rw c.facts-facts.ensures at c.law_grants.ensures.holders;
      definitions = rw c.facts-facts.ensures at c.law_owners.ensures.definitions;
      attributes = rw c.facts-facts.ensures at c.law_owners.ensures.attributes;
      owners = rw c.facts-facts.ensures at c.law_owners.ensures.owners;
      new_groups = rw c.facts-facts.ensures at c.law_new_group.ensures;
      jobs_go = rw c.facts-facts.ensures at c.law_job_delete.ensures;
      loads = rw c.facts-facts.ensures at c.law_load.ensures;
    } in
    can_edit c.args.self.now.history c.args.self.now.clock c.args.by.now c.args.command.now laws c.requires.allowed c.requires.form

pub returns-clause-hold : goal.returns-clause-hold
returns-clause-hold g c =
    let laws : Laws (facts c.args.self.now.history c.args.self.now.clock) = record {
      sound = rw c.facts-facts.ensures at c.law_sound.ensures;
      held = rw c.facts-facts.ensures at c.law_held.ensures;
      objects = rw c.facts-facts.ensures at c.law_grants.ensures.objects;
      holders = rw c.facts-facts.ensures at c.law_grants.ensures.holders;
      definitions = rw c.facts-facts.ensures at c.law_owners.ensures.definitions;
      attributes = rw c.facts-facts.ensures at c.law_owners.ensures.attributes;
      owners = rw c.facts-facts.ensures at c.law_owners.ensures.owners;
      new_groups = rw c.facts-facts.ensures at c.law_new_group.ensures;
      jobs_go = rw c.facts-facts.ensures at c.law_job_delete.ensures;
      loads = rw c.facts-facts.ensures at c.law_load.ensures;
    } in
    all_hold c.args.self.now.history c.args.self.now.clock c.args.by.now c.args.command.now laws c.requires.allowed c.requires.form
