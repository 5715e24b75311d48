use Rattle.reg_effect.specs.Member.{member}
use Rattle.reg_facts.specs.Naming.{placed, resolve}
use Rattle.reg_audit.specs.Definitions.{definition_in}
use Rattle.reg_audit.specs.Lines.{log_of}
use Rattle.reg_audit.specs.Lives.{life_of, gone_of, gone_name, gone_named}
use Rattle.reg_audit.proofs.audit.Audit.start.Goals as goal

-- without a step nothing is told, made, gone or noted
pub returns : goal.returns
unfolding log_of life_of gone_of gone_name gone_named definition_in member resolve placed
returns c = record {
  log = c.start.ensures.log;
  lives = c.start.ensures.lives;
  gone = c.start.ensures.groups;
  names = c.start.ensures.names;
  named = c.start.ensures.named;
  defined = c.start.ensures.defined;
  places = c.start.ensures.places;
  members = λ t g s. c.start-2.ensures.members g s t;
  granted = λ t o p h. c.start-2.ensures.grants o p h t;
  noted_wheel = c.start-2.ensures.wheel;
  assigns = c.start-2.ensures.assigns;
  last_assigned = c.start-2.ensures.no_assign;
  noted = c.start-2.ensures.last 0;
}
