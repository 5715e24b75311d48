use Rattle.std.proofs.Common.{◌≡◌, ◌+◌, length}
use Rattle.reg_facts.specs.Events.{all_happened}
use Rattle.reg_facts.specs.Lists.{Lists}
use Rattle.reg_effect.specs.declared.live.Live.{Live}
use Rattle.reg_effect.specs.Turned.{Remembers}
use Rattle.reg_priv.specs.Touched.{KnowsTouched}
use Rattle.reg_current.specs.Live.{live}
use Rattle.reg_current.specs.Steps.{events_steps}
use Rattle.reg_current.proofs.Carrying.{AreLeft}
use Rattle.reg_current.proofs.current.Current.carry_all.Given as goal

abbrev pub invariant-loop-event : goal.invariant-loop-event
invariant-loop-event g l = record {
  left : AreLeft l.event-iterator.rest.items l.current (record { clock = l.fn.self.clock; facts = all_happened l.fn.events.items l.fn.self.facts }) l.steps (l.fn.steps + events_steps l.fn.self.clock l.fn.events.items l.fn.self.facts);
  count : l.event-iterator.rest.len ≡ length l.event-iterator.rest.items;
  told : (M : Live) → Remembers M (live l.fn.self.clock l.fn.self.facts) l.fn.turned → Remembers M (live l.current.clock l.current.facts) l.turned;
  touches : (f : Lists) → KnowsTouched f l.fn.self.facts l.fn.touched.items → KnowsTouched f l.current.facts l.touched.items;
}
