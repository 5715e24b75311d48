-- What a refusal says, as JSON data.
use Rattle.serde_json.specs.Data.{Data}
use Rattle.reg_base.specs.MomentText.{text_of}
use Rattle.reg_json.specs.declared.said.Said.{Said}
use Rattle.reg_json.specs.declared.said.Carried.{Carried}
use Rattle.reg_json.specs.declared.said.Carried.TheVariants as carried
use Rattle.reg_json.specs.Refusals.{Carries, nothing, limit, field, object, demand, used, count}
use Rattle.reg_json.specs.Refusals.{moments, places, rule, row, removal, command, refused}

abbrev pub carries : Carried → Carries
carries carried.Nothing = nothing
carries (carried.Limit n) = limit n
carries (carried.Field text) = field text.now
carries (carried.Object name) = object name.now
carries (carried.Demand name privilege) = demand name.now privilege.now
carries (carried.Use text) = used text.now
carries (carried.Count kind n) = count kind.now n
carries (carried.Moments asked clock) = moments (text_of asked.now) (text_of clock.now)
carries (carried.Places kept last) = places kept last
carries (carried.Rule id) = rule id
carries (carried.Row n) = row n
carries (carried.Removal before removes) = removal before removes
carries (carried.Command n) = command n

abbrev pub said_data : Said → Data
said_data said = refused said.code said.word.now (carries said.carried)
