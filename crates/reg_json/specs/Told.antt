-- What the text of a reply tells: all that it says, but that a moment among the values of
-- assignments is told by its text.
use Rattle.std.specs.Prelude.{map}
use Rattle.reg_base.specs.MomentText.{text_of}
use Rattle.reg_terms.specs.declared.kinds.AttrValue.{AttrValue}
use Rattle.reg_terms.specs.declared.kinds.AttrValue.TheVariants as value
use Rattle.reg_terms.specs.declared.shown.AssignShown.{AssignShown}
use Rattle.reg_terms.specs.declared.query.Answer.{Answer}
use Rattle.reg_terms.specs.declared.query.Answer.TheVariants as answer
use Rattle.reg_terms.specs.declared.reply.Reply.{Reply}
use Rattle.reg_terms.specs.declared.reply.Reply.TheVariants as reply

-- a value, a moment as its text
abbrev pub told_value : AttrValue → AttrValue
told_value (value.Int n) = value.Int n
told_value (value.Text words) = value.Text words
told_value (value.Moment moment) = value.Text (text_of moment)

-- an assignment with such values
abbrev pub told_assign : AssignShown → AssignShown
told_assign assign = record assign { values = map told_value assign.values }

-- an answer with such assignments
abbrev pub told_answer : Answer → Answer
told_answer (answer.Attributes assignments) = answer.Attributes (map told_assign assignments)
told_answer a = a

-- a reply with such an answer
abbrev pub told : Reply → Reply
told (reply.Answer a) = reply.Answer (told_answer a)
told r = r
