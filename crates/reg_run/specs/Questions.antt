-- What a question in words asks.
use Rattle.std.specs.Prelude.{◌≡◌, ℕ, List, Option, Some, None, Result, Ok, Err, codes, option_map}
use Rattle.std.specs.Prelude.{ok_or}
use Rattle.reg_base.specs.Names.{name_of}
use Rattle.reg_base.specs.MomentText.{moment_of}
use Rattle.reg_terms.specs.declared.query.Query.{Query}
use Rattle.reg_terms.specs.declared.query.Query.TheVariants as query
use Rattle.reg_terms.specs.declared.refusal.Refusal.{Refusal}
use Rattle.reg_terms.specs.declared.refusal.Refusal.TheVariants.{BadName, BadMoment}
use Rattle.reg_terms.specs.declared.request.Op.TheVariants as op
use Rattle.reg_terms.specs.declared.request.Request.{Request}
use Rattle.reg_words.specs.declared.task.Question.{Question}
use Rattle.reg_words.specs.declared.task.Question.TheVariants as question
use Rattle.reg_run.specs.declared.question.NotAsked.{NotAsked}
use Rattle.reg_run.specs.declared.question.NotAsked.TheVariants as not_asked

-- a step and what follows it, up to the first refusal
infixl 10 ◌>>=◌
abbrev pub ◌>>=◌ : {A B : Type 0} → Result A Refusal → (A → Result B Refusal) → Result B Refusal
(Ok x) >>= f = f x
(Err e) >>= f = Err e

-- the name of a group that a text is
abbrev pub group_in : List ℕ → Result (List ℕ) Refusal
group_in text = ok_or (name_of text) (BadName (codes "group"))

-- the moment that a text is, where one is given
abbrev pub moment_in : Option (List ℕ) → Result (Option ℕ) Refusal
moment_in None = Ok None
moment_in (Some text) = ok_or (option_map Some (moment_of text)) (BadMoment (codes "at"))

-- the query of `members`
abbrev pub members_of : List ℕ → Option (List ℕ) → Result Query Refusal
members_of name at = do
  group ← group_in name
  moment ← moment_in at
  Ok (query.Members group moment)

-- the query of `history`
abbrev pub history_of : List ℕ → Result Query Refusal
history_of name = do
  group ← group_in name
  Ok (query.History group)

-- the query of a question
abbrev pub query_of : Question → Result Query Refusal
query_of (question.Members name at) = members_of name at
query_of (question.History name) = history_of name

-- a query of GrouperSystem
abbrev pub by_system : Query → Request
by_system query = record { by = codes "g:isa/GrouperSystem"; key = None; op = op.Query query }

-- what a question asks
abbrev pub asked_by : Question → Result Request Refusal
asked_by question = do
  query ← query_of question
  Ok (by_system query)

-- it is this refusal, unless there was no memory
abbrev pub IsRefusal : NotAsked → Refusal → Type 0
IsRefusal not_asked.Memory refusal = Unit {0}
IsRefusal (not_asked.Refused told) refusal = told ≡ refusal

-- why nothing is asked is what is due, unless there was no memory
abbrev pub Fails : {T : Type 0} → NotAsked → Result T Refusal → Type 0
Fails not_asked.Memory due = Unit {0}
Fails (not_asked.Refused told) due = due ≡ Err told

-- what a function gives is what is due, unless there was no memory
abbrev pub Gives : {T : Type 0} → Result T NotAsked → Result T Refusal → Type 0
Gives (Ok x) due = due ≡ Ok x
Gives (Err e) due = Fails e due
