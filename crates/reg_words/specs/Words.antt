-- What the program's words ask for. The first word names a command; the words behind it are read as
-- those of one simple command: positional words in order, options as `--at T` or `--at=T` in any
-- place, each at most once.
use Rattle.std.specs.Prelude.{List, [], ◌∷◌, Bool, true, false, Option, Some, None, codes}
use Rattle.std.specs.Prelude.{if◌then◌else◌, option_and_then, option_map}
use Rattle.std.specs.List.{list_any}
use Rattle.std.specs.Str.{bytes_eq}
use Rattle.clap.specs.Words.{App, Kinds, Row, Rule, Text, fault_of, first_of, matches_of, new_app}
use Rattle.clap.specs.Words.{new_rule, with_rule}
use Rattle.clap.specs.Simple.{on_top}
use Rattle.clap.specs.declared.builder.action.ArgAction.TheVariants.{Set}
use Rattle.reg_words.specs.Numbers.{batch_in, connections_in, entries_in, place_in, port_in}
use Rattle.reg_words.specs.Numbers.{seed_in, size_in}
use Rattle.reg_words.specs.declared.task.Question.TheVariants as question
use Rattle.reg_words.specs.declared.task.Report.TheVariants as report
use Rattle.reg_words.specs.declared.task.Task.{Task}
use Rattle.reg_words.specs.declared.task.Task.TheVariants as task

-- a positional word, which has to be given
abbrev pub word_rule : Text → Rule
word_rule id = record (new_rule id) { required = true; action = Some Set }

-- an option with a value
abbrev pub option_rule : Text → Rule
option_rule id = record (new_rule id) { long = Some id; action = Some Set }

-- a command that takes no words, those for help included
abbrev pub bare : Text → App
bare name = on_top (λ s. record s { disable_help_flag = true }) (new_app name)

-- the command with a positional word more
abbrev pub with_word : Text → App → App
with_word id app = with_rule app (word_rule id)

-- the command with an option more
abbrev pub with_option : Text → App → App
with_option id app = with_rule app (option_rule id)

-- `apply [--together N]`
abbrev pub apply : App
apply = with_option (codes "together") (bare (codes "apply"))

-- `members NAME [--at T]`
abbrev pub members : App
members = with_option (codes "at") (with_word (codes "name") (bare (codes "members")))

-- `history NAME`
abbrev pub history : App
history = with_word (codes "name") (bare (codes "history"))

-- `serve PORT [--connections N]`
abbrev pub serve : App
serve = with_option (codes "connections") (with_word (codes "port") (bare (codes "serve")))

-- `load JOB`
abbrev pub load : App
load = with_word (codes "job") (bare (codes "load"))

-- `sample SEED SIZE`
abbrev pub sample : App
sample = with_word (codes "size") (with_word (codes "seed") (bare (codes "sample")))

-- `permit SUBJECT RESOURCE ACTION`
abbrev pub permit : App
permit =
    with_word (codes "action") (with_word (codes "resource")
    (with_word (codes "subject") (bare (codes "permit"))))

-- `permitted RESOURCE ACTION`
abbrev pub permitted : App
permitted =
    with_word (codes "action") (with_word (codes "resource") (bare (codes "permitted")))

-- `attested GROUP [--at T]`
abbrev pub attested : App
attested = with_option (codes "at") (with_word (codes "group") (bare (codes "attested")))

-- `attestation GROUP`
abbrev pub attestation : App
attestation = with_word (codes "group") (bare (codes "attestation"))

-- `provision CONSUMER SUBJECT MAX`
abbrev pub provision : App
provision =
    with_word (codes "max") (with_word (codes "subject")
    (with_word (codes "consumer") (bare (codes "provision"))))

-- `commands [--from N] [--to M]`
abbrev pub commands : App
commands = with_option (codes "to") (with_option (codes "from") (bare (codes "commands")))

-- `as-of T`
abbrev pub as_of : App
as_of = with_word (codes "at") (bare (codes "as-of"))

-- `why SUBJECT GROUP [--at T]`
abbrev pub why : App
why =
    with_option (codes "at") (with_word (codes "group")
    (with_word (codes "subject") (bare (codes "why"))))

-- what `apply` asks, by its word: to answer one line at a time, or so many together
abbrev pub apply_of : Option Text → Option Task
apply_of None = Some task.Apply
apply_of (Some together) = option_map (λ most. task.Together most) (batch_in together)

-- the same by what it found
abbrev pub apply_in : List Row → Option Task
apply_in rows = apply_of (first_of (codes "together") rows)

-- what `members` asks, by what it found
abbrev pub members_in : List Row → Option Task
members_in rows =
    option_map (λ name. task.Ask (question.Members name (first_of (codes "at") rows)))
    (first_of (codes "name") rows)

-- what `history` asks
abbrev pub history_in : List Row → Option Task
history_in rows =
    option_map (λ name. task.Ask (question.History name)) (first_of (codes "name") rows)

-- what `load` asks
abbrev pub load_in : List Row → Option Task
load_in rows = option_map (λ job. task.Load job) (first_of (codes "job") rows)

-- what `sample` asks, by its words
abbrev pub sample_of : Text → Text → Option Task
sample_of seed size =
    option_and_then (λ seed. option_map (λ size. task.Sample seed size) (size_in size))
    (seed_in seed)

-- the same by what it found
abbrev pub sample_in : List Row → Option Task
sample_in rows =
    option_and_then (λ seed.
    option_and_then (λ size. sample_of seed size) (first_of (codes "size") rows))
    (first_of (codes "seed") rows)

-- what `serve` asks, by its words
abbrev pub serve_of : Text → Option Text → Option Task
serve_of port connections =
    option_and_then (λ port.
    option_map (λ connections. task.Serve port connections) (connections_in connections))
    (port_in port)

-- the same by what it found
abbrev pub serve_in : List Row → Option Task
serve_in rows =
    option_and_then (λ port. serve_of port (first_of (codes "connections") rows))
    (first_of (codes "port") rows)

-- what `permit` asks, by what it found
abbrev pub permit_in : List Row → Option Task
permit_in rows =
    option_and_then (λ subject.
    option_and_then (λ resource.
    option_map (λ action. task.Report (report.Permit subject resource action))
    (first_of (codes "action") rows)) (first_of (codes "resource") rows))
    (first_of (codes "subject") rows)

-- what `permitted` asks
abbrev pub permitted_in : List Row → Option Task
permitted_in rows =
    option_and_then (λ resource.
    option_map (λ action. task.Report (report.Permitted resource action))
    (first_of (codes "action") rows)) (first_of (codes "resource") rows)

-- what `attested` asks
abbrev pub attested_in : List Row → Option Task
attested_in rows =
    option_map (λ group. task.Report (report.Attested group (first_of (codes "at") rows)))
    (first_of (codes "group") rows)

-- what `attestation` asks
abbrev pub attestation_in : List Row → Option Task
attestation_in rows =
    option_map (λ group. task.Report (report.Attestation group)) (first_of (codes "group") rows)

-- what `provision` asks, by its words
abbrev pub provision_of : Text → Text → Text → Option Task
provision_of consumer subject max =
    option_map (λ max. task.Provision (record { consumer = consumer; subject = subject; max = max }))
    (entries_in max)

-- the same by what it found
abbrev pub provision_in : List Row → Option Task
provision_in rows =
    option_and_then (λ consumer.
    option_and_then (λ subject.
    option_and_then (λ max. provision_of consumer subject max) (first_of (codes "max") rows))
    (first_of (codes "subject") rows)) (first_of (codes "consumer") rows)

-- what `commands` asks, by its words: from the first place, and up to the last one that there may be
abbrev pub commands_of : Option Text → Option Text → Option Task
commands_of from to =
    option_and_then (λ from.
    option_map (λ to. task.Commands (record { from = from; to = to }))
    (place_in 18446744073709551615 to)) (place_in 1 from)

-- the same by what it found
abbrev pub commands_in : List Row → Option Task
commands_in rows = commands_of (first_of (codes "from") rows) (first_of (codes "to") rows)

-- what `as-of` asks
abbrev pub as_of_in : List Row → Option Task
as_of_in rows = option_map (λ at. task.AsOf at) (first_of (codes "at") rows)

-- what `why` asks, by its words: the report now, or as of a moment
abbrev pub why_of : Text → Text → Option Text → Task
why_of subject group None = task.Report (report.Why subject group)
why_of subject group (Some at) = task.ReportAsOf (report.Why subject group) at

-- the same by what it found
abbrev pub why_in : List Row → Option Task
why_in rows =
    option_and_then (λ subject.
    option_map (λ group. why_of subject group (first_of (codes "at") rows))
    (first_of (codes "group") rows)) (first_of (codes "subject") rows)

abbrev pub is_none : Kinds → Bool
is_none [] = true
is_none (k ∷ ks) = false

-- what a command makes of the words, where it takes them
unfoldable pub read_by : App → (List Row → Option Task) → List Text → Option Task
read_by app asked words =
    if is_none (fault_of app words) then asked (matches_of app words) else None

-- a command that takes no words behind its own
abbrev pub read_bare : Text → Task → List Text → Option Task
read_bare name task = read_by (bare name) (λ rows. Some task)

-- what the words ask for, by the command that the first names
abbrev pub task_by : Text → List Text → Option Task
task_by word words =
    if bytes_eq word (codes "init") then read_bare (codes "init") task.Init words
    else (if bytes_eq word (codes "apply") then read_by apply apply_in words
    else (if bytes_eq word (codes "serve") then read_by serve serve_in words
    else (if bytes_eq word (codes "check") then read_bare (codes "check") task.Check words
    else (if bytes_eq word (codes "members") then read_by members members_in words
    else (if bytes_eq word (codes "history") then read_by history history_in words
    else (if bytes_eq word (codes "load") then read_by load load_in words
    else (if bytes_eq word (codes "sample") then read_by sample sample_in words
    else (if bytes_eq word (codes "permit") then read_by permit permit_in words
    else (if bytes_eq word (codes "permitted") then read_by permitted permitted_in words
    else (if bytes_eq word (codes "attested") then read_by attested attested_in words
    else (if bytes_eq word (codes "attestation") then read_by attestation attestation_in words
    else (if bytes_eq word (codes "reminders")
    then read_bare (codes "reminders") (task.Report report.Reminders) words
    else (if bytes_eq word (codes "provision") then read_by provision provision_in words
    else (if bytes_eq word (codes "commands") then read_by commands commands_in words
    else (if bytes_eq word (codes "as-of") then read_by as_of as_of_in words
    else (if bytes_eq word (codes "why") then read_by why why_in words
    else (if bytes_eq word (codes "migrate") then read_bare (codes "migrate") task.Migrate words
    else None)))))))))))))))))

-- this names a command
abbrev pub is_command : Text → Bool
is_command word =
    list_any (λ name. bytes_eq word name)
    (codes "init" ∷ codes "apply" ∷ codes "serve" ∷ codes "check" ∷ codes "members"
    ∷ codes "history" ∷ codes "load" ∷ codes "sample" ∷ codes "permit" ∷ codes "permitted"
    ∷ codes "attested" ∷ codes "attestation" ∷ codes "reminders" ∷ codes "provision"
    ∷ codes "commands" ∷ codes "as-of" ∷ codes "why" ∷ codes "migrate" ∷ [])

-- the first of the words does
abbrev pub name_command : List Text → Bool
name_command [] = false
name_command (word ∷ words) = is_command word

-- what the words ask for
abbrev pub task_of : List Text → Option Task
task_of [] = None
task_of (word ∷ words) = task_by word (word ∷ words)
