-- Where the words ask for nothing.
use Rattle.std.proofs.Common.{◌≡◌, ◌∙◌, ◌⊎◌, List, ℕ, Bool, true, false, Option, Some, None, Result, Ok, Err, refl, ap, sym, subst, inl, inr, arith}
use Rattle.reg_outside.specs.declared.disk.Disk.{Ghosts}
use Rattle.reg_machine.specs.History.{State}
use Rattle.reg_terms.specs.declared.command.Stamped.{Stamped}
use Rattle.std.specs.Prelude.{if◌then◌else◌}
use Rattle.reg_words.specs.declared.task.Provision.{Provision}
use Rattle.reg_words.specs.declared.task.Report.{Report}
use Rattle.reg_words.specs.declared.task.Task.{Task}
use Rattle.reg_words.specs.declared.task.Task.TheVariants as task
use Rattle.reg_run.specs.declared.status.End.{End}
use Rattle.reg_run.specs.declared.status.End.TheVariants as the_end
use Rattle.reg_run.specs.Crash.{Seen, seen}
use Rattle.reg_terms.specs.declared.refusal.Refusal.{Refusal}
use Rattle.reg_terms.specs.declared.reply.Reply.{Reply}
use Rattle.reg_terms.specs.declared.reply.Reply.TheVariants as reply
use Rattle.reg_run.specs.AsOf.{AsOfEnds, In, PrintsReport, input}
use Rattle.reg_run.specs.Due.{Due, Told, due_of, end_of_due}
use Rattle.reg_run.specs.Ends.{Did, DidBoth, IsIdle, IsUsage, LoadAsked, LoadBroke, RunDid}
use Rattle.reg_run.specs.Listing.{PrintsLines, due_lines}
use Rattle.reg_run.specs.Once.{Printed, end_of_reply}
use Rattle.reg_run.specs.Providing.{Provides}
use Rattle.reg_run.specs.Status.{status_of}
use Rattle.reg_run.specs.World.{Out, World, output}

status_two : (end : End) → status_of end ≡ 2 → end ≡ the_end.Usage
status_two the_end.Done e = absurd (omega arith)
status_two the_end.Usage e = refl
status_two the_end.Memory e = absurd (omega arith)
status_two the_end.Disk e = absurd (omega arith)
status_two the_end.Input e = absurd (omega arith)
status_two the_end.Output e = absurd (omega arith)
status_two (the_end.Damaged at) e = absurd (omega arith)
status_two the_end.Listener e = absurd (omega arith)
status_two the_end.TooMuch e = absurd (omega arith)
status_two the_end.Exists e = absurd (omega arith)
status_two the_end.Refused e = absurd (omega arith)
status_two the_end.OtherFormat e = absurd (omega arith)

print_is_use : (bytes : List ℕ) (old new : Out) → Printed the_end.Done bytes the_end.Usage old new → ⊥
print_is_use bytes old new (inl (inl p)) = let is : the_end.Usage ≡ the_end.Done = p.0 in absurd (cc)
print_is_use bytes old new (inl (inr p)) = let is : the_end.Usage ≡ the_end.Output = p.0 in absurd (cc)
print_is_use bytes old new (inr p) = let is : the_end.Usage ≡ the_end.Memory = p.0 in absurd (cc)

reply_is_use : (told : Reply) → end_of_reply told ≡ the_end.Usage → ⊥
reply_is_use (reply.Number n id) e = absurd (cc)
reply_is_use (reply.Loaded n counts) e = absurd (cc)
reply_is_use (reply.Answer a) e = absurd (cc)
reply_is_use (reply.Refused r) e = absurd (cc)
reply_is_use reply.NoMemory e = absurd (cc)
reply_is_use reply.KeepFault e = absurd (cc)

told_is_use : (told : Reply) (bytes : List ℕ) (old new : Out) → Printed (end_of_reply told) bytes the_end.Usage old new → ⊥
told_is_use told bytes old new (inl (inl p)) = reply_is_use told (sym p.0)
told_is_use told bytes old new (inl (inr p)) = let is : the_end.Usage ≡ the_end.Output = p.0 in absurd (cc)
told_is_use told bytes old new (inr p) = let is : the_end.Usage ≡ the_end.Memory = p.0 in absurd (cc)

load_is_use : (from : State) (job taken : List ℕ) (before after : World) (answered kept : List Stamped) → LoadBroke the_end.Usage from before after answered kept ⊎ LoadAsked the_end.Usage from job taken before after answered kept → ⊥
load_is_use from job taken before after answered kept (inl broke) = let is : the_end.Usage ≡ the_end.Input = broke.0 in absurd (cc)
load_is_use from job taken before after answered kept (inr asked) = told_is_use asked.2.told _ _ _ asked.2.printed

provision_is_use : (asked : Provision) (s : State) (at : ℕ) (answered kept : List Stamped) (old new : Out) → Provides asked s at the_end.Usage answered kept old new → ⊥
provision_is_use asked s at answered kept old new (inl (keeps, (told, withheld, printed))) = told_is_use told _ old new printed
provision_is_use asked s at answered kept old new (inr (place, last, lines, those, inl broke)) = let is : the_end.Usage ≡ the_end.Output = broke.1 in absurd (cc)
provision_is_use asked s at answered kept old new (inr (place, last, lines, those, inr (mid, wrote, flushed, inl (less, a)))) = told_is_use a.told _ mid new a.printed
provision_is_use asked s at answered kept old new (inr (place, last, lines, those, inr (mid, wrote, flushed, inr (same, keeps, put)))) = print_is_use _ mid new (inl put)

lines_are_use : (due : Option (List ℕ)) (faults later : ℕ) (old new : Out) → PrintsLines due the_end.Usage faults later old new → ⊥
lines_are_use due faults later old new (inl printed) = printed
lines_are_use due faults later old new (inr p) = let is : the_end.Usage ≡ the_end.Disk = p.0 in absurd (cc)

refused_is_use : (r : Refusal) (old new : Out) → Told (λ due. due ≡ due_of (reply.Refused r)) the_end.Usage old new → ⊥
refused_is_use r old new (inl (due, is, printed)) = told_is_use (reply.Refused r) due.bytes old new (subst (λ (e : End). Printed e due.bytes the_end.Usage old new) (ap end_of_due is) printed)
refused_is_use r old new (inr printed) = told_is_use reply.NoMemory _ old new printed

either_is_use : (refused : Bool) → (if refused then the_end.Refused else the_end.Done) ≡ the_end.Usage → ⊥
either_is_use true e = absurd (cc)
either_is_use false e = absurd (cc)

due_is_use : (due : Due) (old new : Out) → Printed (end_of_due due) due.bytes the_end.Usage old new → ⊥
due_is_use due old new (inl (inl p)) = either_is_use due.refused (sym p.0)
due_is_use due old new (inl (inr p)) = let is : the_end.Usage ≡ the_end.Output = p.0 in absurd (cc)
due_is_use due old new (inr p) = let is : the_end.Usage ≡ the_end.Memory = p.0 in absurd (cc)

report_is_use : (asked : Report) (s : State) (i i2 : In) (old new : Out) → PrintsReport asked s the_end.Usage i i2 old new → ⊥
report_is_use asked s i i2 old new (taken, inl (due, is, printed)) = due_is_use due old new printed
report_is_use asked s i i2 old new (taken, inr printed) = told_is_use reply.NoMemory _ old new printed

as_of_is_use : (Asks : State → End → In → In → Out → Out → Type 0) (r : Result ℕ Refusal) (last : State) (held : Option (List ℕ)) (faults later : ℕ) (i i2 : In) (old new : Out) → ((s : State) → Asks s the_end.Usage i i2 old new → ⊥)
    → AsOfEnds Asks r last held faults later the_end.Usage i i2 old new → ⊥
as_of_is_use Asks (Ok at) last held faults later i i2 old new none (inl (s, is, asks)) = none s asks
as_of_is_use Asks (Ok at) last held faults later i i2 old new none (inr p) = p.0
as_of_is_use Asks (Err r) last held faults later i i2 old new none refused = refused_is_use r old new refused.1

-- no task ends so
task_is_use : (d : Seen) (t : Task) (before after : World) → Did d t the_end.Usage before after → ⊥
task_is_use d task.Init before after did = did.ends
task_is_use d task.Apply before after (inl not) = not.cause
task_is_use d task.Apply before after (inr p) = p.2.ends
task_is_use d (task.Together most) before after (inl not) = not.cause
task_is_use d (task.Together most) before after (inr p) = p.2.ends
task_is_use d (task.Serve port connections) before after (inl not) = not.cause
task_is_use d (task.Serve port connections) before after (inr p) = p.2.ends
task_is_use d task.Check before after (inl not) = not.cause
task_is_use d task.Check before after (inr p) = print_is_use _ _ _ p.2.printed
task_is_use d (task.Ask question) before after (inl not) = not.cause
task_is_use d (task.Ask question) before after (inr p) = p.2.ends
task_is_use d (task.Report asked) before after (inl not) = not.cause
task_is_use d (task.Report asked) before after (inr p) = p.2.ends
task_is_use d (task.Load job) before after (inl not) = not.cause
task_is_use d (task.Load job) before after (inr p) = load_is_use p.0 job p.2.taken before after _ _ p.2.ends
task_is_use d (task.Commands places) before after (inl not) = not.cause
task_is_use d (task.Commands places) before after (inr p) = lines_are_use (due_lines places before.held p.0.history) before.faults after.faults (output before) (output after) p.2.printed
task_is_use d (task.AsOf at) before after (inl not) = not.cause
task_is_use d (task.AsOf at) before after (inr p) = as_of_is_use _ _ p.0 before.held before.faults after.faults (input before) (input after) (output before) (output after) (λ s asks. asks) p.2.ends
task_is_use d (task.ReportAsOf asked at) before after (inl not) = not.cause
task_is_use d (task.ReportAsOf asked at) before after (inr p) =
    as_of_is_use (PrintsReport asked) _ p.0 before.held before.faults after.faults (input before) (input after) (output before) (output after) (λ s. report_is_use asked s (input before) (input after) (output before) (output after)) p.2.ends
task_is_use d (task.Provision asked) before after (inl not) = not.cause
task_is_use d (task.Provision asked) before after (inr p) = provision_is_use asked _ p.2.at _ _ _ _ p.2.ends
task_is_use d (task.Sample seed size) before after did = print_is_use _ _ _ did.printed
task_is_use d task.Migrate before after did = elim did [ ]

both_are_use : {E : Type 0} (e : Ghosts E) (d : Seen) (t : Task) (before after : World) (second filled : E) → DidBoth e d t the_end.Usage before after second filled → ⊥
both_are_use e d task.Migrate before after second filled did = did.ends
both_are_use e d t before after second filled did = task_is_use d t before after did.0

words_are_use : {D E : Type 0} (g : Ghosts D) (e : Ghosts E) (t : Task) (end : End) (before after : World) (old new : D) (second filled : E) → end ≡ the_end.Usage
    → DidBoth e (seen g old new) t end before after second filled ⊎ ((end ≡ the_end.Memory) × IsIdle before after old new second filled) → ⊥
words_are_use g e t end before after old new second filled is (inl did) = both_are_use e (seen g old new) t before after second filled (subst (λ (x : End). DidBoth e (seen g old new) t x before after second filled) is did)
words_are_use g e t end before after old new second filled is (inr none) = let both : the_end.Usage ≡ the_end.Memory = sym is ∙ none.0 in absurd (cc)

idle_status : (end : End) → (end ≡ the_end.Usage) ⊎ (end ≡ the_end.Memory) → (status_of end ≡ 2) ⊎ (status_of end ≡ 3)
idle_status end (inl is) = inl (ap status_of is)
idle_status end (inr is) = inr (ap status_of is)

pub is_usage : {D E : Type 0} (g : Ghosts D) (e : Ghosts E) (asked : Option Task) (end : End) (before after : World) (old new : D) (second filled : E) → RunDid g e asked end before after old new second filled → IsUsage asked (status_of end)
is_usage g e None end before after old new second filled did = (λ two. refl, λ none. idle_status end did.0)
is_usage g e (Some t) end before after old new second filled did = (λ two. absurd (words_are_use g e t end before after old new second filled (status_two end two) did), λ none. absurd (cc))

-- where there was no memory to read the words
pub idle_did : {D E : Type 0} (g : Ghosts D) (e : Ghosts E) (asked : Option Task) (w : World) (d : D) (second : E) → RunDid g e asked the_end.Memory w w d d second second
idle_did g e None w d second = (inr refl, (refl, refl, refl))
idle_did g e (Some t) w d second = inr (refl, (refl, refl, refl))
