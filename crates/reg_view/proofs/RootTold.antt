-- What root alone is told over the facts is what the view shows.
use Rattle.std.proofs.Common.{◌≡◌, ℕ, List, Bool, true, false, Result, Ok, Err, refl, map}
use Rattle.std.specs.Prelude.{if◌then◌else◌}
use Rattle.reg_terms.specs.declared.admin_shown.ConsumerShown.{ConsumerShown}
use Rattle.reg_terms.specs.declared.admin_shown.GoneShown.{GoneShown}
use Rattle.reg_terms.specs.declared.admin_shown.JobShown.{JobShown}
use Rattle.reg_terms.specs.declared.admin_shown.RuleShown.{RuleShown}
use Rattle.reg_terms.specs.declared.refusal.Refusal.{Refusal}
use Rattle.reg_terms.specs.declared.query.Answer.{Answer}
use Rattle.reg_terms.specs.declared.query.Answer.TheVariants as answer
use Rattle.reg_facts.specs.Lists.{Lists}
use Rattle.reg_effect.specs.declared.live.Live.{Live}
use Rattle.reg_priv.specs.declared.who.Who.{Who}
use Rattle.reg_priv.specs.May.{is_root}
use Rattle.reg_view.specs.Answers.{admin_of}
use Rattle.reg_view.specs.Past.{Past}
use Rattle.reg_view.specs.Show.{root_denied, shown_admin}
use Rattle.reg_view.specs.Texts.{consumer_shown, gone_shown, job_shown, rule_shown}
use Rattle.reg_view.specs.View.{for_root, seen_by}

abbrev told : Bool → List ConsumerShown → List GoneShown → List JobShown → List RuleShown → Result Answer Refusal
told root consumers gone jobs rules = if root then Ok (answer.Admin consumers gone jobs rules) else Err root_denied

root_told : (root : Bool) (consumers : List ConsumerShown) (gone : List GoneShown) (jobs : List JobShown) (rules : List RuleShown)
    → told root consumers gone jobs rules ≡ told root (for_root root consumers) (for_root root gone) (for_root root jobs) (for_root root rules)
root_told true consumers gone jobs rules = refl
root_told false consumers gone jobs rules = refl

pub admin_agrees : (past : Past) (L : Live) (f : Lists) (c : Who) (now moment : ℕ) (by : List ℕ) → admin_of past L f c ≡ shown_admin (seen_by past L f now moment by c)
admin_agrees past L f c now moment by =
    root_told (is_root L f c) (map consumer_shown f.consumers) (map (gone_shown past) past.gone_by_id) (map (job_shown f) f.jobs) (map (rule_shown past f) f.rules)
