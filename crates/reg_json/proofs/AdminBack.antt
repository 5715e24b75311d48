-- What is written of consumers, groups that are gone, loader jobs and rules is taken apart as that.
use Rattle.std.proofs.Common.{◌≡◌, ℕ, ◌≤◌, true, codes, Some, refl, arith, lit≤}
use Rattle.std.proofs.lemmas.Bool.{and_parts, lt-ltb, ltb-true}
use Rattle.serde_json.specs.Data.{depth}
use Rattle.reg_terms.specs.declared.admin_shown.ConsumerShown.{ConsumerShown}
use Rattle.reg_terms.specs.declared.admin_shown.FormShown.{FormShown}
use Rattle.reg_terms.specs.declared.admin_shown.FormShown.TheVariants.{RemoveLost, EndLost, Veto, OnCreate}
use Rattle.reg_terms.specs.declared.admin_shown.GoneShown.{GoneShown}
use Rattle.reg_terms.specs.declared.admin_shown.JobShown.{JobShown}
use Rattle.reg_terms.specs.declared.admin_shown.RuleShown.{RuleShown}
use Rattle.reg_terms.specs.declared.kinds.Scope.{Scope}
use Rattle.reg_terms.specs.declared.kinds.Scope.TheVariants.{One, Sub}
use Rattle.reg_json.specs.Fields.{scope}
use Rattle.reg_json.specs.AdminReplies.{consumer_data, gone_data, job_data, scope_word, form_data, rule_data}
use Rattle.reg_json.specs.Taking.{text_in, number_in, privilege_in, consumer_from, gone_from, job_from, scope_in, remove_lost_from, end_lost_from, veto_from, on_create_from, form_from, rule_from}
use Rattle.reg_json.specs.Writable.{is_u32, is_u64, consumer_fits, gone_fits, job_fits, form_fits, rule_fits}
use Rattle.reg_json.proofs.Plain.{is_plain}
use Rattle.reg_json.proofs.UnderKeys.{moment_there, privilege_again, small_there}

-- ---- it is taken apart

pub consumer_again : (consumer : ConsumerShown) → consumer_fits consumer ≡ true → consumer_from (consumer_data consumer) ≡ Some consumer
unfolding consumer_from number_in text_in
consumer_again consumer h = refl

pub gone_again : (gone : GoneShown) → gone_fits gone ≡ true → gone_from (gone_data gone) ≡ Some gone
unfolding gone_from text_in
gone_again gone h = rw (moment_there (codes "ended") (gone_data gone) gone.ended refl h) refl

pub job_again : (job : JobShown) → job_fits job ≡ true → job_from (job_data job) ≡ Some job
unfolding job_from number_in text_in
job_again job h = refl

scope_again : (s : Scope) → scope (scope_word s) ≡ Some s
scope_again One = refl
scope_again Sub = refl

form_again : (id : ℕ) (form : FormShown) → is_u32 id ≡ true → form_fits form ≡ true → rule_from (form_data id form) ≡ Some (record { id = id; form = form })
unfolding rule_from form_from remove_lost_from end_lost_from veto_from on_create_from scope_in privilege_in number_in text_in
form_again id (RemoveLost check owner) h k = rw (small_there (codes "id") (form_data id (RemoveLost check owner)) id refl h) refl
form_again id (EndLost check owner days) h k =
    let d = form_data id (EndLost check owner days) in
    rw (small_there (codes "id") d id refl h, small_there (codes "days") d days refl k) refl
form_again id (Veto owner condition) h k = rw (small_there (codes "id") (form_data id (Veto owner condition)) id refl h) refl
form_again id (OnCreate folder reach privilege holder) h k =
    rw (small_there (codes "id") (form_data id (OnCreate folder reach privilege holder)) id refl h, scope_again reach, privilege_again privilege) refl

pub rule_again : (rule : RuleShown) → rule_fits rule ≡ true → rule_from (rule_data rule) ≡ Some rule
rule_again rule h =
    let both = and_parts (is_u32 rule.id) (form_fits rule.form) h in
    form_again rule.id rule.form both.0 both.1

-- ---- it is plain

pub wide : (n : ℕ) → is_u32 n ≡ true → is_u64 n ≡ true
wide n h =
    let below = ltb-true n 4294967296 h in
    lt-ltb n 18446744073709551616 (omega arith)

pub consumer_plain : (consumer : ConsumerShown) → consumer_fits consumer ≡ true → is_plain (consumer_data consumer) ≡ true
consumer_plain consumer h = rw h refl

pub gone_plain : (gone : GoneShown) → is_plain (gone_data gone) ≡ true
gone_plain gone = refl

pub job_plain : (job : JobShown) → job_fits job ≡ true → is_plain (job_data job) ≡ true
job_plain job h =
    let both = and_parts (is_u64 job.max_percent) (is_u64 job.min_size) h in
    rw (both.0, both.1) refl

form_plain : (id : ℕ) (form : FormShown) → is_u64 id ≡ true → form_fits form ≡ true → is_plain (form_data id form) ≡ true
form_plain id (RemoveLost check owner) h k = rw h refl
form_plain id (EndLost check owner days) h k = rw (h, wide days k) refl
form_plain id (Veto owner condition) h k = rw h refl
form_plain id (OnCreate folder reach privilege holder) h k = rw h refl

pub rule_plain : (rule : RuleShown) → rule_fits rule ≡ true → is_plain (rule_data rule) ≡ true
rule_plain rule h =
    let both = and_parts (is_u32 rule.id) (form_fits rule.form) h in
    form_plain rule.id rule.form (wide rule.id both.0) both.1

form_flat : (id : ℕ) (form : FormShown) → depth (form_data id form) ≤ 1
form_flat id (RemoveLost check owner) = lit≤ tt
form_flat id (EndLost check owner days) = lit≤ tt
form_flat id (Veto owner condition) = lit≤ tt
form_flat id (OnCreate folder reach privilege holder) = lit≤ tt

pub rule_flat : (rule : RuleShown) → depth (rule_data rule) ≤ 1
rule_flat rule = form_flat rule.id rule.form
