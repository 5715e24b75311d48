use Rattle.std.proofs.Common.{◌≡◌, ◌++◌, ◌∷◌, codes, drop}
use Rattle.json.specs.Tree.{items_tokens}
use Rattle.json.specs.Token.{begin_array, key}
use Rattle.serde_json.specs.Written.{items_outline}
use Rattle.reg_json.specs.AdminReplies.{job_items}
use Rattle.reg_json.proofs.shown_admin.put_jobs.Given as goal

-- what is written, and the jobs to come, are the whole member
abbrev pub invariant-loop-job : goal.invariant-loop-job
invariant-loop-job l = (l.out.before ≡ l.fn.out.before) × (l.out.tokens ++ items_tokens (items_outline (job_items (drop l.job-index l.jobs))) ≡ l.fn.out.tokens ++ key (codes "jobs") ∷ begin_array ∷ items_tokens (items_outline (job_items l.fn.jobs)))
