-- What a load leaves, in a reader's words.
use Rattle.std.specs.Prelude.{◌≡◌, ℕ, ◌+◌, not, List, ◌++◌, filter, length}
use Rattle.reg_facts.specs.Lists.{Lists}
use Rattle.reg_effect.specs.declared.live.Live.{Live}
use Rattle.reg_loader.specs.declared.plans.Plan.{Plan}
use Rattle.reg_loader.specs.Plan.{Key, added, is_among, is_vetoed, removed}

-- the persons in a job's groups after a load of these keys, where those stood
abbrev pub after : Live → List Key → Lists → List Key → List Key
after L there f keys =
    filter (λ key. not (is_among key (removed there keys))) there ++ added L there f keys

-- those that are wanted, but for the vetoed
abbrev pub allowed : Live → List Key → Lists → List Key → List Key
allowed L there f keys = filter (λ key. not (is_vetoed L there f key)) keys

-- two lists have the same
abbrev pub AreSame : List Key → List Key → Type 0
AreSame one other = (key : Key) → is_among key one ≡ is_among key other

-- how many records a plan counts: those that name no group of the job, no person that stands, or a
-- pair again, and those that name a pair first, which is there already, vetoed, or added
abbrev pub counted : Plan → ℕ
counted plan =
    plan.bad_group + plan.unknown + plan.repeated + plan.unchanged + plan.vetoed + length plan.added
