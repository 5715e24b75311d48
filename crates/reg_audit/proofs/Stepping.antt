-- What one step more leaves of the lists: the log, lives, names, and who was a member.
use Rattle.std.proofs.Common.{◌≡◌, ◌≤◌, ◌++◌, ℕ, List, [], ◌∷◌, Bool, true, Option, Some, None, map, flat_map, nat_le, if◌then◌else◌, arith, refl, sym, ap, ◌∙◌, inl, inr}
use Rattle.std.proofs.lemmas.Bool.{cases_Bool}
use Rattle.std.proofs.lemmas.Bool.Decides.{nat_tests}
use Rattle.std.proofs.lemmas.List.{append-nil, append_assoc}
use Rattle.std.specs.List.{cons_option}
use Rattle.reg_terms.specs.Kinds.{as_group, same_object}
use Rattle.reg_terms.specs.declared.kinds.Object.{Object}
use Rattle.reg_facts.specs.Lists.{Lists}
use Rattle.reg_effect.specs.declared.live.Live.{Live}
use Rattle.reg_effect.specs.Member.{member}
use Rattle.reg_effect.specs.Turned.{after_turns, turns}
use Rattle.reg_pit.specs.Past.{was_member}
use Rattle.reg_audit.specs.Audit.{IsAudit}
use Rattle.reg_audit.specs.Lines.{lines_of, log_of}
use Rattle.reg_audit.specs.Lives.{life_after, life_from, gone_from, leaving, all_gone, groups_of, last_name, named_or, last_named}
use Rattle.reg_audit.specs.Steps.{Step, FollowsOn, last_by, last_of, left_by, last_moment, live_by}
use Rattle.reg_audit.specs.declared.audit.Audit.{Audit}
use Rattle.reg_audit.specs.declared.gone.Gone.{Gone}

-- ---- lists over one more step

pub flat_more : {X A : Type 0} (f : X → List A) (xs : List X) (x : X) → flat_map f (xs ++ x ∷ []) ≡ flat_map f xs ++ f x
flat_more f [] x = append-nil (f x)
flat_more f (y ∷ ys) x = ap (λ rest. f y ++ rest) (flat_more f ys x) ∙ sym (append_assoc (f y) (flat_map f ys) (f x))

pub log_more : (steps : List Step) (step : Step) → log_of (steps ++ step ∷ []) ≡ log_of steps ++ lines_of step
unfolding log_of
log_more steps step = flat_more lines_of steps step

pub gone_more : (steps : List Step) (step : Step) → all_gone (steps ++ step ∷ []) ≡ all_gone steps ++ leaving step.before step.events
gone_more steps step = flat_more (λ (s : Step). leaving s.before s.events) steps step

cons_more : (o : Option ℕ) (a b c : List ℕ) → a ≡ b ++ c → cons_option o a ≡ cons_option o b ++ c
cons_more None a b c e = e
cons_more (Some g) a b c e = ap (λ rest. g ∷ rest) e

pub groups_more : (xs ys : List Gone) → groups_of (xs ++ ys) ≡ groups_of xs ++ groups_of ys
groups_more [] ys = refl
groups_more (x ∷ xs) ys = cons_more (as_group (Some x.object)) (groups_of (xs ++ ys)) (groups_of xs) (groups_of ys) (groups_more xs ys)

-- ---- lives

pub life_more : (o : Object) (steps : List Step) (step : Step) (life : Option (ℕ × Option ℕ)) → life_from life o (steps ++ step ∷ []) ≡ life_after step o (life_from life o steps)
life_more o [] step life = refl
life_more o (s ∷ ss) step life = life_more o ss step (life_after s o life)

pub objects_leaving : (before : Lists) (objects : List Object) → map (λ (g : Gone). g.object) (map (gone_from before) objects) ≡ objects
objects_leaving before [] = refl
objects_leaving before (o ∷ os) = ap (λ rest. o ∷ rest) (objects_leaving before os)

-- ---- names

pub name_more : (o : Object) (xs ys : List Gone) (known : Option (List ℕ)) → last_name o known (xs ++ ys) ≡ last_name o (last_name o known xs) ys
name_more o [] ys known = refl
name_more o (x ∷ xs) ys known = name_more o xs ys (if same_object x.object o then Some x.name else known)

pub named_more : (name : List ℕ) (xs ys : List Gone) (known : Option ℕ) → last_named name known (xs ++ ys) ≡ last_named name (last_named name known xs) ys
named_more name [] ys known = refl
named_more name (x ∷ xs) ys known = named_more name xs ys (named_or name known x)

-- ---- the last step

pub last_more : (steps : List Step) (step : Step) → last_of (steps ++ step ∷ []) ≡ Some step
last_more [] step = refl
last_more (s ∷ ss) step = rw (last_more ss step) refl

pub last_by_more : (t : ℕ) (steps : List Step) (step : Step) → last_by t (steps ++ step ∷ []) ≡ (if nat_le step.at t then Some step else last_by t steps)
last_by_more t [] step = refl
last_by_more t (s ∷ ss) step = rw (last_by_more t ss step) (elim (cases_Bool (nat_le step.at t)) [ inl y ↦ rw y refl | inr n ↦ rw n refl ])

some_last : (step : Step) (steps : List Step) → (s : Step) × (last_of (step ∷ steps) ≡ Some s)
some_last step [] = (step, refl)
some_last step (s ∷ ss) = let r = some_last s ss in (r.0, rw r.1 refl)

-- a moment from the last step's on has seen them all
pub all_seen : (t : ℕ) (steps : List Step) → last_moment steps ≤ t → last_by t steps ≡ last_of steps
all_seen t [] h = refl
all_seen t (s ∷ []) h = let y : nat_le s.at t ≡ true = grind (arith, nat_tests, h) in rw y refl
all_seen t (s ∷ u ∷ us) h =
    let r = some_last u us in
    let later : last_moment (u ∷ us) ≤ t = rw r.1 (rw r.1 at h) in
    let rest : last_by t (u ∷ us) ≡ Some r.0 = all_seen t (u ∷ us) later ∙ r.1 in
    rw (rest, r.1) refl

-- ---- memberships

-- who was a member before the step, at a moment from it on, is who is one by the step's live data
before_step : (steps : List Step) (step : Step) (audit : Audit) (t g s : ℕ) → IsAudit steps audit → FollowsOn steps step → step.at ≤ t → was_member audit.past g s t ≡ member step.live g s
before_step steps step audit t g s h f w =
    let seen : last_by t steps ≡ last_of steps = all_seen t steps (omega (arith, f.later, w)) in
    h.members t g s ∙ ap (λ (o : Option Step). member (left_by o) g s) seen ∙ sym (f.members g s)

pub member_more : (steps : List Step) (step : Step) (audit new : Audit) (turned : List (ℕ × ℕ × Bool)) (t g s : ℕ) → IsAudit steps audit → FollowsOn steps step → turned ≡ turns step.live step.live_after
    → ((L N : Live) (x y : ℕ) → after_turns (turns L N) x y (member L x y) ≡ member N x y)
    → was_member new.past g s t ≡ (if nat_le step.at t then after_turns turned g s (was_member audit.past g s t) else was_member audit.past g s t)
    → was_member new.past g s t ≡ member (live_by t (steps ++ step ∷ [])) g s
member_more steps step audit new turned t g s h f e law noted = elim (cases_Bool (nat_le step.at t)) [
  | inl y ↦
      let w : step.at ≤ t = grind (arith, nat_tests, y) in
      let last : last_by t (steps ++ step ∷ []) ≡ Some step = last_by_more t steps step ∙ rw y refl in
      noted ∙ (rw (y, e, before_step steps step audit t g s h f w) (law step.live step.live_after g s)) ∙ ap (λ (o : Option Step). member (left_by o) g s) (sym last)
  | inr n ↦
      let last : last_by t (steps ++ step ∷ []) ≡ last_by t steps = last_by_more t steps step ∙ rw n refl in
      noted ∙ (rw n (h.members t g s)) ∙ ap (λ (o : Option Step). member (left_by o) g s) (sym last)
]
