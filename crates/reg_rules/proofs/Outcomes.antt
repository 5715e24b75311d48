-- Outcomes of actions, one after another.
use Rattle.std.proofs.Common.{◌≡◌, ◌<◌, ◌+◌, ℕ, List, [], ◌∷◌, ◌++◌, drop, get_or, length, add-one, arith, refl, sym, ◌∙◌, ap, subst}
use Rattle.std.proofs.Math.Seq.{drop-cons}
use Rattle.std.proofs.lemmas.List.{append_assoc, append-nil}
use Rattle.reg_terms.specs.declared.rows.RuleRow.{RuleRow}
use Rattle.reg_facts.specs.Lists.{Lists}
use Rattle.reg_effect.specs.declared.live.Live.{Live}
use Rattle.reg_effect.specs.declared.turned.Turned.{Turned}
use Rattle.reg_effect.specs.Bound.{most_steps_of}
use Rattle.reg_effect.specs.Deltas.{ended}
use Rattle.reg_effect.specs.Turned.{Remembers}
use Rattle.reg_rules.specs.declared.actions.Action.{Action}
use Rattle.reg_rules.specs.Actions.{all_done, changes_by}
use Rattle.reg_rules.specs.Live.{Now, live, live_now}
use Rattle.reg_rules.specs.Outcome.{after, Gathered, gathered, Outcome}
use Rattle.reg_rules.specs.Settling.{acting, rule_actions, round_actions, settling}
use Rattle.reg_rules.proofs.Alive.{all_done_append, no_steps, rules_stay, steps_append}
use Rattle.reg_rules.proofs.Rounds.{settle_more, settle_nobody}

-- no action
pub outcome_none : (now : Now) (old : Gathered) → Outcome [] now now old old
outcome_none now old = record {
  stands = refl;
  listed = sym (append-nil old.actions);
  told = λ M h. h;
  cost = omega (arith, no_steps (live_now now));
}

-- some actions after others
pub outcome_then : (first second : List Action) (now mid next : Now) (old between new : Gathered) → Outcome first now mid old between → Outcome second mid next between new → Outcome (first ++ second) now next old new
outcome_then first second now mid next old between new h k = record {
  stands = k.stands ∙ (ap (λ (x : Now). after second x) h.stands ∙ ap (λ (x : Lists). record now { facts = x }) (sym (all_done_append first second now.facts)));
  listed = k.listed ∙ (ap (λ actions. actions ++ second) h.listed ∙ append_assoc old.actions first second);
  told = λ M w. k.told M (h.told M w);
  cost =
      let all = steps_append now.clock first second now.facts in
      let same : most_steps_of (changes_by second) (live_now mid) ≡ most_steps_of (changes_by second) (live now.clock (all_done first now.facts)) = ap (λ (x : Now). most_steps_of (changes_by second) (live_now x)) h.stands in
      omega (arith, h.cost, k.cost, all, same);
}

-- actions that were carried out, and more that lead to all
pub record Leads (more all : List Action) (first now : Now) (old new : Gathered) : Type 0 where
  pub actions : List Action
  pub so_far : Outcome actions first now old new
  pub left : actions ++ more ≡ all

pub leads_start : (all : List Action) (now : Now) (old : Gathered) → Leads all all now now old old
leads_start all now old = record { actions = []; so_far = outcome_none now old; left = refl }

pub leads_on : (here rest more all : List Action) (first now next : Now) (old mid new : Gathered) → more ≡ here ++ rest → Leads more all first now old mid → Outcome here now next mid new → Leads rest all first next old new
leads_on here rest more all first now next old mid new e h k = record {
  actions = h.actions ++ here;
  so_far = outcome_then h.actions here first now next old mid new h.so_far k;
  left = append_assoc h.actions here rest ∙ (ap (λ actions. h.actions ++ actions) (sym e) ∙ h.left);
}

pub leads_done : (more all : List Action) (first now : Now) (old new : Gathered) → more ≡ [] → Leads more all first now old new → Outcome all first now old new
leads_done more all first now old new e h =
    let same : h.actions ≡ all = sym (append-nil h.actions) ∙ (ap (λ actions. h.actions ++ actions) (sym e) ∙ h.left) in
    subst (λ acts. Outcome acts first now old new) same h.so_far

-- ---- one rule more, one pair more, and one round more
front : {X : Type 0} (xs : List X) (i : ℕ) (x : X) → i < length xs → x ≡ get_or xs i x → drop i xs ≡ x ∷ drop (i + 1) xs
front xs i x w e = drop-cons xs i x w ∙ rw (← e, add-one) refl

pub rule_on : (rules : List RuleRow) (i : ℕ) (rule : RuleRow) (g s : ℕ) (all : List Action) (first now next : Now) (old mid new : Gathered) → i < length rules → rule ≡ get_or rules i rule
    → Leads (rule_actions now.clock (drop i rules) g s now.facts) all first now old mid → Outcome (acting now.clock rule g s now.facts) now next mid new → Leads (rule_actions next.clock (drop (i + 1) rules) g s next.facts) all first next old new
rule_on rules i rule g s all first now next old mid new within here h k =
    leads_on (acting now.clock rule g s now.facts) (rule_actions next.clock (drop (i + 1) rules) g s next.facts) (rule_actions now.clock (drop i rules) g s now.facts) all first now next old mid new
    (ap (λ rs. rule_actions now.clock rs g s now.facts) (front rules i rule within here) ∙ ap (λ (x : Now). acting now.clock rule g s now.facts ++ rule_actions x.clock (drop (i + 1) rules) g s x.facts) (sym k.stands))
    h k

pub pair_on : (rules : List RuleRow) (pairs : List (ℕ × ℕ)) (i : ℕ) (pair : ℕ × ℕ) (all : List Action) (first now next : Now) (old mid new : Gathered) → i < length pairs → pair ≡ get_or pairs i pair
    → Leads (round_actions now.clock rules (drop i pairs) now.facts) all first now old mid → Outcome (rule_actions now.clock rules pair.0 pair.1 now.facts) now next mid new → Leads (round_actions next.clock rules (drop (i + 1) pairs) next.facts) all first next old new
pair_on rules pairs i pair all first now next old mid new within here h k =
    leads_on (rule_actions now.clock rules pair.0 pair.1 now.facts) (round_actions next.clock rules (drop (i + 1) pairs) next.facts) (round_actions now.clock rules (drop i pairs) now.facts) all first now next old mid new
    (ap (λ ps. round_actions now.clock rules ps now.facts) (front pairs i pair within here) ∙ ap (λ (x : Now). rule_actions now.clock rules pair.0 pair.1 now.facts ++ round_actions x.clock rules (drop (i + 1) pairs) x.facts) (sym k.stands))
    h k

pub round_on : (pairs lost : List (ℕ × ℕ)) (all : List Action) (first now next : Now) (old mid new : Gathered) → lost ≡ ended (live_now now) (live_now next)
    → Leads (settling pairs now.clock now.facts) all first now old mid → Outcome (round_actions now.clock now.facts.rules pairs now.facts) now next mid new → Leads (settling lost next.clock next.facts) all first next old new
round_on pairs lost all first now next old mid new loses h k =
    let acts : List Action = round_actions now.clock now.facts.rules pairs now.facts in
    leads_on acts (settling lost next.clock next.facts) (settling pairs now.clock now.facts) all first now next old mid new
    (settle_more now.clock pairs now.facts ∙ (ap (λ (x : Now). acts ++ settling (ended (live_now now) (live_now x)) x.clock x.facts) (sym k.stands) ∙ ap (λ ps. acts ++ settling ps next.clock next.facts) (sym loses)))
    h k

pub settled : (pairs : List (ℕ × ℕ)) (all : List Action) (first now : Now) (old new : Gathered) → pairs ≡ [] → Leads (settling pairs now.clock now.facts) all first now old new → Outcome all first now old new
settled pairs all first now old new e h = leads_done (settling pairs now.clock now.facts) all first now old new (ap (λ ps. settling ps now.clock now.facts) e ∙ settle_nobody now.clock now.facts) h

-- the rules of the facts stay
pub same_rules : (actions : List Action) (now next : Now) (old new : Gathered) → Outcome actions now next old new → next.facts.rules ≡ now.facts.rules
same_rules actions now next old new h = ap (λ (x : Now). x.facts.rules) h.stands ∙ rules_stay actions now.facts

-- what a round gathers goes into what the step gathers
pub in_step : (actions : List Action) (now next : Now) (old new : Gathered) (before behind : Turned) → ((M : Live) → Remembers M (live_now now) before → Remembers M (live_now next) behind) → Outcome actions now next old new
    → Outcome actions now next (gathered old.actions before old.steps) (gathered new.actions behind new.steps)
in_step actions now next old new before behind told h = record { stands = h.stands; listed = h.listed; told = told; cost = h.cost }
