-- At each moment up to the clock the facts are sound, and an object stands exactly where it lives by the steps.
use Rattle.std.proofs.Common.{◌≡◌, ◌≤◌, ◌<◌, ◌==◌, ℕ, List, Option, [], ◌∷◌, ◌++◌, true, false, None, Some, nat_le, nat_lt, arith, refl, sym, ◌∙◌, ap, subst, inl, inr}
use Rattle.std.proofs.lemmas.Bool.{cases_Bool}
use Rattle.std.proofs.lemmas.Bool.Decides.{nat_tests}
use Rattle.std.specs.List.{AllByRecursion}
use Rattle.reg_base.specs.declared.entity.Entity.{Entity}
use Rattle.reg_terms.specs.declared.command.Stamped.{Stamped}
use Rattle.reg_terms.specs.declared.command.Command.{Command}
use Rattle.reg_terms.specs.declared.event.Event.{Event}
use Rattle.reg_terms.specs.declared.kinds.Object.{Object}
use Rattle.reg_terms.specs.declared.kinds.Object.TheVariants.{Folder, Group, Def, Attr, Subject}
use Rattle.reg_terms.specs.declared.rows.GrantRow.{GrantRow}
use Rattle.reg_terms.specs.declared.rows.MemberRow.{MemberRow}
use Rattle.reg_facts.specs.Events.{all_happened, events_of, happened}
use Rattle.reg_facts.specs.Lists as the_facts
use Rattle.reg_facts.specs.Lists.{Lists}
use Rattle.reg_facts.specs.Naming.{placed}
use Rattle.reg_facts.specs.Sound.{IsSound}
use Rattle.reg_facts.specs.Suiting.{AllSuit}
use Rattle.reg_audit.specs.Lives.{begun, ended, life_of, first_life}
use Rattle.reg_audit.specs.Objects.{gone_by, made_by, object_gone, object_made}
use Rattle.reg_audit.specs.Steps.{Step}
use Rattle.reg_audit.proofs.Stepping.{life_more}
use Rattle.reg_effect.specs.Deltas as deltas
use Rattle.reg_rules.specs.Settling.{settle}
use Rattle.reg_current.specs.Dates.{at_date, date_events, date_passed, due, pass}
use Rattle.reg_machine.specs.History.{State, acted, facts}
use Rattle.reg_current.specs.Holding.{AllHold}
use Rattle.reg_machine.specs.Invariant.{IsBy}
use Rattle.reg_current.specs.Live.{live}
use Rattle.reg_machine.specs.Past.{command_step, date_step, life, steps}
use Rattle.reg_machine.specs.Standing.{lives_at, stands, was_made, LifeBy, IsLived, AreStood}
use Rattle.reg_current.proofs.Due.{due_some}
use Rattle.reg_machine.proofs.DateEvents.{each_date, none_of}
use Rattle.reg_machine.proofs.LivesOn.{Life, events_lived, rest_still, step_life}
use Rattle.reg_machine.proofs.Lived.{facts_earlier, none_before, none_within}
use Rattle.reg_machine.proofs.Moments.{facts_push, next_comes, none_comes}
use Rattle.reg_machine.proofs.Settled.{settle_is}
use Rattle.reg_machine.proofs.StepByStep.{no_steps, steps_next, steps_none, steps_push}

-- ---- a life at later moments

still_lives : (t v : ℕ) (life : Life) → LifeBy t life → t ≤ v → lives_at v life ≡ lives_at t life
still_lives t v None by w = refl
still_lives t v (Some (a, None)) by w =
    let now : nat_le a t ≡ true = grind (arith, nat_tests, by) in
    let later : nat_le a v ≡ true = grind (arith, nat_tests, by, w) in
    rw (now, later) refl
still_lives t v (Some (a, Some b)) by w =
    let made : a ≤ t = by.0 in
    let gone : b ≤ t = by.1 in
    let now : nat_le a t ≡ true = grind (arith, nat_tests, made) in
    let later : nat_le a v ≡ true = grind (arith, nat_tests, made, w) in
    let over : nat_lt t b ≡ false = grind (arith, nat_tests, gone) in
    let still : nat_lt v b ≡ false = grind (arith, nat_tests, gone, w) in
    rw (now, later, over, still) refl

life_later : (t v : ℕ) (life : Life) → LifeBy t life → t ≤ v → LifeBy v life
life_later t v None by w = tt
life_later t v (Some (a, None)) by w = omega (arith, by, w)
life_later t v (Some (a, Some b)) by w =
    let made : a ≤ t = by.0 in
    let gone : b ≤ t = by.1 in
    (omega (arith, made, w), omega (arith, gone, w))

-- the same facts, or others in which the same objects stand and as many were made, at a later moment
lived_on : (t v : ℕ) (f g : Lists) (o : Object) (life : Life) → t ≤ v → stands o g ≡ stands o f → was_made g.made o ≡ was_made f.made o → IsLived t f o life → IsLived v g o life
lived_on t v f g o life w same made h = record {
  now = same ∙ (h.now ∙ sym (still_lives t v life h.by w));
  new = λ k. h.new (sym made ∙ k);
  by = life_later t v life h.by w;
}

-- ---- a clock up to which no date comes

stood_on : (history : List Stamped) (t v : ℕ) (o : Object) → AllByRecursion (IsBy t) history → AreStood history t → t ≤ v → due t v (facts history t) ≡ None → stands o (facts history v) ≡ lives_at v (life_of o (steps history t))
stood_on history t v o by h later none = ap (stands o) (none_comes t v history by later none) ∙ ((h.lived o).now ∙ sym (still_lives t v (life_of o (steps history t)) (h.lived o).by later))

sound_on : (history : List Stamped) (t v : ℕ) → AllByRecursion (IsBy t) history → AreStood history t → t ≤ v → due t v (facts history t) ≡ None → IsSound (facts history v)
sound_on history t v by h later none = subst IsSound (sym (none_comes t v history by later none)) (h.sound t (omega arith))

pub stood_later : (history : List Stamped) (t u : ℕ) → AllByRecursion (IsBy t) history → AreStood history t → t ≤ u → due t u (facts history t) ≡ None → AreStood history u
stood_later history t u by h w none =
    let same = steps_none t u history by w none in
    let facts_are = none_comes t u history by w none in
    record {
      sound = λ v x. elim (cases_Bool (nat_le v t)) [
        | inl y ↦ h.sound v (grind (arith, nat_tests, y))
        | inr n ↦ sound_on history t v by h (grind (arith, nat_tests, n)) (none_within t u v (facts history t) none x)
      ];
      lived = λ o. rw (same, facts_are) (lived_on t u (facts history t) (facts history t) o (life_of o (steps history t)) w refl refl (h.lived o));
      stood = λ o v x. rw same (elim (cases_Bool (nat_le v t)) [
        | inl y ↦ h.stood o v (grind (arith, nat_tests, y))
        | inr n ↦ stood_on history t v o by h (grind (arith, nat_tests, n)) (none_within t u v (facts history t) none x)
      ]);
    }

-- ---- the next date

none_made : (d : ℕ) (f : Lists) → made_by (date_events d f) ≡ []
none_made d f = none_of object_made (date_events d f) (each_date (λ e. object_made e ≡ None) d f (record { row = λ g m. refl; gone = λ grant. refl; began = λ grant. refl }))

none_gone : (d : ℕ) (f : Lists) → gone_by (date_events d f) ≡ []
none_gone d f = none_of object_gone (date_events d f) (each_date (λ e. object_gone e ≡ None) d f (record { row = λ g m. refl; gone = λ grant. refl; began = λ grant. refl }))

-- a date makes nothing, and nothing goes by it
date_life : (t d : ℕ) (f : Lists) (o : Object) (ss : List Step) → life_of o (ss ++ date_step t d f ∷ []) ≡ life_of o ss
unfolding life_of
date_life t d f o ss =
    life_more o ss (date_step t d f) (first_life o)
    ∙ (ap (λ ms. ended d (gone_by (date_events d f)) o (begun d ms o (life_of o ss))) (none_made d f) ∙ ap (λ gs. ended d gs o (life_of o ss)) (none_gone d f))

-- and no object comes or goes when rules act
rows_stand : (rows : List MemberRow) (f : Lists) (o : Object) → stands o (record f { rows = rows }) ≡ stands o f
unfolding placed
rows_stand rows f o = rest_still f (record f { rows = rows }) refl refl o

dated_stand : (rows : List MemberRow) (grants : List GrantRow) (f : Lists) (o : Object) → stands o (record f { rows = rows; grants = grants }) ≡ stands o f
unfolding placed
dated_stand rows grants f o = rest_still f (record f { rows = rows; grants = grants }) refl refl o

settle_stands : (pairs : List (ℕ × ℕ)) (at : ℕ) (f : Lists) (o : Object) → stands o (settle pairs at f) ≡ stands o f
settle_stands pairs at f o = ap (stands o) (settle_is pairs at f) ∙ rows_stand (settle pairs at f).rows f o

settle_made : (pairs : List (ℕ × ℕ)) (at : ℕ) (f : Lists) (o : Object) → was_made (settle pairs at f).made o ≡ was_made f.made o
settle_made pairs at f o = ap (λ (x : Lists). was_made x.made o) (settle_is pairs at f)

date_stands : (a d : ℕ) (f : Lists) (o : Object) → stands o (date_passed a d f) ≡ stands o f
date_stands a d f o = settle_stands (deltas.ended (live a f) (live d (at_date d f))) d (at_date d f) o ∙ dated_stand (at_date d f).rows (at_date d f).grants f o

date_made : (a d : ℕ) (f : Lists) (o : Object) → was_made (date_passed a d f).made o ≡ was_made f.made o
date_made a d f o = settle_made (deltas.ended (live a f) (live d (at_date d f))) d (at_date d f) o

pub stood_next : (history : List Stamped) (t d : ℕ) → AllByRecursion (IsBy t) history → AreStood history t → due t d (facts history t) ≡ Some d → IsSound (facts history d) → AreStood history d
stood_next history t d by h first sound =
    let later = (due_some t d d (facts history t) first).later in
    let are : facts history d ≡ date_passed t d (facts history t) = next_comes t d d history by first in
    let life : (o : Object) → life_of o (steps history d) ≡ life_of o (steps history t) = λ o. ap (life_of o) (steps_next t d d history by first) ∙ date_life t d (facts history t) o (steps history t) in
    let lived : (o : Object) → IsLived d (facts history d) o (life_of o (steps history d)) = λ o. rw (are, life o) (lived_on t d (facts history t) (date_passed t d (facts history t)) o (life_of o (steps history t)) (omega (arith, later)) (date_stands t d (facts history t) o) (date_made t d (facts history t) o) (h.lived o)) in
    record {
      sound = λ v x. elim (cases_Bool (nat_le d v)) [
        | inl y ↦
            let same : v ≡ d = grind (arith, nat_tests, y, x) in
            rw same sound
        | inr n ↦
            let less : v < d = grind (arith, nat_tests, n) in
            elim (cases_Bool (nat_le v t)) [
              | inl y ↦ h.sound v (grind (arith, nat_tests, y))
              | inr m ↦ sound_on history t v by h (grind (arith, nat_tests, m)) (none_before t d v (facts history t) first less)
            ]
      ];
      lived = lived;
      stood = λ o v x. elim (cases_Bool (nat_le d v)) [
        | inl y ↦
            let same : v ≡ d = grind (arith, nat_tests, y, x) in
            rw same (lived o).now
        | inr n ↦
            let less : v < d = grind (arith, nat_tests, n) in
            rw (life o) (elim (cases_Bool (nat_le v t)) [
              | inl y ↦ h.stood o v (grind (arith, nat_tests, y))
              | inr m ↦ stood_on history t v o by h (grind (arith, nat_tests, m)) (none_before t d v (facts history t) first less)
            ])
      ];
    }

-- ---- a command more

pub all_suit : (at : ℕ) (es : List Event) (f : Lists) → AllHold at es f → AllSuit es f
all_suit at [] f h = tt
all_suit at (e ∷ es) f h = (h.0.suits, all_suit at es (happened e f) h.1)

command_life : (at : ℕ) (by : Entity) (command : Command) (f : Lists) (o : Object) (ss : List Step) → life_of o (ss ++ command_step at by command f ∷ []) ≡ step_life at (events_of at by command f) o (life_of o ss)
unfolding life_of
command_life at by command f o ss = life_more o ss (command_step at by command f) (first_life o)

pub stood_push : (history : List Stamped) (at : ℕ) (by : Entity) (key : Option (List ℕ)) (command : Command) → AllByRecursion (IsBy at) history → AreStood history at → AllHold at (events_of at by command (facts history at)) (facts history at)
    → IsSound (facts (history ++ (record { at = at; by = by; key = key; command = command }) ∷ []) at) → AreStood (history ++ (record { at = at; by = by; key = key; command = command }) ∷ []) at
stood_push history at by key command before h hold sound =
    let more = history ++ (record { at = at; by = by; key = key; command = command }) ∷ [] in
    let f = facts history at in
    let es = events_of at by command f in
    let are : facts more at ≡ acted at by command f = facts_push at by key command history before in
    let lost = deltas.ended (live at f) (live at (all_happened es f)) in
    let life : (o : Object) → life_of o (steps more at) ≡ step_life at es o (life_of o (steps history at)) = λ o. ap (life_of o) (steps_push at by key command history before) ∙ command_life at by command f o (steps history at) in
    let after = λ (o : Object). events_lived at es f o (life_of o (steps history at)) (h.sound at (omega arith)) (all_suit at es f hold) (h.lived o) in
    let lived : (o : Object) → IsLived at (facts more at) o (life_of o (steps more at)) = λ o. rw (are, life o) (lived_on at at (all_happened es f) (settle lost at (all_happened es f)) o (step_life at es o (life_of o (steps history at))) (omega arith) (settle_stands lost at (all_happened es f) o) (settle_made lost at (all_happened es f) o) (after o).0) in
    record {
      sound = λ v x. elim (cases_Bool (nat_le at v)) [
        | inl y ↦
            let same : v ≡ at = grind (arith, nat_tests, y, x) in
            rw same sound
        | inr n ↦
            let less : v < at = grind (arith, nat_tests, n) in
            subst IsSound (sym (facts_earlier history at v by key command less)) (h.sound v (omega (arith, less)))
      ];
      lived = lived;
      stood = λ o v x. elim (cases_Bool (nat_le at v)) [
        | inl y ↦
            let same : v ≡ at = grind (arith, nat_tests, y, x) in
            rw same (lived o).now
        | inr n ↦
            let less : v < at = grind (arith, nat_tests, n) in
            rw (life o) (ap (stands o) (facts_earlier history at v by key command less) ∙ (h.stood o v (omega (arith, less)) ∙ sym ((after o).1 v less)))
      ];
    }

-- ---- nothing yet

first_lived : (o : Object) → IsLived 0 the_facts.start o (first_life o)
unfolding placed
first_lived (Folder y) = elim (cases_Bool (nat_le y 0)) [
  | inl z ↦
      let zero_is : y ≡ 0 = grind (arith, nat_tests, z) in
      rw zero_is (record { now = refl; new = λ k. absurd (let no : true ≡ false = k in cc); by = omega arith })
  | inr n ↦
      let other : (y == 0) ≡ false = grind (arith, nat_tests, n) in
      let turned : (0 == y) ≡ false = grind (arith, nat_tests, n) in
      record { now = rw (other, turned) refl; new = λ k. rw turned refl; by = rw turned tt }
]
first_lived (Group y) = record { now = refl; new = λ k. refl; by = tt }
first_lived (Def y) = record { now = refl; new = λ k. refl; by = tt }
first_lived (Attr y) = record { now = refl; new = λ k. refl; by = tt }
first_lived (Subject y) = record { now = refl; new = λ k. refl; by = tt }

pub stood_start : IsSound the_facts.start → AreStood [] 0
unfolding facts pass life_of
stood_start sound = record {
  sound = λ t w. subst (λ x. IsSound (facts [] x)) (sym (let same : t ≡ 0 = omega (arith, w) in same)) sound;
  lived = λ o. rw no_steps (first_lived o);
  stood = λ o t w. let same : t ≡ 0 = omega (arith, w) in rw (same, no_steps) (first_lived o).now;
}

-- ---- of a machine that is seen as a state

pub stood_told : (history : List Stamped) (clock : ℕ) (s : State) → AreStood history clock → record { history = history; clock = clock } ≡ s → (o : Object) (t : ℕ) → t ≤ s.clock → stands o (facts s.history t) ≡ lives_at t (life s.history s.clock o)
unfolding life
stood_told history clock s h is o t w = subst (λ (x : State). t ≤ x.clock → stands o (facts x.history t) ≡ lives_at t (life x.history x.clock o)) is (λ v. h.stood o t v) w
