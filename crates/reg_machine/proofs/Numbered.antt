-- Of all tests of a command that hold, one whose refusal has the least number is told.
use Rattle.std.proofs.Common.{◌≡◌, ◌≤◌, ◌==◌, ◌++◌, ◌&&◌, ◌||◌, ℕ, List, [], ◌∷◌, Bool, true, false, not, Option, Some, None, option_map, length, map, nat_le, if◌then◌else◌, arith, refl, sym, ◌∙◌, ap, subst, inl, inr, eqb-true}
use Rattle.std.specs.Prelude.{is_some}
use Rattle.std.proofs.lemmas.Bool.{cases_Bool, and_parts, or_cases, both_ways}
use Rattle.std.proofs.lemmas.Bool.Decides.{nat_tests}
use Rattle.reg_base.specs.Entities.{entity_of}
use Rattle.reg_base.specs.declared.entity.Entity.{Entity}
use Rattle.reg_base.specs.declared.entity.Entity.TheVariants as entity
use Rattle.reg_base.specs.declared.privilege.Privilege.{Privilege}
use Rattle.reg_terms.specs.declared.command.Command.{Command}
use Rattle.reg_terms.specs.declared.command.Command.TheVariants.{FolderAdd, FolderRename, FolderMove, FolderDelete, SubjectAdd, GroupAdd, GroupRename, GroupMove, GroupDelete, MemberAdd, MemberRemove, MemberWindow, CompositeSet, CompositeClear, GrantAdd, GrantRemove, InheritAdd, InheritRemove, AttrdefAdd, AttrdefDelete, AttrAdd, AttrDelete, AssignAdd, AssignRemove, ValueAdd, ValueRemove, RuleRemoveLost, RuleEndLost, RuleVeto, RuleOnCreate, RuleDelete, JobSimple, JobList, JobDelete, Load, ConsumerAdd, ConsumerAck}
use Rattle.reg_terms.specs.declared.command.Stamped.{Stamped}
use Rattle.reg_terms.specs.declared.kinds.Holder.{Holder}
use Rattle.reg_terms.specs.declared.kinds.Holder.TheVariants as holder
use Rattle.reg_terms.specs.declared.kinds.InheritKind.{InheritKind}
use Rattle.reg_terms.specs.declared.kinds.Member.{Member}
use Rattle.reg_terms.specs.declared.kinds.Member.TheVariants as member
use Rattle.reg_terms.specs.declared.kinds.Object.{Object}
use Rattle.reg_terms.specs.declared.kinds.Object.TheVariants as object
use Rattle.reg_terms.specs.declared.kinds.Scope.{Scope}
use Rattle.reg_terms.specs.declared.refusal.Refusal.{Refusal}
use Rattle.reg_terms.specs.declared.rows.MemberRow.{MemberRow}
use Rattle.reg_facts.specs.Attributes.{attribute_id, definition_id}
use Rattle.reg_facts.specs.Consumers.{consumer_place}
use Rattle.reg_facts.specs.Edits.{has_member, member_of, subject_id, the_id}
use Rattle.reg_facts.specs.Grants.{entity_object, grant_for, grant_of, holder_of, inherit_for, inherit_of, object_of}
use Rattle.reg_facts.specs.Jobs.{job_by}
use Rattle.reg_facts.specs.Lists.{Lists}
use Rattle.reg_facts.specs.Naming.{folder_id, group_id}
use Rattle.reg_effect.specs.declared.live.Live.{Live}
use Rattle.reg_priv.specs.May.{is_root, who_of}
use Rattle.reg_priv.specs.declared.who.Who.{Who}
use Rattle.reg_demand.specs.Demands.{Demand, On, Root, demands}
use Rattle.reg_demand.specs.Refusing as demand
use Rattle.reg_demand.specs.Refusing.{denial, is_hidden, is_missing, is_unseen, not_found, refused_as}
use Rattle.reg_current.specs.Live.{live}
use Rattle.reg_machine.specs.Checks.{Check, checks, is_internal, is_unknown, names_internal}
use Rattle.reg_machine.specs.History.{facts}
use Rattle.reg_machine.specs.Numbers.{NoneLess, is_load, number, tests}
use Rattle.reg_machine.specs.Past.{log}
use Rattle.reg_machine.specs.Refusals.{first_of, or_else, refusal}
use Rattle.reg_machine.proofs.Allowed.{AllFail, all_fail}

-- ---- numbers of tests, computed

-- each test has the number
abbrev just : ℕ → List Check → Bool
just n [] = true
just n (check ∷ more) = (number check.1 == n) && just n more

-- the numbers never fall, and none is below a floor
abbrev rises : ℕ → List Check → Bool
rises floor [] = true
rises floor (check ∷ more) = nat_le floor (number check.1) && rises (number check.1) more

-- none of a number below a floor holds
abbrev least : ℕ → List Check → Bool
least floor [] = true
least floor (check ∷ more) = (nat_le floor (number check.1) || not check.0) && least floor more

at_most : (n m : ℕ) → nat_le n m ≡ true → n ≤ m
at_most n m h = grind (arith, nat_tests, h)

no_less : (n : ℕ) → n ≤ n
no_less n = omega arith

past : (n m k : ℕ) → n ≤ m → m ≤ k → n ≤ k
past n m k v w = omega (arith, v, w)

raised : (n m : ℕ) (cs : List Check) → n ≤ m → NoneLess m cs → NoneLess n cs
raised n m [] w all = tt
raised n m (check ∷ more) w all = (λ holds. past n m (number check.1) w (all.0 holds), raised n m more w all.1)

rises_less : (n : ℕ) (cs : List Check) → rises n cs ≡ true → NoneLess n cs
rises_less n [] h = tt
rises_less n (check ∷ more) h =
    let parts = and_parts (nat_le n (number check.1)) (rises (number check.1) more) h in
    let low = at_most n (number check.1) parts.0 in
    (λ holds. low, raised n (number check.1) more low (rises_less (number check.1) more parts.1))

first_less : (n : ℕ) (cs : List Check) (r : Refusal) → rises n cs ≡ true → first_of cs ≡ Some r → NoneLess (number r) cs
first_less n [] r h is = cc
first_less n (check ∷ more) r h is =
    let parts = and_parts (nat_le n (number check.1)) (rises (number check.1) more) h in
    elim (cases_Bool check.0) [
      | inl y ↦
          let told : Some check.1 ≡ Some r = rw y at is in
          let same : check.1 ≡ r = cc in
          subst (λ x. NoneLess (number x) (check ∷ more)) same (λ holds. no_less (number check.1), rises_less (number check.1) more parts.1)
      | inr other ↦ (λ holds. absurd (both_ways check.0 other holds), first_less (number check.1) more r parts.1 (rw other at is))
    ]

just_less : (n : ℕ) (cs : List Check) → just n cs ≡ true → NoneLess n cs
just_less n [] h = tt
just_less n (check ∷ more) h =
    let parts = and_parts (number check.1 == n) (just n more) h in
    (λ holds. subst (λ m. n ≤ m) (sym (eqb-true (number check.1) n parts.0)) (no_less n), just_less n more parts.1)

first_just : (n : ℕ) (cs : List Check) (r : Refusal) → just n cs ≡ true → first_of cs ≡ Some r → number r ≡ n
first_just n [] r h is = cc
first_just n (check ∷ more) r h is =
    let parts = and_parts (number check.1 == n) (just n more) h in
    elim (cases_Bool check.0) [
      | inl y ↦
          let told : Some check.1 ≡ Some r = rw y at is in
          let same : check.1 ≡ r = cc in
          subst (λ x. number x ≡ n) same (eqb-true (number check.1) n parts.0)
      | inr other ↦ first_just n more r parts.1 (rw other at is)
    ]

least_one : (n m : ℕ) (b : Bool) → (nat_le n m || not b) ≡ true → b ≡ true → n ≤ m
least_one n m true h holds = elim (or_cases (nat_le n m) false h) [ inl y ↦ at_most n m y | inr bad ↦ absurd (both_ways false refl bad) ]
least_one n m false h holds = absurd (both_ways false refl holds)

least_less : (n : ℕ) (cs : List Check) → least n cs ≡ true → NoneLess n cs
least_less n [] h = tt
least_less n (check ∷ more) h =
    let parts = and_parts (nat_le n (number check.1) || not check.0) (least n more) h in
    (λ holds. least_one n (number check.1) check.0 parts.0 holds, least_less n more parts.1)

fails_less : (n : ℕ) (cs : List Check) → AllFail cs → NoneLess n cs
fails_less n [] h = tt
fails_less n (check ∷ more) h = (λ holds. absurd (both_ways check.0 h.0 holds), fails_less n more h.1)

joined : (n : ℕ) (xs ys : List Check) → NoneLess n xs → NoneLess n ys → NoneLess n (xs ++ ys)
joined n [] ys a b = b
joined n (x ∷ xs) ys a b = (a.0, joined n xs ys a.1 b)

-- ---- tests of three kinds, one after another

first_joined : (xs ys : List Check) → first_of (xs ++ ys) ≡ or_else (first_of xs) (first_of ys)
first_joined [] ys = refl
first_joined (x ∷ xs) ys = elim (cases_Bool x.0) [
  | inl y ↦ rw y refl
  | inr n ↦ rw n (first_joined xs ys)
]

module _ (xs ys zs : List Check) (six : just 6 xs ≡ true) (seven : just 7 ys ≡ true) (more : rises 6 zs ≡ true) (seen : AllFail xs → least 8 zs ≡ true) (r : Refusal) where
  every : (n : ℕ) → NoneLess n xs → NoneLess n ys → NoneLess n zs → NoneLess n ((xs ++ ys) ++ zs)
  every n a b c = joined n (xs ++ ys) zs (joined n xs ys a b) c

  by_firsts : (o p : Option Refusal) → first_of xs ≡ o → first_of ys ≡ p → or_else (or_else o p) (first_of zs) ≡ Some r → NoneLess (number r) ((xs ++ ys) ++ zs)
  by_firsts (Some q) p e d is =
      let same : q ≡ r = cc in
      let is_six : number r ≡ 6 = first_just 6 xs r six (e ∙ ap (λ x. Some x) same) in
      subst (λ n. NoneLess n ((xs ++ ys) ++ zs)) (sym is_six) (every 6 (just_less 6 xs six) (raised 6 7 ys (omega arith) (just_less 7 ys seven)) (rises_less 6 zs more))
  by_firsts None (Some q) e d is =
      let same : q ≡ r = cc in
      let is_seven : number r ≡ 7 = first_just 7 ys r seven (d ∙ ap (λ x. Some x) same) in
      let none = all_fail xs e in
      subst (λ n. NoneLess n ((xs ++ ys) ++ zs)) (sym is_seven) (every 7 (fails_less 7 xs none) (just_less 7 ys seven) (raised 7 8 zs (omega arith) (least_less 8 zs (seen none))))
  by_firsts None None e d is = every (number r) (fails_less (number r) xs (all_fail xs e)) (fails_less (number r) ys (all_fail ys d)) (first_less 6 zs r more is)

  of_three : or_else (first_of (xs ++ ys)) (first_of zs) ≡ Some r → NoneLess (number r) ((xs ++ ys) ++ zs)
  of_three is = by_firsts (first_of xs) (first_of ys) refl refl (sym (ap (λ o. or_else o (first_of zs)) (first_joined xs ys)) ∙ is)

-- ---- what is found and seen stands

module _ (L : Live) (f : Lists) (c : Who) where
  group_stands : (o : Option ℕ) → is_unseen L f c o ≡ false → not (is_some o) ≡ false
  group_stands None h = absurd (both_ways true h refl)
  group_stands (Some g) h = refl

  hidden_stands : (wrap : ℕ → Object) (o : Option ℕ) → is_hidden L f c (option_map wrap o) ≡ false → not (is_some o) ≡ false
  hidden_stands wrap None h = absurd (both_ways true h refl)
  hidden_stands wrap (Some x) h = refl

  same_internal : (e : Option Entity) → names_internal e ≡ demand.names_internal e
  same_internal None = refl
  same_internal (Some (entity.Person text)) = refl
  same_internal (Some (entity.Group name)) = refl
  same_internal (Some entity.System) = refl
  same_internal (Some entity.Everyone) = refl

  object_stands : (o : Option Object) (e : Option Entity) → (is_hidden L f c o && not (demand.names_internal e)) ≡ false → (not (is_some o) && not (names_internal e)) ≡ false
  object_stands None e h = ap not (same_internal e) ∙ h
  object_stands (Some x) e h = refl

  member_stands : (wrap : ℕ → Object) (make : ℕ → Member) (o : Option ℕ) → is_hidden L f c (option_map wrap o) ≡ false → not (is_some (elim o [ None ↦ None | Some x ↦ Some (make x) ])) ≡ false
  member_stands wrap make None h = absurd (both_ways true h refl)
  member_stands wrap make (Some x) h = refl

  entity_stands : (e : Entity) → is_missing L f c e ≡ false → is_unknown e f ≡ false
  entity_stands (entity.Person text) h = member_stands (λ s. object.Subject s) (λ s. member.Person s) (subject_id text f.subjects) h
  entity_stands (entity.Group name) h = member_stands (λ g. object.Group g) (λ g. member.Group g) (group_id name f) h
  entity_stands entity.System h = refl
  entity_stands entity.Everyone h = refl

  -- one that isn't seen counts as found where what is asked for stands
  entity_or : (there : Bool) (e : Entity) → (there ≡ true → is_unknown e f ≡ false) → (not there && is_missing L f c e) ≡ false → is_unknown e f ≡ false
  entity_or true e known h = known refl
  entity_or false e known h = entity_stands e h

  never : (b : Bool) → (b && false) ≡ false
  never true = refl
  never false = refl

  row_member : (g : ℕ) (o : Option Member) (rows : List MemberRow) → has_member g o rows ≡ true → not (is_some o) ≡ false
  row_member g None rows h = absurd (both_ways false refl h)
  row_member g (Some m) rows h = refl

  row_known : (g : ℕ) (e : Entity) → has_member g (member_of e f) f.rows ≡ true → is_unknown e f ≡ false
  row_known g e h = ap (λ b. not (is_internal e) && b) (row_member g (member_of e f) f.rows h) ∙ never (not (is_internal e))

  made_known : {A : Type 0} (e : Entity) (some : Option Holder → Option A) (holds : Option A → Bool) → (some None ≡ None) → (holds None ≡ false) → holds (some (holder_of e f)) ≡ true → is_unknown e f ≡ false
  made_known (entity.Person text) some holds none fails h = by (subject_id text f.subjects) h
    where
      by : (o : Option ℕ) → holds (some (option_map (λ s. holder.Person s) o)) ≡ true → not (is_some (elim o [ None ↦ None | Some s ↦ Some (member.Person s) ])) ≡ false
      by None k = absurd (both_ways (holds (some None)) (ap holds none ∙ fails) k)
      by (Some s) k = refl
  made_known (entity.Group name) some holds none fails h = by (group_id name f) h
    where
      by : (o : Option ℕ) → holds (some (option_map (λ g. holder.Group g) o)) ≡ true → not (is_some (elim o [ None ↦ None | Some g ↦ Some (member.Group g) ])) ≡ false
      by None k = absurd (both_ways (holds (some None)) (ap holds none ∙ fails) k)
      by (Some g) k = refl
  made_known entity.System some holds none fails h = refl
  made_known entity.Everyone some holds none fails h = refl

  grant_known : (o : Option Object) (p : Privilege) (e : Entity) → demand.grant_stands (grant_for o p (holder_of e f) None None) f ≡ true → is_unknown e f ≡ false
  grant_known None p e h = absurd (both_ways false refl h)
  grant_known (Some x) p e h = made_known e (λ (w : Option Holder). grant_for (Some x) p w None None) (λ row. demand.grant_stands row f) refl refl h

  inherit_known : (o : Option ℕ) (k : InheritKind) (s : Scope) (p : Privilege) (e : Entity) → demand.inherit_stands (inherit_for o k s p (holder_of e f)) f ≡ true → is_unknown e f ≡ false
  inherit_known None k s p e h = absurd (both_ways false refl h)
  inherit_known (Some d) k s p e h = made_known e (λ (w : Option Holder). inherit_for (Some d) k s p w) (λ row. demand.inherit_stands row f) refl refl h

  root_stands : {A : Type 0} (root : Bool) (o : Option A) → not (root && is_some o) ≡ false → not (is_some o) ≡ false
  root_stands true o h = h
  root_stands false o h = absurd (both_ways true h refl)

  -- ---- each command

  all_sixes : (command : Command) → just 6 (not_found L f c command) ≡ true
  all_sixes (FolderAdd folder display) = refl
  all_sixes (FolderRename folder extension) = refl
  all_sixes (FolderMove folder to) = refl
  all_sixes (FolderDelete folder) = refl
  all_sixes (SubjectAdd subject display) = refl
  all_sixes (GroupAdd group display) = refl
  all_sixes (GroupRename group extension) = refl
  all_sixes (GroupMove group to) = refl
  all_sixes (GroupDelete group) = refl
  all_sixes (MemberAdd group member from until) = refl
  all_sixes (MemberRemove group member) = refl
  all_sixes (MemberWindow group member from until) = refl
  all_sixes (CompositeSet group op left right) = refl
  all_sixes (CompositeClear group) = refl
  all_sixes (GrantAdd text p e from until) = refl
  all_sixes (GrantRemove text p e) = refl
  all_sixes (InheritAdd folder kind scope p e) = refl
  all_sixes (InheritRemove folder kind scope p e) = refl
  all_sixes (AttrdefAdd definition owners several kind many) = refl
  all_sixes (AttrdefDelete definition) = refl
  all_sixes (AttrAdd attribute definition) = refl
  all_sixes (AttrDelete attribute) = refl
  all_sixes (AssignAdd attribute text) = refl
  all_sixes (AssignRemove attribute text id) = refl
  all_sixes (ValueAdd attribute text id value) = refl
  all_sixes (ValueRemove attribute text id value) = refl
  all_sixes (RuleRemoveLost check owner) = refl
  all_sixes (RuleEndLost check owner days) = refl
  all_sixes (RuleVeto owner condition) = refl
  all_sixes (RuleOnCreate folder scope p e) = refl
  all_sixes (RuleDelete id) = refl
  all_sixes (JobSimple job group source min_size max_percent) = refl
  all_sixes (JobList job folder source min_size max_percent) = refl
  all_sixes (JobDelete job) = refl
  all_sixes (Load job created removed added) = refl
  all_sixes (ConsumerAdd consumer) = refl
  all_sixes (ConsumerAck consumer seq) = refl

  all_sevens : (ds : List Demand) → just 7 (map (denial L f c) ds) ≡ true
  all_sevens [] = refl
  all_sevens (On name o p ∷ ds) = all_sevens ds
  all_sevens (Root ∷ ds) = all_sevens ds

  module _ (history : List Stamped) (last at : ℕ) (by : Entity) where
    all_rise : (command : Command) → is_load command ≡ false → rises 6 (checks history last at f by command) ≡ true
    unfolding checks
    all_rise (FolderAdd folder display) plain = refl
    all_rise (FolderRename folder extension) plain = refl
    all_rise (FolderMove folder to) plain = refl
    all_rise (FolderDelete folder) plain = refl
    all_rise (SubjectAdd subject display) plain = refl
    all_rise (GroupAdd group display) plain = refl
    all_rise (GroupRename group extension) plain = refl
    all_rise (GroupMove group to) plain = refl
    all_rise (GroupDelete group) plain = refl
    all_rise (MemberAdd group member from until) plain = refl
    all_rise (MemberRemove group member) plain = refl
    all_rise (MemberWindow group member from until) plain = refl
    all_rise (CompositeSet group op left right) plain = refl
    all_rise (CompositeClear group) plain = refl
    all_rise (GrantAdd text p e from until) plain = refl
    all_rise (GrantRemove text p e) plain = refl
    all_rise (InheritAdd folder kind scope p e) plain = refl
    all_rise (InheritRemove folder kind scope p e) plain = refl
    all_rise (AttrdefAdd definition owners several kind many) plain = refl
    all_rise (AttrdefDelete definition) plain = refl
    all_rise (AttrAdd attribute definition) plain = refl
    all_rise (AttrDelete attribute) plain = refl
    all_rise (AssignAdd attribute text) plain = refl
    all_rise (AssignRemove attribute text id) plain = refl
    all_rise (ValueAdd attribute text id value) plain = refl
    all_rise (ValueRemove attribute text id value) plain = refl
    all_rise (RuleRemoveLost check owner) plain = refl
    all_rise (RuleEndLost check owner days) plain = refl
    all_rise (RuleVeto owner condition) plain = refl
    all_rise (RuleOnCreate folder scope p e) plain = refl
    all_rise (RuleDelete id) plain = refl
    all_rise (JobSimple job group source min_size max_percent) plain = refl
    all_rise (JobList job folder source min_size max_percent) plain = refl
    all_rise (JobDelete job) plain = refl
    all_rise (Load job created removed added) plain = absurd (both_ways true plain refl)
    all_rise (ConsumerAdd consumer) plain = refl
    all_rise (ConsumerAck consumer seq) plain = refl

    -- where all that it names is found and seen, no test behind the demands says that it isn't
    all_found : (command : Command) → is_load command ≡ false → AllFail (not_found L f c command) → least 8 (checks history last at f by command) ≡ true
    unfolding checks
    all_found (FolderAdd folder display) plain h = rw h.0 refl
    all_found (FolderRename folder extension) plain h = rw h.0 refl
    all_found (FolderMove folder to) plain h = rw (h.0, h.1.0) refl
    all_found (FolderDelete folder) plain h = rw h.0 refl
    all_found (SubjectAdd subject display) plain h = refl
    all_found (GroupAdd group display) plain h = rw h.0 refl
    all_found (GroupRename group extension) plain h = rw (group_stands (group_id group f) h.0) refl
    all_found (GroupMove group to) plain h = rw (group_stands (group_id group f) h.0, h.1.0) refl
    all_found (GroupDelete group) plain h = rw (group_stands (group_id group f) h.0) refl
    all_found (MemberAdd group who from until) plain h = rw (group_stands (group_id group f) h.0, entity_stands who h.1.0) refl
    all_found (MemberRemove group who) plain h = rw (group_stands (group_id group f) h.0, entity_or (demand.row_stands (group_id group f) who f) who (row_known (the_id (group_id group f)) who) h.1.0) refl
    all_found (MemberWindow group who from until) plain h = rw (group_stands (group_id group f) h.0, entity_or (demand.row_stands (group_id group f) who f) who (row_known (the_id (group_id group f)) who) h.1.0) refl
    all_found (CompositeSet group op left right) plain h = rw (group_stands (group_id group f) h.0, group_stands (group_id left f) h.1.0, group_stands (group_id right f) h.1.1.0) refl
    all_found (CompositeClear group) plain h = rw (group_stands (group_id group f) h.0) refl
    all_found (GrantAdd text p e from until) plain h = rw (object_stands (object_of text f) (entity_of text) h.0, entity_stands e h.1.0) refl
    all_found (GrantRemove text p e) plain h = rw (object_stands (object_of text f) (entity_of text) h.0, entity_or (demand.grant_stands (grant_of text p e None None f) f) e (grant_known (object_of text f) p e) h.1.0) refl
    all_found (InheritAdd folder kind scope p e) plain h = rw (h.0, entity_stands e h.1.0) refl
    all_found (InheritRemove folder kind scope p e) plain h = rw (h.0, entity_or (demand.inherit_stands (inherit_of folder kind scope p e f) f) e (inherit_known (folder_id folder f) kind scope p e) h.1.0) refl
    all_found (AttrdefAdd definition owners several kind many) plain h = rw h.0 refl
    all_found (AttrdefDelete definition) plain h = rw (hidden_stands (λ a. object.Def a) (definition_id definition f) h.0) refl
    all_found (AttrAdd attribute definition) plain h = rw (h.0, hidden_stands (λ a. object.Def a) (definition_id definition f) h.1.0) refl
    all_found (AttrDelete attribute) plain h = rw (hidden_stands (λ a. object.Attr a) (attribute_id attribute f) h.0) refl
    all_found (AssignAdd attribute text) plain h = rw (hidden_stands (λ a. object.Attr a) (attribute_id attribute f) h.0, object_stands (object_of text f) (entity_of text) h.1.0) refl
    all_found (AssignRemove attribute text id) plain h = rw (hidden_stands (λ a. object.Attr a) (attribute_id attribute f) h.0, object_stands (object_of text f) (entity_of text) h.1.0) refl
    all_found (ValueAdd attribute text id value) plain h = rw (hidden_stands (λ a. object.Attr a) (attribute_id attribute f) h.0, object_stands (object_of text f) (entity_of text) h.1.0) refl
    all_found (ValueRemove attribute text id value) plain h = rw (hidden_stands (λ a. object.Attr a) (attribute_id attribute f) h.0, object_stands (object_of text f) (entity_of text) h.1.0) refl
    all_found (RuleRemoveLost check owner) plain h = rw (group_stands (group_id check f) h.0, group_stands (group_id owner f) h.1.0) refl
    all_found (RuleEndLost check owner days) plain h = rw (group_stands (group_id check f) h.0, group_stands (group_id owner f) h.1.0) refl
    all_found (RuleVeto owner condition) plain h = rw (group_stands (group_id owner f) h.0, group_stands (group_id condition f) h.1.0) refl
    all_found (RuleOnCreate folder scope p e) plain h = rw (h.0, entity_stands e h.1.0) refl
    all_found (RuleDelete id) plain h = refl
    all_found (JobSimple job group source min_size max_percent) plain h = rw (group_stands (group_id group f) h.0) refl
    all_found (JobList job folder source min_size max_percent) plain h = rw h.0 refl
    all_found (JobDelete job) plain h = rw (root_stands (is_root L f c) (job_by job f.jobs) h.0) refl
    all_found (Load job created removed added) plain h = absurd (both_ways true plain refl)
    all_found (ConsumerAdd consumer) plain h = refl
    all_found (ConsumerAck consumer seq) plain h = rw (root_stands (is_root L f c) (consumer_place consumer f.consumers) h.0) refl

-- ---- the refusal of a command

first_same : (cs : List Check) → demand.first_of cs ≡ first_of cs
first_same [] = refl
first_same (check ∷ more) = ap (λ o. if check.0 then Some check.1 else o) (first_same more)

pub least_told : (history : List Stamped) (at : ℕ) (by : Entity) (c : Who) (command : Command) (r : Refusal) → who_of by (facts history at) ≡ Some c → is_load command ≡ false → refusal history at by command ≡ Some r → NoneLess (number r) (tests history at by c command)
unfolding refusal
least_told history at by c command r who plain is =
    let f = facts history at in
    let L = live at f in
    let last = length (log history at) in
    let xs = not_found L f c command in
    let ys = map (denial L f c) (demands by command f) in
    let zs = checks history last at f by command in
    let of_caller : or_else (demand.first_of (xs ++ ys)) (first_of zs) ≡ Some r = subst (λ o. or_else (refused_as o L f by command) (first_of zs) ≡ Some r) who is in
    of_three xs ys zs (all_sixes L f c command) (all_sevens L f c (demands by command f)) (all_rise L f c history last at by command plain) (all_found L f c history last at by command plain) r
    (sym (ap (λ o. or_else o (first_of zs)) (first_same (xs ++ ys))) ∙ of_caller)
