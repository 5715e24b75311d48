-- What the record of the steps tells, said of the history: the log, lives, names, and who was a member when.
use Rattle.std.proofs.Common.{◌≡◌, ◌≤◌, ◌++◌, ◌∷◌, ◌==◌, [], ℕ, List, Bool, true, false, Option, None, Some, nat_le, map, bytes_eq, if◌then◌else◌, arith, refl, sym, ◌∙◌, ap, subst, inl, inr}
use Rattle.std.proofs.lemmas.Bool.{cases_Bool}
use Rattle.std.proofs.lemmas.Bool.Decides.{nat_tests}
use Rattle.std.specs.List.{list_any}
use Rattle.std.specs.List.Sorted.{IsStrictlySortedBy}
use Rattle.std.specs.Option.{option_or}
use Rattle.std.specs.Ordering.{nat_cmp}
use Rattle.reg_terms.specs.declared.command.Stamped.{Stamped}
use Rattle.reg_terms.specs.declared.kinds.Object.{Object}
use Rattle.reg_terms.specs.Kinds.{as_group}
use Rattle.reg_facts.specs.Lists.{Lists}
use Rattle.reg_effect.specs.Member.{member}
use Rattle.reg_log.specs.declared.entries.Line.{Line}
use Rattle.reg_pit.specs.Members as members
use Rattle.reg_pit.specs.Past as past
use Rattle.reg_pit.specs.Past.{NotedBy, member_spans, all_member_spans}
use Rattle.reg_pit.specs.Spans.{spans_until}
use Rattle.reg_pit.specs.declared.past.Past.{Past}
use Rattle.reg_audit.specs.Audit.{IsAudit}
use Rattle.reg_audit.specs.Definitions.{definition_in}
use Rattle.reg_audit.specs.Lines.{log_of}
use Rattle.reg_audit.specs.Lives as audit
use Rattle.reg_audit.specs.Lives.{life_of, gone_of, gone_name}
use Rattle.reg_audit.specs.declared.gone.Gone.{Gone}
use Rattle.reg_audit.specs.Steps.{Step, consumers_by, last_moment, live_by}
use Rattle.reg_facts.specs.Consumers.{consumer_place}
use Rattle.reg_log.specs.Places.{place_of}
use Rattle.reg_log.specs.declared.consumers.Places.{Places}
use Rattle.reg_machine.specs.History.{State, facts}
use Rattle.reg_machine.specs.Past.{all_spans, def_of, gone, gone_named, gone_names, last_named, life, log, named_groups, spans, steps, was_member}
use Rattle.reg_machine.specs.Recording.{IsRecorded, Recording}
use Rattle.reg_machine.proofs.Lived.{last_left, last_moment_by}

-- ---- the last group of a name, found from the front and from the back

or_none : {A : Type 0} (a : Option A) → option_or a None ≡ a
or_none None = refl
or_none (Some x) = refl

or_first : {A : Type 0} (a : Option A) (x : A) (known : Option A) → option_or a (Some x) ≡ option_or (option_or a (Some x)) known
or_first None x known = refl
or_first (Some y) x known = refl

last_same : (name : List ℕ) (known : Option ℕ) (gone : List Gone) → audit.last_named name known gone ≡ option_or (last_named name (named_groups gone)) known
last_same name known [] = refl
last_same name known (g ∷ gs) = one (as_group (Some g.object)) (bytes_eq g.name name) refl (last_same name (audit.named_or name known g) gs)
  where
    next : Option ℕ → Bool → Option ℕ
    next o b = if b then elim o [ None ↦ known | Some group ↦ Some group ] else known

    whole : Option ℕ → Option ℕ
    whole o = option_or (last_named name (elim o [ None ↦ named_groups gs | Some id ↦ (id, g.name) ∷ named_groups gs ])) known

    one : (o : Option ℕ) (b : Bool) → bytes_eq g.name name ≡ b → audit.last_named name (next o b) gs ≡ option_or (last_named name (named_groups gs)) (next o b) → audit.last_named name (next o b) gs ≡ whole o
    one None true e h = h
    one None false e h = h
    one (Some id) true e h = rw e (h ∙ or_first (last_named name (named_groups gs)) id known)
    one (Some id) false e h = rw e (h ∙ ap (λ o. option_or o known) (sym (or_none (last_named name (named_groups gs)))))

module _ (history : List Stamped) (r : Recording) (s : State) (h : IsRecorded history r) (is : record { history = history; clock = r.now.clock } ≡ s) where
  pub log_told : (lines : List Line) → ((ss : List Step) → IsAudit ss r.audit → lines ≡ log_of ss) → lines ≡ log s.history s.clock
  unfolding log
  log_told lines told = subst (λ (x : State). lines ≡ log x.history x.clock) is (told (steps history r.now.clock) h.audit)

  pub places_told : (places : Places) → ((ss : List Step) → IsAudit ss r.audit → (name : List ℕ) → place_of places name ≡ consumer_place name (consumers_by ss)) → (name : List ℕ) → place_of places name ≡ consumer_place name (facts s.history s.clock).consumers
  places_told places told name = subst (λ (x : State). place_of places name ≡ consumer_place name (facts x.history x.clock).consumers) is (told (steps history r.now.clock) h.audit name ∙ ap (λ (f : Lists). consumer_place name f.consumers) (last_left history r.now.clock h.lived))

  pub life_told : (o : Object) (found : Option (ℕ × Option ℕ)) → ((ss : List Step) → IsAudit ss r.audit → found ≡ life_of o ss) → found ≡ life s.history s.clock o
  unfolding life
  life_told o found told = subst (λ (x : State). found ≡ life x.history x.clock o) is (told (steps history r.now.clock) h.audit)

  pub def_told : (a : ℕ) (found : Option ℕ) → ((ss : List Step) → IsAudit ss r.audit → found ≡ definition_in a ss) → found ≡ def_of s.history s.clock a
  unfolding def_of
  def_told a found told = subst (λ (x : State). found ≡ def_of x.history x.clock a) is (told (steps history r.now.clock) h.audit)

  pub gone_told : (groups : List ℕ) → ((ss : List Step) → IsAudit ss r.audit → groups ≡ gone_of ss) → groups ≡ gone s.history s.clock
  unfolding gone
  gone_told groups told = subst (λ (x : State). groups ≡ gone x.history x.clock) is (told (steps history r.now.clock) h.audit)

  pub named_told : (name : List ℕ) (found : Option ℕ) → ((ss : List Step) → IsAudit ss r.audit → found ≡ audit.gone_named name ss) → found ≡ gone_named name s.history s.clock
  unfolding gone_names audit.gone_named
  named_told name found told = subst (λ (x : State). found ≡ gone_named name x.history x.clock) is
      (told (steps history r.now.clock) h.audit ∙ (last_same name None (audit.all_gone (steps history r.now.clock)) ∙ or_none (last_named name (named_groups (audit.all_gone (steps history r.now.clock))))))

  pub name_told : (o : Object) (found : Option (List ℕ)) → ((ss : List Step) → IsAudit ss r.audit → found ≡ gone_name o ss) → found ≡ gone_name o (steps s.history s.clock)
  name_told o found told = subst (λ (x : State). found ≡ gone_name o (steps x.history x.clock)) is (told (steps history r.now.clock) h.audit)

  -- ---- who was a member

  module _ (kept : Past) (told : (ss : List Step) → IsAudit ss r.audit → (t g x : ℕ) → past.was_member kept g x t ≡ member (live_by t ss) g x) where
    was : (t g x : ℕ) → t ≤ r.now.clock → past.was_member kept g x t ≡ was_member history t g x
    was t g x w = told (steps history r.now.clock) h.audit t g x ∙ h.lived.lived t g x w

    pub member_told : (t g x : ℕ) (found : Bool) → t ≤ s.clock → found ≡ past.was_member kept g x t → found ≡ was_member s.history t g x
    member_told t g x found w e = subst (λ (y : State). t ≤ y.clock → found ≡ was_member y.history t g x) is (λ v. e ∙ was t g x v) w

    pub members_told : (t g : ℕ) (persons : List ℕ) → t ≤ s.clock → members.Lists (λ x. past.was_member kept g x t) persons → members.Lists (λ x. was_member s.history t g x) persons
    members_told t g persons w e = subst (λ (y : State). t ≤ y.clock → members.Lists (λ x. was_member y.history t g x) persons) is
        (λ v. record { ascending = e.ascending; each = λ n. e.each n ∙ was t g n v }) w

    pub groups_told : (t x : ℕ) (groups : List ℕ) → t ≤ s.clock → members.Lists (λ g. past.was_member kept g x t) groups → members.Lists (λ g. was_member s.history t g x) groups
    groups_told t x groups w e = subst (λ (y : State). t ≤ y.clock → members.Lists (λ g. was_member y.history t g x) groups) is
        (λ v. record { ascending = e.ascending; each = λ n. e.each n ∙ was t n x v }) w

    -- ---- from when until when

    module _ (last : (ss : List Step) → IsAudit ss r.audit → NotedBy (last_moment ss) kept) (later : (a b : ℕ) → a ≤ b → NotedBy a kept → NotedBy b kept) where
      noted : NotedBy r.now.clock kept
      noted = later (last_moment (steps history r.now.clock)) r.now.clock (last_moment_by r.now.clock (steps history r.now.clock) h.lived.by) (last (steps history r.now.clock) h.audit)

      pub spans_told : (g x : ℕ) (found : List (ℕ × Option ℕ)) → ((test : ℕ → Bool) (now : ℕ) → NotedBy now kept → ((t : ℕ) → t ≤ now → past.was_member kept g x t ≡ test t) → found ≡ spans_until test now) → found ≡ spans s.history s.clock g x
      unfolding spans
      spans_told g x found until = subst (λ (y : State). found ≡ spans y.history y.clock g x) is (until (λ t. was_member history t g x) r.now.clock noted (λ t w. was t g x w))

      pub member_spans_told : (g x : ℕ) → ((test : ℕ → Bool) (now y z : ℕ) → NotedBy now kept → ((t : ℕ) → t ≤ now → past.was_member kept y z t ≡ test t) → member_spans kept y z ≡ spans_until test now) → member_spans kept g x ≡ spans s.history s.clock g x
      member_spans_told g x until = spans_told g x (member_spans kept g x) (λ test now by are. until test now g x by are)

      module _ (g : ℕ) (until : (test : ℕ → Bool) (now y x : ℕ) → NotedBy now kept → ((t : ℕ) → t ≤ now → past.was_member kept y x t ≡ test t) → member_spans kept y x ≡ spans_until test now) where
        one_spans : (x : ℕ) → member_spans kept g x ≡ spans history r.now.clock g x
        unfolding spans
        one_spans x = until (λ t. was_member history t g x) r.now.clock g x noted (λ t w. was t g x w)

        same_spans : (ids : List ℕ) → all_member_spans kept g ids ≡ all_spans history r.now.clock g ids
        same_spans [] = refl
        same_spans (x ∷ ids) =
            ap (λ rows. map (λ (span : ℕ × Option ℕ). (x, span.0, span.1)) rows ++ all_member_spans kept g ids) (one_spans x)
            ∙ ap (λ rest. map (λ (span : ℕ × Option ℕ). (x, span.0, span.1)) (spans history r.now.clock g x) ++ rest) (same_spans ids)

        pub history_told : (rows : List (ℕ × ℕ × Option ℕ)) → ((at t y x : ℕ) → at ≤ t → NotedBy at kept → past.was_member kept y x t ≡ past.was_member kept y x at)
            → ((ids : List ℕ) → IsStrictlySortedBy nat_cmp ids → ((x t : ℕ) → past.was_member kept g x t ≡ true → list_any (λ y. y == x) ids ≡ true) → rows ≡ all_member_spans kept g ids)
            → (ids : List ℕ) → IsStrictlySortedBy nat_cmp ids → ((t x : ℕ) → t ≤ s.clock → was_member s.history t g x ≡ true → list_any (λ y. y == x) ids ≡ true) → rows ≡ all_spans s.history s.clock g ids
        history_told rows stays rows_are ids sorted all = subst
            (λ (y : State). ((t x : ℕ) → t ≤ y.clock → was_member y.history t g x ≡ true → list_any (λ z. z == x) ids ≡ true) → rows ≡ all_spans y.history y.clock g ids) is
            (λ every. rows_are ids sorted (λ x t on. elim (cases_Bool (nat_le t r.now.clock)) [
              | inl y ↦ let w : t ≤ r.now.clock = grind (arith, nat_tests, y) in every t x w (sym (was t g x w) ∙ on)
              | inr n ↦
                  let w : r.now.clock ≤ t = grind (arith, nat_tests, n) in
                  every r.now.clock x (omega arith) (sym (was r.now.clock g x (omega arith)) ∙ (sym (stays r.now.clock t g x w noted) ∙ on))
            ]) ∙ same_spans ids) all
