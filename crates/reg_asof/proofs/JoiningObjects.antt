-- Grants on an object, what someone could do with it, and what was assigned to it are told now of a moment as they were told then.
use Rattle.std.proofs.Common.{◌≡◌, ◌≤◌, ◌==◌, ◌&&◌, ◌∷◌, [], List, ℕ, Bool, true, false, not, Option, None, Some, Result, Ok, Err, refl, ap, sym, ◌∙◌, subst, arith, map, filter, codes, option_map}
use Rattle.std.specs.Prelude.{IsSome, if◌then◌else◌}
use Rattle.std.specs.List.{AllByRecursion}
use Rattle.reg_base.specs.Entities.{entity_of}
use Rattle.reg_base.specs.declared.entity.Entity.{Entity}
use Rattle.reg_base.specs.declared.entity.Entity.TheVariants as entity
use Rattle.reg_base.specs.declared.privilege.Privilege.{Privilege}
use Rattle.reg_base.specs.declared.privilege.Privilege.TheVariants.{AttrRead}
use Rattle.reg_terms.specs.declared.command.Stamped.{Stamped}
use Rattle.reg_terms.specs.declared.kinds.InheritKind.TheVariants as kind
use Rattle.reg_terms.specs.declared.kinds.Object.{Object}
use Rattle.reg_terms.specs.declared.kinds.Object.TheVariants.{Folder, Group, Def, Attr, Subject}
use Rattle.reg_terms.specs.declared.query.Answer.{Answer}
use Rattle.reg_terms.specs.declared.query.Answer.TheVariants as answer
use Rattle.reg_terms.specs.declared.query.Query.TheVariants as query
use Rattle.reg_terms.specs.declared.refusal.Refusal.{Refusal}
use Rattle.reg_terms.specs.declared.refusal.Refusal.TheVariants.{NotFound}
use Rattle.reg_terms.specs.declared.rows.AssignRow.{AssignRow}
use Rattle.reg_terms.specs.declared.rows.AttributeRow.{AttributeRow}
use Rattle.reg_terms.specs.Kinds.{is_of_kind, same_object}
use Rattle.reg_facts.specs.Assigned.{AssignStands}
use Rattle.reg_facts.specs.Attributes.{assigns_on}
use Rattle.reg_facts.specs.Edits.{subject_id}
use Rattle.reg_facts.specs.Grants.{object_of, of_entity}
use Rattle.reg_facts.specs.Lists.{Lists}
use Rattle.reg_facts.specs.Named.{AreNamed}
use Rattle.reg_facts.specs.Naming.{group_id, resolve}
use Rattle.reg_facts.specs.Rows.{attribute_row}
use Rattle.reg_facts.specs.Sound.{is_named}
use Rattle.reg_effect.specs.declared.live.Live.{Live}
use Rattle.reg_priv.specs.declared.who.Who.{Who}
use Rattle.reg_priv.specs.declared.who.Who.TheVariants.{System, Person}
use Rattle.reg_priv.specs.Holders.{holders}
use Rattle.reg_priv.specs.May as allowed
use Rattle.reg_priv.specs.May.{judged, privileges_of, visible, who_of}
use Rattle.reg_current.specs.Live.{live}
use Rattle.reg_machine.specs.History.{State, facts, up_to}
use Rattle.reg_machine.specs.Past.{def_of}
use Rattle.reg_machine.specs.Standing.{stands}
use Rattle.reg_view.specs.Answers.{attributes_on, attributes_told, entity_found, entity_object, grants_on, name_found, object_found, other_told, own_told, powers_told, not_admin, unfit}
use Rattle.reg_view.specs.Past.{Past, past_at}
use Rattle.reg_view.specs.Powers.{powers_then, who_stands}
use Rattle.reg_view.specs.Show.{◌>>=◌, is_caller, is_entity_text}
use Rattle.reg_view.specs.Texts.{assign_shown, grant_shown}
use Rattle.reg_view.specs.View.{is_admin, reads_attribute}
use Rattle.reg_asof.specs.Then.{state_at}
use Rattle.reg_asof.specs.Lawful.{IsLawful}
use Rattle.reg_asof.specs.Joined.{AttributesAgree, GrantsAgree, IsEarlier, MayAgree, is_granted, is_owner}
use Rattle.reg_asof.proofs.Growing.{facts_then}
use Rattle.reg_asof.proofs.Joining.{all_go, in_time_so, now_is, persons, root, then_is}
use Rattle.reg_asof.proofs.JoiningGroups.{attribute_stands, group_found, has_attribute, id_grown, id_stands, subject_unnamed}

-- ---- what a text names stands, and root finds it

its_row : (a : ℕ) (rows : List AttributeRow) → has_attribute a rows ≡ true → (row : AttributeRow) × (attribute_row a rows ≡ Some row)
its_row a [] has = absurd (cc)
its_row a (r ∷ rows) has =
    elim (r.id == a) as (λ b. (r.id == a) ≡ b → (row : AttributeRow) × (attribute_row a (r ∷ rows) ≡ Some row)) [
      | true ↦ λ same. (r, rw same refl)
      | false ↦ λ other. let rest = its_row a rows (rw other at has) in (rest.0, rw other rest.1)
    ] refl

-- no test both fails and passes
fallen : (b : Bool) → b ≡ false → b ≡ true → ⊥
fallen b fails passes = let both : false ≡ true = sym fails ∙ passes in cc

module _ (f : Lists) (are : AreNamed f) where
  named_stands : (text : List ℕ) (o : Object) → resolve text f ≡ Some o → stands o f ≡ true
  named_stands text (Folder d) here = (are.found text (Folder d) here).1
  named_stands text (Group g) here = (are.found text (Group g) here).1
  named_stands text (Def a) here = (are.found text (Def a) here).1
  named_stands text (Attr a) here = (are.found text (Attr a) here).1
  named_stands text (Subject s) here = absurd (fallen (is_named (Subject s) f) (subject_unnamed s f) (are.found text (Subject s) here).1)

  -- a person's text, or a group's
  person_stands : (text : List ℕ) (o : Object) (found : Option ℕ) → subject_id text f.subjects ≡ found → option_map (λ s. Subject s) found ≡ Some o → stands o f ≡ true
  person_stands text o None at is = absurd (cc)
  person_stands text o (Some s) at is =
      let one : Subject s ≡ o = cc in
      subst (λ (x : Object). stands x f ≡ true) one (id_stands text f.subjects s at)

  group_named : (name : List ℕ) (o : Object) (found : Option ℕ) → group_id name f ≡ found → option_map (λ g. Group g) found ≡ Some o → stands o f ≡ true
  group_named name o None at is = absurd (cc)
  group_named name o (Some g) at is =
      let one : Group g ≡ o = cc in
      subst (λ (x : Object). stands x f ≡ true) one (named_stands name (Group g) (group_found (resolve name f) g at))

  entity_stands : (e : Option Entity) (o : Object) → of_entity e f ≡ Some o → stands o f ≡ true
  entity_stands None o is = absurd (cc)
  entity_stands (Some (entity.Person text)) o is = person_stands text o (subject_id text f.subjects) refl is
  entity_stands (Some (entity.Group name)) o is = group_named name o (group_id name f) refl is
  entity_stands (Some entity.System) o is = absurd (cc)
  entity_stands (Some entity.Everyone) o is = absurd (cc)

  either_stands : (text : List ℕ) (o : Object) (b : Bool) → (if b then of_entity (entity_of text) f else resolve text f) ≡ Some o → stands o f ≡ true
  either_stands text o true is = entity_stands (entity_of text) o is
  either_stands text o false is = named_stands text o is

  -- the object that a text names stands
  pub object_stands : (text : List ℕ) (o : Object) → object_of text f ≡ Some o → stands o f ≡ true
  unfolding object_of
  object_stands text o is = either_stands text o (is_entity_text text) is

  -- an attribute is of a definition, whose privileges root has
  abbrev is_defined : ℕ → Option AttributeRow → Bool
  is_defined a found = is_of_kind kind.Definition (elim found [ None ↦ Attr a | Some row ↦ Def row.definition ]) && true

  attribute_defined : (a : ℕ) → stands (Attr a) f ≡ true → is_defined a (attribute_row a f.attributes) ≡ true
  attribute_defined a stands =
      let found = its_row a f.attributes (sym (attribute_stands a f) ∙ stands) in
      ap (is_defined a) found.1

  module _ (L : Live) where
    pub sees : (o : Object) → stands o f ≡ true → visible L f System o ≡ true
    sees (Folder d) stands = refl
    sees (Group g) stands = refl
    sees (Def a) stands = refl
    sees (Attr a) stands = attribute_defined a stands
    sees (Subject s) stands = refl

    pub administers : (o : Object) → stands o f ≡ true → is_admin L f System o ≡ true
    administers (Folder d) stands = refl
    administers (Group g) stands = refl
    administers (Def a) stands = refl
    administers (Attr a) stands = attribute_defined a stands
    administers (Subject s) stands = refl

    abbrev got : Object → Result (Option Object) Refusal
    got o = Ok (Some o)

    person_found : (text : List ℕ) (o : Object) (found : Option ℕ) → option_map (λ s. Subject s) found ≡ Some o → (elim found [ None ↦ Err (NotFound text) | Some s ↦ got (Subject s) ]) ≡ got o
    person_found text o None is = absurd (cc)
    person_found text o (Some s) is = let one : Subject s ≡ o = cc in ap got one

    abbrev by_group : List ℕ → Option ℕ → Result (Option Object) Refusal
    by_group name found =
        (elim found [ None ↦ Err (NotFound name) | Some id ↦ if visible L f System (Group id) then Ok id else Err (NotFound name) ]) >>= (λ g. got (Group g))

    group_is : (name : List ℕ) (o : Object) (found : Option ℕ) → option_map (λ g. Group g) found ≡ Some o → by_group name found ≡ got o
    group_is name o None is = absurd (cc)
    group_is name o (Some g) is = let one : Group g ≡ o = cc in ap got one

    entity_is : (text : List ℕ) (e : Option Entity) (o : Object) → of_entity e f ≡ Some o → entity_object L f System text e ≡ got o
    entity_is text None o is = absurd (cc)
    entity_is text (Some (entity.Person person)) o is = person_found person o (subject_id person f.subjects) is
    entity_is text (Some (entity.Group name)) o is = group_is name o (group_id name f) is
    entity_is text (Some entity.System) o is = absurd (cc)
    entity_is text (Some entity.Everyone) o is = absurd (cc)

    abbrev seen_as : List ℕ → Object → Bool → Result (Option Object) Refusal
    seen_as text o b = if b then got o else Err (NotFound text)

    either_is : (text : List ℕ) (o : Object) (b : Bool) → (if b then of_entity (entity_of text) f else resolve text f) ≡ Some o
        → (if b then entity_object L f System text (entity_of text) else name_found L f System text (resolve text f)) ≡ got o
    either_is text o true is = entity_is text (entity_of text) o is
    either_is text o false is = ap (name_found L f System text) is ∙ ap (seen_as text o) (sees o (named_stands text o is))

    -- root finds it
    pub root_finds_object : (text : List ℕ) (o : Object) → object_of text f ≡ Some o → object_found L f System text ≡ got o
    unfolding object_of
    root_finds_object text o is = either_is text o (is_entity_text text) is

-- ---- lists that all pass

all_filtered : {R : Type 0} (P : R → Type 0) (test : R → Bool) (rows : List R) → AllByRecursion P rows → AllByRecursion P (filter test rows)
all_filtered P test [] all = tt
all_filtered P test (r ∷ rows) all =
    elim (test r) as (λ b. test r ≡ b → AllByRecursion P (filter test (r ∷ rows))) [
      | true ↦ λ passes. rw passes (all.0, all_filtered P test rows all.1)
      | false ↦ λ fails. rw fails (all_filtered P test rows all.1)
    ] refl

none_left_out : {R : Type 0} (test : R → Bool) (rows : List R) → AllByRecursion (λ (r : R). test r ≡ true) rows → filter test rows ≡ rows
none_left_out test [] all = refl
none_left_out {R} test (r ∷ rows) all = rw all.0 (ap (λ (rest : List R). r ∷ rest) (none_left_out test rows all.1))

-- ---- both registries

-- what someone could do at a moment at which both stood, as a law has it
abbrev pub PowersAgree : Type 0
PowersAgree =
    (f F : Lists) (at : ℕ) (c : Who) (o : Object) → stands o F ≡ true → who_stands c F ≡ true → judged o f ≡ judged o F
    → powers_then f at F c o ≡ privileges_of (live at F) F c o

module _ (h : List Stamped) (n t : ℕ) (by : t ≤ n) (was : IsLawful (state_at h t)) (now : IsLawful (record { history = h; clock = n })) where
  abbrev F : Lists
  F = facts (up_to t h) t

  abbrev f : Lists
  f = facts h n

  abbrev P : Past
  P = past_at (state_at h t)

  abbrev p : Past
  p = past_at (record { history = h; clock = n })

  abbrev Found : Type 0
  Found = Result (Option Object) Refusal

  -- ---- grants

  abbrev granted_now : List ℕ → Found → Result Answer Refusal
  granted_now text found = found >>= (λ o. grants_on p (live n f) f n System o (Some t))

  abbrev granted_then : List ℕ → Found → Result Answer Refusal
  granted_then text found = found >>= (λ o. grants_on P (live t F) F t System o None)

  abbrev all_now : Object → Lists → Result Answer Refusal
  all_now o k = Ok (answer.Grants (map (grant_shown p f) (holders o k)))

  abbrev all_then : Object → Result Answer Refusal
  all_then o = Ok (answer.Grants (map (grant_shown P F) (holders o F)))

  on_now : (o : Object) → is_granted o ≡ true → grants_on p (live n f) f n System (Some o) (Some t) ≡ all_now o (facts h t)
  on_now (Folder d) is = in_time_so n t (all_now (Folder d) (facts h t)) by
  on_now (Group g) is = in_time_so n t (all_now (Group g) (facts h t)) by
  on_now (Def a) is = in_time_so n t (all_now (Def a) (facts h t)) by
  on_now (Attr a) is = absurd (cc)
  on_now (Subject s) is = absurd (cc)

  on_then : (o : Object) → is_granted o ≡ true → grants_on P (live t F) F t System (Some o) None ≡ all_then o
  on_then (Folder d) is = refl
  on_then (Group g) is = refl
  on_then (Def a) is = refl
  on_then (Attr a) is = absurd (cc)
  on_then (Subject s) is = absurd (cc)

  pub grants_agree : GrantsAgree (state_at h t) (record { history = h; clock = n })
  grants_agree o text then_text one is = record {
    grants = holders o F;
    told_now =
        now_is h n t by was now (query.Grants text (Some t))
        ∙ ap (granted_now text) (root_finds_object f now.named (live n f) text o one.named_now)
        ∙ on_now o is
        ∙ ap (all_now o) (sym (facts_then t h));
    told_then =
        then_is h n t by was now (query.Grants then_text None)
        ∙ ap (granted_then then_text) (root_finds_object F was.named (live t F) then_text o one.named_then)
        ∙ on_then o is;
  }

  -- ---- what someone could do

  -- an attribute is of the definition of which it was made
  definition_same : (a : ℕ) (x y : AttributeRow) → attribute_row a f.attributes ≡ Some x → attribute_row a F.attributes ≡ Some y → x.definition ≡ y.definition
  definition_same a x y here then_here =
      let one : def_of h n a ≡ Some x.definition = now.defined n a x (omega arith) here in
      let two : def_of h n a ≡ Some y.definition = now.defined t a y by (ap (λ (k : Lists). attribute_row a k.attributes) (sym (facts_then t h)) ∙ then_here) in
      let both : Some x.definition ≡ Some y.definition = sym one ∙ two in
      cc

  abbrev of_definition : ℕ → Option AttributeRow → Object
  of_definition a found = elim found [ None ↦ Attr a | Some row ↦ Def row.definition ]

  judged_same : (o : Object) → stands o f ≡ true → stands o F ≡ true → judged o f ≡ judged o F
  judged_same (Folder d) here then_here = refl
  judged_same (Group g) here then_here = refl
  judged_same (Def a) here then_here = refl
  judged_same (Attr a) here then_here =
      let x = its_row a f.attributes (sym (attribute_stands a f) ∙ here) in
      let y = its_row a F.attributes (sym (attribute_stands a F) ∙ then_here) in
      ap (of_definition a) x.1 ∙ (ap (λ d. Def d) (definition_same a x.0 y.0 x.1 y.1) ∙ sym (ap (of_definition a) y.1))
  judged_same (Subject s) here then_here = refl

  module _ (powers : PowersAgree) (o : Object) (here : stands o f ≡ true) (then_here : stands o F ≡ true) where
    abbrev could : Lists → Who → Result Answer Refusal
    could k who = Ok (answer.May (powers_then f t k who o))

    abbrev can : Who → Result Answer Refusal
    can who = Ok (answer.May (privileges_of (live t F) F who o))

    could_is : (who : Who) → who_stands who F ≡ true → could (facts h t) who ≡ can who
    could_is who stood = ap (λ (k : Lists). could k who) (sym (facts_then t h)) ∙ ap (λ (list : List Privilege). Ok (answer.May list)) (powers f F t who o then_here stood (judged_same o here then_here))

    own_same : own_told p (live n f) f n System (Some o) (Some t) ≡ own_told P (live t F) F t System (Some o) None
    own_same = in_time_so n t (could (facts h t) System) by ∙ could_is System refl

    abbrev as_admin : Bool → Result Answer Refusal → Object → Lists → Result Answer Refusal
    as_admin b told o k = if b then told else Err (not_admin k o)

    other_same : (e : Entity) (who : Who) → who_of e f ≡ Some who → who_of e F ≡ Some who → who_stands who F ≡ true
        → other_told p (live n f) f n System (Some o) e (Some t) ≡ other_told P (live t F) F t System (Some o) e None
    other_same e who is then_is stood =
        ap (λ b. as_admin b (powers_told p (live n f) f n (who_of e f) o (Some t)) o f) (administers f now.named (live n f) o here)
        ∙ ap (λ (w : Option Who). powers_told p (live n f) f n w o (Some t)) is
        ∙ in_time_so n t (could (facts h t) who) by
        ∙ could_is who stood
        ∙ sym (ap (λ b. as_admin b (powers_told P (live t F) F t (who_of e F) o None) o F) (administers F was.named (live t F) o then_here)
        ∙ ap (λ (w : Option Who). powers_told P (live t F) F t w o None) then_is)

    either_same : (b : Bool) (e : Entity) (who : Who) → who_of e f ≡ Some who → who_of e F ≡ Some who → who_stands who F ≡ true
        → (if b then own_told p (live n f) f n System (Some o) (Some t) else other_told p (live n f) f n System (Some o) e (Some t))
        ≡ (if b then own_told P (live t F) F t System (Some o) None else other_told P (live t F) F t System (Some o) e None)
    either_same true e who is then_is stood = own_same
    either_same false e who is then_is stood = other_same e who is then_is stood

  -- the caller or another
  abbrev asked_now : Entity → Option Object → Result Answer Refusal
  asked_now e o = if is_caller root e then own_told p (live n f) f n System o (Some t) else other_told p (live n f) f n System o e (Some t)

  abbrev asked_then : Entity → Option Object → Result Answer Refusal
  asked_then e o = if is_caller root e then own_told P (live t F) F t System o None else other_told P (live t F) F t System o e None

  abbrev powers_now : Entity → Found → Result Answer Refusal
  powers_now e found = found >>= (λ o. entity_found (live n f) f System e >>= (λ _. asked_now e o))

  abbrev powers_was : Entity → Found → Result Answer Refusal
  powers_was e found = found >>= (λ o. entity_found (live t F) F System e >>= (λ _. asked_then e o))

  abbrev person_in : List ℕ → Option ℕ → Found
  person_in text found = elim found [ None ↦ Err (NotFound text) | Some s ↦ Ok (Some (Subject s)) ]

  -- who stood then is found at both
  pub record IsWho (e : Entity) (who : Who) : Type 0 where
    pub is_now : who_of e f ≡ Some who
    pub stood : who_stands who F ≡ true
    pub found_now : (X : Result Answer Refusal) → (entity_found (live n f) f System e >>= (λ _. X)) ≡ X
    pub found_then : (X : Result Answer Refusal) → (entity_found (live t F) F System e >>= (λ _. X)) ≡ X

  person_who : (text : List ℕ) (who : Who) (found : Option ℕ) → subject_id text F.subjects ≡ found → option_map (λ s. Person s) found ≡ Some who → IsWho (entity.Person text) who
  person_who text who None at is = absurd (cc)
  person_who text who (Some s) at is =
      let one : Person s ≡ who = cc in
      let grown : subject_id text f.subjects ≡ Some s = id_grown text F.subjects f.subjects s (persons h n t by was now) at in
      record {
        is_now = ap (λ (found : Option ℕ). option_map (λ s. Person s) found) grown ∙ ap (λ (w : Who). Some w) one;
        stood = subst (λ (w : Who). who_stands w F ≡ true) one (id_stands text F.subjects s at);
        found_now = λ X. ap (λ (found : Option ℕ). person_in text found >>= (λ _. X)) grown;
        found_then = λ X. ap (λ (found : Option ℕ). person_in text found >>= (λ _. X)) at;
      }

  who_is : (e : Entity) (who : Who) → who_of e F ≡ Some who → IsWho e who
  who_is (entity.Person text) who is = person_who text who (subject_id text F.subjects) refl is
  who_is entity.System who is =
      let one : System ≡ who = cc in
      record {
        is_now = is;
        stood = subst (λ (w : Who). who_stands w F ≡ true) one refl;
        found_now = λ X. refl;
        found_then = λ X. refl;
      }
  who_is (entity.Group name) who is = absurd (cc)
  who_is entity.Everyone who is = absurd (cc)

  pub may_agrees : PowersAgree → MayAgree (state_at h t) (record { history = h; clock = n })
  may_agrees powers o text then_text e who one is =
      let someone : IsWho e who = who_is e who is in
      let here : stands o f ≡ true = object_stands f now.named text o one.named_now in
      let then_here : stands o F ≡ true = object_stands F was.named then_text o one.named_then in
      now_is h n t by was now (query.May text e (Some t))
      ∙ ap (powers_now e) (root_finds_object f now.named (live n f) text o one.named_now)
      ∙ someone.found_now (asked_now e (Some o))
      ∙ either_same powers o here then_here (is_caller root e) e who someone.is_now is someone.stood
      ∙ sym (then_is h n t by was now (query.May then_text e None)
      ∙ ap (powers_was e) (root_finds_object F was.named (live t F) then_text o one.named_then)
      ∙ someone.found_then (asked_then e (Some o)))

  -- ---- attributes

  -- all that was assigned root may read, at both
  reads_by : (q : Past) (L : Live) (k : Lists) (a d : ℕ) → q.def_of a ≡ Some d → reads_attribute q L k System a ≡ true
  reads_by q L k a d is = ap (λ (found : Option ℕ). elim found [ None ↦ false | Some x ↦ allowed.may L k System (Def x) AttrRead ]) is

  row_of : (a : ℕ) (found : Option AttributeRow) → attribute_row a F.attributes ≡ found → IsSome found → (row : AttributeRow) × (attribute_row a F.attributes ≡ Some row)
  row_of a None at some = absurd (cc)
  row_of a (Some row) at some = (row, at)

  reads_now : (row : AssignRow) → AssignStands F row → reads_attribute p (live n f) f System row.attribute ≡ true
  reads_now row there =
      let found = row_of row.attribute (attribute_row row.attribute F.attributes) refl there.attribute in
      reads_by p (live n f) f row.attribute found.0.definition (now.defined t row.attribute found.0 by (ap (λ (k : Lists). attribute_row row.attribute k.attributes) (sym (facts_then t h)) ∙ found.1))

  reads_then : (row : AssignRow) → AssignStands F row → reads_attribute P (live t F) F System row.attribute ≡ true
  reads_then row there =
      let found = row_of row.attribute (attribute_row row.attribute F.attributes) refl there.attribute in
      reads_by P (live t F) F row.attribute found.0.definition (was.defined t row.attribute found.0 (omega arith) found.1)

  abbrev of_now : List AssignRow → Result Answer Refusal
  of_now rows = Ok (answer.Attributes (map (assign_shown p) rows))

  abbrev of_then : List AssignRow → Result Answer Refusal
  of_then rows = Ok (answer.Attributes (map (assign_shown P) rows))

  abbrev read_now : List AssignRow → List AssignRow
  read_now rows = filter (λ (row : AssignRow). reads_attribute p (live n f) f System row.attribute) rows

  abbrev read_then : List AssignRow → List AssignRow
  read_then rows = filter (λ (row : AssignRow). reads_attribute P (live t F) F System row.attribute) rows

  all_assigned : (o : Object) → AllByRecursion (AssignStands F) (assigns_on o F.assigns)
  all_assigned o = all_filtered (AssignStands F) (λ (row : AssignRow). same_object row.owner o) F.assigns was.assigned.stand

  rows_now : (o : Object) → read_now (assigns_on o (facts h t).assigns) ≡ assigns_on o F.assigns
  rows_now o =
      ap (λ (k : Lists). read_now (assigns_on o k.assigns)) (sym (facts_then t h))
      ∙ none_left_out _ (assigns_on o F.assigns) (all_go (AssignStands F) (λ (row : AssignRow). reads_attribute p (live n f) f System row.attribute ≡ true) reads_now (assigns_on o F.assigns) (all_assigned o))

  rows_then : (o : Object) → read_then (assigns_on o F.assigns) ≡ assigns_on o F.assigns
  rows_then o = none_left_out _ (assigns_on o F.assigns) (all_go (AssignStands F) (λ (row : AssignRow). reads_attribute P (live t F) F System row.attribute ≡ true) reads_then (assigns_on o F.assigns) (all_assigned o))

  no_entity : (b : Bool) → not b ≡ true → b ≡ false
  no_entity true is = absurd (cc)
  no_entity false is = refl

  abbrev unless : Bool → Result Answer Refusal → Result Answer Refusal → Result Answer Refusal
  unless b refused told = if b then refused else told

  owned_now : (o : Object) (text : List ℕ) → is_owner o text ≡ true → attributes_on p (live n f) f n System text (Some o) (Some t) ≡ of_now (read_now (assigns_on o (facts h t).assigns))
  owned_now (Folder d) text is = in_time_so n t (of_now (read_now (assigns_on (Folder d) (facts h t).assigns))) by
  owned_now (Group g) text is =
      ap (λ b. if b then unfit (codes "object") n (Some t) else attributes_told p (live n f) f n System (Group g) (Some t)) (no_entity (is_entity_text text) is)
      ∙ in_time_so n t (of_now (read_now (assigns_on (Group g) (facts h t).assigns))) by
  owned_now (Def a) text is = absurd (cc)
  owned_now (Attr a) text is = absurd (cc)
  owned_now (Subject s) text is = in_time_so n t (of_now (read_now (assigns_on (Subject s) (facts h t).assigns))) by

  owned_then : (o : Object) (text : List ℕ) → is_owner o text ≡ true → attributes_on P (live t F) F t System text (Some o) None ≡ of_then (read_then (assigns_on o F.assigns))
  owned_then (Folder d) text is = refl
  owned_then (Group g) text is =
      ap (λ b. if b then unfit (codes "object") t None else of_then (read_then (assigns_on (Group g) F.assigns))) (no_entity (is_entity_text text) is)
  owned_then (Def a) text is = absurd (cc)
  owned_then (Attr a) text is = absurd (cc)
  owned_then (Subject s) text is = refl

  abbrev attributes_now : List ℕ → Found → Result Answer Refusal
  attributes_now text found = found >>= (λ o. attributes_on p (live n f) f n System text o (Some t))

  abbrev attributes_then : List ℕ → Found → Result Answer Refusal
  attributes_then text found = found >>= (λ o. attributes_on P (live t F) F t System text o None)

  pub attributes_agree : AttributesAgree (state_at h t) (record { history = h; clock = n })
  attributes_agree o text then_text one is then_so = record {
    assigns = assigns_on o F.assigns;
    told_now =
        now_is h n t by was now (query.Attributes text (Some t))
        ∙ ap (attributes_now text) (root_finds_object f now.named (live n f) text o one.named_now)
        ∙ owned_now o text is
        ∙ ap of_now (rows_now o);
    told_then =
        then_is h n t by was now (query.Attributes then_text None)
        ∙ ap (attributes_then then_text) (root_finds_object F was.named (live t F) then_text o one.named_then)
        ∙ owned_then o then_text then_so
        ∙ ap of_then (rows_then o);
  }

-- ---- over any two states

pub grants : (was now : State) → IsEarlier was now → IsLawful was → IsLawful now → GrantsAgree was now
grants was now earlier lawful_was lawful_now =
    subst (λ (s : State). GrantsAgree s now) (sym earlier.as_then)
    (grants_agree now.history now.clock was.clock earlier.later (subst IsLawful earlier.as_then lawful_was) lawful_now)

pub may : (was now : State) → IsEarlier was now → IsLawful was → IsLawful now → PowersAgree → MayAgree was now
may was now earlier lawful_was lawful_now powers =
    subst (λ (s : State). MayAgree s now) (sym earlier.as_then)
    (may_agrees now.history now.clock was.clock earlier.later (subst IsLawful earlier.as_then lawful_was) lawful_now powers)

pub attributes : (was now : State) → IsEarlier was now → IsLawful was → IsLawful now → AttributesAgree was now
attributes was now earlier lawful_was lawful_now =
    subst (λ (s : State). AttributesAgree s now) (sym earlier.as_then)
    (attributes_agree now.history now.clock was.clock earlier.later (subst IsLawful earlier.as_then lawful_was) lawful_now)
