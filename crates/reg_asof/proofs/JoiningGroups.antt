-- Of which groups a person was a member is told now by the intervals as it was told then.
use Rattle.std.proofs.Common.{◌≡◌, ◌≤◌, ◌==◌, ◌&&◌, ◌||◌, ◌++◌, ◌∷◌, [], List, ℕ, Bool, true, false, Option, None, Some, Result, Ok, Err, refl, ap, sym, ◌∙◌, subst, map, filter, bytes_eq}
use Rattle.std.specs.Prelude.{if◌then◌else◌}
use Rattle.std.specs.List.{AllByRecursion, list_any}
use Rattle.std.proofs.lemmas.Bool.{eq-eqb, eqb-true, or_left, or_right}
use Rattle.std.proofs.lemmas.List.Folds.{list_any-append}
use Rattle.std.proofs.lemmas.Slice.Eq.{bytes_eq-Decides}
use Rattle.reg_base.specs.declared.entity.Entity.TheVariants as entity
use Rattle.reg_terms.specs.declared.command.Stamped.{Stamped}
use Rattle.reg_terms.specs.declared.kinds.Object.{Object}
use Rattle.reg_terms.specs.declared.kinds.Object.TheVariants.{Folder, Group, Def, Attr, Subject}
use Rattle.reg_terms.specs.declared.query.Answer.{Answer}
use Rattle.reg_terms.specs.declared.query.Answer.TheVariants as answer
use Rattle.reg_terms.specs.declared.query.Query.TheVariants as query
use Rattle.reg_terms.specs.declared.refusal.Refusal.{Refusal}
use Rattle.reg_terms.specs.declared.refusal.Refusal.TheVariants.{NotFound}
use Rattle.reg_terms.specs.declared.rows.AttributeRow.{AttributeRow}
use Rattle.reg_terms.specs.declared.rows.FolderRow.{FolderRow}
use Rattle.reg_terms.specs.declared.rows.GroupRow.{GroupRow}
use Rattle.reg_terms.specs.declared.rows.SubjectRow.{SubjectRow}
use Rattle.reg_terms.specs.Kinds.{as_group, same_object}
use Rattle.reg_facts.specs.Children.{is_among}
use Rattle.reg_facts.specs.Edits.{subject_id}
use Rattle.reg_facts.specs.Lists.{Lists}
use Rattle.reg_facts.specs.Named.{AreNamed}
use Rattle.reg_facts.specs.Naming.{Placed, name_of, placed, placed_attribute, placed_definition, placed_folders, placed_group, resolve}
use Rattle.reg_facts.specs.Sound.{has_group, has_subject, is_named}
use Rattle.reg_effect.specs.declared.live.Live.{Live}
use Rattle.reg_effect.specs.Member.{member}
use Rattle.reg_priv.specs.declared.who.Who.TheVariants.{System}
use Rattle.reg_current.specs.Live.{live}
use Rattle.reg_machine.specs.History.{State, facts, up_to}
use Rattle.reg_machine.specs.Past.{was_member}
use Rattle.reg_view.specs.Answers.{groups_at}
use Rattle.reg_view.specs.Past.{Past, past_at}
use Rattle.reg_view.specs.View.{is_readable}
use Rattle.reg_asof.specs.Then.{state_at}
use Rattle.reg_asof.specs.Lawful.{IsLawful}
use Rattle.reg_asof.specs.Joined.{GroupsAgree, IsEarlier}
use Rattle.reg_asof.proofs.Growing.{Grows}
use Rattle.reg_asof.proofs.Joining.{all_go, in_time_so, member_then, now_is, persons, then_is}

-- ---- what is placed

abbrev this : Object → Placed → Bool
this o p = same_object p.object o

pub four : {X : Type 0} (test : X → Bool) (a b c d : List X) → list_any test (a ++ b ++ c ++ d) ≡ (((list_any test a || list_any test b) || list_any test c) || list_any test d)
four test a b c d = rw (list_any-append test ((a ++ b) ++ c) d, list_any-append test (a ++ b) c, list_any-append test a b) refl

no_folder : (o : Object) → ((d : ℕ) → same_object (Folder d) o ≡ false) → (rows : List FolderRow) → list_any (this o) (placed_folders rows) ≡ false
no_folder o differ [] = refl
no_folder o differ (row ∷ rows) =
    elim row.parent as (λ (parent : Option ℕ). list_any (this o) (elim parent [ None ↦ placed_folders rows | Some p ↦ (record { object = Folder row.id; folder = p; extension = row.extension }) ∷ placed_folders rows ]) ≡ false) [
      | None ↦ no_folder o differ rows
      | Some p ↦ rw (differ row.id) (no_folder o differ rows)
    ]

no_row : {R : Type 0} (place : R → Placed) (o : Object) → ((r : R) → same_object (place r).object o ≡ false) → (rows : List R) → list_any (this o) (map place rows) ≡ false
no_row place o differ [] = refl
no_row place o differ (r ∷ rows) = rw (differ r) (no_row place o differ rows)

group_rows : (g : ℕ) (rows : List GroupRow) → list_any (this (Group g)) (map placed_group rows) ≡ has_group g rows
group_rows g [] = refl
group_rows g (r ∷ rows) = ap (λ b. (r.id == g) || b) (group_rows g rows)

abbrev pub has_attribute : ℕ → List AttributeRow → Bool
has_attribute a rows = list_any (λ (r : AttributeRow). r.id == a) rows

attribute_rows : (a : ℕ) (rows : List AttributeRow) → list_any (this (Attr a)) (map placed_attribute rows) ≡ has_attribute a rows
attribute_rows a [] = refl
attribute_rows a (r ∷ rows) = ap (λ b. (r.id == a) || b) (attribute_rows a rows)

second_only : (a b c d x : Bool) → a ≡ false → b ≡ x → c ≡ false → d ≡ false → (((a || b) || c) || d) ≡ x
second_only a b c d true i j k l = rw (i, j) refl
second_only a b c d false i j k l = rw (i, j, k, l) refl

last_only : (a b c d x : Bool) → a ≡ false → b ≡ false → c ≡ false → d ≡ x → (((a || b) || c) || d) ≡ x
last_only a b c d x i j k l = rw (i, j, k, l) refl

-- a group has a name exactly where it stands
pub group_stands : (g : ℕ) (f : Lists) → is_named (Group g) f ≡ has_group g f.groups
unfolding placed
group_stands g f =
    four (this (Group g)) (placed_folders f.folders) (map placed_group f.groups) (map placed_definition f.definitions) (map placed_attribute f.attributes)
    ∙ second_only _ _ _ _ (has_group g f.groups) (no_folder (Group g) (λ d. refl) f.folders) (group_rows g f.groups) (no_row placed_definition (Group g) (λ r. refl) f.definitions) (no_row placed_attribute (Group g) (λ r. refl) f.attributes)

-- and so an attribute
pub attribute_stands : (a : ℕ) (f : Lists) → is_named (Attr a) f ≡ has_attribute a f.attributes
unfolding placed
attribute_stands a f =
    four (this (Attr a)) (placed_folders f.folders) (map placed_group f.groups) (map placed_definition f.definitions) (map placed_attribute f.attributes)
    ∙ last_only _ _ _ _ (has_attribute a f.attributes) (no_folder (Attr a) (λ d. refl) f.folders) (no_row placed_group (Attr a) (λ r. refl) f.groups) (no_row placed_definition (Attr a) (λ r. refl) f.definitions) (attribute_rows a f.attributes)

-- a person has no name
pub subject_unnamed : (s : ℕ) (f : Lists) → is_named (Subject s) f ≡ false
unfolding placed
subject_unnamed s f =
    four (this (Subject s)) (placed_folders f.folders) (map placed_group f.groups) (map placed_definition f.definitions) (map placed_attribute f.attributes)
    ∙ last_only _ _ _ _ false (no_folder (Subject s) (λ d. refl) f.folders) (no_row placed_group (Subject s) (λ r. refl) f.groups) (no_row placed_definition (Subject s) (λ r. refl) f.definitions) (no_row placed_attribute (Subject s) (λ r. refl) f.attributes)

-- ---- names of groups

-- what has a group's id is a group
pub group_found : (o : Option Object) (g : ℕ) → as_group o ≡ Some g → o ≡ Some (Group g)
group_found None g is = absurd (cc)
group_found (Some (Folder d)) g is = absurd (cc)
group_found (Some (Group x)) g is = let same : x ≡ g = cc in ap (λ n. Some (Group n)) same
group_found (Some (Def a)) g is = absurd (cc)
group_found (Some (Attr a)) g is = absurd (cc)
group_found (Some (Subject s)) g is = absurd (cc)

each_stands : (rows : List GroupRow) → AllByRecursion (λ (r : GroupRow). has_group r.id rows ≡ true) rows
each_stands [] = tt
each_stands (r ∷ rows) = (
  or_left (r.id == r.id) (has_group r.id rows) (eq-eqb r.id r.id refl),
  all_go (λ (x : GroupRow). has_group x.id rows ≡ true) (λ (x : GroupRow). has_group x.id (r ∷ rows) ≡ true) (λ x h. or_right (r.id == x.id) (has_group x.id rows) h) rows (each_stands rows),
)

module _ (f : Lists) (are : AreNamed f) (name : List ℕ) (g : ℕ) (here : resolve name f ≡ Some (Group g)) where
  abbrev called : ℕ → List ℕ
  called x = name_of (Group x) f

  only_one : (x : ℕ) → has_group x f.groups ≡ true → bytes_eq (called x) name ≡ true → x ≡ g
  only_one x stands same =
      let text : called x ≡ name = (bytes_eq-Decides (called x) name).0 same in
      let found : resolve (called x) f ≡ Some (Group x) = are.finds (Group x) (group_stands x f ∙ stands) in
      let both : Some (Group x) ≡ Some (Group g) = sym found ∙ (ap (λ n. resolve n f) text ∙ here) in
      cc

  its_name : (x : ℕ) → x ≡ g → bytes_eq (called x) name ≡ true
  its_name x is = (bytes_eq-Decides (called x) name).1 (ap called is ∙ (are.found name (Group g) here).0)

  same_answer : (a b : Bool) → (a ≡ true → b ≡ true) → (b ≡ true → a ≡ true) → a ≡ b
  same_answer true true to back = refl
  same_answer true false to back = sym (to refl)
  same_answer false true to back = back refl
  same_answer false false to back = refl

  name_is : (x : ℕ) → has_group x f.groups ≡ true → bytes_eq (called x) name ≡ (x == g)
  name_is x stands = same_answer (bytes_eq (called x) name) (x == g) (λ same. eq-eqb x g (only_one x stands same)) (λ same. its_name x (eqb-true x g same))

  module _ (has : ℕ → Bool) where
    abbrev names_of : List GroupRow → List (List ℕ)
    names_of rows = map (λ (r : GroupRow). called r.id) (filter (λ (r : GroupRow). has r.id && true) rows)

    neither : (b : Bool) → (b && false) ≡ false
    neither true = refl
    neither false = refl

    one_more : (x : ℕ) (b : Bool) (rows : List GroupRow) → has x ≡ b → has_group x f.groups ≡ true → is_among name (names_of rows) ≡ (has g && has_group g rows) → is_among name (if b && true then called x ∷ names_of rows else names_of rows) ≡ (has g && ((x == g) || has_group g rows))
    one_more x true rows is stands rest =
        elim (x == g) as (λ e. (x == g) ≡ e → (bytes_eq (called x) name || is_among name (names_of rows)) ≡ (has g && ((x == g) || has_group g rows))) [
          | true ↦ λ same.
              let one : x ≡ g = eqb-true x g same in
              let had : has g ≡ true = ap has (sym one) ∙ is in
              rw (name_is x stands, same, had) refl
          | false ↦ λ other. rw (name_is x stands, other) rest
        ] refl
    one_more x false rows is stands rest =
        elim (x == g) as (λ e. (x == g) ≡ e → is_among name (names_of rows) ≡ (has g && ((x == g) || has_group g rows))) [
          | true ↦ λ same.
              let one : x ≡ g = eqb-true x g same in
              let had : has g ≡ false = ap has (sym one) ∙ is in
              rw had (rw had at rest)
          | false ↦ λ other. rw other rest
        ] refl

    one_row : (r : GroupRow) (rows : List GroupRow) (b : Bool) → has r.id ≡ b → has_group r.id f.groups ≡ true → is_among name (names_of rows) ≡ (has g && has_group g rows) → is_among name (names_of (r ∷ rows)) ≡ (has g && has_group g (r ∷ rows))
    one_row r rows true is stands rest = rw is (one_more r.id true rows is stands rest)
    one_row r rows false is stands rest = rw is (one_more r.id false rows is stands rest)

    -- a test by names
    among_rows : (rows : List GroupRow) → AllByRecursion (λ (r : GroupRow). has_group r.id f.groups ≡ true) rows → is_among name (names_of rows) ≡ (has g && has_group g rows)
    among_rows [] all = sym (neither (has g))
    among_rows (r ∷ rows) all = one_row r rows (has r.id) refl all.0 (among_rows rows all.1)

    always : (b : Bool) → b ≡ true → (has g && b) ≡ has g
    always b is = rw is (last (has g))
      where
        last : (b : Bool) → (b && true) ≡ b
        last true = refl
        last false = refl

    -- the group of this name is among them exactly where it passes
    pub among_is : is_among name (names_of f.groups) ≡ has g
    among_is = among_rows f.groups (each_stands f.groups) ∙ always (has_group g f.groups) (sym (group_stands g f) ∙ (are.found name (Group g) here).1)

-- ---- persons by their texts

pub id_kept : (text : List ℕ) (front back : List SubjectRow) (s : ℕ) → subject_id text front ≡ Some s → subject_id text (front ++ back) ≡ Some s
id_kept text [] back s is = absurd (cc)
id_kept text (r ∷ front) back s is =
    elim (bytes_eq r.text text) as (λ b. bytes_eq r.text text ≡ b → subject_id text ((r ∷ front) ++ back) ≡ Some s) [
      | true ↦ λ same. rw same (rw same at is)
      | false ↦ λ other. rw other (id_kept text front back s (rw other at is))
    ] refl

pub id_grown : (text : List ℕ) (old new : List SubjectRow) (s : ℕ) → Grows old new → subject_id text old ≡ Some s → subject_id text new ≡ Some s
id_grown text old new s grows is = ap (subject_id text) grows.1 ∙ id_kept text old grows.0 s is

pub id_stands : (text : List ℕ) (rows : List SubjectRow) (s : ℕ) → subject_id text rows ≡ Some s → has_subject s rows ≡ true
id_stands text [] s is = absurd (cc)
id_stands text (r ∷ rows) s is =
    elim (bytes_eq r.text text) as (λ b. bytes_eq r.text text ≡ b → has_subject s (r ∷ rows) ≡ true) [
      | true ↦ λ same.
          let first : Some r.id ≡ Some s = rw same at is in
          let one : r.id ≡ s = cc in
          or_left (r.id == s) (has_subject s rows) (eq-eqb r.id s one)
      | false ↦ λ other. or_right (r.id == s) (has_subject s rows) (id_stands text rows s (rw other at is))
    ] refl

-- ---- both registries

module _ (h : List Stamped) (n t : ℕ) (by : t ≤ n) (was : IsLawful (state_at h t)) (now : IsLawful (record { history = h; clock = n })) where
  abbrev F : Lists
  F = facts (up_to t h) t

  abbrev f : Lists
  f = facts h n

  abbrev P : Past
  P = past_at (state_at h t)

  abbrev p : Past
  p = past_at (record { history = h; clock = n })

  abbrev names_where : (ℕ → Bool) → Live → Lists → List (List ℕ)
  names_where has L k =
      map (λ (row : GroupRow). name_of (Group row.id) k) (filter (λ (row : GroupRow). has row.id && is_readable L k System (Group row.id)) k.groups)

  abbrev found_now : List ℕ → Option ℕ → Result Answer Refusal
  found_now text o = elim o [ None ↦ Err (NotFound text) | Some s ↦ groups_at p (live n f) f n System s (Some t) ]

  abbrev found_then : List ℕ → Option ℕ → Result Answer Refusal
  found_then text o = elim o [ None ↦ Err (NotFound text) | Some s ↦ groups_at P (live t F) F t System s None ]

  pub groups_agree : GroupsAgree (state_at h t) (record { history = h; clock = n })
  groups_agree text s is = record {
    names = names_where (λ g. was_member h t g s) (live n f) f;
    then_names = names_where (λ g. member (live t F) g s) (live t F) F;
    told_now =
        now_is h n t by was now (query.Groups (entity.Person text) (Some t))
        ∙ ap (found_now text) (id_grown text F.subjects f.subjects s (persons h n t by was now) is)
        ∙ in_time_so n t (Ok (answer.Groups (names_where (λ g. was_member h t g s) (live n f) f))) by;
    told_then =
        then_is h n t by was now (query.Groups (entity.Person text) None)
        ∙ ap (found_then text) is;
    same = λ g name then_name at then_at.
        among_is f now.named name g (group_found (resolve name f) g at) (λ x. was_member h t x s)
        ∙ member_then h n t by was now g s
        ∙ sym (among_is F was.named then_name g (group_found (resolve then_name F) g then_at) (λ x. member (live t F) x s));
  }

pub groups : (was now : State) → IsEarlier was now → IsLawful was → IsLawful now → GroupsAgree was now
groups was now earlier lawful_was lawful_now =
    subst (λ (s : State). GroupsAgree s now) (sym earlier.as_then)
    (groups_agree now.history now.clock was.clock earlier.later (subst IsLawful earlier.as_then lawful_was) lawful_now)
