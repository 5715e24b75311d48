-- The attributes of an owner over the facts are those that the view shows.
use Rattle.std.proofs.Common.{◌≡◌, ◌∷◌, ℕ, List, [], Bool, true, false, Option, Some, None, Result, Ok, Err, inl, inr, refl, sym, ap, ◌∙◌, map, bytes_eq, codes}
use Rattle.std.specs.Prelude.{if◌then◌else◌}
use Rattle.std.proofs.lemmas.Bool.{cases_Bool}
use Rattle.reg_base.specs.declared.privilege.Privilege.{Privilege}
use Rattle.reg_base.specs.declared.privilege.Privilege.TheVariants as privilege
use Rattle.reg_terms.specs.declared.kinds.Object.{Object}
use Rattle.reg_terms.specs.declared.kinds.Object.TheVariants.{Folder, Group, Def, Attr, Subject}
use Rattle.reg_terms.specs.declared.refusal.Refusal.{Refusal}
use Rattle.reg_terms.specs.declared.refusal.Refusal.TheVariants.{NotFound, WrongKind}
use Rattle.reg_terms.specs.declared.rows.SubjectRow.{SubjectRow}
use Rattle.reg_terms.specs.declared.shown.AssignShown.{AssignShown}
use Rattle.reg_terms.specs.declared.query.Answer.{Answer}
use Rattle.reg_terms.specs.declared.query.Answer.TheVariants as answer
use Rattle.reg_facts.specs.Attributes.{assigns_on}
use Rattle.reg_facts.specs.Edits.{subject_id}
use Rattle.reg_facts.specs.Lists.{Lists}
use Rattle.reg_facts.specs.Named.{AreNamed}
use Rattle.reg_facts.specs.Naming.{name_of, resolve}
use Rattle.reg_facts.specs.Sound.{IsSound}
use Rattle.reg_effect.specs.declared.live.Live.{Live}
use Rattle.reg_priv.specs.declared.who.Who.{Who}
use Rattle.reg_priv.specs.May.{may}
use Rattle.reg_view.specs.Answers as answers
use Rattle.reg_view.specs.Past.{Past, moment_of}
use Rattle.reg_view.specs.Show as shown
use Rattle.reg_view.specs.Show.{◌>>=◌, denied, found_or, is_entity_text, named, timed, Named, shown_attributes}
use Rattle.reg_view.specs.View.{View, OwnerRead, assigns_shown, objects, owned, owner_read, person_read, reads_owner, seen_by}
use Rattle.reg_view.proofs.Found.{found_by}
use Rattle.reg_view.proofs.Meaning.{kind_of, by_object}
use Rattle.reg_view.proofs.Powers.{timed_same}
use Rattle.reg_view.proofs.Seen.{its_row}
use Rattle.reg_view.proofs.Standing.{object_there, objects_named, subject_unnamed}

module _ (past : Past) (L : Live) (f : Lists) (sound : IsSound f) (are : AreNamed f) (c : Who) (now : ℕ) (by : List ℕ)
    (is_facts : past.facts now ≡ f) (when : Option ℕ) where
  abbrev moment : ℕ
  moment = moment_of now when

  abbrev v : View
  v = seen_by past L f now moment by c

  abbrev told : List AssignShown → Result Answer Refusal
  told assigns = Ok (answer.Attributes assigns)

  abbrev told_then : Object → Result Answer Refusal
  told_then o = timed v when (told (owned past L f c moment o))

  abbrev unfit : Result Answer Refusal
  unfit = timed v when (Err (WrongKind (codes "object")))

  -- what is assigned now is what was at the present moment
  told_same : (o : Object) → answers.attributes_told past L f now c o when ≡ told_then o
  told_same o =
      let present = ap (λ (g : Lists). told (assigns_shown past L f c (assigns_on o g.assigns))) (sym is_facts) in
      timed_same now (λ t. told (answers.attributes_at past L f c o t)) (λ t. told (owned past L f c t o)) present (λ t. refl) when

  -- ---- folders and groups

  abbrev reads : Object → Bool
  reads o = reads_owner L f c o

  abbrev read : Object → OwnerRead
  read o = owner_read past L f c moment o

  abbrev name : OwnerRead → List ℕ
  name x = x.name

  abbrev if_read : Object → Bool → Option OwnerRead
  if_read o b = if b then Some (read o) else None

  -- what is listed of an owner by its name
  owner_is : (text : List ℕ) (o : Object) → resolve text f ≡ Some o → named name v.owners text ≡ if_read o (reads o)
  owner_is text o at =
      let same : Object → Object = λ x. x in
      found_by f are text same reads read name (λ r. refl) (objects f) (Some o) (objects_named f sound) at
      ∙ its_row same reads read (objects f) o o (object_there f sound o (are.found text o at).1)

  -- a privilege lets read the attributes
  module _ (text : List ℕ) (o : Object) (p : Privilege) (at : resolve text f ≡ Some o) (by_it : reads o ≡ may L f c o p) where
    abbrev goes : Option OwnerRead → Result Answer Refusal
    goes x = found_or x (denied text p) >>= (λ (r : OwnerRead). timed v when (told r.assignments))

    decided : (b : Bool) (e : Refusal) → e ≡ denied text p
        → (if b then answers.attributes_told past L f now c o when else Err e) ≡ goes (if_read o b)
    decided true e is = told_same o
    decided false e is = ap (λ r. Err r) is

    owner_same : answers.owner_told past L f now c o p when ≡ shown.owner_told v when v.owners text (denied text p)
    owner_same =
        decided (may L f c o p) (denied (name_of o f) p) (ap (λ n. denied n p) (are.found text o at).0)
        ∙ ap (λ b. goes (if_read o b)) (sym by_it)
        ∙ sym (ap goes (owner_is text o at))

  abbrev group_now : ℕ → Result Answer Refusal
  group_now g = answers.owner_told past L f now c (Group g) privilege.GroupAttrRead when

  abbrev group_shown : List ℕ → Result Answer Refusal
  group_shown text = shown.owner_told v when v.owners text (denied text privilege.GroupAttrRead)

  -- a group, which is no owner by its entity's text
  group_same : (text : List ℕ) (g : ℕ) (entity : Bool) → resolve text f ≡ Some (Group g)
      → (if entity then unfit else group_now g) ≡ (if entity then unfit else group_shown text)
  group_same text g true at = refl
  group_same text g false at = owner_same text (Group g) privilege.GroupAttrRead at refl

  named_same : (asked text : List ℕ) (o : Object) → resolve text f ≡ Some o
      → answers.attributes_of_object past L f now c asked o when ≡ shown.attributes_on v when asked (Named text (kind_of f o))
  named_same asked text (Folder d) at = owner_same text (Folder d) privilege.StemAttrRead at refl
  named_same asked text (Group g) at = group_same text g (is_entity_text asked) at
  named_same asked text (Def a) at = refl
  named_same asked text (Attr a) at = refl
  named_same asked text (Subject s) at = absurd (subject_unnamed f sound s (are.found text (Subject s) at).1)

  -- ---- persons

  person_found : (text : List ℕ) (s : ℕ) (rows : List SubjectRow) → subject_id text rows ≡ Some s
      → shown.owner_told v when (map (person_read past L f c moment) rows) text (NotFound text) ≡ told_then (Subject s)
  person_found text s [] at = cc
  person_found text s (row ∷ rows) at = elim (cases_Bool (bytes_eq row.text text)) [
    | inl t ↦
        let one : Some row.id ≡ Some s = rw t at at in
        let is : row.id ≡ s = cc in
        rw t (ap (λ x. told_then (Subject x)) is)
    | inr t ↦ rw t (person_found text s rows (rw t at at))
  ]

  -- ---- whatever a text names

  pub attributes_agree : (text : List ℕ) → answers.attributes_of past L f now c text when ≡ shown_attributes v text when
  attributes_agree text =
      by_object past moment L f sound are c now by
      (λ o. answers.attributes_on past L f now c text o when) (shown.attributes_on v when text) refl
      (λ person s at. told_same (Subject s) ∙ sym (person_found person s f.subjects at))
      (λ named o at sees. named_same text named o at) text
