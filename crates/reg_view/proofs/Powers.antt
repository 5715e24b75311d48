-- Grants and privileges over the facts are those that the view shows.
use Rattle.std.proofs.Common.{◌≡◌, ◌==◌, ◌&&◌, ◌∷◌, ℕ, List, [], Bool, true, false, Option, Some, None, Result, Ok, Err, inl, inr, refl, sym, ap, ◌∙◌, map, filter, bytes_eq}
use Rattle.std.specs.Prelude.{if◌then◌else◌, option_map}
use Rattle.std.proofs.lemmas.Bool.{cases_Bool, eq-eqb, or_left, or_right}
use Rattle.reg_base.specs.Entities.{entity_of}
use Rattle.reg_base.specs.declared.entity.Entity.{Entity}
use Rattle.reg_base.specs.declared.entity.Entity.TheVariants as entity
use Rattle.reg_base.specs.declared.privilege.Privilege.{Privilege}
use Rattle.reg_base.specs.declared.privilege.Privilege.TheVariants as privilege
use Rattle.reg_terms.specs.Privileges.{all_privileges}
use Rattle.reg_terms.specs.declared.kinds.Object.{Object}
use Rattle.reg_terms.specs.declared.kinds.Object.TheVariants.{Folder, Group, Def, Attr, Subject}
use Rattle.reg_terms.specs.declared.refusal.Refusal.{Refusal}
use Rattle.reg_terms.specs.declared.refusal.Refusal.TheVariants.{NotFound}
use Rattle.reg_terms.specs.declared.rows.SubjectRow.{SubjectRow}
use Rattle.reg_terms.specs.declared.query.Answer.{Answer}
use Rattle.reg_terms.specs.declared.query.Answer.TheVariants as answer
use Rattle.reg_facts.specs.Edits.{subject_id}
use Rattle.reg_facts.specs.Lists.{Lists}
use Rattle.reg_facts.specs.Named.{AreNamed}
use Rattle.reg_facts.specs.Naming.{name_of, resolve}
use Rattle.reg_facts.specs.Sound.{IsSound, has_subject, is_named}
use Rattle.reg_effect.specs.declared.live.Live.{Live}
use Rattle.reg_priv.specs.declared.who.Who.{Who}
use Rattle.reg_priv.specs.declared.who.Who.TheVariants as who
use Rattle.reg_priv.specs.Holders.{holders}
use Rattle.reg_priv.specs.May.{is_root, judged, may, privileges_of, visible, who_of}
use Rattle.reg_current.specs.Live.{live}
use Rattle.reg_machine.specs.Standing.{stands}
use Rattle.reg_view.specs.Answers as answers
use Rattle.reg_view.specs.Past.{Past, moment_of}
use Rattle.reg_view.specs.Powers.{may_on, powers_then, who_stands}
use Rattle.reg_view.specs.Show as shown
use Rattle.reg_view.specs.Show.{◌>>=◌, found_or, denied, in_time, named, root_denied, timed, is_caller, Kind, Meant, AFolder, AGroup, ADefinition, AnAttribute, Named, ASubject, Internal, entity_seen, shown_grants, shown_may}
use Rattle.reg_view.specs.Texts.{grant_shown}
use Rattle.reg_view.specs.View.{View, Administered, Powers, administered, caller_of, is_admin, objects, own_powers, person_powers, powers_at, seen_by}
use Rattle.reg_view.proofs.Found.{found_by}
use Rattle.reg_view.proofs.Held.{filter_same}
use Rattle.reg_view.proofs.Meaning.{Stands, kind_of, by_entity, by_object}
use Rattle.reg_view.proofs.PastGroups.{in_time_same}
use Rattle.reg_view.proofs.Seen.{its_row}
use Rattle.reg_view.proofs.Standing.{object_there, objects_named, subject_unnamed}

-- ---- who stands

-- a person that is found by its text stands
subject_stands : (text : List ℕ) (s : ℕ) (rows : List SubjectRow) → subject_id text rows ≡ Some s → has_subject s rows ≡ true
subject_stands text s [] h = cc
subject_stands text s (row ∷ rows) h = elim (cases_Bool (bytes_eq row.text text)) [
  | inl t ↦
      let one : Some row.id ≡ Some s = rw t at h in
      let is : row.id ≡ s = cc in
      or_left (row.id == s) (has_subject s rows) (eq-eqb row.id s is)
  | inr t ↦ or_right (row.id == s) (has_subject s rows) (subject_stands text s rows (rw t at h))
]

person_caller : (f : Lists) (text : List ℕ) (c : Who) (o : Option ℕ) → subject_id text f.subjects ≡ o → option_map (λ (s : ℕ). who.Person s) o ≡ Some c → who_stands c f ≡ true
person_caller f text c None found h = cc
person_caller f text c (Some s) found h = let is : who.Person s ≡ c = cc in ap (λ w. who_stands w f) (sym is) ∙ subject_stands text s f.subjects found

entity_caller : (f : Lists) (c : Who) (o : Option Entity) → elim o [ None ↦ None | Some e ↦ who_of e f ] ≡ Some c → who_stands c f ≡ true
entity_caller f c None h = cc
entity_caller f c (Some (entity.Person text)) h = person_caller f text c (subject_id text f.subjects) refl h
entity_caller f c (Some (entity.Group name)) h = cc
entity_caller f c (Some entity.System) h = let is : who.System ≡ c = cc in ap (λ w. who_stands w f) (sym is)
entity_caller f c (Some entity.Everyone) h = cc

-- a caller stands
pub caller_stands : (f : Lists) (by : List ℕ) (c : Who) → caller_of by f ≡ Some c → who_stands c f ≡ true
caller_stands f by c h = entity_caller f c (entity_of by) h

-- what has a name stands
named_stands : (f : Lists) (o : Object) → ((s : ℕ) → o ≡ Subject s → ⊥) → is_named o f ≡ true → stands o f ≡ true
named_stands f (Folder d) other h = h
named_stands f (Group g) other h = h
named_stands f (Def a) other h = h
named_stands f (Attr a) other h = h
named_stands f (Subject s) other h = absurd (other s refl)

-- ---- the moment asked

abbrev answered : List Privilege → Result Answer Refusal
answered ps = Ok (answer.May ps)

-- of now where none is named, and else of the moment
pub timed_same : (now : ℕ) (X : Option ℕ → Result Answer Refusal) (Y : ℕ → Result Answer Refusal) → X None ≡ Y now → ((t : ℕ) → X (Some t) ≡ Y t) → (when : Option ℕ)
    → (in_time now when >>= (λ _. X when)) ≡ (in_time now when >>= (λ _. Y (moment_of now when)))
timed_same now X Y present earlier None = present
timed_same now X Y present earlier (Some t) = ap (λ r. in_time now (Some t) >>= (λ _. r)) (earlier t) ∙ in_time_same Y now t

-- what someone could do is what it may do by the facts and the memberships of then, where both stood and the same grants count
pub powers_by : (f F : Lists) (at : ℕ) (w : Who) (o : Object) → stands o F ≡ true → who_stands w F ≡ true → judged o f ≡ judged o F → powers_then f at F w o ≡ privileges_of (live at F) F w o
powers_by f F at w o there stood same =
    rw (there, stood) refl
    ∙ ap (λ x. filter (may_on (live at F) F w x) all_privileges) same
    ∙ sym (filter_same (may (live at F) F w o) (may_on (live at F) F w (judged o F)) all_privileges (λ p. refl))

-- what someone may do is what it could do at the present moment, where it stands and the object does
privileges_now : (L : Live) (f F : Lists) (now : ℕ) (w : Who) (o : Object) → F ≡ f → L ≡ live now f → stands o f ≡ true → who_stands w f ≡ true → privileges_of L f w o ≡ powers_then f now F w o
privileges_now L f F now w o is_facts is_live there stood =
    ap (λ l. privileges_of l f w o) is_live
    ∙ sym (ap (λ g. powers_then f now g w o) is_facts ∙ powers_by f f now w o there stood refl)

-- the privileges on the object whose grants count, where both stood, and else none
pub powers_when : (f F : Lists) (at : ℕ) (w : Who) (o counts : Object) (list : List Privilege) → (stands o F && who_stands w F) ≡ true → counts ≡ judged o f → list ≡ filter (may_on (live at F) F w counts) all_privileges → list ≡ powers_then f at F w o
powers_when f F at w o counts list both counts_is is = is ∙ ap (λ x. filter (may_on (live at F) F w x) all_privileges) counts_is ∙ sym (rw both refl)

-- on a subject there are none
nothing_then : (b : Bool) (L : Live) (f : Lists) (w : Who) (s : ℕ) → (if b then filter (may_on L f w (Subject s)) all_privileges else []) ≡ []
nothing_then true L f w s = refl
nothing_then false L f w s = refl

module _ (past : Past) (L : Live) (f : Lists) (sound : IsSound f) (are : AreNamed f) (c : Who) (now : ℕ) (by : List ℕ) (is_facts : past.facts now ≡ f) (is_live : L ≡ live now f) (standing : who_stands c f ≡ true) (when : Option ℕ) where
  abbrev moment : ℕ
  moment = moment_of now when

  abbrev v : View
  v = seen_by past L f now moment by c

  -- what is listed of an object by its name
  own_is : (name : List ℕ) (o : Object) → resolve name f ≡ Some o → visible L f c o ≡ true → named (λ (p : Powers). p.name) v.own name ≡ Some (own_powers past f moment c o)
  own_is name o at sees =
      found_by f are name (λ (x : Object). x) (visible L f c) (own_powers past f moment c) (λ (p : Powers). p.name) (λ r. refl) (objects f) (Some o) (objects_named f sound) at
      ∙ its_row (λ (x : Object). x) (visible L f c) (own_powers past f moment c) (objects f) o o (object_there f sound o (are.found name o at).1)
      ∙ ap (λ b. if b then Some (own_powers past f moment c o) else None) sees

  admin_is : (name : List ℕ) (o : Object) → resolve name f ≡ Some o → named (λ (a : Administered). a.name) v.administered name ≡ (if is_admin L f c o then Some (administered past f moment o) else None)
  admin_is name o at =
      found_by f are name (λ (x : Object). x) (is_admin L f c) (administered past f moment) (λ (a : Administered). a.name) (λ r. refl) (objects f) (Some o) (objects_named f sound) at
      ∙ its_row (λ (x : Object). x) (is_admin L f c) (administered past f moment) (objects f) o o (object_there f sound o (are.found name o at).1)

  -- who isn't an object's admin is answered the same
  lacks_same : (name : List ℕ) (o : Object) → name_of o f ≡ name → ((s : ℕ) → o ≡ Subject s → ⊥) → answers.not_admin f o ≡ shown.not_admin name (kind_of f o)
  lacks_same name (Folder d) is other = ap (λ n. denied n privilege.StemAdmin) is
  lacks_same name (Group g) is other = ap (λ n. denied n privilege.Admin) is
  lacks_same name (Def a) is other = ap (λ n. denied n privilege.AttrAdmin) is
  lacks_same name (Attr a) is other = refl
  lacks_same name (Subject s) is other = absurd (other s refl)

  -- going on as an object's admin
  module _ (k : Administered → Result Answer Refusal) (m : Result Answer Refusal) (name : List ℕ) (o : Object) (at : resolve name f ≡ Some o) (same : m ≡ k (administered past f moment o)) where
    abbrev goes : Option Administered → Result Answer Refusal
    goes a = found_or a (shown.not_admin name (kind_of f o)) >>= k

    decided : (b : Bool) (e : Refusal) → e ≡ shown.not_admin name (kind_of f o) → (if b then m else Err e) ≡ goes (if b then Some (administered past f moment o) else None)
    decided true e is = same
    decided false e is = ap (λ r. Err r) is

    as_admin : ((s : ℕ) → o ≡ Subject s → ⊥) → (if is_admin L f c o then m else Err (answers.not_admin f o)) ≡ (shown.as_admin v name (kind_of f o) >>= k)
    as_admin other =
        decided (is_admin L f c o) (answers.not_admin f o) (lacks_same name o (are.found name o at).0 other)
        ∙ sym (ap goes (admin_is name o at))

  no_subject : (name : List ℕ) (o : Object) → resolve name f ≡ Some o → (s : ℕ) → o ≡ Subject s → ⊥
  no_subject name o at s is = subject_unnamed f sound s (ap (λ x. is_named x f) (sym is) ∙ (are.found name o at).1)

  there : (name : List ℕ) (o : Object) → resolve name f ≡ Some o → stands o f ≡ true
  there name o at = named_stands f o (no_subject name o at) (are.found name o at).1

  -- ---- grants

  abbrev told_grants : Object → Lists → Result Answer Refusal
  told_grants o g = Ok (answer.Grants (map (grant_shown past f) (holders o g)))

  all_same : (o : Object) → answers.all_grants past f now o when ≡ timed v when (told_grants o (past.facts moment))
  all_same o = timed_same now (λ t. Ok (answer.Grants (map (grant_shown past f) (answers.grants_at past f o t)))) (λ t. told_grants o (past.facts t)) (ap (told_grants o) (sym is_facts)) (λ t. refl) when

  grants_same : (o : Object) → ((s : ℕ) → o ≡ Subject s → ⊥) → answers.grants_told past f now o when ≡ timed v when (shown.grants_told (administered past f moment o) (kind_of f o))
  grants_same (Folder d) other = all_same (Folder d)
  grants_same (Group g) other = all_same (Group g)
  grants_same (Def a) other = all_same (Def a)
  grants_same (Attr a) other = refl
  grants_same (Subject s) other = absurd (other s refl)

  pub grants_agree : (text : List ℕ) → answers.grants_of past L f now c text when ≡ shown_grants v text when
  grants_agree text = by_object past moment L f sound are c now by (λ o. answers.grants_on past L f now c o when) (shown.grants_on v when) refl (λ text s at. refl)
      (λ name o at sees. as_admin (λ (a : Administered). timed v when (shown.grants_told a (kind_of f o))) (answers.grants_told past f now o when) name o at (grants_same o (no_subject name o at)) (no_subject name o at)) text

  -- ---- what someone may do

  powers_same : (w : Who) (o : Object) → stands o f ≡ true → who_stands w f ≡ true → answers.powers_of past L f now w o when ≡ timed v when (answered (powers_at past f moment w o))
  powers_same w o so sw = timed_same now (λ t. answered (answers.privileges_at past L f w o t)) (λ t. answered (powers_at past f t w o)) (ap answered (privileges_now L f (past.facts now) now w o is_facts is_live so sw)) (λ t. refl) when

  -- a subject has none
  nothing_on : (w : Who) (s : ℕ) → answers.powers_of past L f now w (Subject s) when ≡ timed v when (answered [])
  nothing_on w s = timed_same now (λ t. answered (answers.privileges_at past L f w (Subject s) t)) (λ t. answered []) refl (λ t. ap answered (nothing_then (stands (Subject s) (past.facts t) && who_stands w (past.facts t)) (live t (past.facts t)) (past.facts t) w s)) when

  person_found : (o : Object) (text : List ℕ) (s : ℕ) (rows : List SubjectRow) → subject_id text rows ≡ Some s
      → (found_or (named (λ (p : Powers). p.name) (map (person_powers past f moment o) rows) text) (NotFound text) >>= (λ (p : Powers). Ok (answer.May p.privileges))) ≡ answered (powers_at past f moment (who.Person s) o)
  person_found o text s [] at = cc
  person_found o text s (row ∷ rows) at = elim (cases_Bool (bytes_eq row.text text)) [
    | inl t ↦
        let one : Some row.id ≡ Some s = rw t at at in
        let is : row.id ≡ s = cc in
        rw t (ap (λ x. answered (powers_at past f moment (who.Person x) o)) is)
    | inr t ↦ rw t (person_found o text s rows (rw t at at))
  ]

  abbrev told_of : Object → Option ℕ → Result Answer Refusal
  told_of o found = answers.powers_told past L f now (option_map (λ s. who.Person s) found) o when

  -- of anyone that is found, as the object's admin is told
  told_same : (o : Object) (e : Entity) → stands o f ≡ true → Stands f e → answers.powers_told past L f now (who_of e f) o when ≡ timed v when (shown.powers_for (administered past f moment o) e)
  told_same o (entity.Person text) so found =
      ap (told_of o) found.1
      ∙ powers_same (who.Person found.0) o so (subject_stands text found.0 f.subjects found.1)
      ∙ ap (timed v when) (sym (person_found o text found.0 f.subjects found.1))
  told_same o (entity.Group name) so found = refl
  told_same o entity.System so found = powers_same who.System o so refl
  told_same o entity.Everyone so found = refl

  nothing_same : (s : ℕ) (e : Entity) → Stands f e → answers.powers_told past L f now (who_of e f) (Subject s) when ≡ timed v when (shown.nothing_for e)
  nothing_same s (entity.Person text) found = ap (told_of (Subject s)) found.1 ∙ nothing_on (who.Person found.0) s
  nothing_same s (entity.Group name) found = refl
  nothing_same s entity.System found = nothing_on who.System s
  nothing_same s entity.Everyone found = refl

  -- the caller itself, or another
  module _ (e : Entity) where
    abbrev tells : Option Object → Result Answer Refusal
    tells o = if is_caller by e then answers.own_told past L f now c o when else answers.other_told past L f now c o e when

    abbrev shows : Meant → Entity → Result Answer Refusal
    shows o x = if is_caller by x then shown.own_told v when o else shown.other_told v when o x

    internal : (b : Bool) → (if b then answers.own_told past L f now c None when else answers.other_told past L f now c None e when) ≡ (if b then shown.own_told v when Internal else shown.other_told v when Internal e)
    internal true = refl
    internal false = refl

    on_subject : (text : List ℕ) (b root : Bool) (s : ℕ) → Stands f e → (if b then answers.own_told past L f now c (Some (Subject s)) when else (if root then answers.powers_told past L f now (who_of e f) (Subject s) when else Err root_denied))
        ≡ (if b then shown.own_told v when (ASubject text) else (if root then timed v when (shown.nothing_for e) else Err root_denied))
    on_subject text true root s found = nothing_on c s
    on_subject text false true s found = nothing_same s e found
    on_subject text false false s found = refl

    on_named : (b : Bool) (name : List ℕ) (o : Object) → resolve name f ≡ Some o → visible L f c o ≡ true → Stands f e → (if b then answers.own_told past L f now c (Some o) when else answers.other_told past L f now c (Some o) e when)
        ≡ (if b then shown.own_told v when (Named name (kind_of f o)) else shown.other_told v when (Named name (kind_of f o)) e)
    on_named true name o at sees found = powers_same c o (there name o at) standing ∙ sym (ap (λ own. found_or own (NotFound name) >>= (λ (p : Powers). timed v when (Ok (answer.May p.privileges)))) (own_is name o at sees))
    on_named false name o at sees found = as_admin (λ (a : Administered). timed v when (shown.powers_for a e)) (answers.powers_told past L f now (who_of e f) o when) name o at (told_same o e (there name o at) found) (no_subject name o at)

    pub may_agrees : (text : List ℕ) → answers.may_of past L f now by c text e when ≡ shown_may v text e when
    may_agrees text = by_object past moment L f sound are c now by
        (λ o. answers.entity_found L f c e >>= (λ _. tells o))
        (λ o. entity_seen v e >>= shows o)
        (by_entity past moment L f sound are c now by (tells None) (shows Internal) e (λ found. internal (is_caller by e)))
        (λ named s at. by_entity past moment L f sound are c now by (tells (Some (Subject s))) (shows (ASubject named)) e (λ found. on_subject named (is_caller by e) (is_root L f c) s found))
        (λ name o at sees. by_entity past moment L f sound are c now by (tells (Some o)) (shows (Named name (kind_of f o))) e (λ found. on_named (is_caller by e) name o at sees found))
        text
