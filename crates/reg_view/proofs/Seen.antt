-- What is found in the view of a name is what the facts have of it.
use Rattle.std.proofs.Common.{◌≡◌, ◌==◌, ◌∷◌, ℕ, List, [], Bool, true, false, Option, Some, None, Result, Ok, Err, inl, inr, refl, sym, ap, ◌∙◌}
use Rattle.std.specs.Prelude.{if◌then◌else◌}
use Rattle.std.specs.List.{find}
use Rattle.std.proofs.lemmas.Bool.{cases_Bool, eqb-true}
use Rattle.reg_base.specs.declared.privilege.Privilege.TheVariants as privilege
use Rattle.reg_terms.specs.declared.kinds.Object.{Object}
use Rattle.reg_terms.specs.declared.kinds.Object.TheVariants.{Folder, Group, Def, Attr, Subject}
use Rattle.reg_terms.specs.declared.refusal.Refusal.{Refusal}
use Rattle.reg_terms.specs.declared.refusal.Refusal.TheVariants.{NotFound}
use Rattle.reg_terms.specs.declared.rows.GroupRow.{GroupRow}
use Rattle.reg_terms.specs.Kinds.{same_object, as_group}
use Rattle.reg_facts.specs.Lists.{Lists}
use Rattle.reg_facts.specs.Named.{AreNamed}
use Rattle.reg_facts.specs.Naming.{resolve}
use Rattle.reg_facts.specs.Sound.{IsSound}
use Rattle.reg_effect.specs.declared.live.Live.{Live}
use Rattle.reg_priv.specs.declared.who.Who.{Who}
use Rattle.reg_priv.specs.May.{visible}
use Rattle.reg_view.specs.Answers as answers
use Rattle.reg_view.specs.Past.{Past}
use Rattle.reg_view.specs.Show.{◌>>=◌, found_or, denied, named, seen, read, group_named}
use Rattle.reg_view.specs.View.{View, GroupSeen, GroupRead, group_object, group_seen, group_read, is_readable, seen_by}
use Rattle.reg_view.proofs.Found.{chosen, found_by}
use Rattle.reg_view.proofs.Standing.{group_there, groups_named}

-- one step after another, from either end
pub steps_join : {A B C : Type 0} (r : Result A Refusal) (n : A → Result B Refusal) (m : B → Result C Refusal) → ((r >>= n) >>= m) ≡ (r >>= (λ x. n x >>= m))
steps_join (Ok a) n m = refl
steps_join (Err e) n m = refl

-- no row has another kind of object
none_there : {R : Type 0} (object : R → Object) (o : Object) → ((r : R) → same_object (object r) o ≡ false) → (rows : List R) → find (λ (r : R). same_object (object r) o) rows ≡ None
none_there object o differ [] = refl
none_there object o differ (r ∷ rows) = rw (differ r) (none_there object o differ rows)

pub no_kind : {R A : Type 0} (object : R → Object) (test : Object → Bool) (show : R → A) (rows : List R) (o : Object) → ((r : R) → same_object (object r) o ≡ false) → chosen object test show rows (Some o) ≡ None
no_kind object test show rows o differ = elim (cases_Bool (test o)) [
  | inl t ↦ rw (t, none_there object o differ rows) refl
  | inr t ↦ rw t refl
]

pub its_row : {R A : Type 0} (object : R → Object) (test : Object → Bool) (show : R → A) (rows : List R) (o : Object) (r : R) → find (λ (r : R). same_object (object r) o) rows ≡ Some r → chosen object test show rows (Some o) ≡ (if test o then Some (show r) else None)
its_row object test show rows o r at = elim (cases_Bool (test o)) [
  | inl t ↦ rw (t, at) refl
  | inr t ↦ rw t refl
]

-- the first row that passes has the id
has_id : (g : ℕ) (rows : List GroupRow) (row : GroupRow) → find (λ (r : GroupRow). r.id == g) rows ≡ Some row → row.id ≡ g
has_id g [] row h = cc
has_id g (r ∷ rows) row h = elim (cases_Bool (r.id == g)) [
  | inl t ↦ let e : Some r ≡ Some row = rw t at h in let is : r ≡ row = cc in rw (← is) (eqb-true r.id g t)
  | inr t ↦ has_id g rows row (rw t at h)
]

module _ (past : Past) (moment : ℕ) (L : Live) (f : Lists) (sound : IsSound f) (are : AreNamed f) (c : Who) (now : ℕ) (by : List ℕ) (text : List ℕ) where
  abbrev v : View
  v = seen_by past L f now moment by c

  abbrev seen_of : Option Object → Option GroupSeen
  seen_of o = chosen group_object (visible L f c) (group_seen f) f.groups o

  abbrev read_of : Option Object → Option GroupRead
  read_of o = chosen group_object (is_readable L f c) (group_read past f moment) f.groups o

  abbrev told : Option Object → Result ℕ Refusal
  told o = elim (as_group o) [ None ↦ Err (NotFound text) | Some id ↦ if visible L f c (Group id) then Ok id else Err (NotFound text) ]

  pub seen_is : (o : Option Object) → resolve text f ≡ o → group_named v text ≡ seen_of o
  seen_is o at = found_by f are text group_object (visible L f c) (group_seen f) (λ (g : GroupSeen). g.name) (λ r. refl) f.groups o (groups_named f) at

  read_is : (o : Option Object) → resolve text f ≡ o → named (λ (g : GroupRead). g.name) v.readable text ≡ read_of o
  read_is o at = found_by f are text group_object (is_readable L f c) (group_read past f moment) (λ (g : GroupRead). g.name) (λ r. refl) f.groups o (groups_named f) at

  module _ {B : Type 0} (k : GroupSeen → Result B Refusal) (m : ℕ → Result B Refusal) (same : (row : GroupRow) → resolve text f ≡ Some (Group row.id) → find (λ (r : GroupRow). r.id == row.id) f.groups ≡ Some row → m row.id ≡ k (group_seen f row)) where
    abbrev shows : Option GroupSeen → Result B Refusal
    shows s = found_or s (NotFound text) >>= k

    other : (o : Object) → ((r : GroupRow) → same_object (Group r.id) o ≡ false) → Err (NotFound text) ≡ shows (seen_of (Some o))
    other o differ = sym (ap shows (no_kind group_object (visible L f c) (group_seen f) f.groups o differ))

    is_told : (b : Bool) (g : ℕ) (s : GroupSeen) → m g ≡ k s → ((if b then Ok g else Err (NotFound text)) >>= m) ≡ shows (if b then Some s else None)
    is_told true g s h = h
    is_told false g s h = refl

    go : (o : Option Object) → resolve text f ≡ o → (told o >>= m) ≡ shows (seen_of o)
    go None at = refl
    go (Some (Folder d)) at = other (Folder d) (λ r. refl)
    go (Some (Group g)) at =
        let there = group_there f sound g (are.found text (Group g) at).1 in
        let is : there.0.id ≡ g = has_id g f.groups there.0 there.1 in
        let sames : m there.0.id ≡ k (group_seen f there.0) = same there.0 (at ∙ ap (λ x. Some (Group x)) (sym is)) (ap (λ x. find (λ (r : GroupRow). r.id == x) f.groups) is ∙ there.1) in
        is_told (visible L f c (Group g)) g (group_seen f there.0) (ap m (sym is) ∙ sames)
        ∙ sym (ap shows (its_row group_object (visible L f c) (group_seen f) f.groups (Group g) there.0 there.1))
    go (Some (Def a)) at = other (Def a) (λ r. refl)
    go (Some (Attr a)) at = other (Attr a) (λ r. refl)
    go (Some (Subject s)) at = other (Subject s) (λ r. refl)

    -- going on from a group that is seen
    pub by_seen : (answers.group_seen L f c text >>= m) ≡ (seen v text >>= k)
    by_seen = go (resolve text f) refl ∙ sym (ap shows (seen_is (resolve text f) refl))

  module _ {B : Type 0} (k : GroupRead → Result B Refusal) (m : ℕ → Result B Refusal) (same : (row : GroupRow) → m row.id ≡ k (group_read past f moment row)) where
    abbrev reads : Option GroupRead → Result B Refusal
    reads r = found_or r (denied text privilege.Read) >>= k

    is_read : (b : Bool) (g : ℕ) (r : GroupRead) → m g ≡ k r → ((if b then Ok g else Err (denied text privilege.Read)) >>= m) ≡ reads (if b then Some r else None)
    is_read true g r h = h
    is_read false g r h = refl

    read_on : (row : GroupRow) → resolve text f ≡ Some (Group row.id) → find (λ (r : GroupRow). r.id == row.id) f.groups ≡ Some row → ((if is_readable L f c (Group row.id) then Ok row.id else Err (denied text privilege.Read)) >>= m) ≡ (read v text >>= k)
    read_on row at there =
        is_read (is_readable L f c (Group row.id)) row.id (group_read past f moment row) (same row)
        ∙ sym (ap reads (its_row group_object (is_readable L f c) (group_read past f moment) f.groups (Group row.id) row there))
        ∙ sym (ap reads (read_is (Some (Group row.id)) at))

    -- going on from a group that is read
    pub by_read : (answers.group_read L f c text >>= m) ≡ (seen v text >>= (λ _. read v text >>= k))
    by_read =
        steps_join (answers.group_seen L f c text) (λ id. if is_readable L f c (Group id) then Ok id else Err (denied text privilege.Read)) m
        ∙ by_seen (λ _. read v text >>= k) (λ id. (if is_readable L f c (Group id) then Ok id else Err (denied text privilege.Read)) >>= m) read_on
