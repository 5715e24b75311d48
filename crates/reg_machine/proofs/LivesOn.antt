-- An object stands exactly where it lives: after an event, and after those of a step.
use Rattle.std.proofs.Common.{◌≡◌, ◌≤◌, ◌<◌, ◌+◌, ◌==◌, ◌&&◌, ℕ, List, [], ◌∷◌, Bool, true, false, Option, Some, None, nat_le, nat_lt, option_map, if◌then◌else◌, arith, refl, sym, ◌∙◌, ap, subst, inl, inr}
use Rattle.std.proofs.lemmas.Bool.{cases_Bool}
use Rattle.std.proofs.lemmas.Bool.Decides.{nat_tests}
use Rattle.reg_terms.specs.Kinds.{same_object}
use Rattle.reg_terms.specs.declared.event.Event.{Event}
use Rattle.reg_terms.specs.declared.event.Event.TheVariants.{FolderMade, FolderRenamed, FolderMoved, FolderGone, GroupMade, GroupRenamed, GroupMoved, GroupGone, RowAdded, RowRemoved, RowRedated, Composed, Decomposed, GrantAdded, GrantBegan, GrantRemoved, InheritAdded, InheritRemoved, DefinitionMade, DefinitionGone, AttributeMade, AttributeGone, AssignMade, AssignGone, ValueAdded, ValueRemoved, RuleMade, RuleGone, JobMade, JobGone, ConsumerAdded, ConsumerAcked, SubjectMade}
use Rattle.reg_terms.specs.declared.kinds.Object.{Object}
use Rattle.reg_terms.specs.declared.kinds.Object.TheVariants.{Folder, Group, Def, Attr, Subject}
use Rattle.reg_terms.specs.declared.rows.Made.{Made}
use Rattle.reg_facts.specs.Events.{happened, all_happened}
use Rattle.reg_facts.specs.Lists.{Lists}
use Rattle.reg_facts.specs.Naming.{placed}
use Rattle.reg_facts.specs.Sound.{IsSound}
use Rattle.reg_facts.specs.Suiting.{Suits, AllSuit}
use Rattle.reg_facts.proofs.Places.{same_is}
use Rattle.reg_facts.proofs.Sounding.{happened_sound}
use Rattle.reg_audit.specs.Lives.{begun, ended}
use Rattle.reg_audit.specs.Objects.{among, gone_by, made_by, object_gone, object_made}
use Rattle.reg_machine.specs.Standing.{lives_at, stands, was_made, LifeBy, IsLived}
use Rattle.reg_machine.proofs.ObjectsStand.{MadeOne, CutOne, KeptAll, by_names, folder_stands, group_stands, subject_stands, folder_named_still, folder_moved_still, group_named_still, group_moved_still, folder_stands_no_more, group_stands_no_more, folder_is_there, group_is_there, definition_stands, attribute_stands, definition_stands_no_more, attribute_stands_no_more, definition_is_there, attribute_is_there}

-- when an object was made and when it went
abbrev pub Life : Type 0
Life = Option (ℕ × Option ℕ)

-- at each earlier moment a life tells what another one told
abbrev pub Earlier : ℕ → Life → Life → Type 0
Earlier at old new = (v : ℕ) → v < at → lives_at v new ≡ lives_at v old

-- ---- one object made

begin : ℕ → Object → Object → Life → Life
begin at o x life = if same_object x o then Some (at, None) else life

finish : ℕ → Object → Object → Life → Life
finish at o x life = if same_object x o then option_map (λ l. (l.0, Some at)) life else life

lives_now : (at : ℕ) → lives_at at (Some (at, None)) ≡ true
lives_now at = let le : nat_le at at ≡ true = grind (arith, nat_tests) in rw le refl

not_before : (v at : ℕ) → v < at → lives_at v (Some (at, None)) ≡ false
not_before v at w = let le : nat_le at v ≡ false = grind (arith, nat_tests, w) in rw le refl

module _ (at : ℕ) (f g : Lists) (o x : Object) (life : Life) (h : IsLived at f o life) where
  -- what is made is new
  made_lived : MadeOne x f g → was_made f.made x ≡ false → (was_made g.made o ≡ false → same_object x o ≡ false → was_made f.made o ≡ false) → was_made g.made x ≡ true → IsLived at g o (begin at o x life) × Earlier at life (begin at o x life)
  unfolding begin
  made_lived one fresh less there = elim (cases_Bool (same_object x o)) [
    | inl y ↦
        let e : x ≡ o = same_is x o y in
        let none : life ≡ None = h.new (rw e at fresh) in
        rw y (
          record {
            now = one o ∙ rw y (sym (lives_now at));
            new = λ k. absurd (let clash : was_made g.made o ≡ true = rw e at there in let no : true ≡ false = sym clash ∙ k in cc);
            by = omega arith;
          },
          λ v w. not_before v at w ∙ rw none refl,
        )
    | inr n ↦ rw n (
      record {
        now = one o ∙ rw n h.now;
        new = λ k. h.new (less k n);
        by = h.by;
      },
      λ v w. refl,
    )
  ]

  -- nothing is made and nothing goes
  still_lived : KeptAll f g → was_made g.made o ≡ was_made f.made o → IsLived at g o life
  still_lived all same = record {
    now = all o ∙ h.now;
    new = λ k. h.new (sym same ∙ k);
    by = h.by;
  }

-- no rule, assignment or loader job is an object
no_object : (made : Made) (rules assigns jobs : ℕ) (o : Object) → was_made (record made { rules = rules; assigns = assigns; jobs = jobs }) o ≡ was_made made o
no_object made rules assigns jobs (Folder d) = refl
no_object made rules assigns jobs (Group g) = refl
no_object made rules assigns jobs (Def a) = refl
no_object made rules assigns jobs (Attr a) = refl
no_object made rules assigns jobs (Subject s) = refl

over : (a at : ℕ) → lives_at at (Some (a, Some at)) ≡ false
over a at = let no : nat_lt at at ≡ false = grind (arith, nat_tests) in rw no (never (nat_le a at))
  where
    never : (b : Bool) → (b && false) ≡ false
    never true = refl
    never false = refl

until : (a v at : ℕ) → v < at → lives_at v (Some (a, Some at)) ≡ lives_at v (Some (a, None))
until a v at w = let less : nat_lt v at ≡ true = grind (arith, nat_tests, w) in rw less refl

late : (a b at : ℕ) → b ≤ at → lives_at at (Some (a, Some b)) ≡ false
late a b at w = let no : nat_lt at b ≡ false = grind (arith, nat_tests, w) in rw no (never (nat_le a at))
  where
    never : (b : Bool) → (b && false) ≡ false
    never true = refl
    never false = refl

-- a life that goes on ends
end_lived : (at : ℕ) (life : Life) → LifeBy at life → lives_at at life ≡ true → (lives_at at (option_map (λ l. (l.0, Some at)) life) ≡ false) × LifeBy at (option_map (λ l. (l.0, Some at)) life) × Earlier at life (option_map (λ l. (l.0, Some at)) life)
end_lived at None by on = cc
end_lived at (Some (a, None)) by on = (over a at, (by, omega arith), λ v w. until a v at w)
end_lived at (Some (a, Some b)) by on = let no : true ≡ false = sym on ∙ late a b at by.1 in cc

module _ (at : ℕ) (f g : Lists) (o x : Object) (life : Life) (h : IsLived at f o life) where
  -- what goes stood
  cut_lived : CutOne x f g → stands x f ≡ true → g.made ≡ f.made → IsLived at g o (finish at o x life) × Earlier at life (finish at o x life)
  unfolding finish
  cut_lived one there same = elim (cases_Bool (same_object x o)) [
    | inl y ↦
        let e : x ≡ o = same_is x o y in
        let on : lives_at at life ≡ true = sym h.now ∙ rw e at there in
        let all = end_lived at life h.by on in
        rw y (
          record {
            now = one o ∙ rw y (sym all.0);
            new = λ k. rw (h.new (subst (λ (m : Made). was_made m o ≡ false) same k)) refl;
            by = all.1;
          },
          all.2,
        )
    | inr n ↦ rw n (
      record {
        now = one o ∙ rw n h.now;
        new = λ k. h.new (subst (λ (m : Made). was_made m o ≡ false) same k);
        by = h.by;
      },
      λ v w. refl,
    )
  ]

-- ---- one event

-- the life after an event
abbrev made_at : ℕ → Object → Option Object → Life → Life
made_at at o None life = life
made_at at o (Some x) life = begin at o x life

abbrev gone_at : ℕ → Object → Option Object → Life → Life
gone_at at o None life = life
gone_at at o (Some x) life = finish at o x life

abbrev life_on : ℕ → Event → Object → Life → Life
life_on at e o life = gone_at at o (object_gone e) (made_at at o (object_made e) life)

above : (n made : ℕ) → n ≡ made + 1 → nat_le n made ≡ false
above n made e = grind (arith, nat_tests, e)

itself : (n : ℕ) → nat_le n n ≡ true
itself n = grind (arith, nat_tests)

below : (y n made : ℕ) → n ≡ made + 1 → nat_le y n ≡ false → nat_le y made ≡ false
below y n made e h = grind (arith, nat_tests, e, h)

-- what wasn't made by a higher count wasn't by a lower one
folder_less : (f : Lists) (n : ℕ) (o : Object) → n ≡ f.made.folders + 1 → was_made (record f.made { folders = n }) o ≡ false → was_made f.made o ≡ false
folder_less f n (Folder y) e h = below y n f.made.folders e h
folder_less f n (Group y) e h = h
folder_less f n (Def y) e h = h
folder_less f n (Attr y) e h = h
folder_less f n (Subject y) e h = h

group_less : (f : Lists) (n : ℕ) (o : Object) → n ≡ f.made.groups + 1 → was_made (record f.made { groups = n }) o ≡ false → was_made f.made o ≡ false
group_less f n (Folder y) e h = h
group_less f n (Group y) e h = below y n f.made.groups e h
group_less f n (Def y) e h = h
group_less f n (Attr y) e h = h
group_less f n (Subject y) e h = h

definition_less : (f : Lists) (n : ℕ) (o : Object) → n ≡ f.made.definitions + 1 → was_made (record f.made { definitions = n }) o ≡ false → was_made f.made o ≡ false
definition_less f n (Folder y) e h = h
definition_less f n (Group y) e h = h
definition_less f n (Def y) e h = below y n f.made.definitions e h
definition_less f n (Attr y) e h = h
definition_less f n (Subject y) e h = h

attribute_less : (f : Lists) (n : ℕ) (o : Object) → n ≡ f.made.attributes + 1 → was_made (record f.made { attributes = n }) o ≡ false → was_made f.made o ≡ false
attribute_less f n (Folder y) e h = h
attribute_less f n (Group y) e h = h
attribute_less f n (Def y) e h = h
attribute_less f n (Attr y) e h = below y n f.made.attributes e h
attribute_less f n (Subject y) e h = h

subject_less : (f : Lists) (n : ℕ) (o : Object) → n ≡ f.made.subjects + 1 → was_made (record f.made { subjects = n }) o ≡ false → was_made f.made o ≡ false
subject_less f n (Folder y) e h = h
subject_less f n (Group y) e h = h
subject_less f n (Def y) e h = h
subject_less f n (Attr y) e h = h
subject_less f n (Subject y) e h = below y n f.made.subjects e h

-- where neither what is placed nor subjects change, all stand still
pub rest_still : (f g : Lists) → placed g ≡ placed f → g.subjects ≡ f.subjects → KeptAll f g
rest_still f g same subjects = by_names f g subjects (λ o. rw same refl)

event_lived : (at : ℕ) (e : Event) (f : Lists) (o : Object) (life : Life) → IsSound f → Suits e f → IsLived at f o life → IsLived at (happened e f) o (life_on at e o life) × Earlier at life (life_on at e o life)
unfolding placed
event_lived at (FolderMade row) f o life s suits h = made_lived at f (happened (FolderMade row) f) o (Folder row.id) life h (folder_stands row suits.2 f suits.3) (above row.id f.made.folders suits.0) (λ k n. folder_less f row.id o suits.0 k) (itself row.id)
event_lived at (SubjectMade row) f o life s suits h = made_lived at f (happened (SubjectMade row) f) o (Subject row.id) life h (subject_stands row f) (above row.id f.made.subjects suits.0) (λ k n. subject_less f row.id o suits.0 k) (itself row.id)
event_lived at (GroupMade row) f o life s suits h = made_lived at f (happened (GroupMade row) f) o (Group row.id) life h (group_stands row f) (above row.id f.made.groups suits.0) (λ k n. group_less f row.id o suits.0 k) (itself row.id)
event_lived at (FolderGone id) f o life s suits h = cut_lived at f (happened (FolderGone id) f) o (Folder id) life h (folder_stands_no_more id f s suits.0) (folder_is_there id f suits.0) refl
event_lived at (GroupGone id) f o life s suits h = cut_lived at f (happened (GroupGone id) f) o (Group id) life h (group_stands_no_more id f) (group_is_there id f suits.0) refl
event_lived at (FolderRenamed id extension) f o life s suits h = (still_lived at f (happened (FolderRenamed id extension) f) o o life h (folder_named_still id extension f) refl, λ v w. refl)
event_lived at (FolderMoved id to) f o life s suits h = (still_lived at f (happened (FolderMoved id to) f) o o life h (folder_moved_still id to f s suits.0.stands) refl, λ v w. refl)
event_lived at (GroupRenamed id extension) f o life s suits h = (still_lived at f (happened (GroupRenamed id extension) f) o o life h (group_named_still id extension f) refl, λ v w. refl)
event_lived at (GroupMoved id to) f o life s suits h = (still_lived at f (happened (GroupMoved id to) f) o o life h (group_moved_still id to f) refl, λ v w. refl)
event_lived at (RowAdded row) f o life s suits h = (still_lived at f (happened (RowAdded row) f) o o life h (rest_still f (happened (RowAdded row) f) refl refl) refl, λ v w. refl)
event_lived at (RowRemoved g m) f o life s suits h = (still_lived at f (happened (RowRemoved g m) f) o o life h (rest_still f (happened (RowRemoved g m) f) refl refl) refl, λ v w. refl)
event_lived at (RowRedated g m from until) f o life s suits h = (still_lived at f (happened (RowRedated g m from until) f) o o life h (rest_still f (happened (RowRedated g m from until) f) refl refl) refl, λ v w. refl)
event_lived at (Composed row) f o life s suits h = (still_lived at f (happened (Composed row) f) o o life h (rest_still f (happened (Composed row) f) refl refl) refl, λ v w. refl)
event_lived at (Decomposed g) f o life s suits h = (still_lived at f (happened (Decomposed g) f) o o life h (rest_still f (happened (Decomposed g) f) refl refl) refl, λ v w. refl)
event_lived at (GrantAdded row) f o life s suits h = (still_lived at f (happened (GrantAdded row) f) o o life h (rest_still f (happened (GrantAdded row) f) refl refl) refl, λ v w. refl)
event_lived at (GrantBegan row) f o life s suits h = (still_lived at f (happened (GrantBegan row) f) o o life h (rest_still f (happened (GrantBegan row) f) refl refl) refl, λ v w. refl)
event_lived at (GrantRemoved row) f o life s suits h = (still_lived at f (happened (GrantRemoved row) f) o o life h (rest_still f (happened (GrantRemoved row) f) refl refl) refl, λ v w. refl)
event_lived at (InheritAdded row) f o life s suits h = (still_lived at f (happened (InheritAdded row) f) o o life h (rest_still f (happened (InheritAdded row) f) refl refl) refl, λ v w. refl)
event_lived at (InheritRemoved row) f o life s suits h = (still_lived at f (happened (InheritRemoved row) f) o o life h (rest_still f (happened (InheritRemoved row) f) refl refl) refl, λ v w. refl)
event_lived at (DefinitionMade row) f o life s suits h = made_lived at f (happened (DefinitionMade row) f) o (Def row.id) life h (definition_stands row f) (above row.id f.made.definitions suits.0) (λ k n. definition_less f row.id o suits.0 k) (itself row.id)
event_lived at (DefinitionGone id) f o life s suits h = cut_lived at f (happened (DefinitionGone id) f) o (Def id) life h (definition_stands_no_more id f) (definition_is_there id f suits.0) refl
event_lived at (AttributeMade row) f o life s suits h = made_lived at f (happened (AttributeMade row) f) o (Attr row.id) life h (attribute_stands row f) (above row.id f.made.attributes suits.0) (λ k n. attribute_less f row.id o suits.0 k) (itself row.id)
event_lived at (AttributeGone id) f o life s suits h = cut_lived at f (happened (AttributeGone id) f) o (Attr id) life h (attribute_stands_no_more id f) (attribute_is_there id f suits.0) refl
event_lived at (AssignMade row) f o life s suits h = (still_lived at f (happened (AssignMade row) f) o o life h (rest_still f (happened (AssignMade row) f) refl refl) (no_object f.made f.made.rules row.id f.made.jobs o), λ v w. refl)
event_lived at (AssignGone id) f o life s suits h = (still_lived at f (happened (AssignGone id) f) o o life h (rest_still f (happened (AssignGone id) f) refl refl) refl, λ v w. refl)
event_lived at (ValueAdded id v) f o life s suits h = (still_lived at f (happened (ValueAdded id v) f) o o life h (rest_still f (happened (ValueAdded id v) f) refl refl) refl, λ v w. refl)
event_lived at (ValueRemoved id v) f o life s suits h = (still_lived at f (happened (ValueRemoved id v) f) o o life h (rest_still f (happened (ValueRemoved id v) f) refl refl) refl, λ v w. refl)
event_lived at (RuleMade row) f o life s suits h = (still_lived at f (happened (RuleMade row) f) o o life h (rest_still f (happened (RuleMade row) f) refl refl) (no_object f.made row.id f.made.assigns f.made.jobs o), λ v w. refl)
event_lived at (RuleGone id) f o life s suits h = (still_lived at f (happened (RuleGone id) f) o o life h (rest_still f (happened (RuleGone id) f) refl refl) refl, λ v w. refl)
event_lived at (JobMade row) f o life s suits h = (still_lived at f (happened (JobMade row) f) o o life h (rest_still f (happened (JobMade row) f) refl refl) (no_object f.made f.made.rules f.made.assigns row.id o), λ v w. refl)
event_lived at (JobGone id) f o life s suits h = (still_lived at f (happened (JobGone id) f) o o life h (rest_still f (happened (JobGone id) f) refl refl) refl, λ v w. refl)
event_lived at (ConsumerAdded row) f o life s suits h = (still_lived at f (happened (ConsumerAdded row) f) o o life h (rest_still f (happened (ConsumerAdded row) f) refl refl) refl, λ v w. refl)
event_lived at (ConsumerAcked name seq) f o life s suits h = (still_lived at f (happened (ConsumerAcked name seq) f) o o life h (rest_still f (happened (ConsumerAcked name seq) f) refl refl) refl, λ v w. refl)

-- ---- what was made isn't made again

higher : (n y made : ℕ) → n ≡ made + 1 → nat_le y made ≡ true → (n == y) ≡ false
higher n y made e h = grind (arith, nat_tests, e, h)

within : (n y made : ℕ) → n ≡ made + 1 → nat_le y made ≡ true → nat_le y n ≡ true
within n y made e h = grind (arith, nat_tests, e, h)

folder_once : (f : Lists) (n : ℕ) (o : Object) → n ≡ f.made.folders + 1 → was_made f.made o ≡ true → (same_object (Folder n) o ≡ false) × (was_made (record f.made { folders = n }) o ≡ true)
folder_once f n (Folder y) e h = (higher n y f.made.folders e h, within n y f.made.folders e h)
folder_once f n (Group y) e h = (refl, h)
folder_once f n (Def y) e h = (refl, h)
folder_once f n (Attr y) e h = (refl, h)
folder_once f n (Subject y) e h = (refl, h)

group_once : (f : Lists) (n : ℕ) (o : Object) → n ≡ f.made.groups + 1 → was_made f.made o ≡ true → (same_object (Group n) o ≡ false) × (was_made (record f.made { groups = n }) o ≡ true)
group_once f n (Folder y) e h = (refl, h)
group_once f n (Group y) e h = (higher n y f.made.groups e h, within n y f.made.groups e h)
group_once f n (Def y) e h = (refl, h)
group_once f n (Attr y) e h = (refl, h)
group_once f n (Subject y) e h = (refl, h)

definition_once : (f : Lists) (n : ℕ) (o : Object) → n ≡ f.made.definitions + 1 → was_made f.made o ≡ true → (same_object (Def n) o ≡ false) × (was_made (record f.made { definitions = n }) o ≡ true)
definition_once f n (Folder y) e h = (refl, h)
definition_once f n (Group y) e h = (refl, h)
definition_once f n (Def y) e h = (higher n y f.made.definitions e h, within n y f.made.definitions e h)
definition_once f n (Attr y) e h = (refl, h)
definition_once f n (Subject y) e h = (refl, h)

attribute_once : (f : Lists) (n : ℕ) (o : Object) → n ≡ f.made.attributes + 1 → was_made f.made o ≡ true → (same_object (Attr n) o ≡ false) × (was_made (record f.made { attributes = n }) o ≡ true)
attribute_once f n (Folder y) e h = (refl, h)
attribute_once f n (Group y) e h = (refl, h)
attribute_once f n (Def y) e h = (refl, h)
attribute_once f n (Attr y) e h = (higher n y f.made.attributes e h, within n y f.made.attributes e h)
attribute_once f n (Subject y) e h = (refl, h)

subject_once : (f : Lists) (n : ℕ) (o : Object) → n ≡ f.made.subjects + 1 → was_made f.made o ≡ true → (same_object (Subject n) o ≡ false) × (was_made (record f.made { subjects = n }) o ≡ true)
subject_once f n (Folder y) e h = (refl, h)
subject_once f n (Group y) e h = (refl, h)
subject_once f n (Def y) e h = (refl, h)
subject_once f n (Attr y) e h = (refl, h)
subject_once f n (Subject y) e h = (higher n y f.made.subjects e h, within n y f.made.subjects e h)

never_again : (es : List Event) (f : Lists) (o : Object) → was_made f.made o ≡ true → AllSuit es f → among o (made_by es) ≡ false
never_again [] f o was suit = refl
never_again (FolderMade row ∷ es) f o was suit = let one = folder_once f row.id o suit.0.0 was in rw one.0 (never_again es (happened (FolderMade row) f) o one.1 suit.1)
never_again (SubjectMade row ∷ es) f o was suit = let one = subject_once f row.id o suit.0.0 was in rw one.0 (never_again es (happened (SubjectMade row) f) o one.1 suit.1)
never_again (GroupMade row ∷ es) f o was suit = let one = group_once f row.id o suit.0.0 was in rw one.0 (never_again es (happened (GroupMade row) f) o one.1 suit.1)
never_again (FolderGone id ∷ es) f o was suit = never_again es (happened (FolderGone id) f) o was suit.1
never_again (GroupGone id ∷ es) f o was suit = never_again es (happened (GroupGone id) f) o was suit.1
never_again (FolderRenamed id extension ∷ es) f o was suit = never_again es (happened (FolderRenamed id extension) f) o was suit.1
never_again (FolderMoved id to ∷ es) f o was suit = never_again es (happened (FolderMoved id to) f) o was suit.1
never_again (GroupRenamed id extension ∷ es) f o was suit = never_again es (happened (GroupRenamed id extension) f) o was suit.1
never_again (GroupMoved id to ∷ es) f o was suit = never_again es (happened (GroupMoved id to) f) o was suit.1
never_again (RowAdded row ∷ es) f o was suit = never_again es (happened (RowAdded row) f) o was suit.1
never_again (RowRemoved g m ∷ es) f o was suit = never_again es (happened (RowRemoved g m) f) o was suit.1
never_again (RowRedated g m from until ∷ es) f o was suit = never_again es (happened (RowRedated g m from until) f) o was suit.1
never_again (Composed row ∷ es) f o was suit = never_again es (happened (Composed row) f) o was suit.1
never_again (Decomposed g ∷ es) f o was suit = never_again es (happened (Decomposed g) f) o was suit.1
never_again (GrantAdded row ∷ es) f o was suit = never_again es (happened (GrantAdded row) f) o was suit.1
never_again (GrantBegan row ∷ es) f o was suit = never_again es (happened (GrantBegan row) f) o was suit.1
never_again (GrantRemoved row ∷ es) f o was suit = never_again es (happened (GrantRemoved row) f) o was suit.1
never_again (InheritAdded row ∷ es) f o was suit = never_again es (happened (InheritAdded row) f) o was suit.1
never_again (InheritRemoved row ∷ es) f o was suit = never_again es (happened (InheritRemoved row) f) o was suit.1
never_again (DefinitionMade row ∷ es) f o was suit = let one = definition_once f row.id o suit.0.0 was in rw one.0 (never_again es (happened (DefinitionMade row) f) o one.1 suit.1)
never_again (DefinitionGone id ∷ es) f o was suit = never_again es (happened (DefinitionGone id) f) o was suit.1
never_again (AttributeMade row ∷ es) f o was suit = let one = attribute_once f row.id o suit.0.0 was in rw one.0 (never_again es (happened (AttributeMade row) f) o one.1 suit.1)
never_again (AttributeGone id ∷ es) f o was suit = never_again es (happened (AttributeGone id) f) o was suit.1
never_again (AssignMade row ∷ es) f o was suit = never_again es (happened (AssignMade row) f) o (no_object f.made f.made.rules row.id f.made.jobs o ∙ was) suit.1
never_again (AssignGone id ∷ es) f o was suit = never_again es (happened (AssignGone id) f) o was suit.1
never_again (ValueAdded id v ∷ es) f o was suit = never_again es (happened (ValueAdded id v) f) o was suit.1
never_again (ValueRemoved id v ∷ es) f o was suit = never_again es (happened (ValueRemoved id v) f) o was suit.1
never_again (RuleMade row ∷ es) f o was suit = never_again es (happened (RuleMade row) f) o was suit.1
never_again (RuleGone id ∷ es) f o was suit = never_again es (happened (RuleGone id) f) o was suit.1
never_again (JobMade row ∷ es) f o was suit = never_again es (happened (JobMade row) f) o (no_object f.made f.made.rules f.made.assigns row.id o ∙ was) suit.1
never_again (JobGone id ∷ es) f o was suit = never_again es (happened (JobGone id) f) o was suit.1
never_again (ConsumerAdded row ∷ es) f o was suit = never_again es (happened (ConsumerAdded row) f) o was suit.1
never_again (ConsumerAcked name seq ∷ es) f o was suit = never_again es (happened (ConsumerAcked name seq) f) o was suit.1

-- ---- the events of a step: a life by all that they make and end at once is the life by one after another

abbrev pub step_life : ℕ → List Event → Object → Life → Life
step_life at es o life = ended at (gone_by es) o (begun at (made_by es) o life)

first_made : (at : ℕ) (o x : Object) (ms : List Object) (life : Life) → begun at (x ∷ ms) o life ≡ begun at ms o (begin at o x life)
unfolding begin
first_made at o x ms life = elim (cases_Bool (same_object x o)) [
  | inl y ↦ rw y (both (among o ms) (Some (at, None)))
  | inr n ↦ rw n refl
]
  where
    both : (b : Bool) (new : Life) → new ≡ (if b then new else new)
    both true new = refl
    both false new = refl

abbrev stopped : ℕ → Life → Life
stopped at life = option_map (λ l. (l.0, Some at)) life

again : (at : ℕ) (b : Bool) (life : Life) → stopped at life ≡ (if b then stopped at (stopped at life) else stopped at life)
again at true None = refl
again at true (Some l) = refl
again at false life = refl

first_gone : (at : ℕ) (o x : Object) (ms gs : List Object) (life : Life) → (same_object x o ≡ true → among o ms ≡ false) → ended at (x ∷ gs) o (begun at ms o life) ≡ ended at gs o (begun at ms o (finish at o x life))
unfolding finish
first_gone at o x ms gs life none = elim (cases_Bool (same_object x o)) [
  | inl y ↦ rw (y, none y) (again at (among o gs) life)
  | inr n ↦ rw n refl
]

-- what stands was made
stood_made : (at : ℕ) (f : Lists) (o x : Object) (life : Life) → IsLived at f o life → stands x f ≡ true → same_object x o ≡ true → was_made f.made o ≡ true
stood_made at f o x life h there same = elim (cases_Bool (was_made f.made o)) [
  | inl y ↦ y
  | inr n ↦
      let on : stands o f ≡ true = rw (same_is x o same) at there in
      let off : stands o f ≡ false = h.now ∙ rw (h.new n) refl in
      let no : true ≡ false = sym on ∙ off in
      cc
]

in_turn : (at : ℕ) (e : Event) (es : List Event) (f : Lists) (o : Object) (life : Life) → Suits e f → AllSuit es (happened e f) → IsLived at f o life → step_life at (e ∷ es) o life ≡ step_life at es o (life_on at e o life)
in_turn at (FolderMade row) es f o life suits rest h = ap (ended at (gone_by es) o) (first_made at o (Folder row.id) (made_by es) life)
in_turn at (SubjectMade row) es f o life suits rest h = ap (ended at (gone_by es) o) (first_made at o (Subject row.id) (made_by es) life)
in_turn at (GroupMade row) es f o life suits rest h = ap (ended at (gone_by es) o) (first_made at o (Group row.id) (made_by es) life)
in_turn at (FolderGone id) es f o life suits rest h = first_gone at o (Folder id) (made_by es) (gone_by es) life (λ same. never_again es (happened (FolderGone id) f) o (stood_made at f o (Folder id) life h (folder_is_there id f suits.0) same) rest)
in_turn at (GroupGone id) es f o life suits rest h = first_gone at o (Group id) (made_by es) (gone_by es) life (λ same. never_again es (happened (GroupGone id) f) o (stood_made at f o (Group id) life h (group_is_there id f suits.0) same) rest)
in_turn at (FolderRenamed id extension) es f o life suits rest h = refl
in_turn at (FolderMoved id to) es f o life suits rest h = refl
in_turn at (GroupRenamed id extension) es f o life suits rest h = refl
in_turn at (GroupMoved id to) es f o life suits rest h = refl
in_turn at (RowAdded row) es f o life suits rest h = refl
in_turn at (RowRemoved g m) es f o life suits rest h = refl
in_turn at (RowRedated g m from until) es f o life suits rest h = refl
in_turn at (Composed row) es f o life suits rest h = refl
in_turn at (Decomposed g) es f o life suits rest h = refl
in_turn at (GrantAdded row) es f o life suits rest h = refl
in_turn at (GrantBegan row) es f o life suits rest h = refl
in_turn at (GrantRemoved row) es f o life suits rest h = refl
in_turn at (InheritAdded row) es f o life suits rest h = refl
in_turn at (InheritRemoved row) es f o life suits rest h = refl
in_turn at (DefinitionMade row) es f o life suits rest h = ap (ended at (gone_by es) o) (first_made at o (Def row.id) (made_by es) life)
in_turn at (DefinitionGone id) es f o life suits rest h = first_gone at o (Def id) (made_by es) (gone_by es) life (λ same. never_again es (happened (DefinitionGone id) f) o (stood_made at f o (Def id) life h (definition_is_there id f suits.0) same) rest)
in_turn at (AttributeMade row) es f o life suits rest h = ap (ended at (gone_by es) o) (first_made at o (Attr row.id) (made_by es) life)
in_turn at (AttributeGone id) es f o life suits rest h = first_gone at o (Attr id) (made_by es) (gone_by es) life (λ same. never_again es (happened (AttributeGone id) f) o (stood_made at f o (Attr id) life h (attribute_is_there id f suits.0) same) rest)
in_turn at (AssignMade row) es f o life suits rest h = refl
in_turn at (AssignGone id) es f o life suits rest h = refl
in_turn at (ValueAdded id v) es f o life suits rest h = refl
in_turn at (ValueRemoved id v) es f o life suits rest h = refl
in_turn at (RuleMade row) es f o life suits rest h = refl
in_turn at (RuleGone id) es f o life suits rest h = refl
in_turn at (JobMade row) es f o life suits rest h = refl
in_turn at (JobGone id) es f o life suits rest h = refl
in_turn at (ConsumerAdded row) es f o life suits rest h = refl
in_turn at (ConsumerAcked name seq) es f o life suits rest h = refl

-- after all events of a step
abbrev pub AfterStep : ℕ → List Event → Lists → Object → Life → Life → Type 0
AfterStep at es f o old new = IsLived at (all_happened es f) o new × Earlier at old new

pub events_lived : (at : ℕ) (es : List Event) (f : Lists) (o : Object) (life : Life) → IsSound f → AllSuit es f → IsLived at f o life → AfterStep at es f o life (step_life at es o life)
events_lived at [] f o life s suit h = (h, λ v w. refl)
events_lived at (e ∷ es) f o life s suit h =
    let one = event_lived at e f o life s suit.0 h in
    let rest = events_lived at es (happened e f) o (life_on at e o life) (happened_sound e f suit.0 s) suit.1 one.0 in
    subst (λ (new : Life). AfterStep at (e ∷ es) f o life new) (sym (in_turn at e es f o life suit.0 suit.1 h)) (rest.0, λ v w. rest.1 v w ∙ one.1 v w)
