-- The grants on groups that are made one after another in a folder: those on the first, written on each.
use Rattle.std.proofs.Common.{◌≡◌, ◌+◌, ◌*◌, ◌++◌, ◌∙◌, ℕ, List, [], ◌∷◌, Bool, true, false, Option, Some, None, inl, inr, refl, sym, ap, subst, length, length-append, map, arith}
use Rattle.std.specs.Prelude.{if◌then◌else◌}
use Rattle.std.specs.List.{AllByRecursion, cons_option}
use Rattle.std.specs.Option.{option_map}
use Rattle.std.proofs.Math.Nat.{suc-mul}
use Rattle.std.proofs.lemmas.Bool.{cases_Bool, eq-eqb}
use Rattle.std.proofs.lemmas.List.{length-map, map-append}
use Rattle.reg_base.specs.declared.entity.Entity.{Entity}
use Rattle.reg_base.specs.declared.entity.Entity.TheVariants as entity
use Rattle.reg_base.specs.declared.privilege.Privilege.TheVariants.{Admin}
use Rattle.reg_terms.specs.declared.event.Event.{Event}
use Rattle.reg_terms.specs.declared.kinds.Object.TheVariants.{Group}
use Rattle.reg_terms.specs.declared.kinds.RuleForm.{RuleForm}
use Rattle.reg_terms.specs.declared.kinds.RuleForm.TheVariants.{RemoveLost, EndLost, Veto, OnCreate}
use Rattle.reg_terms.specs.declared.rows.FolderRow.{FolderRow}
use Rattle.reg_terms.specs.declared.rows.GrantRow.{GrantRow}
use Rattle.reg_terms.specs.declared.rows.RuleRow.{RuleRow}
use Rattle.reg_facts.specs.Edits.{subject_id, the_id}
use Rattle.reg_facts.specs.Events.{all_happened, group_events, groups_events, new_groups_grants, with_groups}
use Rattle.reg_facts.specs.Grants.{grant_to, has_grant, makers_grant}
use Rattle.reg_facts.specs.Lists.{Lists}
use Rattle.reg_facts.specs.Naming.{home_id}
use Rattle.reg_facts.specs.Rules.{creation_grant, creation_grants, in_scope, not_yet}
use Rattle.reg_facts.proofs.Places.{all_push}
use Rattle.reg_load.specs.Finding.{first_grants, numbered_group, numbered_groups, on_group}
use Rattle.reg_load.proofs.GroupsMade.{AreFresh, AreUnlike, more_made, one_made, rest_fresh, with_one}

-- the grants on a group of a number that is made in a folder
abbrev grants_for : Entity → ℕ → ℕ → Lists → List GrantRow
grants_for by g home f = makers_grant by (Group g) Admin f ++ not_yet (makers_grant by (Group g) Admin f) (creation_grants g home f.folders f.rules)

-- ---- the same grants, written on another group

makers_moved : (by : Entity) (g h : ℕ) (f : Lists) → makers_grant by (Group h) Admin f ≡ map (on_group h) (makers_grant by (Group g) Admin f)
makers_moved (entity.Person text) g h f = go (subject_id text f.subjects)
  where
    go : (s : Option ℕ) → grant_to (Group h) Admin s ≡ map (on_group h) (grant_to (Group g) Admin s)
    go None = refl
    go (Some s) = refl
makers_moved (entity.Group name) g h f = refl
makers_moved entity.System g h f = refl
makers_moved entity.Everyone g h f = refl

form_moved : (g h home : ℕ) (fs : List FolderRow) (form : RuleForm) → creation_grant h home fs form ≡ option_map (on_group h) (creation_grant g home fs form)
form_moved g h home fs (RemoveLost check owner) = refl
form_moved g h home fs (EndLost check owner days) = refl
form_moved g h home fs (Veto owner condition) = refl
form_moved g h home fs (OnCreate d scope p holder) = go (in_scope home d scope fs)
  where
    go : (b : Bool) → (if b then Some (record { object = Group h; privilege = p; holder = holder; from = None; until = None }) else None) ≡ option_map (on_group h) (if b then Some (record { object = Group g; privilege = p; holder = holder; from = None; until = None }) else None)
    go true = refl
    go false = refl

cons_moved : (h : ℕ) (o : Option GrantRow) (rows : List GrantRow) → cons_option (option_map (on_group h) o) (map (on_group h) rows) ≡ map (on_group h) (cons_option o rows)
cons_moved h None rows = refl
cons_moved h (Some row) rows = refl

rules_moved : (g h home : ℕ) (fs : List FolderRow) (rules : List RuleRow) → creation_grants h home fs rules ≡ map (on_group h) (creation_grants g home fs rules)
rules_moved g h home fs [] = refl
rules_moved g h home fs (rule ∷ rules) =
    rw (form_moved g h home fs rule.form, rules_moved g h home fs rules) (cons_moved h (creation_grant g home fs rule.form) (creation_grants g home fs rules))

abbrev AllOn : ℕ → List GrantRow → Type 0
AllOn g rows = AllByRecursion (λ (row : GrantRow). row.object ≡ Group g) rows

all_on : (g : ℕ) (rows : List GrantRow) → AllOn g (map (on_group g) rows)
all_on g [] = tt
all_on g (row ∷ rows) = (refl, all_on g rows)

has_moved : (g h : ℕ) (row : GrantRow) (stand : List GrantRow) → row.object ≡ Group g → AllOn g stand → has_grant (on_group h row) (map (on_group h) stand) ≡ has_grant row stand
has_moved g h row [] on all = refl
has_moved g h row (other ∷ stand) on all = rw (on, all.0, eq-eqb g g refl, eq-eqb h h refl, has_moved g h row stand on all.1) refl

not_yet_moved : (g h : ℕ) (stand rows : List GrantRow) → AllOn g stand → AllOn g rows → not_yet (map (on_group h) stand) (map (on_group h) rows) ≡ map (on_group h) (not_yet stand rows)
not_yet_moved g h stand [] all on = refl
not_yet_moved g h stand (row ∷ rows) all on = elim (cases_Bool (has_grant row stand)) [
  | inl t ↦ rw (has_moved g h row stand on.0 all, t) (not_yet_moved g h stand rows all on.1)
  | inr t ↦
      let more : map (on_group h) stand ++ on_group h row ∷ [] ≡ map (on_group h) (stand ++ row ∷ []) = sym (map-append (on_group h) stand (row ∷ [])) in
      rw (has_moved g h row stand on.0 all, t, more, not_yet_moved g h (stand ++ row ∷ []) rows (all_push (λ (r : GrantRow). r.object ≡ Group g) stand row all on.0) on.1) refl
]

grants_moved : (by : Entity) (g h home : ℕ) (f : Lists) → grants_for by h home f ≡ map (on_group h) (grants_for by g home f)
grants_moved by g h home f =
    let makers = makers_grant by (Group g) Admin f in
    let rules = creation_grants g home f.folders f.rules in
    let on_makers : AllOn g makers = subst (AllOn g) (sym (makers_moved by g g f)) (all_on g makers) in
    let on_rules : AllOn g rules = subst (AllOn g) (sym (rules_moved g g home f.folders f.rules)) (all_on g rules) in
    rw (makers_moved by g h f, rules_moved g h home f.folders f.rules, not_yet_moved g h makers rules on_makers on_rules) (sym (map-append (on_group h) makers (not_yet makers rules)))

same_makers : (by : Entity) (name : List ℕ) (g : ℕ) (f : Lists) → makers_grant by (Group g) Admin (with_one by name f) ≡ makers_grant by (Group g) Admin f
same_makers (entity.Person text) name g f = refl
same_makers (entity.Group text) name g f = refl
same_makers entity.System name g f = refl
same_makers entity.Everyone name g f = refl

-- a group more changes nothing of it
same_grants : (by : Entity) (name : List ℕ) (g home : ℕ) (f : Lists) → grants_for by g home (with_one by name f) ≡ grants_for by g home f
same_grants by name g home f = ap (λ makers. makers ++ not_yet makers (creation_grants g home f.folders f.rules)) (same_makers by name g f)

one_grants : (by : Entity) (name : List ℕ) (d g : ℕ) (f : Lists) → home_id name f ≡ Some d → new_groups_grants by name f ≡ map (on_group (f.made.groups + 1)) (grants_for by g d f)
one_grants by name d g f home = rw home (grants_moved by g (f.made.groups + 1) d f)

-- ---- groups one after another

-- a name's folder is the same in both
abbrev AtHome : ℕ → Lists → List (List ℕ) → Type 0
AtHome d f names = AllByRecursion (λ (name : List ℕ). home_id name f ≡ Some d) names

numbered_from : (by : Entity) (d g : ℕ) (names : List (List ℕ)) (first f : Lists) → AtHome d first names → AreFresh d f names → AreUnlike names → groups_events by names f ≡ numbered_groups (f.made.groups + 1) names first (grants_for by g d f)
numbered_from by d g [] first f home fresh unlike = refl
numbered_from by d g (name ∷ names) first f home fresh unlike =
    let rest : groups_events by names (with_one by name f) ≡ numbered_groups (f.made.groups + 1 + 1) names first (grants_for by g d f) =
    numbered_from by d g names first (with_one by name f) home.1 (rest_fresh by name d names f fresh.0 unlike.0 fresh.1) unlike.1 ∙ ap (λ grants. numbered_groups (f.made.groups + 1 + 1) names first grants) (same_grants by name g d f) in
    let here : group_events by name f ≡ numbered_group (f.made.groups + 1) name first (grants_for by g d f) = rw (one_grants by name d g f fresh.0.home, fresh.0.home, home.0) refl in
    ap (λ (es : List Event). es ++ groups_events by names (all_happened (group_events by name f) f)) here
    ∙ ap (λ (es : List Event). numbered_group (f.made.groups + 1) name first (grants_for by g d f) ++ es) (ap (λ (h : Lists). groups_events by names h) (one_made by name f) ∙ rest)

homes : (d : ℕ) (f : Lists) (names : List (List ℕ)) → AreFresh d f names → AtHome d f names
homes d f [] fresh = tt
homes d f (name ∷ names) fresh = (fresh.0.home, homes d f names fresh.1)

-- the events of groups that are made are those of groups numbered one after another, with the grants on the first
pub events_numbered : (by : Entity) (d : ℕ) (names : List (List ℕ)) (f : Lists) → AreFresh d f names → AreUnlike names → groups_events by names f ≡ numbered_groups (f.made.groups + 1) names f (first_grants by names f)
events_numbered by d [] f fresh unlike = refl
events_numbered by d (name ∷ names) f fresh unlike =
    numbered_from by d (f.made.groups + 1) (name ∷ names) f f (homes d f (name ∷ names) fresh) fresh unlike
    ∙ ap (λ home. numbered_groups (f.made.groups + 1) (name ∷ names) f (grants_for by (f.made.groups + 1) home f)) (sym (ap the_id fresh.0.home))

counted_from : (by : Entity) (d g : ℕ) (names : List (List ℕ)) (f : Lists) → AreFresh d f names → AreUnlike names → length (with_groups by names f).grants ≡ length f.grants + length names * length (grants_for by g d f)
counted_from by d g [] f fresh unlike = omega arith
counted_from by d g (name ∷ names) f fresh unlike =
    let rest = counted_from by d g names (with_one by name f) (rest_fresh by name d names f fresh.0 unlike.0 fresh.1) unlike.1 in
    let same : length (grants_for by g d (with_one by name f)) ≡ length (grants_for by g d f) = ap length (same_grants by name g d f) in
    let here : length (new_groups_grants by name f) ≡ length (grants_for by g d f) = ap length (one_grants by name d g f fresh.0.home) ∙ length-map (grants_for by g d f) (on_group (f.made.groups + 1)) in
    ap (λ (h : Lists). length h.grants) (more_made by name names f)
    ∙ (rest ∙ rw (same, length-append f.grants (new_groups_grants by name f), here, suc-mul (length names) (length (grants_for by g d f))) (omega arith))

-- how many grants there are after them
pub grants_counted : (by : Entity) (d : ℕ) (names : List (List ℕ)) (f : Lists) → AreFresh d f names → AreUnlike names → length (with_groups by names f).grants ≡ length f.grants + length names * length (first_grants by names f)
grants_counted by d [] f fresh unlike = omega arith
grants_counted by d (name ∷ names) f fresh unlike =
    counted_from by d (f.made.groups + 1) (name ∷ names) f fresh unlike
    ∙ ap (λ home. length f.grants + length (name ∷ names) * length (grants_for by (f.made.groups + 1) home f)) (sym (ap the_id fresh.0.home))
