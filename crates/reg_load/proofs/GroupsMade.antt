-- Groups that are made one after another: what they leave of the facts, and by what names they are found.
use Rattle.std.proofs.Common.{◌≡◌, ◌+◌, ◌++◌, ◌∙◌, ℕ, List, [], ◌∷◌, true, false, Some, None, inl, inr, refl, sym, ap, subst}
use Rattle.std.specs.Prelude.{⊤}
use Rattle.std.specs.List.{AllByRecursion}
use Rattle.std.specs.Str.{bytes_eq}
use Rattle.std.proofs.lemmas.Bool.{cases_Bool}
use Rattle.reg_base.specs.Names.{is_name}
use Rattle.reg_base.specs.NameParts.{extension_of}
use Rattle.reg_base.specs.declared.entity.Entity.{Entity}
use Rattle.reg_terms.specs.declared.event.Event.{Event}
use Rattle.reg_terms.specs.declared.kinds.Object.TheVariants.{Group}
use Rattle.reg_facts.specs.Edits.{the_id}
use Rattle.reg_facts.specs.Events.{all_happened, group_events, groups_events, happened, new_group, new_groups_grants, with_groups}
use Rattle.reg_facts.specs.Lists.{Lists}
use Rattle.reg_facts.specs.Naming.{child, resolve, home_id}
use Rattle.reg_facts.proofs.Places.{bytes_same}
use Rattle.reg_load.specs.Loading.{AreMade}
use Rattle.reg_load.proofs.GroupMore.{grown, after_group, Keeps, child_kept, child_new, child_free, resolve_kept, home_kept, named_child}

pub happened_append : (es ds : List Event) (f : Lists) → all_happened (es ++ ds) f ≡ all_happened ds (all_happened es f)
happened_append [] ds f = refl
happened_append (e ∷ es) ds f = happened_append es ds (happened e f)

-- a group of this name can be made in a folder
pub record IsFresh (d : ℕ) (f : Lists) (name : List ℕ) : Type 0 where
  pub form : is_name name ≡ true
  pub home : home_id name f ≡ Some d
  pub free : child d (extension_of name) f ≡ None

abbrev pub AreFresh : ℕ → Lists → List (List ℕ) → Type 0
AreFresh d f names = AllByRecursion (IsFresh d f) names

-- no two have one extension
abbrev pub Unlike : List ℕ → List (List ℕ) → Type 0
Unlike name names = AllByRecursion (λ (other : List ℕ). bytes_eq (extension_of name) (extension_of other) ≡ false) names

abbrev pub AreUnlike : List (List ℕ) → Type 0
AreUnlike [] = ⊤
AreUnlike (name ∷ names) = Unlike name names × AreUnlike names

-- the facts with the group of a name
abbrev pub with_one : Entity → List ℕ → Lists → Lists
with_one by name f = grown (new_group name [] f) (new_groups_grants by name f) f

pub one_made : (by : Entity) (name : List ℕ) (f : Lists) → all_happened (group_events by name f) f ≡ with_one by name f
one_made by name f = after_group (new_group name [] f) (new_groups_grants by name f) f

pub more_made : (by : Entity) (name : List ℕ) (names : List (List ℕ)) (f : Lists) → with_groups by (name ∷ names) f ≡ with_groups by names (with_one by name f)
more_made by name names f = happened_append (group_events by name f) (groups_events by names (all_happened (group_events by name f) f)) f ∙ ap (λ g. with_groups by names g) (one_made by name f)

-- the place of a new group is free
pub place_free : (name : List ℕ) (d : ℕ) (f : Lists) → IsFresh d f name → child (new_group name [] f).folder (new_group name [] f).extension f ≡ None
place_free name d f fresh = rw fresh.home fresh.free

pub one_keeps : (by : Entity) (name : List ℕ) (d : ℕ) (f : Lists) → IsFresh d f name → Keeps f (with_one by name f)
one_keeps by name d f fresh = child_kept (new_group name [] f) (new_groups_grants by name f) f (place_free name d f fresh)

pub rest_fresh : (by : Entity) (name : List ℕ) (d : ℕ) (names : List (List ℕ)) (f : Lists) → IsFresh d f name → Unlike name names → AreFresh d f names → AreFresh d (with_one by name f) names
rest_fresh by name d [] f fresh unlike h = tt
rest_fresh by name d (other ∷ names) f fresh unlike h = (
  record {
    form = h.0.form;
    home = home_kept f (with_one by name f) (one_keeps by name d f fresh) other d h.0.home;
    free = child_free d (extension_of other) (new_group name [] f) (new_groups_grants by name f) f (place_free name d f fresh) unlike.0 h.0.free;
  },
  rest_fresh by name d names f fresh unlike.1 h.1,
)

-- what a group that is made is named
pub one_found : (by : Entity) (name : List ℕ) (d : ℕ) (f : Lists) → IsFresh d f name → resolve name (with_one by name f) ≡ Some (Group (f.made.groups + 1))
one_found by name d f fresh =
    named_child name d (with_one by name f) fresh.form (home_kept f (with_one by name f) (one_keeps by name d f fresh) name d fresh.home)
    ∙ subst (λ x. child x (extension_of name) (with_one by name f) ≡ Some (Group (f.made.groups + 1))) (ap the_id fresh.home) (child_new (new_group name [] f) (new_groups_grants by name f) f (place_free name d f fresh))

none_made : (f : Lists) → AreMade [] f f
none_made f = record { kept = λ text o h. h; made = λ text n h. cc; rows = refl; subjects = refl; composites = refl }

one_more : (by : Entity) (name : List ℕ) (d : ℕ) (names : List (List ℕ)) (f g : Lists) → IsFresh d f name → AreMade names (with_one by name f) g → AreMade (name ∷ names) f g
one_more by name d names f g fresh rest = record {
  kept = λ text o h. rest.kept text o (resolve_kept f (with_one by name f) (one_keeps by name d f fresh) text o h);
  made = λ text n h. elim (cases_Bool (bytes_eq name text)) [
    | inl t ↦
        let at : Some (f.made.groups + 1) ≡ Some n = rw t at h in
        let same : f.made.groups + 1 ≡ n = cc in
        let found : resolve name g ≡ Some (Group (f.made.groups + 1)) = rest.kept name (Group (f.made.groups + 1)) (one_found by name d f fresh) in
        rw (← bytes_same name text t, ← same) found
    | inr t ↦ rest.made text n (rw t at h)
  ];
  rows = rest.rows;
  subjects = rest.subjects;
  composites = rest.composites;
}

pub all_made : (by : Entity) (d : ℕ) (names : List (List ℕ)) (f : Lists) → AreFresh d f names → AreUnlike names → AreMade names f (with_groups by names f)
all_made by d [] f fresh unlike = none_made f
all_made by d (name ∷ names) f fresh unlike =
    subst (λ g. AreMade (name ∷ names) f g) (sym (more_made by name names f))
    (one_more by name d names f (with_groups by names (with_one by name f)) fresh.0 (all_made by d names (with_one by name f) (rest_fresh by name d names f fresh.0 unlike.0 fresh.1) unlike.1))
