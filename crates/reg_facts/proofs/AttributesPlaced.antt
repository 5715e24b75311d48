-- A definition or an attribute more, or less, among the objects that are placed.
use Rattle.std.proofs.Common.{◌≡◌, ◌==◌, ◌++◌, ℕ, List, [], ◌∷◌, Bool, not, inl, inr, refl, sym, ap, ◌∙◌, map, filter, append_assoc}
use Rattle.std.proofs.lemmas.Bool.{cases_Bool}
use Rattle.std.proofs.lemmas.List.{map-append, append-nil}
use Rattle.std.proofs.lemmas.List.Elements.{filter-append}
use Rattle.reg_terms.specs.Kinds.{same_object}
use Rattle.reg_terms.specs.declared.event.Event.TheVariants.{DefinitionMade, DefinitionGone, AttributeMade, AttributeGone}
use Rattle.reg_terms.specs.declared.kinds.Object.{Object}
use Rattle.reg_terms.specs.declared.kinds.Object.TheVariants.{Def, Attr}
use Rattle.reg_terms.specs.declared.rows.AttributeRow.{AttributeRow}
use Rattle.reg_terms.specs.declared.rows.DefinitionRow.{DefinitionRow}
use Rattle.reg_facts.specs.Events.{happened}
use Rattle.reg_facts.specs.Lists.{Lists}
use Rattle.reg_facts.specs.Naming.{Placed, placed, placed_folders, placed_group, placed_definition, placed_attribute}
use Rattle.reg_facts.proofs.Changes.{kept}
use Rattle.reg_facts.proofs.Edited.{Off, off_folders_by, off_map, off_append, off_cut}

-- ---- rows that place objects

rows_push : {R : Type 0} (make : R → Placed) (a : List Placed) (rows : List R) (row : R) → a ++ map make (rows ++ row ∷ []) ≡ (a ++ map make rows) ++ make row ∷ []
rows_push make a rows row = ap (λ ps. a ++ ps) (map-append make rows (row ∷ [])) ∙ sym (append_assoc a (map make rows) (make row ∷ []))

rows_cut : {R : Type 0} (make : R → Placed) (o : Object) (test : R → Bool) → ((r : R) → same_object (make r).object o ≡ test r) → (rows : List R) → map make (filter (λ r. not (test r)) rows) ≡ filter (kept o) (map make rows)
rows_cut make o test same [] = refl
rows_cut make o test same (r ∷ rows) = elim (cases_Bool (test r)) [
  | inl t ↦ rw (same r, t) (rows_cut make o test same rows)
  | inr t ↦ rw (same r, t) (ap (λ ps. make r ∷ ps) (rows_cut make o test same rows))
]

-- an object goes that is last among some, and isn't before these
cut_behind : (o : Object) (a b less : List Placed) → Off o a → less ≡ filter (kept o) b → a ++ less ≡ filter (kept o) (a ++ b)
cut_behind o a b less off h =
    ap (λ ps. a ++ ps) h
    ∙ ap (λ ps. ps ++ filter (kept o) b) (sym (off_cut o a off))
    ∙ sym (filter-append (kept o) a b)

-- nor behind them
cut_middle : (o : Object) (a less b : List Placed) → Off o b → less ≡ filter (kept o) a → less ++ b ≡ filter (kept o) (a ++ b)
cut_middle o a less b off h =
    ap (λ ps. ps ++ b) h
    ∙ ap (λ ps. filter (kept o) a ++ ps) (sym (off_cut o b off))
    ∙ sym (filter-append (kept o) a b)

-- ---- definitions

-- folders and groups come before definitions, and these before attributes
abbrev folders_groups : Lists → List Placed
folders_groups f = placed_folders f.folders ++ map placed_group f.groups

abbrev pub before_attributes : Lists → List Placed
before_attributes f = folders_groups f ++ map placed_definition f.definitions

pub definition_split : (f : Lists) → placed f ≡ before_attributes f ++ map placed_attribute f.attributes
unfolding placed
definition_split f = refl

pub definition_put : (row : DefinitionRow) (f : Lists) → placed (happened (DefinitionMade row) f) ≡ before_attributes f ++ placed_definition row ∷ map placed_attribute f.attributes
unfolding placed
definition_put row f =
    ap (λ ps. ps ++ map placed_attribute f.attributes) (rows_push placed_definition (folders_groups f) f.definitions row)
    ∙ append_assoc (before_attributes f) (placed_definition row ∷ []) (map placed_attribute f.attributes)

off_definition : (id : ℕ) (f : Lists) → Off (Def id) (folders_groups f)
off_definition id f = off_append (Def id) (placed_folders f.folders) (map placed_group f.groups) (off_folders_by (Def id) f.folders (λ x. refl)) (off_map (Def id) placed_group (λ r. refl) f.groups)

pub definition_cut : (id : ℕ) (f : Lists) → placed (happened (DefinitionGone id) f) ≡ filter (kept (Def id)) (placed f)
unfolding placed
definition_cut id f =
    let less = map placed_definition (filter (λ (row : DefinitionRow). not (row.id == id)) f.definitions) in
    cut_middle (Def id) (before_attributes f) (folders_groups f ++ less) (map placed_attribute f.attributes) (off_map (Def id) placed_attribute (λ r. refl) f.attributes)
    (cut_behind (Def id) (folders_groups f) (map placed_definition f.definitions) less (off_definition id f) (rows_cut placed_definition (Def id) (λ (row : DefinitionRow). row.id == id) (λ r. refl) f.definitions))

-- ---- attributes

pub attribute_split : (f : Lists) → placed f ≡ placed f ++ []
attribute_split f = sym (append-nil (placed f))

pub attribute_put : (row : AttributeRow) (f : Lists) → placed (happened (AttributeMade row) f) ≡ placed f ++ placed_attribute row ∷ []
unfolding placed
attribute_put row f = rows_push placed_attribute (before_attributes f) f.attributes row

off_attribute : (id : ℕ) (f : Lists) → Off (Attr id) (before_attributes f)
off_attribute id f = off_append (Attr id) (folders_groups f) (map placed_definition f.definitions)
    (off_append (Attr id) (placed_folders f.folders) (map placed_group f.groups) (off_folders_by (Attr id) f.folders (λ x. refl)) (off_map (Attr id) placed_group (λ r. refl) f.groups))
    (off_map (Attr id) placed_definition (λ r. refl) f.definitions)

pub attribute_cut : (id : ℕ) (f : Lists) → placed (happened (AttributeGone id) f) ≡ filter (kept (Attr id)) (placed f)
unfolding placed
attribute_cut id f =
    let less = map placed_attribute (filter (λ (row : AttributeRow). not (row.id == id)) f.attributes) in
    cut_behind (Attr id) (before_attributes f) (map placed_attribute f.attributes) less (off_attribute id f) (rows_cut placed_attribute (Attr id) (λ (row : AttributeRow). row.id == id) (λ r. refl) f.attributes)
