-- Rows of the next id, and attributes and assignments by their ids.
use Rattle.std.proofs.Common.{◌≡◌, ◌<◌, ◌==◌, ◌+◌, ◌++◌, ℕ, List, [], ◌∷◌, false, Some, None, IsSome, refl, map, arith}
use Rattle.std.proofs.lemmas.Bool.{ne_eqb, eqb-true}
use Rattle.reg_terms.specs.declared.kinds.Object.{Object}
use Rattle.reg_terms.specs.declared.rows.AssignRow.{AssignRow}
use Rattle.reg_terms.specs.declared.rows.AttributeRow.{AttributeRow}
use Rattle.reg_terms.specs.declared.rows.FolderRow.{FolderRow}
use Rattle.reg_terms.specs.declared.rows.GroupRow.{GroupRow}
use Rattle.reg_facts.specs.Ascending.{AttributesAscend, AssignsAscend, FoldersAscend, GroupsAscend}
use Rattle.reg_facts.specs.Assigned.{AreAssigned}
use Rattle.reg_facts.specs.Attributes.{assign_row, has_assign}
use Rattle.reg_facts.specs.Lists.{Lists}
use Rattle.reg_facts.specs.Sound.{AscendFrom, IsSound}
use Rattle.reg_facts.proofs.Edited.{ascend_push, begins_push}
use Rattle.reg_facts.proofs.Noted.{ascend_top}
use Rattle.reg_facts.proofs.PlacedRows.{passes}
use Rattle.reg_facts.proofs.Searched.{ascending, from_root}

-- with one of the next id they ascend still
pub next_folder : (f : Lists) (row : FolderRow) → IsSound f → row.id ≡ f.made.folders + 1 → IsSome row.parent → FoldersAscend (f.folders ++ row ∷ [])
next_folder f row s next parent = from_root (f.made.folders + 1) (f.folders ++ row ∷ []) (begins_push f.made.folders f.folders row s.folders next parent)

pub next_group : (f : Lists) (row : GroupRow) → IsSound f → row.id ≡ f.made.groups + 1 → GroupsAscend (f.groups ++ row ∷ [])
next_group f row s next = ascending 0 (f.made.groups + 1) (map (λ (r : GroupRow). r.id) (f.groups ++ row ∷ [])) (ascend_push (λ (r : GroupRow). r.id) 0 f.made.groups f.groups row s.groups next)

pub next_attribute : (f : Lists) (row : AttributeRow) → IsSound f → row.id ≡ f.made.attributes + 1 → AttributesAscend (f.attributes ++ row ∷ [])
next_attribute f row s next = ascending 0 (f.made.attributes + 1) (map (λ (r : AttributeRow). r.id) (f.attributes ++ row ∷ [])) (ascend_push (λ (r : AttributeRow). r.id) 0 f.made.attributes f.attributes row s.attributes next)

pub next_assign : (f : Lists) (row : AssignRow) → AreAssigned f → row.id ≡ f.made.assigns + 1 → AssignsAscend (f.assigns ++ row ∷ [])
next_assign f row h next = ascending 0 (f.made.assigns + 1) (map (λ (r : AssignRow). r.id) (f.assigns ++ row ∷ [])) (ascend_push (λ (r : AssignRow). r.id) 0 f.made.assigns f.assigns row h.ascend next)

-- no assignment has a later id than the last that was made
none_from : (floor top id : ℕ) (rows : List AssignRow) → AscendFrom floor top (map (λ (row : AssignRow). row.id) rows) → top < id → None ≡ assign_row id rows
none_from floor top id [] h past = refl
none_from floor top id (row ∷ rows) h past =
    let low = ascend_top row.id top (map (λ (r : AssignRow). r.id) rows) h.1 in
    rw (ne_eqb row.id id (λ e. absurd (omega (arith, e, low, past)))) (none_from row.id top id rows h.1 past)

pub none_past : (f : Lists) (id : ℕ) → AreAssigned f → f.made.assigns < id → None ≡ assign_row id f.assigns
none_past f id h past = none_from 0 f.made.assigns id f.assigns h.ascend past

has_none_from : (floor top id : ℕ) (o : Object) (a : ℕ) (rows : List AssignRow) → AscendFrom floor top (map (λ (row : AssignRow). row.id) rows) → top < id → false ≡ has_assign id o a rows
has_none_from floor top id o a [] h past = refl
has_none_from floor top id o a (row ∷ rows) h past =
    let low = ascend_top row.id top (map (λ (r : AssignRow). r.id) rows) h.1 in
    rw (ne_eqb row.id id (λ e. absurd (omega (arith, e, low, past)))) (has_none_from row.id top id o a rows h.1 past)

pub has_none_past : (f : Lists) (id : ℕ) (o : Object) (a : ℕ) → AreAssigned f → f.made.assigns < id → false ≡ has_assign id o a f.assigns
has_none_past f id o a h past = has_none_from 0 f.made.assigns id o a f.assigns h.ascend past

-- the row that is found has the id
pub found_assign_id : (rows : List AssignRow) (row : AssignRow) (id : ℕ) → assign_row id rows ≡ Some row → row.id ≡ id
found_assign_id rows row id found = eqb-true row.id id (passes (λ (r : AssignRow). r.id == id) rows row found)
