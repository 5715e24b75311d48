-- What the tests of an owner, of an assignment and of a value come to.
use Rattle.std.proofs.Common.{◌≡◌, ◌≤◌, ◌<◌, ◌==◌, ◌&&◌, ◌||◌, ℕ, List, [], ◌∷◌, Bool, true, false, not, Option, Some, None, IsSome, Ok, Err, option_map, option_and_then, map, if◌then◌else◌, arith, refl, sym, ◌∙◌, ap, subst, inl, inr}
use Rattle.std.specs.Prelude.{codes, is_some}
use Rattle.std.proofs.lemmas.Bool.{cases_Bool, and_parts, eqb-true, or_cases}
use Rattle.std.proofs.lemmas.Bool.Decides.{nat_tests}
use Rattle.reg_base.specs.Entities.{entity_of}
use Rattle.reg_base.specs.declared.entity.Entity.{Entity}
use Rattle.reg_terms.specs.Kinds.{same_object}
use Rattle.reg_terms.specs.Values.{taken}
use Rattle.reg_terms.specs.Limits.{max_values}
use Rattle.reg_terms.specs.declared.command.Stamped.{Stamped}
use Rattle.reg_terms.specs.declared.kinds.AttrValue.{AttrValue}
use Rattle.reg_terms.specs.declared.kinds.Object.{Object}
use Rattle.reg_terms.specs.declared.kinds.Value.{Value}
use Rattle.reg_terms.specs.declared.refusal.Refusal.TheVariants.{WrongKind, WrongValue, Single}
use Rattle.reg_terms.specs.declared.rows.AssignRow.{AssignRow}
use Rattle.reg_terms.specs.declared.rows.AttributeRow.{AttributeRow}
use Rattle.reg_terms.specs.declared.rows.DefinitionRow.{DefinitionRow}
use Rattle.reg_attr.specs.Checks.{beside, check_by, check_for, check_value}
use Rattle.reg_facts.specs.Assigned.{AreAssigned}
use Rattle.reg_facts.specs.Attributes.{assign_row, attribute_id, attribute_row, definition_of, definition_row, has_assign, value_count, value_for, value_of}
use Rattle.reg_facts.specs.Grants.{object_of}
use Rattle.reg_facts.specs.Lists.{Lists}
use Rattle.reg_facts.specs.Sound.{AscendFrom}
use Rattle.reg_machine.specs.Checks.{Check, history_full, limited, missing_object, owner_checks, value_checks}
use Rattle.reg_machine.specs.Assigning.{fault_refusal, has_the_one, is_any, is_many, may_own, names_group, owner_named, owner_of}
use Rattle.reg_machine.specs.Refusals.{first_of}

-- ---- the owner

owner_there : (e : Option Entity) (found : Option Object) (o : Object) → owner_of e found ≡ Some o → found ≡ Some o
owner_there e None o h = absurd (let clash : ⊥ = cc in clash)
owner_there e (Some x) o h = go (may_own (names_group e) x) h
  where
    go : (b : Bool) → (if b then Some x else None) ≡ Some o → Some x ≡ Some o
    go true h = h
    go false h = absurd (let clash : ⊥ = cc in clash)

-- nothing refuses an attribute and an owner that were found
pub owner_passes : (attribute object : List ℕ) (f : Lists) (a : ℕ) (o : Object) (more : List Check) → attribute_id attribute f ≡ Some a → owner_named object f ≡ Some o → first_of (owner_checks attribute object f more) ≡ first_of more
owner_passes attribute object f a o more named owned =
    let found : object_of object f ≡ Some o = owner_there (entity_of object) (object_of object f) o owned in
    rw (named, owned, found) refl

-- where no owner was found that is what refuses it
pub owner_refused : (attribute object : List ℕ) (f : Lists) (a : ℕ) (more : List Check) → attribute_id attribute f ≡ Some a → owner_named object f ≡ None
    → first_of (owner_checks attribute object f more) ≡ first_of (missing_object object (object_of object f) ∷ (true, WrongKind (codes "object")) ∷ [])
owner_refused attribute object f a more named none = rw (named, none) refl

-- ---- the definition

row_id : (n : ℕ) (rows : List DefinitionRow) (d : DefinitionRow) → definition_row n rows ≡ Some d → d.id ≡ n
row_id n [] d h = absurd (let clash : ⊥ = cc in clash)
row_id n (row ∷ rows) d h = elim (cases_Bool (row.id == n)) [
  | inl y ↦
      let is : Some row ≡ Some d = rw y at h in
      let same : row ≡ d = cc in
      rw (sym same) (eqb-true row.id n y)
  | inr y ↦ row_id n rows d (rw y at h)
]

-- the definition of an attribute is the one of its id
pub definition_is : (a : ℕ) (f : Lists) (d : DefinitionRow) → definition_of a f ≡ Some d → definition_row d.id f.definitions ≡ Some d
definition_is a f d h = go (attribute_row a f.attributes) h
  where
    go : (o : Option AttributeRow) → option_and_then (λ (row : AttributeRow). definition_row row.definition f.definitions) o ≡ Some d → definition_row d.id f.definitions ≡ Some d
    go None h = absurd (let clash : ⊥ = cc in clash)
    go (Some row) h = subst (λ n. definition_row n f.definitions ≡ Some d) (sym (row_id row.definition f.definitions d h)) h

-- ---- the assignment

-- an assignment of an id to an owner stands
pub assign_found : (id : ℕ) (o : Object) (a : ℕ) (rows : List AssignRow) → has_assign id o a rows ≡ true → IsSome (assign_row id rows)
assign_found id o a [] h = absurd (let clash : ⊥ = cc in clash)
assign_found id o a (row ∷ rows) h = elim (cases_Bool (row.id == id)) [
  | inl y ↦ rw y refl
  | inr n ↦ rw n (assign_found id o a rows (rw n at h))
]

pub assign_id : (id : ℕ) (rows : List AssignRow) (row : AssignRow) → Some row ≡ assign_row id rows → row.id ≡ id
assign_id id [] row h = absurd (let clash : ⊥ = cc in clash)
assign_id id (r ∷ rows) row h = elim (cases_Bool (r.id == id)) [
  | inl y ↦
      let is : Some row ≡ Some r = rw y at h in
      let same : r ≡ row = cc in
      subst (λ (x : AssignRow). x.id ≡ id) same (eqb-true r.id id y)
  | inr n ↦ assign_id id rows row (rw n at h)
]

-- behind ids that ascend there is none that isn't greater
none_behind : (id : ℕ) (o : Object) (a floor top : ℕ) (rows : List AssignRow) → AscendFrom floor top (map (λ (r : AssignRow). r.id) rows) → id ≤ floor → has_assign id o a rows ≡ false
none_behind id o a floor top [] up low = refl
none_behind id o a floor top (row ∷ rows) up low =
    let other : (row.id == id) ≡ false = grind (arith, nat_tests, up.0, low) in
    rw other (none_behind id o a row.id top rows up.1 (omega (arith, up.0, low)))

-- the assignment of an id is of the attribute, where one of this id is
pub assign_is : (id a : ℕ) (o : Object) (f : Lists) (row : AssignRow) → AreAssigned f → has_assign id o a f.assigns ≡ true → Some row ≡ assign_row id f.assigns → option_map (λ (r : AssignRow). r.attribute) (assign_row row.id f.assigns) ≡ Some a
assign_is id a o f row are has found = let both = go 0 f.made.assigns f.assigns are.ascend has (sym found) in rw (both.0, sym found) (ap (λ x. Some x) both.1)
  where
    go : (floor top : ℕ) (rows : List AssignRow) → AscendFrom floor top (map (λ (r : AssignRow). r.id) rows) → has_assign id o a rows ≡ true → assign_row id rows ≡ Some row → (row.id ≡ id) × (row.attribute ≡ a)
    go floor top [] up has is = absurd (let clash : ⊥ = cc in clash)
    go floor top (r ∷ rows) up has is = elim (cases_Bool (r.id == id)) [
      | inl y ↦
          let same : r.id ≡ id = eqb-true r.id id y in
          let it : Some r ≡ Some row = rw y at is in
          let e : r ≡ row = cc in
          let none : has_assign id o a rows ≡ false = none_behind id o a r.id top rows up.1 (rw same (omega arith)) in
          elim (or_cases (same_object r.owner o && (r.attribute == a)) (has_assign id o a rows) (rw y at has)) [
            | inl here ↦ let parts = and_parts (same_object r.owner o) (r.attribute == a) here in rw (sym e) (same, eqb-true r.attribute a parts.1)
            | inr more ↦ absurd (let clash : ⊥ = cc in clash)
          ]
      | inr n ↦ go r.id top rows up.1 (rw n at has) (rw n at is)
    ]

pub assign_there : (id a : ℕ) (rows : List AssignRow) → option_map (λ (r : AssignRow). r.attribute) (assign_row id rows) ≡ Some a → IsSome (assign_row id rows)
assign_there id a rows h = go (assign_row id rows) h
  where
    go : (o : Option AssignRow) → option_map (λ (r : AssignRow). r.attribute) o ≡ Some a → IsSome o
    go None h = absurd (let clash : ⊥ = cc in clash)
    go (Some row) h = refl

-- ---- the value

beside_is : (values : List AttrValue) (many : Bool) (o : Option AttrValue) (more : List Check) → first_of ((not (is_some o), WrongValue) ∷ (is_any values && not many, Single) ∷ more) ≡ elim (beside values many o) [ Ok v ↦ first_of more | Err fault ↦ Some (fault_refusal fault) ]
beside_is [] many None more = refl
beside_is (x ∷ xs) many None more = refl
beside_is [] many (Some v) more = refl
beside_is (x ∷ xs) true (Some v) more = refl
beside_is (x ∷ xs) false (Some v) more = refl

checked_by : (d : Option DefinitionRow) (values : List AttrValue) (value : Value) (more : List Check) → first_of ((not (is_some (value_for d value)), WrongValue) ∷ (is_any values && not (is_many d), Single) ∷ more) ≡ elim (check_by d values value) [ Ok v ↦ first_of more | Err fault ↦ Some (fault_refusal fault) ]
checked_by None values value more = refl
checked_by (Some d) values value more = beside_is values d.many (taken d.kind value) more

-- where the assignment stands, what is left to refuse a value is the rest
pub value_left : (history : List Stamped) (f : Lists) (a : ℕ) (o : Object) (id row : ℕ) (value : Value) → row ≡ id → has_assign id o a f.assigns ≡ true
    → first_of ((not (is_some (value_of a value f)), WrongValue) ∷ (has_the_one a row f, Single) ∷ limited max_values (value_count f.assigns) (codes "value") ∷ history_full history ∷ []) ≡ first_of (value_checks history f a (Some o) id value)
value_left history f a o id row value same has = rw (has, same) refl

-- what refuses a value for an assignment of an attribute is what its definition finds at fault
pub value_checked : (a id : ℕ) (value : Value) (f : Lists) (more : List Check) → option_map (λ (r : AssignRow). r.attribute) (assign_row id f.assigns) ≡ Some a
    → first_of ((not (is_some (value_of a value f)), WrongValue) ∷ (has_the_one a id f, Single) ∷ more) ≡ elim (check_value id value f) [ Ok v ↦ first_of more | Err fault ↦ Some (fault_refusal fault) ]
value_checked a id value f more h = go (assign_row id f.assigns) refl h
  where
    go : (o : Option AssignRow) → assign_row id f.assigns ≡ o → option_map (λ (r : AssignRow). r.attribute) o ≡ Some a
        → first_of ((not (is_some (value_of a value f)), WrongValue) ∷ (has_the_one a id f, Single) ∷ more) ≡ elim (check_value id value f) [ Ok v ↦ first_of more | Err fault ↦ Some (fault_refusal fault) ]
    go None e h = absurd (let clash : ⊥ = cc in clash)
    go (Some row) e h =
        let its : row.attribute ≡ a = cc in
        rw (e, sym its) (checked_by (definition_of row.attribute f) row.values value more)
