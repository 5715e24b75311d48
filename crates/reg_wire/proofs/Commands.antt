-- Commands are read exactly as they are written, by the kinds of their fields.
use Rattle.std.proofs.Common.{◌≡◌, ℕ, Bool, true, false, eqb, leb, List, [], ◌∷◌, ◌++◌, map, Option, Some, refl, sym, ap, subst, ◌∙◌, append_assoc, inl, inr, arith}
use Rattle.std.specs.List.{list_all, flat_map}
use Rattle.std.proofs.lemmas.Bool.{and_parts, and_from, eqb-true, false≢true, leb-true}
use Rattle.std.proofs.lemmas.Option.{same_Some}
use Rattle.reg_base.specs.Names.{is_extension, is_name, is_source}
use Rattle.reg_base.specs.declared.entity.Entity.{Entity}
use Rattle.reg_base.specs.declared.privilege.Privilege.{Privilege}
use Rattle.reg_terms.specs.declared.kinds.DefKind.{DefKind}
use Rattle.reg_terms.specs.declared.kinds.InheritKind.{InheritKind}
use Rattle.reg_terms.specs.declared.kinds.Owners.{Owners}
use Rattle.reg_terms.specs.declared.kinds.Scope.{Scope}
use Rattle.reg_terms.specs.declared.kinds.SetOp.{SetOp}
use Rattle.reg_terms.specs.declared.kinds.Value.{Value}
use Rattle.reg_terms.specs.declared.lists.LoadRow.{LoadRow}
use Rattle.reg_terms.specs.declared.command.Command.{Command}
use Rattle.reg_terms.specs.declared.command.Command.TheVariants.{ConsumerAck}
use Rattle.reg_ops.specs.declared.table.CommandKind.{CommandKind}
use Rattle.reg_ops.specs.declared.field.FieldKind.{FieldKind}
use Rattle.reg_ops.specs.declared.field.FieldKind.TheVariants as kind
use Rattle.reg_ops.specs.declared.field.Field.{Field}
use Rattle.reg_ops.specs.declared.field.Field.TheVariants as field
use Rattle.reg_ops.specs.Forms.{is_folder_text, is_display, is_object_text, is_field, has_form}
use Rattle.reg_ops.specs.Parts.{◌>>=◌, field_kind}
use Rattle.reg_ops.specs.Table.{command_row, field_kinds, commands, coded, kind_of, fields_of, code_of, made_command, IsMadeCommand, IsApart}
use Rattle.reg_wire.specs.Fields.{field_bytes}
use Rattle.reg_wire.specs.Payload.{fields_bytes, command_bytes}
use Rattle.reg_wire.specs.Reading.{byte_at, names_at, load_rows_at, name_at, folder_at, extension_at, source_at, display_at, entity_at, object_at, optional_moment_at, ranged_at, set_op_at, inherit_kind_at, scope_at, privilege_at, owners_at, flag_at, def_kind_at, value_at, stands, field_at, fields_at, command_at, command_of}
use Rattle.reg_wire.proofs.Texts.{name_short, folder_short, extension_short, source_short, display_short}
use Rattle.reg_wire.proofs.Exact.{IsExact, bind_some, tested_exact, optional_exact, set_op_exact, ranged_takes, ranged_again}
use Rattle.reg_wire.proofs.Entities.{chosen, entity_exact}
use Rattle.reg_wire.proofs.Objects.{object_short}
use Rattle.reg_wire.proofs.Grants.{inherit_kind_exact, scope_exact, privilege_exact, byte_takes}
use Rattle.reg_wire.proofs.Attributes.{owners_exact, flag_exact, def_kind_exact, value_exact}
use Rattle.reg_wire.proofs.LoadLists.{names_exact, load_rows_exact}

-- what the table of ops says of commands that are made of fields, and of those that are taken apart
abbrev pub TableMakes : Type 0
TableMakes = (k : CommandKind) (fields : List Field) → map field_kind fields ≡ field_kinds (command_row k).op → IsMadeCommand k fields

abbrev pub TableParts : Type 0
TableParts = (c : Command) → IsApart c

-- ---- one field

-- each kind of field that is a text
name_exact : IsExact (λ (v : List ℕ). field_bytes (field.Name v)) (λ (v : List ℕ). is_field (field.Name v)) name_at
name_exact = tested_exact is_name (λ text h. omega (arith, name_short text h))

folder_exact : IsExact (λ (v : List ℕ). field_bytes (field.Folder v)) (λ (v : List ℕ). is_field (field.Folder v)) folder_at
folder_exact = tested_exact is_folder_text (λ text h. omega (arith, folder_short text h))

extension_exact : IsExact (λ (v : List ℕ). field_bytes (field.Extension v)) (λ (v : List ℕ). is_field (field.Extension v)) extension_at
extension_exact = tested_exact is_extension (λ text h. omega (arith, extension_short text h))

source_exact : IsExact (λ (v : List ℕ). field_bytes (field.Source v)) (λ (v : List ℕ). is_field (field.Source v)) source_at
source_exact = tested_exact is_source (λ text h. omega (arith, source_short text h))

display_exact : IsExact (λ (v : List ℕ). field_bytes (field.Display v)) (λ (v : List ℕ). is_field (field.Display v)) display_at
display_exact = tested_exact is_display (λ text h. omega (arith, display_short text h))

object_exact : IsExact (λ (v : List ℕ). field_bytes (field.Object v)) (λ (v : List ℕ). is_field (field.Object v)) object_at
object_exact = tested_exact is_object_text object_short

-- a field that was read is of its kind, and as it is written
record IsTaken (k : FieldKind) (bytes : List ℕ) (x : Field × List ℕ) : Type 0 where
  pub is_kind : field_kind x.0 ≡ k
  pub parts : bytes ≡ field_bytes x.0 ++ x.1
  pub fits : is_field x.0 ≡ true

taken : {A : Type 0} (k : FieldKind) (as_a : A → Field) (read : List ℕ → Option (A × List ℕ)) → ((v : A) → field_kind (as_a v) ≡ k) → IsExact (λ (v : A). field_bytes (as_a v)) (λ (v : A). is_field (as_a v)) read → (bytes : List ℕ) (x : Field × List ℕ) → stands as_a (read bytes) ≡ Some x → IsTaken k bytes x
taken k as_a read is_k exact bytes x e =
    let v = bind_some (read bytes) (λ value. Some (as_a value.0, value.1)) x e in
    let t = exact.takes bytes v.0 v.1 in
    subst (IsTaken k bytes) (same_Some (as_a v.0.0, v.0.1) x v.2) (record { is_kind = is_k v.0.0; parts = t.0; fits = t.1 })

field_takes : (k : FieldKind) (bytes : List ℕ) (x : Field × List ℕ) → field_at k bytes ≡ Some x → IsTaken k bytes x
field_takes kind.Name bytes x e = taken kind.Name (λ (v : List ℕ). field.Name v) name_at (λ v. refl) name_exact bytes x e
field_takes kind.Folder bytes x e = taken kind.Folder (λ (v : List ℕ). field.Folder v) folder_at (λ v. refl) folder_exact bytes x e
field_takes kind.Extension bytes x e = taken kind.Extension (λ (v : List ℕ). field.Extension v) extension_at (λ v. refl) extension_exact bytes x e
field_takes kind.Source bytes x e = taken kind.Source (λ (v : List ℕ). field.Source v) source_at (λ v. refl) source_exact bytes x e
field_takes kind.Display bytes x e = taken kind.Display (λ (v : List ℕ). field.Display v) display_at (λ v. refl) display_exact bytes x e
field_takes kind.Entity bytes x e = taken kind.Entity (λ (v : Entity). field.Entity v) entity_at (λ v. refl) entity_exact bytes x e
field_takes kind.Object bytes x e = taken kind.Object (λ (v : List ℕ). field.Object v) object_at (λ v. refl) object_exact bytes x e
field_takes kind.OptionalMoment bytes x e = taken kind.OptionalMoment (λ (v : Option ℕ). field.OptionalMoment v) optional_moment_at (λ v. refl) optional_exact bytes x e
field_takes kind.SetOp bytes x e = taken kind.SetOp (λ (v : SetOp). field.SetOp v) set_op_at (λ v. refl) set_op_exact bytes x e
field_takes kind.InheritKind bytes x e = taken kind.InheritKind (λ (v : InheritKind). field.InheritKind v) inherit_kind_at (λ v. refl) inherit_kind_exact bytes x e
field_takes kind.Scope bytes x e = taken kind.Scope (λ (v : Scope). field.Scope v) scope_at (λ v. refl) scope_exact bytes x e
field_takes kind.Privilege bytes x e = taken kind.Privilege (λ (v : Privilege). field.Privilege v) privilege_at (λ v. refl) privilege_exact bytes x e
field_takes kind.Owners bytes x e = taken kind.Owners (λ (v : Owners). field.Owners v) owners_at (λ v. refl) owners_exact bytes x e
field_takes kind.Flag bytes x e = taken kind.Flag (λ (v : Bool). field.Flag v) flag_at (λ v. refl) flag_exact bytes x e
field_takes kind.DefKind bytes x e = taken kind.DefKind (λ (v : DefKind). field.DefKind v) def_kind_at (λ v. refl) def_kind_exact bytes x e
field_takes kind.Value bytes x e = taken kind.Value (λ (v : Value). field.Value v) value_at (λ v. refl) value_exact bytes x e
field_takes (kind.Number least most) bytes x e =
    let v = bind_some (ranged_at least most bytes) (λ value. Some (field.Number value.0 least most, value.1)) x e in
    let t = ranged_takes least most bytes v.0 v.1 in
    subst (IsTaken (kind.Number least most) bytes) (same_Some (field.Number v.0.0 least most, v.0.1) x v.2) (record { is_kind = refl; parts = t.0; fits = t.1 })
field_takes kind.Names bytes x e = taken kind.Names (λ (v : List (List ℕ)). field.Names v) names_at (λ v. refl) names_exact bytes x e
field_takes kind.LoadRows bytes x e = taken kind.LoadRows (λ (v : List LoadRow). field.LoadRows v) load_rows_at (λ v. refl) load_rows_exact bytes x e
field_takes kind.Table bytes x e = absurd cc

-- a number whose greatest value has 64 bits, or another field that a command may have
abbrev is_wide : Field → Bool
is_wide (field.Number value least most) = leb most 18446744073709551615
is_wide (field.Table table) = false
is_wide _ = true

-- and a field is read again
field_again : (f : Field) (rest : List ℕ) → is_field f ≡ true → is_wide f ≡ true → field_at (field_kind f) (field_bytes f ++ rest) ≡ Some (f, rest)
field_again (field.Name v) rest h wide = rw (name_exact.again v rest h) refl
field_again (field.Folder v) rest h wide = rw (folder_exact.again v rest h) refl
field_again (field.Extension v) rest h wide = rw (extension_exact.again v rest h) refl
field_again (field.Source v) rest h wide = rw (source_exact.again v rest h) refl
field_again (field.Display v) rest h wide = rw (display_exact.again v rest h) refl
field_again (field.Entity v) rest h wide = rw (entity_exact.again v rest h) refl
field_again (field.Object v) rest h wide = rw (object_exact.again v rest h) refl
field_again (field.OptionalMoment v) rest h wide = rw (optional_exact.again v rest h) refl
field_again (field.SetOp v) rest h wide = rw (set_op_exact.again v rest h) refl
field_again (field.InheritKind v) rest h wide = rw (inherit_kind_exact.again v rest h) refl
field_again (field.Scope v) rest h wide = rw (scope_exact.again v rest h) refl
field_again (field.Privilege v) rest h wide = rw (privilege_exact.again v rest h) refl
field_again (field.Owners v) rest h wide = rw (owners_exact.again v rest h) refl
field_again (field.Flag v) rest h wide = rw (flag_exact.again v rest h) refl
field_again (field.DefKind v) rest h wide = rw (def_kind_exact.again v rest h) refl
field_again (field.Value v) rest h wide = rw (value_exact.again v rest h) refl
field_again (field.Number v least most) rest h wide = rw (ranged_again least most v rest h (leb-true _ _ wide)) refl
field_again (field.Names v) rest h wide = rw (names_exact.again v rest h) refl
field_again (field.LoadRows v) rest h wide = rw (load_rows_exact.again v rest h) refl
field_again (field.Table v) rest h wide = absurd (false≢true wide)

-- ---- fields one behind the other

abbrev pub bytes_of : List Field → List ℕ
bytes_of fs = flat_map field_bytes fs

abbrev pub all_fit : List Field → Bool
all_fit fs = list_all is_field fs

-- all are wide
abbrev are_wide : List Field → Bool
are_wide fs = list_all is_wide fs

record AreTaken (ks : List FieldKind) (bytes : List ℕ) (x : List Field × List ℕ) : Type 0 where
  pub are_kinds : map field_kind x.0 ≡ ks
  pub parts : bytes ≡ bytes_of x.0 ++ x.1
  pub fits : all_fit x.0 ≡ true

fields_take : (ks : List FieldKind) (bytes : List ℕ) (x : List Field × List ℕ) → fields_at ks bytes ≡ Some x → AreTaken ks bytes x
fields_take [] bytes x e = subst (AreTaken [] bytes) (same_Some ([], bytes) x e) (record { are_kinds = refl; parts = refl; fits = refl })
fields_take (k ∷ ks) bytes x e =
    let a = bind_some (field_at k bytes) (λ first. fields_at ks first.1 >>= λ others. Some (first.0 ∷ others.0, others.1)) x e in
    let b = bind_some (fields_at ks a.0.1) (λ others. Some (a.0.0 ∷ others.0, others.1)) x a.2 in
    let t = field_takes k bytes a.0 a.1 in
    let u = fields_take ks a.0.1 b.0 b.1 in
    let front = field_bytes a.0.0 in
    subst (AreTaken (k ∷ ks) bytes) (same_Some (a.0.0 ∷ b.0.0, b.0.1) x b.2) (record {
      are_kinds = ap (λ (j : FieldKind). j ∷ map field_kind b.0.0) t.is_kind ∙ ap (λ (js : List FieldKind). k ∷ js) u.are_kinds;
      parts = t.parts ∙ ap (λ (l : List ℕ). front ++ l) u.parts ∙ sym (append_assoc front (bytes_of b.0.0) b.0.1);
      fits = and_from _ _ t.fits u.fits;
    })

fields_again : (fs : List Field) (rest : List ℕ) → all_fit fs ≡ true → are_wide fs ≡ true → fields_at (map field_kind fs) (bytes_of fs ++ rest) ≡ Some (fs, rest)
fields_again [] rest fits wide = refl
fields_again (f ∷ fs) rest fits wide =
    let both = and_parts (is_field f) (all_fit fs) fits in
    let wides = and_parts (is_wide f) (are_wide fs) wide in
    ap (fields_at (map field_kind (f ∷ fs))) (append_assoc (field_bytes f) (bytes_of fs) rest) ∙ rw (field_again f (bytes_of fs ++ rest) both.0 wides.0, fields_again fs rest both.1 wides.1) refl

-- ---- commands

-- a command that was read is of its kind, and as it is written
record IsTakenAs (k : CommandKind) (bytes : List ℕ) (x : Command × List ℕ) : Type 0 where
  pub is_kind : kind_of x.0 ≡ k
  pub parts : bytes ≡ bytes_of (fields_of x.0) ++ x.1
  pub fits : has_form x.0 ≡ true

at_takes : TableMakes → (k : CommandKind) (bytes : List ℕ) (x : Command × List ℕ) → command_at k bytes ≡ Some x → IsTakenAs k bytes x
unfolding command_at has_form
at_takes makes k bytes x e =
    let b = bind_some (fields_at (field_kinds (command_row k).op) bytes) (λ fields. made_command k fields.0 >>= λ command. Some (command, fields.1)) x e in
    let d = bind_some (made_command k b.0.0) (λ command. Some (command, b.0.1)) x b.2 in
    let t = fields_take (field_kinds (command_row k).op) bytes b.0 b.1 in
    let m = makes k b.0.0 t.are_kinds in
    let same : m.command ≡ d.0 = same_Some m.command d.0 (sym m.made_so ∙ d.1) in
    let has : fields_of d.0 ≡ b.0.0 = ap fields_of (sym same) ∙ m.has_these in
    subst (IsTakenAs k bytes) (same_Some (d.0, b.0.1) x d.2) (record {
      is_kind = ap kind_of (sym same) ∙ m.is_kind;
      parts = t.parts ∙ ap (λ (l : List Field). bytes_of l ++ b.0.1) (sym has);
      fits = ap all_fit has ∙ t.fits;
    })

-- so are the fields of every command
commands_wide : (c : Command) → are_wide (fields_of c) ≡ true
commands_wide (ConsumerAck consumer seq) = refl
commands_wide _ = refl

at_again : TableParts → (c : Command) (rest : List ℕ) → has_form c ≡ true → command_at (kind_of c) (bytes_of (fields_of c) ++ rest) ≡ Some (c, rest)
unfolding command_at has_form
at_again parts c rest fits =
    let p = parts c in
    let read : fields_at (field_kinds (command_row (kind_of c)).op) (bytes_of (fields_of c) ++ rest) ≡ Some (fields_of c, rest) = ap (λ (ks : List FieldKind). fields_at ks (bytes_of (fields_of c) ++ rest)) (sym p.kinds) ∙ fields_again (fields_of c) rest fits (commands_wide c) in
    rw (read, p.again) refl

-- ---- with the code in front

coded_takes : (ks : List CommandKind) (code : ℕ) (k : CommandKind) → coded ks code ≡ Some k → code ≡ (command_row k).code
coded_takes [] code k e = absurd cc
coded_takes (j ∷ js) code k e = elim (chosen (eqb code (command_row j).code) (Some j) (coded js code) (Some k) e) [
  | inl here ↦ eqb-true _ _ here.0 ∙ ap (λ (i : CommandKind). (command_row i).code) (same_Some j k here.1)
  | inr later ↦ coded_takes js code k later.1
]

-- a command that has its form is read back
pub command_again : TableParts → (c : Command) (rest : List ℕ) → has_form c ≡ true → command_of (command_bytes c ++ rest) ≡ Some (c, rest)
unfolding command_of command_bytes fields_bytes
command_again parts c rest fits = rw ((parts c).coded_so, at_again parts c rest fits) refl

-- and what is read has its form and these bytes
pub command_takes : TableMakes → (bytes : List ℕ) (x : Command × List ℕ) → command_of bytes ≡ Some x → (bytes ≡ command_bytes x.0 ++ x.1) × (has_form x.0 ≡ true)
unfolding command_of command_bytes fields_bytes
command_takes makes bytes x e =
    let a = bind_some (byte_at bytes) (λ code. coded commands code.0 >>= λ k. command_at k code.1) x e in
    let b = bind_some (coded commands a.0.0) (λ k. command_at k a.0.1) x a.2 in
    let t = at_takes makes b.0 a.0.1 x b.2 in
    let same : a.0.0 ≡ code_of x.0 = coded_takes commands a.0.0 b.0 b.1 ∙ ap (λ (k : CommandKind). (command_row k).code) (sym t.is_kind) in
    (byte_takes bytes a.0 a.1 ∙ ap (λ (l : List ℕ). a.0.0 ∷ l) t.parts ∙ ap (λ (n : ℕ). n ∷ (bytes_of (fields_of x.0) ++ x.1)) same, t.fits)

-- commands with the same bytes are the same
pub same_command : TableParts → (a b : Command) → has_form a ≡ true → has_form b ≡ true → command_bytes a ≡ command_bytes b → a ≡ b
same_command parts a b form_a form_b same =
    let left : Command × List ℕ = (a, []) in
    let right : Command × List ℕ = (b, []) in
    let read : Some left ≡ Some right = sym (command_again parts a [] form_a) ∙ ap (λ (l : List ℕ). command_of (l ++ [])) same ∙ command_again parts b [] form_b in
    ap (λ (x : Command × List ℕ). x.0) (same_Some left right read)
