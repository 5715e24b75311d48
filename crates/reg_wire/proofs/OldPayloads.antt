-- Format 1: each stamped command that is writable and that it has is of one payload there, and each payload is of one stamped command.
use Rattle.std.proofs.Common.{◌≡◌, ℕ, true, cond, List, [], ◌∷◌, ◌++◌, get_or, Option, Some, None, refl, sym, ap, subst, ◌∙◌, append-nil}
use Rattle.std.specs.List.{flat_map}
use Rattle.std.proofs.lemmas.Bool.{false≢true}
use Rattle.std.proofs.lemmas.Grind.{flat_map-append}
use Rattle.std.proofs.lemmas.List.{append_cancel_right}
use Rattle.std.proofs.lemmas.Option.{cond_some, same_Some}
use Rattle.reg_base.specs.declared.entity.Entity.{Entity}
use Rattle.reg_terms.specs.declared.command.Command.{Command}
use Rattle.reg_terms.specs.declared.command.Command.TheVariants.{GrantAdd}
use Rattle.reg_terms.specs.declared.command.Stamped.{Stamped}
use Rattle.reg_ops.specs.declared.field.Field.{Field}
use Rattle.reg_ops.specs.declared.field.Field.TheVariants as field
use Rattle.reg_ops.specs.Forms.{is_moment, is_entity, has_form, key_fits, takes_key}
use Rattle.reg_ops.specs.Parts.{◌>>=◌}
use Rattle.reg_ops.specs.Table.{code_of}
use Rattle.reg_wire.specs.Fields.{field_bytes, moment_bytes}
use Rattle.reg_wire.specs.Reading.{moment_at, entity_at}
use Rattle.reg_wire.specs.Payload.{command_bytes, fields_bytes, whole_command_of, IsWritable}
use Rattle.reg_wire.specs.OldPayload.{is_old, IsOld, old_payload, old_command_bytes, old_command_of, old_stamped_at, stamped_of_old, left_out, left_out_behind, dates_left_out}
use Rattle.reg_wire.proofs.Exact.{bind_some, moment_exact}
use Rattle.reg_wire.proofs.Entities.{entity_bytes, entity_exact}
use Rattle.reg_wire.proofs.Commands.{TableMakes, TableParts}
use Rattle.reg_wire.proofs.Payloads.{whole_again, whole_takes}

-- ---- a payload is read again

-- the bytes of a command are those of format 1, and behind them what that leaves out
pub old_whole : (c : Command) → is_old c ≡ true → old_command_bytes c ++ dates_left_out c ≡ command_bytes c
unfolding old_command_bytes command_bytes fields_bytes
old_whole (GrantAdd object privilege holder (Some from) until) old = absurd (false≢true old)
old_whole (GrantAdd object privilege holder None (Some until)) old = absurd (false≢true old)
old_whole (GrantAdd object privilege holder None None) old =
    let told : List Field = field.Object object ∷ field.Privilege privilege ∷ field.Entity holder ∷ [] in
    let untold : List Field = field.OptionalMoment None ∷ field.OptionalMoment None ∷ [] in
    ap (λ (l : List ℕ). 15 ∷ l) (sym (flat_map-append field_bytes told untold))
old_whole _ old = append-nil _

-- what is read as a command is one that format 1 has
then_old : (o : Option Command) (c : Command) → o ≡ Some c → is_old c ≡ true → (o >>= λ found. cond (is_old found) (Some found) None) ≡ Some c
then_old o c is old = rw (is, old) refl

old_command_again : TableParts → (command : Command) → has_form command ≡ true → is_old command ≡ true → old_command_of (old_command_bytes command) ≡ Some command
unfolding old_command_of old_command_bytes
old_command_again table command form old =
    then_old (whole_command_of (old_command_bytes command ++ dates_left_out command)) command (ap whole_command_of (old_whole command old) ∙ whole_again table command form) old

abbrev made_of : ℕ → Entity → Option (List ℕ) → Command → Stamped
made_of moment by key command = record { at = moment; by = by; key = key; command = command }

-- what stands behind the moment of a stamped command
abbrev behind_bytes : Stamped → List ℕ
behind_bytes stamped = entity_bytes stamped.by ++ old_command_bytes stamped.command

old_stamped_again : TableParts → (stamped : Stamped) → IsWritable stamped → IsOld stamped → old_stamped_at stamped.at (behind_bytes stamped) ≡ Some stamped
unfolding old_stamped_at
old_stamped_again table stamped h old =
    let keyless : Some (made_of stamped.at stamped.by None stamped.command) ≡ Some stamped = ap (λ (key : Option (List ℕ)). Some (made_of stamped.at stamped.by key stamped.command)) (sym old.key) in
    rw (entity_exact.again stamped.by (old_command_bytes stamped.command) h.caller, old_command_again table stamped.command h.command old.command) keyless

-- the payload of a writable command reads back as that command
pub old_reads_back : TableParts → (stamped : Stamped) → IsWritable stamped → IsOld stamped → stamped_of_old (old_payload stamped) ≡ Some stamped
unfolding old_payload stamped_of_old
old_reads_back table stamped h old =
    rw (moment_exact.again stamped.at (behind_bytes stamped) h.moment) (old_stamped_again table stamped h old)

-- ---- what is read is a payload

record IsBehind (moment : ℕ) (bytes : List ℕ) (stamped : Stamped) : Type 0 where
  pub at_moment : stamped.at ≡ moment
  pub parts : bytes ≡ behind_bytes stamped
  pub by : is_entity stamped.by ≡ true
  pub form : has_form stamped.command ≡ true
  pub old : IsOld stamped

-- without what is left out behind them
cut : (bytes : List ℕ) (c : Command) → is_old c ≡ true → bytes ++ left_out_behind bytes ≡ command_bytes c → bytes ≡ old_command_bytes c
unfolding command_bytes
cut [] c old e = absurd cc
cut (b ∷ rest) c old e =
    let first : b ≡ code_of c = ap (λ (l : List ℕ). get_or l 0 0) e in
    let whole : (b ∷ rest) ++ left_out b ≡ old_command_bytes c ++ left_out b = e ∙ sym (old_whole c old) ∙ ap (λ (n : ℕ). old_command_bytes c ++ left_out n) (sym first) in
    append_cancel_right (b ∷ rest) (old_command_bytes c) (left_out b) whole

old_command_takes : TableMakes → (bytes : List ℕ) (command : Command) → old_command_of bytes ≡ Some command → (bytes ≡ old_command_bytes command) × (has_form command ≡ true) × (is_old command ≡ true)
unfolding old_command_of
old_command_takes table bytes command e =
    let whole = bytes ++ left_out_behind bytes in
    let c = bind_some (whole_command_of whole) (λ found. cond (is_old found) (Some found) None) command e in
    let g = cond_some (is_old c.0) c.0 command c.2 in
    let r = whole_takes table whole c.0 c.1 in
    subst (λ (found : Command). (bytes ≡ old_command_bytes found) × (has_form found ≡ true) × (is_old found ≡ true)) g.1 (cut bytes c.0 g.0 r.0, r.1, g.0)

old_stamped_takes : TableMakes → (moment : ℕ) (bytes : List ℕ) (stamped : Stamped) → old_stamped_at moment bytes ≡ Some stamped → IsBehind moment bytes stamped
unfolding old_stamped_at
old_stamped_takes table moment bytes stamped e =
    let a = bind_some (entity_at bytes) (λ by. old_command_of by.1 >>= λ command. Some (made_of moment by.0 None command)) stamped e in
    let c = bind_some (old_command_of a.0.1) (λ command. Some (made_of moment a.0.0 None command)) stamped a.2 in
    let found : Stamped = made_of moment a.0.0 None c.0 in
    let p = entity_exact.takes bytes a.0 a.1 in
    let r = old_command_takes table a.0.1 c.0 c.1 in
    subst (IsBehind moment bytes) (same_Some found stamped c.2) (record {
      at_moment = refl;
      parts = p.0 ∙ ap (λ (l : List ℕ). entity_bytes a.0.0 ++ l) r.0;
      by = p.1;
      form = r.1;
      old = record { key = refl; command = r.2 };
    })

-- what is read is writable, and of format 1, and the bytes are its payload
pub one_old_payload : TableMakes → (bytes : List ℕ) (stamped : Stamped) → stamped_of_old bytes ≡ Some stamped → (old_payload stamped ≡ bytes) × IsWritable stamped × IsOld stamped
unfolding old_payload stamped_of_old
one_old_payload table bytes stamped e =
    let m = bind_some (moment_at bytes) (λ moment. old_stamped_at moment.0 moment.1) stamped e in
    let t = moment_exact.takes bytes m.0 m.1 in
    let s = old_stamped_takes table m.0.0 m.0.1 stamped m.2 in
    let good : is_moment stamped.at ≡ true = ap is_moment s.at_moment ∙ t.1 in
    let whole : bytes ≡ moment_bytes stamped.at ++ behind_bytes stamped = t.0 ∙ ap (λ (l : List ℕ). moment_bytes m.0.0 ++ l) s.parts ∙ ap (λ (n : ℕ). moment_bytes n ++ behind_bytes stamped) (sym s.at_moment) in
    let keyless : key_fits (takes_key stamped.command) stamped.key ≡ true = rw s.old.key refl in
    (sym whole, record { moment = good; caller = s.by; key = keyless; command = s.form }, s.old)

-- bytes are read as nothing only where they are the payload of no writable command
pub no_old_payload : TableParts → (bytes : List ℕ) → stamped_of_old bytes ≡ None → (stamped : Stamped) → IsWritable stamped → IsOld stamped → old_payload stamped ≡ bytes → ⊥
no_old_payload table bytes e stamped h old same =
    let read : stamped_of_old bytes ≡ Some stamped = ap stamped_of_old (sym same) ∙ old_reads_back table stamped h old in
    cc
