use Rattle.std.proofs.Common.{◌≡◌, ◌∙◌, ap, arith, length, sym, true, false}
use Rattle.std.specs.List.{remove}
use Rattle.reg_export.specs.Members.{is_there, keys_before}
use Rattle.reg_export.proofs.Placing.{put_new, put_over, there_within}
use Rattle.reg_export.proofs.members.put_member.Goals as goal
use Rattle.reg_export.proofs.members.put_member.Goals.{then-there, else-there}

-- a key that is there stands among the members
pub remove-requires : goal.remove-requires
remove-requires c =
    let at : c.place_of-before.result.0 ≡ keys_before c.args.key.now c.args.members.items = rw c.deref.ensures.value at c.place_of-before.ensures.place in
    let there : is_there c.args.key.now c.args.members.items ≡ true = sym (rw c.deref.ensures.value at c.place_of-before.ensures.there) ∙ c.if-there.true in
    let within = there_within c.args.key.now c.args.members.items there in
    omega (arith, at, within, c.deref.ensures.len, ap length c.deref.ensures.value)

-- the part stands in its place
pub returns-in-Ok : goal.returns-in-Ok
returns-in-Ok c =
    let ps = c.args.members.items in
    let before = c.place_of-before.result.0 in
    let at : before ≡ keys_before c.args.key.now ps = rw c.deref.ensures.value at c.place_of-before.ensures.place in
    let is : c.place_of-before.result.1 ≡ is_there c.args.key.now ps = rw c.deref.ensures.value at c.place_of-before.ensures.there in
    elim c.if-there.branch [
      | then-there w ↦
          let there : is_there c.args.key.now ps ≡ true = sym is ∙ w.if-there.true in
          let taken : c.if-there.members.items ≡ remove ps before = rw w.members-is w.remove.ensures.items in
          rw (c.in-Ok.ensures.items, taken, at) (sym (put_over (c.args.key, c.args.part) ps there))
      | else-there w ↦
          let there : is_there c.args.key.now ps ≡ false = sym is ∙ w.if-there.false in
          rw (c.in-Ok.ensures.items, w.members-is, at) (sym (put_new (c.args.key, c.args.part) ps there))
    ]
