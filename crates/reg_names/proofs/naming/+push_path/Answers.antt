use Rattle.std.proofs.Common.{◌≡◌, ◌++◌, ◌∷◌, [], ◌-◌, rules, arith, string_bytes}
use Rattle.reg_names.proofs.Named.{no_level, no_row, no_parent, one_level}
use Rattle.reg_names.proofs.naming.+push_path.Goals as goal

pub returns-then-levels-eq0 : goal.returns-then-levels-eq0
returns-then-levels-eq0 t c = no_level c.args.levels c.args.folder c.args.facts.now.folders (string_bytes c.args.name.now) (omega arith)

-- the folder doesn't stand
pub returns-in_default : goal.returns-in_default
returns-in_default t c = no_row c.args.levels c.args.folder c.args.facts.now.folders (string_bytes c.args.name.now) (rw c.in_default.is at c.folder.ensures)

-- it is the root
pub returns-in_default-parent : goal.returns-in_default-parent
returns-in_default-parent t c =
    no_parent c.args.levels c.args.folder c.in-Some.row.now c.args.facts.now.folders (string_bytes c.args.name.now) (rw c.in-Some.is at c.folder.ensures) c.in_default-parent.is

pub returns : goal.returns
returns t c =
    let colon : string_bytes c.push.new.self ≡ string_bytes c.push_str.new.self ++ 58 ∷ [] = search rules in
    let extension : string_bytes c.push_str.new.self ≡ string_bytes c.push_path.new.name ++ c.in-Some.row.now.extension = search rules in
    one_level (c.args.levels - 1) c.args.levels c.args.folder c.in-Some-parent.parent c.in-Some.row.now c.args.facts.now.folders (string_bytes c.args.name.now) (string_bytes c.push_path.new.name) (string_bytes c.push_str.new.self) (string_bytes c.push.new.self)
    (omega arith) (rw c.in-Some.is at c.folder.ensures) c.in-Some-parent.is c.in_ok-push_path.ensures extension colon
