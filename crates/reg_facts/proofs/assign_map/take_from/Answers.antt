use Rattle.std.proofs.Common.{◌≡◌, ◌∙◌, Some, None, sym, ap, arith}
use Rattle.std.specs.BTreeMap.{is_at}
use Rattle.std.specs.Map.{lookup}
use Rattle.std.specs.Option.{option_copied_mut}
use Rattle.std.specs.Ordering.{nat_cmp}
use Rattle.reg_facts.proofs.AssignEntries.{count_set, none_without, set_without}
use Rattle.reg_facts.proofs.assign_map.take_from.Goals as goal

pub returns-in-Some-clause-taken : goal.returns-in-Some-clause-taken
returns-in-Some-clause-taken c =
    let found : lookup (is_at (nat_cmp c.args.id)) c.args.rows.now.entries ≡ Some c.in-Some.row.now = sym c.get_mut.ensures.value ∙ ap option_copied_mut c.in-Some.is in
    (c.get_mut.follows.holds c.shorten.new.row).0
    ∙ set_without c.args.id c.args.value.now c.args.rows.now.entries c.in-Some.row.now c.shorten.new.row c.requires found c.shorten.ensures.row

pub returns-in-Some-clause-count : goal.returns-in-Some-clause-count
returns-in-Some-clause-count c =
    let found : lookup (is_at (nat_cmp c.args.id)) c.args.rows.now.entries ≡ Some c.in-Some.row.now = sym c.get_mut.ensures.value ∙ ap option_copied_mut c.in-Some.is in
    let set = count_set (is_at (nat_cmp c.args.id)) c.args.rows.now.entries c.in-Some.row.now c.shorten.new.row found in
    let less = c.shorten.ensures.count in
    rw (c.get_mut.follows.holds c.shorten.new.row).0 (omega (arith, set, less))

pub returns-in-None-clause-taken : goal.returns-in-None-clause-taken
returns-in-None-clause-taken c =
    let none : lookup (is_at (nat_cmp c.args.id)) c.args.rows.now.entries ≡ None = sym c.get_mut.ensures.value ∙ ap option_copied_mut c.in-None.is in
    rw c.get_mut.follows.holds-at-none (sym (none_without c.args.id c.args.value.now c.args.rows.now.entries c.requires none))
