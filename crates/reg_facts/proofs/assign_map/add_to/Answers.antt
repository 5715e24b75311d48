use Rattle.std.proofs.Common.{List, ◌≡◌, ◌+◌, ◌++◌, ◌∷◌, ◌∙◌, [], Some, None, sym, ap, length, length-append, arith}
use Rattle.std.specs.BTreeMap.{is_at}
use Rattle.std.specs.Map.{lookup}
use Rattle.std.specs.Option.{option_copied_mut}
use Rattle.std.specs.Ordering.{nat_cmp}
use Rattle.reg_terms.specs.declared.kinds.AttrValue.{AttrValue}
use Rattle.reg_terms.specs.declared.rows.AssignRow.{AssignRow}
use Rattle.reg_facts.proofs.AssignEntries.{count_set, none_with, set_with}
use Rattle.reg_facts.proofs.assign_map.add_to.Goals as goal

pub returns-in_ok-push-in-Some-clause-added : goal.returns-in_ok-push-in-Some-clause-added
returns-in_ok-push-in-Some-clause-added c =
    let found : lookup (is_at (nat_cmp c.args.id)) c.args.rows.now.entries ≡ Some c.in-Some.row.now = sym c.get_mut.ensures.value ∙ ap option_copied_mut c.in-Some.is in
    let new : AssignRow = record { id = c.in-Some.row.now.id; attribute = c.in-Some.row.now.attribute; owner = c.in-Some.row.now.owner; values = c.push.new.self } in
    let is : new ≡ record c.in-Some.row.now { values = c.in-Some.row.now.values ++ c.args.value ∷ [] } = ap (λ (vs : List AttrValue). record c.in-Some.row.now { values = vs }) c.in_ok-push-in-Some.ensures.ok in
    (c.get_mut.follows.holds new).0
    ∙ set_with c.args.id c.args.value c.args.rows.now.entries c.in-Some.row.now new c.requires found is

pub returns-in_ok-push-in-Some-clause-count : goal.returns-in_ok-push-in-Some-clause-count
returns-in_ok-push-in-Some-clause-count c =
    let found : lookup (is_at (nat_cmp c.args.id)) c.args.rows.now.entries ≡ Some c.in-Some.row.now = sym c.get_mut.ensures.value ∙ ap option_copied_mut c.in-Some.is in
    let new : AssignRow = record { id = c.in-Some.row.now.id; attribute = c.in-Some.row.now.attribute; owner = c.in-Some.row.now.owner; values = c.push.new.self } in
    let set = count_set (is_at (nat_cmp c.args.id)) c.args.rows.now.entries c.in-Some.row.now new found in
    let more : length c.push.new.self ≡ length c.in-Some.row.now.values + 1 = rw c.in_ok-push-in-Some.ensures.ok (length-append c.in-Some.row.now.values (c.args.value ∷ [])) in
    rw (c.get_mut.follows.holds new).0 (omega (arith, set, more))

pub returns-in-None-clause-added : goal.returns-in-None-clause-added
returns-in-None-clause-added c =
    let none : lookup (is_at (nat_cmp c.args.id)) c.args.rows.now.entries ≡ None = sym c.get_mut.ensures.value ∙ ap option_copied_mut c.in-None.is in
    rw c.get_mut.follows.holds-at-none (sym (none_with c.args.id c.args.value c.args.rows.now.entries c.requires none))
