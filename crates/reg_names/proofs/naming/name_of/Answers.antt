use Rattle.std.proofs.Common.{◌≡◌, ◌++◌, ◌∙◌, List, ℕ, sym, ap, Some, string_bytes}
use Rattle.reg_facts.specs.Naming.{Placed, placed, place_of, place_as, path, most_levels, name_of}
use Rattle.reg_names.specs.Colons.{with_colons}
use Rattle.reg_names.proofs.Named.{name_nowhere, name_in_path}
use Rattle.reg_names.proofs.naming.name_of.Goals as goal

-- what stands nowhere is the root
pub returns-in_default : goal.returns-in_default
returns-in_default c = rw (name_nowhere c.args.object.now c.args.facts.now (sym (rw c.in_default.is at c.place_of.ensures))) c.new.ensures

pub returns : goal.returns
returns c =
    let p : Placed = place_as c.args.object.now c.in-Some.place.folder c.in-Some.place.extension.now in
    let there : place_of c.args.object.now (placed c.args.facts.now) ≡ Some p = sym (rw c.in-Some.is at c.place_of.ensures) in
    let above : string_bytes c.push_path.new.name ≡ with_colons (path most_levels c.in-Some.place.folder c.args.facts.now.folders) =
    c.in_ok-push_path.ensures ∙ ap (λ (x : List ℕ). x ++ with_colons (path most_levels c.in-Some.place.folder c.args.facts.now.folders)) c.new-name.ensures.bytes in
    let whole : name_of c.args.object.now c.args.facts.now ≡ c.as_str.result.now =
    name_in_path c.args.object.now p c.args.facts.now there
    ∙ sym (c.as_str.ensures.value ∙ (c.in_ok-push_str.ensures.bytes ∙ ap (λ (x : List ℕ). x ++ c.in-Some.place.extension.now) above)) in
    rw whole c.new-2.ensures
