use Rattle.std.proofs.Common.{◌≡◌, ◌∙◌, ℕ, ap, sym, subst, rules, Bool, not, Some, None, Option}
use Rattle.std.proofs.lemmas.List.{get_or-set_same}
use Rattle.std.proofs.lemmas.List.Quantifiers.{position-Some}
use Rattle.std.proofs.lemmas.Fn.{filter_same}
use Rattle.std.specs.Prelude.{filter, IfSome}
use Rattle.std.specs.List.{position}
use Rattle.reg_outside.specs.declared.memory_listener.GivenBack.{GivenBack}
use Rattle.reg_outside.specs.Connections.{with_more_in_memory}
use Rattle.reg_outside.specs.MemoryListener.{is_open_here}
use Rattle.reg_outside.proofs.Turns.{has_place, find_place, filter_without}
use Rattle.reg_outside.proofs.memory_listener.take_open.Goals as goal

pub unreachable-requires : goal.unreachable-requires
unreachable-requires c =
    let backs = c.args.backs.now.items in
    let none : position (is_open_here c.args.number) backs ≡ None = search rules in
    has_place (is_open_here c.args.number) backs c.requires none

pub returns-clause-found : goal.returns-clause-found
returns-clause-found c =
    let backs = c.args.backs.now.items in
    let place : ℕ = c.in-Some.place in
    let x : GivenBack = c.index_mut.result.now in
    let y : GivenBack = record { number = x.number; conn = c.add.new.self; is_open = x.is_open } in
    let at : position (is_open_here c.args.number) backs ≡ Some place = search rules in
    let inside = (position-Some (is_open_here c.args.number) backs place x at).0 in
    let taken = c.remove-conn.ensures.value ∙ get_or-set_same backs place y c.remove-conn.result inside in
    let more = c.in_ok-add.ensures.added ∙ ap (λ (b : GivenBack). with_more_in_memory c.args.bytes.now b.conn) c.index_mut.ensures.value in
    subst (λ (o : Option GivenBack). IfSome o (λ (back : GivenBack). c.remove-conn.result.conn ≡ with_more_in_memory c.args.bytes.now back.conn))
    (sym (find_place (is_open_here c.args.number) backs place x at))
    (ap (λ (b : GivenBack). b.conn) taken ∙ more)

pub returns-clause-rest : goal.returns-clause-rest
returns-clause-rest c =
    let backs = c.args.backs.now.items in
    let place : ℕ = c.in-Some.place in
    let x : GivenBack = c.index_mut.result.now in
    let y : GivenBack = record { number = x.number; conn = c.add.new.self; is_open = x.is_open } in
    let at : position (is_open_here c.args.number) backs ≡ Some place = search rules in
    let first = position-Some (is_open_here c.args.number) backs place x at in
    let test : GivenBack → Bool = λ (back : GivenBack). not (is_open_here c.args.number back) in
    filter_same _ test _ (λ v b f k. search rules) _ _ c.retain.ensures.filtered
    ∙ ap (filter test) c.remove-conn.ensures.items
    ∙ filter_without test backs place y x first.0 (ap not first.1)
