use Rattle.std.proofs.Common.{◌≡◌, ◌∙◌, List, ℕ, None, sym, string_bytes}
use Rattle.std.specs.BTreeMap.{get_by_text}
use Rattle.reg_facts.specs.Naming.{child}
use Rattle.reg_facts.proofs.ByExtension.{names_are, no_children}
use Rattle.reg_facts.proofs.facts.Facts.child_names.Goals as goal

-- the entries are the objects in the folder
pub returns-in-Some : goal.returns-in-Some
returns-in-Some c =
    let found : (x : List ℕ) → get_by_text c.in-Some.index.now x ≡ child c.args.folder x c.args.self.now = λ x. rw (← c.self.view_is, ← c.number.ensures) (sym (c.in-Some.ensures x) ∙ c.self.invariant.objects_found c.number.result x) in
    rw (names_are string_bytes c.args.home.now c.args.folder c.in-Some.index.now.entries c.args.self.now c.names_of.ensures.ordered c.law_sound.ensures.apart found) at c.names_of.ensures.names

pub returns-in-None : goal.returns-in-None
returns-in-None c =
    let none : (x : List ℕ) → child c.args.folder x c.args.self.now ≡ None = λ x. rw (← c.self.view_is, ← c.number.ensures) (sym (c.self.invariant.objects_found c.number.result x) ∙ (rw c.in-None.is at c.objects.ensures) x) in
    c.new.ensures ∙ no_children c.args.home.now c.args.folder c.args.self.now c.law_sound.ensures.apart none
