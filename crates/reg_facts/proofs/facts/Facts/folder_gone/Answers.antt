use Rattle.std.proofs.Common.{◌≡◌, rules}
use Rattle.reg_terms.specs.declared.event.Event.TheVariants.{FolderGone}
use Rattle.reg_facts.specs.Events.{happened}
use Rattle.reg_facts.proofs.Indexing.{folder_gone_indexed}
use Rattle.reg_facts.proofs.facts.Facts.folder_gone.Goals as goal

-- the maps find what the lists hold after the event
pub invariant_of-facts : goal.invariant_of-facts
invariant_of-facts c =
    let is : c.delete_folder.new.self ≡ happened (FolderGone c.args.id) c.args.self = search rules in
    rw is (folder_gone_indexed c.facts.inside.subject_index c.facts.inside.children c.take.new.self c.args.id _ c.args.self
    (rw c.facts.view_is at c.facts.invariant) c.requires (rw (c.deref.ensures, c.facts.view_is) at c.the_place-place.ensures) (λ x y. rw (← c.number.ensures) (c.take.ensures x y)))
