use Rattle.std.proofs.Common.{◌≡◌}
use Rattle.reg_terms.specs.declared.event.Event.TheVariants.{FolderMoved}
use Rattle.reg_facts.specs.Events.{happened}
use Rattle.reg_facts.proofs.Happening.{on_ok}
use Rattle.reg_facts.proofs.Indexing.{folder_moved_indexed}
use Rattle.reg_facts.proofs.facts.Facts.folder_moved.Goals as goal

-- the maps find what the lists hold after the event
pub finished-requires : goal.finished-requires
finished-requires c = on_ok c.put-done.result c.put-done.ensures (λ put.
    let is : c.move_folder.new.self ≡ happened (FolderMoved c.args.id c.args.to) c.args.self = rw (c.deref_mut.ensures.value, c.self.view_is) at c.move_folder.ensures in
    rw is (folder_moved_indexed c.self.inside.subject_index c.self.inside.children c.take.new.self c.put-done.new.self c.args.id c.args.to _ c.args.self
    (rw c.self.view_is at c.self.invariant) c.requires (rw (c.deref.ensures, c.self.view_is) at c.the_place-place.ensures) (λ x y. rw (← c.number.ensures) (c.take.ensures x y)) (λ x y. rw (← c.number-2.ensures) (put x y))))
