use Rattle.std.proofs.Common.{◌≡◌, refl}
use Rattle.reg_terms.specs.declared.event.Event.TheVariants.{FolderMade}
use Rattle.reg_facts.specs.Events.{happened}
use Rattle.reg_facts.proofs.Happening.{on_both, on_finished}
use Rattle.reg_facts.proofs.Indexing.{folder_made_indexed}
use Rattle.reg_facts.proofs.AttributeIds.{next_folder}
use Rattle.reg_facts.proofs.facts.Facts.folder_made.Goals as goal

-- the next id is behind the others
pub push_folder-requires : goal.push_folder-requires
push_folder-requires c = rw c.deref_mut.ensures.value (next_folder c.self.inside.tables.value c.args.row c.self.invariant.sound (rw c.self.view_is c.requires.0) (rw c.requires.3 refl))

-- the maps find what the lists hold, the new object too
pub finished-requires : goal.finished-requires
finished-requires c = on_both c.put-put.result c.push_folder.result c.both-done.result c.both-done.ensures c.put-put.ensures c.push_folder.ensures (λ put done.
    let is : c.push_folder.new.self ≡ happened (FolderMade c.args.row) c.args.self = rw (c.deref_mut.ensures.value, c.self.view_is) at done in
    rw is (folder_made_indexed c.self.inside.subject_index c.self.inside.children c.put-put.new.self c.args.row c.unwrap-parent.result c.args.self
    (rw c.self.view_is at c.self.invariant) c.requires c.unwrap-parent.ensures (λ x y. rw (← c.number.ensures, ← c.as_str.ensures) (put x y))))

pub returns : goal.returns
returns c = on_finished c.both-done.result c.finished.result c.push_folder.new.self (happened (FolderMade c.args.row) c.args.self) c.finished.ensures.made c.finished.ensures.facts (on_both c.put-put.result c.push_folder.result c.both-done.result c.both-done.ensures c.put-put.ensures (rw (c.deref_mut.ensures.value, c.self.view_is) at c.push_folder.ensures) (λ put done. done))
