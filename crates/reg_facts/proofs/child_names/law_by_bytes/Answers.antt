use Rattle.reg_facts.proofs.ByExtension.{by_bytes_sorted, by_bytes_same}
use Rattle.reg_facts.proofs.child_names.law_by_bytes.Goals as goal

pub returns-clause-sorted : goal.returns-clause-sorted
returns-clause-sorted c = by_bytes_sorted

pub returns-clause-same : goal.returns-clause-same
returns-clause-same c = by_bytes_same
