use Rattle.std.proofs.Common.{rules, leb}
use Rattle.std.proofs.lemmas.List.Sorted.{IsPartitionPoint-from_clause, IsPartitionedBy-leb}
use Rattle.std.specs.List.Sorted.{IsNonDecreasingBy}
use Rattle.reg_log.specs.declared.stored.Stretch.{Stretch}
use Rattle.reg_log.proofs.Runs.{found, rising}
use Rattle.reg_log.proofs.stretches.count_begun.Goals as goal

pub returns : goal.returns
returns c =
    let up : IsNonDecreasingBy (λ (s : Stretch). s.first) c.args.stretches.now = rising 0 c.requires.0 c.args.stretches.now c.requires.1 in
    let parted = IsPartitionedBy-leb (λ (s : Stretch). s.first) c.args.stretches.now c.args.place up in
    let point = IsPartitionPoint-from_clause (λ (s : Stretch). leb s.first c.args.place) _ _ c.partition_point.ensures.partitioned parted (λ a r q k. search rules) in
    found c.args.place c.args.stretches.now c.partition_point.result c.partition_point.ensures.bound point.0 point.1
