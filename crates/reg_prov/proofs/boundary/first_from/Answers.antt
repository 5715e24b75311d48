use Rattle.std.proofs.Common.{◌∙◌, ltb, rules}
use Rattle.std.proofs.lemmas.List.Sorted.{IsPartitionPoint-from_clause, IsPartitionedBy-ltb}
use Rattle.std.specs.List.Sorted.{IsNonDecreasingBy}
use Rattle.reg_prov.specs.declared.boundary.Boundary.{Boundary}
use Rattle.reg_prov.proofs.Finding.{found, got, rising}
use Rattle.reg_prov.proofs.boundary.first_from.Goals as goal

pub returns : goal.returns
returns c =
    let up : IsNonDecreasingBy (λ (b : Boundary). b.at) c.args.boundaries.now = rising c.requires.0 c.requires.1 c.args.boundaries.now c.requires.2 in
    let parted = IsPartitionedBy-ltb (λ (b : Boundary). b.at) c.args.boundaries.now c.args.moment up in
    let point = IsPartitionPoint-from_clause (λ (b : Boundary). ltb b.at c.args.moment) _ _ c.partition_point-place.ensures.partitioned parted (λ a r q k. search rules) in
    got c.get.result c.args.boundaries.now c.partition_point-place.result c.get.ensures.lookup.0 c.get.ensures.lookup.1 ∙ found c.args.moment c.args.boundaries.now c.partition_point-place.result point.0 point.1
