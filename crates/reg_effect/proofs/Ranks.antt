-- A group's rank: how many entries are of groups that it reaches.
use Rattle.std.proofs.Common.{◌≡◌, ◌<◌, ◌==◌, ℕ, List, true}
use Rattle.std.specs.List.{list_any}
use Rattle.reg_graph.specs.Edges.{reaches, has_edge, IsAcyclic}
use Rattle.reg_graph.proofs.Reaching.{reaches_self, reaches_trans, reaches_edge}
use Rattle.reg_graph.proofs.Counting.{passing, passing_less}

-- along an edge the rank falls
pub rank_falls : (es : List (ℕ × ℕ)) → IsAcyclic es → (xs : List ℕ) (g h : ℕ) → has_edge es g h ≡ true → list_any (λ x. x == g) xs ≡ true → passing (reaches es h) xs < passing (reaches es g) xs
rank_falls es n xs g h e c =
    passing_less (reaches es h) (reaches es g) (λ x r. reaches_trans es g h x (reaches_edge es g h e) r) g (n g h e) (reaches_self es g) xs c
