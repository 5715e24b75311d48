use Rattle.std.proofs.Common.{◌≡◌, length, sym, ◌∙◌, rules}
use Rattle.reg_keep.proofs.Cutting.{length-cut_up}
use Rattle.reg_keep.proofs.memory_keeper.MemoryKeeperKeeper.stamp.Goals as goal

pub returns : goal.returns
returns c =
    let keeper = c.args.self.now in
    let is : c.of.result ≡ length keeper.lengths.items = search rules in
    is ∙ sym (length-cut_up keeper.lengths.items keeper.bytes.items)
