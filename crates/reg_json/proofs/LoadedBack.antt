-- What is written of a load is taken apart as that.
use Rattle.std.proofs.Common.{◌≡◌, ℕ, ◌≤◌, true, ◌&&◌, Some, refl, lit≤}
use Rattle.std.proofs.lemmas.Bool.{and_parts}
use Rattle.serde_json.specs.Data.{depth}
use Rattle.reg_terms.specs.declared.reply.LoadCounts.{LoadCounts}
use Rattle.reg_terms.specs.declared.reply.Reply.TheVariants as reply
use Rattle.reg_json.specs.Replies.{loaded_data, reply_data}
use Rattle.reg_json.specs.Taking.{has, number_in, counts_from, loaded_from, reply_from}
use Rattle.reg_json.specs.Writable.{is_u64, counts_fit}
use Rattle.reg_json.proofs.Plain.{is_plain}

pub loaded_again : (n : ℕ) (counts : LoadCounts) → reply_from (reply_data (reply.Loaded n counts)) ≡ Some (reply.Loaded n counts)
unfolding reply_from reply_data loaded_data has loaded_from counts_from number_in
loaded_again n counts = refl

-- each count has 64 bits
record Fit (counts : LoadCounts) : Type 0 where
  added : is_u64 counts.added ≡ true
  bad_group : is_u64 counts.bad_group ≡ true
  created : is_u64 counts.created ≡ true
  removed : is_u64 counts.removed ≡ true
  repeated : is_u64 counts.repeated ≡ true
  unchanged : is_u64 counts.unchanged ≡ true
  unknown : is_u64 counts.unknown ≡ true
  vetoed : is_u64 counts.vetoed ≡ true

all_fit : (counts : LoadCounts) → counts_fit counts ≡ true → Fit counts
all_fit counts h =
    let first = and_parts (is_u64 counts.added) _ h in
    let second = and_parts (is_u64 counts.bad_group) _ first.1 in
    let third = and_parts (is_u64 counts.created) _ second.1 in
    let fourth = and_parts (is_u64 counts.removed) _ third.1 in
    let fifth = and_parts (is_u64 counts.repeated) _ fourth.1 in
    let sixth = and_parts (is_u64 counts.unchanged) _ fifth.1 in
    let last = and_parts (is_u64 counts.unknown) _ sixth.1 in
    record { added = first.0; bad_group = second.0; created = third.0; removed = fourth.0; repeated = fifth.0; unchanged = sixth.0; unknown = last.0; vetoed = last.1 }

pub loaded_plain : (n : ℕ) (counts : LoadCounts) → (is_u64 n && counts_fit counts) ≡ true → is_plain (loaded_data n counts) ≡ true
unfolding loaded_data
loaded_plain n counts h =
    let both = and_parts (is_u64 n) (counts_fit counts) h in
    let fit = all_fit counts both.1 in
    rw (both.0, fit.added, fit.bad_group, fit.created, fit.removed, fit.repeated, fit.unchanged, fit.unknown, fit.vetoed) refl

pub loaded_flat : (n : ℕ) (counts : LoadCounts) → depth (loaded_data n counts) ≤ 127
unfolding loaded_data
loaded_flat n counts = lit≤ tt
