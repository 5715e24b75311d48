use Rattle.std.proofs.Common.{◌≡◌, ◌∙◌, ◌+◌, ap, refl, length, true, false, rules}
use Rattle.std.specs.Prelude.{nat_lt}
use Rattle.reg_terms.specs.Limits.{max_grants, max_groups, max_records, max_rows}
use Rattle.reg_facts.specs.Events.{with_groups}
use Rattle.reg_load.proofs.Found.{full_grant, grants_are, room_rest}
use Rattle.reg_load.proofs.checks.check_room.Goals as goal

pub returns-then-full : goal.returns-then-full
returns-then-full c =
    let counted = grants_are c.args.by.now c.args.job.now c.args.created.now c.args.removed.now c.args.added.now c.args.facts.now c.law_sound.ensures c.law_names.ensures c.requires in
    let few : nat_lt max_groups (c.args.facts.now.made.groups + length c.args.created.now) ≡ false = search rules in
    let room : nat_lt (max_rows + length c.args.removed.now) (length c.args.facts.now.rows + length c.args.added.now) ≡ false = search rules in
    let full : nat_lt max_grants (length (with_groups c.args.by.now c.args.created.now c.args.facts.now).grants) ≡ true = ap (λ n. nat_lt max_grants n) counted ∙ search rules in
    full_grant c.args.by.now c.args.created.now c.args.removed.now c.args.added.now c.args.facts.now few room full

pub returns-then-added : goal.returns-then-added
returns-then-added c =
    let counted = grants_are c.args.by.now c.args.job.now c.args.created.now c.args.removed.now c.args.added.now c.args.facts.now c.law_sound.ensures c.law_names.ensures c.requires in
    let few : nat_lt max_groups (c.args.facts.now.made.groups + length c.args.created.now) ≡ false = search rules in
    let room : nat_lt (max_rows + length c.args.removed.now) (length c.args.facts.now.rows + length c.args.added.now) ≡ false = search rules in
    let full : nat_lt max_grants (length (with_groups c.args.by.now c.args.created.now c.args.facts.now).grants) ≡ false = ap (λ n. nat_lt max_grants n) counted ∙ search rules in
    let many : nat_lt max_records (length c.args.added.now) ≡ true = search rules in
    rw (room_rest c.args.by.now c.args.created.now c.args.removed.now c.args.added.now c.args.facts.now few room full, many) refl

pub returns : goal.returns
returns c =
    let counted = grants_are c.args.by.now c.args.job.now c.args.created.now c.args.removed.now c.args.added.now c.args.facts.now c.law_sound.ensures c.law_names.ensures c.requires in
    let few : nat_lt max_groups (c.args.facts.now.made.groups + length c.args.created.now) ≡ false = search rules in
    let room : nat_lt (max_rows + length c.args.removed.now) (length c.args.facts.now.rows + length c.args.added.now) ≡ false = search rules in
    let full : nat_lt max_grants (length (with_groups c.args.by.now c.args.created.now c.args.facts.now).grants) ≡ false = ap (λ n. nat_lt max_grants n) counted ∙ search rules in
    let many : nat_lt max_records (length c.args.added.now) ≡ false = search rules in
    rw (room_rest c.args.by.now c.args.created.now c.args.removed.now c.args.added.now c.args.facts.now few room full, many) refl
