use Rattle.std.proofs.Common.{◌≡◌, ◌<◌, ◌∙◌, ◌^◌, ◌+◌, List, map, sym, subst, rules}
use Rattle.std.specs.List.{AllByRecursion}
use Rattle.reg_terms.specs.declared.rows.PersonRow.{PersonRow}
use Rattle.reg_facts.specs.Events.{row_comes, row_goes}
use Rattle.reg_load.specs.Finding.{first_grants, numbered_groups}
use Rattle.reg_load.specs.LoadChecks.{added_rows, removed_rows}
use Rattle.reg_load.proofs.Found.{coming_small, events_are, going_small, put_together}
use Rattle.reg_load.proofs.LoadSuits.{checks_told, room_told}
use Rattle.reg_load.proofs.events.load_events.Goals as goal

pub first_grants-requires : goal.first_grants-requires
first_grants-requires c = (room_told c.args.by.now c.args.created.now c.args.removed.now c.args.added.now c.args.facts.now c.requires.room).groups

pub push_groups-requires : goal.push_groups-requires
push_groups-requires c = (room_told c.args.by.now c.args.created.now c.args.removed.now c.args.added.now c.args.facts.now c.requires.room).groups

pub removed_rows-requires : goal.removed_rows-requires
removed_rows-requires c = (checks_told c.args.job.now c.args.created.now c.args.removed.now c.args.added.now c.args.facts.now c.requires.checks).known

pub push_going-requires : goal.push_going-requires
push_going-requires c =
    let t = checks_told c.args.job.now c.args.created.now c.args.removed.now c.args.added.now c.args.facts.now c.requires.checks in
    let room = (room_told c.args.by.now c.args.created.now c.args.removed.now c.args.added.now c.args.facts.now c.requires.room).groups in
    let same : c.deref-2.result.now ≡ removed_rows c.args.job.now c.args.facts.now c.args.removed.now = c.deref-2.ensures.value ∙ c.in_ok-going.ensures in
    subst (λ (rows : List PersonRow). AllByRecursion (λ (row : PersonRow). row.group < 2 ^ 32) rows) (sym same) (going_small c.args.job.now c.args.facts.now c.args.removed.now c.law_sound.ensures (search rules) t.known)

pub push_coming-requires : goal.push_coming-requires
push_coming-requires c =
    let t = checks_told c.args.job.now c.args.created.now c.args.removed.now c.args.added.now c.args.facts.now c.requires.checks in
    let room = (room_told c.args.by.now c.args.created.now c.args.removed.now c.args.added.now c.args.facts.now c.requires.room).groups in
    let same : c.deref-3.result.now ≡ added_rows c.args.job.now c.args.created.now c.args.facts.now c.args.added.now = c.deref-3.ensures.value ∙ c.in_ok-coming.ensures in
    subst (λ (rows : List PersonRow). AllByRecursion (λ (row : PersonRow). row.group < 2 ^ 32) rows) (sym same) (coming_small c.args.job.now c.args.created.now c.args.facts.now c.args.added.now c.law_sound.ensures room t.found)

pub returns : goal.returns
returns c =
    let f = c.args.facts.now in
    let grants : c.deref.result.now ≡ first_grants c.args.by.now c.args.created.now c.args.facts.now = c.deref.ensures.value ∙ c.in_ok-grants.ensures in
    let going : c.deref-2.result.now ≡ removed_rows c.args.job.now c.args.facts.now c.args.removed.now = c.deref-2.ensures.value ∙ c.in_ok-going.ensures in
    let coming : c.deref-3.result.now ≡ added_rows c.args.job.now c.args.created.now c.args.facts.now c.args.added.now = c.deref-3.ensures.value ∙ c.in_ok-coming.ensures in
    put_together c.new-events.result.items c.push_groups.new.events.items c.push_going.new.events.items c.push_coming.new.events.items
    (numbered_groups (f.made.groups + 1) c.args.created.now f c.deref.result.now) (map row_goes c.deref-2.result.now) (map (row_comes c.args.at) c.deref-3.result.now)
    c.new-events.ensures.items c.in_ok-push_groups.ensures c.in_ok-push_going.ensures c.in_ok-push_coming.ensures
    ∙ rw (grants, going, coming) (sym (events_are c.args.at c.args.by.now c.args.job.now c.args.created.now c.args.removed.now c.args.added.now f (record { sound = c.law_sound.ensures; held = c.law_held.ensures; ruled = c.law_rules.ensures }) c.law_names.ensures c.requires))
