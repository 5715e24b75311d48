-- Groups can be made one after another where each can stand and their grants have room.
use Rattle.std.proofs.Common.{◌≤◌, ◌<◌, ◌+◌, ◌++◌, ℕ, List, [], ◌∷◌, sym, ap, subst, length, length-append, arith}
use Rattle.reg_base.specs.NameParts.{extension_of}
use Rattle.reg_base.specs.declared.entity.Entity.{Entity}
use Rattle.reg_terms.specs.Limits.{max_grants, max_groups, max_name}
use Rattle.reg_terms.specs.declared.event.Event.{Event}
use Rattle.reg_terms.specs.declared.kinds.Object.TheVariants.{Folder}
use Rattle.reg_facts.specs.Edits.{the_id}
use Rattle.reg_facts.specs.Events.{all_happened, events_of, group_events, groups_events, happened, new_groups_grants, with_groups}
use Rattle.reg_facts.specs.Lists.{Lists}
use Rattle.reg_facts.specs.Naming.{home_of, name_in}
use Rattle.reg_facts.specs.Ruled.{AreRuled}
use Rattle.reg_facts.specs.Sound.{IsHeld, IsSound}
use Rattle.reg_facts.specs.Suiting.{AllSuit, CanStand}
use Rattle.reg_facts.proofs.Held.{happened_held}
use Rattle.reg_facts.proofs.Homes.{extension_form, name_short, name_whole}
use Rattle.reg_facts.proofs.NewGrants.{group_suits}
use Rattle.reg_facts.proofs.Noted.{holder_stands}
use Rattle.reg_facts.proofs.Resolving.{resolve_names}
use Rattle.reg_facts.proofs.RulesStand.{happened_ruled}
use Rattle.reg_facts.proofs.Sounding.{happened_sound}
use Rattle.reg_load.proofs.GroupMore.{home_is}
use Rattle.reg_load.proofs.GroupsMade.{AreFresh, AreUnlike, IsFresh, more_made, one_made, rest_fresh, with_one}

-- what is true of the facts of every history, as far as a new group needs it
pub record IsReady (f : Lists) : Type 0 where
  pub sound : IsSound f
  pub held : IsHeld f
  pub ruled : AreRuled f

pub ready_after : (es : List Event) (f : Lists) → AllSuit es f → IsReady f → IsReady (all_happened es f)
ready_after [] f suit ready = ready
ready_after (e ∷ es) f suit ready = ready_after es (happened e f) suit.1 (record {
  sound = happened_sound e f suit.0 ready.sound;
  held = happened_held e f suit.0 ready.held;
  ruled = happened_ruled e f suit.0 ready.ruled;
})

pub suit_append : (es ds : List Event) (f : Lists) → AllSuit es f → AllSuit ds (all_happened es f) → AllSuit (es ++ ds) f
suit_append [] ds f first last = last
suit_append (e ∷ es) ds f first last = (first.0, suit_append es ds (happened e f) first.1 last)

-- a group of a fresh name can stand in its folder
one_stands : (name : List ℕ) (d : ℕ) (f : Lists) → IsSound f → IsFresh d f name → CanStand d (extension_of name) 0 f
one_stands name d f sound fresh =
    let named = resolve_names (home_of name) (Folder d) f sound (home_is name d f fresh.home) in
    let whole = name_whole name in
    let short = name_short name fresh.form in
    let fits : length (name_in (home_of name) (extension_of name)) + 0 ≤ max_name = omega (arith, whole, short) in
    record {
      there = named.1;
      form = extension_form name fresh.form;
      free = fresh.free;
      fits = rw named.0 fits;
    }

one_suits : (by : Entity) (name : List ℕ) (d : ℕ) (f : Lists) → IsReady f → IsFresh d f name → f.made.groups < max_groups → length f.grants + length (new_groups_grants by name f) ≤ max_grants → AllSuit (group_events by name f) f
unfolding events_of
one_suits by name d f ready fresh few room =
    group_suits 0 by name [] f ready.held (λ e h is. holder_stands f e h ready.sound is) ready.ruled (subst (λ x. CanStand x (extension_of name) 0 f) (sym (ap the_id fresh.home)) (one_stands name d f ready.sound fresh)) few room

-- grants become no fewer
grants_grow : (by : Entity) (names : List (List ℕ)) (f : Lists) → length f.grants ≤ length (with_groups by names f).grants
grants_grow by [] f = omega arith
grants_grow by (name ∷ names) f =
    let rest = grants_grow by names (with_one by name f) in
    let here = length-append f.grants (new_groups_grants by name f) in
    let same = ap (λ (g : Lists). length g.grants) (more_made by name names f) in
    omega (arith, rest, here, same)

pub groups_suit : (by : Entity) (d : ℕ) (names : List (List ℕ)) (f : Lists) → IsReady f → AreFresh d f names → AreUnlike names → f.made.groups + length names ≤ max_groups → length (with_groups by names f).grants ≤ max_grants → AllSuit (groups_events by names f) f
groups_suit by d [] f ready fresh unlike few room = tt
groups_suit by d (name ∷ names) f ready fresh unlike few room =
    let rest_room : length (with_groups by names (with_one by name f)).grants ≤ max_grants = subst (λ (g : Lists). length g.grants ≤ max_grants) (more_made by name names f) room in
    let grow = grants_grow by names (with_one by name f) in
    let here = length-append f.grants (new_groups_grants by name f) in
    let first : AllSuit (group_events by name f) f = one_suits by name d f ready fresh.0 (omega (arith, few)) (omega (arith, rest_room, grow, here)) in
    let after : IsReady (with_one by name f) = subst IsReady (one_made by name f) (ready_after (group_events by name f) f first ready) in
    let last : AllSuit (groups_events by names (with_one by name f)) (with_one by name f) = groups_suit by d names (with_one by name f) after (rest_fresh by name d names f fresh.0 unlike.0 fresh.1) unlike.1 (omega (arith, few)) rest_room in
    suit_append (group_events by name f) (groups_events by names (all_happened (group_events by name f) f)) f first (subst (λ (g : Lists). AllSuit (groups_events by names g) g) (sym (one_made by name f)) last)
