-- Worked examples computed: a chain of rules, and an end at the last day.
use Rattle.std.proofs.Common.{◌≡◌, ℕ, [], ◌∷◌, None, Some, refl}
use Rattle.reg_terms.specs.declared.kinds.Member.TheVariants.{Person}
use Rattle.reg_terms.specs.declared.kinds.RuleForm.TheVariants.{RemoveLost, EndLost, Veto}
use Rattle.reg_terms.specs.declared.rows.MemberRow.{MemberRow}
use Rattle.reg_facts.specs.Lists.{Lists, start}
use Rattle.reg_effect.specs.Deltas.{ended}
use Rattle.reg_effect.specs.Member.{member}
use Rattle.reg_rules.specs.declared.actions.Action.TheVariants.{Removed, Ended}
use Rattle.reg_rules.specs.Live.{live}
use Rattle.reg_rules.specs.Settling.{settling, settle}
use Rattle.reg_rules.specs.Veto.{first_veto}

-- the person ann (1), and the groups staff (1), vpn (2) and lab (3)
row : ℕ → ℕ → MemberRow
row group from = record { group = group; member = Person 1; from = from; until = None }

-- who leaves staff leaves vpn, and who leaves vpn leaves lab
pub chain : Lists
chain = record start {
  rows = row 1 5 ∷ row 2 5 ∷ row 3 5 ∷ [];
  rules = (record { id = 1; form = RemoveLost 1 2 }) ∷ (record { id = 2; form = RemoveLost 2 3 }) ∷ [];
}

-- ann has left staff
pub left_staff : Lists
left_staff = record chain { rows = row 2 5 ∷ row 3 5 ∷ [] }

pub staff_is_lost : ended (live 7 chain) (live 7 left_staff) ≡ (1, 1) ∷ []
unfolding row chain left_staff ended member
staff_is_lost = refl

pub the_chain_goes_on : settling ((1, 1) ∷ []) 7 left_staff ≡ Removed 1 2 1 ∷ Removed 2 3 1 ∷ []
unfolding row chain left_staff settling ended member
the_chain_goes_on = refl

pub nobody_is_left : (settle ((1, 1) ∷ []) 7 left_staff).rows ≡ []
unfolding row chain left_staff settling ended member
nobody_is_left = refl

-- a row of lab that isn't on yet stays
pub lab_later : Lists
lab_later = record chain { rows = row 2 5 ∷ row 3 8 ∷ [] }

pub what_is_to_come_stays : settling ((1, 1) ∷ []) 7 lab_later ≡ Removed 1 2 1 ∷ []
unfolding row chain lab_later settling ended member
what_is_to_come_stays = refl

-- who leaves staff leaves vpn a day later: ann, who is in vpn since a moment, has left staff
pub a_day_later : ℕ → Lists
a_day_later from = record start {
  rows = row 2 from ∷ [];
  rules = (record { id = 1; form = EndLost 1 2 1 }) ∷ [];
}

-- the last day of the year 9999 has no day after it
pub no_such_day : settling ((1, 1) ∷ []) 253402214400000000 (a_day_later 253402214400000000) ≡ []
unfolding row a_day_later settling ended member
no_such_day = refl

-- a microsecond earlier the end is the last moment
pub the_last_moment : settling ((1, 1) ∷ []) 253402214399999999 (a_day_later 253402214399999999) ≡ Ended 1 2 1 253402300799999999 ∷ []
unfolding row a_day_later settling ended member
the_last_moment = refl

-- nobody is added to staff who isn't in vpn, nor who isn't in lab: the first of these rules counts
pub vetoed : Lists
vetoed = record start {
  rows = row 3 5 ∷ [];
  rules = (record { id = 1; form = Veto 1 3 }) ∷ (record { id = 2; form = Veto 1 2 }) ∷ (record { id = 3; form = Veto 1 2 }) ∷ [];
}

pub ann_is_in_lab_alone : first_veto (live 7 vetoed) 1 1 vetoed.rules ≡ Some 2
unfolding row vetoed member
ann_is_in_lab_alone = refl

pub bob_is_in_neither : first_veto (live 7 vetoed) 1 2 vetoed.rules ≡ Some 1
unfolding row vetoed member
bob_is_in_neither = refl
