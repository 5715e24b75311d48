-- What was the case at a moment is told in two ways: now, by the intervals in which it was so, and
-- by the registry as it was then, by what stood. Root is answered the same. Names may have changed
-- between then and now, so what is asked of is one by its id; persons keep their texts.
use Rattle.std.specs.Prelude.{◌≡◌, ◌≤◌, ℕ, List, Bool, true, false, not, Option, Some, None, Result}
use Rattle.std.specs.Prelude.{Ok, codes, map}
use Rattle.reg_base.specs.declared.entity.Entity.{Entity}
use Rattle.reg_base.specs.declared.entity.Entity.TheVariants as entity
use Rattle.reg_terms.specs.declared.kinds.Object.{Object}
use Rattle.reg_terms.specs.declared.kinds.Object.TheVariants as object
use Rattle.reg_terms.specs.declared.query.Answer.{Answer}
use Rattle.reg_terms.specs.declared.query.Answer.TheVariants as answer
use Rattle.reg_terms.specs.declared.query.Query.{Query}
use Rattle.reg_terms.specs.declared.query.Query.TheVariants as query
use Rattle.reg_terms.specs.declared.refusal.Refusal.{Refusal}
use Rattle.reg_terms.specs.declared.rows.AssignRow.{AssignRow}
use Rattle.reg_facts.specs.Children.{is_among}
use Rattle.reg_facts.specs.Edits.{subject_id}
use Rattle.reg_facts.specs.Grants.{object_of}
use Rattle.reg_facts.specs.Naming.{group_id}
use Rattle.reg_priv.specs.declared.who.Who.{Who}
use Rattle.reg_priv.specs.Grants.{Grant}
use Rattle.reg_priv.specs.May.{who_of}
use Rattle.reg_machine.specs.History.{State, now_facts}
use Rattle.reg_machine.specs.Past.{gone_named}
use Rattle.reg_view.specs.AtClock.{told}
use Rattle.reg_view.specs.Past.{past_at}
use Rattle.reg_view.specs.Show.{is_entity_text}
use Rattle.reg_view.specs.Texts.{assign_shown, grant_shown}
use Rattle.reg_asof.specs.Then.{state_at}

-- a registry is another as it was at a moment to which that has come
pub record IsEarlier (was now : State) : Type 0 where
  pub as_then : was ≡ state_at now.history was.clock
  pub later : was.clock ≤ now.clock

-- what a registry answers to root
abbrev pub root_told : State → Query → Result Answer Refusal
root_told s q = told s.history s.clock (codes "g:isa/GrouperSystem") q

-- ---- groups and persons

-- the group of this name, if one stands, and else the one that is gone and had it last
abbrev pub group_meant : State → List ℕ → Option ℕ
group_meant s name =
    elim (group_id name (now_facts s))
    [ None ↦ gone_named name s.history s.clock | Some g ↦ Some g ]

-- who was a member of a group that stood then, and stands or is gone now
abbrev pub MembersAgree : State → State → Type 0
MembersAgree was now =
    (g : ℕ) (name then_name : List ℕ) → group_meant now name ≡ Some g
    → group_id then_name (now_facts was) ≡ Some g
    → root_told now (query.Members name (Some was.clock))
    ≡ root_told was (query.Members then_name None)

-- names of groups of now, and of then: each group that stands at both is among both or neither
abbrev pub AreSameGroups : State → State → (names then_names : List (List ℕ)) → Type 0
AreSameGroups was now names then_names =
    (g : ℕ) (name then_name : List ℕ) → group_id name (now_facts now) ≡ Some g
    → group_id then_name (now_facts was) ≡ Some g
    → is_among name names ≡ is_among then_name then_names

-- both ways groups are told, and they are the same
pub record GroupsJoin (was now : State) (told then_told : Result Answer Refusal) : Type 0 where
  pub names : List (List ℕ)
  pub then_names : List (List ℕ)
  pub told_now : told ≡ Ok (answer.Groups names)
  pub told_then : then_told ≡ Ok (answer.Groups then_names)
  pub same : AreSameGroups was now names then_names

-- of which groups a person who stood then was a member
abbrev pub GroupsAgree : State → State → Type 0
GroupsAgree was now =
    (text : List ℕ) (s : ℕ) → subject_id text (now_facts was).subjects ≡ Some s
    → GroupsJoin was now (root_told now (query.Groups (entity.Person text) (Some was.clock)))
    (root_told was (query.Groups (entity.Person text) None))

-- ---- objects

-- these texts name one object, the first now, and the second then
pub record AreOne (was now : State) (o : Object) (text then_text : List ℕ) : Type 0 where
  pub named_now : object_of text (now_facts now) ≡ Some o
  pub named_then : object_of then_text (now_facts was) ≡ Some o

-- whether grants may be written on an object
abbrev pub is_granted : Object → Bool
is_granted (object.Folder d) = true
is_granted (object.Group g) = true
is_granted (object.Def a) = true
is_granted (object.Attr a) = false
is_granted (object.Subject s) = false

-- both ways these grants are told, with their holders by the names of now and of then
pub record GrantsJoin (was now : State) (told then_told : Result Answer Refusal) : Type 0 where
  pub grants : List Grant
  pub told_now : told ≡ Ok (answer.Grants (map (grant_shown (past_at now) (now_facts now)) grants))
  pub told_then : then_told
      ≡ Ok (answer.Grants (map (grant_shown (past_at was) (now_facts was)) grants))

-- who held which privileges on an object that stands at both
abbrev pub GrantsAgree : State → State → Type 0
GrantsAgree was now =
    (o : Object) (text then_text : List ℕ) → AreOne was now o text then_text
    → is_granted o ≡ true
    → GrantsJoin was now (root_told now (query.Grants text (Some was.clock)))
    (root_told was (query.Grants then_text None))

-- what a person who stood then, or root, could do with an object that stands at both
abbrev pub MayAgree : State → State → Type 0
MayAgree was now =
    (o : Object) (text then_text : List ℕ) (who : Entity) (as_who : Who)
    → AreOne was now o text then_text → who_of who (now_facts was) ≡ Some as_who
    → root_told now (query.May text who (Some was.clock))
    ≡ root_told was (query.May then_text who None)

-- whether attributes are told of an object by this text: of a folder and a person always, of a
-- group by its name
abbrev pub is_owner : Object → List ℕ → Bool
is_owner (object.Folder d) text = true
is_owner (object.Group g) text = not (is_entity_text text)
is_owner (object.Def a) text = false
is_owner (object.Attr a) text = false
is_owner (object.Subject s) text = true

-- both ways these assignments are told, with their attributes by the names of now and of then
pub record AttributesJoin (was now : State) (told then_told : Result Answer Refusal) : Type 0 where
  pub assigns : List AssignRow
  pub told_now : told ≡ Ok (answer.Attributes (map (assign_shown (past_at now)) assigns))
  pub told_then : then_told ≡ Ok (answer.Attributes (map (assign_shown (past_at was)) assigns))

-- what was assigned to an owner that stands at both, with the values
abbrev pub AttributesAgree : State → State → Type 0
AttributesAgree was now =
    (o : Object) (text then_text : List ℕ) → AreOne was now o text then_text
    → is_owner o text ≡ true → is_owner o then_text ≡ true
    → AttributesJoin was now (root_told now (query.Attributes text (Some was.clock)))
    (root_told was (query.Attributes then_text None))
