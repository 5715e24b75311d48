-- A group that the caller doesn't see is answered as a name that no group has.
use Rattle.std.proofs.Common.{◌≡◌, ℕ, List, Bool, true, false, Option, Some, None, Result, Ok, Err, refl, ap, ◌∙◌}
use Rattle.std.specs.Prelude.{⊤, is_some, if◌then◌else◌}
use Rattle.reg_base.specs.Entities.{entity_of}
use Rattle.reg_base.specs.declared.entity.Entity.{Entity}
use Rattle.reg_base.specs.declared.entity.Entity.TheVariants as entity
use Rattle.reg_base.specs.declared.privilege.Privilege.TheVariants as privilege
use Rattle.reg_terms.specs.declared.kinds.Object.{Object}
use Rattle.reg_terms.specs.declared.kinds.Object.TheVariants as object
use Rattle.reg_terms.specs.declared.refusal.Refusal.{Refusal}
use Rattle.reg_terms.specs.declared.refusal.Refusal.TheVariants.{NotFound}
use Rattle.reg_terms.specs.declared.query.Query.{Query}
use Rattle.reg_terms.specs.declared.query.Query.TheVariants as query
use Rattle.reg_terms.specs.declared.query.Answer.TheVariants as answer
use Rattle.reg_facts.specs.Lists.{Lists}
use Rattle.reg_facts.specs.Naming.{group_id, resolve}
use Rattle.reg_effect.specs.declared.live.Live.{Live}
use Rattle.reg_priv.specs.declared.who.Who.{Who}
use Rattle.reg_priv.specs.May.{visible}
use Rattle.reg_view.specs.Answers.{answer_of, entity_object, gone_found, group_past, group_seen, members_at, name_found, object_found, past_group}
use Rattle.reg_view.specs.Past.{Past, history_of}
use Rattle.reg_view.specs.Show.{◌>>=◌, denied, found_or, is_entity_text}
use Rattle.reg_view.specs.Unseen.{AsksAbout, AsksOf, IsGroupText, IsHidden, IsHiddenObject, IsOfNoneGone, IsUnseen, IsUnseenObject}
use Rattle.reg_view.specs.View.{caller_of, is_readable}
use Rattle.reg_view.proofs.Seen.{steps_join}

module _ (L : Live) (f : Lists) (c : Who) (by : List ℕ) (name : List ℕ) where
  abbrev told : Option ℕ → Result ℕ Refusal
  told o = elim o [ None ↦ Err (NotFound name) | Some id ↦ if visible L f c (object.Group id) then Ok id else Err (NotFound name) ]

  hidden : (o : Option ℕ) → IsHidden L f c o → told o ≡ Err (NotFound name)
  hidden None h = refl
  hidden (Some id) h = ap (λ b. if b then Ok id else Err (NotFound name)) h

  -- and so is all that goes on from it
  goes : {B : Type 0} (m : ℕ → Result B Refusal) → IsHidden L f c (group_id name f) → (group_seen L f c name >>= m) ≡ Err (NotFound name)
  goes m h = ap (λ r. r >>= m) (hidden (group_id name f) h)

  read_goes : {B : Type 0} (n : ℕ → Result ℕ Refusal) (m : ℕ → Result B Refusal) → IsHidden L f c (group_id name f) → ((group_seen L f c name >>= n) >>= m) ≡ Err (NotFound name)
  read_goes n m h = steps_join (group_seen L f c name) n m ∙ goes (λ x. n x >>= m) h

-- by an object's text
module _ (L : Live) (f : Lists) (c : Who) (text name : List ℕ) where
  abbrev found_by : Bool → Option Entity → Result (Option Object) Refusal
  found_by b e = if b then entity_object L f c text e else name_found L f c text (resolve text f)

  group_text : IsGroupText name text → IsHidden L f c (group_id name f) → object_found L f c text ≡ Err (NotFound name)
  group_text asks h =
      ap (λ b. found_by b (entity_of text)) asks.0
      ∙ ap (λ e. found_by true e) asks.1
      ∙ goes L f c text name (λ g. Ok (Some (object.Group g))) h

  text_goes : {B : Type 0} (m : Option Object → Result B Refusal) → IsGroupText name text → IsHidden L f c (group_id name f) → (object_found L f c text >>= m) ≡ Err (NotFound name)
  text_goes m asks h = ap (λ r. r >>= m) (group_text asks h)

  hidden_object : (o : Option Object) → IsHiddenObject L f c o → name_found L f c text o ≡ Err (NotFound text)
  hidden_object None h = refl
  hidden_object (Some o) h = ap (λ b. if b then Ok (Some o) else Err (NotFound text)) h

  name_goes : {B : Type 0} (m : Option Object → Result B Refusal) → is_entity_text text ≡ false → IsHiddenObject L f c (resolve text f) → (object_found L f c text >>= m) ≡ Err (NotFound text)
  name_goes m plain h = ap (λ r. r >>= m) (ap (λ b. found_by b (entity_of text)) plain ∙ hidden_object (resolve text f) h)

-- of the past: nor is there one that is gone, for the caller
module _ (past : Past) (L : Live) (f : Lists) (c : Who) (name : List ℕ) {B : Type 0} (m : ℕ → Result B Refusal) where
  none_found : (o : Option ℕ) → is_some o ≡ false → (found_or o (NotFound name) >>= m) ≡ Err (NotFound name)
  none_found None h = refl
  none_found (Some g) h = cc

  past_by : (o : Option ℕ) → IsHidden L f c (group_id name f) → is_some (gone_found past L f c name) ≡ false → (past_group past L f c name o >>= m) ≡ Err (NotFound name)
  past_by None h gone = none_found (gone_found past L f c name) gone
  past_by (Some g) h gone = read_goes L f c name name (λ id. if is_readable L f c (object.Group id) then Ok id else Err (denied name privilege.Read)) m h

  past_goes : IsHidden L f c (group_id name f) → is_some (gone_found past L f c name) ≡ false → (group_past past L f c name >>= m) ≡ Err (NotFound name)
  past_goes h gone = past_by (group_id name f) h gone

-- a query of the past isn't of a group that is gone
abbrev NoneGone : Past → Live → Lists → Who → Query → Type 0
NoneGone past L f c (query.Members group at) = is_some (gone_found past L f c group) ≡ false
NoneGone past L f c (query.History group) = is_some (gone_found past L f c group) ≡ false
NoneGone past L f c _ = ⊤

not_seen : (past : Past) (L : Live) (f : Lists) (now : ℕ) (c : Who) (by name : List ℕ) (q : Query) → AsksOf name q → IsHidden L f c (group_id name f) → NoneGone past L f c q → answer_of past L f now by c q ≡ Err (NotFound name)
not_seen past L f now c by name (query.GroupGet group) asks h gone = rw asks (goes L f c by name _ h)
not_seen past L f now c by name (query.FolderList folder) asks h gone = absurd asks
not_seen past L f now c by name (query.Members group at) asks h gone = rw asks (past_goes past L f c name (λ id. members_at past L f now id at) h (rw asks at gone))
not_seen past L f now c by name (query.Rows group) asks h gone = rw asks (read_goes L f c by name _ _ h)
not_seen past L f now c by name (query.Groups (entity.Person text) at) asks h gone = absurd asks
not_seen past L f now c by name (query.Groups (entity.Group group) at) asks h gone = rw asks (goes L f c by name _ h)
not_seen past L f now c by name (query.Groups entity.System at) asks h gone = absurd asks
not_seen past L f now c by name (query.Groups entity.Everyone at) asks h gone = absurd asks
not_seen past L f now c by name (query.Grants text at) asks h gone = text_goes L f c text name _ asks h
not_seen past L f now c by name (query.May text e at) asks h gone = text_goes L f c text name _ asks h
not_seen past L f now c by name (query.Attributes text at) asks h gone = text_goes L f c text name _ asks h
not_seen past L f now c by name (query.History group) asks h gone = rw asks (past_goes past L f c name (λ id. Ok (answer.History (history_of past id f.subjects))) h (rw asks at gone))
not_seen past L f now c by name (query.Log consumer max) asks h gone = absurd asks
not_seen past L f now c by name query.Admin asks h gone = absurd asks

-- for who stands
gone_for : (past : Past) (L : Live) (f : Lists) (c : Who) (by : List ℕ) (q : Query) → caller_of by f ≡ Some c → IsOfNoneGone past L f by q → NoneGone past L f c q
gone_for past L f c by (query.Members group when) at h = rw at at h
gone_for past L f c by (query.History group) at h = rw at at h
gone_for past L f c by _ at h = tt

pub unseen_is : (past : Past) (L : Live) (f : Lists) (now : ℕ) (c : Who) (by name : List ℕ) (q : Query) → caller_of by f ≡ Some c → AsksOf name q → IsUnseen L f by name → IsOfNoneGone past L f by q → answer_of past L f now by c q ≡ Err (NotFound name)
unseen_is past L f now c by name q at asks h gone = not_seen past L f now c by name q asks (rw at at h) (gone_for past L f c by q at gone)

pub nobody_sees : (L : Live) (f : Lists) (by name : List ℕ) (q : Query) → caller_of by f ≡ None → IsUnseen L f by name → ⊥
nobody_sees L f by name q at h = rw at at h

-- and an object that isn't seen
object_not_seen : (past : Past) (L : Live) (f : Lists) (now : ℕ) (c : Who) (by name : List ℕ) (q : Query) → AsksAbout name q → IsHiddenObject L f c (resolve name f) → answer_of past L f now by c q ≡ Err (NotFound name)
object_not_seen past L f now c by name (query.Grants text at) asks h = rw asks.0 (name_goes L f c name name _ asks.1 h)
object_not_seen past L f now c by name (query.May text e at) asks h = rw asks.0 (name_goes L f c name name _ asks.1 h)
object_not_seen past L f now c by name (query.Attributes text at) asks h = rw asks.0 (name_goes L f c name name _ asks.1 h)
object_not_seen past L f now c by name _ asks h = absurd asks

pub unseen_object_is : (past : Past) (L : Live) (f : Lists) (now : ℕ) (c : Who) (by name : List ℕ) (q : Query) → caller_of by f ≡ Some c → AsksAbout name q → IsUnseenObject L f by name → answer_of past L f now by c q ≡ Err (NotFound name)
unseen_object_is past L f now c by name q at asks h = object_not_seen past L f now c by name q asks (rw at at h)

pub nobody_sees_object : (L : Live) (f : Lists) (by name : List ℕ) → caller_of by f ≡ None → IsUnseenObject L f by name → ⊥
nobody_sees_object L f by name at h = rw at at h
