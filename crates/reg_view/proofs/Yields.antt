-- What isn't there for the caller is refused by the query's texts alone, and any other answer may yield to want of memory.
use Rattle.std.proofs.Common.{◌≡◌, ℕ, List, Bool, true, false, Option, Some, None, Result, Ok, Err, refl, sym, ap, ◌∙◌, subst, IfOk, IfErr}
use Rattle.std.specs.Prelude.{⊤, is_some, nat_lt, codes, map, if◌then◌else◌}
use Rattle.reg_base.specs.Entities.{entity_of}
use Rattle.reg_base.specs.declared.entity.Entity.{Entity}
use Rattle.reg_base.specs.declared.entity.Entity.TheVariants as entity
use Rattle.reg_base.specs.declared.privilege.Privilege.{Privilege}
use Rattle.reg_base.specs.declared.privilege.Privilege.TheVariants as privilege
use Rattle.reg_terms.specs.declared.kinds.Object.{Object}
use Rattle.reg_terms.specs.declared.kinds.Object.TheVariants as object
use Rattle.reg_terms.specs.declared.refusal.Refusal.{Refusal}
use Rattle.reg_terms.specs.declared.refusal.Refusal.TheVariants.{NotFound, Future, WrongKind}
use Rattle.reg_terms.specs.declared.query.Query.{Query}
use Rattle.reg_terms.specs.declared.query.Query.TheVariants as query
use Rattle.reg_terms.specs.declared.query.Answer.{Answer}
use Rattle.reg_terms.specs.declared.query.Answer.TheVariants as answer
use Rattle.reg_facts.specs.Edits.{subject_id}
use Rattle.reg_facts.specs.Lists.{Lists}
use Rattle.reg_facts.specs.Members.{texts_where}
use Rattle.reg_facts.specs.Naming.{folder_id, group_id, name_of, resolve}
use Rattle.reg_facts.specs.RowOrder.{rows_of}
use Rattle.reg_effect.specs.declared.live.Live.{Live}
use Rattle.reg_priv.specs.declared.who.Who.{Who}
use Rattle.reg_priv.specs.May.{is_root, may, visible, who_of}
use Rattle.reg_view.specs.Answers as answers
use Rattle.reg_view.specs.Answers.{answer_of, entity_found, entity_object, group_seen, name_found, object_found, past_group, gone_found, place_seen}
use Rattle.reg_view.specs.declared.question.Called.{Called}
use Rattle.reg_view.specs.Missing.{MayYield, called_of, entity_called, entity_in, finds_either, finds_entity, finds_first, finds_named, finds_object, finds_second, missing, object_called, seen_group, seen_object, seen_of}
use Rattle.reg_view.specs.Past.{Past, history_of}
use Rattle.reg_view.specs.Show.{◌>>=◌, denied, found_or, in_time, is_caller, is_entity_text, root_denied}
use Rattle.reg_view.specs.Telling.{IfRefused}
use Rattle.reg_view.specs.Texts.{composite_shown, grant_shown, row_shown}
use Rattle.reg_view.specs.View.{is_admin, is_readable}

-- ---- found and seen

seen_if : {A : Type 0} (b : Bool) (a : A) (e : Refusal) → (if b then Ok a else Err e) ≡ found_or (if b then Some a else None) e
seen_if true a e = refl
seen_if false a e = refl

module _ (L : Live) (f : Lists) (c : Who) (name : List ℕ) where
  told_as : (o : Option ℕ) → (elim o [ None ↦ Err (NotFound name) | Some id ↦ if visible L f c (object.Group id) then Ok id else Err (NotFound name) ])
      ≡ found_or (elim o [ None ↦ None | Some id ↦ if visible L f c (object.Group id) then Some id else None ]) (NotFound name)
  told_as None = refl
  told_as (Some id) = seen_if (visible L f c (object.Group id)) id (NotFound name)

  -- hidden and absent are the same None
  group_seen_is : group_seen L f c name ≡ found_or (seen_group L f c name) (NotFound name)
  group_seen_is = told_as (group_id name f)

  abbrev named_one : Object → Result (Option Object) Refusal
  named_one o = Ok (Some o)

  name_if : (b : Bool) (o : Object) → (if b then named_one o else Err (NotFound name)) ≡ (found_or (if b then Some o else None) (NotFound name) >>= named_one)
  name_if true o = refl
  name_if false o = refl

  name_found_is : (o : Option Object) → name_found L f c name o ≡ (found_or (seen_of L f c o) (NotFound name) >>= named_one)
  name_found_is None = refl
  name_found_is (Some o) = name_if (visible L f c o) o

-- what was looked for is there, or isn't
pub seen_some : (found : Option ℕ) (L : Live) (f : Lists) (c : Who) (name : List ℕ) (id : ℕ) → found ≡ seen_group L f c name → found ≡ Some id → Ok id ≡ group_seen L f c name
seen_some found L f c name id at is = sym (group_seen_is L f c name ∙ ap (λ o. found_or o (NotFound name)) (sym at ∙ is))

pub seen_none : (found : Option ℕ) (L : Live) (f : Lists) (c : Who) (name : List ℕ) → found ≡ seen_group L f c name → found ≡ None → Err (NotFound name) ≡ group_seen L f c name
seen_none found L f c name at is = sym (group_seen_is L f c name ∙ ap (λ o. found_or o (NotFound name)) (sym at ∙ is))

pub name_some : (found : Option Object) (L : Live) (f : Lists) (c : Who) (text : List ℕ) (o : Object) → found ≡ seen_object L f c text → found ≡ Some o → Ok (Some o) ≡ name_found L f c text (resolve text f)
name_some found L f c text o at is = sym (name_found_is L f c text (resolve text f) ∙ ap (λ x. found_or x (NotFound text) >>= named_one L f c text) (sym at ∙ is))

pub name_none : (found : Option Object) (L : Live) (f : Lists) (c : Who) (text : List ℕ) → found ≡ seen_object L f c text → found ≡ None → Err (NotFound text) ≡ name_found L f c text (resolve text f)
name_none found L f c text at is = sym (name_found_is L f c text (resolve text f) ∙ ap (λ x. found_or x (NotFound text) >>= named_one L f c text) (sym at ∙ is))

-- ---- what isn't there

-- nothing is refused
abbrev IsNever : Refusal → Type 0
IsNever e = ⊥

or_none : {A : Type 0} (o : Option A) (e : Refusal) → is_some o ≡ false → found_or o e ≡ Err e
or_none None e h = refl
or_none (Some a) e h = cc

or_some : {A : Type 0} (o : Option A) (e : Refusal) → is_some o ≡ true → IfRefused IsNever (found_or o e)
or_some None e h = absurd (let never : ⊥ = cc in never)
or_some (Some a) e h = tt

abbrev either : {A B : Type 0} → Option A → Refusal → (A → Result B Refusal) → Result B Refusal
either o e k = elim o [ None ↦ Err e | Some a ↦ k a ]

either_none : {A B : Type 0} (o : Option A) (e : Refusal) (k : A → Result B Refusal) → is_some o ≡ false → either o e k ≡ Err e
either_none None e k h = refl
either_none (Some a) e k h = cc

either_some : {A B : Type 0} (o : Option A) (e : Refusal) (k : A → Result B Refusal) (P : Refusal → Type 0) → is_some o ≡ true → ((a : A) → IfRefused P (k a)) → IfRefused P (either o e k)
either_some None e k P h goes = absurd (let never : ⊥ = cc in never)
either_some (Some a) e k P h goes = goes a

-- one step after another
after : {A B : Type 0} (P : Refusal → Type 0) (r : Result A Refusal) (k : A → Result B Refusal) → IfRefused IsNever r → ((a : A) → IfRefused P (k a)) → IfRefused P (r >>= k)
after P (Ok a) k h goes = goes a
after P (Err e) k h goes = absurd h

next : {A B : Type 0} (r : Result A Refusal) (k : A → Result B Refusal) → IfRefused MayYield r → ((a : A) → IfRefused MayYield (k a)) → IfRefused MayYield (r >>= k)
next (Ok a) k h goes = goes a
next (Err e) k h goes = h

refused : {A B : Type 0} (r : Result A Refusal) (k : A → Result B Refusal) (e : Refusal) → r ≡ Err e → (r >>= k) ≡ Err e
refused r k e is = ap (λ x. x >>= k) is

refused_later : {A B : Type 0} (r : Result A Refusal) (k : A → Result B Refusal) (e : Refusal) → IfRefused IsNever r → ((a : A) → k a ≡ Err e) → (r >>= k) ≡ Err e
refused_later (Ok a) k e h goes = goes a
refused_later (Err x) k e h goes = absurd h

weaken : {A : Type 0} (r : Result A Refusal) → IfRefused IsNever r → IfRefused MayYield r
weaken (Ok a) h = tt
weaken (Err e) h = absurd h

one_of : {A : Type 0} (b : Bool) (r s : Result A Refusal) → IfRefused MayYield r → IfRefused MayYield s → IfRefused MayYield (if b then r else s)
one_of true r s h i = h
one_of false r s h i = i

-- ---- groups, entities and objects

module _ (L : Live) (f : Lists) (c : Who) where
  group_none : (name : List ℕ) → is_some (seen_group L f c name) ≡ false → group_seen L f c name ≡ Err (NotFound name)
  group_none name h = group_seen_is L f c name ∙ or_none (seen_group L f c name) (NotFound name) h

  group_some : (name : List ℕ) → is_some (seen_group L f c name) ≡ true → IfRefused IsNever (group_seen L f c name)
  group_some name h = subst (λ r. IfRefused IsNever r) (sym (group_seen_is L f c name)) (or_some (seen_group L f c name) (NotFound name) h)

  entity_none : (e : Entity) → finds_entity L f c e ≡ false → entity_found L f c e ≡ Err (NotFound (entity_called e))
  entity_none (entity.Person text) h = either_none (subject_id text f.subjects) (NotFound text) (λ s. Ok (Some (object.Subject s))) h
  entity_none (entity.Group name) h = refused (group_seen L f c name) (λ g. Ok (Some (object.Group g))) (NotFound name) (group_none name h)
  entity_none entity.System h = cc
  entity_none entity.Everyone h = cc

  entity_some : (e : Entity) → finds_entity L f c e ≡ true → IfRefused IsNever (entity_found L f c e)
  entity_some (entity.Person text) h = either_some (subject_id text f.subjects) (NotFound text) (λ s. Ok (Some (object.Subject s))) IsNever h (λ s. tt)
  entity_some (entity.Group name) h = after IsNever (group_seen L f c name) (λ g. Ok (Some (object.Group g))) (group_some name h) (λ g. tt)
  entity_some entity.System h = tt
  entity_some entity.Everyone h = tt

  text_none : (text : List ℕ) (e : Option Entity) → finds_named L f c e ≡ false → entity_object L f c text e ≡ Err (NotFound (object_called text e))
  text_none text None h = refl
  text_none text (Some e) h = entity_none e h

  text_some : (text : List ℕ) (e : Option Entity) → finds_named L f c e ≡ true → IfRefused IsNever (entity_object L f c text e)
  text_some text None h = absurd (let never : ⊥ = cc in never)
  text_some text (Some e) h = entity_some e h

  named_none : (text : List ℕ) (o : Option Object) → is_some (seen_of L f c o) ≡ false → name_found L f c text o ≡ Err (NotFound text)
  named_none text o h = name_found_is L f c text o ∙ refused (found_or (seen_of L f c o) (NotFound text)) (named_one L f c text) (NotFound text) (or_none (seen_of L f c o) (NotFound text) h)

  named_some : (text : List ℕ) (o : Option Object) → is_some (seen_of L f c o) ≡ true → IfRefused IsNever (name_found L f c text o)
  named_some text o h = subst (λ r. IfRefused IsNever r) (sym (name_found_is L f c text o)) (after IsNever (found_or (seen_of L f c o) (NotFound text)) (named_one L f c text) (or_some (seen_of L f c o) (NotFound text) h) (λ x. tt))

  -- by either kind of text
  kind_none : (text : List ℕ) (b : Bool) (e : Option Entity) → (if b then finds_named L f c (if b then e else None) else is_some (seen_object L f c text)) ≡ false
      → (if b then entity_object L f c text e else name_found L f c text (resolve text f)) ≡ Err (NotFound (object_called text (if b then e else None)))
  kind_none text true e h = text_none text e h
  kind_none text false e h = named_none text (resolve text f) h

  kind_some : (text : List ℕ) (b : Bool) (e : Option Entity) → (if b then finds_named L f c (if b then e else None) else is_some (seen_object L f c text)) ≡ true
      → IfRefused IsNever (if b then entity_object L f c text e else name_found L f c text (resolve text f))
  kind_some text true e h = text_some text e h
  kind_some text false e h = named_some text (resolve text f) h

  object_none : (text : List ℕ) → finds_object L f c text (entity_in text) ≡ false → object_found L f c text ≡ Err (NotFound (object_called text (entity_in text)))
  object_none text h = kind_none text (is_entity_text text) (entity_of text) h

  object_some : (text : List ℕ) → finds_object L f c text (entity_in text) ≡ true → IfRefused IsNever (object_found L f c text)
  object_some text h = kind_some text (is_entity_text text) (entity_of text) h

-- ---- the past of a group

module _ (p : Past) (L : Live) (f : Lists) (c : Who) (group : List ℕ) where
  abbrev if_read : ℕ → Result ℕ Refusal
  if_read id = if is_readable L f c (object.Group id) then Ok id else Err (denied group privilege.Read)

  past_none : (o : Option ℕ) → finds_either p L f c group o ≡ false → past_group p L f c group o ≡ Err (NotFound group)
  past_none None h = or_none (gone_found p L f c group) (NotFound group) h
  past_none (Some g) h = refused (group_seen L f c group) if_read (NotFound group) (group_none L f c group h)

  read_yields : is_some (seen_group L f c group) ≡ true → IfRefused MayYield (group_seen L f c group >>= if_read)
  read_yields h = after MayYield (group_seen L f c group) if_read (group_some L f c group h) (λ id. one_of (is_readable L f c (object.Group id)) (Ok id) (Err (denied group privilege.Read)) tt tt)

  past_yields : (o : Option ℕ) → finds_either p L f c group o ≡ true → IfRefused MayYield (past_group p L f c group o)
  past_yields None h = weaken (found_or (gone_found p L f c group) (NotFound group)) (or_some (gone_found p L f c group) (NotFound group) h)
  past_yields (Some g) h = read_yields h

-- ---- what is there

module _ (p : Past) (L : Live) (f : Lists) (now : ℕ) (by : List ℕ) (c : Who) where
  abbrev answered : Answer → Result Answer Refusal
  answered a = Ok a

  abbrev in_step : Result ⊤ Refusal
  in_step = Ok tt

  time_yields : (at : Option ℕ) → IfRefused MayYield (in_time now at)
  time_yields None = tt
  time_yields (Some at) = one_of (nat_lt now at) (Err (Future at now)) in_step tt tt

  timed : (at : Option ℕ) (r : Result Answer Refusal) → IfRefused MayYield r → IfRefused MayYield (in_time now at >>= (λ _. r))
  timed at r h = next (in_time now at) (λ _. r) (time_yields at) (λ x. h)

  unfit_yields : (field : List ℕ) (at : Option ℕ) → IfRefused MayYield (answers.unfit field now at)
  unfit_yields field at = timed at (Err (WrongKind field)) tt

  members_yield : (id : ℕ) (at : Option ℕ) → IfRefused MayYield (answers.members_at p L f now id at)
  members_yield id None = tt
  members_yield id (Some at) = timed (Some at) (answered (answer.Members (texts_where (p.was at id) f.subjects))) tt

  groups_yield : (s : ℕ) (at : Option ℕ) → IfRefused MayYield (answers.groups_at p L f now c s at)
  groups_yield s None = tt
  groups_yield s (Some at) = timed (Some at) (answered (answers.groups_where (λ g. p.was at g s) L f c)) tt

  admin_yields : (o : Object) → MayYield (answers.not_admin f o)
  admin_yields (object.Folder d) = tt
  admin_yields (object.Group g) = tt
  admin_yields (object.Def a) = tt
  admin_yields (object.Attr a) = tt
  admin_yields (object.Subject s) = tt

  all_yield : (o : Object) (at : Option ℕ) → IfRefused MayYield (answers.all_grants p f now o at)
  all_yield o at = timed at (answered (answer.Grants (map (grant_shown p f) (answers.grants_at p f o at)))) tt

  told_yields : (o : Object) (at : Option ℕ) → IfRefused MayYield (answers.grants_told p f now o at)
  told_yields (object.Folder d) at = all_yield (object.Folder d) at
  told_yields (object.Group g) at = all_yield (object.Group g) at
  told_yields (object.Def a) at = all_yield (object.Def a) at
  told_yields (object.Attr a) at = unfit_yields (codes "object") at
  told_yields (object.Subject s) at = unfit_yields (codes "object") at

  grants_yield : (o : Option Object) (at : Option ℕ) → IfRefused MayYield (answers.grants_on p L f now c o at)
  grants_yield None at = unfit_yields (codes "object") at
  grants_yield (Some o) at = one_of (is_admin L f c o) (answers.grants_told p f now o at) (Err (answers.not_admin f o)) (told_yields o at) (admin_yields o)

  powers_yield : (w : Who) (o : Object) (at : Option ℕ) → IfRefused MayYield (answers.powers_of p L f now w o at)
  powers_yield w o at = timed at (answered (answer.May (answers.privileges_at p L f w o at))) tt

  someone_yields : (w : Option Who) (o : Object) (at : Option ℕ) → IfRefused MayYield (answers.powers_told p L f now w o at)
  someone_yields None o at = unfit_yields (codes "entity") at
  someone_yields (Some w) o at = powers_yield w o at

  own_yields : (o : Option Object) (at : Option ℕ) → IfRefused MayYield (answers.own_told p L f now c o at)
  own_yields None at = unfit_yields (codes "object") at
  own_yields (Some o) at = powers_yield c o at

  other_yields : (o : Option Object) (e : Entity) (at : Option ℕ) → IfRefused MayYield (answers.other_told p L f now c o e at)
  other_yields None e at = unfit_yields (codes "object") at
  other_yields (Some o) e at = one_of (is_admin L f c o) (answers.powers_told p L f now (who_of e f) o at) (Err (answers.not_admin f o)) (someone_yields (who_of e f) o at) (admin_yields o)

  assigned_yield : (o : Object) (at : Option ℕ) → IfRefused MayYield (answers.attributes_told p L f now c o at)
  assigned_yield o at = timed at (answered (answer.Attributes (answers.attributes_at p L f c o at))) tt

  owner_yields : (o : Object) (wanted : Privilege) (at : Option ℕ) → IfRefused MayYield (answers.owner_told p L f now c o wanted at)
  owner_yields o wanted at = one_of (may L f c o wanted) (answers.attributes_told p L f now c o at) (Err (denied (name_of o f) wanted)) (assigned_yield o at) tt

  attributes_yield : (text : List ℕ) (o : Option Object) (at : Option ℕ) → IfRefused MayYield (answers.attributes_on p L f now c text o at)
  attributes_yield text None at = unfit_yields (codes "object") at
  attributes_yield text (Some (object.Folder d)) at = owner_yields (object.Folder d) privilege.StemAttrRead at
  attributes_yield text (Some (object.Group g)) at = one_of (is_entity_text text) (answers.unfit (codes "object") now at) (answers.owner_told p L f now c (object.Group g) privilege.GroupAttrRead at) (unfit_yields (codes "object") at) (owner_yields (object.Group g) privilege.GroupAttrRead at)
  attributes_yield text (Some (object.Def a)) at = unfit_yields (codes "object") at
  attributes_yield text (Some (object.Attr a)) at = unfit_yields (codes "object") at
  attributes_yield text (Some (object.Subject s)) at = assigned_yield (object.Subject s) at

  abbrev may_go : Entity → Option ℕ → Option Object → Result Answer Refusal
  may_go e at o = if is_caller by e then answers.own_told p L f now c o at else answers.other_told p L f now c o e at

  -- ---- queries

  first_missing : (q : Query) → finds_first p L f c q (called_of q).entity ≡ false → answer_of p L f now by c q ≡ Err (NotFound (called_of q).first)
  first_missing (query.GroupGet group) h = refused (group_seen L f c group) _ (NotFound group) (group_none L f c group h)
  first_missing (query.FolderList folder) h = either_none (folder_id folder f) (NotFound folder) (λ d. answered (answers.listing L f c d folder)) h
  first_missing (query.Members group at) h = refused (past_group p L f c group (group_id group f)) (λ id. answers.members_at p L f now id at) (NotFound group) (past_none p L f c group (group_id group f) h)
  first_missing (query.Rows group) h = refused (answers.group_read L f c group) _ (NotFound group) (refused (group_seen L f c group) _ (NotFound group) (group_none L f c group h))
  first_missing (query.Groups (entity.Person text) at) h = either_none (subject_id text f.subjects) (NotFound text) (λ s. answers.groups_at p L f now c s at) h
  first_missing (query.Groups (entity.Group name) at) h = refused (group_seen L f c name) _ (NotFound name) (group_none L f c name h)
  first_missing (query.Groups entity.System at) h = cc
  first_missing (query.Groups entity.Everyone at) h = cc
  first_missing (query.Grants text at) h = refused (object_found L f c text) _ (NotFound (object_called text (entity_in text))) (object_none L f c text h)
  first_missing (query.May text e at) h = refused (object_found L f c text) _ (NotFound (object_called text (entity_in text))) (object_none L f c text h)
  first_missing (query.Attributes text at) h = refused (object_found L f c text) _ (NotFound (object_called text (entity_in text))) (object_none L f c text h)
  first_missing (query.History group) h = refused (past_group p L f c group (group_id group f)) _ (NotFound group) (past_none p L f c group (group_id group f) h)
  first_missing (query.Log consumer max) h = refused (found_or (place_seen L f c consumer) (NotFound consumer)) _ (NotFound consumer) (or_none (place_seen L f c consumer) (NotFound consumer) h)
  first_missing query.Admin h = cc

  second_missing : (q : Query) → finds_first p L f c q (called_of q).entity ≡ true → finds_second L f c q ≡ false → answer_of p L f now by c q ≡ Err (NotFound (called_of q).second)
  second_missing (query.GroupGet group) h i = cc
  second_missing (query.FolderList folder) h i = cc
  second_missing (query.Members group at) h i = cc
  second_missing (query.Rows group) h i = cc
  second_missing (query.Groups subject at) h i = cc
  second_missing (query.Grants text at) h i = cc
  second_missing (query.May text e at) h i =
      refused_later (object_found L f c text) (λ o. entity_found L f c e >>= (λ _. may_go e at o)) (NotFound (entity_called e)) (object_some L f c text h) (λ o.
      refused (entity_found L f c e) (λ _. may_go e at o) (NotFound (entity_called e)) (entity_none L f c e i))
  second_missing (query.Attributes text at) h i = cc
  second_missing (query.History group) h i = cc
  second_missing (query.Log consumer max) h i = cc
  second_missing query.Admin h i = cc

  there_yields : (q : Query) → finds_first p L f c q (called_of q).entity ≡ true → finds_second L f c q ≡ true → IfRefused MayYield (answer_of p L f now by c q)
  there_yields (query.GroupGet group) h i = after MayYield (group_seen L f c group) (λ id. answered (answer.GroupGet (answers.display_of id f.groups) group)) (group_some L f c group h) (λ id. tt)
  there_yields (query.FolderList folder) h i = either_some (folder_id folder f) (NotFound folder) (λ d. answered (answers.listing L f c d folder)) MayYield h (λ d. tt)
  there_yields (query.Members group at) h i = next (past_group p L f c group (group_id group f)) (λ id. answers.members_at p L f now id at) (past_yields p L f c group (group_id group f) h) (λ id. members_yield id at)
  there_yields (query.Rows group) h i = next (answers.group_read L f c group) (λ id. answered (answer.Rows (composite_shown id f) (map (row_shown f) (rows_of id f.rows)))) (read_yields p L f c group h) (λ id. tt)
  there_yields (query.Groups (entity.Person text) at) h i = either_some (subject_id text f.subjects) (NotFound text) (λ s. answers.groups_at p L f now c s at) MayYield h (λ s. groups_yield s at)
  there_yields (query.Groups (entity.Group name) at) h i = after MayYield (group_seen L f c name) (λ _. answers.unfit (codes "subject") now at) (group_some L f c name h) (λ g. unfit_yields (codes "subject") at)
  there_yields (query.Groups entity.System at) h i = unfit_yields (codes "subject") at
  there_yields (query.Groups entity.Everyone at) h i = unfit_yields (codes "subject") at
  there_yields (query.Grants text at) h i = after MayYield (object_found L f c text) (λ o. answers.grants_on p L f now c o at) (object_some L f c text h) (λ o. grants_yield o at)
  there_yields (query.May text e at) h i =
      after MayYield (object_found L f c text) (λ o. entity_found L f c e >>= (λ _. may_go e at o)) (object_some L f c text h) (λ o.
      after MayYield (entity_found L f c e) (λ _. may_go e at o) (entity_some L f c e i) (λ _.
      one_of (is_caller by e) (answers.own_told p L f now c o at) (answers.other_told p L f now c o e at) (own_yields o at) (other_yields o e at)))
  there_yields (query.Attributes text at) h i = after MayYield (object_found L f c text) (λ o. answers.attributes_on p L f now c text o at) (object_some L f c text h) (λ o. attributes_yield text o at)
  there_yields (query.History group) h i = next (past_group p L f c group (group_id group f)) (λ id. answered (answer.History (history_of p id f.subjects))) (past_yields p L f c group (group_id group f) h) (λ id. tt)
  there_yields (query.Log consumer max) h i = after MayYield (found_or (place_seen L f c consumer) (NotFound consumer)) (λ place. answered (answers.entries_told p place max)) (or_some (place_seen L f c consumer) (NotFound consumer) h) (λ place. tt)
  there_yields query.Admin h i = one_of (is_root L f c) (answered (answers.admin_told p f)) (Err root_denied) tt tt

  -- ---- both

  abbrev lacks : Bool → Bool → List ℕ → List ℕ → Option (List ℕ)
  lacks a b first second = if a then (if b then None else Some second) else Some first

  which : (a b : Bool) (first second text : List ℕ) (r : Result Answer Refusal) → (a ≡ false → r ≡ Err (NotFound first)) → (a ≡ true → b ≡ false → r ≡ Err (NotFound second)) → lacks a b first second ≡ Some text → r ≡ Err (NotFound text)
  which true true first second text r one two is = cc
  which true false first second text r one two is = let same : second ≡ text = cc in two refl refl ∙ ap (λ x. Err (NotFound x)) same
  which false b first second text r one two is = let same : first ≡ text = cc in one refl ∙ ap (λ x. Err (NotFound x)) same

  none : (a b : Bool) (first second : List ℕ) (r : Result Answer Refusal) → (a ≡ true → b ≡ true → IfRefused MayYield r) → lacks a b first second ≡ None → IfRefused MayYield r
  none true true first second r goes is = goes refl refl
  none true false first second r goes is = absurd (let never : ⊥ = cc in never)
  none false b first second r goes is = absurd (let never : ⊥ = cc in never)

  is_missing : (q : Query) (text : List ℕ) → missing p L f c q (called_of q) ≡ Some text → answer_of p L f now by c q ≡ Err (NotFound text)
  is_missing q text is = which (finds_first p L f c q (called_of q).entity) (finds_second L f c q) (called_of q).first (called_of q).second text (answer_of p L f now by c q) (first_missing q) (second_missing q) is

  is_there : (q : Query) → missing p L f c q (called_of q) ≡ None → IfRefused MayYield (answer_of p L f now by c q)
  is_there q is = none (finds_first p L f c q (called_of q).entity) (finds_second L f c q) (called_of q).first (called_of q).second (answer_of p L f now by c q) (there_yields q) is

-- what was looked for
pub told_missing : (found : Option (List ℕ)) (k : Called) (p : Past) (L : Live) (f : Lists) (now : ℕ) (by : List ℕ) (c : Who) (q : Query) (text : List ℕ) → found ≡ missing p L f c q k → k ≡ called_of q → found ≡ Some text → Err (NotFound text) ≡ answer_of p L f now by c q
told_missing found k p L f now by c q text at called is = sym (is_missing p L f now by c q text (ap (λ x. missing p L f c q x) (sym called) ∙ sym at ∙ is))

pub may_yield : (found : Option (List ℕ)) (k : Called) (p : Past) (L : Live) (f : Lists) (now : ℕ) (by : List ℕ) (c : Who) (q : Query) → found ≡ missing p L f c q k → k ≡ called_of q → found ≡ None → IfRefused MayYield (answer_of p L f now by c q)
may_yield found k p L f now by c q at called is = is_there p L f now by c q (ap (λ x. missing p L f c q x) (sym called) ∙ sym at ∙ is)

-- where it is due that something isn't there, no memory is wanted
pub exactly : {E : Type 0} (result : Result (Result Answer Refusal) E) (due : Result Answer Refusal) (name : List ℕ) → IfOk result (λ r. r ≡ due) → IfErr result (λ _. IfRefused MayYield due) → due ≡ Err (NotFound name) → result ≡ Ok (Err (NotFound name))
exactly (Ok r) due name ok err is = ap (λ x. Ok x) (ok ∙ is)
exactly (Err e) due name ok err is = absurd (rw is at err)
