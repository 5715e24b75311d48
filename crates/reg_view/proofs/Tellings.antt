-- A refusal names nothing that the query doesn't name, but for the root and the definition of an attribute that is seen.
use Rattle.std.proofs.Common.{◌≡◌, ◌||◌, ◌∷◌, ◌++◌, ℕ, List, [], Bool, true, false, Option, Some, None, Result, Ok, Err, inl, inr, refl, sym, ap, ◌∙◌, bytes_eq, codes}
use Rattle.std.specs.Prelude.{⊤, nat_lt, option_map, if◌then◌else◌}
use Rattle.std.specs.List.{list_any}
use Rattle.std.proofs.lemmas.Bool.{cases_Bool, both_ways, or_left, or_right}
use Rattle.std.proofs.lemmas.List.Folds.{list_any-append}
use Rattle.reg_base.specs.Entities.{entity_of}
use Rattle.reg_base.specs.declared.entity.Entity.{Entity}
use Rattle.reg_base.specs.declared.entity.Entity.TheVariants as entity
use Rattle.reg_base.specs.declared.privilege.Privilege.{Privilege}
use Rattle.reg_base.specs.declared.privilege.Privilege.TheVariants as privilege
use Rattle.reg_terms.specs.declared.refusal.Refusal.{Refusal}
use Rattle.reg_terms.specs.declared.refusal.Refusal.TheVariants.{NoCaller, NotFound, Future, WrongKind}
use Rattle.reg_terms.specs.declared.admin_shown.ConsumerShown.{ConsumerShown}
use Rattle.reg_terms.specs.declared.query.Query.{Query}
use Rattle.reg_terms.specs.declared.query.Query.TheVariants as query
use Rattle.reg_terms.specs.declared.query.Answer.{Answer}
use Rattle.reg_terms.specs.declared.query.Answer.TheVariants as answer
use Rattle.reg_facts.specs.Children.{is_among}
use Rattle.reg_view.specs.Show as shown
use Rattle.reg_view.specs.Show.{◌>>=◌, found_or, denied, named, Kind, Meant, AFolder, AGroup, ADefinition, AnAttribute, Named, ASubject, Internal}
use Rattle.reg_view.specs.Telling.{entity_names, object_names, names_of, is_definition, TellsOf, IfRefused}
use Rattle.reg_view.specs.Past.{GroupPast}
use Rattle.reg_view.specs.View.{View, AttributeSeen, Administered, GroupGone, GroupRead, GroupSeen, OwnerRead, Powers}
use Rattle.reg_view.proofs.Same.{bytes_same, bytes_self}

-- what is found has this, or the refusal tells nothing else
abbrev Says : {A : Type 0} → (A → Type 0) → (Refusal → Type 0) → Result A Refusal → Type 0
Says Q P (Ok a) = Q a
Says Q P (Err e) = P e

next : {A B : Type 0} (Q : A → Type 0) (P : Refusal → Type 0) (r : Result A Refusal) (k : A → Result B Refusal) → Says Q P r → ((a : A) → Q a → IfRefused P (k a)) → IfRefused P (r >>= k)
next Q P (Ok a) k says goes = goes a says
next Q P (Err e) k says goes = says

found_says : {A : Type 0} (P : Refusal → Type 0) (o : Option A) (e : Refusal) → P e → Says (λ (a : A). ⊤) P (found_or o e)
found_says P None e h = h
found_says P (Some a) e h = tt

first : (text : List ℕ) (names : List (List ℕ)) → is_among text (text ∷ names) ≡ true
first text names = or_left (bytes_eq text text) (is_among text names) (bytes_self text)

in_left : (text : List ℕ) (a b : List (List ℕ)) → is_among text a ≡ true → is_among text (a ++ b) ≡ true
in_left text a b h = list_any-append (λ t. bytes_eq t text) a b ∙ or_left (is_among text a) (is_among text b) h

in_right : (text : List ℕ) (a b : List (List ℕ)) → is_among text b ≡ true → is_among text (a ++ b) ≡ true
in_right text a b h = list_any-append (λ t. bytes_eq t text) a b ∙ or_right (is_among text a) (is_among text b) h

-- results of one type
abbrev rows_answer : GroupRead → Answer
rows_answer g = answer.Rows g.composite g.rows

abbrev its_past : GroupPast → Result GroupPast Refusal
its_past g = Ok g

abbrev in_step : Result ⊤ Refusal
in_step = Ok tt

abbrev meaning : Meant → Result Meant Refusal
meaning m = Ok m

abbrev answered : Answer → Result Answer Refusal
answered a = Ok a

abbrev person : List ℕ → Result Entity Refusal
person text = Ok (entity.Person text)

abbrev group : List ℕ → Result Entity Refusal
group name = Ok (entity.Group name)

-- a text that is the one of some is where that is
here : (names : List (List ℕ)) (text other : List ℕ) → is_among text names ≡ true → is_among other (text ∷ []) ≡ true → is_among other names ≡ true
here names text other h is = elim (cases_Bool (bytes_eq text other)) [
  | inl t ↦ ap (λ x. is_among x names) (sym (bytes_same text other t)) ∙ h
  | inr t ↦ absurd (both_ways false refl (rw t at is))
]

module _ (v : View) where
  own : (names : List (List ℕ)) (text : List ℕ) (p : Privilege) → is_among text names ≡ true → TellsOf v names (denied text p)
  own names text p h = or_left (is_among text names) (bytes_eq text (codes ":") || is_definition v text) h

  -- ---- groups

  seen_says : (names : List (List ℕ)) (group : List ℕ) → is_among group names ≡ true → Says (λ (g : GroupSeen). ⊤) (TellsOf v names) (shown.seen v group)
  seen_says names group h = found_says (TellsOf v names) (shown.group_named v group) (NotFound group) h

  group_says : (group : List ℕ) → IfRefused (TellsOf v (group ∷ [])) (shown.shown_group v group)
  group_says group = next (λ (g : GroupSeen). ⊤) (TellsOf v (group ∷ [])) (shown.seen v group) _ (seen_says (group ∷ []) group (first group [])) (λ g h. tt)

  read_says : (group : List ℕ) (k : GroupRead → Answer) → IfRefused (TellsOf v (group ∷ [])) (shown.seen v group >>= (λ _. shown.read v group >>= (λ g. answered (k g))))
  read_says group k =
      next (λ (g : GroupSeen). ⊤) (TellsOf v (group ∷ [])) (shown.seen v group) (λ _. shown.read v group >>= (λ g. answered (k g))) (seen_says (group ∷ []) group (first group [])) (λ g h.
      next (λ (g : GroupRead). ⊤) (TellsOf v (group ∷ [])) (shown.read v group) (λ g. answered (k g)) (found_says (TellsOf v (group ∷ [])) (named (λ (g : GroupRead). g.name) v.readable group) _ (own (group ∷ []) group privilege.Read (first group []))) (λ g h. tt))

  -- ---- the past

  told_past : (names : List (List ℕ)) (r : Result GroupRead Refusal) → Says (λ (g : GroupRead). ⊤) (TellsOf v names) r → Says (λ (g : GroupPast). ⊤) (TellsOf v names) (r >>= (λ g. its_past g.past))
  told_past names (Ok g) h = tt
  told_past names (Err e) h = h

  past_says : (group : List ℕ) (s : Option GroupSeen) → Says (λ (g : GroupPast). ⊤) (TellsOf v (group ∷ [])) (shown.past_told v group s)
  past_says group (Some s) = told_past (group ∷ []) (shown.read v group) (found_says (TellsOf v (group ∷ [])) (named (λ (g : GroupRead). g.name) v.readable group) (denied group privilege.Read) (own (group ∷ []) group privilege.Read (first group [])))
  past_says group None = found_says (TellsOf v (group ∷ [])) (option_map (λ (g : GroupGone). g.past) (shown.gone_named v group)) (NotFound group) (first group [])

  early : (names : List (List ℕ)) (b : Bool) (now at : ℕ) → Says (λ (u : ⊤). ⊤) (TellsOf v names) (if b then Err (Future at now) else in_step)
  early names true now at = tt
  early names false now at = tt

  in_time_says : (names : List (List ℕ)) (now : ℕ) (at : Option ℕ) → Says (λ (u : ⊤). ⊤) (TellsOf v names) (shown.in_time now at)
  in_time_says names now None = tt
  in_time_says names now (Some at) = early names (nat_lt now at) now at

  members_say : (group : List ℕ) (at : Option ℕ) → IfRefused (TellsOf v (group ∷ [])) (shown.shown_members v group at)
  members_say group at =
      next (λ (g : GroupPast). ⊤) (TellsOf v (group ∷ [])) (shown.past_of v group) (λ g. shown.in_time v.now at >>= (λ _. answered (answer.Members g.members))) (past_says group (shown.group_named v group)) (λ g h.
      next (λ (u : ⊤). ⊤) (TellsOf v (group ∷ [])) (shown.in_time v.now at) (λ _. answered (answer.Members g.members)) (in_time_says (group ∷ []) v.now at) (λ u t. tt))

  history_says : (group : List ℕ) → IfRefused (TellsOf v (group ∷ [])) (shown.shown_history v group)
  history_says group = next (λ (g : GroupPast). ⊤) (TellsOf v (group ∷ [])) (shown.past_of v group) (λ g. answered (answer.History g.history)) (past_says group (shown.group_named v group)) (λ g h. tt)

  log_says : (consumer : List ℕ) (max : ℕ) → IfRefused (TellsOf v (consumer ∷ [])) (shown.shown_log v consumer max)
  log_says consumer max = next (λ (c : ConsumerShown). ⊤) (TellsOf v (consumer ∷ [])) (found_or (named (λ (c : ConsumerShown). c.consumer) v.consumers consumer) (NotFound consumer)) _ (found_says (TellsOf v (consumer ∷ [])) (named (λ (c : ConsumerShown). c.consumer) v.consumers consumer) (NotFound consumer) (first consumer [])) (λ c h. tt)

  listing_says : (folder : List ℕ) → IfRefused (TellsOf v (folder ∷ [])) (shown.shown_listing v folder)
  listing_says folder = next (λ (d : List ℕ). ⊤) (TellsOf v (folder ∷ [])) (found_or (shown.folder_named v folder) (NotFound folder)) _ (found_says (TellsOf v (folder ∷ [])) (shown.folder_named v folder) (NotFound folder) (first folder [])) (λ g h. tt)

  -- ---- entities

  abbrev AreThese : List (List ℕ) → List (List ℕ) → Type 0
  AreThese few names = (text : List ℕ) → is_among text few ≡ true → is_among text names ≡ true

  known_says : (names : List (List ℕ)) (text : List ℕ) (b : Bool) → is_among text names ≡ true → Says (λ (e : Entity). AreThese (entity_names e) names) (TellsOf v names) (if b then person text else Err (NotFound text))
  known_says names text true h = λ other is. here names text other h is
  known_says names text false h = h

  entity_says : (names : List (List ℕ)) (e : Entity) → AreThese (entity_names e) names → Says (λ (e : Entity). AreThese (entity_names e) names) (TellsOf v names) (shown.entity_seen v e)
  entity_says names (entity.Person text) these = known_says names text (is_among text v.subjects) (these text (first text []))
  entity_says names (entity.Group name) these = group_entity (shown.seen v name) (seen_says names name (these name (first name [])))
    where
      group_entity : (r : Result GroupSeen Refusal) → Says (λ (g : GroupSeen). ⊤) (TellsOf v names) r → Says (λ (e : Entity). AreThese (entity_names e) names) (TellsOf v names) (r >>= (λ _. group name))
      group_entity (Ok g) h = these
      group_entity (Err e) h = h
  entity_says names entity.System these = these
  entity_says names entity.Everyone these = these

  -- ---- objects

  abbrev KindSays : Kind → Type 0
  KindSays AFolder = ⊤
  KindSays AGroup = ⊤
  KindSays ADefinition = ⊤
  KindSays (AnAttribute definition) = is_definition v definition ≡ true

  abbrev MeantSays : List (List ℕ) → Meant → Type 0
  MeantSays names (Named name kind) = (is_among name names ≡ true) × KindSays kind
  MeantSays names (ASubject text) = is_among text names ≡ true
  MeantSays names Internal = ⊤

  of_entity : (names : List (List ℕ)) (e : Entity) → AreThese (entity_names e) names → MeantSays names (shown.object_meant e)
  of_entity names (entity.Person text) these = these text (first text [])
  of_entity names (entity.Group name) these = (these name (first name []), tt)
  of_entity names entity.System these = tt
  of_entity names entity.Everyone these = tt

  meant_says : (names : List (List ℕ)) (r : Result Entity Refusal) → Says (λ (e : Entity). AreThese (entity_names e) names) (TellsOf v names) r → Says (MeantSays names) (TellsOf v names) (r >>= (λ found. meaning (shown.object_meant found)))
  meant_says names (Ok e) says = of_entity names e says
  meant_says names (Err e) says = says

  text_says : (names : List (List ℕ)) (text : List ℕ) (o : Option Entity) → is_among text names ≡ true → ((e : Entity) → o ≡ Some e → AreThese (entity_names e) names) → Says (MeantSays names) (TellsOf v names) (shown.entity_meant v text o)
  text_says names text None h these = h
  text_says names text (Some e) h these = meant_says names (shown.entity_seen v e) (entity_says names e (these e refl))

  definition_says : (text : List ℕ) (list : List AttributeSeen) (a : AttributeSeen) → named (λ (x : AttributeSeen). x.name) list text ≡ Some a → list_any (λ (x : AttributeSeen). bytes_eq x.definition a.definition) list ≡ true
  definition_says text [] a h = cc
  definition_says text (x ∷ list) a h = elim (cases_Bool (bytes_eq x.name text)) [
    | inl t ↦ let one : Some x ≡ Some a = rw t at h in let is : x ≡ a = cc in or_left (bytes_eq x.definition a.definition) _ (ap (λ (y : AttributeSeen). bytes_eq y.definition a.definition) is ∙ bytes_self a.definition)
    | inr t ↦ or_right (bytes_eq x.definition a.definition) _ (definition_says text list a (rw t at h))
  ]

  lists_say : (names : List (List ℕ)) (text : List ℕ) (a : Option (List ℕ)) (b : Option GroupSeen) (d : Option (List ℕ)) (e : Option AttributeSeen) → is_among text names ≡ true → ((x : AttributeSeen) → e ≡ Some x → is_definition v x.definition ≡ true)
      → Says (MeantSays names) (TellsOf v names) (elim a [ Some _ ↦ Ok (Named text AFolder) | None ↦ elim b [ Some _ ↦ Ok (Named text AGroup) | None ↦ elim d [ Some _ ↦ Ok (Named text ADefinition) | None ↦ elim e [ Some x ↦ meaning (Named text (AnAttribute x.definition)) | None ↦ Err (NotFound text) ] ] ] ])
  lists_say names text (Some n) b d e h of = (h, tt)
  lists_say names text None (Some g) d e h of = (h, tt)
  lists_say names text None None (Some n) e h of = (h, tt)
  lists_say names text None None None (Some x) h of = (h, of x refl)
  lists_say names text None None None None h of = h

  either_says : (names : List (List ℕ)) (text : List ℕ) (slash : Bool) → is_among text names ≡ true → ((e : Entity) → entity_of text ≡ Some e → AreThese (entity_names e) names) → Says (MeantSays names) (TellsOf v names) (if slash then shown.entity_meant v text (entity_of text) else shown.object_named v text)
  either_says names text true h these = text_says names text (entity_of text) h these
  either_says names text false h these = lists_say names text (shown.folder_named v text) (shown.group_named v text) (shown.definition_named v text) (shown.attribute_named v text) h (λ x at. definition_says text v.attributes x at)

  object_says : (names : List (List ℕ)) (text : List ℕ) → AreThese (object_names text) names → Says (MeantSays names) (TellsOf v names) (shown.object_seen v text)
  object_says names text these =
      either_says names text (shown.is_entity_text text) (these text (first text _)) (λ e at other h. these other (or_right (bytes_eq text other) _ (later e at other h)))
    where
      later : (e : Entity) → entity_of text ≡ Some e → (other : List ℕ) → is_among other (entity_names e) ≡ true → is_among other (elim (entity_of text) [ None ↦ [] | Some e ↦ entity_names e ]) ≡ true
      later e at other h = ap (λ (o : Option Entity). is_among other (elim o [ None ↦ [] | Some e ↦ entity_names e ])) at ∙ h

  -- ---- grants and privileges

  lacking_says : (names : List (List ℕ)) (name : List ℕ) (kind : Kind) → is_among name names ≡ true → KindSays kind → TellsOf v names (shown.not_admin name kind)
  lacking_says names name AFolder h k = own names name privilege.StemAdmin h
  lacking_says names name AGroup h k = own names name privilege.Admin h
  lacking_says names name ADefinition h k = own names name privilege.AttrAdmin h
  lacking_says names name (AnAttribute d) h k = or_right (is_among d names) (bytes_eq d (codes ":") || is_definition v d) (or_right (bytes_eq d (codes ":")) (is_definition v d) k)

  admin_says : (names : List (List ℕ)) (name : List ℕ) (kind : Kind) (k : Administered → Result Answer Refusal) → is_among name names ≡ true → KindSays kind → ((a : Administered) → IfRefused (TellsOf v names) (k a)) → IfRefused (TellsOf v names) (shown.as_admin v name kind >>= k)
  admin_says names name kind k h says goes = next (λ (a : Administered). ⊤) (TellsOf v names) (shown.as_admin v name kind) k (found_says (TellsOf v names) (named (λ (a : Administered). a.name) v.administered name) (shown.not_admin name kind) (lacking_says names name kind h says)) (λ a t. goes a)

  root_says : (names : List (List ℕ)) (root : Bool) (told : Result Answer Refusal) → IfRefused (TellsOf v names) told → IfRefused (TellsOf v names) (if root then told else Err shown.root_denied)
  root_says names true told h = h
  root_says names false told h = or_right (is_among (codes ":") names) _ refl

  told_says : (names : List (List ℕ)) (a : Administered) (kind : Kind) → IfRefused (TellsOf v names) (shown.grants_told a kind)
  told_says names a AFolder = tt
  told_says names a AGroup = tt
  told_says names a ADefinition = tt
  told_says names a (AnAttribute d) = tt

  timed_says : (names : List (List ℕ)) (at : Option ℕ) (told : Result Answer Refusal) → IfRefused (TellsOf v names) told → IfRefused (TellsOf v names) (shown.timed v at told)
  timed_says names at told h = next (λ (u : ⊤). ⊤) (TellsOf v names) (shown.in_time v.now at) (λ _. told) (in_time_says names v.now at) (λ u t. h)

  on_says : (names : List (List ℕ)) (at : Option ℕ) (o : Meant) → MeantSays names o → IfRefused (TellsOf v names) (shown.grants_on v at o)
  on_says names at (Named name kind) says = admin_says names name kind (λ a. shown.timed v at (shown.grants_told a kind)) says.0 says.1 (λ a. timed_says names at (shown.grants_told a kind) (told_says names a kind))
  on_says names at (ASubject text) says = root_says names v.is_root (shown.timed v at (Err (WrongKind (codes "object")))) (timed_says names at (Err (WrongKind (codes "object"))) tt)
  on_says names at Internal says = timed_says names at (Err (WrongKind (codes "object"))) tt

  grants_says : (text : List ℕ) (at : Option ℕ) → IfRefused (TellsOf v (object_names text)) (shown.shown_grants v text at)
  grants_says text at = next (MeantSays (object_names text)) (TellsOf v (object_names text)) (shown.object_seen v text) (shown.grants_on v at) (object_says (object_names text) text (λ other h. h)) (on_says (object_names text) at)

  with_says : (names : List (List ℕ)) (e : Entity) → IfRefused (TellsOf v names) (shown.groups_with v e)
  with_says names (entity.Person text) = tt
  with_says names (entity.Group name) = tt
  with_says names entity.System = tt
  with_says names entity.Everyone = tt

  groups_says : (e : Entity) (at : Option ℕ) → IfRefused (TellsOf v (entity_names e)) (shown.shown_groups v e at)
  groups_says e at =
      next (λ (x : Entity). AreThese (entity_names x) (entity_names e)) (TellsOf v (entity_names e)) (shown.entity_seen v e) (λ x. shown.in_time v.now at >>= (λ _. shown.groups_with v x)) (entity_says (entity_names e) e (λ other h. h)) (λ x h.
      next (λ (u : ⊤). ⊤) (TellsOf v (entity_names e)) (shown.in_time v.now at) (λ _. shown.groups_with v x) (in_time_says (entity_names e) v.now at) (λ u t. with_says (entity_names e) x))

  own_says : (names : List (List ℕ)) (at : Option ℕ) (o : Meant) → MeantSays names o → IfRefused (TellsOf v names) (shown.own_told v at o)
  own_says names at (Named name kind) says = next (λ (p : Powers). ⊤) (TellsOf v names) (found_or (named (λ (p : Powers). p.name) v.own name) (NotFound name)) (λ (p : Powers). shown.timed v at (Ok (answer.May p.privileges))) (found_says (TellsOf v names) (named (λ (p : Powers). p.name) v.own name) (NotFound name) says.0) (λ p t. timed_says names at (Ok (answer.May p.privileges)) tt)
  own_says names at (ASubject text) says = timed_says names at (Ok (answer.May [])) tt
  own_says names at Internal says = timed_says names at (Err (WrongKind (codes "object"))) tt

  powers_says : (names : List (List ℕ)) (a : Administered) (e : Entity) → AreThese (entity_names e) names → IfRefused (TellsOf v names) (shown.powers_for a e)
  powers_says names a (entity.Person text) these = next (λ (p : Powers). ⊤) (TellsOf v names) (found_or (named (λ (p : Powers). p.name) a.persons text) (NotFound text)) _ (found_says (TellsOf v names) (named (λ (p : Powers). p.name) a.persons text) (NotFound text) (these text (first text []))) (λ p t. tt)
  powers_says names a (entity.Group name) these = tt
  powers_says names a entity.System these = tt
  powers_says names a entity.Everyone these = tt

  nothing_says : (names : List (List ℕ)) (e : Entity) → IfRefused (TellsOf v names) (shown.nothing_for e)
  nothing_says names (entity.Person text) = tt
  nothing_says names (entity.Group name) = tt
  nothing_says names entity.System = tt
  nothing_says names entity.Everyone = tt

  other_says : (names : List (List ℕ)) (at : Option ℕ) (o : Meant) (e : Entity) → MeantSays names o → AreThese (entity_names e) names → IfRefused (TellsOf v names) (shown.other_told v at o e)
  other_says names at (Named name kind) e says these = admin_says names name kind (λ a. shown.timed v at (shown.powers_for a e)) says.0 says.1 (λ a. timed_says names at (shown.powers_for a e) (powers_says names a e these))
  other_says names at (ASubject text) e says these = root_says names v.is_root (shown.timed v at (shown.nothing_for e)) (timed_says names at (shown.nothing_for e) (nothing_says names e))
  other_says names at Internal e says these = timed_says names at (Err (WrongKind (codes "object"))) tt

  caller_says : (names : List (List ℕ)) (b : Bool) (at : Option ℕ) (o : Meant) (e : Entity) → MeantSays names o → AreThese (entity_names e) names → IfRefused (TellsOf v names) (if b then shown.own_told v at o else shown.other_told v at o e)
  caller_says names true at o e says these = own_says names at o says
  caller_says names false at o e says these = other_says names at o e says these

  may_says : (text : List ℕ) (e : Entity) (at : Option ℕ) → IfRefused (TellsOf v (object_names text ++ entity_names e)) (shown.shown_may v text e at)
  may_says text e at =
      let names = object_names text ++ entity_names e in
      next (MeantSays names) (TellsOf v names) (shown.object_seen v text) _ (object_says names text (λ other h. in_left other (object_names text) (entity_names e) h)) (λ o says.
      next (λ (x : Entity). AreThese (entity_names x) names) (TellsOf v names) (shown.entity_seen v e) (λ x. if shown.is_caller v.caller x then shown.own_told v at o else shown.other_told v at o x) (entity_says names e (λ other h. in_right other (object_names text) (entity_names e) h)) (λ x these.
      caller_says names (shown.is_caller v.caller x) at o x says these))

  -- ---- attributes

  unfit_says : (names : List (List ℕ)) (at : Option ℕ) → IfRefused (TellsOf v names) (shown.timed v at (Err (WrongKind (codes "object"))))
  unfit_says names at = timed_says names at (Err (WrongKind (codes "object"))) tt

  owner_says : (names : List (List ℕ)) (at : Option ℕ) (owners : List OwnerRead) (name : List ℕ) (e : Refusal) → TellsOf v names e → IfRefused (TellsOf v names) (shown.owner_told v at owners name e)
  owner_says names at owners name e h = next (λ (o : OwnerRead). ⊤) (TellsOf v names) (found_or (named (λ (o : OwnerRead). o.name) owners name) e) (λ (o : OwnerRead). shown.timed v at (answered (answer.Attributes o.assignments))) (found_says (TellsOf v names) (named (λ (o : OwnerRead). o.name) owners name) e h) (λ o t. timed_says names at (answered (answer.Attributes o.assignments)) tt)

  by_name_says : (names : List (List ℕ)) (at : Option ℕ) (name : List ℕ) (entity : Bool) → is_among name names ≡ true → IfRefused (TellsOf v names) (if entity then shown.timed v at (Err (WrongKind (codes "object"))) else shown.owner_told v at v.owners name (denied name privilege.GroupAttrRead))
  by_name_says names at name true h = unfit_says names at
  by_name_says names at name false h = owner_says names at v.owners name (denied name privilege.GroupAttrRead) (own names name privilege.GroupAttrRead h)

  assigned_says : (names : List (List ℕ)) (at : Option ℕ) (text : List ℕ) (o : Meant) → MeantSays names o → IfRefused (TellsOf v names) (shown.attributes_on v at text o)
  assigned_says names at text (Named name AFolder) says = owner_says names at v.owners name (denied name privilege.StemAttrRead) (own names name privilege.StemAttrRead says.0)
  assigned_says names at text (Named name AGroup) says = by_name_says names at name (shown.is_entity_text text) says.0
  assigned_says names at text (Named name ADefinition) says = unfit_says names at
  assigned_says names at text (Named name (AnAttribute d)) says = unfit_says names at
  assigned_says names at text (ASubject person) says = owner_says names at v.persons person (NotFound person) says
  assigned_says names at text Internal says = unfit_says names at

  attributes_say : (text : List ℕ) (at : Option ℕ) → IfRefused (TellsOf v (object_names text)) (shown.shown_attributes v text at)
  attributes_say text at = next (MeantSays (object_names text)) (TellsOf v (object_names text)) (shown.object_seen v text) (shown.attributes_on v at text) (object_says (object_names text) text (λ other h. h)) (assigned_says (object_names text) at text)

  -- ---- queries

  shown_says : (q : Query) → IfRefused (TellsOf v (names_of q)) (shown.shown v q)
  shown_says (query.GroupGet group) = group_says group
  shown_says (query.FolderList folder) = listing_says folder
  shown_says (query.Members group at) = members_say group at
  shown_says (query.Rows group) = read_says group (λ g. rows_answer g)
  shown_says (query.Groups subject at) = groups_says subject at
  shown_says (query.Grants object at) = grants_says object at
  shown_says (query.May object e at) = may_says object e at
  shown_says (query.Attributes object at) = attributes_say object at
  shown_says (query.History group) = history_says group
  shown_says (query.Log consumer max) = log_says consumer max
  shown_says query.Admin = root_says [] v.is_root (answered (answer.Admin v.consumers v.gone_by_id v.jobs v.rules)) tt

  standing_says : (b : Bool) (q : Query) → IfRefused (TellsOf v (names_of q)) (if b then shown.shown v q else Err NoCaller)
  standing_says true q = shown_says q
  standing_says false q = tt

  -- whatever is asked
  pub show_says : (q : Query) → IfRefused (TellsOf v (names_of q)) (shown.show v q)
  show_says q = standing_says v.stands q
