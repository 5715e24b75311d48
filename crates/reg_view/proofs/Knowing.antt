-- An answer names nobody that the caller may not know of.
use Rattle.std.proofs.Common.{◌≡◌, ◌==◌, ◌&&◌, ◌||◌, ◌∷◌, ◌++◌, ℕ, List, [], Bool, true, false, Option, Some, None, Result, Ok, Err, IfOk, inl, inr, refl, sym, subst, map, filter, bytes_eq, codes}
use Rattle.std.specs.Prelude.{⊤, option_map, if◌then◌else◌}
use Rattle.std.specs.List.{AllByRecursion, find, list_any}
use Rattle.std.proofs.lemmas.Bool.{and_from, cases_Bool, eqb-true, or_left, or_right}
use Rattle.reg_base.specs.declared.entity.Entity.{Entity}
use Rattle.reg_base.specs.declared.entity.Entity.TheVariants as entity
use Rattle.reg_base.specs.declared.privilege.Privilege.{Privilege}
use Rattle.reg_base.specs.declared.privilege.Privilege.TheVariants as privilege
use Rattle.reg_terms.specs.Privileges.{gives}
use Rattle.reg_terms.specs.declared.kinds.Object.{Object}
use Rattle.reg_terms.specs.declared.kinds.Object.TheVariants as object
use Rattle.reg_terms.specs.declared.refusal.Refusal.{Refusal}
use Rattle.reg_terms.specs.declared.refusal.Refusal.TheVariants.{NotFound, WrongKind}
use Rattle.reg_terms.specs.declared.rows.CompositeRow.{CompositeRow}
use Rattle.reg_terms.specs.declared.rows.GroupRow.{GroupRow}
use Rattle.reg_terms.specs.declared.rows.MemberRow.{MemberRow}
use Rattle.reg_terms.specs.declared.rows.SubjectRow.{SubjectRow}
use Rattle.reg_terms.specs.declared.changes_shown.SpanShown.{SpanShown}
use Rattle.reg_terms.specs.declared.admin_shown.ConsumerShown.{ConsumerShown}
use Rattle.reg_terms.specs.declared.shown.GrantShown.{GrantShown}
use Rattle.reg_terms.specs.declared.shown.RowShown.{RowShown}
use Rattle.reg_terms.specs.declared.query.Query.{Query}
use Rattle.reg_terms.specs.declared.query.Query.TheVariants as query
use Rattle.reg_terms.specs.declared.query.Answer.{Answer}
use Rattle.reg_terms.specs.declared.query.Answer.TheVariants as answer
use Rattle.reg_facts.specs.Children.{is_among}
use Rattle.reg_facts.specs.Lists.{Lists}
use Rattle.reg_facts.specs.Members.{texts_where}
use Rattle.reg_facts.specs.Naming.{name_of}
use Rattle.reg_facts.specs.RowOrder.{row_order, rows_of}
use Rattle.reg_effect.specs.declared.live.Live.{Live}
use Rattle.reg_priv.specs.declared.who.Who.{Who}
use Rattle.reg_priv.specs.Grants.{Grant, grants}
use Rattle.reg_priv.specs.Holders.{holders}
use Rattle.reg_priv.specs.May.{allows, granted, holds, is_root, visible}
use Rattle.reg_view.specs.Knowing.{AllPass, AreFactorsKnown, IsKnown, IsKnownBy, IsKnownTo, is_factor_read, is_holder_told, is_member_read, is_person_text, is_seen_name}
use Rattle.reg_view.specs.Past.{Past, GroupPast, group_past, history_of, last_where, span_shown}
use Rattle.reg_view.specs.Show as shown
use Rattle.reg_view.specs.Show.{◌>>=◌, found_or, named, Kind, Meant, AFolder, AGroup, ADefinition, AnAttribute, Named, ASubject, Internal}
use Rattle.reg_view.specs.Texts.{factors_shown, grant_shown, holder_text, member_text, row_shown}
use Rattle.reg_view.specs.View.{View, Administered, GroupGone, GroupRead, GroupSeen, OwnerRead, Powers, administered, blank, caller_of, for_root, group_gone, group_read, group_seen, is_admin, is_readable, objects, seen_by, view_of}
use Rattle.reg_view.proofs.InOrder.{order_all}
use Rattle.reg_view.proofs.Same.{bytes_self}

-- ---- what holds of each

each : {A : Type 0} (P Q : A → Type 0) → ((x : A) → P x → Q x) → (xs : List A) → AllByRecursion P xs → AllByRecursion Q xs
each P Q goes [] a = tt
each P Q goes (x ∷ xs) a = (goes x a.0, each P Q goes xs a.1)

of_all : {A : Type 0} (P : A → Type 0) → ((x : A) → P x) → (xs : List A) → AllByRecursion P xs
of_all P goes [] = tt
of_all P goes (x ∷ xs) = (goes x, of_all P goes xs)

-- what passes a test is one that does, of all of these
abbrev IsOneOf : {A : Type 0} → List A → A → Type 0
IsOneOf {A} xs x = (test : A → Bool) → test x ≡ true → list_any test xs ≡ true

one_of : {A : Type 0} (xs : List A) → AllByRecursion (IsOneOf xs) xs
one_of [] = tt
one_of {A} (x ∷ xs) = ((λ (test : A → Bool) h. or_left (test x) (list_any test xs) h), each (IsOneOf xs) (IsOneOf (x ∷ xs)) (λ (y : A) (h : IsOneOf xs y) (test : A → Bool) is. or_right (test x) (list_any test xs) (h test is)) xs (one_of xs))

of_map : {A B : Type 0} (P : B → Type 0) (f : A → B) (xs : List A) → AllByRecursion (λ x. P (f x)) xs → AllByRecursion P (map f xs)
of_map P f [] a = tt
of_map P f (x ∷ xs) a = (a.0, of_map P f xs a.1)

of_filter : {A : Type 0} (P : A → Type 0) (test : A → Bool) (xs : List A) → AllByRecursion (λ x. test x ≡ true → P x) xs → AllByRecursion P (filter test xs)
of_filter P test [] a = tt
of_filter P test (x ∷ xs) a = elim (cases_Bool (test x)) [
  | inl t ↦ rw t (a.0 t, of_filter P test xs a.1)
  | inr t ↦ rw t (of_filter P test xs a.1)
]

-- of those that pass a test, as they are shown
of_shown : {R A : Type 0} (P : A → Type 0) (test : R → Bool) (show : R → A) (rows : List R) → AllByRecursion (λ r. test r ≡ true → P (show r)) rows → AllByRecursion P (map show (filter test rows))
of_shown P test show rows a = of_map P show (filter test rows) (of_filter (λ r. P (show r)) test rows a)

of_both : {A : Type 0} (P : A → Type 0) (xs ys : List A) → AllByRecursion P xs → AllByRecursion P ys → AllByRecursion P (xs ++ ys)
of_both P [] ys a b = b
of_both P (x ∷ xs) ys a b = (a.0, of_both P xs ys a.1 b)

-- if one passes a test then one passes another
any_else : {A : Type 0} (test other : A → Bool) → ((x : A) → test x ≡ true → other x ≡ true) → (xs : List A) → list_any test xs ≡ true → list_any other xs ≡ true
any_else test other goes [] h = h
any_else test other goes (x ∷ xs) h = elim (cases_Bool (test x)) [
  | inl t ↦ or_left (other x) (list_any other xs) (goes x t)
  | inr t ↦ or_right (other x) (list_any other xs) (any_else test other goes xs (rw t at h))
]

-- ---- what is found

next : {A B : Type 0} (Q : A → Type 0) (P : B → Type 0) (r : Result A Refusal) (k : A → Result B Refusal) → IfOk r Q → ((a : A) → Q a → IfOk (k a) P) → IfOk (r >>= k) P
next Q P (Ok a) k h goes = goes a h
next Q P (Err e) k h goes = tt

-- what is found is one of these
found : {A : Type 0} (Q : A → Type 0) (test : A → Bool) (xs : List A) (e : Refusal) → AllByRecursion Q xs → IfOk (found_or (find test xs) e) Q
found Q test [] e a = tt
found Q test (x ∷ xs) e a = elim (cases_Bool (test x)) [
  | inl t ↦ rw t a.0
  | inr t ↦ rw t (found Q test xs e a.1)
]

-- whatever is found
any_found : {A : Type 0} (r : Result A Refusal) → IfOk r (λ _. ⊤)
any_found (Ok a) = tt
any_found (Err e) = tt

-- ---- who may read sees

gives_view : (p : Privilege) → gives p privilege.Read ≡ true → gives p privilege.View ≡ true
gives_view privilege.Admin h = refl
gives_view privilege.Read h = refl
gives_view _ h = cc

-- the parts of two tests
module _ (L : Live) (c : Who) where
  allows_view : (g : Grant) → allows L c privilege.Read g ≡ true → allows L c privilege.View g ≡ true
  allows_view g h = elim (cases_Bool (gives g.0 privilege.Read)) [
    | inl t ↦ and_from (gives g.0 privilege.View) (holds L c g.1) (gives_view g.0 t) (rw t at h)
    | inr t ↦ absurd (let clash : false ≡ true = rw t at h in let no : ⊥ = cc in no)
  ]

  pub reads_sees : (f : Lists) (g : ℕ) → is_readable L f c (object.Group g) ≡ true → visible L f c (object.Group g) ≡ true
  reads_sees f g h = elim (cases_Bool (is_root L f c)) [
    | inl t ↦ or_left (is_root L f c) (granted L f c (object.Group g) privilege.View) t
    | inr t ↦ or_right (is_root L f c) (granted L f c (object.Group g) privilege.View)
        (any_else (allows L c privilege.Read) (allows L c privilege.View) allows_view (grants (object.Group g) f) (rw t at h))
  ]

-- ---- what the view holds

module _ (p : Past) (L : Live) (f : Lists) (c : Who) (at : ℕ) where
  -- persons alone, in a group's past
  record IsPastKnown (g : GroupPast) : Type 0 where
    members : AllPass (is_person_text f) g.members
    history : AllPass (λ (span : SpanShown). is_person_text f span.subject) g.history

  record IsReadKnown (g : GroupRead) : Type 0 where
    seen : is_seen_name L f c g.name ≡ true
    composite : AreFactorsKnown L f c g.composite
    rows : AllPass (λ (row : RowShown). is_member_read L f c row.member) g.rows
    past : IsPastKnown g.past

  abbrev AreHoldersTold : List GrantShown → Type 0
  AreHoldersTold grants = AllPass (λ (grant : GrantShown). is_holder_told p L f c at grant.holder) grants

  -- the caller may know of what a view holds
  record IsViewKnown (v : View) : Type 0 where
    groups : AllByRecursion (λ (g : GroupSeen). is_seen_name L f c g.name ≡ true) v.groups
    readable : AllByRecursion IsReadKnown v.readable
    administered : AllByRecursion (λ (a : Administered). AreHoldersTold a.grants) v.administered
    gone : AllByRecursion (λ (g : GroupGone). IsPastKnown g.past) v.gone
    consumers : AllByRecursion (λ (x : ConsumerShown). is_root L f c ≡ true) v.consumers
    root : v.is_root ≡ true → is_root L f c ≡ true

  -- ---- what is shown of such a view

  module _ (v : View) (k : IsViewKnown v) where
    abbrev Told : Result Answer Refusal → Type 0
    Told r = IfOk r (IsKnown p L f c at)

    group_known : (group : List ℕ) → Told (shown.shown_group v group)
    group_known group = next (λ (g : GroupSeen). is_seen_name L f c g.name ≡ true) (IsKnown p L f c at) (shown.seen v group) _ (found _ _ v.groups _ k.groups) (λ g h. h)

    read_known : (group : List ℕ) → IfOk (shown.read v group) IsReadKnown
    read_known group = found IsReadKnown _ v.readable _ k.readable

    -- ---- the past

    last_known : (test : GroupGone → Bool) (gone : List GroupGone) (e : Refusal) → AllByRecursion (λ (g : GroupGone). IsPastKnown g.past) gone
        → IfOk (found_or (option_map (λ (g : GroupGone). g.past) (last_where test gone)) e) IsPastKnown
    last_known test [] e a = tt
    last_known test (g ∷ gone) e a = go (last_where test gone) (test g) (last_known test gone e a.1)
      where
        go : (later : Option GroupGone) (here : Bool) → IfOk (found_or (option_map (λ (g : GroupGone). g.past) later) e) IsPastKnown
            → IfOk (found_or (option_map (λ (g : GroupGone). g.past) (elim later [ Some y ↦ Some y | None ↦ if here then Some g else None ])) e) IsPastKnown
        go (Some y) here h = h
        go None true h = a.0
        go None false h = tt

    past_known : (group : List ℕ) (s : Option GroupSeen) → IfOk (shown.past_told v group s) IsPastKnown
    past_known group (Some s) = next IsReadKnown IsPastKnown (shown.read v group) _ (read_known group) (λ g h. h.past)
    past_known group None = last_known _ v.gone _ k.gone

    members_known : (group : List ℕ) (t : Option ℕ) → Told (shown.shown_members v group t)
    members_known group t =
        next IsPastKnown (IsKnown p L f c at) (shown.past_of v group) _ (past_known group (shown.group_named v group)) (λ g h.
        next (λ (u : ⊤). ⊤) (IsKnown p L f c at) (shown.in_time v.now t) _ (any_found (shown.in_time v.now t)) (λ u _. h.members))

    history_known : (group : List ℕ) → Told (shown.shown_history v group)
    history_known group = next IsPastKnown (IsKnown p L f c at) (shown.past_of v group) _ (past_known group (shown.group_named v group)) (λ g h. h.history)

    -- ---- groups and folders

    rows_known : (group : List ℕ) → Told (shown.shown_rows v group)
    rows_known group =
        next (λ (g : GroupSeen). ⊤) (IsKnown p L f c at) (shown.seen v group) _ (any_found (shown.seen v group)) (λ s _.
        next IsReadKnown (IsKnown p L f c at) (shown.read v group) _ (read_known group) (λ g h. (h.composite, h.rows)))

    inside_known : (P : List ℕ → Type 0) (folder : List ℕ) (names : List (List ℕ)) → AllByRecursion P names → AllByRecursion P (shown.inside folder names)
    inside_known P folder names a = order_all P _ [] _ tt (of_filter P _ names (each P (λ n. _ → P n) (λ n h _. h) names a))

    listing_known : (folder : List ℕ) → Told (shown.shown_listing v folder)
    listing_known folder =
        next (λ (d : List ℕ). ⊤) (IsKnown p L f c at) (found_or (shown.folder_named v folder) (NotFound folder)) _ (any_found (found_or (shown.folder_named v folder) (NotFound folder))) (λ d _.
        inside_known (λ n. is_seen_name L f c n ≡ true) d (map (λ (g : GroupSeen). g.name) v.groups) (of_map (λ n. is_seen_name L f c n ≡ true) (λ (g : GroupSeen). g.name) v.groups k.groups))

    with_known : (e : Entity) → Told (shown.groups_with v e)
    with_known (entity.Person text) =
        of_shown (λ n. is_seen_name L f c n ≡ true) (λ (g : GroupRead). is_among text g.past.members) (λ (g : GroupRead). g.name) v.readable
        (each IsReadKnown (λ (g : GroupRead). is_among text g.past.members ≡ true → is_seen_name L f c g.name ≡ true) (λ g h _. h.seen) v.readable k.readable)
    with_known (entity.Group name) = tt
    with_known entity.System = tt
    with_known entity.Everyone = tt

    groups_known : (e : Entity) (t : Option ℕ) → Told (shown.shown_groups v e t)
    groups_known e t =
        next (λ (x : Entity). ⊤) (IsKnown p L f c at) (shown.entity_seen v e) _ (any_found (shown.entity_seen v e)) (λ x _.
        next (λ (u : ⊤). ⊤) (IsKnown p L f c at) (shown.in_time v.now t) _ (any_found (shown.in_time v.now t)) (λ u _. with_known x))

    -- ---- grants and privileges

    timed_known : (t : Option ℕ) (told : Result Answer Refusal) → Told told → Told (shown.timed v t told)
    timed_known t told h = next (λ (u : ⊤). ⊤) (IsKnown p L f c at) (shown.in_time v.now t) (λ _. told) (any_found (shown.in_time v.now t)) (λ u _. h)

    root_known : (b : Bool) (told : Result Answer Refusal) → (b ≡ true → Told told) → Told (if b then told else Err shown.root_denied)
    root_known true told h = h refl
    root_known false told h = tt

    kind_known : (a : Administered) (kind : Kind) → AreHoldersTold a.grants → Told (shown.grants_told a kind)
    kind_known a AFolder h = h
    kind_known a AGroup h = h
    kind_known a ADefinition h = h
    kind_known a (AnAttribute d) h = tt

    on_known : (t : Option ℕ) (o : Meant) → Told (shown.grants_on v t o)
    on_known t (Named name kind) = next (λ (a : Administered). AreHoldersTold a.grants) (IsKnown p L f c at) (shown.as_admin v name kind) (λ a. shown.timed v t (shown.grants_told a kind)) (found (λ (a : Administered). AreHoldersTold a.grants) _ v.administered _ k.administered) (λ a h. timed_known t (shown.grants_told a kind) (kind_known a kind h))
    on_known t (ASubject text) = root_known v.is_root (shown.timed v t (Err (WrongKind (codes "object")))) (λ _. timed_known t (Err (WrongKind (codes "object"))) tt)
    on_known t Internal = timed_known t (Err (WrongKind (codes "object"))) tt

    grants_known : (text : List ℕ) (t : Option ℕ) → Told (shown.shown_grants v text t)
    grants_known text t = next (λ (o : Meant). ⊤) (IsKnown p L f c at) (shown.object_seen v text) (shown.grants_on v t) (any_found (shown.object_seen v text)) (λ o _. on_known t o)

    powers_known : (a : Administered) (e : Entity) → Told (shown.powers_for a e)
    powers_known a (entity.Person text) = next (λ (x : Powers). ⊤) (IsKnown p L f c at) (found_or (named (λ (x : Powers). x.name) a.persons text) (NotFound text)) _ (any_found (found_or (named (λ (x : Powers). x.name) a.persons text) (NotFound text))) (λ x _. tt)
    powers_known a (entity.Group name) = tt
    powers_known a entity.System = tt
    powers_known a entity.Everyone = tt

    nothing_known : (e : Entity) → Told (shown.nothing_for e)
    nothing_known (entity.Person text) = tt
    nothing_known (entity.Group name) = tt
    nothing_known entity.System = tt
    nothing_known entity.Everyone = tt

    own_known : (t : Option ℕ) (o : Meant) → Told (shown.own_told v t o)
    own_known t (Named name kind) = next (λ (x : Powers). ⊤) (IsKnown p L f c at) (found_or (named (λ (x : Powers). x.name) v.own name) (NotFound name)) (λ (x : Powers). shown.timed v t (Ok (answer.May x.privileges))) (any_found (found_or (named (λ (x : Powers). x.name) v.own name) (NotFound name))) (λ x _. timed_known t (Ok (answer.May x.privileges)) tt)
    own_known t (ASubject text) = timed_known t (Ok (answer.May [])) tt
    own_known t Internal = timed_known t (Err (WrongKind (codes "object"))) tt

    other_known : (t : Option ℕ) (o : Meant) (e : Entity) → Told (shown.other_told v t o e)
    other_known t (Named name kind) e = next (λ (a : Administered). ⊤) (IsKnown p L f c at) (shown.as_admin v name kind) (λ a. shown.timed v t (shown.powers_for a e)) (any_found (shown.as_admin v name kind)) (λ a _. timed_known t (shown.powers_for a e) (powers_known a e))
    other_known t (ASubject text) e = root_known v.is_root (shown.timed v t (shown.nothing_for e)) (λ _. timed_known t (shown.nothing_for e) (nothing_known e))
    other_known t Internal e = timed_known t (Err (WrongKind (codes "object"))) tt

    asked_known : (b : Bool) (t : Option ℕ) (o : Meant) (e : Entity) → Told (if b then shown.own_told v t o else shown.other_told v t o e)
    asked_known true t o e = own_known t o
    asked_known false t o e = other_known t o e

    may_known : (text : List ℕ) (e : Entity) (t : Option ℕ) → Told (shown.shown_may v text e t)
    may_known text e t =
        next (λ (o : Meant). ⊤) (IsKnown p L f c at) (shown.object_seen v text) _ (any_found (shown.object_seen v text)) (λ o _.
        next (λ (x : Entity). ⊤) (IsKnown p L f c at) (shown.entity_seen v e) (λ x. if shown.is_caller v.caller x then shown.own_told v t o else shown.other_told v t o x) (any_found (shown.entity_seen v e)) (λ x _.
        asked_known (shown.is_caller v.caller x) t o x))

    -- ---- attributes

    owner_known : (t : Option ℕ) (owners : List OwnerRead) (name : List ℕ) (e : Refusal) → Told (shown.owner_told v t owners name e)
    owner_known t owners name e = next (λ (o : OwnerRead). ⊤) (IsKnown p L f c at) (found_or (named (λ (o : OwnerRead). o.name) owners name) e) (λ (o : OwnerRead). shown.timed v t (Ok (answer.Attributes o.assignments))) (any_found (found_or (named (λ (o : OwnerRead). o.name) owners name) e)) (λ o _. timed_known t (Ok (answer.Attributes o.assignments)) tt)

    by_name_known : (t : Option ℕ) (name : List ℕ) (entity : Bool) → Told (if entity then shown.timed v t (Err (WrongKind (codes "object"))) else shown.owner_told v t v.owners name (shown.denied name privilege.GroupAttrRead))
    by_name_known t name true = timed_known t (Err (WrongKind (codes "object"))) tt
    by_name_known t name false = owner_known t v.owners name (shown.denied name privilege.GroupAttrRead)

    assigned_known : (t : Option ℕ) (text : List ℕ) (o : Meant) → Told (shown.attributes_on v t text o)
    assigned_known t text (Named name AFolder) = owner_known t v.owners name (shown.denied name privilege.StemAttrRead)
    assigned_known t text (Named name AGroup) = by_name_known t name (shown.is_entity_text text)
    assigned_known t text (Named name ADefinition) = timed_known t (Err (WrongKind (codes "object"))) tt
    assigned_known t text (Named name (AnAttribute d)) = timed_known t (Err (WrongKind (codes "object"))) tt
    assigned_known t text (ASubject person) = owner_known t v.persons person (NotFound person)
    assigned_known t text Internal = timed_known t (Err (WrongKind (codes "object"))) tt

    attributes_known : (text : List ℕ) (t : Option ℕ) → Told (shown.shown_attributes v text t)
    attributes_known text t = next (λ (o : Meant). ⊤) (IsKnown p L f c at) (shown.object_seen v text) (shown.attributes_on v t text) (any_found (shown.object_seen v text)) (λ o _. assigned_known t text o)

    -- ---- what root alone is told

    log_known : (consumer : List ℕ) (max : ℕ) → Told (shown.shown_log v consumer max)
    log_known consumer max = next (λ (x : ConsumerShown). is_root L f c ≡ true) (IsKnown p L f c at) (found_or (named (λ (x : ConsumerShown). x.consumer) v.consumers consumer) (NotFound consumer)) _ (found _ _ v.consumers _ k.consumers) (λ x h. h)

    -- ---- queries

    shown_known : (q : Query) → Told (shown.shown v q)
    shown_known (query.GroupGet group) = group_known group
    shown_known (query.FolderList folder) = listing_known folder
    shown_known (query.Members group t) = members_known group t
    shown_known (query.Rows group) = rows_known group
    shown_known (query.Groups subject t) = groups_known subject t
    shown_known (query.Grants object t) = grants_known object t
    shown_known (query.May object e t) = may_known object e t
    shown_known (query.Attributes object t) = attributes_known object t
    shown_known (query.History group) = history_known group
    shown_known (query.Log consumer max) = log_known consumer max
    shown_known query.Admin = root_known v.is_root (Ok (answer.Admin v.consumers v.gone_by_id v.jobs v.rules)) k.root

  -- ---- the view of a caller

  -- the group of an id that the caller may read
  module _ (g : ℕ) (reads : is_readable L f c (object.Group g) ≡ true) where
    member_known : (row : MemberRow) → IsOneOf f.rows row → (row.group == g) ≡ true → is_member_read L f c (member_text row.member f) ≡ true
    member_known row one is =
        one (λ (r : MemberRow). is_readable L f c (object.Group r.group) && bytes_eq (member_text r.member f) (member_text row.member f))
        (and_from (is_readable L f c (object.Group row.group)) _ (subst (λ n. is_readable L f c (object.Group n) ≡ true) (sym (eqb-true row.group g is)) reads) (bytes_self (member_text row.member f)))

    rows_read : AllPass (λ (row : RowShown). is_member_read L f c row.member) (map (row_shown f) (rows_of g f.rows))
    unfolding rows_of
    rows_read = of_map (λ (row : RowShown). is_member_read L f c row.member ≡ true) (row_shown f) (rows_of g f.rows)
        (order_all (λ (row : MemberRow). is_member_read L f c (member_text row.member f) ≡ true) row_order [] (filter (λ (row : MemberRow). row.group == g) f.rows) tt
        (of_filter (λ (row : MemberRow). is_member_read L f c (member_text row.member f) ≡ true) (λ (row : MemberRow). row.group == g) f.rows
        (each (IsOneOf f.rows) (λ (row : MemberRow). (row.group == g) ≡ true → is_member_read L f c (member_text row.member f) ≡ true) member_known f.rows (one_of f.rows))))

    factor_known : (row : CompositeRow) (name : List ℕ) → IsOneOf f.composites row → (row.group == g) ≡ true
        → (bytes_eq (name_of (object.Group row.left) f) name || bytes_eq (name_of (object.Group row.right) f) name) ≡ true → is_factor_read L f c name ≡ true
    factor_known row name one is has =
        one (λ (r : CompositeRow). is_readable L f c (object.Group r.group) && (bytes_eq (name_of (object.Group r.left) f) name || bytes_eq (name_of (object.Group r.right) f) name))
        (and_from (is_readable L f c (object.Group row.group)) _ (subst (λ n. is_readable L f c (object.Group n) ≡ true) (sym (eqb-true row.group g is)) reads) has)

    factors_read : (rows : List CompositeRow) → AllByRecursion (IsOneOf f.composites) rows → AreFactorsKnown L f c (option_map (factors_shown f) (find (λ (row : CompositeRow). row.group == g) rows))
    factors_read [] a = tt
    factors_read (row ∷ rows) a = elim (cases_Bool (row.group == g)) [
      | inl t ↦ rw t (
        factor_known row (name_of (object.Group row.left) f) a.0 t (or_left _ _ (bytes_self (name_of (object.Group row.left) f))),
        factor_known row (name_of (object.Group row.right) f) a.0 t (or_right _ _ (bytes_self (name_of (object.Group row.right) f))),
      )
      | inr t ↦ rw t (factors_read rows a.1)
    ]

  person_known : (row : SubjectRow) → IsOneOf f.subjects row → is_person_text f row.text ≡ true
  person_known row one = one (λ (r : SubjectRow). bytes_eq r.text row.text) (bytes_self row.text)

  persons_known : AllByRecursion (λ (row : SubjectRow). is_person_text f row.text ≡ true) f.subjects
  persons_known = each (IsOneOf f.subjects) (λ (row : SubjectRow). is_person_text f row.text ≡ true) person_known f.subjects (one_of f.subjects)

  texts_known : (test : ℕ → Bool) (rows : List SubjectRow) → AllByRecursion (λ (row : SubjectRow). is_person_text f row.text ≡ true) rows → AllPass (is_person_text f) (texts_where test rows)
  texts_known test [] a = tt
  texts_known test (row ∷ rows) a = elim (cases_Bool (test row.id)) [
    | inl t ↦ rw t (a.0, texts_known test rows a.1)
    | inr t ↦ rw t (texts_known test rows a.1)
  ]

  spans_known : (g : ℕ) (rows : List SubjectRow) → AllByRecursion (λ (row : SubjectRow). is_person_text f row.text ≡ true) rows → AllPass (λ (span : SpanShown). is_person_text f span.subject) (history_of p g rows)
  spans_known g [] a = tt
  spans_known g (row ∷ rows) a =
      of_both (λ (span : SpanShown). is_person_text f span.subject ≡ true) (map (span_shown row.text) (p.spans g row.id)) (history_of p g rows)
      (of_map (λ (span : SpanShown). is_person_text f span.subject ≡ true) (span_shown row.text) (p.spans g row.id) (of_all _ (λ _. a.0) (p.spans g row.id)))
      (spans_known g rows a.1)

  past_is_known : (g : ℕ) → IsPastKnown (group_past p f at g)
  past_is_known g = record { members = texts_known (p.was at g) f.subjects persons_known; history = spans_known g f.subjects persons_known }

  name_known : (row : GroupRow) → IsOneOf f.groups row → visible L f c (object.Group row.id) ≡ true → is_seen_name L f c (name_of (object.Group row.id) f) ≡ true
  name_known row one sees =
      one (λ (r : GroupRow). visible L f c (object.Group r.id) && bytes_eq (name_of (object.Group r.id) f) (name_of (object.Group row.id) f))
      (and_from (visible L f c (object.Group row.id)) _ sees (bytes_self (name_of (object.Group row.id) f)))

  read_is_known : (row : GroupRow) → IsOneOf f.groups row → is_readable L f c (object.Group row.id) ≡ true → IsReadKnown (group_read p f at row)
  read_is_known row one reads = record {
    seen = name_known row one (reads_sees L c f row.id reads);
    composite = factors_read row.id reads f.composites (one_of f.composites);
    rows = rows_read row.id reads;
    past = past_is_known row.id;
  }

  holder_known : (o : Object) → IsOneOf (objects f) o → is_admin L f c o ≡ true → (g : Grant) → IsOneOf (holders o (p.facts at)) g → is_holder_told p L f c at (holder_text p f g.1) ≡ true
  holder_known o one admin g is =
      one (λ (x : Object). is_admin L f c x && is_among (holder_text p f g.1) (map (λ (y : Grant). holder_text p f y.1) (holders x (p.facts at))))
      (and_from (is_admin L f c o) _ admin (among (holders o (p.facts at)) is))
    where
      through : (test : List ℕ → Bool) (gs : List Grant) → list_any (λ (y : Grant). test (holder_text p f y.1)) gs ≡ true → list_any test (map (λ (y : Grant). holder_text p f y.1) gs) ≡ true
      through test [] h = h
      through test (y ∷ gs) h = elim (cases_Bool (test (holder_text p f y.1))) [
        | inl t ↦ or_left (test (holder_text p f y.1)) _ t
        | inr t ↦ or_right (test (holder_text p f y.1)) _ (through test gs (rw t at h))
      ]

      among : (gs : List Grant) → IsOneOf gs g → is_among (holder_text p f g.1) (map (λ (y : Grant). holder_text p f y.1) gs) ≡ true
      among gs is = through (λ t. bytes_eq t (holder_text p f g.1)) gs (is (λ (y : Grant). bytes_eq (holder_text p f y.1) (holder_text p f g.1)) (bytes_self (holder_text p f g.1)))

  holders_known : (o : Object) → IsOneOf (objects f) o → is_admin L f c o ≡ true → AreHoldersTold (administered p f at o).grants
  holders_known o one admin = of_map (λ (grant : GrantShown). is_holder_told p L f c at grant.holder ≡ true) (grant_shown p f) (holders o (p.facts at))
      (each (IsOneOf (holders o (p.facts at))) (λ (g : Grant). is_holder_told p L f c at (holder_text p f g.1) ≡ true) (holder_known o one admin) (holders o (p.facts at)) (one_of (holders o (p.facts at))))

  for_root_known : {A : Type 0} (P : A → Type 0) (b : Bool) (xs : List A) → (b ≡ true → AllByRecursion P xs) → AllByRecursion P (for_root b xs)
  for_root_known P true xs h = h refl
  for_root_known P false xs h = tt

  view_known : (now : ℕ) (by : List ℕ) → IsViewKnown (seen_by p L f now at by c)
  view_known now by = record {
    groups = of_shown (λ (g : GroupSeen). is_seen_name L f c g.name ≡ true) (λ (row : GroupRow). visible L f c (object.Group row.id)) (group_seen f) f.groups
        (each (IsOneOf f.groups) (λ (row : GroupRow). visible L f c (object.Group row.id) ≡ true → is_seen_name L f c (name_of (object.Group row.id) f) ≡ true) name_known f.groups (one_of f.groups));
    readable = of_shown IsReadKnown (λ (row : GroupRow). is_readable L f c (object.Group row.id)) (group_read p f at) f.groups
        (each (IsOneOf f.groups) (λ (row : GroupRow). is_readable L f c (object.Group row.id) ≡ true → IsReadKnown (group_read p f at row)) read_is_known f.groups (one_of f.groups));
    administered = of_shown (λ (a : Administered). AreHoldersTold a.grants) (is_admin L f c) (administered p f at) (objects f)
        (each (IsOneOf (objects f)) (λ (o : Object). is_admin L f c o ≡ true → AreHoldersTold (administered p f at o).grants) holders_known (objects f) (one_of (objects f)));
    gone = for_root_known (λ (g : GroupGone). IsPastKnown g.past) (is_root L f c) (map (group_gone p f at) p.gone)
        (λ _. of_map (λ (g : GroupGone). IsPastKnown g.past) (group_gone p f at) p.gone (of_all _ (λ (g : ℕ × List ℕ). past_is_known g.0) p.gone));
    consumers = for_root_known (λ (x : ConsumerShown). is_root L f c ≡ true) (is_root L f c) _ (λ h. of_all (λ (x : ConsumerShown). is_root L f c ≡ true) (λ x. h) _);
    root = λ h. h;
  }

-- whatever is asked
pub show_known : (p : Past) (L : Live) (f : Lists) (now at : ℕ) (by : List ℕ) (q : Query) → IfOk (shown.show (view_of p L f now at by) q) (IsKnownTo p L f at by)
show_known p L f now at by q = go (caller_of by f)
  where
    go : (who : Option Who) → IfOk (shown.show (elim who [ None ↦ blank now by | Some c ↦ seen_by p L f now at by c ]) q) (IsKnownBy p L f who at)
    go None = tt
    go (Some c) = shown_known p L f c at (seen_by p L f now at by c) (view_known p L f c at now by) q
