-- Who was a member of a group is told now by the intervals as it was told then.
use Rattle.std.proofs.Common.{◌≡◌, ◌≤◌, ◌<◌, ◌==◌, ◌++◌, ◌∷◌, [], List, ℕ, Bool, true, false, Option, None, Some, Result, Ok, Err, refl, ap, sym, ◌∙◌, subst, arith, map, codes}
use Rattle.std.specs.Prelude.{nat_lt, if◌then◌else◌}
use Rattle.std.specs.List.{AllByRecursion}
use Rattle.std.proofs.lemmas.Bool.Decides.{nat_tests}
use Rattle.reg_base.specs.Entities.{entity_of}
use Rattle.reg_base.specs.declared.entity.Entity.{Entity}
use Rattle.reg_base.specs.declared.entity.Entity.TheVariants as entity
use Rattle.reg_base.specs.declared.privilege.Privilege.TheVariants as privilege
use Rattle.reg_terms.specs.declared.command.Stamped.{Stamped}
use Rattle.reg_terms.specs.declared.kinds.Object.TheVariants as object
use Rattle.reg_terms.specs.declared.query.Answer.{Answer}
use Rattle.reg_terms.specs.declared.query.Answer.TheVariants as answer
use Rattle.reg_terms.specs.declared.query.Query.{Query}
use Rattle.reg_terms.specs.declared.query.Query.TheVariants as query
use Rattle.reg_terms.specs.declared.refusal.Refusal.{Refusal}
use Rattle.reg_terms.specs.declared.refusal.Refusal.TheVariants.{Future, NotFound}
use Rattle.reg_terms.specs.declared.rows.SubjectRow.{SubjectRow}
use Rattle.reg_facts.specs.Lists.{Lists}
use Rattle.reg_facts.specs.Members.{texts_where}
use Rattle.reg_facts.specs.Naming.{group_id}
use Rattle.reg_facts.specs.Sound.{AscendFrom, has_subject}
use Rattle.reg_effect.specs.declared.live.Live.{Live}
use Rattle.reg_effect.specs.Member.{member}
use Rattle.reg_priv.specs.declared.who.Who.TheVariants.{System}
use Rattle.reg_priv.specs.May.{visible, who_of}
use Rattle.reg_current.specs.Live.{live}
use Rattle.reg_machine.specs.History.{State, facts, up_to}
use Rattle.reg_machine.specs.Past.{was_member}
use Rattle.reg_view.specs.Answers.{answer_of, group_past, members_at, past_group}
use Rattle.reg_view.specs.Past.{Past, gone_id, past_at}
use Rattle.reg_view.specs.Show.{◌>>=◌, denied, found_or, in_time}
use Rattle.reg_view.specs.View.{caller_of, is_readable}
use Rattle.reg_asof.specs.Then.{state_at}
use Rattle.reg_asof.specs.Lawful.{IsLawful}
use Rattle.reg_asof.specs.Joined.{IsEarlier, MembersAgree, root_told}
use Rattle.reg_asof.proofs.Growing.{Grows, facts_then, persons_grow}

-- ---- root

abbrev pub root : List ℕ
root = codes "g:isa/GrouperSystem"

root_text : entity_of root ≡ Some entity.System
unfolding entity_of
root_text = refl

pub root_calls : (f : Lists) → caller_of root f ≡ Some System
root_calls f = ap (λ (e : Option Entity). elim e [ None ↦ None | Some x ↦ who_of x f ]) root_text

-- a moment that has come
pub in_time_so : {A : Type 0} (n t : ℕ) (X : Result A Refusal) → t ≤ n → (in_time n (Some t) >>= (λ _. X)) ≡ X
in_time_so n t X by =
    let come : nat_lt n t ≡ false = grind (arith, nat_tests) in
    ap (λ b. (if b then Err (Future t n) else Ok tt) >>= (λ _. X)) come

-- root finds the group of this name, or one that is gone
module _ (p : Past) (L : Live) (f : Lists) (name : List ℕ) (g : ℕ) where
  abbrev read_as : Option ℕ → Result ℕ Refusal
  read_as o =
      (elim o [ None ↦ Err (NotFound name) | Some id ↦ if visible L f System (object.Group id) then Ok id else Err (NotFound name) ])
      >>= (λ id. if is_readable L f System (object.Group id) then Ok id else Err (denied name privilege.Read))

  by_name : (o : Option ℕ) → group_id name f ≡ o → (elim o [ None ↦ gone_id p name | Some x ↦ Some x ]) ≡ Some g → past_group p L f System name o ≡ Ok g
  by_name None at means = ap (λ (o : Option ℕ). found_or o (NotFound name)) means
  by_name (Some x) at means = let same : x ≡ g = cc in ap read_as at ∙ ap (λ (y : ℕ). Ok y) same

  pub root_finds : (elim (group_id name f) [ None ↦ gone_id p name | Some x ↦ Some x ]) ≡ Some g → group_past p L f System name ≡ Ok g
  root_finds means = by_name (group_id name f) refl means

-- ---- persons that came later

pub all_go : {R : Type 0} (P Q : R → Type 0) → ((r : R) → P r → Q r) → (rows : List R) → AllByRecursion P rows → AllByRecursion Q rows
all_go P Q go [] all = tt
all_go P Q go (r ∷ rows) all = (go r all.0, all_go P Q go rows all.1)

all_join : {R : Type 0} (P Q S : R → Type 0) → ((r : R) → P r → Q r → S r) → (rows : List R) → AllByRecursion P rows → AllByRecursion Q rows → AllByRecursion S rows
all_join P Q S join [] ps qs = tt
all_join P Q S join (r ∷ rows) ps qs = (join r ps.0 qs.0, all_join P Q S join rows ps.1 qs.1)

all_back : {R : Type 0} (P : R → Type 0) (front back : List R) → AllByRecursion P (front ++ back) → AllByRecursion P back
all_back P [] back all = all
all_back P (r ∷ front) back all = all_back P front back all.1

abbrev ids : List SubjectRow → List ℕ
ids rows = map (λ (r : SubjectRow). r.id) rows

all_above : (floor top : ℕ) (rows : List SubjectRow) → AscendFrom floor top (ids rows) → AllByRecursion (λ (r : SubjectRow). floor < r.id) rows
all_above floor top [] a = tt
all_above floor top (r ∷ rows) a = (a.0, all_go (λ (x : SubjectRow). r.id < x.id) (λ (x : SubjectRow). floor < x.id) (λ x h. omega (arith, a.0, h)) rows (all_above r.id top rows a.1))

none_in_none : (rows : List SubjectRow) → AllByRecursion (λ (r : SubjectRow). has_subject r.id [] ≡ false) rows
none_in_none [] = tt
none_in_none (r ∷ rows) = (refl, none_in_none rows)

no_other : (x : SubjectRow) (front : List SubjectRow) (r : SubjectRow) → has_subject r.id front ≡ false → x.id < r.id → has_subject r.id (x ∷ front) ≡ false
no_other x front r none above =
    let differ : (x.id == r.id) ≡ false = grind (arith, nat_tests) in
    rw differ none

later_apart : (floor top : ℕ) (front back : List SubjectRow) → AscendFrom floor top (ids (front ++ back)) → AllByRecursion (λ (r : SubjectRow). has_subject r.id front ≡ false) back
later_apart floor top [] back a = none_in_none back
later_apart floor top (x ∷ front) back a =
    all_join (λ (r : SubjectRow). has_subject r.id front ≡ false) (λ (r : SubjectRow). x.id < r.id) (λ (r : SubjectRow). has_subject r.id (x ∷ front) ≡ false) (no_other x front) back
    (later_apart x.id top front back a.1)
    (all_back (λ (r : SubjectRow). x.id < r.id) front back (all_above x.id top (front ++ back) a.1))

texts_none : (test : ℕ → Bool) (rows : List SubjectRow) → AllByRecursion (λ (r : SubjectRow). test r.id ≡ false) rows → texts_where test rows ≡ []
texts_none test [] none = refl
texts_none test (r ∷ rows) none = rw none.0 (texts_none test rows none.1)

texts_front : (test : ℕ → Bool) (front back : List SubjectRow) → AllByRecursion (λ (r : SubjectRow). test r.id ≡ false) back → texts_where test (front ++ back) ≡ texts_where test front
texts_front test [] back none = texts_none test back none
texts_front test (r ∷ front) back none = ap (λ (rest : List (List ℕ)). if test r.id then r.text ∷ rest else rest) (texts_front test front back none)

fails : (test : Bool) (has : Bool) → (test ≡ true → has ≡ true) → has ≡ false → test ≡ false
fails true has goes none = sym (goes refl) ∙ none
fails false has goes none = refl

-- those that pass a test that only earlier ones pass
texts_grown : (test : ℕ → Bool) (made : ℕ) (old new : List SubjectRow) → Grows old new → AscendFrom 0 made (ids new) → ((s : ℕ) → test s ≡ true → has_subject s old ≡ true) → texts_where test new ≡ texts_where test old
texts_grown test made old new grows ascend knows =
    ap (texts_where test) grows.1
    ∙ texts_front test old grows.0
    (all_go (λ (r : SubjectRow). has_subject r.id old ≡ false) (λ (r : SubjectRow). test r.id ≡ false) (λ r none. fails (test r.id) (has_subject r.id old) (knows r.id) none) grows.0
    (later_apart 0 made old grows.0 (subst (λ (rows : List SubjectRow). AscendFrom 0 made (ids rows)) grows.1 ascend)))

-- ---- both registries

module _ (h : List Stamped) (n t : ℕ) (by : t ≤ n) (was : IsLawful (state_at h t)) (now : IsLawful (record { history = h; clock = n })) where
  abbrev F : Lists
  F = facts (up_to t h) t

  abbrev f : Lists
  f = facts h n

  abbrev P : Past
  P = past_at (state_at h t)

  abbrev p : Past
  p = past_at (record { history = h; clock = n })

  abbrev told_now : Query → Result Answer Refusal
  told_now q = answer_of p (live n f) f n root System q

  abbrev told_then : Query → Result Answer Refusal
  told_then q = answer_of P (live t F) F t root System q

  pub now_is : (q : Query) → root_told (record { history = h; clock = n }) q ≡ told_now q
  now_is q = now.answers root System q (root_calls f)

  pub then_is : (q : Query) → root_told (state_at h t) q ≡ told_then q
  then_is q = was.answers root System q (root_calls F)

  -- persons of then are persons now
  pub persons : Grows F.subjects f.subjects
  persons = subst (λ (k : Lists). Grows k.subjects f.subjects) (sym (facts_then t h)) (persons_grow h t n by now.rises)

  -- memberships at the moment, by both
  pub member_then : (g s : ℕ) → was_member h t g s ≡ member (live t F) g s
  member_then g s = ap (λ (k : Lists). member (live t k) g s) (sym (facts_then t h))

  member_texts : (g : ℕ) → texts_where (was_member h t g) f.subjects ≡ texts_where (member (live t F) g) F.subjects
  member_texts g =
      ap (λ (k : Lists). texts_where (member (live t k) g) f.subjects) (sym (facts_then t h))
      ∙ texts_grown (member (live t F) g) f.made.subjects F.subjects f.subjects persons now.sound.subjects (λ s h. was.known t g s (omega arith) h)

  pub members_agree : MembersAgree (state_at h t) (record { history = h; clock = n })
  members_agree g name then_name means names =
      now_is (query.Members name (Some t))
      ∙ ap (λ (found : Result ℕ Refusal). found >>= (λ id. members_at p (live n f) f n id (Some t))) (root_finds p (live n f) f name g means)
      ∙ in_time_so n t (Ok (answer.Members (texts_where (was_member h t g) f.subjects))) by
      ∙ ap (λ texts. Ok (answer.Members texts)) (member_texts g)
      ∙ sym (then_is (query.Members then_name None)
      ∙ ap (λ (found : Result ℕ Refusal). found >>= (λ id. members_at P (live t F) F t id None)) (root_finds P (live t F) F then_name g (ap (λ (o : Option ℕ). elim o [ None ↦ gone_id P then_name | Some x ↦ Some x ]) names)))

pub members : (was now : State) → IsEarlier was now → IsLawful was → IsLawful now → MembersAgree was now
members was now earlier lawful_was lawful_now =
    subst (λ (s : State). MembersAgree s now) (sym earlier.as_then)
    (members_agree now.history now.clock was.clock earlier.later (subst IsLawful earlier.as_then lawful_was) lawful_now)
