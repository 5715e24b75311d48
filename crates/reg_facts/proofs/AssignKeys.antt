-- Keys of assignments by the tables that hold them, and in words; and the assignments that they stand for.
use Rattle.std.proofs.Common.{◌≡◌, ◌==◌, ◌∙◌, ◌||◌, ℕ, List, [], ◌∷◌, Bool, true, false, not, inl, inr, refl, ap, map, filter}
use Rattle.std.specs.Prelude.{◌&&◌}
use Rattle.std.specs.List.{AllByRecursion, list_any}
use Rattle.std.specs.Ordering.{nat_cmp, ordering_then}
use Rattle.std.specs.declared.cmp.Ordering.{Ordering}
use Rattle.std.specs.declared.cmp.Ordering.TheVariants.{Less, Equal, Greater}
use Rattle.std.proofs.lemmas.Bool.{cases_Bool, eq-eqb}
use Rattle.std.proofs.lemmas.Map.Keys.{sorted_tail, sorted_head}
use Rattle.reg_table.specs.Keyed.{in_order}
use Rattle.reg_terms.specs.Kinds.{same_object}
use Rattle.reg_terms.specs.contracts.kinds.ObjectOrd.TheImpl as object_ord
use Rattle.reg_terms.specs.contracts.kinds.ObjectPartialEq.TheImpl as object_eq
use Rattle.reg_terms.specs.declared.kinds.Object.{Object}
use Rattle.reg_terms.specs.declared.kinds.Object.TheVariants.{Folder, Group, Def, Attr, Subject}
use Rattle.reg_facts.specs.Assigning.{by_pair, same_key, KeysAscend}
use Rattle.reg_facts.specs.declared.assign_index.AssignKey.{AssignKey}
use Rattle.reg_facts.specs.declared.assign_index.ByPair.{ByPair}
use Rattle.reg_facts.proofs.GrantKeys.{object_is}
use Rattle.reg_facts.proofs.Places.{same_is}
use Rattle.reg_facts.proofs.RowsById.{any_seen, filter_seen}
use Rattle.reg_facts.proofs.RulesInOrder.{Rising, rising_stays, same_number, later}

-- ---- what is derived says what the words say

-- a key in the table of owners is another's
abbrev pub is_owner_key : AssignKey → AssignKey → Bool
is_owner_key key other = object_eq.ghosts.eq other.owner key.owner && ((other.id == key.id) && (other.attribute == key.attribute))

-- and in the table of pairs
abbrev pub is_pair_key : AssignKey → ByPair → Bool
is_pair_key key pair = (object_eq.ghosts.eq pair.key.owner key.owner && (pair.key.attribute == key.attribute)) && (pair.key.id == key.id)

owner_key_is : (key other : AssignKey) → is_owner_key key other ≡ same_key key other
owner_key_is key other = rw (object_is other.owner key.owner) refl

pair_key_is : (key other : AssignKey) → is_pair_key key (by_pair other) ≡ same_key key other
pair_key_is key other = rw (object_is other.owner key.owner) (regrouped (same_object other.owner key.owner) (other.attribute == key.attribute) (other.id == key.id))
  where
    regrouped : (a b c : Bool) → ((a && b) && c) ≡ (a && (c && b))
    regrouped true true true = refl
    regrouped true true false = refl
    regrouped true false true = refl
    regrouped true false false = refl
    regrouped false b c = refl

pub key_others : (key : AssignKey) (keys : List AssignKey) → filter (λ (other : AssignKey). not (is_owner_key key other)) keys ≡ filter (λ (other : AssignKey). not (same_key key other)) keys
key_others key keys = ap (λ (test : AssignKey → Bool). filter (λ (other : AssignKey). not (test other)) keys) (λ i other. owner_key_is key other i)

pub pair_any : (key : AssignKey) (keys : List AssignKey) → list_any (is_pair_key key) (map by_pair keys) ≡ list_any (same_key key) keys
pair_any key keys = any_seen by_pair (is_pair_key key) keys ∙ ap (λ (test : AssignKey → Bool). list_any test keys) (λ i other. pair_key_is key other i)

pub pair_others : (key : AssignKey) (keys : List AssignKey) → filter (λ (pair : ByPair). not (is_pair_key key pair)) (map by_pair keys) ≡ map by_pair (filter (λ (other : AssignKey). not (same_key key other)) keys)
pair_others key keys = filter_seen by_pair (λ (pair : ByPair). not (is_pair_key key pair)) keys ∙ ap (λ (test : AssignKey → Bool). map by_pair (filter (λ (other : AssignKey). not (test other)) keys)) (λ i other. pair_key_is key other i)

pub owned_any : (o : Object) (a : ℕ) (keys : List AssignKey) → list_any (λ (pair : ByPair). object_eq.ghosts.eq pair.key.owner o && (pair.key.attribute == a)) (map by_pair keys) ≡ list_any (λ (key : AssignKey). same_object key.owner o && (key.attribute == a)) keys
owned_any o a keys =
    any_seen by_pair (λ (pair : ByPair). object_eq.ghosts.eq pair.key.owner o && (pair.key.attribute == a)) keys
    ∙ ap (λ (test : Object → Bool). list_any (λ (key : AssignKey). test key.owner && (key.attribute == a)) keys) (λ i other. object_is other o i)

-- ---- the keys of an owner are in order

-- the order of the table of owners
abbrev pub key_order : AssignKey → AssignKey → Ordering
key_order a b = ordering_then (object_ord.ghosts.cmp a.owner b.owner) (ordering_then (nat_cmp a.id b.id) (nat_cmp a.attribute b.attribute))

self_order : (o : Object) → object_ord.ghosts.cmp o o ≡ Equal
self_order (Folder a) = same_number a
self_order (Group a) = same_number a
self_order (Def a) = same_number a
self_order (Attr a) = same_number a
self_order (Subject a) = same_number a

order_later : (o : Object) (x y : AssignKey) → x.owner ≡ o → y.owner ≡ o → nat_cmp x.id y.id ≡ Less → key_order y x ≡ Greater
order_later o x y a b h = rw (a, b, self_order o, later x.id y.id h) refl

-- the keys of an owner
abbrev keys_on : Object → List AssignKey → List AssignKey
keys_on o keys = filter (λ (key : AssignKey). same_object key.owner o) keys

all_later : (o : Object) (x : AssignKey) (ys : List AssignKey) → x.owner ≡ o → AllByRecursion (λ n. nat_cmp x.id n ≡ Less) (map (λ (key : AssignKey). key.id) ys) → AllByRecursion (λ y. key_order y x ≡ Greater) (keys_on o ys)
all_later o x [] a h = tt
all_later o x (y ∷ ys) a h = elim (cases_Bool (same_object y.owner o)) [
  | inl t ↦ rw t (order_later o x y a (same_is y.owner o t) h.0, all_later o x ys a h.1)
  | inr t ↦ rw t (all_later o x ys a h.1)
]

keys_rise : (o : Object) (keys : List AssignKey) → KeysAscend keys → Rising key_order (keys_on o keys)
keys_rise o [] h = tt
keys_rise o (key ∷ keys) h =
    let rest = keys_rise o keys (sorted_tail nat_cmp key.id (map (λ (k : AssignKey). k.id) keys) h) in
    elim (cases_Bool (same_object key.owner o)) [
      | inl t ↦ rw t (all_later o key keys (same_is key.owner o t) (sorted_head nat_cmp key.id (map (λ (k : AssignKey). k.id) keys) h), rest)
      | inr t ↦ rw t rest
    ]

pub keys_by_id : (o : Object) (keys : List AssignKey) → KeysAscend keys → in_order key_order (filter (λ (key : AssignKey). object_eq.ghosts.eq key.owner o) keys) ≡ filter (λ (key : AssignKey). same_object key.owner o) keys
keys_by_id o keys h =
    ap (λ (test : Object → Bool). in_order key_order (filter (λ (key : AssignKey). test key.owner) keys)) (λ i other. object_is other o i)
    ∙ rising_stays key_order (keys_on o keys) (keys_rise o keys h)

-- the first of an owner's keys is one of them, where there is one
pub first_of : (o : Object) (keys rest : List AssignKey) (key : AssignKey) → keys_on o keys ≡ key ∷ rest → list_any (λ (other : AssignKey). (other.id == key.id) && same_object other.owner o) keys ≡ true
first_of o [] rest key h = cc
first_of o (k ∷ keys) rest key h = elim (cases_Bool (same_object k.owner o)) [
  | inl t ↦ let at : k ∷ keys_on o keys ≡ key ∷ rest = rw t at h in let is : k ≡ key = cc in rw (t, eq-eqb k.id key.id (ap (λ (x : AssignKey). x.id) is)) refl
  | inr t ↦ either (k.id == key.id) (same_object k.owner o) (list_any (λ (other : AssignKey). (other.id == key.id) && same_object other.owner o) keys) (first_of o keys rest key (rw t at h))
]
  where
    either : (a b c : Bool) → c ≡ true → ((a && b) || c) ≡ true
    either true true c h = refl
    either true false c h = h
    either false b c h = h

pub none_of : (o : Object) (keys : List AssignKey) → keys_on o keys ≡ [] → list_any (λ (key : AssignKey). same_object key.owner o) keys ≡ false
none_of o [] h = refl
none_of o (k ∷ keys) h = elim (cases_Bool (same_object k.owner o)) [
  | inl t ↦ absurd (let at : k ∷ keys_on o keys ≡ [] = rw t at h in let clash : ⊥ = cc in clash)
  | inr t ↦ rw t (none_of o keys (rw t at h))
]
