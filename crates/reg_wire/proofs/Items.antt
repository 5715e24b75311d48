-- A list is read exactly as it is written, where its items are; and items are read one after the other, as a loop does.
use Rattle.std.proofs.Common.{◌≡◌, ℕ, zero, suc, ◌+◌, ◌-◌, ◌^◌, ◌<◌, ◌≤◌, Bool, true, ltb, ◌&&◌, List, [], ◌∷◌, ◌++◌, length, Option, Some, None, refl, sym, ap, subst, ◌∙◌, append_assoc, append-nil, arith}
use Rattle.std.specs.Int.{w32, to_le_bytes}
use Rattle.std.specs.List.{flat_map, list_all}
use Rattle.std.proofs.lemmas.Bool.{and_from, and_parts, lt-ltb, ltb-true}
use Rattle.std.proofs.lemmas.Option.{same_Some}
use Rattle.reg_ops.specs.Parts.{◌>>=◌}
use Rattle.reg_wire.specs.declared.fault.ReadFault.{ReadFault}
use Rattle.reg_wire.specs.declared.fault.ReadFault.TheVariants.{Memory, Malformed}
use Rattle.reg_wire.specs.Fields.{list_bytes}
use Rattle.reg_wire.specs.Reading.{number_at, items_at, list_at}
use Rattle.reg_wire.specs.Steps.{Fails}
use Rattle.reg_wire.proofs.Exact.{IsExact, bind_some, number_takes, number_again, wide32}

-- ---- a list is read as it is written

-- items that were read are so many, and as they are written
record AreTaken {A : Type 0} (write : A → List ℕ) (fits : A → Bool) (count : ℕ) (bytes : List ℕ) (x : List A × List ℕ) : Type 0 where
  pub parts : bytes ≡ flat_map write x.0 ++ x.1
  pub number : length x.0 ≡ count
  pub fit : list_all fits x.0 ≡ true

items_take : {A : Type 0} (write : A → List ℕ) (fits : A → Bool) (read : List ℕ → Option (A × List ℕ)) → IsExact write fits read → (count : ℕ) (bytes : List ℕ) (x : List A × List ℕ) → items_at read count bytes ≡ Some x → AreTaken write fits count bytes x
unfolding items_at
items_take {A} write fits read exact zero bytes x e =
    let none : List A = [] in
    subst (AreTaken write fits 0 bytes) (same_Some (none, bytes) x e) (record { parts = refl; number = refl; fit = refl })
items_take {A} write fits read exact (suc n) bytes x e =
    let a = bind_some (read bytes) (λ first. items_at read n first.1 >>= λ others. Some (first.0 ∷ others.0, others.1)) x e in
    let b = bind_some (items_at read n a.0.1) (λ others. Some (a.0.0 ∷ others.0, others.1)) x a.2 in
    let t = exact.takes bytes a.0 a.1 in
    let u = items_take write fits read exact n a.0.1 b.0 b.1 in
    let front = write a.0.0 in
    subst (AreTaken write fits (suc n) bytes) (same_Some (a.0.0 ∷ b.0.0, b.0.1) x b.2) (record {
      parts = t.0 ∙ ap (λ (l : List ℕ). front ++ l) u.parts ∙ sym (append_assoc front (flat_map write b.0.0) b.0.1);
      number = ap suc u.number;
      fit = and_from _ _ t.1 u.fit;
    })

items_again : {A : Type 0} (write : A → List ℕ) (fits : A → Bool) (read : List ℕ → Option (A × List ℕ)) → IsExact write fits read → (xs : List A) (rest : List ℕ) → list_all fits xs ≡ true → items_at read (length xs) (flat_map write xs ++ rest) ≡ Some (xs, rest)
unfolding items_at
items_again write fits read exact [] rest fit = refl
items_again write fits read exact (x ∷ xs) rest fit =
    let both = and_parts (fits x) (list_all fits xs) fit in
    ap (items_at read (suc (length xs))) (append_assoc (write x) (flat_map write xs) rest) ∙ rw (exact.again x (flat_map write xs ++ rest) both.0, items_again write fits read exact xs rest both.1) refl

-- each item has its form, and there are fewer than 2 ^ 32
abbrev pub are_listed : {A : Type 0} → (A → Bool) → List A → Bool
are_listed fits xs = list_all fits xs && ltb (length xs) (2 ^ 32)

list_takes : {A : Type 0} (write : A → List ℕ) (fits : A → Bool) (read : List ℕ → Option (A × List ℕ)) → IsExact write fits read → (bytes : List ℕ) (x : List A × List ℕ) → list_at read bytes ≡ Some x → (bytes ≡ list_bytes write x.0 ++ x.1) × (are_listed fits x.0 ≡ true)
unfolding list_at
list_takes write fits read exact bytes x e =
    let b = bind_some (number_at w32 bytes) (λ count. items_at read count.0 count.1) x e in
    let n = number_takes w32 (2 ^ 32) wide32 bytes b.0 b.1 in
    let t = items_take write fits read exact b.0.0 b.0.1 x b.2 in
    let front = to_le_bytes w32 (length x.0) in
    let counted : bytes ≡ front ++ b.0.1 = n.0 ∙ ap (λ (k : ℕ). to_le_bytes w32 k ++ b.0.1) (sym t.number) in
    let parts : bytes ≡ list_bytes write x.0 ++ x.1 = counted ∙ ap (λ (l : List ℕ). front ++ l) t.parts ∙ sym (append_assoc front (flat_map write x.0) x.1) in
    let few : length x.0 < 2 ^ 32 = subst (λ (k : ℕ). k < 2 ^ 32) (sym t.number) n.1 in
    (parts, and_from _ _ t.fit (lt-ltb _ _ few))

list_again : {A : Type 0} (write : A → List ℕ) (fits : A → Bool) (read : List ℕ → Option (A × List ℕ)) → IsExact write fits read → (xs : List A) (rest : List ℕ) → are_listed fits xs ≡ true → list_at read (list_bytes write xs ++ rest) ≡ Some (xs, rest)
unfolding list_at
list_again write fits read exact xs rest good =
    let both = and_parts (list_all fits xs) (ltb (length xs) (2 ^ 32)) good in
    let front = to_le_bytes w32 (length xs) in
    let behind = flat_map write xs in
    ap (list_at read) (append_assoc front behind rest) ∙ rw (number_again w32 (2 ^ 32) wide32 (length xs) (behind ++ rest) (ltb-true _ _ both.1)) (items_again write fits read exact xs rest both.0)

pub list_exact : {A : Type 0} (write : A → List ℕ) (fits : A → Bool) (read : List ℕ → Option (A × List ℕ)) → IsExact write fits read → IsExact (list_bytes write) (are_listed fits) (list_at read)
list_exact write fits read exact = record {
  takes = list_takes write fits read exact;
  again = list_again write fits read exact;
}

-- ---- one after the other

-- what was read before, and what is still read
abbrev pub with_front : {A : Type 0} → List A → Option (List A × List ℕ) → Option (List A × List ℕ)
with_front front read = read >>= λ x. Some (front ++ x.0, x.1)

regroup : {A : Type 0} (front : List A) (item : A) (read : Option (List A × List ℕ)) → with_front front (read >>= λ x. Some (item ∷ x.0, x.1)) ≡ with_front (front ++ item ∷ []) read
regroup {A} front item (Some x) = ap (λ (xs : List A). Some (xs, x.1)) (sym (append_assoc front (item ∷ []) x.0))
regroup front item None = refl

pub goes_on : {A : Type 0} (read : List ℕ → Option (A × List ℕ)) (front : List A) (count i : ℕ) (bytes : List ℕ) (item : A) (after : List ℕ) (total : Option (List A × List ℕ)) → i < count → read bytes ≡ Some (item, after)
    → with_front front (items_at read (count - i) bytes) ≡ total → with_front (front ++ item ∷ []) (items_at read (count - (i + 1)) after) ≡ total
unfolding items_at
goes_on read front count i bytes item after total lt h so_far =
    let k : count - i ≡ suc (count - (i + 1)) = omega arith in
    let one : with_front front (items_at read (count - i) bytes) ≡ with_front (front ++ item ∷ []) (items_at read (count - (i + 1)) after) = rw (k, h) (regroup front item (items_at read (count - (i + 1)) after)) in
    sym one ∙ so_far

pub ends : {A : Type 0} (read : List ℕ → Option (A × List ℕ)) (fault : ReadFault) (front : List A) (count i : ℕ) (bytes : List ℕ) (total : Option (List A × List ℕ)) → i < count → Fails fault (read bytes)
    → with_front front (items_at read (count - i) bytes) ≡ total → Fails fault total
unfolding items_at
ends read Memory front count i bytes total lt h so_far = tt
ends {A} read Malformed front count i bytes total lt h so_far =
    let k : count - i ≡ suc (count - (i + 1)) = omega arith in
    let nothing : Option (List A × List ℕ) = None in
    let one : with_front front (items_at read (count - i) bytes) ≡ nothing = rw (k, h) refl in
    sym so_far ∙ one

pub is_done : {A : Type 0} (read : List ℕ → Option (A × List ℕ)) (front : List A) (count i : ℕ) (bytes : List ℕ) (total : Option (List A × List ℕ)) → count ≤ i → with_front front (items_at read (count - i) bytes) ≡ total → total ≡ Some (front, bytes)
unfolding items_at
is_done {A} read front count i bytes total le so_far =
    let k : count - i ≡ 0 = omega arith in
    let one : with_front front (items_at read (count - i) bytes) ≡ Some (front, bytes) = rw k (ap (λ (xs : List A). Some (xs, bytes)) (append-nil front)) in
    sym so_far ∙ one
