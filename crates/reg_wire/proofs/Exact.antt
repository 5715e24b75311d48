-- Fields are read exactly as they are written: what is read was written so, and what is written is read again.
use Rattle.std.proofs.Common.{◌≡◌, ℕ, zero, suc, ◌^◌, ◌<◌, ◌≤◌, Bool, true, cond, ltb, leb, ◌&&◌, List, [], ◌∷◌, ◌++◌, length, get_or, take, drop, Option, Some, None, refl, sym, ap, subst, ◌∙◌, append_assoc, arith, lit<}
use Rattle.std.specs.Int.{Width, w16, w32, w64, byte_len, from_le_bytes, to_le_bytes}
use Rattle.std.specs.List.{list_all}
use Rattle.std.proofs.lemmas.Bool.{and_from, and_parts, leb-true, le-leb, lt-ltb, ltb-true}
use Rattle.std.proofs.lemmas.Bool.Decides.{nat_tests}
use Rattle.std.proofs.lemmas.List.{take_at, drop_at, take-append-drop, length-append, length-take}
use Rattle.std.proofs.lemmas.Nat.{le_bytes_2, le_bytes_4, le_bytes_8, from_le_bytes-to_le_bytes_2, from_le_bytes-to_le_bytes_4, from_le_bytes-to_le_bytes_8}
use Rattle.std.proofs.lemmas.Option.{cond_some, same_Some}
use Rattle.reg_terms.specs.declared.kinds.SetOp.{SetOp}
use Rattle.reg_terms.specs.declared.kinds.SetOp.TheVariants.{Intersection, Complement, Union}
use Rattle.reg_ops.specs.Forms.{is_moment, is_optional_moment}
use Rattle.reg_terms.specs.Limits.{max_moment}
use Rattle.reg_ops.specs.Parts.{◌>>=◌}
use Rattle.reg_wire.specs.Fields.{text_bytes, moment_bytes, number_bytes, optional_moment_bytes, set_op_bytes}
use Rattle.reg_wire.specs.Reading.{is_byte, number_at, text_at, tested_at, moment_at, ranged_at, optional_moment_at, set_op_at}

-- a reading takes exactly what is written
pub record IsExact {A : Type 0} (write : A → List ℕ) (fits : A → Bool) (read : List ℕ → Option (A × List ℕ)) : Type 0 where
  pub takes : (bytes : List ℕ) (x : A × List ℕ) → read bytes ≡ Some x → (bytes ≡ write x.0 ++ x.1) × (fits x.0 ≡ true)
  pub again : (x : A) (rest : List ℕ) → fits x ≡ true → read (write x ++ rest) ≡ Some (x, rest)

-- the value of a step that came to something
pub bind_some : {A B : Type 0} (o : Option A) (f : A → Option B) (y : B) → (o >>= f) ≡ Some y → (x : A) × (o ≡ Some x) × (f x ≡ Some y)
bind_some (Some x) f y e = (x, refl, e)
bind_some None f y e = absurd cc

-- ---- numbers

bytes_each : (bytes : List ℕ) → list_all is_byte bytes ≡ true → (i : ℕ) → get_or bytes i 0 < 256
bytes_each [] h i = lit< tt
bytes_each (b ∷ bytes) h zero = ltb-true b 256 (and_parts _ _ h).0
bytes_each (b ∷ bytes) h (suc i) = bytes_each bytes (and_parts _ _ h).1 i

bytes_front : (k : ℕ) (bytes : List ℕ) → ((i : ℕ) → get_or bytes i 0 < 256) → list_all is_byte (take k bytes) ≡ true
bytes_front zero bytes each = refl
bytes_front (suc k) [] each = refl
bytes_front (suc k) (b ∷ bytes) each = and_from _ _ (lt-ltb b 256 (each 0)) (bytes_front k bytes (λ i. each (suc i)))

-- what stands in front of enough bytes is the number of these
pub number_is : (w : Width) (bytes front rest : List ℕ) (n : ℕ) → byte_len w ≤ length bytes → ((i : ℕ) → get_or bytes i 0 < 256) → front ≡ take (byte_len w) bytes → rest ≡ drop (byte_len w) bytes → n ≡ from_le_bytes w front → number_at w bytes ≡ Some (n, rest)
unfolding number_at
number_is w bytes front rest n long each front_is rest_is n_is =
    rw (le-leb _ _ long, bytes_front (byte_len w) bytes each, n_is, front_is, rest_is) refl

pub record IsWide (w : Width) (limit : ℕ) : Type 0 where
  pub len : (n : ℕ) → length (to_le_bytes w n) ≡ byte_len w
  pub small : (n : ℕ) → list_all is_byte (to_le_bytes w n) ≡ true
  pub back : (bytes : List ℕ) → length bytes ≡ byte_len w → ((i : ℕ) → get_or bytes i 0 < 256) → to_le_bytes w (from_le_bytes w bytes) ≡ bytes
  pub again : (n : ℕ) → n < limit → from_le_bytes w (to_le_bytes w n) ≡ n
  pub below : (bytes : List ℕ) → ((i : ℕ) → get_or bytes i 0 < 256) → from_le_bytes w bytes < limit

pub wide16 : IsWide w16 65536
wide16 = record {
  len = λ n. refl;
  small = λ n. grind (arith, nat_tests);
  back = λ bytes len each. le_bytes_2 bytes _ len each refl;
  again = λ n lt. from_le_bytes-to_le_bytes_2 n lt;
  below = λ bytes each. omega (arith, each 0, each 1);
}

pub wide32 : IsWide w32 (2 ^ 32)
wide32 = record {
  len = λ n. refl;
  small = λ n. grind (arith, nat_tests);
  back = λ bytes len each. le_bytes_4 bytes _ len each refl;
  again = λ n lt. from_le_bytes-to_le_bytes_4 n lt;
  below = λ bytes each. omega (arith, each 0, each 1, each 2, each 3);
}

pub wide64 : IsWide w64 (2 ^ 64)
wide64 = record {
  len = λ n. refl;
  small = λ n. grind (arith, nat_tests);
  back = λ bytes len each. le_bytes_8 bytes _ len each refl;
  again = λ n lt. from_le_bytes-to_le_bytes_8 n lt;
  below = λ bytes each. omega (arith, each 0, each 1, each 2, each 3, each 4, each 5, each 6, each 7);
}

pub number_takes : (w : Width) (limit : ℕ) (wide : IsWide w limit) (bytes : List ℕ) (x : ℕ × List ℕ) → number_at w bytes ≡ Some x → (bytes ≡ to_le_bytes w x.0 ++ x.1) × (x.0 < limit)
unfolding number_at
number_takes w limit wide bytes x e =
    let front = take (byte_len w) bytes in
    let found : ℕ × List ℕ = (from_le_bytes w front, drop (byte_len w) bytes) in
    let g = cond_some (leb (byte_len w) (length bytes) && list_all is_byte front) found x e in
    let both = and_parts (leb (byte_len w) (length bytes)) (list_all is_byte front) g.0 in
    let long : byte_len w ≤ length bytes = leb-true _ _ both.0 in
    let each = bytes_each front both.1 in
    let again : to_le_bytes w (from_le_bytes w front) ≡ front = wide.back front (omega (arith, length-take (byte_len w) bytes)) each in
    let parts : bytes ≡ to_le_bytes w (from_le_bytes w front) ++ drop (byte_len w) bytes = rw again (sym (take-append-drop (byte_len w) bytes)) in
    subst (λ (y : ℕ × List ℕ). (bytes ≡ to_le_bytes w y.0 ++ y.1) × (y.0 < limit)) g.1 (parts, wide.below front each)

pub number_again : (w : Width) (limit : ℕ) (wide : IsWide w limit) (n : ℕ) (rest : List ℕ) → n < limit → number_at w (to_le_bytes w n ++ rest) ≡ Some (n, rest)
unfolding number_at
number_again w limit wide n rest lt =
    let len = wide.len n in
    let long : leb (byte_len w) (length (to_le_bytes w n ++ rest)) ≡ true = le-leb _ _ (omega (arith, length-append (to_le_bytes w n) rest)) in
    rw (long, take_at (to_le_bytes w n) rest (byte_len w) len, drop_at (to_le_bytes w n) rest (byte_len w) len, wide.small n, wide.again n lt) refl

-- ---- texts

abbrev is_short : List ℕ → Bool
is_short text = ltb (length text) 65536

pub text_exact : IsExact text_bytes is_short text_at
unfolding text_at
text_exact = record {
  takes = λ bytes x e.
      let b = bind_some (number_at w16 bytes) (λ size. cond (leb size.0 (length size.1)) (Some (take size.0 size.1, drop size.0 size.1)) None) x e in
      let size = b.0 in
      let n = number_takes w16 65536 wide16 bytes size b.1 in
      let found : List ℕ × List ℕ = (take size.0 size.1, drop size.0 size.1) in
      let g = cond_some (leb size.0 (length size.1)) found x b.2 in
      let long : size.0 ≤ length size.1 = leb-true _ _ g.0 in
      let len : length (take size.0 size.1) ≡ size.0 = omega (arith, length-take size.0 size.1) in
      let parts : bytes ≡ text_bytes (take size.0 size.1) ++ drop size.0 size.1 = n.0 ∙ ap (λ (t : List ℕ). to_le_bytes w16 size.0 ++ t) (sym (take-append-drop size.0 size.1)) ∙ ap (λ (k : ℕ). to_le_bytes w16 k ++ (take size.0 size.1 ++ drop size.0 size.1)) (sym len) ∙ sym (append_assoc (to_le_bytes w16 (length (take size.0 size.1))) (take size.0 size.1) (drop size.0 size.1)) in
      subst (λ (y : List ℕ × List ℕ). (bytes ≡ text_bytes y.0 ++ y.1) × (is_short y.0 ≡ true)) g.1 (parts, lt-ltb _ _ (omega (arith, n.1)));
  again = λ text rest short.
      let long : leb (length text) (length (text ++ rest)) ≡ true = le-leb _ _ (omega (arith, length-append text rest)) in
      ap text_at (append_assoc (to_le_bytes w16 (length text)) text rest) ∙ rw (number_again w16 65536 wide16 (length text) (text ++ rest) (ltb-true _ _ short), long, take_at text rest (length text) refl, drop_at text rest (length text) refl) refl;
}

-- a text that passes a test, which only short ones do
pub tested_exact : (test : List ℕ → Bool) → ((text : List ℕ) → test text ≡ true → length text ≤ 1006) → IsExact text_bytes test (tested_at test)
unfolding tested_at
tested_exact test short = record {
  takes = λ bytes x e.
      let b = bind_some (text_at bytes) (λ text. cond (test text.0) (Some (text.0, text.1)) None) x e in
      let t = text_exact.takes bytes b.0 b.1 in
      let found : List ℕ × List ℕ = (b.0.0, b.0.1) in
      let g = cond_some (test b.0.0) found x b.2 in
      subst (λ (y : List ℕ × List ℕ). (bytes ≡ text_bytes y.0 ++ y.1) × (test y.0 ≡ true)) g.1 (t.0, g.0);
  again = λ text rest good.
      rw (text_exact.again text rest (lt-ltb _ _ (omega (arith, short text good))), good) refl;
}

-- ---- moments

pub moment_exact : IsExact moment_bytes is_moment moment_at
unfolding moment_at
moment_exact = record {
  takes = λ bytes x e.
      let b = bind_some (number_at w64 bytes) (λ number. cond (is_moment number.0) (Some (number.0, number.1)) None) x e in
      let n = number_takes w64 (2 ^ 64) wide64 bytes b.0 b.1 in
      let found : ℕ × List ℕ = (b.0.0, b.0.1) in
      let g = cond_some (is_moment b.0.0) found x b.2 in
      subst (λ (y : ℕ × List ℕ). (bytes ≡ moment_bytes y.0 ++ y.1) × (is_moment y.0 ≡ true)) g.1 (n.0, g.0);
  again = λ moment rest good.
      let upto : moment ≤ max_moment = leb-true _ _ good in
      rw (number_again w64 (2 ^ 64) wide64 moment rest (omega arith), good) refl;
}

-- ---- numbers of a range

pub ranged_takes : (least most : ℕ) (bytes : List ℕ) (x : ℕ × List ℕ) → ranged_at least most bytes ≡ Some x → (bytes ≡ number_bytes x.0 ++ x.1) × ((leb least x.0 && leb x.0 most) ≡ true)
unfolding ranged_at
ranged_takes least most bytes x e =
    let b = bind_some (number_at w64 bytes) (λ number. cond (leb least number.0 && leb number.0 most) (Some (number.0, number.1)) None) x e in
    let n = number_takes w64 (2 ^ 64) wide64 bytes b.0 b.1 in
    let found : ℕ × List ℕ = (b.0.0, b.0.1) in
    let g = cond_some (leb least b.0.0 && leb b.0.0 most) found x b.2 in
    subst (λ (y : ℕ × List ℕ). (bytes ≡ number_bytes y.0 ++ y.1) × ((leb least y.0 && leb y.0 most) ≡ true)) g.1 (n.0, g.0)

-- a number of 64 bits is read again
pub ranged_again : (least most value : ℕ) (rest : List ℕ) → (leb least value && leb value most) ≡ true → most ≤ 18446744073709551615 → ranged_at least most (number_bytes value ++ rest) ≡ Some (value, rest)
unfolding ranged_at
ranged_again least most value rest good wide =
    let upto : value ≤ most = leb-true _ _ (and_parts (leb least value) (leb value most) good).1 in
    rw (number_again w64 (2 ^ 64) wide64 value rest (omega arith), good) refl

-- ---- moments that may be left out

optional_takes : (bytes : List ℕ) (x : Option ℕ × List ℕ) → optional_moment_at bytes ≡ Some x → (bytes ≡ optional_moment_bytes x.0 ++ x.1) × (is_optional_moment x.0 ≡ true)
unfolding optional_moment_at
optional_takes [] x e = absurd cc
optional_takes (zero ∷ rest) x e =
    subst (λ (y : Option ℕ × List ℕ). (0 ∷ rest ≡ optional_moment_bytes y.0 ++ y.1) × (is_optional_moment y.0 ≡ true)) (same_Some (None, rest) x e) (refl, refl)
optional_takes (suc zero ∷ rest) x e =
    let b = bind_some (moment_at rest) (λ moment. Some (Some moment.0, moment.1)) x e in
    let m = moment_exact.takes rest b.0 b.1 in
    subst (λ (y : Option ℕ × List ℕ). (1 ∷ rest ≡ optional_moment_bytes y.0 ++ y.1) × (is_optional_moment y.0 ≡ true)) (same_Some (Some b.0.0, b.0.1) x b.2) (ap (λ (t : List ℕ). 1 ∷ t) m.0, m.1)
optional_takes (suc (suc b) ∷ rest) x e = absurd cc

optional_again : (moment : Option ℕ) (rest : List ℕ) → is_optional_moment moment ≡ true → optional_moment_at (optional_moment_bytes moment ++ rest) ≡ Some (moment, rest)
unfolding optional_moment_at
optional_again None rest good = refl
optional_again (Some moment) rest good = rw (moment_exact.again moment rest good) refl

pub optional_exact : IsExact optional_moment_bytes is_optional_moment optional_moment_at
optional_exact = record { takes = optional_takes; again = optional_again }

-- ---- how composites are made

-- every one may be written
abbrev pub always : {A : Type 0} → A → Bool
always _ = true

abbrev IsSetOpRead : List ℕ → SetOp × List ℕ → Type 0
IsSetOpRead bytes x = (bytes ≡ set_op_bytes x.0 ++ x.1) × (always x.0 ≡ true)

set_op_takes : (bytes : List ℕ) (x : SetOp × List ℕ) → set_op_at bytes ≡ Some x → IsSetOpRead bytes x
unfolding set_op_at
set_op_takes [] x e = absurd cc
set_op_takes (zero ∷ rest) x e = absurd cc
set_op_takes (suc zero ∷ rest) x e = subst (IsSetOpRead (1 ∷ rest)) (same_Some (Intersection, rest) x e) (refl, refl)
set_op_takes (suc (suc zero) ∷ rest) x e = subst (IsSetOpRead (2 ∷ rest)) (same_Some (Complement, rest) x e) (refl, refl)
set_op_takes (suc (suc (suc zero)) ∷ rest) x e = subst (IsSetOpRead (3 ∷ rest)) (same_Some (Union, rest) x e) (refl, refl)
set_op_takes (suc (suc (suc (suc b))) ∷ rest) x e = absurd cc

set_op_again : (kind : SetOp) (rest : List ℕ) → always kind ≡ true → set_op_at (set_op_bytes kind ++ rest) ≡ Some (kind, rest)
unfolding set_op_at
set_op_again Intersection rest good = refl
set_op_again Complement rest good = refl
set_op_again Union rest good = refl

pub set_op_exact : IsExact set_op_bytes always set_op_at
set_op_exact = record { takes = set_op_takes; again = set_op_again }
