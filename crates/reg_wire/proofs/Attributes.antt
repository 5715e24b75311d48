-- What definitions are for, and the values of assignments, are read exactly as they are written.
use Rattle.std.proofs.Common.{◌≡◌, ℕ, ℤ, pos, negsuc, zero, suc, ◌-◌, ◌^◌, ◌<◌, ◌≤◌, Bool, true, false, cond, leb, ltb, ◌&&◌, List, [], ◌∷◌, ◌++◌, Some, None, refl, sym, ap, subst, ◌∙◌, arith, to_z, of_z}
use Rattle.std.specs.Int.{w64, to_le_bytes}
use Rattle.std.proofs.lemmas.Bool.{and_parts, false≢true, leb-true, le-ltb, lt-ltb, ltb-false, ltb-true}
use Rattle.std.proofs.lemmas.Int.{of_z-to_z}
use Rattle.std.proofs.lemmas.Option.{cond_some, same_Some}
use Rattle.reg_terms.specs.declared.kinds.DefKind.{DefKind}
use Rattle.reg_terms.specs.declared.kinds.DefKind.TheVariants.{Marker, Integer, Text, Timestamp}
use Rattle.reg_terms.specs.declared.kinds.Owners.{Owners}
use Rattle.reg_terms.specs.declared.kinds.Value.{Value}
use Rattle.reg_terms.specs.declared.kinds.Value.TheVariants as value
use Rattle.reg_ops.specs.Forms.{is_display, is_i64, is_value, suits_some}
use Rattle.reg_wire.specs.Fields.{text_bytes, owners_code, owners_bytes, flag_bytes, def_kind_bytes, int_bytes, value_bytes}
use Rattle.reg_wire.specs.Reading.{byte_at, number_at, display_at, owners_of, owners_at, flag_at, def_kind_at, int_at, value_at}
use Rattle.reg_wire.proofs.Exact.{IsExact, always, bind_some, number_takes, number_again, wide64, tested_exact}
use Rattle.reg_wire.proofs.Grants.{byte_takes}
use Rattle.reg_wire.proofs.Texts.{display_short}

-- ---- owners

abbrev IsOwnersRead : List ℕ → Owners × List ℕ → Type 0
IsOwnersRead bytes x = (bytes ≡ owners_bytes x.0 ++ x.1) × (suits_some x.0 ≡ true)

-- a number from 1 to 7 is the code of the owners whose code it is, and these are some
code_back : (code : ℕ) → (leb 1 code && leb code 7) ≡ true → (code ≡ owners_code (owners_of code)) × (suits_some (owners_of code) ≡ true)
code_back zero h = absurd (false≢true h)
code_back (suc zero) h = (refl, refl)
code_back (suc (suc zero)) h = (refl, refl)
code_back (suc (suc (suc zero))) h = (refl, refl)
code_back (suc (suc (suc (suc zero)))) h = (refl, refl)
code_back (suc (suc (suc (suc (suc zero))))) h = (refl, refl)
code_back (suc (suc (suc (suc (suc (suc zero)))))) h = (refl, refl)
code_back (suc (suc (suc (suc (suc (suc (suc zero))))))) h = (refl, refl)
code_back (suc (suc (suc (suc (suc (suc (suc (suc n)))))))) h =
    let code = suc (suc (suc (suc (suc (suc (suc (suc n))))))) in
    let few : code ≤ 7 = leb-true code 7 (and_parts (leb 1 code) (leb code 7) h).1 in
    absurd (omega arith)

owners_takes : (bytes : List ℕ) (x : Owners × List ℕ) → owners_at bytes ≡ Some x → IsOwnersRead bytes x
unfolding owners_at
owners_takes bytes x e =
    let a = bind_some (byte_at bytes) (λ code. cond (leb 1 code.0 && leb code.0 7) (Some (owners_of code.0, code.1)) None) x e in
    let found : Owners × List ℕ = (owners_of a.0.0, a.0.1) in
    let g = cond_some (leb 1 a.0.0 && leb a.0.0 7) found x a.2 in
    let back = code_back a.0.0 g.0 in
    subst (IsOwnersRead bytes) g.1 (byte_takes bytes a.0 a.1 ∙ ap (λ (n : ℕ). n ∷ a.0.1) back.0, back.1)

some_again : (folder group subject : Bool) (rest : List ℕ) → suits_some (record { folder = folder; group = group; subject = subject }) ≡ true → owners_at (owners_bytes (record { folder = folder; group = group; subject = subject }) ++ rest) ≡ Some (record { folder = folder; group = group; subject = subject }, rest)
unfolding owners_at
some_again false false false rest h = absurd (false≢true h)
some_again false false true rest h = refl
some_again false true false rest h = refl
some_again false true true rest h = refl
some_again true false false rest h = refl
some_again true false true rest h = refl
some_again true true false rest h = refl
some_again true true true rest h = refl

pub owners_exact : IsExact owners_bytes suits_some owners_at
owners_exact = record {
  takes = owners_takes;
  again = λ owners rest good. some_again owners.folder owners.group owners.subject rest good;
}

-- ---- what holds

abbrev IsFlagRead : List ℕ → Bool × List ℕ → Type 0
IsFlagRead bytes x = (bytes ≡ flag_bytes x.0 ++ x.1) × (always x.0 ≡ true)

flag_takes : (bytes : List ℕ) (x : Bool × List ℕ) → flag_at bytes ≡ Some x → IsFlagRead bytes x
unfolding flag_at
flag_takes [] x e = absurd cc
flag_takes (zero ∷ rest) x e = subst (IsFlagRead (0 ∷ rest)) (same_Some (false, rest) x e) (refl, refl)
flag_takes (suc zero ∷ rest) x e = subst (IsFlagRead (1 ∷ rest)) (same_Some (true, rest) x e) (refl, refl)
flag_takes (suc (suc b) ∷ rest) x e = absurd cc

flag_again : (flag : Bool) (rest : List ℕ) → always flag ≡ true → flag_at (flag_bytes flag ++ rest) ≡ Some (flag, rest)
unfolding flag_at
flag_again false rest good = refl
flag_again true rest good = refl

pub flag_exact : IsExact flag_bytes always flag_at
flag_exact = record { takes = flag_takes; again = flag_again }

-- ---- the kinds of definitions

abbrev IsDefKindRead : List ℕ → DefKind × List ℕ → Type 0
IsDefKindRead bytes x = (bytes ≡ def_kind_bytes x.0 ++ x.1) × (always x.0 ≡ true)

def_kind_takes : (bytes : List ℕ) (x : DefKind × List ℕ) → def_kind_at bytes ≡ Some x → IsDefKindRead bytes x
unfolding def_kind_at
def_kind_takes [] x e = absurd cc
def_kind_takes (zero ∷ rest) x e = absurd cc
def_kind_takes (suc zero ∷ rest) x e = subst (IsDefKindRead (1 ∷ rest)) (same_Some (Marker, rest) x e) (refl, refl)
def_kind_takes (suc (suc zero) ∷ rest) x e = subst (IsDefKindRead (2 ∷ rest)) (same_Some (Integer, rest) x e) (refl, refl)
def_kind_takes (suc (suc (suc zero)) ∷ rest) x e = subst (IsDefKindRead (3 ∷ rest)) (same_Some (Text, rest) x e) (refl, refl)
def_kind_takes (suc (suc (suc (suc zero))) ∷ rest) x e = subst (IsDefKindRead (4 ∷ rest)) (same_Some (Timestamp, rest) x e) (refl, refl)
def_kind_takes (suc (suc (suc (suc (suc b)))) ∷ rest) x e = absurd cc

def_kind_again : (kind : DefKind) (rest : List ℕ) → always kind ≡ true → def_kind_at (def_kind_bytes kind ++ rest) ≡ Some (kind, rest)
unfolding def_kind_at
def_kind_again Marker rest good = refl
def_kind_again Integer rest good = refl
def_kind_again Text rest good = refl
def_kind_again Timestamp rest good = refl

pub def_kind_exact : IsExact def_kind_bytes always def_kind_at
def_kind_exact = record { takes = def_kind_takes; again = def_kind_again }

-- ---- whole numbers with a sign

-- what eight bytes say fits
fits_by : (n : ℕ) → n < 2 ^ 64 → (low : Bool) → ltb n (2 ^ 63) ≡ low → is_i64 (to_z w64 n) ≡ true
fits_by n h true e = rw e e
fits_by n h false e = rw e (lt-ltb _ _ (let above = ltb-false _ _ e in omega arith))

-- and a number that fits is had again from its bytes
int_back : (z : ℤ) → is_i64 z ≡ true → (of_z w64 z < 2 ^ 64) × (to_z w64 (of_z w64 z) ≡ z)
int_back (pos n) h = let low = ltb-true _ _ h in (omega arith, rw h refl)
int_back (negsuc n) h =
    let low = ltb-true _ _ h in
    let high : ltb (2 ^ 64 - suc n) (2 ^ 63) ≡ false = le-ltb _ _ (omega arith) in
    let same : 2 ^ 64 - suc (2 ^ 64 - suc n) ≡ n = omega arith in
    (omega arith, rw high (ap (λ (k : ℕ). negsuc k) same))

abbrev IsIntRead : List ℕ → ℤ × List ℕ → Type 0
IsIntRead bytes x = (bytes ≡ int_bytes x.0 ++ x.1) × (is_i64 x.0 ≡ true)

int_takes : (bytes : List ℕ) (x : ℤ × List ℕ) → int_at bytes ≡ Some x → IsIntRead bytes x
unfolding int_at
int_takes bytes x e =
    let b = bind_some (number_at w64 bytes) (λ number. Some (to_z w64 number.0, number.1)) x e in
    let n = number_takes w64 (2 ^ 64) wide64 bytes b.0 b.1 in
    let back = of_z-to_z w64 b.0.0 n.1 in
    subst (IsIntRead bytes) (same_Some (to_z w64 b.0.0, b.0.1) x b.2) (n.0 ∙ ap (λ (k : ℕ). to_le_bytes w64 k ++ b.0.1) (sym back), fits_by b.0.0 n.1 (ltb b.0.0 (2 ^ 63)) refl)

int_again : (z : ℤ) (rest : List ℕ) → is_i64 z ≡ true → int_at (int_bytes z ++ rest) ≡ Some (z, rest)
unfolding int_at
int_again z rest good =
    let back = int_back z good in
    rw (number_again w64 (2 ^ 64) wide64 (of_z w64 z) rest back.0, back.1) refl

-- ---- values

abbrev IsValueRead : List ℕ → Value × List ℕ → Type 0
IsValueRead bytes x = (bytes ≡ value_bytes x.0 ++ x.1) × (is_value x.0 ≡ true)

text_exact : IsExact text_bytes is_display display_at
text_exact = tested_exact is_display (λ text h. omega (arith, display_short text h))

value_takes : (bytes : List ℕ) (x : Value × List ℕ) → value_at bytes ≡ Some x → IsValueRead bytes x
unfolding value_at
value_takes [] x e = absurd cc
value_takes (zero ∷ rest) x e = absurd cc
value_takes (suc zero ∷ rest) x e =
    let b = bind_some (int_at rest) (λ number. Some (value.Int number.0, number.1)) x e in
    let n = int_takes rest b.0 b.1 in
    subst (IsValueRead (1 ∷ rest)) (same_Some (value.Int b.0.0, b.0.1) x b.2) (ap (λ (t : List ℕ). 1 ∷ t) n.0, n.1)
value_takes (suc (suc zero) ∷ rest) x e =
    let b = bind_some (display_at rest) (λ text. Some (value.Text text.0, text.1)) x e in
    let t = text_exact.takes rest b.0 b.1 in
    subst (IsValueRead (2 ∷ rest)) (same_Some (value.Text b.0.0, b.0.1) x b.2) (ap (λ (s : List ℕ). 2 ∷ s) t.0, t.1)
value_takes (suc (suc (suc b)) ∷ rest) x e = absurd cc

value_again : (v : Value) (rest : List ℕ) → is_value v ≡ true → value_at (value_bytes v ++ rest) ≡ Some (v, rest)
unfolding value_at
value_again (value.Int number) rest good = rw (int_again number rest good) refl
value_again (value.Text text) rest good = rw (text_exact.again text rest good) refl

pub value_exact : IsExact value_bytes is_value value_at
value_exact = record { takes = value_takes; again = value_again }
