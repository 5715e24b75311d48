-- The key that a command was given under is read exactly as it is written.
use Rattle.std.proofs.Common.{◌≡◌, ℕ, zero, suc, ◌≤◌, Bool, true, false, cond, List, [], ◌∷◌, ◌++◌, length, Option, Some, None, refl, ap, subst, arith, lit≤}
use Rattle.std.proofs.lemmas.Bool.{and_parts, lt-ltb}
use Rattle.std.proofs.lemmas.Option.{cond_some, same_Some}
use Rattle.reg_base.specs.Names.{is_extension}
use Rattle.reg_terms.specs.declared.command.Stamped.{Stamped}
use Rattle.reg_ops.specs.Forms.{key_fits, takes_key}
use Rattle.reg_wire.specs.Fields.{text_bytes, key_bytes}
use Rattle.reg_wire.specs.Payload.{IsWritable}
use Rattle.reg_wire.specs.Reading.{text_at, key_text_at, key_at}
use Rattle.reg_wire.proofs.Texts.{extension_short}
use Rattle.reg_wire.proofs.Exact.{IsExact, bind_some, text_exact}

-- ---- which keys fit

-- a key that fits its command fits one that takes keys
pub fits_any : (takes : Bool) (key : Option (List ℕ)) → key_fits takes key ≡ true → key_fits true key ≡ true
fits_any takes None h = refl
fits_any takes (Some key) h = (and_parts takes (is_extension key) h).1

-- so the key of a writable command does
pub writable_key : (stamped : Stamped) → IsWritable stamped → key_fits true stamped.key ≡ true
writable_key stamped h = fits_any (takes_key stamped.command) stamped.key h.key

pub key_short : (key : Option (List ℕ)) → key_fits true key ≡ true → length (key_bytes key) ≤ 1003
key_short None h = lit≤ tt
key_short (Some key) h = omega (arith, extension_short key h)

-- ---- what is read is as it is written

abbrev IsKeyRead : List ℕ → Option (List ℕ) × List ℕ → Type 0
IsKeyRead bytes x = (bytes ≡ key_bytes x.0 ++ x.1) × (key_fits true x.0 ≡ true)

key_takes : (bytes : List ℕ) (x : Option (List ℕ) × List ℕ) → key_at bytes ≡ Some x → IsKeyRead bytes x
unfolding key_at key_text_at
key_takes [] x e = absurd cc
key_takes (zero ∷ rest) x e = subst (IsKeyRead (0 ∷ rest)) (same_Some (None, rest) x e) (refl, refl)
key_takes (suc zero ∷ rest) x e =
    let b = bind_some (text_at rest) (λ key. cond (is_extension key.0) (Some (Some key.0, key.1)) None) x e in
    let t = text_exact.takes rest b.0 b.1 in
    let found : Option (List ℕ) × List ℕ = (Some b.0.0, b.0.1) in
    let g = cond_some (is_extension b.0.0) found x b.2 in
    subst (IsKeyRead (1 ∷ rest)) g.1 (ap (λ (l : List ℕ). 1 ∷ l) t.0, g.0)
key_takes (suc (suc b) ∷ rest) x e = absurd cc

key_again : (key : Option (List ℕ)) (rest : List ℕ) → key_fits true key ≡ true → key_at (key_bytes key ++ rest) ≡ Some (key, rest)
unfolding key_at key_text_at
key_again None rest good = refl
key_again (Some key) rest good =
    let form : is_extension key ≡ true = good in
    rw (text_exact.again key rest (lt-ltb _ _ (omega (arith, extension_short key form))), form) refl

pub key_exact : IsExact key_bytes (key_fits true) key_at
key_exact = record { takes = key_takes; again = key_again }
