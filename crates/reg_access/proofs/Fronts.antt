-- Texts that begin with others.
use Rattle.std.proofs.Common.{◌≡◌, ℕ, ◌&&◌, List, [], ◌∷◌, ◌++◌, Bool, true, false, take, drop, length, nat_eq, refl, ◌∙◌}
use Rattle.std.proofs.lemmas.Bool.{and_parts}
use Rattle.std.proofs.lemmas.Cmp.{nat_eq_equiv}
use Rattle.std.specs.List.{starts_with}
use Rattle.std.specs.Cmp.Lexicographic.{pointwise}
use Rattle.std.specs.Str.{bytes_eq}

-- where one of two tests fails
either : (b t r : Bool) → (b && t) ≡ false → (t ≡ false → false ≡ r) → false ≡ (b && r)
either true t r h rest = rest h
either false t r h rest = refl

-- what follows a front decides whether the text is the front and more
pub phrase_some : (text front rest more : List ℕ) → pointwise nat_eq (take (length front) text) front ≡ true → rest ≡ drop (length front) text → bytes_eq rest more ≡ bytes_eq text (front ++ more)
phrase_some text [] rest more h e = rw e refl
phrase_some [] (y ∷ ys) rest more h e = absurd (let clash : ⊥ = cc in clash)
phrase_some (x ∷ xs) (y ∷ ys) rest more h e =
    let both = and_parts (nat_eq x y) (pointwise nat_eq (take (length ys) xs) ys) h in
    phrase_some xs ys rest more both.1 e ∙ rw both.0 refl

pub phrase_none : (text front more : List ℕ) → pointwise nat_eq (take (length front) text) front ≡ false → false ≡ bytes_eq text (front ++ more)
phrase_none text [] more h = absurd (let clash : ⊥ = cc in clash)
phrase_none [] (y ∷ ys) more h = refl
phrase_none (x ∷ xs) (y ∷ ys) more h = either (nat_eq x y) (pointwise nat_eq (take (length ys) xs) ys) (bytes_eq xs (ys ++ more)) h (λ e. phrase_none xs ys more e)

-- and whether the text begins with both
pub begins_some : (text front rest more : List ℕ) → pointwise nat_eq (take (length front) text) front ≡ true → rest ≡ drop (length front) text → starts_with nat_eq rest more ≡ starts_with nat_eq text (front ++ more)
begins_some text [] rest more h e = rw e refl
begins_some [] (y ∷ ys) rest more h e = absurd (let clash : ⊥ = cc in clash)
begins_some (x ∷ xs) (y ∷ ys) rest more h e =
    let both = and_parts (nat_eq x y) (pointwise nat_eq (take (length ys) xs) ys) h in
    begins_some xs ys rest more both.1 e ∙ rw (nat_eq_equiv.symm y x, both.0) refl

pub begins_none : (text front more : List ℕ) → pointwise nat_eq (take (length front) text) front ≡ false → false ≡ starts_with nat_eq text (front ++ more)
begins_none text [] more h = absurd (let clash : ⊥ = cc in clash)
begins_none [] (y ∷ ys) more h = refl
begins_none (x ∷ xs) (y ∷ ys) more h = rw (nat_eq_equiv.symm y x) (either (nat_eq x y) (pointwise nat_eq (take (length ys) xs) ys) (starts_with nat_eq xs (ys ++ more)) h (λ e. begins_none xs ys more e))
