-- Keys that are equal name the same group.
use Rattle.std.specs.Prelude.{◌≡◌, ◌==◌, ◌&&◌, Bool, true, false, refl}
use Rattle.std.specs.Option.{option_eq}
use Rattle.reg_terms.specs.declared.kinds.Member.{Member}
use Rattle.reg_terms.specs.declared.kinds.Member.TheVariants as member
use Rattle.reg_terms.specs.declared.kinds.Holder.{Holder}
use Rattle.reg_terms.specs.declared.kinds.Holder.TheVariants as holder
use Rattle.reg_terms.specs.contracts.kinds.MemberPartialEq.TheImpl as member_eq
use Rattle.reg_terms.specs.contracts.kinds.HolderPartialEq.TheImpl as holder_eq
use Rattle.reg_terms.specs.Kinds.{member_group, holder_group}

second : (a b : Bool) → (a && b) ≡ true → b ≡ true
second true b h = h
second false b h = absurd (let clash : ⊥ = cc in clash)

pub members_alike : (a b : Member) → member_eq.ghosts.eq a b ≡ true
    → option_eq (λ x y. x == y) (member_group a) (member_group b) ≡ true
members_alike (member.Person a) (member.Person b) h = refl
members_alike (member.Person a) (member.Group b) h = absurd (let clash : ⊥ = cc in clash)
members_alike (member.Group a) (member.Person b) h = absurd (let clash : ⊥ = cc in clash)
members_alike (member.Group a) (member.Group b) h = h

pub holders_alike : (a b : Holder) → holder_eq.ghosts.eq a b ≡ true
    → option_eq (λ x y. x == y) (holder_group a) (holder_group b) ≡ true
holders_alike holder.Everyone holder.Everyone h = refl
holders_alike holder.Everyone (holder.Person b) h = refl
holders_alike holder.Everyone (holder.Group b) h = absurd (let clash : ⊥ = cc in clash)
holders_alike (holder.Person a) holder.Everyone h = refl
holders_alike (holder.Person a) (holder.Person b) h = refl
holders_alike (holder.Person a) (holder.Group b) h = absurd (let clash : ⊥ = cc in clash)
holders_alike (holder.Group a) holder.Everyone h = absurd (let clash : ⊥ = cc in clash)
holders_alike (holder.Group a) (holder.Person b) h = absurd (let clash : ⊥ = cc in clash)
holders_alike (holder.Group a) (holder.Group b) h = h

-- the holder of a grant's place, and of an inherit's
pub behind_one : (a : Bool) (x y : Holder) → (a && holder_eq.ghosts.eq x y) ≡ true
    → option_eq (λ m n. m == n) (holder_group x) (holder_group y) ≡ true
behind_one a x y h = holders_alike x y (second a (holder_eq.ghosts.eq x y) h)
