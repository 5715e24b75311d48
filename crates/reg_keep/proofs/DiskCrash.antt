-- How runs of disk calls go on, in a crash's eyes.
use Rattle.std.specs.Prelude.{◌⊎◌, ℕ, ◌≤◌, List}
use Rattle.std.proofs.Common.{inl, inr, ⊎_elim, sym, subst, arith}
use Rattle.reg_outside.specs.Disk.{Changes, Leaves, After, Same}

module _ {D : Type 0} (moment : D → ℕ) (may_leave : D → List ℕ → Type 0)
    (left_since : D → ℕ → List ℕ → Type 0) where
  abbrev By : (List ℕ → List ℕ → Type 0) → D → D → Type 0
  By R old new = Changes moment may_leave left_since R old new

  -- a wider step
  pub widen : (R Q : List ℕ → List ℕ → Type 0) (old new : D) → ((a b : List ℕ) → R a b → Q a b)
      → By R old new → By Q old new
  widen R Q old new wider by = record {
    later = by.later;
    leaves = λ c left. wide c (by.leaves c left);
    since = λ t c le left. ⊎_elim (λ was. inl was) (λ from. inr (wide c from))
        (by.since t c le left);
    keeps = by.keeps;
  }
    where
      wide : (c : List ℕ) → After R (may_leave old) c → After Q (may_leave old) c
      wide c from = (from.0, from.1, wider from.0 c from.2)

  -- the images after two steps, by those after each
  after_both : (R S : List ℕ → List ℕ → Type 0) (old mid : D) → ((a b : List ℕ) → R a b → S a b)
      → By R old mid → (t : ℕ) (c : List ℕ) → t ≤ moment old → left_since mid t c
      → left_since old t c ⊎ After S (may_leave old) c
  after_both R S old mid first one t c le left =
      ⊎_elim (λ was. inl was) (λ from. inr (from.0, from.1, first from.0 c from.2))
      (one.since t c le left)

  -- two steps, one after the other, where what the second does is known of these images alone
  pub both_here : (R Q S : List ℕ → List ℕ → Type 0) (old mid new : D)
      → ((a b : List ℕ) → R a b → S a b)
      → ((c : List ℕ) → After Q (may_leave mid) c → After S (may_leave old) c)
      → By R old mid → By Q mid new → By S old new
  both_here R Q S old mid new first through one two = record {
    later = omega (arith, one.later, two.later);
    leaves = λ c left. through c (two.leaves c left);
    since = λ t c le left. ⊎_elim (after_both R S old mid first one t c le)
        (λ from. inr (through c from)) (two.since t c (omega (arith, le, one.later)) left);
    keeps = λ t c le left. two.keeps t c (omega (arith, le, one.later)) (one.keeps t c le left);
  }

  -- two steps, one after the other
  pub both : (R Q S : List ℕ → List ℕ → Type 0) (old mid new : D)
      → ((a b c : List ℕ) → R a b → Q b c → S a c) → ((a b : List ℕ) → R a b → S a b)
      → By R old mid → By Q mid new → By S old new
  both R Q S old mid new joins first one two = both_here R Q S old mid new first through one two
    where
      through : (c : List ℕ) → After Q (may_leave mid) c → After S (may_leave old) c
      through c from =
          let was = one.leaves from.0 from.1 in (was.0, was.1, joins was.0 from.0 c was.2 from.2)

  -- nothing happens in the second
  pub then_same : (R : List ℕ → List ℕ → Type 0) (old mid new : D) → By R old mid
      → By Same mid new → By R old new
  then_same R old mid new one two =
      both R Same R old mid new (λ a b c r s. subst (R a) (sym s) r) (λ a b r. r) one two

  -- every image since old, by one run of calls
  pub all_by : (P : List ℕ → Type 0) (R : List ℕ → List ℕ → Type 0) (old new : D)
      → ((c : List ℕ) → left_since old (moment old) c → may_leave old c)
      → ((c : List ℕ) → may_leave old c → P c)
      → ((c : List ℕ) → After R (may_leave old) c → P c)
      → By R old new → Leaves moment left_since P old new
  all_by P R old new only_now here there by = record {
    later = by.later;
    each = λ c left. ⊎_elim (λ was. here c (only_now c was)) (there c)
        (by.since (moment old) c (omega arith) left);
    since = λ t c le left. ⊎_elim (λ was. inl was) (λ from. inr (there c from))
        (by.since t c le left);
  }

  -- one run more
  pub goes_on : (P : List ℕ → Type 0) (R : List ℕ → List ℕ → Type 0) (old mid new : D)
      → Leaves moment left_since P old mid → ((c : List ℕ) → After R (may_leave mid) c → P c)
      → By R mid new → Leaves moment left_since P old new
  goes_on P R old mid new so_far there by = record {
    later = omega (arith, so_far.later, by.later);
    each = λ c left. ⊎_elim (so_far.each c) (there c) (by.since (moment old) c so_far.later left);
    since = λ t c le left. ⊎_elim (so_far.since t c le) (λ from. inr (there c from))
        (by.since t c (omega (arith, le, so_far.later)) left);
  }

  -- what a crash now may leave is among them
  pub now_too : (P : List ℕ → Type 0) (old new : D)
      → ((t : ℕ) (c : List ℕ) → t ≤ moment new → may_leave new c → left_since new t c)
      → Leaves moment left_since P old new → (c : List ℕ) → may_leave new c → P c
  now_too P old new counts_now all c left = all.each c (counts_now (moment old) c all.later left)
