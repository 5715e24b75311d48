-- From one certified moment of a stretch to the next.
use Rattle.std.proofs.Common.{◌≡◌, ◌+◌, ◌<◌, ◌≤◌, ◌&&◌, ℕ, suc, List, [], ◌∷◌, ◌++◌, Bool, true, false, Option, Some, length, get_or, drop, drop-cons, length-drop, add-one, nat_lt, arith, refl, sym, ◌∙◌, ap, subst, inl, inr}
use Rattle.std.specs.List.{All, AllByRecursion, Contains, filter}
use Rattle.std.specs.List.Sorted.{IsNonDecreasing, IsPermutation}
use Rattle.std.proofs.lemmas.Bool.{cases_Bool}
use Rattle.std.proofs.lemmas.Bool.Decides.{nat_tests}
use Rattle.std.proofs.lemmas.Grind.{common_steps}
use Rattle.std.proofs.lemmas.List.Elements.{All-contains, All-head, All-tail, All-weaker, All-filter, All-contains_itself, filter_passes, recursion_from_All, Contains-append_left, Contains-append_right, Contains-push}
use Rattle.std.proofs.lemmas.List.Sorted.{All-permutation, Contains-permutation}
use Rattle.reg_access.specs.declared.state.StateKind.{StateKind}
use Rattle.reg_access.specs.Attested.{cert, state_by, state_of}
use Rattle.reg_access.specs.Between.{AllBetween, NoneBetween}
use Rattle.reg_access.specs.States.{AreBefore}
use Rattle.reg_access.proofs.Certified.{cert_at, cert_stays, first_or_later}

-- ---- those that were found, in order, are all

both_so : (from end c : ℕ) → from < c → c < end → (nat_lt from c && nat_lt c end) ≡ true
both_so from end c w v = grind (arith, nat_tests, common_steps, w, v)

both_then : (from end c : ℕ) → (nat_lt from c && nat_lt c end) ≡ true → (from < c) × (c < end)
both_then from end c h = (grind (arith, nat_tests, common_steps, h), grind (arith, nat_tests, common_steps, h))

contained_so : (c : ℕ) (l m : List ℕ) → l ≡ m → Contains m c → Contains l c
contained_so c l m e h = subst (λ (k : List ℕ). Contains k c) (sym e) h

all_by_contains : (P : ℕ → Type 0) (cs : List ℕ) → ((c : ℕ) → Contains cs c → P c) → AllByRecursion P cs
all_by_contains P cs h = recursion_from_All P cs (All-weaker (Contains cs) P h cs (All-contains_itself cs))

-- the first of non-decreasing numbers is the least
first_least : (c : ℕ) (more : List ℕ) → IsNonDecreasing (c ∷ more) → All (λ m. c ≤ m) (c ∷ more)
first_least c more up = λ k d w. up 0 k d (omega arith) w

rest_up : (c : ℕ) (more : List ℕ) → IsNonDecreasing (c ∷ more) → IsNonDecreasing more
rest_up c more up = λ i j d w v. up (suc i) (suc j) d (omega arith) (omega arith)

abbrev pub Inside : List ℕ → ℕ → ℕ → ℕ → Type 0
Inside certified from end c = (from ≤ c) × (c < end) × Contains certified c

abbrev pub Complete : List ℕ → ℕ → ℕ → List ℕ → Type 0
Complete certified from end found = (c : ℕ) → Contains certified c → from < c → c < end → Contains found c

in_order : (certified : List ℕ) (from end : ℕ) (found : List ℕ) → IsNonDecreasing found → All (Inside certified from end) found → Complete certified from end found → AllBetween certified from end found
in_order certified from end [] up h all = all_by_contains (λ c. from < c → c < end → ⊥) certified (λ c k w v. let none = all c k w v in let under : none.0 < 0 = none.1 in omega arith)
in_order certified from end (c ∷ more) up h all =
    let here = All-head (Inside certified from end) c more h in
    let least = first_least c more up in (
      here.0,
      here.1,
      here.2,
      all_by_contains (λ m. from < m → m < c → ⊥) certified (λ m k w v. let low = All-contains (λ n. c ≤ n) (c ∷ more) m least (all m k w (omega (arith, v, here.1))) in omega (arith, low, v)),
      in_order certified c end more (rest_up c more up) (inside_more c more least (All-tail (Inside certified from end) c more h)) (λ m k w v.
          elim (first_or_later c more m (all m k (omega (arith, here.0, w)) v)) [ inl e ↦ absurd (omega (arith, e, w)) | inr z ↦ z ]),
    )
  where
    inside_more : (c : ℕ) (more : List ℕ) → All (λ m. c ≤ m) (c ∷ more) → All (Inside certified from end) more → All (Inside certified c end) more
    inside_more c more least h = λ k d w. let i = h k d w in let low = All-tail (λ m. c ≤ m) c more least k d w in (low, i.1, i.2)

filter_takes : (test : ℕ → Bool) (x : ℕ) (cs : List ℕ) → test x ≡ true → filter test (x ∷ cs) ≡ x ∷ filter test cs
filter_takes test x cs y = rw y refl

filter_drops : (test : ℕ → Bool) (x : ℕ) (cs : List ℕ) → test x ≡ false → filter test (x ∷ cs) ≡ filter test cs
filter_drops test x cs n = rw n refl

passing : (test : ℕ → Bool) (cs : List ℕ) (c : ℕ) → Contains cs c → test c ≡ true → Contains (filter test cs) c
passing test [] c h y = h
passing test (x ∷ cs) c h y = elim (first_or_later x cs c h) [
  | inl e ↦
      let z : test x ≡ true = ap test e ∙ y in
      let here : filter test (x ∷ cs) ≡ (c ∷ []) ++ filter test cs = filter_takes test x cs z ∙ ap (λ (n : ℕ). n ∷ filter test cs) e in
      contained_so c (filter test (x ∷ cs)) ((c ∷ []) ++ filter test cs) here (Contains-append_left (c ∷ []) (filter test cs) c (Contains-push [] c))
  | inr k ↦ elim (cases_Bool (test x)) [
    | inl z ↦ contained_so c (filter test (x ∷ cs)) ((x ∷ []) ++ filter test cs) (filter_takes test x cs z) (Contains-append_right (x ∷ []) (filter test cs) c (passing test cs c k y))
    | inr z ↦ contained_so c (filter test (x ∷ cs)) (filter test cs) (filter_drops test x cs z) (passing test cs c k y)
  ]
]

pub all_found : (certified : List ℕ) (from end : ℕ) (found : List ℕ) → IsPermutation (filter (λ c. nat_lt from c && nat_lt c end) certified) found → IsNonDecreasing found → AllBetween certified from end found
all_found certified from end found moved up =
    in_order certified from end found up
    (All-permutation (Inside certified from end) (filter (λ c. nat_lt from c && nat_lt c end) certified) found moved kept)
    (λ c k w v. Contains-permutation (filter (λ c. nat_lt from c && nat_lt c end) certified) found c moved (passing (λ c. nat_lt from c && nat_lt c end) certified c k (both_so from end c w v)))
  where
    kept : All (Inside certified from end) (filter (λ c. nat_lt from c && nat_lt c end) certified)
    kept k d w =
        let stands : Contains certified (get_or (filter (λ c. nat_lt from c && nat_lt c end) certified) k d) = All-filter (λ c. nat_lt from c && nat_lt c end) (Contains certified) certified (All-contains_itself certified) k d w in
        let inside = both_then from end (get_or (filter (λ c. nat_lt from c && nat_lt c end) certified) k d) (filter_passes (λ c. nat_lt from c && nat_lt c end) certified k d w) in
        let early = inside.0 in
        (omega (arith, early), inside.1, stands)

-- ---- the states of a stretch until a certified moment, and so on

abbrev pub HasKinds : (ℕ → StateKind) → Option ℕ → List ℕ → ℕ → ℕ → Type 0
HasKinds kind_at days certified from end = (t : ℕ) → from ≤ t → t < end → kind_at t ≡ (state_by days certified t).kind

-- the states of a stretch are listed up to a moment at which the last certification is this one
pub record Swept (days : Option ℕ) (certified : List ℕ) (start end from : ℕ) (last : Option ℕ) (old new : List (ℕ × StateKind)) : Type 0 where
  pub low : start ≤ from
  pub high : from < end
  pub last_is : last ≡ cert certified from
  pub are : (kind_at : ℕ → StateKind) → AreBefore kind_at start old → HasKinds kind_at days certified start end → AreBefore kind_at from new

pub sweep_begins : (days : Option ℕ) (certified : List ℕ) (start end : ℕ) (states : List (ℕ × StateKind)) → start < end → Swept days certified start end start (cert certified start) states states
sweep_begins days certified start end states w = record { low = omega arith; high = w; last_is = refl; are = λ kind_at so_far is. so_far }

still : (days : Option ℕ) (certified : List ℕ) (from to : ℕ) (last : Option ℕ) → last ≡ cert certified from → NoneBetween certified from to → (t : ℕ) → from ≤ t → t < to → (state_by days certified t).kind ≡ (state_of days last t).kind
still days certified from to last e none t w v = ap (λ o. (state_of days o t).kind) (sym (e ∙ cert_stays certified from t w (until certified none)))
  where
    until : (cs : List ℕ) → AllByRecursion (λ c. from < c → c < to → ⊥) cs → AllByRecursion (λ c. from < c → c ≤ t → ⊥) cs
    until [] h = tt
    until (c ∷ cs) h = (λ a b. h.0 a (omega (arith, b, v)), until cs h.1)

-- what the states of a certification until a moment or the end add
abbrev pub Adds : Option ℕ → Option ℕ → ℕ → ℕ → List (ℕ × StateKind) → List (ℕ × StateKind) → Type 0
Adds days last from to old new = (kind_at : ℕ → StateKind) → AreBefore kind_at from old → ((t : ℕ) → from ≤ t → t < to → kind_at t ≡ (state_of days last t).kind) → AreBefore kind_at to new

pub sweep_on : (days : Option ℕ) (certified : List ℕ) (start end from c : ℕ) (more : List ℕ) (last : Option ℕ) (first old new : List (ℕ × StateKind)) → Swept days certified start end from last first old → AllBetween certified from end (c ∷ more) → Adds days last from c old new → Swept days certified start end c (Some c) first new
sweep_on days certified start end from c more last first old new h found adds = record {
  low = omega (arith, h.low, found.0);
  high = found.1;
  last_is = sym (cert_at certified c found.2);
  are = λ kind_at so_far is. adds kind_at (h.are kind_at so_far is) (λ t w v. is t (omega (arith, h.low, w)) (omega (arith, v, found.1)) ∙ still days certified from c last h.last_is found.3 t w v);
}

pub sweep_ends : (days : Option ℕ) (certified : List ℕ) (start end from : ℕ) (last : Option ℕ) (first old new : List (ℕ × StateKind)) → Swept days certified start end from last first old → AllBetween certified from end [] → Adds days last from end old new → (kind_at : ℕ → StateKind) → AreBefore kind_at start first → HasKinds kind_at days certified start end → AreBefore kind_at end new
sweep_ends days certified start end from last first old new h none adds kind_at so_far is =
    adds kind_at (h.are kind_at so_far is) (λ t w v. is t (omega (arith, h.low, w)) v ∙ still days certified from end last h.last_is none t w v)

-- ---- what is left of the found ones

pub next_found : (found : List ℕ) (i c : ℕ) → i < length found → c ≡ get_or found i c → drop i found ≡ c ∷ drop (i + 1) found
next_found found i c h e =
    let whole : drop i found ≡ get_or found i c ∷ drop (i + 1) found = rw add-one (drop-cons found i c h) in
    whole ∙ ap (λ (n : ℕ). n ∷ drop (i + 1) found) (sym e)

no_items : (l : List ℕ) → length l ≡ 0 → l ≡ []
no_items [] h = refl
no_items (x ∷ l) h = absurd (omega arith)

pub none_left : (found : List ℕ) (i : ℕ) → length found ≤ i → drop i found ≡ []
none_left found i h = no_items (drop i found) (omega (arith, length-drop i found))
