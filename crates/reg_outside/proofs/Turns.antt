-- Turns of a listener in memory.
use Rattle.std.proofs.Common.{◌≡◌, ℕ, suc, zero, ◌+◌, ◌<◌, ◌||◌, nat_lt, cond, not, List, [], ◌∷◌, length, get_or, set, Bool, true, false, Option, Some, None, Result, Ok, Err, refl, sym, ◌∙◌, ap, subst, arith, map}
use Rattle.std.proofs.lemmas.List.Quantifiers.{position-Some}
use Rattle.std.proofs.lemmas.Bool.Decides.{nat_tests}
use Rattle.std.specs.Prelude.{filter, find, option_map, IfSome, IfOk, OnErr}
use Rattle.std.specs.List.{list_any, position, position_or_len, remove}
use Rattle.reg_outside.specs.declared.listener.Accepted.{Accepted}
use Rattle.reg_outside.specs.declared.memory_listener.GivenBack.{GivenBack}
use Rattle.reg_outside.specs.declared.memory_listener.Incoming.{Incoming}
use Rattle.reg_outside.specs.declared.memory_listener.Incoming.TheVariants.{Opens, Sends}
use Rattle.reg_outside.specs.Connections.{Accepts, Arrival, Back, ConnState, Connections, HasTurn, is_open_one, next_turn, seen_in_memory, with_more, with_more_in_memory, sends}
use Rattle.reg_outside.specs.Memory.{Calls}
use Rattle.reg_outside.specs.MemoryListener.{GivesTurn, ListenerState, arrival_of, back_in_memory, is_open_here, next_turn_here, told_in_memory, without}

-- a test of a list's images
any_of_map : {X Y : Type 0} (p : Y → Bool) (f : X → Y) (xs : List X) → list_any p (map f xs) ≡ list_any (λ x. p (f x)) xs
any_of_map p f [] = refl
any_of_map p f (x ∷ xs) = ap (λ (b : Bool). p (f x) || b) (any_of_map p f xs)

find_of_map : {X Y : Type 0} (p : Y → Bool) (f : X → Y) (xs : List X) → find p (map f xs) ≡ option_map f (find (λ x. p (f x)) xs)
find_of_map p f [] = refl
find_of_map p f (x ∷ xs) = ap (λ o. cond (p (f x)) (Some (f x)) o) (find_of_map p f xs) ∙ go (p (f x))
  where
    go : (b : Bool) → cond b (Some (f x)) (option_map f (find (λ x. p (f x)) xs)) ≡ option_map f (cond b (Some x) (find (λ x. p (f x)) xs))
    go true = refl
    go false = refl

filter_of_map : {X Y : Type 0} (p : Y → Bool) (f : X → Y) (xs : List X) → filter p (map f xs) ≡ map f (filter (λ x. p (f x)) xs)
filter_of_map p f [] = refl
filter_of_map p f (x ∷ xs) = ap (λ l. cond (p (f x)) (f x ∷ l) l) (filter_of_map p f xs) ∙ go (p (f x))
  where
    go : (b : Bool) → cond b (f x ∷ map f (filter (λ x. p (f x)) xs)) (map f (filter (λ x. p (f x)) xs)) ≡ map f (cond b (x ∷ filter (λ x. p (f x)) xs) (filter (λ x. p (f x)) xs))
    go true = refl
    go false = refl

-- the next turn, as it is told
next_turn_told : (backs : List GivenBack) (coming : List Incoming) → next_turn (map back_in_memory backs) (map arrival_of coming) ≡ map arrival_of (next_turn_here backs coming)
next_turn_told backs [] = refl
next_turn_told backs (Opens conn ∷ more) = refl
next_turn_told backs (Sends number bytes ∷ more) =
    ap (λ (b : Bool). cond b (sends number bytes.items ∷ map arrival_of more) (next_turn (map back_in_memory backs) (map arrival_of more))) (any_of_map (is_open_one number) back_in_memory backs)
    ∙ go (list_any (is_open_here number) backs) (next_turn_told backs more)
  where
    go : (b : Bool) → next_turn (map back_in_memory backs) (map arrival_of more) ≡ map arrival_of (next_turn_here backs more) → cond b (sends number bytes.items ∷ map arrival_of more) (next_turn (map back_in_memory backs) (map arrival_of more))
        ≡ map arrival_of (cond (not b) (next_turn_here backs more) (Sends number bytes ∷ more))
    go true later = refl
    go false later = later

-- what is told after an open connection was given
abbrev told_after : ListenerState → List Incoming → ℕ → Connections
told_after old more n = record (told_in_memory old) {
  coming = map arrival_of more;
  out = old.out + 1;
  given_back = filter (λ (back : Back). not (is_open_one n back)) (map back_in_memory old.given_back);
}

-- a turn, as it is told
turn_told : (left : List Incoming) (a : Accepted ConnState) (old new : ListenerState) → GivesTurn left (Some a) old new
    → HasTurn (map arrival_of left) a.number (seen_in_memory a.conn) (told_in_memory old) (told_in_memory new)
turn_told [] a old new h = h
turn_told (Opens conn ∷ more) a old new h = (ap (λ (b : Accepted ConnState). b.number) h.0, ap (λ (b : Accepted ConnState). seen_in_memory b.conn) h.0, ap told_in_memory h.1)
turn_told (Sends number bytes ∷ more) a old new h =
    subst (λ (n : ℕ). (n ≡ number) × IfSome (find (is_open_one n) (told_in_memory old).given_back) (λ (back : Back). seen_in_memory a.conn ≡ with_more bytes.items back.conn) × (told_in_memory new ≡ told_after old more n)) (sym h.0) (refl, found, ap told_in_memory h.2 ∙ rest)
  where
    go : (o : Option GivenBack) → IfSome o (λ (back : GivenBack). a.conn ≡ with_more_in_memory bytes.items back.conn) → IfSome (option_map back_in_memory o) (λ (back : Back). seen_in_memory a.conn ≡ with_more bytes.items back.conn)
    go None has = has
    go (Some back) has = ap seen_in_memory has

    found : IfSome (find (is_open_one number) (map back_in_memory old.given_back)) (λ (back : Back). seen_in_memory a.conn ≡ with_more bytes.items back.conn)
    found = subst (λ (o : Option Back). IfSome o (λ (back : Back). seen_in_memory a.conn ≡ with_more bytes.items back.conn)) (sym (find_of_map (is_open_one number) back_in_memory old.given_back)) (go (find (is_open_here number) old.given_back) h.1)

    rest : told_in_memory (record old { coming = more; out = old.out + 1; given_back = without number old.given_back }) ≡ told_after old more number
    rest = ap (λ (l : List Back). record (told_in_memory old) { coming = map arrival_of more; out = old.out + 1; given_back = l }) (sym (filter_of_map (λ (back : Back). not (is_open_one number back)) back_in_memory old.given_back))

none_told : (left : List Incoming) (old new : ListenerState) → GivesTurn left None old new → (map arrival_of left ≡ []) × (new ≡ old)
none_told [] old new h = (refl, h)
none_told (first ∷ more) old new h = absurd h

-- what was given, as it is told
pub accepts_told : {E : Type 0} (r : Result (Option (Accepted ConnState)) E) (old new : ListenerState) (c d : Calls)
    → IfOk r (λ (found : Option (Accepted ConnState)). GivesTurn (next_turn_here old.given_back old.coming) found (record old { calls = c }) new) → OnErr r (new ≡ record old { calls = d })
    → Accepts seen_in_memory (Some (told_in_memory old)) (Some (told_in_memory new)) r
accepts_told (Ok (Some a)) old new c d given unchanged =
    subst (λ (l : List Arrival). HasTurn l a.number (seen_in_memory a.conn) (told_in_memory old) (told_in_memory new)) (sym (next_turn_told old.given_back old.coming))
    (turn_told (next_turn_here old.given_back old.coming) a (record old { calls = c }) new given)
accepts_told (Ok None) old new c d given unchanged =
    let h = none_told (next_turn_here old.given_back old.coming) (record old { calls = c }) new given in
    (next_turn_told old.given_back old.coming ∙ h.0, ap told_in_memory h.1)
accepts_told (Err e) old new c d given unchanged = ap told_in_memory unchanged

none_before : (n : ℕ) → true ≡ nat_lt 0 (suc n)
none_before n = grind (arith, nat_tests)

one_more : (m n : ℕ) → nat_lt m n ≡ nat_lt (1 + m) (suc n)
one_more m n = grind (arith, nat_tests)

-- an element passes exactly where it has a place
any_place : {X : Type 0} (p : X → Bool) (xs : List X) → list_any p xs ≡ nat_lt (position_or_len p xs) (length xs)
any_place p [] = refl
any_place p (x ∷ xs) = go (p x) (any_place p xs)
  where
    go : (b : Bool) → list_any p xs ≡ nat_lt (position_or_len p xs) (length xs) → (b || list_any p xs) ≡ nat_lt (cond (not b) (1 + position_or_len p xs) 0) (suc (length xs))
    go true later = none_before (length xs)
    go false later = later ∙ one_more (position_or_len p xs) (length xs)

pub has_place : {X : Type 0} (p : X → Bool) (xs : List X) → list_any p xs ≡ true → position p xs ≡ None → ⊥
has_place p xs some none = go (nat_lt (position_or_len p xs) (length xs)) (sym (any_place p xs) ∙ some) none
  where
    go : (b : Bool) → b ≡ true → cond b (Some (position_or_len p xs)) None ≡ None → ⊥
    go true passes absent = cc
    go false passes absent = cc

-- the first that passes is the one at its place
pub find_place : {X : Type 0} (p : X → Bool) (xs : List X) (i : ℕ) (d : X) → position p xs ≡ Some i → find p xs ≡ Some (get_or xs i d)
find_place p xs i d is = go xs i (position-Some p xs i d is)
  where
    go : (xs : List _) (i : ℕ) → (i < length xs) × (p (get_or xs i d) ≡ true) × ((k : ℕ) → k < i → p (get_or xs k d) ≡ false) → find p xs ≡ Some (get_or xs i d)
    go [] i h = absurd (omega (arith, h.0))
    go (x ∷ xs) zero h = ap (λ (b : Bool). cond b (Some x) (find p xs)) h.1
    go (x ∷ xs) (suc i) h = ap (λ (b : Bool). cond b (Some x) (find p xs)) (h.2 0 (omega arith)) ∙ go xs i (omega (arith, h.0), h.1, λ k below. h.2 (suc k) (omega (arith, below)))

-- one that is filtered out may be taken out before
pub filter_without : {X : Type 0} (p : X → Bool) (xs : List X) (i : ℕ) (y d : X) → i < length xs → p (get_or xs i d) ≡ false → filter p (remove (set xs i y) i) ≡ filter p xs
filter_without p [] i y d inside fails = absurd (omega (arith, inside))
filter_without p (x ∷ xs) zero y d inside fails = ap (λ (b : Bool). cond b (x ∷ filter p xs) (filter p xs)) (sym fails)
filter_without p (x ∷ xs) (suc i) y d inside fails = ap (λ l. cond (p x) (x ∷ l) l) (filter_without p xs i y d (omega (arith, inside)) fails)
