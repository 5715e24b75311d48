-- A command that was kept under a key: with a command more, in each history that goes on, and as it is stored.
use Rattle.std.proofs.Common.{◌≡◌, ◌∙◌, ℕ, suc, List, Option, [], ◌∷◌, ◌++◌, ◌&&◌, ◌||◌, Bool, true, false, Some, None, length, is_none, bytes_eq, option_map, if◌then◌else◌, refl, sym, ap, ap₂}
use Rattle.std.proofs.lemmas.Bool.{and_parts}
use Rattle.std.proofs.lemmas.List.{append-nil, append_assoc}
use Rattle.std.proofs.lemmas.Slice.Eq.{bytes_eq-Decides}
use Rattle.std.specs.List.{list_any}
use Rattle.std.specs.Option.{option_or}
use Rattle.reg_base.specs.declared.entity.Entity.{Entity}
use Rattle.reg_terms.specs.declared.command.Stamped.{Stamped}
use Rattle.reg_wire.specs.Payload.{command_bytes}
use Rattle.reg_machine.specs.History.{facts}
use Rattle.reg_machine.specs.Ids.{made_id}
use Rattle.reg_machine.specs.Keys.{KeptCommand, as_found, caller_text, is_free, is_keyed, is_that_key, kept_after, keyed, keyed_from}

-- ---- the same in each history that goes on

still_kept : (c : Bool) (x kept : KeptCommand) (o p : Option KeptCommand) → (o ≡ Some kept → p ≡ Some kept) → (if c then Some x else o) ≡ Some kept → (if c then Some x else p) ≡ Some kept
still_kept true x kept o p on h = h
still_kept false x kept o p on h = on h

more_from : (before ss more : List Stamped) (by : Entity) (key : List ℕ) (kept : KeptCommand) → keyed_from before ss by key ≡ Some kept → keyed_from before (ss ++ more) by key ≡ Some kept
more_from before [] more by key kept h = absurd (let clash : ⊥ = cc in clash)
more_from before (s ∷ ss) more by key kept h = still_kept (is_keyed by key s) (kept_after before s) kept (keyed_from (before ++ s ∷ []) ss by key) (keyed_from (before ++ s ∷ []) (ss ++ more) by key) (more_from (before ++ s ∷ []) ss more by key kept) h

pub keyed_more : (history more : List Stamped) (by : Entity) (key : List ℕ) (kept : KeptCommand) → keyed history by key ≡ Some kept → keyed (history ++ more) by key ≡ Some kept
unfolding keyed
keyed_more history more by key kept h = more_from [] history more by key kept h

-- ---- a command more

either : (c : Bool) (x : KeptCommand) (o p q : Option KeptCommand) → o ≡ option_or p q → (if c then Some x else o) ≡ option_or (if c then Some x else p) q
either true x o p q h = refl
either false x o p q h = h

push_from : (before ss : List Stamped) (s : Stamped) (by : Entity) (key : List ℕ) → keyed_from before (ss ++ s ∷ []) by key ≡ option_or (keyed_from before ss by key) (if is_keyed by key s then Some (kept_after (before ++ ss) s) else None)
push_from before [] s by key = ap (λ (l : List Stamped). if is_keyed by key s then Some (kept_after l s) else None) (sym (append-nil before))
push_from before (x ∷ ss) s by key =
    either (is_keyed by key x) (kept_after before x) (keyed_from (before ++ x ∷ []) (ss ++ s ∷ []) by key) (keyed_from (before ++ x ∷ []) ss by key) (if is_keyed by key s then Some (kept_after (before ++ x ∷ ss) s) else None)
    (push_from (before ++ x ∷ []) ss s by key
    ∙ ap (λ (l : List Stamped). option_or (keyed_from (before ++ x ∷ []) ss by key) (if is_keyed by key s then Some (kept_after l s) else None)) (append_assoc before (x ∷ []) ss))

pub keyed_push : (history : List Stamped) (s : Stamped) (by : Entity) (key : List ℕ) → keyed (history ++ s ∷ []) by key ≡ option_or (keyed history by key) (if is_keyed by key s then Some (kept_after history s) else None)
unfolding keyed
keyed_push history s by key = push_from [] history s by key

-- ---- a key that its caller hasn't used

none_is : {A : Type 0} (o : Option A) → is_none o ≡ true → o ≡ None
none_is None h = refl
none_is (Some x) h = absurd (let clash : ⊥ = cc in clash)

neither : (c b : Bool) (x : KeptCommand) (o : Option KeptCommand) → (is_none o ≡ true → b ≡ false) → is_none (if c then Some x else o) ≡ true → (c || b) ≡ false
neither true b x o on h = absurd (let clash : ⊥ = cc in clash)
neither false b x o on h = on h

unused_from : (before ss : List Stamped) (by : Entity) (key : List ℕ) → is_none (keyed_from before ss by key) ≡ true → list_any (is_keyed by key) ss ≡ false
unused_from before [] by key h = refl
unused_from before (s ∷ ss) by key h = neither (is_keyed by key s) (list_any (is_keyed by key) ss) (kept_after before s) (keyed_from (before ++ s ∷ []) ss by key) (unused_from (before ++ s ∷ []) ss by key) h

pub free_unused : (history : List Stamped) (by : Entity) (key : List ℕ) → is_free history by (Some key) ≡ true → list_any (is_keyed by key) history ≡ false
unfolding keyed
free_unused history by key h = unused_from [] history by key h

-- ---- callers of one text

same_from : (before ss : List Stamped) (a b : Entity) (key : List ℕ) → caller_text a ≡ caller_text b → keyed_from before ss a key ≡ keyed_from before ss b key
same_from before [] a b key e = refl
same_from before (s ∷ ss) a b key e = ap₂ (λ (t : List ℕ) (o : Option KeptCommand). if bytes_eq (caller_text s.by) t && is_that_key key s.key then Some (kept_after before s) else o) e (same_from (before ++ s ∷ []) ss a b key e)

same_caller : (history : List Stamped) (a b : Entity) (key : List ℕ) → caller_text a ≡ caller_text b → keyed history a key ≡ keyed history b key
unfolding keyed
same_caller history a b key e = same_from [] history a b key e

that_key : (key : List ℕ) (o : Option (List ℕ)) → is_that_key key o ≡ true → o ≡ Some key
that_key key None h = absurd (let clash : ⊥ = cc in clash)
that_key key (Some other) h = ap Some ((bytes_eq-Decides other key).0 h)

-- whose key it would be has no command under it yet
none_yet : (history : List Stamped) (s : Stamped) (by : Entity) (key : List ℕ) → is_free history s.by s.key ≡ true → is_keyed by key s ≡ true → keyed history by key ≡ None
none_yet history s by key free is =
    let parts = and_parts (bytes_eq (caller_text s.by) (caller_text by)) (is_that_key key s.key) is in
    let caller : caller_text s.by ≡ caller_text by = (bytes_eq-Decides (caller_text s.by) (caller_text by)).0 parts.0 in
    let now : s.key ≡ Some key = that_key key s.key parts.1 in
    let unused : is_none (keyed history s.by key) ≡ true = ap (λ (k : Option (List ℕ)). is_free history s.by k) (sym now) ∙ free in
    sym (same_caller history s.by by key caller) ∙ none_is (keyed history s.by key) unused

-- ---- as it is stored

found_after : (history : List Stamped) (s : Stamped) (number : ℕ) (id : Option ℕ) → number ≡ suc (length history) → id ≡ made_id s.command (facts history s.at) → as_found (kept_after history s) ≡ (number, id, command_bytes s.command)
found_after history s number id is made = ap₂ (λ (n : ℕ) (i : Option ℕ). (n, i, command_bytes s.command)) (sym is) (sym made)

stored : (c : Bool) (t : ℕ × Option ℕ × List ℕ) (k : KeptCommand) (was : Option (ℕ × Option ℕ × List ℕ)) (o : Option KeptCommand) → as_found k ≡ t → was ≡ option_map as_found o → (c ≡ true → o ≡ None) → (if c then Some t else was) ≡ option_map as_found (option_or o (if c then Some k else None))
stored true t k was o same are none = ap Some (sym same) ∙ sym (ap (λ (x : Option KeptCommand). option_map as_found (option_or x (Some k))) (none refl))
stored false t k was None same are none = are
stored false t k was (Some x) same are none = are

-- what is stored tells the same with a command more, which is put there under its key
pub tied_push : (history : List Stamped) (s : Stamped) (number : ℕ) (id : Option ℕ) (old new : List ℕ → List ℕ → Option (ℕ × Option ℕ × List ℕ)) → number ≡ suc (length history) → id ≡ made_id s.command (facts history s.at) → is_free history s.by s.key ≡ true
    → ((by : Entity) (key : List ℕ) → old (caller_text by) key ≡ option_map as_found (keyed history by key))
    → ((b k : List ℕ) → new b k ≡ (if bytes_eq (caller_text s.by) b && is_that_key k s.key then Some (number, id, command_bytes s.command) else old b k))
    → (by : Entity) (key : List ℕ) → new (caller_text by) key ≡ option_map as_found (keyed (history ++ s ∷ []) by key)
tied_push history s number id old new is made free tied put by key =
    put (caller_text by) key
    ∙ (stored (is_keyed by key s) (number, id, command_bytes s.command) (kept_after history s) (old (caller_text by) key) (keyed history by key) (found_after history s number id is made) (tied by key) (none_yet history s by key free)
    ∙ ap (option_map as_found) (sym (keyed_push history s by key)))

none_kept : (by : Entity) (key : List ℕ) → option_map as_found (keyed [] by key) ≡ None
unfolding keyed
none_kept by key = refl

-- and nothing where there is no command
pub tied_start : (history : List Stamped) (kept : List ℕ → List ℕ → Option (ℕ × Option ℕ × List ℕ)) → history ≡ [] → ((b k : List ℕ) → kept b k ≡ None) → (by : Entity) (key : List ℕ) → kept (caller_text by) key ≡ option_map as_found (keyed history by key)
tied_start history kept empty none by key = none (caller_text by) key ∙ sym (ap (λ (h : List Stamped). option_map as_found (keyed h by key)) empty ∙ none_kept by key)
