-- Members that are put into an object: which keys there are, and what comes of taking one away.
use Rattle.std.proofs.Common.{◌≡◌, ℕ, ◌≤◌, Bool, true, false, cond, List, Option, Some, None, refl, sym, ap, ◌∙◌, arith}
use Rattle.std.specs.List.{list_any}
use Rattle.std.specs.Str.{bytes_eq}
use Rattle.std.specs.Ordering.{is_eq, match_ordering, nat_cmp}
use Rattle.std.specs.Cmp.Lexicographic.{slice_cmp}
use Rattle.std.specs.declared.cmp.Ordering.{Ordering}
use Rattle.std.specs.declared.cmp.Ordering.TheVariants.{Less, Equal, Greater}
use Rattle.std.proofs.lemmas.Bool.{false≢true}
use Rattle.std.proofs.lemmas.Map.Text.{is_eq-slice_cmp}
use Rattle.std.proofs.lemmas.Slice.Eq.{bytes_eq-Decides}
use Rattle.serde_json.specs.Data.{Data, Members, no_members, member, put, depth, members_depth}
use Rattle.serde_json.specs.Find.{get_member}
use Rattle.reg_json.specs.Fields.{key_list, other_key}
use Rattle.reg_export.specs.Telling.{without}

-- ---- keys that differ

pub differ : (k l : List ℕ) → bytes_eq k l ≡ false → k ≡ l → ⊥
differ k l h e = false≢true (sym h ∙ (bytes_eq-Decides k l).1 e)

same_key : (k : List ℕ) → bytes_eq k k ≡ true
same_key k = (bytes_eq-Decides k k).1 refl

-- nothing stands under a key: not the first member, and none behind it
absent_at : (o : Ordering) (x : Option Data) (e : Data) → match_ordering o x (Some e) x ≡ None → (is_eq o ≡ false) × (x ≡ None)
absent_at Less x e h = (refl, h)
absent_at Equal x e h = absurd (let clash : ⊥ = cc in clash)
absent_at Greater x e h = (refl, h)

absent_parts : (k l : List ℕ) (e : Data) (ms : Members) → get_member k (member l e ms) ≡ None → (bytes_eq k l ≡ false) × (get_member k ms ≡ None)
absent_parts k l e ms h =
    let parts = absent_at (slice_cmp nat_cmp k l) (get_member k ms) e h in
    (sym (is_eq-slice_cmp k l) ∙ parts.0, parts.1)

-- ---- a member taken away

without_absent : (k : List ℕ) (ms : Members) → get_member k ms ≡ None → without k ms ≡ ms
without_absent k no_members h = refl
without_absent k (member l e ms) h =
    let parts = absent_parts k l e ms h in
    rw (parts.0, without_absent k ms parts.1) refl

without_at : (o : Ordering) (k l : List ℕ) (d e : Data) (ms : Members) → slice_cmp nat_cmp k l ≡ o → bytes_eq k l ≡ false → without k ms ≡ ms → without k (put k d ms) ≡ ms
    → without k (match_ordering o (member k d (member l e ms)) (member l d ms) (member l e (put k d ms))) ≡ member l e ms
without_at Less k l d e ms is other none later = rw (same_key k, other, none) refl
without_at Equal k l d e ms is other none later = absurd (false≢true (sym other ∙ (sym (is_eq-slice_cmp k l) ∙ ap is_eq is)))
without_at Greater k l d e ms is other none later = rw (other, later) refl

-- what was put under a new key is taken away again
pub without_put : (k : List ℕ) (d : Data) (ms : Members) → get_member k ms ≡ None → without k (put k d ms) ≡ ms
without_put k d no_members h = rw (same_key k) refl
without_put k d (member l e ms) h =
    let parts = absent_parts k l e ms h in
    without_at (slice_cmp nat_cmp k l) k l d e ms refl parts.0 (without_absent k ms parts.1) (without_put k d ms parts.1)

-- ---- known keys

abbrev pub is_known : List (List ℕ) → List ℕ → Bool
is_known known k = list_any (λ word. bytes_eq word k) known

-- no key of these members is another one
abbrev pub AreKnown : List (List ℕ) → Members → Type 0
AreKnown known ms = other_key known (key_list ms) ≡ None

known_parts : (b : Bool) (k : List ℕ) (others : Option (List ℕ)) → cond b others (Some k) ≡ None → (b ≡ true) × (others ≡ None)
known_parts true k others h = (refl, h)
known_parts false k others h = absurd (let clash : ⊥ = cc in clash)

known_at : (o : Ordering) (known : List (List ℕ)) (k l : List ℕ) (d e : Data) (ms : Members) → is_known known k ≡ true → is_known known l ≡ true → AreKnown known ms → AreKnown known (put k d ms)
    → AreKnown known (match_ordering o (member k d (member l e ms)) (member l d ms) (member l e (put k d ms)))
known_at Less known k l d e ms a b all later = rw (a, b) all
known_at Equal known k l d e ms a b all later = rw b all
known_at Greater known k l d e ms a b all later = rw b later

pub known_put : (known : List (List ℕ)) (k : List ℕ) (d : Data) (ms : Members) → is_known known k ≡ true → AreKnown known ms → AreKnown known (put k d ms)
known_put known k d no_members a all = rw a refl
known_put known k d (member l e ms) a all =
    let parts = known_parts (is_known known l) l (other_key known (key_list ms)) all in
    known_at (slice_cmp nat_cmp k l) known k l d e ms a parts.0 parts.1 (known_put known k d ms a parts.1)

-- ---- how deep members nest

depth_at : (o : Ordering) (n : ℕ) (k l : List ℕ) (d e : Data) (ms : Members) → depth d ≤ n → depth e ≤ n → members_depth ms ≤ n → members_depth (put k d ms) ≤ n
    → members_depth (match_ordering o (member k d (member l e ms)) (member l d ms) (member l e (put k d ms))) ≤ n
depth_at Less n k l d e ms a b rest later = omega (arith, a, b, rest)
depth_at Equal n k l d e ms a b rest later = omega (arith, a, rest)
depth_at Greater n k l d e ms a b rest later = omega (arith, b, later)

pub depth_put : (n : ℕ) (k : List ℕ) (d : Data) (ms : Members) → depth d ≤ n → members_depth ms ≤ n → members_depth (put k d ms) ≤ n
depth_put n k d no_members a rest = omega (arith, a)
depth_put n k d (member l e ms) a rest =
    let first : depth e ≤ n = omega (arith, rest) in
    let others : members_depth ms ≤ n = omega (arith, rest) in
    depth_at (slice_cmp nat_cmp k l) n k l d e ms a first others (depth_put n k d ms a others)
