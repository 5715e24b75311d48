-- A key's place among keys in order, and what comes of putting a part there.
use Rattle.std.proofs.Common.{◌≡◌, ℕ, suc, ◌<◌, length, true, false, List, [], ◌∷◌, Option, Some, None, refl, sym, ap, ◌∙◌, arith}
use Rattle.std.specs.Prelude.{option_map}
use Rattle.std.specs.List.{insert, remove}
use Rattle.std.specs.Ordering.{is_eq, match_ordering, nat_cmp}
use Rattle.std.specs.Cmp.Lexicographic.{slice_cmp}
use Rattle.std.specs.declared.cmp.Ordering.{Ordering}
use Rattle.std.specs.declared.cmp.Ordering.TheVariants.{Less, Equal, Greater}
use Rattle.std.proofs.lemmas.Bool.{false≢true, true≢false}
use Rattle.std.proofs.lemmas.Map.Text.{is_eq-slice_cmp}
use Rattle.std.proofs.lemmas.Slice.Eq.{bytes_eq-Decides}
use Rattle.serde_json.specs.Data.{Data, Members, member, put}
use Rattle.reg_export.specs.declared.members.Part.{Part}
use Rattle.reg_export.specs.Lines.{with_data}
use Rattle.reg_export.specs.Members.{Placed, is_there, keys_before, members_of, part_data}

same_key : (k l : List ℕ) → slice_cmp nat_cmp k l ≡ Equal → k ≡ l
same_key k l h = (bytes_eq-Decides k l).0 (sym (is_eq-slice_cmp k l) ∙ ap is_eq h)

-- a key that is there stands among these
pub there_within : (key : List ℕ) (ps : List Placed) → is_there key ps ≡ true → keys_before key ps < length ps
there_within key [] h = absurd (false≢true h)
there_within key (p ∷ ps) h = at (slice_cmp nat_cmp key p.0.now) (λ k. there_within key ps k) h
  where
    at : (o : Ordering) → (is_there key ps ≡ true → keys_before key ps < length ps) → match_ordering o false true (is_there key ps) ≡ true → match_ordering o 0 0 (suc (keys_before key ps)) < suc (length ps)
    at Less later h = absurd (false≢true h)
    at Equal later h = omega arith
    at Greater later h = let more = later h in omega (arith, more)

-- a new key
pub put_new : (x : Placed) (ps : List Placed) → is_there x.0.now ps ≡ false → put x.0.now (part_data x.1) (members_of ps) ≡ members_of (insert ps (keys_before x.0.now ps) x)
put_new x [] h = refl
put_new x (p ∷ ps) h = at (slice_cmp nat_cmp x.0.now p.0.now) (λ k. put_new x ps k) h
  where
    at : (o : Ordering) → (is_there x.0.now ps ≡ false → put x.0.now (part_data x.1) (members_of ps) ≡ members_of (insert ps (keys_before x.0.now ps) x)) → match_ordering o false true (is_there x.0.now ps) ≡ false
        → match_ordering o (member x.0.now (part_data x.1) (members_of (p ∷ ps))) (member p.0.now (part_data x.1) (members_of ps)) (member p.0.now (part_data p.1) (put x.0.now (part_data x.1) (members_of ps)))
        ≡ members_of (insert (p ∷ ps) (match_ordering o 0 0 (suc (keys_before x.0.now ps))) x)
    at Less later h = refl
    at Equal later h = absurd (true≢false h)
    at Greater later h = ap (λ (ms : Members). member p.0.now (part_data p.1) ms) (later h)

-- a key that is there
pub put_over : (x : Placed) (ps : List Placed) → is_there x.0.now ps ≡ true → put x.0.now (part_data x.1) (members_of ps) ≡ members_of (insert (remove ps (keys_before x.0.now ps)) (keys_before x.0.now ps) x)
put_over x [] h = absurd (false≢true h)
put_over x (p ∷ ps) h = at (slice_cmp nat_cmp x.0.now p.0.now) (λ k. put_over x ps k) refl h
  where
    at : (o : Ordering) → (is_there x.0.now ps ≡ true → put x.0.now (part_data x.1) (members_of ps) ≡ members_of (insert (remove ps (keys_before x.0.now ps)) (keys_before x.0.now ps) x)) → slice_cmp nat_cmp x.0.now p.0.now ≡ o → match_ordering o false true (is_there x.0.now ps) ≡ true
        → match_ordering o (member x.0.now (part_data x.1) (members_of (p ∷ ps))) (member p.0.now (part_data x.1) (members_of ps)) (member p.0.now (part_data p.1) (put x.0.now (part_data x.1) (members_of ps)))
        ≡ members_of (insert (remove (p ∷ ps) (match_ordering o 0 0 (suc (keys_before x.0.now ps)))) (match_ordering o 0 0 (suc (keys_before x.0.now ps))) x)
    at Less later same h = absurd (false≢true h)
    at Equal later same h = ap (λ (k : List ℕ). member k (part_data x.1) (members_of ps)) (sym (same_key x.0.now p.0.now same))
    at Greater later same h = ap (λ (ms : Members). member p.0.now (part_data p.1) ms) (later h)

-- what is put where there is a part, and where there is none
pub part_put : (key : List ℕ) (o : Option Data) (p : Part) (ms : Members) → option_map part_data (Some p) ≡ o → with_data key o ms ≡ put key (part_data p) ms
part_put key o p ms is = ap (λ (x : Option Data). with_data key x ms) (sym is)

pub none_put : (key : List ℕ) (o : Option Data) (ms : Members) → option_map part_data None ≡ o → with_data key o ms ≡ ms
none_put key o ms is = ap (λ (x : Option Data). with_data key x ms) (sym is)

pub ruleset put_lemmas = (part_put, none_put)
