-- Groups that are members, after one membership more, one less, and one with another window.
use Rattle.std.proofs.Common.{◌≡◌, ◌++◌, ◌==◌, ℕ, List, [], ◌∷◌, Bool, true, false, not, Option, refl, sym, ap, ◌∙◌, append_assoc, filter, map, inl, inr}
use Rattle.std.specs.Prelude.{◌&&◌, ◌||◌}
use Rattle.std.specs.List.{list_any}
use Rattle.std.proofs.lemmas.List.{append-nil}
use Rattle.std.proofs.lemmas.Bool.{cases_Bool}
use Rattle.reg_terms.specs.declared.kinds.Member.{Member}
use Rattle.reg_terms.specs.declared.kinds.Member.TheVariants.{Person, Group}
use Rattle.reg_terms.specs.declared.rows.MemberRow.{MemberRow}
use Rattle.reg_terms.specs.Kinds.{same_member}
use Rattle.reg_facts.specs.declared.nest.Nest.{Nest}
use Rattle.reg_facts.specs.Edits.{windowed}
use Rattle.reg_terms.specs.Rows.{is_row, has_row, is_nested}
use Rattle.reg_facts.specs.Nests.{nest_in, nest_of, nests_of, is_nest, has_nest, without_nest}

turned : (a b : Bool) → (a && b) ≡ (b && a)
turned true true = refl
turned true false = refl
turned false true = refl
turned false false = refl

never : (a : Bool) → (a && false) ≡ false
never a = turned a false

-- one more
pub nests_push : (rows : List MemberRow) (row : MemberRow) → nests_of (rows ++ row ∷ []) ≡ nests_of rows ++ nest_of row
nests_push [] row = append-nil (nest_of row)
nests_push (r ∷ rows) row = ap (λ ns. nest_of r ++ ns) (nests_push rows row) ∙ sym (append_assoc (nest_of r) (nests_of rows) (nest_of row))

-- a group is among the nested exactly where a row has it as its member
nest_any : (g h : ℕ) (rows : List MemberRow) → list_any (is_nest h g) (nests_of rows) ≡ has_row g (Group h) rows
nest_any g h [] = refl
nest_any g h (row ∷ rows) = by_member row.member (nest_any g h rows)
  where
    by_member : (m : Member) → list_any (is_nest h g) (nests_of rows) ≡ has_row g (Group h) rows → list_any (is_nest h g) (nest_in row.group m ++ nests_of rows) ≡ (((row.group == g) && same_member m (Group h)) || has_row g (Group h) rows)
    by_member (Person s) rest = rw (never (row.group == g)) rest
    by_member (Group k) rest = rw (turned (k == h) (row.group == g), rest) refl

pub nested_any : (h : ℕ) (rows : List MemberRow) → list_any (λ (nest : Nest). nest.nested == h) (nests_of rows) ≡ is_nested h rows
nested_any h [] = refl
nested_any h (row ∷ rows) = by_member row.member (nested_any h rows)
  where
    by_member : (m : Member) → list_any (λ (nest : Nest). nest.nested == h) (nests_of rows) ≡ is_nested h rows → list_any (λ (nest : Nest). nest.nested == h) (nest_in row.group m ++ nests_of rows) ≡ (same_member m (Group h) || is_nested h rows)
    by_member (Person s) rest = rest
    by_member (Group k) rest = ap (λ b. (k == h) || b) rest

-- what isn't a member isn't among the nested
pub none_nested : (g : ℕ) (m : Member) (rows : List MemberRow) → has_row g m rows ≡ false → has_nest g m (nests_of rows) ≡ false
none_nested g (Person s) rows h = refl
none_nested g (Group h) rows none = nest_any g h rows ∙ none

-- one less
pub nests_less : (g : ℕ) (m : Member) (rows : List MemberRow) → nests_of (filter (λ (row : MemberRow). not (is_row g m row)) rows) ≡ without_nest g m (nests_of rows)
nests_less g (Person s) [] = refl
nests_less g (Person s) (row ∷ rows) = elim (cases_Bool (is_row g (Person s) row)) [
  | inl t ↦ rw t (nests_less g (Person s) rows ∙ sym (ap (λ ns. ns ++ nests_of rows) (of_person row.member t)))
  | inr t ↦ rw t (ap (λ ns. nest_of row ++ ns) (nests_less g (Person s) rows))
]
  where
    of_person : (m : Member) → ((row.group == g) && same_member m (Person s)) ≡ true → nest_in row.group m ≡ []
    of_person (Person p) t = refl
    of_person (Group k) t = absurd (let clash : false ≡ true = rw (never (row.group == g)) at t in let none : ⊥ = cc in none)
nests_less g (Group h) [] = refl
nests_less g (Group h) (row ∷ rows) = elim (cases_Bool (is_row g (Group h) row)) [
  | inl t ↦ rw t (nests_less g (Group h) rows ∙ sym (gone row.member t))
  | inr t ↦ rw t (ap (λ ns. nest_of row ++ ns) (nests_less g (Group h) rows) ∙ sym (stays row.member t))
]
  where
    gone : (m : Member) → ((row.group == g) && same_member m (Group h)) ≡ true → without_nest g (Group h) (nest_in row.group m ++ nests_of rows) ≡ without_nest g (Group h) (nests_of rows)
    gone (Person s) t = refl
    gone (Group k) t = rw (turned (k == h) (row.group == g) ∙ t) refl

    stays : (m : Member) → ((row.group == g) && same_member m (Group h)) ≡ false → without_nest g (Group h) (nest_in row.group m ++ nests_of rows) ≡ nest_in row.group m ++ without_nest g (Group h) (nests_of rows)
    stays (Person s) t = refl
    stays (Group k) t = rw (turned (k == h) (row.group == g) ∙ t) refl

-- another window
pub nests_redated : (from : ℕ) (until : Option ℕ) (g : ℕ) (m : Member) (rows : List MemberRow) → nests_of (map (windowed from until g m) rows) ≡ nests_of rows
nests_redated from until g m [] = refl
nests_redated from until g m (row ∷ rows) = elim (cases_Bool (is_row g m row)) [
  | inl t ↦ rw (t, nests_redated from until g m rows) refl
  | inr t ↦ rw (t, nests_redated from until g m rows) refl
]
