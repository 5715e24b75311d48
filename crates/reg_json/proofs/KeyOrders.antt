-- Members of an object that have changed places make the same data, and so are read alike.
use Rattle.std.proofs.Common.{◌≡◌, ℕ, List, Option, Some, None, refl, sym, ap, ◌∙◌, inl, inr}
use Rattle.std.specs.Prelude.{option_and_then}
use Rattle.std.specs.declared.cmp.Ordering.{Ordering}
use Rattle.std.specs.declared.cmp.Ordering.TheVariants.{Less, Equal, Greater}
use Rattle.std.specs.Ordering.{nat_cmp, ordering_reverse}
use Rattle.std.specs.Cmp.{alike_right}
use Rattle.std.specs.Cmp.Lexicographic.{slice_cmp, nat_list_cmp_total}
use Rattle.std.specs.Ordering.{is_eq}
use Rattle.std.proofs.lemmas.Bool.{le-leb}
use Rattle.std.proofs.lemmas.Map.Text.{is_eq-slice_cmp}
use Rattle.std.proofs.lemmas.Slice.Eq.{bytes_eq-Decides}
use Rattle.json.specs.Json as json
use Rattle.serde_json.specs.Data.{Data, Members, no_members, member, put}
use Rattle.serde_json.specs.Read.{of_json, of_members}
use Rattle.reg_json.specs.Orders.{HoldsObject, AreTurned, Swapped}
use Rattle.reg_json.specs.Reading.{data_of, reading_of}

abbrev cmp : List ℕ → List ℕ → Ordering
cmp k l = slice_cmp nat_cmp k l

Less_Equal : Less ≡ Equal → ⊥
Less_Equal e = cc

Less_Greater : Less ≡ Greater → ⊥
Less_Greater e = cc

-- two keys put in front of a third, or behind it
at_head : (k l m : List ℕ) (d e f : Data) (ms : Members) → cmp k l ≡ Less → cmp l k ≡ Greater → put k d (put l e ms) ≡ put l e (put k d ms) → (r s : Ordering) → cmp k m ≡ r → cmp l m ≡ s → put k d (put l e (member m f ms)) ≡ put l e (put k d (member m f ms))
at_head k l m d e f ms t u more Less Less p q = rw (q, p, t, u, q) refl
at_head k l m d e f ms t u more Equal Less p q = absurd (Less_Equal (sym (nat_list_cmp_total.trans k l m t q) ∙ p))
at_head k l m d e f ms t u more Greater Less p q = absurd (Less_Greater (sym (nat_list_cmp_total.trans k l m t q) ∙ p))
at_head k l m d e f ms t u more Less Equal p q = rw (q, p, u, q) refl
at_head k l m d e f ms t u more Equal Equal p q = absurd (Less_Equal (sym t ∙ alike_right nat_list_cmp_total l m k q ∙ p))
at_head k l m d e f ms t u more Greater Equal p q = absurd (Less_Greater (sym t ∙ alike_right nat_list_cmp_total l m k q ∙ p))
at_head k l m d e f ms t u more Less Greater p q = rw (q, p, u, q) refl
at_head k l m d e f ms t u more Equal Greater p q = rw (q, p, q) refl
at_head k l m d e f ms t u more Greater Greater p q = rw (q, p, q) (ap (λ (rest : Members). member m f rest) more)

-- the lesser key goes in first or last
lesser : (k l : List ℕ) (d e : Data) → cmp k l ≡ Less → cmp l k ≡ Greater → (ms : Members) → put k d (put l e ms) ≡ put l e (put k d ms)
lesser k l d e t u no_members = rw (t, u) refl
lesser k l d e t u (member m f ms) = at_head k l m d e f ms t u (lesser k l d e t u ms) (cmp k m) (cmp l m) refl refl

reversed : (k l : List ℕ) (o : Ordering) → cmp k l ≡ o → cmp l k ≡ ordering_reverse o
reversed k l o e = nat_list_cmp_total.antisymm l k ∙ ap ordering_reverse e

-- two keys that differ go in in any order
either_first : (k l : List ℕ) (d e : Data) (ms : Members) → (k ≡ l → ⊥) → (o : Ordering) → cmp k l ≡ o → put k d (put l e ms) ≡ put l e (put k d ms)
either_first k l d e ms differ Less t = lesser k l d e t (reversed k l Less t) ms
either_first k l d e ms differ Equal t = absurd (differ ((bytes_eq-Decides k l).0 (sym (is_eq-slice_cmp k l) ∙ ap is_eq t)))
either_first k l d e ms differ Greater t = sym (lesser l k e d (reversed k l Greater t) t ms)

pub any_order : (k l : List ℕ) (d e : Data) (ms : Members) → (k ≡ l → ⊥) → put k d (put l e ms) ≡ put l e (put k d ms)
any_order k l d e ms differ = either_first k l d e ms differ (cmp k l) refl

-- the first two of an object's members
two_first : (k l : List ℕ) (x y : Option Data) (rest : Members → Option Members) (found : Members) → (k ≡ l → ⊥) → option_and_then (λ d. option_and_then (λ e. rest (put l e (put k d found))) y) x ≡ option_and_then (λ e. option_and_then (λ d. rest (put k d (put l e found))) x) y
two_first k l None None rest found differ = refl
two_first k l None (Some e) rest found differ = refl
two_first k l (Some d) None rest found differ = refl
two_first k l (Some d) (Some e) rest found differ = ap rest (sym (any_order k l d e found differ))

turned_same : (k : List ℕ) (x : json.Json) (ms ns : json.Members) (found : Members) → AreTurned k x ms ns → of_members (json.member k x ms) found ≡ of_members ns found
turned_same k x ms ns found t =
    ap (λ (behind : json.Members). of_members (json.member k x behind) found) t.before ∙ two_first k t.key (of_json x) (of_json t.value) (of_members t.rest) found t.differ ∙ ap (λ (others : json.Members). of_members others found) (sym t.after)

-- the same first member, and the rest
one_first : (k : List ℕ) (x : Option Data) (one other : Members → Option Members) (found : Members) → ((fs : Members) → one fs ≡ other fs) → option_and_then (λ d. one (put k d found)) x ≡ option_and_then (λ d. other (put k d found)) x
one_first k None one other found same = refl
one_first k (Some d) one other found same = same (put k d found)

swapped_same : (ms ns : json.Members) → Swapped ms ns → (found : Members) → of_members ms found ≡ of_members ns found
swapped_same json.no_members ns s found = absurd s
swapped_same (json.member k x ms) ns s found = elim s [
  | inl turned ↦ turned_same k x ms ns found turned
  | inr kept ↦ one_first k (of_json x) (of_members ms) (of_members kept.0) found (λ fs. swapped_same ms kept.0 kept.2 fs) ∙ ap (λ (others : json.Members). of_members others found) (sym kept.1)
]

-- what a line holds decides how it is read
data_alike : (line other : List ℕ) (ms ns : json.Members) → HoldsObject line ms → HoldsObject other ns → Swapped ms ns → data_of line ≡ data_of other
unfolding data_of
data_alike line other ms ns a b s =
    rw (le-leb _ _ a.short, le-leb _ _ b.short, a.utf8, b.utf8, a.object, b.object, swapped_same ms ns s no_members) refl

pub read_alike : (line other : List ℕ) (ms ns : json.Members) → HoldsObject line ms → HoldsObject other ns → Swapped ms ns → reading_of line ≡ reading_of other
unfolding reading_of
read_alike line other ms ns a b s = rw (data_alike line other ms ns a b s) refl
