-- A membership is explained by one line.
use Rattle.std.proofs.Common.{◌≡◌, ◌==◌, ◌∙◌, ◌++◌, ℕ, Bool, List, [], ◌∷◌, Some, true, false, refl, sym, ap, subst, map, inl, inr}
use Rattle.std.proofs.lemmas.Bool.{cases_Bool, or_left}
use Rattle.std.proofs.lemmas.List.Elements.{All-head, All-tail}
use Rattle.std.specs.List.{All, find}
use Rattle.serde_json.specs.Data.{Data}
use Rattle.reg_terms.specs.declared.rows.CompositeRow.{CompositeRow}
use Rattle.reg_terms.specs.declared.rows.MemberRow.{MemberRow}
use Rattle.reg_terms.specs.Rows.{is_composite}
use Rattle.reg_effect.specs.Member.{member}
use Rattle.reg_effect.specs.declared.live.Live.{Live}
use Rattle.reg_facts.specs.Lists.{Lists}
use Rattle.reg_reasons.specs.Stated.{AreGrounds, IsExplained, IsRight, ends_of, named_by, with_new}
use Rattle.reg_reasons.specs.declared.statement.Grounds.{Grounds}
use Rattle.reg_reasons.specs.declared.statement.Grounds.TheVariants.{Factors, Rows}
use Rattle.reg_reasons.specs.declared.statement.Statement.{Statement}
use Rattle.reg_report.specs.WhyLines.{composite_data, number_of, statement_data, ways_of, why_data}
use Rattle.reg_report.proofs.OneOrder.{AreListed, IsListed, listed_more, listed_on, next_of, none_behind, same_next}

-- ---- one statement on a group

-- a composite is a composite
clash : (g : ℕ) (cs : List CompositeRow) (c : CompositeRow) → is_composite g cs ≡ false → find (λ (x : CompositeRow). x.group == g) cs ≡ Some c → ⊥
clash g [] c none found = cc
clash g (x ∷ cs) c none found = elim (cases_Bool (x.group == g)) [
  | inl t ↦ let two : true ≡ false = sym (or_left (x.group == g) (is_composite g cs) t) ∙ none in cc
  | inr t ↦ clash g cs c (rw t at none) (rw t at found)
]

-- what is printed of grounds is the same, and so is what they name
record AreAlike (f : Lists) (a b : Grounds) : Type 0 where
  composite : composite_data f a ≡ composite_data f b
  number : number_of a ≡ number_of b
  ways : ways_of a ≡ ways_of b
  named : named_by a ≡ named_by b

one_grounds : (f : Lists) (L : Live) (rows : List MemberRow) (s most g : ℕ) (a b : Grounds) → AreGrounds L rows s most g a → AreGrounds L rows s most g b → AreAlike f a b
one_grounds f L rows s most g (Rows n v) (Rows m w) a b = record { composite = refl; number = a.1 ∙ sym b.1; ways = a.2 ∙ sym b.2; named = ap ends_of (a.2 ∙ sym b.2) }
one_grounds f L rows s most g (Rows n v) (Factors op l r) a b = absurd (clash g L.composites _ a.0 b)
one_grounds f L rows s most g (Factors op l r) (Rows n v) a b = absurd (clash g L.composites _ b.0 a)
one_grounds f L rows s most g (Factors op l r) (Factors op2 l2 r2) a b =
    let c : CompositeRow = record { group = g; op = op; left = l; right = r } in
    let d : CompositeRow = record { group = g; op = op2; left = l2; right = r2 } in
    let both : Some c ≡ Some d = sym a ∙ b in
    let same : c ≡ d = cc in
    let ops : op ≡ op2 = ap (λ (x : CompositeRow). x.op) same in
    let lefts : l ≡ l2 = ap (λ (x : CompositeRow). x.left) same in
    let rights : r ≡ r2 = ap (λ (x : CompositeRow). x.right) same in
    record { composite = rw (ops, lefts, rights) refl; number = refl; ways = refl; named = rw (lefts, rights) refl }

one_statement : (f : Lists) (L : Live) (rows : List MemberRow) (s most : ℕ) (a b : Statement) → IsRight L rows s most a → IsRight L rows s most b → a.group ≡ b.group → AreAlike f a.grounds b.grounds
one_statement f L rows s most a b right_a right_b same = one_grounds f L rows s most b.group a.grounds b.grounds (rw same at right_a.grounds) right_b.grounds

one_data : (f : Lists) (L : Live) (rows : List MemberRow) (s most : ℕ) (a b : Statement) → IsRight L rows s most a → IsRight L rows s most b → a.group ≡ b.group → AreAlike f a.grounds b.grounds → statement_data f a ≡ statement_data f b
unfolding statement_data
one_data f L rows s most a b right_a right_b same alike =
    let has : a.has ≡ b.has = right_a.has ∙ (ap (λ (g : ℕ). member L g s) same ∙ sym right_b.has) in
    rw (alike.composite, same, has, alike.number, alike.ways) refl

-- ---- one list of statements

in_order : (f : Lists) (L : Live) (rows : List MemberRow) (s most : ℕ) (done groups named : List ℕ) (a b : List Statement) → All (IsRight L rows s most) a → All (IsRight L rows s most) b → AreListed named groups
    → IsListed done groups named a → IsListed done groups named b → map (statement_data f) a ≡ map (statement_data f) b
in_order f L rows s most done groups named [] [] right_a right_b all p q = refl
in_order f L rows s most done groups named [] (y ∷ b) right_a right_b all p q = absurd (none_behind done groups named y b all p q)
in_order f L rows s most done groups named (x ∷ a) [] right_a right_b all p q = absurd (none_behind done groups named x a all q p)
in_order f L rows s most done groups named (x ∷ a) (y ∷ b) right_a right_b all p q =
    let next_x = next_of done groups named x a all p in
    let next_y = next_of done groups named y b all q in
    let same : x.group ≡ y.group = same_next done next_x.0 next_y.0 x.group y.group (sym next_x.1 ∙ next_y.1) in
    let right_x = All-head (IsRight L rows s most) x a right_a in
    let right_y = All-head (IsRight L rows s most) y b right_b in
    let alike = one_statement f L rows s most x y right_x right_y same in
    let new = named_by x.grounds in
    let grouped : IsListed (done ++ x.group ∷ []) (with_new groups (named_by y.grounds)) (named ++ named_by y.grounds) b =
    subst (λ (g : ℕ). IsListed (done ++ g ∷ []) (with_new groups (named_by y.grounds)) (named ++ named_by y.grounds) b) (sym same) (listed_on done groups named y b q) in
    let onward : IsListed (done ++ x.group ∷ []) (with_new groups new) (named ++ new) b =
    subst (λ (xs : List ℕ). IsListed (done ++ x.group ∷ []) (with_new groups xs) (named ++ xs) b) (sym alike.named) grouped in
    let rest = in_order f L rows s most (done ++ x.group ∷ []) (with_new groups new) (named ++ new) a b (All-tail (IsRight L rows s most) x a right_a) (All-tail (IsRight L rows s most) y b right_b)
    (listed_more named groups new all) (listed_on done groups named x a p) onward in
    ap (λ (d : Data). d ∷ map (statement_data f) a) (one_data f L rows s most x y right_x right_y same alike) ∙ ap (λ (ds : List Data). statement_data f y ∷ ds) rest

explained : (L : Live) (rows : List MemberRow) (s most g : ℕ) (sts : List Statement) → IsExplained L rows s most g sts → IsListed [] (g ∷ []) (g ∷ []) sts
explained L rows s most g sts e = record { once = e.once; led = e.led; order = e.order }

same_line : (f : Lists) (has : Bool) (a b : List Statement) → map (statement_data f) a ≡ map (statement_data f) b → why_data f has a ≡ why_data f has b
unfolding why_data
same_line f has a b same = rw same refl

pub one_explanation : (f : Lists) (L : Live) (rows : List MemberRow) (s most g : ℕ) (has : Bool) (a b : List Statement) → IsExplained L rows s most g a → IsExplained L rows s most g b → why_data f has a ≡ why_data f has b
one_explanation f L rows s most g has a b p q = same_line f has a b (in_order f L rows s most [] (g ∷ []) (g ∷ []) a b p.right q.right (λ h is. is) (explained L rows s most g a p) (explained L rows s most g b q))
