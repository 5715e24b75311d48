-- The order of statements: which group comes next follows from those before it.
use Rattle.std.proofs.Common.{◌≡◌, ◌==◌, ◌||◌, ◌∙◌, ◌++◌, ◌⊎◌, ℕ, Bool, List, [], ◌∷◌, true, false, refl, sym, ap, inl, inr, append-nil, append_assoc}
use Rattle.std.specs.Prelude.{if◌then◌else◌}
use Rattle.std.proofs.lemmas.Bool.{cases_Bool, eq-eqb, eqb-true, or_left, or_right}
use Rattle.std.proofs.lemmas.List.Folds.{list_any-append}
use Rattle.reg_graph.specs.Edges.{among}
use Rattle.reg_reasons.specs.Stated.{AreLed, AreOnce, listed_by, named_by, stated, with_new}
use Rattle.reg_reasons.specs.declared.statement.Statement.{Statement}

abbrev pub Longer : List ℕ → List ℕ → Type 0
Longer whole front = (more : List ℕ) × (whole ≡ front ++ more)

-- what is listed stays in front
new_behind : (groups xs : List ℕ) → Longer (with_new groups xs) groups
new_behind groups [] = ([], sym (append-nil groups))
new_behind groups (x ∷ xs) = step (λ gs. new_behind gs xs) (among x groups)
  where
    step : ((gs : List ℕ) → Longer (with_new gs xs) gs) → (b : Bool) → Longer (with_new (if b then groups else groups ++ x ∷ []) xs) groups
    step others true = others groups
    step others false = let rest = others (groups ++ x ∷ []) in (x ∷ rest.0, rest.1 ∙ append_assoc groups (x ∷ []) rest.0)

listed_behind : (groups : List ℕ) (sts : List Statement) → Longer (listed_by groups sts) groups
listed_behind groups [] = ([], sym (append-nil groups))
listed_behind groups (st ∷ sts) =
    let one = new_behind groups (named_by st.grounds) in
    let rest = listed_behind (with_new groups (named_by st.grounds)) sts in
    (one.0 ++ rest.0, rest.1 ∙ (ap (λ (gs : List ℕ). gs ++ rest.0) one.1 ∙ append_assoc groups one.0 rest.0))

-- it stays listed
kept_new : (q : ℕ) (groups xs : List ℕ) → among q groups ≡ true → among q (with_new groups xs) ≡ true
kept_new q groups xs is = let more = new_behind groups xs in rw more.1 (list_any-append (λ x. x == q) groups more.0 ∙ or_left (among q groups) (among q more.0) is)

-- and what is named is listed then
named_new : (q : ℕ) (groups xs : List ℕ) → among q xs ≡ true → among q (with_new groups xs) ≡ true
named_new q groups [] is = absurd (let clash : ⊥ = cc in clash)
named_new q groups (x ∷ xs) is = elim (cases_Bool (x == q)) [
  | inl t ↦ kept_new q (if among x groups then groups else groups ++ x ∷ []) xs (here t (among x groups) refl)
  | inr t ↦ named_new q (if among x groups then groups else groups ++ x ∷ []) xs (rw t at is)
]
  where
    here : (x == q) ≡ true → (b : Bool) → among x groups ≡ b → among q (if b then groups else groups ++ x ∷ []) ≡ true
    here t true listed = rw (← eqb-true x q t) listed
    here t false listed = list_any-append (λ y. y == q) groups (x ∷ []) ∙ or_right (among q groups) (among q (x ∷ [])) (or_left (x == q) false t)

-- of two fronts one is the longer
front : (done rest groups more : List ℕ) (g : ℕ) → done ++ g ∷ rest ≡ groups ++ more → Longer groups (done ++ g ∷ []) ⊎ Longer done groups
front [] rest [] more g e = inr ([], refl)
front [] rest (h ∷ hs) more g e = let is : h ≡ g = cc in inl (hs, rw is refl)
front (d ∷ ds) rest [] more g e = inr (d ∷ ds, refl)
front (d ∷ ds) rest (h ∷ hs) more g e =
    let head : h ≡ d = cc in
    let tail : ds ++ g ∷ rest ≡ hs ++ more = cc in
    longer head (front ds rest hs more g tail)
  where
    longer : h ≡ d → Longer hs (ds ++ g ∷ []) ⊎ Longer ds hs → Longer (h ∷ hs) ((d ∷ ds) ++ g ∷ []) ⊎ Longer (d ∷ ds) (h ∷ hs)
    longer head (inl l) = inl (l.0, rw (head, l.1) refl)
    longer head (inr l) = inr (l.0, rw (head, l.1) refl)

-- a group that comes again isn't once
again : (done rest : List ℕ) (g : ℕ) → AreOnce (done ++ g ∷ rest) → among g done ≡ true → ⊥
again [] rest g once is = cc
again (d ∷ ds) rest g once is = elim (cases_Bool (d == g)) [
  | inl t ↦ let listed : among d (ds ++ g ∷ rest) ≡ true = later t in let absent : among d (ds ++ g ∷ rest) ≡ false = once.0 in let two : true ≡ false = sym listed ∙ absent in cc
  | inr t ↦ again ds rest g once.1 (rw t at is)
]
  where
    later : (d == g) ≡ true → among d (ds ++ g ∷ rest) ≡ true
    later t = rw (eqb-true d g t) (list_any-append (λ x. x == g) ds (g ∷ rest) ∙ or_right (among g ds) (among g (g ∷ rest)) (or_left (g == g) (among g rest) (eq-eqb g g refl)))

-- the group that comes next is the first that was listed, and has no statement yet
next_listed : (done rest groups : List ℕ) (g : ℕ) → AreOnce (done ++ g ∷ rest) → among g groups ≡ true → Longer (done ++ g ∷ rest) groups → Longer groups (done ++ g ∷ [])
next_listed done rest groups g once is longer = choose (front done rest groups longer.0 g longer.1)
  where
    choose : Longer groups (done ++ g ∷ []) ⊎ Longer done groups → Longer groups (done ++ g ∷ [])
    choose (inl l) = l
    choose (inr l) = absurd (again done rest g once (rw l.1 (list_any-append (λ x. x == g) groups l.0 ∙ or_left (among g groups) (among g l.0) is)))

-- and so of two lists
pub same_next : (done xs ys : List ℕ) (g h : ℕ) → (done ++ g ∷ []) ++ xs ≡ (done ++ h ∷ []) ++ ys → g ≡ h
same_next [] xs ys g h e = cc
same_next (d ∷ ds) xs ys g h e = let tail : (ds ++ g ∷ []) ++ xs ≡ (ds ++ h ∷ []) ++ ys = cc in same_next ds xs ys g h tail

none_next : (done : List ℕ) (g : ℕ) → Longer done (done ++ g ∷ []) → ⊥
none_next [] g (more, e) = cc
none_next (d ∷ ds) g (more, e) = let tail : ds ≡ (ds ++ g ∷ []) ++ more = cc in none_next ds g (more, tail)

-- ---- statements in order

-- statements behind those on these groups, where so many are listed, and all that are named
pub record IsListed (done groups named : List ℕ) (sts : List Statement) : Type 0 where
  pub once : AreOnce (done ++ stated sts)
  pub led : AreLed named sts
  pub order : done ++ stated sts ≡ listed_by groups sts

-- all that is named is listed
abbrev pub AreListed : List ℕ → List ℕ → Type 0
AreListed named groups = (q : ℕ) → among q named ≡ true → among q groups ≡ true

pub listed_more : (named groups xs : List ℕ) → AreListed named groups → AreListed (named ++ xs) (with_new groups xs)
listed_more named groups xs all q is = elim (cases_Bool (among q named)) [
  | inl t ↦ kept_new q groups xs (all q t)
  | inr t ↦ let either : (among q named || among q xs) ≡ true = sym (list_any-append (λ x. x == q) named xs) ∙ is in named_new q groups xs (rw t at either)
]

pub next_of : (done groups named : List ℕ) (st : Statement) (sts : List Statement) → AreListed named groups → IsListed done groups named (st ∷ sts) → Longer groups (done ++ st.group ∷ [])
next_of done groups named st sts all l =
    let behind = listed_behind groups (st ∷ sts) in
    next_listed done (stated sts) groups st.group l.once (all st.group l.led.0) (behind.0, l.order ∙ behind.1)

pub listed_on : (done groups named : List ℕ) (st : Statement) (sts : List Statement) → IsListed done groups named (st ∷ sts) → IsListed (done ++ st.group ∷ []) (with_new groups (named_by st.grounds)) (named ++ named_by st.grounds) sts
listed_on done groups named st sts l = record {
  once = rw (append_assoc done (st.group ∷ []) (stated sts)) l.once;
  led = l.led.1;
  order = append_assoc done (st.group ∷ []) (stated sts) ∙ l.order;
}

-- where all that is listed has a statement, none comes
pub none_behind : (done groups named : List ℕ) (st : Statement) (sts : List Statement) → AreListed named groups → IsListed done groups named [] → IsListed done groups named (st ∷ sts) → ⊥
none_behind done groups named st sts all l m =
    let whole : groups ≡ done = sym l.order ∙ append-nil done in
    let next = next_of done groups named st sts all m in
    none_next done st.group (next.0, sym whole ∙ next.1)
