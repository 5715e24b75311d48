-- The ids that are counted are those that the replies told.
use Rattle.std.proofs.Common.{◌≡◌, ◌≤◌, ◌++◌, ◌∷◌, ◌+◌, [], List, ℕ, Bool, Option, Some, None, Result, Ok, Err, true, false, refl, ap, sym, subst, ◌∙◌, append_assoc, append-nil}
use Rattle.std.specs.Prelude.{◌||◌, nat_lt, not, if◌then◌else◌}
use Rattle.std.specs.List.{AllByRecursion}
use Rattle.std.proofs.lemmas.Bool.{ltb-false}
use Rattle.reg_terms.specs.declared.command.Command.{Command}
use Rattle.reg_terms.specs.declared.command.Command.TheVariants.{FolderAdd, AssignAdd, RuleRemoveLost, RuleEndLost, RuleVeto, RuleOnCreate}
use Rattle.reg_terms.specs.declared.command.Stamped.{Stamped}
use Rattle.reg_terms.specs.declared.refusal.Refusal.{Refusal}
use Rattle.reg_facts.specs.Lists.{Lists}
use Rattle.reg_wire.specs.Payload.{stamped_of}
use Rattle.reg_machine.specs.History.{State, facts, start}
use Rattle.reg_machine.specs.Ids.{made_id}
use Rattle.reg_machine.specs.Invariant.{IsBy}
use Rattle.reg_machine.specs.Keys.{is_free}
use Rattle.reg_machine.specs.Refusals.{refusal}
use Rattle.reg_machine.proofs.Moments.{by_later, by_more}
use Rattle.reg_current.specs.Dates.{pass}
use Rattle.reg_run.proofs.Counting.{assigns_after, later_same, next_makes, rules_after}
use Rattle.reg_export.specs.Listing.{Row, counted, made_after, made_by, nothing_made}
use Rattle.reg_export.specs.declared.counts.Counts.{Counts}
use Rattle.reg_service.specs.Opening.{accepted, after_payload, after_stamped, and_then, judged, or_place}
use Rattle.reg_run.specs.Listing.{at_places, rows_of}
use Rattle.reg_run.proofs.Gathering.{Records}

-- ---- counts

same_id : (n : Counts) (c : Command) (f : Lists) → n.assigns ≡ f.made.assigns → n.rules ≡ f.made.rules → made_by n c ≡ made_id c f
unfolding made_by made_id
same_id n (AssignAdd attribute object) f a r = ap (λ (k : ℕ). Some (k + 1)) a
same_id n (RuleRemoveLost check owner) f a r = ap (λ (k : ℕ). Some (k + 1)) r
same_id n (RuleEndLost check owner days) f a r = ap (λ (k : ℕ). Some (k + 1)) r
same_id n (RuleVeto owner condition) f a r = ap (λ (k : ℕ). Some (k + 1)) r
same_id n (RuleOnCreate folder scope privilege holder) f a r = ap (λ (k : ℕ). Some (k + 1)) r
same_id n (FolderAdd folder display) f a r = refl
same_id n _ f a r = refl

after_counts : (n : Counts) (c : Command) → ((made_after n c).assigns ≡ assigns_after c n.assigns) × ((made_after n c).rules ≡ rules_after c n.rules)
unfolding made_after
after_counts n (AssignAdd attribute object) = (refl, refl)
after_counts n (RuleRemoveLost check owner) = (refl, refl)
after_counts n (RuleEndLost check owner days) = (refl, refl)
after_counts n (RuleVeto owner condition) = (refl, refl)
after_counts n (RuleOnCreate folder scope privilege holder) = (refl, refl)
after_counts n (FolderAdd folder display) = (refl, refl)
after_counts n _ = (refl, refl)

-- so much was made by a history whose moments have come
record IsCountedAt (h : List Stamped) (t : ℕ) (n : Counts) : Type 0 where
  by : AllByRecursion (IsBy t) h
  assigns : n.assigns ≡ (facts h t).made.assigns
  rules : n.rules ≡ (facts h t).made.rules

later : (h : List Stamped) (t u : ℕ) (n : Counts) → t ≤ u → IsCountedAt h t n → IsCountedAt h u n
later h t u n le is =
    let same = later_same t u h is.by le in
    record { by = by_later t u h le is.by; assigns = is.assigns ∙ sym same.0; rules = is.rules ∙ sym same.1 }

one_more : (h : List Stamped) (s : Stamped) (n : Counts) → IsCountedAt h s.at n → refusal h s.at s.by s.command ≡ None → IsCountedAt (h ++ s ∷ []) s.at (made_after n s.command)
one_more h s n is accepts =
    let counts = after_counts n s.command in
    let makes = next_makes h s.at s.by s.key s.command is.by accepts in
    record {
      by = by_more s.at s.by s.key s.command h is.by;
      assigns = counts.0 ∙ (ap (assigns_after s.command) is.assigns ∙ sym makes.0);
      rules = counts.1 ∙ (ap (rules_after s.command) is.rules ∙ sym makes.1);
    }

none_yet : IsCountedAt [] 0 nothing_made
unfolding facts pass
none_yet = record { by = tt; assigns = refl; rules = refl }

-- ---- a record that is taken

neither : (a b : Bool) → (a || b) ≡ false → a ≡ false
neither true b h = absurd (cc)
neither false b h = refl

abbrev Taken : State → Stamped → State → Type 0
Taken s x u = (s.clock ≤ x.at) × (refusal s.history x.at x.by x.command ≡ None) × (u ≡ (record { history = s.history ++ x ∷ []; clock = x.at }))

taken : (s u : State) (found : Option Stamped) → after_stamped s found ≡ Some u → (x : Stamped) × (found ≡ Some x) × Taken s x u
taken s u None is = absurd (cc)
taken s u (Some x) is = (x, refl, in_time (nat_lt x.at s.clock || not (is_free s.history x.by x.key)) refl is)
  where
    by_refusal : s.clock ≤ x.at → (r : Option Refusal) → refusal s.history x.at x.by x.command ≡ r → accepted s x r ≡ Some u → Taken s x u
    by_refusal le None none here = (le, none, ap (λ (o : Option State). elim o [ None ↦ u | Some v ↦ v ]) (sym here))
    by_refusal le (Some r) some here = absurd (cc)

    in_time : (b : Bool) → (nat_lt x.at s.clock || not (is_free s.history x.by x.key)) ≡ b → (if b then None else accepted s x (refusal s.history x.at x.by x.command)) ≡ Some u → Taken s x u
    in_time true less here = absurd (cc)
    in_time false less here = by_refusal (ltb-false x.at s.clock (neither (nat_lt x.at s.clock) (not (is_free s.history x.by x.key)) less)) (refusal s.history x.at x.by x.command) refl here

take_one : (s u : State) (r : ℕ × List ℕ) → after_payload s r.1 ≡ Some u → (x : Stamped) × (stamped_of r.1 ≡ Some x) × Taken s x u
unfolding after_payload
take_one s u r next = taken s u (stamped_of r.1) next

-- ---- all of them

-- what these records add to a history has these ids
abbrev Tells : State → Counts → Records → State → Type 0
Tells s n records t = (more : List Stamped) × (t.history ≡ s.history ++ more) × (counted n (at_places records more) ≡ rows_of s.history records more)

more_told : (s u t : State) (n : Counts) (r : ℕ × List ℕ) (records : Records) (x : Stamped) → IsCountedAt s.history s.clock n → Taken s x u
    → ((m : Counts) → IsCountedAt u.history u.clock m → Tells u m records t) → Tells s n (r ∷ records) t
more_told s u t n r records x is (le, accepts, next) others =
    let here = later s.history s.clock x.at n le is in
    let there : IsCountedAt u.history u.clock (made_after n x.command) = subst (λ (v : State). IsCountedAt v.history v.clock (made_after n x.command)) (sym next) (one_more s.history x n here accepts) in
    let grown : u.history ≡ s.history ++ x ∷ [] = ap (λ (v : State). v.history) next in
    let rest = others (made_after n x.command) there in
    let same : counted (made_after n x.command) (at_places records rest.0) ≡ rows_of (s.history ++ x ∷ []) records rest.0 = rest.2 ∙ ap (λ (h : List Stamped). rows_of h records rest.0) grown in
    let id = same_id n x.command (facts s.history x.at) here.assigns here.rules in (
      x ∷ rest.0,
      rest.1 ∙ (ap (λ (h : List Stamped). h ++ rest.0) grown ∙ append_assoc s.history (x ∷ []) rest.0),
      ap (λ (made : Option ℕ). (record { place = r.0; made = made; stamped = x }) ∷ counted (made_after n x.command) (at_places records rest.0)) id
          ∙ ap (λ (rows : List Row). (record { place = r.0; made = made_id x.command (facts s.history x.at); stamped = x }) ∷ rows) same,
    )

all_told : (s t : State) (n : Counts) (records : Records) → IsCountedAt s.history s.clock n → judged s records ≡ Ok t → Tells s n records t
all_told s t n [] is opens = ([], ap (λ (r : Result State ℕ). elim r [ Ok v ↦ v.history | Err at ↦ s.history ]) (sym opens) ∙ sym (append-nil s.history), refl)
all_told s t n (r ∷ records) is opens = by_next (λ u m. all_told u t m records) (after_payload s r.1) refl opens
  where
    by_next : ((u : State) (m : Counts) → IsCountedAt u.history u.clock m → judged u records ≡ Ok t → Tells u m records t) → (o : Option State) → after_payload s r.1 ≡ o → and_then (or_place r.0 o) (λ after. judged after records) ≡ Ok t → Tells s n (r ∷ records) t
    by_next others None next here = absurd (cc)
    by_next others (Some u) next here =
        let found = take_one s u r next in
        more_told s u t n r records found.0 is found.2 (λ m at. others u m at here)

-- the rows that are counted over the records of a file are those of its history
pub ids_told : (t : State) (records : Records) → judged start records ≡ Ok t → counted nothing_made (at_places records t.history) ≡ rows_of [] records t.history
ids_told t records opens =
    let all = all_told start t nothing_made records none_yet opens in
    subst (λ (h : List Stamped). counted nothing_made (at_places records h) ≡ rows_of [] records h) (sym all.1) all.2
