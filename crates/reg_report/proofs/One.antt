-- A report tells one thing.
use Rattle.std.proofs.Common.{◌≡◌, ◌==◌, ◌||◌, ℕ, Bool, List, [], ◌∷◌, Result, Ok, Err, refl, sym, ◌∙◌, ap, arith}
use Rattle.std.proofs.lemmas.Grind.{common_steps}
use Rattle.std.proofs.lemmas.Bool.Decides.{nat_tests}
use Rattle.std.proofs.lemmas.Map.Lookups.{btree_set_from_contains, exact_unsigned}
use Rattle.std.specs.BTreeMap.{is_at}
use Rattle.std.specs.BTreeSet.{BTreeSet}
use Rattle.std.specs.Cmp.{nat_cmp_total}
use Rattle.std.specs.List.{list_any}
use Rattle.std.specs.Ordering.{nat_cmp}
use Rattle.reg_access.specs.States.{AreStates}
use Rattle.reg_access.specs.declared.state.StateKind.{StateKind}
use Rattle.reg_machine.specs.History.{State, now_facts}
use Rattle.reg_access.specs.Grounds.{AreThose}
use Rattle.reg_terms.specs.declared.refusal.Refusal.{Refusal}
use Rattle.reg_words.specs.declared.task.Report.{Report}
use Rattle.reg_words.specs.declared.task.Report.TheVariants as report
use Rattle.reg_report.specs.Asked.{attestation_asked, attested_asked, permit_asked, permitted_asked, why_asked}
use Rattle.reg_report.specs.Attestations.{IsAttestationLine, state_then}
use Rattle.reg_report.specs.Lines.{attestation_data, line, permitted_data}
use Rattle.reg_report.specs.Permissions.{IsPermittedLine, texts_of}
use Rattle.reg_report.specs.Printed.{Printed}
use Rattle.reg_report.specs.Reported.{Reported}
use Rattle.reg_report.specs.Whys.{IsWhyLine}
use Rattle.reg_report.proofs.OneReason.{one_explanation}

-- ---- lists

at_id : (q x : ℕ) → is_at (nat_cmp q) x ≡ (x == q)
at_id q x = grind (arith, nat_tests, common_steps)

at_ids : (q : ℕ) (xs : List ℕ) → list_any (is_at (nat_cmp q)) xs ≡ list_any (λ x. x == q) xs
at_ids q [] = refl
at_ids q (x ∷ xs) = rw (at_ids q xs) (ap (λ b. b || list_any (λ x. x == q) xs) (at_id q x))

-- the numbers that pass a test are one list
one_list : (test : ℕ → Bool) (xs ys : List ℕ) → AreThose test xs → AreThose test ys → xs ≡ ys
one_list test xs ys a b =
    let s : BTreeSet ℕ = record { keys = xs } in
    let t : BTreeSet ℕ = record { keys = ys } in
    btree_set_from_contains nat_cmp_total s t a.ascending b.ascending (λ q. at_ids q xs ∙ (a.each q ∙ sym (at_ids q ys ∙ b.each q))) exact_unsigned

-- ---- lines

one_permitted : (s : State) (r : ℕ) (action a b : List ℕ) → IsPermittedLine s r action a → IsPermittedLine s r action b → a ≡ b
one_permitted s r action a b p q = p.prints ∙ (ap (λ xs. line (permitted_data (texts_of xs (now_facts s).subjects))) (one_list _ p.persons q.persons p.those q.those) ∙ sym q.prints)

-- two lists of the same states are one
abbrev OneList : Type 0
OneList = (kind_at : ℕ → StateKind) (now : ℕ) (a b : List (ℕ × StateKind)) → AreStates kind_at now a → AreStates kind_at now b → a ≡ b

one_attestation : OneList → (s : State) (g : ℕ) (a b : List ℕ) → IsAttestationLine s g a → IsAttestationLine s g b → a ≡ b
one_attestation law s g a b p q = p.prints ∙ (ap (λ states. line (attestation_data states)) (law (λ t. (state_then s g t).kind) s.clock p.states q.states p.those q.those) ∙ sym q.prints)

one_why : (s : State) (person group : ℕ) (a b : List ℕ) → IsWhyLine s person group a → IsWhyLine s person group b → a ≡ b
one_why s person group a b p q = p.prints ∙ (ap line (one_explanation (now_facts s) _ _ person 100 group _ p.statements q.statements p.those q.those) ∙ sym q.prints)

-- where what is asked is printed in one way, one thing is told
one_told : {A : Type 0} (asked : Result A Refusal) (prints : A → List ℕ → Type 0) → ((x : A) (a b : List ℕ) → prints x a → prints x b → a ≡ b) → (a b : Result (List ℕ) Refusal) → Printed asked prints a → Printed asked prints b → a ≡ b
one_told (Err refusal) prints one a b p q = p ∙ sym q
one_told (Ok x) prints one (Ok a) (Ok b) p q = ap Ok (one x a b p q)
one_told (Ok x) prints one (Ok a) (Err e) p q = absurd q
one_told (Ok x) prints one (Err e) (Ok b) p q = absurd p
one_told (Ok x) prints one (Err e) (Err d) p q = absurd p

pub one_report : OneList → (asked : Report) (s : State) (a b : Result (List ℕ) Refusal) → Reported asked s a → Reported asked s b → a ≡ b
unfolding Reported
one_report law (report.Permit subject resource action) s a b p q = one_told (permit_asked subject resource action (now_facts s)) _ (λ x a b p q. p ∙ sym q) a b p q
one_report law (report.Permitted resource action) s a b p q = one_told (permitted_asked resource action (now_facts s)) _ (λ r. one_permitted s r action) a b p q
one_report law (report.Attested group at) s a b p q = one_told (attested_asked group at s.clock (now_facts s)) _ (λ x a b p q. p ∙ sym q) a b p q
one_report law (report.Attestation group) s a b p q = one_told (attestation_asked group (now_facts s)) (IsAttestationLine s) (one_attestation law s) a b p q
one_report law report.Reminders s a b p q = p ∙ sym q
one_report law (report.Why subject group) s a b p q = one_told (why_asked subject group (now_facts s)) _ (λ x. one_why s x.0 x.1) a b p q
