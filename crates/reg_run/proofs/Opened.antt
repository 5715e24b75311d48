-- What a file opens to, by its records.
use Rattle.std.proofs.Common.{◌≡◌, List, [], ◌∷◌, ℕ, Bool, true, false, Option, Some, None, Result, Ok, Err, refl, ap, sym, ◌∙◌, map, length, take, nat_eq, subst, arith}
use Rattle.std.proofs.lemmas.Bool.{and_parts, eqb-true}
use Rattle.std.proofs.lemmas.List.{take_all}
use Rattle.std.specs.Cmp.Lexicographic.{pointwise}
use Rattle.std.specs.List.{starts_with}
use Rattle.std.specs.Prelude.{IfSome, get_or, if◌then◌else◌}
use Rattle.reg_outside.specs.Faults.{Rose}
use Rattle.reg_terms.specs.declared.command.Stamped.{Stamped}
use Rattle.reg_machine.specs.History.{State, start}
use Rattle.reg_keep.specs.Frames.{begins_old, frames, header, old_header, opened, payloads_in, only_payloads}
use Rattle.reg_keep.specs.Stops.{Stop}
use Rattle.reg_keep.specs.declared.open.OpenFault.{OpenFault}
use Rattle.reg_keep.specs.declared.open.OpenFault.TheVariants as fault
use Rattle.reg_service.specs.Opening.{payloads_of, at_last, judged, judged_all, opens, Reopens, FrontsReopen}
use Rattle.reg_run.specs.Ends.{OpenCaused, end_of_open}

abbrev Records : Type 0
Records = List (ℕ × List ℕ)

abbrev texts : Records → List (List ℕ)
texts records = map (λ (r : ℕ × List ℕ). r.1) records

judged_of : (r : Result Records ℕ) (q : Result Records ℕ) → r ≡ q → judged_all r ≡ judged_all q
judged_of r q e = ap judged_all e

damaged_file : (held : Option (List ℕ)) (at : ℕ) → IfSome held (λ file. opened file ≡ Err at) → IfSome held (λ file. opens file ≡ Err at)
damaged_file None at e = tt
damaged_file (Some file) at e = judged_of (opened file) (Err at) e

judged_file : (held : Option (List ℕ)) (records : Records) (r : Result State ℕ) → IfSome held (λ file. opened file ≡ Ok records) → judged start records ≡ r → IfSome held (λ file. opens file ≡ r)
judged_file None records r e j = tt
judged_file (Some file) records r e j = judged_of (opened file) (Ok records) e ∙ j

-- a journal that doesn't open
pub open_caused : (f : OpenFault) (held : Option (List ℕ)) (before after : ℕ) → ((at : ℕ) → f ≡ fault.Damaged at → IfSome held (λ file. opened file ≡ Err at)) → (f ≡ fault.Fault → Rose before after)
    → ((at : ℕ) → f ≡ fault.Damaged at → IfSome held (λ file. begins_old file ≡ false)) → (f ≡ fault.OtherFormat → IfSome held (λ file. begins_old file ≡ true))
    → ((at : ℕ) → f ≡ fault.Damaged at → after ≡ before) → (f ≡ fault.NoMemory → after ≡ before) → (f ≡ fault.OtherFormat → after ≡ before) → OpenCaused (end_of_open f) held before after
open_caused (fault.Damaged at) held before after damaged rose own other still none same = (damaged_file held at (damaged at refl), own at refl, still at refl)
open_caused fault.Fault held before after damaged rose own other still none same = rose refl
open_caused fault.NoMemory held before after damaged rose own other still none same = none refl
open_caused fault.OtherFormat held before after damaged rose own other still none same = (other refl, same refl)

-- and one whose records aren't a history
pub start_caused : (f : OpenFault) (held : Option (List ℕ)) (records : Records) (before after : ℕ) → IfSome held (λ file. opened file ≡ Ok records)
    → IfSome held (λ file. begins_old file ≡ false) → ((at : ℕ) → f ≡ fault.Damaged at → judged start records ≡ Err at) → (f ≡ fault.Fault → ⊥) → (f ≡ fault.OtherFormat → ⊥) → after ≡ before → OpenCaused (end_of_open f) held before after
start_caused (fault.Damaged at) held records before after opens own damaged never none still = (judged_file held records (Err at) opens (damaged at refl), own, still)
start_caused fault.Fault held records before after opens own damaged never none still = absurd (never refl)
start_caused fault.NoMemory held records before after opens own damaged never none still = still
start_caused fault.OtherFormat held records before after opens own damaged never none still = absurd (none refl)

-- two texts of one length that are the front of one text are one
one_front : (xs ys text : List ℕ) → length xs ≡ length ys → pointwise nat_eq xs text ≡ true → pointwise nat_eq ys text ≡ true → xs ≡ ys
one_front [] [] text n e f = refl
one_front [] (y ∷ ys) text n e f = absurd (omega (arith, n))
one_front (x ∷ xs) [] text n e f = absurd (omega (arith, n))
one_front (x ∷ xs) (y ∷ ys) [] n e f = absurd (cc)
one_front (x ∷ xs) (y ∷ ys) (z ∷ text) n e f =
    let p = and_parts (nat_eq x z) (pointwise nat_eq xs text) e in
    let q = and_parts (nat_eq y z) (pointwise nat_eq ys text) f in
    let first : x ≡ y = eqb-true x z p.0 ∙ sym (eqb-true y z q.0) in
    let others = one_front xs ys text (omega (arith, n)) p.1 q.1 in
    ap (λ (v : ℕ). v ∷ xs) first ∙ ap (λ (vs : List ℕ). y ∷ vs) others

-- a file with one header hasn't the other
pub one_header : (file : List ℕ) → starts_with nat_eq file header ≡ true → begins_old file ≡ true → ⊥
one_header file new old =
    let same : ◌≡◌ {A = ℕ} 50 49 = ap (λ (bytes : List ℕ). get_or bytes 6 0) (one_front header old_header (take 8 file) refl new old) in
    absurd (omega (arith, same))

by_header : (file : List ℕ) (from : State) (b : Bool) → starts_with nat_eq file header ≡ b → judged_all (if b then frames 8 0 file else Err 0) ≡ Ok from → begins_old file ≡ true → ⊥
by_header file from true has opens old = one_header file has old
by_header file from false has opens old = absurd (cc)

-- nor has a file that opens the header of format 1
pub opens_new : (file : List ℕ) (from : State) → opens file ≡ Ok from → begins_old file ≡ true → ⊥
opens_new file from is old = by_header file from (starts_with nat_eq file header) refl is old

-- a file with the payloads of what opens again
pub opens_by : (c : List ℕ) (h : List Stamped) (r : Result Records ℕ) → opened c ≡ r → only_payloads r ≡ Ok (payloads_of h)
    → ((records : Records) → texts records ≡ payloads_of h → judged start records ≡ Ok (at_last h)) → opens c ≡ Ok (at_last h)
opens_by c h (Ok records) is e opens = let same : texts records ≡ payloads_of h = cc in judged_of (opened c) (Ok records) is ∙ opens records same
opens_by c h (Err place) is e opens = absurd (cc)

-- what has fronts that open again opens again as a whole
pub whole_reopens : (h : List Stamped) → FrontsReopen h → Reopens h
whole_reopens h fronts = subst Reopens (take_all (length h) h (omega arith)) (fronts (length h) (omega arith))

-- the images of a disk of which each stop leaves a history's payloads open to it
pub image_opens : (leaves : List ℕ → Type 0) (h : List Stamped) → FrontsReopen h → ((r : Result (List (List ℕ)) ℕ) → Stop leaves r → r ≡ Ok (payloads_of h)) → (c : List ℕ) → leaves c → opens c ≡ Ok (at_last h)
image_opens leaves h fronts left c here = opens_by c h (opened c) refl (left (payloads_in c) (c, here, refl)) (whole_reopens h fronts)

-- and its bytes
pub bytes_open : (held : Option (List ℕ)) (leaves : List ℕ → Type 0) (h : List Stamped) → IfSome held leaves → ((c : List ℕ) → leaves c → opens c ≡ Ok (at_last h)) → IfSome held (λ file. opens file ≡ Ok (at_last h))
bytes_open None leaves h now opens = tt
bytes_open (Some file) leaves h now opens = opens file now
