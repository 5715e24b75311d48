-- Records of format 1 are judged and recoded one by one.
use Rattle.std.proofs.Common.{◌≡◌, ℕ, ◌<◌, ◌^◌, List, [], ◌∷◌, ◌++◌, length, Option, Some, None, Result, Ok, Err, refl, sym, ◌∙◌, ap, append_assoc, false}
use Rattle.std.specs.Prelude.{IfErr, IfOk, IfSome, IsErrOf, OnOk}
use Rattle.reg_machine.specs.History.{State, start}
use Rattle.reg_keep.specs.Frames.{AreShort, begins_new, opened_old, payloads_of_records}
use Rattle.reg_keep.specs.declared.open.OpenFault.{OpenFault}
use Rattle.reg_keep.specs.declared.open.OpenFault.TheVariants as open_fault
use Rattle.reg_recode.specs.Recoded.{all_recoded, recoded, recoded_payload, AreRecoded}
use Rattle.reg_service.specs.Opening.{after_old_payload, and_then, judged_all_old, judged_old, or_place}
use Rattle.reg_service.specs.Migrating.{IsDamagedOld, OpenedOld, OpensOld}
use Rattle.reg_service.proofs.Opens.{Records}

-- the first of the records that are left is taken, and the rest goes on from there
first_judged : (all : Result State ℕ) (m : State) (left rest : Records) (place : ℕ) (bytes before : List ℕ) (out : Result State ℕ) → all ≡ judged_old m left → left ≡ (place, before) ∷ rest → bytes ≡ before
    → or_place place (after_old_payload m bytes) ≡ out → all ≡ and_then out (λ after. judged_old after rest)
first_judged all m left rest place bytes before out so_far taken same is =
    so_far ∙ (ap (λ (l : Records). judged_old m l) taken
    ∙ (ap (λ (b : List ℕ). and_then (or_place place (after_old_payload m b)) (λ after. judged_old after rest)) (sym same)
    ∙ ap (λ (o : Result State ℕ). and_then o (λ after. judged_old after rest)) is))

abbrev ok_state : State → Result State ℕ
ok_state s = Ok s

pub next_judged : (all : Result State ℕ) (m next : State) (left rest : Records) (place : ℕ) (bytes before : List ℕ) → all ≡ judged_old m left → left ≡ (place, before) ∷ rest → bytes ≡ before
    → or_place place (after_old_payload m bytes) ≡ Ok next → all ≡ judged_old next rest
next_judged all m next left rest place bytes before so_far taken same is = first_judged all m left rest place bytes before (ok_state next) so_far taken same is

one_more : (made left : Records) (place : ℕ) (bytes : List ℕ) → made ++ recoded ((place, bytes) ∷ left) ≡ (made ++ (place, recoded_payload bytes) ∷ []) ++ recoded left
one_more made left place bytes = sym (append_assoc made ((place, recoded_payload bytes) ∷ []) (recoded left))

short_more : (made : Records) (place : ℕ) (bytes : List ℕ) → AreShort (payloads_of_records made) → length bytes < 2 ^ 32 → AreShort (payloads_of_records (made ++ (place, bytes) ∷ []))
short_more [] place bytes all short = (short, tt)
short_more (r ∷ made) place bytes all short = (all.0, short_more made place bytes all.1 short)

-- one record more is taken and recoded
pub all_after : (goal made left rest new : Records) (place : ℕ) (before after : List ℕ) → goal ≡ made ++ recoded left → left ≡ (place, before) ∷ rest → new ≡ made ++ (place, after) ∷ [] → after ≡ recoded_payload before → goal ≡ new ++ recoded rest
all_after goal made left rest new place before after so_far taken pushed is =
    let told : new ≡ made ++ (place, recoded_payload before) ∷ [] = pushed ∙ ap (λ (b : List ℕ). made ++ (place, b) ∷ []) is in
    (so_far ∙ ap (λ (l : Records). made ++ recoded l) taken) ∙ (one_more made rest place before ∙ sym (ap (λ (l : Records). l ++ recoded rest) told))

-- and is short
pub short_after : (made new : Records) (place : ℕ) (after : List ℕ) → AreShort (payloads_of_records made) → new ≡ made ++ (place, after) ∷ [] → length after < 2 ^ 32 → AreShort (payloads_of_records new)
short_after made new place after all pushed short = rw pushed (short_more made place after all short)

abbrev ok_records : Records → Result Records ℕ
ok_records records = Ok records

-- what is made of a file's records is that file's records, recoded
pub made_of_file : (held : Option (List ℕ)) (records : Records) (r : Result Records OpenFault) → IfSome held (λ bytes. opened_old bytes ≡ Ok records) → IfOk r (λ made. made ≡ recoded records) → IfOk r (λ made. AreRecoded held made)
made_of_file held records (Err f) read is = tt
made_of_file None records (Ok made) read is = tt
made_of_file (Some bytes) records (Ok made) read is = ap all_recoded read ∙ ap ok_records (sym is)

-- a file of which the records are a history
opens_well : (held : Option (List ℕ)) (records : Records) → IfSome held (λ bytes. opened_old bytes ≡ Ok records) → IfSome held (λ bytes. begins_new bytes ≡ false) → ((s : State) × (judged_old start records ≡ Ok s)) → OpensOld held
opens_well None records read own good = tt
opens_well (Some file) records read own good = (own, (good.0, ap judged_all_old read ∙ good.1))

opens_ill : (at : ℕ) (held : Option (List ℕ)) (records : Records) → IfSome held (λ bytes. opened_old bytes ≡ Ok records) → IfSome held (λ bytes. begins_new bytes ≡ false) → judged_old start records ≡ Err at → IsDamagedOld at held
opens_ill at None records read own bad = tt
opens_ill at (Some file) records read own bad = (own, ap judged_all_old read ∙ bad)

-- how it ended to judge the records of a file that was read
pub judged_file : (held : Option (List ℕ)) (records : Records) (r : Result Records OpenFault) (was is : ℕ) → IfSome held (λ bytes. opened_old bytes ≡ Ok records) → IfSome held (λ bytes. begins_new bytes ≡ false) → is ≡ was
    → OnOk r ((s : State) × (judged_old start records ≡ Ok s)) → IfErr r (λ f. (at : ℕ) → f ≡ open_fault.Damaged at → judged_old start records ≡ Err at)
    → (IsErrOf r open_fault.OtherFormat → ⊥) → (IsErrOf r open_fault.Fault → ⊥) → OpenedOld r held was is
judged_file held records (Ok made) was is read own still good bad other failed = (opens_well held records read own good, still)
judged_file held records (Err (open_fault.Damaged at)) was is read own still good bad other failed = (opens_ill at held records read own (bad at refl), still)
judged_file held records (Err open_fault.OtherFormat) was is read own still good bad other failed = absurd (other refl)
judged_file held records (Err open_fault.Fault) was is read own still good bad other failed = absurd (failed refl)
judged_file held records (Err open_fault.NoMemory) was is read own still good bad other failed = still
