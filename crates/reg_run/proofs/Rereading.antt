-- A file that was opened, and is read once more.
use Rattle.std.proofs.Common.{◌≡◌, ◌≤◌, ◌++◌, ◌∷◌, [], List, ℕ, Bool, Option, Some, None, Result, Ok, Err, true, false, refl, ap, sym, subst, ◌∙◌, arith, ◌⊎◌, inl, inr, length, take, append-nil, append_assoc}
use Rattle.std.specs.Prelude.{◌||◌, IfSome, nat_lt, not, if◌then◌else◌}
use Rattle.reg_outside.specs.Disk.{After, Changes, Same}
use Rattle.reg_outside.specs.Faults.{Rose}
use Rattle.reg_outside.specs.Streams.{WritesFront}
use Rattle.reg_outside.specs.declared.disk.Disk.{Ghosts}
use Rattle.reg_terms.specs.declared.command.Stamped.{Stamped}
use Rattle.reg_terms.specs.declared.refusal.Refusal.{Refusal}
use Rattle.reg_machine.specs.History.{State, start}
use Rattle.reg_machine.specs.Keys.{is_free}
use Rattle.reg_machine.specs.Refusals.{refusal}
use Rattle.reg_wire.specs.Payload.{stamped_of}
use Rattle.reg_keep.specs.Frames.{begins_old, opened}
use Rattle.reg_keep.specs.declared.open.OpenFault.{OpenFault}
use Rattle.reg_keep.specs.declared.open.OpenFault.TheVariants as fault
use Rattle.reg_service.specs.Opening.{accepted, after_payload, after_stamped, and_then, at_last, judged, judged_all, opens, or_place}
use Rattle.reg_words.specs.declared.task.Places.{Places}
use Rattle.reg_run.specs.Crash.{AsBefore, DiskSurvives, IsSound, OpensTo, OpensWith, Survives, seen}
use Rattle.reg_run.specs.Ends.{end_of_open}
use Rattle.reg_run.specs.Listing.{AreRead, Lists, PrintsLines, counted_lines, due_lines, rows_in}
use Rattle.reg_export.specs.Listing.{Row, listing}
use Rattle.reg_run.proofs.Ids.{ids_told}
use Rattle.reg_run.specs.World.{Out}
use Rattle.reg_run.specs.declared.status.End.{End}
use Rattle.reg_run.proofs.Gathering.{Records, no_front}
use Rattle.reg_run.proofs.Opened.{opens_new}

-- ---- records that are judged are commands

abbrev OneTaken : State → Option Stamped → State → Type 0
OneTaken s found t = (x : Stamped) × (found ≡ Some x) × (t.history ≡ s.history ++ x ∷ [])

taken_by : (s t : State) (x : Stamped) (r : Option Refusal) → accepted s x r ≡ Some t → t.history ≡ s.history ++ x ∷ []
taken_by s t x None is = ap (λ (h : Option State). history_of h) (sym is)
  where
    history_of : Option State → List Stamped
    history_of None = []
    history_of (Some u) = u.history
taken_by s t x (Some r) is = absurd (cc)

taken_in_time : (s t : State) (x : Stamped) (b : Bool) (r : Option Refusal) → (if b then None else accepted s x r) ≡ Some t → t.history ≡ s.history ++ x ∷ []
taken_in_time s t x true r is = absurd (cc)
taken_in_time s t x false r is = taken_by s t x r is

one_taken : (s t : State) (found : Option Stamped) → after_stamped s found ≡ Some t → OneTaken s found t
one_taken s t None is = absurd (cc)
one_taken s t (Some x) is = (x, refl, taken_in_time s t x (nat_lt x.at s.clock || not (is_free s.history x.by x.key)) (refusal s.history x.at x.by x.command) is)

payload_taken : (s t : State) (bytes : List ℕ) → after_payload s bytes ≡ Some t → OneTaken s (stamped_of bytes) t
unfolding after_payload
payload_taken s t bytes is = one_taken s t (stamped_of bytes) is

-- what these records add to a history
abbrev pub Adds : State → Records → State → Type 0
Adds s records t = (more : List Stamped) × (t.history ≡ s.history ++ more) × AreRead records more

one_more : (s u t : State) (r : ℕ × List ℕ) (records : Records) → OneTaken s (stamped_of r.1) u → Adds u records t → Adds s (r ∷ records) t
one_more s u t r records (x, found, grown) (more, further, read) =
    (x ∷ more, further ∙ (ap (λ (h : List Stamped). h ++ more) grown ∙ append_assoc s.history (x ∷ []) more), (found, read))

judged_adds : (s t : State) (records : Records) → judged s records ≡ Ok t → Adds s records t
judged_adds s t [] is = ([], ap (λ (r : Result State ℕ). history_or s r) (sym is) ∙ sym (append-nil s.history), tt)
  where
    history_or : State → Result State ℕ → List Stamped
    history_or u (Ok v) = v.history
    history_or u (Err at) = u.history
judged_adds s t (r ∷ records) is = by_next (λ u. judged_adds u t records) (after_payload s r.1) refl is
  where
    by_next : ((u : State) → judged u records ≡ Ok t → Adds u records t) → (o : Option State) → after_payload s r.1 ≡ o → and_then (or_place r.0 o) (λ after. judged after records) ≡ Ok t → Adds s (r ∷ records) t
    by_next others None next is = absurd (cc)
    by_next others (Some u) next is = one_more s u t r records (payload_taken s u r.1 next) (others u is)

are_read : (t : State) (records : Records) → judged start records ≡ Ok t → AreRead records t.history
are_read t records is = let adds = judged_adds start t records is in subst (λ (h : List Stamped). AreRead records h) (sym adds.1) adds.2

-- the records of a file that opens are read as the commands of its history
pub reread : (held : Option (List ℕ)) (records : Records) (from : State) → OpensTo held (Ok from) → IfSome held (λ file. opened file ≡ Ok records) → IfSome held (λ file. AreRead records from.history)
reread None records from opens_to opened_as = tt
reread (Some file) records from opens_to opened_as = are_read from records (ap judged_all (sym opened_as) ∙ opens_to)

-- the lines that are counted over these records are those that are due
same_lines : (places : Places) (held : Option (List ℕ)) (records : Records) (from : State) → OpensTo held (Ok from) → IfSome held (λ file. opened file ≡ Ok records) → counted_lines places held records from.history ≡ due_lines places held from.history
same_lines places None records from opens_to is = refl
same_lines places (Some file) records from opens_to is =
    let judged_so : judged start records ≡ Ok from = ap judged_all (sym is) ∙ opens_to in
    ap (λ (rows : List Row). Some (listing places.from places.to rows)) (ids_told from records judged_so) ∙ ap (λ (rs : Result Records ℕ). Some (listing places.from places.to (rows_in rs from.history))) (sym is)

pub prints_due : (places : Places) (held : Option (List ℕ)) (records : Records) (from : State) (end : End) (old new : Out) → OpensTo held (Ok from) → IfSome held (λ file. opened file ≡ Ok records) → Lists (counted_lines places held records from.history) end old new → Lists (due_lines places held from.history) end old new
prints_due places held records from end old new opens_to is printed = subst (λ (due : Option (List ℕ)). Lists due end old new) (same_lines places held records from opens_to is) printed

undamaged : (places : Places) (held : Option (List ℕ)) (from : State) (at : ℕ) → IfSome held (λ file. opened file ≡ Err at) → OpensTo held (Ok from) → IfSome (due_lines places held from.history) (λ bytes. ⊥)
undamaged places None from at is opens_to = tt
undamaged places (Some file) from at is opens_to = let both : Err at ≡ Ok from = ap judged_all (sym is) ∙ opens_to in absurd (cc)

nothing_written : (due : Option (List ℕ)) (w : Option (List ℕ)) → IfSome due (WritesFront w w)
nothing_written None w = tt
nothing_written (Some bytes) w = no_front w bytes

not_other : (places : Places) (held : Option (List ℕ)) (from : State) → IfSome held (λ file. begins_old file ≡ true) → OpensTo held (Ok from) → IfSome (due_lines places held from.history) (λ bytes. ⊥)
not_other places None from old opens_to = tt
not_other places (Some file) from old opens_to = opens_new file from opens_to old

-- and it isn't damaged, nor of the other format
pub not_reread : (places : Places) (held : Option (List ℕ)) (before later : ℕ) (out : Out) (f : OpenFault) (from : State) → ((at : ℕ) → f ≡ fault.Damaged at → IfSome held (λ file. opened file ≡ Err at)) → (f ≡ fault.Fault → Rose before later)
    → (f ≡ fault.OtherFormat → IfSome held (λ file. begins_old file ≡ true)) → OpensTo held (Ok from) → PrintsLines (due_lines places held from.history) (end_of_open f) before later out out
not_reread places held before later out (fault.Damaged at) from damaged rose other opens_to = inl (undamaged places held from at (damaged at refl) opens_to, refl)
not_reread places held before later out fault.Fault from damaged rose other opens_to = inr (refl, rose refl, refl)
not_reread places held before later out fault.NoMemory from damaged rose other opens_to = inl (nothing_written (due_lines places held from.history) out.written, refl)
not_reread places held before later out fault.OtherFormat from damaged rose other opens_to = inl (not_other places held from (other refl) opens_to, refl)

-- faults since an earlier moment
pub prints_since : (due : Option (List ℕ)) (end : End) (before mid later : ℕ) (old new : Out) → before ≤ mid → PrintsLines due end mid later old new → PrintsLines due end before later old new
prints_since due end before mid later old new le (inl printed) = inl printed
prints_since due end before mid later old new le (inr (is, rose, same)) = inr (is, risen, same)
  where
    risen : Rose before later
    risen = omega (arith, le, rose)

-- ---- a disk that is read once more

same_after : (was : List ℕ → Type 0) (c : List ℕ) → After Same was c → was c
same_after was c past = subst was (sym past.2) past.1

-- two changes that are none
pub still_same : {D : Type 0} (g : Ghosts D) (old mid new : D) → Changes g.moment g.may_leave g.left_since Same old mid → Changes g.moment g.may_leave g.left_since Same mid new → Changes g.moment g.may_leave g.left_since Same old new
still_same g old mid new first second = record {
  later = omega (arith, first.later, second.later);
  leaves = λ c here. first.leaves c (same_after (g.may_leave mid) c (second.leaves c here));
  since = λ t c le left. either t c le (second.since t c (omega (arith, le, first.later)) left);
  keeps = λ t c le left. second.keeps t c (omega (arith, le, first.later)) (first.keeps t c le left);
}
  where
    either : (t : ℕ) (c : List ℕ) → t ≤ g.moment old → g.left_since mid t c ⊎ After Same (g.may_leave mid) c → g.left_since old t c ⊎ After Same (g.may_leave old) c
    either t c le (inl left) = first.since t c le left
    either t c le (inr past) = inr (first.leaves c (same_after (g.may_leave mid) c past))

-- what a run left stays so
pub survives_reread : {D : Type 0} (g : Ghosts D) (before accepted : List Stamped) (answered status : ℕ) (old mid new : D) → g.moment old ≤ g.moment mid → Changes g.moment g.may_leave g.left_since Same mid new → g.contents new ≡ g.contents mid
    → DiskSurvives 1 (seen g old mid) before accepted answered status → DiskSurvives 1 (seen g old new) before accepted answered status
survives_reread {D = D} g before accepted answered status old mid new later same held = survives (g.contents old)
  where
    run : Survives 1 before accepted answered status (g.contents old) (g.may_leave old) (g.contents mid) (g.may_leave mid) (g.left_since mid (g.moment old))
        → Survives 1 before accepted answered status (g.contents old) (g.may_leave old) (g.contents new) (g.may_leave new) (g.left_since new (g.moment old))
    run s = record {
      few = s.few;
      always = λ c left. either c (same.since (g.moment old) c later left);
      now = λ c here. s.now c (image c here);
      bytes = subst (λ (o : Option (List ℕ)). IfSome o (OpensWith before accepted answered)) (sym held) s.bytes;
      done = λ is c here. s.done is c (image c here);
      whole = λ is. subst (λ (o : Option (List ℕ)). IfSome o (λ file. opens file ≡ Ok (at_last (before ++ accepted)))) (sym held) (s.whole is);
      sound = λ m enough was. sound m (s.sound m enough was);
    }
      where
        image : (c : List ℕ) → g.may_leave new c → g.may_leave mid c
        image c here = same_after (g.may_leave mid) c (same.leaves c here)

        none_less : (c : List ℕ) → OpensWith before accepted answered c → OpensWith before accepted 0 c
        none_less c o = (o.0, omega arith, o.2, o.3)

        either : (c : List ℕ) → g.left_since mid (g.moment old) c ⊎ After Same (g.may_leave mid) c → AsBefore (g.may_leave old) c ⊎ OpensWith before accepted 0 c
        either c (inl left) = s.always c left
        either c (inr past) = inr (none_less c (s.now c (same_after (g.may_leave mid) c past)))

        sound : (m : ℕ) → (n : ℕ) × (answered ≤ n) × (n ≤ length accepted) × IsSound m (g.contents mid) (g.may_leave mid) (before ++ take n accepted)
            → (n : ℕ) × (answered ≤ n) × (n ≤ length accepted) × IsSound m (g.contents new) (g.may_leave new) (before ++ take n accepted)
        sound m (n, least, most, is) = (n, least, most, record { bytes = subst (λ (o : Option (List ℕ)). IfSome o (λ file. opens file ≡ Ok (at_last (before ++ take n accepted)))) (sym held) is.bytes; near = λ c here. is.near c (image c here) })

    survives : (o : Option (List ℕ)) → IfSome o (λ file. Survives 1 before accepted answered status (g.contents old) (g.may_leave old) (g.contents mid) (g.may_leave mid) (g.left_since mid (g.moment old)))
        → IfSome o (λ file. Survives 1 before accepted answered status (g.contents old) (g.may_leave old) (g.contents new) (g.may_leave new) (g.left_since new (g.moment old)))
    survives None s = tt
    survives (Some file) s = run s
