-- What a run leaves for a crash, from what its parts leave.
use Rattle.std.proofs.Common.{◌≡◌, ◌≤◌, ◌+◌, ◌-◌, ◌++◌, ◌∷◌, List, ℕ, zero, suc, Option, Some, None, Result, Ok, Err, [], refl, ap, sym, ◌∙◌, subst, arith, option_map, ◌⊎◌, inl, inr, length, length-append, take, append-nil, append_assoc}
use Rattle.std.specs.Prelude.{IfSome, Bool, true, false, ◌||◌, is_ok, nat_lt}
use Rattle.std.proofs.lemmas.List.{length-take-le, take_all, take_at}
use Rattle.std.proofs.Math.Seq.{take-append-add}
use Rattle.reg_outside.specs.Disk.{Changes, Same, After, Leaves, Only}
use Rattle.reg_terms.specs.declared.command.Stamped.{Stamped}
use Rattle.reg_machine.specs.History.{State, start}
use Rattle.reg_outside.specs.declared.disk.Disk.{Ghosts}
use Rattle.reg_keep.specs.Begin.{is_taken, Begun}
use Rattle.reg_keep.specs.Frames.{opened, opened_old, payloads_in, journal_bytes}
use Rattle.reg_keep.specs.Keeping.{kept_in}
use Rattle.reg_keep.specs.JournalWords.{disk_of}
use Rattle.reg_keep.specs.declared.journal.Journal.{Journal}
use Rattle.reg_keep.specs.Stops.{Stop}
use Rattle.reg_service.specs.Opening.{opens, at_last, FrontsReopen, judged_all}
use Rattle.reg_service.specs.Kept.{IsBetween, IsFewMore, IsOneMore}
use Rattle.reg_run.specs.Crash.{AsBefore, OpensWith, IsNear, IsSound, IsWhole, Survives, StaysAt, Begins, IsUntouched, DiskSurvives, seen}
use Rattle.reg_run.proofs.Opened.{opens_by}

-- an image after no change is one from before
same_image : (was now : List ℕ → Type 0) → ((c : List ℕ) → now c → After Same was c) → (c : List ℕ) → now c → was c
same_image was now step c here = let past = step c here in subst was (sym past.2) past.1

since_image : (was : List ℕ → Type 0) (c : List ℕ) (left : Type 0) → (left → was c) → left ⊎ After Same was c → was c
since_image was c left only (inl l) = only l
since_image was c left only (inr past) = subst was (sym past.2) past.1

-- a disk that was only read is untouched
pub untouched_same : {D : Type 0} (g : Ghosts D) (old new : D) → Changes g.moment g.may_leave g.left_since Same old new
    → ((c : List ℕ) → g.left_since old (g.moment old) c → g.may_leave old c) → g.contents new ≡ g.contents old → IsUntouched (seen g old new)
untouched_same g old new same only held = (held, λ c left. since_image (g.may_leave old) c (g.left_since old (g.moment old) c) (only c) (same.since (g.moment old) c (omega arith) left))

-- the file opens to one of the histories from the first to the second
abbrev pub OpensAt : List Stamped → List Stamped → List ℕ → Type 0
OpensAt low after c = (n : ℕ) × (length low ≤ n) × (n ≤ length after) × (opens c ≡ Ok (at_last (take n after)))

opens_at : (low after : List Stamped) (c : List ℕ) → FrontsReopen after → IsBetween low after (payloads_in c) → OpensAt low after c
opens_at low after c again b = (b.0, b.1, b.2, opens_by c (take b.0 after) (opened c) refl b.3 (again b.0 b.2))

-- what the stops of a journal over a disk leave, as a record of that disk alone
pub record StopsRun {D : Type 0} (g : Ghosts D) (before answered after : List Stamped) (mid new : D) : Type 0 where
  pub opens : FrontsReopen after
  pub since : (t : ℕ) (r : Result (List (List ℕ)) ℕ) → t ≤ g.moment mid → Stop (g.left_since new t) r → Stop (g.left_since mid t) r ⊎ IsBetween before after r
  pub now : (c : List ℕ) → g.may_leave new c → OpensAt answered after c

abbrev pub LeavesBetween : {D : Type 0} {g : Ghosts D} → List Stamped → List Stamped → Journal D g → Journal D g → Type 0
LeavesBetween {D = D} {g = g} before after k0 k1 =
    IfSome (option_map kept_in (g.contents (disk_of k0))) (λ ps. Leaves (λ (j : Journal D g). g.moment (disk_of j)) (λ (j : Journal D g) (t : ℕ). Stop (g.left_since (disk_of j) t)) (IsBetween before after) k0 k1)

-- what a journal's stops leave where the service stopped, by its disk
pub stops_halted : {D : Type 0} {g : Ghosts D} (before answered after : List Stamped) (k0 k1 : Journal D g) → LeavesBetween before after k0 k1
    → IfSome (option_map kept_in (g.contents (disk_of k0))) (λ ps. FrontsReopen after × ((r : Result (List (List ℕ)) ℕ) → Stop (g.may_leave (disk_of k1)) r → IsBetween answered after r))
    → IfSome (g.contents (disk_of k0)) (λ file. StopsRun g before answered after (disk_of k0) (disk_of k1))
stops_halted {D = D} {g = g} before answered after k0 k1 crash stopped = run (g.contents (disk_of k0)) crash stopped
  where
    run : (o : Option (List ℕ)) → IfSome (option_map kept_in o) (λ ps. Leaves (λ (j : Journal D g). g.moment (disk_of j)) (λ (j : Journal D g) (t : ℕ). Stop (g.left_since (disk_of j) t)) (IsBetween before after) k0 k1)
        → IfSome (option_map kept_in o) (λ ps. FrontsReopen after × ((r : Result (List (List ℕ)) ℕ) → Stop (g.may_leave (disk_of k1)) r → IsBetween answered after r))
        → IfSome o (λ file. StopsRun g before answered after (disk_of k0) (disk_of k1))
    run None l s = tt
    run (Some file) l s = record { opens = s.0; since = λ t r le stop. l.since t r le stop; now = λ c here. opens_at answered after c s.0 (s.1 (payloads_in c) (c, here, refl)) }

-- and where it went on
pub stops_whole : {D : Type 0} {g : Ghosts D} (before after : List Stamped) (k0 k1 : Journal D g) → LeavesBetween before after k0 k1 → FrontsReopen after
    → ((c : List ℕ) → g.may_leave (disk_of k1) c → opens c ≡ Ok (at_last after)) → IfSome (g.contents (disk_of k0)) (λ file. StopsRun g before after after (disk_of k0) (disk_of k1))
stops_whole {D = D} {g = g} before after k0 k1 crash again images = run (g.contents (disk_of k0)) crash
  where
    whole : (c : List ℕ) → g.may_leave (disk_of k1) c → OpensAt after after c
    whole c here = (length after, omega arith, omega arith, images c here ∙ ap (λ (l : List Stamped). Ok (at_last l)) (sym (take_all (length after) after (omega arith))))

    run : (o : Option (List ℕ)) → IfSome (option_map kept_in o) (λ ps. Leaves (λ (j : Journal D g). g.moment (disk_of j)) (λ (j : Journal D g) (t : ℕ). Stop (g.left_since (disk_of j) t)) (IsBetween before after) k0 k1)
        → IfSome o (λ file. StopsRun g before after after (disk_of k0) (disk_of k1))
    run None l = tt
    run (Some file) l = record { opens = again; since = λ t r le stop. l.since t r le stop; now = whole }

past_front : (before more : List Stamped) (n : ℕ) → length before ≤ n → take n (before ++ more) ≡ before ++ take (n - length before) more
past_front before more n le =
    let at : n ≡ length before + (n - length before) = omega (arith, le) in
    ap (λ (k : ℕ). take k (before ++ more)) at ∙ take-append-add before more (n - length before)

-- the same, counted from the starting history
from_front : (before low after more : List Stamped) (c : List ℕ) → after ≡ before ++ more → length before ≤ length low → OpensAt low after c → OpensWith before more (length low - length before) c
from_front before low after more c grown first o =
    let count : length after ≡ length before + length more = ap (λ (l : List Stamped). length l) grown ∙ length-append before more in
    let history : take o.0 after ≡ before ++ take (o.0 - length before) more = ap (λ (l : List Stamped). take o.0 l) grown ∙ past_front before more o.0 (omega (arith, first, o.1)) in
    (o.0 - length before, omega (arith, o.1), omega (arith, o.1, o.2, count), o.3 ∙ ap (λ (l : List Stamped). Ok (at_last l)) history)

either_way : (n m : ℕ) → (n ≤ m) ⊎ (m ≤ n)
either_way zero m = inl (omega arith)
either_way (suc n) zero = inr (omega arith)
either_way (suc n) (suc m) = higher n m (either_way n m)
  where
    higher : (n m : ℕ) → (n ≤ m) ⊎ (m ≤ n) → (suc n ≤ suc m) ⊎ (suc m ≤ suc n)
    higher n m (inl h) = inl (omega arith)
    higher n m (inr h) = inr (omega arith)

-- so many commands more at the most
few_further : (most : ℕ) (more : List Stamped) (n m : ℕ) → n ≤ m → m ≤ n + most → m ≤ length more → (x : List Stamped) × (length x ≤ most) × (take m more ≡ take n more ++ x)
few_further most more zero m le few in_it = (take m more, omega (arith, few, length-take-le m more in_it), refl)
few_further most more (suc n) zero le few in_it = absurd (omega (arith, le))
few_further most [] (suc n) (suc m) le few in_it = absurd (omega (arith, in_it))
few_further most (x ∷ more) (suc n) (suc m) le few in_it =
    let s = few_further most more n m (omega (arith, le)) (omega (arith, few)) (omega (arith, in_it)) in
    (s.0, s.1, ap (λ (l : List Stamped). x ∷ l) s.2)

near_of : (most : ℕ) (before more : List Stamped) (k n m : ℕ) → k ≤ n → n ≤ length more → k ≤ m → m ≤ length more → length more ≤ k + most → IsNear most (before ++ take n more) (before ++ take m more)
near_of most before more k n m a b c d few = cases (either_way n m)
  where
    cases : (n ≤ m) ⊎ (m ≤ n) → IsNear most (before ++ take n more) (before ++ take m more)
    cases (inl le) =
        let x = few_further most more n m le (omega (arith, a, d, few)) d in
        (x.0, x.1, inr (ap (λ (l : List Stamped). before ++ l) x.2 ∙ sym (append_assoc before (take n more) x.0)))
    cases (inr le) =
        let x = few_further most more m n le (omega (arith, b, c, few)) b in
        (x.0, x.1, inl (ap (λ (l : List Stamped). before ++ l) x.2 ∙ sym (append_assoc before (take m more) x.0)))

-- a disk of which each image opens to one of these histories is sound for one of them
sound_of : (most : ℕ) (before more : List Stamped) (k : ℕ) (held : Option (List ℕ)) (now : List ℕ → Type 0) → k ≤ length more → length more ≤ k + most → IfSome held now
    → ((c : List ℕ) → now c → OpensWith before more k c) → (n : ℕ) × (k ≤ n) × (n ≤ length more) × IsSound most held now (before ++ take n more)
sound_of most before more k None now least few read opens =
    (k, omega arith, least, record { bytes = tt; near = λ c here. let o = opens c here in (before ++ take o.0 more, near_of most before more k k o.0 (omega arith) least o.1 o.2 few, o.3) })
sound_of most before more k (Some file) now least few read opens =
    let f = opens file read in
    (f.0, f.1, f.2, record { bytes = f.3; near = λ c here. let o = opens c here in (before ++ take o.0 more, near_of most before more k f.0 o.0 f.1 f.2 o.1 o.2 few, o.3) })

few_at_most : (most : ℕ) (answered after : List Stamped) → IsFewMore most answered after → (length answered ≤ length after) × (length after ≤ length answered + most)
few_at_most most answered after p = let same = ap (λ (l : List Stamped). length l) p.2 ∙ length-append answered p.0 in (omega (arith, same), omega (arith, same, p.1))

-- nothing more, and one command more
pub none_more : (most : ℕ) (history : List Stamped) → IsFewMore most history history
none_more most history = ([], omega arith, sym (append-nil history))

pub one_few : (answered after : List Stamped) → IsOneMore answered after → IsFewMore 1 answered after
one_few answered after (inl e) = ([], omega arith, e ∙ sym (append-nil answered))
one_few answered after (inr p) = (p.0 ∷ [], omega arith, p.1)

pub no_shorter : (before after more : List Stamped) → after ≡ before ++ more → length before ≤ length after
no_shorter before after more grown = let count = ap (λ (l : List Stamped). length l) grown ∙ length-append before more in omega (arith, count)

-- what was answered, counted from the starting history
pub front_of_few : (most : ℕ) (before answered after more : List Stamped) → after ≡ before ++ more → length before ≤ length answered → IsFewMore most answered after
    → before ++ take (length answered - length before) more ≡ answered
front_of_few most before answered after more grown first last =
    sym (ap (λ (l : List Stamped). take (length answered) l) grown ∙ past_front before more (length answered) first)
    ∙ (ap (λ (l : List Stamped). take (length answered) l) last.2 ∙ take_at answered last.0 (length answered) refl)

pub answered_front : (before answered after more : List Stamped) → after ≡ before ++ more → length before ≤ length answered → IsOneMore answered after
    → before ++ take (length answered - length before) more ≡ answered
answered_front before answered after more grown first last = front_of_few 1 before answered after more grown first (one_few answered after last)

-- what is true of each image is true of the bytes
each_some : {P Q : List ℕ → Type 0} (o : Option (List ℕ)) → IfSome o P → ((c : List ℕ) → P c → Q c) → IfSome o Q
each_some None p each = tt
each_some (Some c) p each = each c p

-- a disk that was opened, and then written by a service, which answered all but so many commands at most
pub survives_few : {D : Type 0} (g : Ghosts D) (most : ℕ) (before answered after more : List Stamped) (status : ℕ) (old mid new : D) → Changes g.moment g.may_leave g.left_since Same old mid
    → ((c : List ℕ) → g.left_since old (g.moment old) c → g.may_leave old c) → g.contents mid ≡ g.contents old → IfSome (g.contents new) (g.may_leave new)
    → after ≡ before ++ more → length before ≤ length answered → IsFewMore most answered after → (IsWhole status → answered ≡ after) → IfSome (g.contents mid) (λ file. StopsRun g before answered after mid new)
    → IfSome (g.contents old) (λ file. Survives most before more (length answered - length before) status (g.contents old) (g.may_leave old) (g.contents new) (g.may_leave new) (g.left_since new (g.moment old)))
survives_few {D = D} g most before answered after more status old mid new same only held read grown first last whole stops =
    survives (g.contents old) (subst (λ (o : Option (List ℕ)). IfSome o (λ file. StopsRun g before answered after mid new)) held stops)
  where
    count : length after ≡ length before + length more
    count = ap (λ (l : List Stamped). length l) grown ∙ length-append before more

    run : StopsRun g before answered after mid new
        → Survives most before more (length answered - length before) status (g.contents old) (g.may_leave old) (g.contents new) (g.may_leave new) (g.left_since new (g.moment old))
    run s = record {
      few = (least, no_more);
      always = λ c left. either c (s.since (g.moment old) (payloads_in c) same.later (c, left, refl));
      now = now;
      bytes = each_some (g.contents new) read now;
      done = all;
      whole = λ is. each_some (g.contents new) read (all is);
      sound = λ m enough was. sound_of m before more (length answered - length before) (g.contents new) (g.may_leave new) least (omega (arith, no_more, enough)) read now;
    }
      where
        few : (length answered ≤ length after) × (length after ≤ length answered + most)
        few = few_at_most most answered after last

        least : length answered - length before ≤ length more
        least = omega (arith, few.0, count)

        no_more : length more ≤ length answered - length before + most
        no_more = omega (arith, few.1, count, first)

        since : (c : List ℕ) → OpensWith before more (length before - length before) c → OpensWith before more 0 c
        since c o = (o.0, omega arith, o.2, o.3)

        either : (c : List ℕ) → Stop (g.left_since mid (g.moment old)) (payloads_in c) ⊎ IsBetween before after (payloads_in c) → AsBefore (g.may_leave old) c ⊎ OpensWith before more 0 c
        either c (inl stop) =
            inl (stop.0, since_image (g.may_leave old) stop.0 (g.left_since old (g.moment old) stop.0) (only stop.0) (same.since (g.moment old) stop.0 (omega arith) stop.1), sym stop.2)
        either c (inr p) = inr (since c (from_front before before after more c grown (omega arith) (opens_at before after c s.opens p)))

        now : (c : List ℕ) → g.may_leave new c → OpensWith before more (length answered - length before) c
        now c here = from_front before answered after more c grown first (s.now c here)

        all : IsWhole status → (c : List ℕ) → g.may_leave new c → opens c ≡ Ok (at_last (before ++ more))
        all is c here =
            let o = now c here in
            let same_count : length answered ≡ length after = ap (λ (l : List Stamped). length l) (whole is) in
            o.3 ∙ ap (λ (l : List Stamped). Ok (at_last (before ++ l))) (take_all o.0 more (omega (arith, o.1, o.2, count, same_count)))

    survives : (o : Option (List ℕ)) → IfSome o (λ file. StopsRun g before answered after mid new)
        → IfSome o (λ file. Survives most before more (length answered - length before) status (g.contents old) (g.may_leave old) (g.contents new) (g.may_leave new) (g.left_since new (g.moment old)))
    survives None s = tt
    survives (Some file) s = run s

-- the same where it answered all but one
pub survives_kept : {D : Type 0} (g : Ghosts D) (before answered after more : List Stamped) (status : ℕ) (old mid new : D) → Changes g.moment g.may_leave g.left_since Same old mid
    → ((c : List ℕ) → g.left_since old (g.moment old) c → g.may_leave old c) → g.contents mid ≡ g.contents old → IfSome (g.contents new) (g.may_leave new)
    → after ≡ before ++ more → length before ≤ length answered → IsOneMore answered after → (IsWhole status → answered ≡ after) → IfSome (g.contents mid) (λ file. StopsRun g before answered after mid new)
    → IfSome (g.contents old) (λ file. Survives 1 before more (length answered - length before) status (g.contents old) (g.may_leave old) (g.contents new) (g.may_leave new) (g.left_since new (g.moment old)))
survives_kept g before answered after more status old mid new same only held read grown first last whole stops =
    survives_few g 1 before answered after more status old mid new same only held read grown first (one_few answered after last) whole stops

none_few : {before : List Stamped} {k status : ℕ} {held left : Option (List ℕ)} {was images since : List ℕ → Type 0} → Survives 1 before [] k status held was left images since → k ≡ 0
none_few s = omega (arith, s.few.0)

-- where nothing was accepted, nothing was answered
pub survives_none : {D : Type 0} (g : Ghosts D) (before : List Stamped) (k status : ℕ) (old new : D) → DiskSurvives 1 (seen g old new) before [] k status → DiskSurvives 1 (seen g old new) before [] 0 status
survives_none {D = D} g before k status old new = none (g.contents old)
  where
    none : (o : Option (List ℕ)) → IfSome o (λ file. Survives 1 before [] k status (g.contents old) (g.may_leave old) (g.contents new) (g.may_leave new) (g.left_since new (g.moment old)))
        → IfSome o (λ file. Survives 1 before [] 0 status (g.contents old) (g.may_leave old) (g.contents new) (g.may_leave new) (g.left_since new (g.moment old)))
    none None s = tt
    none (Some file) s = subst (λ (n : ℕ). Survives 1 before [] n status (g.contents old) (g.may_leave old) (g.contents new) (g.may_leave new) (g.left_since new (g.moment old))) (none_few s) s

-- a journal that was begun
begun_image : (was : List ℕ → Type 0) (d c : List ℕ) → was d → Begun d c → was c ⊎ ((opens c ≡ Ok start) ⊎ ((at : ℕ) × (opens c ≡ Err at)))
begun_image was d c here (inl e) = inl (subst was (sym e) here)
begun_image was d c here (inr (inl e)) = inr (inl (ap judged_all e))
begun_image was d c here (inr (inr p)) = inr (inr (p.0, ap judged_all p.1))

since_begun : (was : List ℕ → Type 0) (c : List ℕ) (left : Type 0) → (left → was c) → left ⊎ After Begun was c → was c ⊎ ((opens c ≡ Ok start) ⊎ ((at : ℕ) × (opens c ≡ Err at)))
since_begun was c left only (inl l) = inl (only l)
since_begun was c left only (inr past) = begun_image was past.0 c past.1 past.2

new_opens : opens (journal_bytes []) ≡ Ok start
new_opens = refl

new_image : (held was : Option (List ℕ)) (c : List ℕ) → held ≡ option_map (λ file. journal_bytes []) was → held ≡ Some c → opens c ≡ Ok start
new_image held None c e is = absurd (cc)
new_image held (Some file) c e is = let same : c ≡ journal_bytes [] = cc in rw same new_opens

ok_taken : (file : List ℕ) (from : State) (o : Result (List (ℕ × List ℕ)) ℕ) → opened file ≡ o → judged_all o ≡ Ok from → is_ok (opened file) ≡ true
ok_taken file from (Ok records) is opens_as = ap is_ok is
ok_taken file from (Err place) is opens_as = absurd (cc)

either_taken : (long ok other : Bool) → ok ≡ true → (long || ok || other) ≡ true
either_taken true true other is = refl
either_taken false true other is = refl
either_taken long false other is = absurd (cc)

-- a file that opens is taken
opens_taken : (file : List ℕ) (from : State) → opens file ≡ Ok from → is_taken file ≡ true
opens_taken file from is = either_taken (nat_lt 9 (length file)) (is_ok (opened file)) (is_ok (opened_old file)) (ok_taken file from (opened file) refl is)

-- over a file that is taken nothing was written
abbrev pub LeavesTaken : {D : Type 0} (g : Ghosts D) → D → D → Type 0
LeavesTaken g old new = IfSome (g.contents old) (λ file. is_taken file ≡ true → Changes g.moment g.may_leave g.left_since Same old new × (g.contents new ≡ g.contents old))

stays : {D : Type 0} (g : Ghosts D) (history : List Stamped) (old new : D) → ((c : List ℕ) → g.left_since old (g.moment old) c → g.may_leave old c) → Changes g.moment g.may_leave g.left_since Same old new × (g.contents new ≡ g.contents old)
    → StaysAt history (g.contents old) (g.may_leave old) (g.contents new) (g.may_leave new) (g.left_since new (g.moment old))
stays g history old new only same = record {
  always = λ c left. since_image (g.may_leave old) c (g.left_since old (g.moment old) c) (only c) (same.0.since (g.moment old) c (omega arith) left);
  sound = λ m s. record { bytes = rw same.1 s.bytes; near = λ c here. s.near c (same_image (g.may_leave old) (g.may_leave new) same.0.leaves c here) };
}

pub begins : {D : Type 0} (g : Ghosts D) (status : ℕ) (old new : D) → Changes g.moment g.may_leave g.left_since Begun old new
    → ((c : List ℕ) → g.left_since old (g.moment old) c → g.may_leave old c) → (status ≡ 0 → (g.contents new ≡ option_map (λ file. journal_bytes []) (g.contents old)) × Only (g.contents new) (g.may_leave new))
    → LeavesTaken g old new → Begins status (g.contents old) (g.may_leave old) (g.contents new) (g.may_leave new) (g.left_since new (g.moment old))
begins g status old new by only done taken = (
  λ c left. since_begun (g.may_leave old) c (g.left_since old (g.moment old) c) (only c) (by.since (g.moment old) c (omega arith) left),
  λ is c here. new_image (g.contents new) (g.contents old) c (done is).0 ((done is).1 c here),
  keeps (g.contents old) taken,
)
  where
    keeps : (o : Option (List ℕ)) → IfSome o (λ file. is_taken file ≡ true → Changes g.moment g.may_leave g.left_since Same old new × (g.contents new ≡ g.contents old))
        → IfSome o (λ file. (from : State) → opens file ≡ Ok from → StaysAt from.history (g.contents old) (g.may_leave old) (g.contents new) (g.may_leave new) (g.left_since new (g.moment old)))
    keeps None t = tt
    keeps (Some file) t = λ from is. stays g from.history old new only (t (opens_taken file from is))

-- a journal was begun, so the file was free
pub begun_free : {D : Type 0} (g : Ghosts D) (old new : D) → IfSome (g.contents old) (λ file. is_taken file ≡ false) → LeavesTaken g old new
begun_free g old new free = run (g.contents old) free
  where
    run : (o : Option (List ℕ)) → IfSome o (λ file. is_taken file ≡ false) → IfSome o (λ file. is_taken file ≡ true → Changes g.moment g.may_leave g.left_since Same old new × (g.contents new ≡ g.contents old))
    run None f = tt
    run (Some file) f = λ t. absurd (cc)

-- it wasn't, and over a file that is taken nothing was written
pub refused_same : {D : Type 0} (g : Ghosts D) (old new : D) → IfSome (g.contents old) (λ file. is_taken file ≡ true → Changes g.moment g.may_leave g.left_since Same old new)
    → IfSome (g.contents old) (λ file. is_taken file ≡ true → g.contents new ≡ g.contents old) → LeavesTaken g old new
refused_same g old new one two = run (g.contents old) one two
  where
    run : (o : Option (List ℕ)) → IfSome o (λ file. is_taken file ≡ true → Changes g.moment g.may_leave g.left_since Same old new) → IfSome o (λ file. is_taken file ≡ true → g.contents new ≡ g.contents old)
        → IfSome o (λ file. is_taken file ≡ true → Changes g.moment g.may_leave g.left_since Same old new × (g.contents new ≡ g.contents old))
    run None a b = tt
    run (Some file) a b = λ t. (a t, b t)

-- over a file that is taken the disk is untouched
pub taken_untouched : {D : Type 0} (g : Ghosts D) (old new : D) → ((c : List ℕ) → g.left_since old (g.moment old) c → g.may_leave old c) → LeavesTaken g old new → IfSome (g.contents old) (λ file. is_taken file ≡ true → IsUntouched (seen g old new))
taken_untouched {D = D} g old new only taken = run (g.contents old) taken
  where
    run : (o : Option (List ℕ)) → IfSome o (λ file. is_taken file ≡ true → Changes g.moment g.may_leave g.left_since Same old new × (g.contents new ≡ g.contents old)) → IfSome o (λ file. is_taken file ≡ true → IsUntouched (seen g old new))
    run None t = tt
    run (Some file) t = λ is. let same = t is in untouched_same g old new same.0 only same.1
