-- That a run keeps up, from what the stops of its keeper leave.
use Rattle.std.proofs.Common.{◌≡◌, ◌+◌, ◌++◌, ◌∷◌, ◌∙◌, List, ℕ, Option, Some, None, Result, [], refl, ap, sym, subst, arith, option_map, length, take, append-nil, inl, inr}
use Rattle.std.specs.Prelude.{IfSome}
use Rattle.std.specs.Io.KnownBytes.{append_known}
use Rattle.std.proofs.lemmas.List.{take_all}
use Rattle.reg_outside.specs.Marks.{Mark}
use Rattle.reg_outside.specs.Streams.{WritesFront}
use Rattle.reg_outside.specs.declared.disk.Disk.{Ghosts}
use Rattle.reg_terms.specs.declared.command.Stamped.{Stamped}
use Rattle.reg_keep.specs.Frames.{opened, payloads_in}
use Rattle.reg_keep.specs.Keeping.{kept_in}
use Rattle.reg_keep.specs.Stops.{Stop}
use Rattle.reg_keep.specs.declared.keeper.Keeper as keeper
use Rattle.reg_service.specs.Kept.{Halted, HaltedBy, Stopped}
use Rattle.reg_service.specs.Marked.{each_so}
use Rattle.reg_service.specs.Marks.{AreMarked, IsMarked, KeepsUpInPart, LeavesAtLeast, Output, Writing}
use Rattle.reg_service.specs.Opening.{FrontsReopen}
use Rattle.reg_run.specs.Crash.{seen}
use Rattle.reg_run.specs.KeepsUp.{DiskKeepsUp, HasCommand, IsKept, KeepsUp}
use Rattle.reg_run.specs.Once.{Printed}
use Rattle.reg_run.specs.World.{Out}
use Rattle.reg_run.specs.declared.status.End.{End}
use Rattle.reg_run.proofs.Opened.{opens_by}

-- an image with the payloads of a front opens to it
has_command : (history : List Stamped) (number : ℕ) (c : List ℕ) → FrontsReopen history → LeavesAtLeast number history (payloads_in c) → HasCommand number history c
has_command history number c again l = (l.0, l.1, l.2, opens_by c (take l.0 history) (opened c) refl l.3 (again l.0 l.2))

-- a keeper stands on a disk: its moment is the disk's, and each image is one of its stops
pub record StandsOn {K D : Type 0} (j : keeper.Ghosts K) (g : Ghosts D) (k : K) (disk : D) : Type 0 where
  pub moment : j.keep_moment k ≡ g.moment disk
  pub stops : (t : ℕ) (r : Result (List (List ℕ)) ℕ) → Stop (g.left_since disk t) r → j.stopped_since k t r

kept_of : {K D : Type 0} (j : keeper.Ghosts K) (g : Ghosts D) (old new : D) (k : K) (history : List Stamped) → FrontsReopen history → StandsOn j g k new
    → (marks : List Mark) (at number : ℕ) → IsMarked j k history marks at number → IsKept (seen g old new) history marks at number
kept_of j g old new k history again on marks at number m = record {
  there = m.there;
  mark = m.mark;
  set = m.set;
  written = m.written;
  known = m.known;
  ahead = m.before;
  past = omega (arith, m.past, on.moment);
  has = λ c here. has_command history number c again (m.leaves (payloads_in c) (on.stops m.mark.moment (payloads_in c) (c, here, refl)));
}

-- what is true where a keeper tells its payloads is true where its disk tells its bytes
where_told : (X : Type 0) (held : Option (List ℕ)) (told : Option (List (List ℕ))) → told ≡ option_map kept_in held → IfSome told (λ ps. X) → IfSome held (λ file. X)
where_told X None told is x = tt
where_told X (Some file) told is x = subst (λ (o : Option (List (List ℕ))). IfSome o (λ ps. X)) is x

both_so : {P Q : List ℕ → List Mark → Type 0} (o : Option (List ℕ)) (p : Option (List Mark)) → ((bytes : List ℕ) (ms : List Mark) → P bytes ms → Q bytes ms)
    → IfSome o (λ bytes. IfSome p (λ ms. P bytes ms)) → IfSome o (λ bytes. IfSome p (λ ms. Q bytes ms))
both_so None p so m = tt
both_so (Some bytes) None so m = tt
both_so (Some bytes) (Some ms) so m = so bytes ms m

if_both : {A X Y Z : Type 0} (o : Option A) → (X → Y → Z) → IfSome o (λ a. X) → IfSome o (λ a. Y) → IfSome o (λ a. Z)
if_both None so x y = tt
if_both (Some a) so x y = so x y

-- an output keeps up with the disk of a keeper, whose history goes on from an earlier one
pub disk_keeps_up : {K D : Type 0} (j : keeper.Ghosts K) (g : Ghosts D) (R : Writing → Type 0) (first k : K) (old new : D) (out after : Output) (before more history : List Stamped) → KeepsUpInPart j R first out after history k
    → history ≡ before ++ more → IfSome (j.payloads first) (λ ps. FrontsReopen history) → StandsOn j g k new → j.payloads first ≡ option_map kept_in (g.contents old) → DiskKeepsUp (seen g old new) (before ++ more) R out after
disk_keeps_up j g R first k old new out after before more history a grown again on told =
    subst (λ (h : List Stamped). DiskKeepsUp (seen g old new) h R out after) grown (where_told _ (g.contents old) (j.payloads first) told (if_both (j.payloads first) run again a.marked))
  where
    run : FrontsReopen history → IfSome out.written (λ bytes. IfSome after.marks (λ ms. AreMarked j k history ms (length bytes) a.writings)) → KeepsUp (seen g old new) history R out after
    run fronts marked = record {
      writings = a.writings;
      replies = a.replies;
      text = a.text;
      kept = both_so out.written after.marks (λ bytes ms m. each_so (IsMarked j k history ms) (IsKept (seen g old new) history ms) (length bytes) a.writings (kept_of j g old new k history fronts on ms) m) marked;
    }

-- so it is where the service goes on
pub sure_fronts : (told : Option (List (List ℕ))) (history : List Stamped) → FrontsReopen history → IfSome told (λ ps. FrontsReopen history)
sure_fronts None history again = tt
sure_fronts (Some ps) history again = again

-- and where it stopped
stopped_fronts : {K : Type 0} (j : keeper.Ghosts K) (told : Option (List (List ℕ))) (answered after : List Stamped) (k : K) → IfSome told (λ ps. Stopped j answered after k) → IfSome told (λ ps. FrontsReopen after)
stopped_fronts j None answered after k s = tt
stopped_fronts j (Some ps) answered after k s = s.0

pub halted_fronts : {K : Type 0} (j : keeper.Ghosts K) (before : List Stamped) (old k : K) (h : Halted j before old k) → IfSome (j.payloads old) (λ ps. FrontsReopen h.after)
halted_fronts j before old k h = stopped_fronts j (j.payloads old) h.answered h.after k h.stopped

pub halted_by_fronts : {K : Type 0} (most : ℕ) (j : keeper.Ghosts K) (before : List Stamped) (old k : K) (h : HaltedBy most j before old k) → IfSome (j.payloads old) (λ ps. FrontsReopen h.after)
halted_by_fronts most j before old k h = stopped_fronts j (j.payloads old) h.answered h.after k h.stopped

-- what was printed is a front of it
pub printed_front : (good : End) (bytes : List ℕ) (end : End) (old new : Out) → Printed good bytes end old new → WritesFront old.written new.written bytes
printed_front good bytes end old new (inl (inl p)) = (length bytes, omega arith, p.1 ∙ ap (append_known old.written) (sym (take_all (length bytes) bytes (omega arith))))
printed_front good bytes end old new (inl (inr p)) = p.2
printed_front good bytes end old new (inr p) = (0, omega arith, ap (λ (o : Out). o.written) p.1 ∙ nothing old.written)
  where
    nothing : (o : Option (List ℕ)) → o ≡ append_known o []
    nothing None = refl
    nothing (Some bytes) = ap (λ (l : List ℕ). Some l) (sym (append-nil bytes))
