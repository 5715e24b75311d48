-- How serving ends, from how its parts did.
use Rattle.std.proofs.Common.{◌≡◌, ◌++◌, [], length, List, ℕ, Option, Some, None, Result, Ok, Err, refl, ap, sym, subst, ◌∙◌, arith, take, inl, take_all, option_map}
use Rattle.std.specs.Prelude.{All, IfErr, IfSome, OnOk}
use Rattle.std.proofs.lemmas.List.Elements.{All-nil}
use Rattle.reg_outside.specs.Connections.{Connections}
use Rattle.reg_outside.specs.Faults.{Rose}
use Rattle.reg_outside.specs.declared.disk.Disk as disk
use Rattle.reg_terms.specs.declared.command.Stamped.{Stamped}
use Rattle.reg_machine.specs.History.{State}
use Rattle.reg_keep.specs.Keeping.{kept_in}
use Rattle.reg_keep.specs.declared.keeper.Keeper.{Ghosts}
use Rattle.reg_service.specs.Kept.{IsBetween, KeptOn, Stopped}
use Rattle.reg_service.specs.Opening.{payloads_of, FrontsReopen}
use Rattle.reg_serve.specs.KeepingUp.{IsResponse, VisitsKeepUp, output_seen}
use Rattle.reg_serve.specs.Visits.{CeasesAt, CeasesServing, Visit, Visits}
use Rattle.reg_serve.specs.declared.ended.Ceased.{Ceased}
use Rattle.reg_serve.specs.declared.ended.Ceased.TheVariants as ceased
use Rattle.reg_run.specs.Crash.{IsWhole, seen}
use Rattle.reg_run.specs.KeepsUp.{KeepsUp}
use Rattle.reg_run.specs.Serving.{ConnectionsKeepUp, ServedSome, ServeEnds, end_of_serve}
use Rattle.reg_run.specs.Status.{status_of}
use Rattle.reg_run.specs.World.{World}
use Rattle.reg_run.proofs.Ending.{three, four}
use Rattle.reg_run.proofs.KeepingUp.{StandsOn, disk_keeps_up}

-- no connection was served
pub no_visits : (told : Option Connections) → Visits told told []
no_visits None = tt
no_visits (Some told) = refl

between_same : (h : List Stamped) (r : Result (List (List ℕ)) ℕ) → r ≡ Ok (payloads_of h) → IsBetween h h r
between_same h r e = (length h, omega arith, omega arith, e ∙ ap (λ (l : List Stamped). Ok (payloads_of l)) (sym (take_all (length h) h (omega arith))))

stopped_same : {K : Type 0} (g : Ghosts K) (h : List Stamped) (k : K) (o : Option (List (List ℕ))) → FrontsReopen h → ((r : Result (List (List ℕ)) ℕ) → g.stop_leaves k r → r ≡ Ok (payloads_of h)) → IfSome o (λ ps. Stopped g h h k)
stopped_same g h k None fronts left = tt
stopped_same g h k (Some ps) fronts left = (fronts, λ r here. between_same h r (left r here))

-- nothing was asked, and the keeper given back
pub nothing_ceased : {K : Type 0} (g : Ghosts K) (limit : ℕ) (s : State) (old keeper : K) (moments : Option (List ℕ)) (before after : Option Connections) → keeper ≡ old → after ≡ before
    → KeptOn g s.history old s.history old → FrontsReopen s.history → ((r : Result (List (List ℕ)) ℕ) → g.stop_leaves keeper r → r ≡ Ok (payloads_of s.history))
    → (c : CeasesServing g limit s old moments before after moments ceased.Listener keeper) × (c.visits ≡ []) × VisitsKeepUp g old c.halted.after keeper c.visits
nothing_ceased {K = K} g limit s old keeper moments before after same told kept fronts left = (
  record {
    visits = [];
    told = subst (λ (o : Option Connections). Visits before o []) (sym told) (no_visits before);
    few = omega arith;
    halted = record {
      answered = s.history;
      after = s.history;
      first = omega arith;
      last = inl refl;
      kept = subst (λ (x : K). KeptOn g s.history old s.history x) (sym same) kept;
      stopped = stopped_same g s.history keeper (g.payloads old) fronts left;
    };
    ends = (s, (refl, refl), refl, refl);
  },
  refl,
  All-nil _,
)

-- a count that stayed once and then stayed again
pub still_then : {A E : Type 0} (r : Result A E) (a b c : ℕ) → b ≡ a → OnOk r (c ≡ b) → OnOk r (c ≡ a)
still_then (Ok x) a b c first second = second ∙ first
still_then (Err e) a b c first second = tt

-- what is true of an error, from what is
pub if_err_so : {A E : Type 0} {P Q : E → Type 0} (r : Result A E) → ((e : E) → P e → Q e) → IfErr r P → IfErr r Q
if_err_so (Ok x) so is = tt
if_err_so (Err e) so is = so e is

-- each connection keeps up with the disk of a keeper
pub visits_keep_up : {K D : Type 0} (j : Ghosts K) (g : disk.Ghosts D) (first k : K) (old new : D) (told later : Option Connections) (visits : List Visit) (before more history : List Stamped) → VisitsKeepUp j first history k visits → Visits told later visits
    → history ≡ before ++ more → IfSome (j.payloads first) (λ ps. FrontsReopen history) → StandsOn j g k new → j.payloads first ≡ option_map kept_in (g.contents old)
    → ConnectionsKeepUp (seen g old new) (before ++ more) told later
visits_keep_up j g first k old new told later visits before more history a are grown again on same =
    run (g.contents old) (λ (v : Visit). KeepsUp (seen g old new) (before ++ more) IsResponse (output_seen v.came) (output_seen v.back)) (λ i v within. disk_keeps_up j g IsResponse first k old new _ _ before more history (a i v within) grown again on same)
  where
    run : (held : Option (List ℕ)) (P : Visit → Type 0) → All (λ v. IfSome held (λ file. P v)) visits → IfSome held (λ file. (vs : List Visit) × Visits told later vs × All P vs)
    run None P all = tt
    run (Some file) P all = (visits, are, all)

-- serving ceased
pub serve_ceased : (why : Ceased) (from : State) (port limit : ℕ) (before after : World) (more : List Stamped) (n : ℕ) (answered kept : List Stamped) → (why ≡ ceased.Listener → Rose before.net.net_faults after.net.net_faults)
    → (why ≡ ceased.Disk → Rose before.faults after.faults) → from.history ++ take n more ≡ answered → kept ≡ from.history ++ more → ServedSome from port limit before after answered kept why
    → ServeEnds (end_of_serve why) from port limit before after more (from.history ++ take n more)
serve_ceased why from port limit before after more n answered kept listener disk front grown ends =
    cases why listener disk
    (subst (λ (l : List Stamped). ServedSome from port limit before after (from.history ++ take n more) l why) grown
    (subst (λ (l : List Stamped). ServedSome from port limit before after l kept why) (sym front) ends))
  where
    cases : (w : Ceased) → (w ≡ ceased.Listener → Rose before.net.net_faults after.net.net_faults) → (w ≡ ceased.Disk → Rose before.faults after.faults)
        → ServedSome from port limit before after (from.history ++ take n more) (from.history ++ more) w → ServeEnds (end_of_serve w) from port limit before after more (from.history ++ take n more)
    cases ceased.Listener listener disk e = (listener refl, e)
    cases ceased.Memory listener disk e = e
    cases ceased.Disk listener disk e = (disk refl, e)

-- where the listener failed, all that was accepted was answered
pub ceased_whole : (why : Ceased) (s : State) (moments : Option (List ℕ)) (visits : List Visit) (later : Option (List ℕ)) (answered after : List Stamped) → CeasesAt s moments visits later answered after why
    → IsWhole (status_of (end_of_serve why)) → answered ≡ after
ceased_whole ceased.Listener s moments visits later answered after e is = e.2 ∙ sym e.3
ceased_whole ceased.Memory s moments visits later answered after e is = absurd (three is)
ceased_whole ceased.Disk s moments visits later answered after e is = absurd (four is)
