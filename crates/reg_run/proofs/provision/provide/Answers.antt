use Rattle.std.proofs.Common.{◌≡◌, ◌≤◌, ℕ, refl, sym, ap, subst, inl, inr}
use Rattle.std.proofs.Math.Nat.{le-max_right}
use Rattle.reg_outside.specs.Faults.{Rose}
use Rattle.reg_machine.specs.History.{State}
use Rattle.reg_terms.specs.declared.reply.Reply.TheVariants as reply
use Rattle.reg_session.proofs.Halting.{halted_then, next_began, next_halted, next_kept}
use Rattle.reg_run.specs.Providing.{Provides}
use Rattle.reg_run.specs.World.{out_of}
use Rattle.reg_run.specs.declared.status.End.TheVariants as the_end
use Rattle.reg_run.proofs.Providing.{began_same, printed_disk}
use Rattle.reg_run.proofs.provision.provide.Goals as goal

-- the clock has come to the moment
pub provide_now-requires : goal.provide_now-requires
provide_now-requires g c =
    let moved = rw c.in-Go.is at c.at.ensures.moved in
    record { now = subst (λ (n : ℕ). c.now-at.result ≤ n) (sym (ap (λ (s : State). s.clock) moved)) (le-max_right c.args.service.state.clock c.now-at.result) }

-- the batch was provided from there
pub returns-in-Go-clause-once : goal.returns-in-Go-clause-once
returns-in-Go-clause-once g c =
    let from = c.args.service.state in
    let s = c.in-Go.service in
    let moved = rw c.in-Go.is at c.at.ensures.moved in
    let same = rw c.in-Go.is at c.at.ensures.same in
    let now = c.provide_now.ensures.provided in
    record {
      at = c.now-at.result;
      moment = c.now-at.ensures.moment;
      halted = halted_then g.J.Keeper from.history s.state.history c.args.service.keeper s.keeper c.provide_now.result.1 (next_kept g.J.Keeper from.history from.history c.args.service.keeper c.at.result s c.at.ensures.kept c.in-Go.is) now.0;
      ends = subst (λ (x : State). Provides c.args.asked.now x c.now-at.result c.provide_now.result.0 now.0.answered now.0.after (out_of g.K.Sink c.args.out.now) (out_of g.K.Sink c.provide_now.new.out)) moved now.1;
      disk = λ is. subst (λ (k : _). Rose (g.J.Keeper.keep_faults k) (g.J.Keeper.keep_faults c.provide_now.result.1)) same (c.provide_now.ensures.disk is);
    }

-- or there was no memory to come to it
pub returns-in-Stop-clause-once : goal.returns-in-Stop-clause-once
returns-in-Stop-clause-once g c =
    let from = c.args.service.state in
    let began = next_began g.J.Keeper from.history from.history c.args.service.keeper c.at.result c.in-Stop.field-0 c.in-Stop.keeper c.at.ensures.kept c.in-Stop.is (inl refl) in
    let h = next_halted g.J.Keeper from.history from.history c.args.service.keeper c.at.result c.in-Stop.field-0 c.in-Stop.keeper c.at.ensures.kept c.in-Stop.is (inl refl) in
    record {
      at = c.now-at.result;
      moment = c.now-at.ensures.moment;
      halted = h;
      ends = inl ((refl, began_same c.in-Stop.field-0 from.history h.after began), (reply.NoMemory, inr refl, c.print_withheld.ensures));
      disk = λ is. let both : the_end.Memory ≡ the_end.Disk = printed_disk the_end.Memory c.print_withheld.result _ _ _ c.print_withheld.ensures is in absurd (cc);
    }
