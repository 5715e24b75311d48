-- What is shown over the facts at the clock is what the view at the clock shows.
use Rattle.std.proofs.Common.{◌≡◌, ℕ, List, Result, ◌∙◌, ap, refl, sym, subst, IfErr, IfOk, Ok, Err}
use Rattle.reg_terms.specs.declared.command.Stamped.{Stamped}
use Rattle.reg_terms.specs.declared.refusal.Refusal.{Refusal}
use Rattle.reg_terms.specs.declared.query.Query.{Query}
use Rattle.reg_terms.specs.declared.query.Answer.{Answer}
use Rattle.reg_facts.specs.Lists.{Lists}
use Rattle.reg_effect.specs.declared.live.Live.{Live}
use Rattle.reg_effect.specs.Member.{member}
use Rattle.reg_machine.specs.History.{facts}
use Rattle.reg_current.specs.Live.{live}
use Rattle.reg_view.specs.AtClock.{asked_at, view}
use Rattle.reg_view.specs.Knowing.{IsKnownTo}
use Rattle.reg_view.specs.Missing.{MayYield}
use Rattle.reg_view.specs.Past.{Past, past}
use Rattle.reg_view.specs.Show.{show}
use Rattle.reg_view.specs.Telling.{IfRefused, TellsOf, names_of}
use Rattle.reg_view.specs.Unseen.{IsOfNoneGone, IsUnseen, IsUnseenObject}
use Rattle.reg_view.specs.View.{View, view_of}
use Rattle.reg_view.proofs.Knowing.{show_known}
use Rattle.reg_view.proofs.Tellings.{show_says}

pub at_clock : (history : List Stamped) (now : ℕ) (by : List ℕ) (q : Query) (L : Live) (f : Lists) (r : Result Answer Refusal) → L ≡ live now (facts history now) → f ≡ facts history now
    → r ≡ show (view_of (past history now) L f now (asked_at now q) by) q → r ≡ show (view history now (asked_at now q) by) q
unfolding view
at_clock history now by q L f r live_is facts_is shown =
    shown
    ∙ ap (λ l. show (view_of (past history now) l f now (asked_at now q) by) q) live_is
    ∙ ap (λ g. show (view_of (past history now) (live now (facts history now)) g now (asked_at now q) by) q) facts_is

-- what may yield over the facts may yield at the clock
pub yields_at : {E : Type 0} (history : List Stamped) (now : ℕ) (by : List ℕ) (q : Query) (L : Live) (f : Lists) (r : Result (Result Answer Refusal) E) → L ≡ live now (facts history now) → f ≡ facts history now
    → IfErr r (λ _. IfRefused MayYield (show (view_of (past history now) L f now (asked_at now q) by) q)) → IfErr r (λ _. IfRefused MayYield (show (view history now (asked_at now q) by) q))
yields_at history now by q L f r live_is facts_is h =
    subst (λ x. IfErr r (λ _. IfRefused MayYield x)) (at_clock history now by q L f (show (view_of (past history now) L f now (asked_at now q) by) q) live_is facts_is refl) h

-- a group that isn't seen at the clock isn't seen over the facts there
pub unseen_at : (history : List Stamped) (now : ℕ) (by group : List ℕ) (L : Live) (f : Lists) → L ≡ live now (facts history now) → f ≡ facts history now
    → IsUnseen (live now (facts history now)) (facts history now) by group → IsUnseen L f by group
unseen_at history now by group L f live_is facts_is h =
    subst (λ l. IsUnseen l f by group) (sym live_is) (subst (λ g. IsUnseen (live now (facts history now)) g by group) (sym facts_is) h)

-- and so an object
pub unseen_object_at : (history : List Stamped) (now : ℕ) (by name : List ℕ) (L : Live) (f : Lists) → L ≡ live now (facts history now) → f ≡ facts history now
    → IsUnseenObject (live now (facts history now)) (facts history now) by name → IsUnseenObject L f by name
unseen_object_at history now by name L f live_is facts_is h =
    subst (λ l. IsUnseenObject l f by name) (sym live_is) (subst (λ g. IsUnseenObject (live now (facts history now)) g by name) (sym facts_is) h)

-- and so one that isn't gone
pub none_gone_at : (p : Past) (history : List Stamped) (now : ℕ) (by : List ℕ) (q : Query) (L : Live) (f : Lists) → L ≡ live now (facts history now) → f ≡ facts history now
    → IsOfNoneGone p (live now (facts history now)) (facts history now) by q → IsOfNoneGone p L f by q
none_gone_at p history now by q L f live_is facts_is h =
    subst (λ l. IsOfNoneGone p l f by q) (sym live_is) (subst (λ g. IsOfNoneGone p (live now (facts history now)) g by q) (sym facts_is) h)

-- who is a member at the clock is who was
pub now_is : (history : List Stamped) (now : ℕ) (L : Live) → L ≡ live now (facts history now) → (g s : ℕ) → (past history now).was now g s ≡ member L g s
now_is history now L live_is g s = ap (λ l. member l g s) (sym live_is)

-- what is live now are the rows of the present facts that are on
pub live_is : (history : List Stamped) (now : ℕ) (L : Live) (f : Lists) → f ≡ facts history now → L ≡ live now (facts history now) → L ≡ live now f
live_is history now L f facts_are lives = lives ∙ ap (λ g. live now g) (sym facts_are)

-- what is shown tells nothing else
pub tells_at : (v : View) (q : Query) (r : Result Answer Refusal) → r ≡ show v q → IfRefused (TellsOf v (names_of q)) r
tells_at v q r is = subst (λ x. IfRefused (TellsOf v (names_of q)) x) (sym is) (show_says v q)

pub if_ok : {A E : Type 0} (r : Result A E) (P Q : A → Type 0) → ((x : A) → P x → Q x) → IfOk r P → IfOk r Q
if_ok (Ok x) P Q goes h = goes x h
if_ok (Err e) P Q goes h = tt

-- and what is told at the clock may be known
pub known_at : (history : List Stamped) (now : ℕ) (by : List ℕ) (q : Query) (r : Result Answer Refusal) → r ≡ show (view history now (asked_at now q) by) q
    → IfOk r (IsKnownTo (past history now) (live now (facts history now)) (facts history now) (asked_at now q) by)
unfolding view
known_at history now by q r is =
    subst (λ x. IfOk x (IsKnownTo (past history now) (live now (facts history now)) (facts history now) (asked_at now q) by)) (sym is)
    (show_known (past history now) (live now (facts history now)) (facts history now) now (asked_at now q) by q)
