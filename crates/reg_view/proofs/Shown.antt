-- What is computed over the facts is what the view shows, whatever is asked.
use Rattle.std.proofs.Common.{◌≡◌, ℕ, List, true, Option, Some, None, Result, Ok, Err, IfOk, sym, ap, ◌∙◌}
use Rattle.std.specs.List.Sorted.{IsStrictlySortedBy}
use Rattle.std.specs.Cmp.Lexicographic.{slice_cmp}
use Rattle.std.specs.Ordering.{nat_cmp}
use Rattle.reg_terms.specs.declared.refusal.Refusal.TheVariants.{NoCaller}
use Rattle.reg_terms.specs.declared.query.Query.{Query}
use Rattle.reg_terms.specs.declared.query.Query.TheVariants as query
use Rattle.reg_facts.specs.Children.{by_bytes, is_among}
use Rattle.reg_facts.specs.Lists.{Lists}
use Rattle.reg_facts.specs.Named.{AreNamed}
use Rattle.reg_facts.specs.Sound.{IsHeld, IsSound}
use Rattle.reg_effect.specs.declared.live.Live.{Live}
use Rattle.reg_effect.specs.Member.{member}
use Rattle.reg_priv.specs.declared.who.Who.{Who}
use Rattle.reg_current.specs.Live.{live}
use Rattle.reg_view.specs.Answers.{answer_of}
use Rattle.reg_view.specs.AtClock.{asked_at}
use Rattle.reg_view.specs.Past.{Past}
use Rattle.reg_view.specs.Powers.{who_stands}
use Rattle.reg_view.specs.Show.{show}
use Rattle.reg_view.specs.View.{blank, caller_of, seen_by, view_of}
use Rattle.reg_view.proofs.Agreeing.{group_agrees, rows_agree}
use Rattle.reg_view.proofs.Owned.{attributes_agree}
use Rattle.reg_view.proofs.Grouped.{groups_agree}
use Rattle.reg_view.proofs.FolderLists.{listing_agrees}
use Rattle.reg_view.proofs.Logged.{log_agrees}
use Rattle.reg_view.proofs.PastGroups.{history_agree, members_agree}
use Rattle.reg_view.proofs.RootTold.{admin_agrees}
use Rattle.reg_view.proofs.Powers.{caller_stands, grants_agree, may_agrees}

module _ (sorted : (texts : List (List ℕ)) → IsStrictlySortedBy (slice_cmp nat_cmp) (by_bytes texts)) (same : (text : List ℕ) (texts : List (List ℕ)) → is_among text (by_bytes texts) ≡ is_among text texts)
    (past : Past) (L : Live) (f : Lists) (sound : IsSound f) (held : IsHeld f) (are : AreNamed f) (now : ℕ) (by : List ℕ) (is_now : (g s : ℕ) → past.was now g s ≡ member L g s) (is_facts : past.facts now ≡ f) (is_live : L ≡ live now f) where
  answers_agree : (c : Who) (q : Query) → who_stands c f ≡ true → answer_of past L f now by c q ≡ show (seen_by past L f now (asked_at now q) by c) q
  answers_agree c (query.GroupGet group) standing = group_agrees past now L f sound are c now by group
  answers_agree c (query.FolderList folder) standing = listing_agrees sorted same past now L f sound are c now by folder
  answers_agree c (query.Members group at) standing = members_agree past L f sound are c now by is_now group at
  answers_agree c (query.Rows group) standing = rows_agree past now L f sound are c now by group
  answers_agree c (query.Groups subject at) standing = groups_agree past L f sound are held.texts_once c now by is_now subject at
  answers_agree c (query.Grants object at) standing = grants_agree past L f sound are c now by is_facts is_live standing at object
  answers_agree c (query.May object entity at) standing = may_agrees past L f sound are c now by is_facts is_live standing at entity object
  answers_agree c (query.Attributes object at) standing = attributes_agree past L f sound are c now by is_facts at object
  answers_agree c (query.History group) standing = history_agree past now L f sound are c now by group
  answers_agree c (query.Log consumer max) standing = log_agrees past L f c now now by consumer max
  answers_agree c query.Admin standing = admin_agrees past L f c now now by

  -- a caller that stands
  pub caller_shown : (c : Who) (q : Query) → caller_of by f ≡ Some c → answer_of past L f now by c q ≡ show (view_of past L f now (asked_at now q) by) q
  caller_shown c q at = answers_agree c q (caller_stands f by c at) ∙ sym (ap (λ (w : Option Who). show (elim w [ None ↦ blank now by | Some x ↦ seen_by past L f now (asked_at now q) by x ]) q) at)

-- a caller that doesn't stand
pub nobody_shown : (past : Past) (L : Live) (f : Lists) (now moment : ℕ) (by : List ℕ) (q : Query) → caller_of by f ≡ None → Err NoCaller ≡ show (view_of past L f now moment by) q
nobody_shown past L f now moment by q at = sym (ap (λ (w : Option Who). show (elim w [ None ↦ blank now by | Some x ↦ seen_by past L f now moment by x ]) q) at)

pub if_ok : {A E : Type 0} (r : Result A E) (P Q : A → Type 0) → ((x : A) → P x → Q x) → IfOk r P → IfOk r Q
if_ok (Ok x) P Q goes h = goes x h
if_ok (Err e) P Q goes h = tt
