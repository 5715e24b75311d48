-- A group's past over the facts is what the view has of it, for a group that stands and for one that is gone.
use Rattle.std.proofs.Common.{◌≡◌, ◌||◌, ℕ, List, Bool, true, false, Option, Some, None, Result, Ok, Err, refl, sym, ap, ◌∙◌, map, bytes_eq}
use Rattle.std.specs.Prelude.{⊤, if◌then◌else◌, nat_lt, option_map}
use Rattle.reg_base.specs.declared.privilege.Privilege.TheVariants as privilege
use Rattle.reg_terms.specs.Kinds.{as_group, same_object}
use Rattle.reg_terms.specs.declared.kinds.Object.{Object}
use Rattle.reg_terms.specs.declared.kinds.Object.TheVariants.{Folder, Group, Def, Attr, Subject}
use Rattle.reg_terms.specs.declared.refusal.Refusal.{Refusal}
use Rattle.reg_terms.specs.declared.refusal.Refusal.TheVariants.{NotFound, Future}
use Rattle.reg_terms.specs.declared.rows.GroupRow.{GroupRow}
use Rattle.reg_terms.specs.declared.query.Answer.{Answer}
use Rattle.reg_terms.specs.declared.query.Answer.TheVariants as answer
use Rattle.reg_facts.specs.Lists.{Lists}
use Rattle.reg_facts.specs.Members.{texts_where}
use Rattle.reg_facts.specs.Named.{AreNamed}
use Rattle.reg_facts.specs.Naming.{resolve}
use Rattle.reg_facts.specs.Sound.{IsSound}
use Rattle.reg_effect.specs.declared.live.Live.{Live}
use Rattle.reg_effect.specs.Member.{member}
use Rattle.reg_priv.specs.declared.who.Who.{Who}
use Rattle.reg_priv.specs.May.{granted, is_root, visible}
use Rattle.reg_view.specs.Answers as answers
use Rattle.reg_view.specs.Past.{Past, GroupPast, gone_id, group_past, history_of, last_where, moment_of}
use Rattle.reg_view.specs.Show.{◌>>=◌, found_or, in_time, past_of, past_told, read, shown_history, shown_members}
use Rattle.reg_view.specs.View as views
use Rattle.reg_view.specs.View.{View, GroupGone, GroupRead, GroupSeen, for_root, group_gone, group_object, seen_by}
use Rattle.reg_view.proofs.Found.{chosen}
use Rattle.reg_view.proofs.Gone.{last_gone}
use Rattle.reg_view.proofs.Members.{texts_same}
use Rattle.reg_view.proofs.Seen.{by_read, its_row, no_kind, seen_is, steps_join}
use Rattle.reg_view.proofs.Standing.{group_there}

-- root sees every group
no_root : (root other : Bool) → (root || other) ≡ false → root ≡ false
no_root true other h = h
no_root false other h = refl

pub hidden_from : (L : Live) (f : Lists) (c : Who) (g : ℕ) → visible L f c (Group g) ≡ false → is_root L f c ≡ false
hidden_from L f c g h = no_root (is_root L f c) (granted L f c (Group g) privilege.View) h

module _ (past : Past) (moment : ℕ) (L : Live) (f : Lists) (sound : IsSound f) (are : AreNamed f) (c : Who) (now : ℕ) (by : List ℕ) where
  abbrev v : View
  v = seen_by past L f now moment by c

  module _ (text : List ℕ) {B : Type 0} (k : GroupPast → Result B Refusal) (m : ℕ → Result B Refusal) (same : (g : ℕ) → m g ≡ k (group_past past f moment g)) where
    -- one that is gone, for root
    abbrev gone_as : Bool → Option GroupGone
    gone_as root = last_where (λ (g : GroupGone). bytes_eq g.name text) (for_root root (map (group_gone past f moment) past.gone))

    abbrev goes_on : Option GroupPast → Result B Refusal
    goes_on found = found_or found (NotFound text) >>= k

    abbrev past_as : Bool → Option GroupPast
    past_as root = option_map (λ (g : GroupGone). g.past) (gone_as root)

    one_gone : (o : Option ℕ) → (found_or o (NotFound text) >>= m) ≡ goes_on (option_map (group_past past f moment) o)
    one_gone None = refl
    one_gone (Some g) = same g

    gone_by : (root : Bool) → (found_or (if root then gone_id past text else None) (NotFound text) >>= m) ≡ goes_on (past_as root)
    gone_by true = one_gone (gone_id past text) ∙ sym (ap goes_on (last_gone past f moment text past.gone))
    gone_by false = refl

    none_gone : (root : Bool) → root ≡ false → goes_on (past_as root) ≡ Err (NotFound text)
    none_gone root h = ap (λ b. goes_on (past_as b)) h

    -- one that stands
    abbrev reads : GroupRead → Result B Refusal
    reads g = k g.past

    abbrev told : Option GroupSeen → Result B Refusal
    told s = past_told v text s >>= k

    stands : (g : ℕ) (s : GroupSeen) (b : Bool) → visible L f c (Group g) ≡ b → (found_or (if b then Some s else None) (NotFound text) >>= (λ _. read v text >>= reads)) ≡ told (if b then Some s else None)
    stands g s true at = sym (steps_join (read v text) (λ (r : GroupRead). Ok r.past) k)
    stands g s false at = sym (none_gone (is_root L f c) (hidden_from L f c g at))

    abbrev seen_of : Option Object → Option GroupSeen
    seen_of o = chosen group_object (visible L f c) (views.group_seen f) f.groups o

    other : (o : Object) → ((r : GroupRow) → same_object (Group r.id) o ≡ false) → (found_or (answers.gone_found past L f c text) (NotFound text) >>= m) ≡ told (seen_of (Some o))
    other o differ = gone_by (is_root L f c) ∙ sym (ap told (no_kind group_object (visible L f c) (views.group_seen f) f.groups o differ))

    abbrev after : Option GroupSeen → Result B Refusal
    after s = found_or s (NotFound text) >>= (λ _. read v text >>= reads)

    go : (o : Option Object) → resolve text f ≡ o → (answers.past_group past L f c text (as_group o) >>= m) ≡ told (seen_of o)
    go None at = gone_by (is_root L f c)
    go (Some (Folder d)) at = other (Folder d) (λ r. refl)
    go (Some (Group g)) at =
        let there = group_there f sound g (are.found text (Group g) at).1 in
        let row = its_row group_object (visible L f c) (views.group_seen f) f.groups (Group g) there.0 there.1 in
        by_read past moment L f sound are c now by text reads m (λ row. same row.id)
        ∙ ap after (seen_is past moment L f sound are c now by text (Some (Group g)) at ∙ row)
        ∙ stands g (views.group_seen f there.0) (visible L f c (Group g)) refl
        ∙ sym (ap told row)
    go (Some (Def a)) at = other (Def a) (λ r. refl)
    go (Some (Attr a)) at = other (Attr a) (λ r. refl)
    go (Some (Subject s)) at = other (Subject s) (λ r. refl)

    -- going on from a group's past
    pub by_past : (answers.group_past past L f c text >>= m) ≡ (past_of v text >>= k)
    by_past = go (resolve text f) refl ∙ sym (ap told (seen_is past moment L f sound are c now by text (resolve text f) refl))

  pub history_agree : (group : List ℕ) → answers.history_told past L f c group ≡ shown_history v group
  history_agree group = by_past group (λ (g : GroupPast). Ok (answer.History g.history)) (λ id. Ok (answer.History (history_of past id f.subjects))) (λ g. refl)

-- what is asked of a later moment is refused, and so it doesn't matter which moment is then looked at
abbrev refused : ℕ → ℕ → Bool → Result ⊤ Refusal
refused now at b = if b then Err (Future at now) else Ok tt

pub in_time_same : {A : Type 0} (X : ℕ → Result A Refusal) (now at : ℕ) → (in_time now (Some at) >>= (λ _. X at)) ≡ (in_time now (Some at) >>= (λ _. X (moment_of now (Some at))))
in_time_same {A} X now at = go (nat_lt now at)
  where
    go : (b : Bool) → (refused now at b >>= (λ _. X at)) ≡ (refused now at b >>= (λ _. X (if b then now else at)))
    go true = refl
    go false = refl

module _ (past : Past) (L : Live) (f : Lists) (sound : IsSound f) (are : AreNamed f) (c : Who) (now : ℕ) (by : List ℕ) (is_now : (g s : ℕ) → past.was now g s ≡ member L g s) where
  abbrev those : ℕ → ℕ → Result Answer Refusal
  those g t = Ok (answer.Members (texts_where (past.was t g) f.subjects))

  members_same : (at : Option ℕ) (g : ℕ) → answers.members_at past L f now g at ≡ (in_time now at >>= (λ _. those g (moment_of now at)))
  members_same None g = ap (λ texts. Ok (answer.Members texts)) (texts_same (member L g) (past.was now g) f.subjects (λ s. sym (is_now g s)))
  members_same (Some at) g = in_time_same (those g) now at

  pub members_agree : (group : List ℕ) (at : Option ℕ) → answers.members_of past L f now c group at ≡ shown_members (seen_by past L f now (moment_of now at) by c) group at
  members_agree group at = by_past past (moment_of now at) L f sound are c now by group
      (λ (g : GroupPast). in_time now at >>= (λ _. Ok (answer.Members g.members)))
      (λ id. answers.members_at past L f now id at)
      (members_same at)
