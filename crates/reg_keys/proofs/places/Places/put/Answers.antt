use Rattle.std.proofs.Common.{rules, ◌≡◌, ℕ, Bool, true, Some, None, cond, sym, ap, subst, ◌∙◌, if◌then◌else◌}
use Rattle.std.specs.BTreeMap.{get, is_at}
use Rattle.reg_keys.specs.declared.digest.Digest.{Digest}
use Rattle.reg_keys.specs.declared.places.Places.{Places}
use Rattle.reg_keys.specs.Digests.{digest, digest_cmp}
use Rattle.reg_keys.specs.Places.{first_or, stands_at, other_in, AreBelow}
use Rattle.reg_keys.specs.Records.{kept}
use Rattle.reg_keys.proofs.Placing.{first_after, below_after}
use Rattle.reg_keys.proofs.places.Places.put.Goals as goal
use Rattle.reg_keys.proofs.places.Places.put.Goals.{in-Some+else-not-is_of, in_default}

-- the key is the first of its digest now, and no other one's stood there
pub returns-clause-added : goal.returns-clause-added
returns-clause-added c =
    let by = c.args.by.now in
    let key = c.args.key.now in
    let old = c.args.self.now in
    let same : c.match-get.self ≡ old = elim c.match-get.branch [ in-Some+else-not-is_of w ↦ w.self-is | in_default w ↦ w.self-is ] in
    let test : ℕ → Bool = λ p. stands_at (kept c.args.records.now) p by key in
    let was : first_or test (get digest_cmp old.firsts (digest by key)) None ≡ get digest_cmp old.firsts (digest by key) =
    elim c.match-get.branch [
      | in-Some+else-not-is_of w ↦
          let has : get digest_cmp old.firsts (digest by key) ≡ Some w.in-Some.first.now = search rules in
          let it : test w.in-Some.first.now ≡ true = search rules in
          ap (λ o. first_or test o None) has ∙ ap (λ (b : Bool). if b then Some w.in-Some.first.now else None) it ∙ sym has
      | in_default w ↦
          let none : get digest_cmp old.firsts (digest by key) ≡ None = search rules in
          ap (λ o. first_or test o None) none ∙ sym none
    ] in
    let updates : (q : Digest) → get digest_cmp c.insert.new.self q ≡ cond (is_at (digest_cmp (digest by key)) q) (Some c.args.place) (get digest_cmp c.match-get.self.firsts q) =
    subst (λ d. (q : Digest) → get digest_cmp c.insert.new.self q ≡ cond (is_at (digest_cmp d) q) (Some c.args.place) (get digest_cmp c.match-get.self.firsts q)) c.digest_of-digest.ensures c.in_ok-insert.ensures.updates.0 in
    let updates_old = subst (λ (s : Places). (q : Digest) → get digest_cmp c.insert.new.self q ≡ cond (is_at (digest_cmp (digest by key)) q) (Some c.args.place) (get digest_cmp s.firsts q)) same updates in
    rw same (first_after (kept c.args.records.now) by key c.args.place old.firsts c.insert.new.self (other_in old.others) updates_old c.requires was)

pub returns-clause-below : goal.returns-clause-below
returns-clause-below c = λ n lt below.
    let same : c.match-get.self ≡ c.args.self.now = elim c.match-get.branch [ in-Some+else-not-is_of w ↦ w.self-is | in_default w ↦ w.self-is ] in
    let now : AreBelow n c.match-get.self = subst (AreBelow n) (sym same) below in
    record {
      firsts = λ q. below_after (is_at (digest_cmp c.digest_of-digest.result) q) c.args.place n (get digest_cmp c.match-get.self.firsts q) (get digest_cmp c.insert.new.self q) (now.firsts q) (c.in_ok-insert.ensures.updates.0 q) lt;
      others = now.others;
    }
