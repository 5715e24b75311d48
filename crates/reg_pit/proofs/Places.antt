-- The intervals of one key among those of all keys.
use Rattle.std.proofs.Common.{◌≡◌, ◌<◌, ◌≤◌, ◌&&◌, ℕ, suc, List, [], ◌∷◌, Bool, true, false, not, map, filter, cond, Option, Some, None, nat_le, arith, refl, sym, ◌∙◌, ap, inl, inr}
use Rattle.std.proofs.lemmas.Bool.{cases_Bool}
use Rattle.std.proofs.lemmas.Bool.Decides.{nat_tests}
use Rattle.std.proofs.lemmas.Grind.{common_steps}
use Rattle.std.proofs.lemmas.Cmp.{tied_itself, alike_right}
use Rattle.std.specs.Cmp.{IsTotalOrder}
use Rattle.std.specs.List.{AllByRecursion}
use Rattle.std.specs.List.Sorted.{IsStrictlySortedBy}
use Rattle.std.specs.Map.{lookup, remove_entry, keys_of}
use Rattle.std.specs.BTreeMap.{is_at, insert_entry}
use Rattle.std.specs.BTreeMap.Range.{entries_between}
use Rattle.std.specs.Ordering.{nat_cmp, is_eq, is_le, is_lt, match_ordering}
use Rattle.std.specs.declared.ops.Bound.TheVariants.{Included}
use Rattle.std.specs.declared.cmp.Ordering.{Ordering}
use Rattle.std.specs.declared.cmp.Ordering.TheVariants.{Less, Equal}
use Rattle.reg_pit.specs.Spans.{NoLater}
use Rattle.reg_pit.specs.Runs.{never, span_of, place_cmp, runs_of, spans_of, RunsFrom, AreRuns, EndedBy, Switched}
use Rattle.reg_pit.proofs.Orders.{Answer, less, equal, greater, answer, then_equal, then_less, is_equal}
use Rattle.reg_pit.proofs.Turning.{start_at, with_run, without_run, Turned, begins, goes_on, stays_on, stays_off, vanishes, ends, open_start, overwritten, put_back, start_with, ended_with, ended_without}

-- an end and a start
abbrev pub run_of : {K : Type 0} → (K × ℕ) × ℕ → ℕ × ℕ
run_of e = (e.0.1, e.1)

module _ {K : Type 0} (R : K → K → Ordering) (o : IsTotalOrder R) where
  -- equal keys have the same intervals
  pub alike_runs : (k j : K) (es : List ((K × ℕ) × ℕ)) → R k j ≡ Equal → runs_of R k es ≡ runs_of R j es
  alike_runs k j [] h = refl
  alike_runs k j (e ∷ es) h = rw (o.congr k j e.0.0 h, alike_runs k j es h) refl

  -- ---- what stands at a place

  pub start_found : (k : K) (e : ℕ) (es : List ((K × ℕ) × ℕ)) → lookup (is_at (place_cmp R (k, e))) es ≡ start_at e (runs_of R k es)
  start_found k e [] = refl
  start_found k e (x ∷ es) = elim (answer (R k x.0.0)) [
    | less h ↦ rw h (start_found k e es)
    | greater h ↦ rw h (start_found k e es)
    | equal h ↦ rw h (ap (λ rest. cond (is_at (nat_cmp e) x.0.1) (Some x.1) rest) (start_found k e es))
  ]

  -- ---- one less

  pub remove_same : (k : K) (e : ℕ) (es : List ((K × ℕ) × ℕ)) → runs_of R k (remove_entry (is_at (place_cmp R (k, e))) es) ≡ without_run e (runs_of R k es)
  remove_same k e [] = refl
  remove_same k e (x ∷ es) = elim (answer (R k x.0.0)) [
    | less h ↦ rw (h, h) (remove_same k e es)
    | greater h ↦ rw (h, h) (remove_same k e es)
    | equal h ↦ rw h (elim (cases_Bool (is_at (nat_cmp e) x.0.1)) [
      | inl t ↦ rw t refl
      | inr f ↦ rw (f, h) (ap (λ rest. (x.0.1, x.1) ∷ rest) (remove_same k e es))
    ])
  ]

  -- a key that is equal to another is as far from a third
  far : (k j x : K) → is_eq (R j k) ≡ false → R k x ≡ Equal → is_eq (R j x) ≡ false
  far k j x h e = ap is_eq (sym (alike_right o k x j e)) ∙ h

  pub remove_other : (k j : K) (e : ℕ) (es : List ((K × ℕ) × ℕ)) → is_eq (R j k) ≡ false → runs_of R j (remove_entry (is_at (place_cmp R (k, e))) es) ≡ runs_of R j es
  remove_other k j e [] h = refl
  remove_other k j e (x ∷ es) h = elim (cases_Bool (is_at (place_cmp R (k, e)) x.0)) [
    | inl t ↦ rw (t, far k j x.0.0 h (then_equal (R k x.0.0) (nat_cmp e x.0.1) t)) refl
    | inr f ↦ rw (f, remove_other k j e es h) refl
  ]

  -- ---- one more

  pub insert_other : (k j : K) (e s : ℕ) (es : List ((K × ℕ) × ℕ)) → is_eq (R j k) ≡ false → runs_of R j (insert_entry (place_cmp R) es (k, e) s) ≡ runs_of R j es
  insert_other k j e s [] h = rw h refl
  insert_other k j e s (x ∷ es) h = elim (answer (place_cmp R (k, e) x.0)) [
    | less a ↦ rw (a, h) refl
    | equal a ↦ rw (a, far k j x.0.0 h (then_equal (R k x.0.0) (nat_cmp e x.0.1) (ap is_eq a))) refl
    | greater a ↦ rw (a, insert_other k j e s es h) refl
  ]

  -- later keys than a key that is later
  none_past : (k : K) (place : K × ℕ) (es : List ((K × ℕ) × ℕ)) → R k place.0 ≡ Less → AllByRecursion (λ (q : K × ℕ). place_cmp R place q ≡ Less) (keys_of es) → runs_of R k es ≡ []
  none_past k place [] h a = refl
  none_past k place (x ∷ es) h a =
      let later : R k x.0.0 ≡ Less = elim (cases_Bool (is_eq (R place.0 x.0.0))) [
        | inl t ↦ sym (alike_right o place.0 x.0.0 k (is_equal (R place.0 x.0.0) t)) ∙ h
        | inr f ↦ o.trans k place.0 x.0.0 h (then_less (R place.0 x.0.0) (nat_cmp place.1 x.0.1) a.0 f)
      ] in
      rw later (none_past k place es h a.1)

  pub insert_same : (k : K) (e s : ℕ) (es : List ((K × ℕ) × ℕ)) → IsStrictlySortedBy (place_cmp R) (keys_of es) → runs_of R k (insert_entry (place_cmp R) es (k, e) s) ≡ with_run (runs_of R k es) e s
  unfolding IsStrictlySortedBy
  insert_same k e s [] h = rw (tied_itself o k) refl
  insert_same k e s (x ∷ es) h = elim (answer (R k x.0.0)) [
    | less a ↦ rw (a, tied_itself o k, a, none_past k x.0 es a h.0) refl
    | greater a ↦ rw (a, a) (insert_same k e s es h.1)
    | equal a ↦ rw a (here a (answer (nat_cmp e x.0.1)) (insert_same k e s es h.1))
  ]
    where
      here : R k x.0.0 ≡ Equal → Answer (nat_cmp e x.0.1) → runs_of R k (insert_entry (place_cmp R) es (k, e) s) ≡ with_run (runs_of R k es) e s → runs_of R k (match_ordering (nat_cmp e x.0.1) (((k, e), s) ∷ x ∷ es) ((x.0, s) ∷ es) (x ∷ insert_entry (place_cmp R) es (k, e) s)) ≡ with_run ((x.0.1, x.1) ∷ runs_of R k es) e s
      here a (less b) m = rw (b, tied_itself o k, a) refl
      here a (equal b) m = rw (b, a) refl
      here a (greater b) m = rw (b, a) (ap (λ rest. (x.0.1, x.1) ∷ rest) m)

  -- ---- from a place on

  pub from_place : (k : K) (n low : ℕ) (es : List ((K × ℕ) × ℕ)) → RunsFrom n (runs_of R k es) → map run_of (entries_between (place_cmp R) (Included (k, low)) (Included (k, never)) es) ≡ filter (λ (run : ℕ × ℕ). nat_le low run.0) (runs_of R k es)
  from_place k n low [] r = refl
  from_place k n low (x ∷ es) r = elim (answer (R k x.0.0)) [
    | less a ↦ rw a (from_place k n low es (rw a at r))
    | greater a ↦ rw a (from_place k n low es (rw a at r))
    | equal a ↦
        let s = rw a at r in
        let w : (is_le (nat_cmp low x.0.1) && not (is_lt (nat_cmp never x.0.1))) ≡ nat_le low x.0.1 = grind (arith, nat_tests, common_steps, s.2) in
        let more = from_place k (suc x.0.1) low es s.3 in
        rw (a, w) (elim (cases_Bool (nat_le low x.0.1)) [
          | inl t ↦ rw t (ap (λ rest. (x.0.1, x.1) ∷ rest) more)
          | inr f ↦ rw f more
        ])
  ]

  -- ---- one key is switched

  pub switched : (key : K) (at : ℕ) (on : Bool) (old new : List ((K × ℕ) × ℕ)) → AreRuns R old → ((k : K) → NoLater at (spans_of R old k)) → IsStrictlySortedBy (place_cmp R) (keys_of new)
      → ((k : K) → is_eq (R k key) ≡ false → runs_of R k new ≡ runs_of R k old) → Turned 0 at on (runs_of R key old) (runs_of R key new) → Switched R key at on old new
  switched key at on old new kept last sorted others here = record {
    kept = record {
      ordered = sorted;
      each = λ k. elim (answer (R k key)) [
        | equal e ↦ rw (alike_runs k key new e) here.runs
        | less e ↦ rw (others k (ap is_eq e)) (kept.each k)
        | greater e ↦ rw (others k (ap is_eq e)) (kept.each k)
      ];
    };
    last = λ k. elim (answer (R k key)) [
      | equal e ↦ rw (alike_runs k key new e) here.last
      | less e ↦ rw (others k (ap is_eq e)) (last k)
      | greater e ↦ rw (others k (ap is_eq e)) (last k)
    ];
    covers = λ k t. elim (answer (R k key)) [
      | equal e ↦ rw (alike_runs k key new e, alike_runs k key old e, o.antisymm key k, e) (here.covers t)
      | less e ↦ rw (others k (ap is_eq e), o.antisymm key k, e) refl
      | greater e ↦ rw (others k (ap is_eq e), o.antisymm key k, e) refl
    ];
  }

  -- ---- the ways to switch a key

  nothing_there : (key : K) (e : ℕ) (es : List ((K × ℕ) × ℕ)) → lookup (is_at (place_cmp R (key, e))) es ≡ None → start_at e (runs_of R key es) ≡ None
  nothing_there key e es h = sym (start_found key e es) ∙ h

  one_there : (key : K) (e s : ℕ) (es : List ((K × ℕ) × ℕ)) → lookup (is_at (place_cmp R (key, e))) es ≡ Some s → start_at e (runs_of R key es) ≡ Some s
  one_there key e s es h = sym (start_found key e es) ∙ h

  -- an end that is never, and one that is now
  module _ (key : K) (at : ℕ) (old : List ((K × ℕ) × ℕ)) (kept : AreRuns R old) (last : (k : K) → NoLater at (spans_of R old k)) (moment : at < never) (open_ now : ℕ) (is_never : open_ ≡ never) (is_now : now ≡ at) where
    -- and a moment after which none ended
    module _ (latest : ℕ) (ended : (k : K) → EndedBy latest (spans_of R old k)) where
      abbrev pub Begun : List ((K × ℕ) × ℕ) → Type 0
      Begun new = Switched R key at true old new × ((k : K) → EndedBy latest (spans_of R new k))

      begun : (new : List ((K × ℕ) × ℕ)) → IsStrictlySortedBy (place_cmp R) (keys_of new) → ((k : K) → is_eq (R k key) ≡ false → runs_of R k new ≡ runs_of R k old) → Turned 0 at true (runs_of R key old) (runs_of R key new)
          → EndedBy latest (map span_of (runs_of R key new)) → Begun new
      begun new sorted others here by = (
        switched key at true old new kept last sorted others here,
        λ k. elim (answer (R k key)) [
          | equal e ↦ rw (alike_runs k key new e) by
          | less e ↦ rw (others k (ap is_eq e)) (ended k)
          | greater e ↦ rw (others k (ap is_eq e)) (ended k)
        ],
      )

      -- one that goes on is put back
      pub key_stays_on : (s : ℕ) (one new : List ((K × ℕ) × ℕ)) → lookup (is_at (place_cmp R (key, open_))) old ≡ Some s → one ≡ insert_entry (place_cmp R) old (key, open_) at → IsStrictlySortedBy (place_cmp R) (keys_of one)
          → new ≡ insert_entry (place_cmp R) one (key, open_) s → IsStrictlySortedBy (place_cmp R) (keys_of new) → Begun new
      key_stays_on s one new h e ordered f sorted =
          let there = one_there key never s old (rw is_never at h) in
          let more : one ≡ insert_entry (place_cmp R) old (key, never) at = rw is_never at e in
          let back : new ≡ insert_entry (place_cmp R) one (key, never) s = rw is_never at f in
          let same : runs_of R key new ≡ runs_of R key old =
          rw (back, insert_same key never s one ordered, more, insert_same key never at old kept.ordered, overwritten never at s (runs_of R key old)) (put_back 0 s (runs_of R key old) (kept.each key) there) in
          begun new sorted (λ k far. rw (back, insert_other key k never s one far, more) (insert_other key k never at old far))
          (rw same (stays_on 0 at s (runs_of R key old) moment (kept.each key) (last key) there)) (rw same (ended key))

      pub key_begins : (new : List ((K × ℕ) × ℕ)) → lookup (is_at (place_cmp R (key, open_))) old ≡ None → start_at at (runs_of R key old) ≡ None
          → new ≡ insert_entry (place_cmp R) old (key, open_) at → IsStrictlySortedBy (place_cmp R) (keys_of new) → Begun new
      key_begins new h none e sorted =
          let more : new ≡ insert_entry (place_cmp R) old (key, never) at = rw is_never at e in
          let here : runs_of R key new ≡ with_run (runs_of R key old) never at = rw more (insert_same key never at old kept.ordered) in
          begun new sorted (λ k far. rw more (insert_other key k never at old far))
          (rw here (begins 0 at (runs_of R key old) (omega arith) moment (kept.each key) (last key) (nothing_there key never old (rw is_never at h)) none)) (rw here (ended_with latest at (runs_of R key old) (ended key)))

      -- what ends at the moment, where one that begins then was put in
      pub start_then : (new : List ((K × ℕ) × ℕ)) (start : Option ℕ) → new ≡ insert_entry (place_cmp R) old (key, open_) at → lookup (is_at (place_cmp R (key, now))) new ≡ start → start_at at (runs_of R key old) ≡ start
      start_then new start e h =
          let more : new ≡ insert_entry (place_cmp R) old (key, never) at = rw is_never at e in
          let here : start_at at (runs_of R key new) ≡ start = sym (start_found key at new) ∙ (rw is_now at h) in
          sym (start_with at at (runs_of R key old) moment) ∙ (rw (more, insert_same key never at old kept.ordered) at here)

      pub key_goes_on : (s : ℕ) (one two new : List ((K × ℕ) × ℕ)) → lookup (is_at (place_cmp R (key, open_))) old ≡ None → start_at at (runs_of R key old) ≡ Some s
          → one ≡ insert_entry (place_cmp R) old (key, open_) at → IsStrictlySortedBy (place_cmp R) (keys_of one) → two ≡ insert_entry (place_cmp R) one (key, open_) s
          → new ≡ remove_entry (is_at (place_cmp R (key, now))) two → IsStrictlySortedBy (place_cmp R) (keys_of new) → Begun new
      key_goes_on s one two new h there e ordered f d sorted =
          let more : one ≡ insert_entry (place_cmp R) old (key, never) at = rw is_never at e in
          let over : two ≡ insert_entry (place_cmp R) one (key, never) s = rw is_never at f in
          let less : new ≡ remove_entry (is_at (place_cmp R (key, at))) two = rw is_now at d in
          let here : runs_of R key new ≡ without_run at (with_run (runs_of R key old) never s) =
          rw (less, remove_same key at two, over, insert_same key never s one ordered, more, insert_same key never at old kept.ordered, overwritten never at s (runs_of R key old)) refl in
          begun new sorted (λ k far. rw (less, remove_other key k at two far, over, insert_other key k never s one far, more) (insert_other key k never at old far))
          (rw here (goes_on 0 at s (runs_of R key old) moment (kept.each key) (last key) (nothing_there key never old (rw is_never at h)) there))
          (rw here (ended_without latest at (with_run (runs_of R key old) never s) (ended_with latest s (runs_of R key old) (ended key))))

    pub key_stays_off : lookup (is_at (place_cmp R (key, open_))) old ≡ None → Switched R key at false old old
    key_stays_off h =
        let none : lookup (is_at (place_cmp R (key, never))) old ≡ None = rw is_never at h in
        switched key at false old old kept last kept.ordered (λ k f. refl) (stays_off 0 at (runs_of R key old) moment (kept.each key) (last key) (nothing_there key never old none))

    pub key_vanishes : (new : List ((K × ℕ) × ℕ)) (s : ℕ) → lookup (is_at (place_cmp R (key, open_))) old ≡ Some s → at ≤ s
        → new ≡ remove_entry (is_at (place_cmp R (key, open_))) old → IsStrictlySortedBy (place_cmp R) (keys_of new) → Switched R key at false old new
    key_vanishes new s h w f sorted =
        let there = one_there key never s old (rw is_never at h) in
        let less : new ≡ remove_entry (is_at (place_cmp R (key, never))) old = rw is_never at f in
        let same : s ≡ at = omega (arith, open_start s 0 at (runs_of R key old) (last key) there) in
        switched key at false old new kept last sorted (λ k far. rw less (remove_other key k never old far))
        (rw (less, remove_same key never old) (vanishes 0 at (runs_of R key old) moment (kept.each key) (last key) (rw same at there)))

    pub key_ends : (s : ℕ) (one new : List ((K × ℕ) × ℕ)) → lookup (is_at (place_cmp R (key, open_))) old ≡ Some s → s < at
        → one ≡ insert_entry (place_cmp R) old (key, now) s → new ≡ remove_entry (is_at (place_cmp R (key, open_))) one → IsStrictlySortedBy (place_cmp R) (keys_of new) → Switched R key at false old new
    key_ends s one new h w e f sorted =
        let there : lookup (is_at (place_cmp R (key, never))) old ≡ Some s = rw is_never at h in
        let more : one ≡ insert_entry (place_cmp R) old (key, at) s = rw is_now at e in
        let less : new ≡ remove_entry (is_at (place_cmp R (key, never))) one = rw is_never at f in
        switched key at false old new kept last sorted (λ k far. rw (less, remove_other key k never one far, more) (insert_other key k at s old far))
        (rw (less, remove_same key never one, more, insert_same key at s old kept.ordered) (ends 0 at s (runs_of R key old) w moment (kept.each key) (last key) (one_there key never s old there)))
