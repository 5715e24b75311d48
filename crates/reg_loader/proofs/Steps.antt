-- What is kept of a table's records, with one record more.
use Rattle.std.proofs.Common.{◌≡◌, ◌≤◌, ◌+◌, ℕ, true, false, cond, List, [], ◌∷◌, ◌++◌, length, Option, Some, None, refl, sym, ap, subst, ◌∙◌, arith, append-nil, length-append, if◌then◌else◌, inl, inr}
use Rattle.std.specs.List.{list_any, filter_map, cons_option, AllByRecursion}
use Rattle.std.specs.Str.{bytes_eq}
use Rattle.std.proofs.lemmas.Bool.{cases_Bool}
use Rattle.std.proofs.lemmas.List.Sums.{fold_push}
use Rattle.std.proofs.lemmas.List.Elements.{filter_map-append}
use Rattle.indexmap.specs.IndexSet.{insert_key}
use Rattle.reg_terms.specs.declared.rows.JobRow.{JobRow}
use Rattle.reg_facts.specs.Lists.{Lists}
use Rattle.reg_facts.proofs.Places.{all_push, bytes_self}
use Rattle.reg_loader.specs.declared.mentions.Mention.{Mention}
use Rattle.reg_loader.specs.declared.mentions.Mention.TheVariants.{Bad, Standing, New}
use Rattle.reg_loader.specs.declared.tables.TableRow.{TableRow}
use Rattle.reg_loader.specs.Mentions.{group_text, mention, person_in}
use Rattle.reg_loader.specs.Plan.{Key, bad_groups, created, each_once, is_among, is_bad, is_new, is_unknown, key_of, keyed, named, number, same_key, unknowns, wanted}
use Rattle.reg_loader.specs.Walks.{IsWalked, Knows, with_mention}
use Rattle.reg_loader.proofs.Lists.{all_each, any_insert, any_put, count_more, count_within, mapped_same, mapped_within, once_with, once_without, place_insert, place_put}

-- a number stays where more names are made
number_stays : (names : List (List ℕ)) (m : Mention) (text x : List ℕ) (f : Lists) → (is_new m ≡ true → list_any (bytes_eq text) names ≡ true) → number names m text f ≡ number (insert_key bytes_eq names x) m text f
number_stays names Bad text x f known = refl
number_stays names (Standing g) text x f known = refl
number_stays names New text x f known = ap (λ n. Some (f.made.groups + 1 + n)) (sym (place_insert bytes_eq (bytes_eq text) names x (known refl)))

-- and is the same before and after its own name is put among them
number_put : (names : List (List ℕ)) (m : Mention) (text : List ℕ) (f : Lists) → number (with_mention m text names) m text f ≡ number names m text f
number_put names Bad text f = refl
number_put names (Standing g) text f = refl
number_put names New text f = ap (λ n. Some (f.made.groups + 1 + n)) (place_put bytes_eq names text (bytes_self text))

numberless : (names : List (List ℕ)) (m : Mention) (text : List ℕ) (f : Lists) → number names m text f ≡ None → m ≡ Bad
numberless names Bad text f h = refl
numberless names (Standing g) text f h = cc h
numberless names New text f h = cc h

numbered : (names : List (List ℕ)) (m : Mention) (text : List ℕ) (f : Lists) (g : ℕ) → number names m text f ≡ Some g → is_bad m ≡ false
numbered names Bad text f g h = cc h
numbered names (Standing x) text f g h = refl
numbered names New text f g h = refl

-- a pair is put among the others, or counted as a repeat
counts_once : (key : Key) (keys : List Key) (repeated after : ℕ) → after ≡ repeated + (if is_among key keys then 1 else 0) → after + length (insert_key same_key keys key) ≡ repeated + length keys + 1
counts_once key keys repeated after h = elim (cases_Bool (is_among key keys)) [
  | inl there ↦ rw there (let same = rw there at h in omega arith)
  | inr missing ↦ rw missing (let same = rw missing at h in omega (arith, length-append keys (key ∷ [])))
]

module _ (job : JobRow) (f : Lists) where
  key_stays : (names : List (List ℕ)) (m : Mention) (text : List ℕ) (row : TableRow) → Knows names job.target f row → key_of names job f row ≡ key_of (with_mention m text names) job f row
  key_stays names Bad text row known = refl
  key_stays names (Standing g) text row known = refl
  key_stays names New text row known = ap (λ n. keyed n (person_in job row f)) (number_stays names (mention job.target (group_text row) f) (group_text row) text f known)

  knows_more : (names : List (List ℕ)) (m : Mention) (text : List ℕ) (row : TableRow) → Knows names job.target f row → Knows (with_mention m text names) job.target f row
  knows_more names Bad text row known = known
  knows_more names (Standing g) text row known = known
  knows_more names New text row known = λ new. any_insert bytes_eq (bytes_eq (group_text row)) names text (known new)

  knows_self : (names : List (List ℕ)) (row : TableRow) (m : Mention) → mention job.target (group_text row) f ≡ m → Knows (with_mention m (group_text row) names) job.target f row
  knows_self names row Bad e = λ new. let clash = rw e at new in cc clash
  knows_self names row (Standing g) e = λ new. let clash = rw e at new in cc clash
  knows_self names row New e = λ new. any_put bytes_eq names (group_text row) (bytes_self (group_text row))

  module _ (rows : List TableRow) (row : TableRow) where
    created_more : (m : Mention) → mention job.target (group_text row) f ≡ m → created job.target (rows ++ row ∷ []) f ≡ with_mention m (group_text row) (created job.target rows f)
    created_more Bad e = once_without (λ (r : TableRow). is_new (mention job.target (group_text r) f)) rows row group_text bytes_eq (ap is_new e)
    created_more (Standing g) e = once_without (λ (r : TableRow). is_new (mention job.target (group_text r) f)) rows row group_text bytes_eq (ap is_new e)
    created_more New e = once_with (λ (r : TableRow). is_new (mention job.target (group_text r) f)) rows row group_text bytes_eq (ap is_new e)

    module _ (known : AllByRecursion (Knows (created job.target rows f) job.target f) rows) (m : Mention) (e : mention job.target (group_text row) f ≡ m) where
      known_more : AllByRecursion (Knows (created job.target (rows ++ row ∷ []) f) job.target f) (rows ++ row ∷ [])
      known_more =
          let names = created job.target rows f in
          let after = with_mention m (group_text row) names in
          subst (λ (ns : List (List ℕ)). AllByRecursion (Knows ns job.target f) (rows ++ row ∷ [])) (sym (created_more m e))
          (all_push (Knows after job.target f) rows row (all_each (Knows names job.target f) (Knows after job.target f) rows (knows_more names m (group_text row)) known) (knows_self names row m e))

      named_more : named job (rows ++ row ∷ []) f ≡ named job rows f ++ cons_option (keyed (number (created job.target rows f) m (group_text row) f) (person_in job row f)) []
      named_more =
          let names = created job.target rows f in
          let after = with_mention m (group_text row) names in
          let same = all_each (Knows names job.target f) (λ (r : TableRow). key_of after job f r ≡ key_of names job f r) rows (λ r k. sym (key_stays names m (group_text row) r k)) known in
          ap (λ (ns : List (List ℕ)). filter_map (key_of ns job f) (rows ++ row ∷ [])) (created_more m e)
          ∙ filter_map-append (key_of after job f) rows (row ∷ [])
          ∙ ap (λ (ks : List Key). ks ++ cons_option (key_of after job f row) []) (mapped_same (key_of after job f) (key_of names job f) rows same)
          ∙ ap (λ (n : Option ℕ). named job rows f ++ cons_option (keyed n (person_in job row f)) []) (ap (λ (x : Mention). number after x (group_text row) f) e ∙ number_put names m (group_text row) f)

    bad_more : bad_groups job.target (rows ++ row ∷ []) f ≡ bad_groups job.target rows f + cond (is_bad (mention job.target (group_text row) f)) 1 0
    bad_more = count_more (λ (r : TableRow). is_bad (mention job.target (group_text r) f)) rows row

    unknown_more : unknowns job (rows ++ row ∷ []) f ≡ unknowns job rows f + cond (is_unknown job f row) 1 0
    unknown_more = count_more (is_unknown job f) rows row

    module _ (names after : List (List ℕ)) (keys : List Key) (bad unknown repeated : ℕ) (w : IsWalked job f rows names keys bad unknown repeated) (m : Mention) (e : m ≡ mention job.target (group_text row) f) (put : after ≡ with_mention m (group_text row) names) where
      after_is : after ≡ created job.target (rows ++ row ∷ []) f
      after_is = put ∙ ap (with_mention m (group_text row)) w.names_are ∙ sym (created_more m (sym e))

      more_named : (key : Option Key) → keyed (number names m (group_text row) f) (person_in job row f) ≡ key → named job (rows ++ row ∷ []) f ≡ named job rows f ++ cons_option key []
      more_named key is =
          named_more w.known m (sym e)
          ∙ ap (λ (ns : List (List ℕ)). named job rows f ++ cons_option (keyed (number ns m (group_text row) f) (person_in job row f)) []) (sym w.names_are)
          ∙ ap (λ (k : Option Key). named job rows f ++ cons_option k []) is

      -- a record that doesn't name both
      step_none : (bads unknowns_then : ℕ) → keyed (number names m (group_text row) f) (person_in job row f) ≡ None → bads ≡ bad + cond (is_bad m) 1 0 → unknowns_then ≡ unknown + cond (is_unknown job f row) 1 0
          → IsWalked job f (rows ++ row ∷ []) after keys bads unknowns_then repeated
      step_none bads unknowns_then is b u =
          let list = more_named None is ∙ append-nil (named job rows f) in
          let once = ap (each_once same_key) list in
          record {
            names_are = after_is;
            keys_are = w.keys_are ∙ sym once;
            bad_are = b ∙ ap (λ n. n + cond (is_bad m) 1 0) w.bad_are ∙ ap (λ (x : Mention). bad_groups job.target rows f + cond (is_bad x) 1 0) e ∙ sym bad_more;
            unknown_are = u ∙ ap (λ n. n + cond (is_unknown job f row) 1 0) w.unknown_are ∙ sym unknown_more;
            repeated_are = ap (λ (ks : List Key). repeated + length ks) once ∙ w.repeated_are ∙ ap length (sym list);
            known = known_more w.known m (sym e);
          }

      -- a record that names both
      step_some : (keys_then : List Key) (bads unknowns_then repeats_then : ℕ) (key : Key) → keyed (number names m (group_text row) f) (person_in job row f) ≡ Some key → bads ≡ bad + cond (is_bad m) 1 0 → unknowns_then ≡ unknown + cond (is_unknown job f row) 1 0
          → keys_then ≡ insert_key same_key keys key → repeats_then ≡ repeated + (if is_among key keys then 1 else 0) → IsWalked job f (rows ++ row ∷ []) after keys_then bads unknowns_then repeats_then
      step_some keys_then bads unknowns_then repeats_then key is b u k r =
          let list = more_named (Some key) is in
          let once : wanted job (rows ++ row ∷ []) f ≡ insert_key same_key (wanted job rows f) key = ap (each_once same_key) list ∙ fold_push (insert_key same_key) [] (named job rows f) key in
          let put_in = ap (λ (ks : List Key). insert_key same_key ks key) w.keys_are in
          let sum : repeats_then + length (insert_key same_key keys key) ≡ repeated + length keys + 1 = counts_once key keys repeated repeats_then r in
          record {
            names_are = after_is;
            keys_are = k ∙ put_in ∙ sym once;
            bad_are = b ∙ ap (λ n. n + cond (is_bad m) 1 0) w.bad_are ∙ ap (λ (x : Mention). bad_groups job.target rows f + cond (is_bad x) 1 0) e ∙ sym bad_more;
            unknown_are = u ∙ ap (λ n. n + cond (is_unknown job f row) 1 0) w.unknown_are ∙ sym unknown_more;
            repeated_are = omega (arith, sum, w.repeated_are, ap length w.keys_are, ap length put_in, ap length once, ap length list, length-append (named job rows f) (key ∷ []));
            known = known_more w.known m (sym e);
          }

      -- a record that names no group of the job
      pub step_bad : number names m (group_text row) f ≡ None → IsWalked job f (rows ++ row ∷ []) after keys (bad + 1) unknown repeated
      step_bad none =
          let is = numberless names m (group_text row) f none in
          step_none (bad + 1) unknown (rw none refl) (rw is refl) (rw (sym e ∙ is) (omega arith))

      -- one that names no person that stands
      pub step_unknown : (g : ℕ) → number names m (group_text row) f ≡ Some g → person_in job row f ≡ None → IsWalked job f (rows ++ row ∷ []) after keys bad (unknown + 1) repeated
      step_unknown g some none =
          let good = numbered names m (group_text row) f g some in
          let there : is_bad (mention job.target (group_text row) f) ≡ false = ap is_bad (sym e) ∙ good in
          step_none bad (unknown + 1) (rw (some, none) refl) (rw good (omega arith)) (rw (there, none) refl)

      -- one that names both
      pub step_key : (keys_then : List Key) (repeats_then g s : ℕ) → number names m (group_text row) f ≡ Some g → person_in job row f ≡ Some s
          → keys_then ≡ insert_key same_key keys (g, s) → repeats_then ≡ repeated + (if is_among (g, s) keys then 1 else 0) → IsWalked job f (rows ++ row ∷ []) after keys_then bad unknown repeats_then
      step_key keys_then repeats_then g s some person k r =
          let good = numbered names m (group_text row) f g some in
          let there : is_bad (mention job.target (group_text row) f) ≡ false = ap is_bad (sym e) ∙ good in
          step_some keys_then bad unknown repeats_then (g, s) (rw (some, person) refl) (rw good (omega arith)) (rw (there, person) (omega arith)) k r

  -- no record yet
  pub step_first : (keys : List Key) (names : List (List ℕ)) → names ≡ [] → keys ≡ [] → IsWalked job f [] names keys 0 0 0
  step_first keys names n k = record { names_are = n; keys_are = k; bad_are = refl; unknown_are = refl; repeated_are = refl; known = tt }

  -- no count is above how many records there are
  pub counted : (rows : List TableRow) (names : List (List ℕ)) (keys : List Key) (bad unknown repeated : ℕ) → IsWalked job f rows names keys bad unknown repeated → (bad ≤ length rows) × (unknown ≤ length rows) × (repeated ≤ length rows)
  counted rows names keys bad unknown repeated w =
      let b = count_within (λ (r : TableRow). is_bad (mention job.target (group_text r) f)) rows in
      let u = count_within (is_unknown job f) rows in
      let r = mapped_within (key_of (created job.target rows f) job f) rows in
      (omega (arith, w.bad_are), omega (arith, w.unknown_are), omega (arith, w.repeated_are))
