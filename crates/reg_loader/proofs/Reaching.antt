-- The records that were read one by one are those that a text has.
use Rattle.std.proofs.Common.{◌≡◌, ◌≤◌, ◌<◌, ◌+◌, ◌-◌, ℕ, zero, suc, Bool, true, false, List, [], ◌∷◌, ◌++◌, length, Option, Some, None, refl, sym, ap, ◌∙◌, ◌⊎◌, inl, inr, arith, append-nil, if◌then◌else◌}
use Rattle.csv.specs.Machine.{Read, ends_at_end, fields_after, is_end, next_record, step}
use Rattle.csv.specs.Reading.{Reached, default_config, records, records_from, strip_bom, is_bom}
use Rattle.csv.specs.declared.parser.Config.{Config}
use Rattle.csv.specs.declared.parser.State.{State}
use Rattle.csv.specs.declared.parser.State.TheVariants as st

-- a read takes bytes, or stands at the end after it
abbrev Shrinks : List ℕ → Read → Type 0
Shrinks bytes read = (length read.2 < length bytes) ⊎ ((read.1 ≡ st.StartRecord) × (read.2 ≡ []))

either : {A : Type 0} (b : Bool) (x y : A) (other : Option A) → (if b then Some x else other) ≡ Some y → (x ≡ y) ⊎ (other ≡ Some y)
either true x y other e = inl (cc e)
either false x y other e = inr e

ended : (b : Bool) (fields : List (List ℕ)) (read : Read) → (if b then Some (fields, st.StartRecord, []) else None) ≡ Some read → (read.1 ≡ st.StartRecord) × (read.2 ≡ [])
ended true fields read e = let same : (fields, st.StartRecord, []) ≡ read = cc e in (ap (λ (r : Read). r.1) (sym same), ap (λ (r : Read). r.2) (sym same))
ended false fields read e = cc e

shrinks_more : (byte : ℕ) (rest : List ℕ) (read : Read) → Shrinks rest read → Shrinks (byte ∷ rest) read
shrinks_more byte rest read (inl fewer) = inl (omega arith)
shrinks_more byte rest read (inr done) = inr done

shrinks : (cfg : Config) (s : State) (fields : List (List ℕ)) (field bytes : List ℕ) (read : Read) → next_record cfg s fields field bytes ≡ Some read → Shrinks bytes read
unfolding next_record
shrinks cfg s fields field [] read e = inr (ended (ends_at_end s) (fields ++ (field ∷ [])) read e)
shrinks cfg s fields field (byte ∷ rest) read e =
    elim (either (is_end (step cfg s byte).1) (fields_after (step cfg s byte).1 fields field, (step cfg s byte).0, rest) read _ e) [
      | inl same ↦ let left : rest ≡ read.2 = ap (λ (r : Read). r.2) same in inl (rw (← left) (omega arith))
      | inr more ↦ shrinks_more byte rest read (shrinks cfg (step cfg s byte).0 _ _ rest read more)
    ]

nothing_left : (cfg : Config) (s : State) (bytes : List ℕ) (read : Read) → s ≡ st.StartRecord → bytes ≡ [] → next_record cfg s [] [] bytes ≡ Some read → ⊥
unfolding next_record
nothing_left cfg s bytes read at none e = let bad : ◌≡◌ {A = Option Read} None (Some read) = rw (at, none) at e in cc

-- there are no more records than bytes, and one
pub reached_within : (cfg : Config) (s s2 : State) (bytes rest : List ℕ) (rows : List (List (List ℕ))) → Reached cfg s bytes rows s2 rest → length rows ≤ length bytes + 1
unfolding Reached
reached_within cfg s s2 bytes rest [] h = omega arith
reached_within cfg s s2 bytes rest (r ∷ []) h = omega arith
reached_within cfg s s2 bytes rest (r ∷ q ∷ rows) (read, next, same, more) =
    elim (shrinks cfg s [] [] bytes read next) [
      | inl fewer ↦ let within = reached_within cfg read.1 s2 read.2 rest (q ∷ rows) more in omega arith
      | inr done ↦ absurd (nothing_left cfg read.1 read.2 more.0 done.0 done.1 more.1)
    ]

records_go : (cfg : Config) (n m : ℕ) (s s2 : State) (bytes rest : List ℕ) (rows : List (List (List ℕ))) → n ≡ length rows + m → Reached cfg s bytes rows s2 rest
    → records_from cfg n s bytes ≡ rows ++ records_from cfg m s2 rest
unfolding Reached records_from
records_go cfg n m s s2 bytes rest [] count (at, left) = let same : n ≡ m = omega arith in rw (same, at, left) refl
records_go cfg zero m s s2 bytes rest (r ∷ rows) count h = absurd (omega arith)
records_go cfg (suc n) m s s2 bytes rest (r ∷ rows) count (read, next, same, more) =
    rw (next, same) (ap (λ (t : List (List (List ℕ))). read.0 ∷ t) (records_go cfg n m read.1 s2 read.2 rest rows (omega arith) more))

-- a text has the records that were read, and then others
pub records_begin : (bytes rest : List ℕ) (s2 : State) (rows : List (List (List ℕ))) → Reached default_config st.StartRecord bytes rows s2 rest
    → (more : List (List (List ℕ))) × (records default_config bytes ≡ rows ++ more)
records_begin bytes rest s2 rows h =
    let within = reached_within default_config st.StartRecord s2 bytes rest rows h in
    let m : ℕ = (length bytes + 1) - length rows in
    (records_from default_config m s2 rest, records_go default_config (length bytes + 1) m st.StartRecord s2 bytes rest rows (omega arith) h)

none_from : (cfg : Config) (m : ℕ) (s : State) (rest : List ℕ) → next_record cfg s [] [] rest ≡ None → records_from cfg m s rest ≡ []
unfolding records_from
none_from cfg zero s rest e = refl
none_from cfg (suc m) s rest e = rw e refl

-- where no record is left, those that were read are all
pub records_end : (bytes rest : List ℕ) (s2 : State) (rows : List (List (List ℕ))) → Reached default_config st.StartRecord bytes rows s2 rest
    → next_record default_config s2 [] [] rest ≡ None → records default_config bytes ≡ rows
records_end bytes rest s2 rows h e =
    let within = reached_within default_config st.StartRecord s2 bytes rest rows h in
    let m : ℕ = (length bytes + 1) - length rows in
    records_go default_config (length bytes + 1) m st.StartRecord s2 bytes rest rows (omega arith) h
    ∙ ap (λ (t : List (List (List ℕ))). rows ++ t) (none_from default_config m s2 rest e) ∙ append-nil rows

-- a byte order mark makes no text longer
pub strip_within : (bytes : List ℕ) → length (strip_bom bytes) ≤ length bytes
unfolding strip_bom
strip_within [] = omega arith
strip_within (a ∷ []) = omega arith
strip_within (a ∷ b ∷ []) = omega arith
strip_within (a ∷ b ∷ c ∷ rest) = by (is_bom a b c)
  where
    by : (mark : Bool) → length (if mark then rest else a ∷ b ∷ c ∷ rest) ≤ length (a ∷ b ∷ c ∷ rest)
    by true = omega arith
    by false = omega arith
