-- The lines of commands, gathered and written piece by piece.
use Rattle.std.proofs.Common.{◌≡◌, ◌≤◌, ◌<◌, ◌+◌, ◌++◌, ◌∷◌, [], List, ℕ, Bool, Option, Some, None, true, false, refl, ap, sym, subst, ◌∙◌, arith, ◌⊎◌, inl, inr, length, take, append-nil, append_assoc, length-append}
use Rattle.std.specs.Prelude.{IfSome, ◌&&◌, nat_le}
use Rattle.std.specs.Io.KnownBytes.{append_known}
use Rattle.std.proofs.lemmas.Bool.{leb-true}
use Rattle.std.proofs.lemmas.List.{take_at, take-append-le}
use Rattle.std.proofs.Math.Seq.{take-append-add}
use Rattle.reg_outside.specs.Faults.{Rose}
use Rattle.reg_outside.specs.Streams.{WritesFront}
use Rattle.reg_terms.specs.declared.command.Stamped.{Stamped}
use Rattle.reg_wire.specs.Payload.{stamped_of}
use Rattle.reg_export.specs.Listing.{Progress, Row, beginning, counted, is_asked, line_at, listed, listing, made_by, nothing_made, with_command}
use Rattle.reg_words.specs.declared.task.Places.{Places}
use Rattle.reg_run.specs.Listing.{AreRead, HandsOn, Lists, at_places, counted_lines}
use Rattle.reg_run.specs.Once.{Put}
use Rattle.reg_run.specs.World.{Out}
use Rattle.reg_run.specs.declared.status.End.{End}
use Rattle.reg_run.specs.declared.status.End.TheVariants as the_end

abbrev pub Records : Type 0
Records = List (ℕ × List ℕ)

-- ---- known bytes

append_none : (o : Option (List ℕ)) → o ≡ append_known o []
append_none None = refl
append_none (Some bytes) = ap Some (sym (append-nil bytes))

append_more : (o : Option (List ℕ)) (a b : List ℕ) → append_known (append_known o a) b ≡ append_known o (a ++ b)
append_more None a b = refl
append_more (Some bytes) a b = ap Some (append_assoc bytes a b)

more_written : (done bytes : List ℕ) (old mid new : Option (List ℕ)) → mid ≡ append_known old done → new ≡ append_known mid bytes → new ≡ append_known old (done ++ bytes)
more_written done bytes old mid new first second = second ∙ (ap (λ (o : Option (List ℕ)). append_known o bytes) first ∙ append_more old done bytes)

-- nothing is a front of all
pub no_front : (w : Option (List ℕ)) (bytes : List ℕ) → WritesFront w w bytes
no_front w bytes = (0, omega arith, append_none w)

-- what was written is one
front_written : (done rest bytes : List ℕ) (old new : Option (List ℕ)) → new ≡ append_known old done → done ++ rest ≡ bytes → WritesFront old new bytes
front_written done rest bytes old new wrote whole =
    let count : length done + length rest ≡ length bytes = sym (length-append done rest) ∙ ap (λ (l : List ℕ). length l) whole in
    let front : take (length done) bytes ≡ done = ap (λ (l : List ℕ). take (length done) l) (sym whole) ∙ take_at done rest (length done) refl in
    (length done, omega (arith, count), wrote ∙ ap (append_known old) (sym front))

-- and so is a front of what follows it
front_behind : (done lines rest bytes : List ℕ) (old mid new : Option (List ℕ)) → mid ≡ append_known old done → WritesFront mid new lines → done ++ (lines ++ rest) ≡ bytes → WritesFront old new bytes
front_behind done lines rest bytes old mid new wrote (n, few, more) whole =
    let all : length done + length (lines ++ rest) ≡ length bytes = sym (length-append done (lines ++ rest)) ∙ ap (λ (l : List ℕ). length l) whole in
    let count = length-append lines rest in
    let front : take (length done + n) bytes ≡ done ++ take n lines =
    ap (λ (l : List ℕ). take (length done + n) l) (sym whole) ∙ (take-append-add done (lines ++ rest) n ∙ ap (λ (l : List ℕ). done ++ l) (take-append-le n lines rest few)) in
    (length done + n, omega (arith, all, count, few), more_written done (take n lines) old mid new wrote more ∙ ap (append_known old) (sym front))

-- ---- a listing

-- the lines of the commands of some records, behind those of this many, which made so much
abbrev pub left : Progress → Records → List Stamped → List ℕ
left p records rest = listed p.from p.to (p.number + 1) (counted p.counts (at_places records rest))

-- the lines of the commands of all records
abbrev pub all_lines : Places → Records → List Stamped → List ℕ
all_lines places all history = listing places.from places.to (counted nothing_made (at_places all history))

-- It went over the commands before those of these records. Their lines, which are a front of those
-- that are due, were written, but for those that it holds.
pub record SoFar (places : Places) (due : List ℕ) (old now : Option (List ℕ)) (p : Progress) (records : Records) : Type 0 where
  pub rest : List Stamped
  pub read : AreRead records rest
  pub done : List ℕ
  pub written : now ≡ append_known old done
  pub first : p.from ≡ places.from
  pub last : p.to ≡ places.to
  pub whole : done ++ (p.lines ++ left p records rest) ≡ due

-- at first nothing
pub nothing_yet : (places : Places) (history : List Stamped) (w : Option (List ℕ)) (p : Progress) (records : Records) → p ≡ beginning places.from places.to → AreRead records history → SoFar places (all_lines places records history) w w p records
nothing_yet places history w p records begins read =
    subst (λ (x : Progress). SoFar places (all_lines places records history) w w x records) (sym begins) (record { rest = history; read = read; done = []; written = append_none w; first = refl; last = refl; whole = refl })

-- the records that are left
pub left_over : (places : Places) (due : List ℕ) (old now : Option (List ℕ)) (p : Progress) (records others : Records) → records ≡ others → SoFar places due old now p records → SoFar places due old now p others
left_over places due old now p records others same so = subst (λ (rs : Records). SoFar places due old now p rs) same so

-- one command more
pub one_further : (places : Places) (due : List ℕ) (old now : Option (List ℕ)) (p q : Progress) (r : ℕ × List ℕ) (records : Records) → SoFar places due old now p (r ∷ records)
    → ((s : Stamped) → stamped_of r.1 ≡ Some s → q ≡ with_command p r.0 s) → SoFar places due old now q records
one_further places due old now p q r records so step = by_rest so.rest so.read so.whole
  where
    by_rest : (rest : List Stamped) → AreRead (r ∷ records) rest → so.done ++ (p.lines ++ left p (r ∷ records) rest) ≡ due → SoFar places due old now q records
    by_rest [] read whole = elim read [ ]
    by_rest (s ∷ rest) read whole =
        let row : Row = record { place = r.0; made = made_by p.counts s.command; stamped = s } in
        let lines = append_assoc p.lines (line_at p.from p.to (p.number + 1) row) (left (with_command p r.0 s) records rest) in
        subst (λ (x : Progress). SoFar places due old now x records) (sym (step s read.0)) (record {
          rest = rest;
          read = read.1;
          done = so.done;
          written = so.written;
          first = so.first;
          last = so.last;
          whole = ap (λ (l : List ℕ). so.done ++ l) lines ∙ whole;
        })

-- the lines were handed on, or not
pub handed : (places : Places) (due : List ℕ) (old mid new : Option (List ℕ)) (p q : Progress) (records : Records) → SoFar places due old mid p records → HandsOn mid p new q → SoFar places due old new q records
handed places due old mid new p q records so (inl e) =
    subst (λ (x : Option (List ℕ)). SoFar places due old x q records) (sym e.0) (subst (λ (x : Progress). SoFar places due old mid x records) (sym e.1) so)
handed places due old mid new p q records so (inr e) = subst (λ (x : Progress). SoFar places due old new x records) (sym e.1) (record {
  rest = so.rest;
  read = so.read;
  done = so.done ++ p.lines;
  written = more_written so.done p.lines old mid new so.written e.0;
  first = so.first;
  last = so.last;
  whole = append_assoc so.done p.lines (left p records so.rest) ∙ so.whole;
})

not_asked : (from to number : ℕ) → to < number → is_asked from to number ≡ false
not_asked from to number behind = either (nat_le from number) (nat_le number to) refl
  where
    either : (a b : Bool) → nat_le number to ≡ b → (a && b) ≡ false
    either true true is = absurd (omega (arith, leb-true number to is, behind))
    either true false is = refl
    either false b is = refl

-- behind the last number there is no line
past_last : (from to number : ℕ) (rows : List Row) → to < number → listed from to number rows ≡ []
past_last from to number [] behind = refl
past_last from to number (row ∷ rows) behind = rw (not_asked from to number behind) (past_last from to (number + 1) rows (omega (arith, behind)))

all_gone : (p : Progress) (records : Records) (rest : List Stamped) → (records ≡ []) ⊎ (p.to ≤ p.number) → left p records rest ≡ []
all_gone p records rest (inl none) = subst (λ (x : Records). left p x rest ≡ []) (sym none) refl
all_gone p records rest (inr over) = past_last p.from p.to (p.number + 1) (counted p.counts (at_places records rest)) (omega (arith, over))

-- ---- how printing ends

-- what is true of the lines, where they are known
due_of : (P : List ℕ → Type 0) {A : Type 0} (places : Places) (held : Option (List ℕ)) (all : Records) (history : List Stamped) → IfSome held (λ file. A) → (A → P (all_lines places all history)) → IfSome (counted_lines places held all history) P
due_of P places None all history a each = tt
due_of P places (Some file) all history a each = each a

-- a front of the lines, where a listing stands so
so_far_front : (places : Places) (due : List ℕ) (old now : Option (List ℕ)) (p : Progress) (records : Records) → SoFar places due old now p records → WritesFront old now due
so_far_front places due old now p records so = front_written so.done (p.lines ++ left p records so.rest) due old now so.written so.whole

so_far_behind : (places : Places) (due : List ℕ) (old mid new : Option (List ℕ)) (p : Progress) (records : Records) → SoFar places due old mid p records → WritesFront mid new p.lines → WritesFront old new due
so_far_behind places due old mid new p records so front = front_behind so.done p.lines (left p records so.rest) due old mid new so.written front so.whole

-- a record is read as a command
not_none : (places : Places) (due : List ℕ) (old now : Option (List ℕ)) (p : Progress) (r : ℕ × List ℕ) (records : Records) → SoFar places due old now p (r ∷ records) → stamped_of r.1 ≡ None → ⊥
not_none places due old now p r records so none = by_rest so.rest so.read
  where
    by_rest : (rest : List Stamped) → AreRead (r ∷ records) rest → ⊥
    by_rest [] read = read
    by_rest (s ∷ rest) read = let both : None ≡ Some s = sym none ∙ read.0 in absurd (cc)

-- there was no memory for a line, or a record was no command
pub stopped_at : (places : Places) (held : Option (List ℕ)) (history : List Stamped) (all : Records) (old new : Out) (p : Progress) (at : ℕ) (r : ℕ × List ℕ) (records : Records) (e : End) → IfSome held (λ file. AreRead all history)
    → (AreRead all history → SoFar places (all_lines places all history) old.written new.written p (r ∷ records)) → new.flushed ≡ old.flushed → (e ≡ the_end.Memory) ⊎ ((e ≡ the_end.Damaged at) × (stamped_of r.1 ≡ None))
    → Lists (counted_lines places held all history) e old new
stopped_at places held history all old new p at r records e read so flushed (inl memory) =
    subst (λ (x : End). Lists (counted_lines places held all history) x old new) (sym memory)
    (due_of (WritesFront old.written new.written) places held all history read (λ are. so_far_front places (all_lines places all history) old.written new.written p (r ∷ records) (so are)), flushed)
stopped_at places held history all old new p at r records e read so flushed (inr damaged) =
    subst (λ (x : End). Lists (counted_lines places held all history) x old new) (sym damaged.0)
    (due_of (λ bytes. ⊥) places held all history read (λ are. not_none places (all_lines places all history) old.written new.written p r records (so are) damaged.1), flushed)

-- the output failed
pub broke_at : (places : Places) (held : Option (List ℕ)) (history : List Stamped) (all : Records) (old new : Out) (mid : Option (List ℕ)) (p : Progress) (records : Records) (e : End) → IfSome held (λ file. AreRead all history)
    → (AreRead all history → SoFar places (all_lines places all history) old.written mid p records) → WritesFront mid new.written p.lines → new.flushed ≡ old.flushed → e ≡ the_end.Output → Rose old.writes new.writes
    → Lists (counted_lines places held all history) e old new
broke_at places held history all old new mid p records e read so front flushed is rose =
    subst (λ (x : End). Lists (counted_lines places held all history) x old new) (sym is)
    (rose, due_of (WritesFront old.written new.written) places held all history read (λ are. so_far_behind places (all_lines places all history) old.written mid new.written p records (so are) front), flushed)

-- the last lines were printed, or the output failed
pub last_printed : (places : Places) (held : Option (List ℕ)) (history : List Stamped) (all : Records) (old mid new : Out) (p : Progress) (records : Records) (e : End) → IfSome held (λ file. AreRead all history)
    → (AreRead all history → SoFar places (all_lines places all history) old.written mid.written p records) → (records ≡ []) ⊎ (p.to ≤ p.number) → mid.flushed ≡ old.flushed → old.writes ≤ mid.writes → Put the_end.Done p.lines e mid new
    → Lists (counted_lines places held all history) e old new
last_printed places held history all old mid new p records e read so gone flushed later (inl put) =
    subst (λ (x : End). Lists (counted_lines places held all history) x old new) (sym put.0) (due_of (λ bytes. new.written ≡ append_known old.written bytes) places held all history read (λ are. written (so are)), put.2)
  where
    written : SoFar places (all_lines places all history) old.written mid.written p records → new.written ≡ append_known old.written (all_lines places all history)
    written s =
        let none = all_gone p records s.rest gone in
        let lines : s.done ++ p.lines ≡ all_lines places all history = ap (λ (l : List ℕ). s.done ++ l) (sym (append-nil p.lines) ∙ ap (λ (l : List ℕ). p.lines ++ l) (sym none)) ∙ s.whole in
        more_written s.done p.lines old.written mid.written new.written s.written put.1 ∙ ap (append_known old.written) lines
last_printed places held history all old mid new p records e read so gone flushed later (inr put) =
    broke_at places held history all old new mid.written p records e read so put.2 (put.3 ∙ flushed) put.0 (omega (arith, later, put.1))
