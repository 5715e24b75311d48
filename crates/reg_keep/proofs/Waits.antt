-- Pieces that wait one behind the other for a place of a disk.
use Rattle.std.proofs.Common.{◌≡◌, ℕ, ◌+◌, ◌≤◌, List, [], ◌++◌, length, take, drop, Option, Some, None, option_map, IfSome, refl, sym, ◌∙◌, ap, subst, arith, length-append}
use Rattle.std.proofs.lemmas.List.{append-nil, take-append-drop}
use Rattle.reg_outside.specs.Disk.{Changes, put}
use Rattle.reg_keep.specs.Settled.{SameFront}
use Rattle.reg_keep.specs.Waiting.{Waiting, IsWithin, Adds, end_of, with_waiting}
use Rattle.reg_keep.proofs.Writes.{told_both, told_reaches, front_less, front_then}

put_nothing : (at : ℕ) (held : List ℕ) → put at [] held ≡ held
put_nothing at held =
    let same : at + 0 ≡ at = omega arith in
    ap (λ (l : List ℕ). l ++ drop (at + 0) held) (append-nil (take at held))
    ∙ ap (λ (n : ℕ). take at held ++ drop n held) same ∙ take-append-drop at held

-- where nothing waits the bytes are as they are
pub none_wait : (at : ℕ) (held : Option (List ℕ)) → with_waiting (at, []) held ≡ held
none_wait at None = refl
none_wait at (Some held) = ap Some (put_nothing at held)

-- a piece joins those that wait
pub adds_joined : (piece : List ℕ) (waiting new : Waiting) (held : Option (List ℕ)) → IsWithin waiting held → new ≡ (waiting.0, waiting.1 ++ piece)
    → Adds piece waiting held new held
adds_joined piece waiting new held fits is = rw is (joined)
  where
    joined : Adds piece waiting held (waiting.0, waiting.1 ++ piece) held
    joined = record {
      within = fits;
      later = omega arith;
      long = omega (arith, length-append waiting.1 piece);
      whole = sym (told_both waiting.0 (end_of waiting) waiting.1 piece held (with_waiting waiting held) (option_map (put (end_of waiting) piece) (with_waiting waiting held)) fits refl refl refl);
    }

-- Those that wait are written: none waits, and what is added then stands behind them.
pub record WrittenOut (waiting : Waiting) (held : Option (List ℕ)) (none : Waiting) (now : Option (List ℕ)) : Type 0 where
  pub within : IsWithin waiting held
  pub is : none ≡ (end_of waiting, [])
  pub written : now ≡ with_waiting waiting held

-- by the moments of a call
pub written_out : (waiting same behind none : Waiting) (held now : Option (List ℕ)) → IsWithin waiting held → same ≡ waiting → behind ≡ (end_of same, []) → now ≡ with_waiting same held → none ≡ behind → WrittenOut waiting held none now
written_out waiting same behind none held now fits stays is written left = record {
  within = fits;
  is = left ∙ is ∙ ap (λ (w : Waiting). (end_of w, [])) stays;
  written = written ∙ ap (λ (w : Waiting). with_waiting w held) stays;
}

pub within_behind : (waiting none : Waiting) (held now : Option (List ℕ)) → WrittenOut waiting held none now → IsWithin none now
within_behind waiting none held now w =
    subst (λ (n : Waiting). IsWithin n now) (sym w.is) (told_reaches waiting.0 waiting.1 held now w.within w.written (end_of waiting) refl)

pub later_behind : (waiting none : Waiting) (held now : Option (List ℕ)) → WrittenOut waiting held none now → waiting.0 ≤ none.0
later_behind waiting none held now w = subst (λ (n : Waiting). waiting.0 ≤ n.0) (sym w.is) (omega arith)

-- a piece waits alone
pub adds_behind : (piece : List ℕ) (waiting none new : Waiting) (held now : Option (List ℕ)) → WrittenOut waiting held none now → new ≡ (none.0, none.1 ++ piece)
    → Adds piece waiting held new now
adds_behind piece waiting none new held now w is = rw (is, w.is) behind
  where
    behind : Adds piece waiting held (end_of waiting, piece) now
    behind = record {
      within = told_reaches waiting.0 waiting.1 held now w.within w.written (end_of waiting) refl;
      later = omega arith;
      long = omega arith;
      whole = ap (option_map (put (end_of waiting) piece)) w.written;
    }

-- a piece is written by itself
pub adds_alone : (piece : List ℕ) (waiting none new : Waiting) (held mid now : Option (List ℕ)) → WrittenOut waiting held none mid → new ≡ (none.0 + length piece, []) → now ≡ option_map (put none.0 piece) mid
    → Adds piece waiting held new now
adds_alone piece waiting none new held mid now w is then = rw (is, w.is) alone
  where
    put_there : now ≡ option_map (put (end_of waiting) piece) mid
    put_there = then ∙ ap (λ (n : Waiting). option_map (put n.0 piece) mid) w.is

    reaches : IfSome mid (λ h. end_of waiting ≤ length h)
    reaches = told_reaches waiting.0 waiting.1 held mid w.within w.written (end_of waiting) refl

    alone : Adds piece waiting held (end_of waiting + length piece, []) now
    alone = record {
      within = told_reaches (end_of waiting) piece mid now reaches put_there (end_of waiting + length piece) refl;
      later = omega arith;
      long = omega arith;
      whole = none_wait (end_of waiting + length piece) now ∙ put_there ∙ ap (option_map (put (end_of waiting) piece)) w.written;
    }

-- one piece, and then another
pub adds_both : (one two : List ℕ) (a b c : Waiting) (old mid new : Option (List ℕ)) → IsWithin a old → Adds one a old b mid → Adds two b mid c new → Adds (one ++ two) a old c new
adds_both one two a b c old mid new fits first second = record {
  within = second.within;
  later = omega (arith, first.later, second.later);
  long = omega (arith, first.long, second.long, length-append one two);
  whole = told_both (end_of a) (end_of b) one two (with_waiting a old) (with_waiting b mid) (with_waiting c new) (told_reaches a.0 a.1 old (with_waiting a old) fits refl (end_of a) refl) first.long first.whole second.whole;
}

module _ {D : Type 0} (moment : D → ℕ) (may_leave : D → List ℕ → Type 0) (left_since : D → ℕ → List ℕ → Type 0) where
  -- writes at a place, and then at that of those that wait
  pub front_on : (k : ℕ) (waiting : Waiting) (old mid new : D) → k ≤ waiting.0 → Changes moment may_leave left_since (SameFront k) old mid → Changes moment may_leave left_since (SameFront waiting.0) mid new
      → Changes moment may_leave left_since (SameFront k) old new
  front_on k waiting old mid new le one two =
      front_then moment may_leave left_since k old mid new one (front_less moment may_leave left_since k waiting.0 mid new le two)
