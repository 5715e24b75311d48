-- What may be filled, and what a crash leaves while it is.
use Rattle.std.proofs.Common.{◌≡◌, ◌≢◌, ◌⊎◌, inl, inr, ⊎_elim, ℕ, ◌+◌, ◌^◌, ◌<◌, ◌≤◌, max, List, [], ◌∷◌, ◌++◌, length, get_or, take, drop, Bool, true, false, not, ◌&&◌, ◌||◌, nat_lt, Result, Ok, Err, Option, Some, None, option_map, IfSome, IfOk, OnOk, refl, sym, ◌∙◌, ap, ap₂, subst, arith, length-append, nat_eq, if◌then◌else◌}
use Rattle.std.proofs.lemmas.List.{drop_all, drop_more, append-nil, get_or_past, take_all, take-take}
use Rattle.std.proofs.lemmas.Bool.{cases_Bool}
use Rattle.std.proofs.lemmas.Slice.Eq.{starts_is}
use Rattle.std.proofs.lemmas.Option.{IfSome_then}
use Rattle.std.proofs.lemmas.Bool.Decides.{nat_tests, Decides-eqb}
use Rattle.std.specs.List.{starts_with}
use Rattle.reg_outside.specs.Disk.{Torn, Only, After, put}
use Rattle.reg_keep.specs.Frames.{frames, frames_of, AreShort, opened, header, payloads_in, only_payloads, payloads_of_records, with_all, begins_old, old_header, journal_bytes}
use Rattle.reg_keep.specs.Settled.{IsAtRest, SameFront, behind_gate}
use Rattle.reg_keep.specs.Keeping.{IsGoing}
use Rattle.reg_keep.specs.Begin.{fronted, filled_with, begins_closed, is_unfit, Begun, IsPartly, WasOrPartly}
use Rattle.reg_keep.proofs.Reading.{skip_all}
use Rattle.reg_keep.proofs.Filling.{some_both}
use Rattle.reg_keep.proofs.Writes.{told_reaches, put_before}
use Rattle.reg_keep.proofs.Left.{length_put}
use Rattle.reg_keep.proofs.Appends.{same_some, reads, rest_after, kept_after}
use Rattle.reg_keep.proofs.Parts.{Records, closed}
use Rattle.reg_keep.proofs.Gates.{headed, front_opens, torn_byte}
use Rattle.reg_keep.proofs.Spelled.{placed, placed_payloads}

-- a front with a closed gate opens to nothing
both_true : (a b : Bool) → (a && b) ≡ true → (a ≡ true) × (b ≡ true)
both_true true b is = (refl, is)
both_true false b is = absurd (cc)

not_one : (n : ℕ) → not (nat_eq n 1) ≡ true → n ≢ 1
not_one n is one = let t : not (nat_eq 1 1) ≡ true = subst (λ (k : ℕ). not (nat_eq k 1) ≡ true) one is in cc

inside : (file : List ℕ) → get_or file 8 1 ≢ 1 → 8 < length file
inside file shut = elim (at_most (length file)) [ inl short ↦ absurd (shut (get_or_past file 8 1 short)) | inr long ↦ long ]
  where
    at_most : (n : ℕ) → (n ≤ 8) ⊎ (8 < n)
    at_most n = grind arith

pub closed_front : (file : List ℕ) → begins_closed file ≡ true → opened file ≡ Ok []
closed_front file is =
    let b = both_true (starts_with nat_eq file header) (not (nat_eq (get_or file 8 1) 1)) is in
    let shut = not_one (get_or file 8 1) b.1 in
    let long = inside file shut in
    headed file b.0 ∙ skip_all 8 0 file (omega (arith, long)) ∙ ap (λ (l : List ℕ). frames 0 8 l) (drop_more file 8 1 long) ∙ closed (get_or file 8 1) 8 (drop 9 file) shut

pub closed_long : (file : List ℕ) → begins_closed file ≡ true → 9 ≤ length file
closed_long file is =
    let b = both_true (starts_with nat_eq file header) (not (nat_eq (get_or file 8 1) 1)) is in
    omega (arith, inside file (not_one (get_or file 8 1) b.1))

abbrev pub closed_rests : (file : List ℕ) → begins_closed file ≡ true → IsAtRest 8 file
closed_rests file is = record { records = []; opens = closed_front file is; place = refl }

-- what the first nine bytes tell
pub nine_of : (n : ℕ) (buf file : List ℕ) → n ≤ 9 → take n buf ≡ take n file → (n < 9 → length file ≤ n) → take n buf ≡ take 9 file
nine_of n buf file le same ends = elim (less n le) [
  | inl short ↦ let whole = ends short in same ∙ take_all n file whole ∙ sym (take_all 9 file (omega (arith, whole, short)))
  | inr is ↦ same ∙ ap (λ (k : ℕ). take k file) is
]
  where
    less : (k : ℕ) → k ≤ 9 → (k < 9) ⊎ (k ≡ 9)
    less k h = grind (arith, h)

pub starts_nine : (h file : List ℕ) → length h ≤ 9 → starts_with nat_eq (take 9 file) h ≡ starts_with nat_eq file h
starts_nine h file le = ap (λ (l : List ℕ). starts_with nat_eq l h) (refl) ∙ same
  where
    same : starts_with nat_eq (take 9 file) h ≡ starts_with nat_eq file h
    same = rw (take-take (length h) 9 file le) refl

nth_nine : (file : List ℕ) → get_or (take 9 file) 8 1 ≡ get_or file 8 1
nth_nine [] = refl
nth_nine (a ∷ []) = refl
nth_nine (a ∷ b ∷ []) = refl
nth_nine (a ∷ b ∷ c ∷ []) = refl
nth_nine (a ∷ b ∷ c ∷ d ∷ []) = refl
nth_nine (a ∷ b ∷ c ∷ d ∷ e ∷ []) = refl
nth_nine (a ∷ b ∷ c ∷ d ∷ e ∷ f ∷ []) = refl
nth_nine (a ∷ b ∷ c ∷ d ∷ e ∷ f ∷ g ∷ []) = refl
nth_nine (a ∷ b ∷ c ∷ d ∷ e ∷ f ∷ g ∷ h ∷ []) = refl
nth_nine (a ∷ b ∷ c ∷ d ∷ e ∷ f ∷ g ∷ h ∷ i ∷ file) = refl

pub closed_nine : (file : List ℕ) → begins_closed (take 9 file) ≡ begins_closed file
closed_nine file = ap₂ (λ (a : Bool) (n : ℕ). a && not (nat_eq n 1)) (starts_nine header file (omega arith)) (nth_nine file)

module _ (p : List ℕ) (ps : List (List ℕ)) (short : AreShort (p ∷ ps)) where
  abbrev pub filled : List ℕ → List ℕ
  filled file = put 9 (behind_gate p ps) file

  -- the images while the frames are written
  pub front_images : (held : Option (List ℕ)) (leaves : List ℕ → Type 0) → IfSome held (λ file. begins_closed file ≡ true) → Only held leaves → (c : List ℕ) → After (SameFront 9) leaves c → IsPartly (p ∷ ps) c
  front_images None leaves ready only c from = let no = only from.0 from.1 in absurd (cc)
  front_images (Some file) leaves ready only c from =
      let is : file ≡ from.0 = same_some file from.0 (only from.0 from.1) in
      inr (inl (ap only_payloads (front_opens 8 file c (closed_rests file ready) (subst (λ d. SameFront 9 d c) (sym is) from.2))))

  pub here_images : (held : Option (List ℕ)) (leaves : List ℕ → Type 0) → IfSome held (λ file. begins_closed file ≡ true) → Only held leaves → (c : List ℕ) → leaves c → IsPartly (p ∷ ps) c
  here_images None leaves ready only c left = let no = only c left in absurd (cc)
  here_images (Some file) leaves ready only c left =
      let is : file ≡ c = same_some file c (only c left) in
      inr (inl (ap only_payloads (ap opened (sym is) ∙ closed_front file ready)))

  -- and while the first gate is opened
  pub gate_images : (held mid : Option (List ℕ)) (leaves : List ℕ → Type 0) → IfSome held (λ file. begins_closed file ≡ true) → mid ≡ option_map filled held → Only mid leaves → (c : List ℕ) → After (Torn 8 1) leaves c → IsPartly (p ∷ ps) c
  gate_images None mid leaves ready is only c from = let no : None ≡ Some from.0 = sym is ∙ only from.0 from.1 in absurd (cc)
  gate_images (Some file) mid leaves ready is only c from =
      let there : filled file ≡ from.0 = same_some (filled file) from.0 (sym is ∙ only from.0 from.1) in
      ⊎_elim
      (λ none. inr (inl (ap only_payloads none)))
      (λ all. inr (inr (ap only_payloads all ∙ ap Ok (placed_payloads 8 (p ∷ ps)))))
      (torn_byte 8 file (behind_gate p ps) (placed 8 (p ∷ ps)) (closed_rests file ready) (reads 8 p ps short) c (subst (λ d. Torn 8 1 d c) (sym there) from.2))

  pub all_payloads : (held mid new : Option (List ℕ)) → IfSome held (λ file. begins_closed file ≡ true) → mid ≡ option_map filled held → new ≡ option_map (put 8 (1 ∷ [])) mid → IfSome new (λ file. payloads_in file ≡ Ok (p ∷ ps))
  all_payloads held mid new ready is later = opens_all held new ready (kept_after 8 p ps short held mid new (IfSome_then held ready closed_rests) is later)
    where
      opens_all : (o n : Option (List ℕ)) → IfSome o (λ file. begins_closed file ≡ true) → option_map payloads_in n ≡ option_map (λ h. with_all (payloads_in h) (p ∷ ps)) o → IfSome n (λ file. payloads_in file ≡ Ok (p ∷ ps))
      opens_all o None h same = tt
      opens_all None (Some new) h same = absurd (cc)
      opens_all (Some file) (Some new) h same =
          let both : payloads_in new ≡ with_all (payloads_in file) (p ∷ ps) = cc in
          both ∙ ap (λ (r : Result Records ℕ). with_all (only_payloads r) (p ∷ ps)) (closed_front file h)

  pub told_opened : (held mid new : Option (List ℕ)) → IfSome held (λ file. begins_closed file ≡ true) → mid ≡ option_map filled held → new ≡ option_map (put 8 (1 ∷ [])) mid → new ≡ option_map (put 8 (1 ∷ behind_gate p ps)) held
  told_opened None mid new ready is later = later ∙ ap (option_map (put 8 (1 ∷ []))) is
  told_opened (Some file) mid new ready is later =
      later ∙ ap (option_map (put 8 (1 ∷ []))) is ∙ ap Some (put_before 8 1 (behind_gate p ps) file (omega (arith, closed_long file ready)))

  filled_long : (n size : ℕ) (held new : Option (List ℕ)) → n ≡ 8 + length (frames_of (p ∷ ps)) → IfSome held (λ file. begins_closed file ≡ true) → IfSome held (λ file. size ≡ length file) → new ≡ option_map (put 8 (1 ∷ behind_gate p ps)) held → IfSome new (λ file. length file ≡ max size (n + 1))
  filled_long n size None new place ready long is = subst (λ o. IfSome o (λ file. length file ≡ max size (n + 1))) (sym is) tt
  filled_long n size (Some file) new place ready long is =
      let whole : length (put 8 (1 ∷ behind_gate p ps) file) ≡ max (length file) (8 + length (1 ∷ behind_gate p ps)) = length_put 8 (1 ∷ behind_gate p ps) file (omega (arith, closed_long file ready)) in
      let body : length (1 ∷ behind_gate p ps) ≡ length (frames_of (p ∷ ps)) + 1 = length-append (frames_of (p ∷ ps)) (0 ∷ []) in
      subst (λ o. IfSome o (λ f. length f ≡ max size (n + 1))) (sym is) (omega (arith, whole, body, long, place))

  pub all_going : (n size : ℕ) (held mid new : Option (List ℕ)) (leaves : List ℕ → Type 0) → n ≡ 8 + length (frames_of (p ∷ ps)) → n + 1 < 2 ^ 63 → IfSome held (λ file. begins_closed file ≡ true) → IfSome held (λ file. size ≡ length file) → mid ≡ option_map filled held → new ≡ option_map (put 8 (1 ∷ [])) mid → Only new leaves
      → IsGoing n (max size (n + 1)) new leaves
  all_going n size held mid new leaves place small ready long is later only = record {
    small = omega (arith, small);
    long = filled_long n size held new place ready long (told_opened held mid new ready is later);
    settled = record { rest = rest_after 8 p ps short n place held mid new (IfSome_then held ready closed_rests) is later; durable = only };
  }

-- nothing was written, or a journal of no payloads was begun
pub begun_images : (payloads : List (List ℕ)) (leaves : List ℕ → Type 0) (c : List ℕ) → After Begun leaves c → WasOrPartly leaves payloads c
begun_images payloads leaves c from = ⊎_elim
    (λ same. inl (subst leaves (sym same) from.1))
    (λ short. ⊎_elim (λ none. inr (inr (inl (ap only_payloads none)))) (λ damaged. inr (inl damaged)) short)
    from.2

-- a file that is fit, and doesn't begin with a closed gate, is short
small_fit : (file : List ℕ) → is_unfit file ≡ false → false ≡ begins_closed file → length file ≤ 9
small_fit file fit open_ = elim (at_most (length file)) [
  | inl short ↦ short
  | inr long ↦ let no : is_unfit file ≡ true = unfit file (sym open_) long in absurd (cc)
]
  where
    at_most : (n : ℕ) → (n ≤ 9) ⊎ (9 < n)
    at_most n = grind arith

    longer : (n : ℕ) → 9 < n → nat_lt 9 n ≡ true
    longer n h = grind (arith, nat_tests)

    or_true : (b : Bool) → (b || true) ≡ true
    or_true true = refl
    or_true false = refl

    unfit : (f : List ℕ) → begins_closed f ≡ false → 9 < length f → is_unfit f ≡ true
    unfit f shut long = ap₂ (λ (x y : Bool). begins_old f || (x && not y)) (longer (length f) long) shut ∙ or_true (begins_old f)

pub fit_short : (held : Option (List ℕ)) (b : Bool) → b ≡ false → IfSome held (λ file. is_unfit file ≡ false) → IfSome held (λ file. b ≡ begins_closed file) → IfSome held (λ file. length file ≤ 9)
fit_short None b is fit open_ = tt
fit_short (Some file) b is fit open_ = small_fit file fit (sym is ∙ open_)

pub closed_going : (size : ℕ) (held : Option (List ℕ)) (leaves : List ℕ → Type 0) → IfSome held (λ file. begins_closed file ≡ true) → IfSome held (λ file. size ≡ length file) → Only held leaves → IsGoing 8 size held leaves
closed_going size held leaves ready long only = record {
  small = omega arith;
  long = IfSome_then held long (λ file is. sym is);
  settled = record { rest = IfSome_then held ready closed_rests; durable = only };
}

pub closed_none : (held : Option (List ℕ)) (records : Records) → records ≡ [] → IfSome held (λ file. begins_closed file ≡ true) → IfSome held (λ file. payloads_in file ≡ Ok (payloads_of_records records))
closed_none None records is ready = tt
closed_none (Some file) records is ready = ap only_payloads (closed_front file ready) ∙ ap (λ (l : Records). Ok (payloads_of_records l)) (sym is)

pub stage_reaches : (p : List ℕ) (ps : List (List ℕ)) (held mid : Option (List ℕ)) → IfSome held (λ file. begins_closed file ≡ true) → mid ≡ option_map (put 9 (behind_gate p ps)) held → IfSome mid (λ file. 8 < length file)
stage_reaches p ps held mid ready is = IfSome_then mid (told_reaches 9 (behind_gate p ps) held mid (IfSome_then held ready closed_long) is (9 + length (behind_gate p ps)) refl) (λ file le. omega (arith, le))

-- what the code looks at: the first nine bytes, or all, and the size
abbrev pub unfit_by : ℕ → List ℕ → Bool
unfit_by size front = begins_old front || (nat_lt 9 size && not (begins_closed front))

unfit_same : (front file : List ℕ) (size : ℕ) → front ≡ take 9 file → size ≡ length file → unfit_by size front ≡ is_unfit file
unfit_same front file size is long =
    ap₂ (λ (l : List ℕ) (n : ℕ). unfit_by n l) is long
    ∙ ap₂ (λ (a b : Bool). a || (nat_lt 9 (length file) && not b)) (starts_nine old_header file (omega arith)) (closed_nine file)

pub fronts : (held : Option (List ℕ)) (n : ℕ) (buf front : List ℕ) → length buf ≡ 9 → n ≤ length buf → front ≡ take n buf → IfSome held (λ file. take n buf ≡ take n file) → IfSome held (λ file. n < length buf → length file ≤ n) → IfSome held (λ file. front ≡ take 9 file)
fronts None n buf front nine le is same ends = tt
fronts (Some file) n buf front nine le is same ends = is ∙ nine_of n buf file (omega (arith, le, nine)) same (λ short. ends (omega (arith, short, nine)))

module _ {E : Type 0} (r : Result Bool E) (held : Option (List ℕ)) (front : List ℕ) (size : ℕ) (are : IfSome held (λ file. front ≡ take 9 file)) (sizes : IfSome held (λ file. size ≡ length file)) where
  pub stands_closed : IfOk r (λ b. b ≡ begins_closed front) → IfOk r (λ b. IfSome held (λ file. b ≡ begins_closed file))
  stands_closed h = of r h
    where
      of : (x : Result Bool E) → IfOk x (λ b. b ≡ begins_closed front) → IfOk x (λ b. IfSome held (λ file. b ≡ begins_closed file))
      of (Ok b) e = IfSome_then held are (λ file is. e ∙ ap begins_closed is ∙ closed_nine file)
      of (Err e) h = tt

  pub stands_fit : OnOk r (unfit_by size front ≡ false) → OnOk r (IfSome held (λ file. is_unfit file ≡ false))
  stands_fit h = of r h
    where
      of : (x : Result Bool E) → OnOk x (unfit_by size front ≡ false) → OnOk x (IfSome held (λ file. is_unfit file ≡ false))
      of (Ok b) e = some_both held are sizes (λ file is long. sym (unfit_same front file size is long) ∙ e)
      of (Err e) h = tt

  pub stands_unfit : unfit_by size front ≡ true → IfSome held (λ file. is_unfit file ≡ true)
  stands_unfit e = some_both held are sizes (λ file is long. sym (unfit_same front file size is long) ∙ e)

-- the bytes of a file that was filled
headed_front : (file : List ℕ) → begins_closed file ≡ true → take 8 file ≡ header
headed_front file is =
    let b = both_true (starts_with nat_eq file header) (not (nat_eq (get_or file 8 1) 1)) is in
    let split = (starts_is Decides-eqb file header _ refl).0 b.0 in
    ap (λ (l : List ℕ). take 8 l) split

fronted_kept : (file : List ℕ) → begins_closed file ≡ true → fronted file ≡ file
fronted_kept file is = ap (λ (b : Bool). if b then file else journal_bytes []) is

fronted_made : (file : List ℕ) → begins_closed file ≡ false → fronted file ≡ journal_bytes []
fronted_made file is = ap (λ (b : Bool). if b then file else journal_bytes []) is

pub told_kept : (held : Option (List ℕ)) (b : Bool) → b ≡ true → IfSome held (λ file. b ≡ begins_closed file) → held ≡ option_map fronted held
told_kept None b is closes = refl
told_kept (Some file) b is closes = ap Some (sym (fronted_kept file (sym closes ∙ is)))

pub told_made : (held new : Option (List ℕ)) (b : Bool) → b ≡ false → IfSome held (λ file. is_unfit file ≡ false) → IfSome held (λ file. b ≡ begins_closed file) → new ≡ option_map (put 0 (journal_bytes [])) held → new ≡ option_map fronted held
told_made None new b is fit open_ written = written
told_made (Some file) new b is fit open_ written =
    let bare : begins_closed file ≡ false = sym open_ ∙ is in
    let rest : drop 9 file ≡ [] = drop_all 9 file (small_fit file fit (sym bare)) in
    written ∙ ap Some (ap (λ (l : List ℕ). journal_bytes [] ++ l) rest ∙ append-nil (journal_bytes []) ∙ sym (fronted_made file bare))

pub made_long : (held new : Option (List ℕ)) (b : Bool) → b ≡ false → IfSome held (λ file. is_unfit file ≡ false) → IfSome held (λ file. b ≡ begins_closed file) → new ≡ option_map (put 0 (journal_bytes [])) held → IfSome new (λ file. 9 ≡ length file)
made_long None new b is fit open_ written = subst (λ o. IfSome o (λ file. 9 ≡ length file)) (sym written) tt
made_long (Some file) new b is fit open_ written =
    let rest : drop 9 file ≡ [] = drop_all 9 file (small_fit file fit (sym (sym open_ ∙ is))) in
    subst (λ o. IfSome o (λ f. 9 ≡ length f)) (sym written) (sym (ap (λ (l : List ℕ). length (journal_bytes [] ++ l)) rest))

front_of : (file : List ℕ) → take 8 (fronted file) ≡ header
front_of file = elim (cases_Bool (begins_closed file)) [
  | inl y ↦ ap (λ (l : List ℕ). take 8 l) (fronted_kept file y) ∙ headed_front file y
  | inr f ↦ ap (λ (l : List ℕ). take 8 l) (fronted_made file f)
]

rest_of : (n : ℕ) (file : List ℕ) → 9 ≤ n → is_unfit file ≡ false → drop n (fronted file) ≡ drop n file
rest_of n file le fit = elim (cases_Bool (begins_closed file)) [
  | inl y ↦ ap (λ (l : List ℕ). drop n l) (fronted_kept file y)
  | inr f ↦ ap (λ (l : List ℕ). drop n l) (fronted_made file f) ∙ drop_all n (journal_bytes []) (omega (arith, le)) ∙ sym (drop_all n file (omega (arith, le, small_fit file fit (sym f))))
]

put_fronted : (p : List ℕ) (ps : List (List ℕ)) (file : List ℕ) → is_unfit file ≡ false → put 8 (1 ∷ behind_gate p ps) (fronted file) ≡ put 0 (journal_bytes (p ∷ ps)) file
put_fronted p ps file fit =
    let x = 1 ∷ behind_gate p ps in
    let size : 8 + length x ≡ 0 + length (journal_bytes (p ∷ ps)) = omega arith in
    ap₂ (λ (a b : List ℕ). a ++ x ++ b) (front_of file) (rest_of (8 + length x) file (omega arith) fit)
    ∙ ap (λ (n : ℕ). header ++ x ++ drop n file) size

pub told_filled : (all : List (List ℕ)) (p : List ℕ) (ps : List (List ℕ)) (held mid new : Option (List ℕ)) → all ≡ p ∷ ps → IfSome held (λ file. is_unfit file ≡ false) → mid ≡ option_map fronted held → new ≡ option_map (put 8 (1 ∷ behind_gate p ps)) mid
    → new ≡ option_map (filled_with all) held
told_filled all p ps None mid new is fit made later = later ∙ ap (option_map (put 8 (1 ∷ behind_gate p ps))) made
told_filled all p ps (Some file) mid new is fit made later =
    later ∙ ap (option_map (put 8 (1 ∷ behind_gate p ps))) made ∙ ap Some (put_fronted p ps file fit) ∙ ap (λ (l : List (List ℕ)). Some (filled_with l file)) (sym is)

pub told_none : (all : List (List ℕ)) (held new : Option (List ℕ)) → all ≡ [] → new ≡ option_map fronted held → new ≡ option_map (filled_with all) held
told_none all held new is made = made ∙ ap (λ (l : List (List ℕ)). option_map (filled_with l) held) (sym is)
