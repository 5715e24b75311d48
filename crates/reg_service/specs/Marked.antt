-- The laws of an output that keeps up: from one moment to the next, and of a single reply.
use Rattle.std.specs.Prelude.{◌≡◌, ◌⊎◌, ◌≤◌, ◌+◌, ℕ, List, [], ◌∷◌, ◌++◌, Option, Some, None}
use Rattle.std.specs.Prelude.{Result, Ok, IfSome, is_some, true, length, take, option_map}
use Rattle.std.specs.Io.KnownBytes.{append_known}
use Rattle.std.proofs.Common.{refl, ap, sym, ◌∙◌, subst, inl, inr, arith, suc, length-append}
use Rattle.std.proofs.Common.{append_assoc, append-nil}
use Rattle.std.proofs.lemmas.List.{take_all, take-append-le}
use Rattle.std.proofs.lemmas.List.Elements.{All-append, All-nil, All-cons}
use Rattle.reg_outside.specs.Disk.{Leaves}
use Rattle.reg_outside.specs.Marks.{Mark, marked}
use Rattle.reg_outside.specs.Streams.{WritesFront}
use Rattle.reg_terms.specs.declared.command.Stamped.{Stamped}
use Rattle.reg_terms.specs.declared.refusal.Refusal.{Refusal}
use Rattle.reg_terms.specs.declared.request.Request.{Request}
use Rattle.reg_terms.specs.declared.reply.Reply.{Reply}
use Rattle.reg_terms.specs.declared.reply.Reply.TheVariants as reply
use Rattle.reg_machine.specs.History.{State}
use Rattle.reg_keep.specs.declared.keeper.Keeper.{Ghosts}
use Rattle.reg_service.specs.Opening.{payloads_of, Served}
use Rattle.reg_service.specs.Kept.{KeptOn, IsBetween, keeper_of}
use Rattle.reg_service.specs.KeptAt.{IsKeptAt}
use Rattle.reg_service.specs.Turn.{Follows, GoesOn, KeepsHistory, KeepsNumber, last_reply}
use Rattle.reg_service.specs.declared.service.Cause.{Cause}
use Rattle.reg_service.specs.declared.service.Cause.TheVariants as cause
use Rattle.reg_service.specs.declared.service.Next.{Next}
use Rattle.reg_service.specs.declared.service.Next.TheVariants as next
use Rattle.reg_service.specs.Marks.{Writing, texts, LeavesAtLeast, IsAmong, IsMarked, AtEach}
use Rattle.reg_service.specs.Marks.{AreMarked, Output, WritesAll, KeepsUpBy, KeepsUp, KeepsUpInPart}
use Rattle.reg_service.specs.Marks.{number_of, LeavesSince, IsNumbered}

among_front : (mark : Mark) (ms ns : List Mark) → IsAmong mark ms → IsAmong mark (ms ++ ns)
among_front mark [] ns is = absurd is
among_front mark (m ∷ ms) ns (inl e) = inl e
among_front mark (m ∷ ms) ns (inr is) = inr (among_front mark ms ns is)

-- the last one is among them
pub among_last : (mark : Mark) (ms : List Mark) → IsAmong mark (ms ++ mark ∷ [])
among_last mark [] = inl refl
among_last mark (m ∷ ms) = inr (among_last mark ms)

texts_more : (ws vs : List Writing) → texts (ws ++ vs) ≡ texts ws ++ texts vs
texts_more [] vs = refl
texts_more (w ∷ ws) vs =
    ap (λ (l : List ℕ). w.text ++ l) (texts_more ws vs)
    ∙ sym (append_assoc w.text (texts ws) (texts vs))

-- what is so of each number is so where there is one, and at each writing
pub if_so : (P Q : ℕ → Type 0) (o : Option ℕ) → ((n : ℕ) → P n → Q n) → IfSome o P → IfSome o Q
if_so P Q None h p = tt
if_so P Q (Some n) h p = h n p

pub each_so : (P Q : ℕ → ℕ → Type 0) (at : ℕ) (ws : List Writing)
    → ((at n : ℕ) → P at n → Q at n) → AtEach P at ws → AtEach Q at ws
each_so P Q at [] h p = tt
each_so P Q at (w ∷ ws) h p =
    (if_so (P at) (Q at) w.number (h at) p.0, each_so P Q (at + length w.text) ws h p.1)

each_then : (P : ℕ → ℕ → Type 0) (at : ℕ) (ws vs : List Writing) → AtEach P at ws
    → AtEach P (at + length (texts ws)) vs → AtEach P at (ws ++ vs)
each_then P at [] vs p q = subst (λ (n : ℕ). AtEach P n vs) (omega arith) q
each_then P at (w ∷ ws) vs p q =
    (p.0, each_then P (at + length w.text) ws vs p.1 (subst (λ (n : ℕ). AtEach P n vs) there q))
  where
    there : at + length (w.text ++ texts ws) ≡ at + length w.text + length (texts ws)
    there = omega (arith, length-append w.text (texts ws))

least_more : (n : ℕ) (h1 h2 more : List Stamped) (r : Result (List (List ℕ)) ℕ)
    → h2 ≡ h1 ++ more → LeavesAtLeast n h1 r → LeavesAtLeast n h2 r
least_more n h1 h2 more r grown l =
    let front : take l.0 h2 ≡ take l.0 h1 = rw grown (take-append-le l.0 h1 more l.2) in
    let long = ap (λ (x : List Stamped). length x) grown in
    (l.0, l.1, omega (arith, long, length-append h1 more, l.2), rw front l.3)

-- a command stays kept from its mark on, over a later history, and among more marks
marked_later : {K : Type 0} (g : Ghosts K) (k1 k2 : K) (h1 h2 more : List Stamped)
    (ms ns : List Mark) (at n : ℕ) → h2 ≡ h1 ++ more
    → Leaves g.keep_moment g.stopped_since (IsBetween h1 h2) k1 k2 → IsMarked g k1 h1 ms at n
    → IsMarked g k2 h2 (ms ++ ns) at n
marked_later g k1 k2 h1 h2 more ms ns at n grown l m = record {
  mark = m.mark;
  set = among_front m.mark ms ns m.set;
  written = m.written;
  known = m.known;
  before = m.before;
  past = omega (arith, m.past, l.later);
  there = omega (arith, m.there, ap (λ (x : List Stamped). length x) grown, length-append h1 more);
  leaves = λ r left. either r (l.since m.mark.moment r m.past left);
}
  where
    either : (r : Result (List (List ℕ)) ℕ)
        → g.stopped_since k1 m.mark.moment r ⊎ IsBetween h1 h2 r → LeavesAtLeast n h2 r
    either r (inl left) = least_more n h1 h2 more r grown (m.leaves r left)
    either r (inr b) = (b.0, omega (arith, m.there, b.1), b.2, b.3)

are_later : {K : Type 0} (g : Ghosts K) (k1 k2 : K) (h1 h2 more : List Stamped)
    (ms ns : List Mark) (at : ℕ) (ws : List Writing) → h2 ≡ h1 ++ more
    → Leaves g.keep_moment g.stopped_since (IsBetween h1 h2) k1 k2 → AreMarked g k1 h1 ms at ws
    → AreMarked g k2 h2 (ms ++ ns) at ws
are_later g k1 k2 h1 h2 more ms ns at ws grown l m =
    each_so (IsMarked g k1 h1 ms) (IsMarked g k2 h2 (ms ++ ns)) at ws
    (λ a n x. marked_later g k1 k2 h1 h2 more ms ns a n grown l x) m

sets_more : (old mid new : Option (List Mark)) (a b : List Mark)
    → mid ≡ option_map (λ ms. ms ++ a) old → new ≡ option_map (λ ms. ms ++ b) mid
    → new ≡ option_map (λ ms. ms ++ (a ++ b)) old
sets_more None mid new a b x y =
    y ∙ ap (λ (o : Option (List Mark)). option_map (λ ms. ms ++ b) o) x
sets_more (Some ms) mid new a b x y =
    y ∙ (ap (λ (o : Option (List Mark)). option_map (λ ms. ms ++ b) o) x
    ∙ ap (λ (l : List Mark). Some l) (append_assoc ms a b))

-- what these writings acknowledge, the first at this place, is kept from a mark on, where the marks
-- are told
abbrev InMarks : {K : Type 0} → Ghosts K → K → List Stamped → ℕ → List Writing
    → Option (List Mark) → Type 0
InMarks g k h at ws marks = IfSome marks (λ ms. AreMarked g k h ms at ws)

-- all that is acknowledged up to a second moment, at the third
both_marked : {K : Type 0} (g : Ghosts K) (k1 k2 : K) (h1 h2 more : List Stamped)
    (ws vs : List Writing) (ns : List Mark) (p0 p1 : Option (List (List ℕ)))
    (w0 w1 : Option (List ℕ)) (m1 m2 : Option (List Mark)) → h2 ≡ h1 ++ more
    → IfSome p0 (λ ps. is_some p1 ≡ true) → w1 ≡ append_known w0 (texts ws)
    → m2 ≡ option_map (λ ms. ms ++ ns) m1
    → IfSome p1 (λ ps. Leaves g.keep_moment g.stopped_since (IsBetween h1 h2) k1 k2)
    → IfSome p0 (λ ps. IfSome w0 (λ bytes. InMarks g k1 h1 (length bytes) ws m1))
    → IfSome p1 (λ ps. IfSome w1 (λ bytes. InMarks g k2 h2 (length bytes) vs m2))
    → IfSome p0 (λ ps. IfSome w0 (λ bytes. InMarks g k2 h2 (length bytes) (ws ++ vs) m2))
both_marked g k1 k2 h1 h2 more ws vs ns None p1 w0 w1 m1 m2 grown told e f l a b = tt
both_marked g k1 k2 h1 h2 more ws vs ns (Some ps) None w0 w1 m1 m2 grown told e f l a b =
    absurd (cc)
both_marked g k1 k2 h1 h2 more ws vs ns (Some ps) (Some qs) None w1 m1 m2 grown told e f l a b = tt
both_marked g k1 k2 h1 h2 more ws vs ns (Some ps) (Some qs) (Some bytes) w1 m1 m2 grown told
    e f l a b = both m1 f a
  where
    behind : InMarks g k2 h2 (length (bytes ++ texts ws)) vs m2
    behind = subst (λ (o : Option (List ℕ)). IfSome o (λ xs. InMarks g k2 h2 (length xs) vs m2)) e b

    both : (m : Option (List Mark)) → m2 ≡ option_map (λ ms. ms ++ ns) m
        → InMarks g k1 h1 (length bytes) ws m → InMarks g k2 h2 (length bytes) (ws ++ vs) m2
    both None f a = subst (InMarks g k2 h2 (length bytes) (ws ++ vs)) (sym f) tt
    both (Some ms) f a =
        subst (InMarks g k2 h2 (length bytes) (ws ++ vs)) (sym f)
        (each_then (IsMarked g k2 h2 (ms ++ ns)) (length bytes) ws vs
        (are_later g k1 k2 h1 h2 more ms ns (length bytes) ws grown l a)
        (subst (λ (n : ℕ). AreMarked g k2 h2 (ms ++ ns) n vs) (length-append bytes (texts ws))
        (subst (InMarks g k2 h2 (length (bytes ++ texts ws)) vs) f behind)))

all_then : (w0 w1 w2 : Option (List ℕ)) (bs cs : List ℕ) → WritesAll w0 w1 bs
    → WritesAll w1 w2 cs → WritesAll w0 w2 (bs ++ cs)
all_then None w1 w2 bs cs a b = b ∙ ap (λ (o : Option (List ℕ)). append_known o cs) a
all_then (Some xs) w1 w2 bs cs a b =
    b ∙ (ap (λ (o : Option (List ℕ)). append_known o cs) a
    ∙ ap (λ (l : List ℕ). Some l) (append_assoc xs bs cs))

take_behind : (n : ℕ) (bs cs : List ℕ) → take (length bs + n) (bs ++ cs) ≡ bs ++ take n cs
take_behind n [] cs = ap (λ (k : ℕ). take k cs) (omega arith)
take_behind n (b ∷ bs) cs =
    let on : length (b ∷ bs) + n ≡ suc (length bs + n) = omega arith in
    ap (λ (k : ℕ). take k (b ∷ bs ++ cs)) on ∙ ap (λ (l : List ℕ). b ∷ l) (take_behind n bs cs)

part_then : (w0 w1 w2 : Option (List ℕ)) (bs cs : List ℕ) → WritesAll w0 w1 bs
    → WritesFront w1 w2 cs → WritesFront w0 w2 (bs ++ cs)
part_then w0 w1 w2 bs cs a b =
    let front = all_then w0 w1 w2 bs (take b.0 cs) a b.2 in (
      length bs + b.0,
      omega (arith, length-append bs cs, b.1),
      subst (λ (l : List ℕ). w2 ≡ append_known w0 l) (sym (take_behind b.0 bs cs)) front,
    )

then_by : {K : Type 0} (W : Option (List ℕ) → Option (List ℕ) → List ℕ → Type 0) (g : Ghosts K)
    (R : Writing → Type 0) (h0 h1 h2 : List Stamped) (k0 k1 k2 : K) (o0 o1 o2 : Output)
    → ((bs cs : List ℕ) → WritesAll o0.written o1.written bs → W o1.written o2.written cs
    → W o0.written o2.written (bs ++ cs)) → KeptOn g h0 k0 h1 k1 → KeptOn g h1 k1 h2 k2
    → KeepsUp g R k0 o0 o1 h1 k1 → KeepsUpBy W g R k1 o1 o2 h2 k2 → KeepsUpBy W g R k0 o0 o2 h2 k2
then_by W g R h0 h1 h2 k0 k1 k2 o0 o1 o2 join x y a b = record {
  writings = a.writings ++ b.writings;
  replies = All-append R a.writings b.writings a.replies b.replies;
  text = subst (W o0.written o2.written) (sym (texts_more a.writings b.writings))
      (join (texts a.writings) (texts b.writings) a.text b.text);
  more = a.more ++ b.more;
  set = sets_more o0.marks o1.marks o2.marks a.more b.more a.set b.set;
  marked = both_marked g k1 k2 h1 h2 y.more a.writings b.writings b.more (g.payloads k0)
      (g.payloads k1) o0.written o1.written o1.marks o2.marks y.grown x.told a.text b.set y.crash
      a.marked b.marked;
}

-- from one moment to a second, and from that to a third
pub keeps_up_then : {K : Type 0} (g : Ghosts K) (R : Writing → Type 0) (h0 h1 h2 : List Stamped)
    (k0 k1 k2 : K) (o0 o1 o2 : Output) → KeptOn g h0 k0 h1 k1 → KeptOn g h1 k1 h2 k2
    → KeepsUp g R k0 o0 o1 h1 k1 → KeepsUp g R k1 o1 o2 h2 k2 → KeepsUp g R k0 o0 o2 h2 k2
keeps_up_then g R h0 h1 h2 k0 k1 k2 o0 o1 o2 x y a b =
    then_by WritesAll g R h0 h1 h2 k0 k1 k2 o0 o1 o2 (all_then o0.written o1.written o2.written) x y
    a b

-- and to one where the last reply is cut short
pub part_keeps_up_then : {K : Type 0} (g : Ghosts K) (R : Writing → Type 0)
    (h0 h1 h2 : List Stamped) (k0 k1 k2 : K) (o0 o1 o2 : Output) → KeptOn g h0 k0 h1 k1
    → KeptOn g h1 k1 h2 k2 → KeepsUp g R k0 o0 o1 h1 k1 → KeepsUpInPart g R k1 o1 o2 h2 k2
    → KeepsUpInPart g R k0 o0 o2 h2 k2
part_keeps_up_then g R h0 h1 h2 k0 k1 k2 o0 o1 o2 x y a b =
    then_by WritesFront g R h0 h1 h2 k0 k1 k2 o0 o1 o2 (part_then o0.written o1.written o2.written)
    x y a b

-- the same output, at a later moment
pub keeps_up_later : (W : Option (List ℕ) → Option (List ℕ) → List ℕ → Type 0) {K : Type 0}
    (g : Ghosts K) (R : Writing → Type 0) (h0 h1 h2 : List Stamped) (k0 k1 k2 : K)
    (old new : Output) → KeptOn g h0 k0 h1 k1 → KeptOn g h1 k1 h2 k2
    → KeepsUpBy W g R k0 old new h1 k1 → KeepsUpBy W g R k0 old new h2 k2
keeps_up_later W g R h0 h1 h2 k0 k1 k2 old new x y a = record {
  writings = a.writings;
  replies = a.replies;
  text = a.text;
  more = a.more;
  set = a.set;
  marked = later (g.payloads k0) (g.payloads k1) old.written new.marks x.told y.crash a.marked;
}
  where
    later : (p0 p1 : Option (List (List ℕ))) (w : Option (List ℕ)) (m : Option (List Mark))
        → IfSome p0 (λ ps. is_some p1 ≡ true)
        → IfSome p1 (λ ps. Leaves g.keep_moment g.stopped_since (IsBetween h1 h2) k1 k2)
        → IfSome p0 (λ ps. IfSome w (λ bytes. InMarks g k1 h1 (length bytes) a.writings m))
        → IfSome p0 (λ ps. IfSome w (λ bytes. InMarks g k2 h2 (length bytes) a.writings m))
    later None p1 w m told l f = tt
    later (Some ps) None w m told l f = absurd (cc)
    later (Some ps) (Some qs) None m told l f = tt
    later (Some ps) (Some qs) (Some bytes) None told l f = tt
    later (Some ps) (Some qs) (Some bytes) (Some ms) told l f =
        subst (λ (ns : List Mark). AreMarked g k2 h2 ns (length bytes) a.writings) (append-nil ms)
        (are_later g k1 k2 h1 h2 y.more ms [] (length bytes) a.writings y.grown l f)

-- the same output, looked at from an earlier moment on
pub keeps_up_sooner : (W : Option (List ℕ) → Option (List ℕ) → List ℕ → Type 0) {K : Type 0}
    (g : Ghosts K) (R : Writing → Type 0) (h0 h1 h2 : List Stamped) (k0 k1 k2 : K)
    (old new : Output) → KeptOn g h0 k0 h1 k1 → KeepsUpBy W g R k1 old new h2 k2
    → KeepsUpBy W g R k0 old new h2 k2
keeps_up_sooner W g R h0 h1 h2 k0 k1 k2 old new x a = record {
  writings = a.writings;
  replies = a.replies;
  text = a.text;
  more = a.more;
  set = a.set;
  marked = sooner _ (g.payloads k0) (g.payloads k1) x.told a.marked;
}
  where
    sooner : (P : Type 0) (p0 p1 : Option (List (List ℕ))) → IfSome p0 (λ ps. is_some p1 ≡ true)
        → IfSome p1 (λ ps. P) → IfSome p0 (λ ps. P)
    sooner P None p1 told f = tt
    sooner P (Some ps) None told f = absurd (cc)
    sooner P (Some ps) (Some qs) told f = f

-- where nothing more was written and no mark set, and the keeper is the same
pub keeps_up_still : (W : Option (List ℕ) → Option (List ℕ) → List ℕ → Type 0) {K : Type 0}
    (g : Ghosts K) (R : Writing → Type 0) (h : List Stamped) (first k0 k1 : K)
    (old mid new : Output) → new.written ≡ mid.written → new.marks ≡ mid.marks → k1 ≡ k0
    → KeepsUpBy W g R first old mid h k0 → KeepsUpBy W g R first old new h k1
keeps_up_still W {K = K} g R h first k0 k1 old mid new bytes same is a =
    subst (λ (k : K). KeepsUpBy W g R first old new h k) (sym is) (record {
      writings = a.writings;
      replies = a.replies;
      text = subst (λ (o : Option (List ℕ)). W old.written o (texts a.writings)) (sym bytes) a.text;
      more = a.more;
      set = same ∙ a.set;
      marked = subst (λ (o : Option (List Mark)). IfSome (g.payloads first)
          (λ ps. IfSome old.written (λ xs. InMarks g k0 h (length xs) a.writings o))) (sym same)
          a.marked;
    })

by_none : (W : Option (List ℕ) → Option (List ℕ) → List ℕ → Type 0) {K : Type 0} (g : Ghosts K)
    (R : Writing → Type 0) (first k : K) (h : List Stamped) (old new : Output)
    → W old.written new.written [] → new.marks ≡ old.marks → KeepsUpBy W g R first old new h k
by_none W g R first k h old new none same = record {
  writings = [];
  replies = All-nil R;
  text = none;
  more = [];
  set = same ∙ unchanged old.marks;
  marked = all (g.payloads first) old.written new.marks;
}
  where
    unchanged : (o : Option (List Mark)) → o ≡ option_map (λ ms. ms ++ []) o
    unchanged None = refl
    unchanged (Some ms) = ap (λ (l : List Mark). Some l) (sym (append-nil ms))

    all : (p : Option (List (List ℕ))) (w : Option (List ℕ)) (m : Option (List Mark))
        → IfSome p (λ ps. IfSome w (λ bytes. InMarks g k h (length bytes) [] m))
    all None w m = tt
    all (Some ps) None m = tt
    all (Some ps) (Some bytes) None = tt
    all (Some ps) (Some bytes) (Some ms) = tt

-- nothing was written
pub keeps_up_none : {K : Type 0} (g : Ghosts K) (R : Writing → Type 0) (first k : K)
    (h : List Stamped) (old new : Output) → new.written ≡ old.written → new.marks ≡ old.marks
    → KeepsUp g R first old new h k
keeps_up_none g R first k h old new bytes same =
    by_none WritesAll g R first k h old new (bytes ∙ nothing old.written) same
  where
    nothing : (o : Option (List ℕ)) → o ≡ append_known o []
    nothing None = refl
    nothing (Some xs) = ap (λ (l : List ℕ). Some l) (sym (append-nil xs))

-- all that was written is a front of itself
pub part_of_whole : {K : Type 0} (g : Ghosts K) (R : Writing → Type 0) (first k : K)
    (h : List Stamped) (old new : Output) → KeepsUp g R first old new h k
    → KeepsUpInPart g R first old new h k
part_of_whole g R first k h old new a = record {
  writings = a.writings;
  replies = a.replies;
  text = (length all, omega arith, a.text ∙ ap (append_known old.written) (sym whole));
  more = a.more;
  set = a.set;
  marked = a.marked;
}
  where
    all : List ℕ
    all = texts a.writings

    whole : take (length all) all ≡ all
    whole = take_all (length all) all (omega arith)

-- a command of this history, which each stop leaves since this moment, that has come
abbrev pub IsLeft : {K : Type 0} → Ghosts K → K → List Stamped → ℕ → ℕ → Type 0
IsLeft g k h moment n =
    (n ≤ length h) × (moment ≤ g.keep_moment k)
    × ((r : Result (List (List ℕ)) ℕ) → g.stopped_since k moment r → r ≡ Ok (payloads_of h))

-- a reply with a mark set just before it
pub keeps_up_one : (W : Option (List ℕ) → Option (List ℕ) → List ℕ → Type 0) {K : Type 0}
    (g : Ghosts K) (R : Writing → Type 0) (first k : K) (h : List Stamped) (old new : Output)
    (w : Writing) (moment : ℕ) → R w → W old.written new.written w.text
    → new.marks ≡ option_map (marked moment old.written) old.marks
    → IfSome w.number (IsLeft g k h moment) → KeepsUpBy W g R first old new h k
keeps_up_one W g R first k h old new w moment reply wrote set leaves = record {
  writings = w ∷ [];
  replies = All-cons R w [] reply (All-nil R);
  text = subst (W old.written new.written) (sym (append-nil w.text)) wrote;
  more = mark old.written ∷ [];
  set = set;
  marked = all (g.payloads first) old.written old.marks new.marks set leaves;
}
  where
    mark : Option (List ℕ) → Mark
    mark o = record { moment = moment; written = option_map length o }

    whole : take (length h) h ≡ h
    whole = take_all (length h) h (omega arith)

    one : (bytes : List ℕ) (ms : List Mark) (n : ℕ) → IsLeft g k h moment n
        → IsMarked g k h (ms ++ mark (Some bytes) ∷ []) (length bytes) n
    one bytes ms n is = record {
      mark = mark (Some bytes);
      set = among_last (mark (Some bytes)) ms;
      written = length bytes;
      known = refl;
      before = omega arith;
      past = is.1;
      there = is.0;
      leaves = λ r left.
          let all = ap (λ (l : List Stamped). Ok (payloads_of l)) (sym whole) in
          (length h, is.0, omega arith, is.2 r left ∙ all);
    }

    each : (bytes : List ℕ) (ms : List Mark) (o : Option ℕ) → IfSome o (IsLeft g k h moment)
        → IfSome o (IsMarked g k h (ms ++ mark (Some bytes) ∷ []) (length bytes))
    each bytes ms o is =
        if_so (IsLeft g k h moment)
        (IsMarked g k h (ms ++ mark (Some bytes) ∷ []) (length bytes)) o (one bytes ms) is

    all : (p : Option (List (List ℕ))) (o : Option (List ℕ)) (m0 m1 : Option (List Mark))
        → m1 ≡ option_map (marked moment o) m0 → IfSome w.number (IsLeft g k h moment)
        → IfSome p (λ ps. IfSome o (λ bytes. InMarks g k h (length bytes) (w ∷ []) m1))
    all None o m0 m1 e is = tt
    all (Some ps) None m0 m1 e is = tt
    all (Some ps) (Some bytes) None m1 e is =
        subst (InMarks g k h (length bytes) (w ∷ [])) (sym e) tt
    all (Some ps) (Some bytes) (Some ms) m1 e is =
        subst (InMarks g k h (length bytes) (w ∷ [])) (sym e) (each bytes ms w.number is, tt)

-- a reply with a mark set just before it, of a service that goes on
pub keeps_up_go : (W : Option (List ℕ) → Option (List ℕ) → List ℕ → Type 0) {K : Type 0}
    (g : Ghosts K) (R : Writing → Type 0) (first : K) (old new : Output) (told : Reply)
    (text : List ℕ) (moment : ℕ) (n : Next K) (s : Served K)
    → R (record { text = text; number = number_of told }) → W old.written new.written text
    → new.marks ≡ option_map (marked moment old.written) old.marks
    → moment ≡ g.keep_moment (keeper_of n) → LeavesSince g moment n → IsNumbered told n
    → n ≡ next.Go s → KeepsUpBy W g R first old new s.state.history s.keeper
keeps_up_go W {K = K} g R first old new told text moment n s reply wrote set now leaves numbered
    is =
    keeps_up_one W g R first s.keeper s.state.history old new
    (record { text = text; number = number_of told }) moment reply wrote set
    (if_so (λ k. k ≤ length s.state.history) (IsLeft g s.keeper s.state.history moment)
    (number_of told) (λ k there. (there, omega (arith, at), since))
    (subst (IsNumbered told) is numbered))
  where
    at : moment ≡ g.keep_moment s.keeper
    at = now ∙ ap (λ (m : Next K). g.keep_moment (keeper_of m)) is

    since : (r : Result (List (List ℕ)) ℕ) → g.stopped_since s.keeper moment r
        → r ≡ Ok (payloads_of s.state.history)
    since = subst (LeavesSince g moment) is leaves

-- of one that stopped, whatever its keeper has
pub keeps_up_stop : (W : Option (List ℕ) → Option (List ℕ) → List ℕ → Type 0) {K : Type 0}
    (g : Ghosts K) (R : Writing → Type 0) (first : K) (old new : Output) (told : Reply)
    (text : List ℕ) (moment : ℕ) (n : Next K) (why : Cause) (k keeper : K) (h : List Stamped)
    → R (record { text = text; number = number_of told }) → W old.written new.written text
    → new.marks ≡ option_map (marked moment old.written) old.marks → IsNumbered told n
    → n ≡ next.Stop why k → KeepsUpBy W g R first old new h keeper
keeps_up_stop W g R first old new told text moment n why k keeper h reply wrote set numbered is =
    let none : number_of told ≡ None = subst (IsNumbered told) is numbered in
    keeps_up_one W g R first keeper h old new (record { text = text; number = number_of told })
    moment reply wrote set
    (subst (λ (o : Option ℕ). IfSome o (IsLeft g keeper h moment)) (sym none) tt)

stopped_numbers : (why : Cause) → number_of (last_reply why) ≡ None
stopped_numbers cause.Memory = refl
stopped_numbers cause.Disk = refl

-- a command that stands in a history has no greater number than it has commands
kept_within : (n : ℕ) (id : Option ℕ) (h : List Stamped) → IsKeptAt n id h → n ≤ length h
kept_within n id h k =
    let long = ap (λ (l : List Stamped). length l) k.3 in
    omega (arith, long, length-append k.0 (k.2 ∷ k.1), k.4)

number_within : (s : State) (n : ℕ) (id : Option ℕ) (after : State) → KeepsNumber s n id after
    → n ≤ length after.history
number_within s n id after (inl h) = omega (arith, h.2)
number_within s n id after (inr h) =
    omega (arith, ap (λ (l : List Stamped). length l) h.0, kept_within n id s.history h.1)

going_numbers : (s : State) (told : Reply) (after : State) → KeepsHistory s told after
    → IfSome (number_of told) (λ n. n ≤ length after.history)
going_numbers s (reply.Number n id) after h = number_within s n id after h
going_numbers s (reply.Loaded n counts) after h = omega (arith, h.2)
going_numbers s (reply.Answer a) after h = tt
going_numbers s (reply.Refused r) after h = tt
going_numbers s reply.NoMemory after h = tt
going_numbers s reply.KeepFault after h = tt

-- a request's reply tells no number but that of a command of the history
pub numbered_by : {K : Type 0} (s : State) (m : ℕ) (reading : Result Request Refusal)
    (told : Reply) (n : Next K) → Follows s m reading (told, n) → GoesOn s m (told, n)
    → IsNumbered told n
numbered_by s m reading told (next.Go after) follows on = going_numbers s told after.state on.0
numbered_by s m reading told (next.Stop why keeper) follows on =
    ap number_of follows ∙ stopped_numbers why
