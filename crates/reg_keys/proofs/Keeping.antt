-- Commands that are kept: what stays of them where more bytes come behind, and what a new one is.
use Rattle.std.proofs.Common.{◌≡◌, ℕ, Bool, true, false, if◌then◌else◌, zero, suc, ◌-◌, ◌<◌, ◌≤◌, get_or, length-append, length-drop, List, [], ◌∷◌, ◌++◌, length, take, drop, map, Some, slice_get, refl, sym, ap, ap₂, subst, ◌∙◌, arith}
use Rattle.std.proofs.lemmas.List.{take-append-drop, length-take-le, map-append, take-append-le, drop-append-le, take_all, drop_at, take_at}
use Rattle.std.proofs.lemmas.Option.{slice_get_read}
use Rattle.reg_keys.specs.declared.records.Entry.{Entry}
use Rattle.reg_keys.specs.Kept.{Kept, as_kept, end_of, kept_by, LieFrom}

lie_within : (start size : ℕ) (es : List Entry) → LieFrom start es size → start ≤ size
lie_within start size [] h = h
lie_within start size (e ∷ es) h = omega (arith, h.0, lie_within (end_of e) size es h.1)

-- each entry's texts end within the bytes
fits_at : (start size : ℕ) (es : List Entry) → LieFrom start es size → (place : ℕ) (e : Entry) → slice_get es place ≡ Some e → end_of e ≤ size
fits_at start size [] h place e is = cc
fits_at start size (x ∷ xs) h zero e is =
    let same : x ≡ e = cc in
    subst (λ y. end_of y ≤ size) same (lie_within (end_of x) size xs h.1)
fits_at start size (x ∷ xs) h (suc place) e is = fits_at (end_of x) size xs h.1 place e is

-- so does one that is read
pub entry_fits : (size : ℕ) (xs es : List Entry) (place : ℕ) (e : Entry) → xs ≡ es → place < length xs → e ≡ get_or xs place e → LieFrom 0 es size → end_of e ≤ size
entry_fits size xs es place e same lt read lie = fits_at 0 size es lie place e (ap (λ l. slice_get l place) (sym same) ∙ slice_get_read xs (length xs) place e refl lt read)

-- what an entry says stays where more bytes are put behind
longer : (bytes more : List ℕ) (e : Entry) → end_of e ≤ length bytes → kept_by (bytes ++ more) e ≡ kept_by bytes e
longer bytes more e fits =
    let n = length-drop e.start bytes in
    let m = length-drop e.by_len (drop e.start bytes) in
    let first : drop e.start (bytes ++ more) ≡ drop e.start bytes ++ more = drop-append-le e.start bytes more (omega (arith, fits)) in
    let second : drop e.by_len (drop e.start (bytes ++ more)) ≡ drop e.by_len (drop e.start bytes) ++ more =
    ap (λ (l : List ℕ). drop e.by_len l) first ∙ drop-append-le e.by_len (drop e.start bytes) more (omega (arith, fits, n)) in
    let third : drop e.key_len (drop e.by_len (drop e.start (bytes ++ more))) ≡ drop e.key_len (drop e.by_len (drop e.start bytes)) ++ more =
    ap (λ (l : List ℕ). drop e.key_len l) second ∙ drop-append-le e.key_len (drop e.by_len (drop e.start bytes)) more (omega (arith, fits, n, m)) in
    let by : take e.by_len (drop e.start (bytes ++ more)) ≡ take e.by_len (drop e.start bytes) =
    ap (λ (l : List ℕ). take e.by_len l) first ∙ take-append-le e.by_len (drop e.start bytes) more (omega (arith, fits, n)) in
    let key : take e.key_len (drop e.by_len (drop e.start (bytes ++ more))) ≡ take e.key_len (drop e.by_len (drop e.start bytes)) =
    ap (λ (l : List ℕ). take e.key_len l) second ∙ take-append-le e.key_len (drop e.by_len (drop e.start bytes)) more (omega (arith, fits, n, m)) in
    let command : take e.len (drop e.key_len (drop e.by_len (drop e.start (bytes ++ more)))) ≡ take e.len (drop e.key_len (drop e.by_len (drop e.start bytes))) =
    ap (λ (l : List ℕ). take e.len l) third ∙ take-append-le e.len (drop e.key_len (drop e.by_len (drop e.start bytes))) more (omega (arith, fits, n, m, length-drop e.key_len (drop e.by_len (drop e.start bytes)))) in
    λ k. as_kept (by k) (key k) e.number e.id (command k)

-- and so of all
pub all_longer : (start : ℕ) (bytes more : List ℕ) (es : List Entry) → LieFrom start es (length bytes) → map (kept_by (bytes ++ more)) es ≡ map (kept_by bytes) es
all_longer start bytes more [] h = refl
all_longer start bytes more (e ∷ es) h = ap₂ (λ x xs. x ∷ xs) (longer bytes more e (lie_within (end_of e) (length bytes) es h.1)) (all_longer (end_of e) bytes more es h.1)

-- an entry of the texts that were put behind
new_kept : (bytes by key command : List ℕ) (e : Entry) → e.start ≡ length bytes → e.by_len ≡ length by → e.key_len ≡ length key → e.len ≡ length command
    → kept_by (bytes ++ (by ++ (key ++ command))) e ≡ as_kept by key e.number e.id command
new_kept bytes by key command e at n m size =
    let first : drop e.start (bytes ++ (by ++ (key ++ command))) ≡ by ++ (key ++ command) = drop_at bytes _ e.start (sym at) in
    let second : drop e.by_len (drop e.start (bytes ++ (by ++ (key ++ command)))) ≡ key ++ command = ap (λ (l : List ℕ). drop e.by_len l) first ∙ drop_at by _ e.by_len (sym n) in
    let third : drop e.key_len (drop e.by_len (drop e.start (bytes ++ (by ++ (key ++ command))))) ≡ command = ap (λ (l : List ℕ). drop e.key_len l) second ∙ drop_at key _ e.key_len (sym m) in
    let b : take e.by_len (drop e.start (bytes ++ (by ++ (key ++ command)))) ≡ by = ap (λ (l : List ℕ). take e.by_len l) first ∙ take_at by _ e.by_len (sym n) in
    let k : take e.key_len (drop e.by_len (drop e.start (bytes ++ (by ++ (key ++ command))))) ≡ key = ap (λ (l : List ℕ). take e.key_len l) second ∙ take_at key _ e.key_len (sym m) in
    let c : take e.len (drop e.key_len (drop e.by_len (drop e.start (bytes ++ (by ++ (key ++ command)))))) ≡ command = ap (λ (l : List ℕ). take e.len l) third ∙ take_all e.len command (omega (arith, size)) in
    λ i. as_kept (b i) (k i) e.number e.id (c i)

-- with it there is one command more
pub one_more : (start : ℕ) (bytes by key command : List ℕ) (e : Entry) (es : List Entry) → LieFrom start es (length bytes)
    → e.start ≡ length bytes → e.by_len ≡ length by → e.key_len ≡ length key → e.len ≡ length command
    → map (kept_by (bytes ++ (by ++ (key ++ command)))) (es ++ e ∷ []) ≡ map (kept_by bytes) es ++ as_kept by key e.number e.id command ∷ []
one_more start bytes by key command e [] h at n m size = ap (λ x. x ∷ []) (new_kept bytes by key command e at n m size)
one_more start bytes by key command e (x ∷ xs) h at n m size =
    ap₂ (λ y ys. y ∷ ys) (longer bytes (by ++ (key ++ command)) x (lie_within (end_of x) (length bytes) xs h.1)) (one_more (end_of x) bytes by key command e xs h.1 at n m size)

-- the entries lie in order where there are more bytes, and one more entry in them
lie_longer : (start size more : ℕ) (es : List Entry) → LieFrom start es size → size ≤ more → LieFrom start es more
lie_longer start size more [] h le = omega (arith, h, le)
lie_longer start size more (e ∷ es) h le = (h.0, lie_longer (end_of e) size more es h.1 le)

pub lie_more : (bytes more : List ℕ) (es : List Entry) → LieFrom 0 es (length bytes) → LieFrom 0 es (length (bytes ++ more))
lie_more bytes more es h = lie_longer 0 (length bytes) (length (bytes ++ more)) es h (omega (arith, length-append bytes more))

lie_pushed : (start size more : ℕ) (e : Entry) (es : List Entry) → LieFrom start es size → size ≤ e.start → end_of e ≤ more → LieFrom start (es ++ e ∷ []) more
lie_pushed start size more e [] h at fits = (omega (arith, h, at), fits)
lie_pushed start size more e (x ∷ xs) h at fits = (h.0, lie_pushed (end_of x) size more e xs h.1 at fits)

-- so they do whether there was memory for the entry or not
pub lie_after : (pushed : Bool) (bytes by key command : List ℕ) (e : Entry) (es : List Entry) → LieFrom 0 es (length bytes)
    → e.start ≡ length bytes → e.by_len ≡ length by → e.key_len ≡ length key → e.len ≡ length command
    → LieFrom 0 (if pushed then es ++ e ∷ [] else es) (length (bytes ++ (by ++ (key ++ command))))
lie_after true bytes by key command e es h at n m size =
    lie_pushed 0 (length bytes) _ e es h (omega (arith, at))
    (omega (arith, at, n, m, size, length-append bytes (by ++ (key ++ command)), length-append by (key ++ command), length-append key command))
lie_after false bytes by key command e es h at n m size = lie_more bytes (by ++ (key ++ command)) es h

-- and without the last one
lie_popped : (start size : ℕ) (e : Entry) (es : List Entry) → LieFrom start (es ++ e ∷ []) size → LieFrom start es e.start
lie_popped start size e [] h = h.0
lie_popped start size e (x ∷ xs) h = (h.0, lie_popped (end_of x) size e xs h.1)

last_fits : (start size : ℕ) (e : Entry) (es : List Entry) → LieFrom start (es ++ e ∷ []) size → end_of e ≤ size
last_fits start size e [] h = h.1
last_fits start size e (x ∷ xs) h = last_fits (end_of x) size e xs h.1

pub lie_cut : (bytes : List ℕ) (e : Entry) (es : List Entry) → LieFrom 0 (es ++ e ∷ []) (length bytes) → LieFrom 0 es (length (take e.start bytes))
lie_cut bytes e es h =
    let fits : e.start ≤ length bytes = omega (arith, last_fits 0 (length bytes) e es h) in
    subst (LieFrom 0 es) (sym (length-take-le e.start bytes fits)) (lie_popped 0 (length bytes) e es h)

pub without_last : (xs : List Kept) (y : Kept) → take (length (xs ++ y ∷ []) - 1) (xs ++ y ∷ []) ≡ xs
without_last xs y = take_at xs (y ∷ []) (length (xs ++ y ∷ []) - 1) (omega (arith, length-append xs (y ∷ [])))

-- the commands without the last one, whose texts are cut off
pub one_less : (bytes : List ℕ) (e : Entry) (es : List Entry) → LieFrom 0 (es ++ e ∷ []) (length bytes)
    → map (kept_by (take e.start bytes)) es ≡ take (length (map (kept_by bytes) (es ++ e ∷ [])) - 1) (map (kept_by bytes) (es ++ e ∷ []))
one_less bytes e es h =
    sym (all_longer 0 (take e.start bytes) (drop e.start bytes) es (lie_cut bytes e es h))
    ∙ ap (λ (l : List ℕ). map (kept_by l) es) (take-append-drop e.start bytes)
    ∙ sym (ap (λ l. take (length l - 1) l) (map-append (kept_by bytes) es (e ∷ [])) ∙ without_last (map (kept_by bytes) es) (kept_by bytes e))
