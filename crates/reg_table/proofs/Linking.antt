-- The links of rows, after one row more, one less and one replaced.
use Rattle.std.proofs.Common.{◌≡◌, ◌++◌, List, [], ◌∷◌, Bool, true, false, not, Option, Some, None, refl, sym, ap, ◌∙◌, append_assoc, filter, map, inl, inr}
use Rattle.std.specs.Prelude.{◌&&◌, ◌||◌, if◌then◌else◌}
use Rattle.std.specs.List.{list_any}
use Rattle.std.specs.Option.{option_eq}
use Rattle.std.proofs.lemmas.List.{append-nil}
use Rattle.std.proofs.lemmas.Bool.{cases_Bool, and_parts, or_parts}
use Rattle.reg_table.specs.declared.linked.Linked.{Linked}
use Rattle.reg_table.specs.Keyed.{is_row}
use Rattle.reg_table.specs.Links.{is_link, has_link, link_list, links_of, is_link_row, has_link_row, without_link, put_link}

never : (a : Bool) → (a && false) ≡ false
never true = refl
never false = refl

clash : {A : Type 0} → false ≡ true → A
clash h = absurd (let none : ⊥ = cc in none)

-- a link put behind the others and taken away again
module _ {L K : Type 0} (link_eq : L → L → Bool) (key_eq : K → K → Bool) (link_same : (l : L) → link_eq l l ≡ true) (key_same : (k : K) → key_eq k k ≡ true) where
  pub link_back : (o : Option L) (key : K) (links : List (Linked L K)) → has_link_row link_eq key_eq o key links ≡ false → without_link link_eq key_eq o key (links ++ link_list o key) ≡ links
  link_back None key links free = append-nil links
  link_back (Some l) key [] free = rw (link_same l, key_same key) refl
  link_back (Some l) key (x ∷ links) free =
      let parts = or_parts (is_link_row link_eq key_eq l key x) (list_any (is_link_row link_eq key_eq l key) links) free in
      rw parts.0 (ap (λ xs. x ∷ xs) (link_back (Some l) key links parts.1))

-- equality of keys that are pairs
abbrev pub pair_eq : {G P : Type 0} → (G → G → Bool) → (P → P → Bool) → G × P → G × P → Bool
pair_eq group_eq place_eq x y = group_eq x.0 y.0 && place_eq x.1 y.1

pub pair_same : {G P : Type 0} (group_eq : G → G → Bool) (place_eq : P → P → Bool) → ((g : G) → group_eq g g ≡ true) → ((p : P) → place_eq p p ≡ true) → (k : G × P) → pair_eq group_eq place_eq k k ≡ true
pair_same group_eq place_eq group_same place_same k = rw (group_same k.0, place_same k.1) refl

module _ {G P L R : Type 0} (group_eq : G → G → Bool) (place_eq : P → P → Bool) (link_eq : L → L → Bool) (group_of : R → G) (place_of : R → P) (link_at : G → P → Option L) where
  abbrev links : List R → List (Linked L (G × P))
  links rows = links_of group_of place_of link_at rows

  abbrev link_of : R → Option L
  link_of row = link_at (group_of row) (place_of row)

  abbrev here : G → P → R → Bool
  here g p row = is_row group_eq place_eq group_of place_of g p row

  -- a link is among these exactly where a row has it
  pub links_any : (l : L) (rows : List R) → list_any (λ (x : Linked L (G × P)). link_eq x.link l) (links rows) ≡ list_any (has_link link_eq group_of place_of link_at l) rows
  links_any l [] = refl
  links_any l (row ∷ rows) = by_link (link_of row) (links_any l rows)
    where
      by_link : (o : Option L) → list_any (λ (x : Linked L (G × P)). link_eq x.link l) (links rows) ≡ list_any (has_link link_eq group_of place_of link_at l) rows
          → list_any (λ (x : Linked L (G × P)). link_eq x.link l) (link_list o (group_of row, place_of row) ++ links rows) ≡ (is_link link_eq l o || list_any (has_link link_eq group_of place_of link_at l) rows)
      by_link None rest = rest
      by_link (Some k) rest = ap (λ b. link_eq k l || b) rest

  -- one more
  pub links_push : (rows : List R) (row : R) → links (rows ++ row ∷ []) ≡ links rows ++ link_list (link_of row) (group_of row, place_of row)
  links_push [] row = append-nil (link_list (link_of row) (group_of row, place_of row))
  links_push (r ∷ rows) row = ap (λ ls. link_list (link_of r) (group_of r, place_of r) ++ ls) (links_push rows row) ∙ sym (append_assoc (link_list (link_of r) (group_of r, place_of r)) (links rows) (link_list (link_of row) (group_of row, place_of row)))

  -- a key that no row has, has no link here
  none_linked : (o : Option L) (g : G) (p : P) (rows : List R) → list_any (here g p) rows ≡ false → has_link_row link_eq (pair_eq group_eq place_eq) o (g, p) (links rows) ≡ false
  none_linked None g p rows free = refl
  none_linked (Some l) g p [] free = refl
  none_linked (Some l) g p (row ∷ rows) free =
      let parts = or_parts (here g p row) (list_any (here g p) rows) free in
      by_link (link_of row) parts.0 (none_linked (Some l) g p rows parts.1)
    where
      by_link : (o : Option L) → here g p row ≡ false → has_link_row link_eq (pair_eq group_eq place_eq) (Some l) (g, p) (links rows) ≡ false → has_link_row link_eq (pair_eq group_eq place_eq) (Some l) (g, p) (link_list o (group_of row, place_of row) ++ links rows) ≡ false
      by_link None other rest = rest
      by_link (Some k) other rest = rw (other, never (link_eq k l)) rest

  pub key_free : (o : Option L) (g : G) (p : P) (row : R) (rows now : List R) (ls : List (Linked L (G × P))) → g ≡ group_of row → p ≡ place_of row → rows ≡ now → ls ≡ links rows → list_any (here (group_of row) (place_of row)) now ≡ false → has_link_row link_eq (pair_eq group_eq place_eq) o (g, p) ls ≡ false
  key_free o g p row rows now ls of at is kept free = ap (has_link_row link_eq (pair_eq group_eq place_eq) o (g, p)) kept ∙ none_linked o g p rows (rw (of, at, is) free)

  -- one less, where rows of its key have its link
  links_less : (o : Option L) (g : G) (p : P) → ((row : R) → here g p row ≡ true → option_eq link_eq (link_of row) o ≡ true) → (rows : List R) → links (filter (λ row. not (here g p row)) rows) ≡ without_link link_eq (pair_eq group_eq place_eq) o (g, p) (links rows)
  links_less None g p near [] = refl
  links_less None g p near (row ∷ rows) = elim (cases_Bool (here g p row)) [
    | inl t ↦ rw t (links_less None g p near rows ∙ sym (ap (λ ls. ls ++ links rows) (unlinked (link_of row) (near row t))))
    | inr t ↦ rw t (ap (λ ls. link_list (link_of row) (group_of row, place_of row) ++ ls) (links_less None g p near rows))
  ]
    where
      unlinked : (o : Option L) → option_eq link_eq o None ≡ true → link_list {K = G × P} o (group_of row, place_of row) ≡ []
      unlinked None h = refl
      unlinked (Some k) h = clash h
  links_less (Some l) g p near [] = refl
  links_less (Some l) g p near (row ∷ rows) = elim (cases_Bool (here g p row)) [
    | inl t ↦ rw t (links_less (Some l) g p near rows ∙ sym (gone (link_of row) t (near row t)))
    | inr t ↦ rw t (ap (λ ls. link_list (link_of row) (group_of row, place_of row) ++ ls) (links_less (Some l) g p near rows) ∙ sym (stays (link_of row) t))
  ]
    where
      gone : (o : Option L) → here g p row ≡ true → option_eq link_eq o (Some l) ≡ true → without_link link_eq (pair_eq group_eq place_eq) (Some l) (g, p) (link_list o (group_of row, place_of row) ++ links rows) ≡ without_link link_eq (pair_eq group_eq place_eq) (Some l) (g, p) (links rows)
      gone None t h = clash h
      gone (Some k) t h = rw (h, t) refl

      stays : (o : Option L) → here g p row ≡ false → without_link link_eq (pair_eq group_eq place_eq) (Some l) (g, p) (link_list o (group_of row, place_of row) ++ links rows) ≡ link_list o (group_of row, place_of row) ++ without_link link_eq (pair_eq group_eq place_eq) (Some l) (g, p) (links rows)
      stays None t = refl
      stays (Some k) t = rw (t, never (link_eq k l)) refl

  -- one in the place of another, where rows of its key have its link
  links_put : (o : Option L) (row : R) → link_of row ≡ o → ((r : R) → here (group_of row) (place_of row) r ≡ true → option_eq link_eq (link_of r) o ≡ true) → (rows : List R)
      → links (map (λ r. if here (group_of row) (place_of row) r then row else r) rows) ≡ put_link link_eq (pair_eq group_eq place_eq) o (group_of row, place_of row) (links rows)
  links_put None row is near [] = refl
  links_put None row is near (r ∷ rows) = elim (cases_Bool (here (group_of row) (place_of row) r)) [
    | inl t ↦ rw (t, is) (links_put None row is near rows ∙ sym (ap (λ ls. ls ++ links rows) (unlinked (link_of r) (near r t))))
    | inr t ↦ rw t (ap (λ ls. link_list (link_of r) (group_of r, place_of r) ++ ls) (links_put None row is near rows))
  ]
    where
      unlinked : (o : Option L) → option_eq link_eq o None ≡ true → link_list {K = G × P} o (group_of r, place_of r) ≡ []
      unlinked None h = refl
      unlinked (Some k) h = clash h
  links_put (Some l) row is near [] = refl
  links_put (Some l) row is near (r ∷ rows) = elim (cases_Bool (here (group_of row) (place_of row) r)) [
    | inl t ↦ rw (t, is) (ap (λ ls. (record { link = l; key = (group_of row, place_of row) }) ∷ ls) (links_put (Some l) row is near rows) ∙ sym (set (link_of r) t (near r t)))
    | inr t ↦ rw t (ap (λ ls. link_list (link_of r) (group_of r, place_of r) ++ ls) (links_put (Some l) row is near rows) ∙ sym (stays (link_of r) t))
  ]
    where
      set : (o : Option L) → here (group_of row) (place_of row) r ≡ true → option_eq link_eq o (Some l) ≡ true
          → put_link link_eq (pair_eq group_eq place_eq) (Some l) (group_of row, place_of row) (link_list o (group_of r, place_of r) ++ links rows) ≡ (record { link = l; key = (group_of row, place_of row) }) ∷ put_link link_eq (pair_eq group_eq place_eq) (Some l) (group_of row, place_of row) (links rows)
      set None t h = clash h
      set (Some k) t h = rw (h, t) refl

      stays : (o : Option L) → here (group_of row) (place_of row) r ≡ false
          → put_link link_eq (pair_eq group_eq place_eq) (Some l) (group_of row, place_of row) (link_list o (group_of r, place_of r) ++ links rows) ≡ link_list o (group_of r, place_of r) ++ put_link link_eq (pair_eq group_eq place_eq) (Some l) (group_of row, place_of row) (links rows)
      stays None t = refl
      stays (Some k) t = rw (t, never (link_eq k l)) refl

  -- keys that are equal have equal links
  module _ (alike : (g h : G) (p q : P) → group_eq g h ≡ true → place_eq p q ≡ true → option_eq link_eq (link_at g p) (link_at h q) ≡ true) where
    near : (g : G) (p : P) (row : R) → here g p row ≡ true → option_eq link_eq (link_of row) (link_at g p) ≡ true
    near g p row t = let parts = and_parts (group_eq (group_of row) g) (place_eq (place_of row) p) t in alike (group_of row) g (place_of row) p parts.0 parts.1

    pub row_unlinked : (g : G) (p : P) (rows : List R) → links (filter (λ row. not (here g p row)) rows) ≡ without_link link_eq (pair_eq group_eq place_eq) (link_at g p) (g, p) (links rows)
    row_unlinked g p rows = links_less (link_at g p) g p (near g p) rows

    pub row_relinked : (row : R) (rows : List R) → links (map (λ r. if here (group_of row) (place_of row) r then row else r) rows) ≡ put_link link_eq (pair_eq group_eq place_eq) (link_of row) (group_of row, place_of row) (links rows)
    row_relinked row rows = links_put (link_of row) row refl (near (group_of row) (place_of row)) rows
