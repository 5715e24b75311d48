-- The rows of the table, and what matches them.
use Rattle.std.proofs.Common.{◌≡◌, inl, inr, ℕ, suc, ◌+◌, ◌<◌, ◌==◌, List, [], ◌∷◌, ◌++◌, length, take, Option, Some, None, Bool, true, false, not, cond, refl, ap, sym, ◌∙◌, subst, arith, append-nil, append_assoc}
use Rattle.std.specs.Prelude.{All, option_map, ltb}
use Rattle.std.specs.List.{list_all, before_first, position_or_len}
use Rattle.std.proofs.Math.Seq.{take-append_seam}
use Rattle.std.proofs.lemmas.Bool.{ltb-true, and_parts}
use Rattle.matchit.proofs.OnLiterals.{matchit_on_literals}
use Rattle.matchit.specs.Seek.{first, has_slash}
use Rattle.matchit.specs.Router.{RouteOf}
use Rattle.reg_http.specs.declared.route.Route.{Route}
use Rattle.reg_http.specs.declared.route.Route.TheVariants.{Requests, Load, Group, Members, Rows, History, Folder, Groups, Grants, Privileges, Attributes, Log, Admin}
use Rattle.reg_http.specs.Routes.{Table, added, with_groups, with_objects, with_others, table, route_of}
use Rattle.reg_http.specs.Parameters.{second_segment}
use Rattle.reg_http.specs.Paths.{IsSegment, front_of, back_of, has_parameter, IsParameter, IsPathOf}
use Rattle.reg_http.proofs.Seeking.{RowIn, Matches, seek_found}

-- the tokens of a route
abbrev tokens_by : Bool → List ℕ → List ℕ → List ℕ
tokens_by true front back = front ++ 256 ∷ back
tokens_by false front back = front

abbrev tokens_of : Route → List ℕ
tokens_of route = tokens_by (has_parameter route) (front_of route) (back_of route)

abbrev Each : Table → Type 0
Each [] = Unit {0}
Each (row ∷ rows) = (row.0 ≡ tokens_of row.1.value) × Each rows

table_each : Each table
unfolding matchit_on_literals added with_groups with_objects with_others
table_each = (refl, (refl, (refl, (refl, (refl, (refl, (refl, (refl, (refl, (refl, (refl, (refl, (refl, tt)))))))))))))

tokens_are : (rows : Table) (u : List ℕ) (row : RouteOf Route) → Each rows → RowIn u row rows → u ≡ tokens_of row.value
tokens_are [] u row each h = absurd h
tokens_are (one ∷ rows) u row (is, each) (inl (same, same_row)) = sym same ∙ is ∙ ap (λ r. tokens_of r.value) same_row
tokens_are (one ∷ rows) u row (is, each) (inr h) = tokens_are rows u row each h

abbrev are_bytes : List ℕ → Bool
are_bytes text = list_all (λ byte. ltb byte 256) text

-- literal tokens are bytes of the path
front_matches : (front ts path : List ℕ) → are_bytes front ≡ true → Matches (front ++ ts) path → (rest : List ℕ) × (path ≡ front ++ rest) × Matches ts rest
front_matches [] ts path small m = (path, refl, m)
front_matches (t ∷ front) ts path small (inl (low, rest, is, m)) =
    let (left, same, n) = front_matches front ts rest (and_parts (ltb t 256) (are_bytes front) small).1 m in
    (left, is ∙ ap (λ xs. t ∷ xs) same, n)
front_matches (t ∷ front) ts path small (inr (inl hit)) = absurd (omega (arith, ltb-true t 256 (and_parts (ltb t 256) (are_bytes front) small).0, hit.0))
front_matches (t ∷ front) ts path small (inr (inr is)) = absurd (omega (arith, ltb-true t 256 (and_parts (ltb t 256) (are_bytes front) small).0, is))

part_matches : (ts path : List ℕ) → Matches (256 ∷ ts) path → (part : List ℕ) × (rest : List ℕ) × IsSegment part × (path ≡ part ++ rest) × Matches ts rest
part_matches ts path (inl literal) = absurd (omega (arith, literal.0))
part_matches ts path (inr (inl hit)) = (hit.1, hit.2, hit.3, hit.4, hit.5)
part_matches ts path (inr (inr is)) = absurd (omega (arith, is))

whole_matches : (text path : List ℕ) → are_bytes text ≡ true → Matches text path → path ≡ text
whole_matches text path small m =
    let (rest, same, none) = front_matches text [] path small (subst (λ u. Matches u path) (sym (append-nil text)) m) in
    same ∙ ap (λ xs. text ++ xs) none ∙ append-nil text

route_matches : (front back path : List ℕ) → are_bytes front ≡ true → are_bytes back ≡ true → Matches (front ++ 256 ∷ back) path → (part : List ℕ) × IsSegment part × (path ≡ front ++ part ++ back)
route_matches front back path low small m =
    let (rest, same, n) = front_matches front (256 ∷ back) path low m in
    let (part, left, seg, split, o) = part_matches back rest n in
    (part, seg, same ∙ ap (λ xs. front ++ xs) (split ∙ ap (λ xs. part ++ xs) (whole_matches back left small o)) ∙ sym (append_assoc front part back))

-- what stands before the first slash
abbrev slash_at : List ℕ → ℕ
slash_at text = position_or_len (λ byte. byte == 47) text

place_cases : (c : Bool) (n m : ℕ) → cond c true (false) ≡ false → n ≡ m → cond (not c) (1 + n) 0 ≡ suc m
place_cases true n m none same = absurd (cc)
place_cases false n m none same = omega (arith, same)

slash_split : (c : Bool) (later : Bool) → cond c true later ≡ false → (cond c true false ≡ false) × (later ≡ false)
slash_split true later e = absurd (cc)
slash_split false later e = (refl, e)

place_after : (part back : List ℕ) → has_slash part ≡ false → slash_at back ≡ 0 → slash_at (part ++ back) ≡ length part
place_after [] back plain none = none
place_after (b ∷ part) back plain none =
    let (here, later) = slash_split (b == 47) (has_slash part) plain in
    place_cases (b == 47) (slash_at (part ++ back)) (length part) here (place_after part back later none)

before_slash : (part back : List ℕ) → has_slash part ≡ false → slash_at back ≡ 0 → before_first (λ byte. byte == 47) (part ++ back) ≡ part
before_slash part back plain none = ap (λ n. take n (part ++ back)) (place_after part back plain none) ∙ take-append_seam part back

abbrev Goal : Route → List ℕ → Type 0
Goal route path = IsPathOf route (second_segment path) path

-- the parameter of a path is what stands in its place
with_part : (route : Route) (path part : List ℕ) → second_segment (front_of route ++ part ++ back_of route) ≡ before_first (λ byte. byte == 47) (part ++ back_of route)
    → slash_at (back_of route) ≡ 0 → has_parameter route ≡ true → IsSegment part → path ≡ front_of route ++ part ++ back_of route → Goal route path
with_part route path part reads none takes seg is =
    let read : second_segment path ≡ part = ap second_segment is ∙ reads ∙ before_slash part (back_of route) seg.plain none in
    record {
      parameter = subst (λ b. IsParameter b (second_segment path)) (sym takes) (subst IsSegment (sym read) seg);
      path_is = is ∙ ap (λ p. front_of route ++ p ++ back_of route) (sym read);
    }

without_part : (route : Route) (path : List ℕ) → second_segment (front_of route) ≡ [] → has_parameter route ≡ false → back_of route ≡ [] → path ≡ front_of route → Goal route path
without_part route path reads takes none is =
    let read : second_segment path ≡ [] = ap second_segment is ∙ reads in
    record {
      parameter = subst (λ b. IsParameter b (second_segment path)) (sym takes) read;
      path_is = is ∙ sym (append-nil (front_of route)) ∙ sym (append-nil (front_of route ++ [])) ∙ ap (λ p. front_of route ++ p ++ []) (sym read) ∙ ap (λ b. front_of route ++ second_segment path ++ b) (sym none);
    }

route_path : (route : Route) (path : List ℕ) → Matches (tokens_of route) path → Goal route path
route_path Requests path m = without_part Requests path refl refl refl (whole_matches (front_of Requests) path refl m)
route_path Admin path m = without_part Admin path refl refl refl (whole_matches (front_of Admin) path refl m)
route_path Load path m = let (part, seg, is) = route_matches (front_of Load) (back_of Load) path refl refl m in with_part Load path part refl refl refl seg is
route_path Group path m = let (part, seg, is) = route_matches (front_of Group) (back_of Group) path refl refl m in with_part Group path part refl refl refl seg is
route_path Members path m = let (part, seg, is) = route_matches (front_of Members) (back_of Members) path refl refl m in with_part Members path part refl refl refl seg is
route_path Rows path m = let (part, seg, is) = route_matches (front_of Rows) (back_of Rows) path refl refl m in with_part Rows path part refl refl refl seg is
route_path History path m = let (part, seg, is) = route_matches (front_of History) (back_of History) path refl refl m in with_part History path part refl refl refl seg is
route_path Folder path m = let (part, seg, is) = route_matches (front_of Folder) (back_of Folder) path refl refl m in with_part Folder path part refl refl refl seg is
route_path Groups path m = let (part, seg, is) = route_matches (front_of Groups) (back_of Groups) path refl refl m in with_part Groups path part refl refl refl seg is
route_path Grants path m = let (part, seg, is) = route_matches (front_of Grants) (back_of Grants) path refl refl m in with_part Grants path part refl refl refl seg is
route_path Privileges path m = let (part, seg, is) = route_matches (front_of Privileges) (back_of Privileges) path refl refl m in with_part Privileges path part refl refl refl seg is
route_path Attributes path m = let (part, seg, is) = route_matches (front_of Attributes) (back_of Attributes) path refl refl m in with_part Attributes path part refl refl refl seg is
route_path Log path m = let (part, seg, is) = route_matches (front_of Log) (back_of Log) path refl refl m in with_part Log path part refl refl refl seg is

value_from : (o : Option (RouteOf Route)) (route : Route) → option_map (λ row. row.value) o ≡ Some route → (row : RouteOf Route) × (o ≡ Some row) × (row.value ≡ route)
value_from None route e = absurd (cc)
value_from (Some row) route e = (row, refl, cc)

pub path_of_route : (path : List ℕ) (route : Route) → All (λ byte. byte < 256) path → route_of path ≡ Some route → IsPathOf route (second_segment path) path
path_of_route path route bytes found =
    let (row, e, value) = value_from (first table path) route found in
    let (u, h, m) = seek_found 0 table path row bytes e in
    let same = tokens_are table u row table_each h in
    subst (λ r. Goal r path) value (route_path row.value path (subst (λ ts. Matches ts path) same m))
