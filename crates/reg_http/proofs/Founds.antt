-- Each route is found by its own paths.
use Rattle.std.proofs.Common.{◌≡◌, ℕ, zero, suc, ◌<◌, List, [], ◌∷◌, ◌++◌, Option, Some, None, true, refl, ap, sym, ◌∙◌, subst, arith, append-nil, append_assoc}
use Rattle.std.specs.Prelude.{All, codes, option_map}
use Rattle.matchit.proofs.OnLiterals.{matchit_on_literals}
use Rattle.matchit.specs.Rows.{param_token}
use Rattle.matchit.specs.Seek.{own, step, seek, with_suffix}
use Rattle.matchit.specs.Router.{RouteOf}
use Rattle.reg_http.specs.declared.route.Route.{Route}
use Rattle.reg_http.specs.declared.route.Route.TheVariants.{Requests, Load, Group, Members, Rows, History, Folder, Groups, Grants, Privileges, Attributes, Log, Admin}
use Rattle.reg_http.specs.Routes.{Table, added, with_groups, with_objects, with_others, table, route_of}
use Rattle.reg_http.specs.Paths.{IsSegment, front_of, IsPathOf}
use Rattle.reg_http.proofs.Finding.{Wild, Slashed, goes_on, steps, downs, found_plain, found_back}

abbrev Bytes : List ℕ → Type 0
Bytes text = All (λ byte. byte < 256) text

-- the rows after a front, and those after its parameter
abbrev after_front : List ℕ → Table
after_front front = steps front table

abbrev after_part : List ℕ → Table
after_part front = step param_token (steps front table)

-- the row of a route is at hand
abbrev Has : Route → Option (RouteOf Route) → Type 0
Has route o = option_map (λ row. row.value) o ≡ Some route

row_of : (o : Option (RouteOf Route)) (route : Route) → Has route o → (row : RouteOf Route) × (o ≡ Some row) × (row.value ≡ route)
row_of None route e = absurd (cc)
row_of (Some row) route e = (row, refl, cc)

all_cons : (x : ℕ) (xs : List ℕ) → x < 256 → Bytes xs → Bytes (x ∷ xs)
all_cons x xs here later zero d inside = here
all_cons x xs here later (suc i) d inside = later i d (omega arith)

left_bytes : (xs ys : List ℕ) → Bytes (xs ++ ys) → Bytes xs
left_bytes [] ys bytes = λ i d inside. absurd (omega arith)
left_bytes (x ∷ xs) ys bytes =
    let later = left_bytes xs ys (λ i d inside. bytes (suc i) d (omega arith)) in
    all_cons x xs (bytes 0 x (omega arith)) later

right_bytes : (xs ys : List ℕ) → Bytes (xs ++ ys) → Bytes ys
right_bytes [] ys bytes = bytes
right_bytes (x ∷ xs) ys bytes = right_bytes xs ys (λ i d inside. bytes (suc i) d (omega arith))

fixed_route : (front path : List ℕ) (route : Route) → Has route (own (after_front front)) → path ≡ front → route_of path ≡ Some route
unfolding seek
fixed_route front path route has is =
    let (row, e, value) = row_of (own (after_front front)) route has in
    ap route_of (is ∙ sym (append-nil front)) ∙ ap (option_map (λ r. r.value)) (downs front [] table row e) ∙ ap Some value

plain_route : (front part path : List ℕ) (route : Route) → Wild (after_front front) → Slashed (after_part front) → Has route (own (after_part front))
    → IsSegment part → Bytes path → path ≡ front ++ part ++ [] → route_of path ≡ Some route
plain_route front part path route wild slashed has seg bytes is =
    let (row, e, value) = row_of (own (after_part front)) route has in
    let whole : path ≡ front ++ part = is ∙ append-nil (front ++ part) in
    let low : Bytes part = right_bytes front part (subst Bytes whole bytes) in
    ap route_of whole ∙ ap (option_map (λ r. r.value)) (downs front part table row (found_plain (after_front front) part row wild slashed seg low e)) ∙ ap Some value

back_route : (front part more path : List ℕ) (route : Route) → Wild (after_front front) → Slashed (after_part front) → goes_on (after_part front) ≡ true
    → Has route (own (steps (47 ∷ more) (with_suffix (47 ∷ []) (after_part front)))) → IsSegment part → Bytes path → path ≡ front ++ part ++ 47 ∷ more → route_of path ≡ Some route
back_route front part more path route wild slashed goes has seg bytes is =
    let (row, e, value) = row_of (own (steps (47 ∷ more) (with_suffix (47 ∷ []) (after_part front)))) route has in
    let whole : path ≡ front ++ (part ++ 47 ∷ more) = is ∙ append_assoc front part (47 ∷ more) in
    let low : Bytes part = left_bytes part (47 ∷ more) (right_bytes front (part ++ 47 ∷ more) (subst Bytes whole bytes)) in
    ap route_of whole ∙ ap (option_map (λ r. r.value)) (downs front (part ++ 47 ∷ more) table row (found_back (after_front front) part more row wild slashed goes seg low e)) ∙ ap Some value

pub route_found : (route : Route) (part path : List ℕ) → Bytes path → IsPathOf route part path → route_of path ≡ Some route
unfolding matchit_on_literals added with_groups with_objects with_others
route_found Requests part path bytes is = fixed_route (front_of Requests) path Requests refl (is.path_is ∙ ap (λ p. front_of Requests ++ p ++ []) is.parameter)
route_found Admin part path bytes is = fixed_route (front_of Admin) path Admin refl (is.path_is ∙ ap (λ p. front_of Admin ++ p ++ []) is.parameter)
route_found Load part path bytes is = back_route (front_of Load) part (codes "load") path Load (refl, tt) (refl, tt) refl refl is.parameter bytes is.path_is
route_found Group part path bytes is = plain_route (front_of Group) part path Group (refl, (refl, (refl, (refl, tt)))) (refl, (refl, (refl, tt))) refl is.parameter bytes is.path_is
route_found Members part path bytes is = back_route (front_of Members) part (codes "members") path Members (refl, (refl, (refl, (refl, tt)))) (refl, (refl, (refl, tt))) refl refl is.parameter bytes is.path_is
route_found Rows part path bytes is = back_route (front_of Rows) part (codes "rows") path Rows (refl, (refl, (refl, (refl, tt)))) (refl, (refl, (refl, tt))) refl refl is.parameter bytes is.path_is
route_found History part path bytes is = back_route (front_of History) part (codes "history") path History (refl, (refl, (refl, (refl, tt)))) (refl, (refl, (refl, tt))) refl refl is.parameter bytes is.path_is
route_found Folder part path bytes is = plain_route (front_of Folder) part path Folder (refl, tt) tt refl is.parameter bytes is.path_is
route_found Groups part path bytes is = back_route (front_of Groups) part (codes "groups") path Groups (refl, tt) (refl, tt) refl refl is.parameter bytes is.path_is
route_found Grants part path bytes is = back_route (front_of Grants) part (codes "grants") path Grants (refl, (refl, (refl, tt))) (refl, (refl, (refl, tt))) refl refl is.parameter bytes is.path_is
route_found Privileges part path bytes is = back_route (front_of Privileges) part (codes "privileges") path Privileges (refl, (refl, (refl, tt))) (refl, (refl, (refl, tt))) refl refl is.parameter bytes is.path_is
route_found Attributes part path bytes is = back_route (front_of Attributes) part (codes "attributes") path Attributes (refl, (refl, (refl, tt))) (refl, (refl, (refl, tt))) refl refl is.parameter bytes is.path_is
route_found Log part path bytes is = back_route (front_of Log) part (codes "log") path Log (refl, tt) (refl, tt) refl refl is.parameter bytes is.path_is
