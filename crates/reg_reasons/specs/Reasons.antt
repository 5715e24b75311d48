-- The reasons why a person is a member of a group: the ways from the group down to the person, or
-- to a composite that has the person by its factors.
use Rattle.std.specs.Prelude.{◌≡◌, ℕ, suc, ◌&&◌, List, [], ◌∷◌, Bool, true, false, not, filter}
use Rattle.std.specs.Prelude.{length}
use Rattle.std.specs.List.{Contains}
use Rattle.reg_terms.specs.declared.kinds.Member.{Member}
use Rattle.reg_terms.specs.declared.kinds.Member.TheVariants.{Person, Group}
use Rattle.reg_terms.specs.declared.rows.MemberRow.{MemberRow}
use Rattle.reg_terms.specs.Rows.{is_composite}
use Rattle.reg_effect.specs.declared.live.Live.{Live}
use Rattle.reg_effect.specs.Member.{gives, in_factors, member}
use Rattle.reg_reasons.specs.Ways.{Way, ways, shorter}

-- the groups that have the person
abbrev pub having : Live → ℕ → ℕ → Bool
having L s h = member L h s

-- whether a row leads to the person: its member is the person or a group that has it, and its
-- group is no composite
abbrev pub leads : Live → ℕ → MemberRow → Bool
leads L s row =
    gives (having L s) s row.member && not (is_composite row.group L.composites)

-- whether a way may end at the group: a composite that has the person by its factors
abbrev pub is_end : Live → ℕ → ℕ → Bool
is_end L s g = in_factors (having L s) L.composites g

-- all ways by these rows from a group to a person, the shortest first; none takes a row twice
unfoldable pub reasons : Live → List MemberRow → ℕ → ℕ → List Way
reasons L rows s g =
    let on = filter (leads L s) rows in
    shorter (suc (length on)) (λ n. ways n on (is_end L s) s g)

-- what is behind a row: nothing behind the person, and by R what is behind a nested group
abbrev pub IsBehind : (ℕ → Type 0) → ℕ → Member → Way → Type 0
IsBehind R s (Person p) way = (p ≡ s) × (way ≡ [])
IsBehind R s (Group h) way = R h

-- which ways are reasons: each row is one of these, of the group to which those before it led, and
-- that is no composite; behind the last is the person, or a composite that has the person
abbrev pub IsReason : Live → List MemberRow → ℕ → ℕ → Way → Type 0
IsReason L rows s g [] = is_end L s g ≡ true
IsReason L rows s g (row ∷ way) =
    Contains rows row × (row.group ≡ g) × (is_composite g L.composites ≡ false)
    × IsBehind (λ h. IsReason L rows s h way) s row.member way
