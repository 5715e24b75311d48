-- What is kept of the records of a table that were walked, and what can be told by names.
use Rattle.std.specs.Prelude.{◌≡◌, ◌<◌, ℕ, ◌+◌, ◌-◌, List, true, length, map, nat_lt, MatchBool}
use Rattle.std.specs.Prelude.{string_bytes}
use Rattle.std.specs.List.{AllByRecursion, list_any}
use Rattle.std.specs.Str.{bytes_eq}
use Rattle.indexmap.specs.IndexSet.{insert_key}
use Rattle.reg_terms.specs.declared.kinds.Object.{Object}
use Rattle.reg_terms.specs.declared.kinds.Object.TheVariants.{Group}
use Rattle.reg_terms.specs.declared.rows.JobRow.{JobRow}
use Rattle.reg_facts.specs.Lists.{Lists}
use Rattle.reg_facts.specs.Sound.{is_named}
use Rattle.reg_loader.specs.Mentions.{group_text, mention}
use Rattle.reg_loader.specs.Plan.{Key, bad_groups, created, is_new, named, shown, unknowns, wanted}
use Rattle.reg_loader.specs.declared.fates.Fates.{Fates}
use Rattle.reg_loader.specs.declared.plans.Plan.{Plan}
use Rattle.reg_loader.specs.declared.mentions.Mention.{Mention}
use Rattle.reg_loader.specs.declared.mentions.Mention.TheVariants.{Bad, Standing, New}
use Rattle.reg_loader.specs.declared.tables.TableRow.{TableRow}
use Rattle.reg_loader.specs.declared.walking.Walked.{Walked}

-- the names that are made, after a record
abbrev pub with_mention : Mention → List ℕ → List (List ℕ) → List (List ℕ)
with_mention Bad text names = names
with_mention (Standing g) text names = names
with_mention New text names = insert_key bytes_eq names text

-- the name that a record has to make is among these
abbrev pub Knows : List (List ℕ) → Object → Lists → TableRow → Type 0
Knows names target f row =
    is_new (mention target (group_text row) f) ≡ true
    → list_any (bytes_eq (group_text row)) names ≡ true

-- what these records say, by what is kept of them
pub record IsWalked (job : JobRow) (f : Lists) (rows : List TableRow) (names : List (List ℕ))
    (keys : List Key) (bad unknown repeated : ℕ) : Type 0 where
  pub names_are : names ≡ created job.target rows f
  pub keys_are : keys ≡ wanted job rows f
  pub bad_are : bad ≡ bad_groups job.target rows f
  pub unknown_are : unknown ≡ unknowns job rows f
  pub repeated_are : repeated + length (wanted job rows f) ≡ length (named job rows f)
  pub known : AllByRecursion (Knows (created job.target rows f) job.target f) rows

abbrev pub IsWalkedBy : JobRow → Lists → List TableRow → Walked → Type 0
IsWalkedBy job f rows w =
    IsWalked job f rows (map (λ t. string_bytes t) w.names.keys) w.wanted.keys w.bad_group w.unknown
    w.repeated

-- a group has a name, or is made with one of these
abbrev pub IsTold : List (List ℕ) → Lists → ℕ → Type 0
IsTold names f g =
    MatchBool (nat_lt f.made.groups g) (g - f.made.groups - 1 < length names) (is_named (Group g) f
    ≡ true)

abbrev pub AreTold : List (List ℕ) → Lists → List Key → Type 0
AreTold names f keys = AllByRecursion (λ (key : Key). IsTold names f key.0) keys

-- a plan by what is kept of it
abbrev pub plan_told : List (List ℕ) → Lists → List Key → Walked → Fates → Plan
plan_told names f gone w fates = record {
  created = names;
  removed = map (shown names f) gone;
  added = map (shown names f) fates.added.items;
  unchanged = fates.unchanged;
  unknown = w.unknown;
  repeated = w.repeated;
  vetoed = fates.vetoed;
  bad_group = w.bad_group;
}
