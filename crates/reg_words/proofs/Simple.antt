-- The commands are simple, and what they find is what the words mean.
use Rattle.std.proofs.Common.{◌≡◌, ◌≢◌, List, Option, None, true, false, [], ◌∷◌, refl, inl, inr}
use Rattle.clap.specs.Words.{App, Row, Text, Kinds, HasKind, is_simple_and_free, fault_of, matches_of, rows_of, kind_of}
use Rattle.clap.specs.declared.parser.matches.Found.{Found}
use Rattle.clap.specs.declared.error.Error.{Error}
use Rattle.clap.specs.declared.error.kind.ErrorKind.TheVariants as kind
use Rattle.clap.proofs.OnLiterals.{clap_on_literals}
use Rattle.reg_words.specs.Words.{bare, apply, members, history, serve, load, sample, permit, permitted, attested, attestation, provision, commands, as_of, why, is_none, read_by}
use Rattle.reg_words.specs.declared.task.Task.{Task}

pub bare_is_simple : (name : Text) → is_simple_and_free (bare name) ≡ true
unfolding clap_on_literals
bare_is_simple name = refl

pub apply_is_simple : is_simple_and_free apply ≡ true
unfolding clap_on_literals
apply_is_simple = refl

pub members_is_simple : is_simple_and_free members ≡ true
unfolding clap_on_literals
members_is_simple = refl

pub history_is_simple : is_simple_and_free history ≡ true
unfolding clap_on_literals
history_is_simple = refl

pub serve_is_simple : is_simple_and_free serve ≡ true
unfolding clap_on_literals
serve_is_simple = refl

pub load_is_simple : is_simple_and_free load ≡ true
unfolding clap_on_literals
load_is_simple = refl

pub sample_is_simple : is_simple_and_free sample ≡ true
unfolding clap_on_literals
sample_is_simple = refl

pub permit_is_simple : is_simple_and_free permit ≡ true
unfolding clap_on_literals
permit_is_simple = refl

pub permitted_is_simple : is_simple_and_free permitted ≡ true
unfolding clap_on_literals
permitted_is_simple = refl

pub attested_is_simple : is_simple_and_free attested ≡ true
unfolding clap_on_literals
attested_is_simple = refl

pub attestation_is_simple : is_simple_and_free attestation ≡ true
unfolding clap_on_literals
attestation_is_simple = refl

pub provision_is_simple : is_simple_and_free provision ≡ true
unfolding clap_on_literals
provision_is_simple = refl

pub commands_is_simple : is_simple_and_free commands ≡ true
unfolding clap_on_literals
commands_is_simple = refl

pub as_of_is_simple : is_simple_and_free as_of ≡ true
unfolding clap_on_literals
as_of_is_simple = refl

pub why_is_simple : is_simple_and_free why ≡ true
unfolding clap_on_literals
why_is_simple = refl

-- an error that isn't want of memory
pub some_kind : (kinds : Kinds) (e : Error) → HasKind kinds e → kind_of e ≢ kind.OutOfMemory → kinds ≢ []
some_kind [] e h other empty = elim h [ inl m ↦ other m | inr none ↦ none ]
some_kind (k ∷ ks) e h other empty = cc

empty_or : (kinds : Kinds) → (kinds ≢ []) → is_none kinds ≡ false
empty_or [] h = absurd (h refl)
empty_or (k ∷ ks) h = refl

-- a command that doesn't take the words
pub not_taken : (app made : App) → made ≡ app → (asked : List Row → Option Task) (words : List Text) → fault_of made words ≢ [] → None ≡ read_by app asked words
unfolding read_by
not_taken app made is asked words h = rw (← is, empty_or (fault_of made words) h) refl

-- and one that does
pub taken : (app made : App) → made ≡ app → (asked : List Row → Option Task) (words : List Text) (f : Found) → fault_of made words ≡ [] → rows_of f ≡ matches_of made words
    → asked (rows_of f) ≡ read_by app asked words
unfolding read_by
taken app made is asked words f none same = rw (← is, none, same) refl
