use Rattle.std.proofs.Common.{◌∙◌, ap, refl, sym, map, String, Global, List, ℕ}
use Rattle.std.specs.Prelude.{string_bytes, string_eq}
use Rattle.std.specs.List.{position_or_len}
use Rattle.std.specs.Str.{bytes_eq}
use Rattle.indexmap.specs.IndexSet.{insert_key}
use Rattle.reg_loader.proofs.Lists.{any_found, insert_seen, place_found, place_seen}
use Rattle.reg_loader.proofs.walking.place_of.Goals as goal

pub returns-in-Some-clause-names : goal.returns-in-Some-clause-names
returns-in-Some-clause-names c =
    let see : String Global → List ℕ = λ t. string_bytes t in
    let found = rw c.in-Some.is at c.get_index_of.ensures.found in
    let there = sym (any_found see (bytes_eq c.args.text.now) c.args.names.now.keys) ∙ sym found in
    rw there refl

pub returns-in-Some-clause-place : goal.returns-in-Some-clause-place
returns-in-Some-clause-place c =
    let see : String Global → List ℕ = λ t. string_bytes t in
    place_found see (bytes_eq c.args.text.now) c.args.names.now.keys c.in-Some.place (sym c.get_index_of.ensures.index ∙ c.in-Some.is)

pub returns-clause-names : goal.returns-clause-names
returns-clause-names c =
    let see : String Global → List ℕ = λ t. string_bytes t in
    ap (map see) c.in_ok-place.ensures.keys
    ∙ insert_seen see string_eq bytes_eq (λ a b. refl) c.args.names.now.keys c.in_ok-key.key
    ∙ ap (insert_key bytes_eq (map see c.args.names.now.keys)) c.in_ok-key.ensures.ok

pub returns-clause-place : goal.returns-clause-place
returns-clause-place c =
    let see : String Global → List ℕ = λ t. string_bytes t in
    c.in_ok-place.ensures.index
    ∙ place_seen see string_eq bytes_eq (λ a b. refl) c.in_ok-key.key c.args.names.now.keys
    ∙ ap (λ text. position_or_len (bytes_eq text) (map see c.args.names.now.keys)) c.in_ok-key.ensures.ok
