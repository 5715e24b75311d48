use Rattle.std.proofs.Common.{rules, ◌≡◌, ◌<◌, Some, None, option_and_then, ℕ, ◌+◌, List, ◌∷◌, ◌∙◌, length, get_or, sym, ap, drop}
use Rattle.std.proofs.lemmas.List.{drop_more, drop_all}
use Rattle.serde_json.specs.Find.{as_str}
use Rattle.serde_json.specs.View.{view, items_view}
use Rattle.serde_json.specs.declared.value.Value.{Value}
use Rattle.reg_terms.specs.declared.kinds.Owners.{Owners}
use Rattle.reg_json.specs.Taking.{all_of}
use Rattle.reg_json.specs.Attributes.{with_owner}
use Rattle.reg_json.proofs.Owners.{coming, owners_none, owners_more, owners_last}
use Rattle.reg_json.proofs.attributes.owners_named.Goals as goal

-- what words from some place on name, where a word stands there
from_word : (o : Owners) (words : List Value) (i : ℕ) (word : Value) → i < length words → word ≡ get_or words i word → coming o (all_of as_str (items_view (drop i words))) ≡ coming o (all_of as_str (items_view (word ∷ drop (i + 1) words)))
from_word o words i word within is =
    ap (λ (vs : List Value). coming o (all_of as_str (items_view vs))) (drop_more words i word within ∙ ap (λ (v : Value). v ∷ drop (i + 1) words) (sym is))

pub returns-in_err-owners : goal.returns-in_err-owners
returns-in_err-owners c =
    let o = c.loop-word.owners in
    let i = c.loop-word.word-index in
    let words = c.args.items.now in
    let word = c.word-item.result in
    let none : option_and_then (with_owner o) (as_str (view word)) ≡ None = search rules in
    let gone : c.from_residual.result ≡ None = search rules in
    gone ∙ sym (c.loop-word.invariant ∙ from_word o words i word c.loop-word-test.true c.word-item.is ∙ owners_none o (view word) (items_view (drop (i + 1) words)) none)

pub loop-word-preserved : goal.loop-word-preserved
loop-word-preserved c =
    let o = c.loop-word.owners in
    let i = c.loop-word.word-index in
    let words = c.args.items.now in
    let word = c.word-item.result in
    let more : option_and_then (with_owner o) (as_str (view word)) ≡ Some c.in_ok-owners.owners = search rules in
    c.loop-word.invariant ∙ from_word o words i word c.loop-word-test.true c.word-item.is ∙ owners_more o c.in_ok-owners.owners (view word) (items_view (drop (i + 1) words)) more

pub returns : goal.returns
returns c =
    let none = drop_all c.loop-word.word-index c.args.items.now c.loop-word-test.false in
    c.some_owners.ensures ∙ sym (c.loop-word.invariant ∙ ap (λ (vs : List Value). coming c.loop-word.owners (all_of as_str (items_view vs))) none ∙ owners_last c.loop-word.owners)
