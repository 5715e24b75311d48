-- Values that are written one behind the other, in two parts, are those of an array.
use Rattle.std.proofs.Common.{◌≡◌, List, [], ◌∷◌, ◌++◌, append_assoc, Result, Ok, Err, refl, sym, ap, ◌∙◌}
use Rattle.std.specs.Prelude.{OnOk}
use Rattle.json.specs.Token.{Token, begin_array, end_array}
use Rattle.json.specs.Tree.{json_tokens, items_tokens}
use Rattle.serde_json.specs.Data.{array}
use Rattle.serde_json.specs.Written.{items_outline, outline}
use Rattle.reg_terms.specs.declared.kinds.AttrValue.{AttrValue}
use Rattle.reg_json.specs.Replies.{value_data, value_items}
use Rattle.reg_json.specs.Values.{value_tokens}

closed : (values : List AttrValue) → items_tokens (items_outline (value_items values)) ≡ value_tokens values ++ end_array ∷ []
closed [] = refl
closed (v ∷ vs) = ap (λ (ts : List Token). json_tokens (outline (value_data v)) ++ ts) (closed vs) ∙ sym (append_assoc (json_tokens (outline (value_data v))) (value_tokens vs) (end_array ∷ []))

one_more : (few many : List AttrValue) → value_tokens (few ++ many) ≡ value_tokens few ++ value_tokens many
one_more [] many = refl
one_more (v ∷ vs) many = ap (λ (ts : List Token). json_tokens (outline (value_data v)) ++ ts) (one_more vs many) ∙ sym (append_assoc (json_tokens (outline (value_data v))) (value_tokens vs) (value_tokens many))

pieces : (o few many : List Token) → (((o ++ begin_array ∷ []) ++ few) ++ many) ++ end_array ∷ [] ≡ o ++ begin_array ∷ ((few ++ many) ++ end_array ∷ [])
pieces o few many = simp append_assoc

-- two parts in brackets
pub parts_written : (o : List Token) (few many : List AttrValue) → (((o ++ begin_array ∷ []) ++ value_tokens few) ++ value_tokens many) ++ end_array ∷ [] ≡ o ++ json_tokens (outline (array (value_items (few ++ many))))
parts_written o few many =
    let whole : items_tokens (items_outline (value_items (few ++ many))) ≡ (value_tokens few ++ value_tokens many) ++ end_array ∷ [] = closed (few ++ many) ∙ ap (λ (ts : List Token). ts ++ end_array ∷ []) (one_more few many) in
    pieces o (value_tokens few) (value_tokens many) ∙ ap (λ (ts : List Token). o ++ begin_array ∷ ts) (sym whole)

-- and so where a call wrote the last bracket
pub parts_closed : {E : Type 0} (r : Result (Unit {0}) E) (o new : List Token) (few many all : List AttrValue) → few ++ many ≡ all → OnOk r (new ≡ (((o ++ begin_array ∷ []) ++ value_tokens few) ++ value_tokens many) ++ end_array ∷ []) → OnOk r (new ≡ o ++ json_tokens (outline (array (value_items all))))
parts_closed (Ok done) o new few many all is h = h ∙ (parts_written o few many ∙ ap (λ (values : List AttrValue). o ++ json_tokens (outline (array (value_items values)))) is)
parts_closed (Err e) o new few many all is h = tt
