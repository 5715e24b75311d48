-- What a question asks has its form.
use Rattle.std.proofs.Common.{◌≡◌, List, ℕ, Bool, Option, Some, None, true, false, refl}
use Rattle.std.specs.Prelude.{if◌then◌else◌}
use Rattle.reg_base.specs.Names.{is_name, name_of}
use Rattle.reg_terms.specs.declared.query.Query.TheVariants as query
use Rattle.reg_ops.specs.Forms.{is_optional_moment, query_has_form}

pub name_is : (text name : List ℕ) → Some name ≡ name_of text → is_name name ≡ true
name_is text name e = by_test (is_name text) refl e
  where
    by_test : (b : Bool) → is_name text ≡ b → Some name ≡ (if b then Some text else None) → is_name name ≡ true
    by_test true is found = let same : name ≡ text = cc in rw same is
    by_test false is found = absurd (cc)

pub members_form : (group : List ℕ) (at : Option ℕ) → is_name group ≡ true → is_optional_moment at ≡ true → query_has_form (query.Members group at) ≡ true
unfolding query_has_form
members_form group at name moment = rw (name, moment) refl

pub history_form : (group : List ℕ) → is_name group ≡ true → query_has_form (query.History group) ≡ true
unfolding query_has_form
history_form group name = rw name refl
