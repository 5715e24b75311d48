-- Two maps find the same by text, before and after a change of both.
use Rattle.std.proofs.Common.{◌≡◌, ◌∙◌, List, ℕ, Option, None, sym, bytes_eq, inl, inr}
use Rattle.std.specs.Map.{update}
use Rattle.std.proofs.lemmas.Bool.{cases_Bool}
use Rattle.std.proofs.lemmas.Slice.Eq.{bytes_eq-Decides}

module _ {X : Type 0} where
  -- both have the same at one text, and elsewhere what they had
  pub both_changed : (text : List ℕ) (w : Option X) (before after first later : List ℕ → Option X)
      → ((e : List ℕ) → after e ≡ update bytes_eq before text w e) → ((e : List ℕ) → later e ≡ update bytes_eq first text w e)
      → ((e : List ℕ) → first e ≡ before e) → (e : List ℕ) → later e ≡ after e
  both_changed text w before after first later changes also same e = also e ∙ rw (same e) (sym (changes e))

  -- what was put where nothing stood, and taken away again
  pub taken_back : (text : List ℕ) (w : Option X) (old put back : List ℕ → Option X)
      → ((e : List ℕ) → put e ≡ update bytes_eq old text w e) → ((e : List ℕ) → back e ≡ update bytes_eq put text None e)
      → old text ≡ None → (e : List ℕ) → back e ≡ old e
  taken_back text w old put back puts takes none e = elim (cases_Bool (bytes_eq text e)) [
    | inl t ↦ rw t at (takes e) ∙ sym (rw ((bytes_eq-Decides text e).0 t) at none)
    | inr t ↦ rw t at (takes e) ∙ rw t at (puts e)
  ]
