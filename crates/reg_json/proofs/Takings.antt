-- Data taken apart: arrays item by item, and what a text is as data.
use Rattle.std.proofs.Common.{◌≡◌, ℕ, List, [], ◌∷◌, ◌++◌, Option, Some, None, true, false, refl, sym, ap, append_assoc, append-nil, option_map, option_and_then, cond, Bool, IfSome, ◌∙◌}
use Rattle.std.specs.Str.{bytes_eq}
use Rattle.std.proofs.lemmas.Bool.{false≢true}
use Rattle.std.proofs.lemmas.Slice.Eq.{bytes_eq-Decides}
use Rattle.std.specs.Str.{IsUtf8, is_utf8}
use Rattle.std.proofs.lemmas.Str.{IsUtf8-from_is_utf8, is_utf8-from_IsUtf8}
use Rattle.serde_json.specs.Data.{Data, Items, no_items, item}
use Rattle.serde_json.specs.Read.{read}
use Rattle.reg_ops.specs.Parts.{◌>>=◌}
use Rattle.reg_terms.specs.declared.reply.Reply.{Reply}
use Rattle.reg_json.specs.Replies.{text}
use Rattle.reg_json.specs.Taking.{all_of, reply_from, reply_of}

-- what was taken, and those behind it
abbrev pub after : {A : Type 0} → List A → Option (List A) → Option (List A)
after xs found = option_map (λ ys. xs ++ ys) found

joined_more : {A : Type 0} (xs : List A) (x : A) (found : Option (List A)) → after xs (option_and_then (λ ys. Some (x ∷ ys)) found) ≡ after (xs ++ x ∷ []) found
joined_more xs x None = refl
joined_more xs x (Some ys) = ap Some (sym (append_assoc xs (x ∷ []) ys))

-- one more is taken
pub taken_more : {A : Type 0} (read : Data → Option A) (xs : List A) (x : A) (d : Data) (ds : Items) → read d ≡ Some x → after xs (all_of read (item d ds)) ≡ after (xs ++ x ∷ []) (all_of read ds)
taken_more read xs x d ds h = rw h (joined_more xs x (all_of read ds))

-- one is none
pub taken_none : {A : Type 0} (read : Data → Option A) (xs : List A) (d : Data) (ds : Items) → read d ≡ None → after xs (all_of read (item d ds)) ≡ None
taken_none read xs d ds h = rw h refl

-- all are taken
pub taken_all : {A : Type 0} (read : Data → Option A) (xs : List A) → after xs (all_of read no_items) ≡ Some xs
taken_all read xs = ap Some (append-nil xs)

-- none is taken yet
pub taken_first : {A : Type 0} (found : Option (List A)) → found ≡ after [] found
taken_first None = refl
taken_first (Some ys) = refl

pub ruleset taken_lemmas = (taken_more, taken_none, taken_all, taken_first)

pub text_is : (text : List ℕ) (d : Data) → IsUtf8 text → read text ≡ Some d → reply_of text ≡ reply_from d
unfolding reply_of
text_is text d utf8 r = rw (is_utf8-from_IsUtf8 text utf8, r) refl

pub text_isnt : (text : List ℕ) → (IsUtf8 text → read text ≡ None) → reply_of text ≡ None
unfolding reply_of
text_isnt text none =
    elim (is_utf8 text) as (λ b. is_utf8 text ≡ b → cond b (read text >>= reply_from) None ≡ None) [
      | true ↦ λ e. rw (none (IsUtf8-from_is_utf8 text e)) refl
      | false ↦ λ e. refl
    ] refl

pub ruleset text_lemmas = (text_is, text_isnt)

-- what is kept where two texts are the same has that text, and is kept where it has it
pub kept_same : (r : Reply) (bytes : List ℕ) (same : Bool) → same ≡ bytes_eq (text r) bytes → IfSome (cond same (Some r) None) (λ s. text s ≡ bytes)
kept_same r bytes true h = (bytes_eq-Decides (text r) bytes).0 (sym h)
kept_same r bytes false h = tt

pub kept_exact : (r : Reply) (bytes : List ℕ) (same : Bool) → same ≡ bytes_eq (text r) bytes → text r ≡ bytes → cond same (Some r) None ≡ Some r
kept_exact r bytes true h e = refl
kept_exact r bytes false h e = absurd (false≢true (h ∙ (bytes_eq-Decides (text r) bytes).1 e))
