-- Kinds of owner taken word by word are those that the words name.
use Rattle.std.proofs.Common.{◌≡◌, ℕ, Bool, true, false, not, ◌&&◌, ◌||◌, cond, List, [], ◌∷◌, Option, Some, None, refl, sym, ap, ◌∙◌, codes, option_and_then}
use Rattle.std.specs.Str.{bytes_eq}
use Rattle.std.proofs.lemmas.Slice.Eq.{bytes_eq-Decides}
use Rattle.serde_json.specs.Data.{Data, Items, no_items, item}
use Rattle.serde_json.specs.Find.{as_str}
use Rattle.reg_ops.specs.Forms.{suits_some}
use Rattle.reg_terms.specs.declared.kinds.Owners.{Owners}
use Rattle.reg_json.specs.Taking.{all_of}
use Rattle.reg_json.specs.Attributes.{stands, are_owners, owners_among, owners_named, with_owner}

-- none of the words names a kind that is there
abbrev apart : Owners → List (List ℕ) → Bool
apart o ws = not (o.folder && stands (codes "folder") ws) && (not (o.group && stands (codes "group") ws) && not (o.subject && stands (codes "subject") ws))

-- the kinds that are there, and those that words name
abbrev joined : Owners → List (List ℕ) → Owners
joined o ws = record { folder = o.folder || stands (codes "folder") ws; group = o.group || stands (codes "group") ws; subject = o.subject || stands (codes "subject") ws }

-- the kinds that are there with those that words name, of which none may be there
abbrev beside : Owners → List (List ℕ) → Option Owners
beside o ws = cond (are_owners ws && apart o ws) (Some (joined o ws)) None

abbrev if_some : Owners → Option Owners
if_some o = cond (suits_some o) (Some o) None

-- those that words to come name, beside those that are there, if any words come
unfoldable pub coming : Owners → Option (List (List ℕ)) → Option Owners
coming o words = option_and_then if_some (option_and_then (beside o) words)

-- ---- one word more

-- a kind that isn't there yet
first_more : (f a x : Bool) (o : Option Owners) → cond ((not f && a) && (true && x)) o None ≡ cond (a && (not f && x)) o None
first_more true true x o = refl
first_more true false x o = refl
first_more false true x o = refl
first_more false false x o = refl

second_more : (g a x z : Bool) (o : Option Owners) → cond ((not g && a) && (x && (true && z))) o None ≡ cond (a && (x && (not g && z))) o None
second_more true true true z o = refl
second_more true true false z o = refl
second_more true false x z o = refl
second_more false true x z o = refl
second_more false false x z o = refl

third_more : (s a x y : Bool) (o : Option Owners) → cond ((not s && a) && (x && (y && true))) o None ≡ cond (a && (x && (y && not s))) o None
third_more true true true true o = refl
third_more true true true false o = refl
third_more true true false y o = refl
third_more true false x y o = refl
third_more false true x y o = refl
third_more false false x y o = refl

-- a kind that is there
never : (b c : Bool) (o : Option Owners) → c ≡ false → cond (b && c) o None ≡ None
never true c o e = rw e refl
never false c o e = refl

second_there : (x z : Bool) → (x && (false && z)) ≡ false
second_there true z = refl
second_there false z = refl

third_there : (x y : Bool) → (x && (y && false)) ≡ false
third_there true true = refl
third_there true false = refl
third_there false y = refl

abbrev IsStep : Owners → List ℕ → List (List ℕ) → Type 0
IsStep o w ws = beside o (w ∷ ws) ≡ option_and_then (λ p. beside p ws) (with_owner o w)

folder_step : (folder group subject : Bool) (ws : List (List ℕ)) → IsStep (record { folder = folder; group = group; subject = subject }) (codes "folder") ws
unfolding with_owner
folder_step true group subject ws = never (not (stands (codes "folder") ws) && are_owners ws) _ _ refl
folder_step false group subject ws = first_more (stands (codes "folder") ws) (are_owners ws) _ _

group_step : (folder group subject : Bool) (ws : List (List ℕ)) → IsStep (record { folder = folder; group = group; subject = subject }) (codes "group") ws
unfolding with_owner
group_step folder true subject ws = never (not (stands (codes "group") ws) && are_owners ws) _ _ (second_there (not (folder && stands (codes "folder") ws)) (not (subject && stands (codes "subject") ws)))
group_step folder false subject ws = second_more (stands (codes "group") ws) (are_owners ws) (not (folder && stands (codes "folder") ws)) (not (subject && stands (codes "subject") ws)) _

subject_step : (folder group subject : Bool) (ws : List (List ℕ)) → IsStep (record { folder = folder; group = group; subject = subject }) (codes "subject") ws
unfolding with_owner
subject_step folder group true ws = never (not (stands (codes "subject") ws) && are_owners ws) _ _ (third_there (not (folder && stands (codes "folder") ws)) (not (group && stands (codes "group") ws)))
subject_step folder group false ws = third_more (stands (codes "subject") ws) (are_owners ws) (not (folder && stands (codes "folder") ws)) (not (group && stands (codes "group") ws)) _

other_step : (o : Owners) (w : List ℕ) (ws : List (List ℕ)) → bytes_eq w (codes "folder") ≡ false → bytes_eq w (codes "group") ≡ false → bytes_eq w (codes "subject") ≡ false → IsStep o w ws
unfolding with_owner
other_step o w ws f g s = rw (f, g, s) refl

step : (o : Owners) (w : List ℕ) (ws : List (List ℕ)) → IsStep o w ws
step o w ws = at_folder (bytes_eq w (codes "folder")) refl
  where
    at_subject : bytes_eq w (codes "folder") ≡ false → bytes_eq w (codes "group") ≡ false → (b : Bool) → bytes_eq w (codes "subject") ≡ b → IsStep o w ws
    at_subject f g true e = rw ((bytes_eq-Decides w (codes "subject")).0 e) (subject_step o.folder o.group o.subject ws)
    at_subject f g false e = other_step o w ws f g e

    at_group : bytes_eq w (codes "folder") ≡ false → (b : Bool) → bytes_eq w (codes "group") ≡ b → IsStep o w ws
    at_group f true e = rw ((bytes_eq-Decides w (codes "group")).0 e) (group_step o.folder o.group o.subject ws)
    at_group f false e = at_subject f e (bytes_eq w (codes "subject")) refl

    at_folder : (b : Bool) → bytes_eq w (codes "folder") ≡ b → IsStep o w ws
    at_folder true e = rw ((bytes_eq-Decides w (codes "folder")).0 e) (folder_step o.folder o.group o.subject ws)
    at_folder false e = at_group e (bytes_eq w (codes "group")) refl

-- ---- the items of an array

-- none is there yet
named_if : (a b : Bool) (o : Owners) → b ≡ suits_some o → cond (a && b) (Some o) None ≡ option_and_then if_some (cond a (Some o) None)
named_if true b o e = rw e refl
named_if false b o e = refl

abbrev nothing : Owners
nothing = record { folder = false; group = false; subject = false }

always : (a : Bool) (o : Option Owners) → cond (a && true) o None ≡ cond a o None
always true o = refl
always false o = refl

named_is : (ws : List (List ℕ)) → owners_named ws ≡ option_and_then if_some (beside nothing ws)
named_is ws =
    named_if (are_owners ws) (suits_some (owners_among ws)) (owners_among ws) refl ∙ ap (option_and_then if_some) (sym (always (are_owners ws) (Some (owners_among ws))))

pub owners_first : (words : Option (List (List ℕ))) → option_and_then owners_named words ≡ coming nothing words
unfolding coming
owners_first None = refl
owners_first (Some ws) = named_is ws

-- a word more
more_words : (o : Owners) (w : List ℕ) (words : Option (List (List ℕ))) (more : Option Owners) → with_owner o w ≡ more → coming o (option_and_then (λ ws. Some (w ∷ ws)) words) ≡ option_and_then (λ p. coming p words) more
unfolding coming
more_words o w None None e = refl
more_words o w None (Some p) e = refl
more_words o w (Some ws) None e = ap (option_and_then if_some) (step o w ws) ∙ rw e refl
more_words o w (Some ws) (Some p) e = ap (option_and_then if_some) (step o w ws) ∙ rw e refl

-- an item more, which may be no text
more_items : (o : Owners) (word : Option (List ℕ)) (words : Option (List (List ℕ))) (more : Option Owners) → option_and_then (with_owner o) word ≡ more → coming o (option_and_then (λ w. option_and_then (λ ws. Some (w ∷ ws)) words) word) ≡ option_and_then (λ p. coming p words) more
unfolding coming
more_items o None words None e = refl
more_items o None words (Some p) e = absurd cc
more_items o (Some w) words more e = more_words o w words more e

pub owners_more : (o p : Owners) (d : Data) (ds : Items) → option_and_then (with_owner o) (as_str d) ≡ Some p → coming o (all_of as_str (item d ds)) ≡ coming p (all_of as_str ds)
owners_more o p d ds e = more_items o (as_str d) (all_of as_str ds) (Some p) e

-- an item that names no kind, or one that is there
pub owners_none : (o : Owners) (d : Data) (ds : Items) → option_and_then (with_owner o) (as_str d) ≡ None → coming o (all_of as_str (item d ds)) ≡ None
owners_none o d ds e = more_items o (as_str d) (all_of as_str ds) None e

-- no word more
last_if : (folder group subject : Bool) → beside (record { folder = folder; group = group; subject = subject }) [] ≡ Some (record { folder = folder; group = group; subject = subject })
last_if true true true = refl
last_if true true false = refl
last_if true false true = refl
last_if true false false = refl
last_if false true true = refl
last_if false true false = refl
last_if false false true = refl
last_if false false false = refl

pub owners_last : (o : Owners) → coming o (all_of as_str no_items) ≡ cond (suits_some o) (Some o) None
unfolding coming
owners_last o = ap (option_and_then if_some) (last_if o.folder o.group o.subject)

pub ruleset owner_lemmas = (owners_first, owners_more, owners_none, owners_last)
