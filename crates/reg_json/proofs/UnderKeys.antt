-- What is written under a key is taken from under it: names, moments, numbers, arrays of texts, and privileges.
use Rattle.std.proofs.Common.{◌≡◌, ℕ, Bool, true, List, [], ◌∷◌, map, Option, Some, None, refl}
use Rattle.std.specs.List.{list_all}
use Rattle.std.proofs.lemmas.Bool.{and_parts, leb-true}
use Rattle.serde_json.specs.Data.{Data, string, array}
use Rattle.serde_json.specs.Find.{get, as_str}
use Rattle.serde_json.specs.View.{items_of}
use Rattle.reg_base.specs.Names.{is_name}
use Rattle.reg_base.specs.MomentText.{text_of}
use Rattle.reg_base.proofs.Texts.{text_of_reads}
use Rattle.reg_base.specs.declared.privilege.Privilege.{Privilege}
use Rattle.reg_base.specs.declared.privilege.Privilege.TheVariants.{Admin, Update, Read, View, Optin, Optout, GroupAttrRead, GroupAttrUpdate, StemAdmin, Create, StemAttrRead, StemAttrUpdate, AttrAdmin, AttrUpdate, AttrRead, AttrView}
use Rattle.reg_ops.specs.Forms.{is_moment, is_optional_moment}
use Rattle.reg_terms.specs.Privileges.{line_of, privilege_named}
use Rattle.reg_json.specs.Flat.{moment_data}
use Rattle.reg_json.specs.Replies.{strings}
use Rattle.reg_json.specs.Taking.{name_in, text_in, number_in, small_number_in, moment_in, moment_or_null, optional_moment_in, items_in, all_of, texts_in, privilege_from}
use Rattle.reg_json.specs.Writable.{is_u32}

-- ---- what stands under a key

pub name_there : (key : List ℕ) (d : Data) (name : List ℕ) → get key d ≡ Some (string name) → is_name name ≡ true → name_in key d ≡ Some name
unfolding name_in text_in
name_there key d name there good = rw (there, good) refl

pub moment_there : (key : List ℕ) (d : Data) (moment : ℕ) → get key d ≡ Some (string (text_of moment)) → is_moment moment ≡ true → moment_in key d ≡ Some moment
unfolding moment_in text_in
moment_there key d moment there good = rw there (text_of_reads moment (leb-true _ _ good))

pub null_or : (moment : Option ℕ) → is_optional_moment moment ≡ true → moment_or_null (moment_data moment) ≡ Some moment
unfolding moment_or_null
null_or None good = refl
null_or (Some moment) good = rw (text_of_reads moment (leb-true _ _ good)) refl

pub optional_there : (key : List ℕ) (d : Data) (moment : Option ℕ) → get key d ≡ Some (moment_data moment) → is_optional_moment moment ≡ true → optional_moment_in key d ≡ Some moment
unfolding optional_moment_in
optional_there key d moment there good = rw there (null_or moment good)

pub small_there : (key : List ℕ) (d : Data) (n : ℕ) → number_in key d ≡ Some n → is_u32 n ≡ true → small_number_in key d ≡ Some n
unfolding small_number_in
small_there key d n there small = rw (there, small) refl

-- ---- arrays

pub all_again : {A : Type 0} (write : A → Data) (take_one : Data → Option A) (fits : A → Bool) → ((x : A) → fits x ≡ true → take_one (write x) ≡ Some x) → (xs : List A) → list_all fits xs ≡ true → all_of take_one (items_of (map write xs)) ≡ Some xs
all_again write take_one fits one [] h = refl
all_again write take_one fits one (x ∷ xs) h =
    let both = and_parts (fits x) (list_all fits xs) h in
    rw (one x both.0, all_again write take_one fits one xs both.1) refl

abbrev pub any : {A : Type 0} → A → Bool
any x = true

pub all_any : {A : Type 0} (xs : List A) → list_all any xs ≡ true
all_any [] = refl
all_any (x ∷ xs) = all_any xs

pub strings_again : (texts : List (List ℕ)) → all_of as_str (strings texts) ≡ Some texts
strings_again texts = all_again string as_str any (λ x h. refl) texts (all_any texts)

pub texts_there : (key : List ℕ) (d : Data) (texts : List (List ℕ)) → get key d ≡ Some (array (strings texts)) → texts_in key d ≡ Some texts
unfolding texts_in items_in
texts_there key d texts there = rw there (strings_again texts)

-- ---- privileges

named_again : (p : Privilege) → privilege_named (line_of p).name ≡ Some p
unfolding privilege_named
named_again Admin = refl
named_again Update = refl
named_again Read = refl
named_again View = refl
named_again Optin = refl
named_again Optout = refl
named_again GroupAttrRead = refl
named_again GroupAttrUpdate = refl
named_again StemAdmin = refl
named_again Create = refl
named_again StemAttrRead = refl
named_again StemAttrUpdate = refl
named_again AttrAdmin = refl
named_again AttrUpdate = refl
named_again AttrRead = refl
named_again AttrView = refl

pub privilege_again : (p : Privilege) → privilege_from (string (line_of p).name) ≡ Some p
unfolding privilege_from
privilege_again p = named_again p
