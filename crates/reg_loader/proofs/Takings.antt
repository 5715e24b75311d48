-- What is kept of the records that were taken, one record more, and what they come to.
use Rattle.std.proofs.Common.{◌≡◌, ◌<◌, ◌≤◌, ◌+◌, ℕ, suc, Bool, true, false, not, List, [], ◌∷◌, ◌++◌, length, map, take, Option, Some, None, Ok, Err, refl, sym, ap, ◌∙◌, arith, length-append}
use Rattle.std.specs.Prelude.{nat_lt, nat_le}
use Rattle.std.specs.List.{list_all}
use Rattle.std.specs.Str.{is_utf8}
use Rattle.std.proofs.lemmas.Bool.{and_from, and_parts, and_left, and_right, false_from_ne_true, eq-eqb, eqb-true, lt-ltb, le-ltb, leb-true, leb-false}
use Rattle.std.proofs.lemmas.List.{take-append-le, take_all, map-append}
use Rattle.std.proofs.lemmas.Str.{IsUtf8-from_is_utf8, is_utf8-from_IsUtf8}
use Rattle.csv.specs.Records.{AllText}
use Rattle.reg_terms.specs.declared.limits.TheConstants.{MAX_RECORDS}
use Rattle.reg_loader.specs.declared.columns.Columns.{Columns}
use Rattle.reg_loader.specs.declared.tables.TableFault.TheVariants.{Bad, TooMany}
use Rattle.reg_loader.specs.declared.reading.Header.{Header}
use Rattle.reg_loader.specs.declared.reading.Reading.{Reading}
use Rattle.reg_loader.specs.Columns.{columns_of}
use Rattle.reg_loader.specs.Rows.{row_of}
use Rattle.reg_loader.specs.Tables.{Fields, is_whole, first_bad, table_under, table_of}
use Rattle.reg_loader.specs.Readings.{IsUnder, IsReading}
use Rattle.reg_loader.proofs.Finding.{first_at, none_more}

all_text : (fields : Fields) → AllText fields → list_all is_utf8 fields ≡ true
unfolding AllText
all_text [] h = refl
all_text (f ∷ fs) h = and_from _ _ (is_utf8-from_IsUtf8 f h.0) (all_text fs h.1)

text_all : (fields : Fields) → list_all is_utf8 fields ≡ true → AllText fields
unfolding AllText
text_all [] e = tt
text_all (f ∷ fs) e = let p = and_parts _ _ e in (IsUtf8-from_is_utf8 f p.0, text_all fs p.1)

whole : (width : ℕ) (fields : Fields) → length fields ≡ width → AllText fields → is_whole width fields ≡ true
whole width fields size text = and_from _ _ (eq-eqb _ _ size) (all_text fields text)

no_text : (width : ℕ) (fields : Fields) → (AllText fields → ⊥) → is_whole width fields ≡ false
no_text width fields bad = and_right _ _ (false_from_ne_true _ (λ e. bad (text_all fields e)))

other_width : (width : ℕ) (fields : Fields) → (length fields ≡ width → ⊥) → is_whole width fields ≡ false
other_width width fields bad = and_left _ _ (false_from_ne_true _ (λ e. bad (eqb-true _ _ e)))

-- the first record is whole, and has the columns
pub header_taken : (list : Bool) (header : Fields) (columns : Columns) (reading : Reading) → columns_of list header ≡ Some columns → AllText header
    → reading.header ≡ Some (record { columns = columns; width = length header }) → reading.count ≡ 1 → reading.table ≡ [] → IsUnder list header [] reading
header_taken list header columns reading found text kept count table = record {
  columns = columns;
  found = found;
  header_is = kept;
  whole = none_more (λ fields. not (is_whole (length header) fields)) [] header refl (ap not (whole (length header) header refl text));
  count_is = count;
  table_is = table;
}

table_more : {A B : Type 0} (n : ℕ) (f : A → B) (rows : List A) (x : A) (count : ℕ) (old new : List B) → count ≡ suc (length rows) → old ≡ map f (take n rows)
    → (count ≤ n → new ≡ old ++ f x ∷ []) → (n < count → new ≡ old) → new ≡ map f (take n (rows ++ x ∷ []))
table_more n f rows x count old new size before kept left = by (nat_le count n) refl
  where
    by : (b : Bool) → nat_le count n ≡ b → new ≡ map f (take n (rows ++ x ∷ []))
    by true e =
        let few : count ≤ n = leb-true _ _ e in
        let all : take n (rows ++ x ∷ []) ≡ rows ++ x ∷ [] = take_all n (rows ++ x ∷ []) (omega (arith, length-append rows (x ∷ []))) in
        let these : take n rows ≡ rows = take_all n rows (omega arith) in
        kept few ∙ ap (λ t. t ++ f x ∷ []) (before ∙ ap (map f) these) ∙ sym (map-append f rows (x ∷ [])) ∙ ap (map f) (sym all)
    by false e =
        let many : n < count = leb-false _ _ e in
        left many ∙ before ∙ ap (map f) (sym (take-append-le n rows (x ∷ []) (omega arith)))

-- a record more, which is whole
pub row_taken : (list : Bool) (all : List Fields) (fields : Fields) (before after : Reading) (header : Header) → before.header ≡ Some header → after.header ≡ before.header
    → length fields ≡ header.width → AllText fields → after.count ≡ before.count + 1
    → (before.count ≤ MAX_RECORDS → after.table ≡ before.table ++ row_of header.columns fields ∷ []) → (MAX_RECORDS < before.count → after.table ≡ before.table)
    → IsReading list all before → IsReading list (all ++ fields ∷ []) after
row_taken list [] fields before after header known same size text count kept left at = absurd (let bad : ◌≡◌ {A = Option Header} None (Some header) = sym at.header_is ∙ known in cc)
row_taken list (first ∷ rows) fields before after header known same size text count kept left at =
    let one : header ≡ record { columns = at.columns; width = length first } = let both = sym known ∙ at.header_is in cc in
    let columns : header.columns ≡ at.columns = ap (λ (h : Header). h.columns) one in
    let width : header.width ≡ length first = ap (λ (h : Header). h.width) one in record {
      columns = at.columns;
      found = at.found;
      header_is = same ∙ at.header_is;
      whole = none_more (λ fields. not (is_whole (length first) fields)) (first ∷ rows) fields at.whole (ap not (whole (length first) fields (size ∙ width) text));
      count_is = omega (arith, length-append rows (fields ∷ []));
      table_is = table_more MAX_RECORDS (row_of at.columns) rows fields before.count before.table after.table at.count_is at.table_is (rw (← columns) kept) left;
    }

under_bad : (list : Bool) (first : Fields) (rows more : List Fields) (fields : Fields) (before : Reading) → IsUnder list first rows before → is_whole (length first) fields ≡ false
    → table_of list (first ∷ (rows ++ fields ∷ more)) ≡ Err (Bad before.count)
under_bad list first rows more fields before at bad =
    let place : first_bad (length first) (first ∷ (rows ++ fields ∷ more)) ≡ Some (suc (length rows))
    = first_at (λ fields. not (is_whole (length first) fields)) (first ∷ rows) fields more at.whole (ap not bad) in
    rw (at.found, place, at.count_is) refl

first_bad_text : (list : Bool) (fields : Fields) (more : List Fields) (columns : Option Columns) → (AllText fields → ⊥) → table_under columns fields more ≡ Err (Bad 0)
first_bad_text list fields more None bad = refl
first_bad_text list fields more (Some columns) bad =
    let place : first_bad (length fields) (fields ∷ more) ≡ Some 0
    = first_at (λ f. not (is_whole (length fields) f)) [] fields more refl (ap not (no_text (length fields) fields bad)) in
    rw place refl

-- a record with a field that isn't UTF-8
pub bad_text : (list : Bool) (all : List Fields) (fields : Fields) (more : List Fields) (before : Reading) → (AllText fields → ⊥) → IsReading list all before
    → table_of list (all ++ fields ∷ more) ≡ Err (Bad before.count)
bad_text list [] fields more before bad at = first_bad_text list fields more (columns_of list fields) bad ∙ ap (λ n. Err (Bad n)) (sym at.count_is)
bad_text list (first ∷ rows) fields more before bad at = under_bad list first rows more fields before at (no_text (length first) fields bad)

-- a record of another width than the header's
pub bad_width : (list : Bool) (all : List Fields) (fields : Fields) (more : List Fields) (before : Reading) (header : Header) → before.header ≡ Some header
    → (length fields ≡ header.width → ⊥) → IsReading list all before → table_of list (all ++ fields ∷ more) ≡ Err (Bad before.count)
bad_width list [] fields more before header known bad at = absurd (let no : ◌≡◌ {A = Option Header} None (Some header) = sym at.header_is ∙ known in cc)
bad_width list (first ∷ rows) fields more before header known bad at =
    let one : header ≡ record { columns = at.columns; width = length first } = let both = sym known ∙ at.header_is in cc in
    let width : header.width ≡ length first = ap (λ (h : Header). h.width) one in
    under_bad list first rows more fields before at (other_width (length first) fields (λ e. bad (e ∙ sym width)))

-- there is no header
pub none_read : (list : Bool) (all : List Fields) (reading : Reading) → reading.count ≡ 0 → IsReading list all reading → table_of list all ≡ Err (Bad 0)
none_read list [] reading none at = refl
none_read list (first ∷ rows) reading none at = absurd (let size = at.count_is in omega arith)

-- there are too many records
pub too_many : (list : Bool) (all : List Fields) (reading : Reading) → MAX_RECORDS + 1 < reading.count → IsReading list all reading → table_of list all ≡ Err TooMany
too_many list [] reading many at = absurd (omega (arith, at.count_is))
too_many list (first ∷ rows) reading many at =
    let size = at.count_is in
    let over : nat_lt MAX_RECORDS (length rows) ≡ true = lt-ltb _ _ (omega arith) in
    rw (at.found, at.whole, over) refl

-- all are whole, and not too many
pub all_read : (list : Bool) (all : List Fields) (reading : Reading) → 0 < reading.count → reading.count ≤ MAX_RECORDS + 1 → IsReading list all reading
    → table_of list all ≡ Ok reading.table
all_read list [] reading some few at = absurd (let none = at.count_is in omega arith)
all_read list (first ∷ rows) reading some few at =
    let size = at.count_is in
    let under : nat_lt MAX_RECORDS (length rows) ≡ false = le-ltb _ _ (omega arith) in
    let these : take MAX_RECORDS rows ≡ rows = take_all MAX_RECORDS rows (omega arith) in
    rw (at.found, at.whole, under) (ap Ok (sym (at.table_is ∙ ap (map (row_of at.columns)) these)))

-- the records that were taken are counted
pub counted : (list : Bool) (all : List Fields) (reading : Reading) → IsReading list all reading → reading.count ≡ length all
counted list [] reading at = at.count_is
counted list (first ∷ rows) reading at = at.count_is
