use Rattle.std.proofs.Common.{arith, ◌≡◌, ◌∙◌, ap, sym, List, ℕ, length, Some, slice_get, take, drop}
use Rattle.std.specs.Option.{option_map}
use Rattle.std.proofs.lemmas.Option.{slice_get-map, slice_get-get_or}
use Rattle.reg_keys.specs.Kept.{as_kept, kept_by}
use Rattle.reg_keys.proofs.Keeping.{entry_fits}
use Rattle.reg_keys.proofs.records.Records.get.Goals as goal

-- an entry's texts stand within the bytes
pub split_at-requires : goal.split_at-requires
split_at-requires c =
    let fits = entry_fits (length c.args.self.now.bytes.items) c.as_slice.result.now c.args.self.now.entries.items c.args.place c.in_ok-entry.entry.now c.as_slice.ensures.value c.in_ok-entry.ensures.lookup.3.0 c.in_ok-entry.ensures.lookup.1 c.args.self.now.lie in
    omega (arith, fits, c.as_slice-2.ensures.len)

pub split_at-requires-2 : goal.split_at-requires-2
split_at-requires-2 c =
    let fits = entry_fits (length c.args.self.now.bytes.items) c.as_slice.result.now c.args.self.now.entries.items c.args.place c.in_ok-entry.entry.now c.as_slice.ensures.value c.in_ok-entry.ensures.lookup.3.0 c.in_ok-entry.ensures.lookup.1 c.args.self.now.lie in
    omega (arith, fits, c.as_slice-2.ensures.len, c.split_at.ensures.back_len)

pub split_at-requires-3 : goal.split_at-requires-3
split_at-requires-3 c =
    let fits = entry_fits (length c.args.self.now.bytes.items) c.as_slice.result.now c.args.self.now.entries.items c.args.place c.in_ok-entry.entry.now c.as_slice.ensures.value c.in_ok-entry.ensures.lookup.3.0 c.in_ok-entry.ensures.lookup.1 c.args.self.now.lie in
    omega (arith, fits, c.as_slice-2.ensures.len, c.split_at.ensures.back_len, c.split_at-2.ensures.back_len)

pub split_at-requires-4 : goal.split_at-requires-4
split_at-requires-4 c =
    let fits = entry_fits (length c.args.self.now.bytes.items) c.as_slice.result.now c.args.self.now.entries.items c.args.place c.in_ok-entry.entry.now c.as_slice.ensures.value c.in_ok-entry.ensures.lookup.3.0 c.in_ok-entry.ensures.lookup.1 c.args.self.now.lie in
    omega (arith, fits, c.as_slice-2.ensures.len, c.split_at.ensures.back_len, c.split_at-2.ensures.back_len, c.split_at-3.ensures.back_len)

pub returns : goal.returns
returns c =
    let e = c.in_ok-entry.entry.now in
    let found : slice_get c.args.self.now.entries.items c.args.place ≡ Some e =
    ap (λ l. slice_get l c.args.place) (sym c.as_slice.ensures.value) ∙ slice_get-get_or c.as_slice.result.now c.args.place e c.in_ok-entry.ensures.lookup.3.0 ∙ ap Some (sym c.in_ok-entry.ensures.lookup.1) in
    let first : c.split_at.result.1.now ≡ drop e.start c.args.self.now.bytes.items = c.split_at.ensures.back ∙ ap (λ (l : List ℕ). drop e.start l) c.as_slice-2.ensures.value in
    let second : c.split_at-2.result.1.now ≡ drop e.by_len (drop e.start c.args.self.now.bytes.items) = c.split_at-2.ensures.back ∙ ap (λ (l : List ℕ). drop e.by_len l) first in
    let third : c.split_at-3.result.1.now ≡ drop e.key_len (drop e.by_len (drop e.start c.args.self.now.bytes.items)) = c.split_at-3.ensures.back ∙ ap (λ (l : List ℕ). drop e.key_len l) second in
    let by : c.split_at-2.result.0.now ≡ take e.by_len (drop e.start c.args.self.now.bytes.items) = c.split_at-2.ensures.front ∙ ap (λ (l : List ℕ). take e.by_len l) first in
    let key : c.split_at-3.result.0.now ≡ take e.key_len (drop e.by_len (drop e.start c.args.self.now.bytes.items)) = c.split_at-3.ensures.front ∙ ap (λ (l : List ℕ). take e.key_len l) second in
    let command : c.split_at-4.result.0.now ≡ take e.len (drop e.key_len (drop e.by_len (drop e.start c.args.self.now.bytes.items))) = c.split_at-4.ensures.front ∙ ap (λ (l : List ℕ). take e.len l) third in
    slice_get-map (kept_by c.args.self.now.bytes.items) c.args.self.now.entries.items c.args.place
    ∙ ap (option_map (kept_by c.args.self.now.bytes.items)) found
    ∙ sym (λ k. Some (as_kept (by k) (key k) e.number e.id (command k)))
