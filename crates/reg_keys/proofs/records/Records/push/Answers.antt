use Rattle.std.proofs.Common.{rules, ◌≡◌, ◌∙◌, ◌++◌, ◌∷◌, [], ℕ, List, refl, sym, ap, subst, length, map}
use Rattle.std.specs.Prelude.{is_ok}
use Rattle.reg_keys.specs.declared.records.Entry.{Entry}
use Rattle.reg_keys.specs.Kept.{LieFrom, kept_by}
use Rattle.reg_keys.proofs.ByKey.{on_err}
use Rattle.reg_keys.proofs.Keeping.{all_longer, one_more, lie_more, lie_after}
use Rattle.reg_keys.proofs.records.Records.push.Goals as goal

-- what was put behind is of no entry
pub returns-in_err-append-clause-err : goal.returns-in_err-append-clause-err
returns-in_err-append-clause-err c =
    let old = c.args.self.now in
    let longer = c.in_err-append.ensures.err in
    on_err _ c.from_residual-in_err-append.result (ap (map (kept_by c.append.new.bytes.items)) c.reserve.ensures.items
    ∙ ap (λ (l : List ℕ). map (kept_by l) old.entries.items) longer.1 ∙ all_longer 0 old.bytes.items longer.0 old.entries.items old.lie)

pub returns-in_err-push-clause-err : goal.returns-in_err-push-clause-err
returns-in_err-push-clause-err c =
    let old = c.args.self.now in
    on_err _ c.from_residual-in_err-push.result (ap (map (kept_by c.append.new.bytes.items)) (c.in_err-push.ensures.items ∙ c.reserve.ensures.items)
    ∙ ap (λ (l : List ℕ). map (kept_by l) old.entries.items) c.in_ok-append.ensures.ok ∙ all_longer 0 old.bytes.items _ old.entries.items old.lie)

pub returns-clause-pushed : goal.returns-clause-pushed
returns-clause-pushed c =
    let old = c.args.self.now in
    let by = c.args.command.by.now in
    let key = c.args.command.key.now in
    let command = c.args.command.bytes.now in
    let e : Entry = record { start = c.len-start.result; by_len = length by; key_len = length key; len = length command; number = c.args.command.number; id = c.args.command.id } in
    let start : c.len-start.result ≡ length old.bytes.items = search rules in
    ap (λ (l : List ℕ). map (kept_by l) c.push.new.self.items) c.in_ok-append.ensures.ok
    ∙ ap (map (kept_by (old.bytes.items ++ (by ++ (key ++ command))))) (c.in_ok-push.ensures.items ∙ ap (λ (l : List Entry). l ++ e ∷ []) c.reserve.ensures.items)
    ∙ one_more 0 old.bytes.items by key command e old.entries.items old.lie start refl refl refl

-- the entries lie within the bytes
pub invariant_of-self-in-Break-branch-2 : goal.invariant_of-self-in-Break-branch-2
invariant_of-self-in-Break-branch-2 c =
    let old = c.args.self.now in
    let longer = c.in_err-append.ensures.err in
    let lie : LieFrom 0 old.entries.items (length c.append.new.bytes.items) = subst (λ (l : List ℕ). LieFrom 0 old.entries.items (length l)) (sym longer.1) (lie_more old.bytes.items longer.0 old.entries.items old.lie) in
    record { lie = subst (λ (l : List Entry). LieFrom 0 l (length c.append.new.bytes.items)) (sym c.reserve.ensures.items) lie }

pub invariant_of-self-2 : goal.invariant_of-self-2
invariant_of-self-2 c =
    let old = c.args.self.now in
    let by = c.args.command.by.now in
    let key = c.args.command.key.now in
    let command = c.args.command.bytes.now in
    let e : Entry = record { start = c.len-start.result; by_len = length by; key_len = length key; len = length command; number = c.args.command.number; id = c.args.command.id } in
    let start : c.len-start.result ≡ length old.bytes.items = search rules in
    let before : LieFrom 0 c.reserve.new.self.items (length old.bytes.items) = subst (λ (l : List Entry). LieFrom 0 l (length old.bytes.items)) (sym c.reserve.ensures.items) old.lie in
    let after = lie_after (is_ok c.push.result) old.bytes.items by key command e c.reserve.new.self.items before start refl refl refl in
    let among : LieFrom 0 c.push.new.self.items (length (old.bytes.items ++ (by ++ (key ++ command)))) = subst (λ (l : List Entry). LieFrom 0 l (length (old.bytes.items ++ (by ++ (key ++ command))))) (sym c.push.ensures.items) after in
    record { lie = subst (λ (l : List ℕ). LieFrom 0 c.push.new.self.items (length l)) (sym c.in_ok-append.ensures.ok) among }
