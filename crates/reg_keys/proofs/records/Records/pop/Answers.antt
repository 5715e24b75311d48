use Rattle.std.proofs.Common.{◌∙◌, ◌++◌, ◌∷◌, ◌-◌, [], ℕ, List, ap, sym, subst, length, map, take}
use Rattle.reg_keys.specs.declared.records.Entry.{Entry}
use Rattle.reg_keys.specs.Kept.{LieFrom, kept_by}
use Rattle.reg_keys.proofs.Keeping.{lie_cut, one_less}
use Rattle.reg_keys.proofs.records.Records.pop.Goals as goal

-- the texts before those of the last one stay
pub invariant_of-self : goal.invariant_of-self
invariant_of-self c =
    let old = c.args.self.now in
    let last = c.in-Some.last in
    let es = c.pop.new.self.items in
    let lie : LieFrom 0 (es ++ last ∷ []) (length old.bytes.items) = subst (λ (l : List Entry). LieFrom 0 l (length old.bytes.items)) c.in-Some.ensures.items old.lie in
    record { lie = subst (λ (l : List ℕ). LieFrom 0 es (length l)) (sym c.truncate.ensures.items) (lie_cut old.bytes.items last es lie) }

pub returns-in-Some : goal.returns-in-Some
returns-in-Some c =
    let old = c.args.self.now in
    let last = c.in-Some.last in
    let es = c.pop.new.self.items in
    let lie : LieFrom 0 (es ++ last ∷ []) (length old.bytes.items) = subst (λ (l : List Entry). LieFrom 0 l (length old.bytes.items)) c.in-Some.ensures.items old.lie in
    ap (λ (l : List ℕ). map (kept_by l) es) c.truncate.ensures.items
    ∙ one_less old.bytes.items last es lie
    ∙ sym (ap (λ (l : List Entry). take (length (map (kept_by old.bytes.items) l) - 1) (map (kept_by old.bytes.items) l)) c.in-Some.ensures.items)
