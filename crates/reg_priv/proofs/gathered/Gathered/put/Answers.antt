use Rattle.std.proofs.Common.{◌≡◌, ◌∙◌, ap, rules, List}
use Rattle.std.specs.BTreeMap.{insert_entry}
use Rattle.std.specs.BTreeSet.{insert_key}
use Rattle.std.specs.Map.{values_of}
use Rattle.reg_priv.specs.Grants.{Grant}
use Rattle.reg_priv.specs.Holders.{grant_cmp, place_cmp, place_of}
use Rattle.reg_priv.proofs.Placed.{put_values, put_in_place}
use Rattle.reg_priv.proofs.gathered.Gathered.put.Goals as goal

pub invariant_of-self-2 : goal.invariant_of-self-2
invariant_of-self-2 c =
    let g : Grant = (c.args.privilege, c.args.holder.now) in
    let e : c.insert.new.self.entries ≡ insert_entry place_cmp c.self.inside.grants.entries (place_of g) g = search rules in
    rw e (put_in_place c.self.inside.grants.entries g c.self.invariant)

pub returns : goal.returns
returns c =
    let g : Grant = (c.args.privilege, c.args.holder.now) in
    let e : c.insert.new.self.entries ≡ insert_entry place_cmp c.self.inside.grants.entries (place_of g) g = search rules in
    ap values_of e ∙ (put_values c.self.inside.grants.entries g c.self.invariant ∙ ap (λ (gs : List Grant). insert_key grant_cmp gs g) c.self.view_is)
