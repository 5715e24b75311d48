use Rattle.std.proofs.Common.{[], sym, ◌∙◌, arith}
use Rattle.std.specs.Str.{str_eq_ignore_ascii_case}
use Rattle.std.proofs.lemmas.List.{take_all}
use Rattle.csv.specs.Records.{fields_of}
use Rattle.reg_loader.proofs.Finding.{found_at, not_at}
use Rattle.reg_loader.proofs.columns.column.Goals as goal

pub loop-place-preserved : goal.loop-place-preserved
loop-place-preserved c =
    not_at (λ field. str_eq_ignore_ascii_case field c.args.name.now) (fields_of c.args.header.now) c.loop-place.place [] (omega arith) c.loop-place.invariant (sym c.is_named.ensures ∙ c.if-is_named.false)

pub returns-then-is_named : goal.returns-then-is_named
returns-then-is_named c =
    sym (found_at (λ field. str_eq_ignore_ascii_case field c.args.name.now) (fields_of c.args.header.now) c.loop-place.place [] (omega arith) c.loop-place.invariant (sym c.is_named.ensures ∙ c.if-is_named.true))

pub returns : goal.returns
returns c =
    let whole = take_all c.loop-place.place (fields_of c.args.header.now) (omega arith) in
    sym (rw whole at c.loop-place.invariant)
