use Rattle.std.proofs.Common.{[], ◌∷◌, ◌++◌, ◌+◌, ◌∙◌, refl, sym, ap, arith}
use Rattle.csv.specs.Records.{fields_of}
use Rattle.reg_loader.specs.declared.tables.TableRow.{TableRow}
use Rattle.reg_loader.proofs.Takings.{bad_width, row_taken}
use Rattle.reg_loader.proofs.reading.Reading.take_row.Goals as goal

pub returns-then-len-header-clause-refused : goal.returns-then-len-header-clause-refused
returns-then-len-header-clause-refused c =
    λ all more at. bad_width c.args.self.now.list all (fields_of c.args.fields.now) more c.args.self.now c.args.header c.requires.header (λ e. c.if-len-header.true (c.len.ensures ∙ e)) at

pub returns-then-self-clause-taken : goal.returns-then-self-clause-taken
returns-then-self-clause-taken c =
    λ all at. row_taken c.args.self.now.list all (fields_of c.args.fields.now) c.args.self.now (record (c.args.self.now) { count = c.args.self.now.count + 1 })
    c.args.header c.requires.header refl (sym c.len.ensures ∙ c.if-len-header.false) c.requires.text refl (λ few. absurd (omega arith)) (λ many. refl) at

pub returns-clause-taken : goal.returns-clause-taken
returns-clause-taken c =
    λ all at. row_taken c.args.self.now.list all (fields_of c.args.fields.now) c.args.self.now (record (c.args.self.now) { count = c.args.self.now.count + 1; table = c.push.new.self })
    c.args.header c.requires.header refl (sym c.len.ensures ∙ c.if-len-header.false) c.requires.text refl
    (λ few. c.in_ok-push.ensures.ok ∙ ap (λ (row : TableRow). c.args.self.now.table ++ row ∷ []) c.in_ok-row.ensures) (λ many. absurd (omega arith)) at
